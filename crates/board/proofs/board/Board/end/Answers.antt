use Rattle.std.proofs.Common.{rules}
use Rattle.rules.specs.Calls.Call.{ends}
use Rattle.rules.proofs.Joined.{keeps}
use Rattle.board.proofs.board.Board.end.Goals as goal

pub returns-clause-keeps : goal.returns-clause-keeps
returns-clause-keeps g c = keeps _ (ends _) _ _ _ (search rules) (search rules)
