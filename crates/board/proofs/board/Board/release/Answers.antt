use Rattle.std.proofs.Common.{rules}
use Rattle.rules.specs.Calls.Call.{releases}
use Rattle.rules.proofs.Joined.{keeps}
use Rattle.board.proofs.board.Board.release.Goals as goal

pub returns-clause-keeps : goal.returns-clause-keeps
returns-clause-keeps g c = keeps _ (releases _) _ _ _ (search rules) (search rules)
