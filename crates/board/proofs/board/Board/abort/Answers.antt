use Rattle.std.proofs.Common.{rules}
use Rattle.rules.specs.Calls.Call.{aborts}
use Rattle.rules.proofs.Joined.{keeps}
use Rattle.board.proofs.board.Board.abort.Goals as goal

pub returns-clause-keeps : goal.returns-clause-keeps
returns-clause-keeps g c = keeps _ (aborts _) _ _ _ (search rules) (search rules)
