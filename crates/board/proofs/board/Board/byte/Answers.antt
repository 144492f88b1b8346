use Rattle.std.proofs.Common.{rules}
use Rattle.rules.specs.Calls.Call.{byte_comes}
use Rattle.rules.proofs.Joined.{keeps}
use Rattle.board.proofs.board.Board.byte.Goals as goal

pub returns-clause-keeps : goal.returns-clause-keeps
returns-clause-keeps g c = keeps _ (byte_comes _) _ _ _ (search rules) (search rules)
