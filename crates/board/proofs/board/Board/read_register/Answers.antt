use Rattle.std.proofs.Common.{rules}
use Rattle.rules.specs.Calls.Call.{looks}
use Rattle.rules.specs.Calls.Look.{reads}
use Rattle.rules.proofs.Joined.{keeps}
use Rattle.board.proofs.board.Board.read_register.Goals as goal

pub returns-clause-keeps : goal.returns-clause-keeps
returns-clause-keeps g c = keeps _ (looks (reads _ _)) _ _ _ (search rules) (search rules)
