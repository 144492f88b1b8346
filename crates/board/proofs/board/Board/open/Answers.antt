use Rattle.std.proofs.Common.{Ok, rules}
use Rattle.rules.proofs.Joined.{opened}
use Rattle.board.specs.Shown.{shown}
use Rattle.board.proofs.board.Board.open.Goals as goal

pub returns-clause-starts : goal.returns-clause-starts
returns-clause-starts g c = opened _ _ _ (shown g.M.Memory.bytes c.args.self.now) _ (Ok tt) (search rules) (search rules)
