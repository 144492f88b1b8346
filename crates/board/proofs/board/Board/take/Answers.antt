use Rattle.std.proofs.Common.{rules}
use Rattle.rules.specs.Calls.Call.{takes}
use Rattle.rules.proofs.Fronts.{took_is}
use Rattle.rules.proofs.Joined.{keeps, reads_back}
use Rattle.board.specs.Shown.{shown}
use Rattle.board.proofs.board.Board.take.Goals as goal

pub returns-clause-keeps : goal.returns-clause-keeps
returns-clause-keeps g c =
    keeps _ (takes _) _ _ _ (search rules)
    (took_is (shown g.M.Memory.bytes c.args.self.now) c.args.out.now c.take.new.out c.take.result (search rules) (search rules))

pub returns-clause-reads_back : goal.returns-clause-reads_back
returns-clause-reads_back g c =
    reads_back _ (shown g.M.Memory.bytes c.args.self.now) c.args.out.now c.take.new.out c.take.result (search rules) (search rules)
