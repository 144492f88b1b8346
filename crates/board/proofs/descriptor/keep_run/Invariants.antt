use Rattle.std.proofs.Common.{◌≡◌, true}
use Rattle.rules.specs.Table.{keep_run}
use Rattle.board.specs.Rounds.{numbers_left}
use Rattle.board.proofs.Rounds.{keep_each}
use Rattle.board.proofs.descriptor.keep_run.Given as goal

abbrev pub invariant-loop-i : goal.invariant-loop-i
invariant-loop-i g l =
    keep_each l.run.setup l.filled l.status l.run.left (g.M.Memory.bytes l.m) l.i-iterator.count (numbers_left l.i-iterator.iter)
    ≡ keep_run l.run.setup (g.M.Memory.bytes l.initial.m) l.run.at l.filled l.status true l.run.left
