use Rattle.std.proofs.Common.{◌≡◌, ◌+◌}
use Rattle.rules.specs.Table.{span}
use Rattle.rules.specs.Host.{overlay}
use Rattle.board.proofs.copying.copy_each.Given as goal

abbrev pub invariant-loop-to : goal.invariant-loop-to
invariant-loop-to g l =
    (overlay l.out l.to-iterator.iter.a.start (span (g.M.Memory.bytes l.m) l.to-iterator.iter.b.start l.to-iterator.n)
    ≡ overlay l.initial.out l.at (span (g.M.Memory.bytes l.m) l.e.start l.e.fill))
    × (l.to-iterator.iter.a.start + l.to-iterator.n ≡ l.at + l.e.fill)
    × (l.to-iterator.iter.b.start + l.to-iterator.n ≡ l.e.start + l.e.fill)
