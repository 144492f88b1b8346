use Rattle.std.proofs.Common.{◌≡◌, take}
use Rattle.rules.specs.Arrivals.{store_all}
use Rattle.board.specs.Shown.{seen}
use Rattle.board.proofs.chip.Chip.store_all.Given as goal

abbrev pub invariant-loop-value : goal.invariant-loop-value
invariant-loop-value g l =
    seen g.M.Memory.bytes l.self
    ≡ store_all l.g (seen g.M.Memory.bytes l.initial.self) (take l.value-index l.bytes)
