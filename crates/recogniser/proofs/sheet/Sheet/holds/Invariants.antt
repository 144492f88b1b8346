use Rattle.std.proofs.Common.{◌≡◌, ◌≤◌, false, take}
use Rattle.recogniser.specs.Sheet.{among}
use Rattle.recogniser.proofs.sheet.Sheet.holds.Given as goal

abbrev pub invariant-loop-i : goal.invariant-loop-i
invariant-loop-i l = (l.i ≤ l.self.count) × (among l.address (take l.i l.self.entries.now) ≡ false)
