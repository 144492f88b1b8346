use Rattle.std.proofs.Common.{◌≡◌, ℕ, ◌*◌, ◌<◌, get_or}
use Rattle.memory.specs.Halves.{halves}
use Rattle.memory.proofs.memory.copy_words.Given as goal

abbrev pub invariant-loop-i : goal.invariant-loop-i
invariant-loop-i l = (k : ℕ) → k < 2 * l.i → get_or l.out k 0 ≡ get_or (halves l.words) k 0
