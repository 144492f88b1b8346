-- A bit of a byte.
--   bit    whether the bit at a place is set, 0 the lowest
use Rattle.std.specs.Prelude.{ℕ, ◌/◌, ◌%◌, ◌^◌, Bool, ◌==◌}

abbrev pub bit : ℕ → ℕ → Bool
bit b i = b / 2 ^ i % 2 == 1
