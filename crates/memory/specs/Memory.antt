-- What the calls of a board memory answer. A memory means the list of its bytes.
--   inside         whether an address is below the size
--   read_answer    what reading an address answers
--   write_answer   what writing an address answers
--   spans          whether n bytes from an address on all lie below the size
--   slice_answer   what reading n bytes from an address on answers
--   slice_copied   what a slice holds once the bytes from an address on were read into it
use Rattle.std.specs.Prelude.{ℕ, ◌+◌, Bool, List, length, take, drop, Ok, Err, Result, nat_le, nat_lt, slice_index, if◌then◌else◌}
use Rattle.refusal.specs.declared.Refusal.{Refusal}
use Rattle.refusal.specs.declared.Refusal.TheVariants.{Outside}
use Rattle.memory.specs.declared.address.Address.{Address}

abbrev pub inside : List ℕ → Address → Bool
inside bytes a = nat_lt a.0 (length bytes)

abbrev pub read_answer : List ℕ → Address → Result ℕ Refusal
read_answer bytes a = if inside bytes a then Ok (slice_index bytes a.0) else Err (Outside a.0)

abbrev pub write_answer : List ℕ → Address → Result (Unit {0}) Refusal
write_answer bytes a = if inside bytes a then Ok tt else Err (Outside a.0)

abbrev pub spans : List ℕ → Address → ℕ → Bool
spans bytes a n = nat_le (a.0 + n) (length bytes)

abbrev pub slice_answer : List ℕ → Address → ℕ → Result (Unit {0}) Refusal
slice_answer bytes a n = if spans bytes a n then Ok tt else Err (Outside a.0)

abbrev pub slice_copied : List ℕ → Address → List ℕ → List ℕ
slice_copied bytes a out = if spans bytes a (length out) then take (length out) (drop a.0 bytes) else out
