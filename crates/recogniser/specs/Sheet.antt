-- A sheet's members, and what admit answers and leaves.
--   in_use          the entries in use
--   among           whether an address stands in a list
--   sheet_members   whether an address is a member
--   one_if          1 where a test holds, else 0
--   times           how often an address stands in a list
--   admit_answer    what admit answers
--   accepted        whether an answer is an acceptance
--   Admitted        what an accepted admit leaves: the place of the new entry among those in use is open
--   Unchanged       what a refused admit leaves
--   Admits          what admit leaves, by its answer
use Rattle.std.specs.Prelude.{◌≡◌, ℕ, ◌+◌, Bool, true, false, List, length, take, drop, Ok, Err, Result, nat_lt, if◌then◌else◌}
use Rattle.std.specs.List.{count_by, list_any}
use Rattle.std.specs.Str.{bytes_eq}
use Rattle.refusal.specs.declared.Refusal.{Refusal}
use Rattle.refusal.specs.declared.Refusal.TheVariants.{SheetFull, AlreadyMember}
use Rattle.recogniser.specs.declared.sheet.Sheet.{Sheet}

abbrev pub in_use : Sheet → List (List ℕ)
in_use s = take s.count s.entries.now

abbrev pub among : List ℕ → List (List ℕ) → Bool
among a es = list_any (bytes_eq a) es

abbrev pub sheet_members : Sheet → List ℕ → Bool
sheet_members s a = among a (in_use s)

abbrev pub one_if : Bool → ℕ
one_if b = if b then 1 else 0

abbrev pub times : List ℕ → List (List ℕ) → ℕ
times a es = count_by (bytes_eq a) es

abbrev pub admit_answer : Sheet → List ℕ → Result (Unit {0}) Refusal
admit_answer s a =
    if nat_lt s.count (length s.entries.now) then (if sheet_members s a then Err AlreadyMember else Ok tt)
    else Err SheetFull

abbrev pub accepted : Result (Unit {0}) Refusal → Bool
accepted (Ok u) = true
accepted (Err e) = false

pub record Admitted (before : Sheet) (a : List ℕ) (after : Sheet) : Type 0 where
  pub count : after.count ≡ before.count + 1
  pub places : length after.entries.now ≡ length before.entries.now
  pub once : (x : List ℕ) → times x (in_use after) ≡ times x (in_use before) + one_if (bytes_eq x a)
  pub beyond : drop after.count after.entries.now ≡ drop after.count before.entries.now

pub record Unchanged (before after : Sheet) : Type 0 where
  pub count : after.count ≡ before.count
  pub entries : after.entries.now ≡ before.entries.now

abbrev pub Admits : Result (Unit {0}) Refusal → Sheet → List ℕ → Sheet → Type 0
Admits (Ok u) before a after = Admitted before a after
Admits (Err e) before a after = Unchanged before after
