-- Loops over the descriptors of a run, by the list of their numbers.
--   length_numbers     a run has as many numbers as it says
--   _is                over a run's numbers a fold, or the judgement, gives what the rules define
use Rattle.std.proofs.Common.{◌≡◌, ℕ, zero, suc, ◌+◌, Bool, true, false, cond, eqb, List, [], ◌∷◌, ◌++◌, length, Ok, Err, Result, sym, refl, ap, ◌∙◌, arith}
use Rattle.std.proofs.lemmas.Bool.{cond-false, ne_eqb}
use Rattle.std.proofs.lemmas.Bool.Decides.{nat_tests}
use Rattle.std.specs.List.{fold}
use Rattle.rules.specs.declared.state.Setup.{Setup}
use Rattle.rules.specs.declared.state.Run.{Run}
use Rattle.rules.specs.declared.state.Break.{Break}
use Rattle.rules.specs.declared.state.Break.TheVariants.{Unlawful, Misplaced, Endless}
use Rattle.rules.specs.Table.{next, onward, descriptor, last, lawful, in_place, run_on, write, span, frame_bytes, keep_one, keep_run, take_one, take_run, clear_run}
use Rattle.board.specs.Rounds.{numbers}

pub length_numbers : (g : Setup) (d k : ℕ) → length (numbers g d k) ≡ k
length_numbers g d zero = refl
length_numbers g d (suc k) = ap suc (length_numbers g (next g d) k)

-- release
abbrev pub clear_one : Setup → List ℕ → ℕ → List ℕ
clear_one g m d = write g m d 0 0 0

pub clear_is : (g : Setup) (m : List ℕ) (d k : ℕ) → fold (clear_one g) m (numbers g d k) ≡ clear_run g m d k
clear_is g m d zero = refl
clear_is g m d (suc k) = clear_is g (write g m d 0 0 0) (next g d) k

-- take
pub take_is : (g : Setup) (m : List ℕ) (d k : ℕ) → fold (take_one g) m (numbers g d k) ≡ take_run g m d k
take_is g m d zero = refl
take_is g m d (suc k) = take_is g (take_one g m d) (next g d) k

-- the descriptor after the latest
abbrev pub after : Setup → ℕ → ℕ → ℕ
after g latest d = next g d

pub onward_is : (g : Setup) (d k : ℕ) → fold (after g) d (numbers g d k) ≡ onward g d k
onward_is g d zero = refl
onward_is g d (suc k) = onward_is g (next g d) k

-- the bytes of the descriptors of a list
abbrev pub bytes_of : Setup → List ℕ → List ℕ → List ℕ
bytes_of g m [] = []
bytes_of g m (d ∷ ds) = span m (descriptor g m d).start (descriptor g m d).fill ++ bytes_of g m ds

pub bytes_is : (g : Setup) (m : List ℕ) (d k : ℕ) → bytes_of g m (numbers g d k) ≡ frame_bytes g m d k
unfolding frame_bytes
bytes_is g m d zero = refl
bytes_is g m d (suc k) = ap (λ (xs : List ℕ). span m (descriptor g m d).start (descriptor g m d).fill ++ xs) (bytes_is g m (next g d) k)

-- the judgement of the descriptors of a list: i of len bytes stand before them, latest last
abbrev pub judge : Setup → List ℕ → Bool → ℕ → ℕ → ℕ → List ℕ → Result Run Break
judge g m tk i len latest [] = Err (Endless latest)
judge g m tk i len latest (d ∷ ds) =
    cond (lawful g (descriptor g m d))
    (cond (in_place tk (eqb i 0) (descriptor g m d))
    (cond (last (descriptor g m d))
    (Ok (record { count = i + 1; length = len + (descriptor g m d).fill; status = (descriptor g m d).status }))
    (judge g m tk (i + 1) (len + (descriptor g m d).fill) d ds))
    (Err (Misplaced d)))
    (Err (Unlawful d))

judge_on : (g : Setup) (m : List ℕ) (tk : Bool) (i len latest d k : ℕ) →
    judge g m tk i len latest (numbers g d k) ≡ cond (eqb k 0) (Err (Endless latest)) (run_on g m tk i len d k)
unfolding run_on
judge_on g m tk i len latest d zero = refl
judge_on g m tk i len latest d (suc k) =
    ap (λ (x : Result Run Break). cond (lawful g (descriptor g m d))
    (cond (in_place tk (eqb i 0) (descriptor g m d))
    (cond (last (descriptor g m d))
    (Ok (record { count = i + 1; length = len + (descriptor g m d).fill; status = (descriptor g m d).status })) x)
    (Err (Misplaced d)))
    (Err (Unlawful d))) (judge_on g m tk (i + 1) (len + (descriptor g m d).fill) d (next g d) k)
    ∙ sym (cond-false (eqb (suc k) 0) (Err (Endless latest)) _ (ne_eqb (suc k) 0 (λ e. absurd (omega (arith, e)))))

pub judge_is : (g : Setup) (m : List ℕ) (tk : Bool) (d k : ℕ) → judge g m tk 0 0 d (numbers g d k) ≡ run_on g m tk 0 0 d k
unfolding run_on
judge_is g m tk d zero = refl
judge_is g m tk d (suc k) =
    judge_on g m tk 0 0 d d (suc k) ∙ cond-false (eqb (suc k) 0) (Err (Endless d)) _ (ne_eqb (suc k) 0 (λ e. absurd (omega (arith, e))))

-- keep: i of n descriptors stand before those of the list
abbrev pub keep_each : Setup → ℕ → ℕ → ℕ → List ℕ → ℕ → List ℕ → List ℕ
keep_each g filled status n m i [] = m
keep_each g filled status n m i (d ∷ ds) = keep_each g filled status n (keep_one g m d filled status (eqb i 0) (eqb (i + 1) n)) (i + 1) ds

keep_each_is : (g : Setup) (filled status n : ℕ) (m : List ℕ) (i d k : ℕ) → i + k ≡ n →
    keep_each g filled status n m i (numbers g d k) ≡ keep_run g m d filled status (eqb i 0) k
keep_each_is g filled status n m i d zero h = refl
keep_each_is g filled status n m i d (suc k) h =
    let start : eqb (i + 1) 0 ≡ false = grind (arith, nat_tests) in
    let end : eqb (i + 1) n ≡ eqb k 0 = grind (arith, nat_tests) in
    keep_each_is g filled status n (keep_one g m d filled status (eqb i 0) (eqb (i + 1) n)) (i + 1) (next g d) k (omega arith)
    ∙ (λ j. keep_run g (keep_one g m d filled status (eqb i 0) (end j)) (next g d) filled status (start j) k)

pub keep_is : (g : Setup) (filled status : ℕ) (m : List ℕ) (d n : ℕ) →
    keep_each g filled status n m 0 (numbers g d n) ≡ keep_run g m d filled status true n
keep_is g filled status m d n = keep_each_is g filled status n m 0 d n (omega arith)
