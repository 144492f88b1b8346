-- How often an address stands in a list decides whether it stands there: so the members after an admit follow from its clause
-- `after`, whatever the place of the new entry.
use Rattle.std.proofs.Common.{◌≡◌, ℕ, ◌+◌, Bool, true, false, ◌||◌, if◌then◌else◌, ltb, List, [], ◌∷◌, sym, refl, ap, ◌∙◌, add-zero, zero-add, arith}
use Rattle.std.proofs.lemmas.List.Sums.{sum_by-cons}
use Rattle.std.specs.Str.{bytes_eq}
use Rattle.std.proofs.lemmas.Bool.{lt-ltb, or_right}
use Rattle.recogniser.specs.Sheet.{among, one_if, times}

one_if_or : (s t : Bool) (n : ℕ) → t ≡ ltb 0 n → (s || t) ≡ ltb 0 (one_if s + n)
one_if_or true t n h = sym (lt-ltb 0 (1 + n) (omega arith))
one_if_or false t n h = h ∙ ap (ltb 0) (sym (zero-add n))

among_by_times : (x : List ℕ) (es : List (List ℕ)) → among x es ≡ ltb 0 (times x es)
among_by_times x [] = refl
among_by_times x (e ∷ es) =
    one_if_or (bytes_eq x e) (among x es) (times x es) (among_by_times x es)
    ∙ ap (ltb 0) (sym (sum_by-cons (λ a. if bytes_eq x a then 1 else 0) e es))

or_one_if : (s t : Bool) (n : ℕ) → t ≡ ltb 0 n → ltb 0 (n + one_if s) ≡ (t || s)
or_one_if true t n h = lt-ltb 0 (n + 1) (omega arith) ∙ sym (or_right t true refl)
or_one_if false true n h = ap (ltb 0) (add-zero n) ∙ sym h
or_one_if false false n h = ap (ltb 0) (add-zero n) ∙ sym h

pub among_from_times : (es fs : List (List ℕ)) (a : List ℕ)
    → ((x : List ℕ) → times x fs ≡ times x es + one_if (bytes_eq x a))
    → (x : List ℕ) → among x fs ≡ (among x es || bytes_eq x a)
among_from_times es fs a once x =
    among_by_times x fs
    ∙ ap (ltb 0) (once x)
    ∙ or_one_if (bytes_eq x a) (among x es) (times x es) (among_by_times x es)
