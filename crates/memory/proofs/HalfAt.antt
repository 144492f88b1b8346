-- The halves of words: how many there are, reading one, setting one, and those from a word on.
use Rattle.std.proofs.Common.{◌≡◌, ℕ, zero, suc, ◌+◌, ◌*◌, ◌/◌, ◌%◌, ◌<◌, List, [], ◌∷◌, length, get_or, drop, set, refl, ap, arith}
use lib.Seq.{drop-nil}
use Rattle.std.proofs.lemmas.List.{drop_more}
use Rattle.memory.specs.Halves.{halves}

pub length_halves : (ws : List ℕ) → length (halves ws) ≡ 2 * length ws
length_halves [] = refl
length_halves (w ∷ ws) = omega (arith, length_halves ws)

-- Two halves make a word.
word_after : (a : ℕ) → suc (suc a) / 2 ≡ suc (a / 2)
word_after a = omega arith

twice_suc : (i : ℕ) → 2 * suc i ≡ suc (suc (2 * i))
twice_suc i = omega arith

pub get_or_even : (ws : List ℕ) (a : ℕ) → a % 2 ≡ 0 → get_or (halves ws) a 0 ≡ get_or ws (a / 2) 0 % 256
get_or_even [] a e = refl
get_or_even (w ∷ ws) zero e = refl
get_or_even (w ∷ ws) (suc zero) e = absurd (omega arith)
get_or_even (w ∷ ws) (suc (suc a)) e = rw (word_after a) (get_or_even ws a (omega arith))

pub get_or_odd : (ws : List ℕ) (a : ℕ) → (a % 2 ≡ 0 → ⊥) → get_or (halves ws) a 0 ≡ get_or ws (a / 2) 0 / 256
get_or_odd [] a o = refl
get_or_odd (w ∷ ws) zero o = absurd (o refl)
get_or_odd (w ∷ ws) (suc zero) o = refl
get_or_odd (w ∷ ws) (suc (suc a)) o = rw (word_after a) (get_or_odd ws a (λ e. o (omega arith)))

-- A word with another low byte, and one with another high byte.
pub set_low : (ws : List ℕ) (i x : ℕ) → x / 256 ≡ get_or ws i 0 / 256 → halves (set ws i x) ≡ set (halves ws) (2 * i) (x % 256)
set_low [] i x h = refl
set_low (w ∷ ws) zero x h = rw h
set_low (w ∷ ws) (suc i) x h = rw (twice_suc i) (ap (λ t. w % 256 ∷ w / 256 ∷ t) (set_low ws i x h))

pub set_high : (ws : List ℕ) (i x : ℕ) → x % 256 ≡ get_or ws i 0 % 256 → halves (set ws i x) ≡ set (halves ws) (suc (2 * i)) (x / 256)
set_high [] i x h = refl
set_high (w ∷ ws) zero x h = rw h
set_high (w ∷ ws) (suc i) x h = rw (twice_suc i) (ap (λ t. w % 256 ∷ w / 256 ∷ t) (set_high ws i x h))

pub halves_drop : (ws : List ℕ) (n : ℕ) → halves (drop n ws) ≡ drop (2 * n) (halves ws)
halves_drop ws zero = refl
halves_drop [] (suc n) = simp drop-nil
halves_drop (w ∷ ws) (suc n) = rw (twice_suc n) (halves_drop ws n)

-- From an odd place on: the high byte of a word, and then the words after it.
pub drop_odd : (ws : List ℕ) (a : ℕ) → (a % 2 ≡ 0 → ⊥) → a < 2 * length ws
    → drop a (halves ws) ≡ get_or ws (a / 2) 0 / 256 ∷ halves (drop (a / 2 + 1) ws)
drop_odd ws a o h =
    let next : 2 * (a / 2 + 1) ≡ a + 1 = omega arith in
    let split = drop_more (halves ws) a 0 (omega (arith, length_halves ws)) in
    rw (split, get_or_odd ws a o, halves_drop ws (a / 2 + 1), next) refl
