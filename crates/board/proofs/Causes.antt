-- The lowest bit that is set in two bytes is the lowest of their conjunction.
use Rattle.std.proofs.Common.{◌≡◌, ℕ, zero, suc, ◌+◌, ◌*◌, ◌/◌, ◌%◌, ◌^◌, ◌<◌, min, cond, ◌&&◌, eqb, Some, None, Option, sym, refl, ap, ◌∙◌, subst, ⊎_elim, add-zero, pow-suc, div-one, arith}
use lib.Bits.{bit_and, and_step, and_shr, and_le_l}
use lib.Count.{count_trailing_zeros, under}
use Rattle.std.proofs.lemmas.Nat.{shr-shr}
use Rattle.std.proofs.lemmas.Bool.{cases_eq, cond-true, cond-false, eq-eqb, ne_eqb}
use Rattle.std.proofs.lemmas.Bool.Decides.{nat_tests}
use Rattle.rules.specs.Bits.{has}
use Rattle.rules.specs.Registers.{lowest_from, lowest_both}

-- a bit of the conjunction
has_is : (i n : ℕ) → has i n ≡ eqb (n / 2 ^ i % 2) 1
has_is zero n = ap (λ (x : ℕ). eqb (x % 2) 1) (sym (div-one n))
has_is (suc i) n = refl

odd_both : (a b : ℕ) → eqb (bit_and a b % 2) 1 ≡ (eqb (a % 2) 1 && eqb (b % 2) 1)
odd_both a b =
    let e : bit_and a b % 2 ≡ min (a % 2) (b % 2) = omega (arith, and_step a b) in
    grind (arith, nat_tests)

pub has_both : (i a b : ℕ) → has i (bit_and a b) ≡ (has i a && has i b)
has_both i a b =
    has_is i (bit_and a b) ∙ ap (λ (x : ℕ). eqb (x % 2) 1) (and_shr a b i) ∙ odd_both (a / 2 ^ i) (b / 2 ^ i)
    ∙ (λ j. sym (has_is i a) j && sym (has_is i b) j)

-- the lowest bit of one number, of the k bits from i on
abbrev lowest_in : ℕ → ℕ → ℕ → Option ℕ
lowest_in n i zero = None
lowest_in n i (suc k) = cond (has i n) (Some i) (lowest_in n (i + 1) k)

lowest_from_is : (a b i k : ℕ) → lowest_from a b i k ≡ lowest_in (bit_and a b) i k
lowest_from_is a b i zero = refl
lowest_from_is a b i (suc k) = (λ j. cond (sym (has_both i a b) j) (Some i) (lowest_from_is a b (i + 1) k j))

lowest_in_is : (n i k q : ℕ) → n / 2 ^ i ≡ q → q < 2 ^ k → lowest_in n i k ≡ cond (eqb q 0) None (Some (i + count_trailing_zeros k q))
unfolding count_trailing_zeros
lowest_in_is n i zero q e l = sym (cond-true (eqb q 0) None (Some (i + count_trailing_zeros 0 q)) (eq-eqb q 0 (omega arith)))
lowest_in_is n i (suc k) q e l =
    let p : 2 ^ suc k ≡ 2 ^ k * 2 = pow-suc 2 k in
    let half : n / 2 ^ (i + 1) ≡ q / 2 = sym (shr-shr n i 1) ∙ ap (λ (x : ℕ). x / 2) e in
    let bit : has i n ≡ eqb (q % 2) 1 = has_is i n ∙ ap (λ (x : ℕ). eqb (x % 2) 1) e in
    ⊎_elim
    (λ even.
    let z : eqb (q / 2) 0 ≡ eqb q 0 = grind (arith, nat_tests) in
    let t : i + 1 + count_trailing_zeros k (q / 2) ≡ i + under (q % 2) (count_trailing_zeros k (q / 2)) =
    subst (λ (x : ℕ). i + 1 + count_trailing_zeros k (q / 2) ≡ i + under x (count_trailing_zeros k (q / 2))) (sym even) (omega arith) in
    cond-false (has i n) _ _ (bit ∙ ne_eqb (q % 2) 1 (λ odd. omega arith))
    ∙ lowest_in_is n (i + 1) k (q / 2) half (omega arith) ∙ (λ j. cond (z j) None (Some (t j))))
    (λ odd.
    let o : 1 ≡ q % 2 = omega arith in
    let t : i ≡ i + under (q % 2) (count_trailing_zeros k (q / 2)) =
    subst (λ (x : ℕ). i ≡ i + under x (count_trailing_zeros k (q / 2))) o (sym (add-zero i)) in
    cond-true (has i n) _ _ (bit ∙ eq-eqb (q % 2) 1 (sym o)) ∙ ap Some t
    ∙ sym (cond-false (eqb q 0) None (Some (i + under (q % 2) (count_trailing_zeros k (q / 2)))) (ne_eqb q 0 (λ none. omega arith))))
    (cases_eq (q % 2) 0)

pub lowest_both_is : (a b : ℕ) → a < 256 → lowest_both a b ≡ cond (eqb (bit_and a b) 0) None (Some (count_trailing_zeros 8 (bit_and a b)))
lowest_both_is a b h =
    let n = bit_and a b in
    let z : 0 + count_trailing_zeros 8 n ≡ count_trailing_zeros 8 n = omega arith in
    lowest_from_is a b 0 8 ∙ lowest_in_is n 0 8 n (div-one n) (omega (arith, and_le_l a b)) ∙ ap (λ (x : ℕ). cond (eqb n 0) None (Some x)) z

pub lowest_both_none : (a b : ℕ) → a < 256 → bit_and a b ≡ 0 → lowest_both a b ≡ None
lowest_both_none a b h e = lowest_both_is a b h ∙ cond-true (eqb (bit_and a b) 0) _ _ (eq-eqb (bit_and a b) 0 e)

pub lowest_both_some : (a b : ℕ) → a < 256 → (bit_and a b ≡ 0 → ⊥) → lowest_both a b ≡ Some (count_trailing_zeros 8 (bit_and a b))
lowest_both_some a b h e = lowest_both_is a b h ∙ cond-false (eqb (bit_and a b) 0) _ _ (ne_eqb (bit_and a b) 0 e)
