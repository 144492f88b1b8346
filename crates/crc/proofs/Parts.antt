-- Eight bytes at once: the XOR of what each byte of the register and each data byte makes alone.
use Rattle.std.proofs.Common.{◌≡◌, ℕ, suc, ◌+◌, ◌*◌, ◌/◌, ◌%◌, ◌^◌, ◌<◌, List, [], ◌∷◌, length, get_or, sym, refl, ap, ◌∙◌, ap₂, arith}
use lib.Bits.{bit_xor, xor_comm, xor_assoc, xor_zero_r, xor_shifted}
use Rattle.std.proofs.lemmas.List.{same_lists, places}
use Rattle.crc.specs.Crc.{crc_bits, crc_byte, crc_over}
use Rattle.crc.proofs.Linear.{bits_xor, crc_byte_lt}
use Rattle.crc.proofs.Shift.{byte_then_zeros}
use Rattle.crc.proofs.Over.{crc_over_xor}

pub register_and_data : (r : ℕ) (bs : List ℕ) → r < 2 ^ 32
    → crc_over r bs ≡ bit_xor (crc_bits (8 * length bs) r 0) (crc_over 0 bs)
register_and_data r bs h =
    ap (λ (n : ℕ). crc_over n bs) (sym (xor_zero_r r)) ∙ crc_over_xor r 0 bs h (omega arith)

abbrev pub Bytes : List ℕ → Type 0
Bytes [] = Unit {0}
Bytes (b ∷ bs) = (b < 256) × Bytes bs

-- the XOR of what each data byte makes of the register 0
abbrev pub data_xor : List ℕ → ℕ
data_xor [] = 0
data_xor (b ∷ bs) = bit_xor (crc_bits (8 * suc (length bs)) 0 b) (data_xor bs)

pub data_by_bytes : (bs : List ℕ) → Bytes bs → crc_over 0 bs ≡ data_xor bs
unfolding crc_over
data_by_bytes [] all = refl
data_by_bytes (b ∷ bs) all =
    register_and_data (crc_byte 0 b) bs (crc_byte_lt 0 b (omega arith))
    ∙ ap₂ bit_xor (byte_then_zeros (length bs) 0 b all.0) (data_by_bytes bs all.1)

abbrev pub eight_of : List ℕ → List ℕ
eight_of bs =
    get_or bs 0 0 ∷ get_or bs 1 0 ∷ get_or bs 2 0 ∷ get_or bs 3 0 ∷ get_or bs 4 0 ∷ get_or bs 5 0 ∷ get_or bs 6 0 ∷ get_or bs 7 0 ∷ []

eight_elements : (bs : List ℕ) → length bs ≡ 8 → bs ≡ eight_of bs
eight_elements bs e = same_lists bs _ e (λ k d h. grind (arith, places))

pub data_of_eight : (bs : List ℕ) → length bs ≡ 8 → Bytes (eight_of bs) → crc_over 0 bs ≡ data_xor (eight_of bs)
data_of_eight bs e all = ap (crc_over 0) (eight_elements bs e) ∙ data_by_bytes _ all

pub register_by_bytes : (k r : ℕ) → r < 2 ^ 32
    → crc_bits k r 0
    ≡ bit_xor (bit_xor (crc_bits k (r / 2 ^ 24 * 2 ^ 24) 0) (crc_bits k (r / 2 ^ 16 % 2 ^ 8 * 2 ^ 16) 0))
    (bit_xor (crc_bits k (r / 2 ^ 8 % 2 ^ 8 * 2 ^ 8) 0) (crc_bits k (r % 2 ^ 8 * 2 ^ 0) 0))
register_by_bytes k r h =
    ap (λ (n : ℕ). crc_bits k n 0) parts
    ∙ bits_xor k (bit_xor r₃ r₂) (bit_xor r₁ r₀) 0 0 (omega (arith, high)) (omega (arith, low))
    ∙ ap₂ bit_xor (bits_xor k r₃ r₂ 0 0 (omega arith) (omega arith)) (bits_xor k r₁ r₀ 0 0 (omega arith) (omega arith))
  where
    r₃ : ℕ
    r₃ = r / 2 ^ 24 * 2 ^ 24

    r₂ : ℕ
    r₂ = r / 2 ^ 16 % 2 ^ 8 * 2 ^ 16

    r₁ : ℕ
    r₁ = r / 2 ^ 8 % 2 ^ 8 * 2 ^ 8

    r₀ : ℕ
    r₀ = r % 2 ^ 8 * 2 ^ 0

    high : bit_xor r₃ r₂ ≡ r / 2 ^ 24 * 2 ^ 24 + r / 2 ^ 16 % 2 ^ 8 * 2 ^ 16
    high = xor_shifted (r / 2 ^ 24) 24 (r / 2 ^ 16 % 2 ^ 8 * 2 ^ 16) (omega arith)

    low : bit_xor r₁ r₀ ≡ r / 2 ^ 8 % 2 ^ 8 * 2 ^ 8 + r % 2 ^ 8 * 2 ^ 0
    low = xor_shifted (r / 2 ^ 8 % 2 ^ 8) 8 (r % 2 ^ 8 * 2 ^ 0) (omega arith)

    parts : r ≡ bit_xor (bit_xor r₃ r₂) (bit_xor r₁ r₀)
    parts =
        let halves : r ≡ r / 2 ^ 16 * 2 ^ 16 + bit_xor r₁ r₀ = omega (arith, low) in
        let upper : bit_xor r₃ r₂ ≡ r / 2 ^ 16 * 2 ^ 16 = omega (arith, high) in
        halves
        ∙ sym (xor_shifted (r / 2 ^ 16) 16 (bit_xor r₁ r₀) (omega (arith, low)))
        ∙ ap (λ (n : ℕ). bit_xor n (bit_xor r₁ r₀)) (sym upper)

-- the same, joined from the lowest byte on
pub register_from_lowest : (k r : ℕ) → r < 2 ^ 32
    → crc_bits k r 0
    ≡ bit_xor (bit_xor (bit_xor (crc_bits k (r % 2 ^ 8 * 2 ^ 0) 0) (crc_bits k (r / 2 ^ 8 % 2 ^ 8 * 2 ^ 8) 0))
    (crc_bits k (r / 2 ^ 16 % 2 ^ 8 * 2 ^ 16) 0))
    (crc_bits k (r / 2 ^ 24 % 2 ^ 8 * 2 ^ 24) 0)
register_from_lowest k r h =
    let highest : r / 2 ^ 24 % 2 ^ 8 ≡ r / 2 ^ 24 = omega arith in
    rw highest
    (register_by_bytes k r h
    ∙ turned (crc_bits k (r / 2 ^ 24 * 2 ^ 24) 0) (crc_bits k (r / 2 ^ 16 % 2 ^ 8 * 2 ^ 16) 0) (crc_bits k (r / 2 ^ 8 % 2 ^ 8 * 2 ^ 8) 0) (crc_bits k (r % 2 ^ 8 * 2 ^ 0) 0))
  where
    turned : (c₃ c₂ c₁ c₀ : ℕ) → bit_xor (bit_xor c₃ c₂) (bit_xor c₁ c₀) ≡ bit_xor (bit_xor (bit_xor c₀ c₁) c₂) c₃
    turned c₃ c₂ c₁ c₀ =
        xor_comm (bit_xor c₃ c₂) (bit_xor c₁ c₀)
        ∙ ap₂ bit_xor (xor_comm c₁ c₀) (xor_comm c₃ c₂)
        ∙ sym (xor_assoc (bit_xor c₀ c₁) c₂ c₃)
