-- Zero data shifts a register with room above it, so that a byte's step is a shift and two table entries.
use Rattle.std.proofs.Common.{◌≡◌, ℕ, zero, suc, ◌+◌, ◌*◌, ◌/◌, ◌%◌, ◌^◌, ◌<◌, sym, ap, ◌∙◌, subst, ap₂, mod-lt, mul_assoc, mul_comm, suc-add, mul-le-mul_left, pow-suc, zero-add, arith, pow_pos}
use lib.Arith.{lt-one}
use lib.Pow.{split}
use lib.Bits.{bit_xor, xor_comm, xor_zero_r, xor_shifted}
use Rattle.crc.specs.Crc.{crc_bit, crc_bits, crc_byte}
use Rattle.crc.proofs.Linear.{byte_xor}

-- past the bits of b the data is zero
pub bits_then_zeros : (j m r b : ℕ) → b < 2 ^ j → crc_bits (j + m) r b ≡ crc_bits m (crc_bits j r b) 0
unfolding crc_bits
bits_then_zeros zero m r b h = ap₂ (λ (n c : ℕ). crc_bits n r c) (zero-add m) (lt-one h)
bits_then_zeros (suc j) m r b h =
    ap (λ (n : ℕ). crc_bits n r b) (suc-add j m)
    ∙ bits_then_zeros j m (crc_bit r (b % 2)) (b / 2) (omega (arith, h, pow-suc 2 j))

pub byte_then_zeros : (n r b : ℕ) → b < 256 → crc_bits (8 * n) (crc_byte r b) 0 ≡ crc_bits (8 * suc n) r b
unfolding crc_byte
byte_then_zeros n r b h = sym (bits_then_zeros 8 (8 * n) r b h) ∙ ap (λ (m : ℕ). crc_bits m r b) (omega arith)

bit_shift : (r : ℕ) → r < 2 ^ 31 → crc_bit r 0 ≡ r * 2
bit_shift r h =
    let top : r / 2 ^ 31 ≡ 0 = omega arith in
    let kept : r * 2 % 2 ^ 32 ≡ r * 2 = omega arith in
    rw top kept

bits_shift : (k r : ℕ) → r * 2 ^ k < 2 ^ 32 → crc_bits k r 0 ≡ r * 2 ^ k
unfolding crc_bits
bits_shift zero r h = omega arith
bits_shift (suc k) r h =
    ap (λ (n : ℕ). crc_bits k n 0) (bit_shift r room)
    ∙ bits_shift k (r * 2) (subst (λ (n : ℕ). n < 2 ^ 32) once h)
    ∙ sym once
  where
    once : r * 2 ^ suc k ≡ r * 2 * 2 ^ k
    once = ap (λ (n : ℕ). r * n) (pow-suc 2 k ∙ mul_comm (2 ^ k) 2) ∙ sym (mul_assoc r 2 (2 ^ k))

    room : r < 2 ^ 31
    room = omega (arith, h, once, mul-le-mul_left (r * 2) (pow_pos k))

pub byte_by_tables : (r b : ℕ) → r < 2 ^ 32
    → bit_xor (bit_xor (r * 2 ^ 8 % 2 ^ 32) (crc_byte (r / 2 ^ 24 * 2 ^ 24) 0)) (crc_byte 0 b) ≡ crc_byte r b
unfolding crc_byte
byte_by_tables r b h =
    ap (λ (n : ℕ). bit_xor n (crc_byte 0 b))
    (xor_comm (r * 2 ^ 8 % 2 ^ 32) (crc_byte high 0)
    ∙ ap (bit_xor (crc_byte high 0)) (shifted ∙ sym (bits_shift 8 low (omega arith)))
    ∙ sym (byte_xor high low 0 (omega arith) (omega arith))
    ∙ ap (λ (n : ℕ). crc_byte n 0) whole)
    ∙ sym (byte_xor r 0 b h (omega arith))
    ∙ ap (λ (n : ℕ). crc_byte n b) (xor_zero_r r)
  where
    high : ℕ
    high = r / 2 ^ 24 * 2 ^ 24

    low : ℕ
    low = r % 2 ^ 24

    shifted : r * 2 ^ 8 % 2 ^ 32 ≡ r % 2 ^ 24 * 2 ^ 8
    shifted = omega arith

    whole : bit_xor (r / 2 ^ 24 * 2 ^ 24) (r % 2 ^ 24) ≡ r
    whole = xor_shifted (r / 2 ^ 24) 24 (r % 2 ^ 24) (mod-lt r (pow_pos 24)) ∙ split r 24

-- the same, by the register's highest byte as the code has it
pub byte_by_highest : (r b : ℕ) → r < 2 ^ 32
    → bit_xor (bit_xor (r * 2 ^ 8 % 2 ^ 32) (crc_byte (r / 2 ^ 24 % 2 ^ 8 * 2 ^ 24) 0)) (crc_byte 0 b) ≡ crc_byte r b
byte_by_highest r b h =
    let highest : r / 2 ^ 24 % 2 ^ 8 ≡ r / 2 ^ 24 = omega arith in
    rw highest (byte_by_tables r b h)
