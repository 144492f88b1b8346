-- The register's steps are linear over XOR, and keep the register below 2 ^ 32.
use Rattle.std.proofs.Common.{◌≡◌, ℕ, zero, suc, ◌*◌, ◌/◌, ◌%◌, ◌^◌, ◌<◌, Bool, true, false, cond, eqb, sym, refl, ap, ◌∙◌, ap₂, add-zero, mod-lt, zero-lt-suc, arith, pow_pos}
use lib.Bits.{bit_xor, xor_assoc, xor_comm, xor_shr, xor_mod, xor_zero_r, xor_block, xor_lt}
use Rattle.crc.specs.Crc.{crc_bit, crc_bits, crc_byte}

xor_exchange : (a b c d : ℕ) → bit_xor (bit_xor a b) (bit_xor c d) ≡ bit_xor (bit_xor a c) (bit_xor b d)
xor_exchange a b c d =
    xor_assoc a b (bit_xor c d)
    ∙ ap (bit_xor a) (sym (xor_assoc b c d) ∙ ap (λ (x : ℕ). bit_xor x d) (xor_comm b c) ∙ xor_assoc c b d)
    ∙ sym (xor_assoc a c (bit_xor b d))

-- what is XORed in, by the XOR of the top bit and the data bit
abbrev feedback : ℕ → ℕ
feedback zero = 0
feedback (suc n) = 0x04C11DB7

feedback_xor : (x y : ℕ) → x < 2 → y < 2 → feedback (bit_xor x y) ≡ bit_xor (feedback x) (feedback y)
feedback_xor zero y hx hy = refl
feedback_xor (suc zero) zero hx hy = refl
feedback_xor (suc zero) (suc zero) hx hy = refl
feedback_xor (suc zero) (suc (suc y)) hx hy = absurd (omega arith)
feedback_xor (suc (suc x)) y hx hy = absurd (omega arith)

cond_feedback : (u t d : ℕ) → t < 2 → d < 2 → cond (eqb t d) u (bit_xor u 0x04C11DB7) ≡ bit_xor u (feedback (bit_xor t d))
cond_feedback u zero zero ht hd = sym (xor_zero_r u)
cond_feedback u zero (suc zero) ht hd = refl
cond_feedback u (suc zero) zero ht hd = refl
cond_feedback u (suc zero) (suc zero) ht hd = sym (xor_zero_r u)
cond_feedback u zero (suc (suc d)) ht hd = absurd (omega arith)
cond_feedback u (suc zero) (suc (suc d)) ht hd = absurd (omega arith)
cond_feedback u (suc (suc t)) d ht hd = absurd (omega arith)

shift_xor : (r s : ℕ) → bit_xor r s * 2 % 2 ^ 32 ≡ bit_xor (r * 2 % 2 ^ 32) (s * 2 % 2 ^ 32)
shift_xor r s =
    ap (λ (n : ℕ). n % 2 ^ 32)
    (sym (add-zero (bit_xor r s * 2))
    ∙ sym (xor_block 1 r s 0 0 (zero-lt-suc 1) (zero-lt-suc 1))
    ∙ ap₂ bit_xor (add-zero (r * 2)) (add-zero (s * 2)))
    ∙ xor_mod (r * 2) (s * 2) 32

crc_bit_xor : (r s d e : ℕ) → r < 2 ^ 32 → s < 2 ^ 32 → d < 2 → e < 2
    → crc_bit (bit_xor r s) (bit_xor d e) ≡ bit_xor (crc_bit r d) (crc_bit s e)
crc_bit_xor r s d e hr hs hd he =
    ap₂ (λ (u t : ℕ). cond (eqb t (bit_xor d e)) u (bit_xor u 0x04C11DB7)) (shift_xor r s) (xor_shr r s 31)
    ∙ cond_feedback (bit_xor r₁ s₁) (bit_xor t u) (bit_xor d e) (xor_lt 1 t u ht hu) (xor_lt 1 d e hd he)
    ∙ ap (bit_xor (bit_xor r₁ s₁))
    (ap feedback (xor_exchange t u d e)
    ∙ feedback_xor (bit_xor t d) (bit_xor u e) (xor_lt 1 t d ht hd) (xor_lt 1 u e hu he))
    ∙ xor_exchange r₁ s₁ (feedback (bit_xor t d)) (feedback (bit_xor u e))
    ∙ sym (ap₂ bit_xor (cond_feedback r₁ t d ht hd) (cond_feedback s₁ u e hu he))
  where
    r₁ : ℕ
    r₁ = r * 2 % 2 ^ 32

    s₁ : ℕ
    s₁ = s * 2 % 2 ^ 32

    t : ℕ
    t = r / 2 ^ 31

    u : ℕ
    u = s / 2 ^ 31

    ht : r / 2 ^ 31 < 2
    ht = omega arith

    hu : s / 2 ^ 31 < 2
    hu = omega arith

bit_lt : (r d : ℕ) → crc_bit r d < 2 ^ 32
bit_lt r d = by (eqb (r / 2 ^ 31) d)
  where
    shifted_lt : r * 2 % 2 ^ 32 < 2 ^ 32
    shifted_lt = mod-lt (r * 2) (pow_pos 32)

    by : (b : Bool) → cond b (r * 2 % 2 ^ 32) (bit_xor (r * 2 % 2 ^ 32) 0x04C11DB7) < 2 ^ 32
    by true = shifted_lt
    by false = xor_lt 32 (r * 2 % 2 ^ 32) 0x04C11DB7 shifted_lt (omega arith)

bits_lt : (k r b : ℕ) → r < 2 ^ 32 → crc_bits k r b < 2 ^ 32
unfolding crc_bits
bits_lt zero r b h = h
bits_lt (suc k) r b h = bits_lt k (crc_bit r (b % 2)) (b / 2) (bit_lt r (b % 2))

pub crc_byte_lt : (r b : ℕ) → r < 2 ^ 32 → crc_byte r b < 2 ^ 32
unfolding crc_byte
crc_byte_lt r b h = bits_lt 8 r b h

pub bits_xor : (k r s b c : ℕ) → r < 2 ^ 32 → s < 2 ^ 32
    → crc_bits k (bit_xor r s) (bit_xor b c) ≡ bit_xor (crc_bits k r b) (crc_bits k s c)
unfolding crc_bits
bits_xor zero r s b c hr hs = refl
bits_xor (suc k) r s b c hr hs =
    ap₂ (λ (x y : ℕ). crc_bits k (crc_bit (bit_xor r s) x) y) (xor_mod b c 1) (xor_shr b c 1)
    ∙ ap (λ (x : ℕ). crc_bits k x (bit_xor (b / 2) (c / 2)))
    (crc_bit_xor r s (b % 2) (c % 2) hr hs (mod-lt b (zero-lt-suc 1)) (mod-lt c (zero-lt-suc 1)))
    ∙ bits_xor k (crc_bit r (b % 2)) (crc_bit s (c % 2)) (b / 2) (c / 2) (bit_lt r (b % 2)) (bit_lt s (c % 2))

pub byte_xor : (r s b : ℕ) → r < 2 ^ 32 → s < 2 ^ 32
    → crc_byte (bit_xor r s) b ≡ bit_xor (crc_byte r 0) (crc_byte s b)
unfolding crc_byte
byte_xor r s b hr hs = bits_xor 8 r s 0 b hr hs
