-- The register after a list of bytes, by the parts of the list and by the parts of the register.
use Rattle.std.proofs.Common.{◌≡◌, ℕ, zero, suc, ◌+◌, ◌*◌, ◌/◌, ◌^◌, ◌<◌, List, [], ◌∷◌, ◌++◌, length, take, drop, refl, sym, ap, ◌∙◌, fold, arith}
use Rattle.std.specs.Simd.{first_chunks}
use Rattle.std.proofs.lemmas.List.{take-append-drop, drop-drop}
use lib.Bits.{bit_xor}
use Rattle.crc.specs.Crc.{crc_bits, crc_byte, crc_over}
use Rattle.crc.proofs.Linear.{byte_xor, crc_byte_lt}
use Rattle.crc.proofs.Shift.{byte_then_zeros}

pub crc_over_append : (r : ℕ) (bs cs : List ℕ) → crc_over r (bs ++ cs) ≡ crc_over (crc_over r bs) cs
unfolding crc_over
crc_over_append r [] cs = refl
crc_over_append r (b ∷ bs) cs = crc_over_append (crc_byte r b) bs cs

pub crc_over_push : (r : ℕ) (bs : List ℕ) (v : ℕ) → crc_over r (bs ++ v ∷ []) ≡ crc_byte (crc_over r bs) v
unfolding crc_over
crc_over_push r bs v = crc_over_append r bs (v ∷ [])

pub crc_over_xor : (r s : ℕ) (bs : List ℕ) → r < 2 ^ 32 → s < 2 ^ 32
    → crc_over (bit_xor r s) bs ≡ bit_xor (crc_bits (8 * length bs) r 0) (crc_over s bs)
unfolding crc_over crc_bits
crc_over_xor r s [] hr hs = refl
crc_over_xor r s (b ∷ bs) hr hs =
    ap (λ (n : ℕ). crc_over n bs) (byte_xor r s b hr hs)
    ∙ crc_over_xor (crc_byte r 0) (crc_byte s b) bs (crc_byte_lt r 0 hr) (crc_byte_lt s b hs)
    ∙ ap (λ (n : ℕ). bit_xor n (crc_over (crc_byte s b) bs))
    (byte_then_zeros (length bs) r 0 (omega arith))

pub crc_over_fold : (r : ℕ) (bs : List ℕ) → crc_over r bs ≡ fold crc_byte r bs
unfolding crc_over
crc_over_fold r [] = refl
crc_over_fold r (b ∷ bs) = crc_over_fold (crc_byte r b) bs

pub crc_over_chunks : (r k : ℕ) (bs : List ℕ)
    → crc_over r bs ≡ crc_over (fold crc_over r (first_chunks 8 k bs)) (drop (k * 8) bs)
crc_over_chunks r zero bs = refl
crc_over_chunks r (suc k) bs =
    let first = crc_over_append r (take 8 bs) (drop 8 bs) in
    let whole = take-append-drop 8 bs in
    let others = crc_over_chunks (crc_over r (take 8 bs)) k (drop 8 bs) in
    let tail = drop-drop (k * 8) 8 bs in
    let size : suc k * 8 ≡ 8 + k * 8 = omega arith in
    cc

-- the bytes as whole chunks of eight and the rest
pub crc_over_eights : (r : ℕ) (bs : List ℕ) (chunks : List (List ℕ)) (rest : List ℕ)
    → chunks ≡ first_chunks 8 (length bs / 8) bs
    → rest ≡ drop (length bs / 8 * 8) bs
    → crc_over (fold crc_over r chunks) rest ≡ crc_over r bs
crc_over_eights r bs chunks rest front back = rw (front, back) (sym (crc_over_chunks r (length bs / 8) bs))
