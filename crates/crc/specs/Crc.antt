-- The 32-bit CRC register of IEEE 802.3, as the receiver keeps it.
--   crc_bit    the register after one data bit: shifted left by one, and XORed with 04C11DB7h where the data bit differs from the top bit
--   crc_bits   the register after the lowest k bits of a number, the lowest first
--   crc_byte   the register after one byte
--   crc_over   the register after a list of bytes
--   start      the register before the first byte: all ones
--   residue    the register after the last byte of a frame that matches
use Rattle.std.specs.Prelude.{ℕ, zero, suc, ◌*◌, ◌/◌, ◌%◌, ◌^◌, List, [], ◌∷◌, ◌==◌, bit_xor, if◌then◌else◌}

abbrev pub crc_bit : ℕ → ℕ → ℕ
crc_bit r d = if r / 2 ^ 31 == d then r * 2 % 2 ^ 32 else bit_xor (r * 2 % 2 ^ 32) 0x04C11DB7

unfoldable pub crc_bits : ℕ → ℕ → ℕ → ℕ
crc_bits zero r b = r
crc_bits (suc k) r b = crc_bits k (crc_bit r (b % 2)) (b / 2)

unfoldable pub crc_byte : ℕ → ℕ → ℕ
crc_byte r b = crc_bits 8 r b

unfoldable pub crc_over : ℕ → List ℕ → ℕ
crc_over r [] = r
crc_over r (b ∷ bs) = crc_over (crc_byte r b) bs

abbrev pub start : ℕ
start = 0xFFFFFFFF

abbrev pub residue : ℕ
residue = 0xC704DD7B
