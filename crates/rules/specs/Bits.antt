-- Bits of registers and descriptors, by their numbers, and the thresholds of the rules.
--   has              whether a bit of a byte is set
--   with_bit         a byte with that bit set
--   HELD .. TAKEN    byte 0 of a descriptor
--   GROUP .. PRX     RSTAT; PRX is bit 0 of INTSTAT too
--   CNT, OVW, RXE    INTSTAT
--   SEP, RUNTS       RCON
--   high_count       a count that leaves a counter at this or more sets CNT
--   shortest_frame   an arrival of fewer bytes is a runt
use Rattle.std.specs.Prelude.{ℕ, zero, suc, ◌/◌, ◌%◌, ◌^◌, Bool, ◌==◌, bit_or}

abbrev pub has : ℕ → ℕ → Bool
has zero b = b % 2 == 1
has (suc k) b = b / 2 ^ suc k % 2 == 1

abbrev pub with_bit : ℕ → ℕ → ℕ
with_bit k b = bit_or b (2 ^ k)

abbrev pub HELD : ℕ
HELD = 0

abbrev pub FIRST : ℕ
FIRST = 1

abbrev pub LAST : ℕ
LAST = 2

abbrev pub TAKEN : ℕ
TAKEN = 3

abbrev pub GROUP : ℕ
GROUP = 5

abbrev pub MPA : ℕ
MPA = 4

abbrev pub OVER : ℕ
OVER = 3

abbrev pub FAE : ℕ
FAE = 2

abbrev pub CRC : ℕ
CRC = 1

abbrev pub PRX : ℕ
PRX = 0

abbrev pub CNT : ℕ
CNT = 5

abbrev pub OVW : ℕ
OVW = 4

abbrev pub RXE : ℕ
RXE = 2

abbrev pub SEP : ℕ
SEP = 0

abbrev pub RUNTS : ℕ
RUNTS = 1

abbrev pub high_count : ℕ
high_count = 128

abbrev pub shortest_frame : ℕ
shortest_frame = 64
