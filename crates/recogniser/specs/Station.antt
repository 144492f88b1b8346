-- The addresses that a station accepts.
--   prom              the switch for every address whose first byte is even
--   group             the switch for the addresses of the group table
--   broad             the switch for the broadcast address
--   even              whether a number is even
--   broadcast         six bytes of FFh
--   group_index       the top six bits of the CRC register after the address
--   table_bit         whether the group table has the bit of an index
--   station_members   whether an address is a member
use Rattle.std.specs.Prelude.{ℕ, ◌/◌, ◌%◌, ◌^◌, Bool, ◌&&◌, ◌||◌, List, [], ◌∷◌, ◌==◌, slice_index, if◌then◌else◌}
use Rattle.std.specs.Str.{bytes_eq}
use Rattle.crc.specs.Crc.{crc_over, start}
use Rattle.recogniser.specs.declared.station.Station.{Station}
use Rattle.recogniser.specs.Bits.{bit}

abbrev pub prom : Station → Bool
prom s = bit s.switches 4

abbrev pub group : Station → Bool
group s = bit s.switches 3

abbrev pub broad : Station → Bool
broad s = bit s.switches 2

abbrev pub even : ℕ → Bool
even n = n % 2 == 0

abbrev pub broadcast : List ℕ
broadcast = 255 ∷ 255 ∷ 255 ∷ 255 ∷ 255 ∷ 255 ∷ []

abbrev pub group_index : List ℕ → ℕ
group_index a = crc_over start a / 2 ^ 26

abbrev pub table_bit : List ℕ → ℕ → Bool
table_bit t i = bit (slice_index t (i / 8)) (i % 8)

abbrev pub station_members : Station → List ℕ → Bool
station_members s a =
    if even (slice_index a 0) then bytes_eq a s.address || prom s
    else if bytes_eq a broadcast then broad s
    else group s && table_bit s.table (group_index a)
