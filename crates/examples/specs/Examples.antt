-- The bench examples.
--   buffer             a buffer, by its start and length
--   bench_shape        the layout of the bench: 512 bytes, a table from page 0 to page 1, three buffers of four bytes
--   bench_station      the station of the bench: BROAD is set
--   with_rcon          a run of a board that was opened with the bench's layout and station, and RCON
--   begin .. release   steps, each a list of one; `bytes` is so many bytes of FFh
--   gives              a take answers first descriptor, descriptors, length and status, and gives bytes of FFh
--   nothing_waits      a take is refused by 12
--   shows              a register holds a value
--   kept_and_taken     eight bytes of FFh come, and the frame is taken
--   examples           all of them, in the order of the rules
--   ExamplesHold       every one of them holds
use Rattle.std.specs.Prelude.{ℕ, true, List, [], ◌∷◌, ◌++◌, replicate}
use Rattle.std.specs.List.{AllByRecursion}
use Rattle.recogniser.specs.declared.station.Station.{Station}
use Rattle.layout.specs.declared.buffer.Buffer.{Buffer}
use Rattle.layout.specs.Layouts.{Shape}
use Rattle.rules.specs.declared.state.LastByte.{LastByte}
use Rattle.rules.specs.declared.state.LastByte.TheVariants.{Whole, Ragged}
use Rattle.rules.specs.declared.state.Register.{Register}
use Rattle.rules.specs.declared.state.Register.TheVariants.{IntStat, RStat, AliCnt, CrcCnt, MpCnt}
use Rattle.rules.specs.Calls.{Outcome}
use Rattle.rules.specs.Calls.Call.{begins, byte_comes, ends, takes, releases}
use Rattle.rules.specs.Calls.Outcome.{refused, done, took}
use Rattle.examples.specs.Example.{Step, Example, Holds}
use Rattle.examples.specs.Example.Step.{does, holds}
use Rattle.examples.specs.Example.Example.{run, address, additions}

abbrev pub buffer : ℕ → ℕ → Buffer
buffer start length = record { start = record { 0 = start }; length = length }

abbrev pub bench_shape : Shape
bench_shape = record {
  size = 512;
  rbegin = record { 0 = 0 };
  rend = record { 0 = 1 };
  buffers = buffer 256 4 ∷ buffer 260 4 ∷ buffer 264 4 ∷ [];
}

abbrev pub bench_station : Station
bench_station = record { address = replicate 6 0x00; switches = 0x04; table = replicate 8 0x00 }

abbrev pub with_rcon : ℕ → List Step → Example
with_rcon rcon ss = run bench_shape rcon bench_station ss

abbrev pub begin : List Step
begin = does begins done ∷ []

abbrev pub bytes : ℕ → List Step
bytes n = replicate n (does (byte_comes 0xFF) done)

abbrev pub end : LastByte → List Step
end last = does (ends last) done ∷ []

abbrev pub release : ℕ → Outcome → List Step
release d o = does (releases d) o ∷ []

-- to a buffer of 16 bytes
abbrev pub gives : ℕ → ℕ → ℕ → ℕ → List Step
gives first count length status =
    does (takes 16) (took (record { first = first; count = count; bytes = replicate length 0xFF; status = status })) ∷ []

abbrev pub nothing_waits : List Step
nothing_waits = does (takes 16) (refused 12 0) ∷ []

abbrev pub shows : Register → ℕ → List Step
shows r v = holds r v ∷ []

abbrev pub kept_and_taken : List Step
kept_and_taken = begin ++ bytes 8 ++ end Whole ++ gives 0 2 8 0x21 ++ shows IntStat 0x01

-- "A broadcast frame is kept."
abbrev pub broadcast_kept : Example
broadcast_kept = with_rcon 0x03 kept_and_taken

-- "A full table misses the next frame."
abbrev pub full_table_misses : Example
full_table_misses =
    with_rcon 0x03
    (kept_and_taken ++ begin ++ bytes 5 ++ shows RStat 0x00 ++ shows MpCnt 0 ++ bytes 1 ++ shows RStat 0x30 ++ shows MpCnt 1
    ++ bytes 2 ++ end Whole ++ shows RStat 0x30 ++ shows MpCnt 1 ++ nothing_waits)

-- "A release in mid-arrival makes room."
abbrev pub release_makes_room : Example
release_makes_room = with_rcon 0x03 (kept_and_taken ++ begin ++ bytes 5 ++ release 0 done ++ bytes 3 ++ end Whole ++ gives 2 2 8 0x21)

-- "A mismatch is kept with its reason", whole and ragged.
abbrev pub whole_mismatch_kept : Example
whole_mismatch_kept = with_rcon 0x03 (begin ++ bytes 7 ++ end Whole ++ gives 0 2 7 0x22 ++ shows CrcCnt 1 ++ shows IntStat 0x04)

abbrev pub ragged_mismatch_kept : Example
ragged_mismatch_kept = with_rcon 0x03 (begin ++ bytes 7 ++ end Ragged ++ gives 0 2 7 0x24 ++ shows AliCnt 1)

-- "A ragged frame that matches is good."
abbrev pub ragged_match_good : Example
ragged_match_good = with_rcon 0x03 (begin ++ bytes 8 ++ end Ragged ++ gives 0 2 8 0x21)

-- "A runt is dropped uncounted."
abbrev pub runt_dropped : Example
runt_dropped = with_rcon 0x00 (begin ++ bytes 8 ++ end Whole ++ nothing_waits ++ shows RStat 0x20 ++ shows IntStat 0x00)

-- "A frame may fill every buffer, but not one byte more."
abbrev pub every_buffer_filled : Example
every_buffer_filled = with_rcon 0x03 (begin ++ bytes 12 ++ end Whole ++ gives 0 3 12 0x22)

abbrev pub one_byte_more_missed : Example
one_byte_more_missed =
    with_rcon 0x03
    (begin ++ bytes 12 ++ shows RStat 0x20 ++ shows MpCnt 0 ++ bytes 1 ++ shows RStat 0x30 ++ shows MpCnt 1 ++ end Whole ++ nothing_waits)

-- "A group index and a frame of six bytes."
abbrev pub six_bytes : Example
six_bytes = address (0xFF ∷ 0xFF ∷ 0x00 ∷ 0x00 ∷ 0xFF ∷ 0xFF ∷ []) 49 true

-- "A release names the first descriptor of a taken frame, once."
abbrev pub released_once : Example
released_once = with_rcon 0x03 (kept_and_taken ++ release 1 (refused 15 0) ++ release 0 done ++ release 0 (refused 15 0))

-- "A buffer fits in the memory and shares no byte."
abbrev pub buffers_added : Example
buffers_added = additions bench_shape ((buffer 259 2, refused 5 0) ∷ (buffer 511 2, refused 4 0) ∷ (buffer 510 2, done) ∷ [])

abbrev pub examples : List Example
examples =
    broadcast_kept ∷ full_table_misses ∷ release_makes_room ∷ whole_mismatch_kept ∷ ragged_mismatch_kept ∷ ragged_match_good
    ∷ runt_dropped ∷ every_buffer_filled ∷ one_byte_more_missed ∷ six_bytes ∷ released_once ∷ buffers_added ∷ []

abbrev pub ExamplesHold : Type 0
ExamplesHold = AllByRecursion Holds examples
