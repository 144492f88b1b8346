-- The receive table in a memory's bytes.
--   word_at                a number of two bytes, by the addresses of its low and its high byte
--   place                  the address of a descriptor
--   next, onward           the descriptor after one, and k descriptors on: 0 follows the last
--   descriptor             a descriptor, as it stands in the table
--   held .. taken          its bits
--   lawful                 whether it is lawful by itself
--   write                  the memory with bytes 0, 1, 6 and 7 of a descriptor replaced
--   run                    the frame that begins at a descriptor, or the descriptor that breaks it
--   span, frame_bytes      the bytes of a part of memory, and of a frame: the first fill bytes of each buffer in turn
--   keep_run               the memory after the descriptors of a kept arrival are marked
--   take_run, clear_run    the memory after the descriptors of a frame are marked TAKEN, and after they are freed
use Rattle.std.specs.Prelude.{ℕ, zero, suc, ◌+◌, ◌*◌, ◌/◌, ◌%◌, Bool, true, false, not, ◌&&◌, ◌||◌, List, [], ◌∷◌, ◌++◌, Ok, Err, Result, ◌==◌, nat_le, nat_lt, slice_index, slice_set, if◌then◌else◌}
use Rattle.rules.specs.declared.state.Setup.{Setup}
use Rattle.rules.specs.declared.state.Descriptor.{Descriptor}
use Rattle.rules.specs.declared.state.Run.{Run}
use Rattle.rules.specs.declared.state.Break.{Break}
use Rattle.rules.specs.declared.state.Break.TheVariants.{Unlawful, Misplaced, Endless}
use Rattle.rules.specs.Bits.{has, with_bit, HELD, FIRST, LAST, TAKEN}

abbrev pub word_at : List ℕ → ℕ → ℕ → ℕ
word_at m low high = slice_index m low + 256 * slice_index m high

abbrev pub place : Setup → ℕ → ℕ
place g d = g.rbegin.0 * 256 + 8 * d

unfoldable pub next : Setup → ℕ → ℕ
next g d = if nat_lt (d + 1) g.count then d + 1 else 0

abbrev pub onward : Setup → ℕ → ℕ → ℕ
onward g d zero = d
onward g d (suc k) = onward g (next g d) k

-- the eight bytes from p on
unfoldable pub descriptor_at : List ℕ → ℕ → Descriptor
descriptor_at m p = record {
  flags = slice_index m p;
  status = slice_index m (p + 1);
  start = word_at m (p + 2) (p + 3);
  length = word_at m (p + 4) (p + 5);
  fill = word_at m (p + 6) (p + 7);
}

abbrev pub descriptor : Setup → List ℕ → ℕ → Descriptor
descriptor g m d = descriptor_at m (place g d)

abbrev pub held : Descriptor → Bool
held e = has HELD e.flags

abbrev pub first : Descriptor → Bool
first e = has FIRST e.flags

abbrev pub last : Descriptor → Bool
last e = has LAST e.flags

abbrev pub taken : Descriptor → Bool
taken e = has TAKEN e.flags

-- no bit above TAKEN; no bit without HELD; a byte or more, none past the size and none in any page of the table;
-- no more filled than there is
unfoldable pub lawful : Setup → Descriptor → Bool
lawful g e =
    nat_lt e.flags 16 && (held e || e.flags == 0) && nat_lt 0 e.length && nat_le (e.start + e.length) g.size
    && not (nat_lt e.start (g.rend.0 * 256) && nat_lt (g.rbegin.0 * 256) (e.start + e.length)) && nat_le e.fill e.length

unfoldable pub write_at : List ℕ → ℕ → ℕ → ℕ → ℕ → List ℕ
write_at m p flags status fill = slice_set (slice_set (slice_set (slice_set m p flags) (p + 1) status) (p + 6) (fill % 256)) (p + 7) (fill / 256)

abbrev pub write : Setup → List ℕ → ℕ → ℕ → ℕ → ℕ → List ℕ
write g m d flags status fill = write_at m (place g d) flags status fill

abbrev pub alike : Bool → Bool → Bool
alike true b = b
alike false b = not b

-- HELD, TAKEN as the start of the run, and FIRST at the start alone
abbrev pub in_place : Bool → Bool → Descriptor → Bool
in_place tk start e = held e && alike (taken e) tk && alike (first e) start

-- i descriptors with len bytes stand before d, and k may come from d on
unfoldable pub run_on : Setup → List ℕ → Bool → ℕ → ℕ → ℕ → ℕ → Result Run Break
run_on g m tk i len d zero = Err (Endless d)
run_on g m tk i len d (suc k) =
    if lawful g (descriptor g m d) then (
    if in_place tk (i == 0) (descriptor g m d) then (
    if last (descriptor g m d) then
    Ok (record { count = i + 1; length = len + (descriptor g m d).fill; status = (descriptor g m d).status })
    else if k == 0 then Err (Endless d)
    else run_on g m tk (i + 1) (len + (descriptor g m d).fill) (next g d) k
    )
    else Err (Misplaced d)
    )
    else Err (Unlawful d)

abbrev pub run : Setup → List ℕ → Bool → ℕ → Result Run Break
run g m tk d = run_on g m tk 0 0 d g.count

unfoldable pub span : List ℕ → ℕ → ℕ → List ℕ
span m a zero = []
span m a (suc k) = slice_index m a ∷ span m (a + 1) k

unfoldable pub frame_bytes : Setup → List ℕ → ℕ → ℕ → List ℕ
frame_bytes g m d zero = []
frame_bytes g m d (suc k) = span m (descriptor g m d).start (descriptor g m d).fill ++ frame_bytes g m (next g d) k

-- byte 0 of a kept arrival's descriptor
abbrev pub kept_flags : Bool → Bool → ℕ
kept_flags start end = 1 + (if start then 2 else 0) + (if end then 4 else 0)

-- fill is the length, and in the last `filled`; the status stands in the last
abbrev pub keep_one : Setup → List ℕ → ℕ → ℕ → ℕ → Bool → Bool → List ℕ
keep_one g m d filled status start end =
    write g m d (kept_flags start end) (if end then status else 0) (if end then filled else (descriptor g m d).length)

-- k more descriptors, from d on
abbrev pub keep_run : Setup → List ℕ → ℕ → ℕ → ℕ → Bool → ℕ → List ℕ
keep_run g m d filled status start zero = m
keep_run g m d filled status start (suc k) = keep_run g (keep_one g m d filled status start (k == 0)) (next g d) filled status false k

abbrev pub take_one : Setup → List ℕ → ℕ → List ℕ
take_one g m d = slice_set m (place g d) (with_bit TAKEN (slice_index m (place g d)))

abbrev pub take_run : Setup → List ℕ → ℕ → ℕ → List ℕ
take_run g m d zero = m
take_run g m d (suc k) = take_run g (take_one g m d) (next g d) k

abbrev pub clear_run : Setup → List ℕ → ℕ → ℕ → List ℕ
clear_run g m d zero = m
clear_run g m d (suc k) = clear_run g (write g m d 0 0 0) (next g d) k
