-- The ledger: what the arguments of the calls since an accepted open, and whether each was refused, say of the frames.
-- It knows RCON, the set and the buffers, and nothing of the board.
--   Frame                     a frame that was kept: its buffers in order, its bytes, whether it was taken and released
--   Fill                      the buffers that an arrival has, how many bytes are in the last, and whether it was missed
--   Arrival                   the bytes of the arrival under way, and how they fill buffers; or none
--   Ledger                    the frames kept, in the order of their ends; the arrival; whether the latest arrival was missed
--   holders                   how many unreleased frames have a buffer, each as often as it has it
--   after_frames              the buffer after the last frame's, or e where there is none
--   after_taken               the buffer after the last taken frame's, or e where there is none
--   fill_one, fill_all        one more byte finds its place, or the arrival is missed
--   recognised                six bytes have come, and they are in the set
--   keeps                     whether an end keeps the arrival
--   take_first, release_at    the first untaken frame is taken; the unreleased frame that starts at d is released
--   enter                     the ledger after an accepted call
--   verdict                   the number that a call must answer: 0 where it must be accepted
use Rattle.std.specs.Prelude.{ℕ, ◌+◌, Bool, true, false, not, ◌&&◌, ◌||◌, List, [], ◌∷◌, ◌++◌, length, take, ◌==◌, nat_le, nat_lt, if◌then◌else◌}
use Rattle.refusal.specs.Numbers.{code}
use Rattle.crc.specs.Crc.{crc_over, start, residue}
use Rattle.rules.specs.Bits.{has, SEP, RUNTS, shortest_frame}
use Rattle.rules.specs.Registers.{readable, writable, found}
use Rattle.rules.specs.Plan.{Plan, buffer, after, latest, times}
use Rattle.rules.specs.Calls.{Call, Look}
use Rattle.rules.specs.Calls.Call.{begins, byte_comes, ends, aborts, takes, releases, looks}
use Rattle.rules.specs.Calls.Look.{peeks, reads, writes, asks_cause}

pub record Frame : Type 0 where
  pub buffers : List ℕ
  pub bytes : List ℕ
  pub taken : Bool
  pub released : Bool

pub record Fill : Type 0 where
  pub own : List ℕ
  pub filled : ℕ
  pub missed : Bool

pub data Arrival : Type 0 where
  none : Arrival
  coming : List ℕ → Fill → Arrival

pub record Ledger : Type 0 where
  pub frames : List Frame
  pub arrival : Arrival
  pub missed : Bool

abbrev pub holders : List Frame → ℕ → ℕ
holders [] d = 0
holders (f ∷ fs) d = (if f.released then 0 else times d f.buffers) + holders fs d

abbrev pub after_frames : Plan → List Frame → ℕ → ℕ
after_frames s [] e = e
after_frames s (f ∷ fs) e = after_frames s fs (after s f.buffers e)

abbrev pub after_taken : Plan → List Frame → ℕ → ℕ
after_taken s [] e = e
after_taken s (f ∷ fs) e = after_taken s fs (if f.taken then after s f.buffers e else e)

abbrev pub empty : List ℕ → Bool
empty [] = true
empty (d ∷ ds) = false

-- a byte has a place where the latest buffer has room; else it needs the next buffer in order: the one after the
-- arrival's latest, else after the last frame's, else 0; where an unreleased frame or this arrival has it, the
-- arrival is missed, and fills no more
unfoldable pub fill_one : Plan → List Frame → Fill → Fill
fill_one s fs f =
    let d = after s f.own (after_frames s fs 0) in
    if f.missed then f
    else if not (empty f.own) && nat_lt f.filled (buffer s (latest f.own 0)).length then record { own = f.own; filled = f.filled + 1; missed = false }
    else if holders fs d + times d f.own == 0 then record { own = f.own ++ (d ∷ []); filled = 1; missed = false }
    else record { own = f.own; filled = f.filled; missed = true }

abbrev pub fill_all : Plan → List Frame → Fill → List ℕ → Fill
fill_all s fs f [] = f
fill_all s fs f (v ∷ vs) = fill_all s fs (fill_one s fs f) vs

unfoldable pub recognised : (List ℕ → Bool) → List ℕ → Bool
recognised among bs = nat_le 6 (length bs) && among (take 6 bs)

-- the bytes that go to buffers with v, the last of bs: at the sixth all six, later that one
abbrev pub due : (List ℕ → Bool) → List ℕ → ℕ → List ℕ
due among bs v = if recognised among bs then (if length bs == 6 then bs else v ∷ []) else []

abbrev pub no_fill : Fill
no_fill = record { own = []; filled = 0; missed = false }

abbrev pub keeps : Plan → (List ℕ → Bool) → List ℕ → Fill → Bool
keeps s among bs f =
    recognised among bs && not f.missed && (has RUNTS s.rcon || nat_le shortest_frame (length bs))
    && (has SEP s.rcon || crc_over start bs == residue)

abbrev pub keeps_arrival : Plan → (List ℕ → Bool) → Arrival → Bool
keeps_arrival s among none = false
keeps_arrival s among (coming bs f) = keeps s among bs f

-- the frame that an end makes of an arrival, if it keeps it
abbrev pub kept_frames : Plan → (List ℕ → Bool) → Arrival → List Frame
kept_frames s among none = []
kept_frames s among (coming bs f) =
    if keeps s among bs f then record { buffers = f.own; bytes = bs; taken = false; released = false } ∷ []
    else []

abbrev pub with_arrival : Ledger → Arrival → Bool → Ledger
with_arrival l a x = record { frames = l.frames; arrival = a; missed = x }

abbrev pub with_frames : Ledger → List Frame → Ledger
with_frames l fs = record { frames = fs; arrival = l.arrival; missed = l.missed }

abbrev pub add_byte : Plan → (List ℕ → Bool) → Ledger → ℕ → Arrival → Ledger
add_byte s among l v none = l
add_byte s among l v (coming bs f) =
    let f' = fill_all s l.frames f (due among (bs ++ (v ∷ [])) v) in
    with_arrival l (coming (bs ++ (v ∷ [])) f') f'.missed

abbrev pub take_first : List Frame → List Frame
take_first [] = []
take_first (f ∷ fs) =
    if f.taken then f ∷ take_first fs
    else record { buffers = f.buffers; bytes = f.bytes; taken = true; released = f.released } ∷ fs

abbrev pub starts : List ℕ → ℕ → Bool
starts [] d = false
starts (e ∷ es) d = e == d

abbrev pub release_at : ℕ → List Frame → List Frame
release_at d [] = []
release_at d (f ∷ fs) =
    if not f.released && starts f.buffers d then record { buffers = f.buffers; bytes = f.bytes; taken = f.taken; released = true } ∷ fs
    else f ∷ release_at d fs

abbrev pub enter : Plan → (List ℕ → Bool) → Ledger → Call → Ledger
enter s among l begins = with_arrival l (coming [] no_fill) false
enter s among l (byte_comes v) = add_byte s among l v l.arrival
enter s among l (ends b) = record { frames = l.frames ++ kept_frames s among l.arrival; arrival = none; missed = l.missed }
enter s among l (aborts w) = with_arrival l none l.missed
enter s among l (takes room) = with_frames l (take_first l.frames)
enter s among l (releases d) = with_frames l (release_at d l.frames)
enter s among l (looks w) = l

abbrev pub under_way : Arrival → Bool
under_way none = false
under_way (coming bs f) = true

-- 12 where no kept frame is untaken, 14 where the first such is longer than the caller's buffer
abbrev pub take_verdict : List Frame → ℕ → ℕ
take_verdict [] room = 12
take_verdict (f ∷ fs) room = if f.taken then take_verdict fs room else if nat_le (length f.bytes) room then 0 else 14

abbrev pub starts_taken : List Frame → ℕ → Bool
starts_taken [] d = false
starts_taken (f ∷ fs) d = (f.taken && not f.released && starts f.buffers d) || starts_taken fs d

abbrev pub look_verdict : Plan → Look → ℕ
look_verdict s (peeks a) = if nat_lt a s.shape.size then 0 else 17
look_verdict s (reads p a) = code (found (readable p a))
look_verdict s (writes p a v) = code (found (writable p a))
look_verdict s asks_cause = 0

abbrev pub verdict : Plan → Ledger → Call → ℕ
verdict s l begins = if under_way l.arrival then 10 else 0
verdict s l (byte_comes v) = if under_way l.arrival then 0 else 11
verdict s l (ends b) = if under_way l.arrival then 0 else 11
verdict s l (aborts w) = if under_way l.arrival then 0 else 11
verdict s l (takes room) = take_verdict l.frames room
verdict s l (releases d) = if starts_taken l.frames d then 0 else 15
verdict s l (looks w) = look_verdict s w
