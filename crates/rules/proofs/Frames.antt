-- The kept frames of a history, with what their ends saw: those taken, and those that wait.
--   KeptFrame                       a kept frame, the bytes in its last buffer, and RSTAT and the memory after its end
--   Gone                            a taken frame, and whether it was released
--   held_gone, held_waiting         how many unreleased frames have a buffer, each as often as it has it
--   after_gone, after_waiting       the buffer after the last frame's, or e where there is none
--   receipt                         a frame as a take hands it over
--   gone_mark, waiting_mark         a frame as the ledger keeps it; flat, all of them in order
--   sight_of                        what its end saw; sights, all of them in order
--   starts_unreleased, any_starts   an unreleased taken frame starts at d; release_in, it is released
use Rattle.std.proofs.Common.{ℕ, ◌+◌, Bool, true, false, cond, not, ◌&&◌, ◌||◌, List, [], ◌∷◌, map, length}
use Rattle.rules.specs.Plan.{Plan, after, times}
use Rattle.rules.specs.Calls.{Receipt}
use Rattle.rules.specs.Ledger.{Frame, starts}
use Rattle.rules.specs.Explains.{Sight, Delivery}

pub record KeptFrame : Type 0 where
  pub buffers : List ℕ
  pub filled : ℕ
  pub bytes : List ℕ
  pub status : ℕ
  pub memory : List ℕ

pub record Gone : Type 0 where
  pub frame : KeptFrame
  pub released : Bool

abbrev pub frame_of : Gone → KeptFrame
frame_of g = g.frame

abbrev pub held_gone : List Gone → ℕ → ℕ
held_gone [] d = 0
held_gone (g ∷ gs) d = cond g.released 0 (times d g.frame.buffers) + held_gone gs d

abbrev pub held_waiting : List KeptFrame → ℕ → ℕ
held_waiting [] d = 0
held_waiting (f ∷ fs) d = times d f.buffers + held_waiting fs d

abbrev pub after_gone : Plan → List Gone → ℕ → ℕ
after_gone s [] e = e
after_gone s (g ∷ gs) e = after_gone s gs (after s g.frame.buffers e)

abbrev pub after_waiting : Plan → List KeptFrame → ℕ → ℕ
after_waiting s [] e = e
after_waiting s (f ∷ fs) e = after_waiting s fs (after s f.buffers e)

abbrev pub first_of : List ℕ → ℕ
first_of [] = 0
first_of (d ∷ ds) = d

abbrev pub receipt : KeptFrame → Receipt
receipt f = record { first = first_of f.buffers; count = length f.buffers; bytes = f.bytes; status = f.status }

abbrev pub delivery : KeptFrame → Delivery
delivery f = record { buffers = f.buffers; bytes = f.bytes; status = f.status }

abbrev pub gone_mark : Gone → Frame
gone_mark g = record { buffers = g.frame.buffers; bytes = g.frame.bytes; taken = true; released = g.released }

abbrev pub waiting_mark : KeptFrame → Frame
waiting_mark f = record { buffers = f.buffers; bytes = f.bytes; taken = false; released = false }

abbrev pub flat : List Gone → List KeptFrame → List Frame
flat [] fs = map waiting_mark fs
flat (g ∷ gs) fs = gone_mark g ∷ flat gs fs

abbrev pub sight_of : KeptFrame → Sight
sight_of f = record { rstat = f.status; memory = f.memory }

abbrev pub sights : List Gone → List KeptFrame → List Sight
sights [] fs = map sight_of fs
sights (g ∷ gs) fs = sight_of g.frame ∷ sights gs fs

abbrev pub starts_unreleased : Gone → ℕ → Bool
starts_unreleased g d = not g.released && starts g.frame.buffers d

abbrev pub any_starts : List Gone → ℕ → Bool
any_starts [] d = false
any_starts (g ∷ gs) d = starts_unreleased g d || any_starts gs d

abbrev pub release_in : ℕ → List Gone → List Gone
release_in d [] = []
release_in d (g ∷ gs) = cond (starts_unreleased g d) (record { frame = g.frame; released = true } ∷ gs) (g ∷ release_in d gs)
