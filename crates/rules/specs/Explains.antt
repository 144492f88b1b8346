-- A history of a run, and what it explains of the board.
--   Sight         RSTAT and the memory at one moment
--   History       the ledger, the frames that takes gave, and the sight after each end that kept a frame
--   starting      the history of an accepted open
--   extend        a history with one more call, its outcome, and the sight after it
--   Delivery      a frame as it is handed over: which buffers, which bytes, and the status
--   handed        a receipt as a delivery; kept_as, a kept frame as one, with RSTAT after its end as status
--   deliveries    the kept frames, in the order of their ends; untaken, those of them that are not taken yet
--   waiting       the frames that wait in the table: the runs from d on, until a descriptor is free or TAKEN, once round at most
--   Untouched     no byte of an unreleased frame's buffers has changed since the end that kept it
--   Explains      what the history says of the board
use Rattle.std.specs.Prelude.{◌≡◌, ℕ, zero, suc, ◌+◌, ◌-◌, ◌<◌, Bool, true, false, not, ◌&&◌, List, [], ◌∷◌, ◌++◌, map, length, Ok, Err, Result, nat_lt, slice_index, if◌then◌else◌}
use Rattle.rules.specs.declared.state.Setup.{Setup}
use Rattle.rules.specs.declared.state.Run.{Run}
use Rattle.rules.specs.declared.state.Break.{Break}
use Rattle.rules.specs.declared.state.Phase.{Phase}
use Rattle.rules.specs.declared.state.Phase.TheVariants.{Idle, Address, Storing, Ignored, Missed}
use Rattle.rules.specs.Bits.{has, MPA}
use Rattle.rules.specs.Table.{onward, descriptor, held, taken, run, frame_bytes}
use Rattle.rules.specs.Views.{View, idle}
use Rattle.rules.specs.Plan.{Plan, summary, buffer, times, row}
use Rattle.rules.specs.Calls.{Call, Outcome, Receipt}
use Rattle.rules.specs.Calls.Call.{begins, byte_comes, ends, aborts, takes, releases, looks}
use Rattle.rules.specs.Calls.Outcome.{refused, done, took}
use Rattle.rules.specs.Ledger.{Ledger, Frame, Arrival, after_taken, recognised, keeps_arrival, enter, under_way}
use Rattle.rules.specs.Ledger.Arrival.{none, coming}

pub record Sight : Type 0 where
  pub rstat : ℕ
  pub memory : List ℕ

abbrev pub sight : View → Sight
sight x = record { rstat = x.state.registers.rstat; memory = x.memory }

pub record History : Type 0 where
  pub ledger : Ledger
  pub given : List Receipt
  pub ends_seen : List Sight

abbrev pub starting : History
starting = record { ledger = record { frames = []; arrival = none; missed = false }; given = []; ends_seen = [] }

-- the sight, where the call is an end that keeps the arrival
abbrev pub end_sight : Plan → (List ℕ → Bool) → Ledger → Call → Sight → List Sight
end_sight s among l begins e = []
end_sight s among l (byte_comes v) e = []
end_sight s among l (ends b) e = if keeps_arrival s among l.arrival then e ∷ [] else []
end_sight s among l (aborts w) e = []
end_sight s among l (takes room) e = []
end_sight s among l (releases d) e = []
end_sight s among l (looks w) e = []

abbrev pub extend : Plan → (List ℕ → Bool) → History → Call → Outcome → Sight → History
extend s among h c (refused n at) e = h
extend s among h c done e =
    record { ledger = enter s among h.ledger c; given = h.given; ends_seen = h.ends_seen ++ end_sight s among h.ledger c e }
extend s among h c (took r) e =
    record { ledger = enter s among h.ledger c; given = h.given ++ (r ∷ []); ends_seen = h.ends_seen ++ end_sight s among h.ledger c e }

pub record Delivery : Type 0 where
  pub buffers : List ℕ
  pub bytes : List ℕ
  pub status : ℕ

abbrev pub handed : Plan → Receipt → Delivery
handed s r = record { buffers = row s r.first r.count; bytes = r.bytes; status = r.status }

abbrev pub kept_as : Frame → Sight → Delivery
kept_as f e = record { buffers = f.buffers; bytes = f.bytes; status = e.rstat }

abbrev pub deliveries : List Frame → List Sight → List Delivery
deliveries [] es = []
deliveries (f ∷ fs) [] = []
deliveries (f ∷ fs) (e ∷ es) = kept_as f e ∷ deliveries fs es

abbrev pub untaken : List Frame → List Sight → List Delivery
untaken [] es = []
untaken (f ∷ fs) [] = []
untaken (f ∷ fs) (e ∷ es) = if f.taken then untaken fs es else kept_as f e ∷ untaken fs es

abbrev pub next_run : Setup → List ℕ → ℕ → ℕ → Result Run Break → (ℕ → ℕ → List Receipt) → List Receipt
next_run g m left d (Err w) others = []
next_run g m left d (Ok r) others =
    record { first = d; count = r.count; bytes = frame_bytes g m d r.count; status = r.status } ∷ others (left - r.count) (onward g d r.count)

-- at most k runs, over `left` descriptors at most
unfoldable pub runs : Setup → List ℕ → ℕ → ℕ → ℕ → List Receipt
runs g m zero left d = []
runs g m (suc k) left d =
    if nat_lt 0 left && (held (descriptor g m d) && not (taken (descriptor g m d))) then next_run g m left d (run g m false d) (λ rest e. runs g m k rest e)
    else []

abbrev pub waiting : Setup → List ℕ → ℕ → List Receipt
waiting g m d = runs g m g.count g.count d

abbrev pub UntouchedFrame : Plan → List ℕ → Frame → Sight → Type 0
UntouchedFrame s m f e =
    f.released ≡ false → (d : ℕ) → 0 < times d f.buffers → (i : ℕ) → i < (buffer s d).length →
    slice_index m ((buffer s d).start.0 + i) ≡ slice_index e.memory ((buffer s d).start.0 + i)

abbrev pub Untouched : Plan → List ℕ → List Frame → List Sight → Type 0
Untouched s m [] es = Unit {0}
Untouched s m (f ∷ fs) [] = Unit {0}
Untouched s m (f ∷ fs) (e ∷ es) = UntouchedFrame s m f e × Untouched s m fs es

-- what the board has made of the arrival under way
abbrev pub board_recognised : Phase → Bool
board_recognised Idle = false
board_recognised (Address a n) = false
board_recognised (Storing t) = true
board_recognised Ignored = false
board_recognised Missed = true

abbrev pub board_missed : Phase → Bool
board_missed Idle = false
board_missed (Address a n) = false
board_missed (Storing t) = false
board_missed Ignored = false
board_missed Missed = true

-- and what the ledger has
abbrev pub ledger_recognised : (List ℕ → Bool) → Arrival → Bool
ledger_recognised among none = false
ledger_recognised among (coming bs f) = recognised among bs

abbrev pub ledger_missed : Arrival → Bool
ledger_missed none = false
ledger_missed (coming bs f) = f.missed

pub record Explains (s : Plan) (among : List ℕ → Bool) (h : History) (x : View) : Type 0 where
  -- each kept frame has its sight
  pub sighted : length h.ends_seen ≡ length h.ledger.frames
  -- the frames that takes gave, then those that wait in the table, are the kept frames in the order of their ends
  pub delivered :
      map (handed s) (h.given ++ waiting (summary s) x.memory (after_taken s h.ledger.frames 0)) ≡ deliveries h.ledger.frames h.ends_seen
  -- from the end that keeps a frame to its release, no byte of its buffers changes
  pub untouched : Untouched s x.memory h.ledger.frames h.ends_seen
  -- the board has an arrival under way, has recognised it and has missed it, exactly when the ledger has
  pub in_step : not (idle x.state.phase) ≡ under_way h.ledger.arrival
  pub recognises : board_recognised x.state.phase ≡ ledger_recognised among h.ledger.arrival
  pub misses : board_missed x.state.phase ≡ ledger_missed h.ledger.arrival
  -- RSTAT has MPA exactly when the latest arrival was missed
  pub mpa : has MPA x.state.registers.rstat ≡ h.ledger.missed
