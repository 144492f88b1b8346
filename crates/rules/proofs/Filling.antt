-- How a storing arrival stands beside the ledger's fill, and what one byte of it does.
--   last_buffer     the latest buffer of an arrival, or an empty one
--   filling_of      a fill that was not missed
--   Counts          the board's counts are those of the buffers that the ledger lists
--   Filling         the bytes that came stand in those buffers
--   StoresByte      one byte was stored; MissesByte, it had no place, and the arrival was missed
use Rattle.std.proofs.Common.{◌≡◌, ℕ, ◌<◌, ◌≤◌, true, false, List, [], ◌∷◌, ◌++◌, length, refl, ap}
use Rattle.std.proofs.lemmas.Bool.{true≢false}
use Rattle.layout.specs.declared.buffer.Buffer.{Buffer}
use Rattle.rules.specs.declared.state.Phase.TheVariants.{Storing}
use Rattle.rules.specs.declared.state.Stored.{Stored}
use Rattle.rules.specs.Views.{View, view, with_phase}
use Rattle.rules.specs.Arrivals.{missed, store, count_up}
use Rattle.rules.specs.Plan.{buffer, Plan, latest, summary, times}
use Rattle.rules.specs.Ledger.{Fill, fill_one, empty}
use Rattle.rules.proofs.Frames.{Gone, KeptFrame, flat}
use Rattle.rules.proofs.Encoding.{Row, stored, TableFits}
use Rattle.rules.proofs.StoredBytes.{latest_among}

abbrev pub last_buffer : Plan → List ℕ → Buffer
last_buffer s [] = record { start = record { 0 = 0 }; length = 0 }
last_buffer s (d ∷ ds) = buffer s (latest ds d)

abbrev pub filling_of : List ℕ → ℕ → Fill
filling_of own filled = record { own = own; filled = filled; missed = false }

pub record Counts (s : Plan) (t : Stored) (own : List ℕ) (filled : ℕ) : Type 0 where
  pub many : t.used ≡ length own
  pub newest : t.latest ≡ latest own 0
  pub place : t.start ≡ (last_buffer s own).start.0
  pub room : t.length ≡ (last_buffer s own).length
  pub fill : t.filled ≡ filled

pub record Filling (s : Plan) (d : ℕ) (m : List ℕ) (own : List ℕ) (filled : ℕ) (sofar : List ℕ) : Type 0 where
  pub row : Row s d own
  pub fits : filled ≤ (buffer s (latest own 0)).length
  pub bytes : stored s m own filled ≡ sofar

pub record StoresByte (s : Plan) (gone : List Gone) (waiting : List KeptFrame) (x : View) (t : Stored) (own : List ℕ) (filled v : ℕ) (sofar : List ℕ) : Type 0 where
  pub t' : Stored
  pub own' : List ℕ
  pub filled' : ℕ
  pub m' : List ℕ
  pub board : store (summary s) x t v ≡ view m' (with_phase x.state (Storing t'))
  pub ledger : fill_one s (flat gone waiting) (filling_of own filled) ≡ filling_of own' filled'
  pub counts : Counts s t' own' filled'
  pub total : t'.total ≡ count_up t.total
  pub table : TableFits s gone waiting own' m'
  pub filling : Filling s x.state.curr m' own' filled' (sofar ++ (v ∷ []))

pub record MissesByte (s : Plan) (gone : List Gone) (waiting : List KeptFrame) (x : View) (t : Stored) (own : List ℕ) (filled v : ℕ) : Type 0 where
  pub board : store (summary s) x t v ≡ view x.memory (missed x.state)
  pub ledger : fill_one s (flat gone waiting) (filling_of own filled) ≡ record { own = own; filled = filled; missed = true }

pub latest_push : (ds : List ℕ) (d e : ℕ) → latest (ds ++ (d ∷ [])) e ≡ d
latest_push [] d e = refl
latest_push (x ∷ xs) d e = latest_push xs d x

pub last_buffer_push : (s : Plan) (ds : List ℕ) (d : ℕ) → last_buffer s (ds ++ (d ∷ [])) ≡ buffer s d
last_buffer_push s [] d = refl
last_buffer_push s (x ∷ xs) d = ap (buffer s) (latest_push xs d x)

pub last_buffer_is : (s : Plan) (ds : List ℕ) → empty ds ≡ false → last_buffer s ds ≡ buffer s (latest ds 0)
last_buffer_is s [] o = absurd (true≢false o)
last_buffer_is s (d ∷ ds) o = refl

pub latest_in : (ds : List ℕ) → empty ds ≡ false → 0 < times (latest ds 0) ds
latest_in [] o = absurd (true≢false o)
latest_in (d ∷ ds) o = latest_among d ds 0
