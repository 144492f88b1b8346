-- A frame that stands in the table: its run, its bytes and its first descriptor.
use Rattle.std.proofs.Common.{◌≡◌, ℕ, ◌<◌, ◌≤◌, Bool, true, false, not, List, [], ◌∷◌, length, Ok, sym, ap, ◌∙◌, arith}
use Rattle.std.proofs.lemmas.Bool.{true≢false, and_from}
use Rattle.rules.specs.declared.state.Run.{Run}
use Rattle.rules.specs.Bits.{has, HELD, TAKEN}
use Rattle.rules.specs.Table.{run, descriptor, frame_bytes}
use Rattle.rules.specs.Views.{View, Shown}
use Rattle.rules.specs.Plan.{Plan, summary, number}
use Rattle.rules.specs.Ledger.{empty}
use Rattle.rules.proofs.Frames.{KeptFrame, first_of}
use Rattle.rules.proofs.Lawful.{Lawful}
use Rattle.rules.proofs.Flags.{flags_of, flags_held, flags_taken}
use Rattle.rules.proofs.Encoding.{Encoded, stored, InTable}
use Rattle.rules.proofs.Runs.{encoded_run, found_run, encoded_bytes}
use Rattle.rules.proofs.KeepFrame.{stored_same}
use Rattle.rules.proofs.Found.{untaken_at}

-- a board that is open, by its view
abbrev pub running : Plan → View → Shown
running s x = record { shut = false; setup = summary s; view = x }

-- the run of a kept frame
abbrev pub run_of : KeptFrame → Run
run_of f = record { count = length f.buffers; length = length f.bytes; status = f.status }

pub some_length : (ds : List ℕ) → empty ds ≡ false → 0 < length ds
some_length [] o = absurd (true≢false o)
some_length (d ∷ ds) o = omega arith

pub head_flags : (s : Plan) (m : List ℕ) (tk first : Bool) (ds : List ℕ) (filled st : ℕ) → empty ds ≡ false → Encoded s m tk first ds filled st →
    (last : Bool) × ((descriptor (summary s) m (first_of ds)).flags ≡ flags_of first last tk)
head_flags s m tk first [] filled st o e = absurd (true≢false o)
head_flags s m tk first (x ∷ xs) filled st o e = (empty xs, ap (λ z. z.flags) e.0)

module _ (s : Plan) (L : Lawful s) where
  in_table_stored : (m : List ℕ) (tk : Bool) (f : KeptFrame) → length m ≡ s.shape.size → InTable s m tk f → stored s m f.buffers f.filled ≡ f.bytes
  in_table_stored m tk f sz l = stored_same s f.memory m f.buffers f.filled (sz ∙ sym l.size) l.untouched l.fits ∙ l.bytes

  pub in_table_run : (m : List ℕ) (tk : Bool) (f : KeptFrame) → length m ≡ s.shape.size → InTable s m tk f → length f.buffers ≤ number s →
      run (summary s) m tk (first_of f.buffers) ≡ Ok (run_of f)
  in_table_run m tk f sz l h =
      encoded_run s L m tk f.buffers f.filled f.status (first_of f.buffers) (number s) sz l.some l.row l.below h l.fits l.encoded
      ∙ ap (λ z. found_run (length f.buffers) (length z) f.status) (in_table_stored m tk f sz l)

  pub in_table_bytes : (m : List ℕ) (tk : Bool) (f : KeptFrame) → length m ≡ s.shape.size → InTable s m tk f →
      frame_bytes (summary s) m (first_of f.buffers) (length f.buffers) ≡ f.bytes
  in_table_bytes m tk f sz l =
      encoded_bytes s L m tk true f.buffers f.filled f.status (first_of f.buffers) sz l.row l.below l.fits l.encoded
      ∙ in_table_stored m tk f sz l

  pub in_table_untaken : (m : List ℕ) (f : KeptFrame) → InTable s m false f → untaken_at s L m (first_of f.buffers) ≡ true
  in_table_untaken m f l =
      let hf = head_flags s m false true f.buffers f.filled f.status l.some l.encoded in
      and_from _ _ (ap (has HELD) hf.1 ∙ flags_held true hf.0 false) (ap not (ap (has TAKEN) hf.1 ∙ flags_taken true hf.0 false))
