-- What every call keeps, and what it explains of the board.
--   Fits          the phase beside the ledger's arrival
--   Invariant     the table, CURR and HOST, the frames given, MPA and the phase are as the ledger says
--   history       the history of frames gone and frames that wait
--   explains      a history whose invariant holds explains the board
use Rattle.std.proofs.Common.{◌≡◌, ℕ, ◌<◌, ◌≤◌, Bool, true, false, not, List, [], ◌∷◌, ◌++◌, map, length, take, sym, refl, ap, ◌∙◌}
use Rattle.std.specs.List.{AllByRecursion as All}
use Rattle.std.proofs.ByRecursion.{All-weaker}
use Rattle.std.proofs.lemmas.List.{map-append}
use Rattle.crc.specs.Crc.{crc_over, start}
use Rattle.rules.specs.declared.state.Phase.TheVariants.{Address, Ignored, Idle}
use Rattle.rules.specs.Bits.{has, MPA}
use Rattle.rules.specs.Views.{View, idle}
use Rattle.rules.specs.Plan.{Plan, number, summary}
use Rattle.rules.specs.Calls.{Receipt}
use Rattle.rules.specs.Ledger.{Arrival, Fill, no_fill, recognised, under_way}
use Rattle.rules.specs.Ledger.Arrival.{none, coming}
use Rattle.rules.specs.Explains.{waiting as waiting_in, History, board_recognised, ledger_recognised, board_missed, ledger_missed, handed, Explains}
use Rattle.rules.proofs.Frames.{Gone, first_of, KeptFrame, after_waiting, after_gone, receipt, frame_of, flat, sights, delivery}
use Rattle.rules.proofs.Flat.{length_sights, after_taken_flat, deliveries_flat, untouched_flat, UntouchedGone, UntouchedKept}
use Rattle.rules.proofs.Lawful.{Lawful}
use Rattle.rules.proofs.Encoding.{Row, TableFits, InTable, GoneInTable}
use Rattle.rules.proofs.Rows.{row_is}
use Rattle.rules.proofs.Waiting.{InOrder, waiting_are}
use Rattle.rules.proofs.Progress.{Stores, Misses, short_unrecognised}

abbrev pub own_of : Arrival → List ℕ
own_of none = []
own_of (coming bs f) = f.own

pub record AddressFits (x : View) (bs : List ℕ) (f : Fill) : Type 0 where
  pub six : List ℕ
  pub places : length six ≡ 6
  pub phase : x.state.phase ≡ Address six (length bs)
  pub sofar : take (length bs) six ≡ bs
  pub short : length bs < 6
  pub fresh : f ≡ no_fill
  pub crc : x.state.crc ≡ crc_over start bs

pub record IgnoredFits (among : List ℕ → Bool) (x : View) (bs : List ℕ) (f : Fill) : Type 0 where
  pub phase : x.state.phase ≡ Ignored
  pub long : 6 ≤ length bs
  pub fresh : f ≡ no_fill
  pub unknown : recognised among bs ≡ false

pub record StoringFits (s : Plan) (among : List ℕ → Bool) (x : View) (bs : List ℕ) (f : Fill) : Type 0 where
  pub stores : Stores s x f bs
  pub long : 6 ≤ length bs
  pub known : recognised among bs ≡ true
  pub crc : x.state.crc ≡ crc_over start bs

pub record MissedFits (among : List ℕ → Bool) (x : View) (bs : List ℕ) (f : Fill) : Type 0 where
  pub misses : Misses x f
  pub long : 6 ≤ length bs
  pub known : recognised among bs ≡ true

pub data ComingFits (s : Plan) (among : List ℕ → Bool) (x : View) (bs : List ℕ) (f : Fill) : Type 0 where
  in_address : AddressFits x bs f → ComingFits s among x bs f
  in_ignored : IgnoredFits among x bs f → ComingFits s among x bs f
  in_storing : StoringFits s among x bs f → ComingFits s among x bs f
  in_missed : MissedFits among x bs f → ComingFits s among x bs f

abbrev pub Fits : Plan → (List ℕ → Bool) → View → Bool → Arrival → Type 0
Fits s among x lost none = x.state.phase ≡ Idle
Fits s among x lost (coming bs f) = (lost ≡ f.missed) × ComingFits s among x bs f

abbrev pub RowGone : Plan → Gone → Type 0
RowGone s g = Row s (first_of g.frame.buffers) g.frame.buffers

pub record Invariant (s : Plan) (among : List ℕ → Bool) (gone : List Gone) (waiting : List KeptFrame) (a : Arrival) (lost : Bool) (given : List Receipt) (x : View) : Type 0 where
  pub table : TableFits s gone waiting (own_of a) x.memory
  pub curr : x.state.curr ≡ after_waiting s waiting (after_gone s gone 0)
  pub host : x.state.host ≡ after_gone s gone 0
  pub below : x.state.host < number s
  pub order : InOrder s x.state.host waiting
  pub gave : given ≡ map receipt (map frame_of gone)
  pub rows : All (RowGone s) gone
  pub mpa : has MPA x.state.registers.rstat ≡ lost
  pub fits : Fits s among x lost a

abbrev pub history : List Gone → List KeptFrame → Arrival → Bool → List Receipt → History
history gone waiting a lost given = record {
  ledger = record { frames = flat gone waiting; arrival = a; missed = lost };
  given = given;
  ends_seen = sights gone waiting;
}

module _ (s : Plan) (L : Lawful s) (among : List ℕ → Bool) where
  pub under_way_not_idle : (x : View) (bs : List ℕ) (f : Fill) → ComingFits s among x bs f → idle x.state.phase ≡ false
  under_way_not_idle x bs f (in_address R) = ap idle R.phase
  under_way_not_idle x bs f (in_ignored R) = ap idle R.phase
  under_way_not_idle x bs f (in_storing R) = ap idle R.stores.phase
  under_way_not_idle x bs f (in_missed R) = ap idle R.misses.phase

  abbrev PhasesAgree : View → Arrival → Type 0
  PhasesAgree x a =
      (not (idle x.state.phase) ≡ under_way a) × (board_recognised x.state.phase ≡ ledger_recognised among a)
      × (board_missed x.state.phase ≡ ledger_missed a)

  coming_agrees : (x : View) (bs : List ℕ) (f : Fill) → ComingFits s among x bs f → PhasesAgree x (coming bs f)
  coming_agrees x bs f (in_address R) = (
    ap (λ p. not (idle p)) R.phase,
    ap board_recognised R.phase ∙ sym (short_unrecognised among bs R.short),
    ap board_missed R.phase ∙ ap (λ g. g.missed) (sym R.fresh),
  )
  coming_agrees x bs f (in_ignored R) =
      (ap (λ p. not (idle p)) R.phase, ap board_recognised R.phase ∙ sym R.unknown, ap board_missed R.phase ∙ ap (λ g. g.missed) (sym R.fresh))
  coming_agrees x bs f (in_storing R) =
      (ap (λ p. not (idle p)) R.stores.phase, ap board_recognised R.stores.phase ∙ sym R.known, ap board_missed R.stores.phase ∙ sym R.stores.found)
  coming_agrees x bs f (in_missed R) =
      (ap (λ p. not (idle p)) R.misses.phase, ap board_recognised R.misses.phase ∙ sym R.known, ap board_missed R.misses.phase ∙ sym R.misses.lost)

  phases_agree : (x : View) (lost : Bool) (a : Arrival) → Fits s among x lost a → PhasesAgree x a
  phases_agree x lost none F = (ap (λ p. not (idle p)) F, ap board_recognised F, ap board_missed F)
  phases_agree x lost (coming bs f) F = coming_agrees x bs f F.1

  pub handed_is : (f : KeptFrame) → Row s (first_of f.buffers) f.buffers → handed s (receipt f) ≡ delivery f
  handed_is f r = ap (λ z. record { buffers = z; bytes = f.bytes; status = f.status }) (row_is s (first_of f.buffers) f.buffers r)

  handed_gone : (gs : List Gone) → All (RowGone s) gs → map (handed s) (map receipt (map frame_of gs)) ≡ map delivery (map frame_of gs)
  handed_gone [] l = refl
  handed_gone (g ∷ gs) l =
      ap (λ z. handed s (receipt g.frame) ∷ z) (handed_gone gs l.1) ∙ ap (λ z. z ∷ map delivery (map frame_of gs)) (handed_is g.frame l.0)

  handed_waiting : (m : List ℕ) (fs : List KeptFrame) → All (InTable s m false) fs → map (handed s) (map receipt fs) ≡ map delivery fs
  handed_waiting m [] l = refl
  handed_waiting m (f ∷ fs) l = ap (λ z. handed s (receipt f) ∷ z) (handed_waiting m fs l.1) ∙ ap (λ z. z ∷ map delivery fs) (handed_is f l.0.row)

  pub explains : (gone : List Gone) (waiting : List KeptFrame) (a : Arrival) (lost : Bool) (given : List Receipt) (x : View) →
      Invariant s among gone waiting a lost given x → Explains s among (history gone waiting a lost given) x
  explains gone waiting a lost given x I =
      let m = x.memory in
      let p = phases_agree x lost a I.fits in
      let w = waiting_are s L gone waiting (own_of a) m x.state.host I.table I.order I.below in
      record {
        sighted = length_sights gone waiting;
        delivered =
            ap (map (handed s)) (ap (λ z. given ++ waiting_in (summary s) m z) (after_taken_flat s gone waiting 0 ∙ sym I.host)
            ∙ ap (λ z. given ++ z) w ∙ ap (λ z. z ++ map receipt waiting) I.gave)
            ∙ map-append (handed s) (map receipt (map frame_of gone)) (map receipt waiting)
            ∙ ap (λ z. z ++ map (handed s) (map receipt waiting)) (handed_gone gone I.rows)
            ∙ ap (λ z. map delivery (map frame_of gone) ++ z) (handed_waiting m waiting I.table.untaken)
            ∙ sym (map-append delivery (map frame_of gone) waiting)
            ∙ sym (deliveries_flat gone waiting);
        untouched = untouched_flat s m gone waiting
            (All-weaker (GoneInTable s m) (UntouchedGone s m) (λ g l e. (l e).untouched) gone I.table.taken)
            (All-weaker (InTable s m false) (UntouchedKept s m) (λ f l. l.untouched) waiting I.table.untaken);
        in_step = p.0;
        recognises = p.1;
        misses = p.2;
        mpa = I.mpa;
      }
