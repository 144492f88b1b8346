-- A begin, and the two ways in which an arrival is over: kept as a frame, or not.
--   Tracked           a history of gone and waiting frames whose invariant holds
use Rattle.std.proofs.Common.{◌≡◌, ℕ, ◌<◌, ◌≤◌, Bool, true, false, eqb, List, [], ◌∷◌, ◌++◌, length, sym, refl, ap, ◌∙◌, subst₂, arith}
use Rattle.std.specs.List.{flat_map}
use Rattle.std.proofs.lemmas.Bool.{true≢false, ne_eqb, cond-false}
use Rattle.crc.specs.Crc.{crc_over}
use Rattle.rules.specs.declared.state.Phase.TheVariants.{Idle}
use Rattle.rules.specs.declared.state.Registers.{Registers}
use Rattle.rules.specs.declared.state.Stored.{Stored}
use Rattle.rules.specs.Bits.{has, MPA}
use Rattle.rules.specs.Table.{keep_run}
use Rattle.rules.specs.Views.{View, view, with_registers}
use Rattle.rules.specs.Arrivals.{began, over, kept}
use Rattle.rules.specs.Plan.{Plan, after, number, summary, next, latest}
use Rattle.rules.specs.Calls.{Receipt}
use Rattle.rules.specs.Ledger.{Arrival, no_fill, empty}
use Rattle.rules.specs.Ledger.Arrival.{none, coming}
use Rattle.rules.specs.Explains.{History}
use Rattle.rules.proofs.Frames.{Gone, KeptFrame, after_waiting, first_of, after_gone}
use Rattle.rules.proofs.Lawful.{Lawful}
use Rattle.rules.proofs.Encoding.{stored, keep_list}
use Rattle.rules.proofs.KeepList.{keep_run_is}
use Rattle.rules.proofs.KeepFrame.{keep_extends_waiting, row_first}
use Rattle.rules.proofs.TableSteps.{table_without_own}
use Rattle.rules.proofs.Rows.{after_below, wanted_is_after}
use Rattle.rules.proofs.Waiting.{InOrder, row_joined, buffers_of, after_joined}
use Rattle.rules.proofs.Filling.{Counts, Filling, filling_of}
use Rattle.rules.proofs.Invariant.{history, Invariant, own_of}
use Rattle.rules.proofs.Invariant.ComingFits.{in_address}

pub record Tracked (s : Plan) (among : List ℕ → Bool) (h : History) (x : View) : Type 0 where
  pub gone : List Gone
  pub waiting : List KeptFrame
  pub arrival : Arrival
  pub lost : Bool
  pub given : List Receipt
  pub is : h ≡ history gone waiting arrival lost given
  pub holds : Invariant s among gone waiting arrival lost given x

module _ (s : Plan) (L : Lawful s) where
  after_waiting_push : (ws : List KeptFrame) (f : KeptFrame) (d : ℕ) → after_waiting s (ws ++ (f ∷ [])) d ≡ after s f.buffers (after_waiting s ws d)
  after_waiting_push [] f d = refl
  after_waiting_push (w ∷ ws) f d = after_waiting_push ws f (after s w.buffers d)

  order_push : (ws : List KeptFrame) (f : KeptFrame) (d : ℕ) → InOrder s d ws → first_of f.buffers ≡ after_waiting s ws d → InOrder s d (ws ++ (f ∷ []))
  order_push [] f d o q = (q, tt)
  order_push (w ∷ ws) f d o q = (o.0, order_push ws f (after s w.buffers d) o.1 q)

  module _ (among : List ℕ → Bool) (gone : List Gone) (waiting : List KeptFrame) (lost : Bool) (given : List Receipt) (x : View) where
    pub curr_below : (a : Arrival) → Invariant s among gone waiting a lost given x → x.state.curr < number s
    curr_below a I =
        let row = row_joined s L x.memory waiting x.state.host I.table.untaken I.order in
        let e : x.state.curr ≡ after s (flat_map buffers_of waiting) x.state.host =
        I.curr ∙ ap (after_waiting s waiting) (sym I.host) ∙ sym (after_joined s L waiting x.state.host) in
        rw e (after_below s L (flat_map buffers_of waiting) x.state.host row I.below)

    pub begin_keeps : Invariant s among gone waiting none lost given x →
        Invariant s among gone waiting (coming [] no_fill) false given (view x.memory (began x.state))
    unfolding crc_over
    begin_keeps I = record {
      table = I.table;
      curr = I.curr;
      host = I.host;
      below = I.below;
      order = I.order;
      gave = I.gave;
      rows = I.rows;
      mpa = refl;
      fits = (
        refl,
        in_address (record {
          six = 0 ∷ 0 ∷ 0 ∷ 0 ∷ 0 ∷ 0 ∷ [];
          places = refl;
          phase = refl;
          sofar = refl;
          short = omega arith;
          fresh = refl;
          crc = refl;
        }),
      );
    }

    pub over_keeps : (a : Arrival) (r : Registers) → has MPA r.rstat ≡ has MPA x.state.registers.rstat → Invariant s among gone waiting a lost given x →
        Invariant s among gone waiting none lost given (over (view x.memory (with_registers x.state r)))
    over_keeps a r q I = record {
      table = table_without_own s L gone waiting (own_of a) x.memory I.table;
      curr = I.curr;
      host = I.host;
      below = I.below;
      order = I.order;
      gave = I.gave;
      rows = I.rows;
      mpa = q ∙ I.mpa;
      fits = refl;
    }

    some_own : (own : List ℕ) (filled : ℕ) (bs : List ℕ) → 6 ≤ length bs → stored s x.memory own filled ≡ bs → empty own ≡ false
    some_own [] filled bs h q = absurd (let z : 0 ≡ length bs = ap length q in omega arith)
    some_own (d ∷ ds) filled bs h q = refl

    some_count : (own : List ℕ) → empty own ≡ false → eqb (length own) 0 ≡ false
    some_count [] o = absurd (true≢false o)
    some_count (d ∷ ds) o = ne_eqb (length (d ∷ ds)) 0 (λ q. omega arith)

    pub kept_adds_frame : (t : Stored) (own : List ℕ) (filled : ℕ) (bs : List ℕ) (r : Registers) → Counts s t own filled →
        has MPA r.rstat ≡ has MPA x.state.registers.rstat → 6 ≤ length bs → Filling s x.state.curr x.memory own filled bs →
        Invariant s among gone waiting (coming bs (filling_of own filled)) lost given x →
        Invariant s among gone (waiting ++ (record { buffers = own; filled = filled; bytes = bs; status = r.rstat; memory = (kept (summary s) x t r).memory } ∷ [])) none lost given
        (kept (summary s) x t r)
    kept_adds_frame t own filled bs r K q h F I =
        let m = x.memory in
        let c = x.state.curr in
        let st = r.rstat in
        let some = some_own own filled bs h F.bytes in
        let cn = curr_below (coming bs (filling_of own filled)) I in
        let m' = keep_list s m true own filled st in
        let f : KeptFrame = record { buffers = own; filled = filled; bytes = bs; status = st; memory = m' } in
        let Y : List ℕ → ℕ → View = λ n d. view n (record { registers = r; curr = d; host = x.state.host; crc = x.state.crc; phase = Idle }) in
        let G : List ℕ → ℕ → Type 0 = λ n d.
        Invariant s among gone (waiting ++ (record { buffers = own; filled = filled; bytes = bs; status = st; memory = n } ∷ [])) none lost given (Y n d) in
        let memory_is : keep_run (summary s) m c t.filled st true t.used ≡ m' =
        ap (λ u. keep_run (summary s) m c t.filled st true u) K.many ∙ ap (λ u. keep_run (summary s) m c u st true (length own)) K.fill
        ∙ keep_run_is s m true own c filled st F.row in
        let curr_is : next s t.latest ≡ after s own c =
        ap (next s) K.newest ∙ sym (cond-false (eqb (length own) 0) c (next s (latest own 0)) (some_count own some)) ∙ wanted_is_after s L own c in
        subst₂ G (sym memory_is) (sym curr_is) (record {
          table = keep_extends_waiting s L gone waiting own m I.table c filled st bs cn F.row some F.fits F.bytes;
          curr = ap (after s own) I.curr ∙ sym (after_waiting_push waiting f (after_gone s gone 0));
          host = I.host;
          below = I.below;
          order = order_push waiting f x.state.host I.order (row_first s c own some F.row ∙ I.curr ∙ ap (after_waiting s waiting) (sym I.host));
          gave = I.gave;
          rows = I.rows;
          mpa = q ∙ I.mpa;
          fits = refl;
        })
