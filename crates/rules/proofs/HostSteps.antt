-- A take, a release, and the calls that change nothing that the ledger keeps.
use Rattle.std.proofs.Common.{◌≡◌, ℕ, ◌+◌, ◌-◌, ◌%◌, ◌<◌, Bool, false, List, [], ◌∷◌, ◌++◌, map, length, get_or, Some, None, Option, sym, refl, ap, ◌∙◌, subst, subst₂, arith}
use lib.Bits.{bit_and}
use Rattle.std.specs.List.{AllByRecursion as All}
use Rattle.std.proofs.ByRecursion.{All-append}
use Rattle.std.proofs.lemmas.List.{map-append}
use Rattle.rules.specs.declared.state.Register.{Register}
use Rattle.rules.specs.declared.state.Register.TheVariants.{IntStat, RStat, AliCnt, CrcCnt, MpCnt, RBegin, REnd, RCon, IntMask}
use Rattle.rules.specs.declared.state.Registers.{Registers}
use Rattle.rules.specs.Bits.{has, MPA}
use Rattle.rules.specs.Table.{take_run, clear_run}
use Rattle.rules.specs.Views.{view, View, with_registers, with_alicnt, with_crccnt, with_mpcnt, with_intstat, with_intmask}
use Rattle.rules.specs.Host.{take_view}
use Rattle.rules.specs.Registers.{state_read, state_written}
use Rattle.rules.specs.Plan.{after, Plan, buffer, number, times, summary}
use Rattle.rules.specs.Calls.{Receipt}
use Rattle.rules.specs.Ledger.{Arrival}
use Rattle.rules.specs.Ledger.Arrival.{none, coming}
use Rattle.rules.proofs.Frames.{after_gone, Gone, frame_of, KeptFrame, receipt, after_waiting, release_in}
use Rattle.rules.proofs.Lawful.{Lawful}
use Rattle.rules.proofs.Encoding.{Row, TableFits, GoneInTable}
use Rattle.rules.proofs.Agrees.{row_below}
use Rattle.rules.proofs.KeepFrame.{stored_same}
use Rattle.rules.proofs.TakeRun.{take_keeps_length, take_keeps_buffers}
use Rattle.rules.proofs.ClearRun.{clear_keeps_length, clear_keeps_others}
use Rattle.rules.proofs.TableSteps.{table_with_taken}
use Rattle.rules.proofs.Rows.{after_is_onward, onward_below}
use Rattle.rules.proofs.TableFrames.{running, run_of}
use Rattle.rules.proofs.Waiting.{InOrder}
use Rattle.rules.proofs.Release.{released_now, Named, starts_at_first, all_back, held_with, table_with_released}
use Rattle.rules.proofs.Invariant.{RowGone, own_of, Fits, ComingFits, Invariant}
use Rattle.rules.proofs.Invariant.ComingFits.{in_address, in_ignored, in_missed, in_storing}
use Rattle.rules.proofs.LineSteps.{curr_below}

after_gone_append : (s : Plan) (gs hs : List Gone) (d : ℕ) → after_gone s (gs ++ hs) d ≡ after_gone s hs (after_gone s gs d)
after_gone_append s [] hs d = refl
after_gone_append s (g ∷ gs) hs d = after_gone_append s gs hs (after s g.frame.buffers d)

frames_same : (before : List Gone) (g : Gone) (behind : List Gone) → map frame_of (before ++ (released_now g ∷ behind)) ≡ map frame_of (before ++ (g ∷ behind))
frames_same [] g behind = refl
frames_same (h ∷ hs) g behind = ap (λ z. h.frame ∷ z) (frames_same hs g behind)

rows_same : (s : Plan) (before : List Gone) (g : Gone) (behind : List Gone) → All (RowGone s) (before ++ (g ∷ behind)) → All (RowGone s) (before ++ (released_now g ∷ behind))
rows_same s [] g behind a = a
rows_same s (h ∷ hs) g behind a = (a.0, rows_same s hs g behind a.1)

-- another view with the same phase, CRC register and CURR, and the same bytes in the arrival's buffers
fits_same : (s : Plan) (L : Lawful s) (among : List ℕ → Bool) (lost : Bool) (x x' : View) (a : Arrival) → x'.state.phase ≡ x.state.phase →
    x'.state.crc ≡ x.state.crc → x'.state.curr ≡ x.state.curr → x.state.curr < number s → length x'.memory ≡ length x.memory →
    ((d : ℕ) → d < number s → 0 < times d (own_of a) → (i : ℕ) → i < (buffer s d).length →
    get_or x'.memory ((buffer s d).start.0 + i) 0 ≡ get_or x.memory ((buffer s d).start.0 + i) 0) →
    Fits s among x lost a → Fits s among x' lost a
fits_same s L among lost x x' none p r c cn n k F = p ∙ F
fits_same s L among lost x x' (coming bs f) p r c cn n k F = (F.0, go F.1)
  where
    go : ComingFits s among x bs f → ComingFits s among x' bs f
    go (in_address R) = in_address (record {
      six = R.six;
      places = R.places;
      sofar = R.sofar;
      phase = p ∙ R.phase;
      short = R.short;
      fresh = R.fresh;
      crc = r ∙ R.crc;
    })
    go (in_ignored R) = in_ignored (record { phase = p ∙ R.phase; long = R.long; fresh = R.fresh; unknown = R.unknown })
    go (in_missed R) = in_missed (record { misses = record { phase = p ∙ R.misses.phase; lost = R.misses.lost }; long = R.long; known = R.known })
    go (in_storing R) =
        let S = R.stores in
        let G = S.filling in
        in_storing (record {
          long = R.long;
          known = R.known;
          crc = r ∙ R.crc;
          stores = record {
            t = S.t;
            phase = p ∙ S.phase;
            counts = S.counts;
            found = S.found;
            total = S.total;
            filling = record {
              row = subst (λ d. Row s d f.own) (sym c) G.row;
              fits = G.fits;
              bytes = stored_same s x.memory x'.memory f.own f.filled n
                  (λ d y. k d (row_below s L x.state.curr f.own cn G.row d y) y) G.fits ∙ G.bytes;
            };
          };
        })

module _ (s : Plan) (L : Lawful s) (among : List ℕ → Bool) (lost : Bool) (given : List Receipt) (x : View) where
  pub take_keeps : (gone : List Gone) (f : KeptFrame) (fs : List KeptFrame) (a : Arrival) → Invariant s among gone (f ∷ fs) a lost given x →
      Invariant s among (gone ++ (record { frame = f; released = false } ∷ [])) fs a lost (given ++ (receipt f ∷ [])) (take_view (running s x) (run_of f))
  take_keeps gone f fs a I =
      let ds = f.buffers in
      let m = x.memory in
      let d = x.state.host in
      let C = I.table in
      let lf = C.untaken.0 in
      let q = I.order.0 in
      let row : Row s d ds = subst (λ y. Row s y ds) q lf.row in
      let on = after_is_onward s L ds d row in
      record {
        table = subst (λ y. TableFits s (gone ++ (record { frame = f; released = false } ∷ [])) fs (own_of a) (take_run (summary s) m y (length ds))) q
            (table_with_taken s L gone f fs (own_of a) m C);
        curr = I.curr ∙ ap (after_waiting s fs) (sym (after_gone_append s gone (record { frame = f; released = false } ∷ []) 0));
        host = sym on ∙ ap (after s ds) I.host ∙ sym (after_gone_append s gone (record { frame = f; released = false } ∷ []) 0);
        below = onward_below s L (length ds) d I.below;
        order = subst (λ y. InOrder s y fs) on I.order.1;
        rows = All-append (RowGone s) gone (record { frame = f; released = false } ∷ []) I.rows (lf.row, tt);
        gave = ap (λ z. z ++ (receipt f ∷ [])) I.gave
            ∙ sym (ap (map receipt) (map-append frame_of gone (record { frame = f; released = false } ∷ [])) ∙ map-append receipt (map frame_of gone) (f ∷ []));
        mpa = I.mpa;
        fits = fits_same s L among lost x (take_view (running s x) (run_of f)) a refl refl refl (curr_below s L among gone (f ∷ fs) lost given x a I)
            (take_keeps_length s L m (length ds) d) (λ y n t. take_keeps_buffers s L m (length ds) d I.below y n) I.fits;
      }

  pub release_keeps : (gone : List Gone) (waiting : List KeptFrame) (a : Arrival) (d : ℕ) → (n : Named d gone) → Invariant s among gone waiting a lost given x →
      Invariant s among (release_in d gone) waiting a lost given (view (clear_run (summary s) x.memory d (length n.this.frame.buffers)) x.state)
  release_keeps gone waiting a d n I =
      let g = n.this in
      let ds = g.frame.buffers in
      let m = x.memory in
      let at = starts_at_first ds d n.at in
      let C : TableFits s (n.before ++ (g ∷ n.behind)) waiting (own_of a) m = subst (λ z. TableFits s z waiting (own_of a) m) n.is I.table in
      let lg = (all_back (GoneInTable s m) n.before (g ∷ n.behind) C.taken).0 n.unreleased in
      let row : Row s d ds = subst (λ y. Row s y ds) at lg.row in
      let dn : d < number s = subst (λ y. y < number s) at lg.below in
      let frames : map frame_of (release_in d gone) ≡ map frame_of gone =
      ap (map frame_of) n.becomes ∙ frames_same n.before g n.behind ∙ ap (map frame_of) (sym n.is) in
      let places : after_gone s (release_in d gone) 0 ≡ after_gone s gone 0 =
      ap (λ z. after_gone s z 0) n.becomes ∙ after_gone_append s n.before (released_now g ∷ n.behind) 0
      ∙ sym (after_gone_append s n.before (g ∷ n.behind) 0) ∙ ap (λ z. after_gone s z 0) (sym n.is) in
      let sum = held_with n.before g n.behind n.unreleased in
      record {
        table = subst₂ (λ z y. TableFits s z waiting (own_of a) (clear_run (summary s) m y (length ds))) (sym n.becomes) at
            (table_with_released s L n.before g n.behind waiting (own_of a) m n.unreleased C);
        curr = I.curr ∙ ap (after_waiting s waiting) (sym places);
        host = I.host ∙ sym places;
        below = I.below;
        order = I.order;
        rows = subst (All (RowGone s)) (sym n.becomes) (rows_same s n.before g n.behind (subst (All (RowGone s)) n.is I.rows));
        gave = I.gave ∙ ap (map receipt) (sym frames);
        mpa = I.mpa;
        fits = fits_same s L among lost x (view (clear_run (summary s) m d (length ds)) x.state) a refl refl refl
            (curr_below s L among gone waiting lost given x a I) (clear_keeps_length s L m (length ds) d)
            (λ y yn t. (clear_keeps_others s L m ds d row dn y yn (let o = C.once y in let e = sum y in omega arith)).bytes) I.fits;
      }

  registers_keep : (gone : List Gone) (waiting : List KeptFrame) (a : Arrival) (r : Registers) → r.rstat ≡ x.state.registers.rstat →
      Invariant s among gone waiting a lost given x → Invariant s among gone waiting a lost given (view x.memory (with_registers x.state r))
  registers_keep gone waiting a r q I = record {
    table = I.table;
    curr = I.curr;
    host = I.host;
    below = I.below;
    order = I.order;
    gave = I.gave;
    rows = I.rows;
    mpa = ap (has MPA) q ∙ I.mpa;
    fits = fits_same s L among lost x (view x.memory (with_registers x.state r)) a refl refl refl
        (curr_below s L among gone waiting lost given x a I) refl (λ d n t i h. refl) I.fits;
  }

  pub read_keeps : (gone : List Gone) (waiting : List KeptFrame) (a : Arrival) → Invariant s among gone waiting a lost given x → (r : Option Register) →
      Invariant s among gone waiting a lost given (view x.memory (state_read x.state r))
  read_keeps gone waiting a I None = I
  read_keeps gone waiting a I (Some IntStat) = I
  read_keeps gone waiting a I (Some RStat) = I
  read_keeps gone waiting a I (Some AliCnt) = registers_keep gone waiting a (with_alicnt x.state.registers 0) refl I
  read_keeps gone waiting a I (Some CrcCnt) = registers_keep gone waiting a (with_crccnt x.state.registers 0) refl I
  read_keeps gone waiting a I (Some MpCnt) = registers_keep gone waiting a (with_mpcnt x.state.registers 0) refl I
  read_keeps gone waiting a I (Some RBegin) = I
  read_keeps gone waiting a I (Some REnd) = I
  read_keeps gone waiting a I (Some RCon) = I
  read_keeps gone waiting a I (Some IntMask) = I

  pub write_keeps : (gone : List Gone) (waiting : List KeptFrame) (a : Arrival) → Invariant s among gone waiting a lost given x → (r : Option Register) (v : ℕ) →
      Invariant s among gone waiting a lost given (view x.memory (state_written x.state r v))
  write_keeps gone waiting a I None v = I
  write_keeps gone waiting a I (Some IntStat) v =
      registers_keep gone waiting a (with_intstat x.state.registers (bit_and x.state.registers.intstat (255 - v))) refl I
  write_keeps gone waiting a I (Some RStat) v = I
  write_keeps gone waiting a I (Some AliCnt) v = I
  write_keeps gone waiting a I (Some CrcCnt) v = I
  write_keeps gone waiting a I (Some MpCnt) v = I
  write_keeps gone waiting a I (Some RBegin) v = I
  write_keeps gone waiting a I (Some REnd) v = I
  write_keeps gone waiting a I (Some RCon) v = I
  write_keeps gone waiting a I (Some IntMask) v = registers_keep gone waiting a (with_intmask x.state.registers (v % 128)) refl I
