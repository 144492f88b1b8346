-- The frames that wait in the table are those that wait in the ledger, in their order.
use Rattle.std.proofs.Common.{◌≡◌, ℕ, zero, suc, ◌+◌, ◌-◌, ◌<◌, ◌≤◌, true, false, cond, ◌&&◌, ltb, leb, ◌⊎◌, List, [], ◌∷◌, map, length, Ok, Err, Result, sym, refl, ap, ◌∙◌, subst, inl, inr, ⊎_elim, arith}
use Rattle.std.specs.List.{flat_map, AllByRecursion as All}
use Rattle.std.proofs.lemmas.List.{length-append}
use Rattle.std.proofs.lemmas.Bool.{cond-false, and_left, le-ltb, and_right, cond-true, and_from, lt-ltb, cases_lt}
use Rattle.refusal.specs.declared.Refusal.{Refusal}
use Rattle.refusal.specs.declared.Refusal.TheVariants.{NoFrame, Broken, ShortBuffer}
use Rattle.rules.specs.declared.state.Run.{Run}
use Rattle.rules.specs.Table.{run, frame_bytes, onward, descriptor, lawful}
use Rattle.rules.specs.Views.{View}
use Rattle.rules.specs.Host.{take_judged, room_judged}
use Rattle.rules.specs.Plan.{Plan, after, times, number, summary}
use Rattle.rules.specs.Explains.{waiting, runs, next_run}
use Rattle.rules.proofs.Frames.{KeptFrame, first_of, held_waiting, after_waiting, receipt, Gone}
use Rattle.rules.proofs.Lawful.{Lawful}
use Rattle.rules.proofs.Encoding.{InTable, Row, TableFits}
use Rattle.rules.proofs.Agrees.{times_append}
use Rattle.rules.proofs.Rows.{row_append, after_append, after_is_onward, row_length, onward_below, row_end}
use Rattle.rules.proofs.Found.{untaken_at, free_or_taken, all_lawful}
use Rattle.rules.proofs.TableFrames.{some_length, run_of, in_table_run, in_table_bytes, in_table_untaken, running}

abbrev pub buffers_of : KeptFrame → List ℕ
buffers_of f = f.buffers

-- each frame begins where the one before it ended, from d on
abbrev pub InOrder : Plan → ℕ → List KeptFrame → Type 0
InOrder s d [] = Unit {0}
InOrder s d (f ∷ fs) = (first_of f.buffers ≡ d) × InOrder s (after s f.buffers d) fs

module _ (s : Plan) (L : Lawful s) where
  pub row_joined : (m : List ℕ) (ws : List KeptFrame) (d : ℕ) → All (InTable s m false) ws → InOrder s d ws → Row s d (flat_map buffers_of ws)
  row_joined m [] d l o = tt
  row_joined m (f ∷ fs) d l o =
      row_append s L f.buffers (flat_map buffers_of fs) d (subst (λ y. Row s y f.buffers) o.0 l.0.row) (row_joined m fs (after s f.buffers d) l.1 o.1)

  times_joined : (ws : List KeptFrame) (x : ℕ) → times x (flat_map buffers_of ws) ≡ held_waiting ws x
  times_joined [] x = refl
  times_joined (f ∷ fs) x = times_append x f.buffers (flat_map buffers_of fs) ∙ ap (λ y. times x f.buffers + y) (times_joined fs x)

  pub after_joined : (ws : List KeptFrame) (d : ℕ) → after s (flat_map buffers_of ws) d ≡ after_waiting s ws d
  after_joined [] d = refl
  after_joined (f ∷ fs) d = after_append s L f.buffers (flat_map buffers_of fs) d ∙ after_joined fs (after s f.buffers d)

  runs_are : (m : List ℕ) (ws : List KeptFrame) (k left d : ℕ) → length m ≡ s.shape.size → All (InTable s m false) ws → InOrder s d ws →
      length (flat_map buffers_of ws) ≤ left → left ≤ number s → length ws ≤ k →
      (left ≡ length (flat_map buffers_of ws)) ⊎ (untaken_at s L m (after_waiting s ws d) ≡ false) → runs (summary s) m k left d ≡ map receipt ws
  unfolding runs
  runs_are m [] zero left d sz l o t u n c = refl
  runs_are m [] (suc k) left d sz l o t u n c = cond-false (ltb 0 left && untaken_at s L m d) _ []
      (⊎_elim (λ z. and_left (ltb 0 left) _ (le-ltb 0 left (omega arith))) (λ z. and_right (ltb 0 left) _ z) c)
  runs_are m (f ∷ fs) zero left d sz l o t u n c = absurd (omega arith)
  runs_are m (f ∷ fs) (suc k) left d sz l o t u n c =
      let lf = l.0 in
      let q = o.0 in
      let ds = f.buffers in
      let e = length-append ds (flat_map buffers_of fs) in
      let some = some_length ds lf.some in
      let r : run (summary s) m false d ≡ Ok (run_of f) = subst (λ y. run (summary s) m false y ≡ Ok (run_of f)) q (in_table_run s L m false f sz lf (omega arith)) in
      let fb : frame_bytes (summary s) m d (length ds) ≡ f.bytes = subst (λ y. frame_bytes (summary s) m y (length ds) ≡ f.bytes) q (in_table_bytes s L m false f sz lf) in
      let ts : untaken_at s L m d ≡ true = subst (λ y. untaken_at s L m y ≡ true) q (in_table_untaken s L m f lf) in
      let row : Row s d ds = subst (λ y. Row s y ds) q lf.row in
      let ih = runs_are m fs k (left - length ds) (after s ds d) sz l.1 o.1 (omega arith) (omega arith) (omega arith) (⊎_elim (λ z. inl (omega arith)) (λ z. inr z) c) in
      let later = runs (summary s) m k (left - length ds) (onward (summary s) d (length ds)) in
      cond-true (ltb 0 left && untaken_at s L m d) _ [] (and_from _ _ (lt-ltb 0 left (omega arith)) ts)
      ∙ ap (λ z. next_run (summary s) m left d z (λ rest e. runs (summary s) m k rest e)) r
      ∙ ap (λ z. record { first = d; count = length ds; bytes = z; status = f.status } ∷ later) fb
      ∙ ap (λ y. record { first = y; count = length ds; bytes = f.bytes; status = f.status } ∷ later) (sym q)
      ∙ ap (λ z. receipt f ∷ z) (ap (λ y. runs (summary s) m k (left - length ds) y) (sym (after_is_onward s L ds d row)) ∙ ih)

  fewer_than_buffers : (m : List ℕ) (ws : List KeptFrame) → All (InTable s m false) ws → length ws ≤ length (flat_map buffers_of ws)
  fewer_than_buffers m [] l = omega arith
  fewer_than_buffers m (f ∷ fs) l =
      let e = length-append f.buffers (flat_map buffers_of fs) in
      let o = some_length f.buffers l.0.some in
      let ih = fewer_than_buffers m fs l.1 in
      omega arith

  pub waiting_are : (gone : List Gone) (ws : List KeptFrame) (own m : List ℕ) (d : ℕ) → TableFits s gone ws own m → InOrder s d ws → d < number s →
      waiting (summary s) m d ≡ map receipt ws
  waiting_are gone ws own m d C o dn =
      let W = flat_map buffers_of ws in
      let row = row_joined m ws d C.untaken o in
      let few = row_length s L W d row dn (λ x. let a = times_joined ws x in let b = C.once x in omega arith) in
      let fewer = fewer_than_buffers m ws C.untaken in
      let at_end : after_waiting s ws d ≡ onward (summary s) d (length W) = sym (after_joined ws d) ∙ after_is_onward s L W d row in
      runs_are m ws (number s) (number s) d C.size C.untaken o few (omega arith) (omega arith)
      (⊎_elim
      (λ h. inr (subst (λ y. untaken_at s L m y ≡ false) (sym at_end)
      (free_or_taken s L gone ws own m C (onward (summary s) d (length W)) (onward_below s L (length W) d dn)
      (sym (times_joined ws (onward (summary s) d (length W))) ∙ row_end s L W d row dn h))))
      (λ h. inl (omega arith)) (cases_lt (length W) (number s)))

  -- what a take is for
  pub take_finds_none : (x : View) (gone : List Gone) (own : List ℕ) (room : ℕ) → TableFits s gone [] own x.memory → x.state.host < number s →
      take_judged (running s x) room ≡ Err NoFrame
  take_finds_none x gone own room C hn =
      let e = descriptor (summary s) x.memory x.state.host in
      cond-true (lawful (summary s) e) _ (Err (Broken x.state.host)) (all_lawful s L gone [] own x.memory C x.state.host hn)
      ∙ cond-false (untaken_at s L x.memory x.state.host) _ (Err NoFrame) (free_or_taken s L gone [] own x.memory C x.state.host hn refl)

  pub take_finds_first : (x : View) (gone : List Gone) (f : KeptFrame) (fs : List KeptFrame) (own : List ℕ) (room : ℕ) →
      TableFits s gone (f ∷ fs) own x.memory → x.state.host ≡ first_of f.buffers →
      take_judged (running s x) room ≡ cond (leb (length f.bytes) room) (Ok (run_of f)) (Err ShortBuffer)
  take_finds_first x gone f fs own room C h =
      let m = x.memory in
      let lf = C.untaken.0 in
      let ds = f.buffers in
      let d = first_of ds in
      let short : length ds ≤ number s = row_length s L ds d lf.row lf.below (λ y. let o = C.once y in omega arith) in
      let P : ℕ → Result Run Refusal = λ y.
      cond (lawful (summary s) (descriptor (summary s) m y))
      (cond (untaken_at s L m y) (room_judged room (run (summary s) m false y)) (Err NoFrame)) (Err (Broken y)) in
      ap P h
      ∙ cond-true (lawful (summary s) (descriptor (summary s) m d)) _ (Err (Broken d)) (all_lawful s L gone (f ∷ fs) own m C d lf.below)
      ∙ cond-true (untaken_at s L m d) _ (Err NoFrame) (in_table_untaken s L m f lf)
      ∙ ap (room_judged room) (in_table_run s L m false f C.size lf short)
