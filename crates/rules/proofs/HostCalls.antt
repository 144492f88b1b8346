-- The host's calls: take, release, and those that change nothing that the ledger keeps.
use Rattle.std.proofs.Common.{◌≡◌, ℕ, Bool, false, cond, ltb, leb, List, [], ◌∷◌, ◌++◌, length, get_or, Some, None, Ok, Err, Option, Result, sym, refl, ap, ◌∙◌, ⊎_elim}
use Rattle.std.proofs.lemmas.List.{append-nil}
use Rattle.std.proofs.lemmas.Bool.{cases_Bool, cond-true, cond-false}
use Rattle.refusal.specs.Numbers.{code}
use Rattle.refusal.specs.declared.Refusal.{Refusal}
use Rattle.refusal.specs.declared.Refusal.TheVariants.{Outside}
use Rattle.rules.specs.declared.state.Register.{Register}
use Rattle.rules.specs.Table.{clear_run, frame_bytes}
use Rattle.rules.specs.Views.{View, view}
use Rattle.rules.specs.Host.{release_answer, release_after, take_after, take_view}
use Rattle.rules.specs.Registers.{readable, value_at, state_read, found, read_state, writable, state_written, written_state}
use Rattle.rules.specs.Plan.{Plan, summary}
use Rattle.rules.specs.Calls.{Receipt, Look, Outcome}
use Rattle.rules.specs.Calls.Call.{releases, looks, takes}
use Rattle.rules.specs.Calls.Look.{peeks, reads, writes, asks_cause}
use Rattle.rules.specs.Calls.Outcome.{done, refused, took}
use Rattle.rules.specs.Ledger.{Arrival, Frame, look_verdict}
use Rattle.rules.specs.Explains.{Sight, History}
use Rattle.rules.specs.Law.{plainly, answers, steps, taking}
use Rattle.rules.proofs.Frames.{Gone, KeptFrame, release_in, sights, flat, any_starts, receipt, first_of}
use Rattle.rules.proofs.Flat.{release_at_flat, sights_release_in, starts_taken_flat, take_verdict_flat, take_first_flat, sights_take_first}
use Rattle.rules.proofs.Lawful.{Lawful}
use Rattle.rules.proofs.TableFrames.{running, run_of, in_table_bytes}
use Rattle.rules.proofs.Waiting.{take_finds_none, take_finds_first}
use Rattle.rules.proofs.Release.{named, release_finds_named, release_finds_none}
use Rattle.rules.proofs.Invariant.{Invariant, history, own_of}
use Rattle.rules.proofs.HostSteps.{release_keeps, read_keeps, write_keeps, take_keeps}
use Rattle.rules.proofs.CallSteps.{CallStep, by_outcome, unchanged, unchanged_frames}

module _ (s : Plan) (L : Lawful s) (among : List ℕ → Bool) (gone : List Gone) (waiting : List KeptFrame) (lost : Bool) (given : List Receipt) (x : View) where
  pub release_step : (d : ℕ) (a : Arrival) → Invariant s among gone waiting a lost given x → CallStep s among (history gone waiting a lost given) x (releases d)
  release_step d a I = ⊎_elim
      (λ y.
      let n = named d gone y in
      let e = release_finds_named s L x gone waiting (own_of a) d I.table n in
      let cleared = view (clear_run (summary s) x.memory d (length n.this.frame.buffers)) x.state in
      let H : List Frame → List Sight → History = λ fs es. record { ledger = record { frames = fs; arrival = a; missed = lost }; given = given; ends_seen = es } in
      by_outcome s L among (history gone waiting a lost given) x (releases d) done cleared
      (ap (λ r. plainly (release_answer r)) e) (ap (release_after (running s x) d) e)
      (record {
        gone = release_in d gone;
        waiting = waiting;
        arrival = a;
        lost = lost;
        given = given;
        holds = release_keeps s L among lost given x gone waiting a d n I;
        is = ap (λ z. H z (sights gone waiting ++ [])) (release_at_flat gone waiting d y)
            ∙ ap (H (flat (release_in d gone) waiting)) (append-nil (sights gone waiting) ∙ sym (sights_release_in gone waiting d));
      })
      (sym (ap (λ k. cond k 0 15) (starts_taken_flat gone waiting d ∙ y))))
      (λ y.
      let e = release_finds_none s L x gone waiting (own_of a) d I.table y in
      by_outcome s L among (history gone waiting a lost given) x (releases d) (refused 15 0) x
      (ap (λ r. plainly (release_answer r)) e) (ap (release_after (running s x) d) e)
      (unchanged s L among gone waiting a lost given x I) (sym (ap (λ k. cond k 0 15) (starts_taken_flat gone waiting d ∙ y))))
      (cases_Bool (any_starts gone d))

  -- the calls that change nothing that the ledger keeps
  look_done : (a : Arrival) (w : Look) (y : View) → Invariant s among gone waiting a lost given y → answers (running s x) (looks w) ≡ done →
      steps among (running s x) (looks w) ≡ running s y → 0 ≡ look_verdict s w → CallStep s among (history gone waiting a lost given) x (looks w)
  look_done a w y I e p q = by_outcome s L among (history gone waiting a lost given) x (looks w) done y e p (unchanged_frames s L among gone waiting a lost given y I) q

  look_refused : (a : Arrival) (w : Look) (n at : ℕ) → Invariant s among gone waiting a lost given x → answers (running s x) (looks w) ≡ refused n at →
      steps among (running s x) (looks w) ≡ running s x → n ≡ look_verdict s w → CallStep s among (history gone waiting a lost given) x (looks w)
  look_refused a w n at I e p q = by_outcome s L among (history gone waiting a lost given) x (looks w) (refused n at) x e p (unchanged s L among gone waiting a lost given x I) q

  peek_step : (at : ℕ) (a : Arrival) → Invariant s among gone waiting a lost given x → CallStep s among (history gone waiting a lost given) x (looks (peeks at))
  peek_step at a I =
      let size = I.table.size in
      let answer : Bool → Result ℕ Refusal = λ k. cond k (Ok (get_or x.memory at 0)) (Err (Outside at)) in
      ⊎_elim
      (λ h. look_done a (peeks at) x I (ap (λ k. plainly (answer k)) h) refl (sym (ap (λ n. cond (ltb at n) 0 17) (sym size) ∙ ap (λ k. cond k 0 17) h)))
      (λ h. look_refused a (peeks at) 17 at I (ap (λ k. plainly (answer k)) h) refl (sym (ap (λ n. cond (ltb at n) 0 17) (sym size) ∙ ap (λ k. cond k 0 17) h)))
      (cases_Bool (ltb at (length x.memory)))

  read_step : (page at : ℕ) (a : Arrival) → Invariant s among gone waiting a lost given x → (r : Option Register) → readable page at ≡ r →
      CallStep s among (history gone waiting a lost given) x (looks (reads page at))
  read_step page at a I None e =
      look_refused a (reads page at) 16 0 I (ap (λ r. plainly (value_at (summary s) x.state r)) e)
      (ap (λ r. running s (view x.memory (state_read x.state r))) e) (sym (ap (λ r. code (found r)) e))
  read_step page at a I (Some r) e =
      look_done a (reads page at) (view x.memory (read_state x.state r)) (read_keeps s L among lost given x gone waiting a I (Some r))
      (ap (λ r. plainly (value_at (summary s) x.state r)) e)
      (ap (λ r. running s (view x.memory (state_read x.state r))) e) (sym (ap (λ r. code (found r)) e))

  write_step : (page at v : ℕ) (a : Arrival) → Invariant s among gone waiting a lost given x → (r : Option Register) → writable page at ≡ r →
      CallStep s among (history gone waiting a lost given) x (looks (writes page at v))
  write_step page at v a I None e =
      look_refused a (writes page at v) 16 0 I (ap (λ r. plainly (found r)) e)
      (ap (λ r. running s (view x.memory (state_written x.state r v))) e) (sym (ap (λ r. code (found r)) e))
  write_step page at v a I (Some r) e =
      look_done a (writes page at v) (view x.memory (written_state x.state r v)) (write_keeps s L among lost given x gone waiting a I (Some r) v)
      (ap (λ r. plainly (found r)) e)
      (ap (λ r. running s (view x.memory (state_written x.state r v))) e) (sym (ap (λ r. code (found r)) e))

  pub look_step : (w : Look) (a : Arrival) → Invariant s among gone waiting a lost given x → CallStep s among (history gone waiting a lost given) x (looks w)
  look_step (peeks at) a I = peek_step at a I
  look_step (reads page at) a I = read_step page at a I (readable page at) refl
  look_step (writes page at v) a I = write_step page at v a I (writable page at) refl
  look_step asks_cause a I = look_done a asks_cause x I refl refl refl

module _ (s : Plan) (L : Lawful s) (among : List ℕ → Bool) where
  pub taking_first : (gone : List Gone) (f : KeptFrame) (fs : List KeptFrame) (lost : Bool) (given : List Receipt) (x : View) (a : Arrival) →
      Invariant s among gone (f ∷ fs) a lost given x → taking (running s x) (Ok (run_of f)) ≡ took (receipt f)
  taking_first gone f fs lost given x a I =
      let d = first_of f.buffers in
      let R : ℕ → List ℕ → Outcome = λ y bs. took (record { first = y; count = length f.buffers; bytes = bs; status = f.status }) in
      ap (λ y. R y (frame_bytes (summary s) x.memory y (length f.buffers))) (sym I.order.0)
      ∙ ap (R d) (in_table_bytes s L x.memory false f I.table.size I.table.untaken.0)

  pub take_step : (gone : List Gone) (waiting : List KeptFrame) (lost : Bool) (given : List Receipt) (x : View) (room : ℕ) (a : Arrival) →
      Invariant s among gone waiting a lost given x → CallStep s among (history gone waiting a lost given) x (takes room)
  take_step gone [] lost given x room a I =
      let e = take_finds_none s L x gone (own_of a) room I.table I.below in
      by_outcome s L among (history gone [] a lost given) x (takes room) (refused 12 0) x (ap (taking (running s x)) e) (ap (take_after (running s x)) e)
      (unchanged s L among gone [] a lost given x I) (sym (take_verdict_flat gone [] room))
  take_step gone (f ∷ fs) lost given x room a I =
      let e = take_finds_first s L x gone f fs (own_of a) room I.table (sym I.order.0) in
      let given_is = taking_first gone f fs lost given x a I in
      let H : List Frame → List Sight → History = λ gs es.
      record { ledger = record { frames = gs; arrival = a; missed = lost }; given = given ++ (receipt f ∷ []); ends_seen = es } in
      let taken_now : List Gone = gone ++ (record { frame = f; released = false } ∷ []) in
      ⊎_elim
      (λ y.
      let ok = e ∙ cond-true (leb (length f.bytes) room) _ _ y in
      by_outcome s L among (history gone (f ∷ fs) a lost given) x (takes room) (took (receipt f)) (take_view (running s x) (run_of f))
      (ap (taking (running s x)) ok ∙ given_is) (ap (take_after (running s x)) ok)
      (record {
        gone = taken_now;
        waiting = fs;
        arrival = a;
        lost = lost;
        given = given ++ (receipt f ∷ []);
        holds = take_keeps s L among lost given x gone f fs a I;
        is = ap (λ z. H z (sights gone (f ∷ fs) ++ [])) (take_first_flat gone f fs)
            ∙ ap (H (flat taken_now fs)) (append-nil (sights gone (f ∷ fs)) ∙ sights_take_first gone f fs);
      })
      (sym (take_verdict_flat gone (f ∷ fs) room ∙ cond-true (leb (length f.bytes) room) 0 14 y)))
      (λ y.
      let no = e ∙ cond-false (leb (length f.bytes) room) _ _ y in
      by_outcome s L among (history gone (f ∷ fs) a lost given) x (takes room) (refused 14 0) x (ap (taking (running s x)) no) (ap (take_after (running s x)) no)
      (unchanged s L among gone (f ∷ fs) a lost given x I) (sym (take_verdict_flat gone (f ∷ fs) room ∙ cond-false (leb (length f.bytes) room) 0 14 y)))
      (cases_Bool (leb (length f.bytes) room))
