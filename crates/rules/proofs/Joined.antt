-- The law: of every board that an accepted open and calls lead to.
use Rattle.std.proofs.Common.{◌≡◌, ℕ, Bool, false, List, [], ◌∷◌, length, take, Ok, Err, Result, sym, refl, ap, ◌∙◌, subst, arith}
use Rattle.std.proofs.lemmas.Bool.Decides.{nat_tests}
use Rattle.refusal.specs.declared.Refusal.{Refusal}
use Rattle.layout.specs.Layouts.{shape}
use Rattle.layout.specs.declared.layout.Layout.{Layout}
use Rattle.rules.specs.Views.{view, View, Shown}
use Rattle.rules.specs.Opening.{described, opened_state, open_answer, open_after}
use Rattle.rules.specs.Host.{take_answer, take_judged, take_out}
use Rattle.rules.specs.Plan.{Plan, plan}
use Rattle.rules.specs.Calls.{Call, Receipt, Outcome}
use Rattle.rules.specs.Calls.Call.{begins, byte_comes, ends, aborts, takes, releases, looks}
use Rattle.rules.specs.Calls.Outcome.{took}
use Rattle.rules.specs.Ledger.{verdict}
use Rattle.rules.specs.Ledger.Arrival.{none}
use Rattle.rules.specs.Explains.{starting, History, Explains, extend, sight}
use Rattle.rules.specs.Law.{Law, Reached, steps, answers, number_of, Explained, history_after, board_after, history_step, ReadBack, Keeps, Kept, Opened, ReadsBackFrom}
use Rattle.rules.specs.Law.Reached.{by_call, at_open}
use Rattle.rules.proofs.Lawful.{Lawful}
use Rattle.rules.proofs.Lawfuls.{lawful_plan}
use Rattle.rules.proofs.Opened.{length_described, described_free}
use Rattle.rules.proofs.Fronts.{took_is}
use Rattle.rules.proofs.TableFrames.{running}
use Rattle.rules.proofs.Invariant.{history, explains}
use Rattle.rules.proofs.LineSteps.{Tracked}
use Rattle.rules.proofs.CallSteps.{CallStep}
use Rattle.rules.proofs.LineCalls.{begin_step, byte_step, end_step, abort_step}
use Rattle.rules.proofs.HostCalls.{take_step, release_step, look_step}
use Rattle.rules.proofs.ReadBack.{takes_first_untaken, answered_whole}

module _ (s : Plan) (L : Lawful s) (among : List ℕ → Bool) where
  open_tracks : (m : List ℕ) → length m ≡ s.shape.size →
      Tracked s among starting (view (described s.shape.rbegin.0 m 0 s.shape.buffers) opened_state)
  open_tracks m sz = record {
    gone = [];
    waiting = [];
    arrival = none;
    lost = false;
    given = [];
    is = refl;
    holds = record {
      table = record {
        size = length_described s.shape.rbegin.0 s.shape.buffers m 0 ∙ sz;
        taken = tt;
        untaken = tt;
        once = λ d. omega arith;
        free = λ d dn z. described_free s L m sz d dn;
      };
      curr = refl;
      host = refl;
      below = L.some;
      order = tt;
      gave = refl;
      rows = tt;
      mpa = refl;
      fits = refl;
    };
  }

  call_step : (h : History) (x : View) (c : Call) → Tracked s among h x → CallStep s among h x c
  call_step h x c T = subst (λ k. CallStep s among k x c) (sym T.is) (by_call_kind c)
    where
      by_call_kind : (c : Call) → CallStep s among (history T.gone T.waiting T.arrival T.lost T.given) x c
      by_call_kind begins = begin_step s L among T.gone T.waiting T.lost T.given x T.arrival T.holds
      by_call_kind (byte_comes v) = byte_step s L among T.gone T.waiting T.lost T.given x v T.arrival T.holds
      by_call_kind (ends l) = end_step s L among T.gone T.waiting T.lost T.given x l T.arrival T.holds
      by_call_kind (aborts w) = abort_step s L among T.gone T.waiting T.lost T.given x w T.arrival T.holds
      by_call_kind (takes room) = take_step s L among T.gone T.waiting T.lost T.given x room T.arrival T.holds
      by_call_kind (releases d) = release_step s L among T.gone T.waiting T.lost T.given x d T.arrival T.holds
      by_call_kind (looks w) = look_step s L among T.gone T.waiting T.lost T.given x w T.arrival T.holds

  tracked_explains : (h : History) (x : View) → Tracked s among h x → Explains s among h x
  tracked_explains h x T =
      subst (λ k. Explains s among k x) (sym T.is) (explains s L among T.gone T.waiting T.arrival T.lost T.given x T.holds)

-- a reached board runs with the plan, and its history is tracked
record RunsTracked (l : Layout) (rcon : ℕ) (among : List ℕ → Bool) (h : History) (b : Shown) : Type 0 where
  pub inner : View
  pub lawful : Lawful (plan l rcon)
  pub tracked : Tracked (plan l rcon) among h inner
  pub is : b ≡ running (plan l rcon) inner

module _ (l : Layout) (rcon : ℕ) (among : List ℕ → Bool) where
  abbrev s : Plan
  s = plan l rcon

  reached_runs : {h : History} {b : Shown} → Reached l rcon among h b → RunsTracked l rcon among h b
  reached_runs (at_open b e) =
      let sz : length b.view.memory ≡ l.size = grind (arith, nat_tests) in
      let L = lawful_plan l rcon (length b.view.memory) e in
      record {
        inner = view (described l.rbegin.0 b.view.memory 0 (shape l).buffers) opened_state;
        lawful = L;
        tracked = open_tracks (plan l rcon) L among b.view.memory sz;
        is = refl;
      }
  reached_runs (by_call {h} {b} c r) =
      let B = reached_runs r in
      let x = B.inner in
      let S = call_step s B.lawful among h x c B.tracked in
      let board : steps among b c ≡ running s S.after = ap (λ z. steps among z c) B.is ∙ S.board in
      let answer : answers b c ≡ answers (running s x) c = ap (λ z. answers z c) B.is in
      record {
        inner = S.after;
        lawful = B.lawful;
        is = board;
        tracked = subst (λ k. Tracked s among k S.after)
            (sym (ap (λ z. extend s among h c z (sight (steps among b c).view)) answer
            ∙ ap (λ z. extend s among h c (answers (running s x) c) (sight z.view)) board))
            S.tracked;
      }

  reached_explains : (h : History) (b : Shown) → Reached l rcon among h b → Explains (plan l rcon) among h b.view
  reached_explains h b r =
      let B = reached_runs r in
      subst (λ z. Explains s among h z.view) (sym B.is) (tracked_explains s B.lawful among h B.inner B.tracked)

  reached_answers : (h : History) (b : Shown) → Reached l rcon among h b → (c : Call) → number_of (answers b c) ≡ verdict (plan l rcon) h.ledger c
  reached_answers h b r c =
      let B = reached_runs r in
      ap (λ z. number_of (answers z c)) B.is ∙ (call_step s B.lawful among h B.inner c B.tracked).number

  reached_explained : (h : History) (b : Shown) → Reached l rcon among h b → Explained (plan l rcon) among h b
  reached_explained h b r = record { explains = reached_explains h b r; verdicts = reached_answers h b r }

  reached_after : (h : History) (b : Shown) (cs : List Call) → Reached l rcon among h b →
      Reached l rcon among (history_after (plan l rcon) among h b cs) (board_after among b cs)
  reached_after h b [] r = r
  reached_after h b (c ∷ cs) r = reached_after (history_step (plan l rcon) among h b c) (steps among b c) cs (by_call c r)

  reached_reads_back : (h : History) (b : Shown) (out out' : List ℕ) (q : ℕ × ℕ × ℕ × ℕ) → Ok q ≡ take_answer b (take_judged b (length out)) →
      out' ≡ take_out b (take_judged b (length out)) out → Reached l rcon among h b → ReadBack (plan l rcon) h q out'
  reached_reads_back h b out out' q p o r =
      let B = reached_runs r in
      let t : Receipt = record { first = q.0; count = q.1; bytes = take q.2 out'; status = q.3 } in
      let e : answers (running s B.inner) (takes (length out)) ≡ took t =
      sym (ap (λ z. answers z (takes (length out))) B.is) ∙ sym (took_is b out out' (Ok q) p o) in
      let u = takes_first_untaken s B.lawful among h B.inner (length out) t B.tracked e in
      record { later = u.0; gives = u.1; whole = answered_whole b out out' q p o }

-- a call that does the rules' step and gives their answer
pub keeps : (among : List ℕ → Bool) (c : Call) (o : Outcome) (b b' : Shown) → b' ≡ steps among b c → o ≡ answers b c → Keeps among c o b b'
keeps among c o b b' e a l rcon h r =
    let back : (P : Shown → Outcome → Type 0) → P (steps among b c) (answers b c) → P b' o =
    λ P p. subst (λ z. P z o) (sym e) (subst (P (steps among b c)) (sym a) p) in
    back (λ y u. Kept l rcon among h c u y)
    (record { reached = by_call c r; explains = reached_explains l rcon among _ _ (by_call c r); number = reached_answers l rcon among h b r c })

-- an open
pub opened : (among : List ℕ → Bool) (l : Layout) (rcon : ℕ) (b b' : Shown) (r : Result (Unit {0}) Refusal) →
    r ≡ open_answer (length b.view.memory) (shape l) rcon → b' ≡ open_after r b (shape l) rcon → Opened among l rcon r b'
opened among l rcon b b' (Ok u) e q =
    let r : Reached l rcon among starting b' = subst (Reached l rcon among starting) (sym q) (at_open b (sym e)) in
    record { reached = r; runs = λ cs. reached_explained l rcon among _ _ (reached_after l rcon among starting b' cs r) }
opened among l rcon b b' (Err x) e q = tt

-- a take, with the caller's buffer before and after it
pub reads_back : (among : List ℕ → Bool) (b : Shown) (out out' : List ℕ) (r : Result (ℕ × ℕ × ℕ × ℕ) Refusal) →
    r ≡ take_answer b (take_judged b (length out)) → out' ≡ take_out b (take_judged b (length out)) out → ReadsBackFrom among b r out'
reads_back among b out out' (Ok q) p o = λ l rcon h r. reached_reads_back l rcon among h b out out' q p o r
reads_back among b out out' (Err e) p o = tt

-- every layout, RCON, set and board
pub law : Law
law l rcon among b e cs = reached_explained l rcon among _ _ (reached_after l rcon among starting (open_after (Ok tt) b (shape l) rcon) cs (at_open b e))
