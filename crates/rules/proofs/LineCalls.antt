-- The line's calls: begin, byte, end and abort.
use Rattle.std.proofs.Common.{ℕ, Bool, false, cond, List, [], ◌∷◌, ◌++◌, Ok, Err, Result, refl, ap}
use Rattle.refusal.specs.declared.Refusal.{Refusal}
use Rattle.refusal.specs.declared.Refusal.TheVariants.{NoArrival, UnderWay}
use Rattle.rules.specs.declared.state.Event.TheVariants.{Byte, End, Abort}
use Rattle.rules.specs.declared.state.Fault.{Fault}
use Rattle.rules.specs.declared.state.LastByte.{LastByte}
use Rattle.rules.specs.Views.{on, View, view, idle}
use Rattle.rules.specs.Arrivals.{began, arrives}
use Rattle.rules.specs.Plan.{Plan, summary}
use Rattle.rules.specs.Calls.{Receipt}
use Rattle.rules.specs.Calls.Call.{begins, byte_comes, ends, aborts}
use Rattle.rules.specs.Calls.Outcome.{done, refused}
use Rattle.rules.specs.Ledger.{Arrival, no_fill, fill_all, due}
use Rattle.rules.specs.Ledger.Arrival.{none, coming}
use Rattle.rules.specs.Law.{plainly}
use Rattle.rules.proofs.Frames.{Gone, KeptFrame, flat}
use Rattle.rules.proofs.Lawful.{Lawful}
use Rattle.rules.proofs.TableFrames.{running}
use Rattle.rules.proofs.Invariant.{Invariant, history, under_way_not_idle}
use Rattle.rules.proofs.LineSteps.{begin_keeps}
use Rattle.rules.proofs.Ends.{end_tracks, abort_keeps}
use Rattle.rules.proofs.ByteStep.{byte_keeps}
use Rattle.rules.proofs.CallSteps.{CallStep, by_outcome, unchanged, unchanged_frames}

module _ (s : Plan) (L : Lawful s) (among : List ℕ → Bool) (gone : List Gone) (waiting : List KeptFrame) (lost : Bool) (given : List Receipt) (x : View) where
  -- an event that finds no arrival, and one that finds one
  abbrev event_result : Bool → Result (Unit {0}) Refusal
  event_result k = cond k (Err NoArrival) (Ok tt)

  abbrev begin_result : Bool → Result (Unit {0}) Refusal
  begin_result k = cond k (Ok tt) (Err UnderWay)

  pub begin_step : (a : Arrival) → Invariant s among gone waiting a lost given x → CallStep s among (history gone waiting a lost given) x begins
  begin_step none I =
      by_outcome s L among (history gone waiting none lost given) x begins done (view x.memory (began x.state))
      (ap (λ p. plainly (begin_result (idle p))) I.fits) (ap (λ p. on (begin_result (idle p)) (running s x) (view x.memory (began x.state))) I.fits)
      (unchanged_frames s L among gone waiting (coming [] no_fill) false given (view x.memory (began x.state)) (begin_keeps s L among gone waiting lost given x I)) refl
  begin_step (coming bs f) I =
      let busy = under_way_not_idle s L among x bs f I.fits.1 in
      by_outcome s L among (history gone waiting (coming bs f) lost given) x begins (refused 10 0) x
      (ap (λ k. plainly (begin_result k)) busy) (ap (λ k. on (begin_result k) (running s x) (view x.memory (began x.state))) busy)
      (unchanged s L among gone waiting (coming bs f) lost given x I) refl

  pub byte_step : (v : ℕ) (a : Arrival) → Invariant s among gone waiting a lost given x → CallStep s among (history gone waiting a lost given) x (byte_comes v)
  byte_step v none I =
      by_outcome s L among (history gone waiting none lost given) x (byte_comes v) (refused 11 0) x
      (ap (λ p. plainly (event_result (idle p))) I.fits) (ap (λ p. on (event_result (idle p)) (running s x) (arrives (summary s) among x (Byte v))) I.fits)
      (unchanged s L among gone waiting none lost given x I) refl
  byte_step v (coming bs f) I =
      let busy = under_way_not_idle s L among x bs f I.fits.1 in
      let f' = fill_all s (flat gone waiting) f (due among (bs ++ (v ∷ [])) v) in
      by_outcome s L among (history gone waiting (coming bs f) lost given) x (byte_comes v) done (arrives (summary s) among x (Byte v))
      (ap (λ k. plainly (event_result k)) busy) (ap (λ k. on (event_result k) (running s x) (arrives (summary s) among x (Byte v))) busy)
      (unchanged_frames s L among gone waiting (coming (bs ++ (v ∷ [])) f') f'.missed given (arrives (summary s) among x (Byte v))
      (byte_keeps s L among gone waiting lost given x bs f v I)) refl

  pub end_step : (l : LastByte) (a : Arrival) → Invariant s among gone waiting a lost given x → CallStep s among (history gone waiting a lost given) x (ends l)
  end_step l none I =
      by_outcome s L among (history gone waiting none lost given) x (ends l) (refused 11 0) x
      (ap (λ p. plainly (event_result (idle p))) I.fits) (ap (λ p. on (event_result (idle p)) (running s x) (arrives (summary s) among x (End l))) I.fits)
      (unchanged s L among gone waiting none lost given x I) refl
  end_step l (coming bs f) I =
      let busy = under_way_not_idle s L among x bs f I.fits.1 in
      by_outcome s L among (history gone waiting (coming bs f) lost given) x (ends l) done (arrives (summary s) among x (End l))
      (ap (λ k. plainly (event_result k)) busy) (ap (λ k. on (event_result k) (running s x) (arrives (summary s) among x (End l))) busy)
      (end_tracks s L among gone waiting lost given x l bs f I) refl

  pub abort_step : (w : Fault) (a : Arrival) → Invariant s among gone waiting a lost given x → CallStep s among (history gone waiting a lost given) x (aborts w)
  abort_step w none I =
      by_outcome s L among (history gone waiting none lost given) x (aborts w) (refused 11 0) x
      (ap (λ p. plainly (event_result (idle p))) I.fits) (ap (λ p. on (event_result (idle p)) (running s x) (arrives (summary s) among x (Abort w))) I.fits)
      (unchanged s L among gone waiting none lost given x I) refl
  abort_step w (coming bs f) I =
      let busy = under_way_not_idle s L among x bs f I.fits.1 in
      by_outcome s L among (history gone waiting (coming bs f) lost given) x (aborts w) done (arrives (summary s) among x (Abort w))
      (ap (λ k. plainly (event_result k)) busy) (ap (λ k. on (event_result k) (running s x) (arrives (summary s) among x (Abort w))) busy)
      (unchanged_frames s L among gone waiting none lost given (arrives (summary s) among x (Abort w))
      (abort_keeps s L among gone waiting lost given x (coming bs f) w busy I)) refl
