-- A take gives the earliest kept frame that is not taken yet, and the caller's buffer begins with its bytes.
use Rattle.std.proofs.Common.{◌≡◌, ℕ, Bool, leb, List, [], ◌∷◌, map, length, take, Ok, Err, Result, sym, refl, ap, ◌∙◌, subst, ⊎_elim, arith}
use Rattle.std.proofs.lemmas.List.{length-take-le}
use Rattle.std.proofs.lemmas.Bool.{cond-true, cond-false, cases_Bool}
use Rattle.refusal.specs.declared.Refusal.{Refusal}
use Rattle.rules.specs.declared.state.Run.{Run}
use Rattle.rules.specs.Table.{frame_bytes}
use Rattle.rules.specs.Views.{Shown, View}
use Rattle.rules.specs.Host.{take_answer, take_judged, take_out}
use Rattle.rules.specs.Plan.{Plan}
use Rattle.rules.specs.Calls.{Receipt}
use Rattle.rules.specs.Calls.Call.{takes}
use Rattle.rules.specs.Calls.Outcome.{took, refused}
use Rattle.rules.specs.Ledger.{Arrival}
use Rattle.rules.specs.Explains.{untaken, Delivery, handed, History}
use Rattle.rules.specs.Law.{taking, answers}
use Rattle.rules.proofs.Frames.{Gone, KeptFrame, flat, sights, receipt, delivery}
use Rattle.rules.proofs.Flat.{untaken_flat}
use Rattle.rules.proofs.Lawful.{Lawful}
use Rattle.rules.proofs.Overlays.{length_overlay}
use Rattle.rules.proofs.Fronts.{take_runs}
use Rattle.rules.proofs.TableFrames.{running}
use Rattle.rules.proofs.Waiting.{take_finds_none, take_finds_first}
use Rattle.rules.proofs.Invariant.{Invariant, own_of, handed_is}
use Rattle.rules.proofs.LineSteps.{Tracked}
use Rattle.rules.proofs.HostCalls.{taking_first}

took_not_refused : (r : Receipt) (n at : ℕ) → took r ≡ refused n at → ⊥
took_not_refused r n at e = let z : ◌≡◌ {A = ℕ} 0 1 = cc in omega arith

took_same : (r q : Receipt) → took r ≡ took q → r ≡ q
took_same r q e = cc

pub answered_whole : (b : Shown) (out out' : List ℕ) (q : ℕ × ℕ × ℕ × ℕ) → Ok q ≡ take_answer b (take_judged b (length out)) →
    out' ≡ take_out b (take_judged b (length out)) out → length (take q.2 out') ≡ q.2
answered_whole b out out' q = go (take_judged b (length out)) refl
  where
    go : (j : Result Run Refusal) → take_judged b (length out) ≡ j → Ok q ≡ take_answer b j → out' ≡ take_out b j out → length (take q.2 out') ≡ q.2
    go (Err e) h p o = let z : ◌≡◌ {A = ℕ} 0 1 = cc in absurd (omega arith)
    go (Ok f) h p o =
        let bs = frame_bytes b.setup b.view.memory b.view.state.host f.count in
        let is : q ≡ (b.view.state.host, f.count, f.length, f.status) = cc in
        let n : q.2 ≡ f.length = ap (λ z. z.2) is in
        let fit = (take_runs b (length out) f h).1 in
        let long : length out' ≡ length out = ap length o ∙ length_overlay out 0 bs in
        length-take-le q.2 out' (omega arith)

module _ (s : Plan) (L : Lawful s) (among : List ℕ → Bool) where
  first_untaken : (gone : List Gone) (waiting : List KeptFrame) (lost : Bool) (given : List Receipt) (x : View) (a : Arrival) (room : ℕ) (r : Receipt) →
      Invariant s among gone waiting a lost given x → taking (running s x) (take_judged (running s x) room) ≡ took r →
      (later : List Delivery) × (untaken (flat gone waiting) (sights gone waiting) ≡ handed s r ∷ later)
  first_untaken gone [] lost given x a room r I e =
      absurd (took_not_refused r 12 0 (sym e ∙ ap (taking (running s x)) (take_finds_none s L x gone (own_of a) room I.table I.below)))
  first_untaken gone (f ∷ fs) lost given x a room r I e =
      let j = take_finds_first s L x gone f fs (own_of a) room I.table (sym I.order.0) in
      ⊎_elim
      (λ y.
      let ok = j ∙ cond-true (leb (length f.bytes) room) _ _ y in
      let same : r ≡ receipt f = took_same r (receipt f) (sym e ∙ ap (taking (running s x)) ok ∙ taking_first s L among gone f fs lost given x a I) in (
        map delivery fs,
        untaken_flat gone (f ∷ fs) ∙ ap (λ z. z ∷ map delivery fs) (sym (ap (handed s) same ∙ handed_is s L among f I.table.untaken.0.row)),
      ))
      (λ y.
      let no = j ∙ cond-false (leb (length f.bytes) room) _ _ y in
      absurd (took_not_refused r 14 0 (sym e ∙ ap (taking (running s x)) no)))
      (cases_Bool (leb (length f.bytes) room))

  pub takes_first_untaken : (h : History) (x : View) (room : ℕ) (r : Receipt) → Tracked s among h x → answers (running s x) (takes room) ≡ took r →
      (later : List Delivery) × (untaken h.ledger.frames h.ends_seen ≡ handed s r ∷ later)
  takes_first_untaken h x room r T e =
      subst (λ k. (later : List Delivery) × (untaken k.ledger.frames k.ends_seen ≡ handed s r ∷ later)) (sym T.is)
      (first_untaken T.gone T.waiting T.lost T.given x T.arrival room r T.holds e)
