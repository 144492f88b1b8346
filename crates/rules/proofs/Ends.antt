-- The end and the abort of an arrival: the board keeps it exactly when the ledger does.
use Rattle.std.proofs.Common.{◌≡◌, ℕ, ◌≤◌, min, Bool, true, false, cond, not, ◌&&◌, ◌||◌, eqb, ltb, leb, List, [], ◌∷◌, ◌++◌, length, sym, refl, ap, ◌∙◌, subst, subst₂, ⊎_elim, arith}
use Rattle.std.proofs.lemmas.List.{append-nil}
use Rattle.std.proofs.lemmas.Bool.{and_right, lt-ltb, le-ltb, cases_lt, and_left, cond-true, not-true, cond-false, and_from, not-false, or_right, or_left, or_from, cases_Bool, true≢false}
use Rattle.std.proofs.lemmas.Bool.Decides.{nat_tests}
use Rattle.crc.specs.Crc.{crc_over, start, residue}
use Rattle.rules.specs.declared.state.Event.TheVariants.{End, Abort}
use Rattle.rules.specs.declared.state.Fault.{Fault}
use Rattle.rules.specs.declared.state.Fault.TheVariants.{Collision, Overrun}
use Rattle.rules.specs.declared.state.LastByte.{LastByte}
use Rattle.rules.specs.declared.state.LastByte.TheVariants.{Ragged, Whole}
use Rattle.rules.specs.declared.state.Phase.{Phase}
use Rattle.rules.specs.declared.state.Phase.TheVariants.{Address, Ignored, Missed, Storing, Idle}
use Rattle.rules.specs.declared.state.Registers.{Registers}
use Rattle.rules.specs.declared.state.Stored.{Stored}
use Rattle.rules.specs.Bits.{shortest_frame, has, MPA, RUNTS, SEP}
use Rattle.rules.specs.Views.{View, view, with_registers, idle}
use Rattle.rules.specs.Arrivals.{matched, mismatched, kept, over, finished, is_runt, with_rxe, handled, arrives, overrun_registers}
use Rattle.rules.specs.Plan.{Plan, summary}
use Rattle.rules.specs.Calls.{Receipt}
use Rattle.rules.specs.Ledger.{keeps, Fill, recognised, Arrival}
use Rattle.rules.specs.Ledger.Arrival.{none, coming}
use Rattle.rules.specs.Explains.{sight}
use Rattle.rules.proofs.Frames.{Gone, KeptFrame, flat, sights}
use Rattle.rules.proofs.Flat.{flat_push, sights_push}
use Rattle.rules.proofs.Lawful.{Lawful}
use Rattle.rules.proofs.Filling.{Counts, Filling, filling_of}
use Rattle.rules.proofs.Progress.{other_bit_keeps_mpa, short_unrecognised}
use Rattle.rules.proofs.Invariant.{Invariant, ComingFits}
use Rattle.rules.proofs.Invariant.ComingFits.{in_address, in_ignored, in_missed, in_storing}
use Rattle.rules.proofs.LineSteps.{Tracked, over_keeps, kept_adds_frame}

runt_test : (n : ℕ) (k : Bool) → (ltb n shortest_frame && not k) ≡ not (k || leb shortest_frame n)
runt_test n true = and_right (ltb n shortest_frame) false refl
runt_test n false = grind (arith, nat_tests)

capped_test : (n : ℕ) → ltb (min n 255) shortest_frame ≡ ltb n shortest_frame
capped_test n =
    ⊎_elim (λ h. lt-ltb (min n 255) shortest_frame (omega arith) ∙ sym (lt-ltb n shortest_frame h))
    (λ h. le-ltb (min n 255) shortest_frame (omega arith) ∙ sym (le-ltb n shortest_frame h)) (cases_lt n shortest_frame)

matched_keeps_mpa : (r : Registers) → has MPA (matched r).rstat ≡ has MPA r.rstat
matched_keeps_mpa r = other_bit_keeps_mpa r.rstat 1 refl

mismatched_keeps_mpa : (l : LastByte) (r : Registers) → has MPA (mismatched l r).rstat ≡ has MPA r.rstat
mismatched_keeps_mpa Ragged r = other_bit_keeps_mpa r.rstat 4 refl
mismatched_keeps_mpa Whole r = other_bit_keeps_mpa r.rstat 2 refl

module _ (s : Plan) (L : Lawful s) (among : List ℕ → Bool) (gone : List Gone) (waiting : List KeptFrame) (lost : Bool) (given : List Receipt) (x : View) where
  -- the view y after an end, where the arrival was kept or not
  abbrev Ended : List ℕ → Fill → View → Bool → Type 0
  Ended bs f y k = Tracked s among (record {
    ledger = record {
      frames = flat gone waiting ++ cond k (record { buffers = f.own; bytes = bs; taken = false; released = false } ∷ []) [];
      arrival = none;
      missed = lost;
    };
    given = given;
    ends_seen = sights gone waiting ++ cond k (sight y ∷ []) [];
  }) y

  ended_unkept : (bs : List ℕ) (f : Fill) (y : View) → Invariant s among gone waiting none lost given y → Ended bs f y false
  ended_unkept bs f y I = record {
    gone = gone;
    waiting = waiting;
    arrival = none;
    lost = lost;
    given = given;
    holds = I;
    is = ap (λ z. record { ledger = record { frames = z; arrival = none; missed = lost }; given = given; ends_seen = sights gone waiting ++ [] }) (append-nil (flat gone waiting))
        ∙ ap (λ z. record { ledger = record { frames = flat gone waiting; arrival = none; missed = lost }; given = given; ends_seen = z }) (append-nil (sights gone waiting));
  }

  abbrev kept_of : List ℕ → Fill → View → KeptFrame
  kept_of bs f y = record { buffers = f.own; filled = f.filled; bytes = bs; status = y.state.registers.rstat; memory = y.memory }

  ended_kept : (bs : List ℕ) (f : Fill) (y : View) → Invariant s among gone (waiting ++ (kept_of bs f y ∷ [])) none lost given y → Ended bs f y true
  ended_kept bs f y I = record {
    gone = gone;
    waiting = waiting ++ (kept_of bs f y ∷ []);
    arrival = none;
    lost = lost;
    given = given;
    holds = I;
    is = ap (λ z. record { ledger = record { frames = z; arrival = none; missed = lost }; given = given; ends_seen = sights gone waiting ++ (sight y ∷ []) })
        (flat_push gone waiting (kept_of bs f y))
        ∙ ap (λ z. record { ledger = record { frames = flat gone (waiting ++ (kept_of bs f y ∷ [])); arrival = none; missed = lost }; given = given; ends_seen = z })
        (sights_push gone waiting (kept_of bs f y));
  }

  unrecognised_unkept : (bs : List ℕ) (f : Fill) → recognised among bs ≡ false → keeps s among bs f ≡ false
  unrecognised_unkept bs f u = and_left _ _ (and_left _ _ (and_left (recognised among bs) (not f.missed) u))

  missed_unkept : (bs : List ℕ) (f : Fill) → f.missed ≡ true → keeps s among bs f ≡ false
  missed_unkept bs f u = and_left _ _ (and_left _ _ (and_right (recognised among bs) (not f.missed) (ap not u)))

  over_unkept : (bs : List ℕ) (f : Fill) → Invariant s among gone waiting (coming bs f) lost given x → keeps s among bs f ≡ false → Ended bs f (over x) (keeps s among bs f)
  over_unkept bs f I u =
      subst (Ended bs f (over x)) (sym u) (ended_unkept bs f (over x) (over_keeps s L among gone waiting lost given x (coming bs f) x.state.registers refl I))

  finished_ends : (bs : List ℕ) (t : Stored) (own : List ℕ) (filled : ℕ) (l : LastByte) → Counts s t own filled → recognised among bs ≡ true → 6 ≤ length bs →
      x.state.crc ≡ crc_over start bs → t.total ≡ min (length bs) 255 → Filling s x.state.curr x.memory own filled bs →
      Invariant s among gone waiting (coming bs (filling_of own filled)) lost given x →
      Ended bs (filling_of own filled) (finished (summary s) x t l) (keeps s among bs (filling_of own filled))
  finished_ends bs t own filled l K known long crc total F I =
      let r = x.state.registers in
      let f = filling_of own filled in
      let A = is_runt (summary s) t in
      let R = eqb x.state.crc residue in
      let E = has RUNTS s.rcon || leb shortest_frame (length bs) in
      let Y = has SEP s.rcon || R in
      let separate = kept (summary s) x t (with_rxe (mismatched l r)) in
      let dropped = over (view x.memory (with_registers x.state (mismatched l r))) in
      let judged = cond R (kept (summary s) x t (matched r)) (cond (has SEP s.rcon) separate dropped) in
      let base : keeps s among bs f ≡ (E && Y) =
      ap (λ k. k && true && E && (has SEP s.rcon || eqb (crc_over start bs) residue)) known ∙ ap (λ c. E && (has SEP s.rcon || eqb c residue)) (sym crc) in
      let length_test : A ≡ not E =
      ap (λ n. ltb n shortest_frame && not (has RUNTS s.rcon)) total ∙ ap (λ z. z && not (has RUNTS s.rcon)) (capped_test (length bs))
      ∙ runt_test (length bs) (has RUNTS s.rcon) in
      ⊎_elim
      (λ p. subst₂ (Ended bs f) (sym (cond-true A (over x) judged p)) (sym (base ∙ and_left E Y (not-true E (sym length_test ∙ p))))
      (ended_unkept bs f (over x) (over_keeps s L among gone waiting lost given x (coming bs f) r refl I)))
      (λ p. ⊎_elim
      (λ q. subst₂ (Ended bs f) (sym (cond-false A (over x) judged p ∙ cond-true R _ _ q))
      (sym (base ∙ and_from E Y (not-false E (sym length_test ∙ p)) (or_right (has SEP s.rcon) R q)))
      (ended_kept bs f (kept (summary s) x t (matched r))
      (kept_adds_frame s L among gone waiting lost given x t own filled bs (matched r) K (matched_keeps_mpa r) long F I)))
      (λ q. ⊎_elim
      (λ w. subst₂ (Ended bs f) (sym (cond-false A (over x) judged p ∙ cond-false R _ _ q ∙ cond-true (has SEP s.rcon) _ _ w))
      (sym (base ∙ and_from E Y (not-false E (sym length_test ∙ p)) (or_left (has SEP s.rcon) R w)))
      (ended_kept bs f separate
      (kept_adds_frame s L among gone waiting lost given x t own filled bs (with_rxe (mismatched l r)) K (mismatched_keeps_mpa l r) long F I)))
      (λ w. subst₂ (Ended bs f) (sym (cond-false A (over x) judged p ∙ cond-false R _ _ q ∙ cond-false (has SEP s.rcon) _ _ w))
      (sym (base ∙ and_right E Y (or_from (has SEP s.rcon) R w q)))
      (ended_unkept bs f dropped (over_keeps s L among gone waiting lost given x (coming bs f) (mismatched l r) (mismatched_keeps_mpa l r) I)))
      (cases_Bool (has SEP s.rcon)))
      (cases_Bool R))
      (cases_Bool A)

  by_phase : (l : LastByte) (bs : List ℕ) (f : Fill) (p : Phase) → x.state.phase ≡ p → Ended bs f (handled (summary s) among x p (End l)) (keeps s among bs f) →
      Ended bs f (arrives (summary s) among x (End l)) (keeps s among bs f)
  by_phase l bs f p e = subst (λ q. Ended bs f (handled (summary s) among x q (End l)) (keeps s among bs f)) (sym e)

  pub end_tracks : (l : LastByte) (bs : List ℕ) (f : Fill) → Invariant s among gone waiting (coming bs f) lost given x →
      Ended bs f (arrives (summary s) among x (End l)) (keeps s among bs f)
  end_tracks l bs f I = go I.fits.1
    where
      go : ComingFits s among x bs f → Ended bs f (arrives (summary s) among x (End l)) (keeps s among bs f)
      go (in_address R) = by_phase l bs f (Address R.six (length bs)) R.phase (over_unkept bs f I (unrecognised_unkept bs f (short_unrecognised among bs R.short)))
      go (in_ignored R) = by_phase l bs f Ignored R.phase (over_unkept bs f I (unrecognised_unkept bs f R.unknown))
      go (in_missed R) = by_phase l bs f Missed R.misses.phase (over_unkept bs f I (missed_unkept bs f R.misses.lost))
      go (in_storing R) =
          let S = R.stores in
          let E : Bool → Fill = λ z. record { own = f.own; filled = f.filled; missed = z } in
          let fe : f ≡ filling_of f.own f.filled = ap E S.found in
          by_phase l bs f (Storing S.t) S.phase
          (subst (λ g. Ended bs g (finished (summary s) x S.t l) (keeps s among bs g)) (sym fe)
          (finished_ends bs S.t f.own f.filled l S.counts R.known R.long R.crc S.total S.filling
          (subst (λ g. Invariant s among gone waiting (coming bs g) lost given x) fe I)))

  pub abort_keeps : (a : Arrival) (w : Fault) → idle x.state.phase ≡ false → Invariant s among gone waiting a lost given x →
      Invariant s among gone waiting none lost given (arrives (summary s) among x (Abort w))
  abort_keeps a w h I = go x.state.phase refl w
    where
      plain : Invariant s among gone waiting none lost given (over x)
      plain = over_keeps s L among gone waiting lost given x a x.state.registers refl I

      go : (p : Phase) → x.state.phase ≡ p → (v : Fault) → Invariant s among gone waiting none lost given (handled (summary s) among x p (Abort v))
      go Idle q v = absurd (true≢false (sym (ap idle q) ∙ h))
      go (Address ys n) q v = plain
      go (Storing t) q Collision = plain
      go (Storing t) q Overrun =
          over_keeps s L among gone waiting lost given x a (overrun_registers x.state.registers) (other_bit_keeps_mpa x.state.registers.rstat 8 refl) I
      go Ignored q v = plain
      go Missed q v = plain
