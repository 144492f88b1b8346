-- A byte of the arrival under way.
use Rattle.std.proofs.Common.{◌≡◌, ℕ, ◌+◌, ◌<◌, ◌≤◌, Bool, true, false, cond, eqb, ltb, List, [], ◌∷◌, ◌++◌, length, get_or, take, set, sym, refl, ap, ◌∙◌, subst, subst₂, inl, ⊎_elim, arith}
use Rattle.std.proofs.lemmas.List.{length_push, take_more_set, length-set, take_all}
use Rattle.std.proofs.lemmas.Bool.{cond-false, cond-true, ne_eqb, eq-eqb, lt-ltb, le-ltb, cases_Bool, cases_lt}
use Rattle.crc.specs.Crc.{crc_byte, crc_over, start}
use Rattle.crc.proofs.Over.{crc_over_push}
use Rattle.rules.specs.declared.state.Event.TheVariants.{Byte}
use Rattle.rules.specs.declared.state.Phase.{Phase}
use Rattle.rules.specs.declared.state.Phase.TheVariants.{Ignored, Address}
use Rattle.rules.specs.Bits.{has, MPA, with_bit, GROUP}
use Rattle.rules.specs.Views.{View, view, with_crc, with_phase}
use Rattle.rules.specs.Arrivals.{recognised as store_recognised, unstored, handled, store_in, grouped, recognised_state, store_all, sixth, arrives}
use Rattle.rules.specs.Plan.{Plan, number, summary}
use Rattle.rules.specs.Calls.{Receipt}
use Rattle.rules.specs.Ledger.{Fill, fill_all, due, recognised, fill_one, no_fill}
use Rattle.rules.specs.Ledger.Arrival.{coming}
use Rattle.rules.proofs.Frames.{Gone, KeptFrame, flat}
use Rattle.rules.proofs.Lawful.{Lawful}
use Rattle.rules.proofs.Encoding.{TableFits}
use Rattle.rules.proofs.Waiting.{InOrder}
use Rattle.rules.proofs.Progress.{Progress, recognised_push, byte_progress, missed_fills_no_more, other_bit_keeps_mpa, bytes_progress, short_unrecognised, six_recognised}
use Rattle.rules.proofs.Invariant.{Invariant, ComingFits, StoringFits, MissedFits, IgnoredFits, AddressFits}
use Rattle.rules.proofs.Invariant.ComingFits.{in_storing, in_missed, in_ignored, in_address}
use Rattle.rules.proofs.LineSteps.{curr_below}

module _ (s : Plan) (L : Lawful s) (among : List ℕ → Bool) (gone : List Gone) (waiting : List KeptFrame) (lost : Bool) (given : List Receipt) (x : View)
    (bs : List ℕ) (f : Fill) (v : ℕ) (I : Invariant s among gone waiting (coming bs f) lost given x) where
  abbrev bs' : List ℕ
  bs' = bs ++ (v ∷ [])

  -- the view once the CRC register has run over the byte
  abbrev x₁ : View
  x₁ = view x.memory (with_crc x.state (crc_byte x.state.crc v))

  abbrev filled_on : Fill
  filled_on = fill_all s (flat gone waiting) f (due among bs' v)

  abbrev Goal : View → Fill → Type 0
  Goal y f' = Invariant s among gone waiting (coming bs' f') f'.missed given y

  mpa_is : has MPA x.state.registers.rstat ≡ f.missed
  mpa_is = I.mpa ∙ I.fits.0

  longer : length bs' ≡ length bs + 1
  longer = length_push bs v

  curr_in : x.state.curr < number s
  curr_in = curr_below s L among gone waiting lost given x (coming bs f) I

  crc_next : x.state.crc ≡ crc_over start bs → crc_byte x.state.crc v ≡ crc_over start bs'
  crc_next q = ap (λ c. crc_byte c v) q ∙ sym (crc_over_push start bs v)

  from_progress : (y : View) (f' : Fill) → recognised among bs' ≡ true → 6 ≤ length bs' → crc_byte x.state.crc v ≡ crc_over start bs' →
      Progress s gone waiting x₁ y f' bs' → Goal y f'
  from_progress y f' known long crc P = record {
    table = P.table;
    curr = P.curr ∙ I.curr;
    host = P.host ∙ I.host;
    below = rw P.host I.below;
    order = subst (λ d. InOrder s d waiting) (sym P.host) I.order;
    gave = I.gave;
    rows = I.rows;
    mpa = P.mpa;
    fits = (
      refl,
      ⊎_elim (λ S. in_storing (record { stores = S; long = long; known = known; crc = P.crc ∙ crc }))
          (λ M. in_missed (record { misses = M; long = long; known = known })) P.state,
    );
  }

  -- no byte goes to a buffer
  unstored_keeps : (p : Phase) (f' : Fill) → f' ≡ f → ComingFits s among (view x.memory (with_phase x₁.state p)) bs' f →
      Goal (view x.memory (with_phase x₁.state p)) f'
  unstored_keeps p f' q c = subst (Goal (view x.memory (with_phase x₁.state p))) (sym q)
      (record { table = I.table; curr = I.curr; host = I.host; below = I.below; order = I.order; gave = I.gave; rows = I.rows; mpa = mpa_is; fits = (refl, c) })

  none_due : recognised among bs' ≡ false → filled_on ≡ f
  none_due u = ap (fill_all s (flat gone waiting) f) (cond-false (recognised among bs') _ [] u)

  one_due : recognised among bs' ≡ true → 6 ≤ length bs → filled_on ≡ fill_one s (flat gone waiting) f
  one_due u h = ap (fill_all s (flat gone waiting) f)
      (cond-true (recognised among bs') _ [] u ∙ cond-false (eqb (length bs') 6) bs' (v ∷ []) (ne_eqb _ 6 (λ q. let e = longer in omega arith)))

  all_due : recognised among bs' ≡ true → length bs' ≡ 6 → due among bs' v ≡ bs'
  all_due u h = cond-true (recognised among bs') _ [] u ∙ cond-true (eqb (length bs') 6) bs' (v ∷ []) (eq-eqb _ 6 h)

  abbrev at_phase : Phase → View
  at_phase p = handled (summary s) among x₁ p (Byte v)

  storing_keeps : StoringFits s among x bs f → Goal (at_phase x.state.phase) filled_on
  storing_keeps K =
      let S = K.stores in
      let known' = recognised_push among bs v K.long ∙ K.known in
      let P₀ : Progress s gone waiting x₁ x₁ f bs = record {
        curr = refl;
        host = refl;
        crc = refl;
        mpa = mpa_is;
        table = I.table;
        state = inl (record { t = S.t; phase = S.phase; counts = S.counts; found = S.found; total = S.total; filling = S.filling });
      } in
      let P = byte_progress s L gone waiting x₁ I.curr curr_in x₁ f bs v P₀ in
      let e : at_phase x.state.phase ≡ store_in (summary s) x₁ x.state.phase v =
      ap at_phase S.phase ∙ sym (ap (λ p. store_in (summary s) x₁ p v) S.phase) in
      subst₂ Goal (sym e) (sym (one_due known' K.long))
      (from_progress (store_in (summary s) x₁ x.state.phase v) (fill_one s (flat gone waiting) f) known'
      (let q = longer in let w = K.long in omega arith) (crc_next K.crc) P)

  missed_keeps : MissedFits among x bs f → Goal (at_phase x.state.phase) filled_on
  missed_keeps D =
      let known' = recognised_push among bs v D.long ∙ D.known in
      subst (λ y. Goal y filled_on) (sym (ap at_phase D.misses.phase))
      (unstored_keeps x.state.phase filled_on (one_due known' D.long ∙ missed_fills_no_more s (flat gone waiting) f D.misses.lost)
      (in_missed (record {
        misses = record { phase = D.misses.phase; lost = D.misses.lost };
        long = (let q = longer in let w = D.long in omega arith);
        known = known';
      })))

  ignored_keeps : IgnoredFits among x bs f → Goal (at_phase x.state.phase) filled_on
  ignored_keeps N =
      let unknown' = recognised_push among bs v N.long ∙ N.unknown in
      subst (λ y. Goal y filled_on) (sym (ap at_phase N.phase))
      (unstored_keeps x.state.phase filled_on (none_due unknown')
      (in_ignored (record { phase = N.phase; long = (let q = longer in let w = N.long in omega arith); fresh = N.fresh; unknown = unknown' })))

  grouped_keeps_mpa : (a : List ℕ) → has MPA x.state.registers.rstat ≡ false → has MPA (grouped a x.state.registers.rstat) ≡ false
  grouped_keeps_mpa a q = go (has 0 (get_or a 0 0))
    where
      go : (g : Bool) → has MPA (cond g (with_bit GROUP x.state.registers.rstat) x.state.registers.rstat) ≡ false
      go true = other_bit_keeps_mpa x.state.registers.rstat 32 refl ∙ q
      go false = q

  recognised_keeps : AddressFits x bs f → length bs' ≡ 6 → recognised among bs' ≡ true → Goal (store_recognised (summary s) x₁ bs') filled_on
  recognised_keeps R six known =
      let x₂ : View = view x.memory (recognised_state x₁.state bs') in
      let P₀ : Progress s gone waiting x₁ x₂ no_fill [] = record {
        curr = refl;
        host = refl;
        crc = refl;
        mpa = grouped_keeps_mpa bs' (mpa_is ∙ ap (λ g. g.missed) R.fresh);
        table = subst (λ q. TableFits s gone waiting q.own x.memory) R.fresh I.table;
        state = inl (record {
          t = unstored;
          phase = refl;
          counts = record { many = refl; newest = refl; place = refl; room = refl; fill = refl };
          found = refl;
          total = refl;
          filling = record { row = tt; fits = omega arith; bytes = refl };
        });
      } in
      let P = bytes_progress s L gone waiting x₁ I.curr curr_in bs' x₂ no_fill [] P₀ in
      subst (Goal (store_all (summary s) x₂ bs'))
      (sym (ap (λ q. fill_all s (flat gone waiting) q (due among bs' v)) R.fresh ∙ ap (fill_all s (flat gone waiting) no_fill) (all_due known six)))
      (from_progress (store_all (summary s) x₂ bs') (fill_all s (flat gone waiting) no_fill bs') known (omega arith) (crc_next R.crc) P)

  address_keeps : AddressFits x bs f → Goal (at_phase x.state.phase) filled_on
  address_keeps R =
      let e : at_phase x.state.phase ≡ at_phase (Address R.six (length bs)) = ap at_phase R.phase in
      let pl = R.places in
      let sh = R.short in
      let more : take (length bs + 1) (set R.six (length bs) v) ≡ bs' = take_more_set R.six (length bs) v (omega arith) ∙ ap (λ z. z ++ (v ∷ [])) R.sofar in
      ⊎_elim
      (λ h. subst (λ y. Goal y filled_on) (sym (e ∙ cond-true (ltb (length bs) 5) _ _ (lt-ltb (length bs) 5 (let q = longer in omega arith))))
      (unstored_keeps (Address (set R.six (length bs) v) (length bs + 1)) filled_on (none_due (short_unrecognised among bs' h))
      (in_address (record {
        six = set R.six (length bs) v;
        places = length-set R.six (length bs) v ∙ R.places;
        phase = ap (Address (set R.six (length bs) v)) (sym longer);
        sofar = ap (λ k. take k (set R.six (length bs) v)) longer ∙ more;
        short = h;
        fresh = R.fresh;
        crc = crc_next R.crc;
      }))))
      (λ h.
      let six : length bs' ≡ 6 = let q = longer in omega arith in
      let five : length bs ≡ 5 = let q = longer in omega arith in
      let last_six : set R.six 5 v ≡ bs' =
      sym (take_all 6 (set R.six 5 v) (let w = length-set R.six 5 v in omega arith)) ∙ ap (λ k. take (k + 1) (set R.six k v)) (sym five) ∙ more in
      let e' : at_phase x.state.phase ≡ sixth (summary s) among x₁ bs' =
      e ∙ cond-false (ltb (length bs) 5) _ _ (le-ltb (length bs) 5 (omega arith)) ∙ ap (sixth (summary s) among x₁) last_six in
      ⊎_elim
      (λ y. subst (λ z. Goal z filled_on) (sym (e' ∙ cond-true (among bs') _ _ y)) (recognised_keeps R six (six_recognised among bs' six ∙ y)))
      (λ y. subst (λ z. Goal z filled_on) (sym (e' ∙ cond-false (among bs') _ _ y))
      (unstored_keeps Ignored filled_on (none_due (six_recognised among bs' six ∙ y))
      (in_ignored (record { phase = refl; long = h; fresh = R.fresh; unknown = six_recognised among bs' six ∙ y }))))
      (cases_Bool (among bs')))
      (cases_lt (length bs') 6)

  pub byte_keeps : Invariant s among gone waiting (coming (bs ++ (v ∷ [])) (fill_all s (flat gone waiting) f (due among (bs ++ (v ∷ [])) v)))
      (fill_all s (flat gone waiting) f (due among (bs ++ (v ∷ [])) v)).missed given (arrives (summary s) among x (Byte v))
  byte_keeps = go I.fits.1
    where
      go : ComingFits s among x bs f → Goal (at_phase x.state.phase) filled_on
      go (in_address R) = address_keeps R
      go (in_ignored R) = ignored_keeps R
      go (in_storing R) = storing_keeps R
      go (in_missed R) = missed_keeps R
