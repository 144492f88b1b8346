-- Descriptors in their order: rows of them, and k descriptors on.
use Rattle.std.proofs.Common.{◌≡◌, ℕ, zero, suc, ◌+◌, ◌-◌, ◌<◌, ◌≤◌, cond, eqb, ltb, ◌⊎◌, List, [], ◌∷◌, ◌++◌, length, sym, refl, ap, ◌∙◌, subst, inl, inr, ⊎_elim, arith}
use lib.Dec.{eqb-suc-zero}
use Rattle.std.proofs.lemmas.Bool.{cases_lt, eq-eqb, cond-false, lt-ltb, le-ltb, ne_eqb}
use Rattle.std.proofs.lemmas.Bool.Decides.{nat_tests}
use Rattle.rules.specs.Table.{next as following, onward}
use Rattle.rules.specs.Plan.{Plan, next, number, summary, row, times, after, latest}
use Rattle.rules.proofs.Lawful.{Lawful}
use Rattle.rules.proofs.Encoding.{Row}
use Rattle.rules.proofs.Runs.{next_below}
use Rattle.rules.proofs.Agrees.{times_head, times_tail, head_or_tail}

module _ (s : Plan) (L : Lawful s) where
  next_up : (d : ℕ) → d + 1 < number s → next s d ≡ d + 1
  unfolding following
  next_up d h = grind (arith, nat_tests)

  next_round : (d : ℕ) → d + 1 ≡ number s → next s d ≡ 0
  unfolding following
  next_round d h = grind (arith, nat_tests)

  onward_up : (k d : ℕ) → d + k < number s → onward (summary s) d k ≡ d + k
  onward_up zero d h = omega arith
  onward_up (suc k) d h = let e = next_up d (omega arith) in onward_up k (next s d) (omega arith) ∙ omega arith

  onward_round : (k d : ℕ) → d < number s → k ≤ number s → number s ≤ d + k → onward (summary s) d k ≡ d + k - number s
  onward_round zero d dn kn h = omega arith
  onward_round (suc k) d dn kn h =
      ⊎_elim (λ q. let e = next_up d q in onward_round k (next s d) (omega arith) (omega arith) (omega arith) ∙ omega arith)
      (λ q. let e = next_round d (omega arith) in onward_up k (next s d) (omega arith) ∙ omega arith) (cases_lt (d + 1) (number s))

  onward_add : (i j k d : ℕ) → k ≡ i + j → onward (summary s) d k ≡ onward (summary s) (onward (summary s) d i) j
  onward_add zero j k d q = let e : k ≡ j = omega arith in ap (λ x. onward (summary s) d x) e
  onward_add (suc i) j zero d q = absurd (omega arith)
  onward_add (suc i) j (suc k) d q = onward_add i j k (next s d) (omega arith)

  pub onward_below : (k d : ℕ) → d < number s → onward (summary s) d k < number s
  onward_below zero d h = h
  onward_below (suc k) d h = onward_below k (next s d) (next_below s L d h)

  -- fewer than a whole round, and not none, ends at another descriptor
  onward_elsewhere : (k d : ℕ) → d < number s → 0 < k → k < number s → onward (summary s) d k ≡ d → ⊥
  onward_elsewhere k d dn k0 kn q = go (cases_lt (d + k) (number s))
    where
      go : (d + k < number s) ⊎ (number s ≤ d + k) → ⊥
      go (inl h) = let e = onward_up k d h in omega arith
      go (inr h) = let e = onward_round k d dn (omega arith) h in omega arith

  onward_in_row : (ds : List ℕ) (d k : ℕ) → Row s d ds → k < length ds → 0 < times (onward (summary s) d k) ds
  onward_in_row [] d k r h = absurd (omega arith)
  onward_in_row (x ∷ xs) d zero r h = subst (λ y. 0 < times y (x ∷ xs)) r.0 (times_head x xs)
  onward_in_row (x ∷ xs) d (suc k) r h = times_tail (onward (summary s) (next s d) k) x xs (onward_in_row xs (next s d) k r.1 (omega arith))

  place_in_row : (ds : List ℕ) (d e : ℕ) → Row s d ds → 0 < times e ds → (k : ℕ) × (k < length ds) × (onward (summary s) d k ≡ e)
  place_in_row [] d e r h = absurd (omega arith)
  place_in_row (x ∷ xs) d e r h =
      ⊎_elim (λ q. (0, omega arith, sym (q ∙ r.0)))
      (λ t. let p = place_in_row xs (next s d) e r.1 t in (suc p.0, (let z = p.1 in omega arith), p.2)) (head_or_tail e x xs h)

  pub row_length : (ds : List ℕ) (d : ℕ) → Row s d ds → d < number s → ((x : ℕ) → times x ds ≤ 1) → length ds ≤ number s
  row_length [] d r dn o = omega arith
  row_length (x ∷ xs) d r dn o = go (cases_lt (length xs) (number s))
    where
      k : ℕ
      k = number s - 1

      around : onward (summary s) (next s d) k ≡ d
      around = let o = L.some in onward_round (suc k) d dn (omega arith) (omega arith) ∙ omega arith

      go : (length xs < number s) ⊎ (number s ≤ length xs) → suc (length xs) ≤ number s
      go (inl h) = h
      go (inr h) =
          let some = L.some in
          let m = onward_in_row xs (next s d) k r.1 (omega arith) in
          let m' : 0 < times d xs = subst (λ y. 0 < times y xs) around m in
          let z = o d in
          let z' : times d (x ∷ xs) ≡ 1 + times d xs = ap (λ c. cond c 1 0 + times d xs) (eq-eqb d x (sym r.0)) in
          omega arith

  -- the descriptor after a row that does not go all the way round
  pub row_end : (ds : List ℕ) (d : ℕ) → Row s d ds → d < number s → length ds < number s → times (onward (summary s) d (length ds)) ds ≡ 0
  row_end ds d r dn h = go (cases_lt 0 (times (onward (summary s) d (length ds)) ds))
    where
      e : ℕ
      e = onward (summary s) d (length ds)

      go : (0 < times e ds) ⊎ (times e ds ≤ 0) → times e ds ≡ 0
      go (inr z) = omega arith
      go (inl t) =
          let p = place_in_row ds d e r t in
          let i = p.0 in
          let il = p.1 in
          let j = length ds - i in
          let back : onward (summary s) e j ≡ e = ap (λ y. onward (summary s) y j) (sym p.2) ∙ sym (onward_add i j (length ds) d (omega arith)) in
          absurd (onward_elsewhere j e (onward_below (length ds) d dn) (omega arith) (omega arith) back)

  pub after_is_onward : (ds : List ℕ) (d : ℕ) → Row s d ds → after s ds d ≡ onward (summary s) d (length ds)
  after_is_onward [] d r = refl
  after_is_onward (x ∷ xs) d r = ap (λ y. after s xs (next s y)) r.0 ∙ after_is_onward xs (next s d) r.1

  pub after_below : (ds : List ℕ) (d : ℕ) → Row s d ds → d < number s → after s ds d < number s
  after_below ds d r dn = rw (after_is_onward ds d r) (onward_below (length ds) d dn)

  pub row_append : (xs ys : List ℕ) (d : ℕ) → Row s d xs → Row s (after s xs d) ys → Row s d (xs ++ ys)
  row_append [] ys d r q = q
  row_append (x ∷ xs) ys d r q = (r.0, row_append xs ys (next s d) r.1 (subst (λ y. Row s (after s xs (next s y)) ys) r.0 q))

  pub after_append : (xs ys : List ℕ) (d : ℕ) → after s (xs ++ ys) d ≡ after s ys (after s xs d)
  after_append [] ys d = refl
  after_append (x ∷ xs) ys d = after_append xs ys (next s x)

pub row_is : (s : Plan) (d : ℕ) (ds : List ℕ) → Row s d ds → row s d (length ds) ≡ ds
row_is s d [] r = refl
row_is s d (x ∷ xs) r = ap (λ z. d ∷ z) (row_is s (next s d) xs r.1) ∙ ap (λ y. y ∷ xs) (sym r.0)

-- the next descriptor of an arrival: CURR first, then the one after its latest
module _ (s : Plan) (L : Lawful s) where
  after_latest : (x : ℕ) (xs : List ℕ) (c : ℕ) → after s (x ∷ xs) c ≡ next s (latest (x ∷ xs) 0)
  after_latest x [] c = refl
  after_latest x (y ∷ ys) c = after_latest y ys (next s x)

  pub wanted_is_after : (own : List ℕ) (c : ℕ) → cond (eqb (length own) 0) c (next s (latest own 0)) ≡ after s own c
  wanted_is_after [] c = refl
  wanted_is_after (x ∷ xs) c = cond-false (eqb (suc (length xs)) 0) c (next s (latest (x ∷ xs) 0)) (eqb-suc-zero (length xs)) ∙ sym (after_latest x xs c)

  -- where the arrival has fewer than all, the next is not its own
  pub all_used_test : (own : List ℕ) (c : ℕ) → Row s c own → c < number s → ((x : ℕ) → times x own ≤ 1) →
      ltb (length own) (number s) ≡ eqb (times (after s own c) own) 0
  all_used_test own c r cn o = go (cases_lt (length own) (number s))
    where
      few : length own ≤ number s
      few = row_length s L own c r cn o

      at_end : after s own c ≡ onward (summary s) c (length own)
      at_end = after_is_onward s L own c r

      go : (length own < number s) ⊎ (number s ≤ length own) → ltb (length own) (number s) ≡ eqb (times (after s own c) own) 0
      go (inl h) = lt-ltb _ _ h ∙ sym (eq-eqb _ 0 (ap (λ y. times y own) at_end ∙ row_end s L own c r cn h))
      go (inr h) =
          let n0 = L.some in
          let few' = few in
          let back : onward (summary s) c (length own) ≡ c = onward_round s L (length own) c cn (omega arith) (omega arith) ∙ omega arith in
          let there : 0 < times c own = onward_in_row s L own c 0 r (omega arith) in
          let there' : 0 < times (after s own c) own = subst (λ y. 0 < times y own) (sym (at_end ∙ back)) there in
          le-ltb _ _ h ∙ sym (ne_eqb _ 0 (λ q. omega arith))
