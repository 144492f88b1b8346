-- Bytes of a recognised arrival, one after another: the board and the ledger stay in step.
--   Stores, Misses    the phase of a recognised arrival beside the ledger's fill
--   Progress          what bytes keep, from the view x₀ on
use Rattle.std.proofs.Common.{◌≡◌, ℕ, zero, suc, ◌/◌, ◌%◌, ◌^◌, ◌<◌, ◌≤◌, min, Bool, true, false, ◌&&◌, eqb, leb, ◌⊎◌, List, [], ◌∷◌, ◌++◌, length, take, sym, refl, ap, ◌∙◌, subst, subst₂, inl, inr, ⊎_elim, arith}
use lib.Bits.{bit_or, or_shr, or_mod, or_zero_r}
use Rattle.std.proofs.lemmas.List.{length_push, take-append-le, take_all, append-nil, append_assoc}
use Rattle.std.proofs.lemmas.Bool.{le-leb, and_left, lt-leb, cond-true}
use Rattle.rules.specs.declared.state.Phase.TheVariants.{Storing, Missed}
use Rattle.rules.specs.declared.state.Stored.{Stored}
use Rattle.rules.specs.Bits.{has, MPA, with_bit}
use Rattle.rules.specs.Views.{View}
use Rattle.rules.specs.Arrivals.{store, count_up, store_in, store_all}
use Rattle.rules.specs.Plan.{Plan, number, summary}
use Rattle.rules.specs.Ledger.{recognised, Fill, Frame, fill_one, fill_all}
use Rattle.rules.proofs.Frames.{Gone, KeptFrame, after_waiting, after_gone, flat}
use Rattle.rules.proofs.Lawful.{Lawful}
use Rattle.rules.proofs.Encoding.{TableFits}
use Rattle.rules.proofs.Filling.{Counts, Filling, MissesByte, filling_of, StoresByte}
use Rattle.rules.proofs.StoreStep.{store_step}

pub other_bit_keeps_mpa : (r c : ℕ) → c / 2 ^ 4 % 2 ≡ 0 → has MPA (bit_or r c) ≡ has MPA r
other_bit_keeps_mpa r c h =
    ap (λ x. eqb x 1) (ap (λ y. y % 2) (or_shr r c 4) ∙ or_mod (r / 2 ^ 4) (c / 2 ^ 4) 1 ∙ ap (λ z. bit_or (r / 2 ^ 4 % 2) z) h ∙ or_zero_r (r / 2 ^ 4 % 2))

mpa_set : (r : ℕ) → has MPA (with_bit MPA r) ≡ true
mpa_set r = ap (λ x. eqb x 1) (ap (λ y. y % 2) (or_shr r 16 4) ∙ or_mod (r / 2 ^ 4) 1 1 ∙ go (r / 16 % 2) (omega arith))
  where
    go : (y : ℕ) → y < 2 → bit_or y 1 ≡ 1
    go zero h = refl
    go (suc zero) h = refl
    go (suc (suc y)) h = absurd (omega arith)

pub recognised_push : (among : List ℕ → Bool) (bs : List ℕ) (v : ℕ) → 6 ≤ length bs → recognised among (bs ++ (v ∷ [])) ≡ recognised among bs
unfolding recognised
recognised_push among bs v h =
    let a : leb 6 (length (bs ++ (v ∷ []))) ≡ true = le-leb 6 _ (let e = length_push bs v in omega arith) in
    let b : leb 6 (length bs) ≡ true = le-leb 6 (length bs) h in
    ap (λ c. c && among (take 6 (bs ++ (v ∷ [])))) a ∙ ap among (take-append-le 6 bs (v ∷ []) h) ∙ ap (λ c. c && among (take 6 bs)) (sym b)

pub short_unrecognised : (among : List ℕ → Bool) (bs : List ℕ) → length bs < 6 → recognised among bs ≡ false
unfolding recognised
short_unrecognised among bs h = and_left (leb 6 (length bs)) _ (lt-leb 6 (length bs) h)

pub six_recognised : (among : List ℕ → Bool) (bs : List ℕ) → length bs ≡ 6 → recognised among bs ≡ among bs
unfolding recognised
six_recognised among bs h = ap (λ c. c && among (take 6 bs)) (le-leb 6 (length bs) (omega arith)) ∙ ap among (take_all 6 bs (omega arith))

pub record Stores (s : Plan) (x : View) (f : Fill) (sofar : List ℕ) : Type 0 where
  pub t : Stored
  pub phase : x.state.phase ≡ Storing t
  pub counts : Counts s t f.own f.filled
  pub found : f.missed ≡ false
  pub total : t.total ≡ min (length sofar) 255
  pub filling : Filling s x.state.curr x.memory f.own f.filled sofar

pub record Misses (x : View) (f : Fill) : Type 0 where
  pub phase : x.state.phase ≡ Missed
  pub lost : f.missed ≡ true

pub record Progress (s : Plan) (gone : List Gone) (waiting : List KeptFrame) (x₀ x : View) (f : Fill) (sofar : List ℕ) : Type 0 where
  pub curr : x.state.curr ≡ x₀.state.curr
  pub host : x.state.host ≡ x₀.state.host
  pub crc : x.state.crc ≡ x₀.state.crc
  pub mpa : has MPA x.state.registers.rstat ≡ f.missed
  pub table : TableFits s gone waiting f.own x.memory
  pub state : Stores s x f sofar ⊎ Misses x f

pub missed_fills_no_more : (s : Plan) (fs : List Frame) (f : Fill) → f.missed ≡ true → fill_one s fs f ≡ f
unfolding fill_one
missed_fills_no_more s fs f h = cond-true f.missed f _ h

module _ (s : Plan) (L : Lawful s) (gone : List Gone) (waiting : List KeptFrame) (x₀ : View)
    (c : x₀.state.curr ≡ after_waiting s waiting (after_gone s gone 0)) (cn : x₀.state.curr < number s) where
  misses_progress : (x : View) (f : Fill) (sofar : List ℕ) (v : ℕ) (t : Stored) → Progress s gone waiting x₀ x f sofar →
      MissesByte s gone waiting x t f.own f.filled v →
      Progress s gone waiting x₀ (store (summary s) x t v) (fill_one s (flat gone waiting) (filling_of f.own f.filled)) (sofar ++ (v ∷ []))
  misses_progress x f sofar v t P X =
      subst₂ (λ y g. Progress s gone waiting x₀ y g (sofar ++ (v ∷ []))) (sym X.board) (sym X.ledger)
      (record {
        curr = P.curr;
        host = P.host;
        crc = P.crc;
        mpa = mpa_set x.state.registers.rstat;
        table = P.table;
        state = inr (record { phase = refl {a = Missed}; lost = refl });
      })

  stores_progress : (x : View) (f : Fill) (sofar : List ℕ) (v : ℕ) (t : Stored) → Progress s gone waiting x₀ x f sofar → f.missed ≡ false →
      t.total ≡ min (length sofar) 255 → StoresByte s gone waiting x t f.own f.filled v sofar →
      Progress s gone waiting x₀ (store (summary s) x t v) (fill_one s (flat gone waiting) (filling_of f.own f.filled)) (sofar ++ (v ∷ []))
  stores_progress x f sofar v t P found total X =
      let more_total : count_up (min (length sofar) 255) ≡ min (length (sofar ++ (v ∷ []))) 255 = let e = length_push sofar v in omega arith in
      subst₂ (λ y g. Progress s gone waiting x₀ y g (sofar ++ (v ∷ []))) (sym X.board) (sym X.ledger)
      (record {
        curr = P.curr;
        host = P.host;
        crc = P.crc;
        mpa = P.mpa ∙ found;
        table = X.table;
        state = inl (record { t = X.t'; phase = refl; counts = X.counts; found = refl; total = X.total ∙ ap count_up total ∙ more_total; filling = X.filling });
      })

  pub byte_progress : (x : View) (f : Fill) (sofar : List ℕ) (v : ℕ) → Progress s gone waiting x₀ x f sofar →
      Progress s gone waiting x₀ (store_in (summary s) x x.state.phase v) (fill_one s (flat gone waiting) f) (sofar ++ (v ∷ []))
  byte_progress x f sofar v P =
      let R : View → Fill → Type 0 = λ y g. Progress s gone waiting x₀ y g (sofar ++ (v ∷ [])) in
      let E : Bool → Fill = λ z. record { own = f.own; filled = f.filled; missed = z } in
      ⊎_elim
      (λ S.
      subst₂ R (sym (ap (λ p. store_in (summary s) x p v) S.phase)) (sym (ap (λ z. fill_one s (flat gone waiting) (E z)) S.found))
      (⊎_elim (misses_progress x f sofar v S.t P) (stores_progress x f sofar v S.t P S.found S.total)
      (store_step s L gone waiting x S.t f.own f.filled v sofar S.counts P.table (P.curr ∙ c) (rw P.curr cn) S.filling)))
      (λ M.
      subst₂ R (sym (ap (λ p. store_in (summary s) x p v) M.phase)) (sym (missed_fills_no_more s (flat gone waiting) f M.lost))
      (record { curr = P.curr; host = P.host; crc = P.crc; mpa = P.mpa; table = P.table; state = inr M }))
      P.state

  pub bytes_progress : (vs : List ℕ) (x : View) (f : Fill) (sofar : List ℕ) → Progress s gone waiting x₀ x f sofar →
      Progress s gone waiting x₀ (store_all (summary s) x vs) (fill_all s (flat gone waiting) f vs) (sofar ++ vs)
  unfolding store_all
  bytes_progress [] x f sofar P = subst (Progress s gone waiting x₀ x f) (sym (append-nil sofar)) P
  bytes_progress (v ∷ vs) x f sofar P =
      subst (Progress s gone waiting x₀ (store_all (summary s) (store_in (summary s) x x.state.phase v) vs) (fill_all s (flat gone waiting) (fill_one s (flat gone waiting) f) vs))
      (append_assoc sofar (v ∷ []) vs)
      (bytes_progress vs (store_in (summary s) x x.state.phase v) (fill_one s (flat gone waiting) f) (sofar ++ (v ∷ [])) (byte_progress x f sofar v P))
