-- A layout that a board opens with is lawful.
use Rattle.std.proofs.Common.{◌≡◌, ℕ, zero, suc, ◌+◌, ◌*◌, ◌<◌, ◌≤◌, true, false, not, ◌&&◌, ltb, leb, ◌⊎◌, List, [], ◌∷◌, ◌++◌, length, get_or, take, Ok, sym, refl, ap, ◌∙◌, inl, inr, ⊎_elim, arith}
use Rattle.std.proofs.lemmas.List.{length-append, get_or_append_left, get_or_at}
use Rattle.std.proofs.lemmas.Bool.{and_parts, cases_lt, not-true}
use Rattle.std.proofs.lemmas.Bool.Decides.{nat_tests}
use Rattle.memory.specs.declared.address.Page.{Page}
use Rattle.layout.specs.declared.buffer.Buffer.{Buffer}
use Rattle.layout.specs.declared.layout.Layout.{Layout}
use Rattle.layout.specs.Buffers.{shares, meets, sound, fits, table_of}
use Rattle.layout.specs.Layouts.{shape}
use Rattle.rules.specs.Opening.{open_answer}
use Rattle.rules.specs.Plan.{plan}
use Rattle.rules.proofs.Lawful.{Lawful}

abbrev none : Buffer
none = record { start = record { 0 = 0 }; length = 0 }

apart_from_meets : (a b : Buffer) → meets a b ≡ false → (a.start.0 + a.length ≤ b.start.0) ⊎ (b.start.0 + b.length ≤ a.start.0)
apart_from_meets a b h = ⊎_elim (λ lt. inr (grind (arith, nat_tests))) (λ ge. inl ge) (cases_lt b.start.0 (a.start.0 + a.length))

length_take_most : (k : ℕ) (xs : List Buffer) → length (take k xs) ≤ k
length_take_most zero xs = omega arith
length_take_most (suc k) [] = omega arith
length_take_most (suc k) (x ∷ xs) = let h = length_take_most k xs in omega arith

module _ (size : ℕ) (f p : Page) where
  each_fits : (before bs : List Buffer) → sound size f p before bs ≡ true → (d : ℕ) → d < length bs → fits size f p (get_or bs d none) ≡ true
  each_fits before [] h d n = absurd (omega arith)
  each_fits before (b ∷ bs) h zero n = (and_parts _ _ (and_parts _ _ h).0).0
  each_fits before (b ∷ bs) h (suc d) n = each_fits (before ++ b ∷ []) bs (and_parts _ _ h).1 d (omega arith)

  none_meets : (bs : List Buffer) (x : Buffer) → shares bs x ≡ false → (d : ℕ) → d < length bs → meets (get_or bs d none) x ≡ false
  none_meets [] x h d n = absurd (omega arith)
  none_meets (b ∷ bs) x h zero n = grind (arith, nat_tests)
  none_meets (b ∷ bs) x h (suc d) n = none_meets bs x (grind (arith, nat_tests)) d (omega arith)

  before_not_meets : (before bs : List Buffer) → sound size f p before bs ≡ true → (d : ℕ) → d < length bs → (e : ℕ) → e < length before →
      meets (get_or before e none) (get_or bs d none) ≡ false
  before_not_meets before [] h d n e k = absurd (omega arith)
  before_not_meets before (b ∷ bs) h zero n e k = none_meets before b (not-true _ (and_parts _ _ (and_parts _ _ h).0).1) e k
  before_not_meets before (b ∷ bs) h (suc d) n e k =
      ap (λ z. meets z (get_or bs d none)) (sym (get_or_append_left before (b ∷ []) none e k))
      ∙ before_not_meets (before ++ b ∷ []) bs (and_parts _ _ h).1 d (omega arith) e (let z = length-append before (b ∷ []) in omega arith)

  two_not_meet : (before bs : List Buffer) → sound size f p before bs ≡ true → (e d : ℕ) → e < d → d < length bs →
      meets (get_or bs e none) (get_or bs d none) ≡ false
  two_not_meet before [] h e d n k = absurd (omega arith)
  two_not_meet before (b ∷ bs) h e zero n k = absurd (omega arith)
  two_not_meet before (b ∷ bs) h zero (suc d) n k =
      ap (λ z. meets z (get_or bs d none)) (sym (get_or_at before b [] none (length before) refl))
      ∙ before_not_meets (before ++ b ∷ []) bs (and_parts _ _ h).1 d (omega arith) (length before) (let z = length-append before (b ∷ []) in omega arith)
  two_not_meet before (b ∷ bs) h (suc e) (suc d) n k = two_not_meet (before ++ b ∷ []) bs (and_parts _ _ h).1 e d (omega arith) (omega arith)

  clear_of_table : (b : Buffer) → fits size f p b ≡ true → f.0 ≤ p.0 → (b.start.0 + b.length ≤ f.0 * 256) ⊎ (p.0 * 256 ≤ b.start.0)
  clear_of_table b h k =
      let q : meets (table_of f p) b ≡ false =
      not-true (meets (table_of f p) b) (and_parts (ltb 0 b.length && leb (b.start.0 + b.length) size) (not (meets (table_of f p) b)) h).1 in
      ⊎_elim (λ c. inr (omega arith)) (λ c. inl (omega arith)) (apart_from_meets (table_of f p) b q)

pub lawful_plan : (l : Layout) (rcon size : ℕ) → open_answer size (shape l) rcon ≡ Ok tt → Lawful (plan l rcon)
lawful_plan l rcon size e =
    let bs = take l.count l.buffers in
    let few = l.few in
    let within = l.within in
    let some : 0 < length bs = grind (arith, nat_tests) in
    let n : length bs ≤ l.count = length_take_most l.count l.buffers in
    let fit : (d : ℕ) → d < length bs → fits l.size l.rbegin l.rend (get_or bs d none) ≡ true =
    each_fits l.size l.rbegin l.rend [] bs l.apart in
    record {
      some = some;
      room = omega arith;
      table = omega arith;
      limit = omega arith;
      byte = λ d k. let h = fit d k in grind (arith, nat_tests);
      inside = λ d k. let h = fit d k in grind (arith, nat_tests);
      clear = λ d k. clear_of_table l.size l.rbegin l.rend (get_or bs d none) (fit d k) few.1;
      apart = λ d x dk xk ne. ⊎_elim
          (λ lt. apart_from_meets (get_or bs d none) (get_or bs x none) (two_not_meet l.size l.rbegin l.rend [] bs l.apart d x lt xk))
          (λ ge. ⊎_elim inr inl (apart_from_meets (get_or bs x none) (get_or bs d none) (two_not_meet l.size l.rbegin l.rend [] bs l.apart x d (omega arith) dk)))
          (cases_lt d x);
    }
