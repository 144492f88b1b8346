-- The descriptors of an arrival, marked as those of a kept frame.
use Rattle.std.proofs.Common.{◌≡◌, ℕ, ◌+◌, ◌<◌, ◌≤◌, Bool, false, cond, eqb, List, [], ◌∷◌, length, get_or, sym, refl, ap, ◌∙◌, arith}
use lib.Dec.{eqb-suc-zero}
use Rattle.rules.specs.Table.{keep_one, write, place, kept_flags, descriptor, keep_run}
use Rattle.rules.specs.Plan.{Plan, summary, times, number, buffer, next}
use Rattle.rules.specs.Ledger.{empty}
use Rattle.rules.proofs.Lawful.{Lawful}
use Rattle.rules.proofs.Bytes.{length_write, descriptor_written}
use Rattle.rules.proofs.Encoding.{keep_list, Agree, vacant, Encoded, entry, Row}
use Rattle.rules.proofs.Agrees.{agree_itself, agree_join, write_keeps_others, times_head, differs_from_head, times_tail, write_keeps_buffers, head_not_in_tail}

module _ (s : Plan) (L : Lawful s) (filled st : ℕ) where
  abbrev marked : List ℕ → Bool → ℕ → List ℕ → List ℕ
  marked m first d ds = keep_one (summary s) m d filled st first (empty ds)

  pub keep_keeps_length : (m : List ℕ) (first : Bool) (ds : List ℕ) → length (keep_list s m first ds filled st) ≡ length m
  keep_keeps_length m first [] = refl
  keep_keeps_length m first (d ∷ ds) =
      keep_keeps_length (marked m first d ds) false ds
      ∙ length_write m (place (summary s) d) (kept_flags first (empty ds)) (cond (empty ds) st 0) (cond (empty ds) filled (descriptor (summary s) m d).length)

  pub keep_keeps_others : (m : List ℕ) (first : Bool) (ds : List ℕ) → ((x : ℕ) → 0 < times x ds → x < number s) → (e : ℕ) → e < number s → times e ds ≡ 0 →
      Agree s m (keep_list s m first ds filled st) e
  keep_keeps_others m first [] n e en t = agree_itself s m e
  keep_keeps_others m first (d ∷ ds) n e en t =
      agree_join s m (marked m first d ds) (keep_list s (marked m first d ds) false ds filled st) e
      (write_keeps_others s L m d (kept_flags first (empty ds)) (cond (empty ds) st 0) (cond (empty ds) filled (descriptor (summary s) m d).length) e
      (n d (times_head d ds)) en (differs_from_head e d ds t))
      (keep_keeps_others (marked m first d ds) false ds (λ x y. n x (times_tail x d ds y)) e en (omega arith))

  pub keep_keeps_buffers : (m : List ℕ) (first : Bool) (ds : List ℕ) → ((x : ℕ) → 0 < times x ds → x < number s) → (e : ℕ) → e < number s →
      (i : ℕ) → i < (buffer s e).length → get_or (keep_list s m first ds filled st) ((buffer s e).start.0 + i) 0 ≡ get_or m ((buffer s e).start.0 + i) 0
  keep_keeps_buffers m first [] n e en i h = refl
  keep_keeps_buffers m first (d ∷ ds) n e en i h =
      keep_keeps_buffers (marked m first d ds) false ds (λ x y. n x (times_tail x d ds y)) e en i h
      ∙ write_keeps_buffers s L m d (kept_flags first (empty ds)) (cond (empty ds) st 0) (cond (empty ds) filled (descriptor (summary s) m d).length) e
      (n d (times_head d ds)) en i h

  pub keep_encodes : (m : List ℕ) (first : Bool) (ds : List ℕ) → length m ≡ s.shape.size → ((x : ℕ) → 0 < times x ds → x < number s) →
      ((x : ℕ) → times x ds ≤ 1) → ((x : ℕ) → 0 < times x ds → descriptor (summary s) m x ≡ vacant s x) →
      Encoded s (keep_list s m first ds filled st) false first ds filled st
  keep_encodes m first [] sz n o v = tt
  keep_encodes m first (d ∷ ds) sz n o v =
      let p = place (summary s) d in
      let flags = kept_flags first (empty ds) in
      let a = cond (empty ds) st 0 in
      let b = cond (empty ds) filled (descriptor (summary s) m d).length in
      let m₁ = write (summary s) m d flags a b in
      let dn = n d (times_head d ds) in
      let r = L.room in
      let r' = L.table in
      let vd = v d (times_head d ds) in
      let gap = head_not_in_tail d ds o in
      let here : descriptor (summary s) m₁ d ≡ entry s false first d (empty ds) filled st = descriptor_written m p flags a b (omega arith) ∙ cc in
      let later = keep_keeps_others m₁ false ds (λ x y. n x (times_tail x d ds y)) d dn gap in (
        later.entry ∙ here,
        keep_encodes m₁ false ds (length_write m p flags a b ∙ sz) (λ x y. n x (times_tail x d ds y)) (λ x. let z = o x in omega arith)
            (λ x y. (write_keeps_others s L m d flags a b x dn (n x (times_tail x d ds y)) (λ q. let z : 0 < times d ds = rw q at y in omega arith)).entry
            ∙ v x (times_tail x d ds y)),
      )

empty_by_length : (ds : List ℕ) → eqb (length ds) 0 ≡ empty ds
empty_by_length [] = refl
empty_by_length (d ∷ ds) = eqb-suc-zero (length ds)

-- the board counts its descriptors from CURR on, and the list has them
pub keep_run_is : (s : Plan) (m : List ℕ) (first : Bool) (ds : List ℕ) (d filled st : ℕ) → Row s d ds →
    keep_run (summary s) m d filled st first (length ds) ≡ keep_list s m first ds filled st
keep_run_is s m first [] d filled st r = refl
keep_run_is s m first (x ∷ xs) d filled st r =
    let W : Bool → ℕ → List ℕ = λ z y. keep_one (summary s) m y filled st first z in
    let same_write : W (eqb (length xs) 0) d ≡ W (empty xs) x = ap (λ z. W z d) (empty_by_length xs) ∙ ap (λ y. W (empty xs) y) (sym r.0) in
    ap (λ w. keep_run (summary s) w (next s d) filled st false (length xs)) same_write ∙ keep_run_is s (W (empty xs) x) false xs (next s d) filled st r.1
