-- The descriptors of a frame, freed.
use Rattle.std.proofs.Common.{◌≡◌, ℕ, zero, suc, ◌<◌, ◌≤◌, Bool, false, List, [], ◌∷◌, length, sym, refl, ◌∙◌, subst, ⊎_elim, arith}
use Rattle.rules.specs.Table.{clear_run, write, place, descriptor}
use Rattle.rules.specs.Plan.{Plan, summary, next, number, times}
use Rattle.rules.specs.Ledger.{empty}
use Rattle.rules.proofs.Lawful.{Lawful}
use Rattle.rules.proofs.Bytes.{length_write, descriptor_written}
use Rattle.rules.proofs.Encoding.{Row, Agree, Encoded, vacant, entry}
use Rattle.rules.proofs.Runs.{next_below}
use Rattle.rules.proofs.Agrees.{agree_itself, agree_join, write_keeps_others, differs_from_head, head_not_in_tail, encoded_agree, row_below, head_or_tail}

module _ (s : Plan) (L : Lawful s) where
  pub clear_keeps_length : (m : List ℕ) (k d : ℕ) → length (clear_run (summary s) m d k) ≡ length m
  clear_keeps_length m zero d = refl
  clear_keeps_length m (suc k) d = clear_keeps_length (write (summary s) m d 0 0 0) k (next s d) ∙ length_write m (place (summary s) d) 0 0 0

  pub clear_keeps_others : (m : List ℕ) (ds : List ℕ) (d : ℕ) → Row s d ds → d < number s → (e : ℕ) → e < number s → times e ds ≡ 0 →
      Agree s m (clear_run (summary s) m d (length ds)) e
  clear_keeps_others m [] d r dn e en t = agree_itself s m e
  clear_keeps_others m (x ∷ xs) d r dn e en t =
      agree_join s m (write (summary s) m d 0 0 0) (clear_run (summary s) (write (summary s) m d 0 0 0) (next s d) (length xs)) e
      (write_keeps_others s L m d 0 0 0 e dn en (λ q. differs_from_head e x xs t (q ∙ sym r.0)))
      (clear_keeps_others (write (summary s) m d 0 0 0) xs (next s d) r.1 (next_below s L d dn) e en (omega arith))

  pub clear_frees : (m : List ℕ) (tk first : Bool) (ds : List ℕ) (d filled st : ℕ) → length m ≡ s.shape.size → Row s d ds → d < number s →
      ((x : ℕ) → times x ds ≤ 1) → Encoded s m tk first ds filled st → (e : ℕ) → 0 < times e ds →
      descriptor (summary s) (clear_run (summary s) m d (length ds)) e ≡ vacant s e
  clear_frees m tk first [] d filled st sz r dn o c e t = absurd (omega arith)
  clear_frees m tk first (x ∷ xs) d filled st sz r dn o c e t =
      let p = place (summary s) d in
      let m₁ = write (summary s) m d 0 0 0 in
      let q = r.0 in
      let rm = L.room in
      let rm' = L.table in
      let at_d : descriptor (summary s) m d ≡ entry s tk first d (empty xs) filled st = rw q at c.0 in
      let gap : times d xs ≡ 0 = rw q at (head_not_in_tail x xs o) in
      let here : descriptor (summary s) m₁ d ≡ vacant s d = descriptor_written m p 0 0 0 (omega arith) ∙ cc in
      let later = clear_keeps_others m₁ xs (next s d) r.1 (next_below s L d dn) d dn gap in
      ⊎_elim
      (λ y. subst (λ z. descriptor (summary s) (clear_run (summary s) m₁ (next s d) (length xs)) z ≡ vacant s z) (sym (y ∙ q)) (later.entry ∙ here))
      (clear_frees m₁ tk false xs (next s d) filled st (length_write m p 0 0 0 ∙ sz) r.1 (next_below s L d dn) (λ y. let z = o y in omega arith)
      (encoded_agree s m m₁ tk false xs filled st
      (λ y u. write_keeps_others s L m d 0 0 0 y dn (row_below s L (next s d) xs (next_below s L d dn) r.1 y u) (λ p. let z : 0 < times d xs = rw p at u in omega arith))
      c.1) e)
      (head_or_tail e x xs t)
