-- The descriptors of a frame, marked TAKEN.
use Rattle.std.proofs.Common.{◌≡◌, ℕ, zero, suc, ◌+◌, ◌*◌, ◌<◌, ◌≤◌, Bool, true, false, ◌⊎◌, List, [], ◌∷◌, length, get_or, set, sym, refl, ap, ◌∙◌, inl, inr, arith}
use Rattle.std.proofs.lemmas.List.{length-set}
use Rattle.rules.specs.Bits.{with_bit, TAKEN}
use Rattle.rules.specs.Table.{place, descriptor, take_run, take_one}
use Rattle.rules.specs.Plan.{buffer, Plan, number, summary, next, times}
use Rattle.rules.specs.Ledger.{empty}
use Rattle.rules.proofs.Lawful.{Lawful}
use Rattle.rules.proofs.Bytes.{set_elsewhere, descriptor_same, descriptor_flags, descriptor_flagged}
use Rattle.rules.proofs.Flags.{flags_of, flags_with_taken}
use Rattle.rules.proofs.Encoding.{Agree, entry, Row, Encoded}
use Rattle.rules.proofs.Runs.{next_below}
use Rattle.rules.proofs.Agrees.{agree_itself, agree_join, differs_from_head, head_not_in_tail, encoded_agree, row_below}

flag_keeps_buffers : (s : Plan) (L : Lawful s) (m : List ℕ) (d v e : ℕ) → d < number s → e < number s → (i : ℕ) → i < (buffer s e).length →
    get_or (set m (place (summary s) d) v) ((buffer s e).start.0 + i) 0 ≡ get_or m ((buffer s e).start.0 + i) 0
flag_keeps_buffers s L m d v e dn en i il = set_elsewhere m (place (summary s) d) v ((buffer s e).start.0 + i) (differs (L.clear e en))
  where
    differs : ((buffer s e).start.0 + (buffer s e).length ≤ s.shape.rbegin.0 * 256) ⊎ (s.shape.rend.0 * 256 ≤ (buffer s e).start.0) →
        (buffer s e).start.0 + i ≡ place (summary s) d → ⊥
    differs (inl c) q = omega arith
    differs (inr c) q = let r = L.room in omega arith

flag_keeps_others : (s : Plan) (L : Lawful s) (m : List ℕ) (d v e : ℕ) → d < number s → e < number s → (e ≡ d → ⊥) → Agree s m (set m (place (summary s) d) v) e
flag_keeps_others s L m d v e dn en ne = record {
  entry = descriptor_same m (set m (place (summary s) d) v) (place (summary s) e) (λ a x y. set_elsewhere m (place (summary s) d) v a (omega arith));
  bytes = flag_keeps_buffers s L m d v e dn en;
}

module _ (s : Plan) (L : Lawful s) where
  abbrev taken_byte : List ℕ → ℕ → ℕ
  taken_byte m d = with_bit TAKEN (get_or m (place (summary s) d) 0)

  pub take_keeps_length : (m : List ℕ) (k d : ℕ) → length (take_run (summary s) m d k) ≡ length m
  take_keeps_length m zero d = refl
  take_keeps_length m (suc k) d = take_keeps_length (take_one (summary s) m d) k (next s d) ∙ length-set m (place (summary s) d) (taken_byte m d)

  pub take_keeps_buffers : (m : List ℕ) (k d : ℕ) → d < number s → (e : ℕ) → e < number s → (i : ℕ) → i < (buffer s e).length →
      get_or (take_run (summary s) m d k) ((buffer s e).start.0 + i) 0 ≡ get_or m ((buffer s e).start.0 + i) 0
  take_keeps_buffers m zero d dn e en i il = refl
  take_keeps_buffers m (suc k) d dn e en i il =
      take_keeps_buffers (take_one (summary s) m d) k (next s d) (next_below s L d dn) e en i il
      ∙ flag_keeps_buffers s L m d (taken_byte m d) e dn en i il

  pub take_keeps_others : (m : List ℕ) (ds : List ℕ) (d : ℕ) → Row s d ds → d < number s → (e : ℕ) → e < number s → times e ds ≡ 0 →
      Agree s m (take_run (summary s) m d (length ds)) e
  take_keeps_others m [] d r dn e en t = agree_itself s m e
  take_keeps_others m (x ∷ xs) d r dn e en t =
      agree_join s m (take_one (summary s) m d) (take_run (summary s) (take_one (summary s) m d) (next s d) (length xs)) e
      (flag_keeps_others s L m d (taken_byte m d) e dn en (λ q. differs_from_head e x xs t (q ∙ sym r.0)))
      (take_keeps_others (take_one (summary s) m d) xs (next s d) r.1 (next_below s L d dn) e en (omega arith))

  pub take_encodes : (m : List ℕ) (first : Bool) (ds : List ℕ) (d filled st : ℕ) → length m ≡ s.shape.size → Row s d ds → d < number s →
      ((x : ℕ) → times x ds ≤ 1) → Encoded s m false first ds filled st → Encoded s (take_run (summary s) m d (length ds)) true first ds filled st
  take_encodes m first [] d filled st sz r dn o e = tt
  take_encodes m first (x ∷ xs) d filled st sz r dn o e =
      let p = place (summary s) d in
      let v = taken_byte m d in
      let m₁ = take_one (summary s) m d in
      let q = r.0 in
      let rm = L.room in
      let rm' = L.table in
      let at_d : descriptor (summary s) m d ≡ entry s false first d (empty xs) filled st = rw q at e.0 in
      let gap : times d xs ≡ 0 = rw q at (head_not_in_tail x xs o) in
      let v_is : v ≡ flags_of first (empty xs) true =
      ap (with_bit TAKEN) (sym (descriptor_flags m p) ∙ ap (λ z. z.flags) at_d) ∙ flags_with_taken first (empty xs) in
      let here : descriptor (summary s) m₁ d ≡ entry s true first d (empty xs) filled st = descriptor_flagged m p v (omega arith) ∙ cc in
      let later = take_keeps_others m₁ xs (next s d) r.1 (next_below s L d dn) d dn gap in (
        rw q (later.entry ∙ here),
        take_encodes m₁ false xs (next s d) filled st (length-set m p v ∙ sz) r.1 (next_below s L d dn) (λ y. let z = o y in omega arith)
            (encoded_agree s m m₁ false false xs filled st
            (λ y t. flag_keeps_others s L m d v y dn (row_below s L (next s d) xs (next_below s L d dn) r.1 y t) (λ p. let z : 0 < times d xs = rw p at t in omega arith)) e.1),
      )
