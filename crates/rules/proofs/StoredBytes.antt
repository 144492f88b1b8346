-- The bytes in an arrival's buffers, with one byte more.
use Rattle.std.proofs.Common.{◌≡◌, ℕ, ◌+◌, ◌<◌, ◌≤◌, false, List, [], ◌∷◌, ◌++◌, length, take, drop, set, sym, refl, ap, ◌∙◌, subst, arith}
use Rattle.std.proofs.lemmas.List.{append-nil, length-set, append_assoc}
use Rattle.std.proofs.lemmas.Bool.{true≢false}
use Rattle.rules.specs.Plan.{latest, times, Plan, buffer, number}
use Rattle.rules.specs.Ledger.{empty}
use Rattle.rules.proofs.Lawful.{Lawful}
use Rattle.rules.proofs.Bytes.{slice_more, slice_same}
use Rattle.rules.proofs.Encoding.{stored}
use Rattle.rules.proofs.Agrees.{times_head, times_tail, head_not_in_tail, store_keeps_others}
use Rattle.rules.proofs.KeepFrame.{stored_same}

pub latest_among : (d : ℕ) (ds : List ℕ) (e : ℕ) → 0 < times (latest (d ∷ ds) e) (d ∷ ds)
latest_among d [] e = times_head d []
latest_among d (x ∷ xs) e = times_tail (latest (x ∷ xs) d) d (x ∷ xs) (latest_among x xs d)

module _ (s : Plan) (L : Lawful s) where
  -- a byte at the next place of the latest buffer
  pub stored_further : (m : List ℕ) (ds : List ℕ) (filled v : ℕ) → length m ≡ s.shape.size → empty ds ≡ false →
      ((x : ℕ) → 0 < times x ds → x < number s) → ((x : ℕ) → times x ds ≤ 1) → filled < (buffer s (latest ds 0)).length →
      stored s (set m ((buffer s (latest ds 0)).start.0 + filled) v) ds (filled + 1) ≡ stored s m ds filled ++ (v ∷ [])
  stored_further m [] filled v sz o n once f = absurd (true≢false o)
  stored_further m (d ∷ []) filled v sz o n once f =
      let i = L.inside d (n d (times_head d [])) in
      append-nil (take (filled + 1) (drop (buffer s d).start.0 (set m ((buffer s d).start.0 + filled) v)))
      ∙ slice_more m (buffer s d).start.0 filled v (omega arith)
      ∙ ap (λ z. z ++ (v ∷ [])) (sym (append-nil (take filled (drop (buffer s d).start.0 m))))
  stored_further m (d ∷ e ∷ es) filled v sz o n once f =
      let x = latest (e ∷ es) 0 in
      let m' = set m ((buffer s x).start.0 + filled) v in
      let there = latest_among e es 0 in
      let gap = head_not_in_tail d (e ∷ es) once in
      let xn = n x (times_tail x d (e ∷ es) there) in
      let dn = n d (times_head d (e ∷ es)) in
      let ne : d ≡ x → ⊥ = λ q. let z : 0 < times d (e ∷ es) = subst (λ y. 0 < times y (e ∷ es)) (sym q) there in omega arith in
      let p = slice_same m m' (buffer s d).start.0 (buffer s d).length (length-set m ((buffer s x).start.0 + filled) v)
      (λ i h. (store_keeps_others s L m x filled v d xn dn f ne).bytes i h) in
      let ih = stored_further m (e ∷ es) filled v sz refl (λ y t. n y (times_tail y d (e ∷ es) t)) (λ y. let z = once y in omega arith) f in
      let P : List ℕ → List ℕ = λ z. z ++ stored s m' (e ∷ es) (filled + 1) in
      let Q : List ℕ → List ℕ = λ z. take (buffer s d).length (drop (buffer s d).start.0 m) ++ z in
      ap P p ∙ ap Q ih ∙ sym (append_assoc (take (buffer s d).length (drop (buffer s d).start.0 m)) (stored s m (e ∷ es) filled) (v ∷ []))

  stored_push : (m : List ℕ) (ds : List ℕ) (d filled k : ℕ) → (empty ds ≡ false → filled ≡ (buffer s (latest ds 0)).length) →
      stored s m (ds ++ (d ∷ [])) k ≡ stored s m ds filled ++ take k (drop (buffer s d).start.0 m)
  stored_push m [] d filled k f = append-nil (take k (drop (buffer s d).start.0 m))
  stored_push m (x ∷ []) d filled k f =
      let A = take (buffer s x).length (drop (buffer s x).start.0 m) in
      let B = take k (drop (buffer s d).start.0 m) in
      ap (λ z. A ++ z) (append-nil B) ∙ ap (λ z. z ++ B) (sym (append-nil A)) ∙ ap (λ q. (take q (drop (buffer s x).start.0 m) ++ []) ++ B) (sym (f refl))
  stored_push m (x ∷ y ∷ ys) d filled k f =
      let A = take (buffer s x).length (drop (buffer s x).start.0 m) in
      let B = take k (drop (buffer s d).start.0 m) in
      let ih = stored_push m (y ∷ ys) d filled k f in
      ap (λ z. A ++ z) ih ∙ sym (append_assoc A (stored s m (y ∷ ys) filled) B)

  -- a byte in one more buffer
  pub stored_entering : (m : List ℕ) (ds : List ℕ) (d filled v : ℕ) → length m ≡ s.shape.size → d < number s → times d ds ≡ 0 →
      ((x : ℕ) → 0 < times x ds → x < number s) → filled ≤ (buffer s (latest ds 0)).length → (empty ds ≡ false → filled ≡ (buffer s (latest ds 0)).length) →
      stored s (set m ((buffer s d).start.0 + 0) v) (ds ++ (d ∷ [])) 1 ≡ stored s m ds filled ++ (v ∷ [])
  stored_entering m ds d filled v sz dn t n f full =
      let m' = set m ((buffer s d).start.0 + 0) v in
      let b = L.byte d dn in
      let i = L.inside d dn in
      let one : take 1 (drop (buffer s d).start.0 m') ≡ v ∷ [] = slice_more m (buffer s d).start.0 0 v (omega arith) in
      stored_push m' ds d filled 1 full
      ∙ ap (λ z. z ++ take 1 (drop (buffer s d).start.0 m')) (stored_same s m m' ds filled (length-set m ((buffer s d).start.0 + 0) v)
      (λ x h. (store_keeps_others s L m d 0 v x dn (n x h) b (λ q. let z : 0 < times d ds = subst (λ y. 0 < times y ds) q h in omega arith)).bytes) f)
      ∙ ap (λ z. stored s m ds filled ++ z) one
