-- Memories that agree on a descriptor and its buffer, and what frames keep by that.
use Rattle.std.proofs.Common.{◌≡◌, ℕ, ◌+◌, ◌*◌, ◌<◌, ◌≤◌, Bool, true, false, cond, eqb, ◌⊎◌, List, [], ◌∷◌, ◌++◌, get_or, set, sym, refl, ap, ◌∙◌, subst, inl, inr, ⊎_elim, arith}
use Rattle.std.specs.List.{AllByRecursion as All}
use Rattle.std.proofs.lemmas.Bool.{eq-eqb, cases_Bool, eqb-true}
use Rattle.rules.specs.Table.{write, descriptor, place}
use Rattle.rules.specs.Plan.{times, Plan, buffer, number, summary, next}
use Rattle.rules.proofs.Frames.{KeptFrame, held_waiting, first_of, Gone, held_gone}
use Rattle.rules.proofs.Lawful.{Lawful}
use Rattle.rules.proofs.Bytes.{write_elsewhere, descriptor_same, set_elsewhere}
use Rattle.rules.proofs.Encoding.{Agree, Row, Encoded, InTable, GoneInTable}
use Rattle.rules.proofs.Runs.{next_below}

pub times_head : (d : ℕ) (ds : List ℕ) → 0 < times d (d ∷ ds)
times_head d ds = let e = eq-eqb d d refl in rw e (omega arith)

pub times_tail : (x d : ℕ) (ds : List ℕ) → 0 < times x ds → 0 < times x (d ∷ ds)
times_tail x d ds h = omega arith

pub head_or_tail : (x d : ℕ) (ds : List ℕ) → 0 < times x (d ∷ ds) → (x ≡ d) ⊎ (0 < times x ds)
head_or_tail x d ds h = go (cases_Bool (eqb x d))
  where
    go : (eqb x d ≡ true) ⊎ (eqb x d ≡ false) → (x ≡ d) ⊎ (0 < times x ds)
    go (inl e) = inl (eqb-true x d e)
    go (inr e) = let h' : 0 < cond false 1 0 + times x ds = rw e at h in inr (omega arith)

pub times_append : (x : ℕ) (ds es : List ℕ) → times x (ds ++ es) ≡ times x ds + times x es
times_append x [] es = omega arith
times_append x (d ∷ ds) es = let ih = times_append x ds es in omega arith

pub differs_from_head : (e d : ℕ) (ds : List ℕ) → times e (d ∷ ds) ≡ 0 → e ≡ d → ⊥
differs_from_head e d ds t q = let z : 0 < times e (d ∷ ds) = subst (λ x. 0 < times x (d ∷ ds)) (sym q) (times_head d ds) in omega arith

pub head_not_in_tail : (d : ℕ) (ds : List ℕ) → ((x : ℕ) → times x (d ∷ ds) ≤ 1) → times d ds ≡ 0
head_not_in_tail d ds o =
    let z = o d in
    let z' : times d (d ∷ ds) ≡ 1 + times d ds = ap (λ c. cond c 1 0 + times d ds) (eq-eqb d d refl) in
    omega arith

pub agree_itself : (s : Plan) (m : List ℕ) (d : ℕ) → Agree s m m d
agree_itself s m d = record { entry = refl; bytes = λ i h. refl }

pub agree_join : (s : Plan) (m m' m'' : List ℕ) (d : ℕ) → Agree s m m' d → Agree s m' m'' d → Agree s m m'' d
agree_join s m m' m'' d a b = record { entry = b.entry ∙ a.entry; bytes = λ i h. b.bytes i h ∙ a.bytes i h }

-- a write to a descriptor changes no buffer, and no other descriptor
pub write_keeps_buffers : (s : Plan) (L : Lawful s) (m : List ℕ) (d flags st fill e : ℕ) → d < number s → e < number s → (i : ℕ) → i < (buffer s e).length →
    get_or (write (summary s) m d flags st fill) ((buffer s e).start.0 + i) 0 ≡ get_or m ((buffer s e).start.0 + i) 0
write_keeps_buffers s L m d flags st fill e dn en i h =
    write_elsewhere m (place (summary s) d) flags st fill ((buffer s e).start.0 + i) (outside (L.clear e en))
  where
    outside : ((buffer s e).start.0 + (buffer s e).length ≤ s.shape.rbegin.0 * 256) ⊎ (s.shape.rend.0 * 256 ≤ (buffer s e).start.0) →
        ((buffer s e).start.0 + i < place (summary s) d) ⊎ (place (summary s) d + 8 ≤ (buffer s e).start.0 + i)
    outside (inl c) = inl (omega arith)
    outside (inr c) = let r = L.room in inr (omega arith)

pub write_keeps_others : (s : Plan) (L : Lawful s) (m : List ℕ) (d flags st fill e : ℕ) → d < number s → e < number s → (e ≡ d → ⊥) →
    Agree s m (write (summary s) m d flags st fill) e
write_keeps_others s L m d flags st fill e dn en ne = record {
  entry = descriptor_same m (write (summary s) m d flags st fill) (place (summary s) e) (λ a x y. write_elsewhere m (place (summary s) d) flags st fill a (outside a x y));
  bytes = write_keeps_buffers s L m d flags st fill e dn en;
}
  where
    side : (e < d) ⊎ (d < e) → (a : ℕ) → place (summary s) e ≤ a → a < place (summary s) e + 8 → (a < place (summary s) d) ⊎ (place (summary s) d + 8 ≤ a)
    side (inl c) a x y = inl (omega arith)
    side (inr c) a x y = inr (omega arith)

    outside : (a : ℕ) → place (summary s) e ≤ a → a < place (summary s) e + 8 → (a < place (summary s) d) ⊎ (place (summary s) d + 8 ≤ a)
    outside a x y = side (grind arith) a x y

-- a byte stored in the buffer of d changes no descriptor, and no other buffer
pub store_keeps_table : (s : Plan) (L : Lawful s) (m : List ℕ) (d k v e : ℕ) → d < number s → e < number s → k < (buffer s d).length →
    descriptor (summary s) (set m ((buffer s d).start.0 + k) v) e ≡ descriptor (summary s) m e
store_keeps_table s L m d k v e dn en kl =
    descriptor_same m (set m ((buffer s d).start.0 + k) v) (place (summary s) e)
    (λ a x y. set_elsewhere m ((buffer s d).start.0 + k) v a (differs (L.clear d dn) a x y))
  where
    differs : ((buffer s d).start.0 + (buffer s d).length ≤ s.shape.rbegin.0 * 256) ⊎ (s.shape.rend.0 * 256 ≤ (buffer s d).start.0) →
        (a : ℕ) → place (summary s) e ≤ a → a < place (summary s) e + 8 → a ≡ (buffer s d).start.0 + k → ⊥
    differs (inl c) a x y q = omega arith
    differs (inr c) a x y q = let r = L.room in omega arith

pub store_keeps_others : (s : Plan) (L : Lawful s) (m : List ℕ) (d k v e : ℕ) → d < number s → e < number s → k < (buffer s d).length → (e ≡ d → ⊥) →
    Agree s m (set m ((buffer s d).start.0 + k) v) e
store_keeps_others s L m d k v e dn en kl ne = record {
  entry = store_keeps_table s L m d k v e dn en kl;
  bytes = λ i il. set_elsewhere m ((buffer s d).start.0 + k) v ((buffer s e).start.0 + i) (differs (L.apart e d en dn ne) i il);
}
  where
    differs : ((buffer s e).start.0 + (buffer s e).length ≤ (buffer s d).start.0) ⊎ ((buffer s d).start.0 + (buffer s d).length ≤ (buffer s e).start.0) →
        (i : ℕ) → i < (buffer s e).length → (buffer s e).start.0 + i ≡ (buffer s d).start.0 + k → ⊥
    differs (inl c) i il q = omega arith
    differs (inr c) i il q = omega arith

pub row_below : (s : Plan) (L : Lawful s) (d : ℕ) (ds : List ℕ) → d < number s → Row s d ds → (x : ℕ) → 0 < times x ds → x < number s
row_below s L d [] h r x t = absurd (omega arith)
row_below s L d (e ∷ es) h r x t =
    ⊎_elim (λ q. let p = r.0 in omega arith) (λ t'. row_below s L (next s d) es (next_below s L d h) r.1 x t') (head_or_tail x e es t)

-- frames whose descriptors agree
pub encoded_agree : (s : Plan) (m m' : List ℕ) (tk first : Bool) (ds : List ℕ) (filled st : ℕ) → ((d : ℕ) → 0 < times d ds → Agree s m m' d) →
    Encoded s m tk first ds filled st → Encoded s m' tk first ds filled st
encoded_agree s m m' tk first [] filled st a e = tt
encoded_agree s m m' tk first (d ∷ ds) filled st a e =
    ((a d (times_head d ds)).entry ∙ e.0, encoded_agree s m m' tk false ds filled st (λ x t. a x (times_tail x d ds t)) e.1)

in_table_agree : (s : Plan) (m m' : List ℕ) (tk : Bool) (f : KeptFrame) → ((d : ℕ) → 0 < times d f.buffers → Agree s m m' d) → InTable s m tk f → InTable s m' tk f
in_table_agree s m m' tk f a l = record {
  encoded = encoded_agree s m m' tk true f.buffers f.filled f.status a l.encoded;
  untouched = λ d t i h. (a d t).bytes i h ∙ l.untouched d t i h;
  row = l.row;
  some = l.some;
  below = l.below;
  fits = l.fits;
  bytes = l.bytes;
  size = l.size;
}

pub waiting_agree : (s : Plan) (m m' : List ℕ) (fs : List KeptFrame) → ((d : ℕ) → d < number s → 0 < held_waiting fs d → Agree s m m' d) → Lawful s →
    All (InTable s m false) fs → All (InTable s m' false) fs
waiting_agree s m m' [] a L l = tt
waiting_agree s m m' (f ∷ fs) a L l =
    let lf = l.0 in (
      in_table_agree s m m' false f (λ d t. a d (row_below s L (first_of f.buffers) f.buffers lf.below lf.row d t) (omega arith)) lf,
      waiting_agree s m m' fs (λ d n t. a d n (omega arith)) L l.1,
    )

pub gone_agree : (s : Plan) (m m' : List ℕ) (gs : List Gone) → ((d : ℕ) → d < number s → 0 < held_gone gs d → Agree s m m' d) → Lawful s →
    All (GoneInTable s m) gs → All (GoneInTable s m') gs
gone_agree s m m' [] a L l = tt
gone_agree s m m' (g ∷ gs) a L l = (
  λ e. let lf = l.0 e in in_table_agree s m m' true g.frame
      (λ d t. a d (row_below s L (first_of g.frame.buffers) g.frame.buffers lf.below lf.row d t)
      (let q : 0 < cond g.released 0 (times d g.frame.buffers) = rw e t in omega arith)) lf,
  gone_agree s m m' gs (λ d n t. a d n (omega arith)) L l.1,
)
