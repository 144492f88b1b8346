-- Bytes of a memory after a write to a descriptor, and what of a memory stays the same.
use Rattle.std.proofs.Common.{◌≡◌, ℕ, zero, suc, ◌+◌, ◌*◌, ◌/◌, ◌%◌, ◌<◌, ◌≤◌, ◌⊎◌, List, [], ◌∷◌, ◌++◌, length, get_or, take, drop, set, sym, refl, ap, ◌∙◌, arith}
use Rattle.std.proofs.lemmas.List.{get_or-set_other, get_or-set_same, length-set, ext_get_or, length-take, length-drop, get_or-take, get_or-drop, length-take-le, drop-set-add, take_more_set, drop_more}
use Rattle.rules.specs.Table.{write_at, descriptor_at, span}

pub set_elsewhere : (m : List ℕ) (p v a : ℕ) → (a ≡ p → ⊥) → get_or (set m p v) a 0 ≡ get_or m a 0
set_elsewhere m p v a h = get_or-set_other m p a v 0 h

pub set_here : (m : List ℕ) (p v : ℕ) → p < length m → get_or (set m p v) p 0 ≡ v
set_here m p v h = get_or-set_same m p v 0 h

pub write_elsewhere : (m : List ℕ) (p flags status fill a : ℕ) → (a < p) ⊎ (p + 8 ≤ a) → get_or (write_at m p flags status fill) a 0 ≡ get_or m a 0
unfolding write_at
write_elsewhere m p flags status fill a h =
    set_elsewhere (set (set (set m p flags) (p + 1) status) (p + 6) (fill % 256)) (p + 7) (fill / 256) a (omega arith)
    ∙ set_elsewhere (set (set m p flags) (p + 1) status) (p + 6) (fill % 256) a (omega arith)
    ∙ set_elsewhere (set m p flags) (p + 1) status a (omega arith)
    ∙ set_elsewhere m p flags a (omega arith)

pub length_write : (m : List ℕ) (p flags status fill : ℕ) → length (write_at m p flags status fill) ≡ length m
unfolding write_at
length_write m p flags status fill = simp length-set

pub descriptor_written : (m : List ℕ) (p flags status fill : ℕ) → p + 8 ≤ length m →
    descriptor_at (write_at m p flags status fill) p
    ≡ record { flags = flags; status = status; start = (descriptor_at m p).start; length = (descriptor_at m p).length; fill = fill }
unfolding write_at descriptor_at
descriptor_written m p flags status fill h =
    let m1 = set m p flags in
    let m2 = set m1 (p + 1) status in
    let m3 = set m2 (p + 6) (fill % 256) in
    let m4 = set m3 (p + 7) (fill / 256) in
    let l1 : length m1 ≡ length m = length-set m p flags in
    let l2 : length m2 ≡ length m = length-set m1 (p + 1) status ∙ l1 in
    let l3 : length m3 ≡ length m = length-set m2 (p + 6) (fill % 256) ∙ l2 in
    let e0 : get_or m4 p 0 ≡ flags =
    set_elsewhere m3 (p + 7) (fill / 256) p (omega arith) ∙ set_elsewhere m2 (p + 6) (fill % 256) p (omega arith)
    ∙ set_elsewhere m1 (p + 1) status p (omega arith) ∙ set_here m p flags (omega arith) in
    let e1 : get_or m4 (p + 1) 0 ≡ status =
    set_elsewhere m3 (p + 7) (fill / 256) (p + 1) (omega arith) ∙ set_elsewhere m2 (p + 6) (fill % 256) (p + 1) (omega arith)
    ∙ set_here m1 (p + 1) status (omega arith) in
    let kept : (i : ℕ) → 1 < i → i < 6 → get_or m4 (p + i) 0 ≡ get_or m (p + i) 0 =
    λ i x y. set_elsewhere m3 (p + 7) (fill / 256) (p + i) (omega arith) ∙ set_elsewhere m2 (p + 6) (fill % 256) (p + i) (omega arith)
    ∙ set_elsewhere m1 (p + 1) status (p + i) (omega arith) ∙ set_elsewhere m p flags (p + i) (omega arith) in
    let e6 : get_or m4 (p + 6) 0 ≡ fill % 256 =
    set_elsewhere m3 (p + 7) (fill / 256) (p + 6) (omega arith) ∙ set_here m2 (p + 6) (fill % 256) (omega arith) in
    let e7 : get_or m4 (p + 7) 0 ≡ fill / 256 = set_here m3 (p + 7) (fill / 256) (omega arith) in
    let e2 = kept 2 (omega arith) (omega arith) in
    let e3 = kept 3 (omega arith) (omega arith) in
    let e4 = kept 4 (omega arith) (omega arith) in
    let e5 = kept 5 (omega arith) (omega arith) in
    let w : fill % 256 + 256 * (fill / 256) ≡ fill = omega arith in
    cc

pub descriptor_flagged : (m : List ℕ) (p v : ℕ) → p + 8 ≤ length m →
    descriptor_at (set m p v) p
    ≡ record { flags = v; status = (descriptor_at m p).status; start = (descriptor_at m p).start; length = (descriptor_at m p).length; fill = (descriptor_at m p).fill }
unfolding descriptor_at
descriptor_flagged m p v h =
    let e0 = set_here m p v (omega arith) in
    let kept : (i : ℕ) → 0 < i → get_or (set m p v) (p + i) 0 ≡ get_or m (p + i) 0 = λ i x. set_elsewhere m p v (p + i) (omega arith) in
    let e1 = kept 1 (omega arith) in
    let e2 = kept 2 (omega arith) in
    let e3 = kept 3 (omega arith) in
    let e4 = kept 4 (omega arith) in
    let e5 = kept 5 (omega arith) in
    let e6 = kept 6 (omega arith) in
    let e7 = kept 7 (omega arith) in
    cc

pub descriptor_same : (m m' : List ℕ) (p : ℕ) → ((a : ℕ) → p ≤ a → a < p + 8 → get_or m' a 0 ≡ get_or m a 0) → descriptor_at m' p ≡ descriptor_at m p
unfolding descriptor_at
descriptor_same m m' p h =
    let e0 = h p (omega arith) (omega arith) in
    let e1 = h (p + 1) (omega arith) (omega arith) in
    let e2 = h (p + 2) (omega arith) (omega arith) in
    let e3 = h (p + 3) (omega arith) (omega arith) in
    let e4 = h (p + 4) (omega arith) (omega arith) in
    let e5 = h (p + 5) (omega arith) (omega arith) in
    let e6 = h (p + 6) (omega arith) (omega arith) in
    let e7 = h (p + 7) (omega arith) (omega arith) in
    cc

pub descriptor_flags : (m : List ℕ) (p : ℕ) → (descriptor_at m p).flags ≡ get_or m p 0
unfolding descriptor_at
descriptor_flags m p = refl

pub slice_same : (m m' : List ℕ) (a k : ℕ) → length m' ≡ length m → ((i : ℕ) → i < k → get_or m' (a + i) 0 ≡ get_or m (a + i) 0) →
    take k (drop a m') ≡ take k (drop a m)
slice_same m m' a k l h =
    ext_get_or 0 (take k (drop a m')) (take k (drop a m))
    (simp (length-take, length-drop, l))
    (λ i b. let b' : i < k = omega (arith, simp (length-take, length-drop) at b) in
    get_or-take k (drop a m') i 0 b' ∙ get_or-drop a m' i 0 ∙ h i b' ∙ sym (get_or-drop a m i 0) ∙ sym (get_or-take k (drop a m) i 0 b'))

pub slice_length : (m : List ℕ) (a k : ℕ) → a + k ≤ length m → length (take k (drop a m)) ≡ k
slice_length m a k h = length-take-le k (drop a m) (simp length-drop (omega arith))

-- one more byte at the end of a slice
pub slice_more : (m : List ℕ) (a k v : ℕ) → a + k < length m → take (k + 1) (drop a (set m (a + k) v)) ≡ take k (drop a m) ++ (v ∷ [])
slice_more m a k v h = ap (take (k + 1)) (drop-set-add a m k v) ∙ take_more_set (drop a m) k v (simp length-drop (omega arith))

pub span_is : (m : List ℕ) (a k : ℕ) → a + k ≤ length m → span m a k ≡ take k (drop a m)
unfolding span
span_is m a zero h = refl
span_is m a (suc k) h =
    ap (λ z. get_or m a 0 ∷ z) (span_is m (a + 1) k (omega arith)) ∙ sym (ap (take (suc k)) (drop_more m a 0 (omega arith)))
