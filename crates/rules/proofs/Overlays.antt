-- Parts of memory written over a list.
use Rattle.std.proofs.Common.{◌≡◌, ℕ, zero, suc, ◌+◌, ◌-◌, ◌<◌, ◌≤◌, List, [], ◌∷◌, ◌++◌, length, take, drop, set, sym, refl, ap, ◌∙◌, add-one, arith}
use lib.Seq.{sets, sets-eq}
use Rattle.std.proofs.lemmas.List.{append_assoc, length-append, length-set}
use Rattle.rules.specs.declared.state.Setup.{Setup}
use Rattle.rules.specs.declared.state.Descriptor.{Descriptor}
use Rattle.rules.specs.Table.{next, descriptor, span, frame_bytes}
use Rattle.rules.specs.Host.{overlay}

pub length_span : (m : List ℕ) (a k : ℕ) → length (span m a k) ≡ k
unfolding span
length_span m a zero = refl
length_span m a (suc k) = ap suc (length_span m (a + 1) k)

pub length_overlay : (out : List ℕ) (at : ℕ) (xs : List ℕ) → length (overlay out at xs) ≡ length out
unfolding overlay
length_overlay out at [] = refl
length_overlay out at (x ∷ xs) = length_overlay (set out at x) (at + 1) xs ∙ length-set out at x

pub overlay_none : (out : List ℕ) (at : ℕ) → overlay out at [] ≡ out
unfolding overlay
overlay_none out at = refl

pub overlay_append : (out : List ℕ) (at : ℕ) (xs ys : List ℕ) → overlay out at (xs ++ ys) ≡ overlay (overlay out at xs) (at + length xs) ys
unfolding overlay
overlay_append out at [] ys = let e : at ≡ at + 0 = omega arith in ap (λ (n : ℕ). overlay out n ys) e
overlay_append out at (x ∷ xs) ys =
    let e : (at + 1) + length xs ≡ at + suc (length xs) = omega arith in
    overlay_append (set out at x) (at + 1) xs ys ∙ ap (λ (n : ℕ). overlay (overlay (set out at x) (at + 1) xs) n ys) e

overlay_is_sets : (out : List ℕ) (at : ℕ) (xs : List ℕ) → overlay out at xs ≡ sets out at xs
unfolding overlay
overlay_is_sets out at [] = refl
overlay_is_sets out at (x ∷ xs) = overlay_is_sets (set out at x) (at + 1) xs ∙ ap (λ (n : ℕ). sets (set out at x) n xs) (add-one at)

-- where the list has room for what is written over it
pub overlay_parts : (out : List ℕ) (at : ℕ) (xs : List ℕ) → at + length xs ≤ length out →
    overlay out at xs ≡ take at out ++ (xs ++ drop (at + length xs) out)
overlay_parts out at xs h = overlay_is_sets out at xs ∙ sets-eq xs out at h ∙ append_assoc (take at out) xs (drop (at + length xs) out)

-- the bytes of a frame, i of its n buffers being past
pub frame_bytes_more : (g : Setup) (m : List ℕ) (d n i : ℕ) (e : Descriptor) → i < n → e ≡ descriptor g m d →
    frame_bytes g m d (n - i) ≡ span m e.start e.fill ++ frame_bytes g m (next g d) (n - (i + 1))
unfolding frame_bytes
frame_bytes_more g m d n i e h q =
    let z : n - i ≡ suc (n - (i + 1)) = omega arith in
    ap (frame_bytes g m d) z ∙ ap (λ (x : Descriptor). span m x.start x.fill ++ frame_bytes g m (next g d) (n - (i + 1))) (sym q)

pub frame_bytes_none : (g : Setup) (m : List ℕ) (d n i : ℕ) → n ≤ i → frame_bytes g m d (n - i) ≡ []
unfolding frame_bytes
frame_bytes_none g m d n i h = let z : n - i ≡ 0 = omega arith in ap (frame_bytes g m d) z

module _ (g : Setup) (m : List ℕ) (d n i : ℕ) (e : Descriptor) (h : i < n) (q : e ≡ descriptor g m d) where
  pub length_frame_bytes_more : length (frame_bytes g m d (n - i)) ≡ e.fill + length (frame_bytes g m (next g d) (n - (i + 1)))
  length_frame_bytes_more =
      ap length (frame_bytes_more g m d n i e h q) ∙ length-append (span m e.start e.fill) (frame_bytes g m (next g d) (n - (i + 1)))
      ∙ ap (λ (x : ℕ). x + length (frame_bytes g m (next g d) (n - (i + 1)))) (length_span m e.start e.fill)
