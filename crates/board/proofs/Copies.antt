-- The copy of a part of memory to a part of the caller's buffer, as a whole and byte by byte.
--   part    the part of the buffer, as it was
use Rattle.std.proofs.Common.{◌≡◌, ℕ, suc, ◌+◌, ◌-◌, ◌≤◌, get_or, set, Bool, true, false, cond, ◌&&◌, leb, List, ◌++◌, length, take, drop, Ok, Err, Result, sym, refl, ap, ◌∙◌, arith}
use borrow.Rule.Slice.PartMut.{put_mid, put_same}
use Rattle.std.proofs.lemmas.List.Edits.{paste_all}
use Rattle.std.proofs.lemmas.Slice.{put_mid-paste}
use Rattle.std.proofs.lemmas.Bool.{leb-true, le-leb}
use Rattle.std.specs.Prelude.{if◌then◌else◌, is_ok}
use Rattle.refusal.specs.declared.Refusal.{Refusal}
use Rattle.refusal.specs.declared.Refusal.TheVariants.{Outside}
use Rattle.memory.specs.declared.address.Address.{Address}
use Rattle.memory.specs.Memory.{spans, slice_answer, slice_copied}
use Rattle.rules.specs.Table.{span}
use Rattle.rules.specs.Host.{overlay}
use Rattle.rules.proofs.Bytes.{slice_length, span_is}
use Rattle.rules.proofs.Overlays.{length_span, overlay_parts}

ok_is : (b : Bool) (e : Refusal) → is_ok (cond {A = Result (Unit {0}) Refusal} b (Ok tt) (Err e)) ≡ b
ok_is true e = refl
ok_is false e = refl

module _ (m out : List ℕ) (a : Address) (fill at : ℕ) (room : at + fill ≤ length out) where
  abbrev part : List ℕ
  part = take (at + fill - at) (drop at out)

  part_length : length part ≡ fill
  part_length = let k : at + fill - at ≡ fill = omega arith in ap (λ (n : ℕ). length (take n (drop at out))) k ∙ slice_length out at fill room

  -- whether buffer and memory have all the places
  has_places : (b : Bool) → spans m a (length part) ≡ b → b ≡ (leb (at + fill) (length out) && leb (a.0 + fill) (length m))
  has_places b e =
      sym (ap (λ (c : Bool). c && leb (a.0 + fill) (length m)) (le-leb (at + fill) (length out) room)
      ∙ ap (λ (n : ℕ). leb (a.0 + n) (length m)) (sym part_length) ∙ e)

  -- the read passes where they have
  passes : (q : Bool) (r : Result (Unit {0}) Refusal) → q ≡ is_ok r → r ≡ slice_answer m a (length part) → q ≡ spans m a (length part)
  passes q r is answer = is ∙ ap is_ok answer ∙ ok_is (spans m a (length part)) (Outside a.0)

  pub whole_places : (q : Bool) (r : Result (Unit {0}) Refusal) → q ≡ is_ok r → r ≡ slice_answer m a (length part) →
      q ≡ (leb (at + fill) (length out) && leb (a.0 + fill) (length m))
  whole_places q r is answer = has_places q (sym (passes q r is answer))

  copied_part : (q : Bool) (ys : List ℕ) → q ≡ spans m a (length part) → ys ≡ slice_copied m a part →
      put_mid at (at + fill - at) out ys ≡ (if q then overlay out at (span m a.0 fill) else out)
  copied_part true ys e copied =
      let below = leb-true (a.0 + length part) (length m) (sym e) in
      let fits : a.0 + fill ≤ length m = let l = part_length in omega arith in
      let bytes : ys ≡ span m a.0 fill =
      copied ∙ ap (λ (b : Bool). cond b (take (length part) (drop a.0 m)) part) (sym e)
      ∙ ap (λ (n : ℕ). take n (drop a.0 m)) part_length ∙ sym (span_is m a.0 fill fits) in
      let n = length_span m a.0 fill in
      put_mid-paste at (at + fill - at) out ys (span m a.0 fill) fill bytes (omega arith) (sym n)
      ∙ paste_all out at (span m a.0 fill) fill (sym n)
      ∙ ap (λ (k : ℕ). take at out ++ (span m a.0 fill ++ drop (at + k) out)) (sym n)
      ∙ sym (overlay_parts out at (span m a.0 fill) (omega arith))
  copied_part false ys e copied =
      ap (put_mid at (at + fill - at) out) (copied ∙ ap (λ (b : Bool). cond b (take (length part) (drop a.0 m)) part) (sym e))
      ∙ put_same at (at + fill - at) out

  pub whole_copied : (q : Bool) (r : Result (Unit {0}) Refusal) (ys : List ℕ) → q ≡ is_ok r → r ≡ slice_answer m a (length part) → ys ≡ slice_copied m a part →
      put_mid at (at + fill - at) out ys ≡ (if q then overlay out at (span m a.0 fill) else out)
  whole_copied q r ys is answer copied = copied_part q ys (passes q r is answer) copied

-- one byte of a copy: from b to a, n bytes being left before it and n' after it
pub copy_turn : (m out out' r : List ℕ) (a b n a' b' n' to from v : ℕ) → overlay out a (span m b n) ≡ r →
    to ≡ a → a' ≡ to + 1 → from ≡ b → b' ≡ from + 1 → n' + 1 ≡ n → v ≡ get_or m from 0 → out' ≡ set out to v →
    overlay out' a' (span m b' n') ≡ r
unfolding span overlay
copy_turn m out out' r a b n a' b' n' to from v inv p s q t z w x =
    let k : n ≡ suc n' = omega arith in
    let byte : v ≡ get_or m b 0 = w ∙ ap (λ (i : ℕ). get_or m i 0) q in
    let turned : out' ≡ set out a (get_or m b 0) = x ∙ (λ j. set out (p j) (byte j)) in
    let up : a' ≡ a + 1 = s ∙ ap (λ (i : ℕ). i + 1) p in
    let on : b' ≡ b + 1 = t ∙ ap (λ (i : ℕ). i + 1) q in
    (λ j. overlay (turned j) (up j) (span m (on j) n')) ∙ sym (ap (λ (i : ℕ). overlay out a (span m b i)) k) ∙ inv
