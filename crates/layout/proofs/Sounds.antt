-- One more buffer, in a list that is sound.
use Rattle.std.proofs.Common.{◌≡◌, ℕ, ◌-◌, ◌*◌, ◌<◌, true, false, List, [], ◌∷◌, ◌++◌, length, Ok, refl, append_assoc, append-nil, arith}
use Rattle.std.proofs.lemmas.Bool.{and_from, and_parts, not_from_false}
use Rattle.std.proofs.lemmas.Bool.Decides.{nat_tests}
use Rattle.memory.specs.declared.address.Page.{Page}
use Rattle.layout.specs.declared.buffer.Buffer.{Buffer}
use Rattle.layout.specs.Buffers.{shares, sound, fits}
use Rattle.layout.specs.Layouts.{Shape, add_answer}

sound_push : (size : ℕ) (f p : Page) (before bs : List Buffer) (x : Buffer) → sound size f p before bs ≡ true → fits size f p x ≡ true → shares (before ++ bs) x ≡ false → sound size f p before (bs ++ x ∷ []) ≡ true
sound_push size f p before [] x s a b =
    let c : shares before x ≡ false = rw append-nil at b in
    and_from _ _ (and_from _ _ a (not_from_false _ c)) refl
sound_push size f p before (y ∷ bs) x s a b =
    let h = and_parts _ _ s in
    let c : shares ((before ++ y ∷ []) ++ bs) x ≡ false = rw append_assoc b in
    and_from _ _ h.0 (sound_push size f p (before ++ y ∷ []) bs x h.1 a c)

pub added_sound : (l : Shape) (x : Buffer) → add_answer l x ≡ Ok tt → sound l.size l.rbegin l.rend [] l.buffers ≡ true →
    (length l.buffers < 32 * (l.rend.0 - l.rbegin.0)) × (sound l.size l.rbegin l.rend [] (l.buffers ++ x ∷ []) ≡ true)
added_sound l x e s =
    let a : fits l.size l.rbegin l.rend x ≡ true = grind (arith, nat_tests) in
    let b : shares l.buffers x ≡ false = grind (arith, nat_tests) in
    (grind (arith, nat_tests), sound_push l.size l.rbegin l.rend [] l.buffers x s a b)
