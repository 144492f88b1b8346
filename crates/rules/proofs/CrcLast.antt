-- Nothing that a byte does to the arrival goes by the CRC register, so the register may run over the byte last.
--   set_crc    a view with another value in the CRC register
use Rattle.std.proofs.Common.{◌≡◌, ℕ, ◌+◌, Bool, true, false, cond, ltb, List, [], ◌∷◌, set, sym, refl, ap, ◌∙◌}
use Rattle.crc.specs.Crc.{crc_byte}
use Rattle.rules.specs.declared.state.Event.TheVariants.{Byte}
use Rattle.rules.specs.declared.state.Phase.{Phase}
use Rattle.rules.specs.declared.state.Phase.TheVariants.{Idle, Address, Storing, Ignored, Missed}
use Rattle.rules.specs.declared.state.Setup.{Setup}
use Rattle.rules.specs.declared.state.Stored.{Stored}
use Rattle.rules.specs.Table.{descriptor}
use Rattle.rules.specs.Views.{View, view, with_phase, with_crc}
use Rattle.rules.specs.Arrivals.{missed, wanted, free_for, further, entering, store_fresh, store, store_in, store_all, recognised_state, recognised, sixth, handled, arrives}

abbrev pub set_crc : View → ℕ → View
set_crc x c = view x.memory (with_crc x.state c)

cond_crc : (b : Bool) (y z : View) (c : ℕ) → cond b (set_crc y c) (set_crc z c) ≡ set_crc (cond b y z) c
cond_crc true y z c = refl
cond_crc false y z c = refl

store_fresh_crc : (g : Setup) (x : View) (t : Stored) (v c : ℕ) → store_fresh g (set_crc x c) t v ≡ set_crc (store_fresh g x t v) c
store_fresh_crc g x t v c =
    let d = wanted g x.state t in
    let e = descriptor g x.memory d in
    cond_crc (free_for g t e) (view (set x.memory e.start v) (with_phase x.state (Storing (entering t d e)))) (view x.memory (missed x.state)) c

store_crc : (g : Setup) (x : View) (t : Stored) (v c : ℕ) → store g (set_crc x c) t v ≡ set_crc (store g x t v) c
store_crc g x t v c =
    let room = ltb t.filled t.length in
    let further_on = view (set x.memory (t.start + t.filled) v) (with_phase x.state (Storing (further t))) in
    ap (cond room (set_crc further_on c)) (store_fresh_crc g x t v c) ∙ cond_crc room further_on (store_fresh g x t v) c

store_in_crc : (g : Setup) (x : View) (p : Phase) (v c : ℕ) → store_in g (set_crc x c) p v ≡ set_crc (store_in g x p v) c
store_in_crc g x Idle v c = refl
store_in_crc g x (Address a n) v c = refl
store_in_crc g x (Storing t) v c = store_crc g x t v c
store_in_crc g x Ignored v c = refl
store_in_crc g x Missed v c = refl

store_all_crc : (g : Setup) (x : View) (vs : List ℕ) (c : ℕ) → store_all g (set_crc x c) vs ≡ set_crc (store_all g x vs) c
unfolding store_all
store_all_crc g x [] c = refl
store_all_crc g x (v ∷ vs) c =
    ap (λ y. store_all g y vs) (store_in_crc g x x.state.phase v c) ∙ store_all_crc g (store_in g x x.state.phase v) vs c

sixth_crc : (g : Setup) (among : List ℕ → Bool) (x : View) (a : List ℕ) (c : ℕ) → sixth g among (set_crc x c) a ≡ set_crc (sixth g among x a) c
sixth_crc g among x a c =
    let ignored = view x.memory (with_phase x.state Ignored) in
    ap (λ y. cond (among a) y (set_crc ignored c)) (store_all_crc g (view x.memory (recognised_state x.state a)) a c)
    ∙ cond_crc (among a) (recognised g x a) ignored c

handled_crc : (g : Setup) (among : List ℕ → Bool) (x : View) (p : Phase) (v c : ℕ) →
    handled g among (set_crc x c) p (Byte v) ≡ set_crc (handled g among x p (Byte v)) c
handled_crc g among x Idle v c = refl
handled_crc g among x (Address a n) v c =
    let waiting = view x.memory (with_phase x.state (Address (set a n v) (n + 1))) in
    ap (cond (ltb n 5) (set_crc waiting c)) (sixth_crc g among x (set a 5 v) c) ∙ cond_crc (ltb n 5) waiting (sixth g among x (set a 5 v)) c
handled_crc g among x (Storing t) v c = store_crc g x t v c
handled_crc g among x Ignored v c = refl
handled_crc g among x Missed v c = refl

handled_keeps_crc : (g : Setup) (among : List ℕ → Bool) (x : View) (p : Phase) (v : ℕ) → (handled g among x p (Byte v)).state.crc ≡ x.state.crc
handled_keeps_crc g among x p v = ap (λ y. y.state.crc) (handled_crc g among x p v x.state.crc)

pub crc_runs_last : (g : Setup) (among : List ℕ → Bool) (x : View) (v : ℕ) →
    arrives g among x (Byte v)
    ≡ set_crc (handled g among x x.state.phase (Byte v)) (crc_byte (handled g among x x.state.phase (Byte v)).state.crc v)
crc_runs_last g among x v =
    handled_crc g among x x.state.phase v (crc_byte x.state.crc v)
    ∙ ap (λ c. set_crc (handled g among x x.state.phase (Byte v)) (crc_byte c v)) (sym (handled_keeps_crc g among x x.state.phase v))
