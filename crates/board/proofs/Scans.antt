-- The bytes of an address, stored in turn.
use Rattle.std.proofs.Common.{◌≡◌, ℕ, ◌+◌, ◌<◌, List, [], ◌∷◌, ◌++◌, length, get_or, take, sym, refl, ap, ◌∙◌}
use Rattle.std.proofs.lemmas.List.{take_more}
use Rattle.rules.specs.declared.state.Setup.{Setup}
use Rattle.rules.specs.Views.{View}
use Rattle.rules.specs.Arrivals.{store_in, store_all}

pub store_all_push : (g : Setup) (x : View) (vs : List ℕ) (v : ℕ) →
    store_all g x (vs ++ v ∷ []) ≡ store_in g (store_all g x vs) (store_all g x vs).state.phase v
unfolding store_all
store_all_push g x [] v = refl
store_all_push g x (w ∷ vs) v = store_all_push g (store_in g x x.state.phase w) vs v

pub store_all_step : (g : Setup) (x y y' : View) (vs : List ℕ) (i : ℕ) → i < length vs → y ≡ store_all g x (take i vs) →
    y' ≡ store_in g y y.state.phase (get_or vs i 0) → y' ≡ store_all g x (take (i + 1) vs)
store_all_step g x y y' vs i h e f =
    f ∙ ap (λ (z : View). store_in g z z.state.phase (get_or vs i 0)) e ∙ sym (store_all_push g x (take i vs) (get_or vs i 0))
    ∙ ap (store_all g x) (sym (take_more vs i 0 h))
