-- A take's frame fits the caller's buffer, and its bytes stand at the buffer's front.
use Rattle.std.proofs.Common.{◌≡◌, ℕ, zero, suc, ◌+◌, ◌-◌, ◌<◌, ◌≤◌, Bool, true, false, cond, not, ◌&&◌, eqb, leb, List, [], ◌∷◌, ◌++◌, length, take, set, Ok, Err, Result, sym, refl, ap, ◌∙◌, subst, append_assoc, append-nil, arith}
use Rattle.std.proofs.lemmas.List.{length-set, take_more_set}
use Rattle.std.proofs.lemmas.Bool.{leb-true}
use Rattle.refusal.specs.declared.Refusal.{Refusal}
use Rattle.refusal.specs.declared.Refusal.TheVariants.{Shut, Broken, NoFrame, ShortBuffer}
use Rattle.rules.specs.declared.state.Setup.{Setup}
use Rattle.rules.specs.declared.state.Run.{Run}
use Rattle.rules.specs.declared.state.Break.{Break}
use Rattle.rules.specs.declared.state.Break.TheVariants.{Unlawful, Misplaced, Endless}
use Rattle.rules.specs.Table.{next, descriptor, held, taken, last, lawful, in_place, run_on, run, frame_bytes}
use Rattle.rules.specs.Views.{Shown}
use Rattle.rules.specs.Host.{judged, room_judged, take_judged, take_answer, take_out, overlay}
use Rattle.rules.specs.Calls.Call.{takes}
use Rattle.rules.specs.Calls.Outcome.{took}
use Rattle.rules.specs.Law.{received, taking, answers}
use Rattle.rules.proofs.Overlays.{frame_bytes_none, length_frame_bytes_more}

-- a run is as long as its bytes
err_not_ok : {E : Type 0} (e : E) (f : Run) → ◌≡◌ {A = Result Run E} (Err e) (Ok f) → ⊥
err_not_ok e f h = let z : ◌≡◌ {A = ℕ} 0 1 = cc in omega arith

ok_if : {E : Type 0} (b : Bool) (x : Result Run E) (e : E) (f : Run) → cond b x (Err e) ≡ Ok f → (b ≡ true) × (x ≡ Ok f)
ok_if true x e f h = (refl, h)
ok_if false x e f h = absurd (err_not_ok e f h)

ok_unless : {E : Type 0} (b : Bool) (x : Result Run E) (e : E) (f : Run) → cond b (Err e) x ≡ Ok f → (b ≡ false) × (x ≡ Ok f)
ok_unless false x e f h = (refl, h)
ok_unless true x e f h = absurd (err_not_ok e f h)

-- i descriptors with len bytes stand before d
abbrev Long : Setup → List ℕ → ℕ → ℕ → ℕ → Run → Type 0
Long g m i len d f = (i < f.count) × (f.length ≡ len + length (frame_bytes g m d (f.count - i)))

long_at_last : (g : Setup) (m : List ℕ) (i len d : ℕ) (f : Run) → f.count ≡ i + 1 → f.length ≡ len + (descriptor g m d).fill → Long g m i len d f
long_at_last g m i len d f c l =
    let a = length_frame_bytes_more g m d f.count i (descriptor g m d) (omega arith) refl in
    let b = ap length (frame_bytes_none g m (next g d) f.count (i + 1) (omega arith)) in
    (omega arith, omega (arith, a, b))

long_before : (g : Setup) (m : List ℕ) (i len d : ℕ) (f : Run) → Long g m (i + 1) (len + (descriptor g m d).fill) (next g d) f → Long g m i len d f
long_before g m i len d f l =
    let u = l.0 in
    let w = l.1 in
    let a = length_frame_bytes_more g m d f.count i (descriptor g m d) (omega arith) refl in
    (omega arith, omega (arith, a))

long_either : (g : Setup) (m : List ℕ) (i len d : ℕ) (f : Run) (b z : Bool) (r : Result Run Break) →
    (r ≡ Ok f → Long g m (i + 1) (len + (descriptor g m d).fill) (next g d) f) →
    cond b (Ok (record { count = i + 1; length = len + (descriptor g m d).fill; status = (descriptor g m d).status })) (cond z (Err (Endless d)) r) ≡ Ok f → Long g m i len d f
long_either g m i len d f true z r k e = long_at_last g m i len d f (cc) (cc)
long_either g m i len d f false z r k e = long_before g m i len d f (k (ok_unless z r (Endless d) f e).1)

run_on_long : (g : Setup) (m : List ℕ) (tk : Bool) (i len d k : ℕ) (f : Run) → run_on g m tk i len d k ≡ Ok f → Long g m i len d f
unfolding run_on
run_on_long g m tk i len d zero f h = absurd (err_not_ok (Endless d) f h)
run_on_long g m tk i len d (suc k) f h =
    let lawfully = ok_if (lawful g (descriptor g m d)) _ (Unlawful d) f h in
    let placed = ok_if (in_place tk (eqb i 0) (descriptor g m d)) _ (Misplaced d) f lawfully.1 in
    long_either g m i len d f (last (descriptor g m d)) (eqb k 0) (run_on g m tk (i + 1) (len + (descriptor g m d).fill) (next g d) k)
    (run_on_long g m tk (i + 1) (len + (descriptor g m d).fill) (next g d) k f) placed.1

pub run_long : (g : Setup) (m : List ℕ) (tk : Bool) (d : ℕ) (f : Run) → run g m tk d ≡ Ok f → (length (frame_bytes g m d f.count) ≡ f.length) × (0 < f.count)
run_long g m tk d f h =
    let l = run_on_long g m tk 0 0 d g.count f h in
    let z : f.count - 0 ≡ f.count = omega arith in
    let q = ap (λ (k : ℕ). length (frame_bytes g m d k)) z in
    (omega (arith, l.1, q), l.0)

-- a take's frame fits the caller's buffer
room_judged_ok : (room : ℕ) (r : Result Run Break) (f : Run) → room_judged room r ≡ Ok f → (r ≡ Ok f) × (f.length ≤ room)
room_judged_ok room (Ok x) f h =
    let w = ok_if (leb x.length room) (Ok x) ShortBuffer f h in
    let e : x ≡ f = cc w.1 in
    ((cc), subst (λ (y : Run). y.length ≤ room) e (leb-true _ _ w.0))
room_judged_ok room (Err w) f h = absurd (err_not_ok (judged w) f h)

pub take_runs : (b : Shown) (room : ℕ) (f : Run) → take_judged b room ≡ Ok f →
    (run b.setup b.view.memory false b.view.state.host ≡ Ok f) × (f.length ≤ room)
take_runs b room f h =
    let g = b.setup in
    let m = b.view.memory in
    let d = b.view.state.host in
    let e = descriptor g m d in
    let opened = ok_unless b.shut _ Shut f h in
    let lawfully = ok_if (lawful g e) _ (Broken d) f opened.1 in
    let waits = ok_if (held e && not (taken e)) (room_judged room (run g m false d)) NoFrame f lawfully.1 in
    room_judged_ok room (run g m false d) f waits.1

pub take_long : (b : Shown) (room : ℕ) (f : Run) → take_judged b room ≡ Ok f →
    length (frame_bytes b.setup b.view.memory b.view.state.host f.count) ≡ f.length
take_long b room f h = (run_long b.setup b.view.memory false b.view.state.host f (take_runs b room f h).0).0

pub take_fits : (b : Shown) (room : ℕ) (f : Run) → take_judged b room ≡ Ok f →
    length (frame_bytes b.setup b.view.memory b.view.state.host f.count) ≤ room
take_fits b room f h = omega (arith, take_long b room f h, (take_runs b room f h).1)

overlay_front : (xs out : List ℕ) (at : ℕ) → at + length xs ≤ length out → take (at + length xs) (overlay out at xs) ≡ take at out ++ xs
unfolding overlay
overlay_front [] out at h = let z : at + 0 ≡ at = omega arith in ap (λ k. take k out) z ∙ sym (append-nil (take at out))
overlay_front (x ∷ xs) out at h =
    let z : at + length (x ∷ xs) ≡ (at + 1) + length xs = omega arith in
    let l = length-set out at x in
    ap (λ k. take k (overlay (set out at x) (at + 1) xs)) z ∙ overlay_front xs (set out at x) (at + 1) (omega arith)
    ∙ ap (λ y. y ++ xs) (take_more_set out at x (omega arith)) ∙ append_assoc (take at out) (x ∷ []) xs

pub take_front : (bs out : List ℕ) → length bs ≤ length out → take (length bs) (overlay out 0 bs) ≡ bs
take_front bs out h =
    let z : length bs ≡ 0 + length bs = omega arith in
    ap (λ k. take k (overlay out 0 bs)) z ∙ overlay_front bs out 0 (omega arith)

-- what a take hands over is the frame that the rules say
took_judged : (b : Shown) (out out' : List ℕ) (r : Result (ℕ × ℕ × ℕ × ℕ) Refusal) (j : Result Run Refusal) → take_judged b (length out) ≡ j →
    r ≡ take_answer b j → out' ≡ take_out b j out → received r out' ≡ taking b j
took_judged b out out' r (Ok f) e p o =
    let bs = frame_bytes b.setup b.view.memory b.view.state.host f.count in
    let front : take f.length out' ≡ bs =
    ap (take f.length) o ∙ ap (λ k. take k (overlay out 0 bs)) (sym (take_long b (length out) f e)) ∙ take_front bs out (take_fits b (length out) f e) in
    ap (λ x. received x out') p ∙ ap (λ v. took (record { first = b.view.state.host; count = f.count; bytes = v; status = f.status })) front
took_judged b out out' r (Err w) e p o = ap (λ x. received x out') p

pub took_is : (b : Shown) (out out' : List ℕ) (r : Result (ℕ × ℕ × ℕ × ℕ) Refusal) →
    r ≡ take_answer b (take_judged b (length out)) → out' ≡ take_out b (take_judged b (length out)) out → received r out' ≡ answers b (takes (length out))
took_is b out out' r p o = took_judged b out out' r (take_judged b (length out)) refl p o
