-- What the ledger says of its frames is what the taken and the waiting ones say.
use Rattle.std.proofs.Common.{◌≡◌, ℕ, suc, ◌+◌, ◌<◌, Bool, true, false, cond, ◌||◌, leb, List, [], ◌∷◌, ◌++◌, map, length, get_or, sym, refl, ap, ◌∙◌, add_assoc, zero-add}
use Rattle.std.specs.List.{AllByRecursion as All}
use Rattle.std.proofs.lemmas.List.{map_push}
use Rattle.rules.specs.Plan.{Plan, buffer, times, after}
use Rattle.rules.specs.Ledger.{holders, after_frames, after_taken, take_first, take_verdict, starts_taken, release_at}
use Rattle.rules.specs.Explains.{deliveries, untaken, Untouched}
use Rattle.rules.proofs.Frames.{KeptFrame, Gone, frame_of, held_gone, held_waiting, after_gone, after_waiting, delivery, gone_mark, waiting_mark, flat, sight_of, sights, starts_unreleased, any_starts, release_in}

-- how many unreleased frames have a buffer
holders_waiting : (fs : List KeptFrame) (d : ℕ) → holders (map waiting_mark fs) d ≡ held_waiting fs d
holders_waiting [] d = refl
holders_waiting (f ∷ fs) d = ap (λ n. times d f.buffers + n) (holders_waiting fs d)

pub holders_flat : (gs : List Gone) (fs : List KeptFrame) (d : ℕ) → holders (flat gs fs) d ≡ held_gone gs d + held_waiting fs d
holders_flat [] fs d = holders_waiting fs d ∙ sym (zero-add (held_waiting fs d))
holders_flat (g ∷ gs) fs d =
    ap (λ n. cond g.released 0 (times d g.frame.buffers) + n) (holders_flat gs fs d)
    ∙ sym (add_assoc (cond g.released 0 (times d g.frame.buffers)) (held_gone gs d) (held_waiting fs d))

-- the buffers after the last frame's, and after the last taken frame's
after_frames_waiting : (s : Plan) (fs : List KeptFrame) (e : ℕ) → after_frames s (map waiting_mark fs) e ≡ after_waiting s fs e
after_frames_waiting s [] e = refl
after_frames_waiting s (f ∷ fs) e = after_frames_waiting s fs (after s f.buffers e)

pub after_frames_flat : (s : Plan) (gs : List Gone) (fs : List KeptFrame) (e : ℕ) → after_frames s (flat gs fs) e ≡ after_waiting s fs (after_gone s gs e)
after_frames_flat s [] fs e = after_frames_waiting s fs e
after_frames_flat s (g ∷ gs) fs e = after_frames_flat s gs fs (after s g.frame.buffers e)

after_taken_waiting : (s : Plan) (fs : List KeptFrame) (e : ℕ) → after_taken s (map waiting_mark fs) e ≡ e
after_taken_waiting s [] e = refl
after_taken_waiting s (f ∷ fs) e = after_taken_waiting s fs e

pub after_taken_flat : (s : Plan) (gs : List Gone) (fs : List KeptFrame) (e : ℕ) → after_taken s (flat gs fs) e ≡ after_gone s gs e
after_taken_flat s [] fs e = after_taken_waiting s fs e
after_taken_flat s (g ∷ gs) fs e = after_taken_flat s gs fs (after s g.frame.buffers e)

-- one more frame is kept
pub flat_push : (gs : List Gone) (fs : List KeptFrame) (f : KeptFrame) → flat gs fs ++ (waiting_mark f ∷ []) ≡ flat gs (fs ++ (f ∷ []))
flat_push [] fs f = sym (map_push waiting_mark fs f)
flat_push (g ∷ gs) fs f = ap (λ l. gone_mark g ∷ l) (flat_push gs fs f)

pub sights_push : (gs : List Gone) (fs : List KeptFrame) (f : KeptFrame) → sights gs fs ++ (sight_of f ∷ []) ≡ sights gs (fs ++ (f ∷ []))
sights_push [] fs f = sym (map_push sight_of fs f)
sights_push (g ∷ gs) fs f = ap (λ l. sight_of g.frame ∷ l) (sights_push gs fs f)

-- the first waiting frame is taken
pub take_first_flat : (gs : List Gone) (f : KeptFrame) (fs : List KeptFrame) →
    take_first (flat gs (f ∷ fs)) ≡ flat (gs ++ (record { frame = f; released = false } ∷ [])) fs
take_first_flat [] f fs = refl
take_first_flat (g ∷ gs) f fs = ap (λ l. gone_mark g ∷ l) (take_first_flat gs f fs)

pub sights_take_first : (gs : List Gone) (f : KeptFrame) (fs : List KeptFrame) →
    sights gs (f ∷ fs) ≡ sights (gs ++ (record { frame = f; released = false } ∷ [])) fs
sights_take_first [] f fs = refl
sights_take_first (g ∷ gs) f fs = ap (λ l. sight_of g.frame ∷ l) (sights_take_first gs f fs)

abbrev pub first_verdict : List KeptFrame → ℕ → ℕ
first_verdict [] room = 12
first_verdict (f ∷ fs) room = cond (leb (length f.bytes) room) 0 14

pub take_verdict_flat : (gs : List Gone) (fs : List KeptFrame) (room : ℕ) → take_verdict (flat gs fs) room ≡ first_verdict fs room
take_verdict_flat [] [] room = refl
take_verdict_flat [] (f ∷ fs) room = refl
take_verdict_flat (g ∷ gs) fs room = take_verdict_flat gs fs room

-- a taken frame is released
starts_taken_waiting : (fs : List KeptFrame) (d : ℕ) → starts_taken (map waiting_mark fs) d ≡ false
starts_taken_waiting [] d = refl
starts_taken_waiting (f ∷ fs) d = starts_taken_waiting fs d

pub starts_taken_flat : (gs : List Gone) (fs : List KeptFrame) (d : ℕ) → starts_taken (flat gs fs) d ≡ any_starts gs d
starts_taken_flat [] fs d = starts_taken_waiting fs d
starts_taken_flat (g ∷ gs) fs d = ap (λ b. starts_unreleased g d || b) (starts_taken_flat gs fs d)

pub release_at_flat : (gs : List Gone) (fs : List KeptFrame) (d : ℕ) → any_starts gs d ≡ true → release_at d (flat gs fs) ≡ flat (release_in d gs) fs
release_at_flat [] fs d h = let z : false ≡ true = h in cc
release_at_flat (g ∷ gs) fs d h = here (starts_unreleased g d) (release_at_flat gs fs d) h
  where
    here : (b : Bool) → (any_starts gs d ≡ true → release_at d (flat gs fs) ≡ flat (release_in d gs) fs) → (b || any_starts gs d) ≡ true →
        cond b (record { buffers = g.frame.buffers; bytes = g.frame.bytes; taken = true; released = true } ∷ flat gs fs) (gone_mark g ∷ release_at d (flat gs fs))
        ≡ flat (cond b (record { frame = g.frame; released = true } ∷ gs) (g ∷ release_in d gs)) fs
    here true later k = refl
    here false later k = ap (λ l. gone_mark g ∷ l) (later k)

pub sights_release_in : (gs : List Gone) (fs : List KeptFrame) (d : ℕ) → sights (release_in d gs) fs ≡ sights gs fs
sights_release_in [] fs d = refl
sights_release_in (g ∷ gs) fs d = here (starts_unreleased g d) (sights_release_in gs fs d)
  where
    here : (b : Bool) → sights (release_in d gs) fs ≡ sights gs fs → sights (cond b (record { frame = g.frame; released = true } ∷ gs) (g ∷ release_in d gs)) fs ≡ sight_of g.frame ∷ sights gs fs
    here true later = refl
    here false later = ap (λ l. sight_of g.frame ∷ l) later

-- the kept frames with their sights, in the order of their ends
pub length_sights : (gs : List Gone) (fs : List KeptFrame) → length (sights gs fs) ≡ length (flat gs fs)
length_sights [] [] = refl
length_sights [] (f ∷ fs) = ap suc (length_sights [] fs)
length_sights (g ∷ gs) fs = ap suc (length_sights gs fs)

deliveries_waiting : (fs : List KeptFrame) → deliveries (map waiting_mark fs) (map sight_of fs) ≡ map delivery fs
deliveries_waiting [] = refl
deliveries_waiting (f ∷ fs) = ap (λ l. delivery f ∷ l) (deliveries_waiting fs)

pub deliveries_flat : (gs : List Gone) (fs : List KeptFrame) → deliveries (flat gs fs) (sights gs fs) ≡ map delivery (map frame_of gs ++ fs)
deliveries_flat [] fs = deliveries_waiting fs
deliveries_flat (g ∷ gs) fs = ap (λ l. delivery g.frame ∷ l) (deliveries_flat gs fs)

untaken_waiting : (fs : List KeptFrame) → untaken (map waiting_mark fs) (map sight_of fs) ≡ map delivery fs
untaken_waiting [] = refl
untaken_waiting (f ∷ fs) = ap (λ l. delivery f ∷ l) (untaken_waiting fs)

pub untaken_flat : (gs : List Gone) (fs : List KeptFrame) → untaken (flat gs fs) (sights gs fs) ≡ map delivery fs
untaken_flat [] fs = untaken_waiting fs
untaken_flat (g ∷ gs) fs = untaken_flat gs fs

-- no byte of a frame's buffers has changed since its end
abbrev pub UntouchedKept : Plan → List ℕ → KeptFrame → Type 0
UntouchedKept s m f =
    (d : ℕ) → 0 < times d f.buffers → (i : ℕ) → i < (buffer s d).length →
    get_or m ((buffer s d).start.0 + i) 0 ≡ get_or f.memory ((buffer s d).start.0 + i) 0

abbrev pub UntouchedGone : Plan → List ℕ → Gone → Type 0
UntouchedGone s m g = g.released ≡ false → UntouchedKept s m g.frame

untouched_waiting : (s : Plan) (m : List ℕ) (fs : List KeptFrame) → All (UntouchedKept s m) fs → Untouched s m (map waiting_mark fs) (map sight_of fs)
untouched_waiting s m [] u = tt
untouched_waiting s m (f ∷ fs) u = (λ r. u.0, untouched_waiting s m fs u.1)

pub untouched_flat : (s : Plan) (m : List ℕ) (gs : List Gone) (fs : List KeptFrame) →
    All (UntouchedGone s m) gs → All (UntouchedKept s m) fs → Untouched s m (flat gs fs) (sights gs fs)
untouched_flat s m [] fs t u = untouched_waiting s m fs u
untouched_flat s m (g ∷ gs) fs t u = (t.0, untouched_flat s m gs fs t.1 u)
