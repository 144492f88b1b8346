-- What the host's calls do: take, release, peek and poke.
--   judged                             why a run is broken, as a refusal
--   take_judged, release_judged        the frame that a take or a release is for, or the refusal
--   take_answer                        first descriptor, descriptors, length, status
--   overlay                            a list written over another from a place on
--   take_after, take_out               what a take leaves of the board, and of the caller's buffer
--   release_answer, release_after      what a release answers and leaves
--   peek_answer                        the byte at an address
--   poke_answer, poke_after            what a poke answers and leaves
use Rattle.std.specs.Prelude.{ℕ, ◌+◌, true, false, not, ◌&&◌, List, [], ◌∷◌, length, Ok, Err, Result, nat_le, nat_lt, slice_index, slice_set, if◌then◌else◌}
use Rattle.refusal.specs.declared.Refusal.{Refusal}
use Rattle.refusal.specs.declared.Refusal.TheVariants.{Shut, UnderWay, NoFrame, Broken, ShortBuffer, NotTaken, Outside}
use Rattle.rules.specs.declared.state.Run.{Run}
use Rattle.rules.specs.declared.state.Break.{Break}
use Rattle.rules.specs.declared.state.Break.TheVariants.{Unlawful, Misplaced, Endless}
use Rattle.rules.specs.Table.{onward, descriptor, held, first, taken, lawful, run, frame_bytes, take_run, clear_run}
use Rattle.rules.specs.Views.{View, view, Shown, with_host, idle, on}

-- each way is refused by 13, at the descriptor
abbrev pub judged : Break → Refusal
judged (Unlawful d) = Broken d
judged (Misplaced d) = Broken d
judged (Endless d) = Broken d

abbrev pub run_judged : Result Run Break → Result Run Refusal
run_judged (Ok f) = Ok f
run_judged (Err w) = Err (judged w)

-- the same, where the caller's buffer has room bytes
abbrev pub room_judged : ℕ → Result Run Break → Result Run Refusal
room_judged room (Ok f) = if nat_le f.length room then Ok f else Err ShortBuffer
room_judged room (Err w) = Err (judged w)

abbrev pub take_judged : Shown → ℕ → Result Run Refusal
take_judged b room =
    let g = b.setup in
    let m = b.view.memory in
    let d = b.view.state.host in
    let e = descriptor g m d in
    if b.shut then Err Shut
    else if lawful g e then (if held e && not (taken e) then room_judged room (run g m false d) else Err NoFrame)
    else Err (Broken d)

abbrev pub release_judged : Shown → ℕ → Result Run Refusal
release_judged b d =
    let g = b.setup in
    let m = b.view.memory in
    let e = descriptor g m d in
    if b.shut then Err Shut
    else if nat_lt d g.count then (
    if lawful g e then (if held e && first e && taken e then run_judged (run g m true d) else Err NotTaken)
    else Err (Broken d)
    )
    else Err NotTaken

abbrev pub take_answer : Shown → Result Run Refusal → Result (ℕ × ℕ × ℕ × ℕ) Refusal
take_answer b (Ok f) = Ok (b.view.state.host, f.count, f.length, f.status)
take_answer b (Err e) = Err e

abbrev pub take_view : Shown → Run → View
take_view b f =
    view (take_run b.setup b.view.memory b.view.state.host f.count)
    (with_host b.view.state (onward b.setup b.view.state.host f.count))

abbrev pub take_after : Shown → Result Run Refusal → Shown
take_after b (Ok f) = record { shut = b.shut; setup = b.setup; view = take_view b f }
take_after b (Err e) = b

unfoldable pub overlay : List ℕ → ℕ → List ℕ → List ℕ
overlay out at [] = out
overlay out at (x ∷ xs) = overlay (slice_set out at x) (at + 1) xs

abbrev pub take_out : Shown → Result Run Refusal → List ℕ → List ℕ
take_out b (Ok f) out = overlay out 0 (frame_bytes b.setup b.view.memory b.view.state.host f.count)
take_out b (Err e) out = out

abbrev pub release_answer : Result Run Refusal → Result (Unit {0}) Refusal
release_answer (Ok f) = Ok tt
release_answer (Err e) = Err e

abbrev pub release_after : Shown → ℕ → Result Run Refusal → Shown
release_after b d (Ok f) =
    record { shut = b.shut; setup = b.setup; view = view (clear_run b.setup b.view.memory d f.count) b.view.state }
release_after b d (Err e) = b

abbrev pub peek_answer : Shown → ℕ → Result ℕ Refusal
peek_answer b a = if nat_lt a (length b.view.memory) then Ok (slice_index b.view.memory a) else Err (Outside a)

abbrev pub poke_answer : Shown → ℕ → Result (Unit {0}) Refusal
poke_answer b a =
    if idle b.view.state.phase then (if nat_lt a (length b.view.memory) then Ok tt else Err (Outside a))
    else Err UnderWay

abbrev pub poke_after : Shown → ℕ → ℕ → Shown
poke_after b a v = on (poke_answer b a) b (view (slice_set b.view.memory a v) b.view.state)
