-- What an event of the line leaves to be done, by the phase that it found.
--   asked       the recogniser is asked about the address that a byte completes
--   carried     what is due, done
--   left_done   the same, where something may be due
use Rattle.std.specs.Prelude.{ℕ, Bool, List, Some, None, Option, slice_set}
use Rattle.rules.specs.declared.state.LastByte.{LastByte}
use Rattle.rules.specs.declared.state.Phase.{Phase}
use Rattle.rules.specs.declared.state.Phase.TheVariants.{Idle, Address, Storing, Ignored, Missed}
use Rattle.rules.specs.declared.state.Setup.{Setup}
use Rattle.rules.specs.Views.{View}
use Rattle.rules.specs.Arrivals.{store_fresh, sixth, finished}
use Rattle.board.specs.declared.arrival.Due.{Due}
use Rattle.board.specs.declared.arrival.Due.TheVariants.{Recognition, Buffer, Verdict}

abbrev pub asked : Setup → (List ℕ → Bool) → View → Phase → ℕ → View
asked g among x Idle v = x
asked g among x (Address a n) v = sixth g among x (slice_set a 5 v)
asked g among x (Storing t) v = x
asked g among x Ignored v = x
asked g among x Missed v = x

abbrev stored_next : Setup → View → Phase → ℕ → View
stored_next g x Idle v = x
stored_next g x (Address a n) v = x
stored_next g x (Storing t) v = store_fresh g x t v
stored_next g x Ignored v = x
stored_next g x Missed v = x

abbrev ended : Setup → View → Phase → LastByte → View
ended g x Idle l = x
ended g x (Address a n) l = x
ended g x (Storing t) l = finished g x t l
ended g x Ignored l = x
ended g x Missed l = x

abbrev pub carried : Setup → (List ℕ → Bool) → View → Phase → Due → View
carried g among x p (Recognition v) = asked g among x p v
carried g among x p (Buffer v) = stored_next g x p v
carried g among x p (Verdict l) = ended g x p l

abbrev pub left_done : Setup → (List ℕ → Bool) → View → Option Due → View
left_done g among x None = x
left_done g among x (Some d) = carried g among x x.state.phase d
