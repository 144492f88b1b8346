-- A board, by what its memory means.
--   seen         what a chip's memory means, and its state
--   shown_with   a board with that view, by what its open fixed, if it was opened
--   shown        all of a board but its recogniser
use Rattle.std.specs.Prelude.{ℕ, List, Option, is_none, unwrap_or}
use Rattle.rules.specs.declared.state.Setup.{Setup}
use Rattle.rules.specs.Views.{Shown, View, view}
use Rattle.rules.specs.Opening.{no_setup}
use Rattle.board.specs.declared.chip.Chip.{Chip}
use Rattle.board.specs.declared.board.Board.{Board}

abbrev pub seen : {M : Type 0} → (M → List ℕ) → Chip M → View
seen bytes c = view (bytes c.memory) c.state

abbrev pub shown_with : Option Setup → View → Shown
shown_with s x = record { shut = is_none s; setup = unwrap_or s no_setup; view = x }

abbrev pub shown : {M R : Type 0} → (M → List ℕ) → Board M R → Shown
shown bytes b = shown_with b.setup (seen bytes b.chip)
