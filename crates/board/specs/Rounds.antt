-- The descriptors of a run.
--   numbers        the numbers of k descriptors, from one on: 0 follows the last
--   numbers_left   those that an iterator has left
use Rattle.std.specs.Prelude.{ℕ, zero, suc, List, [], ◌∷◌}
use Rattle.rules.specs.declared.state.Setup.{Setup}
use Rattle.rules.specs.Table.{next}
use Rattle.board.specs.declared.round.Round.{Round}

abbrev pub numbers : Setup → ℕ → ℕ → List ℕ
numbers g d zero = []
numbers g d (suc k) = d ∷ numbers g (next g d) k

abbrev pub numbers_left : Round → List ℕ
numbers_left r = numbers r.setup r.at r.left
