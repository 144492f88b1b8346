use Rattle.std.proofs.Common.{◌≡◌}
use Rattle.std.specs.List.{fold}
use Rattle.rules.specs.Table.{take_one, take_run, onward}
use Rattle.board.specs.Rounds.{numbers_left}
use Rattle.board.proofs.Rounds.{after}
use Rattle.board.proofs.runs.mark_taken.Given as goal

abbrev pub invariant-loop-d : goal.invariant-loop-d
invariant-loop-d g l =
    (fold (take_one l.run.setup) (g.M.Memory.bytes l.m) (numbers_left l.d-iterator) ≡ take_run l.run.setup (g.M.Memory.bytes l.initial.m) l.run.at l.run.left)
    × (fold (after l.run.setup) l.after (numbers_left l.d-iterator) ≡ onward l.run.setup l.run.at l.run.left)
