use Rattle.std.proofs.Common.{◌≡◌}
use Rattle.std.specs.List.{fold}
use Rattle.rules.specs.Table.{clear_run}
use Rattle.board.specs.Rounds.{numbers_left}
use Rattle.board.proofs.Rounds.{clear_one}
use Rattle.board.proofs.runs.clear.Given as goal

abbrev pub invariant-loop-d : goal.invariant-loop-d
invariant-loop-d g l =
    fold (clear_one l.run.setup) (g.M.Memory.bytes l.m) (numbers_left l.d-iterator)
    ≡ clear_run l.run.setup (g.M.Memory.bytes l.initial.m) l.run.at l.run.left
