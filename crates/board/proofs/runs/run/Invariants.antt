use Rattle.std.proofs.Common.{◌≡◌, ◌+◌, ◌*◌, ◌≤◌, length}
use Rattle.rules.specs.Table.{run}
use Rattle.board.specs.Rounds.{numbers_left}
use Rattle.board.proofs.Rounds.{judge}
use Rattle.board.proofs.runs.run.Given as goal

abbrev pub invariant-loop-d : goal.invariant-loop-d
invariant-loop-d g l =
    (judge l.g (g.M.Memory.bytes l.m) l.taking l.frame.count l.frame.length l.latest (numbers_left l.d-iterator)
    ≡ run l.g (g.M.Memory.bytes l.m) l.taking l.from)
    × (l.frame.count + length (numbers_left l.d-iterator) ≡ l.g.count)
    × (l.frame.length ≤ 65535 * l.frame.count)
