use Rattle.std.proofs.Common.{◌≡◌, ◌+◌, ◌*◌, ◌≤◌, length}
use Rattle.rules.specs.Table.{frame_bytes}
use Rattle.rules.specs.Host.{overlay}
use Rattle.board.specs.Rounds.{numbers_left}
use Rattle.board.proofs.Rounds.{bytes_of}
use Rattle.board.proofs.copying.copy_run.Given as goal

abbrev pub invariant-loop-d : goal.invariant-loop-d
invariant-loop-d g l =
    (overlay l.out l.at (bytes_of l.run.setup (g.M.Memory.bytes l.m) (numbers_left l.d-iterator))
    ≡ overlay l.initial.out 0 (frame_bytes l.run.setup (g.M.Memory.bytes l.m) l.run.at l.run.left))
    × (length l.yielded + length (numbers_left l.d-iterator) ≡ l.run.left)
    × (l.at ≤ 65535 * length l.yielded)
