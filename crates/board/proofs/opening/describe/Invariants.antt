use Rattle.std.proofs.Common.{◌≡◌, drop}
use Rattle.rules.specs.Opening.{described}
use Rattle.board.proofs.opening.describe.Given as goal

abbrev pub invariant-loop-d : goal.invariant-loop-d
invariant-loop-d g l =
    described l.rbegin.0 (g.M.Memory.bytes l.m) l.d (drop l.d l.buffers)
    ≡ described l.rbegin.0 (g.M.Memory.bytes l.initial.m) 0 l.buffers
