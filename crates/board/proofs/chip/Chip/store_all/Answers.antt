use Rattle.std.proofs.Common.{arith}
use Rattle.board.proofs.Scans.{store_all_step}
use Rattle.board.proofs.chip.Chip.store_all.Goals as goal

pub loop-value-preserved : goal.loop-value-preserved
loop-value-preserved g c =
    store_all_step _ _ _ _ c.args.bytes.now c.loop-value.value-index (omega arith) c.loop-value.invariant c.store_in.ensures
