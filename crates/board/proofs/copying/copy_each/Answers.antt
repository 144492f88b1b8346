use Rattle.std.proofs.Common.{arith}
use Rattle.rules.specs.Table.{span}
use Rattle.rules.specs.Host.{overlay}
use Rattle.board.proofs.Copies.{copy_turn}
use Rattle.board.proofs.copying.copy_each.Goals as goal

pub loop-to-preserved : goal.loop-to-preserved
loop-to-preserved g c =
    let s = c.in-Some.ensures.steps in
    let m = g.M.Memory.bytes c.args.m.now in
    let copied = overlay c.args.out.now c.args.at (span m c.args.e.now.start c.args.e.now.fill) in (
      copy_turn m _ _ copied _ _ _ _ _ _ _ _ _ c.loop-to.invariant.0
          s.0.0.0 s.0.0.1 s.0.1.0 s.0.1.1 s.1 c.byte.ensures c.set_at.ensures,
      omega (arith, s),
      omega (arith, s),
    )
