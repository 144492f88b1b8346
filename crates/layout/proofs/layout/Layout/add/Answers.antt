use Rattle.std.proofs.Common.{◌<◌, length, sym, arith}
use Rattle.std.proofs.lemmas.Grind.{common_steps}
use Rattle.std.proofs.lemmas.List.{take_more_set}
use Rattle.layout.specs.declared.buffer.Buffer.{Buffer}
use Rattle.layout.specs.Layouts.{shape}
use Rattle.layout.proofs.Sounds.{added_sound}
use Rattle.layout.proofs.layout.Layout.add.Goals as goal

pub invariant_of-self-clause-apart : goal.invariant_of-self-clause-apart
invariant_of-self-clause-apart c =
    let l = c.args.self.now in
    let x : Buffer = record { start = c.args.start; length = c.args.length } in
    let room : l.count < length l.buffers = grind (arith, common_steps) in
    rw (take_more_set l.buffers l.count x room) (added_sound (shape l) x (sym c.in_ok-judge.ensures) l.apart).1
