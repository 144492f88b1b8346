use Rattle.memory.specs.declared.address.Address.{Address}
use Rattle.board.proofs.Copies.{whole_places, whole_copied}
use Rattle.board.proofs.copying.copy_whole.Goals as goal

pub returns-then-end-out : goal.returns-then-end-out
returns-then-end-out g c =
    let from : Address = record { 0 = c.args.e.now.start } in
    let m = g.M.Memory.bytes c.args.m.now in
    let read = c.read_slice.ensures in
    record {
      answer = whole_places m c.args.out.now from c.args.e.now.fill c.args.at c.if-end-out.true _ _ c.is_ok.ensures.value read.answer;
      copied = whole_copied m c.args.out.now from c.args.e.now.fill c.args.at c.if-end-out.true _ _ _ c.is_ok.ensures.value read.answer read.copied;
    }
