use Rattle.std.proofs.Common.{sym, ◌∙◌, rules, arith}
use lib.Bits.{xor_assoc, xor_zero_r}
use Rattle.crc.proofs.Parts.{data_of_eight}
use Rattle.crc.proofs.step.data_part.Goals as goal

pub returns : goal.returns
returns c =
    let all = data_of_eight c.args.bytes.now (omega arith) (search rules) in
    record {
      value =
          simp (xor_assoc, c.data.ensures.value, c.data-2.ensures.value, c.data-3.ensures.value, c.data-4.ensures.value, c.data-5.ensures.value, c.data-6.ensures.value, c.data-7.ensures.value, c.data-8.ensures.value) (sym (all ∙ simp xor_zero_r));
    }
