use Rattle.std.proofs.Common.{◌+◌, ◌*◌, arith}
use Rattle.crc.specs.Crc.{crc_bits}
use Rattle.crc.proofs.Entries.{row_entry}
use Rattle.crc.proofs.lookup.data.Goals as goal

pub returns : goal.returns
unfolding crc_bits
returns c =
    record { value = row_entry (λ i k. crc_bits (8 * (i + 1)) 0 k) 8 256 c.args.behind c.args.value (omega arith) (omega arith) }
