use Rattle.std.proofs.Common.{◌*◌, ◌^◌, arith}
use Rattle.crc.specs.Crc.{crc_bits}
use Rattle.crc.proofs.Entries.{row_entry}
use Rattle.crc.proofs.lookup.register.Goals as goal

pub returns : goal.returns
unfolding crc_bits
returns c =
    record { value = row_entry (λ i k. crc_bits 64 (k * 2 ^ (8 * i)) 0) 4 256 c.args.place c.args.value (omega arith) (omega arith) }
