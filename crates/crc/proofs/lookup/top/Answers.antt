use Rattle.std.proofs.Common.{◌*◌, ◌^◌, zero-add, arith}
use Rattle.std.proofs.lemmas.List.FromFn.{get_or-map-range_with_len}
use Rattle.crc.specs.Crc.{crc_bits, crc_byte}
use Rattle.crc.proofs.lookup.top.Goals as goal

pub returns : goal.returns
unfolding crc_bits crc_byte
returns c =
    record { value = get_or-map-range_with_len (λ i. crc_byte (i * 2 ^ 24) 0) 0 256 c.args.value c.args.value 0 (omega arith) (zero-add c.args.value) }
