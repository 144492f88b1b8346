use Rattle.std.proofs.Common.{rules}
use Rattle.crc.proofs.Over.{crc_over_fold}
use Rattle.crc.proofs.each.Goals as goal

pub returns : goal.returns
returns c = record { value = rw (crc_over_fold c.args.register c.args.bytes.now) (search rules) }
