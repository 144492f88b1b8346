-- The examples hold: each by computing what the rules give.
use Rattle.std.proofs.Common.{refl}
use Rattle.crc.specs.Crc.{crc_bits, crc_byte, crc_over}
use Rattle.rules.specs.Table.{next, descriptor_at, lawful, write_at, run_on, span, frame_bytes}
use Rattle.rules.specs.Arrivals.{store_all}
use Rattle.rules.specs.Opening.{describe_at, described}
use Rattle.examples.specs.Examples.{ExamplesHold}

infixr 5 ◌and◌
◌and◌ : {A B : Type 0} → A → B → A × B
◌and◌ p q = (p, q)

pub examples_hold : ExamplesHold
unfolding crc_bits crc_byte crc_over next descriptor_at lawful write_at run_on span frame_bytes store_all describe_at described
examples_hold =
    (refl, refl) and (refl, refl) and (refl, refl) and (refl, refl) and (refl, refl) and (refl, refl) and (refl, refl)
    and (refl, refl) and (refl, refl) and (refl, refl) and (refl, refl) and refl and tt
