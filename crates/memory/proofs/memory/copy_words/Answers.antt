use Rattle.std.proofs.Common.{arith}
use Rattle.std.proofs.lemmas.Grind.{common_steps, elements}
use Rattle.memory.proofs.HalfAt.{length_halves, get_or_even, get_or_odd}
use Rattle.memory.proofs.memory.copy_words.Goals as goal

pub loop-i-preserved : goal.loop-i-preserved
loop-i-preserved c k h = grind (arith, common_steps, get_or_even, get_or_odd)

pub returns-then-out-eq1 : goal.returns-then-out-eq1
returns-then-out-eq1 c = grind (arith, elements, length_halves, get_or_even)

pub returns-else-out-eq1 : goal.returns-else-out-eq1
returns-else-out-eq1 c = grind (arith, elements, length_halves)
