use Rattle.examples.proofs.ExamplesHold.{examples_hold}
use Rattle.examples.proofs.examples_hold.Goals as goal

pub returns-clause-holds : goal.returns-clause-holds
returns-clause-holds c = examples_hold
