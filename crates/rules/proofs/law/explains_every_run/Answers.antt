use Rattle.rules.proofs.Joined.{law}
use Rattle.rules.proofs.law.explains_every_run.Goals as goal

pub returns-clause-holds : goal.returns-clause-holds
returns-clause-holds c = law
