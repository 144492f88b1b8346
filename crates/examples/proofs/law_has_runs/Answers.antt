use Rattle.examples.proofs.HasRuns.{has_runs}
use Rattle.examples.proofs.law_has_runs.Goals as goal

pub returns-clause-holds : goal.returns-clause-holds
returns-clause-holds c = has_runs
