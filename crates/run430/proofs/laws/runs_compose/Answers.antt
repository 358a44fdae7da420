use Rattle.run430.proofs.Compose.{Runs-append, run-append, SteadyRuns-Runs, SteadyRuns-append}
use Rattle.run430.specs.Run.{Named}
use Rattle.run430.proofs.laws.runs_compose.Goals as goal

pub returns-clause-relation : goal.returns-clause-relation
returns-clause-relation c = λ denied reads writes n k s t u h j. Runs-append denied (Named reads) (Named writes) n k s t u h j

pub returns-clause-function : goal.returns-clause-function
returns-clause-function c = run-append

pub returns-clause-steady : goal.returns-clause-steady
returns-clause-steady c = λ denied uses changes top n s t h. SteadyRuns-Runs denied (Named uses) (Named changes) top n s t h

pub returns-clause-steady_relation : goal.returns-clause-steady_relation
returns-clause-steady_relation c = λ denied uses changes top n k s t u h j. SteadyRuns-append denied (Named uses) (Named changes) top n k s t u h j
