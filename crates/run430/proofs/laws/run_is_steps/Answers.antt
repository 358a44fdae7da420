use Rattle.std.proofs.Common.{◌≡◌, true, false, sym, ◌∙◌}
use Rattle.run430.proofs.Compose.{Runs-run, run-Runs, Runs-words, Runs-kept}
use Rattle.run430.specs.Run.{Named}
use Rattle.run430.proofs.laws.run_is_steps.Goals as goal

pub returns-clause-leads : goal.returns-clause-leads
returns-clause-leads c = λ denied uses changes n s t h. Runs-run denied (Named uses) (Named changes) n s t h

pub returns-clause-back : goal.returns-clause-back
returns-clause-back c = run-Runs

pub returns-clause-words : goal.returns-clause-words
returns-clause-words c = λ denied uses changes n s t hr hm h. Runs-words denied (Named uses) (Named changes) n s t hr hm h

pub returns-clause-kept : goal.returns-clause-kept
returns-clause-kept c = λ denied uses changes n s t b hr hm h f. Runs-kept denied (Named uses) (Named changes) n s t b hr hm h (λ w. differ (sym w ∙ f))
  where
    differ : true ≡ false → ⊥
    differ e = cc
