-- What is answered of a lawful program is by the rules.
use Rattle.std.proofs.Common.{◌≡◌, ℕ, Bool, List, Result, Ok, Err, IfOk, subst, sym}
use Rattle.base16.specs.declared.reading.Reading.{Reading}
use Rattle.base16.specs.declared.name.NoMemory.{NoMemory}
use Rattle.core_tree.specs.declared.program.Core.{Core}
use Rattle.core_tree.specs.LawfulCore.{IsLawful}
use Rattle.c_meaning.specs.declared.outcome.CState.{CState}
use Rattle.c_meaning.specs.After.{after}
use Rattle.c_soundness.specs.Rules.{IsByTheRules}
use Rattle.c_soundness.proofs.Lawful.{meets_only_the_rules}

pub answers_by_the_rules : (annotated : Bool) (K : Core) (R : List Reading) (s : ℕ) (result : Result CState NoMemory)
    → IfOk result (λ state. state ≡ after K R s) → IsLawful annotated K → IfOk result (λ state. IsByTheRules K state)
answers_by_the_rules annotated K R s (Ok state) is fine =
    subst (λ (c : CState). IsByTheRules K c) (sym is) (meets_only_the_rules annotated K fine R s)
answers_by_the_rules annotated K R s (Err e) is fine = tt
