-- A lawful program meets only the rules: for all readings and every number of marks.
use Rattle.std.proofs.Common.{length, ◌<◌, ◌≡◌, ℕ, zero, suc, ◌≤◌, Bool, true, List, [], slice_get, Option, sym, subst, arith, tests}
use Rattle.base16.specs.declared.reading.Reading.{Reading}
use Rattle.core_tree.specs.declared.program.Core.{Core}
use Rattle.core_tree.specs.LawfulCore.{IsLawful}
use Rattle.core_tree.specs.Numbers.{core_numbers}
use Rattle.c_run.specs.Runs.{Run, Stop, Live, Ended, NeedsReading, Undefined, Wrong, Outcome}
use Rattle.c_meaning.specs.After.{main_in, main_run, main_of, start_run, stop_of, stop_at, shown}
use Rattle.c_soundness.specs.Rules.{IsByTheRules, MeetsOnlyTheRules}
use Rattle.c_soundness.specs.Standing.{Stands}
use Rattle.c_soundness.proofs.Triples.{is_rule, ByRules, Sound, goes_on, stops, Triple}
use Rattle.c_soundness.proofs.Calls.{t_main}
use Rattle.c_soundness.proofs.Programs.{whole_of, sane_of, main_there, start_stands}

rule_bounds : (core : Core) (n node : ℕ) → is_rule n ≡ true → node < length (core_numbers core)
    → (1 ≤ n) × (n ≤ 12) × (node < length (core_numbers core))
rule_bounds core n node h own = (grind (arith, tests), grind (arith, tests), own)

shown_by : (core : Core) (s : Stop) → ByRules (length (core_numbers core)) s → IsByTheRules core (shown s)
shown_by core (Live s used) h = tt
shown_by core (Ended kind s used) h = tt
shown_by core NeedsReading h = tt
shown_by core (Undefined rule node) h = rule_bounds core rule node h.0 h.1
shown_by core Wrong h = absurd h

stop_by : (core : Core) (readings : List Reading) (W : Run → Type 0) (o : Outcome (Unit {0}))
    → Sound (length (core_numbers core)) W (λ _. ⊥) o → IsByTheRules core (shown (stop_of core readings o))
stop_by core readings W _ (goes_on h w) = absurd h
stop_by core readings W _ (stops {st} h) = shown_by core st h

pub meets_only_the_rules : (annotated : Bool) (core : Core) → IsLawful annotated core → (readings : List Reading) (s : ℕ)
    → MeetsOnlyTheRules core readings s
unfolding stop_at main_run
meets_only_the_rules annotated core lawful readings zero = tt
meets_only_the_rules annotated core lawful readings (suc n) =
    let many : ℕ = length (core_numbers core) in
    let found = main_there annotated core lawful in
    let run : Triple many (Stands [] (suc n)) (Stands [] n) (λ _. ⊥)
    (main_in core readings found.number (slice_get core.functions found.number)) =
    t_main many core (whole_of annotated core lawful) (sane_of annotated core lawful) readings found.number found.function
    found.there found.none n in
    let at_main : Triple many (Stands [] (suc n)) (Stands [] n) (λ _. ⊥) (main_run core readings (main_of core)) =
    subst (λ (o : Option ℕ). Triple many (Stands [] (suc n)) (Stands [] n) (λ _. ⊥) (main_run core readings o))
    (sym found.first) run in
    stop_by core readings (Stands [] n) (main_run core readings (main_of core) (start_run core readings n))
    (at_main.runs (start_run core readings n) (start_stands annotated core lawful readings n))
