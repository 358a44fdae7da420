-- A program whose meaning is asked for meets only the rules.
use Rattle.std.proofs.Common.{ℕ, List, Option, Some, None}
use Rattle.std.specs.Prelude.{IsSomeAnd}
use Rattle.base16.specs.declared.reading.Reading.{Reading}
use Rattle.edge.specs.Told.{Drive}
use Rattle.c_tree.specs.declared.unit.Tree.{Tree}
use Rattle.core_tree.specs.declared.program.Typed.{Typed}
use Rattle.c_soundness.specs.Rules.{MeetsOnlyTheRules}
use Rattle.tics_front.specs.Source.{IsTyped}
use Rattle.tics_front_laws.proofs.Programs.{program_meets_only_the_rules}
use Rattle.tics_meaning.specs.Meant.{meaning_marks}
use Rattle.tics_call.specs.Command.{Order, Run, Meaning}
use Rattle.tics_call.specs.Outcome.{MeaningsAreByTheRules}

-- the program of a file that is there
of_file : (file : Option (List ℕ)) (tree : Tree) (typed : Typed) (readings : List Reading)
    → IsSomeAnd file (λ text. IsTyped text tree typed) → MeetsOnlyTheRules typed.core readings meaning_marks
of_file None tree typed readings is = absurd is
of_file (Some text) tree typed readings is = program_meets_only_the_rules text tree typed readings meaning_marks is

pub meanings_by_the_rules : (files : Option Drive) (command : Option Order) → MeaningsAreByTheRules files command
meanings_by_the_rules None command typed readings asked = tt
meanings_by_the_rules (Some drive) None typed readings asked = absurd asked
meanings_by_the_rules (Some drive) (Some (Run names)) typed readings asked = absurd asked
meanings_by_the_rules (Some drive) (Some (Meaning names)) typed readings asked =
    of_file (drive names.0) asked.program.tree typed readings asked.program.source
