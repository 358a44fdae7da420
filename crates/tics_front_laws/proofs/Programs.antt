-- The program of a text is lawful, and meets only the rules.
use Rattle.std.proofs.Common.{◌≡◌, ℕ, false, List, Option, Some, None, Ok, refl, rules}
use Rattle.base16.specs.declared.reading.Reading.{Reading}
use Rattle.c_tree.specs.declared.unit.Tree.{Tree}
use Rattle.core_tree.specs.declared.program.Typed.{Typed}
use Rattle.c_checking.specs.declared.draft.Draft.{Draft}
use Rattle.c_checking.specs.Calls.{first_undefined}
use Rattle.c_checking.specs.Checked.{walked, with_definitions, checked}
use Rattle.c_checking_laws.proofs.FileScope.{then_is}
use Rattle.c_checking_laws.proofs.Programs.{accepted_lawful}
use Rattle.c_fitting_laws.proofs.Lexed.{source_fits}
use Rattle.c_soundness.proofs.Lawful.{meets_only_the_rules}
use Rattle.tics_front_laws.specs.Programs.{ProgramIsLawful, ProgramMeetsOnlyTheRules}

none_by : (line : Option ℕ) (d last : Draft) → with_definitions line d ≡ Ok last → line ≡ None
none_by None d last is = refl
none_by (Some line) d last is = absurd (search rules)

-- what is accepted calls only what it defines
calls_what_it_defines : (tree : Tree) (typed : Typed) → checked tree ≡ Ok typed → first_undefined tree ≡ None
unfolding checked
calls_what_it_defines tree typed is =
    let t = then_is (walked tree) _ typed is in
    let u = then_is (with_definitions (first_undefined tree) t.first) _ typed t.is_next in
    none_by (first_undefined tree) t.first u.first u.is_first

pub program_lawful : (text : List ℕ) (tree : Tree) (typed : Typed) → ProgramIsLawful text tree typed
program_lawful text tree typed is =
    let parsed = is.read.parsed in
    let fits = source_fits text tree parsed.tokens parsed.lexed.lexes parsed.spells (calls_what_it_defines tree typed is.is) in
    accepted_lawful tree typed fits is.read.few is.is

pub program_meets_only_the_rules : (text : List ℕ) (tree : Tree) (typed : Typed) (readings : List Reading) (s : ℕ)
    → ProgramMeetsOnlyTheRules text tree typed readings s
program_meets_only_the_rules text tree typed readings s is =
    meets_only_the_rules false typed.core (program_lawful text tree typed is) readings s
