-- What a text is that is a program by the rules of the language: a lawful program, which meets only the rules of undefined
-- behaviour.
use Rattle.std.specs.Prelude.{ℕ, List}
use Rattle.base16.specs.declared.reading.Reading.{Reading}
use Rattle.c_tree.specs.declared.unit.Tree.{Tree}
use Rattle.core_tree.specs.declared.program.Typed.{Typed}
use Rattle.core_tree.specs.LawfulCore.{LawfulTyped}
use Rattle.c_soundness.specs.Rules.{MeetsOnlyTheRules}
use Rattle.tics_front.specs.Source.{IsTyped}

-- the program of a text is lawful
abbrev pub ProgramIsLawful : List ℕ → Tree → Typed → Type 0
ProgramIsLawful text tree typed = IsTyped text tree typed → LawfulTyped typed

-- its run on these readings, up to a number of marks, is undefined only where a rule is broken at one of its nodes
abbrev pub ProgramMeetsOnlyTheRules : List ℕ → Tree → Typed → List Reading → (s : ℕ) → Type 0
ProgramMeetsOnlyTheRules text tree typed readings s = IsTyped text tree typed → MeetsOnlyTheRules typed.core readings s
