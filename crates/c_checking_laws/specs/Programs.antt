-- What the check accepts as a whole: a lawful program.
use Rattle.std.specs.Prelude.{◌≡◌, ◌≤◌, true, false, length, Ok}
use Rattle.c_tree.specs.declared.unit.Tree.{Tree}
use Rattle.c_tree.specs.Measure.{nodes}
use Rattle.core_tree.specs.declared.program.Typed.{Typed}
use Rattle.core_tree.specs.declared.program.Global.{Global}
use Rattle.core_tree.specs.LawfulCore.{Every, AreGlobals, LawfulTyped, rises}
use Rattle.c_checking.specs.declared.draft.Draft.{Draft}
use Rattle.c_checking.specs.Checked.{walked, core_of, with_main, checked}
use Rattle.c_numbering_laws.specs.Whole.{IsLawfulUnnumbered}
use Rattle.c_checking_laws.specs.Fitting.{tree_fits}

-- each variable of a source is an object, and each of its scalars begins with a value of its type, the null pointer or the
-- address of a place inside a variable that is declared by then
abbrev pub GlobalsOfSource : Tree → Draft → Type 0
GlobalsOfSource tree last =
    tree_fits tree ≡ true → walked tree ≡ Ok last → AreGlobals (core_of last) false 0 last.globals

-- each struct of a source is a node of it, and each function that it defines
abbrev pub FewOfSource : Tree → Draft → Type 0
FewOfSource tree last =
    walked tree ≡ Ok last → (length last.env.structs ≤ nodes tree) × (length last.functions ≤ nodes tree)

-- before each variable of a source stand the functions that are defined so far: no fewer than before the one in front of it, and
-- no more than in the end
abbrev pub GlobalsInOrder : Tree → Draft → Type 0
GlobalsInOrder tree last =
    walked tree ≡ Ok last → rises 0 last.globals × Every (λ (g : Global). g.before ≤ length last.functions) last.globals

-- what the walk makes of a source of at most 20,000 nodes, with `main`, is lawful but for the numbers of its nodes
abbrev pub WalkedIsLawful : Tree → Draft → Type 0
WalkedIsLawful tree last =
    tree_fits tree ≡ true → nodes tree ≤ 20000 → walked tree ≡ Ok last → with_main last ≡ Ok last
    → IsLawfulUnnumbered (core_of last)

-- what is accepted of a source of at most 20,000 nodes is lawful
abbrev pub AcceptedIsLawful : Tree → Typed → Type 0
AcceptedIsLawful tree typed =
    tree_fits tree ≡ true → nodes tree ≤ 20000 → checked tree ≡ Ok typed → LawfulTyped typed
