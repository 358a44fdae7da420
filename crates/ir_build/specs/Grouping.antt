-- The steps of statements behind others, and the groups of a `switch` with their steps.
use Rattle.std.specs.Prelude.{ℕ, List, [], ◌∷◌, ◌++◌, length}
use Rattle.core_tree.specs.declared.types.Slot.{Slot}
use Rattle.core_tree.specs.declared.types.Struct.{Struct}
use Rattle.core_tree.specs.declared.statements.Group.{Group, fold-Group}
use Rattle.ir.specs.declared.form.Step.{Step}
use Rattle.ir.specs.declared.form.StepKind.TheVariants as step
use Rattle.base16.specs.declared.integer.IntType.{IntType}
use Rattle.c_meaning.specs.Statements.{has_default}
use Rattle.ir_gen.specs.Code.{Code, at_node}
use Rattle.ir_gen.specs.Body.{Body, Grouped, bodies, cases, groups_at, place_of, stmt_layer}

-- a group with the steps of its statements
abbrev pub grouped : List Struct → List (List Slot) → Group → Grouped
grouped structs objects =
    fold-Group (ℕ → Body) Grouped Body (stmt_layer structs objects) (λ g. record { labels = g.labels; body = bodies g.body })
    (λ s. s.kind s.node)

-- the steps of a statement behind others
abbrev pub between : List Step → Body → ℕ → ℕ → List Step
between before s brk cont = before ++ s.steps (length before) brk cont

-- what stands before the groups of a `switch` that begins at a place
abbrev pub choosing : ℕ → IntType → Code → List Grouped → ℕ → List Step
choosing node t on groups p =
    on.steps p 0
    ++ (cases node t (groups_at p on groups) groups
    ++ (at_node node (step.Drop 0) ∷ at_node node (step.Jump (place_of has_default (groups_at p on groups) groups)) ∷ []))
