-- Steps that stand behind others, and parts of locals as they are found.
use Rattle.std.specs.Prelude.{ℕ, ◌+◌, pos, Bool, true, false, List, [], ◌∷◌, ◌++◌, length, Option, Some, None}
use Rattle.base16.specs.declared.image.Kind.{Kind}
use Rattle.base16.specs.declared.integer.IntType.{IntType}
use Rattle.ir.specs.declared.form.StepKind.{StepKind}
use Rattle.core_tree.specs.declared.types.Struct.{Struct}
use Rattle.core_tree.specs.declared.expressions.Expr.{Expr}
use Rattle.ir.specs.declared.form.Step.{Step}
use Rattle.ir.specs.declared.form.StepKind.TheVariants as step
use Rattle.ir.specs.declared.form.Operand.TheVariants as operand
use Rattle.ir.specs.declared.form.Operation.{Operation}
use Rattle.ir.specs.declared.form.Keep.{Keep}
use Rattle.ir.specs.declared.form.Keep.TheVariants as keep
use Rattle.ir_gen.specs.Code.{Code, Coded, Part, at_node, expr, store_step, unless}
use Rattle.ir_build.specs.declared.parts.Part.{Part as Found}

-- the steps of a code behind others, at a depth
abbrev pub behind : List Step → Code → ℕ → List Step
behind before c d = before ++ c.steps (length before) d

-- an expression as an argument
abbrev pub coded : List Struct → Expr → Coded
coded structs e = record { ty = e.ty; code = expr structs e }

-- the part of a local that was found
abbrev pub one_part : Found → Part
one_part q = record { local = q.local; offset = q.offset }

abbrev pub part_in : Option Found → Option Part
part_in None = None
part_in (Some q) = Some (one_part q)

abbrev pub is_some : {A : Type 0} → Option A → Bool
is_some None = false
is_some (Some x) = true

-- the end of an update with a mark, and of one without: what is computed, and the store
abbrev pub update_end : ℕ → Kind → Operation → Bool → ℕ → List Step
update_end node k o false d =
    at_node node (step.Binary (d + 1) o operand.Temporary operand.Temporary) ∷ at_node node (store_step k keep.Stored d) ∷ []
update_end node k o true d = at_node node (step.Beside (d + 1) o) ∷ at_node node (store_step k keep.Before d) ∷ []

abbrev pub stored_local : ℕ → Part → Kind → Keep → ℕ → Step
stored_local node q k keeps d = at_node node (step.StoreLocal d q.local q.offset k operand.Temporary keeps)

abbrev pub local_end : ℕ → Part → Kind → Operation → Bool → ℕ → List Step
local_end node q k o false d =
    at_node node (step.Binary d o operand.Temporary operand.Temporary) ∷ stored_local node q k keep.Stored d ∷ []
local_end node q k o true d = at_node node (step.Beside d o) ∷ stored_local node q k keep.Before d ∷ []

-- ---- parts with a step behind them that is the same at every place

abbrev pub one_step : ℕ → StepKind → List Step
one_step node k = at_node node k ∷ []

abbrev pub then_one : Code → ℕ → StepKind → Code
then_one c node k = record { size = c.size + 1; steps = λ p d. c.steps p d ++ one_step node k }

-- what stands behind the arguments of a call
abbrev pub call_end : ℕ → ℕ → ℕ → ℕ → List Step
call_end node function n d = at_node node (step.Call d function n) ∷ at_node node (step.Result d true) ∷ []

-- the last steps of `&&`, and the first ones of `||`
abbrev pub and_end : ℕ → IntType → ℕ → ℕ → List Step
and_end node own end d =
    at_node node (step.Truth d own operand.Temporary)
    ∷ at_node node (step.Jump end) ∷ at_node node (step.Put d (operand.Constant (pos 0))) ∷ []

abbrev pub or_begin : ℕ → IntType → ℕ → ℕ → ℕ → List Step
or_begin node t to end d =
    at_node node (unless t to d) ∷ at_node node (step.Put d (operand.Constant (pos 1))) ∷ at_node node (step.Jump end) ∷ []

-- behind a part that gives a value or a place: an expression above that and a step
abbrev pub above_one : Code → ℕ → StepKind → (p d : ℕ) → List Step
above_one c node k p d = c.steps p (d + 1) ++ one_step node k

-- `&&` and `||` behind their left sides
abbrev pub and_behind : ℕ → (t own : IntType) → Code → (p d : ℕ) → List Step
and_behind node t own right p d =
    at_node node (unless t (p + 1 + (right.size + 1) + 1) d)
    ∷ (right.steps (p + 1) d ++ and_end node own (p + 1 + (right.size + 1) + 1 + 1) d)

abbrev pub or_behind : ℕ → (t own : IntType) → Code → (p d : ℕ) → List Step
or_behind node t own right p d =
    or_begin node t (p + 1 + 1 + 1) (p + 1 + 1 + 1 + (right.size + 1)) d
    ++ (right.steps (p + 1 + 1 + 1) d ++ one_step node (step.Truth d own operand.Temporary))

-- an update with a mark behind its place
abbrev pub update_behind : ℕ → Kind → Operation → Code → Bool → (p d : ℕ) → List Step
update_behind node k o value old p d =
    at_node node (step.Peek d k) ∷ (value.steps (p + 1) (d + 2) ++ update_end node k o old d)
