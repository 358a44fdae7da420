-- The steps of a form for statements and functions.
use Rattle.std.specs.Prelude.{ℕ, suc, ◌+◌, nat_eq, ℤ, pos, Bool, true, false, if◌then◌else◌, List, [], ◌∷◌, ◌++◌, map, get_or, Option, Some, None}
use Rattle.base16.specs.declared.image.Kind.{Kind}
use Rattle.base16.specs.declared.image.Kind.TheVariants as kind
use Rattle.base16.specs.declared.integer.IntType.{IntType}
use Rattle.core_tree.specs.declared.expressions.Expr.{Expr}
use Rattle.core_tree.specs.declared.statements.Stmt.{Stmt}
use Rattle.core_tree.specs.declared.statements.StmtKind.{StmtKind, fold-StmtKind}
use Rattle.core_tree.specs.declared.statements.StmtKind.TheOpen.{StmtKind-F}
use Rattle.core_tree.specs.declared.statements.Init.{Init}
use Rattle.core_tree.specs.declared.types.Struct.{Struct}
use Rattle.core_tree.specs.declared.types.Slot.{Slot}
use Rattle.core_tree.specs.Layout.{int_type_of}
use Rattle.c_meaning.specs.Statements.{has_default}
use Rattle.ir.specs.declared.form.Base.TheVariants as base
use Rattle.ir.specs.declared.form.Operand.{Operand}
use Rattle.ir.specs.declared.form.Operand.TheVariants as operand
use Rattle.ir.specs.declared.form.Target.TheVariants as target
use Rattle.ir.specs.declared.form.Keep.TheVariants as keep
use Rattle.ir.specs.declared.form.Step.{Step}
use Rattle.ir.specs.declared.form.StepKind.{StepKind}
use Rattle.ir.specs.declared.form.StepKind.TheVariants as step
use Rattle.ir_gen.specs.Code.{Code, at_node, expr, unless}

-- the steps of a statement, by their first place and where `break` and `continue` go
pub record Body : Type 0 where
  pub size : ℕ
  pub steps : (p brk cont : ℕ) → List Step

-- a test, which goes on behind it or to the other place
pub record Guard : Type 0 where
  pub size : ℕ
  pub steps : (p other : ℕ) → List Step

-- steps that leave nothing
pub record Part : Type 0 where
  pub size : ℕ
  pub steps : ℕ → List Step

abbrev pub no_body : Body
no_body = record { size = 0; steps = λ p brk cont. [] }

abbrev pub one_body : ℕ → (ℕ → ℕ → ℕ → StepKind) → Body
one_body node k = record { size = 1; steps = λ p brk cont. at_node node (k p brk cont) ∷ [] }

abbrev pub then_body : Body → Body → Body
then_body a b = record { size = a.size + b.size; steps = λ p brk cont. a.steps p brk cont ++ b.steps (p + a.size) brk cont }

abbrev pub guard : ℕ → IntType → Code → Guard
guard node t c = record { size = c.size + 1; steps = λ p other. c.steps p 0 ++ at_node node (unless t other 0) ∷ [] }

abbrev pub no_guard : Guard
no_guard = record { size = 0; steps = λ p other. [] }

-- an expression, and a step that takes its value and leaves nothing
abbrev pub taken_by : ℕ → StepKind → Code → Part
taken_by node k c = record { size = c.size + 1; steps = λ p. c.steps p 0 ++ at_node node k ∷ [] }

-- an expression whose value is not wanted
abbrev pub dropped : ℕ → Code → Part
dropped node c = taken_by node (step.Drop 0) c

abbrev pub no_part : Part
no_part = record { size = 0; steps = λ p. [] }

abbrev pub one_part : ℕ → StepKind → Part
one_part node k = record { size = 1; steps = λ p. at_node node k ∷ [] }

abbrev pub then_part : Part → Part → Part
then_part a b = record { size = a.size + b.size; steps = λ p. a.steps p ++ b.steps (p + a.size) }

abbrev pub part_body : Part → Body
part_body c = record { size = c.size; steps = λ p brk cont. c.steps p }

abbrev pub if_body : ℕ → Guard → Body → Body → Body
if_body node g one other = record {
  size = g.size + (one.size + (1 + other.size));
  steps = λ p brk cont. g.steps p (p + g.size + one.size + 1)
      ++ (one.steps (p + g.size) brk cont
      ++ (at_node node (step.Jump (p + g.size + one.size + 1 + other.size))
      ∷ other.steps (p + g.size + one.size + 1) brk cont));
}

-- a turn, the test, the body, the part behind it, and back to the turn
abbrev pub loop_body : ℕ → Guard → Body → Part → Body
loop_body node g body part = record {
  size = 1 + (g.size + (body.size + (part.size + 1)));
  steps = λ p brk cont. at_node node step.Turn
      ∷ (g.steps (p + 1) (p + 1 + g.size + body.size + part.size + 1)
      ++ (body.steps (p + 1 + g.size) (p + 1 + g.size + body.size + part.size + 1) (p + 1 + g.size + body.size)
      ++ (part.steps (p + 1 + g.size + body.size)
      ++ at_node node (step.Jump p) ∷ [])));
}

-- the same, begun at its body
abbrev pub do_body : ℕ → Guard → Body → Body
do_body node g body =
    then_body (one_body node (λ p brk cont. step.Jump (p + 1 + 1 + g.size))) (loop_body node g body no_part)

abbrev pub bodies : List Body → Body
bodies [] = no_body
bodies (b ∷ bs) = then_body b (bodies bs)

abbrev pub optional_body : Option Body → Body
optional_body None = no_body
optional_body (Some b) = b

-- ---- switch: a step for each label, one to the default or behind the whole, and the groups in order

pub record Grouped : Type 0 where
  pub labels : List (Option ℤ)
  pub body : Body

abbrev pub groups_body : List Grouped → Body
groups_body [] = no_body
groups_body (g ∷ gs) = then_body g.body (groups_body gs)

-- the place of the first group whose labels pass, where the groups stand from a place on; else that behind them
abbrev pub place_of : (List (Option ℤ) → Bool) → ℕ → List Grouped → ℕ
place_of passes p [] = p
place_of passes p (g ∷ gs) = if passes g.labels then p else place_of passes (p + g.body.size) gs

abbrev pub label_cases : ℕ → IntType → ℕ → List (Option ℤ) → List Step
label_cases node t to [] = []
label_cases node t to (None ∷ ls) = label_cases node t to ls
label_cases node t to (Some n ∷ ls) = at_node node (step.Case 0 t n to) ∷ label_cases node t to ls

abbrev pub cases : ℕ → IntType → ℕ → List Grouped → List Step
cases node t p [] = []
cases node t p (g ∷ gs) = label_cases node t p g.labels ++ cases node t (p + g.body.size) gs

abbrev pub label_count : List (Option ℤ) → ℕ
label_count [] = 0
label_count (None ∷ ls) = label_count ls
label_count (Some n ∷ ls) = suc (label_count ls)

abbrev pub case_count : List Grouped → ℕ
case_count [] = 0
case_count (g ∷ gs) = label_count g.labels + case_count gs

-- where the groups stand, and what is behind them
abbrev pub groups_at : ℕ → Code → List Grouped → ℕ
groups_at p on groups = p + on.size + case_count groups + 1 + 1

abbrev pub groups_end : ℕ → Code → List Grouped → ℕ
groups_end p on groups = groups_at p on groups + (groups_body groups).size

abbrev pub switch_body : ℕ → IntType → Code → List Grouped → Body
switch_body node t on groups = record {
  size = on.size + (case_count groups + (1 + (1 + (groups_body groups).size)));
  steps = λ p brk cont. on.steps p 0
      ++ (cases node t (groups_at p on groups) groups
      ++ (at_node node (step.Drop 0)
      ∷ (at_node node (step.Jump (place_of has_default (groups_at p on groups) groups))
      ∷ (groups_body groups).steps (groups_at p on groups) (groups_end p on groups) cont)));
}

-- ---- initialisers: the objects of a function are known by their scalars

abbrev pub kind_in : ℕ → List Slot → Kind
kind_in offset [] = kind.Int
kind_in offset (s ∷ ss) = if nat_eq s.offset offset then s.kind else kind_in offset ss

-- the kind of a scalar of a local
abbrev pub local_kind : List (List Slot) → ℕ → ℕ → Kind
local_kind objects n offset = kind_in offset (get_or objects n [])

abbrev pub zero_of : Kind → Operand
zero_of kind.Pointer = operand.Null
zero_of _ = operand.Constant (pos 0)

abbrev pub init_step : ℕ → ℕ → Kind → Bool → Operand → StepKind
init_step n offset k true x = step.Store 0 (target.Known (base.Local n) offset) k x keep.Nothing
init_step n offset k false x = step.StoreLocal 0 n offset k x keep.Nothing

module _ (structs : List Struct) (objects : List (List Slot)) where
  abbrev pub init_value : ℕ → ℕ → ℕ → Bool → Option Expr → Part
  init_value node n offset marked None =
      one_part node (init_step n offset (local_kind objects n offset) marked (zero_of (local_kind objects n offset)))
  init_value node n offset marked (Some e) =
      taken_by node (init_step n offset (local_kind objects n offset) marked operand.Temporary) (expr structs e)

  abbrev pub init_parts : ℕ → ℕ → List Init → Part
  init_parts node n [] = no_part
  init_parts node n (i ∷ is) = then_part (init_value node n i.offset i.marked i.value) (init_parts node n is)

  -- a local is declared: without initialiser its scalars are undefined
  abbrev pub declare_part : ℕ → ℕ → List Init → Part
  declare_part node n [] = one_part node (step.Undefine n)
  declare_part node n (i ∷ is) = init_parts node n (i ∷ is)

  -- ---- one layer

  abbrev pub test_guard : ℕ → Expr → Guard
  test_guard node e = guard node (int_type_of e.ty) (expr structs e)

  abbrev pub optional_guard : ℕ → Option Expr → Guard
  optional_guard node None = no_guard
  optional_guard node (Some e) = test_guard node e

  abbrev pub optional_part : ℕ → Option Expr → Part
  optional_part node None = no_part
  optional_part node (Some e) = dropped node (expr structs e)

  -- the annotated statements come with their own definitions
  abbrev pub stmt_layer : StmtKind-F (ℕ → Body) Grouped Body → ℕ → Body
  stmt_layer (StmtKind-F.Expr e) node = part_body (dropped node (expr structs e))
  stmt_layer (StmtKind-F.Block all) node = bodies all
  stmt_layer (StmtKind-F.If test one other) node = if_body node (test_guard node test) one (optional_body other)
  stmt_layer (StmtKind-F.While test body) node = loop_body node (test_guard node test) body no_part
  stmt_layer (StmtKind-F.Do body test) node = do_body node (test_guard node test) body
  stmt_layer (StmtKind-F.For begin test part body) node =
      then_body (optional_body begin) (loop_body node (optional_guard node test) body (optional_part node part))
  stmt_layer (StmtKind-F.Switch on groups) node = switch_body node (int_type_of on.ty) (expr structs on) groups
  stmt_layer StmtKind-F.Break node = one_body node (λ p brk cont. step.Jump brk)
  stmt_layer StmtKind-F.Continue node = one_body node (λ p brk cont. step.Jump cont)
  stmt_layer (StmtKind-F.Return None) node = one_body node (λ p brk cont. step.ReturnNothing)
  stmt_layer (StmtKind-F.Return (Some e)) node = part_body (taken_by node (step.Return 0 operand.Temporary) (expr structs e))
  stmt_layer (StmtKind-F.Stamped place value) node = no_body
  stmt_layer (StmtKind-F.Timely place limit one other) node = no_body
  stmt_layer (StmtKind-F.Expires names body caught) node = no_body
  stmt_layer (StmtKind-F.Declare n init) node = part_body (declare_part node n init)

  abbrev pub stmt_kind : StmtKind → ℕ → Body
  stmt_kind = fold-StmtKind (ℕ → Body) Grouped Body stmt_layer (λ g. record { labels = g.labels; body = bodies g.body })
      (λ s. s.kind s.node)

  -- the steps of a statement
  abbrev pub stmt : Stmt → Body
  stmt s = stmt_kind s.kind s.node

  abbrev pub stmts : List Stmt → Body
  stmts ss = bodies (map stmt ss)

  -- ---- a function: its entry, its statements, and what stands behind them; `main` gives 0 at its end

  abbrev pub end_step : Bool → StepKind
  end_step true = step.Return 0 (operand.Constant (pos 0))
  end_step false = step.ReturnNothing

  abbrev pub function_steps : (is_main : Bool) → (params node : ℕ) → List Stmt → List Step
  function_steps is_main params node ss =
      at_node node (step.Enter params)
      ∷ ((stmts ss).steps 1 (1 + (stmts ss).size) (1 + (stmts ss).size) ++ at_node node (end_step is_main) ∷ [])
