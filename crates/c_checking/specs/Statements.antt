-- What a statement is, or the first fault in it (C99 6.8).
use Rattle.std.specs.Prelude.{ℕ, ℤ, Bool, true, false, ◌||◌, if◌then◌else◌, map, List, [], ◌∷◌, ◌++◌, Option, Some, None, Result, Ok, Err}
use Rattle.std.specs.Ordering.{int_eq}
use Rattle.base16.specs.declared.integer.IntType.{IntType}
use Rattle.c_tree.specs.declared.expression.Expr.{Expr as Source}
use Rattle.c_tree.specs.declared.statements.First.{First}
use Rattle.c_tree.specs.declared.statements.First.TheVariants as first
use Rattle.c_tree.specs.declared.statements.Label.{Label}
use Rattle.c_tree.specs.declared.statements.Label.TheVariants as label
use Rattle.c_tree.specs.declared.statements.Statement.{Statement}
use Rattle.c_tree.specs.declared.statements.StatementKind.{StatementKind, fold-StatementKind}
use Rattle.c_tree.specs.declared.statements.BlockItem.{BlockItem, fold-BlockItem}
use Rattle.c_tree.specs.declared.statements.BlockItem.TheOpen.{BlockItem-F, StatementKind-F}
use Rattle.c_tree.specs.declared.statements.Compound.{Compound, fold-Compound}
use Rattle.core_tree.specs.declared.types.Ty.{Ty, out-Ty}
use Rattle.core_tree.specs.declared.types.Ty.TheOpen.{Ty-F}
use Rattle.core_tree.specs.declared.expressions.Expr.{Expr}
use Rattle.core_tree.specs.declared.statements.Stmt.{Stmt}
use Rattle.core_tree.specs.declared.statements.StmtKind.TheVariants as s
use Rattle.core_tree.specs.declared.statements.Group.{Group, roll-Group}
use Rattle.core_tree.specs.Layout.{int_type_of}
use Rattle.core_tree.specs.Rules.{promoted, is_scalar}
use Rattle.c_values.specs.Operators.{as_type}
use Rattle.c_typing.specs.declared.fault.Rule.{Rule}
use Rattle.c_typing.specs.declared.fault.Rule.TheVariants.{Twice, WrongType, NotConstant}
use Rattle.c_typing.specs.declared.environment.Env.{Env}
use Rattle.c_typing.specs.Outcome.{Outcome, at, broken, ◌>>=◌ as ◌>>=₁◌}
use Rattle.c_typing.specs.Values.{to_int}
use Rattle.c_typing.specs.TypeNames.{constant_of}
use Rattle.c_checking.specs.Walk.{Walk, ◌>>=◌, pure, reading, break_at, scoped, one_by_one, single}
use Rattle.c_checking.specs.Declarators.{value_of, converted_value}
use Rattle.c_checking.specs.Locals.{statement_at, locals}

-- ---- expressions in statements, judged at the statement's line

-- any value, of type `void` too
abbrev pub some_value : Option Expr → Result Expr Rule
some_value None = Err WrongType
some_value (Some e) = Ok e

unfoldable pub any_of : Env → ℕ → Source → Outcome Expr
any_of env line e = value_of env e >>=₁ λ v. at line (some_value v)

-- an integer or a pointer
abbrev pub tested : Option Expr → Result Expr Rule
tested None = Err WrongType
tested (Some e) = if is_scalar e.ty then Ok e else Err WrongType

unfoldable pub test_of : Env → ℕ → Source → Outcome Expr
test_of env line e = value_of env e >>=₁ λ v. at line (tested v)

-- the value that a function returns, converted to its result
unfoldable pub result_of : Env → ℕ → Source → Outcome Expr
result_of env line e = value_of env e >>=₁ λ v. at line (some_value (converted_value env.result v))

abbrev pub if_some : {A B : Type 0} → (A → Walk B) → Option A → Walk (Option B)
if_some walk None = pure None
if_some walk (Some a) = walk a >>= λ b. pure (Some b)

abbrev pub any_value : ℕ → Source → Walk Expr
any_value line e = reading (λ env. any_of env line e)

abbrev pub test : ℕ → Source → Walk Expr
test line e = reading (λ env. test_of env line e)

-- ---- `switch`

abbrev pub promoted_by : Expr → Ty-F Ty → Result Expr Rule
promoted_by e (Ty-F.Num t) = Ok (to_int t (promoted t) e)
promoted_by e _ = Err WrongType

abbrev pub promoted_value : Option Expr → Result Expr Rule
promoted_value None = Err WrongType
promoted_value (Some e) = promoted_by e (out-Ty e.ty)

-- an integer, promoted
unfoldable pub switched : Env → ℕ → Source → Outcome Expr
switched env line e = value_of env e >>=₁ λ v. at line (promoted_value v)

abbrev pub same_label : Option ℤ → Option ℤ → Bool
same_label None None = true
same_label (Some m) (Some n) = int_eq m n
same_label _ _ = false

abbrev pub stands_in : List (Option ℤ) → Option ℤ → Bool
stands_in [] l = false
stands_in (m ∷ more) l = same_label m l || stands_in more l

abbrev pub case_value : IntType → Option ℤ → Result ℤ Rule
case_value t None = Err NotConstant
case_value t (Some n) = Ok (as_type t n)

-- a label that stands among those before it
abbrev pub once : ℕ → List (Option ℤ) → Option ℤ → Outcome (Option ℤ)
once line before l = if stands_in before l then broken Twice line else Ok l

-- a case label has a constant, converted to the type of the `switch`; that it stands twice is told at its line, of a second
-- `default` at the line of the `switch`
unfoldable pub label_of : Env → ℕ → IntType → List (Option ℤ) → Label → Outcome (Option ℤ)
label_of env line t before label.Default = once line before None
label_of env line t before (label.Case e) =
    value_of env e >>=₁ λ v. at e.line (case_value t (constant_of v)) >>=₁ λ n. once e.line before (Some n)

-- the labels of a group, behind those before it
abbrev pub labels_of : Env → ℕ → IntType → List (Option ℤ) → List Label → Outcome (List (Option ℤ))
labels_of env line t before [] = Ok []
labels_of env line t before (l ∷ more) =
    label_of env line t before l >>=₁ λ x. labels_of env line t (before ++ x ∷ []) more >>=₁ λ xs. Ok (x ∷ xs)

-- a group of a `switch` as a part of it
pub record GroupPart : Type 0 where
  pub labels : List Label
  pub body : Walk (List Stmt)

abbrev pub group_of : List (Option ℤ) → List Stmt → Group
group_of labels body = roll-Group (record { labels = labels; body = body })

abbrev pub groups_of : ℕ → IntType → List (Option ℤ) → List GroupPart → Walk (List Group)
groups_of line t before [] = pure []
groups_of line t before (g ∷ more) = do
  labels ← reading (λ env. labels_of env line t before g.labels)
  body ← g.body
  groups ← groups_of line t (before ++ labels) more
  pure (group_of labels body ∷ groups)

-- ---- each kind of statement

unfoldable pub block_stmt : ℕ → Walk (List Stmt) → Walk Stmt
block_stmt line body = scoped body >>= λ all. pure (statement_at line (s.Block all))

unfoldable pub expr_stmt : ℕ → Source → Walk Stmt
expr_stmt line e = any_value line e >>= λ x. pure (statement_at line (s.Expr x))

unfoldable pub if_stmt : ℕ → Source → Walk Stmt → Option (Walk Stmt) → Walk Stmt
if_stmt line e one other = do
  t ← test line e
  a ← one
  b ← if_some (λ walk. walk) other
  pure (statement_at line (s.If t a b))

unfoldable pub while_stmt : ℕ → Source → Walk Stmt → Walk Stmt
while_stmt line e body = do
  t ← test line e
  b ← body
  pure (statement_at line (s.While t b))

unfoldable pub do_stmt : ℕ → Walk Stmt → Source → Walk Stmt
do_stmt line body e = do
  b ← body
  t ← test line e
  pure (statement_at line (s.Do b t))

unfoldable pub first_of : ℕ → First → Walk (Option Stmt)
first_of line (first.Expr e) = if_some (expr_stmt line) e
first_of line (first.Declaration d) = locals d >>= λ all. pure (Some (statement_at line (s.Block all)))

-- what a `for` declares ends with it
unfoldable pub for_stmt : ℕ → First → Option Source → Option Source → Walk Stmt → Walk Stmt
for_stmt line begin controlling step body = scoped (do
  f ← first_of line begin
  t ← if_some (test line) controlling
  e ← if_some (any_value line) step
  b ← body
  pure (statement_at line (s.For f t e b)))

unfoldable pub switch_stmt : ℕ → Source → List GroupPart → Walk Stmt
switch_stmt line e groups = do
  on ← reading (λ env. switched env line e)
  all ← groups_of line (int_type_of on.ty) [] groups
  pure (statement_at line (s.Switch on all))

abbrev pub no_result : ℕ → Ty-F Ty → Walk Stmt
no_result line Ty-F.Void = pure (statement_at line (s.Return None))
no_result line _ = break_at WrongType line

unfoldable pub return_stmt : ℕ → Option Source → Walk Stmt
return_stmt line None = λ env. no_result line (out-Ty env.result) env
return_stmt line (Some e) = reading (λ env. result_of env line e) >>= λ x. pure (statement_at line (s.Return (Some x)))

-- a source with annotations is not checked yet
abbrev pub not_yet : {A : Type 0} → ℕ → Walk A
not_yet line = break_at WrongType line

-- ---- statements

abbrev pub kind_step : StatementKind-F (Walk (List Stmt)) (ℕ → Walk Stmt) (Walk (List Stmt)) GroupPart (Walk Stmt) → ℕ
    → Walk Stmt
kind_step (StatementKind-F.Compound body) line = block_stmt line body
kind_step (StatementKind-F.Expr None) line = pure (statement_at line (s.Block []))
kind_step (StatementKind-F.Expr (Some e)) line = expr_stmt line e
kind_step (StatementKind-F.If e one other) line = if_stmt line e one other
kind_step (StatementKind-F.While e body) line = while_stmt line e body
kind_step (StatementKind-F.Do body e) line = do_stmt line body e
kind_step (StatementKind-F.For begin controlling step body) line = for_stmt line begin controlling step body
kind_step (StatementKind-F.Switch e groups) line = switch_stmt line e groups
kind_step StatementKind-F.Break line = pure (statement_at line s.Break)
kind_step StatementKind-F.Continue line = pure (statement_at line s.Continue)
kind_step (StatementKind-F.Return e) line = return_stmt line e
kind_step (StatementKind-F.Stamped place from) line = not_yet line
kind_step (StatementKind-F.Timely place limit one other) line = not_yet line
kind_step (StatementKind-F.Expires names body caught) line = not_yet line

abbrev pub item_step : BlockItem-F (Walk (List Stmt)) (ℕ → Walk Stmt) (Walk (List Stmt)) GroupPart (Walk Stmt)
    → Walk (List Stmt)
item_step (BlockItem-F.Declaration d) = locals d
item_step (BlockItem-F.Statement x) = single x

abbrev pub statement_kind : StatementKind → ℕ → Walk Stmt
statement_kind = fold-StatementKind (Walk (List Stmt)) (ℕ → Walk Stmt) (Walk (List Stmt)) GroupPart (Walk Stmt)
    item_step kind_step (λ c. one_by_one c.items)
    (λ g. record { labels = g.labels; body = one_by_one (map single g.statements) }) (λ x. x.kind x.line)

abbrev pub statement : Statement → Walk Stmt
statement x = statement_kind x.kind x.line

abbrev pub block_item : BlockItem → Walk (List Stmt)
block_item = fold-BlockItem (Walk (List Stmt)) (ℕ → Walk Stmt) (Walk (List Stmt)) GroupPart (Walk Stmt)
    item_step kind_step (λ c. one_by_one c.items)
    (λ g. record { labels = g.labels; body = one_by_one (map single g.statements) }) (λ x. x.kind x.line)

-- what stands in braces
abbrev pub compound : Compound → Walk (List Stmt)
compound = fold-Compound (Walk (List Stmt)) (ℕ → Walk Stmt) (Walk (List Stmt)) GroupPart (Walk Stmt)
    item_step kind_step (λ c. one_by_one c.items)
    (λ g. record { labels = g.labels; body = one_by_one (map single g.statements) }) (λ x. x.kind x.line)
