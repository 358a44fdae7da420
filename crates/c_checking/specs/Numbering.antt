-- The numbers of the nodes of a program: in the order of the text from 0, a node before its parts.
use Rattle.std.specs.Prelude.{ℕ, ◌+◌, map, get_or, List, [], ◌∷◌, Option, Some, None}
use Rattle.core_tree.specs.declared.expressions.Expr.{Expr}
use Rattle.core_tree.specs.declared.expressions.Place.{Place}
use Rattle.core_tree.specs.declared.expressions.ExprKind.{ExprKind, fold-ExprKind}
use Rattle.core_tree.specs.declared.expressions.PlaceKind.{PlaceKind, fold-PlaceKind}
use Rattle.core_tree.specs.declared.expressions.ExprKind.TheVariants as k
use Rattle.core_tree.specs.declared.expressions.PlaceKind.TheVariants as pk
use Rattle.core_tree.specs.declared.expressions.ExprKind.TheOpen.{ExprKind-F, PlaceKind-F}
use Rattle.core_tree.specs.declared.statements.Stmt.{Stmt}
use Rattle.core_tree.specs.declared.statements.StmtKind.{StmtKind, fold-StmtKind}
use Rattle.core_tree.specs.declared.statements.StmtKind.TheVariants as s
use Rattle.core_tree.specs.declared.statements.StmtKind.TheOpen.{StmtKind-F}
use Rattle.core_tree.specs.declared.statements.Group.{Group, roll-Group}
use Rattle.core_tree.specs.declared.statements.Init.{Init}
use Rattle.core_tree.specs.declared.program.Function.{Function}
use Rattle.core_tree.specs.declared.program.Global.{Global}
use Rattle.core_tree.specs.declared.program.Core.{Core}

-- ---- a part with its nodes numbered from a number on, and the next number

abbrev pub Numbered : Type 0 → Type 0
Numbered A = ℕ → A × ℕ

abbrev pub made : {A B : Type 0} → (A → B) → A × ℕ → B × ℕ
made f p = (f p.0, p.1)

abbrev pub before : {A B : Type 0} → A × ℕ → (A → Numbered B) → B × ℕ
before p next = next p.0 p.1

infixl 10 ◌>>=◌
abbrev pub ◌>>=◌ : {A B : Type 0} → Numbered A → (A → Numbered B) → Numbered B
x >>= next = λ n. before (x n) next

abbrev pub pure : {A : Type 0} → A → Numbered A
pure a = λ n. (a, n)

-- a node, and its parts behind it
abbrev pub node : {A B : Type 0} → (ℕ → A → B) → Numbered A → Numbered B
node f x = λ n. made (f n) (x (n + 1))

abbrev pub one : {A B : Type 0} → (A → B) → Numbered A → Numbered B
one f x = x >>= λ a. pure (f a)

abbrev pub two : {A B C : Type 0} → (A → B → C) → Numbered A → Numbered B → Numbered C
two f x y = x >>= λ a. y >>= λ b. pure (f a b)

abbrev pub three : {A B C D : Type 0} → (A → B → C → D) → Numbered A → Numbered B → Numbered C → Numbered D
three f x y z = x >>= λ a. y >>= λ b. z >>= λ c. pure (f a b c)

abbrev pub each : {A : Type 0} → List (Numbered A) → Numbered (List A)
each [] = pure []
each (x ∷ more) = x >>= λ a. each more >>= λ all. pure (a ∷ all)

abbrev pub if_some : {A : Type 0} → Option (Numbered A) → Numbered (Option A)
if_some None = pure None
if_some (Some x) = x >>= λ a. pure (Some a)

-- ---- expressions and places

abbrev pub expr_step : {K P : Type 0} → ExprKind-F K P (Numbered Expr) (Numbered Place) → Numbered ExprKind
expr_step (ExprKind-F.Constant n) = pure (k.Constant n)
expr_step (ExprKind-F.Read place) = one k.Read place
expr_step (ExprKind-F.Convert of) = one k.Convert of
expr_step (ExprKind-F.Unary op of) = one (k.Unary op) of
expr_step (ExprKind-F.Binary op at left right) = two (k.Binary op at) left right
expr_step (ExprKind-F.PointerPlus minus left right) = two (k.PointerPlus minus) left right
expr_step (ExprKind-F.Difference left right) = two k.Difference left right
expr_step (ExprKind-F.ComparePointers op left right) = two (k.ComparePointers op) left right
expr_step (ExprKind-F.And left right) = two k.And left right
expr_step (ExprKind-F.Or left right) = two k.Or left right
expr_step (ExprKind-F.Conditional test one other) = three k.Conditional test one other
expr_step (ExprKind-F.Assign place from marked) = two (λ p e. k.Assign p e marked) place from
expr_step (ExprKind-F.Update op at place from old marked) = two (λ p e. k.Update op at p e old marked) place from
expr_step (ExprKind-F.Address place) = one k.Address place
expr_step (ExprKind-F.Call function args) = one (k.Call function) (each args)
expr_step (ExprKind-F.Sense channel) = pure (k.Sense channel)
expr_step (ExprKind-F.Emit of) = one k.Emit of
expr_step ExprKind-F.Checkpoint = pure k.Checkpoint
expr_step (ExprKind-F.Comma left right) = two k.Comma left right

abbrev pub place_step : {K P : Type 0} → PlaceKind-F K P (Numbered Expr) (Numbered Place) → Numbered PlaceKind
place_step (PlaceKind-F.Local n) = pure (pk.Local n)
place_step (PlaceKind-F.Global n) = pure (pk.Global n)
place_step (PlaceKind-F.Deref of) = one pk.Deref of
place_step (PlaceKind-F.Member of tag member) = one (λ p. pk.Member p tag member) of
place_step (PlaceKind-F.Element of index) = two pk.Element of index
place_step (PlaceKind-F.At left right) = two pk.At left right

abbrev pub expr_numbered : Expr → Numbered Expr
expr_numbered e =
    node (λ n kind. record { kind = kind; ty = e.ty; node = n; line = e.line })
    (fold-ExprKind (Numbered ExprKind) (Numbered PlaceKind) (Numbered Expr) (Numbered Place) expr_step place_step
    (λ x. node (λ n kind. record { kind = kind; ty = x.ty; node = n; line = x.line }) x.kind)
    (λ x. node (λ n kind. record { kind = kind; ty = x.ty; node = n; line = x.line }) x.kind) e.kind)

abbrev pub place_numbered : Place → Numbered Place
place_numbered p =
    node (λ n kind. record { kind = kind; ty = p.ty; node = n; line = p.line })
    (fold-PlaceKind (Numbered ExprKind) (Numbered PlaceKind) (Numbered Expr) (Numbered Place) expr_step place_step
    (λ x. node (λ n kind. record { kind = kind; ty = x.ty; node = n; line = x.line }) x.kind)
    (λ x. node (λ n kind. record { kind = kind; ty = x.ty; node = n; line = x.line }) x.kind) p.kind)

abbrev pub maybe_expr : Option Expr → Numbered (Option Expr)
maybe_expr None = pure None
maybe_expr (Some e) = one Some (expr_numbered e)

-- ---- statements

abbrev pub init_numbered : Init → Numbered Init
init_numbered i = one (λ v. record { offset = i.offset; value = v; marked = i.marked }) (maybe_expr i.value)

abbrev pub places_numbered : List Place → Numbered (List Place)
places_numbered ps = each (map place_numbered ps)

abbrev pub stmt_step : {K : Type 0} → StmtKind-F K (Numbered Group) (Numbered Stmt) → Numbered StmtKind
stmt_step (StmtKind-F.Expr e) = one s.Expr (expr_numbered e)
stmt_step (StmtKind-F.Block all) = one s.Block (each all)
stmt_step (StmtKind-F.If test one other) = three s.If (expr_numbered test) one (if_some other)
stmt_step (StmtKind-F.While test body) = two s.While (expr_numbered test) body
stmt_step (StmtKind-F.Do body test) = two s.Do body (expr_numbered test)
stmt_step (StmtKind-F.For begin test step body) =
    if_some begin >>= λ f. maybe_expr test >>= λ t. maybe_expr step >>= λ e. body >>= λ b. pure (s.For f t e b)
stmt_step (StmtKind-F.Switch on groups) = two s.Switch (expr_numbered on) (each groups)
stmt_step StmtKind-F.Break = pure s.Break
stmt_step StmtKind-F.Continue = pure s.Continue
stmt_step (StmtKind-F.Return e) = one s.Return (maybe_expr e)
stmt_step (StmtKind-F.Stamped place from) = two s.Stamped (place_numbered place) (expr_numbered from)
stmt_step (StmtKind-F.Timely place limit one other) =
    three (λ p a b. s.Timely p limit a b) (place_numbered place) one (if_some other)
stmt_step (StmtKind-F.Expires names body caught) = three s.Expires (places_numbered names) (each body) (each caught)
stmt_step (StmtKind-F.Declare local init) = one (s.Declare local) (each (map init_numbered init))

abbrev pub stmt_numbered : Stmt → Numbered Stmt
stmt_numbered x =
    node (λ n kind. record { kind = kind; node = n; line = x.line })
    (fold-StmtKind (Numbered StmtKind) (Numbered Group) (Numbered Stmt) stmt_step
    (λ g. one (λ body. roll-Group (record { labels = g.labels; body = body })) (each g.body))
    (λ y. node (λ n kind. record { kind = kind; node = n; line = y.line }) y.kind) x.kind)

-- ---- the whole program

abbrev pub function_numbered : Function → Numbered Function
function_numbered f = node (λ n body. record f { node = n; body = body }) (each (map stmt_numbered f.body))

-- the functions with numbers, and how many there are
abbrev pub functions_numbered : List Function → List Function × ℕ
functions_numbered fs = each (map function_numbered fs) 0

-- before a variable stand the nodes of the functions before it
abbrev pub global_numbered : List Function × ℕ → Global → Global
global_numbered p g = record g { before = get_or (map (λ (f : Function). f.node) p.0) g.before p.1 }

abbrev pub with_numbers : Core → List Function × ℕ → Core
with_numbers core p = record core { globals = map (global_numbered p) core.globals; functions = p.0 }

-- a program with its nodes numbered, where `before` of a variable says how many functions are defined before it
unfoldable pub numbered : Core → Core
numbered core = with_numbers core (functions_numbered core.functions)
