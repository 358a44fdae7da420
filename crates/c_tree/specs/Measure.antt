-- The nodes of a tree and its height. Each expression, statement, declarator of a declaration, brace list, struct
-- and function is one node, and so is a compound where it is a statement. Joined by the sum, the numbers below count
-- nodes. Joined by the greater one, they are heights: 1 above the highest node directly in it, and 1 without any.
use Rattle.std.specs.Prelude.{ℕ, ◌+◌, List, [], ◌∷◌, map, min, max, Option, Some, None}
use Rattle.c_tree.specs.declared.expression.Expr.{Expr}
use Rattle.c_tree.specs.declared.expression.ExprKind.{ExprKind, fold-ExprKind}
use Rattle.c_tree.specs.declared.expression.ExprKind.TheOpen.{ExprKind-F}
use Rattle.c_tree.specs.declared.expression.Typename.{Typename, fold-Typename}
use Rattle.c_tree.specs.declared.declarations.Declr.{Declr}
use Rattle.c_tree.specs.declared.declarations.Initial.{Initial, fold-Initial}
use Rattle.c_tree.specs.declared.declarations.Initial.TheOpen.{Initial-F}
use Rattle.c_tree.specs.declared.declarations.Init.{Init}
use Rattle.c_tree.specs.declared.declarations.Declaration.{Declaration}
use Rattle.c_tree.specs.declared.statements.Tname.{Tname}
use Rattle.c_tree.specs.declared.statements.Label.{Label}
use Rattle.c_tree.specs.declared.statements.Label.TheVariants as label
use Rattle.c_tree.specs.declared.statements.First.{First}
use Rattle.c_tree.specs.declared.statements.First.TheVariants as first
use Rattle.c_tree.specs.declared.statements.BlockItem.{BlockItem, fold-BlockItem}
use Rattle.c_tree.specs.declared.statements.BlockItem.TheOpen.{BlockItem-F, StatementKind-F}
use Rattle.c_tree.specs.declared.statements.StatementKind.{StatementKind, fold-StatementKind}
use Rattle.c_tree.specs.declared.statements.Compound.{Compound, fold-Compound}
use Rattle.c_tree.specs.declared.statements.Group.{Group, fold-Group}
use Rattle.c_tree.specs.declared.statements.Statement.{Statement}
use Rattle.c_tree.specs.declared.unit.Member.{Member}
use Rattle.c_tree.specs.declared.unit.Struct.{Struct}
use Rattle.c_tree.specs.declared.unit.Param.{Param}
use Rattle.c_tree.specs.declared.unit.Params.{Params}
use Rattle.c_tree.specs.declared.unit.Params.TheVariants as params
use Rattle.c_tree.specs.declared.unit.Function.{Function}
use Rattle.c_tree.specs.declared.unit.External.{External}
use Rattle.c_tree.specs.declared.unit.External.TheVariants as external
use Rattle.c_tree.specs.declared.unit.Tree.{Tree}

-- how the numbers of two things side by side make one
abbrev pub Join : Type 0
Join = ℕ → ℕ → ℕ

abbrev pub joined : Join → List ℕ → ℕ
joined join [] = 0
joined join (n ∷ ns) = join n (joined join ns)

-- a node with these numbers directly in it
abbrev pub node : Join → List ℕ → ℕ
node join ns = joined join ns + 1

-- a part that may be left out
abbrev pub optional : {A : Type 0} → (A → ℕ) → Option A → ℕ
optional measure None = 0
optional measure (Some x) = measure x

abbrev pub all : {A : Type 0} → Join → (A → ℕ) → List A → ℕ
all join measure xs = joined join (map measure xs)

-- ---- expressions

-- what stands directly in an expression, each by its number
abbrev pub expr_parts : ExprKind-F ℕ ℕ ℕ → List ℕ
expr_parts (ExprKind-F.Name _) = []
expr_parts (ExprKind-F.Number _ _ _) = []
expr_parts (ExprKind-F.Char _) = []
expr_parts (ExprKind-F.Paren of) = of ∷ []
expr_parts (ExprKind-F.Index of at) = of ∷ at ∷ []
expr_parts (ExprKind-F.Call callee arguments) = callee ∷ arguments
expr_parts (ExprKind-F.Member of _) = of ∷ []
expr_parts (ExprKind-F.Arrow of _) = of ∷ []
expr_parts (ExprKind-F.PostIncrement of) = of ∷ []
expr_parts (ExprKind-F.PostDecrement of) = of ∷ []
expr_parts (ExprKind-F.PreIncrement of) = of ∷ []
expr_parts (ExprKind-F.PreDecrement of) = of ∷ []
expr_parts (ExprKind-F.AddressOf of) = of ∷ []
expr_parts (ExprKind-F.Deref of) = of ∷ []
expr_parts (ExprKind-F.Unary _ of) = of ∷ []
expr_parts (ExprKind-F.SizeofExpr of) = of ∷ []
expr_parts (ExprKind-F.SizeofType of) = of ∷ []
expr_parts (ExprKind-F.Cast to of) = to ∷ of ∷ []
expr_parts (ExprKind-F.Binary left _ right) = left ∷ right ∷ []
expr_parts (ExprKind-F.And left right) = left ∷ right ∷ []
expr_parts (ExprKind-F.Or left right) = left ∷ right ∷ []
expr_parts (ExprKind-F.Conditional test one other) = test ∷ one ∷ other ∷ []
expr_parts (ExprKind-F.Assign place _ value) = place ∷ value ∷ []
expr_parts (ExprKind-F.Comma left right) = left ∷ right ∷ []

abbrev pub expr_kind_measure : Join → ExprKind → ℕ
expr_kind_measure join =
    fold-ExprKind ℕ ℕ ℕ (λ k. node join (expr_parts k)) (λ e. e.kind) (λ t. joined join t.bounds)

abbrev pub expr_measure : Join → Expr → ℕ
expr_measure join e = expr_kind_measure join e.kind

-- the bounds in a type name
abbrev pub typename_measure : Join → Typename → ℕ
typename_measure join =
    fold-Typename ℕ ℕ ℕ (λ k. node join (expr_parts k)) (λ e. e.kind) (λ t. joined join t.bounds)

-- ---- declarations

abbrev pub declr_measure : Join → Declr → ℕ
declr_measure join d = all join (expr_measure join) d.bounds

abbrev pub initial_step : Join → Initial-F ℕ → ℕ
initial_step join (Initial-F.Assign e) = expr_measure join e
initial_step join (Initial-F.List items _ _) = node join items

abbrev pub initial_measure : Join → Initial → ℕ
initial_measure join = fold-Initial ℕ (initial_step join)

abbrev pub init_measure : Join → Init → ℕ
init_measure join i = node join (declr_measure join i.declr ∷ optional (initial_measure join) i.initial ∷ [])

abbrev pub declaration_measure : Join → Declaration → ℕ
declaration_measure join d = all join (init_measure join) d.inits

-- ---- statements

abbrev pub tname_measure : Join → Tname → ℕ
tname_measure join t = optional (expr_measure join) t.index

abbrev pub label_measure : Join → Label → ℕ
label_measure join (label.Case e) = expr_measure join e
label_measure join label.Default = 0

abbrev pub first_measure : Join → First → ℕ
first_measure join (first.Expr e) = optional (expr_measure join) e
first_measure join (first.Declaration d) = declaration_measure join d

abbrev pub statement_parts : Join → StatementKind-F ℕ ℕ ℕ ℕ ℕ → List ℕ
statement_parts join (StatementKind-F.Compound items) = items ∷ []
statement_parts join (StatementKind-F.Expr e) = optional (expr_measure join) e ∷ []
statement_parts join (StatementKind-F.If test then other) = expr_measure join test ∷ then ∷ optional (λ n. n) other ∷ []
statement_parts join (StatementKind-F.While test body) = expr_measure join test ∷ body ∷ []
statement_parts join (StatementKind-F.Do body test) = body ∷ expr_measure join test ∷ []
statement_parts join (StatementKind-F.For first test step body) =
    first_measure join first ∷ optional (expr_measure join) test ∷ optional (expr_measure join) step ∷ body ∷ []
statement_parts join (StatementKind-F.Switch on groups) = expr_measure join on ∷ groups
statement_parts join StatementKind-F.Break = []
statement_parts join StatementKind-F.Continue = []
statement_parts join (StatementKind-F.Return e) = optional (expr_measure join) e ∷ []
statement_parts join (StatementKind-F.Stamped place value) = expr_measure join place ∷ expr_measure join value ∷ []
statement_parts join (StatementKind-F.Timely place _ then other) =
    expr_measure join place ∷ then ∷ optional (λ n. n) other ∷ []
statement_parts join (StatementKind-F.Expires names body caught) =
    all join (tname_measure join) names ∷ body ∷ caught ∷ []

abbrev pub block_item_step : Join → BlockItem-F ℕ ℕ ℕ ℕ ℕ → ℕ
block_item_step join (BlockItem-F.Declaration d) = declaration_measure join d
block_item_step join (BlockItem-F.Statement s) = s

abbrev pub statement_kind_measure : Join → StatementKind → ℕ
statement_kind_measure join =
    fold-StatementKind ℕ ℕ ℕ ℕ ℕ (block_item_step join) (λ k. node join (statement_parts join k))
    (λ c. joined join c.items)
    (λ g. join (all join (label_measure join) g.labels) (joined join g.statements))
    (λ s. s.kind)

abbrev pub statement_measure : Join → Statement → ℕ
statement_measure join s = statement_kind_measure join s.kind

abbrev pub block_item_measure : Join → BlockItem → ℕ
block_item_measure join =
    fold-BlockItem ℕ ℕ ℕ ℕ ℕ (block_item_step join) (λ k. node join (statement_parts join k))
    (λ c. joined join c.items)
    (λ g. join (all join (label_measure join) g.labels) (joined join g.statements))
    (λ s. s.kind)

abbrev pub compound_measure : Join → Compound → ℕ
compound_measure join =
    fold-Compound ℕ ℕ ℕ ℕ ℕ (block_item_step join) (λ k. node join (statement_parts join k))
    (λ c. joined join c.items)
    (λ g. join (all join (label_measure join) g.labels) (joined join g.statements))
    (λ s. s.kind)

abbrev pub group_measure : Join → Group → ℕ
group_measure join =
    fold-Group ℕ ℕ ℕ ℕ ℕ (block_item_step join) (λ k. node join (statement_parts join k))
    (λ c. joined join c.items)
    (λ g. join (all join (label_measure join) g.labels) (joined join g.statements))
    (λ s. s.kind)

-- ---- the whole source

abbrev pub member_measure : Join → Member → ℕ
member_measure join m = all join (declr_measure join) m.declrs

abbrev pub struct_measure : Join → Struct → ℕ
struct_measure join s = node join (map (member_measure join) s.members)

abbrev pub param_measure : Join → Param → ℕ
param_measure join p =
    join (optional (optional (expr_measure join)) p.first_bound) (all join (expr_measure join) p.bounds)

abbrev pub params_measure : Join → Params → ℕ
params_measure join (params.Void _) = 0
params_measure join (params.List ps) = all join (param_measure join) ps

abbrev pub function_measure : Join → Function → ℕ
function_measure join f =
    node join (params_measure join f.params ∷ optional (compound_measure join) f.body ∷ [])

abbrev pub external_measure : Join → External → ℕ
external_measure join (external.Struct defined inits) =
    join (struct_measure join defined) (all join (init_measure join) inits)
external_measure join (external.Function _ f) = function_measure join f
external_measure join (external.Declaration _ _ d) = declaration_measure join d

abbrev pub tree_measure : Join → Tree → ℕ
tree_measure join t = all join (external_measure join) t.externals

-- ---- the two numbers

abbrev pub sum : Join
sum m n = m + n

abbrev pub nodes : Tree → ℕ
nodes = tree_measure sum

abbrev pub height : Tree → ℕ
height = tree_measure max

abbrev pub expr_height : Expr → ℕ
expr_height = expr_measure max

-- what a u32 shows of a number
abbrev pub capped : ℕ → ℕ
capped n = min n 4294967295
