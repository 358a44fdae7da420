-- The functions that a source defines, and the first call, in the order of the text, of a function that is not defined. A call
-- in a `sizeof` counts as well.
use Rattle.std.specs.Prelude.{ℕ, ◌||◌, if◌then◌else◌, map, List, [], ◌∷◌, ◌++◌, is_some, Option, Some, None}
use Rattle.c_tree.specs.declared.expression.Expr.{Expr}
use Rattle.c_tree.specs.declared.expression.ExprKind.{fold-ExprKind}
use Rattle.c_tree.specs.declared.expression.ExprKind.TheOpen.{ExprKind-F}
use Rattle.c_tree.specs.declared.declarations.Declr.{Declr}
use Rattle.c_tree.specs.declared.declarations.Initial.{Initial, fold-Initial}
use Rattle.c_tree.specs.declared.declarations.Initial.TheOpen.{Initial-F}
use Rattle.c_tree.specs.declared.declarations.Init.{Init}
use Rattle.c_tree.specs.declared.statements.Tname.{Tname}
use Rattle.c_tree.specs.declared.statements.Label.{Label}
use Rattle.c_tree.specs.declared.statements.Label.TheVariants as label
use Rattle.c_tree.specs.declared.statements.First.{First}
use Rattle.c_tree.specs.declared.statements.First.TheVariants as first
use Rattle.c_tree.specs.declared.statements.BlockItem.TheOpen.{BlockItem-F, StatementKind-F}
use Rattle.c_tree.specs.declared.statements.Compound.{Compound, fold-Compound}
use Rattle.c_tree.specs.declared.unit.Member.{Member}
use Rattle.c_tree.specs.declared.unit.Param.{Param}
use Rattle.c_tree.specs.declared.unit.Params.{Params}
use Rattle.c_tree.specs.declared.unit.Params.TheVariants as params
use Rattle.c_tree.specs.declared.unit.External.{External}
use Rattle.c_tree.specs.declared.unit.External.TheVariants as external
use Rattle.c_tree.specs.declared.unit.Tree.{Tree}
use Rattle.core_tree.specs.Reaching.{joined}
use Rattle.c_typing.specs.Calls.{builtin_named}
use Rattle.c_checking.specs.Externals.{is_one_of}

-- ---- definitions

abbrev pub definition_by : External → List (List ℕ)
definition_by (external.Struct defined inits) = []
definition_by (external.Function is_static f) = if is_some f.body then f.name ∷ [] else []
definition_by (external.Declaration is_static lifetime d) = []

-- the names of the functions that a source defines, in order
abbrev pub definitions : Tree → List (List ℕ)
definitions tree = joined (map definition_by tree.externals)

-- ---- what is found first in parts one after another

abbrev pub or_later : Option ℕ → Option ℕ → Option ℕ
or_later None later = later
or_later (Some line) later = Some line

abbrev pub first_of : List (Option ℕ) → Option ℕ
first_of [] = None
first_of (x ∷ more) = or_later x (first_of more)

abbrev pub if_there : {A : Type 0} → (A → Option ℕ) → Option A → Option ℕ
if_there find None = None
if_there find (Some a) = find a

-- ---- the line of the first call of a function that has none of these names, and that not every source has: in expressions

-- what is found in an expression, and its name where it is a name, in parentheses or not
pub record Seen : Type 0 where
  pub first : Option ℕ
  pub name : Option (List ℕ)

abbrev pub in_seen : List Seen → Option ℕ
in_seen xs = first_of (map (λ (x : Seen). x.first) xs)

-- in the parts of an expression, where the name of a type has its sizes
abbrev pub in_parts : {K : Type 0} → ExprKind-F K Seen (Option ℕ) → Option ℕ
in_parts (ExprKind-F.Name name) = None
in_parts (ExprKind-F.Number n decimal unsigned) = None
in_parts (ExprKind-F.Char c) = None
in_parts (ExprKind-F.Paren of) = of.first
in_parts (ExprKind-F.Index of at) = or_later of.first at.first
in_parts (ExprKind-F.Call callee arguments) = or_later callee.first (in_seen arguments)
in_parts (ExprKind-F.Member of name) = of.first
in_parts (ExprKind-F.Arrow of name) = of.first
in_parts (ExprKind-F.PostIncrement of) = of.first
in_parts (ExprKind-F.PostDecrement of) = of.first
in_parts (ExprKind-F.PreIncrement of) = of.first
in_parts (ExprKind-F.PreDecrement of) = of.first
in_parts (ExprKind-F.AddressOf of) = of.first
in_parts (ExprKind-F.Deref of) = of.first
in_parts (ExprKind-F.Unary op of) = of.first
in_parts (ExprKind-F.SizeofExpr of) = of.first
in_parts (ExprKind-F.SizeofType of) = of
in_parts (ExprKind-F.Cast to of) = or_later to of.first
in_parts (ExprKind-F.Binary left op right) = or_later left.first right.first
in_parts (ExprKind-F.And left right) = or_later left.first right.first
in_parts (ExprKind-F.Or left right) = or_later left.first right.first
in_parts (ExprKind-F.Conditional test one other) = or_later test.first (or_later one.first other.first)
in_parts (ExprKind-F.Assign place op from) = or_later place.first from.first
in_parts (ExprKind-F.Comma left right) = or_later left.first right.first

abbrev pub called_at : List (List ℕ) → ℕ → Option (List ℕ) → Option ℕ
called_at names line None = None
called_at names line (Some name) = if is_one_of names name || is_some (builtin_named name) then None else Some line

-- the call that an expression is itself
abbrev pub in_itself : {K : Type 0} → List (List ℕ) → ExprKind-F K Seen (Option ℕ) → ℕ → Option ℕ
in_itself names (ExprKind-F.Call callee arguments) line = called_at names line callee.name
in_itself names _ line = None

abbrev pub name_step : {K : Type 0} → ExprKind-F K Seen (Option ℕ) → Option (List ℕ)
name_step (ExprKind-F.Name name) = Some name
name_step (ExprKind-F.Paren of) = of.name
name_step _ = None

-- a call stands before those in its parts
abbrev pub seen_step : {K : Type 0} → List (List ℕ) → ExprKind-F K Seen (Option ℕ) → ℕ → Seen
seen_step names e line = record { first = or_later (in_itself names e line) (in_parts e); name = name_step e }

abbrev pub seen : List (List ℕ) → Expr → Seen
seen names e =
    fold-ExprKind (ℕ → Seen) Seen (Option ℕ) (seen_step names) (λ x. x.kind x.line) (λ t. in_seen t.bounds) e.kind e.line

abbrev pub in_expr : List (List ℕ) → Expr → Option ℕ
in_expr names e = (seen names e).first

abbrev pub in_exprs : List (List ℕ) → List Expr → Option ℕ
in_exprs names es = first_of (map (in_expr names) es)

-- ---- in declarations

abbrev pub initial_step : List (List ℕ) → Initial-F (Option ℕ) → Option ℕ
initial_step names (Initial-F.Assign e) = in_expr names e
initial_step names (Initial-F.List items last_comma line) = first_of items

abbrev pub in_initial : List (List ℕ) → Initial → Option ℕ
in_initial names = fold-Initial (Option ℕ) (initial_step names)

abbrev pub in_init : List (List ℕ) → Init → Option ℕ
in_init names i = or_later (in_exprs names i.declr.bounds) (if_there (in_initial names) i.initial)

abbrev pub in_inits : List (List ℕ) → List Init → Option ℕ
in_inits names inits = first_of (map (in_init names) inits)

-- ---- in statements

abbrev pub in_first : List (List ℕ) → First → Option ℕ
in_first names (first.Expr e) = if_there (in_expr names) e
in_first names (first.Declaration d) = in_inits names d.inits

abbrev pub in_label : List (List ℕ) → Label → Option ℕ
in_label names (label.Case e) = in_expr names e
in_label names label.Default = None

abbrev pub in_labels : List (List ℕ) → List Label → Option ℕ
in_labels names labels = first_of (map (in_label names) labels)

abbrev pub in_tname : List (List ℕ) → Tname → Option ℕ
in_tname names t = if_there (in_expr names) t.index

abbrev pub same : Option ℕ → Option ℕ
same found = found

abbrev pub statement_step : {K : Type 0} → List (List ℕ) → StatementKind-F K (Option ℕ) (Option ℕ) (Option ℕ) (Option ℕ) → Option ℕ
statement_step names (StatementKind-F.Compound body) = body
statement_step names (StatementKind-F.Expr e) = if_there (in_expr names) e
statement_step names (StatementKind-F.If test one other) = or_later (in_expr names test) (or_later one (if_there same other))
statement_step names (StatementKind-F.While test body) = or_later (in_expr names test) body
statement_step names (StatementKind-F.Do body test) = or_later body (in_expr names test)
statement_step names (StatementKind-F.For begin test step body) =
    or_later (in_first names begin)
    (or_later (if_there (in_expr names) test) (or_later (if_there (in_expr names) step) body))
statement_step names (StatementKind-F.Switch on groups) = or_later (in_expr names on) (first_of groups)
statement_step names StatementKind-F.Break = None
statement_step names StatementKind-F.Continue = None
statement_step names (StatementKind-F.Return e) = if_there (in_expr names) e
statement_step names (StatementKind-F.Stamped place from) = or_later (in_expr names place) (in_expr names from)
statement_step names (StatementKind-F.Timely place limit one other) =
    or_later (in_expr names place) (or_later one (if_there same other))
statement_step names (StatementKind-F.Expires tnames body caught) =
    or_later (first_of (map (in_tname names) tnames)) (or_later body caught)

abbrev pub item_step : {K S C G : Type 0} → List (List ℕ) → BlockItem-F K S C G (Option ℕ) → Option ℕ
item_step names (BlockItem-F.Declaration d) = in_inits names d.inits
item_step names (BlockItem-F.Statement x) = x

abbrev pub in_compound : List (List ℕ) → Compound → Option ℕ
in_compound names =
    fold-Compound (Option ℕ) (Option ℕ) (Option ℕ) (Option ℕ) (Option ℕ) (item_step names) (statement_step names)
    (λ c. first_of c.items) (λ g. or_later (in_labels names g.labels) (first_of g.statements)) (λ x. x.kind)

-- ---- in a source

abbrev pub in_declr : List (List ℕ) → Declr → Option ℕ
in_declr names d = in_exprs names d.bounds

abbrev pub in_member : List (List ℕ) → Member → Option ℕ
in_member names m = first_of (map (in_declr names) m.declrs)

abbrev pub in_param : List (List ℕ) → Param → Option ℕ
in_param names p = or_later (if_there (if_there (in_expr names)) p.first_bound) (in_exprs names p.bounds)

abbrev pub in_params : List (List ℕ) → Params → Option ℕ
in_params names (params.Void is_written) = None
in_params names (params.List ps) = first_of (map (in_param names) ps)

abbrev pub in_external : List (List ℕ) → External → Option ℕ
in_external names (external.Struct defined inits) =
    or_later (first_of (map (in_member names) defined.members)) (in_inits names inits)
in_external names (external.Function is_static f) = or_later (in_params names f.params) (if_there (in_compound names) f.body)
in_external names (external.Declaration is_static lifetime d) = in_inits names d.inits

-- the line of the first call in a source of a function that it does not define
abbrev pub first_undefined : Tree → Option ℕ
first_undefined tree = first_of (map (in_external (definitions tree)) tree.externals)
