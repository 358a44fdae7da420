-- What a source has that its text gives: numbers are at most 65,535 and characters are bytes, what is called is a function of
-- the source, and `break` and `continue` have something to leave.
use Rattle.std.specs.Prelude.{ℕ, nat_le, Bool, true, false, ◌&&◌, ◌||◌, List, [], ◌∷◌, length, is_some, Option, Some, None}
use Rattle.c_tree.specs.declared.expression.Expr.{Expr}
use Rattle.c_tree.specs.declared.declarations.Initial.{Initial, fold-Initial}
use Rattle.c_tree.specs.declared.declarations.Initial.TheOpen.{Initial-F}
use Rattle.c_tree.specs.declared.declarations.Init.{Init}
use Rattle.c_tree.specs.declared.statements.Label.{Label}
use Rattle.c_tree.specs.declared.statements.First.{First}
use Rattle.c_tree.specs.declared.statements.First.TheVariants as first
use Rattle.c_tree.specs.declared.statements.StatementKind.{StatementKind, fold-StatementKind}
use Rattle.c_tree.specs.declared.statements.BlockItem.{BlockItem, fold-BlockItem}
use Rattle.c_tree.specs.declared.statements.BlockItem.TheOpen.{BlockItem-F, StatementKind-F}
use Rattle.c_tree.specs.declared.statements.Compound.{Compound, fold-Compound}
use Rattle.c_tree.specs.declared.unit.Param.{Param}
use Rattle.c_tree.specs.declared.unit.Member.{Member}
use Rattle.c_tree.specs.declared.unit.Struct.{Struct}
use Rattle.c_tree.specs.declared.unit.Function.{Function}
use Rattle.c_tree.specs.declared.unit.External.{External}
use Rattle.c_tree.specs.declared.unit.External.TheVariants as external
use Rattle.c_tree.specs.declared.unit.Tree.{Tree}
use Rattle.c_typing.specs.Calls.{builtin_named}
use Rattle.c_typing_laws.specs.Sound.{fits}
use Rattle.c_checking.specs.Externals.{is_one_of}
use Rattle.c_checking.specs.Functions.{listed}
use Rattle.c_checking.specs.Calls.{definitions}

abbrev pub each_is : {A : Type 0} → (A → Bool) → List A → Bool
each_is p [] = true
each_is p (x ∷ xs) = p x && each_is p xs

abbrev pub if_there : {A : Type 0} → (A → Bool) → Option A → Bool
if_there p None = true
if_there p (Some x) = p x

module _ (calls : List ℕ → Bool) where
  abbrev pub expr_fits : Expr → Bool
  expr_fits e = fits calls e.kind

  -- ---- declarations

  abbrev pub initial_step : Initial-F Bool → Bool
  initial_step (Initial-F.Assign e) = expr_fits e
  initial_step (Initial-F.List items last_comma line) = each_is (λ b. b) items

  abbrev pub initial_fits : Initial → Bool
  initial_fits = fold-Initial Bool initial_step

  abbrev pub init_fits : Init → Bool
  init_fits i = if_there initial_fits i.initial

  abbrev pub inits_fit : List Init → Bool
  inits_fit inits = each_is init_fits inits

  -- ---- statements, where `break` and `continue` have something to leave or not

  -- where these two may stand
  abbrev pub Placed : Type 0
  Placed = Bool → Bool → Bool

  abbrev pub first_fits : First → Bool
  first_fits (first.Expr e) = if_there expr_fits e
  first_fits (first.Declaration d) = inits_fit d.inits

  abbrev pub all_placed : List Placed → Placed
  all_placed ps breaks continues = each_is (λ (p : Placed). p breaks continues) ps

  abbrev pub statement_step : StatementKind-F Placed Placed Placed Placed Placed → Placed
  statement_step (StatementKind-F.Compound body) breaks continues = body breaks continues
  statement_step (StatementKind-F.Expr e) breaks continues = if_there expr_fits e
  statement_step (StatementKind-F.If test one other) breaks continues =
      expr_fits test && (one breaks continues && if_there (λ (p : Placed). p breaks continues) other)
  statement_step (StatementKind-F.While test body) breaks continues = expr_fits test && body true true
  statement_step (StatementKind-F.Do body test) breaks continues = body true true && expr_fits test
  statement_step (StatementKind-F.For begin test step body) breaks continues =
      first_fits begin && (if_there expr_fits test && (if_there expr_fits step && body true true))
  statement_step (StatementKind-F.Switch on groups) breaks continues = expr_fits on && all_placed groups true continues
  statement_step StatementKind-F.Break breaks continues = breaks
  statement_step StatementKind-F.Continue breaks continues = continues
  statement_step (StatementKind-F.Return e) breaks continues = if_there expr_fits e
  statement_step (StatementKind-F.Stamped place from) breaks continues = true
  statement_step (StatementKind-F.Timely place limit one other) breaks continues = true
  statement_step (StatementKind-F.Expires names body caught) breaks continues = true

  abbrev pub item_step : BlockItem-F Placed Placed Placed Placed Placed → Placed
  item_step (BlockItem-F.Declaration d) breaks continues = inits_fit d.inits
  item_step (BlockItem-F.Statement x) breaks continues = x breaks continues

  -- each group of a `switch` has a label
  abbrev pub group_step : List Label → List Placed → Placed
  group_step labels body breaks continues = nat_le 1 (length labels) && all_placed body breaks continues

  abbrev pub statement_fits : StatementKind → Placed
  statement_fits = fold-StatementKind Placed Placed Placed Placed Placed item_step statement_step
      (λ c. all_placed c.items) (λ g. group_step g.labels g.statements) (λ x. x.kind)

  abbrev pub block_item_fits : BlockItem → Placed
  block_item_fits = fold-BlockItem Placed Placed Placed Placed Placed item_step statement_step
      (λ c. all_placed c.items) (λ g. group_step g.labels g.statements) (λ x. x.kind)

  abbrev pub compound_fits : Compound → Placed
  compound_fits = fold-Compound Placed Placed Placed Placed Placed item_step statement_step
      (λ c. all_placed c.items) (λ g. group_step g.labels g.statements) (λ x. x.kind)

-- ---- parameters

-- sizes stand only behind first brackets
abbrev pub bounds_fit : Option (Option Expr) → List Expr → Bool
bounds_fit None [] = true
bounds_fit None (e ∷ es) = false
bounds_fit (Some size) bounds = true

abbrev pub param_fits : Param → Bool
param_fits p = bounds_fit p.first_bound p.bounds

-- each has a name where a function has a body
abbrev pub is_named : Param → Bool
is_named p = is_some p.name

-- ---- parts of a source

-- a name of a function of the source, or of one that every source has
abbrev pub is_known : List (List ℕ) → List ℕ → Bool
is_known names name = is_one_of names name || is_some (builtin_named name)

-- a struct has a member, and each declaration of members declares one
abbrev pub has_declr : Member → Bool
has_declr m = nat_le 1 (length m.declrs)

abbrev pub struct_fits : Struct → Bool
struct_fits s = nat_le 1 (length s.members) && each_is has_declr s.members

module _ (calls : List ℕ → Bool) where
  abbrev pub body_fits : List Param → Option Compound → Bool
  body_fits ps None = true
  body_fits ps (Some body) = each_is is_named ps && compound_fits calls body false false

  abbrev pub function_fits : Function → Bool
  function_fits f = each_is param_fits (listed f.params) && body_fits (listed f.params) f.body

  abbrev pub external_fits : External → Bool
  external_fits (external.Struct defined inits) = struct_fits defined && inits_fit calls inits
  external_fits (external.Function is_static f) = function_fits f
  external_fits (external.Declaration is_static lifetime d) = inits_fit calls d.inits

abbrev pub tree_fits : Tree → Bool
tree_fits tree = each_is (external_fits (is_known (definitions tree))) tree.externals
