-- The meaning of statements (C99 6.8): how they leave, and what they do to a run.
use Rattle.std.specs.Prelude.{ℕ, zero, suc, ◌+◌, ℤ, Bool, true, false, ◌||◌, if◌then◌else◌, List, [], ◌∷◌, map, Option, Some, None}
use Rattle.base16.specs.declared.reading.Reading.{Reading}
use Rattle.core_tree.specs.declared.expressions.Expr.{Expr}
use Rattle.core_tree.specs.declared.expressions.Place.{Place}
use Rattle.core_tree.specs.declared.statements.Stmt.{Stmt}
use Rattle.core_tree.specs.declared.statements.StmtKind.{StmtKind, fold-StmtKind}
use Rattle.core_tree.specs.declared.statements.StmtKind.TheOpen.{StmtKind-F}
use Rattle.core_tree.specs.declared.statements.Init.{Init}
use Rattle.core_tree.specs.declared.program.Core.{Core}
use Rattle.core_tree.specs.Layout.{kind_of, int_type_of}
use Rattle.c_values.specs.declared.value.Value.{Value}
use Rattle.c_values.specs.declared.value.Value.TheVariants.{Undefined}
use Rattle.c_values.specs.declared.value.Location.{Location}
use Rattle.c_values.specs.Operators.{int_eq}
use Rattle.c_values.specs.Objects.{with_cleared}
use Rattle.c_values.specs.Pointers.{at}
use Rattle.c_run.specs.Runs.{Action, ◌>>=◌, ◌>>◌, pure, stop, Wrong, given, asked, changed, mark}
use Rattle.c_run.specs.declared.timed.Timed.{Timed}
use Rattle.c_values.specs.Values.{integer, numbered, present, zero_of}
use Rattle.c_values.specs.Objects.{kind_at}
use Rattle.c_run.specs.Actions.{store, stamped, timely, open_block, check_block, close_block}
pub use Rattle.c_meaning.specs.declared.flow.Flow.{Flow}
pub use Rattle.c_meaning.specs.declared.flow.Flow.TheVariants.{Normal, Break, Continue, Return, Caught}
use Rattle.c_meaning.specs.Meaning.{Calls, tested, expr, place}
use Rattle.c_meaning.specs.Stamps.{timed_at}

-- the names of the block whose text this is, if it is such a text
abbrev pub Text : Type 0
Text = Option (List Timed)

abbrev pub Step : Type 0
Step = Text → Action Flow

-- statements one after the other
abbrev pub then_flow : Flow → Action Flow → Action Flow
then_flow Normal next = next
then_flow f next = pure f

abbrev pub in_order : List Step → Step
in_order [] text = pure Normal
in_order (s ∷ ss) text = s text >>= λ f. then_flow f (in_order ss text)

-- a statement that may be left out
abbrev pub or_nothing : {A : Type 0} → (A → Step) → Option A → Step
or_nothing f None text = pure Normal
or_nothing f (Some a) text = f a text

-- ---- loops

-- what follows the body of a loop
abbrev pub after_body : Flow → Action Flow → Action Flow
after_body Break next = pure Normal
after_body (Return v) next = pure (Return v)
after_body Caught next = pure Caught
after_body _ next = next

-- just before a loop's test: a mark, or in a block's text a check. The answer is whether the run goes on.
abbrev pub turn : List Reading → Text → Action Bool
turn readings None = mark >> pure true
turn readings (Some names) = check_block readings names

module _ (readings : List Reading) (text : Text) (test : Action Bool) (body : Action Flow) (step : Action (Unit {0})) where
  -- at most this many turns
  unfoldable pub turns : ℕ → Action Flow
  turns zero = stop Wrong
  turns (suc n) = do
    fine ← turn readings text
    if fine
        then (test >>= λ more. if more then (body >>= λ f. after_body f (step >> turns n)) else pure Normal)
        else pure Caught

  -- each turn makes a mark, so one more than the marks that are left are enough
  unfoldable pub loop : Action Flow
  loop = λ r. turns (suc r.left) r

-- ---- switch

pub record Labelled : Type 0 where
  pub labels : List (Option ℤ)
  pub act : Step

abbrev pub has_case : ℤ → List (Option ℤ) → Bool
has_case v [] = false
has_case v (None ∷ ls) = has_case v ls
has_case v (Some w ∷ ls) = int_eq v w || has_case v ls

abbrev pub has_default : List (Option ℤ) → Bool
has_default [] = false
has_default (None ∷ ls) = true
has_default (Some w ∷ ls) = has_default ls

-- the groups from the first whose labels pass
abbrev pub from_group : (List (Option ℤ) → Bool) → List Labelled → List Labelled
from_group p [] = []
from_group p (g ∷ gs) = if p g.labels then g ∷ gs else from_group p gs

abbrev pub acts : List Labelled → List Step
acts [] = []
acts (g ∷ gs) = g.act ∷ acts gs

abbrev pub or_default : List Labelled → List Labelled → List Labelled
or_default [] gs = from_group has_default gs
or_default (g ∷ more) gs = g ∷ more

abbrev pub selected : ℤ → List Labelled → List Step
selected v gs = acts (or_default (from_group (has_case v) gs) gs)

-- a break ends the switch
abbrev pub broken_out : Flow → Flow
broken_out Break = Normal
broken_out f = f

abbrev pub optional : {A : Type 0} → A → Option A → A
optional a None = a
optional a (Some b) = b

-- what follows the text of a block: the check at its end, and the catch where something has expired
abbrev pub caught_unless : Bool → Action Flow → Action Flow
caught_unless fine other = if fine then pure Normal else other

abbrev pub at_end : List Reading → List Timed → Flow → Action Flow → Action Flow
at_end readings ts Caught other = other
at_end readings ts f other = close_block readings ts >>= λ fine. caught_unless fine other

-- ---- one layer

module _ (core : Core) (readings : List Reading) (call : Calls) (first : ℕ) where
  abbrev pub run_expr : Expr → Action Value
  run_expr = expr core.structs readings call first

  abbrev pub run_place : Place → Action Location
  run_place = place core.structs readings call first

  abbrev pub run_test : ℕ → Expr → Action Bool
  run_test node e = run_expr e >>= tested node e.ty

  abbrev pub loop_test : ℕ → Option Expr → Action Bool
  loop_test node None = pure true
  loop_test node (Some e) = run_test node e

  abbrev pub loop_step : Option Expr → Action (Unit {0})
  loop_step None = pure tt
  loop_step (Some e) = run_expr e >>= λ _. pure tt

  -- the value of an initialiser's item; the kind is that of the scalar that it sets
  abbrev pub init_value : Option Expr → Action (Option Value)
  init_value None = pure None
  init_value (Some e) = run_expr e >>= λ v. pure (Some v)

  abbrev pub initialised : ℕ → ℕ → List Init → Action (Unit {0})
  initialised node n [] = pure tt
  initialised node n (i ∷ is) = do
    v ← init_value i.value
    k ← asked node (λ s. kind_at s n i.offset)
    store node (at n i.offset) k (optional (zero_of k) v) i.marked
    initialised node n is

  -- a local is declared: without initialiser its scalars are undefined
  abbrev pub declared : ℕ → ℕ → List Init → Action (Unit {0})
  declared node n [] = changed (with_cleared n)
  declared node n (i ∷ is) = initialised node n (i ∷ is)

  -- the scalars that a block names
  abbrev pub named : List Place → Action (List Timed)
  named [] = pure []
  named (p ∷ ps) = do
    l ← run_place p
    ts ← named ps
    pure (timed_at core l ∷ ts)

  abbrev pub stmt_layer : StmtKind-F (ℕ → Step) Labelled Step → ℕ → Step
  stmt_layer (StmtKind-F.Expr e) node text = run_expr e >> pure Normal
  stmt_layer (StmtKind-F.Block all) node text = in_order all text
  stmt_layer (StmtKind-F.If test one other) node text = do
    x ← run_test node test
    if x then one text else or_nothing (λ s. s) other text
  stmt_layer (StmtKind-F.While test body) node text = loop readings text (run_test node test) (body text) (pure tt)
  stmt_layer (StmtKind-F.Do body test) node text = do
    f ← body text
    after_body f (loop readings text (run_test node test) (body text) (pure tt))
  stmt_layer (StmtKind-F.For begin test step body) node text = do
    f ← or_nothing (λ s. s) begin text
    then_flow f (loop readings text (loop_test node test) (body text) (loop_step step))
  stmt_layer (StmtKind-F.Switch on groups) node text = do
    v ← run_expr on
    z ← given node (integer (numbered (int_type_of on.ty) v))
    f ← in_order (selected z groups) text
    pure (broken_out f)
  stmt_layer StmtKind-F.Break node text = pure Break
  stmt_layer StmtKind-F.Continue node text = pure Continue
  stmt_layer (StmtKind-F.Return None) node text = pure (Return Undefined)
  stmt_layer (StmtKind-F.Return (Some e)) node text = do
    v ← run_expr e
    w ← given node (present v)
    pure (Return w)
  stmt_layer (StmtKind-F.Stamped p e) node text = do
    l ← run_place p
    v ← run_expr e
    stamped readings node l (kind_of p.ty) (timed_at core l).stamp v
    pure Normal
  stmt_layer (StmtKind-F.Timely p limit one other) node text = do
    l ← run_place p
    x ← timely readings node l (kind_of p.ty) (timed_at core l).stamp limit
    if x then one text else or_nothing (λ s. s) other text
  stmt_layer (StmtKind-F.Expires names body caught) node text = do
    ts ← named names
    is_open ← open_block readings ts
    if is_open
        then (in_order body (Some ts) >>= λ f. at_end readings ts f (in_order caught text))
        else in_order caught text
  stmt_layer (StmtKind-F.Declare n init) node text = declared node (first + n) init >> pure Normal

  abbrev pub stmt_kind : StmtKind → ℕ → Step
  stmt_kind = fold-StmtKind (ℕ → Step) Labelled Step stmt_layer (λ g. record { labels = g.labels; act = in_order g.body }) (λ s. s.kind s.node)

  -- what a statement does
  abbrev pub stmt : Stmt → Step
  stmt s = stmt_kind s.kind s.node

  abbrev pub stmts : List Stmt → Step
  stmts ss = in_order (map stmt ss)
