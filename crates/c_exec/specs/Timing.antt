-- The parts of timed statements: a stamp, a test of its age, and a block with its names.
use Rattle.std.specs.Prelude.{ℕ, Bool, false, if◌then◌else◌, List, [], Some, None}
use Rattle.base16.specs.declared.reading.Reading.{Reading}
use Rattle.core_tree.specs.declared.program.Core.{Core}
use Rattle.core_tree.specs.declared.expressions.Expr.{Expr}
use Rattle.core_tree.specs.declared.expressions.Place.{Place}
use Rattle.core_tree.specs.declared.statements.Stmt.{Stmt}
use Rattle.core_tree.specs.Layout.{kind_of}
use Rattle.c_run.specs.declared.timed.Timed.{Timed}
use Rattle.c_run.specs.Runs.{Action, ◌>>=◌, ◌>>◌, pure}
use Rattle.c_run.specs.Actions.{stamped, timely, open_block, close_block}
use Rattle.c_meaning.specs.Meaning.{Calls}
use Rattle.c_meaning.specs.Stamps.{timed_at}
use Rattle.c_meaning.specs.declared.flow.Flow.{Flow}
use Rattle.c_meaning.specs.declared.flow.Flow.TheVariants.{Normal, Caught}
use Rattle.c_meaning.specs.Statements.{Text, run_expr, run_place, named, stmts}

-- the names of the block in whose text a statement stands
abbrev pub names_in : Text → List Timed
names_in None = []
names_in (Some names) = names

-- whether nothing has expired by the end of a block
abbrev pub ends_fine : List Reading → List Timed → Flow → Action Bool
ends_fine readings names Caught = pure false
ends_fine readings names f = close_block readings names

module _ (core : Core) (readings : List Reading) (call : Calls) (first : ℕ) where
  -- a stamped assignment
  abbrev pub stamp : ℕ → Place → Expr → Action Flow
  stamp node p e = do
    l ← run_place core readings call first p
    v ← run_expr core readings call first e
    stamped readings node l (kind_of p.ty) (timed_at core l).stamp v
    pure Normal

  abbrev pub is_young : ℕ → Place → ℕ → Action Bool
  is_young node p limit = do
    l ← run_place core readings call first p
    timely readings node l (kind_of p.ty) (timed_at core l).stamp limit

  abbrev pub run_block : List Timed → List Stmt → Action Bool
  run_block ts inner = stmts core readings call first inner (Some ts) >>= ends_fine readings ts

  -- whether a block opens and nothing has expired by its end
  abbrev pub block : List Place → List Stmt → Action Bool
  block names inner = do
    ts ← named core readings call first names
    is_open ← open_block readings ts
    if is_open then run_block ts inner else pure false
