-- How much a run does between two marks: half of the bytes of its steps, and 400 for each use of a helper routine, are below
-- 424 for each node of the program.
use Rattle.std.specs.Prelude.{ℕ, ◌+◌, ◌*◌, ◌<◌, List, [], ◌∷◌, Option, Some, None, slice_get}
use Rattle.base16.specs.declared.reading.Reading.{Reading}
use Rattle.core_tree.specs.declared.program.Core.{Core}
use Rattle.core_tree.specs.Nodes.{nodes}
use Rattle.c_run.specs.Runs.{Run}
use Rattle.ir.specs.declared.form.Ir.{Ir}
use Rattle.ir.specs.declared.form.IrFunction.{IrFunction}
use Rattle.ir.specs.declared.form.Step.{Step}
use Rattle.ir.specs.declared.form.StepKind.{StepKind}
use Rattle.ir.specs.declared.control.Control.{Control}
use Rattle.ir.specs.declared.control.Control.TheVariants.{Calling}
use Rattle.ir.specs.Between.{Site, site_of, Reaches}
use Rattle.ir.specs.Table.{size}
use Rattle.ir_gen.specs.Sizes.{helper_uses}

-- twice what a step counts
abbrev pub cost : StepKind → ℕ
cost k = size k + 800 * helper_uses k

abbrev pub cost_of : Option Step → ℕ
cost_of None = 0
cost_of (Some s) = cost s.kind

abbrev pub cost_in : Option IrFunction → ℕ → ℕ
cost_in None p = 0
cost_in (Some fn) p = cost_of (slice_get fn.steps p)

-- of the step at a place of a function
abbrev pub cost_at : Ir → Site → ℕ
cost_at ir site = cost_in (slice_get ir.functions site.function) site.position

abbrev pub costs : Ir → List Site → ℕ
costs ir [] = 0
costs ir (site ∷ more) = cost_at ir site + costs ir more

-- the steps that a run made since the last mark, with the one that it makes next, with any other one besides, as that which
-- made the mark, and with the four bytes that stand before the first
abbrev pub StaysShort : Core → Ir → List Reading → Type 0
StaysShort core ir readings = (c : Control) (r q : Run) (made : List Site) (other : Site)
    → Reaches ir readings (Calling ir.main 0 [] []) r c q made
    → costs ir (site_of c ∷ made) + (cost_at ir other + 4) < 848 * nodes core
