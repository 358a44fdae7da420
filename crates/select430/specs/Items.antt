-- The items of each step, and those of all functions one behind the other.
use Rattle.std.specs.Prelude.{ℕ, suc, List, [], ◌∷◌, ◌++◌, Option, Some, None, slice_get}
use Rattle.asm430.specs.declared.item.Item.{Item}
use Rattle.asm430.specs.declared.item.Item.TheVariants.{Label}
use Rattle.ir.specs.declared.form.Ir.{Ir}
use Rattle.ir.specs.declared.form.IrFunction.{IrFunction}
use Rattle.ir.specs.declared.form.Step.{Step}
use Rattle.ir.specs.declared.form.StepKind.{StepKind}
use Rattle.select430.specs.Labels.{function_label, step_label}
use Rattle.select430.specs.Parts.{parts_items}
use Rattle.select430.specs.Code.{code_of_step}

-- the items of a step at a place of a function
abbrev pub items_of : Ir → IrFunction → (g p : ℕ) → StepKind → List Item
items_of ir fn g p k = parts_items g p (code_of_step ir fn k)

abbrev pub items_if : Ir → IrFunction → (g p : ℕ) → Option Step → List Item
items_if ir fn g p None = []
items_if ir fn g p (Some s) = items_of ir fn g p s.kind

abbrev pub items_in : Ir → (g p : ℕ) → Option IrFunction → List Item
items_in ir g p None = []
items_in ir g p (Some fn) = items_if ir fn g p (slice_get fn.steps p)

-- those of the step that stands at a place of a function of a form, and none where no step stands
abbrev pub items_at : Ir → (g p : ℕ) → List Item
items_at ir g p = items_in ir g p (slice_get ir.functions g)

-- ---- steps one behind the other, each with its label in front, from a place on

abbrev pub block : Ir → IrFunction → (g p : ℕ) → Step → List Item
block ir fn g p s = Label (step_label g p) ∷ items_of ir fn g p s.kind

abbrev pub steps_items : Ir → IrFunction → (g p : ℕ) → List Step → List Item
steps_items ir fn g p [] = []
steps_items ir fn g p (s ∷ ss) = block ir fn g p s ++ steps_items ir fn g (suc p) ss

-- functions one behind the other, from a number on
abbrev pub function_items : Ir → ℕ → IrFunction → List Item
function_items ir g fn = Label (function_label g) ∷ steps_items ir fn g 0 fn.steps

abbrev pub functions_items : Ir → ℕ → List IrFunction → List Item
functions_items ir g [] = []
functions_items ir g (fn ∷ fns) = function_items ir g fn ++ functions_items ir (suc g) fns
