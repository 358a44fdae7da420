-- What it means that the steps of a form stand in code.
use Rattle.std.specs.Prelude.{◌≡◌, ℕ, suc, ◌+◌, ◌<◌, ◌≤◌, List, ◌++◌, length, Some, slice_get}
use Rattle.run430.specs.Code.{Placed}
use Rattle.asm430.specs.declared.item.Item.{Item}
use Rattle.asm430.specs.Assembly.{place_of, address}
use Rattle.asm430.specs.Instructions.{LabelsIn}
use Rattle.placed430.specs.Assembled.{end_of, size_of_code}
use Rattle.ir.specs.declared.form.Ir.{Ir}
use Rattle.ir.specs.declared.form.IrFunction.{IrFunction}
use Rattle.ir.specs.declared.form.Step.{Step}
use Rattle.select430.specs.Labels.{function_label, step_label, helper_label, table_label, first_helper_label}
use Rattle.select430.specs.Parts.{Addresses, parts_code}
use Rattle.select430.specs.Code.{code_of_step}
use Rattle.select430.specs.Items.{functions_items}

-- all functions of a form, among other items
abbrev pub all_items : Ir → (front back : List Item) → List Item
all_items ir front back = front ++ (functions_items ir 0 ir.functions ++ back)

-- these other items have none of their labels: before them no label stands, and behind them the labels are those of the
-- helper routines and greater ones; and the functions and steps are as few as labels are there for
pub record LeavesLabels (ir : Ir) (front back : List Item) (top : ℕ) : Type 0 where
  pub before : LabelsIn 0 0 front
  pub behind : LabelsIn first_helper_label top back
  pub room : first_helper_label ≤ top
  pub functions : length ir.functions ≤ 65536
  pub steps : (g : ℕ) (fn : IrFunction) → slice_get ir.functions g ≡ Some fn → length fn.steps < 4294967296

-- the addresses that labels denote, for the steps of a function
abbrev pub addresses : List Item → ℕ → Addresses
addresses all g = record {
  step = λ p. address (place_of all (step_label g p));
  function = λ f. address (place_of all (function_label f));
  helper = λ which. address (place_of all (helper_label which));
  table = λ t. address (place_of all (table_label t));
}

-- the step that stands at a place of a function has its code there, in a memory
pub record Stands (ir : Ir) (all : List Item) (m : ℕ → ℕ) (g : ℕ) (fn : IrFunction) (p : ℕ) (s : Step) : Type 0 where
  pub code : Placed m 0x8000 (end_of all) ((addresses all g).step p) (parts_code (addresses all g) (code_of_step ir fn s.kind))
  -- behind its code is that of the next step
  pub next : (t : Step) → slice_get fn.steps (suc p) ≡ Some t →
      (addresses all g).step (suc p) ≡ (addresses all g).step p + size_of_code (parts_code (addresses all g) (code_of_step ir fn s.kind))
  -- a function is where its first step is
  pub first : p ≡ 0 → (addresses all g).function g ≡ (addresses all g).step p
