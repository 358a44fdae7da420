-- The words of helper routines, and how items are counted as they are added.
use Rattle.std.specs.Prelude.{◌≡◌, ℕ, ◌+◌, ◌<◌, ◌≤◌, List, ◌∷◌, ◌++◌, length, Some, slice_get}
use Rattle.asm430.specs.declared.item.Item.{Item}
use Rattle.asm430.specs.declared.item.Item.TheVariants.{Label}
use Rattle.asm430.specs.Assembly.{words_in}
use Rattle.core_tree.specs.declared.program.Core.{Core}
use Rattle.rt430.specs.declared.words.Helper.{Helper}
use Rattle.rt430.specs.declared.words.Helper.TheVariants.{Mul16, Udiv16, Umod16, Sdiv16, Smod16, Shl, Shr, Sar}
use Rattle.ir.specs.declared.form.Ir.{Ir}
use Rattle.ir.specs.declared.form.IrFunction.{IrFunction}
use Rattle.select430.specs.Items.{items_at}
use Rattle.select430.specs.Labels.{step_label}
use Rattle.codegen.specs.Program.{items_of, code_items, function_starts}
use Rattle.codegen.specs.declared.items.ProgramItems.{ProgramItems}
use Rattle.codegen.specs.declared.routines.Routines.{Routines}
use Rattle.codegen.specs.declared.adding.Counted.{Counted}

-- ---- helper routines

abbrev pub routine_words : Routines → Helper → List ℕ
routine_words r Mul16 = r.mul16.now
routine_words r Udiv16 = r.udiv16.now
routine_words r Umod16 = r.umod16.now
routine_words r Sdiv16 = r.sdiv16.now
routine_words r Smod16 = r.smod16.now
routine_words r Shl = r.shl.now
routine_words r Shr = r.shr.now
routine_words r Sar = r.sar.now

-- ---- items that are added behind others, with the number of their words

pub record Adds (before after : Counted) (more : List Item) : Type 0 where
  pub items : after.items.items ≡ before.items.items ++ more
  pub words : after.words ≡ before.words + words_in more

-- the items of a step of a form, with its label in front
abbrev pub step_and_label : Ir → (g p : ℕ) → List Item
step_and_label ir g p = Label (step_label g p) ∷ items_at ir g p

-- ---- what is made

-- the first functions have as few steps as labels are there for
abbrev pub HaveFewSteps : List IrFunction → ℕ → Type 0
HaveFewSteps fns n = (g : ℕ) → g < n → (fn : IrFunction) → slice_get fns g ≡ Some fn → length fn.steps < 4294967296

-- the functions and their steps are as few as labels are there for
pub record IsFew (ir : Ir) : Type 0 where
  pub functions : length ir.functions ≤ 65536
  pub steps : (g : ℕ) (fn : IrFunction) → slice_get ir.functions g ≡ Some fn → length fn.steps < 4294967296

-- ---- the whole: the items of a program, where its functions begin, behind the four words of the start, and the words in
-- front of the check tables

pub record AreItemsOf (words : Helper → List ℕ) (core : Core) (ir : Ir) (made : ProgramItems) : Type 0 where
  pub items : made.items.items ≡ items_of words core ir
  pub starts : made.starts.items ≡ function_starts 4 ir 0 ir.functions
  pub tables : made.tables ≡ words_in (code_items words ir)
  pub few : IsFew ir
