-- The labels of what stands before and behind the functions.
use Rattle.std.proofs.Common.{◌≡◌, ℕ, suc, ◌+◌, ◌<◌, ◌≤◌, refl, arith, List, [], ◌∷◌, length}
use Rattle.std.specs.Prelude.{map, slice_get, Some}
use Rattle.c_run.specs.declared.timed.Timed.{Timed}
use Rattle.core_tree.specs.declared.program.Core.{Core}
use Rattle.asm430.specs.declared.item.Item.TheVariants.{Word}
use Rattle.asm430.specs.Instructions.{LabelsIn}
use Rattle.asm430.proofs.Laying.{labels_append}
use Rattle.rt430.specs.declared.words.Helper.{Helper}
use Rattle.rt430.specs.declared.words.Helper.TheVariants.{Mul16, Udiv16, Umod16, Sdiv16, Smod16, Shl, Shr, Sar}
use Rattle.ir.specs.declared.form.Ir.{Ir}
use Rattle.ir.specs.declared.form.IrFunction.{IrFunction}
use Rattle.select430.specs.Labels.{helper_number, first_helper_label, first_table_label}
use Rattle.select430.specs.Laying.{LeavesLabels}
use Rattle.codegen.specs.Program.{start_items, routine_items, routines_of, rows_words, table_items, back_items, labels_end}

pub words_labels : (lo hi : ℕ) (ws : List ℕ) → LabelsIn lo hi (map Word ws)
words_labels lo hi [] = tt
words_labels lo hi (w ∷ ws) = (tt, words_labels lo hi ws)

pub number_small : (which : Helper) → helper_number which < 8
number_small Mul16 = omega arith
number_small Udiv16 = omega arith
number_small Umod16 = omega arith
number_small Sdiv16 = omega arith
number_small Smod16 = omega arith
number_small Shl = omega arith
number_small Shr = omega arith
number_small Sar = omega arith

pub routine_labels : (words : Helper → List ℕ) (top : ℕ) (hs : List Helper) → first_helper_label + 8 ≤ top
    → LabelsIn first_helper_label top (routine_items words hs)
routine_labels words top [] up = tt
routine_labels words top (which ∷ more) up =
    let small = number_small which in (
      (omega arith, omega arith),
      labels_append first_helper_label top (map Word (words which)) (routine_items words more)
          (words_labels first_helper_label top (words which)) (routine_labels words top more up),
    )

pub table_labels : (core : Core) (low top n : ℕ) (rows : List (List Timed)) → low ≤ first_table_label + n
    → first_table_label + n + length rows ≤ top → LabelsIn low top (table_items core n rows)
table_labels core low top n [] down up = tt
table_labels core low top n (r ∷ rows) down up =
    let long : length (r ∷ rows) ≡ suc (length rows) = refl in (
      (omega arith, omega arith),
      labels_append low top (map Word (rows_words core r)) (table_items core (suc n) rows)
          (words_labels low top (rows_words core r)) (table_labels core low top (suc n) rows (omega arith) (omega arith)),
    )

-- they leave the functions their labels
pub leaves : (words : Helper → List ℕ) (core : Core) (ir : Ir) → length ir.functions ≤ 65536
    → ((g : ℕ) (fn : IrFunction) → slice_get ir.functions g ≡ Some fn → length fn.steps < 4294967296)
    → LeavesLabels ir (start_items ir) (back_items words core ir) (labels_end ir)
leaves words core ir functions steps = record {
  before = (tt, (tt, tt));
  behind = labels_append first_helper_label (labels_end ir) (routine_items words (routines_of ir)) (table_items core 0 ir.tables)
      (routine_labels words (labels_end ir) (routines_of ir) (omega arith))
      (table_labels core first_helper_label (labels_end ir) 0 ir.tables (omega arith) (omega arith));
  room = omega arith;
  functions = functions;
  steps = steps;
}
