-- A program whose image stands in memory, and the setting in which its form's steps are run there.
use Rattle.std.specs.Prelude.{◌≡◌, ℕ, zero, suc, ◌+◌, ◌*◌, ◌<◌, List, [], ◌∷◌, ◌≤◌, length, Some, None, slice_get, slice_index}
use Rattle.base16.specs.Board.{code_start}
use Rattle.base16.specs.declared.reading.Reading.{Reading}
use Rattle.core430.specs.Uses.{AreWords}
use Rattle.core_tree.specs.Costs.{code_cost}
use Rattle.core_tree.specs.LawfulCore.{LawfulCore}
use Rattle.core_tree.specs.declared.program.Core.{Core}
use Rattle.asm430.specs.declared.item.Item.{Item}
use Rattle.asm430.specs.Assembly.{words_in, place_of, address}
use Rattle.placed430.specs.Assembled.{end_of}
use Rattle.rt430.specs.declared.words.Helper.{Helper}
use Rattle.rt430.specs.Routines.{Computes, size}
use Rattle.ideal430.specs.Loaded.{loaded}
use Rattle.ir.specs.declared.form.Ir.{Ir}
use Rattle.ir.specs.declared.form.IrFunction.{IrFunction}
use Rattle.ir.specs.declared.form.Step.{Step}
use Rattle.ir_gen.specs.Plain.{IsPlain}
use Rattle.ir_gen.specs.Serves.{Serves}
use Rattle.select430.specs.Code.{code_of_step}
use Rattle.select430.specs.Items.{functions_items}
use Rattle.select430.specs.Labels.{function_label, helper_label, table_label}
use Rattle.select430.specs.Parts.{Addresses, parts_words}
use Rattle.steps430.specs.Setting.{Setting, function_at}
use Rattle.codegen.specs.Program.{table_items, items_of}
use Rattle.codegen.specs.Words.{global_words}
use Rattle.codegen.specs.Made.{AreWordsOf}
use Rattle.codegen.specs.Refused.{refusal_of}

-- ---- where steps stand

-- the bytes of the first steps of a list
abbrev pub bytes_of_first : Ir → IrFunction → ℕ → List Step → ℕ
bytes_of_first ir fn zero ss = 0
bytes_of_first ir fn (suc n) [] = 0
bytes_of_first ir fn (suc n) (s ∷ ss) = 2 * parts_words (code_of_step ir fn s.kind) + bytes_of_first ir fn n ss

-- A step stands behind those before it; behind the last one of a function is where the next would stand.
abbrev pub step_address : List Item → Ir → (g q : ℕ) → ℕ
step_address items ir g q =
    address (place_of items (function_label g)) + bytes_of_first ir (function_at ir g) q (function_at ir g).steps

abbrev pub addresses_of : List Item → Ir → (g : ℕ) → Addresses
addresses_of items ir g = record {
  step = step_address items ir g;
  function = λ f. step_address items ir f 0;
  helper = λ which. address (place_of items (helper_label which));
  table = λ t. address (place_of items (table_label t));
}

-- the setting in a memory into which code was loaded
abbrev pub setting_of : (Helper → List ℕ) → Core → Ir → (code : List ℕ) → List Reading → Setting
setting_of routine core ir code readings = record {
  core = core;
  ir = ir;
  code = loaded code (global_words core);
  low = code_start;
  high = end_of (items_of routine core ir);
  addresses = addresses_of (items_of routine core ir) ir;
  readings = readings;
}

-- ---- what is known

-- A lawful program without annotated statements, with a form that serves it, and the words of its items; each routine has words
-- that compute its operator.
pub record IsProgram (routine : Helper → List ℕ) (core : Core) (ir : Ir) (code : List ℕ) : Type 0 where
  pub lawful : LawfulCore core
  pub plain : IsPlain core
  pub serves : Serves core ir
  pub few : (g : ℕ) (fn : IrFunction) → slice_get ir.functions g ≡ Some fn → length fn.steps < 4294967296
  pub computes : (which : Helper) → Computes which (routine which)
  pub sized : (which : Helper) → length (routine which) ≡ size which
  pub fine : refusal_of core ≡ None
  -- the code of the functions and the check tables are no longer than the rows of the nodes
  pub room : 2 * words_in (functions_items ir 0 ir.functions) + 2 * words_in (table_items core 0 ir.tables) ≤ code_cost core
  pub words : AreWordsOf (items_of routine core ir) code
  pub wide : AreWords (slice_index code)
