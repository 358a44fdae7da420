-- The items of a whole program, one behind the other: the call of `main` and that of the end of the run, the functions, the
-- helper routines that are used, the check tables.
use Rattle.std.specs.Prelude.{ℕ, suc, ◌+◌, ◌/◌, ◌%◌, nat_eq, Bool, false, ◌||◌, if◌then◌else◌, List, [], ◌∷◌, ◌++◌, map, length}
use Rattle.c_run.specs.declared.timed.Timed.{Timed}
use Rattle.core_tree.specs.Data.{stamp_address}
use Rattle.core_tree.specs.declared.program.Core.{Core}
use Rattle.asm430.specs.declared.item.Item.{Item}
use Rattle.asm430.specs.declared.item.Item.TheVariants.{Instr as Plain, Label, Jump, Branch, CallTo, AddressOf, Word}
use Rattle.asm430.specs.Assembly.{words_in}
use Rattle.rt430.specs.declared.words.Helper.{Helper}
use Rattle.rt430.specs.declared.words.Helper.TheVariants.{Mul16, Udiv16, Umod16, Sdiv16, Smod16, Shl, Shr, Sar}
use Rattle.ir.specs.declared.form.Ir.{Ir}
use Rattle.ir.specs.declared.form.IrFunction.{IrFunction}
use Rattle.matching.specs.Simulates.{last_call}
use Rattle.select430.specs.Items.{function_items, functions_items}
use Rattle.select430.specs.Labels.{function_label, helper_label, table_label, first_table_label}
use Rattle.select430.specs.Laying.{all_items}

-- ---- the start

-- the call of `main`, and behind it what ends a run
abbrev pub start_items : Ir → List Item
start_items ir = CallTo (function_label ir.main) ∷ Plain last_call ∷ []

-- ---- helper routines

-- whether an item calls a label
abbrev pub is_call : ℕ → Item → Bool
is_call label (Plain instr) = false
is_call label (Label other) = false
is_call label (Jump cond other) = false
is_call label (Branch other) = false
is_call label (CallTo other) = nat_eq other label
is_call label (AddressOf other register) = false
is_call label (Word word) = false

-- whether one of these items does
abbrev pub has_call : ℕ → List Item → Bool
has_call label [] = false
has_call label (x ∷ xs) = is_call label x || has_call label xs

-- all of them, in the order of their numbers
abbrev pub all_helpers : List Helper
all_helpers = Mul16 ∷ Udiv16 ∷ Umod16 ∷ Sdiv16 ∷ Smod16 ∷ Shl ∷ Shr ∷ Sar ∷ []

-- those of some routines that these items call
abbrev pub called_of : List Item → List Helper → List Helper
called_of items [] = []
called_of items (which ∷ more) =
    if has_call (helper_label which) items then which ∷ called_of items more else called_of items more

-- those that some function calls
abbrev pub routines_of : Ir → List Helper
routines_of ir = called_of (functions_items ir 0 ir.functions) all_helpers

-- routines one behind the other, each with its label in front; each has its words
abbrev pub routine_items : (Helper → List ℕ) → List Helper → List Item
routine_items words [] = []
routine_items words (which ∷ more) = Label (helper_label which) ∷ (map Word (words which) ++ routine_items words more)

-- ---- check tables: for each scalar that a block names the address of its stamp and its lifetime, low word first

abbrev pub row_words : Core → Timed → List ℕ
row_words core t = stamp_address core t.stamp % 65536 ∷ t.lifetime % 65536 ∷ t.lifetime / 65536 % 65536 ∷ []

abbrev pub rows_words : Core → List Timed → List ℕ
rows_words core [] = []
rows_words core (t ∷ ts) = row_words core t ++ rows_words core ts

-- tables one behind the other, from a number on
abbrev pub table_items : Core → ℕ → List (List Timed) → List Item
table_items core n [] = []
table_items core n (rows ∷ more) = Label (table_label n) ∷ (map Word (rows_words core rows) ++ table_items core (suc n) more)

-- ---- the whole

-- what stands behind the functions, where each routine has its words
abbrev pub back_items : (Helper → List ℕ) → Core → Ir → List Item
back_items words core ir = routine_items words (routines_of ir) ++ table_items core 0 ir.tables

abbrev pub items_of : (Helper → List ℕ) → Core → Ir → List Item
items_of words core ir = all_items ir (start_items ir) (back_items words core ir)

-- the items in front of the check tables
abbrev pub code_items : (Helper → List ℕ) → Ir → List Item
code_items words ir = all_items ir (start_items ir) (routine_items words (routines_of ir))

-- where functions begin, from a number on: the words in front of each, where so many are in front of the first
abbrev pub function_starts : ℕ → Ir → ℕ → List IrFunction → List ℕ
function_starts words ir g [] = []
function_starts words ir g (fn ∷ fns) = words ∷ function_starts (words + words_in (function_items ir g fn)) ir (suc g) fns

-- behind all labels that stand in them
abbrev pub labels_end : Ir → ℕ
labels_end ir = first_table_label + length ir.tables
