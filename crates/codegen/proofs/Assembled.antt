-- The items are assembled in the memory into which the image is loaded.
use Rattle.std.proofs.Common.{◌≡◌, ℕ, suc, ◌+◌, ◌-◌, ◌*◌, ◌/◌, ◌%◌, ◌<◌, ◌≤◌, refl, sym, ap, ◌∙◌, arith, Bool, true, false, List, [], ◌∷◌, ◌++◌, length, map, if◌then◌else◌}
use Rattle.std.proofs.lemmas.Bool.{and_parts, and_from}
use Rattle.std.proofs.lemmas.Bool.Decides.{nat_tests}
use Rattle.std.specs.Prelude.{IsTrue, slice_index}
use Rattle.base16.specs.Board.{data_start, data_end, code_start, code_end}
use Rattle.isa430.specs.Table.{WordsAt}
use Rattle.ideal430.specs.Loaded.{loaded, control_word}
use Rattle.ideal430.specs.Places.{is_between, is_even}
use Rattle.core_tree.specs.declared.program.Core.{Core}
use Rattle.c_run.specs.declared.timed.Timed.{Timed}
use Rattle.asm430.specs.declared.item.Item.{Item}
use Rattle.asm430.specs.declared.item.Item.TheVariants.{Word}
use Rattle.asm430.specs.Assembly.{is_formed, are_formed, words_in, faults, first}
use Rattle.asm430.proofs.Placing.{faultless}
use Rattle.placed430.specs.Assembled.{IsAssembled}
use Rattle.rt430.specs.declared.words.Helper.{Helper}
use Rattle.ir.specs.declared.form.Ir.{Ir}
use Rattle.ir.specs.declared.form.IrFunction.{IrFunction}
use Rattle.ir.specs.declared.form.Step.{Step}
use Rattle.select430.specs.Items.{block, steps_items, function_items, functions_items}
use Rattle.select430.proofs.Owning.{are_own}
use Rattle.codegen.specs.Program.{start_items, routine_items, routines_of, rows_words, table_items, items_of}
use Rattle.codegen.specs.Made.{AreWordsOf}

-- ---- all items are formed

formed_append : (xs ys : List Item) → IsTrue (are_formed xs) → IsTrue (are_formed ys) → IsTrue (are_formed (xs ++ ys))
formed_append [] ys h k = k
formed_append (x ∷ xs) ys h k =
    let parts = and_parts (is_formed x) (are_formed xs) h in
    and_from (is_formed x) (are_formed (xs ++ ys)) parts.0 (formed_append xs ys parts.1 k)

words_formed : (ws : List ℕ) → IsTrue (are_formed (map Word ws))
words_formed [] = refl
words_formed (w ∷ ws) = words_formed ws

steps_formed : (ir : Ir) (fn : IrFunction) (g q : ℕ) (ss : List Step) → IsTrue (are_formed (steps_items ir fn g q ss))
steps_formed ir fn g q [] = refl
steps_formed ir fn g q (s ∷ ss) =
    formed_append (block ir fn g q s) (steps_items ir fn g (suc q) ss) (are_own ir fn g q s.kind).formed
    (steps_formed ir fn g (suc q) ss)

functions_formed : (ir : Ir) (g : ℕ) (fns : List IrFunction) → IsTrue (are_formed (functions_items ir g fns))
functions_formed ir g [] = refl
functions_formed ir g (fn ∷ fns) =
    formed_append (function_items ir g fn) (functions_items ir (suc g) fns) (steps_formed ir fn g 0 fn.steps)
    (functions_formed ir (suc g) fns)

routines_formed : (words : Helper → List ℕ) (hs : List Helper) → IsTrue (are_formed (routine_items words hs))
routines_formed words [] = refl
routines_formed words (w ∷ ws) =
    formed_append (map Word (words w)) (routine_items words ws) (words_formed (words w)) (routines_formed words ws)

tables_formed : (core : Core) (n : ℕ) (rows : List (List Timed)) → IsTrue (are_formed (table_items core n rows))
tables_formed core n [] = refl
tables_formed core n (r ∷ rows) =
    formed_append (map Word (rows_words core r)) (table_items core (suc n) rows) (words_formed (rows_words core r))
    (tables_formed core (suc n) rows)

pub all_formed : (words : Helper → List ℕ) (core : Core) (ir : Ir) → IsTrue (are_formed (items_of words core ir))
all_formed words core ir =
    formed_append (start_items ir)
    (functions_items ir 0 ir.functions ++ (routine_items words (routines_of ir) ++ table_items core 0 ir.tables))
    refl
    (formed_append (functions_items ir 0 ir.functions) (routine_items words (routines_of ir) ++ table_items core 0 ir.tables)
    (functions_formed ir 0 ir.functions)
    (formed_append (routine_items words (routines_of ir)) (table_items core 0 ir.tables)
    (routines_formed words (routines_of ir)) (tables_formed core 0 ir.tables)))

-- ---- what was loaded

between_code : (a : ℕ) → code_start ≤ a → a < code_end → is_between code_start code_end a ≡ true
between_code a l h = grind (arith, nat_tests)

not_data : (a : ℕ) → code_start ≤ a → is_between data_start data_end a ≡ false
not_data a l = grind (arith, nat_tests)

even_is : (a : ℕ) → a % 2 ≡ 0 → is_even a ≡ true
even_is a e = grind (arith, nat_tests)

pub code_loaded : (code globals : List ℕ) (a : ℕ) → a % 2 ≡ 0 → code_start ≤ a → a < code_end
    → loaded code globals a ≡ slice_index code ((a - code_start) / 2)
code_loaded code globals a e l h =
    ap (λ (t : Bool). if t then (if is_between data_start data_end a then slice_index globals ((a - data_start) / 2)
    else (if is_between code_start code_end a then slice_index code ((a - code_start) / 2) else control_word a)) else 0)
    (even_is a e)
    ∙ ap (λ (t : Bool). if t then slice_index globals ((a - data_start) / 2)
    else (if is_between code_start code_end a then slice_index code ((a - code_start) / 2) else control_word a)) (not_data a l)
    ∙ ap (λ (t : Bool). if t then slice_index code ((a - code_start) / 2) else control_word a) (between_code a l h)

between_data : (a : ℕ) → data_start ≤ a → a < data_end → is_between data_start data_end a ≡ true
between_data a l h = grind (arith, nat_tests)

pub data_loaded : (code globals : List ℕ) (a : ℕ) → a % 2 ≡ 0 → data_start ≤ a → a < data_end
    → loaded code globals a ≡ slice_index globals ((a - data_start) / 2)
data_loaded code globals a e l h =
    ap (λ (t : Bool). if t then (if is_between data_start data_end a then slice_index globals ((a - data_start) / 2)
    else (if is_between code_start code_end a then slice_index code ((a - code_start) / 2) else control_word a)) else 0)
    (even_is a e)
    ∙ ap (λ (t : Bool). if t then slice_index globals ((a - data_start) / 2)
    else (if is_between code_start code_end a then slice_index code ((a - code_start) / 2) else control_word a))
    (between_data a l h)

-- the words stand, where each is read
words_by : (m : ℕ → ℕ) (a : ℕ) (ws : List ℕ) → ((k : ℕ) → k < length ws → m (a + 2 * k) ≡ slice_index ws k) → WordsAt m a ws
words_by m a [] h = tt
words_by m a (w ∷ ws) h =
    let long : length (w ∷ ws) ≡ suc (length ws) = refl in (
      ap m (let z : a ≡ a + 2 * 0 = omega arith in z) ∙ h 0 (omega arith),
      words_by m (a + 2) ws
          (λ k l. ap m (let z : a + 2 + 2 * k ≡ a + 2 * suc k = omega arith in z) ∙ h (suc k) (omega arith)),
    )

pub held : (code globals : List ℕ) → length code ≤ 14336 → WordsAt (loaded code globals) 0x8000 code
held code globals short =
    words_by (loaded code globals) 0x8000 code
    (λ k l. code_loaded code globals (0x8000 + 2 * k) (omega arith) (omega arith) (omega arith)
    ∙ ap (slice_index code) (let z : (0x8000 + 2 * k - 0x8000) / 2 ≡ k = omega arith in z))

pub short_code : (items : List Item) → faults items ≡ [] → words_in items ≤ 14336
short_code items none = (faultless items (sym (ap first none))).short

pub assembled : (words : Helper → List ℕ) (core : Core) (ir : Ir) (code globals : List ℕ)
    → AreWordsOf (items_of words core ir) code
    → faults (items_of words core ir) ≡ [] → IsAssembled (items_of words core ir) code (loaded code globals)
assembled words core ir code globals h none =
    let short = short_code (items_of words core ir) none in
    let long = h.long in
    record {
      formed = all_formed words core ir;
      faultless = none;
      stands = h.memory;
      held = held code globals (omega arith);
    }
