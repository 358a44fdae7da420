-- What is made of a program that is not refused is its image.
use Rattle.std.proofs.Common.{◌≡◌, ℕ, suc, ◌+◌, ◌*◌, ◌/◌, ◌%◌, ◌≤◌, refl, sym, ap, ◌∙◌, subst, arith, List, [], ◌∷◌, length}
use Rattle.std.proofs.lemmas.Bool.Decides.{nat_tests}
use Rattle.std.specs.Prelude.{Some, None, slice_get, slice_index}
use Rattle.base16.specs.declared.image.FuncSym.{FuncSym}
use Rattle.base16.specs.Board.{data_start}
use Rattle.base16.specs.declared.image.Scalar.{Scalar}
use Rattle.core430.specs.Uses.{AreWords}
use Rattle.core_tree.specs.Data.{data_bytes, scalars}
use Rattle.core_tree.specs.Heights.{frame_bytes, capped, of_function, told_frame}
use Rattle.core_tree.specs.LawfulCore.{LawfulCore}
use Rattle.core_tree.specs.declared.program.Core.{Core}
use Rattle.core_tree.specs.declared.program.Function.{Function}
use Rattle.asm430.specs.declared.item.Item.{Item}
use Rattle.asm430.specs.Assembly.{words_in, place_of, address, faults}
use Rattle.asm430.proofs.Labels.{words_append}
use Rattle.rt430.specs.declared.words.Helper.{Helper}
use Rattle.rt430.specs.Routines.{Computes, size}
use Rattle.ir.specs.declared.form.Ir.{Ir}
use Rattle.ir.specs.declared.form.IrFunction.{IrFunction}
use Rattle.ir_gen.specs.Plain.{IsPlain}
use Rattle.ir_gen.specs.Serves.{Serves}
use Rattle.select430.specs.Labels.{function_label}
use Rattle.codegen.specs.Laid.{IsProgram}
use Rattle.codegen.specs.Made.{AreWordsOf, IsImageOf, functions_from}
use Rattle.codegen.specs.Placing.{AreItemsOf}
use Rattle.codegen.specs.Program.{code_items, table_items, items_of, function_starts}
use Rattle.codegen.specs.Refused.{refusal_of}
use Rattle.codegen.specs.Symbols.{symbol, symbols}
use Rattle.codegen.specs.Words.{data_of, global_words}
use Rattle.codegen.specs.declared.items.ProgramItems.{ProgramItems}
use Rattle.codegen.proofs.Assembled.{short_code}
use Rattle.codegen.proofs.Beginning.{starts_count, starts_stand, items_split}
use Rattle.codegen.proofs.Bounds.{label_within}
use Rattle.codegen.proofs.DataWords.{words_count}
use Rattle.codegen.proofs.Faultless.{have_room, no_fault}
use Rattle.codegen.proofs.Steps.{NamesInside}
use Rattle.codegen.proofs.Sizes.{all_small}
use Rattle.follows430.proofs.Served.{served}

-- items that were assembled are few
pub short_words : (items : List Item) (words : List ℕ) → faults items ≡ [] → length words ≡ words_in items → length words ≤ 14336
short_words items words none long = let short = short_code items none in omega arith

-- ---- the functions are told as they stand

small_whole : (n : ℕ) → n ≤ 240 → capped n % 65536 ≡ n
small_whole n l = grind (arith, nat_tests)

frame_told : (core : Core) (n : ℕ) (x : Function) → slice_get core.functions n ≡ Some x → frame_bytes core.structs x ≤ 240
    → told_frame core n % 65536 ≡ frame_bytes core.structs x
unfolding told_frame
frame_told core n x e l =
    ap (λ o. of_function (frame_bytes core.structs) o % 65536) e ∙ small_whole (frame_bytes core.structs x) l

module _ (items : List Item) (core : Core) where
  -- a function whose label has this place
  at_place : (n s : ℕ) (x : Function) → place_of items (function_label n) ≡ Some s → s ≤ 14336
      → told_frame core n % 65536 ≡ frame_bytes core.structs x
      → symbol core n x.name s
      ≡ record { name = x.name; address = address (place_of items (function_label n)); frame = frame_bytes core.structs x }
  at_place n s x here short frame =
      ap (λ (f : ℕ). record { name = x.name; address = (0x8000 + 2 * s) % 65536; frame = f }) frame
      ∙ ap (λ (a : ℕ). record { name = x.name; address = a; frame = frame_bytes core.structs x })
      (let z : (0x8000 + 2 * s) % 65536 ≡ 0x8000 + 2 * s = omega arith in z ∙ ap address (sym here))

  told_from : (n : ℕ) (ss : List ℕ) (xs : List Function) → length ss ≡ length xs
      → ((k s : ℕ) → slice_get ss k ≡ Some s → (place_of items (function_label (n + k)) ≡ Some s) × (s ≤ 14336))
      → ((k : ℕ) (x : Function) → slice_get xs k ≡ Some x → told_frame core (n + k) % 65536 ≡ frame_bytes core.structs x)
      → symbols core n ss xs ≡ functions_from items core.structs n xs
  told_from n [] [] e h f = refl
  told_from n [] (x ∷ xs) e h f = absurd (omega arith)
  told_from n (s ∷ ss) [] e h f = absurd (omega arith)
  told_from n (s ∷ ss) (x ∷ xs) e h f =
      let none : n + 0 ≡ n = omega arith in
      let here = h 0 s refl in
      let first = at_place n s x (subst (λ (m : ℕ). place_of items (function_label m) ≡ Some s) none here.0) here.1
      (subst (λ (m : ℕ). told_frame core m % 65536 ≡ frame_bytes core.structs x) none (f 0 x refl)) in
      let later : (k : ℕ) → n + suc k ≡ suc n + k = λ k. omega arith in
      ap (λ (y : FuncSym). y ∷ symbols core (suc n) ss xs) first
      ∙ ap (λ (ys : List FuncSym). record { name = x.name; address = address (place_of items (function_label n)); frame = frame_bytes core.structs x } ∷ ys)
      (told_from (suc n) ss xs (omega arith)
      (λ k t l. subst (λ (m : ℕ). (place_of items (function_label m) ≡ Some t) × (t ≤ 14336)) (later k) (h (suc k) t l))
      (λ k y l. subst (λ (m : ℕ). told_frame core m % 65536 ≡ frame_bytes core.structs y) (later k) (f (suc k) y l)))

-- ---- what was made of a lawful program without annotated statements and a form that serves it

module _ (routine : Helper → List ℕ) (core : Core) (ir : Ir) (made : ProgramItems) (is : AreItemsOf routine core ir made)
    (computes : (which : Helper) → Computes which (routine which)) (sized : (which : Helper) → length (routine which) ≡ size which)
    (fine : refusal_of core ≡ None) (lawful : LawfulCore core) (plain : IsPlain core) (serves : Serves core ir) where
  abbrev items : List Item
  items = items_of routine core ir

  names_inside : (g : ℕ) (fn : IrFunction) → slice_get ir.functions g ≡ Some fn → NamesInside ir fn
  names_inside g fn e =
      let x = served core ir serves g fn e in
      record { jumps = x.serves.jumps; names = serves.names lawful g x.function fn x.is e }

  -- its items have no fault, so they are few
  faultless : faults items ≡ []
  faultless = no_fault routine sized core ir serves is.few.functions is.few.steps names_inside (all_small core fine).code
      (have_room core ir serves (serves.tables plain))

  short : words_in items ≤ 14336
  short = short_code items faultless

  of_items : (code : List ℕ) → AreWordsOf made.items.items code → AreWordsOf items code
  of_items code words = subst (λ (xs : List Item). AreWordsOf xs code) is.items words

  -- and with their words it is a program as its image has it
  pub is_program : (code : List ℕ) → AreWordsOf made.items.items code → AreWords (slice_index code)
      → IsProgram routine core ir code
  is_program code words wide = record {
    lawful = lawful;
    plain = plain;
    serves = serves;
    few = is.few.steps;
    computes = computes;
    sized = sized;
    fine = fine;
    room = have_room core ir serves (serves.tables plain);
    words = of_items code words;
    wide = wide;
  }

  -- a function begins where it is said to
  at_start : (n s : ℕ) → slice_get (function_starts 4 ir 0 ir.functions) n ≡ Some s
      → (place_of items (function_label n) ≡ Some s) × (s ≤ 14336)
  at_start n s e =
      let here : place_of items (function_label n) ≡ Some s = starts_stand routine core ir is.few n s e in
      let l = label_within items (function_label n) in
      let same : address (place_of items (function_label n)) ≡ 0x8000 + 2 * s = ap address here in
      let small = short in
      (here, omega arith)

  front_short : words_in (code_items routine ir) ≤ 14336
  front_short =
      let both = words_append (code_items routine ir) (table_items core 0 ir.tables) in
      let same = ap words_in (items_split routine core ir) in
      let small = short in
      omega arith

  functions_told : symbols core 0 made.starts.items core.functions ≡ functions_from items core.structs 0 core.functions
  functions_told =
      let many = serves.many in
      let long = starts_count 4 ir 0 ir.functions in
      let plus : (n : ℕ) → n ≡ 0 + n = λ n. omega arith in
      ap (λ (ss : List ℕ). symbols core 0 ss core.functions) is.starts
      ∙ told_from items core 0 (function_starts 4 ir 0 ir.functions) core.functions (omega arith)
      (λ n s e. subst (λ (m : ℕ). (place_of items (function_label m) ≡ Some s) × (s ≤ 14336)) (plus n) (at_start n s e))
      (λ n x e. subst (λ (m : ℕ). told_frame core m % 65536 ≡ frame_bytes core.structs x) (plus n)
      (frame_told core n x e ((all_small core fine).frames n x e)))

  -- an image with these parts is the program's
  pub is_image : (code globals : List ℕ) (told : List Scalar) (functions : List FuncSym) → AreWordsOf made.items.items code
      → globals ≡ global_words core → told ≡ scalars core → functions ≡ symbols core 0 made.starts.items core.functions
      → IsImageOf routine core ir (record {
        code = code;
        tables = made.tables % 65536;
        globals = globals;
        symbols = record { scalars = told; functions = functions };
      })
  is_image code globals told functions words filled names starts = record {
    code = of_items code words;
    tables =
        (let small = front_short in
        let same = is.tables in
        let whole : made.tables % 65536 ≡ made.tables = omega arith in whole ∙ same);
    globals = filled;
    scalars = names;
    functions = starts ∙ functions_told;
  }

-- the data of a program that is not refused have room
pub data_fit : (core : Core) → refusal_of core ≡ None → (words : List ℕ) → words ≡ global_words core → length words ≤ 8192
data_fit core fine words e =
    let long : length words ≡ data_bytes core / 2 = ap length e ∙ words_count (data_of core) data_start (data_bytes core / 2) in
    let small = (all_small core fine).variables in
    omega arith
