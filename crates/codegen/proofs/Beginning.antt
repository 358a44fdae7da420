-- Where functions begin is where their labels stand.
use Rattle.std.proofs.Common.{◌≡◌, ℕ, zero, suc, ◌+◌, ◌<◌, ◌≤◌, refl, sym, ap, ◌∙◌, subst, arith, List, [], ◌∷◌, ◌++◌, length, append_assoc, Some, None, ◌⊎◌, inl, inr}
use Rattle.std.proofs.lemmas.Option.{slice_get_cases}
use Rattle.std.specs.Prelude.{slice_get, get_or}
use Rattle.asm430.specs.declared.item.Item.{Item}
use Rattle.asm430.specs.declared.item.Item.TheVariants.{Label}
use Rattle.asm430.specs.Assembly.{words_in, place_of}
use Rattle.asm430.proofs.Labels.{words_append}
use Rattle.core_tree.specs.declared.program.Core.{Core}
use Rattle.rt430.specs.declared.words.Helper.{Helper}
use Rattle.ir.specs.declared.form.Ir.{Ir}
use Rattle.ir.specs.declared.form.IrFunction.{IrFunction}
use Rattle.select430.specs.Items.{steps_items, function_items, functions_items}
use Rattle.select430.specs.Labels.{function_label}
use Rattle.codegen.specs.Placing.{IsFew}
use Rattle.codegen.specs.Program.{start_items, routines_of, routine_items, table_items, back_items, code_items, items_of, function_starts, labels_end}
use Rattle.codegen.proofs.Lists.{none_some}
use Rattle.codegen.proofs.Rising.{LabelsRise, place_there, program_rises}

-- a function among those from a number on, with so many words in front of the first
record Begins (words : ℕ) (ir : Ir) (g : ℕ) (fns : List IrFunction) (n : ℕ) : Type 0 where
  front : List Item
  back : List Item
  is : functions_items ir g fns ≡ front ++ (Label (function_label (g + n)) ∷ back)
  start : slice_get (function_starts words ir g fns) n ≡ Some (words + words_in front)

begins : (words : ℕ) (ir : Ir) (g : ℕ) (fns : List IrFunction) (n : ℕ) → n < length fns → Begins words ir g fns n
begins words ir g [] n l = absurd (omega arith)
begins words ir g (x ∷ xs) zero l =
    let back : List Item = steps_items ir x g 0 x.steps ++ functions_items ir (suc g) xs in
    record {
      front = [];
      back = back;
      is = ap (λ (k : ℕ). Label (function_label k) ∷ back) (let e : g ≡ g + 0 = omega arith in e);
      start = ap Some (let e : words ≡ words + 0 = omega arith in e);
    }
begins words ir g (x ∷ xs) (suc n) l =
    let own : List Item = function_items ir g x in
    let r = begins (words + words_in own) ir (suc g) xs n (omega arith) in
    let both = words_append own r.front in
    let further : words + words_in own + words_in r.front ≡ words + words_in (own ++ r.front) = omega arith in
    record {
      front = own ++ r.front;
      back = r.back;
      is = ap (λ (k : List Item). own ++ k) r.is
          ∙ ap (λ (k : ℕ). own ++ (r.front ++ (Label (function_label k) ∷ r.back))) (let e : suc g + n ≡ g + suc n = omega arith in e)
          ∙ sym (append_assoc own r.front (Label (function_label (g + suc n)) ∷ r.back));
      start = r.start ∙ ap Some further;
    }

nested : (s f b t : List Item) (x : Item) → s ++ ((f ++ (x ∷ b)) ++ t) ≡ (s ++ f) ++ (x ∷ (b ++ t))
nested s f b t x =
    ap (λ (k : List Item). s ++ k) (append_assoc f (x ∷ b) t) ∙ sym (append_assoc s f (x ∷ (b ++ t)))

start_of : (routine : Helper → List ℕ) (core : Core) (ir : Ir) → length ir.functions ≤ 65536
    → ((g : ℕ) (fn : IrFunction) → slice_get ir.functions g ≡ Some fn → length fn.steps < 4294967296)
    → (n : ℕ) → n < length ir.functions
    → slice_get (function_starts 4 ir 0 ir.functions) n ≡ place_of (items_of routine core ir) (function_label n)
start_of routine core ir few short n l =
    let r = begins 4 ir 0 ir.functions n l in
    let items : List Item = items_of routine core ir in
    let label : ℕ = function_label (0 + n) in
    let front : List Item = start_items ir ++ r.front in
    let back : List Item = r.back ++ back_items routine core ir in
    let cut : items ≡ front ++ (Label label ∷ back) =
    ap (λ (k : List Item). start_items ir ++ (k ++ back_items routine core ir)) r.is
    ∙ nested (start_items ir) r.front r.back (back_items routine core ir) (Label label) in
    let rise : LabelsRise 0 (labels_end ir) (front ++ (Label label ∷ back)) =
    subst (LabelsRise 0 (labels_end ir)) cut (program_rises routine core ir few short) in
    let there : place_of items label ≡ Some (words_in front) =
    ap (λ (k : List Item). place_of k label) cut ∙ place_there label 0 (labels_end ir) front back rise in
    let four : 4 + words_in r.front ≡ words_in front = omega arith in
    r.start ∙ ap Some four ∙ sym there
    ∙ ap (λ (k : ℕ). place_of items (function_label k)) (let e : 0 + n ≡ n = omega arith in e)

-- ---- where a function begins

pub starts_count : (words : ℕ) (ir : Ir) (g : ℕ) (fns : List IrFunction) → length (function_starts words ir g fns) ≡ length fns
starts_count words ir g [] = refl
starts_count words ir g (x ∷ xs) = ap suc (starts_count (words + words_in (function_items ir g x)) ir (suc g) xs)

pub starts_stand : (routine : Helper → List ℕ) (core : Core) (ir : Ir) → IsFew ir → (n start : ℕ)
    → slice_get (function_starts 4 ir 0 ir.functions) n ≡ Some start
    → place_of (items_of routine core ir) (function_label n) ≡ Some start
starts_stand routine core ir few n start e = from (slice_get_cases (function_starts 4 ir 0 ir.functions) n).1
  where
    from : ((s : ℕ) × (n < length (function_starts 4 ir 0 ir.functions))
        × (slice_get (function_starts 4 ir 0 ir.functions) n ≡ Some s) × (get_or (function_starts 4 ir 0 ir.functions) n s ≡ s))
        ⊎ ((length (function_starts 4 ir 0 ir.functions) ≤ n) × (slice_get (function_starts 4 ir 0 ir.functions) n ≡ None))
        → place_of (items_of routine core ir) (function_label n) ≡ Some start
    from (inl h) =
        let long = starts_count 4 ir 0 ir.functions in
        let l = h.1 in
        sym (start_of routine core ir few.functions few.steps n (omega arith)) ∙ e
    from (inr h) = absurd (none_some start (sym h.1 ∙ e))

-- the check tables stand behind the code
pub items_split : (routine : Helper → List ℕ) (core : Core) (ir : Ir)
    → items_of routine core ir ≡ code_items routine ir ++ table_items core 0 ir.tables
items_split routine core ir =
    let start : List Item = start_items ir in
    let functions : List Item = functions_items ir 0 ir.functions in
    let routines : List Item = routine_items routine (routines_of ir) in
    let tables : List Item = table_items core 0 ir.tables in
    ap (λ (k : List Item). start ++ k) (sym (append_assoc functions routines tables))
    ∙ sym (append_assoc start (functions ++ routines) tables)
