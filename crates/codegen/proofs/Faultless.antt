-- The items of a program that is not refused have no fault: each label that is used stands once, jumps reach their labels,
-- and all is short enough.
use Rattle.std.proofs.Common.{◌≡◌, ℕ, suc, ◌+◌, ◌*◌, ◌<◌, ◌≤◌, refl, sym, ap, ◌∙◌, subst, arith, Bool, true, false, List, [], ◌∷◌, ◌++◌, length, append_assoc, map, Option, Some, if◌then◌else◌}
use Rattle.std.proofs.lemmas.Bool.Decides.{nat_tests}
use Rattle.std.proofs.lemmas.Int.{ints}
use Rattle.std.specs.Prelude.{slice_get, nat_eq, nat_lt, ℤ, pos}
use Rattle.isa430.specs.declared.instr.Cond.{Cond}
use Rattle.isa430.specs.declared.instr.Instr.{Instr}
use Rattle.isa430.specs.Table.{code_of, offset_formed}
use Rattle.isa430.proofs.Formats.{code_size}
use Rattle.core430.proofs.Sizes.{size_range}
use Rattle.c_run.specs.declared.timed.Timed.{Timed}
use Rattle.core_tree.specs.Costs.{each, function_rows, code_cost}
use Rattle.core_tree.specs.LawfulCore.{Every}
use Rattle.core_tree.specs.Nodes.{total}
use Rattle.core_tree.specs.declared.program.Core.{Core}
use Rattle.core_tree.specs.declared.program.Function.{Function}
use Rattle.c_meaning.specs.After.{is_main, main_from}
use Rattle.asm430.specs.declared.item.AsmErr.{AsmErr}
use Rattle.asm430.specs.declared.item.AsmErr.TheVariants.{Far, TooLong}
use Rattle.asm430.specs.declared.item.Item.{Item}
use Rattle.asm430.specs.declared.item.Item.TheVariants.{Instr as Plain, Label, Jump, Branch, CallTo, AddressOf, Word}
use Rattle.asm430.specs.Assembly.{words_of, words_in, place_of, distance, unbound_at, unbound_in, far_to, far_in, too_long, faults}
use Rattle.asm430.proofs.Labels.{words_append}
use Rattle.rt430.specs.declared.words.Helper.{Helper}
use Rattle.rt430.specs.Routines.{size as routine_size}
use Rattle.ir.specs.Table.{size}
use Rattle.ir.specs.declared.form.Ir.{Ir}
use Rattle.ir.specs.declared.form.IrFunction.{IrFunction}
use Rattle.ir.specs.declared.form.Step.{Step}
use Rattle.ir_gen.specs.Serves.{Serves, ServesFunction}
use Rattle.ir_gen.specs.Sizes.{weighed}
use Rattle.select430.specs.declared.part.Part.{Part}
use Rattle.select430.specs.declared.part.Part.TheVariants.{Do, DoUnless, Go, GoUnless, Enters, Helps, Names}
use Rattle.select430.specs.Code.{code_of_step}
use Rattle.select430.specs.Items.{block, steps_items, function_items, functions_items}
use Rattle.select430.specs.Labels.{function_label, step_label, inner_label, helper_number, helper_label, table_label}
use Rattle.select430.specs.Laws.{names_of}
use Rattle.select430.specs.Parts.{Name, label_of, part_items, parts_items, parts_names}
use Rattle.select430.proofs.Naming.{step_names}
use Rattle.select430.proofs.Owning.{fit_row}
use Rattle.codegen.specs.Laid.{IsProgram}
use Rattle.codegen.specs.Program.{start_items, has_call, called_of, all_helpers, routines_of, routine_items, rows_words, table_items, back_items, items_of, labels_end}
use Rattle.codegen.proofs.Called.{or_first, or_second, parts_call, placed_for}
use Rattle.follows430.proofs.Served.{served}
use Rattle.codegen.proofs.Lists.{same_some, none_some, some_at}
use Rattle.codegen.proofs.Rising.{LabelsRise, place_there, Standing, standing_left, standing_right, has_place, function_standing, of_function_standing, routine_standing, table_standing, program_rises}
use Rattle.codegen.proofs.RoutinesStand.{words_long}
use Rattle.codegen.proofs.Sizes.{all_small as fine_sizes}
use Rattle.codegen.proofs.Steps.{NamesInside, names_hold}

-- ---- items without a fault

abbrev HasPlace : List Item → ℕ → Type 0
HasPlace all l = (n : ℕ) × (place_of all l ≡ Some n)

-- at a place among all: what it names has a place, to which a jump reaches
abbrev IsFine : List Item → ℕ → Item → Type 0
IsFine all start (Plain i) = Unit {0}
IsFine all start (Label l) = Unit {0}
IsFine all start (Jump c l) = (n : ℕ) × (place_of all l ≡ Some (start + 1 + n)) × (n < 512)
IsFine all start (Branch l) = HasPlace all l
IsFine all start (CallTo l) = HasPlace all l
IsFine all start (AddressOf l r) = HasPlace all l
IsFine all start (Word w) = Unit {0}

abbrev AreFine : List Item → ℕ → List Item → Type 0
AreFine all start [] = Unit {0}
AreFine all start (x ∷ xs) = IsFine all start x × AreFine all (start + words_of x) xs

fine_append : (all : List Item) (start : ℕ) (xs ys : List Item) → AreFine all start xs → AreFine all (start + words_in xs) ys
    → AreFine all start (xs ++ ys)
fine_append all start [] ys h k =
    let none : start + 0 ≡ start = omega arith in
    subst (λ (n : ℕ). AreFine all n ys) none k
fine_append all start (x ∷ xs) ys h k =
    let further : start + (words_of x + words_in xs) ≡ start + words_of x + words_in xs = omega arith in
    (h.0, fine_append all (start + words_of x) xs ys h.1 (subst (λ (n : ℕ). AreFine all n ys) further k))

-- ---- none is unbound, and no jump goes too far

bound_at : (l n : ℕ) (o : Option ℕ) → o ≡ Some n → unbound_at l o ≡ []
bound_at l n o e = ap (unbound_at l) e

none_unbound : (all : List Item) (start : ℕ) (xs : List Item) → AreFine all start xs → unbound_in all xs ≡ []
none_unbound all start [] h = refl
none_unbound all start (Plain i ∷ xs) h = none_unbound all (start + words_of (Plain i)) xs h.1
none_unbound all start (Label l ∷ xs) h = none_unbound all (start + 0) xs h.1
none_unbound all start (Jump c l ∷ xs) h =
    ap (λ (es : List AsmErr). es ++ unbound_in all xs) (bound_at l (start + 1 + h.0.0) (place_of all l) h.0.1)
    ∙ none_unbound all (start + 1) xs h.1
none_unbound all start (Branch l ∷ xs) h =
    ap (λ (es : List AsmErr). es ++ unbound_in all xs) (bound_at l h.0.0 (place_of all l) h.0.1)
    ∙ none_unbound all (start + 2) xs h.1
none_unbound all start (CallTo l ∷ xs) h =
    ap (λ (es : List AsmErr). es ++ unbound_in all xs) (bound_at l h.0.0 (place_of all l) h.0.1)
    ∙ none_unbound all (start + 2) xs h.1
none_unbound all start (AddressOf l r ∷ xs) h =
    ap (λ (es : List AsmErr). es ++ unbound_in all xs) (bound_at l h.0.0 (place_of all l) h.0.1)
    ∙ none_unbound all (start + 2) xs h.1
none_unbound all start (Word w ∷ xs) h = none_unbound all (start + 1) xs h.1

over : (start n : ℕ) → distance start (start + 1 + n) ≡ pos n
over start n = omega (arith, ints)

reaches : (n : ℕ) → n < 512 → nat_lt n 512 ≡ true
reaches n l = grind (arith, nat_tests)

near : (number start n : ℕ) (o : Option ℕ) → o ≡ Some (start + 1 + n) → n < 512 → far_to number start o ≡ []
near number start n o e l =
    ap (far_to number start) e
    ∙ ap (λ (z : ℤ). if offset_formed z then [] else Far number z ∷ []) (over start n)
    ∙ ap (λ (t : Bool). if t then [] else Far number (pos n) ∷ []) (reaches n l)

none_far : (all : List Item) (number start : ℕ) (xs : List Item) → AreFine all start xs → far_in all number start xs ≡ []
none_far all number start [] h = refl
none_far all number start (Plain i ∷ xs) h = none_far all (number + 1) (start + words_of (Plain i)) xs h.1
none_far all number start (Label l ∷ xs) h = none_far all (number + 1) (start + 0) xs h.1
none_far all number start (Jump c l ∷ xs) h =
    ap (λ (es : List AsmErr). es ++ far_in all (number + 1) (start + 1) xs)
    (near number start h.0.0 (place_of all l) h.0.1 h.0.2)
    ∙ none_far all (number + 1) (start + 1) xs h.1
none_far all number start (Branch l ∷ xs) h = none_far all (number + 1) (start + 2) xs h.1
none_far all number start (CallTo l ∷ xs) h = none_far all (number + 1) (start + 2) xs h.1
none_far all number start (AddressOf l r ∷ xs) h = none_far all (number + 1) (start + 2) xs h.1
none_far all number start (Word w ∷ xs) h = none_far all (number + 1) (start + 1) xs h.1

-- ---- words and labels have none

words_fine : (all : List Item) (start : ℕ) (ws : List ℕ) → AreFine all start (map Word ws)
words_fine all start [] = tt
words_fine all start (w ∷ ws) = (tt, words_fine all (start + 1) ws)

routines_fine : (all : List Item) (start : ℕ) (words : Helper → List ℕ) (hs : List Helper)
    → AreFine all start (routine_items words hs)
routines_fine all start words [] = tt
routines_fine all start words (h ∷ hs) = (
  tt,
  fine_append all (start + 0) (map Word (words h)) (routine_items words hs) (words_fine all (start + 0) (words h))
      (routines_fine all (start + 0 + words_in (map Word (words h))) words hs),
)

tables_fine : (all : List Item) (start : ℕ) (core : Core) (n : ℕ) (rows : List (List Timed))
    → AreFine all start (table_items core n rows)
tables_fine all start core n [] = tt
tables_fine all start core n (r ∷ rows) = (
  tt,
  fine_append all (start + 0) (map Word (rows_words core r)) (table_items core (suc n) rows)
      (words_fine all (start + 0) (rows_words core r))
      (tables_fine all (start + 0 + words_in (map Word (rows_words core r))) core (suc n) rows),
)

-- ---- steps have none

code_short : (i : Instr) → length (code_of i) < 512
code_short i = let s = code_size i in let r = (size_range i).1 in omega arith

-- what stands behind some items, where these are part of the front
moved : (front part rest : List Item) → front ++ (part ++ rest) ≡ (front ++ part) ++ rest
moved front part rest = sym (append_assoc front part rest)

module _ (all : List Item) (hi : ℕ) (rise : LabelsRise 0 hi all) where
  -- a label has the place where it stands
  there : (l : ℕ) (front back : List Item) → all ≡ front ++ (Label l ∷ back) → place_of all l ≡ Some (words_in front)
  there l front back e =
      ap (λ (k : List Item). place_of k l) e ∙ place_there l 0 hi front back (subst (LabelsRise 0 hi) e rise)

  module _ (g p : ℕ) where
    abbrev Named : Name → Type 0
    Named n = HasPlace all (label_of g n)

    abbrev Helped : List Part → Type 0
    Helped xs = (which : Helper) → parts_call which xs ≡ true → HasPlace all (helper_label which)

    -- the label inside the step, behind what is skipped
    skipped : (c : Cond) (front rest : List Item) (x : Item) → all ≡ front ++ (Jump c (inner_label g p) ∷ x ∷ Label (inner_label g p) ∷ rest)
        → place_of all (inner_label g p) ≡ Some (words_in front + 1 + words_of x)
    skipped c front rest x e =
        let two : List Item = Jump c (inner_label g p) ∷ x ∷ [] in
        let long : words_in (front ++ two) ≡ words_in front + 1 + words_of x =
        words_append front two ∙ (let s : words_in front + (1 + (words_of x + 0)) ≡ words_in front + 1 + words_of x = omega arith in s) in
        there (inner_label g p) (front ++ two) rest (e ∙ moved front two (Label (inner_label g p) ∷ rest)) ∙ ap Some long

    same_number : (n : ℕ) → nat_eq n n ≡ true
    same_number n = grind (arith, nat_tests)

    one_more : (front : List Item) (x : Item) → words_in (front ++ (x ∷ [])) ≡ words_in front + words_of x
    one_more front x = let w = words_append front (x ∷ []) in omega arith

    three_more : (front : List Item) (x y z : Item)
        → words_in (front ++ (x ∷ y ∷ z ∷ [])) ≡ words_in front + words_of x + words_of y + words_of z
    three_more front x y z = let w = words_append front (x ∷ y ∷ z ∷ []) in omega arith

    parts_fine : (front rest : List Item) (xs : List Part) → all ≡ front ++ (parts_items g p xs ++ rest)
        → Every Named (parts_names xs) → Helped xs → AreFine all (words_in front) (parts_items g p xs)
    parts_fine front rest [] e n h = tt
    parts_fine front rest (Do i ∷ xs) e n h =
        let more = parts_fine (front ++ (Plain i ∷ [])) rest xs (e ∙ moved front (Plain i ∷ []) (parts_items g p xs ++ rest)) n h in
        (tt, subst (λ (k : ℕ). AreFine all k (parts_items g p xs)) (one_more front (Plain i)) more)
    parts_fine front rest (DoUnless c i ∷ xs) e n h =
        let own : List Item = part_items g p (DoUnless c i) in
        let more = parts_fine (front ++ own) rest xs (e ∙ moved front own (parts_items g p xs ++ rest)) n h in
        let far = three_more front (Jump c (inner_label g p)) (Plain i) (Label (inner_label g p)) in (
          (length (code_of i), skipped c front (parts_items g p xs ++ rest) (Plain i) e, code_short i),
          (tt, (tt, subst (λ (k : ℕ). AreFine all k (parts_items g p xs)) far more)),
        )
    parts_fine front rest (Go to ∷ xs) e n h =
        let own : List Item = part_items g p (Go to) in
        let more = parts_fine (front ++ own) rest xs (e ∙ moved front own (parts_items g p xs ++ rest)) n.1 h in
        (n.0, subst (λ (k : ℕ). AreFine all k (parts_items g p xs)) (one_more front (Branch (step_label g to))) more)
    parts_fine front rest (GoUnless c to ∷ xs) e n h =
        let own : List Item = part_items g p (GoUnless c to) in
        let more = parts_fine (front ++ own) rest xs (e ∙ moved front own (parts_items g p xs ++ rest)) n.1 h in
        let far = three_more front (Jump c (inner_label g p)) (Branch (step_label g to)) (Label (inner_label g p)) in (
          (2, skipped c front (parts_items g p xs ++ rest) (Branch (step_label g to)) e, omega arith),
          (n.0, (tt, subst (λ (k : ℕ). AreFine all k (parts_items g p xs)) far more)),
        )
    parts_fine front rest (Enters f ∷ xs) e n h =
        let own : List Item = part_items g p (Enters f) in
        let more = parts_fine (front ++ own) rest xs (e ∙ moved front own (parts_items g p xs ++ rest)) n.1 h in
        (n.0, subst (λ (k : ℕ). AreFine all k (parts_items g p xs)) (one_more front (CallTo (function_label f))) more)
    parts_fine front rest (Helps which ∷ xs) e n h =
        let own : List Item = part_items g p (Helps which) in
        let more = parts_fine (front ++ own) rest xs (e ∙ moved front own (parts_items g p xs ++ rest)) n
        (λ w c. h w (or_second (nat_eq (helper_number which) (helper_number w)) (parts_call w xs) c)) in
        let here = h which (or_first (nat_eq (helper_number which) (helper_number which)) (parts_call which xs)
        (same_number (helper_number which))) in
        (here, subst (λ (k : ℕ). AreFine all k (parts_items g p xs)) (one_more front (CallTo (helper_label which))) more)
    parts_fine front rest (Names t r ∷ xs) e n h =
        let own : List Item = part_items g p (Names t r) in
        let more = parts_fine (front ++ own) rest xs (e ∙ moved front own (parts_items g p xs ++ rest)) n.1 h in
        (n.0, subst (λ (k : ℕ). AreFine all k (parts_items g p xs)) (one_more front (AddressOf (table_label t) r)) more)

  -- ---- all functions

  module _ (ir : Ir) where
    -- what a step names has a place, and what it calls
    abbrev StepNamed : (g : ℕ) → IrFunction → Step → Type 0
    StepNamed g fn s =
        Every (λ n. HasPlace all (label_of g n)) (names_of s.kind)
        × ((which : Helper) → parts_call which (code_of_step ir fn s.kind) ≡ true → HasPlace all (helper_label which))

    steps_fine : (g : ℕ) (fn : IrFunction) (q : ℕ) (front rest : List Item) (ss : List Step)
        → all ≡ front ++ (steps_items ir fn g q ss ++ rest)
        → ((n : ℕ) (s : Step) → slice_get ss n ≡ Some s → StepNamed g fn s)
        → AreFine all (words_in front) (steps_items ir fn g q ss)
    steps_fine g fn q front rest [] e h = tt
    steps_fine g fn q front rest (s ∷ ss) e h =
        let own : List Item = parts_items g q (code_of_step ir fn s.kind) in
        let label : List Item = Label (step_label g q) ∷ [] in
        let later : List Item = steps_items ir fn g (suc q) ss in
        let one = h 0 s refl in
        let cut : all ≡ front ++ ((label ++ own) ++ (later ++ rest)) =
        e ∙ ap (λ (k : List Item). front ++ k) (append_assoc (label ++ own) later rest) in
        let upto : List Item = front ++ label in
        let mine = parts_fine g q upto (later ++ rest) (code_of_step ir fn s.kind) (cut ∙ moved front label (own ++ (later ++ rest)))
        (subst (Every (λ n. HasPlace all (label_of g n))) (sym (step_names ir fn s.kind)) one.0) one.1 in
        let more = steps_fine g fn (suc q) (front ++ (label ++ own)) rest ss (cut ∙ moved front (label ++ own) (later ++ rest))
        (λ n t k. h (suc n) t k) in
        let first : words_in upto ≡ words_in front + 0 = let w = words_append front label in omega arith in
        let past : words_in (front ++ (label ++ own)) ≡ words_in front + words_in (label ++ own) = words_append front (label ++ own) in
        fine_append all (words_in front) (label ++ own) later
        (tt, subst (λ (k : ℕ). AreFine all k own) first mine)
        (subst (λ (k : ℕ). AreFine all k later) past more)

    functions_fine : (g : ℕ) (front rest : List Item) (fns : List IrFunction)
        → all ≡ front ++ (functions_items ir g fns ++ rest)
        → ((n : ℕ) (fn : IrFunction) (q : ℕ) (s : Step) → slice_get fns n ≡ Some fn → slice_get fn.steps q ≡ Some s → StepNamed (g + n) fn s)
        → AreFine all (words_in front) (functions_items ir g fns)
    functions_fine g front rest [] e h = tt
    functions_fine g front rest (fn ∷ fns) e h =
        let own : List Item = steps_items ir fn g 0 fn.steps in
        let label : List Item = Label (function_label g) ∷ [] in
        let later : List Item = functions_items ir (suc g) fns in
        let cut : all ≡ front ++ ((label ++ own) ++ (later ++ rest)) =
        e ∙ ap (λ (k : List Item). front ++ k) (append_assoc (label ++ own) later rest) in
        let upto : List Item = front ++ label in
        let here : g + 0 ≡ g = omega arith in
        let mine = steps_fine g fn 0 upto (later ++ rest) fn.steps (cut ∙ moved front label (own ++ (later ++ rest)))
        (λ q s k. subst (λ (i : ℕ). StepNamed i fn s) here (h 0 fn q s refl k)) in
        let more = functions_fine (suc g) (front ++ (label ++ own)) rest fns (cut ∙ moved front (label ++ own) (later ++ rest))
        (λ n f q s i k. subst (λ (j : ℕ). StepNamed j f s) (let z : g + suc n ≡ suc g + n = omega arith in z) (h (suc n) f q s i k)) in
        let first : words_in upto ≡ words_in front + 0 = let w = words_append front label in omega arith in
        let past : words_in (front ++ (label ++ own)) ≡ words_in front + words_in (label ++ own) = words_append front (label ++ own) in
        fine_append all (words_in front) (label ++ own) later
        (tt, subst (λ (k : ℕ). AreFine all k own) first mine)
        (subst (λ (k : ℕ). AreFine all k later) past more)

-- ---- `main` is one of the functions

main_below : (n : ℕ) (fs : List Function) (k : ℕ) → main_from n fs ≡ Some k → k < n + length fs
main_below n [] k e = absurd (none_some k e)
main_below n (f ∷ fs) k e = from (is_main f) (main_below (n + 1) fs k) e
  where
    from : (b : Bool) → (main_from (n + 1) fs ≡ Some k → k < n + 1 + length fs)
        → (if b then Some n else main_from (n + 1) fs) ≡ Some k → k < n + length (f ∷ fs)
    from true more h = let is = same_some n k h in omega arith
    from false more h = let l = more h in omega arith

-- ---- the words

steps_small : (ir : Ir) (fn : IrFunction) (g q : ℕ) (ss : List Step)
    → 2 * words_in (steps_items ir fn g q ss) ≤ weighed size each ss
steps_small ir fn g q [] = omega arith
steps_small ir fn g q (s ∷ ss) =
    let one = fit_row ir fn g q s.kind in
    let more = steps_small ir fn g (suc q) ss in
    let own : List Item = block ir fn g q s in
    let both = words_append own (steps_items ir fn g (suc q) ss) in
    omega arith

functions_small : (core : Core) (ir : Ir) (g : ℕ) (xs : List Function) (fns : List IrFunction) → length fns ≡ length xs
    → ((n : ℕ) (x : Function) → slice_get xs n ≡ Some x
    → (fn : IrFunction) × (slice_get fns n ≡ Some fn) × ServesFunction core x fn)
    → 2 * words_in (functions_items ir g fns) ≤ total (map (function_rows each) xs)
functions_small core ir g [] [] e h = omega arith
functions_small core ir g [] (fn ∷ fns) e h = absurd (omega arith)
functions_small core ir g (x ∷ xs) [] e h = absurd (omega arith)
functions_small core ir g (x ∷ xs) (fn ∷ fns) e h =
    let f = h 0 x refl in
    let same : fn ≡ f.0 = same_some fn f.0 f.1 in
    let one = steps_small ir fn g 0 fn.steps in
    let rows : weighed size each fn.steps ≤ function_rows each x =
    subst (λ (k : IrFunction). weighed size each k.steps ≤ function_rows each x) (sym same) (f.2.fits.bytes each) in
    let more = functions_small core ir (suc g) xs fns (omega arith) (λ n y k. h (suc n) y k) in
    let both = words_append (function_items ir g fn) (functions_items ir (suc g) fns) in
    omega arith

-- the functions fit the rows of their nodes
functions_fit : (core : Core) (ir : Ir) → Serves core ir → 2 * words_in (functions_items ir 0 ir.functions) ≤ code_cost core
unfolding code_cost
functions_fit core ir serves = functions_small core ir 0 core.functions ir.functions serves.many serves.functions

-- and where there are no check tables, all that has to
pub have_room : (core : Core) (ir : Ir) → Serves core ir → ir.tables ≡ []
    → 2 * words_in (functions_items ir 0 ir.functions) + 2 * words_in (table_items core 0 ir.tables) ≤ code_cost core
have_room core ir serves none =
    let fit = functions_fit core ir serves in
    let empty : words_in (table_items core 0 ir.tables) ≡ 0 =
    ap (λ (rows : List (List Timed)). words_in (table_items core 0 rows)) none in
    omega arith

abbrev sizes : List Helper → ℕ
sizes hs = total (map (λ h. routine_size h) hs)

called_small : (items : List Item) (hs : List Helper) → sizes (called_of items hs) ≤ sizes hs
called_small items [] = omega arith
called_small items (h ∷ hs) = from (has_call (helper_label h) items) (called_small items hs)
  where
    from : (b : Bool) → sizes (called_of items hs) ≤ sizes hs
        → sizes (if b then h ∷ called_of items hs else called_of items hs) ≤ sizes (h ∷ hs)
    from true l = omega arith
    from false l = omega arith

routines_small : (words : Helper → List ℕ) → ((which : Helper) → length (words which) ≡ routine_size which) → (hs : List Helper)
    → words_in (routine_items words hs) ≡ sizes hs
routines_small words s [] = refl
routines_small words s (h ∷ hs) =
    let both = words_append (map Word (words h)) (routine_items words hs) in
    let own = words_long (words h) in
    let one = s h in
    let more = routines_small words s hs in
    omega arith

too_short : (n : ℕ) → n ≤ 14336 → too_long n ≡ []
too_short n l = ap (λ (t : Bool). if t then TooLong ∷ [] else []) (not_below n l)
  where
    not_below : (n : ℕ) → n ≤ 14336 → nat_lt 14336 n ≡ false
    not_below n l = grind (arith, nat_tests)

-- four words at the start, and the routines are few
all_small : (all functions back routines tables sum cost : ℕ) → all ≡ functions + back → back ≡ routines + tables
    → routines ≡ sum → sum ≤ sizes all_helpers → 2 * functions + 2 * tables ≤ cost → cost + 1024 ≤ 28672 → 2 + (2 + all) ≤ 14336
all_small all functions back routines tables sum cost a b c d e f = omega arith

-- ---- the whole

module _ (words : Helper → List ℕ) (sized : (which : Helper) → length (words which) ≡ routine_size which) (core : Core) (ir : Ir)
    (serves : Serves core ir) (few : length ir.functions ≤ 65536)
    (short : (g : ℕ) (fn : IrFunction) → slice_get ir.functions g ≡ Some fn → length fn.steps < 4294967296)
    (names : (g : ℕ) (fn : IrFunction) → slice_get ir.functions g ≡ Some fn → NamesInside ir fn) where
  abbrev items : List Item
  items = items_of words core ir

  rise : LabelsRise 0 (labels_end ir) items
  rise = program_rises words core ir few short

  abbrev functions : List Item
  functions = functions_items ir 0 ir.functions

  at_first : (n : ℕ) → 0 + n ≡ n
  at_first n = omega arith

  -- what stands in the functions, and what stands behind them
  in_functions : (l : ℕ) → Standing l functions → HasPlace items l
  in_functions l s =
      has_place l 0 (labels_end ir) items rise
      (standing_right l (start_items ir) (functions ++ back_items words core ir)
      (standing_left l functions (back_items words core ir) s))

  in_back : (l : ℕ) → Standing l (back_items words core ir) → HasPlace items l
  in_back l s =
      has_place l 0 (labels_end ir) items rise
      (standing_right l (start_items ir) (functions ++ back_items words core ir)
      (standing_right l functions (back_items words core ir) s))

  function_there : (f : ℕ) (fn : IrFunction) → slice_get ir.functions f ≡ Some fn → HasPlace items (function_label f)
  function_there f fn e = in_functions (function_label f)
      (subst (λ (n : ℕ). Standing (function_label n) functions) (at_first f) (function_standing ir 0 ir.functions f fn e))

  all_named : (g : ℕ) (fn : IrFunction) (q : ℕ) (s : Step) → slice_get ir.functions g ≡ Some fn → slice_get fn.steps q ≡ Some s
      → StepNamed items (labels_end ir) rise ir g fn s
  all_named g fn q s e k =
      let inside = names g fn e in (
        names_hold (λ n. HasPlace items (label_of g n)) ir fn
            (λ to l. let x = some_at fn.steps to l in
            in_functions (step_label g to) (subst (λ (n : ℕ). Standing (step_label n to) functions) (at_first g)
            (of_function_standing ir 0 ir.functions g fn to x.0 e x.1)))
            function_there
            (λ t l. in_back (table_label t) (standing_right (table_label t) (routine_items words (routines_of ir))
            (table_items core 0 ir.tables) (subst (λ (n : ℕ). Standing (table_label n) (table_items core 0 ir.tables)) (at_first t)
            (table_standing core 0 ir.tables t l))))
            s.kind (inside.jumps q s k) (inside.names q s k),
        (λ which c. in_back (helper_label which) (standing_left (helper_label which) (routine_items words (routines_of ir))
            (table_items core 0 ir.tables) (routine_standing words (routines_of ir) which (placed_for ir g q fn s which e k c)))),
      )

  main_there : HasPlace items (function_label ir.main)
  main_there =
      let below = main_below 0 core.functions ir.main serves.main in
      let many = serves.many in
      let x = some_at ir.functions ir.main (omega arith) in
      function_there ir.main x.0 x.1

  all_fine : AreFine items 0 items
  all_fine =
      let start : List Item = start_items ir in
      let back : List Item = back_items words core ir in
      let own = functions_fine items (labels_end ir) rise ir 0 start back ir.functions refl
      (λ n fn q s e k. subst (λ (g : ℕ). StepNamed items (labels_end ir) rise ir g fn s) (sym (at_first n))
      (all_named n fn q s e k)) in (
        main_there,
        (
          tt,
          fine_append items 4 functions back own
              (fine_append items (4 + words_in functions) (routine_items words (routines_of ir)) (table_items core 0 ir.tables)
              (routines_fine items (4 + words_in functions) words (routines_of ir))
              (tables_fine items (4 + words_in functions + words_in (routine_items words (routines_of ir))) core 0 ir.tables)),
        ),
      )

  pub no_fault : code_cost core + 1024 ≤ 28672
      → 2 * words_in functions + 2 * words_in (table_items core 0 ir.tables) ≤ code_cost core → faults items ≡ []
  no_fault cost room =
      let back : words_in (back_items words core ir)
      ≡ words_in (routine_items words (routines_of ir)) + words_in (table_items core 0 ir.tables) =
      words_append (routine_items words (routines_of ir)) (table_items core 0 ir.tables) in
      let behind : words_in (functions ++ back_items words core ir) ≡ words_in functions + words_in (back_items words core ir) =
      words_append functions (back_items words core ir) in
      let small : words_in items ≤ 14336 =
      all_small (words_in (functions ++ back_items words core ir)) (words_in functions) (words_in (back_items words core ir))
      (words_in (routine_items words (routines_of ir))) (words_in (table_items core 0 ir.tables)) (sizes (routines_of ir))
      (code_cost core) behind back (routines_small words sized (routines_of ir)) (called_small functions all_helpers) room cost in
      ap (λ (es : List AsmErr). es ++ (far_in items 0 0 items ++ too_long (words_in items))) (none_unbound items 0 items all_fine)
      ∙ ap (λ (es : List AsmErr). es ++ too_long (words_in items)) (none_far items 0 0 items all_fine)
      ∙ too_short (words_in items) small

-- ---- of a program that is not refused

module _ (routine : Helper → List ℕ) (core : Core) (ir : Ir) (code : List ℕ) (h : IsProgram routine core ir code) where
  pub few_functions : length ir.functions ≤ 65536
  few_functions = let few = h.lawful.few_functions in let many = h.serves.many in omega arith

  pub names_inside : (g : ℕ) (fn : IrFunction) → slice_get ir.functions g ≡ Some fn → NamesInside ir fn
  names_inside g fn e =
      let x = served core ir h.serves g fn e in
      record { jumps = x.serves.jumps; names = h.serves.names h.lawful g x.function fn x.is e }

  pub is_faultless : faults (items_of routine core ir) ≡ []
  is_faultless = no_fault routine h.sized core ir h.serves few_functions h.few names_inside (fine_sizes core h.fine).code h.room
