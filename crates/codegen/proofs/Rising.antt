-- Items whose labels rise: a label that stands among them stands once, and denotes the place where it stands.
use Rattle.std.proofs.Common.{◌≡◌, ◌≢◌, ℕ, zero, suc, ◌+◌, ◌<◌, ◌≤◌, refl, sym, ap, ◌∙◌, subst, arith, Bool, false, inl, inr, List, [], ◌∷◌, ◌++◌, length, append_assoc, Some, if◌then◌else◌}
use Rattle.std.proofs.lemmas.Bool.{eq-eqb, ne_eqb}
use Rattle.std.specs.Prelude.{map, slice_get}
use Rattle.c_run.specs.declared.timed.Timed.{Timed}
use Rattle.core_tree.specs.declared.program.Core.{Core}
use Rattle.asm430.specs.declared.item.Item.{Item}
use Rattle.asm430.specs.declared.item.Item.TheVariants.{Instr as Plain, Label, Jump, Branch, CallTo, AddressOf, Word}
use Rattle.asm430.specs.Assembly.{words_of, words_in, is_label, places_from, the_only, place_of}
use Rattle.rt430.specs.declared.words.Helper.{Helper}
use Rattle.ir.specs.declared.form.Ir.{Ir}
use Rattle.ir.specs.declared.form.IrFunction.{IrFunction}
use Rattle.ir.specs.declared.form.Step.{Step}
use Rattle.select430.specs.declared.part.Part.{Part}
use Rattle.select430.specs.declared.part.Part.TheVariants.{Do, DoUnless, Go, GoUnless, Enters, Helps, Names}
use Rattle.select430.specs.Code.{code_of_step}
use Rattle.select430.specs.Items.{block, steps_items, function_items, functions_items}
use Rattle.select430.specs.Labels.{function_label, step_label, inner_label, helper_number, helper_label, table_label, first_helper_label}
use Rattle.select430.specs.Parts.{parts_items, skips}
use Rattle.select430.proofs.Fitting.{step_fits}
use Rattle.codegen.specs.Program.{start_items, routine_items, routines_of, rows_words, table_items, back_items, items_of, labels_end}
use Rattle.codegen.proofs.Lists.{same_some, none_some}
use Rattle.codegen.proofs.LabelsLeft.{number_small}
use Rattle.codegen.proofs.RoutinesStand.{Rises, routines_rise, IsAmong}

-- ---- labels that rise

abbrev IsFrom : ℕ → Item → Type 0
IsFrom lo (Plain i) = Unit {0}
IsFrom lo (Label l) = lo ≤ l
IsFrom lo (Jump c l) = Unit {0}
IsFrom lo (Branch l) = Unit {0}
IsFrom lo (CallTo l) = Unit {0}
IsFrom lo (AddressOf l r) = Unit {0}
IsFrom lo (Word w) = Unit {0}

abbrev past : ℕ → Item → ℕ
past lo (Plain i) = lo
past lo (Label l) = suc l
past lo (Jump c l) = lo
past lo (Branch l) = lo
past lo (CallTo l) = lo
past lo (AddressOf l r) = lo
past lo (Word w) = lo

-- from a number on, to below another
abbrev pub LabelsRise : (lo hi : ℕ) → List Item → Type 0
LabelsRise lo hi [] = lo ≤ hi
LabelsRise lo hi (x ∷ xs) = IsFrom lo x × LabelsRise (past lo x) hi xs

rise_lower : (k lo hi : ℕ) (xs : List Item) → k ≤ lo → LabelsRise lo hi xs → LabelsRise k hi xs
rise_lower k lo hi [] l h = omega arith
rise_lower k lo hi (Plain i ∷ xs) l h = (tt, rise_lower k lo hi xs l h.1)
rise_lower k lo hi (Label n ∷ xs) l h = let m = h.0 in (omega arith, h.1)
rise_lower k lo hi (Jump c n ∷ xs) l h = (tt, rise_lower k lo hi xs l h.1)
rise_lower k lo hi (Branch n ∷ xs) l h = (tt, rise_lower k lo hi xs l h.1)
rise_lower k lo hi (CallTo n ∷ xs) l h = (tt, rise_lower k lo hi xs l h.1)
rise_lower k lo hi (AddressOf n r ∷ xs) l h = (tt, rise_lower k lo hi xs l h.1)
rise_lower k lo hi (Word w ∷ xs) l h = (tt, rise_lower k lo hi xs l h.1)

rise_higher : (lo hi top : ℕ) (xs : List Item) → hi ≤ top → LabelsRise lo hi xs → LabelsRise lo top xs
rise_higher lo hi top [] l h = omega arith
rise_higher lo hi top (x ∷ xs) l h = (h.0, rise_higher (past lo x) hi top xs l h.1)

rise_append : (lo mid hi : ℕ) (xs ys : List Item) → LabelsRise lo mid xs → LabelsRise mid hi ys → LabelsRise lo hi (xs ++ ys)
rise_append lo mid hi [] ys h k = rise_lower lo mid hi ys h k
rise_append lo mid hi (x ∷ xs) ys h k = (h.0, rise_append (past lo x) mid hi xs ys h.1 k)

-- ---- where a label stands

-- a smaller one stands nowhere
absent : (l lo hi start : ℕ) (xs : List Item) → l < lo → LabelsRise lo hi xs → places_from l start xs ≡ []
absent l lo hi start [] b h = refl
absent l lo hi start (Plain i ∷ xs) b h = absent l lo hi (start + words_of (Plain i)) xs b h.1
absent l lo hi start (Label n ∷ xs) b h =
    let low = h.0 in
    let other : n ≢ l = not_same n low in
    ap (λ (t : Bool). (if t then start ∷ [] else []) ++ places_from l (start + 0) xs) (ne_eqb n l other)
    ∙ absent l (suc n) hi (start + 0) xs (omega arith) h.1
  where
    not_same : (n : ℕ) → lo ≤ n → n ≢ l
    not_same n low = omega arith
absent l lo hi start (Jump c n ∷ xs) b h = absent l lo hi (start + 1) xs b h.1
absent l lo hi start (Branch n ∷ xs) b h = absent l lo hi (start + 2) xs b h.1
absent l lo hi start (CallTo n ∷ xs) b h = absent l lo hi (start + 2) xs b h.1
absent l lo hi start (AddressOf n r ∷ xs) b h = absent l lo hi (start + 2) xs b h.1
absent l lo hi start (Word w ∷ xs) b h = absent l lo hi (start + 1) xs b h.1

-- one that stands behind items is none of theirs
behind_all : (l lo hi : ℕ) (xs back : List Item) → LabelsRise lo hi (xs ++ (Label l ∷ back)) → lo ≤ l
behind_all l lo hi [] back h = h.0
behind_all l lo hi (Plain i ∷ xs) back h = behind_all l lo hi xs back h.1
behind_all l lo hi (Label n ∷ xs) back h = let low = h.0 in let more = behind_all l (suc n) hi xs back h.1 in omega arith
behind_all l lo hi (Jump c n ∷ xs) back h = behind_all l lo hi xs back h.1
behind_all l lo hi (Branch n ∷ xs) back h = behind_all l lo hi xs back h.1
behind_all l lo hi (CallTo n ∷ xs) back h = behind_all l lo hi xs back h.1
behind_all l lo hi (AddressOf n r ∷ xs) back h = behind_all l lo hi xs back h.1
behind_all l lo hi (Word w ∷ xs) back h = behind_all l lo hi xs back h.1

not_first : (l lo hi : ℕ) (x : Item) (xs back : List Item) → LabelsRise lo hi (x ∷ (xs ++ (Label l ∷ back))) → is_label l x ≡ false
not_first l lo hi (Plain i) xs back h = refl
not_first l lo hi (Label n) xs back h = ne_eqb n l (other (behind_all l (suc n) hi xs back h.1))
  where
    other : suc n ≤ l → n ≢ l
    other m = omega arith
not_first l lo hi (Jump c n) xs back h = refl
not_first l lo hi (Branch n) xs back h = refl
not_first l lo hi (CallTo n) xs back h = refl
not_first l lo hi (AddressOf n r) xs back h = refl
not_first l lo hi (Word w) xs back h = refl

one_place : (l lo hi start : ℕ) (front back : List Item) → LabelsRise lo hi (front ++ (Label l ∷ back))
    → places_from l start (front ++ (Label l ∷ back)) ≡ (start + words_in front) ∷ []
one_place l lo hi start [] back h =
    let here : start ≡ start + 0 = omega arith in
    ap (λ (t : Bool). (if t then start ∷ [] else []) ++ places_from l (start + 0) back) (eq-eqb l l refl)
    ∙ ap (λ (ns : List ℕ). start ∷ ns) (absent l (suc l) hi (start + 0) back (omega arith) h.1)
    ∙ ap (λ (n : ℕ). n ∷ []) here
one_place l lo hi start (x ∷ xs) back h =
    let further : start + words_of x + words_in xs ≡ start + (words_of x + words_in xs) = omega arith in
    ap (λ (t : Bool). (if t then start ∷ [] else []) ++ places_from l (start + words_of x) (xs ++ (Label l ∷ back)))
    (not_first l lo hi x xs back h)
    ∙ one_place l (past lo x) hi (start + words_of x) xs back h.1
    ∙ ap (λ (n : ℕ). n ∷ []) further

pub place_there : (l lo hi : ℕ) (front back : List Item) → LabelsRise lo hi (front ++ (Label l ∷ back))
    → place_of (front ++ (Label l ∷ back)) l ≡ Some (words_in front)
unfolding place_of
place_there l lo hi front back h =
    let none : 0 + words_in front ≡ words_in front = omega arith in
    ap the_only (one_place l lo hi 0 front back h) ∙ ap Some none

-- ---- a label that stands somewhere

pub record Standing (l : ℕ) (items : List Item) : Type 0 where
  pub front : List Item
  pub back : List Item
  pub is : items ≡ front ++ (Label l ∷ back)

pub standing_left : (l : ℕ) (xs ys : List Item) → Standing l xs → Standing l (xs ++ ys)
standing_left l xs ys s = record {
  front = s.front;
  back = s.back ++ ys;
  is = ap (λ (k : List Item). k ++ ys) s.is ∙ append_assoc s.front (Label l ∷ s.back) ys;
}

pub standing_right : (l : ℕ) (xs ys : List Item) → Standing l ys → Standing l (xs ++ ys)
standing_right l xs ys s = record {
  front = xs ++ s.front;
  back = s.back;
  is = ap (λ (k : List Item). xs ++ k) s.is ∙ sym (append_assoc xs s.front (Label l ∷ s.back));
}

pub standing_first : (l : ℕ) (xs : List Item) → Standing l (Label l ∷ xs)
standing_first l xs = record { front = []; back = xs; is = refl }

-- it has a place
pub has_place : (l lo hi : ℕ) (items : List Item) → LabelsRise lo hi items → Standing l items
    → (n : ℕ) × (place_of items l ≡ Some n)
has_place l lo hi items h s = (
  words_in s.front,
  ap (λ (k : List Item). place_of k l) s.is
      ∙ place_there l lo hi s.front s.back (subst (LabelsRise lo hi) s.is h),
)

step_standing : (ir : Ir) (fn : IrFunction) (g q : ℕ) (ss : List Step) (n : ℕ) (s : Step) → slice_get ss n ≡ Some s
    → Standing (step_label g (q + n)) (steps_items ir fn g q ss)
step_standing ir fn g q [] n s e = absurd (none_some s e)
step_standing ir fn g q (x ∷ ss) zero s e =
    let here : q ≡ q + 0 = omega arith in
    subst (λ (k : ℕ). Standing (step_label g k) (steps_items ir fn g q (x ∷ ss))) here
    (standing_left (step_label g q) (block ir fn g q x) (steps_items ir fn g (suc q) ss) (standing_first (step_label g q) _))
step_standing ir fn g q (x ∷ ss) (suc n) s e =
    let there : suc q + n ≡ q + suc n = omega arith in
    subst (λ (k : ℕ). Standing (step_label g k) (steps_items ir fn g q (x ∷ ss))) there
    (standing_right (step_label g (suc q + n)) (block ir fn g q x) (steps_items ir fn g (suc q) ss)
    (step_standing ir fn g (suc q) ss n s e))

pub function_standing : (ir : Ir) (g : ℕ) (fns : List IrFunction) (n : ℕ) (fn : IrFunction) → slice_get fns n ≡ Some fn
    → Standing (function_label (g + n)) (functions_items ir g fns)
function_standing ir g [] n fn e = absurd (none_some fn e)
function_standing ir g (x ∷ fns) zero fn e =
    let here : g ≡ g + 0 = omega arith in
    subst (λ (k : ℕ). Standing (function_label k) (functions_items ir g (x ∷ fns))) here
    (standing_left (function_label g) (function_items ir g x) (functions_items ir (suc g) fns)
    (standing_first (function_label g) _))
function_standing ir g (x ∷ fns) (suc n) fn e =
    let there : suc g + n ≡ g + suc n = omega arith in
    subst (λ (k : ℕ). Standing (function_label k) (functions_items ir g (x ∷ fns))) there
    (standing_right (function_label (suc g + n)) (function_items ir g x) (functions_items ir (suc g) fns)
    (function_standing ir (suc g) fns n fn e))

pub of_function_standing : (ir : Ir) (g : ℕ) (fns : List IrFunction) (n : ℕ) (fn : IrFunction) (q : ℕ) (s : Step)
    → slice_get fns n ≡ Some fn → slice_get fn.steps q ≡ Some s
    → Standing (step_label (g + n) q) (functions_items ir g fns)
of_function_standing ir g [] n fn q s e k = absurd (none_some fn e)
of_function_standing ir g (x ∷ fns) zero fn q s e k =
    let here : g ≡ g + 0 = omega arith in
    let same : x ≡ fn = same_some x fn e in
    let own : slice_get x.steps q ≡ Some s = ap (λ (f : IrFunction). slice_get f.steps q) same ∙ k in
    let first : List Item = Label (function_label g) ∷ [] in
    let none : 0 + q ≡ q = omega arith in
    subst (λ (j : ℕ). Standing (step_label j q) (functions_items ir g (x ∷ fns))) here
    (standing_left (step_label g q) (function_items ir g x) (functions_items ir (suc g) fns)
    (standing_right (step_label g q) first (steps_items ir x g 0 x.steps) (subst (λ (k : ℕ). Standing (step_label g k) (steps_items ir x g 0 x.steps)) none (step_standing ir x g 0 x.steps q s own))))
of_function_standing ir g (x ∷ fns) (suc n) fn q s e k =
    let there : suc g + n ≡ g + suc n = omega arith in
    subst (λ (j : ℕ). Standing (step_label j q) (functions_items ir g (x ∷ fns))) there
    (standing_right (step_label (suc g + n) q) (function_items ir g x) (functions_items ir (suc g) fns)
    (of_function_standing ir (suc g) fns n fn q s e k))

pub routine_standing : (words : Helper → List ℕ) (hs : List Helper) (which : Helper) → IsAmong which hs
    → Standing (helper_label which) (routine_items words hs)
routine_standing words [] which a = absurd a
routine_standing words (x ∷ hs) which (inl e) =
    subst (λ (y : Helper). Standing (helper_label y) (routine_items words (x ∷ hs))) e (standing_first (helper_label x) _)
routine_standing words (x ∷ hs) which (inr a) =
    let first : List Item = Label (helper_label x) ∷ map Word (words x) in
    standing_right (helper_label which) first (routine_items words hs) (routine_standing words hs which a)

pub table_standing : (core : Core) (n : ℕ) (rows : List (List Timed)) (t : ℕ) → t < length rows
    → Standing (table_label (n + t)) (table_items core n rows)
table_standing core n [] t l = absurd (omega arith)
table_standing core n (r ∷ rows) zero l =
    let here : n ≡ n + 0 = omega arith in
    subst (λ (k : ℕ). Standing (table_label k) (table_items core n (r ∷ rows))) here (standing_first (table_label n) _)
table_standing core n (r ∷ rows) (suc t) l =
    let long : length (r ∷ rows) ≡ suc (length rows) = refl in
    let there : suc n + t ≡ n + suc t = omega arith in
    let first : List Item = Label (table_label n) ∷ map Word (rows_words core r) in
    subst (λ (k : ℕ). Standing (table_label k) (table_items core n (r ∷ rows))) there
    (standing_right (table_label (suc n + t)) first (table_items core (suc n) rows)
    (table_standing core (suc n) rows t (omega arith)))

-- ---- the labels of a program rise

-- where nothing is skipped no label stands inside a step
none_rise : (g p lo hi : ℕ) (xs : List Part) → skips xs ≤ 0 → lo ≤ hi → LabelsRise lo hi (parts_items g p xs)
none_rise g p lo hi [] f l = l
none_rise g p lo hi (Do i ∷ xs) f l = (tt, none_rise g p lo hi xs f l)
none_rise g p lo hi (DoUnless c i ∷ xs) f l = absurd (omega arith)
none_rise g p lo hi (Go to ∷ xs) f l = (tt, none_rise g p lo hi xs f l)
none_rise g p lo hi (GoUnless c to ∷ xs) f l = absurd (omega arith)
none_rise g p lo hi (Enters h ∷ xs) f l = (tt, none_rise g p lo hi xs f l)
none_rise g p lo hi (Helps which ∷ xs) f l = (tt, none_rise g p lo hi xs f l)
none_rise g p lo hi (Names t n ∷ xs) f l = (tt, none_rise g p lo hi xs f l)

parts_rise : (g p : ℕ) (xs : List Part) → skips xs ≤ 1
    → LabelsRise (suc (step_label g p)) (step_label g (suc p)) (parts_items g p xs)
parts_rise g p [] f = omega arith
parts_rise g p (Do i ∷ xs) f = (tt, parts_rise g p xs f)
parts_rise g p (DoUnless c i ∷ xs) f =
    let none : skips xs ≤ 0 = omega arith in
    (tt, (tt, (omega arith, none_rise g p (suc (inner_label g p)) (step_label g (suc p)) xs none (omega arith))))
parts_rise g p (Go to ∷ xs) f = (tt, parts_rise g p xs f)
parts_rise g p (GoUnless c to ∷ xs) f =
    let none : skips xs ≤ 0 = omega arith in
    (tt, (tt, (omega arith, none_rise g p (suc (inner_label g p)) (step_label g (suc p)) xs none (omega arith))))
parts_rise g p (Enters h ∷ xs) f = (tt, parts_rise g p xs f)
parts_rise g p (Helps which ∷ xs) f = (tt, parts_rise g p xs f)
parts_rise g p (Names t n ∷ xs) f = (tt, parts_rise g p xs f)

steps_rise : (ir : Ir) (fn : IrFunction) (g q : ℕ) (ss : List Step)
    → LabelsRise (step_label g q) (step_label g (q + length ss)) (steps_items ir fn g q ss)
steps_rise ir fn g q [] = omega arith
steps_rise ir fn g q (s ∷ ss) =
    let there : suc q + length ss ≡ q + length (s ∷ ss) = omega arith in
    rise_append (step_label g q) (step_label g (suc q)) (step_label g (q + length (s ∷ ss))) (block ir fn g q s)
    (steps_items ir fn g (suc q) ss)
    (omega arith, parts_rise g q (code_of_step ir fn s.kind) (step_fits ir fn s.kind).skip)
    (subst (λ (n : ℕ). LabelsRise (step_label g (suc q)) (step_label g n) (steps_items ir fn g (suc q) ss)) there
    (steps_rise ir fn g (suc q) ss))

functions_rise : (ir : Ir) (g : ℕ) (fns : List IrFunction)
    → ((n : ℕ) (fn : IrFunction) → slice_get fns n ≡ Some fn → length fn.steps < 4294967296)
    → LabelsRise (function_label g) (function_label (g + length fns)) (functions_items ir g fns)
functions_rise ir g [] short = omega arith
functions_rise ir g (fn ∷ fns) short =
    let there : suc g + length fns ≡ g + length (fn ∷ fns) = omega arith in
    let few = short 0 fn refl in
    let own = rise_higher (step_label g 0) (step_label g (0 + length fn.steps)) (function_label (suc g))
    (steps_items ir fn g 0 fn.steps) (omega arith) (steps_rise ir fn g 0 fn.steps) in
    rise_append (function_label g) (function_label (suc g)) (function_label (g + length (fn ∷ fns))) (function_items ir g fn)
    (functions_items ir (suc g) fns) (
      omega arith,
      rise_lower (suc (function_label g)) (step_label g 0) (function_label (suc g)) (steps_items ir fn g 0 fn.steps)
          (omega arith) own,
    )
    (subst (λ (n : ℕ). LabelsRise (function_label (suc g)) (function_label n) (functions_items ir (suc g) fns)) there
    (functions_rise ir (suc g) fns (λ n f e. short (suc n) f e)))

words_rise : (lo hi : ℕ) (ws : List ℕ) → lo ≤ hi → LabelsRise lo hi (map Word ws)
words_rise lo hi [] l = l
words_rise lo hi (w ∷ ws) l = (tt, words_rise lo hi ws l)

routines_labels_rise : (words : Helper → List ℕ) (n : ℕ) (hs : List Helper) → n ≤ 8 → Rises n hs
    → LabelsRise (first_helper_label + n) (first_helper_label + 8) (routine_items words hs)
routines_labels_rise words n [] l h = omega arith
routines_labels_rise words n (x ∷ hs) l h =
    let small = number_small x in
    let low = h.0 in
    let next : ℕ = first_helper_label + (helper_number x + 1) in (
      omega arith,
      rise_append (suc (helper_label x)) next (first_helper_label + 8) (map Word (words x)) (routine_items words hs)
          (words_rise (suc (helper_label x)) next (words x) (omega arith))
          (routines_labels_rise words (helper_number x + 1) hs (omega arith) h.1),
    )

tables_rise : (core : Core) (n : ℕ) (rows : List (List Timed))
    → LabelsRise (table_label n) (table_label (n + length rows)) (table_items core n rows)
tables_rise core n [] = omega arith
tables_rise core n (r ∷ rows) =
    let there : suc n + length rows ≡ n + length (r ∷ rows) = omega arith in (
      omega arith,
      rise_append (suc (table_label n)) (table_label (suc n)) (table_label (n + length (r ∷ rows))) (map Word (rows_words core r))
          (table_items core (suc n) rows) (words_rise (suc (table_label n)) (table_label (suc n)) (rows_words core r) (omega arith))
          (subst (λ (k : ℕ). LabelsRise (table_label (suc n)) (table_label k) (table_items core (suc n) rows)) there
          (tables_rise core (suc n) rows)),
    )

pub program_rises : (words : Helper → List ℕ) (core : Core) (ir : Ir) → length ir.functions ≤ 65536
    → ((g : ℕ) (fn : IrFunction) → slice_get ir.functions g ≡ Some fn → length fn.steps < 4294967296)
    → LabelsRise 0 (labels_end ir) (items_of words core ir)
program_rises words core ir few short =
    let low : LabelsRise 0 0 (start_items ir) = (tt, (tt, omega arith)) in
    let mid : ℕ = function_label (0 + length ir.functions) in
    let zero : ℕ = first_helper_label + 0 in
    let routines = rise_lower mid zero (first_helper_label + 8) (routine_items words (routines_of ir)) (omega arith)
    (routines_labels_rise words 0 (routines_of ir) (omega arith) (routines_rise ir)) in
    let tables = rise_lower (first_helper_label + 8) (table_label 0) (table_label (0 + length ir.tables))
    (table_items core 0 ir.tables) (omega arith) (tables_rise core 0 ir.tables) in
    let whole : table_label (0 + length ir.tables) ≤ labels_end ir = omega arith in
    rise_append 0 0 (labels_end ir) (start_items ir) (functions_items ir 0 ir.functions ++ back_items words core ir) low
    (rise_append 0 mid (labels_end ir) (functions_items ir 0 ir.functions) (back_items words core ir)
    (rise_lower 0 (function_label 0) mid (functions_items ir 0 ir.functions) (omega arith) (functions_rise ir 0 ir.functions short))
    (rise_append mid (first_helper_label + 8) (labels_end ir) (routine_items words (routines_of ir)) (table_items core 0 ir.tables)
    routines
    (rise_higher (first_helper_label + 8) (table_label (0 + length ir.tables)) (labels_end ir) (table_items core 0 ir.tables) whole
    tables)))
