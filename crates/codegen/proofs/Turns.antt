-- Items that are added behind others, and what stands among one more of a list.
use Rattle.std.proofs.Common.{◌≡◌, ℕ, zero, suc, ◌+◌, ◌<◌, ◌≤◌, refl, sym, ap, ◌∙◌, subst, arith, Bool, true, false, List, [], ◌∷◌, ◌++◌, length, map, take, drop, get_or, append_assoc, add-one, drop-cons, ◌||◌, ◌⊎◌, inl, inr, Option, Some, None, if◌then◌else◌}
use Rattle.std.proofs.lemmas.Bool.{and_parts}
use Rattle.std.proofs.lemmas.List.{take_more, append-nil, length-take-le}
use Rattle.std.proofs.lemmas.Option.{slice_get_cases}
use Rattle.std.specs.Prelude.{IsTrue, slice_get}
use Rattle.c_run.specs.declared.timed.Timed.{Timed}
use Rattle.core_tree.specs.declared.program.Core.{Core}
use Rattle.asm430.specs.declared.item.Item.{Item}
use Rattle.asm430.specs.declared.item.Item.TheVariants.{Label, Word}
use Rattle.asm430.specs.Assembly.{is_formed, are_formed, words_in}
use Rattle.asm430.proofs.Labels.{words_append}
use Rattle.rt430.specs.declared.words.Helper.{Helper}
use Rattle.ir.specs.declared.form.Ir.{Ir}
use Rattle.ir.specs.declared.form.IrFunction.{IrFunction}
use Rattle.ir.specs.declared.form.Step.{Step}
use Rattle.select430.specs.Items.{items_if, items_in, items_at, block, steps_items, function_items, functions_items}
use Rattle.select430.specs.Labels.{step_label, helper_label, table_label}
use Rattle.select430.proofs.Owning.{are_own}
use Rattle.codegen.specs.Program.{start_items, is_call, has_call, called_of, all_helpers, routines_of, code_items, items_of, function_starts, routine_items, row_words, rows_words, table_items}
use Rattle.codegen.specs.Placing.{Adds, step_and_label}
use Rattle.codegen.specs.declared.adding.Counted.{Counted}

-- ---- counted items

pub adds_none : (a : Counted) → Adds a a []
adds_none a = record { items = sym (append-nil a.items.items); words = omega arith }

pub adds_as : (a b : Counted) (xs ys : List Item) → xs ≡ ys → Adds a b xs → Adds a b ys
adds_as a b xs ys e h = subst (λ (k : List Item). Adds a b k) e h

pub adds_more : (a b c : Counted) (xs ys zs : List Item) → Adds a b xs → Adds b c ys → zs ≡ xs ++ ys → Adds a c zs
adds_more a b c xs ys zs h k e =
    let both = words_append xs ys in
    let one = h.words in
    let two = k.words in
    adds_as a c (xs ++ ys) zs (sym e) (record {
      items = k.items ∙ ap (λ (l : List Item). l ++ ys) h.items ∙ append_assoc a.items.items xs ys;
      words = omega arith;
    })

-- ---- lists

pub take_all : {A : Type 0} (xs : List A) (i : ℕ) → length xs ≤ i → take i xs ≡ xs
take_all [] zero l = refl
take_all [] (suc i) l = refl
take_all (x ∷ xs) zero l = absurd (omega arith)
take_all {A = A} (x ∷ xs) (suc i) l = ap (λ (k : List A). x ∷ k) (take_all xs i (omega arith))

pub formed_at : (xs : List Item) (i : ℕ) (d : Item) → IsTrue (are_formed xs) → i < length xs → IsTrue (is_formed (get_or xs i d))
formed_at [] i d h l = absurd (omega arith)
formed_at (x ∷ xs) zero d h l = (and_parts (is_formed x) (are_formed xs) h).0
formed_at (x ∷ xs) (suc i) d h l = formed_at xs i d (and_parts (is_formed x) (are_formed xs) h).1 (omega arith)

-- ---- what stands among one more of a list

map_append : (xs ys : List ℕ) → map Word (xs ++ ys) ≡ map Word xs ++ map Word ys
map_append [] ys = refl
map_append (x ∷ xs) ys = ap (λ (k : List Item). Word x ∷ k) (map_append xs ys)

pub words_turn : (ws : List ℕ) (i d : ℕ) → i < length ws
    → map Word (take (i + 1) ws) ≡ map Word (take i ws) ++ (Word (get_or ws i d) ∷ [])
words_turn ws i d l = ap (map Word) (take_more ws i d l) ∙ map_append (take i ws) (get_or ws i d ∷ [])

rows_append : (core : Core) (xs ys : List Timed) → rows_words core (xs ++ ys) ≡ rows_words core xs ++ rows_words core ys
rows_append core [] ys = refl
rows_append core (x ∷ xs) ys =
    ap (λ (k : List ℕ). row_words core x ++ k) (rows_append core xs ys)
    ∙ sym (append_assoc (row_words core x) (rows_words core xs) (rows_words core ys))

pub rows_turn : (core : Core) (ts : List Timed) (i : ℕ) (d : Timed) → i < length ts
    → map Word (rows_words core (take (i + 1) ts))
    ≡ map Word (rows_words core (take i ts)) ++ map Word (row_words core (get_or ts i d))
rows_turn core ts i d l =
    ap (λ (k : List Timed). map Word (rows_words core k)) (take_more ts i d l)
    ∙ ap (map Word) (rows_append core (take i ts) (get_or ts i d ∷ []))
    ∙ map_append (rows_words core (take i ts)) (rows_words core (get_or ts i d ∷ []))
    ∙ ap (λ (k : List ℕ). map Word (rows_words core (take i ts)) ++ map Word k) (append-nil (row_words core (get_or ts i d)))

tables_append : (core : Core) (n : ℕ) (xs ys : List (List Timed))
    → table_items core n (xs ++ ys) ≡ table_items core n xs ++ table_items core (n + length xs) ys
tables_append core n [] ys = ap (λ (k : ℕ). table_items core k ys) (let e : n ≡ n + 0 = omega arith in e)
tables_append core n (x ∷ xs) ys =
    let own : List Item = map Word (rows_words core x) in
    let label : List Item = Label (table_label n) ∷ [] in
    let further : suc n + length xs ≡ n + length (x ∷ xs) = omega arith in
    ap (λ (k : List Item). label ++ (own ++ k)) (tables_append core (suc n) xs ys)
    ∙ ap (λ (k : List Item). label ++ k) (sym (append_assoc own (table_items core (suc n) xs) (table_items core (suc n + length xs) ys)))
    ∙ ap (λ (k : ℕ). table_items core n (x ∷ xs) ++ table_items core k ys) further

pub tables_turn : (core : Core) (ts : List (List Timed)) (i : ℕ) (d : List Timed) → i < length ts
    → table_items core 0 (take (i + 1) ts) ≡ table_items core 0 (take i ts) ++ table_items core i (get_or ts i d ∷ [])
tables_turn core ts i d l =
    let long : 0 + length (take i ts) ≡ i = let e = length-take-le i ts (omega arith) in omega arith in
    ap (table_items core 0) (take_more ts i d l)
    ∙ tables_append core 0 (take i ts) (get_or ts i d ∷ [])
    ∙ ap (λ (k : ℕ). table_items core 0 (take i ts) ++ table_items core k (get_or ts i d ∷ [])) long

steps_append : (ir : Ir) (fn : IrFunction) (g p : ℕ) (xs ys : List Step)
    → steps_items ir fn g p (xs ++ ys) ≡ steps_items ir fn g p xs ++ steps_items ir fn g (p + length xs) ys
steps_append ir fn g p [] ys = ap (λ (k : ℕ). steps_items ir fn g k ys) (let e : p ≡ p + 0 = omega arith in e)
steps_append ir fn g p (x ∷ xs) ys =
    let own : List Item = block ir fn g p x in
    let further : suc p + length xs ≡ p + length (x ∷ xs) = omega arith in
    ap (λ (k : List Item). own ++ k) (steps_append ir fn g (suc p) xs ys)
    ∙ sym (append_assoc own (steps_items ir fn g (suc p) xs) (steps_items ir fn g (suc p + length xs) ys))
    ∙ ap (λ (k : ℕ). steps_items ir fn g p (x ∷ xs) ++ steps_items ir fn g k ys) further

pub steps_turn : (ir : Ir) (fn : IrFunction) (g : ℕ) (ss : List Step) (i : ℕ) (d : Step) → i < length ss
    → steps_items ir fn g 0 (take (i + 1) ss) ≡ steps_items ir fn g 0 (take i ss) ++ block ir fn g i (get_or ss i d)
steps_turn ir fn g ss i d l =
    let long : 0 + length (take i ss) ≡ i = let e = length-take-le i ss (omega arith) in omega arith in
    ap (steps_items ir fn g 0) (take_more ss i d l)
    ∙ steps_append ir fn g 0 (take i ss) (get_or ss i d ∷ [])
    ∙ ap (λ (k : ℕ). steps_items ir fn g 0 (take i ss) ++ steps_items ir fn g k (get_or ss i d ∷ [])) long
    ∙ ap (λ (k : List Item). steps_items ir fn g 0 (take i ss) ++ k) (append-nil (block ir fn g i (get_or ss i d)))

functions_append : (ir : Ir) (g : ℕ) (xs ys : List IrFunction)
    → functions_items ir g (xs ++ ys) ≡ functions_items ir g xs ++ functions_items ir (g + length xs) ys
functions_append ir g [] ys = ap (λ (k : ℕ). functions_items ir k ys) (let e : g ≡ g + 0 = omega arith in e)
functions_append ir g (x ∷ xs) ys =
    let own : List Item = function_items ir g x in
    let further : suc g + length xs ≡ g + length (x ∷ xs) = omega arith in
    ap (λ (k : List Item). own ++ k) (functions_append ir (suc g) xs ys)
    ∙ sym (append_assoc own (functions_items ir (suc g) xs) (functions_items ir (suc g + length xs) ys))
    ∙ ap (λ (k : ℕ). functions_items ir g (x ∷ xs) ++ functions_items ir k ys) further

pub functions_turn : (ir : Ir) (fns : List IrFunction) (i : ℕ) (d : IrFunction) → i < length fns
    → functions_items ir 0 (take (i + 1) fns) ≡ functions_items ir 0 (take i fns) ++ function_items ir i (get_or fns i d)
functions_turn ir fns i d l =
    let long : 0 + length (take i fns) ≡ i = let e = length-take-le i fns (omega arith) in omega arith in
    ap (functions_items ir 0) (take_more fns i d l)
    ∙ functions_append ir 0 (take i fns) (get_or fns i d ∷ [])
    ∙ ap (λ (k : ℕ). functions_items ir 0 (take i fns) ++ functions_items ir k (get_or fns i d ∷ [])) long
    ∙ ap (λ (k : List Item). functions_items ir 0 (take i fns) ++ k) (append-nil (function_items ir i (get_or fns i d)))

starts_append : (w : ℕ) (ir : Ir) (g : ℕ) (xs ys : List IrFunction) → function_starts w ir g (xs ++ ys)
    ≡ function_starts w ir g xs ++ function_starts (w + words_in (functions_items ir g xs)) ir (g + length xs) ys
starts_append w ir g [] ys =
    ap (λ (k : ℕ). function_starts k ir g ys) (let e : w ≡ w + 0 = omega arith in e)
    ∙ ap (λ (k : ℕ). function_starts (w + 0) ir k ys) (let e : g ≡ g + 0 = omega arith in e)
starts_append w ir g (x ∷ xs) ys =
    let own : ℕ = words_in (function_items ir g x) in
    let both = words_append (function_items ir g x) (functions_items ir (suc g) xs) in
    let further : suc g + length xs ≡ g + length (x ∷ xs) = omega arith in
    let all : w + own + words_in (functions_items ir (suc g) xs) ≡ w + words_in (functions_items ir g (x ∷ xs)) = omega arith in
    ap (λ (k : List ℕ). w ∷ k) (starts_append (w + own) ir (suc g) xs ys)
    ∙ ap (λ (k : ℕ). w ∷ (function_starts (w + own) ir (suc g) xs ++ function_starts k ir (suc g + length xs) ys)) all
    ∙ ap (λ (k : ℕ). w ∷ (function_starts (w + own) ir (suc g) xs
    ++ function_starts (w + words_in (functions_items ir g (x ∷ xs))) ir k ys)) further

pub starts_turn : (w : ℕ) (ir : Ir) (fns : List IrFunction) (i : ℕ) (d : IrFunction) → i < length fns
    → function_starts w ir 0 (take (i + 1) fns)
    ≡ function_starts w ir 0 (take i fns) ++ ((w + words_in (functions_items ir 0 (take i fns))) ∷ [])
starts_turn w ir fns i d l =
    ap (function_starts w ir 0) (take_more fns i d l) ∙ starts_append w ir 0 (take i fns) (get_or fns i d ∷ [])

-- ---- helper routines

routines_append : (words : Helper → List ℕ) (xs ys : List Helper)
    → routine_items words (xs ++ ys) ≡ routine_items words xs ++ routine_items words ys
routines_append words [] ys = refl
routines_append words (x ∷ xs) ys =
    let own : List Item = map Word (words x) in
    let label : List Item = Label (helper_label x) ∷ [] in
    ap (λ (k : List Item). label ++ (own ++ k)) (routines_append words xs ys)
    ∙ ap (λ (k : List Item). label ++ k) (sym (append_assoc own (routine_items words xs) (routine_items words ys)))

pub routines_turn : (words : Helper → List ℕ) (hs : List Helper) (i : ℕ) (d : Helper) → i < length hs
    → routine_items words (take (i + 1) hs) ≡ routine_items words (take i hs) ++ routine_items words (get_or hs i d ∷ [])
routines_turn words hs i d l =
    ap (routine_items words) (take_more hs i d l) ∙ routines_append words (take i hs) (get_or hs i d ∷ [])

called_append : (items : List Item) (xs ys : List Helper) → called_of items (xs ++ ys) ≡ called_of items xs ++ called_of items ys
called_append items [] ys = refl
called_append items (x ∷ xs) ys = from (has_call (helper_label x) items) (called_append items xs ys)
  where
    from : (b : Bool) → called_of items (xs ++ ys) ≡ called_of items xs ++ called_of items ys
        → (if b then x ∷ called_of items (xs ++ ys) else called_of items (xs ++ ys))
        ≡ (if b then x ∷ called_of items xs else called_of items xs) ++ called_of items ys
    from true e = ap (λ (k : List Helper). x ∷ k) e
    from false e = e

pub called_turn : (items : List Item) (hs : List Helper) (i : ℕ) (d : Helper) → i < length hs
    → called_of items (take (i + 1) hs)
    ≡ called_of items (take i hs) ++ (if has_call (helper_label (get_or hs i d)) items then get_or hs i d ∷ [] else [])
called_turn items hs i d l =
    ap (called_of items) (take_more hs i d l) ∙ called_append items (take i hs) (get_or hs i d ∷ [])

call_turn : (label : ℕ) (xs : List Item) (i : ℕ) (d : Item) → i < length xs
    → has_call label (drop i xs) ≡ is_call label (get_or xs i d) || has_call label (drop (i + 1) xs)
call_turn label xs i d l =
    let cut : drop i xs ≡ get_or xs i d ∷ drop (i + 1) xs = rw (add-one) (drop-cons xs i d l) in
    ap (has_call label) cut

pub call_here : (label : ℕ) (xs : List Item) (i : ℕ) (d : Item) → i < length xs → is_call label (get_or xs i d) ≡ true
    → has_call label (drop i xs) ≡ true
call_here label xs i d l e =
    call_turn label xs i d l ∙ ap (λ (b : Bool). b || has_call label (drop (i + 1) xs)) e

pub call_next : (label : ℕ) (xs : List Item) (i : ℕ) (d : Item) → i < length xs → is_call label (get_or xs i d) ≡ false
    → has_call label (drop i xs) ≡ has_call label (drop (i + 1) xs)
call_next label xs i d l e =
    call_turn label xs i d l ∙ ap (λ (b : Bool). b || has_call label (drop (i + 1) xs)) e

pub called_more : (items : List Item) (hs : List Helper) (i : ℕ) (d : Helper) (label : ℕ) (b : Bool) (before now : List Helper)
    → i < length hs → label ≡ helper_label (get_or hs i d) → b ≡ has_call label items → before ≡ called_of items (take i hs)
    → now ≡ before ++ (if b then get_or hs i d ∷ [] else []) → now ≡ called_of items (take (i + 1) hs)
called_more items hs i d label b before now l e c h k =
    let which : Helper = get_or hs i d in
    k
    ∙ ap (λ (t : Bool). before ++ (if t then which ∷ [] else [])) (c ∙ ap (λ (n : ℕ). has_call n items) e)
    ∙ ap (λ (ws : List Helper). ws ++ (if has_call (helper_label which) items then which ∷ [] else [])) h
    ∙ sym (called_turn items hs i d l)

-- ---- steps and functions

pub at_formed : (ir : Ir) (g p : ℕ) → IsTrue (are_formed (items_at ir g p))
at_formed ir g p = of_function (slice_get ir.functions g)
  where
    of_step : (fn : IrFunction) (o : Option Step) → IsTrue (are_formed (items_if ir fn g p o))
    of_step fn None = refl
    of_step fn (Some s) = (are_own ir fn g p s.kind).formed

    of_function : (o : Option IrFunction) → IsTrue (are_formed (items_in ir g p o))
    of_function None = refl
    of_function (Some fn) = of_step fn (slice_get fn.steps p)

step_there : (ir : Ir) (fn : IrFunction) (g i : ℕ) → slice_get ir.functions g ≡ Some fn → i < length fn.steps
    → (s : Step) × (step_and_label ir g i ≡ block ir fn g i (get_or fn.steps i s))
step_there ir fn g i e l = from (slice_get_cases fn.steps i).1
  where
    from : ((s : Step) × (i < length fn.steps) × (slice_get fn.steps i ≡ Some s) × (get_or fn.steps i s ≡ s))
        ⊎ ((length fn.steps ≤ i) × (slice_get fn.steps i ≡ None))
        → (s : Step) × (step_and_label ir g i ≡ block ir fn g i (get_or fn.steps i s))
    from (inl h) = (
      h.0,
      ap (λ (o : Option IrFunction). Label (step_label g i) ∷ items_in ir g i o) e
          ∙ ap (λ (o : Option Step). Label (step_label g i) ∷ items_if ir fn g i o) h.2
          ∙ ap (block ir fn g i) (sym h.3),
    )
    from (inr h) = let past = h.0 in absurd (omega arith)

pub steps_more : (a b c : Counted) (ir : Ir) (fn : IrFunction) (g i : ℕ) → slice_get ir.functions g ≡ Some fn
    → i < length fn.steps → Adds a b (steps_items ir fn g 0 (take i fn.steps)) → Adds b c (step_and_label ir g i)
    → Adds a c (steps_items ir fn g 0 (take (i + 1) fn.steps))
steps_more a b c ir fn g i e l h k =
    let s = step_there ir fn g i e l in
    adds_more a b c (steps_items ir fn g 0 (take i fn.steps)) (block ir fn g i (get_or fn.steps i s.0))
    (steps_items ir fn g 0 (take (i + 1) fn.steps)) h (adds_as b c (step_and_label ir g i) (block ir fn g i (get_or fn.steps i s.0)) s.1 k)
    (steps_turn ir fn g fn.steps i s.0 l)

pub functions_more : (a b c : Counted) (ir : Ir) (fns : List IrFunction) (i : ℕ) (fn : IrFunction) → i < length fns
    → fn ≡ get_or fns i fn → Adds a b (functions_items ir 0 (take i fns)) → Adds b c (function_items ir i fn)
    → Adds a c (functions_items ir 0 (take (i + 1) fns))
functions_more a b c ir fns i fn l is h k =
    adds_more a b c (functions_items ir 0 (take i fns)) (function_items ir i (get_or fns i fn))
    (functions_items ir 0 (take (i + 1) fns)) h
    (adds_as b c (function_items ir i fn) (function_items ir i (get_or fns i fn)) (ap (function_items ir i) is) k)
    (functions_turn ir fns i fn l)

pub starts_more : (a b : Counted) (ir : Ir) (fns : List IrFunction) (i : ℕ) (fn : IrFunction) (old before now : List ℕ)
    → i < length fns → Adds a b (functions_items ir 0 (take i fns)) → before ≡ old ++ function_starts a.words ir 0 (take i fns)
    → now ≡ before ++ (b.words ∷ []) → now ≡ old ++ function_starts a.words ir 0 (take (i + 1) fns)
starts_more a b ir fns i fn old before now l h e k =
    let so_far : List ℕ = function_starts a.words ir 0 (take i fns) in
    k
    ∙ ap (λ (ws : List ℕ). ws ++ (b.words ∷ [])) e
    ∙ append_assoc old so_far (b.words ∷ [])
    ∙ ap (λ (n : ℕ). old ++ (so_far ++ (n ∷ []))) h.words
    ∙ ap (λ (ws : List ℕ). old ++ ws) (sym (starts_turn a.words ir fns i fn l))

pub tables_more : (a b c : Counted) (core : Core) (ts : List (List Timed)) (i n : ℕ) (t rows : List Timed) → i < length ts
    → t ≡ get_or ts i t → rows ≡ t → n ≡ i → Adds a b (table_items core 0 (take i ts)) → Adds b c (table_items core n (rows ∷ []))
    → Adds a c (table_items core 0 (take (i + 1) ts))
tables_more a b c core ts i n t rows l is same e h k =
    let there : table_items core n (rows ∷ []) ≡ table_items core i (get_or ts i t ∷ []) =
    ap (λ (m : ℕ). table_items core m (rows ∷ [])) e ∙ ap (λ (r : List Timed). table_items core i (r ∷ [])) (same ∙ is) in
    adds_more a b c (table_items core 0 (take i ts)) (table_items core i (get_or ts i t ∷ []))
    (table_items core 0 (take (i + 1) ts)) h
    (adds_as b c (table_items core n (rows ∷ [])) (table_items core i (get_or ts i t ∷ [])) there k)
    (tables_turn core ts i t l)

-- ---- the whole

front_items : (a b c : Counted) (ir : Ir) → a.items.items ≡ [] → Adds a b (start_items ir)
    → Adds b c (functions_items ir 0 ir.functions) → c.items.items ≡ start_items ir ++ functions_items ir 0 ir.functions
front_items a b c ir none h k =
    k.items
    ∙ ap (λ (l : List Item). l ++ functions_items ir 0 ir.functions) (h.items ∙ ap (λ (l : List Item). l ++ start_items ir) none)

pub code_made : (words : Helper → List ℕ) (a b c d : Counted) (ir : Ir) (items : List Item) (called : List Helper)
    → a.items.items ≡ [] → Adds a b (start_items ir) → Adds b c (functions_items ir 0 ir.functions) → items ≡ drop 2 c.items.items
    → called ≡ called_of items all_helpers → Adds c d (routine_items words called) → Adds a d (code_items words ir)
code_made words a b c d ir items called none h k behind are m =
    let fns : List Item = functions_items ir 0 ir.functions in
    let same : items ≡ fns = behind ∙ ap (drop 2) (front_items a b c ir none h k) in
    let all : called ≡ routines_of ir = are ∙ ap (λ (l : List Item). called_of l all_helpers) same in
    let back : Adds c d (routine_items words (routines_of ir)) = adds_as c d (routine_items words called)
    (routine_items words (routines_of ir)) (ap (routine_items words) all) m in
    adds_more a b d (start_items ir) (fns ++ routine_items words (routines_of ir)) (code_items words ir) h
    (adds_more b c d fns (routine_items words (routines_of ir)) (fns ++ routine_items words (routines_of ir)) k back refl) refl

pub whole_made : (words : Helper → List ℕ) (core : Core) (ir : Ir) (a b c : Counted) → a.items.items ≡ []
    → Adds a b (code_items words ir) → Adds b c (table_items core 0 ir.tables) → c.items.items ≡ items_of words core ir
whole_made words core ir a b c none h k =
    k.items
    ∙ ap (λ (l : List Item). l ++ table_items core 0 ir.tables) (h.items ∙ ap (λ (l : List Item). l ++ code_items words ir) none)
    ∙ in_order (start_items ir) (functions_items ir 0 ir.functions) (routine_items words (routines_of ir)) (table_items core 0 ir.tables)
  where
    in_order : (s f r t : List Item) → (s ++ (f ++ r)) ++ t ≡ s ++ (f ++ (r ++ t))
    in_order s f r t = append_assoc s (f ++ r) t ∙ ap (λ (l : List Item). s ++ l) (append_assoc f r t)
