-- Which places a label has: in lists one after another, with one item more, and in a table.
use Rattle.std.proofs.Common.{◌≡◌, ℕ, ◌+◌, ◌*◌, ◌<◌, ◌≤◌, refl, sym, ap, ◌∙◌, subst, arith, Bool, true, false, List, [], ◌∷◌, ◌++◌, length, length-append, append_assoc, take, get_or, Option, Some, None, if◌then◌else◌}
use Rattle.std.specs.Prelude.{◌^◌, nat_eq, IfSome}
use Rattle.std.specs.Option.{option_flatten}
use Rattle.std.specs.BTreeMap.{BTreeMap, get}
use Rattle.std.specs.Ordering.{nat_cmp}
use Rattle.std.proofs.lemmas.List.{take_more, append-nil}
use Rattle.isa430.specs.declared.instr.Instr.{Instr}
use Rattle.isa430.specs.declared.instr.Instr.TheVariants.{Two, One, Jump as JumpBy}
use Rattle.isa430.specs.declared.instr.Src.{Src}
use Rattle.isa430.specs.declared.instr.Src.TheVariants.{Reg, Indexed, Absolute, Indirect, Increment, Immediate, Constant}
use Rattle.isa430.specs.declared.instr.Dst.{Dst}
use Rattle.isa430.specs.declared.instr.Dst.TheVariants.{Reg as ToReg, Indexed as ToIndexed, Absolute as ToAbsolute}
use Rattle.isa430.specs.Table.{src_extension, dst_extension, code_of}
use Rattle.asm430.specs.declared.item.Item.{Item}
use Rattle.asm430.specs.declared.item.Item.TheVariants.{Instr as Plain, Label, Jump, Branch, CallTo, AddressOf, Word}
use Rattle.asm430.specs.Assembly.{words_of, words_in, is_label, places_from, the_only, place_of}
use Rattle.asm430.specs.LabelTable.{kept_of, noted, HasLabels, Notes}

-- ---- lists one after another

pub words_append : (xs ys : List Item) → words_in (xs ++ ys) ≡ words_in xs + words_in ys
words_append [] ys = let e : words_in ys ≡ 0 + words_in ys = omega arith in e
words_append (x ∷ xs) ys = let e = words_append xs ys in omega arith

pub places_append : (label start : ℕ) (xs ys : List Item) → places_from label start (xs ++ ys) ≡ places_from label start xs ++ places_from label (start + words_in xs) ys
places_append label start [] ys = let e : start ≡ start + 0 = omega arith in ap (λ (k : ℕ). places_from label k ys) e
places_append label start (x ∷ xs) ys =
    let e : start + words_of x + words_in xs ≡ start + (words_of x + words_in xs) = omega arith in
    ap (λ (k : List ℕ). (if is_label label x then start ∷ [] else []) ++ k)
    (places_append label (start + words_of x) xs ys ∙ ap (λ (k : ℕ). places_from label (start + words_of x) xs ++ places_from label k ys) e)
    ∙ sym (append_assoc (if is_label label x then start ∷ [] else []) (places_from label (start + words_of x) xs) (places_from label (start + words_in (x ∷ xs)) ys))

-- ---- one item more

words_more : (items : List Item) (i : ℕ) (d : Item) → i < length items → words_in (take (i + 1) items) ≡ words_in (take i items) + words_of (get_or items i d)
words_more items i d lt =
    let w = words_append (take i items) (get_or items i d ∷ []) in
    ap words_in (take_more items i d lt) ∙ (let e : words_in (take i items ++ get_or items i d ∷ []) ≡ words_in (take i items) + words_of (get_or items i d) = omega arith in e)

places_more : (items : List Item) (i : ℕ) (d : Item) (label : ℕ) → i < length items →
    places_from label 0 (take (i + 1) items)
    ≡ places_from label 0 (take i items) ++ ((if is_label label (get_or items i d) then (0 + words_in (take i items)) ∷ [] else []) ++ [])
places_more items i d label lt =
    ap (places_from label 0) (take_more items i d lt) ∙ places_append label 0 (take i items) (get_or items i d ∷ [])

pub here_step : (items : List Item) (i : ℕ) (d : Item) (place w : ℕ) → i < length items → w ≡ words_of (get_or items i d) →
    place ≡ words_in (take i items) → place + w ≡ words_in (take (i + 1) items)
here_step items i d place w lt e h = let m = words_more items i d lt in omega arith

kept_more : (places : List ℕ) (place : ℕ) → kept_of (places ++ (place ∷ [] ++ [])) ≡ Some (noted (kept_of places) place)
kept_more [] place = refl
kept_more (x ∷ []) place = refl
kept_more (x ∷ (y ∷ places)) place = refl

pub labels_passed : (items : List Item) (i : ℕ) (d : Item) (table : BTreeMap ℕ (Option ℕ)) → i < length items →
    ((label : ℕ) → is_label label (get_or items i d) ≡ false) → HasLabels (take i items) table → HasLabels (take (i + 1) items) table
labels_passed items i d table lt none h = λ label.
    h label
    ∙ ap kept_of (sym (places_more items i d label lt
    ∙ ap (λ (b : Bool). places_from label 0 (take i items) ++ ((if b then (0 + words_in (take i items)) ∷ [] else []) ++ [])) (none label)
    ∙ append-nil (places_from label 0 (take i items))))

pub labels_noted : (items : List Item) (i : ℕ) (d : Item) (label place : ℕ) (before after : BTreeMap ℕ (Option ℕ)) → i < length items →
    get_or items i d ≡ Label label → place ≡ words_in (take i items) → HasLabels (take i items) before → Notes before after label place →
    HasLabels (take (i + 1) items) after
labels_noted items i d label place before after lt is here h n = λ other. from other (nat_eq label other) refl
  where
    one : (other : ℕ) (b : Bool) → nat_eq label other ≡ b →
        places_from other 0 (take (i + 1) items) ≡ places_from other 0 (take i items) ++ ((if b then place ∷ [] else []) ++ [])
    one other b e =
        places_more items i d other lt
        ∙ ap (λ (x : Item). places_from other 0 (take i items) ++ ((if is_label other x then (0 + words_in (take i items)) ∷ [] else []) ++ [])) is
        ∙ ap (λ (t : Bool). places_from other 0 (take i items) ++ ((if t then (0 + words_in (take i items)) ∷ [] else []) ++ [])) e
        ∙ ap (λ (k : ℕ). places_from other 0 (take i items) ++ ((if b then k ∷ [] else []) ++ [])) (let z : 0 + words_in (take i items) ≡ place = omega arith in z)

    from : (other : ℕ) (b : Bool) → nat_eq label other ≡ b → get nat_cmp after other ≡ kept_of (places_from other 0 (take (i + 1) items))
    from other true e =
        let same : label ≡ other = grind arith in
        n other
        ∙ ap (λ (t : Bool). if t then Some (noted (get nat_cmp before label) place) else get nat_cmp before other) e
        ∙ ap (λ (k : Option (Option ℕ)). Some (noted k place)) (ap (get nat_cmp before) same ∙ h other)
        ∙ sym (ap kept_of (one other true e) ∙ kept_more (places_from other 0 (take i items)) place)
    from other false e =
        n other
        ∙ ap (λ (t : Bool). if t then Some (noted (get nat_cmp before label) place) else get nat_cmp before other) e
        ∙ h other
        ∙ sym (ap kept_of (one other false e ∙ append-nil (places_from other 0 (take i items))))

pub no_label : (item : Item) → ((l : ℕ) → item ≡ Label l → ⊥) → (label : ℕ) → is_label label item ≡ false
no_label (Plain instr) h label = refl
no_label (Label l) h label = absurd (h l refl)
no_label (Jump cond l) h label = refl
no_label (Branch l) h label = refl
no_label (CallTo l) h label = refl
no_label (AddressOf l register) h label = refl
no_label (Word word) h label = refl

-- ---- the place of a label

pub looked_up : (items : List Item) (table : BTreeMap ℕ (Option ℕ)) (label : ℕ) → HasLabels items table → option_flatten (get nat_cmp table label) ≡ place_of items label
unfolding place_of
looked_up items table label h = ap option_flatten (h label) ∙ kept_flat (places_from label 0 items)
  where
    kept_flat : (places : List ℕ) → option_flatten (kept_of places) ≡ the_only places
    kept_flat [] = refl
    kept_flat (place ∷ places) = refl

abbrev AllAre : (ℕ → Type 0) → List ℕ → Type 0
AllAre P [] = Unit {0}
AllAre P (x ∷ xs) = P x × AllAre P xs

places_bound : (items : List Item) (label start bound : ℕ) → start + words_in items ≤ bound → AllAre (λ p. p ≤ bound) (places_from label start items)
places_bound [] label start bound h = tt
places_bound (item ∷ rest) label start bound h = more (is_label label item) (places_bound rest label (start + words_of item) bound (omega arith))
  where
    more : (b : Bool) → AllAre (λ p. p ≤ bound) (places_from label (start + words_of item) rest) → AllAre (λ p. p ≤ bound) ((if b then start ∷ [] else []) ++ places_from label (start + words_of item) rest)
    more true rests = (omega arith, rests)
    more false rests = rests

only_bound : (places : List ℕ) (bound : ℕ) → AllAre (λ p. p ≤ bound) places → IfSome (the_only places) (λ p. p ≤ bound)
only_bound [] bound h = tt
only_bound (p ∷ []) bound h = h.0
only_bound (p ∷ (q ∷ rest)) bound h = tt

pub place_within : (items : List Item) (label : ℕ) (o : Option ℕ) → o ≡ place_of items label → IfSome o (λ p. p ≤ words_in items)
unfolding place_of
place_within items label o e =
    subst (λ (x : Option ℕ). IfSome x (λ p. p ≤ words_in items)) (sym e) (only_bound (places_from label 0 items) (words_in items) (places_bound items label 0 (words_in items) (omega arith)))

-- ---- no instruction has more than three words

source_short : (s : Src) → length (src_extension s) ≤ 1
source_short (Reg r) = omega arith
source_short (Indexed r x) = omega arith
source_short (Absolute a) = omega arith
source_short (Indirect r) = omega arith
source_short (Increment r) = omega arith
source_short (Immediate v) = omega arith
source_short (Constant g) = omega arith

target_short : (d : Dst) → length (dst_extension d) ≤ 1
target_short (ToReg r) = omega arith
target_short (ToIndexed r x) = omega arith
target_short (ToAbsolute a) = omega arith

code_short : (i : Instr) → length (code_of i) ≤ 3
code_short (Two op byte s d) = let n = length-append (src_extension s) (dst_extension d) in let a = source_short s in let b = target_short d in omega arith
code_short (One op byte s) = let a = source_short s in omega arith
code_short (JumpBy cond o) = omega arith

words_short : (item : Item) → words_of item ≤ 3
words_short (Plain instr) = code_short instr
words_short (Label label) = omega arith
words_short (Jump cond label) = omega arith
words_short (Branch label) = omega arith
words_short (CallTo label) = omega arith
words_short (AddressOf label register) = omega arith
words_short (Word word) = omega arith

words_bound : (items : List Item) → words_in items ≤ 3 * length items
words_bound [] = omega arith
words_bound (item ∷ rest) = let a = words_short item in let b = words_bound rest in omega arith

pub place_small : (items : List Item) (label : ℕ) (o : Option ℕ) → length items < 2 ^ 32 → o ≡ place_of items label → IfSome o (λ p. p < 2 ^ 40)
place_small items label None few e = tt
place_small items label (Some p) few e = let w : p ≤ words_in items = place_within items label (Some p) e in let b = words_bound items in omega arith
