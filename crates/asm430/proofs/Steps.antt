-- One item more, in each walk over the items.
use Rattle.std.proofs.Common.{◌≡◌, ℕ, ◌+◌, ◌<◌, ◌≤◌, List, [], ◌∷◌, ◌++◌, Bool, true, false, Option, Some, None, length, drop, get_or, refl, sym, ap, ◌∙◌, add-one, drop-cons, arith}
use Rattle.std.specs.Prelude.{IsTrue}
use Rattle.std.specs.Option.{option_to_list, is_some, IfSome}
use Rattle.std.proofs.lemmas.Bool.{and_parts, and_from}
use Rattle.std.proofs.lemmas.List.{drop_all, append_assoc}
use Rattle.asm430.specs.declared.item.Item.{Item}
use Rattle.asm430.specs.declared.item.Item.TheVariants.{Instr as Plain}
use Rattle.asm430.specs.declared.item.AsmErr.{AsmErr}
use Rattle.isa430.specs.declared.instr.Instr.TheVariants.{Two}
use Rattle.isa430.specs.declared.instr.TwoOp.TheVariants.{Mov}
use Rattle.isa430.specs.declared.instr.Src.TheVariants.{Reg}
use Rattle.isa430.specs.declared.instr.Dst.TheVariants.{Reg as ToReg}
use Rattle.asm430.specs.Assembly.{are_formed, is_formed, words_of, words_in, is_label, places_from, place_of, the_only, first, far_by, far_in, unbound_by, unbound_in, used, item_words}
use Rattle.asm430.specs.Emission.{is_ready, are_ready, words_from}

-- what is read past the end of a list of items
abbrev pub filler : Item
filler = Plain (Two Mov false (Reg 0) (ToReg 0))

pub none_of : {A : Type 0} (o : Option A) (b : Bool) → b ≡ is_some o → b ≡ false → None ≡ o
none_of None b e f = refl
none_of (Some x) b e f = cc

pub opened : (items : List Item) (i : ℕ) (d : Item) → i < length items → drop i items ≡ get_or items i d ∷ drop (i + 1) items
opened items i d lt = rw add-one (drop-cons items i d lt)

pub formed_next : (items : List Item) (i : ℕ) (d : Item) → i < length items → IsTrue (are_formed (drop i items)) →
    IsTrue (is_formed (get_or items i d)) × IsTrue (are_formed (drop (i + 1) items))
formed_next items i d lt h = and_parts _ _ (ap are_formed (sym (opened items i d lt)) ∙ h)

pub words_next : (items : List Item) (i : ℕ) (d : Item) → i < length items →
    words_in (drop i items) ≡ words_of (get_or items i d) + words_in (drop (i + 1) items)
words_next items i d lt = ap words_in (opened items i d lt)

pub formed_push : (items : List Item) (item : Item) → IsTrue (are_formed items) → IsTrue (is_formed item) → IsTrue (are_formed (items ++ item ∷ []))
formed_push [] item f g = and_from (is_formed item) true g refl
formed_push (head ∷ rest) item f g =
    and_from (is_formed head) (are_formed (rest ++ item ∷ [])) (and_parts (is_formed head) (are_formed rest) f).0
    (formed_push rest item (and_parts (is_formed head) (are_formed rest) f).1 g)

-- ---- the places of a label

pub places_passed : (items : List Item) (i : ℕ) (d : Item) (label start : ℕ) (before all : List ℕ) → i < length items →
    is_label label (get_or items i d) ≡ false →
    before ++ places_from label start (drop i items) ≡ all →
    before ++ places_from label (start + words_of (get_or items i d)) (drop (i + 1) items) ≡ all
places_passed items i d label start before all lt miss h = rw (opened items i d lt, miss) at h

pub places_found : (items : List Item) (i : ℕ) (d : Item) (label start : ℕ) (all : List ℕ) → i < length items →
    is_label label (get_or items i d) ≡ true →
    places_from label start (drop i items) ≡ all →
    start ∷ places_from label (start + words_of (get_or items i d)) (drop (i + 1) items) ≡ all
places_found items i d label start all lt hit h = rw (opened items i d lt, hit) at h

-- the same, with the variables of the walk
pub places_step_found : (items : List Item) (i : ℕ) (d : Item) (label start w : ℕ) (found new : Option ℕ) (all : List ℕ) → i < length items →
    is_label label (get_or items i d) ≡ true → None ≡ found → new ≡ Some start → w ≡ words_of (get_or items i d) →
    option_to_list found ++ places_from label start (drop i items) ≡ all →
    option_to_list new ++ places_from label (start + w) (drop (i + 1) items) ≡ all
places_step_found items i d label start w (Some p) new all lt hit none n e h = cc
places_step_found items i d label start w None new all lt hit none n e h =
    rw (n, e) (places_found items i d label start all lt hit h)

pub places_step_passed : (items : List Item) (i : ℕ) (d : Item) (label start w : ℕ) (found new : Option ℕ) (all : List ℕ) → i < length items →
    is_label label (get_or items i d) ≡ false → new ≡ found → w ≡ words_of (get_or items i d) →
    option_to_list found ++ places_from label start (drop i items) ≡ all →
    option_to_list new ++ places_from label (start + w) (drop (i + 1) items) ≡ all
places_step_passed items i d label start w found new all lt miss n e h =
    rw (n, e) (places_passed items i d label start (option_to_list found) all lt miss h)

pub within_found : (new : Option ℕ) (start w : ℕ) → new ≡ Some start → IfSome new (λ p. p ≤ start + w)
within_found new start w n = rw n (omega arith)

pub within_passed : (found new : Option ℕ) (start w : ℕ) → new ≡ found → IfSome found (λ p. p ≤ start) → IfSome new (λ p. p ≤ start + w)
within_passed None new start w n h = rw n h
within_passed (Some p) new start w n h = rw n (omega arith)

pub twice : (items : List Item) (i : ℕ) (d : Item) (label start found : ℕ) → i < length items →
    is_label label (get_or items i d) ≡ true →
    found ∷ places_from label start (drop i items) ≡ places_from label 0 items →
    place_of items label ≡ None
unfolding place_of
twice items i d label start found lt hit h = ap the_only (sym (rw (opened items i d lt, hit) at h))

pub twice_some : (items : List Item) (i : ℕ) (d : Item) (label start : ℕ) (found : Option ℕ) (b : Bool) → i < length items →
    is_label label (get_or items i d) ≡ true → b ≡ is_some found → b ≡ true →
    option_to_list found ++ places_from label start (drop i items) ≡ places_from label 0 items →
    None ≡ place_of items label
twice_some items i d label start None b lt hit e f h = cc
twice_some items i d label start (Some p) b lt hit e f h = sym (twice items i d label start p lt hit h)

found_alone : (found : Option ℕ) → the_only (option_to_list found ++ []) ≡ found
found_alone None = refl
found_alone (Some p) = refl

pub ended : (items : List Item) (i label start : ℕ) (found : Option ℕ) → length items ≤ i →
    option_to_list found ++ places_from label start (drop i items) ≡ places_from label 0 items →
    found ≡ place_of items label
unfolding place_of
ended items i label start found le h =
    sym (ap the_only (sym h) ∙ ap (λ rest. the_only (option_to_list found ++ places_from label start rest)) (drop_all i items le) ∙ found_alone found)

-- ---- faults

pub first_none : (faults : List AsmErr) → first faults ≡ None → faults ≡ []
first_none [] e = refl
first_none (fault ∷ rest) e = cc

pub first_after : (a b : List AsmErr) → None ≡ first a → first (a ++ b) ≡ first b
first_after [] b e = refl
first_after (fault ∷ rest) b e = cc

pub first_here : (a b : List AsmErr) (fault : AsmErr) → Some fault ≡ first a → first (a ++ b) ≡ Some fault
first_here [] b fault e = cc
first_here (other ∷ rest) b fault e = sym e

pub unbound_next : (all items : List Item) (i : ℕ) (d : Item) → i < length items →
    None ≡ first (unbound_by all (used (get_or items i d))) →
    first (unbound_in all (drop (i + 1) items)) ≡ first (unbound_in all (drop i items))
unbound_next all items i d lt none = sym (ap (λ rest. first (unbound_in all rest)) (opened items i d lt) ∙ first_after _ _ none)

pub unbound_here : (all items : List Item) (i : ℕ) (d : Item) (fault : AsmErr) → i < length items →
    Some fault ≡ first (unbound_by all (used (get_or items i d))) →
    first (unbound_in all (drop i items)) ≡ Some fault
unbound_here all items i d fault lt some = ap (λ rest. first (unbound_in all rest)) (opened items i d lt) ∙ first_here _ _ fault some

pub far_next : (all items : List Item) (i : ℕ) (d : Item) (number start : ℕ) → i < length items →
    None ≡ first (far_by all number start (get_or items i d)) →
    first (far_in all (number + 1) (start + words_of (get_or items i d)) (drop (i + 1) items)) ≡ first (far_in all number start (drop i items))
far_next all items i d number start lt none = sym (ap (λ rest. first (far_in all number start rest)) (opened items i d lt) ∙ first_after _ _ none)

pub far_here : (all items : List Item) (i : ℕ) (d : Item) (number start : ℕ) (fault : AsmErr) → i < length items →
    Some fault ≡ first (far_by all number start (get_or items i d)) →
    first (far_in all number start (drop i items)) ≡ Some fault
far_here all items i d number start fault lt some = ap (λ rest. first (far_in all number start rest)) (opened items i d lt) ∙ first_here _ _ fault some

-- ---- the words

pub ready_next : (all items : List Item) (i : ℕ) (d : Item) (start : ℕ) → i < length items → IsTrue (are_ready all start (drop i items)) →
    IsTrue (is_ready all start (get_or items i d)) × IsTrue (are_ready all (start + words_of (get_or items i d)) (drop (i + 1) items))
ready_next all items i d start lt h = and_parts _ _ (ap (are_ready all start) (sym (opened items i d lt)) ∙ h)

pub words_added : (all items : List Item) (i : ℕ) (d : Item) (start : ℕ) (before : List ℕ) → i < length items →
    (before ++ item_words all start (get_or items i d)) ++ words_from all (start + words_of (get_or items i d)) (drop (i + 1) items)
    ≡ before ++ words_from all start (drop i items)
words_added all items i d start before lt =
    append_assoc before _ _ ∙ ap (λ rest. before ++ words_from all start rest) (sym (opened items i d lt))

-- ---- the same, with the variables of the walks

pub far_step : (all items : List Item) (i : ℕ) (d : Item) (number start w : ℕ) (fault : Option AsmErr) (b : Bool) (whole : Option AsmErr) → i < length items →
    fault ≡ first (far_by all number start (get_or items i d)) → b ≡ is_some fault → b ≡ false → w ≡ words_of (get_or items i d) →
    first (far_in all number start (drop i items)) ≡ whole →
    first (far_in all (number + 1) (start + w) (drop (i + 1) items)) ≡ whole
far_step all items i d number start w fault b whole lt e s f n h =
    rw n (far_next all items i d number start lt (none_of fault b s f ∙ e) ∙ h)

pub emit_step : (all items : List Item) (i : ℕ) (d : Item) (start w : ℕ) (before after whole : List ℕ) → i < length items →
    after ≡ before ++ item_words all start (get_or items i d) → w ≡ words_of (get_or items i d) →
    before ++ words_from all start (drop i items) ≡ whole →
    after ++ words_from all (start + w) (drop (i + 1) items) ≡ whole
emit_step all items i d start w before after whole lt e n h = rw (e, n) (words_added all items i d start before lt ∙ h)

pub within_step : (items : List Item) (i : ℕ) (d : Item) (start w whole : ℕ) → i < length items → w ≡ words_of (get_or items i d) →
    start + words_in (drop i items) ≡ whole → (start + w) + words_in (drop (i + 1) items) ≡ whole
within_step items i d start w whole lt n h = let e : words_in (drop i items) ≡ words_of (get_or items i d) + words_in (drop (i + 1) items) = words_next items i d lt in omega arith
