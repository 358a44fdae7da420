-- The words one after another stand in order, and in memory; without a fault each can be made.
use Rattle.std.proofs.Common.{◌≡◌, ℕ, ◌+◌, ◌-◌, ◌*◌, ◌≤◌, zero, suc, List, [], ◌∷◌, ◌++◌, Bool, true, false, Option, Some, None, length, take, drop, refl, sym, ap, subst, ◌∙◌, length-append, arith}
use Rattle.std.specs.Prelude.{IsTrue, slice_get, slice_range, nat_lt, if◌then◌else◌, ℤ}
use Rattle.std.proofs.lemmas.Bool.{and_parts, and_from}
use Rattle.std.proofs.Math.Seq.{take-append_seam, drop-append-add}
use Rattle.isa430.specs.Table.{WordsAt, offset_formed}
use Rattle.asm430.specs.declared.item.Item.{Item}
use Rattle.asm430.specs.declared.item.Item.TheVariants.{Instr as Plain, Label, Jump, Branch, CallTo, AddressOf, Word}
use Rattle.asm430.specs.declared.item.AsmErr.{AsmErr}
use Rattle.asm430.specs.declared.item.AsmErr.TheVariants.{Unbound, Far, TooLong, NoMemory}
use Rattle.asm430.proofs.Steps.{first_none}
use Rattle.std.proofs.lemmas.Bool.Decides.{nat_tests}
use Rattle.asm430.specs.Assembly.{are_formed, is_formed, words_of, words_in, place, place_of, offset, distance, far_to, far_by, far_in, unbound_at, unbound_by, unbound_in, used, too_long, faults, first, IsCause, item_words, StandInOrder, StandFrom, StandInMemory}
use Rattle.asm430.specs.Emission.{is_ready, are_ready, words_from}

-- ---- lengths

pub length_of_item : (all : List Item) (start : ℕ) (item : Item) → length (item_words all start item) ≡ words_of item
length_of_item all start (Plain instr) = refl
length_of_item all start (Label label) = refl
length_of_item all start (Jump cond label) = refl
length_of_item all start (Branch label) = refl
length_of_item all start (CallTo label) = refl
length_of_item all start (AddressOf label register) = refl
length_of_item all start (Word word) = refl

pub length_of_words : (all : List Item) (start : ℕ) (items : List Item) → length (words_from all start items) ≡ words_in items
length_of_words all start [] = refl
length_of_words all start (item ∷ rest) =
    length-append (item_words all start item) (words_from all (start + words_of item) rest)
    ∙ (let a : length (item_words all start item) ≡ words_of item = length_of_item all start item in
    let b : length (words_from all (start + words_of item) rest) ≡ words_in rest = length_of_words all (start + words_of item) rest in
    omega arith)

-- ---- in order

head_range : (xs ys : List ℕ) (n : ℕ) → length xs ≡ n → slice_range (xs ++ ys) 0 (0 + n) ≡ xs
head_range xs ys n e =
    let same : (0 + n) - 0 ≡ length xs = omega (arith, e) in
    ap (λ k. take k (xs ++ ys)) same ∙ take-append_seam xs ys

tail_range : (xs ys : List ℕ) (n p w : ℕ) → length xs ≡ n → slice_range (xs ++ ys) (n + p) ((n + p) + w) ≡ slice_range ys p (p + w)
tail_range xs ys n p w e =
    let same : ((n + p) + w) - (n + p) ≡ (p + w) - p = omega arith in
    ap (λ k. take k (drop (n + p) (xs ++ ys))) same
    ∙ ap (take ((p + w) - p)) (ap (λ k. drop (k + p) (xs ++ ys)) (sym e) ∙ drop-append-add xs ys p)

some_same : (a b : Item) → Some a ≡ Some b → a ≡ b
some_same a b e = cc

pub in_order : (all : List Item) (start : ℕ) (items : List Item) (number : ℕ) (item : Item) → slice_get items number ≡ Some item →
    slice_range (words_from all start items) (place items number) (place items number + words_of item)
    ≡ item_words all (start + place items number) item
in_order all start [] number item e = cc
in_order all start (head ∷ rest) zero item e =
    let same : head ≡ item = some_same head item e in
    let at_zero : item_words all start head ≡ item_words all (start + 0) head = ap (λ s. item_words all s head) (omega arith) in
    subst (λ (x : Item). slice_range (words_from all start (head ∷ rest)) 0 (0 + words_of x) ≡ item_words all (start + 0) x) same
    (head_range (item_words all start head) (words_from all (start + words_of head) rest) (words_of head) (length_of_item all start head) ∙ at_zero)
in_order all start (head ∷ rest) (suc number) item e =
    let moved : (start + words_of head) + place rest number ≡ start + (words_of head + place rest number) = omega arith in
    tail_range (item_words all start head) (words_from all (start + words_of head) rest) (words_of head) (place rest number) (words_of item) (length_of_item all start head)
    ∙ in_order all (start + words_of head) rest number item e
    ∙ ap (λ s. item_words all s item) moved

-- ---- in memory

words_at_parts : (m : ℕ → ℕ) (a n : ℕ) (xs ys : List ℕ) → length xs ≡ n → WordsAt m a (xs ++ ys) → WordsAt m a xs × WordsAt m (a + 2 * n) ys
words_at_parts m a n [] ys e h =
    let same : a ≡ a + 2 * n = omega (arith, e) in
    (tt, subst (λ (b : ℕ). WordsAt m b ys) same h)
words_at_parts m a n (x ∷ xs) ys e h =
    let parts : WordsAt m (a + 2) xs × WordsAt m ((a + 2) + 2 * length xs) ys = words_at_parts m (a + 2) (length xs) xs ys refl h.1 in
    let same : (a + 2) + 2 * length xs ≡ a + 2 * n = omega (arith, e) in
    ((h.0, parts.0), subst (λ (b : ℕ). WordsAt m b ys) same parts.1)

pub in_memory : (all : List Item) (m : ℕ → ℕ) (start : ℕ) (items : List Item) →
    WordsAt m (0x8000 + 2 * start) (words_from all start items) → StandFrom all m start items
in_memory all m start [] h = tt
in_memory all m start (item ∷ rest) h =
    let parts = words_at_parts m (0x8000 + 2 * start) (words_of item) (item_words all start item) (words_from all (start + words_of item) rest) (length_of_item all start item) h in
    let same : (0x8000 + 2 * start) + 2 * words_of item ≡ 0x8000 + 2 * (start + words_of item) = omega arith in
    (parts.0, in_memory all m (start + words_of item) rest (subst (λ (b : ℕ). WordsAt m b (words_from all (start + words_of item) rest)) same parts.1))

-- ---- without a fault

append_none : {A : Type 0} (a b : List A) → a ++ b ≡ [] → (a ≡ []) × (b ≡ [])
append_none [] b e = (refl, e)
append_none (x ∷ a) b e = cc

decided : (b : Bool) (fault : AsmErr) → (if b then [] else fault ∷ []) ≡ [] → IsTrue b
decided true fault e = refl
decided false fault e = cc

near : (number start : ℕ) (target : Option ℕ) → far_to number start target ≡ [] → IsTrue (offset_formed (offset start target))
near number start None e = refl
near number start (Some target) e = decided (offset_formed (distance start target)) _ e

pub ready_item : (all : List Item) (number start : ℕ) (item : Item) → IsTrue (is_formed item) → far_by all number start item ≡ [] → IsTrue (is_ready all start item)
ready_item all number start (Plain instr) f e = f
ready_item all number start (Label label) f e = refl
ready_item all number start (Jump cond label) f e = near number start (place_of all label) e
ready_item all number start (Branch label) f e = refl
ready_item all number start (CallTo label) f e = refl
ready_item all number start (AddressOf label register) f e = f
ready_item all number start (Word word) f e = refl

pub ready : (all : List Item) (number start : ℕ) (items : List Item) → IsTrue (are_formed items) → far_in all number start items ≡ [] → IsTrue (are_ready all start items)
ready all number start [] f e = refl
ready all number start (item ∷ rest) f e =
    let formed = and_parts (is_formed item) (are_formed rest) f in
    let none = append_none (far_by all number start item) (far_in all (number + 1) (start + words_of item) rest) e in
    and_from (is_ready all start item) (are_ready all (start + words_of item) rest)
    (ready_item all number start item formed.0 none.0)
    (ready all (number + 1) (start + words_of item) rest formed.1 none.1)

pub record Faultless (items : List Item) : Type 0 where
  pub none : faults items ≡ []
  pub near : far_in items 0 0 items ≡ []
  pub short : words_in items ≤ 14336

not_longer : (b : Bool) → (if b then TooLong ∷ [] else []) ≡ [] → b ≡ false
not_longer true e = cc
not_longer false e = refl

at_most : (n : ℕ) → nat_lt 14336 n ≡ false → n ≤ 14336
at_most n e = grind (arith, nat_tests)

pub faultless : (items : List Item) → None ≡ first (faults items) → Faultless items
faultless items e =
    let none : faults items ≡ [] = first_none (faults items) (sym e) in
    let parts = append_none (unbound_in items items) (far_in items 0 0 items ++ too_long (words_in items)) none in
    let rest = append_none (far_in items 0 0 items) (too_long (words_in items)) parts.1 in
    record { none = none; near = rest.0; short = at_most (words_in items) (not_longer (nat_lt 14336 (words_in items)) rest.1) }

-- ---- a fault is none of memory

append_memory : (a b : List AsmErr) → (first a ≡ Some NoMemory → ⊥) → (first b ≡ Some NoMemory → ⊥) → first (a ++ b) ≡ Some NoMemory → ⊥
append_memory [] b f g e = g e
append_memory (x ∷ a) b f g e = f e

at_target : (label : ℕ) (target : Option ℕ) → first (unbound_at label target) ≡ Some NoMemory → ⊥
at_target label None e = cc
at_target label (Some target) e = cc

unbound_memory : (all : List Item) (label : Option ℕ) → first (unbound_by all label) ≡ Some NoMemory → ⊥
unbound_memory all None e = cc
unbound_memory all (Some label) e = at_target label (place_of all label) e

far_memory_if : (b : Bool) (number : ℕ) (by : ℤ) → first (if b then [] else Far number by ∷ []) ≡ Some NoMemory → ⊥
far_memory_if true number by e = cc
far_memory_if false number by e = cc

to_target : (number start : ℕ) (target : Option ℕ) → first (far_to number start target) ≡ Some NoMemory → ⊥
to_target number start None e = cc
to_target number start (Some target) e = far_memory_if (offset_formed (distance start target)) number (distance start target) e

long_memory : (b : Bool) → first (if b then TooLong ∷ [] else []) ≡ Some NoMemory → ⊥
long_memory true e = cc
long_memory false e = cc

far_memory : (all : List Item) (number start : ℕ) (item : Item) → first (far_by all number start item) ≡ Some NoMemory → ⊥
far_memory all number start (Plain instr) e = cc
far_memory all number start (Label label) e = cc
far_memory all number start (Jump cond label) e = to_target number start (place_of all label) e
far_memory all number start (Branch label) e = cc
far_memory all number start (CallTo label) e = cc
far_memory all number start (AddressOf label register) e = cc
far_memory all number start (Word word) e = cc

unbound_in_memory : (all items : List Item) → first (unbound_in all items) ≡ Some NoMemory → ⊥
unbound_in_memory all [] e = cc
unbound_in_memory all (item ∷ rest) e = append_memory (unbound_by all (used item)) (unbound_in all rest) (unbound_memory all (used item)) (unbound_in_memory all rest) e

far_in_memory : (all : List Item) (number start : ℕ) (items : List Item) → first (far_in all number start items) ≡ Some NoMemory → ⊥
far_in_memory all number start [] e = cc
far_in_memory all number start (item ∷ rest) e =
    append_memory (far_by all number start item) (far_in all (number + 1) (start + words_of item) rest) (far_memory all number start item)
    (far_in_memory all (number + 1) (start + words_of item) rest) e

pub not_memory : (items : List Item) → first (faults items) ≡ Some NoMemory → ⊥
not_memory items e =
    append_memory (unbound_in items items) (far_in items 0 0 items ++ too_long (words_in items)) (unbound_in_memory items items)
    (λ f. append_memory (far_in items 0 0 items) (too_long (words_in items)) (far_in_memory items 0 0 items) (λ g. long_memory (nat_lt 14336 (words_in items)) g) f) e

pub cause : (items : List Item) (fault : AsmErr) → Some fault ≡ first (faults items) → IsCause (faults items) fault
cause items (Unbound label) e = sym e
cause items (Far item distance) e = sym e
cause items TooLong e = sym e
cause items NoMemory e = absurd (not_memory items (sym e))

-- ---- what the assembler gives

pub placed : (items : List Item) (words : List ℕ) → words ≡ words_from items 0 items → StandInOrder items words
placed items words e = λ number item g.
    let at : 0 + place items number ≡ place items number = omega arith in
    ap (λ ws. slice_range ws (place items number) (place items number + words_of item)) e
    ∙ in_order items 0 items number item g
    ∙ ap (λ s. item_words items s item) at

pub counted : (items : List Item) (words : List ℕ) → words ≡ words_from items 0 items → length words ≡ words_in items
counted items words e = ap length e ∙ length_of_words items 0 items

pub held : (items : List Item) (words : List ℕ) → words ≡ words_from items 0 items → StandInMemory items words
held items words e = λ m h. in_memory items m 0 items (subst (λ (ws : List ℕ). WordsAt m 0x8000 ws) e h)
