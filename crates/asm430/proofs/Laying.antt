-- Items one after another: where they stand, which labels they have, and which instructions they are.
use Rattle.std.proofs.Common.{◌≡◌, ◌≢◌, ℕ, ◌+◌, ◌*◌, ◌<◌, ◌≤◌, refl, sym, ap, ◌∙◌, subst, arith, Bool, true, false, ◌&&◌, ◌⊎◌, inl, inr, List, [], ◌∷◌, ◌++◌, Some, length, length-append, append_assoc, if◌then◌else◌}
use Rattle.std.specs.Prelude.{map, IsTrue, nat_le, nat_lt}
use Rattle.std.specs.Option.{option_to_list}
use Rattle.std.proofs.lemmas.Bool.{and_parts, and_from, eq-eqb, ne_eqb}
use Rattle.std.proofs.lemmas.List.{append-nil}
use Rattle.std.proofs.lemmas.Bool.Decides.{nat_tests}
use Rattle.isa430.specs.declared.instr.Instr.{Instr}
use Rattle.isa430.specs.Table.{code_of, valid, offset_formed, WordsAt}
use Rattle.asm430.specs.declared.item.Item.{Item}
use Rattle.asm430.specs.declared.item.Item.TheVariants.{Instr as Plain, Label, Jump, Branch, CallTo, AddressOf, Word}
use Rattle.asm430.specs.Assembly.{are_formed, words_of, words_in, is_label, places_from, place_of, the_only, address, offset, load, item_words, StandFrom, StandInMemory, faults, first}
use Rattle.asm430.specs.Emission.{is_ready, are_ready}
use Rattle.asm430.specs.Instructions.{instr_of, instrs_from, is_code, are_code, LabelIn, LabelsIn}
use Rattle.asm430.specs.Listing.{codes_of, are_valid}
use Rattle.asm430.proofs.Labels.{words_append, places_append}
use Rattle.asm430.proofs.Placing.{length_of_item, faultless, ready}

-- ---- where they stand

pub stand_append : (all : List Item) (m : ℕ → ℕ) (start : ℕ) (xs ys : List Item) → StandFrom all m start (xs ++ ys) → StandFrom all m start xs × StandFrom all m (start + words_in xs) ys
stand_append all m start [] ys h = (tt, let e : start ≡ start + 0 = omega arith in subst (λ (k : ℕ). StandFrom all m k ys) e h)
stand_append all m start (x ∷ xs) ys h =
    let k = stand_append all m (start + words_of x) xs ys h.1 in
    ((h.0, k.0), let e : start + words_of x + words_in xs ≡ start + (words_of x + words_in xs) = omega arith in subst (λ (j : ℕ). StandFrom all m j ys) e k.1)

pub ready_append : (all : List Item) (start : ℕ) (xs ys : List Item) → IsTrue (are_ready all start (xs ++ ys)) → IsTrue (are_ready all start xs) × IsTrue (are_ready all (start + words_in xs) ys)
ready_append all start [] ys h = (refl, let e : start ≡ start + 0 = omega arith in subst (λ (k : ℕ). IsTrue (are_ready all k ys)) e h)
ready_append all start (x ∷ xs) ys h =
    let parts = and_parts (is_ready all start x) (are_ready all (start + words_of x) (xs ++ ys)) h in
    let k = ready_append all (start + words_of x) xs ys parts.1 in (
      and_from (is_ready all start x) (are_ready all (start + words_of x) xs) parts.0 k.0,
      let e : start + words_of x + words_in xs ≡ start + (words_of x + words_in xs) = omega arith in subst (λ (j : ℕ). IsTrue (are_ready all j ys)) e k.1,
    )

-- ---- which labels they have

pub labels_append : (lo hi : ℕ) (xs ys : List Item) → LabelsIn lo hi xs → LabelsIn lo hi ys → LabelsIn lo hi (xs ++ ys)
labels_append lo hi [] ys h k = k
labels_append lo hi (x ∷ xs) ys h k = (h.0, labels_append lo hi xs ys h.1 k)

label_wider : (lo lo2 hi hi2 : ℕ) (x : Item) → lo2 ≤ lo → hi ≤ hi2 → LabelIn lo hi x → LabelIn lo2 hi2 x
label_wider lo lo2 hi hi2 (Plain i) a b h = tt
label_wider lo lo2 hi hi2 (Label l) a b h = let c = h.0 in let d = h.1 in (omega arith, omega arith)
label_wider lo lo2 hi hi2 (Jump k l) a b h = tt
label_wider lo lo2 hi hi2 (Branch l) a b h = tt
label_wider lo lo2 hi hi2 (CallTo l) a b h = tt
label_wider lo lo2 hi hi2 (AddressOf l n) a b h = tt
label_wider lo lo2 hi hi2 (Word w) a b h = tt

pub labels_wider : (lo lo2 hi hi2 : ℕ) (xs : List Item) → lo2 ≤ lo → hi ≤ hi2 → LabelsIn lo hi xs → LabelsIn lo2 hi2 xs
labels_wider lo lo2 hi hi2 [] a b h = tt
labels_wider lo lo2 hi hi2 (x ∷ xs) a b h = (label_wider lo lo2 hi hi2 x a b h.0, labels_wider lo lo2 hi hi2 xs a b h.1)

-- a label outside the numbers stands nowhere
not_here : (l lo hi : ℕ) (x : Item) → (l < lo) ⊎ (hi ≤ l) → LabelIn lo hi x → is_label l x ≡ false
not_here l lo hi (Plain i) o h = refl
not_here l lo hi (Label k) o h = let n : k ≢ l = apart o h.0 h.1 in ne_eqb k l n
  where
    apart : (l < lo) ⊎ (hi ≤ l) → lo ≤ k → k < hi → k ≢ l
    apart (inl a) b c e = omega arith
    apart (inr a) b c e = omega arith
not_here l lo hi (Jump k j) o h = refl
not_here l lo hi (Branch k) o h = refl
not_here l lo hi (CallTo k) o h = refl
not_here l lo hi (AddressOf k n) o h = refl
not_here l lo hi (Word w) o h = refl

pub none_there : (l lo hi start : ℕ) (xs : List Item) → (l < lo) ⊎ (hi ≤ l) → LabelsIn lo hi xs → places_from l start xs ≡ []
none_there l lo hi start [] o h = refl
none_there l lo hi start (x ∷ xs) o h =
    ap (λ (b : Bool). (if b then start ∷ [] else []) ++ places_from l (start + words_of x) xs) (not_here l lo hi x o h.0) ∙ none_there l lo hi (start + words_of x) xs o h.1

-- where the parts of a list have labels of their own, a label of the middle part stands where it stands there
pub only_middle : (l lo mid hi end start : ℕ) (front middle rest : List Item) → LabelsIn lo mid front → LabelsIn hi end rest → mid ≤ l → l < hi → places_from l start (front ++ (middle ++ rest)) ≡ places_from l (start + words_in front) middle
only_middle l lo mid hi end start front middle rest h k a b =
    places_append l start front (middle ++ rest)
    ∙ ap (λ (x : List ℕ). x ++ places_from l (start + words_in front) (middle ++ rest)) (none_there l lo mid start front (inr a) h)
    ∙ places_append l (start + words_in front) middle rest
    ∙ ap (λ (x : List ℕ). places_from l (start + words_in front) middle ++ x) (none_there l hi end (start + words_in front + words_in middle) rest (inl b) k)
    ∙ append-nil (places_from l (start + words_in front) middle)

-- the place that it denotes
pub middle_place : (l lo mid hi end : ℕ) (front middle rest : List Item) → LabelsIn lo mid front → LabelsIn hi end rest → mid ≤ l → l < hi → place_of (front ++ (middle ++ rest)) l ≡ the_only (places_from l (0 + words_in front) middle)
unfolding place_of
middle_place l lo mid hi end front middle rest h k a b = ap the_only (only_middle l lo mid hi end 0 front middle rest h k a b)

-- and where it stands by itself, the place of what follows it
pub label_place : (l lo mid hi end : ℕ) (front back : List Item) → LabelsIn lo mid front → LabelsIn hi end back → mid ≤ l → l < hi →
    place_of (front ++ (Label l ∷ back)) l ≡ Some (words_in front)
label_place l lo mid hi end front back h k a b =
    let z : 0 + words_in front ≡ words_in front = omega arith in
    middle_place l lo mid hi end front (Label l ∷ []) back h k a b
    ∙ ap (λ (t : Bool). the_only ((if t then (0 + words_in front) ∷ [] else []) ++ [])) (eq-eqb l l refl)
    ∙ ap Some z

-- ---- which instructions they are

pub code_append : (xs ys : List Item) → IsTrue (are_code xs) → IsTrue (are_code ys) → IsTrue (are_code (xs ++ ys))
code_append [] ys h k = k
code_append (x ∷ xs) ys h k =
    let parts = and_parts (is_code x) (are_code xs) h in
    and_from (is_code x) (are_code (xs ++ ys)) parts.0 (code_append xs ys parts.1 k)

pub instrs_append : (all : List Item) (start : ℕ) (xs ys : List Item) → instrs_from all start (xs ++ ys) ≡ instrs_from all start xs ++ instrs_from all (start + words_in xs) ys
instrs_append all start [] ys = let e : start ≡ start + 0 = omega arith in ap (λ (k : ℕ). instrs_from all k ys) e
instrs_append all start (x ∷ xs) ys =
    let e : start + words_of x + words_in xs ≡ start + (words_of x + words_in xs) = omega arith in
    ap (λ (k : List Instr). option_to_list (instr_of all start x) ++ k)
    (instrs_append all (start + words_of x) xs ys ∙ ap (λ (k : ℕ). instrs_from all (start + words_of x) xs ++ instrs_from all k ys) e)
    ∙ sym (append_assoc (option_to_list (instr_of all start x)) (instrs_from all (start + words_of x) xs) (instrs_from all (start + words_in (x ∷ xs)) ys))

-- instructions that stand as items are these
pub instrs_plain : (all : List Item) (start : ℕ) (is : List Instr) → instrs_from all start (map Plain is) ≡ is
instrs_plain all start [] = refl
instrs_plain all start (i ∷ is) = ap (λ (k : List Instr). i ∷ k) (instrs_plain all (start + length (code_of i)) is)

pub code_plain : (is : List Instr) → IsTrue (are_code (map Plain is))
code_plain [] = refl
code_plain (i ∷ is) = code_plain is

pub labels_plain : (lo hi : ℕ) (is : List Instr) → LabelsIn lo hi (map Plain is)
labels_plain lo hi [] = tt
labels_plain lo hi (i ∷ is) = (tt, labels_plain lo hi is)

-- the words of an item are those of its instruction
item_code : (all : List Item) (start : ℕ) (item : Item) → IsTrue (is_code item) → item_words all start item ≡ codes_of (option_to_list (instr_of all start item))
item_code all start (Plain instr) c = sym (append-nil (code_of instr))
item_code all start (Label label) c = refl
item_code all start (Jump cond label) c = refl
item_code all start (Branch label) c = refl
item_code all start (CallTo label) c = refl
item_code all start (AddressOf label register) c = refl
item_code all start (Word word) c = cc

codes_append : (xs ys : List Instr) → codes_of (xs ++ ys) ≡ codes_of xs ++ codes_of ys
codes_append [] ys = refl
codes_append (x ∷ xs) ys = ap (λ (k : List ℕ). code_of x ++ k) (codes_append xs ys) ∙ sym (append_assoc (code_of x) (codes_of xs) (codes_of ys))

words_join : (m : ℕ → ℕ) (a : ℕ) (xs ys : List ℕ) → WordsAt m a xs → WordsAt m (a + 2 * length xs) ys → WordsAt m a (xs ++ ys)
words_join m a [] ys h k = let e : a + 0 ≡ a = omega arith in subst (λ (x : ℕ). WordsAt m x ys) e k
words_join m a (x ∷ xs) ys h k =
    (h.0, words_join m (a + 2) xs ys h.1 (let e : a + 2 * length (x ∷ xs) ≡ a + 2 + 2 * length xs = omega arith in subst (λ (j : ℕ). WordsAt m j ys) e k))

-- where items stand, the words of their instructions stand
pub instrs_stand : (all : List Item) (m : ℕ → ℕ) (start : ℕ) (items : List Item) → IsTrue (are_code items) → StandFrom all m start items → WordsAt m (0x8000 + 2 * start) (codes_of (instrs_from all start items))
instrs_stand all m start [] c h = tt
instrs_stand all m start (item ∷ rest) c h =
    let parts = and_parts (is_code item) (are_code rest) c in
    let long : length (item_words all start item) ≡ words_of item = length_of_item all start item in
    let e : 0x8000 + 2 * (start + words_of item) ≡ 0x8000 + 2 * start + 2 * length (item_words all start item) = omega arith in
    let more = subst (λ (a : ℕ). WordsAt m a (codes_of (instrs_from all (start + words_of item) rest))) e (instrs_stand all m (start + words_of item) rest parts.1 h.1) in
    let whole : item_words all start item ++ codes_of (instrs_from all (start + words_of item) rest) ≡ codes_of (instrs_from all start (item ∷ rest)) =
    ap (λ (k : List ℕ). k ++ codes_of (instrs_from all (start + words_of item) rest)) (item_code all start item parts.0)
    ∙ sym (codes_append (option_to_list (instr_of all start item)) (instrs_from all (start + words_of item) rest)) in
    subst (λ (ws : List ℕ). WordsAt m (0x8000 + 2 * start) ws) whole (words_join m (0x8000 + 2 * start) (item_words all start item) _ h.0 more)

-- they have as many words
pub instrs_long : (all : List Item) (start : ℕ) (items : List Item) → IsTrue (are_code items) → length (codes_of (instrs_from all start items)) ≡ words_in items
instrs_long all start [] c = refl
instrs_long all start (item ∷ rest) c =
    let parts = and_parts (is_code item) (are_code rest) c in
    let more : length (codes_of (instrs_from all (start + words_of item) rest)) ≡ words_in rest = instrs_long all (start + words_of item) rest parts.1 in
    let one : length (codes_of (option_to_list (instr_of all start item))) ≡ words_of item = ap length (sym (item_code all start item parts.0)) ∙ length_of_item all start item in
    let two = length-append (codes_of (option_to_list (instr_of all start item))) (codes_of (instrs_from all (start + words_of item) rest)) in
    ap length (codes_append (option_to_list (instr_of all start item)) (instrs_from all (start + words_of item) rest)) ∙ (let e : length (codes_of (option_to_list (instr_of all start item)) ++ codes_of (instrs_from all (start + words_of item) rest)) ≡ words_of item + words_in rest = omega arith in e)

-- and where they can be made they are valid
load_valid : (value register : ℕ) → IsTrue (nat_le 4 register && nat_lt register 16) → IsTrue (valid (load value register))
load_valid value register h = grind (arith, nat_tests)

item_valid : (all : List Item) (start : ℕ) (item : Item) → IsTrue (is_ready all start item) → IsTrue (are_valid (option_to_list (instr_of all start item)))
item_valid all start (Plain instr) h = and_from (valid instr) true h refl
item_valid all start (Label label) h = refl
item_valid all start (Jump cond label) h = and_from (offset_formed (offset start (place_of all label))) true h refl
item_valid all start (Branch label) h = refl
item_valid all start (CallTo label) h = refl
item_valid all start (AddressOf label register) h = and_from (valid (load (address (place_of all label)) register)) true (load_valid (address (place_of all label)) register h) refl
item_valid all start (Word word) h = refl

valid_append : (xs ys : List Instr) → IsTrue (are_valid xs) → IsTrue (are_valid ys) → IsTrue (are_valid (xs ++ ys))
valid_append [] ys h k = k
valid_append (x ∷ xs) ys h k =
    let parts = and_parts (valid x) (are_valid xs) h in
    and_from (valid x) (are_valid (xs ++ ys)) parts.0 (valid_append xs ys parts.1 k)

pub instrs_valid : (all : List Item) (start : ℕ) (items : List Item) → IsTrue (are_ready all start items) → IsTrue (are_valid (instrs_from all start items))
instrs_valid all start [] h = refl
instrs_valid all start (item ∷ rest) h =
    let parts = and_parts (is_ready all start item) (are_ready all (start + words_of item) rest) h in
    valid_append (option_to_list (instr_of all start item)) (instrs_from all (start + words_of item) rest) (item_valid all start item parts.0) (instrs_valid all (start + words_of item) rest parts.1)

-- ---- any part of faultless items

-- a part of assembled items, in a memory that holds their words: its instructions stand from its place on and are valid
pub record Laid (all : List Item) (m : ℕ → ℕ) (front part : List Item) : Type 0 where
  pub words : WordsAt m (0x8000 + 2 * words_in front) (codes_of (instrs_from all (words_in front) part))
  pub are_valid : IsTrue (are_valid (instrs_from all (words_in front) part))
  pub long : length (codes_of (instrs_from all (words_in front) part)) ≡ words_in part
  pub short : words_in all ≤ 14336
  pub within : words_in front + words_in part ≤ words_in all

pub laid : (all : List Item) (words : List ℕ) (m : ℕ → ℕ) (front part back : List Item) → IsTrue (are_formed all) → faults all ≡ [] → StandInMemory all words → WordsAt m 0x8000 words → all ≡ front ++ (part ++ back) → IsTrue (are_code part) → Laid all m front part
laid all words m front part back formed none stands here is code =
    let good = faultless all (ap first (sym none)) in
    let can = ready all 0 0 all formed good.near in
    let z : 0 + words_in front ≡ words_in front = omega arith in
    let stand = (stand_append all m (0 + words_in front) part back (stand_append all m 0 front (part ++ back) (subst (StandFrom all m 0) is (stands m here))).1).0 in
    let made = (ready_append all (0 + words_in front) part back (ready_append all 0 front (part ++ back) (subst (λ (x : List Item). IsTrue (are_ready all 0 x)) is can)).1).0 in
    let whole : words_in all ≡ words_in front + (words_in part + words_in back) = ap words_in is ∙ words_append front (part ++ back) ∙ ap (λ (x : ℕ). words_in front + x) (words_append part back) in
    record {
      words = instrs_stand all m (words_in front) part code (subst (λ (k : ℕ). StandFrom all m k part) z stand);
      are_valid = instrs_valid all (words_in front) part (subst (λ (k : ℕ). IsTrue (are_ready all k part)) z made);
      long = instrs_long all (words_in front) part code;
      short = good.short;
      within = omega arith;
    }
