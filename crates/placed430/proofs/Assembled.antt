-- Parts of assembled items that stand as placed code, and as plain words.
use Rattle.std.proofs.Common.{◌≡◌, ℕ, ◌+◌, ◌*◌, refl, sym, ap, ◌∙◌, subst, arith, List, [], ◌∷◌, ◌++◌, length, length-append}
use Rattle.std.specs.Prelude.{map, IsTrue}
use Rattle.std.proofs.lemmas.Bool.{and_parts, and_from}
use Rattle.isa430.specs.declared.instr.Instr.{Instr}
use Rattle.isa430.specs.Table.{code_of, valid, WordsAt}
use Rattle.isa430.proofs.Formats.{code_size}
use Rattle.run430.specs.Code.{Placed, words_of_code, are_valid as are_valid_code}
use Rattle.run430.proofs.Placing.{places}
use Rattle.asm430.specs.declared.item.Item.{Item}
use Rattle.asm430.specs.declared.item.Item.TheVariants.{Word}
use Rattle.asm430.specs.Assembly.{words_in, StandFrom}
use Rattle.asm430.specs.Instructions.{instrs_from, are_code}
use Rattle.asm430.specs.Listing.{codes_of, are_valid}
use Rattle.asm430.proofs.Laying.{stand_append, instrs_long, laid}
use Rattle.asm430.proofs.Labels.{words_append}
use Rattle.placed430.specs.Assembled.{IsAssembled, address_of, end_of, size_of_code}

-- both crates say in the same words what a list of instructions is
same_words : (is : List Instr) → codes_of is ≡ words_of_code is
same_words [] = refl
same_words (i ∷ is) = ap (λ (k : List ℕ). code_of i ++ k) (same_words is)

same_valid : (is : List Instr) → IsTrue (are_valid is) → IsTrue (are_valid_code is)
same_valid [] h = refl
same_valid (i ∷ is) h =
    let parts = and_parts (valid i) (are_valid is) h in
    and_from (valid i) (are_valid_code is) parts.0 (same_valid is parts.1)

-- the instructions of a part that has no plain words stand from its address on
pub placed : (items : List Item) (words : List ℕ) (m : ℕ → ℕ) → IsAssembled items words m → (front part back : List Item) → items ≡ front ++ (part ++ back) → IsTrue (are_code part) → Placed m 0x8000 (end_of items) (address_of front) (instrs_from items (words_in front) part)
placed items words m h front part back is code =
    let l = laid items words m front part back h.formed h.faultless h.stands h.held is code in
    let instrs : List Instr = instrs_from items (words_in front) part in
    let here : WordsAt m (address_of front) (words_of_code instrs) = subst (λ (ws : List ℕ). WordsAt m (address_of front) ws) (same_words instrs) l.words in
    let long : length (words_of_code instrs) ≡ words_in part = ap length (sym (same_words instrs)) ∙ l.long in
    let short = l.short in let within = l.within in
    places m 0x8000 (end_of items) (omega arith) instrs (address_of front) here (same_valid instrs l.are_valid) (omega arith) (omega arith) (omega arith)

-- plain words stand
words_stand : (items : List Item) (m : ℕ → ℕ) (start : ℕ) (plain : List ℕ) → StandFrom items m start (map Word plain) → WordsAt m (0x8000 + 2 * start) plain
words_stand items m start [] h = tt
words_stand items m start (w ∷ ws) h =
    let e : 0x8000 + 2 * (start + 1) ≡ 0x8000 + 2 * start + 2 = omega arith in
    (h.0.0, subst (λ (a : ℕ). WordsAt m a ws) e (words_stand items m (start + 1) ws h.1))

pub words_placed : (items : List Item) (words : List ℕ) (m : ℕ → ℕ) → IsAssembled items words m → (front : List Item) (plain : List ℕ) (back : List Item) → items ≡ front ++ (map Word plain ++ back) → WordsAt m (address_of front) plain
words_placed items words m h front plain back is =
    let z : 0 + words_in front ≡ words_in front = omega arith in
    let stand = (stand_append items m (0 + words_in front) (map Word plain) back (stand_append items m 0 front (map Word plain ++ back) (subst (StandFrom items m 0) is (h.stands m h.held))).1).0 in
    words_stand items m (words_in front) plain (subst (λ (k : ℕ). StandFrom items m k (map Word plain)) z stand)

-- ---- one part behind the other

pub address_append : (front part : List Item) → address_of (front ++ part) ≡ address_of front + 2 * words_in part
address_append front part = let e = words_append front part in omega arith

size_words : (is : List Instr) → size_of_code is ≡ 2 * length (codes_of is)
size_words [] = refl
size_words (i ∷ is) =
    let more : size_of_code is ≡ 2 * length (codes_of is) = size_words is in
    let one = code_size i in
    let n = length-append (code_of i) (codes_of is) in
    omega arith

-- the instructions of a part reach to what stands behind it
pub part_size : (items : List Item) (start : ℕ) (part : List Item) → IsTrue (are_code part) → size_of_code (instrs_from items start part) ≡ 2 * words_in part
part_size items start part code = size_words (instrs_from items start part) ∙ ap (λ (n : ℕ). 2 * n) (instrs_long items start part code)
