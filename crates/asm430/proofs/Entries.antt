-- What words begin with, and the lines of entries one after another.
use Rattle.std.proofs.Common.{◌≡◌, ℕ, ◌+◌, ◌*◌, ◌<◌, ◌≤◌, List, [], ◌∷◌, ◌++◌, Some, None, length, take, drop, get_or, refl, sym, ap, subst, ◌∙◌, zero, suc, length-append, length-drop, arith, IsTrue}
use Rattle.std.specs.Prelude.{slice_index}
use Rattle.std.proofs.lemmas.Bool.{and_parts}
use Rattle.std.proofs.lemmas.List.{append_assoc, append-nil, append_cancel_left, drop-drop, drop_more, drop_all, length-take, take-append-drop}
use Rattle.isa430.specs.declared.instr.Instr.{Instr}
use Rattle.isa430.specs.declared.instr.Instr.TheVariants.{Two, One, Jump}
use Rattle.isa430.specs.Table.{code_of, valid, size_of, decode_words}
use Rattle.base16.specs.Hexadecimal.{hex4}
use Rattle.asm430.specs.Listing.{Entry, Instruction, Datum, entry_words, words_of_entries, BeginWithNone, StandsBefore, AreStanding, IsReading, are_valid, codes_of, instructions, entry_line, entry_lines, data_line, data_lines, line, spaced_words}
use Rattle.asm430.specs.Printing.{Leads, IsFirstAdded, AreAdded, Begun}

-- the law of decoding a list of words
abbrev pub Decodes : Type 0
Decodes = (i : Instr) → (rest : List ℕ) → IsTrue (valid i) → decode_words (code_of i ++ rest) ≡ Some i

-- ---- what words begin with

code_some : (i : Instr) → 0 < length (code_of i)
code_some (Two op byte src dst) = omega arith
code_some (One op byte src) = omega arith
code_some (Jump cond offset) = omega arith

pub none_begins : (words : List ℕ) → Decodes → decode_words words ≡ None → BeginWithNone words
none_begins words law none = λ instr after formed here.
    let e : decode_words (code_of instr ++ after) ≡ None = ap decode_words here ∙ none in
    let s : decode_words (code_of instr ++ after) ≡ Some instr = law instr after formed in
    cc

-- the only instruction that they could begin with has more words than there are
pub none_fits : (words : List ℕ) (i : Instr) → Decodes → decode_words words ≡ Some i → length words < length (code_of i) → BeginWithNone words
none_fits words i law some long = λ instr after formed here.
    let e : decode_words (code_of instr ++ after) ≡ Some i = ap decode_words here ∙ some in
    let s : decode_words (code_of instr ++ after) ≡ Some instr = law instr after formed in
    let same : instr ≡ i = cc in
    let n : length (code_of instr) ≡ length (code_of i) = ap (λ k. length (code_of k)) same in
    let whole : length (code_of instr) + length after ≡ length words = sym (length-append (code_of instr) after) ∙ ap length here in
    omega arith

take_window : (words : List ℕ) (n : ℕ) → n ≤ 3 → n ≤ length words →
    take n (slice_index words 0 ∷ slice_index words 1 ∷ slice_index words 2 ∷ []) ≡ take n words
take_window words zero three within = refl
take_window [] (suc n) three within = absurd (omega arith)
take_window (a ∷ rest) (suc zero) three within = refl
take_window (a ∷ []) (suc (suc n)) three within = absurd (omega arith)
take_window (a ∷ (b ∷ rest)) (suc (suc zero)) three within = refl
take_window (a ∷ (b ∷ [])) (suc (suc (suc n))) three within = absurd (omega arith)
take_window (a ∷ (b ∷ (c ∷ rest))) (suc (suc (suc zero))) three within = refl
take_window (a ∷ (b ∷ (c ∷ rest))) (suc (suc (suc (suc n)))) three within = absurd (omega arith)

pub leads : (words : List ℕ) (w0 w1 w2 : ℕ) (i : Instr) (d n : ℕ) →
    w0 ≡ slice_index words 0 → w1 ≡ slice_index words 1 → w2 ≡ slice_index words 2 → IsTrue (valid i) →
    take d (w0 ∷ w1 ∷ w2 ∷ []) ≡ code_of i → 2 * d ≡ size_of i → 2 * n ≡ size_of i →
    n ≡ length (code_of i) → n ≤ length words → Leads words n
leads words w0 w1 w2 i d n e0 e1 e2 formed window size len long within =
    let same : d ≡ n = omega arith in
    let three : length (code_of i) ≤ 3 =
    let e = ap length window in
    let m = length-take d (w0 ∷ w1 ∷ w2 ∷ []) in
    omega arith in
    let some : 0 < length (code_of i) = code_some i in
    let taken : take n words ≡ take n (w0 ∷ w1 ∷ w2 ∷ []) =
    rw (e0, e1, e2) (sym (take_window words n (omega arith) within)) in
    record {
      instr = i;
      formed = formed;
      long = long;
      here = taken ∙ ap (λ k. take k (w0 ∷ w1 ∷ w2 ∷ [])) (sym same) ∙ window;
      some = omega arith;
      within = within;
    }

pub first_instr : (words : List ℕ) (address taken : ℕ) (before after : List ℕ) → Leads words taken →
    after ≡ before ++ line (hex4 address ++ spaced_words (take taken words)) → IsFirstAdded words address taken before after
first_instr words address taken before after l added = record {
  entry = Instruction l.instr;
  stands = l.formed;
  here = ap (λ k. k ++ drop taken words) (sym l.here) ∙ take-append-drop taken words;
  long = l.long;
  some = l.some;
  within = l.within;
  added = added ∙ ap (λ k. before ++ line (hex4 address ++ spaced_words k)) l.here;
}

pub first_datum : (words : List ℕ) (address word : ℕ) (before after : List ℕ) → 0 < length words → BeginWithNone words →
    word ≡ get_or words 0 0 → after ≡ before ++ data_line address word → IsFirstAdded words address 1 before after
first_datum words address word before after some none e added =
    let opened : word ∷ drop 1 words ≡ words = ap (λ w. w ∷ drop 1 words) e ∙ sym (drop_more words 0 0 some) in
    record {
      entry = Datum word;
      stands = subst BeginWithNone (sym opened) none;
      here = opened;
      long = refl;
      some = omega arith;
      within = omega arith;
      added = added;
    }

-- ---- entries one after another

words_push : (entries : List Entry) (entry : Entry) → words_of_entries (entries ++ entry ∷ []) ≡ words_of_entries entries ++ entry_words entry
words_push [] entry = append-nil (entry_words entry)
words_push (first ∷ rest) entry = ap (λ k. entry_words first ++ k) (words_push rest entry) ∙ sym (append_assoc (entry_words first) (words_of_entries rest) (entry_words entry))

lines_push : (entries : List Entry) (address : ℕ) (entry : Entry) →
    entry_lines address (entries ++ entry ∷ []) ≡ entry_lines address entries ++ entry_line (address + 2 * length (words_of_entries entries)) entry
lines_push [] address entry =
    let e : address ≡ address + 2 * 0 = omega arith in append-nil (entry_line address entry) ∙ ap (λ k. entry_line k entry) e
lines_push (first ∷ rest) address entry =
    let n = length-append (entry_words first) (words_of_entries rest) in
    let e : (address + 2 * length (entry_words first)) + 2 * length (words_of_entries rest) ≡ address + 2 * length (entry_words first ++ words_of_entries rest) = omega arith in
    ap (λ k. entry_line address first ++ k) (lines_push rest (address + 2 * length (entry_words first)) entry)
    ∙ sym (append_assoc (entry_line address first) (entry_lines (address + 2 * length (entry_words first)) rest) _)
    ∙ ap (λ k. (entry_line address first ++ entry_lines (address + 2 * length (entry_words first)) rest) ++ entry_line k entry) e

more_read : (code : List ℕ) (at taken : ℕ) (entry : Entry) (rest : List Entry) →
    StandsBefore (drop taken (drop at code)) entry → entry_words entry ++ drop taken (drop at code) ≡ drop at code →
    IsReading (drop (at + taken) code) rest → IsReading (drop at code) (entry ∷ rest)
more_read code at taken entry rest stands here r =
    let left : words_of_entries rest ≡ drop taken (drop at code) = r.1 ∙ sym (drop-drop taken at code) in
    ((subst (λ (k : List ℕ). StandsBefore k entry) (sym left) stands, r.0), ap (λ k. entry_words entry ++ k) left ∙ here)

pub begun_next : (code before text after : List ℕ) (at taken : ℕ) → Begun code before text at →
    IsFirstAdded (drop at code) (0x8000 + 2 * at) taken text after → Begun code before after (at + taken)
begun_next code before text after at taken b f =
    let words = words_push b.entries f.entry in
    let n = length-append (words_of_entries b.entries) (entry_words f.entry) in
    let left = length-drop at code in
    record {
      entries = b.entries ++ f.entry ∷ [];
      reads = λ rest r. subst (IsReading code) (sym (append_assoc b.entries (f.entry ∷ []) rest))
          (b.reads (f.entry ∷ rest) (more_read code at taken f.entry rest f.stands f.here r));
      place = let w = ap length words in omega arith;
      within = omega arith;
      added = f.added ∙ ap (λ k. k ++ entry_line (0x8000 + 2 * at) f.entry) b.added ∙ append_assoc before _ _
          ∙ ap (λ k. before ++ (entry_lines 0x8000 b.entries ++ entry_line (0x8000 + 2 * k) f.entry)) b.place
          ∙ ap (λ k. before ++ k) (sym (lines_push b.entries 0x8000 f.entry));
    }

pub all_added : (code before text : List ℕ) (at : ℕ) → length code ≤ at → Begun code before text at → AreAdded code before text
all_added code before text at past b = record {
  entries = b.entries ++ [];
  reading = b.reads [] (tt, sym (drop_all at code past));
  added = b.added ∙ ap (λ k. before ++ entry_lines 0x8000 k) (sym (append-nil b.entries));
}

-- ---- one reading

pub read_once : Decodes → (a b : List Entry) → AreStanding a → AreStanding b → words_of_entries a ≡ words_of_entries b → a ≡ b
read_once law [] [] p q h = refl
read_once law [] (Datum word ∷ rest) p q h = cc
read_once law [] (Instruction instr ∷ rest) p q h =
    absurd (omega (arith, ap length h, length-append (code_of instr) (words_of_entries rest), code_some instr))
read_once law (Datum word ∷ rest) [] p q h = cc
read_once law (Instruction instr ∷ rest) [] p q h =
    absurd (omega (arith, ap length h, length-append (code_of instr) (words_of_entries rest), code_some instr))
read_once law (Datum word ∷ rest) (Datum other ∷ others) p q h =
    let w : word ≡ other = cc in
    let t : words_of_entries rest ≡ words_of_entries others = cc in
    let e = read_once law rest others p.1 q.1 t in
    cc
read_once law (Datum word ∷ rest) (Instruction instr ∷ others) p q h = absurd (p.0 instr (words_of_entries others) q.0 (sym h))
read_once law (Instruction instr ∷ rest) (Datum other ∷ others) p q h = absurd (q.0 instr (words_of_entries rest) p.0 h)
read_once law (Instruction instr ∷ rest) (Instruction other ∷ others) p q h =
    let s : decode_words (code_of instr ++ words_of_entries rest) ≡ Some instr = law instr (words_of_entries rest) p.0 in
    let t : decode_words (code_of other ++ words_of_entries others) ≡ Some other = law other (words_of_entries others) q.0 in
    let d : decode_words (code_of instr ++ words_of_entries rest) ≡ decode_words (code_of other ++ words_of_entries others) = ap decode_words h in
    let same : instr ≡ other = cc in
    let left : words_of_entries rest ≡ words_of_entries others =
    append_cancel_left (code_of instr) (words_of_entries rest) (words_of_entries others)
    (h ∙ ap (λ (k : Instr). code_of k ++ words_of_entries others) (sym same)) in
    let e = read_once law rest others p.1 q.1 left in
    cc

pub read_instructions : (instrs : List Instr) → IsTrue (are_valid instrs) → IsReading (codes_of instrs) (instructions instrs)
read_instructions [] f = (tt, refl)
read_instructions (instr ∷ rest) f =
    let parts = and_parts (valid instr) (are_valid rest) f in
    let r = read_instructions rest parts.1 in
    ((parts.0, r.0), ap (λ k. code_of instr ++ k) r.1)

-- ---- words of check tables

pub data_next : (words : List ℕ) (i d address : ℕ) (text after whole : List ℕ) → i < length words →
    after ≡ text ++ data_line address (get_or words i d) → text ++ data_lines address (drop i words) ≡ whole →
    after ++ data_lines (address + 2) (drop (i + 1) words) ≡ whole
data_next words i d address text after whole lt added same =
    ap (λ k. k ++ data_lines (address + 2) (drop (i + 1) words)) added
    ∙ append_assoc text _ _
    ∙ ap (λ k. text ++ data_lines address k) (sym (drop_more words i d lt))
    ∙ same
