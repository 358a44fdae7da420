-- What decoding answers, format by format, and what follows from an answer.
use Rattle.std.proofs.Common.{◌≡◌, ℕ, ◌+◌, ◌*◌, ◌/◌, ◌<◌, ◌≤◌, refl, sym, ap, ◌∙◌, subst, arith, Bool, true, false, Option, Some, None, List, [], ◌∷◌, ◌++◌}
use Rattle.std.proofs.lemmas.Bool.{lt-ltb, le-ltb}
use Rattle.std.specs.Prelude.{nat_lt, if◌then◌else◌, IsTrue}
use Rattle.isa430.specs.declared.instr.Src.{Src}
use Rattle.isa430.specs.declared.instr.Src.TheVariants.{Reg, Indexed, Absolute, Indirect, Increment, Immediate, Constant}
use Rattle.isa430.specs.declared.instr.Dst.{Dst}
use Rattle.isa430.specs.declared.instr.Dst.TheVariants.{Reg as ToReg, Indexed as ToIndexed, Absolute as ToAbsolute}
use Rattle.isa430.specs.declared.instr.Instr.{Instr}
use Rattle.isa430.specs.declared.instr.Instr.TheVariants.{Two, One, Jump}
use Rattle.isa430.specs.Table.{two_word_listed, one_word_listed, one_instr, jump_instr, in_table, src_extension, src_size, dst_extension, dst_size, code_of, two_instr, instr_of, decode_of, valid}
use Rattle.std.proofs.Common.{length-append}
use Rattle.std.specs.Prelude.{length, take, slice_index, MatchOption, IfSome, IsSome, ◌↔◌}
use Rattle.isa430.specs.Table.{size_of, decode_words, WordsAt}
use Rattle.isa430.specs.Laws.{BeginWith}
use Rattle.isa430.proofs.InMemory.{decodes}
use Rattle.isa430.proofs.InMemory.{decode_from}
use Rattle.isa430.proofs.Front.{Reads, reads}

-- ---- format by format

decode_none : (w0 w1 w2 : ℕ) → in_table w0 ≡ false → decode_of w0 w1 w2 ≡ None
unfolding decode_of
decode_none w0 w1 w2 t = simp t

pub one_is : (w0 w1 w2 : ℕ) (i : Instr) → w0 < 8192 → one_word_listed w0 ≡ true → i ≡ one_instr w0 w1 → decode_of w0 w1 w2 ≡ Some i
one_is w0 w1 w2 i l t e =
    let h : nat_lt w0 8192 ≡ true = lt-ltb w0 8192 l in
    decode_from w0 w1 w2 i (simp h t) (simp h (sym e))

pub one_none : (w0 w1 w2 : ℕ) → w0 < 8192 → one_word_listed w0 ≡ false → decode_of w0 w1 w2 ≡ None
one_none w0 w1 w2 l t =
    let h : nat_lt w0 8192 ≡ true = lt-ltb w0 8192 l in
    decode_none w0 w1 w2 (simp h t)

pub jump_is : (w0 w1 w2 : ℕ) (i : Instr) → 8192 ≤ w0 → w0 < 16384 → i ≡ jump_instr w0 → decode_of w0 w1 w2 ≡ Some i
jump_is w0 w1 w2 i l u e =
    let h : nat_lt w0 8192 ≡ false = le-ltb w0 8192 l in
    let k : nat_lt w0 16384 ≡ true = lt-ltb w0 16384 u in
    decode_from w0 w1 w2 i (simp (h, k)) (simp (h, k) (sym e))

pub two_is : (w0 w1 w2 : ℕ) (i : Instr) → 16384 ≤ w0 → two_word_listed w0 ≡ true → i ≡ two_instr w0 w1 w2 → decode_of w0 w1 w2 ≡ Some i
two_is w0 w1 w2 i l t e =
    let h : nat_lt w0 8192 ≡ false = le-ltb w0 8192 (omega arith) in
    let k : nat_lt w0 16384 ≡ false = le-ltb w0 16384 l in
    decode_from w0 w1 w2 i (simp (h, k) t) (simp (h, k) (sym e))

pub two_none : (w0 w1 w2 : ℕ) → 16384 ≤ w0 → two_word_listed w0 ≡ false → decode_of w0 w1 w2 ≡ None
two_none w0 w1 w2 l t =
    let h : nat_lt w0 8192 ≡ false = le-ltb w0 8192 (omega arith) in
    let k : nat_lt w0 16384 ≡ false = le-ltb w0 16384 l in
    decode_none w0 w1 w2 (simp (h, k) t)

-- ---- what follows from an answer

some_if : (b : Bool) (x i : Instr) → (if b then Some x else None) ≡ Some i → (b ≡ true) × (x ≡ i)
some_if true x i e = (refl, cc)
some_if false x i e = absurd (none_some i e)
  where
    none_some : (i : Instr) → None ≡ Some i → ⊥
    none_some i e = cc

pub decoded_table : (w0 w1 w2 : ℕ) (i : Instr) → decode_of w0 w1 w2 ≡ Some i → in_table w0 ≡ true
unfolding decode_of
decoded_table w0 w1 w2 i e = (some_if (in_table w0) (instr_of w0 w1 w2) i e).0

pub decoded : (w0 w1 w2 : ℕ) (i : Instr) → decode_of w0 w1 w2 ≡ Some i → Reads w0 w1 w2 i
unfolding decode_of
decoded w0 w1 w2 i e =
    let p = some_if (in_table w0) (instr_of w0 w1 w2) i e in
    subst (λ j. Reads w0 w1 w2 j) p.1 (reads w0 w1 w2 p.0)

src_words : (s : Src) → 2 * length (src_extension s) ≡ src_size s
src_words (Reg r) = refl
src_words (Indexed r x) = refl
src_words (Absolute a) = refl
src_words (Indirect r) = refl
src_words (Increment r) = refl
src_words (Immediate v) = refl
src_words (Constant g) = refl

dst_words : (d : Dst) → 2 * length (dst_extension d) ≡ dst_size d
dst_words (ToReg r) = refl
dst_words (ToIndexed r x) = refl
dst_words (ToAbsolute a) = refl

-- an instruction takes two bytes a word
pub code_size : (i : Instr) → 2 * length (code_of i) ≡ size_of i
code_size (Two op byte s d) = omega (arith, length-append (src_extension s) (dst_extension d), src_words s, dst_words d)
code_size (One op byte s) = omega (arith, src_words s)
code_size (Jump c o) = refl

pub decoded_words : (w0 w1 w2 : ℕ) (i : Instr) → decode_of w0 w1 w2 ≡ Some i → BeginWith w0 w1 w2 i
decoded_words w0 w1 w2 i e = (decoded w0 w1 w2 i e).words (length (code_of i)) (code_size i)

-- the words of an instruction, wherever it was decoded
first_words : (m : ℕ → ℕ) (a : ℕ) (ws : List ℕ) → take (length ws) (m a ∷ m (a + 2) ∷ m (a + 2 + 2) ∷ []) ≡ ws → WordsAt m a ws
first_words m a [] e = tt
first_words m a (x ∷ []) e = (cc, tt)
first_words m a (x ∷ y ∷ []) e = (cc, (cc, tt))
first_words m a (x ∷ y ∷ z ∷ []) e = (cc, (cc, (cc, tt)))
first_words m a (x ∷ y ∷ z ∷ v ∷ ws) e = absurd (too_long (m a) (m (a + 2)) (m (a + 2 + 2)) x y z v ws e)
  where
    too_long : (w0 w1 w2 x y z v : ℕ) (ws : List ℕ) → take (length (x ∷ y ∷ z ∷ v ∷ ws)) (w0 ∷ w1 ∷ w2 ∷ []) ≡ x ∷ y ∷ z ∷ v ∷ ws → ⊥
    too_long w0 w1 w2 x y z v ws e = cc

pub stands : (m : ℕ → ℕ) (a : ℕ) (i : Instr) → decode_of (m a) (m (a + 2)) (m (a + 2 + 2)) ≡ Some i → WordsAt m a (code_of i)
stands m a i e = first_words m a (code_of i) (decoded_words (m a) (m (a + 2)) (m (a + 2 + 2)) i e)

-- ---- the words of an instruction in a list

src_size_small : (s : Src) → src_size s ≤ 2
src_size_small (Reg r) = omega arith
src_size_small (Indexed r x) = omega arith
src_size_small (Absolute a) = omega arith
src_size_small (Indirect r) = omega arith
src_size_small (Increment r) = omega arith
src_size_small (Immediate v) = omega arith
src_size_small (Constant g) = omega arith

dst_size_small : (d : Dst) → dst_size d ≤ 2
dst_size_small (ToReg r) = omega arith
dst_size_small (ToIndexed r x) = omega arith
dst_size_small (ToAbsolute a) = omega arith

size_small : (i : Instr) → size_of i ≤ 6
size_small (Two op byte s d) = omega (arith, src_size_small s, dst_size_small d)
size_small (One op byte s) = omega (arith, src_size_small s)
size_small (Jump c o) = omega arith

in_list : (ws rest : List ℕ) → length ws ≤ 3 → WordsAt (λ a. slice_index (ws ++ rest) (a / 2)) 0 ws
in_list [] rest l = tt
in_list (x ∷ []) rest l = (refl, tt)
in_list (x ∷ y ∷ []) rest l = (refl, (refl, tt))
in_list (x ∷ y ∷ z ∷ []) rest l = (refl, (refl, (refl, tt)))
in_list (x ∷ y ∷ z ∷ v ∷ ws) rest l = absurd (omega arith)

pub decodes_list : (i : Instr) (rest : List ℕ) → IsTrue (valid i) → decode_words (code_of i ++ rest) ≡ Some i
decodes_list i rest v = decodes i (λ a. slice_index (code_of i ++ rest) (a / 2)) 0 v (in_list (code_of i) rest (omega (arith, size_small i, code_size i)))

-- ---- the clauses of the call, of an answer r that holds an instruction f d

pub some_in_table : {A : Type 0} (f : A → Instr) (w0 w1 w2 : ℕ) (r : Option A) → MatchOption r (decode_of w0 w1 w2 ≡ None) (λ d. decode_of w0 w1 w2 ≡ Some (f d)) → IsSome r ↔ IsTrue (in_table w0)
unfolding decode_of
some_in_table f w0 w1 w2 (Some d) h = (λ s. decoded_table w0 w1 w2 (f d) h, λ t. refl)
some_in_table f w0 w1 w2 None h = (λ s. absurd (not_some s), λ t. absurd (in_table_none (in_table w0) (instr_of w0 w1 w2) t h))
  where
    not_some : false ≡ true → ⊥
    not_some s = cc

    in_table_none : (b : Bool) (i : Instr) → b ≡ true → (if b then Some i else None) ≡ None → ⊥
    in_table_none b i t h = grind arith

pub some_valid : {A : Type 0} (f : A → Instr) (w0 w1 w2 : ℕ) (r : Option A) → MatchOption r (decode_of w0 w1 w2 ≡ None) (λ d. decode_of w0 w1 w2 ≡ Some (f d)) → IfSome r (λ d. IsTrue (valid (f d)))
some_valid f w0 w1 w2 (Some d) h = (decoded w0 w1 w2 (f d) h).is_valid
some_valid f w0 w1 w2 None h = tt

three_words : (ws : List ℕ) → length ws ≡ 3 → ws ≡ slice_index ws 0 ∷ slice_index ws 1 ∷ slice_index ws 2 ∷ []
three_words (w0 ∷ w1 ∷ w2 ∷ []) e = refl
three_words [] e = absurd (omega arith)
three_words (w0 ∷ []) e = absurd (omega arith)
three_words (w0 ∷ w1 ∷ []) e = absurd (omega arith)
three_words (w0 ∷ w1 ∷ w2 ∷ w3 ∷ ws) e = absurd (omega arith)

pub some_words : {A : Type 0} (f : A → Instr) (n : A → ℕ) (ws : List ℕ) (r : Option A) → length ws ≡ 3 → MatchOption r (decode_of (slice_index ws 0) (slice_index ws 1) (slice_index ws 2) ≡ None) (λ d. decode_of (slice_index ws 0) (slice_index ws 1) (slice_index ws 2) ≡ Some (f d)) → IfSome r (λ d. 2 * n d ≡ size_of (f d)) → IfSome r (λ d. take (n d) ws ≡ code_of (f d))
some_words f n ws (Some d) l h e = ap (take (n d)) (three_words ws l) ∙ (decoded _ _ _ (f d) h).words (n d) e
some_words f n ws None l h e = tt
