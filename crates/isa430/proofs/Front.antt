-- What is decoded is valid, and its words are those that were decoded.
use Rattle.std.proofs.Common.{◌≡◌, ℕ, ◌+◌, ◌*◌, ◌/◌, ◌%◌, ◌<◌, ◌≤◌, refl, ap, ◌∙◌, arith, Bool, true, false, not, ◌&&◌, [], ◌∷◌, ◌++◌, ◌⊎◌, inl, inr}
use Rattle.std.proofs.lemmas.Bool.{lt-ltb, le-ltb, cases_lt, and_parts, eqb-true}
use Rattle.std.proofs.lemmas.Bool.Decides.{nat_tests}
use Rattle.std.specs.Prelude.{nat_eq, nat_lt, if◌then◌else◌, ℤ, IsTrue}
use Rattle.isa430.specs.declared.instr.TwoOp.{TwoOp}
use Rattle.isa430.specs.declared.instr.OneOp.{OneOp}
use Rattle.isa430.specs.declared.instr.Cond.{Cond}
use Rattle.isa430.specs.declared.instr.Src.{Src}
use Rattle.isa430.specs.declared.instr.Src.TheVariants.{Reg, Indexed, Absolute, Indirect, Increment, Immediate, Constant}
use Rattle.isa430.specs.declared.instr.Dst.{Dst}
use Rattle.isa430.specs.declared.instr.Dst.TheVariants.{Reg as ToReg, Indexed as ToIndexed, Absolute as ToAbsolute}
use Rattle.isa430.specs.declared.instr.Instr.{Instr}
use Rattle.isa430.specs.declared.instr.Instr.TheVariants.{Two, One, Jump}
use Rattle.isa430.specs.Table.{two_word_listed, one_instr, jump_instr, two_number, one_number, cond_number, two_listed, one_listed, in_table, two_of, one_of, cond_of, src_of, dst_of, offset_of, src_mode, src_register, src_extension, src_size, dst_mode, dst_register, dst_extension, dst_size, offset_field, bit_of, first_word, code_of, two_instr, instr_of, src_formed, dst_formed, offset_formed, valid, WordsAt}
use Rattle.std.specs.Prelude.{take}
use Rattle.isa430.specs.Table.{two_number_listed, source_listed, destination_listed, changed_listed, size_of}

-- ---- operators, conditions and offsets

two_forth : (n : ℕ) → two_number_listed n ≡ true → two_number (two_of n) ≡ n
two_forth n h = grind (arith, nat_tests)

one_forth : (n : ℕ) → n < 6 → one_number (one_of n) ≡ n
one_forth n h = grind (arith, nat_tests)

cond_forth : (n : ℕ) → n < 8 → cond_number (cond_of n) ≡ n
cond_forth n h = grind (arith, nat_tests)

bit_forth : (n : ℕ) → n < 2 → bit_of (nat_eq n 1) ≡ n
bit_forth n h = grind (arith, nat_tests)

offset_forth : (n : ℕ) → n < 1024 → (offset_formed (offset_of n) ≡ true) × (offset_field (offset_of n) ≡ n)
offset_forth n h = grind (arith, nat_tests)

-- ---- operands

-- the source of these fields
record ReadsSource (mode r x : ℕ) (s : Src) : Type 0 where
  formed : src_formed s ≡ true
  mode_is : src_mode s ≡ mode
  register_is : src_register s ≡ r
  extension : WordsAt (λ a. x) 0 (src_extension s)

src_forth : (mode r x : ℕ) → mode < 4 → r < 16 → source_listed mode r ≡ true → ReadsSource mode r x (src_of mode r x)
src_forth mode r x m l h = grind (arith, nat_tests)

record ReadsDestination (mode r x : ℕ) (d : Dst) : Type 0 where
  formed : dst_formed d ≡ true
  mode_is : dst_mode d ≡ mode
  register_is : dst_register d ≡ r
  extension : WordsAt (λ a. x) 0 (dst_extension d)

dst_forth : (mode r x : ℕ) → mode < 2 → r < 16 → destination_listed mode r ≡ true → ReadsDestination mode r x (dst_of mode r x)
dst_forth mode r x m l h = grind (arith, nat_tests)

-- ---- the words are the first of the three

front_bare : (d : Dst) (w0 w1 w2 n : ℕ) → WordsAt (λ a. w1) 0 (dst_extension d) → 2 * n ≡ 2 + dst_size d → take n (w0 ∷ w1 ∷ w2 ∷ []) ≡ w0 ∷ dst_extension d
front_bare (ToReg r) w0 w1 w2 n h e = let k : n ≡ 1 = omega arith in rw k refl
front_bare (ToIndexed r z) w0 w1 w2 n h e = let k : n ≡ 2 = omega arith in rw k (ap (λ v. w0 ∷ v ∷ []) h.0)
front_bare (ToAbsolute z) w0 w1 w2 n h e = let k : n ≡ 2 = omega arith in rw k (ap (λ v. w0 ∷ v ∷ []) h.0)

front_extended : (d : Dst) (w0 w1 w2 x n : ℕ) → w1 ≡ x → WordsAt (λ a. w2) 0 (dst_extension d) → 2 * n ≡ 4 + dst_size d → take n (w0 ∷ w1 ∷ w2 ∷ []) ≡ w0 ∷ x ∷ dst_extension d
front_extended (ToReg r) w0 w1 w2 x n q h e = let k : n ≡ 2 = omega arith in rw k (ap (λ v. w0 ∷ v ∷ []) q)
front_extended (ToIndexed r z) w0 w1 w2 x n q h e = let k : n ≡ 3 = omega arith in rw k (ap (λ v. w0 ∷ v ∷ w2 ∷ []) q ∙ ap (λ v. w0 ∷ x ∷ v ∷ []) h.0)
front_extended (ToAbsolute z) w0 w1 w2 x n q h e = let k : n ≡ 3 = omega arith in rw k (ap (λ v. w0 ∷ v ∷ w2 ∷ []) q ∙ ap (λ v. w0 ∷ x ∷ v ∷ []) h.0)

front_two : (s : Src) (d : Dst) (w0 w1 w2 n : ℕ) → WordsAt (λ a. w1) 0 (src_extension s) → WordsAt (λ a. if nat_eq (src_size s) 0 then w1 else w2) 0 (dst_extension d) → 2 * n ≡ 2 + src_size s + dst_size d → take n (w0 ∷ w1 ∷ w2 ∷ []) ≡ w0 ∷ (src_extension s ++ dst_extension d)
front_two (Reg r) d w0 w1 w2 n hs hd e = front_bare d w0 w1 w2 n hd e
front_two (Indexed r x) d w0 w1 w2 n hs hd e = front_extended d w0 w1 w2 x n hs.0 hd e
front_two (Absolute a) d w0 w1 w2 n hs hd e = front_extended d w0 w1 w2 a n hs.0 hd e
front_two (Indirect r) d w0 w1 w2 n hs hd e = front_bare d w0 w1 w2 n hd e
front_two (Increment r) d w0 w1 w2 n hs hd e = front_bare d w0 w1 w2 n hd e
front_two (Immediate v) d w0 w1 w2 n hs hd e = front_extended d w0 w1 w2 v n hs.0 hd e
front_two (Constant g) d w0 w1 w2 n hs hd e = front_bare d w0 w1 w2 n hd e

front_one : (s : Src) (w0 w1 w2 n : ℕ) → WordsAt (λ a. w1) 0 (src_extension s) → 2 * n ≡ 2 + src_size s → take n (w0 ∷ w1 ∷ w2 ∷ []) ≡ w0 ∷ src_extension s
front_one (Reg r) w0 w1 w2 n h e = front_bare (ToReg 0) w0 w1 w2 n tt e
front_one (Indexed r x) w0 w1 w2 n h e = front_extended (ToReg 0) w0 w1 w2 x n h.0 tt e
front_one (Absolute a) w0 w1 w2 n h e = front_extended (ToReg 0) w0 w1 w2 a n h.0 tt e
front_one (Indirect r) w0 w1 w2 n h e = front_bare (ToReg 0) w0 w1 w2 n tt e
front_one (Increment r) w0 w1 w2 n h e = front_bare (ToReg 0) w0 w1 w2 n tt e
front_one (Immediate v) w0 w1 w2 n h e = front_extended (ToReg 0) w0 w1 w2 v n h.0 tt e
front_one (Constant g) w0 w1 w2 n h e = front_bare (ToReg 0) w0 w1 w2 n tt e

-- ---- each format

-- an instruction whose words are the first of these
pub record Reads (w0 w1 w2 : ℕ) (i : Instr) : Type 0 where
  pub is_valid : IsTrue (valid i)
  pub words : (n : ℕ) → 2 * n ≡ size_of i → take n (w0 ∷ w1 ∷ w2 ∷ []) ≡ code_of i

valid_two : (op : TwoOp) (byte : Bool) (s : Src) (d : Dst) (o m r a q : ℕ) → src_formed s ≡ true → dst_formed d ≡ true → two_number op ≡ o → src_mode s ≡ m → src_register s ≡ r → dst_mode d ≡ a → dst_register d ≡ q → two_listed o byte m r a q ≡ true → valid (Two op byte s d) ≡ true
valid_two op byte s d o m r a q hs hd eo em er ea eq t = simp (hs, hd, eo, em, er, ea, eq) t

valid_one : (op : OneOp) (byte : Bool) (s : Src) (o m r : ℕ) → src_formed s ≡ true → one_number op ≡ o → src_mode s ≡ m → src_register s ≡ r → one_listed o byte m r ≡ true → valid (One op byte s) ≡ true
valid_one op byte s o m r hs eo em er t = simp (hs, eo, em, er) t

two_reads : (w0 w1 w2 : ℕ) → two_word_listed w0 ≡ true → Reads w0 w1 w2 (two_instr w0 w1 w2)
two_reads w0 w1 w2 t =
    let lm : w0 / 16 % 4 < 4 = omega arith in
    let lr : w0 / 256 % 16 < 16 = omega arith in
    let la : w0 / 128 % 2 < 2 = omega arith in
    let lq : w0 % 16 < 16 = omega arith in
    let lb : w0 / 64 % 2 < 2 = omega arith in
    let p0 = and_parts _ _ t in
    let p1 = and_parts _ _ p0.1 in
    let p2 = and_parts _ _ p1.1 in
    let s = src_of (w0 / 16 % 4) (w0 / 256 % 16) w1 in
    let x = (if nat_eq (src_size s) 0 then w1 else w2) in
    let d = dst_of (w0 / 128 % 2) (w0 % 16) x in
    let hs = src_forth (w0 / 16 % 4) (w0 / 256 % 16) w1 lm lr p1.0 in
    let hd = dst_forth (w0 / 128 % 2) (w0 % 16) x la lq p2.0 in
    let ho = two_forth (w0 / 4096) p0.0 in
    let hb = bit_forth (w0 / 64 % 2) lb in
    two_reads_by w0 w1 w2 (two_of (w0 / 4096)) (nat_eq (w0 / 64 % 2) 1) s d t hs hd ho hb
  where
    two_reads_by : (w0 w1 w2 : ℕ) (op : TwoOp) (byte : Bool) (s : Src) (d : Dst) → two_listed (w0 / 4096) byte (w0 / 16 % 4) (w0 / 256 % 16) (w0 / 128 % 2) (w0 % 16) ≡ true → ReadsSource (w0 / 16 % 4) (w0 / 256 % 16) w1 s → ReadsDestination (w0 / 128 % 2) (w0 % 16) (if nat_eq (src_size s) 0 then w1 else w2) d → two_number op ≡ w0 / 4096 → bit_of byte ≡ w0 / 64 % 2 → Reads w0 w1 w2 (Two op byte s d)
    two_reads_by w0 w1 w2 op byte s d t hs hd ho hb = record {
      is_valid = valid_two op byte s d _ _ _ _ _ hs.formed hd.formed ho hs.mode_is hs.register_is hd.mode_is hd.register_is t;
      words = λ n e. let f : w0 ≡ first_word (Two op byte s d) = omega arith in front_two s d w0 w1 w2 n hs.extension hd.extension e ∙ ap (λ v. v ∷ (src_extension s ++ dst_extension d)) f;
    }

listed_below : (o : ℕ) (b c : Bool) → (if nat_lt o 4 then b else nat_lt o 6 && c) ≡ true → o < 6
listed_below o b c h = grind (arith, nat_tests)

one_reads : (w0 w1 w2 : ℕ) → w0 / 1024 ≡ 4 → one_listed (w0 / 128 % 8) (nat_eq (w0 / 64 % 2) 1) (w0 / 16 % 4) (w0 % 16) ≡ true → Reads w0 w1 w2 (one_instr w0 w1)
one_reads w0 w1 w2 format t =
    let lm : w0 / 16 % 4 < 4 = omega arith in
    let lr : w0 % 16 < 16 = omega arith in
    let lb : w0 / 64 % 2 < 2 = omega arith in
    let p0 = and_parts _ _ t in
    let p1 = and_parts _ _ p0.1 in
    let hs = src_forth (w0 / 16 % 4) (w0 % 16) w1 lm lr p0.0 in
    let ho = one_forth (w0 / 128 % 8) (listed_below (w0 / 128 % 8) (changed_listed (w0 / 16 % 4) (w0 % 16)) (not (nat_eq (w0 % 16) 1)) p1.1) in
    let hb = bit_forth (w0 / 64 % 2) lb in
    one_reads_by w0 w1 w2 (one_of (w0 / 128 % 8)) (nat_eq (w0 / 64 % 2) 1) (src_of (w0 / 16 % 4) (w0 % 16) w1) format t hs ho hb
  where
    one_reads_by : (w0 w1 w2 : ℕ) (op : OneOp) (byte : Bool) (s : Src) → w0 / 1024 ≡ 4 → one_listed (w0 / 128 % 8) byte (w0 / 16 % 4) (w0 % 16) ≡ true → ReadsSource (w0 / 16 % 4) (w0 % 16) w1 s → one_number op ≡ w0 / 128 % 8 → bit_of byte ≡ w0 / 64 % 2 → Reads w0 w1 w2 (One op byte s)
    one_reads_by w0 w1 w2 op byte s format t hs ho hb = record {
      is_valid = valid_one op byte s _ _ _ hs.formed ho hs.mode_is hs.register_is t;
      words = λ n e. let f : w0 ≡ first_word (One op byte s) = omega arith in front_one s w0 w1 w2 n hs.extension e ∙ ap (λ v. v ∷ src_extension s) f;
    }

jump_reads : (w0 w1 w2 : ℕ) → 8192 ≤ w0 → w0 < 16384 → Reads w0 w1 w2 (jump_instr w0)
jump_reads w0 w1 w2 l u =
    let hc = cond_forth (w0 / 1024 % 8) (omega arith) in
    let ho = offset_forth (w0 % 1024) (omega arith) in
    jump_reads_by w0 w1 w2 (cond_of (w0 / 1024 % 8)) (offset_of (w0 % 1024)) l u hc ho.0 ho.1
  where
    jump_reads_by : (w0 w1 w2 : ℕ) (c : Cond) (o : ℤ) → 8192 ≤ w0 → w0 < 16384 → cond_number c ≡ w0 / 1024 % 8 → offset_formed o ≡ true → offset_field o ≡ w0 % 1024 → Reads w0 w1 w2 (Jump c o)
    jump_reads_by w0 w1 w2 c o l u hc v ho = record {
      is_valid = v;
      words = λ n e. let f : w0 ≡ first_word (Jump c o) = omega arith in front_bare (ToReg 0) w0 w1 w2 n tt e ∙ ap (λ v. v ∷ []) f;
    }

-- ---- every first word of the table

pub reads : (w0 w1 w2 : ℕ) → in_table w0 ≡ true → Reads w0 w1 w2 (instr_of w0 w1 w2)
reads w0 w1 w2 t = at_low (cases_lt w0 8192)
  where
    at_low : ((w0 < 8192) ⊎ (8192 ≤ w0)) → Reads w0 w1 w2 (instr_of w0 w1 w2)
    at_low (inl l) =
        let e : nat_lt w0 8192 ≡ true = lt-ltb w0 8192 l in
        let p = and_parts (nat_eq (w0 / 1024) 4) _ (simp e at t) in
        simp e (one_reads w0 w1 w2 (eqb-true (w0 / 1024) 4 p.0) p.1)
    at_low (inr l) = at_jump (cases_lt w0 16384)
      where
        at_jump : ((w0 < 16384) ⊎ (16384 ≤ w0)) → Reads w0 w1 w2 (instr_of w0 w1 w2)
        at_jump (inl u) =
            let e : nat_lt w0 8192 ≡ false = le-ltb w0 8192 l in
            let f : nat_lt w0 16384 ≡ true = lt-ltb w0 16384 u in
            simp (e, f) (jump_reads w0 w1 w2 l u)
        at_jump (inr u) =
            let e : nat_lt w0 8192 ≡ false = le-ltb w0 8192 l in
            let f : nat_lt w0 16384 ≡ false = le-ltb w0 16384 u in
            simp (e, f) (two_reads w0 w1 w2 (simp (e, f) at t))
