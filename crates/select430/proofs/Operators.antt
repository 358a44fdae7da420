-- What holds of the parts of each step: they are no longer than the step's row, something is skipped once at most, a helper
-- routine is called where the row says so, and the instructions are valid.
use Rattle.std.proofs.Common.{inl, inr, ◌≡◌, ℕ, ◌+◌, ◌*◌, ◌≤◌, refl, sym, ap, ◌∙◌, subst, arith, Bool, true, false, List, [], ◌∷◌, ◌++◌, if◌then◌else◌}
use Rattle.std.specs.Prelude.{nat_eq, ◌||◌, ◌&&◌, ◌⊎◌, not, ℤ, pos, negsuc, IsTrue}
use Rattle.std.proofs.lemmas.Bool.{and_from}
use Rattle.base16.specs.declared.image.Kind.{Kind}
use Rattle.base16.specs.declared.image.Kind.TheVariants as kind
use Rattle.base16.specs.declared.integer.IntType.{IntType}
use Rattle.base16.specs.declared.integer.IntType.TheVariants as int
use Rattle.base16.specs.declared.operator.BinaryOp.{BinaryOp}
use Rattle.base16.specs.declared.operator.BinaryOp.TheVariants as op
use Rattle.base16.specs.Integer.{wrapped}
use Rattle.isa430.specs.declared.instr.TwoOp.{TwoOp}
use Rattle.isa430.specs.declared.instr.TwoOp.TheVariants.{Mov, Add, Addc, Subc, Sub, Cmp, Bit, Bic, Bis, Xor, And}
use Rattle.isa430.specs.declared.instr.Cond.{Cond}
use Rattle.rt430.specs.declared.words.Helper.{Helper}
use Rattle.rt430.specs.declared.words.Helper.TheVariants.{Mul16, Udiv16, Umod16, Sdiv16, Smod16, Shl, Shr, Sar}
use Rattle.isa430.specs.declared.instr.Src.TheVariants.{Reg, Immediate, Constant}
use Rattle.isa430.specs.declared.instr.Gen.TheVariants.{Zero, One as ConstantOne, Two as ConstantTwo, Four, Eight, MinusOne}
use Rattle.isa430.specs.declared.instr.Gen.{Gen}
use Rattle.isa430.specs.declared.instr.Dst.TheVariants.{Reg as ToReg}
use Rattle.isa430.specs.declared.instr.Instr.TheVariants.{Two}
use Rattle.isa430.specs.Table.{valid, two_number, two_number_listed}
use Rattle.ir.specs.declared.form.Operation.{Operation}
use Rattle.ir.specs.declared.form.Operation.TheVariants as operation
use Rattle.ir.specs.Table.{is_generated, is_comparison, is_short, operator_bytes, operation_bytes, narrow, flag_bytes, is_helped, operation_helped}
use Rattle.select430.specs.Frames.{word}
use Rattle.select430.specs.declared.part.Part.{Part}
use Rattle.select430.specs.declared.part.Part.TheVariants.{Do, Helps}
use Rattle.select430.specs.Parts.{part_words, parts_words, skips, helps}
use Rattle.select430.specs.Code.{two, with_number, set, service, narrowed, negated, truth_where, against_zero, flags, holds_where, is_signed, compare, operate, factor, scaled, moved, counted, left_register, right_register, perform, test_flags, go_where_zero}
use Rattle.select430.proofs.Words.{parts_words_append, skips_append, helps_append, is_right, are_right, right_append}

-- ---- at most so many bytes, so many skips, just so many calls of a helper routine, and valid instructions

pub record Fit (xs : List Part) (m s h : ℕ) : Type 0 where
  pub bytes : 2 * parts_words xs ≤ m
  pub skip : skips xs ≤ s
  pub help : helps xs ≡ h
  pub right : IsTrue (are_right xs)

pub nothing : (m s : ℕ) → Fit [] m s 0
nothing m s = record { bytes = omega arith; skip = omega arith; help = refl; right = refl }

pub both : (xs ys : List Part) (m n s t h k : ℕ) → Fit xs m s h → Fit ys n t k → Fit (xs ++ ys) (m + n) (s + t) (h + k)
both xs ys m n s t h k a b =
    let w = parts_words_append xs ys in
    let v = skips_append xs ys in
    let u = helps_append xs ys in
    let a1 = a.bytes in let a2 = a.skip in let a3 = a.help in
    let b1 = b.bytes in let b2 = b.skip in let b3 = b.help in
    record { bytes = omega arith; skip = omega arith; help = omega arith; right = right_append xs ys a.right b.right }

-- with numbers that are as great, and the same number of calls
pub wider : (xs : List Part) (m n s t h k : ℕ) → Fit xs m s h → m ≤ n → s ≤ t → h ≡ k → Fit xs n t k
wider xs m n s t h k a p q r =
    let a1 = a.bytes in let a2 = a.skip in
    record { bytes = omega arith; skip = omega arith; help = a.help ∙ r; right = a.right }

pub leaf : (x : Part) (m : ℕ) → 2 * part_words x ≤ m → skips (x ∷ []) ≡ 0 → helps (x ∷ []) ≡ 0 → IsTrue (is_right x) → Fit (x ∷ []) m 0 0
leaf x m p s h r = record { bytes = omega arith; skip = omega arith; help = h; right = and_from (is_right x) true r refl }

pub helper : (which : Helper) → Fit (Helps which ∷ []) 4 0 1
helper which = record { bytes = omega arith; skip = omega arith; help = refl; right = refl }

-- ---- the registers that steps use

abbrev pub Free : ℕ → Type 0
Free n = (n ≡ 9) ⊎ ((n ≡ 12) ⊎ ((n ≡ 13) ⊎ ((n ≡ 14) ⊎ (n ≡ 15))))

pub is9 : Free 9
is9 = inl refl

pub is12 : Free 12
is12 = inr (inl refl)

pub is13 : Free 13
is13 = inr (inr (inl refl))

pub is14 : Free 14
is14 = inr (inr (inr (inl refl)))

pub is15 : Free 15
is15 = inr (inr (inr (inr refl)))

pub each : (P : ℕ → Type 0) (n : ℕ) → Free n → P 9 → P 12 → P 13 → P 14 → P 15 → P n
each P n (inl e) a b c d f = subst P (sym e) a
each P n (inr (inl e)) a b c d f = subst P (sym e) b
each P n (inr (inr (inl e))) a b c d f = subst P (sym e) c
each P n (inr (inr (inr (inl e)))) a b c d f = subst P (sym e) d
each P n (inr (inr (inr (inr e)))) a b c d f = subst P (sym e) f

pub left_free : (o : Operation) → Free (left_register o)
left_free (operation.Integers o t own) = is12
left_free (operation.PointerPlus minus n left right true) = is12
left_free (operation.PointerPlus minus n left right false) = is15
left_free (operation.Difference n) = is12
left_free (operation.ComparePointers o) = is12

pub right_free : (o : Operation) → Free (right_register o)
right_free (operation.Integers o t own) = is13
right_free (operation.PointerPlus minus n left right true) = is15
right_free (operation.PointerPlus minus n left right false) = is12
right_free (operation.Difference n) = is13
right_free (operation.ComparePointers o) = is13

-- ---- numbers

pub listed : (o : TwoOp) → IsTrue (two_number_listed (two_number o) && true)
listed Mov = refl
listed Add = refl
listed Addc = refl
listed Subc = refl
listed Sub = refl
listed Cmp = refl
listed Bit = refl
listed Bic = refl
listed Bis = refl
listed Xor = refl
listed And = refl

pub generated_valid : (o : TwoOp) (c : Gen) (n : ℕ) → Free n → IsTrue (valid (Two o false (Constant c) (ToReg n)))
generated_valid o Zero n f = each (λ r. IsTrue (valid (Two o false (Constant Zero) (ToReg r)))) n f (listed o) (listed o) (listed o) (listed o) (listed o)
generated_valid o ConstantOne n f = each (λ r. IsTrue (valid (Two o false (Constant ConstantOne) (ToReg r)))) n f (listed o) (listed o) (listed o) (listed o) (listed o)
generated_valid o ConstantTwo n f = each (λ r. IsTrue (valid (Two o false (Constant ConstantTwo) (ToReg r)))) n f (listed o) (listed o) (listed o) (listed o) (listed o)
generated_valid o Four n f = each (λ r. IsTrue (valid (Two o false (Constant Four) (ToReg r)))) n f (listed o) (listed o) (listed o) (listed o) (listed o)
generated_valid o Eight n f = each (λ r. IsTrue (valid (Two o false (Constant Eight) (ToReg r)))) n f (listed o) (listed o) (listed o) (listed o) (listed o)
generated_valid o MinusOne n f = each (λ r. IsTrue (valid (Two o false (Constant MinusOne) (ToReg r)))) n f (listed o) (listed o) (listed o) (listed o) (listed o)

pub immediate_valid : (o : TwoOp) (w n : ℕ) → Free n → IsTrue (valid (Two o false (Immediate w) (ToReg n)))
immediate_valid o w n f = each (λ r. IsTrue (valid (Two o false (Immediate w) (ToReg r)))) n f (listed o) (listed o) (listed o) (listed o) (listed o)

-- a source is generated by the core, or an immediate word
pub number_from : (o : TwoOp) (n w : ℕ) → Free n → (b0 b1 b2 b4 b8 : Bool) → Fit (Do (Two o false (if b0 then Constant Zero else (if b1 then Constant ConstantOne else (if b2 then Constant ConstantTwo else (if b4 then Constant Four else (if b8 then Constant Eight else Immediate w))))) (ToReg n)) ∷ []) (if b0 || b1 || b2 || b4 || b8 then 2 else 4) 0 0
number_from o n w f true b1 b2 b4 b8 = leaf _ 2 (omega arith) refl refl (generated_valid o Zero n f)
number_from o n w f false true b2 b4 b8 = leaf _ 2 (omega arith) refl refl (generated_valid o ConstantOne n f)
number_from o n w f false false true b4 b8 = leaf _ 2 (omega arith) refl refl (generated_valid o ConstantTwo n f)
number_from o n w f false false false true b8 = leaf _ 2 (omega arith) refl refl (generated_valid o Four n f)
number_from o n w f false false false false true = leaf _ 2 (omega arith) refl refl (generated_valid o Eight n f)
number_from o n w f false false false false false = leaf _ 4 (omega arith) refl refl (immediate_valid o w n f)

pub minus_from : (o : TwoOp) (n w : ℕ) → Free n → (b : Bool) → Fit (Do (Two o false (if b then Constant MinusOne else Immediate w) (ToReg n)) ∷ []) (if b then 2 else 4) 0 0
minus_from o n w f true = leaf _ 2 (omega arith) refl refl (generated_valid o MinusOne n f)
minus_from o n w f false = leaf _ 4 (omega arith) refl refl (immediate_valid o w n f)

pub number_exact : (o : TwoOp) (z : ℤ) (n : ℕ) → Free n → Fit (with_number o z n ∷ []) (if is_generated z then 2 else 4) 0 0
number_exact o (pos k) n f = number_from o n (wrapped (pos k)) f (nat_eq k 0) (nat_eq k 1) (nat_eq k 2) (nat_eq k 4) (nat_eq k 8)
number_exact o (negsuc k) n f = minus_from o n (wrapped (negsuc k)) f (nat_eq k 0)

pub number_fits : (o : TwoOp) (z : ℤ) (n : ℕ) → Free n → Fit (with_number o z n ∷ []) 4 0 0
number_fits o z n f = from (is_generated z) (number_exact o z n f)
  where
    from : (b : Bool) → Fit (with_number o z n ∷ []) (if b then 2 else 4) 0 0 → Fit (with_number o z n ∷ []) 4 0 0
    from true h = wider _ 2 4 0 0 0 0 h (omega arith) (omega arith) refl
    from false h = h

-- ---- operators

pub flags_fit : (o : BinaryOp) → Fit (flags o ∷ []) 2 0 0
flags_fit op.Add = leaf _ 2 (omega arith) refl refl refl
flags_fit op.Sub = leaf _ 2 (omega arith) refl refl refl
flags_fit op.Mul = leaf _ 2 (omega arith) refl refl refl
flags_fit op.Div = leaf _ 2 (omega arith) refl refl refl
flags_fit op.Rem = leaf _ 2 (omega arith) refl refl refl
flags_fit op.Shl = leaf _ 2 (omega arith) refl refl refl
flags_fit op.Shr = leaf _ 2 (omega arith) refl refl refl
flags_fit op.Less = leaf _ 2 (omega arith) refl refl refl
flags_fit op.Greater = leaf _ 2 (omega arith) refl refl refl
flags_fit op.LessEq = leaf _ 2 (omega arith) refl refl refl
flags_fit op.GreaterEq = leaf _ 2 (omega arith) refl refl refl
flags_fit op.Equal = leaf _ 2 (omega arith) refl refl refl
flags_fit op.NotEqual = leaf _ 2 (omega arith) refl refl refl
flags_fit op.And = leaf _ 2 (omega arith) refl refl refl
flags_fit op.Xor = leaf _ 2 (omega arith) refl refl refl
flags_fit op.Or = leaf _ 2 (omega arith) refl refl refl

pub truth_fits : (c : Cond) → Fit (truth_where c) 6 1 0
truth_fits c = record { bytes = omega arith; skip = omega arith; help = refl; right = refl }

pub compare_fits : (o : BinaryOp) (sign : Bool) → Fit (compare o sign) 8 1 0
compare_fits o sign = both (flags o ∷ []) (truth_where (holds_where o sign)) 2 6 0 1 0 0 (flags_fit o) (truth_fits (holds_where o sign))

-- how often something is skipped by an operator
abbrev pub operator_skips : BinaryOp → ℕ
operator_skips o = if is_comparison o then 1 else 0

abbrev pub once : Bool → ℕ
once b = if b then 1 else 0

pub operate_fits : (o : BinaryOp) (t : IntType) → Fit (operate o t) (operator_bytes o) (operator_skips o) (once (is_helped o))
operate_fits op.Add t = leaf _ 2 (omega arith) refl refl refl
operate_fits op.Sub t = leaf _ 2 (omega arith) refl refl refl
operate_fits op.Mul t = helper Mul16
operate_fits op.Div int.Char = helper Udiv16
operate_fits op.Div int.Int = helper Sdiv16
operate_fits op.Div int.UInt = helper Udiv16
operate_fits op.Rem int.Char = helper Umod16
operate_fits op.Rem int.Int = helper Smod16
operate_fits op.Rem int.UInt = helper Umod16
operate_fits op.Shl t = helper Shl
operate_fits op.Shr int.Char = helper Shr
operate_fits op.Shr int.Int = helper Sar
operate_fits op.Shr int.UInt = helper Shr
operate_fits op.Less t = compare_fits op.Less (is_signed t)
operate_fits op.Greater t = compare_fits op.Greater (is_signed t)
operate_fits op.LessEq t = compare_fits op.LessEq (is_signed t)
operate_fits op.GreaterEq t = compare_fits op.GreaterEq (is_signed t)
operate_fits op.Equal t = compare_fits op.Equal (is_signed t)
operate_fits op.NotEqual t = compare_fits op.NotEqual (is_signed t)
operate_fits op.And t = leaf _ 2 (omega arith) refl refl refl
operate_fits op.Xor t = leaf _ 2 (omega arith) refl refl refl
operate_fits op.Or t = leaf _ 2 (omega arith) refl refl refl

pub negated_fits : Fit negated 4 0 0
negated_fits = record { bytes = omega arith; skip = omega arith; help = refl; right = refl }

pub scaled_fits : (minus : Bool) (n : ℕ) → Fit (scaled minus n) 8 0 (once (not (is_short n)))
scaled_fits minus n = from (is_short n) (nat_eq n 2) minus
  where
    slow : Fit (set (pos (wrapped (factor minus n))) 13 ∷ Helps Mul16 ∷ []) 8 0 1
    slow = both (set (pos (wrapped (factor minus n))) 13 ∷ []) (Helps Mul16 ∷ []) 4 4 0 0 0 1 (number_fits Mov (pos (wrapped (factor minus n))) 13 is13) (helper Mul16)

    from : (short twice sign : Bool) → Fit (if short then (if twice then two Add 12 12 ∷ [] else []) ++ (if sign then negated else []) else set (pos (wrapped (factor minus n))) 13 ∷ Helps Mul16 ∷ []) 8 0 (once (not short))
    from true true true = record { bytes = omega arith; skip = omega arith; help = refl; right = refl }
    from true true false = record { bytes = omega arith; skip = omega arith; help = refl; right = refl }
    from true false true = record { bytes = omega arith; skip = omega arith; help = refl; right = refl }
    from true false false = nothing 8 0
    from false twice sign = slow

pub more_none : (n : ℕ) → n + 0 ≡ n
more_none n = omega arith

pub none_more : (n : ℕ) → 0 + n ≡ n
none_more n = omega arith

pub moved_fits : (minus : Bool) (n : ℕ) → Fit (moved minus n) 10 0 (once (not (is_short n)))
moved_fits minus n = wider _ 10 10 0 0 _ _ (both (scaled minus n) (two Add 15 12 ∷ []) 8 2 0 0 (once (not (is_short n))) 0 (scaled_fits minus n) (leaf _ 2 (omega arith) refl refl refl)) (omega arith) (omega arith) (more_none (once (not (is_short n))))

pub counted_fits : (n : ℕ) → Fit (counted n) 8 0 (once (not (nat_eq n 1)))
counted_fits n = from (nat_eq n 1)
  where
    slow : Fit (set (pos (word n)) 13 ∷ Helps Sdiv16 ∷ []) 8 0 1
    slow = both (set (pos (word n)) 13 ∷ []) (Helps Sdiv16 ∷ []) 4 4 0 0 0 1 (number_fits Mov (pos (word n)) 13 is13) (helper Sdiv16)

    from : (b : Bool) → Fit (if b then [] else set (pos (word n)) 13 ∷ Helps Sdiv16 ∷ []) 8 0 (once (not b))
    from true = nothing 8 0
    from false = slow

pub operator_skips_few : (o : BinaryOp) → operator_skips o ≤ 1
operator_skips_few o = from (is_comparison o)
  where
    from : (b : Bool) → (if b then 1 else 0) ≤ 1
    from true = omega arith
    from false = omega arith

pub perform_fits : (o : Operation) → Fit (perform o) (operation_bytes o) 1 (once (operation_helped o))
perform_fits (operation.Integers o t own) = wider _ (operator_bytes o) (operator_bytes o) (operator_skips o) 1 _ _ (operate_fits o t) (omega arith) (operator_skips_few o) refl
perform_fits (operation.PointerPlus minus n left right swapped) = wider _ 10 10 0 1 _ _ (moved_fits minus n) (omega arith) (omega arith) refl
perform_fits (operation.Difference n) = wider _ 10 10 0 1 _ _ (both (two Sub 13 12 ∷ []) (counted n) 2 8 0 0 0 (once (not (nat_eq n 1))) (leaf _ 2 (omega arith) refl refl refl) (counted_fits n)) (omega arith) (omega arith) (none_more (once (not (nat_eq n 1))))
perform_fits (operation.ComparePointers o) = compare_fits o false

pub zero_fits : Fit (against_zero ∷ []) 2 0 0
zero_fits = leaf _ 2 (omega arith) refl refl refl

pub tested_fits : (xs : List Part) (m s h : ℕ) → Fit xs m s h → Fit (xs ++ against_zero ∷ []) (m + 2) s h
tested_fits xs m s h k = wider _ (m + 2) (m + 2) (s + 0) s (h + 0) h (both xs (against_zero ∷ []) m 2 s 0 h 0 k zero_fits) (omega arith) (omega arith) (more_none h)

-- a comparison calls no routine, and what is no comparison skips nothing
pub compared_alone : (o : BinaryOp) → is_comparison o ≡ true → is_helped o ≡ false
compared_alone op.Add e = cc
compared_alone op.Sub e = cc
compared_alone op.Mul e = cc
compared_alone op.Div e = cc
compared_alone op.Rem e = cc
compared_alone op.Shl e = cc
compared_alone op.Shr e = cc
compared_alone op.Less e = refl
compared_alone op.Greater e = refl
compared_alone op.LessEq e = refl
compared_alone op.GreaterEq e = refl
compared_alone op.Equal e = refl
compared_alone op.NotEqual e = refl
compared_alone op.And e = cc
compared_alone op.Xor e = cc
compared_alone op.Or e = cc

pub test_flags_fit : (o : Operation) → Fit (test_flags o) (flag_bytes o) 0 (once (operation_helped o))
test_flags_fit (operation.Integers o t own) = from (is_comparison o) refl (operate_fits o t)
  where
    from : (b : Bool) → is_comparison o ≡ b → Fit (operate o t) (operator_bytes o) (if b then 1 else 0) (once (is_helped o)) → Fit (if b then flags o ∷ [] else operate o t ++ against_zero ∷ []) (if b then 2 else operator_bytes o + 2) 0 (once (is_helped o))
    from true e h = wider _ 2 2 0 0 0 _ (flags_fit o) (omega arith) (omega arith) (ap once (sym (compared_alone o e)))
    from false e h = tested_fits (operate o t) (operator_bytes o) 0 (once (is_helped o)) h
test_flags_fit (operation.PointerPlus minus n left right swapped) = tested_fits (moved minus n) 10 0 (once (not (is_short n))) (moved_fits minus n)
test_flags_fit (operation.Difference n) =
    wider _ _ _ 0 0 _ _ (tested_fits (two Sub 13 12 ∷ counted n) 10 0 (0 + once (not (nat_eq n 1))) (both (two Sub 13 12 ∷ []) (counted n) 2 8 0 0 0 (once (not (nat_eq n 1))) (leaf _ 2 (omega arith) refl refl refl) (counted_fits n))) (omega arith) (omega arith) (none_more (once (not (nat_eq n 1))))
test_flags_fit (operation.ComparePointers o) = flags_fit o

pub narrowed_fits : (k : Kind) (n : ℕ) → Free n → Fit (narrowed k n) (narrow k) 0 0
narrowed_fits kind.Char n f = leaf _ 2 (omega arith) refl refl (each (λ r. IsTrue (valid (Two Mov true (Reg r) (ToReg r)))) n f refl refl refl refl refl)
narrowed_fits kind.Int n f = nothing 0 0
narrowed_fits kind.UInt n f = nothing 0 0
narrowed_fits kind.Pointer n f = nothing 0 0

pub go_fits : (to : ℕ) → Fit (go_where_zero to) 8 1 0
go_fits to = record { bytes = omega arith; skip = omega arith; help = refl; right = refl }

pub service_fits : (n : ℕ) → Fit (service n ∷ []) 4 0 0
service_fits n = leaf _ 4 (omega arith) refl refl refl
