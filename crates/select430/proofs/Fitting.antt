-- What holds of the parts of each step.
use Rattle.std.proofs.Common.{ℕ, zero, suc, ◌+◌, ◌*◌, ◌≤◌, refl, arith, Bool, true, false, List, [], ◌∷◌, ◌++◌, length, if◌then◌else◌, take}
use Rattle.std.specs.Prelude.{slice_get, not, ℤ, pos, IsTrue}
use Rattle.base16.specs.declared.image.Kind.{Kind}
use Rattle.base16.specs.declared.image.Kind.TheVariants as kind
use Rattle.base16.specs.declared.integer.IntType.{IntType}
use Rattle.base16.specs.declared.integer.IntType.TheVariants as int
use Rattle.base16.specs.declared.operator.UnaryOp.{UnaryOp}
use Rattle.base16.specs.declared.operator.UnaryOp.TheVariants as un
use Rattle.isa430.specs.declared.instr.TwoOp.TheVariants.{Mov, Add, Sub, Cmp}
use Rattle.isa430.specs.declared.instr.Cond.{Cond}
use Rattle.isa430.specs.declared.instr.Cond.TheVariants.{Nz}
use Rattle.isa430.specs.declared.instr.Src.TheVariants.{Reg, Indexed, Absolute, Indirect}
use Rattle.isa430.specs.declared.instr.Dst.TheVariants.{Reg as ToReg, Indexed as ToIndexed}
use Rattle.isa430.specs.declared.instr.Instr.TheVariants.{Two}
use Rattle.isa430.specs.Table.{valid}
use Rattle.ir.specs.declared.form.Ir.{Ir}
use Rattle.ir.specs.declared.form.IrFunction.{IrFunction}
use Rattle.ir.specs.declared.form.IrLocal.{IrLocal}
use Rattle.ir.specs.declared.form.Base.{Base}
use Rattle.ir.specs.declared.form.Base.TheVariants as base
use Rattle.ir.specs.declared.form.Operand.{Operand}
use Rattle.ir.specs.declared.form.Operand.TheVariants as operand
use Rattle.ir.specs.declared.form.Target.{Target}
use Rattle.ir.specs.declared.form.Target.TheVariants as target
use Rattle.ir.specs.declared.form.Operation.{Operation}
use Rattle.ir.specs.declared.form.Test.{Test}
use Rattle.ir.specs.declared.form.Test.TheVariants as test
use Rattle.ir.specs.declared.form.Keep.{Keep}
use Rattle.ir.specs.declared.form.Keep.TheVariants as keeps
use Rattle.ir.specs.declared.form.StepKind.{StepKind}
use Rattle.ir.specs.declared.form.StepKind.TheVariants as step
use Rattle.ir.specs.Machine.{first_kind}
use Rattle.ir.specs.Table.{is_generated, is_comparison, is_short, place, address_bytes, target_bytes, operator_bytes, operation_bytes, convert_bytes, unary_step, unary_bytes, narrow, keep_bytes, flag_bytes, test_bytes, size, taken, target_taken, before_taken, is_helped, operation_helped, test_helped, uses_helper}
use Rattle.ir.specs.Table as row
use Rattle.select430.specs.Frames.{word, temporary_at, local_at, global_at, stamp_at}
use Rattle.select430.specs.declared.part.Part.{Part}
use Rattle.select430.specs.declared.part.Part.TheVariants.{Do, GoUnless, Enters, Names}
use Rattle.select430.specs.Code.{constant, two, with_number, set, service, read, write, narrowed, negated, truth_where, against_zero, flags, holds_where, is_signed, compare, operate, factor, doubled, scaled, moved, counted, left_register, right_register, perform, test_flags, store_service, stamp_service, is_char, go_where_zero, low_word, high_word}
use Rattle.select430.specs.Code as code
use Rattle.select430.proofs.Words.{is_right}
use Rattle.select430.proofs.Operators.{Fit, nothing, both, wider, leaf, Free, is9, is12, is13, is14, is15, each, left_free, right_free, number_exact, number_fits, truth_fits, once, negated_fits, more_none, none_more, moved_fits, perform_fits, zero_fits, tested_fits, test_flags_fit, narrowed_fits, go_fits, service_fits}

module _ (ir : Ir) (fn : IrFunction) where
  brought : (d n : ℕ) → Free n → Fit (code.bring_temporary ir fn d n) 4 0 0
  brought d n f = leaf _ 4 (omega arith) refl refl (each (λ r. IsTrue (is_right (Do (Two Mov false (Indexed 1 (temporary_at fn d)) (ToReg r))))) n f refl refl refl refl refl)

  kept_is : (d n : ℕ) → Free n → Fit (code.keep ir fn d n) 4 0 0
  kept_is d n f = leaf _ 4 (omega arith) refl refl (each (λ r. IsTrue (is_right (Do (Two Mov false (Reg r) (ToIndexed 1 (temporary_at fn d)))))) n f refl refl refl refl refl)

  keep12 : (d : ℕ) → Fit (code.keep ir fn d 12) 4 0 0
  keep12 d = kept_is d 12 is12

  read_is : (b : Bool) (of : Base) (offset n : ℕ) → Free n → Fit (Do (Two Mov b (code.scalar ir fn of offset) (ToReg n)) ∷ []) 4 0 0
  read_is true (base.Local m) offset n f = leaf _ 4 (omega arith) refl refl (each (λ r. IsTrue (valid (Two Mov true (Indexed 1 (local_at fn m offset)) (ToReg r)))) n f refl refl refl refl refl)
  read_is false (base.Local m) offset n f = leaf _ 4 (omega arith) refl refl (each (λ r. IsTrue (valid (Two Mov false (Indexed 1 (local_at fn m offset)) (ToReg r)))) n f refl refl refl refl refl)
  read_is true (base.Global m) offset n f = leaf _ 4 (omega arith) refl refl (each (λ r. IsTrue (valid (Two Mov true (Absolute (global_at ir m offset)) (ToReg r)))) n f refl refl refl refl refl)
  read_is false (base.Global m) offset n f = leaf _ 4 (omega arith) refl refl (each (λ r. IsTrue (valid (Two Mov false (Absolute (global_at ir m offset)) (ToReg r)))) n f refl refl refl refl refl)

  read_fits : (k : Kind) (of : Base) (offset n : ℕ) → Free n → Fit (read k (code.scalar ir fn of offset) n ∷ []) 4 0 0
  read_fits k of offset n f = read_is (is_char k) of offset n f

  -- what is read where a register points to
  followed : (b : Bool) (n : ℕ) → Free n → Fit (Do (Two Mov b (Indirect 12) (ToReg n)) ∷ []) 2 0 0
  followed true n f = leaf _ 2 (omega arith) refl refl (each (λ r. IsTrue (valid (Two Mov true (Indirect 12) (ToReg r)))) n f refl refl refl refl refl)
  followed false n f = leaf _ 2 (omega arith) refl refl (each (λ r. IsTrue (valid (Two Mov false (Indirect 12) (ToReg r)))) n f refl refl refl refl refl)

  followed9 : (b : Bool) (n : ℕ) → Free n → Fit (Do (Two Mov b (Indirect 9) (ToReg n)) ∷ []) 2 0 0
  followed9 true n f = leaf _ 2 (omega arith) refl refl (each (λ r. IsTrue (valid (Two Mov true (Indirect 9) (ToReg r)))) n f refl refl refl refl refl)
  followed9 false n f = leaf _ 2 (omega arith) refl refl (each (λ r. IsTrue (valid (Two Mov false (Indirect 9) (ToReg r)))) n f refl refl refl refl refl)

  written : (b : Bool) (x : ℕ) → Fit (Do (Two Mov b (Reg 12) (ToIndexed 1 x)) ∷ []) 4 0 0
  written true x = leaf _ 4 (omega arith) refl refl refl
  written false x = leaf _ 4 (omega arith) refl refl refl

  bring_fits : (x : Operand) (d n : ℕ) → Free n → Fit (code.bring ir fn x d n) (row.bring x) 0 0
  bring_fits operand.Temporary d n f = brought d n f
  bring_fits (operand.Constant z) d n f = number_exact Mov z n f
  bring_fits operand.Null d n f = number_exact Mov (pos 0) n f
  bring_fits (operand.Scalar of offset k) d n f = read_fits k of offset n f

  put_from : (x : Operand) (d : ℕ) → Fit (code.bring ir fn x d 12 ++ code.keep ir fn d 12) (row.bring x + 4) 0 0
  put_from x d = both (code.bring ir fn x d 12) (code.keep ir fn d 12) (row.bring x) 4 0 0 0 0 (bring_fits x d 12 is12) (keep12 d)

  put_fits : (x : Operand) (d : ℕ) → Fit (code.put ir fn x d) (place x) 0 0
  put_fits operand.Temporary d = nothing 0 0
  put_fits (operand.Constant z) d = put_from (operand.Constant z) d
  put_fits operand.Null d = put_from operand.Null d
  put_fits (operand.Scalar of offset k) d = put_from (operand.Scalar of offset k) d

  address_fits : (of : Base) (offset n : ℕ) → Free n → Fit (code.address ir fn of offset n) (address_bytes of) 0 0
  address_fits (base.Local m) offset n f = both (two Mov 1 n ∷ []) (with_number Add (pos (local_at fn m offset)) n ∷ []) 2 4 0 0 0 0
      (leaf _ 2 (omega arith) refl refl (each (λ r. IsTrue (is_right (two Mov 1 r))) n f refl refl refl refl refl)) (number_fits Add (pos (local_at fn m offset)) n f)
  address_fits (base.Global m) offset n f = number_fits Mov (pos (global_at ir m offset)) n f

  target_fits : (to : Target) (d n : ℕ) → Free n → Fit (code.bring_target ir fn to d n) (target_bytes to) 0 0
  target_fits target.Temporary d n f = brought d n f
  target_fits (target.Known of offset) d n f = address_fits of offset n f

  target_long : (to : Target) → 4 ≤ target_bytes to
  target_long target.Temporary = omega arith
  target_long (target.Known (base.Local m) offset) = omega arith
  target_long (target.Known (base.Global m) offset) = omega arith

  both_fit : (o : Operation) (left right : Operand) (d : ℕ) → Fit (code.bring_both ir fn o left right d) (row.bring left + row.bring right) 0 0
  both_fit o left right d = both (code.bring ir fn left d (left_register o)) (code.bring ir fn right (d + taken left) (right_register o)) (row.bring left) (row.bring right) 0 0 0 0 (bring_fits left d (left_register o) (left_free o)) (bring_fits right (d + taken left) (right_register o) (right_free o))

  -- a value that is worked on in R12 and becomes a temporary
  worked : (xs ys : List Part) (d m n t k : ℕ) → Fit xs m 0 0 → Fit ys n t k → Fit (xs ++ (ys ++ code.keep ir fn d 12)) (m + (n + 4)) t k
  worked xs ys d m n t k a b =
      wider _ (m + (n + 4)) (m + (n + 4)) (0 + (t + 0)) t (0 + (k + 0)) k (both xs (ys ++ code.keep ir fn d 12) m (n + 4) 0 (t + 0) 0 (k + 0) a (both ys (code.keep ir fn d 12) n 4 t 0 k 0 b (keep12 d))) (omega arith) (omega arith) (omega arith)

  complement_fits : Fit (code.unary un.Complement) 2 0 0
  complement_fits = leaf _ 2 (omega arith) refl refl refl

  not_fits : Fit (code.unary un.Not) 8 1 0
  not_fits = record { bytes = omega arith; skip = omega arith; help = refl; right = refl }

  unary_fits : (o : UnaryOp) (x : Operand) (d : ℕ) → Fit (code.unary_parts ir fn o x d) (unary_step o x) 1 0
  unary_fits un.Plus x d = wider _ (place x) (place x) 0 1 0 0 (put_fits x d) (omega arith) (omega arith) refl
  unary_fits un.Minus x d = wider _ (row.bring x + (4 + 4)) _ 0 1 0 0 (worked (code.bring ir fn x d 12) negated d (row.bring x) 4 0 0 (bring_fits x d 12 is12) negated_fits) (omega arith) (omega arith) refl
  unary_fits un.Complement x d = wider _ (row.bring x + (2 + 4)) _ 0 1 0 0 (worked (code.bring ir fn x d 12) (code.unary un.Complement) d (row.bring x) 2 0 0 (bring_fits x d 12 is12) complement_fits) (omega arith) (omega arith) refl
  unary_fits un.Not x d = wider _ (row.bring x + (8 + 4)) _ 1 1 0 0 (worked (code.bring ir fn x d 12) (code.unary un.Not) d (row.bring x) 8 1 0 (bring_fits x d 12 is12) not_fits) (omega arith) (omega arith) refl

  convert_fits : (t : IntType) (x : Operand) (d : ℕ) → Fit (code.convert ir fn t x d) (convert_bytes t x) 0 0
  convert_fits int.Char x d = wider _ (row.bring x + (2 + 4)) _ 0 0 0 0 (worked (code.bring ir fn x d 12) (narrowed kind.Char 12) d (row.bring x) 2 0 0 (bring_fits x d 12 is12) (narrowed_fits kind.Char 12 is12)) (omega arith) (omega arith) refl
  convert_fits int.Int x d = put_fits x d
  convert_fits int.UInt x d = put_fits x d

  stored_fits : (k : Kind) (d n : ℕ) → Free n → Fit (narrowed k n ++ code.keep ir fn d n) (narrow k + 4) 0 0
  stored_fits k d n f = both (narrowed k n) (code.keep ir fn d n) (narrow k) 4 0 0 0 0 (narrowed_fits k n f) (kept_is d n f)

  kept_fits : (keeps : Keep) (k : Kind) (to : Target) (d n : ℕ) → Free n → Fit (code.kept ir fn keeps k to d n) (keep_bytes k keeps) 0 0
  kept_fits keeps.Nothing k to d n f = nothing 0 0
  kept_fits keeps.Stored k to d n f = stored_fits k d n f
  kept_fits keeps.Before k target.Temporary d n f = both (code.bring_temporary ir fn (suc d) 12) (code.keep ir fn d 12) 4 4 0 0 0 0 (brought (suc d) 12 is12) (keep12 d)
  kept_fits keeps.Before k (target.Known of offset) d n f = nothing 8 0

  -- of an update, what saves the value from before and what it leaves
  saved_bytes : Keep → ℕ
  saved_bytes keeps.Before = 2
  saved_bytes _ = 0

  left_bytes : Kind → Keep → ℕ
  left_bytes k keeps.Nothing = 0
  left_bytes k keeps.Stored = narrow k + 4
  left_bytes k keeps.Before = 4

  update_bytes : (k : Kind) (keeps : Keep) → saved_bytes keeps + left_bytes k keeps ≤ keep_bytes k keeps
  unfolding saved_bytes left_bytes
  update_bytes k keeps.Nothing = omega arith
  update_bytes k keeps.Stored = omega arith
  update_bytes k keeps.Before = omega arith

  saved_fits : (keeps : Keep) (n : ℕ) → Free n → Fit (code.saved ir fn keeps n) (saved_bytes keeps) 0 0
  unfolding saved_bytes
  saved_fits keeps.Nothing n f = nothing 0 0
  saved_fits keeps.Stored n f = nothing 0 0
  saved_fits keeps.Before n f = leaf _ 2 (omega arith) refl refl (each (λ r. IsTrue (is_right (two Mov r 10))) n f refl refl refl refl refl)

  left_fits : (keeps : Keep) (k : Kind) (d n : ℕ) → Free n → Fit (code.kept_update ir fn keeps k d n) (left_bytes k keeps) 0 0
  unfolding left_bytes
  left_fits keeps.Nothing k d n f = nothing 0 0
  left_fits keeps.Stored k d n f = stored_fits k d n f
  left_fits keeps.Before k d n f = leaf _ 4 (omega arith) refl refl refl

  flags_of_fit : (t : Test) (d : ℕ) → Fit (code.flags_of ir fn t d) (test_bytes t) 0 (once (test_helped t))
  flags_of_fit (test.Value x) d = tested_fits (code.bring ir fn x d 12) (row.bring x) 0 0 (bring_fits x d 12 is12)
  flags_of_fit (test.Computed o left right) d =
      wider _ (row.bring left + row.bring right + flag_bytes o) _ 0 0 (0 + once (operation_helped o)) _ (both (code.bring_both ir fn o left right d) (test_flags o) (row.bring left + row.bring right) (flag_bytes o) 0 0 0 (once (operation_helped o)) (both_fit o left right d) (test_flags_fit o)) (omega arith) (omega arith) (none_more (once (operation_helped o)))

  copied : (b : Bool) (i x : ℕ) → Fit (Do (Two Mov b (Indexed 14 i) (ToIndexed 1 x)) ∷ []) 6 0 0
  copied true i x = leaf _ 6 (omega arith) refl refl refl
  copied false i x = leaf _ 6 (omega arith) refl refl refl

  copies_fit : (i : ℕ) (ls : List IrLocal) → Fit (code.copies ir fn i ls) (6 * length ls) 0 0
  copies_fit i [] = nothing 0 0
  copies_fit i (l ∷ ls) = wider _ (6 + 6 * length ls) _ 0 0 0 0 (both (code.copy l i ∷ []) (code.copies ir fn (suc i) ls) 6 (6 * length ls) 0 0 0 0 (copied (is_char (first_kind l.scalars)) (word (2 * i)) (word l.offset)) (copies_fit (suc i) ls)) (omega arith) (omega arith) refl

  taken_few : (n : ℕ) (ls : List IrLocal) → length (take n ls) ≤ n
  taken_few zero ls = omega arith
  taken_few (suc n) [] = omega arith
  taken_few (suc n) (l ∷ ls) = let h = taken_few n ls in omega arith

  framed_fits : (n : ℕ) → Fit (code.framed ir fn n) 8 0 0
  framed_fits n = both (set (pos (word fn.frame)) 15 ∷ []) (service n ∷ []) 4 4 0 0 0 0 (number_fits Mov (pos (word fn.frame)) 15 is15) (service_fits n)

  -- ---- time

  doubled_twice : (b : Bool) (n : ℕ) → Free n → Fit (if b then two Add n n ∷ [] else []) 2 0 0
  doubled_twice true n f = leaf _ 2 (omega arith) refl refl (each (λ r. IsTrue (is_right (two Add r r))) n f refl refl refl refl refl)
  doubled_twice false n f = nothing 2 0

  to_stamp_fits : (g : ℕ) (k : Kind) (n : ℕ) → Free n → Fit (code.to_stamp ir fn g k n) 12 0 0
  to_stamp_fits g k n f =
      both (with_number Sub (pos (global_at ir g 0)) n ∷ []) (two Add n n ∷ ((if is_char k then two Add n n ∷ [] else []) ++ with_number Add (pos (stamp_at ir g 0)) n ∷ [])) 4 8 0 0 0 0 (number_fits Sub (pos (global_at ir g 0)) n f)
      (both (two Add n n ∷ []) ((if is_char k then two Add n n ∷ [] else []) ++ with_number Add (pos (stamp_at ir g 0)) n ∷ []) 2 6 0 0 0 0 (doubled_twice true n f)
      (both (if is_char k then two Add n n ∷ [] else []) (with_number Add (pos (stamp_at ir g 0)) n ∷ []) 2 4 0 0 0 0 (doubled_twice (is_char k) n f) (number_fits Add (pos (stamp_at ir g 0)) n f)))

  stamp_of_fits : (g : ℕ) (to : Target) (k : Kind) → Fit (code.stamp_of ir fn g to k) 14 0 0
  stamp_of_fits g target.Temporary k = both (two Mov 14 15 ∷ []) (code.to_stamp ir fn g k 15) 2 12 0 0 0 0 (leaf _ 2 (omega arith) refl refl refl) (to_stamp_fits g k 15 is15)
  stamp_of_fits g (target.Known of offset) k = wider _ 4 14 0 0 0 0 (number_fits Mov (pos (stamp_at ir g offset)) 15 is15) (omega arith) (omega arith) refl

  asked_stamp_fits : (g : ℕ) (to : Target) (k : Kind) (d : ℕ) → Fit (code.asked_stamp ir fn g to k d) (target_bytes to + 12) 0 0
  asked_stamp_fits g target.Temporary k d = both (code.bring_temporary ir fn d 14) (code.to_stamp ir fn g k 14) 4 12 0 0 0 0 (brought d 14 is14) (to_stamp_fits g k 14 is14)
  asked_stamp_fits g (target.Known of offset) k d = wider _ 4 _ 0 0 0 0 (number_fits Mov (pos (stamp_at ir g offset)) 14 is14) (omega arith) (omega arith) refl

  block_fits : (n t to : ℕ) → Fit (code.block ir fn n t to) 20 1 0
  block_fits n t to =
      let rows : ℤ = pos (word (code.rows_or ir fn (slice_get ir.tables t))) in
      both (Names t 14 ∷ []) (set rows 15 ∷ service n ∷ go_where_zero to) 4 16 0 1 0 0 (leaf _ 4 (omega arith) refl refl refl)
      (both (set rows 15 ∷ []) (service n ∷ go_where_zero to) 4 12 0 1 0 0 (number_fits Mov rows 15 is15) (both (service n ∷ []) (go_where_zero to) 4 8 0 1 0 0 (service_fits n) (go_fits to)))

  -- ---- each step

  jump_over : (c : Cond) (to : ℕ) → Fit (GoUnless c to ∷ []) 6 1 0
  jump_over c to = record { bytes = omega arith; skip = omega arith; help = refl; right = refl }

  pub step_fits : (k : StepKind) → Fit (code.code_of_step ir fn k) (size k) 1 (once (uses_helper k))
  step_fits (step.Put d x) = wider _ (place x) _ 0 1 0 0 (put_fits x d) (omega arith) (omega arith) refl
  step_fits (step.Nothing d) = nothing 0 1
  step_fits (step.Drop d) = nothing 0 1
  step_fits (step.Beside d o) =
      wider _ (4 + (4 + (operation_bytes o + 4))) _ _ 1 _ _
      (both (code.bring_temporary ir fn d (left_register o)) (code.bring_temporary ir fn (suc d) (right_register o) ++ (perform o ++ code.keep ir fn (suc d) 12)) 4 (4 + (operation_bytes o + 4)) 0 1 0 (once (operation_helped o)) (brought d (left_register o) (left_free o))
      (worked (code.bring_temporary ir fn (suc d) (right_register o)) (perform o) (suc d) 4 (operation_bytes o) 1 (once (operation_helped o)) (brought (suc d) (right_register o) (right_free o)) (perform_fits o)))
      (omega arith) (omega arith) (none_more (once (operation_helped o)))
  step_fits (step.Convert d t x) = wider _ (convert_bytes t x) _ 0 1 0 0 (convert_fits t x d) (omega arith) (omega arith) refl
  step_fits (step.Unary d o t x) = unary_fits o x d
  step_fits (step.Binary d o left right) =
      wider _ (row.bring left + row.bring right + (operation_bytes o + 4)) _ 1 1 _ _
      (worked (code.bring_both ir fn o left right d) (perform o) d (row.bring left + row.bring right) (operation_bytes o) 1 (once (operation_helped o)) (both_fit o left right d) (perform_fits o))
      (omega arith) (omega arith) refl
  step_fits (step.Truth d t x) =
      wider _ (row.bring x + (8 + 4)) _ 1 1 0 0 (worked (code.bring ir fn x d 12) (against_zero ∷ truth_where Nz) d (row.bring x) 8 1 0 (bring_fits x d 12 is12) (both (against_zero ∷ []) (truth_where Nz) 2 6 0 1 0 0 zero_fits (truth_fits Nz))) (omega arith) (omega arith) refl
  step_fits (step.Address d of offset) = wider _ (address_bytes of + 4) _ 0 1 0 0 (both (code.address ir fn of offset 12) (code.keep ir fn d 12) (address_bytes of) 4 0 0 0 0 (address_fits of offset 12 is12) (keep12 d)) (omega arith) (omega arith) refl
  step_fits (step.Follow d x) = wider _ (place x) _ 0 1 0 0 (put_fits x d) (omega arith) (omega arith) refl
  step_fits (step.Member d offset) =
      wider _ (4 + (4 + 4)) _ 0 1 0 0 (worked (code.bring_temporary ir fn d 12) (with_number Add (pos (word offset)) 12 ∷ []) d 4 4 0 0 (brought d 12 is12) (number_fits Add (pos (word offset)) 12 is12)) (omega arith) (omega arith) refl
  step_fits (step.Element d n t x) =
      wider _ (4 + (row.bring x + (10 + 4))) _ 0 1 _ _
      (both (code.bring_temporary ir fn d 15) (code.bring ir fn x (suc d) 12 ++ (moved false n ++ code.keep ir fn d 12)) 4 (row.bring x + (10 + 4)) 0 0 0 (once (not (is_short n))) (brought d 15 is15)
      (worked (code.bring ir fn x (suc d) 12) (moved false n) d (row.bring x) 10 0 (once (not (is_short n))) (bring_fits x (suc d) 12 is12) (moved_fits false n)))
      (omega arith) (omega arith) (none_more (once (not (is_short n))))
  step_fits (step.Sum d n left_type right_type swapped left right) =
      wider _ (row.bring left + (row.bring right + (10 + 4))) _ 0 1 _ _
      (both (code.bring ir fn left d (if swapped then 12 else 15)) (code.bring ir fn right (d + taken left) (if swapped then 15 else 12) ++ (moved false n ++ code.keep ir fn d 12)) (row.bring left) (row.bring right + (10 + 4)) 0 0 0 (once (not (is_short n))) (bring_fits left d (if swapped then 12 else 15) (one swapped))
      (worked (code.bring ir fn right (d + taken left) (if swapped then 15 else 12)) (moved false n) d (row.bring right) 10 0 (once (not (is_short n))) (bring_fits right (d + taken left) (if swapped then 15 else 12) (other swapped)) (moved_fits false n)))
      (omega arith) (omega arith) (none_more (once (not (is_short n))))
    where
      one : (b : Bool) → Free (if b then 12 else 15)
      one true = is12
      one false = is15

      other : (b : Bool) → Free (if b then 15 else 12)
      other true = is15
      other false = is12
  step_fits (step.PointTo d) = nothing 0 1
  step_fits (step.Load d k) = wider _ (4 + (2 + 4)) _ 0 1 0 0 (worked (code.bring_temporary ir fn d 12) (read k (Indirect 12) 12 ∷ []) d 4 2 0 0 (brought d 12 is12) (followed (is_char k) 12 is12)) (omega arith) (omega arith) refl
  step_fits (step.Peek d k) = wider _ (4 + (2 + 4)) _ 0 1 0 0 (worked (code.bring_temporary ir fn d 12) (read k (Indirect 12) 12 ∷ []) (suc d) 4 2 0 0 (brought d 12 is12) (followed (is_char k) 12 is12)) (omega arith) (omega arith) refl
  step_fits (step.Store d to k x keeps) =
      wider _ (target_bytes to + (row.bring x + (4 + keep_bytes k keeps))) _ 0 1 0 0
      (both (code.bring_target ir fn to d 14) (code.bring ir fn x (d + target_taken to + before_taken keeps) 13 ++ service (store_service k) ∷ code.kept ir fn keeps k to d 13) (target_bytes to) (row.bring x + (4 + keep_bytes k keeps)) 0 0 0 0 (target_fits to d 14 is14)
      (both (code.bring ir fn x (d + target_taken to + before_taken keeps) 13) (service (store_service k) ∷ code.kept ir fn keeps k to d 13) (row.bring x) (4 + keep_bytes k keeps) 0 0 0 0 (bring_fits x (d + target_taken to + before_taken keeps) 13 is13)
      (both (service (store_service k) ∷ []) (code.kept ir fn keeps k to d 13) 4 (keep_bytes k keeps) 0 0 0 0 (service_fits (store_service k)) (kept_fits keeps k to d 13 is13))))
      (omega arith) (omega arith) refl
  step_fits (step.StoreLocal d n offset k x keeps) =
      wider _ (row.bring x + (4 + keep_bytes k keeps)) _ 0 1 0 0
      (both (code.bring ir fn x (d + before_taken keeps) 12) (write k 12 (ToIndexed 1 (local_at fn n offset)) ∷ code.kept ir fn keeps k (target.Known (base.Local n) offset) d 12) (row.bring x) (4 + keep_bytes k keeps) 0 0 0 0 (bring_fits x (d + before_taken keeps) 12 is12)
      (both (write k 12 (ToIndexed 1 (local_at fn n offset)) ∷ []) (code.kept ir fn keeps k (target.Known (base.Local n) offset) d 12) 4 (keep_bytes k keeps) 0 0 0 0 (written (is_char k) (local_at fn n offset)) (kept_fits keeps k (target.Known (base.Local n) offset) d 12 is12)))
      (omega arith) (omega arith) refl
  step_fits (step.Update d to k o x keeps) =
      let l = target_long to in
      let u = update_bytes k keeps in
      let end : List Part = two Mov 12 13 ∷ two Mov 9 14 ∷ service (store_service k) ∷ code.kept_update ir fn keeps k d 13 in
      let after : List Part = perform o ++ end in
      let middle : List Part = code.bring ir fn x (d + target_taken to) (right_register o) ++ after in
      let b = operation_bytes o in
      let h = once (operation_helped o) in
      let f1 : Fit end (8 + left_bytes k keeps) 0 0 = both (two Mov 12 13 ∷ two Mov 9 14 ∷ service (store_service k) ∷ []) (code.kept_update ir fn keeps k d 13) 8 (left_bytes k keeps) 0 0 0 0 (record { bytes = omega arith; skip = omega arith; help = refl; right = refl }) (left_fits keeps k d 13 is13) in
      let f2 : Fit after (b + (8 + left_bytes k keeps)) (1 + 0) (h + 0) = both (perform o) end b (8 + left_bytes k keeps) 1 0 h 0 (perform_fits o) f1 in
      let f3 : Fit middle (row.bring x + (b + (8 + left_bytes k keeps))) (0 + (1 + 0)) (0 + (h + 0)) = both (code.bring ir fn x (d + target_taken to) (right_register o)) after (row.bring x) (b + (8 + left_bytes k keeps)) 0 (1 + 0) 0 (h + 0) (bring_fits x (d + target_taken to) (right_register o) (right_free o)) f2 in
      let f4 = both (code.saved ir fn keeps (left_register o)) middle (saved_bytes keeps) (row.bring x + (b + (8 + left_bytes k keeps))) 0 (0 + (1 + 0)) 0 (0 + (h + 0)) (saved_fits keeps (left_register o) (left_free o)) f3 in
      let f5 = both (read k (Indirect 9) (left_register o) ∷ []) (code.saved ir fn keeps (left_register o) ++ middle) 2 (saved_bytes keeps + (row.bring x + (b + (8 + left_bytes k keeps)))) 0 (0 + (0 + (1 + 0))) 0 (0 + (0 + (h + 0))) (followed9 (is_char k) (left_register o) (left_free o)) f4 in
      wider _ (target_bytes to + (2 + (saved_bytes keeps + (row.bring x + (b + (8 + left_bytes k keeps)))))) _ (0 + (0 + (0 + (0 + (1 + 0))))) 1 (0 + (0 + (0 + (0 + (h + 0))))) _
      (both (code.bring_target ir fn to d 9) (read k (Indirect 9) (left_register o) ∷ (code.saved ir fn keeps (left_register o) ++ middle)) (target_bytes to) (2 + (saved_bytes keeps + (row.bring x + (b + (8 + left_bytes k keeps))))) 0 (0 + (0 + (0 + (1 + 0)))) 0 (0 + (0 + (0 + (h + 0)))) (target_fits to d 9 is9) f5)
      (omega arith) (omega arith) (omega arith)
  step_fits (step.UpdateLocal d n offset k o x keeps) =
      let u = update_bytes k keeps in
      let at : ℕ = local_at fn n offset in
      let end : List Part = write k 12 (ToIndexed 1 at) ∷ code.kept_update ir fn keeps k d 12 in
      let after : List Part = perform o ++ end in
      let middle : List Part = code.bring ir fn x d (right_register o) ++ after in
      let b = operation_bytes o in
      let h = once (operation_helped o) in
      let f1 : Fit end (4 + left_bytes k keeps) 0 0 = both (write k 12 (ToIndexed 1 at) ∷ []) (code.kept_update ir fn keeps k d 12) 4 (left_bytes k keeps) 0 0 0 0 (written (is_char k) at) (left_fits keeps k d 12 is12) in
      let f2 : Fit after (b + (4 + left_bytes k keeps)) (1 + 0) (h + 0) = both (perform o) end b (4 + left_bytes k keeps) 1 0 h 0 (perform_fits o) f1 in
      let f3 : Fit middle (row.bring x + (b + (4 + left_bytes k keeps))) (0 + (1 + 0)) (0 + (h + 0)) = both (code.bring ir fn x d (right_register o)) after (row.bring x) (b + (4 + left_bytes k keeps)) 0 (1 + 0) 0 (h + 0) (bring_fits x d (right_register o) (right_free o)) f2 in
      let f4 = both (code.saved ir fn keeps (left_register o)) middle (saved_bytes keeps) (row.bring x + (b + (4 + left_bytes k keeps))) 0 (0 + (1 + 0)) 0 (0 + (h + 0)) (saved_fits keeps (left_register o) (left_free o)) f3 in
      wider _ (4 + (saved_bytes keeps + (row.bring x + (b + (4 + left_bytes k keeps))))) _ (0 + (0 + (0 + (1 + 0)))) 1 (0 + (0 + (0 + (h + 0)))) _
      (both (read k (Indexed 1 at) (left_register o) ∷ []) (code.saved ir fn keeps (left_register o) ++ middle) 4 (saved_bytes keeps + (row.bring x + (b + (4 + left_bytes k keeps)))) 0 (0 + (0 + (1 + 0))) 0 (0 + (0 + (h + 0))) (read_is (is_char k) (base.Local n) offset (left_register o) (left_free o)) f4)
      (omega arith) (omega arith) (omega arith)
  step_fits (step.Undefine n) = nothing 0 1
  step_fits (step.Jump to) = record { bytes = omega arith; skip = omega arith; help = refl; right = refl }
  step_fits (step.Branch d t of when to) =
      wider _ (test_bytes t + 6) _ 1 1 _ _ (both (code.flags_of ir fn t d) (GoUnless (code.stay_where ir fn t when) to ∷ []) (test_bytes t) 6 0 1 (once (test_helped t)) 0 (flags_of_fit t d) (jump_over (code.stay_where ir fn t when) to)) (omega arith) (omega arith) (more_none (once (test_helped t)))
  step_fits (step.Case d of z to) =
      wider _ (4 + (4 + 6)) _ 1 1 0 0 (both (code.bring_temporary ir fn d 12) (with_number Cmp z 12 ∷ GoUnless Nz to ∷ []) 4 10 0 1 0 0 (brought d 12 is12) (both (with_number Cmp z 12 ∷ []) (GoUnless Nz to ∷ []) 4 6 0 1 0 0 (number_fits Cmp z 12 is12) (jump_over Nz to))) (omega arith) (omega arith) refl
  step_fits (step.Call d g n) =
      wider _ (2 + (4 + 4)) _ 0 1 0 0 (both (two Mov 1 14 ∷ []) (with_number Add (pos (temporary_at fn d)) 14 ∷ Enters g ∷ []) 2 8 0 0 0 0 (leaf _ 2 (omega arith) refl refl refl) (both (with_number Add (pos (temporary_at fn d)) 14 ∷ []) (Enters g ∷ []) 4 4 0 0 0 0 (number_fits Add (pos (temporary_at fn d)) 14 is14) (leaf _ 4 (omega arith) refl refl refl))) (omega arith) (omega arith) refl
  step_fits (step.Result d true) = wider _ 4 4 0 1 0 0 (keep12 d) (omega arith) (omega arith) refl
  step_fits (step.Result d false) = nothing 0 1
  step_fits (step.Enter n) =
      let few = taken_few n fn.locals in
      wider _ (8 + 6 * length (take n fn.locals)) _ 0 1 0 0 (both (code.framed ir fn 1) (code.copies ir fn 0 (take n fn.locals)) 8 (6 * length (take n fn.locals)) 0 0 0 0 (framed_fits 1) (copies_fit 0 (take n fn.locals))) (omega arith) (omega arith) refl
  step_fits (step.Return d x) = wider _ (row.bring x + 8) _ 0 1 0 0 (both (code.bring ir fn x d 12) (code.framed ir fn 2) (row.bring x) 8 0 0 0 0 (bring_fits x d 12 is12) (framed_fits 2)) (omega arith) (omega arith) refl
  step_fits step.ReturnNothing = wider _ 8 8 0 1 0 0 (framed_fits 2) (omega arith) (omega arith) refl
  step_fits step.Turn = wider _ 4 4 0 1 0 0 (service_fits 3) (omega arith) (omega arith) refl
  step_fits (step.Sense d channel) =
      wider _ (4 + (4 + 4)) _ 0 1 0 0 (both (set (pos channel) 15 ∷ []) (service 8 ∷ code.keep ir fn d 12) 4 8 0 0 0 0 (number_fits Mov (pos channel) 15 is15) (both (service 8 ∷ []) (code.keep ir fn d 12) 4 4 0 0 0 0 (service_fits 8) (keep12 d))) (omega arith) (omega arith) refl
  step_fits (step.Emit d x) = wider _ (row.bring x + 4) _ 0 1 0 0 (both (code.bring ir fn x d 13) (service 9 ∷ []) (row.bring x) 4 0 0 0 0 (bring_fits x d 13 is13) (service_fits 9)) (omega arith) (omega arith) refl
  step_fits (step.Checkpoint d) = wider _ 4 4 0 1 0 0 (service_fits 14) (omega arith) (omega arith) refl
  step_fits (step.Stamp d g to k x) =
      wider _ (target_bytes to + (row.bring x + (14 + 4))) _ 0 1 0 0
      (both (code.bring_target ir fn to d 14) (code.bring ir fn x (d + target_taken to) 13 ++ (code.stamp_of ir fn g to k ++ service (stamp_service k) ∷ [])) (target_bytes to) (row.bring x + (14 + 4)) 0 0 0 0 (target_fits to d 14 is14)
      (both (code.bring ir fn x (d + target_taken to) 13) (code.stamp_of ir fn g to k ++ service (stamp_service k) ∷ []) (row.bring x) (14 + 4) 0 0 0 0 (bring_fits x (d + target_taken to) 13 is13)
      (both (code.stamp_of ir fn g to k) (service (stamp_service k) ∷ []) 14 4 0 0 0 0 (stamp_of_fits g to k) (service_fits (stamp_service k)))))
      (omega arith) (omega arith) refl
  step_fits (step.Timely d g from k limit to) =
      let low : ℤ = pos (low_word limit) in
      let high : ℤ = pos (high_word limit) in
      wider _ (target_bytes from + 12 + (4 + (4 + (4 + 8)))) _ 1 1 0 0
      (both (code.asked_stamp ir fn g from k d) (set low 13 ∷ set high 15 ∷ service 13 ∷ go_where_zero to) (target_bytes from + 12) (4 + (4 + (4 + 8))) 0 1 0 0 (asked_stamp_fits g from k d)
      (both (set low 13 ∷ []) (set high 15 ∷ service 13 ∷ go_where_zero to) 4 (4 + (4 + 8)) 0 1 0 0 (number_fits Mov low 13 is13)
      (both (set high 15 ∷ []) (service 13 ∷ go_where_zero to) 4 (4 + 8) 0 1 0 0 (number_fits Mov high 15 is15)
      (both (service 13 ∷ []) (go_where_zero to) 4 8 0 1 0 0 (service_fits 13) (go_fits to)))))
      (omega arith) (omega arith) refl
  step_fits (step.Open t to) = block_fits 10 t to
  step_fits (step.Check t to) = block_fits 11 t to
  step_fits (step.Close t to) = block_fits 12 t to
