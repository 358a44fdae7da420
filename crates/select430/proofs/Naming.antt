-- What the parts of each step name.
use Rattle.std.proofs.Common.{◌≡◌, ℕ, suc, ◌+◌, refl, sym, ap, ◌∙◌, Bool, true, false, List, [], ◌∷◌, ◌++◌, append_assoc, if◌then◌else◌, take}
use Rattle.std.specs.Prelude.{nat_eq, pos}
use Rattle.base16.specs.declared.image.Kind.{Kind}
use Rattle.base16.specs.declared.image.Kind.TheVariants as kind
use Rattle.base16.specs.declared.integer.IntType.{IntType}
use Rattle.base16.specs.declared.integer.IntType.TheVariants as int
use Rattle.base16.specs.declared.operator.BinaryOp.{BinaryOp}
use Rattle.base16.specs.declared.operator.BinaryOp.TheVariants as op
use Rattle.base16.specs.declared.operator.UnaryOp.{UnaryOp}
use Rattle.base16.specs.declared.operator.UnaryOp.TheVariants as un
use Rattle.base16.specs.Integer.{wrapped}
use Rattle.isa430.specs.declared.instr.Src.TheVariants.{Indirect}
use Rattle.rt430.specs.declared.words.Helper.TheVariants.{Mul16, Sdiv16}
use Rattle.isa430.specs.declared.instr.Dst.TheVariants.{Indexed as ToIndexed}
use Rattle.isa430.specs.declared.instr.Cond.TheVariants.{Nz}
use Rattle.isa430.specs.declared.instr.TwoOp.TheVariants.{Mov, Add}
use Rattle.ir.specs.declared.form.Ir.{Ir}
use Rattle.ir.specs.declared.form.IrFunction.{IrFunction}
use Rattle.ir.specs.declared.form.IrLocal.{IrLocal}
use Rattle.ir.specs.declared.form.Base.{Base}
use Rattle.ir.specs.declared.form.Base.TheVariants as base
use Rattle.ir.specs.declared.form.Operand.{Operand}
use Rattle.ir.specs.declared.form.Operand.TheVariants as operand
use Rattle.ir.specs.declared.form.Target.{Target}
use Rattle.ir.specs.declared.form.Target.TheVariants as target
use Rattle.ir.specs.declared.form.Operation.{Operation}
use Rattle.ir.specs.declared.form.Operation.TheVariants as operation
use Rattle.ir.specs.declared.form.Test.{Test}
use Rattle.ir.specs.declared.form.Test.TheVariants as test
use Rattle.ir.specs.declared.form.Keep.{Keep}
use Rattle.ir.specs.declared.form.Keep.TheVariants as keeps
use Rattle.ir.specs.declared.form.StepKind.{StepKind}
use Rattle.ir.specs.declared.form.StepKind.TheVariants as step
use Rattle.ir.specs.Table.{is_comparison, is_short, taken, target_taken, before_taken}
use Rattle.select430.specs.Frames.{word, local_at, stamp_at}
use Rattle.select430.specs.declared.part.Part.{Part}
use Rattle.select430.specs.declared.part.Part.TheVariants.{GoUnless, Helps}
use Rattle.select430.specs.Parts.{Name, part_names, parts_names}
use Rattle.select430.specs.Code.{two, flags, holds_where, truth_where, against_zero, operate, scaled, moved, counted, left_register, right_register, perform, test_flags, narrowed, negated, doubled, is_char, service, stamp_service, store_service, write, go_where_zero, is_signed, with_number}
use Rattle.select430.specs.Code as code
use Rattle.select430.specs.Laws.{names_of}

-- parts that name nothing
abbrev Quiet : List Part → Type 0
Quiet xs = parts_names xs ≡ []

names_append : (xs ys : List Part) → parts_names (xs ++ ys) ≡ parts_names xs ++ parts_names ys
names_append [] ys = refl
names_append (x ∷ xs) ys = ap (λ (k : List Name). part_names x ++ k) (names_append xs ys) ∙ sym (append_assoc (part_names x) (parts_names xs) (parts_names ys))

-- behind them
past : (xs ys : List Part) (ns : List Name) → Quiet xs → parts_names ys ≡ ns → parts_names (xs ++ ys) ≡ ns
past xs ys ns h k = names_append xs ys ∙ ap (λ (a : List Name). a ++ parts_names ys) h ∙ k

flags_quiet : (o : BinaryOp) → Quiet (flags o ∷ [])
flags_quiet op.Add = refl
flags_quiet op.Sub = refl
flags_quiet op.Mul = refl
flags_quiet op.Div = refl
flags_quiet op.Rem = refl
flags_quiet op.Shl = refl
flags_quiet op.Shr = refl
flags_quiet op.Less = refl
flags_quiet op.Greater = refl
flags_quiet op.LessEq = refl
flags_quiet op.GreaterEq = refl
flags_quiet op.Equal = refl
flags_quiet op.NotEqual = refl
flags_quiet op.And = refl
flags_quiet op.Xor = refl
flags_quiet op.Or = refl

operate_quiet : (o : BinaryOp) (t : IntType) → Quiet (operate o t)
operate_quiet op.Add t = refl
operate_quiet op.Sub t = refl
operate_quiet op.Mul t = refl
operate_quiet op.Less t = refl
operate_quiet op.Greater t = refl
operate_quiet op.LessEq t = refl
operate_quiet op.GreaterEq t = refl
operate_quiet op.Equal t = refl
operate_quiet op.NotEqual t = refl
operate_quiet op.And t = refl
operate_quiet op.Xor t = refl
operate_quiet op.Or t = refl
operate_quiet op.Shl t = refl
operate_quiet op.Div int.Char = refl
operate_quiet op.Div int.Int = refl
operate_quiet op.Div int.UInt = refl
operate_quiet op.Rem int.Char = refl
operate_quiet op.Rem int.Int = refl
operate_quiet op.Rem int.UInt = refl
operate_quiet op.Shr int.Char = refl
operate_quiet op.Shr int.Int = refl
operate_quiet op.Shr int.UInt = refl

scaled_quiet : (minus : Bool) (n : ℕ) → Quiet (scaled minus n)
scaled_quiet minus n = from (is_short n) (nat_eq n 2) minus
  where
    from : (short twice sign : Bool) → Quiet (if short then (if twice then two Add 12 12 ∷ [] else []) ++ (if sign then negated else []) else code.set (pos (wrapped (code.factor minus n))) 13 ∷ Helps Mul16 ∷ [])
    from true true true = refl
    from true true false = refl
    from true false true = refl
    from true false false = refl
    from false twice sign = refl

moved_quiet : (minus : Bool) (n : ℕ) → Quiet (moved minus n)
moved_quiet minus n = past (scaled minus n) (two Add 15 12 ∷ []) [] (scaled_quiet minus n) refl

counted_quiet : (n : ℕ) → Quiet (counted n)
counted_quiet n = from (nat_eq n 1)
  where
    from : (b : Bool) → Quiet (if b then [] else code.set (pos (word n)) 13 ∷ Helps Sdiv16 ∷ [])
    from true = refl
    from false = refl

perform_quiet : (o : Operation) → Quiet (perform o)
perform_quiet (operation.Integers o t own) = operate_quiet o t
perform_quiet (operation.PointerPlus minus n left right swapped) = moved_quiet minus n
perform_quiet (operation.Difference n) = counted_quiet n
perform_quiet (operation.ComparePointers o) = past (flags o ∷ []) (truth_where (holds_where o false)) [] (flags_quiet o) refl

tested_quiet : (xs : List Part) → Quiet xs → Quiet (xs ++ against_zero ∷ [])
tested_quiet xs h = past xs (against_zero ∷ []) [] h refl

test_flags_quiet : (o : Operation) → Quiet (test_flags o)
test_flags_quiet (operation.Integers o t own) = from (is_comparison o)
  where
    from : (b : Bool) → Quiet (if b then flags o ∷ [] else operate o t ++ against_zero ∷ [])
    from true = flags_quiet o
    from false = tested_quiet (operate o t) (operate_quiet o t)
test_flags_quiet (operation.PointerPlus minus n left right swapped) = tested_quiet (moved minus n) (moved_quiet minus n)
test_flags_quiet (operation.Difference n) = tested_quiet (counted n) (counted_quiet n)
test_flags_quiet (operation.ComparePointers o) = flags_quiet o

narrowed_quiet : (k : Kind) (n : ℕ) → Quiet (narrowed k n)
narrowed_quiet kind.Char n = refl
narrowed_quiet kind.Int n = refl
narrowed_quiet kind.UInt n = refl
narrowed_quiet kind.Pointer n = refl

module _ (ir : Ir) (fn : IrFunction) where
  bring_quiet : (x : Operand) (d n : ℕ) → Quiet (code.bring ir fn x d n)
  bring_quiet operand.Temporary d n = refl
  bring_quiet (operand.Constant z) d n = refl
  bring_quiet operand.Null d n = refl
  bring_quiet (operand.Scalar of offset k) d n = refl

  put_quiet : (x : Operand) (d : ℕ) → Quiet (code.put ir fn x d)
  put_quiet operand.Temporary d = refl
  put_quiet (operand.Constant z) d = refl
  put_quiet operand.Null d = refl
  put_quiet (operand.Scalar of offset k) d = refl

  address_quiet : (of : Base) (offset n : ℕ) → Quiet (code.address ir fn of offset n)
  address_quiet (base.Local m) offset n = refl
  address_quiet (base.Global m) offset n = refl

  target_quiet : (to : Target) (d n : ℕ) → Quiet (code.bring_target ir fn to d n)
  target_quiet target.Temporary d n = refl
  target_quiet (target.Known of offset) d n = address_quiet of offset n

  both_quiet : (o : Operation) (left right : Operand) (d : ℕ) → Quiet (code.bring_both ir fn o left right d)
  both_quiet o left right d = past (code.bring ir fn left d (left_register o)) (code.bring ir fn right (d + taken left) (right_register o)) [] (bring_quiet left d (left_register o)) (bring_quiet right (d + taken left) (right_register o))

  unary_quiet : (o : UnaryOp) (x : Operand) (d : ℕ) → Quiet (code.unary_parts ir fn o x d)
  unary_quiet un.Plus x d = put_quiet x d
  unary_quiet un.Minus x d = past (code.bring ir fn x d 12) (negated ++ code.keep ir fn d 12) [] (bring_quiet x d 12) refl
  unary_quiet un.Complement x d = past (code.bring ir fn x d 12) (code.unary un.Complement ++ code.keep ir fn d 12) [] (bring_quiet x d 12) refl
  unary_quiet un.Not x d = past (code.bring ir fn x d 12) (code.unary un.Not ++ code.keep ir fn d 12) [] (bring_quiet x d 12) refl

  convert_quiet : (t : IntType) (x : Operand) (d : ℕ) → Quiet (code.convert ir fn t x d)
  convert_quiet int.Char x d = past (code.bring ir fn x d 12) (narrowed kind.Char 12 ++ code.keep ir fn d 12) [] (bring_quiet x d 12) refl
  convert_quiet int.Int x d = put_quiet x d
  convert_quiet int.UInt x d = put_quiet x d

  stored_quiet : (k : Kind) (d n : ℕ) → Quiet (narrowed k n ++ code.keep ir fn d n)
  stored_quiet k d n = past (narrowed k n) (code.keep ir fn d n) [] (narrowed_quiet k n) refl

  kept_quiet : (keeps : Keep) (k : Kind) (to : Target) (d n : ℕ) → Quiet (code.kept ir fn keeps k to d n)
  kept_quiet keeps.Nothing k to d n = refl
  kept_quiet keeps.Stored k to d n = stored_quiet k d n
  kept_quiet keeps.Before k target.Temporary d n = refl
  kept_quiet keeps.Before k (target.Known of offset) d n = refl

  saved_quiet : (keeps : Keep) (n : ℕ) → Quiet (code.saved ir fn keeps n)
  saved_quiet keeps.Nothing n = refl
  saved_quiet keeps.Stored n = refl
  saved_quiet keeps.Before n = refl

  left_quiet : (keeps : Keep) (k : Kind) (d n : ℕ) → Quiet (code.kept_update ir fn keeps k d n)
  left_quiet keeps.Nothing k d n = refl
  left_quiet keeps.Stored k d n = stored_quiet k d n
  left_quiet keeps.Before k d n = refl

  flags_of_quiet : (t : Test) (d : ℕ) → Quiet (code.flags_of ir fn t d)
  flags_of_quiet (test.Value x) d = tested_quiet (code.bring ir fn x d 12) (bring_quiet x d 12)
  flags_of_quiet (test.Computed o left right) d = past (code.bring_both ir fn o left right d) (test_flags o) [] (both_quiet o left right d) (test_flags_quiet o)

  copies_quiet : (i : ℕ) (ls : List IrLocal) → Quiet (code.copies ir fn i ls)
  copies_quiet i [] = refl
  copies_quiet i (l ∷ ls) = copies_quiet (suc i) ls

  to_stamp_quiet : (g : ℕ) (k : Kind) (n : ℕ) → Quiet (code.to_stamp ir fn g k n)
  to_stamp_quiet g k n = from (is_char k)
    where
      from : (b : Bool) → Quiet ((if b then two Add n n ∷ [] else []) ++ (with_number Add (pos (stamp_at ir g 0)) n ∷ []))
      from true = refl
      from false = refl

  stamp_of_quiet : (g : ℕ) (to : Target) (k : Kind) → Quiet (code.stamp_of ir fn g to k)
  stamp_of_quiet g target.Temporary k = to_stamp_quiet g k 15
  stamp_of_quiet g (target.Known of offset) k = refl

  asked_quiet : (g : ℕ) (to : Target) (k : Kind) (d : ℕ) → Quiet (code.asked_stamp ir fn g to k d)
  asked_quiet g target.Temporary k d = to_stamp_quiet g k 14
  asked_quiet g (target.Known of offset) k d = refl

  -- what is worked on and becomes a temporary
  worked : (xs ys : List Part) (d : ℕ) → Quiet xs → Quiet ys → Quiet (xs ++ (ys ++ code.keep ir fn d 12))
  worked xs ys d h k = past xs (ys ++ code.keep ir fn d 12) [] h (past ys (code.keep ir fn d 12) [] k refl)

  pub step_names : (k : StepKind) → parts_names (code.code_of_step ir fn k) ≡ names_of k
  step_names (step.Put d x) = put_quiet x d
  step_names (step.Nothing d) = refl
  step_names (step.Drop d) = refl
  step_names (step.Beside d o) = worked [] (perform o) (suc d) refl (perform_quiet o)
  step_names (step.Convert d t x) = convert_quiet t x d
  step_names (step.Unary d o t x) = unary_quiet o x d
  step_names (step.Binary d o left right) = worked (code.bring_both ir fn o left right d) (perform o) d (both_quiet o left right d) (perform_quiet o)
  step_names (step.Truth d t x) = worked (code.bring ir fn x d 12) (against_zero ∷ truth_where Nz) d (bring_quiet x d 12) refl
  step_names (step.Address d of offset) = past (code.address ir fn of offset 12) (code.keep ir fn d 12) [] (address_quiet of offset 12) refl
  step_names (step.Follow d x) = put_quiet x d
  step_names (step.Member d offset) = refl
  step_names (step.Element d n t x) = worked (code.bring ir fn x (suc d) 12) (moved false n) d (bring_quiet x (suc d) 12) (moved_quiet false n)
  step_names (step.Sum d n left_type right_type swapped left right) =
      past (code.bring ir fn left d (if swapped then 12 else 15)) (code.bring ir fn right (d + taken left) (if swapped then 15 else 12) ++ (moved false n ++ code.keep ir fn d 12)) [] (bring_quiet left d (if swapped then 12 else 15))
      (worked (code.bring ir fn right (d + taken left) (if swapped then 15 else 12)) (moved false n) d (bring_quiet right (d + taken left) (if swapped then 15 else 12)) (moved_quiet false n))
  step_names (step.PointTo d) = refl
  step_names (step.Load d k) = refl
  step_names (step.Peek d k) = refl
  step_names (step.Store d to k x keeps) =
      past (code.bring_target ir fn to d 14) (code.bring ir fn x (d + target_taken to + before_taken keeps) 13 ++ service (store_service k) ∷ code.kept ir fn keeps k to d 13) [] (target_quiet to d 14)
      (past (code.bring ir fn x (d + target_taken to + before_taken keeps) 13) (service (store_service k) ∷ code.kept ir fn keeps k to d 13) [] (bring_quiet x (d + target_taken to + before_taken keeps) 13) (kept_quiet keeps k to d 13))
  step_names (step.StoreLocal d n offset k x keeps) =
      past (code.bring ir fn x (d + before_taken keeps) 12) (write k 12 (ToIndexed 1 (local_at fn n offset)) ∷ code.kept ir fn keeps k (target.Known (base.Local n) offset) d 12) [] (bring_quiet x (d + before_taken keeps) 12) (kept_quiet keeps k (target.Known (base.Local n) offset) d 12)
  step_names (step.Update d to k o x keeps) =
      let end : List Part = two Mov 12 13 ∷ two Mov 9 14 ∷ service (store_service k) ∷ code.kept_update ir fn keeps k d 13 in
      let after : List Part = perform o ++ end in
      let middle : List Part = code.bring ir fn x (d + target_taken to) (right_register o) ++ after in
      past (code.bring_target ir fn to d 9) (code.read k (Indirect 9) (left_register o) ∷ (code.saved ir fn keeps (left_register o) ++ middle)) [] (target_quiet to d 9)
      (past (code.saved ir fn keeps (left_register o)) middle [] (saved_quiet keeps (left_register o))
      (past (code.bring ir fn x (d + target_taken to) (right_register o)) after [] (bring_quiet x (d + target_taken to) (right_register o))
      (past (perform o) end [] (perform_quiet o) (left_quiet keeps k d 13))))
  step_names (step.UpdateLocal d n offset k o x keeps) =
      let end : List Part = write k 12 (ToIndexed 1 (local_at fn n offset)) ∷ code.kept_update ir fn keeps k d 12 in
      let after : List Part = perform o ++ end in
      let middle : List Part = code.bring ir fn x d (right_register o) ++ after in
      past (code.saved ir fn keeps (left_register o)) middle [] (saved_quiet keeps (left_register o))
      (past (code.bring ir fn x d (right_register o)) after [] (bring_quiet x d (right_register o))
      (past (perform o) end [] (perform_quiet o) (left_quiet keeps k d 12)))
  step_names (step.Undefine n) = refl
  step_names (step.Jump to) = refl
  step_names (step.Branch d t of when to) = past (code.flags_of ir fn t d) (GoUnless (code.stay_where ir fn t when) to ∷ []) (names_of (step.Jump to)) (flags_of_quiet t d) refl
  step_names (step.Case d of z to) = refl
  step_names (step.Call d g n) = refl
  step_names (step.Result d true) = refl
  step_names (step.Result d false) = refl
  step_names (step.Enter n) = copies_quiet 0 (take n fn.locals)
  step_names (step.Return d x) = past (code.bring ir fn x d 12) (code.framed ir fn 2) [] (bring_quiet x d 12) refl
  step_names step.ReturnNothing = refl
  step_names step.Turn = refl
  step_names (step.Sense d channel) = refl
  step_names (step.Emit d x) = past (code.bring ir fn x d 13) (service 9 ∷ []) [] (bring_quiet x d 13) refl
  step_names (step.Checkpoint d) = refl
  step_names (step.Stamp d g to k x) =
      past (code.bring_target ir fn to d 14) (code.bring ir fn x (d + target_taken to) 13 ++ (code.stamp_of ir fn g to k ++ service (stamp_service k) ∷ [])) [] (target_quiet to d 14)
      (past (code.bring ir fn x (d + target_taken to) 13) (code.stamp_of ir fn g to k ++ service (stamp_service k) ∷ []) [] (bring_quiet x (d + target_taken to) 13)
      (past (code.stamp_of ir fn g to k) (service (stamp_service k) ∷ []) [] (stamp_of_quiet g to k) refl))
  step_names (step.Timely d g from k limit to) =
      past (code.asked_stamp ir fn g from k d) (code.set (pos (code.low_word limit)) 13 ∷ code.set (pos (code.high_word limit)) 15 ∷ service 13 ∷ go_where_zero to) (names_of (step.Jump to)) (asked_quiet g from k d) refl
  step_names (step.Open t to) = refl
  step_names (step.Check t to) = refl
  step_names (step.Close t to) = refl
