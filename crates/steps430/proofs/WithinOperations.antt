-- Steps of operations, within the limits of whole runs, where all pointers are inside.
use Rattle.std.proofs.Common.{◌≡◌, ℕ, suc, ◌+◌, ◌≤◌, arith, Bool, true, false}
use Rattle.base16.specs.declared.image.Kind.{Kind}
use Rattle.base16.specs.declared.integer.IntType.{IntType}
use Rattle.base16.specs.declared.integer.IntType.TheVariants as int
use Rattle.base16.specs.declared.operator.BinaryOp.{BinaryOp}
use Rattle.base16.specs.declared.operator.BinaryOp.TheVariants as op
use Rattle.isa430.specs.declared.instr.TwoOp.{TwoOp}
use Rattle.isa430.specs.declared.instr.TwoOp.TheVariants.{Add, Sub, And, Xor, Bis}
use Rattle.rt430.specs.declared.words.Helper.{Helper}
use Rattle.rt430.specs.declared.words.Helper.TheVariants.{Mul16, Udiv16, Umod16, Sdiv16, Smod16, Shl, Shr, Sar}
use Rattle.core_tree.specs.Rules.{is_comparison}
use Rattle.ir.specs.declared.form.Keep.{Keep}
use Rattle.ir.specs.declared.form.Operand.{Operand}
use Rattle.ir.specs.declared.form.Operation.{Operation}
use Rattle.ir.specs.declared.form.Operation.TheVariants as operation
use Rattle.ir.specs.declared.form.StepKind.{StepKind}
use Rattle.ir.specs.declared.form.StepKind.TheVariants as step
use Rattle.ir.specs.declared.form.Target.{Target}
use Rattle.ir.specs.declared.form.Test.{Test}
use Rattle.ir.specs.declared.form.Test.TheVariants as test
use Rattle.ir.specs.Typed.{IsWide, IsTypedOperation, IsTypedUpdate, IsTypedTest}
use Rattle.steps430.specs.Setting.{Setting, IsLaid}
use Rattle.steps430.specs.Follows.{DoesStep}
use Rattle.steps430.specs.Inside.{DoesInside}
use Rattle.steps430.specs.Lying.{StaysInside, StayInside, ObjectsLie}
use Rattle.steps430.specs.Whole.{most_of}
use Rattle.steps430.proofs.Besides.{beside_helped_does, beside_plus_does}
use Rattle.steps430.proofs.BesidesPlain.{IsOrder, Below, Above, NotAbove, NotBelow, Same, Other, beside_plain_does, beside_compare_does}
use Rattle.steps430.proofs.BranchAny.{branch_helped_does, branch_difference_does}
use Rattle.steps430.proofs.BranchPlus.{branch_plus_does}
use Rattle.steps430.proofs.BranchSums.{branch_plain_does}
use Rattle.steps430.proofs.Branches.{branch_less_does, branch_greater_does, branch_less_equal_does, branch_greater_equal_does, branch_equal_does, branch_not_equal_does}
use Rattle.steps430.proofs.ComparingPointers.{compare_pointers_does, branch_pointers_does, beside_pointers_does}
use Rattle.steps430.proofs.Computing.{plain_computes, helped_computes, plus_computes}
use Rattle.steps430.proofs.Differences.{counting}
use Rattle.steps430.proofs.Finding.{DoesWhere, FindsOne, FindsTwo, FindsTop}
use Rattle.steps430.proofs.Fitting.{follows_weaker}
use Rattle.steps430.proofs.Helped.{helped_does}
use Rattle.steps430.proofs.Limits.{brought, scaling_few, counting_few, plain_fits, helped_is, helped_fits, order_fits, beside_plain_fits, beside_helped_fits, beside_order_fits, branch_fits, branch_plain_fits, branch_helped_fits, branch_order_fits, update_local_fits, update_local_helped_fits, update_local_plus_fits, update_fits, update_helped_fits, update_plus_fits}
use Rattle.steps430.proofs.MarkedUpdates.{update_does}
use Rattle.steps430.proofs.Minus.{difference_does, beside_difference_does}
use Rattle.steps430.proofs.Orders.{less_does, greater_does, less_equal_does, greater_equal_does, equal_does, not_equal_does}
use Rattle.steps430.proofs.Plus.{plus_does}
use Rattle.steps430.proofs.Products.{IsHelped, Times, Signed_quotient, Quotient, Signed_remainder, Remainder, Left, Signed_right, Right}
use Rattle.steps430.proofs.Scaled.{scaling}
use Rattle.steps430.proofs.Sums.{IsPlain, Plus, Minus, Both, Either, Any, binary_does}
use Rattle.steps430.proofs.Truths.{branch_value_does}
use Rattle.steps430.proofs.Updates.{saving, leaving, update_local_does}
use Rattle.steps430.proofs.WithinFound.{finds_one, finds_two, finds_top}

-- ---- from what a step finds to where all pointers are inside

module _ (p : Setting) where
  pub does_inside : (l : ℕ) (k : StepKind) → l ≤ most_of k → DoesStep p l k → DoesInside p (most_of k) k
  does_inside l k few h = λ f q first ts below node r t e inside s.
      follows_weaker p l (most_of k) _ t few (h f q first ts below node r t e s)

  pub one_inside : (l : ℕ) (k : StepKind) (x : Operand) → l ≤ most_of k → DoesWhere p l k (FindsOne x StaysInside)
      → DoesInside p (most_of k) k
  one_inside l k x few h = λ f q first ts below node r t e inside s.
      follows_weaker p l (most_of k) _ t few (h f q first ts below node r t e s
      (finds_one p.core r.state r.next inside.globals inside.calls first x ts inside.control.0))

  two_inside : (l : ℕ) (k : StepKind) (left right : Operand) → l ≤ most_of k
      → DoesWhere p l k (FindsTwo left right StayInside) → DoesInside p (most_of k) k
  two_inside l k left right few h = λ f q first ts below node r t e inside s.
      follows_weaker p l (most_of k) _ t few (h f q first ts below node r t e s
      (finds_two p.core r.state r.next inside.globals inside.calls first left right ts inside.control.0))

  top_inside : (l : ℕ) (k : StepKind) → l ≤ most_of k → DoesWhere p l k (FindsTop StayInside) → DoesInside p (most_of k) k
  top_inside l k few h = λ f q first ts below node r t e inside s.
      follows_weaker p l (most_of k) _ t few (h f q first ts below node r t e s
      (finds_top p.core r.state r.next inside.globals inside.calls first ts inside.control.0))

-- ---- operators

-- an operator at a type of words is one instruction, or a helper routine computes it, or it compares
data IsOperator (o : BinaryOp) (t : IntType) : Type 0 where
  Plainly : (m : TwoOp) → IsPlain o m → IsOperator o t
  Helping : (which : Helper) → IsHelped o t which → IsOperator o t
  Ordering : IsOrder o → IsOperator o t

operator_of : (o : BinaryOp) (t : IntType) → IsWide t → IsOperator o t
operator_of op.Add t wide = Plainly Add Plus
operator_of op.Sub t wide = Plainly Sub Minus
operator_of op.And t wide = Plainly And Both
operator_of op.Xor t wide = Plainly Xor Either
operator_of op.Or t wide = Plainly Bis Any
operator_of op.Mul t wide = Helping Mul16 Times
operator_of op.Shl t wide = Helping Shl Left
operator_of op.Div int.Char wide = absurd wide
operator_of op.Div int.Int wide = Helping Sdiv16 Signed_quotient
operator_of op.Div int.UInt wide = Helping Udiv16 Quotient
operator_of op.Rem int.Char wide = absurd wide
operator_of op.Rem int.Int wide = Helping Smod16 Signed_remainder
operator_of op.Rem int.UInt wide = Helping Umod16 Remainder
operator_of op.Shr int.Char wide = absurd wide
operator_of op.Shr int.Int wide = Helping Sar Signed_right
operator_of op.Shr int.UInt wide = Helping Shr Right
operator_of op.Less t wide = Ordering Below
operator_of op.Greater t wide = Ordering Above
operator_of op.LessEq t wide = Ordering NotAbove
operator_of op.GreaterEq t wide = Ordering NotBelow
operator_of op.Equal t wide = Ordering Same
operator_of op.NotEqual t wide = Ordering Other

true_false : true ≡ false → ⊥
true_false e = cc

no_order : (o : BinaryOp) → IsOrder o → is_comparison o ≡ false → ⊥
no_order o Below e = true_false e
no_order o Above e = true_false e
no_order o NotAbove e = true_false e
no_order o NotBelow e = true_false e
no_order o Same e = true_false e
no_order o Other e = true_false e

-- ---- steps

module _ (p : Setting) (lay : IsLaid p) (lie : ObjectsLie p) where
  order_does : (d : ℕ) (o : BinaryOp) (t own : IntType) (left right : Operand) → IsOrder o
      → DoesStep p 7 (step.Binary d (operation.Integers o t own) left right)
  order_does d o t own left right Below = less_does p lay d t own left right
  order_does d o t own left right Above = greater_does p lay d t own left right
  order_does d o t own left right NotAbove = less_equal_does p lay d t own left right
  order_does d o t own left right NotBelow = greater_equal_does p lay d t own left right
  order_does d o t own left right Same = equal_does p lay d t own left right
  order_does d o t own left right Other = not_equal_does p lay d t own left right

  branch_order_does : (d : ℕ) (o : BinaryOp) (t own : IntType) (left right : Operand) (of : IntType) (when : Bool) (to : ℕ)
      → IsOrder o → DoesStep p 5 (step.Branch d (test.Computed (operation.Integers o t own) left right) of when to)
  branch_order_does d o t own left right of when to Below = branch_less_does p lay d t own left right of when to
  branch_order_does d o t own left right of when to Above = branch_greater_does p lay d t own left right of when to
  branch_order_does d o t own left right of when to NotAbove = branch_less_equal_does p lay d t own left right of when to
  branch_order_does d o t own left right of when to NotBelow = branch_greater_equal_does p lay d t own left right of when to
  branch_order_does d o t own left right of when to Same = branch_equal_does p lay d t own left right of when to
  branch_order_does d o t own left right of when to Other = branch_not_equal_does p lay d t own left right of when to

  pub binary_inside : (d : ℕ) (o : Operation) (left right : Operand) → IsTypedOperation o
      → DoesInside p (most_of (step.Binary d o left right)) (step.Binary d o left right)
  binary_inside d (operation.Integers o t own) left right wide = from (operator_of o t wide)
    where
      from : IsOperator o t → DoesInside p (most_of (step.Binary d (operation.Integers o t own) left right))
          (step.Binary d (operation.Integers o t own) left right)
      from (Plainly m h) =
          does_inside p 4 (step.Binary d (operation.Integers o t own) left right) (plain_fits d o m t own left right h)
          (binary_does p lay d o m t own left right h wide)
      from (Helping which h) =
          does_inside p 404 (step.Binary d (operation.Integers o t own) left right)
          (helped_fits d o t own left right (helped_is o t which h))
          (helped_does p lay d o t own left right (helped_is o t which h) wide)
      from (Ordering h) =
          does_inside p 7 (step.Binary d (operation.Integers o t own) left right) (order_fits d o t own left right h)
          (order_does d o t own left right h)
  binary_inside d (operation.PointerPlus minus size t u swapped) left right typed =
      does_inside p (suc (suc (scaling minus size + 2)))
      (step.Binary d (operation.PointerPlus minus size t u swapped) left right)
      (let a = brought left in let b = brought right in let c = scaling_few minus size in omega arith)
      (plus_does p lay d minus size t u swapped left right)
  binary_inside d (operation.Difference size) left right typed =
      two_inside p (suc (suc (suc (counting size + 1)))) (step.Binary d (operation.Difference size) left right) left right
      (let a = brought left in let b = brought right in let c = counting_few size in omega arith)
      (difference_does p lay lie d size left right)
  binary_inside d (operation.ComparePointers o) left right typed =
      two_inside p 7 (step.Binary d (operation.ComparePointers o) left right) left right
      (let a = brought left in let b = brought right in omega arith) (compare_pointers_does p lay lie d o left right)

  pub beside_inside : (d : ℕ) (o : Operation) → IsTypedOperation o → DoesInside p (most_of (step.Beside d o)) (step.Beside d o)
  beside_inside d (operation.Integers o t own) wide = from (operator_of o t wide)
    where
      from : IsOperator o t
          → DoesInside p (most_of (step.Beside d (operation.Integers o t own))) (step.Beside d (operation.Integers o t own))
      from (Plainly m h) =
          does_inside p 4 (step.Beside d (operation.Integers o t own)) (beside_plain_fits d o m t own h)
          (beside_plain_does p lay d o m t own h wide)
      from (Helping which h) =
          does_inside p 404 (step.Beside d (operation.Integers o t own)) (beside_helped_fits d o t own (helped_is o t which h))
          (beside_helped_does p lay d o which t own h wide)
      from (Ordering h) =
          does_inside p 7 (step.Beside d (operation.Integers o t own)) (beside_order_fits d o t own h)
          (beside_compare_does p lay d o t own h)
  beside_inside d (operation.PointerPlus minus size t u swapped) typed =
      does_inside p (suc (suc (scaling minus size + 2))) (step.Beside d (operation.PointerPlus minus size t u swapped))
      (let c = scaling_few minus size in omega arith) (beside_plus_does p lay d minus size t u swapped)
  beside_inside d (operation.Difference size) typed =
      top_inside p (suc (suc (suc (counting size + 1)))) (step.Beside d (operation.Difference size))
      (let c = counting_few size in omega arith) (beside_difference_does p lay lie d size)
  beside_inside d (operation.ComparePointers o) typed =
      top_inside p 7 (step.Beside d (operation.ComparePointers o)) (omega arith) (beside_pointers_does p lay lie d o)

  pub branch_inside : (d : ℕ) (t : Test) (of : IntType) (when : Bool) (to : ℕ) → IsTypedTest t
      → DoesInside p (most_of (step.Branch d t of when to)) (step.Branch d t of when to)
  branch_inside d (test.Value x) of when to typed =
      one_inside p 4 (step.Branch d (test.Value x) of when to) x (branch_fits d x of when to)
      (branch_value_does p lay lie d x of when to)
  branch_inside d (test.Computed (operation.Integers o t own) left right) of when to wide = from (operator_of o t wide)
    where
      from : IsOperator o t
          → DoesInside p (most_of (step.Branch d (test.Computed (operation.Integers o t own) left right) of when to))
          (step.Branch d (test.Computed (operation.Integers o t own) left right) of when to)
      from (Plainly m h) =
          does_inside p 6 (step.Branch d (test.Computed (operation.Integers o t own) left right) of when to)
          (branch_plain_fits d o m t own left right of when to h)
          (branch_plain_does p lay d o m t own left right of when to h wide)
      from (Helping which h) =
          does_inside p 406 (step.Branch d (test.Computed (operation.Integers o t own) left right) of when to)
          (branch_helped_fits d o which t own left right of when to h)
          (branch_helped_does p lay d o t own left right of when to which h wide)
      from (Ordering h) =
          does_inside p 5 (step.Branch d (test.Computed (operation.Integers o t own) left right) of when to)
          (branch_order_fits d o t own left right of when to h)
          (branch_order_does d o t own left right of when to h)
  branch_inside d (test.Computed (operation.PointerPlus minus size t u swapped) left right) of when to typed =
      does_inside p (scaling minus size + 1 + 5)
      (step.Branch d (test.Computed (operation.PointerPlus minus size t u swapped) left right) of when to)
      (let a = brought left in let b = brought right in let c = scaling_few minus size in omega arith)
      (branch_plus_does p lay lie d minus size t u swapped left right of when to)
  branch_inside d (test.Computed (operation.Difference size) left right) of when to typed =
      two_inside p (counting size + 1 + 5) (step.Branch d (test.Computed (operation.Difference size) left right) of when to)
      left right (let a = brought left in let b = brought right in let c = counting_few size in omega arith)
      (branch_difference_does p lay lie d size left right of when to)
  branch_inside d (test.Computed (operation.ComparePointers o) left right) of when to typed =
      two_inside p 5 (step.Branch d (test.Computed (operation.ComparePointers o) left right) of when to) left right
      (let a = brought left in let b = brought right in omega arith)
      (branch_pointers_does p lay lie d o left right of when to)

  pub update_local_inside : (d n offset : ℕ) (k : Kind) (o : Operation) (x : Operand) (keeps : Keep) → IsTypedUpdate o
      → DoesInside p (most_of (step.UpdateLocal d n offset k o x keeps)) (step.UpdateLocal d n offset k o x keeps)
  update_local_inside d n offset k (operation.Integers o t own) x keeps typed = from (operator_of o t typed.0)
    where
      from : IsOperator o t
          → DoesInside p (most_of (step.UpdateLocal d n offset k (operation.Integers o t own) x keeps))
          (step.UpdateLocal d n offset k (operation.Integers o t own) x keeps)
      from (Plainly m h) =
          does_inside p (1 + 3 + (saving keeps + leaving keeps))
          (step.UpdateLocal d n offset k (operation.Integers o t own) x keeps) (update_local_fits d n offset k o t own x keeps)
          (update_local_does p lay 1 d n offset k (operation.Integers o t own) x keeps (plain_computes p o m t own h typed.0))
      from (Helping which h) =
          does_inside p (401 + 3 + (saving keeps + leaving keeps))
          (step.UpdateLocal d n offset k (operation.Integers o t own) x keeps)
          (update_local_helped_fits d n offset k o t own x keeps (helped_is o t which h))
          (update_local_does p lay 401 d n offset k (operation.Integers o t own) x keeps
          (helped_computes p lay o which t own h typed.0))
      from (Ordering h) = absurd (no_order o h typed.1)
  update_local_inside d n offset k (operation.PointerPlus minus size t u swapped) x keeps typed =
      does_inside p (scaling minus size + 1 + 3 + (saving keeps + leaving keeps))
      (step.UpdateLocal d n offset k (operation.PointerPlus minus size t u swapped) x keeps)
      (update_local_plus_fits d n offset k minus size t u swapped x keeps)
      (update_local_does p lay (scaling minus size + 1) d n offset k (operation.PointerPlus minus size t u swapped) x keeps
      (plus_computes p lay minus size t u swapped))
  update_local_inside d n offset k (operation.Difference size) x keeps typed = absurd typed
  update_local_inside d n offset k (operation.ComparePointers o) x keeps typed = absurd typed

  pub update_inside : (d : ℕ) (to : Target) (k : Kind) (o : Operation) (x : Operand) (keeps : Keep) → IsTypedUpdate o
      → DoesInside p (most_of (step.Update d to k o x keeps)) (step.Update d to k o x keeps)
  update_inside d to k (operation.Integers o t own) x keeps typed = from (operator_of o t typed.0)
    where
      from : IsOperator o t
          → DoesInside p (most_of (step.Update d to k (operation.Integers o t own) x keeps))
          (step.Update d to k (operation.Integers o t own) x keeps)
      from (Plainly m h) =
          does_inside p (1 + 6 + saving keeps + suc (leaving keeps)) (step.Update d to k (operation.Integers o t own) x keeps)
          (update_fits d to k o t own x keeps)
          (update_does p lay 1 d to k (operation.Integers o t own) x keeps (plain_computes p o m t own h typed.0))
      from (Helping which h) =
          does_inside p (401 + 6 + saving keeps + suc (leaving keeps)) (step.Update d to k (operation.Integers o t own) x keeps)
          (update_helped_fits d to k o t own x keeps (helped_is o t which h))
          (update_does p lay 401 d to k (operation.Integers o t own) x keeps (helped_computes p lay o which t own h typed.0))
      from (Ordering h) = absurd (no_order o h typed.1)
  update_inside d to k (operation.PointerPlus minus size t u swapped) x keeps typed =
      does_inside p (scaling minus size + 1 + 6 + saving keeps + suc (leaving keeps))
      (step.Update d to k (operation.PointerPlus minus size t u swapped) x keeps)
      (update_plus_fits d to k minus size t u swapped x keeps)
      (update_does p lay (scaling minus size + 1) d to k (operation.PointerPlus minus size t u swapped) x keeps
      (plus_computes p lay minus size t u swapped))
  update_inside d to k (operation.Difference size) x keeps typed = absurd typed
  update_inside d to k (operation.ComparePointers o) x keeps typed = absurd typed
