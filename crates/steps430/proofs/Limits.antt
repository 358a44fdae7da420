-- Numbers of instructions that fit the limits of steps.
use Rattle.std.proofs.Common.{◌≡◌, ℕ, suc, ◌+◌, ◌*◌, ◌/◌, ◌≤◌, sym, subst, refl, arith, ℤ, Bool, true, false, not, Option, if◌then◌else◌}
use Rattle.std.specs.Prelude.{nat_eq}
use Rattle.base16.specs.declared.image.Kind.{Kind}
use Rattle.base16.specs.declared.integer.IntType.{IntType}
use Rattle.base16.specs.declared.operator.BinaryOp.{BinaryOp}
use Rattle.isa430.specs.declared.instr.TwoOp.{TwoOp}
use Rattle.rt430.specs.declared.words.Helper.{Helper}
use Rattle.ir.specs.declared.form.Base.{Base}
use Rattle.ir.specs.declared.form.Base.TheVariants as base
use Rattle.ir.specs.declared.form.Keep.{Keep}
use Rattle.ir.specs.declared.form.Keep.TheVariants as keeping
use Rattle.ir.specs.declared.form.Operand.{Operand}
use Rattle.ir.specs.declared.form.Operand.TheVariants as operand
use Rattle.ir.specs.declared.form.Operation.TheVariants as operation
use Rattle.ir.specs.declared.form.StepKind.TheVariants as step
use Rattle.ir.specs.declared.form.Target.{Target}
use Rattle.ir.specs.declared.form.Target.TheVariants as target
use Rattle.ir.specs.declared.form.Test.TheVariants as test
use Rattle.ir.specs.Table.{bring, place, is_generated, is_helped, is_short, operator_bytes, keep_bytes, target_bytes}
use Rattle.steps430.specs.Whole.{most_of}
use Rattle.steps430.proofs.BesidesPlain.{IsOrder, Below, Above, NotAbove, NotBelow, Same, Other}
use Rattle.steps430.proofs.Differences.{counting}
use Rattle.steps430.proofs.Plain.{placing}
use Rattle.steps430.proofs.Products.{IsHelped, Times, Signed_quotient, Quotient, Signed_remainder, Remainder, Left, Signed_right, Right}
use Rattle.steps430.proofs.Scaled.{scaling}
use Rattle.steps430.proofs.Stores.{keeping_few}
use Rattle.steps430.proofs.Sums.{IsPlain, Plus, Minus, Both, Either, Any}
use Rattle.steps430.proofs.Updates.{saving, leaving}

-- an operand takes a word at least
pub brought : (x : Operand) → 2 ≤ bring x
brought operand.Temporary = omega arith
brought operand.Null = omega arith
brought (operand.Scalar of offset k) = omega arith
brought (operand.Constant n) = from (is_generated n)
  where
    from : (b : Bool) → 2 ≤ (if b then 2 else 4)
    from true = omega arith
    from false = omega arith

-- an operand that is put on the stack
pub placing_few : (x : Operand) → 2 * placing x ≤ place x
placing_few operand.Temporary = omega arith
placing_few operand.Null = omega arith
placing_few (operand.Scalar of offset k) = omega arith
placing_few (operand.Constant n) = let b = brought (operand.Constant n) in omega arith

-- what a store leaves
pub keeping_enough : (k : Kind) (keeps : Keep) → 2 * keeping_few keeps ≤ keep_bytes k keeps
keeping_enough k keeping.Nothing = omega arith
keeping_enough k keeping.Stored = omega arith
keeping_enough k keeping.Before = omega arith

pub target_least : (to : Target) → 4 ≤ target_bytes to
target_least target.Temporary = omega arith
target_least (target.Known (base.Local n) offset) = omega arith
target_least (target.Known (base.Global n) offset) = omega arith

-- a number of elements becomes bytes
bytes_few : (two minus : Bool) → (if two then 1 else 0) + (if minus then 2 else 0) ≤ 3
bytes_few true true = omega arith
bytes_few true false = omega arith
bytes_few false true = omega arith
bytes_few false false = omega arith

pub scaling_few : (minus : Bool) (size : ℕ) → scaling minus size ≤ 3 + (if not (is_short size) then 400 else 0)
scaling_few minus size = from (is_short size)
  where
    from : (b : Bool)
        → (if b then (if nat_eq size 2 then 1 else 0) + (if minus then 2 else 0) else 402) ≤ 3 + (if not b then 400 else 0)
    from true = let k = bytes_few (nat_eq size 2) minus in omega arith
    from false = omega arith

pub counting_few : (size : ℕ) → counting size ≤ 2 + (if not (nat_eq size 1) then 400 else 0)
counting_few size = from (nat_eq size 1)
  where
    from : (b : Bool) → (if b then 0 else 402) ≤ 2 + (if not b then 400 else 0)
    from true = omega arith
    from false = omega arith

-- ---- steps

pub jump_fits : (to : ℕ) → 1 ≤ most_of (step.Jump to)
jump_fits to = omega arith

pub branch_fits : (d : ℕ) (x : Operand) (of : IntType) (when : Bool) (to : ℕ)
    → 4 ≤ most_of (step.Branch d (test.Value x) of when to)
branch_fits d x of when to = let b = brought x in omega arith

pub case_fits : (d : ℕ) (of : IntType) (n : ℤ) (to : ℕ) → 4 ≤ most_of (step.Case d of n to)
case_fits d of n to = omega arith

pub truth_fits : (d : ℕ) (of : IntType) (x : Operand) → 6 ≤ most_of (step.Truth d of x)
truth_fits d of x = let b = brought x in omega arith

pub address_fits : (d : ℕ) (of : Base) (offset : ℕ) → 3 ≤ most_of (step.Address d of offset)
address_fits d (base.Local n) offset = omega arith
address_fits d (base.Global n) offset = omega arith

pub member_fits : (d offset : ℕ) → 3 ≤ most_of (step.Member d offset)
member_fits d offset = omega arith

pub load_fits : (d : ℕ) (k : Kind) → 3 ≤ most_of (step.Load d k)
load_fits d k = omega arith

pub peek_fits : (d : ℕ) (k : Kind) → 3 ≤ most_of (step.Peek d k)
peek_fits d k = omega arith

pub call_fits : (d g n : ℕ) → 3 ≤ most_of (step.Call d g n)
call_fits d g n = omega arith

pub enter_fits : (n : ℕ) → 2 + n ≤ most_of (step.Enter n)
enter_fits n = omega arith

pub return_fits : (d : ℕ) (x : Operand) → 3 ≤ most_of (step.Return d x)
return_fits d x = let b = brought x in omega arith

pub end_fits : 2 ≤ most_of step.ReturnNothing
end_fits = omega arith

pub turn_fits : 1 ≤ most_of step.Turn
turn_fits = omega arith

pub sense_fits : (d channel : ℕ) → 3 ≤ most_of (step.Sense d channel)
sense_fits d channel = omega arith

pub emit_fits : (d : ℕ) (x : Operand) → 2 ≤ most_of (step.Emit d x)
emit_fits d x = let b = brought x in omega arith

pub checkpoint_fits : (d : ℕ) → 1 ≤ most_of (step.Checkpoint d)
checkpoint_fits d = omega arith

-- ---- steps of operations

pub plain_fits : (d : ℕ) (o : BinaryOp) (i : TwoOp) (t own : IntType) (left right : Operand) → IsPlain o i
    → 4 ≤ most_of (step.Binary d (operation.Integers o t own) left right)
plain_fits d o i t own left right Plus = let a = brought left in let b = brought right in omega arith
plain_fits d o i t own left right Minus = let a = brought left in let b = brought right in omega arith
plain_fits d o i t own left right Both = let a = brought left in let b = brought right in omega arith
plain_fits d o i t own left right Either = let a = brought left in let b = brought right in omega arith
plain_fits d o i t own left right Any = let a = brought left in let b = brought right in omega arith

pub helped_is : (o : BinaryOp) (t : IntType) (which : Helper) → IsHelped o t which → is_helped o ≡ true
helped_is o t which Times = refl
helped_is o t which Signed_quotient = refl
helped_is o t which Quotient = refl
helped_is o t which Signed_remainder = refl
helped_is o t which Remainder = refl
helped_is o t which Left = refl
helped_is o t which Signed_right = refl
helped_is o t which Right = refl

pub helped_fits : (d : ℕ) (o : BinaryOp) (t own : IntType) (left right : Operand) → is_helped o ≡ true
    → 404 ≤ most_of (step.Binary d (operation.Integers o t own) left right)
helped_fits d o t own left right e =
    let a = brought left in let b = brought right in
    subst (λ (h : Bool). 404 ≤ (bring left + bring right + operator_bytes o + 4) / 2 + (if h then 400 else 0)) (sym e)
    (omega arith)

pub beside_helped_fits : (d : ℕ) (o : BinaryOp) (t own : IntType) → is_helped o ≡ true
    → 404 ≤ most_of (step.Beside d (operation.Integers o t own))
beside_helped_fits d o t own e =
    subst (λ (h : Bool). 404 ≤ (4 + 4 + operator_bytes o + 4) / 2 + (if h then 400 else 0)) (sym e) (omega arith)

pub branch_helped_fits : (d : ℕ) (o : BinaryOp) (which : Helper) (t own : IntType) (left right : Operand) (of : IntType)
    (when : Bool) (to : ℕ) → IsHelped o t which
    → 406 ≤ most_of (step.Branch d (test.Computed (operation.Integers o t own) left right) of when to)
branch_helped_fits d o which t own left right of when to Times =
    let a = brought left in let b = brought right in omega arith
branch_helped_fits d o which t own left right of when to Signed_quotient =
    let a = brought left in let b = brought right in omega arith
branch_helped_fits d o which t own left right of when to Quotient =
    let a = brought left in let b = brought right in omega arith
branch_helped_fits d o which t own left right of when to Signed_remainder =
    let a = brought left in let b = brought right in omega arith
branch_helped_fits d o which t own left right of when to Remainder =
    let a = brought left in let b = brought right in omega arith
branch_helped_fits d o which t own left right of when to Left =
    let a = brought left in let b = brought right in omega arith
branch_helped_fits d o which t own left right of when to Signed_right =
    let a = brought left in let b = brought right in omega arith
branch_helped_fits d o which t own left right of when to Right =
    let a = brought left in let b = brought right in omega arith

-- what an update saves and keeps
pub kept_few : (keeps : Keep) → saving keeps + leaving keeps ≤ 2
kept_few keeping.Nothing = omega arith
kept_few keeping.Stored = omega arith
kept_few keeping.Before = omega arith

pub update_local_fits : (d n offset : ℕ) (k : Kind) (o : BinaryOp) (t own : IntType) (x : Operand) (keeps : Keep)
    → 1 + 3 + (saving keeps + leaving keeps) ≤ most_of (step.UpdateLocal d n offset k (operation.Integers o t own) x keeps)
update_local_fits d n offset k o t own x keeps = let a = brought x in let b = kept_few keeps in omega arith

pub update_fits : (d : ℕ) (to : Target) (k : Kind) (o : BinaryOp) (t own : IntType) (x : Operand) (keeps : Keep)
    → 1 + 6 + saving keeps + suc (leaving keeps) ≤ most_of (step.Update d to k (operation.Integers o t own) x keeps)
update_fits d to k o t own x keeping.Nothing = let a = brought x in let c = target_least to in omega arith
update_fits d to k o t own x keeping.Stored = let a = brought x in let c = target_least to in omega arith
update_fits d to k o t own x keeping.Before = let a = brought x in let c = target_least to in omega arith

pub update_local_helped_fits : (d n offset : ℕ) (k : Kind) (o : BinaryOp) (t own : IntType) (x : Operand) (keeps : Keep)
    → is_helped o ≡ true
    → 401 + 3 + (saving keeps + leaving keeps) ≤ most_of (step.UpdateLocal d n offset k (operation.Integers o t own) x keeps)
update_local_helped_fits d n offset k o t own x keeps e =
    let a = brought x in let b = kept_few keeps in
    subst (λ (h : Bool). 401 + 3 + (saving keeps + leaving keeps)
    ≤ (bring x + operator_bytes o + 10 + keep_bytes k keeps) / 2 + (if h then 400 else 0)) (sym e) (omega arith)

pub update_helped_fits : (d : ℕ) (to : Target) (k : Kind) (o : BinaryOp) (t own : IntType) (x : Operand) (keeps : Keep)
    → is_helped o ≡ true
    → 401 + 6 + saving keeps + suc (leaving keeps) ≤ most_of (step.Update d to k (operation.Integers o t own) x keeps)
update_helped_fits d to k o t own x keeping.Nothing e =
    let a = brought x in let c = target_least to in
    subst (λ (h : Bool). 408 ≤ (target_bytes to + target_bytes to + bring x + operator_bytes o + 8 + 0) / 2
    + (if h then 400 else 0)) (sym e) (omega arith)
update_helped_fits d to k o t own x keeping.Stored e =
    let a = brought x in let c = target_least to in let b = keeping_enough k keeping.Stored in
    subst (λ (h : Bool). 410 ≤ (target_bytes to + target_bytes to + bring x + operator_bytes o + 8
    + keep_bytes k keeping.Stored) / 2 + (if h then 400 else 0)) (sym e) (omega arith)
update_helped_fits d to k o t own x keeping.Before e =
    let a = brought x in let c = target_least to in let b = keeping_enough k keeping.Before in
    subst (λ (h : Bool). 410 ≤ (target_bytes to + target_bytes to + bring x + operator_bytes o + 8
    + keep_bytes k keeping.Before) / 2 + (if h then 400 else 0)) (sym e) (omega arith)

pub update_local_plus_fits : (d n offset : ℕ) (k : Kind) (minus : Bool) (size : ℕ) (t u : Option IntType) (swapped : Bool)
    (x : Operand) (keeps : Keep) → scaling minus size + 1 + 3 + (saving keeps + leaving keeps)
    ≤ most_of (step.UpdateLocal d n offset k (operation.PointerPlus minus size t u swapped) x keeps)
update_local_plus_fits d n offset k minus size t u swapped x keeps =
    let a = brought x in let b = kept_few keeps in let c = scaling_few minus size in omega arith

pub update_plus_fits : (d : ℕ) (to : Target) (k : Kind) (minus : Bool) (size : ℕ) (t u : Option IntType) (swapped : Bool)
    (x : Operand) (keeps : Keep) → scaling minus size + 1 + 6 + saving keeps + suc (leaving keeps)
    ≤ most_of (step.Update d to k (operation.PointerPlus minus size t u swapped) x keeps)
update_plus_fits d to k minus size t u swapped x keeps =
    let a = brought x in let b = kept_few keeps in let c = scaling_few minus size in let e = target_least to in omega arith

pub branch_plain_fits : (d : ℕ) (o : BinaryOp) (m : TwoOp) (t own : IntType) (left right : Operand) (of : IntType) (when : Bool)
    (to : ℕ) → IsPlain o m → 6 ≤ most_of (step.Branch d (test.Computed (operation.Integers o t own) left right) of when to)
branch_plain_fits d o m t own left right of when to Plus = let a = brought left in let b = brought right in omega arith
branch_plain_fits d o m t own left right of when to Minus = let a = brought left in let b = brought right in omega arith
branch_plain_fits d o m t own left right of when to Both = let a = brought left in let b = brought right in omega arith
branch_plain_fits d o m t own left right of when to Either = let a = brought left in let b = brought right in omega arith
branch_plain_fits d o m t own left right of when to Any = let a = brought left in let b = brought right in omega arith

pub beside_plain_fits : (d : ℕ) (o : BinaryOp) (m : TwoOp) (t own : IntType) → IsPlain o m
    → 4 ≤ most_of (step.Beside d (operation.Integers o t own))
beside_plain_fits d o m t own Plus = omega arith
beside_plain_fits d o m t own Minus = omega arith
beside_plain_fits d o m t own Both = omega arith
beside_plain_fits d o m t own Either = omega arith
beside_plain_fits d o m t own Any = omega arith

pub beside_order_fits : (d : ℕ) (o : BinaryOp) (t own : IntType) → IsOrder o
    → 7 ≤ most_of (step.Beside d (operation.Integers o t own))
beside_order_fits d o t own Below = omega arith
beside_order_fits d o t own Above = omega arith
beside_order_fits d o t own NotAbove = omega arith
beside_order_fits d o t own NotBelow = omega arith
beside_order_fits d o t own Same = omega arith
beside_order_fits d o t own Other = omega arith

pub order_fits : (d : ℕ) (o : BinaryOp) (t own : IntType) (left right : Operand) → IsOrder o
    → 7 ≤ most_of (step.Binary d (operation.Integers o t own) left right)
order_fits d o t own left right Below = let a = brought left in let b = brought right in omega arith
order_fits d o t own left right Above = let a = brought left in let b = brought right in omega arith
order_fits d o t own left right NotAbove = let a = brought left in let b = brought right in omega arith
order_fits d o t own left right NotBelow = let a = brought left in let b = brought right in omega arith
order_fits d o t own left right Same = let a = brought left in let b = brought right in omega arith
order_fits d o t own left right Other = let a = brought left in let b = brought right in omega arith

pub branch_order_fits : (d : ℕ) (o : BinaryOp) (t own : IntType) (left right : Operand) (of : IntType) (when : Bool) (to : ℕ)
    → IsOrder o → 5 ≤ most_of (step.Branch d (test.Computed (operation.Integers o t own) left right) of when to)
branch_order_fits d o t own left right of when to Below = let a = brought left in let b = brought right in omega arith
branch_order_fits d o t own left right of when to Above = let a = brought left in let b = brought right in omega arith
branch_order_fits d o t own left right of when to NotAbove = let a = brought left in let b = brought right in omega arith
branch_order_fits d o t own left right of when to NotBelow = let a = brought left in let b = brought right in omega arith
branch_order_fits d o t own left right of when to Same = let a = brought left in let b = brought right in omega arith
branch_order_fits d o t own left right of when to Other = let a = brought left in let b = brought right in omega arith
