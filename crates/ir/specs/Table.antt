-- What each step costs and does to the stack: its bytes of code at most, the temporaries that it takes and gives, and
-- whether it calls a helper routine. The board's table of steps says how the bytes come about.
use Rattle.std.specs.Prelude.{ℕ, ◌+◌, ◌*◌, max, nat_eq, ℤ, pos, negsuc, Bool, true, false, ◌||◌, not, if◌then◌else◌}
use Rattle.base16.specs.declared.image.Kind.{Kind}
use Rattle.base16.specs.declared.image.Kind.TheVariants as kind
use Rattle.base16.specs.declared.integer.IntType.{IntType}
use Rattle.base16.specs.declared.integer.IntType.TheVariants as int
use Rattle.base16.specs.declared.operator.BinaryOp.{BinaryOp}
use Rattle.base16.specs.declared.operator.BinaryOp.TheVariants as op
use Rattle.base16.specs.declared.operator.UnaryOp.{UnaryOp}
use Rattle.base16.specs.declared.operator.UnaryOp.TheVariants as un
use Rattle.ir.specs.declared.form.Base.{Base}
use Rattle.ir.specs.declared.form.Base.TheVariants as base
use Rattle.ir.specs.declared.form.Operand.{Operand}
use Rattle.ir.specs.declared.form.Operand.TheVariants as operand
use Rattle.ir.specs.declared.form.Target.{Target}
use Rattle.ir.specs.declared.form.Target.TheVariants as target
use Rattle.ir.specs.declared.form.Operation.{Operation}
use Rattle.ir.specs.declared.form.Operation.TheVariants as operation
use Rattle.ir.specs.declared.form.Test.{Test}
use Rattle.ir.specs.declared.form.Test.TheVariants as test
use Rattle.ir.specs.declared.form.Keep.{Keep}
use Rattle.ir.specs.declared.form.Keep.TheVariants as keep
use Rattle.ir.specs.declared.form.StepKind.{StepKind}
use Rattle.ir.specs.declared.form.StepKind.TheVariants as step

-- ---- kinds of operators

abbrev pub is_comparison : BinaryOp → Bool
is_comparison op.Less = true
is_comparison op.Greater = true
is_comparison op.LessEq = true
is_comparison op.GreaterEq = true
is_comparison op.Equal = true
is_comparison op.NotEqual = true
is_comparison _ = false

-- the operators that a helper routine computes
abbrev pub is_helped : BinaryOp → Bool
is_helped op.Mul = true
is_helped op.Div = true
is_helped op.Rem = true
is_helped op.Shl = true
is_helped op.Shr = true
is_helped _ = false

-- sizes of elements with which a number is multiplied without a helper routine
abbrev pub is_short : ℕ → Bool
is_short size = nat_eq size 1 || nat_eq size 2

-- ---- bytes of code

-- an immediate that the core generates takes no word of its own
abbrev pub is_generated : ℤ → Bool
is_generated (pos n) = nat_eq n 0 || nat_eq n 1 || nat_eq n 2 || nat_eq n 4 || nat_eq n 8
is_generated (negsuc n) = nat_eq n 0

-- an operand is brought into a register
abbrev pub bring : Operand → ℕ
bring (operand.Constant n) = if is_generated n then 2 else 4
bring operand.Null = 2
bring _ = 4

-- an operand becomes a temporary; the topmost temporary is one already
abbrev pub place : Operand → ℕ
place operand.Temporary = 0
place x = bring x + 4

-- the address of a known scalar is brought into a register
abbrev pub address_bytes : Base → ℕ
address_bytes (base.Local n) = 6
address_bytes (base.Global n) = 4

abbrev pub target_bytes : Target → ℕ
target_bytes target.Temporary = 4
target_bytes (target.Known of offset) = address_bytes of

-- what is computed of two registers comes into one of them
abbrev pub operator_bytes : BinaryOp → ℕ
operator_bytes o = if is_comparison o then 8 else (if is_helped o then 4 else 2)

abbrev pub operation_bytes : Operation → ℕ
operation_bytes (operation.Integers o t own) = operator_bytes o
operation_bytes (operation.PointerPlus minus size left right swapped) = 10
operation_bytes (operation.Difference size) = 10
operation_bytes (operation.ComparePointers o) = 8

abbrev pub unary_bytes : UnaryOp → ℕ
unary_bytes un.Plus = 0
unary_bytes un.Minus = 4
unary_bytes un.Complement = 2
unary_bytes un.Not = 8

abbrev pub convert_bytes : IntType → Operand → ℕ
convert_bytes int.Char x = bring x + 6
convert_bytes _ x = place x

abbrev pub unary_step : UnaryOp → Operand → ℕ
unary_step un.Plus x = place x
unary_step o x = bring x + unary_bytes o + 4

-- what a register held becomes what a scalar of a kind holds
abbrev pub narrow : Kind → ℕ
narrow kind.Char = 2
narrow _ = 0

-- what a store leaves becomes a temporary
abbrev pub keep_bytes : Kind → Keep → ℕ
keep_bytes k keep.Nothing = 0
keep_bytes k keep.Stored = narrow k + 4
keep_bytes k keep.Before = 8

-- a test sets the flags
abbrev pub flag_bytes : Operation → ℕ
flag_bytes (operation.Integers o t own) = if is_comparison o then 2 else operator_bytes o + 2
flag_bytes (operation.ComparePointers o) = 2
flag_bytes _ = 12

abbrev pub test_bytes : Test → ℕ
test_bytes (test.Value x) = bring x + 2
test_bytes (test.Computed o left right) = bring left + bring right + flag_bytes o

-- the most bytes of code that a step takes
abbrev pub size : StepKind → ℕ
size (step.Put d x) = place x
size (step.Nothing d) = 0
size (step.Drop d) = 0
size (step.Beside d o) = bring operand.Temporary + bring operand.Temporary + operation_bytes o + 4
size (step.Convert d to x) = convert_bytes to x
size (step.Unary d o at x) = unary_step o x
size (step.Binary d o left right) = bring left + bring right + operation_bytes o + 4
size (step.Truth d of x) = bring x + 12
size (step.Address d of offset) = address_bytes of + 4
size (step.Follow d x) = place x
size (step.Member d offset) = 12
size (step.Element d bytes own x) = bring x + 18
size (step.Sum d bytes left_type right_type swapped left right) = bring left + bring right + 14
size (step.PointTo d) = 0
size (step.Load d k) = 10
size (step.Peek d k) = 10
size (step.Store d to k x keeps) = target_bytes to + bring x + 4 + keep_bytes k keeps
size (step.StoreLocal d n offset k x keeps) = bring x + 4 + keep_bytes k keeps
size (step.Update d to k o x keeps) = target_bytes to + target_bytes to + bring x + operation_bytes o + 8 + keep_bytes k keeps
size (step.UpdateLocal d n offset k o x keeps) = bring x + operation_bytes o + 10 + keep_bytes k keeps
size (step.Undefine n) = 0
size (step.Jump to) = 4
size (step.Branch d t of when to) = test_bytes t + 6
size (step.Case d of n to) = 14
size (step.Call d g n) = 10
size (step.Result d keeps) = if keeps then 4 else 0
size (step.Enter n) = 8 + 6 * n
size (step.Return d x) = bring x + 8
size step.ReturnNothing = 8
size step.Turn = 4
size (step.Sense d channel) = 12
size (step.Emit d x) = bring x + 4
size (step.Checkpoint d) = 4
size (step.Stamp d n to k x) = target_bytes to + bring x + 18
size (step.Timely d n from k limit to) = target_bytes from + 34
size (step.Open t to) = 20
size (step.Check t to) = 20
size (step.Close t to) = 20

-- ---- helper routines

abbrev pub operation_helped : Operation → Bool
operation_helped (operation.Integers o t own) = is_helped o
operation_helped (operation.PointerPlus minus bytes left right swapped) = not (is_short bytes)
operation_helped (operation.Difference bytes) = not (nat_eq bytes 1)
operation_helped (operation.ComparePointers o) = false

abbrev pub test_helped : Test → Bool
test_helped (test.Value x) = false
test_helped (test.Computed o left right) = operation_helped o

-- whether a step calls a helper routine; it never calls two
abbrev pub uses_helper : StepKind → Bool
uses_helper (step.Binary d o left right) = operation_helped o
uses_helper (step.Beside d o) = operation_helped o
uses_helper (step.Element d bytes own x) = not (is_short bytes)
uses_helper (step.Sum d bytes left_type right_type swapped left right) = not (is_short bytes)
uses_helper (step.Update d to k o x keeps) = operation_helped o
uses_helper (step.UpdateLocal d n offset k o x keeps) = operation_helped o
uses_helper (step.Branch d t of when to) = test_helped t
uses_helper _ = false

-- ---- temporaries

abbrev pub taken : Operand → ℕ
taken operand.Temporary = 1
taken _ = 0

abbrev pub target_taken : Target → ℕ
target_taken target.Temporary = 1
target_taken _ = 0

abbrev pub before_taken : Keep → ℕ
before_taken keep.Before = 1
before_taken _ = 0

abbrev pub left_by : Keep → ℕ
left_by keep.Nothing = 0
left_by _ = 1

abbrev pub test_taken : Test → ℕ
test_taken (test.Value x) = taken x
test_taken (test.Computed o left right) = taken left + taken right

-- how many temporaries stand below those that a step takes or gives
abbrev pub depth_of : StepKind → ℕ
depth_of (step.Put d x) = d
depth_of (step.Nothing d) = d
depth_of (step.Drop d) = d
depth_of (step.Beside d o) = d
depth_of (step.Convert d to x) = d
depth_of (step.Unary d o at x) = d
depth_of (step.Binary d o left right) = d
depth_of (step.Truth d of x) = d
depth_of (step.Address d of offset) = d
depth_of (step.Follow d x) = d
depth_of (step.Member d offset) = d
depth_of (step.Element d bytes own x) = d
depth_of (step.Sum d bytes left_type right_type swapped left right) = d
depth_of (step.PointTo d) = d
depth_of (step.Load d k) = d
depth_of (step.Peek d k) = d
depth_of (step.Store d to k x keeps) = d
depth_of (step.StoreLocal d n offset k x keeps) = d
depth_of (step.Update d to k o x keeps) = d
depth_of (step.UpdateLocal d n offset k o x keeps) = d
depth_of (step.Branch d t of when to) = d
depth_of (step.Case d of n to) = d
depth_of (step.Call d g n) = d
depth_of (step.Result d keeps) = d
depth_of (step.Return d x) = d
depth_of (step.Sense d channel) = d
depth_of (step.Emit d x) = d
depth_of (step.Checkpoint d) = d
depth_of (step.Stamp d n to k x) = d
depth_of (step.Timely d n from k limit to) = d
depth_of _ = 0

-- how many temporaries a step takes
abbrev pub takes : StepKind → ℕ
takes (step.Put d x) = taken x
takes (step.Drop d) = 1
takes (step.Beside d o) = 2
takes (step.Convert d to x) = taken x
takes (step.Unary d o at x) = taken x
takes (step.Binary d o left right) = taken left + taken right
takes (step.Truth d of x) = taken x
takes (step.Follow d x) = taken x
takes (step.Member d offset) = 1
takes (step.Element d bytes own x) = 1 + taken x
takes (step.Sum d bytes left_type right_type swapped left right) = taken left + taken right
takes (step.PointTo d) = 1
takes (step.Load d k) = 1
takes (step.Peek d k) = 1
takes (step.Store d to k x keeps) = target_taken to + before_taken keeps + taken x
takes (step.StoreLocal d n offset k x keeps) = before_taken keeps + taken x
takes (step.Update d to k o x keeps) = target_taken to + taken x
takes (step.UpdateLocal d n offset k o x keeps) = taken x
takes (step.Branch d t of when to) = test_taken t
takes (step.Case d of n to) = 1
takes (step.Call d g n) = n
takes (step.Return d x) = taken x
takes (step.Emit d x) = taken x
takes (step.Stamp d n to k x) = target_taken to + taken x
takes (step.Timely d n from k limit to) = target_taken from
takes _ = 0

-- how many temporaries a step gives, where the run goes on behind it
abbrev pub gives : StepKind → ℕ
gives (step.Put d x) = 1
gives (step.Nothing d) = 1
gives (step.Beside d o) = 2
gives (step.Convert d to x) = 1
gives (step.Unary d o at x) = 1
gives (step.Binary d o left right) = 1
gives (step.Truth d of x) = 1
gives (step.Address d of offset) = 1
gives (step.Follow d x) = 1
gives (step.Member d offset) = 1
gives (step.Element d bytes own x) = 1
gives (step.Sum d bytes left_type right_type swapped left right) = 1
gives (step.PointTo d) = 1
gives (step.Load d k) = 1
gives (step.Peek d k) = 2
gives (step.Store d to k x keeps) = left_by keeps
gives (step.StoreLocal d n offset k x keeps) = left_by keeps
gives (step.Update d to k o x keeps) = left_by keeps
gives (step.UpdateLocal d n offset k o x keeps) = left_by keeps
gives (step.Case d of n to) = 1
gives (step.Result d keeps) = if keeps then 1 else 0
gives (step.Sense d channel) = 1
gives (step.Emit d x) = 1
gives (step.Checkpoint d) = 1
gives _ = 0

-- the temporaries of a call in use at a step, before it or behind it
abbrev pub reach : StepKind → ℕ
reach k = depth_of k + max (takes k) (gives k)
