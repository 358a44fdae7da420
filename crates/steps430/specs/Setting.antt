-- A form with all that its runs rest on: its program, where its code stands, and the readings.
use Rattle.std.specs.Prelude.{◌≡◌, ℕ, ◌+◌, ◌*◌, ◌%◌, ◌<◌, ◌≤◌, ◌≢◌, ◌⊎◌, List, [], ◌∷◌, ◌++◌, length, Option, Some, None, slice_get, Ok}
use Rattle.base16.specs.Board.{stack_start, stack_end, data_start, data_end, code_start, code_end}
use Rattle.base16.specs.declared.image.Kind.{Kind}
use Rattle.base16.specs.declared.reading.Reading.{Reading}
use Rattle.c_run.specs.Actions.{kept}
use Rattle.c_values.specs.Objects.{accessed}
use Rattle.c_values.specs.Pointers.{at}
use Rattle.c_values.specs.declared.state.Object.{Object}
use Rattle.c_values.specs.declared.state.Saved.{Saved}
use Rattle.c_values.specs.declared.state.State.{State}
use Rattle.c_values.specs.declared.value.Value.{Value}
use Rattle.core_tree.specs.Data.{global_address, stamp_address}
use Rattle.core_tree.specs.declared.program.Core.{Core}
use Rattle.isa430.specs.declared.instr.Instr.{Instr}
use Rattle.isa430.specs.Table.{size_of}
use Rattle.run430.specs.Code.{Placed}
use Rattle.ir.specs.declared.form.Ir.{Ir}
use Rattle.ir.specs.declared.form.IrFunction.{IrFunction}
use Rattle.ir.specs.declared.form.Step.{Step}
use Rattle.ir.specs.declared.form.StepKind.{StepKind}
use Rattle.ir.specs.declared.form.Base.{Base}
use Rattle.ir.specs.declared.form.Base.TheVariants as base
use Rattle.ir.specs.declared.form.Operand.{Operand}
use Rattle.ir.specs.declared.form.Operand.TheVariants as operand
use Rattle.ir.specs.declared.form.Target.{Target}
use Rattle.ir.specs.declared.form.Target.TheVariants as target
use Rattle.ir.specs.declared.form.Test.{Test}
use Rattle.ir.specs.declared.form.Test.TheVariants as test
use Rattle.core_tree.specs.LawfulCore.{Every}
use Rattle.ir.specs.declared.form.StepKind.TheVariants as step
use Rattle.ir.specs.Table.{reach}
use Rattle.matching.specs.Covering.{Apart}
use Rattle.matching.specs.Laid.{IsMade}
use Rattle.matching.specs.Matches.{offset_in, placed, address_of}
use Rattle.select430.specs.Frames.{temporaries_at, address_or, offset_or}
use Rattle.select430.specs.Parts.{Addresses, parts_code}
use Rattle.select430.specs.Code.{code_of_step}
use Rattle.select430.specs.declared.part.Part.{Part}
use Rattle.select430.specs.declared.part.Part.TheVariants.{Helps}
use Rattle.steps430.specs.Routines.{HasRoutine}

-- ---- functions

abbrev pub no_function : IrFunction
no_function = record { frame = 0; params = 0; locals = []; steps = [] }

abbrev pub or_none : Option IrFunction → IrFunction
or_none None = no_function
or_none (Some fn) = fn

-- a function of a form by its number, and one without steps where there is none
abbrev pub function_at : Ir → ℕ → IrFunction
function_at ir g = or_none (slice_get ir.functions g)

-- ---- code

abbrev pub code_bytes : List Instr → ℕ
code_bytes [] = 0
code_bytes (i ∷ more) = size_of i + code_bytes more

-- The program and its form; the words of the code and the addresses between which they stand; what labels denote, for the
-- steps of each function; and the readings that a run may take.
pub record Setting : Type 0 where
  pub core : Core
  pub ir : Ir
  pub code : ℕ → ℕ
  pub low : ℕ
  pub high : ℕ
  pub addresses : ℕ → Addresses
  pub readings : List Reading

-- the function of a number
abbrev pub function_of : Setting → ℕ → IrFunction
function_of p g = function_at p.ir g

-- the address of a step
abbrev pub step_at : Setting → (g q : ℕ) → ℕ
step_at p g q = (p.addresses g).step q

-- the instructions of a step in a function
abbrev pub step_code : Setting → (g : ℕ) → StepKind → List Instr
step_code p g k = parts_code (p.addresses g) (code_of_step p.ir (function_of p g) k)

-- behind a jump no step follows, and neither behind a return
abbrev pub Falls : StepKind → Type 0
Falls (step.Jump to) = ⊥
Falls (step.Return d x) = ⊥
Falls step.ReturnNothing = ⊥
Falls k = Unit {0}

-- a function's frame: locals, then the temporaries, as many as its steps use
pub record FrameFits (fn : IrFunction) : Type 0 where
  pub even : fn.frame % 2 ≡ 0
  pub least : 4 ≤ fn.frame
  pub most : fn.frame ≤ 240
  pub objects : temporaries_at fn ≤ fn.frame

-- the scalars that a step names
abbrev pub operand_bases : Operand → List Base
operand_bases (operand.Scalar of offset k) = of ∷ []
operand_bases x = []

abbrev pub target_bases : Target → List Base
target_bases target.Temporary = []
target_bases (target.Known of offset) = of ∷ []

abbrev pub test_bases : Test → List Base
test_bases (test.Value x) = operand_bases x
test_bases (test.Computed o left right) = operand_bases left ++ operand_bases right

abbrev pub bases_of : StepKind → List Base
bases_of (step.Put d x) = operand_bases x
bases_of (step.Convert d to x) = operand_bases x
bases_of (step.Unary d o t x) = operand_bases x
bases_of (step.Binary d o left right) = operand_bases left ++ operand_bases right
bases_of (step.Truth d of x) = operand_bases x
bases_of (step.Address d of offset) = of ∷ []
bases_of (step.Follow d x) = operand_bases x
bases_of (step.Element d size own x) = operand_bases x
bases_of (step.Sum d size left_type right_type swapped left right) = operand_bases left ++ operand_bases right
bases_of (step.Store d to k x keeps) = target_bases to ++ operand_bases x
bases_of (step.StoreLocal d n offset k x keeps) = base.Local n ∷ operand_bases x
bases_of (step.Update d to k o x keeps) = target_bases to ++ operand_bases x
bases_of (step.UpdateLocal d n offset k o x keeps) = base.Local n ∷ operand_bases x
bases_of (step.Branch d t of when to) = test_bases t
bases_of (step.Return d x) = operand_bases x
bases_of (step.Emit d x) = operand_bases x
bases_of (step.Stamp d n to k x) = target_bases to ++ operand_bases x
bases_of (step.Timely d n from k limit to) = target_bases from
bases_of k = []

-- a function has these locals, and the program these variables
abbrev pub IsNamed : Core → IrFunction → Base → Type 0
IsNamed core fn (base.Local n) = n < length fn.locals
IsNamed core fn (base.Global n) = n < length core.globals

-- the helper routine that a part calls stands where it is called
abbrev pub HasItsRoutine : Setting → (g : ℕ) → Part → Type 0
HasItsRoutine p g (Helps which) = HasRoutine p.code p.low p.high ((p.addresses g).helper which) which
HasItsRoutine p g part = Unit {0}

-- a step stands at its place, and its temporaries are in the frame
pub record StepStands (p : Setting) (g q : ℕ) (s : Step) : Type 0 where
  pub code : Placed p.code p.low p.high (step_at p g q) (step_code p g s.kind)
  pub next : Falls s.kind → step_at p g (q + 1) ≡ step_at p g q + code_bytes (step_code p g s.kind)
  pub room : temporaries_at (function_of p g) + 2 * reach s.kind ≤ (function_of p g).frame
  pub named : Every (IsNamed p.core (function_of p g)) (bases_of s.kind)
  pub helpers : Every (HasItsRoutine p g) (code_of_step p.ir (function_of p g) s.kind)

-- ---- objects

-- objects have numbers one behind the other
abbrev pub NumberedFrom : ℕ → List Object → Type 0
NumberedFrom n [] = Unit {0}
NumberedFrom n (o ∷ os) = (o.number ≡ n) × NumberedFrom (n + 1) os

-- An object has an address, and no other scalar stands where the one at an offset of it does, nor a stamp. It lies in the
-- data or in the stack.
pub record StandsAlone (core : Core) (s : State) (n offset : ℕ) (k : Kind) : Type 0 where
  pub address : ℕ
  pub is : address_of (placed core (kept s)) n ≡ Some address
  pub apart : Every (Apart n address offset k) (placed core (kept s))
  pub stamps : (m : ℕ) → (stamp_address core m ≢ address + offset) × (stamp_address core m + 2 ≢ address + offset)
  pub site : ((data_start ≤ address) × (address + offset < data_end)) ⊎ ((stack_start ≤ address) × (address + offset < stack_end))

-- The form is laid out as the program says, and its code stands.
pub record IsLaid (p : Setting) : Type 0 where
  pub low : code_start ≤ p.low
  pub high : p.high ≤ code_end
  pub steps : (g q : ℕ) (s : Step) → slice_get (function_of p g).steps q ≡ Some s → StepStands p g q s
  pub first : (g h : ℕ) → (p.addresses h).function g ≡ step_at p g 0
  pub below : (g q : ℕ) → step_at p g q < 65280
  pub frames : (g : ℕ) (fn : IrFunction) → slice_get p.ir.functions g ≡ Some fn → FrameFits fn
  -- variables and locals have the addresses that the program gives them
  pub globals : (n : ℕ) → n < length p.core.globals → address_or (slice_get p.ir.globals n) ≡ global_address p.core n
  pub locals : (g n : ℕ) → n < length (function_of p g).locals
      → offset_or (slice_get (function_of p g).locals n) ≡ offset_in p.core.structs (slice_get p.core.functions g) n
  -- variables are numbered from 0 on, and a scalar that is accessed stands alone
  pub numbered : (next : ℕ) (s : Saved) → IsMade p.core next s
      → NumberedFrom 0 s.globals × (length s.globals ≡ length p.core.globals)
  -- the number of an object tells its address
  pub found : (next : ℕ) (s : Saved) → IsMade p.core next s
      → Every (λ q. address_of (placed p.core s) q.object.number ≡ Some q.address) (placed p.core s)
  pub alone : (next : ℕ) (s : State) (n offset : ℕ) (k : Kind) (v : Value) → IsMade p.core next (kept s)
      → accessed s (at n offset) k ≡ Ok v → StandsAlone p.core s n offset k
