-- Where a run stands outside a block: registers, memory and cells. What a step comes to is said of it.
use Rattle.std.specs.Prelude.{◌≡◌, ◌≤◌, ℕ, ◌+◌, ◌*◌, ◌%◌, false, List, []}
use Rattle.base16.specs.Board.{most_frame_bytes, code_start}
use Rattle.base16.specs.declared.reading.Reading.{Reading}
use Rattle.isa430.specs.declared.instr.OneOp.TheVariants.{Call}
use Rattle.isa430.specs.declared.instr.Src.TheVariants.{Immediate}
use Rattle.isa430.specs.declared.instr.Instr.TheVariants.{One}
use Rattle.core430.specs.Registers.{set_reg}
use Rattle.core430.specs.Uses.{AreWords}
use Rattle.run430.specs.Code.{Here}
use Rattle.run430.specs.Routine.{IsKept}
use Rattle.ideal430.specs.Settled.{Bytes}
use Rattle.ideal430.specs.Ideal.{Ideal, Meter}
use Rattle.ideal430.specs.Loaded.{start_of}
use Rattle.ideal430.specs.declared.state.IdealEnd.{IdealEnd}
use Rattle.ideal430.specs.declared.state.IdealEnd.TheVariants.{Running}
use Rattle.cells430.specs.Cells.{Cells, Shape, Facts, with_outputs}
use Rattle.cells430.specs.Stretch.{outside, at, Ground, Comes, reached_regs, behind}

pub record Scene : Type 0 where
  -- the code, and where it stands
  pub code : ℕ → ℕ
  pub lo : ℕ
  pub hi : ℕ
  pub segment : ℕ
  pub sp : ℕ
  pub pointers : ℕ → ℕ
  pub cells : Cells
  pub regs : ℕ → ℕ
  pub memory : ℕ → ℕ
  pub settled : Bytes
  pub marks : ℕ
  pub left : List Reading
  pub meter : Meter

abbrev pub machine : Scene → Ideal
machine x = at x.segment x.pointers x.regs x.memory x.settled (outside x.marks x.left) x.meter

-- it is as rules ask
pub record Stands (x : Scene) : Type 0 where
  pub grounded : Ground x.lo x.hi x.segment x.sp
  pub shape : Shape x.segment x.sp x.pointers x.cells
  pub facts : Facts x.code x.lo x.hi x.cells x.memory x.settled
  pub words : AreWords x.regs
  pub stack : x.regs 1 ≡ x.sp

-- PC is at a call of this address, or of service n
abbrev pub AtCall : Scene → ℕ → Type 0
AtCall x a = Here x.code x.lo x.hi (x.regs 0) (One Call false (Immediate a))

abbrev pub AtService : Scene → ℕ → Type 0
AtService x n = AtCall x (65280 + 2 * n)

-- one step, which is a mark, comes to these registers and cells in this segment
abbrev pub Marks : Scene → (segment : ℕ) (pointers regs : ℕ → ℕ) → Cells → Type 0
Marks x segment pointers regs cells =
    Comes x.code x.lo x.hi (machine x) Running segment pointers regs (outside (x.marks + 1) x.left) cells

-- the same in the working segment
abbrev pub MarksHere : Scene → (regs : ℕ → ℕ) → Cells → Type 0
MarksHere x regs cells = Marks x x.segment x.pointers regs cells

-- the call of service n stops the run, and nothing else has changed
abbrev pub StopsAt : Scene → (n : ℕ) → IdealEnd → Type 0
StopsAt x n status =
    Comes x.code x.lo x.hi (machine x) status x.segment x.pointers (reached_regs n x.sp x.regs) (outside x.marks x.left) x.cells

-- a routine that was called has come back with this answer in R12: these registers are as they were, and all cells stand
pub record IsBack (x : Scene) (answer : ℕ) (same : List ℕ) (u : Ideal) : Type 0 where
  pub regs : ℕ → ℕ
  pub memory : ℕ → ℕ
  pub settled : Bytes
  pub meter : Meter
  pub is : u ≡ at x.segment x.pointers regs memory settled (outside x.marks x.left) meter
  pub place : regs 0 ≡ x.regs 0 + 4
  pub stack : regs 1 ≡ x.sp
  pub answers : regs 12 ≡ answer
  pub kept : IsKept same x.regs regs
  pub facts : Facts x.code x.lo x.hi x.cells memory settled
  pub words : AreWords regs

-- a frame's bytes, in R15
abbrev pub HasFrame : Scene → Type 0
HasFrame x = (x.regs 15 % 2 ≡ 0) × (4 ≤ x.regs 15) × (x.regs 15 ≤ most_frame_bytes)

-- where the frame of R15 bytes at the stack pointer ends
abbrev pub frame_end : Scene → ℕ
frame_end x = x.sp + x.regs 15

-- the registers once this return word is taken from an address
abbrev pub returned_to : Scene → (word address : ℕ) → (ℕ → ℕ)
returned_to x word address = set_reg (set_reg (behind x.regs) 0 word) 1 (address + 2)

-- the start of a loaded memory stands, with these cells and no outputs
pub record StartsAs (m : ℕ → ℕ) (readings : List Reading) (hi : ℕ) (f : Cells) : Type 0 where
  pub scene : Scene
  pub is : machine scene ≡ start_of m readings
  pub stands : Stands scene
  pub code : scene.code ≡ m
  pub low : scene.lo ≡ code_start
  pub high : scene.hi ≡ hi
  pub cells : scene.cells ≡ with_outputs [] f
