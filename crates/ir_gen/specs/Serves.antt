-- A form serves a program: its run has the same states after the same marks and the same stops, it has the program's
-- functions and variables, its steps are no longer than the cost table says, find room in the frame for what they leave, name
-- what is there and are typed, and between two marks it makes no step twice and not much in all.
use Rattle.std.specs.Prelude.{◌≡◌, ℕ, List, [], ◌++◌, length, Some, slice_get}
use Rattle.base16.specs.declared.reading.Reading.{Reading}
use Rattle.core_tree.specs.declared.program.Core.{Core}
use Rattle.core_tree.specs.declared.program.Function.{Function}
use Rattle.core_tree.specs.Heights.{frame_bytes}
use Rattle.core_tree.specs.LawfulCore.{LawfulCore}
use Rattle.c_meaning.specs.declared.outcome.CState.{CState}
use Rattle.c_meaning.specs.declared.outcome.CState.TheVariants as c
use Rattle.c_meaning.specs.After as meaning
use Rattle.ir.specs.declared.form.Ir.{Ir}
use Rattle.ir.specs.declared.form.IrFunction.{IrFunction}
use Rattle.ir.specs.declared.form.IrState.{IrState}
use Rattle.ir.specs.declared.form.IrState.TheVariants as form
use Rattle.ir.specs.Ends.{IsFine}
use Rattle.ir.specs.Machine as m
use Rattle.ir.specs.Laws.{MakesStepsOnce}
use Rattle.ir.specs.Typed.{AllTyped}
use Rattle.ir_gen.specs.Form.{locals_from, globals_from}
use Rattle.ir_gen.specs.Sizes.{FitsRows}
use Rattle.ir_gen.specs.Ranges.{HaveNodes, FitsFrame, JumpsInside}
use Rattle.ir_gen.specs.Names.{AllNamed}
use Rattle.ir_gen.specs.Plain.{IsPlain}
use Rattle.ir_gen.specs.Short.{StaysShort}

-- no rule is broken
abbrev pub IsDefined : CState → Type 0
IsDefined (c.Undefined rule node) = ⊥
IsDefined s = Unit {0}

abbrev pub as_form : CState → IrState
as_form (c.Live s) = form.Live s
as_form (c.Ended kind s) = form.Ended kind s
as_form c.NeedsReading = form.NeedsReading
as_form (c.Undefined rule node) = form.Stuck

-- after every number of marks for which no rule is broken the form's run is where the program's is
abbrev pub SameStates : Core → Ir → Type 0
SameStates core ir = (readings : List Reading) (s : ℕ) → IsDefined (meaning.after core readings s)
    → m.after ir readings s ≡ as_form (meaning.after core readings s)

-- it also stops as the program's does, with as many readings taken, wherever no rule is broken
abbrev pub SameStops : Core → Ir → Type 0
SameStops core ir = (readings : List Reading) (s : ℕ) → IsFine (meaning.stop_at core readings s)
    → m.stop_at ir readings s ≡ meaning.stop_at core readings s

-- a function of the form for a function of the program
pub record ServesFunction (core : Core) (x : Function) (fn : IrFunction) : Type 0 where
  -- it has the same frame, and in it the parameters and locals where they stand
  pub frame : fn.frame ≡ frame_bytes core.structs x
  pub params : fn.params ≡ length x.params
  pub locals : fn.locals ≡ locals_from core.structs x 0 (x.params ++ x.locals)
  -- its steps belong to nodes of the function
  pub nodes : HaveNodes x fn.steps
  -- the steps of each node fit its row of the cost table and use one helper routine at most
  pub fits : FitsRows x fn.steps
  -- its temporaries have room in the frame, and its jumps stay in it
  pub depths : FitsFrame x fn.steps
  pub jumps : JumpsInside fn.steps

pub record Serves (core : Core) (ir : Ir) : Type 0 where
  pub same : SameStates core ir
  pub stops : SameStops core ir
  -- the functions in order
  pub functions : (n : ℕ) (x : Function) → slice_get core.functions n ≡ Some x
      → (fn : IrFunction) × (slice_get ir.functions n ≡ Some fn) × ServesFunction core x fn
  pub many : length ir.functions ≡ length core.functions
  -- the run begins with `main`
  pub main : meaning.main_of core ≡ Some ir.main
  -- what the steps of a lawful program name is there
  pub names : LawfulCore core → (n : ℕ) (x : Function) (fn : IrFunction) → slice_get core.functions n ≡ Some x
      → slice_get ir.functions n ≡ Some fn → AllNamed ir fn
  -- and where no statement is annotated its steps are typed, and there is no table of a block
  pub types : LawfulCore core → IsPlain core → (n : ℕ) (x : Function) (fn : IrFunction) → slice_get core.functions n ≡ Some x
      → slice_get ir.functions n ≡ Some fn → AllTyped fn
  pub tables : IsPlain core → ir.tables ≡ []
  -- the variables where they stand
  pub globals : ir.globals ≡ globals_from core 0 core.globals
  -- between two marks no step is made twice
  pub once : (readings : List Reading) → MakesStepsOnce ir readings
  -- and of a lawful program not much is done
  pub short : LawfulCore core → (readings : List Reading) → StaysShort core ir readings
