-- The code of a form that serves a lawful program without annotated statements does each step to which a run from the start
-- comes.
use Rattle.std.proofs.Common.{◌≡◌, ℕ, ◌≤◌, arith, [], Some}
use Rattle.std.specs.Prelude.{slice_get}
use Rattle.core_tree.specs.LawfulCore.{LawfulCore}
use Rattle.core_tree.specs.declared.program.Core.{Core}
use Rattle.ir.specs.Machine.{start_run}
use Rattle.ir.specs.declared.control.Control.TheVariants.{Calling}
use Rattle.ir.specs.declared.form.Base.TheVariants as base
use Rattle.ir.specs.declared.form.Ir.{Ir}
use Rattle.ir.specs.declared.form.IrFunction.{IrFunction}
use Rattle.ir.specs.declared.form.StepKind.{StepKind}
use Rattle.ir.specs.declared.form.StepKind.TheVariants as step
use Rattle.ir_gen.specs.Names.{HasNames}
use Rattle.ir_gen.specs.Plain.{IsPlain}
use Rattle.ir_gen.specs.Serves.{Serves}
use Rattle.ir_pointers.specs.Staying.{HasPlace, AllPlaced, AllPlain, Inside}
use Rattle.ir_pointers.proofs.Steps.{stays}
use Rattle.steps430.proofs.Within.{results_within}
use Rattle.steps430.proofs.WithinAll.{steps_inside}
use Rattle.steps430.proofs.WithinCalls.{entries_inside}
use Rattle.steps430.specs.Calls.{FramesLaid}
use Rattle.steps430.specs.Lying.{ObjectsLie}
use Rattle.steps430.specs.Outside.{MeetsOutside}
use Rattle.steps430.specs.Setting.{Setting, IsLaid}
use Rattle.steps430.specs.Whole.{DoesAll}
use Rattle.follows430.proofs.Along.{along}
use Rattle.follows430.proofs.Begins.{begins_inside}
use Rattle.follows430.proofs.Follows.{follows_one}
use Rattle.follows430.proofs.Served.{served, all_typed}

place_named : (ir : Ir) (fn : IrFunction) (k : StepKind) → HasNames ir fn k → HasPlace ir fn k
place_named ir fn (step.Address d (base.Local n) offset) h = h
place_named ir fn (step.Address d (base.Global n) offset) h = h
place_named ir fn k h = tt

-- what a form that serves the program asks of its steps, so that its pointers stay inside
all_plain : (core : Core) (ir : Ir) → LawfulCore core → IsPlain core → Serves core ir → AllPlain ir
all_plain core ir lawful plain serves g fn e = (all_typed core ir lawful plain serves g fn e, all_placed)
  where
    all_placed : AllPlaced ir fn
    all_placed q s k =
        let x = served core ir serves g fn e in
        place_named ir fn s.kind (serves.names lawful g x.function fn x.is e q s k)

begins : (core : Core) (ir : Ir) → LawfulCore core → Serves core ir → (left : ℕ)
    → Inside ir (Calling ir.main 0 [] []) (start_run ir left)
begins core ir lawful serves left =
    record { points = begins_inside core ir lawful serves left; variables = omega arith; begun = tt }

pub does_all : (p : Setting) → IsLaid p → FramesLaid p → MeetsOutside p → ObjectsLie p → LawfulCore p.core → IsPlain p.core
    → Serves p.core p.ir → DoesAll p
does_all p lay laid outside lie lawful plain serves n c r last made t since stands =
    let inside : Inside p.ir c r = along p.ir p.readings (Inside p.ir)
    (stays p.ir p.readings (all_plain p.core p.ir lawful plain serves)) (Calling p.ir.main 0 [] []) (start_run p.ir n)
    (begins p.core p.ir lawful serves n) c r last made since in
    follows_one p (steps_inside p lay laid outside lie) (entries_inside p lay laid) (results_within p lay)
    (all_typed p.core p.ir lawful plain serves) c r t inside.points stands
