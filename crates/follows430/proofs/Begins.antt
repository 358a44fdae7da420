-- Where the run of a form begins that serves a lawful program, all its pointers are inside.
use Rattle.std.proofs.Common.{ℕ, sym, subst, List, [], length}
use Rattle.c_meaning.specs.After as meaning
use Rattle.c_values.specs.declared.state.State.{State}
use Rattle.core_tree.specs.LawfulCore.{LawfulCore}
use Rattle.core_tree.specs.declared.program.Core.{Core}
use Rattle.ir.specs.declared.control.Control.TheVariants.{Calling}
use Rattle.ir.specs.declared.form.Ir.{Ir}
use Rattle.ir.specs.Inside.{PointsInside}
use Rattle.ir.specs.Machine.{start_run}
use Rattle.ir_gen.specs.Serves.{Serves}
use Rattle.follows430.proofs.Served.{same_start, many_variables}
use Rattle.follows430.proofs.Variables.{start_inside}

pub begins_inside : (core : Core) (ir : Ir) → LawfulCore core → Serves core ir → (left : ℕ)
    → PointsInside (Calling ir.main 0 [] []) (start_run ir left)
begins_inside core ir lawful serves left =
    subst (λ (s : State). PointsInside (Calling ir.main 0 [] [])
    (record { state = s; used = 0; left = left; next = length ir.globals })) (sym (same_start core ir serves))
    (subst (λ (n : ℕ). PointsInside (Calling ir.main 0 [] [])
    (record { state = meaning.start core; used = 0; left = left; next = n })) (sym (many_variables core ir serves))
    (start_inside core _ lawful ir.main left))
