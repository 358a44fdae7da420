-- What is known of the steps between two marks, and what a step's limit is beside its bytes.
use Rattle.std.proofs.Common.{◌+◌, ◌*◌, ◌/◌, ◌≤◌, arith, Bool, true, false, if◌then◌else◌, List, Option}
use Rattle.base16.specs.declared.reading.Reading.{Reading}
use Rattle.c_run.specs.Runs.{Run}
use Rattle.ir.specs.declared.form.Ir.{Ir}
use Rattle.ir.specs.declared.form.StepKind.{StepKind}
use Rattle.ir.specs.declared.control.Control.{Control}
use Rattle.ir.specs.Between.{Site, Reaches, begun as at_first, no_mark as without, a_mark as with_one}
use Rattle.ir.specs.Table.{size, uses_helper}
use Rattle.steps430.specs.Whole.{Since, begun, no_mark, a_mark, most_of}

-- the step of the last mark left out
pub since_reaches : (ir : Ir) (rs : List Reading) (c0 : Control) (r0 : Run) (c : Control) (r : Run) (last : Option Site)
    (made : List Site)
    → Since ir rs c0 r0 c r last made → Reaches ir rs c0 r0 c r made
since_reaches ir rs c0 r0 c r last made begun = at_first
since_reaches ir rs c0 r0 c r last made (no_mark {c = b} {r = q} {made = old} h e same) =
    without (since_reaches ir rs c0 r0 b q last old h) e same
since_reaches ir rs c0 r0 c r last made (a_mark {c = b} {r = q} {last = before} {made = old} h e less) =
    with_one (since_reaches ir rs c0 r0 b q before old h) e less

-- twice a limit is no more than what the step costs between two marks
pub twice_most : (k : StepKind) → 2 * most_of k ≤ size k + (if uses_helper k then 800 else 0)
twice_most k = from (uses_helper k)
  where
    from : (b : Bool) → 2 * (size k / 2 + (if b then 400 else 0)) ≤ size k + (if b then 800 else 0)
    from true = omega arith
    from false = omega arith
