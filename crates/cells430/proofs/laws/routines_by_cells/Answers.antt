use Rattle.std.proofs.Common.{refl}
use Rattle.rt430.specs.Operators.{value}
use Rattle.rt430.specs.Routines.{kept_by}
use Rattle.cells430.specs.Stretch.{outside, at}
use Rattle.cells430.specs.Scenes.{IsBack}
use Rattle.cells430.proofs.Lift.{leads_now}
use Rattle.cells430.proofs.Steady.{calls_routine}
use Rattle.cells430.proofs.laws.routines_by_cells.Goals as goal

pub returns : goal.returns
returns c = λ which ws does x base h here even low high words room has.
    calls_routine x.code x.lo x.hi x.segment x.sp x.pointers h.grounded room x.cells h.shape which ws does base even low high
    words x.regs x.memory x.settled (outside x.marks x.left) x.meter (x.regs 12)
    (x.regs 13) h.facts h.words here h.stack refl refl has
    0 (IsBack x (value which (x.regs 12) (x.regs 13)) (kept_by which))
    (λ r2 m2 st2 q2 place stack answer kept facts wide. leads_now 0
    (at x.segment x.pointers r2 m2 st2 (outside x.marks x.left) q2)
    (IsBack x (value which (x.regs 12) (x.regs 13)) (kept_by which))
    (record {
      regs = r2;
      memory = m2;
      settled = st2;
      meter = q2;
      is = refl;
      place = place;
      stack = stack;
      answers =
          answer;
      kept = kept;
      facts = facts;
      words = wide;
    }))
