use Rattle.std.proofs.Common.{◌≡◌, ℕ, arith, subst}
use Rattle.ideal430.specs.Ideal.{run}
use Rattle.ideal430.specs.At.{IsAt}
use Rattle.ideal430.proofs.Running.{run_turn, run_over}
use Rattle.ideal430.proofs.machine.run.Goals as goal
use Rattle.ideal430.proofs.machine.run.Goals.{in-Running, in_default}

pub returns-then-not-matches : goal.returns-then-not-matches
returns-then-not-matches c = λ t at.
    run_over c.loop-made._made c.args.instrs t c.loop-made.machine c.args.readings.now (omega arith)
    (c.loop-made.invariant.is t at) (λ e.
    elim c.match-matches.branch [
      | in-Running w ↦ (let h = w.matches-is in let k = c.if-not-matches.true in cc)
      | in_default w ↦ w.in_default.not-Running e
    ])

pub returns : goal.returns
returns c = λ t at.
    let e : c.loop-made._made ≡ c.args.instrs = omega arith in
    subst (λ (n : ℕ). IsAt (run n t) c.loop-made.machine c.args.readings.now) e (c.loop-made.invariant.is t at)

pub loop-made-preserved : goal.loop-made-preserved
loop-made-preserved c = record {
  is = λ t at. run_turn c.loop-made._made t c.loop-made.machine c.turn.new.machine c.args.readings.now
      (c.loop-made.invariant.is t at) c.turn.ensures.is;
  marks = let h = c.turn.ensures.marks in let i = c.loop-made.invariant.marks in omega arith;
  small = c.turn.ensures.small;
}
