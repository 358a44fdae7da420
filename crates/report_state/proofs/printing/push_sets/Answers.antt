use Rattle.report_state.specs.StateText.{set_line}
use Rattle.report_state.proofs.Texts.{sets_done}
use Rattle.report_state.proofs.printing.push_sets.Goals as goal

pub returns-then-at-values : goal.returns-then-at-values
returns-then-at-values c =
    sets_done (set_line c.args.places.now.core.now c.args.state.now) c.args.scalars.now c.args.values.now c.loop-at.at
    c.args.text.now.items c.loop-at.text.items c.loop-at.invariant c.if-at-values.true
