use Rattle.ir_run.proofs.Ends.{shown_is}
use Rattle.ir_run.proofs.whole.run_main.Goals as goal

pub returns-in-Some : goal.returns-in-Some
returns-in-Some c =
    shown_is c.args.ir.now c.args.readings.now c.args.marks c.in-Some.halt c.entry-control.result c.run_through.new.run
    c.in_ok-run.run' c.into_state.result c.shown.result c.requires c.entry-control.ensures c.in_ok-run.ensures c.in-Some.ensures
    c.into_state.ensures c.shown.ensures
