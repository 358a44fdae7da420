use Rattle.c_interpreter.proofs.Ends.{shown_is}
use Rattle.c_interpreter.proofs.whole.run_main.Goals as goal

pub returns-in-Err : goal.returns-in-Err
returns-in-Err c =
    shown_is c.args.program.now.core.now c.args.readings.now c.args.number c.args.marks c.args.function.now c.in-Err.halt c.main_body.new.run
    c.in_ok-run.run' c.into_state.result c.core.result.now c.shown.result c.requires.some c.requires.main c.requires.there
    c.core.ensures c.in_ok-run.ensures c.in-Err.ensures c.into_state.ensures c.shown.ensures
