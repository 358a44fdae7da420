use Rattle.ideal430.specs.Loaded.{loaded, start_of, ideal}
use Rattle.ideal430.specs.Ideal.{run}
use Rattle.ideal430.proofs.Running.{state_of-at}
use Rattle.ideal430.proofs.machine.ideal_run.Goals as goal

pub returns : goal.returns
unfolding ideal
returns c =
    let start = start_of (loaded c.args.image.now.code c.args.image.now.globals) c.args.readings.now in
    state_of-at (run c.args.instrs start) c.run.new.machine c.args.readings.now c.into_words.result
    (c.run.ensures start (c.in_ok-machine.ensures.is c.args.readings.now)) c.into_words.ensures.words c.into_words.ensures.count
