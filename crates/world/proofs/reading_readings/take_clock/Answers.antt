use Rattle.std.proofs.Common.{arith}
use Rattle.world.proofs.ReadingsLemmas.{kept_clock}
use Rattle.world.proofs.reading_readings.take_clock.Goals as goal

pub returns-clause-kept : goal.returns-clause-kept
returns-clause-kept c = λ h. kept_clock c.args.draft.now c.push.new.self c.args.ms c.requires (omega arith) c.in_ok-push.ensures.ok h
