use Rattle.std.proofs.Common.{arith}
use Rattle.world.proofs.ReadingsLemmas.{kept_sense}
use Rattle.world.proofs.reading_readings.take_sense.Goals as goal

pub returns-clause-kept : goal.returns-clause-kept
returns-clause-kept c = λ h. kept_sense c.args.draft.now c.push.new.self c.args.channel c.args.value c.requires (omega arith) c.in_ok-push.ensures.ok h
