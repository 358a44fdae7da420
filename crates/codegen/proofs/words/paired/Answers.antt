use Rattle.codegen.proofs.Bytes.{pairs_done}
use Rattle.codegen.proofs.words.paired.Goals as goal

pub returns : goal.returns
returns c = pairs_done c.args.bytes.now c.loop-at.words c.loop-at.at c.loop-at.invariant c.loop-at-test.false
