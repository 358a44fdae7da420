use Rattle.std.proofs.Common.{arith}
use Rattle.image.proofs.LoadLemmas.{cleared_step, cleared_all}
use Rattle.image.proofs.loading.clear.Goals as goal

pub loop-index-preserved : goal.loop-index-preserved
loop-index-preserved c = record {
  zero = cleared_step c.loop-index.fram.words c.poke.new.self.words c.loop-index.index c.loop-index.invariant.zero c.poke.ensures.memory;
  size = λ h. c.poke.ensures.size;
}

pub returns : goal.returns
returns c = λ a. cleared_all c.loop-index.fram.words c.loop-index.index a (omega arith) c.loop-index.invariant.zero c.loop-index.invariant.size
