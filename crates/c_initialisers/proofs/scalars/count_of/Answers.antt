use Rattle.std.proofs.Common.{◌*◌, ℕ, ◌∙◌, ap, length}
use Rattle.c_initialisers.specs.Scalars.{before}
use Rattle.c_initialisers.proofs.Counting.{count_step}
use Rattle.c_initialisers.proofs.scalars.count_of.Goals as goal

pub loop-inner-preserved : goal.loop-inner-preserved
loop-inner-preserved c =
    count_step (before c.args._structs.now (length c.args.known.now)) c.loop-inner.inner.now c.get-inner.result.now
    c.loop-inner.count c.in-Array.more c.in_ok-count-in-Array.count _ (rw c.get-inner.ensures c.in-Array.is)
    (c.in_ok-count-in-Array.ensures.0 ∙ ap (λ (k : ℕ). c.loop-inner.count * k) c.from.ensures) c.loop-inner.invariant
