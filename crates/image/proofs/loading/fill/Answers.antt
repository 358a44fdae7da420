use Rattle.std.proofs.Common.{◌∙◌, ◌+◌, ◌*◌, ap, slice_index}
use Rattle.base16.specs.Memory.{put}
use Rattle.ideal430.proofs.Loading.{filled-suc}
use Rattle.image.proofs.loading.fill.Goals as goal

pub loop-i-preserved : goal.loop-i-preserved
loop-i-preserved c =
    c.poke.ensures.memory
    ∙ ap (λ m. put m (c.args.start + 2 * c.loop-i.i) (slice_index c.args.words.now c.loop-i.i)) c.loop-i.invariant
    ∙ filled-suc c.args.start c.args.words.now c.loop-i.i _ c.requires.even
