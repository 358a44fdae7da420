use Rattle.std.proofs.Common.{◌≡◌, ◌∷◌, arith}
use Rattle.std.proofs.lemmas.Grind.{common_steps}
use Rattle.std.specs.Str.Lines.{lines, strip_carriage_return}
use Rattle.world.proofs.TextLemmas.{lines_more}
use Rattle.world.proofs.text.lines_of.Goals as goal

pub loop-line-preserved : goal.loop-line-preserved
loop-line-preserved c =
    let more : lines c.loop-line.rest.now ≡ strip_carriage_return c.in-Some.line.now ∷ lines c.in-Some.others.now = lines_more c.loop-line.rest.now c.in-Some.line.now c.in-Some.others.now c.in-Some.ensures.parts in
    grind (arith, common_steps)
