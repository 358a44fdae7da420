-- A value that is as it was is not shown.
use Rattle.std.proofs.Common.{refl}
use Rattle.base16.specs.Memory.{words_of}
use Rattle.display.proofs.Pushing.{value-kept}
use Rattle.display.proofs.sets.push_value.Goals as goal

pub returns-else-old-word-clause-items : goal.returns-else-old-word-clause-items
returns-else-old-word-clause-items c =
    let m = words_of c.args.fram.now.words in
    value-kept c.args.scalars.now c.args.log m c.in-Some.scalar c.index-scalars-scalar.result c.args.number c.args.sets.now.items
    _ c.word_before.result c.get.result c.value_in-old.result c.value_in-word.result c.in-Some.is c.requires.known
    c.index-scalars-scalar.is refl c.word_before.ensures c.get.ensures.memory c.value_in-old.ensures c.value_in-word.ensures
    c.if-old-word.false
