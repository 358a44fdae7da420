use Rattle.std.proofs.lemmas.List.{take_more}
use Rattle.codegen.proofs.Turns.{adds_more, formed_at}
use Rattle.codegen.proofs.adding.add_all.Goals as goal

pub add-requires : goal.add-requires
add-requires c = formed_at c.args.items.now c.loop-item.item-index _ c.requires c.loop-item-test.true

pub loop-item-preserved : goal.loop-item-preserved
loop-item-preserved c =
    adds_more _ _ _ _ _ _ c.loop-item.invariant c.in_ok-add.ensures
    (take_more c.args.items.now c.loop-item.item-index _ c.loop-item-test.true)
