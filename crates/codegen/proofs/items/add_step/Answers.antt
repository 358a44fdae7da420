use Rattle.std.proofs.Common.{IsTrue, List, sym, subst, ◌∙◌}
use Rattle.asm430.specs.Assembly.{are_formed}
use Rattle.asm430.specs.declared.item.Item.{Item}
use Rattle.codegen.proofs.Turns.{at_formed}
use Rattle.codegen.proofs.items.add_step.Goals as goal

pub add_all-requires : goal.add_all-requires
add_all-requires c =
    subst (λ (l : List Item). IsTrue (are_formed l)) (sym (c.as_slice.ensures.value ∙ c.in_ok-items.ensures))
    (at_formed c.args.ir.now c.args.function c.args.step)
