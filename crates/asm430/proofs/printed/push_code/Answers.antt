-- One entry more, and the end.
use Rattle.std.proofs.Common.{arith, subst, List, ℕ, ◌+◌, ◌*◌}
use Rattle.std.proofs.lemmas.List.{take_rest}
use Rattle.asm430.specs.Printing.{IsFirstAdded}
use Rattle.asm430.proofs.Entries.{begun_next, all_added}
use Rattle.asm430.proofs.printed.push_code.Goals as goal

pub loop-at-preserved : goal.loop-at-preserved
loop-at-preserved c =
    begun_next _ _ _ _ _ _ c.loop-at.invariant
    (subst (λ (words : List ℕ). IsFirstAdded words (0x8000 + 2 * c.loop-at.at) c.in_ok-at.field-0 c.loop-at.text.items c.push_first.new.text.items)
    (take_rest c.args.code.now c.loop-at.at) c.in_ok-at.ensures)

pub returns : goal.returns
returns c = all_added _ _ _ _ (omega arith) c.loop-at.invariant
