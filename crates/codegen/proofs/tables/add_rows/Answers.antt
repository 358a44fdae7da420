use Rattle.std.proofs.Common.{ap, map, List, ℕ}
use Rattle.asm430.specs.declared.item.Item.TheVariants.{Word}
use Rattle.codegen.proofs.Turns.{adds_as, adds_more, rows_turn}
use Rattle.codegen.proofs.tables.add_rows.Goals as goal

pub loop-timed-preserved : goal.loop-timed-preserved
loop-timed-preserved c =
    adds_more _ _ _ _ _ _ c.loop-timed.invariant
    (adds_as _ _ _ _ (ap (λ (ws : List ℕ). map Word ws) c.row.ensures) c.in_ok-add_words.ensures)
    (rows_turn c.args.core.now c.args.rows.now c.loop-timed.timed-index _ c.loop-timed-test.true)
