use Rattle.std.specs.Prelude.{pos}
use Rattle.base16.specs.declared.image.Kind.TheVariants as kind
use Rattle.c_values.specs.declared.value.Value.TheVariants.{Int}
use Rattle.c_values.specs.Objects as spec
use Rattle.c_values.proofs.Putting.{written_turn}
use Rattle.c_values.proofs.cells.put_walking.Goals as goal

pub loop-i-preserved : goal.loop-i-preserved
loop-i-preserved c =
    written_turn (spec.put_cell c.args.offset c.args.value) c.args.cells.now c.loop-i.cells c.as_slice.result.now c.set.new.self c.loop-i.i
    c.len-i-end.result c.put_cell.result (record { offset = 0; kind = kind.Char; value = Int (pos 0) }) c.len-i-end.ensures
    c.loop-i-test.true c.loop-i.invariant c.as_slice.ensures c.put_cell.ensures c.set.ensures
