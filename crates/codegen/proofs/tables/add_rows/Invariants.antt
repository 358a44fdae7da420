-- the rows so far are added
use Rattle.std.proofs.Common.{take, map}
use Rattle.asm430.specs.declared.item.Item.TheVariants.{Word}
use Rattle.codegen.specs.Program.{rows_words}
use Rattle.codegen.specs.Placing.{Adds}
use Rattle.codegen.proofs.tables.add_rows.Given as goal

abbrev pub invariant-loop-timed : goal.invariant-loop-timed
invariant-loop-timed l = Adds l.initial.made l.made (map Word (rows_words l.core (take l.timed-index l.rows)))
