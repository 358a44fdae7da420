-- the tables so far are added
use Rattle.std.proofs.Common.{take}
use Rattle.codegen.specs.Program.{table_items}
use Rattle.codegen.specs.Placing.{Adds}
use Rattle.codegen.proofs.tables.add_tables.Given as goal

abbrev pub invariant-loop-at : goal.invariant-loop-at
invariant-loop-at l = Adds l.initial.made l.made (table_items l.core 0 (take l.at l.tables))
