-- the routines so far are added
use Rattle.std.proofs.Common.{take}
use Rattle.codegen.specs.Program.{routine_items}
use Rattle.codegen.specs.Placing.{Adds, routine_words}
use Rattle.codegen.proofs.items.add_routines.Given as goal

abbrev pub invariant-loop-which : goal.invariant-loop-which
invariant-loop-which l = Adds l.initial.made l.made (routine_items (routine_words l.routines) (take l.which-index l.all))
