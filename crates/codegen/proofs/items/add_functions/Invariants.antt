-- the functions so far are added, and where they begin
use Rattle.std.proofs.Common.{◌≡◌, ◌++◌, take}
use Rattle.select430.specs.Items.{functions_items}
use Rattle.codegen.specs.Program.{function_starts}
use Rattle.codegen.specs.Placing.{Adds}
use Rattle.codegen.proofs.items.add_functions.Given as goal

abbrev pub invariant-loop-number : goal.invariant-loop-number
invariant-loop-number l = record {
  items : Adds l.initial.made l.made (functions_items l.ir 0 (take l.number l.functions));
  starts : l.starts.items ≡ l.initial.starts.items ++ function_starts l.initial.made.words l.ir 0 (take l.number l.functions);
}
