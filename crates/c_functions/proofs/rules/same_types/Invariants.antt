use Rattle.std.proofs.Common.{◌≡◌, drop, length}
use Rattle.c_checking.specs.Functions.{types_of, same_types}
use Rattle.c_functions.proofs.rules.same_types.Given as goal

abbrev pub invariant-loop-i : goal.invariant-loop-i
invariant-loop-i l = record {
  lengths : length l.types ≡ length l.params;
  rest : same_types l.types (types_of l.params) ≡ same_types (drop l.i l.types) (types_of (drop l.i l.params));
}
