use Rattle.std.proofs.Common.{◌≡◌, ◌++◌, drop, map}
use Rattle.c_checking.specs.Numbering as spec
use Rattle.c_numbering.proofs.program.functions_numbered.Given as goal

abbrev pub invariant-loop-function : goal.invariant-loop-function
invariant-loop-function l = record {
  made : (spec.each (map spec.function_numbered l.all) l.fn.next).0
      ≡ l.made ++ (spec.each (map spec.function_numbered (drop l.function-index l.all)) l.next).0;
  next : (spec.each (map spec.function_numbered l.all) l.fn.next).1
      ≡ (spec.each (map spec.function_numbered (drop l.function-index l.all)) l.next).1;
}
