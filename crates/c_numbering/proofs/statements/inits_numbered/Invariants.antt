use Rattle.std.proofs.Common.{◌≡◌, ◌++◌, drop, map}
use Rattle.c_checking.specs.Numbering as spec
use Rattle.c_numbering.proofs.statements.inits_numbered.Given as goal

abbrev pub invariant-loop-init : goal.invariant-loop-init
invariant-loop-init l = record {
  made : (spec.each (map spec.init_numbered l.all) l.fn.next).0
      ≡ l.made ++ (spec.each (map spec.init_numbered (drop l.init-index l.all)) l.next).0;
  next : (spec.each (map spec.init_numbered l.all) l.fn.next).1
      ≡ (spec.each (map spec.init_numbered (drop l.init-index l.all)) l.next).1;
}
