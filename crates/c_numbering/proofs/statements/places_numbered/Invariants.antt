use Rattle.std.proofs.Common.{◌≡◌, ◌++◌, drop, map}
use Rattle.c_checking.specs.Numbering as spec
use Rattle.c_numbering.proofs.statements.places_numbered.Given as goal

abbrev pub invariant-loop-place : goal.invariant-loop-place
invariant-loop-place l = record {
  made : (spec.each (map spec.place_numbered l.all) l.fn.next).0
      ≡ l.made ++ (spec.each (map spec.place_numbered (drop l.place-index l.all)) l.next).0;
  next : (spec.each (map spec.place_numbered l.all) l.fn.next).1
      ≡ (spec.each (map spec.place_numbered (drop l.place-index l.all)) l.next).1;
}
