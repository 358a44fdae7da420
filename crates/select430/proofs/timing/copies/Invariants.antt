use Rattle.std.proofs.Common.{◌≡◌, ◌≤◌, ◌+◌, ◌++◌, drop, take}
use Rattle.select430.specs.Code as spec
use Rattle.select430.proofs.timing.copies.Given as goal

abbrev pub invariant-loop-local : goal.invariant-loop-local
invariant-loop-local l = record {
  value : l.parts.items ++ spec.copies l.ir l.function l.number (take l.left (drop l.local-index l.function.locals)) ≡ l.initial.parts.items ++ spec.copies l.ir l.function 0 (take l.count l.function.locals);
  small : l.number + l.left ≤ l.count;
}
