use Rattle.std.proofs.Common.{◌≡◌, ◌++◌, drop}
use Rattle.select430.specs.Parts as spec
use Rattle.select430.proofs.selection.items_of.Given as goal

abbrev pub invariant-loop-part : goal.invariant-loop-part
invariant-loop-part l = record {
  value : l.items.items ++ spec.parts_items l.function l.step (drop l.part-index l.parts) ≡ spec.parts_items l.function l.step l.parts;
}
