use Rattle.std.proofs.Common.{◌≡◌, drop, map}
use Rattle.c_checking.specs.Annotations as spec
use Rattle.c_calls.specs.Parts as parts
use Rattle.c_calls.proofs.annotations.+statement.Given as goal

abbrev pub invariant-items_have-loop-item : goal.invariant-items_have-loop-item
invariant-items_have-loop-item l = spec.any_of (map parts.item_has l.all) ≡ spec.any_of (map parts.item_has (drop l.item-index l.all))

abbrev pub invariant-groups_have-loop-group : goal.invariant-groups_have-loop-group
invariant-groups_have-loop-group l = spec.any_of (map parts.group_has l.all) ≡ spec.any_of (map parts.group_has (drop l.group-index l.all))

abbrev pub invariant-statements_have-loop-statement : goal.invariant-statements_have-loop-statement
invariant-statements_have-loop-statement l = spec.any_of (map parts.statement_has l.all) ≡ spec.any_of (map parts.statement_has (drop l.statement-index l.all))
