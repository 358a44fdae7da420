use Rattle.std.proofs.Common.{◌≡◌, drop, map}
use Rattle.c_checking.specs.Calls as spec
use Rattle.c_calls.specs.Parts as parts
use Rattle.c_calls.proofs.statements.+statement.Given as goal

abbrev pub invariant-in_items-loop-item : goal.invariant-in_items-loop-item
invariant-in_items-loop-item l = spec.first_of (map (parts.in_item l.names) l.all) ≡ spec.first_of (map (parts.in_item l.names) (drop l.item-index l.all))

abbrev pub invariant-in_groups-loop-group : goal.invariant-in_groups-loop-group
invariant-in_groups-loop-group l = spec.first_of (map (parts.in_group l.names) l.all) ≡ spec.first_of (map (parts.in_group l.names) (drop l.group-index l.all))

abbrev pub invariant-in_statements-loop-statement : goal.invariant-in_statements-loop-statement
invariant-in_statements-loop-statement l = spec.first_of (map (parts.in_statement l.names) l.all) ≡ spec.first_of (map (parts.in_statement l.names) (drop l.statement-index l.all))
