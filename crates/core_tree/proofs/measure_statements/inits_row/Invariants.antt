use Rattle.std.proofs.Common.{◌≡◌, take, map}
use Rattle.core_tree.specs.Costs.{capped_cost, init_row}
use Rattle.core_tree.specs.Nodes.{total}
use Rattle.core_tree.proofs.measure_statements.inits_row.Given as goal

abbrev pub invariant-loop-init : goal.invariant-loop-init
invariant-loop-init l = l.sum ≡ capped_cost (total (map init_row (take l.init-index l.inits)))
