use Rattle.std.proofs.Common.{ap, arith}
use Rattle.core_tree.specs.Costs.{each, grouped, stmt_rows}
use Rattle.core_tree.specs.Heights.{group_height, stmt_height, stmt_kind_height}
use Rattle.core_tree.specs.Nodes.{group_nodes, stmt_nodes, stmt_kind_nodes}
use Rattle.core_tree.specs.declared.statements.Stmt.{Stmt}
use Rattle.core_tree.specs.declared.statements.Group.{Group}
use Rattle.std.proofs.lemmas.Grind.{common_steps}
use Rattle.core_tree.proofs.StatementSums.{cost_Block, nodes-Block, cost_Switch, nodes-Switch, grouped-rows, nodes-Group, cost_Expires, nodes-Expires, height-Expires}
use Rattle.core_tree.proofs.Sums.{total_more, tallest_more}
use Rattle.core_tree.proofs.measure_statements.+stmt_measure.Goals as goal

pub stmts_measure-loop-stmt-preserved : goal.stmts_measure-loop-stmt-preserved
stmts_measure-loop-stmt-preserved t c = record {
  height = omega (arith, tallest_more stmt_height c.args.all.now c.loop-stmt.stmt-index c.stmt-item.result c.loop-stmt-test.true, ap stmt_height c.stmt-item.is);
  cost = omega (arith, total_more (λ (s : Stmt). stmt_rows each s c.args.inside) c.args.all.now c.loop-stmt.stmt-index c.stmt-item.result c.loop-stmt-test.true, ap (λ (s : Stmt). stmt_rows each s c.args.inside) c.stmt-item.is);
  nodes = omega (arith, total_more stmt_nodes c.args.all.now c.loop-stmt.stmt-index c.stmt-item.result c.loop-stmt-test.true, ap stmt_nodes c.stmt-item.is);
}

pub groups_measure-loop-group-preserved : goal.groups_measure-loop-group-preserved
groups_measure-loop-group-preserved t c = record {
  height = omega (arith, tallest_more group_height c.args.groups.now c.loop-group.group-index c.group-item.result c.loop-group-test.true, ap group_height c.group-item.is);
  cost = omega (arith, total_more (λ (g : Group). (grouped each g).rows c.args.inside) c.args.groups.now c.loop-group.group-index c.group-item.result c.loop-group-test.true, ap (λ (g : Group). (grouped each g).rows c.args.inside) c.group-item.is);
  nodes = omega (arith, total_more group_nodes c.args.groups.now c.loop-group.group-index c.group-item.result c.loop-group-test.true, ap group_nodes c.group-item.is);
}

pub group_measure-returns-clause-cost : goal.group_measure-returns-clause-cost
group_measure-returns-clause-cost t c = grind (arith, common_steps, grouped-rows c.args.group.now c.args.inside)

pub group_measure-returns-clause-nodes : goal.group_measure-returns-clause-nodes
group_measure-returns-clause-nodes t c = grind (arith, common_steps, nodes-Group c.args.group.now)

pub stmt_measure-returns-in-Block-clause-cost : goal.stmt_measure-returns-in-Block-clause-cost
stmt_measure-returns-in-Block-clause-cost t c =
    cost_Block c.args.stmt.now _ _ _ _ _ c.in-Block.is c.as_slice.ensures c.stmts_measure.ensures.cost c.under-in-Block.ensures.cost

pub stmt_measure-returns-in-Block-clause-nodes : goal.stmt_measure-returns-in-Block-clause-nodes
stmt_measure-returns-in-Block-clause-nodes t c = grind (arith, common_steps, ap stmt_kind_nodes c.in-Block.is, nodes-Block c.in-Block.all)

pub stmt_measure-returns-in-Switch-clause-cost : goal.stmt_measure-returns-in-Switch-clause-cost
stmt_measure-returns-in-Switch-clause-cost t c =
    cost_Switch c.args.stmt.now c.in-Switch.on _ _ _ _ _ _ _ _ _ c.in-Switch.is c.as_slice-in-Switch.ensures c.as_slice-in-Switch-2.ensures
    c.expr_measure-in-Switch.ensures.cost c.groups_measure.ensures.cost c.beside-in-Switch.ensures.cost c.switch_row.ensures c.under-in-Switch.ensures.cost

pub stmt_measure-returns-in-Switch-clause-nodes : goal.stmt_measure-returns-in-Switch-clause-nodes
stmt_measure-returns-in-Switch-clause-nodes t c =
    grind (arith, common_steps, ap stmt_kind_nodes c.in-Switch.is, nodes-Switch c.in-Switch.on c.in-Switch.groups)

pub stmt_measure-returns-in-Expires-clause-height : goal.stmt_measure-returns-in-Expires-clause-height
stmt_measure-returns-in-Expires-clause-height t c =
    grind (arith, common_steps, ap stmt_kind_height c.in-Expires.is, height-Expires c.in-Expires.names c.in-Expires.body c.in-Expires.«catch»)

pub stmt_measure-returns-in-Expires-clause-cost : goal.stmt_measure-returns-in-Expires-clause-cost
stmt_measure-returns-in-Expires-clause-cost t c =
    cost_Expires c.args.stmt.now _ _ _ _ _ _ _ _ _ _ _ _ _ _ c.in-Expires.is c.as_slice-in-Expires.ensures c.as_slice-in-Expires-2.ensures c.as_slice-in-Expires-3.ensures
    c.places_measure.ensures.cost c.stmts_measure-in-Expires.ensures.cost c.stmts_measure-in-Expires-2.ensures.cost
    c.beside-in-Expires.ensures.cost c.beside-in-Expires-2.ensures.cost
    (rw (← c.len.ensures) c.row_with.ensures) c.under-in-Expires.ensures.cost

pub stmt_measure-returns-in-Expires-clause-nodes : goal.stmt_measure-returns-in-Expires-clause-nodes
stmt_measure-returns-in-Expires-clause-nodes t c =
    grind (arith, common_steps, ap stmt_kind_nodes c.in-Expires.is, nodes-Expires c.in-Expires.names c.in-Expires.body c.in-Expires.«catch»)
