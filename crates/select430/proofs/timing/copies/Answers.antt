use Rattle.std.proofs.Common.{rules, ◌∙◌, arith}
use Rattle.select430.proofs.Copies.{copies_step}
use Rattle.select430.proofs.timing.copies.Goals as goal

pub loop-local-preserved : goal.loop-local-preserved
loop-local-preserved c = record {
  value =
      copies_step c.args.ir.now c.args.function.now c.args.function.now.locals c.loop-local.local-index c.loop-local.left c.loop-local.number c.local-item.result c.copy.result c.loop-local.parts.items c.push.new.self.items
      (search rules) (search rules) (omega arith) c.copy.ensures (search rules)
      ∙ c.loop-local.invariant.value;
  small = omega arith;
}
