-- One variable more is stored to.
use Rattle.std.proofs.Common.{◌∙◌, ap, ◌<◌, length, get_or, arith}
use Rattle.std.proofs.Math.ListN.{set}
use Rattle.std.proofs.lemmas.List.Edits.{map_over_more}
use Rattle.tics_call.specs.declared.meaning.Variable.{Variable}
use Rattle.tics_call.specs.Run.{assigned}
use Rattle.tics_call.proofs.meaning.assign.Goals as goal

pub loop-variable-preserved : goal.loop-variable-preserved
loop-variable-preserved c =
    let lt : c.loop-variable.variable-index < length c.args.variables.now.items =
    omega (arith, ap length c.deref_mut-variable-items.ensures.value) in
    ap (λ (v : Variable). set c.loop-variable.variable-items c.loop-variable.variable-index v) c.assign_one.ensures
    ∙ map_over_more (assigned c.args.store.now) c.args.variables.now.items c.loop-variable.variable-items
    c.loop-variable.variable-index
    (get_or c.loop-variable.variable-items c.loop-variable.variable-index c.variable-item.result) lt c.loop-variable.invariant
    (ap (λ (v : Variable). get_or c.loop-variable.variable-items c.loop-variable.variable-index v) c.variable-item.is)
