use Rattle.std.proofs.Common.{refl, rules}
use Rattle.base16.specs.declared.image.Kind.TheVariants as kind
use Rattle.core_layout.proofs.Placing.{scalars_step, scalars_done}
use Rattle.core_layout.proofs.variables.push_scalars.Goals as goal

pub loop-index-preserved : goal.loop-index-preserved
loop-index-preserved c =
    scalars_step c.args.variable.now c.args.at c.loop-index.here _ c.loop-index.index c.args.slots.now c.args.names.now
    (record { offset = 0; kind = kind.Char })
    c.index-names-index.result c.in_ok-scalar.field-0 _ c.loop-index.into c.push.new.self (search rules) (search rules)
    c.index-names-index.is c.loop-index.invariant (rw (← c.as_slice-name.ensures) c.in_ok-scalar.ensures)
    c.in_ok-push.ensures.ok refl

pub returns : goal.returns
returns c =
    scalars_done c.args.variable.now c.args.at c.loop-index.here c.loop-index.index c.args.slots.now c.args.names.now _
    c.loop-index.into
    (search rules) c.loop-index.invariant
