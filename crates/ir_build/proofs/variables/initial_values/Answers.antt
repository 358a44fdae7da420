use Rattle.std.proofs.Common.{◌≡◌, min, length, arith}
use Rattle.ir_build.proofs.Placing.{values_done}
use Rattle.ir_build.proofs.variables.initial_values.Goals as goal

pub returns : goal.returns
returns c =
    let all : c.loop-at.at ≡ min (length c.args.slots.now) (length c.args.inits.now) = omega arith in
    values_done c.args.slots.now c.args.inits.now c.loop-at.values c.loop-at.at c.loop-at.invariant all
