use Rattle.std.proofs.Common.{◌≡◌, ◌^◌, ◌-◌, min, take}
use Rattle.world.specs.Text.{decimal}
use Rattle.world.proofs.text.capped_decimal.Given as goal

abbrev pub invariant-loop-digit : goal.invariant-loop-digit
invariant-loop-digit l = l.number ≡ min (decimal (take l.digit-index l.digits)) (2 ^ 64 - 1)
