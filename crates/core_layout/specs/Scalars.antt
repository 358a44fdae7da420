-- One scalar of a variable.
use Rattle.std.specs.Prelude.{ℕ, ◌+◌, ◌++◌}
use Rattle.base16.specs.declared.image.Scalar.{Scalar}
use Rattle.core_tree.specs.declared.types.Slot.{Slot}
use Rattle.core_tree.specs.declared.program.Global.{Global}
use Rattle.core_tree.specs.Data.{Text, told_address, stamp_at}

-- where the variable begins at an address, and the scalar's stamp is at another one if the variable is timed
abbrev pub scalar_of : Global → ℕ → ℕ → Slot → Text → Scalar
scalar_of g at stamp slot name = record {
  name = g.name ++ name;
  address = told_address (at + slot.offset);
  kind = slot.kind;
  stamp = stamp_at g.lifetime stamp;
}
