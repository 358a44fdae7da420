use Rattle.std.proofs.Common.{◌∙◌, ap, sym}
use Rattle.core_tree.specs.Extents.{told}
use Rattle.core_tree.proofs.Extents.{times_array, times_told, layout_of_struct}
use Rattle.core_tree.proofs.sizes.extent_in.Goals as goal

pub loop-inner-preserved : goal.loop-inner-preserved
loop-inner-preserved c =
    times_array _ _ _ _ _ _ _ _ c.loop-inner.invariant c.in-Array.is c.get-inner.ensures (rw (← c.from.ensures) c.saturating_mul-count.ensures)

pub returns-in-Struct : goal.returns-in-Struct
returns-in-Struct c =
    times_told _ _ _ _ _ c.loop-inner.invariant (c.known_extent.ensures ∙ ap told (sym (layout_of_struct _ _ _ c.in-Struct.is)))
    c.times-in-Struct.ensures.size c.times-in-Struct.ensures.even
