use Rattle.std.proofs.Common.{◌∙◌, sym}
use Rattle.std.specs.Prelude.{pos}
use Rattle.base16.specs.declared.image.Kind.TheVariants as kind
use Rattle.c_values.specs.declared.value.Value.TheVariants.{Int}
use Rattle.c_values.proofs.Halving.{find_hit, find_miss}
use Rattle.c_values.proofs.cells.halve_to.Goals as goal

pub returns-then-from-offset : goal.returns-then-from-offset
returns-then-from-offset c =
    find_hit c.args.cells.now c.args.offset c.count_below-place.result (record { offset = 0; kind = kind.Char; value = Int (pos 0) })
    c.requires c.count_below-place.ensures c.if-place-cells.false (sym c.from.ensures ∙ c.if-from-offset.true)

pub returns-else-from-offset : goal.returns-else-from-offset
returns-else-from-offset c =
    find_miss c.args.cells.now c.args.offset c.count_below-place.result (record { offset = 0; kind = kind.Char; value = Int (pos 0) })
    c.requires c.count_below-place.ensures c.if-place-cells.false (λ e. c.if-from-offset.false (c.from.ensures ∙ e))
