use Rattle.std.proofs.Common.{ℕ, ◌+◌, List, map, true, ap, ◌∙◌}
use Rattle.core_layout.specs.Laid.{layout_of}
use Rattle.core_layout.specs.declared.layouts.Laid.{Laid}
use Rattle.core_tree.specs.Layout.{Layout, aligned}
use Rattle.codegen.specs.Standing.{addresses_behind, bytes_behind}
use Rattle.codegen.proofs.Standing.{laid_made}
use Rattle.codegen.proofs.data.variables_laid.Goals as goal

pub returns : goal.returns
returns c =
    laid_made c.args.core.now c.in_ok-addresses.addresses c.in_ok-rounded.rounded c.in_ok-stamps.stamps c.in_ok-count.count
    c.in_ok-bytes.bytes
    (c.in_ok-addresses.ensures ∙ ap (λ (ls : List Laid). addresses_behind 0 (map layout_of ls)) c.as_slice-3.ensures
    ∙ ap (λ (row : List Layout). addresses_behind 0 row) c.in_ok-laid.ensures)
    (c.in_ok-rounded.ensures
    ∙ ap (aligned true) (c.in_ok-bytes_of.ensures
    ∙ ap (λ (ls : List Laid). bytes_behind 0 (map layout_of ls)) c.as_slice-4.ensures
    ∙ ap (λ (row : List Layout). bytes_behind 0 row) c.in_ok-laid.ensures))
    (c.in_ok-stamps.ensures ∙ ap (λ (n : ℕ). n + c.in_ok-rounded.rounded) c.from.ensures)
    c.in_ok-count.ensures
    (c.in_ok-bytes.ensures ∙ ap (λ (n : ℕ). c.in_ok-rounded.rounded + n) c.in_ok-stamp_bytes.ensures)
