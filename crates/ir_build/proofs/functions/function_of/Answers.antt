use Rattle.std.proofs.Common.{◌≡◌, ◌∙◌, List, length, map, ap, rules}
use Rattle.core_tree.specs.declared.types.Slot.{Slot}
use Rattle.core_tree.specs.declared.types.Struct.{Struct}
use Rattle.core_layout.specs.Laid.{layout_of}
use Rattle.core_layout.specs.declared.layouts.Laid.{Laid}
use Rattle.c_meaning.specs.After.{is_main}
use Rattle.ir_gen.specs.Body.{function_steps}
use Rattle.ir_build.specs.Laying.{placed_from, slots_in}
use Rattle.ir_build.proofs.Placing.{function_made}
use Rattle.ir_build.proofs.functions.function_of.Goals as goal

pub returns : goal.returns
returns c =
    let x = c.args.function.now in
    let params : c.from.result ≡ length x.params = search rules in
    function_made c.args.core.now.structs x c.in_ok-frame.frame c.from.result (map layout_of c.in_ok-laid.laid)
    c.in_ok-objects.objects c.in_ok-locals.locals c.in_ok-steps.steps c.in_ok-frame.ensures params
    (rw (← c.as_slice-structs.ensures) c.in_ok-laid.ensures)
    (c.in_ok-objects.ensures ∙ ap (λ (ls : List Laid). slots_in (map layout_of ls)) c.as_slice-2.ensures)
    (c.in_ok-locals.ensures ∙ ap (λ (ls : List Laid). placed_from 0 (map layout_of ls)) c.as_slice-4.ensures)
    (c.in_ok-steps.ensures
    ∙ (ap (λ (ss : List Struct). function_steps ss c.as_slice-3.result.now (is_main x) (length x.params) x.node x.body)
    c.as_slice-structs.ensures
    ∙ ap (λ (os : List (List Slot)). function_steps c.args.core.now.structs os (is_main x) (length x.params) x.node x.body)
    c.as_slice-3.ensures))
