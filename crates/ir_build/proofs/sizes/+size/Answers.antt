use Rattle.std.proofs.Common.{sym, ◌∙◌}
use Rattle.ir_build.proofs.CodeSizes.{call_capped, local_capped, marked_capped}
use Rattle.ir_build.proofs.sizes.+size.Goals as goal

pub expr_size-returns-in-Call : goal.expr_size-returns-in-Call
expr_size-returns-in-Call t c =
    call_capped c.args.structs.now c.args.expr.now c.in-Call.function c.in-Call.args c.as_slice.result.now c.args_size.result
    c.sum-in-Call.result c.in-Call.is c.as_slice.ensures c.args_size.ensures c.sum-in-Call.ensures

pub expr_size-returns-in-Update-default-default-default-default-default-true :
    goal.expr_size-returns-in-Update-default-default-default-default-default-true
expr_size-returns-in-Update-default-default-default-default-default-true t c =
    let u = c.in-Update-default-default-default-default-default-true in
    marked_capped c.args.structs.now c.args.expr.now u.op u.at u.place
    c.get-in-Update-default-default-default-default-default-true.result.now u.value
    c.get-in-Update-default-default-default-default-default-true-2.result.now u.old u.marked
    c.place_size-in-Update-default-default-default-default-default-true.result
    c.expr_size-in-Update-default-default-default-default-default-true.result
    c.sum-parts-in-Update-default-default-default-default-default-true.result
    c.sum-in-Update-default-default-default-default-default-true.result u.is (sym u.marked-is ∙ u.marked-test)
    c.get-in-Update-default-default-default-default-default-true.ensures
    c.get-in-Update-default-default-default-default-default-true-2.ensures
    c.place_size-in-Update-default-default-default-default-default-true.ensures
    c.expr_size-in-Update-default-default-default-default-default-true.ensures
    c.sum-parts-in-Update-default-default-default-default-default-true.ensures
    c.sum-in-Update-default-default-default-default-default-true.ensures

pub expr_size-returns-then-is_part-2 : goal.expr_size-returns-then-is_part-2
expr_size-returns-then-is_part-2 t c =
    let u = c.in-Update-default-default-default-default-default-false in
    local_capped c.args.structs.now c.args.expr.now u.op u.at u.place
    c.get-in-Update-default-default-default-default-default-false-2.result.now u.value
    c.get-in-Update-default-default-default-default-default-false.result.now u.old u.marked
    c.is_part-in-Update-default-default-default-default-default-false.result
    c.expr_size-value-in-Update-default-default-default-default-default-false.result c.sum-then-is_part-2.result u.is
    (sym u.marked-is ∙ u.marked-test)
    c.get-in-Update-default-default-default-default-default-false-2.ensures
    c.get-in-Update-default-default-default-default-default-false.ensures
    c.is_part-in-Update-default-default-default-default-default-false.ensures c.if-is_part-2.true
    c.expr_size-value-in-Update-default-default-default-default-default-false.ensures c.sum-then-is_part-2.ensures
