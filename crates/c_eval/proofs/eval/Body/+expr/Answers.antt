use Rattle.std.proofs.Common.{arith, rules, ap, sym, ◌∙◌}
use Rattle.std.proofs.lemmas.Grind.{common_steps}
use Rattle.core_tree.specs.declared.expressions.ExprKind.TheVariants as e
use Rattle.c_meaning.specs.After.{calls}
use Rattle.c_eval.proofs.OneLayer.{call_is}
use Rattle.c_eval.proofs.Updating.{update_gives}
use Rattle.c_eval.proofs.eval.Body.+expr.Goals as goal

pub expr-returns-in_err-args-in-Call : goal.expr-returns-in_err-args-in-Call
expr-returns-in_err-args-in-Call g t c =
    let core = c.args.self.now.core.now in
    let rs = c.args.self.now.readings.now in
    rw (call_is core.structs rs (calls core rs c.args.self.now.depth) c.args.self.now.first c.args.expr.now c.in-Call.function c.as_slice.result.now c.args.run.now (c.in-Call.is ∙ ap (λ l. e.Call c.in-Call.function l) (sym c.as_slice.ensures)))
    (first_of (search rules, grind (arith, common_steps)))

pub expr-returns-in_ok-args-in-Call : goal.expr-returns-in_ok-args-in-Call
expr-returns-in_ok-args-in-Call g t c =
    let core = c.args.self.now.core.now in
    let rs = c.args.self.now.readings.now in
    rw (call_is core.structs rs (calls core rs c.args.self.now.depth) c.args.self.now.first c.args.expr.now c.in-Call.function c.as_slice.result.now c.args.run.now (c.in-Call.is ∙ ap (λ l. e.Call c.in-Call.function l) (sym c.as_slice.ensures)))
    (first_of (search rules, grind (arith, common_steps)))

pub expr-returns-in_ok-by-in-Update : goal.expr-returns-in_ok-by-in-Update
expr-returns-in_ok-by-in-Update g t c =
    let core = c.args.self.now.core.now in
    let rs = c.args.self.now.readings.now in
    update_gives core.structs c.as_slice-structs.result.now rs (calls core rs c.args.self.now.depth) c.args.self.now.first c.args.expr.now
    c.in-Update.op c.in-Update.at c.in-Update.place c.get-in-Update.result.now c.in-Update.value c.get-value.result.now c.in-Update.old c.in-Update.marked
    c.in_ok-place-in-Update.place c.kind_of-in-Update.result c.in_ok-before-in-Update.before c.in_ok-by-in-Update.by
    c.args.run.now c.place-in-Update.new.run c.expr-in-Update.new.run c.store-in-Update.result c.store-in-Update.new.run
    c.in-Update.is c.get-in-Update.ensures c.get-value.ensures c.as_slice-structs.ensures
    c.in_ok-place-in-Update.ensures c.kind_of-in-Update.ensures c.in_ok-before-in-Update.ensures c.in_ok-by-in-Update.ensures c.store-in-Update.ensures
