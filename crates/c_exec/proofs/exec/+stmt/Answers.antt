use Rattle.std.proofs.Common.{◌≡◌, drop, arith, rules}
use Rattle.std.specs.Prelude.{Ok, Err}
use Rattle.std.proofs.lemmas.Result.{err_from_is_err_and}
use Rattle.std.proofs.lemmas.Grind.{common_steps}
use Rattle.c_meaning.specs.After.{calls}
use Rattle.c_meaning.specs.declared.flow.Flow.TheVariants.{Normal}
use Rattle.c_exec.specs.Groups.{chosen}
use Rattle.c_exec.proofs.Gives.{switched_halts, switched_went, block_gives, while_gives, do_gives, for_none_gives, for_some_gives, for_some_halts, switch_gives, if_yes_gives, if_no_gives, young_gives, old_gives, block_is, fine_gives, caught_gives}
use Rattle.c_exec.proofs.exec.+stmt.Goals as goal

pub stmt-returns-in-Block : goal.stmt-returns-in-Block
stmt-returns-in-Block g t c =
    let core = c.args.body.now.core.now in
    let rs = c.args.body.now.readings.now in
    let cs = calls core rs c.args.body.now.depth in
    block_gives core rs cs c.args.body.now.first c.args.of.now c.args.text.now c.args.run.now c.stmts.result c.stmts.new.run
    c.in-Block.all c.as_slice.result.now c.in-Block.is c.as_slice.ensures c.stmts.ensures

pub stmt-returns-then-branch : goal.stmt-returns-then-branch
stmt-returns-then-branch g t c =
    let core = c.args.body.now.core.now in
    let rs = c.args.body.now.readings.now in
    let cs = calls core rs c.args.body.now.depth in
    if_yes_gives core rs cs c.args.body.now.first c.args.of.now c.args.text.now c.args.run.now c.stmt.result c.stmt.new.run
    c.in-If.test c.in-If.yes c.get.result.now c.in-If.no c.in_ok-holds-in-If.field-0 c.holds.new.run c.in-If.is c.get.ensures
    c.in_ok-holds-in-If.ensures c.if-branch.true c.stmt.ensures

pub stmt-returns-in-Some : goal.stmt-returns-in-Some
stmt-returns-in-Some g t c =
    let core = c.args.body.now.core.now in
    let rs = c.args.body.now.readings.now in
    let cs = calls core rs c.args.body.now.depth in
    if_no_gives core rs cs c.args.body.now.first c.args.of.now c.args.text.now c.args.run.now c.stmt-in-Some.result c.stmt-in-Some.new.run
    c.in-If.test c.in-If.yes c.in-If.no c.in-Some.no c.get-in-Some.result.now c.in_ok-holds-in-If.field-0 c.holds.new.run c.in-If.is c.in-Some.is
    c.get-in-Some.ensures c.in_ok-holds-in-If.ensures c.if-branch.false c.stmt-in-Some.ensures

pub stmt-returns-in-While : goal.stmt-returns-in-While
stmt-returns-in-While g t c =
    let core = c.args.body.now.core.now in
    let rs = c.args.body.now.readings.now in
    let cs = calls core rs c.args.body.now.depth in
    while_gives core rs cs c.args.body.now.first c.args.of.now c.args.text.now c.args.run.now c.while_loop.result c.while_loop.new.run
    c.in-While.test c.in-While.inner c.get-in-While.result.now c.in-While.is c.get-in-While.ensures c.while_loop.ensures

pub stmt-returns-in-Do : goal.stmt-returns-in-Do
stmt-returns-in-Do g t c =
    let core = c.args.body.now.core.now in
    let rs = c.args.body.now.readings.now in
    let cs = calls core rs c.args.body.now.depth in
    do_gives core rs cs c.args.body.now.first c.args.of.now c.args.text.now c.args.run.now c.do_loop.result c.do_loop.new.run
    c.in-Do.test c.in-Do.inner c.get-in-Do.result.now c.in-Do.is c.get-in-Do.ensures c.do_loop.ensures

pub stmt-returns-in-None : goal.stmt-returns-in-None
stmt-returns-in-None g t c =
    let core = c.args.body.now.core.now in
    let rs = c.args.body.now.readings.now in
    let cs = calls core rs c.args.body.now.depth in
    for_none_gives core rs cs c.args.body.now.first c.args.of.now c.args.text.now c.args.run.now c.for_loop.result c.for_loop.new.run
    c.in-For.first c.in-For.test c.in-For.step c.in-For.inner c.get-in-None.result.now c.in-For.is c.in-None.is c.get-in-None.ensures c.for_loop.ensures

pub stmt-returns-in_ok-flow-in-Some-first : goal.stmt-returns-in_ok-flow-in-Some-first
stmt-returns-in_ok-flow-in-Some-first g t c =
    let core = c.args.body.now.core.now in
    let rs = c.args.body.now.readings.now in
    let cs = calls core rs c.args.body.now.depth in
    for_some_gives core rs cs c.args.body.now.first c.args.of.now c.args.text.now c.args.run.now c.for_rest.result c.for_rest.new.run
    c.in-For.first c.in-For.test c.in-For.step c.in-For.inner c.get-in-Some-first-2.result.now c.in-Some-first.first c.get-in-Some-first.result.now
    c.in_ok-flow-in-Some-first.flow c.stmt-in-Some-first.new.run c.in-For.is c.in-Some-first.is c.get-in-Some-first.ensures c.get-in-Some-first-2.ensures
    c.in_ok-flow-in-Some-first.ensures c.for_rest.ensures

pub stmt-returns-in_err-flow-in-Some-first : goal.stmt-returns-in_err-flow-in-Some-first
stmt-returns-in_err-flow-in-Some-first g t c =
    let core = c.args.body.now.core.now in
    let rs = c.args.body.now.readings.now in
    let cs = calls core rs c.args.body.now.depth in
    let p = err_from_is_err_and c.from_residual-in_err-flow-in-Some-first.result c.from_residual-in_err-flow-in-Some-first.ensures.1 in
    rw (p.1, p.2) (for_some_halts core rs cs c.args.body.now.first c.args.of.now c.args.text.now c.args.run.now (Err c.in_err-flow-in-Some-first.field-0.0) c.stmt-in-Some-first.new.run
    c.in-For.first c.in-For.test c.in-For.step c.in-For.inner c.in-Some-first.first c.get-in-Some-first.result.now c.in_err-flow-in-Some-first.field-0.0
    c.in-For.is c.in-Some-first.is c.get-in-Some-first.ensures c.in_err-flow-in-Some-first.ensures)

pub switch-returns-in_err-flow : goal.switch-returns-in_err-flow
switch-returns-in_err-flow g t c =
    let core = c.args.body.now.core.now in
    let rs = c.args.body.now.readings.now in
    let cs = calls core rs c.args.body.now.depth in
    let begin : chosen c.in_ok-number.number c.args.all.now ≡ drop c.chosen.result c.args.all.now = first_of (search rules, grind (arith, common_steps)) in
    let p = err_from_is_err_and c.from_residual-in_err-flow.result c.from_residual-in_err-flow.ensures.1 in
    rw (p.1, p.2) (switched_halts core rs cs c.args.body.now.first c.args.node c.args.on.now c.args.all.now c.args.text.now c.args.run.now
    c.in_ok-number.number c.chosen.result c.switch_number.new.run c.in_err-flow.field-0.0 c.groups.new.run c.in_ok-number.ensures begin c.in_err-flow.ensures)

pub switch-returns : goal.switch-returns
switch-returns g t c =
    let core = c.args.body.now.core.now in
    let rs = c.args.body.now.readings.now in
    let cs = calls core rs c.args.body.now.depth in
    let begin : chosen c.in_ok-number.number c.args.all.now ≡ drop c.chosen.result c.args.all.now = first_of (search rules, grind (arith, common_steps)) in
    switched_went core rs cs c.args.body.now.first c.args.node c.args.on.now c.args.all.now c.args.text.now c.args.run.now
    c.in_ok-number.number c.chosen.result c.switch_number.new.run c.in_ok-flow.flow c.broken_out.result c.groups.new.run c.in_ok-number.ensures begin c.in_ok-flow.ensures c.broken_out.ensures

pub stmt-returns-in-Switch : goal.stmt-returns-in-Switch
stmt-returns-in-Switch g t c =
    let core = c.args.body.now.core.now in
    let rs = c.args.body.now.readings.now in
    let cs = calls core rs c.args.body.now.depth in
    switch_gives core rs cs c.args.body.now.first c.args.of.now c.args.text.now c.args.run.now c.switch.result c.switch.new.run
    c.in-Switch.on c.in-Switch.all c.as_slice-in-Switch.result.now c.in-Switch.is c.as_slice-in-Switch.ensures c.switch.ensures

pub stmt-returns-then-branch-2 : goal.stmt-returns-then-branch-2
stmt-returns-then-branch-2 g t c =
    let core = c.args.body.now.core.now in
    let rs = c.args.body.now.readings.now in
    let cs = calls core rs c.args.body.now.depth in
    young_gives core rs cs c.args.body.now.first c.args.of.now c.args.text.now c.args.run.now c.stmt-then-branch-2.result c.stmt-then-branch-2.new.run
    c.in-Timely.place c.in-Timely.limit c.in-Timely.yes c.get-then-branch-2.result.now c.in-Timely.no c.in_ok-is_young-in-Timely.field-0 c.is_young.new.run
    c.in-Timely.is c.get-then-branch-2.ensures c.in_ok-is_young-in-Timely.ensures c.if-branch-2.true c.stmt-then-branch-2.ensures

pub stmt-returns-in-Some-no : goal.stmt-returns-in-Some-no
stmt-returns-in-Some-no g t c =
    let core = c.args.body.now.core.now in
    let rs = c.args.body.now.readings.now in
    let cs = calls core rs c.args.body.now.depth in
    old_gives core rs cs c.args.body.now.first c.args.of.now c.args.text.now c.args.run.now c.stmt-in-Some-no.result c.stmt-in-Some-no.new.run
    c.in-Timely.place c.in-Timely.limit c.in-Timely.yes c.in-Timely.no c.in-Some-no.no c.get-in-Some-no.result.now c.in_ok-is_young-in-Timely.field-0 c.is_young.new.run
    c.in-Timely.is c.in-Some-no.is c.get-in-Some-no.ensures c.in_ok-is_young-in-Timely.ensures c.if-branch-2.false c.stmt-in-Some-no.ensures

pub stmt-returns-in_err-block-in-Expires : goal.stmt-returns-in_err-block-in-Expires
stmt-returns-in_err-block-in-Expires g t c =
    let core = c.args.body.now.core.now in
    let rs = c.args.body.now.readings.now in
    let cs = calls core rs c.args.body.now.depth in
    rw (block_is core rs cs c.args.body.now.first c.args.of.now c.args.text.now c.args.run.now c.from_residual-in_err-block-in-Expires.result c.block.new.run
    c.in-Expires.names c.as_slice-in-Expires-2.result.now c.in-Expires.inner c.as_slice-in-Expires.result.now c.in-Expires.catch c.in-Expires.is c.as_slice-in-Expires-2.ensures c.as_slice-in-Expires.ensures)
    (first_of (search rules, grind (arith, common_steps)))

pub stmt-returns-then-branch-3 : goal.stmt-returns-then-branch-3
stmt-returns-then-branch-3 g t c =
    let core = c.args.body.now.core.now in
    let rs = c.args.body.now.readings.now in
    let cs = calls core rs c.args.body.now.depth in
    fine_gives core rs cs c.args.body.now.first c.args.of.now c.args.text.now c.args.run.now (Ok Normal) c.block.new.run
    c.in-Expires.names c.as_slice-in-Expires-2.result.now c.in-Expires.inner c.as_slice-in-Expires.result.now c.in-Expires.catch c.in_ok-block-in-Expires.field-0 c.block.new.run
    c.in-Expires.is c.as_slice-in-Expires-2.ensures c.as_slice-in-Expires.ensures c.in_ok-block-in-Expires.ensures c.if-branch-3.true

pub stmt-returns-else-branch-3 : goal.stmt-returns-else-branch-3
stmt-returns-else-branch-3 g t c =
    let core = c.args.body.now.core.now in
    let rs = c.args.body.now.readings.now in
    let cs = calls core rs c.args.body.now.depth in
    caught_gives core rs cs c.args.body.now.first c.args.of.now c.args.text.now c.args.run.now c.stmts-else-branch-3.result c.stmts-else-branch-3.new.run
    c.in-Expires.names c.as_slice-in-Expires-2.result.now c.in-Expires.inner c.as_slice-in-Expires.result.now c.in-Expires.catch c.as_slice-else-branch-3.result.now c.in_ok-block-in-Expires.field-0 c.block.new.run
    c.in-Expires.is c.as_slice-in-Expires-2.ensures c.as_slice-in-Expires.ensures c.as_slice-else-branch-3.ensures c.in_ok-block-in-Expires.ensures c.if-branch-3.false c.stmts-else-branch-3.ensures
