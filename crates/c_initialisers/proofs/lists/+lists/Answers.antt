use Rattle.std.proofs.Common.{◌≡◌, ◌∙◌, sym, arith}
use Rattle.std.proofs.lemmas.Result.{err_from_is_err_and}
use Rattle.c_initialisers.specs.Lists.{all_given, all_leaves, ahead}
use Rattle.c_initialisers.proofs.Filling.{assign_fills, list_fills, lost_is, lost_stopped, lost_nowhere, lost_here, opened_is, opened_stopped, opened_unjudged, each_turn, each_stopped, each_end}
use Rattle.c_initialisers.proofs.lists.+lists.Goals as goal

pub item-returns-in-Assign : goal.item-returns-in-Assign
item-returns-in-Assign t c =
    assign_fills c.args.object.now c.args.initial.now (all_leaves c.args.object.now) (ahead (all_leaves c.args.object.now) c.args.at)
    (all_given c.args.into.now) c.args.at.fits c.assign.result c.assign.new.into c.in-Assign.source c.in-Assign.is c.assign.ensures

pub item-returns-in-List : goal.item-returns-in-List
item-returns-in-List t c =
    let items : c.as_slice.result.now ≡ c.in-List.items = c.as_slice.ensures in
    list_fills c.args.object.now c.args.initial.now (all_leaves c.args.object.now) (ahead (all_leaves c.args.object.now) c.args.at)
    (all_given c.args.into.now) c.args.at.fits c.listed.result c.listed.new.into c.in-List.items c.in-List.last_comma c.in-List.line
    c.in-List.is (rw (← items) c.listed.ensures)

pub listed-returns-then-at : goal.listed-returns-then-at
listed-returns-then-at t c =
    lost_nowhere c.args.object.now c.args.line c.args.items.now c.args.at c.lost.result c.args.into.now c.lost.ensures (omega arith)

pub listed-returns-in-None : goal.listed-returns-in-None
listed-returns-in-None t c =
    let structs : c.as_slice-structs.result.now ≡ c.args.object.now.env.now.structs = c.as_slice-structs.ensures in
    lost_here c.args.object.now c.args.line c.args.items.now c.args.at c.lost-in-None.result c.args.into.now c.lost-in-None.ensures
    (omega arith) (rw (← structs) c.in_ok-found.ensures.within)
    (sym c.in-None.is ∙ (rw (← structs) c.in_ok-found.ensures.answered.object))

pub lost-returns : goal.lost-returns
lost-returns t c =
    lost_is c.args.object.now c.args.items.now c.args.at (all_given c.new-ignored.result) _ c.unfit.result c.in_ok-each.ensures
    c.unfit.ensures

pub lost-returns-in_err-each : goal.lost-returns-in_err-each
lost-returns-in_err-each t c =
    let p = err_from_is_err_and c.from_residual.result c.from_residual.ensures.1 in
    rw (p.1, p.2) (lost_stopped c.args.object.now c.args.items.now c.args.at (all_given c.new-ignored.result)
    (all_leaves c.args.object.now) c.in_err-each.field-0.0 _ c.in_err-each.ensures)

pub each-loop-initial-preserved : goal.each-loop-initial-preserved
each-loop-initial-preserved t c =
    c.loop-initial.invariant
    ∙ each_turn c.args.object.now c.args.items.now c.loop-initial.initial-index c.initial-item.result c.loop-initial-test.true
    c.initial-item.is (all_given c.loop-initial.into) c.loop-initial.cursor c.in_ok-cursor.cursor c.item.new.into
    c.in_ok-cursor.ensures

pub each-returns : goal.each-returns
each-returns t c =
    c.loop-initial.invariant
    ∙ each_end c.args.object.now c.args.items.now c.loop-initial.initial-index (all_given c.loop-initial.into) c.loop-initial.cursor
    c.loop-initial-test.false

pub each-returns-in_err-cursor : goal.each-returns-in_err-cursor
each-returns-in_err-cursor t c =
    let p = err_from_is_err_and c.from_residual.result c.from_residual.ensures.1 in
    rw (p.1, p.2) (each_stopped c.args.object.now c.args.items.now c.loop-initial.initial-index c.initial-item.result
    (all_given c.args.into.now) (all_given c.loop-initial.into) c.args.at c.loop-initial.cursor c.args.items.now
    c.in_err-cursor.field-0.0 c.item.new.into c.item.new.into c.loop-initial-test.true c.initial-item.is c.loop-initial.invariant
    c.in_err-cursor.ensures)

pub opened-returns : goal.opened-returns
opened-returns t c =
    opened_is c.args.object.now c.args.line c.args.count c.args.items.now c.args.at c.in_ok-inside.inside c.in_ok-inside.behind
    c.in_ok-end.end c.args.into.now c.each.new.into c.len-start.result c.in_ok-inside.ensures c.requires.here c.requires.object
    c.len-start.ensures c.in_ok-end.ensures c.judge.new.into c.in_ok-judge.ensures

pub opened-returns-in_err-end : goal.opened-returns-in_err-end
opened-returns-in_err-end t c =
    let p = err_from_is_err_and c.from_residual-in_err-end.result c.from_residual-in_err-end.ensures.1 in
    rw (p.1, p.2) (opened_stopped c.args.object.now c.args.line c.args.count c.args.items.now c.args.at c.in_ok-inside.inside
    c.in_ok-inside.behind (all_given c.args.into.now) c.in_err-end.field-0.0 c.each.new.into c.each.new.into c.in_ok-inside.ensures
    c.requires.here c.requires.object c.in_err-end.ensures)

pub opened-returns-in_err-judge : goal.opened-returns-in_err-judge
opened-returns-in_err-judge t c =
    let p = err_from_is_err_and c.from_residual-in_err-judge.result c.from_residual-in_err-judge.ensures.1 in
    rw (p.1, p.2) (opened_unjudged c.args.object.now c.args.line c.args.count c.args.items.now c.args.at c.in_ok-inside.inside
    c.in_ok-inside.behind c.in_ok-end.end c.args.into.now c.each.new.into c.len-start.result c.in_ok-inside.ensures
    c.requires.here c.requires.object c.len-start.ensures c.in_ok-end.ensures c.in_err-judge.field-0.0 c.judge.new.into
    c.judge.new.into c.in_err-judge.ensures)
