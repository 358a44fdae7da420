use Rattle.std.proofs.Common.{◌≢◌, arith}
use Rattle.std.proofs.lemmas.Result.{err_from_is_err_and}
use Rattle.c_lex.specs.declared.item.LexErr.TheVariants as err
use Rattle.c_lex.specs.Tokens.{Refuses}
use Rattle.c_lex.proofs.Turns.{kept_on, kept_off, read_all, feeds_next, fresh_next, few_feeds, left, length-left}
use Rattle.c_lex.proofs.lexer.read.Goals as goal

pub returns-in_err-keep-clause-refused : goal.returns-in_err-keep-clause-refused
returns-in_err-keep-clause-refused c =
    let p = err_from_is_err_and c.from_residual-in_err-keep.result c.from_residual-in_err-keep.ensures.1 in
    let h : c.in_err-keep.field-0.0 ≢ err.NoMemory → Refuses c.args.source.now 0 c.in_err-keep.field-0.0 =
    (λ other. kept_off _ _ _ c.loop-at.invariant.reached c.loop-at-test.true c.loop-at.invariant.counted c.loop-at.invariant.fresh
    c.piece_len-n.ensures.value c.in_ok-item.ensures (c.in_err-keep.ensures.kept other)) in
    rw (p.1, p.2) h

pub loop-at-smaller : goal.loop-at-smaller
loop-at-smaller c =
    let on = kept_on _ _ _ c.loop-at.invariant.reached c.loop-at-test.true c.loop-at.invariant.counted c.loop-at.invariant.fresh
    c.piece_len-n.ensures.value c.in_ok-item.ensures c.in_ok-keep.ensures.kept in
    let positive = on.0 in
    omega arith

pub loop-at-preserved : goal.loop-at-preserved
loop-at-preserved c =
    let on = kept_on _ _ _ c.loop-at.invariant.reached c.loop-at-test.true c.loop-at.invariant.counted c.loop-at.invariant.fresh
    c.piece_len-n.ensures.value c.in_ok-item.ensures c.in_ok-keep.ensures.kept in
    let few = few_feeds (left c.args.source.now c.loop-at.at) c.piece_len-n.result in
    record {
      reached = on.1;
      within = omega (arith, c.piece_len-n.ensures.within, length-left c.args.source.now c.loop-at.at);
      counted = feeds_next c.args.source.now c.loop-at.at c.piece_len-n.result c.line_feeds-lines.result c.loop-at.lines
          c.loop-at.invariant.counted c.line_feeds-lines.ensures.value;
      few = omega (arith, few, c.line_feeds-lines.ensures.value);
      fresh = fresh_next c.args.source.now c.loop-at.at c.piece_len-n.result c.loop-at.fresh c.blank_after-fresh.result
          c.loop-at.invariant.fresh c.blank_after-fresh.ensures;
    }

pub returns-clause-tokens : goal.returns-clause-tokens
returns-clause-tokens c = read_all c.loop-at.invariant.reached c.loop-at-test.false
