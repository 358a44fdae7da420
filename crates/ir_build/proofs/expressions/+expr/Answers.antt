use Rattle.std.proofs.Common.{length}
use Rattle.ir_build.proofs.Updates.{call_counted, call_written}
use Rattle.ir_build.proofs.expressions.+expr.Goals as goal

pub expr_steps-returns-in_ok-put_call-in-Call-clause-steps : goal.expr_steps-returns-in_ok-put_call-in-Call-clause-steps
expr_steps-returns-in_ok-put_call-in-Call-clause-steps t c =
    call_written c.args.structs.now c.args.expr.now c.in-Call.function c.in-Call.args c.as_slice-args.result.now c.args.depth
    c.args.code.now c.args_steps.new.code c.put_call.new.code c.in-Call.is c.as_slice-args.ensures
    c.in_ok-args_steps-in-Call.ensures.steps c.in_ok-put_call-in-Call.ensures.steps

pub expr_steps-returns-in_ok-put_call-in-Call-clause-size : goal.expr_steps-returns-in_ok-put_call-in-Call-clause-size
expr_steps-returns-in_ok-put_call-in-Call-clause-size t c =
    call_counted c.args.structs.now c.args.expr.now c.in-Call.function c.in-Call.args c.as_slice-args.result.now
    (length c.args.code.now) (length c.args_steps.new.code) (length c.put_call.new.code) c.in-Call.is c.as_slice-args.ensures
    c.in_ok-args_steps-in-Call.ensures.size c.in_ok-put_call-in-Call.ensures.size
