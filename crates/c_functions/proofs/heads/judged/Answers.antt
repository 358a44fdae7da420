use Rattle.c_checking.specs.Functions.{listed}
use Rattle.c_functions.proofs.Returning.{params_end}
use Rattle.c_functions.proofs.heads.judged.Goals as goal

pub returns-clause-kept : goal.returns-clause-kept
returns-clause-kept c =
    params_end c.args.env.now c.listed.new.env c.leave.new.env c.forget.new.env c.args.line (listed c.args.params.now)
    c.in_ok-params.params c.len-names.result c.len-locals.result c.len-names.ensures c.len-locals.ensures
    c.in_ok-params.ensures c.leave.ensures c.forget.ensures
