use Rattle.std.proofs.Common.{rules}
use Rattle.c_interpreter.proofs.Rules.{answers_by_the_rules}
use Rattle.c_interpreter.proofs.whole.meaning.Goals as goal

pub returns-clause-rules : goal.returns-clause-rules
returns-clause-rules c = λ annotated fine.
    answers_by_the_rules annotated c.args.core.now c.args.readings.now c.args.marks c.run_program.result (search rules) fine
