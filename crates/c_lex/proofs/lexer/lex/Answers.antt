use Rattle.c_lex.proofs.Outcome.{only_tokens, only_refusal, are_in_order, are_slices, are_counted}
use Rattle.c_lex.proofs.lexer.lex.Goals as goal

pub returns-clause-only_tokens : goal.returns-clause-only_tokens
returns-clause-only_tokens c = only_tokens c.args.source.now c.read.result c.read.ensures.tokens c.read.ensures.refused

pub returns-clause-only_refusal : goal.returns-clause-only_refusal
returns-clause-only_refusal c = only_refusal c.args.source.now c.read.result c.read.ensures.tokens c.read.ensures.refused

pub returns-clause-in_order : goal.returns-clause-in_order
returns-clause-in_order c = are_in_order c.args.source.now c.read.result c.read.ensures.tokens

pub returns-clause-slices : goal.returns-clause-slices
returns-clause-slices c = are_slices c.args.source.now c.read.result c.read.ensures.tokens

pub returns-clause-counted : goal.returns-clause-counted
returns-clause-counted c = are_counted c.args.source.now c.read.result c.read.ensures.tokens
