use Rattle.c_lex.proofs.LexLaws.{lexes_one, refuses_one, not_both, decides}
use Rattle.c_lex.proofs.lexer.each_source_is_read_in_one_way.Goals as goal

pub returns-clause-one_list : goal.returns-clause-one_list
returns-clause-one_list c source ts us l m = lexes_one l m

pub returns-clause-one_refusal : goal.returns-clause-one_refusal
returns-clause-one_refusal c source e f r q = refuses_one r q

pub returns-clause-not_both : goal.returns-clause-not_both
returns-clause-not_both c source ts e l r = not_both l r

pub returns-clause-decided : goal.returns-clause-decided
returns-clause-decided c source = decides source
