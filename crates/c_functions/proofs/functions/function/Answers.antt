use Rattle.c_functions.specs.Heads.{shown}
use Rattle.c_functions.proofs.Declaring.{rule_stops, function_becomes}
use Rattle.c_functions.proofs.functions.function.Goals as goal

pub returns : goal.returns
returns c =
    rule_stops c.args.definitions.now c.args.source.now c.args.draft.now _ (shown c.in_ok-head.head) c.head_of.new.env
    c.in_ok-function_rule.field-0 c.in-Some.rule c.broken.result c.in_ok-head.ensures.head c.in_ok-head.ensures.kept
    c.in_ok-function_rule.ensures c.in-Some.is c.broken.ensures

pub returns-in-None : goal.returns-in-None
returns-in-None c =
    function_becomes c.args.definitions.now c.args.source.now c.args.draft.now c.accepted.new.draft (shown c.in_ok-head.head)
    c.head_of.new.env c.in_ok-function_rule.field-0 c.accepted.result c.in_ok-head.ensures.head c.in_ok-head.ensures.kept
    c.in_ok-function_rule.ensures c.in-None.is c.accepted.ensures
