use Rattle.std.proofs.Common.{◌≡◌, ◌-◌}
use Rattle.c_parse_stmt.specs.Repeats.{commas, all_commas}
use Rattle.c_parse.specs.ExternalReading.{param}
use Rattle.c_parse.proofs.functions.param_list.Given as goal

abbrev pub invariant-loop-turn : goal.invariant-loop-turn
invariant-loop-turn l = all_commas (param l.depth) l.fn.tokens ≡ commas (param l.depth) (l._turn-end - l._turn) l.found l.tokens
