use Rattle.std.proofs.Common.{◌≡◌, ◌-◌}
use Rattle.c_parse_stmt.specs.DeclarationReading.{init}
use Rattle.c_parse_stmt.specs.Repeats.{commas, all_commas}
use Rattle.c_parse_stmt.proofs.declarations.read_inits.Given as goal

abbrev pub invariant-loop-turn : goal.invariant-loop-turn
invariant-loop-turn l = all_commas (init l.depth) l.fn.tokens ≡ commas (init l.depth) (l._turn-end - l._turn) l.found l.tokens
