use Rattle.std.proofs.Common.{◌≡◌, ◌-◌, ◌+◌, ◌*◌, [], length}
use Rattle.c_parse_stmt.specs.DeclarationReading as spec
use Rattle.c_parse_stmt.proofs.declarations.+initialiser.Given as goal

-- An initialiser of some height reads brace lists of the height below, these their items, and these initialisers.
abbrev pub decreases-initialiser : goal.decreases-initialiser
decreases-initialiser l = 3 * l.depth

abbrev pub decreases-items : goal.decreases-items
decreases-items l = 3 * l.depth + 1

abbrev pub decreases-brace_list : goal.decreases-brace_list
decreases-brace_list l = 3 * l.depth + 2

abbrev pub invariant-items-loop-turn : goal.invariant-items-loop-turn
invariant-items-loop-turn l = spec.items (spec.initialiser l.depth) (length l.fn.tokens) [] l.fn.tokens
    ≡ spec.items (spec.initialiser l.depth) (l._turn-end - l._turn) l.found l.tokens
