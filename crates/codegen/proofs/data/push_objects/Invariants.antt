use Rattle.std.proofs.Common.{◌≡◌, ◌++◌, drop}
use Rattle.c_meaning.specs.After as whole
use Rattle.c_run.specs.Actions.{kept}
use Rattle.core_tree.specs.Data as spec
use Rattle.matching.specs.Matches as matches
use Rattle.codegen.specs.Words as words
use Rattle.codegen.proofs.data.push_objects.Given as goal

abbrev pub invariant-loop-at : goal.invariant-loop-at
invariant-loop-at l =
    l.fn.into
    ++ words.object_data (matches.placed l.core (kept (whole.start l.core)))
    (matches.placed_from (spec.global_address l.core) 0 l.objects)
    ≡ l.into
    ++ words.object_data (matches.placed l.core (kept (whole.start l.core)))
    (matches.placed_from (spec.global_address l.core) l.at (drop l.at l.objects))
