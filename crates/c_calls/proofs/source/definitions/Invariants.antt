use Rattle.std.proofs.Common.{◌≡◌, ◌++◌, drop, map}
use Rattle.core_tree.specs.Reaching.{joined}
use Rattle.c_checking.specs.Calls as spec
use Rattle.c_calls.proofs.source.definitions.Given as goal

abbrev pub invariant-loop-external : goal.invariant-loop-external
invariant-loop-external l =
    spec.definitions l.tree ≡ l.names ++ joined (map spec.definition_by (drop l.external-index l.tree.externals))
