use Rattle.std.proofs.Common.{◌≡◌, drop, map}
use Rattle.c_checking.specs.Annotations as spec
use Rattle.c_calls.proofs.annotations.has_annotations.Given as goal

abbrev pub invariant-loop-external : goal.invariant-loop-external
invariant-loop-external l =
    spec.any_of (map spec.is_annotated l.tree.externals) ≡ spec.any_of (map spec.is_annotated (drop l.external-index l.tree.externals))
