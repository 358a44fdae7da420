use Rattle.std.proofs.Common.{◌≡◌, ◌++◌, take}
use Rattle.core_tree.specs.Data as spec
use Rattle.core_layout.proofs.texts.push_behind.Given as goal

abbrev pub invariant-loop-text : goal.invariant-loop-text
invariant-loop-text l = l.into ≡ l.fn.into ++ spec.behind l.before (take l.text-index l.texts)
