use Rattle.std.proofs.Common.{◌≡◌, ◌++◌, drop}
use Rattle.core_tree.specs.Data as spec
use Rattle.codegen.specs.Words as words
use Rattle.codegen.proofs.data.push_stamps.Given as goal

abbrev pub invariant-loop-stamp : goal.invariant-loop-stamp
invariant-loop-stamp l = record {
  same : l.fn.into ++ words.stamp_data l._core 0 l.stamps
      ≡ l.into ++ words.stamp_data l._core l.stamp-index (drop l.stamp-index l.stamps);
  here : l.low ≡ spec.stamp_address l._core l.stamp-index;
}
