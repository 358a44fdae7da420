use Rattle.std.proofs.Common.{◌<◌, ◌≡◌, length, get_or, refl}
use Rattle.core_tree.specs.Data.{global_layout}
use Rattle.core_layout.specs.Laid.{layout_of}
use Rattle.core_layout.proofs.Placing.{stands_first, stands_next, scalars_next, laid_here, all_of}
use Rattle.core_layout.proofs.variables.all_scalars.Goals as goal

pub loop-at-init : goal.loop-at-init
loop-at-init c = record {
  all_are = c.new-all.ensures;
  stands = stands_first c.args.core.now c.first_stamp-stamp.result c.first_stamp-stamp.ensures;
}

pub loop-at-preserved : goal.loop-at-preserved
loop-at-preserved c =
    let core = c.args.core.now in
    let g = c.index-globals-at.result in
    let h : c.loop-at.at < length core.globals = rw (← c.as_slice-globals.ensures) c.loop-at-test.true in
    let is : g ≡ get_or core.globals c.loop-at.at g = rw (← c.as_slice-globals.ensures) c.index-globals-at.is in
    let l : layout_of c.index-laid-at.result ≡ global_layout core g =
    laid_here core c.loop-at.at g h is c.args.laid.now c.index-laid-at.result c.requires.layouts c.index-laid-at.is in
    record {
      all_are = scalars_next core c.loop-at.at g h is (layout_of c.index-laid-at.result) c.loop-at.bytes c.loop-at.stamp
          c.start_behind-start.result _ c.in_ok-names.names c.loop-at.all c.push_scalars.new.into c.loop-at.invariant.stands l
          c.start_behind-start.ensures refl
          (rw (← c.as_slice.ensures) c.in_ok-names.ensures) c.loop-at.invariant.all_are
          (rw (← c.as_slice-in-loop-at.ensures, ← c.as_slice-in-loop-at-2.ensures) c.in_ok-push_scalars.ensures);
      stands = stands_next core c.loop-at.at g h is (layout_of c.index-laid-at.result) c.loop-at.bytes c.loop-at.stamp
          c.start_behind-start.result _ c.behind_stamps-stamp.result c.loop-at.invariant.stands l
          c.start_behind-start.ensures refl
          (rw (← c.as_slice-in-loop-at-3.ensures) c.behind_stamps-stamp.ensures);
    }

pub returns : goal.returns
returns c = all_of c.args.core.now c.loop-at.at c.loop-at.all (rw (← c.as_slice-globals.ensures) c.loop-at-test.false)
    c.loop-at.invariant.all_are
