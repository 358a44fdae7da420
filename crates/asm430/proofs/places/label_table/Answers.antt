-- One item more, and the end.
use Rattle.std.proofs.Common.{arith}
use Rattle.asm430.proofs.Steps.{filler, formed_next}
use Rattle.asm430.proofs.Labels.{labels_noted, labels_passed, no_label, here_step}
use Rattle.asm430.proofs.places.label_table.Goals as goal
use Rattle.asm430.proofs.places.label_table.Goals.{in-Label+in_ok-note, in_default}

pub words_of-place-requires : goal.words_of-place-requires
words_of-place-requires c = (formed_next _ _ _ c.loop-item-test.true c.loop-item.invariant.formed).0

pub loop-item-preserved : goal.loop-item-preserved
loop-item-preserved c = record {
  labels = elim c.match-item.branch [
    | in-Label+in_ok-note w ↦
        rw w.table-is (labels_noted _ _ filler _ _ c.loop-item.table w.note.new.table c.loop-item-test.true w.in-Label.is c.loop-item.invariant.here c.loop-item.invariant.labels w.in_ok-note.ensures)
    | in_default w ↦ rw w.table-is (labels_passed _ _ filler c.loop-item.table c.loop-item-test.true (no_label _ w.in_default.not-Label) c.loop-item.invariant.labels)
  ];
  formed = (formed_next _ _ filler c.loop-item-test.true c.loop-item.invariant.formed).1;
  here = here_step _ _ filler _ _ c.loop-item-test.true c.words_of-place.ensures.value c.loop-item.invariant.here;
  small = omega arith;
}
