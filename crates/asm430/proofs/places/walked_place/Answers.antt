-- One item more, and the end.
use Rattle.std.proofs.Common.{arith, sym, ◌∙◌}
use Rattle.asm430.proofs.Steps.{filler, none_of, formed_next, places_step_found, places_step_passed, twice_some, ended}
use Rattle.asm430.proofs.places.walked_place.Goals as goal
use Rattle.asm430.proofs.places.walked_place.Goals.{then-is_label+else-is_some, else-is_label}

pub words_of-place-requires : goal.words_of-place-requires
words_of-place-requires c = (formed_next _ _ _ c.loop-item-test.true c.loop-item.invariant.formed).0

pub returns : goal.returns
returns c = ended _ _ _ _ _ c.loop-item-test.false c.loop-item.invariant.places

pub loop-item-preserved : goal.loop-item-preserved
loop-item-preserved c = record {
  places = elim c.if-is_label.branch [
    | then-is_label+else-is_some w ↦
        places_step_found _ _ filler _ _ _ _ _ _ c.loop-item-test.true (sym c.is_label.ensures ∙ w.if-is_label.true)
        (none_of _ _ w.is_some.ensures w.if-is_some.false) w.found-is c.words_of-place.ensures.value c.loop-item.invariant.places
    | else-is_label w ↦
        places_step_passed _ _ filler _ _ _ _ _ _ c.loop-item-test.true (sym c.is_label.ensures ∙ w.if-is_label.false)
        w.found-is c.words_of-place.ensures.value c.loop-item.invariant.places
  ];
  formed = (formed_next _ _ filler c.loop-item-test.true c.loop-item.invariant.formed).1;
  small = omega arith;
}

pub returns-then-is_some : goal.returns-then-is_some
returns-then-is_some c =
    twice_some _ _ filler _ _ _ _ c.loop-item-test.true (sym c.is_label.ensures ∙ c.if-is_label.true) c.is_some.ensures c.if-is_some.true
    c.loop-item.invariant.places
