-- the places found so far and those among the items that are left are all the places
use Rattle.std.proofs.Common.{◌≡◌, ◌*◌, ◌≤◌, ◌++◌, drop, IsTrue}
use Rattle.std.specs.Option.{option_to_list}
use Rattle.asm430.specs.Assembly.{are_formed, places_from}
use Rattle.asm430.proofs.places.walked_place.Given as goal

abbrev pub invariant-loop-item : goal.invariant-loop-item
invariant-loop-item l = record {
  places : option_to_list l.found ++ places_from l.label l.place (drop l.item-index l.items) ≡ places_from l.label 0 l.items;
  formed : IsTrue (are_formed (drop l.item-index l.items));
  small : l.place ≤ 3 * l.item-index;
}
