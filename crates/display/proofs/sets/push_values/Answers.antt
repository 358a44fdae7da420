-- The walk over the logged words: two values at most in each.
use Rattle.std.proofs.Common.{◌+◌, ◌*◌, arith, refl, vec_len, vec_capacity}
use Rattle.base16.specs.Board.{data_end}
use Rattle.base16.specs.Memory.{words_of}
use Rattle.display.specs.Display.{display_of}
use Rattle.display.specs.Log.{shown_before}
use Rattle.display.specs.Sets.{value_set, value_number}
use Rattle.display.proofs.Walking.{walk-starts, values-end, values-turn, walk-room, walk-left, indexed, entries_from-few}
use Rattle.display.proofs.sets.push_values.Goals as goal

pub walk-init : goal.walk-init
walk-init c =
    let m = words_of c.args.fram.now.words in
    let few = entries_from-few c.args.log m 0 in
    record {
      items = walk-starts (value_set c.args.scalars.now (shown_before c.args.scalars.now c.args.log m)
          (display_of c.args.scalars.now m)) c.args.sets.now.items;
      even = refl;
      bound = omega arith;
      room = omega arith;
      capacity = omega arith;
    }

pub returns-then-at-clause-items : goal.returns-then-at-clause-items
returns-then-at-clause-items c =
    let m = words_of c.args.fram.now.words in
    values-end c.args.scalars.now c.args.log m c.walk.done data_end c.args.sets.now.items c.walk.sets.items
    c.walk.invariant.even (λ i l h k. omega (arith, c.next_logged-at.ensures.first i l h k, c.if-at.true)) c.walk.invariant.bound
    c.walk.invariant.items

pub value_at-requires : goal.value_at-requires
value_at-requires c =
    indexed c.args.index.now.values (value_number c.args.scalars.now) c.requires.index.values c.next_logged-at.result
    (omega (arith, c.next_logged-at.ensures.high, c.if-at.false))

pub push_value-requires-clause-room : goal.push_value-requires-clause-room
push_value-requires-clause-room c =
    let m = words_of c.args.fram.now.words in
    let e = c.next_logged-at.ensures.found (omega (arith, c.next_logged-at.ensures.high, c.if-at.false)) in
    omega (
      arith,
      walk-room c.args.log m c.walk.done c.next_logged-at.result (vec_len c.walk.sets) (vec_len c.args.sets.now)
          (vec_capacity c.args.sets.now) (vec_capacity c.walk.sets) e c.walk.invariant.room c.requires.room
          c.walk.invariant.capacity,
    )

pub value_at-requires-in-walk : goal.value_at-requires-in-walk
value_at-requires-in-walk c =
    let e = c.next_logged-at.ensures.found (omega (arith, c.next_logged-at.ensures.high, c.if-at.false)) in
    let even = e.even in
    indexed c.args.index.now.values (value_number c.args.scalars.now) c.requires.index.values (c.next_logged-at.result + 1)
    (omega (arith, c.next_logged-at.ensures.high, c.if-at.false))

pub push_value-requires-in-walk-clause-room : goal.push_value-requires-in-walk-clause-room
push_value-requires-in-walk-clause-room c =
    let m = words_of c.args.fram.now.words in
    let e = c.next_logged-at.ensures.found (omega (arith, c.next_logged-at.ensures.high, c.if-at.false)) in
    omega (
      arith,
      c.push_value.ensures.len,
      c.push_value.ensures.capacity,
      walk-room c.args.log m c.walk.done c.next_logged-at.result (vec_len c.walk.sets) (vec_len c.args.sets.now)
          (vec_capacity c.args.sets.now) (vec_capacity c.walk.sets) e c.walk.invariant.room c.requires.room
          c.walk.invariant.capacity,
    )

pub walk-preserved : goal.walk-preserved
walk-preserved c =
    let m = words_of c.args.fram.now.words in
    let at = c.next_logged-at.result in
    let e = c.next_logged-at.ensures.found (omega (arith, c.next_logged-at.ensures.high, c.if-at.false)) in
    let even = e.even in
    let more = c.push_value.ensures.len in
    let again = c.push_value-in-walk.ensures.len in
    record {
      items = values-turn c.args.scalars.now c.args.log m c.walk.done at c.args.sets.now.items c.walk.sets.items
          c.push_value.new.sets.items c.push_value-in-walk.new.sets.items c.args.index.now.values c.value_at.result
          c.value_at-in-walk.result c.walk.invariant.even c.next_logged-at.ensures.first e.from
          (omega (arith, c.next_logged-at.ensures.high, c.if-at.false)) c.requires.index.values c.walk.invariant.items
          c.value_at.ensures c.value_at-in-walk.ensures c.push_value.ensures.items c.push_value-in-walk.ensures.items;
      even = omega arith;
      bound = omega (arith, c.next_logged-at.ensures.high, c.if-at.false);
      room = walk-left c.args.log m c.walk.done at (vec_len c.walk.sets) (vec_len c.push_value-in-walk.new.sets)
          (vec_len c.args.sets.now + 2 * c.args.log) e c.walk.invariant.room (omega (arith, more, again));
      capacity = omega (arith, c.push_value.ensures.capacity, c.push_value-in-walk.ensures.capacity, c.walk.invariant.capacity);
    }
