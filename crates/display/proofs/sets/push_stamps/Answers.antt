-- The walk over the logged words: the stamp whose second word is logged, and the one whose first word is.
use Rattle.std.proofs.Common.{◌≡◌, ℕ, ◌+◌, ◌-◌, ◌*◌, ◌<◌, ◌≤◌, ◌%◌, ◌++◌, ap, ◌∙◌, arith, refl, vec_len, vec_capacity, Vec, Global}
use Rattle.base16.specs.Board.{data_end}
use Rattle.base16.specs.Memory.{words_of}
use Rattle.world.specs.declared.history.Shown.{Shown}
use Rattle.display.specs.Display.{display_of}
use Rattle.display.specs.Log.{shown_before}
use Rattle.display.specs.Sets.{stamp_set, stamp_number, all_below}
use Rattle.display.proofs.Walking.{walk-starts, stamps-end, stamps-before, stamps-turn, walk-room, walk-left, indexed, entries_from-few}
use Rattle.display.proofs.sets.push_stamps.Goals as goal
use Rattle.display.proofs.sets.push_stamps.Goals.{then-done-at, else-done-at}

same_items : (s t : Vec Shown Global) → s ≡ t → s.items ≡ t.items
same_items s t e = ap (λ (v : Vec Shown Global). v.items) e

same_len : (s t : Vec Shown Global) → s ≡ t → vec_len s ≡ vec_len t
same_len s t e = ap (λ (v : Vec Shown Global). vec_len v) e

same_capacity : (s t : Vec Shown Global) → s ≡ t → vec_capacity s ≡ vec_capacity t
same_capacity s t e = ap (λ (v : Vec Shown Global). vec_capacity v) e

even_next : (done at : ℕ) → done % 2 ≡ 0 → at % 2 ≡ 0 → done ≤ at → at < done + 2 → done ≡ at
even_next done at d a l h = omega arith

pub walk-init : goal.walk-init
walk-init c =
    let m = words_of c.args.fram.now.words in
    let few = entries_from-few c.args.log m 0 in
    record {
      items = walk-starts (stamp_set c.args.scalars.now (shown_before c.args.scalars.now c.args.log m)
          (display_of c.args.scalars.now m)) c.args.sets.now.items;
      even = refl;
      bound = omega arith;
      room = omega arith;
      capacity = omega arith;
    }

pub returns-then-at-clause-items : goal.returns-then-at-clause-items
returns-then-at-clause-items c =
    let m = words_of c.args.fram.now.words in
    stamps-end c.args.scalars.now c.args.log m c.walk.done data_end c.args.sets.now.items c.walk.sets.items c.requires.placed
    (λ i l h k. omega (arith, c.next_logged-at.ensures.first i l h k, c.if-at.true)) c.walk.invariant.bound (omega arith)
    c.walk.invariant.items

pub stamp_at-requires : goal.stamp_at-requires
stamp_at-requires c =
    indexed c.args.index.now.stamps (stamp_number c.args.scalars.now) c.requires.index.stamps (c.next_logged-at.result - 2)
    (omega (arith, c.next_logged-at.ensures.high, c.if-at.false))

pub push_stamp-requires-clause-room : goal.push_stamp-requires-clause-room
push_stamp-requires-clause-room c =
    let m = words_of c.args.fram.now.words in
    let e = c.next_logged-at.ensures.found (omega (arith, c.next_logged-at.ensures.high, c.if-at.false)) in
    omega (
      arith,
      walk-room c.args.log m c.walk.done c.next_logged-at.result (vec_len c.walk.sets) (vec_len c.args.sets.now)
          (vec_capacity c.args.sets.now) (vec_capacity c.walk.sets) e c.walk.invariant.room c.requires.room
          c.walk.invariant.capacity,
    )

pub stamp_at-requires-in-walk : goal.stamp_at-requires-in-walk
stamp_at-requires-in-walk c =
    indexed c.args.index.now.stamps (stamp_number c.args.scalars.now) c.requires.index.stamps c.next_logged-at.result
    (omega (arith, c.next_logged-at.ensures.high, c.if-at.false))

pub push_stamp-requires-in-walk-clause-room : goal.push_stamp-requires-in-walk-clause-room
push_stamp-requires-in-walk-clause-room c =
    let m = words_of c.args.fram.now.words in
    let e = c.next_logged-at.ensures.found (omega (arith, c.next_logged-at.ensures.high, c.if-at.false)) in
    let room = walk-room c.args.log m c.walk.done c.next_logged-at.result (vec_len c.walk.sets) (vec_len c.args.sets.now)
    (vec_capacity c.args.sets.now) (vec_capacity c.walk.sets) e c.walk.invariant.room c.requires.room
    c.walk.invariant.capacity in
    elim c.if-done-at.branch [
      | then-done-at w ↦ omega (
        arith,
        room,
        same_len _ _ w.sets-is,
        same_capacity _ _ w.sets-is,
        w.push_stamp.ensures.len,
        w.push_stamp.ensures.capacity,
      )
      | else-done-at w ↦ omega (arith, room, same_len _ _ w.sets-is, same_capacity _ _ w.sets-is)
    ]

pub walk-preserved : goal.walk-preserved
walk-preserved c =
    let m = words_of c.args.fram.now.words in
    let at = c.next_logged-at.result in
    let d = shown_before c.args.scalars.now c.args.log m in
    let f = display_of c.args.scalars.now m in
    let xs = c.args.sets.now.items in
    let e = c.next_logged-at.ensures.found (omega (arith, c.next_logged-at.ensures.high, c.if-at.false)) in
    let even = e.even in
    let from = e.from in
    let last = c.push_stamp-in-walk.ensures.len in
    let below : at < data_end = omega (arith, c.next_logged-at.ensures.high, c.if-at.false) in
    let shown : c.if-done-at.sets.items ≡ xs ++ all_below (stamp_set c.args.scalars.now d f) at =
    elim c.if-done-at.branch [
      | then-done-at w ↦ same_items _ _ w.sets-is
          ∙ stamps-before c.args.scalars.now c.args.log m c.walk.done at xs c.walk.sets.items w.push_stamp.new.sets.items
          c.args.index.now.stamps w.stamp_at.result c.requires.placed even c.next_logged-at.ensures.first
          w.if-done-at.true below c.requires.index.stamps c.walk.invariant.items w.stamp_at.ensures
          w.push_stamp.ensures.items
      | else-done-at w ↦ same_items _ _ w.sets-is ∙ c.walk.invariant.items
          ∙ ap (λ j. xs ++ all_below (stamp_set c.args.scalars.now d f) j)
          (even_next c.walk.done at c.walk.invariant.even even from w.if-done-at.false)
    ] in
    let few : vec_len c.push_stamp-in-walk.new.sets ≤ vec_len c.walk.sets + 2 = elim c.if-done-at.branch [
      | then-done-at w ↦ omega (arith, last, same_len _ _ w.sets-is, w.push_stamp.ensures.len)
      | else-done-at w ↦ omega (arith, last, same_len _ _ w.sets-is)
    ] in
    let wide : vec_capacity c.walk.sets ≤ vec_capacity c.push_stamp-in-walk.new.sets = elim c.if-done-at.branch [
      | then-done-at w ↦ omega (
        arith,
        c.push_stamp-in-walk.ensures.capacity,
        same_capacity _ _ w.sets-is,
        w.push_stamp.ensures.capacity,
      )
      | else-done-at w ↦ omega (arith, c.push_stamp-in-walk.ensures.capacity, same_capacity _ _ w.sets-is)
    ] in
    record {
      items = stamps-turn c.args.scalars.now d f at xs c.if-done-at.sets.items c.push_stamp-in-walk.new.sets.items
          c.args.index.now.stamps c.stamp_at-in-walk.result c.requires.placed even below c.requires.index.stamps shown
          c.stamp_at-in-walk.ensures c.push_stamp-in-walk.ensures.items;
      even = omega arith;
      bound = omega arith;
      room = walk-left c.args.log m c.walk.done at (vec_len c.walk.sets) (vec_len c.push_stamp-in-walk.new.sets)
          (vec_len c.args.sets.now + 2 * c.args.log) e c.walk.invariant.room few;
      capacity = omega (arith, wide, c.walk.invariant.capacity);
    }
