-- The index tells of the scalars noted so far.
use Rattle.std.proofs.Common.{◌≡◌, ◌==◌, ℕ, ◌∙◌, Some, slice_get, take, length, ap, sym, subst, arith, Vec, Global, Option, List, refl}
use Rattle.std.proofs.lemmas.List.{take_all}
use Rattle.base16.specs.declared.image.Scalar.{Scalar}
use Rattle.display.specs.Sets.{value_number, stamp_number, begins_at}
use Rattle.display.proofs.Indexing.{noted-tells, unnoted-tells, one_scalar_more, so_many, value_below, stamp_below}
use Rattle.display.proofs.Walking.{indexed}
use Rattle.display.proofs.index.ScalarIndex.new.Goals as goal
use Rattle.display.proofs.index.ScalarIndex.new.Goals.{in-Some, in_default-stamp}

pub note-requires : goal.note-requires
note-requires c =
    indexed c.loop-n.values.items (value_number (take c.loop-n.n c.args.scalars.now)) c.loop-n.invariant.values
    c.index-scalars-n.result.address
    (value_below c.args.scalars.now c.requires c.loop-n.n c.index-scalars-n.result c.loop-n-test.true c.index-scalars-n.is)

pub note-requires-in-Some : goal.note-requires-in-Some
note-requires-in-Some c =
    indexed c.loop-n.stamps.items (stamp_number (take c.loop-n.n c.args.scalars.now)) c.loop-n.invariant.stamps
    c.in-Some.address
    (stamp_below c.args.scalars.now c.requires c.loop-n.n c.index-scalars-n.result c.in-Some.address c.loop-n-test.true
    c.index-scalars-n.is c.in-Some.is)

same_items : (p q : Vec (Option ℕ) Global) → p ≡ q → p.items ≡ q.items
same_items p q e = ap (λ (v : Vec (Option ℕ) Global). v.items) e

pub loop-n-preserved : goal.loop-n-preserved
loop-n-preserved c =
    let scalars = c.args.scalars.now in
    let n = c.loop-n.n in
    let x = c.index-scalars-n.result in
    let xs = take n scalars in
    let more = one_scalar_more scalars n x c.loop-n-test.true c.index-scalars-n.is in
    let count : c.in-Ok.number ≡ length xs =
    c.in-Ok.ensures.1 ∙ sym (so_many scalars n (omega (arith, c.loop-n-test.true))) in
    record {
      values = λ a l. subst (λ (ys : List Scalar). slice_get c.note.new.places.items a ≡ Some (value_number ys a)) (sym more)
          (noted-tells (λ y b. y.address == b) c.loop-n.values.items c.note.new.places.items xs x x.address c.in-Ok.number a
          c.loop-n.invariant.values (value_below scalars c.requires n x c.loop-n-test.true c.index-scalars-n.is) (λ b. refl) count
          c.note.ensures l);
      stamps = λ a l. subst (λ (ys : List Scalar). slice_get c.match-scalar.stamps.items a ≡ Some (stamp_number ys a)) (sym more)
          (elim c.match-scalar.branch [
            | in-Some w ↦ ap (λ (ps : List (Option ℕ)). slice_get ps a) (same_items _ _ w.stamps-is)
                ∙ noted-tells (λ y b. begins_at y.stamp b) c.loop-n.stamps.items w.note-in-Some.new.places.items xs x
                w.in-Some.address c.in-Ok.number a c.loop-n.invariant.stamps
                (stamp_below scalars c.requires n x w.in-Some.address c.loop-n-test.true c.index-scalars-n.is w.in-Some.is)
                (λ b. ap (λ (o : Option ℕ). begins_at o b) w.in-Some.is) count w.note-in-Some.ensures l
            | in_default-stamp w ↦ ap (λ (ps : List (Option ℕ)). slice_get ps a) (same_items _ _ w.stamps-is)
                ∙ unnoted-tells (λ y b. begins_at y.stamp b) c.loop-n.stamps.items xs x a c.loop-n.invariant.stamps
                (λ b. ap (λ (o : Option ℕ). begins_at o b) w.in_default-stamp.is) l
          ]);
    }

pub returns : goal.returns
returns c =
    let scalars = c.args.scalars.now in
    let all = take_all c.loop-n.n scalars c.loop-n-test.false in
    record {
      values = λ a l. c.loop-n.invariant.values a l ∙ ap (λ (ys : List Scalar). Some (value_number ys a)) all;
      stamps = λ a l. c.loop-n.invariant.stamps a l ∙ ap (λ (ys : List Scalar). Some (stamp_number ys a)) all;
    }
