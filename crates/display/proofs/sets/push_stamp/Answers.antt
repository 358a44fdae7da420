-- A stamp lies in the data, and is shown where it differs.
use Rattle.base16.specs.Memory.{words_of}
use Rattle.display.proofs.Pushing.{known_place, untimed-kept, stamp-kept, stamp-pushed}
use Rattle.display.proofs.sets.push_stamp.Goals as goal

pub returns-in_default-stamp-clause-items : goal.returns-in_default-stamp-clause-items
returns-in_default-stamp-clause-items c =
    untimed-kept c.args.scalars.now c.args.log (words_of c.args.fram.now.words) c.in-Some.scalar c.index-scalars-scalar.result
    c.args.number c.args.sets.now.items c.in-Some.is c.requires.known c.index-scalars-scalar.is c.in_default-stamp.is

pub stamp_before-old-requires-clause-place : goal.stamp_before-old-requires-clause-place
stamp_before-old-requires-clause-place c =
    known_place c.args.scalars.now c.requires.placed c.in-Some.scalar c.index-scalars-scalar.result c.args.number
    c.in-Some-stamp.at c.in-Some.is c.requires.known c.index-scalars-scalar.is c.in-Some-stamp.is

pub stamp_now-ms-requires : goal.stamp_now-ms-requires
stamp_now-ms-requires c =
    known_place c.args.scalars.now c.requires.placed c.in-Some.scalar c.index-scalars-scalar.result c.args.number
    c.in-Some-stamp.at c.in-Some.is c.requires.known c.index-scalars-scalar.is c.in-Some-stamp.is

pub returns-then-ne-clause-items : goal.returns-then-ne-clause-items
returns-then-ne-clause-items c =
    stamp-pushed c.args.scalars.now c.args.log (words_of c.args.fram.now.words) c.in-Some.scalar c.index-scalars-scalar.result
    c.args.number c.args.sets.now.items c.push_within.new.sets.items c.in-Some-stamp.at c.stamp_before-old.result
    c.stamp_now-ms.result c.in-Some.is c.requires.known c.index-scalars-scalar.is c.in-Some-stamp.is
    c.stamp_before-old.ensures c.stamp_now-ms.ensures c.if-ne.ensures c.push_within.ensures.items

pub returns-else-ne-clause-items : goal.returns-else-ne-clause-items
returns-else-ne-clause-items c =
    stamp-kept c.args.scalars.now c.args.log (words_of c.args.fram.now.words) c.in-Some.scalar c.index-scalars-scalar.result
    c.args.number c.args.sets.now.items c.in-Some-stamp.at c.stamp_before-old.result c.stamp_now-ms.result c.in-Some.is
    c.requires.known c.index-scalars-scalar.is c.in-Some-stamp.is c.stamp_before-old.ensures c.stamp_now-ms.ensures
    c.if-ne.ensures
