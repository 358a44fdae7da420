-- The outputs behind what is shown of their number.
use Rattle.std.proofs.Common.{arith}
use Rattle.base16.specs.Memory.{words_of}
use Rattle.display.specs.Display.{display_of}
use Rattle.display.specs.Log.{shown_before}
use Rattle.display.specs.Sets.{length_change, out_change}
use Rattle.display.proofs.Pushing.{length-shown, outputs-start, outputs-more}
use Rattle.display.proofs.sets.push_outputs.Goals as goal

pub loop-index-init : goal.loop-index-init
loop-index-init c =
    let m = words_of c.args.fram.now.words in
    let d = shown_before c.args.scalars.now c.args.log m in
    let f = display_of c.args.scalars.now m in
    record {
      items = outputs-start (out_change d f) c.args.sets.now.items (length_change d f) c.push_length.new.sets.items
          (length-shown c.args.scalars.now c.args.log m c.args.sets.now.items c.push_length.new.sets.items
          c.word_before.result c.get.result c.outputs_in-old.result c.outputs_in-length.result c.word_before.ensures
          c.get.ensures.memory c.outputs_in-old.ensures c.outputs_in-length.ensures c.push_length.ensures.items);
      room = omega (arith, c.push_length.ensures.len);
      capacity = c.push_length.ensures.capacity;
    }

pub loop-index-preserved : goal.loop-index-preserved
loop-index-preserved c =
    let m = words_of c.args.fram.now.words in
    let d = shown_before c.args.scalars.now c.args.log m in
    let f = display_of c.args.scalars.now m in
    record {
      items = outputs-more (out_change d f) c.args.sets.now.items (length_change d f) c.loop-index.sets.items
          c.push_output.new.sets.items c.loop-index.index c.loop-index.invariant.items c.push_output.ensures.items;
      room = omega (arith, c.push_output.ensures.len, c.loop-index.invariant.room);
      capacity = omega (arith, c.push_output.ensures.capacity, c.loop-index.invariant.capacity);
    }
