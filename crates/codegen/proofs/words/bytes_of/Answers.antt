use Rattle.std.proofs.Common.{arith}
use Rattle.base16.specs.Board.{data_start}
use Rattle.codegen.proofs.Bytes.{first_bytes, datum_step}
use Rattle.codegen.proofs.words.bytes_of.Goals as goal

pub loop-at-init : goal.loop-at-init
loop-at-init c = record {
  within = omega arith;
  same = first_bytes c.args.all.now data_start c.args.count c.in_ok-bytes.bytes.items c.in_ok-bytes.ensures;
}

pub loop-at-preserved : goal.loop-at-preserved
loop-at-preserved c = record {
  within = omega arith;
  same = datum_step c.args.all.now data_start c.args.count c.loop-at.at _ _ c.loop-at.bytes.items c.put_datum.new.bytes.items
      (omega arith) c.loop-at.invariant.within c.loop-at.invariant.same c.put_datum.ensures;
}
