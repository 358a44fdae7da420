use Rattle.std.proofs.Common.{arith}
use Rattle.c_initialisers.proofs.Counting.{kept_total}
use Rattle.c_initialisers.proofs.scalars.struct_total.Goals as goal

pub returns-in-Some : goal.returns-in-Some
returns-in-Some c =
    kept_total c.args._structs.now c.args.known.now c.args.tag c.in-Some.starts c.index-known-at.result c.last_of.result c.requires
    (omega arith) (rw (← c.from-at.ensures) c.index-known-at.is) c.in-Some.is (rw (← c.as_slice.ensures) c.last_of.ensures)
