-- The registers of a valid instruction are below 16.
use Rattle.isa430.proofs.InMemory.{destination_register}
use Rattle.isa430.proofs.to_words.assemble.Goals as goal

pub two_first-requires-clause-destination : goal.two_first-requires-clause-destination
two_first-requires-clause-destination c =
    destination_register c.in-Two.op c.in-Two.byte c.in-Two.src c.in-Two.dst (rw c.in-Two.is at c.requires)
