-- the scalars so far and those of the names that are left are those of all
use Rattle.std.proofs.Common.{◌≡◌, ◌++◌, ◌+◌, ◌*◌, drop}
use Rattle.tics_call.specs.Run.{scalars_from}
use Rattle.tics_call.proofs.player.symbols.Given as goal

abbrev pub invariant-loop-name : goal.invariant-loop-name
invariant-loop-name l = record {
  told : l.scalars.items ++ scalars_from l.address (drop l.name-index l.name-items) ≡ scalars_from 0x4000 l.program.names;
  address : l.address ≡ 0x4000 + 2 * l.name-index;
}
