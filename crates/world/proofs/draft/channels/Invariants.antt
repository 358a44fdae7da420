use Rattle.std.proofs.Common.{◌≡◌, map}
use Rattle.world.specs.TraceFile.{channels_below}
use Rattle.world.proofs.draft.channels.Given as goal

abbrev pub invariant-loop-channel : goal.invariant-loop-channel
invariant-loop-channel l = map (λ c. c.items) l.channels.items ≡ channels_below l.channel l.lines
