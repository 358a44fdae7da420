use Rattle.std.proofs.Common.{◌≡◌, take}
use Rattle.world.specs.TraceFile.{channel_of}
use Rattle.world.proofs.draft.channel_values.Given as goal

abbrev pub invariant-loop-line : goal.invariant-loop-line
invariant-loop-line l = l.values.items ≡ channel_of (take l.line-index l.lines) l.channel
