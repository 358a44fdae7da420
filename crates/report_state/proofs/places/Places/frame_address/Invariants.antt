use Rattle.std.proofs.Common.{◌≡◌, drop}
use Rattle.report_state.specs.Addresses.{frame_address}
use Rattle.report_state.proofs.places.Places.frame_address.Given as goal

abbrev pub invariant-loop-call : goal.invariant-loop-call
invariant-loop-call l = frame_address l.self.core.now l.number l.calls ≡ frame_address l.self.core.now l.number (drop l.call-index l.calls)
