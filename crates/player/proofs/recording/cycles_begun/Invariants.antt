use Rattle.std.proofs.Common.{◌≡◌, ◌≤◌, take}
use Rattle.player.specs.Form.{cycles_in}
use Rattle.player.proofs.recording.cycles_begun.Given as goal

abbrev pub invariant-loop-record : goal.invariant-loop-record
invariant-loop-record l = record {
  few : l.begun ≤ l.record-index;
  is : l.begun ≡ cycles_in (take l.record-index l.records);
}
