-- no name so far stands again later
use Rattle.std.proofs.Common.{◌≡◌, drop}
use Rattle.tics_call.specs.Form.{are_distinct}
use Rattle.tics_call.proofs.form.are_distinct.Given as goal

abbrev pub invariant-loop-place : goal.invariant-loop-place
invariant-loop-place l = are_distinct (drop l.place l.names) ≡ are_distinct l.names
