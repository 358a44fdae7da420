use Rattle.c_run.specs.Changes.{changed_call}
use Rattle.c_run.proofs.Changing.{replaced}
use Rattle.c_run.proofs.put.change_call_at.Goals as goal

pub returns : goal.returns
returns c =
    replaced (changed_call c.args.number c.args.change) c.args.calls.now c.replace-call.new.self c.set.new.self c.args.at
    c.replace-call.result c.changed_call.result (record { function = 0; frame = 0; locals = c.new.result }) c.replace-call.ensures.found
    c.replace-call.ensures.rest c.changed_call.ensures c.set.ensures
