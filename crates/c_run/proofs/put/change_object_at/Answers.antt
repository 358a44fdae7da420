use Rattle.c_run.specs.Changes.{changed_object}
use Rattle.c_run.proofs.Changing.{replaced}
use Rattle.c_run.proofs.put.change_object_at.Goals as goal

pub returns-then-as_slice-at : goal.returns-then-as_slice-at
returns-then-as_slice-at c =
    replaced (changed_object c.args.number c.args.change) c.args.objects.now c.replace-object.new.self c.set.new.self c.args.at
    c.replace-object.result c.changed_object.result (record { number = 0; cells = c.from_vec.result }) c.replace-object.ensures.found
    c.replace-object.ensures.rest c.changed_object.ensures c.set.ensures
