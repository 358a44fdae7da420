-- The second half of an update: what the operator makes of the value before is stored, and either is the answer.
use Rattle.std.specs.Prelude.{ℕ, if◌then◌else◌, List}
use Rattle.core_tree.specs.declared.types.Ty.{Ty}
use Rattle.core_tree.specs.declared.types.Struct.{Struct}
use Rattle.core_tree.specs.Layout.{int_type_of, kind_of, target_of, stride}
use Rattle.c_values.specs.declared.value.Value.{Value}
use Rattle.c_values.specs.declared.value.Location.{Location}
use Rattle.c_run.specs.Runs.{Action, ◌>>=◌, pure, asked}
use Rattle.c_run.specs.Actions.{store}
use Rattle.c_meaning.specs.Meaning.{updated}
use Rattle.c_eval.specs.declared.update.Update.{Update}

-- of a place that has a type, by a value of another
abbrev pub rewritten : List Struct → Update → ℕ → Ty → Ty → Location → Value → Value → Action Value
rewritten structs u node ty own place before by = do
  after ← asked node (λ s. updated u.op u.at (int_type_of own) (stride structs (target_of ty)) s before by)
  stored ← store node place (kind_of ty) after u.marked
  pure (if u.old then before else stored)
