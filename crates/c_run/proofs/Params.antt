-- Parameters for which no values are left.
use Rattle.std.proofs.Common.{◌≡◌, ℕ, ◌<◌, List, [], ◌∷◌, length, refl, arith}
use Rattle.base16.specs.declared.image.Kind.{Kind}
use Rattle.c_values.specs.declared.value.Value.{Value}
use Rattle.c_values.specs.declared.state.State.{State}
use Rattle.c_run.specs.Actions.{with_params}

pub params_none : (n : ℕ) (ks : List Kind) (vs : List Value) (s : State) → length vs < 1 → s ≡ with_params n ks vs s
params_none n [] vs s h = refl
params_none n (k ∷ ks) [] s h = refl
params_none n (k ∷ ks) (v ∷ vs) s h = absurd (omega arith)
