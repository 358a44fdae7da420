-- Calls, one of which is in another.
use Rattle.std.proofs.Common.{◌≡◌, ℕ, suc, ◌-◌, ◌<◌, List, slice_get, Some, None, ap, ◌∙◌, arith}
use Rattle.base16.specs.declared.reading.Reading.{Reading}
use Rattle.core_tree.specs.declared.program.Core.{Core}
use Rattle.core_tree.specs.declared.program.Function.{Function}
use Rattle.core_tree.specs.Heights.{frame_bytes}
use Rattle.c_values.specs.declared.value.Value.{Value}
use Rattle.c_run.specs.Runs.{Run, Stopped, Wrong, and_then, ◌>>=◌, pure}
use Rattle.c_run.specs.Actions.{enter, leave}
use Rattle.c_meaning.specs.After.{calls, called, body, objects_of, result_of, is_main}

module _ (K : Core) (R : List Reading) where
  pub calls_none : (d n : ℕ) (args : List Value) (r : Run) → d ≡ 0 → calls K R d n args r ≡ Stopped Wrong
  unfolding calls
  calls_none d n args r e = ap (λ k. calls K R k n args r) e

  deeper : (d n : ℕ) (args : List Value) (r : Run) → 0 < d
      → calls K R d n args r ≡ called K R (calls K R (d - 1)) n (slice_get K.functions n) args r
  unfolding calls
  deeper d n args r h = let e : d ≡ suc (d - 1) = omega arith in ap (λ k. calls K R k n args r) e

  pub calls_absent : (d n : ℕ) (args : List Value) (r : Run) → 0 < d → slice_get K.functions n ≡ None
      → calls K R d n args r ≡ Stopped Wrong
  unfolding called
  calls_absent d n args r h e = deeper d n args r h ∙ ap (λ o. called K R (calls K R (d - 1)) n o args r) e

  pub calls_deeper : (d n : ℕ) (f : Function) (args : List Value) (r : Run) → 0 < d → slice_get K.functions n ≡ Some f
      → calls K R d n args r
      ≡ and_then (enter n (frame_bytes K.structs f) (objects_of K.structs f) r)
      (λ first. body K R (calls K R (d - 1)) f args first >>= λ flow. leave >>= λ _. pure (result_of (is_main f) flow))
  unfolding called
  calls_deeper d n f args r h e = deeper d n args r h ∙ ap (λ o. called K R (calls K R (d - 1)) n o args r) e
