-- A function value that makes the calls of a program, so many of them one in the other.
use Rattle.std.specs.Prelude.{◌≡◌, ℕ, List, Result}
use Rattle.std.specs.declared.alloc.Global.{Global}
use denote.Ref.{Bor, MutBor}
use Rattle.base16.specs.declared.reading.Reading.{Reading}
use Rattle.core_tree.specs.declared.program.Core.{Core}
use Rattle.c_values.specs.declared.value.Value.{Value}
use Rattle.c_run.specs.declared.halt.Halt.{Halt}
use Rattle.c_run.specs.Runs.{Run}
use Rattle.c_run.specs.Gives.{Gives}
use Rattle.c_meaning.specs.After.{calls}

pub record Calling (core : Core) (readings : List Reading) (depth : ℕ)
    (pre : Global → Bor Core → Bor (List Reading) → ℕ → ℕ → List Value → MutBor Run → Type 0)
    (post : Global → Bor Core → Bor (List Reading) → ℕ → ℕ → List Value → MutBor Run → Result Value Halt → MutBor Run → Type 0) : Type 0 where
  pub callable : (alloc : Global) (k : Bor Core) (rs : Bor (List Reading)) (f : ℕ) (args : List Value) (old : MutBor Run) → pre alloc k rs depth f args old
  pub gives : (alloc : Global) (k : Bor Core) (rs : Bor (List Reading)) (f : ℕ) (args : List Value) (old new : MutBor Run) (r : Result Value Halt)
      → k.now ≡ core → rs.now ≡ readings → post alloc k rs depth f args old r new → Gives (calls core readings depth f args old.now) r new.now
