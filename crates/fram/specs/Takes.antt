-- How many ticks a call takes.
use Rattle.std.specs.Prelude.{◌≡◌, ℕ, ◌<◌, Result, Ok, Err}
use Rattle.world.specs.World.{WorldState, Spends}
use Rattle.world.specs.declared.outside.Off.{Off}

-- A call that takes n ticks is Off exactly where fewer were left. Then none is left, and those that were are spent.
abbrev pub Takes : {T : Type 0} → ℕ → Result T Off → WorldState → WorldState → Type 0
Takes n (Ok x) old new = Spends n old new
Takes n (Err e) old new = (old.left < n) × (new.left ≡ 0) × Spends old.left old new
