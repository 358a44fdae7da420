-- What is said of a file by its name.
use Rattle.std.specs.Prelude.{ℕ, List, Option, IsSomeAnd, MatchOption}
use Rattle.edge.specs.Told.{Drive}

-- Where files are told, this one is there and P holds of it.
abbrev pub HoldsAt : Option Drive → List ℕ → (List ℕ → Type 0) → Type 0
HoldsAt files name P = MatchOption files (Unit {0}) (λ drive. IsSomeAnd (drive name) P)
