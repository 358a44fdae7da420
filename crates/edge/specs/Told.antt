-- What is told of a store of files and of a sink: everything (Some) or nothing (None).
use Rattle.std.specs.Prelude.{◌≡◌, ◌≢◌, ℕ, ◌≤◌, List, ◌++◌, length, take, Option, Some, None, IfSome}

-- the bytes of each file by its name, and none where there is no file
abbrev pub Drive : Type 0
Drive = List ℕ → Option (List ℕ)

-- Where files are told, every file but this one stays.
abbrev pub KeepsOthers : Option Drive → Option Drive → List ℕ → Type 0
KeepsOthers None new name = Unit {0}
KeepsOthers (Some old) None name = ⊥
KeepsOthers (Some old) (Some new) name = (other : List ℕ) → other ≢ name → new other ≡ old other

-- Where files are told, this one has these bytes, and every other stays.
abbrev pub SetsFile : Option Drive → Option Drive → List ℕ → List ℕ → Type 0
SetsFile None new name bytes = Unit {0}
SetsFile (Some old) None name bytes = ⊥
SetsFile (Some old) (Some new) name bytes = (new name ≡ Some bytes) × ((other : List ℕ) → other ≢ name → new other ≡ old other)

-- Where the bytes of a sink are told, these were added at the end.
abbrev pub Appends : Option (List ℕ) → Option (List ℕ) → List ℕ → Type 0
Appends old new bytes = IfSome old (λ before. new ≡ Some (before ++ bytes))

-- Where the bytes of a sink are told, a front of these was added at the end.
abbrev pub AppendsFront : Option (List ℕ) → Option (List ℕ) → List ℕ → Type 0
AppendsFront old new bytes = IfSome old (λ before. (n : ℕ) × (n ≤ length bytes) × (new ≡ Some (before ++ take n bytes)))
