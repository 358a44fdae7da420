-- The scalars of an object, told by numbers: how many there are, and which objects begin at one of them.
use Rattle.std.specs.Prelude.{◌≡◌, ℕ, zero, suc, ◌+◌, ◌-◌, ◌/◌, ◌%◌, ◌<◌, ◌≤◌, List, [], ◌∷◌, length, map, take, get_or, slice_get, Option, Some, None}
use Rattle.core_tree.specs.declared.types.Ty.{Ty}
use Rattle.core_tree.specs.declared.types.Ty.TheVariants as ty
use Rattle.core_tree.specs.declared.types.Struct.{Struct}
use Rattle.core_tree.specs.declared.types.Member.{Member}
use Rattle.c_checking.specs.Initialisers.{Leaf, leaves_in, struct_leaves}
use Rattle.c_initialisers.specs.declared.scalars.Asked.{Asked}
use Rattle.c_initialisers.specs.declared.scalars.Asked.TheVariants.{Found, Within}
use Rattle.c_initialisers.specs.declared.scalars.Spot.{Spot}

abbrev pub no_leaf : Leaf
no_leaf = record { ty = ty.Void; begins = [] }

-- the scalars of the first structs
abbrev pub before : List Struct → ℕ → List (List Leaf)
before structs n = struct_leaves [] (take n structs)

-- where the scalars of each begin, and how many all are
abbrev pub starts_from : ℕ → List (List Leaf) → List ℕ
starts_from n [] = n ∷ []
starts_from n (ls ∷ more) = n ∷ starts_from (n + length ls) more

abbrev pub member_leaves : List (List Leaf) → List Member → List (List Leaf)
member_leaves known ms = map (λ m. leaves_in known m.ty) ms

-- those of the members of a struct that has so many before it
abbrev pub starts : List Struct → ℕ → List Member → List ℕ
starts structs n ms = starts_from 0 (member_leaves (before structs n) ms)

-- what is kept of a struct, or nothing where no object has so many scalars
abbrev pub Keeps : Option (List ℕ) → List ℕ → Type 0
Keeps None all = Unit {0}
Keeps (Some kept) all = kept ≡ all

-- this is kept of the first structs
pub record IsCounted (known : List (Option (List ℕ))) (structs : List Struct) : Type 0 where
  pub within : length known ≤ length structs
  pub kept : (i : ℕ) (s : Struct) → i < length known → s ≡ get_or structs i s → Keeps (get_or known i None) (starts structs i s.members)

-- ---- a scalar of an object

-- what is asked, of the objects that begin at a scalar
abbrev pub searched : Asked → List ℕ → Option ℕ
searched (Found n) begins = Some n
searched (Within outer) begins = slice_get begins outer

-- the same, inside an object that begins at the first of its scalars
abbrev pub inside : ℕ → ℕ → Asked → Asked
inside total (suc at) asked = asked
inside total zero (Found n) = Found n
inside total zero (Within zero) = Found total
inside total zero (Within (suc outer)) = Within outer

-- the same scalar in an element of an array
abbrev pub in_element : ℕ → Spot → Spot
in_element count s =
    record { total = s.total / count; at = s.at % (s.total / count); asked = inside s.total s.at s.asked }

-- a scalar, and what is asked of it
pub record Answered : Type 0 where
  pub ty : Ty
  pub object : Option ℕ

abbrev pub answered_by : Asked → Leaf → Answered
answered_by asked l = record { ty = l.ty; object = searched asked l.begins }

abbrev pub answered : List Leaf → Spot → Answered
answered leaves s = answered_by s.asked (get_or leaves s.at no_leaf)

-- a scalar of these
pub record IsIn (leaves : List Leaf) (s : Spot) : Type 0 where
  pub within : s.at < s.total
  pub counted : s.total ≡ length leaves

-- the same scalar among fewer
pub record Leads (leaves : List Leaf) (s : Spot) (fewer : List Leaf) (t : Spot) : Type 0 where
  pub is_in : IsIn fewer t
  pub same : answered fewer t ≡ answered leaves s

-- the same scalar in a member of a struct, whose scalars begin and end here
abbrev pub in_member : ℕ → ℕ → Spot → Spot
in_member start end s = record { total = end - start; at = s.at - start; asked = inside s.total s.at s.asked }

-- the scalar stands in the member of this number
pub record IsMember (starts : List ℕ) (at i : ℕ) : Type 0 where
  pub within : i + 1 < length starts
  pub first : get_or starts i 0 ≤ at
  pub next : at < get_or starts (i + 1) 0

-- the scalar of a number has this type, and the object that begins at it within so many others has this many scalars
pub record IsAnswered (leaves : List Leaf) (at outer : ℕ) (t : Ty) (found : Option ℕ) : Type 0 where
  pub ty : t ≡ (get_or leaves at no_leaf).ty
  pub object : found ≡ slice_get (get_or leaves at no_leaf).begins outer
