-- A table of the labels of a list of items.
use Rattle.std.specs.Prelude.{◌≡◌, ℕ, List, [], ◌∷◌, Option, Some, None, if◌then◌else◌, nat_eq}
use Rattle.std.specs.BTreeMap.{BTreeMap, get}
use Rattle.std.specs.Ordering.{nat_cmp}
use Rattle.asm430.specs.declared.item.Item.{Item}
use Rattle.asm430.specs.Assembly.{the_only, places_from}

-- what a table keeps of a label that stands at these places: its one place, or that there are several
abbrev pub kept_of : List ℕ → Option (Option ℕ)
kept_of [] = None
kept_of (place ∷ rest) = Some (the_only (place ∷ rest))

-- it keeps this of each label
abbrev pub HasLabels : List Item → BTreeMap ℕ (Option ℕ) → Type 0
HasLabels items table = (label : ℕ) → get nat_cmp table label ≡ kept_of (places_from label 0 items)

-- a label of which this is kept stands at one place more
abbrev pub noted : Option (Option ℕ) → ℕ → Option ℕ
noted None place = Some place
noted (Some before) place = None

-- a table with one place more of a label
abbrev pub Notes : BTreeMap ℕ (Option ℕ) → BTreeMap ℕ (Option ℕ) → ℕ → ℕ → Type 0
Notes before after label place =
    (other : ℕ) → get nat_cmp after other ≡ (if nat_eq label other then Some (noted (get nat_cmp before label) place) else get nat_cmp before other)
