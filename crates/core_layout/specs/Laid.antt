-- Layouts as a call answers them, and what is kept of the structs of a program.
use Rattle.std.specs.Prelude.{◌≡◌, ℕ, ◌*◌, List, [], ◌∷◌, ◌++◌, Option, Some, None}
use Rattle.std.specs.List.{AllZip}
use Rattle.core_tree.specs.declared.types.Struct.{Struct}
use Rattle.core_tree.specs.Data.{Text, behind, struct_names}
use Rattle.core_tree.specs.Layout.{Layout, layouts, copies}
use Rattle.core_layout.specs.declared.layouts.Laid.{Laid}

abbrev pub layout_of : Laid → Layout
layout_of l = record { size = l.size; even = l.even; slots = l.slots }

-- so many side by side
abbrev pub array : ℕ → Layout → Layout
array count of = record { size = count * of.size; even = of.even; slots = copies count 0 of }

-- what is kept of something: itself, in another form, or nothing where it is too big for any object
abbrev pub Keeps : {A B : Type 0} → (A → B) → Option A → B → Type 0
Keeps f None b = Unit {0}
Keeps f (Some kept) b = f kept ≡ b

-- these are the layouts of the structs, in order, none for one that is too big for any object
pub record IsLaid (known : List (Option Laid)) (structs : List Struct) : Type 0 where
  pub kept : AllZip (Keeps layout_of) known (layouts structs)

-- these are the names of the scalars in the structs, in order, none for one that is too big for any object
pub record IsNamed (named : List (Option (List Text))) (structs : List Struct) : Type 0 where
  pub kept : AllZip (Keeps (λ names. names)) named (struct_names structs)

-- each of some texts with each of others behind it
abbrev pub across : List Text → List Text → List Text
across [] texts = []
across (before ∷ more) texts = behind before texts ++ across more texts
