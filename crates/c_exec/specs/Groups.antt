-- The groups that a switch runs: those from the first that has a case of the value, or else from the first with default.
use Rattle.std.specs.Prelude.{ℤ, Bool, if◌then◌else◌, List, [], ◌∷◌, Option}
use Rattle.core_tree.specs.declared.statements.Group.{Group, out-Group}
use Rattle.c_meaning.specs.Statements.{has_case, has_default}

-- the groups from the first whose labels pass
abbrev pub groups_from : (List (Option ℤ) → Bool) → List Group → List Group
groups_from p [] = []
groups_from p (g ∷ gs) = if p (out-Group g).labels then g ∷ gs else groups_from p gs

abbrev pub or_default : List Group → List Group → List Group
or_default [] gs = groups_from has_default gs
or_default (g ∷ more) gs = g ∷ more

abbrev pub chosen : ℤ → List Group → List Group
chosen v gs = or_default (groups_from (has_case v) gs) gs
