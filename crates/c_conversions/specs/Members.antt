-- A member that was found, as the definitions of scopes have it.
use Rattle.std.specs.Prelude.{ℕ, Option, Some, None}
use Rattle.core_tree.specs.declared.types.Ty.{Ty}
use Rattle.c_typing.specs.Scopes.{Found}
use Rattle.c_conversions.specs.declared.scopes.FoundMember.{FoundMember}

-- a member by its number and type
abbrev pub found_at : ℕ → Ty → Option Found
found_at number ty = Some (record { number = number; ty = ty })

abbrev pub as_found : Option FoundMember → Option Found
as_found None = None
as_found (Some m) = found_at m.number m.ty
