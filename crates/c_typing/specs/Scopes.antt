-- What names, tags and members stand for (C99 6.2.1), and which types are complete (C99 6.2.5).
use Rattle.std.specs.Prelude.{ℕ, ◌+◌, Bool, false, true, not, ◌||◌, if◌then◌else◌, nat_lt, bytes_eq, fold, length, get_or, List, [], ◌∷◌, Option, None, Some}
use Rattle.core_tree.specs.declared.types.Ty.{Ty, out-Ty}
use Rattle.core_tree.specs.declared.types.Ty.TheOpen.{Ty-F}
use Rattle.core_tree.specs.declared.types.Struct.{Struct}
use Rattle.core_tree.specs.declared.types.Member.{Member}
use Rattle.core_tree.specs.declared.expressions.Place.{Place}
use Rattle.core_tree.specs.Lawful.{is_local_path}
use Rattle.core_tree.specs.LawfulCore.{is_object}
use Rattle.c_typing.specs.declared.environment.What.{What}
use Rattle.c_typing.specs.declared.environment.Named.{Named}
use Rattle.c_typing.specs.declared.environment.Env.{Env}

-- the innermost declaration of a name: declarations stand in the order of the text, so it is the last one
abbrev pub lookup : List Named → List ℕ → Option What
lookup names name = fold (λ found d. if bytes_eq d.name name then Some d.what else found) None names

-- ---- structs

-- the place of a tag among structs, counted from a number
abbrev pub tag_from : ℕ → List ℕ → List Struct → Option ℕ
tag_from n tag [] = None
tag_from n tag (s ∷ more) = if bytes_eq s.name tag then Some n else tag_from (n + 1) tag more

-- the tag of the struct whose members stand here is known as well, behind the complete ones
abbrev pub or_defining : ℕ → List ℕ → Option (List ℕ) → Option ℕ → Option ℕ
or_defining next tag defining (Some n) = Some n
or_defining next tag None None = None
or_defining next tag (Some own) None = if bytes_eq own tag then Some next else None

unfoldable pub tag_of : Env → List ℕ → Option ℕ
tag_of env tag = or_defining (length env.structs) tag env.defining (tag_from 0 tag env.structs)

abbrev pub count_of_defining : Option (List ℕ) → ℕ
count_of_defining None = 0
count_of_defining (Some tag) = 1

-- all tags that are known
abbrev pub tags : Env → ℕ
tags env = length env.structs + count_of_defining env.defining

-- a member of a struct: its number and type
pub record Found : Type 0 where
  pub number : ℕ
  pub ty : Ty

abbrev pub member_from : ℕ → List ℕ → List Member → Option Found
member_from n name [] = None
member_from n name (m ∷ more) =
    if bytes_eq m.name name then Some (record { number = n; ty = m.ty }) else member_from (n + 1) name more

abbrev pub is_const_member : Env → ℕ → ℕ → Bool
is_const_member env tag n = get_or (get_or env.const_members tag []) n false

-- ---- complete types

abbrev pub complete_layer : ℕ → Ty-F Ty → Bool
complete_layer structs Ty-F.Void = false
complete_layer structs (Ty-F.Struct tag) = nat_lt tag structs
complete_layer structs _ = true

-- whether arithmetic may be done on a pointer to a type
unfoldable pub is_complete : Env → Ty → Bool
is_complete env t = complete_layer (length env.structs) (out-Ty t)

-- whether an object or a `sizeof` may have a type: no `void` and no pointer to it anywhere in it, and complete
unfoldable pub is_sized : Env → Ty → Bool
is_sized env t = is_object (tags env) t (length env.structs)

-- ---- marks

-- whether a store to a place is a mark: in the text of an `@expires` block each is, elsewhere all but those to a local
-- scalar or a member path of a local struct
abbrev pub is_marked : Env → Place → Bool
is_marked env p = env.inside || not (is_local_path p.kind)
