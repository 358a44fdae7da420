-- A struct that there is not has no members, and each of them stands at its beginning.
use Rattle.std.proofs.Common.{◌≡◌, ℕ, zero, suc, ◌≤◌, List, [], length, refl, min, ap, ◌∙◌, take}
use Rattle.std.proofs.lemmas.Option.{slice_get_past}
use Rattle.core_tree.specs.declared.types.Struct.{Struct}
use Rattle.core_tree.specs.Layout.{layouts, members_in, member_offset, member_stride, start_of}

first_of_none : (n : ℕ) → start_of [] n ≡ 0
first_of_none zero = refl
first_of_none (suc n) = refl

pub member_of_none : (structs : List Struct) (tag member : ℕ) → length structs ≤ tag → member_stride structs tag member ≡ 0
unfolding member_stride
member_of_none structs tag member h =
    ap (λ o. min (member_offset (layouts (take tag structs)) (members_in o) member) 65536) (slice_get_past structs tag h)
    ∙ ap (λ n. min n 65536) (first_of_none member)
