-- Where the variables of a program stand on the board, and what their scalars are called: the variables in order of
-- declaration, each at its alignment, and behind the last one, from an even address on, the stamps of the timed scalars
-- in order, two words each.
use Rattle.std.specs.Prelude.{ℕ, zero, suc, ◌+◌, ◌-◌, ◌*◌, ◌%◌, List, [], ◌∷◌, ◌++◌, map, length, take, get_or, Option, Some, None}
use Rattle.std.specs.Fmt.{decimal}
use Rattle.base16.specs.Board.{data_start}
use Rattle.base16.specs.declared.image.Scalar.{Scalar}
use Rattle.core_tree.specs.declared.types.Ty.{Ty, fold-Ty}
use Rattle.core_tree.specs.declared.types.Ty.TheOpen.{Ty-F}
use Rattle.core_tree.specs.declared.types.Struct.{Struct}
use Rattle.core_tree.specs.declared.types.Member.{Member}
use Rattle.core_tree.specs.declared.types.Slot.{Slot}
use Rattle.core_tree.specs.declared.program.Global.{Global}
use Rattle.core_tree.specs.declared.program.Core.{Core}
use Rattle.core_tree.specs.Layout.{Layout, layouts, layout_in, with_members, nothing, start_of}
use Rattle.core_tree.specs.Heights.{rounded}

-- ---- the names of the scalars in a type, behind the name of the variable, in the order of the scalars

abbrev pub Text : Type 0
Text = List ℕ

-- `[at]`
abbrev pub index_text : ℕ → Text
index_text at = 91 ∷ decimal at ++ 93 ∷ []

-- `.name`
abbrev pub member_text : Text → Text
member_text name = 46 ∷ name

abbrev pub behind : Text → List Text → List Text
behind before names = map (λ name. before ++ name) names

-- so many elements, the first with an index
abbrev pub indexed : ℕ → ℕ → List Text → List Text
indexed zero at names = []
indexed (suc n) at names = behind (index_text at) names ++ indexed n (at + 1) names

abbrev pub name_step : List (List Text) → Ty-F (List Text) → List Text
name_step known Ty-F.Void = []
name_step known (Ty-F.Num t) = [] ∷ []
name_step known (Ty-F.Pointer to readonly) = [] ∷ []
name_step known (Ty-F.Array of count) = indexed count 0 of
name_step known (Ty-F.Struct tag) = get_or known tag []

abbrev pub names_in : List (List Text) → Ty → List Text
names_in known = fold-Ty (List Text) (name_step known)

abbrev pub member_names : List (List Text) → List Member → List Text
member_names known [] = []
member_names known (m ∷ more) = behind (member_text m.name) (names_in known m.ty) ++ member_names known more

-- those of all structs; each knows those before it
abbrev pub struct_names_from : List (List Text) → List Struct → List (List Text)
struct_names_from known [] = known
struct_names_from known (s ∷ more) = struct_names_from (known ++ member_names known s.members ∷ []) more

abbrev pub struct_names : List Struct → List (List Text)
struct_names structs = struct_names_from [] structs

abbrev pub names : List Struct → Ty → List Text
names structs t = names_in (struct_names structs) t

-- ---- addresses

abbrev pub global_layout : Core → Global → Layout
global_layout core g = layout_in (layouts core.structs) g.ty

abbrev pub global_layouts : Core → List Global → List Layout
global_layouts core gs = map (global_layout core) gs

-- the address of a variable
unfoldable pub global_address : Core → ℕ → ℕ
global_address core n = data_start + start_of (global_layouts core core.globals) n

-- how many stamps a variable has: one for each scalar if it is timed
abbrev pub timed_slots : Option ℕ → List Slot → ℕ
timed_slots None slots = 0
timed_slots (Some lifetime) slots = length slots

abbrev pub stamp_count : Core → Global → ℕ
stamp_count core g = timed_slots g.lifetime (global_layout core g).slots

abbrev pub stamps_of : Core → List Global → ℕ
stamps_of core [] = 0
stamps_of core (g ∷ more) = stamp_count core g + stamps_of core more

abbrev pub stamps_start : Core → ℕ
stamps_start core = data_start + rounded (with_members nothing (global_layouts core core.globals)).size

-- the address of the n-th stamp of the program
unfoldable pub stamp_address : Core → ℕ → ℕ
stamp_address core n = stamps_start core + 4 * n

-- the number of the first stamp of a variable
unfoldable pub first_stamp : Core → ℕ → ℕ
first_stamp core n = stamps_of core (take n core.globals)

-- the bytes of the variables and stamps
unfoldable pub data_bytes : Core → ℕ
data_bytes core = stamp_address core (stamps_of core core.globals) - data_start

-- ---- the scalars of the program, with addresses modulo 2^16

abbrev pub told_address : ℕ → ℕ
told_address n = n % 65536

abbrev pub stamp_at : Option ℕ → ℕ → Option ℕ
stamp_at None at = None
stamp_at (Some lifetime) at = Some (told_address at)

-- the scalars of a variable that begins at an address, the first with its stamp at an address
abbrev pub scalars_at : Global → ℕ → ℕ → List Slot → List Text → List Scalar
scalars_at g at stamp [] names = []
scalars_at g at stamp (slot ∷ slots) [] = []
scalars_at g at stamp (slot ∷ slots) (name ∷ names) =
    record { name = g.name ++ name; address = told_address (at + slot.offset); kind = slot.kind; stamp = stamp_at g.lifetime stamp }
    ∷ scalars_at g at (stamp + 4) slots names

-- those of the n-th variable
abbrev pub global_scalars : Core → ℕ → Global → List Scalar
global_scalars core n g =
    scalars_at g (global_address core n) (stamp_address core (first_stamp core n)) (global_layout core g).slots (names core.structs g.ty)

abbrev pub scalars_from : Core → ℕ → List Global → List Scalar
scalars_from core n [] = []
scalars_from core n (g ∷ more) = global_scalars core n g ++ scalars_from core (n + 1) more

unfoldable pub scalars : Core → List Scalar
scalars core = scalars_from core 0 core.globals
