-- What a scalar of a file-scope variable may begin with (C99 6.6): the value of a constant expression, the null pointer,
-- or the address of a file-scope variable or of a part of one.
use Rattle.std.specs.Prelude.{ℕ, ◌+◌, ◌*◌, ℤ, pos, Bool, true, false, not, ◌&&◌, if◌then◌else◌, nat_lt, List, Option, Some, None}
use Rattle.core_tree.specs.declared.types.Ty.{Ty, out-Ty}
use Rattle.core_tree.specs.declared.types.Ty.TheOpen.{Ty-F}
use Rattle.core_tree.specs.declared.types.Struct.{Struct}
use Rattle.core_tree.specs.declared.expressions.Expr.{Expr}
use Rattle.core_tree.specs.declared.expressions.Place.{Place}
use Rattle.core_tree.specs.declared.expressions.ExprKind.{ExprKind, out-ExprKind}
use Rattle.core_tree.specs.declared.expressions.PlaceKind.{PlaceKind, fold-PlaceKind, out-PlaceKind}
use Rattle.core_tree.specs.declared.expressions.ExprKind.TheOpen.{ExprKind-F, PlaceKind-F}
use Rattle.core_tree.specs.declared.program.Initial.{Initial}
use Rattle.core_tree.specs.declared.program.Initial.TheVariants as initial
use Rattle.core_tree.specs.Layout.{stride, member_stride, int_type_of}
use Rattle.core_tree.specs.Lawful.{is_array}
use Rattle.c_rules.specs.Constants.{Known, known_layer, value_at, value as constant_value}

-- ---- places that are addresses

-- the number of a file-scope variable and an offset in it
pub record Address : Type 0 where
  pub global : ℕ
  pub offset : ℕ

-- a place as a part of another
pub record Located : Type 0 where
  pub ty : Ty
  pub address : Option Address

abbrev pub moved : ℕ → Option Address → Option Address
moved by None = None
moved by (Some a) = Some (record { global = a.global; offset = a.offset + by })

-- an index is a constant below the number of elements
abbrev pub indexed_by : ℕ → ℕ → Option ℤ → Option Address → Option Address
indexed_by size count (Some (pos n)) of = if nat_lt n count then moved (n * size) of else None
indexed_by size count _ of = None

abbrev pub element : ℕ → Ty-F Ty → Option ℤ → Option Address → Option Address
element size (Ty-F.Array ty count) index of = indexed_by size count index of
element size _ index of = None

-- a variable, a member of such a place, or an element of it
abbrev pub place_step : {K P E : Type 0} → (E → Option ℤ) → List Struct → PlaceKind-F K P E Located → Ty → Option Address
place_step index_value structs (PlaceKind-F.Global n) t = Some (record { global = n; offset = 0 })
place_step index_value structs (PlaceKind-F.Member of tag member) t = moved (member_stride structs tag member) of.address
place_step index_value structs (PlaceKind-F.Element of index) t =
    element (stride structs t) (out-Ty of.ty) (index_value index) of.address
place_step index_value structs _ t = None

-- what constants are made of
abbrev pub no_places : {K A E B : Type 0} → ExprKind-F K A E B → ExprKind-F K (Unit {0}) E (Unit {0})
no_places (ExprKind-F.Constant n) = ExprKind-F.Constant n
no_places (ExprKind-F.Convert of) = ExprKind-F.Convert of
no_places (ExprKind-F.Unary op of) = ExprKind-F.Unary op of
no_places (ExprKind-F.Binary op at left right) = ExprKind-F.Binary op at left right
no_places (ExprKind-F.And left right) = ExprKind-F.And left right
no_places (ExprKind-F.Or left right) = ExprKind-F.Or left right
no_places (ExprKind-F.Conditional test one other) = ExprKind-F.Conditional test one other
no_places _ = ExprKind-F.Checkpoint

abbrev pub address_kind : List Struct → PlaceKind → Ty → Option Address
address_kind structs =
    fold-PlaceKind (Ty → Known) (Ty → Option Address) _ Located (λ e. known_layer (no_places e))
    (place_step (λ index. value_at index.at index.known) structs)
    (λ e. record { at = int_type_of e.ty; known = e.kind e.ty })
    (λ p. record { ty = p.ty; address = p.kind p.ty })

unfoldable pub address : List Struct → Place → Option Address
address structs p = address_kind structs p.kind p.ty

-- ---- initial values

-- an array is an address only by its bare name
abbrev pub is_variable : {K P E L : Type 0} → PlaceKind-F K P E L → Bool
is_variable (PlaceKind-F.Global n) = true
is_variable _ = false

abbrev pub address_of : List Struct → Place → Option Address
address_of structs p = if is_array p.ty && not (is_variable (out-PlaceKind p.kind)) then None else address structs p

abbrev pub address_value : Option Address → Option Initial
address_value None = None
address_value (Some a) = Some (initial.Address a.global a.offset)

-- a pointer, which is 0 or an address
abbrev pub pointer_value : {K : Type 0} → List Struct → ExprKind-F K PlaceKind Expr Place → Option Initial
pointer_value structs (ExprKind-F.Constant n) = Some (initial.Int n)
pointer_value structs (ExprKind-F.Address p) = address_value (address_of structs p)
pointer_value structs _ = None

-- a pointer to const may stand around it
abbrev pub without_const : ExprKind-F ExprKind PlaceKind Expr Place → ExprKind-F ExprKind PlaceKind Expr Place
without_const (ExprKind-F.Convert e) = out-ExprKind e.kind
without_const e = e

abbrev pub integer_value : Option ℤ → Option Initial
integer_value None = None
integer_value (Some n) = Some (initial.Int n)

abbrev pub initial_by : List Struct → Expr → Ty-F Ty → Option Initial
initial_by structs e (Ty-F.Num t) = integer_value (constant_value e)
initial_by structs e _ = pointer_value structs (without_const (out-ExprKind e.kind))

-- what a scalar begins with that is initialised by an expression of its type; none where that is not constant
unfoldable pub initial_value : List Struct → Expr → Option Initial
initial_value structs e = initial_by structs e (out-Ty e.ty)
