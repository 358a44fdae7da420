-- Which programs are lawful: those that the rules of the language allow. An expression has the type that its parts give
-- it, and each constant is a value of its type.
use Rattle.std.specs.Prelude.{◌≡◌, ℕ, ◌<◌, Bool, true, false, not, ◌||◌, ℤ, pos, List, [], ◌∷◌, length, slice_get, Option, Some, None}
use Rattle.base16.specs.declared.integer.IntType.{IntType}
use Rattle.base16.specs.declared.integer.IntType.TheVariants.{Int, UInt}
use Rattle.base16.specs.declared.operator.UnaryOp.{UnaryOp}
use Rattle.base16.specs.declared.operator.UnaryOp.TheVariants as un
use Rattle.base16.specs.declared.operator.BinaryOp.{BinaryOp}
use Rattle.core_tree.specs.declared.types.Ty.{Ty, out-Ty}
use Rattle.core_tree.specs.declared.types.Ty.TheVariants as ty
use Rattle.core_tree.specs.declared.types.Ty.TheOpen.{Ty-F}
use Rattle.core_tree.specs.declared.types.Member.{Member}
use Rattle.core_tree.specs.declared.expressions.Expr.{Expr}
use Rattle.core_tree.specs.declared.expressions.Place.{Place}
use Rattle.core_tree.specs.declared.expressions.ExprKind.{ExprKind, out-ExprKind}
use Rattle.core_tree.specs.declared.expressions.ExprKind.TheVariants as k
use Rattle.core_tree.specs.declared.expressions.ExprKind.TheOpen.{ExprKind-F, PlaceKind-F}
use Rattle.core_tree.specs.declared.expressions.PlaceKind.{PlaceKind, fold-PlaceKind}
use Rattle.core_tree.specs.declared.expressions.PlaceKind.TheVariants as pk
use Rattle.core_tree.specs.declared.program.Core.{Core}
use Rattle.core_tree.specs.declared.program.Global.{Global}
use Rattle.core_tree.specs.declared.program.Function.{Function}
use Rattle.core_tree.specs.Layout.{members_of}
use Rattle.core_tree.specs.Reaching.{MayCall}
use Rattle.core_tree.specs.Rules.{promoted, balanced, is_value, is_scalar, is_comparison, is_order, is_shift, takes_pointer_integer, result_in}

-- what the expressions of a function see: the program, the function's objects with its parameters first, whether they
-- stand in the text of an `@expires` block, and whether the rules of annotations hold already
pub record Scope : Type 0 where
  pub core : Core
  pub objects : List Ty
  pub inside : Bool
  pub annotated : Bool

-- ---- places

-- what a place is asked, from what its parts answer
abbrev pub local_layer : PlaceKind-F Bool Bool (Unit {0}) Bool → Bool
local_layer (PlaceKind-F.Local n) = true
local_layer (PlaceKind-F.Member of tag member) = of
local_layer _ = false

-- whether a place is a local scalar or a member path of a local struct
abbrev pub is_local_path : PlaceKind → Bool
is_local_path = fold-PlaceKind Bool Bool (Unit {0}) Bool (λ e. false) local_layer (λ e. tt) (λ p. p.kind)

-- whether a store to a place is a mark: in the text of an `@expires` block each is, elsewhere all but those to such paths
abbrev pub is_marked : Scope → Place → Bool
is_marked s p = s.inside || not (is_local_path p.kind)

abbrev pub points_to_const : Ty-F Ty → Bool
points_to_const (Ty-F.Pointer to readonly) = readonly
points_to_const _ = false

-- where a pointer and an integer stand in either order, whether the pointer points to a const
abbrev pub either_const : Ty → Ty → Bool
either_const left right = points_to_const (out-Ty left) || points_to_const (out-Ty right)

abbrev pub const_layer : PlaceKind-F Bool Bool Ty Bool → Bool
const_layer (PlaceKind-F.Local n) = false
const_layer (PlaceKind-F.Global n) = false
const_layer (PlaceKind-F.Deref of) = points_to_const (out-Ty of)
const_layer (PlaceKind-F.Member of tag member) = of
const_layer (PlaceKind-F.Element of index) = of
const_layer (PlaceKind-F.At left right) = either_const left right

-- whether a place is reached through a pointer to a const
abbrev pub is_const : PlaceKind → Bool
is_const = fold-PlaceKind Bool Bool Ty Bool (λ e. false) const_layer (λ e. e.ty) (λ p. p.kind)

abbrev pub root_layer : PlaceKind-F Bool (Option ℕ) (Unit {0}) (Option ℕ) → Option ℕ
root_layer (PlaceKind-F.Global n) = Some n
root_layer (PlaceKind-F.Member of tag member) = of
root_layer (PlaceKind-F.Element of index) = of
root_layer _ = None

-- the variable that a place is, or of which it is a part
abbrev pub root_of : PlaceKind → Option ℕ
root_of = fold-PlaceKind Bool (Option ℕ) (Unit {0}) (Option ℕ) (λ e. false) root_layer (λ e. tt) (λ p. p.kind)

abbrev pub has_lifetime : Option ℕ → Bool
has_lifetime None = false
has_lifetime (Some t) = true

abbrev pub is_timed_global : Option Global → Bool
is_timed_global None = false
is_timed_global (Some g) = has_lifetime g.lifetime

abbrev pub is_timed_root : Core → Option ℕ → Bool
is_timed_root core None = false
is_timed_root core (Some n) = is_timed_global (slice_get core.globals n)

-- whether a place is a timed variable or a part of one
abbrev pub is_timed : Core → Place → Bool
is_timed core p = is_timed_root core (root_of p.kind)

-- a plain store or `&` goes to no timed variable, once the annotations are checked
abbrev pub IsUntimed : Scope → Place → Type 0
IsUntimed s p = s.annotated ≡ true → is_timed s.core p ≡ false

-- `@=`, `@timely` and `@expires` speak of timed scalars, once the annotations are checked
abbrev pub IsTimedScalar : Scope → Place → Type 0
IsTimedScalar s p = s.annotated ≡ true → is_timed s.core p ≡ true

-- a struct of a program is complete; arithmetic takes no pointer to `void`
abbrev pub IsComplete : Core → Ty-F Ty → Type 0
IsComplete core Ty-F.Void = ⊥
IsComplete core (Ty-F.Struct tag) = tag < length core.structs
IsComplete core _ = Unit {0}

abbrev pub Complete : Core → Ty → Type 0
Complete core t = IsComplete core (out-Ty t)

-- an integer type in which operators compute
abbrev pub IsComputed : IntType → Type 0
IsComputed t = promoted t ≡ t

abbrev pub array_layer : Ty-F Ty → Bool
array_layer (Ty-F.Array of count) = true
array_layer _ = false

abbrev pub is_array : Ty → Bool
is_array t = array_layer (out-Ty t)

abbrev pub constant_layer : ExprKind-F ExprKind PlaceKind Expr Place → Bool
constant_layer (ExprKind-F.Constant n) = true
constant_layer _ = false

abbrev pub is_constant : ExprKind → Bool
is_constant kind = constant_layer (out-ExprKind kind)

abbrev pub is_not : UnaryOp → Bool
is_not un.Not = true
is_not _ = false

-- ---- expressions

mutual
  -- an expression of this kind has this type
  pub data HasType (s : Scope) : ExprKind → Ty → Type 0 where
    integer_constant : (n : ℤ) (t : IntType) → is_value t n ≡ true → HasType s (k.Constant n) (ty.Num t)
    null_constant : (to : Ty) (readonly : Bool) → HasType s (k.Constant (pos 0)) (ty.Pointer to readonly)
    read : (p : Place) (t : Ty) → IsPlace s p t → is_scalar t ≡ true → HasType s (k.Read p) t
    -- an array is a pointer to its first element
    decayed : (p : Place) (of : Ty) (count : ℕ) (readonly : Bool) → IsPlace s p (ty.Array of count)
        → (is_const p.kind ≡ true → readonly ≡ true) → IsUntimed s p → HasType s (k.Address p) (ty.Pointer of readonly)
    address : (p : Place) (t : Ty) (readonly : Bool) → IsPlace s p t → is_array t ≡ false
        → (is_const p.kind ≡ true → readonly ≡ true) → IsUntimed s p → HasType s (k.Address p) (ty.Pointer t readonly)
    integer_converted : (e : Expr) (from to : IntType) → IsExpr s e (ty.Num from) → HasType s (k.Convert e) (ty.Num to)
    pointer_converted : (e : Expr) (to : Ty) → IsExpr s e (ty.Pointer to false) → HasType s (k.Convert e) (ty.Pointer to true)
    signed : (o : UnaryOp) (e : Expr) (t : IntType) → is_not o ≡ false → IsComputed t → IsExpr s e (ty.Num t)
        → HasType s (k.Unary o e) (ty.Num t)
    negated : (e : Expr) (t : Ty) → IsExpr s e t → is_scalar t ≡ true → HasType s (k.Unary un.Not e) (ty.Num Int)
    binary : (o : BinaryOp) (at : IntType) (a b : Expr) → is_shift o ≡ false → IsComputed at → IsExpr s a (ty.Num at)
        → IsExpr s b (ty.Num at)
        → HasType s (k.Binary o at a b) (ty.Num (result_in o at))
    shift : (o : BinaryOp) (at by : IntType) (a b : Expr) → is_shift o ≡ true → IsComputed at → IsComputed by
        → IsExpr s a (ty.Num at) → IsExpr s b (ty.Num by)
        → HasType s (k.Binary o at a b) (ty.Num at)
    pointer_plus : (minus : Bool) (a b : Expr) (to : Ty) (readonly : Bool) (by : IntType) → Complete s.core to
        → IsExpr s a (ty.Pointer to readonly) → IsExpr s b (ty.Num by)
        → HasType s (k.PointerPlus minus a b) (ty.Pointer to readonly)
    plus_pointer : (a b : Expr) (to : Ty) (readonly : Bool) (by : IntType) → Complete s.core to
        → IsExpr s a (ty.Num by) → IsExpr s b (ty.Pointer to readonly)
        → HasType s (k.PointerPlus false a b) (ty.Pointer to readonly)
    difference : (a b : Expr) (to : Ty) (r q : Bool) → Complete s.core to → IsExpr s a (ty.Pointer to r)
        → IsExpr s b (ty.Pointer to q)
        → HasType s (k.Difference a b) (ty.Num Int)
    -- only `==` and `!=` take a constant 0 beside a pointer
    compared : (o : BinaryOp) (a b : Expr) (to : Ty) (r q : Bool) → is_comparison o ≡ true
        → (is_order o ≡ true → (is_constant a.kind || is_constant b.kind) ≡ false) → IsExpr s a (ty.Pointer to r)
        → IsExpr s b (ty.Pointer to q)
        → HasType s (k.ComparePointers o a b) (ty.Num Int)
    both : (a b : Expr) (t u : Ty) → IsExpr s a t → IsExpr s b u → is_scalar t ≡ true → is_scalar u ≡ true
        → HasType s (k.And a b) (ty.Num Int)
    either : (a b : Expr) (t u : Ty) → IsExpr s a t → IsExpr s b u → is_scalar t ≡ true → is_scalar u ≡ true
        → HasType s (k.Or a b) (ty.Num Int)
    integer_branches : (test a b : Expr) (t : Ty) (at : IntType) → IsExpr s test t → is_scalar t ≡ true → IsComputed at
        → IsExpr s a (ty.Num at) → IsExpr s b (ty.Num at)
        → HasType s (k.Conditional test a b) (ty.Num at)
    pointer_branches : (test a b : Expr) (t to : Ty) (readonly : Bool) → IsExpr s test t → is_scalar t ≡ true
        → IsExpr s a (ty.Pointer to readonly) → IsExpr s b (ty.Pointer to readonly)
        → HasType s (k.Conditional test a b) (ty.Pointer to readonly)
    assigned : (p : Place) (v : Expr) (t : Ty) (marked : Bool) → IsStored s p t marked → IsExpr s v t
        → HasType s (k.Assign p v marked) t
    updated : (o : BinaryOp) (at own : IntType) (p : Place) (v : Expr) (old marked : Bool) → is_shift o ≡ false
        → is_comparison o ≡ false
        → balanced own at ≡ at → IsStored s p (ty.Num own) marked → IsExpr s v (ty.Num at)
        → HasType s (k.Update o (Some at) p v old marked) (ty.Num own)
    shifted : (o : BinaryOp) (own by : IntType) (p : Place) (v : Expr) (old marked : Bool) → is_shift o ≡ true → IsComputed by
        → IsStored s p (ty.Num own) marked → IsExpr s v (ty.Num by)
        → HasType s (k.Update o (Some (promoted own)) p v old marked) (ty.Num own)
    moved : (o : BinaryOp) (to : Ty) (readonly : Bool) (by : IntType) (p : Place) (v : Expr) (old marked : Bool)
        → takes_pointer_integer o ≡ true
        → Complete s.core to → IsStored s p (ty.Pointer to readonly) marked → IsExpr s v (ty.Num by)
        → HasType s (k.Update o None p v old marked) (ty.Pointer to readonly)
    called : (n : ℕ) (f : Function) (args : List Expr) → slice_get s.core.functions n ≡ Some f → AreExprs s args f.params
        → (s.annotated ≡ true → s.inside ≡ true → MayCall s.core n) → HasType s (k.Call n args) f.result
    sensed : (channel : ℕ) → channel < 16 → HasType s (k.Sense channel) (ty.Num UInt)
    emitted : (e : Expr) → IsExpr s e (ty.Num UInt) → HasType s (k.Emit e) ty.Void
    checkpoint : HasType s k.Checkpoint ty.Void
    -- `void` stands only as a statement, left of a comma, or as the first part or step of a `for`
    sequence : (a b : Expr) (t u : Ty) → IsExpr s a t → IsExpr s b u → is_scalar u ≡ true → HasType s (k.Comma a b) u

  -- an expression with this type
  pub data IsExpr (s : Scope) : Expr → Ty → Type 0 where
    is_expr : (e : Expr) (t : Ty) → e.ty ≡ t → HasType s e.kind t → IsExpr s e t

  -- a place of this kind has this type
  pub data HasPlaceType (s : Scope) : PlaceKind → Ty → Type 0 where
    local : (n : ℕ) (t : Ty) → slice_get s.objects n ≡ Some t → HasPlaceType s (pk.Local n) t
    global : (n : ℕ) (g : Global) → slice_get s.core.globals n ≡ Some g → HasPlaceType s (pk.Global n) g.ty
    pointed : (e : Expr) (to : Ty) (readonly : Bool) → IsExpr s e (ty.Pointer to readonly) → HasPlaceType s (pk.Deref e) to
    member : (p : Place) (tag n : ℕ) (m : Member) → IsPlace s p (ty.Struct tag)
        → slice_get (members_of s.core.structs tag) n ≡ Some m
        → HasPlaceType s (pk.Member p tag n) m.ty
    element : (p : Place) (i : Expr) (of : Ty) (count : ℕ) (t : IntType) → IsPlace s p (ty.Array of count)
        → IsExpr s i (ty.Num t)
        → HasPlaceType s (pk.Element p i) of
    pointer_at : (a b : Expr) (to : Ty) (readonly : Bool) (t : IntType) → Complete s.core to
        → IsExpr s a (ty.Pointer to readonly) → IsExpr s b (ty.Num t)
        → HasPlaceType s (pk.At a b) to
    at_pointer : (a b : Expr) (to : Ty) (readonly : Bool) (t : IntType) → Complete s.core to → IsExpr s a (ty.Num t)
        → IsExpr s b (ty.Pointer to readonly)
        → HasPlaceType s (pk.At a b) to

  -- a place with this type
  pub data IsPlace (s : Scope) : Place → Ty → Type 0 where
    is_place : (p : Place) (t : Ty) → p.ty ≡ t → HasPlaceType s p.kind t → IsPlace s p t

  -- a place to which a plain store goes, marked or not
  pub data IsStored (s : Scope) : Place → Ty → Bool → Type 0 where
    stored : (p : Place) (t : Ty) (marked : Bool) → IsPlace s p t → is_scalar t ≡ true → is_const p.kind ≡ false → IsUntimed s p
        → marked ≡ is_marked s p → IsStored s p t marked

  -- expressions with these types
  pub data AreExprs (s : Scope) : List Expr → List Ty → Type 0 where
    no_exprs : AreExprs s [] []
    one_more : (e : Expr) (t : Ty) (es : List Expr) (ts : List Ty) → IsExpr s e t → AreExprs s es ts
        → AreExprs s (e ∷ es) (t ∷ ts)

-- an expression by itself is lawful where it has its own type
abbrev pub LawfulExpr : Scope → Expr → Type 0
LawfulExpr s e = IsExpr s e e.ty
