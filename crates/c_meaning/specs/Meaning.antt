-- The meaning of C programs (C99 6.5 and 6.8, evaluated from left to right): what an expression, a place and a statement
-- do to a run.
use Rattle.std.specs.Prelude.{ℕ, ◌+◌, ℤ, Bool, true, false, not, if◌then◌else◌, List, [], ◌∷◌, ◌++◌, map, Option, Some, None, Result}
use Rattle.base16.specs.declared.integer.IntType.{IntType}
use Rattle.base16.specs.declared.operator.BinaryOp.{BinaryOp}
use Rattle.base16.specs.declared.operator.BinaryOp.TheVariants as op
use Rattle.base16.specs.declared.reading.Reading.{Reading}
use Rattle.core_tree.specs.declared.types.Ty.{Ty}
use Rattle.core_tree.specs.declared.expressions.Expr.{Expr}
use Rattle.core_tree.specs.declared.expressions.Place.{Place}
use Rattle.core_tree.specs.declared.expressions.ExprKind.{ExprKind, fold-ExprKind}
use Rattle.core_tree.specs.declared.expressions.PlaceKind.{PlaceKind, fold-PlaceKind}
use Rattle.core_tree.specs.declared.expressions.ExprKind.TheOpen.{ExprKind-F, PlaceKind-F}
use Rattle.core_tree.specs.declared.types.Struct.{Struct}
use Rattle.core_tree.specs.Layout.{kind_of, int_type_of, target_of, is_pointer, stride, member_stride}
use Rattle.c_values.specs.declared.value.Value.{Value}
use Rattle.c_values.specs.declared.value.Value.TheVariants.{Int, Null, Undefined}
use Rattle.c_values.specs.declared.value.Location.{Location}
use Rattle.c_values.specs.declared.state.State.{State}
use Rattle.c_values.specs.Operators.{truth}
use Rattle.c_values.specs.Pointers.{at, pointed, member_at, element, sum_of, pointer_to, address, truth_of, compared, difference}
use Rattle.c_run.specs.Runs.{Action, ◌>>=◌, ◌>>◌, pure, given, asked, mark}
use Rattle.c_values.specs.Values.{int_value, numbered, all_present, operated, operated_one, converted}
use Rattle.c_run.specs.Actions.{load, store, sense, emit}

-- how the calls of a function work: its number and the arguments
abbrev pub Calls : Type 0
Calls = ℕ → List Value → Action Value

-- an expression or a place with its type, and what it does
pub record Meant (A : Type 0) : Type 0 where
  pub ty : Ty
  pub act : Action A

-- ---- expressions

-- the constant 0 of pointer type is the null pointer
abbrev pub constant : Bool → ℤ → Value
constant true v = Null
constant false v = Int v

-- arguments from left to right, behind those that were found
abbrev pub each_from : List Value → List (Meant Value) → Action (List Value)
each_from found [] = pure found
each_from found (m ∷ ms) = m.act >>= λ v. each_from (found ++ v ∷ []) ms

-- a call, of which each argument has to be there
abbrev pub passed : Calls → ℕ → ℕ → List Value → Action Value
passed call node function vs = given node (all_present vs) >> call function vs

-- a value that is tested
abbrev pub tested : ℕ → Ty → Value → Action Bool
tested node ty v = asked node (λ s. truth_of s (numbered (int_type_of ty) v))

abbrev pub int_of : Bool → Value
int_of b = Int (truth b)

-- of a pointer and an integer the integer is the left one
abbrev pub is_swapped : Ty → Bool
is_swapped left = not (is_pointer left)

-- what an operator makes of the old value of a scalar; a pointer is moved by elements of a size
abbrev pub is_sub : BinaryOp → Bool
is_sub op.Sub = true
is_sub _ = false

abbrev pub updated : BinaryOp → Option IntType → IntType → ℕ → State → Value → Value → Result Value ℕ
updated o (Some t) own size s old v = operated o t own old v
updated o None own size s old v = pointer_to (sum_of s false (is_sub o) size old (numbered own v))

module _ (structs : List Struct) (readings : List Reading) (call : Calls) (first : ℕ) where
  -- the meaning of one layer of an expression: its own type and node, and its parts
  abbrev pub expr_layer : ExprKind-F (Ty → ℕ → Action Value) (Ty → ℕ → Action Location) (Meant Value) (Meant Location) → Ty → ℕ → Action Value
  expr_layer (ExprKind-F.Constant v) ty node = pure (constant (is_pointer ty) v)
  expr_layer (ExprKind-F.Read place) ty node = do
    l ← place.act
    load node l (kind_of ty)
  expr_layer (ExprKind-F.Convert of) ty node = do
    v ← of.act
    given node (converted (int_type_of ty) v)
  expr_layer (ExprKind-F.Unary o of) ty node = do
    v ← of.act
    asked node (λ s. operated_one s o (int_type_of of.ty) v)
  expr_layer (ExprKind-F.Binary o t left right) ty node = do
    a ← left.act
    b ← right.act
    given node (operated o t (int_type_of right.ty) a b)
  expr_layer (ExprKind-F.PointerPlus minus left right) ty node = do
    a ← left.act
    b ← right.act
    asked node (λ s. pointer_to (sum_of s (is_swapped left.ty) minus (stride structs (target_of ty)) (numbered (int_type_of left.ty) a) (numbered (int_type_of right.ty) b)))
  expr_layer (ExprKind-F.Difference left right) ty node = do
    a ← left.act
    b ← right.act
    asked node (λ s. int_value (difference s (stride structs (target_of left.ty)) a b))
  expr_layer (ExprKind-F.ComparePointers o left right) ty node = do
    a ← left.act
    b ← right.act
    asked node (λ s. int_value (compared s o a b))
  expr_layer (ExprKind-F.And left right) ty node = do
    a ← left.act
    x ← tested node left.ty a
    if x then (right.act >>= λ b. tested node right.ty b >>= λ y. pure (int_of y)) else pure (int_of false)
  expr_layer (ExprKind-F.Or left right) ty node = do
    a ← left.act
    x ← tested node left.ty a
    if x then pure (int_of true) else (right.act >>= λ b. tested node right.ty b >>= λ y. pure (int_of y))
  expr_layer (ExprKind-F.Conditional test one other) ty node = do
    a ← test.act
    x ← tested node test.ty a
    if x then one.act else other.act
  expr_layer (ExprKind-F.Assign place value marked) ty node = do
    l ← place.act
    v ← value.act
    store node l (kind_of ty) v marked
  expr_layer (ExprKind-F.Update o t place value old marked) ty node = do
    l ← place.act
    before ← load node l (kind_of ty)
    v ← value.act
    after ← asked node (λ s. updated o t (int_type_of value.ty) (stride structs (target_of ty)) s before v)
    stored ← store node l (kind_of ty) after marked
    pure (if old then before else stored)
  expr_layer (ExprKind-F.Address place) ty node = do
    l ← place.act
    asked node (λ s. address s l)
  expr_layer (ExprKind-F.Call function args) ty node = do
    vs ← each_from [] args
    passed call node function vs
  expr_layer (ExprKind-F.Sense channel) ty node = sense readings channel
  expr_layer (ExprKind-F.Emit of) ty node = do
    v ← of.act
    emit node v
  expr_layer ExprKind-F.Checkpoint ty node = mark >> pure Undefined
  expr_layer (ExprKind-F.Comma left right) ty node = left.act >> right.act

  abbrev pub place_layer : PlaceKind-F (Ty → ℕ → Action Value) (Ty → ℕ → Action Location) (Meant Value) (Meant Location) → Ty → ℕ → Action Location
  place_layer (PlaceKind-F.Local n) ty node = pure (at (first + n) 0)
  place_layer (PlaceKind-F.Global n) ty node = pure (at n 0)
  place_layer (PlaceKind-F.Deref of) ty node = do
    v ← of.act
    given node (pointed v)
  place_layer (PlaceKind-F.Member of tag member) ty node = do
    l ← of.act
    pure (member_at l (member_stride structs tag member))
  place_layer (PlaceKind-F.Element of index) ty node = do
    l ← of.act
    i ← index.act
    asked node (λ s. element s (stride structs ty) l (numbered (int_type_of index.ty) i))
  place_layer (PlaceKind-F.At left right) ty node = do
    a ← left.act
    b ← right.act
    asked node (λ s. sum_of s (is_swapped left.ty) false (stride structs ty) (numbered (int_type_of left.ty) a) (numbered (int_type_of right.ty) b))

  abbrev pub expr_kind : ExprKind → Ty → ℕ → Action Value
  expr_kind = fold-ExprKind (Ty → ℕ → Action Value) (Ty → ℕ → Action Location) (Meant Value) (Meant Location) expr_layer place_layer (λ e. record { ty = e.ty; act = e.kind e.ty e.node }) (λ p. record { ty = p.ty; act = p.kind p.ty p.node })

  abbrev pub place_kind : PlaceKind → Ty → ℕ → Action Location
  place_kind = fold-PlaceKind (Ty → ℕ → Action Value) (Ty → ℕ → Action Location) (Meant Value) (Meant Location) expr_layer place_layer (λ e. record { ty = e.ty; act = e.kind e.ty e.node }) (λ p. record { ty = p.ty; act = p.kind p.ty p.node })

  -- what an expression does
  abbrev pub expr : Expr → Action Value
  expr e = expr_kind e.kind e.ty e.node

  -- what a place is
  abbrev pub place : Place → Action Location
  place p = place_kind p.kind p.ty p.node

  -- an expression with its type
  abbrev pub meant : Expr → Meant Value
  meant e = record { ty = e.ty; act = expr e }

  abbrev pub each : List Expr → Action (List Value)
  each es = each_from [] (map meant es)
