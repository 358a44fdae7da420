-- The steps of a form for expressions and places: every value and every place becomes a temporary.
use Rattle.std.specs.Prelude.{ℕ, ◌+◌, ℤ, pos, Bool, true, false, not, List, [], ◌∷◌, ◌++◌, length, Option, Some, None}
use Rattle.base16.specs.declared.integer.IntType.{IntType}
use Rattle.base16.specs.declared.image.Kind.{Kind}
use Rattle.base16.specs.declared.operator.BinaryOp.{BinaryOp}
use Rattle.core_tree.specs.declared.types.Ty.{Ty}
use Rattle.core_tree.specs.declared.types.Struct.{Struct}
use Rattle.core_tree.specs.declared.expressions.Expr.{Expr}
use Rattle.core_tree.specs.declared.expressions.Place.{Place}
use Rattle.core_tree.specs.declared.expressions.ExprKind.{ExprKind, fold-ExprKind}
use Rattle.core_tree.specs.declared.expressions.PlaceKind.{PlaceKind, fold-PlaceKind}
use Rattle.core_tree.specs.declared.expressions.ExprKind.TheOpen.{ExprKind-F, PlaceKind-F}
use Rattle.core_tree.specs.Layout.{kind_of, int_type_of, target_of, is_pointer, stride, member_stride}
use Rattle.c_values.specs.Pointers.{capped}
use Rattle.c_meaning.specs.Meaning.{is_sub}
use Rattle.ir.specs.declared.form.Base.TheVariants as base
use Rattle.ir.specs.declared.form.Operand.{Operand}
use Rattle.ir.specs.declared.form.Operand.TheVariants as operand
use Rattle.ir.specs.declared.form.Target.TheVariants as target
use Rattle.ir.specs.declared.form.Operation.{Operation}
use Rattle.ir.specs.declared.form.Operation.TheVariants as operation
use Rattle.ir.specs.declared.form.Test.TheVariants as test
use Rattle.ir.specs.declared.form.Keep.{Keep}
use Rattle.ir.specs.declared.form.Keep.TheVariants as keep
use Rattle.ir.specs.declared.form.Step.{Step}
use Rattle.ir.specs.declared.form.StepKind.{StepKind}
use Rattle.ir.specs.declared.form.StepKind.TheVariants as step

-- steps for any first place and any depth, always as many
pub record Code : Type 0 where
  pub size : ℕ
  pub steps : (p d : ℕ) → List Step

abbrev pub at_node : ℕ → StepKind → Step
at_node node k = record { node = node; kind = k }

abbrev pub no_code : Code
no_code = record { size = 0; steps = λ p d. [] }

-- one step, by its depth
abbrev pub single : ℕ → (ℕ → StepKind) → Code
single node k = record { size = 1; steps = λ p d. at_node node (k d) ∷ [] }

-- a code so many temporaries higher
abbrev pub above : ℕ → Code → Code
above by c = record { size = c.size; steps = λ p d. c.steps p (d + by) }

-- one code after the other
abbrev pub then_code : Code → Code → Code
then_code a b = record { size = a.size + b.size; steps = λ p d. a.steps p d ++ b.steps (p + a.size) d }

-- a code and a step that takes what it gives
abbrev pub then_step : Code → ℕ → (ℕ → StepKind) → Code
then_step c node k = then_code c (single node k)

-- a code, another above what it gives, and a step that takes both
abbrev pub both_then : Code → Code → ℕ → (ℕ → StepKind) → Code
both_then a b node k = then_code a (then_step (above 1 b) node k)

-- an expression with its type, and its code
pub record Coded : Type 0 where
  pub ty : Ty
  pub code : Code

-- a part of a local that is no element of an array: the local's number and the offset in bytes
pub record Part : Type 0 where
  pub local : ℕ
  pub offset : ℕ

-- a place: its code, and which part of a local it is, if it is one
pub record Spot : Type 0 where
  pub code : Code
  pub part : Option Part

-- a place with its type, and what it is
pub record Spotted : Type 0 where
  pub ty : Ty
  pub spot : Spot

abbrev pub elsewhere : Code → Spot
elsewhere c = record { code = c; part = None }

abbrev pub part_at : Option Part → ℕ → Option Part
part_at None offset = None
part_at (Some q) offset = Some (record q { offset = capped (q.offset + offset) })

-- a constant of a pointer type is the null pointer
abbrev pub constant : Bool → ℤ → Operand
constant true v = operand.Null
constant false v = operand.Constant v

abbrev pub put : ℕ → Operand → Code
put node x = single node (λ d. step.Put d x)

abbrev pub bit : ℕ → ℤ → Code
bit node n = put node (operand.Constant n)

-- a jump to a place where the topmost temporary is zero
abbrev pub unless : IntType → ℕ → ℕ → StepKind
unless t to d = step.Branch d (test.Value operand.Temporary) t false to

-- a test, with what follows where it holds and where it does not
abbrev pub choice : ℕ → IntType → Code → Code → Code → Code
choice node t test one other = record {
  size = test.size + (1 + (one.size + (1 + other.size)));
  steps = λ p d. test.steps p d
      ++ (at_node node (unless t (p + test.size + 1 + one.size + 1) d)
      ∷ (one.steps (p + test.size + 1) d
      ++ (at_node node (step.Jump (p + test.size + 1 + one.size + 1 + other.size))
      ∷ other.steps (p + test.size + 1 + one.size + 1) d)));
}

-- 1 where a value is not zero, else 0
abbrev pub truth_code : ℕ → IntType → Code → Code
truth_code node t c = then_step c node (λ d. step.Truth d t operand.Temporary)

abbrev pub combined : ℕ → Operation → Code → Code → Code
combined node o left right = both_then left right node (λ d. step.Binary d o operand.Temporary operand.Temporary)

-- ---- stores

-- a store without a mark goes to a part of a local, and no lawful tree has another
abbrev pub store_local : ℕ → Option Part → Kind → Keep → Code
store_local node None k keeps = no_code
store_local node (Some q) k keeps = single node (λ d. step.StoreLocal d q.local q.offset k operand.Temporary keeps)

abbrev pub store_step : Kind → Keep → ℕ → StepKind
store_step k keeps d = step.Store d target.Temporary k operand.Temporary keeps

abbrev pub assign_code : ℕ → Spot → Kind → Bool → Code → Code
assign_code node s k true value = both_then s.code value node (store_step k keep.Stored)
assign_code node s k false value = then_code value (store_local node s.part k keep.Stored)

-- what an update computes of the old value and another: an operator on integers at a type, or a pointer moved by
-- elements of a size
abbrev pub update_operation : BinaryOp → Option IntType → IntType → ℕ → Operation
update_operation o (Some t) own size = operation.Integers o t own
update_operation o None own size = operation.PointerPlus (is_sub o) size None (Some own) false

-- the old value above the place, what is computed of it and a value, and the store
abbrev pub update_stored : ℕ → Code → Kind → Operation → Code → Code
update_stored node c k o value =
    then_code c (then_code (single node (λ d. step.Peek d k)) (then_code (above 2 value) (then_code
    (single node (λ d. step.Binary (d + 1) o operand.Temporary operand.Temporary)) (single node (store_step k keep.Stored)))))

-- the same, and the old value stays to be kept
abbrev pub update_before : ℕ → Code → Kind → Operation → Code → Code
update_before node c k o value =
    then_code c (then_code (single node (λ d. step.Peek d k)) (then_code (above 2 value)
    (then_code (single node (λ d. step.Beside (d + 1) o)) (single node (store_step k keep.Before)))))

abbrev pub scalar_of : Part → Kind → Operand
scalar_of q k = operand.Scalar (base.Local q.local) q.offset k

-- without a mark
abbrev pub update_local : ℕ → Option Part → Kind → Operation → Code → Bool → Code
update_local node None k o value old = no_code
update_local node (Some q) k o value false =
    then_code (put node (scalar_of q k)) (then_code (above 1 value) (then_code
    (single node (λ d. step.Binary d o operand.Temporary operand.Temporary)) (store_local node (Some q) k keep.Stored)))
update_local node (Some q) k o value true =
    then_code (put node (scalar_of q k)) (then_code (above 1 value) (then_code
    (single node (λ d. step.Beside d o)) (store_local node (Some q) k keep.Before)))

abbrev pub update_code : ℕ → Spot → Kind → Operation → Code → (old marked : Bool) → Code
update_code node s k o value false true = update_stored node s.code k o value
update_code node s k o value true true = update_before node s.code k o value
update_code node s k o value old false = update_local node s.part k o value old

-- whether the integer of a pointer and an integer is the left one
abbrev pub swapped : Ty → Bool
swapped left = not (is_pointer left)

-- arguments above one another
abbrev pub args_code : List Coded → Code
args_code [] = no_code
args_code (a ∷ more) = then_code a.code (above 1 (args_code more))

abbrev pub call_code : ℕ → ℕ → ℕ → Code → Code
call_code node function n args =
    then_code args (then_code (single node (λ d. step.Call d function n)) (single node (λ d. step.Result d true)))

abbrev pub Layer : Type 0
Layer = Ty → ℕ → Code

abbrev pub PlaceLayer : Type 0
PlaceLayer = Ty → ℕ → Spot

module _ (structs : List Struct) where
  -- a pointer of a type plus or minus an integer, whose operands have types
  abbrev pub pointer_plus : (minus : Bool) → (ty left right : Ty) → Operation
  pointer_plus minus ty left right =
      operation.PointerPlus minus (stride structs (target_of ty)) (Some (int_type_of left)) (Some (int_type_of right))
      (swapped left)

  -- the code of one layer of an expression: its own type and node, and its parts
  abbrev pub expr_layer : ExprKind-F Layer PlaceLayer Coded Spotted → Layer
  expr_layer (ExprKind-F.Constant v) ty node = put node (constant (is_pointer ty) v)
  expr_layer (ExprKind-F.Read place) ty node = then_step place.spot.code node (λ d. step.Load d (kind_of ty))
  expr_layer (ExprKind-F.Convert of) ty node = then_step of.code node (λ d. step.Convert d (int_type_of ty) operand.Temporary)
  expr_layer (ExprKind-F.Unary o of) ty node = then_step of.code node
      (λ d. step.Unary d o (int_type_of of.ty) operand.Temporary)
  expr_layer (ExprKind-F.Binary o t left right) ty node =
      combined node (operation.Integers o t (int_type_of right.ty)) left.code right.code
  expr_layer (ExprKind-F.PointerPlus minus left right) ty node =
      combined node (pointer_plus minus ty left.ty right.ty) left.code right.code
  expr_layer (ExprKind-F.Difference left right) ty node =
      combined node (operation.Difference (stride structs (target_of left.ty))) left.code right.code
  expr_layer (ExprKind-F.ComparePointers o left right) ty node
      = combined node (operation.ComparePointers o) left.code right.code
  expr_layer (ExprKind-F.And left right) ty node =
      choice node (int_type_of left.ty) left.code (truth_code node (int_type_of right.ty) right.code) (bit node (pos 0))
  expr_layer (ExprKind-F.Or left right) ty node =
      choice node (int_type_of left.ty) left.code (bit node (pos 1)) (truth_code node (int_type_of right.ty) right.code)
  expr_layer (ExprKind-F.Conditional test one other) ty node = choice node (int_type_of test.ty) test.code one.code other.code
  expr_layer (ExprKind-F.Assign place value marked) ty node = assign_code node place.spot (kind_of ty) marked value.code
  expr_layer (ExprKind-F.Update o t place value old marked) ty node =
      update_code node place.spot (kind_of ty) (update_operation o t (int_type_of value.ty) (stride structs (target_of ty)))
      value.code old marked
  expr_layer (ExprKind-F.Address place) ty node = then_step place.spot.code node step.PointTo
  expr_layer (ExprKind-F.Call function args) ty node = call_code node function (length args) (args_code args)
  expr_layer (ExprKind-F.Sense channel) ty node = single node (λ d. step.Sense d channel)
  expr_layer (ExprKind-F.Emit of) ty node = then_step of.code node (λ d. step.Emit d operand.Temporary)
  expr_layer ExprKind-F.Checkpoint ty node = single node step.Checkpoint
  expr_layer (ExprKind-F.Comma left right) ty node = then_code left.code (then_code (single node step.Drop) right.code)

  -- and of a place
  abbrev pub place_layer : PlaceKind-F Layer PlaceLayer Coded Spotted → PlaceLayer
  place_layer (PlaceKind-F.Local n) ty node =
      record { code = single node (λ d. step.Address d (base.Local n) 0); part = Some (record { local = n; offset = 0 }) }
  place_layer (PlaceKind-F.Global n) ty node = elsewhere (single node (λ d. step.Address d (base.Global n) 0))
  place_layer (PlaceKind-F.Deref of) ty node = elsewhere (then_step of.code node (λ d. step.Follow d operand.Temporary))
  place_layer (PlaceKind-F.Member of tag member) ty node = record {
    code = then_step of.spot.code node (λ d. step.Member d (member_stride structs tag member));
    part = part_at of.spot.part (member_stride structs tag member);
  }
  place_layer (PlaceKind-F.Element of index) ty node =
      elsewhere (both_then of.spot.code index.code node
      (λ d. step.Element d (stride structs ty) (int_type_of index.ty) operand.Temporary))
  place_layer (PlaceKind-F.At left right) ty node =
      elsewhere (both_then left.code right.code node
      (λ d. step.Sum d (stride structs ty) (int_type_of left.ty) (int_type_of right.ty)
      (swapped left.ty) operand.Temporary operand.Temporary))

  abbrev pub expr_kind : ExprKind → Layer
  expr_kind = fold-ExprKind Layer PlaceLayer Coded Spotted expr_layer place_layer
      (λ e. record { ty = e.ty; code = e.kind e.ty e.node }) (λ p. record { ty = p.ty; spot = p.kind p.ty p.node })

  abbrev pub place_kind : PlaceKind → PlaceLayer
  place_kind = fold-PlaceKind Layer PlaceLayer Coded Spotted expr_layer place_layer
      (λ e. record { ty = e.ty; code = e.kind e.ty e.node }) (λ p. record { ty = p.ty; spot = p.kind p.ty p.node })

  -- the steps of an expression
  abbrev pub expr : Expr → Code
  expr e = expr_kind e.kind e.ty e.node

  -- the steps of a place
  abbrev pub place : Place → Spot
  place p = place_kind p.kind p.ty p.node
