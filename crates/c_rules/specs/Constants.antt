-- Constant expressions (C99 6.6 in this profile): constants, integer casts, unary + - ~ !, binary operators, && and ||,
-- and ?:, of which the evaluation breaks no rule. A `sizeof` is a constant by now. What stands in a part that is not
-- evaluated has to be made of constants too, and may break a rule.
use Rattle.std.specs.Prelude.{ℕ, ℤ, pos, Bool, not, if◌then◌else◌, Option, Some, None, Result, Ok, Err}
use Rattle.base16.specs.declared.integer.IntType.{IntType}
use Rattle.base16.specs.Integer.{wrapped}
use Rattle.base16.specs.declared.operator.BinaryOp.{BinaryOp}
use Rattle.base16.specs.declared.operator.UnaryOp.{UnaryOp}
use Rattle.core_tree.specs.declared.types.Ty.{Ty, out-Ty}
use Rattle.core_tree.specs.declared.types.Ty.TheOpen.{Ty-F}
use Rattle.core_tree.specs.declared.expressions.Expr.{Expr}
use Rattle.core_tree.specs.declared.expressions.ExprKind.{ExprKind, fold-ExprKind}
use Rattle.core_tree.specs.declared.expressions.ExprKind.TheOpen.{ExprKind-F}
use Rattle.core_tree.specs.Layout.{int_type_of}
use Rattle.c_rules.specs.declared.constants.Part.{Part}
use Rattle.c_values.specs.Operators.{as_type, number, unary, binary, truth, is_zero}
use Rattle.c_values.specs.Values.{right_type}

-- what a part is: none where it is made of more than constants, and else its value or the first rule that its
-- evaluation breaks
abbrev pub Known : Type 0
Known = Option (Result ℤ ℕ)

-- ---- one part after another

abbrev pub then_by : Known → (ℤ → Known) → Known
then_by None f = None
then_by (Some (Err rule)) f = Some (Err rule)
then_by (Some (Ok v)) f = f v

-- what is known of one part, where another is made of constants
abbrev pub beside : Known → Known → Known
beside None k = None
beside (Some _) k = k

-- whether a part that is tested is not zero
abbrev pub holds : IntType → ℤ → Bool
holds t v = not (is_zero (number t v))

abbrev pub tested : Part → (Bool → Known) → Known
tested p f = then_by p.known (λ v. f (holds p.at v))

-- 1 where a part holds and 0 where not
abbrev pub truth_of : Part → Known
truth_of p = tested p (λ b. Some (Ok (truth b)))

-- ---- the parts

abbrev pub literal : ℤ → Ty-F Ty → Known
literal v (Ty-F.Num t) = Some (Ok v)
literal v _ = None

abbrev pub cast_to : Known → Ty-F Ty → Known
cast_to k (Ty-F.Num t) = then_by k (λ v. Some (Ok (as_type t v)))
cast_to k _ = None

abbrev pub unary_of : UnaryOp → Part → Known
unary_of op of = then_by of.known (λ v. Some (unary op of.at (number of.at v)))

abbrev pub binary_of : BinaryOp → IntType → Part → Part → Known
binary_of op at left right =
    beside right.known (then_by left.known (λ a. then_by right.known (λ b.
    Some (binary op at (number at a) (number (right_type op at right.at) b)))))

-- the right part is not evaluated where the left decides
abbrev pub and_of : Part → Part → Known
and_of left right = beside right.known (tested left (λ x. if x then truth_of right else Some (Ok (pos 0))))

abbrev pub or_of : Part → Part → Known
or_of left right = beside right.known (tested left (λ x. if x then Some (Ok (pos 1)) else truth_of right))

-- the part that is not chosen is not evaluated
abbrev pub chosen_of : Part → Part → Part → Known
chosen_of test one other = beside one.known (beside other.known (tested test (λ x. if x then one.known else other.known)))

abbrev pub known_layer : ExprKind-F (Ty → Known) (Unit {0}) Part (Unit {0}) → Ty → Known
known_layer (ExprKind-F.Constant v) ty = literal v (out-Ty ty)
known_layer (ExprKind-F.Convert of) ty = cast_to of.known (out-Ty ty)
known_layer (ExprKind-F.Unary op of) ty = unary_of op of
known_layer (ExprKind-F.Binary op at left right) ty = binary_of op at left right
known_layer (ExprKind-F.And left right) ty = and_of left right
known_layer (ExprKind-F.Or left right) ty = or_of left right
known_layer (ExprKind-F.Conditional test one other) ty = chosen_of test one other
known_layer _ ty = None

abbrev pub known_kind : ExprKind → Ty → Known
known_kind = fold-ExprKind (Ty → Known) (Unit {0}) Part (Unit {0}) known_layer (λ _. tt) (λ e. record { at = int_type_of e.ty; known = e.kind e.ty }) (λ _. tt)

-- an expression as a part of another
unfoldable pub part_of : Expr → Part
part_of e = record { at = int_type_of e.ty; known = known_kind e.kind e.ty }

abbrev pub value_at : IntType → Known → Option ℤ
value_at t (Some (Ok v)) = Some (number t v)
value_at t _ = None

-- the value of a constant expression
unfoldable pub value : Expr → Option ℤ
value e = value_at (part_of e).at (part_of e).known

abbrev pub word_of : Option ℤ → Option ℕ
word_of (Some v) = Some (wrapped v)
word_of None = None

-- the word of its value
abbrev pub constant : Expr → Option ℕ
constant e = word_of (value e)
