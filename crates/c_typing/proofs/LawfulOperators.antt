-- What the rows of operators answer has the type that its parts give it.
use Rattle.std.proofs.Common.{◌≡◌, ℕ, Bool, true, false, cond, ◌&&◌, Result, Ok, Err, Some, refl, sym, ap, ◌∙◌, rules}
use Rattle.base16.specs.declared.integer.IntType.{IntType}
use Rattle.base16.specs.declared.integer.IntType.TheVariants.{Char, Int, UInt}
use Rattle.base16.specs.declared.operator.UnaryOp.{UnaryOp}
use Rattle.base16.specs.declared.operator.BinaryOp.{BinaryOp}
use Rattle.base16.specs.declared.operator.BinaryOp.TheVariants as op
use Rattle.core_tree.specs.declared.types.Ty.{Ty}
use Rattle.core_tree.specs.declared.types.Ty.TheVariants as ty
use Rattle.core_tree.specs.declared.expressions.Expr.{Expr}
use Rattle.core_tree.specs.declared.expressions.ExprKind.TheVariants as k
use Rattle.core_tree.specs.Types.{same_int}
use Rattle.core_tree.specs.Rules.{promoted, balanced, is_scalar, computed_in, result_in}
use Rattle.core_tree.specs.Lawful.{Scope, IsExpr, is_expr, LawfulExpr, IsComputed, is_not, integer_converted, signed, binary, shift, both, either, sequence as comma}
use Rattle.c_typing.specs.declared.fault.Rule.{Rule}
use Rattle.c_typing.specs.declared.fault.Rule.TheVariants.{WrongType}
use Rattle.c_typing.specs.Values.{typed, to_int}
use Rattle.c_typing.specs.Operators.{integers, arithmetic, logical, sequence}
use Rattle.c_typing.specs.LawfulRows.{IntegersAreLawful, ArithmeticIsLawful, LogicalIsLawful, SequenceIsLawful}

same_int_is : (x y : IntType) → same_int x y ≡ true → x ≡ y
same_int_is Char Char e = refl
same_int_is Char Int e = absurd (search rules)
same_int_is Char UInt e = absurd (search rules)
same_int_is Int Char e = absurd (search rules)
same_int_is Int Int e = refl
same_int_is Int UInt e = absurd (search rules)
same_int_is UInt Char e = absurd (search rules)
same_int_is UInt Int e = absurd (search rules)
same_int_is UInt UInt e = refl

promoted_computed : (x : IntType) → IsComputed (promoted x)
promoted_computed Char = refl
promoted_computed Int = refl
promoted_computed UInt = refl

balanced_computed : (x y : IntType) → IsComputed (balanced x y)
balanced_computed Char Char = refl
balanced_computed Char Int = refl
balanced_computed Char UInt = refl
balanced_computed Int Char = refl
balanced_computed Int Int = refl
balanced_computed Int UInt = refl
balanced_computed UInt Char = refl
balanced_computed UInt Int = refl
balanced_computed UInt UInt = refl

to_int_by : (s : Scope) (x y : IntType) (e : Expr) (b : Bool) → same_int x y ≡ b → IsExpr s e (ty.Num x)
    → IsExpr s (cond b e (typed e.line (ty.Num y) (k.Convert e))) (ty.Num y)
to_int_by s x y e true same i = let h : x ≡ y = same_int_is x y same in rw (← h) i
to_int_by s x y e false same i = is_expr _ _ refl (integer_converted e x y i)

pub to_int_lawful : (s : Scope) (x y : IntType) (e : Expr) → IsExpr s e (ty.Num x) → IsExpr s (to_int x y e) (ty.Num y)
unfolding to_int
to_int_lawful s x y e i = to_int_by s x y e (same_int x y) refl i

pub integers_lawful : (s : Scope) (o : BinaryOp) (line : ℕ) (x y : IntType) (a b : Expr) → IntegersAreLawful s o line x a y b
unfolding integers
integers_lawful s op.Add line x y a b i j =
    is_expr _ _ refl (binary op.Add (balanced x y) _ _ refl (balanced_computed x y)
    (to_int_lawful s x (balanced x y) a i) (to_int_lawful s y (balanced x y) b j))
integers_lawful s op.Sub line x y a b i j =
    is_expr _ _ refl (binary op.Sub (balanced x y) _ _ refl (balanced_computed x y)
    (to_int_lawful s x (balanced x y) a i) (to_int_lawful s y (balanced x y) b j))
integers_lawful s op.Mul line x y a b i j =
    is_expr _ _ refl (binary op.Mul (balanced x y) _ _ refl (balanced_computed x y)
    (to_int_lawful s x (balanced x y) a i) (to_int_lawful s y (balanced x y) b j))
integers_lawful s op.Div line x y a b i j =
    is_expr _ _ refl (binary op.Div (balanced x y) _ _ refl (balanced_computed x y)
    (to_int_lawful s x (balanced x y) a i) (to_int_lawful s y (balanced x y) b j))
integers_lawful s op.Rem line x y a b i j =
    is_expr _ _ refl (binary op.Rem (balanced x y) _ _ refl (balanced_computed x y)
    (to_int_lawful s x (balanced x y) a i) (to_int_lawful s y (balanced x y) b j))
integers_lawful s op.Shl line x y a b i j =
    is_expr _ _ refl (shift op.Shl (promoted x) (promoted y) _ _ refl (promoted_computed x) (promoted_computed y)
    (to_int_lawful s x (promoted x) a i) (to_int_lawful s y (promoted y) b j))
integers_lawful s op.Shr line x y a b i j =
    is_expr _ _ refl (shift op.Shr (promoted x) (promoted y) _ _ refl (promoted_computed x) (promoted_computed y)
    (to_int_lawful s x (promoted x) a i) (to_int_lawful s y (promoted y) b j))
integers_lawful s op.Less line x y a b i j =
    is_expr _ _ refl (binary op.Less (balanced x y) _ _ refl (balanced_computed x y)
    (to_int_lawful s x (balanced x y) a i) (to_int_lawful s y (balanced x y) b j))
integers_lawful s op.Greater line x y a b i j =
    is_expr _ _ refl (binary op.Greater (balanced x y) _ _ refl (balanced_computed x y)
    (to_int_lawful s x (balanced x y) a i) (to_int_lawful s y (balanced x y) b j))
integers_lawful s op.LessEq line x y a b i j =
    is_expr _ _ refl (binary op.LessEq (balanced x y) _ _ refl (balanced_computed x y)
    (to_int_lawful s x (balanced x y) a i) (to_int_lawful s y (balanced x y) b j))
integers_lawful s op.GreaterEq line x y a b i j =
    is_expr _ _ refl (binary op.GreaterEq (balanced x y) _ _ refl (balanced_computed x y)
    (to_int_lawful s x (balanced x y) a i) (to_int_lawful s y (balanced x y) b j))
integers_lawful s op.Equal line x y a b i j =
    is_expr _ _ refl (binary op.Equal (balanced x y) _ _ refl (balanced_computed x y)
    (to_int_lawful s x (balanced x y) a i) (to_int_lawful s y (balanced x y) b j))
integers_lawful s op.NotEqual line x y a b i j =
    is_expr _ _ refl (binary op.NotEqual (balanced x y) _ _ refl (balanced_computed x y)
    (to_int_lawful s x (balanced x y) a i) (to_int_lawful s y (balanced x y) b j))
integers_lawful s op.And line x y a b i j =
    is_expr _ _ refl (binary op.And (balanced x y) _ _ refl (balanced_computed x y)
    (to_int_lawful s x (balanced x y) a i) (to_int_lawful s y (balanced x y) b j))
integers_lawful s op.Xor line x y a b i j =
    is_expr _ _ refl (binary op.Xor (balanced x y) _ _ refl (balanced_computed x y)
    (to_int_lawful s x (balanced x y) a i) (to_int_lawful s y (balanced x y) b j))
integers_lawful s op.Or line x y a b i j =
    is_expr _ _ refl (binary op.Or (balanced x y) _ _ refl (balanced_computed x y)
    (to_int_lawful s x (balanced x y) a i) (to_int_lawful s y (balanced x y) b j))

pub arithmetic_lawful : (s : Scope) (o : UnaryOp) (line : ℕ) (x : IntType) (e : Expr) → ArithmeticIsLawful s o line x e
arithmetic_lawful s o line x e other i =
    is_expr _ _ refl (signed o _ (promoted x) other (promoted_computed x) (to_int_lawful s x (promoted x) e i))

-- ---- `&&`, `||` and the comma

and_by : (s : Scope) (line : ℕ) (a b made : Expr) (p q : Bool) → is_scalar a.ty ≡ p → is_scalar b.ty ≡ q
    → LawfulExpr s a → LawfulExpr s b
    → cond (p && q) (Ok (typed line (ty.Num Int) (k.And a b))) (Err WrongType) ≡ Ok made → IsExpr s made (ty.Num Int)
and_by s line a b made true true at_a at_b i j is =
    let e : typed line (ty.Num Int) (k.And a b) ≡ made = cc in
    rw (← e) (is_expr _ _ refl (both a b a.ty b.ty i j at_a at_b))
and_by s line a b made true false at_a at_b i j is = absurd (search rules)
and_by s line a b made false q at_a at_b i j is = absurd (search rules)

or_by : (s : Scope) (line : ℕ) (a b made : Expr) (p q : Bool) → is_scalar a.ty ≡ p → is_scalar b.ty ≡ q
    → LawfulExpr s a → LawfulExpr s b
    → cond (p && q) (Ok (typed line (ty.Num Int) (k.Or a b))) (Err WrongType) ≡ Ok made → IsExpr s made (ty.Num Int)
or_by s line a b made true true at_a at_b i j is =
    let e : typed line (ty.Num Int) (k.Or a b) ≡ made = cc in
    rw (← e) (is_expr _ _ refl (either a b a.ty b.ty i j at_a at_b))
or_by s line a b made true false at_a at_b i j is = absurd (search rules)
or_by s line a b made false q at_a at_b i j is = absurd (search rules)

pub logical_lawful : (s : Scope) (line : ℕ) (a b made : Expr) → LogicalIsLawful s line a b made
unfolding logical
logical_lawful s line a b made i j = (
  λ is. and_by s line a b made (is_scalar a.ty) (is_scalar b.ty) refl refl i j is,
  λ is. or_by s line a b made (is_scalar a.ty) (is_scalar b.ty) refl refl i j is,
)

sequence_by : (s : Scope) (line : ℕ) (a b made : Expr) (q : Bool) → is_scalar b.ty ≡ q → LawfulExpr s a → LawfulExpr s b
    → cond q (Ok (typed line b.ty (k.Comma a b))) (Err WrongType) ≡ Ok made → IsExpr s made b.ty
sequence_by s line a b made true at_b i j is =
    let e : typed line b.ty (k.Comma a b) ≡ made = cc in
    rw (← e) (is_expr _ _ refl (comma a b a.ty b.ty i j at_b))
sequence_by s line a b made false at_b i j is = absurd (search rules)

pub sequence_lawful : (s : Scope) (line : ℕ) (a b made : Expr) → SequenceIsLawful s line a b made
unfolding sequence
sequence_lawful s line a b made i j is = sequence_by s line a b made (is_scalar b.ty) refl i j is
