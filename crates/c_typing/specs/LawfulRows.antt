-- What a row answers is lawful where its operands are: it has the type that its parts give it.
use Rattle.std.specs.Prelude.{◌≡◌, ℕ, false, Some, Ok}
use Rattle.base16.specs.declared.integer.IntType.{IntType}
use Rattle.base16.specs.declared.integer.IntType.TheVariants.{Int}
use Rattle.base16.specs.declared.operator.UnaryOp.{UnaryOp}
use Rattle.base16.specs.declared.operator.BinaryOp.{BinaryOp}
use Rattle.core_tree.specs.declared.types.Ty.{Ty}
use Rattle.core_tree.specs.declared.types.Ty.TheVariants as ty
use Rattle.core_tree.specs.declared.expressions.Expr.{Expr}
use Rattle.core_tree.specs.declared.expressions.ExprKind.TheVariants as k
use Rattle.core_tree.specs.Rules.{promoted, computed_in, result_in}
use Rattle.core_tree.specs.Lawful.{Scope, IsExpr, LawfulExpr, is_not}
use Rattle.c_typing.specs.Operators.{integers, arithmetic, logical, sequence}

-- two integers under a binary operator
abbrev pub IntegersAreLawful : Scope → BinaryOp → ℕ → IntType → Expr → IntType → Expr → Type 0
IntegersAreLawful s op line x a y b =
    IsExpr s a (ty.Num x) → IsExpr s b (ty.Num y)
    → IsExpr s (integers op line x a y b) (ty.Num (result_in op (computed_in op x y)))

-- an integer under `+`, `-` or `~`
abbrev pub ArithmeticIsLawful : Scope → UnaryOp → ℕ → IntType → Expr → Type 0
ArithmeticIsLawful s op line x e =
    is_not op ≡ false → IsExpr s e (ty.Num x) → IsExpr s (arithmetic op line x e) (ty.Num (promoted x))

-- `&&` and `||`
abbrev pub LogicalIsLawful : Scope → ℕ → Expr → Expr → Expr → Type 0
LogicalIsLawful s line a b made =
    LawfulExpr s a → LawfulExpr s b
    → (logical k.And line (Some a) (Some b) ≡ Ok made → IsExpr s made (ty.Num Int))
    × (logical k.Or line (Some a) (Some b) ≡ Ok made → IsExpr s made (ty.Num Int))

-- the comma
abbrev pub SequenceIsLawful : Scope → ℕ → Expr → Expr → Expr → Type 0
SequenceIsLawful s line a b made =
    LawfulExpr s a → LawfulExpr s b → sequence line (Some a) (Some b) ≡ Ok made → IsExpr s made b.ty
