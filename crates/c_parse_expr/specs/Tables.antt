-- The tables of operators: which marks stand before an operand, and which between two.
use Rattle.std.specs.Prelude.{ℕ, ◌+◌, Option, Some, None}
use Rattle.base16.specs.declared.operator.BinaryOp.{BinaryOp}
use Rattle.base16.specs.declared.operator.BinaryOp.TheVariants as op
use Rattle.base16.specs.declared.operator.UnaryOp.TheVariants as un
use Rattle.c_lex.specs.declared.token.Mark.{Mark as AMark}
use Rattle.c_lex.specs.declared.token.Mark.TheVariants as m
use Rattle.c_lex.specs.declared.token.TokenKind.{TokenKind}
use Rattle.c_lex.specs.declared.token.TokenKind.TheVariants.{Mark}
use Rattle.c_tree.specs.declared.expression.Expr.{Expr}
use Rattle.c_tree.specs.declared.expression.ExprKind.{ExprKind}
use Rattle.c_tree.specs.declared.expression.ExprKind.TheVariants as k
use Rattle.c_parse_expr.specs.Ranks.{comma_rank, assign_rank, conditional_rank, or_rank, and_rank, cast_rank, unary_rank, level}

-- What stands before an operand: how tightly that has to bind, and the whole, which is a unary expression.
pub record Prefix : Type 0 where
  pub operand : ℕ
  pub make : Expr → ExprKind

abbrev pub mark_prefix : AMark → Option Prefix
mark_prefix m.PlusPlus = Some (record { operand = unary_rank; make = k.PreIncrement })
mark_prefix m.MinusMinus = Some (record { operand = unary_rank; make = k.PreDecrement })
mark_prefix m.Ampersand = Some (record { operand = cast_rank; make = k.AddressOf })
mark_prefix m.Star = Some (record { operand = cast_rank; make = k.Deref })
mark_prefix m.Plus = Some (record { operand = cast_rank; make = k.Unary un.Plus })
mark_prefix m.Minus = Some (record { operand = cast_rank; make = k.Unary un.Minus })
mark_prefix m.Tilde = Some (record { operand = cast_rank; make = k.Unary un.Complement })
mark_prefix m.Exclamation = Some (record { operand = cast_rank; make = k.Unary un.Not })
mark_prefix _ = None

abbrev pub prefix : TokenKind → Option Prefix
prefix (Mark x) = mark_prefix x
prefix _ = None

-- What stands between two operands: how tightly each has to bind, how tightly the whole binds, and the whole.
pub record Joint : Type 0 where
  pub left : ℕ
  pub right : ℕ
  pub rank : ℕ
  pub make : Expr → Expr → ExprKind

-- what groups to the left
abbrev pub leftward : ℕ → (Expr → Expr → ExprKind) → Option Joint
leftward rank make = Some (record { left = rank; right = rank + 1; rank = rank; make = make })

abbrev pub binary : BinaryOp → Option Joint
binary op = leftward (level op) (λ l r. k.Binary l op r)

-- an assignment groups to the right
abbrev pub assigning : Option BinaryOp → Option Joint
assigning op = Some (record { left = conditional_rank; right = assign_rank; rank = assign_rank; make = λ l r. k.Assign l op r })

abbrev pub mark_joint : AMark → Option Joint
mark_joint m.Comma = leftward comma_rank k.Comma
mark_joint m.OrOr = leftward or_rank k.Or
mark_joint m.AndAnd = leftward and_rank k.And
mark_joint m.Bar = binary op.Or
mark_joint m.Caret = binary op.Xor
mark_joint m.Ampersand = binary op.And
mark_joint m.EqualEqual = binary op.Equal
mark_joint m.NotEqual = binary op.NotEqual
mark_joint m.Less = binary op.Less
mark_joint m.Greater = binary op.Greater
mark_joint m.LessEqual = binary op.LessEq
mark_joint m.GreaterEqual = binary op.GreaterEq
mark_joint m.ShiftLeft = binary op.Shl
mark_joint m.ShiftRight = binary op.Shr
mark_joint m.Plus = binary op.Add
mark_joint m.Minus = binary op.Sub
mark_joint m.Star = binary op.Mul
mark_joint m.Slash = binary op.Div
mark_joint m.Percent = binary op.Rem
mark_joint m.Assign = assigning None
mark_joint m.StarAssign = assigning (Some op.Mul)
mark_joint m.SlashAssign = assigning (Some op.Div)
mark_joint m.PercentAssign = assigning (Some op.Rem)
mark_joint m.PlusAssign = assigning (Some op.Add)
mark_joint m.MinusAssign = assigning (Some op.Sub)
mark_joint m.ShiftLeftAssign = assigning (Some op.Shl)
mark_joint m.ShiftRightAssign = assigning (Some op.Shr)
mark_joint m.AmpersandAssign = assigning (Some op.And)
mark_joint m.CaretAssign = assigning (Some op.Xor)
mark_joint m.BarAssign = assigning (Some op.Or)
mark_joint _ = None

abbrev pub joint : TokenKind → Option Joint
joint (Mark x) = mark_joint x
joint _ = None
