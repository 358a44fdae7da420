-- How tightly an expression binds (C99 6.5): a comma least, then assignment and `?:`, the ten levels of binary operators,
-- casts, what stands before an operand, what stands behind one, and a name or a constant most.
use Rattle.std.specs.Prelude.{ℕ}
use Rattle.base16.specs.declared.operator.BinaryOp.{BinaryOp}
use Rattle.base16.specs.declared.operator.BinaryOp.TheVariants as op
use Rattle.c_tree.specs.declared.expression.Expr.{Expr}
use Rattle.c_tree.specs.declared.expression.ExprKind.{ExprKind, out-ExprKind}
use Rattle.c_tree.specs.declared.expression.ExprKind.TheOpen.{ExprKind-F}

abbrev pub comma_rank : ℕ
comma_rank = 1

abbrev pub assign_rank : ℕ
assign_rank = 2

abbrev pub conditional_rank : ℕ
conditional_rank = 3

abbrev pub or_rank : ℕ
or_rank = 4

abbrev pub and_rank : ℕ
and_rank = 5

abbrev pub cast_rank : ℕ
cast_rank = 14

abbrev pub unary_rank : ℕ
unary_rank = 15

abbrev pub postfix_rank : ℕ
postfix_rank = 16

abbrev pub primary_rank : ℕ
primary_rank = 17

abbrev pub level : BinaryOp → ℕ
level op.Or = 6
level op.Xor = 7
level op.And = 8
level op.Equal = 9
level op.NotEqual = 9
level op.Less = 10
level op.Greater = 10
level op.LessEq = 10
level op.GreaterEq = 10
level op.Shl = 11
level op.Shr = 11
level op.Add = 12
level op.Sub = 12
level op.Mul = 13
level op.Div = 13
level op.Rem = 13

abbrev pub rank_in : {A B C : Type 0} → ExprKind-F A B C → ℕ
rank_in (ExprKind-F.Comma _ _) = comma_rank
rank_in (ExprKind-F.Assign _ _ _) = assign_rank
rank_in (ExprKind-F.Conditional _ _ _) = conditional_rank
rank_in (ExprKind-F.Or _ _) = or_rank
rank_in (ExprKind-F.And _ _) = and_rank
rank_in (ExprKind-F.Binary _ op _) = level op
rank_in (ExprKind-F.Cast _ _) = cast_rank
rank_in (ExprKind-F.PreIncrement _) = unary_rank
rank_in (ExprKind-F.PreDecrement _) = unary_rank
rank_in (ExprKind-F.AddressOf _) = unary_rank
rank_in (ExprKind-F.Deref _) = unary_rank
rank_in (ExprKind-F.Unary _ _) = unary_rank
rank_in (ExprKind-F.SizeofExpr _) = unary_rank
rank_in (ExprKind-F.SizeofType _) = unary_rank
rank_in (ExprKind-F.Index _ _) = postfix_rank
rank_in (ExprKind-F.Call _ _) = postfix_rank
rank_in (ExprKind-F.Member _ _) = postfix_rank
rank_in (ExprKind-F.Arrow _ _) = postfix_rank
rank_in (ExprKind-F.PostIncrement _) = postfix_rank
rank_in (ExprKind-F.PostDecrement _) = postfix_rank
rank_in (ExprKind-F.Paren _) = primary_rank
rank_in (ExprKind-F.Name _) = primary_rank
rank_in (ExprKind-F.Number _ _ _) = primary_rank
rank_in (ExprKind-F.Char _) = primary_rank

unfoldable pub rank_of : ExprKind → ℕ
rank_of k = rank_in (out-ExprKind k)

abbrev pub rank : Expr → ℕ
rank e = rank_of e.kind
