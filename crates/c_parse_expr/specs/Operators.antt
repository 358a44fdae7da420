-- The tables of operators, as the program names their rows.
use Rattle.std.specs.Prelude.{ℕ, ◌+◌, Option, Some}
use Rattle.c_tree.specs.declared.expression.ExprKind.TheVariants as k
use Rattle.c_parse_expr.specs.declared.tables.Infix.{Infix}
use Rattle.c_parse_expr.specs.declared.tables.Infix.TheVariants as between
use Rattle.c_parse_expr.specs.declared.tables.Before.{Before}
use Rattle.c_parse_expr.specs.declared.tables.Before.TheVariants as before
use Rattle.c_parse_expr.specs.Ranks.{comma_rank, assign_rank, or_rank, and_rank, cast_rank, unary_rank, level}
use Rattle.c_parse_expr.specs.Tables.{Joint, leftward, binary, assigning, Prefix}

abbrev pub joint_of : Infix → Option Joint
joint_of between.Comma = leftward comma_rank k.Comma
joint_of between.Or = leftward or_rank k.Or
joint_of between.And = leftward and_rank k.And
joint_of (between.Binary op) = binary op
joint_of (between.Assign op) = assigning op

abbrev pub right_of : Infix → ℕ
right_of between.Comma = comma_rank + 1
right_of between.Or = or_rank + 1
right_of between.And = and_rank + 1
right_of (between.Binary op) = level op + 1
right_of (between.Assign op) = assign_rank

abbrev pub prefix_of : Before → Option Prefix
prefix_of before.Increment = Some (record { operand = unary_rank; make = k.PreIncrement })
prefix_of before.Decrement = Some (record { operand = unary_rank; make = k.PreDecrement })
prefix_of before.Address = Some (record { operand = cast_rank; make = k.AddressOf })
prefix_of before.Deref = Some (record { operand = cast_rank; make = k.Deref })
prefix_of (before.Unary op) = Some (record { operand = cast_rank; make = k.Unary op })

abbrev pub operand_of : Before → ℕ
operand_of before.Increment = unary_rank
operand_of before.Decrement = unary_rank
operand_of before.Address = cast_rank
operand_of before.Deref = cast_rank
operand_of (before.Unary op) = cast_rank
