-- The rank of each kind of expression.
use Rattle.std.proofs.Common.{◌≡◌, ℕ, ◌≤◌, Bool, List, Option, rules, arith}
use Rattle.base16.specs.declared.operator.BinaryOp.{BinaryOp}
use Rattle.base16.specs.declared.operator.BinaryOp.TheVariants as op
use Rattle.base16.specs.declared.operator.UnaryOp.{UnaryOp}
use Rattle.c_tree.specs.declared.expression.Expr.{Expr}
use Rattle.c_tree.specs.declared.expression.ExprKind.{ExprKind, out-ExprKind, the_lemmas}
use Rattle.c_tree.specs.declared.expression.ExprKind.TheOpen.{ExprKind-F}
use Rattle.c_tree.specs.declared.expression.ExprKind.TheVariants as k
use Rattle.c_tree.specs.declared.expression.Typename.{Typename}
use Rattle.c_parse_expr.specs.Ranks.{comma_rank, assign_rank, conditional_rank, or_rank, and_rank, cast_rank, unary_rank, postfix_rank, primary_rank, level, rank_in, rank_of}

pub rank-Name : (n : List ℕ) → rank_of (k.Name n) ≡ primary_rank
unfolding rank_of
rank-Name n = search (rules, the_lemmas)

pub rank-Number : (n : ℕ) (decimal : Bool) (suffixed : Bool) → rank_of (k.Number n decimal suffixed) ≡ primary_rank
unfolding rank_of
rank-Number n decimal suffixed = search (rules, the_lemmas)

pub rank-Char : (c : ℕ) → rank_of (k.Char c) ≡ primary_rank
unfolding rank_of
rank-Char c = search (rules, the_lemmas)

pub rank-Paren : (e : Expr) → rank_of (k.Paren e) ≡ primary_rank
unfolding rank_of
rank-Paren e = search (rules, the_lemmas)

pub rank-Index : (e : Expr) (at : Expr) → rank_of (k.Index e at) ≡ postfix_rank
unfolding rank_of
rank-Index e at = search (rules, the_lemmas)

pub rank-Call : (f : Expr) (args : List Expr) → rank_of (k.Call f args) ≡ postfix_rank
unfolding rank_of
rank-Call f args = search (rules, the_lemmas)

pub rank-Member : (e : Expr) (n : List ℕ) → rank_of (k.Member e n) ≡ postfix_rank
unfolding rank_of
rank-Member e n = search (rules, the_lemmas)

pub rank-Arrow : (e : Expr) (n : List ℕ) → rank_of (k.Arrow e n) ≡ postfix_rank
unfolding rank_of
rank-Arrow e n = search (rules, the_lemmas)

pub rank-PostIncrement : (e : Expr) → rank_of (k.PostIncrement e) ≡ postfix_rank
unfolding rank_of
rank-PostIncrement e = search (rules, the_lemmas)

pub rank-PostDecrement : (e : Expr) → rank_of (k.PostDecrement e) ≡ postfix_rank
unfolding rank_of
rank-PostDecrement e = search (rules, the_lemmas)

pub rank-PreIncrement : (e : Expr) → rank_of (k.PreIncrement e) ≡ unary_rank
unfolding rank_of
rank-PreIncrement e = search (rules, the_lemmas)

pub rank-PreDecrement : (e : Expr) → rank_of (k.PreDecrement e) ≡ unary_rank
unfolding rank_of
rank-PreDecrement e = search (rules, the_lemmas)

pub rank-AddressOf : (e : Expr) → rank_of (k.AddressOf e) ≡ unary_rank
unfolding rank_of
rank-AddressOf e = search (rules, the_lemmas)

pub rank-Deref : (e : Expr) → rank_of (k.Deref e) ≡ unary_rank
unfolding rank_of
rank-Deref e = search (rules, the_lemmas)

pub rank-Unary : (op : UnaryOp) (e : Expr) → rank_of (k.Unary op e) ≡ unary_rank
unfolding rank_of
rank-Unary op e = search (rules, the_lemmas)

pub rank-SizeofExpr : (e : Expr) → rank_of (k.SizeofExpr e) ≡ unary_rank
unfolding rank_of
rank-SizeofExpr e = search (rules, the_lemmas)

pub rank-SizeofType : (t : Typename) → rank_of (k.SizeofType t) ≡ unary_rank
unfolding rank_of
rank-SizeofType t = search (rules, the_lemmas)

pub rank-Cast : (t : Typename) (e : Expr) → rank_of (k.Cast t e) ≡ cast_rank
unfolding rank_of
rank-Cast t e = search (rules, the_lemmas)

pub rank-Binary : (l : Expr) (op : BinaryOp) (r : Expr) → rank_of (k.Binary l op r) ≡ level op
unfolding rank_of
rank-Binary l op r = search (rules, the_lemmas)

pub rank-And : (l : Expr) (r : Expr) → rank_of (k.And l r) ≡ and_rank
unfolding rank_of
rank-And l r = search (rules, the_lemmas)

pub rank-Or : (l : Expr) (r : Expr) → rank_of (k.Or l r) ≡ or_rank
unfolding rank_of
rank-Or l r = search (rules, the_lemmas)

pub rank-Conditional : (t : Expr) (y : Expr) (n : Expr) → rank_of (k.Conditional t y n) ≡ conditional_rank
unfolding rank_of
rank-Conditional t y n = search (rules, the_lemmas)

pub rank-Assign : (p : Expr) (op : Option BinaryOp) (v : Expr) → rank_of (k.Assign p op v) ≡ assign_rank
unfolding rank_of
rank-Assign p op v = search (rules, the_lemmas)

pub rank-Comma : (l : Expr) (r : Expr) → rank_of (k.Comma l r) ≡ comma_rank
unfolding rank_of
rank-Comma l r = search (rules, the_lemmas)

pub level_within : (op : BinaryOp) → (6 ≤ level op) × (level op ≤ 13)
level_within op.Or = (omega arith, omega arith)
level_within op.Xor = (omega arith, omega arith)
level_within op.And = (omega arith, omega arith)
level_within op.Equal = (omega arith, omega arith)
level_within op.NotEqual = (omega arith, omega arith)
level_within op.Less = (omega arith, omega arith)
level_within op.Greater = (omega arith, omega arith)
level_within op.LessEq = (omega arith, omega arith)
level_within op.GreaterEq = (omega arith, omega arith)
level_within op.Shl = (omega arith, omega arith)
level_within op.Shr = (omega arith, omega arith)
level_within op.Add = (omega arith, omega arith)
level_within op.Sub = (omega arith, omega arith)
level_within op.Mul = (omega arith, omega arith)
level_within op.Div = (omega arith, omega arith)
level_within op.Rem = (omega arith, omega arith)

rank_in_high : {A B C : Type 0} (x : ExprKind-F A B C) → 1 ≤ rank_in x
rank_in_high (ExprKind-F.Binary l op r) = omega (arith, level_within op)
rank_in_high _ = omega arith

pub rank_high : (kind : ExprKind) → 1 ≤ rank_of kind
unfolding rank_of
rank_high kind = rank_in_high (out-ExprKind kind)
