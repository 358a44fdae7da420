-- What each kind of expression measures, for every way to join.
use Rattle.std.proofs.Common.{◌≡◌, ℕ, Bool, List, [], ◌∷◌, Option, map, rules}
use Rattle.base16.specs.declared.operator.BinaryOp.{BinaryOp}
use Rattle.base16.specs.declared.operator.UnaryOp.{UnaryOp}
use Rattle.c_tree.specs.Measure.{Join, node, all, expr_kind_measure, expr_measure, typename_measure}
use Rattle.c_tree.specs.declared.expression.Expr.{Expr}
use Rattle.c_tree.specs.declared.expression.ExprKind.{the_lemmas}
use Rattle.c_tree.specs.declared.expression.ExprKind.TheVariants as k
use Rattle.c_tree.specs.declared.expression.Typename.{Typename, out-Typename}

pub measure-Name : (join : Join) (n : List ℕ) → expr_kind_measure join (k.Name n) ≡ 1
measure-Name join n = search (rules, the_lemmas)

pub measure-Number : (join : Join) (value : ℕ) (decimal : Bool) (unsigned : Bool)
    → expr_kind_measure join (k.Number value decimal unsigned) ≡ 1
measure-Number join value decimal unsigned = search (rules, the_lemmas)

pub measure-Char : (join : Join) (c : ℕ) → expr_kind_measure join (k.Char c) ≡ 1
measure-Char join c = search (rules, the_lemmas)

pub measure-Paren : (join : Join) (of : Expr)
    → expr_kind_measure join (k.Paren of) ≡ node join (expr_measure join of ∷ [])
measure-Paren join of = search (rules, the_lemmas)

pub measure-PostIncrement : (join : Join) (of : Expr)
    → expr_kind_measure join (k.PostIncrement of) ≡ node join (expr_measure join of ∷ [])
measure-PostIncrement join of = search (rules, the_lemmas)

pub measure-PostDecrement : (join : Join) (of : Expr)
    → expr_kind_measure join (k.PostDecrement of) ≡ node join (expr_measure join of ∷ [])
measure-PostDecrement join of = search (rules, the_lemmas)

pub measure-PreIncrement : (join : Join) (of : Expr)
    → expr_kind_measure join (k.PreIncrement of) ≡ node join (expr_measure join of ∷ [])
measure-PreIncrement join of = search (rules, the_lemmas)

pub measure-PreDecrement : (join : Join) (of : Expr)
    → expr_kind_measure join (k.PreDecrement of) ≡ node join (expr_measure join of ∷ [])
measure-PreDecrement join of = search (rules, the_lemmas)

pub measure-AddressOf : (join : Join) (of : Expr)
    → expr_kind_measure join (k.AddressOf of) ≡ node join (expr_measure join of ∷ [])
measure-AddressOf join of = search (rules, the_lemmas)

pub measure-Deref : (join : Join) (of : Expr)
    → expr_kind_measure join (k.Deref of) ≡ node join (expr_measure join of ∷ [])
measure-Deref join of = search (rules, the_lemmas)

pub measure-SizeofExpr : (join : Join) (of : Expr)
    → expr_kind_measure join (k.SizeofExpr of) ≡ node join (expr_measure join of ∷ [])
measure-SizeofExpr join of = search (rules, the_lemmas)

pub measure-Member : (join : Join) (of : Expr) (name : List ℕ)
    → expr_kind_measure join (k.Member of name) ≡ node join (expr_measure join of ∷ [])
measure-Member join of name = search (rules, the_lemmas)

pub measure-Arrow : (join : Join) (of : Expr) (name : List ℕ)
    → expr_kind_measure join (k.Arrow of name) ≡ node join (expr_measure join of ∷ [])
measure-Arrow join of name = search (rules, the_lemmas)

pub measure-Unary : (join : Join) (op : UnaryOp) (of : Expr)
    → expr_kind_measure join (k.Unary op of) ≡ node join (expr_measure join of ∷ [])
measure-Unary join op of = search (rules, the_lemmas)

pub measure-Index : (join : Join) (of : Expr) (at : Expr)
    → expr_kind_measure join (k.Index of at) ≡ node join (expr_measure join of ∷ expr_measure join at ∷ [])
measure-Index join of at = search (rules, the_lemmas)

pub measure-Call : (join : Join) (callee : Expr) (arguments : List Expr)
    → expr_kind_measure join (k.Call callee arguments) ≡ node join (expr_measure join callee ∷ map (expr_measure join) arguments)
measure-Call join callee arguments = search (rules, the_lemmas)

pub measure-SizeofType : (join : Join) (of : Typename)
    → expr_kind_measure join (k.SizeofType of) ≡ node join (typename_measure join of ∷ [])
measure-SizeofType join of = search (rules, the_lemmas)

pub measure-Cast : (join : Join) (to : Typename) (of : Expr)
    → expr_kind_measure join (k.Cast to of) ≡ node join (typename_measure join to ∷ expr_measure join of ∷ [])
measure-Cast join to of = search (rules, the_lemmas)

pub measure-Binary : (join : Join) (left : Expr) (op : BinaryOp) (right : Expr)
    → expr_kind_measure join (k.Binary left op right) ≡ node join (expr_measure join left ∷ expr_measure join right ∷ [])
measure-Binary join left op right = search (rules, the_lemmas)

pub measure-Assign : (join : Join) (place : Expr) (op : Option BinaryOp) (value : Expr)
    → expr_kind_measure join (k.Assign place op value) ≡ node join (expr_measure join place ∷ expr_measure join value ∷ [])
measure-Assign join place op value = search (rules, the_lemmas)

pub measure-And : (join : Join) (left : Expr) (right : Expr)
    → expr_kind_measure join (k.And left right) ≡ node join (expr_measure join left ∷ expr_measure join right ∷ [])
measure-And join left right = search (rules, the_lemmas)

pub measure-Or : (join : Join) (left : Expr) (right : Expr)
    → expr_kind_measure join (k.Or left right) ≡ node join (expr_measure join left ∷ expr_measure join right ∷ [])
measure-Or join left right = search (rules, the_lemmas)

pub measure-Comma : (join : Join) (left : Expr) (right : Expr)
    → expr_kind_measure join (k.Comma left right) ≡ node join (expr_measure join left ∷ expr_measure join right ∷ [])
measure-Comma join left right = search (rules, the_lemmas)

pub measure-Conditional : (join : Join) (test : Expr) (one : Expr) (other : Expr)
    → expr_kind_measure join (k.Conditional test one other)
    ≡ node join (expr_measure join test ∷ expr_measure join one ∷ expr_measure join other ∷ [])
measure-Conditional join test one other = search (rules, the_lemmas)

-- a type name has the bounds in it
pub measure-Typename : (join : Join) (t : Typename)
    → typename_measure join t ≡ all join (expr_measure join) (out-Typename t).bounds
measure-Typename join t = search (rules, the_lemmas)
