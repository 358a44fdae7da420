-- Kinds of expressions and places with their nodes numbered.
use Rattle.std.proofs.Common.{◌≡◌, ℕ, Bool, List, map, Option, ℤ, rules}
use Rattle.base16.specs.declared.integer.IntType.{IntType}
use Rattle.base16.specs.declared.operator.UnaryOp.{UnaryOp}
use Rattle.base16.specs.declared.operator.BinaryOp.{BinaryOp}
use Rattle.core_tree.specs.declared.expressions.Expr.{Expr}
use Rattle.core_tree.specs.declared.expressions.Place.{Place}
use Rattle.core_tree.specs.declared.expressions.ExprKind.{ExprKind, fold-ExprKind, the_lemmas}
use Rattle.core_tree.specs.declared.expressions.PlaceKind.{PlaceKind, fold-PlaceKind}
use Rattle.core_tree.specs.declared.expressions.ExprKind.TheVariants as k
use Rattle.core_tree.specs.declared.expressions.PlaceKind.TheVariants as pk
use Rattle.core_tree.specs.declared.expressions.ExprKind.TheOpen.{ExprKind-F, PlaceKind-F}
use Rattle.c_checking.specs.Numbering.{Numbered, node, one, two, three, pure, each, expr_step, place_step, expr_numbered, place_numbered}

abbrev pub kind_numbered : ExprKind → Numbered ExprKind
kind_numbered = fold-ExprKind (Numbered ExprKind) (Numbered PlaceKind) (Numbered Expr) (Numbered Place) expr_step place_step
    (λ x. node (λ n kind. record { kind = kind; ty = x.ty; node = n; line = x.line }) x.kind)
    (λ x. node (λ n kind. record { kind = kind; ty = x.ty; node = n; line = x.line }) x.kind)

abbrev pub place_kind_numbered : PlaceKind → Numbered PlaceKind
place_kind_numbered = fold-PlaceKind (Numbered ExprKind) (Numbered PlaceKind) (Numbered Expr) (Numbered Place)
    expr_step place_step
    (λ x. node (λ n kind. record { kind = kind; ty = x.ty; node = n; line = x.line }) x.kind)
    (λ x. node (λ n kind. record { kind = kind; ty = x.ty; node = n; line = x.line }) x.kind)

pub numbered-Constant : (i : ℤ) → kind_numbered (k.Constant i) ≡ pure (k.Constant i)
numbered-Constant i = search (rules, the_lemmas)

pub numbered-Read : (p : Place) → kind_numbered (k.Read p) ≡ one k.Read (place_numbered p)
numbered-Read p = search (rules, the_lemmas)

pub numbered-Convert : (e : Expr) → kind_numbered (k.Convert e) ≡ one k.Convert (expr_numbered e)
numbered-Convert e = search (rules, the_lemmas)

pub numbered-Unary : (o : UnaryOp) (e : Expr) → kind_numbered (k.Unary o e) ≡ one (k.Unary o) (expr_numbered e)
numbered-Unary o e = search (rules, the_lemmas)

pub numbered-Binary : (o : BinaryOp) (at : IntType) (a b : Expr)
    → kind_numbered (k.Binary o at a b) ≡ two (k.Binary o at) (expr_numbered a) (expr_numbered b)
numbered-Binary o at a b = search (rules, the_lemmas)

pub numbered-PointerPlus : (minus : Bool) (a b : Expr)
    → kind_numbered (k.PointerPlus minus a b) ≡ two (k.PointerPlus minus) (expr_numbered a) (expr_numbered b)
numbered-PointerPlus minus a b = search (rules, the_lemmas)

pub numbered-Difference : (a b : Expr) → kind_numbered (k.Difference a b) ≡ two k.Difference (expr_numbered a) (expr_numbered b)
numbered-Difference a b = search (rules, the_lemmas)

pub numbered-ComparePointers : (o : BinaryOp) (a b : Expr)
    → kind_numbered (k.ComparePointers o a b) ≡ two (k.ComparePointers o) (expr_numbered a) (expr_numbered b)
numbered-ComparePointers o a b = search (rules, the_lemmas)

pub numbered-And : (a b : Expr) → kind_numbered (k.And a b) ≡ two k.And (expr_numbered a) (expr_numbered b)
numbered-And a b = search (rules, the_lemmas)

pub numbered-Or : (a b : Expr) → kind_numbered (k.Or a b) ≡ two k.Or (expr_numbered a) (expr_numbered b)
numbered-Or a b = search (rules, the_lemmas)

pub numbered-Conditional : (test a b : Expr)
    → kind_numbered (k.Conditional test a b) ≡ three k.Conditional (expr_numbered test) (expr_numbered a) (expr_numbered b)
numbered-Conditional test a b = search (rules, the_lemmas)

pub numbered-Assign : (p : Place) (v : Expr) (marked : Bool)
    → kind_numbered (k.Assign p v marked) ≡ two (λ q e. k.Assign q e marked) (place_numbered p) (expr_numbered v)
numbered-Assign p v marked = search (rules, the_lemmas)

pub numbered-Update : (o : BinaryOp) (at : Option IntType) (p : Place) (v : Expr) (old marked : Bool)
    → kind_numbered (k.Update o at p v old marked)
    ≡ two (λ q e. k.Update o at q e old marked) (place_numbered p) (expr_numbered v)
numbered-Update o at p v old marked = search (rules, the_lemmas)

pub numbered-Address : (p : Place) → kind_numbered (k.Address p) ≡ one k.Address (place_numbered p)
numbered-Address p = search (rules, the_lemmas)

-- for any steps, which do not compute
module _ (step : ExprKind-F (Numbered ExprKind) (Numbered PlaceKind) (Numbered Expr) (Numbered Place) → Numbered ExprKind)
    (at : PlaceKind-F (Numbered ExprKind) (Numbered PlaceKind) (Numbered Expr) (Numbered Place) → Numbered PlaceKind) where
  abbrev kind_by : ExprKind → Numbered ExprKind
  kind_by = fold-ExprKind (Numbered ExprKind) (Numbered PlaceKind) (Numbered Expr) (Numbered Place) step at
      (λ x. node (λ n kind. record { kind = kind; ty = x.ty; node = n; line = x.line }) x.kind)
      (λ x. node (λ n kind. record { kind = kind; ty = x.ty; node = n; line = x.line }) x.kind)

  abbrev expr_by : Expr → Numbered Expr
  expr_by e = node (λ n kind. record { kind = kind; ty = e.ty; node = n; line = e.line }) (kind_by e.kind)

  fold-Call : (f : ℕ) (args : List Expr) → kind_by (k.Call f args) ≡ step (ExprKind-F.Call f (map expr_by args))
  fold-Call f args = search (rules, the_lemmas)

pub numbered-Call : (f : ℕ) (args : List Expr) → kind_numbered (k.Call f args) ≡ one (k.Call f) (each (map expr_numbered args))
numbered-Call f args = fold-Call expr_step place_step f args

pub numbered-Sense : (channel : ℕ) → kind_numbered (k.Sense channel) ≡ pure (k.Sense channel)
numbered-Sense channel = search (rules, the_lemmas)

pub numbered-Emit : (e : Expr) → kind_numbered (k.Emit e) ≡ one k.Emit (expr_numbered e)
numbered-Emit e = search (rules, the_lemmas)

pub numbered-Checkpoint : kind_numbered k.Checkpoint ≡ pure k.Checkpoint
numbered-Checkpoint = search (rules, the_lemmas)

pub numbered-Comma : (a b : Expr) → kind_numbered (k.Comma a b) ≡ two k.Comma (expr_numbered a) (expr_numbered b)
numbered-Comma a b = search (rules, the_lemmas)

-- ---- places

pub numbered-Local : (n : ℕ) → place_kind_numbered (pk.Local n) ≡ pure (pk.Local n)
numbered-Local n = search (rules, the_lemmas)

pub numbered-Global : (n : ℕ) → place_kind_numbered (pk.Global n) ≡ pure (pk.Global n)
numbered-Global n = search (rules, the_lemmas)

pub numbered-Deref : (e : Expr) → place_kind_numbered (pk.Deref e) ≡ one pk.Deref (expr_numbered e)
numbered-Deref e = search (rules, the_lemmas)

pub numbered-Member : (p : Place) (tag m : ℕ)
    → place_kind_numbered (pk.Member p tag m) ≡ one (λ q. pk.Member q tag m) (place_numbered p)
numbered-Member p tag m = search (rules, the_lemmas)

pub numbered-Element : (p : Place) (i : Expr)
    → place_kind_numbered (pk.Element p i) ≡ two pk.Element (place_numbered p) (expr_numbered i)
numbered-Element p i = search (rules, the_lemmas)

pub numbered-At : (a b : Expr) → place_kind_numbered (pk.At a b) ≡ two pk.At (expr_numbered a) (expr_numbered b)
numbered-At a b = search (rules, the_lemmas)
