-- What each kind of expression and place does, one equation each.
use Rattle.std.proofs.Common.{◌≡◌, ℕ, ◌+◌, ℤ, Bool, true, false, cond, List, Option, rules}
use Rattle.base16.specs.declared.integer.IntType.{IntType}
use Rattle.base16.specs.declared.operator.BinaryOp.{BinaryOp}
use Rattle.base16.specs.declared.operator.UnaryOp.{UnaryOp}
use Rattle.base16.specs.declared.reading.Reading.{Reading}
use Rattle.core_tree.specs.declared.types.Struct.{Struct}
use Rattle.core_tree.specs.declared.types.Ty.{Ty}
use Rattle.core_tree.specs.declared.expressions.Expr.{Expr}
use Rattle.core_tree.specs.declared.expressions.Place.{Place}
use Rattle.core_tree.specs.declared.expressions.ExprKind.{the_lemmas}
use Rattle.core_tree.specs.declared.expressions.ExprKind.TheVariants as k
use Rattle.core_tree.specs.declared.expressions.PlaceKind.TheVariants as p
use Rattle.core_tree.specs.Layout.{kind_of, int_type_of, target_of, is_pointer, stride, member_stride}
use Rattle.c_values.specs.declared.value.Value.TheVariants.{Undefined}
use Rattle.c_values.specs.Pointers.{at, pointed, member_at, element, sum_of, pointer_to, address, compared, difference}
use Rattle.c_run.specs.Runs.{◌>>=◌, pure, given, asked, mark}
use Rattle.c_values.specs.Values.{int_value, numbered, operated, operated_one, converted}
use Rattle.c_run.specs.Actions.{load, store, sense, emit}
use Rattle.c_meaning.specs.Meaning.{Calls, constant, each, passed, tested, int_of, is_swapped, updated, expr_kind, place_kind, expr, place}

module _ (S : List Struct) (R : List Reading) (C : Calls) (F : ℕ) where
  pub expr-Constant : (v : ℤ) (ty : Ty) (n : ℕ) → expr_kind S R C F (k.Constant v) ty n ≡ pure (constant (is_pointer ty) v)
  expr-Constant v ty n = search (rules, the_lemmas)

  pub expr-Read : (q : Place) (ty : Ty) (n : ℕ)
      → expr_kind S R C F (k.Read q) ty n ≡ place S R C F q >>= λ l. load n l (kind_of ty)
  expr-Read q ty n = search (rules, the_lemmas)

  pub expr-Binary : (o : BinaryOp) (t : IntType) (left right : Expr) (ty : Ty) (n : ℕ)
      → expr_kind S R C F (k.Binary o t left right) ty n
      ≡ expr S R C F left >>= λ a. expr S R C F right >>= λ b. given n (operated o t (int_type_of right.ty) a b)
  expr-Binary o t left right ty n = search (rules, the_lemmas)

  pub expr-Call : (f : ℕ) (args : List Expr) (ty : Ty) (n : ℕ)
      → expr_kind S R C F (k.Call f args) ty n
      ≡ each S R C F args >>= λ vs. passed C n f vs
  expr-Call f args ty n = search (rules, the_lemmas)

  pub expr-Convert : (of : Expr) (ty : Ty) (n : ℕ)
      → expr_kind S R C F (k.Convert of) ty n ≡ expr S R C F of >>= λ v. given n (converted (int_type_of ty) v)
  expr-Convert of ty n = search (rules, the_lemmas)

  pub expr-Unary : (o : UnaryOp) (of : Expr) (ty : Ty) (n : ℕ)
      → expr_kind S R C F (k.Unary o of) ty n
      ≡ expr S R C F of >>= λ v. asked n (λ s. operated_one s o (int_type_of of.ty) v)
  expr-Unary o of ty n = search (rules, the_lemmas)

  pub expr-PointerPlus : (minus : Bool) (left right : Expr) (ty : Ty) (n : ℕ)
      → expr_kind S R C F (k.PointerPlus minus left right) ty n
      ≡ expr S R C F left >>= λ a. expr S R C F right >>= λ b. asked n (λ s. pointer_to (sum_of s (is_swapped left.ty) minus (stride S (target_of ty)) (numbered (int_type_of left.ty) a) (numbered (int_type_of right.ty) b)))
  expr-PointerPlus minus left right ty n = search (rules, the_lemmas)

  pub expr-Difference : (left right : Expr) (ty : Ty) (n : ℕ)
      → expr_kind S R C F (k.Difference left right) ty n
      ≡ expr S R C F left >>= λ a. expr S R C F right >>= λ b. asked n (λ s. int_value (difference s (stride S (target_of left.ty)) a b))
  expr-Difference left right ty n = search (rules, the_lemmas)

  pub expr-ComparePointers : (o : BinaryOp) (left right : Expr) (ty : Ty) (n : ℕ)
      → expr_kind S R C F (k.ComparePointers o left right) ty n
      ≡ expr S R C F left >>= λ a. expr S R C F right >>= λ b. asked n (λ s. int_value (compared s o a b))
  expr-ComparePointers o left right ty n = search (rules, the_lemmas)

  pub expr-And : (left right : Expr) (ty : Ty) (n : ℕ)
      → expr_kind S R C F (k.And left right) ty n
      ≡ expr S R C F left >>= λ a. tested n left.ty a >>= λ x. cond x (expr S R C F right >>= λ b. tested n right.ty b >>= λ y. pure (int_of y)) (pure (int_of false))
  expr-And left right ty n = search (rules, the_lemmas)

  pub expr-Or : (left right : Expr) (ty : Ty) (n : ℕ)
      → expr_kind S R C F (k.Or left right) ty n
      ≡ expr S R C F left >>= λ a. tested n left.ty a >>= λ x. cond x (pure (int_of true)) (expr S R C F right >>= λ b. tested n right.ty b >>= λ y. pure (int_of y))
  expr-Or left right ty n = search (rules, the_lemmas)

  pub expr-Conditional : (test one other : Expr) (ty : Ty) (n : ℕ)
      → expr_kind S R C F (k.Conditional test one other) ty n
      ≡ expr S R C F test >>= λ a. tested n test.ty a >>= λ x. cond x (expr S R C F one) (expr S R C F other)
  expr-Conditional test one other ty n = search (rules, the_lemmas)

  pub expr-Assign : (q : Place) (value : Expr) (marked : Bool) (ty : Ty) (n : ℕ)
      → expr_kind S R C F (k.Assign q value marked) ty n
      ≡ place S R C F q >>= λ l. expr S R C F value >>= λ v. store n l (kind_of ty) v marked
  expr-Assign q value marked ty n = search (rules, the_lemmas)

  pub expr-Update : (o : BinaryOp) (t : Option IntType) (q : Place) (value : Expr) (old marked : Bool) (ty : Ty) (n : ℕ)
      → expr_kind S R C F (k.Update o t q value old marked) ty n
      ≡ place S R C F q >>= λ l. load n l (kind_of ty) >>= λ before. expr S R C F value >>= λ v. asked n (λ s. updated o t (int_type_of value.ty) (stride S (target_of ty)) s before v) >>= λ after. store n l (kind_of ty) after marked >>= λ stored. pure (cond old before stored)
  expr-Update o t q value old marked ty n = search (rules, the_lemmas)

  pub expr-Address : (q : Place) (ty : Ty) (n : ℕ)
      → expr_kind S R C F (k.Address q) ty n ≡ place S R C F q >>= λ l. asked n (λ s. address s l)
  expr-Address q ty n = search (rules, the_lemmas)

  pub expr-Sense : (channel : ℕ) (ty : Ty) (n : ℕ) → expr_kind S R C F (k.Sense channel) ty n ≡ sense R channel
  expr-Sense channel ty n = search (rules, the_lemmas)

  pub expr-Emit : (of : Expr) (ty : Ty) (n : ℕ) → expr_kind S R C F (k.Emit of) ty n ≡ expr S R C F of >>= λ v. emit n v
  expr-Emit of ty n = search (rules, the_lemmas)

  pub expr-Checkpoint : (ty : Ty) (n : ℕ) → expr_kind S R C F k.Checkpoint ty n ≡ mark >>= λ _. pure Undefined
  expr-Checkpoint ty n = search (rules, the_lemmas)

  pub expr-Comma : (left right : Expr) (ty : Ty) (n : ℕ)
      → expr_kind S R C F (k.Comma left right) ty n ≡ expr S R C F left >>= λ _. expr S R C F right
  expr-Comma left right ty n = search (rules, the_lemmas)

  pub place-Local : (i : ℕ) (ty : Ty) (n : ℕ) → place_kind S R C F (p.Local i) ty n ≡ pure (at (F + i) 0)
  place-Local i ty n = search (rules, the_lemmas)

  pub place-Global : (i : ℕ) (ty : Ty) (n : ℕ) → place_kind S R C F (p.Global i) ty n ≡ pure (at i 0)
  place-Global i ty n = search (rules, the_lemmas)

  pub place-Deref : (of : Expr) (ty : Ty) (n : ℕ)
      → place_kind S R C F (p.Deref of) ty n ≡ expr S R C F of >>= λ v. given n (pointed v)
  place-Deref of ty n = search (rules, the_lemmas)

  pub place-Member : (q : Place) (tag member : ℕ) (ty : Ty) (n : ℕ)
      → place_kind S R C F (p.Member q tag member) ty n ≡ place S R C F q >>= λ l. pure (member_at l (member_stride S tag member))
  place-Member q tag member ty n = search (rules, the_lemmas)

  pub place-Element : (q : Place) (index : Expr) (ty : Ty) (n : ℕ)
      → place_kind S R C F (p.Element q index) ty n
      ≡ place S R C F q >>= λ l. expr S R C F index >>= λ i. asked n (λ s. element s (stride S ty) l (numbered (int_type_of index.ty) i))
  place-Element q index ty n = search (rules, the_lemmas)

  pub place-At : (left right : Expr) (ty : Ty) (n : ℕ)
      → place_kind S R C F (p.At left right) ty n
      ≡ expr S R C F left >>= λ a. expr S R C F right >>= λ b. asked n (λ s. sum_of s (is_swapped left.ty) false (stride S ty) (numbered (int_type_of left.ty) a) (numbered (int_type_of right.ty) b))
  place-At left right ty n = search (rules, the_lemmas)
