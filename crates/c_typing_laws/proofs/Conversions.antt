-- What is converted has the type to which it is.
use Rattle.std.proofs.Common.{◌≡◌, ℕ, Bool, true, false, cond, not, ◌&&◌, ◌||◌, Option, Some, None, ℤ, pos, refl, sym, ap, ◌∙◌, rules}
use Rattle.std.specs.Ordering.{int_eq}
use Rattle.core_tree.specs.declared.types.Ty.{Ty, out-Ty, the_lemmas}
use Rattle.core_tree.specs.declared.types.Ty.TheVariants as ty
use Rattle.core_tree.specs.declared.types.Ty.TheOpen.{Ty-F}
use Rattle.core_tree.specs.declared.expressions.Expr.{Expr}
use Rattle.core_tree.specs.declared.expressions.ExprKind.{ExprKind}
use Rattle.core_tree.specs.declared.expressions.ExprKind.TheVariants as k
use Rattle.core_tree.specs.Types.{same}
use Rattle.core_tree.specs.Rules.{is_scalar, scalar_layer, converts, converts_layer}
use Rattle.core_tree.specs.Lawful.{Scope, IsExpr, is_expr, LawfulExpr, HasType, null_constant, pointer_converted}
use Rattle.c_rules.specs.Constants.{value as constant_value}
use Rattle.c_typing.specs.Values.{typed, to_int, null, null_by, repointed, convert_by, converted}
use Rattle.c_typing.proofs.LawfulOperators.{to_int_lawful}
use Rattle.c_typing_laws.specs.Sound.{ConvertedIsLawful}
use Rattle.c_typing_laws.proofs.Same.{same_is, both_hold}

pub own_type : (s : Scope) (e : Expr) (t : Ty) → IsExpr s e t → LawfulExpr s e
own_type s _ _ (is_expr e t at_t has) = is_expr e e.ty refl (rw at_t has)

pub made : (s : Scope) (line : ℕ) (t : Ty) (kind : ExprKind) → HasType s kind t → IsExpr s (typed line t kind) t
made s line t kind has = is_expr (typed line t kind) t refl has

-- an expression of a type that is looked at
pub at_layer : (s : Scope) (e : Expr) (t : Ty) → e.ty ≡ t → LawfulExpr s e → IsExpr s e t
at_layer s e t is i = rw (← is) i

pub scalar_at : (t : Ty) (l : Ty-F Ty) → out-Ty t ≡ l → scalar_layer l ≡ true → is_scalar t ≡ true
unfolding is_scalar
scalar_at t l is scalar = ap scalar_layer is ∙ scalar

null_by_lawful : (s : Scope) (t : Ty) (e v : Expr) (n : Option ℤ) (to : Ty) (r : Bool) → t ≡ ty.Pointer to r
    → null_by t e n ≡ Some v → IsExpr s v t
null_by_lawful s t e v None to r at_t is = absurd (search rules)
null_by_lawful s t e v (Some n) to r at_t is = zero_lawful (int_eq n (pos 0)) is
  where
    zero_lawful : (b : Bool) → cond b (Some (typed e.line t (k.Constant (pos 0)))) None ≡ Some v → IsExpr s v t
    zero_lawful true found =
        let h : typed e.line t (k.Constant (pos 0)) ≡ v = cc in
        rw (← h) (made s e.line t (k.Constant (pos 0)) (rw at_t (null_constant to r)))
    zero_lawful false found = absurd (search rules)

pub null_lawful : (s : Scope) (t : Ty) (e v : Expr) (to : Ty) (r : Bool) → t ≡ ty.Pointer to r → null t e ≡ Some v
    → IsExpr s v t
unfolding null
null_lawful s t e v to r at_t is = null_by_lawful s t e v (constant_value e) to r at_t is

repointed_lawful : (s : Scope) (t : Ty) (e v : Expr) (to : Ty) (r q : Bool) → t ≡ ty.Pointer to r
    → IsExpr s e (ty.Pointer to q) → (r || not q) ≡ true → repointed t r q e ≡ v → IsExpr s v t
repointed_lawful s t e v to true true at_t i fits is = rw (← is) (rw at_t i)
repointed_lawful s t e v to true false at_t i fits is =
    rw (← is) (made s e.line t (k.Convert e) (rw at_t (pointer_converted e to i)))
repointed_lawful s t e v to false true at_t i fits is = absurd (search rules)
repointed_lawful s t e v to false false at_t i fits is = rw (← is) (rw at_t i)

pointer_lawful : (s : Scope) (t : Ty) (e v : Expr) (to from : Ty) (r q b : Bool) → t ≡ ty.Pointer to r
    → e.ty ≡ ty.Pointer from q → LawfulExpr s e → (same to from && (r || not q)) ≡ b
    → cond b (Some (repointed t r q e)) None ≡ Some v → IsExpr s v t
pointer_lawful s t e v to from r q true at_t at_e i fits is =
    let w = both_hold (same to from) (r || not q) fits in
    let one : to ≡ from = same_is to from w.0 in
    let j : IsExpr s e (ty.Pointer to q) = rw one (at_layer s e (ty.Pointer from q) at_e i) in
    repointed_lawful s t e v to r q at_t j w.1 cc
pointer_lawful s t e v to from r q false at_t at_e i fits is = absurd (search rules)

converts_at : (from to : Ty) (l m : Ty-F Ty) → out-Ty from ≡ l → out-Ty to ≡ m → converts from to ≡ converts_layer l m
unfolding converts
converts_at from to l m p q = rw (p, q) refl

convert_by_lawful : (s : Scope) (t : Ty) (e v : Expr) (l m : Ty-F Ty) → out-Ty t ≡ l → out-Ty e.ty ≡ m
    → LawfulExpr s e → convert_by t l m e ≡ Some v → IsExpr s v t × (is_scalar t ≡ true)
convert_by_lawful s t e v (Ty-F.Num to) (Ty-F.Num from) at_t at_e i is =
    let h : t ≡ ty.Num to = search (rules, the_lemmas) in
    let g : e.ty ≡ ty.Num from = search (rules, the_lemmas) in
    let made : to_int from to e ≡ v = cc in
    (rw (← made) (rw h (to_int_lawful s from to e (at_layer s e (ty.Num from) g i))), scalar_at t _ at_t refl)
convert_by_lawful s t e v (Ty-F.Pointer to r) (Ty-F.Pointer from q) at_t at_e i is =
    let h : t ≡ ty.Pointer to r = search (rules, the_lemmas) in
    let g : e.ty ≡ ty.Pointer from q = search (rules, the_lemmas) in (
      pointer_lawful s t e v to from r q (converts e.ty t) h g i (sym (converts_at e.ty t _ _ at_e at_t)) is,
      scalar_at t _ at_t refl,
    )
convert_by_lawful s t e v (Ty-F.Pointer to r) (Ty-F.Num from) at_t at_e i is =
    let h : t ≡ ty.Pointer to r = search (rules, the_lemmas) in
    (null_lawful s t e v to r h is, scalar_at t _ at_t refl)
convert_by_lawful s t e v l m at_t at_e i is = absurd (search rules)

pub converted_lawful : (s : Scope) (t : Ty) (e v : Expr) → ConvertedIsLawful s t e v
unfolding converted
converted_lawful s t e v i is = convert_by_lawful s t e v (out-Ty t) (out-Ty e.ty) refl refl i is
