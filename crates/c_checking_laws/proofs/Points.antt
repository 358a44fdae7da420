-- What the expressions of a declaration or a statement are at its point of a function.
use Rattle.std.proofs.Common.{◌≡◌, ℕ, Bool, true, List, Option, Some, None, Result, Ok, Err, refl, sym, ap, ◌∙◌, rules}
use Rattle.base16.specs.declared.integer.IntType.{IntType}
use Rattle.base16.specs.declared.integer.IntType.TheVariants.{Char, Int, UInt}
use Rattle.c_tree.specs.declared.expression.Expr.{Expr as Source}
use Rattle.core_tree.specs.declared.types.Ty.{Ty, out-Ty, the_lemmas}
use Rattle.core_tree.specs.declared.types.Ty.TheVariants as ty
use Rattle.core_tree.specs.declared.types.Ty.TheOpen.{Ty-F}
use Rattle.core_tree.specs.declared.expressions.Expr.{Expr}
use Rattle.core_tree.specs.declared.program.Core.{Core}
use Rattle.core_tree.specs.Layout.{int_type_of}
use Rattle.core_tree.specs.Lawful.{Scope, IsExpr, IsComputed, LawfulExpr}
use Rattle.core_tree.specs.LawfulCore.{Text, IsTest}
use Rattle.core_tree.specs.Rules.{promoted, is_scalar}
use Rattle.c_typing.specs.declared.fault.Rule.{Rule}
use Rattle.c_typing.specs.declared.fault.Rule.TheVariants.{WrongType}
use Rattle.c_typing.specs.declared.operand.Operand.{Operand}
use Rattle.c_typing.specs.declared.environment.Env.{Env}
use Rattle.c_typing.specs.Outcome.{Outcome, ◌>>=◌, at}
use Rattle.c_typing.specs.Values.{value, to_int}
use Rattle.c_typing.specs.Expressions.{means}
use Rattle.c_typing.proofs.LawfulOperators.{to_int_lawful}
use Rattle.c_typing_laws.specs.Sound.{SoundValue, fits}
use Rattle.c_typing_laws.proofs.Conversions.{converted_lawful, at_layer}
use Rattle.c_typing_laws.proofs.Values.{value_sound, granted}
use Rattle.c_typing_laws.proofs.Whole.{means_lawful}
use Rattle.c_checking.specs.Declarators.{value_of, converted_value}
use Rattle.c_checking.specs.Statements.{some_value, any_of, tested, test_of, result_of, promoted_by, promoted_value, switched}
use Rattle.c_checking_laws.specs.Standing.{Begins, Declared, plain_scope, IsText}
use Rattle.c_checking_laws.proofs.Walks.{rests}

-- ---- parts of outcomes

pub record Found {A : Type 0} (o : Outcome A) (line : ℕ) {B : Type 0} (by : A → Result B Rule) (b : B) : Type 0 where
  pub first : A
  pub is_first : o ≡ Ok first
  pub is_by : by first ≡ Ok b

at_ok : {A : Type 0} (line : ℕ) (r : Result A Rule) (a : A) → at line r ≡ Ok a → r ≡ Ok a
at_ok line (Ok b) a is = let e : b ≡ a = cc in rw e refl
at_ok line (Err rule) a is = absurd (search rules)

pub found : {A B : Type 0} (o : Outcome A) (line : ℕ) (by : A → Result B Rule) (b : B)
    → (o >>= λ a. at line (by a)) ≡ Ok b → Found o line by b
found (Err f) line by b is = absurd (search rules)
found (Ok a) line by b is = record { first = a; is_first = refl; is_by = at_ok line (by a) b is }

record Meant (o : Outcome Operand) (v : Option Expr) : Type 0 where
  stands : Operand
  is_meant : o ≡ Ok stands
  is_value : value stands ≡ v

meant : (o : Outcome Operand) (v : Option Expr) → (o >>= λ x. Ok (value x)) ≡ Ok v → Meant o v
meant (Err f) v is = absurd (search rules)
meant (Ok x) v is = record { stands = x; is_meant = refl; is_value = cc }

-- ---- at a point

module _ (calls : List ℕ → Bool) (core : Core) (env : Env) (x : Text) (d : Declared calls core env) (t : IsText core env x)
    (objects : Begins env.locals x.scope.objects) where
  same_scope : plain_scope core x.scope.objects ≡ x.scope
  same_scope = sym (λ i. record { core = t.program i; objects = x.scope.objects; inside = t.inside i; annotated = t.early i })

  -- the value of an expression is lawful
  pub value_lawful : (e : Source) (v : Expr) → fits calls e.kind ≡ true → value_of env e ≡ Ok (Some v)
      → SoundValue x.scope v
  value_lawful e v fine is =
      let m = meant (means env e) (Some v) is in
      let r = rests calls core env x.scope.objects d objects in
      let o = means_lawful calls env (plain_scope core x.scope.objects) e m.stands r.0 r.1 fine m.is_meant in
      rw (← same_scope) (value_sound env (plain_scope core x.scope.objects) m.stands r.0 o v m.is_value)

  some_value_is : (v : Option Expr) (e : Expr) → some_value v ≡ Ok e → v ≡ Some e
  some_value_is None e is = absurd (search rules)
  some_value_is (Some a) e is = let h : a ≡ e = cc in rw h refl

  pub any_lawful : (line : ℕ) (e : Source) (v : Expr) → fits calls e.kind ≡ true → any_of env line e ≡ Ok v
      → LawfulExpr x.scope v
  unfolding any_of
  any_lawful line e v fine is =
      let f = found (value_of env e) line some_value v is in
      let h : f.first ≡ Some v = some_value_is f.first v f.is_by in
      (value_lawful e v fine (f.is_first ∙ ap Ok h)).0

  tested_is : (v : Option Expr) (e : Expr) → tested v ≡ Ok e → (v ≡ Some e) × (is_scalar e.ty ≡ true)
  tested_is None e is = absurd (search rules)
  tested_is (Some a) e is =
      let w = granted (is_scalar a.ty) a e WrongType is in
      (ap Some w.1, rw (← w.1) w.0)

  pub test_lawful : (line : ℕ) (e : Source) (v : Expr) → fits calls e.kind ≡ true → test_of env line e ≡ Ok v
      → IsTest x.scope v
  unfolding test_of
  test_lawful line e v fine is =
      let f = found (value_of env e) line tested v is in
      let h = tested_is f.first v f.is_by in
      record { typed = (value_lawful e v fine (f.is_first ∙ ap Ok h.0)).0; scalar = h.1 }

  -- a value that is converted as if by assignment
  pub converted_value_lawful : (u : Ty) (e : Source) (v : Option Expr) (made : Expr) → fits calls e.kind ≡ true
      → value_of env e ≡ Ok v → converted_value u v ≡ Some made → IsExpr x.scope made u × (is_scalar u ≡ true)
  converted_value_lawful u e None made fine is by = absurd (search rules)
  converted_value_lawful u e (Some v) made fine is by =
      converted_lawful x.scope u v made (value_lawful e v fine is).0 by

  pub result_lawful : (line : ℕ) (e : Source) (v : Expr) → fits calls e.kind ≡ true → result_of env line e ≡ Ok v
      → IsExpr x.scope v env.result × (is_scalar env.result ≡ true)
  unfolding result_of
  result_lawful line e v fine is =
      let f = found (value_of env e) line (λ a. some_value (converted_value env.result a)) v is in
      let h : converted_value env.result f.first ≡ Some v = some_value_is (converted_value env.result f.first) v f.is_by in
      converted_value_lawful env.result e f.first v fine f.is_first h

  promoted_twice : (y : IntType) → promoted (promoted y) ≡ promoted y
  promoted_twice Char = refl
  promoted_twice Int = refl
  promoted_twice UInt = refl

  -- what a `switch` asks of its expression
  abbrev IsOn : Expr → Type 0
  IsOn v = (y : IntType) × IsComputed y × IsExpr x.scope v (ty.Num y)

  promoted_at : (e v : Expr) (l : Ty-F Ty) → out-Ty e.ty ≡ l → LawfulExpr x.scope e → promoted_by e l ≡ Ok v → IsOn v
  promoted_at e v (Ty-F.Num y) at_l i is =
      let h : e.ty ≡ ty.Num y = search (rules, the_lemmas) in
      let g : to_int y (promoted y) e ≡ v = cc in
      (promoted y, promoted_twice y, rw (← g) (to_int_lawful x.scope y (promoted y) e (at_layer x.scope e (ty.Num y) h i)))
  promoted_at e v _ at_l i is = absurd (search rules)

  promoted_value_is : (v : Option Expr) (made : Expr) → promoted_value v ≡ Ok made
      → (e : Expr) × (v ≡ Some e) × (promoted_by e (out-Ty e.ty) ≡ Ok made)
  promoted_value_is None made is = absurd (search rules)
  promoted_value_is (Some e) made is = (e, refl, is)

  pub switched_lawful : (line : ℕ) (e : Source) (v : Expr) → fits calls e.kind ≡ true → switched env line e ≡ Ok v
      → IsOn v
  unfolding switched
  switched_lawful line e v fine is =
      let f = found (value_of env e) line promoted_value v is in
      let h = promoted_value_is f.first v f.is_by in
      promoted_at h.0 v (out-Ty (h.0).ty) refl (value_lawful e h.0 fine (f.is_first ∙ ap Ok h.1)).0 h.2

int_type_at : (t : Ty) (y : IntType) → t ≡ ty.Num y → int_type_of t ≡ y
unfolding int_type_of
int_type_at t y is = search (rules, the_lemmas)

own_by : (s : Scope) (e : Expr) (t : Ty) → IsExpr s e t → e.ty ≡ t
own_by s _ _ (IsExpr.is_expr e t at has) = at

-- the type in which a `switch` compares
pub on_type : (s : Scope) (e : Expr) (y : IntType) → IsExpr s e (ty.Num y) → int_type_of e.ty ≡ y
on_type s e y i = int_type_at e.ty y (own_by s e (ty.Num y) i)
