-- The statements and functions of lawful programs without annotated statements are built.
use Rattle.std.proofs.Common.{◌≡◌, ℕ, zero, suc, ◌+◌, Bool, true, false, ◌&&◌, cond, nat_eq, List, [], ◌∷◌, map, Option, Some, None, refl, sym, ap, ◌∙◌, subst, arith, rules, tests, codes}
use Rattle.std.specs.Prelude.{slice_get}
use Rattle.base16.specs.declared.image.Kind.{Kind}
use Rattle.base16.specs.declared.image.Kind.TheVariants as kind
use Rattle.base16.specs.declared.integer.IntType.{IntType}
use Rattle.base16.specs.declared.integer.IntType.TheVariants as int
use Rattle.core_tree.specs.declared.types.Ty.{Ty, out-Ty, the_lemmas as type_lemmas}
use Rattle.core_tree.specs.declared.types.Ty.TheVariants as ty
use Rattle.core_tree.specs.declared.types.Ty.TheOpen.{Ty-F}
use Rattle.core_tree.specs.declared.types.Slot.{Slot}
use Rattle.core_tree.specs.declared.types.Struct.{Struct}
use Rattle.core_tree.specs.declared.expressions.Expr.{Expr}
use Rattle.core_tree.specs.declared.expressions.Place.{Place}
use Rattle.core_tree.specs.declared.statements.Init.{Init}
use Rattle.core_tree.specs.declared.statements.Group.{Group, out-Group, the_lemmas as group_lemmas}
use Rattle.core_tree.specs.declared.statements.Stmt.{Stmt}
use Rattle.core_tree.specs.declared.statements.StmtKind.{StmtKind, the_lemmas}
use Rattle.core_tree.specs.declared.statements.StmtKind.TheVariants as sk
use Rattle.core_tree.specs.declared.program.Core.{Core}
use Rattle.core_tree.specs.declared.program.Function.{Function}
use Rattle.core_tree.specs.Layout.{Layout, layout, layouts, layout_in, integer, scalar, kind_of, kind_of_int}
use Rattle.core_tree.specs.Rules.{is_scalar, scalar_layer}
use Rattle.core_tree.specs.LawfulCore.{Every, OnSome, Text, IsTest, Lawful, IsStmt, AreStmts, AreGroups, IsObject, IsFunction, LawfulCore}
use Rattle.c_meaning.specs.After.{same_bytes, is_main, main_from}
use Rattle.ir.specs.Machine.{first_kind}
use Rattle.ir_gen.specs.Built as built
use Rattle.ir_gen.specs.Plain as plain
use Rattle.ir_gen.specs.Form.{AreScalars, AreBuilt, IsBuilt, main_or}
use Rattle.ir_gen.proofs.Tree.{both_left, both_right}
use Rattle.ir_gen.proofs.Declaring.{declare_their_own}
use Rattle.ir_gen.proofs.LawfulTrees.{both_true, three_true, expr_built, initialised_built}

-- ---- the equations of the folds

eq-Expr : (e : Expr) → built.stmt_kind (sk.Expr e) ≡ built.expr e
eq-Expr e = search (rules, the_lemmas)

eq-Block : (all : List Stmt) → built.stmt_kind (sk.Block all) ≡ built.all_true (map built.stmt all)
eq-Block all = search (rules, the_lemmas)

eq-If : (test : Expr) (one : Stmt) → built.stmt_kind (sk.If test one None) ≡ (built.expr test && (built.stmt one && true))
eq-If test one = search (rules, the_lemmas)

eq-IfElse : (test : Expr) (one other : Stmt)
    → built.stmt_kind (sk.If test one (Some other)) ≡ (built.expr test && (built.stmt one && built.stmt other))
eq-IfElse test one other = search (rules, the_lemmas)

eq-While : (test : Expr) (body : Stmt) → built.stmt_kind (sk.While test body) ≡ (built.expr test && built.stmt body)
eq-While test body = search (rules, the_lemmas)

eq-Do : (body : Stmt) (test : Expr) → built.stmt_kind (sk.Do body test) ≡ (built.expr test && built.stmt body)
eq-Do body test = search (rules, the_lemmas)

eq-For : (test part : Option Expr) (body : Stmt) → built.stmt_kind (sk.For None test part body)
    ≡ (built.if_some built.expr test && (built.if_some built.expr part && built.stmt body))
eq-For test part body = search (rules, the_lemmas)

eq-ForFirst : (begin : Stmt) (test part : Option Expr) (body : Stmt) → built.stmt_kind (sk.For (Some begin) test part body)
    ≡ (built.stmt begin && (built.if_some built.expr test && (built.if_some built.expr part && built.stmt body)))
eq-ForFirst begin test part body = search (rules, the_lemmas)

eq-Switch : (on : Expr) (groups : List Group) → built.stmt_kind (sk.Switch on groups)
    ≡ (built.expr on && built.all_true (map built.group groups))
eq-Switch on groups = search (rules, the_lemmas)

eq-group : (g : Group) → built.group g ≡ built.all_true (map built.stmt (out-Group g).body)
eq-group g = search (rules, group_lemmas)

eq-Return : (e : Option Expr) → built.stmt_kind (sk.Return e) ≡ built.if_some built.expr e
eq-Return e = search (rules, the_lemmas)

eq-Declare : (n : ℕ) (init : List Init) → built.stmt_kind (sk.Declare n init) ≡ built.inits init
eq-Declare n init = search (rules, the_lemmas)

plain-Block : (all : List Stmt) → plain.stmt_kind (sk.Block all) ≡ built.all_true (map plain.stmt all)
plain-Block all = search (rules, the_lemmas)

plain-If : (test : Expr) (one : Stmt) → plain.stmt_kind (sk.If test one None) ≡ (plain.stmt one && true)
plain-If test one = search (rules, the_lemmas)

plain-IfElse : (test : Expr) (one other : Stmt)
    → plain.stmt_kind (sk.If test one (Some other)) ≡ (plain.stmt one && plain.stmt other)
plain-IfElse test one other = search (rules, the_lemmas)

plain-While : (test : Expr) (body : Stmt) → plain.stmt_kind (sk.While test body) ≡ plain.stmt body
plain-While test body = search (rules, the_lemmas)

plain-Do : (body : Stmt) (test : Expr) → plain.stmt_kind (sk.Do body test) ≡ plain.stmt body
plain-Do body test = search (rules, the_lemmas)

plain-For : (test part : Option Expr) (body : Stmt) → plain.stmt_kind (sk.For None test part body) ≡ plain.stmt body
plain-For test part body = search (rules, the_lemmas)

plain-ForFirst : (begin : Stmt) (test part : Option Expr) (body : Stmt)
    → plain.stmt_kind (sk.For (Some begin) test part body) ≡ (plain.stmt begin && plain.stmt body)
plain-ForFirst begin test part body = search (rules, the_lemmas)

plain-Switch : (on : Expr) (groups : List Group)
    → plain.stmt_kind (sk.Switch on groups) ≡ built.all_true (map plain.group groups)
plain-Switch on groups = search (rules, the_lemmas)

plain-group : (g : Group) → plain.group g ≡ built.all_true (map plain.stmt (out-Group g).body)
plain-group g = search (rules, group_lemmas)

plain-Stamped : (p : Place) (e : Expr) → plain.stmt_kind (sk.Stamped p e) ≡ false
plain-Stamped p e = search (rules, the_lemmas)

plain-Timely : (p : Place) (limit : ℕ) (one : Stmt) (other : Option Stmt)
    → plain.stmt_kind (sk.Timely p limit one other) ≡ false
plain-Timely p limit one other = search (rules, the_lemmas)

plain-Expires : (names : List Place) (body caught : List Stmt) → plain.stmt_kind (sk.Expires names body caught) ≡ false
plain-Expires names body caught = search (rules, the_lemmas)

not_both : (b : Bool) → b ≡ false → b ≡ true → ⊥
not_both true p q = grind (arith, p)
not_both false p q = grind (arith, q)

-- ---- by the rules of statements

tests_built : (x : Text) (e : Option Expr) → OnSome (IsTest x.scope) e → built.if_some built.expr e ≡ true
tests_built x None h = refl
tests_built x (Some e) h = expr_built x.scope e e.ty h.typed

parts_built : (x : Text) (e : Option Expr) → OnSome (Lawful x.scope) e → built.if_some built.expr e ≡ true
parts_built x None h = refl
parts_built x (Some e) h = expr_built x.scope e e.ty h

mutual
  kind_built : (x : Text) (s : StmtKind) → IsStmt x s → plain.stmt_kind s ≡ true → built.stmt_kind s ≡ true
  kind_built _ _ (IsStmt.expression x e l) h = eq-Expr e ∙ expr_built x.scope e e.ty l
  kind_built _ _ (IsStmt.block x all a) h = eq-Block all ∙ stmts_built x all a (sym (plain-Block all) ∙ h)
  kind_built _ _ (IsStmt.if x test one t a) h =
      let g : (plain.stmt one && true) ≡ true = sym (plain-If test one) ∙ h in
      eq-If test one ∙ three_true (built.expr test) (built.stmt one) true (expr_built x.scope test test.ty t.typed)
      (kind_built x one.kind a (both_left (plain.stmt one) true g)) refl
  kind_built _ _ (IsStmt.if_else x test one other t a c) h =
      let g : (plain.stmt one && plain.stmt other) ≡ true = sym (plain-IfElse test one other) ∙ h in
      eq-IfElse test one other ∙ three_true (built.expr test) (built.stmt one) (built.stmt other)
      (expr_built x.scope test test.ty t.typed)
      (kind_built x one.kind a (both_left (plain.stmt one) (plain.stmt other) g))
      (kind_built x other.kind c (both_right (plain.stmt one) (plain.stmt other) g))
  kind_built _ _ (IsStmt.while x test body t a) h =
      eq-While test body ∙ both_true (built.expr test) (built.stmt body) (expr_built x.scope test test.ty t.typed)
      (kind_built _ body.kind a (sym (plain-While test body) ∙ h))
  kind_built _ _ (IsStmt.do_while x body test a t) h =
      eq-Do body test ∙ both_true (built.expr test) (built.stmt body) (expr_built x.scope test test.ty t.typed)
      (kind_built _ body.kind a (sym (plain-Do body test) ∙ h))
  kind_built _ _ (IsStmt.for x test part body t q a) h =
      eq-For test part body ∙ three_true (built.if_some built.expr test) (built.if_some built.expr part) (built.stmt body)
      (tests_built x test t) (parts_built x part q) (kind_built _ body.kind a (sym (plain-For test part body) ∙ h))
  kind_built _ _ (IsStmt.for_first x begin test part body first c t q a) h =
      let g : (plain.stmt begin && plain.stmt body) ≡ true = sym (plain-ForFirst begin test part body) ∙ h in
      eq-ForFirst begin test part body ∙ both_true (built.stmt begin)
      (built.if_some built.expr test && (built.if_some built.expr part && built.stmt body))
      (kind_built x begin.kind c (both_left (plain.stmt begin) (plain.stmt body) g))
      (three_true (built.if_some built.expr test) (built.if_some built.expr part) (built.stmt body)
      (tests_built x test t) (parts_built x part q)
      (kind_built _ body.kind a (both_right (plain.stmt begin) (plain.stmt body) g)))
  kind_built _ _ (IsStmt.switch x on groups t computed i apart values gs) h =
      eq-Switch on groups ∙ both_true (built.expr on) (built.all_true (map built.group groups))
      (expr_built x.scope on _ i) (groups_built _ groups gs (sym (plain-Switch on groups) ∙ h))
  kind_built _ _ (IsStmt.break x may) h = search (rules, the_lemmas)
  kind_built _ _ (IsStmt.continue x may) h = search (rules, the_lemmas)
  kind_built _ _ (IsStmt.returned x nothing free) h = eq-Return None
  kind_built _ _ (IsStmt.returned_value x e i scalar free) h = eq-Return (Some e) ∙ expr_built x.scope e _ i
  kind_built _ _ (IsStmt.stamped x p e t i j scalar const timed) h =
      absurd (not_both (plain.stmt_kind (sk.Stamped p e)) (plain-Stamped p e) h)
  kind_built _ _ (IsStmt.timely x p limit one asked a) h =
      absurd (not_both (plain.stmt_kind (sk.Timely p limit one None)) (plain-Timely p limit one None) h)
  kind_built _ _ (IsStmt.timely_else x p limit one other asked a c) h =
      absurd (not_both (plain.stmt_kind (sk.Timely p limit one (Some other))) (plain-Timely p limit one (Some other)) h)
  kind_built _ _ (IsStmt.expires x p names body caught named free a c) h =
      absurd (not_both (plain.stmt_kind (sk.Expires (p ∷ names) body caught)) (plain-Expires (p ∷ names) body caught) h)
  kind_built _ _ (IsStmt.declared x n t init behind at_n i) h = eq-Declare n init ∙ initialised_built x.scope t init i

  stmts_built : (x : Text) (ss : List Stmt) → AreStmts x ss → plain.stmts ss ≡ true → built.stmts ss ≡ true
  stmts_built _ _ (AreStmts.no_stmts x) h = refl
  stmts_built _ _ (AreStmts.one_more x s more a is) h =
      both_true (built.stmt s) (built.stmts more) (kind_built x s.kind a (both_left (plain.stmt s) (plain.stmts more) h))
      (stmts_built x more is (both_right (plain.stmt s) (plain.stmts more) h))

  groups_built : (x : Text) (gs : List Group) → AreGroups x gs → built.all_true (map plain.group gs) ≡ true
      → built.all_true (map built.group gs) ≡ true
  groups_built _ _ (AreGroups.no_groups x) h = refl
  groups_built _ _ (AreGroups.one_group x g more some a is) h =
      both_true (built.group g) (built.all_true (map built.group more))
      (eq-group g ∙ stmts_built x (out-Group g).body a
      (sym (plain-group g) ∙ both_left (plain.group g) (built.all_true (map plain.group more)) h))
      (groups_built x more is (both_right (plain.group g) (built.all_true (map plain.group more)) h))

-- ---- parameters are scalars

layout-Num : (known : List Layout) (t : IntType) → layout_in known (ty.Num t) ≡ integer t
layout-Num known t = search (rules, type_lemmas)

layout-Pointer : (known : List Layout) (to : Ty) (r : Bool) → layout_in known (ty.Pointer to r) ≡ scalar kind.Pointer 2 true
layout-Pointer known to r = search (rules, type_lemmas)

kind-Num : (t : IntType) → kind_of (ty.Num t) ≡ kind_of_int t
unfolding kind_of
kind-Num t = search (rules, type_lemmas)

kind-Pointer : (to : Ty) (r : Bool) → kind_of (ty.Pointer to r) ≡ kind.Pointer
unfolding kind_of
kind-Pointer to r = search (rules, type_lemmas)

abbrev only : Kind → List Slot
only k = record { offset = 0; kind = k } ∷ []

integer_slots : (t : IntType) → (integer t).slots ≡ only (kind_of_int t)
integer_slots int.Char = refl
integer_slots int.Int = refl
integer_slots int.UInt = refl

abbrev slots_in : Layout → List Slot
slots_in l = l.slots

scalar_by : (structs : List Struct) (t : Ty) (l : Ty-F Ty) → out-Ty t ≡ l → scalar_layer l ≡ true
    → (layout structs t).slots ≡ only (kind_of t)
scalar_by structs t (Ty-F.Num i) at_l is =
    let h : t ≡ ty.Num i = search (rules, type_lemmas) in
    subst (λ (u : Ty). (layout structs u).slots ≡ only (kind_of u)) (sym h)
    (ap slots_in (layout-Num (layouts structs) i) ∙ (integer_slots i ∙ ap only (sym (kind-Num i))))
scalar_by structs t (Ty-F.Pointer to r) at_l is =
    let h : t ≡ ty.Pointer to r = search (rules, type_lemmas) in
    subst (λ (u : Ty). (layout structs u).slots ≡ only (kind_of u)) (sym h)
    (ap slots_in (layout-Pointer (layouts structs) to r) ∙ ap only (sym (kind-Pointer to r)))
scalar_by structs t Ty-F.Void at_l is = absurd (not_both false refl is)
scalar_by structs t (Ty-F.Array of count) at_l is = absurd (not_both false refl is)
scalar_by structs t (Ty-F.Struct tag) at_l is = absurd (not_both false refl is)

-- a scalar type has one scalar
pub scalar_slots : (structs : List Struct) (t : Ty) → is_scalar t ≡ true → (layout structs t).slots ≡ only (kind_of t)
unfolding is_scalar
scalar_slots structs t is = scalar_by structs t (out-Ty t) refl is

scalar_is : (structs : List Struct) (t : Ty) → is_scalar t ≡ true → first_kind (layout structs t).slots ≡ kind_of t
scalar_is structs t is = ap first_kind (scalar_slots structs t is)

scalars_are : (core : Core) (ts : List Ty) → Every (λ t. (is_scalar t ≡ true) × IsObject core t) ts
    → AreScalars core.structs ts
scalars_are core [] h = tt
scalars_are core (t ∷ ts) h = (scalar_is core.structs t h.0.0, scalars_are core ts h.1)

functions_built : (core : Core) (annotated : Bool) (xs : List Function) → Every (IsFunction core annotated) xs
    → Every (λ (x : Function). plain.stmts x.body ≡ true) xs → AreBuilt core.structs xs
functions_built core annotated [] h g = tt
functions_built core annotated (x ∷ xs) h g = (
  scalars_are core x.params h.0.params,
  stmts_built _ x.body h.0.body g.0,
  functions_built core annotated xs h.1 g.1,
)

-- ---- main is there

same_itself : (a : List ℕ) → same_bytes a a ≡ true
same_itself [] = refl
same_itself (x ∷ xs) = both_true (nat_eq x x) (same_bytes xs xs) (grind (arith, tests)) (same_itself xs)

abbrev some_main : Option ℕ → Type 0
some_main o = o ≡ Some (main_or o)

main_found : (i n : ℕ) (xs : List Function) (x : Function) → slice_get xs n ≡ Some x → is_main x ≡ true
    → some_main (main_from i xs)
main_found i n [] x e h = absurd (grind (arith, e))
main_found i zero (y ∷ xs) x e h =
    let same : y ≡ x = ap function_in e in
    let is : is_main y ≡ true = ap is_main same ∙ h in
    by_bool (is_main y) is
  where
    function_in : Option Function → Function
    function_in None = y
    function_in (Some z) = z

    by_bool : (b : Bool) → b ≡ true → some_main (cond b (Some i) (main_from (i + 1) xs))
    by_bool true is = refl
    by_bool false is = absurd (not_both false refl is)
main_found i (suc n) (y ∷ xs) x e h = by_bool (is_main y) (main_found (i + 1) n xs x e h)
  where
    by_bool : (b : Bool) → some_main (main_from (i + 1) xs) → some_main (cond b (Some i) (main_from (i + 1) xs))
    by_bool true g = refl
    by_bool false g = g

-- a lawful program without annotated statements is built
pub lawful_is_built : (core : Core) → LawfulCore core → plain.IsPlain core → IsBuilt core
lawful_is_built core h g = record {
  main = main_found 0 h.main.0 core.functions h.main.1.0 h.main.1.1.0
      (subst (λ (name : List ℕ). same_bytes name (codes "main") ≡ true) (sym h.main.1.1.1.0) (same_itself (codes "main")));
  functions = functions_built core true core.functions h.functions g;
  locals = declare_their_own core true h;
}
