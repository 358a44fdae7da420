-- Lawful statements stay lawful when their nodes are numbered, by induction over what makes them lawful.
use Rattle.std.proofs.Common.{◌≡◌, ℕ, ◌+◌, false, List, [], ◌∷◌, map, Option, Some, None, refl, sym, ap, subst, ◌∙◌, rules}
use Rattle.core_tree.specs.declared.types.Ty.{Ty}
use Rattle.core_tree.specs.declared.types.Ty.TheVariants as ty
use Rattle.core_tree.specs.declared.types.Slot.{Slot}
use Rattle.core_tree.specs.declared.types.Struct.{Struct}
use Rattle.core_tree.specs.declared.expressions.Expr.{Expr}
use Rattle.core_tree.specs.declared.expressions.Place.{Place}
use Rattle.core_tree.specs.declared.statements.Stmt.{Stmt}
use Rattle.core_tree.specs.declared.statements.Init.{Init}
use Rattle.core_tree.specs.declared.statements.StmtKind.{StmtKind}
use Rattle.core_tree.specs.declared.statements.StmtKind.TheVariants as k
use Rattle.core_tree.specs.declared.statements.Group.{Group}
use Rattle.core_tree.specs.Layout.{layout}
use Rattle.core_tree.specs.Lawful.{Scope, IsExpr, IsPlace, is_place}
use Rattle.core_tree.specs.LawfulCore.{Every, OnSome, Text, IsTest, Lawful, AreInits, Initialised, scalar_types, struct_leaves, leaves_in, IsNamed, unchecked, all_labels, IsDeclaration, is_declaration, IsFirst, first_expression, first_declarations, IsAsked, IsStmt, AreStmts, AreGroups}
use Rattle.c_checking.specs.Numbering.{Numbered, each, maybe_expr, expr_numbered, place_numbered, places_numbered, init_numbered, stmt_numbered}
use Rattle.c_numbering_laws.specs.Kept.{numbered_scope, numbered_text}
use Rattle.c_numbering_laws.proofs.Expressions.{expr_stays, place_stays}
use Rattle.c_numbering_laws.proofs.StmtLayers as l
use Rattle.c_numbering_laws.proofs.StmtLayers.{stmt_kind_numbered, group_numbered, group_out, group_next}
use Rattle.c_numbering_laws.proofs.Scopes.{alike}

-- ---- expressions and places in statements

module _ (s : Scope) (early : s.annotated ≡ false) where
  abbrev z : Scope
  z = numbered_scope s

  expr_in : (e : Expr) (t : Ty) (n : ℕ) → IsExpr s e t → IsExpr z (expr_numbered e n).0 t
  expr_in e t n is = (expr_stays s z (alike s early) is n).typed

  test_in : (e : Expr) (n : ℕ) → IsTest s e → IsTest z (expr_numbered e n).0
  test_in e n is = record { typed = expr_in e e.ty n is.typed; scalar = is.scalar }

  some_test_in : (e : Option Expr) (n : ℕ) → OnSome (IsTest s) e → OnSome (IsTest z) (maybe_expr e n).0
  some_test_in None n is = tt
  some_test_in (Some e) n is = test_in e n is

  some_in : (e : Option Expr) (n : ℕ) → OnSome (Lawful s) e → OnSome (Lawful z) (maybe_expr e n).0
  some_in None n is = tt
  some_in (Some e) n is = expr_in e e.ty n is

  own_type : (p : Place) (t : Ty) → IsPlace s p t → IsPlace s p p.ty
  own_type _ _ (is_place p t is at) = is_place p p.ty refl (rw is at)

  named_place : (p : Place) → IsNamed s p → IsPlace s p p.ty
  named_place _ (IsNamed.unchecked p plain is) = is
  named_place _ (IsNamed.variable p n t is at timed) = own_type p (ty.Num t) is
  named_place _ (IsNamed.indexed p of i n t count at is a b c d e timed) = own_type p (ty.Num t) is

  named_in : (p : Place) (n : ℕ) → IsNamed s p → IsNamed z (place_numbered p n).0
  named_in p n is = unchecked (place_numbered p n).0 early (place_stays s z (alike s early) (named_place p is) n).typed

  all_named_in : (ps : List Place) (n : ℕ) → Every (IsNamed s) ps → Every (IsNamed z) (places_numbered ps n).0
  all_named_in [] n is = tt
  all_named_in (p ∷ ps) n is = (named_in p n is.0, all_named_in ps (place_numbered p n).1 is.1)

  -- ---- initialisers

  value_in : (v : Option Expr) (t : Ty) (n : ℕ) → OnSome (λ e. IsExpr s e t) v → OnSome (λ e. IsExpr z e t) (maybe_expr v n).0
  value_in None t n is = tt
  value_in (Some e) t n is = expr_in e t n is

  inits_in : (whole : Ty) (slots : List Slot) (ts : List Ty) (is : List Init) (n : ℕ) → AreInits s whole slots ts is
      → AreInits z whole slots ts (each (map init_numbered is) n).0
  inits_in whole [] [] [] n are = tt
  inits_in whole [] [] (i ∷ is) n are = absurd are
  inits_in whole [] (t ∷ ts) is n are = absurd are
  inits_in whole (slot ∷ slots) [] is n are = absurd are
  inits_in whole (slot ∷ slots) (t ∷ ts) [] n are = absurd are
  inits_in whole (slot ∷ slots) (t ∷ ts) (i ∷ is) n are =
      ((are.0.0, value_in i.value t n are.0.1, are.0.2, are.0.3), inits_in whole slots ts is (init_numbered i n).1 are.1)

  initialised_in : (t : Ty) (is : List Init) (n : ℕ) → Initialised s t is → Initialised z t (each (map init_numbered is) n).0
  initialised_in t [] n are = tt
  initialised_in t (i ∷ is) n are =
      subst (λ (structs : List Struct). AreInits z t (layout structs t).slots (leaves_in (struct_leaves [] structs) t)
      (each (map init_numbered (i ∷ is)) n).0) (sym (alike s early).structs)
      (inits_in t (layout s.core.structs t).slots (scalar_types s.core t) (i ∷ is) n are)

  asked_in : (x : Text) (p : Place) (limit n : ℕ) → x.scope ≡ s → IsAsked x p limit
      → IsAsked (numbered_text x) (place_numbered p n).0 limit
  asked_in x p limit n at is =
      let plain : x.scope.annotated ≡ false = rw at early in
      record {
        place = (place_stays x.scope (numbered_scope x.scope) (alike x.scope plain) is.place n).typed;
        timed = λ late. absurd (search rules);
        scalar = is.scalar;
        short = is.short;
      }

-- ---- labels and declarations

labels_in : (groups : List Group) (n : ℕ) → all_labels (each (map group_numbered groups) n).0 ≡ all_labels groups
labels_in [] n = refl
labels_in (g ∷ groups) n = rw (group_out g n, labels_in groups (group_numbered g n).1) refl

declaration_in : (s : Stmt) (n : ℕ) → IsDeclaration s → IsDeclaration (stmt_numbered s n).0
declaration_in _ n (is_declaration s i init is) =
    is_declaration (stmt_numbered s n).0 i (each (map init_numbered init) (n + 1)).0
    (ap (λ (kind : StmtKind). (stmt_kind_numbered kind (n + 1)).0) is
    ∙ ap (λ (f : Numbered StmtKind). (f (n + 1)).0) (l.numbered-Declare i init))

declarations_in : (all : List Stmt) (n : ℕ) → Every IsDeclaration all → Every IsDeclaration (each (map stmt_numbered all) n).0
declarations_in [] n is = tt
declarations_in (s ∷ all) n is = (declaration_in s n is.0, declarations_in all (stmt_numbered s n).1 is.1)

first_in : (kind : StmtKind) (n : ℕ) → IsFirst kind → IsFirst (stmt_kind_numbered kind n).0
first_in _ n (first_expression e) =
    subst (λ (f : Numbered StmtKind). IsFirst (f n).0) (sym (l.numbered-Expr e)) (first_expression (expr_numbered e n).0)
first_in _ n (first_declarations all are) =
    subst (λ (f : Numbered StmtKind). IsFirst (f n).0) (sym (l.numbered-Block all))
    (first_declarations (each (map stmt_numbered all) n).0 (declarations_in all n are))

-- ---- the induction

-- a kind, by what it is with its nodes numbered
stmt_is : (x : Text) (kind : StmtKind) (by : Numbered StmtKind) (n : ℕ) → stmt_kind_numbered kind ≡ by → IsStmt x (by n).0
    → IsStmt x (stmt_kind_numbered kind n).0
stmt_is x kind by n is made = subst (λ (f : Numbered StmtKind). IsStmt x (f n).0) (sym is) made

mutual
  pub stmt_stays : {x : Text} {kind : StmtKind} → IsStmt x kind → x.scope.annotated ≡ false → (n : ℕ)
      → IsStmt (numbered_text x) (stmt_kind_numbered kind n).0
  stmt_stays (IsStmt.expression x e is) early n =
      stmt_is (numbered_text x) (k.Expr e) _ n (l.numbered-Expr e)
      (IsStmt.expression (numbered_text x) (expr_numbered e n).0 (expr_in x.scope early e e.ty n is))
  stmt_stays (IsStmt.block x all are) early n =
      stmt_is (numbered_text x) (k.Block all) _ n (l.numbered-Block all)
      (IsStmt.block (numbered_text x) (each (map stmt_numbered all) n).0 (stmts_stay are early n))
  stmt_stays (IsStmt.if x test one is at) early n =
      let m = (expr_numbered test n).1 in
      stmt_is (numbered_text x) (k.If test one None) _ n (l.numbered-If test one)
      (IsStmt.if (numbered_text x) (expr_numbered test n).0 (stmt_numbered one m).0 (test_in x.scope early test n is)
      (stmt_stays at early (m + 1)))
  stmt_stays (IsStmt.if_else x test one other is at also) early n =
      let m = (expr_numbered test n).1 in
      let o = (stmt_numbered one m).1 in
      stmt_is (numbered_text x) (k.If test one (Some other)) _ n (l.numbered-If_else test one other)
      (IsStmt.if_else (numbered_text x) (expr_numbered test n).0 (stmt_numbered one m).0 (stmt_numbered other o).0
      (test_in x.scope early test n is) (stmt_stays at early (m + 1)) (stmt_stays also early (o + 1)))
  stmt_stays (IsStmt.while x test body is at) early n =
      let m = (expr_numbered test n).1 in
      stmt_is (numbered_text x) (k.While test body) _ n (l.numbered-While test body)
      (IsStmt.while (numbered_text x) (expr_numbered test n).0 (stmt_numbered body m).0 (test_in x.scope early test n is)
      (stmt_stays at early (m + 1)))
  stmt_stays (IsStmt.do_while x body test at is) early n =
      let m = (stmt_numbered body n).1 in
      stmt_is (numbered_text x) (k.Do body test) _ n (l.numbered-Do body test)
      (IsStmt.do_while (numbered_text x) (stmt_numbered body n).0 (expr_numbered test m).0 (stmt_stays at early (n + 1))
      (test_in x.scope early test m is))
  stmt_stays (IsStmt.for x test step body is so at) early n =
      let m = (maybe_expr test n).1 in
      let o = (maybe_expr step m).1 in
      stmt_is (numbered_text x) (k.For None test step body) _ n (l.numbered-For test step body)
      (IsStmt.for (numbered_text x) (maybe_expr test n).0 (maybe_expr step m).0 (stmt_numbered body o).0
      (some_test_in x.scope early test n is) (some_in x.scope early step m so) (stmt_stays at early (o + 1)))
  stmt_stays (IsStmt.for_first x first test step body begin is_first is so at) early n =
      let i = (stmt_numbered first n).1 in
      let m = (maybe_expr test i).1 in
      let o = (maybe_expr step m).1 in
      stmt_is (numbered_text x) (k.For (Some first) test step body) _ n (l.numbered-For_first first test step body)
      (IsStmt.for_first (numbered_text x) (stmt_numbered first n).0 (maybe_expr test i).0 (maybe_expr step m).0
      (stmt_numbered body o).0 (first_in first.kind (n + 1) begin) (stmt_stays is_first early (n + 1))
      (some_test_in x.scope early test i is) (some_in x.scope early step m so) (stmt_stays at early (o + 1)))
  stmt_stays (IsStmt.switch x on groups t computed is apart values are) early n =
      let m = (expr_numbered on n).1 in
      let same = labels_in groups m in
      stmt_is (numbered_text x) (k.Switch on groups) _ n (l.numbered-Switch on groups)
      (IsStmt.switch (numbered_text x) (expr_numbered on n).0 (each (map group_numbered groups) m).0 t computed
      (expr_in x.scope early on (ty.Num t) n is) (rw same apart) (rw same values) (groups_stay are early m))
  stmt_stays (IsStmt.break x may) early n =
      stmt_is (numbered_text x) k.Break _ n l.numbered-Break (IsStmt.break (numbered_text x) may)
  stmt_stays (IsStmt.continue x may) early n =
      stmt_is (numbered_text x) k.Continue _ n l.numbered-Continue (IsStmt.continue (numbered_text x) may)
  stmt_stays (IsStmt.returned x is free) early n =
      stmt_is (numbered_text x) (k.Return None) _ n (l.numbered-Return None) (IsStmt.returned (numbered_text x) is free)
  stmt_stays (IsStmt.returned_value x e is scalar free) early n =
      stmt_is (numbered_text x) (k.Return (Some e)) _ n (l.numbered-Return (Some e))
      (IsStmt.returned_value (numbered_text x) (expr_numbered e n).0 (expr_in x.scope early e x.result n is) scalar free)
  stmt_stays (IsStmt.stamped x p e t at is scalar plain timed) early n =
      let w = place_stays x.scope (numbered_scope x.scope) (alike x.scope early) at n in
      let m = (place_numbered p n).1 in
      stmt_is (numbered_text x) (k.Stamped p e) _ n (l.numbered-Stamped p e)
      (IsStmt.stamped (numbered_text x) (place_numbered p n).0 (expr_numbered e m).0 t w.typed
      (expr_in x.scope early e t m is) scalar (w.const ∙ plain) (λ late. absurd (search rules)))
  stmt_stays (IsStmt.timely x p limit one asked at) early n =
      let m = (place_numbered p n).1 in
      stmt_is (numbered_text x) (k.Timely p limit one None) _ n (l.numbered-Timely p limit one)
      (IsStmt.timely (numbered_text x) (place_numbered p n).0 limit (stmt_numbered one m).0
      (asked_in x.scope early x p limit n refl asked) (stmt_stays at early (m + 1)))
  stmt_stays (IsStmt.timely_else x p limit one other asked at also) early n =
      let m = (place_numbered p n).1 in
      let o = (stmt_numbered one m).1 in
      stmt_is (numbered_text x) (k.Timely p limit one (Some other)) _ n (l.numbered-Timely_else p limit one other)
      (IsStmt.timely_else (numbered_text x) (place_numbered p n).0 limit (stmt_numbered one m).0 (stmt_numbered other o).0
      (asked_in x.scope early x p limit n refl asked) (stmt_stays at early (m + 1)) (stmt_stays also early (o + 1)))
  stmt_stays (IsStmt.expires x p names body caught named free are also) early n =
      let i = (place_numbered p n).1 in
      let m = (places_numbered names i).1 in
      let o = (each (map stmt_numbered body) m).1 in
      stmt_is (numbered_text x) (k.Expires (p ∷ names) body caught) _ n (l.numbered-Expires (p ∷ names) body caught)
      (IsStmt.expires (numbered_text x) (place_numbered p n).0 (places_numbered names i).0 (each (map stmt_numbered body) m).0
      (each (map stmt_numbered caught) o).0 (all_named_in x.scope early (p ∷ names) n named) free
      (stmts_stay are early m) (stmts_stay also early o))
  stmt_stays (IsStmt.declared x i t init behind is are) early n =
      stmt_is (numbered_text x) (k.Declare i init) _ n (l.numbered-Declare i init)
      (IsStmt.declared (numbered_text x) i t (each (map init_numbered init) n).0 behind is
      (initialised_in x.scope early t init n are))

  pub stmts_stay : {x : Text} {all : List Stmt} → AreStmts x all → x.scope.annotated ≡ false → (n : ℕ)
      → AreStmts (numbered_text x) (each (map stmt_numbered all) n).0
  stmts_stay (AreStmts.no_stmts x) early n = AreStmts.no_stmts (numbered_text x)
  stmts_stay (AreStmts.one_more x s more is are) early n =
      let m = (stmt_numbered s n).1 in
      AreStmts.one_more (numbered_text x) (stmt_numbered s n).0 (each (map stmt_numbered more) m).0
      (stmt_stays is early (n + 1)) (stmts_stay are early m)

  groups_stay : {x : Text} {groups : List Group} → AreGroups x groups → x.scope.annotated ≡ false → (n : ℕ)
      → AreGroups (numbered_text x) (each (map group_numbered groups) n).0
  groups_stay (AreGroups.no_groups x) early n = AreGroups.no_groups (numbered_text x)
  groups_stay (AreGroups.one_group x g more some are also) early n =
      let m = (group_numbered g n).1 in
      AreGroups.one_group (numbered_text x) (group_numbered g n).0 (each (map group_numbered more) m).0
      (rw (group_out g n) some) (rw (group_out g n) (stmts_stay are early n)) (groups_stay also early m)
