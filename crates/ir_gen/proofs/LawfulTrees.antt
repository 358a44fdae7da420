-- The expressions and statements of lawful programs are built.
use Rattle.std.proofs.Common.{◌≡◌, ℕ, Bool, true, false, ◌&&◌, ◌||◌, not, List, [], ◌∷◌, map, Option, Some, None, refl, sym, ap, ◌∙◌, rules}
use Rattle.core_tree.specs.declared.types.Ty.{Ty}
use Rattle.core_tree.specs.declared.types.Slot.{Slot}
use Rattle.core_tree.specs.declared.expressions.Expr.{Expr}
use Rattle.core_tree.specs.declared.expressions.Place.{Place}
use Rattle.core_tree.specs.declared.expressions.ExprKind.{ExprKind, the_lemmas}
use Rattle.core_tree.specs.declared.expressions.ExprKind.TheVariants as k
use Rattle.core_tree.specs.declared.expressions.PlaceKind.{PlaceKind}
use Rattle.core_tree.specs.declared.expressions.PlaceKind.TheVariants as pk
use Rattle.base16.specs.declared.integer.IntType.{IntType}
use Rattle.base16.specs.declared.operator.BinaryOp.{BinaryOp}
use Rattle.base16.specs.declared.operator.UnaryOp.{UnaryOp}
use Rattle.base16.specs.declared.operator.UnaryOp.TheVariants as un
use Rattle.core_tree.specs.declared.statements.Init.{Init}
use Rattle.core_tree.specs.Lawful.{Scope, HasType, IsExpr, HasPlaceType, IsPlace, IsStored, AreExprs, is_local_path}
use Rattle.core_tree.specs.LawfulCore.{OnSome, AreInits, Initialised}
use Rattle.ir_gen.specs.Built as built

pub both_true : (a b : Bool) → a ≡ true → b ≡ true → (a && b) ≡ true
both_true true b p q = q
both_true false b p q = p

pub three_true : (a b c : Bool) → a ≡ true → b ≡ true → c ≡ true → (a && (b && c)) ≡ true
three_true a b c p q r = both_true a (b && c) p (both_true b c q r)

-- a store without a mark goes to a part of a local
marked_or_local : (inside path local marked : Bool) → path ≡ local → marked ≡ (inside || not path)
    → (marked || local) ≡ true
marked_or_local true path local marked e m = ap (λ b. b || local) m
marked_or_local false true local true e m = refl
marked_or_local false true local false e m = sym e
marked_or_local false false local marked e m = ap (λ b. b || local) m

-- ---- the equations of the fold

eq-Read : (p : Place) → built.expr_kind (k.Read p) ≡ (built.place_kind p.kind).built
eq-Read p = search (rules, the_lemmas)

eq-Convert : (e : Expr) → built.expr_kind (k.Convert e) ≡ built.expr e
eq-Convert e = search (rules, the_lemmas)

eq-Unary : (o : UnaryOp) (e : Expr) → built.expr_kind (k.Unary o e) ≡ built.expr e
eq-Unary o e = search (rules, the_lemmas)

eq-Binary : (o : BinaryOp) (t : IntType) (a b : Expr) → built.expr_kind (k.Binary o t a b) ≡ (built.expr a && built.expr b)
eq-Binary o t a b = search (rules, the_lemmas)

eq-PointerPlus : (minus : Bool) (a b : Expr) → built.expr_kind (k.PointerPlus minus a b) ≡ (built.expr a && built.expr b)
eq-PointerPlus minus a b = search (rules, the_lemmas)

eq-Difference : (a b : Expr) → built.expr_kind (k.Difference a b) ≡ (built.expr a && built.expr b)
eq-Difference a b = search (rules, the_lemmas)

eq-ComparePointers : (o : BinaryOp) (a b : Expr) → built.expr_kind (k.ComparePointers o a b) ≡ (built.expr a && built.expr b)
eq-ComparePointers o a b = search (rules, the_lemmas)

eq-And : (a b : Expr) → built.expr_kind (k.And a b) ≡ (built.expr a && built.expr b)
eq-And a b = search (rules, the_lemmas)

eq-Or : (a b : Expr) → built.expr_kind (k.Or a b) ≡ (built.expr a && built.expr b)
eq-Or a b = search (rules, the_lemmas)

eq-Conditional : (a b c : Expr) → built.expr_kind (k.Conditional a b c) ≡ (built.expr a && (built.expr b && built.expr c))
eq-Conditional a b c = search (rules, the_lemmas)

eq-Assign : (p : Place) (v : Expr) (marked : Bool) → built.expr_kind (k.Assign p v marked)
    ≡ ((built.place_kind p.kind).built && (built.expr v && (marked || (built.place_kind p.kind).local)))
eq-Assign p v marked = search (rules, the_lemmas)

eq-Update : (o : BinaryOp) (t : Option IntType) (p : Place) (v : Expr) (old marked : Bool)
    → built.expr_kind (k.Update o t p v old marked)
    ≡ ((built.place_kind p.kind).built && (built.expr v && (marked || (built.place_kind p.kind).local)))
eq-Update o t p v old marked = search (rules, the_lemmas)

eq-Address : (p : Place) → built.expr_kind (k.Address p) ≡ (built.place_kind p.kind).built
eq-Address p = search (rules, the_lemmas)

eq-Call : (n : ℕ) (args : List Expr) → built.expr_kind (k.Call n args) ≡ built.all_true (map built.expr args)
eq-Call n args = search (rules, the_lemmas)

eq-Emit : (e : Expr) → built.expr_kind (k.Emit e) ≡ built.expr e
eq-Emit e = search (rules, the_lemmas)

eq-Comma : (a b : Expr) → built.expr_kind (k.Comma a b) ≡ (built.expr a && built.expr b)
eq-Comma a b = search (rules, the_lemmas)

at-Deref : (e : Expr) → (built.place_kind (pk.Deref e)).built ≡ built.expr e
at-Deref e = search (rules, the_lemmas)

at-Member : (p : Place) (tag n : ℕ) → built.place_kind (pk.Member p tag n) ≡ built.place_kind p.kind
at-Member p tag n = search (rules, the_lemmas)

at-Element : (p : Place) (i : Expr) → (built.place_kind (pk.Element p i)).built
    ≡ ((built.place_kind p.kind).built && built.expr i)
at-Element p i = search (rules, the_lemmas)

at-At : (a b : Expr) → (built.place_kind (pk.At a b)).built ≡ (built.expr a && built.expr b)
at-At a b = search (rules, the_lemmas)

-- ---- by the rules of types

-- a place is built, and is a part of a local where the rules take it for one
record BuildsPlace (kind : PlaceKind) : Type 0 where
  whole : (built.place_kind kind).built ≡ true
  local : is_local_path kind ≡ (built.place_kind kind).local

module _ (s : Scope) where
  two : (a b : Expr) → built.expr a ≡ true → built.expr b ≡ true → (built.expr a && built.expr b) ≡ true
  two a b p q = both_true (built.expr a) (built.expr b) p q

  mutual
    kind_built : (kind : ExprKind) (t : Ty) → HasType s kind t → built.expr_kind kind ≡ true
    kind_built _ _ (HasType.integer_constant v t within) = search (rules, the_lemmas)
    kind_built _ _ (HasType.null_constant to r) = search (rules, the_lemmas)
    kind_built _ _ (HasType.read p t i scalar) = eq-Read p ∙ (place_built p t i).whole
    kind_built _ _ (HasType.decayed p of count r i c un) = eq-Address p ∙ (place_built p _ i).whole
    kind_built _ _ (HasType.address p t r i a c un) = eq-Address p ∙ (place_built p t i).whole
    kind_built _ _ (HasType.integer_converted e from to i) = eq-Convert e ∙ expr_built e _ i
    kind_built _ _ (HasType.pointer_converted e to i) = eq-Convert e ∙ expr_built e _ i
    kind_built _ _ (HasType.signed o e t other computed i) = eq-Unary o e ∙ expr_built e _ i
    kind_built _ _ (HasType.negated e t i scalar) = eq-Unary un.Not e ∙ expr_built e t i
    kind_built _ _ (HasType.binary o t x y other computed i j) = eq-Binary o t x y ∙ two x y (expr_built x _ i)
        (expr_built y _ j)
    kind_built _ _ (HasType.shift o t by x y other computed also i j) = eq-Binary o t x y ∙ two x y (expr_built x _ i)
        (expr_built y _ j)
    kind_built _ _ (HasType.pointer_plus minus x y to r by c i j) = eq-PointerPlus minus x y ∙ two x y (expr_built x _ i)
        (expr_built y _ j)
    kind_built _ _ (HasType.plus_pointer x y to r by c i j) = eq-PointerPlus false x y ∙ two x y (expr_built x _ i)
        (expr_built y _ j)
    kind_built _ _ (HasType.difference x y to r q c i j) = eq-Difference x y ∙ two x y (expr_built x _ i) (expr_built y _ j)
    kind_built _ _ (HasType.compared o x y to r q c d i j) = eq-ComparePointers o x y ∙ two x y (expr_built x _ i)
        (expr_built y _ j)
    kind_built _ _ (HasType.both x y t u i j p q) = eq-And x y ∙ two x y (expr_built x t i) (expr_built y u j)
    kind_built _ _ (HasType.either x y t u i j p q) = eq-Or x y ∙ two x y (expr_built x t i) (expr_built y u j)
    kind_built _ _ (HasType.integer_branches test x y u t i p computed j l) =
        eq-Conditional test x y ∙ three_true (built.expr test) (built.expr x) (built.expr y) (expr_built test u i)
        (expr_built x _ j) (expr_built y _ l)
    kind_built _ _ (HasType.pointer_branches test x y u to r i p j l) =
        eq-Conditional test x y ∙ three_true (built.expr test) (built.expr x) (built.expr y) (expr_built test u i)
        (expr_built x _ j) (expr_built y _ l)
    kind_built _ _ (HasType.assigned p x t marked st i) = eq-Assign p x marked ∙ stored_built p t marked x st
        (expr_built x t i)
    kind_built _ _ (HasType.updated o t own p x old marked a c d st i) =
        eq-Update o (Some t) p x old marked ∙ stored_built p _ marked x st (expr_built x _ i)
    kind_built _ _ (HasType.shifted o own by p x old marked a c st i) =
        eq-Update o _ p x old marked ∙ stored_built p _ marked x st (expr_built x _ i)
    kind_built _ _ (HasType.moved o to r by p x old marked a c st i) =
        eq-Update o None p x old marked ∙ stored_built p _ marked x st (expr_built x _ i)
    kind_built _ _ (HasType.called m f args at are may) = eq-Call m args ∙ exprs_built args f.params are
    kind_built _ _ (HasType.sensed channel below) = search (rules, the_lemmas)
    kind_built _ _ (HasType.emitted e i) = eq-Emit e ∙ expr_built e _ i
    kind_built _ _ HasType.checkpoint = search (rules, the_lemmas)
    kind_built _ _ (HasType.sequence x y t u i j p) = eq-Comma x y ∙ two x y (expr_built x t i) (expr_built y u j)

    pub expr_built : (e : Expr) (t : Ty) → IsExpr s e t → built.expr e ≡ true
    expr_built _ _ (IsExpr.is_expr e t at has) = kind_built e.kind t has

    place_kind_built : (kind : PlaceKind) (t : Ty) → HasPlaceType s kind t → BuildsPlace kind
    place_kind_built _ _ (HasPlaceType.local m t at_m) = record {
      whole = search (rules, the_lemmas);
      local = search (rules, the_lemmas);
    }
    place_kind_built _ _ (HasPlaceType.global m g at_m) = record {
      whole = search (rules, the_lemmas);
      local = search (rules, the_lemmas);
    }
    place_kind_built _ _ (HasPlaceType.pointed e to r i) = record {
      whole = at-Deref e ∙ expr_built e _ i;
      local = search (rules, the_lemmas);
    }
    place_kind_built _ _ (HasPlaceType.member p tag m mem i at_m) =
        let w = place_built p _ i in
        let same : is_local_path (pk.Member p tag m) ≡ is_local_path p.kind = search (rules, the_lemmas) in
        record {
          whole = ap (λ (b : built.BuiltPlace). b.built) (at-Member p tag m) ∙ w.whole;
          local = same ∙ (w.local ∙ ap (λ (b : built.BuiltPlace). b.local) (sym (at-Member p tag m)));
        }
    place_kind_built _ _ (HasPlaceType.element p e of count t i j) = record {
      whole = at-Element p e ∙ both_true (built.place_kind p.kind).built (built.expr e) (place_built p _ i).whole
          (expr_built e _ j);
      local = search (rules, the_lemmas);
    }
    place_kind_built _ _ (HasPlaceType.pointer_at x y to r t c i j) = record {
      whole = at-At x y ∙ two x y (expr_built x _ i) (expr_built y _ j);
      local = search (rules, the_lemmas);
    }
    place_kind_built _ _ (HasPlaceType.at_pointer x y to r t c i j) = record {
      whole = at-At x y ∙ two x y (expr_built x _ i) (expr_built y _ j);
      local = search (rules, the_lemmas);
    }

    place_built : (p : Place) (t : Ty) → IsPlace s p t → BuildsPlace p.kind
    place_built _ _ (IsPlace.is_place p t at_t has) = place_kind_built p.kind t has

    stored_built : (p : Place) (t : Ty) (marked : Bool) (x : Expr) → IsStored s p t marked → built.expr x ≡ true
        → ((built.place_kind p.kind).built && (built.expr x && (marked || (built.place_kind p.kind).local))) ≡ true
    stored_built _ _ _ x (IsStored.stored p t marked i scalar free un is) h =
        let w = place_built p t i in
        three_true (built.place_kind p.kind).built (built.expr x) (marked || (built.place_kind p.kind).local) w.whole h
        (marked_or_local s.inside (is_local_path p.kind) (built.place_kind p.kind).local marked w.local is)

    exprs_built : (es : List Expr) (ts : List Ty) → AreExprs s es ts → built.all_true (map built.expr es) ≡ true
    exprs_built _ _ AreExprs.no_exprs = refl
    exprs_built _ _ (AreExprs.one_more e t es ts i is) =
        both_true (built.expr e) (built.all_true (map built.expr es)) (expr_built e t i) (exprs_built es ts is)

-- ---- initialisers

some_built : (s : Scope) (t : Ty) (e : Option Expr) → OnSome (λ e. IsExpr s e t) e → built.if_some built.expr e ≡ true
some_built s t None h = refl
some_built s t (Some e) h = expr_built s e t h

inits_built : (s : Scope) (whole : Ty) (slots : List Slot) (ts : List Ty) (is : List Init) → AreInits s whole slots ts is
    → built.inits is ≡ true
inits_built s whole [] [] [] h = refl
inits_built s whole (slot ∷ slots) (t ∷ ts) (i ∷ is) h =
    both_true (built.if_some built.expr i.value) (built.inits is) (some_built s t i.value h.0.1)
    (inits_built s whole slots ts is h.1)
inits_built s whole _ _ _ h = absurd h

pub initialised_built : (s : Scope) (t : Ty) (is : List Init) → Initialised s t is → built.inits is ≡ true
initialised_built s t [] h = refl
initialised_built s t (i ∷ is) h = inits_built s t _ _ (i ∷ is) h
