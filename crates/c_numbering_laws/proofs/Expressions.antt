-- Lawful expressions stay lawful when their nodes are numbered, by induction over what makes them lawful.
use Rattle.std.proofs.Common.{◌≡◌, ℕ, ◌+◌, Bool, true, false, ◌||◌, List, map, slice_get, Some, None, pos, refl, sym, ap, subst, ◌∙◌, rules}
use Rattle.base16.specs.declared.integer.IntType.TheVariants.{Int, UInt}
use Rattle.base16.specs.declared.operator.UnaryOp.TheVariants as un
use Rattle.core_tree.specs.Rules.{promoted, result_in}
use Rattle.core_tree.specs.declared.types.Ty.{Ty}
use Rattle.core_tree.specs.declared.types.Ty.TheVariants as ty
use Rattle.core_tree.specs.declared.expressions.Expr.{Expr}
use Rattle.core_tree.specs.declared.expressions.Place.{Place}
use Rattle.core_tree.specs.declared.expressions.ExprKind.{ExprKind, the_lemmas}
use Rattle.core_tree.specs.declared.expressions.PlaceKind.{PlaceKind}
use Rattle.core_tree.specs.declared.expressions.ExprKind.TheVariants as k
use Rattle.core_tree.specs.declared.expressions.PlaceKind.TheVariants as pk
use Rattle.core_tree.specs.declared.program.Global.{Global}
use Rattle.core_tree.specs.declared.program.Function.{Function}
use Rattle.core_tree.specs.Lawful.{Scope, Complete, IsUntimed, HasType, IsExpr, is_expr, HasPlaceType, IsPlace, is_place, IsStored, AreExprs, is_const, is_local_path, is_constant, is_marked, either_const}
use Rattle.c_checking.specs.Numbering.{Numbered, pure, each, expr_numbered, place_numbered}
use Rattle.c_numbering_laws.proofs.Layers as l
use Rattle.c_numbering_laws.proofs.Layers.{kind_numbered, place_kind_numbered}

-- what two scopes have in common where the nodes of the second's program are numbered
pub record Alike (s z : Scope) : Type 0 where
  pub structs : z.core.structs ≡ s.core.structs
  pub globals : (n : ℕ) (g : Global) → slice_get s.core.globals n ≡ Some g
      → (h : Global) × (slice_get z.core.globals n ≡ Some h) × (h.ty ≡ g.ty)
  pub functions : (n : ℕ) (f : Function) → slice_get s.core.functions n ≡ Some f
      → (g : Function) × (slice_get z.core.functions n ≡ Some g) × (g.params ≡ f.params) × (g.result ≡ f.result)
  pub objects : z.objects ≡ s.objects
  pub inside : z.inside ≡ s.inside
  pub early : z.annotated ≡ false

module _ (s z : Scope) (same : Alike s z) where
  -- ---- what stays of a kind, and of an expression

  pub record KindStays (kind : ExprKind) (t : Ty) (n : ℕ) : Type 0 where
    pub typed : HasType z (kind_numbered kind n).0 t
    pub constant : is_constant (kind_numbered kind n).0 ≡ is_constant kind

  pub record ExprStays (e : Expr) (t : Ty) (n : ℕ) : Type 0 where
    pub typed : IsExpr z (expr_numbered e n).0 t
    pub constant : is_constant (expr_numbered e n).0.kind ≡ is_constant e.kind

  pub record PlaceKindStays (kind : PlaceKind) (t : Ty) (n : ℕ) : Type 0 where
    pub typed : HasPlaceType z (place_kind_numbered kind n).0 t
    pub const : is_const (place_kind_numbered kind n).0 ≡ is_const kind
    pub path : is_local_path (place_kind_numbered kind n).0 ≡ is_local_path kind

  pub record PlaceStays (p : Place) (t : Ty) (n : ℕ) : Type 0 where
    pub typed : IsPlace z (place_numbered p n).0 t
    pub const : is_const (place_numbered p n).0.kind ≡ is_const p.kind
    pub path : is_local_path (place_numbered p n).0.kind ≡ is_local_path p.kind

  untimed : (p : Place) → IsUntimed z p
  untimed p late = absurd (let h : z.annotated ≡ false = same.early in search rules)

  complete : (t : Ty) → Complete s.core t → Complete z.core t
  complete t is = rw same.structs is

  -- a kind, by what it is with its nodes numbered
  kind_is : (kind made : ExprKind) (by : Numbered ExprKind) (t : Ty) (n : ℕ) → kind_numbered kind ≡ by → (by n).0 ≡ made
      → HasType z made t → is_constant made ≡ is_constant kind → KindStays kind t n
  kind_is kind made by t n is at typed constant =
      let e : (kind_numbered kind n).0 ≡ made = ap (λ (f : Numbered ExprKind). (f n).0) is ∙ at in
      record { typed = subst (λ x. HasType z x t) (sym e) typed; constant = ap is_constant e ∙ constant }

  place_kind_is : (kind made : PlaceKind) (by : Numbered PlaceKind) (t : Ty) (n : ℕ) → place_kind_numbered kind ≡ by
      → (by n).0 ≡ made → HasPlaceType z made t → is_const made ≡ is_const kind → is_local_path made ≡ is_local_path kind
      → PlaceKindStays kind t n
  place_kind_is kind made by t n is at typed const path =
      let e : (place_kind_numbered kind n).0 ≡ made = ap (λ (f : Numbered PlaceKind). (f n).0) is ∙ at in
      record {
        typed = subst (λ x. HasPlaceType z x t) (sym e) typed;
        const = ap is_const e ∙ const;
        path = ap is_local_path e ∙ path;
      }

  const_member : (p q : Place) (tag m : ℕ) → is_const q.kind ≡ is_const p.kind
      → is_const (pk.Member q tag m) ≡ is_const (pk.Member p tag m)
  const_member p q tag m is =
      let a : is_const (pk.Member q tag m) ≡ is_const q.kind = search (rules, the_lemmas) in
      let b : is_const (pk.Member p tag m) ≡ is_const p.kind = search (rules, the_lemmas) in
      a ∙ is ∙ sym b

  path_member : (p q : Place) (tag m : ℕ) → is_local_path q.kind ≡ is_local_path p.kind
      → is_local_path (pk.Member q tag m) ≡ is_local_path (pk.Member p tag m)
  path_member p q tag m is =
      let a : is_local_path (pk.Member q tag m) ≡ is_local_path q.kind = search (rules, the_lemmas) in
      let b : is_local_path (pk.Member p tag m) ≡ is_local_path p.kind = search (rules, the_lemmas) in
      a ∙ is ∙ sym b

  const_element : (p q : Place) (i j : Expr) → is_const q.kind ≡ is_const p.kind
      → is_const (pk.Element q j) ≡ is_const (pk.Element p i)
  const_element p q i j is =
      let a : is_const (pk.Element q j) ≡ is_const q.kind = search (rules, the_lemmas) in
      let b : is_const (pk.Element p i) ≡ is_const p.kind = search (rules, the_lemmas) in
      a ∙ is ∙ sym b

  path_element : (p q : Place) (i j : Expr) → is_local_path (pk.Element q j) ≡ is_local_path (pk.Element p i)
  path_element p q i j =
      let a : is_local_path (pk.Element q j) ≡ false = search (rules, the_lemmas) in
      let b : is_local_path (pk.Element p i) ≡ false = search (rules, the_lemmas) in
      a ∙ sym b

  const_deref : (e x : Expr) → x.ty ≡ e.ty → is_const (pk.Deref x) ≡ is_const (pk.Deref e)
  const_deref e x is = search (rules, the_lemmas)

  path_deref : (e x : Expr) → is_local_path (pk.Deref x) ≡ is_local_path (pk.Deref e)
  path_deref e x =
      let a : is_local_path (pk.Deref x) ≡ false = search (rules, the_lemmas) in
      let b : is_local_path (pk.Deref e) ≡ false = search (rules, the_lemmas) in
      a ∙ sym b

  const_at : (a b x y : Expr) → x.ty ≡ a.ty → y.ty ≡ b.ty → is_const (pk.At x y) ≡ is_const (pk.At a b)
  const_at a b x y e f =
      let g : is_const (pk.At x y) ≡ either_const x.ty y.ty = search (rules, the_lemmas) in
      let h : is_const (pk.At a b) ≡ either_const a.ty b.ty = search (rules, the_lemmas) in
      g ∙ (rw (e, f) refl) ∙ sym h

  path_at : (a b x y : Expr) → is_local_path (pk.At x y) ≡ is_local_path (pk.At a b)
  path_at a b x y =
      let g : is_local_path (pk.At x y) ≡ false = search (rules, the_lemmas) in
      let h : is_local_path (pk.At a b) ≡ false = search (rules, the_lemmas) in
      g ∙ sym h

  -- ---- what holds no nodes, or two

  pure_is : (kind : ExprKind) (t : Ty) (n : ℕ) → kind_numbered kind ≡ pure kind → HasType z kind t → KindStays kind t n
  pure_is kind t n is typed = kind_is kind kind (pure kind) t n is refl typed refl

  -- neither is a constant
  no_constants : (kind made : ExprKind) → is_constant kind ≡ false → is_constant made ≡ false
      → is_constant made ≡ is_constant kind
  no_constants kind made e f = f ∙ sym e

  same_either : (a b c d : Bool) → a ≡ c → b ≡ d → (c || d) ≡ false → (a || b) ≡ false
  same_either a b c d e f g = rw (e, f) g

  -- ---- the induction

  mutual
    kind_stays : {kind : ExprKind} {t : Ty} → HasType s kind t → (n : ℕ) → KindStays kind t n
    kind_stays (HasType.integer_constant i t is) n =
        pure_is (k.Constant i) (ty.Num t) n (l.numbered-Constant i) (HasType.integer_constant i t is)
    kind_stays (HasType.null_constant to readonly) n =
        pure_is (k.Constant (pos 0)) (ty.Pointer to readonly) n (l.numbered-Constant (pos 0)) (HasType.null_constant to readonly)
    kind_stays (HasType.read p t at scalar) n =
        let q = (place_numbered p n).0 in
        kind_is (k.Read p) (k.Read q) _ t n (l.numbered-Read p) refl (HasType.read q t (place_stays at n).typed scalar)
        (no_constants (k.Read p) (k.Read q) (search (rules, the_lemmas)) (search (rules, the_lemmas)))
    kind_stays (HasType.decayed p of count readonly at const free) n =
        let q = (place_numbered p n).0 in
        let w = place_stays at n in
        kind_is (k.Address p) (k.Address q) _ (ty.Pointer of readonly) n (l.numbered-Address p) refl
        (HasType.decayed q of count readonly w.typed (λ is. const (sym w.const ∙ is)) (untimed q))
        (no_constants (k.Address p) (k.Address q) (search (rules, the_lemmas)) (search (rules, the_lemmas)))
    kind_stays (HasType.address p t readonly at single const free) n =
        let q = (place_numbered p n).0 in
        let w = place_stays at n in
        kind_is (k.Address p) (k.Address q) _ (ty.Pointer t readonly) n (l.numbered-Address p) refl
        (HasType.address q t readonly w.typed single (λ is. const (sym w.const ∙ is)) (untimed q))
        (no_constants (k.Address p) (k.Address q) (search (rules, the_lemmas)) (search (rules, the_lemmas)))
    kind_stays (HasType.integer_converted e from to at) n =
        let x = (expr_numbered e n).0 in
        kind_is (k.Convert e) (k.Convert x) _ (ty.Num to) n (l.numbered-Convert e) refl
        (HasType.integer_converted x from to (expr_stays at n).typed)
        (no_constants (k.Convert e) (k.Convert x) (search (rules, the_lemmas)) (search (rules, the_lemmas)))
    kind_stays (HasType.pointer_converted e to at) n =
        let x = (expr_numbered e n).0 in
        kind_is (k.Convert e) (k.Convert x) _ (ty.Pointer to true) n (l.numbered-Convert e) refl
        (HasType.pointer_converted x to (expr_stays at n).typed)
        (no_constants (k.Convert e) (k.Convert x) (search (rules, the_lemmas)) (search (rules, the_lemmas)))
    kind_stays (HasType.signed o e t plain computed at) n =
        let x = (expr_numbered e n).0 in
        kind_is (k.Unary o e) (k.Unary o x) _ (ty.Num t) n (l.numbered-Unary o e) refl
        (HasType.signed o x t plain computed (expr_stays at n).typed)
        (no_constants (k.Unary o e) (k.Unary o x) (search (rules, the_lemmas)) (search (rules, the_lemmas)))
    kind_stays (HasType.negated e t at scalar) n =
        let x = (expr_numbered e n).0 in
        kind_is (k.Unary un.Not e) (k.Unary un.Not x) _ (ty.Num Int) n (l.numbered-Unary un.Not e) refl
        (HasType.negated x t (expr_stays at n).typed scalar)
        (no_constants (k.Unary un.Not e) (k.Unary un.Not x) (search (rules, the_lemmas)) (search (rules, the_lemmas)))
    kind_stays (HasType.binary o at a b plain computed p q) n =
        let x = (expr_numbered a n).0 in
        let m = (expr_numbered a n).1 in
        let y = (expr_numbered b m).0 in
        kind_is (k.Binary o at a b) (k.Binary o at x y) _ (ty.Num (result_in o at)) n (l.numbered-Binary o at a b) refl
        (HasType.binary o at x y plain computed (expr_stays p n).typed (expr_stays q m).typed)
        (no_constants (k.Binary o at a b) (k.Binary o at x y) (search (rules, the_lemmas)) (search (rules, the_lemmas)))
    kind_stays (HasType.shift o at by a b is computed other p q) n =
        let x = (expr_numbered a n).0 in
        let m = (expr_numbered a n).1 in
        let y = (expr_numbered b m).0 in
        kind_is (k.Binary o at a b) (k.Binary o at x y) _ (ty.Num at) n (l.numbered-Binary o at a b) refl
        (HasType.shift o at by x y is computed other (expr_stays p n).typed (expr_stays q m).typed)
        (no_constants (k.Binary o at a b) (k.Binary o at x y) (search (rules, the_lemmas)) (search (rules, the_lemmas)))
    kind_stays (HasType.pointer_plus minus a b to readonly by whole p q) n =
        let x = (expr_numbered a n).0 in
        let m = (expr_numbered a n).1 in
        let y = (expr_numbered b m).0 in
        kind_is (k.PointerPlus minus a b) (k.PointerPlus minus x y) _ (ty.Pointer to readonly) n
        (l.numbered-PointerPlus minus a b) refl
        (HasType.pointer_plus minus x y to readonly by (complete to whole) (expr_stays p n).typed (expr_stays q m).typed)
        (no_constants (k.PointerPlus minus a b) (k.PointerPlus minus x y)
        (search (rules, the_lemmas)) (search (rules, the_lemmas)))
    kind_stays (HasType.plus_pointer a b to readonly by whole p q) n =
        let x = (expr_numbered a n).0 in
        let m = (expr_numbered a n).1 in
        let y = (expr_numbered b m).0 in
        kind_is (k.PointerPlus false a b) (k.PointerPlus false x y) _ (ty.Pointer to readonly) n
        (l.numbered-PointerPlus false a b) refl
        (HasType.plus_pointer x y to readonly by (complete to whole) (expr_stays p n).typed (expr_stays q m).typed)
        (no_constants (k.PointerPlus false a b) (k.PointerPlus false x y)
        (search (rules, the_lemmas)) (search (rules, the_lemmas)))
    kind_stays (HasType.difference a b to r u whole p q) n =
        let x = (expr_numbered a n).0 in
        let m = (expr_numbered a n).1 in
        let y = (expr_numbered b m).0 in
        kind_is (k.Difference a b) (k.Difference x y) _ (ty.Num Int) n (l.numbered-Difference a b) refl
        (HasType.difference x y to r u (complete to whole) (expr_stays p n).typed (expr_stays q m).typed)
        (no_constants (k.Difference a b) (k.Difference x y) (search (rules, the_lemmas)) (search (rules, the_lemmas)))
    kind_stays (HasType.compared o a b to r u is plain p q) n =
        let x = (expr_numbered a n).0 in
        let m = (expr_numbered a n).1 in
        let y = (expr_numbered b m).0 in
        let v = expr_stays p n in
        let w = expr_stays q m in
        kind_is (k.ComparePointers o a b) (k.ComparePointers o x y) _ (ty.Num Int) n (l.numbered-ComparePointers o a b) refl
        (HasType.compared o x y to r u is
        (λ order. same_either (is_constant x.kind) (is_constant y.kind) (is_constant a.kind) (is_constant b.kind) v.constant
        w.constant (plain order)) v.typed w.typed)
        (no_constants (k.ComparePointers o a b) (k.ComparePointers o x y)
        (search (rules, the_lemmas)) (search (rules, the_lemmas)))
    kind_stays (HasType.both a b t u p q one other) n =
        let x = (expr_numbered a n).0 in
        let m = (expr_numbered a n).1 in
        let y = (expr_numbered b m).0 in
        kind_is (k.And a b) (k.And x y) _ (ty.Num Int) n (l.numbered-And a b) refl
        (HasType.both x y t u (expr_stays p n).typed (expr_stays q m).typed one other)
        (no_constants (k.And a b) (k.And x y) (search (rules, the_lemmas)) (search (rules, the_lemmas)))
    kind_stays (HasType.either a b t u p q one other) n =
        let x = (expr_numbered a n).0 in
        let m = (expr_numbered a n).1 in
        let y = (expr_numbered b m).0 in
        kind_is (k.Or a b) (k.Or x y) _ (ty.Num Int) n (l.numbered-Or a b) refl
        (HasType.either x y t u (expr_stays p n).typed (expr_stays q m).typed one other)
        (no_constants (k.Or a b) (k.Or x y) (search (rules, the_lemmas)) (search (rules, the_lemmas)))
    kind_stays (HasType.integer_branches test a b t at p scalar computed q r) n =
        let v = (expr_numbered test n).0 in
        let i = (expr_numbered test n).1 in
        let x = (expr_numbered a i).0 in
        let m = (expr_numbered a i).1 in
        let y = (expr_numbered b m).0 in
        kind_is (k.Conditional test a b) (k.Conditional v x y) _ (ty.Num at) n (l.numbered-Conditional test a b) refl
        (HasType.integer_branches v x y t at (expr_stays p n).typed scalar computed (expr_stays q i).typed (expr_stays r m).typed)
        (no_constants (k.Conditional test a b) (k.Conditional v x y) (search (rules, the_lemmas)) (search (rules, the_lemmas)))
    kind_stays (HasType.pointer_branches test a b t to readonly p scalar q r) n =
        let v = (expr_numbered test n).0 in
        let i = (expr_numbered test n).1 in
        let x = (expr_numbered a i).0 in
        let m = (expr_numbered a i).1 in
        let y = (expr_numbered b m).0 in
        kind_is (k.Conditional test a b) (k.Conditional v x y) _ (ty.Pointer to readonly) n (l.numbered-Conditional test a b) refl
        (HasType.pointer_branches v x y t to readonly (expr_stays p n).typed scalar (expr_stays q i).typed (expr_stays r m).typed)
        (no_constants (k.Conditional test a b) (k.Conditional v x y) (search (rules, the_lemmas)) (search (rules, the_lemmas)))
    kind_stays (HasType.assigned p v t marked at i) n =
        let q = (place_numbered p n).0 in
        let m = (place_numbered p n).1 in
        let x = (expr_numbered v m).0 in
        kind_is (k.Assign p v marked) (k.Assign q x marked) _ t n (l.numbered-Assign p v marked) refl
        (HasType.assigned q x t marked (stored_stays at n) (expr_stays i m).typed)
        (no_constants (k.Assign p v marked) (k.Assign q x marked) (search (rules, the_lemmas)) (search (rules, the_lemmas)))
    kind_stays (HasType.updated o at own p v old marked plain single is to i) n =
        let q = (place_numbered p n).0 in
        let m = (place_numbered p n).1 in
        let x = (expr_numbered v m).0 in
        kind_is (k.Update o (Some at) p v old marked) (k.Update o (Some at) q x old marked) _ (ty.Num own) n
        (l.numbered-Update o (Some at) p v old marked) refl
        (HasType.updated o at own q x old marked plain single is (stored_stays to n) (expr_stays i m).typed)
        (no_constants (k.Update o (Some at) p v old marked) (k.Update o (Some at) q x old marked)
        (search (rules, the_lemmas)) (search (rules, the_lemmas)))
    kind_stays (HasType.shifted o own by p v old marked is computed to i) n =
        let q = (place_numbered p n).0 in
        let m = (place_numbered p n).1 in
        let x = (expr_numbered v m).0 in
        kind_is (k.Update o (Some (promoted own)) p v old marked) (k.Update o (Some (promoted own)) q x old marked)
        _ (ty.Num own) n
        (l.numbered-Update o (Some (promoted own)) p v old marked) refl
        (HasType.shifted o own by q x old marked is computed (stored_stays to n) (expr_stays i m).typed)
        (no_constants (k.Update o (Some (promoted own)) p v old marked) (k.Update o (Some (promoted own)) q x old marked)
        (search (rules, the_lemmas)) (search (rules, the_lemmas)))
    kind_stays (HasType.moved o to readonly by p v old marked is whole at i) n =
        let q = (place_numbered p n).0 in
        let m = (place_numbered p n).1 in
        let x = (expr_numbered v m).0 in
        kind_is (k.Update o None p v old marked) (k.Update o None q x old marked) _ (ty.Pointer to readonly) n
        (l.numbered-Update o None p v old marked) refl
        (HasType.moved o to readonly by q x old marked is (complete to whole) (stored_stays at n) (expr_stays i m).typed)
        (no_constants (k.Update o None p v old marked) (k.Update o None q x old marked)
        (search (rules, the_lemmas)) (search (rules, the_lemmas)))
    kind_stays (HasType.called i f args is fine free) n =
        let g = same.functions i f is in
        let xs = (each (map expr_numbered args) n).0 in
        let made : HasType z (k.Call i xs) (g.0).result =
        HasType.called i g.0 xs g.1 (subst (λ ts. AreExprs z xs ts) (sym g.2) (exprs_stay fine n))
        (λ late inside. absurd (let h : z.annotated ≡ false = same.early in search rules)) in
        kind_is (k.Call i args) (k.Call i xs) _ f.result n (l.numbered-Call i args) refl
        (subst (λ t. HasType z (k.Call i xs) t) g.3 made)
        (no_constants (k.Call i args) (k.Call i xs) (search (rules, the_lemmas)) (search (rules, the_lemmas)))
    kind_stays (HasType.sensed channel is) n =
        pure_is (k.Sense channel) (ty.Num UInt) n (l.numbered-Sense channel) (HasType.sensed channel is)
    kind_stays (HasType.emitted e at) n =
        let x = (expr_numbered e n).0 in
        kind_is (k.Emit e) (k.Emit x) _ ty.Void n (l.numbered-Emit e) refl (HasType.emitted x (expr_stays at n).typed)
        (no_constants (k.Emit e) (k.Emit x) (search (rules, the_lemmas)) (search (rules, the_lemmas)))
    kind_stays HasType.checkpoint n = pure_is k.Checkpoint ty.Void n l.numbered-Checkpoint HasType.checkpoint
    kind_stays (HasType.sequence a b t u p q scalar) n =
        let x = (expr_numbered a n).0 in
        let m = (expr_numbered a n).1 in
        let y = (expr_numbered b m).0 in
        kind_is (k.Comma a b) (k.Comma x y) _ u n (l.numbered-Comma a b) refl
        (HasType.sequence x y t u (expr_stays p n).typed (expr_stays q m).typed scalar)
        (no_constants (k.Comma a b) (k.Comma x y) (search (rules, the_lemmas)) (search (rules, the_lemmas)))

    pub expr_stays : {e : Expr} {t : Ty} → IsExpr s e t → (n : ℕ) → ExprStays e t n
    expr_stays (is_expr e t is at) n =
        let w = kind_stays at (n + 1) in
        record { typed = is_expr (expr_numbered e n).0 t is w.typed; constant = w.constant }

    place_kind_stays : {kind : PlaceKind} {t : Ty} → HasPlaceType s kind t → (n : ℕ) → PlaceKindStays kind t n
    place_kind_stays (HasPlaceType.local i t is) n =
        place_kind_is (pk.Local i) (pk.Local i) (pure (pk.Local i)) t n (l.numbered-Local i) refl
        (HasPlaceType.local i t (rw same.objects is)) refl refl
    place_kind_stays (HasPlaceType.global i g is) n =
        let h = same.globals i g is in
        place_kind_is (pk.Global i) (pk.Global i) (pure (pk.Global i)) g.ty n (l.numbered-Global i) refl
        (subst (λ t. HasPlaceType z (pk.Global i) t) h.2 (HasPlaceType.global i h.0 h.1)) refl refl
    place_kind_stays (HasPlaceType.pointed e to readonly at) n =
        let x = (expr_numbered e n).0 in
        place_kind_is (pk.Deref e) (pk.Deref x) _ to n (l.numbered-Deref e) refl
        (HasPlaceType.pointed x to readonly (expr_stays at n).typed) (const_deref e x refl) (path_deref e x)
    place_kind_stays (HasPlaceType.member p tag i m at is) n =
        let q = (place_numbered p n).0 in
        let w = place_stays at n in
        place_kind_is (pk.Member p tag i) (pk.Member q tag i) _ m.ty n (l.numbered-Member p tag i) refl
        (HasPlaceType.member q tag i m w.typed (rw same.structs is))
        (const_member p q tag i w.const) (path_member p q tag i w.path)
    place_kind_stays (HasPlaceType.element p i of count t at is) n =
        let q = (place_numbered p n).0 in
        let m = (place_numbered p n).1 in
        let x = (expr_numbered i m).0 in
        let w = place_stays at n in
        place_kind_is (pk.Element p i) (pk.Element q x) _ of n (l.numbered-Element p i) refl
        (HasPlaceType.element q x of count t w.typed (expr_stays is m).typed)
        (const_element p q i x w.const) (path_element p q i x)
    place_kind_stays (HasPlaceType.pointer_at a b to readonly t whole p q) n =
        let x = (expr_numbered a n).0 in
        let m = (expr_numbered a n).1 in
        let y = (expr_numbered b m).0 in
        place_kind_is (pk.At a b) (pk.At x y) _ to n (l.numbered-At a b) refl
        (HasPlaceType.pointer_at x y to readonly t (complete to whole) (expr_stays p n).typed (expr_stays q m).typed)
        (const_at a b x y refl refl) (path_at a b x y)
    place_kind_stays (HasPlaceType.at_pointer a b to readonly t whole p q) n =
        let x = (expr_numbered a n).0 in
        let m = (expr_numbered a n).1 in
        let y = (expr_numbered b m).0 in
        place_kind_is (pk.At a b) (pk.At x y) _ to n (l.numbered-At a b) refl
        (HasPlaceType.at_pointer x y to readonly t (complete to whole) (expr_stays p n).typed (expr_stays q m).typed)
        (const_at a b x y refl refl) (path_at a b x y)

    pub place_stays : {p : Place} {t : Ty} → IsPlace s p t → (n : ℕ) → PlaceStays p t n
    place_stays (is_place p t is at) n =
        let w = place_kind_stays at (n + 1) in
        record { typed = is_place (place_numbered p n).0 t is w.typed; const = w.const; path = w.path }

    stored_stays : {p : Place} {t : Ty} {marked : Bool} → IsStored s p t marked → (n : ℕ)
        → IsStored z (place_numbered p n).0 t marked
    stored_stays (IsStored.stored p t marked at scalar plain free is) n =
        let q = (place_numbered p n).0 in
        let w = place_stays at n in
        let same_mark : is_marked z q ≡ is_marked s p = rw (same.inside, w.path) refl in
        IsStored.stored q t marked w.typed scalar (w.const ∙ plain) (untimed q) (is ∙ sym same_mark)

    exprs_stay : {es : List Expr} {ts : List Ty} → AreExprs s es ts → (n : ℕ) → AreExprs z (each (map expr_numbered es) n).0 ts
    exprs_stay AreExprs.no_exprs n = AreExprs.no_exprs
    exprs_stay (AreExprs.one_more e t es ts at more) n =
        let m = (expr_numbered e n).1 in
        AreExprs.one_more (expr_numbered e n).0 t (each (map expr_numbered es) m).0 ts (expr_stays at n).typed (exprs_stay more m)
