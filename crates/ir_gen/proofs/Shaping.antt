-- The steps of a lawful tree have the shapes that are known: expressions and places.
use Rattle.std.proofs.Common.{◌≡◌, ℕ, suc, ◌+◌, ◌<◌, List, [], ◌∷◌, ◌++◌, length, map, Option, Some, None, Bool, true, false, refl, sym, ap, ◌∙◌, subst, rules}
use Rattle.std.specs.Prelude.{slice_get, ℤ, pos}
use Rattle.base16.specs.declared.image.Kind.{Kind}
use Rattle.base16.specs.declared.integer.IntType.{IntType}
use Rattle.base16.specs.declared.integer.IntType.TheVariants as int
use Rattle.base16.specs.declared.operator.BinaryOp.{BinaryOp}
use Rattle.base16.specs.declared.operator.UnaryOp.{UnaryOp}
use Rattle.base16.specs.declared.operator.UnaryOp.TheVariants as un
use Rattle.core_tree.specs.declared.types.Ty.{Ty, the_lemmas as type_lemmas}
use Rattle.core_tree.specs.declared.types.Ty.TheVariants as ty
use Rattle.core_tree.specs.declared.types.Struct.{Struct}
use Rattle.core_tree.specs.declared.expressions.Expr.{Expr}
use Rattle.core_tree.specs.declared.expressions.Place.{Place}
use Rattle.core_tree.specs.declared.expressions.ExprKind.{ExprKind, the_lemmas}
use Rattle.core_tree.specs.declared.expressions.ExprKind.TheVariants as k
use Rattle.core_tree.specs.declared.expressions.ExprKind.TheOpen.{ExprKind-F, PlaceKind-F}
use Rattle.core_tree.specs.declared.expressions.PlaceKind.{PlaceKind}
use Rattle.core_tree.specs.declared.expressions.PlaceKind.TheVariants as pk
use Rattle.core_tree.specs.declared.program.Function.{Function}
use Rattle.core_tree.specs.declared.program.Global.{Global}
use Rattle.core_tree.specs.Layout.{kind_of, int_type_of, target_of, is_pointer, stride, member_stride}
use Rattle.core_tree.specs.Rules.{promoted, balanced}
use Rattle.core_tree.specs.Lawful.{Scope, HasType, IsExpr, HasPlaceType, IsPlace, IsStored, AreExprs, IsComputed}
use Rattle.ir.specs.declared.form.Ir.{Ir}
use Rattle.ir.specs.declared.form.IrFunction.{IrFunction}
use Rattle.ir.specs.declared.form.Base.TheVariants as base
use Rattle.ir.specs.declared.form.Operand.{Operand}
use Rattle.ir.specs.declared.form.Operand.TheVariants as operand
use Rattle.ir.specs.declared.form.Operation.{Operation}
use Rattle.ir.specs.declared.form.Operation.TheVariants as operation
use Rattle.ir.specs.declared.form.Target.TheVariants as target
use Rattle.ir.specs.declared.form.Keep.{Keep}
use Rattle.ir.specs.declared.form.Keep.TheVariants as keep
use Rattle.ir.specs.declared.form.Step.{Step}
use Rattle.ir.specs.declared.form.StepKind.{StepKind}
use Rattle.ir.specs.declared.form.StepKind.TheVariants as step
use Rattle.ir.specs.Typed.{IsWide, IsTypedOperation, IsTypedUnary}
use Rattle.ir_gen.specs.Code as c
use Rattle.ir_gen.specs.Code.{Code, Spot, Part as LocalPart, single, then_code, above, choice}
use Rattle.ir_gen.specs.Names.{HasOperand}
use Rattle.ir_gen.specs.Shapes.{HasShape, HaveShapes}
use Rattle.ir_gen.proofs.Tree.{coded, spotted}

-- ---- types

wide_promoted : (t : IntType) → IsWide (promoted t)
wide_promoted int.Char = tt
wide_promoted int.Int = tt
wide_promoted int.UInt = tt

wide_balanced : (own t : IntType) → IsWide (balanced own t)
wide_balanced int.Char int.Char = tt
wide_balanced int.Char int.Int = tt
wide_balanced int.Char int.UInt = tt
wide_balanced int.Int int.Char = tt
wide_balanced int.Int int.Int = tt
wide_balanced int.Int int.UInt = tt
wide_balanced int.UInt t = tt

-- operators compute in what is promoted, updates in what is balanced
wide : (t : IntType) → IsComputed t → IsWide t
wide t e = subst IsWide e (wide_promoted t)

wide_with : (own t : IntType) → balanced own t ≡ t → IsWide t
wide_with own t e = subst IsWide e (wide_balanced own t)

unary_typed : (o : UnaryOp) (t : IntType) → IsWide t → IsTypedUnary o t
unary_typed un.Plus t h = tt
unary_typed un.Minus t h = h
unary_typed un.Complement t h = h
unary_typed un.Not t h = tt

own_type : (s : Scope) (e : Expr) (t : Ty) → IsExpr s e t → e.ty ≡ t
own_type s _ _ (IsExpr.is_expr e t at_t has) = at_t

int_type_at : (t : Ty) (n : IntType) → t ≡ ty.Num n → int_type_of t ≡ n
unfolding int_type_of
int_type_at t n is = search (rules, type_lemmas)

-- the integer type of an expression is that of its type
pub integer_at : (s : Scope) (e : Expr) (t : IntType) → IsExpr s e (ty.Num t) → int_type_of e.ty ≡ t
integer_at s e t i = int_type_at e.ty t (own_type s e (ty.Num t) i)

own_typed : (s : Scope) (o : UnaryOp) (e : Expr) (t : IntType) → IsComputed t → IsExpr s e (ty.Num t)
    → IsTypedUnary o (int_type_of e.ty)
own_typed s o e t computed i =
    subst (λ (z : IntType). IsTypedUnary o z) (sym (integer_at s e t i)) (unary_typed o t (wide t computed))

module _ (ir : Ir) (fn : IrFunction) where
  pub shapes_append : (xs ys : List Step) → HaveShapes ir fn xs → HaveShapes ir fn ys → HaveShapes ir fn (xs ++ ys)
  shapes_append [] ys h g = g
  shapes_append (x ∷ xs) ys h g = (h.0, shapes_append xs ys h.1 g)

  -- ---- codes

  pub record ShapedCode (code : Code) : Type 0 where
    pub shaped : (p d : ℕ) → HaveShapes ir fn (code.steps p d)

  n_none : ShapedCode c.no_code
  n_none = record { shaped = λ p d. tt }

  n_single : (node : ℕ) (k : ℕ → StepKind) → ((d : ℕ) → HasShape ir fn (k d)) → ShapedCode (single node k)
  n_single node k h = record { shaped = λ p d. (h d, tt) }

  n_then : (x y : Code) → ShapedCode x → ShapedCode y → ShapedCode (then_code x y)
  n_then x y hx hy = record {
    shaped = λ p d. shapes_append (x.steps p d) (y.steps (p + x.size) d) (hx.shaped p d) (hy.shaped (p + x.size) d);
  }

  n_above : (by : ℕ) (x : Code) → ShapedCode x → ShapedCode (above by x)
  n_above by x h = record { shaped = λ p d. h.shaped p (d + by) }

  n_choice : (node : ℕ) (t : IntType) (x y z : Code) → ShapedCode x → ShapedCode y → ShapedCode z
      → ShapedCode (choice node t x y z)
  n_choice node t x y z hx hy hz = record {
    shaped = λ p d.
        shapes_append (x.steps p d) _ (hx.shaped p d) (
          HasShape.unless d t (p + x.size + 1 + y.size + 1),
          shapes_append (y.steps (p + x.size + 1) d) _ (hy.shaped (p + x.size + 1) d)
              (HasShape.jump (p + x.size + 1 + y.size + 1 + z.size), hz.shaped (p + x.size + 1 + y.size + 1) d),
        );
  }

  n_put : (node : ℕ) (x : Operand) → HasOperand ir fn x → ShapedCode (c.put node x)
  n_put node x h = n_single node (λ d. step.Put d x) (λ d. HasShape.put d x h)

  n_step : (x : Code) (node : ℕ) (k : ℕ → StepKind) → ((d : ℕ) → HasShape ir fn (k d)) → ShapedCode x
      → ShapedCode (c.then_step x node k)
  n_step x node k h hx = n_then x (single node k) hx (n_single node k h)

  n_both : (x y : Code) (node : ℕ) (k : ℕ → StepKind) → ((d : ℕ) → HasShape ir fn (k d)) → ShapedCode x → ShapedCode y
      → ShapedCode (c.both_then x y node k)
  n_both x y node k h hx hy = n_then x (c.then_step (above 1 y) node k) hx (n_step (above 1 y) node k h (n_above 1 y hy))

  n_combined : (node : ℕ) (o : Operation) (x y : Code) → IsTypedOperation o → ShapedCode x → ShapedCode y
      → ShapedCode (c.combined node o x y)
  n_combined node o x y typed hx hy =
      n_both x y node (λ d. step.Binary d o operand.Temporary operand.Temporary) (λ d. HasShape.binary d o typed) hx hy

  n_store : (node : ℕ) (k : Kind) (keeps : Keep) → ShapedCode (single node (c.store_step k keeps))
  n_store node k keeps =
      n_single node (c.store_step k keeps) (λ d. HasShape.store d target.Temporary k operand.Temporary keeps tt tt)

  -- a part of a local that is there
  abbrev HasPart : Option LocalPart → Type 0
  HasPart None = Unit {0}
  HasPart (Some q) = q.local < length fn.locals

  record ShapedSpot (s : Spot) : Type 0 where
    code_shaped : ShapedCode s.code
    part_there : HasPart s.part

  elsewhere_shaped : (x : Code) → ShapedCode x → ShapedSpot (c.elsewhere x)
  elsewhere_shaped x h = record { code_shaped = h; part_there = tt }

  has_part : (q : Option LocalPart) (offset : ℕ) → HasPart q → HasPart (c.part_at q offset)
  has_part None offset h = tt
  has_part (Some q) offset h = h

  n_store_local : (node : ℕ) (q : Option LocalPart) (k : Kind) (keeps : Keep) → HasPart q
      → ShapedCode (c.store_local node q k keeps)
  n_store_local node None k keeps h = n_none
  n_store_local node (Some q) k keeps h =
      n_single node (λ d. step.StoreLocal d q.local q.offset k operand.Temporary keeps)
      (λ d. HasShape.store_local d q.local q.offset k operand.Temporary keeps h tt)

  n_assign : (node : ℕ) (s : Spot) (k : Kind) (marked : Bool) (v : Code) → ShapedSpot s → ShapedCode v
      → ShapedCode (c.assign_code node s k marked v)
  n_assign node s k true v hs hv =
      n_both s.code v node (c.store_step k keep.Stored)
      (λ d. HasShape.store d target.Temporary k operand.Temporary keep.Stored tt tt) hs.code_shaped hv
  n_assign node s k false v hs hv = n_then v (c.store_local node s.part k keep.Stored) hv
      (n_store_local node s.part k keep.Stored hs.part_there)

  n_local : (node : ℕ) (q : Option LocalPart) (k : Kind) (o : Operation) (v : Code) (old : Bool) → IsTypedOperation o
      → HasPart q → ShapedCode v → ShapedCode (c.update_local node q k o v old)
  n_local node None k o v old typed h hv = n_none
  n_local node (Some q) k o v false typed h hv =
      n_then (c.put node (c.scalar_of q k)) _ (n_put node (c.scalar_of q k) h)
      (n_then (above 1 v) _ (n_above 1 v hv)
      (n_then (single node (λ d. step.Binary d o operand.Temporary operand.Temporary))
      (c.store_local node (Some q) k keep.Stored)
      (n_single node (λ d. step.Binary d o operand.Temporary operand.Temporary) (λ d. HasShape.binary d o typed))
      (n_store_local node (Some q) k keep.Stored h)))
  n_local node (Some q) k o v true typed h hv =
      n_then (c.put node (c.scalar_of q k)) _ (n_put node (c.scalar_of q k) h)
      (n_then (above 1 v) _ (n_above 1 v hv)
      (n_then (single node (λ d. step.Beside d o)) (c.store_local node (Some q) k keep.Before)
      (n_single node (λ d. step.Beside d o) (λ d. HasShape.beside d o typed))
      (n_store_local node (Some q) k keep.Before h)))

  n_update : (node : ℕ) (s : Spot) (k : Kind) (o : Operation) (v : Code) (old marked : Bool) → IsTypedOperation o
      → ShapedSpot s → ShapedCode v → ShapedCode (c.update_code node s k o v old marked)
  n_update node s k o v false true typed hs hv =
      n_then s.code _ hs.code_shaped (n_then (single node (λ d. step.Peek d k)) _
      (n_single node (λ d. step.Peek d k) (λ d. HasShape.peek d k))
      (n_then (above 2 v) _ (n_above 2 v hv)
      (n_then (single node (λ d. step.Binary (d + 1) o operand.Temporary operand.Temporary))
      (single node (c.store_step k keep.Stored))
      (n_single node (λ d. step.Binary (d + 1) o operand.Temporary operand.Temporary)
      (λ d. HasShape.binary (d + 1) o typed)) (n_store node k keep.Stored))))
  n_update node s k o v true true typed hs hv =
      n_then s.code _ hs.code_shaped (n_then (single node (λ d. step.Peek d k)) _
      (n_single node (λ d. step.Peek d k) (λ d. HasShape.peek d k))
      (n_then (above 2 v) _ (n_above 2 v hv)
      (n_then (single node (λ d. step.Beside (d + 1) o)) (single node (c.store_step k keep.Before))
      (n_single node (λ d. step.Beside (d + 1) o) (λ d. HasShape.beside (d + 1) o typed)) (n_store node k keep.Before))))
  n_update node s k o v false false typed hs hv = n_local node s.part k o v false typed hs.part_there hv
  n_update node s k o v true false typed hs hv = n_local node s.part k o v true typed hs.part_there hv

  constant_there : (pointer : Bool) (v : ℤ) → HasOperand ir fn (c.constant pointer v)
  constant_there true v = tt
  constant_there false v = tt

-- ---- the equations of the fold

module _ (S : List Struct) where
  code-Constant : (v : ℤ) → c.expr_kind S (k.Constant v) ≡ c.expr_layer S (ExprKind-F.Constant v)
  code-Constant v = search (rules, the_lemmas)

  code-Read : (p : Place) → c.expr_kind S (k.Read p) ≡ c.expr_layer S (ExprKind-F.Read (spotted S p))
  code-Read p = search (rules, the_lemmas)

  code-Convert : (e : Expr) → c.expr_kind S (k.Convert e) ≡ c.expr_layer S (ExprKind-F.Convert (coded S e))
  code-Convert e = search (rules, the_lemmas)

  code-Unary : (o : UnaryOp) (e : Expr) → c.expr_kind S (k.Unary o e) ≡ c.expr_layer S (ExprKind-F.Unary o (coded S e))
  code-Unary o e = search (rules, the_lemmas)

  code-Binary : (o : BinaryOp) (t : IntType) (x y : Expr) → c.expr_kind S (k.Binary o t x y)
      ≡ c.expr_layer S (ExprKind-F.Binary o t (coded S x) (coded S y))
  code-Binary o t x y = search (rules, the_lemmas)

  code-PointerPlus : (minus : Bool) (x y : Expr) → c.expr_kind S (k.PointerPlus minus x y)
      ≡ c.expr_layer S (ExprKind-F.PointerPlus minus (coded S x) (coded S y))
  code-PointerPlus minus x y = search (rules, the_lemmas)

  code-Difference : (x y : Expr) → c.expr_kind S (k.Difference x y)
      ≡ c.expr_layer S (ExprKind-F.Difference (coded S x) (coded S y))
  code-Difference x y = search (rules, the_lemmas)

  code-ComparePointers : (o : BinaryOp) (x y : Expr) → c.expr_kind S (k.ComparePointers o x y)
      ≡ c.expr_layer S (ExprKind-F.ComparePointers o (coded S x) (coded S y))
  code-ComparePointers o x y = search (rules, the_lemmas)

  code-And : (x y : Expr) → c.expr_kind S (k.And x y) ≡ c.expr_layer S (ExprKind-F.And (coded S x) (coded S y))
  code-And x y = search (rules, the_lemmas)

  code-Or : (x y : Expr) → c.expr_kind S (k.Or x y) ≡ c.expr_layer S (ExprKind-F.Or (coded S x) (coded S y))
  code-Or x y = search (rules, the_lemmas)

  code-Conditional : (x y z : Expr) → c.expr_kind S (k.Conditional x y z)
      ≡ c.expr_layer S (ExprKind-F.Conditional (coded S x) (coded S y) (coded S z))
  code-Conditional x y z = search (rules, the_lemmas)

  code-Assign : (p : Place) (v : Expr) (marked : Bool) → c.expr_kind S (k.Assign p v marked)
      ≡ c.expr_layer S (ExprKind-F.Assign (spotted S p) (coded S v) marked)
  code-Assign p v marked = search (rules, the_lemmas)

  code-Update : (o : BinaryOp) (t : Option IntType) (p : Place) (v : Expr) (old marked : Bool)
      → c.expr_kind S (k.Update o t p v old marked)
      ≡ c.expr_layer S (ExprKind-F.Update o t (spotted S p) (coded S v) old marked)
  code-Update o t p v old marked = search (rules, the_lemmas)

  code-Address : (p : Place) → c.expr_kind S (k.Address p) ≡ c.expr_layer S (ExprKind-F.Address (spotted S p))
  code-Address p = search (rules, the_lemmas)

  code-Call : (n : ℕ) (args : List Expr) → c.expr_kind S (k.Call n args)
      ≡ c.expr_layer S (ExprKind-F.Call n (map (coded S) args))
  code-Call n args = search (rules, the_lemmas)

  code-Sense : (channel : ℕ) → c.expr_kind S (k.Sense channel) ≡ c.expr_layer S (ExprKind-F.Sense channel)
  code-Sense channel = search (rules, the_lemmas)

  code-Emit : (e : Expr) → c.expr_kind S (k.Emit e) ≡ c.expr_layer S (ExprKind-F.Emit (coded S e))
  code-Emit e = search (rules, the_lemmas)

  code-Checkpoint : c.expr_kind S k.Checkpoint ≡ c.expr_layer S ExprKind-F.Checkpoint
  code-Checkpoint = search (rules, the_lemmas)

  code-Comma : (x y : Expr) → c.expr_kind S (k.Comma x y) ≡ c.expr_layer S (ExprKind-F.Comma (coded S x) (coded S y))
  code-Comma x y = search (rules, the_lemmas)

  spot-Local : (n : ℕ) → c.place_kind S (pk.Local n) ≡ c.place_layer S (PlaceKind-F.Local n)
  spot-Local n = search (rules, the_lemmas)

  spot-Global : (n : ℕ) → c.place_kind S (pk.Global n) ≡ c.place_layer S (PlaceKind-F.Global n)
  spot-Global n = search (rules, the_lemmas)

  spot-Deref : (e : Expr) → c.place_kind S (pk.Deref e) ≡ c.place_layer S (PlaceKind-F.Deref (coded S e))
  spot-Deref e = search (rules, the_lemmas)

  spot-Member : (p : Place) (tag n : ℕ) → c.place_kind S (pk.Member p tag n)
      ≡ c.place_layer S (PlaceKind-F.Member (spotted S p) tag n)
  spot-Member p tag n = search (rules, the_lemmas)

  spot-Element : (p : Place) (i : Expr) → c.place_kind S (pk.Element p i)
      ≡ c.place_layer S (PlaceKind-F.Element (spotted S p) (coded S i))
  spot-Element p i = search (rules, the_lemmas)

  spot-At : (x y : Expr) → c.place_kind S (pk.At x y) ≡ c.place_layer S (PlaceKind-F.At (coded S x) (coded S y))
  spot-At x y = search (rules, the_lemmas)

-- ---- by the rules of types

-- what a function's expressions see is there in its form
pub record HasScope (ir : Ir) (fn : IrFunction) (s : Scope) : Type 0 where
  pub objects : (n : ℕ) (t : Ty) → slice_get s.objects n ≡ Some t → n < length fn.locals
  pub globals : (n : ℕ) (g : Global) → slice_get s.core.globals n ≡ Some g → n < length ir.globals
  pub functions : (n : ℕ) (f : Function) → slice_get s.core.functions n ≡ Some f
      → (called : IrFunction) × (slice_get ir.functions n ≡ Some called) × (called.params ≡ length f.params)

module _ (ir : Ir) (fn : IrFunction) (s : Scope) (there : HasScope ir fn s) (S : List Struct) where
  abbrev Shaped : Code → Type 0
  Shaped code = ShapedCode ir fn code

  by_code : {f g : Ty → ℕ → Code} → f ≡ g → ((ty : Ty) (node : ℕ) → Shaped (g ty node)) → (ty : Ty) (node : ℕ)
      → Shaped (f ty node)
  by_code e h = λ ty node. subst (λ (z : Ty → ℕ → Code). Shaped (z ty node)) (sym e) (h ty node)

  by_spot : {f g : Ty → ℕ → Spot} → f ≡ g → ((ty : Ty) (node : ℕ) → ShapedSpot ir fn (g ty node)) → (ty : Ty) (node : ℕ)
      → ShapedSpot ir fn (f ty node)
  by_spot e h = λ ty node. subst (λ (z : Ty → ℕ → Spot). ShapedSpot ir fn (z ty node)) (sym e) (h ty node)

  combined : (node : ℕ) (o : Operation) (x y : Expr) → IsTypedOperation o → Shaped (c.expr S x) → Shaped (c.expr S y)
      → Shaped (c.combined node o (c.expr S x) (c.expr S y))
  combined node o x y typed hx hy = n_combined ir fn node o (c.expr S x) (c.expr S y) typed hx hy

  as_many : (es : List Expr) (ts : List Ty) → AreExprs s es ts → length ts ≡ length (map (coded S) es)
  as_many _ _ AreExprs.no_exprs = refl
  as_many _ _ (AreExprs.one_more e t es ts i is) = ap suc (as_many es ts is)

  call_shaped : (m : ℕ) (f : Function) (args : List Expr) (node : ℕ) → slice_get s.core.functions m ≡ Some f
      → length f.params ≡ length (map (coded S) args) → Shaped (c.args_code (map (coded S) args))
      → Shaped (c.call_code node m (length (map (coded S) args)) (c.args_code (map (coded S) args)))
  call_shaped m f args node at_m many h =
      let called = there.functions m f at_m in
      let n = length (map (coded S) args) in
      n_then ir fn (c.args_code (map (coded S) args)) _ h
      (n_then ir fn (single node (λ d. step.Call d m n)) (single node (λ d. step.Result d true))
      (n_single ir fn node (λ d. step.Call d m n) (λ d. HasShape.called d m n called.0 called.1 (called.2 ∙ many)))
      (n_single ir fn node (λ d. step.Result d true) (λ d. HasShape.result d true)))

  mutual
    kind_shaped : (kind : ExprKind) (t : Ty) → HasType s kind t → (ty : Ty) (node : ℕ) → Shaped (c.expr_kind S kind ty node)
    kind_shaped _ _ (HasType.integer_constant v t within) =
        by_code (code-Constant S v) (λ ty node. n_put ir fn node _ (constant_there ir fn (is_pointer ty) v))
    kind_shaped _ _ (HasType.null_constant to r) =
        by_code (code-Constant S (pos 0)) (λ ty node. n_put ir fn node _ (constant_there ir fn (is_pointer ty) (pos 0)))
    kind_shaped _ _ (HasType.read p t i scalar) =
        by_code (code-Read S p) (λ ty node. n_step ir fn (c.place S p).code node (λ d. step.Load d (kind_of ty))
        (λ d. HasShape.load d (kind_of ty))
        (place_shaped p t i).code_shaped)
    kind_shaped _ _ (HasType.decayed p of count r i const un) =
        by_code (code-Address S p) (λ ty node. n_step ir fn (c.place S p).code node step.PointTo HasShape.point
        (place_shaped p _ i).code_shaped)
    kind_shaped _ _ (HasType.address p t r i a const un) =
        by_code (code-Address S p) (λ ty node. n_step ir fn (c.place S p).code node step.PointTo HasShape.point
        (place_shaped p t i).code_shaped)
    kind_shaped _ _ (HasType.integer_converted e from to i) =
        by_code (code-Convert S e) (λ ty node. n_step ir fn (c.expr S e) node
        (λ d. step.Convert d (int_type_of ty) operand.Temporary) (λ d. HasShape.convert d (int_type_of ty))
        (expr_shaped e _ i))
    kind_shaped _ _ (HasType.pointer_converted e to i) =
        by_code (code-Convert S e) (λ ty node. n_step ir fn (c.expr S e) node
        (λ d. step.Convert d (int_type_of ty) operand.Temporary) (λ d. HasShape.convert d (int_type_of ty))
        (expr_shaped e _ i))
    kind_shaped _ _ (HasType.signed o e t other computed i) =
        by_code (code-Unary S o e) (λ ty node. n_step ir fn (c.expr S e) node
        (λ d. step.Unary d o (int_type_of e.ty) operand.Temporary)
        (λ d. HasShape.unary d o (int_type_of e.ty) (own_typed s o e t computed i)) (expr_shaped e _ i))
    kind_shaped _ _ (HasType.negated e t i scalar) =
        by_code (code-Unary S un.Not e) (λ ty node. n_step ir fn (c.expr S e) node
        (λ d. step.Unary d un.Not (int_type_of e.ty) operand.Temporary)
        (λ d. HasShape.unary d un.Not (int_type_of e.ty) tt) (expr_shaped e t i))
    kind_shaped _ _ (HasType.binary o t x y other computed i j) =
        by_code (code-Binary S o t x y) (λ ty node. combined node (operation.Integers o t (int_type_of y.ty)) x y
        (wide t computed) (expr_shaped x _ i) (expr_shaped y _ j))
    kind_shaped _ _ (HasType.shift o t by x y other computed also i j) =
        by_code (code-Binary S o t x y) (λ ty node. combined node (operation.Integers o t (int_type_of y.ty)) x y
        (wide t computed) (expr_shaped x _ i) (expr_shaped y _ j))
    kind_shaped _ _ (HasType.pointer_plus minus x y to r by whole i j) =
        by_code (code-PointerPlus S minus x y) (λ ty node. combined node (c.pointer_plus S minus ty x.ty y.ty) x y tt
        (expr_shaped x _ i) (expr_shaped y _ j))
    kind_shaped _ _ (HasType.plus_pointer x y to r by whole i j) =
        by_code (code-PointerPlus S false x y) (λ ty node. combined node (c.pointer_plus S false ty x.ty y.ty) x y tt
        (expr_shaped x _ i) (expr_shaped y _ j))
    kind_shaped _ _ (HasType.difference x y to r q whole i j) =
        by_code (code-Difference S x y) (λ ty node. combined node (operation.Difference (stride S (target_of x.ty))) x y tt
        (expr_shaped x _ i) (expr_shaped y _ j))
    kind_shaped _ _ (HasType.compared o x y to r q may const i j) =
        by_code (code-ComparePointers S o x y) (λ ty node. combined node (operation.ComparePointers o) x y tt
        (expr_shaped x _ i) (expr_shaped y _ j))
    kind_shaped _ _ (HasType.both x y t u i j p q) =
        by_code (code-And S x y) (λ ty node. n_choice ir fn node _ (c.expr S x) _ _ (expr_shaped x t i)
        (n_step ir fn (c.expr S y) node (λ d. step.Truth d (int_type_of y.ty) operand.Temporary)
        (λ d. HasShape.truth d (int_type_of y.ty)) (expr_shaped y u j))
        (n_put ir fn node (operand.Constant (pos 0)) tt))
    kind_shaped _ _ (HasType.either x y t u i j p q) =
        by_code (code-Or S x y) (λ ty node. n_choice ir fn node _ (c.expr S x) _ _ (expr_shaped x t i)
        (n_put ir fn node (operand.Constant (pos 1)) tt)
        (n_step ir fn (c.expr S y) node (λ d. step.Truth d (int_type_of y.ty) operand.Temporary)
        (λ d. HasShape.truth d (int_type_of y.ty)) (expr_shaped y u j)))
    kind_shaped _ _ (HasType.integer_branches test x y u t i p computed j l) =
        by_code (code-Conditional S test x y) (λ ty node. n_choice ir fn node _ (c.expr S test) (c.expr S x) (c.expr S y)
        (expr_shaped test u i) (expr_shaped x _ j) (expr_shaped y _ l))
    kind_shaped _ _ (HasType.pointer_branches test x y u to r i p j l) =
        by_code (code-Conditional S test x y) (λ ty node. n_choice ir fn node _ (c.expr S test) (c.expr S x) (c.expr S y)
        (expr_shaped test u i) (expr_shaped x _ j) (expr_shaped y _ l))
    kind_shaped _ _ (HasType.assigned p x t marked st i) =
        by_code (code-Assign S p x marked) (λ ty node. n_assign ir fn node (c.place S p) (kind_of ty) marked (c.expr S x)
        (stored_shaped p t marked st) (expr_shaped x t i))
    kind_shaped _ _ (HasType.updated o t own p x old marked a b d st i) =
        by_code (code-Update S o (Some t) p x old marked) (λ ty node. n_update ir fn node (c.place S p) (kind_of ty)
        (operation.Integers o t (int_type_of x.ty)) (c.expr S x) old marked (wide_with own t d) (stored_shaped p _ marked st)
        (expr_shaped x _ i))
    kind_shaped _ _ (HasType.shifted o own by p x old marked a b st i) =
        by_code (code-Update S o _ p x old marked) (λ ty node. n_update ir fn node (c.place S p) (kind_of ty)
        (operation.Integers o (promoted own) (int_type_of x.ty)) (c.expr S x) old marked (wide_promoted own)
        (stored_shaped p _ marked st) (expr_shaped x _ i))
    kind_shaped _ _ (HasType.moved o to r by p x old marked a b st i) =
        by_code (code-Update S o None p x old marked) (λ ty node. n_update ir fn node (c.place S p) (kind_of ty)
        (c.update_operation o None (int_type_of x.ty) (stride S (target_of ty))) (c.expr S x) old marked tt
        (stored_shaped p _ marked st) (expr_shaped x _ i))
    kind_shaped _ _ (HasType.called m f args at_m are may) =
        by_code (code-Call S m args) (λ ty node. call_shaped m f args node at_m (as_many args f.params are)
        (exprs_shaped args f.params are))
    kind_shaped _ _ (HasType.sensed channel below) =
        by_code (code-Sense S channel) (λ ty node. n_single ir fn node (λ d. step.Sense d channel)
        (λ d. HasShape.sensed d channel below))
    kind_shaped _ _ (HasType.emitted e i) =
        by_code (code-Emit S e) (λ ty node. n_step ir fn (c.expr S e) node (λ d. step.Emit d operand.Temporary) HasShape.emitted
        (expr_shaped e _ i))
    kind_shaped _ _ HasType.checkpoint =
        by_code (code-Checkpoint S) (λ ty node. n_single ir fn node step.Checkpoint HasShape.checkpoint)
    kind_shaped _ _ (HasType.sequence x y t u i j p) =
        by_code (code-Comma S x y) (λ ty node. n_then ir fn (c.expr S x) _ (expr_shaped x t i)
        (n_then ir fn (single node step.Drop) (c.expr S y) (n_single ir fn node step.Drop HasShape.drop) (expr_shaped y u j)))

    pub expr_shaped : (e : Expr) (t : Ty) → IsExpr s e t → Shaped (c.expr S e)
    expr_shaped _ _ (IsExpr.is_expr e t at_t has) = kind_shaped e.kind t has e.ty e.node

    place_kind_shaped : (kind : PlaceKind) (t : Ty) → HasPlaceType s kind t → (ty : Ty) (node : ℕ)
        → ShapedSpot ir fn (c.place_kind S kind ty node)
    place_kind_shaped _ _ (HasPlaceType.local m t at_m) =
        by_spot (spot-Local S m) (λ ty node. record {
          code_shaped = n_single ir fn node (λ d. step.Address d (base.Local m) 0)
              (λ d. HasShape.address d (base.Local m) 0 (there.objects m t at_m));
          part_there = there.objects m t at_m;
        })
    place_kind_shaped _ _ (HasPlaceType.global m g at_m) =
        by_spot (spot-Global S m) (λ ty node. elsewhere_shaped ir fn _
        (n_single ir fn node (λ d. step.Address d (base.Global m) 0)
        (λ d. HasShape.address d (base.Global m) 0 (there.globals m g at_m))))
    place_kind_shaped _ _ (HasPlaceType.pointed e to r i) =
        by_spot (spot-Deref S e) (λ ty node. elsewhere_shaped ir fn _
        (n_step ir fn (c.expr S e) node (λ d. step.Follow d operand.Temporary) HasShape.follow (expr_shaped e _ i)))
    place_kind_shaped _ _ (HasPlaceType.member p tag m mem i at_m) =
        let w = place_shaped p _ i in
        by_spot (spot-Member S p tag m) (λ ty node. record {
          code_shaped = n_step ir fn (c.place S p).code node (λ d. step.Member d (member_stride S tag m))
              (λ d. HasShape.member d (member_stride S tag m)) w.code_shaped;
          part_there = has_part ir fn (c.place S p).part _ w.part_there;
        })
    place_kind_shaped _ _ (HasPlaceType.element p e of count t i j) =
        by_spot (spot-Element S p e) (λ ty node. elsewhere_shaped ir fn _
        (n_both ir fn (c.place S p).code (c.expr S e) node
        (λ d. step.Element d (stride S ty) (int_type_of e.ty) operand.Temporary)
        (λ d. HasShape.element d (stride S ty) (int_type_of e.ty)) (place_shaped p _ i).code_shaped (expr_shaped e _ j)))
    place_kind_shaped _ _ (HasPlaceType.pointer_at x y to r t whole i j) =
        by_spot (spot-At S x y) (λ ty node. elsewhere_shaped ir fn _
        (n_both ir fn (c.expr S x) (c.expr S y) node
        (λ d. step.Sum d (stride S ty) (int_type_of x.ty) (int_type_of y.ty) (c.swapped x.ty) operand.Temporary
        operand.Temporary)
        (λ d. HasShape.sum d (stride S ty) (int_type_of x.ty) (int_type_of y.ty) (c.swapped x.ty)) (expr_shaped x _ i)
        (expr_shaped y _ j)))
    place_kind_shaped _ _ (HasPlaceType.at_pointer x y to r t whole i j) =
        by_spot (spot-At S x y) (λ ty node. elsewhere_shaped ir fn _
        (n_both ir fn (c.expr S x) (c.expr S y) node
        (λ d. step.Sum d (stride S ty) (int_type_of x.ty) (int_type_of y.ty) (c.swapped x.ty) operand.Temporary
        operand.Temporary)
        (λ d. HasShape.sum d (stride S ty) (int_type_of x.ty) (int_type_of y.ty) (c.swapped x.ty)) (expr_shaped x _ i)
        (expr_shaped y _ j)))

    place_shaped : (p : Place) (t : Ty) → IsPlace s p t → ShapedSpot ir fn (c.place S p)
    place_shaped _ _ (IsPlace.is_place p t at_t has) = place_kind_shaped p.kind t has p.ty p.node

    stored_shaped : (p : Place) (t : Ty) (marked : Bool) → IsStored s p t marked → ShapedSpot ir fn (c.place S p)
    stored_shaped _ _ _ (IsStored.stored p t marked i scalar free un is) = place_shaped p t i

    exprs_shaped : (es : List Expr) (ts : List Ty) → AreExprs s es ts → Shaped (c.args_code (map (coded S) es))
    exprs_shaped _ _ AreExprs.no_exprs = n_none ir fn
    exprs_shaped _ _ (AreExprs.one_more e t es ts i is) =
        n_then ir fn (c.expr S e) (above 1 (c.args_code (map (coded S) es))) (expr_shaped e t i)
        (n_above ir fn 1 (c.args_code (map (coded S) es)) (exprs_shaped es ts is))
