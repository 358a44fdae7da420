-- Jumps in the steps of a tree go ahead, or back to a turn.
use Rattle.std.proofs.Common.{◌≡◌, ℕ, zero, suc, ◌+◌, ◌≤◌, inl, inr, List, [], ◌∷◌, ◌++◌, length, map, Option, Some, None, Bool, true, false, refl, sym, ap, ◌∙◌, subst, arith, cond, length-append}
use Rattle.std.specs.Prelude.{slice_get, ℤ, pos}
use Rattle.base16.specs.declared.image.Kind.{Kind}
use Rattle.base16.specs.declared.integer.IntType.{IntType}
use Rattle.core_tree.specs.declared.types.Slot.{Slot}
use Rattle.core_tree.specs.declared.types.Struct.{Struct}
use Rattle.core_tree.specs.declared.statements.Init.{Init}
use Rattle.c_meaning.specs.Statements.{has_default}
use Rattle.ir.specs.declared.form.Operand.{Operand}
use Rattle.ir.specs.declared.form.Operand.TheVariants as operand
use Rattle.ir.specs.declared.form.Operation.{Operation}
use Rattle.ir.specs.declared.form.Keep.{Keep}
use Rattle.ir.specs.declared.form.Keep.TheVariants as keep
use Rattle.core_tree.specs.Layout.{kind_of, is_pointer}
use Rattle.core_tree.specs.declared.types.Ty.{Ty}
use Rattle.core_tree.specs.declared.expressions.ExprKind.{ExprKind, ind-ExprKind, roll-ExprKind, map-ExprKind}
use Rattle.core_tree.specs.declared.expressions.ExprKind.TheOpen.{ExprKind-F, PlaceKind-F}
use Rattle.core_tree.specs.declared.expressions.PlaceKind.{PlaceKind, roll-PlaceKind, map-PlaceKind}
use Rattle.core_tree.specs.declared.expressions.Expr.{Expr}
use Rattle.core_tree.specs.declared.expressions.Place.{Place}
use Rattle.core_tree.specs.declared.statements.Group.{Group, Group-F, roll-Group, map-Group}
use Rattle.core_tree.specs.declared.statements.Stmt.{Stmt}
use Rattle.core_tree.specs.declared.statements.StmtKind.{StmtKind, ind-StmtKind, roll-StmtKind, map-StmtKind}
use Rattle.core_tree.specs.declared.statements.StmtKind.TheOpen.{StmtKind-F}
use Rattle.ir.specs.declared.form.IrFunction.{IrFunction}
use Rattle.ir.specs.declared.form.Step.{Step}
use Rattle.ir.specs.declared.form.StepKind.{StepKind}
use Rattle.ir.specs.declared.form.StepKind.TheVariants as step
use Rattle.ir.specs.Jumps.{JumpsAhead}
use Rattle.ir.proofs.Leading.{Stands, stands_front, stands_back}
use Rattle.ir_gen.specs.Code as c
use Rattle.ir_gen.specs.Code.{Code, Coded, Spotted, Spot, Part as LocalPart, at_node, single, then_code, above, choice}
use Rattle.ir_gen.specs.Body as b
use Rattle.ir_gen.specs.Body.{Body, Guard, Part, Grouped}
use Rattle.ir_gen.proofs.Tree as tree
use Rattle.ir_gen.proofs.StmtTree as stmts
use Rattle.ir_gen.proofs.Switch.{label_steps, case_steps}

abbrev pub Onward : IrFunction → ℕ → List Step → Type 0
Onward fn p [] = Unit {0}
Onward fn p (s ∷ ss) = JumpsAhead fn p s.kind × Onward fn (p + 1) ss

onward_append : (fn : IrFunction) (p q : ℕ) (xs ys : List Step) → p + length xs ≡ q → Onward fn p xs → Onward fn q ys
    → Onward fn p (xs ++ ys)
onward_append fn p q [] ys e h g = let e2 : q ≡ p = omega (arith, e) in subst (λ n. Onward fn n ys) e2 g
onward_append fn p q (x ∷ xs) ys e h g = (h.0, onward_append fn (p + 1) q xs ys (omega (arith, e)) h.1 g)

onward_at : (fn : IrFunction) (p i q : ℕ) (xs : List Step) (s : Step) → p + i ≡ q → Onward fn p xs → slice_get xs i ≡ Some s
    → JumpsAhead fn q s.kind
onward_at fn p i q [] s e h g = absurd (grind (arith, g))
onward_at fn p zero q (x ∷ xs) s e h g =
    let e2 : p ≡ q = omega (arith, e) in
    subst (λ n. JumpsAhead fn n s.kind) e2 (subst (λ z. JumpsAhead fn p z.kind) (ap (step_of s) g) h.0)
  where
    step_of : Step → Option Step → Step
    step_of d None = d
    step_of d (Some y) = y
onward_at fn p (suc i) q (x ∷ xs) s e h g = onward_at fn (p + 1) i q xs s (omega (arith, e)) h.1 g

-- ---- expressions

record Orderly (code : Code) : Type 0 where
  even : (p d : ℕ) → length (code.steps p d) ≡ code.size
  onward : (fn : IrFunction) (p d : ℕ) → Onward fn p (code.steps p d)

o_none : Orderly c.no_code
o_none = record { even = λ p d. refl; onward = λ fn p d. tt }

o_single : (node : ℕ) (k : ℕ → StepKind) → ((fn : IrFunction) (p d : ℕ) → JumpsAhead fn p (k d)) → Orderly (single node k)
o_single node k h = record { even = λ p d. refl; onward = λ fn p d. (h fn p d, tt) }

o_then : (x y : Code) → Orderly x → Orderly y → Orderly (then_code x y)
o_then x y hx hy = record {
  even = λ p d. length-append (x.steps p d) (y.steps (p + x.size) d) ∙ omega (arith, hx.even p d, hy.even (p + x.size) d);
  onward = λ fn p d. onward_append fn p (p + x.size) (x.steps p d) (y.steps (p + x.size) d) (ap (λ n. p + n) (hx.even p d))
      (hx.onward fn p d) (hy.onward fn (p + x.size) d);
}

o_above : (by : ℕ) (x : Code) → Orderly x → Orderly (above by x)
o_above by x h = record { even = λ p d. h.even p (d + by); onward = λ fn p d. h.onward fn p (d + by) }

o_choice : (node : ℕ) (t : IntType) (x y z : Code) → Orderly x → Orderly y → Orderly z → Orderly (choice node t x y z)
o_choice node t x y z hx hy hz = record {
  even = λ p d. omega (
    arith,
    hx.even p d,
    hy.even (p + x.size + 1) d,
    hz.even (p + x.size + 1 + y.size + 1) d,
    length-append (x.steps p d) (at_node node (c.unless t (p + x.size + 1 + y.size + 1) d)
        ∷ (y.steps (p + x.size + 1) d ++ (at_node node (step.Jump (p + x.size + 1 + y.size + 1 + z.size))
        ∷ z.steps (p + x.size + 1 + y.size + 1) d))),
    length-append (y.steps (p + x.size + 1) d) (at_node node (step.Jump (p + x.size + 1 + y.size + 1 + z.size))
        ∷ z.steps (p + x.size + 1 + y.size + 1) d),
  );
  onward = λ fn p d.
      onward_append fn p (p + x.size) (x.steps p d) _ (ap (λ n. p + n) (hx.even p d)) (hx.onward fn p d) (
        inl (omega arith),
        onward_append fn (p + x.size + 1) (p + x.size + 1 + y.size) (y.steps (p + x.size + 1) d) _
            (ap (λ n. p + x.size + 1 + n) (hy.even (p + x.size + 1) d)) (hy.onward fn (p + x.size + 1) d)
            (inl (omega arith), hz.onward fn (p + x.size + 1 + y.size + 1) d),
      );
}

o_put : (node : ℕ) (x : Operand) → Orderly (c.put node x)
o_put node x = o_single node _ (λ fn p d. tt)

-- a code, and a step that takes what it gives
o_step : (x : Code) (node : ℕ) (k : ℕ → StepKind) → ((fn : IrFunction) (p d : ℕ) → JumpsAhead fn p (k d)) → Orderly x
    → Orderly (c.then_step x node k)
o_step x node k h hx = o_then x (single node k) hx (o_single node k h)

o_both : (x y : Code) (node : ℕ) (k : ℕ → StepKind) → ((fn : IrFunction) (p d : ℕ) → JumpsAhead fn p (k d)) → Orderly x
    → Orderly y → Orderly (c.both_then x y node k)
o_both x y node k h hx hy = o_then x _ hx (o_step (above 1 y) node k h (o_above 1 y hy))

o_combined : (node : ℕ) (o : Operation) (x y : Code) → Orderly x → Orderly y → Orderly (c.combined node o x y)
o_combined node o x y hx hy = o_both x y node _ (λ fn p d. tt) hx hy

o_store_local : (node : ℕ) (q : Option LocalPart) (k : Kind) (keeps : Keep) → Orderly (c.store_local node q k keeps)
o_store_local node None k keeps = o_none
o_store_local node (Some q) k keeps = o_single node _ (λ fn p d. tt)

o_assign : (node : ℕ) (s : Spot) (k : Kind) (marked : Bool) (v : Code) → Orderly s.code → Orderly v
    → Orderly (c.assign_code node s k marked v)
o_assign node s k true v hs hv = o_both s.code v node (c.store_step k keep.Stored) (λ fn p d. tt) hs hv
o_assign node s k false v hs hv = o_then v _ hv (o_store_local node s.part k keep.Stored)

o_stored : (node : ℕ) (x : Code) (k : Kind) (o : Operation) (v : Code) → Orderly x → Orderly v
    → Orderly (c.update_stored node x k o v)
o_stored node x k o v hx hv =
    o_then x _ hx (o_then (single node (λ d. step.Peek d k)) _ (o_single node _ (λ fn p d. tt))
    (o_then (above 2 v) _ (o_above 2 v hv)
    (o_then (single node (λ d. step.Binary (d + 1) o operand.Temporary operand.Temporary))
    (single node (c.store_step k keep.Stored)) (o_single node _ (λ fn p d. tt)) (o_single node _ (λ fn p d. tt)))))

o_before : (node : ℕ) (x : Code) (k : Kind) (o : Operation) (v : Code) → Orderly x → Orderly v
    → Orderly (c.update_before node x k o v)
o_before node x k o v hx hv =
    o_then x _ hx (o_then (single node (λ d. step.Peek d k)) _ (o_single node _ (λ fn p d. tt))
    (o_then (above 2 v) _ (o_above 2 v hv)
    (o_then (single node (λ d. step.Beside (d + 1) o))
    (single node (c.store_step k keep.Before)) (o_single node _ (λ fn p d. tt)) (o_single node _ (λ fn p d. tt)))))

o_local : (node : ℕ) (q : Option LocalPart) (k : Kind) (o : Operation) (v : Code) (old : Bool) → Orderly v
    → Orderly (c.update_local node q k o v old)
o_local node None k o v old hv = o_none
o_local node (Some q) k o v false hv =
    o_then (c.put node (c.scalar_of q k)) _ (o_put node (c.scalar_of q k)) (o_then (above 1 v) _ (o_above 1 v hv)
    (o_then (single node (λ d. step.Binary d o operand.Temporary operand.Temporary)) (c.store_local node (Some q) k keep.Stored)
    (o_single node _ (λ fn p d. tt)) (o_store_local node (Some q) k keep.Stored)))
o_local node (Some q) k o v true hv =
    o_then (c.put node (c.scalar_of q k)) _ (o_put node (c.scalar_of q k)) (o_then (above 1 v) _ (o_above 1 v hv)
    (o_then (single node (λ d. step.Beside d o)) (c.store_local node (Some q) k keep.Before)
    (o_single node _ (λ fn p d. tt)) (o_store_local node (Some q) k keep.Before)))

o_update : (node : ℕ) (s : Spot) (k : Kind) (o : Operation) (v : Code) (old marked : Bool) → Orderly s.code → Orderly v
    → Orderly (c.update_code node s k o v old marked)
o_update node s k o v false true hs hv = o_stored node s.code k o v hs hv
o_update node s k o v true true hs hv = o_before node s.code k o v hs hv
o_update node s k o v false false hs hv = o_local node s.part k o v false hv
o_update node s k o v true false hs hv = o_local node s.part k o v true hv

module _ (structs : List Struct) where
  abbrev ExprClaim : ExprKind → Type 0
  ExprClaim k = (ty : Ty) (node : ℕ) → Orderly (c.expr_kind structs k ty node)

  abbrev PlaceClaim : PlaceKind → Type 0
  PlaceClaim k = (ty : Ty) (node : ℕ) → Orderly (c.place_kind structs k ty node).code

  module _ {A B C D : Type 0} (fa : A → ExprKind) (fb : B → PlaceKind) (fc : C → Expr) (fd : D → Place)
      (hc : (x : C) → ExprClaim (fc x).kind) (hd : (x : D) → PlaceClaim (fd x).kind) where
    abbrev opened : ExprKind-F A B C D → ExprKind-F ExprKind PlaceKind Expr Place
    opened y = map-ExprKind A B C D ExprKind PlaceKind Expr Place fa fb fc fd y

    abbrev coded_layer : ExprKind-F A B C D → Ty → ℕ → Code
    coded_layer y = c.expr_layer structs (map-ExprKind ExprKind PlaceKind Expr Place c.Layer c.PlaceLayer Coded Spotted
        (c.expr_kind structs) (c.place_kind structs) (tree.coded structs) (tree.spotted structs) (opened y))

    abbrev opened_place : PlaceKind-F A B C D → PlaceKind-F ExprKind PlaceKind Expr Place
    opened_place y = map-PlaceKind A B C D ExprKind PlaceKind Expr Place fa fb fc fd y

    abbrev coded_place_layer : PlaceKind-F A B C D → Ty → ℕ → Spot
    coded_place_layer y = c.place_layer structs (map-PlaceKind ExprKind PlaceKind Expr Place c.Layer c.PlaceLayer Coded Spotted
        (c.expr_kind structs) (c.place_kind structs) (tree.coded structs) (tree.spotted structs) (opened_place y))

    one : (x : C) → Orderly (c.expr structs (fc x))
    one x = hc x (fc x).ty (fc x).node

    at_place : (x : D) → Orderly (c.place structs (fd x)).code
    at_place x = hd x (fd x).ty (fd x).node

    args : (xs : List C) → Orderly (c.args_code (map (tree.coded structs) (map fc xs)))
    args [] = o_none
    args (x ∷ xs) = o_then (c.expr structs (fc x)) _ (one x)
        (o_above 1 (c.args_code (map (tree.coded structs) (map fc xs))) (args xs))

    layer : (y : ExprKind-F A B C D) (ty : Ty) (node : ℕ) → Orderly (coded_layer y ty node)
    layer (ExprKind-F.Constant v) ty node = o_put node (c.constant (is_pointer ty) v)
    layer (ExprKind-F.Read p) ty node = o_step (c.place structs (fd p)).code node _ (λ fn p d. tt) (at_place p)
    layer (ExprKind-F.Convert x) ty node = o_step (c.expr structs (fc x)) node _ (λ fn p d. tt) (one x)
    layer (ExprKind-F.Unary o x) ty node = o_step (c.expr structs (fc x)) node _ (λ fn p d. tt) (one x)
    layer (ExprKind-F.Binary o t x y) ty node = o_combined node _ (c.expr structs (fc x)) (c.expr structs (fc y)) (one x)
        (one y)
    layer (ExprKind-F.PointerPlus minus x y) ty node
        = o_combined node _ (c.expr structs (fc x)) (c.expr structs (fc y)) (one x) (one y)
    layer (ExprKind-F.Difference x y) ty node = o_combined node _ (c.expr structs (fc x)) (c.expr structs (fc y)) (one x)
        (one y)
    layer (ExprKind-F.ComparePointers o x y) ty node
        = o_combined node _ (c.expr structs (fc x)) (c.expr structs (fc y)) (one x) (one y)
    layer (ExprKind-F.And x y) ty node = o_choice node _ (c.expr structs (fc x)) _ _ (one x)
        (o_step (c.expr structs (fc y)) node _ (λ fn p d. tt) (one y)) (o_put node (operand.Constant (pos 0)))
    layer (ExprKind-F.Or x y) ty node = o_choice node _ (c.expr structs (fc x)) _ _ (one x)
        (o_put node (operand.Constant (pos 1))) (o_step (c.expr structs (fc y)) node _ (λ fn p d. tt) (one y))
    layer (ExprKind-F.Conditional x y z) ty node =
        o_choice node _ (c.expr structs (fc x)) (c.expr structs (fc y)) (c.expr structs (fc z)) (one x) (one y) (one z)
    layer (ExprKind-F.Assign p x marked) ty node =
        o_assign node (c.place structs (fd p)) (kind_of ty) marked (c.expr structs (fc x)) (at_place p) (one x)
    layer (ExprKind-F.Update o t p x old marked) ty node
        = o_update node (c.place structs (fd p)) (kind_of ty) _ (c.expr structs (fc x)) old marked (at_place p) (one x)
    layer (ExprKind-F.Address p) ty node = o_step (c.place structs (fd p)).code node step.PointTo (λ fn p d. tt) (at_place p)
    layer (ExprKind-F.Call g xs) ty node = o_then (c.args_code (map (tree.coded structs) (map fc xs))) _ (args xs)
        (o_then (single node (λ d. step.Call d g (length (map (tree.coded structs) (map fc xs))))) _
        (o_single node _ (λ fn p d. tt)) (o_single node _ (λ fn p d. tt)))
    layer (ExprKind-F.Sense channel) ty node = o_single node _ (λ fn p d. tt)
    layer (ExprKind-F.Emit x) ty node = o_step (c.expr structs (fc x)) node _ (λ fn p d. tt) (one x)
    layer ExprKind-F.Checkpoint ty node = o_single node _ (λ fn p d. tt)
    layer (ExprKind-F.Comma x y) ty node = o_then (c.expr structs (fc x)) _ (one x)
        (o_then (single node step.Drop) (c.expr structs (fc y)) (o_single node _ (λ fn p d. tt)) (one y))

    place_layer : (y : PlaceKind-F A B C D) (ty : Ty) (node : ℕ) → Orderly (coded_place_layer y ty node).code
    place_layer (PlaceKind-F.Local n) ty node = o_single node _ (λ fn p d. tt)
    place_layer (PlaceKind-F.Global n) ty node = o_single node _ (λ fn p d. tt)
    place_layer (PlaceKind-F.Deref x) ty node = o_step (c.expr structs (fc x)) node _ (λ fn p d. tt) (one x)
    place_layer (PlaceKind-F.Member p tag member) ty node
        = o_step (c.place structs (fd p)).code node _ (λ fn p d. tt) (at_place p)
    place_layer (PlaceKind-F.Element p x) ty node =
        o_both (c.place structs (fd p)).code (c.expr structs (fc x)) node _ (λ fn p d. tt) (at_place p) (one x)
    place_layer (PlaceKind-F.At x y) ty node = o_both (c.expr structs (fc x)) (c.expr structs (fc y)) node _ (λ fn p d. tt)
        (one x) (one y)

    expr_case : (y : ExprKind-F A B C D) → ExprClaim (roll-ExprKind (opened y))
    expr_case y = λ ty node. subst (λ (g : Ty → ℕ → Code). Orderly (g ty node)) (sym (tree.code_roll structs (opened y)))
        (layer y ty node)

    place_case : (y : PlaceKind-F A B C D) → PlaceClaim (roll-PlaceKind (opened_place y))
    place_case y = λ ty node. subst (λ (g : Ty → ℕ → Spot). Orderly (g ty node).code)
        (sym (tree.code_place_roll structs (opened_place y))) (place_layer y ty node)

  expr_orderly : (k : ExprKind) → ExprClaim k
  expr_orderly = ind-ExprKind ExprClaim PlaceClaim (λ e. ExprClaim e.kind) (λ p. PlaceClaim p.kind)
      (λ x y is. subst (λ z. ExprClaim (roll-ExprKind z)) is
      (expr_case (λ e. e.0) (λ e. e.0) (λ e. e.0) (λ e. e.0) (λ e. e.1) (λ e. e.1) y))
      (λ x y is. subst (λ z. PlaceClaim (roll-PlaceKind z)) is
      (place_case (λ e. e.0) (λ e. e.0) (λ e. e.0) (λ e. e.0) (λ e. e.1) (λ e. e.1) y))
      (λ x y is. subst (λ z. ExprClaim z.kind) is y.kind.1)
      (λ x y is. subst (λ z. PlaceClaim z.kind) is y.kind.1)

  o_expr : (e : Expr) → Orderly (c.expr structs e)
  o_expr e = expr_orderly e.kind e.ty e.node

-- ---- statements

record OrderlyBody (code : Body) : Type 0 where
  even : (p brk cont : ℕ) → length (code.steps p brk cont) ≡ code.size
  onward : (fn : IrFunction) (p brk cont : ℕ) → p + code.size ≤ brk → p + code.size ≤ cont
      → Stands fn.steps p (code.steps p brk cont) → Onward fn p (code.steps p brk cont)

record OrderlyGuard (code : Guard) : Type 0 where
  even : (p other : ℕ) → length (code.steps p other) ≡ code.size
  onward : (fn : IrFunction) (p other : ℕ) → p + code.size ≤ other → Onward fn p (code.steps p other)

record OrderlyPart (code : Part) : Type 0 where
  even : (p : ℕ) → length (code.steps p) ≡ code.size
  onward : (fn : IrFunction) (p : ℕ) → Onward fn p (code.steps p)

s_none : OrderlyBody b.no_body
s_none = record { even = λ p brk cont. refl; onward = λ fn p brk cont h g st. tt }

s_one : (node : ℕ) (k : ℕ → ℕ → ℕ → StepKind) → ((fn : IrFunction) (p brk cont : ℕ) → p + 1 ≤ brk → p + 1 ≤ cont
    → JumpsAhead fn p (k p brk cont)) → OrderlyBody (b.one_body node k)
s_one node k h = record { even = λ p brk cont. refl; onward = λ fn p brk cont x y st. (h fn p brk cont x y, tt) }

s_then : (x y : Body) → OrderlyBody x → OrderlyBody y → OrderlyBody (b.then_body x y)
s_then x y hx hy = record {
  even = λ p brk cont. length-append (x.steps p brk cont) (y.steps (p + x.size) brk cont)
      ∙ omega (arith, hx.even p brk cont, hy.even (p + x.size) brk cont);
  onward = λ fn p brk cont u v st.
      onward_append fn p (p + x.size) (x.steps p brk cont) (y.steps (p + x.size) brk cont)
      (ap (λ n. p + n) (hx.even p brk cont))
      (hx.onward fn p brk cont (omega (arith, u)) (omega (arith, v)) (stands_front fn.steps p (x.steps p brk cont) _ st))
      (hy.onward fn (p + x.size) brk cont (omega (arith, u)) (omega (arith, v))
      (stands_back fn.steps p (p + x.size) (x.steps p brk cont) _ (ap (λ n. p + n) (hx.even p brk cont)) st));
}

g_none : OrderlyGuard b.no_guard
g_none = record { even = λ p other. refl; onward = λ fn p other h. tt }

g_guard : (node : ℕ) (t : IntType) (x : Code) → Orderly x → OrderlyGuard (b.guard node t x)
g_guard node t x h = record {
  even = λ p other. length-append (x.steps p 0) (at_node node (c.unless t other 0) ∷ []) ∙ ap (λ n. n + 1) (h.even p 0);
  onward = λ fn p other u. onward_append fn p (p + x.size) (x.steps p 0) (at_node node (c.unless t other 0) ∷ [])
      (ap (λ n. p + n) (h.even p 0)) (h.onward fn p 0) (inl (omega (arith, u)), tt);
}

p_none : OrderlyPart b.no_part
p_none = record { even = λ p. refl; onward = λ fn p. tt }

p_taken : (node : ℕ) (k : StepKind) (x : Code) → ((fn : IrFunction) (p : ℕ) → JumpsAhead fn p k) → Orderly x
    → OrderlyPart (b.taken_by node k x)
p_taken node k x j h = record {
  even = λ p. length-append (x.steps p 0) (at_node node k ∷ []) ∙ ap (λ n. n + 1) (h.even p 0);
  onward = λ fn p. onward_append fn p (p + x.size) (x.steps p 0) (at_node node k ∷ []) (ap (λ n. p + n) (h.even p 0))
      (h.onward fn p 0) (j fn (p + x.size), tt);
}

p_one : (node : ℕ) (k : StepKind) → ((fn : IrFunction) (p : ℕ) → JumpsAhead fn p k) → OrderlyPart (b.one_part node k)
p_one node k j = record { even = λ p. refl; onward = λ fn p. (j fn p, tt) }

p_then : (x y : Part) → OrderlyPart x → OrderlyPart y → OrderlyPart (b.then_part x y)
p_then x y hx hy = record {
  even = λ p. omega (arith, length-append (x.steps p) (y.steps (p + x.size)), hx.even p, hy.even (p + x.size));
  onward = λ fn p. onward_append fn p (p + x.size) (x.steps p) (y.steps (p + x.size)) (ap (λ n. p + n) (hx.even p))
      (hx.onward fn p) (hy.onward fn (p + x.size));
}

p_dropped : (node : ℕ) (x : Code) → Orderly x → OrderlyPart (b.dropped node x)
p_dropped node x h = p_taken node (step.Drop 0) x (λ fn p. tt) h

s_if : (node : ℕ) (g : Guard) (x y : Body) → OrderlyGuard g → OrderlyBody x → OrderlyBody y → OrderlyBody (b.if_body node g x y)
s_if node g x y hg hx hy = record {
  even = λ p brk cont. omega (
    arith,
    length-append (g.steps p (p + g.size + x.size + 1))
        (x.steps (p + g.size) brk cont ++ (at_node node (step.Jump (p + g.size + x.size + 1 + y.size))
        ∷ y.steps (p + g.size + x.size + 1) brk cont)),
    length-append (x.steps (p + g.size) brk cont)
        (at_node node (step.Jump (p + g.size + x.size + 1 + y.size)) ∷ y.steps (p + g.size + x.size + 1) brk cont),
    hg.even p (p + g.size + x.size + 1),
    hx.even (p + g.size) brk cont,
    hy.even
        (p + g.size + x.size + 1) brk cont,
  );
  onward = λ fn p brk cont u v st.
      let st2 = stands_back fn.steps p (p + g.size) (g.steps p (p + g.size + x.size + 1)) _
      (ap (λ n. p + n) (hg.even p (p + g.size + x.size + 1))) st in
      let st3 = stands_back fn.steps (p + g.size) (p + g.size + x.size) (x.steps (p + g.size) brk cont) _
      (ap (λ n. p + g.size + n) (hx.even (p + g.size) brk cont)) st2 in
      onward_append fn p (p + g.size) (g.steps p (p + g.size + x.size + 1)) _
      (ap (λ n. p + n) (hg.even p (p + g.size + x.size + 1))) (hg.onward fn p (p + g.size + x.size + 1) (omega arith))
      (onward_append fn (p + g.size) (p + g.size + x.size) (x.steps (p + g.size) brk cont) _
      (ap (λ n. p + g.size + n) (hx.even (p + g.size) brk cont))
      (hx.onward fn (p + g.size) brk cont (omega (arith, u)) (omega (arith, v))
      (stands_front fn.steps (p + g.size) (x.steps (p + g.size) brk cont) _ st2))
      (inl (omega arith), hy.onward fn (p + g.size + x.size + 1) brk cont (omega (arith, u)) (omega (arith, v)) st3.1));
}

s_loop : (node : ℕ) (g : Guard) (x : Body) (z : Part) → OrderlyGuard g → OrderlyBody x → OrderlyPart z
    → OrderlyBody (b.loop_body node g x z)
s_loop node g x z hg hx hz = record {
  even = λ p brk cont. omega (
    arith,
    length-append (g.steps (p + 1) (p + 1 + g.size + x.size + z.size + 1))
        (x.steps (p + 1 + g.size) (p + 1 + g.size + x.size + z.size + 1) (p + 1 + g.size + x.size)
        ++ (z.steps (p + 1 + g.size + x.size) ++ at_node node (step.Jump p) ∷ [])),
    length-append (x.steps (p + 1 + g.size) (p + 1 + g.size + x.size + z.size + 1) (p + 1 + g.size + x.size))
        (z.steps (p + 1 + g.size + x.size) ++ at_node node (step.Jump p) ∷ []),
    length-append (z.steps (p + 1 + g.size + x.size)) (at_node node (step.Jump p) ∷ []),
    hg.even (p + 1) (p + 1 + g.size + x.size + z.size + 1),
    hx.even (p + 1 + g.size) (p + 1 + g.size + x.size + z.size + 1) (p + 1 + g.size + x.size),
    hz.even (p + 1 + g.size + x.size),
  );
  onward = λ fn p brk cont u v st.
      let e1 = hg.even (p + 1) (p + 1 + g.size + x.size + z.size + 1) in
      let e2 = hx.even (p + 1 + g.size) (p + 1 + g.size + x.size + z.size + 1) (p + 1 + g.size + x.size) in
      let st2 = stands_back fn.steps (p + 1) (p + 1 + g.size) (g.steps (p + 1) (p + 1 + g.size + x.size + z.size + 1)) _
      (ap (λ n. p + 1 + n) e1) st.1 in (
        tt,
        onward_append fn (p + 1) (p + 1 + g.size) (g.steps (p + 1) (p + 1 + g.size + x.size + z.size + 1)) _
            (ap (λ n. p + 1 + n) e1) (hg.onward fn (p + 1) (p + 1 + g.size + x.size + z.size + 1) (omega arith))
            (onward_append fn (p + 1 + g.size) (p + 1 + g.size + x.size)
            (x.steps (p + 1 + g.size) (p + 1 + g.size + x.size + z.size + 1) (p + 1 + g.size + x.size)) _
            (ap (λ n. p + 1 + g.size + n) e2)
            (hx.onward fn (p + 1 + g.size) (p + 1 + g.size + x.size + z.size + 1) (p + 1 + g.size + x.size) (omega arith)
            (omega arith) (stands_front fn.steps (p + 1 + g.size)
            (x.steps (p + 1 + g.size) (p + 1 + g.size + x.size + z.size + 1) (p + 1 + g.size + x.size)) _ st2))
            (onward_append fn (p + 1 + g.size + x.size) (p + 1 + g.size + x.size + z.size) (z.steps (p + 1 + g.size + x.size)) _
            (ap (λ n. p + 1 + g.size + x.size + n) (hz.even (p + 1 + g.size + x.size)))
            (hz.onward fn (p + 1 + g.size + x.size))
            (inr (at_node node step.Turn, st.0, refl), tt))),
      );
}

s_do : (node : ℕ) (g : Guard) (x : Body) → OrderlyGuard g → OrderlyBody x → OrderlyBody (b.do_body node g x)
s_do node g x hg hx =
    s_then (b.one_body node (λ p brk cont. step.Jump (p + 1 + 1 + g.size))) (b.loop_body node g x b.no_part)
    (s_one node (λ p brk cont. step.Jump (p + 1 + 1 + g.size)) (λ fn p brk cont u v. inl (omega arith)))
    (s_loop node g x b.no_part hg hx p_none)

-- ---- switch

init_ahead : (n offset : ℕ) (k : Kind) (marked : Bool) (x : Operand) (fn : IrFunction) (p : ℕ)
    → JumpsAhead fn p (b.init_step n offset k marked x)
init_ahead n offset k true x fn p = tt
init_ahead n offset k false x fn p = tt

place_behind : (passes : List (Option ℤ) → Bool) (p : ℕ) (gs : List Grouped) → p ≤ b.place_of passes p gs
place_behind passes p [] = omega arith
place_behind passes p (g ∷ gs) = by_bool (passes g.labels) (place_behind passes (p + g.body.size) gs)
  where
    by_bool : (c : Bool) → p + g.body.size ≤ b.place_of passes (p + g.body.size) gs
        → p ≤ cond c p (b.place_of passes (p + g.body.size) gs)
    by_bool true h = omega arith
    by_bool false h = omega (arith, h)

onward_labels : (fn : IrFunction) (node : ℕ) (t : IntType) (p to : ℕ) (ls : List (Option ℤ)) → p + b.label_count ls ≤ to
    → Onward fn p (b.label_cases node t to ls)
onward_labels fn node t p to [] h = tt
onward_labels fn node t p to (None ∷ ls) h = onward_labels fn node t p to ls h
onward_labels fn node t p to (Some n ∷ ls) h = (
  inl (omega (arith, h)),
  onward_labels fn node t (p + 1) to ls
      (omega (arith, h)),
)

onward_cases : (fn : IrFunction) (node : ℕ) (t : IntType) (p to : ℕ) (gs : List Grouped) → p + b.case_count gs ≤ to
    → Onward fn p (b.cases node t to gs)
onward_cases fn node t p to [] h = tt
onward_cases fn node t p to (g ∷ gs) h =
    onward_append fn p (p + b.label_count g.labels) (b.label_cases node t to g.labels) (b.cases node t (to + g.body.size) gs)
    (ap (λ n. p + n) (label_steps node t to g.labels))
    (onward_labels fn node t p to g.labels (omega (arith, h)))
    (onward_cases fn node t (p + b.label_count g.labels) (to + g.body.size) gs (omega (arith, h)))

s_switch : (node : ℕ) (t : IntType) (x : Code) (gs : List Grouped) → Orderly x → OrderlyBody (b.groups_body gs)
    → OrderlyBody (b.switch_body node t x gs)
s_switch node t x gs hx hg = record {
  even = λ p brk cont. omega (
    arith,
    length-append (x.steps p 0) (b.cases node t (b.groups_at p x gs) gs
        ++ (at_node node (step.Drop 0) ∷ (at_node node (step.Jump (b.place_of has_default (b.groups_at p x gs) gs))
        ∷ (b.groups_body gs).steps (b.groups_at p x gs) (b.groups_end p x gs) cont))),
    length-append (b.cases node t (b.groups_at p x gs) gs)
        (at_node node (step.Drop 0) ∷ (at_node node (step.Jump (b.place_of has_default (b.groups_at p x gs) gs))
        ∷ (b.groups_body gs).steps (b.groups_at p x gs) (b.groups_end p x gs) cont)),
    hx.even p 0,
    case_steps node t (b.groups_at p x gs) gs,
    hg.even (b.groups_at p x gs) (b.groups_end p x gs) cont,
  );
  onward = λ fn p brk cont u v st.
      let e1 = case_steps node t (b.groups_at p x gs) gs in
      let far = place_behind has_default (b.groups_at p x gs) gs in
      let st2 = stands_back fn.steps p (p + x.size) (x.steps p 0) _ (ap (λ n. p + n) (hx.even p 0)) st in
      let st3 = stands_back fn.steps (p + x.size) (p + x.size + b.case_count gs) (b.cases node t (b.groups_at p x gs) gs) _
      (ap (λ n. p + x.size + n) e1) st2 in
      onward_append fn p (p + x.size) (x.steps p 0) _ (ap (λ n. p + n) (hx.even p 0)) (hx.onward fn p 0)
      (onward_append fn (p + x.size) (p + x.size + b.case_count gs) (b.cases node t (b.groups_at p x gs) gs) _
      (ap (λ n. p + x.size + n) e1) (onward_cases fn node t (p + x.size) (b.groups_at p x gs) gs (omega arith)) (
        tt,
        (
          inl (omega (arith, far)),
          hg.onward fn (b.groups_at p x gs) (b.groups_end p x gs) cont (omega arith)
              (omega (arith, v)) st3.1.1,
        ),
      ));
}

s_part : (x : Part) → OrderlyPart x → OrderlyBody (b.part_body x)
s_part x h = record { even = λ p brk cont. h.even p; onward = λ fn p brk cont u v st. h.onward fn p }

module _ (structs : List Struct) (objects : List (List Slot)) where
  g_test : (node : ℕ) (e : Expr) → OrderlyGuard (b.test_guard structs objects node e)
  g_test node e = g_guard node _ (c.expr structs e) (o_expr structs e)

  g_optional : (node : ℕ) (e : Option Expr) → OrderlyGuard (b.optional_guard structs objects node e)
  g_optional node None = g_none
  g_optional node (Some e) = g_test node e

  p_optional : (node : ℕ) (e : Option Expr) → OrderlyPart (b.optional_part structs objects node e)
  p_optional node None = p_none
  p_optional node (Some e) = p_dropped node (c.expr structs e) (o_expr structs e)

  p_init : (node n offset : ℕ) (marked : Bool) (e : Option Expr)
      → OrderlyPart (b.init_value structs objects node n offset marked e)
  p_init node n offset marked None = p_one node _ (λ fn p. init_ahead n offset (b.local_kind objects n offset) marked
      (b.zero_of (b.local_kind objects n offset)) fn p)
  p_init node n offset marked (Some e) = p_taken node _ (c.expr structs e)
      (λ fn p. init_ahead n offset (b.local_kind objects n offset) marked operand.Temporary fn p) (o_expr structs e)

  p_inits : (node n : ℕ) (is : List Init) → OrderlyPart (b.init_parts structs objects node n is)
  p_inits node n [] = p_none
  p_inits node n (i ∷ is) = p_then (b.init_value structs objects node n i.offset i.marked i.value)
      (b.init_parts structs objects node n is) (p_init node n i.offset i.marked i.value) (p_inits node n is)

  p_declare : (node n : ℕ) (is : List Init) → OrderlyPart (b.declare_part structs objects node n is)
  p_declare node n [] = p_one node (step.Undefine n) (λ fn p. tt)
  p_declare node n (i ∷ is) = p_inits node n (i ∷ is)

  abbrev StmtClaim : StmtKind → Type 0
  StmtClaim k = (node : ℕ) → OrderlyBody (b.stmt_kind structs objects k node)

  abbrev GroupClaim : Group → Type 0
  GroupClaim g = OrderlyBody (stmts.grouped structs objects g).body

  all_bodies : {C : Type 0} (fc : C → Stmt) → ((x : C) → StmtClaim (fc x).kind) → (xs : List C)
      → OrderlyBody (b.bodies (map (b.stmt structs objects) (map fc xs)))
  all_bodies fc hc [] = s_none
  all_bodies fc hc (x ∷ xs) = s_then (b.stmt structs objects (fc x)) (b.bodies (map (b.stmt structs objects) (map fc xs)))
      (hc x (fc x).node) (all_bodies fc hc xs)

  module _ {A B C : Type 0} (fa : A → StmtKind) (fb : B → Group) (fc : C → Stmt) (hb : (x : B) → GroupClaim (fb x))
      (hc : (x : C) → StmtClaim (fc x).kind) where
    abbrev opened_stmt : StmtKind-F A B C → StmtKind-F StmtKind Group Stmt
    opened_stmt y = map-StmtKind A B C StmtKind Group Stmt fa fb fc y

    abbrev stmt_coded : StmtKind-F A B C → ℕ → Body
    stmt_coded y = b.stmt_layer structs objects (map-StmtKind StmtKind Group Stmt (ℕ → Body) Grouped Body
        (b.stmt_kind structs objects) (stmts.grouped structs objects) (b.stmt structs objects) (opened_stmt y))

    one_stmt : (x : C) → OrderlyBody (b.stmt structs objects (fc x))
    one_stmt x = hc x (fc x).node

    all_groups : (xs : List B) → OrderlyBody (b.groups_body (map (stmts.grouped structs objects) (map fb xs)))
    all_groups [] = s_none
    all_groups (x ∷ xs) = s_then (stmts.grouped structs objects (fb x)).body
        (b.groups_body (map (stmts.grouped structs objects) (map fb xs))) (hb x) (all_groups xs)

    a_loop : (node : ℕ) (test part : Option Expr) (body : C)
        → OrderlyBody (b.loop_body node (b.optional_guard structs objects node test) (b.stmt structs objects (fc body))
        (b.optional_part structs objects node part))
    a_loop node test part body = s_loop node (b.optional_guard structs objects node test) (b.stmt structs objects (fc body))
        (b.optional_part structs objects node part) (g_optional node test) (one_stmt body) (p_optional node part)

    stmt_layer : (y : StmtKind-F A B C) (node : ℕ) → OrderlyBody (stmt_coded y node)
    stmt_layer (StmtKind-F.Expr e) node = s_part (b.dropped node (c.expr structs e))
        (p_dropped node (c.expr structs e) (o_expr structs e))
    stmt_layer (StmtKind-F.Block all) node = all_bodies fc hc all
    stmt_layer (StmtKind-F.If test x None) node = s_if node (b.test_guard structs objects node test)
        (b.stmt structs objects (fc x)) b.no_body (g_test node test) (one_stmt x) s_none
    stmt_layer (StmtKind-F.If test x (Some y)) node
        = s_if node (b.test_guard structs objects node test) (b.stmt structs objects (fc x)) (b.stmt structs objects (fc y))
        (g_test node test) (one_stmt x) (one_stmt y)
    stmt_layer (StmtKind-F.While test x) node = s_loop node (b.test_guard structs objects node test)
        (b.stmt structs objects (fc x)) b.no_part (g_test node test) (one_stmt x) p_none
    stmt_layer (StmtKind-F.Do x test) node = s_do node (b.test_guard structs objects node test) (b.stmt structs objects (fc x))
        (g_test node test) (one_stmt x)
    stmt_layer (StmtKind-F.For None test part x) node
        = s_then b.no_body (b.loop_body node (b.optional_guard structs objects node test) (b.stmt structs objects (fc x))
        (b.optional_part structs objects node part)) s_none (a_loop node test part x)
    stmt_layer (StmtKind-F.For (Some begin) test part x) node
        = s_then (b.stmt structs objects (fc begin))
        (b.loop_body node (b.optional_guard structs objects node test) (b.stmt structs objects (fc x))
        (b.optional_part structs objects node part)) (one_stmt begin) (a_loop node test part x)
    stmt_layer (StmtKind-F.Switch on groups) node =
        s_switch node _ (c.expr structs on) (map (stmts.grouped structs objects) (map fb groups)) (o_expr structs on)
        (all_groups groups)
    stmt_layer StmtKind-F.Break node = s_one node (λ p brk cont. step.Jump brk) (λ fn p brk cont u v. inl (omega (arith, u)))
    stmt_layer StmtKind-F.Continue node = s_one node (λ p brk cont. step.Jump cont)
        (λ fn p brk cont u v. inl (omega (arith, v)))
    stmt_layer (StmtKind-F.Return None) node = s_one node (λ p brk cont. step.ReturnNothing) (λ fn p brk cont u v. tt)
    stmt_layer (StmtKind-F.Return (Some e)) node =
        s_part (b.taken_by node (step.Return 0 operand.Temporary) (c.expr structs e))
        (p_taken node (step.Return 0 operand.Temporary) (c.expr structs e) (λ fn p. tt) (o_expr structs e))
    stmt_layer (StmtKind-F.Stamped p e) node = s_none
    stmt_layer (StmtKind-F.Timely p limit x y) node = s_none
    stmt_layer (StmtKind-F.Expires names body caught) node = s_none
    stmt_layer (StmtKind-F.Declare n init) node = s_part (b.declare_part structs objects node n init) (p_declare node n init)

    stmt_case : (y : StmtKind-F A B C) → StmtClaim (roll-StmtKind (opened_stmt y))
    stmt_case y = λ node. subst (λ (g : ℕ → Body). OrderlyBody (g node)) (sym (stmts.code_roll structs objects (opened_stmt y)))
        (stmt_layer y node)

  group_case : {A B C : Type 0} (fa : A → StmtKind) (fb : B → Group) (fc : C → Stmt) → ((x : C) → StmtClaim (fc x).kind)
      → (y : Group-F A B C) → GroupClaim (roll-Group (map-Group A B C StmtKind Group Stmt fa fb fc y))
  group_case {A} {B} {C} fa fb fc hc y =
      subst (λ (g : Grouped). OrderlyBody g.body) (sym
      (stmts.code_group_roll structs objects (map-Group A B C StmtKind Group Stmt fa fb fc y))) (all_bodies fc hc y.body)

  stmt_orderly : (k : StmtKind) → StmtClaim k
  stmt_orderly = ind-StmtKind StmtClaim GroupClaim (λ x. StmtClaim x.kind)
      (λ x y is. subst (λ z. StmtClaim (roll-StmtKind z)) is
      (stmt_case (λ e. e.0) (λ e. e.0) (λ e. e.0) (λ e. e.1) (λ e. e.1) y))
      (λ x y is. subst (λ z. GroupClaim (roll-Group z)) is (group_case (λ e. e.0) (λ e. e.0) (λ e. e.0) (λ e. e.1) y))
      (λ x y is. subst (λ z. StmtClaim z.kind) is y.kind.1)

  o_stmts : (xs : List Stmt) → OrderlyBody (b.stmts structs objects xs)
  o_stmts [] = s_none
  o_stmts (x ∷ xs) = s_then (b.stmt structs objects x) (b.stmts structs objects xs) (stmt_orderly x.kind x.node) (o_stmts xs)

  -- how many steps a function has
  pub function_length : (main : Bool) (params node : ℕ) (xs : List Stmt)
      → length (b.function_steps structs objects main params node xs) ≡ 2 + (b.stmts structs objects xs).size
  function_length main params node xs = omega (
    arith,
    length-append ((b.stmts structs objects xs).steps 1 (1 + (b.stmts structs objects xs).size)
        (1 + (b.stmts structs objects xs).size)) (at_node node (b.end_step structs objects main) ∷ []),
    (o_stmts xs).even 1 (1 + (b.stmts structs objects xs).size) (1 + (b.stmts structs objects xs).size),
  )

  o_end : (main : Bool) (node : ℕ) (fn : IrFunction) (p : ℕ) → Onward fn p (at_node node (b.end_step structs objects main) ∷ [])
  o_end true node fn p = (tt, tt)
  o_end false node fn p = (tt, tt)

  -- the jumps of a function
  pub function_ordered : (main : Bool) (params node : ℕ) (xs : List Stmt) (fn : IrFunction) → fn.steps
      ≡ b.function_steps structs objects main params node xs → Stands fn.steps 0 fn.steps
      → (p : ℕ) (s : Step) → slice_get fn.steps p ≡ Some s → JumpsAhead fn p s.kind
  function_ordered main params node xs fn e st p s g =
      let h = o_stmts xs in
      let st2 = subst (λ l. Stands fn.steps 0 l) e st in
      let mine = stands_front fn.steps 1 ((b.stmts structs objects xs).steps 1 (1 + (b.stmts structs objects xs).size)
      (1 + (b.stmts structs objects xs).size)) _ st2.1 in
      let all : Onward fn 0 (b.function_steps structs objects main params node xs) = (
        tt,
        onward_append fn 1 (1 + (b.stmts structs objects xs).size)
            ((b.stmts structs objects xs).steps 1 (1 + (b.stmts structs objects xs).size)
            (1 + (b.stmts structs objects xs).size)) (at_node node (b.end_step structs objects main) ∷ [])
            (ap (λ n. 1 + n) (h.even 1 (1 + (b.stmts structs objects xs).size) (1 + (b.stmts structs objects xs).size)))
            (h.onward fn 1 (1 + (b.stmts structs objects xs).size) (1 + (b.stmts structs objects xs).size) (omega arith)
            (omega arith) mine) (o_end main node fn (1 + (b.stmts structs objects xs).size)),
      ) in
      onward_at fn 0 p p (b.function_steps structs objects main params node xs) s (omega arith) all
      (subst (λ l. slice_get l p ≡ Some s) e g)
