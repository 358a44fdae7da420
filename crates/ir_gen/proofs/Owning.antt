-- Each step of a tree belongs to a node of it: what holds of the numbers of all nodes holds of those of the steps.
use Rattle.std.proofs.Common.{◌≡◌, ℕ, zero, suc, ◌+◌, List, [], ◌∷◌, ◌++◌, length, map, Option, Some, None, Bool, true, false, sym, ap, subst, arith, rules}
use Rattle.std.specs.Prelude.{slice_get, ℤ, pos}
use Rattle.base16.specs.declared.image.Kind.{Kind}
use Rattle.base16.specs.declared.integer.IntType.{IntType}
use Rattle.core_tree.specs.Numbers as number
use Rattle.core_tree.specs.Numbers.{Numbers, function_numbers}
use Rattle.core_tree.specs.Reaching.{joined, some_of}
use Rattle.core_tree.specs.LawfulCore.{Every}
use Rattle.core_tree.specs.Layout.{kind_of}
use Rattle.core_tree.specs.declared.types.Slot.{Slot}
use Rattle.core_tree.specs.declared.types.Struct.{Struct}
use Rattle.core_tree.specs.declared.types.Ty.{Ty}
use Rattle.core_tree.specs.declared.expressions.ExprKind.{ExprKind, ind-ExprKind, fold-ExprKind, the_lemmas, roll-ExprKind, map-ExprKind}
use Rattle.core_tree.specs.declared.expressions.ExprKind.TheOpen.{ExprKind-F, PlaceKind-F}
use Rattle.core_tree.specs.declared.expressions.PlaceKind.{PlaceKind, fold-PlaceKind, roll-PlaceKind, map-PlaceKind}
use Rattle.core_tree.specs.declared.expressions.Expr.{Expr}
use Rattle.core_tree.specs.declared.expressions.Place.{Place}
use Rattle.core_tree.specs.declared.statements.Init.{Init}
use Rattle.core_tree.specs.declared.statements.Group.{Group, Group-F, fold-Group, roll-Group, map-Group}
use Rattle.core_tree.specs.declared.statements.Stmt.{Stmt}
use Rattle.core_tree.specs.declared.statements.StmtKind.{StmtKind, ind-StmtKind, fold-StmtKind, the_lemmas as stmt_lemmas, roll-StmtKind, map-StmtKind}
use Rattle.core_tree.specs.declared.statements.StmtKind.TheOpen.{StmtKind-F}
use Rattle.core_tree.specs.declared.program.Function.{Function}
use Rattle.ir.specs.declared.form.Operation.{Operation}
use Rattle.ir.specs.declared.form.Operand.TheVariants as operand
use Rattle.ir.specs.declared.form.Keep.{Keep}
use Rattle.ir.specs.declared.form.Keep.TheVariants as keep
use Rattle.ir.specs.declared.form.Step.{Step}
use Rattle.ir.specs.declared.form.StepKind.{StepKind}
use Rattle.ir.specs.declared.form.StepKind.TheVariants as step
use Rattle.ir_gen.specs.Code as c
use Rattle.ir_gen.specs.Code.{Code, Coded, Spotted, Spot, Part as LocalPart, at_node, single, then_code, above, choice}
use Rattle.ir_gen.specs.Body as b
use Rattle.ir_gen.specs.Body.{Body, Guard, Part, Grouped}
use Rattle.ir_gen.proofs.Tree as tree
use Rattle.ir_gen.proofs.StmtTree as stmts

abbrev expr_kind_numbers : ExprKind → ℕ → Numbers
expr_kind_numbers = fold-ExprKind (ℕ → Numbers) (ℕ → Numbers) Numbers Numbers (λ x node. node ∷ number.expr_step x)
    (λ p node. node ∷ number.place_step p) (λ x. x.kind x.node) (λ p. p.kind p.node)

abbrev place_kind_numbers : PlaceKind → ℕ → Numbers
place_kind_numbers = fold-PlaceKind (ℕ → Numbers) (ℕ → Numbers) Numbers Numbers (λ x node. node ∷ number.expr_step x)
    (λ y node. node ∷ number.place_step y) (λ x. x.kind x.node) (λ y. y.kind y.node)

abbrev stmt_kind_numbers : StmtKind → ℕ → Numbers
stmt_kind_numbers = fold-StmtKind (ℕ → Numbers) Numbers Numbers (λ x node. node ∷ number.stmt_step x) (λ g. joined g.body)
    (λ x. x.kind x.node)

abbrev group_numbers : Group → Numbers
group_numbers = fold-Group (ℕ → Numbers) Numbers Numbers (λ x node. node ∷ number.stmt_step x) (λ g. joined g.body)
    (λ x. x.kind x.node)

abbrev numbered : ExprKind-F ExprKind PlaceKind Expr Place → Numbers
numbered x = number.expr_step (map-ExprKind ExprKind PlaceKind Expr Place (ℕ → Numbers) (ℕ → Numbers) Numbers Numbers
    expr_kind_numbers place_kind_numbers number.expr_numbers number.place_numbers x)

abbrev numbered_place : PlaceKind-F ExprKind PlaceKind Expr Place → Numbers
numbered_place x = number.place_step (map-PlaceKind ExprKind PlaceKind Expr Place (ℕ → Numbers) (ℕ → Numbers) Numbers Numbers
    expr_kind_numbers place_kind_numbers number.expr_numbers number.place_numbers x)

abbrev numbered_stmt : StmtKind-F StmtKind Group Stmt → Numbers
numbered_stmt x = number.stmt_step (map-StmtKind StmtKind Group Stmt (ℕ → Numbers) Numbers Numbers stmt_kind_numbers
    group_numbers number.stmt_numbers x)

numbers_roll : (x : ExprKind-F ExprKind PlaceKind Expr Place) → expr_kind_numbers (roll-ExprKind x)
    ≡ (λ node. node ∷ numbered x)
numbers_roll x = search (rules, the_lemmas)

place_numbers_roll : (x : PlaceKind-F ExprKind PlaceKind Expr Place) → place_kind_numbers (roll-PlaceKind x)
    ≡ (λ node. node ∷ numbered_place x)
place_numbers_roll x = search (rules, the_lemmas)

stmt_numbers_roll : (x : StmtKind-F StmtKind Group Stmt) → stmt_kind_numbers (roll-StmtKind x)
    ≡ (λ node. node ∷ numbered_stmt x)
stmt_numbers_roll x = search (rules, stmt_lemmas)

group_numbers_roll : (x : Group-F StmtKind Group Stmt) → group_numbers (roll-Group x)
    ≡ joined (map number.stmt_numbers x.body)
group_numbers_roll x = search (rules, stmt_lemmas)

module _ (P : ℕ → Type 0) where
  front : (xs ys : List ℕ) → Every P (xs ++ ys) → Every P xs
  front [] ys h = tt
  front (x ∷ xs) ys h = (h.0, front xs ys h.1)

  back : (xs ys : List ℕ) → Every P (xs ++ ys) → Every P ys
  back [] ys h = h
  back (x ∷ xs) ys h = back xs ys h.1

  abbrev pub Owned : List Step → Type 0
  Owned [] = Unit {0}
  Owned (s ∷ ss) = P s.node × Owned ss

  owned_append : (xs ys : List Step) → Owned xs → Owned ys → Owned (xs ++ ys)
  owned_append [] ys h g = g
  owned_append (x ∷ xs) ys h g = (h.0, owned_append xs ys h.1 g)

  pub owned_at : (p : ℕ) (xs : List Step) (s : Step) → Owned xs → slice_get xs p ≡ Some s → P s.node
  owned_at p [] s h g = absurd (grind (arith, g))
  owned_at zero (x ∷ xs) s h g = let same : x ≡ s = ap step_of g in subst (λ (z : Step). P z.node) same h.0
    where
      step_of : Option Step → Step
      step_of None = x
      step_of (Some y) = y
  owned_at (suc p) (x ∷ xs) s h g = owned_at p xs s h.1 g

  -- ---- codes

  record OwnedCode (code : Code) : Type 0 where
    owned : (p d : ℕ) → Owned (code.steps p d)

  w_none : OwnedCode c.no_code
  w_none = record { owned = λ p d. tt }

  w_single : (node : ℕ) (k : ℕ → StepKind) → P node → OwnedCode (single node k)
  w_single node k h = record { owned = λ p d. (h, tt) }

  w_then : (x y : Code) → OwnedCode x → OwnedCode y → OwnedCode (then_code x y)
  w_then x y hx hy = record {
    owned = λ p d. owned_append (x.steps p d) (y.steps (p + x.size) d) (hx.owned p d) (hy.owned (p + x.size) d);
  }

  w_above : (by : ℕ) (x : Code) → OwnedCode x → OwnedCode (above by x)
  w_above by x h = record { owned = λ p d. h.owned p (d + by) }

  w_choice : (node : ℕ) (t : IntType) (x y z : Code) → P node → OwnedCode x → OwnedCode y → OwnedCode z
      → OwnedCode (choice node t x y z)
  w_choice node t x y z h hx hy hz = record {
    owned = λ p d.
        owned_append (x.steps p d) _ (hx.owned p d) (
          h,
          owned_append (y.steps (p + x.size + 1) d) _ (hy.owned (p + x.size + 1) d)
              (h, hz.owned (p + x.size + 1 + y.size + 1) d),
        );
  }

  w_step : (x : Code) (node : ℕ) (k : ℕ → StepKind) → P node → OwnedCode x → OwnedCode (c.then_step x node k)
  w_step x node k h hx = w_then x (single node k) hx (w_single node k h)

  w_both : (x y : Code) (node : ℕ) (k : ℕ → StepKind) → P node → OwnedCode x → OwnedCode y
      → OwnedCode (c.both_then x y node k)
  w_both x y node k h hx hy = w_then x (c.then_step (above 1 y) node k) hx (w_step (above 1 y) node k h (w_above 1 y hy))

  w_store_local : (node : ℕ) (q : Option LocalPart) (k : Kind) (keeps : Keep) → P node
      → OwnedCode (c.store_local node q k keeps)
  w_store_local node None k keeps h = w_none
  w_store_local node (Some q) k keeps h = w_single node _ h

  w_assign : (node : ℕ) (s : Spot) (k : Kind) (marked : Bool) (v : Code) → P node → OwnedCode s.code → OwnedCode v
      → OwnedCode (c.assign_code node s k marked v)
  w_assign node s k true v h hs hv = w_both s.code v node (c.store_step k keep.Stored) h hs hv
  w_assign node s k false v h hs hv = w_then v (c.store_local node s.part k keep.Stored) hv
      (w_store_local node s.part k keep.Stored h)

  w_local : (node : ℕ) (q : Option LocalPart) (k : Kind) (o : Operation) (v : Code) (old : Bool) → P node → OwnedCode v
      → OwnedCode (c.update_local node q k o v old)
  w_local node None k o v old h hv = w_none
  w_local node (Some q) k o v false h hv =
      w_then (c.put node (c.scalar_of q k)) _ (w_single node _ h)
      (w_then (above 1 v) _ (w_above 1 v hv)
      (w_then (single node (λ d. step.Binary d o operand.Temporary operand.Temporary))
      (c.store_local node (Some q) k keep.Stored) (w_single node _ h) (w_store_local node (Some q) k keep.Stored h)))
  w_local node (Some q) k o v true h hv =
      w_then (c.put node (c.scalar_of q k)) _ (w_single node _ h)
      (w_then (above 1 v) _ (w_above 1 v hv)
      (w_then (single node (λ d. step.Beside d o)) (c.store_local node (Some q) k keep.Before) (w_single node _ h)
      (w_store_local node (Some q) k keep.Before h)))

  w_update : (node : ℕ) (s : Spot) (k : Kind) (o : Operation) (v : Code) (old marked : Bool) → P node → OwnedCode s.code
      → OwnedCode v → OwnedCode (c.update_code node s k o v old marked)
  w_update node s k o v false true h hs hv =
      w_then s.code _ hs (w_then (single node (λ d. step.Peek d k)) _ (w_single node _ h)
      (w_then (above 2 v) _ (w_above 2 v hv)
      (w_then (single node (λ d. step.Binary (d + 1) o operand.Temporary operand.Temporary))
      (single node (c.store_step k keep.Stored)) (w_single node _ h) (w_single node _ h))))
  w_update node s k o v true true h hs hv =
      w_then s.code _ hs (w_then (single node (λ d. step.Peek d k)) _ (w_single node _ h)
      (w_then (above 2 v) _ (w_above 2 v hv)
      (w_then (single node (λ d. step.Beside (d + 1) o)) (single node (c.store_step k keep.Before)) (w_single node _ h)
      (w_single node _ h))))
  w_update node s k o v false false h hs hv = w_local node s.part k o v false h hv
  w_update node s k o v true false h hs hv = w_local node s.part k o v true h hv

  -- ---- bodies

  record OwnedBody (code : Body) : Type 0 where
    owned : (p brk cont : ℕ) → Owned (code.steps p brk cont)

  record OwnedGuard (code : Guard) : Type 0 where
    owned : (p other : ℕ) → Owned (code.steps p other)

  record OwnedPart (code : Part) : Type 0 where
    owned : (p : ℕ) → Owned (code.steps p)

  v_none : OwnedBody b.no_body
  v_none = record { owned = λ p brk cont. tt }

  v_one : (node : ℕ) (k : ℕ → ℕ → ℕ → StepKind) → P node → OwnedBody (b.one_body node k)
  v_one node k h = record { owned = λ p brk cont. (h, tt) }

  v_then : (x y : Body) → OwnedBody x → OwnedBody y → OwnedBody (b.then_body x y)
  v_then x y hx hy = record {
    owned = λ p brk cont. owned_append (x.steps p brk cont) (y.steps (p + x.size) brk cont) (hx.owned p brk cont)
        (hy.owned (p + x.size) brk cont);
  }

  g_none : OwnedGuard b.no_guard
  g_none = record { owned = λ p other. tt }

  g_guard : (node : ℕ) (t : IntType) (x : Code) → P node → OwnedCode x → OwnedGuard (b.guard node t x)
  g_guard node t x h hx = record {
    owned = λ p other. owned_append (x.steps p 0) (at_node node (c.unless t other 0) ∷ []) (hx.owned p 0) (h, tt);
  }

  p_none : OwnedPart b.no_part
  p_none = record { owned = λ p. tt }

  p_one : (node : ℕ) (k : StepKind) → P node → OwnedPart (b.one_part node k)
  p_one node k h = record { owned = λ p. (h, tt) }

  p_taken : (node : ℕ) (k : StepKind) (x : Code) → P node → OwnedCode x → OwnedPart (b.taken_by node k x)
  p_taken node k x h hx = record {
    owned = λ p. owned_append (x.steps p 0) (at_node node k ∷ []) (hx.owned p 0) (h, tt);
  }

  p_then : (x y : Part) → OwnedPart x → OwnedPart y → OwnedPart (b.then_part x y)
  p_then x y hx hy = record {
    owned = λ p. owned_append (x.steps p) (y.steps (p + x.size)) (hx.owned p) (hy.owned (p + x.size));
  }

  v_part : (x : Part) → OwnedPart x → OwnedBody (b.part_body x)
  v_part x h = record { owned = λ p brk cont. h.owned p }

  v_if : (node : ℕ) (g : Guard) (x y : Body) → P node → OwnedGuard g → OwnedBody x → OwnedBody y
      → OwnedBody (b.if_body node g x y)
  v_if node g x y h hg hx hy = record {
    owned = λ p brk cont.
        owned_append (g.steps p (p + g.size + x.size + 1)) _ (hg.owned p (p + g.size + x.size + 1))
        (owned_append (x.steps (p + g.size) brk cont) _ (hx.owned (p + g.size) brk cont)
        (h, hy.owned (p + g.size + x.size + 1) brk cont));
  }

  v_loop : (node : ℕ) (g : Guard) (x : Body) (z : Part) → P node → OwnedGuard g → OwnedBody x → OwnedPart z
      → OwnedBody (b.loop_body node g x z)
  v_loop node g x z h hg hx hz = record {
    owned = λ p brk cont. (
      h,
      owned_append (g.steps (p + 1) (p + 1 + g.size + x.size + z.size + 1)) _
          (hg.owned (p + 1) (p + 1 + g.size + x.size + z.size + 1))
          (owned_append (x.steps (p + 1 + g.size) (p + 1 + g.size + x.size + z.size + 1) (p + 1 + g.size + x.size)) _
          (hx.owned (p + 1 + g.size) (p + 1 + g.size + x.size + z.size + 1) (p + 1 + g.size + x.size))
          (owned_append (z.steps (p + 1 + g.size + x.size)) _ (hz.owned (p + 1 + g.size + x.size)) (h, tt))),
    );
  }

  v_do : (node : ℕ) (g : Guard) (x : Body) → P node → OwnedGuard g → OwnedBody x → OwnedBody (b.do_body node g x)
  v_do node g x h hg hx =
      v_then (b.one_body node (λ p brk cont. step.Jump (p + 1 + 1 + g.size))) (b.loop_body node g x b.no_part)
      (v_one node (λ p brk cont. step.Jump (p + 1 + 1 + g.size)) h) (v_loop node g x b.no_part h hg hx p_none)

  labels_owned : (node : ℕ) (t : IntType) (to : ℕ) (ls : List (Option ℤ)) → P node → Owned (b.label_cases node t to ls)
  labels_owned node t to [] h = tt
  labels_owned node t to (None ∷ ls) h = labels_owned node t to ls h
  labels_owned node t to (Some n ∷ ls) h = (h, labels_owned node t to ls h)

  cases_owned : (node : ℕ) (t : IntType) (p : ℕ) (gs : List Grouped) → P node → Owned (b.cases node t p gs)
  cases_owned node t p [] h = tt
  cases_owned node t p (g ∷ gs) h =
      owned_append (b.label_cases node t p g.labels) (b.cases node t (p + g.body.size) gs)
      (labels_owned node t p g.labels h) (cases_owned node t (p + g.body.size) gs h)

  v_switch : (node : ℕ) (t : IntType) (x : Code) (gs : List Grouped) → P node → OwnedCode x → OwnedBody (b.groups_body gs)
      → OwnedBody (b.switch_body node t x gs)
  v_switch node t x gs h hx hg = record {
    owned = λ p brk cont.
        owned_append (x.steps p 0) _ (hx.owned p 0)
        (owned_append (b.cases node t (b.groups_at p x gs) gs) _ (cases_owned node t (b.groups_at p x gs) gs h)
        (h, (h, hg.owned (b.groups_at p x gs) (b.groups_end p x gs) cont)));
  }

  -- ---- expressions

  module _ (structs : List Struct) where
    abbrev ExprClaim : ExprKind → Type 0
    ExprClaim k = (ty : Ty) (node : ℕ) → Every P (expr_kind_numbers k node) → OwnedCode (c.expr_kind structs k ty node)

    abbrev PlaceClaim : PlaceKind → Type 0
    PlaceClaim k = (ty : Ty) (node : ℕ) → Every P (place_kind_numbers k node)
        → OwnedCode (c.place_kind structs k ty node).code

    module _ {A B C D : Type 0} (fa : A → ExprKind) (fb : B → PlaceKind) (fc : C → Expr) (fd : D → Place)
        (hc : (x : C) → ExprClaim (fc x).kind) (hd : (x : D) → PlaceClaim (fd x).kind) where
      abbrev opened : ExprKind-F A B C D → ExprKind-F ExprKind PlaceKind Expr Place
      opened y = map-ExprKind A B C D ExprKind PlaceKind Expr Place fa fb fc fd y

      abbrev opened_place : PlaceKind-F A B C D → PlaceKind-F ExprKind PlaceKind Expr Place
      opened_place y = map-PlaceKind A B C D ExprKind PlaceKind Expr Place fa fb fc fd y

      abbrev coded_layer : ExprKind-F A B C D → Ty → ℕ → Code
      coded_layer y = c.expr_layer structs (map-ExprKind ExprKind PlaceKind Expr Place c.Layer c.PlaceLayer Coded Spotted
          (c.expr_kind structs) (c.place_kind structs) (tree.coded structs) (tree.spotted structs) (opened y))

      abbrev coded_place_layer : PlaceKind-F A B C D → Ty → ℕ → Spot
      coded_place_layer y = c.place_layer structs (map-PlaceKind ExprKind PlaceKind Expr Place c.Layer c.PlaceLayer Coded
          Spotted (c.expr_kind structs) (c.place_kind structs) (tree.coded structs) (tree.spotted structs) (opened_place y))

      one : (x : C) → Every P (number.expr_numbers (fc x)) → OwnedCode (c.expr structs (fc x))
      one x h = hc x (fc x).ty (fc x).node h

      at_place : (x : D) → Every P (number.place_numbers (fd x)) → OwnedCode (c.place structs (fd x)).code
      at_place x h = hd x (fd x).ty (fd x).node h

      args : (xs : List C) → Every P (joined (map number.expr_numbers (map fc xs)))
          → OwnedCode (c.args_code (map (tree.coded structs) (map fc xs)))
      args [] h = w_none
      args (x ∷ xs) h =
          let rest = joined (map number.expr_numbers (map fc xs)) in
          w_then (c.expr structs (fc x)) (above 1 (c.args_code (map (tree.coded structs) (map fc xs))))
          (one x (front (number.expr_numbers (fc x)) rest h))
          (w_above 1 (c.args_code (map (tree.coded structs) (map fc xs)))
          (args xs (back (number.expr_numbers (fc x)) rest h)))

      two : (x y : C) (node : ℕ) (k : ℕ → StepKind) → P node
          → Every P (number.expr_numbers (fc x) ++ number.expr_numbers (fc y))
          → OwnedCode (c.both_then (c.expr structs (fc x)) (c.expr structs (fc y)) node k)
      two x y node k o h = w_both (c.expr structs (fc x)) (c.expr structs (fc y)) node k o
          (one x (front (number.expr_numbers (fc x)) (number.expr_numbers (fc y)) h))
          (one y (back (number.expr_numbers (fc x)) (number.expr_numbers (fc y)) h))

      layer : (y : ExprKind-F A B C D) (ty : Ty) (node : ℕ) → P node → Every P (numbered (opened y))
          → OwnedCode (coded_layer y ty node)
      layer (ExprKind-F.Constant v) ty node o h = w_single node _ o
      layer (ExprKind-F.Read x) ty node o h = w_step (c.place structs (fd x)).code node _ o (at_place x h)
      layer (ExprKind-F.Convert x) ty node o h = w_step (c.expr structs (fc x)) node _ o (one x h)
      layer (ExprKind-F.Unary op x) ty node o h = w_step (c.expr structs (fc x)) node _ o (one x h)
      layer (ExprKind-F.Binary op t x y) ty node o h = two x y node _ o h
      layer (ExprKind-F.PointerPlus minus x y) ty node o h = two x y node _ o h
      layer (ExprKind-F.Difference x y) ty node o h = two x y node _ o h
      layer (ExprKind-F.ComparePointers op x y) ty node o h = two x y node _ o h
      layer (ExprKind-F.And x y) ty node o h =
          w_choice node _ (c.expr structs (fc x)) _ (c.bit node (pos 0)) o
          (one x (front (number.expr_numbers (fc x)) (number.expr_numbers (fc y)) h))
          (w_step (c.expr structs (fc y)) node _ o
          (one y (back (number.expr_numbers (fc x)) (number.expr_numbers (fc y)) h))) (w_single node _ o)
      layer (ExprKind-F.Or x y) ty node o h =
          w_choice node _ (c.expr structs (fc x)) (c.bit node (pos 1)) _ o
          (one x (front (number.expr_numbers (fc x)) (number.expr_numbers (fc y)) h)) (w_single node _ o)
          (w_step (c.expr structs (fc y)) node _ o
          (one y (back (number.expr_numbers (fc x)) (number.expr_numbers (fc y)) h)))
      layer (ExprKind-F.Conditional x y z) ty node o h =
          let first = number.expr_numbers (fc x) in
          let second = number.expr_numbers (fc y) in
          let third = number.expr_numbers (fc z) in
          w_choice node _ (c.expr structs (fc x)) (c.expr structs (fc y)) (c.expr structs (fc z)) o
          (one x (front first second (front (first ++ second) third h)))
          (one y (back first second (front (first ++ second) third h))) (one z (back (first ++ second) third h))
      layer (ExprKind-F.Assign p x marked) ty node o h =
          w_assign node (c.place structs (fd p)) (kind_of ty) marked (c.expr structs (fc x)) o
          (at_place p (front (number.place_numbers (fd p)) (number.expr_numbers (fc x)) h))
          (one x (back (number.place_numbers (fd p)) (number.expr_numbers (fc x)) h))
      layer (ExprKind-F.Update op t p x old marked) ty node o h =
          w_update node (c.place structs (fd p)) (kind_of ty) _ (c.expr structs (fc x)) old marked o
          (at_place p (front (number.place_numbers (fd p)) (number.expr_numbers (fc x)) h))
          (one x (back (number.place_numbers (fd p)) (number.expr_numbers (fc x)) h))
      layer (ExprKind-F.Address p) ty node o h = w_step (c.place structs (fd p)).code node step.PointTo o (at_place p h)
      layer (ExprKind-F.Call g xs) ty node o h =
          w_then (c.args_code (map (tree.coded structs) (map fc xs))) _ (args xs h)
          (w_then (single node (λ d. step.Call d g (length (map (tree.coded structs) (map fc xs)))))
          (single node (λ d. step.Result d true)) (w_single node _ o) (w_single node _ o))
      layer (ExprKind-F.Sense channel) ty node o h = w_single node _ o
      layer (ExprKind-F.Emit x) ty node o h = w_step (c.expr structs (fc x)) node _ o (one x h)
      layer ExprKind-F.Checkpoint ty node o h = w_single node _ o
      layer (ExprKind-F.Comma x y) ty node o h =
          w_then (c.expr structs (fc x)) _ (one x (front (number.expr_numbers (fc x)) (number.expr_numbers (fc y)) h))
          (w_then (single node step.Drop) (c.expr structs (fc y)) (w_single node _ o)
          (one y (back (number.expr_numbers (fc x)) (number.expr_numbers (fc y)) h)))

      place_layer : (y : PlaceKind-F A B C D) (ty : Ty) (node : ℕ) → P node → Every P (numbered_place (opened_place y))
          → OwnedCode (coded_place_layer y ty node).code
      place_layer (PlaceKind-F.Local n) ty node o h = w_single node _ o
      place_layer (PlaceKind-F.Global n) ty node o h = w_single node _ o
      place_layer (PlaceKind-F.Deref x) ty node o h = w_step (c.expr structs (fc x)) node _ o (one x h)
      place_layer (PlaceKind-F.Member p tag member) ty node o h
          = w_step (c.place structs (fd p)).code node _ o (at_place p h)
      place_layer (PlaceKind-F.Element p x) ty node o h =
          w_both (c.place structs (fd p)).code (c.expr structs (fc x)) node _ o
          (at_place p (front (number.place_numbers (fd p)) (number.expr_numbers (fc x)) h))
          (one x (back (number.place_numbers (fd p)) (number.expr_numbers (fc x)) h))
      place_layer (PlaceKind-F.At x y) ty node o h = two x y node _ o h

      expr_case : (y : ExprKind-F A B C D) → ExprClaim (roll-ExprKind (opened y))
      expr_case y = λ ty node h.
          let x = opened y in
          let own = subst (λ (g : ℕ → Numbers). Every P (g node)) (numbers_roll x) h in
          subst (λ (g : Ty → ℕ → Code). OwnedCode (g ty node)) (sym (tree.code_roll structs x)) (layer y ty node own.0 own.1)

      place_case : (y : PlaceKind-F A B C D) → PlaceClaim (roll-PlaceKind (opened_place y))
      place_case y = λ ty node h.
          let x = opened_place y in
          let own = subst (λ (g : ℕ → Numbers). Every P (g node)) (place_numbers_roll x) h in
          subst (λ (g : Ty → ℕ → Spot). OwnedCode (g ty node).code) (sym (tree.code_place_roll structs x))
          (place_layer y ty node own.0 own.1)

    expr_kind_owned : (k : ExprKind) → ExprClaim k
    expr_kind_owned = ind-ExprKind ExprClaim PlaceClaim (λ e. ExprClaim e.kind) (λ p. PlaceClaim p.kind)
        (λ x y is. subst (λ z. ExprClaim (roll-ExprKind z)) is
        (expr_case (λ e. e.0) (λ e. e.0) (λ e. e.0) (λ e. e.0) (λ e. e.1) (λ e. e.1) y))
        (λ x y is. subst (λ z. PlaceClaim (roll-PlaceKind z)) is
        (place_case (λ e. e.0) (λ e. e.0) (λ e. e.0) (λ e. e.0) (λ e. e.1) (λ e. e.1) y))
        (λ x y is. subst (λ z. ExprClaim z.kind) is y.kind.1)
        (λ x y is. subst (λ z. PlaceClaim z.kind) is y.kind.1)

    expr_owned : (e : Expr) → Every P (number.expr_numbers e) → OwnedCode (c.expr structs e)
    expr_owned e h = expr_kind_owned e.kind e.ty e.node h

    -- ---- statements

    module _ (objects : List (List Slot)) where
      test_owned : (node : ℕ) (e : Expr) → P node → Every P (number.expr_numbers e)
          → OwnedGuard (b.test_guard structs objects node e)
      test_owned node e o h = g_guard node _ (c.expr structs e) o (expr_owned e h)

      optional_test : (node : ℕ) (e : Option Expr) → P node → Every P (some_of number.expr_numbers e)
          → OwnedGuard (b.optional_guard structs objects node e)
      optional_test node None o h = g_none
      optional_test node (Some e) o h = test_owned node e o h

      dropped_owned : (node : ℕ) (e : Expr) → P node → Every P (number.expr_numbers e)
          → OwnedPart (b.dropped node (c.expr structs e))
      dropped_owned node e o h = p_taken node (step.Drop 0) (c.expr structs e) o (expr_owned e h)

      optional_dropped : (node : ℕ) (e : Option Expr) → P node → Every P (some_of number.expr_numbers e)
          → OwnedPart (b.optional_part structs objects node e)
      optional_dropped node None o h = p_none
      optional_dropped node (Some e) o h = dropped_owned node e o h

      init_owned : (node n offset : ℕ) (marked : Bool) (e : Option Expr) → P node → Every P (some_of number.expr_numbers e)
          → OwnedPart (b.init_value structs objects node n offset marked e)
      init_owned node n offset marked None o h = p_one node _ o
      init_owned node n offset marked (Some e) o h = p_taken node _ (c.expr structs e) o (expr_owned e h)

      inits_owned : (node n : ℕ) (is : List Init) → P node → Every P (joined (map number.init_numbers is))
          → OwnedPart (b.init_parts structs objects node n is)
      inits_owned node n [] o h = p_none
      inits_owned node n (i ∷ is) o h =
          p_then (b.init_value structs objects node n i.offset i.marked i.value) (b.init_parts structs objects node n is)
          (init_owned node n i.offset i.marked i.value o
          (front (number.init_numbers i) (joined (map number.init_numbers is)) h))
          (inits_owned node n is o (back (number.init_numbers i) (joined (map number.init_numbers is)) h))

      declare_owned : (node n : ℕ) (is : List Init) → P node → Every P (joined (map number.init_numbers is))
          → OwnedPart (b.declare_part structs objects node n is)
      declare_owned node n [] o h = p_one node (step.Undefine n) o
      declare_owned node n (i ∷ is) o h = inits_owned node n (i ∷ is) o h

      abbrev StmtClaim : StmtKind → Type 0
      StmtClaim k = (node : ℕ) → Every P (stmt_kind_numbers k node) → OwnedBody (b.stmt_kind structs objects k node)

      abbrev GroupClaim : Group → Type 0
      GroupClaim g = Every P (group_numbers g) → OwnedBody (stmts.grouped structs objects g).body

      all_bodies : {C : Type 0} (fc : C → Stmt) → ((x : C) → StmtClaim (fc x).kind) → (xs : List C)
          → Every P (joined (map number.stmt_numbers (map fc xs)))
          → OwnedBody (b.bodies (map (b.stmt structs objects) (map fc xs)))
      all_bodies fc hc [] h = v_none
      all_bodies fc hc (x ∷ xs) h =
          let rest = joined (map number.stmt_numbers (map fc xs)) in
          v_then (b.stmt structs objects (fc x)) (b.bodies (map (b.stmt structs objects) (map fc xs)))
          (hc x (fc x).node (front (number.stmt_numbers (fc x)) rest h))
          (all_bodies fc hc xs (back (number.stmt_numbers (fc x)) rest h))

      module _ {A B C : Type 0} (fa : A → StmtKind) (fb : B → Group) (fc : C → Stmt) (hb : (x : B) → GroupClaim (fb x))
          (hc : (x : C) → StmtClaim (fc x).kind) where
        abbrev opened_stmt : StmtKind-F A B C → StmtKind-F StmtKind Group Stmt
        opened_stmt y = map-StmtKind A B C StmtKind Group Stmt fa fb fc y

        abbrev stmt_coded : StmtKind-F A B C → ℕ → Body
        stmt_coded y = b.stmt_layer structs objects (map-StmtKind StmtKind Group Stmt (ℕ → Body) Grouped Body
            (b.stmt_kind structs objects) (stmts.grouped structs objects) (b.stmt structs objects) (opened_stmt y))

        one_stmt : (x : C) → Every P (number.stmt_numbers (fc x)) → OwnedBody (b.stmt structs objects (fc x))
        one_stmt x h = hc x (fc x).node h

        all_groups : (xs : List B) → Every P (joined (map group_numbers (map fb xs)))
            → OwnedBody (b.groups_body (map (stmts.grouped structs objects) (map fb xs)))
        all_groups [] h = v_none
        all_groups (x ∷ xs) h =
            let rest = joined (map group_numbers (map fb xs)) in
            v_then (stmts.grouped structs objects (fb x)).body
            (b.groups_body (map (stmts.grouped structs objects) (map fb xs))) (hb x (front (group_numbers (fb x)) rest h))
            (all_groups xs (back (group_numbers (fb x)) rest h))

        a_loop : (node : ℕ) (test part : Option Expr) (body : C) → P node → Every P (some_of number.expr_numbers test)
            → Every P (some_of number.expr_numbers part) → Every P (number.stmt_numbers (fc body))
            → OwnedBody (b.loop_body node (b.optional_guard structs objects node test) (b.stmt structs objects (fc body))
            (b.optional_part structs objects node part))
        a_loop node test part body o ht hp hb =
            v_loop node (b.optional_guard structs objects node test) (b.stmt structs objects (fc body))
            (b.optional_part structs objects node part) o (optional_test node test o ht) (one_stmt body hb)
            (optional_dropped node part o hp)

        layer_of : (y : StmtKind-F A B C) (node : ℕ) → P node → Every P (numbered_stmt (opened_stmt y))
            → OwnedBody (stmt_coded y node)
        layer_of (StmtKind-F.Expr e) node o h = v_part (b.dropped node (c.expr structs e)) (dropped_owned node e o h)
        layer_of (StmtKind-F.Block all) node o h = all_bodies fc hc all h
        layer_of (StmtKind-F.If test x None) node o h =
            let first = number.expr_numbers test in
            let second = number.stmt_numbers (fc x) in
            v_if node (b.test_guard structs objects node test) (b.stmt structs objects (fc x)) b.no_body o
            (test_owned node test o (front first second (front (first ++ second) [] h)))
            (one_stmt x (back first second (front (first ++ second) [] h))) v_none
        layer_of (StmtKind-F.If test x (Some y)) node o h =
            let first = number.expr_numbers test in
            let second = number.stmt_numbers (fc x) in
            let third = number.stmt_numbers (fc y) in
            v_if node (b.test_guard structs objects node test) (b.stmt structs objects (fc x)) (b.stmt structs objects (fc y)) o
            (test_owned node test o (front first second (front (first ++ second) third h)))
            (one_stmt x (back first second (front (first ++ second) third h))) (one_stmt y (back (first ++ second) third h))
        layer_of (StmtKind-F.While test x) node o h =
            v_loop node (b.test_guard structs objects node test) (b.stmt structs objects (fc x)) b.no_part o
            (test_owned node test o (front (number.expr_numbers test) (number.stmt_numbers (fc x)) h))
            (one_stmt x (back (number.expr_numbers test) (number.stmt_numbers (fc x)) h)) p_none
        layer_of (StmtKind-F.Do x test) node o h =
            v_do node (b.test_guard structs objects node test) (b.stmt structs objects (fc x)) o
            (test_owned node test o (back (number.stmt_numbers (fc x)) (number.expr_numbers test) h))
            (one_stmt x (front (number.stmt_numbers (fc x)) (number.expr_numbers test) h))
        layer_of (StmtKind-F.For None test part x) node o h =
            let second = some_of number.expr_numbers test in
            let third = some_of number.expr_numbers part in
            let last = number.stmt_numbers (fc x) in
            let front3 = front ([] ++ second ++ third) last h in
            let front2 = front ([] ++ second) third front3 in
            v_then b.no_body (b.loop_body node (b.optional_guard structs objects node test) (b.stmt structs objects (fc x))
            (b.optional_part structs objects node part)) v_none
            (a_loop node test part x o front2 (back ([] ++ second) third front3) (back ([] ++ second ++ third) last h))
        layer_of (StmtKind-F.For (Some begin) test part x) node o h =
            let first = number.stmt_numbers (fc begin) in
            let second = some_of number.expr_numbers test in
            let third = some_of number.expr_numbers part in
            let last = number.stmt_numbers (fc x) in
            let front3 = front (first ++ second ++ third) last h in
            let front2 = front (first ++ second) third front3 in
            v_then (b.stmt structs objects (fc begin))
            (b.loop_body node (b.optional_guard structs objects node test) (b.stmt structs objects (fc x))
            (b.optional_part structs objects node part)) (one_stmt begin (front first second front2))
            (a_loop node test part x o (back first second front2) (back (first ++ second) third front3)
            (back (first ++ second ++ third) last h))
        layer_of (StmtKind-F.Switch on groups) node o h =
            let rest = joined (map group_numbers (map fb groups)) in
            v_switch node _ (c.expr structs on) (map (stmts.grouped structs objects) (map fb groups)) o
            (expr_owned on (front (number.expr_numbers on) rest h))
            (all_groups groups (back (number.expr_numbers on) rest h))
        layer_of StmtKind-F.Break node o h = v_one node (λ p brk cont. step.Jump brk) o
        layer_of StmtKind-F.Continue node o h = v_one node (λ p brk cont. step.Jump cont) o
        layer_of (StmtKind-F.Return None) node o h = v_one node (λ p brk cont. step.ReturnNothing) o
        layer_of (StmtKind-F.Return (Some e)) node o h =
            v_part (b.taken_by node (step.Return 0 operand.Temporary) (c.expr structs e))
            (p_taken node (step.Return 0 operand.Temporary) (c.expr structs e) o (expr_owned e h))
        layer_of (StmtKind-F.Stamped p e) node o h = v_none
        layer_of (StmtKind-F.Timely p limit x y) node o h = v_none
        layer_of (StmtKind-F.Expires names body caught) node o h = v_none
        layer_of (StmtKind-F.Declare n init) node o h =
            v_part (b.declare_part structs objects node n init) (declare_owned node n init o h)

        stmt_case : (y : StmtKind-F A B C) → StmtClaim (roll-StmtKind (opened_stmt y))
        stmt_case y = λ node h.
            let x = opened_stmt y in
            let own = subst (λ (g : ℕ → Numbers). Every P (g node)) (stmt_numbers_roll x) h in
            subst (λ (g : ℕ → Body). OwnedBody (g node)) (sym (stmts.code_roll structs objects x))
            (layer_of y node own.0 own.1)

      group_case : {A B C : Type 0} (fa : A → StmtKind) (fb : B → Group) (fc : C → Stmt) → ((x : C) → StmtClaim (fc x).kind)
          → (y : Group-F A B C) → GroupClaim (roll-Group (map-Group A B C StmtKind Group Stmt fa fb fc y))
      group_case {A} {B} {C} fa fb fc hc y = λ h.
          let x = map-Group A B C StmtKind Group Stmt fa fb fc y in
          subst (λ (g : Grouped). OwnedBody g.body) (sym (stmts.code_group_roll structs objects x))
          (all_bodies fc hc y.body (subst (λ (ns : Numbers). Every P ns) (group_numbers_roll x) h))

      stmt_owned : (k : StmtKind) → StmtClaim k
      stmt_owned = ind-StmtKind StmtClaim GroupClaim (λ x. StmtClaim x.kind)
          (λ x y is. subst (λ z. StmtClaim (roll-StmtKind z)) is
          (stmt_case (λ e. e.0) (λ e. e.0) (λ e. e.0) (λ e. e.1) (λ e. e.1) y))
          (λ x y is. subst (λ z. GroupClaim (roll-Group z)) is (group_case (λ e. e.0) (λ e. e.0) (λ e. e.0) (λ e. e.1) y))
          (λ x y is. subst (λ z. StmtClaim z.kind) is y.kind.1)

      stmts_owned : (xs : List Stmt) → Every P (joined (map number.stmt_numbers xs)) → OwnedBody (b.stmts structs objects xs)
      stmts_owned [] h = v_none
      stmts_owned (x ∷ xs) h =
          let rest = joined (map number.stmt_numbers xs) in
          v_then (b.stmt structs objects x) (b.stmts structs objects xs)
          (stmt_owned x.kind x.node (front (number.stmt_numbers x) rest h))
          (stmts_owned xs (back (number.stmt_numbers x) rest h))

      end_owned : (main : Bool) (node : ℕ) → P node → Owned (at_node node (b.end_step structs objects main) ∷ [])
      end_owned true node h = (h, tt)
      end_owned false node h = (h, tt)

      -- the steps of a function
      pub function_owned : (main : Bool) (params : ℕ) (x : Function) → Every P (function_numbers x)
          → Owned (b.function_steps structs objects main params x.node x.body)
      function_owned main params x h =
          let size = (b.stmts structs objects x.body).size in (
            h.0,
            owned_append ((b.stmts structs objects x.body).steps 1 (1 + size) (1 + size)) _
                ((stmts_owned x.body h.1).owned 1 (1 + size) (1 + size)) (end_owned main x.node h.0),
          )
