-- The temporaries that the steps of statements and functions use, and how far these jump.
use Rattle.std.proofs.Common.{◌≡◌, ℕ, ◌+◌, ◌≤◌, List, [], ◌∷◌, length, map, Option, Some, None, Bool, true, false, cond, refl, sym, subst, arith, rules}
use Rattle.std.specs.Prelude.{slice_get, ℤ}
use Rattle.base16.specs.declared.image.Kind.{Kind}
use Rattle.base16.specs.declared.integer.IntType.{IntType}
use Rattle.core_tree.specs.Heights as height
use Rattle.core_tree.specs.declared.program.Function.{Function}
use Rattle.core_tree.specs.declared.types.Slot.{Slot}
use Rattle.core_tree.specs.declared.types.Struct.{Struct}
use Rattle.core_tree.specs.declared.expressions.Expr.{Expr}
use Rattle.core_tree.specs.declared.statements.Init.{Init}
use Rattle.core_tree.specs.declared.statements.Group.{Group, Group-F, roll-Group, map-Group}
use Rattle.core_tree.specs.declared.statements.Stmt.{Stmt}
use Rattle.core_tree.specs.declared.statements.StmtKind.{StmtKind, ind-StmtKind, the_lemmas, roll-StmtKind, map-StmtKind}
use Rattle.core_tree.specs.declared.statements.StmtKind.TheOpen.{StmtKind-F}
use Rattle.c_meaning.specs.Statements.{has_default}
use Rattle.ir.specs.declared.form.Operand.{Operand}
use Rattle.ir.specs.declared.form.Operand.TheVariants as operand
use Rattle.ir.specs.declared.form.Step.{Step}
use Rattle.ir.specs.declared.form.StepKind.{StepKind}
use Rattle.ir.specs.declared.form.StepKind.TheVariants as step
use Rattle.ir.specs.Table.{reach}
use Rattle.ir_gen.specs.Code as c
use Rattle.ir_gen.specs.Code.{Code, at_node}
use Rattle.ir_gen.specs.Body as b
use Rattle.ir_gen.specs.Body.{Body, Guard, Part, Grouped}
use Rattle.ir_gen.specs.Ranges.{jump_of, FitsFrame, JumpsInside}
use Rattle.ir_gen.proofs.StmtTree as stmts
use Rattle.ir_gen.proofs.Order.{function_length}
use Rattle.ir_gen.proofs.Depths.{Held, held_append, held_at, Low, expr_low, taken_one}

-- ---- statements use no more temporaries than a number, which is at least 1, and jump no further than where they may

record LowBody (n : ℕ) (code : Body) : Type 0 where
  held : (p brk cont high far : ℕ) → n ≤ high → 1 ≤ high → p + code.size ≤ far → brk ≤ far → cont ≤ far
      → Held high far (code.steps p brk cont)

record LowGuard (n : ℕ) (code : Guard) : Type 0 where
  held : (p other high far : ℕ) → n ≤ high → 1 ≤ high → p + code.size ≤ far → other ≤ far → Held high far (code.steps p other)

record LowPart (n : ℕ) (code : Part) : Type 0 where
  held : (p high far : ℕ) → n ≤ high → 1 ≤ high → p + code.size ≤ far → Held high far (code.steps p)

b_none : (n : ℕ) → LowBody n b.no_body
b_none n = record { held = λ p brk cont h f a s u v w. tt }

b_one : (n node : ℕ) (k : ℕ → ℕ → ℕ → StepKind)
    → ((p brk cont f : ℕ) → p + 1 ≤ f → brk ≤ f → cont ≤ f → (reach (k p brk cont) ≤ 1) × (jump_of (k p brk cont) ≤ f))
    → LowBody n (b.one_body node k)
b_one n node k hk = record {
  held = λ p brk cont h f a s u v w. (omega (arith, (hk p brk cont f u v w).0, s), (hk p brk cont f u v w).1, tt);
}

b_then : (n m r : ℕ) (x y : Body) → n ≤ r → m ≤ r → LowBody n x → LowBody m y → LowBody r (b.then_body x y)
b_then n m r x y hn hm hx hy = record {
  held = λ p brk cont h f a s u v w.
      held_append h f (x.steps p brk cont) (y.steps (p + x.size) brk cont)
      (hx.held p brk cont h f (omega (arith, hn, a)) s (omega (arith, u)) v w)
      (hy.held (p + x.size) brk cont h f (omega (arith, hm, a)) s (omega (arith, u)) v w);
}

g_none : (n : ℕ) → LowGuard n b.no_guard
g_none n = record { held = λ p other h f a s u v. tt }

g_guard : (n node : ℕ) (t : IntType) (x : Code) → Low n x → LowGuard n (b.guard node t x)
g_guard n node t x hx = record {
  held = λ p other h f a s u v.
      held_append h f (x.steps p 0) (at_node node (c.unless t other 0) ∷ [])
      (hx.held p 0 h f (omega (arith, a)) (omega (arith, u))) (omega (arith, s), omega (arith, v), tt);
}

p_none : (n : ℕ) → LowPart n b.no_part
p_none n = record { held = λ p h f a s u. tt }

p_one : (n node : ℕ) (k : StepKind) → reach k ≤ 1 → jump_of k ≡ 0 → LowPart n (b.one_part node k)
p_one n node k hr hj = record { held = λ p h f a s u. (omega (arith, hr, s), omega (arith, hj), tt) }

p_taken : (n node : ℕ) (k : StepKind) (x : Code) → reach k ≤ 1 → jump_of k ≡ 0 → Low n x → LowPart n (b.taken_by node k x)
p_taken n node k x hr hj hx = record {
  held = λ p h f a s u.
      held_append h f (x.steps p 0) (at_node node k ∷ []) (hx.held p 0 h f (omega (arith, a)) (omega (arith, u)))
      (omega (arith, hr, s), omega (arith, hj), tt);
}

p_then : (n m r : ℕ) (x y : Part) → n ≤ r → m ≤ r → LowPart n x → LowPart m y → LowPart r (b.then_part x y)
p_then n m r x y hn hm hx hy = record {
  held = λ p h f a s u.
      held_append h f (x.steps p) (y.steps (p + x.size)) (hx.held p h f (omega (arith, hn, a)) s (omega (arith, u)))
      (hy.held (p + x.size) h f (omega (arith, hm, a)) s (omega (arith, u)));
}

b_part : (n : ℕ) (x : Part) → LowPart n x → LowBody n (b.part_body x)
b_part n x hx = record { held = λ p brk cont h f a s u v w. hx.held p h f a s u }

b_if : (n m l r node : ℕ) (g : Guard) (x y : Body) → n ≤ r → m ≤ r → l ≤ r → LowGuard n g → LowBody m x → LowBody l y
    → LowBody r (b.if_body node g x y)
b_if n m l r node g x y hn hm hl hg hx hy = record {
  held = λ p brk cont h f a s u v w.
      held_append h f (g.steps p (p + g.size + x.size + 1)) _
      (hg.held p (p + g.size + x.size + 1) h f (omega (arith, hn, a)) s (omega (arith, u)) (omega (arith, u)))
      (held_append h f (x.steps (p + g.size) brk cont) _
      (hx.held (p + g.size) brk cont h f (omega (arith, hm, a)) s (omega (arith, u)) v w) (
        omega arith,
        omega (arith, u),
        hy.held (p + g.size + x.size + 1) brk cont h f (omega (arith, hl, a)) s (omega (arith, u)) v w,
      ));
}

b_loop : (n m l r node : ℕ) (g : Guard) (x : Body) (z : Part) → n ≤ r → m ≤ r → l ≤ r → LowGuard n g → LowBody m x
    → LowPart l z → LowBody r (b.loop_body node g x z)
b_loop n m l r node g x z hn hm hl hg hx hz = record {
  held = λ p brk cont h f a s u v w. (
    omega arith,
    omega arith,
    held_append h f (g.steps (p + 1) (p + 1 + g.size + x.size + z.size + 1)) _
        (hg.held (p + 1) (p + 1 + g.size + x.size + z.size + 1) h f (omega (arith, hn, a)) s (omega (arith, u))
        (omega (arith, u)))
        (held_append h f (x.steps (p + 1 + g.size) (p + 1 + g.size + x.size + z.size + 1) (p + 1 + g.size + x.size)) _
        (hx.held (p + 1 + g.size) (p + 1 + g.size + x.size + z.size + 1) (p + 1 + g.size + x.size) h f (omega (arith, hm, a))
        s (omega (arith, u)) (omega (arith, u)) (omega (arith, u)))
        (held_append h f (z.steps (p + 1 + g.size + x.size)) _
        (hz.held (p + 1 + g.size + x.size) h f (omega (arith, hl, a)) s (omega (arith, u)))
        (omega arith, omega (arith, u), tt))),
  );
}

b_do : (n m r node : ℕ) (g : Guard) (x : Body) → n ≤ r → m ≤ r → LowGuard n g → LowBody m x
    → LowBody r (b.do_body node g x)
b_do n m r node g x hn hm hg hx = record {
  held = λ p brk cont h f a s u v w. (
    omega arith,
    omega (arith, u),
    (b_loop n m 0 r node g x b.no_part hn hm (omega arith) hg hx (p_none 0)).held (p + 1) brk cont h f a s
        (omega (arith, u)) v w,
  );
}

-- ---- switch

place_within : (passes : List (Option ℤ) → Bool) (p : ℕ) (gs : List Grouped)
    → b.place_of passes p gs ≤ p + (b.groups_body gs).size
place_within passes p [] = omega arith
place_within passes p (g ∷ gs) = by_bool (passes g.labels) (place_within passes (p + g.body.size) gs)
  where
    by_bool : (e : Bool) → b.place_of passes (p + g.body.size) gs ≤ p + g.body.size + (b.groups_body gs).size
        → cond e p (b.place_of passes (p + g.body.size) gs) ≤ p + (g.body.size + (b.groups_body gs).size)
    by_bool true h = omega arith
    by_bool false h = omega (arith, h)

labels_held : (node : ℕ) (t : IntType) (to high far : ℕ) (ls : List (Option ℤ)) → 1 ≤ high → to ≤ far
    → Held high far (b.label_cases node t to ls)
labels_held node t to high far [] s h = tt
labels_held node t to high far (None ∷ ls) s h = labels_held node t to high far ls s h
labels_held node t to high far (Some n ∷ ls) s h = (omega (arith, s), h, labels_held node t to high far ls s h)

cases_held : (node : ℕ) (t : IntType) (p high far : ℕ) (gs : List Grouped) → 1 ≤ high → p + (b.groups_body gs).size ≤ far
    → Held high far (b.cases node t p gs)
cases_held node t p high far [] s h = tt
cases_held node t p high far (g ∷ gs) s h =
    held_append high far (b.label_cases node t p g.labels) (b.cases node t (p + g.body.size) gs)
    (labels_held node t p high far g.labels s (omega (arith, h)))
    (cases_held node t (p + g.body.size) high far gs s (omega (arith, h)))

b_switch : (n m r node : ℕ) (t : IntType) (x : Code) (gs : List Grouped) → n ≤ r → m ≤ r → Low n x
    → LowBody m (b.groups_body gs) → LowBody r (b.switch_body node t x gs)
b_switch n m r node t x gs hn hm hx hg = record {
  held = λ p brk cont h f a s u v w.
      held_append h f (x.steps p 0) _ (hx.held p 0 h f (omega (arith, hn, a)) (omega (arith, u)))
      (held_append h f (b.cases node t (b.groups_at p x gs) gs) _
      (cases_held node t (b.groups_at p x gs) h f gs s (omega (arith, u))) (
        omega (arith, s),
        omega arith,
        (
          omega arith,
          omega (arith, place_within has_default (b.groups_at p x gs) gs, u),
          hg.held (b.groups_at p x gs) (b.groups_end p x gs) cont h f (omega (arith, hm, a)) s (omega (arith, u))
              (omega (arith, u)) w,
        ),
      ));
}

-- ---- initialisers

init_reach : (n offset : ℕ) (k : Kind) (marked : Bool) (x : Operand) → reach (b.init_step n offset k marked x) ≤ 1
init_reach n offset k true x = omega (arith, taken_one x)
init_reach n offset k false x = omega (arith, taken_one x)

init_jump : (n offset : ℕ) (k : Kind) (marked : Bool) (x : Operand) → jump_of (b.init_step n offset k marked x) ≡ 0
init_jump n offset k true x = refl
init_jump n offset k false x = refl

-- ---- heights, all kinds at once

height_roll : (x : StmtKind-F StmtKind Group Stmt) → height.stmt_kind_height (roll-StmtKind x)
    ≡ height.stmt_step (map-StmtKind StmtKind Group Stmt ℕ ℕ ℕ height.stmt_kind_height height.group_height
    height.stmt_height x)
height_roll x = search (rules, the_lemmas)

height_group_roll : (x : Group-F StmtKind Group Stmt) → height.group_height (roll-Group x)
    ≡ height.tallest (map height.stmt_height x.body)
height_group_roll x = search (rules, the_lemmas)

-- ---- by induction

module _ (structs : List Struct) (objects : List (List Slot)) where
  g_test : (node : ℕ) (e : Expr) → LowGuard (height.expr_height e) (b.test_guard structs objects node e)
  g_test node e = g_guard (height.expr_height e) node _ (c.expr structs e) (expr_low structs e)

  g_optional : (node : ℕ) (e : Option Expr) → LowGuard (height.optional height.expr_height e)
      (b.optional_guard structs objects node e)
  g_optional node None = g_none 0
  g_optional node (Some e) = g_test node e

  p_dropped : (node : ℕ) (e : Expr) → LowPart (height.expr_height e) (b.dropped node (c.expr structs e))
  p_dropped node e = p_taken (height.expr_height e) node (step.Drop 0) (c.expr structs e) (omega arith) refl (expr_low structs e)

  p_optional : (node : ℕ) (e : Option Expr) → LowPart (height.optional height.expr_height e)
      (b.optional_part structs objects node e)
  p_optional node None = p_none 0
  p_optional node (Some e) = p_dropped node e

  p_init : (node n offset : ℕ) (marked : Bool) (e : Option Expr)
      → LowPart (height.optional height.expr_height e) (b.init_value structs objects node n offset marked e)
  p_init node n offset marked None =
      p_one 0 node _
      (init_reach n offset (b.local_kind objects n offset) marked (b.zero_of (b.local_kind objects n offset)))
      (init_jump n offset (b.local_kind objects n offset) marked (b.zero_of (b.local_kind objects n offset)))
  p_init node n offset marked (Some e) =
      p_taken (height.expr_height e) node _ (c.expr structs e)
      (init_reach n offset (b.local_kind objects n offset) marked operand.Temporary)
      (init_jump n offset (b.local_kind objects n offset) marked operand.Temporary) (expr_low structs e)

  p_inits : (node n : ℕ) (is : List Init) → LowPart (height.tallest (map height.init_height is))
      (b.init_parts structs objects node n is)
  p_inits node n [] = p_none 0
  p_inits node n (i ∷ is) =
      p_then (height.init_height i) (height.tallest (map height.init_height is)) _
      (b.init_value structs objects node n i.offset i.marked i.value) (b.init_parts structs objects node n is) (omega arith)
      (omega arith) (p_init node n i.offset i.marked i.value) (p_inits node n is)

  p_declare : (node n : ℕ) (is : List Init) → LowPart (height.tallest (map height.init_height is))
      (b.declare_part structs objects node n is)
  p_declare node n [] = p_one 0 node (step.Undefine n) (omega arith) refl
  p_declare node n (i ∷ is) = p_inits node n (i ∷ is)

  abbrev StmtClaim : StmtKind → Type 0
  StmtClaim k = (node : ℕ) → LowBody (height.stmt_kind_height k) (b.stmt_kind structs objects k node)

  abbrev GroupClaim : Group → Type 0
  GroupClaim g = LowBody (height.group_height g) (stmts.grouped structs objects g).body

  all_bodies : {C : Type 0} (fc : C → Stmt) → ((x : C) → StmtClaim (fc x).kind) → (xs : List C)
      → LowBody (height.tallest (map height.stmt_height (map fc xs))) (b.bodies (map (b.stmt structs objects) (map fc xs)))
  all_bodies fc hc [] = b_none 0
  all_bodies fc hc (x ∷ xs) =
      b_then (height.stmt_height (fc x)) (height.tallest (map height.stmt_height (map fc xs))) _
      (b.stmt structs objects (fc x)) (b.bodies (map (b.stmt structs objects) (map fc xs))) (omega arith) (omega arith)
      (hc x (fc x).node) (all_bodies fc hc xs)

  module _ {A B C : Type 0} (fa : A → StmtKind) (fb : B → Group) (fc : C → Stmt) (hb : (x : B) → GroupClaim (fb x))
      (hc : (x : C) → StmtClaim (fc x).kind) where
    abbrev opened_stmt : StmtKind-F A B C → StmtKind-F StmtKind Group Stmt
    opened_stmt y = map-StmtKind A B C StmtKind Group Stmt fa fb fc y

    abbrev stmt_coded : StmtKind-F A B C → ℕ → Body
    stmt_coded y = b.stmt_layer structs objects (map-StmtKind StmtKind Group Stmt (ℕ → Body) Grouped Body
        (b.stmt_kind structs objects) (stmts.grouped structs objects) (b.stmt structs objects) (opened_stmt y))

    abbrev high : StmtKind-F A B C → ℕ
    high y = height.stmt_step (map-StmtKind StmtKind Group Stmt ℕ ℕ ℕ height.stmt_kind_height height.group_height
        height.stmt_height (opened_stmt y))

    one_stmt : (x : C) → LowBody (height.stmt_height (fc x)) (b.stmt structs objects (fc x))
    one_stmt x = hc x (fc x).node

    all_groups : (xs : List B) → LowBody (height.tallest (map height.group_height (map fb xs)))
        (b.groups_body (map (stmts.grouped structs objects) (map fb xs)))
    all_groups [] = b_none 0
    all_groups (x ∷ xs) =
        b_then (height.group_height (fb x)) (height.tallest (map height.group_height (map fb xs))) _
        (stmts.grouped structs objects (fb x)).body (b.groups_body (map (stmts.grouped structs objects) (map fb xs)))
        (omega arith) (omega arith) (hb x) (all_groups xs)

    a_loop : (r node : ℕ) (test part : Option Expr) (body : C) → height.optional height.expr_height test ≤ r
        → height.optional height.expr_height part ≤ r → height.stmt_height (fc body) ≤ r
        → LowBody r (b.loop_body node (b.optional_guard structs objects node test) (b.stmt structs objects (fc body))
        (b.optional_part structs objects node part))
    a_loop r node test part body ht hp hb =
        b_loop _ _ _ r node (b.optional_guard structs objects node test) (b.stmt structs objects (fc body))
        (b.optional_part structs objects node part) ht hb hp (g_optional node test) (one_stmt body) (p_optional node part)

    stmt_layer : (y : StmtKind-F A B C) (node : ℕ) → LowBody (high y) (stmt_coded y node)
    stmt_layer (StmtKind-F.Expr e) node = b_part _ (b.dropped node (c.expr structs e)) (p_dropped node e)
    stmt_layer (StmtKind-F.Block all) node = all_bodies fc hc all
    stmt_layer (StmtKind-F.If test x None) node =
        b_if _ _ 0 _ node (b.test_guard structs objects node test) (b.stmt structs objects (fc x)) b.no_body (omega arith)
        (omega arith) (omega arith) (g_test node test) (one_stmt x) (b_none 0)
    stmt_layer (StmtKind-F.If test x (Some y)) node =
        b_if _ _ _ _ node (b.test_guard structs objects node test) (b.stmt structs objects (fc x))
        (b.stmt structs objects (fc y)) (omega arith) (omega arith) (omega arith) (g_test node test) (one_stmt x) (one_stmt y)
    stmt_layer (StmtKind-F.While test x) node =
        b_loop _ _ 0 _ node (b.test_guard structs objects node test) (b.stmt structs objects (fc x)) b.no_part (omega arith)
        (omega arith) (omega arith) (g_test node test) (one_stmt x) (p_none 0)
    stmt_layer (StmtKind-F.Do x test) node =
        b_do _ _ _ node (b.test_guard structs objects node test) (b.stmt structs objects (fc x)) (omega arith) (omega arith)
        (g_test node test) (one_stmt x)
    stmt_layer (StmtKind-F.For None test part x) node =
        b_then 0 _ _ b.no_body (b.loop_body node (b.optional_guard structs objects node test) (b.stmt structs objects (fc x))
        (b.optional_part structs objects node part)) (omega arith) (omega arith) (b_none 0)
        (a_loop (high (StmtKind-F.For None test part x)) node test part x (omega arith) (omega arith) (omega arith))
    stmt_layer (StmtKind-F.For (Some begin) test part x) node =
        b_then _ _ _ (b.stmt structs objects (fc begin))
        (b.loop_body node (b.optional_guard structs objects node test) (b.stmt structs objects (fc x))
        (b.optional_part structs objects node part)) (omega arith) (omega arith) (one_stmt begin)
        (a_loop (high (StmtKind-F.For (Some begin) test part x)) node test part x (omega arith) (omega arith) (omega arith))
    stmt_layer (StmtKind-F.Switch on groups) node =
        b_switch _ _ _ node _ (c.expr structs on) (map (stmts.grouped structs objects) (map fb groups)) (omega arith)
        (omega arith) (expr_low structs on) (all_groups groups)
    stmt_layer StmtKind-F.Break node =
        b_one 0 node (λ p brk cont. step.Jump brk) (λ p brk cont f u v w. (omega arith, v))
    stmt_layer StmtKind-F.Continue node =
        b_one 0 node (λ p brk cont. step.Jump cont) (λ p brk cont f u v w. (omega arith, w))
    stmt_layer (StmtKind-F.Return None) node =
        b_one 0 node (λ p brk cont. step.ReturnNothing) (λ p brk cont f u v w. (omega arith, omega arith))
    stmt_layer (StmtKind-F.Return (Some e)) node =
        b_part _ (b.taken_by node (step.Return 0 operand.Temporary) (c.expr structs e))
        (p_taken _ node (step.Return 0 operand.Temporary) (c.expr structs e) (omega arith) refl (expr_low structs e))
    stmt_layer (StmtKind-F.Stamped p e) node = b_none _
    stmt_layer (StmtKind-F.Timely p limit x y) node = b_none _
    stmt_layer (StmtKind-F.Expires names body caught) node = b_none _
    stmt_layer (StmtKind-F.Declare n init) node = b_part _ (b.declare_part structs objects node n init) (p_declare node n init)

    stmt_case : (y : StmtKind-F A B C) → StmtClaim (roll-StmtKind (opened_stmt y))
    stmt_case y = λ node.
        let x = opened_stmt y in
        subst (λ (n : ℕ). LowBody n (b.stmt_kind structs objects (roll-StmtKind x) node)) (sym (height_roll x))
        (subst (λ (g : ℕ → Body). LowBody (high y) (g node)) (sym (stmts.code_roll structs objects x)) (stmt_layer y node))

  group_case : {A B C : Type 0} (fa : A → StmtKind) (fb : B → Group) (fc : C → Stmt) → ((x : C) → StmtClaim (fc x).kind)
      → (y : Group-F A B C) → GroupClaim (roll-Group (map-Group A B C StmtKind Group Stmt fa fb fc y))
  group_case {A} {B} {C} fa fb fc hc y =
      let x = map-Group A B C StmtKind Group Stmt fa fb fc y in
      subst (λ (n : ℕ). LowBody n (stmts.grouped structs objects (roll-Group x)).body) (sym (height_group_roll x))
      (subst (λ (g : Grouped). LowBody (height.tallest (map height.stmt_height (map fc y.body))) g.body)
      (sym (stmts.code_group_roll structs objects x)) (all_bodies fc hc y.body))

  stmt_low : (k : StmtKind) → StmtClaim k
  stmt_low = ind-StmtKind StmtClaim GroupClaim (λ x. StmtClaim x.kind)
      (λ x y is. subst (λ z. StmtClaim (roll-StmtKind z)) is
      (stmt_case (λ e. e.0) (λ e. e.0) (λ e. e.0) (λ e. e.1) (λ e. e.1) y))
      (λ x y is. subst (λ z. GroupClaim (roll-Group z)) is (group_case (λ e. e.0) (λ e. e.0) (λ e. e.0) (λ e. e.1) y))
      (λ x y is. subst (λ z. StmtClaim z.kind) is y.kind.1)

  stmts_low : (xs : List Stmt) → LowBody (height.tallest (map height.stmt_height xs)) (b.stmts structs objects xs)
  stmts_low [] = b_none 0
  stmts_low (x ∷ xs) =
      b_then (height.stmt_height x) (height.tallest (map height.stmt_height xs)) _ (b.stmt structs objects x)
      (b.stmts structs objects xs) (omega arith) (omega arith) (stmt_low x.kind x.node) (stmts_low xs)

  end_held : (main : Bool) (node high far : ℕ) → Held high far (at_node node (b.end_step structs objects main) ∷ [])
  end_held true node high far = (omega arith, omega arith, tt)
  end_held false node high far = (omega arith, omega arith, tt)

  -- the steps of a function
  function_held : (main : Bool) (x : Function)
      → Held (height.height_of x) (1 + (b.stmts structs objects x.body).size)
      (b.function_steps structs objects main (length x.params) x.node x.body)
  function_held main x =
      let size = (b.stmts structs objects x.body).size in (
        omega arith,
        omega arith,
        held_append (height.height_of x) (1 + size) ((b.stmts structs objects x.body).steps 1 (1 + size) (1 + size)) _
            ((stmts_low x.body).held 1 (1 + size) (1 + size) (height.height_of x) (1 + size) (omega arith) (omega arith)
            (omega arith) (omega arith) (omega arith)) (end_held main x.node (height.height_of x) (1 + size)),
      )

  abbrev end_of : Function → ℕ
  end_of x = 1 + (b.stmts structs objects x.body).size

  step_held : (main : Bool) (x : Function) (p : ℕ) (s : Step)
      → slice_get (b.function_steps structs objects main (length x.params) x.node x.body) p ≡ Some s
      → (reach s.kind ≤ height.height_of x) × (jump_of s.kind ≤ end_of x)
  step_held main x p s e = held_at (height.height_of x) (end_of x) p
      (b.function_steps structs objects main (length x.params) x.node x.body) s (function_held main x) e

  pub fits_frame : (main : Bool) (x : Function)
      → FitsFrame x (b.function_steps structs objects main (length x.params) x.node x.body)
  fits_frame main x = λ p s e. let h = (step_held main x p s e).0 in omega (arith, h)

  pub jumps_inside : (main : Bool) (x : Function)
      → JumpsInside (b.function_steps structs objects main (length x.params) x.node x.body)
  jumps_inside main x = λ p s e.
      let h = (step_held main x p s e).1 in
      omega (arith, h, function_length structs objects main (length x.params) x.node x.body)
