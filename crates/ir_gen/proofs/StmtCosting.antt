-- What the steps of a lawful program's statements and functions cost against the number of their nodes.
use Rattle.std.proofs.Common.{◌≡◌, ℕ, ◌+◌, ◌*◌, ◌≤◌, List, [], ◌∷◌, ◌++◌, length, map, Option, Some, None, Bool, true, false, refl, sym, ap, subst, arith, rules}
use Rattle.std.specs.Prelude.{ℤ}
use Rattle.base16.specs.declared.image.Kind.{Kind}
use Rattle.base16.specs.declared.integer.IntType.{IntType}
use Rattle.core_tree.specs.Nodes.{total, expr_nodes, place_nodes, init_nodes, stmt_nodes, stmt_kind_nodes, group_nodes, function_nodes}
use Rattle.core_tree.specs.Heights.{optional}
use Rattle.core_tree.specs.Layout.{layout}
use Rattle.core_tree.specs.Rules.{is_scalar}
use Rattle.core_tree.specs.declared.types.Slot.{Slot}
use Rattle.core_tree.specs.declared.types.Struct.{Struct}
use Rattle.core_tree.specs.declared.types.Ty.{Ty}
use Rattle.core_tree.specs.declared.expressions.Expr.{Expr}
use Rattle.core_tree.specs.declared.expressions.Place.{Place}
use Rattle.core_tree.specs.declared.statements.Init.{Init}
use Rattle.core_tree.specs.declared.statements.Group.{Group, out-Group, the_lemmas as group_lemmas}
use Rattle.core_tree.specs.declared.statements.Stmt.{Stmt}
use Rattle.core_tree.specs.declared.statements.StmtKind.{StmtKind, the_lemmas}
use Rattle.core_tree.specs.declared.statements.StmtKind.TheVariants as sk
use Rattle.core_tree.specs.declared.program.Function.{Function}
use Rattle.core_tree.specs.Lawful.{Scope}
use Rattle.core_tree.specs.LawfulCore.{Text, AreInits, Initialised, scalar_types, IsStmt, AreStmts, AreGroups}
use Rattle.c_meaning.specs.Statements.{has_default}
use Rattle.ir.specs.declared.form.Operand.{Operand}
use Rattle.ir.specs.declared.form.Operand.TheVariants as operand
use Rattle.ir.specs.declared.form.StepKind.{StepKind}
use Rattle.ir.specs.declared.form.StepKind.TheVariants as step
use Rattle.ir_gen.specs.Code as c
use Rattle.ir_gen.specs.Code.{Code, at_node}
use Rattle.ir_gen.specs.Body as b
use Rattle.ir_gen.specs.Body.{Body, Guard, Part, Grouped}
use Rattle.ir_gen.proofs.StmtTree.{grouped}
use Rattle.ir_gen.proofs.Weighing.{bring_short}
use Rattle.ir_gen.proofs.LawfulStatements.{scalar_slots}
use Rattle.ir_gen.proofs.StmtShaping.{body-Expr, body-Block, body-If, body-IfElse, body-While, body-Do, body-For, body-ForFirst, body-Switch, body-group, body-Break, body-Continue, body-Return, body-Stamped, body-Timely, body-Expires, body-Declare}
use Rattle.ir_gen.proofs.Costing.{counted, all_counted, counted_append, Costs, cheap}

pub record CostsBody (n : ℕ) (code : Body) : Type 0 where
  pub costs : (p brk cont : ℕ) → all_counted (code.steps p brk cont) ≤ n

record CostsGuard (n : ℕ) (code : Guard) : Type 0 where
  costs : (p other : ℕ) → all_counted (code.steps p other) ≤ n

record CostsPart (n : ℕ) (code : Part) : Type 0 where
  costs : (p : ℕ) → all_counted (code.steps p) ≤ n

kb_none : CostsBody 0 b.no_body
kb_none = record { costs = λ p brk cont. omega arith }

kb_one : (n node : ℕ) (k : ℕ → ℕ → ℕ → StepKind) → ((p brk cont : ℕ) → counted (k p brk cont) ≤ n)
    → CostsBody n (b.one_body node k)
kb_one n node k h = record { costs = λ p brk cont. omega (arith, h p brk cont) }

kb_then : (n m : ℕ) (x y : Body) → CostsBody n x → CostsBody m y → CostsBody (n + m) (b.then_body x y)
kb_then n m x y hx hy = record {
  costs = λ p brk cont. omega (
    arith,
    counted_append (x.steps p brk cont) (y.steps (p + x.size) brk cont),
    hx.costs p brk cont,
    hy.costs (p + x.size) brk cont,
  );
}

kg_none : CostsGuard 0 b.no_guard
kg_none = record { costs = λ p other. omega arith }

kg_guard : (n node : ℕ) (t : IntType) (x : Code) → Costs n x → CostsGuard (n + 12) (b.guard node t x)
kg_guard n node t x h = record {
  costs = λ p other. omega (arith, counted_append (x.steps p 0) (at_node node (c.unless t other 0) ∷ []), h.costs p 0);
}

kp_none : CostsPart 0 b.no_part
kp_none = record { costs = λ p. omega arith }

kp_one : (n node : ℕ) (k : StepKind) → counted k ≤ n → CostsPart n (b.one_part node k)
kp_one n node k h = record { costs = λ p. omega (arith, h) }

kp_taken : (n m node : ℕ) (k : StepKind) (x : Code) → counted k ≤ m → Costs n x → CostsPart (n + m) (b.taken_by node k x)
kp_taken n m node k x h hx = record {
  costs = λ p. omega (arith, counted_append (x.steps p 0) (at_node node k ∷ []), hx.costs p 0, h);
}

kp_then : (n m : ℕ) (x y : Part) → CostsPart n x → CostsPart m y → CostsPart (n + m) (b.then_part x y)
kp_then n m x y hx hy = record {
  costs = λ p. omega (arith, counted_append (x.steps p) (y.steps (p + x.size)), hx.costs p, hy.costs (p + x.size));
}

kb_part : (n : ℕ) (x : Part) → CostsPart n x → CostsBody n (b.part_body x)
kb_part n x h = record { costs = λ p brk cont. h.costs p }

kb_if : (n m l node : ℕ) (g : Guard) (x y : Body) → CostsGuard n g → CostsBody m x → CostsBody l y
    → CostsBody (n + (m + (4 + l))) (b.if_body node g x y)
kb_if n m l node g x y hg hx hy = record {
  costs = λ p brk cont. omega (
    arith,
    counted_append (g.steps p (p + g.size + x.size + 1))
        (x.steps (p + g.size) brk cont ++ (at_node node (step.Jump (p + g.size + x.size + 1 + y.size))
        ∷ y.steps (p + g.size + x.size + 1) brk cont)),
    counted_append (x.steps (p + g.size) brk cont)
        (at_node node (step.Jump (p + g.size + x.size + 1 + y.size)) ∷ y.steps (p + g.size + x.size + 1) brk cont),
    hg.costs p (p + g.size + x.size + 1),
    hx.costs (p + g.size) brk cont,
    hy.costs (p + g.size + x.size + 1) brk cont,
  );
}

kb_loop : (n m l node : ℕ) (g : Guard) (x : Body) (z : Part) → CostsGuard n g → CostsBody m x → CostsPart l z
    → CostsBody (4 + (n + (m + (l + 4)))) (b.loop_body node g x z)
kb_loop n m l node g x z hg hx hz = record {
  costs = λ p brk cont. omega (
    arith,
    counted_append (g.steps (p + 1) (p + 1 + g.size + x.size + z.size + 1))
        (x.steps (p + 1 + g.size) (p + 1 + g.size + x.size + z.size + 1) (p + 1 + g.size + x.size)
        ++ (z.steps (p + 1 + g.size + x.size) ++ at_node node (step.Jump p) ∷ [])),
    counted_append (x.steps (p + 1 + g.size) (p + 1 + g.size + x.size + z.size + 1) (p + 1 + g.size + x.size))
        (z.steps (p + 1 + g.size + x.size) ++ at_node node (step.Jump p) ∷ []),
    counted_append (z.steps (p + 1 + g.size + x.size)) (at_node node (step.Jump p) ∷ []),
    hg.costs (p + 1) (p + 1 + g.size + x.size + z.size + 1),
    hx.costs (p + 1 + g.size) (p + 1 + g.size + x.size + z.size + 1) (p + 1 + g.size + x.size),
    hz.costs (p + 1 + g.size + x.size),
  );
}

kb_do : (n m node : ℕ) (g : Guard) (x : Body) → CostsGuard n g → CostsBody m x
    → CostsBody (4 + (4 + (n + (m + (0 + 4))))) (b.do_body node g x)
kb_do n m node g x hg hx =
    kb_then 4 (4 + (n + (m + (0 + 4)))) (b.one_body node (λ p brk cont. step.Jump (p + 1 + 1 + g.size)))
    (b.loop_body node g x b.no_part) (kb_one 4 node (λ p brk cont. step.Jump (p + 1 + 1 + g.size)) (λ p brk cont. omega arith))
    (kb_loop n m 0 node g x b.no_part hg hx kp_none)

labels_cost : (node : ℕ) (t : IntType) (to : ℕ) (ls : List (Option ℤ))
    → all_counted (b.label_cases node t to ls) ≤ 14 * b.label_count ls
labels_cost node t to [] = omega arith
labels_cost node t to (None ∷ ls) = labels_cost node t to ls
labels_cost node t to (Some n ∷ ls) = omega (arith, labels_cost node t to ls)

cases_cost : (node : ℕ) (t : IntType) (p : ℕ) (gs : List Grouped)
    → all_counted (b.cases node t p gs) ≤ 14 * b.case_count gs
cases_cost node t p [] = omega arith
cases_cost node t p (g ∷ gs) = omega (
  arith,
  counted_append (b.label_cases node t p g.labels) (b.cases node t (p + g.body.size) gs),
  labels_cost node t p g.labels,
  cases_cost node t (p + g.body.size) gs,
)

labels_many : (ls : List (Option ℤ)) → b.label_count ls ≤ length ls
labels_many [] = omega arith
labels_many (None ∷ ls) = omega (arith, labels_many ls)
labels_many (Some n ∷ ls) = omega (arith, labels_many ls)

kb_switch : (n m node : ℕ) (t : IntType) (x : Code) (gs : List Grouped) → Costs n x → CostsBody m (b.groups_body gs)
    → CostsBody (n + (14 * b.case_count gs + (4 + m))) (b.switch_body node t x gs)
kb_switch n m node t x gs hx hg = record {
  costs = λ p brk cont. omega (
    arith,
    counted_append (x.steps p 0) (b.cases node t (b.groups_at p x gs) gs
        ++ (at_node node (step.Drop 0) ∷ (at_node node (step.Jump (b.place_of has_default (b.groups_at p x gs) gs))
        ∷ (b.groups_body gs).steps (b.groups_at p x gs) (b.groups_end p x gs) cont))),
    counted_append (b.cases node t (b.groups_at p x gs) gs)
        (at_node node (step.Drop 0) ∷ (at_node node (step.Jump (b.place_of has_default (b.groups_at p x gs) gs))
        ∷ (b.groups_body gs).steps (b.groups_at p x gs) (b.groups_end p x gs) cont)),
    hx.costs p 0,
    cases_cost node t (b.groups_at p x gs) gs,
    hg.costs (b.groups_at p x gs) (b.groups_end p x gs) cont,
  );
}

-- ---- initialisers: those that leave a value out are marked, but for the one of a scalar

init_cost : (n offset : ℕ) (k : Kind) (marked : Bool) (x : Operand) → counted (b.init_step n offset k marked x) ≤ 8
init_cost n offset k true x = omega arith
init_cost n offset k false x = omega (arith, bring_short x)

marked_cost : (n offset : ℕ) (k : Kind) (marked : Bool) (x : Operand) → marked ≡ true
    → counted (b.init_step n offset k marked x) ≤ 0
marked_cost n offset k true x h = omega arith
marked_cost n offset k false x h = absurd (grind (arith, h))

one_slot : (structs : List Struct) (t : Ty) → is_scalar t ≡ true → length (layout structs t).slots ≡ 1
one_slot structs t is = ap (λ (l : List Slot). length l) (scalar_slots structs t is)

module _ (S : List Struct) (O : List (List Slot)) where
  -- in each place a known cost
  part_of : (node n : ℕ) (i : Init)
      → CostsPart (optional (λ (e : Expr). (cheap S e).bound) i.value + 8) (b.init_value S O node n i.offset i.marked i.value)
  part_of node n i = by_value i.value
    where
      by_value : (e : Option Expr)
          → CostsPart (optional (λ (e : Expr). (cheap S e).bound) e + 8) (b.init_value S O node n i.offset i.marked e)
      by_value None = kp_one 8 node _ (init_cost n i.offset (b.local_kind O n i.offset) i.marked
          (b.zero_of (b.local_kind O n i.offset)))
      by_value (Some e) = kp_taken (cheap S e).bound 8 node _ (c.expr S e)
          (init_cost n i.offset (b.local_kind O n i.offset) i.marked operand.Temporary) (cheap S e).own

  part_marked : (node n : ℕ) (i : Init) → i.marked ≡ true
      → (m : ℕ) × (m ≤ 848 * init_nodes i) × CostsPart m (b.init_value S O node n i.offset i.marked i.value)
  part_marked node n i is = by_value i.value
    where
      by_value : (e : Option Expr)
          → (m : ℕ) × (m ≤ 848 * optional expr_nodes e) × CostsPart m (b.init_value S O node n i.offset i.marked e)
      by_value None = (
        0,
        omega arith,
        kp_one 0 node _ (marked_cost n i.offset (b.local_kind O n i.offset) i.marked
            (b.zero_of (b.local_kind O n i.offset)) is),
      )
      by_value (Some e) = (
        (cheap S e).bound + 0,
        omega (arith, (cheap S e).fits),
        kp_taken (cheap S e).bound 0 node _ (c.expr S e)
            (marked_cost n i.offset (b.local_kind O n i.offset) i.marked operand.Temporary is) (cheap S e).own,
      )

  all_marked : (node n : ℕ) (s : Scope) (whole : Ty) (slots : List Slot) (ts : List Ty) (is : List Init)
      → is_scalar whole ≡ false → AreInits s whole slots ts is
      → (m : ℕ) × (m ≤ 848 * total (map init_nodes is)) × CostsPart m (b.init_parts S O node n is)
  all_marked node n s whole [] [] [] f h = (0, omega arith, kp_none)
  all_marked node n s whole (slot ∷ slots) (t ∷ ts) (i ∷ is) f h =
      let first = part_marked node n i (h.0.3 f) in
      let more = all_marked node n s whole slots ts is f h.1 in (
        first.0 + more.0,
        omega (arith, first.1, more.1),
        kp_then first.0 more.0 (b.init_value S O node n i.offset i.marked i.value) (b.init_parts S O node n is) first.2
            more.2,
      )
  all_marked node n s whole _ _ _ f h = absurd h

  init_bound : (i : Init) → optional (λ (e : Expr). (cheap S e).bound) i.value ≤ 848 * init_nodes i
  init_bound i = by_value i.value
    where
      by_value : (e : Option Expr) → optional (λ (e : Expr). (cheap S e).bound) e ≤ 848 * optional expr_nodes e
      by_value None = omega arith
      by_value (Some e) = omega (arith, (cheap S e).fits)

  one_init : (node n : ℕ) (s : Scope) (whole : Ty) (slots : List Slot) (ts : List Ty) (is : List Init) → length slots ≡ 1
      → AreInits s whole slots ts is
      → (m : ℕ) × (m ≤ 848 * total (map init_nodes is) + 8) × CostsPart m (b.init_parts S O node n is)
  one_init node n s whole (slot ∷ []) (t ∷ []) (i ∷ []) one h = (
    optional (λ (e : Expr). (cheap S e).bound) i.value + 8 + 0,
    omega (arith, init_bound i),
    kp_then (optional (λ (e : Expr). (cheap S e).bound) i.value + 8) 0
        (b.init_value S O node n i.offset i.marked i.value) b.no_part (part_of node n i) kp_none,
  )
  one_init node n s whole [] ts is one h = absurd (grind (arith, one))
  one_init node n s whole (slot ∷ (more ∷ slots)) ts is one h = absurd (grind (arith, one))
  one_init node n s whole (slot ∷ []) [] is one h = absurd h
  one_init node n s whole (slot ∷ []) (t ∷ ts) [] one h = absurd h
  one_init node n s whole (slot ∷ []) (t ∷ (u ∷ ts)) (i ∷ is) one h = absurd h.1
  one_init node n s whole (slot ∷ []) (t ∷ []) (i ∷ (j ∷ is)) one h = absurd h.1

  declare_cost : (node n : ℕ) (s : Scope) (t : Ty) (is : List Init) → Initialised s t is
      → (m : ℕ) × (m ≤ 848 * total (map init_nodes is) + 8) × CostsPart m (b.declare_part S O node n is)
  declare_cost node n s t [] h = (0, omega arith, kp_one 0 node (step.Undefine n) (omega arith))
  declare_cost node n s t (i ∷ is) h = by_scalar (is_scalar t) refl
    where
      by_scalar : (e : Bool) → is_scalar t ≡ e
          → (m : ℕ) × (m ≤ 848 * total (map init_nodes (i ∷ is)) + 8) × CostsPart m (b.declare_part S O node n (i ∷ is))
      by_scalar true e = one_init node n s t (layout s.core.structs t).slots (scalar_types s.core t) (i ∷ is)
          (one_slot s.core.structs t e) h
      by_scalar false e =
          let all = all_marked node n s t (layout s.core.structs t).slots (scalar_types s.core t) (i ∷ is) e h in
          (all.0, omega (arith, all.1), all.2)

-- ---- nodes, one equation each

count-Expr : (e : Expr) → stmt_kind_nodes (sk.Expr e) ≡ 1 + (expr_nodes e + 0)
count-Expr e = search (rules, the_lemmas)

count-Block : (all : List Stmt) → stmt_kind_nodes (sk.Block all) ≡ 1 + total (map stmt_nodes all)
count-Block all = search (rules, the_lemmas)

count-If : (test : Expr) (one : Stmt) → stmt_kind_nodes (sk.If test one None)
    ≡ 1 + (expr_nodes test + (stmt_nodes one + (0 + 0)))
count-If test one = search (rules, the_lemmas)

count-IfElse : (test : Expr) (one other : Stmt) → stmt_kind_nodes (sk.If test one (Some other))
    ≡ 1 + (expr_nodes test + (stmt_nodes one + (stmt_nodes other + 0)))
count-IfElse test one other = search (rules, the_lemmas)

count-While : (test : Expr) (body : Stmt) → stmt_kind_nodes (sk.While test body)
    ≡ 1 + (expr_nodes test + (stmt_nodes body + 0))
count-While test body = search (rules, the_lemmas)

count-Do : (body : Stmt) (test : Expr) → stmt_kind_nodes (sk.Do body test) ≡ 1 + (stmt_nodes body + (expr_nodes test + 0))
count-Do body test = search (rules, the_lemmas)

count-For : (test part : Option Expr) (body : Stmt) → stmt_kind_nodes (sk.For None test part body)
    ≡ 1 + (0 + (optional expr_nodes test + (optional expr_nodes part + (stmt_nodes body + 0))))
count-For test part body = search (rules, the_lemmas)

count-ForFirst : (begin : Stmt) (test part : Option Expr) (body : Stmt) → stmt_kind_nodes (sk.For (Some begin) test part body)
    ≡ 1 + (stmt_nodes begin + (optional expr_nodes test + (optional expr_nodes part + (stmt_nodes body + 0))))
count-ForFirst begin test part body = search (rules, the_lemmas)

count-Switch : (on : Expr) (groups : List Group) → stmt_kind_nodes (sk.Switch on groups)
    ≡ 1 + (expr_nodes on + total (map group_nodes groups))
count-Switch on groups = search (rules, the_lemmas)

count-group : (g : Group) → group_nodes g ≡ length (out-Group g).labels + total (map stmt_nodes (out-Group g).body)
count-group g = search (rules, group_lemmas)

count-Break : stmt_kind_nodes sk.Break ≡ 1
count-Break = search (rules, the_lemmas)

count-Continue : stmt_kind_nodes sk.Continue ≡ 1
count-Continue = search (rules, the_lemmas)

count-Return : (e : Option Expr) → stmt_kind_nodes (sk.Return e) ≡ 1 + (optional expr_nodes e + 0)
count-Return e = search (rules, the_lemmas)

count-Stamped : (p : Place) (e : Expr) → stmt_kind_nodes (sk.Stamped p e) ≡ 1 + (place_nodes p + (expr_nodes e + 0))
count-Stamped p e = search (rules, the_lemmas)

count-Timely : (p : Place) (limit : ℕ) (one : Stmt) → stmt_kind_nodes (sk.Timely p limit one None)
    ≡ 1 + (place_nodes p + (stmt_nodes one + (0 + 0)))
count-Timely p limit one = search (rules, the_lemmas)

count-TimelyElse : (p : Place) (limit : ℕ) (one other : Stmt) → stmt_kind_nodes (sk.Timely p limit one (Some other))
    ≡ 1 + (place_nodes p + (stmt_nodes one + (stmt_nodes other + 0)))
count-TimelyElse p limit one other = search (rules, the_lemmas)

count-Expires : (names : List Place) (body caught : List Stmt) → stmt_kind_nodes (sk.Expires names body caught)
    ≡ 1 + (total (map place_nodes names) + (total (map stmt_nodes body) + (total (map stmt_nodes caught) + 0)))
count-Expires names body caught = search (rules, the_lemmas)

count-Declare : (n : ℕ) (init : List Init) → stmt_kind_nodes (sk.Declare n init) ≡ 1 + total (map init_nodes init)
count-Declare n init = search (rules, the_lemmas)

-- ---- by the rules of statements

pub record CheapBody (n : ℕ) (code : Body) : Type 0 where
  pub bound : ℕ
  pub fits : bound + 700 ≤ 848 * n
  pub own : CostsBody bound code

-- what statements leave of what their nodes allow
abbrev pub spare : List Stmt → ℕ
spare [] = 0
spare (s ∷ ss) = 700

module _ (S : List Struct) (O : List (List Slot)) where
  cheap_is : {n m : ℕ} {f g : ℕ → Body} → n ≡ m → f ≡ g → ((node : ℕ) → CheapBody m (g node)) → (node : ℕ)
      → CheapBody n (f node)
  cheap_is {n} {m} {f} {g} e h k = λ node.
      subst (λ (i : ℕ). CheapBody i (f node)) (sym e) (subst (λ (z : ℕ → Body). CheapBody m (z node)) (sym h) (k node))

  none_cheap : (n m : ℕ) (code : Body) → n ≡ 1 + m → code ≡ b.no_body → CheapBody n code
  none_cheap n m code e h = record {
    bound = 0;
    fits = omega (arith, e);
    own = subst (λ (z : Body). CostsBody 0 z) (sym h) kb_none;
  }

  test_cost : (node : ℕ) (e : Expr) → CostsGuard ((cheap S e).bound + 12) (b.test_guard S O node e)
  test_cost node e = kg_guard (cheap S e).bound node _ (c.expr S e) (cheap S e).own

  optional_cost : (node : ℕ) (e : Option Expr)
      → (m : ℕ) × (m ≤ 848 * optional expr_nodes e) × CostsGuard m (b.optional_guard S O node e)
  optional_cost node None = (0, omega arith, kg_none)
  optional_cost node (Some e) = ((cheap S e).bound + 12, omega (arith, (cheap S e).fits), test_cost node e)

  dropped_cost : (node : ℕ) (e : Expr) → CostsPart ((cheap S e).bound + 0) (b.dropped node (c.expr S e))
  dropped_cost node e = kp_taken (cheap S e).bound 0 node (step.Drop 0) (c.expr S e) (omega arith) (cheap S e).own

  part_cost : (node : ℕ) (e : Option Expr)
      → (m : ℕ) × (m ≤ 848 * optional expr_nodes e) × CostsPart m (b.optional_part S O node e)
  part_cost node None = (0, omega arith, kp_none)
  part_cost node (Some e) = ((cheap S e).bound + 0, omega (arith, (cheap S e).fits), dropped_cost node e)

  loop_cheap : (n node : ℕ) (test part : Option Expr) (body : Stmt) → CheapBody (stmt_nodes body) (b.stmt S O body)
      → (m : ℕ) × (m ≤ 848 * (optional expr_nodes test + (optional expr_nodes part + (stmt_nodes body + 0))))
      × CostsBody m
      (b.loop_body node (b.optional_guard S O node test) (b.stmt S O body) (b.optional_part S O node part))
  loop_cheap n node test part body h =
      let g = optional_cost node test in
      let z = part_cost node part in (
        4 + (g.0 + (h.bound + (z.0 + 4))),
        omega (arith, g.1, z.1, h.fits),
        kb_loop g.0 h.bound z.0 node (b.optional_guard S O node test) (b.stmt S O body) (b.optional_part S O node part) g.2
            h.own z.2,
      )

  mutual
    kind_cheap : (x : Text) (kind : StmtKind) → IsStmt x kind → (node : ℕ)
        → CheapBody (stmt_kind_nodes kind) (b.stmt_kind S O kind node)
    kind_cheap _ _ (IsStmt.expression x e l) =
        cheap_is (count-Expr e) (body-Expr S O e) (λ node. record {
          bound = (cheap S e).bound + 0;
          fits = omega (arith, (cheap S e).fits);
          own = kb_part ((cheap S e).bound + 0) (b.dropped node (c.expr S e)) (dropped_cost node e);
        })
    kind_cheap _ _ (IsStmt.block x all a) =
        let h = stmts_cheap x all a in
        cheap_is (count-Block all) (body-Block S O all)
        (λ node. record { bound = h.0; fits = omega (arith, h.1); own = h.2 })
    kind_cheap _ _ (IsStmt.if x test one t a) =
        let h = kind_cheap x one.kind a one.node in
        cheap_is (count-If test one) (body-If S O test one) (λ node. record {
          bound = (cheap S test).bound + 12 + (h.bound + (4 + 0));
          fits = omega (arith, (cheap S test).fits, h.fits);
          own = kb_if ((cheap S test).bound + 12) h.bound 0 node (b.test_guard S O node test) (b.stmt S O one) b.no_body
              (test_cost node test) h.own kb_none;
        })
    kind_cheap _ _ (IsStmt.if_else x test one other t a d) =
        let h = kind_cheap x one.kind a one.node in
        let g = kind_cheap x other.kind d other.node in
        cheap_is (count-IfElse test one other) (body-IfElse S O test one other) (λ node. record {
          bound = (cheap S test).bound + 12 + (h.bound + (4 + g.bound));
          fits = omega (arith, (cheap S test).fits, h.fits, g.fits);
          own = kb_if ((cheap S test).bound + 12) h.bound g.bound node (b.test_guard S O node test) (b.stmt S O one)
              (b.stmt S O other) (test_cost node test) h.own g.own;
        })
    kind_cheap _ _ (IsStmt.while x test body t a) =
        let h = kind_cheap _ body.kind a body.node in
        cheap_is (count-While test body) (body-While S O test body) (λ node. record {
          bound = 4 + ((cheap S test).bound + 12 + (h.bound + (0 + 4)));
          fits = omega (arith, (cheap S test).fits, h.fits);
          own = kb_loop ((cheap S test).bound + 12) h.bound 0 node (b.test_guard S O node test) (b.stmt S O body) b.no_part
              (test_cost node test) h.own kp_none;
        })
    kind_cheap _ _ (IsStmt.do_while x body test a t) =
        let h = kind_cheap _ body.kind a body.node in
        cheap_is (count-Do body test) (body-Do S O body test) (λ node. record {
          bound = 4 + (4 + ((cheap S test).bound + 12 + (h.bound + (0 + 4))));
          fits = omega (arith, (cheap S test).fits, h.fits);
          own = kb_do ((cheap S test).bound + 12) h.bound node (b.test_guard S O node test) (b.stmt S O body)
              (test_cost node test) h.own;
        })
    kind_cheap _ _ (IsStmt.for x test part body t q a) =
        let h = kind_cheap _ body.kind a body.node in
        cheap_is (count-For test part body) (body-For S O test part body) (λ node.
        let w = loop_cheap 0 node test part body h in record {
          bound = 0 + w.0;
          fits = omega (arith, w.1);
          own = kb_then 0 w.0 b.no_body
              (b.loop_body node (b.optional_guard S O node test) (b.stmt S O body) (b.optional_part S O node part)) kb_none w.2;
        })
    kind_cheap _ _ (IsStmt.for_first x begin test part body first d t q a) =
        let h = kind_cheap _ body.kind a body.node in
        let g = kind_cheap x begin.kind d begin.node in
        cheap_is (count-ForFirst begin test part body) (body-ForFirst S O begin test part body) (λ node.
        let w = loop_cheap 0 node test part body h in record {
          bound = g.bound + w.0;
          fits = omega (arith, w.1, g.fits);
          own = kb_then g.bound w.0 (b.stmt S O begin)
              (b.loop_body node (b.optional_guard S O node test) (b.stmt S O body) (b.optional_part S O node part)) g.own w.2;
        })
    kind_cheap _ _ (IsStmt.switch x on groups t computed i apart values gs) =
        let h = groups_cheap _ groups gs in
        cheap_is (count-Switch on groups) (body-Switch S O on groups) (λ node. record {
          bound = (cheap S on).bound + (14 * b.case_count (map (grouped S O) groups) + (4 + h.0));
          fits = omega (arith, (cheap S on).fits, h.1);
          own = kb_switch (cheap S on).bound h.0 node _ (c.expr S on) (map (grouped S O) groups) (cheap S on).own h.2;
        })
    kind_cheap _ _ (IsStmt.break x may) =
        cheap_is count-Break (body-Break S O) (λ node. record {
          bound = 4;
          fits = omega arith;
          own = kb_one 4 node (λ p brk cont. step.Jump brk) (λ p brk cont. omega arith);
        })
    kind_cheap _ _ (IsStmt.continue x may) =
        cheap_is count-Continue (body-Continue S O) (λ node. record {
          bound = 4;
          fits = omega arith;
          own = kb_one 4 node (λ p brk cont. step.Jump cont) (λ p brk cont. omega arith);
        })
    kind_cheap _ _ (IsStmt.returned x nothing free) =
        cheap_is (count-Return None) (body-Return S O None) (λ node. record {
          bound = 8;
          fits = omega arith;
          own = kb_one 8 node (λ p brk cont. step.ReturnNothing) (λ p brk cont. omega arith);
        })
    kind_cheap _ _ (IsStmt.returned_value x e i scalar free) =
        cheap_is (count-Return (Some e)) (body-Return S O (Some e)) (λ node. record {
          bound = (cheap S e).bound + 12;
          fits = omega (arith, (cheap S e).fits);
          own = kb_part ((cheap S e).bound + 12) (b.taken_by node (step.Return 0 operand.Temporary) (c.expr S e))
              (kp_taken (cheap S e).bound 12 node (step.Return 0 operand.Temporary) (c.expr S e) (omega arith)
              (cheap S e).own);
        })
    kind_cheap _ _ (IsStmt.stamped x p e t i j scalar const timed) =
        λ node. none_cheap _ _ _ (count-Stamped p e) (body-Stamped S O p e node)
    kind_cheap _ _ (IsStmt.timely x p limit one asked a) =
        λ node. none_cheap _ _ _ (count-Timely p limit one) (body-Timely S O p limit one None node)
    kind_cheap _ _ (IsStmt.timely_else x p limit one other asked a d) =
        λ node. none_cheap _ _ _ (count-TimelyElse p limit one other) (body-Timely S O p limit one (Some other) node)
    kind_cheap _ _ (IsStmt.expires x p names body caught named free a d) =
        λ node. none_cheap _ _ _ (count-Expires (p ∷ names) body caught) (body-Expires S O (p ∷ names) body caught node)
    kind_cheap _ _ (IsStmt.declared x n t init behind at_n i) =
        cheap_is (count-Declare n init) (body-Declare S O n init) (λ node.
        let h = declare_cost S O node n x.scope t init i in record {
          bound = h.0;
          fits = omega (arith, h.1);
          own = kb_part h.0 (b.declare_part S O node n init) h.2;
        })

    stmts_cheap : (x : Text) (ss : List Stmt) → AreStmts x ss
        → (m : ℕ) × (m + spare ss ≤ 848 * total (map stmt_nodes ss)) × CostsBody m (b.stmts S O ss)
    stmts_cheap _ _ (AreStmts.no_stmts x) = (0, omega arith, kb_none)
    stmts_cheap _ _ (AreStmts.one_more x s more a is) =
        let h = kind_cheap x s.kind a s.node in
        let g = stmts_cheap x more is in (
          h.bound + g.0,
          omega (arith, h.fits, g.1),
          kb_then h.bound g.0 (b.stmt S O s) (b.stmts S O more) h.own g.2,
        )

    groups_cheap : (x : Text) (gs : List Group) → AreGroups x gs
        → (m : ℕ) × (m + 14 * b.case_count (map (grouped S O) gs) ≤ 848 * total (map group_nodes gs))
        × CostsBody m (b.groups_body (map (grouped S O) gs))
    groups_cheap _ _ (AreGroups.no_groups x) = (0, omega arith, kb_none)
    groups_cheap _ _ (AreGroups.one_group x g more some a is) =
        let h = stmts_cheap x (out-Group g).body a in
        let w = groups_cheap x more is in
        let same = body-group S O g in
        let labels : b.label_count (grouped S O g).labels ≡ b.label_count (out-Group g).labels
        = ap (λ (z : Grouped). b.label_count z.labels) same in (
          h.0 + w.0,
          omega (arith, h.1, w.1, count-group g, labels, labels_many (out-Group g).labels),
          kb_then h.0 w.0 (grouped S O g).body (b.groups_body (map (grouped S O) more))
              (subst (λ (z : Grouped). CostsBody h.0 z.body) (sym same) h.2) w.2,
        )

  end_cost : (main : Bool) (node : ℕ) → all_counted (at_node node (b.end_step S O main) ∷ []) ≤ 10
  end_cost true node = omega arith
  end_cost false node = omega arith

  -- the steps of a function leave much
  pub function_cost : (main : Bool) (x : Text) (f : Function) → AreStmts x f.body
      → all_counted (b.function_steps S O main (length f.params) f.node f.body) + (800 + 800 * length f.params + spare f.body)
      ≤ 848 * function_nodes f
  function_cost main x f a =
      let size = (b.stmts S O f.body).size in
      let h = stmts_cheap x f.body a in
      omega (
        arith,
        counted_append ((b.stmts S O f.body).steps 1 (1 + size) (1 + size)) (at_node f.node (b.end_step S O main) ∷ []),
        h.1,
        h.2.costs 1 (1 + size) (1 + size),
        end_cost main f.node,
      )

  -- those of a function without statements are few
  pub empty_cost : (main : Bool) (n node : ℕ) → all_counted (b.function_steps S O main n node []) ≤ 8 + 6 * n + 10
  empty_cost main n node = omega (arith, end_cost main node)
