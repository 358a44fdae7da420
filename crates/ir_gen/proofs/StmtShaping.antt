-- The steps of a lawful program's statements and functions have the shapes that are known.
use Rattle.std.proofs.Common.{◌≡◌, ℕ, ◌+◌, ◌-◌, ◌%◌, ◌<◌, ◌≤◌, nat_lt, cond, List, [], ◌∷◌, ◌++◌, length, map, Option, Some, None, Bool, true, false, refl, sym, ap, ◌∙◌, subst, arith, tests, rules}
use Rattle.std.specs.Prelude.{ℤ, pos, negsuc}
use Rattle.base16.specs.declared.image.Kind.{Kind}
use Rattle.base16.specs.declared.image.Kind.TheVariants as kind
use Rattle.base16.specs.declared.integer.IntType.{IntType}
use Rattle.base16.specs.declared.integer.IntType.TheVariants as int
use Rattle.core_tree.specs.declared.types.Slot.{Slot}
use Rattle.core_tree.specs.declared.types.Struct.{Struct}
use Rattle.core_tree.specs.declared.types.Ty.{Ty}
use Rattle.core_tree.specs.declared.expressions.Expr.{Expr}
use Rattle.core_tree.specs.declared.expressions.Place.{Place}
use Rattle.core_tree.specs.declared.statements.Init.{Init}
use Rattle.core_tree.specs.declared.statements.Group.{Group, out-Group, the_lemmas as group_lemmas}
use Rattle.core_tree.specs.declared.statements.Stmt.{Stmt}
use Rattle.core_tree.specs.declared.statements.StmtKind.{StmtKind, the_lemmas}
use Rattle.core_tree.specs.declared.statements.StmtKind.TheVariants as sk
use Rattle.core_tree.specs.declared.statements.StmtKind.TheOpen.{StmtKind-F}
use Rattle.core_tree.specs.Layout.{int_type_of}
use Rattle.core_tree.specs.Rules.{is_value}
use Rattle.core_tree.specs.Lawful.{Scope, IsExpr}
use Rattle.core_tree.specs.LawfulCore.{Every, all_labels, OnSome, Text, IsTest, Lawful, AreInits, Initialised, IsStmt, AreStmts, AreGroups}
use Rattle.c_values.specs.Operators.{number}
use Rattle.c_meaning.specs.Statements.{has_default}
use Rattle.ir.specs.declared.form.Ir.{Ir}
use Rattle.ir.specs.declared.form.IrFunction.{IrFunction}
use Rattle.ir.specs.declared.form.Base.TheVariants as base
use Rattle.ir.specs.declared.form.Keep.TheVariants as keep
use Rattle.ir.specs.declared.form.Operand.{Operand}
use Rattle.ir.specs.declared.form.Operand.TheVariants as operand
use Rattle.ir.specs.declared.form.StepKind.{StepKind}
use Rattle.ir.specs.declared.form.StepKind.TheVariants as step
use Rattle.ir.specs.declared.form.Target.TheVariants as target
use Rattle.ir.specs.Typed.{HasParameters}
use Rattle.ir_gen.specs.Code as c
use Rattle.ir_gen.specs.Code.{Code, at_node}
use Rattle.ir_gen.specs.Body as b
use Rattle.ir_gen.specs.Body.{Body, Guard, Part, Grouped}
use Rattle.ir_gen.specs.Names.{HasOperand}
use Rattle.ir_gen.specs.Shapes.{HasShape, HaveShapes}
use Rattle.ir_gen.proofs.StmtTree.{grouped}
use Rattle.ir_gen.proofs.Shaping.{shapes_append, ShapedCode, HasScope, integer_at, expr_shaped}

-- ---- a value of a type is the number that its word says

signed_low : (w : ℕ) (low : Bool) → nat_lt w 32768 ≡ low → w < 32768 → cond low (pos w) (negsuc (65535 - w)) ≡ pos w
signed_low w true is h = refl
signed_low w false is h = absurd (grind (arith, tests, is))

signed_high : (w : ℕ) (low : Bool) → nat_lt w 32768 ≡ low → 32768 ≤ w
    → cond low (pos w) (negsuc (65535 - w)) ≡ negsuc (65535 - w)
signed_high w false is h = refl
signed_high w true is h = absurd (grind (arith, tests, is))

number_is : (t : IntType) (n : ℤ) → is_value t n ≡ true → number t n ≡ n
unfolding number
number_is int.Char (pos n) is =
    let small : n ≤ 255 = grind (arith, tests) in
    let same : n % 65536 ≡ n = omega (arith, small) in
    ap pos same
number_is int.Char (negsuc n) is = absurd (grind (arith, tests))
number_is int.Int (pos n) is =
    let small : n ≤ 32767 = grind (arith, tests) in
    let low : n % 65536 < 32768 = omega (arith, small) in
    let same : n % 65536 ≡ n = omega (arith, small) in
    signed_low (n % 65536) (nat_lt (n % 65536) 32768) refl low ∙ ap pos same
number_is int.Int (negsuc n) is =
    let small : n ≤ 32767 = grind (arith, tests) in
    let high : 32768 ≤ 65535 - n % 65536 = omega (arith, small) in
    let same : 65535 - (65535 - n % 65536) ≡ n = omega (arith, small) in
    signed_high (65535 - n % 65536) (nat_lt (65535 - n % 65536) 32768) refl high ∙ ap negsuc same
number_is int.UInt (pos n) is =
    let small : n ≤ 65535 = grind (arith, tests) in
    let same : n % 65536 ≡ n = omega (arith, small) in
    ap pos same
number_is int.UInt (negsuc n) is = absurd (grind (arith, tests))

-- the labels of all groups are such values
abbrev HaveLabels : IntType → List Grouped → Type 0
HaveLabels t gs = Every (λ (g : Grouped). Every (OnSome (λ (n : ℤ). number t n ≡ n)) g.labels) gs

labels_fit : (t : IntType) (ls more : List (Option ℤ)) → Every (OnSome (λ (n : ℤ). is_value t n ≡ true)) (ls ++ more)
    → Every (OnSome (λ (n : ℤ). number t n ≡ n)) ls
labels_fit t [] more h = tt
labels_fit t (None ∷ ls) more h = (tt, labels_fit t ls more h.1)
labels_fit t (Some n ∷ ls) more h = (number_is t n h.0, labels_fit t ls more h.1)

labels_behind : (P : Option ℤ → Type 0) (ls more : List (Option ℤ)) → Every P (ls ++ more) → Every P more
labels_behind P [] more h = h
labels_behind P (l ∷ ls) more h = labels_behind P ls more h.1

module _ (ir : Ir) (fn : IrFunction) where
  record ShapedBody (code : Body) : Type 0 where
    shaped : (p brk cont : ℕ) → HaveShapes ir fn (code.steps p brk cont)

  record ShapedGuard (code : Guard) : Type 0 where
    shaped : (p other : ℕ) → HaveShapes ir fn (code.steps p other)

  record ShapedPart (code : Part) : Type 0 where
    shaped : (p : ℕ) → HaveShapes ir fn (code.steps p)

  b_none : ShapedBody b.no_body
  b_none = record { shaped = λ p brk cont. tt }

  b_one : (node : ℕ) (k : ℕ → ℕ → ℕ → StepKind) → ((p brk cont : ℕ) → HasShape ir fn (k p brk cont))
      → ShapedBody (b.one_body node k)
  b_one node k h = record { shaped = λ p brk cont. (h p brk cont, tt) }

  b_then : (x y : Body) → ShapedBody x → ShapedBody y → ShapedBody (b.then_body x y)
  b_then x y hx hy = record {
    shaped = λ p brk cont. shapes_append ir fn (x.steps p brk cont) (y.steps (p + x.size) brk cont) (hx.shaped p brk cont)
        (hy.shaped (p + x.size) brk cont);
  }

  g_none : ShapedGuard b.no_guard
  g_none = record { shaped = λ p other. tt }

  g_guard : (node : ℕ) (t : IntType) (x : Code) → ShapedCode ir fn x → ShapedGuard (b.guard node t x)
  g_guard node t x h = record {
    shaped = λ p other.
        shapes_append ir fn (x.steps p 0) (at_node node (c.unless t other 0) ∷ []) (h.shaped p 0)
        (HasShape.unless 0 t other, tt);
  }

  p_none : ShapedPart b.no_part
  p_none = record { shaped = λ p. tt }

  p_one : (node : ℕ) (k : StepKind) → HasShape ir fn k → ShapedPart (b.one_part node k)
  p_one node k h = record { shaped = λ p. (h, tt) }

  p_taken : (node : ℕ) (k : StepKind) (x : Code) → HasShape ir fn k → ShapedCode ir fn x → ShapedPart (b.taken_by node k x)
  p_taken node k x h hx = record {
    shaped = λ p. shapes_append ir fn (x.steps p 0) (at_node node k ∷ []) (hx.shaped p 0) (h, tt);
  }

  p_then : (x y : Part) → ShapedPart x → ShapedPart y → ShapedPart (b.then_part x y)
  p_then x y hx hy = record {
    shaped = λ p. shapes_append ir fn (x.steps p) (y.steps (p + x.size)) (hx.shaped p) (hy.shaped (p + x.size));
  }

  b_part : (x : Part) → ShapedPart x → ShapedBody (b.part_body x)
  b_part x h = record { shaped = λ p brk cont. h.shaped p }

  b_if : (node : ℕ) (g : Guard) (x y : Body) → ShapedGuard g → ShapedBody x → ShapedBody y → ShapedBody (b.if_body node g x y)
  b_if node g x y hg hx hy = record {
    shaped = λ p brk cont.
        shapes_append ir fn (g.steps p (p + g.size + x.size + 1)) _ (hg.shaped p (p + g.size + x.size + 1))
        (shapes_append ir fn (x.steps (p + g.size) brk cont) _ (hx.shaped (p + g.size) brk cont)
        (HasShape.jump (p + g.size + x.size + 1 + y.size), hy.shaped (p + g.size + x.size + 1) brk cont));
  }

  b_loop : (node : ℕ) (g : Guard) (x : Body) (z : Part) → ShapedGuard g → ShapedBody x → ShapedPart z
      → ShapedBody (b.loop_body node g x z)
  b_loop node g x z hg hx hz = record {
    shaped = λ p brk cont. (
      HasShape.turn,
      shapes_append ir fn (g.steps (p + 1) (p + 1 + g.size + x.size + z.size + 1)) _
          (hg.shaped (p + 1) (p + 1 + g.size + x.size + z.size + 1))
          (shapes_append ir fn (x.steps (p + 1 + g.size) (p + 1 + g.size + x.size + z.size + 1) (p + 1 + g.size + x.size)) _
          (hx.shaped (p + 1 + g.size) (p + 1 + g.size + x.size + z.size + 1) (p + 1 + g.size + x.size))
          (shapes_append ir fn (z.steps (p + 1 + g.size + x.size)) _ (hz.shaped (p + 1 + g.size + x.size))
          (HasShape.jump p, tt))),
    );
  }

  b_do : (node : ℕ) (g : Guard) (x : Body) → ShapedGuard g → ShapedBody x → ShapedBody (b.do_body node g x)
  b_do node g x hg hx =
      b_then (b.one_body node (λ p brk cont. step.Jump (p + 1 + 1 + g.size))) (b.loop_body node g x b.no_part)
      (b_one node (λ p brk cont. step.Jump (p + 1 + 1 + g.size)) (λ p brk cont. HasShape.jump (p + 1 + 1 + g.size)))
      (b_loop node g x b.no_part hg hx p_none)

  labels_shaped : (node : ℕ) (t : IntType) (to : ℕ) (ls : List (Option ℤ)) → Every (OnSome (λ (n : ℤ). number t n ≡ n)) ls
      → HaveShapes ir fn (b.label_cases node t to ls)
  labels_shaped node t to [] h = tt
  labels_shaped node t to (None ∷ ls) h = labels_shaped node t to ls h.1
  labels_shaped node t to (Some n ∷ ls) h = (HasShape.label 0 t n to h.0, labels_shaped node t to ls h.1)

  cases_shaped : (node : ℕ) (t : IntType) (p : ℕ) (gs : List Grouped) → HaveLabels t gs
      → HaveShapes ir fn (b.cases node t p gs)
  cases_shaped node t p [] h = tt
  cases_shaped node t p (g ∷ gs) h =
      shapes_append ir fn (b.label_cases node t p g.labels) (b.cases node t (p + g.body.size) gs)
      (labels_shaped node t p g.labels h.0) (cases_shaped node t (p + g.body.size) gs h.1)

  b_switch : (node : ℕ) (t : IntType) (x : Code) (gs : List Grouped) → HaveLabels t gs → ShapedCode ir fn x
      → ShapedBody (b.groups_body gs) → ShapedBody (b.switch_body node t x gs)
  b_switch node t x gs labels hx hg = record {
    shaped = λ p brk cont.
        shapes_append ir fn (x.steps p 0) _ (hx.shaped p 0)
        (shapes_append ir fn (b.cases node t (b.groups_at p x gs) gs) _ (cases_shaped node t (b.groups_at p x gs) gs labels) (
          HasShape.drop 0,
          (
            HasShape.jump (b.place_of has_default (b.groups_at p x gs) gs),
            hg.shaped (b.groups_at p x gs) (b.groups_end p x gs) cont,
          ),
        ));
  }

  init_shaped : (n offset : ℕ) (k : Kind) (marked : Bool) (x : Operand) → n < length fn.locals → HasOperand ir fn x
      → HasShape ir fn (b.init_step n offset k marked x)
  init_shaped n offset k true x h g = HasShape.store 0 (target.Known (base.Local n) offset) k x keep.Nothing h g
  init_shaped n offset k false x h g = HasShape.store_local 0 n offset k x keep.Nothing h g

  zero_there : (k : Kind) → HasOperand ir fn (b.zero_of k)
  zero_there kind.Char = tt
  zero_there kind.Int = tt
  zero_there kind.UInt = tt
  zero_there kind.Pointer = tt

-- ---- the equations of the fold

module _ (S : List Struct) (O : List (List Slot)) where
  pub body-Expr : (e : Expr) → b.stmt_kind S O (sk.Expr e) ≡ b.stmt_layer S O (StmtKind-F.Expr e)
  body-Expr e = search (rules, the_lemmas)

  pub body-Block : (all : List Stmt) → b.stmt_kind S O (sk.Block all) ≡ b.stmt_layer S O (StmtKind-F.Block (map (b.stmt S O) all))
  body-Block all = search (rules, the_lemmas)

  pub body-If : (test : Expr) (one : Stmt) → b.stmt_kind S O (sk.If test one None)
      ≡ b.stmt_layer S O (StmtKind-F.If test (b.stmt S O one) None)
  body-If test one = search (rules, the_lemmas)

  pub body-IfElse : (test : Expr) (one other : Stmt) → b.stmt_kind S O (sk.If test one (Some other))
      ≡ b.stmt_layer S O (StmtKind-F.If test (b.stmt S O one) (Some (b.stmt S O other)))
  body-IfElse test one other = search (rules, the_lemmas)

  pub body-While : (test : Expr) (body : Stmt) → b.stmt_kind S O (sk.While test body)
      ≡ b.stmt_layer S O (StmtKind-F.While test (b.stmt S O body))
  body-While test body = search (rules, the_lemmas)

  pub body-Do : (body : Stmt) (test : Expr) → b.stmt_kind S O (sk.Do body test)
      ≡ b.stmt_layer S O (StmtKind-F.Do (b.stmt S O body) test)
  body-Do body test = search (rules, the_lemmas)

  pub body-For : (test part : Option Expr) (body : Stmt) → b.stmt_kind S O (sk.For None test part body)
      ≡ b.stmt_layer S O (StmtKind-F.For None test part (b.stmt S O body))
  body-For test part body = search (rules, the_lemmas)

  pub body-ForFirst : (begin : Stmt) (test part : Option Expr) (body : Stmt)
      → b.stmt_kind S O (sk.For (Some begin) test part body)
      ≡ b.stmt_layer S O (StmtKind-F.For (Some (b.stmt S O begin)) test part (b.stmt S O body))
  body-ForFirst begin test part body = search (rules, the_lemmas)

  pub body-Switch : (on : Expr) (groups : List Group) → b.stmt_kind S O (sk.Switch on groups)
      ≡ b.stmt_layer S O (StmtKind-F.Switch on (map (grouped S O) groups))
  body-Switch on groups = search (rules, the_lemmas)

  pub body-group : (g : Group) → grouped S O g
      ≡ record { labels = (out-Group g).labels; body = b.bodies (map (b.stmt S O) (out-Group g).body) }
  body-group g = search (rules, group_lemmas)

  pub body-Break : b.stmt_kind S O sk.Break ≡ b.stmt_layer S O StmtKind-F.Break
  body-Break = search (rules, the_lemmas)

  pub body-Continue : b.stmt_kind S O sk.Continue ≡ b.stmt_layer S O StmtKind-F.Continue
  body-Continue = search (rules, the_lemmas)

  pub body-Return : (e : Option Expr) → b.stmt_kind S O (sk.Return e) ≡ b.stmt_layer S O (StmtKind-F.Return e)
  body-Return e = search (rules, the_lemmas)

  pub body-Stamped : (p : Place) (e : Expr) (node : ℕ) → b.stmt_kind S O (sk.Stamped p e) node ≡ b.no_body
  body-Stamped p e node = search (rules, the_lemmas)

  pub body-Timely : (p : Place) (limit : ℕ) (one : Stmt) (other : Option Stmt) (node : ℕ)
      → b.stmt_kind S O (sk.Timely p limit one other) node ≡ b.no_body
  body-Timely p limit one other node = search (rules, the_lemmas)

  pub body-Expires : (names : List Place) (body caught : List Stmt) (node : ℕ)
      → b.stmt_kind S O (sk.Expires names body caught) node ≡ b.no_body
  body-Expires names body caught node = search (rules, the_lemmas)

  pub body-Declare : (n : ℕ) (init : List Init) → b.stmt_kind S O (sk.Declare n init)
      ≡ b.stmt_layer S O (StmtKind-F.Declare n init)
  body-Declare n init = search (rules, the_lemmas)

-- ---- by the rules of statements

module _ (ir : Ir) (fn : IrFunction) (S : List Struct) (O : List (List Slot)) where
  abbrev Shaped : Body → Type 0
  Shaped code = ShapedBody ir fn code

  by_body : {f g : ℕ → Body} → f ≡ g → ((node : ℕ) → Shaped (g node)) → (node : ℕ) → Shaped (f node)
  by_body e h = λ node. subst (λ (z : ℕ → Body). Shaped (z node)) (sym e) (h node)

  groups_fit : (t : IntType) (gs : List Group) → Every (OnSome (λ (n : ℤ). is_value t n ≡ true)) (all_labels gs)
      → HaveLabels t (map (grouped S O) gs)
  groups_fit t [] h = tt
  groups_fit t (g ∷ gs) h = (
    subst (λ (z : Grouped). Every (OnSome (λ (n : ℤ). number t n ≡ n)) z.labels) (sym (body-group S O g))
        (labels_fit t (out-Group g).labels (all_labels gs) h),
    groups_fit t gs (labels_behind (OnSome (λ (n : ℤ). is_value t n ≡ true)) (out-Group g).labels (all_labels gs) h),
  )

  by_none : (x : Body) → x ≡ b.no_body → Shaped x
  by_none x e = subst (λ (z : Body). Shaped z) (sym e) (b_none ir fn)

  module _ (s : Scope) (there : HasScope ir fn s) where
    expr_is : (e : Expr) → Lawful s e → ShapedCode ir fn (c.expr S e)
    expr_is e h = expr_shaped ir fn s there S e e.ty h

    test_is : (node : ℕ) (e : Expr) → IsTest s e → ShapedGuard ir fn (b.test_guard S O node e)
    test_is node e h = g_guard ir fn node _ (c.expr S e) (expr_is e h.typed)

    optional_test : (node : ℕ) (e : Option Expr) → OnSome (IsTest s) e → ShapedGuard ir fn (b.optional_guard S O node e)
    optional_test node None h = g_none ir fn
    optional_test node (Some e) h = test_is node e h

    dropped_is : (node : ℕ) (e : Expr) → Lawful s e → ShapedPart ir fn (b.dropped node (c.expr S e))
    dropped_is node e h = p_taken ir fn node (step.Drop 0) (c.expr S e) (HasShape.drop 0) (expr_is e h)

    optional_dropped : (node : ℕ) (e : Option Expr) → OnSome (Lawful s) e → ShapedPart ir fn (b.optional_part S O node e)
    optional_dropped node None h = p_none ir fn
    optional_dropped node (Some e) h = dropped_is node e h

    init_is : (node n offset : ℕ) (marked : Bool) (t : Ty) (e : Option Expr) → n < length fn.locals
        → OnSome (λ e. IsExpr s e t) e → ShapedPart ir fn (b.init_value S O node n offset marked e)
    init_is node n offset marked t None at_n h =
        p_one ir fn node _ (init_shaped ir fn n offset (b.local_kind O n offset) marked (b.zero_of (b.local_kind O n offset))
        at_n (zero_there ir fn (b.local_kind O n offset)))
    init_is node n offset marked t (Some e) at_n h =
        p_taken ir fn node _ (c.expr S e) (init_shaped ir fn n offset (b.local_kind O n offset) marked operand.Temporary at_n tt)
        (expr_shaped ir fn s there S e t h)

    inits_are : (node n : ℕ) (whole : Ty) (slots : List Slot) (ts : List Ty) (is : List Init) → n < length fn.locals
        → AreInits s whole slots ts is → ShapedPart ir fn (b.init_parts S O node n is)
    inits_are node n whole [] [] [] at_n h = p_none ir fn
    inits_are node n whole (slot ∷ slots) (t ∷ ts) (i ∷ is) at_n h =
        p_then ir fn (b.init_value S O node n i.offset i.marked i.value) (b.init_parts S O node n is)
        (init_is node n i.offset i.marked t i.value at_n h.0.1) (inits_are node n whole slots ts is at_n h.1)
    inits_are node n whole _ _ _ at_n h = absurd h

    declare_is : (node n : ℕ) (t : Ty) (is : List Init) → n < length fn.locals → Initialised s t is
        → ShapedPart ir fn (b.declare_part S O node n is)
    declare_is node n t [] at_n h = p_one ir fn node (step.Undefine n) (HasShape.undefine n at_n)
    declare_is node n t (i ∷ is) at_n h = inits_are node n t _ _ (i ∷ is) at_n h

    loop_is : (node : ℕ) (test part : Option Expr) (body : Stmt) → OnSome (IsTest s) test → OnSome (Lawful s) part
        → Shaped (b.stmt S O body)
        → Shaped (b.loop_body node (b.optional_guard S O node test) (b.stmt S O body) (b.optional_part S O node part))
    loop_is node test part body t q h =
        b_loop ir fn node (b.optional_guard S O node test) (b.stmt S O body) (b.optional_part S O node part)
        (optional_test node test t) h (optional_dropped node part q)

  mutual
    kind_shaped : (x : Text) (kind : StmtKind) → IsStmt x kind → HasScope ir fn x.scope → (node : ℕ)
        → Shaped (b.stmt_kind S O kind node)
    kind_shaped _ _ (IsStmt.expression x e l) there =
        by_body (body-Expr S O e) (λ node. b_part ir fn (b.dropped node (c.expr S e)) (dropped_is x.scope there node e l))
    kind_shaped _ _ (IsStmt.block x all a) there = by_body (body-Block S O all) (λ node. stmts_shaped x all a there)
    kind_shaped _ _ (IsStmt.if x test one t a) there =
        by_body (body-If S O test one) (λ node. b_if ir fn node (b.test_guard S O node test) (b.stmt S O one) b.no_body
        (test_is x.scope there node test t) (kind_shaped x one.kind a there one.node) (b_none ir fn))
    kind_shaped _ _ (IsStmt.if_else x test one other t a d) there =
        by_body (body-IfElse S O test one other) (λ node. b_if ir fn node (b.test_guard S O node test) (b.stmt S O one)
        (b.stmt S O other) (test_is x.scope there node test t) (kind_shaped x one.kind a there one.node)
        (kind_shaped x other.kind d there other.node))
    kind_shaped _ _ (IsStmt.while x test body t a) there =
        by_body (body-While S O test body) (λ node. b_loop ir fn node (b.test_guard S O node test) (b.stmt S O body) b.no_part
        (test_is x.scope there node test t) (kind_shaped _ body.kind a there body.node) (p_none ir fn))
    kind_shaped _ _ (IsStmt.do_while x body test a t) there =
        by_body (body-Do S O body test) (λ node. b_do ir fn node (b.test_guard S O node test) (b.stmt S O body)
        (test_is x.scope there node test t) (kind_shaped _ body.kind a there body.node))
    kind_shaped _ _ (IsStmt.for x test part body t q a) there =
        by_body (body-For S O test part body) (λ node. b_then ir fn b.no_body
        (b.loop_body node (b.optional_guard S O node test) (b.stmt S O body) (b.optional_part S O node part)) (b_none ir fn)
        (loop_is x.scope there node test part body t q (kind_shaped _ body.kind a there body.node)))
    kind_shaped _ _ (IsStmt.for_first x begin test part body first d t q a) there =
        by_body (body-ForFirst S O begin test part body) (λ node. b_then ir fn (b.stmt S O begin)
        (b.loop_body node (b.optional_guard S O node test) (b.stmt S O body) (b.optional_part S O node part))
        (kind_shaped x begin.kind d there begin.node)
        (loop_is x.scope there node test part body t q (kind_shaped _ body.kind a there body.node)))
    kind_shaped _ _ (IsStmt.switch x on groups t computed i apart values gs) there =
        by_body (body-Switch S O on groups) (λ node. b_switch ir fn node (int_type_of on.ty) (c.expr S on)
        (map (grouped S O) groups)
        (subst (λ (z : IntType). HaveLabels z (map (grouped S O) groups)) (sym (integer_at x.scope on t i))
        (groups_fit t groups values))
        (expr_shaped ir fn x.scope there S on _ i) (groups_shaped _ groups gs there))
    kind_shaped _ _ (IsStmt.break x may) there =
        by_body (body-Break S O) (λ node. b_one ir fn node (λ p brk cont. step.Jump brk) (λ p brk cont. HasShape.jump brk))
    kind_shaped _ _ (IsStmt.continue x may) there =
        by_body (body-Continue S O) (λ node. b_one ir fn node (λ p brk cont. step.Jump cont) (λ p brk cont. HasShape.jump cont))
    kind_shaped _ _ (IsStmt.returned x nothing free) there =
        by_body (body-Return S O None) (λ node. b_one ir fn node (λ p brk cont. step.ReturnNothing)
        (λ p brk cont. HasShape.left))
    kind_shaped _ _ (IsStmt.returned_value x e i scalar free) there =
        by_body (body-Return S O (Some e)) (λ node. b_part ir fn (b.taken_by node (step.Return 0 operand.Temporary) (c.expr S e))
        (p_taken ir fn node (step.Return 0 operand.Temporary) (c.expr S e) (HasShape.returned 0 operand.Temporary tt)
        (expr_shaped ir fn x.scope there S e _ i)))
    kind_shaped _ _ (IsStmt.stamped x p e t i j scalar const timed) there =
        λ node. by_none (b.stmt_kind S O (sk.Stamped p e) node) (body-Stamped S O p e node)
    kind_shaped _ _ (IsStmt.timely x p limit one asked a) there =
        λ node. by_none (b.stmt_kind S O (sk.Timely p limit one None) node) (body-Timely S O p limit one None node)
    kind_shaped _ _ (IsStmt.timely_else x p limit one other asked a d) there =
        λ node. by_none (b.stmt_kind S O (sk.Timely p limit one (Some other)) node)
        (body-Timely S O p limit one (Some other) node)
    kind_shaped _ _ (IsStmt.expires x p names body caught shaped free a d) there =
        λ node. by_none (b.stmt_kind S O (sk.Expires (p ∷ names) body caught) node)
        (body-Expires S O (p ∷ names) body caught node)
    kind_shaped _ _ (IsStmt.declared x n t init behind at_n i) there =
        by_body (body-Declare S O n init) (λ node. b_part ir fn (b.declare_part S O node n init)
        (declare_is x.scope there node n t init (there.objects n t at_n) i))

    stmts_shaped : (x : Text) (ss : List Stmt) → AreStmts x ss → HasScope ir fn x.scope → Shaped (b.stmts S O ss)
    stmts_shaped _ _ (AreStmts.no_stmts x) there = b_none ir fn
    stmts_shaped _ _ (AreStmts.one_more x s more a is) there =
        b_then ir fn (b.stmt S O s) (b.stmts S O more) (kind_shaped x s.kind a there s.node) (stmts_shaped x more is there)

    groups_shaped : (x : Text) (gs : List Group) → AreGroups x gs → HasScope ir fn x.scope
        → Shaped (b.groups_body (map (grouped S O) gs))
    groups_shaped _ _ (AreGroups.no_groups x) there = b_none ir fn
    groups_shaped _ _ (AreGroups.one_group x g more some a is) there =
        b_then ir fn (grouped S O g).body (b.groups_body (map (grouped S O) more))
        (subst (λ (z : Grouped). Shaped z.body) (sym (body-group S O g)) (stmts_shaped x (out-Group g).body a there))
        (groups_shaped x more is there)

  end_shaped : (main : Bool) (node : ℕ) → HaveShapes ir fn (at_node node (b.end_step S O main) ∷ [])
  end_shaped true node = (HasShape.returned 0 (operand.Constant (pos 0)) tt, tt)
  end_shaped false node = (HasShape.left, tt)

  -- the steps of a function
  pub function_shaped : (main : Bool) (x : Text) (params node : ℕ) (ss : List Stmt) → HasParameters fn params
      → AreStmts x ss
      → HasScope ir fn x.scope → HaveShapes ir fn (b.function_steps S O main params node ss)
  function_shaped main x params node ss own a there =
      let size = (b.stmts S O ss).size in (
        HasShape.entered params own,
        shapes_append ir fn ((b.stmts S O ss).steps 1 (1 + size) (1 + size)) _
            ((stmts_shaped x ss a there).shaped 1 (1 + size) (1 + size)) (end_shaped main node),
      )
