-- By induction over the tree: the steps of each statement do what the statement means.
use Rattle.std.proofs.Common.{◌≡◌, ℕ, ◌<◌, List, [], ◌∷◌, length, map, Option, Some, None, Bool, true, ◌&&◌, refl, sym, ◌∙◌, subst, arith, rules}
use Rattle.std.proofs.lemmas.Bool.Decides.{nat_tests}
use Rattle.std.specs.Prelude.{slice_get, nat_lt}
use Rattle.base16.specs.declared.reading.Reading.{Reading}
use Rattle.core_tree.specs.Layout.{int_type_of}
use Rattle.core_tree.specs.declared.program.Core.{Core}
use Rattle.core_tree.specs.declared.types.Slot.{Slot}
use Rattle.core_tree.specs.declared.types.Struct.{Struct}
use Rattle.core_tree.specs.declared.expressions.Expr.{Expr}
use Rattle.core_tree.specs.declared.statements.Group.{Group, Group-F, roll-Group, fold-Group, map-Group}
use Rattle.core_tree.specs.declared.statements.Stmt.{Stmt}
use Rattle.core_tree.specs.declared.statements.StmtKind.{StmtKind, ind-StmtKind, the_lemmas, roll-StmtKind, map-StmtKind}
use Rattle.core_tree.specs.declared.statements.StmtKind.TheOpen.{StmtKind-F}
use Rattle.c_run.specs.Runs.{Action, pure}
use Rattle.c_meaning.specs.Meaning as mean
use Rattle.c_meaning.specs.Statements as st
use Rattle.c_meaning.specs.declared.flow.Flow.{Flow}
use Rattle.c_meaning.specs.declared.flow.Flow.TheVariants.{Normal}
use Rattle.c_meaning.specs.Statements.{Labelled}
use Rattle.ir.specs.declared.form.Ir.{Ir}
use Rattle.ir.specs.declared.form.IrFunction.{IrFunction}
use Rattle.ir.specs.declared.control.Frame.{Frame}
use Rattle.ir.specs.Machine as m
use Rattle.ir_gen.specs.Body as c
use Rattle.ir_gen.specs.Body.{Body, Guard, Part, Grouped}
use Rattle.ir_gen.specs.Built as built
use Rattle.ir_gen.specs.Locals as locals
use Rattle.ir_gen.specs.Code as code
use Rattle.ir_gen.proofs.Expressions.{Served}
use Rattle.ir_gen.proofs.Tree.{sim_expr, both_left, both_right}
use Rattle.ir_gen.proofs.Statements as s
use Rattle.ir_gen.proofs.Switch as w
use Rattle.ir_gen.proofs.Initialising as i

built_roll : (x : StmtKind-F StmtKind Group Stmt) → built.stmt_kind (roll-StmtKind x)
    ≡ built.stmt_layer (map-StmtKind StmtKind Group Stmt Bool Bool Bool built.stmt_kind built.group built.stmt x)
built_roll x = search (rules, the_lemmas)

built_group_roll : (x : Group-F StmtKind Group Stmt) → built.group (roll-Group x) ≡ built.all_true (map built.stmt x.body)
built_group_roll x = search (rules, the_lemmas)

module _ (count : ℕ) where
  locals_roll : (x : StmtKind-F StmtKind Group Stmt) → locals.stmt_kind count (roll-StmtKind x)
      ≡ locals.stmt_layer count (map-StmtKind StmtKind Group Stmt Bool Bool Bool (locals.stmt_kind count)
      (locals.group count) (locals.stmt count) x)
  locals_roll x = search (rules, the_lemmas)

  locals_group_roll : (x : Group-F StmtKind Group Stmt) → locals.group count (roll-Group x)
      ≡ built.all_true (map (locals.stmt count) x.body)
  locals_group_roll x = search (rules, the_lemmas)

  inside : (n : ℕ) → nat_lt n count ≡ true → n < count
  inside n e = grind (arith, nat_tests, e)

module _ (structs : List Struct) (objects : List (List Slot)) where
  abbrev pub grouped : Group → Grouped
  grouped = fold-Group (ℕ → Body) Grouped Body (c.stmt_layer structs objects)
      (λ g. record { labels = g.labels; body = c.bodies g.body }) (λ s. s.kind s.node)

  pub code_roll : (x : StmtKind-F StmtKind Group Stmt)
      → c.stmt_kind structs objects (roll-StmtKind x)
      ≡ c.stmt_layer structs objects (map-StmtKind StmtKind Group Stmt (ℕ → Body) Grouped Body
      (c.stmt_kind structs objects) grouped (c.stmt structs objects) x)
  code_roll x = search (rules, the_lemmas)

  pub code_group_roll : (x : Group-F StmtKind Group Stmt) → grouped (roll-Group x)
      ≡ record { labels = x.labels; body = c.bodies (map (c.stmt structs objects) x.body) }
  code_group_roll x = search (rules, the_lemmas)

module _ (core : Core) (rs : List Reading) (call : mean.Calls) (first : ℕ) where
  abbrev labelled : Group → Labelled
  labelled = fold-Group (ℕ → st.Step) Labelled st.Step (st.stmt_layer core rs call first)
      (λ g. record { labels = g.labels; act = st.in_order g.body }) (λ s. s.kind s.node)

  mean_roll : (x : StmtKind-F StmtKind Group Stmt)
      → st.stmt_kind core rs call first (roll-StmtKind x)
      ≡ st.stmt_layer core rs call first (map-StmtKind StmtKind Group Stmt (ℕ → st.Step) Labelled st.Step
      (st.stmt_kind core rs call first) labelled (st.stmt core rs call first) x)
  mean_roll x = search (rules, the_lemmas)

  mean_group_roll : (x : Group-F StmtKind Group Stmt) → labelled (roll-Group x)
      ≡ record { labels = x.labels; act = st.in_order (map (st.stmt core rs call first) x.body) }
  mean_group_roll x = search (rules, the_lemmas)

  module _ (ir : Ir) (objects : List (List Slot)) (f : ℕ) (fn : IrFunction) (is : slice_get ir.functions f ≡ Some fn)
      (below : List Frame) (served : Served ir rs call below) (own : m.objects_of fn ≡ objects) where
    abbrev SimStmt : Action Flow → Body → Type 0
    SimStmt = s.SimStmt ir rs f fn is first below

    abbrev Claim : StmtKind → Type 0
    Claim k = (node : ℕ) → built.stmt_kind k ≡ true → locals.stmt_kind (length objects) k ≡ true
        → SimStmt (st.stmt_kind core rs call first k node None) (c.stmt_kind core.structs objects k node)

    abbrev SimGroup : Labelled → Grouped → Type 0
    SimGroup l g = (l.labels ≡ g.labels) × SimStmt (l.act None) g.body

    abbrev GroupClaim : Group → Type 0
    GroupClaim g = built.group g ≡ true → locals.group (length objects) g ≡ true
        → SimGroup (labelled g) (grouped core.structs objects g)

    guard_of : (node : ℕ) (e : Expr) → built.expr e ≡ true
        → s.SimGuard ir rs f fn is first below (st.run_test core rs call first node e)
        (c.test_guard core.structs objects node e)
    guard_of node e fine = s.sim_guard ir rs f fn is first below _ (code.expr core.structs e) node (int_type_of e.ty)
        (sim_expr core.structs rs call first ir f fn is below served e fine)

    guard_if : (node : ℕ) (e : Option Expr) → built.if_some built.expr e ≡ true
        → s.SimGuard ir rs f fn is first below (st.loop_test core rs call first node e)
        (c.optional_guard core.structs objects node e)
    guard_if node None fine = s.sim_no_guard ir rs f fn is first below
    guard_if node (Some e) fine = guard_of node e fine

    part_if : (node : ℕ) (e : Option Expr) → built.if_some built.expr e ≡ true
        → s.SimPart ir rs f fn is first below (st.loop_step core rs call first e) (c.optional_part core.structs objects node e)
    part_if node None fine = s.sim_no_part ir rs f fn is first below
    part_if node (Some e) fine = s.sim_dropped ir rs f fn is first below _ (code.expr core.structs e) node
        (sim_expr core.structs rs call first ir f fn is below served e fine)

    -- statements one after the other, from those that are known
    in_order_of : {C : Type 0} (fc : C → Stmt) → ((x : C) → Claim (fc x).kind) → (xs : List C)
        → built.all_true (map built.stmt (map fc xs)) ≡ true
        → built.all_true (map (locals.stmt (length objects)) (map fc xs)) ≡ true
        → SimStmt (st.in_order (map (st.stmt core rs call first) (map fc xs)) None)
        (c.bodies (map (c.stmt core.structs objects) (map fc xs)))
    in_order_of fc hc [] fine ours = s.sim_nothing ir rs f fn is first below
    in_order_of fc hc (x ∷ xs) fine ours =
        s.sim_then ir rs f fn is first below (st.stmt core rs call first (fc x) None)
        (st.in_order (map (st.stmt core rs call first) (map fc xs)) None) (c.stmt core.structs objects (fc x))
        (c.bodies (map (c.stmt core.structs objects) (map fc xs)))
        (hc x (fc x).node (both_left (built.stmt (fc x)) _ fine) (both_left (locals.stmt (length objects) (fc x)) _ ours))
        (in_order_of fc hc xs (both_right (built.stmt (fc x)) _ fine)
        (both_right (locals.stmt (length objects) (fc x)) _ ours))

    module _ {A B C : Type 0} (fa : A → StmtKind) (fb : B → Group) (fc : C → Stmt) (hb : (x : B) → GroupClaim (fb x))
        (hc : (x : C) → Claim (fc x).kind) where
      abbrev opened : StmtKind-F A B C → StmtKind-F StmtKind Group Stmt
      opened y = map-StmtKind A B C StmtKind Group Stmt fa fb fc y

      abbrev coded_layer : StmtKind-F A B C → ℕ → Body
      coded_layer y = c.stmt_layer core.structs objects
          (map-StmtKind StmtKind Group Stmt (ℕ → Body) Grouped Body (c.stmt_kind core.structs objects)
          (grouped core.structs objects) (c.stmt core.structs objects) (opened y))

      abbrev meant_layer : StmtKind-F A B C → ℕ → st.Step
      meant_layer y = st.stmt_layer core rs call first
          (map-StmtKind StmtKind Group Stmt (ℕ → st.Step) Labelled st.Step (st.stmt_kind core rs call first) labelled
          (st.stmt core rs call first) (opened y))

      abbrev built_layer : StmtKind-F A B C → Bool
      built_layer y = built.stmt_layer (map-StmtKind StmtKind Group Stmt Bool Bool Bool built.stmt_kind built.group built.stmt
          (opened y))

      abbrev locals_layer : StmtKind-F A B C → Bool
      locals_layer y = locals.stmt_layer (length objects) (map-StmtKind StmtKind Group Stmt Bool Bool Bool
          (locals.stmt_kind (length objects)) (locals.group (length objects)) (locals.stmt (length objects)) (opened y))

      abbrev ours_in : C → Bool
      ours_in x = locals.stmt (length objects) (fc x)

      one_of : (x : C) → built.stmt (fc x) ≡ true → ours_in x ≡ true → SimStmt (st.stmt core rs call first (fc x) None)
          (c.stmt core.structs objects (fc x))
      one_of x fine ours = hc x (fc x).node fine ours

      groups_of : (xs : List B) → built.all_true (map built.group (map fb xs)) ≡ true
          → built.all_true (map (locals.group (length objects)) (map fb xs)) ≡ true
          → w.Groups ir rs f fn is first below (map labelled (map fb xs)) (map (grouped core.structs objects) (map fb xs))
      groups_of [] fine ours = w.no_groups
      groups_of (x ∷ xs) fine ours =
          let h = hb x (both_left (built.group (fb x)) _ fine) (both_left (locals.group (length objects) (fb x)) _ ours) in
          w.one_group h.0 h.1 (groups_of xs (both_right (built.group (fb x)) _ fine)
          (both_right (locals.group (length objects) (fb x)) _ ours))

      for_loop : (node : ℕ) (test part : Option Expr) (body : C)
          → (built.if_some built.expr test && (built.if_some built.expr part && built.stmt (fc body))) ≡ true
          → ours_in body ≡ true
          → SimStmt (st.loop rs None (st.loop_test core rs call first node test) (st.stmt core rs call first (fc body) None)
          (st.loop_step core rs call first part))
          (c.loop_body node (c.optional_guard core.structs objects node test) (c.stmt core.structs objects (fc body))
          (c.optional_part core.structs objects node part))
      for_loop node test part body fine ours =
          let f2 = both_right (built.if_some built.expr test) _ fine in
          s.sim_loop ir rs f fn is first below (st.loop_test core rs call first node test)
          (st.stmt core rs call first (fc body) None) (st.loop_step core rs call first part)
          (c.optional_guard core.structs objects node test) (c.stmt core.structs objects (fc body))
          (c.optional_part core.structs objects node part) node
          (guard_if node test (both_left (built.if_some built.expr test) _ fine))
          (one_of body (both_right (built.if_some built.expr part) _ f2) ours)
          (part_if node part (both_left (built.if_some built.expr part) _ f2))

      layer : (y : StmtKind-F A B C) (node : ℕ) → built_layer y ≡ true → locals_layer y ≡ true
          → SimStmt (meant_layer y node None) (coded_layer y node)
      layer (StmtKind-F.Expr e) node fine ours = s.sim_expression ir rs f fn is first below _ (code.expr core.structs e) node
          (sim_expr core.structs rs call first ir f fn is below served e fine)
      layer (StmtKind-F.Block all) node fine ours = in_order_of fc hc all fine ours
      layer (StmtKind-F.If test one None) node fine ours =
          s.sim_if ir rs f fn is first below (st.run_test core rs call first node test)
          (st.stmt core rs call first (fc one) None) (pure Normal) (c.test_guard core.structs objects node test)
          (c.stmt core.structs objects (fc one)) c.no_body node
          (guard_of node test (both_left (built.expr test) _ fine))
          (one_of one (both_left (built.stmt (fc one)) _ (both_right (built.expr test) _ fine)) (both_left (ours_in one) _ ours))
          (s.sim_nothing ir rs f fn is first below)
      layer (StmtKind-F.If test one (Some other)) node fine ours =
          s.sim_if ir rs f fn is first below (st.run_test core rs call first node test)
          (st.stmt core rs call first (fc one) None) (st.stmt core rs call first (fc other) None)
          (c.test_guard core.structs objects node test) (c.stmt core.structs objects (fc one))
          (c.stmt core.structs objects (fc other)) node
          (guard_of node test (both_left (built.expr test) _ fine))
          (one_of one (both_left (built.stmt (fc one)) _ (both_right (built.expr test) _ fine)) (both_left (ours_in one) _ ours))
          (one_of other (both_right (built.stmt (fc one)) _ (both_right (built.expr test) _ fine))
          (both_right (ours_in one) _ ours))
      layer (StmtKind-F.While test body) node fine ours =
          s.sim_loop ir rs f fn is first below (st.run_test core rs call first node test)
          (st.stmt core rs call first (fc body) None) (pure tt) (c.test_guard core.structs objects node test)
          (c.stmt core.structs objects (fc body)) c.no_part node
          (guard_of node test (both_left (built.expr test) _ fine)) (one_of body (both_right (built.expr test) _ fine) ours)
          (s.sim_no_part ir rs f fn is first below)
      layer (StmtKind-F.Do body test) node fine ours =
          s.sim_do ir rs f fn is first below (st.run_test core rs call first node test)
          (st.stmt core rs call first (fc body) None) (c.test_guard core.structs objects node test)
          (c.stmt core.structs objects (fc body)) node
          (guard_of node test (both_left (built.expr test) _ fine)) (one_of body (both_right (built.expr test) _ fine) ours)
      layer (StmtKind-F.For None test part body) node fine ours =
          s.sim_then ir rs f fn is first below (pure Normal)
          (st.loop rs None (st.loop_test core rs call first node test) (st.stmt core rs call first (fc body) None)
          (st.loop_step core rs call first part)) c.no_body
          (c.loop_body node (c.optional_guard core.structs objects node test) (c.stmt core.structs objects (fc body))
          (c.optional_part core.structs objects node part))
          (s.sim_nothing ir rs f fn is first below) (for_loop node test part body fine ours)
      layer (StmtKind-F.For (Some begin) test part body) node fine ours =
          s.sim_then ir rs f fn is first below (st.stmt core rs call first (fc begin) None)
          (st.loop rs None (st.loop_test core rs call first node test) (st.stmt core rs call first (fc body) None)
          (st.loop_step core rs call first part)) (c.stmt core.structs objects (fc begin))
          (c.loop_body node (c.optional_guard core.structs objects node test) (c.stmt core.structs objects (fc body))
          (c.optional_part core.structs objects node part))
          (one_of begin (both_left (built.stmt (fc begin)) _ fine) (both_left (ours_in begin) _ ours))
          (for_loop node test part body (both_right (built.stmt (fc begin)) _ fine) (both_right (ours_in begin) _ ours))
      layer (StmtKind-F.Switch on groups) node fine ours =
          w.sim_switch ir rs f fn is first below node (int_type_of on.ty) (code.expr core.structs on)
          (map labelled (map fb groups)) (map (grouped core.structs objects) (map fb groups))
          (groups_of groups (both_right (built.expr on) _ fine) ours) _
          (sim_expr core.structs rs call first ir f fn is below served on (both_left (built.expr on) _ fine))
      layer StmtKind-F.Break node fine ours = s.sim_break ir rs f fn is first below node
      layer StmtKind-F.Continue node fine ours = s.sim_continue ir rs f fn is first below node
      layer (StmtKind-F.Return None) node fine ours = s.sim_return_nothing ir rs f fn is first below node
      layer (StmtKind-F.Return (Some e)) node fine ours
          = s.sim_return ir rs f fn is first below _ (code.expr core.structs e) node
          (sim_expr core.structs rs call first ir f fn is below served e fine)
      layer (StmtKind-F.Stamped p e) node fine ours = absurd (grind (arith, fine))
      layer (StmtKind-F.Timely p limit one other) node fine ours = absurd (grind (arith, fine))
      layer (StmtKind-F.Expires names body caught) node fine ours = absurd (grind (arith, fine))
      layer (StmtKind-F.Declare n []) node fine ours = s.sim_part ir rs f fn is first below _ _
          (s.sim_undefined ir rs f fn is first below node n)
      layer (StmtKind-F.Declare n (one ∷ more)) node fine ours = s.sim_part ir rs f fn is first below _ _
          (i.sim_inits ir rs f fn is first below objects own core call served node n (inside (length objects) n ours) (one ∷ more)
          fine)

      stmt_case : (y : StmtKind-F A B C) → Claim (roll-StmtKind (opened y))
      stmt_case y = λ node fine ours.
          let x = opened y in
          subst (λ (g : ℕ → st.Step). SimStmt (g node None) (c.stmt_kind core.structs objects (roll-StmtKind x) node))
          (sym (mean_roll x))
          (subst (λ (g : ℕ → Body). SimStmt (meant_layer y node None) (g node)) (sym (code_roll core.structs objects x))
          (layer y node (sym (built_roll x) ∙ fine) (sym (locals_roll (length objects) x) ∙ ours)))

    group_case : {A B C : Type 0} (fa : A → StmtKind) (fb : B → Group) (fc : C → Stmt) → ((x : C) → Claim (fc x).kind)
        → (y : Group-F A B C) → GroupClaim (roll-Group (map-Group A B C StmtKind Group Stmt fa fb fc y))
    group_case {A} {B} {C} fa fb fc hc y = λ fine ours.
        let x : Group-F StmtKind Group Stmt = map-Group A B C StmtKind Group Stmt fa fb fc y in
        subst (λ (l : Labelled). SimGroup l (grouped core.structs objects (roll-Group x))) (sym (mean_group_roll x))
        (subst (λ (g : Grouped). SimGroup
        (record { labels = x.labels; act = st.in_order (map (st.stmt core rs call first) x.body) }) g)
        (sym (code_group_roll core.structs objects x))
        (refl, in_order_of fc hc y.body (sym (built_group_roll x) ∙ fine) (sym (locals_group_roll (length objects) x) ∙ ours)))

    served_kind : (k : StmtKind) → Claim k
    served_kind = ind-StmtKind Claim GroupClaim (λ x. Claim x.kind)
        (λ x y is. subst (λ z. Claim (roll-StmtKind z)) is (stmt_case (λ e. e.0) (λ e. e.0) (λ e. e.0) (λ e. e.1) (λ e. e.1) y))
        (λ x y is. subst (λ z. GroupClaim (roll-Group z)) is (group_case (λ e. e.0) (λ e. e.0) (λ e. e.0) (λ e. e.1) y))
        (λ x y is. subst (λ z. Claim z.kind) is y.kind.1)

    pub sim_stmts : (xs : List Stmt) → built.stmts xs ≡ true → locals.stmts (length objects) xs ≡ true
        → s.SimStmt ir rs f fn is first below (st.stmts core rs call first xs None) (c.stmts core.structs objects xs)
    sim_stmts [] fine ours = s.sim_nothing ir rs f fn is first below
    sim_stmts (x ∷ xs) fine ours =
        s.sim_then ir rs f fn is first below (st.stmt core rs call first x None) (st.stmts core rs call first xs None)
        (c.stmt core.structs objects x) (c.stmts core.structs objects xs)
        (served_kind x.kind x.node (both_left (built.stmt x) _ fine) (both_left (locals.stmt (length objects) x) _ ours))
        (sim_stmts xs (both_right (built.stmt x) _ fine) (both_right (locals.stmt (length objects) x) _ ours))
