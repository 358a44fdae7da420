-- The steps of each statement and function fit their rows of the cost table, and use one helper routine a node at most.
use Rattle.std.proofs.Common.{◌≡◌, ℕ, suc, ◌+◌, ◌*◌, ◌≤◌, List, [], ◌∷◌, ◌++◌, length, map, Option, Some, None, Bool, true, false, sym, subst, arith, rules}
use Rattle.std.specs.Prelude.{ℤ}
use Rattle.base16.specs.declared.image.Kind.{Kind}
use Rattle.base16.specs.declared.integer.IntType.{IntType}
use Rattle.core_tree.specs.Layout.{int_type_of}
use Rattle.core_tree.specs.Costs as cost
use Rattle.core_tree.specs.Heights.{optional}
use Rattle.core_tree.specs.Nodes.{total}
use Rattle.core_tree.specs.Numbers as number
use Rattle.core_tree.specs.Numbers.{Numbers, function_numbers}
use Rattle.core_tree.specs.Reaching.{joined, some_of}
use Rattle.core_tree.specs.declared.types.Slot.{Slot}
use Rattle.core_tree.specs.declared.types.Struct.{Struct}
use Rattle.core_tree.specs.declared.expressions.Expr.{Expr}
use Rattle.core_tree.specs.declared.statements.Group.{Group, Group-F, roll-Group, map-Group, fold-Group}
use Rattle.core_tree.specs.declared.statements.Init.{Init}
use Rattle.core_tree.specs.declared.statements.Stmt.{Stmt}
use Rattle.core_tree.specs.declared.statements.StmtKind.{StmtKind, ind-StmtKind, the_lemmas, roll-StmtKind, map-StmtKind, fold-StmtKind}
use Rattle.core_tree.specs.declared.statements.StmtKind.TheOpen.{StmtKind-F}
use Rattle.core_tree.specs.declared.program.Function.{Function}
use Rattle.ir.specs.declared.form.Operand.{Operand}
use Rattle.ir.specs.declared.form.Operand.TheVariants as operand
use Rattle.ir.specs.declared.form.Step.{Step}
use Rattle.ir.specs.declared.form.StepKind.{StepKind}
use Rattle.ir.specs.declared.form.StepKind.TheVariants as step
use Rattle.ir.specs.Table.{size}
use Rattle.ir_gen.specs.Code as c
use Rattle.ir_gen.specs.Code.{at_node}
use Rattle.ir_gen.specs.Body as b
use Rattle.ir_gen.specs.Body.{Body, Guard, Part, Grouped}
use Rattle.ir_gen.specs.Sizes.{helper_uses, weights}
use Rattle.ir_gen.proofs.StmtTree as stmts
use Rattle.ir_gen.proofs.Weighing.{Within, w_none, w_cons, w_append, w_more, w_one, w_step, weights_both, w_more_args, bring_short, own_two, dist}
use Rattle.ir_gen.proofs.Rows.{expr_fits}

init_short : (n offset : ℕ) (k : Kind) (marked : Bool) (x : Operand)
    → size (b.init_step n offset k marked x) ≤ cost.store_row marked
init_short n offset k true x = omega (arith, bring_short x)
init_short n offset k false x = omega (arith, bring_short x)

init_alone : (n offset : ℕ) (k : Kind) (marked : Bool) (x : Operand) → helper_uses (b.init_step n offset k marked x) ≤ 0
init_alone n offset k true x = omega arith
init_alone n offset k false x = omega arith

sum_cases : (n c : ℕ) → n * 14 + n * (14 * c) ≤ n * (14 * suc c)
sum_cases n c = own_two n 14 (14 * c) (14 * suc c) (omega arith)

sum_groups : (n c e : ℕ) → n * (14 * c) + n * (14 * e) ≤ n * (14 * (c + e))
sum_groups n c e = own_two n (14 * c) (14 * e) (14 * (c + e)) (omega arith)

sum_switch : (n c l a g : ℕ) → c ≤ l → a + (n * (14 * c) + (n * 0 + (n * 4 + g))) ≤ n * (24 + 20 * l) + (a + g)
sum_switch n c l a g h = let f : 14 * c + 4 ≤ 24 + 20 * l = omega (arith, h) in
    omega (arith, own_two n (14 * c) 4 (24 + 20 * l) f)

sum_inits : (n r i s j : ℕ) → n * r + i + (n * s + j) ≤ n * (r + s) + (i + j)
sum_inits n r i s j = omega (arith, dist r s n)

sum_function : (n params e a : ℕ) → e ≤ 10 → n * (8 + 6 * params) + (a + (n * 10 + 0)) ≤ n * (48 + 12 * params) + a
sum_function n params e a h = let f : (8 + 6 * params) + 10 ≤ 48 + 12 * params = omega arith in
    omega (arith, own_two n (8 + 6 * params) 10 (48 + 12 * params) f)

-- one layer of a fold that asks of a statement its kind and its node
module _ (alg : StmtKind-F (Bool → ℕ → ℕ) cost.Grouped (Bool → ℕ) → Bool → ℕ → ℕ)
    (groups : Group-F (Bool → ℕ → ℕ) cost.Grouped (Bool → ℕ) → cost.Grouped) where
  abbrev folded : StmtKind → Bool → ℕ → ℕ
  folded = fold-StmtKind (Bool → ℕ → ℕ) cost.Grouped (Bool → ℕ) alg groups (λ s inside. s.kind inside s.node)

  abbrev group_folded : Group → cost.Grouped
  group_folded = fold-Group (Bool → ℕ → ℕ) cost.Grouped (Bool → ℕ) alg groups (λ s inside. s.kind inside s.node)

  fold_roll : (x : StmtKind-F StmtKind Group Stmt) → folded (roll-StmtKind x)
      ≡ alg (map-StmtKind StmtKind Group Stmt (Bool → ℕ → ℕ) cost.Grouped (Bool → ℕ) folded group_folded
      (λ s inside. folded s.kind inside s.node) x)
  fold_roll x = search (rules, the_lemmas)

  group_fold_roll : (x : Group-F StmtKind Group Stmt) → group_folded (roll-Group x)
      ≡ groups (map-Group StmtKind Group Stmt (Bool → ℕ → ℕ) cost.Grouped (Bool → ℕ) folded group_folded
      (λ s inside. folded s.kind inside s.node) x)
  group_fold_roll x = search (rules, the_lemmas)

module _ (w : ℕ → ℕ) where
  w_nothing : (a e : ℕ) → Within w [] a e
  w_nothing a e = w_more w [] 0 0 a e (omega arith) (omega arith) (w_none w)

  -- ---- shapes of statements

  w_guard : (node to : ℕ) (t : IntType) (xs : List Step) (a e : ℕ) → Within w xs a e
      → Within w (xs ++ at_node node (c.unless t to 0) ∷ []) (w node * 12 + a) e
  w_guard node to t xs a e h = w_more w _ _ _ _ _ (omega arith) (omega arith)
      (w_append w xs _ _ _ _ _ h (w_cons w node (c.unless t to 0) 12 0 [] 0 0 (omega arith) (omega arith) (w_none w)))

  w_dropped : (node : ℕ) (xs : List Step) (a e : ℕ) → Within w xs a e → Within w (xs ++ at_node node (step.Drop 0) ∷ []) a e
  w_dropped node xs a e h = w_more w _ _ _ _ _ (omega arith) (omega arith)
      (w_append w xs _ _ _ _ _ h (w_cons w node (step.Drop 0) 0 0 [] 0 0 (omega arith) (omega arith) (w_none w)))

  w_if : (node to : ℕ) (gs ys zs : List Step) (a b g : ℕ) (ns ms os : List ℕ) → Within w gs (w node * 12 + a) (weights w ns)
      → Within w ys b (weights w ms) → Within w zs g (weights w os)
      → Within w (gs ++ (ys ++ (at_node node (step.Jump to) ∷ zs))) (w node * 24 + (a + (b + (g + 0))))
      (w node + weights w (ns ++ ms ++ os))
  w_if node to gs ys zs a b g ns ms os hg hy hz =
      w_more w _ _ _ _ _ (omega arith) (omega (arith, weights_both w (ns ++ ms) os, weights_both w ns ms))
      (w_append w gs _ _ _ _ _ hg (w_append w ys _ _ _ _ _ hy
      (w_cons w node (step.Jump to) 4 0 zs _ _ (omega arith) (omega arith) hz)))

  w_loop : (node to : ℕ) (gs ys ps : List Step) (a b g A B G : ℕ) → Within w gs (w node * 12 + a) A → Within w ys b B
      → Within w ps g G
      → Within w (at_node node step.Turn ∷ (gs ++ (ys ++ (ps ++ at_node node (step.Jump to) ∷ []))))
      (w node * 20 + (a + (b + g))) (A + (B + G))
  w_loop node to gs ys ps a b g A B G hg hy hp =
      w_more w _ _ _ _ _ (omega arith) (omega arith)
      (w_cons w node step.Turn 4 0 _ _ _ (omega arith) (omega arith)
      (w_append w gs _ _ _ _ _ hg (w_append w ys _ _ _ _ _ hy
      (w_append w ps _ _ _ _ _ hp (w_cons w node (step.Jump to) 4 0 [] 0 0 (omega arith) (omega arith) (w_none w))))))

  w_while : (node to : ℕ) (gs ys : List Step) (a b : ℕ) (ns ms : List ℕ) → Within w gs (w node * 12 + a) (weights w ns)
      → Within w ys b (weights w ms)
      → Within w (at_node node step.Turn ∷ (gs ++ (ys ++ ([] ++ at_node node (step.Jump to) ∷ []))))
      (w node * 56 + (a + (b + 0))) (w node + weights w (ns ++ ms))
  w_while node to gs ys a b ns ms hg hy = w_more w _ _ _ _ _ (omega arith) (omega (arith, weights_both w ns ms))
      (w_loop node to gs ys [] a b 0 (weights w ns) (weights w ms) 0 hg hy (w_none w))

  w_do : (node begin to : ℕ) (gs ys : List Step) (a b : ℕ) (ns ms : List ℕ) → Within w gs (w node * 12 + a) (weights w ns)
      → Within w ys b (weights w ms)
      → Within w ((at_node node (step.Jump begin) ∷ [])
      ++ (at_node node step.Turn ∷ (gs ++ (ys ++ ([] ++ at_node node (step.Jump to) ∷ []))))) (w node * 56 + (b + (a + 0)))
      (w node + weights w (ms ++ ns))
  w_do node begin to gs ys a b ns ms hg hy =
      w_more w _ _ _ _ _ (omega arith) (omega (arith, weights_both w ms ns))
      (w_cons w node (step.Jump begin) 4 0 _ _ _ (omega arith) (omega arith)
      (w_loop node to gs ys [] a b 0 (weights w ns) (weights w ms) 0 hg hy (w_none w)))

  w_for : (node to : ℕ) (is gs ys ps : List Step) (i a b g : ℕ) (ls ns ms os : List ℕ) → Within w is i (weights w ls)
      → Within w gs (w node * 12 + a) (weights w ns) → Within w ys b (weights w ms) → Within w ps g (weights w os)
      → Within w (is ++ (at_node node step.Turn ∷ (gs ++ (ys ++ (ps ++ at_node node (step.Jump to) ∷ [])))))
      (w node * 56 + (i + (a + (g + (b + 0))))) (w node + weights w (ls ++ ns ++ os ++ ms))
  w_for node to is gs ys ps i a b g ls ns ms os hi hg hy hp =
      w_more w _ _ _ _ _ (omega arith)
      (omega (arith, weights_both w (ls ++ ns ++ os) ms, weights_both w (ls ++ ns) os, weights_both w ls ns))
      (w_append w is _ _ _ _ _ hi (w_loop node to gs ys ps a b g (weights w ns) (weights w ms) (weights w os) hg hy hp))

  w_labels : (node : ℕ) (t : IntType) (to : ℕ) (ls : List (Option ℤ))
      → Within w (b.label_cases node t to ls) (w node * (14 * b.label_count ls)) 0
  w_labels node t to [] = w_nothing _ _
  w_labels node t to (None ∷ ls) = w_labels node t to ls
  w_labels node t to (Some n ∷ ls) =
      w_more w _ _ _ _ _ (sum_cases (w node) (b.label_count ls)) (omega arith)
      (w_cons w node (step.Case 0 t n to) 14 0 _ _ _ (omega arith) (omega arith) (w_labels node t to ls))

  w_cases : (node : ℕ) (t : IntType) (p : ℕ) (gs : List Grouped)
      → Within w (b.cases node t p gs) (w node * (14 * b.case_count gs)) 0
  w_cases node t p [] = w_nothing _ _
  w_cases node t p (g ∷ gs) =
      w_more w _ _ _ _ _ (sum_groups (w node) (b.label_count g.labels) (b.case_count gs)) (omega arith)
      (w_append w (b.label_cases node t p g.labels) _ _ _ _ _ (w_labels node t p g.labels)
      (w_cases node t (p + g.body.size) gs))

  w_switch : (node to c l : ℕ) (xs cs gs : List Step) (a g : ℕ) (ns ms : List ℕ) → c ≤ l → Within w xs a (weights w ns)
      → Within w cs (w node * (14 * c)) 0 → Within w gs g (weights w ms)
      → Within w (xs ++ (cs ++ (at_node node (step.Drop 0) ∷ (at_node node (step.Jump to) ∷ gs))))
      (w node * (24 + 20 * l) + (a + g)) (w node + weights w (ns ++ ms))
  w_switch node to c l xs cs gs a g ns ms h hx hc hg =
      w_more w _ _ _ _ _ (sum_switch (w node) c l a g h) (omega (arith, weights_both w ns ms))
      (w_append w xs _ _ _ _ _ hx (w_append w cs _ _ _ _ _ hc
      (w_cons w node (step.Drop 0) 0 0 _ _ _ (omega arith) (omega arith)
      (w_cons w node (step.Jump to) 4 0 gs _ _ (omega arith) (omega arith) hg))))

  w_init : (node : ℕ) (k : StepKind) (row extra a e : ℕ) (xs : List Step) → size k ≤ row → helper_uses k ≤ 0 → Within w xs a e
      → Within w (xs ++ at_node node k ∷ []) (w node * row + a) e
  w_init node k row extra a e xs hn hm h = w_more w _ _ _ _ _ (omega arith) (omega arith)
      (w_append w xs _ _ _ _ _ h (w_cons w node k row 0 [] 0 0 hn hm (w_none w)))

  w_two_inits : (node r i s j : ℕ) (xs ys : List Step) (ns ms : List ℕ) → Within w xs (w node * r + i) (weights w ns)
      → Within w ys (w node * s + j) (weights w ms)
      → Within w (xs ++ ys) (w node * (r + s) + (i + j)) (weights w (ns ++ ms))
  w_two_inits node r i s j xs ys ns ms hx hy = w_more w _ _ _ _ _ (sum_inits (w node) r i s j)
      (omega (arith, weights_both w ns ms)) (w_append w xs ys _ _ _ _ hx hy)

  -- a block's parts are its own
  w_block : (node : ℕ) (xs : List Step) (a : ℕ) (ns : List ℕ) → Within w xs a (weights w ns)
      → Within w xs (w node * 0 + a) (w node + weights w ns)
  w_block node xs a ns h = w_more w xs _ _ _ _ (omega arith) (omega arith) h

  w_declare : (node r a : ℕ) (xs : List Step) (ns : List ℕ) → Within w xs (w node * r + a) (weights w ns)
      → Within w xs (w node * r + a) (w node + weights w ns)
  w_declare node r a xs ns h = w_more w xs _ _ _ _ (omega arith) (omega arith) h

  w_function : (node params : ℕ) (k : StepKind) (xs : List Step) (a : ℕ) (ns : List ℕ) → size k ≤ 10 → helper_uses k ≤ 0
      → Within w xs a (weights w ns)
      → Within w (at_node node (step.Enter params) ∷ (xs ++ at_node node k ∷ [])) (w node * (48 + 12 * params) + a)
      (w node + weights w ns)
  w_function node params k xs a ns hk hu h =
      w_more w _ _ _ _ _ (sum_function (w node) params (size k) a hk) (omega arith)
      (w_cons w node (step.Enter params) (8 + 6 * params) 0 _ _ _ (omega arith) (omega arith)
      (w_append w xs _ _ _ _ _ h (w_cons w node k 10 0 [] 0 0 hk hu (w_none w))))

  -- ---- the folds

  abbrev stmt_kind_numbers : StmtKind → ℕ → Numbers
  stmt_kind_numbers = fold-StmtKind (ℕ → Numbers) Numbers Numbers (λ x node. node ∷ number.stmt_step x) (λ g. joined g.body)
      (λ x. x.kind x.node)

  abbrev group_numbers : Group → Numbers
  group_numbers = fold-Group (ℕ → Numbers) Numbers Numbers (λ x node. node ∷ number.stmt_step x) (λ g. joined g.body)
      (λ x. x.kind x.node)

  abbrev costed : StmtKind-F StmtKind Group Stmt → StmtKind-F (Bool → ℕ → ℕ) cost.Grouped (Bool → ℕ)
  costed x = map-StmtKind StmtKind Group Stmt (Bool → ℕ → ℕ) cost.Grouped (Bool → ℕ) (cost.stmt_kind_rows w) (cost.grouped w)
      (cost.stmt_rows w) x

  abbrev numbered : StmtKind-F StmtKind Group Stmt → Numbers
  numbered x = number.stmt_step (map-StmtKind StmtKind Group Stmt
      (ℕ → Numbers) Numbers Numbers stmt_kind_numbers group_numbers number.stmt_numbers x)

  rows_roll : (x : StmtKind-F StmtKind Group Stmt)
      → cost.stmt_kind_rows w (roll-StmtKind x) ≡ (λ inside node. w node * cost.stmt_row inside (costed x) + total
      (cost.stmt_row_parts w (costed x) inside))
  rows_roll x = fold_roll (λ s inside node. w node * cost.stmt_row inside s + total (cost.stmt_row_parts w s inside))
      (λ g. record { labels = length g.labels; rows = λ inside. total (map (λ s. s inside) g.body) }) x

  group_rows_roll : (x : Group-F StmtKind Group Stmt)
      → cost.grouped w (roll-Group x) ≡ record {
        labels = length x.labels;
        rows
            = λ inside. total (map (λ (s : Bool → ℕ). s inside) (map (cost.stmt_rows w) x.body));
      }
  group_rows_roll x = group_fold_roll (λ s inside node. w node * cost.stmt_row inside s + total
      (cost.stmt_row_parts w s inside)) (λ g. record
      { labels = length g.labels; rows = λ inside. total (map (λ s. s inside) g.body) }) x

  numbers_roll : (x : StmtKind-F StmtKind Group Stmt) → stmt_kind_numbers (roll-StmtKind x) ≡ (λ node. node ∷ numbered x)
  numbers_roll x = search (rules, the_lemmas)

  group_numbers_roll : (x : Group-F StmtKind Group Stmt) → group_numbers (roll-Group x)
      ≡ joined (map number.stmt_numbers x.body)
  group_numbers_roll x = search (rules, the_lemmas)

  labels_counted : (ls : List (Option ℤ)) → b.label_count ls ≤ length ls
  labels_counted [] = omega arith
  labels_counted (None ∷ ls) = omega (arith, labels_counted ls)
  labels_counted (Some n ∷ ls) = omega (arith, labels_counted ls)

  module _ (structs : List Struct) (objects : List (List Slot)) where
    abbrev StmtClaim : StmtKind → Type 0
    StmtClaim k = (node p brk cont : ℕ) → Within w ((b.stmt_kind structs objects k node).steps p brk cont)
        (cost.stmt_kind_rows w k false node) (weights w (stmt_kind_numbers k node))

    record GroupFits (g : Grouped) (counted : cost.Grouped) (numbers : Numbers) : Type 0 where
      labels : b.label_count g.labels ≤ counted.labels
      body : (p brk cont : ℕ) → Within w (g.body.steps p brk cont) (counted.rows false) (weights w numbers)

    abbrev GroupClaim : Group → Type 0
    GroupClaim g = GroupFits (stmts.grouped structs objects g) (cost.grouped w g) (group_numbers g)

    test_fits : (node : ℕ) (e : Expr) (p other : ℕ)
        → Within w ((b.test_guard structs objects node e).steps p other) (w node * 12 + cost.expr_rows w e)
        (weights w (number.expr_numbers e))
    test_fits node e p other = w_guard node other (int_type_of e.ty) _ _ _ (expr_fits w structs e p 0)

    optional_test : (node : ℕ) (e : Option Expr) (p other : ℕ)
        → Within w ((b.optional_guard structs objects node e).steps p other) (w node * 12 + optional (cost.expr_rows w) e)
        (weights w (some_of number.expr_numbers e))
    optional_test node None p other = w_nothing _ _
    optional_test node (Some e) p other = test_fits node e p other

    optional_step : (node : ℕ) (e : Option Expr) (p : ℕ)
        → Within w ((b.optional_part structs objects node e).steps p) (optional (cost.expr_rows w) e)
        (weights w (some_of number.expr_numbers e))
    optional_step node None p = w_none w
    optional_step node (Some e) p = w_dropped node _ _ _ (expr_fits w structs e p 0)

    one_init : (node n offset : ℕ) (marked : Bool) (e : Option Expr) (p : ℕ)
        → Within w ((b.init_value structs objects node n offset marked e).steps p)
        (w node * (cost.store_row marked + cost.left_out_row e) + optional (cost.expr_rows w) e)
        (weights w (some_of number.expr_numbers e))
    one_init node n offset marked None p =
        w_init node (b.init_step n offset (b.local_kind objects n offset) marked (b.zero_of (b.local_kind objects n offset)))
        (cost.store_row marked + 12) 0 0 0 []
        (omega (
          arith,
          init_short n offset (b.local_kind objects n offset) marked
              (b.zero_of (b.local_kind objects n offset)),
        ))
        (init_alone n offset (b.local_kind objects n offset) marked (b.zero_of (b.local_kind objects n offset)))
        (w_none w)
    one_init node n offset marked (Some e) p =
        w_init node (b.init_step n offset (b.local_kind objects n offset) marked operand.Temporary)
        (cost.store_row marked + 0) 0 _ _ _
        (omega (arith, init_short n offset (b.local_kind objects n offset) marked operand.Temporary))
        (init_alone n offset (b.local_kind objects n offset) marked operand.Temporary) (expr_fits w structs e p 0)

    all_inits : (node n : ℕ) (is : List Init) (p : ℕ)
        → Within w ((b.init_parts structs objects node n is).steps p)
        (w node * total (map cost.init_row is) + total (map (cost.init_rows w) is))
        (weights w (joined (map number.init_numbers is)))
    all_inits node n [] p = w_nothing _ _
    all_inits node n (i ∷ is) p =
        w_two_inits node (cost.init_row i) (cost.init_rows w i) (total (map cost.init_row is))
        (total (map (cost.init_rows w) is)) _ _ (number.init_numbers i) (joined (map number.init_numbers is))
        (one_init node n i.offset i.marked i.value p)
        (all_inits node n is (p + (b.init_value structs objects node n i.offset i.marked i.value).size))

    declare_fits : (node n : ℕ) (is : List Init) (p : ℕ)
        → Within w ((b.declare_part structs objects node n is).steps p)
        (w node * total (map cost.init_row is) + total (map (cost.init_rows w) is))
        (w node + weights w (joined (map number.init_numbers is)))
    declare_fits node n [] p = w_one w node (step.Undefine n) 0 (omega arith) (omega arith)
    declare_fits node n (i ∷ is) p = w_declare node _ _ _ (joined (map number.init_numbers (i ∷ is)))
        (all_inits node n (i ∷ is) p)

    bodies_fit : {C : Type 0} (fc : C → Stmt) → ((x : C) → StmtClaim (fc x).kind) → (xs : List C) (p brk cont : ℕ)
        → Within w ((b.bodies (map (b.stmt structs objects) (map fc xs))).steps p brk cont)
        (total (map (λ (s : Bool → ℕ). s false) (map (cost.stmt_rows w) (map fc xs))))
        (weights w (joined (map number.stmt_numbers (map fc xs))))
    bodies_fit fc hc [] p brk cont = w_none w
    bodies_fit fc hc (x ∷ xs) p brk cont =
        w_more_args w _ _ _ _ (number.stmt_numbers (fc x)) (joined (map number.stmt_numbers (map fc xs)))
        (hc x (fc x).node p brk cont) (bodies_fit fc hc xs (p + (b.stmt structs objects (fc x)).size) brk cont)

    module _ {A B C : Type 0} (fa : A → StmtKind) (fb : B → Group) (fc : C → Stmt) (hb : (x : B) → GroupClaim (fb x))
        (hc : (x : C) → StmtClaim (fc x).kind) where
      abbrev opened : StmtKind-F A B C → StmtKind-F StmtKind Group Stmt
      opened y = map-StmtKind A B C StmtKind Group Stmt fa fb fc y

      abbrev coded : StmtKind-F A B C → ℕ → Body
      coded y = b.stmt_layer structs objects (map-StmtKind StmtKind Group Stmt (ℕ → Body) Grouped Body
          (b.stmt_kind structs objects) (stmts.grouped structs objects) (b.stmt structs objects) (opened y))

      one : (x : C) (p brk cont : ℕ) → Within w ((b.stmt structs objects (fc x)).steps p brk cont)
          (cost.stmt_rows w (fc x) false) (weights w (number.stmt_numbers (fc x)))
      one x p brk cont = hc x (fc x).node p brk cont

      groups_fit : (xs : List B) (p brk cont : ℕ) → Within w
          ((b.groups_body (map (stmts.grouped structs objects) (map fb xs))).steps p brk cont)
          (total (map (λ (g : cost.Grouped). g.rows false) (map (cost.grouped w) (map fb xs))))
          (weights w (joined (map group_numbers (map fb xs))))
      groups_fit [] p brk cont = w_none w
      groups_fit (x ∷ xs) p brk cont =
          w_more_args w _ _ _ _ (group_numbers (fb x)) (joined (map group_numbers (map fb xs))) ((hb x).body p brk cont)
          (groups_fit xs (p + (stmts.grouped structs objects (fb x)).body.size) brk cont)

      cases_counted : (xs : List B) → b.case_count (map (stmts.grouped structs objects) (map fb xs)) ≤ total
          (map (λ (g : cost.Grouped). g.labels) (map (cost.grouped w) (map fb xs)))
      cases_counted [] = omega arith
      cases_counted (x ∷ xs) = omega (arith, (hb x).labels, cases_counted xs)

      layer : (y : StmtKind-F A B C) (node p brk cont : ℕ)
          → Within w ((coded y node).steps p brk cont)
          (w node * cost.stmt_row false (costed (opened y)) + total (cost.stmt_row_parts w (costed (opened y)) false))
          (w node + weights w (numbered (opened y)))
      layer (StmtKind-F.Expr e) node p brk cont = w_step w _ node (step.Drop 0) 0 _ (number.expr_numbers e) (omega arith)
          (omega arith) (expr_fits w structs e p 0)
      layer (StmtKind-F.Block all) node p brk cont
          = w_block node _ _ (joined (map number.stmt_numbers (map fc all))) (bodies_fit fc hc all p brk cont)
      layer (StmtKind-F.If test x None) node p brk cont
          = w_if node _ _ _ [] _ _ 0 (number.expr_numbers test) (number.stmt_numbers (fc x)) [] (test_fits node test p _)
          (one x _ brk cont) (w_none w)
      layer (StmtKind-F.If test x (Some y)) node p brk cont
          = w_if node _ _ _ _ _ _ _ (number.expr_numbers test) (number.stmt_numbers (fc x)) (number.stmt_numbers (fc y))
          (test_fits node test p _) (one x _ brk cont) (one y _ brk cont)
      layer (StmtKind-F.While test x) node p brk cont
          = w_while node _ _ _ _ _ (number.expr_numbers test) (number.stmt_numbers (fc x)) (test_fits node test (p + 1) _)
          (one x _ _ _)
      layer (StmtKind-F.Do x test) node p brk cont
          = w_do node _ _ _ _ _ _ (number.expr_numbers test) (number.stmt_numbers (fc x)) (test_fits node test (p + 1 + 1) _)
          (one x _ _ _)
      layer (StmtKind-F.For None test part x) node p brk cont =
          w_for node _ [] _ _ _ 0 _ _ _ [] (some_of number.expr_numbers test) (number.stmt_numbers (fc x))
          (some_of number.expr_numbers part) (w_none w) (optional_test node test _ _) (one x _ _ _)
          (optional_step node part _)
      layer (StmtKind-F.For (Some begin) test part x) node p brk cont =
          w_for node _ _ _ _ _ _ _ _ _ (number.stmt_numbers (fc begin)) (some_of number.expr_numbers test)
          (number.stmt_numbers (fc x)) (some_of number.expr_numbers part) (one begin p brk cont)
          (optional_test node test _ _) (one x _ _ _) (optional_step node part _)
      layer (StmtKind-F.Switch on groups) node p brk cont =
          w_switch node _ (b.case_count (map (stmts.grouped structs objects) (map fb groups)))
          (total (map (λ (g : cost.Grouped). g.labels) (map (cost.grouped w) (map fb groups)))) _ _ _ _ _
          (number.expr_numbers on) (joined (map group_numbers (map fb groups)))
          (cases_counted groups) (expr_fits w structs on p 0)
          (w_cases node (int_type_of on.ty) _ (map (stmts.grouped structs objects) (map fb groups)))
          (groups_fit groups _ _ cont)
      layer StmtKind-F.Break node p brk cont = w_one w node (step.Jump brk) 20 (omega arith) (omega arith)
      layer StmtKind-F.Continue node p brk cont = w_one w node (step.Jump cont) 20 (omega arith) (omega arith)
      layer (StmtKind-F.Return None) node p brk cont = w_one w node step.ReturnNothing 20 (omega arith) (omega arith)
      layer (StmtKind-F.Return (Some e)) node p brk cont
          = w_step w _ node (step.Return 0 operand.Temporary) 20 _ (number.expr_numbers e) (omega arith) (omega arith)
          (expr_fits w structs e p 0)
      layer (StmtKind-F.Stamped x e) node p brk cont = w_nothing _ _
      layer (StmtKind-F.Timely x limit y z) node p brk cont = w_nothing _ _
      layer (StmtKind-F.Expires names body caught) node p brk cont = w_nothing _ _
      layer (StmtKind-F.Declare n init) node p brk cont = declare_fits node n init p

      stmt_case : (y : StmtKind-F A B C) → StmtClaim (roll-StmtKind (opened y))
      stmt_case y = λ node p brk cont.
          let x = opened y in
          subst (λ (g : Bool → ℕ → ℕ). Within w ((b.stmt_kind structs objects (roll-StmtKind x) node).steps p brk cont)
          (g false node) (weights w (stmt_kind_numbers (roll-StmtKind x) node))) (sym (rows_roll x))
          (subst (λ (g : ℕ → Numbers). Within w ((b.stmt_kind structs objects (roll-StmtKind x) node).steps p brk cont)
          (w node * cost.stmt_row false (costed x) + total (cost.stmt_row_parts w (costed x) false)) (weights w (g node)))
          (sym (numbers_roll x))
          (subst (λ (g : ℕ → Body). Within w ((g node).steps p brk cont)
          (w node * cost.stmt_row false (costed x) + total (cost.stmt_row_parts w (costed x) false))
          (w node + weights w (numbered x))) (sym (stmts.code_roll structs objects x)) (layer y node p brk cont)))

    group_case : {A B C : Type 0} (fa : A → StmtKind) (fb : B → Group) (fc : C → Stmt) → ((x : C) → StmtClaim (fc x).kind)
        → (y : Group-F A B C) → GroupClaim (roll-Group (map-Group A B C StmtKind Group Stmt fa fb fc y))
    group_case {A} {B} {C} fa fb fc hc y =
        let x : Group-F StmtKind Group Stmt = map-Group A B C StmtKind Group Stmt fa fb fc y in
        subst (λ (g : Grouped). GroupFits g (cost.grouped w (roll-Group x)) (group_numbers (roll-Group x)))
        (sym (stmts.code_group_roll structs objects x))
        (subst (λ (g : cost.Grouped). GroupFits (record
        { labels = x.labels; body = b.bodies (map (b.stmt structs objects) x.body) }) g (group_numbers (roll-Group x)))
        (sym (group_rows_roll x))
        (subst (λ (g : Numbers). GroupFits (record
        { labels = x.labels; body = b.bodies (map (b.stmt structs objects) x.body) })
        (record {
          labels = length x.labels;
          rows
              = λ inside. total (map (λ (s : Bool → ℕ). s inside) (map (cost.stmt_rows w) x.body));
        }) g)
        (sym (group_numbers_roll x))
        (record { labels = labels_counted x.labels; body = λ p brk cont. bodies_fit fc hc y.body p brk cont })))

    stmt_within : (k : StmtKind) → StmtClaim k
    stmt_within = ind-StmtKind StmtClaim GroupClaim (λ x. StmtClaim x.kind)
        (λ x y is. subst (λ z. StmtClaim (roll-StmtKind z)) is
        (stmt_case (λ e. e.0) (λ e. e.0) (λ e. e.0) (λ e. e.1) (λ e. e.1) y))
        (λ x y is. subst (λ z. GroupClaim (roll-Group z)) is (group_case (λ e. e.0) (λ e. e.0) (λ e. e.0) (λ e. e.1) y))
        (λ x y is. subst (λ z. StmtClaim z.kind) is y.kind.1)

    stmts_fit : (xs : List Stmt) (p brk cont : ℕ) → Within w ((b.stmts structs objects xs).steps p brk cont)
        (total (map (λ s. cost.stmt_rows w s false) xs)) (weights w (joined (map number.stmt_numbers xs)))
    stmts_fit [] p brk cont = w_none w
    stmts_fit (x ∷ xs) p brk cont =
        w_more_args w _ _ _ _ (number.stmt_numbers x) (joined (map number.stmt_numbers xs))
        (stmt_within x.kind x.node p brk cont) (stmts_fit xs (p + (b.stmt structs objects x).size) brk cont)

    end_short : (main : Bool) → size (b.end_step structs objects main) ≤ 10
    end_short true = omega arith
    end_short false = omega arith

    end_alone : (main : Bool) → helper_uses (b.end_step structs objects main) ≤ 0
    end_alone true = omega arith
    end_alone false = omega arith

    -- the steps of a function
    pub function_fits : (main : Bool) (x : Function)
        → Within w (b.function_steps structs objects main (length x.params) x.node x.body) (cost.function_rows w x)
        (weights w (function_numbers x))
    function_fits main x =
        w_function x.node (length x.params) (b.end_step structs objects main) _ _ (joined (map number.stmt_numbers x.body))
        (end_short main) (end_alone main) (stmts_fit x.body 1 _ _)
