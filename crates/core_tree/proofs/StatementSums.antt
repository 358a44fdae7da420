-- What statements with lists in them measure.
use Rattle.std.proofs.Common.{◌≡◌, ℕ, ◌+◌, ◌*◌, Bool, true, List, map, max, length, rules, ◌∙◌, ap, refl, arith}
use Rattle.std.proofs.lemmas.Simd.{map-map}
use Rattle.core_tree.specs.declared.expressions.Expr.{Expr}
use Rattle.core_tree.specs.declared.expressions.Place.{Place}
use Rattle.core_tree.specs.declared.statements.Stmt.{Stmt}
use Rattle.core_tree.specs.declared.statements.Group.{Group, out-Group}
use Rattle.core_tree.specs.declared.statements.StmtKind.{StmtKind, the_lemmas}
use Rattle.core_tree.specs.declared.statements.StmtKind.TheVariants as k
use Rattle.core_tree.specs.Costs.{capped_cost, each, expr_rows, place_rows, Grouped, grouped, stmt_kind_rows, stmt_rows}
use Rattle.core_tree.specs.Heights.{place_height, stmt_height, stmt_kind_height, tallest}
use Rattle.core_tree.specs.Nodes.{expr_nodes, place_nodes, stmt_kind_nodes, stmt_nodes, group_nodes, total}

capped_pair : (a b : ℕ) → capped_cost (capped_cost a + capped_cost b) ≡ capped_cost (a + b)
capped_pair a b = omega arith

capped_row : (a row b rest under : ℕ) → row ≡ capped_cost a → b ≡ capped_cost rest → under ≡ capped_cost (row + b)
    → under ≡ capped_cost (1 * a + rest)
capped_row a row b rest under e f g = omega arith

-- ---- statements side by side

side_by_side : (all : List Stmt) (inside : Bool)
    → map (λ (s : Bool → ℕ). s inside) (map (stmt_rows each) all) ≡ map (λ s. stmt_rows each s inside) all
side_by_side all inside = map-map (λ (s : Bool → ℕ). s inside) (stmt_rows each) all

labels_fused : (groups : List Group)
    → map (λ (g : Grouped). g.labels) (map (grouped each) groups) ≡ map (λ g. (grouped each g).labels) groups
labels_fused groups = map-map (λ (g : Grouped). g.labels) (grouped each) groups

rows_fused : (groups : List Group) (inside : Bool)
    → map (λ (g : Grouped). g.rows inside) (map (grouped each) groups) ≡ map (λ g. (grouped each g).rows inside) groups
rows_fused groups inside = map-map (λ (g : Grouped). g.rows inside) (grouped each) groups

-- ---- a block

made_rows-Block : (all : List Stmt) (inside : Bool) (node : ℕ)
    → stmt_kind_rows each (k.Block all) inside node ≡ 1 * 0 + total (map (λ (s : Bool → ℕ). s inside) (map (stmt_rows each) all))
made_rows-Block all inside node = search (rules, the_lemmas)

pub rows-Block : (all : List Stmt) (inside : Bool) (node : ℕ)
    → stmt_kind_rows each (k.Block all) inside node ≡ 1 * 0 + total (map (λ s. stmt_rows each s inside) all)
rows-Block all inside node = made_rows-Block all inside node ∙ (rw (side_by_side all inside) refl)

pub nodes-Block : (all : List Stmt) → stmt_kind_nodes (k.Block all) ≡ 1 + total (map stmt_nodes all)
nodes-Block all = search (rules, the_lemmas)

-- ---- a `switch`

made_rows-Switch : (on : Expr) (groups : List Group) (inside : Bool) (node : ℕ)
    → stmt_kind_rows each (k.Switch on groups) inside node
    ≡ 1 * (24 + 20 * total (map (λ (g : Grouped). g.labels) (map (grouped each) groups)))
    + (expr_rows each on + total (map (λ (g : Grouped). g.rows inside) (map (grouped each) groups)))
made_rows-Switch on groups inside node = search (rules, the_lemmas)

pub rows-Switch : (on : Expr) (groups : List Group) (inside : Bool) (node : ℕ)
    → stmt_kind_rows each (k.Switch on groups) inside node
    ≡ 1 * (24 + 20 * total (map (λ g. (grouped each g).labels) groups)) + (expr_rows each on + total (map (λ g. (grouped each g).rows inside) groups))
rows-Switch on groups inside node =
    made_rows-Switch on groups inside node ∙ (rw (labels_fused groups, rows_fused groups inside) refl)

pub nodes-Switch : (on : Expr) (groups : List Group)
    → stmt_kind_nodes (k.Switch on groups) ≡ 1 + (expr_nodes on + total (map group_nodes groups))
nodes-Switch on groups = search (rules, the_lemmas)

made_grouped-rows : (g : Group) (inside : Bool)
    → (grouped each g).rows inside ≡ total (map (λ (s : Bool → ℕ). s inside) (map (stmt_rows each) (out-Group g).body))
made_grouped-rows g inside = search (rules, the_lemmas)

pub grouped-rows : (g : Group) (inside : Bool)
    → (grouped each g).rows inside ≡ total (map (λ s. stmt_rows each s inside) (out-Group g).body)
grouped-rows g inside = made_grouped-rows g inside ∙ (rw (side_by_side (out-Group g).body inside) refl)

pub grouped-labels : (g : Group) → (grouped each g).labels ≡ length (out-Group g).labels
grouped-labels g = search (rules, the_lemmas)

pub nodes-Group : (g : Group) → group_nodes g ≡ length (out-Group g).labels + total (map stmt_nodes (out-Group g).body)
nodes-Group g = search (rules, the_lemmas)

-- ---- an `@expires` block

made_rows-Expires : (names : List Place) (body caught : List Stmt) (inside : Bool) (node : ℕ)
    → stmt_kind_rows each (k.Expires names body caught) inside node
    ≡ 1 * (72 + 6 * length names) + (total (map (place_rows each) names)
    + (total (map (λ (s : Bool → ℕ). s true) (map (stmt_rows each) body)) + (total (map (λ (s : Bool → ℕ). s inside) (map (stmt_rows each) caught)) + 0)))
made_rows-Expires names body caught inside node = search (rules, the_lemmas)

pub rows-Expires : (names : List Place) (body caught : List Stmt) (inside : Bool) (node : ℕ)
    → stmt_kind_rows each (k.Expires names body caught) inside node
    ≡ 1 * (72 + 6 * length names) + (total (map (place_rows each) names)
    + (total (map (λ s. stmt_rows each s true) body) + (total (map (λ s. stmt_rows each s inside) caught) + 0)))
rows-Expires names body caught inside node =
    made_rows-Expires names body caught inside node ∙ (rw (side_by_side body true, side_by_side caught inside) refl)

pub nodes-Expires : (names : List Place) (body caught : List Stmt) → stmt_kind_nodes (k.Expires names body caught)
    ≡ 1 + (total (map place_nodes names) + (total (map stmt_nodes body) + (total (map stmt_nodes caught) + 0)))
nodes-Expires names body caught = search (rules, the_lemmas)

pub height-Expires : (names : List Place) (body caught : List Stmt) → stmt_kind_height (k.Expires names body caught)
    ≡ max (tallest (map place_height names)) (max (tallest (map stmt_height body)) (tallest (map stmt_height caught)))
height-Expires names body caught = search (rules, the_lemmas)

-- ---- what a call makes of these

pub cost_Block : (s : Stmt) (all shown : List Stmt) (inside : Bool) (sum under : ℕ) → s.kind ≡ k.Block all → shown ≡ all
    → sum ≡ capped_cost (total (map (λ x. stmt_rows each x inside) shown)) → under ≡ capped_cost (0 + sum)
    → under ≡ capped_cost (stmt_rows each s inside)
cost_Block s all shown inside sum under is e made got =
    let whole : stmt_rows each s inside ≡ 1 * 0 + total (map (λ x. stmt_rows each x inside) all) =
    ap (λ (x : StmtKind). stmt_kind_rows each x inside s.node) is ∙ rows-Block all inside s.node in
    let sum_is : sum ≡ capped_cost (total (map (λ x. stmt_rows each x inside) all)) = rw (← e) made in
    rw whole (capped_row 0 0 sum (total (map (λ x. stmt_rows each x inside) all)) under refl sum_is got)

pub cost_Switch : (s : Stmt) (on : Expr) (groups shown listed : List Group) (inside : Bool) (test sum both row under : ℕ)
    → s.kind ≡ k.Switch on groups
    → shown ≡ groups → listed ≡ groups → test ≡ capped_cost (expr_rows each on)
    → sum ≡ capped_cost (total (map (λ g. (grouped each g).rows inside) shown)) → both ≡ capped_cost (test + sum)
    → row ≡ capped_cost (24 + 20 * total (map (λ g. (grouped each g).labels) listed)) → under ≡ capped_cost (row + both)
    → under ≡ capped_cost (stmt_rows each s inside)
cost_Switch s on groups shown listed inside test sum both row under is e f test_is made joined row_is got =
    let rows = total (map (λ (g : Group). (grouped each g).rows inside) groups) in
    let labels = total (map (λ (g : Group). (grouped each g).labels) groups) in
    let whole : stmt_rows each s inside ≡ 1 * (24 + 20 * labels) + (expr_rows each on + rows) =
    ap (λ (x : StmtKind). stmt_kind_rows each x inside s.node) is ∙ rows-Switch on groups inside s.node in
    let sum_is : sum ≡ capped_cost rows = rw (← e) made in
    let own : row ≡ capped_cost (24 + 20 * labels) = rw (← f) row_is in
    rw whole (capped_row (24 + 20 * labels) row both (expr_rows each on + rows) under own
    (joined ∙ (rw (test_is, sum_is) (capped_pair (expr_rows each on) rows))) got)

pub cost_Expires : (s : Stmt) (names listed : List Place) (body first caught second : List Stmt) (inside : Bool) (a b c bc abc row under : ℕ)
    → s.kind ≡ k.Expires names body caught → listed ≡ names → first ≡ body → second ≡ caught
    → a ≡ capped_cost (total (map (place_rows each) listed)) → b ≡ capped_cost (total (map (λ x. stmt_rows each x true) first))
    → c ≡ capped_cost (total (map (λ x. stmt_rows each x inside) second)) → bc ≡ capped_cost (b + c)
    → abc ≡ capped_cost (a + bc)
    → row ≡ capped_cost (72 + 6 * length names) → under ≡ capped_cost (row + abc)
    → under ≡ capped_cost (stmt_rows each s inside)
cost_Expires s names listed body first caught second inside a b c bc abc row under is e f g a_is b_is c_is bc_is abc_is own got =
    let one = total (map (place_rows each) names) in
    let two = total (map (λ (x : Stmt). stmt_rows each x true) body) in
    let three = total (map (λ (x : Stmt). stmt_rows each x inside) caught) in
    let whole : stmt_rows each s inside ≡ 1 * (72 + 6 * length names) + (one + (two + (three + 0))) =
    ap (λ (x : StmtKind). stmt_kind_rows each x inside s.node) is ∙ rows-Expires names body caught inside s.node in
    let a_one : a ≡ capped_cost one = rw (← e) a_is in
    let b_two : b ≡ capped_cost two = rw (← f) b_is in
    let c_three : c ≡ capped_cost three = rw (← g) c_is in
    let both : bc ≡ capped_cost (two + (three + 0)) = bc_is ∙ (rw (b_two, c_three) (capped_pair two three ∙ (ap (λ (n : ℕ). capped_cost (two + n)) (omega arith)))) in
    rw whole (capped_row (72 + 6 * length names) row abc (one + (two + (three + 0))) under own
    (abc_is ∙ (rw (a_one, both) (capped_pair one (two + (three + 0))))) got)
