-- The numbers of statements count on, by induction over them.
use Rattle.std.proofs.Common.{◌≡◌, ℕ, ◌+◌, List, [], ◌∷◌, map, Option, Some, None, refl, sym, ap, subst, ◌∙◌, rules}
use Rattle.core_tree.specs.declared.expressions.Expr.{Expr}
use Rattle.core_tree.specs.declared.expressions.Place.{Place}
use Rattle.core_tree.specs.declared.statements.Stmt.{Stmt, Stmt-F, roll-Stmt}
use Rattle.core_tree.specs.declared.statements.Init.{Init}
use Rattle.core_tree.specs.declared.statements.StmtKind.{StmtKind, fold-StmtKind, roll-StmtKind, map-StmtKind, ind-StmtKind, the_lemmas}
use Rattle.core_tree.specs.declared.statements.StmtKind.TheVariants as k
use Rattle.core_tree.specs.declared.statements.StmtKind.TheOpen.{StmtKind-F}
use Rattle.core_tree.specs.declared.statements.Group.{Group, Group-F, fold-Group, roll-Group, out-Group, the_lemmas as group_lemmas}
use Rattle.core_tree.specs.Numbers.{Numbers, stmt_step, expr_numbers, place_numbers, init_numbers, stmt_numbers}
use Rattle.core_tree.specs.Reaching.{joined, some_of}
use Rattle.c_checking.specs.Numbering.{Numbered, each, maybe_expr, expr_numbered, place_numbered, places_numbered, init_numbered, stmt_numbered}
use Rattle.c_numbering_laws.specs.Counted.{Counts}
use Rattle.c_numbering_laws.proofs.StmtLayers as l
use Rattle.c_numbering_laws.proofs.StmtLayers.{stmt_kind_numbered, group_numbered, group_out, group_next}
use Rattle.c_numbering_laws.proofs.Counting.{counts_none, counts_both, counts_three, counts_four, counts_node}
use Rattle.c_numbering_laws.proofs.ExprNumbers.{expr_counts, place_counts, maybe_counts, places_count}

-- ---- the numbers of each kind

abbrev Layer : Type 0
Layer = StmtKind-F (ℕ → Numbers) Numbers Numbers

abbrev GroupLayer : Type 0
GroupLayer = Group-F (ℕ → Numbers) Numbers Numbers

abbrev kind_step : Layer → ℕ → Numbers
kind_step x node = node ∷ stmt_step x

abbrev group_step : GroupLayer → Numbers
group_step g = joined g.body

abbrev pub stmt_kind_numbers : StmtKind → ℕ → Numbers
stmt_kind_numbers = fold-StmtKind (ℕ → Numbers) Numbers Numbers kind_step group_step (λ x. x.kind x.node)

abbrev pub group_numbers : Group → Numbers
group_numbers = fold-Group (ℕ → Numbers) Numbers Numbers kind_step group_step (λ x. x.kind x.node)

-- for any steps, which do not compute
module _ (step : Layer → ℕ → Numbers) (at : GroupLayer → Numbers) where
  abbrev kind_by : StmtKind → ℕ → Numbers
  kind_by = fold-StmtKind (ℕ → Numbers) Numbers Numbers step at (λ x. x.kind x.node)

  abbrev group_by : Group → Numbers
  group_by = fold-Group (ℕ → Numbers) Numbers Numbers step at (λ x. x.kind x.node)

  abbrev stmt_by : Stmt → Numbers
  stmt_by x = kind_by x.kind x.node

  by-Expr : (e : Expr) → kind_by (k.Expr e) ≡ step (StmtKind-F.Expr e)
  by-Expr e = search (rules, the_lemmas)

  by-Block : (all : List Stmt) → kind_by (k.Block all) ≡ step (StmtKind-F.Block (map stmt_by all))
  by-Block all = search (rules, the_lemmas)

  by-If : (test : Expr) (a : Stmt) → kind_by (k.If test a None) ≡ step (StmtKind-F.If test (stmt_by a) None)
  by-If test a = search (rules, the_lemmas)

  by-If_else : (test : Expr) (a b : Stmt)
      → kind_by (k.If test a (Some b)) ≡ step (StmtKind-F.If test (stmt_by a) (Some (stmt_by b)))
  by-If_else test a b = search (rules, the_lemmas)

  by-While : (test : Expr) (body : Stmt) → kind_by (k.While test body) ≡ step (StmtKind-F.While test (stmt_by body))
  by-While test body = search (rules, the_lemmas)

  by-Do : (body : Stmt) (test : Expr) → kind_by (k.Do body test) ≡ step (StmtKind-F.Do (stmt_by body) test)
  by-Do body test = search (rules, the_lemmas)

  by-For : (test other : Option Expr) (body : Stmt)
      → kind_by (k.For None test other body) ≡ step (StmtKind-F.For None test other (stmt_by body))
  by-For test other body = search (rules, the_lemmas)

  by-For_first : (first : Stmt) (test other : Option Expr) (body : Stmt)
      → kind_by (k.For (Some first) test other body)
      ≡ step (StmtKind-F.For (Some (stmt_by first)) test other (stmt_by body))
  by-For_first first test other body = search (rules, the_lemmas)

  by-Switch : (on : Expr) (groups : List Group)
      → kind_by (k.Switch on groups) ≡ step (StmtKind-F.Switch on (map group_by groups))
  by-Switch on groups = search (rules, the_lemmas)

  by-Break : kind_by k.Break ≡ step StmtKind-F.Break
  by-Break = search (rules, the_lemmas)

  by-Continue : kind_by k.Continue ≡ step StmtKind-F.Continue
  by-Continue = search (rules, the_lemmas)

  by-Return : (e : Option Expr) → kind_by (k.Return e) ≡ step (StmtKind-F.Return e)
  by-Return e = search (rules, the_lemmas)

  by-Stamped : (p : Place) (e : Expr) → kind_by (k.Stamped p e) ≡ step (StmtKind-F.Stamped p e)
  by-Stamped p e = search (rules, the_lemmas)

  by-Timely : (p : Place) (limit : ℕ) (a : Stmt)
      → kind_by (k.Timely p limit a None) ≡ step (StmtKind-F.Timely p limit (stmt_by a) None)
  by-Timely p limit a = search (rules, the_lemmas)

  by-Timely_else : (p : Place) (limit : ℕ) (a b : Stmt)
      → kind_by (k.Timely p limit a (Some b)) ≡ step (StmtKind-F.Timely p limit (stmt_by a) (Some (stmt_by b)))
  by-Timely_else p limit a b = search (rules, the_lemmas)

  by-Expires : (names : List Place) (body caught : List Stmt)
      → kind_by (k.Expires names body caught) ≡ step (StmtKind-F.Expires names (map stmt_by body) (map stmt_by caught))
  by-Expires names body caught = search (rules, the_lemmas)

  by-Declare : (n : ℕ) (init : List Init) → kind_by (k.Declare n init) ≡ step (StmtKind-F.Declare n init)
  by-Declare n init = search (rules, the_lemmas)

  by-Group : (g : Group)
      → group_by g ≡ at (record { labels = (out-Group g).labels; body = map stmt_by (out-Group g).body })
  by-Group g = search (rules, group_lemmas)

-- the numbers of a kind at a node, by its layer
numbers_at : (kind : StmtKind) (y : Layer) (n : ℕ) → stmt_kind_numbers kind ≡ kind_step y
    → stmt_kind_numbers kind n ≡ n ∷ stmt_step y
numbers_at kind y n is = ap (λ (f : ℕ → Numbers). f n) is

-- ---- what the induction shows

abbrev KindCounts : StmtKind → Type 0
KindCounts kind = (n : ℕ)
    → Counts n (stmt_kind_numbered kind (n + 1)).1 (stmt_kind_numbers (stmt_kind_numbered kind (n + 1)).0 n)

abbrev StmtCounts : Stmt → Type 0
StmtCounts s = KindCounts s.kind

abbrev GroupCounts : Group → Type 0
GroupCounts g = (n : ℕ) → Counts n (group_numbered g n).1 (group_numbers (group_numbered g n).0)

-- a kind, by what it is with its nodes numbered and by the numbers of its parts
kind_by_parts : (kind : StmtKind) (by : Numbered StmtKind) (layer : ℕ → Layer) → stmt_kind_numbered kind ≡ by
    → ((n : ℕ) → stmt_kind_numbers (by n).0 ≡ kind_step (layer n))
    → ((n : ℕ) → Counts n (by n).1 (stmt_step (layer n))) → KindCounts kind
kind_by_parts kind by layer is at parts n =
    subst (λ (f : Numbered StmtKind). Counts n (f (n + 1)).1 (stmt_kind_numbers (f (n + 1)).0 n)) (sym is)
    (subst (λ zs. Counts n (by (n + 1)).1 zs) (sym (numbers_at (by (n + 1)).0 (layer (n + 1)) n (at (n + 1))))
    (counts_node n (by (n + 1)).1 (stmt_step (layer (n + 1))) (parts (n + 1))))

-- ---- initialisers

init_counts : (i : Init) (n : ℕ) → Counts n (init_numbered i n).1 (init_numbers (init_numbered i n).0)
init_counts i n = maybe_counts i.value n

inits_count : (is : List Init) (n : ℕ)
    → Counts n (each (map init_numbered is) n).1 (joined (map init_numbers (each (map init_numbered is) n).0))
inits_count [] n = counts_none n
inits_count (i ∷ is) n =
    let m = (init_numbered i n).1 in
    counts_both n m (each (map init_numbered is) m).1 (init_numbers (init_numbered i n).0)
    (joined (map init_numbers (each (map init_numbered is) m).0)) (init_counts i n) (inits_count is m)

-- ---- kinds whose parts count on

module _ {C : Type 0} (fc : C → Stmt) (stmts : (c : C) → StmtCounts (fc c)) where
  each_stmt : (cs : List C) (n : ℕ)
      → Counts n (each (map stmt_numbered (map fc cs)) n).1 (joined (map stmt_numbers (each (map stmt_numbered (map fc cs)) n).0))
  each_stmt [] n = counts_none n
  each_stmt (c ∷ cs) n =
      let m = (stmt_numbered (fc c) n).1 in
      counts_both n m (each (map stmt_numbered (map fc cs)) m).1 (stmt_numbers (stmt_numbered (fc c) n).0)
      (joined (map stmt_numbers (each (map stmt_numbered (map fc cs)) m).0)) (stmts c n) (each_stmt cs m)

  group_counts : (g : Group) (cs : List C) → (out-Group g).body ≡ map fc cs → GroupCounts g
  group_counts g cs is n =
      let xs = (each (map stmt_numbered (out-Group g).body) n).0 in
      let body : (out-Group (group_numbered g n).0).body ≡ xs = ap (λ o. o.body) (group_out g n) in
      let at : group_numbers (group_numbered g n).0 ≡ joined (map stmt_numbers xs) =
      by-Group kind_step group_step (group_numbered g n).0 ∙ ap (λ (ys : List Stmt). joined (map stmt_numbers ys)) body in
      let counts : Counts n (each (map stmt_numbered (out-Group g).body) n).1 (joined (map stmt_numbers xs)) =
      subst (λ (ys : List Stmt). Counts n (each (map stmt_numbered ys) n).1
      (joined (map stmt_numbers (each (map stmt_numbered ys) n).0))) (sym is) (each_stmt cs n) in
      rw (at, group_next g n) counts

module _ {A B C : Type 0} (fa : A → StmtKind) (fb : B → Group) (fc : C → Stmt)
    (groups : (b : B) → GroupCounts (fb b)) (stmts : (c : C) → StmtCounts (fc c)) where
  each_group : (bs : List B) (n : ℕ)
      → Counts n (each (map group_numbered (map fb bs)) n).1
      (joined (map group_numbers (each (map group_numbered (map fb bs)) n).0))
  each_group [] n = counts_none n
  each_group (b ∷ bs) n =
      let m = (group_numbered (fb b) n).1 in
      counts_both n m (each (map group_numbered (map fb bs)) m).1 (group_numbers (group_numbered (fb b) n).0)
      (joined (map group_numbers (each (map group_numbered (map fb bs)) m).0)) (groups b n) (each_group bs m)

  kind_counts : (x : StmtKind-F StmtKind Group Stmt) (y : StmtKind-F A B C)
      → map-StmtKind A B C StmtKind Group Stmt fa fb fc y ≡ x → KindCounts (roll-StmtKind x)
  kind_counts x (StmtKind-F.Expr e) is =
      let h : roll-StmtKind x ≡ k.Expr e = search (rules, the_lemmas) in
      rw h (kind_by_parts (k.Expr e) _ (λ n. StmtKind-F.Expr (expr_numbered e n).0) (l.numbered-Expr e)
      (λ n. by-Expr kind_step group_step (expr_numbered e n).0) (λ n. expr_counts e n))
  kind_counts x (StmtKind-F.Block cs) is =
      let h : roll-StmtKind x ≡ k.Block (map fc cs) = search (rules, the_lemmas) in
      rw h (kind_by_parts (k.Block (map fc cs)) _
      (λ n. StmtKind-F.Block (map stmt_numbers (each (map stmt_numbered (map fc cs)) n).0)) (l.numbered-Block (map fc cs))
      (λ n. by-Block kind_step group_step (each (map stmt_numbered (map fc cs)) n).0) (λ n. each_stmt fc stmts cs n))
  kind_counts x (StmtKind-F.If e a None) is =
      let h : roll-StmtKind x ≡ k.If e (fc a) None = search (rules, the_lemmas) in
      rw h (kind_by_parts (k.If e (fc a) None) _
      (λ n. StmtKind-F.If (expr_numbered e n).0 (stmt_numbers (stmt_numbered (fc a) (expr_numbered e n).1).0) None)
      (l.numbered-If e (fc a))
      (λ n. by-If kind_step group_step (expr_numbered e n).0 (stmt_numbered (fc a) (expr_numbered e n).1).0)
      (λ n.
      let m = (expr_numbered e n).1 in
      let o = (stmt_numbered (fc a) m).1 in
      counts_three n m o o (expr_numbers (expr_numbered e n).0) (stmt_numbers (stmt_numbered (fc a) m).0) []
      (expr_counts e n) (stmts a m) (counts_none o)))
  kind_counts x (StmtKind-F.If e a (Some b)) is =
      let h : roll-StmtKind x ≡ k.If e (fc a) (Some (fc b)) = search (rules, the_lemmas) in
      rw h (kind_by_parts (k.If e (fc a) (Some (fc b))) _
      (λ n. StmtKind-F.If (expr_numbered e n).0 (stmt_numbers (stmt_numbered (fc a) (expr_numbered e n).1).0)
      (Some (stmt_numbers (stmt_numbered (fc b) (stmt_numbered (fc a) (expr_numbered e n).1).1).0)))
      (l.numbered-If_else e (fc a) (fc b))
      (λ n. by-If_else kind_step group_step (expr_numbered e n).0 (stmt_numbered (fc a) (expr_numbered e n).1).0
      (stmt_numbered (fc b) (stmt_numbered (fc a) (expr_numbered e n).1).1).0)
      (λ n.
      let m = (expr_numbered e n).1 in
      let o = (stmt_numbered (fc a) m).1 in
      counts_three n m o (stmt_numbered (fc b) o).1 (expr_numbers (expr_numbered e n).0)
      (stmt_numbers (stmt_numbered (fc a) m).0) (stmt_numbers (stmt_numbered (fc b) o).0)
      (expr_counts e n) (stmts a m) (stmts b o)))
  kind_counts x (StmtKind-F.While e a) is =
      let h : roll-StmtKind x ≡ k.While e (fc a) = search (rules, the_lemmas) in
      rw h (kind_by_parts (k.While e (fc a)) _
      (λ n. StmtKind-F.While (expr_numbered e n).0 (stmt_numbers (stmt_numbered (fc a) (expr_numbered e n).1).0))
      (l.numbered-While e (fc a))
      (λ n. by-While kind_step group_step (expr_numbered e n).0 (stmt_numbered (fc a) (expr_numbered e n).1).0)
      (λ n.
      let m = (expr_numbered e n).1 in
      counts_both n m (stmt_numbered (fc a) m).1 (expr_numbers (expr_numbered e n).0)
      (stmt_numbers (stmt_numbered (fc a) m).0) (expr_counts e n) (stmts a m)))
  kind_counts x (StmtKind-F.Do a e) is =
      let h : roll-StmtKind x ≡ k.Do (fc a) e = search (rules, the_lemmas) in
      rw h (kind_by_parts (k.Do (fc a) e) _
      (λ n. StmtKind-F.Do (stmt_numbers (stmt_numbered (fc a) n).0) (expr_numbered e (stmt_numbered (fc a) n).1).0)
      (l.numbered-Do (fc a) e)
      (λ n. by-Do kind_step group_step (stmt_numbered (fc a) n).0 (expr_numbered e (stmt_numbered (fc a) n).1).0)
      (λ n.
      let m = (stmt_numbered (fc a) n).1 in
      counts_both n m (expr_numbered e m).1 (stmt_numbers (stmt_numbered (fc a) n).0) (expr_numbers (expr_numbered e m).0)
      (stmts a n) (expr_counts e m)))
  kind_counts x (StmtKind-F.For None t e a) is =
      let h : roll-StmtKind x ≡ k.For None t e (fc a) = search (rules, the_lemmas) in
      rw h (kind_by_parts (k.For None t e (fc a)) _
      (λ n. StmtKind-F.For None (maybe_expr t n).0 (maybe_expr e (maybe_expr t n).1).0
      (stmt_numbers (stmt_numbered (fc a) (maybe_expr e (maybe_expr t n).1).1).0))
      (l.numbered-For t e (fc a))
      (λ n. by-For kind_step group_step (maybe_expr t n).0 (maybe_expr e (maybe_expr t n).1).0
      (stmt_numbered (fc a) (maybe_expr e (maybe_expr t n).1).1).0)
      (λ n.
      let m = (maybe_expr t n).1 in
      let o = (maybe_expr e m).1 in
      counts_four n n m o (stmt_numbered (fc a) o).1 [] (some_of expr_numbers (maybe_expr t n).0)
      (some_of expr_numbers (maybe_expr e m).0) (stmt_numbers (stmt_numbered (fc a) o).0)
      (counts_none n) (maybe_counts t n) (maybe_counts e m) (stmts a o)))
  kind_counts x (StmtKind-F.For (Some f) t e a) is =
      let h : roll-StmtKind x ≡ k.For (Some (fc f)) t e (fc a) = search (rules, the_lemmas) in
      rw h (kind_by_parts (k.For (Some (fc f)) t e (fc a)) _
      (λ n.
      let i = (stmt_numbered (fc f) n).1 in
      StmtKind-F.For (Some (stmt_numbers (stmt_numbered (fc f) n).0)) (maybe_expr t i).0 (maybe_expr e (maybe_expr t i).1).0
      (stmt_numbers (stmt_numbered (fc a) (maybe_expr e (maybe_expr t i).1).1).0))
      (l.numbered-For_first (fc f) t e (fc a))
      (λ n.
      let i = (stmt_numbered (fc f) n).1 in
      by-For_first kind_step group_step (stmt_numbered (fc f) n).0 (maybe_expr t i).0 (maybe_expr e (maybe_expr t i).1).0
      (stmt_numbered (fc a) (maybe_expr e (maybe_expr t i).1).1).0)
      (λ n.
      let i = (stmt_numbered (fc f) n).1 in
      let m = (maybe_expr t i).1 in
      let o = (maybe_expr e m).1 in
      counts_four n i m o (stmt_numbered (fc a) o).1 (stmt_numbers (stmt_numbered (fc f) n).0)
      (some_of expr_numbers (maybe_expr t i).0)
      (some_of expr_numbers (maybe_expr e m).0) (stmt_numbers (stmt_numbered (fc a) o).0)
      (stmts f n) (maybe_counts t i) (maybe_counts e m) (stmts a o)))
  kind_counts x (StmtKind-F.Switch e bs) is =
      let h : roll-StmtKind x ≡ k.Switch e (map fb bs) = search (rules, the_lemmas) in
      rw h (kind_by_parts (k.Switch e (map fb bs)) _
      (λ n. StmtKind-F.Switch (expr_numbered e n).0
      (map group_numbers (each (map group_numbered (map fb bs)) (expr_numbered e n).1).0))
      (l.numbered-Switch e (map fb bs))
      (λ n. by-Switch kind_step group_step (expr_numbered e n).0 (each (map group_numbered (map fb bs)) (expr_numbered e n).1).0)
      (λ n.
      let m = (expr_numbered e n).1 in
      counts_both n m (each (map group_numbered (map fb bs)) m).1 (expr_numbers (expr_numbered e n).0)
      (joined (map group_numbers (each (map group_numbered (map fb bs)) m).0)) (expr_counts e n) (each_group bs m)))
  kind_counts x StmtKind-F.Break is =
      let h : roll-StmtKind x ≡ k.Break = search (rules, the_lemmas) in
      rw h (kind_by_parts k.Break _ (λ n. StmtKind-F.Break) l.numbered-Break (λ n. by-Break kind_step group_step) counts_none)
  kind_counts x StmtKind-F.Continue is =
      let h : roll-StmtKind x ≡ k.Continue = search (rules, the_lemmas) in
      rw h (kind_by_parts k.Continue _ (λ n. StmtKind-F.Continue) l.numbered-Continue (λ n. by-Continue kind_step group_step)
      counts_none)
  kind_counts x (StmtKind-F.Return e) is =
      let h : roll-StmtKind x ≡ k.Return e = search (rules, the_lemmas) in
      rw h (kind_by_parts (k.Return e) _ (λ n. StmtKind-F.Return (maybe_expr e n).0) (l.numbered-Return e)
      (λ n. by-Return kind_step group_step (maybe_expr e n).0) (λ n. maybe_counts e n))
  kind_counts x (StmtKind-F.Stamped p e) is =
      let h : roll-StmtKind x ≡ k.Stamped p e = search (rules, the_lemmas) in
      rw h (kind_by_parts (k.Stamped p e) _
      (λ n. StmtKind-F.Stamped (place_numbered p n).0 (expr_numbered e (place_numbered p n).1).0) (l.numbered-Stamped p e)
      (λ n. by-Stamped kind_step group_step (place_numbered p n).0 (expr_numbered e (place_numbered p n).1).0)
      (λ n.
      let m = (place_numbered p n).1 in
      counts_both n m (expr_numbered e m).1 (place_numbers (place_numbered p n).0) (expr_numbers (expr_numbered e m).0)
      (place_counts p n) (expr_counts e m)))
  kind_counts x (StmtKind-F.Timely p limit a None) is =
      let h : roll-StmtKind x ≡ k.Timely p limit (fc a) None = search (rules, the_lemmas) in
      rw h (kind_by_parts (k.Timely p limit (fc a) None) _
      (λ n. StmtKind-F.Timely (place_numbered p n).0 limit (stmt_numbers (stmt_numbered (fc a) (place_numbered p n).1).0) None)
      (l.numbered-Timely p limit (fc a))
      (λ n. by-Timely kind_step group_step (place_numbered p n).0 limit (stmt_numbered (fc a) (place_numbered p n).1).0)
      (λ n.
      let m = (place_numbered p n).1 in
      let o = (stmt_numbered (fc a) m).1 in
      counts_three n m o o (place_numbers (place_numbered p n).0) (stmt_numbers (stmt_numbered (fc a) m).0) []
      (place_counts p n) (stmts a m) (counts_none o)))
  kind_counts x (StmtKind-F.Timely p limit a (Some b)) is =
      let h : roll-StmtKind x ≡ k.Timely p limit (fc a) (Some (fc b)) = search (rules, the_lemmas) in
      rw h (kind_by_parts (k.Timely p limit (fc a) (Some (fc b))) _
      (λ n. StmtKind-F.Timely (place_numbered p n).0 limit (stmt_numbers (stmt_numbered (fc a) (place_numbered p n).1).0)
      (Some (stmt_numbers (stmt_numbered (fc b) (stmt_numbered (fc a) (place_numbered p n).1).1).0)))
      (l.numbered-Timely_else p limit (fc a) (fc b))
      (λ n. by-Timely_else kind_step group_step (place_numbered p n).0 limit (stmt_numbered (fc a) (place_numbered p n).1).0
      (stmt_numbered (fc b) (stmt_numbered (fc a) (place_numbered p n).1).1).0)
      (λ n.
      let m = (place_numbered p n).1 in
      let o = (stmt_numbered (fc a) m).1 in
      counts_three n m o (stmt_numbered (fc b) o).1 (place_numbers (place_numbered p n).0)
      (stmt_numbers (stmt_numbered (fc a) m).0) (stmt_numbers (stmt_numbered (fc b) o).0)
      (place_counts p n) (stmts a m) (stmts b o)))
  kind_counts x (StmtKind-F.Expires names body caught) is =
      let h : roll-StmtKind x ≡ k.Expires names (map fc body) (map fc caught) = search (rules, the_lemmas) in
      rw h (kind_by_parts (k.Expires names (map fc body) (map fc caught)) _
      (λ n.
      let m = (places_numbered names n).1 in
      let o = (each (map stmt_numbered (map fc body)) m).1 in
      StmtKind-F.Expires (places_numbered names n).0 (map stmt_numbers (each (map stmt_numbered (map fc body)) m).0)
      (map stmt_numbers (each (map stmt_numbered (map fc caught)) o).0))
      (l.numbered-Expires names (map fc body) (map fc caught))
      (λ n.
      let m = (places_numbered names n).1 in
      let o = (each (map stmt_numbered (map fc body)) m).1 in
      by-Expires kind_step group_step (places_numbered names n).0 (each (map stmt_numbered (map fc body)) m).0
      (each (map stmt_numbered (map fc caught)) o).0)
      (λ n.
      let m = (places_numbered names n).1 in
      let o = (each (map stmt_numbered (map fc body)) m).1 in
      counts_three n m o (each (map stmt_numbered (map fc caught)) o).1 (joined (map place_numbers (places_numbered names n).0))
      (joined (map stmt_numbers (each (map stmt_numbered (map fc body)) m).0))
      (joined (map stmt_numbers (each (map stmt_numbered (map fc caught)) o).0))
      (places_count names n) (each_stmt fc stmts body m) (each_stmt fc stmts caught o)))
  kind_counts x (StmtKind-F.Declare i init) is =
      let h : roll-StmtKind x ≡ k.Declare i init = search (rules, the_lemmas) in
      rw h (kind_by_parts (k.Declare i init) _ (λ n. StmtKind-F.Declare i (each (map init_numbered init) n).0)
      (l.numbered-Declare i init) (λ n. by-Declare kind_step group_step i (each (map init_numbered init) n).0)
      (λ n. inits_count init n))

-- ---- the induction

abbrev StmtOpen : Type 0
StmtOpen = StmtKind-F StmtKind Group Stmt

kind_counted : (kind : StmtKind) → KindCounts kind
kind_counted = ind-StmtKind KindCounts GroupCounts StmtCounts
    (λ x y is. subst (λ (z : StmtOpen). KindCounts (roll-StmtKind z)) is
    (kind_counts (λ e. e.0) (λ e. e.0) (λ e. e.0) (λ e. e.1) (λ e. e.1) _ y refl))
    (λ x y is. subst (λ (z : Group-F StmtKind Group Stmt). GroupCounts (roll-Group z)) is
    (group_counts (λ e. e.0) (λ e. e.1) _ y.body (search (rules, group_lemmas))))
    (λ x y is. subst (λ (z : Stmt-F StmtKind Group Stmt). StmtCounts (roll-Stmt z)) is y.kind.1)

pub stmt_counts : (s : Stmt) (n : ℕ) → Counts n (stmt_numbered s n).1 (stmt_numbers (stmt_numbered s n).0)
stmt_counts s n = kind_counted s.kind n

pub stmts_count : (all : List Stmt) (n : ℕ)
    → Counts n (each (map stmt_numbered all) n).1 (joined (map stmt_numbers (each (map stmt_numbered all) n).0))
stmts_count [] n = counts_none n
stmts_count (s ∷ all) n =
    let m = (stmt_numbered s n).1 in
    counts_both n m (each (map stmt_numbered all) m).1 (stmt_numbers (stmt_numbered s n).0)
    (joined (map stmt_numbers (each (map stmt_numbered all) m).0)) (stmt_counts s n) (stmts_count all m)
