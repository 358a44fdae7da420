-- The numbers of the nodes of an expression, a place and a statement, one equation for each kind.
use Rattle.std.proofs.Common.{◌≡◌, ℕ, ℤ, Bool, List, [], ◌∷◌, ◌++◌, map, Option, Some, None, ap, ◌∙◌, rules}
use Rattle.base16.specs.declared.integer.IntType.{IntType}
use Rattle.base16.specs.declared.operator.BinaryOp.{BinaryOp}
use Rattle.base16.specs.declared.operator.UnaryOp.{UnaryOp}
use Rattle.core_tree.specs.declared.expressions.Expr.{Expr}
use Rattle.core_tree.specs.declared.expressions.Place.{Place}
use Rattle.core_tree.specs.declared.expressions.ExprKind.{ExprKind, fold-ExprKind, roll-ExprKind, map-ExprKind, the_lemmas}
use Rattle.core_tree.specs.declared.expressions.ExprKind.TheVariants as k
use Rattle.core_tree.specs.declared.expressions.ExprKind.TheOpen.{ExprKind-F, PlaceKind-F}
use Rattle.core_tree.specs.declared.expressions.PlaceKind.{PlaceKind, fold-PlaceKind, roll-PlaceKind, map-PlaceKind}
use Rattle.core_tree.specs.declared.expressions.PlaceKind.TheVariants as p
use Rattle.core_tree.specs.declared.statements.Stmt.{Stmt}
use Rattle.core_tree.specs.declared.statements.Init.{Init}
use Rattle.core_tree.specs.declared.statements.Group.{Group, fold-Group, out-Group}
use Rattle.core_tree.specs.declared.statements.Group as the_group
use Rattle.core_tree.specs.declared.statements.StmtKind.{StmtKind, fold-StmtKind, roll-StmtKind, map-StmtKind, the_lemmas as stmt_lemmas}
use Rattle.core_tree.specs.declared.statements.StmtKind.TheVariants as s
use Rattle.core_tree.specs.declared.statements.StmtKind.TheOpen.{StmtKind-F}
use Rattle.core_tree.specs.Reaching.{joined, some_of}
use Rattle.core_tree.specs.Numbers.{Numbers, expr_step, place_step, expr_numbers, place_numbers, init_numbers, stmt_step, stmt_numbers}

-- ---- of a kind of expression or place, whose own node has a number

abbrev pub kind_numbers : ExprKind → ℕ → Numbers
kind_numbers = fold-ExprKind (ℕ → Numbers) (ℕ → Numbers) Numbers Numbers
    (λ x node. node ∷ expr_step x) (λ p node. node ∷ place_step p) (λ x. x.kind x.node) (λ p. p.kind p.node)

abbrev pub place_kind_numbers : PlaceKind → ℕ → Numbers
place_kind_numbers = fold-PlaceKind (ℕ → Numbers) (ℕ → Numbers) Numbers Numbers
    (λ x node. node ∷ expr_step x) (λ y node. node ∷ place_step y) (λ x. x.kind x.node) (λ y. y.kind y.node)

kind_unrolled : (z : ExprKind-F ExprKind PlaceKind Expr Place) → kind_numbers (roll-ExprKind z)
    ≡ (λ node. node ∷ expr_step (map-ExprKind ExprKind PlaceKind Expr Place (ℕ → Numbers) (ℕ → Numbers) Numbers Numbers
    kind_numbers place_kind_numbers expr_numbers place_numbers z))
kind_unrolled z = search (rules, the_lemmas)

place_unrolled : (z : PlaceKind-F ExprKind PlaceKind Expr Place) → place_kind_numbers (roll-PlaceKind z)
    ≡ (λ node. node ∷ place_step (map-PlaceKind ExprKind PlaceKind Expr Place (ℕ → Numbers) (ℕ → Numbers) Numbers Numbers
    kind_numbers place_kind_numbers expr_numbers place_numbers z))
place_unrolled z = search (rules, the_lemmas)

kind_by : (kind : ExprKind) (z : ExprKind-F ExprKind PlaceKind Expr Place) (n : ℕ) → kind ≡ roll-ExprKind z → kind_numbers kind n
    ≡ n ∷ expr_step (map-ExprKind ExprKind PlaceKind Expr Place (ℕ → Numbers) (ℕ → Numbers) Numbers Numbers
    kind_numbers place_kind_numbers expr_numbers place_numbers z)
kind_by kind z n is = ap (λ (y : ExprKind). kind_numbers y n) is ∙ ap (λ (f : ℕ → Numbers). f n) (kind_unrolled z)

place_by : (kind : PlaceKind) (z : PlaceKind-F ExprKind PlaceKind Expr Place) (n : ℕ) → kind ≡ roll-PlaceKind z
    → place_kind_numbers kind n
    ≡ n ∷ place_step (map-PlaceKind ExprKind PlaceKind Expr Place (ℕ → Numbers) (ℕ → Numbers) Numbers Numbers
    kind_numbers place_kind_numbers expr_numbers place_numbers z)
place_by kind z n is = ap (λ (y : PlaceKind). place_kind_numbers y n) is ∙ ap (λ (f : ℕ → Numbers). f n) (place_unrolled z)

pub numbers-Constant : (v : ℤ) (n : ℕ) → kind_numbers (k.Constant v) n ≡ n ∷ []
numbers-Constant v n = kind_by (k.Constant v) (ExprKind-F.Constant v) n (search (rules, the_lemmas))

pub numbers-Read : (q : Place) (n : ℕ) → kind_numbers (k.Read q) n ≡ n ∷ place_numbers q
numbers-Read q n = kind_by (k.Read q) (ExprKind-F.Read q) n (search (rules, the_lemmas))

pub numbers-Convert : (x : Expr) (n : ℕ) → kind_numbers (k.Convert x) n ≡ n ∷ expr_numbers x
numbers-Convert x n = kind_by (k.Convert x) (ExprKind-F.Convert x) n (search (rules, the_lemmas))

pub numbers-Unary : (o : UnaryOp) (x : Expr) (n : ℕ) → kind_numbers (k.Unary o x) n ≡ n ∷ expr_numbers x
numbers-Unary o x n = kind_by (k.Unary o x) (ExprKind-F.Unary o x) n (search (rules, the_lemmas))

pub numbers-Binary : (o : BinaryOp) (t : IntType) (x y : Expr) (n : ℕ) → kind_numbers (k.Binary o t x y) n ≡ n ∷
    (expr_numbers x ++ expr_numbers y)
numbers-Binary o t x y n = kind_by (k.Binary o t x y) (ExprKind-F.Binary o t x y) n (search (rules, the_lemmas))

pub numbers-PointerPlus : (minus : Bool) (x y : Expr) (n : ℕ) → kind_numbers (k.PointerPlus minus x y) n ≡ n ∷
    (expr_numbers x ++ expr_numbers y)
numbers-PointerPlus minus x y n = kind_by (k.PointerPlus minus x y) (ExprKind-F.PointerPlus minus x y) n
    (search (rules, the_lemmas))

pub numbers-Difference : (x y : Expr) (n : ℕ) → kind_numbers (k.Difference x y) n ≡ n ∷ (expr_numbers x ++ expr_numbers y)
numbers-Difference x y n = kind_by (k.Difference x y) (ExprKind-F.Difference x y) n (search (rules, the_lemmas))

pub numbers-ComparePointers : (o : BinaryOp) (x y : Expr) (n : ℕ) → kind_numbers (k.ComparePointers o x y) n ≡ n ∷
    (expr_numbers x ++ expr_numbers y)
numbers-ComparePointers o x y n = kind_by (k.ComparePointers o x y) (ExprKind-F.ComparePointers o x y) n
    (search (rules, the_lemmas))

pub numbers-And : (x y : Expr) (n : ℕ) → kind_numbers (k.And x y) n ≡ n ∷ (expr_numbers x ++ expr_numbers y)
numbers-And x y n = kind_by (k.And x y) (ExprKind-F.And x y) n (search (rules, the_lemmas))

pub numbers-Or : (x y : Expr) (n : ℕ) → kind_numbers (k.Or x y) n ≡ n ∷ (expr_numbers x ++ expr_numbers y)
numbers-Or x y n = kind_by (k.Or x y) (ExprKind-F.Or x y) n (search (rules, the_lemmas))

pub numbers-Conditional : (test x y : Expr) (n : ℕ) → kind_numbers (k.Conditional test x y) n ≡ n ∷
    (expr_numbers test ++ expr_numbers x ++ expr_numbers y)
numbers-Conditional test x y n = kind_by (k.Conditional test x y) (ExprKind-F.Conditional test x y) n (search (rules, the_lemmas))

pub numbers-Assign : (q : Place) (x : Expr) (marked : Bool) (n : ℕ) → kind_numbers (k.Assign q x marked) n ≡ n ∷
    (place_numbers q ++ expr_numbers x)
numbers-Assign q x marked n = kind_by (k.Assign q x marked) (ExprKind-F.Assign q x marked) n (search (rules, the_lemmas))

pub numbers-Update : (o : BinaryOp) (t : Option IntType) (q : Place) (x : Expr) (old marked : Bool) (n : ℕ) → kind_numbers
    (k.Update o t q x old marked) n ≡ n ∷ (place_numbers q ++ expr_numbers x)
numbers-Update o t q x old marked n = kind_by (k.Update o t q x old marked) (ExprKind-F.Update o t q x old marked) n
    (search (rules, the_lemmas))

pub numbers-Address : (q : Place) (n : ℕ) → kind_numbers (k.Address q) n ≡ n ∷ place_numbers q
numbers-Address q n = kind_by (k.Address q) (ExprKind-F.Address q) n (search (rules, the_lemmas))

pub numbers-Call : (f : ℕ) (args : List Expr) (n : ℕ) → kind_numbers (k.Call f args) n ≡ n ∷ joined (map expr_numbers args)
numbers-Call f args n = kind_by (k.Call f args) (ExprKind-F.Call f args) n (search (rules, the_lemmas))

pub numbers-Sense : (channel : ℕ) (n : ℕ) → kind_numbers (k.Sense channel) n ≡ n ∷ []
numbers-Sense channel n = kind_by (k.Sense channel) (ExprKind-F.Sense channel) n (search (rules, the_lemmas))

pub numbers-Emit : (x : Expr) (n : ℕ) → kind_numbers (k.Emit x) n ≡ n ∷ expr_numbers x
numbers-Emit x n = kind_by (k.Emit x) (ExprKind-F.Emit x) n (search (rules, the_lemmas))

pub numbers-Checkpoint : (n : ℕ) → kind_numbers k.Checkpoint n ≡ n ∷ []
numbers-Checkpoint n = kind_by k.Checkpoint ExprKind-F.Checkpoint n (search (rules, the_lemmas))

pub numbers-Comma : (x y : Expr) (n : ℕ) → kind_numbers (k.Comma x y) n ≡ n ∷ (expr_numbers x ++ expr_numbers y)
numbers-Comma x y n = kind_by (k.Comma x y) (ExprKind-F.Comma x y) n (search (rules, the_lemmas))

pub place-Local : (i : ℕ) (n : ℕ) → place_kind_numbers (p.Local i) n ≡ n ∷ []
place-Local i n = place_by (p.Local i) (PlaceKind-F.Local i) n (search (rules, the_lemmas))

pub place-Global : (i : ℕ) (n : ℕ) → place_kind_numbers (p.Global i) n ≡ n ∷ []
place-Global i n = place_by (p.Global i) (PlaceKind-F.Global i) n (search (rules, the_lemmas))

pub place-Deref : (x : Expr) (n : ℕ) → place_kind_numbers (p.Deref x) n ≡ n ∷ expr_numbers x
place-Deref x n = place_by (p.Deref x) (PlaceKind-F.Deref x) n (search (rules, the_lemmas))

pub place-Member : (q : Place) (tag member : ℕ) (n : ℕ) → place_kind_numbers (p.Member q tag member) n ≡ n ∷ place_numbers q
place-Member q tag member n = place_by (p.Member q tag member) (PlaceKind-F.Member q tag member) n (search (rules, the_lemmas))

pub place-Element : (q : Place) (x : Expr) (n : ℕ) → place_kind_numbers (p.Element q x) n ≡ n ∷
    (place_numbers q ++ expr_numbers x)
place-Element q x n = place_by (p.Element q x) (PlaceKind-F.Element q x) n (search (rules, the_lemmas))

pub place-At : (x y : Expr) (n : ℕ) → place_kind_numbers (p.At x y) n ≡ n ∷ (expr_numbers x ++ expr_numbers y)
place-At x y n = place_by (p.At x y) (PlaceKind-F.At x y) n (search (rules, the_lemmas))

-- ---- of a kind of statement

abbrev pub stmt_kind_numbers : StmtKind → ℕ → Numbers
stmt_kind_numbers = fold-StmtKind (ℕ → Numbers) Numbers Numbers (λ x node. node ∷ stmt_step x) (λ g. joined g.body)
    (λ x. x.kind x.node)

abbrev pub group_numbers : Group → Numbers
group_numbers = fold-Group (ℕ → Numbers) Numbers Numbers (λ x node. node ∷ stmt_step x) (λ g. joined g.body) (λ x. x.kind x.node)

pub group_is : (g : Group) → group_numbers g ≡ joined (map stmt_numbers (out-Group g).body)
group_is g = search (rules, the_group.the_lemmas)

stmt_unrolled : (z : StmtKind-F StmtKind Group Stmt) → stmt_kind_numbers (roll-StmtKind z)
    ≡ (λ node. node ∷ stmt_step (map-StmtKind StmtKind Group Stmt (ℕ
    → Numbers) Numbers Numbers stmt_kind_numbers group_numbers stmt_numbers z))
stmt_unrolled z = search (rules, stmt_lemmas)

stmt_by : (kind : StmtKind) (z : StmtKind-F StmtKind Group Stmt) (n : ℕ) → kind ≡ roll-StmtKind z → stmt_kind_numbers kind n
    ≡ n ∷ stmt_step (map-StmtKind StmtKind Group Stmt
    (ℕ → Numbers) Numbers Numbers stmt_kind_numbers group_numbers stmt_numbers z)
stmt_by kind z n is = ap (λ (y : StmtKind). stmt_kind_numbers y n) is ∙ ap (λ (f : ℕ → Numbers). f n) (stmt_unrolled z)

pub stmt-Expr : (e : Expr) (n : ℕ) → stmt_kind_numbers (s.Expr e) n ≡ n ∷ expr_numbers e
stmt-Expr e n = stmt_by (s.Expr e) (StmtKind-F.Expr e) n (search (rules, stmt_lemmas))

pub stmt-Block : (all : List Stmt) (n : ℕ) → stmt_kind_numbers (s.Block all) n ≡ n ∷ joined (map stmt_numbers all)
stmt-Block all n = stmt_by (s.Block all) (StmtKind-F.Block all) n (search (rules, stmt_lemmas))

pub stmt-If : (test : Expr) (one : Stmt) (n : ℕ) → stmt_kind_numbers (s.If test one None) n ≡ n ∷
    (expr_numbers test ++ stmt_numbers one ++ [])
stmt-If test one n = stmt_by (s.If test one None) (StmtKind-F.If test one None) n (search (rules, stmt_lemmas))

pub stmt-Else : (test : Expr) (one other : Stmt) (n : ℕ) → stmt_kind_numbers (s.If test one (Some other)) n ≡ n ∷
    (expr_numbers test ++ stmt_numbers one ++ stmt_numbers other)
stmt-Else test one other n = stmt_by (s.If test one (Some other)) (StmtKind-F.If test one (Some other)) n
    (search (rules, stmt_lemmas))

pub stmt-While : (test : Expr) (body : Stmt) (n : ℕ) → stmt_kind_numbers (s.While test body) n ≡ n ∷
    (expr_numbers test ++ stmt_numbers body)
stmt-While test body n = stmt_by (s.While test body) (StmtKind-F.While test body) n (search (rules, stmt_lemmas))

pub stmt-Do : (body : Stmt) (test : Expr) (n : ℕ) → stmt_kind_numbers (s.Do body test) n ≡ n ∷
    (stmt_numbers body ++ expr_numbers test)
stmt-Do body test n = stmt_by (s.Do body test) (StmtKind-F.Do body test) n (search (rules, stmt_lemmas))

pub stmt-For : (test step : Option Expr) (body : Stmt) (n : ℕ) → stmt_kind_numbers (s.For None test step body) n ≡ n ∷
    ([] ++ some_of expr_numbers test ++ some_of expr_numbers step ++ stmt_numbers body)
stmt-For test step body n = stmt_by (s.For None test step body) (StmtKind-F.For None test step body) n
    (search (rules, stmt_lemmas))

pub stmt-First : (first : Stmt) (test step : Option Expr) (body : Stmt) (n : ℕ) → stmt_kind_numbers
    (s.For (Some first) test step body) n ≡ n ∷
    (stmt_numbers first ++ some_of expr_numbers test ++ some_of expr_numbers step ++ stmt_numbers body)
stmt-First first test step body n = stmt_by (s.For (Some first) test step body) (StmtKind-F.For (Some first) test step body) n
    (search (rules, stmt_lemmas))

pub stmt-Switch : (on : Expr) (groups : List Group) (n : ℕ) → stmt_kind_numbers (s.Switch on groups) n ≡ n ∷
    (expr_numbers on ++ joined (map group_numbers groups))
stmt-Switch on groups n = stmt_by (s.Switch on groups) (StmtKind-F.Switch on groups) n (search (rules, stmt_lemmas))

pub stmt-Return : (e : Expr) (n : ℕ) → stmt_kind_numbers (s.Return (Some e)) n ≡ n ∷ expr_numbers e
stmt-Return e n = stmt_by (s.Return (Some e)) (StmtKind-F.Return (Some e)) n (search (rules, stmt_lemmas))

pub stmt-Stamped : (q : Place) (e : Expr) (n : ℕ) → stmt_kind_numbers (s.Stamped q e) n ≡ n ∷ (place_numbers q ++ expr_numbers e)
stmt-Stamped q e n = stmt_by (s.Stamped q e) (StmtKind-F.Stamped q e) n (search (rules, stmt_lemmas))

pub stmt-Timely : (q : Place) (limit : ℕ) (one : Stmt) (n : ℕ) → stmt_kind_numbers (s.Timely q limit one None) n ≡ n ∷
    (place_numbers q ++ stmt_numbers one ++ [])
stmt-Timely q limit one n = stmt_by (s.Timely q limit one None) (StmtKind-F.Timely q limit one None) n
    (search (rules, stmt_lemmas))

pub stmt-Late : (q : Place) (limit : ℕ) (one other : Stmt) (n : ℕ) → stmt_kind_numbers (s.Timely q limit one (Some other)) n ≡ n ∷
    (place_numbers q ++ stmt_numbers one ++ stmt_numbers other)
stmt-Late q limit one other n = stmt_by (s.Timely q limit one (Some other)) (StmtKind-F.Timely q limit one (Some other)) n
    (search (rules, stmt_lemmas))

pub stmt-Expires : (names : List Place) (body caught : List Stmt) (n : ℕ) → stmt_kind_numbers (s.Expires names body caught) n
    ≡ n ∷ (joined (map place_numbers names) ++ joined (map stmt_numbers body) ++ joined (map stmt_numbers caught))
stmt-Expires names body caught n = stmt_by (s.Expires names body caught) (StmtKind-F.Expires names body caught) n
    (search (rules, stmt_lemmas))

pub stmt-Declare : (i : ℕ) (init : List Init) (n : ℕ) → stmt_kind_numbers (s.Declare i init) n ≡ n ∷ joined
    (map init_numbers init)
stmt-Declare i init n = stmt_by (s.Declare i init) (StmtKind-F.Declare i init) n (search (rules, stmt_lemmas))
