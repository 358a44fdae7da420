-- The numbers of expressions and places count on, by induction over them.
use Rattle.std.proofs.Common.{◌≡◌, ℕ, ◌+◌, List, [], ◌∷◌, ◌++◌, map, Option, Some, None, refl, sym, ap, subst, rules}
use Rattle.core_tree.specs.declared.expressions.Expr.{Expr, Expr-F, roll-Expr}
use Rattle.core_tree.specs.declared.expressions.Place.{Place, Place-F, roll-Place}
use Rattle.core_tree.specs.declared.expressions.ExprKind.{ExprKind, fold-ExprKind, roll-ExprKind, map-ExprKind, ind-ExprKind, the_lemmas}
use Rattle.core_tree.specs.declared.expressions.PlaceKind.{PlaceKind, fold-PlaceKind, roll-PlaceKind, map-PlaceKind, ind-PlaceKind}
use Rattle.core_tree.specs.declared.expressions.ExprKind.TheVariants as k
use Rattle.core_tree.specs.declared.expressions.PlaceKind.TheVariants as pk
use Rattle.core_tree.specs.declared.expressions.ExprKind.TheOpen.{ExprKind-F, PlaceKind-F}
use Rattle.core_tree.specs.Numbers.{Numbers, expr_numbers, place_numbers}
use Rattle.core_tree.specs.Numbers as numbers
use Rattle.core_tree.specs.Reaching.{joined, some_of}
use Rattle.c_checking.specs.Numbering.{Numbered, each, maybe_expr, expr_numbered, place_numbered, places_numbered}
use Rattle.c_numbering_laws.specs.Counted.{Counts}
use Rattle.c_numbering_laws.proofs.Layers as l
use Rattle.c_numbering_laws.proofs.Layers.{kind_numbered, place_kind_numbered}
use Rattle.c_numbering_laws.proofs.Counting.{counts_none, counts_both, counts_three, counts_node}

-- ---- the numbers of each kind

abbrev pub kind_numbers : ExprKind → ℕ → Numbers
kind_numbers = fold-ExprKind (ℕ → Numbers) (ℕ → Numbers) Numbers Numbers (λ x node. node ∷ numbers.expr_step x)
    (λ p node. node ∷ numbers.place_step p) (λ x. x.kind x.node) (λ p. p.kind p.node)

abbrev pub place_kind_numbers : PlaceKind → ℕ → Numbers
place_kind_numbers = fold-PlaceKind (ℕ → Numbers) (ℕ → Numbers) Numbers Numbers (λ x node. node ∷ numbers.expr_step x)
    (λ p node. node ∷ numbers.place_step p) (λ x. x.kind x.node) (λ p. p.kind p.node)

abbrev Layer : Type 0
Layer = ExprKind-F (ℕ → Numbers) (ℕ → Numbers) Numbers Numbers

abbrev PlaceLayer : Type 0
PlaceLayer = PlaceKind-F (ℕ → Numbers) (ℕ → Numbers) Numbers Numbers

-- for any steps, which do not compute
module _ (step : Layer → ℕ → Numbers) (at : PlaceLayer → ℕ → Numbers) where
  abbrev kind_by : ExprKind → ℕ → Numbers
  kind_by = fold-ExprKind (ℕ → Numbers) (ℕ → Numbers) Numbers Numbers step at (λ x. x.kind x.node) (λ p. p.kind p.node)

  fold-Call : (f : ℕ) (args : List Expr)
      → kind_by (k.Call f args) ≡ step (ExprKind-F.Call f (map (λ e. kind_by e.kind e.node) args))
  fold-Call f args = search (rules, the_lemmas)

-- ---- what the induction shows

abbrev KindCounts : ExprKind → Type 0
KindCounts kind = (n : ℕ) → Counts n (kind_numbered kind (n + 1)).1 (kind_numbers (kind_numbered kind (n + 1)).0 n)

abbrev PlaceKindCounts : PlaceKind → Type 0
PlaceKindCounts kind = (n : ℕ)
    → Counts n (place_kind_numbered kind (n + 1)).1 (place_kind_numbers (place_kind_numbered kind (n + 1)).0 n)

-- a kind, by what it is with its nodes numbered and by the numbers of its parts
kind_by_parts : (kind : ExprKind) (by : Numbered ExprKind) (xs : ℕ → Numbers) → kind_numbered kind ≡ by
    → ((n : ℕ) → kind_numbers (by (n + 1)).0 n ≡ n ∷ xs n) → ((n : ℕ) → Counts (n + 1) (by (n + 1)).1 (xs n)) → KindCounts kind
kind_by_parts kind by xs is at parts n =
    subst (λ (f : Numbered ExprKind). Counts n (f (n + 1)).1 (kind_numbers (f (n + 1)).0 n)) (sym is)
    (subst (λ zs. Counts n (by (n + 1)).1 zs) (sym (at n)) (counts_node n (by (n + 1)).1 (xs n) (parts n)))

place_by_parts : (kind : PlaceKind) (by : Numbered PlaceKind) (xs : ℕ → Numbers) → place_kind_numbered kind ≡ by
    → ((n : ℕ) → place_kind_numbers (by (n + 1)).0 n ≡ n ∷ xs n) → ((n : ℕ) → Counts (n + 1) (by (n + 1)).1 (xs n))
    → PlaceKindCounts kind
place_by_parts kind by xs is at parts n =
    subst (λ (f : Numbered PlaceKind). Counts n (f (n + 1)).1 (place_kind_numbers (f (n + 1)).0 n)) (sym is)
    (subst (λ zs. Counts n (by (n + 1)).1 zs) (sym (at n)) (counts_node n (by (n + 1)).1 (xs n) (parts n)))

abbrev ExprCounts : Expr → Type 0
ExprCounts e = KindCounts e.kind

abbrev PlaceCounts : Place → Type 0
PlaceCounts p = PlaceKindCounts p.kind

two_exprs : (a b : Expr) → ExprCounts a → ExprCounts b → (n : ℕ)
    → Counts n (expr_numbered b (expr_numbered a n).1).1
    (expr_numbers (expr_numbered a n).0 ++ expr_numbers (expr_numbered b (expr_numbered a n).1).0)
two_exprs a b p q n =
    let m = (expr_numbered a n).1 in
    counts_both n m (expr_numbered b m).1 (expr_numbers (expr_numbered a n).0) (expr_numbers (expr_numbered b m).0) (p n) (q m)

place_and_expr : (a : Place) (b : Expr) → PlaceCounts a → ExprCounts b → (n : ℕ)
    → Counts n (expr_numbered b (place_numbered a n).1).1
    (place_numbers (place_numbered a n).0 ++ expr_numbers (expr_numbered b (place_numbered a n).1).0)
place_and_expr a b p q n =
    let m = (place_numbered a n).1 in
    counts_both n m (expr_numbered b m).1 (place_numbers (place_numbered a n).0) (expr_numbers (expr_numbered b m).0) (p n) (q m)

-- a kind with two expressions
of_two : (make : Expr → Expr → ExprKind) (a b : Expr) → ExprCounts a → ExprCounts b
    → kind_numbered (make a b)
    ≡ (λ n. (make (expr_numbered a n).0 (expr_numbered b (expr_numbered a n).1).0, (expr_numbered b (expr_numbered a n).1).1))
    → ((x y : Expr) (n : ℕ) → kind_numbers (make x y) n ≡ n ∷ (expr_numbers x ++ expr_numbers y)) → KindCounts (make a b)
of_two make a b p q is at =
    kind_by_parts (make a b) _
    (λ n. expr_numbers (expr_numbered a (n + 1)).0 ++ expr_numbers (expr_numbered b (expr_numbered a (n + 1)).1).0) is
    (λ n. at (expr_numbered a (n + 1)).0 (expr_numbered b (expr_numbered a (n + 1)).1).0 n) (λ n. two_exprs a b p q (n + 1))

-- a kind with a place and an expression
of_place_and_expr : (make : Place → Expr → ExprKind) (a : Place) (b : Expr) → PlaceCounts a → ExprCounts b
    → kind_numbered (make a b)
    ≡ (λ n. (make (place_numbered a n).0 (expr_numbered b (place_numbered a n).1).0, (expr_numbered b (place_numbered a n).1).1))
    → ((x : Place) (y : Expr) (n : ℕ) → kind_numbers (make x y) n ≡ n ∷ (place_numbers x ++ expr_numbers y))
    → KindCounts (make a b)
of_place_and_expr make a b p q is at =
    kind_by_parts (make a b) _
    (λ n. place_numbers (place_numbered a (n + 1)).0 ++ expr_numbers (expr_numbered b (place_numbered a (n + 1)).1).0) is
    (λ n. at (place_numbered a (n + 1)).0 (expr_numbered b (place_numbered a (n + 1)).1).0 n)
    (λ n. place_and_expr a b p q (n + 1))

-- a kind with one expression, and with a place
of_one : (make : Expr → ExprKind) (a : Expr) → ExprCounts a
    → kind_numbered (make a) ≡ (λ n. (make (expr_numbered a n).0, (expr_numbered a n).1))
    → ((x : Expr) (n : ℕ) → kind_numbers (make x) n ≡ n ∷ expr_numbers x) → KindCounts (make a)
of_one make a p is at =
    kind_by_parts (make a) _ (λ n. expr_numbers (expr_numbered a (n + 1)).0) is (λ n. at (expr_numbered a (n + 1)).0 n)
    (λ n. p (n + 1))

of_place : (make : Place → ExprKind) (a : Place) → PlaceCounts a
    → kind_numbered (make a) ≡ (λ n. (make (place_numbered a n).0, (place_numbered a n).1))
    → ((x : Place) (n : ℕ) → kind_numbers (make x) n ≡ n ∷ place_numbers x) → KindCounts (make a)
of_place make a p is at =
    kind_by_parts (make a) _ (λ n. place_numbers (place_numbered a (n + 1)).0) is (λ n. at (place_numbered a (n + 1)).0 n)
    (λ n. p (n + 1))

-- a kind with neither
of_none : (kind : ExprKind) → kind_numbered kind ≡ (λ n. (kind, n)) → ((n : ℕ) → kind_numbers kind n ≡ n ∷ []) → KindCounts kind
of_none kind is at = kind_by_parts kind (λ n. (kind, n)) (λ n. []) is at (λ n. counts_none (n + 1))

numbers-Conditional : (test a b : Expr) (n : ℕ)
    → kind_numbers (k.Conditional test a b) n ≡ n ∷ (expr_numbers test ++ expr_numbers a ++ expr_numbers b)
numbers-Conditional test a b n = search (rules, the_lemmas)

module _ {A B C D : Type 0} (fa : A → ExprKind) (fb : B → PlaceKind) (fc : C → Expr) (fd : D → Place)
    (exprs : (c : C) → ExprCounts (fc c)) (places : (d : D) → PlaceCounts (fd d)) where
  each_expr : (cs : List C) (n : ℕ)
      → Counts n (each (map expr_numbered (map fc cs)) n).1 (joined (map expr_numbers (each (map expr_numbered (map fc cs)) n).0))
  each_expr [] n = counts_none n
  each_expr (c ∷ cs) n =
      let m = (expr_numbered (fc c) n).1 in
      counts_both n m (each (map expr_numbered (map fc cs)) m).1 (expr_numbers (expr_numbered (fc c) n).0)
      (joined (map expr_numbers (each (map expr_numbered (map fc cs)) m).0)) (exprs c n) (each_expr cs m)

  kind_counts : (x : ExprKind-F ExprKind PlaceKind Expr Place) (y : ExprKind-F A B C D)
      → map-ExprKind A B C D ExprKind PlaceKind Expr Place fa fb fc fd y ≡ x → KindCounts (roll-ExprKind x)
  kind_counts x (ExprKind-F.Constant i) is =
      let h : roll-ExprKind x ≡ k.Constant i = search (rules, the_lemmas) in
      rw h (of_none (k.Constant i) (l.numbered-Constant i) (λ n. search (rules, the_lemmas)))
  kind_counts x (ExprKind-F.Read d) is =
      let h : roll-ExprKind x ≡ k.Read (fd d) = search (rules, the_lemmas) in
      rw h (of_place k.Read (fd d) (places d) (l.numbered-Read (fd d)) (λ q n. search (rules, the_lemmas)))
  kind_counts x (ExprKind-F.Convert c) is =
      let h : roll-ExprKind x ≡ k.Convert (fc c) = search (rules, the_lemmas) in
      rw h (of_one k.Convert (fc c) (exprs c) (l.numbered-Convert (fc c)) (λ e n. search (rules, the_lemmas)))
  kind_counts x (ExprKind-F.Unary o c) is =
      let h : roll-ExprKind x ≡ k.Unary o (fc c) = search (rules, the_lemmas) in
      rw h (of_one (k.Unary o) (fc c) (exprs c) (l.numbered-Unary o (fc c)) (λ e n. search (rules, the_lemmas)))
  kind_counts x (ExprKind-F.Binary o at a b) is =
      let h : roll-ExprKind x ≡ k.Binary o at (fc a) (fc b) = search (rules, the_lemmas) in
      rw h (of_two (k.Binary o at) (fc a) (fc b) (exprs a) (exprs b) (l.numbered-Binary o at (fc a) (fc b))
      (λ e f n. search (rules, the_lemmas)))
  kind_counts x (ExprKind-F.PointerPlus minus a b) is =
      let h : roll-ExprKind x ≡ k.PointerPlus minus (fc a) (fc b) = search (rules, the_lemmas) in
      rw h (of_two (k.PointerPlus minus) (fc a) (fc b) (exprs a) (exprs b) (l.numbered-PointerPlus minus (fc a) (fc b))
      (λ e f n. search (rules, the_lemmas)))
  kind_counts x (ExprKind-F.Difference a b) is =
      let h : roll-ExprKind x ≡ k.Difference (fc a) (fc b) = search (rules, the_lemmas) in
      rw h (of_two k.Difference (fc a) (fc b) (exprs a) (exprs b) (l.numbered-Difference (fc a) (fc b))
      (λ e f n. search (rules, the_lemmas)))
  kind_counts x (ExprKind-F.ComparePointers o a b) is =
      let h : roll-ExprKind x ≡ k.ComparePointers o (fc a) (fc b) = search (rules, the_lemmas) in
      rw h (of_two (k.ComparePointers o) (fc a) (fc b) (exprs a) (exprs b) (l.numbered-ComparePointers o (fc a) (fc b))
      (λ e f n. search (rules, the_lemmas)))
  kind_counts x (ExprKind-F.And a b) is =
      let h : roll-ExprKind x ≡ k.And (fc a) (fc b) = search (rules, the_lemmas) in
      rw h (of_two k.And (fc a) (fc b) (exprs a) (exprs b) (l.numbered-And (fc a) (fc b)) (λ e f n. search (rules, the_lemmas)))
  kind_counts x (ExprKind-F.Or a b) is =
      let h : roll-ExprKind x ≡ k.Or (fc a) (fc b) = search (rules, the_lemmas) in
      rw h (of_two k.Or (fc a) (fc b) (exprs a) (exprs b) (l.numbered-Or (fc a) (fc b)) (λ e f n. search (rules, the_lemmas)))
  kind_counts x (ExprKind-F.Conditional t a b) is =
      let h : roll-ExprKind x ≡ k.Conditional (fc t) (fc a) (fc b) = search (rules, the_lemmas) in
      rw h (kind_by_parts (k.Conditional (fc t) (fc a) (fc b)) _ parts (l.numbered-Conditional (fc t) (fc a) (fc b))
      (λ n. numbers-Conditional (expr_numbered (fc t) (n + 1)).0 (expr_numbered (fc a) (expr_numbered (fc t) (n + 1)).1).0
      (expr_numbered (fc b) (expr_numbered (fc a) (expr_numbered (fc t) (n + 1)).1).1).0 n)
      (λ n.
      let i = (expr_numbered (fc t) (n + 1)).1 in
      let m = (expr_numbered (fc a) i).1 in
      counts_three (n + 1) i m (expr_numbered (fc b) m).1 (expr_numbers (expr_numbered (fc t) (n + 1)).0)
      (expr_numbers (expr_numbered (fc a) i).0) (expr_numbers (expr_numbered (fc b) m).0)
      (exprs t (n + 1)) (exprs a i) (exprs b m)))
    where
      parts : ℕ → Numbers
      parts n =
          let i = (expr_numbered (fc t) (n + 1)).1 in
          let m = (expr_numbered (fc a) i).1 in
          expr_numbers (expr_numbered (fc t) (n + 1)).0 ++ expr_numbers (expr_numbered (fc a) i).0
          ++ expr_numbers (expr_numbered (fc b) m).0
  kind_counts x (ExprKind-F.Assign d c marked) is =
      let h : roll-ExprKind x ≡ k.Assign (fd d) (fc c) marked = search (rules, the_lemmas) in
      rw h (of_place_and_expr (λ p e. k.Assign p e marked) (fd d) (fc c) (places d) (exprs c)
      (l.numbered-Assign (fd d) (fc c) marked) (λ p e n. search (rules, the_lemmas)))
  kind_counts x (ExprKind-F.Update o at d c old marked) is =
      let h : roll-ExprKind x ≡ k.Update o at (fd d) (fc c) old marked = search (rules, the_lemmas) in
      rw h (of_place_and_expr (λ p e. k.Update o at p e old marked) (fd d) (fc c) (places d) (exprs c)
      (l.numbered-Update o at (fd d) (fc c) old marked) (λ p e n. search (rules, the_lemmas)))
  kind_counts x (ExprKind-F.Address d) is =
      let h : roll-ExprKind x ≡ k.Address (fd d) = search (rules, the_lemmas) in
      rw h (of_place k.Address (fd d) (places d) (l.numbered-Address (fd d)) (λ q n. search (rules, the_lemmas)))
  kind_counts x (ExprKind-F.Call f cs) is =
      let h : roll-ExprKind x ≡ k.Call f (map fc cs) = search (rules, the_lemmas) in
      rw h (kind_by_parts (k.Call f (map fc cs)) _
      (λ n. joined (map expr_numbers (each (map expr_numbered (map fc cs)) (n + 1)).0)) (l.numbered-Call f (map fc cs))
      (λ n. ap (λ (g : ℕ → Numbers). g n)
      (fold-Call (λ y node. node ∷ numbers.expr_step y) (λ y node. node ∷ numbers.place_step y) f
      (each (map expr_numbered (map fc cs)) (n + 1)).0))
      (λ n. each_expr cs (n + 1)))
  kind_counts x (ExprKind-F.Sense channel) is =
      let h : roll-ExprKind x ≡ k.Sense channel = search (rules, the_lemmas) in
      rw h (of_none (k.Sense channel) (l.numbered-Sense channel) (λ n. search (rules, the_lemmas)))
  kind_counts x (ExprKind-F.Emit c) is =
      let h : roll-ExprKind x ≡ k.Emit (fc c) = search (rules, the_lemmas) in
      rw h (of_one k.Emit (fc c) (exprs c) (l.numbered-Emit (fc c)) (λ e n. search (rules, the_lemmas)))
  kind_counts x ExprKind-F.Checkpoint is =
      let h : roll-ExprKind x ≡ k.Checkpoint = search (rules, the_lemmas) in
      rw h (of_none k.Checkpoint l.numbered-Checkpoint (λ n. search (rules, the_lemmas)))
  kind_counts x (ExprKind-F.Comma a b) is =
      let h : roll-ExprKind x ≡ k.Comma (fc a) (fc b) = search (rules, the_lemmas) in
      rw h (of_two k.Comma (fc a) (fc b) (exprs a) (exprs b) (l.numbered-Comma (fc a) (fc b))
      (λ e f n. search (rules, the_lemmas)))

  place_kind_counts : (x : PlaceKind-F ExprKind PlaceKind Expr Place) (y : PlaceKind-F A B C D)
      → map-PlaceKind A B C D ExprKind PlaceKind Expr Place fa fb fc fd y ≡ x → PlaceKindCounts (roll-PlaceKind x)
  place_kind_counts x (PlaceKind-F.Local i) is =
      let h : roll-PlaceKind x ≡ pk.Local i = search (rules, the_lemmas) in
      rw h (place_by_parts (pk.Local i) (λ n. (pk.Local i, n)) (λ n. []) (l.numbered-Local i) (λ n. search (rules, the_lemmas))
      (λ n. counts_none (n + 1)))
  place_kind_counts x (PlaceKind-F.Global i) is =
      let h : roll-PlaceKind x ≡ pk.Global i = search (rules, the_lemmas) in
      rw h (place_by_parts (pk.Global i) (λ n. (pk.Global i, n)) (λ n. []) (l.numbered-Global i) (λ n. search (rules, the_lemmas))
      (λ n. counts_none (n + 1)))
  place_kind_counts x (PlaceKind-F.Deref c) is =
      let h : roll-PlaceKind x ≡ pk.Deref (fc c) = search (rules, the_lemmas) in
      rw h (place_by_parts (pk.Deref (fc c)) _ (λ n. expr_numbers (expr_numbered (fc c) (n + 1)).0) (l.numbered-Deref (fc c))
      (λ n. search (rules, the_lemmas)) (λ n. exprs c (n + 1)))
  place_kind_counts x (PlaceKind-F.Member d tag i) is =
      let h : roll-PlaceKind x ≡ pk.Member (fd d) tag i = search (rules, the_lemmas) in
      rw h (place_by_parts (pk.Member (fd d) tag i) _ (λ n. place_numbers (place_numbered (fd d) (n + 1)).0)
      (l.numbered-Member (fd d) tag i) (λ n. search (rules, the_lemmas)) (λ n. places d (n + 1)))
  place_kind_counts x (PlaceKind-F.Element d c) is =
      let h : roll-PlaceKind x ≡ pk.Element (fd d) (fc c) = search (rules, the_lemmas) in
      rw h (place_by_parts (pk.Element (fd d) (fc c)) _
      (λ n. place_numbers (place_numbered (fd d) (n + 1)).0
      ++ expr_numbers (expr_numbered (fc c) (place_numbered (fd d) (n + 1)).1).0)
      (l.numbered-Element (fd d) (fc c)) (λ n. search (rules, the_lemmas))
      (λ n. place_and_expr (fd d) (fc c) (places d) (exprs c) (n + 1)))
  place_kind_counts x (PlaceKind-F.At a b) is =
      let h : roll-PlaceKind x ≡ pk.At (fc a) (fc b) = search (rules, the_lemmas) in
      rw h (place_by_parts (pk.At (fc a) (fc b)) _
      (λ n. expr_numbers (expr_numbered (fc a) (n + 1)).0
      ++ expr_numbers (expr_numbered (fc b) (expr_numbered (fc a) (n + 1)).1).0)
      (l.numbered-At (fc a) (fc b)) (λ n. search (rules, the_lemmas))
      (λ n. two_exprs (fc a) (fc b) (exprs a) (exprs b) (n + 1)))

-- ---- the induction

abbrev ExprOpen : Type 0
ExprOpen = ExprKind-F ExprKind PlaceKind Expr Place

abbrev PlaceOpen : Type 0
PlaceOpen = PlaceKind-F ExprKind PlaceKind Expr Place

kind_counted : (kind : ExprKind) → KindCounts kind
kind_counted = ind-ExprKind KindCounts PlaceKindCounts (λ e. KindCounts e.kind) (λ p. PlaceKindCounts p.kind)
    (λ x y is. subst (λ (z : ExprOpen). KindCounts (roll-ExprKind z)) is
    (kind_counts (λ e. e.0) (λ e. e.0) (λ e. e.0) (λ e. e.0) (λ e. e.1) (λ e. e.1) _ y refl))
    (λ x y is. subst (λ (z : PlaceOpen). PlaceKindCounts (roll-PlaceKind z)) is
    (place_kind_counts (λ e. e.0) (λ e. e.0) (λ e. e.0) (λ e. e.0) (λ e. e.1) (λ e. e.1) _ y refl))
    (λ x y is. subst (λ (z : Expr-F ExprKind PlaceKind Expr Place). KindCounts (roll-Expr z).kind) is y.kind.1)
    (λ x y is. subst (λ (z : Place-F ExprKind PlaceKind Expr Place). PlaceKindCounts (roll-Place z).kind) is y.kind.1)

place_kind_counted : (kind : PlaceKind) → PlaceKindCounts kind
place_kind_counted = ind-PlaceKind KindCounts PlaceKindCounts (λ e. KindCounts e.kind) (λ p. PlaceKindCounts p.kind)
    (λ x y is. subst (λ (z : ExprOpen). KindCounts (roll-ExprKind z)) is
    (kind_counts (λ e. e.0) (λ e. e.0) (λ e. e.0) (λ e. e.0) (λ e. e.1) (λ e. e.1) _ y refl))
    (λ x y is. subst (λ (z : PlaceOpen). PlaceKindCounts (roll-PlaceKind z)) is
    (place_kind_counts (λ e. e.0) (λ e. e.0) (λ e. e.0) (λ e. e.0) (λ e. e.1) (λ e. e.1) _ y refl))
    (λ x y is. subst (λ (z : Expr-F ExprKind PlaceKind Expr Place). KindCounts (roll-Expr z).kind) is y.kind.1)
    (λ x y is. subst (λ (z : Place-F ExprKind PlaceKind Expr Place). PlaceKindCounts (roll-Place z).kind) is y.kind.1)

pub expr_counts : (e : Expr) (n : ℕ) → Counts n (expr_numbered e n).1 (expr_numbers (expr_numbered e n).0)
expr_counts e n = kind_counted e.kind n

pub place_counts : (p : Place) (n : ℕ) → Counts n (place_numbered p n).1 (place_numbers (place_numbered p n).0)
place_counts p n = place_kind_counted p.kind n

pub maybe_counts : (e : Option Expr) (n : ℕ) → Counts n (maybe_expr e n).1 (some_of expr_numbers (maybe_expr e n).0)
maybe_counts None n = counts_none n
maybe_counts (Some e) n = expr_counts e n

pub places_count : (ps : List Place) (n : ℕ)
    → Counts n (places_numbered ps n).1 (joined (map place_numbers (places_numbered ps n).0))
places_count [] n = counts_none n
places_count (p ∷ ps) n =
    let m = (place_numbered p n).1 in
    counts_both n m (places_numbered ps m).1 (place_numbers (place_numbered p n).0)
    (joined (map place_numbers (places_numbered ps m).0)) (place_counts p n) (places_count ps m)
