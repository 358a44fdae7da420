-- Every statement and every call does the same in the other way.
use Rattle.std.proofs.Common.{◌≡◌, ℕ, zero, suc, ◌+◌, ◌≤◌, ℤ, Bool, true, false, cond, List, [], ◌∷◌, map, Option, Some, None, subst, sym, refl, rules, arith}
use Rattle.base16.specs.declared.reading.Reading.{Reading}
use Rattle.core_tree.specs.declared.program.Core.{Core}
use Rattle.core_tree.specs.declared.expressions.Expr.{Expr}
use Rattle.core_tree.specs.declared.expressions.Place.{Place}
use Rattle.core_tree.specs.declared.statements.Init.{Init}
use Rattle.core_tree.specs.declared.statements.Group.{Group, Group-F, roll-Group, fold-Group}
use Rattle.core_tree.specs.declared.statements.Group as group
use Rattle.core_tree.specs.declared.statements.Stmt.{Stmt, Stmt-F, roll-Stmt}
use Rattle.core_tree.specs.declared.statements.StmtKind.{StmtKind, roll-StmtKind, map-StmtKind, ind-StmtKind, the_lemmas}
use Rattle.core_tree.specs.declared.statements.StmtKind.TheOpen.{StmtKind-F}
use Rattle.c_values.specs.declared.value.Value.{Value}
use Rattle.c_run.specs.Runs.{Action}
use Rattle.c_run.specs.declared.timed.Timed.{Timed}
use Rattle.c_run.proofs.Growing.{Way, Goes, Marks, Reads, goes_then, goes_seq, goes_of, marks_then, marks_fewer, fewer, goes_pure, marks_mark, goes_if, goes_given, goes_asked, goes_store, goes_stamped, goes_timely, goes_open, marks_check, goes_close, goes_cleared}
use Rattle.c_meaning.specs.declared.flow.Flow.{Flow}
use Rattle.c_meaning.specs.declared.flow.Flow.TheVariants.{Normal, Break, Continue, Return, Caught}
use Rattle.c_meaning.specs.Meaning.{Calls}
use Rattle.c_meaning.specs.Statements.{Text, Step, Labelled, has_case, has_default, from_group, acts, or_default, selected, in_order, then_flow, after_body, turn, turns, loop, at_end, init_value, initialised, declared, named, loop_test, loop_step, stmt_layer, stmt_kind, stmt, stmts, run_test}
use Rattle.c_meaning.specs.After.{body}
use Rattle.c_meaning.proofs.GrowingTree.{goes_expr, goes_place}

module _ {w : Way} {b : ℕ} where
  goes_flow : (f : Flow) {p q : Action Flow} → Goes w b p q → Goes w b (then_flow f p) (then_flow f q)
  goes_flow Normal h = h
  goes_flow Break h = goes_pure _
  goes_flow Continue h = goes_pure _
  goes_flow (Return v) h = goes_pure _
  goes_flow Caught h = goes_pure _

  goes_after : (f : Flow) {p q : Action Flow} → Goes w b p q → Goes w b (after_body f p) (after_body f q)
  goes_after Normal h = h
  goes_after Continue h = h
  goes_after Break h = goes_pure _
  goes_after (Return v) h = goes_pure _
  goes_after Caught h = goes_pure _

  marks_turn : {R T : List Reading} (reads : Reads w R T) (text : Text) → Marks w b (turn R text) (turn T text)
  marks_turn reads None = marks_then marks_mark (λ _. goes_pure true)
  marks_turn reads (Some names) = marks_check reads names

module _ {w : Way} {b : ℕ} {R T : List Reading} (reads : Reads w R T) (text : Text) {test test2 : Action Bool} {one other : Action Flow} {step step2 : Action (Unit {0})}
    (ct : Goes w b test test2) (cb : Goes w b one other) (cs : Goes w b step step2) where
  -- as many turns as marks are left are enough on both sides
  pub goes_turns : (j k c : ℕ) → c ≤ j → c + w.more ≤ k → c ≤ b → Goes w c (turns R text test one step j) (turns T text test2 other step2 k)
  unfolding turns
  goes_turns j k zero h i l = record { runs = λ r x. absurd (omega (arith, x)) }
  goes_turns zero k (suc c) h i l = absurd (omega (arith, h))
  goes_turns (suc j) zero (suc c) h i l = absurd (omega (arith, i))
  goes_turns (suc j) (suc k) (suc c) h i l =
      goes_of (marks_fewer (marks_turn reads text) (λ fine. goes_if fine
      (goes_then (fewer (omega (arith, l)) ct) (λ more. goes_if more
      (goes_then (fewer (omega (arith, l)) cb) (λ f. goes_after f (goes_seq (fewer (omega (arith, l)) cs) (goes_turns j k c (omega (arith, h)) (omega (arith, i)) (omega (arith, l))))))
      (goes_pure Normal)))
      (goes_pure Caught)))

  pub goes_loop : Goes w b (loop R text test one step) (loop T text test2 other step2)
  unfolding loop
  goes_loop = record { runs = λ r l. (goes_turns (suc r.left) (suc (r.left + w.more)) (suc r.left) (omega arith) (omega arith) (omega (arith, l))).runs r (omega arith) }

module _ (K : Core) (R : List Reading) (C : Calls) (F : ℕ) where
  abbrev group_meant : Group → Labelled
  group_meant = fold-Group (ℕ → Step) Labelled Step (stmt_layer K R C F) (λ g. record { labels = g.labels; act = in_order g.body }) (λ s. s.kind s.node)

  unrolled_stmt : (z : StmtKind-F StmtKind Group Stmt) → stmt_kind K R C F (roll-StmtKind z)
      ≡ stmt_layer K R C F (map-StmtKind StmtKind Group Stmt (ℕ → Step) Labelled Step (stmt_kind K R C F) (group_meant) (stmt K R C F) z)
  unrolled_stmt z = search (rules, the_lemmas)

  unrolled_group : (z : Group-F StmtKind Group Stmt) → group_meant (roll-Group z) ≡ record { labels = z.labels; act = in_order (map (stmt K R C F) z.body) }
  unrolled_group z = search (rules, group.the_lemmas)

either : {p p1 q q1 : ℕ → Step} {w : Way} {b : ℕ} → p ≡ p1 → q ≡ q1 → (n : ℕ) (text : Text) → Goes w b (p1 n text) (q1 n text) → Goes w b (p n text) (q n text)
either {p1} {q} {w} {b} e f n text h =
    subst (λ (x : ℕ → Step). Goes w b (x n text) (q n text)) (sym e) (subst (λ (y : ℕ → Step). Goes w b (p1 n text) (y n text)) (sym f) h)

either_group : {p p1 q q1 : Labelled} {w : Way} {b : ℕ} → p ≡ p1 → q ≡ q1 → (p1.labels ≡ q1.labels) × ((text : Text) → Goes w b (p1.act text) (q1.act text))
    → (p.labels ≡ q.labels) × ((text : Text) → Goes w b (p.act text) (q.act text))
either_group {p1} {q} {w} {b} e f h =
    subst (λ (x : Labelled). (x.labels ≡ q.labels) × ((text : Text) → Goes w b (x.act text) (q.act text))) (sym e)
    (subst (λ (y : Labelled). (p1.labels ≡ y.labels) × ((text : Text) → Goes w b (p1.act text) (y.act text))) (sym f) h)

-- the groups of a switch
data Alike (w : Way) (b : ℕ) : List Labelled → List Labelled → Type 0 where
  none : Alike w b [] []
  more : {ls : List (Option ℤ)} {p q : Step} {gs hs : List Labelled} → ((text : Text) → Goes w b (p text) (q text)) → Alike w b gs hs
      → Alike w b (record { labels = ls; act = p } ∷ gs) (record { labels = ls; act = q } ∷ hs)

module _ {w : Way} {b : ℕ} where
  from_if : (x : Bool) {gs hs is js : List Labelled} → Alike w b gs hs → Alike w b is js → Alike w b (cond x gs is) (cond x hs js)
  from_if true h i = h
  from_if false h i = i

  from_alike : (p : List (Option ℤ) → Bool) {gs hs : List Labelled} → Alike w b gs hs → Alike w b (from_group p gs) (from_group p hs)
  from_alike p none = none
  from_alike p (more {ls} h i) = from_if (p ls) (more h i) (from_alike p i)

  acts_alike : {gs hs : List Labelled} (text : Text) → Alike w b gs hs → Goes w b (in_order (acts gs) text) (in_order (acts hs) text)
  acts_alike text none = goes_pure Normal
  acts_alike text (more h i) = goes_then (h text) (λ f. goes_flow f (acts_alike text i))

  default_alike : {gs hs is js : List Labelled} → Alike w b gs hs → Alike w b is js → Alike w b (or_default gs is) (or_default hs js)
  default_alike none i = from_alike has_default i
  default_alike (more h j) i = more h j

  selected_alike : (z : ℤ) {gs hs : List Labelled} (text : Text) → Alike w b gs hs → Goes w b (in_order (selected z gs) text) (in_order (selected z hs) text)
  selected_alike z text h = acts_alike text (default_alike (from_alike (has_case z) h) h)

  more_alike : (g h : Labelled) {gs hs : List Labelled} → g.labels ≡ h.labels → ((text : Text) → Goes w b (g.act text) (h.act text)) → Alike w b gs hs → Alike w b (g ∷ gs) (h ∷ hs)
  more_alike g h {gs} {hs} e i j = subst (λ (x : List (Option ℤ)). Alike w b (g ∷ gs) (record { labels = x; act = h.act } ∷ hs)) e (more i j)

module _ (K : Core) {w : Way} {b : ℕ} {R T : List Reading} (reads : Reads w R T) {C D : Calls} (F : ℕ) (cc_ : (f : ℕ) (vs : List Value) → Goes w b (C f vs) (D f vs)) where
  goes_test : (node : ℕ) (e : Expr) → Goes w b (run_test K R C F node e) (run_test K T D F node e)
  goes_test node e = goes_then (goes_expr K.structs reads F cc_ e) (λ v. goes_asked node _)

  goes_loop_test : (node : ℕ) (e : Option Expr) → Goes w b (loop_test K R C F node e) (loop_test K T D F node e)
  goes_loop_test node None = goes_pure true
  goes_loop_test node (Some e) = goes_test node e

  goes_loop_step : (e : Option Expr) → Goes w b (loop_step K R C F e) (loop_step K T D F e)
  goes_loop_step None = goes_pure tt
  goes_loop_step (Some e) = goes_then (goes_expr K.structs reads F cc_ e) (λ v. goes_pure tt)

  goes_init : (e : Option Expr) → Goes w b (init_value K R C F e) (init_value K T D F e)
  goes_init None = goes_pure None
  goes_init (Some e) = goes_then (goes_expr K.structs reads F cc_ e) (λ v. goes_pure (Some v))

  goes_initialised : (node n : ℕ) (is : List Init) → Goes w b (initialised K R C F node n is) (initialised K T D F node n is)
  goes_initialised node n [] = goes_pure tt
  goes_initialised node n (i ∷ is) =
      goes_then (goes_init i.value) (λ v. goes_then (goes_asked node _) (λ k.
      goes_seq (goes_store node _ k _ i.marked) (goes_initialised node n is)))

  goes_declared : (node n : ℕ) (is : List Init) → Goes w b (declared K R C F node n is) (declared K T D F node n is)
  goes_declared node n [] = goes_cleared n
  goes_declared node n (i ∷ is) = goes_initialised node n (i ∷ is)

  goes_named : (ps : List Place) → Goes w b (named K R C F ps) (named K T D F ps)
  goes_named [] = goes_pure []
  goes_named (p ∷ ps) = goes_then (goes_place K.structs reads F cc_ p) (λ l. goes_then (goes_named ps) (λ ts. goes_pure _))

  goes_end : (ts : List Timed) (f : Flow) {p q : Action Flow} → Goes w b p q → Goes w b (at_end R ts f p) (at_end T ts f q)
  goes_end ts Caught h = h
  goes_end ts Normal h = goes_then (goes_close reads ts) (λ fine. goes_if fine (goes_pure Normal) h)
  goes_end ts Break h = goes_then (goes_close reads ts) (λ fine. goes_if fine (goes_pure Normal) h)
  goes_end ts Continue h = goes_then (goes_close reads ts) (λ fine. goes_if fine (goes_pure Normal) h)
  goes_end ts (Return v) h = goes_then (goes_close reads ts) (λ fine. goes_if fine (goes_pure Normal) h)

  order_all : {SS : Type 0} (s0 : SS → Stmt) → ((s : SS) (text : Text) → Goes w b (stmt K R C F (s0 s) text) (stmt K T D F (s0 s) text)) → (ss : List SS) (text : Text)
      → Goes w b (in_order (map (stmt K R C F) (map s0 ss)) text) (in_order (map (stmt K T D F) (map s0 ss)) text)
  order_all s0 sc [] text = goes_pure Normal
  order_all s0 sc (s ∷ ss) text = goes_then (sc s text) (λ f. goes_flow f (order_all s0 sc ss text))

  module _ {KK GG SS : Type 0} (k0 : KK → StmtKind) (g0 : GG → Group) (s0 : SS → Stmt)
      (gc : (g : GG) → ((group_meant K R C F (g0 g)).labels ≡ (group_meant K T D F (g0 g)).labels) × ((text : Text) → Goes w b ((group_meant K R C F (g0 g)).act text) ((group_meant K T D F (g0 g)).act text))) (sc : (s : SS) (text : Text) → Goes w b (stmt K R C F (s0 s) text) (stmt K T D F (s0 s) text)) where
    order_ok : (ss : List SS) (text : Text) → Goes w b (in_order (map (stmt K R C F) (map s0 ss)) text) (in_order (map (stmt K T D F) (map s0 ss)) text)
    order_ok ss text = order_all s0 sc ss text

    groups_ok : (gs : List GG) → Alike w b (map (group_meant K R C F) (map g0 gs)) (map (group_meant K T D F) (map g0 gs))
    groups_ok [] = none
    groups_ok (g ∷ gs) = more_alike _ _ (gc g).0 (gc g).1 (groups_ok gs)

    stmt_ok : (y : StmtKind-F KK GG SS) (n : ℕ) (text : Text)
        → Goes w b (stmt_layer K R C F (map-StmtKind StmtKind Group Stmt (ℕ → Step) Labelled Step (stmt_kind K R C F) (group_meant K R C F) (stmt K R C F) (map-StmtKind KK GG SS StmtKind Group Stmt k0 g0 s0 y)) n text) (stmt_layer K T D F (map-StmtKind StmtKind Group Stmt (ℕ → Step) Labelled Step (stmt_kind K T D F) (group_meant K T D F) (stmt K T D F) (map-StmtKind KK GG SS StmtKind Group Stmt k0 g0 s0 y)) n text)
    stmt_ok (StmtKind-F.Expr e) n text = goes_seq (goes_expr K.structs reads F cc_ e) (goes_pure Normal)
    stmt_ok (StmtKind-F.Block all) n text = order_ok all text
    stmt_ok (StmtKind-F.If t one None) n text = goes_then (goes_test n t) (λ x. goes_if x (sc one text) (goes_pure Normal))
    stmt_ok (StmtKind-F.If t one (Some other)) n text = goes_then (goes_test n t) (λ x. goes_if x (sc one text) (sc other text))
    stmt_ok (StmtKind-F.While t body) n text = goes_loop reads text (goes_test n t) (sc body text) (goes_pure tt)
    stmt_ok (StmtKind-F.Do body t) n text =
        goes_then (sc body text) (λ f. goes_after f (goes_loop reads text (goes_test n t) (sc body text) (goes_pure tt)))
    stmt_ok (StmtKind-F.For None t step body) n text =
        goes_then (goes_pure Normal) (λ f. goes_flow f (goes_loop reads text (goes_loop_test n t) (sc body text) (goes_loop_step step)))
    stmt_ok (StmtKind-F.For (Some begin) t step body) n text =
        goes_then (sc begin text) (λ f. goes_flow f (goes_loop reads text (goes_loop_test n t) (sc body text) (goes_loop_step step)))
    stmt_ok (StmtKind-F.Switch on groups) n text =
        goes_then (goes_expr K.structs reads F cc_ on) (λ v. goes_then (goes_given n _) (λ z.
        goes_then (selected_alike z text (groups_ok groups)) (λ f. goes_pure _)))
    stmt_ok StmtKind-F.Break n text = goes_pure _
    stmt_ok StmtKind-F.Continue n text = goes_pure _
    stmt_ok (StmtKind-F.Return None) n text = goes_pure _
    stmt_ok (StmtKind-F.Return (Some e)) n text = goes_then (goes_expr K.structs reads F cc_ e) (λ v. goes_then (goes_given n _) (λ w. goes_pure _))
    stmt_ok (StmtKind-F.Stamped p e) n text =
        goes_then (goes_place K.structs reads F cc_ p) (λ l. goes_then (goes_expr K.structs reads F cc_ e) (λ v.
        goes_seq (goes_stamped reads n l _ _ v) (goes_pure Normal)))
    stmt_ok (StmtKind-F.Timely p limit one None) n text =
        goes_then (goes_place K.structs reads F cc_ p) (λ l. goes_then (goes_timely reads n l _ _ limit) (λ x. goes_if x (sc one text) (goes_pure Normal)))
    stmt_ok (StmtKind-F.Timely p limit one (Some other)) n text =
        goes_then (goes_place K.structs reads F cc_ p) (λ l. goes_then (goes_timely reads n l _ _ limit) (λ x. goes_if x (sc one text) (sc other text)))
    stmt_ok (StmtKind-F.Expires names body caught) n text =
        goes_then (goes_named names) (λ ts. goes_then (goes_open reads ts) (λ fine.
        goes_if fine (goes_then (order_ok body (Some ts)) (λ f. goes_end ts f (order_ok caught text))) (order_ok caught text)))
    stmt_ok (StmtKind-F.Declare i init) n text = goes_seq (goes_declared n (F + i) init) (goes_pure Normal)

  abbrev CS : StmtKind → Type 0
  CS k = (n : ℕ) (text : Text) → Goes w b (stmt_kind K R C F k n text) (stmt_kind K T D F k n text)

  pub goes_stmt_kind : (k : StmtKind) (n : ℕ) (text : Text) → Goes w b (stmt_kind K R C F k n text) (stmt_kind K T D F k n text)
  goes_stmt_kind = ind-StmtKind CS (λ g. ((group_meant K R C F (g)).labels ≡ (group_meant K T D F (g)).labels) × ((text : Text) → Goes w b ((group_meant K R C F (g)).act text) ((group_meant K T D F (g)).act text))) (λ s. (text : Text) → Goes w b (stmt K R C F s text) (stmt K T D F s text))
      (λ x y is. subst (λ (z : StmtKind-F StmtKind Group Stmt). CS (roll-StmtKind z)) is
      (λ n text. either (unrolled_stmt K R C F _) (unrolled_stmt K T D F _) n text (stmt_ok (λ k. k.0) (λ g. g.0) (λ s. s.0) (λ g. g.1) (λ s. s.1) y n text)))
      (λ x y is. subst (λ (z : Group-F StmtKind Group Stmt). ((group_meant K R C F (roll-Group z)).labels ≡ (group_meant K T D F (roll-Group z)).labels) × ((text : Text) → Goes w b ((group_meant K R C F (roll-Group z)).act text) ((group_meant K T D F (roll-Group z)).act text))) is
      (either_group (unrolled_group K R C F _) (unrolled_group K T D F _) (refl, order_all (λ s. s.0) (λ s. s.1) y.body)))
      (λ x y is. subst (λ (z : Stmt-F StmtKind Group Stmt). (text : Text) → Goes w b (stmt K R C F (roll-Stmt z) text) (stmt K T D F (roll-Stmt z) text)) is (λ text. y.kind.1 y.node text))

  pub goes_stmts : (ss : List Stmt) (text : Text) → Goes w b (stmts K R C F ss text) (stmts K T D F ss text)
  goes_stmts [] text = goes_pure Normal
  goes_stmts (s ∷ ss) text = goes_then (goes_stmt_kind s.kind s.node text) (λ f. goes_flow f (goes_stmts ss text))
