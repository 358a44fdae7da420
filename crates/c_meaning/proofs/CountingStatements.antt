-- Every statement and every call conserves marks; so a run that stops at the mark asked for has made exactly so many.
use Rattle.std.proofs.Common.{◌≡◌, ℕ, zero, suc, ◌+◌, ℤ, Bool, true, false, cond, List, [], ◌∷◌, map, Option, Some, None, subst, sym, ap, ◌∙◌, rules, arith}
use Rattle.std.specs.Prelude.{slice_get}
use Rattle.base16.specs.declared.reading.Reading.{Reading}
use Rattle.core_tree.specs.declared.program.Core.{Core}
use Rattle.core_tree.specs.declared.program.Function.{Function}
use Rattle.core_tree.specs.declared.expressions.Expr.{Expr}
use Rattle.core_tree.specs.declared.expressions.Place.{Place}
use Rattle.core_tree.specs.declared.statements.Init.{Init}
use Rattle.core_tree.specs.declared.statements.Group.{Group, Group-F, roll-Group, fold-Group}
use Rattle.core_tree.specs.declared.statements.Group as group
use Rattle.core_tree.specs.declared.statements.Stmt.{Stmt, Stmt-F, roll-Stmt}
use Rattle.core_tree.specs.declared.statements.StmtKind.{StmtKind, roll-StmtKind, map-StmtKind, ind-StmtKind, the_lemmas}
use Rattle.core_tree.specs.declared.statements.StmtKind.TheOpen.{StmtKind-F}
use Rattle.c_values.specs.declared.value.Value.{Value}
use Rattle.c_values.specs.declared.state.State.{State}
use Rattle.c_run.specs.Runs.{Outcome, Live, Action, Wrong}
use Rattle.c_run.specs.declared.timed.Timed.{Timed}
use Rattle.c_run.specs.Actions.{finish}
use Rattle.c_run.proofs.Counting.{Counts, went, live, over, IsOver, Counting, counting_then, counting_seq, counting_pure, counting_stop, counting_mark, counting_if, counting_given, counting_asked, counting_store, counting_stamped, counting_timely, counting_open, counting_check, counting_close, counting_cleared, counting_enter, counting_leave, counting_params}
use Rattle.c_meaning.specs.declared.flow.Flow.{Flow}
use Rattle.c_meaning.specs.declared.flow.Flow.TheVariants.{Normal, Break, Continue, Return, Caught}
use Rattle.c_meaning.specs.Meaning.{Calls}
use Rattle.c_meaning.specs.Statements.{Text, Step, Labelled, has_case, has_default, from_group, acts, or_default, selected, in_order, then_flow, after_body, turn, turns, loop, at_end, init_value, initialised, declared, named, loop_test, loop_step, stmt_layer, stmt_kind, stmt, stmts, run_test}
use Rattle.c_meaning.specs.After.{start, body, called, calls, main_in, main_run, main_of, start_run, stop_of, stop_at}
use Rattle.c_meaning.proofs.CountingTree.{counting_expr, counting_place}

counting_flow : (f : Flow) (p : Action Flow) → Counting p → Counting (then_flow f p)
counting_flow Normal p h = h
counting_flow Break p h = counting_pure _
counting_flow Continue p h = counting_pure _
counting_flow (Return v) p h = counting_pure _
counting_flow Caught p h = counting_pure _

counting_after : (f : Flow) (p : Action Flow) → Counting p → Counting (after_body f p)
counting_after Normal p h = h
counting_after Continue p h = h
counting_after Break p h = counting_pure _
counting_after (Return v) p h = counting_pure _
counting_after Caught p h = counting_pure _

counting_turn : (R : List Reading) (text : Text) → Counting (turn R text)
counting_turn R None = counting_seq _ _ counting_mark (counting_pure true)
counting_turn R (Some names) = counting_check R names

module _ (R : List Reading) (text : Text) (test : Action Bool) (body : Action Flow) (step : Action (Unit {0}))
    (ct : Counting test) (cb : Counting body) (cs : Counting step) where
  counting_turns : (n : ℕ) → Counting (turns R text test body step n)
  unfolding turns
  counting_turns zero = counting_stop Wrong tt
  counting_turns (suc n) =
      counting_then _ _ (counting_turn R text) (λ fine. counting_if fine _ _
      (counting_then _ _ ct (λ more. counting_if more _ _ (counting_then _ _ cb (λ f. counting_after f _ (counting_seq _ _ cs (counting_turns n)))) (counting_pure Normal)))
      (counting_pure Caught))

  pub counting_loop : Counting (loop R text test body step)
  unfolding loop
  counting_loop = λ r. counting_turns (suc r.left) r

module _ (K : Core) (R : List Reading) (C : Calls) (F : ℕ) (cc_ : (f : ℕ) (vs : List Value) → Counting (C f vs)) where
  counting_test : (node : ℕ) (e : Expr) → Counting (run_test K R C F node e)
  counting_test node e = counting_then _ _ (counting_expr K.structs R C F cc_ e) (λ v. counting_asked node _)

  counting_loop_test : (node : ℕ) (e : Option Expr) → Counting (loop_test K R C F node e)
  counting_loop_test node None = counting_pure true
  counting_loop_test node (Some e) = counting_test node e

  counting_loop_step : (e : Option Expr) → Counting (loop_step K R C F e)
  counting_loop_step None = counting_pure tt
  counting_loop_step (Some e) = counting_then _ _ (counting_expr K.structs R C F cc_ e) (λ v. counting_pure tt)

  counting_init : (e : Option Expr) → Counting (init_value K R C F e)
  counting_init None = counting_pure None
  counting_init (Some e) = counting_then _ _ (counting_expr K.structs R C F cc_ e) (λ v. counting_pure (Some v))

  counting_initialised : (node n : ℕ) (is : List Init) → Counting (initialised K R C F node n is)
  counting_initialised node n [] = counting_pure tt
  counting_initialised node n (i ∷ is) =
      counting_then _ _ (counting_init i.value) (λ v. counting_then _ _ (counting_asked node _) (λ k.
      counting_seq _ _ (counting_store node _ k _ i.marked) (counting_initialised node n is)))

  counting_declared : (node n : ℕ) (is : List Init) → Counting (declared K R C F node n is)
  counting_declared node n [] = counting_cleared n
  counting_declared node n (i ∷ is) = counting_initialised node n (i ∷ is)

  counting_named : (ps : List Place) → Counting (named K R C F ps)
  counting_named [] = counting_pure []
  counting_named (p ∷ ps) = counting_then _ _ (counting_place K.structs R C F cc_ p) (λ l. counting_then _ _ (counting_named ps) (λ ts. counting_pure _))

  -- the groups of a switch
  abbrev AllCount : List Labelled → Type 0
  AllCount [] = Unit {0}
  AllCount (g ∷ gs) = ((text : Text) → Counting (g.act text)) × AllCount gs

  from_if : (b : Bool) (gs hs : List Labelled) → AllCount gs → AllCount hs → AllCount (cond b gs hs)
  from_if true gs hs h i = h
  from_if false gs hs h i = i

  from_count : (p : List (Option ℤ) → Bool) (gs : List Labelled) → AllCount gs → AllCount (from_group p gs)
  from_count p [] h = tt
  from_count p (g ∷ gs) h = from_if (p g.labels) (g ∷ gs) (from_group p gs) h (from_count p gs h.1)

  acts_count : (gs : List Labelled) (text : Text) → AllCount gs → Counting (in_order (acts gs) text)
  acts_count [] text h = counting_pure Normal
  acts_count (g ∷ gs) text h = counting_then _ _ (h.0 text) (λ f. counting_flow f _ (acts_count gs text h.1))

  default_count : (found gs : List Labelled) → AllCount found → AllCount gs → AllCount (or_default found gs)
  default_count [] gs h i = from_count has_default gs i
  default_count (g ∷ found) gs h i = h

  selected_count : (z : ℤ) (gs : List Labelled) (text : Text) → AllCount gs → Counting (in_order (selected z gs) text)
  selected_count z gs text h = acts_count _ text (default_count _ gs (from_count (has_case z) gs h) h)

  abbrev group_meant : Group → Labelled
  group_meant = fold-Group (ℕ → Step) Labelled Step (stmt_layer K R C F) (λ g. record { labels = g.labels; act = in_order g.body }) (λ s. s.kind s.node)

  counting_end : (ts : List Timed) (f : Flow) (other : Action Flow) → Counting other → Counting (at_end R ts f other)
  counting_end ts Caught other h = h
  counting_end ts Normal other h = counting_then _ _ (counting_close R ts) (λ fine. counting_if fine _ _ (counting_pure Normal) h)
  counting_end ts Break other h = counting_then _ _ (counting_close R ts) (λ fine. counting_if fine _ _ (counting_pure Normal) h)
  counting_end ts Continue other h = counting_then _ _ (counting_close R ts) (λ fine. counting_if fine _ _ (counting_pure Normal) h)
  counting_end ts (Return v) other h = counting_then _ _ (counting_close R ts) (λ fine. counting_if fine _ _ (counting_pure Normal) h)

  order_all : {SS : Type 0} (s0 : SS → Stmt) → ((s : SS) (text : Text) → Counting (stmt K R C F (s0 s) text)) → (ss : List SS) (text : Text)
      → Counting (in_order (map (stmt K R C F) (map s0 ss)) text)
  order_all s0 sc [] text = counting_pure Normal
  order_all s0 sc (s ∷ ss) text = counting_then _ _ (sc s text) (λ f. counting_flow f _ (order_all s0 sc ss text))

  module _ {KK GG SS : Type 0} (k0 : KK → StmtKind) (g0 : GG → Group) (s0 : SS → Stmt)
      (gc : (g : GG) (text : Text) → Counting ((group_meant (g0 g)).act text)) (sc : (s : SS) (text : Text) → Counting (stmt K R C F (s0 s) text)) where
    order_ok : (ss : List SS) (text : Text) → Counting (in_order (map (stmt K R C F) (map s0 ss)) text)
    order_ok ss text = order_all s0 sc ss text

    groups_ok : (gs : List GG) → AllCount (map group_meant (map g0 gs))
    groups_ok [] = tt
    groups_ok (g ∷ gs) = (gc g, groups_ok gs)

    stmt_ok : (y : StmtKind-F KK GG SS) (n : ℕ) (text : Text)
        → Counting (stmt_layer K R C F (map-StmtKind StmtKind Group Stmt (ℕ → Step) Labelled Step (stmt_kind K R C F) group_meant (stmt K R C F) (map-StmtKind KK GG SS StmtKind Group Stmt k0 g0 s0 y)) n text)
    stmt_ok (StmtKind-F.Expr e) n text = counting_seq _ _ (counting_expr K.structs R C F cc_ e) (counting_pure Normal)
    stmt_ok (StmtKind-F.Block all) n text = order_ok all text
    stmt_ok (StmtKind-F.If t one None) n text = counting_then _ _ (counting_test n t) (λ x. counting_if x _ _ (sc one text) (counting_pure Normal))
    stmt_ok (StmtKind-F.If t one (Some other)) n text = counting_then _ _ (counting_test n t) (λ x. counting_if x _ _ (sc one text) (sc other text))
    stmt_ok (StmtKind-F.While t body) n text = counting_loop R text _ _ _ (counting_test n t) (sc body text) (counting_pure tt)
    stmt_ok (StmtKind-F.Do body t) n text =
        counting_then _ _ (sc body text) (λ f. counting_after f _ (counting_loop R text _ _ _ (counting_test n t) (sc body text) (counting_pure tt)))
    stmt_ok (StmtKind-F.For None t step body) n text =
        counting_then _ _ (counting_pure Normal) (λ f. counting_flow f _ (counting_loop R text _ _ _ (counting_loop_test n t) (sc body text) (counting_loop_step step)))
    stmt_ok (StmtKind-F.For (Some begin) t step body) n text =
        counting_then _ _ (sc begin text) (λ f. counting_flow f _ (counting_loop R text _ _ _ (counting_loop_test n t) (sc body text) (counting_loop_step step)))
    stmt_ok (StmtKind-F.Switch on groups) n text =
        counting_then _ _ (counting_expr K.structs R C F cc_ on) (λ v. counting_then _ _ (counting_given n _) (λ z.
        counting_then _ _ (selected_count z _ text (groups_ok groups)) (λ f. counting_pure _)))
    stmt_ok StmtKind-F.Break n text = counting_pure _
    stmt_ok StmtKind-F.Continue n text = counting_pure _
    stmt_ok (StmtKind-F.Return None) n text = counting_pure _
    stmt_ok (StmtKind-F.Return (Some e)) n text = counting_then _ _ (counting_expr K.structs R C F cc_ e) (λ v. counting_then _ _ (counting_given n _) (λ w. counting_pure _))
    stmt_ok (StmtKind-F.Stamped p e) n text =
        counting_then _ _ (counting_place K.structs R C F cc_ p) (λ l. counting_then _ _ (counting_expr K.structs R C F cc_ e) (λ v.
        counting_seq _ _ (counting_stamped R n l _ _ v) (counting_pure Normal)))
    stmt_ok (StmtKind-F.Timely p limit one None) n text =
        counting_then _ _ (counting_place K.structs R C F cc_ p) (λ l. counting_then _ _ (counting_timely R n l _ _ limit) (λ x. counting_if x _ _ (sc one text) (counting_pure Normal)))
    stmt_ok (StmtKind-F.Timely p limit one (Some other)) n text =
        counting_then _ _ (counting_place K.structs R C F cc_ p) (λ l. counting_then _ _ (counting_timely R n l _ _ limit) (λ x. counting_if x _ _ (sc one text) (sc other text)))
    stmt_ok (StmtKind-F.Expires names body caught) n text =
        counting_then _ _ (counting_named names) (λ ts. counting_then _ _ (counting_open R ts) (λ fine.
        counting_if fine _ _ (counting_then _ _ (order_ok body (Some ts)) (λ f. counting_end ts f _ (order_ok caught text))) (order_ok caught text)))
    stmt_ok (StmtKind-F.Declare i init) n text = counting_seq _ _ (counting_declared n (F + i) init) (counting_pure Normal)

  unrolled_stmt : (z : StmtKind-F StmtKind Group Stmt) → stmt_kind K R C F (roll-StmtKind z)
      ≡ stmt_layer K R C F (map-StmtKind StmtKind Group Stmt (ℕ → Step) Labelled Step (stmt_kind K R C F) group_meant (stmt K R C F) z)
  unrolled_stmt z = search (rules, the_lemmas)

  unrolled_group : (z : Group-F StmtKind Group Stmt) → group_meant (roll-Group z) ≡ record { labels = z.labels; act = in_order (map (stmt K R C F) z.body) }
  unrolled_group z = search (rules, group.the_lemmas)

  abbrev CS : StmtKind → Type 0
  CS k = (n : ℕ) (text : Text) → Counting (stmt_kind K R C F k n text)

  pub counting_stmt_kind : (k : StmtKind) (n : ℕ) (text : Text) → Counting (stmt_kind K R C F k n text)
  counting_stmt_kind = ind-StmtKind CS (λ g. (text : Text) → Counting ((group_meant g).act text)) (λ s. (text : Text) → Counting (stmt K R C F s text))
      (λ x y is. subst (λ (z : StmtKind-F StmtKind Group Stmt). CS (roll-StmtKind z)) is
      (λ n text. subst (λ (a : ℕ → Step). Counting (a n text)) (sym (unrolled_stmt _)) (stmt_ok (λ k. k.0) (λ g. g.0) (λ s. s.0) (λ g. g.1) (λ s. s.1) y n text)))
      (λ x y is. subst (λ (z : Group-F StmtKind Group Stmt). (text : Text) → Counting ((group_meant (roll-Group z)).act text)) is
      (λ text. subst (λ (g : Labelled). Counting (g.act text)) (sym (unrolled_group _)) (order_all (λ s. s.0) (λ s. s.1) y.body text)))
      (λ x y is. subst (λ (z : Stmt-F StmtKind Group Stmt). (text : Text) → Counting (stmt K R C F (roll-Stmt z) text)) is (λ text. y.kind.1 y.node text))

  pub counting_stmts : (ss : List Stmt) (text : Text) → Counting (stmts K R C F ss text)
  counting_stmts [] text = counting_pure Normal
  counting_stmts (s ∷ ss) text = counting_then _ _ (counting_stmt_kind s.kind s.node text) (λ f. counting_flow f _ (counting_stmts ss text))

module _ (K : Core) (R : List Reading) where
  pub counting_body : (C : Calls) → ((f : ℕ) (vs : List Value) → Counting (C f vs)) → (f : Function) (args : List Value) (first : ℕ) → Counting (body K R C f args first)
  unfolding body
  counting_body C h f args first = counting_seq _ _ (counting_params first _ args) (counting_stmts K R C first h f.body None)

  counting_called : (C : Calls) → ((f : ℕ) (vs : List Value) → Counting (C f vs)) → (n : ℕ) (o : Option Function) (args : List Value) → Counting (called K R C n o args)
  unfolding called
  counting_called C h n None args = counting_stop Wrong tt
  counting_called C h n (Some f) args =
      counting_then _ _ (counting_enter n _ _) (λ first. counting_then _ _ (counting_body C h f args first) (λ flow. counting_seq _ _ counting_leave (counting_pure _)))

  pub counting_calls : (depth n : ℕ) (args : List Value) → Counting (calls K R depth n args)
  unfolding calls
  counting_calls zero n args = counting_stop Wrong tt
  counting_calls (suc depth) n args = counting_called (calls K R depth) (counting_calls depth) n (slice_get K.functions n) args

  counting_finish : Counting (finish {A = Unit {0}})
  unfolding finish
  counting_finish = λ r. over tt

  counting_main_in : (n : ℕ) (o : Option Function) → Counting (main_in K R n o)
  unfolding main_in
  counting_main_in n None = counting_stop Wrong tt
  counting_main_in n (Some f) =
      counting_then _ _ (counting_enter n _ _) (λ first.
      counting_seq _ _ (λ r. counting_body (calls K R (suc r.left)) (counting_calls (suc r.left)) f [] first r) counting_finish)

  counting_main : (o : Option ℕ) → Counting (main_run K R o)
  unfolding main_run
  counting_main None = counting_stop Wrong tt
  counting_main (Some n) = counting_main_in n (slice_get K.functions n)

  live_count : (all left : ℕ) (o : Outcome (Unit {0})) (st : State) (u : ℕ) → Counts all left o → stop_of K R o ≡ Live st u → st.marks ≡ all + 1
  live_count all left o st u (went e l) is = cc
  live_count all left o st u (live {s} e) is = let same : s ≡ st = cc in ap (λ (x : State). x.marks) (sym same) ∙ e
  live_count all left o st u (over h) is = absurd (subst IsOver is h)

  -- a run that stops just after the mark asked for has made exactly so many
  pub live_marks : (s : ℕ) (st : State) (used : ℕ) → stop_at K R s ≡ Live st used → st.marks ≡ s
  unfolding stop_at start
  live_marks zero st used is = let same : start K ≡ st = cc in ap (λ (x : State). x.marks) (sym same)
  live_marks (suc n) st used is =
      omega (arith, live_count (0 + n) n (main_run K R (main_of K) (start_run K R n)) st used (counting_main (main_of K) (start_run K R n)) is)
