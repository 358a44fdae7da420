-- What a statement about time does, from a run.
use Rattle.std.proofs.Common.{◌≡◌, ℕ, Bool, true, false, cond, List, Option, Some, refl, rules, ap, sym, ◌∙◌}
use Rattle.base16.specs.declared.reading.Reading.{Reading}
use Rattle.core_tree.specs.declared.program.Core.{Core}
use Rattle.core_tree.specs.declared.expressions.Expr.{Expr}
use Rattle.core_tree.specs.declared.expressions.Place.{Place}
use Rattle.core_tree.specs.declared.statements.Stmt.{Stmt}
use Rattle.core_tree.specs.declared.statements.Group.{Group, fold-Group}
use Rattle.core_tree.specs.declared.statements.StmtKind.{StmtKind, roll-StmtKind, map-StmtKind, the_lemmas}
use Rattle.core_tree.specs.declared.statements.StmtKind.TheOpen.{StmtKind-F}
use Rattle.core_tree.specs.declared.statements.StmtKind.TheVariants as k
use Rattle.core_tree.specs.Layout.{kind_of}
use Rattle.c_run.specs.declared.timed.Timed.{Timed}
use Rattle.c_run.specs.Runs.{Run, Action, Outcome, Went, Stopped, and_then, ◌>>=◌, pure}
use Rattle.c_run.specs.Actions.{timely, open_block}
use Rattle.c_meaning.specs.Meaning.{Calls}
use Rattle.c_meaning.specs.Stamps.{timed_at}
use Rattle.c_meaning.specs.declared.flow.Flow.{Flow}
use Rattle.c_meaning.specs.declared.flow.Flow.TheVariants.{Normal, Break, Continue, Return, Caught}
use Rattle.c_meaning.specs.Statements.{Text, Step, Labelled, in_order, stmt_layer, run_place, stmt_kind, stmt, stmts, named, or_nothing, at_end, caught_unless}
use Rattle.c_exec.specs.Timing.{stamp, is_young, ends_fine, block}

-- three actions one after the other
once_more : {A B D : Type 0} (o : Outcome A) (f : A → Action B) (g : B → Action D) → and_then o (λ a r. and_then (f a r) g) ≡ and_then (and_then o f) g
once_more (Went a r) f g = refl
once_more (Stopped s) f g = refl

-- the end of a block, by whether something has expired
end_is : (R : List Reading) (ts : List Timed) (f : Flow) (other : Action Flow) (r : Run)
    → at_end R ts f other r ≡ and_then (ends_fine R ts f r) (λ fine. caught_unless fine other)
end_is R ts Normal other r = refl
end_is R ts Break other r = refl
end_is R ts Continue other r = refl
end_is R ts (Return v) other r = refl
end_is R ts Caught other r = refl

module _ (K : Core) (R : List Reading) (C : Calls) (F : ℕ) where
  stmt-Stamped : (p : Place) (e : Expr) (n : ℕ) (text : Text) → stmt_kind K R C F (k.Stamped p e) n text
      ≡ stamp K R C F n p e
  stmt-Stamped p e n text = search (rules, the_lemmas)

  stmt-Timely : (p : Place) (limit : ℕ) (one : Stmt) (other : Option Stmt) (n : ℕ) (text : Text) → stmt_kind K R C F (k.Timely p limit one other) n text
      ≡ run_place K R C F p >>= λ l. timely R n l (kind_of p.ty) (timed_at K l).stamp limit >>= λ x. cond x (stmt K R C F one text) (or_nothing (stmt K R C F) other text)
  stmt-Timely p limit one other n text = search (rules, the_lemmas)

  abbrev group_meant : Group → Labelled
  group_meant = fold-Group (ℕ → Step) Labelled Step (stmt_layer K R C F) (λ g. record { labels = g.labels; act = in_order g.body }) (λ s. s.kind s.node)

  unrolled : (z : StmtKind-F StmtKind Group Stmt) → stmt_kind K R C F (roll-StmtKind z)
      ≡ stmt_layer K R C F (map-StmtKind StmtKind Group Stmt (ℕ → Step) Labelled Step (stmt_kind K R C F) group_meant (stmt K R C F) z)
  unrolled z = search (rules, the_lemmas)

  rolled : (names : List Place) (inner caught : List Stmt) → roll-StmtKind (StmtKind-F.Expires names inner caught) ≡ k.Expires names inner caught
  rolled names inner caught = search (rules, the_lemmas)

  stmt-Expires : (names : List Place) (inner caught : List Stmt) (n : ℕ) (text : Text) → stmt_kind K R C F (k.Expires names inner caught) n text
      ≡ named K R C F names >>= λ ts. open_block R ts >>= λ is_open. cond is_open
      (stmts K R C F inner (Some ts) >>= λ f. at_end R ts f (stmts K R C F caught text)) (stmts K R C F caught text)
  stmt-Expires names inner caught n text =
      ap (λ (kind : StmtKind). stmt_kind K R C F kind n text) (sym (rolled names inner caught))
      ∙ ap (λ (act : ℕ → Step). act n text) (unrolled (StmtKind-F.Expires names inner caught))

pub stamped_is : (K : Core) (R : List Reading) (C : Calls) (F : ℕ) (s : Stmt) (p : Place) (e : Expr) (text : Text) (r : Run) → s.kind ≡ k.Stamped p e
    → stmt K R C F s text r ≡ stamp K R C F s.node p e r
stamped_is K R C F s p e text r is =
    ap (λ (kind : StmtKind). stmt_kind K R C F kind s.node text r) is ∙ ap (λ (act : Action Flow). act r) (stmt-Stamped K R C F p e s.node text)

pub timely_is : (K : Core) (R : List Reading) (C : Calls) (F : ℕ) (s : Stmt) (p : Place) (limit : ℕ) (one : Stmt) (other : Option Stmt) (text : Text) (r : Run)
    → s.kind ≡ k.Timely p limit one other
    → stmt K R C F s text r
    ≡ and_then (is_young K R C F s.node p limit r) (λ x. cond x (stmt K R C F one text) (or_nothing (stmt K R C F) other text))
timely_is K R C F s p limit one other text r is =
    ap (λ (kind : StmtKind). stmt_kind K R C F kind s.node text r) is
    ∙ ap (λ (act : Action Flow). act r) (stmt-Timely K R C F p limit one other s.node text)
    ∙ once_more (run_place K R C F p r) (λ l. timely R s.node l (kind_of p.ty) (timed_at K l).stamp limit)
    (λ x. cond x (stmt K R C F one text) (or_nothing (stmt K R C F) other text))

-- a block that is opened or not, and what follows it
opened : (R : List Reading) (ts : List Timed) (inner : Action Flow) (other : Action Flow) (is_open : Bool) (r : Run)
    → cond is_open (inner >>= λ f. at_end R ts f other) other r ≡ and_then (cond is_open (inner >>= ends_fine R ts) (pure false) r) (λ fine. caught_unless fine other)
opened R ts inner other false r = refl
opened R ts inner other true r =
    (λ i. and_then (inner r) (λ f t. end_is R ts f other t i)) ∙ once_more (inner r) (ends_fine R ts) (λ fine. caught_unless fine other)

opened_after : (R : List Reading) (ts : List Timed) (inner other : Action Flow) (o : Outcome Bool)
    → and_then o (λ is_open. cond is_open (inner >>= λ f. at_end R ts f other) other)
    ≡ and_then (and_then o (λ is_open. cond is_open (inner >>= ends_fine R ts) (pure false))) (λ fine. caught_unless fine other)
opened_after R ts inner other (Went x r) = opened R ts inner other x r
opened_after R ts inner other (Stopped s) = refl

named_after : (R : List Reading) (inner : List Timed → Action Flow) (other : Action Flow) (o : Outcome (List Timed))
    → and_then o (λ ts. open_block R ts >>= λ is_open. cond is_open (inner ts >>= λ f. at_end R ts f other) other)
    ≡ and_then (and_then o (λ ts. open_block R ts >>= λ is_open. cond is_open (inner ts >>= ends_fine R ts) (pure false))) (λ fine. caught_unless fine other)
named_after R inner other (Went ts r) = opened_after R ts (inner ts) other (open_block R ts r)
named_after R inner other (Stopped s) = refl

pub expires_is : (K : Core) (R : List Reading) (C : Calls) (F : ℕ) (s : Stmt) (names : List Place) (inner caught : List Stmt) (text : Text) (r : Run)
    → s.kind ≡ k.Expires names inner caught
    → stmt K R C F s text r ≡ and_then (block K R C F names inner r) (λ fine. caught_unless fine (stmts K R C F caught text))
expires_is K R C F s names inner caught text r is =
    ap (λ (kind : StmtKind). stmt_kind K R C F kind s.node text r) is
    ∙ ap (λ (act : Action Flow). act r) (stmt-Expires K R C F names inner caught s.node text)
    ∙ named_after R (λ ts. stmts K R C F inner (Some ts)) (stmts K R C F caught text) (named K R C F names r)
