-- What a switch does, and its groups one by one.
use Rattle.std.proofs.Common.{◌≡◌, ℕ, ◌+◌, ◌<◌, ℤ, Bool, true, false, cond, List, [], ◌∷◌, map, drop, length, get_or, Option, refl, rules, ap, sym, ◌∙◌, add-one, drop-cons}
use Rattle.base16.specs.declared.reading.Reading.{Reading}
use Rattle.core_tree.specs.declared.program.Core.{Core}
use Rattle.core_tree.specs.declared.expressions.Expr.{Expr}
use Rattle.core_tree.specs.declared.statements.Stmt.{Stmt}
use Rattle.core_tree.specs.declared.statements.Group.{Group, fold-Group, out-Group}
use Rattle.core_tree.specs.declared.statements.Group as the_group
use Rattle.core_tree.specs.declared.statements.StmtKind.{StmtKind, the_lemmas}
use Rattle.core_tree.specs.declared.statements.StmtKind.TheVariants as k
use Rattle.c_run.specs.Runs.{Run, Action, and_then, ◌>>=◌, pure}
use Rattle.c_meaning.specs.Meaning.{Calls}
use Rattle.c_meaning.specs.declared.flow.Flow.{Flow}
use Rattle.c_meaning.specs.Statements.{Text, Step, Labelled, in_order, then_flow, acts, selected, from_group, or_default, has_case, has_default, broken_out, stmt_layer, stmt_kind, stmt}
use Rattle.c_exec.specs.Groups.{groups_from, chosen}
use Rattle.c_exec.specs.Groups as of
use Rattle.c_exec.specs.Switching.{switch_number, group, groups, switched}

abbrev labelled : (Group → Step) → Group → Labelled
labelled act g = record { labels = (out-Group g).labels; act = act g }

-- the groups that are chosen are those that the definition selects
labelled_if : (act : Group → Step) (b : Bool) (g : Group) (gs found : List Group) (all : List Labelled) → all ≡ map (labelled act) found
    → cond b (map (labelled act) (g ∷ gs)) all ≡ map (labelled act) (cond b (g ∷ gs) found)
labelled_if act true g gs found all e = refl
labelled_if act false g gs found all e = e

from_labelled : (act : Group → Step) (p : List (Option ℤ) → Bool) (gs : List Group)
    → from_group p (map (labelled act) gs) ≡ map (labelled act) (groups_from p gs)
from_labelled act p [] = refl
from_labelled act p (g ∷ gs) = labelled_if act (p (out-Group g).labels) g gs (groups_from p gs) _ (from_labelled act p gs)

or_labelled : (act : Group → Step) (found gs : List Group)
    → or_default (map (labelled act) found) (map (labelled act) gs) ≡ map (labelled act) (of.or_default found gs)
or_labelled act [] gs = from_labelled act has_default gs
or_labelled act (g ∷ more) gs = refl

acts_labelled : (act : Group → Step) (gs : List Group) → acts (map (labelled act) gs) ≡ map act gs
acts_labelled act [] = refl
acts_labelled act (g ∷ gs) = ap (λ (ss : List Step). act g ∷ ss) (acts_labelled act gs)

selected_is : (act : Group → Step) (v : ℤ) (gs : List Group) → selected v (map (labelled act) gs) ≡ map act (chosen v gs)
selected_is act v gs =
    ap (λ (found : List Labelled). acts (or_default found (map (labelled act) gs))) (from_labelled act (has_case v) gs)
    ∙ ap acts (or_labelled act (groups_from (has_case v) gs) gs)
    ∙ acts_labelled act (chosen v gs)

module _ (K : Core) (R : List Reading) (C : Calls) (F : ℕ) where
  abbrev group_meant : Group → Labelled
  group_meant = fold-Group (ℕ → Step) Labelled Step (stmt_layer K R C F) (λ g. record { labels = g.labels; act = in_order g.body }) (λ s. s.kind s.node)

  group_is : (g : Group) → group_meant g ≡ labelled (group K R C F) g
  group_is g = search (rules, the_group.the_lemmas)

  groups_are : (gs : List Group) → map group_meant gs ≡ map (labelled (group K R C F)) gs
  groups_are [] = refl
  groups_are (g ∷ gs) = cc (group_is g, groups_are gs)

  switch_folded : (on : Expr) (gs : List Group) (n : ℕ) (text : Text) → stmt_kind K R C F (k.Switch on gs) n text
      ≡ switch_number K R C F n on >>= λ z. in_order (selected z (map group_meant gs)) text >>= λ f. pure (broken_out f)
  switch_folded on gs n text = search (rules, the_lemmas)

  chosen_run : (z : ℤ) (gs : List Group) → in_order (selected z (map group_meant gs)) ≡ groups K R C F (chosen z gs)
  chosen_run z gs = ap (λ (ls : List Labelled). in_order (selected z ls)) (groups_are gs) ∙ ap in_order (selected_is (group K R C F) z gs)

  stmt-Switch : (on : Expr) (gs : List Group) (n : ℕ) (text : Text) → stmt_kind K R C F (k.Switch on gs) n text ≡ switched K R C F n on gs text
  stmt-Switch on gs n text =
      switch_folded on gs n text ∙ (λ i. switch_number K R C F n on >>= λ z. (chosen_run z gs i) text >>= λ f. pure (broken_out f))

pub switch_is : (K : Core) (R : List Reading) (C : Calls) (F : ℕ) (s : Stmt) (on : Expr) (gs : List Group) (text : Text) (r : Run) → s.kind ≡ k.Switch on gs
    → stmt K R C F s text r ≡ switched K R C F s.node on gs text r
switch_is K R C F s on gs text r is =
    ap (λ (kind : StmtKind). stmt_kind K R C F kind s.node text r) is ∙ ap (λ (act : Action Flow). act r) (stmt-Switch K R C F on gs s.node text)

pub groups_turn : (K : Core) (R : List Reading) (C : Calls) (F : ℕ) (gs : List Group) (i : ℕ) (g : Group) (text : Text) (r : Run) → i < length gs → g ≡ get_or gs i g
    → groups K R C F (drop i gs) text r
    ≡ and_then (group K R C F g text r) (λ f. then_flow f (groups K R C F (drop (i + 1) gs) text))
groups_turn K R C F gs i g text r h is =
    let cut : drop i gs ≡ g ∷ drop (i + 1) gs =
    rw (add-one) (drop-cons gs i g h) ∙ ap (λ (x : Group). x ∷ drop (i + 1) gs) (sym is) in
    ap (λ (xs : List Group). groups K R C F xs text r) cut
