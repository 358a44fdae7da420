-- What a text spells fits but for what it calls: statements.
use Rattle.std.proofs.Common.{◌≡◌, ℕ, nat_le, suc, Bool, true, ◌&&◌, List, ◌∷◌, map, length, Option, Some, None, refl, ap, ◌∙◌, rules, arith}
use Rattle.std.proofs.lemmas.Bool.{le-leb}
use Rattle.c_tree.specs.declared.declarations.Declaration.{Declaration}
use Rattle.c_tree.specs.declared.declarations.Duration.{Duration}
use Rattle.c_tree.specs.declared.expression.Expr.{Expr}
use Rattle.c_tree.specs.declared.statements.Tname.{Tname}
use Rattle.c_tree.specs.declared.statements.Label.{Label}
use Rattle.c_tree.specs.declared.statements.First.{First}
use Rattle.c_tree.specs.declared.statements.BlockItem.{BlockItem, fold-BlockItem}
use Rattle.c_tree.specs.declared.statements.BlockItem.TheVariants as item
use Rattle.c_tree.specs.declared.statements.BlockItem.TheOpen.{BlockItem-F, StatementKind-F}
use Rattle.c_tree.specs.declared.statements.StatementKind.{StatementKind, fold-StatementKind, the_lemmas}
use Rattle.c_tree.specs.declared.statements.StatementKind.TheVariants as k
use Rattle.c_tree.specs.declared.statements.Statement.{Statement}
use Rattle.c_tree.specs.declared.statements.Compound.{Compound, Compound-F, fold-Compound, the_lemmas as compound_lemmas}
use Rattle.c_tree.specs.declared.statements.Group.{Group, Group-F, fold-Group, the_lemmas as group_lemmas}
use Rattle.c_parse_expr.specs.TypeWords.{Tokens}
use Rattle.c_parse_stmt.specs.Statements.{compound, group, SpellsOptional, SpellsTest, NamesTimed, Labels, SpellsFirst, States, Forms, SpellsLimit, Composes, SpellsItems, IsItem, SpellsGroups, IsGroup, RunsOn}
use Rattle.c_checking_laws.specs.Fitting as fitting
use Rattle.c_checking_laws.specs.Fitting.{if_there, expr_fits, inits_fit, Placed, first_fits, all_placed, group_step, statement_fits, block_item_fits, compound_fits}
use Rattle.c_fitting_laws.specs.Spelled.{InRange, any}
use Rattle.c_fitting_laws.proofs.ExprCalls.{both_are}
use Rattle.c_fitting_laws.proofs.Rests.{commas_rest, many_rest}
use Rattle.c_fitting_laws.proofs.ExprTexts.{fit, spells_fit}
use Rattle.c_fitting_laws.proofs.DeclarationTexts.{lasts_rest, declaration_fit}

-- ---- whether each kind fits

abbrev P : Type 0
P = Placed any

abbrev group_fits : Group → P
group_fits = fold-Group P P P P P (fitting.item_step any) (fitting.statement_step any)
    (λ c. all_placed any c.items) (λ g. group_step any g.labels g.statements) (λ x. x.kind)

abbrev fits_of : Statement → P
fits_of s = statement_fits any s.kind

-- for any steps, which do not compute
module _ (item_by : BlockItem-F P P P P P → P) (step : StatementKind-F P P P P P → P) (compound_by : Compound-F P P P P P → P)
    (group_by : Group-F P P P P P → P) where
  abbrev kind : StatementKind → P
  kind = fold-StatementKind P P P P P item_by step compound_by group_by (λ x. x.kind)

  abbrev body : Compound → P
  body = fold-Compound P P P P P item_by step compound_by group_by (λ x. x.kind)

  abbrev of_group : Group → P
  of_group = fold-Group P P P P P item_by step compound_by group_by (λ x. x.kind)

  abbrev of_item : BlockItem → P
  of_item = fold-BlockItem P P P P P item_by step compound_by group_by (λ x. x.kind)

  by-Compound : (c : Compound) → kind (k.Compound c) ≡ step (StatementKind-F.Compound (body c))
  by-Compound c = search (rules, the_lemmas)

  by-Expr : (e : Option Expr) → kind (k.Expr e) ≡ step (StatementKind-F.Expr e)
  by-Expr e = search (rules, the_lemmas)

  by-If : (e : Expr) (y : Statement) → kind (k.If e y None) ≡ step (StatementKind-F.If e (kind y.kind) None)
  by-If e y = search (rules, the_lemmas)

  by-If_else : (e : Expr) (y n : Statement)
      → kind (k.If e y (Some n)) ≡ step (StatementKind-F.If e (kind y.kind) (Some (kind n.kind)))
  by-If_else e y n = search (rules, the_lemmas)

  by-While : (e : Expr) (y : Statement) → kind (k.While e y) ≡ step (StatementKind-F.While e (kind y.kind))
  by-While e y = search (rules, the_lemmas)

  by-Do : (y : Statement) (e : Expr) → kind (k.Do y e) ≡ step (StatementKind-F.Do (kind y.kind) e)
  by-Do y e = search (rules, the_lemmas)

  by-For : (x : First) (e s : Option Expr) (y : Statement) → kind (k.For x e s y) ≡ step (StatementKind-F.For x e s (kind y.kind))
  by-For x e s y = search (rules, the_lemmas)

  by-Switch : (e : Expr) (gs : List Group) → kind (k.Switch e gs) ≡ step (StatementKind-F.Switch e (map of_group gs))
  by-Switch e gs = search (rules, the_lemmas)

  by-Break : kind k.Break ≡ step StatementKind-F.Break
  by-Break = search (rules, the_lemmas)

  by-Continue : kind k.Continue ≡ step StatementKind-F.Continue
  by-Continue = search (rules, the_lemmas)

  by-Return : (e : Option Expr) → kind (k.Return e) ≡ step (StatementKind-F.Return e)
  by-Return e = search (rules, the_lemmas)

  by-Stamped : (a b : Expr) → kind (k.Stamped a b) ≡ step (StatementKind-F.Stamped a b)
  by-Stamped a b = search (rules, the_lemmas)

  by-Timely : (e : Expr) (l : Duration) (y : Statement)
      → kind (k.Timely e l y None) ≡ step (StatementKind-F.Timely e l (kind y.kind) None)
  by-Timely e l y = search (rules, the_lemmas)

  by-Timely_else : (e : Expr) (l : Duration) (y n : Statement)
      → kind (k.Timely e l y (Some n)) ≡ step (StatementKind-F.Timely e l (kind y.kind) (Some (kind n.kind)))
  by-Timely_else e l y n = search (rules, the_lemmas)

  by-Expires : (ns : List Tname) (b c : Compound)
      → kind (k.Expires ns b c) ≡ step (StatementKind-F.Expires ns (body b) (body c))
  by-Expires ns b c = search (rules, the_lemmas)

  by-Items : (items : List BlockItem) → body (compound items) ≡ compound_by (record { items = map of_item items })
  by-Items items = search (rules, compound_lemmas)

  by-Group : (labels : List Label) (ys : List Statement)
      → of_group (group labels ys) ≡ group_by (record { labels = labels; statements = map (λ y. kind y.kind) ys })
  by-Group labels ys = search (rules, group_lemmas)

  by-Declaration : (d : Declaration) → of_item (item.Declaration d) ≡ item_by (BlockItem-F.Declaration d)
  by-Declaration d = search (rules, the_lemmas)

  by-Statement : (y : Statement) → of_item (item.Statement y) ≡ item_by (BlockItem-F.Statement (kind y.kind))
  by-Statement y = search (rules, the_lemmas)

abbrev items_step : Compound-F P P P P P → P
items_step c = all_placed any c.items

abbrev groups_step : Group-F P P P P P → P
groups_step g = group_step any g.labels g.statements

-- a part that is these parts, where it may stand
at : (b c : Bool) (p q : P) → p ≡ q → q b c ≡ true → p b c ≡ true
at b c p q is h = ap (λ (f : P). f b c) is ∙ h

-- ---- parts without statements

optional_fit : {e : Option Expr} {ts rest : Tokens} → SpellsOptional e ts rest → InRange ts
    → (if_there (expr_fits any) e ≡ true) × InRange rest
optional_fit SpellsOptional.absent in_range = (refl, in_range)
optional_fit (SpellsOptional.given s) in_range = spells_fit s in_range

test_fit : {e : Expr} {ts rest : Tokens} → SpellsTest e ts rest → InRange ts → (fit e ≡ true) × InRange rest
test_fit (SpellsTest.tested is s close) in_range = let w = spells_fit s in_range.1 in (w.0, w.1.1)

timed_rest : (x : Tname) (ts rest : Tokens) → NamesTimed x ts rest → InRange ts → InRange rest
timed_rest x ts rest (NamesTimed.plain is) in_range = in_range.1
timed_rest x ts rest (NamesTimed.indexed is opened s b close) in_range = (spells_fit s in_range.1.1).1.1

label_rest : (x : Label) (ts rest : Tokens) → Labels x ts rest → InRange ts → InRange rest
label_rest x ts rest (Labels.case_of is s b colon) in_range = (spells_fit s in_range.1).1.1
label_rest x ts rest (Labels.default is colon) in_range = in_range.1.1

first_fit : {x : First} {ts rest : Tokens} → SpellsFirst x ts rest → InRange ts → (first_fits any x ≡ true) × InRange rest
first_fit (SpellsFirst.by_expr s is) in_range = let w = optional_fit s in_range in (w.0, w.1.1)
first_fit (SpellsFirst.by_declaration a) in_range = declaration_fit a in_range

limit_rest : {e : Expr} {l : Duration} {ts rest : Tokens} → SpellsLimit e l ts rest → InRange ts → InRange rest
limit_rest (SpellsLimit.timed opened s b comma l close) in_range = (lasts_rest l (spells_fit s in_range.1).1.1).1

pub one_or_more : (n : ℕ) → nat_le 1 (suc n) ≡ true
one_or_more n = le-leb 1 (suc n) (omega arith)

-- ---- the induction

mutual
  states_fit : {b c : Bool} {y : Statement} {ts rest : Tokens} → States b c y ts rest → InRange ts
      → (fits_of y b c ≡ true) × InRange rest
  states_fit (States.states f) in_range = forms_fit f in_range

  forms_fit : {b c : Bool} {kind : StatementKind} {ts rest : Tokens} → Forms b c kind ts rest → InRange ts
      → (statement_fits any kind b c ≡ true) × InRange rest
  forms_fit (Forms.a_compound {b} {c} {body = x} s) in_range =
      let w = composes_fit s in_range in
      (at b c _ _ (by-Compound (fitting.item_step any) (fitting.statement_step any) items_step groups_step x) w.0, w.1)
  forms_fit (Forms.expression {b} {c} {e} s is) in_range =
      let w = optional_fit s in_range in
      (at b c _ _ (by-Expr (fitting.item_step any) (fitting.statement_step any) items_step groups_step e) w.0, w.1.1)
  forms_fit (Forms.if_alone {b} {c} {e} {y} is t s last) in_range =
      let w = test_fit t in_range.1 in
      let v = states_fit s w.1 in (
        at b c _ _ (by-If (fitting.item_step any) (fitting.statement_step any) items_step groups_step e y)
            (both_are (fit e) (fits_of y b c && true) w.0 (both_are (fits_of y b c) true v.0 refl)),
        v.1,
      )
  forms_fit (Forms.if_else {b} {c} {e} {y} {n} is t s too o) in_range =
      let w = test_fit t in_range.1 in
      let v = states_fit s w.1 in
      let u = states_fit o v.1.1 in (
        at b c _ _ (by-If_else (fitting.item_step any) (fitting.statement_step any) items_step groups_step e y n)
            (both_are (fit e) (fits_of y b c && fits_of n b c) w.0 (both_are (fits_of y b c) (fits_of n b c) v.0 u.0)),
        u.1,
      )
  forms_fit (Forms.while_do {b} {c} {e} {y} is t s) in_range =
      let w = test_fit t in_range.1 in
      let v = states_fit s w.1 in (
        at b c _ _ (by-While (fitting.item_step any) (fitting.statement_step any) items_step groups_step e y)
            (both_are (fit e) (fits_of y true true) w.0 v.0),
        v.1,
      )
  forms_fit (Forms.do_while {b} {c} {e} {y} is s too t close) in_range =
      let v = states_fit s in_range.1 in
      let w = test_fit t v.1.1 in (
        at b c _ _ (by-Do (fitting.item_step any) (fitting.statement_step any) items_step groups_step y e)
            (both_are (fits_of y true true) (fit e) v.0 w.0),
        w.1.1,
      )
  forms_fit (Forms.for_do {b} {c} {x} {e} {s = z} {y} is opened f p semicolon q close s) in_range =
      let w = first_fit f in_range.1.1 in
      let v = optional_fit p w.1 in
      let u = optional_fit q v.1.1 in
      let r = states_fit s u.1.1 in (
        at b c _ _ (by-For (fitting.item_step any) (fitting.statement_step any) items_step groups_step x e z y)
            (both_are (first_fits any x) (if_there (expr_fits any) e && (if_there (expr_fits any) z && fits_of y true true)) w.0
            (both_are (if_there (expr_fits any) e) (if_there (expr_fits any) z && fits_of y true true) v.0
            (both_are (if_there (expr_fits any) z) (fits_of y true true) u.0 r.0))),
        r.1,
      )
  forms_fit (Forms.switch_on {b} {c} {e} {gs} is t opened s close) in_range =
      let w = test_fit t in_range.1 in
      let v = groups_fit s w.1.1 in (
        at b c _ _ (by-Switch (fitting.item_step any) (fitting.statement_step any) items_step groups_step e gs)
            (both_are (fit e) (all_placed any (map group_fits gs) true c) w.0 v.0),
        v.1.1,
      )
  forms_fit (Forms.break_out {c} is close) in_range =
      (at true c _ _ (by-Break (fitting.item_step any) (fitting.statement_step any) items_step groups_step) refl, in_range.1.1)
  forms_fit (Forms.continue_on {b} is close) in_range =
      (at b true _ _ (by-Continue (fitting.item_step any) (fitting.statement_step any) items_step groups_step) refl, in_range.1.1)
  forms_fit (Forms.return_with {b} {c} {e} is s close) in_range =
      let w = optional_fit s in_range.1 in
      (at b c _ _ (by-Return (fitting.item_step any) (fitting.statement_step any) items_step groups_step e) w.0, w.1.1)
  forms_fit (Forms.stamped {b} {c} {place} {value} s h is z i close) in_range =
      let w = spells_fit s in_range in
      let v = spells_fit z w.1.1 in (
        at b c _ _ (by-Stamped (fitting.item_step any) (fitting.statement_step any) items_step groups_step place value) refl,
        v.1.1,
      )
  forms_fit (Forms.timely_alone {b} {c} {e} {limit = l} {y} is t s last) in_range =
      let v = states_fit s (limit_rest t in_range.1) in
      (at b c _ _ (by-Timely (fitting.item_step any) (fitting.statement_step any) items_step groups_step e l y) refl, v.1)
  forms_fit (Forms.timely_else {b} {c} {e} {limit = l} {y} {n} is t s too o) in_range =
      let v = states_fit s (limit_rest t in_range.1) in
      let u = states_fit o v.1.1 in
      (at b c _ _ (by-Timely_else (fitting.item_step any) (fitting.statement_step any) items_step groups_step e l y n) refl, u.1)
  forms_fit (Forms.expires {b} {c} {names = ns} {body = x} {caught = y} is opened l close s too z) in_range =
      let w = composes_fit s (commas_rest timed_rest l in_range.1.1).1 in
      let v = composes_fit z w.1.1 in
      (at b c _ _ (by-Expires (fitting.item_step any) (fitting.statement_step any) items_step groups_step ns x y) refl, v.1)

  pub composes_fit : {b c : Bool} {x : Compound} {ts rest : Tokens} → Composes b c x ts rest → InRange ts
      → (compound_fits any x b c ≡ true) × InRange rest
  composes_fit (Composes.composes {b} {c} {items = xs} opened s close) in_range =
      let w = items_fit s in_range.1 in
      (at b c _ _ (by-Items (fitting.item_step any) (fitting.statement_step any) items_step groups_step xs) w.0, w.1.1)

  items_fit : {b c : Bool} {xs : List BlockItem} {ts rest : Tokens} → SpellsItems b c xs ts rest → InRange ts
      → (all_placed any (map (block_item_fits any) xs) b c ≡ true) × InRange rest
  items_fit SpellsItems.no_item in_range = (refl, in_range)
  items_fit (SpellsItems.an_item {b} {c} {x} {xs} s more) in_range =
      let w = item_fit s in_range in
      let v = items_fit more w.1 in
      (both_are (block_item_fits any x b c) (all_placed any (map (block_item_fits any) xs) b c) w.0 v.0, v.1)

  item_fit : {b c : Bool} {x : BlockItem} {ts rest : Tokens} → IsItem b c x ts rest → InRange ts
      → (block_item_fits any x b c ≡ true) × InRange rest
  item_fit (IsItem.a_declaration {b} {c} {x = d} s) in_range =
      let w = declaration_fit s in_range in
      (at b c _ _ (by-Declaration (fitting.item_step any) (fitting.statement_step any) items_step groups_step d) w.0, w.1)
  item_fit (IsItem.a_statement {b} {c} {y} s) in_range =
      let w = states_fit s in_range in
      (at b c _ _ (by-Statement (fitting.item_step any) (fitting.statement_step any) items_step groups_step y) w.0, w.1)

  groups_fit : {c : Bool} {gs : List Group} {ts rest : Tokens} → SpellsGroups c gs ts rest → InRange ts
      → (all_placed any (map group_fits gs) true c ≡ true) × InRange rest
  groups_fit SpellsGroups.no_group in_range = (refl, in_range)
  groups_fit (SpellsGroups.a_group {c} {g} {gs} s more) in_range =
      let w = group_fit s in_range in
      let v = groups_fit more w.1 in
      (both_are (group_fits g true c) (all_placed any (map group_fits gs) true c) w.0 v.0, v.1)

  group_fit : {c : Bool} {g : Group} {ts rest : Tokens} → IsGroup c g ts rest → InRange ts
      → (group_fits g true c ≡ true) × InRange rest
  group_fit (IsGroup.is_group {c} {l = x} {ls = xs} {y} {ys} labels s more) in_range =
      let w = states_fit s (many_rest label_rest labels in_range) in
      let v = run_fit more w.1 in (
        at true c _ _ (by-Group (fitting.item_step any) (fitting.statement_step any) items_step groups_step (x ∷ xs) (y ∷ ys))
            (both_are (nat_le 1 (length (x ∷ xs))) (fits_of y true c && all_placed any (map fits_of ys) true c)
            (one_or_more (length xs)) (both_are (fits_of y true c) (all_placed any (map fits_of ys) true c) w.0 v.0)),
        v.1,
      )

  run_fit : {c : Bool} {ys : List Statement} {ts rest : Tokens} → RunsOn c ys ts rest → InRange ts
      → (all_placed any (map fits_of ys) true c ≡ true) × InRange rest
  run_fit RunsOn.no_statement in_range = (refl, in_range)
  run_fit (RunsOn.next_statement {c} {y} {ys} s more) in_range =
      let w = states_fit s in_range in
      let v = run_fit more w.1 in (both_are (fits_of y true c) (all_placed any (map fits_of ys) true c) w.0 v.0, v.1)
