-- Statements and whole sources that fit but for what they call, and call only what is defined, fit.
use Rattle.std.proofs.Common.{◌≡◌, ℕ, nat_le, Bool, true, false, ◌&&◌, List, [], ◌∷◌, map, length, Option, Some, None, refl, sym, ap, subst, ◌∙◌, rules}
use Rattle.c_tree.specs.declared.expression.Expr.{Expr}
use Rattle.c_tree.specs.declared.declarations.Initial.{Initial, roll-Initial, map-Initial, ind-Initial, the_lemmas as initial_lemmas}
use Rattle.c_tree.specs.declared.declarations.Initial.TheOpen.{Initial-F}
use Rattle.c_tree.specs.declared.declarations.Init.{Init}
use Rattle.c_tree.specs.declared.statements.Label.{Label}
use Rattle.c_tree.specs.declared.statements.First.{First}
use Rattle.c_tree.specs.declared.statements.First.TheVariants as first
use Rattle.c_tree.specs.declared.statements.BlockItem.{BlockItem, roll-BlockItem, map-BlockItem, fold-BlockItem}
use Rattle.c_tree.specs.declared.statements.BlockItem.TheOpen.{BlockItem-F, StatementKind-F}
use Rattle.c_tree.specs.declared.statements.StatementKind.{StatementKind, roll-StatementKind, map-StatementKind, fold-StatementKind, the_lemmas}
use Rattle.c_tree.specs.declared.statements.Statement.{Statement, Statement-F, roll-Statement, the_lemmas as statement_lemmas}
use Rattle.c_tree.specs.declared.statements.Compound.{Compound, Compound-F, roll-Compound, ind-Compound, the_lemmas as compound_lemmas}
use Rattle.c_tree.specs.declared.statements.Group.{Group, Group-F, roll-Group, fold-Group, the_lemmas as group_lemmas}
use Rattle.c_tree.specs.declared.unit.Param.{Param}
use Rattle.c_tree.specs.declared.unit.Function.{Function}
use Rattle.c_tree.specs.declared.unit.External.{External}
use Rattle.c_tree.specs.declared.unit.External.TheVariants as external
use Rattle.c_tree.specs.declared.unit.Tree.{Tree}
use Rattle.c_checking.specs.Functions.{listed}
use Rattle.c_checking.specs.Calls as c
use Rattle.c_checking.specs.Calls.{or_later, first_of, in_expr, in_exprs, in_initial, in_init, in_inits, in_first, in_labels, in_compound, in_params, in_member, in_external, definitions}
use Rattle.c_checking_laws.specs.Fitting as fit
use Rattle.c_checking_laws.specs.Fitting.{each_is, if_there, expr_fits, initial_fits, init_fits, inits_fit, Placed, first_fits, all_placed, group_step, statement_fits, block_item_fits, compound_fits, param_fits, is_named, struct_fits, body_fits, function_fits, external_fits}
use Rattle.c_fitting_laws.specs.Spelled.{any, CallsFit}
use Rattle.c_fitting_laws.proofs.ExprCalls.{both_hold, both_are, neither, known, expr_known}

module _ (names : List (List ℕ)) where
  abbrev k : List ℕ → Bool
  k = known names

  some_known : (e : Option Expr) → if_there (expr_fits any) e ≡ true → c.if_there (in_expr names) e ≡ None
      → if_there (expr_fits k) e ≡ true
  some_known None h none = refl
  some_known (Some e) h none = expr_known names e h none

  -- ---- initialisers

  abbrev InitialFits : Initial → Type 0
  InitialFits i = initial_fits any i ≡ true → in_initial names i ≡ None → initial_fits k i ≡ true

  module _ {A : Type 0} (inner : A → Initial) (deeper : (a : A) → InitialFits (inner a)) where
    items_known : (items : List A) → each_is (λ b. b) (map (initial_fits any) (map inner items)) ≡ true
        → first_of (map (in_initial names) (map inner items)) ≡ None
        → each_is (λ b. b) (map (initial_fits k) (map inner items)) ≡ true
    items_known [] h none = refl
    items_known (a ∷ items) h none =
        let v = both_hold (initial_fits any (inner a)) (each_is (λ b. b) (map (initial_fits any) (map inner items))) h in
        let w = neither (in_initial names (inner a)) (first_of (map (in_initial names) (map inner items))) none in
        both_are (initial_fits k (inner a)) (each_is (λ b. b) (map (initial_fits k) (map inner items)))
        (deeper a v.0 w.0) (items_known items v.1 w.1)

    initial_layer : (y : Initial-F A)
        → fit.initial_step any (map-Initial Initial Bool (initial_fits any) (map-Initial A Initial inner y)) ≡ true
        → c.initial_step names (map-Initial Initial (Option ℕ) (in_initial names) (map-Initial A Initial inner y)) ≡ None
        → fit.initial_step k (map-Initial Initial Bool (initial_fits k) (map-Initial A Initial inner y)) ≡ true
    initial_layer (Initial-F.Assign e) h none = expr_known names e h none
    initial_layer (Initial-F.List items last line) h none = items_known items h none

  initial_unrolled : (calls : List ℕ → Bool) (z : Initial-F Initial)
      → initial_fits calls (roll-Initial z) ≡ fit.initial_step calls (map-Initial Initial Bool (initial_fits calls) z)
  initial_unrolled calls z = search (rules, initial_lemmas)

  initial_seen : (z : Initial-F Initial)
      → in_initial names (roll-Initial z) ≡ c.initial_step names (map-Initial Initial (Option ℕ) (in_initial names) z)
  initial_seen z = search (rules, initial_lemmas)

  initial_by : (z : Initial-F Initial)
      → (fit.initial_step any (map-Initial Initial Bool (initial_fits any) z) ≡ true
      → c.initial_step names (map-Initial Initial (Option ℕ) (in_initial names) z) ≡ None
      → fit.initial_step k (map-Initial Initial Bool (initial_fits k) z) ≡ true) → InitialFits (roll-Initial z)
  initial_by z so h none =
      initial_unrolled k z ∙ so (sym (initial_unrolled any z) ∙ h) (sym (initial_seen z) ∙ none)

  initial_known : (i : Initial) → InitialFits i
  initial_known = ind-Initial InitialFits (λ z y is. subst (λ (w : Initial-F Initial). InitialFits (roll-Initial w)) is
      (initial_by _ (initial_layer (λ e. e.0) (λ e. e.1) y)))

  some_initial : (i : Option Initial) → if_there (initial_fits any) i ≡ true → c.if_there (in_initial names) i ≡ None
      → if_there (initial_fits k) i ≡ true
  some_initial None h none = refl
  some_initial (Some i) h none = initial_known i h none

  inits_known : (is : List Init) → inits_fit any is ≡ true → in_inits names is ≡ None → inits_fit k is ≡ true
  inits_known [] h none = refl
  inits_known (i ∷ is) h none =
      let v = both_hold (init_fits any i) (inits_fit any is) h in
      let w = neither (in_init names i) (in_inits names is) none in
      let u = neither (in_exprs names i.declr.bounds) (c.if_there (in_initial names) i.initial) w.0 in
      both_are (init_fits k i) (inits_fit k is) (some_initial i.initial v.0 u.1) (inits_known is v.1 w.1)

  first_known : (f : First) → first_fits any f ≡ true → in_first names f ≡ None → first_fits k f ≡ true
  first_known (first.Expr e) h none = some_known e h none
  first_known (first.Declaration d) h none = inits_known d.inits h none

  -- ---- what is found in each part

  abbrev item_seen : BlockItem → Option ℕ
  item_seen = fold-BlockItem (Option ℕ) (Option ℕ) (Option ℕ) (Option ℕ) (Option ℕ) (c.item_step names) (c.statement_step names)
      (λ x. first_of x.items) (λ g. or_later (in_labels names g.labels) (first_of g.statements)) (λ x. x.kind)

  abbrev kind_seen : StatementKind → Option ℕ
  kind_seen = fold-StatementKind (Option ℕ) (Option ℕ) (Option ℕ) (Option ℕ) (Option ℕ) (c.item_step names)
      (c.statement_step names)
      (λ x. first_of x.items) (λ g. or_later (in_labels names g.labels) (first_of g.statements)) (λ x. x.kind)

  abbrev group_seen : Group → Option ℕ
  group_seen = fold-Group (Option ℕ) (Option ℕ) (Option ℕ) (Option ℕ) (Option ℕ) (c.item_step names) (c.statement_step names)
      (λ x. first_of x.items) (λ g. or_later (in_labels names g.labels) (first_of g.statements)) (λ x. x.kind)

  abbrev statement_seen : Statement → Option ℕ
  statement_seen s = kind_seen s.kind

  abbrev group_fits : (calls : List ℕ → Bool) → Group → Placed calls
  group_fits calls = fold-Group (Placed calls) (Placed calls) (Placed calls) (Placed calls) (Placed calls)
      (fit.item_step calls) (fit.statement_step calls)
      (λ x. all_placed calls x.items) (λ g. group_step calls g.labels g.statements) (λ x. x.kind)

  abbrev fits_of : (calls : List ℕ → Bool) → Statement → Placed calls
  fits_of calls s = statement_fits calls s.kind

  -- ---- what the induction shows

  abbrev ItemFits : BlockItem → Type 0
  ItemFits i = (b d : Bool) → block_item_fits any i b d ≡ true → item_seen i ≡ None → block_item_fits k i b d ≡ true

  abbrev KindFits : StatementKind → Type 0
  KindFits kind = (b d : Bool) → statement_fits any kind b d ≡ true → kind_seen kind ≡ None → statement_fits k kind b d ≡ true

  abbrev CompoundFits : Compound → Type 0
  CompoundFits x = (b d : Bool) → compound_fits any x b d ≡ true → in_compound names x ≡ None → compound_fits k x b d ≡ true

  abbrev GroupFits : Group → Type 0
  GroupFits g = (b d : Bool) → group_fits any g b d ≡ true → group_seen g ≡ None → group_fits k g b d ≡ true

  abbrev StatementFits : Statement → Type 0
  StatementFits s = KindFits s.kind

  -- ---- several

  module _ {A : Type 0} (item_of : A → BlockItem) (deeper : (a : A) → ItemFits (item_of a)) where
    all_items : (xs : List A) (b d : Bool) → all_placed any (map (block_item_fits any) (map item_of xs)) b d ≡ true
        → first_of (map item_seen (map item_of xs)) ≡ None
        → all_placed k (map (block_item_fits k) (map item_of xs)) b d ≡ true
    all_items [] b d h none = refl
    all_items (x ∷ xs) b d h none =
        let v = both_hold (block_item_fits any (item_of x) b d)
        (all_placed any (map (block_item_fits any) (map item_of xs)) b d) h in
        let w = neither (item_seen (item_of x)) (first_of (map item_seen (map item_of xs))) none in
        both_are (block_item_fits k (item_of x) b d) (all_placed k (map (block_item_fits k) (map item_of xs)) b d)
        (deeper x b d v.0 w.0) (all_items xs b d v.1 w.1)

  module _ {E : Type 0} (statement_of : E → Statement) (deeper : (e : E) → StatementFits (statement_of e)) where
    all_statements : (xs : List E) (b d : Bool) → all_placed any (map (fits_of any) (map statement_of xs)) b d ≡ true
        → first_of (map statement_seen (map statement_of xs)) ≡ None
        → all_placed k (map (fits_of k) (map statement_of xs)) b d ≡ true
    all_statements [] b d h none = refl
    all_statements (x ∷ xs) b d h none =
        let v = both_hold (fits_of any (statement_of x) b d) (all_placed any (map (fits_of any) (map statement_of xs)) b d) h in
        let w = neither (statement_seen (statement_of x)) (first_of (map statement_seen (map statement_of xs))) none in
        both_are (fits_of k (statement_of x) b d) (all_placed k (map (fits_of k) (map statement_of xs)) b d)
        (deeper x b d v.0 w.0) (all_statements xs b d v.1 w.1)

    group_layer : (labels : List Label) (xs : List E) (b d : Bool)
        → group_step any labels (map (fits_of any) (map statement_of xs)) b d ≡ true
        → or_later (in_labels names labels) (first_of (map statement_seen (map statement_of xs))) ≡ None
        → group_step k labels (map (fits_of k) (map statement_of xs)) b d ≡ true
    group_layer labels xs b d h none =
        let v = both_hold (nat_le 1 (length labels)) (all_placed any (map (fits_of any) (map statement_of xs)) b d) h in
        let w = neither (in_labels names labels) (first_of (map statement_seen (map statement_of xs))) none in
        both_are (nat_le 1 (length labels)) (all_placed k (map (fits_of k) (map statement_of xs)) b d) v.0
        (all_statements xs b d v.1 w.1)

  -- ---- layers

  module _ {A B C D E : Type 0} (item_of : A → BlockItem) (kind_of : B → StatementKind) (compound_of : C → Compound)
      (group_of : D → Group) (statement_of : E → Statement) where
    abbrev item_opened : BlockItem-F A B C D E → BlockItem-F BlockItem StatementKind Compound Group Statement
    item_opened y = map-BlockItem A B C D E BlockItem StatementKind Compound Group Statement item_of kind_of compound_of group_of
        statement_of y

    abbrev kind_opened : StatementKind-F A B C D E → StatementKind-F BlockItem StatementKind Compound Group Statement
    kind_opened y = map-StatementKind A B C D E BlockItem StatementKind Compound Group Statement item_of kind_of compound_of
        group_of statement_of y

    abbrev item_fit : (calls : List ℕ → Bool) → BlockItem-F A B C D E → Placed calls
    item_fit calls y = fit.item_step calls
        (map-BlockItem BlockItem StatementKind Compound Group Statement (Placed calls) (Placed calls) (Placed calls)
        (Placed calls) (Placed calls) (block_item_fits calls) (statement_fits calls) (compound_fits calls) (group_fits calls)
        (fits_of calls) (item_opened y))

    abbrev item_sees : BlockItem-F A B C D E → Option ℕ
    item_sees y = c.item_step names
        (map-BlockItem BlockItem StatementKind Compound Group Statement (Option ℕ) (Option ℕ) (Option ℕ)
        (Option ℕ) (Option ℕ) item_seen kind_seen (in_compound names) group_seen statement_seen (item_opened y))

    abbrev kind_fit : (calls : List ℕ → Bool) → StatementKind-F A B C D E → Placed calls
    kind_fit calls y = fit.statement_step calls
        (map-StatementKind BlockItem StatementKind Compound Group Statement (Placed calls) (Placed calls) (Placed calls)
        (Placed calls) (Placed calls) (block_item_fits calls) (statement_fits calls) (compound_fits calls) (group_fits calls)
        (fits_of calls) (kind_opened y))

    abbrev kind_sees : StatementKind-F A B C D E → Option ℕ
    kind_sees y = c.statement_step names
        (map-StatementKind BlockItem StatementKind Compound Group Statement (Option ℕ) (Option ℕ) (Option ℕ)
        (Option ℕ) (Option ℕ) item_seen kind_seen (in_compound names) group_seen statement_seen (kind_opened y))

    item_layer : ((e : E) → StatementFits (statement_of e)) → (y : BlockItem-F A B C D E) (b d : Bool)
        → item_fit any y b d ≡ true → item_sees y ≡ None → item_fit k y b d ≡ true
    item_layer statements (BlockItem-F.Declaration x) b d h none = inits_known x.inits h none
    item_layer statements (BlockItem-F.Statement e) b d h none = statements e b d h none

    module _ (bodies : (e : C) → CompoundFits (compound_of e)) (groups : (e : D) → GroupFits (group_of e))
        (statements : (e : E) → StatementFits (statement_of e)) where
      all_groups : (gs : List D) (b d : Bool) → all_placed any (map (group_fits any) (map group_of gs)) b d ≡ true
          → first_of (map group_seen (map group_of gs)) ≡ None
          → all_placed k (map (group_fits k) (map group_of gs)) b d ≡ true
      all_groups [] b d h none = refl
      all_groups (g ∷ gs) b d h none =
          let v = both_hold (group_fits any (group_of g) b d) (all_placed any (map (group_fits any) (map group_of gs)) b d) h in
          let w = neither (group_seen (group_of g)) (first_of (map group_seen (map group_of gs))) none in
          both_are (group_fits k (group_of g) b d) (all_placed k (map (group_fits k) (map group_of gs)) b d)
          (groups g b d v.0 w.0) (all_groups gs b d v.1 w.1)

      abbrev at : (calls : List ℕ → Bool) → E → Placed calls
      at calls e = fits_of calls (statement_of e)

      abbrev sees : E → Option ℕ
      sees e = statement_seen (statement_of e)

      kind_layer : (y : StatementKind-F A B C D E) (b d : Bool) → kind_fit any y b d ≡ true → kind_sees y ≡ None
          → kind_fit k y b d ≡ true
      kind_layer (StatementKind-F.Compound x) b d h none = bodies x b d h none
      kind_layer (StatementKind-F.Expr e) b d h none = some_known e h none
      kind_layer (StatementKind-F.If test one None) b d h none =
          let u = both_hold (expr_fits any test) (at any one b d && true) h in
          let v = both_hold (at any one b d) true u.1 in
          let w = neither (in_expr names test) (or_later (sees one) None) none in
          let r = neither (sees one) None w.1 in
          both_are (expr_fits k test) (at k one b d && true) (expr_known names test u.0 w.0)
          (both_are (at k one b d) true (statements one b d v.0 r.0) refl)
      kind_layer (StatementKind-F.If test one (Some other)) b d h none =
          let u = both_hold (expr_fits any test) (at any one b d && at any other b d) h in
          let v = both_hold (at any one b d) (at any other b d) u.1 in
          let w = neither (in_expr names test) (or_later (sees one) (sees other)) none in
          let r = neither (sees one) (sees other) w.1 in
          both_are (expr_fits k test) (at k one b d && at k other b d) (expr_known names test u.0 w.0)
          (both_are (at k one b d) (at k other b d) (statements one b d v.0 r.0) (statements other b d v.1 r.1))
      kind_layer (StatementKind-F.While test body) b d h none =
          let u = both_hold (expr_fits any test) (at any body true true) h in
          let w = neither (in_expr names test) (sees body) none in
          both_are (expr_fits k test) (at k body true true) (expr_known names test u.0 w.0) (statements body true true u.1 w.1)
      kind_layer (StatementKind-F.Do body test) b d h none =
          let u = both_hold (at any body true true) (expr_fits any test) h in
          let w = neither (sees body) (in_expr names test) none in
          both_are (at k body true true) (expr_fits k test) (statements body true true u.0 w.0) (expr_known names test u.1 w.1)
      kind_layer (StatementKind-F.For begin test step body) b d h none =
          let t = both_hold (first_fits any begin) (if_there (expr_fits any) test && (if_there (expr_fits any) step
          && at any body true true)) h in
          let u = both_hold (if_there (expr_fits any) test) (if_there (expr_fits any) step && at any body true true) t.1 in
          let v = both_hold (if_there (expr_fits any) step) (at any body true true) u.1 in
          let w = neither (in_first names begin) (or_later (c.if_there (in_expr names) test)
          (or_later (c.if_there (in_expr names) step) (sees body))) none in
          let r = neither (c.if_there (in_expr names) test) (or_later (c.if_there (in_expr names) step) (sees body)) w.1 in
          let s = neither (c.if_there (in_expr names) step) (sees body) r.1 in
          both_are (first_fits k begin) (if_there (expr_fits k) test && (if_there (expr_fits k) step && at k body true true))
          (first_known begin t.0 w.0)
          (both_are (if_there (expr_fits k) test) (if_there (expr_fits k) step && at k body true true) (some_known test u.0 r.0)
          (both_are (if_there (expr_fits k) step) (at k body true true) (some_known step v.0 s.0)
          (statements body true true v.1 s.1)))
      kind_layer (StatementKind-F.Switch on gs) b d h none =
          let u = both_hold (expr_fits any on) (all_placed any (map (group_fits any) (map group_of gs)) true d) h in
          let w = neither (in_expr names on) (first_of (map group_seen (map group_of gs))) none in
          both_are (expr_fits k on) (all_placed k (map (group_fits k) (map group_of gs)) true d) (expr_known names on u.0 w.0)
          (all_groups gs true d u.1 w.1)
      kind_layer StatementKind-F.Break b d h none = h
      kind_layer StatementKind-F.Continue b d h none = h
      kind_layer (StatementKind-F.Return e) b d h none = some_known e h none
      kind_layer (StatementKind-F.Stamped place from) b d h none = refl
      kind_layer (StatementKind-F.Timely place limit one other) b d h none = refl
      kind_layer (StatementKind-F.Expires tnames body caught) b d h none = refl

  -- ---- unrolled

  abbrev ItemOpen : Type 0
  ItemOpen = BlockItem-F BlockItem StatementKind Compound Group Statement

  abbrev KindOpen : Type 0
  KindOpen = StatementKind-F BlockItem StatementKind Compound Group Statement

  abbrev item_all : (calls : List ℕ → Bool) → ItemOpen → Placed calls
  item_all calls z = fit.item_step calls (map-BlockItem BlockItem StatementKind Compound Group
      Statement (Placed calls) (Placed calls) (Placed calls) (Placed calls) (Placed calls) (block_item_fits calls)
      (statement_fits calls) (compound_fits calls) (group_fits calls) (fits_of calls) z)

  abbrev kind_all : (calls : List ℕ → Bool) → KindOpen → Placed calls
  kind_all calls z = fit.statement_step calls (map-StatementKind BlockItem StatementKind Compound Group
      Statement (Placed calls) (Placed calls) (Placed calls) (Placed calls) (Placed calls) (block_item_fits calls)
      (statement_fits calls) (compound_fits calls) (group_fits calls) (fits_of calls) z)

  abbrev item_none : ItemOpen → Option ℕ
  item_none z = c.item_step names (map-BlockItem BlockItem StatementKind Compound Group Statement (Option ℕ) (Option ℕ)
      (Option ℕ) (Option ℕ) (Option ℕ) item_seen kind_seen (in_compound names) group_seen statement_seen z)

  abbrev kind_none : KindOpen → Option ℕ
  kind_none z = c.statement_step names (map-StatementKind BlockItem StatementKind Compound Group Statement (Option ℕ) (Option ℕ)
      (Option ℕ) (Option ℕ) (Option ℕ) item_seen kind_seen (in_compound names) group_seen statement_seen z)

  item_unrolled : (calls : List ℕ → Bool) (z : ItemOpen) → block_item_fits calls (roll-BlockItem z) ≡ item_all calls z
  item_unrolled calls z = search (rules, the_lemmas)

  item_seen_unrolled : (z : ItemOpen) → item_seen (roll-BlockItem z) ≡ item_none z
  item_seen_unrolled z = search (rules, the_lemmas)

  kind_unrolled : (calls : List ℕ → Bool) (z : KindOpen) → statement_fits calls (roll-StatementKind z) ≡ kind_all calls z
  kind_unrolled calls z = search (rules, the_lemmas)

  kind_seen_unrolled : (z : KindOpen) → kind_seen (roll-StatementKind z) ≡ kind_none z
  kind_seen_unrolled z = search (rules, the_lemmas)

  compound_unrolled : (calls : List ℕ → Bool) (z : Compound-F BlockItem StatementKind Compound Group Statement)
      → compound_fits calls (roll-Compound z) ≡ all_placed calls (map (block_item_fits calls) z.items)
  compound_unrolled calls z = search (rules, compound_lemmas)

  compound_seen_unrolled : (z : Compound-F BlockItem StatementKind Compound Group Statement)
      → in_compound names (roll-Compound z) ≡ first_of (map item_seen z.items)
  compound_seen_unrolled z = search (rules, compound_lemmas)

  group_unrolled : (calls : List ℕ → Bool) (z : Group-F BlockItem StatementKind Compound Group Statement)
      → group_fits calls (roll-Group z) ≡ group_step calls z.labels (map (fits_of calls) z.statements)
  group_unrolled calls z = search (rules, group_lemmas)

  group_seen_unrolled : (z : Group-F BlockItem StatementKind Compound Group Statement)
      → group_seen (roll-Group z) ≡ or_later (in_labels names z.labels) (first_of (map statement_seen z.statements))
  group_seen_unrolled z = search (rules, group_lemmas)

  -- ---- the induction

  item_by : (z : ItemOpen) → ((b d : Bool) → item_all any z b d ≡ true → item_none z ≡ None → item_all k z b d ≡ true)
      → ItemFits (roll-BlockItem z)
  item_by z so b d h none =
      ap (λ (p : Placed k). p b d) (item_unrolled k z)
      ∙ so b d (sym (ap (λ (p : Placed any). p b d) (item_unrolled any z)) ∙ h) (sym (item_seen_unrolled z) ∙ none)

  kind_by : (z : KindOpen) → ((b d : Bool) → kind_all any z b d ≡ true → kind_none z ≡ None → kind_all k z b d ≡ true)
      → KindFits (roll-StatementKind z)
  kind_by z so b d h none =
      ap (λ (p : Placed k). p b d) (kind_unrolled k z)
      ∙ so b d (sym (ap (λ (p : Placed any). p b d) (kind_unrolled any z)) ∙ h) (sym (kind_seen_unrolled z) ∙ none)

  compound_by : (z : Compound-F BlockItem StatementKind Compound Group Statement)
      → ((b d : Bool) → all_placed any (map (block_item_fits any) z.items) b d ≡ true → first_of (map item_seen z.items) ≡ None
      → all_placed k (map (block_item_fits k) z.items) b d ≡ true) → CompoundFits (roll-Compound z)
  compound_by z so b d h none =
      ap (λ (p : Placed k). p b d) (compound_unrolled k z)
      ∙ so b d (sym (ap (λ (p : Placed any). p b d) (compound_unrolled any z)) ∙ h) (sym (compound_seen_unrolled z) ∙ none)

  group_by : (z : Group-F BlockItem StatementKind Compound Group Statement)
      → ((b d : Bool) → group_step any z.labels (map (fits_of any) z.statements) b d ≡ true
      → or_later (in_labels names z.labels) (first_of (map statement_seen z.statements)) ≡ None
      → group_step k z.labels (map (fits_of k) z.statements) b d ≡ true) → GroupFits (roll-Group z)
  group_by z so b d h none =
      ap (λ (p : Placed k). p b d) (group_unrolled k z)
      ∙ so b d (sym (ap (λ (p : Placed any). p b d) (group_unrolled any z)) ∙ h) (sym (group_seen_unrolled z) ∙ none)

  statement_by : (z : Statement-F BlockItem StatementKind Compound Group Statement) → KindFits z.kind
      → StatementFits (roll-Statement z)
  statement_by z so =
      let h : (roll-Statement z).kind ≡ z.kind = search (rules, statement_lemmas) in
      subst (λ kind. KindFits kind) (sym h) so

  compound_known : (x : Compound) → CompoundFits x
  compound_known =
      ind-Compound ItemFits KindFits CompoundFits GroupFits StatementFits
      (λ x y is. subst (λ (z : ItemOpen). ItemFits (roll-BlockItem z)) is (item_by _ (λ b d h none.
      item_layer (λ e. e.0) (λ e. e.0) (λ e. e.0) (λ e. e.0) (λ e. e.0) (λ e. e.1) y b d h none)))
      (λ x y is. subst (λ (z : KindOpen). KindFits (roll-StatementKind z)) is (kind_by _ (λ b d h none.
      kind_layer (λ e. e.0) (λ e. e.0) (λ e. e.0) (λ e. e.0) (λ e. e.0) (λ e. e.1) (λ e. e.1) (λ e. e.1) y b d h none)))
      (λ x y is. subst (λ (z : Compound-F BlockItem StatementKind Compound Group Statement).
      CompoundFits (roll-Compound z)) is (compound_by _ (λ b d h none.
      all_items (λ e. e.0) (λ e. e.1) y.items b d h none)))
      (λ x y is. subst (λ (z : Group-F BlockItem StatementKind Compound Group Statement).
      GroupFits (roll-Group z)) is (group_by _ (λ b d h none.
      group_layer (λ e. e.0) (λ e. e.1) y.labels y.statements b d h none)))
      (λ x y is. subst (λ (z : Statement-F BlockItem StatementKind Compound Group Statement).
      StatementFits (roll-Statement z)) is (statement_by (record { kind = y.kind.0; line = y.line }) y.kind.1))

  -- ---- parts of a source

  body_known : (ps : List Param) (body : Option Compound) → body_fits any ps body ≡ true
      → c.if_there (in_compound names) body ≡ None → body_fits k ps body ≡ true
  body_known ps None h none = refl
  body_known ps (Some body) h none =
      let v = both_hold (each_is is_named ps) (compound_fits any body false false) h in
      both_are (each_is is_named ps) (compound_fits k body false false) v.0 (compound_known body false false v.1 none)

  function_known : (f : Function) → function_fits any f ≡ true
      → or_later (in_params names f.params) (c.if_there (in_compound names) f.body) ≡ None → function_fits k f ≡ true
  function_known f h none =
      let v = both_hold (each_is param_fits (listed f.params)) (body_fits any (listed f.params) f.body) h in
      let w = neither (in_params names f.params) (c.if_there (in_compound names) f.body) none in
      both_are (each_is param_fits (listed f.params)) (body_fits k (listed f.params) f.body) v.0
      (body_known (listed f.params) f.body v.1 w.1)

  external_known : (x : External) → external_fits any x ≡ true → in_external names x ≡ None → external_fits k x ≡ true
  external_known (external.Struct s is) h none =
      let v = both_hold (struct_fits s) (inits_fit any is) h in
      let w = neither (first_of (map (in_member names) s.members)) (in_inits names is) none in
      both_are (struct_fits s) (inits_fit k is) v.0 (inits_known is v.1 w.1)
  external_known (external.Function is_static f) h none = function_known f h none
  external_known (external.Declaration is_static lifetime d) h none = inits_known d.inits h none

  externals_known : (xs : List External) → each_is (external_fits any) xs ≡ true → first_of (map (in_external names) xs) ≡ None
      → each_is (external_fits k) xs ≡ true
  externals_known [] h none = refl
  externals_known (x ∷ xs) h none =
      let v = both_hold (external_fits any x) (each_is (external_fits any) xs) h in
      let w = neither (in_external names x) (first_of (map (in_external names) xs)) none in
      both_are (external_fits k x) (each_is (external_fits k) xs) (external_known x v.0 w.0) (externals_known xs v.1 w.1)

pub calls_fit : (tree : Tree) → CallsFit tree
calls_fit tree h none = externals_known (definitions tree) tree.externals h none
