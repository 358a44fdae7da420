-- Every statement that breaks no rule is lawful, by induction over statements.
use Rattle.std.proofs.Common.{◌≡◌, ℕ, nat_le, Bool, true, ◌&&◌, List, [], ◌∷◌, map, length, Some, None, sym, ap, subst, ◌∙◌, rules}
use Rattle.c_tree.specs.declared.declarations.Declaration.{Declaration}
use Rattle.c_tree.specs.declared.statements.Label.{Label}
use Rattle.c_tree.specs.declared.statements.BlockItem.{BlockItem, roll-BlockItem, map-BlockItem}
use Rattle.c_tree.specs.declared.statements.BlockItem.TheOpen.{BlockItem-F, StatementKind-F}
use Rattle.c_tree.specs.declared.statements.StatementKind.{StatementKind, roll-StatementKind, map-StatementKind, the_lemmas}
use Rattle.c_tree.specs.declared.statements.Statement.{Statement, Statement-F, roll-Statement, the_lemmas as statement_lemmas}
use Rattle.c_tree.specs.declared.statements.Compound.{Compound, Compound-F, roll-Compound, ind-Compound, the_lemmas as compound_lemmas}
use Rattle.c_tree.specs.declared.statements.Group.{Group, Group-F, roll-Group, fold-Group, the_lemmas as group_lemmas}
use Rattle.core_tree.specs.declared.statements.Stmt.{Stmt}
use Rattle.core_tree.specs.declared.program.Core.{Core}
use Rattle.core_tree.specs.LawfulCore.{Every}
use Rattle.c_typing_laws.proofs.Same.{both_hold}
use Rattle.c_checking.specs.Walk.{Walk, one_by_one, single}
use Rattle.c_checking.specs.Locals.{locals}
use Rattle.c_checking.specs.Statements.{GroupPart, kind_step, item_step, statement_kind, statement, block_item, compound}
use Rattle.c_checking_laws.specs.Standing.{Leads}
use Rattle.c_checking_laws.specs.Accepted.{BlockIsLawful}
use Rattle.c_checking_laws.specs.Fitting as fit
use Rattle.c_checking_laws.specs.Fitting.{each_is, if_there, Placed, first_fits, inits_fit, expr_fits, all_placed, group_step, statement_fits, block_item_fits, compound_fits}
use Rattle.c_checking_laws.proofs.Walks.{one_by_one_leads, single_leads}
use Rattle.c_checking_laws.proofs.Statements.{Stated, AllStated, none_stated, more_stated, one_stated, GroupFits, empty_leads, block_leads, expr_leads, if_leads, while_leads, do_leads, for_leads, switch_leads_to, return_leads, never_leads, break_leads, continue_leads}
use Rattle.c_checking_laws.proofs.Locals.{locals_lead}

-- a group of a `switch` as a part of it
abbrev pub group_part : Group → GroupPart
group_part = fold-Group (Walk (List Stmt)) (ℕ → Walk Stmt) (Walk (List Stmt)) GroupPart (Walk Stmt)
    item_step kind_step (λ c. one_by_one c.items)
    (λ g. record { labels = g.labels; body = one_by_one (map single g.statements) }) (λ x. x.kind x.line)

module _ (calls : List ℕ → Bool) (core : Core) where
  abbrev group_fits : Group → Placed calls
  group_fits = fold-Group (Placed calls) (Placed calls) (Placed calls) (Placed calls) (Placed calls)
      (fit.item_step calls) (fit.statement_step calls)
      (λ c. all_placed calls c.items) (λ g. group_step calls g.labels g.statements) (λ x. x.kind)

  -- what the induction shows of each
  abbrev ItemIs : BlockItem → Type 0
  ItemIs i = (b c : Bool) → block_item_fits calls i b c ≡ true → Leads calls core (AllStated b c) (block_item i)

  abbrev KindIs : StatementKind → Type 0
  KindIs kind = (b c : Bool) (line : ℕ) → statement_fits calls kind b c ≡ true
      → Leads calls core (Stated b c) (statement_kind kind line)

  abbrev CompoundIs : Compound → Type 0
  CompoundIs body = (b c : Bool) → compound_fits calls body b c ≡ true → Leads calls core (AllStated b c) (compound body)

  abbrev GroupIs : Group → Type 0
  GroupIs g = (b c : Bool) (line : ℕ) → group_fits g true c ≡ true → GroupFits calls core b c line (group_part g)

  abbrev StatementIs : Statement → Type 0
  StatementIs s = KindIs s.kind

  -- ---- what stands in braces and in a group

  abbrev fits_of : Statement → Placed calls
  fits_of s = statement_fits calls s.kind

  module _ {A : Type 0} (item_of : A → BlockItem) where
    items_lead : ((a : A) → ItemIs (item_of a)) → (b c : Bool) (items : List A)
        → all_placed calls (map (block_item_fits calls) (map item_of items)) b c ≡ true
        → Every (Leads calls core (AllStated b c)) (map block_item (map item_of items))
    items_lead deeper b c [] fine = tt
    items_lead deeper b c (a ∷ items) fine =
        let w = both_hold (block_item_fits calls (item_of a) b c)
        (all_placed calls (map (block_item_fits calls) (map item_of items)) b c) fine in
        (deeper a b c w.0, items_lead deeper b c items w.1)

    compound_ok : (all : List A) → ((a : A) → ItemIs (item_of a)) → (b c : Bool)
        → all_placed calls (map (block_item_fits calls) (map item_of all)) b c ≡ true
        → Leads calls core (AllStated b c) (one_by_one (map block_item (map item_of all)))
    compound_ok all items b c fine =
        one_by_one_leads calls core (AllStated b c) (none_stated b c) (more_stated b c)
        (map block_item (map item_of all)) (items_lead items b c all fine)

  module _ {E : Type 0} (statement_of : E → Statement) where
    statements_lead : ((e : E) → StatementIs (statement_of e)) → (b c : Bool) (all : List E)
        → all_placed calls (map fits_of (map statement_of all)) b c ≡ true
        → Every (Leads calls core (AllStated b c)) (map single (map statement (map statement_of all)))
    statements_lead deeper b c [] fine = tt
    statements_lead deeper b c (e ∷ all) fine =
        let w = both_hold (fits_of (statement_of e) b c)
        (all_placed calls (map fits_of (map statement_of all)) b c) fine in (
          single_leads calls core (Stated b c) (AllStated b c) (statement (statement_of e)) (one_stated b c)
              (deeper e b c (statement_of e).line w.0),
          statements_lead deeper b c all w.1,
        )

    -- a group, by its parts
    group_ok : (labels : List Label) (all : List E) → ((e : E) → StatementIs (statement_of e)) → (b c : Bool) (line : ℕ)
        → group_step calls labels (map fits_of (map statement_of all)) true c ≡ true
        → GroupFits calls core b c line (record {
          labels = labels;
          body = one_by_one (map single (map statement (map statement_of all)));
        })
    group_ok labels all statements b c line fine =
        let w = both_hold (nat_le 1 (length labels)) (all_placed calls (map fits_of (map statement_of all)) true c) fine in (
          w.0,
          one_by_one_leads calls core (AllStated true c) (none_stated true c) (more_stated true c)
              (map single (map statement (map statement_of all))) (statements_lead statements true c all w.1),
        )

  module _ {A B C D E : Type 0} (item_of : A → BlockItem) (kind_of : B → StatementKind) (compound_of : C → Compound)
      (group_of : D → Group) (statement_of : E → Statement) where
    groups_fit : ((d : D) → GroupIs (group_of d)) → (b c : Bool) (line : ℕ) (groups : List D)
        → all_placed calls (map group_fits (map group_of groups)) true c ≡ true
        → Every (GroupFits calls core b c line) (map group_part (map group_of groups))
    groups_fit deeper b c line [] fine = tt
    groups_fit deeper b c line (g ∷ groups) fine =
        let w = both_hold (group_fits (group_of g) true c)
        (all_placed calls (map group_fits (map group_of groups)) true c) fine in
        (deeper g b c line w.0, groups_fit deeper b c line groups w.1)

    -- ---- layers

    -- an item of a block, by its parts
    abbrev item_walk : BlockItem-F A B C D E → Walk (List Stmt)
    item_walk y = item_step
        (map-BlockItem BlockItem StatementKind Compound Group Statement (Walk (List Stmt)) (ℕ → Walk Stmt) (Walk (List Stmt))
        GroupPart (Walk Stmt) block_item statement_kind compound group_part statement
        (map-BlockItem A B C D E BlockItem StatementKind Compound Group Statement item_of kind_of compound_of group_of
        statement_of y))

    abbrev item_fit : BlockItem-F A B C D E → Placed calls
    item_fit y = fit.item_step calls
        (map-BlockItem BlockItem StatementKind Compound Group Statement (Placed calls) (Placed calls) (Placed calls)
        (Placed calls) (Placed calls) (block_item_fits calls) (statement_fits calls) (compound_fits calls) group_fits fits_of
        (map-BlockItem A B C D E BlockItem StatementKind Compound Group Statement item_of kind_of compound_of group_of
        statement_of y))

    item_ok : ((e : E) → StatementIs (statement_of e)) → (y : BlockItem-F A B C D E) (b c : Bool) → item_fit y b c ≡ true
        → Leads calls core (AllStated b c) (item_walk y)
    item_ok statements (BlockItem-F.Declaration d) b c fine = declared_items b c d fine
      where
        declared_items : (b c : Bool) (d : Declaration) → inits_fit calls d.inits ≡ true
            → Leads calls core (AllStated b c) (locals d)
        declared_items b c d fine env behind all e at =
            let l = locals_lead calls core d fine env behind all e at in
            (l.0, l.1, λ x t objects allows. (l.2 x t objects).0)
    item_ok statements (BlockItem-F.Statement e) b c fine =
        single_leads calls core (Stated b c) (AllStated b c) (statement (statement_of e)) (one_stated b c)
        (statements e b c (statement_of e).line fine)

    -- a statement, by its parts
    abbrev kind_walk : StatementKind-F A B C D E → ℕ → Walk Stmt
    kind_walk y = kind_step
        (map-StatementKind BlockItem StatementKind Compound Group Statement (Walk (List Stmt)) (ℕ → Walk Stmt)
        (Walk (List Stmt)) GroupPart (Walk Stmt) block_item statement_kind compound group_part statement
        (map-StatementKind A B C D E BlockItem StatementKind Compound Group Statement item_of kind_of compound_of group_of
        statement_of y))

    abbrev kind_fit : StatementKind-F A B C D E → Placed calls
    kind_fit y = fit.statement_step calls
        (map-StatementKind BlockItem StatementKind Compound Group Statement (Placed calls) (Placed calls) (Placed calls)
        (Placed calls) (Placed calls) (block_item_fits calls) (statement_fits calls) (compound_fits calls) group_fits fits_of
        (map-StatementKind A B C D E BlockItem StatementKind Compound Group Statement item_of kind_of compound_of group_of
        statement_of y))

    module _ (bodies : (e : C) → CompoundIs (compound_of e)) (groups : (d : D) → GroupIs (group_of d))
        (statements : (e : E) → StatementIs (statement_of e)) where
      part : (e : E) (b c : Bool) → fits_of (statement_of e) b c ≡ true
          → Leads calls core (Stated b c) (statement (statement_of e))
      part e b c fine = statements e b c (statement_of e).line fine

      kind_ok : (y : StatementKind-F A B C D E) (b c : Bool) (line : ℕ) → kind_fit y b c ≡ true
          → Leads calls core (Stated b c) (kind_walk y line)
      kind_ok (StatementKind-F.Compound body) b c line fine =
          block_leads calls core b c line (compound (compound_of body)) (bodies body b c fine)
      kind_ok (StatementKind-F.Expr None) b c line fine = empty_leads calls core b c line
      kind_ok (StatementKind-F.Expr (Some e)) b c line fine = expr_leads calls core b c line e fine
      kind_ok (StatementKind-F.If test one None) b c line fine =
          let v = both_hold (expr_fits calls test) (fits_of (statement_of one) b c && true) fine in
          let w = both_hold (fits_of (statement_of one) b c) true v.1 in
          if_leads calls core b c line test (statement (statement_of one)) None v.0 (part one b c w.0) tt
      kind_ok (StatementKind-F.If test one (Some other)) b c line fine =
          let v = both_hold (expr_fits calls test) (fits_of (statement_of one) b c && fits_of (statement_of other) b c) fine in
          let w = both_hold (fits_of (statement_of one) b c) (fits_of (statement_of other) b c) v.1 in
          if_leads calls core b c line test (statement (statement_of one)) (Some (statement (statement_of other))) v.0
          (part one b c w.0) (part other b c w.1)
      kind_ok (StatementKind-F.While test body) b c line fine =
          let v = both_hold (expr_fits calls test) (fits_of (statement_of body) true true) fine in
          while_leads calls core b c line test (statement (statement_of body)) v.0 (part body true true v.1)
      kind_ok (StatementKind-F.Do body test) b c line fine =
          let v = both_hold (fits_of (statement_of body) true true) (expr_fits calls test) fine in
          do_leads calls core b c line (statement (statement_of body)) test (part body true true v.0) v.1
      kind_ok (StatementKind-F.For begin test step body) b c line fine =
          let u = both_hold (first_fits calls begin) (if_there (expr_fits calls) test && (if_there (expr_fits calls) step
          && fits_of (statement_of body) true true)) fine in
          let v = both_hold (if_there (expr_fits calls) test) (if_there (expr_fits calls) step
          && fits_of (statement_of body) true true) u.1 in
          let w = both_hold (if_there (expr_fits calls) step) (fits_of (statement_of body) true true) v.1 in
          for_leads calls core b c line begin test step (statement (statement_of body)) (locals_lead calls core) u.0 v.0 w.0
          (part body true true w.1)
      kind_ok (StatementKind-F.Switch on gs) b c line fine =
          let v = both_hold (expr_fits calls on) (all_placed calls (map group_fits (map group_of gs)) true c) fine in
          switch_leads_to calls core b c line on (map group_part (map group_of gs)) v.0 (groups_fit groups b c line gs v.1)
      kind_ok StatementKind-F.Break b c line fine = break_leads calls core b c line fine
      kind_ok StatementKind-F.Continue b c line fine = continue_leads calls core b c line fine
      kind_ok (StatementKind-F.Return e) b c line fine = return_leads calls core b c line e fine
      kind_ok (StatementKind-F.Stamped place from) b c line fine = never_leads calls core b c line (Stated b c)
      kind_ok (StatementKind-F.Timely place limit one other) b c line fine = never_leads calls core b c line (Stated b c)
      kind_ok (StatementKind-F.Expires names body caught) b c line fine = never_leads calls core b c line (Stated b c)

  -- ---- unrolled

  abbrev BI : Type 0
  BI = BlockItem-F BlockItem StatementKind Compound Group Statement

  item_unrolled : (z : BlockItem-F BlockItem StatementKind Compound Group Statement)
      → block_item (roll-BlockItem z) ≡ item_step (map-BlockItem BlockItem StatementKind Compound Group Statement
      (Walk (List Stmt)) (ℕ → Walk Stmt) (Walk (List Stmt)) GroupPart (Walk Stmt) block_item statement_kind compound
      group_part statement z)
  item_unrolled z = search (rules, the_lemmas)

  item_fits_unrolled : (z : BlockItem-F BlockItem StatementKind Compound Group Statement)
      → block_item_fits calls (roll-BlockItem z) ≡ fit.item_step calls (map-BlockItem BlockItem StatementKind Compound Group
      Statement (Placed calls) (Placed calls) (Placed calls) (Placed calls) (Placed calls) (block_item_fits calls)
      (statement_fits calls) (compound_fits calls) group_fits (λ s. statement_fits calls s.kind) z)
  item_fits_unrolled z = search (rules, the_lemmas)

  kind_unrolled : (z : StatementKind-F BlockItem StatementKind Compound Group Statement)
      → statement_kind (roll-StatementKind z) ≡ kind_step (map-StatementKind BlockItem StatementKind Compound Group Statement
      (Walk (List Stmt)) (ℕ → Walk Stmt) (Walk (List Stmt)) GroupPart (Walk Stmt) block_item statement_kind compound
      group_part statement z)
  kind_unrolled z = search (rules, the_lemmas)

  kind_fits_unrolled : (z : StatementKind-F BlockItem StatementKind Compound Group Statement)
      → statement_fits calls (roll-StatementKind z) ≡ fit.statement_step calls (map-StatementKind BlockItem StatementKind
      Compound Group Statement (Placed calls) (Placed calls) (Placed calls) (Placed calls) (Placed calls)
      (block_item_fits calls) (statement_fits calls) (compound_fits calls) group_fits (λ s. statement_fits calls s.kind) z)
  kind_fits_unrolled z = search (rules, the_lemmas)

  group_unrolled : (z : Group-F BlockItem StatementKind Compound Group Statement)
      → group_part (roll-Group z) ≡ record { labels = z.labels; body = one_by_one (map single (map statement z.statements)) }
  group_unrolled z = search (rules, group_lemmas)

  group_fits_unrolled : (z : Group-F BlockItem StatementKind Compound Group Statement)
      → group_fits (roll-Group z) ≡ group_step calls z.labels (map (λ s. statement_fits calls s.kind) z.statements)
  group_fits_unrolled z = search (rules, group_lemmas)

  compound_unrolled : (z : Compound-F BlockItem StatementKind Compound Group Statement)
      → compound (roll-Compound z) ≡ one_by_one (map block_item z.items)
  compound_unrolled z = search (rules, compound_lemmas)

  compound_fits_unrolled : (z : Compound-F BlockItem StatementKind Compound Group Statement)
      → compound_fits calls (roll-Compound z) ≡ all_placed calls (map (block_item_fits calls) z.items)
  compound_fits_unrolled z = search (rules, compound_lemmas)

  statement_by : (z : Statement-F BlockItem StatementKind Compound Group Statement) → KindIs z.kind
      → StatementIs (roll-Statement z)
  statement_by z so =
      let h : (roll-Statement z).kind ≡ z.kind = search (rules, statement_lemmas) in
      subst (λ kind. KindIs kind) (sym h) so

  -- ---- the induction

  item_by : (z : BI) → ((b c : Bool) → fit.item_step calls (map-BlockItem BlockItem StatementKind Compound Group
      Statement (Placed calls) (Placed calls) (Placed calls) (Placed calls) (Placed calls) (block_item_fits calls)
      (statement_fits calls) (compound_fits calls) group_fits (λ s. statement_fits calls s.kind) z) b c ≡ true
      → Leads calls core (AllStated b c) (item_step (map-BlockItem BlockItem StatementKind Compound Group Statement
      (Walk (List Stmt)) (ℕ → Walk Stmt) (Walk (List Stmt)) GroupPart (Walk Stmt) block_item statement_kind compound
      group_part statement z))) → ItemIs (roll-BlockItem z)
  item_by z so b c fine =
      subst (λ w. Leads calls core (AllStated b c) w) (sym (item_unrolled z))
      (so b c (sym (ap (λ (p : Placed calls). p b c) (item_fits_unrolled z)) ∙ fine))

  kind_by : (z : StatementKind-F BlockItem StatementKind Compound Group Statement)
      → ((b c : Bool) (line : ℕ) → fit.statement_step calls (map-StatementKind BlockItem StatementKind
      Compound Group Statement (Placed calls) (Placed calls) (Placed calls) (Placed calls) (Placed calls)
      (block_item_fits calls) (statement_fits calls) (compound_fits calls) group_fits (λ s. statement_fits calls s.kind) z)
      b c ≡ true
      → Leads calls core (Stated b c) (kind_step (map-StatementKind BlockItem StatementKind Compound Group Statement
      (Walk (List Stmt)) (ℕ → Walk Stmt) (Walk (List Stmt)) GroupPart (Walk Stmt) block_item statement_kind compound
      group_part statement z) line)) → KindIs (roll-StatementKind z)
  kind_by z so b c line fine =
      subst (λ (w : ℕ → Walk Stmt). Leads calls core (Stated b c) (w line)) (sym (kind_unrolled z))
      (so b c line (sym (ap (λ (p : Placed calls). p b c) (kind_fits_unrolled z)) ∙ fine))

  group_by : (z : Group-F BlockItem StatementKind Compound Group Statement)
      → ((b c : Bool) (line : ℕ) → group_step calls z.labels (map (λ s. statement_fits calls s.kind) z.statements) true c ≡ true
      → GroupFits calls core b c line (record {
        labels = z.labels;
        body = one_by_one (map single (map statement z.statements));
      })) → GroupIs (roll-Group z)
  group_by z so b c line fine =
      subst (λ g. GroupFits calls core b c line g) (sym (group_unrolled z))
      (so b c line (sym (ap (λ (p : Placed calls). p true c) (group_fits_unrolled z)) ∙ fine))

  compound_by : (z : Compound-F BlockItem StatementKind Compound Group Statement)
      → ((b c : Bool) → all_placed calls (map (block_item_fits calls) z.items) b c ≡ true
      → Leads calls core (AllStated b c) (one_by_one (map block_item z.items))) → CompoundIs (roll-Compound z)
  compound_by z so b c fine =
      subst (λ w. Leads calls core (AllStated b c) w) (sym (compound_unrolled z))
      (so b c (sym (ap (λ (p : Placed calls). p b c) (compound_fits_unrolled z)) ∙ fine))

  pub compound_is : (body : Compound) → CompoundIs body
  compound_is =
      ind-Compound ItemIs KindIs CompoundIs GroupIs StatementIs
      (λ x y is. subst (λ (z : BI). ItemIs (roll-BlockItem z)) is (item_by _ (λ b c fine.
      item_ok (λ e. e.0) (λ e. e.0) (λ e. e.0) (λ e. e.0) (λ e. e.0) (λ e. e.1) y b c fine)))
      (λ x y is. subst (λ (z : StatementKind-F BlockItem StatementKind Compound Group Statement).
      KindIs (roll-StatementKind z)) is (kind_by _ (λ b c line fine.
      kind_ok (λ e. e.0) (λ e. e.0) (λ e. e.0) (λ e. e.0) (λ e. e.0) (λ e. e.1) (λ e. e.1) (λ e. e.1) y b c line fine)))
      (λ x y is. subst (λ (z : Compound-F BlockItem StatementKind Compound Group Statement).
      CompoundIs (roll-Compound z)) is (compound_by _ (λ b c fine.
      compound_ok (λ e. e.0) y.items (λ e. e.1) b c fine)))
      (λ x y is. subst (λ (z : Group-F BlockItem StatementKind Compound Group Statement).
      GroupIs (roll-Group z)) is (group_by _ (λ b c line fine.
      group_ok (λ e. e.0) y.labels y.statements (λ e. e.1) b c line fine)))
      (λ x y is. subst (λ (z : Statement-F BlockItem StatementKind Compound Group Statement).
      StatementIs (roll-Statement z)) is (statement_by (record { kind = y.kind.0; line = y.line }) y.kind.1))

pub block_lawful : (calls : List ℕ → Bool) (core : Core) (body : Compound) (b c : Bool) → BlockIsLawful calls core body b c
block_lawful calls core body b c fine = compound_is calls core body b c fine
