-- What is lawful of each kind of statement, where its parts are.
use Rattle.std.proofs.Common.{◌≡◌, ℕ, ◌≤◌, nat_le, Bool, true, List, [], ◌∷◌, ◌++◌, length, ℤ, Option, Some, None, Ok, refl, ◌∙◌, rules, tests, arith}
use Rattle.base16.specs.declared.integer.IntType.{IntType}
use Rattle.c_tree.specs.declared.expression.Expr.{Expr as Source}
use Rattle.c_tree.specs.declared.declarations.Declaration.{Declaration}
use Rattle.c_tree.specs.declared.statements.First.{First}
use Rattle.c_tree.specs.declared.statements.First.TheVariants as first
use Rattle.c_tree.specs.declared.statements.Label.{Label}
use Rattle.core_tree.specs.declared.types.Ty.{Ty, out-Ty, the_lemmas as type_lemmas}
use Rattle.core_tree.specs.declared.types.Ty.TheVariants as ty
use Rattle.core_tree.specs.declared.types.Ty.TheOpen.{Ty-F}
use Rattle.core_tree.specs.declared.expressions.Expr.{Expr}
use Rattle.core_tree.specs.declared.statements.Stmt.{Stmt}
use Rattle.core_tree.specs.declared.statements.StmtKind.TheVariants as sk
use Rattle.core_tree.specs.declared.statements.Group.{Group, out-Group, the_lemmas as group_lemmas}
use Rattle.core_tree.specs.declared.program.Core.{Core}
use Rattle.core_tree.specs.Layout.{int_type_of}
use Rattle.core_tree.specs.Lawful.{IsComputed, IsExpr, LawfulExpr}
use Rattle.core_tree.specs.LawfulCore.{Text, in_loop, in_switch, IsTest, Every, OnSome, all_labels, IsDeclaration, IsFirst, first_expression, first_declarations, IsFree, IsStmt, AreStmts, AreGroups}
use Rattle.core_tree.specs.Rules.{is_scalar}
use Rattle.c_typing.specs.declared.environment.Env.{Env}
use Rattle.c_typing_laws.specs.Sound.{fits}
use Rattle.c_checking.specs.Walk.{Walk, ◌>>=◌, pure, reading, scoped}
use Rattle.c_checking.specs.Locals.{statement_at, locals}
use Rattle.c_checking.specs.Statements.{any_of, test_of, result_of, switched, if_some, any_value, test, labels_of, GroupPart, group_of, groups_of, block_stmt, expr_stmt, if_stmt, while_stmt, do_stmt, first_of, for_stmt, switch_stmt, no_result, return_stmt, not_yet}
use Rattle.c_checking_laws.specs.Standing.{Begins, Declared, Onward, IsText, Leads, Allows}
use Rattle.c_checking_laws.specs.Fitting.{if_there, expr_fits, first_fits, inits_fit}
use Rattle.c_checking_laws.proofs.Walks.{same_pair, stays, pure_leads, reading_leads, then_leads, scoped_leads}
use Rattle.c_checking_laws.proofs.Points.{any_lawful, test_lawful, result_lawful, switched_lawful, on_type}
use Rattle.c_checking_laws.proofs.Labels.{AreLabels, no_labels, more_labels, labels_are}

-- ---- texts

-- a statement, and several, in a text with these
abbrev pub Stated : Bool → Bool → Text → Stmt → Type 0
Stated breaks continues x s = Allows breaks continues x → IsStmt x s.kind

abbrev pub AllStated : Bool → Bool → Text → List Stmt → Type 0
AllStated breaks continues x all = Allows breaks continues x → AreStmts x all

pub none_stated : (b c : Bool) (x : Text) → AllStated b c x []
none_stated b c x allows = AreStmts.no_stmts x

pub all_more : (x : Text) (xs ys : List Stmt) → AreStmts x xs → AreStmts x ys → AreStmts x (xs ++ ys)
all_more x [] ys p q = q
all_more x (s ∷ xs) ys p q = more x s xs ys p (λ r. all_more x xs ys r q)
  where
    more : (x : Text) (s : Stmt) (xs ys : List Stmt) → AreStmts x (s ∷ xs) → (AreStmts x xs → AreStmts x (xs ++ ys))
        → AreStmts x (s ∷ xs ++ ys)
    more _ _ _ ys (AreStmts.one_more x s xs i rest) deeper = AreStmts.one_more x s (xs ++ ys) i (deeper rest)

pub more_stated : (b c : Bool) (x : Text) (xs ys : List Stmt) → AllStated b c x xs → AllStated b c x ys
    → AllStated b c x (xs ++ ys)
more_stated b c x xs ys p q allows = all_more x xs ys (p allows) (q allows)

pub one_stated : (b c : Bool) (x : Text) (a : Stmt) → Stated b c x a → AllStated b c x (a ∷ [])
one_stated b c x a p allows = AreStmts.one_more x a [] (p allows) (AreStmts.no_stmts x)

loop_allows : (b c : Bool) (x : Text) → Allows true true (in_loop x)
loop_allows b c x = (λ e. refl, λ e. refl)

module _ (calls : List ℕ → Bool) (core : Core) where
  -- a part that is lawful in the text of a loop
  loop_leads : {A : Type 0} (P : Text → A → Type 0) (walk : Walk A) → Leads calls core P walk
      → Leads calls core (λ x a. P (in_loop x) a) walk
  loop_leads P walk one env behind a d at =
      let m = one env behind a d at in (
        m.0,
        m.1,
        λ x t objects. m.2 (in_loop x)
            (record { program = t.program; inside = t.inside; early = t.early; result = t.result; params = t.params }) objects,
      )

  switch_leads : {A : Type 0} (P : Text → A → Type 0) (walk : Walk A) → Leads calls core P walk
      → Leads calls core (λ x a. P (in_switch x) a) walk
  switch_leads P walk one env behind a d at =
      let m = one env behind a d at in (
        m.0,
        m.1,
        λ x t objects. m.2 (in_switch x)
            (record { program = t.program; inside = t.inside; early = t.early; result = t.result; params = t.params }) objects,
      )

  -- ---- expressions

  pub any_leads : (line : ℕ) (e : Source) → fits calls e.kind ≡ true
      → Leads calls core (λ x v. LawfulExpr x.scope v) (any_value line e)
  any_leads line e fine =
      reading_leads calls core (λ x v. LawfulExpr x.scope v) (λ env. any_of env line e)
      (λ env v x d is t objects. any_lawful calls core env x d t objects line e v fine is)

  pub test_leads : (line : ℕ) (e : Source) → fits calls e.kind ≡ true
      → Leads calls core (λ x v. IsTest x.scope v) (test line e)
  test_leads line e fine =
      reading_leads calls core (λ x v. IsTest x.scope v) (λ env. test_of env line e)
      (λ env v x d is t objects. test_lawful calls core env x d t objects line e v fine is)

  -- ---- what a step makes of a part, and of two

  pub made_leads : {A B : Type 0} (P : Text → A → Type 0) (Q : Text → B → Type 0) (walk : Walk A) (f : A → B)
      → ((x : Text) (a : A) → P x a → Q x (f a)) → Leads calls core P walk
      → Leads calls core Q (walk >>= λ a. pure (f a))
  made_leads P Q walk f so one =
      then_leads calls core P (λ a x b. P x a → Q x b) Q walk (λ a. pure (f a)) one
      (λ a. pure_leads calls core (λ x b. P x a → Q x b) (f a) (λ x p. so x a p)) (λ x a b p q. q p)

  pub two_lead : {A B C : Type 0} (P : Text → A → Type 0) (Q : Text → B → Type 0) (R : Text → C → Type 0) (one : Walk A)
      (other : Walk B) (f : A → B → C) → ((x : Text) (a : A) (b : B) → P x a → Q x b → R x (f a b))
      → Leads calls core P one → Leads calls core Q other
      → Leads calls core R (one >>= λ a. other >>= λ b. pure (f a b))
  two_lead P Q R one other f so l m =
      then_leads calls core P (λ a x c. P x a → R x c) R one (λ a. other >>= λ b. pure (f a b)) l
      (λ a. made_leads Q (λ x c. P x a → R x c) other (f a) (λ x b q p. so x a b p q) m) (λ x a c p r. r p)

  pub three_lead : {A B C D : Type 0} (P : Text → A → Type 0) (Q : Text → B → Type 0) (R : Text → C → Type 0)
      (S : Text → D → Type 0) (one : Walk A) (other : Walk B) (third : Walk C) (f : A → B → C → D)
      → ((x : Text) (a : A) (b : B) (c : C) → P x a → Q x b → R x c → S x (f a b c)) → Leads calls core P one
      → Leads calls core Q other → Leads calls core R third
      → Leads calls core S (one >>= λ a. other >>= λ b. third >>= λ c. pure (f a b c))
  three_lead P Q R S one other third f so l m n =
      then_leads calls core P (λ a x d. P x a → S x d) S one (λ a. other >>= λ b. third >>= λ c. pure (f a b c)) l
      (λ a. two_lead Q R (λ x d. P x a → S x d) other third (f a) (λ x b c q r p. so x a b c p q r) m n)
      (λ x a d p r. r p)

  pub if_some_leads : {A B : Type 0} (P : Text → B → Type 0) (walk : A → Walk B) (a : Option A)
      → OnSome (λ b. Leads calls core P (walk b)) a → Leads calls core (λ x b. OnSome (P x) b) (if_some walk a)
  if_some_leads P walk None one = pure_leads calls core (λ x b. OnSome (P x) b) None (λ x. tt)
  if_some_leads P walk (Some a) one = made_leads P (λ x b. OnSome (P x) b) (walk a) Some (λ x b p. p) one

  -- an expression that may be left out
  some_fits : (P : Text → Expr → Type 0) (walk : Source → Walk Expr) (e : Option Source)
      → ((e : Source) → fits calls e.kind ≡ true → Leads calls core P (walk e)) → if_there (expr_fits calls) e ≡ true
      → OnSome (λ e. Leads calls core P (walk e)) e
  some_fits P walk None so fine = tt
  some_fits P walk (Some e) so fine = so e fine

  -- ---- each kind of statement

  module _ (b c : Bool) (line : ℕ) where
    abbrev IsLed : Walk Stmt → Type 0
    IsLed = Leads calls core (Stated b c)

    pub empty_leads : IsLed (pure (statement_at line (sk.Block [])))
    empty_leads = pure_leads calls core (Stated b c) (statement_at line (sk.Block []))
        (λ x allows. IsStmt.block x [] (AreStmts.no_stmts x))

    pub block_leads : (body : Walk (List Stmt)) → Leads calls core (AllStated b c) body → IsLed (block_stmt line body)
    unfolding block_stmt
    block_leads body one =
        made_leads (AllStated b c) (Stated b c) (scoped body) (λ all. statement_at line (sk.Block all))
        (λ x all p allows. IsStmt.block x all (p allows)) (scoped_leads calls core (AllStated b c) body one)

    pub expr_leads : (e : Source) → fits calls e.kind ≡ true → IsLed (expr_stmt line e)
    unfolding expr_stmt
    expr_leads e fine =
        made_leads (λ x v. LawfulExpr x.scope v) (Stated b c) (any_value line e) (λ v. statement_at line (sk.Expr v))
        (λ x v p allows. IsStmt.expression x v p) (any_leads line e fine)

    if_stated : (x : Text) (t : Expr) (one : Stmt) (other : Option Stmt) → IsTest x.scope t → Stated b c x one
        → OnSome (Stated b c x) other → Stated b c x (statement_at line (sk.If t one other))
    if_stated x t one None p q r allows = IsStmt.if x t one p (q allows)
    if_stated x t one (Some other) p q r allows = IsStmt.if_else x t one other p (q allows) (r allows)

    pub if_leads : (e : Source) (one : Walk Stmt) (other : Option (Walk Stmt)) → fits calls e.kind ≡ true → IsLed one
        → OnSome IsLed other → IsLed (if_stmt line e one other)
    unfolding if_stmt
    if_leads e one other fine l m =
        three_lead (λ x v. IsTest x.scope v) (Stated b c) (λ x o. OnSome (Stated b c x) o) (Stated b c) (test line e) one
        (if_some (λ walk. walk) other) (λ t a o. statement_at line (sk.If t a o)) if_stated (test_leads line e fine) l
        (if_some_leads (Stated b c) (λ walk. walk) other m)

    pub while_leads : (e : Source) (body : Walk Stmt) → fits calls e.kind ≡ true → Leads calls core (Stated true true) body
        → IsLed (while_stmt line e body)
    unfolding while_stmt
    while_leads e body fine l =
        two_lead (λ x v. IsTest x.scope v) (λ x s. Stated true true (in_loop x) s) (Stated b c) (test line e) body
        (λ t s. statement_at line (sk.While t s))
        (λ x t s p q allows. IsStmt.while x t s p (q (loop_allows b c x))) (test_leads line e fine)
        (loop_leads (Stated true true) body l)

    pub do_leads : (body : Walk Stmt) (e : Source) → Leads calls core (Stated true true) body → fits calls e.kind ≡ true
        → IsLed (do_stmt line body e)
    unfolding do_stmt
    do_leads body e l fine =
        two_lead (λ x s. Stated true true (in_loop x) s) (λ x v. IsTest x.scope v) (Stated b c) body (test line e)
        (λ s t. statement_at line (sk.Do s t))
        (λ x s t q p allows. IsStmt.do_while x s t (q (loop_allows b c x)) p)
        (loop_leads (Stated true true) body l) (test_leads line e fine)

    -- what a `for` begins with
    abbrev Begun : Text → Option Stmt → Type 0
    Begun x f = OnSome (λ (s : Stmt). IsFirst s.kind × IsStmt x s.kind) f

    abbrev Declares : Text → List Stmt → Type 0
    Declares x all = AreStmts x all × Every IsDeclaration all

    first_leads : (begin : First) → ((d : Declaration) → inits_fit calls d.inits ≡ true → Leads calls core Declares (locals d))
        → first_fits calls begin ≡ true → Leads calls core Begun (first_of line begin)
    unfolding first_of expr_stmt
    first_leads (first.Expr e) declares fine =
        if_some_leads (λ x s. IsFirst s.kind × IsStmt x s.kind) (expr_stmt line) e
        (some_first e fine)
      where
        some_first : (e : Option Source) → if_there (expr_fits calls) e ≡ true
            → OnSome (λ e. Leads calls core (λ x s. IsFirst s.kind × IsStmt x s.kind) (expr_stmt line e)) e
        some_first None fine = tt
        some_first (Some e) fine =
            made_leads (λ x v. LawfulExpr x.scope v) (λ x s. IsFirst s.kind × IsStmt x s.kind) (any_value line e)
            (λ v. statement_at line (sk.Expr v)) (λ x v p. (first_expression v, IsStmt.expression x v p))
            (any_leads line e fine)
    first_leads (first.Declaration d) declares fine =
        made_leads Declares Begun (locals d) (λ all. Some (statement_at line (sk.Block all)))
        (λ x all p. (first_declarations all p.1, IsStmt.block x all p.0)) (declares d fine)

    for_stated : (x : Text) (f : Option Stmt) (t e : Option Expr) (s : Stmt) → Begun x f → OnSome (IsTest x.scope) t
        → OnSome (LawfulExpr x.scope) e → Stated true true (in_loop x) s → Stated b c x (statement_at line (sk.For f t e s))
    for_stated x None t e s p q r o allows = IsStmt.for x t e s q r (o (loop_allows b c x))
    for_stated x (Some f) t e s p q r o allows = IsStmt.for_first x f t e s p.0 p.1 q r (o (loop_allows b c x))

    pub for_leads : (begin : First) (controlling step : Option Source) (body : Walk Stmt)
        → ((d : Declaration) → inits_fit calls d.inits ≡ true → Leads calls core Declares (locals d))
        → first_fits calls begin ≡ true → if_there (expr_fits calls) controlling ≡ true
        → if_there (expr_fits calls) step ≡ true → Leads calls core (Stated true true) body
        → IsLed (for_stmt line begin controlling step body)
    unfolding for_stmt
    for_leads begin controlling step body declares fb ft fs l =
        scoped_leads calls core (Stated b c) _
        (then_leads calls core Begun (λ f x s. Begun x f → Stated b c x s) (Stated b c) (first_of line begin) _
        (first_leads begin declares fb)
        (λ f. three_lead (λ x t. OnSome (IsTest x.scope) t) (λ x e. OnSome (LawfulExpr x.scope) e)
        (λ x s. Stated true true (in_loop x) s) (λ x s. Begun x f → Stated b c x s) (if_some (test line) controlling)
        (if_some (any_value line) step) body (λ t e s. statement_at line (sk.For f t e s))
        (λ x t e s q r o p. for_stated x f t e s p q r o)
        (if_some_leads (λ x v. IsTest x.scope v) (test line) controlling
        (some_fits (λ x v. IsTest x.scope v) (test line) controlling (test_leads line) ft))
        (if_some_leads (λ x v. LawfulExpr x.scope v) (any_value line) step
        (some_fits (λ x v. LawfulExpr x.scope v) (any_value line) step (any_leads line) fs))
        (loop_leads (Stated true true) body l))
        (λ x f s p q. q p))

    -- ---- `return`

    no_result_leads : (env behind : Env) (s : Stmt) (l : Ty-F Ty) → out-Ty env.result ≡ l → Declared calls core env
        → no_result line l env ≡ Ok (s, behind)
        → Declared calls core behind × Onward core env behind
        × ((x : Text) → IsText core env x → Begins behind.locals x.scope.objects → Stated b c x s)
    no_result_leads env behind s Ty-F.Void at_l d at =
        let void : env.result ≡ ty.Void = search (rules, type_lemmas) in
        let w = same_pair (statement_at line (sk.Return None)) s env behind at in
        rw (← w.0, ← w.1) (
          d,
          stays calls core env,
          λ x t objects allows.
              IsStmt.returned x (t.result ∙ void) (free x env t),
        )
      where
        free : (x : Text) (env : Env) → IsText core env x → IsFree x
        free x env t early = t.inside
    no_result_leads env behind s _ at_l d at = absurd (search rules)

    result_leads : (e : Source) → fits calls e.kind ≡ true
        → IsLed (reading (λ env. result_of env line e) >>= λ x. pure (statement_at line (sk.Return (Some x))))
    result_leads e fine =
        made_leads (λ x v. (IsExpr x.scope v x.result × (is_scalar x.result ≡ true)) × IsFree x) (Stated b c)
        (reading (λ env. result_of env line e)) (λ v. statement_at line (sk.Return (Some v)))
        (λ x v p allows. IsStmt.returned_value x v p.0.0 p.0.1 p.1)
        (reading_leads calls core (λ x v. (IsExpr x.scope v x.result × (is_scalar x.result ≡ true)) × IsFree x)
        (λ env. result_of env line e)
        (λ env v x d is t objects.
        let r = result_lawful calls core env x d t objects line e v fine is in
        ((rw t.result r.0, rw t.result r.1), λ early. t.inside)))

    pub return_leads : (e : Option Source) → if_there (expr_fits calls) e ≡ true → IsLed (return_stmt line e)
    unfolding return_stmt
    return_leads None fine = λ env behind s d at. no_result_leads env behind s (out-Ty env.result) refl d at
    return_leads (Some e) fine = result_leads e fine

    pub never_leads : {A : Type 0} (P : Text → A → Type 0) → Leads calls core P (not_yet line)
    never_leads P env behind a d at = absurd (search rules)

    pub break_leads : b ≡ true → IsLed (pure (statement_at line sk.Break))
    break_leads fine = pure_leads calls core (Stated b c) (statement_at line sk.Break)
        (λ x allows. IsStmt.break x (allows.0 fine))

    pub continue_leads : c ≡ true → IsLed (pure (statement_at line sk.Continue))
    continue_leads fine = pure_leads calls core (Stated b c) (statement_at line sk.Continue)
        (λ x allows. IsStmt.continue x (allows.1 fine))

    -- ---- `switch`

    -- groups with these labels before them
    pub record Grouped (y : IntType) (before : List (Option ℤ)) (x : Text) (groups : List Group) : Type 0 where
      pub groups_lawful : Allows b c x → AreGroups (in_switch x) groups
      pub labels : AreLabels y before (all_labels groups)

    group_labels : (labels : List (Option ℤ)) (body : List Stmt) → (out-Group (group_of labels body)).labels ≡ labels
    group_labels labels body = search (rules, group_lemmas)

    group_body : (labels : List (Option ℤ)) (body : List Stmt) → (out-Group (group_of labels body)).body ≡ body
    group_body labels body = search (rules, group_lemmas)

    in_switch_allows : (x : Text) → Allows b c x → Allows true c (in_switch x)
    in_switch_allows x allows = (λ e. refl, allows.1)

    at_least_one : (n m : ℕ) → n ≡ m → nat_le 1 m ≡ true → 1 ≤ n
    at_least_one n m same some = grind (arith, tests)

    grouped : (y : IntType) (before : List (Option ℤ)) (x : Text) (labels : List (Option ℤ)) (written : List Label)
        (body : List Stmt) (groups : List Group) → nat_le 1 (length written) ≡ true
        → AreLabels y before labels × (length labels ≡ length written) → AllStated true c (in_switch x) body
        → Grouped y (before ++ labels) x groups → Grouped y before x (group_of labels body ∷ groups)
    grouped y before x labels written body groups some are stated more = record {
      groups_lawful = λ allows. AreGroups.one_group (in_switch x) (group_of labels body) groups
          (rw group_labels (at_least_one (length labels) (length written) are.1 some))
          (rw group_body (stated (in_switch_allows x allows))) (more.groups_lawful allows);
      labels = rw group_labels (more_labels y before labels (all_labels groups) are.0 more.labels);
    }

    abbrev pub GroupFits : GroupPart → Type 0
    GroupFits g = (nat_le 1 (length g.labels) ≡ true) × Leads calls core (AllStated true c) g.body

    groups_lead : (y : IntType) (before : List (Option ℤ)) (groups : List GroupPart) → Every GroupFits groups
        → Leads calls core (Grouped y before) (groups_of line y before groups)
    groups_lead y before [] fine =
        pure_leads calls core (Grouped y before) []
        (λ x. record { groups_lawful = λ allows. AreGroups.no_groups (in_switch x); labels = no_labels y before })
    groups_lead y before (g ∷ groups) fine =
        then_leads calls core (λ x ls. AreLabels y before ls × (length ls ≡ length g.labels))
        (λ ls x all. AreLabels y before ls × (length ls ≡ length g.labels) → Grouped y before x all) (Grouped y before)
        (reading (λ env. labels_of env line y before g.labels)) _
        (reading_leads calls core (λ x ls. AreLabels y before ls × (length ls ≡ length g.labels))
        (λ env. labels_of env line y before g.labels)
        (λ env ls x d is t objects. labels_are env line y before g.labels ls is))
        (λ ls. two_lead (λ x body. AllStated true c (in_switch x) body) (Grouped y (before ++ ls))
        (λ x all. AreLabels y before ls × (length ls ≡ length g.labels) → Grouped y before x all) g.body
        (groups_of line y (before ++ ls) groups) (λ body more. group_of ls body ∷ more)
        (λ x body more stated rest are. grouped y before x ls g.labels body more fine.0.0 are stated rest)
        (switch_leads (AllStated true c) g.body fine.0.1) (groups_lead y (before ++ ls) groups fine.1))
        (λ x ls all are so. so are)

    abbrev On : Text → Expr → Type 0
    On x on = (y : IntType) × IsComputed y × IsExpr x.scope on (ty.Num y)

    switch_stated : (x : Text) (on : Expr) (groups : List Group) → On x on → Grouped (int_type_of on.ty) [] x groups
        → Stated b c x (statement_at line (sk.Switch on groups))
    switch_stated x on groups p q allows =
        let e : int_type_of on.ty ≡ p.0 = on_type x.scope on p.0 p.2 in
        let l : AreLabels p.0 [] (all_labels groups) = rw e at q.labels in
        IsStmt.switch x on groups p.0 p.1 p.2 l.apart l.values (q.groups_lawful allows)

    pub switch_leads_to : (e : Source) (groups : List GroupPart) → fits calls e.kind ≡ true → Every GroupFits groups
        → IsLed (switch_stmt line e groups)
    unfolding switch_stmt
    switch_leads_to e groups fine all =
        then_leads calls core On (λ on x s. On x on → Stated b c x s) (Stated b c) (reading (λ env. switched env line e)) _
        (reading_leads calls core On (λ env. switched env line e)
        (λ env on x d is t objects. switched_lawful calls core env x d t objects line e on fine is))
        (λ on. made_leads (Grouped (int_type_of on.ty) []) (λ x s. On x on → Stated b c x s)
        (groups_of line (int_type_of on.ty) [] groups) (λ gs. statement_at line (sk.Switch on gs))
        (λ x gs q p. switch_stated x on gs p q) (groups_lead (int_type_of on.ty) [] groups all))
        (λ x on s p q. q p)
