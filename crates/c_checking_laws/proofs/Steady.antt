-- A part of a function leaves what is declared around it: it adds names and locals, and changes nothing else.
use Rattle.std.proofs.Common.{append-nil, ◌≡◌, ℕ, Bool, true, false, cond, List, [], ◌∷◌, ◌++◌, map, length, ℤ, Option, Some, None, Ok, Err, refl, sym, subst, ◌∙◌, rules}
use Rattle.c_tree.specs.declared.expression.Expr.{Expr as Source}
use Rattle.c_tree.specs.declared.qualified.Spec.{Spec}
use Rattle.c_tree.specs.declared.declarations.Init.{Init}
use Rattle.c_tree.specs.declared.declarations.Declaration.{Declaration}
use Rattle.c_tree.specs.declared.statements.First.{First}
use Rattle.c_tree.specs.declared.statements.First.TheVariants as first
use Rattle.c_tree.specs.declared.statements.BlockItem.{BlockItem, roll-BlockItem, map-BlockItem}
use Rattle.c_tree.specs.declared.statements.BlockItem.TheOpen.{BlockItem-F, StatementKind-F}
use Rattle.c_tree.specs.declared.statements.StatementKind.{StatementKind, roll-StatementKind, map-StatementKind, the_lemmas}
use Rattle.c_tree.specs.declared.statements.Statement.{Statement, Statement-F, roll-Statement, the_lemmas as statement_lemmas}
use Rattle.c_tree.specs.declared.statements.Compound.{Compound, Compound-F, roll-Compound, ind-Compound, the_lemmas as compound_lemmas}
use Rattle.c_tree.specs.declared.statements.Group.{Group, Group-F, roll-Group, the_lemmas as group_lemmas}
use Rattle.base16.specs.declared.integer.IntType.{IntType}
use Rattle.core_tree.specs.declared.types.Ty.{Ty, out-Ty}
use Rattle.core_tree.specs.declared.types.Ty.TheOpen.{Ty-F}
use Rattle.core_tree.specs.declared.statements.Stmt.{Stmt}
use Rattle.core_tree.specs.declared.statements.StmtKind.TheVariants as sk
use Rattle.core_tree.specs.Layout.{int_type_of}
use Rattle.core_tree.specs.LawfulCore.{Every}
use Rattle.c_typing.specs.declared.fault.Rule.{Rule}
use Rattle.c_typing.specs.declared.fault.Rule.TheVariants.{Twice}
use Rattle.c_typing.specs.declared.environment.Env.{Env}
use Rattle.c_typing.specs.declared.environment.What.TheVariants as w
use Rattle.c_typing.specs.Outcome.{Outcome}
use Rattle.c_typing.specs.TypeNames.{Qualified}
use Rattle.c_checking.specs.Walk.{Walk, ◌>>=◌, pure, and_then, reading, with_env, break_at, one_by_one, single, inner, outer, leaving, scoped, is_declared, declare_local}
use Rattle.c_checking.specs.Declarators.{base_of, declared_type}
use Rattle.c_checking.specs.Initialisers.{stored}
use Rattle.c_checking.specs.Locals.{statement_at, entered, local, locals}
use Rattle.c_checking.specs.Statements.{any_of, test_of, result_of, switched, if_some, any_value, test, labels_of, GroupPart, group_of, groups_of, block_stmt, expr_stmt, if_stmt, while_stmt, do_stmt, first_of, for_stmt, switch_stmt, no_result, return_stmt, not_yet, kind_step, item_step, statement_kind, statement, block_item, compound}
use Rattle.c_checking_laws.specs.Walked.{Around, Steady}
use Rattle.c_checking_laws.proofs.Lists.{begins_itself, begins_on, take_begins}
use Rattle.c_checking_laws.proofs.Walks.{same_pair}
use Rattle.c_checking_laws.proofs.Texts.{group_part}

pub stays : (env : Env) → Around env env
stays env = record {
  structs = refl;
  const_members = refl;
  defining = refl;
  functions = refl;
  result = refl;
  inside = refl;
  start = refl;
  names = begins_itself env.names;
}

pub goes_on : (env mid behind : Env) → Around env mid → Around mid behind → Around env behind
goes_on env mid behind p q = record {
  structs = q.structs ∙ p.structs;
  const_members = q.const_members ∙ p.const_members;
  defining = q.defining ∙ p.defining;
  functions = q.functions ∙ p.functions;
  result = q.result ∙ p.result;
  inside = q.inside ∙ p.inside;
  start = q.start ∙ p.start;
  names = begins_on env.names mid.names behind.names p.names q.names;
}

pure_steady : {A : Type 0} (a : A) → Steady (pure a)
pure_steady a env behind b at = let w = same_pair a b env behind at in subst (λ en. Around env en) w.1 (stays env)

broken_steady : {A : Type 0} (rule : Rule) (line : ℕ) → Steady {A = A} (break_at rule line)
broken_steady rule line env behind a at = absurd (search rules)

reading_by : {A : Type 0} (env behind : Env) (a : A) (o : Outcome A) → with_env env o ≡ Ok (a, behind) → Around env behind
reading_by env behind a (Err f) at = absurd (search rules)
reading_by env behind a (Ok b) at = let w = same_pair b a env behind at in subst (λ en. Around env en) w.1 (stays env)

reading_steady : {A : Type 0} (means : Env → Outcome A) → Steady (reading means)
reading_steady means env behind a at = reading_by env behind a (means env) at

then_by : {A B : Type 0} (env : Env) (m : Outcome (A × Env)) (next : A → Walk B) (b : B) (behind : Env)
    → ((a : A) (mid : Env) → m ≡ Ok (a, mid) → Around env mid) → ((a : A) → Steady (next a))
    → and_then m next ≡ Ok (b, behind) → Around env behind
then_by env (Err f) next b behind one two at = absurd (search rules)
then_by env (Ok p) next b behind one two at =
    goes_on env p.1 behind (one p.0 p.1 refl) (two p.0 p.1 behind b at)

then_steady : {A B : Type 0} (walk : Walk A) (next : A → Walk B) → Steady walk → ((a : A) → Steady (next a))
    → Steady (walk >>= next)
then_steady walk next one two env behind b at =
    then_by env (walk env) next b behind (λ a mid is. one env mid a is) two at

left_by : {A : Type 0} (env : Env) (m : Outcome (A × Env)) (a : A) (behind : Env)
    → ((a : A) (mid : Env) → m ≡ Ok (a, mid) → Around (inner env) mid) → leaving env m ≡ Ok (a, behind) → Around env behind
left_by env (Err f) a behind one at = absurd (search rules)
left_by env (Ok p) a behind one at =
    let w = same_pair p.0 a (outer env p.1) behind at in
    let o = one p.0 p.1 refl in
    subst (λ en. Around env en) w.1 (record {
      structs = o.structs;
      const_members = o.const_members;
      defining = o.defining;
      functions = o.functions;
      result = o.result;
      inside = o.inside;
      start = refl;
      names = ([], take_begins env.names p.1.names o.names ∙ sym (append-nil env.names));
    })

scoped_steady : {A : Type 0} (walk : Walk A) → Steady walk → Steady (scoped walk)
unfolding scoped
scoped_steady walk one env behind a at =
    left_by env (walk (inner env)) a behind (λ b mid is. one (inner env) mid b is) at

one_by_one_steady : {A : Type 0} (walks : List (Walk (List A))) → Every (λ (w : Walk (List A)). Steady w) walks
    → Steady (one_by_one walks)
one_by_one_steady [] all = pure_steady []
one_by_one_steady (walk ∷ walks) all =
    then_steady walk (λ xs. one_by_one walks >>= λ ys. pure (xs ++ ys)) all.0
    (λ xs. then_steady (one_by_one walks) (λ ys. pure (xs ++ ys)) (one_by_one_steady walks all.1) (λ ys. pure_steady (xs ++ ys)))

single_steady : {A : Type 0} (walk : Walk A) → Steady walk → Steady (single walk)
single_steady walk one = then_steady walk (λ a. pure (a ∷ [])) one (λ a. pure_steady (a ∷ []))

made_steady : {A B : Type 0} (walk : Walk A) (f : A → B) → Steady walk → Steady (walk >>= λ a. pure (f a))
made_steady walk f one = then_steady walk (λ a. pure (f a)) one (λ a. pure_steady (f a))

if_some_steady : {A B : Type 0} (walk : A → Walk B) (a : Option A) → ((x : A) → a ≡ Some x → Steady (walk x))
    → Steady (if_some walk a)
if_some_steady walk None one = pure_steady None
if_some_steady walk (Some a) one = made_steady (walk a) Some (one a refl)

-- ---- locals

pub declared_around : (env : Env) (name : List ℕ) (u : Ty) (readonly : Bool) → Around env (declare_local name u readonly env)
declared_around env name u readonly = record {
  structs = refl;
  const_members = refl;
  defining = refl;
  functions = refl;
  result = refl;
  inside = refl;
  start = refl;
  names = (record { name = name; what = w.Local (length env.locals) u readonly } ∷ [], refl);
}

entered_by : (line : ℕ) (name : List ℕ) (t : Qualified) (env behind : Env) (n : ℕ) (b : Bool)
    → cond b (break_at Twice line env) (pure (length env.locals) (declare_local name t.ty t.readonly env)) ≡ Ok (n, behind)
    → Around env behind
entered_by line name t env behind n true at = absurd (search rules)
entered_by line name t env behind n false at =
    let w = same_pair (length env.locals) n (declare_local name t.ty t.readonly env) behind at in
    subst (λ en. Around env en) w.1 (declared_around env name t.ty t.readonly)

entered_steady : (line : ℕ) (name : List ℕ) (t : Qualified) → Steady (entered line name t)
entered_steady line name t env behind n at = entered_by line name t env behind n (is_declared env name) at

local_steady : (sp : Spec) (i : Init) → Steady (local sp i)
unfolding local
local_steady sp i =
    then_steady (reading (λ env. declared_type env i.line (base_of env sp) i.declr.stars i.declr.bounds)) _
    (reading_steady (λ env. declared_type env i.line (base_of env sp) i.declr.stars i.declr.bounds))
    (λ t. then_steady (entered i.line i.declr.name t) _ (entered_steady i.line i.declr.name t)
    (λ n. made_steady (reading (λ env. stored env i.line t.ty i.initial)) (λ all. statement_at i.line (sk.Declare n all))
    (reading_steady (λ env. stored env i.line t.ty i.initial))))

locals_steady : (d : Declaration) → Steady (locals d)
locals_steady d = one_by_one_steady (map (λ i. single (local d.spec i)) d.inits) (each_local d.inits)
  where
    each_local : (is : List Init) → Every (λ (w : Walk (List Stmt)). Steady w) (map (λ i. single (local d.spec i)) is)
    each_local [] = tt
    each_local (i ∷ is) = (single_steady (local d.spec i) (local_steady d.spec i), each_local is)

-- ---- statements

any_steady : (line : ℕ) (e : Source) → Steady (any_value line e)
any_steady line e = reading_steady (λ env. any_of env line e)

test_steady : (line : ℕ) (e : Source) → Steady (test line e)
test_steady line e = reading_steady (λ env. test_of env line e)

block_steady : (line : ℕ) (body : Walk (List Stmt)) → Steady body → Steady (block_stmt line body)
unfolding block_stmt
block_steady line body one =
    made_steady (scoped body) (λ all. statement_at line (sk.Block all)) (scoped_steady body one)

expr_steady : (line : ℕ) (e : Source) → Steady (expr_stmt line e)
unfolding expr_stmt
expr_steady line e = made_steady (any_value line e) (λ x. statement_at line (sk.Expr x)) (any_steady line e)

if_steady : (line : ℕ) (e : Source) (one : Walk Stmt) (other : Option (Walk Stmt)) → Steady one
    → ((x : Walk Stmt) → other ≡ Some x → Steady x) → Steady (if_stmt line e one other)
unfolding if_stmt
if_steady line e one other p q =
    then_steady (test line e) _ (test_steady line e) (λ t. then_steady one _ p (λ a.
    made_steady (if_some (λ walk. walk) other) (λ b. statement_at line (sk.If t a b)) (if_some_steady (λ walk. walk) other q)))

while_steady : (line : ℕ) (e : Source) (body : Walk Stmt) → Steady body → Steady (while_stmt line e body)
unfolding while_stmt
while_steady line e body p =
    then_steady (test line e) _ (test_steady line e) (λ t. made_steady body (λ b. statement_at line (sk.While t b)) p)

do_steady : (line : ℕ) (body : Walk Stmt) (e : Source) → Steady body → Steady (do_stmt line body e)
unfolding do_stmt
do_steady line body e p =
    then_steady body _ p (λ b. made_steady (test line e) (λ t. statement_at line (sk.Do b t)) (test_steady line e))

first_steady : (line : ℕ) (begin : First) → Steady (first_of line begin)
unfolding first_of
first_steady line (first.Expr e) = if_some_steady (expr_stmt line) e (λ x is. expr_steady line x)
first_steady line (first.Declaration d) =
    made_steady (locals d) (λ all. Some (statement_at line (sk.Block all))) (locals_steady d)

for_steady : (line : ℕ) (begin : First) (controlling step : Option Source) (body : Walk Stmt) → Steady body
    → Steady (for_stmt line begin controlling step body)
unfolding for_stmt
for_steady line begin controlling step body p =
    scoped_steady _ (then_steady (first_of line begin) _ (first_steady line begin) (λ f.
    then_steady (if_some (test line) controlling) _ (if_some_steady (test line) controlling (λ x is. test_steady line x)) (λ t.
    then_steady (if_some (any_value line) step) _ (if_some_steady (any_value line) step (λ x is. any_steady line x)) (λ e.
    made_steady body (λ b. statement_at line (sk.For f t e b)) p))))

groups_steady : (line : ℕ) (y : IntType) (before : List (Option ℤ)) (groups : List GroupPart)
    → Every (λ (g : GroupPart). Steady g.body) groups → Steady (groups_of line y before groups)
groups_steady line y before [] all = pure_steady []
groups_steady line y before (g ∷ groups) all =
    then_steady (reading (λ env. labels_of env line y before g.labels)) _
    (reading_steady (λ env. labels_of env line y before g.labels)) (λ ls.
    then_steady g.body _ all.0 (λ body.
    made_steady (groups_of line y (before ++ ls) groups) (λ more. group_of ls body ∷ more)
    (groups_steady line y (before ++ ls) groups all.1)))

switch_steady : (line : ℕ) (e : Source) (groups : List GroupPart) → Every (λ (g : GroupPart). Steady g.body) groups
    → Steady (switch_stmt line e groups)
unfolding switch_stmt
switch_steady line e groups all =
    then_steady (reading (λ env. switched env line e)) _ (reading_steady (λ env. switched env line e)) (λ on.
    made_steady (groups_of line (int_type_of on.ty) [] groups) (λ gs. statement_at line (sk.Switch on gs))
    (groups_steady line (int_type_of on.ty) [] groups all))

no_result_steady : (line : ℕ) (l : Ty-F Ty) → Steady (no_result line l)
no_result_steady line Ty-F.Void = pure_steady (statement_at line (sk.Return None))
no_result_steady line (Ty-F.Num t) = broken_steady _ line
no_result_steady line (Ty-F.Pointer to r) = broken_steady _ line
no_result_steady line (Ty-F.Array of n) = broken_steady _ line
no_result_steady line (Ty-F.Struct tag) = broken_steady _ line

return_steady : (line : ℕ) (e : Option Source) → Steady (return_stmt line e)
unfolding return_stmt
return_steady line None = λ env behind s at. no_result_steady line (out-Ty env.result) env behind s at
return_steady line (Some e) =
    made_steady (reading (λ env. result_of env line e)) (λ x. statement_at line (sk.Return (Some x)))
    (reading_steady (λ env. result_of env line e))

never_steady : {A : Type 0} (line : ℕ) → Steady {A = A} (not_yet line)
never_steady line = broken_steady _ line

-- ---- the induction

abbrev KindIs : StatementKind → Type 0
KindIs kind = (line : ℕ) → Steady (statement_kind kind line)

abbrev StatementIs : Statement → Type 0
StatementIs s = KindIs s.kind

abbrev ItemIs : BlockItem → Type 0
ItemIs i = Steady (block_item i)

abbrev CompoundIs : Compound → Type 0
CompoundIs body = Steady (compound body)

abbrev GroupIs : Group → Type 0
GroupIs g = Steady (group_part g).body

items_steady : {A : Type 0} (item_of : A → BlockItem) → ((a : A) → ItemIs (item_of a)) → (all : List A)
    → Every (λ (w : Walk (List Stmt)). Steady w) (map block_item (map item_of all))
items_steady item_of deeper [] = tt
items_steady item_of deeper (a ∷ all) = (deeper a, items_steady item_of deeper all)

statements_steady : {E : Type 0} (statement_of : E → Statement) → ((e : E) → StatementIs (statement_of e)) → (all : List E)
    → Every (λ (w : Walk (List Stmt)). Steady w) (map single (map statement (map statement_of all)))
statements_steady statement_of deeper [] = tt
statements_steady statement_of deeper (e ∷ all) =
    (single_steady (statement (statement_of e)) (deeper e (statement_of e).line), statements_steady statement_of deeper all)

module _ {A B C D E : Type 0} (item_of : A → BlockItem) (kind_of : B → StatementKind) (compound_of : C → Compound)
    (group_of' : D → Group) (statement_of : E → Statement) where
  all_groups : ((d : D) → GroupIs (group_of' d)) → (groups : List D)
      → Every (λ (g : GroupPart). Steady g.body) (map group_part (map group_of' groups))
  all_groups deeper [] = tt
  all_groups deeper (g ∷ groups) = (deeper g, all_groups deeper groups)

  item_ok : ((e : E) → StatementIs (statement_of e)) → (y : BlockItem-F A B C D E)
      → Steady (item_step (map-BlockItem BlockItem StatementKind Compound Group Statement (Walk (List Stmt)) (ℕ → Walk Stmt)
      (Walk (List Stmt)) GroupPart (Walk Stmt) block_item statement_kind compound group_part statement
      (map-BlockItem A B C D E BlockItem StatementKind Compound Group Statement item_of kind_of compound_of group_of'
      statement_of y)))
  item_ok statements (BlockItem-F.Declaration d) = locals_steady d
  item_ok statements (BlockItem-F.Statement e) =
      single_steady (statement (statement_of e)) (statements e (statement_of e).line)

  kind_ok : ((e : C) → CompoundIs (compound_of e)) → ((d : D) → GroupIs (group_of' d))
      → ((e : E) → StatementIs (statement_of e)) → (y : StatementKind-F A B C D E) (line : ℕ)
      → Steady (kind_step (map-StatementKind BlockItem StatementKind Compound Group Statement (Walk (List Stmt))
      (ℕ → Walk Stmt) (Walk (List Stmt)) GroupPart (Walk Stmt) block_item statement_kind compound group_part statement
      (map-StatementKind A B C D E BlockItem StatementKind Compound Group Statement item_of kind_of compound_of group_of'
      statement_of y)) line)
  kind_ok bodies groups statements (StatementKind-F.Compound body) line =
      block_steady line (compound (compound_of body)) (bodies body)
  kind_ok bodies groups statements (StatementKind-F.Expr None) line = pure_steady (statement_at line (sk.Block []))
  kind_ok bodies groups statements (StatementKind-F.Expr (Some e)) line = expr_steady line e
  kind_ok bodies groups statements (StatementKind-F.If e one None) line =
      if_steady line e (statement (statement_of one)) None (statements one (statement_of one).line)
      (λ x is. absurd (search rules))
  kind_ok bodies groups statements (StatementKind-F.If e one (Some other)) line =
      if_steady line e (statement (statement_of one)) (Some (statement (statement_of other)))
      (statements one (statement_of one).line) (λ x is. some_steady x is)
    where
      some_steady : (x : Walk Stmt) → Some (statement (statement_of other)) ≡ Some x → Steady x
      some_steady x is =
          let h : statement (statement_of other) ≡ x = cc in
          subst (λ (w : Walk Stmt). Steady w) h (statements other (statement_of other).line)
  kind_ok bodies groups statements (StatementKind-F.While e body) line =
      while_steady line e (statement (statement_of body)) (statements body (statement_of body).line)
  kind_ok bodies groups statements (StatementKind-F.Do body e) line =
      do_steady line (statement (statement_of body)) e (statements body (statement_of body).line)
  kind_ok bodies groups statements (StatementKind-F.For begin controlling step body) line =
      for_steady line begin controlling step (statement (statement_of body)) (statements body (statement_of body).line)
  kind_ok bodies groups statements (StatementKind-F.Switch e gs) line =
      switch_steady line e (map group_part (map group_of' gs)) (all_groups groups gs)
  kind_ok bodies groups statements StatementKind-F.Break line = pure_steady (statement_at line sk.Break)
  kind_ok bodies groups statements StatementKind-F.Continue line = pure_steady (statement_at line sk.Continue)
  kind_ok bodies groups statements (StatementKind-F.Return e) line = return_steady line e
  kind_ok bodies groups statements (StatementKind-F.Stamped place from) line = never_steady line
  kind_ok bodies groups statements (StatementKind-F.Timely place limit one other) line = never_steady line
  kind_ok bodies groups statements (StatementKind-F.Expires names body caught) line = never_steady line

item_unrolled : (z : BlockItem-F BlockItem StatementKind Compound Group Statement)
    → block_item (roll-BlockItem z) ≡ item_step (map-BlockItem BlockItem StatementKind Compound Group Statement
    (Walk (List Stmt)) (ℕ → Walk Stmt) (Walk (List Stmt)) GroupPart (Walk Stmt) block_item statement_kind compound
    group_part statement z)
item_unrolled z = search (rules, the_lemmas)

kind_unrolled : (z : StatementKind-F BlockItem StatementKind Compound Group Statement)
    → statement_kind (roll-StatementKind z) ≡ kind_step (map-StatementKind BlockItem StatementKind Compound Group Statement
    (Walk (List Stmt)) (ℕ → Walk Stmt) (Walk (List Stmt)) GroupPart (Walk Stmt) block_item statement_kind compound
    group_part statement z)
kind_unrolled z = search (rules, the_lemmas)

group_unrolled : (z : Group-F BlockItem StatementKind Compound Group Statement)
    → group_part (roll-Group z) ≡ record { labels = z.labels; body = one_by_one (map single (map statement z.statements)) }
group_unrolled z = search (rules, group_lemmas)

compound_unrolled : (z : Compound-F BlockItem StatementKind Compound Group Statement)
    → compound (roll-Compound z) ≡ one_by_one (map block_item z.items)
compound_unrolled z = search (rules, compound_lemmas)

item_by : (z : BlockItem-F BlockItem StatementKind Compound Group Statement)
    → Steady (item_step (map-BlockItem BlockItem StatementKind Compound Group Statement (Walk (List Stmt)) (ℕ → Walk Stmt)
    (Walk (List Stmt)) GroupPart (Walk Stmt) block_item statement_kind compound group_part statement z))
    → ItemIs (roll-BlockItem z)
item_by z so = subst (λ (w : Walk (List Stmt)). Steady w) (sym (item_unrolled z)) so

kind_by : (z : StatementKind-F BlockItem StatementKind Compound Group Statement)
    → ((line : ℕ) → Steady (kind_step (map-StatementKind BlockItem StatementKind Compound Group Statement (Walk (List Stmt))
    (ℕ → Walk Stmt) (Walk (List Stmt)) GroupPart (Walk Stmt) block_item statement_kind compound group_part statement z) line))
    → KindIs (roll-StatementKind z)
kind_by z so line = subst (λ (w : ℕ → Walk Stmt). Steady (w line)) (sym (kind_unrolled z)) (so line)

compound_by : (z : Compound-F BlockItem StatementKind Compound Group Statement)
    → Steady (one_by_one (map block_item z.items)) → CompoundIs (roll-Compound z)
compound_by z so = subst (λ (w : Walk (List Stmt)). Steady w) (sym (compound_unrolled z)) so

group_by : (z : Group-F BlockItem StatementKind Compound Group Statement)
    → Steady (one_by_one (map single (map statement z.statements))) → GroupIs (roll-Group z)
group_by z so = subst (λ (g : GroupPart). Steady g.body) (sym (group_unrolled z)) so

statement_by : (z : Statement-F BlockItem StatementKind Compound Group Statement) → KindIs z.kind
    → StatementIs (roll-Statement z)
statement_by z so =
    let h : (roll-Statement z).kind ≡ z.kind = search (rules, statement_lemmas) in subst (λ kind. KindIs kind) (sym h) so

pub compound_steady : (body : Compound) → CompoundIs body
compound_steady =
    ind-Compound ItemIs KindIs CompoundIs GroupIs StatementIs
    (λ x y is. subst (λ (z : BlockItem-F BlockItem StatementKind Compound Group Statement). ItemIs (roll-BlockItem z)) is
    (item_by _ (item_ok (λ e. e.0) (λ e. e.0) (λ e. e.0) (λ e. e.0) (λ e. e.0) (λ e. e.1) y)))
    (λ x y is. subst (λ (z : StatementKind-F BlockItem StatementKind Compound Group Statement).
    KindIs (roll-StatementKind z)) is
    (kind_by _ (λ line. kind_ok (λ e. e.0) (λ e. e.0) (λ e. e.0) (λ e. e.0) (λ e. e.0) (λ e. e.1) (λ e. e.1) (λ e. e.1) y line)))
    (λ x y is. subst (λ (z : Compound-F BlockItem StatementKind Compound Group Statement). CompoundIs (roll-Compound z)) is
    (compound_by _ (one_by_one_steady _ (items_steady (λ e. e.0) (λ e. e.1) y.items))))
    (λ x y is. subst (λ (z : Group-F BlockItem StatementKind Compound Group Statement). GroupIs (roll-Group z)) is
    (group_by _ (one_by_one_steady _ (statements_steady (λ e. e.0) (λ e. e.1) y.statements))))
    (λ x y is. subst (λ (z : Statement-F BlockItem StatementKind Compound Group Statement).
    StatementIs (roll-Statement z)) is (statement_by (record { kind = y.kind.0; line = y.line }) y.kind.1))
