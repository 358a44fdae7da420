-- Declarations in a block are lawful: their locals are objects, and what they store is in the scalars of them.
use Rattle.std.proofs.Common.{◌≡◌, ℕ, Bool, true, false, ◌||◌, cond, List, [], ◌∷◌, ◌++◌, map, length, Option, Some, None, Ok, Err, refl, sym, ap, subst, ◌∙◌, rules, arith}
use Rattle.c_tree.specs.declared.qualified.Spec.{Spec}
use Rattle.c_tree.specs.declared.declarations.Init.{Init}
use Rattle.c_tree.specs.declared.declarations.Initial.{Initial}
use Rattle.c_tree.specs.declared.declarations.Declaration.{Declaration}
use Rattle.core_tree.specs.declared.types.Ty.{Ty, out-Ty, the_lemmas as type_lemmas}
use Rattle.core_tree.specs.declared.types.Ty.TheVariants as ty
use Rattle.core_tree.specs.declared.types.Ty.TheOpen.{Ty-F}
use Rattle.core_tree.specs.declared.types.Slot.{Slot}
use Rattle.core_tree.specs.declared.statements.Init.{Init as Store}
use Rattle.core_tree.specs.declared.statements.Stmt.{Stmt}
use Rattle.core_tree.specs.declared.statements.StmtKind.TheVariants as sk
use Rattle.core_tree.specs.declared.program.Core.{Core}
use Rattle.core_tree.specs.Lawful.{Scope, IsExpr}
use Rattle.core_tree.specs.LawfulCore.{Every, OnSome, Text, Initialised, AreInits, scalar_types, struct_leaves as struct_types, leaves_in as types_in, IsDeclaration, is_declaration, IsStmt, AreStmts}
use Rattle.core_tree.specs.Layout.{Layout, layout}
use Rattle.core_tree.specs.Rules.{is_scalar, scalar_layer}
use Rattle.c_typing.specs.declared.fault.Rule.TheVariants.{Twice}
use Rattle.c_typing.specs.declared.environment.Env.{Env}
use Rattle.c_typing.specs.declared.environment.What.{What}
use Rattle.c_typing.specs.declared.environment.What.TheVariants as w
use Rattle.c_typing.specs.Outcome.{Outcome, ◌>>=◌ as ◌>>=₁◌}
use Rattle.c_typing.specs.TypeNames.{Qualified}
use Rattle.c_checking.specs.Walk.{pure, reading, with_env, break_at, single, is_declared, declare_local}
use Rattle.c_checking.specs.Declarators.{base_of, declared_type, object_rule}
use Rattle.c_checking.specs.Initialisers.{Given, leaves, any, value_in, stores, is_list, initialised, stored}
use Rattle.c_checking.specs.Locals.{statement_at, entered, local, locals}
use Rattle.c_checking_laws.specs.Standing.{Begins, StandsAs, Stands, Declared, IsLocal, Onward, IsText, Leads}
use Rattle.c_checking_laws.specs.Accepted.{StoresAreLawful}
use Rattle.c_checking_laws.specs.Fitting.{each_is, if_there, initial_fits, init_fits, inits_fit}
use Rattle.c_checking_laws.proofs.Lists.{get_in, get_last, every_more, every_map}
use Rattle.c_checking_laws.proofs.Sizes.{Object, object_of, leaves-Num, leaves-Pointer}
use Rattle.c_checking_laws.proofs.Leaves.{types, leaves_types, slots_count}
use Rattle.c_checking_laws.proofs.Walks.{same_pair, text_on, parted, one_by_one_leads, single_leads}
use Rattle.c_checking_laws.proofs.Initialisers.{Settled, settled_is, Puts, PutsAll, puts_of}
use Rattle.c_checking_laws.proofs.Statements.{all_more}
use Rattle.c_typing_laws.proofs.Same.{both_hold}

-- ---- stores

one_scalar_by : (known : List (List Ty)) (t : Ty) (l : Ty-F Ty) → out-Ty t ≡ l → scalar_layer l ≡ true
    → types_in known t ≡ t ∷ []
one_scalar_by known t (Ty-F.Num i) at_l scalar =
    let h : t ≡ ty.Num i = search (rules, type_lemmas) in rw h (leaves-Num known i)
one_scalar_by known t (Ty-F.Pointer to r) at_l scalar =
    let h : t ≡ ty.Pointer to r = search (rules, type_lemmas) in rw h (leaves-Pointer known to r)
one_scalar_by known t _ at_l scalar = absurd (search rules)

-- an integer or a pointer is its one scalar
pub one_scalar : (known : List (List Ty)) (t : Ty) → is_scalar t ≡ true → types_in known t ≡ t ∷ []
unfolding is_scalar
one_scalar known t scalar = one_scalar_by known t (out-Ty t) refl scalar

module _ (s : Scope) where
  on_value : (t : Ty) (v : Option Given) → OnSome (λ (g : Given). IsExpr s g.value t) v
      → OnSome (λ e. IsExpr s e t) (value_in v)
  on_value t None p = tt
  on_value t (Some g) p = p

  are_inits : (u : Ty) (marked : Bool) (slots : List Slot) (ts : List Ty) (vs : List (Option Given)) → s.inside ≡ false
      → (is_scalar u ≡ false → marked ≡ true) → length slots ≡ length ts → Puts s ts vs
      → AreInits s u slots ts (stores marked slots vs)
  are_inits u marked [] [] [] outside all same p = tt
  are_inits u marked [] [] (v ∷ vs) outside all same p = absurd p
  are_inits u marked [] (t ∷ ts) vs outside all same p = absurd (omega arith)
  are_inits u marked (slot ∷ slots) [] vs outside all same p = absurd (omega arith)
  are_inits u marked (slot ∷ slots) (t ∷ ts) [] outside all same p = absurd p
  are_inits u marked (slot ∷ slots) (t ∷ ts) (v ∷ vs) outside all same p = (
    (refl, on_value t v p.0, (λ inside. absurd (never s.inside outside inside)), all),
    are_inits u marked slots ts vs outside all (omega arith) p.1,
  )
    where
      never : (b : Bool) → b ≡ false → b ≡ true → ⊥
      never b p q = cc

  initialised_of : (u : Ty) (all : List Store)
      → AreInits s u (layout s.core.structs u).slots (scalar_types s.core u) all → Initialised s u all
  initialised_of u [] p = tt
  initialised_of u (i ∷ rest) p = p

  no_stores : (marked : Bool) (slots : List Slot) → stores marked slots [] ≡ []
  no_stores marked [] = refl
  no_stores marked (slot ∷ slots) = refl

  puts_stored : (u : Ty) (marked : Bool) (vs : List (Option Given)) → s.inside ≡ false
      → (is_scalar u ≡ false → marked ≡ true) → Puts s (scalar_types s.core u) vs
      → Initialised s u (stores marked (layout s.core.structs u).slots vs)
  puts_stored u marked vs outside all p =
      initialised_of u (stores marked (layout s.core.structs u).slots vs)
      (are_inits u marked (layout s.core.structs u).slots (scalar_types s.core u) vs outside all (slots_count s.core.structs u) p)

module _ (calls : List ℕ → Bool) (core : Core) where
  module _ (env : Env) (x : Text) (d : Declared calls core env) (t : IsText core env x)
      (objects : Begins env.locals x.scope.objects) where
    abbrev Stored : Ty → List Store → Type 0
    Stored u all = Initialised x.scope u all

    stored_by : (u : Ty) (by_list : Bool) (vs : List (Option Given)) → Object core env.structs u
        → PutsAll calls core env x d t objects any u by_list vs
        → Stored u (stores (env.inside || by_list) (layout env.structs u).slots vs)
    stored_by u _ _ o (PutsAll.nothing by_list) =
        rw (no_stores x.scope (env.inside || by_list) (layout env.structs u).slots) tt
    stored_by u _ _ o (PutsAll.alone by_list g scalar i may) =
        let e : (layout x.scope.core.structs u).slots ≡ (layout env.structs u).slots =
        ap (λ (c : Core). (layout c.structs u).slots) t.program ∙ ap (λ (l : Layout). l.slots) o.same_layout in
        let p : Puts x.scope (scalar_types x.scope.core u) (Some g ∷ []) =
        subst (λ ts. Puts x.scope ts (Some g ∷ []))
        (sym (one_scalar (struct_types [] x.scope.core.structs) u scalar)) (i, tt) in
        subst (λ slots. Stored u (stores (env.inside || by_list) slots (Some g ∷ []))) e
        (puts_stored x.scope u (env.inside || by_list) (Some g ∷ []) t.inside (λ other. absurd (never scalar other)) p)
      where
        never : {b : Bool} → b ≡ true → b ≡ false → ⊥
        never p q = cc
    stored_by u _ _ o (PutsAll.each_one vs puts) =
        let e : (layout x.scope.core.structs u).slots ≡ (layout env.structs u).slots =
        ap (λ (c : Core). (layout c.structs u).slots) t.program ∙ ap (λ (l : Layout). l.slots) o.same_layout in
        let f : types (leaves env.structs u) ≡ scalar_types x.scope.core u =
        leaves_types env.structs u ∙ sym o.same_scalars ∙ sym (ap (λ (c : Core). scalar_types c u) t.program) in
        let p : Puts x.scope (scalar_types x.scope.core u) vs = subst (λ ts. Puts x.scope ts vs) f puts in
        subst (λ slots. Stored u (stores (env.inside || true) slots vs)) e
        (puts_stored x.scope u (env.inside || true) vs t.inside (λ other. or_true env.inside) p)
      where
        or_true : (b : Bool) → (b || true) ≡ true
        or_true true = refl
        or_true false = refl

  record StoredParts (env : Env) (u : Ty) (i : Option Initial) (all : List Store) : Type 0 where
    keeps : object_rule env u ≡ None
    values : List (Option Given)
    comes : initialised env any u i ≡ Ok (Ok values)
    is_all : stores (env.inside || is_list i) (layout env.structs u).slots values ≡ all

  stored_parts_by : (env : Env) (line : ℕ) (u : Ty) (i : Option Initial) (all : List Store)
      (o : Outcome (List (Option Given)))
      → ((vs : List (Option Given)) → o ≡ Ok vs → Settled (object_rule env u) (initialised env any u i) vs)
      → (o >>=₁ λ vs. Ok (stores (env.inside || is_list i) (layout env.structs u).slots vs)) ≡ Ok all
      → StoredParts env u i all
  stored_parts_by env line u i all (Err f) so is = absurd (search rules)
  stored_parts_by env line u i all (Ok vs) so is =
      let w = so vs refl in
      record { keeps = w.keeps; values = vs; comes = w.comes; is_all = cc }

  stored_parts : (env : Env) (line : ℕ) (u : Ty) (i : Option Initial) (all : List Store) → stored env line u i ≡ Ok all
      → StoredParts env u i all
  unfolding stored
  stored_parts env line u i all is =
      stored_parts_by env line u i all _ (λ vs at. settled_is line (object_rule env u) (initialised env any u i) vs at) is

  -- what a declarator of a block stores, and its object
  pub stored_object : (env : Env) (line : ℕ) (u : Ty) (i : Option Initial) (all : List Store) → Declared calls core env
      → stored env line u i ≡ Ok all → Object core env.structs u
  stored_object env line u i all d is =
      let p = stored_parts env line u i all is in object_of core env u d.structs d.alone p.keeps

  pub stored_lawful : (env : Env) (line : ℕ) (u : Ty) (i : Option Initial) (all : List Store) (x : Text)
      → Declared calls core env → IsText core env x → Begins env.locals x.scope.objects
      → if_there (initial_fits calls) i ≡ true → stored env line u i ≡ Ok all → Initialised x.scope u all
  stored_lawful env line u i all x d t objects fine is =
      let p = stored_parts env line u i all is in
      let o = object_of core env u d.structs d.alone p.keeps in
      let q = puts_of calls core env x d t objects any u i p.values fine p.comes in
      rw (← p.is_all) (stored_by env x d t objects u (is_list i) p.values o q)

  -- ---- a local

  -- a local that is declared is the next one
  pub local_declared : (env : Env) (name : List ℕ) (u : Ty) (readonly : Bool) → Declared calls core env
      → Declared calls core (declare_local name u readonly env)
  local_declared env name u readonly d = record {
    structs = d.structs;
    names = every_more (Stands calls core env.functions (env.locals ++ u ∷ [])) env.names
        (record { name = name; what = w.Local (length env.locals) u readonly } ∷ [])
        (every_map (Stands calls core env.functions env.locals) (Stands calls core env.functions (env.locals ++ u ∷ []))
        env.names (λ n p. grown n.name n.what p) d.names)
        (get_last env.locals u, tt);
    outside = d.outside;
    alone = d.alone;
  }
    where
      grown : (n : List ℕ) (what : What) → StandsAs calls core env.functions env.locals n what
          → StandsAs calls core env.functions (env.locals ++ u ∷ []) n what
      grown n (w.Local m v r) p = get_in env.locals (env.locals ++ u ∷ []) m v (u ∷ [], refl) p
      grown n (w.Global m v r) p = p
      grown n (w.Function place) p = p

  local_onward : (env : Env) (name : List ℕ) (u : Ty) (readonly : Bool) → IsLocal core u
      → Onward core env (declare_local name u readonly env)
  local_onward env name u readonly o = record {
    structs = refl;
    const_members = refl;
    defining = refl;
    functions = refl;
    result = refl;
    inside = refl;
    start = refl;
    names = (record { name = name; what = w.Local (length env.locals) u readonly } ∷ [], refl);
    locals = (u ∷ [], refl, (o, tt));
  }

  read_by : {A : Type 0} (env mid : Env) (a : A) (o : Outcome A) → with_env env o ≡ Ok (a, mid) → (o ≡ Ok a) × (env ≡ mid)
  read_by env mid a (Err f) is = absurd (search rules)
  read_by env mid a (Ok b) is = let p = same_pair b a env mid is in (ap Ok p.0, p.1)

  entered_by : (line : ℕ) (name : List ℕ) (t : Qualified) (env mid : Env) (n : ℕ) (b : Bool)
      → cond b (break_at Twice line env) (pure (length env.locals) (declare_local name t.ty t.readonly env)) ≡ Ok (n, mid)
      → (length env.locals ≡ n) × (declare_local name t.ty t.readonly env ≡ mid)
  entered_by line name t env mid n true is = absurd (search rules)
  entered_by line name t env mid n false is = same_pair (length env.locals) n (declare_local name t.ty t.readonly env) mid is

  -- what a declaration of one local comes to
  abbrev Declares : Text → Stmt → Type 0
  Declares x s = IsStmt x s.kind × IsDeclaration s

  record LocalParts (i : Init) (env : Env) (s : Stmt) (behind : Env) : Type 0 where
    ty : Qualified
    all : List Store
    is_stored : stored (declare_local i.declr.name ty.ty ty.readonly env) i.line ty.ty i.initial ≡ Ok all
    is_statement : statement_at i.line (sk.Declare (length env.locals) all) ≡ s
    is_behind : declare_local i.declr.name ty.ty ty.readonly env ≡ behind

  local_parts : (sp : Spec) (i : Init) (env behind : Env) (s : Stmt) → local sp i env ≡ Ok (s, behind)
      → LocalParts i env s behind
  unfolding local
  local_parts sp i env behind s at =
      let p = parted calls core (reading (λ env. declared_type env i.line (base_of env sp) i.declr.stars i.declr.bounds) env)
      _ s behind at in
      let r = read_by env p.mid p.first
      (declared_type env i.line (base_of env sp) i.declr.stars i.declr.bounds) p.is_first in
      let q = parted calls core (entered i.line i.declr.name p.first p.mid) _ s behind p.is_next in
      let e = entered_by i.line i.declr.name p.first p.mid q.mid q.first (is_declared p.mid i.declr.name) q.is_first in
      let u = parted calls core (reading (λ env. stored env i.line p.first.ty i.initial) q.mid) _ s behind q.is_next in
      let v = read_by q.mid u.mid u.first (stored q.mid i.line p.first.ty i.initial) u.is_first in
      let z = same_pair (statement_at i.line (sk.Declare q.first u.first)) s u.mid behind u.is_next in
      let m : declare_local i.declr.name p.first.ty p.first.readonly env ≡ q.mid =
      ap (λ en. declare_local i.declr.name p.first.ty p.first.readonly en) r.1 ∙ e.1 in
      record {
        ty = p.first;
        all = u.first;
        is_stored = ap (λ en. stored en i.line p.first.ty i.initial) m ∙ v.0;
        is_statement =
            ap (λ (en : Env). statement_at i.line (sk.Declare (length en.locals) u.first)) r.1
            ∙ ap (λ n. statement_at i.line (sk.Declare n u.first)) e.0 ∙ z.0;
        is_behind = m ∙ v.1 ∙ z.1;
      }

  pub local_leads : (sp : Spec) (i : Init) → init_fits calls i ≡ true → Leads calls core Declares (local sp i)
  local_leads sp i fine env behind s d at =
      let p = local_parts sp i env behind s at in
      let mid : Env = declare_local i.declr.name p.ty.ty p.ty.readonly env in
      let e : Declared calls core mid = local_declared env i.declr.name p.ty.ty p.ty.readonly d in
      let o = stored_object mid i.line p.ty.ty i.initial p.all e p.is_stored in
      let on : Onward core env mid = local_onward env i.declr.name p.ty.ty p.ty.readonly (o.object, o.small) in
      subst (λ en. Declared calls core en × Onward core env en
      × ((x : Text) → IsText core env x → Begins en.locals x.scope.objects → Declares x s)) p.is_behind (
        e,
        on,
        λ x t objects. rw (← p.is_statement) (
          IsStmt.declared x (length env.locals) p.ty.ty p.all t.params
              (get_in mid.locals x.scope.objects (length env.locals) p.ty.ty objects (get_last env.locals p.ty.ty))
              (stored_lawful mid i.line p.ty.ty i.initial p.all x e (text_on calls core env mid x on t) objects fine p.is_stored),
          is_declaration (statement_at i.line (sk.Declare (length env.locals) p.all)) (length env.locals) p.all refl,
        ),
      )

  -- ---- several

  abbrev pub AllDeclare : Text → List Stmt → Type 0
  AllDeclare x all = AreStmts x all × Every IsDeclaration all

  pub locals_lead : (d : Declaration) → inits_fit calls d.inits ≡ true → Leads calls core AllDeclare (locals d)
  locals_lead d fine =
      one_by_one_leads calls core AllDeclare (λ x. (AreStmts.no_stmts x, tt))
      (λ x xs ys p q. (all_more x xs ys p.0 q.0, every_more IsDeclaration xs ys p.1 q.1))
      (map (λ i. single (local d.spec i)) d.inits) (each_local d.inits fine)
    where
      each_local : (is : List Init) → each_is (init_fits calls) is ≡ true
          → Every (Leads calls core AllDeclare) (map (λ i. single (local d.spec i)) is)
      each_local [] fine = tt
      each_local (i ∷ is) fine =
          let v = both_hold (init_fits calls i) (each_is (init_fits calls) is) fine in (
            single_leads calls core Declares AllDeclare (local d.spec i)
                (λ x s p. (AreStmts.one_more x s [] p.0 (AreStmts.no_stmts x), (p.1, tt))) (local_leads d.spec i v.0),
            each_local is v.1,
          )

pub stores_lawful : (calls : List ℕ → Bool) (core : Core) (env : Env) (x : Text) (line : ℕ) (t : Ty) (i : Option Initial)
    (all : List Store) → StoresAreLawful calls core env x line t i all
stores_lawful calls core env x line t i all d text objects fine is =
    stored_lawful calls core env line t i all x d text objects fine is
