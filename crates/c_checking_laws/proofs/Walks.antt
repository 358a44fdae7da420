-- What is declared stands at each point of a function: what a part of it leads to.
use Rattle.std.proofs.Common.{append_assoc, append-nil, ◌≡◌, ℕ, ◌≤◌, Bool, List, [], ◌∷◌, ◌++◌, take, length, slice_get, Option, Some, None, Ok, Err, refl, sym, ap, ◌∙◌, rules, arith}
use Rattle.core_tree.specs.declared.types.Ty.{Ty}
use Rattle.core_tree.specs.declared.types.Member.{Member}
use Rattle.core_tree.specs.declared.types.Struct.{Struct}
use Rattle.core_tree.specs.declared.program.Core.{Core}
use Rattle.core_tree.specs.LawfulCore.{Every, Text}
use Rattle.core_tree.specs.Layout.{members_of, members_in}
use Rattle.c_typing.specs.declared.environment.Env.{Env}
use Rattle.c_typing.specs.declared.environment.Named.{Named}
use Rattle.c_typing.specs.declared.environment.What.{What}
use Rattle.c_typing.specs.declared.environment.What.TheVariants as w
use Rattle.c_typing.specs.Outcome.{Outcome}
use Rattle.c_typing.specs.Scopes.{lookup}
use Rattle.c_checking.specs.Walk.{Walk, ◌>>=◌, pure, and_then, reading, with_env, one_by_one, single, inner, outer, leaving, scoped}
use Rattle.c_checking_laws.specs.Standing.{Begins, StandsAs, Stands, Declared, ExpressionsMayRest, IsLocal, Onward, IsText, Leads}
use Rattle.c_checking_laws.proofs.Lists.{begins_itself, begins_more, begins_on, get_in, length_begins, take_begins, every_more, every_map, looked_up}

-- what a part comes to, and what is declared behind it
pub same_pair : {A : Type 0} (a b : A) (e f : Env) → ◌≡◌ {A = Outcome (A × Env)} (Ok (a, e)) (Ok (b, f)) → (a ≡ b) × (e ≡ f)
same_pair {A = A} a b e f is =
    let p : ◌≡◌ {A = A × Env} (a, e) (b, f) = cc in
    (ap (λ (z : A × Env). z.0) p, ap (λ (z : A × Env). z.1) p)

module _ (calls : List ℕ → Bool) (core : Core) where
  -- ---- expressions may rest on what is declared

  members_by : (structs more : List Struct) (tag n : ℕ) (m : Member) (s : Option Struct) → slice_get structs tag ≡ s
      → slice_get (members_in s) n ≡ Some m → slice_get (members_of (structs ++ more) tag) n ≡ Some m
  members_by structs more tag n m None at is = absurd (search rules)
  members_by structs more tag n m (Some s) at is =
      let h : slice_get (structs ++ more) tag ≡ Some s = get_in structs (structs ++ more) tag s (begins_more structs more) at in
      rw h is

  members_stay : (structs all : List Struct) → Begins structs all → (tag n : ℕ) (m : Member)
      → slice_get (members_of structs tag) n ≡ Some m → slice_get (members_of all tag) n ≡ Some m
  members_stay structs all b tag n m is =
      rw b.1 (members_by structs b.0 tag n m (slice_get structs tag) refl is)

  pub rests : (env : Env) (objects : List Ty) → ExpressionsMayRest calls core env objects
  rests env objects d locals = (
    record {
      fewer = length_begins env.structs core.structs d.structs;
      members = members_stay env.structs core.structs d.structs;
      locals = λ name n t readonly is. get_in env.locals objects n t locals (stands name (w.Local n t readonly) is);
      globals = λ name n t readonly is. stands name (w.Global n t readonly) is;
      inside = sym d.outside;
      early = refl;
    },
    λ name place is called. stands name (w.Function place) is called,
  )
    where
      stands : (name : List ℕ) (what : What) → lookup env.names name ≡ Some what
          → StandsAs calls core env.functions env.locals name what
      stands name what is =
          looked_up (λ n v. StandsAs calls core env.functions env.locals n v) name env.names what d.names is

  -- ---- points

  pub stays : (env : Env) → Onward core env env
  stays env = record {
    structs = refl;
    const_members = refl;
    defining = refl;
    functions = refl;
    result = refl;
    inside = refl;
    start = refl;
    names = begins_itself env.names;
    locals = ([], sym (append-nil env.locals), tt);
  }

  pub goes_on : (env mid behind : Env) → Onward core env mid → Onward core mid behind → Onward core env behind
  goes_on env mid behind p q = record {
    structs = q.structs ∙ p.structs;
    const_members = q.const_members ∙ p.const_members;
    defining = q.defining ∙ p.defining;
    functions = q.functions ∙ p.functions;
    result = q.result ∙ p.result;
    inside = q.inside ∙ p.inside;
    start = q.start ∙ p.start;
    names = begins_on env.names mid.names behind.names p.names q.names;
    locals = (
      p.locals.0 ++ q.locals.0,
      q.locals.1 ∙ ap (λ l. l ++ q.locals.0) p.locals.1 ∙ append_assoc env.locals p.locals.0 q.locals.0,
      every_more (IsLocal core) p.locals.0 q.locals.0 p.locals.2 q.locals.2,
    );
  }

  pub locals_begin : (env behind : Env) → Onward core env behind → Begins env.locals behind.locals
  locals_begin env behind o = (o.locals.0, o.locals.1)

  pub text_on : (env behind : Env) (x : Text) → Onward core env behind → IsText core env x → IsText core behind x
  text_on env behind x o t = record {
    program = t.program;
    inside = t.inside;
    early = t.early;
    result = t.result ∙ sym o.result;
    params =
        let h : x.params ≤ length env.locals = t.params in
        let g : length env.locals ≤ length behind.locals =
        length_begins env.locals behind.locals (locals_begin env behind o) in omega arith;
  }

  -- ---- parts of functions

  module _ {A : Type 0} (P : Text → A → Type 0) where
    pub pure_leads : (a : A) → ((x : Text) → P x a) → Leads calls core P (pure a)
    pure_leads a is env behind b d at =
        let w = same_pair a b env behind at in
        rw (← w.0, ← w.1) (d, stays env, λ x t objects. is x)

    -- what declares nothing
    pub reading_by : (env behind : Env) (a : A) (o : Outcome A) → Declared calls core env → with_env env o ≡ Ok (a, behind)
        → (o ≡ Ok a → (x : Text) → IsText core env x → Begins env.locals x.scope.objects → P x a)
        → Declared calls core behind × Onward core env behind
        × ((x : Text) → IsText core env x → Begins behind.locals x.scope.objects → P x a)
    reading_by env behind a (Err f) d at so = absurd (search rules)
    reading_by env behind a (Ok b) d at so =
        let w = same_pair b a env behind at in
        rw (← w.1) (d, stays env, so (ap Ok w.0))

    pub reading_leads : (means : Env → Outcome A)
        → ((env : Env) (a : A) (x : Text) → Declared calls core env → means env ≡ Ok a → IsText core env x
        → Begins env.locals x.scope.objects → P x a)
        → Leads calls core P (reading means)
    reading_leads means so env behind a d at =
        reading_by env behind a (means env) d at (λ is x t objects. so env a x d is t objects)

  pub record Parted {A B : Type 0} (m : Outcome (A × Env)) (next : A → Walk B) (b : B) (behind : Env) : Type 0 where
    pub first : A
    pub mid : Env
    pub is_first : m ≡ Ok (first, mid)
    pub is_next : next first mid ≡ Ok (b, behind)

  pub parted : {A B : Type 0} (m : Outcome (A × Env)) (next : A → Walk B) (b : B) (behind : Env)
      → and_then m next ≡ Ok (b, behind) → Parted m next b behind
  parted (Err f) next b behind at = absurd (search rules)
  parted (Ok p) next b behind at = record { first = p.0; mid = p.1; is_first = refl; is_next = at }

  -- one part after another
  pub then_leads : {A B : Type 0} (P : Text → A → Type 0) (Q : A → Text → B → Type 0) (R : Text → B → Type 0)
      (walk : Walk A) (next : A → Walk B) → Leads calls core P walk → ((a : A) → Leads calls core (Q a) (next a))
      → ((x : Text) (a : A) (b : B) → P x a → Q a x b → R x b) → Leads calls core R (walk >>= next)
  then_leads P Q R walk next one two joins env behind b d at =
      let p = parted (walk env) next b behind at in
      let l = one env p.mid p.first d p.is_first in
      let m = two p.first p.mid behind b l.0 p.is_next in (
        m.0,
        goes_on env p.mid behind l.1 m.1,
        λ x t objects. joins x p.first b
            (l.2 x t (begins_on p.mid.locals behind.locals x.scope.objects (locals_begin p.mid behind m.1) objects))
            (m.2 x (text_on env p.mid x l.1 t) objects),
      )

  -- ---- scopes

  pub inner_declared : (env : Env) → Declared calls core env → Declared calls core (inner env)
  inner_declared env d = record { structs = d.structs; names = d.names; outside = d.outside; alone = d.alone }

  -- the names of a scope end with it, its locals stay
  local_stays : (env behind : Env) → Onward core env behind → (d : Named) → Stands calls core env.functions env.locals d
      → Stands calls core behind.functions behind.locals d
  local_stays env behind o d is = stays_as d.what is
    where
      stays_as : (what : What) → StandsAs calls core env.functions env.locals d.name what
          → StandsAs calls core behind.functions behind.locals d.name what
      stays_as (w.Local n t readonly) at = get_in env.locals behind.locals n t (locals_begin env behind o) at
      stays_as (w.Global n t readonly) at = at
      stays_as (w.Function place) at = rw o.functions at

  pub onward_names : (env behind : Env) → Onward core env behind → Declared calls core env
      → Every (Stands calls core behind.functions behind.locals) env.names
  onward_names env behind o d =
      every_map (Stands calls core env.functions env.locals) (Stands calls core behind.functions behind.locals) env.names
      (local_stays env behind o) d.names

  pub outer_onward : (env behind : Env) → Onward core (inner env) behind → Onward core env (outer env behind)
  outer_onward env behind o = record {
    structs = o.structs;
    const_members = o.const_members;
    defining = o.defining;
    functions = o.functions;
    result = o.result;
    inside = o.inside;
    start = refl;
    names = ([], take_begins env.names behind.names o.names ∙ sym (append-nil env.names));
    locals = o.locals;
  }

  pub outer_declared : (env behind : Env) → Onward core (inner env) behind → Declared calls core env
      → Declared calls core (outer env behind)
  outer_declared env behind o d =
      let t : take (length env.names) behind.names ≡ env.names = take_begins env.names behind.names o.names in
      record {
        structs = rw o.structs d.structs;
        names = rw t (onward_names (inner env) behind o (inner_declared env d));
        outside = o.inside ∙ d.outside;
        alone = o.defining ∙ d.alone;
      }

  record Left {A : Type 0} (env : Env) (m : Outcome (A × Env)) (a : A) (behind : Env) : Type 0 where
    mid : Env
    is_walked : m ≡ Ok (a, mid)
    is_left : behind ≡ outer env mid

  left_of : {A : Type 0} (env : Env) (m : Outcome (A × Env)) (a : A) (behind : Env) → leaving env m ≡ Ok (a, behind)
      → Left env m a behind
  left_of env (Err f) a behind at = absurd (search rules)
  left_of env (Ok p) a behind at =
      let w = same_pair p.0 a (outer env p.1) behind at in
      record { mid = p.1; is_walked = ap (λ z. Ok (z, p.1)) w.0; is_left = sym w.1 }

  pub scoped_leads : {A : Type 0} (P : Text → A → Type 0) (walk : Walk A) → Leads calls core P walk
      → Leads calls core P (scoped walk)
  unfolding scoped
  scoped_leads P walk one env behind a d at =
      let l = left_of env (walk (inner env)) a behind at in
      let m = one (inner env) l.mid a (inner_declared env d) l.is_walked in
      rw l.is_left (outer_declared env l.mid m.1 d, outer_onward env l.mid m.1, λ x t objects. m.2 x (inner_text env x t) objects)
    where
      inner_text : (env : Env) (x : Text) → IsText core env x → IsText core (inner env) x
      inner_text env x t =
          record { program = t.program; inside = t.inside; early = t.early; result = t.result; params = t.params }

  -- ---- several parts

  module _ {A : Type 0} (P : Text → List A → Type 0) (none : (x : Text) → P x [])
      (joins : (x : Text) (xs ys : List A) → P x xs → P x ys → P x (xs ++ ys)) where
    pub one_by_one_leads : (walks : List (Walk (List A))) → Every (Leads calls core P) walks
        → Leads calls core P (one_by_one walks)
    one_by_one_leads [] all = pure_leads P [] none
    one_by_one_leads (walk ∷ walks) all =
        then_leads P (λ xs x ys. P x xs → P x ys) P walk (λ xs. one_by_one walks >>= λ ys. pure (xs ++ ys)) all.0
        (λ xs. then_leads P (λ ys x zs. P x xs → P x ys → P x zs) (λ x ys. P x xs → P x ys) (one_by_one walks)
        (λ ys. pure (xs ++ ys)) (one_by_one_leads walks all.1)
        (λ ys. pure_leads (λ x zs. P x xs → P x ys → P x zs) (xs ++ ys) (λ x p q. joins x xs ys p q))
        (λ x ys zs q so p. so p q))
        (λ x xs ys p so. so p)

  pub single_leads : {A : Type 0} (P : Text → A → Type 0) (Q : Text → List A → Type 0) (walk : Walk A)
      → ((x : Text) (a : A) → P x a → Q x (a ∷ [])) → Leads calls core P walk → Leads calls core Q (single walk)
  single_leads P Q walk so one =
      then_leads P (λ a x b. P x a → Q x b) Q walk (λ a. pure (a ∷ [])) one
      (λ a. pure_leads (λ x b. P x a → Q x b) (a ∷ []) (λ x p. so x a p)) (λ x a b p f. f p)
