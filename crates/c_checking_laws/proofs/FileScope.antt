-- The walk over a source keeps what is declared at file scope, and adds to it.
use Rattle.std.proofs.Common.{append_assoc, append-nil, bytes_eq, ◌≡◌, ℕ, zero, suc, ◌⊎◌, inl, inr, ⊎_elim, Bool, true, false, not, ◌&&◌, ◌||◌, cond, List, [], ◌∷◌, ◌++◌, map, take, drop, length, slice_get, slice_set, is_some, Option, Some, None, Result, Ok, Err, refl, sym, ap, ap₂, subst, ◌∙◌, rules}
use Rattle.std.proofs.lemmas.Slice.Eq.{bytes_eq-Decides}
use Rattle.c_tree.specs.declared.declarations.Init.{Init}
use Rattle.c_tree.specs.declared.statements.Compound.{Compound}
use Rattle.c_tree.specs.declared.unit.Struct.{Struct as SourceStruct}
use Rattle.c_tree.specs.declared.unit.Function.{Function as SourceFunction}
use Rattle.c_tree.specs.declared.unit.External.{External}
use Rattle.c_tree.specs.declared.unit.External.TheVariants as external
use Rattle.core_tree.specs.declared.types.Ty.{Ty}
use Rattle.core_tree.specs.declared.program.Initial.{Initial}
use Rattle.core_tree.specs.declared.program.Global.{Global}
use Rattle.core_tree.specs.declared.program.Function.{Function}
use Rattle.core_tree.specs.LawfulCore.{Every}
use Rattle.core_tree.specs.Types.{same}
use Rattle.core_tree.specs.Reaching.{joined}
use Rattle.c_typing.specs.declared.environment.Env.{Env}
use Rattle.c_typing.specs.declared.environment.Named.{Named}
use Rattle.c_typing.specs.declared.environment.Signature.{Signature}
use Rattle.c_typing.specs.declared.environment.What.{What}
use Rattle.c_typing.specs.declared.environment.What.TheVariants as w
use Rattle.c_typing.specs.declared.fault.Rule.{Rule}
use Rattle.c_typing.specs.declared.fault.Rule.TheVariants.{Twice}
use Rattle.c_typing.specs.Outcome.{Outcome, ◌>>=◌, broken}
use Rattle.c_typing.specs.Scopes.{lookup}
use Rattle.c_typing.specs.TypeNames.{Qualified}
use Rattle.c_typing.specs.Calls.{builtin_named}
use Rattle.c_typing_laws.proofs.Same.{both_hold, same_is}
use Rattle.c_checking.specs.declared.draft.Draft.{Draft}
use Rattle.c_checking.specs.declared.draft.Parameter.{Parameter}
use Rattle.c_checking.specs.Walk.{is_declared, inner, declare_local}
use Rattle.c_checking.specs.Declarators.{base_of, declared_type}
use Rattle.c_checking.specs.Initialisers.{begun}
use Rattle.c_checking.specs.Statements.{compound}
use Rattle.c_checking.specs.Externals.{Step, in_turn, has_twice, unless, is_taken, declare_global, entered_global, global, globals, completed, defining, checked_fields, structure, struct_base}
use Rattle.c_checking.specs.Functions.{place_from, names_of, types_of, Head, head, earlier_by, earlier, is_variable, was_defined, same_types, differs, function_rule, signature, declared_by, declared, enter_parameter, enter_parameters, entering, left, function_of, with_body, function}
use Rattle.c_checking.specs.Calls.{definition_by}
use Rattle.c_checking.specs.Checked.{external_step, at_start}
use Rattle.c_checking_laws.specs.Standing.{Begins}
use Rattle.c_checking_laws.specs.Walked.{Around, IsDeclaredAs, StandsIn, FileStands, AtFileScope, Grows}
use Rattle.c_checking_laws.proofs.Lists.{begins_itself, begins_more, begins_on, get_in, get_last, take_begins, every_more, every_map, every_at, lookup-last, looked_up}
use Rattle.c_checking_laws.proofs.Steady.{compound_steady, stays as around_itself, goes_on as around_on, declared_around}
use Rattle.c_checking_laws.proofs.Functions.{Kept, kept}

-- ---- lists

either_get : {A : Type 0} (xs : List A) (y : A) (n : ℕ) (x : A) → slice_get (xs ++ y ∷ []) n ≡ Some x
    → (slice_get xs n ≡ Some x) ⊎ (x ≡ y)
either_get [] y zero x is = let e : y ≡ x = cc in inr (sym e)
either_get [] y (suc n) x is = absurd (search rules)
either_get (z ∷ zs) y zero x is = inl is
either_get (z ∷ zs) y (suc n) x is = either_get zs y n x is

-- what stands at a place of a list of which one element is replaced
abbrev pub Replaced : {A : Type 0} → List A → ℕ → A → ℕ → A → Type 0
Replaced {A = A} ys place s n x =
    (r : A) × (slice_get ys n ≡ Some r) × (((r ≡ s) × (n ≡ place)) ⊎ (r ≡ x))

pub set_get : {A : Type 0} (xs : List A) (place : ℕ) (s : A) (n : ℕ) (x : A) → slice_get xs n ≡ Some x
    → Replaced (slice_set xs place s) place s n x
set_get [] place s n x is = absurd (search rules)
set_get (z ∷ zs) zero s zero x is = (s, refl, inl (refl, refl))
set_get (z ∷ zs) zero s (suc n) x is = (x, is, inr refl)
set_get (z ∷ zs) (suc place) s zero x is = (x, is, inr refl)
set_get (z ∷ zs) (suc place) s (suc n) x is = next (slice_set zs place s) place s n x z (set_get zs place s n x is)
  where
    next : {A : Type 0} (ys : List A) (place : ℕ) (s : A) (n : ℕ) (x z : A) → Replaced ys place s n x
        → Replaced (z ∷ ys) (suc place) s (suc n) x
    next ys place s n x z p = (p.0, p.1, ⊎_elim (λ q. inl (q.0, ap (λ m. suc m) q.1)) (λ q. inr q) p.2)

-- ---- names

pub set_there : {A : Type 0} (xs : List A) (place : ℕ) (s x : A) → slice_get xs place ≡ Some x
    → slice_get (slice_set xs place s) place ≡ Some s
set_there [] place s x is = absurd (search rules)
set_there (z ∷ zs) zero s x is = refl
set_there (z ∷ zs) (suc place) s x is = set_there zs place s x is

pub lookup_kept : (names : List Named) (d : Named) (name : List ℕ) (what : What) → lookup names name ≡ Some what
    → lookup names d.name ≡ None → lookup (names ++ d ∷ []) name ≡ Some what
lookup_kept names d name what is new = lookup-last names d name ∙ by (bytes_eq d.name name) refl
  where
    by : (b : Bool) → bytes_eq d.name name ≡ b → cond b (Some d.what) (lookup names name) ≡ Some what
    by true at_b =
        let e : d.name ≡ name = (bytes_eq-Decides d.name name).0 at_b in
        let f : ◌≡◌ {A = Option What} None (Some what) = sym new ∙ ap (lookup names) e ∙ is in absurd cc
    by false at_b = is

pub lookup_new : (names : List Named) (d : Named) → lookup (names ++ d ∷ []) d.name ≡ Some d.what
lookup_new names d = lookup-last names d d.name ∙ by (bytes_eq d.name d.name) ((bytes_eq-Decides d.name d.name).1 refl)
  where
    by : (b : Bool) → b ≡ true → cond b (Some d.what) (lookup names d.name) ≡ Some d.what
    by true at_b = refl
    by false at_b = absurd cc

pub none_there : {A : Type 0} (o : Option A) → is_some o ≡ false → o ≡ None
none_there None is = refl
none_there (Some a) is = absurd (search rules)

pub neither : (p q : Bool) → (p || q) ≡ false → (p ≡ false) × (q ≡ false)
neither true q is = absurd (search rules)
neither false q is = (refl, is)

-- ---- outcomes one after another

pub record Then {A B : Type 0} (o : Outcome A) (next : A → Outcome B) (b : B) : Type 0 where
  pub first : A
  pub is_first : o ≡ Ok first
  pub is_next : next first ≡ Ok b

pub then_is : {A B : Type 0} (o : Outcome A) (next : A → Outcome B) (b : B) → (o >>= next) ≡ Ok b → Then o next b
then_is (Err f) next b is = absurd (search rules)
then_is (Ok a) next b is = record { first = a; is_first = refl; is_next = is }

pub unless_is : {A : Type 0} (line : ℕ) (rule : Option Rule) (a b : A) → unless line rule a ≡ Ok b → (rule ≡ None) × (a ≡ b)
unless_is line None a b is = (refl, cc)
unless_is line (Some rule) a b is = absurd (search rules)

pub same_get : {A : Type 0} (o : Option A) (a b : A) → o ≡ Some a → o ≡ Some b → a ≡ b
same_get o a b p q = let e : Some a ≡ Some b = sym p ∙ q in cc

-- ---- from one part to the next

-- the names of the functions that are defined
abbrev pub defined_names : List Function → List (List ℕ)
defined_names functions = map (λ (g : Function). g.name) functions

pub record Advanced (names added : List (List ℕ)) (d behind : Draft) : Type 0 where
  pub grows : Grows d behind
  pub file : AtFileScope names behind
  pub named : defined_names behind.functions ≡ defined_names d.functions ++ added

pub grows_itself : (d : Draft) → Grows d d
grows_itself d = record {
  structs = begins_itself d.env.structs;
  globals = begins_itself d.globals;
  functions = begins_itself d.functions;
  names = begins_itself d.env.names;
  signatures = λ place f is. (f, is, refl, refl, refl);
}

pub grows_on : (d mid behind : Draft) → Grows d mid → Grows mid behind → Grows d behind
grows_on d mid behind p q = record {
  structs = begins_on d.env.structs mid.env.structs behind.env.structs p.structs q.structs;
  globals = begins_on d.globals mid.globals behind.globals p.globals q.globals;
  functions = begins_on d.functions mid.functions behind.functions p.functions q.functions;
  names = begins_on d.env.names mid.env.names behind.env.names p.names q.names;
  signatures = λ place f is.
      let u = p.signatures place f is in
      let v = q.signatures place u.0 u.1 in
      (v.0, v.1, v.2 ∙ u.2, v.3 ∙ u.3, v.4 ∙ u.4);
}

abbrev pub Advances : List (List ℕ) → List (List ℕ) → Step → Type 0
Advances names added step =
    (d behind : Draft) → AtFileScope names d → step d ≡ Ok behind → Advanced names added d behind

-- steps with what each adds
abbrev AllAdvance : List (List ℕ) → List (List (List ℕ)) → List Step → Type 0
AllAdvance names [] [] = Unit {0}
AllAdvance names [] (step ∷ steps) = ⊥
AllAdvance names (added ∷ more) [] = ⊥
AllAdvance names (added ∷ more) (step ∷ steps) = Advances names added step × AllAdvance names more steps

abbrev pub SameHead : Signature → Signature → Type 0
SameHead r g = (r.params ≡ g.params) × (r.result ≡ g.result) × (r.number ≡ g.number)

module _ (names : List (List ℕ)) where
  nothing_advances : Advances names [] (λ d. Ok d)
  nothing_advances d behind a is =
      let e : d ≡ behind = cc in
      subst (λ z. Advanced names [] d z) e
      (record { grows = grows_itself d; file = a; named = sym (append-nil (defined_names d.functions)) })

  -- one step after another
  both_advance : (added more : List (List ℕ)) (one next : Step) → Advances names added one → Advances names more next
      → Advances names (added ++ more) (λ d. one d >>= next)
  both_advance added more one next p q d behind a is =
      let t = then_is (one d) next behind is in
      let u = p d t.first a t.is_first in
      let v = q t.first behind u.file t.is_next in
      record {
        grows = grows_on d t.first behind u.grows v.grows;
        file = v.file;
        named = v.named ∙ ap (λ l. l ++ more) u.named ∙ append_assoc (defined_names d.functions) added more;
      }

  pub turns_advance : (added : List (List (List ℕ))) (steps : List Step) → AllAdvance names added steps
      → Advances names (joined added) (in_turn steps)
  turns_advance [] [] all = nothing_advances
  turns_advance [] (step ∷ steps) all = absurd all
  turns_advance (added ∷ more) [] all = absurd all
  turns_advance (added ∷ more) (step ∷ steps) all =
      both_advance added (joined more) step (in_turn steps) all.0 (turns_advance more steps all.1)

  -- ---- structs

  pub struct_advances : (s : SourceStruct) → Advances names [] (structure s)
  unfolding structure
  struct_advances s d behind a is =
      let t = then_is (checked_fields (defining s.name d.env) s) _ behind is in
      let e : record d { env = completed s.name t.first d.env } ≡ behind = last t.is_next in
      subst (λ z. Advanced names [] d z) e (record {
        grows = record {
          structs = begins_more d.env.structs _;
          globals = begins_itself d.globals;
          functions = begins_itself d.functions;
          names = begins_itself d.env.names;
          signatures = λ place f at. (f, at, refl, refl, refl);
        };
        file = record {
          locals = a.locals;
          start = a.start;
          outside = a.outside;
          alone = a.alone;
          stand = a.stand;
          defined = a.defined;
        };
        named = sym (append-nil (defined_names d.functions));
      })
    where
      last : {p q : Draft} → ◌≡◌ {A = Outcome Draft} (Ok p) (Ok q) → p ≡ q
      last is = cc

  -- ---- a new name

  -- what stood stands where a new name is added
  stands_kept : (gs hs : List Global) (fs es : List Signature) (functions : List Function) (all : List Named) (d : Named)
      (name : List ℕ) (what : What) → Begins gs hs → Begins fs es → lookup all d.name ≡ None
      → StandsIn names gs fs functions all name what → StandsIn names hs es functions (all ++ d ∷ []) name what
  stands_kept gs hs fs es functions all d name (w.Local n t r) b c new p = p
  stands_kept gs hs fs es functions all d name (w.Global n t r) b c new p = (p.0, get_in gs hs n p.0 b p.1, p.2)
  stands_kept gs hs fs es functions all d name (w.Function place) b c new p =
      (p.0, get_in fs es place p.0 c p.1, p.2, lookup_kept all d name (w.Function place) p.3 new, p.4)

  abbrev HasName : List Named → Function → Type 0
  HasName all g = (place : ℕ) × (lookup all g.name ≡ Some (w.Function place))

  defined_kept : (functions : List Function) (all : List Named) (d : Named) → lookup all d.name ≡ None
      → Every (HasName all) functions → Every (HasName (all ++ d ∷ [])) functions
  defined_kept functions all d new p =
      every_map (HasName all) (HasName (all ++ d ∷ [])) functions
      (λ g q. (q.0, lookup_kept all d g.name (w.Function q.0) q.1 new)) p

  -- ---- variables

  taken_by : (line : ℕ) (made : Env) (b : Bool) (z : Env) → cond b (broken Twice line) (Ok made) ≡ Ok z
      → (b ≡ false) × (made ≡ z)
  taken_by line made true z is = absurd (search rules)
  taken_by line made false z is = (refl, cc)

  not_there : (env : Env) (name : List ℕ) → env.start ≡ 0 → is_declared env name ≡ false → lookup env.names name ≡ None
  not_there env name start is =
      none_there (lookup env.names name) (sym (ap (λ n. is_some (lookup (drop n env.names) name)) start) ∙ is)

  global_made : (d : Draft) (name : List ℕ) (t : Qualified) (init : List Initial) (line : ℕ) → AtFileScope names d
      → lookup d.env.names name ≡ None
      → Advanced names [] d (record d {
        env = declare_global name (length d.globals) t d.env;
        globals = d.globals ++ record {
          name = name;
          ty = t.ty;
          lifetime = None;
          init = init;
          before = length d.functions;
          line = line;
        } ∷ [];
      })
  global_made d name t init line a new =
      let g : Global = record {
        name = name;
        ty = t.ty;
        lifetime = None;
        init = init;
        before = length d.functions;
        line = line;
      } in
      let made : Draft = record d {
        env = declare_global name (length d.globals) t d.env;
        globals = d.globals ++ g ∷ [];
      } in
      let n : Named = record { name = name; what = w.Global (length d.globals) t.ty t.readonly } in
      record {
        grows = record {
          structs = begins_itself d.env.structs;
          globals = begins_more d.globals (g ∷ []);
          functions = begins_itself d.functions;
          names = begins_more d.env.names (n ∷ []);
          signatures = λ place f at. (f, at, refl, refl, refl);
        };
        file = record {
          locals = a.locals;
          start = a.start;
          outside = a.outside;
          alone = a.alone;
          stand = every_more (FileStands names made) d.env.names (n ∷ [])
              (every_map (FileStands names d) (FileStands names made) d.env.names
              (λ m p. stands_kept d.globals (d.globals ++ g ∷ []) d.env.functions d.env.functions d.functions d.env.names n
              m.name m.what (begins_more d.globals (g ∷ [])) (begins_itself d.env.functions) new p) a.stand)
              ((g, get_last d.globals g, refl), tt);
          defined = defined_kept d.functions d.env.names n new a.defined;
        };
        named = sym (append-nil (defined_names d.functions));
      }

  pub global_advances : (base : Env → Result Qualified Rule) (i : Init) → Advances names [] (global base i)
  unfolding global
  global_advances base i d behind a is =
      let t = then_is (declared_type d.env i.line (base d.env) i.declr.stars i.declr.bounds) _ behind is in
      let u = then_is (entered_global i.line i.declr.name t.first d) _ behind t.is_next in
      let v = then_is (begun u.first i.line t.first.ty i.initial) _ behind u.is_next in
      let k = taken_by i.line (declare_global i.declr.name (length d.globals) t.first d.env)
      (is_taken d.env i.declr.name) u.first u.is_first in
      let new = not_there d.env i.declr.name a.start (neither (is_declared d.env i.declr.name)
      (is_some (builtin_named i.declr.name)) k.0).0 in
      let g : Global = record {
        name = i.declr.name;
        ty = t.first.ty;
        lifetime = None;
        init = v.first;
        before = length d.functions;
        line = i.line;
      } in
      let e : record d { env = declare_global i.declr.name (length d.globals) t.first d.env; globals = d.globals ++ g ∷ [] }
      ≡ behind = ap (λ (z : Env). remade d z (d.globals ++ g ∷ [])) k.1 ∙ last v.is_next in
      subst (λ z. Advanced names [] d z) e (global_made d i.declr.name t.first v.first i.line a new)
    where
      remade : Draft → Env → List Global → Draft
      remade d z gs = record d { env = z; globals = gs }

      last : {p q : Draft} → ◌≡◌ {A = Outcome Draft} (Ok p) (Ok q) → p ≡ q
      last is = cc

  pub globals_advance : (base : Env → Result Qualified Rule) (is : List Init) → Advances names [] (globals base is)
  globals_advance base [] = nothing_advances
  globals_advance base (i ∷ is) =
      both_advance [] [] (global base i) (globals base is) (global_advances base i) (globals_advance base is)

  -- ---- functions: their names

  same_types_is : (ts us : List Ty) → same_types ts us ≡ true → ts ≡ us
  same_types_is [] [] is = refl
  same_types_is [] (u ∷ us) is = absurd (search rules)
  same_types_is (t ∷ ts) [] is = absurd (search rules)
  same_types_is (t ∷ ts) (u ∷ us) is =
      let v = both_hold (same t u) (same_types ts us) is in
      ap₂ (λ x xs. x ∷ xs) (same_is t u v.0) (same_types_is ts us v.1)

  not_false : (b : Bool) → not b ≡ false → b ≡ true
  not_false true is = refl
  not_false false is = absurd (search rules)

  -- a function that was declared has the same head
  same_head : (f : Signature) (h : Head) → differs (Some f) h ≡ false → (f.params ≡ types_of h.params) × (f.result ≡ h.result)
  same_head f h is =
      let v = both_hold (same f.result h.result) (same_types f.params (types_of h.params))
      (not_false (same f.result h.result && same_types f.params (types_of h.params)) is) in
      (same_types_is f.params (types_of h.params) v.1, same_is f.result h.result v.0)

  same_by : (r g s own : Signature) (fs : List Signature) (p place : ℕ) → SameHead s own → slice_get fs place ≡ Some own
      → slice_get fs p ≡ Some g → ((r ≡ s) × (p ≡ place)) ⊎ (r ≡ g) → SameHead r g
  same_by r g s own fs p place h at_place at_p (inl e) =
      let k : g ≡ own = same_get (slice_get fs p) g own at_p (ap (slice_get fs) e.1 ∙ at_place) in (
        ap (λ (z : Signature). z.params) e.0 ∙ h.0 ∙ sym (ap (λ (z : Signature). z.params) k),
        ap (λ (z : Signature). z.result) e.0 ∙ h.1 ∙ sym (ap (λ (z : Signature). z.result) k),
        ap (λ (z : Signature). z.number) e.0 ∙ h.2 ∙ sym (ap (λ (z : Signature). z.number) k),
      )
  same_by r g s own fs p place h at_place at_p (inr e) = (
    ap (λ (z : Signature). z.params) e,
    ap (λ (z : Signature). z.result) e,
    ap (λ (z : Signature). z.number) e,
  )

  declared_same : (functions : List Function) (name : List ℕ) (r g : Signature) → SameHead r g
      → IsDeclaredAs names functions name g → IsDeclaredAs names functions name r
  declared_same functions name r g h d = record {
    number = h.2 ∙ d.number;
    as_defined = λ i z at same.
        let v = d.as_defined i z at same in (v.0 ∙ sym h.0, v.1 ∙ sym h.1);
  }

  -- a draft in which a function is declared as it is written
  pub record Declares (d made : Draft) (name : List ℕ) (s : Signature) : Type 0 where
    pub advanced : Advanced names [] d made
    pub place : ℕ
    pub is_name : lookup made.env.names name ≡ Some (w.Function place)
    pub is_signature : slice_get made.env.functions place ≡ Some s

  -- where the function was declared before
  again : (d : Draft) (name : List ℕ) (s own : Signature) (place : ℕ) → AtFileScope names d
      → lookup d.env.names name ≡ Some (w.Function place) → slice_get d.env.functions place ≡ Some own → SameHead s own
      → Declares d (record d { env = record d.env { functions = slice_set d.env.functions place s } }) name s
  again d name s own place a is at_own same =
      let made : Draft = record d { env = record d.env { functions = slice_set d.env.functions place s } } in record {
        advanced = record {
          grows = record {
            structs = begins_itself d.env.structs;
            globals = begins_itself d.globals;
            functions = begins_itself d.functions;
            names = begins_itself d.env.names;
            signatures = λ p g at.
                let r = set_get d.env.functions place s p g at in
                let h = same_by r.0 g s own d.env.functions p place same at_own at r.2 in (r.0, r.1, h.0, h.1, h.2);
          };
          file = record {
            locals = a.locals;
            start = a.start;
            outside = a.outside;
            alone = a.alone;
            stand = every_map (FileStands names d) (FileStands names made) d.env.names
                (λ m p. replaced m.name m.what p) a.stand;
            defined = a.defined;
          };
          named = sym (append-nil (defined_names d.functions));
        };
        place = place;
        is_name = is;
        is_signature = set_there d.env.functions place s own at_own;
      }
    where
      replaced : (n : List ℕ) (what : What) → StandsIn names d.globals d.env.functions d.functions d.env.names n what
          → StandsIn names d.globals (slice_set d.env.functions place s) d.functions d.env.names n what
      replaced n (w.Local m t r) p = p
      replaced n (w.Global m t r) p = p
      replaced n (w.Function m) p =
          let r = set_get d.env.functions place s m p.0 p.1 in
          let h = same_by r.0 p.0 s own d.env.functions m place same at_own p.1 r.2 in
          (r.0, r.1, declared_same d.functions n r.0 p.0 h p.2, p.3, p.4)

  -- where it was not
  newly : (d : Draft) (name : List ℕ) (s : Signature) → AtFileScope names d → lookup d.env.names name ≡ None
      → is_some (builtin_named name) ≡ false → s.number ≡ place_from 0 names name
      → Declares d (record d {
        env = record d.env {
          names = d.env.names ++ record { name = name; what = w.Function (length d.env.functions) } ∷ [];
          functions = d.env.functions ++ s ∷ [];
        };
      }) name s
  newly d name s a new other number =
      let n : Named = record { name = name; what = w.Function (length d.env.functions) } in
      let made : Draft = record d {
        env = record d.env {
          names = d.env.names ++ n ∷ [];
          functions = d.env.functions ++ s ∷ [];
        };
      } in record {
        advanced = record {
          grows = record {
            structs = begins_itself d.env.structs;
            globals = begins_itself d.globals;
            functions = begins_itself d.functions;
            names = begins_more d.env.names (n ∷ []);
            signatures = λ p g at. (
              g,
              get_in d.env.functions (d.env.functions ++ s ∷ []) p g (begins_more d.env.functions (s ∷ [])) at,
              refl,
              refl,
              refl,
            );
          };
          file = record {
            locals = a.locals;
            start = a.start;
            outside = a.outside;
            alone = a.alone;
            stand = every_more (FileStands names made) d.env.names (n ∷ [])
                (every_map (FileStands names d) (FileStands names made) d.env.names
                (λ m p. stands_kept d.globals d.globals d.env.functions (d.env.functions ++ s ∷ []) d.functions d.env.names n
                m.name m.what (begins_itself d.globals) (begins_more d.env.functions (s ∷ [])) new p) a.stand) (
                  (
                    s,
                    get_last d.env.functions s,
                    record {
                      number = number;
                      as_defined = λ i g at same. absurd (undefined i g at same);
                    },
                    lookup_new d.env.names n,
                    other,
                  ),
                  tt,
                );
            defined = defined_kept d.functions d.env.names n new a.defined;
          };
          named = sym (append-nil (defined_names d.functions));
        };
        place = length d.env.functions;
        is_name = lookup_new d.env.names n;
        is_signature = get_last d.env.functions s;
      }
    where
      undefined : (i : ℕ) (g : Function) → slice_get d.functions i ≡ Some g → g.name ≡ name → ⊥
      undefined i g at same =
          let v = every_at (HasName d.env.names) d.functions i g a.defined at in
          let e : ◌≡◌ {A = Option What} None (Some (w.Function v.0)) =
          sym new ∙ sym (ap (lookup d.env.names) same) ∙ v.1 in absurd cc

  four : (p q r s : Bool) → (p || q || r || s) ≡ false → (q ≡ false) × (r ≡ false)
  four true q r s is = absurd (search rules)
  four false true r s is = absurd (search rules)
  four false false true s is = absurd (search rules)
  four false false false s is = (refl, refl)

  pub declare_by : (d : Draft) (f : SourceFunction) (h : Head) (what : Option What) → AtFileScope names d → Kept d.env f h
      → lookup d.env.names f.name ≡ what
      → Declares d (record d { env = declared_by d.env f.name (signature names d.env f h) what }) f.name
      (signature names d.env f h)
  declare_by d f h None a k at =
      newly d f.name (signature names d.env f h) a at
      (four (has_twice (names_of h.params)) (is_some (builtin_named f.name)) (is_variable (lookup d.env.names f.name))
      (is_some f.body && was_defined (earlier d.env f.name)) k.once).0 refl
  declare_by d f h (Some (w.Local n t r)) a k at =
      absurd (looked_up (λ m v. StandsIn names d.globals d.env.functions d.functions d.env.names m v) f.name d.env.names
      (w.Local n t r) a.stand at)
  declare_by d f h (Some (w.Global n t r)) a k at =
      let v : is_variable (lookup d.env.names f.name) ≡ false =
      (four (has_twice (names_of h.params)) (is_some (builtin_named f.name)) (is_variable (lookup d.env.names f.name))
      (is_some f.body && was_defined (earlier d.env f.name)) k.once).1 in
      let e : true ≡ false = sym (ap is_variable at) ∙ v in absurd cc
  declare_by d f h (Some (w.Function place)) a k at =
      let own = looked_up (λ m v. StandsIn names d.globals d.env.functions d.functions d.env.names m v) f.name d.env.names
      (w.Function place) a.stand at in
      let was : earlier d.env f.name ≡ Some own.0 = ap (earlier_by d.env) at ∙ own.1 in
      let same = same_head own.0 h (sym (ap (λ o. differs o h) was) ∙ k.same_head) in
      again d f.name (signature names d.env f h) own.0 place a at own.1 (sym same.0, sym same.1, sym own.2.number)

  -- where a function is defined that is declared as it is written
  function_added : (d made : Draft) (name : List ℕ) (s : Signature) (g : Function) → Declares d made name s → g.name ≡ name
      → g.params ≡ s.params → g.result ≡ s.result
      → Advanced names (name ∷ []) d (record made { functions = made.functions ++ g ∷ [] })
  function_added d made name s g e is_name params result =
      let u = e.advanced in
      let last : Draft = record made { functions = made.functions ++ g ∷ [] } in record {
        grows = record {
          structs = u.grows.structs;
          globals = u.grows.globals;
          functions = begins_on d.functions made.functions (made.functions ++ g ∷ []) u.grows.functions
              (begins_more made.functions (g ∷ []));
          names = u.grows.names;
          signatures = u.grows.signatures;
        };
        file = record {
          locals = u.file.locals;
          start = u.file.start;
          outside = u.file.outside;
          alone = u.file.alone;
          stand = every_map (FileStands names made) (FileStands names last) made.env.names
              (λ m p. added m.name m.what p) u.file.stand;
          defined = every_more (HasName made.env.names) made.functions (g ∷ []) u.file.defined
              ((e.place, ap (lookup made.env.names) is_name ∙ e.is_name), tt);
        };
        named = names_more made.functions g ∙ ap₂ (λ l n. l ++ n ∷ []) (u.named ∙ append-nil (defined_names d.functions)) is_name;
      }
    where
      names_more : (fs : List Function) (g : Function) → defined_names (fs ++ g ∷ []) ≡ defined_names fs ++ g.name ∷ []
      names_more [] g = refl
      names_more (f ∷ fs) g = ap (λ l. f.name ∷ l) (names_more fs g)

      same_place : (m : ℕ) → lookup made.env.names name ≡ Some (w.Function m) → m ≡ e.place
      same_place m at =
          let v : w.Function m ≡ w.Function e.place = same_get (lookup made.env.names name) _ _ at e.is_name in cc

      own_head : (n : List ℕ) (m : ℕ) (f : Signature) (z : Function) → z ≡ g → z.name ≡ n
          → lookup made.env.names n ≡ Some (w.Function m) → slice_get made.env.functions m ≡ Some f
          → (z.params ≡ f.params) × (z.result ≡ f.result)
      own_head n m f z at_z same at_n at_m =
          let k : name ≡ n = sym is_name ∙ sym (ap (λ (y : Function). y.name) at_z) ∙ same in
          let l : m ≡ e.place = same_place m (ap (lookup made.env.names) k ∙ at_n) in
          let v : f ≡ s = same_get (slice_get made.env.functions m) f s at_m
          (ap (slice_get made.env.functions) l ∙ e.is_signature) in (
            ap (λ (y : Function). y.params) at_z ∙ params ∙ sym (ap (λ (y : Signature). y.params) v),
            ap (λ (y : Function). y.result) at_z ∙ result ∙ sym (ap (λ (y : Signature). y.result) v),
          )

      added : (n : List ℕ) (what : What)
          → StandsIn names made.globals made.env.functions made.functions made.env.names n what
          → StandsIn names made.globals made.env.functions (made.functions ++ g ∷ []) made.env.names n what
      added n (w.Local m t r) p = p
      added n (w.Global m t r) p = p
      added n (w.Function m) p = (
        p.0,
        p.1,
        record {
          number = p.2.number;
          as_defined = λ i z at same.
              ⊎_elim (λ before. p.2.as_defined i z before same) (λ now. own_head n m p.0 z now same p.3 p.1)
              (either_get made.functions g i z at);
        },
        p.3,
        p.4,
      )

  -- ---- functions: their bodies

  enter_by : (p : Parameter) (name : Option (List ℕ)) (env : Env) → p.name ≡ name → Around env (enter_parameter p env)
  enter_by p None env at =
      let e : enter_parameter p env ≡ env = rw at refl in subst (λ z. Around env z) (sym e) (around_itself env)
  enter_by p (Some name) env at =
      let e : enter_parameter p env ≡ declare_local name p.ty p.readonly env = rw at refl in
      subst (λ z. Around env z) (sym e) (declared_around env name p.ty p.readonly)

  pub enter_around : (ps : List Parameter) (env : Env) → Around env (enter_parameters ps env)
  enter_around [] env = around_itself env
  enter_around (p ∷ ps) env =
      around_on env (enter_parameter p env) (enter_parameters ps (enter_parameter p env)) (enter_by p p.name env refl)
      (enter_around ps (enter_parameter p env))

  abbrev pub first_env : Head → Env → Env
  first_env h env = record (inner env) { locals = []; result = h.result }

  -- what is declared in a function ends with it
  pub left_same : (h : Head) (env behind : Env) → Around (first_env h env) behind → left env behind ≡ env
  left_same h env behind o =
      let t : take (length env.names) behind.names ≡ env.names = take_begins env.names behind.names o.names in
      λ i. record {
        structs = o.structs i;
        const_members = o.const_members i;
        defining = o.defining i;
        names = t i;
        functions = o.functions i;
        locals = env.locals;
        result = env.result;
        start = env.start;
        inside = o.inside i;
      }

  body_advances : (f : SourceFunction) (h : Head) (d behind : Draft) (env : Env) (s : Signature) (body : Option Compound)
      → Declares d (record d { env = env }) f.name s → types_of h.params ≡ s.params → h.result ≡ s.result
      → with_body f h d env body ≡ Ok behind
      → Advanced names (cond (is_some body) (f.name ∷ []) []) d behind
  body_advances f h d behind env s None e params result is =
      let v : record d { env = env } ≡ behind = last is in subst (λ z. Advanced names [] d z) v e.advanced
    where
      last : {p q : Draft} → ◌≡◌ {A = Outcome Draft} (Ok p) (Ok q) → p ≡ q
      last is = cc
  body_advances f h d behind env s (Some c) e params result is =
      let t = then_is (compound c (entering h env)) _ behind is in
      let g : Function = function_of f h t.first.0 t.first.1.locals in
      let o : Around (first_env h env) t.first.1 =
      around_on (first_env h env) (entering h env) t.first.1 (enter_around h.params (first_env h env))
      (compound_steady c (entering h env) t.first.1 t.first.0 t.is_first) in
      let v : record d { env = env; functions = d.functions ++ g ∷ [] } ≡ behind =
      ap (λ (z : Env). remade d z (d.functions ++ g ∷ [])) (sym (left_same h env t.first.1 o)) ∙ last t.is_next in
      subst (λ z. Advanced names (f.name ∷ []) d z) v
      (function_added d (record d { env = env }) f.name s g e refl params result)
    where
      remade : Draft → Env → List Function → Draft
      remade d z fs = record d { env = z; functions = fs }

      last : {p q : Draft} → ◌≡◌ {A = Outcome Draft} (Ok p) (Ok q) → p ≡ q
      last is = cc

  function_advances : (f : SourceFunction) → Advances names (cond (is_some f.body) (f.name ∷ []) []) (function names f)
  unfolding function
  function_advances f d behind a is =
      let t = then_is (head d.env f) _ behind is in
      let u = then_is (unless f.line (function_rule d.env f t.first) t.first) _ behind t.is_next in
      let r = unless_is f.line (function_rule d.env f t.first) t.first u.first u.is_first in
      let k : Kept d.env f u.first = kept d.env f u.first (sym (ap (function_rule d.env f) r.1) ∙ r.0) in
      body_advances f u.first d behind (declared d.env f.name (signature names d.env f u.first))
      (signature names d.env f u.first) f.body
      (declare_by d f u.first (lookup d.env.names f.name) a k refl) refl refl u.is_next

  -- ---- parts of a source

  never_advances : {added : List (List ℕ)} (rule : Rule) (line : ℕ) → Advances names added (λ d. broken rule line)
  never_advances rule line d behind a is = absurd (search rules)

  pub external_advances : (x : External) → Advances names (definition_by x) (external_step names x)
  external_advances (external.Struct defined inits) =
      λ d behind a is. both_advance [] [] (structure defined) (globals (struct_base (length d.env.structs)) inits)
      (struct_advances defined) (globals_advance (struct_base (length d.env.structs)) inits) d behind a is
  external_advances (external.Function is_static f) = function_advances f
  external_advances (external.Declaration is_static None d) = globals_advance (λ env. base_of env d.spec) d.inits
  external_advances (external.Declaration is_static (Some lifetime) d) =
      λ e behind a is. absurd (search rules)

  pub externals_advance : (xs : List External)
      → Advances names (joined (map definition_by xs)) (in_turn (map (external_step names) xs))
  externals_advance xs = turns_advance (map definition_by xs) (map (external_step names) xs) (each xs)
    where
      each : (xs : List External) → AllAdvance names (map definition_by xs) (map (external_step names) xs)
      each [] = tt
      each (x ∷ xs) = (external_advances x, each xs)

  pub starts : AtFileScope names at_start
  starts = record { locals = refl; start = refl; outside = refl; alone = refl; stand = tt; defined = tt }
