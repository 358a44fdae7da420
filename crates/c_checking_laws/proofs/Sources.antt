-- What is declared at a point of a source stands in the end, and each function of it is lawful.
use Rattle.std.proofs.Common.{append_assoc, bytes_eq, ◌≡◌, ℕ, zero, suc, ◌+◌, Bool, true, false, ◌||◌, cond, List, [], ◌∷◌, ◌++◌, map, length, slice_get, is_some, Option, Some, None, Result, Ok, refl, sym, ap, subst, ◌∙◌, rules, arith}
use Rattle.std.proofs.lemmas.Slice.Eq.{bytes_eq-Decides}
use Rattle.c_tree.specs.declared.declarations.Init.{Init}
use Rattle.c_tree.specs.declared.statements.Compound.{Compound}
use Rattle.c_tree.specs.declared.unit.Struct.{Struct as SourceStruct}
use Rattle.c_tree.specs.declared.unit.Function.{Function as SourceFunction}
use Rattle.c_tree.specs.declared.unit.External.{External}
use Rattle.c_tree.specs.declared.unit.External.TheVariants as external
use Rattle.c_tree.specs.declared.unit.Tree.{Tree}
use Rattle.core_tree.specs.declared.program.Core.{Core}
use Rattle.core_tree.specs.declared.program.Function.{Function}
use Rattle.core_tree.specs.LawfulCore.{Every, IsFunction}
use Rattle.core_tree.specs.Reaching.{joined}
use Rattle.c_typing.specs.declared.environment.Env.{Env}
use Rattle.c_typing.specs.declared.environment.Signature.{Signature}
use Rattle.c_typing.specs.declared.environment.What.{What}
use Rattle.c_typing.specs.declared.environment.What.TheVariants as w
use Rattle.c_typing.specs.declared.fault.Rule.{Rule}
use Rattle.c_typing.specs.Outcome.{Outcome}
use Rattle.c_typing.specs.Scopes.{lookup}
use Rattle.c_typing.specs.TypeNames.{Qualified}
use Rattle.c_typing.specs.Calls.{builtin_named}
use Rattle.c_typing_laws.proofs.Same.{both_hold}
use Rattle.c_checking.specs.declared.draft.Draft.{Draft}
use Rattle.c_checking.specs.Declarators.{base_of, declared_type}
use Rattle.c_checking.specs.Initialisers.{begun}
use Rattle.c_checking.specs.Statements.{compound}
use Rattle.c_checking.specs.Externals.{Step, in_turn, unless, is_one_of, entered_global, global, globals, defining, checked_fields, structure, struct_base}
use Rattle.c_checking.specs.Functions.{place_from, Head, head, listed, function_rule, signature, declared, entering, function_of, with_body, function}
use Rattle.c_checking.specs.Calls.{definition_by, definitions}
use Rattle.c_checking.specs.Checked.{external_step, at_start, core_of}
use Rattle.c_checking_laws.specs.Fitting.{each_is, is_known, param_fits, is_named, compound_fits, body_fits, function_fits, external_fits}
use Rattle.c_checking_laws.specs.Standing.{Begins, Declared, StandsAs, Stands}
use Rattle.c_checking_laws.specs.Walked.{Around, StandsIn, FileStands, AtFileScope, Grows, PointStands, FunctionsOfSource}
use Rattle.c_checking_laws.proofs.Lists.{begins_itself, begins_more, get_in, every_more, every_begins}
use Rattle.c_checking_laws.proofs.Steady.{compound_steady, goes_on as around_on}
use Rattle.c_checking_laws.proofs.Functions.{Kept, kept, head_is, head_named, function_lawful}
use Rattle.c_checking_laws.proofs.FileScope.{then_is, unless_is, same_get, defined_names, grows_on, externals_advance, external_advances, Declares, declare_by, enter_around, first_env, left_same, starts}

-- ---- numbers of functions

found_by : (n : ℕ) (m : List ℕ) (more : List (List ℕ)) (name : List ℕ) (b : Bool) → bytes_eq m name ≡ b
    → (is_one_of more name ≡ true → (k : ℕ) × (place_from (n + 1) more name ≡ n + 1 + k) × (slice_get more k ≡ Some name))
    → (b || is_one_of more name) ≡ true
    → (k : ℕ) × (cond b n (place_from (n + 1) more name) ≡ n + k) × (slice_get (m ∷ more) k ≡ Some name)
found_by n m more name true at_b deeper is =
    let e : m ≡ name = (bytes_eq-Decides m name).0 at_b in (0, sym (plus_none n), ap Some e)
  where
    plus_none : (n : ℕ) → n + 0 ≡ n
    plus_none n = omega arith
found_by n m more name false at_b deeper is =
    let w = deeper is in (suc w.0, w.1 ∙ one_more n w.0, w.2)
  where
    one_more : (n k : ℕ) → n + 1 + k ≡ n + suc k
    one_more n k = omega arith

found_from : (n : ℕ) (names : List (List ℕ)) (name : List ℕ) → is_one_of names name ≡ true
    → (k : ℕ) × (place_from n names name ≡ n + k) × (slice_get names k ≡ Some name)
found_from n [] name is = absurd (search rules)
found_from n (m ∷ more) name is =
    found_by n m more name (bytes_eq m name) refl (λ at. found_from (n + 1) more name at) is

found : (names : List (List ℕ)) (name : List ℕ) → is_one_of names name ≡ true
    → slice_get names (place_from 0 names name) ≡ Some name
found names name is =
    let w = found_from 0 names name is in
    let e : place_from 0 names name ≡ w.0 = w.1 ∙ none_plus w.0 in rw e w.2
  where
    none_plus : (k : ℕ) → 0 + k ≡ k
    none_plus k = omega arith

named_function : (functions : List Function) (i : ℕ) (name : List ℕ) → slice_get (defined_names functions) i ≡ Some name
    → (g : Function) × (slice_get functions i ≡ Some g) × (g.name ≡ name)
named_function [] i name is = absurd (search rules)
named_function (g ∷ functions) zero name is = (g, refl, cc)
named_function (g ∷ functions) (suc i) name is = named_function functions i name is

-- ---- what is declared at a point

pub every_two : {A : Type 0} (P Q R : A → Type 0) (xs : List A) → ((x : A) → P x → Q x → R x) → Every P xs → Every Q xs
    → Every R xs
every_two P Q R [] f p q = tt
every_two P Q R (x ∷ xs) f p q = (f x p.0 q.0, every_two P Q R xs f p.1 q.1)

or_first : (p q : Bool) → q ≡ false → (p || q) ≡ true → p ≡ true
or_first true q none is = refl
or_first false q none is = sym none ∙ is

module _ (names : List (List ℕ)) (last : Draft) (file : AtFileScope names last)
    (all : defined_names last.functions ≡ names) where
  abbrev calls : List ℕ → Bool
  calls = is_known names

  abbrev core : Core
  core = core_of last

  module _ (d : Draft) (a : AtFileScope names d) (grows : Grows d last) where
    stands : (name : List ℕ) (what : What)
        → StandsIn names d.globals d.env.functions d.functions d.env.names name what
        → StandsIn names last.globals last.env.functions last.functions last.env.names name what
        → StandsAs calls core d.env.functions d.env.locals name what
    stands name (w.Local n t r) p q = absurd p
    stands name (w.Global n t r) p q = (p.0, get_in d.globals last.globals n p.0 grows.globals p.1, p.2)
    stands name (w.Function place) p q = λ known f at.
        let e : f ≡ p.0 = same_get (slice_get d.env.functions place) f p.0 at p.1 in
        let u = grows.signatures place p.0 p.1 in
        let v : q.0 ≡ u.0 = same_get (slice_get last.env.functions place) q.0 u.0 q.1 u.1 in
        let one : is_one_of names name ≡ true = or_first (is_one_of names name) (is_some (builtin_named name)) p.4 known in
        let g = named_function last.functions (place_from 0 names name) name
        (ap (λ ns. slice_get ns (place_from 0 names name)) all ∙ found names name one) in
        let h = q.2.as_defined (place_from 0 names name) g.0 g.1 g.2 in
        let number : f.number ≡ place_from 0 names name =
        ap (λ (z : Signature). z.number) e ∙ p.2.number in (
          g.0,
          ap (slice_get last.functions) number ∙ g.1,
          h.0 ∙ ap (λ (z : Signature). z.params) v ∙ u.2 ∙ sym (ap (λ (z : Signature). z.params) e),
          h.1 ∙ ap (λ (z : Signature). z.result) v ∙ u.3 ∙ sym (ap (λ (z : Signature). z.result) e),
        )

    pub declared_at : Declared calls core d.env
    declared_at = record {
      structs = grows.structs;
      names = every_two (FileStands names d) (FileStands names last) (Stands calls core d.env.functions d.env.locals)
          d.env.names (λ n p q. stands n.name n.what p q) a.stand
          (every_begins (FileStands names last) d.env.names last.env.names grows.names file.stand);
      outside = a.outside;
      alone = a.alone;
    }

  -- ---- functions

  abbrev AllLawful : Draft → Type 0
  AllLawful d = Every (IsFunction core false) d.functions

  body_lawful : (f : SourceFunction) (h : Head) (d behind : Draft) (env : Env) (s : Signature) (body : Option Compound)
      → AllLawful d → Declares names d (record d { env = env }) f.name s → Begins d.env.structs core.structs
      → head d.env f ≡ Ok h → function_rule d.env f h ≡ None → AtFileScope names d
      → each_is param_fits (listed f.params) ≡ true → body_fits calls (listed f.params) body ≡ true
      → with_body f h d env body ≡ Ok behind → Grows behind last → AllLawful behind
  body_lawful f h d behind env s None so e b at_h rule a fp fb is grows =
      let v : record d { env = env } ≡ behind = done is in subst (λ z. AllLawful z) v so
    where
      done : {p q : Draft} → ◌≡◌ {A = Outcome Draft} (Ok p) (Ok q) → p ≡ q
      done is = cc
  body_lawful f h d behind env s (Some c) so e b at_h rule a fp fb is grows =
      let t = then_is (compound c (entering h env)) _ behind is in
      let g : Function = function_of f h t.first.0 t.first.1.locals in
      let o : Around (first_env names h env) t.first.1 =
      around_on (first_env names h env) (entering h env) t.first.1 (enter_around names h.params (first_env names h env))
      (compound_steady c (entering h env) t.first.1 t.first.0 t.is_first) in
      let v : record d { env = env; functions = d.functions ++ g ∷ [] } ≡ behind =
      ap (λ (z : Env). remade d z (d.functions ++ g ∷ [])) (sym (left_same names h env t.first.1 o)) ∙ done t.is_next in
      let made : Draft = record d { env = env } in
      let on : Grows made behind = subst (λ z. Grows made z) v (record {
        structs = begins_itself env.structs;
        globals = begins_itself d.globals;
        functions = begins_more d.functions (g ∷ []);
        names = begins_itself env.names;
        signatures = λ place q at. (q, at, refl, refl, refl);
      }) in
      let m : Declared calls core env = declared_at made e.advanced.file (grows_on made behind last on grows) in
      let w = both_hold (each_is is_named (listed f.params)) (compound_fits calls c false false) fb in
      let hd = head_is core d.env f h b a.alone fp at_h rule in
      let i : IsFunction core false g =
      function_lawful calls core env f h c t.first.0 t.first.1 m e.advanced.file.locals hd
      (head_named d.env f h fp w.0 at_h) w.1 t.is_first in
      subst (λ z. AllLawful z) v (every_more (IsFunction core false) d.functions (g ∷ []) so (i, tt))
    where
      remade : Draft → Env → List Function → Draft
      remade d z fs = record d { env = z; functions = fs }

      done : {p q : Draft} → ◌≡◌ {A = Outcome Draft} (Ok p) (Ok q) → p ≡ q
      done is = cc

  -- a part of a source leaves functions lawful, where they are lawful in front of it
  abbrev Keeps : Step → Type 0
  Keeps step = (d behind : Draft) → AtFileScope names d → AllLawful d → step d ≡ Ok behind → Grows behind last → AllLawful behind

  function_keeps : (f : SourceFunction) → function_fits calls f ≡ true → Keeps (function names f)
  unfolding function
  function_keeps f fine d behind a so is grows =
      let t = then_is (head d.env f) _ behind is in
      let u = then_is (unless f.line (function_rule d.env f t.first) t.first) _ behind t.is_next in
      let r = unless_is f.line (function_rule d.env f t.first) t.first u.first u.is_first in
      let rule : function_rule d.env f u.first ≡ None = sym (ap (function_rule d.env f) r.1) ∙ r.0 in
      let at_h : head d.env f ≡ Ok u.first = t.is_first ∙ ap Ok r.1 in
      let k : Kept d.env f u.first = kept d.env f u.first rule in
      let w = both_hold (each_is param_fits (listed f.params)) (body_fits calls (listed f.params) f.body) fine in
      let v = external_advances names (external.Function false f) d behind a (opened is) in
      body_lawful f u.first d behind (declared d.env f.name (signature names d.env f u.first))
      (signature names d.env f u.first) f.body so
      (declare_by names d f u.first (lookup d.env.names f.name) a k refl) (grows_on d behind last v.grows grows).structs at_h
      rule a w.0 w.1 u.is_next grows
    where
      opened : function names f d ≡ Ok behind → external_step names (external.Function false f) d ≡ Ok behind
      opened is = is

  global_keeps : (base : Env → Result Qualified Rule) (i : Init) (d behind : Draft) → AllLawful d → global base i d ≡ Ok behind
      → AllLawful behind
  unfolding global
  global_keeps base i d behind so is =
      let t = then_is (declared_type d.env i.line (base d.env) i.declr.stars i.declr.bounds) _ behind is in
      let u = then_is (entered_global i.line i.declr.name t.first d) _ behind t.is_next in
      let v = then_is (begun u.first i.line t.first.ty i.initial) _ behind u.is_next in
      let e : d.functions ≡ behind.functions = ap (λ (z : Draft). z.functions) (done v.is_next) in
      subst (λ fs. Every (IsFunction core false) fs) e so
    where
      done : {p q : Draft} → ◌≡◌ {A = Outcome Draft} (Ok p) (Ok q) → p ≡ q
      done is = cc

  globals_keep : (base : Env → Result Qualified Rule) (is : List Init) (d behind : Draft) → AllLawful d
      → globals base is d ≡ Ok behind → AllLawful behind
  globals_keep base [] d behind so at = let e : d ≡ behind = cc in subst (λ z. AllLawful z) e so
  globals_keep base (i ∷ is) d behind so at =
      let t = then_is (global base i d) _ behind at in
      globals_keep base is t.first behind (global_keeps base i d t.first so t.is_first) t.is_next

  struct_keeps : (s : SourceStruct) (d behind : Draft) → AllLawful d → structure s d ≡ Ok behind → AllLawful behind
  unfolding structure
  struct_keeps s d behind so is =
      let t = then_is (checked_fields (defining s.name d.env) s) _ behind is in
      let e : d.functions ≡ behind.functions = ap (λ (z : Draft). z.functions) (done t.is_next) in
      subst (λ fs. Every (IsFunction core false) fs) e so
    where
      done : {p q : Draft} → ◌≡◌ {A = Outcome Draft} (Ok p) (Ok q) → p ≡ q
      done is = cc

  external_keeps : (x : External) → external_fits calls x ≡ true → Keeps (external_step names x)
  external_keeps (external.Struct defined inits) fine d behind a so is grows =
      let t = then_is (structure defined d) _ behind is in
      globals_keep (struct_base (length d.env.structs)) inits t.first behind (struct_keeps defined d t.first so t.is_first)
      t.is_next
  external_keeps (external.Function is_static f) fine d behind a so is grows = function_keeps f fine d behind a so is grows
  external_keeps (external.Declaration is_static None dec) fine d behind a so is grows =
      globals_keep (λ env. base_of env dec.spec) dec.inits d behind so is
  external_keeps (external.Declaration is_static (Some lifetime) dec) fine d behind a so is grows = absurd (search rules)

  externals_keep : (xs : List External) (d : Draft) → each_is (external_fits calls) xs ≡ true → AtFileScope names d
      → AllLawful d → in_turn (map (external_step names) xs) d ≡ Ok last → AllLawful last
  externals_keep [] d fine a so is = let e : d ≡ last = cc in subst (λ z. AllLawful z) e so
  externals_keep (x ∷ xs) d fine a so is =
      let w = both_hold (external_fits calls x) (each_is (external_fits calls) xs) fine in
      let t = then_is (external_step names x d) _ last is in
      let v = external_advances names x d t.first a t.is_first in
      let r = externals_advance names xs t.first last v.file t.is_next in
      externals_keep xs t.first w.1 v.file (external_keeps x w.0 d t.first a so t.is_first r.grows) t.is_next

-- ---- whole sources

joined_more : {A : Type 0} (xs ys : List (List A)) → joined (xs ++ ys) ≡ joined xs ++ joined ys
joined_more [] ys = refl
joined_more (x ∷ xs) ys = ap (λ l. x ++ l) (joined_more xs ys) ∙ sym (append_assoc x (joined xs) (joined ys))

defined_more : (xs ys : List External)
    → joined (map definition_by (xs ++ ys)) ≡ joined (map definition_by xs) ++ joined (map definition_by ys)
defined_more [] ys = refl
defined_more (x ∷ xs) ys =
    ap (λ l. definition_by x ++ l) (defined_more xs ys)
    ∙ sym (append_assoc (definition_by x) (joined (map definition_by xs)) (joined (map definition_by ys)))

pub point_stands : (tree : Tree) (before after : List External) (d last : Draft) → PointStands tree before after d last
point_stands tree before after d last parts to_d to_last =
    let names : List (List ℕ) = definitions tree in
    let p = externals_advance names before at_start d (starts names) to_d in
    let q = externals_advance names after d last p.file to_last in
    let all : defined_names last.functions ≡ names =
    q.named ∙ ap (λ l. l ++ joined (map definition_by after)) p.named ∙ sym (defined_more before after)
    ∙ ap (λ xs. joined (map definition_by xs)) (sym parts) in
    (declared_at names last q.file all d p.file q.grows, p.file.locals)

pub functions_of_source : (tree : Tree) (last : Draft) → FunctionsOfSource tree last
functions_of_source tree last fine is =
    let names : List (List ℕ) = definitions tree in
    let p = externals_advance names tree.externals at_start last (starts names) is in
    externals_keep names last p.file p.named tree.externals at_start fine (starts names) tt is
