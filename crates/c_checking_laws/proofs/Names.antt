-- The names at file scope stand once each: those of variables, of functions, and those that the language has.
use Rattle.std.proofs.Common.{append_assoc, bytes_eq, codes, ◌≡◌, ℕ, Bool, true, false, ◌&&◌, ◌||◌, cond, ⊎_elim, List, [], ◌∷◌, ◌++◌, map, drop, length, slice_get, slice_set, is_some, Option, Some, None, Result, Ok, refl, sym, ap, ap₂, subst, ◌∙◌, rules}
use Rattle.std.proofs.lemmas.Slice.Eq.{bytes_eq-Decides}
use Rattle.c_tree.specs.declared.declarations.Init.{Init}
use Rattle.c_tree.specs.declared.statements.Compound.{Compound}
use Rattle.c_tree.specs.declared.unit.Struct.{Struct as SourceStruct}
use Rattle.c_tree.specs.declared.unit.Function.{Function as SourceFunction}
use Rattle.c_tree.specs.declared.unit.External.{External}
use Rattle.c_tree.specs.declared.unit.External.TheVariants as external
use Rattle.c_tree.specs.declared.unit.Tree.{Tree}
use Rattle.core_tree.specs.declared.types.Ty.{Ty}
use Rattle.core_tree.specs.declared.program.Global.{Global}
use Rattle.core_tree.specs.declared.program.Function.{Function}
use Rattle.core_tree.specs.LawfulCore.{Every, IsNone, Apart}
use Rattle.c_typing.specs.declared.environment.Env.{Env}
use Rattle.c_typing.specs.declared.environment.Named.{Named}
use Rattle.c_typing.specs.declared.environment.Signature.{Signature}
use Rattle.c_typing.specs.declared.environment.What.{What}
use Rattle.c_typing.specs.declared.environment.What.TheVariants as w
use Rattle.c_typing.specs.declared.fault.Rule.{Rule}
use Rattle.c_typing.specs.declared.fault.Rule.TheVariants.{Twice}
use Rattle.c_typing.specs.declared.operand.Builtin.TheVariants as builtin
use Rattle.c_typing.specs.Outcome.{Outcome, broken}
use Rattle.c_typing.specs.Scopes.{lookup}
use Rattle.c_typing.specs.TypeNames.{Qualified}
use Rattle.c_typing.specs.Calls.{builtin_named}
use Rattle.c_checking.specs.declared.draft.Draft.{Draft}
use Rattle.c_checking.specs.Walk.{is_declared}
use Rattle.c_checking.specs.Declarators.{base_of, declared_type}
use Rattle.c_checking.specs.Initialisers.{begun}
use Rattle.c_checking.specs.Statements.{compound}
use Rattle.c_checking.specs.Externals.{in_turn, unless, has_twice, is_taken, declare_global, entered_global, global, globals, defining, checked_fields, structure, struct_base}
use Rattle.c_checking.specs.Functions.{names_of, Head, head, earlier_by, earlier, is_variable, was_defined, function_rule, signature, declared, declared_by, entering, function_of, with_body, function}
use Rattle.c_checking.specs.Calls.{definitions}
use Rattle.c_checking.specs.Checked.{external_step, at_start}
use Rattle.c_checking_laws.specs.Walked.{Around, AtFileScope, StandsIn, NamesOfSource}
use Rattle.c_checking_laws.proofs.Lists.{get_in, every_more, every_map, looked_up}
use Rattle.c_checking_laws.proofs.Steady.{compound_steady, goes_on as around_on}
use Rattle.c_checking_laws.proofs.Functions.{Kept, kept}
use Rattle.c_checking_laws.proofs.Structs.{apart_last}
use Rattle.c_checking_laws.proofs.FileScope.{Replaced, set_get, then_is, unless_is, neither, none_there, same_get, lookup_kept, lookup_new, Declares, declare_by, enter_around, first_env, left_same, struct_advances, global_advances, external_advances, starts}

done : {p q : Draft} → ◌≡◌ {A = Outcome Draft} (Ok p) (Ok q) → p ≡ q
done is = cc

-- ---- what is kept: each name of a variable or function stands for it, and is none that the language has

abbrev GlobalNamed : List Named → Global → Type 0
GlobalNamed all g =
    (n : ℕ) × ((t : Ty) × ((r : Bool) × (lookup all g.name ≡ Some (w.Global n t r)))) × (is_some (builtin_named g.name) ≡ false)

abbrev FunctionNamed : List Named → List Signature → Function → Type 0
FunctionNamed all fs g =
    (place : ℕ) × ((f : Signature) × ((slice_get fs place ≡ Some f) × (f.is_defined ≡ true)))
    × (lookup all g.name ≡ Some (w.Function place)) × (is_some (builtin_named g.name) ≡ false)

record Once (d : Draft) : Type 0 where
  globals : Every (GlobalNamed d.env.names) d.globals
  functions : Every (FunctionNamed d.env.names d.env.functions) d.functions
  apart : Apart (map (λ (g : Global). g.name) d.globals ++ map (λ (g : Function). g.name) d.functions)

-- a name that none of these is
abbrev Other : List ℕ → List (List ℕ) → Type 0
Other name names = Every (λ x. x ≡ name → ⊥) names

other_more : (name : List ℕ) (xs ys : List (List ℕ)) → Other name xs → Other name ys → Other name (xs ++ ys)
other_more name xs ys p q = every_more (λ x. x ≡ name → ⊥) xs ys p q

none_other : (n : List ℕ) (ys : List (List ℕ)) → Other n ys → IsNone n ys
none_other n [] p = tt
none_other n (y ∷ ys) p = ((λ same. p.0 (sym same)), none_other n ys p.1)

none_middle : (x n : List ℕ) (xs ys : List (List ℕ)) → IsNone x (xs ++ ys) → (x ≡ n → ⊥) → IsNone x ((xs ++ n ∷ []) ++ ys)
none_middle x n [] ys p q = (q, p)
none_middle x n (z ∷ zs) ys p q = (p.0, none_middle x n zs ys p.1 q)

apart_middle : (n : List ℕ) (xs ys : List (List ℕ)) → Apart (xs ++ ys) → Other n (xs ++ ys) → Apart ((xs ++ n ∷ []) ++ ys)
apart_middle n [] ys p q = (none_other n ys q, p)
apart_middle n (x ∷ xs) ys p q = (none_middle x n xs ys p.0 q.0, apart_middle n xs ys p.1 q.1)

other_globals : (name : List ℕ) (gs : List Global) (all : List Named)
    → ((n : ℕ) (t : Ty) (r : Bool) → lookup all name ≡ Some (w.Global n t r) → ⊥) → Every (GlobalNamed all) gs
    → Other name (map (λ (g : Global). g.name) gs)
other_globals name [] all never p = tt
other_globals name (g ∷ gs) all never p = (
  (λ same. never p.0.0 p.0.1.0 p.0.1.1.0 (ap (lookup all) (sym same) ∙ p.0.1.1.1)),
  other_globals name gs all never p.1,
)

other_functions : (name : List ℕ) (fs : List Function) (all : List Named) (sigs : List Signature)
    → ((place : ℕ) (f : Signature) → lookup all name ≡ Some (w.Function place) → slice_get sigs place ≡ Some f
    → f.is_defined ≡ true → ⊥) → Every (FunctionNamed all sigs) fs
    → Other name (map (λ (g : Function). g.name) fs)
other_functions name [] all sigs never p = tt
other_functions name (g ∷ fs) all sigs never p = (
  (λ same. never p.0.0 p.0.1.0 (ap (lookup all) (sym same) ∙ p.0.2) p.0.1.1.0 p.0.1.1.1),
  other_functions name fs all sigs never p.1,
)

-- ---- a new name

globals_kept : (gs : List Global) (all : List Named) (d : Named) → lookup all d.name ≡ None → Every (GlobalNamed all) gs
    → Every (GlobalNamed (all ++ d ∷ [])) gs
globals_kept gs all d new p =
    every_map (GlobalNamed all) (GlobalNamed (all ++ d ∷ [])) gs
    (λ g q. (q.0, (q.1.0, (q.1.1.0, lookup_kept all d g.name _ q.1.1.1 new)), q.2)) p

functions_kept : (fs : List Function) (all : List Named) (sigs more : List Signature) (d : Named)
    → lookup all d.name ≡ None → Every (FunctionNamed all sigs) fs
    → Every (FunctionNamed (all ++ d ∷ []) (sigs ++ more)) fs
functions_kept fs all sigs more d new p =
    every_map (FunctionNamed all sigs) (FunctionNamed (all ++ d ∷ []) (sigs ++ more)) fs
    (λ g q. (
      q.0,
      (q.1.0, (get_in sigs (sigs ++ more) q.0 q.1.0 (more, refl) q.1.1.0, q.1.1.1)),
      lookup_kept all d g.name _ q.2 new,
      q.3,
    )) p

same_functions_kept : (fs : List Function) (all : List Named) (sigs : List Signature) (d : Named)
    → lookup all d.name ≡ None → Every (FunctionNamed all sigs) fs → Every (FunctionNamed (all ++ d ∷ []) sigs) fs
same_functions_kept fs all sigs d new p =
    every_map (FunctionNamed all sigs) (FunctionNamed (all ++ d ∷ []) sigs) fs
    (λ g q. (q.0, q.1, lookup_kept all d g.name _ q.2 new, q.3)) p

names_more : (gs : List Global) (g : Global)
    → map (λ (g : Global). g.name) (gs ++ g ∷ []) ≡ map (λ (g : Global). g.name) gs ++ g.name ∷ []
names_more [] g = refl
names_more (h ∷ gs) g = ap (λ l. h.name ∷ l) (names_more gs g)

functions_more : (fs : List Function) (g : Function)
    → map (λ (g : Function). g.name) (fs ++ g ∷ []) ≡ map (λ (g : Function). g.name) fs ++ g.name ∷ []
functions_more [] g = refl
functions_more (h ∷ fs) g = ap (λ l. h.name ∷ l) (functions_more fs g)

taken_by : (line : ℕ) (made : Env) (b : Bool) (z : Env) → cond b (broken Twice line) (Ok made) ≡ Ok z
    → (b ≡ false) × (made ≡ z)
taken_by line made true z is = absurd (search rules)
taken_by line made false z is = (refl, cc)

module _ (names : List (List ℕ)) where
  global_once : (base : Env → Result Qualified Rule) (i : Init) (d behind : Draft) → AtFileScope names d → Once d
      → global base i d ≡ Ok behind → Once behind
  unfolding global
  global_once base i d behind a so is =
      let t = then_is (declared_type d.env i.line (base d.env) i.declr.stars i.declr.bounds) _ behind is in
      let u = then_is (entered_global i.line i.declr.name t.first d) _ behind t.is_next in
      let v = then_is (begun u.first i.line t.first.ty i.initial) _ behind u.is_next in
      let k = taken_by i.line (declare_global i.declr.name (length d.globals) t.first d.env)
      (is_taken d.env i.declr.name) u.first u.is_first in
      let free = neither (is_declared d.env i.declr.name) (is_some (builtin_named i.declr.name)) k.0 in
      let new : lookup d.env.names i.declr.name ≡ None =
      none_there (lookup d.env.names i.declr.name)
      (sym (ap (λ n. is_some (lookup (drop n d.env.names) i.declr.name)) a.start) ∙ free.0) in
      let g : Global = record {
        name = i.declr.name;
        ty = t.first.ty;
        lifetime = None;
        init = v.first;
        before = length d.functions;
        line = i.line;
      } in
      let n : Named = record {
        name = i.declr.name;
        what = w.Global (length d.globals) t.first.ty t.first.readonly;
      } in
      let e : record d { env = declare_global i.declr.name (length d.globals) t.first d.env; globals = d.globals ++ g ∷ [] }
      ≡ behind = ap (λ (z : Env). remade d z (d.globals ++ g ∷ [])) k.1 ∙ done v.is_next in
      let other : Other i.declr.name
      (map (λ (g : Global). g.name) d.globals ++ map (λ (g : Function). g.name) d.functions) =
      other_more i.declr.name (map (λ (g : Global). g.name) d.globals) (map (λ (g : Function). g.name) d.functions)
      (other_globals i.declr.name d.globals d.env.names (λ m q r at. never new at) so.globals)
      (other_functions i.declr.name d.functions d.env.names d.env.functions (λ m q at got is. never new at) so.functions) in
      subst (λ z. Once z) e (record {
        globals = every_more (GlobalNamed (d.env.names ++ n ∷ [])) d.globals (g ∷ [])
            (globals_kept d.globals d.env.names n new so.globals)
            ((length d.globals, (t.first.ty, (t.first.readonly, lookup_new d.env.names n)), free.1), tt);
        functions = same_functions_kept d.functions d.env.names d.env.functions n new so.functions;
        apart = subst (λ ns. Apart (ns ++ map (λ (g : Function). g.name) d.functions)) (sym (names_more d.globals g))
            (apart_middle i.declr.name (map (λ (g : Global). g.name) d.globals) (map (λ (g : Function). g.name) d.functions)
            so.apart other);
      })
    where
      remade : Draft → Env → List Global → Draft
      remade d z gs = record d { env = z; globals = gs }

      never : {o : Option What} {x : What} → o ≡ None → o ≡ Some x → ⊥
      never p q = let e : ◌≡◌ {A = Option What} None (Some _) = sym p ∙ q in cc

  globals_once : (base : Env → Result Qualified Rule) (is : List Init) (d behind : Draft) → AtFileScope names d → Once d
      → globals base is d ≡ Ok behind → Once behind
  globals_once base [] d behind a so at = let e : d ≡ behind = cc in subst (λ z. Once z) e so
  globals_once base (i ∷ is) d behind a so at =
      let t = then_is (global base i d) _ behind at in
      let v = global_advances names base i d t.first a t.is_first in
      globals_once base is t.first behind v.file (global_once base i d t.first a so t.is_first) t.is_next

  struct_once : (s : SourceStruct) (d behind : Draft) → Once d → structure s d ≡ Ok behind → Once behind
  unfolding structure
  struct_once s d behind so is =
      let t = then_is (checked_fields (defining s.name d.env) s) _ behind is in
      subst (λ z. Once z) (done t.is_next) (record { globals = so.globals; functions = so.functions; apart = so.apart })

  -- ---- functions

  four : (p q r s : Bool) → (p || q || r || s) ≡ false → (q ≡ false) × (r ≡ false) × (s ≡ false)
  four true q r s is = absurd (search rules)
  four false true r s is = absurd (search rules)
  four false false true s is = absurd (search rules)
  four false false false s is = (refl, refl, is)

  last_of : (f : SourceFunction) (h : Head) (d : Draft) → Kept d.env f h
      → (is_some (builtin_named f.name) ≡ false) × (is_variable (lookup d.env.names f.name) ≡ false)
      × ((is_some f.body && was_defined (earlier d.env f.name)) ≡ false)
  last_of f h d k =
      four (has_twice (names_of h.params)) (is_some (builtin_named f.name)) (is_variable (lookup d.env.names f.name))
      (is_some f.body && was_defined (earlier d.env f.name)) k.once

  or_true : (p q : Bool) → q ≡ true → (p || q) ≡ true
  or_true true q is = refl
  or_true false q is = is

  replaced : (fs : List Function) (all : List Named) (sigs : List Signature) (place : ℕ) (s own : Signature)
      → slice_get sigs place ≡ Some own → (own.is_defined ≡ true → s.is_defined ≡ true) → Every (FunctionNamed all sigs) fs
      → Every (FunctionNamed all (slice_set sigs place s)) fs
  replaced fs all sigs place s own at_own stays p =
      every_map (FunctionNamed all sigs) (FunctionNamed all (slice_set sigs place s)) fs
      (λ g q. one g q (set_get sigs place s q.0 q.1.0 q.1.1.0)) p
    where
      one : (g : Function) (q : FunctionNamed all sigs g) → Replaced (slice_set sigs place s) place s q.0 q.1.0
          → FunctionNamed all (slice_set sigs place s) g
      one g q r = (
        q.0,
        (
          r.0,
          (
            r.1,
            ⊎_elim
                (λ x. let e : q.1.0 ≡ own = same_get (slice_get sigs q.0) q.1.0 own q.1.1.0 (ap (slice_get sigs) x.1 ∙ at_own) in
                ap (λ (z : Signature). z.is_defined) x.0
                ∙ stays (sym (ap (λ (z : Signature). z.is_defined) e) ∙ q.1.1.1))
                (λ x. ap (λ (z : Signature). z.is_defined) x ∙ q.1.1.1) r.2,
          ),
        ),
        q.2,
        q.3,
      )

  declared_once : (d : Draft) (f : SourceFunction) (h : Head) (what : Option What) → AtFileScope names d → Kept d.env f h
      → Once d → lookup d.env.names f.name ≡ what
      → Once (record d { env = declared_by d.env f.name (signature names d.env f h) what })
  declared_once d f h None a k so at = record {
    globals = globals_kept d.globals d.env.names n at so.globals;
    functions = functions_kept d.functions d.env.names d.env.functions (signature names d.env f h ∷ []) n at so.functions;
    apart = so.apart;
  }
    where
      n : Named
      n = record { name = f.name; what = w.Function (length d.env.functions) }
  declared_once d f h (Some (w.Local m t r)) a k so at =
      absurd (looked_up (λ m v. StandsIn names d.globals d.env.functions d.functions d.env.names m v) f.name d.env.names
      (w.Local m t r) a.stand at)
  declared_once d f h (Some (w.Global m t r)) a k so at =
      let e : true ≡ false = sym (ap is_variable at) ∙ (last_of f h d k).1 in absurd cc
  declared_once d f h (Some (w.Function place)) a k so at =
      let own = looked_up (λ m v. StandsIn names d.globals d.env.functions d.functions d.env.names m v) f.name d.env.names
      (w.Function place) a.stand at in
      let was : earlier d.env f.name ≡ Some own.0 = ap (earlier_by d.env) at ∙ own.1 in
      record {
        globals = so.globals;
        functions = replaced d.functions d.env.names d.env.functions place (signature names d.env f h) own.0 own.1
            (λ is. or_true (is_some f.body) (was_defined (earlier d.env f.name)) (ap was_defined was ∙ is)) so.functions;
        apart = so.apart;
      }

  -- the name of a function that is defined here is none of those before
  new_by : (d : Draft) (f : SourceFunction) (h : Head) (what : Option What) → AtFileScope names d → Kept d.env f h → Once d
      → is_some f.body ≡ true → lookup d.env.names f.name ≡ what
      → Other f.name (map (λ (g : Global). g.name) d.globals ++ map (λ (g : Function). g.name) d.functions)
  new_by d f h None a k so some at =
      other_more f.name (map (λ (g : Global). g.name) d.globals) (map (λ (g : Function). g.name) d.functions)
      (other_globals f.name d.globals d.env.names (λ m q r is. never at is) so.globals)
      (other_functions f.name d.functions d.env.names d.env.functions (λ m q is got def. never at is) so.functions)
    where
      never : {o : Option What} {x : What} → o ≡ None → o ≡ Some x → ⊥
      never p q = let e : ◌≡◌ {A = Option What} None (Some _) = sym p ∙ q in cc
  new_by d f h (Some (w.Local m t r)) a k so some at =
      absurd (looked_up (λ m v. StandsIn names d.globals d.env.functions d.functions d.env.names m v) f.name d.env.names
      (w.Local m t r) a.stand at)
  new_by d f h (Some (w.Global m t r)) a k so some at =
      let e : true ≡ false = sym (ap is_variable at) ∙ (last_of f h d k).1 in absurd cc
  new_by d f h (Some (w.Function place)) a k so some at =
      other_more f.name (map (λ (g : Global). g.name) d.globals) (map (λ (g : Function). g.name) d.functions)
      (other_globals f.name d.globals d.env.names (λ m q r is. no_variable m q r is) so.globals)
      (other_functions f.name d.functions d.env.names d.env.functions (λ m q is got def. no_function m q is got def)
      so.functions)
    where
      no_variable : (m : ℕ) (t : Ty) (r : Bool) → lookup d.env.names f.name ≡ Some (w.Global m t r) → ⊥
      no_variable m t r is =
          let e : w.Function place ≡ w.Global m t r = same_get (lookup d.env.names f.name) _ _ at is in cc

      no_function : (m : ℕ) (q : Signature) → lookup d.env.names f.name ≡ Some (w.Function m)
          → slice_get d.env.functions m ≡ Some q → q.is_defined ≡ true → ⊥
      no_function m q is got def =
          let was : earlier d.env f.name ≡ Some q = ap (earlier_by d.env) is ∙ got in
          let yes : was_defined (earlier d.env f.name) ≡ true = ap was_defined was ∙ def in
          let e : (true && true) ≡ false = sym (ap₂ (λ x y. x && y) some yes) ∙ (last_of f h d k).2 in absurd cc

  body_once : (f : SourceFunction) (h : Head) (d behind : Draft) (env : Env) (s : Signature) (body : Option Compound)
      → Once (record d { env = env }) → Declares names d (record d { env = env }) f.name s
      → is_some (builtin_named f.name) ≡ false → (is_some body ≡ true → s.is_defined ≡ true)
      → (is_some body ≡ true → Other f.name (map (λ (g : Global). g.name) d.globals
      ++ map (λ (g : Function). g.name) d.functions))
      → with_body f h d env body ≡ Ok behind → Once behind
  body_once f h d behind env s None so e other def new is = subst (λ z. Once z) (done is) so
  body_once f h d behind env s (Some c) so e other def new is =
      let t = then_is (compound c (entering h env)) _ behind is in
      let g : Function = function_of f h t.first.0 t.first.1.locals in
      let o : Around (first_env names h env) t.first.1 =
      around_on (first_env names h env) (entering h env) t.first.1 (enter_around names h.params (first_env names h env))
      (compound_steady c (entering h env) t.first.1 t.first.0 t.is_first) in
      let v : record d { env = env; functions = d.functions ++ g ∷ [] } ≡ behind =
      ap (λ (z : Env). remade d z (d.functions ++ g ∷ [])) (sym (left_same names h env t.first.1 o)) ∙ done t.is_next in
      subst (λ z. Once z) v (record {
        globals = so.globals;
        functions = every_more (FunctionNamed env.names env.functions) d.functions (g ∷ []) so.functions
            ((e.place, (s, (e.is_signature, def refl)), e.is_name, other), tt);
        apart = subst (λ ns. Apart (map (λ (g : Global). g.name) d.globals ++ ns)) (sym (functions_more d.functions g))
            (subst (λ ns. Apart ns)
            (append_assoc (map (λ (g : Global). g.name) d.globals) (map (λ (g : Function). g.name) d.functions) (f.name ∷ []))
            (apart_last (map (λ (g : Global). g.name) d.globals ++ map (λ (g : Function). g.name) d.functions) f.name so.apart
            (new refl)));
      })
    where
      remade : Draft → Env → List Function → Draft
      remade d z fs = record d { env = z; functions = fs }

  function_once : (f : SourceFunction) (d behind : Draft) → AtFileScope names d → Once d → function names f d ≡ Ok behind
      → Once behind
  unfolding function
  function_once f d behind a so is =
      let t = then_is (head d.env f) _ behind is in
      let u = then_is (unless f.line (function_rule d.env f t.first) t.first) _ behind t.is_next in
      let r = unless_is f.line (function_rule d.env f t.first) t.first u.first u.is_first in
      let k : Kept d.env f u.first = kept d.env f u.first (sym (ap (function_rule d.env f) r.1) ∙ r.0) in
      body_once f u.first d behind (declared d.env f.name (signature names d.env f u.first))
      (signature names d.env f u.first) f.body
      (declared_once d f u.first (lookup d.env.names f.name) a k so refl)
      (declare_by names d f u.first (lookup d.env.names f.name) a k refl) (last_of f u.first d k).0
      (λ some. ap (λ b. b || was_defined (earlier d.env f.name)) some)
      (λ some. new_by d f u.first (lookup d.env.names f.name) a k so some refl) u.is_next

  external_once : (x : External) (d behind : Draft) → AtFileScope names d → Once d → external_step names x d ≡ Ok behind
      → Once behind
  external_once (external.Struct defined inits) d behind a so is =
      let t = then_is (structure defined d) _ behind is in
      let v = struct_advances names defined d t.first a t.is_first in
      globals_once (struct_base (length d.env.structs)) inits t.first behind v.file (struct_once defined d t.first so t.is_first)
      t.is_next
  external_once (external.Function is_static f) d behind a so is = function_once f d behind a so is
  external_once (external.Declaration is_static None dec) d behind a so is =
      globals_once (λ env. base_of env dec.spec) dec.inits d behind a so is
  external_once (external.Declaration is_static (Some lifetime) dec) d behind a so is = absurd (search rules)

  externals_once : (xs : List External) (d last : Draft) → AtFileScope names d → Once d
      → in_turn (map (external_step names) xs) d ≡ Ok last → Once last
  externals_once [] d last a so is = let e : d ≡ last = cc in subst (λ z. Once z) e so
  externals_once (x ∷ xs) d last a so is =
      let t = then_is (external_step names x d) _ last is in
      let u = external_advances names x d t.first a t.is_first in
      externals_once xs t.first last u.file (external_once x d t.first a so t.is_first) t.is_next

-- ---- the names that the language has

record NoBuiltin (n : List ℕ) : Type 0 where
  sense : codes "sense" ≡ n → ⊥
  emit : codes "emit" ≡ n → ⊥
  checkpoint : codes "checkpoint" ≡ n → ⊥

apart_byte : (n m : List ℕ) → bytes_eq n m ≡ false → m ≡ n → ⊥
apart_byte n m other same = let e : bytes_eq n m ≡ true = (bytes_eq-Decides n m).1 (sym same) in absurd (search rules)

no_builtin_by : (n : List ℕ) (p q r : Bool) → bytes_eq n (codes "sense") ≡ p → bytes_eq n (codes "emit") ≡ q
    → bytes_eq n (codes "checkpoint") ≡ r
    → is_some (cond p (Some builtin.Sense) (cond q (Some builtin.Emit) (cond r (Some builtin.Checkpoint) None))) ≡ false
    → NoBuiltin n
no_builtin_by n true q r at_p at_q at_r is = absurd (search rules)
no_builtin_by n false true r at_p at_q at_r is = absurd (search rules)
no_builtin_by n false false true at_p at_q at_r is = absurd (search rules)
no_builtin_by n false false false at_p at_q at_r is = record {
  sense = apart_byte n (codes "sense") at_p;
  emit = apart_byte n (codes "emit") at_q;
  checkpoint = apart_byte n (codes "checkpoint") at_r;
}

no_builtin : (n : List ℕ) → is_some (builtin_named n) ≡ false → NoBuiltin n
no_builtin n is =
    no_builtin_by n (bytes_eq n (codes "sense")) (bytes_eq n (codes "emit")) (bytes_eq n (codes "checkpoint")) refl refl refl is

global_names : (gs : List Global) (all : List Named) → Every (GlobalNamed all) gs
    → Every NoBuiltin (map (λ (g : Global). g.name) gs)
global_names [] all p = tt
global_names (g ∷ gs) all p = (no_builtin g.name p.0.2, global_names gs all p.1)

function_names : (fs : List Function) (all : List Named) (sigs : List Signature) → Every (FunctionNamed all sigs) fs
    → Every NoBuiltin (map (λ (g : Function). g.name) fs)
function_names [] all sigs p = tt
function_names (g ∷ fs) all sigs p = (no_builtin g.name p.0.3, function_names fs all sigs p.1)

none_of : (n : List ℕ) (names : List (List ℕ)) → ((x : List ℕ) → NoBuiltin x → n ≡ x → ⊥) → Every NoBuiltin names
    → IsNone n names
none_of n [] so p = tt
none_of n (x ∷ names) so p = (so x p.0, none_of n names so p.1)

pub names_of_source : (tree : Tree) (last : Draft) → NamesOfSource tree last
names_of_source tree last is =
    let o = externals_once (definitions tree) tree.externals at_start last (starts (definitions tree))
    (record { globals = tt; functions = tt; apart = tt }) is in
    let all : List (List ℕ) =
    map (λ (g : Global). g.name) last.globals ++ map (λ (g : Function). g.name) last.functions in
    let free : Every NoBuiltin all =
    every_more NoBuiltin (map (λ (g : Global). g.name) last.globals) (map (λ (g : Function). g.name) last.functions)
    (global_names last.globals last.env.names o.globals)
    (function_names last.functions last.env.names last.env.functions o.functions) in (
      (
        apart_byte (codes "emit") (codes "sense") refl,
        (
          apart_byte (codes "checkpoint") (codes "sense") refl,
          none_of (codes "sense") all (λ x b. b.sense) free,
        ),
      ),
      (
        (apart_byte (codes "checkpoint") (codes "emit") refl, none_of (codes "emit") all (λ x b. b.emit) free),
        (none_of (codes "checkpoint") all (λ x b. b.checkpoint) free, o.apart),
      ),
    )
