-- The variables of a source are lawful: what their scalars begin with, too.
use Rattle.std.proofs.Common.{◌≡◌, ℕ, suc, ◌+◌, ◌≤◌, Bool, true, false, cond, List, [], ◌∷◌, ◌++◌, map, length, length-append, Option, Some, None, Result, Ok, Err, refl, sym, ap, subst, ◌∙◌, rules, arith}
use Rattle.c_tree.specs.declared.declarations.Init.{Init}
use Rattle.c_tree.specs.declared.declarations.Initial.{Initial as SourceInitial}
use Rattle.c_tree.specs.declared.unit.External.{External}
use Rattle.c_tree.specs.declared.unit.External.TheVariants as external
use Rattle.c_tree.specs.declared.unit.Tree.{Tree}
use Rattle.core_tree.specs.declared.types.Ty.{Ty}
use Rattle.core_tree.specs.declared.types.Struct.{Struct}
use Rattle.core_tree.specs.declared.program.Core.{Core}
use Rattle.core_tree.specs.declared.program.Global.{Global}
use Rattle.core_tree.specs.declared.program.Initial.{Initial}
use Rattle.core_tree.specs.LawfulCore.{Every, Text, IsObject, AreStructs, AreInitials, IsGlobal, AreGlobals, scalar_types, struct_leaves as struct_types}
use Rattle.core_tree.specs.Layout.{layout}
use Rattle.c_typing.specs.declared.environment.Env.{Env}
use Rattle.c_typing.specs.declared.environment.What.{What}
use Rattle.c_typing.specs.declared.environment.What.TheVariants as w
use Rattle.c_typing.specs.declared.fault.Rule.{Rule}
use Rattle.c_typing.specs.declared.fault.Rule.TheVariants.{Twice}
use Rattle.c_typing.specs.Outcome.{Outcome, ◌>>=◌, broken}
use Rattle.c_typing.specs.TypeNames.{Qualified}
use Rattle.c_typing_laws.proofs.Same.{both_hold}
use Rattle.c_checking.specs.declared.draft.Draft.{Draft}
use Rattle.c_checking.specs.Declarators.{base_of, declared_type, object_rule}
use Rattle.c_checking.specs.Initialisers.{Given, leaves, is_list, initialised, is_constant, initials, begun}
use Rattle.c_checking.specs.Externals.{in_turn, entered_global, global, globals, structure, struct_base}
use Rattle.c_checking.specs.Calls.{definitions}
use Rattle.c_checking.specs.Checked.{external_step, at_start, core_of}
use Rattle.c_checking_laws.specs.Fitting.{each_is, if_there, initial_fits, init_fits, inits_fit, struct_fits, external_fits, is_known}
use Rattle.c_checking_laws.specs.Standing.{Begins, Declared, StandsAs, Stands, IsLocal, IsText, plain_scope}
use Rattle.c_checking_laws.specs.Walked.{StandsIn, FileStands, AtFileScope, Grows}
use Rattle.c_checking_laws.specs.Programs.{GlobalsOfSource}
use Rattle.c_checking_laws.proofs.Lists.{begins_itself, every_map, every_begins}
use Rattle.c_checking_laws.proofs.Sizes.{Object, object_of}
use Rattle.c_checking_laws.proofs.Leaves.{types, leaves_types, slots_count}
use Rattle.c_checking_laws.proofs.Initialisers.{settled_is, Puts, PutsAll, puts_of}
use Rattle.c_checking_laws.proofs.Locals.{one_scalar}
use Rattle.c_checking_laws.proofs.FileScope.{then_is, defined_names, grows_on, struct_advances, global_advances, globals_advance, external_advances, externals_advance, starts}
use Rattle.c_checking_laws.proofs.Sources.{declared_at, every_two}
use Rattle.c_checking_laws.proofs.Structs.{same_globals, function_globals, structs_of_source}
use Rattle.c_checking_laws.proofs.Initials.{are_scalars, puts_initial, none_initial}

done : {p q : Draft} → ◌≡◌ {A = Outcome Draft} (Ok p) (Ok q) → p ≡ q
done is = cc

-- ---- what a variable begins with

record BegunParts (env : Env) (t : Ty) (i : Option SourceInitial) (init : List Initial) : Type 0 where
  keeps : object_rule env t ≡ None
  values : List (Option Given)
  comes : initialised env (is_constant env.structs) t i ≡ Ok (Ok values)
  is_all : initials env.structs (layout env.structs t).slots values ≡ init

begun_by : (env : Env) (line : ℕ) (t : Ty) (i : Option SourceInitial) (init : List Initial) (o : Outcome (List (Option Given)))
    → ((vs : List (Option Given)) → o ≡ Ok vs
    → (object_rule env t ≡ None) × (initialised env (is_constant env.structs) t i ≡ Ok (Ok vs)))
    → (o >>= λ vs. Ok (initials env.structs (layout env.structs t).slots vs)) ≡ Ok init → BegunParts env t i init
begun_by env line t i init (Err f) so is = absurd (search rules)
begun_by env line t i init (Ok vs) so is =
    let w = so vs refl in record { keeps = w.0; values = vs; comes = w.1; is_all = cc }

begun_parts : (env : Env) (line : ℕ) (t : Ty) (i : Option SourceInitial) (init : List Initial) → begun env line t i ≡ Ok init
    → BegunParts env t i init
unfolding begun
begun_parts env line t i init is =
    begun_by env line t i init _ (λ vs at.
    let w = settled_is line (object_rule env t) (initialised env (is_constant env.structs) t i) vs at in (w.keeps, w.comes)) is

-- the text of a variable's initialiser
abbrev text_at : Core → Env → Text
text_at core env = record {
  scope = plain_scope core env.locals;
  params = 0;
  result = env.result;
  breaks = false;
  continues = false;
}

is_text_at : (core : Core) (env : Env) → IsText core env (text_at core env)
is_text_at core env =
    record { program = refl; inside = refl; early = refl; result = refl; params = none (length env.locals) }
  where
    none : (n : ℕ) → 0 ≤ n
    none n = omega arith

-- the program with the variables that are declared so far
abbrev with_globals : Core → List Global → Core
with_globals core gs = record core { globals = gs }

-- structs are lawful whatever variables there are
structs_with : (core : Core) (gs : List Global) (n : ℕ) (ss : List Struct) → AreStructs core n ss
    → AreStructs (with_globals core gs) n ss
structs_with core gs n [] all = tt
structs_with core gs n (s ∷ ss) all = (
  record { members = (all.0).members; some = (all.0).some; names = (all.0).names },
  structs_with core gs (n + 1) ss all.1,
)

-- as many scalars as slots
scalars_count : (core : Core) (structs : List Struct) (t : Ty) → Object core structs t
    → length (layout structs t).slots ≡ length (scalar_types core t)
scalars_count core structs t o = slots_count structs t ∙ ap (λ (ts : List Ty). length ts) (sym o.same_scalars)

module _ (calls : List ℕ → Bool) (core : Core) (gs : List Global) (own : ℕ) (env : Env)
    (d : Declared calls (with_globals core gs) env) (structs : AreStructs core 0 core.structs)
    (variables : Every (λ (g : Global). IsObject core g.ty) gs) (begins : Begins gs core.globals)
    (last : length gs ≡ own + 1) where
  abbrev seen : Core
  seen = with_globals core gs

  abbrev scope_text : Text
  scope_text = text_at seen env

  seen_structs : AreStructs seen 0 core.structs
  seen_structs = structs_with core gs 0 core.structs structs

  values_initial : (t : Ty) (by_list : Bool) (vs : List (Option Given)) → Object core env.structs t
      → PutsAll calls seen env scope_text d (is_text_at seen env) (begins_itself env.locals) (is_constant env.structs) t
      by_list vs
      → AreInitials core own (scalar_types core t) (initials env.structs (layout env.structs t).slots vs)
  values_initial t _ _ o (PutsAll.nothing by_list) =
      none_initial core own scope_text.scope env.structs d.structs refl seen_structs variables begins last
      (layout env.structs t).slots (scalar_types core t) (scalars_count core env.structs t o) (are_scalars core t)
  values_initial t _ _ o (PutsAll.alone by_list g scalar i may) =
      let p : Puts scope_text.scope (scalar_types core t) (Some g ∷ []) =
      subst (λ ts. Puts scope_text.scope ts (Some g ∷ [])) (sym (one_scalar (struct_types [] core.structs) t scalar)) (i, tt) in
      puts_initial core own scope_text.scope env.structs d.structs refl seen_structs variables begins last
      (layout env.structs t).slots (scalar_types core t) (Some g ∷ []) (scalars_count core env.structs t o) (are_scalars core t) p
  values_initial t _ _ o (PutsAll.each_one vs puts) =
      let f : types (leaves env.structs t) ≡ scalar_types core t = leaves_types env.structs t ∙ sym o.same_scalars in
      puts_initial core own scope_text.scope env.structs d.structs refl seen_structs variables begins last
      (layout env.structs t).slots (scalar_types core t) vs (scalars_count core env.structs t o) (are_scalars core t)
      (subst (λ ts. Puts scope_text.scope ts vs) f puts)

  pub begun_lawful : (line : ℕ) (t : Ty) (i : Option SourceInitial) (init : List Initial)
      → if_there (initial_fits calls) i ≡ true → begun env line t i ≡ Ok init
      → AreInitials core own (scalar_types core t) init
  begun_lawful line t i init fine is =
      let p = begun_parts env line t i init is in
      let o = object_of core env t d.structs d.alone p.keeps in
      let q = puts_of calls seen env scope_text d (is_text_at seen env) (begins_itself env.locals) (is_constant env.structs) t i
      p.values fine p.comes in
      subst (λ l. AreInitials core own (scalar_types core t) l) p.is_all (values_initial t (is_list i) p.values o q)

-- ---- the walk

are_globals_more : (core : Core) (n : ℕ) (gs : List Global) (g : Global) → AreGlobals core false n gs
    → IsGlobal core false (n + length gs) g → AreGlobals core false n (gs ++ g ∷ [])
are_globals_more core n [] g p q = (subst (λ k. IsGlobal core false k g) (none n) q, tt)
  where
    none : (n : ℕ) → n + 0 ≡ n
    none n = omega arith
are_globals_more core n (x ∷ gs) g p q =
    (p.0, are_globals_more core (n + 1) gs g p.1 (subst (λ k. IsGlobal core false k g) (on n (length gs)) q))
  where
    on : (n k : ℕ) → n + suc k ≡ n + 1 + k
    on n k = omega arith

module _ (names : List (List ℕ)) (last : Draft) (file : AtFileScope names last)
    (all : defined_names last.functions ≡ names) (structs : AreStructs (core_of last) 0 last.env.structs)
    (objects : Every (λ (g : Global). IsLocal (core_of last) g.ty) last.globals) where
  abbrev calls : List ℕ → Bool
  calls = is_known names

  abbrev core : Core
  core = core_of last

  abbrev Kept : Draft → Type 0
  Kept d = AreGlobals core false 0 d.globals

  -- with the variables so far, what is declared stands as in the end
  declared_so_far : (d : Draft) → AtFileScope names d → Grows d last → Declared calls (with_globals core d.globals) d.env
  declared_so_far d a grows =
      let e = declared_at names last file all d a grows in
      record {
        structs = e.structs;
        names = every_two (FileStands names d) (Stands calls core d.env.functions d.env.locals)
            (Stands calls (with_globals core d.globals) d.env.functions d.env.locals) d.env.names
            (λ n p q. so_far n.name n.what p q) a.stand e.names;
        outside = e.outside;
        alone = e.alone;
      }
    where
      so_far : (name : List ℕ) (what : What) → StandsIn names d.globals d.env.functions d.functions d.env.names name what
          → StandsAs calls core d.env.functions d.env.locals name what
          → StandsAs calls (with_globals core d.globals) d.env.functions d.env.locals name what
      so_far name (w.Local n t r) p q = absurd p
      so_far name (w.Global n t r) p q = p
      so_far name (w.Function place) p q = q

  objects_so_far : (d : Draft) → Grows d last → Every (λ (g : Global). IsLocal core g.ty) d.globals
  objects_so_far d grows =
      every_begins (λ (g : Global). IsLocal core g.ty) d.globals last.globals grows.globals objects

  last_object : (gs : List Global) (g : Global) → Every (λ (g : Global). IsLocal core g.ty) (gs ++ g ∷ []) → IsLocal core g.ty
  last_object [] g p = p.0
  last_object (x ∷ gs) g p = last_object gs g p.1

  -- a variable that is added
  global_added : (i : Init) (d behind : Draft) (g : Global) → Kept d → AtFileScope names behind → Grows behind last
      → if_there (initial_fits calls) i.initial ≡ true → behind.globals ≡ d.globals ++ g ∷ [] → g.lifetime ≡ None
      → begun behind.env i.line g.ty i.initial ≡ Ok g.init → Kept behind
  global_added i d behind g so a grows fine at untimed is =
      let count : length behind.globals ≡ length d.globals + 1 =
      ap (λ (gs : List Global). length gs) at ∙ length-append d.globals (g ∷ []) in
      let so_far = objects_so_far behind grows in
      let own : IsLocal core g.ty =
      last_object d.globals g (subst (λ gs. Every (λ (g : Global). IsLocal core g.ty) gs) at so_far) in
      let init : AreInitials core (length d.globals) (scalar_types core g.ty) g.init =
      begun_lawful calls core behind.globals (length d.globals) behind.env (declared_so_far behind a grows) structs
      (every_map (λ (g : Global). IsLocal core g.ty) (λ (g : Global). IsObject core g.ty) behind.globals (λ g p. p.0) so_far)
      grows.globals count i.line g.ty i.initial g.init fine is in
      let made : IsGlobal core false (length d.globals) g = record {
        object = own.0;
        small = own.1;
        init = init;
        timed = rw untimed tt;
        lifetime = λ checked. absurd (never checked);
      } in
      subst (λ gs. AreGlobals core false 0 gs) (sym at)
      (are_globals_more core 0 d.globals g so (subst (λ n. IsGlobal core false n g) (none_plus (length d.globals)) made))
    where
      never : false ≡ true → ⊥
      never e = cc

      none_plus : (n : ℕ) → n ≡ 0 + n
      none_plus n = omega arith

  taken_by : (line : ℕ) (made : Env) (b : Bool) (z : Env) → cond b (broken Twice line) (Ok made) ≡ Ok z → made ≡ z
  taken_by line made true z is = absurd (search rules)
  taken_by line made false z is = cc

  global_kept : (base : Env → Result Qualified Rule) (i : Init) (d behind : Draft) → AtFileScope names d → Kept d
      → init_fits calls i ≡ true → global base i d ≡ Ok behind → Grows behind last → Kept behind
  unfolding global
  global_kept base i d behind a so fine is grows =
      let t = then_is (declared_type d.env i.line (base d.env) i.declr.stars i.declr.bounds) _ behind is in
      let u = then_is (entered_global i.line i.declr.name t.first d) _ behind t.is_next in
      let v = then_is (begun u.first i.line t.first.ty i.initial) _ behind u.is_next in
      let g : Global = record {
        name = i.declr.name;
        ty = t.first.ty;
        lifetime = None;
        init = v.first;
        before = length d.functions;
        line = i.line;
      } in
      let e : record d { env = u.first; globals = d.globals ++ g ∷ [] } ≡ behind = done v.is_next in
      let z : begun behind.env i.line t.first.ty i.initial ≡ Ok v.first =
      ap (λ en. begun en i.line t.first.ty i.initial) (sym (ap (λ (z : Draft). z.env) e)) ∙ v.is_first in
      global_added i d behind g so (global_advances names base i d behind a is).file grows fine
      (sym (ap (λ (z : Draft). z.globals) e)) refl z

  globals_kept : (base : Env → Result Qualified Rule) (is : List Init) (d behind : Draft) → AtFileScope names d → Kept d
      → inits_fit calls is ≡ true → globals base is d ≡ Ok behind → Grows behind last → Kept behind
  globals_kept base [] d behind a so fine at grows = let e : d ≡ behind = cc in subst (λ z. Kept z) e so
  globals_kept base (i ∷ is) d behind a so fine at grows =
      let f = both_hold (init_fits calls i) (inits_fit calls is) fine in
      let t = then_is (global base i d) _ behind at in
      let v = global_advances names base i d t.first a t.is_first in
      let r = globals_advance names base is t.first behind v.file t.is_next in
      globals_kept base is t.first behind v.file
      (global_kept base i d t.first a so f.0 t.is_first (grows_on t.first behind last r.grows grows)) f.1 t.is_next grows

  external_kept : (x : External) (d behind : Draft) → external_fits calls x ≡ true → AtFileScope names d → Kept d
      → external_step names x d ≡ Ok behind → Grows behind last → Kept behind
  external_kept (external.Struct defined inits) d behind fine a so is grows =
      let f = both_hold (struct_fits defined) (inits_fit calls inits) fine in
      let t = then_is (structure defined d) _ behind is in
      let v = struct_advances names defined d t.first a t.is_first in
      globals_kept (struct_base (length d.env.structs)) inits t.first behind v.file
      (subst (λ gs. AreGlobals core false 0 gs) (same_globals defined d t.first t.is_first) so) f.1 t.is_next grows
  external_kept (external.Function is_static f) d behind fine a so is grows =
      subst (λ gs. AreGlobals core false 0 gs) (function_globals names f d behind is) so
  external_kept (external.Declaration is_static None dec) d behind fine a so is grows =
      globals_kept (λ env. base_of env dec.spec) dec.inits d behind a so fine is grows
  external_kept (external.Declaration is_static (Some lifetime) dec) d behind fine a so is grows = absurd (search rules)

  externals_kept : (xs : List External) (d : Draft) → each_is (external_fits calls) xs ≡ true → AtFileScope names d → Kept d
      → in_turn (map (external_step names) xs) d ≡ Ok last → Kept last
  externals_kept [] d fine a so is = let e : d ≡ last = cc in subst (λ z. Kept z) e so
  externals_kept (x ∷ xs) d fine a so is =
      let v = both_hold (external_fits calls x) (each_is (external_fits calls) xs) fine in
      let t = then_is (external_step names x d) _ last is in
      let u = external_advances names x d t.first a t.is_first in
      let r = externals_advance names xs t.first last u.file t.is_next in
      externals_kept xs t.first v.1 u.file (external_kept x d t.first v.0 a so t.is_first r.grows) t.is_next

pub globals_of_source : (tree : Tree) (last : Draft) → GlobalsOfSource tree last
globals_of_source tree last fine is =
    let names : List (List ℕ) = definitions tree in
    let p = externals_advance names tree.externals at_start last (starts names) is in
    let w = structs_of_source tree last fine is in
    externals_kept names last p.file p.named w.0 w.2 tree.externals at_start fine (starts names) tt is
