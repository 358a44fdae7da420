-- The structs of a source are lawful, each with a tag of its own.
use Rattle.std.proofs.Common.{bytes_eq, ◌≡◌, ℕ, suc, ◌+◌, ◌≤◌, nat_le, Bool, true, false, ◌||◌, cond, List, [], ◌∷◌, ◌++◌, map, length, length-append, is_some, Option, Some, None, Result, Ok, Err, refl, sym, ap, subst, ◌∙◌, rules, tests, arith}
use Rattle.std.proofs.lemmas.Slice.Eq.{bytes_eq-Decides}
use Rattle.c_tree.specs.declared.qualified.Spec.{Spec}
use Rattle.c_tree.specs.declared.declarations.Declr.{Declr}
use Rattle.c_tree.specs.declared.declarations.Init.{Init}
use Rattle.c_tree.specs.declared.unit.Member.{Member as SourceMember}
use Rattle.c_tree.specs.declared.unit.Struct.{Struct as SourceStruct}
use Rattle.c_tree.specs.declared.unit.Function.{Function as SourceFunction}
use Rattle.c_tree.specs.declared.statements.Compound.{Compound}
use Rattle.c_tree.specs.declared.unit.External.{External}
use Rattle.c_tree.specs.declared.unit.External.TheVariants as external
use Rattle.c_tree.specs.declared.unit.Tree.{Tree}
use Rattle.c_tree.specs.declared.declarations.Initial.{Initial as SourceInitial}
use Rattle.core_tree.specs.declared.types.Ty.{Ty}
use Rattle.core_tree.specs.declared.types.Struct.{Struct}
use Rattle.core_tree.specs.declared.types.Member.{Member}
use Rattle.core_tree.specs.declared.program.Core.{Core}
use Rattle.core_tree.specs.declared.program.Global.{Global}
use Rattle.core_tree.specs.declared.program.Initial.{Initial}
use Rattle.core_tree.specs.LawfulCore.{Every, IsNone, Apart, is_object, IsObject, IsSmall, IsStruct, AreStructs}
use Rattle.c_typing.specs.declared.environment.Env.{Env}
use Rattle.c_typing.specs.declared.environment.Signature.{Signature}
use Rattle.c_typing.specs.declared.environment.What.{What}
use Rattle.c_typing.specs.declared.environment.What.TheVariants as w
use Rattle.c_typing.specs.declared.fault.Rule.{Rule}
use Rattle.c_typing.specs.declared.fault.Rule.TheVariants.{Twice, Incomplete}
use Rattle.c_typing.specs.Outcome.{Outcome, ◌>>=◌, broken}
use Rattle.c_typing.specs.Scopes.{lookup, tag_from, tags, is_sized}
use Rattle.c_typing.specs.TypeNames.{Qualified}
use Rattle.c_typing_laws.proofs.Same.{both_hold}
use Rattle.c_checking.specs.declared.draft.Draft.{Draft}
use Rattle.c_checking.specs.Declarators.{base_of, declared_type, object_rule}
use Rattle.c_checking.specs.Initialisers.{Given, begun}
use Rattle.c_checking.specs.Statements.{compound}
use Rattle.c_checking.specs.Externals.{in_turn, unless, is_one_of, has_twice, is_taken, declare_global, entered_global, global, globals, Field, field, fields_of, fields, are_sized, struct_rule, defining, checked_fields, structure, struct_base, structure_with}
use Rattle.c_checking.specs.Functions.{Head, head, function_rule, signature, declared, declared_by, entering, with_body, function}
use Rattle.c_checking.specs.Calls.{definitions}
use Rattle.c_checking.specs.Checked.{external_step, at_start, core_of}
use Rattle.c_checking_laws.specs.Fitting.{each_is, has_declr, inits_fit, struct_fits, external_fits, is_known}
use Rattle.c_checking_laws.specs.Standing.{Begins}
use Rattle.c_checking_laws.specs.Walked.{Around, AtFileScope, Grows, StructsOfSource}
use Rattle.c_checking_laws.proofs.Lists.{length_begins, every_more}
use Rattle.c_checking_laws.proofs.Sizes.{object_stays, object_of}
use Rattle.c_checking_laws.proofs.Initialisers.{settled_is}
use Rattle.c_checking_laws.proofs.Steady.{compound_steady, goes_on as around_on}
use Rattle.c_checking_laws.proofs.FileScope.{then_is, unless_is, neither, grows_on, enter_around, first_env, struct_advances, global_advances, globals_advance, external_advances, externals_advance, starts}

-- ---- names that stand once

done : {p q : Draft} → ◌≡◌ {A = Outcome Draft} (Ok p) (Ok q) → p ≡ q
done is = cc

apart_byte : (n m : List ℕ) → bytes_eq n m ≡ false → n ≡ m → ⊥
apart_byte n m other same = let e : bytes_eq n m ≡ true = (bytes_eq-Decides n m).1 same in absurd (search rules)

not_one_of : (more : List (List ℕ)) (n : List ℕ) → is_one_of more n ≡ false → IsNone n more
not_one_of [] n other = tt
not_one_of (m ∷ more) n other =
    let w = neither (bytes_eq m n) (is_one_of more n) other in
    ((λ same. apart_byte m n w.0 (sym same)), not_one_of more n w.1)

pub apart_names : (names : List (List ℕ)) → has_twice names ≡ false → Apart names
apart_names [] other = tt
apart_names (n ∷ more) other =
    let w = neither (is_one_of more n) (has_twice more) other in (not_one_of more n w.0, apart_names more w.1)

none_last : {A : Type 0} (x : A) (xs : List A) (y : A) → IsNone x xs → (x ≡ y → ⊥) → IsNone x (xs ++ y ∷ [])
none_last x [] y p q = (q, tt)
none_last x (z ∷ zs) y p q = (p.0, none_last x zs y p.1 q)

pub apart_last : {A : Type 0} (xs : List A) (y : A) → Apart xs → Every (λ x. x ≡ y → ⊥) xs → Apart (xs ++ y ∷ [])
apart_last [] y p q = (tt, tt)
apart_last (x ∷ xs) y p q = (none_last x xs y p.0 q.0, apart_last xs y p.1 q.1)

tag_by : (n : ℕ) (tag : List ℕ) (s : Struct) (more : List Struct) (b : Bool) → bytes_eq s.name tag ≡ b
    → is_some (cond b (Some n) (tag_from (n + 1) tag more)) ≡ false
    → (s.name ≡ tag → ⊥) × (is_some (tag_from (n + 1) tag more) ≡ false)
tag_by n tag s more true at_b other = absurd (search rules)
tag_by n tag s more false at_b other = (apart_byte s.name tag at_b, other)

no_tag : (n : ℕ) (tag : List ℕ) (structs : List Struct) → is_some (tag_from n tag structs) ≡ false
    → Every (λ x. x ≡ tag → ⊥) (map (λ (s : Struct). s.name) structs)
no_tag n tag [] other = tt
no_tag n tag (s ∷ more) other =
    let w = tag_by n tag s more (bytes_eq s.name tag) refl other in (w.0, no_tag (n + 1) tag more w.1)

-- ---- members

length_of : {A B : Type 0} (f : A → B) (xs : List A) → length (map f xs) ≡ length xs
length_of f [] = refl
length_of f (x ∷ xs) = ap (λ n. suc n) (length_of f xs)

same_names : (fs : List Field)
    → map (λ (m : Member). m.name) (map (λ (f : Field). record { name = f.name; ty = f.ty }) fs)
    ≡ map (λ (f : Field). f.name) fs
same_names [] = refl
same_names (f ∷ fs) = ap (λ l. f.name ∷ l) (same_names fs)

-- one declarator or more makes one member or more
fields_of_count : (env : Env) (line : ℕ) (sp : Spec) (ds : List Declr) (fs : List Field)
    → fields_of env line sp ds ≡ Ok fs → length fs ≡ length ds
fields_of_count env line sp [] fs is = let e : [] ≡ fs = cc in sym (ap (λ (l : List Field). length l) e)
fields_of_count env line sp (d ∷ ds) fs is =
    let t = then_is (field env line sp d) _ fs is in
    let u = then_is (fields_of env line sp ds) _ fs t.is_next in
    let e : t.first ∷ u.first ≡ fs = cc in
    sym (ap (λ (l : List Field). length l) e) ∙ ap (λ n. suc n) (fields_of_count env line sp ds u.first u.is_first)

at_least : (n m : ℕ) → n ≡ m → nat_le 1 m ≡ true → 1 ≤ n
at_least n m same some = grind (arith, tests)

fields_some : (env : Env) (line : ℕ) (ms : List SourceMember) (fs : List Field) → nat_le 1 (length ms) ≡ true
    → each_is has_declr ms ≡ true → fields env line ms ≡ Ok fs → 1 ≤ length fs
fields_some env line [] fs some each is = absurd (search rules)
fields_some env line (m ∷ ms) fs some each is =
    let w = both_hold (has_declr m) (each_is has_declr ms) each in
    let t = then_is (fields_of env line m.spec m.declrs) _ fs is in
    let u = then_is (fields env line ms) _ fs t.is_next in
    let e : t.first ++ u.first ≡ fs = cc in
    let n : 1 ≤ length t.first =
    at_least (length t.first) (length m.declrs) (fields_of_count env line m.spec m.declrs t.first t.is_first) w.0 in
    let l : length fs ≡ length t.first + length u.first =
    sym (ap (λ (x : List Field). length x) e) ∙ length-append t.first u.first in omega arith

-- ---- structs

record RuleKept (env : Env) (tag : List ℕ) (fs : List Field) : Type 0 where
  new : is_some (tag_from 0 tag env.structs) ≡ false
  once : has_twice (map (λ (f : Field). f.name) fs) ≡ false
  sized : are_sized env fs ≡ true

rule_by : (env : Env) (tag : List ℕ) (fs : List Field) (p q r : Bool) → is_some (tag_from 0 tag env.structs) ≡ p
    → has_twice (map (λ (f : Field). f.name) fs) ≡ q → are_sized env fs ≡ r
    → cond (p || q) (Some Twice) (cond r None (Some Incomplete)) ≡ None → RuleKept env tag fs
rule_by env tag fs true q r at_p at_q at_r is = absurd cc
rule_by env tag fs false true r at_p at_q at_r is = absurd cc
rule_by env tag fs false false true at_p at_q at_r is = record { new = at_p; once = at_q; sized = at_r }
rule_by env tag fs false false false at_p at_q at_r is = absurd cc

module _ (core : Core) where
  members_objects : (env : Env) (all own : ℕ) (fs : List Field) → tags env ≡ all → length env.structs ≡ own
      → all ≤ length core.structs → are_sized env fs ≡ true
      → Every (λ (m : Member). is_object (length core.structs) m.ty own ≡ true)
      (map (λ (f : Field). record { name = f.name; ty = f.ty }) fs)
  unfolding is_sized
  members_objects env all own [] at_all at_own below sized = tt
  members_objects env all own (f ∷ fs) at_all at_own below sized =
      let w = both_hold (is_sized env f.ty) (are_sized env fs) sized in
      let n : tags env ≤ length core.structs = omega arith in
      let m : length env.structs ≤ own = omega arith in (
        object_stays f.ty (tags env) (length core.structs) (length env.structs) own n m w.0,
        members_objects env all own fs at_all at_own below w.1,
      )

  are_structs_more : (n : ℕ) (xs : List Struct) (s : Struct) → AreStructs core n xs → IsStruct core (n + length xs) s
      → AreStructs core n (xs ++ s ∷ [])
  are_structs_more n [] s p q = (subst (λ k. IsStruct core k s) (none n) q, tt)
    where
      none : (n : ℕ) → n + 0 ≡ n
      none n = omega arith
  are_structs_more n (x ∷ xs) s p q =
      (p.0, are_structs_more (n + 1) xs s p.1 (subst (λ k. IsStruct core k s) (on n (length xs)) q))
    where
      on : (n k : ℕ) → n + suc k ≡ n + 1 + k
      on n k = omega arith

  abbrev pub StructsLawful : List Struct → Type 0
  StructsLawful structs = AreStructs core 0 structs × Apart (map (λ (s : Struct). s.name) structs)

  names_more : (xs : List Struct) (s : Struct)
      → map (λ (s : Struct). s.name) (xs ++ s ∷ []) ≡ map (λ (s : Struct). s.name) xs ++ s.name ∷ []
  names_more [] s = refl
  names_more (x ∷ xs) s = ap (λ l. x.name ∷ l) (names_more xs s)

  struct_made : (s : SourceStruct) (d behind : Draft) → struct_fits s ≡ true → StructsLawful d.env.structs
      → structure s d ≡ Ok behind → Begins behind.env.structs core.structs → StructsLawful behind.env.structs
  unfolding structure
  struct_made s d behind fine so is grows =
      let env : Env = defining s.name d.env in
      let t = then_is (checked_fields env s) _ behind is in
      let u = then_is (fields env s.line s.members) _ t.first t.is_first in
      let r = unless_is s.line (struct_rule env s.name u.first) u.first t.first u.is_next in
      let k : RuleKept env s.name u.first =
      rule_by env s.name u.first (is_some (tag_from 0 s.name env.structs))
      (has_twice (map (λ (f : Field). f.name) u.first)) (are_sized env u.first) refl refl refl r.0 in
      let w = both_hold (nat_le 1 (length s.members)) (each_is has_declr s.members) fine in
      let made : Struct = record {
        name = s.name;
        members = map (λ (f : Field). record { name = f.name; ty = f.ty }) u.first;
      } in
      let e : d.env.structs ++ made ∷ [] ≡ behind.env.structs =
      ap (λ (fs : List Field). d.env.structs ++ record {
        name = s.name;
        members = map (λ (f : Field). record { name = f.name; ty = f.ty }) fs;
      } ∷ []) r.1
      ∙ ap (λ (z : Draft). z.env.structs) (done t.is_next) in
      let below : length d.env.structs + 1 ≤ length core.structs =
      let l = length_begins behind.env.structs core.structs grows in
      let m : length behind.env.structs ≡ length d.env.structs + 1 =
      sym (ap (λ (ss : List Struct). length ss) e) ∙ length-append d.env.structs (made ∷ []) in omega arith in
      let own : IsStruct core (length d.env.structs) made = record {
        members = members_objects env (length d.env.structs + 1) (length d.env.structs) u.first refl refl below k.sized;
        some = subst (λ n. 1 ≤ n) (sym (length_of (λ (f : Field). record { name = f.name; ty = f.ty }) u.first))
            (fields_some env s.line s.members u.first w.0 w.1 u.is_first);
        names = subst (λ ns. Apart ns) (sym (same_names u.first)) (apart_names (map (λ (f : Field). f.name) u.first) k.once);
      } in
      subst (λ ss. StructsLawful ss) e (
        are_structs_more 0 d.env.structs made so.0 (subst (λ n. IsStruct core n made) (sym (none_plus (length d.env.structs))) own),
        subst (λ ns. Apart ns) (sym (names_more d.env.structs made))
            (apart_last (map (λ (s : Struct). s.name) d.env.structs) s.name so.1 (no_tag 0 s.name d.env.structs k.new)),
      )
    where
      none_plus : (n : ℕ) → 0 + n ≡ n
      none_plus n = omega arith

-- ---- functions and variables leave structs as they are

declared_structs : (env : Env) (name : List ℕ) (s : Signature) (what : Option What)
    → (declared_by env name s what).structs ≡ env.structs
declared_structs env name s None = refl
declared_structs env name s (Some (w.Local n t r)) = refl
declared_structs env name s (Some (w.Global n t r)) = refl
declared_structs env name s (Some (w.Function place)) = refl

body_structs : (names : List (List ℕ)) (f : SourceFunction) (h : Head) (d behind : Draft) (env : Env) (body : Option Compound)
    → with_body f h d env body ≡ Ok behind → behind.env.structs ≡ env.structs
body_structs names f h d behind env None is = sym (ap (λ (z : Draft). z.env.structs) (done is))
body_structs names f h d behind env (Some c) is =
    let t = then_is (compound c (entering h env)) _ behind is in
    let o : Around (first_env names h env) t.first.1 =
    around_on (first_env names h env) (entering h env) t.first.1 (enter_around names h.params (first_env names h env))
    (compound_steady c (entering h env) t.first.1 t.first.0 t.is_first) in
    sym (ap (λ (z : Draft). z.env.structs) (done t.is_next)) ∙ o.structs

pub function_structs : (names : List (List ℕ)) (f : SourceFunction) (d behind : Draft) → function names f d ≡ Ok behind
    → behind.env.structs ≡ d.env.structs
unfolding function
function_structs names f d behind is =
    let t = then_is (head d.env f) _ behind is in
    let u = then_is (unless f.line (function_rule d.env f t.first) t.first) _ behind t.is_next in
    body_structs names f u.first d behind (declared d.env f.name (signature names d.env f u.first)) f.body u.is_next
    ∙ declared_structs d.env f.name (signature names d.env f u.first) (lookup d.env.names f.name)

-- ---- variables

module _ (core : Core) where
  abbrev pub ObjectsAre : List Global → Type 0
  ObjectsAre gs = Every (λ (g : Global). IsObject core g.ty × IsSmall core g.ty) gs

  begun_by : (env : Env) (line : ℕ) (t : Ty) (o : Outcome (List (Option Given))) (next : List (Option Given) → List Initial)
      (init : List Initial)
      → ((vs : List (Option Given)) → o ≡ Ok vs → object_rule env t ≡ None)
      → ◌>>=◌ {A = List (Option Given)} {B = List Initial} o (λ vs. Ok (next vs)) ≡ Ok init → object_rule env t ≡ None
  begun_by env line t (Err f) next init so is = absurd (search rules)
  begun_by env line t (Ok vs) next init so is = so vs refl

  begun_object : (env : Env) (line : ℕ) (t : Ty) (i : Option SourceInitial) (init : List Initial)
      → begun env line t i ≡ Ok init → object_rule env t ≡ None
  unfolding begun
  begun_object env line t i init is =
      begun_by env line t _ _ init (λ vs at. (settled_is line (object_rule env t) _ vs at).keeps) is

  global_object : (base : Env → Result Qualified Rule) (i : Init) (d behind : Draft) → d.env.defining ≡ None
      → Begins d.env.structs core.structs → ObjectsAre d.globals → global base i d ≡ Ok behind → ObjectsAre behind.globals
  unfolding global
  global_object base i d behind alone b so is =
      let t = then_is (declared_type d.env i.line (base d.env) i.declr.stars i.declr.bounds) _ behind is in
      let u = then_is (entered_global i.line i.declr.name t.first d) _ behind t.is_next in
      let v = then_is (begun u.first i.line t.first.ty i.initial) _ behind u.is_next in
      let k = taken_by i.line (declare_global i.declr.name (length d.globals) t.first d.env)
      (is_taken d.env i.declr.name) u.first u.is_first in
      let r : object_rule u.first t.first.ty ≡ None = begun_object u.first i.line t.first.ty i.initial v.first v.is_first in
      let rule : object_rule (declare_global i.declr.name (length d.globals) t.first d.env) t.first.ty ≡ None =
      ap (λ (z : Env). object_rule z t.first.ty) k.1 ∙ r in
      let o = object_of core (declare_global i.declr.name (length d.globals) t.first d.env) t.first.ty b alone rule in
      let g : Global = record {
        name = i.declr.name;
        ty = t.first.ty;
        lifetime = None;
        init = v.first;
        before = length d.functions;
        line = i.line;
      } in
      subst (λ gs. ObjectsAre gs) (ap (λ (z : Draft). z.globals) (done v.is_next))
      (every_more (λ (g : Global). IsObject core g.ty × IsSmall core g.ty) d.globals (g ∷ []) so ((o.object, o.small), tt))
    where
      taken_by : (line : ℕ) (made : Env) (b : Bool) (z : Env) → cond b (broken Twice line) (Ok made) ≡ Ok z
          → (b ≡ false) × (made ≡ z)
      taken_by line made true z is = absurd (search rules)
      taken_by line made false z is = (refl, cc)

entered_structs : (line : ℕ) (made : Env) (b : Bool) (z : Env) → cond b (broken Twice line) (Ok made) ≡ Ok z → made ≡ z
entered_structs line made true z is = absurd (search rules)
entered_structs line made false z is = cc

pub same_structs : (base : Env → Result Qualified Rule) (i : Init) (d behind : Draft) → global base i d ≡ Ok behind
    → behind.env.structs ≡ d.env.structs
unfolding global
same_structs base i d behind is =
    let t = then_is (declared_type d.env i.line (base d.env) i.declr.stars i.declr.bounds) _ behind is in
    let u = then_is (entered_global i.line i.declr.name t.first d) _ behind t.is_next in
    let v = then_is (begun u.first i.line t.first.ty i.initial) _ behind u.is_next in
    let k = entered_structs i.line (declare_global i.declr.name (length d.globals) t.first d.env)
    (is_taken d.env i.declr.name) u.first u.is_first in
    sym (ap (λ (z : Draft). z.env.structs) (done v.is_next)) ∙ sym (ap (λ (z : Env). z.structs) k)

pub same_globals : (s : SourceStruct) (d behind : Draft) → structure s d ≡ Ok behind → d.globals ≡ behind.globals
unfolding structure
same_globals s d behind is =
    let t = then_is (checked_fields (defining s.name d.env) s) _ behind is in ap (λ (z : Draft). z.globals) (done t.is_next)

body_globals : (f : SourceFunction) (h : Head) (d behind : Draft) (env : Env) (body : Option Compound)
    → with_body f h d env body ≡ Ok behind → d.globals ≡ behind.globals
body_globals f h d behind env None is = ap (λ (z : Draft). z.globals) (done is)
body_globals f h d behind env (Some c) is =
    let t = then_is (compound c (entering h env)) _ behind is in ap (λ (z : Draft). z.globals) (done t.is_next)

pub function_globals : (names : List (List ℕ)) (f : SourceFunction) (d behind : Draft) → function names f d ≡ Ok behind
    → d.globals ≡ behind.globals
unfolding function
function_globals names f d behind is =
    let t = then_is (head d.env f) _ behind is in
    let u = then_is (unless f.line (function_rule d.env f t.first) t.first) _ behind t.is_next in
    body_globals f u.first d behind (declared d.env f.name (signature names d.env f u.first)) f.body u.is_next

-- ---- the whole source

module _ (names : List (List ℕ)) (last : Draft) where
  abbrev core : Core
  core = core_of last

  abbrev Kept : Draft → Type 0
  Kept d = StructsLawful core d.env.structs × ObjectsAre core d.globals

  global_kept : (base : Env → Result Qualified Rule) (i : Init) (d behind : Draft) → AtFileScope names d → Kept d
      → global base i d ≡ Ok behind → Grows behind last → Kept behind
  global_kept base i d behind a so is grows =
      let v = global_advances names base i d behind a is in
      let all = grows_on d behind last v.grows grows in
      let e : behind.env.structs ≡ d.env.structs = same_structs base i d behind is in (
        subst (λ ss. StructsLawful core ss) (sym e) so.0,
        global_object core base i d behind a.alone all.structs so.1 is,
      )

  globals_kept : (base : Env → Result Qualified Rule) (is : List Init) (d behind : Draft) → AtFileScope names d → Kept d
      → globals base is d ≡ Ok behind → Grows behind last → Kept behind
  globals_kept base [] d behind a so at grows = let e : d ≡ behind = cc in subst (λ z. Kept z) e so
  globals_kept base (i ∷ is) d behind a so at grows =
      let t = then_is (global base i d) _ behind at in
      let v = global_advances names base i d t.first a t.is_first in
      let r = globals_advance names base is t.first behind v.file t.is_next in
      globals_kept base is t.first behind v.file
      (global_kept base i d t.first a so t.is_first (grows_on t.first behind last r.grows grows)) t.is_next grows

  struct_kept : (s : SourceStruct) (inits : List Init) (d behind : Draft) → struct_fits s ≡ true → AtFileScope names d
      → Kept d → structure_with s inits d ≡ Ok behind → Grows behind last → Kept behind
  struct_kept s inits d behind fine a so is grows =
      let t = then_is (structure s d) _ behind is in
      let v = struct_advances names s d t.first a t.is_first in
      let r = globals_advance names (struct_base (length d.env.structs)) inits t.first behind v.file t.is_next in
      let on = grows_on t.first behind last r.grows grows in
      globals_kept (struct_base (length d.env.structs)) inits t.first behind v.file (
        struct_made core s d t.first fine so.0 t.is_first on.structs,
        subst (λ gs. ObjectsAre core gs) (same_globals s d t.first t.is_first) so.1,
      ) t.is_next grows

  external_kept : (x : External) (d behind : Draft) → external_fits (is_known names) x ≡ true → AtFileScope names d → Kept d
      → external_step names x d ≡ Ok behind → Grows behind last → Kept behind
  external_kept (external.Struct defined inits) d behind fine a so is grows =
      let w = both_hold (struct_fits defined) (inits_fit (is_known names) inits) fine in
      struct_kept defined inits d behind w.0 a so is grows
  external_kept (external.Function is_static f) d behind fine a so is grows =
      let e = function_structs names f d behind is in (
        subst (λ ss. StructsLawful core ss) (sym e) so.0,
        subst (λ gs. ObjectsAre core gs) (function_globals names f d behind is) so.1,
      )
  external_kept (external.Declaration is_static None dec) d behind fine a so is grows =
      globals_kept (λ env. base_of env dec.spec) dec.inits d behind a so is grows
  external_kept (external.Declaration is_static (Some lifetime) dec) d behind fine a so is grows = absurd (search rules)

  externals_kept : (xs : List External) (d : Draft) → each_is (external_fits (is_known names)) xs ≡ true
      → AtFileScope names d → Kept d → in_turn (map (external_step names) xs) d ≡ Ok last → Kept last
  externals_kept [] d fine a so is = let e : d ≡ last = cc in subst (λ z. Kept z) e so
  externals_kept (x ∷ xs) d fine a so is =
      let v = both_hold (external_fits (is_known names) x) (each_is (external_fits (is_known names)) xs) fine in
      let t = then_is (external_step names x d) _ last is in
      let u = external_advances names x d t.first a t.is_first in
      let r = externals_advance names xs t.first last u.file t.is_next in
      externals_kept xs t.first v.1 u.file (external_kept x d t.first v.0 a so t.is_first r.grows) t.is_next

pub structs_of_source : (tree : Tree) (last : Draft) → StructsOfSource tree last
structs_of_source tree last fine is =
    let k = externals_kept (definitions tree) last tree.externals at_start fine (starts (definitions tree)) ((tt, tt), tt) is in
    (k.0.0, k.0.1, k.1)
