-- Each struct of a source is a node of it, and each function that it defines.
use Rattle.std.proofs.Common.{◌≡◌, ℕ, ◌+◌, ◌≤◌, List, [], ◌∷◌, ◌++◌, map, length, length-append, Option, Some, None, Result, Ok, refl, sym, ap, subst, rules, arith}
use Rattle.c_tree.specs.declared.declarations.Init.{Init}
use Rattle.c_tree.specs.declared.statements.Compound.{Compound}
use Rattle.c_tree.specs.declared.unit.Struct.{Struct as SourceStruct}
use Rattle.c_tree.specs.declared.unit.Function.{Function as SourceFunction}
use Rattle.c_tree.specs.declared.unit.External.{External}
use Rattle.c_tree.specs.declared.unit.External.TheVariants as external
use Rattle.c_tree.specs.declared.unit.Tree.{Tree}
use Rattle.c_tree.specs.Measure.{all, sum, init_measure, struct_measure, function_measure, external_measure}
use Rattle.core_tree.specs.declared.types.Struct.{Struct}
use Rattle.core_tree.specs.declared.program.Function.{Function}
use Rattle.c_typing.specs.declared.environment.Env.{Env}
use Rattle.c_typing.specs.declared.fault.Rule.{Rule}
use Rattle.c_typing.specs.Outcome.{Outcome}
use Rattle.c_typing.specs.TypeNames.{Qualified}
use Rattle.c_checking.specs.declared.draft.Draft.{Draft}
use Rattle.c_checking.specs.Declarators.{base_of, declared_type}
use Rattle.c_checking.specs.Initialisers.{begun}
use Rattle.c_checking.specs.Statements.{compound}
use Rattle.c_checking.specs.Externals.{in_turn, unless, entered_global, global, globals, defining, checked_fields, structure, struct_base}
use Rattle.c_checking.specs.Functions.{Head, head, function_rule, signature, declared, entering, with_body, function}
use Rattle.c_checking.specs.Calls.{definitions}
use Rattle.c_checking.specs.Checked.{external_step, at_start}
use Rattle.c_checking_laws.specs.Programs.{FewOfSource}
use Rattle.c_checking_laws.proofs.FileScope.{then_is}
use Rattle.c_checking_laws.proofs.Structs.{same_structs, function_structs}

done : {p q : Draft} → ◌≡◌ {A = Outcome Draft} (Ok p) (Ok q) → p ≡ q
done is = cc

-- a part of a source adds no more structs than this, and no more functions
record Adds (n : ℕ) (d behind : Draft) : Type 0 where
  structs : length behind.env.structs ≤ length d.env.structs + n
  functions : length behind.functions ≤ length d.functions + n

adds_on : (n m k : ℕ) (d mid behind : Draft) → n + m ≤ k → Adds n d mid → Adds m mid behind → Adds k d behind
adds_on n m k d mid behind h p q = record {
  structs =
      on (length d.env.structs) (length mid.env.structs) (length behind.env.structs) p.structs q.structs;
  functions = on (length d.functions) (length mid.functions) (length behind.functions) p.functions q.functions;
}
  where
    on : (a b c : ℕ) → b ≤ a + n → c ≤ b + m → c ≤ a + k
    on a b c p q = omega arith

adds_nothing : (d behind : Draft) → behind.env.structs ≡ d.env.structs → behind.functions ≡ d.functions → Adds 0 d behind
adds_nothing d behind p q = record {
  structs = none (length behind.env.structs) (length d.env.structs) (ap (λ (ss : List Struct). length ss) p);
  functions = none (length behind.functions) (length d.functions) (ap (λ (fs : List Function). length fs) q);
}
  where
    none : (a b : ℕ) → a ≡ b → a ≤ b + 0
    none a b e = omega arith

-- ---- variables

pub global_functions : (base : Env → Result Qualified Rule) (i : Init) (d behind : Draft) → global base i d ≡ Ok behind
    → behind.functions ≡ d.functions
unfolding global
global_functions base i d behind is =
    let t = then_is (declared_type d.env i.line (base d.env) i.declr.stars i.declr.bounds) _ behind is in
    let u = then_is (entered_global i.line i.declr.name t.first d) _ behind t.is_next in
    let v = then_is (begun u.first i.line t.first.ty i.initial) _ behind u.is_next in
    sym (ap (λ (z : Draft). z.functions) (done v.is_next))

globals_add : (base : Env → Result Qualified Rule) (is : List Init) (d behind : Draft) → globals base is d ≡ Ok behind
    → Adds 0 d behind
globals_add base [] d behind at = let e : d ≡ behind = cc in subst (λ z. Adds 0 d z) e (adds_nothing d d refl refl)
globals_add base (i ∷ is) d behind at =
    let t = then_is (global base i d) _ behind at in
    adds_on 0 0 0 d t.first behind (omega arith)
    (adds_nothing d t.first (same_structs base i d t.first t.is_first) (global_functions base i d t.first t.is_first))
    (globals_add base is t.first behind t.is_next)

-- ---- structs

more_than : {A : Type 0} (xs ys : List A) (x : A) → xs ++ x ∷ [] ≡ ys → length ys ≤ length xs + 1
more_than xs ys x e =
    let a : length (xs ++ x ∷ []) ≡ length xs + 1 = length-append xs (x ∷ []) in
    let b : length (xs ++ x ∷ []) ≡ length ys = ap length e in omega arith

same_count : {A : Type 0} (xs ys : List A) → xs ≡ ys → length ys ≤ length xs + 1
same_count xs ys e = let b : length xs ≡ length ys = ap length e in omega arith

pub struct_functions : (s : SourceStruct) (d behind : Draft) → structure s d ≡ Ok behind → d.functions ≡ behind.functions
unfolding structure
struct_functions s d behind is =
    let t = then_is (checked_fields (defining s.name d.env) s) _ behind is in ap (λ (z : Draft). z.functions) (done t.is_next)

struct_adds : (s : SourceStruct) (d behind : Draft) → structure s d ≡ Ok behind → Adds 1 d behind
unfolding structure
struct_adds s d behind is =
    let t = then_is (checked_fields (defining s.name d.env) s) _ behind is in
    let e = done t.is_next in record {
      structs = more_than d.env.structs behind.env.structs _ (ap (λ (z : Draft). z.env.structs) e);
      functions = same_count d.functions behind.functions (ap (λ (z : Draft). z.functions) e);
    }

-- ---- functions

body_functions : (f : SourceFunction) (h : Head) (d behind : Draft) (env : Env) (body : Option Compound)
    → with_body f h d env body ≡ Ok behind → length behind.functions ≤ length d.functions + 1
body_functions f h d behind env None is =
    same_count d.functions behind.functions (ap (λ (z : Draft). z.functions) (done is))
body_functions f h d behind env (Some c) is =
    let t = then_is (compound c (entering h env)) _ behind is in
    more_than d.functions behind.functions _ (ap (λ (z : Draft). z.functions) (done t.is_next))

functions_more : (names : List (List ℕ)) (f : SourceFunction) (d behind : Draft) → function names f d ≡ Ok behind
    → length behind.functions ≤ length d.functions + 1
unfolding function
functions_more names f d behind is =
    let t = then_is (head d.env f) _ behind is in
    let u = then_is (unless f.line (function_rule d.env f t.first) t.first) _ behind t.is_next in
    body_functions f u.first d behind (declared d.env f.name (signature names d.env f u.first)) f.body u.is_next

function_adds : (names : List (List ℕ)) (f : SourceFunction) (d behind : Draft) → function names f d ≡ Ok behind
    → Adds 1 d behind
function_adds names f d behind is = record {
  structs = same_count d.env.structs behind.env.structs (sym (function_structs names f d behind is));
  functions = functions_more names f d behind is;
}

-- ---- parts of a source

adds_more : (n m : ℕ) (d behind : Draft) → n ≤ m → Adds n d behind → Adds m d behind
adds_more n m d behind h p = record {
  structs = more (length d.env.structs) (length behind.env.structs) p.structs;
  functions = more (length d.functions) (length behind.functions) p.functions;
}
  where
    more : (a b : ℕ) → b ≤ a + n → b ≤ a + m
    more a b p = omega arith

external_adds : (names : List (List ℕ)) (x : External) (d behind : Draft) → external_step names x d ≡ Ok behind
    → Adds (external_measure sum x) d behind
external_adds names (external.Struct defined inits) d behind is =
    let t = then_is (structure defined d) _ behind is in
    adds_on 1 0 (struct_measure sum defined + all sum (init_measure sum) inits) d t.first behind (omega arith)
    (struct_adds defined d t.first t.is_first)
    (globals_add (struct_base (length d.env.structs)) inits t.first behind t.is_next)
external_adds names (external.Function is_static f) d behind is =
    adds_more 1 (function_measure sum f) d behind (omega arith) (function_adds names f d behind is)
external_adds names (external.Declaration is_static None dec) d behind is =
    adds_more 0 (external_measure sum (external.Declaration is_static None dec)) d behind (omega arith)
    (globals_add (λ env. base_of env dec.spec) dec.inits d behind is)
external_adds names (external.Declaration is_static (Some lifetime) dec) d behind is = absurd (search rules)

externals_add : (names : List (List ℕ)) (xs : List External) (d behind : Draft)
    → in_turn (map (external_step names) xs) d ≡ Ok behind → Adds (all sum (external_measure sum) xs) d behind
externals_add names [] d behind is =
    let e : d ≡ behind = cc in subst (λ z. Adds 0 d z) e (adds_nothing d d refl refl)
externals_add names (x ∷ xs) d behind is =
    let t = then_is (external_step names x d) _ behind is in
    adds_on (external_measure sum x) (all sum (external_measure sum) xs) (all sum (external_measure sum) (x ∷ xs)) d t.first
    behind (omega arith) (external_adds names x d t.first t.is_first) (externals_add names xs t.first behind t.is_next)

pub few_of_source : (tree : Tree) (last : Draft) → FewOfSource tree last
few_of_source tree last is =
    let p = externals_add (definitions tree) tree.externals at_start last is in (
      from_none (length last.env.structs) (all sum (external_measure sum) tree.externals) p.structs,
      from_none (length last.functions) (all sum (external_measure sum) tree.externals) p.functions,
    )
  where
    from_none : (a n : ℕ) → a ≤ 0 + n → a ≤ n
    from_none a n h = omega arith
