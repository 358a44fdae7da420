-- A function is declared, and a whole function when its parts are known.
use Rattle.std.proofs.Common.{◌≡◌, ℕ, ◌≤◌, List, [], ◌∷◌, ◌++◌, length, Option, None, Some, Result, Ok, Err, refl, sym, ap, subst, ◌∙◌}
use Rattle.std.proofs.lemmas.List.{set_past}
use Rattle.std.specs.Prelude.{slice_set}
use Rattle.c_tree.specs.declared.statements.Compound.{Compound}
use Rattle.c_tree.specs.declared.unit.Function.{Function as SourceFunction}
use Rattle.core_tree.specs.declared.statements.Stmt.{Stmt}
use Rattle.c_typing.specs.declared.fault.Rule.{Rule}
use Rattle.c_typing.specs.declared.fault.Stop.{Stop}
use Rattle.c_typing.specs.declared.fault.Stop.TheVariants.{Broken}
use Rattle.c_typing.specs.declared.fault.Fault.{Fault}
use Rattle.c_typing.specs.declared.environment.Env.{Env}
use Rattle.c_typing.specs.declared.environment.Signature.{Signature}
use Rattle.c_typing.specs.declared.environment.What.{What}
use Rattle.c_typing.specs.declared.environment.What.TheVariants as what
use Rattle.c_typing.specs.Outcome.{Outcome, ◌>>=◌}
use Rattle.c_typing.specs.Scopes.{lookup}
use Rattle.c_checking.specs.declared.draft.Draft.{Draft}
use Rattle.c_checking.specs.Statements.{compound}
use Rattle.c_checking.specs.Functions.{Head, head, function_rule, signature, declared, declared_by, with_body, entering, left, function_of, function}
use Rattle.c_functions.specs.declared.bodies.Body.{Body}
use Rattle.c_externals.specs.Drafting.{Becomes}
use Rattle.c_functions.specs.Heads.{accepted, body_of, place_of}

-- ---- the name of a function

known_case : (env : Env) (name : List ℕ) (s : Signature) (place : ℕ) (found : Option What) → place_of found ≡ Some place
    → declared_by env name s found ≡ record env { functions = slice_set env.functions place s }
known_case env name s place None is = absurd (cc)
known_case env name s place (Some (what.Local n t r)) is = absurd (cc)
known_case env name s place (Some (what.Global n t r)) is = absurd (cc)
known_case env name s place (Some (what.Function at)) is =
    let e : at ≡ place = cc in
    ap (λ n. record env { functions = slice_set env.functions n s }) e

new_case : (env : Env) (name : List ℕ) (s : Signature) (found : Option What) → place_of found ≡ None
    → declared_by env name s found ≡ record env {
      names = env.names ++ record { name = name; what = what.Function (length env.functions) } ∷ [];
      functions = env.functions ++ s ∷ [];
    }
new_case env name s None is = refl
new_case env name s (Some (what.Local n t r)) is = refl
new_case env name s (Some (what.Global n t r)) is = refl
new_case env name s (Some (what.Function at)) is = absurd (cc)

pub known_is : (env : Env) (name : List ℕ) (s : Signature) (place : ℕ) → place_of (lookup env.names name) ≡ Some place
    → declared env name s ≡ record env { functions = slice_set env.functions place s }
known_is env name s place is = known_case env name s place (lookup env.names name) is

pub past_is : (env : Env) (name : List ℕ) (s : Signature) (place : ℕ) → place_of (lookup env.names name) ≡ Some place
    → length env.functions ≤ place → declared env name s ≡ env
past_is env name s place is h =
    known_is env name s place is ∙ ap (λ fs. record env { functions = fs }) (set_past env.functions place s h)

pub new_is : (env : Env) (name : List ℕ) (s : Signature) → place_of (lookup env.names name) ≡ None
    → declared env name s ≡ record env {
      names = env.names ++ record { name = name; what = what.Function (length env.functions) } ∷ [];
      functions = env.functions ++ s ∷ [];
    }
new_is env name s is = new_case env name s (lookup env.names name) is

-- ---- bodies

-- what a body comes to, by what stands in its braces
abbrev pub ended : SourceFunction → Head → Draft → Env → Outcome (List Stmt × Env) → Outcome Draft
ended f h d env o = o >>= λ p. Ok (record d { env = left env p.1; functions = d.functions ++ function_of f h p.0 p.1.locals ∷ [] })

abbrev pub as_body : Env → Outcome (List Stmt × Env) → Outcome (Body × Env)
as_body env o = o >>= λ p. Ok (record { statements = p.0; objects = p.1.locals }, left env p.1)

abbrev body_from : List Stmt × Env → Body
body_from p = record { statements = p.0; objects = p.1.locals }

abbrev pair : Body → Env → Body × Env
pair b env = (b, env)

ended_case : (f : SourceFunction) (h : Head) (d : Draft) (env : Env) (b : Body) (behind : Env) (o : Outcome (List Stmt × Env))
    → as_body env o ≡ Ok (b, behind)
    → ended f h d env o ≡ Ok (record d { env = behind; functions = d.functions ++ function_of f h b.statements b.objects ∷ [] })
ended_case f h d env b behind (Err g) is = absurd (cc)
ended_case f h d env b behind (Ok p) is =
    let w : pair (body_from p) (left env p.1) ≡ pair b behind = cc in
    let e : body_from p ≡ b = ap (λ (x : Body × Env). x.0) w in
    let l : left env p.1 ≡ behind = ap (λ (x : Body × Env). x.1) w in
    ap (λ (x : Body). Ok (record d { env = left env p.1; functions = d.functions ++ function_of f h x.statements x.objects ∷ [] })) e
    ∙ ap (λ y. Ok (record d { env = y; functions = d.functions ++ function_of f h b.statements b.objects ∷ [] })) l

ended_fault : (f : SourceFunction) (h : Head) (d : Draft) (env : Env) (g : Fault) (o : Outcome (List Stmt × Env))
    → as_body env o ≡ Err g → ended f h d env o ≡ Err g
ended_fault f h d env g (Err i) is =
    let e : i ≡ g = cc in
    ap (λ x. Err x) e
ended_fault f h d env g (Ok p) is = absurd (cc)

pub defined_is : (f : SourceFunction) (h : Head) (d : Draft) (env : Env) (body : Compound) (b : Body) (behind : Env)
    → body_of h body env ≡ Ok (b, behind)
    → with_body f h d env (Some body)
    ≡ Ok (record d { env = behind; functions = d.functions ++ function_of f h b.statements b.objects ∷ [] })
defined_is f h d env body b behind is = ended_case f h d env b behind (compound body (entering h env)) is

pub defined_breaks : (f : SourceFunction) (h : Head) (d : Draft) (env : Env) (body : Compound) (g : Fault)
    → body_of h body env ≡ Err g → with_body f h d env (Some body) ≡ Err g
defined_breaks f h d env body g is = ended_fault f h d env g (compound body (entering h env)) is

-- ---- a function that breaks no rule

accepted_by : (names : List (List ℕ)) (f : SourceFunction) (h : Head) (d : Draft) (s : Signature) (env : Env)
    (body : Option Compound) → f.body ≡ body → s ≡ signature names d.env f h → env ≡ declared d.env f.name s
    → accepted names f h d ≡ with_body f h d env body
accepted_by names f h d s env body written known behind =
    ap (λ b. with_body f h d (declared d.env f.name (signature names d.env f h)) b) written
    ∙ (ap (λ x. with_body f h d (declared d.env f.name x) body) (sym known) ∙ ap (λ x. with_body f h d x body) (sym behind))

pub accepted_prototype : (names : List (List ℕ)) (f : SourceFunction) (h : Head) (d : Draft) (s : Signature) (env : Env)
    → f.body ≡ None → s ≡ signature names d.env f h → env ≡ declared d.env f.name s
    → accepted names f h d ≡ Ok (record d { env = env })
accepted_prototype names f h d s env written known behind = accepted_by names f h d s env None written known behind

pub accepted_is : (names : List (List ℕ)) (f : SourceFunction) (h : Head) (d after : Draft) (s : Signature) (env : Env)
    (body : Compound) → f.body ≡ Some body → s ≡ signature names d.env f h → env ≡ declared d.env f.name s
    → with_body f h (record d { env = env }) env (Some body) ≡ Ok after → accepted names f h d ≡ Ok after
accepted_is names f h d after s env body written known behind is =
    accepted_by names f h d s env (Some body) written known behind ∙ is

pub accepted_breaks : (names : List (List ℕ)) (f : SourceFunction) (h : Head) (d : Draft) (s : Signature) (env : Env)
    (body : Compound) (g : Fault) → f.body ≡ Some body → s ≡ signature names d.env f h → env ≡ declared d.env f.name s
    → with_body f h (record d { env = env }) env (Some body) ≡ Err g → accepted names f h d ≡ Err g
accepted_breaks names f h d s env body g written known behind is =
    accepted_by names f h d s env (Some body) written known behind ∙ is

-- ---- the whole

pub head_breaks : (names : List (List ℕ)) (f : SourceFunction) (d : Draft) (g : Fault) → head d.env f ≡ Err g
    → function names f d ≡ Err g
unfolding function
head_breaks names f d g is = rw is refl

rule_breaks : (names : List (List ℕ)) (f : SourceFunction) (d : Draft) (h : Head) (env : Env) (rule : Rule)
    → head d.env f ≡ Ok h → env ≡ d.env → function_rule env f h ≡ Some rule
    → function names f d ≡ Err (record { rule = rule; line = f.line })
unfolding function
rule_breaks names f d h env rule is kept breaks =
    let b : function_rule d.env f h ≡ Some rule = ap (λ e. function_rule e f h) (sym kept) ∙ breaks in
    rw is (rw b refl)

pub rule_stops : (names : List (List ℕ)) (f : SourceFunction) (d behind : Draft) (h : Head) (env : Env)
    (found : Option Rule) (rule : Rule) (stop : Stop) → head d.env f ≡ Ok h → env ≡ d.env → found ≡ function_rule env f h
    → found ≡ Some rule → stop ≡ Broken (record { rule = rule; line = f.line })
    → Becomes {A = Unit {0}} (function names f d) (Err stop) behind
rule_stops names f d behind h env found rule stop is kept judged breaks told =
    subst (λ x. Becomes {A = Unit {0}} (function names f d) (Err x) behind) (sym told)
    (rule_breaks names f d h env rule is kept (sym judged ∙ breaks))

whole : (names : List (List ℕ)) (f : SourceFunction) (d : Draft) (h : Head) (env : Env)
    → head d.env f ≡ Ok h → env ≡ d.env → function_rule env f h ≡ None
    → function names f d ≡ accepted names f h (record d { env = env })
unfolding function
whole names f d h env is kept none =
    let b : function_rule d.env f h ≡ None = ap (λ e. function_rule e f h) (sym kept) ∙ none in
    rw is (rw b (ap (λ e. accepted names f h (record d { env = e })) (sym kept)))

pub function_becomes : {A : Type 0} (names : List (List ℕ)) (f : SourceFunction) (d behind : Draft) (h : Head) (env : Env)
    (found : Option Rule) (r : Result A Stop) → head d.env f ≡ Ok h → env ≡ d.env → found ≡ function_rule env f h → found ≡ None
    → Becomes (accepted names f h (record d { env = env })) r behind → Becomes (function names f d) r behind
function_becomes names f d behind h env found r is kept judged none rest =
    subst (λ x. Becomes x r behind) (sym (whole names f d h env is kept (sym judged ∙ none))) rest
