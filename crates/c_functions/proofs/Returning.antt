-- Behind a head and a body nothing of them is in scope any more.
use Rattle.std.proofs.Common.{◌≡◌, ℕ, ◌≤◌, Bool, List, [], ◌∷◌, ◌++◌, length, take, Option, None, Some, Ok, Err, refl, sym, ap, ◌∙◌, arith}
use Rattle.std.proofs.lemmas.List.{take-append-le, take_all, length_push}
use Rattle.c_tree.specs.declared.statements.Compound.{Compound}
use Rattle.c_tree.specs.declared.unit.Function.{Function as SourceFunction}
use Rattle.c_tree.specs.declared.unit.Param.{Param}
use Rattle.core_tree.specs.declared.types.Ty.{Ty}
use Rattle.core_tree.specs.declared.statements.Stmt.{Stmt}
use Rattle.c_typing.specs.declared.fault.Fault.{Fault}
use Rattle.c_typing.specs.declared.environment.Env.{Env}
use Rattle.c_typing.specs.declared.environment.Named.{Named}
use Rattle.c_typing.specs.declared.environment.What.TheVariants as what
use Rattle.c_typing.specs.Outcome.{Outcome, ◌>>=◌, at}
use Rattle.c_typing.specs.TypeNames.{Qualified, pointed}
use Rattle.c_checking.specs.declared.draft.Parameter.{Parameter}
use Rattle.c_checking.specs.Declarators.{base_of}
use Rattle.c_checking.specs.Statements.{compound}
use Rattle.c_checking.specs.Walk.{inner, declare_local}
use Rattle.c_checking.specs.Functions.{Head, head, listed, parameters, enter_parameter, enter_parameters, entering, left}
use Rattle.c_functions.specs.Heads.{walked, back, body_of}

-- ---- what is taken back

taken : {A : Type 0} (n : ℕ) (xs : List A) (x : A) → n ≤ length xs → take n (xs ++ x ∷ []) ≡ take n xs
taken n xs x h = rw take-append-le refl

grown : {A : Type 0} (n : ℕ) (xs : List A) (x : A) → n ≤ length xs → n ≤ length (xs ++ x ∷ [])
grown n xs x h =
    let l = length_push xs x in
    omega arith

-- how a local is named
abbrev named : List ℕ → Ty → Bool → Env → Named
named name t r env = record { name = name; what = what.Local (length env.locals) t r }

back_name : (n m s : ℕ) (name : List ℕ) (t : Ty) (r : Bool) (env : Env) → n ≤ length env.names → m ≤ length env.locals
    → back n m s (declare_local name t r env) ≡ back n m s env
back_name n m s name t r env hn hm = rw (taken n env.names (named name t r env) hn, taken m env.locals t hm) refl

-- what is declared behind a parameter, by its name
abbrev entered_by : Option (List ℕ) → Ty → Bool → Env → Env
entered_by name t r env = elim name [ None ↦ env | Some x ↦ declare_local x t r env ]

back_case : (n m s : ℕ) (name : Option (List ℕ)) (t : Ty) (r : Bool) (env : Env) → n ≤ length env.names → m ≤ length env.locals
    → back n m s (entered_by name t r env) ≡ back n m s env
back_case n m s None t r env hn hm = refl
back_case n m s (Some x) t r env hn hm = back_name n m s x t r env hn hm

names_case : (n : ℕ) (name : Option (List ℕ)) (t : Ty) (r : Bool) (env : Env) → n ≤ length env.names
    → n ≤ length (entered_by name t r env).names
names_case n None t r env h = h
names_case n (Some x) t r env h = grown n env.names (named x t r env) h

locals_case : (m : ℕ) (name : Option (List ℕ)) (t : Ty) (r : Bool) (env : Env) → m ≤ length env.locals
    → m ≤ length (entered_by name t r env).locals
locals_case m None t r env h = h
locals_case m (Some x) t r env h = grown m env.locals t h

back_all : (n m s : ℕ) (ps : List Parameter) (env : Env) → n ≤ length env.names → m ≤ length env.locals
    → back n m s (enter_parameters ps env) ≡ back n m s env
back_all n m s [] env hn hm = refl
back_all n m s (p ∷ more) env hn hm =
    back_all n m s more (enter_parameter p env) (names_case n p.name p.ty p.readonly env hn)
    (locals_case m p.name p.ty p.readonly env hm)
    ∙ back_case n m s p.name p.ty p.readonly env hn hm

back_here : (env : Env) → back (length env.names) (length env.locals) env.start (inner env) ≡ env
back_here env =
    let hn : length env.names ≤ length env.names = omega arith in
    let hm : length env.locals ≤ length env.locals = omega arith in
    rw (take_all (length env.names) env.names hn, take_all (length env.locals) env.locals hm) refl

-- ---- heads

abbrev pair : List Parameter → Env → List Parameter × Env
pair xs env = (xs, env)

abbrev head_with : Qualified → List Parameter → Head
head_with q ps = record { result = q.ty; params = ps }

abbrev entered : Env → List Parameter → Outcome (List Parameter × Env)
entered env xs = Ok (xs, enter_parameters xs env)

walked_case : (env behind : Env) (ps : List Parameter) (o : Outcome (List Parameter)) → (o >>= entered env) ≡ Ok (ps, behind)
    → (o ≡ Ok ps) × (enter_parameters ps env ≡ behind)
walked_case env behind ps (Err f) is = absurd (cc)
walked_case env behind ps (Ok xs) is =
    let w : pair xs (enter_parameters xs env) ≡ pair ps behind = cc in
    let e : xs ≡ ps = ap (λ (p : List Parameter × Env). p.0) w in
    let b : enter_parameters xs env ≡ behind = ap (λ (p : List Parameter × Env). p.1) w in
    (ap (λ ys. Ok ys) e, ap (λ ys. enter_parameters ys env) (sym e) ∙ b)

walked_fault : (env : Env) (f : Fault) (o : Outcome (List Parameter)) → (o >>= entered env) ≡ Err f → o ≡ Err f
walked_fault env f (Err g) is =
    let e : g ≡ f = cc in
    ap (λ x. Err x) e
walked_fault env f (Ok xs) is = absurd (cc)

-- without the locals behind a number of them
abbrev without : ℕ → Env → Env
without m env = record env { locals = take m env.locals }

-- a scope that begins at a place
abbrev scope_at : ℕ → Env → Env
scope_at n env = record env { start = n }

walked_inner : (env behind : Env) (line : ℕ) (sources : List Param) (ps : List Parameter) (n : ℕ) → n ≡ length env.names
    → walked (record env { start = n }) line sources ≡ Ok (ps, behind) → walked (inner env) line sources ≡ Ok (ps, behind)
walked_inner env behind line sources ps n names is = ap (λ k. walked (scope_at k env) line sources) (sym names) ∙ is

pub params_are : (env behind : Env) (line : ℕ) (sources : List Param) (ps : List Parameter) (n : ℕ) → n ≡ length env.names
    → walked (record env { start = n }) line sources ≡ Ok (ps, behind) → parameters (inner env) line sources ≡ Ok ps
params_are env behind line sources ps n names is =
    let w = walked_inner env behind line sources ps n names is in
    let both = walked_case (inner env) behind ps (parameters (inner env) line sources) w in
    both.0

back_behind : (env behind : Env) (line : ℕ) (sources : List Param) (ps : List Parameter)
    → walked (inner env) line sources ≡ Ok (ps, behind) → back (length env.names) (length env.locals) env.start behind ≡ env
back_behind env behind line sources ps is =
    let both = walked_case (inner env) behind ps (parameters (inner env) line sources) is in
    let hn : length env.names ≤ length env.names = omega arith in
    let hm : length env.locals ≤ length env.locals = omega arith in
    ap (λ e. back (length env.names) (length env.locals) env.start e) (sym (both.1))
    ∙ (back_all (length env.names) (length env.locals) env.start ps (inner env) hn hm ∙ back_here env)

pub params_end : (env one two three : Env) (line : ℕ) (sources : List Param) (ps : List Parameter) (n m : ℕ)
    → n ≡ length env.names → m ≡ length env.locals → walked (record env { start = n }) line sources ≡ Ok (ps, one)
    → two ≡ record one { names = take n one.names; start = env.start } → three ≡ record two { locals = take m two.locals }
    → three ≡ env
params_end env one two three line sources ps n m names locals is left forgotten =
    let w = walked_inner env one line sources ps n names is in
    forgotten
    ∙ (ap (λ e. without m e) left
    ∙ (ap (λ k. back k m env.start one) names
    ∙ (ap (λ k. back (length env.names) k env.start one) locals ∙ back_behind env one line sources ps w)))

pub params_break : (env : Env) (line : ℕ) (sources : List Param) (n : ℕ) (f : Fault) → n ≡ length env.names
    → walked (record env { start = n }) line sources ≡ Err f → parameters (inner env) line sources ≡ Err f
params_break env line sources n f names is =
    walked_fault (inner env) f (parameters (inner env) line sources)
    (ap (λ k. walked (scope_at k env) line sources) (sym names) ∙ is)

pub head_is : (env : Env) (f : SourceFunction) (t : Qualified) (ps : List Parameter) (result : Ty) (readonly : Bool)
    → at f.line (base_of env f.spec) ≡ Ok t → parameters (inner env) f.line (listed f.params) ≡ Ok ps
    → pointed t f.stars ≡ record { ty = result; readonly = readonly }
    → head env f ≡ Ok (record { result = result; params = ps })
head_is env f t ps result readonly base params is = rw base (rw params (ap (λ (q : Qualified). Ok (head_with q ps)) is))

pub base_breaks : (env : Env) (f : SourceFunction) (g : Fault) → at f.line (base_of env f.spec) ≡ Err g → head env f ≡ Err g
base_breaks env f g base = rw base refl

pub listed_breaks : (env : Env) (f : SourceFunction) (t : Qualified) (g : Fault) → at f.line (base_of env f.spec) ≡ Ok t
    → parameters (inner env) f.line (listed f.params) ≡ Err g → head env f ≡ Err g
listed_breaks env f t g base is = rw base (rw is refl)

-- ---- bodies

pub body_is : (h : Head) (body : Compound) (env behind : Env) (stmts : List Stmt)
    → compound body (entering h env) ≡ Ok (stmts, behind)
    → body_of h body env ≡ Ok (record { statements = stmts; objects = behind.locals }, left env behind)
body_is h body env behind stmts is = rw is refl

pub body_breaks : (h : Head) (body : Compound) (env : Env) (f : Fault) → compound body (entering h env) ≡ Err f
    → body_of h body env ≡ Err f
body_breaks h body env f is = rw is refl
