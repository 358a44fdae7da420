-- A parameter when its parts are known, and a turn of the loop over parameters.
use Rattle.std.proofs.Common.{◌≡◌, ℕ, ◌+◌, ◌<◌, ◌≤◌, false, List, [], ◌∷◌, ◌++◌, length, get_or, drop, Option, None, Some, Ok, Err, refl, sym, ap, ◌∙◌, append-nil, append_assoc}
use Rattle.std.proofs.lemmas.List.{drop_all}
use Rattle.c_tree.specs.declared.expression.Expr.{Expr as Source}
use Rattle.c_tree.specs.declared.unit.Param.{Param}
use Rattle.core_tree.specs.declared.types.Ty.TheVariants as ty
use Rattle.c_typing.specs.declared.fault.Fault.{Fault}
use Rattle.c_typing.specs.declared.environment.Env.{Env}
use Rattle.c_typing.specs.Outcome.{Outcome, ◌>>=◌, at}
use Rattle.c_typing.specs.TypeNames.{Qualified, pointed}
use Rattle.c_declarators.specs.Shapes.{shaped}
use Rattle.c_checking.specs.declared.draft.Parameter.{Parameter}
use Rattle.c_checking.specs.Declarators.{base_of, size, sizes, in_arrays}
use Rattle.c_checking.specs.Functions.{first_size, adjusted, parameter_of, parameter, parameters, enter_parameter, enter_parameters}
use Rattle.c_statements.specs.Sources.{behind}
use Rattle.c_functions.specs.Heads.{first_count, turned, walked}
use Rattle.c_functions.proofs.Turns.{next_is}

-- ---- a parameter

abbrev pub pointer : Qualified → Qualified
pointer t = record { ty = ty.Pointer t.ty t.readonly; readonly = false }

with_counts : (make : Qualified → Parameter) (q s : Qualified) (o : Outcome (List ℕ))
    → (o >>= λ counts. Ok (in_arrays q counts)) ≡ Ok s → (o >>= λ counts. Ok (make (in_arrays q counts))) ≡ Ok (make s)
with_counts make q s (Err f) is = absurd (cc)
with_counts make q s (Ok counts) is =
    let e : in_arrays q counts ≡ s = cc in
    ap (λ t. Ok (make t)) e

no_counts : (make : Qualified → Parameter) (q : Qualified) (f : Fault) (o : Outcome (List ℕ))
    → (o >>= λ counts. Ok (in_arrays q counts)) ≡ Err f → (o >>= λ counts. Ok (make (in_arrays q counts))) ≡ Err f
no_counts make q f (Err g) is =
    let e : g ≡ f = cc in
    ap (λ x. Err x) e
no_counts make q f (Ok counts) is = absurd (cc)

-- what a parameter is when the sizes behind its first pair of brackets are judged
abbrev pub made : Option (List ℕ) → Option (Option Source) → Qualified → Outcome (List ℕ) → Outcome Parameter
made name first q o = o >>= λ counts. Ok (parameter_of name (adjusted first q counts))

behind_first : (name : Option (List ℕ)) (e : Source) (q : Qualified) (n : ℕ) (o : Outcome (List ℕ))
    → made name (Some (Some e)) q (o >>= λ ns. Ok (n ∷ ns)) ≡ (o >>= λ ns. Ok (parameter_of name (pointer (in_arrays q ns))))
behind_first name e q n (Err f) = refl
behind_first name e q n (Ok ns) = refl

first_case : (name : Option (List ℕ)) (e : Source) (q s : Qualified) (c : Option ℕ) (first : Outcome ℕ) (o : Outcome (List ℕ))
    → (first >>= λ n. Ok (Some n)) ≡ Ok c → (o >>= λ counts. Ok (in_arrays q counts)) ≡ Ok s
    → made name (Some (Some e)) q (first >>= λ n. o >>= λ ns. Ok (n ∷ ns)) ≡ Ok (parameter_of name (pointer s))
first_case name e q s c (Err f) o there is = absurd (cc)
first_case name e q s c (Ok n) o there is =
    behind_first name e q n o ∙ with_counts (λ t. parameter_of name (pointer t)) q s o is

whole_case : (env : Env) (name : Option (List ℕ)) (first : Option (Option Source)) (bounds : List Source) (q s : Qualified)
    (c : Option ℕ) → first_count env first ≡ Ok c → (sizes env bounds >>= λ counts. Ok (in_arrays q counts)) ≡ Ok s
    → made name first q (sizes env (first_size first ++ bounds)) ≡ Ok (parameter_of name (turned first s))
whole_case env name None bounds q s c there is = with_counts (λ t. parameter_of name t) q s (sizes env bounds) is
whole_case env name (Some None) bounds q s c there is =
    with_counts (λ t. parameter_of name (pointer t)) q s (sizes env bounds) is
whole_case env name (Some (Some e)) bounds q s c there is =
    first_case name e q s c (size env e) (sizes env bounds) there is

first_fault_case : (env : Env) (name : Option (List ℕ)) (e : Source) (q : Qualified) (f : Fault) (first : Outcome ℕ)
    (o : Outcome (List ℕ)) → (first >>= λ n. Ok (Some n)) ≡ Err f
    → made name (Some (Some e)) q (first >>= λ n. o >>= λ ns. Ok (n ∷ ns)) ≡ Err f
first_fault_case env name e q f (Err g) o is =
    let h : g ≡ f = cc in
    ap (λ x. Err x) h
first_fault_case env name e q f (Ok n) o is = absurd (cc)

fault_case : (env : Env) (name : Option (List ℕ)) (first : Option (Option Source)) (bounds : List Source) (q : Qualified)
    (f : Fault) → first_count env first ≡ Err f → made name first q (sizes env (first_size first ++ bounds)) ≡ Err f
fault_case env name None bounds q f is = absurd (cc)
fault_case env name (Some None) bounds q f is = absurd (cc)
fault_case env name (Some (Some e)) bounds q f is = first_fault_case env name e q f (size env e) (sizes env bounds) is

later_case : (name : Option (List ℕ)) (e : Source) (q : Qualified) (c : Option ℕ) (f : Fault) (first : Outcome ℕ)
    (o : Outcome (List ℕ)) → (first >>= λ n. Ok (Some n)) ≡ Ok c → (o >>= λ counts. Ok (in_arrays q counts)) ≡ Err f
    → made name (Some (Some e)) q (first >>= λ n. o >>= λ ns. Ok (n ∷ ns)) ≡ Err f
later_case name e q c f (Err g) o there is = absurd (cc)
later_case name e q c f (Ok n) o there is =
    behind_first name e q n o ∙ no_counts (λ t. parameter_of name (pointer t)) q f o is

sizes_case : (env : Env) (name : Option (List ℕ)) (first : Option (Option Source)) (bounds : List Source) (q : Qualified)
    (c : Option ℕ) (f : Fault) → first_count env first ≡ Ok c → (sizes env bounds >>= λ counts. Ok (in_arrays q counts)) ≡ Err f
    → made name first q (sizes env (first_size first ++ bounds)) ≡ Err f
sizes_case env name None bounds q c f there is = no_counts (λ t. parameter_of name t) q f (sizes env bounds) is
sizes_case env name (Some None) bounds q c f there is = no_counts (λ t. parameter_of name (pointer t)) q f (sizes env bounds) is
sizes_case env name (Some (Some e)) bounds q c f there is =
    later_case name e q c f (size env e) (sizes env bounds) there is

pub parameter_is : (env : Env) (line : ℕ) (p : Param) (t s : Qualified) (c : Option ℕ) → at line (base_of env p.spec) ≡ Ok t
    → first_count env p.first_bound ≡ Ok c → shaped env t p.stars p.bounds ≡ Ok s
    → parameter env line p ≡ Ok (parameter_of p.name (turned p.first_bound s))
parameter_is env line p t s c base first is =
    rw base (whole_case env p.name p.first_bound p.bounds (pointed t p.stars) s c first is)

pub base_breaks : (env : Env) (line : ℕ) (p : Param) (f : Fault) → at line (base_of env p.spec) ≡ Err f
    → parameter env line p ≡ Err f
base_breaks env line p f base = rw base refl

pub first_breaks : (env : Env) (line : ℕ) (p : Param) (t : Qualified) (f : Fault) → at line (base_of env p.spec) ≡ Ok t
    → first_count env p.first_bound ≡ Err f → parameter env line p ≡ Err f
first_breaks env line p t f base first =
    rw base (fault_case env p.name p.first_bound p.bounds (pointed t p.stars) f first)

pub shape_breaks : (env : Env) (line : ℕ) (p : Param) (t : Qualified) (c : Option ℕ) (f : Fault)
    → at line (base_of env p.spec) ≡ Ok t
    → first_count env p.first_bound ≡ Ok c → shaped env t p.stars p.bounds ≡ Err f → parameter env line p ≡ Err f
shape_breaks env line p t c f base first is =
    rw base (sizes_case env p.name p.first_bound p.bounds (pointed t p.stars) c f first is)

-- ---- parameters one after another

more_case : (found : List Parameter) (x : Parameter) (env : Env) (o : Outcome (List Parameter))
    → behind found ((o >>= λ xs. Ok (x ∷ xs)) >>= λ xs. Ok (xs, enter_parameters xs env))
    ≡ behind (found ++ x ∷ []) (o >>= λ xs. Ok (xs, enter_parameters xs (enter_parameter x env)))
more_case found x env (Err f) = refl
more_case found x env (Ok xs) =
    ap (λ ys. Ok (ys, enter_parameters xs (enter_parameter x env))) (sym (append_assoc found (x ∷ []) xs))

pub nothing_yet : (o : Outcome (List Parameter × Env)) → behind [] o ≡ o
nothing_yet (Err f) = refl
nothing_yet (Ok p) = refl

pub walk_turn : (env : Env) (line : ℕ) (found : List Parameter) (all : List Param) (i : ℕ) (p : Param) (x : Parameter)
    → i < length all → p ≡ get_or all i p → parameter env line p ≡ Ok x
    → behind found (walked env line (drop i all)) ≡ behind (found ++ x ∷ []) (walked (enter_parameter x env) line (drop (i + 1) all))
walk_turn env line found all i p x h here is =
    rw (next_is all i p h here) (rw is (more_case found x env (parameters (enter_parameter x env) line (drop (i + 1) all))))

pub walk_break : (env : Env) (line : ℕ) (found : List Parameter) (all : List Param) (i : ℕ) (p : Param) (f : Fault)
    → i < length all → p ≡ get_or all i p → parameter env line p ≡ Err f → behind found (walked env line (drop i all)) ≡ Err f
walk_break env line found all i p f h here is = rw (next_is all i p h here) (rw is refl)

pub walk_end : (env : Env) (line : ℕ) (found : List Parameter) (all : List Param) (i : ℕ) → length all ≤ i
    → behind found (walked env line (drop i all)) ≡ Ok (found, env)
walk_end env line found all i h = rw (drop_all i all h) (ap (λ ys. Ok (ys, env)) (append-nil found))
