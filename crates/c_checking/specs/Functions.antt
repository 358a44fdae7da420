-- Functions and prototypes (C99 6.7.5.3 and 6.9.1).
use Rattle.std.specs.Prelude.{ℕ, ◌+◌, Bool, true, false, not, ◌||◌, ◌&&◌, if◌then◌else◌, bytes_eq, length, map, take, drop, slice_get, slice_set, List, [], ◌∷◌, ◌++◌, is_some, Option, Some, None, Ok}
use Rattle.c_tree.specs.declared.expression.Expr.{Expr as Source}
use Rattle.c_tree.specs.declared.statements.Compound.{Compound}
use Rattle.c_tree.specs.declared.unit.Param.{Param}
use Rattle.c_tree.specs.declared.unit.Params.{Params}
use Rattle.c_tree.specs.declared.unit.Params.TheVariants as params
use Rattle.c_tree.specs.declared.unit.Function.{Function as SourceFunction}
use Rattle.core_tree.specs.declared.types.Ty.{Ty, out-Ty}
use Rattle.core_tree.specs.declared.types.Ty.TheVariants as ty
use Rattle.core_tree.specs.declared.types.Ty.TheOpen.{Ty-F}
use Rattle.core_tree.specs.declared.statements.Stmt.{Stmt}
use Rattle.core_tree.specs.declared.program.Function.{Function}
use Rattle.core_tree.specs.Types.{same}
use Rattle.c_typing.specs.declared.fault.Rule.{Rule}
use Rattle.c_typing.specs.declared.fault.Rule.TheVariants.{Twice, WrongType, Incomplete}
use Rattle.c_typing.specs.declared.environment.Env.{Env}
use Rattle.c_typing.specs.declared.environment.Signature.{Signature}
use Rattle.c_typing.specs.declared.environment.What.{What}
use Rattle.c_typing.specs.declared.environment.What.TheVariants as what
use Rattle.c_typing.specs.Outcome.{Outcome, ◌>>=◌, at}
use Rattle.c_typing.specs.Scopes.{lookup, is_sized}
use Rattle.c_typing.specs.TypeNames.{Qualified, pointed}
use Rattle.c_typing.specs.Calls.{builtin_named}
use Rattle.c_checking.specs.declared.draft.Draft.{Draft}
use Rattle.c_checking.specs.declared.draft.Parameter.{Parameter}
use Rattle.c_checking.specs.Walk.{inner, declare_local}
use Rattle.c_checking.specs.Declarators.{base_of, sizes, in_arrays}
use Rattle.c_checking.specs.Statements.{compound}
use Rattle.c_checking.specs.Externals.{Step, unless, has_twice}

-- ---- parameters

-- the sizes that stand in a parameter; that of the first pair of brackets may be left out
abbrev pub first_size : Option (Option Source) → List Source
first_size (Some (Some e)) = e ∷ []
first_size _ = []

-- a parameter that is written as an array is a pointer to its element
abbrev pub adjusted : Option (Option Source) → Qualified → List ℕ → Qualified
adjusted None t counts = in_arrays t counts
adjusted (Some None) t counts = record { ty = ty.Pointer (in_arrays t counts).ty t.readonly; readonly = false }
adjusted (Some (Some e)) t counts = record { ty = ty.Pointer (in_arrays t (drop 1 counts)).ty t.readonly; readonly = false }

abbrev pub parameter_of : Option (List ℕ) → Qualified → Parameter
parameter_of name t = record { name = name; ty = t.ty; readonly = t.readonly }

-- an unknown tag is told at the line of the function
abbrev pub parameter : Env → ℕ → Param → Outcome Parameter
parameter env line p =
    at line (base_of env p.spec) >>= λ t. sizes env (first_size p.first_bound ++ p.bounds) >>= λ counts.
    Ok (parameter_of p.name (adjusted p.first_bound (pointed t p.stars) counts))

-- a parameter that has a name is a local
abbrev pub enter_parameter : Parameter → Env → Env
enter_parameter p env = elim p.name [ None ↦ env | Some name ↦ declare_local name p.ty p.readonly env ]

-- each is in scope behind it
abbrev pub parameters : Env → ℕ → List Param → Outcome (List Parameter)
parameters env line [] = Ok []
parameters env line (p ∷ more) =
    parameter env line p >>= λ x. parameters (enter_parameter x env) line more >>= λ xs. Ok (x ∷ xs)

abbrev pub listed : Params → List Param
listed (params.Void is_written) = []
listed (params.List ps) = ps

abbrev pub enter_parameters : List Parameter → Env → Env
enter_parameters [] env = env
enter_parameters (p ∷ more) env = enter_parameters more (enter_parameter p env)

abbrev pub types_of : List Parameter → List Ty
types_of ps = map (λ (p : Parameter). p.ty) ps

abbrev pub names_of : List Parameter → List (List ℕ)
names_of [] = []
names_of (p ∷ more) = elim p.name [ None ↦ names_of more | Some name ↦ name ∷ names_of more ]

-- ---- what a function is declared as

-- the result and the parameters of a function
pub record Head : Type 0 where
  pub result : Ty
  pub params : List Parameter

abbrev pub head : Env → SourceFunction → Outcome Head
head env f =
    at f.line (base_of env f.spec) >>= λ t. parameters (inner env) f.line (listed f.params) >>= λ ps.
    Ok (record { result = (pointed t f.stars).ty; params = ps })

-- an earlier declaration of a function
abbrev pub earlier_by : Env → Option What → Option Signature
earlier_by env (Some (what.Function place)) = slice_get env.functions place
earlier_by env _ = None

abbrev pub earlier : Env → List ℕ → Option Signature
earlier env name = earlier_by env (lookup env.names name)

abbrev pub is_variable : Option What → Bool
is_variable None = false
is_variable (Some (what.Function place)) = false
is_variable (Some _) = true

abbrev pub was_defined : Option Signature → Bool
was_defined None = false
was_defined (Some s) = s.is_defined

-- ---- the rules of a function

-- a parameter stands twice, the name stands for something else, or the function is defined twice
abbrev pub stands_twice : Env → SourceFunction → Head → Bool
stands_twice env f h =
    has_twice (names_of h.params) || is_some (builtin_named f.name) || is_variable (lookup env.names f.name)
    || (is_some f.body && was_defined (earlier env f.name))

abbrev pub struct_layer : Ty-F Ty → Bool
struct_layer (Ty-F.Struct tag) = true
struct_layer _ = false

abbrev pub is_struct : Ty → Bool
is_struct t = struct_layer (out-Ty t)

abbrev pub have_struct : List Ty → Bool
have_struct [] = false
have_struct (t ∷ more) = is_struct t || have_struct more

abbrev pub same_types : List Ty → List Ty → Bool
same_types [] [] = true
same_types (t ∷ ts) (u ∷ us) = same t u && same_types ts us
same_types _ _ = false

abbrev pub differs : Option Signature → Head → Bool
differs None h = false
differs (Some s) h = not (same s.result h.result && same_types s.params (types_of h.params))

abbrev pub result_layer : Env → Ty → Ty-F Ty → Bool
result_layer env t Ty-F.Void = true
result_layer env t _ = is_sized env t

abbrev pub are_sized : Env → List Ty → Bool
are_sized env [] = true
are_sized env (t ∷ more) = is_sized env t && are_sized env more

-- a result is `void` or what an object may have
abbrev pub is_complete_head : Env → Head → Bool
is_complete_head env h = result_layer env h.result (out-Ty h.result) && are_sized env (types_of h.params)

-- the least rule that a function breaks
abbrev pub function_rule : Env → SourceFunction → Head → Option Rule
function_rule env f h =
    if stands_twice env f h then Some Twice
    else (if have_struct (h.result ∷ types_of h.params) || differs (earlier env f.name) h then Some WrongType
    else (if is_complete_head env h then None else Some Incomplete))

-- ---- the name of a function

-- the place of a name among names, counted from a number; 0 where it is none of them
abbrev pub place_from : ℕ → List (List ℕ) → List ℕ → ℕ
place_from n [] name = 0
place_from n (m ∷ more) name = if bytes_eq m name then n else place_from (n + 1) more name

-- a function has the number of its definition among those of the source
abbrev pub signature : List (List ℕ) → Env → SourceFunction → Head → Signature
signature definitions env f h = record {
  result = h.result;
  params = types_of h.params;
  number = place_from 0 definitions f.name;
  is_defined = is_some f.body || was_defined (earlier env f.name);
}

abbrev pub declared_by : Env → List ℕ → Signature → Option What → Env
declared_by env name s (Some (what.Function place)) = record env { functions = slice_set env.functions place s }
declared_by env name s _ = record env {
  names = env.names ++ record { name = name; what = what.Function (length env.functions) } ∷ [];
  functions = env.functions ++ s ∷ [];
}

abbrev pub declared : Env → List ℕ → Signature → Env
declared env name s = declared_by env name s (lookup env.names name)

-- ---- bodies: the parameters and what stands in the braces are one scope

abbrev pub entering : Head → Env → Env
entering h env = enter_parameters h.params (record (inner env) { locals = []; result = h.result })

abbrev pub left : Env → Env → Env
left env behind = record behind {
  names = take (length env.names) behind.names;
  locals = env.locals;
  result = env.result;
  start = env.start;
}

abbrev pub function_of : SourceFunction → Head → List Stmt → List Ty → Function
function_of f h body objects = record {
  name = f.name;
  params = types_of h.params;
  locals = drop (length h.params) objects;
  result = h.result;
  body = body;
  node = 0;
  line = f.line;
}

-- a function is declared before its body is walked; a prototype has none
abbrev pub with_body : SourceFunction → Head → Draft → Env → Option Compound → Outcome Draft
with_body f h d env None = Ok (record d { env = env })
with_body f h d env (Some body) =
    compound body (entering h env) >>= λ p.
    Ok (record d { env = left env p.1; functions = d.functions ++ function_of f h p.0 p.1.locals ∷ [] })

-- a function or prototype, where these are the names of the functions that the source defines
unfoldable pub function : List (List ℕ) → SourceFunction → Step
function definitions f d =
    head d.env f >>= λ h. unless f.line (function_rule d.env f h) h >>= λ h.
    with_body f h d (declared d.env f.name (signature definitions d.env f h)) f.body
