-- Parts of a source that declare names: what they are, and what is declared behind them (C99 6.2.1).
use Rattle.std.specs.Prelude.{Result, ◌≡◌, ℕ, Bool, length, take, drop, List, [], ◌∷◌, ◌++◌, is_some, Ok, Err}
use Rattle.core_tree.specs.declared.types.Ty.{Ty}
use Rattle.c_typing.specs.declared.fault.Rule.{Rule}
use Rattle.c_typing.specs.declared.fault.Stop.{Stop}
use Rattle.c_typing.specs.declared.fault.Stop.TheVariants.{Broken, NoMemory}
use Rattle.c_typing.specs.declared.environment.Env.{Env}
use Rattle.c_typing.specs.declared.environment.What.TheVariants as what
use Rattle.c_typing.specs.Outcome.{Outcome, broken}
use Rattle.c_typing.specs.Scopes.{lookup}

abbrev pub Walk : Type 0 → Type 0
Walk A = Env → Outcome (A × Env)

-- ---- one part after another: the first fault counts, and each part sees what those before it declare

abbrev pub and_then : {A B : Type 0} → Outcome (A × Env) → (A → Walk B) → Outcome (B × Env)
and_then (Err f) next = Err f
and_then (Ok p) next = next p.0 p.1

infixl 10 ◌>>=◌
abbrev pub ◌>>=◌ : {A B : Type 0} → Walk A → (A → Walk B) → Walk B
walk >>= next = λ env. and_then (walk env) next

abbrev pub pure : {A : Type 0} → A → Walk A
pure a = λ env. Ok (a, env)

-- what all of these are, in order
abbrev pub one_by_one : {A : Type 0} → List (Walk (List A)) → Walk (List A)
one_by_one [] = pure []
one_by_one (walk ∷ walks) = walk >>= λ xs. one_by_one walks >>= λ ys. pure (xs ++ ys)

abbrev pub single : {A : Type 0} → Walk A → Walk (List A)
single walk = walk >>= λ x. pure (x ∷ [])

-- ---- what declares nothing

abbrev pub with_env : {A : Type 0} → Env → Outcome A → Outcome (A × Env)
with_env env (Err f) = Err f
with_env env (Ok a) = Ok (a, env)

abbrev pub reading : {A : Type 0} → (Env → Outcome A) → Walk A
reading means = λ env. with_env env (means env)

abbrev pub break_at : {A : Type 0} → Rule → ℕ → Walk A
break_at rule line = λ env. broken rule line

-- ---- scopes: the names of a block end with it

abbrev pub inner : Env → Env
inner env = record env { start = length env.names }

abbrev pub outer : Env → Env → Env
outer env behind = record behind { names = take (length env.names) behind.names; start = env.start }

abbrev pub leaving : {A : Type 0} → Env → Outcome (A × Env) → Outcome (A × Env)
leaving env (Err f) = Err f
leaving env (Ok p) = Ok (p.0, outer env p.1)

unfoldable pub scoped : {A : Type 0} → Walk A → Walk A
scoped walk = λ env. leaving env (walk (inner env))

-- ---- names

-- whether a name is declared in the innermost scope
abbrev pub is_declared : Env → List ℕ → Bool
is_declared env name = is_some (lookup (drop env.start env.names) name)

-- parameters and locals are numbered in the order of the text
abbrev pub declare_local : List ℕ → Ty → Bool → Env → Env
declare_local name t readonly env = record env {
  names = env.names ++ record { name = name; what = what.Local (length env.locals) t readonly } ∷ [];
  locals = env.locals ++ t ∷ [];
}

-- ---- what a function of the walk answers, unless memory runs out, and what is declared behind it then

abbrev pub Walks : {A : Type 0} → Outcome (A × Env) → Result A Stop → Env → Type 0
Walks outcome (Ok a) behind = outcome ≡ Ok (a, behind)
Walks outcome (Err (Broken f)) behind = outcome ≡ Err f
Walks outcome (Err NoMemory) behind = Unit {0}
