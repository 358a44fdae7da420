-- A worked example: where `int x;` is declared and nothing else, the environment agrees with the program, and `x + 1` is
-- lawful.
use Rattle.std.proofs.Common.{◌≡◌, ℕ, Bool, true, false, cond, bytes_eq, List, [], ◌∷◌, slice_get, Some, None, Ok, refl, rules, arith}
use Rattle.std.specs.Prelude.{codes, pos}
use Rattle.base16.specs.declared.integer.IntType.TheVariants.{Int}
use Rattle.base16.specs.declared.operator.BinaryOp.TheVariants as op
use Rattle.c_tree.specs.declared.expression.Expr.{Expr as Source}
use Rattle.c_tree.specs.declared.expression.ExprKind.{the_lemmas}
use Rattle.c_tree.specs.declared.expression.ExprKind.TheVariants as k
use Rattle.core_tree.specs.declared.types.Ty.{Ty, the_lemmas as type_lemmas}
use Rattle.core_tree.specs.declared.types.Ty.TheVariants as ty
use Rattle.core_tree.specs.declared.expressions.Expr.{Expr}
use Rattle.core_tree.specs.declared.expressions.ExprKind.TheVariants as core
use Rattle.core_tree.specs.declared.expressions.PlaceKind.TheVariants as pk
use Rattle.core_tree.specs.Lawful.{Scope, LawfulExpr}
use Rattle.c_typing.specs.declared.operand.Operand.TheVariants as operand
use Rattle.c_typing.specs.declared.environment.Env.{Env}
use Rattle.c_typing.specs.declared.environment.What.TheVariants as w
use Rattle.c_typing.specs.Values.{typed, placed, value, to_int}
use Rattle.c_typing.specs.Calls.{named}
use Rattle.c_typing.specs.Operators.{binary, integers}
use Rattle.c_typing.specs.Expressions.{kind_step, means}
use Rattle.c_typing_laws.specs.Sound.{Agrees, AreDefined, fits}
use Rattle.c_typing_laws.proofs.Whole.{means_lawful}

abbrev env : Env
env = record {
  structs = [];
  const_members = [];
  defining = None;
  names = record { name = codes "x"; what = w.Local 0 (ty.Num Int) false } ∷ [];
  functions = [];
  locals = [];
  result = ty.Void;
  start = 0;
  inside = false;
}

abbrev scope : Scope
scope = record {
  core = record { structs = []; globals = []; functions = [] };
  objects = ty.Num Int ∷ [];
  inside = false;
  annotated = false;
}

local_by : (b : Bool) (n : ℕ) (t : Ty) (readonly : Bool)
    → cond b (Some (w.Local 0 (ty.Num Int) false)) None ≡ Some (w.Local n t readonly)
    → slice_get (ty.Num Int ∷ []) n ≡ Some t
local_by true n t readonly is =
    let at : 0 ≡ n = cc in
    let of : ty.Num Int ≡ t = cc in rw (← at, ← of) refl
local_by false n t readonly is = absurd (search rules)

global_by : (b : Bool) (n : ℕ) (t : Ty) (readonly : Bool)
    → cond b (Some (w.Local 0 (ty.Num Int) false)) None ≡ Some (w.Global n t readonly) → ⊥
global_by true n t readonly is = cc
global_by false n t readonly is = cc

agrees : Agrees env scope
agrees = record {
  fewer = omega arith;
  members = λ tag n m is. absurd (search rules);
  locals = λ name n t readonly is. local_by (bytes_eq (codes "x") name) n t readonly is;
  globals = λ name n t readonly is. absurd (global_by (bytes_eq (codes "x") name) n t readonly is);
  inside = refl;
  early = refl;
}

-- `x + 1`
abbrev sum : Source
sum = record {
  kind = k.Binary (record { kind = k.Name (codes "x"); line = 3 }) op.Add (record { kind = k.Number 1 true false; line = 3 });
  line = 3;
}

abbrev added : Expr
added = typed 3 (ty.Num Int) (core.Binary op.Add Int
    (typed 3 (ty.Num Int) (core.Read (placed 3 (ty.Num Int) (pk.Local 0)))) (typed 3 (ty.Num Int) (core.Constant (pos 1))))

sum_means : means env sum ≡ Ok (operand.Value added)
unfolding kind_step named value binary integers to_int
sum_means = search (rules, the_lemmas, type_lemmas)

nothing : List ℕ → Bool
nothing name = false

function_by : (b : Bool) (place : ℕ) → cond b (Some (w.Local 0 (ty.Num Int) false)) None ≡ Some (w.Function place) → ⊥
function_by true place is = cc
function_by false place is = cc

no_calls : AreDefined nothing env scope
no_calls name place is called = absurd (function_by (bytes_eq (codes "x") name) place is)

sum_fits : fits nothing sum.kind ≡ true
sum_fits = search (rules, the_lemmas)

pub sum_is_lawful : LawfulExpr scope added
sum_is_lawful = (means_lawful nothing env scope sum (operand.Value added) agrees no_calls sum_fits sum_means).0
