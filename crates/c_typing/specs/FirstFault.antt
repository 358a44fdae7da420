-- Where the first fault of an expression is.
use Rattle.std.specs.Prelude.{◌≡◌, ℕ, List, [], ◌∷◌, ◌++◌, map, Ok, Err}
use Rattle.c_tree.specs.declared.expression.Expr.{Expr as Source}
use Rattle.c_typing.specs.declared.fault.Fault.{Fault}
use Rattle.c_typing.specs.declared.operand.Operand.{Operand}
use Rattle.c_typing.specs.declared.environment.Env.{Env}
use Rattle.c_typing.specs.Outcome.{Outcome, rule_line}
use Rattle.c_typing.specs.Expressions.{Use, operands, channel_line, row, used, in_order, node, means, sources, layer_of}

-- the operands of an expression in the order of the text, and what one of them stands for
abbrev pub operands_of : Env → Source → List (Use Source)
operands_of env e = operands (sources env) (layer_of e)

abbrev pub operand : Env → Use Source → Outcome Operand
operand env u = used (sources env) u

-- an expression is what its row makes of its operands
abbrev pub IsWalked : Env → Source → Type 0
IsWalked env e = means env e ≡ node (sources env) env e.line (layer_of e)

-- all of these have no fault
pub data Fine (env : Env) : List (Use Source) → Type 0 where
  none : Fine env []
  one_more : (u : Use Source) (us : List (Use Source)) (x : Operand) → operand env u ≡ Ok x → Fine env us
      → Fine env (u ∷ us)

-- a fault is in an operand before which none has one, or, where none has one, at the node: by its row, and at its line or,
-- where the channel of `sense` is not constant, at the line of the channel
pub data FoundAt (env : Env) (e : Source) (f : Fault) : Type 0 where
  inside : (before after : List (Use Source)) (u : Use Source) → operands_of env e ≡ before ++ u ∷ after → Fine env before
      → operand env u ≡ Err f → FoundAt env e f
  here : (xs : List Operand) → in_order (map (operand env) (operands_of env e)) ≡ Ok xs
      → row (sources env) env e.line (layer_of e) xs ≡ Err f.rule
      → f.line ≡ rule_line e.line (channel_line (sources env) e.line (layer_of e)) f.rule → FoundAt env e f

abbrev pub FaultIsFirst : Env → Source → Fault → Type 0
FaultIsFirst env e f = means env e ≡ Err f → FoundAt env e f
