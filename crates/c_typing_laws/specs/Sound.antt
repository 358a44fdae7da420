-- What a checked expression is lawful in: where the names that are declared stand for what the program has.
use Rattle.std.specs.Prelude.{◌≡◌, ℕ, ◌≤◌, nat_le, Bool, true, false, ◌&&◌, List, [], ◌∷◌, length, slice_get, Option, Some, None, Ok}
use Rattle.base16.specs.declared.operator.BinaryOp.{BinaryOp}
use Rattle.c_tree.specs.declared.expression.Expr.{Expr as Source}
use Rattle.c_tree.specs.declared.expression.ExprKind.{ExprKind as SourceKind, fold-ExprKind}
use Rattle.c_tree.specs.declared.expression.ExprKind.TheOpen.{ExprKind-F}
use Rattle.core_tree.specs.declared.types.Ty.{Ty, out-Ty}
use Rattle.core_tree.specs.declared.types.Member.{Member}
use Rattle.core_tree.specs.declared.expressions.Expr.{Expr}
use Rattle.core_tree.specs.declared.program.Global.{Global}
use Rattle.core_tree.specs.declared.program.Function.{Function}
use Rattle.core_tree.specs.Layout.{members_of}
use Rattle.core_tree.specs.Rules.{is_scalar, zero_layer}
use Rattle.core_tree.specs.Lawful.{Scope, IsExpr, IsPlace, LawfulExpr, is_const, is_constant}
use Rattle.c_typing.specs.declared.environment.Env.{Env}
use Rattle.c_typing.specs.declared.environment.Signature.{Signature}
use Rattle.c_typing.specs.declared.environment.What.TheVariants as w
use Rattle.c_typing.specs.declared.operand.Operand.{Operand}
use Rattle.c_typing.specs.declared.operand.Operand.TheVariants as o
use Rattle.c_typing.specs.Scopes.{lookup}
use Rattle.c_typing.specs.Values.{converted}
use Rattle.c_typing.specs.Operators.{binary, conditional}
use Rattle.c_typing.specs.Places.{assigned, updated}
use Rattle.c_typing.specs.Expressions.{means}

-- what is declared stands for what the program has: its complete structs, and the objects of names
pub record Agrees (env : Env) (s : Scope) : Type 0 where
  pub fewer : length env.structs ≤ length s.core.structs
  pub members : (tag n : ℕ) (m : Member) → slice_get (members_of env.structs tag) n ≡ Some m
      → slice_get (members_of s.core.structs tag) n ≡ Some m
  pub locals : (name : List ℕ) (n : ℕ) (t : Ty) (readonly : Bool) → lookup env.names name ≡ Some (w.Local n t readonly)
      → slice_get s.objects n ≡ Some t
  pub globals : (name : List ℕ) (n : ℕ) (t : Ty) (readonly : Bool)
      → lookup env.names name ≡ Some (w.Global n t readonly)
      → (g : Global) × (slice_get s.core.globals n ≡ Some g) × (g.ty ≡ t)
  pub inside : s.inside ≡ env.inside
  -- before the annotations are checked
  pub early : s.annotated ≡ false

-- a function that is declared is one of the program, with its parameters and its result
abbrev pub IsDefined : Env → Scope → ℕ → Type 0
IsDefined env s place =
    (f : Signature) → slice_get env.functions place ≡ Some f
    → (g : Function) × (slice_get s.core.functions f.number ≡ Some g) × (g.params ≡ f.params) × (g.result ≡ f.result)

-- and so is each that has such a name
abbrev pub AreDefined : (List ℕ → Bool) → Env → Scope → Type 0
AreDefined calls env s =
    (name : List ℕ) (place : ℕ) → lookup env.names name ≡ Some (w.Function place) → calls name ≡ true → IsDefined env s place

-- a constant 0 is a pointer only where it stands beside one or is converted to one
abbrev pub IsNoNull : Expr → Type 0
IsNoNull e = zero_layer (out-Ty e.ty) ≡ true → is_constant e.kind ≡ false

-- a value as an operand
abbrev pub SoundValue : Scope → Expr → Type 0
SoundValue s e = LawfulExpr s e × IsNoNull e

-- ---- rows

abbrev pub ConvertedIsLawful : Scope → Ty → Expr → Expr → Type 0
ConvertedIsLawful s t e v = LawfulExpr s e → converted t e ≡ Some v → IsExpr s v t × (is_scalar t ≡ true)

abbrev pub BinaryIsLawful : Env → Scope → BinaryOp → ℕ → Expr → Expr → Expr → Type 0
BinaryIsLawful env s op line a b made =
    Agrees env s → SoundValue s a → SoundValue s b → binary env op line (Some a) (Some b) ≡ Ok made → SoundValue s made

abbrev pub ConditionalIsLawful : Scope → ℕ → Expr → Expr → Expr → Expr → Type 0
ConditionalIsLawful s line test a b made =
    LawfulExpr s test → LawfulExpr s a → LawfulExpr s b → conditional line (Some test) (Some a) (Some b) ≡ Ok made
    → SoundValue s made

-- an operand that is lawful; of a function nothing is asked until it is called
abbrev pub SoundOperand : Env → Scope → Operand → Type 0
SoundOperand env s (o.Value e) = SoundValue s e
SoundOperand env s (o.Place p readonly) = IsPlace s p p.ty × (is_const p.kind ≡ true → readonly ≡ true)
SoundOperand env s (o.Function place) = Unit {0}
SoundOperand env s (o.Builtin b) = Unit {0}

abbrev pub AssignedIsLawful : Env → Scope → ℕ → Operand → Expr → Expr → Type 0
AssignedIsLawful env s line to from made =
    Agrees env s → SoundOperand env s to → LawfulExpr s from → assigned env line to (Some from) ≡ Ok made
    → SoundValue s made

abbrev pub UpdatedIsLawful : Env → Scope → BinaryOp → ℕ → Bool → Operand → Expr → Expr → Type 0
UpdatedIsLawful env s op line old to by made =
    Agrees env s → SoundOperand env s to → LawfulExpr s by → updated env op line old to (Some by) ≡ Ok made
    → SoundValue s made

-- ---- whole expressions

-- whether an expression fits, and its name where it is a name, in parentheses or not
pub record Fitting : Type 0 where
  pub fits : Bool
  pub name : Option (List ℕ)

abbrev pub name_layer : ExprKind-F Fitting Fitting Bool → Option (List ℕ)
name_layer (ExprKind-F.Name name) = Some name
name_layer (ExprKind-F.Paren of) = of.name
name_layer _ = None

-- what is called by its name has such a name
abbrev pub called_fits : (List ℕ → Bool) → Option (List ℕ) → Bool
called_fits calls None = true
called_fits calls (Some name) = calls name

abbrev pub all_fit : List Fitting → Bool
all_fit [] = true
all_fit (p ∷ ps) = p.fits && all_fit ps

abbrev pub layer_fits : (List ℕ → Bool) → ExprKind-F Fitting Fitting Bool → Bool
layer_fits calls (ExprKind-F.Name name) = true
layer_fits calls (ExprKind-F.Number n decimal unsigned) = nat_le n 65535
layer_fits calls (ExprKind-F.Char c) = nat_le c 255
layer_fits calls (ExprKind-F.Paren of) = of.fits
layer_fits calls (ExprKind-F.Index of i) = of.fits && i.fits
layer_fits calls (ExprKind-F.Call callee arguments) =
    called_fits calls callee.name && (callee.fits && all_fit arguments)
layer_fits calls (ExprKind-F.Member of name) = of.fits
layer_fits calls (ExprKind-F.Arrow of name) = of.fits
layer_fits calls (ExprKind-F.PostIncrement of) = of.fits
layer_fits calls (ExprKind-F.PostDecrement of) = of.fits
layer_fits calls (ExprKind-F.PreIncrement of) = of.fits
layer_fits calls (ExprKind-F.PreDecrement of) = of.fits
layer_fits calls (ExprKind-F.AddressOf of) = of.fits
layer_fits calls (ExprKind-F.Deref of) = of.fits
layer_fits calls (ExprKind-F.Unary op of) = of.fits
layer_fits calls (ExprKind-F.SizeofExpr of) = of.fits
layer_fits calls (ExprKind-F.SizeofType of) = true
layer_fits calls (ExprKind-F.Cast to of) = of.fits
layer_fits calls (ExprKind-F.Binary left op right) = left.fits && right.fits
layer_fits calls (ExprKind-F.And left right) = left.fits && right.fits
layer_fits calls (ExprKind-F.Or left right) = left.fits && right.fits
layer_fits calls (ExprKind-F.Conditional test one other) = test.fits && (one.fits && other.fits)
layer_fits calls (ExprKind-F.Assign place op from) = place.fits && from.fits
layer_fits calls (ExprKind-F.Comma left right) = left.fits && right.fits

abbrev pub fitting_step : (List ℕ → Bool) → ExprKind-F Fitting Fitting Bool → Fitting
fitting_step calls layer = record { fits = layer_fits calls layer; name = name_layer layer }

abbrev pub fitting : (List ℕ → Bool) → SourceKind → Fitting
fitting calls = fold-ExprKind Fitting Fitting Bool (fitting_step calls) (λ e. e.kind) (λ t. true)

-- numbers are at most 65,535, characters are bytes, and what is called has such a name, where it is called by a name; the
-- sizes in the names of types are not asked
abbrev pub fits : (List ℕ → Bool) → SourceKind → Bool
fits calls kind = (fitting calls kind).fits

-- an expression with no fault is lawful
abbrev pub MeansIsLawful : (List ℕ → Bool) → Env → Scope → Source → Operand → Type 0
MeansIsLawful calls env s e x =
    Agrees env s → AreDefined calls env s → fits calls e.kind ≡ true → means env e ≡ Ok x → SoundOperand env s x
