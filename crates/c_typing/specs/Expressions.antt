-- What an expression stands for, or the first fault in it: its operands in the order of the text, then its own row of
-- rules.
use Rattle.std.specs.Prelude.{Bool, true, false, ℕ, List, [], ◌∷◌, ◌++◌, map, Option, Some, None, Result, Ok, Err}
use Rattle.base16.specs.declared.operator.BinaryOp.TheVariants as op
use Rattle.c_tree.specs.declared.qualified.Spec.{Spec}
use Rattle.c_tree.specs.declared.qualified.Qual.{Qual}
use Rattle.c_tree.specs.declared.expression.Expr.{Expr as Source}
use Rattle.c_tree.specs.declared.expression.ExprKind.{ExprKind as SourceKind, fold-ExprKind, out-ExprKind}
use Rattle.c_tree.specs.declared.expression.ExprKind.TheOpen.{ExprKind-F}
use Rattle.c_tree.specs.declared.expression.Typename.{Typename, out-Typename, fold-Typename}
use Rattle.core_tree.specs.declared.expressions.ExprKind.TheVariants as k
use Rattle.c_typing.specs.declared.fault.Rule.{Rule}
use Rattle.c_typing.specs.declared.fault.Rule.TheVariants.{WrongType}
use Rattle.c_typing.specs.declared.operand.Operand.{Operand}
use Rattle.c_typing.specs.declared.environment.Env.{Env}
use Rattle.c_typing.specs.Outcome.{Outcome, ◌>>=◌, at, told}
use Rattle.c_typing.specs.Scopes.{lookup}
use Rattle.c_typing.specs.Values.{value, valued}
use Rattle.c_typing.specs.Operators.{unary, binary, logical, conditional, sequence}
use Rattle.c_typing.specs.Places.{indexed, member, arrow, deref, address, assigned, updated, stepped, operand_type}
use Rattle.c_typing.specs.Calls.{named, number, character, called}
use Rattle.c_typing.specs.TypeNames.{Words, type_named, as_size, count_of, size_of_operand, size_of_named, cast, sizes_before, last_value}

-- ---- the operands of a node

-- an operand stands by itself, or as the size of an array in the name of a type
pub data Use (P : Type 0) : Type 0 where
  plain : P → Use P
  size : P → Use P

-- how the parts of a node are seen: the line and the meaning of an expression, the words and the sizes of a type's name
pub record View (P T : Type 0) : Type 0 where
  pub line : P → ℕ
  pub means : P → Outcome Operand
  pub words : T → Words
  pub sizes : T → List P

-- the line of the first argument of a call
abbrev pub first_line : {P T : Type 0} → View P T → ℕ → List P → ℕ
first_line v line [] = line
first_line v line (p ∷ more) = v.line p

module _ {K P T : Type 0} where
  -- in the order of the text
  abbrev pub operands : View P T → ExprKind-F K P T → List (Use P)
  operands v (ExprKind-F.Name name) = []
  operands v (ExprKind-F.Number n decimal unsigned) = []
  operands v (ExprKind-F.Char c) = []
  operands v (ExprKind-F.Paren of) = plain of ∷ []
  operands v (ExprKind-F.Index of i) = plain of ∷ plain i ∷ []
  operands v (ExprKind-F.Call callee arguments) = plain callee ∷ map plain arguments
  operands v (ExprKind-F.Member of name) = plain of ∷ []
  operands v (ExprKind-F.Arrow of name) = plain of ∷ []
  operands v (ExprKind-F.PostIncrement of) = plain of ∷ []
  operands v (ExprKind-F.PostDecrement of) = plain of ∷ []
  operands v (ExprKind-F.PreIncrement of) = plain of ∷ []
  operands v (ExprKind-F.PreDecrement of) = plain of ∷ []
  operands v (ExprKind-F.AddressOf of) = plain of ∷ []
  operands v (ExprKind-F.Deref of) = plain of ∷ []
  operands v (ExprKind-F.Unary o of) = plain of ∷ []
  operands v (ExprKind-F.SizeofExpr of) = plain of ∷ []
  operands v (ExprKind-F.SizeofType of) = map size (v.sizes of)
  operands v (ExprKind-F.Cast to of) = map size (v.sizes to) ++ plain of ∷ []
  operands v (ExprKind-F.Binary left o right) = plain left ∷ plain right ∷ []
  operands v (ExprKind-F.And left right) = plain left ∷ plain right ∷ []
  operands v (ExprKind-F.Or left right) = plain left ∷ plain right ∷ []
  operands v (ExprKind-F.Conditional test one other) = plain test ∷ plain one ∷ plain other ∷ []
  operands v (ExprKind-F.Assign place o from) = plain place ∷ plain from ∷ []
  operands v (ExprKind-F.Comma left right) = plain left ∷ plain right ∷ []

  abbrev pub channel_line : View P T → ℕ → ExprKind-F K P T → ℕ
  channel_line v line (ExprKind-F.Call callee arguments) = first_line v line arguments
  channel_line v line _ = line

  -- ---- the row of a node: what it is when its operands are these, or the least rule that it breaks

  abbrev pub row : View P T → Env → ℕ → ExprKind-F K P T → List Operand → Result Operand Rule
  row v env line (ExprKind-F.Name name) [] = named line name (lookup env.names name)
  row v env line (ExprKind-F.Number n decimal unsigned) [] = Ok (number line n unsigned)
  row v env line (ExprKind-F.Char c) [] = Ok (character line c)
  row v env line (ExprKind-F.Paren of) (a ∷ []) = Ok a
  row v env line (ExprKind-F.Index of i) (a ∷ b ∷ []) = indexed env line a (value b)
  row v env line (ExprKind-F.Call callee arguments) (f ∷ xs) = called env line f xs
  row v env line (ExprKind-F.Member of name) (a ∷ []) = member env line name a
  row v env line (ExprKind-F.Arrow of name) (a ∷ []) = arrow env line name (value a)
  row v env line (ExprKind-F.PostIncrement of) (a ∷ []) = valued (stepped env op.Add line true a)
  row v env line (ExprKind-F.PostDecrement of) (a ∷ []) = valued (stepped env op.Sub line true a)
  row v env line (ExprKind-F.PreIncrement of) (a ∷ []) = valued (stepped env op.Add line false a)
  row v env line (ExprKind-F.PreDecrement of) (a ∷ []) = valued (stepped env op.Sub line false a)
  row v env line (ExprKind-F.AddressOf of) (a ∷ []) = valued (address line a)
  row v env line (ExprKind-F.Deref of) (a ∷ []) = deref line (value a)
  row v env line (ExprKind-F.Unary o of) (a ∷ []) = valued (unary o line (value a))
  row v env line (ExprKind-F.SizeofExpr of) (a ∷ []) = valued (size_of_operand env line (operand_type a))
  row v env line (ExprKind-F.SizeofType of) xs =
      valued (size_of_named env line (type_named env (v.words of) (map count_of xs)))
  row v env line (ExprKind-F.Cast to of) xs =
      valued (cast line (type_named env (v.words to) (sizes_before xs)) (last_value xs))
  row v env line (ExprKind-F.Binary left o right) (a ∷ b ∷ []) = valued (binary env o line (value a) (value b))
  row v env line (ExprKind-F.And left right) (a ∷ b ∷ []) = valued (logical k.And line (value a) (value b))
  row v env line (ExprKind-F.Or left right) (a ∷ b ∷ []) = valued (logical k.Or line (value a) (value b))
  row v env line (ExprKind-F.Conditional test one other) (t ∷ a ∷ b ∷ []) =
      valued (conditional line (value t) (value a) (value b))
  row v env line (ExprKind-F.Assign place None from) (a ∷ b ∷ []) = valued (assigned env line a (value b))
  row v env line (ExprKind-F.Assign place (Some o) from) (a ∷ b ∷ []) = valued (updated env o line false a (value b))
  row v env line (ExprKind-F.Comma left right) (a ∷ b ∷ []) = valued (sequence line (value a) (value b))
  -- a node has no other number of operands
  row v env line _ _ = Err WrongType

-- ---- the walk

-- what an operand stands for where it stands; a size is judged at its own line as soon as it is read
abbrev pub used : {P T : Type 0} → View P T → Use P → Outcome Operand
used v (plain p) = v.means p
used v (size p) = v.means p >>= λ x. at (v.line p) (as_size x)

-- each of them, up to the first fault
abbrev pub in_order : List (Outcome Operand) → Outcome (List Operand)
in_order [] = Ok []
in_order (x ∷ xs) = x >>= λ a. in_order xs >>= λ more. Ok (a ∷ more)

-- a node: its operands, and then its row
abbrev pub node : {K P T : Type 0} → View P T → Env → ℕ → ExprKind-F K P T → Outcome Operand
node v env line layer =
    in_order (map (used v) (operands v layer)) >>= λ xs. told line (channel_line v line layer) (row v env line layer xs)

-- ---- expressions

-- an expression as a part of another
pub record Part : Type 0 where
  pub line : ℕ
  pub means : Outcome Operand

-- a type's name as a part of an expression
pub record NamePart : Type 0 where
  pub words : Words
  pub sizes : List Part

abbrev pub parts : View Part NamePart
parts = record { line = λ p. p.line; means = λ p. p.means; words = λ t. t.words; sizes = λ t. t.sizes }

unfoldable pub kind_step : Env → ExprKind-F (ℕ → Outcome Operand) Part NamePart → ℕ → Outcome Operand
kind_step env layer line = node parts env line layer

abbrev pub kind_means : Env → SourceKind → ℕ → Outcome Operand
kind_means env =
    fold-ExprKind (ℕ → Outcome Operand) Part NamePart (kind_step env)
    (λ e. record { line = e.line; means = e.kind e.line })
    (λ t. record { words = record { spec = t.spec; stars = t.stars }; sizes = t.bounds })

abbrev pub name_part : Env → Typename → NamePart
name_part env =
    fold-Typename (ℕ → Outcome Operand) Part NamePart (kind_step env)
    (λ e. record { line = e.line; means = e.kind e.line })
    (λ t. record { words = record { spec = t.spec; stars = t.stars }; sizes = t.bounds })

-- what an expression stands for, or the first fault in it
abbrev pub means : Env → Source → Outcome Operand
means env e = kind_means env e.kind e.line

abbrev pub words_of : Typename → Words
words_of t = record { spec = (out-Typename t).spec; stars = (out-Typename t).stars }

abbrev pub sizes_of : Typename → List Source
sizes_of t = (out-Typename t).bounds

-- the parts of an expression of the source
abbrev pub sources : Env → View Source Typename
sources env = record {
  line = λ e. e.line;
  means = means env;
  words = words_of;
  sizes = sizes_of;
}

abbrev pub layer_of : Source → ExprKind-F SourceKind Source Typename
layer_of e = out-ExprKind e.kind
