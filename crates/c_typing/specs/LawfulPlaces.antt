-- What operands stand for is lawful: values have the types that their parts give them, and a place that is reached through
-- a pointer to a const is const.
use Rattle.std.specs.Prelude.{◌≡◌, ℕ, Bool, true, false, Some, Ok}
use Rattle.core_tree.specs.declared.expressions.Expr.{Expr}
use Rattle.core_tree.specs.declared.expressions.Place.{Place}
use Rattle.core_tree.specs.Lawful.{Scope, IsPlace, LawfulExpr, is_const}
use Rattle.c_typing.specs.declared.operand.Operand.{Operand}
use Rattle.c_typing.specs.declared.operand.Operand.TheVariants as o
use Rattle.c_typing.specs.Values.{value}
use Rattle.c_typing.specs.Places.{deref, address}

abbrev pub LawfulOperand : Scope → Operand → Type 0
LawfulOperand s (o.Value e) = LawfulExpr s e
LawfulOperand s (o.Place p readonly) = IsPlace s p p.ty × (is_const p.kind ≡ true → readonly ≡ true)
LawfulOperand s (o.Function place) = Unit {0}
LawfulOperand s (o.Builtin b) = Unit {0}

-- the value of an operand, before the annotations are checked
abbrev pub ValueIsLawful : Scope → Operand → Expr → Type 0
ValueIsLawful s x v = s.annotated ≡ false → LawfulOperand s x → value x ≡ Some v → LawfulExpr s v

-- `*`
abbrev pub DerefIsLawful : Scope → ℕ → Expr → Operand → Type 0
DerefIsLawful s line e x = LawfulExpr s e → deref line (Some e) ≡ Ok x → LawfulOperand s x

-- `&`
abbrev pub AddressIsLawful : Scope → ℕ → Place → Bool → Expr → Type 0
AddressIsLawful s line p readonly made =
    s.annotated ≡ false → LawfulOperand s (o.Place p readonly) → address line (o.Place p readonly) ≡ Ok made
    → LawfulExpr s made
