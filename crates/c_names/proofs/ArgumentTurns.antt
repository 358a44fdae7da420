-- A turn of the loops over the arguments of a call.
use Rattle.std.proofs.Common.{◌≡◌, List, [], ◌∷◌, ◌++◌, reverse, drop, Option, Some, None, refl, ap, sym}
use Rattle.std.specs.List.{slice_get}
use Rattle.std.proofs.lemmas.List.{reverse-append, reverse-reverse, append-nil, append_assoc}
use Rattle.core_tree.specs.declared.types.Ty.{Ty}
use Rattle.core_tree.specs.declared.expressions.Expr.{Expr}
use Rattle.c_typing.specs.declared.operand.Operand.{Operand}
use Rattle.c_typing.specs.Values.{value}
use Rattle.c_typing.specs.Calls.{accepted, and_these, passed}
use Rattle.c_names.specs.Arguments.{and_this, and_all}

pub reverse_last : (new : List Operand) (x : Operand) → reverse (new ++ x ∷ []) ≡ x ∷ reverse new
reverse_last new x = reverse-append new (x ∷ [])

pub turned_turn : (made new : List Operand) (x : Operand)
    → made ++ reverse (new ++ x ∷ []) ≡ (made ++ x ∷ []) ++ reverse new
turned_turn made new x = rw (reverse_last new x) (sym (append_assoc made (x ∷ []) (reverse new)))

pub turned_end : (made : List Operand) → made ++ [] ≡ made
turned_end made = append-nil made

and_all_these : (found : Option (List Expr)) (e : Option Expr) (more : Option (List Expr))
    → and_all found (and_these e more) ≡ and_all (and_this found e) more
and_all_these None None more = refl
and_all_these None (Some e) None = refl
and_all_these None (Some e) (Some more) = refl
and_all_these (Some es) None more = refl
and_all_these (Some es) (Some e) None = refl
and_all_these (Some es) (Some e) (Some more) = ap (λ xs. Some xs) (sym (append_assoc es (e ∷ []) more))

pub passed_turn : (found : Option (List Expr)) (params : List Ty) (new : List Operand) (x : Operand)
    → and_all found (passed params (reverse (new ++ x ∷ [])))
    ≡ and_all (and_this found (accepted (slice_get params 0) (value x))) (passed (drop 1 params) (reverse new))
passed_turn found params new x =
    rw (reverse_last new x) (and_all_these found (accepted (slice_get params 0) (value x)) (passed (drop 1 params) (reverse new)))

and_all_none : (more : Option (List Expr)) → and_all (Some []) more ≡ more
and_all_none None = refl
and_all_none (Some more) = refl

pub passed_start : (params : List Ty) (operands : List Operand)
    → and_all (Some []) (passed params (reverse (reverse operands))) ≡ passed params operands
passed_start params operands = rw (reverse-reverse operands) (and_all_none (passed params operands))

pub passed_end : (found : Option (List Expr)) → and_all found (Some []) ≡ found
passed_end None = refl
passed_end (Some es) = ap (λ xs. Some xs) (append-nil es)
