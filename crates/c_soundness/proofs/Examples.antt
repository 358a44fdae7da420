-- A worked example: a program that is not lawful, whose `main` emits a null pointer, and whose run is undefined by none of
-- the rules.
use Rattle.std.proofs.Common.{arith, subst, Bool, ◌≡◌, false, List, [], ◌∷◌, refl, ◌∙◌, rules}
use Rattle.std.specs.Prelude.{codes, pos}
use Rattle.base16.specs.declared.integer.IntType.TheVariants.{Int}
use Rattle.base16.specs.declared.reading.Reading.{Reading}
use Rattle.base16.specs.Placement.{frame_below}
use Rattle.core_tree.specs.declared.types.Ty.TheVariants as ty
use Rattle.core_tree.specs.declared.expressions.Expr.{Expr}
use Rattle.core_tree.specs.declared.expressions.ExprKind.{the_lemmas as expr_lemmas}
use Rattle.core_tree.specs.declared.expressions.ExprKind.TheVariants as e
use Rattle.core_tree.specs.declared.statements.Stmt.{Stmt}
use Rattle.core_tree.specs.declared.statements.StmtKind.{the_lemmas}
use Rattle.core_tree.specs.declared.statements.StmtKind.TheVariants as k
use Rattle.core_tree.specs.declared.program.Core.{Core}
use Rattle.core_tree.specs.declared.program.Function.{Function}
use Rattle.core_tree.specs.Heights.{expr_height, stmt_height, frame_bytes}
use Rattle.c_run.specs.Runs.{mark}
use Rattle.c_run.specs.Actions.{enter, emit}
use Rattle.c_meaning.specs.declared.outcome.CState.TheVariants as state
use Rattle.c_meaning.specs.After.{start, body, main_in, main_run, stop_at, after}
use Rattle.c_meaning.proofs.ExprEquations.{expr-Constant, expr-Emit}
use Rattle.c_meaning.proofs.StmtEquations.{stmt-Expr}
use Rattle.core_tree.specs.LawfulCore.{IsLawful}
use Rattle.c_soundness.specs.Rules.{IsByTheRules}
use Rattle.c_soundness.proofs.Types.{pointer_pointer}
use Rattle.c_soundness.proofs.Lawful.{meets_only_the_rules}

abbrev null : Expr
null = record { kind = e.Constant (pos 0); ty = ty.Pointer (ty.Num Int) false; node = 2; line = 1 }

abbrev emitted : Expr
emitted = record { kind = e.Emit null; ty = ty.Void; node = 1; line = 1 }

abbrev only : Stmt
only = record { kind = k.Expr emitted; node = 0; line = 1 }

abbrev main : Function
main = record { name = codes "main"; params = []; locals = []; result = ty.Num Int; body = only ∷ []; node = 0; line = 1 }

abbrev pub unlawful : Core
unlawful = record { structs = []; globals = []; functions = main ∷ [] }

height_is : stmt_height only ≡ 1
height_is =
    let a : stmt_height only ≡ expr_height emitted = search (rules, the_lemmas) in
    let b : expr_height emitted ≡ 1 = search (rules, expr_lemmas) in
    a ∙ b

bytes_are : frame_bytes [] main ≡ 6
bytes_are = rw height_is refl

-- just before its second mark
pub meets_no_rule : (readings : List Reading) → after unlawful readings 2 ≡ state.Undefined 0 0
unfolding stop_at main_run main_in enter mark body start emit frame_below
meets_no_rule readings = rw (bytes_are, stmt-Expr, expr-Emit, expr-Constant, pointer_pointer) refl

-- so it is not lawful
pub is_unlawful : (annotated : Bool) → IsLawful annotated unlawful → ⊥
is_unlawful annotated lawful =
    let h : IsByTheRules unlawful (state.Undefined 0 0) =
    subst (IsByTheRules unlawful) (meets_no_rule []) (meets_only_the_rules annotated unlawful lawful [] 2) in
    omega (arith, h.0)
