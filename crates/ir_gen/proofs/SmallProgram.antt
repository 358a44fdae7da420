-- The small program is lawful and has no annotated statement.
use Rattle.std.proofs.Common.{◌≡◌, ℕ, true, pos, List, [], ◌∷◌, ◌++◌, map, refl, sym, subst, arith, rules}
use Rattle.base16.specs.declared.integer.IntType.TheVariants.{Int}
use Rattle.core_tree.specs.declared.types.Ty.{out-Ty, the_lemmas as type_lemmas}
use Rattle.core_tree.specs.declared.types.Ty.TheVariants as ty
use Rattle.core_tree.specs.declared.types.Ty.TheOpen.{Ty-F}
use Rattle.core_tree.specs.declared.expressions.ExprKind.{the_lemmas}
use Rattle.core_tree.specs.declared.statements.StmtKind.{the_lemmas as stmt_lemmas}
use Rattle.core_tree.specs.Reaching.{joined}
use Rattle.core_tree.specs.Rules.{is_scalar}
use Rattle.core_tree.specs.Numbers.{core_numbers, stmt_numbers, expr_numbers}
use Rattle.core_tree.specs.Lawful.{HasType, IsExpr}
use Rattle.core_tree.specs.LawfulCore.{LawfulCore, IsObject, IsFunction, IsStmt, AreStmts, CountsFrom, result_layer, text_of}
use Rattle.ir_gen.specs.Plain as plain
use Rattle.ir_gen.specs.Plain.{IsPlain}
use Rattle.ir_gen.specs.Example.{nought, given_back, main_function, small_program}

scalar_int : is_scalar (ty.Num Int) ≡ true
unfolding is_scalar
scalar_int = search (rules, type_lemmas)

object_int : IsObject small_program (ty.Num Int)
object_int = search (rules, type_lemmas)

result_int : result_layer small_program (ty.Num Int) (out-Ty (ty.Num Int))
result_int =
    let e : out-Ty (ty.Num Int) ≡ Ty-F.Num Int = search (rules, type_lemmas) in
    subst (result_layer small_program (ty.Num Int)) (sym e) (scalar_int, object_int)

expr_counts : expr_numbers nought ≡ 2 ∷ []
expr_counts = search (rules, the_lemmas)

stmt_counts : stmt_numbers given_back ≡ 1 ∷ expr_numbers nought
stmt_counts = search (rules, stmt_lemmas)

counts : CountsFrom 0 (core_numbers small_program)
unfolding core_numbers
counts = subst (λ (l : List ℕ). CountsFrom 0 (0 ∷ l)) (sym all) (refl, (refl, (refl, tt)))
  where
    all : joined (map stmt_numbers (given_back ∷ [])) ++ [] ≡ 1 ∷ 2 ∷ []
    all = rw stmt_counts (rw expr_counts refl)

main_lawful : IsFunction small_program true main_function
main_lawful = record {
  params = tt;
  locals = tt;
  result = result_int;
  body = AreStmts.one_more (text_of small_program true main_function) given_back []
      (IsStmt.returned_value (text_of small_program true main_function) nought
      (IsExpr.is_expr nought (ty.Num Int) refl (HasType.integer_constant (pos 0) Int refl)) scalar_int (λ _. refl))
      (AreStmts.no_stmts (text_of small_program true main_function));
}

pub small_lawful : LawfulCore small_program
small_lawful = record {
  few_structs = omega arith;
  few_functions = omega arith;
  tags = tt;
  names = (
    (λ e. grind (arith, e), (λ e. grind (arith, e), (λ e. grind (arith, e), tt))),
    (
      (λ e. grind (arith, e), (λ e. grind (arith, e), tt)),
      ((λ e. grind (arith, e), tt), (tt, tt)),
    ),
  );
  structs = tt;
  globals = tt;
  functions = (main_lawful, tt);
  main = (0, (main_function, (refl, (refl, refl, refl))));
  numbers = counts;
  order = tt;
  between = tt;
}

stmt_plain : plain.stmt given_back ≡ true
stmt_plain = search (rules, stmt_lemmas)

pub small_plain : IsPlain small_program
small_plain = (rw stmt_plain refl, tt)
