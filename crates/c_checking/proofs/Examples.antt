-- Worked examples: whole sources and what they are.
use Rattle.std.proofs.Common.{◌≡◌, ℕ, true, false, List, [], ◌∷◌, Option, Some, None, Ok, refl, ap, ◌∙◌, ◌++◌, rules}
use Rattle.std.specs.Prelude.{codes, pos, map, if◌then◌else◌, nat_lt}
use Rattle.base16.specs.declared.integer.IntType.TheVariants.{Int, UInt}
use Rattle.c_tree.specs.declared.qualified.Spec.{Spec}
use Rattle.c_tree.specs.declared.qualified.Base.TheVariants as base
use Rattle.c_tree.specs.declared.expression.Expr.{Expr as Source}
use Rattle.c_tree.specs.declared.expression.ExprKind.{the_lemmas as source_lemmas}
use Rattle.c_tree.specs.declared.expression.ExprKind.TheVariants as k
use Rattle.c_tree.specs.declared.statements.BlockItem.{BlockItem, the_lemmas as item_lemmas}
use Rattle.c_tree.specs.declared.statements.BlockItem.TheVariants as item
use Rattle.c_tree.specs.declared.statements.Compound.{Compound, roll-Compound}
use Rattle.c_tree.specs.declared.statements.StatementKind.TheVariants as st
use Rattle.c_tree.specs.declared.statements.Statement.{Statement}
use Rattle.c_tree.specs.declared.unit.Params.TheVariants as params
use Rattle.c_tree.specs.declared.unit.Function.{Function as SourceFunction}
use Rattle.c_tree.specs.declared.unit.External.{External}
use Rattle.c_tree.specs.declared.unit.External.TheVariants as external
use Rattle.c_tree.specs.declared.unit.Tree.{Tree}
use Rattle.core_tree.specs.declared.types.Ty.{the_lemmas as type_lemmas}
use Rattle.c_typing.specs.declared.fault.Rule.TheVariants as rule
use Rattle.c_typing.specs.Outcome.{broken}
use Rattle.core_tree.specs.Layout.{stride}
use Rattle.core_tree.specs.declared.types.Ty.TheVariants as ty
use Rattle.core_tree.specs.declared.expressions.ExprKind.{the_lemmas as expr_lemmas}
use Rattle.core_tree.specs.declared.expressions.ExprKind.TheVariants as ek
use Rattle.core_tree.specs.declared.statements.Stmt.{Stmt}
use Rattle.core_tree.specs.declared.statements.StmtKind.{the_lemmas as stmt_lemmas}
use Rattle.core_tree.specs.declared.statements.StmtKind.TheVariants as sk
use Rattle.c_typing.specs.TypeNames.{base_type}
use Rattle.c_typing.specs.Scopes.{is_sized}
use Rattle.c_typing.specs.Values.{typed, value, converted, to_int}
use Rattle.c_typing.specs.Expressions.{kind_step, means}
use Rattle.c_typing.specs.Calls.{number}
use Rattle.c_typing.specs.declared.environment.Env.{Env}
use Rattle.c_checking.specs.Walk.{single, one_by_one}
use Rattle.c_checking.specs.Statements.{compound, block_item, statement, statement_kind, return_stmt, result_of}
use Rattle.c_checking.specs.Calls.{in_compound, in_expr, or_later}
use Rattle.c_checking.specs.Numbering.{numbered, stmt_numbered}
use Rattle.c_checking.specs.Externals.{global}
use Rattle.c_checking.specs.Functions.{Head, head, function, function_rule, entering, declared, signature, left, function_of, with_body}
use Rattle.c_checking.specs.declared.draft.Draft.{Draft}
use Rattle.c_checking.specs.Initialisers.{begun}
use Rattle.c_checking.specs.Checked.{checked, at_start, core_of, has_main}
use Rattle.core_tree.specs.declared.program.Core.{Core}

empty : checked (record { externals = [] }) ≡ broken rule.NoMain 0
unfolding checked
empty = search rules

-- ---- how the examples are written

abbrev plain : Spec
plain = record { before = []; base = base.Int false; after = [] }

-- `int NAME;` at a line, with these sizes behind it
variable : List ℕ → ℕ → List Source → External
variable name line sizes = external.Declaration false None (record {
  spec = plain;
  inits = record { declr = record { stars = []; name = name; bounds = sizes }; initial = None; line = line } ∷ [];
})

abbrev pub number_at : ℕ → ℕ → Source
number_at n line = record { kind = k.Number n true false; line = line }

-- `int main(void) { .. }`
main_of : ℕ → List BlockItem → External
main_of line all = external.Function false (record {
  spec = plain;
  stars = [];
  name = codes "main";
  params = params.Void true;
  body = Some (roll-Compound (record { items = all }));
  line = line;
})

return_of : Source → ℕ → BlockItem
return_of e line = item.Statement (record { kind = st.Return (Some e); line = line })

-- `int g;` on two lines
twice : checked (record { externals = variable (codes "g") 1 [] ∷ variable (codes "g") 2 [] ∷ [] }) ≡ broken rule.Twice 2
unfolding checked variable global begun base_type is_sized stride numbered
twice = search (rules, type_lemmas)

-- ---- the parts of the examples

in_braces : (all : List BlockItem) → compound (roll-Compound (record { items = all })) ≡ one_by_one (map block_item all)
in_braces all = search (rules, item_lemmas)

as_item : (x : Statement) → block_item (item.Statement x) ≡ single (statement x)
as_item x = search (rules, item_lemmas)

as_return : (e : Option Source) (line : ℕ) → statement_kind (st.Return e) line ≡ return_stmt line e
as_return e line = search (rules, item_lemmas)

int_is_sized : (env : Env) → is_sized env (ty.Num Int) ≡ true
unfolding is_sized
int_is_sized env = search (rules, type_lemmas)

no_calls_in_number : (names : List (List ℕ)) (n line : ℕ) → in_expr names (number_at n line) ≡ None
no_calls_in_number names n line = search (rules, source_lemmas)

calls_in_return : (names : List (List ℕ)) (e : Source) (at : ℕ)
    → in_compound names (roll-Compound (record { items = return_of e at ∷ [] })) ≡ or_later (in_expr names e) None
unfolding return_of
calls_in_return names e at = search (rules, item_lemmas)

no_calls : (names : List (List ℕ)) (n line at : ℕ)
    → in_compound names (roll-Compound (record { items = return_of (number_at n line) at ∷ [] })) ≡ None
no_calls names n line at =
    calls_in_return names (number_at n line) at ∙ ap (λ found. or_later found None) (no_calls_in_number names n line)

pub means_number : (env : Env) (n line : ℕ) → means env (number_at n line) ≡ Ok (number line n false)
unfolding kind_step
means_number env n line = search (rules, source_lemmas)

pub value_number : (n line : ℕ) → value (number line n false)
    ≡ Some (typed line (ty.Num (if nat_lt 32767 n then UInt else Int)) (ek.Constant (pos n)))
unfolding value
value_number n line = search rules

numbers_seven : stmt_numbered (record {
  kind =
      sk.Return (Some (typed 2 (ty.Num Int) (ek.Constant (pos 7))));
  node = 0;
  line = 2;
}) 1
    ≡ (
      record {
        kind = sk.Return (Some (record { kind = ek.Constant (pos 7); ty = ty.Num Int; node = 2; line = 2 }));
        node = 1;
        line = 2;
      },
      3,
    )
numbers_seven = search (rules, stmt_lemmas, expr_lemmas)

-- `int main(void) {` and `return 7; }`
abbrev seven : Compound
seven = roll-Compound (record { items = return_of (number_at 7 2) 2 ∷ [] })

abbrev main : SourceFunction
main = record { spec = plain; stars = []; name = codes "main"; params = params.Void true; body = Some seven; line = 1 }

abbrev returned : Stmt
returned = record { kind = sk.Return (Some (typed 2 (ty.Num Int) (ek.Constant (pos 7)))); node = 0; line = 2 }

abbrev head_of_main : Head
head_of_main = record { result = ty.Num Int; params = [] }

breaks_no_rule : function_rule at_start.env main head_of_main ≡ None
breaks_no_rule = search (rules, int_is_sized, type_lemmas)

seven_is_int : (env : Env) → env.result ≡ ty.Num Int → result_of env 2 (number_at 7 2)
    ≡ Ok (typed 2 (ty.Num Int) (ek.Constant (pos 7)))
unfolding result_of converted to_int
seven_is_int env is = rw means_number (search (rules, value_number, is, type_lemmas))

returns : (env : Env) → env.result ≡ ty.Num Int → return_stmt 2 (Some (number_at 7 2)) env ≡ Ok (returned, env)
unfolding return_stmt
returns env is = rw (seven_is_int env is) refl

item_of_main : (env : Env) → env.result ≡ ty.Num Int → block_item (return_of (number_at 7 2) 2) env ≡ Ok (returned ∷ [], env)
unfolding return_of
item_of_main env is = rw as_item (rw as_return (rw (returns env is) refl))

body_of_main : (env : Env) → env.result ≡ ty.Num Int → compound seven env ≡ Ok (returned ∷ [], env)
body_of_main env is = rw in_braces (rw (item_of_main env is) refl)

-- where the body of `main` is walked
abbrev in_main : Env
in_main =
    entering head_of_main (declared at_start.env (codes "main") (signature (codes "main" ∷ []) at_start.env main head_of_main))

abbrev drafted : Draft
drafted = record {
  env = left (declared at_start.env (codes "main") (signature (codes "main" ∷ []) at_start.env main head_of_main)) in_main;
  globals = [];
  functions = function_of main head_of_main (returned ∷ []) [] ∷ [];
}

head_is : head at_start.env main ≡ Ok head_of_main
unfolding base_type
head_is = refl

with_body_is : with_body main head_of_main at_start
    (declared at_start.env (codes "main") (signature (codes "main" ∷ []) at_start.env main head_of_main)) main.body ≡ Ok drafted
with_body_is = rw (body_of_main in_main refl) refl

main_is : function (codes "main" ∷ []) main at_start ≡ Ok drafted
unfolding function
main_is = rw head_is (rw breaks_no_rule (with_body_is))

abbrev tree_of_main : Tree
tree_of_main = record { externals = external.Function false main ∷ [] }

abbrev main_core : Core
main_core = record {
  structs = [];
  globals = [];
  functions = record {
    name = codes "main";
    params = [];
    locals = [];
    result = ty.Num Int;
    body = record {
      kind = sk.Return (Some (record { kind = ek.Constant (pos 7); ty = ty.Num Int; node = 2; line = 2 }));
      node = 1;
      line = 2;
    } ∷ [];
    node = 0;
    line = 1;
  } ∷ [];
}

numbers_are : numbered (core_of drafted) ≡ main_core
unfolding numbered
numbers_are = search (rules, stmt_lemmas, expr_lemmas)

main_stands : has_main drafted.functions ≡ true
main_stands = search (rules, type_lemmas)

returns_seven : checked tree_of_main ≡ Ok (record { core = main_core })
unfolding checked
returns_seven =
    rw main_is (rw (no_calls (codes "main" ∷ []) 7 2 2) (rw main_stands (rw numbers_are refl)))
