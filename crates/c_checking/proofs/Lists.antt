-- Worked examples: brace lists, and which scalar each of their items is for.
use Rattle.std.proofs.Common.{◌≡◌, ℕ, true, false, List, [], ◌∷◌, Option, Some, None, Ok, refl, rules}
use Rattle.std.specs.Prelude.{pos, map, if◌then◌else◌, nat_lt}
use Rattle.base16.specs.declared.integer.IntType.TheVariants.{Int, UInt}
use Rattle.c_tree.specs.declared.expression.Expr.{Expr as Source}
use Rattle.c_tree.specs.declared.declarations.Initial.{Initial, the_lemmas as initial_lemmas}
use Rattle.c_tree.specs.declared.declarations.Initial.TheVariants as source
use Rattle.core_tree.specs.declared.types.Ty.{the_lemmas as type_lemmas}
use Rattle.core_tree.specs.declared.types.Ty.TheVariants as ty
use Rattle.core_tree.specs.declared.expressions.ExprKind.TheVariants as ek
use Rattle.c_typing.specs.declared.fault.Rule.TheVariants as rule
use Rattle.c_typing.specs.declared.environment.Env.{Env}
use Rattle.c_typing.specs.Outcome.{◌>>=◌, broken}
use Rattle.c_typing.specs.Values.{typed, converted, to_int}
use Rattle.c_checking.specs.Declarators.{value_of, converted_value}
use Rattle.c_checking.specs.Initialisers.{Leaf, Given, leaves, item, listed, put, any}
use Rattle.c_checking.proofs.Examples.{number_at, means_number, value_number}

-- an expression and a list
abbrev number : ℕ → Initial
number n = source.Assign (number_at n 1)

abbrev list : ℕ → List Initial → Initial
list line items = source.List items false line

-- what is put into a scalar
abbrev int : ℕ → Option Given
int n = Some (record { value = typed 1 (ty.Num Int) (ek.Constant (pos n)); line = 1 })

is_value : (env : Env) (n : ℕ) → value_of env (number_at n 1)
    ≡ Ok (Some (typed 1 (ty.Num (if nat_lt 32767 n then UInt else Int)) (ek.Constant (pos n))))
is_value env n = rw means_number (rw value_number refl)

is_int : (n : ℕ) → converted_value (ty.Num Int) (Some (typed 1 (ty.Num Int) (ek.Constant (pos n))))
    ≡ Some (typed 1 (ty.Num Int) (ek.Constant (pos n)))
unfolding converted to_int
is_int n = search (rules, type_lemmas)

abbrev scalar : List ℕ → Leaf
scalar begins = record { ty = ty.Num Int; begins = begins }

-- `int x` and `int a[2][2]`
alone : leaves [] (ty.Num Int) ≡ scalar (1 ∷ []) ∷ []
alone = search (rules, type_lemmas)

square : leaves [] (ty.Array (ty.Array (ty.Num Int) 2) 2)
    ≡ scalar (4 ∷ 2 ∷ 1 ∷ []) ∷ scalar (1 ∷ []) ∷ scalar (2 ∷ 1 ∷ []) ∷ scalar (1 ∷ []) ∷ []
square = search (rules, type_lemmas)

of_list : (env : Env) (items : List Initial) (line : ℕ)
    → item env any (source.List items false line) ≡ listed any line (map (item env any) items)
of_list env items line = search (rules, initial_lemmas)

of_expression : (env : Env) (e : Source) (all : List Leaf)
    → item env any (source.Assign e) all ≡ (value_of env e >>= λ v. Ok (put e.line v all))
of_expression env e all = search (rules, initial_lemmas)

of_number : (env : Env) (n : ℕ) (begins : List ℕ) (rest : List Leaf) → nat_lt 32767 n ≡ false
    → item env any (source.Assign (number_at n 1)) (scalar begins ∷ rest)
    ≡ Ok (record { values = int n ∷ []; rest = rest; fits = true })
of_number env n begins rest small =
    rw of_expression (rw (is_value env n) (rw small (rw (is_int n) refl)))

-- `{1, {2}, 3}` for `int a[2][2]`: the braces around 2 are those of a scalar
elided : (env : Env) → item env any (list 5 (number 1 ∷ list 6 (number 2 ∷ []) ∷ number 3 ∷ [])) (leaves [] (ty.Array
    (ty.Array (ty.Num Int) 2) 2))
    ≡ Ok (record { values = int 1 ∷ int 2 ∷ int 3 ∷ None ∷ []; rest = []; fits = true })
elided env =
    rw (square, of_list) (rw (of_number env 1 _ _ refl, of_list) (rw (of_number env 2 _ _ refl) (rw (of_number env 3 _ _
    refl) refl)))

-- `{{1}, 2}` for `int a[2][2]`
nested : (env : Env) → item env any (list 5 (list 6 (number 1 ∷ []) ∷ number 2 ∷ [])) (leaves [] (ty.Array (ty.Array (ty.Num
    Int) 2) 2))
    ≡ Ok (record { values = int 1 ∷ None ∷ int 2 ∷ None ∷ []; rest = []; fits = true })
nested env = rw (square, of_list, of_list) (rw (of_number env 1 _ _ refl) (rw (of_number env 2 _ _ refl) refl))

-- `{5}` for `int x`, and `{{5}}` for it
braced : (env : Env) → item env any (list 5 (number 5 ∷ [])) (leaves [] (ty.Num Int))
    ≡ Ok (record { values = int 5 ∷ []; rest = []; fits = true })
braced env = rw (alone, of_list) (rw (of_number env 5 _ _ refl) refl)

braced_twice : (env : Env) → item env any (list 5 (list 6 (number 5 ∷ []) ∷ [])) (leaves [] (ty.Num Int))
    ≡ broken rule.WrongType 5
braced_twice env = rw (alone, of_list, of_list) (rw of_expression (rw is_value refl))

-- `{{1, 2, 3}}` for `int a[2][2]`: the inner list has too many items
too_many : (env : Env)
    → item env any (list 5 (list 6 (number 1 ∷ number 2 ∷ number 3 ∷ []) ∷ [])) (leaves [] (ty.Array (ty.Array (ty.Num Int)
    2) 2))
    ≡ broken rule.WrongType 6
too_many env =
    rw (square, of_list, of_list) (rw (of_number env 1 _ _ refl) (rw (of_number env 2 _ _ refl) (rw of_expression (rw
    is_value refl))))
