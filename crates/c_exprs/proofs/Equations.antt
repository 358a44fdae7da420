-- What each kind of expression means, by what its operands mean and its row.
use Rattle.std.proofs.Common.{◌≡◌, ℕ, Bool, true, false, List, [], ◌∷◌, ◌++◌, map, Option, Some, None, Result, Ok, Err, refl, ap, ◌∙◌, rules}
use Rattle.base16.specs.declared.operator.UnaryOp.{UnaryOp}
use Rattle.base16.specs.declared.operator.BinaryOp.{BinaryOp}
use Rattle.base16.specs.declared.operator.BinaryOp.TheVariants as op
use Rattle.c_tree.specs.declared.expression.Expr.{Expr as Source}
use Rattle.c_tree.specs.declared.expression.ExprKind.{ExprKind as SourceKind, the_lemmas}
use Rattle.c_tree.specs.declared.expression.ExprKind.TheVariants as k
use Rattle.c_tree.specs.declared.expression.ExprKind.TheOpen.{ExprKind-F}
use Rattle.c_tree.specs.declared.expression.Typename.{Typename}
use Rattle.core_tree.specs.declared.expressions.Expr.{Expr}
use Rattle.core_tree.specs.declared.expressions.ExprKind.TheVariants as core
use Rattle.c_typing.specs.declared.fault.Rule.{Rule}
use Rattle.c_typing.specs.declared.fault.Rule.TheVariants.{NotConstant}
use Rattle.c_typing.specs.declared.operand.Operand.{Operand}
use Rattle.c_typing.specs.declared.environment.Env.{Env}
use Rattle.c_typing.specs.Outcome.{Outcome, ◌>>=◌, at, told, rule_line}
use Rattle.c_typing.specs.Scopes.{lookup}
use Rattle.c_typing.specs.Values.{value, valued}
use Rattle.c_typing.specs.Operators.{unary, binary, logical, conditional, sequence}
use Rattle.c_typing.specs.Places.{indexed, member, arrow, deref, address, assigned, updated, stepped, operand_type}
use Rattle.c_typing.specs.Calls.{named, number, character, called}
use Rattle.c_typing.specs.TypeNames.{type_named, count_of, size_of_operand, size_of_named, cast, sizes_before, last_value}
use Rattle.c_typing.specs.Expressions.{plain, size, Part, NamePart, first_line, parts, sources, used, row, in_order, node, kind_step, kind_means, name_part, words_of, sizes_of, means}
use Rattle.c_exprs.specs.Parts.{means_value, means_all, judged, judged_all}

-- ---- rules at the line of their node

rule_here : (line : ℕ) (rule : Rule) → rule_line line line rule ≡ line
rule_here line NotConstant = refl
rule_here line _ = refl

told_here : {A : Type 0} (line : ℕ) (r : Result A Rule) → told line line r ≡ at line r
told_here line (Ok a) = refl
told_here {A = A} line (Err rule) =
    let fault_at : ℕ → Outcome A = λ n. Err (record { rule = rule; line = n }) in ap fault_at
    (rule_here line rule)

-- ---- operands one after another, and then a row

module _ (line : ℕ) where
  row_of_one : (m : Outcome Operand) (row : List Operand → Result Operand Rule)
      → (in_order (m ∷ []) >>= λ xs. told line line (row xs)) ≡ (m >>= λ a. at line (row (a ∷ [])))
  row_of_one (Err f) row = refl
  row_of_one (Ok a) row = told_here line (row (a ∷ []))

  row_of_value : (m : Outcome Operand) (by : Option Expr → Result Operand Rule)
      → (m >>= λ a. at line (by (value a))) ≡ ((m >>= λ a. Ok (value a)) >>= λ v. at line (by v))
  row_of_value (Err f) by = refl
  row_of_value (Ok a) by = refl

  row_of_two : (m n : Outcome Operand) (row : List Operand → Result Operand Rule)
      → (in_order (m ∷ n ∷ []) >>= λ xs. told line line (row xs))
      ≡ (m >>= λ a. n >>= λ b. at line (row (a ∷ b ∷ [])))
  row_of_two (Err f) n row = refl
  row_of_two (Ok a) (Err f) row = refl
  row_of_two (Ok a) (Ok b) row = told_here line (row (a ∷ b ∷ []))

  row_of_second : (m n : Outcome Operand) (by : Operand → Option Expr → Result Operand Rule)
      → (m >>= λ a. n >>= λ b. at line (by a (value b)))
      ≡ (m >>= λ a. (n >>= λ b. Ok (value b)) >>= λ v. at line (by a v))
  row_of_second (Err f) n by = refl
  row_of_second (Ok a) (Err f) by = refl
  row_of_second (Ok a) (Ok b) by = refl

  row_of_values : (m n : Outcome Operand) (by : Option Expr → Option Expr → Result Operand Rule)
      → (m >>= λ a. n >>= λ b. at line (by (value a) (value b)))
      ≡ ((m >>= λ a. Ok (value a)) >>= λ v. (n >>= λ b. Ok (value b)) >>= λ w. at line (by v w))
  row_of_values (Err f) n by = refl
  row_of_values (Ok a) (Err f) by = refl
  row_of_values (Ok a) (Ok b) by = refl

  row_of_three : (m n o : Outcome Operand) (row : List Operand → Result Operand Rule)
      (by : Option Expr → Option Expr → Option Expr → Result Operand Rule)
      → ((a b c : Operand) → row (a ∷ b ∷ c ∷ []) ≡ by (value a) (value b) (value c))
      → (in_order (m ∷ n ∷ o ∷ []) >>= λ xs. told line line (row xs))
      ≡ ((m >>= λ a. Ok (value a)) >>= λ u. (n >>= λ b. Ok (value b)) >>= λ v. (o >>= λ c. Ok (value c))
      >>= λ w. at line (by u v w))
  row_of_three (Err f) n o row by is = refl
  row_of_three (Ok a) (Err f) o row by is = refl
  row_of_three (Ok a) (Ok b) (Err f) row by is = refl
  row_of_three (Ok a) (Ok b) (Ok c) row by is = told_here line (row (a ∷ b ∷ c ∷ [])) ∙ ap (at line) (is a b c)

  -- a list of operands, and then a row
  row_of_all : (m : Outcome (List Operand)) (row : List Operand → Result Operand Rule)
      → (m >>= λ xs. told line line (row xs)) ≡ (m >>= λ xs. at line (row xs))
  row_of_all (Err f) row = refl
  row_of_all (Ok xs) row = told_here line (row xs)

  row_of_last : (us : Outcome (List Operand)) (x : Outcome Operand) (row : List Operand → Result Operand Rule)
      → ((us >>= λ xs. x >>= λ b. Ok (xs ++ b ∷ [])) >>= λ all. told line line (row all))
      ≡ (us >>= λ xs. x >>= λ b. at line (row (xs ++ b ∷ [])))
  row_of_last (Err f) x row = refl
  row_of_last (Ok xs) (Err f) row = refl
  row_of_last (Ok xs) (Ok b) row = told_here line (row (xs ++ b ∷ []))

-- the first operand and the others
row_behind : (m : Outcome Operand) (all : Outcome (List Operand)) (then : List Operand → Outcome Operand)
    → ((m >>= λ a. all >>= λ more. Ok (a ∷ more)) >>= then) ≡ (m >>= λ a. all >>= λ more. then (a ∷ more))
row_behind (Err f) all then = refl
row_behind (Ok a) (Err f) then = refl
row_behind (Ok a) (Ok more) then = refl

-- the operands in front and the last one
last_case : (m : Outcome Operand) (us : Outcome (List Operand)) (x : Outcome Operand)
    → (m >>= λ a. (us >>= λ xs. x >>= λ b. Ok (xs ++ b ∷ [])) >>= λ more. Ok (a ∷ more))
    ≡ ((m >>= λ a. us >>= λ more. Ok (a ∷ more)) >>= λ xs. x >>= λ b. Ok (xs ++ b ∷ []))
last_case (Err f) us x = refl
last_case (Ok a) (Err f) x = refl
last_case (Ok a) (Ok xs) (Err f) = refl
last_case (Ok a) (Ok xs) (Ok b) = refl

in_order_last : (ms : List (Outcome Operand)) (x : Outcome Operand)
    → in_order (ms ++ x ∷ []) ≡ (in_order ms >>= λ xs. x >>= λ b. Ok (xs ++ b ∷ []))
in_order_last [] x = refl
in_order_last (m ∷ ms) x =
    ap (λ us. m >>= λ a. us >>= λ more. Ok (a ∷ more)) (in_order_last ms x) ∙ last_case m (in_order ms) x

module _ (env : Env) (line : ℕ) where
  abbrev part_of : Source → Part
  part_of e = record { line = e.line; means = means env e }

  abbrev name_of : Typename → NamePart
  name_of t = record { words = words_of t; sizes = map part_of (sizes_of t) }

  name_case : (t : Typename) → name_part env t ≡ name_of t
  name_case t = search (rules, the_lemmas)

  abbrev Layer : Type 0
  Layer = ExprKind-F (ℕ → Outcome Operand) Part NamePart

  abbrev shown : Layer → Outcome Operand
  shown layer = node parts env line layer

  abbrev row_of : Layer → List Operand → Result Operand Rule
  row_of layer = row parts env line layer

  opened : (kind : SourceKind) (layer : Layer) → kind_means env kind line ≡ kind_step env layer line
      → kind_means env kind line ≡ shown layer
  unfolding kind_step
  opened kind layer is = is

  -- ---- no operands

  pub name_is : (n : List ℕ) → kind_means env (k.Name n) line ≡ at line (named line n (lookup env.names n))
  name_is n =
      opened (k.Name n) (ExprKind-F.Name n) (search (rules, the_lemmas))
      ∙ told_here line (named line n (lookup env.names n))

  pub number_is : (n : ℕ) (d u : Bool) → kind_means env (k.Number n d u) line ≡ Ok (number line n u)
  number_is n d u = opened (k.Number n d u) (ExprKind-F.Number n d u) (search (rules, the_lemmas))

  pub character_is : (c : ℕ) → kind_means env (k.Char c) line ≡ Ok (character line c)
  character_is c = opened (k.Char c) (ExprKind-F.Char c) (search (rules, the_lemmas))

  -- ---- one operand

  paren_case : (m : Outcome Operand)
      → (in_order (m ∷ []) >>= λ xs. told line line (row_of (ExprKind-F.Paren (record { line = line; means = m })) xs))
      ≡ m
  paren_case (Err f) = refl
  paren_case (Ok a) = refl

  pub paren_is : (x : Source) → kind_means env (k.Paren x) line ≡ means env x
  paren_is x =
      opened (k.Paren x) (ExprKind-F.Paren (part_of x)) (search (rules, the_lemmas)) ∙ paren_case (means env x)

  pub member_is : (x : Source) (n : List ℕ)
      → kind_means env (k.Member x n) line ≡ (means env x >>= λ a. at line (member env line n a))
  member_is x n =
      opened (k.Member x n) (ExprKind-F.Member (part_of x) n) (search (rules, the_lemmas))
      ∙ row_of_one line (means env x) (row_of (ExprKind-F.Member (part_of x) n))

  pub arrow_is : (x : Source) (n : List ℕ)
      → kind_means env (k.Arrow x n) line ≡ (means_value env x >>= λ a. at line (arrow env line n a))
  arrow_is x n =
      opened (k.Arrow x n) (ExprKind-F.Arrow (part_of x) n) (search (rules, the_lemmas))
      ∙ (row_of_one line (means env x) (row_of (ExprKind-F.Arrow (part_of x) n))
      ∙ row_of_value line (means env x) (arrow env line n))

  pub post_increment_is : (x : Source)
      → kind_means env (k.PostIncrement x) line
      ≡ (means env x >>= λ a. at line (valued (stepped env op.Add line true a)))
  post_increment_is x =
      opened (k.PostIncrement x) (ExprKind-F.PostIncrement (part_of x)) (search (rules, the_lemmas))
      ∙ row_of_one line (means env x) (row_of (ExprKind-F.PostIncrement (part_of x)))

  pub post_decrement_is : (x : Source)
      → kind_means env (k.PostDecrement x) line
      ≡ (means env x >>= λ a. at line (valued (stepped env op.Sub line true a)))
  post_decrement_is x =
      opened (k.PostDecrement x) (ExprKind-F.PostDecrement (part_of x)) (search (rules, the_lemmas))
      ∙ row_of_one line (means env x) (row_of (ExprKind-F.PostDecrement (part_of x)))

  pub pre_increment_is : (x : Source)
      → kind_means env (k.PreIncrement x) line
      ≡ (means env x >>= λ a. at line (valued (stepped env op.Add line false a)))
  pre_increment_is x =
      opened (k.PreIncrement x) (ExprKind-F.PreIncrement (part_of x)) (search (rules, the_lemmas))
      ∙ row_of_one line (means env x) (row_of (ExprKind-F.PreIncrement (part_of x)))

  pub pre_decrement_is : (x : Source)
      → kind_means env (k.PreDecrement x) line
      ≡ (means env x >>= λ a. at line (valued (stepped env op.Sub line false a)))
  pre_decrement_is x =
      opened (k.PreDecrement x) (ExprKind-F.PreDecrement (part_of x)) (search (rules, the_lemmas))
      ∙ row_of_one line (means env x) (row_of (ExprKind-F.PreDecrement (part_of x)))

  pub address_is : (x : Source)
      → kind_means env (k.AddressOf x) line ≡ (means env x >>= λ a. at line (valued (address line a)))
  address_is x =
      opened (k.AddressOf x) (ExprKind-F.AddressOf (part_of x)) (search (rules, the_lemmas))
      ∙ row_of_one line (means env x) (row_of (ExprKind-F.AddressOf (part_of x)))

  pub deref_is : (x : Source)
      → kind_means env (k.Deref x) line ≡ (means_value env x >>= λ a. at line (deref line a))
  deref_is x =
      opened (k.Deref x) (ExprKind-F.Deref (part_of x)) (search (rules, the_lemmas))
      ∙ (row_of_one line (means env x) (row_of (ExprKind-F.Deref (part_of x)))
      ∙ row_of_value line (means env x) (deref line))

  pub unary_is : (o : UnaryOp) (x : Source)
      → kind_means env (k.Unary o x) line ≡ (means_value env x >>= λ a. at line (valued (unary o line a)))
  unary_is o x =
      opened (k.Unary o x) (ExprKind-F.Unary o (part_of x)) (search (rules, the_lemmas))
      ∙ (row_of_one line (means env x) (row_of (ExprKind-F.Unary o (part_of x)))
      ∙ row_of_value line (means env x) (λ a. valued (unary o line a)))

  pub size_of_is : (x : Source)
      → kind_means env (k.SizeofExpr x) line
      ≡ (means env x >>= λ a. at line (valued (size_of_operand env line (operand_type a))))
  size_of_is x =
      opened (k.SizeofExpr x) (ExprKind-F.SizeofExpr (part_of x)) (search (rules, the_lemmas))
      ∙ row_of_one line (means env x) (row_of (ExprKind-F.SizeofExpr (part_of x)))

  -- ---- two and three operands

  pub index_is : (x y : Source)
      → kind_means env (k.Index x y) line
      ≡ (means env x >>= λ a. means_value env y >>= λ b. at line (indexed env line a b))
  index_is x y =
      opened (k.Index x y) (ExprKind-F.Index (part_of x) (part_of y)) (search (rules, the_lemmas))
      ∙ (row_of_two line (means env x) (means env y) (row_of (ExprKind-F.Index (part_of x) (part_of y)))
      ∙ row_of_second line (means env x) (means env y) (indexed env line))

  pub binary_is : (x : Source) (o : BinaryOp) (y : Source)
      → kind_means env (k.Binary x o y) line
      ≡ (means_value env x >>= λ a. means_value env y >>= λ b. at line (valued (binary env o line a b)))
  binary_is x o y =
      opened (k.Binary x o y) (ExprKind-F.Binary (part_of x) o (part_of y)) (search (rules, the_lemmas))
      ∙ (row_of_two line (means env x) (means env y) (row_of (ExprKind-F.Binary (part_of x) o (part_of y)))
      ∙ row_of_values line (means env x) (means env y) (λ a b. valued (binary env o line a b)))

  pub and_is : (x y : Source)
      → kind_means env (k.And x y) line
      ≡ (means_value env x >>= λ a. means_value env y >>= λ b. at line (valued (logical core.And line a b)))
  and_is x y =
      opened (k.And x y) (ExprKind-F.And (part_of x) (part_of y)) (search (rules, the_lemmas))
      ∙ (row_of_two line (means env x) (means env y) (row_of (ExprKind-F.And (part_of x) (part_of y)))
      ∙ row_of_values line (means env x) (means env y) (λ a b. valued (logical core.And line a b)))

  pub or_is : (x y : Source)
      → kind_means env (k.Or x y) line
      ≡ (means_value env x >>= λ a. means_value env y >>= λ b. at line (valued (logical core.Or line a b)))
  or_is x y =
      opened (k.Or x y) (ExprKind-F.Or (part_of x) (part_of y)) (search (rules, the_lemmas))
      ∙ (row_of_two line (means env x) (means env y) (row_of (ExprKind-F.Or (part_of x) (part_of y)))
      ∙ row_of_values line (means env x) (means env y) (λ a b. valued (logical core.Or line a b)))

  pub comma_is : (x y : Source)
      → kind_means env (k.Comma x y) line
      ≡ (means_value env x >>= λ a. means_value env y >>= λ b. at line (valued (sequence line a b)))
  comma_is x y =
      opened (k.Comma x y) (ExprKind-F.Comma (part_of x) (part_of y)) (search (rules, the_lemmas))
      ∙ (row_of_two line (means env x) (means env y) (row_of (ExprKind-F.Comma (part_of x) (part_of y)))
      ∙ row_of_values line (means env x) (means env y) (λ a b. valued (sequence line a b)))

  pub assign_is : (x y : Source)
      → kind_means env (k.Assign x None y) line
      ≡ (means env x >>= λ a. means_value env y >>= λ b. at line (valued (assigned env line a b)))
  assign_is x y =
      opened (k.Assign x None y) (ExprKind-F.Assign (part_of x) None (part_of y)) (search (rules, the_lemmas))
      ∙ (row_of_two line (means env x) (means env y) (row_of (ExprKind-F.Assign (part_of x) None (part_of y)))
      ∙ row_of_second line (means env x) (means env y) (λ a b. valued (assigned env line a b)))

  pub update_is : (x : Source) (o : BinaryOp) (y : Source)
      → kind_means env (k.Assign x (Some o) y) line
      ≡ (means env x >>= λ a. means_value env y >>= λ b. at line (valued (updated env o line false a b)))
  update_is x o y =
      opened (k.Assign x (Some o) y) (ExprKind-F.Assign (part_of x) (Some o) (part_of y)) (search (rules, the_lemmas))
      ∙ (row_of_two line (means env x) (means env y) (row_of (ExprKind-F.Assign (part_of x) (Some o) (part_of y)))
      ∙ row_of_second line (means env x) (means env y) (λ a b. valued (updated env o line false a b)))

  pub conditional_is : (x y z : Source)
      → kind_means env (k.Conditional x y z) line
      ≡ (means_value env x >>= λ a. means_value env y >>= λ b. means_value env z
      >>= λ c. at line (valued (conditional line a b c)))
  conditional_is x y z =
      opened (k.Conditional x y z) (ExprKind-F.Conditional (part_of x) (part_of y) (part_of z))
      (search (rules, the_lemmas))
      ∙ row_of_three line (means env x) (means env y) (means env z)
      (row_of (ExprKind-F.Conditional (part_of x) (part_of y) (part_of z)))
      (λ a b c. valued (conditional line a b c)) (λ a b c. refl)

  -- ---- lists of operands

  arguments_case : (all : List Source) → map (used parts) (map plain (map part_of all)) ≡ map (means env) all
  arguments_case [] = refl
  arguments_case (x ∷ xs) = ap (λ os. means env x ∷ os) (arguments_case xs)

  sizes_case : (all : List Source) → map (used parts) (map size (map part_of all)) ≡ map (judged env) all
  sizes_case [] = refl
  sizes_case (x ∷ xs) = ap (λ os. judged env x ∷ os) (sizes_case xs)

  sizes_then_case : (all : List Source) (e : Source)
      → map (used parts) (map size (map part_of all) ++ plain (part_of e) ∷ [])
      ≡ map (judged env) all ++ means env e ∷ []
  sizes_then_case [] e = refl
  sizes_then_case (x ∷ xs) e = ap (λ os. judged env x ∷ os) (sizes_then_case xs e)

  abbrev call_row : Source → List Operand → Result Operand Rule
  call_row x = row_of (ExprKind-F.Call (part_of x) [])

  call_case : (x : Source) (all : List Source)
      → shown (ExprKind-F.Call (part_of x) (map part_of all))
      ≡ (in_order (means env x ∷ map (means env) all)
      >>= λ xs. told line (first_line (sources env) line all) (call_row x xs))
  call_case x [] = refl
  call_case x (y ∷ ys) =
      ap (λ os. in_order (means env x ∷ means env y ∷ os) >>= λ xs. told line y.line (call_row x xs))
      (arguments_case ys)

  pub call_is : (x : Source) (all : List Source)
      → kind_means env (k.Call x all) line
      ≡ (means env x >>= λ f. means_all env all
      >>= λ xs. told line (first_line (sources env) line all) (called env line f xs))
  call_is x all =
      opened (k.Call x all) (ExprKind-F.Call (part_of x) (map part_of all)) (search (rules, the_lemmas))
      ∙ (call_case x all ∙ row_behind (means env x) (means_all env all)
      (λ xs. told line (first_line (sources env) line all) (call_row x xs)))

  -- the name of a type as a part is what its words and its sizes are
  with_name : (t : Typename) (layer : NamePart → Layer) (kind : SourceKind)
      → kind_means env kind line ≡ kind_step env (layer (name_part env t)) line
      → kind_means env kind line ≡ shown (layer (name_of t))
  with_name t layer kind is =
      opened kind (layer (name_of t)) (is ∙ ap (λ n. kind_step env (layer n) line) (name_case t))

  pub size_of_type_is : (t : Typename)
      → kind_means env (k.SizeofType t) line
      ≡ (judged_all env (sizes_of t)
      >>= λ xs. at line (valued (size_of_named env line (type_named env (words_of t) (map count_of xs)))))
  size_of_type_is t =
      let by : List Operand → Result Operand Rule = row_of (ExprKind-F.SizeofType (name_of t)) in
      with_name t (λ n. ExprKind-F.SizeofType n) (k.SizeofType t) (search (rules, the_lemmas))
      ∙ (ap (λ os. in_order os >>= λ xs. told line line (by xs)) (sizes_case (sizes_of t))
      ∙ row_of_all line (judged_all env (sizes_of t)) by)

  pub cast_is : (t : Typename) (x : Source)
      → kind_means env (k.Cast t x) line
      ≡ (judged_all env (sizes_of t) >>= λ xs. means env x >>= λ b. at line (valued
      (cast line (type_named env (words_of t) (sizes_before (xs ++ b ∷ []))) (last_value (xs ++ b ∷ [])))))
  cast_is t x =
      let by : List Operand → Result Operand Rule = row_of (ExprKind-F.Cast (name_of t) (part_of x)) in
      with_name t (λ n. ExprKind-F.Cast n (part_of x)) (k.Cast t x) (search (rules, the_lemmas))
      ∙ (ap (λ os. in_order os >>= λ xs. told line line (by xs)) (sizes_then_case (sizes_of t) x)
      ∙ (ap (λ o. o >>= λ xs. told line line (by xs)) (in_order_last (map (judged env) (sizes_of t)) (means env x))
      ∙ row_of_last line (judged_all env (sizes_of t)) (means env x) by))
