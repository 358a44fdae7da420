-- The walk of each expression is that of its operands and its row, and a fault is the first one.
use Rattle.std.proofs.Common.{◌≡◌, ℕ, Bool, List, [], ◌∷◌, ◌++◌, map, Option, Some, None, Result, Ok, Err, refl, sym, ap, ◌∙◌, rules}
use Rattle.base16.specs.declared.operator.UnaryOp.{UnaryOp}
use Rattle.base16.specs.declared.operator.BinaryOp.{BinaryOp}
use Rattle.c_tree.specs.declared.expression.Expr.{Expr as Source}
use Rattle.c_tree.specs.declared.expression.ExprKind.{ExprKind as SourceKind, out-ExprKind, the_lemmas}
use Rattle.c_tree.specs.declared.expression.ExprKind.TheVariants as k
use Rattle.c_tree.specs.declared.expression.ExprKind.TheOpen.{ExprKind-F}
use Rattle.c_tree.specs.declared.expression.Typename.{Typename}
use Rattle.c_typing.specs.declared.fault.Rule.{Rule}
use Rattle.c_typing.specs.declared.fault.Fault.{Fault}
use Rattle.c_typing.specs.declared.operand.Operand.{Operand}
use Rattle.c_typing.specs.declared.environment.Env.{Env}
use Rattle.c_typing.specs.Outcome.{Outcome, ◌>>=◌, told}
use Rattle.c_typing.specs.Expressions.{Use, plain, size, Part, NamePart, parts, sources, used, operands, channel_line, row, in_order, node, kind_step, kind_means, name_part, words_of, sizes_of, means, layer_of}
use Rattle.c_typing.specs.FirstFault.{operands_of, operand, IsWalked, Fine, none, one_more, FoundAt, inside, here, FaultIsFirst}

module _ (env : Env) where
  abbrev part_of : Source → Part
  part_of e = record { line = e.line; means = means env e }

  abbrev name_of : Typename → NamePart
  name_of t = record { words = words_of t; sizes = map part_of (sizes_of t) }

  name_case : (t : Typename) → name_part env t ≡ name_of t
  name_case t = search (rules, the_lemmas)

  abbrev step : ℕ → ExprKind-F (ℕ → Outcome Operand) Part NamePart → Outcome Operand
  step line layer = kind_step env layer line

  abbrev shown : ℕ → ExprKind-F (ℕ → Outcome Operand) Part NamePart → Outcome Operand
  shown line layer = node parts env line layer

  opened : (line : ℕ) (layer : ExprKind-F (ℕ → Outcome Operand) Part NamePart) → step line layer ≡ shown line layer
  unfolding kind_step
  opened line layer = refl

  -- what the row of this layer makes of the operands
  abbrev walk : ℕ → ExprKind-F SourceKind Source Typename → Outcome Operand
  walk line layer = node (sources env) env line layer

  abbrev Walked : SourceKind → Type 0
  Walked kind = (line : ℕ) → kind_means env kind line ≡ walk line (out-ExprKind kind)

  -- ---- parts of expressions are expressions

  arguments_case : (all : List Source) → map (used parts) (map plain (map part_of all))
      ≡ map (used (sources env)) (map plain all)
  arguments_case [] = refl
  arguments_case (x ∷ xs) = ap (λ os. means env x ∷ os) (arguments_case xs)

  sizes_case : (all : List Source) → map (used parts) (map size (map part_of all)) ≡ map (used (sources env)) (map size all)
  sizes_case [] = refl
  sizes_case (x ∷ xs) = ap (λ os. used (sources env) (size x) ∷ os) (sizes_case xs)

  sizes_then_case : (all : List Source) (e : Source)
      → map (used parts) (map size (map part_of all) ++ plain (part_of e) ∷ [])
      ≡ map (used (sources env)) (map size all ++ plain e ∷ [])
  sizes_then_case [] e = refl
  sizes_then_case (x ∷ xs) e = ap (λ os. used (sources env) (size x) ∷ os) (sizes_then_case xs e)

  call_case : (line : ℕ) (x : Source) (all : List Source)
      → shown line (ExprKind-F.Call (part_of x) (map part_of all)) ≡ walk line (ExprKind-F.Call x all)
  call_case line x [] = refl
  call_case line x (y ∷ ys) =
      ap (λ os. in_order (means env x ∷ means env y ∷ os)
      >>= λ xs. told line y.line (row {K = SourceKind} (sources env) env line (ExprKind-F.Call x (y ∷ ys)) xs))
      (arguments_case ys)

  sizeof_case : (line : ℕ) (t : Typename)
      → shown line (ExprKind-F.SizeofType (name_of t)) ≡ walk line (ExprKind-F.SizeofType t)
  sizeof_case line t =
      ap (λ os. in_order os
      >>= λ xs. told line line (row {K = SourceKind} (sources env) env line (ExprKind-F.SizeofType t) xs))
      (sizes_case (sizes_of t))

  cast_case : (line : ℕ) (t : Typename) (x : Source)
      → shown line (ExprKind-F.Cast (name_of t) (part_of x)) ≡ walk line (ExprKind-F.Cast t x)
  cast_case line t x =
      ap (λ os. in_order os
      >>= λ xs. told line line (row {K = SourceKind} (sources env) env line (ExprKind-F.Cast t x) xs))
      (sizes_then_case (sizes_of t) x)

  assign_case : (line : ℕ) (x : Source) (o : Option BinaryOp) (y : Source)
      → shown line (ExprKind-F.Assign (part_of x) o (part_of y)) ≡ walk line (ExprKind-F.Assign x o y)
  assign_case line x None y = refl
  assign_case line x (Some o) y = refl

  walked_by : (kind : SourceKind) (line : ℕ) (part : ExprKind-F (ℕ → Outcome Operand) Part NamePart)
      (layer : ExprKind-F SourceKind Source Typename)
      → kind_means env kind line ≡ step line part → out-ExprKind kind ≡ layer → shown line part ≡ walk line layer
      → kind_means env kind line ≡ walk line (out-ExprKind kind)
  walked_by kind line part layer means_it layer_it same =
      means_it ∙ (opened line part ∙ (same ∙ sym (ap (walk line) layer_it)))

  -- ---- each kind

  layer-Name : (n : List ℕ) → out-ExprKind (k.Name n) ≡ ExprKind-F.Name n
  layer-Name n = search (rules, the_lemmas)

  means-Name : (n : List ℕ) (line : ℕ) → kind_means env (k.Name n) line ≡ step line (ExprKind-F.Name n)
  means-Name n line = search (rules, the_lemmas)

  walked-Name : (n : List ℕ) → Walked (k.Name n)
  walked-Name n line = walked_by _ line _ _ (means-Name n line) (layer-Name n) refl

  layer-Number : (n : ℕ) (d : Bool) (u : Bool) → out-ExprKind (k.Number n d u) ≡ ExprKind-F.Number n d u
  layer-Number n d u = search (rules, the_lemmas)

  means-Number : (n : ℕ) (d : Bool) (u : Bool) (line : ℕ)
      → kind_means env (k.Number n d u) line ≡ step line (ExprKind-F.Number n d u)
  means-Number n d u line = search (rules, the_lemmas)

  walked-Number : (n : ℕ) (d : Bool) (u : Bool) → Walked (k.Number n d u)
  walked-Number n d u line = walked_by _ line _ _ (means-Number n d u line) (layer-Number n d u) refl

  layer-Char : (c : ℕ) → out-ExprKind (k.Char c) ≡ ExprKind-F.Char c
  layer-Char c = search (rules, the_lemmas)

  means-Char : (c : ℕ) (line : ℕ) → kind_means env (k.Char c) line ≡ step line (ExprKind-F.Char c)
  means-Char c line = search (rules, the_lemmas)

  walked-Char : (c : ℕ) → Walked (k.Char c)
  walked-Char c line = walked_by _ line _ _ (means-Char c line) (layer-Char c) refl

  layer-Paren : (x : Source) → out-ExprKind (k.Paren x) ≡ ExprKind-F.Paren x
  layer-Paren x = search (rules, the_lemmas)

  means-Paren : (x : Source) (line : ℕ) → kind_means env (k.Paren x) line ≡ step line (ExprKind-F.Paren (part_of x))
  means-Paren x line = search (rules, the_lemmas)

  walked-Paren : (x : Source) → Walked (k.Paren x)
  walked-Paren x line = walked_by _ line _ _ (means-Paren x line) (layer-Paren x) refl

  layer-Index : (x : Source) (y : Source) → out-ExprKind (k.Index x y) ≡ ExprKind-F.Index x y
  layer-Index x y = search (rules, the_lemmas)

  means-Index : (x : Source) (y : Source) (line : ℕ)
      → kind_means env (k.Index x y) line ≡ step line (ExprKind-F.Index (part_of x) (part_of y))
  means-Index x y line = search (rules, the_lemmas)

  walked-Index : (x : Source) (y : Source) → Walked (k.Index x y)
  walked-Index x y line = walked_by _ line _ _ (means-Index x y line) (layer-Index x y) refl

  layer-Call : (x : Source) (all : List Source) → out-ExprKind (k.Call x all) ≡ ExprKind-F.Call x all
  layer-Call x all = search (rules, the_lemmas)

  means-Call : (x : Source) (all : List Source) (line : ℕ)
      → kind_means env (k.Call x all) line ≡ step line (ExprKind-F.Call (part_of x) (map part_of all))
  means-Call x all line = search (rules, the_lemmas)

  walked-Call : (x : Source) (all : List Source) → Walked (k.Call x all)
  walked-Call x all line = walked_by _ line _ _ (means-Call x all line) (layer-Call x all) (call_case line x all)

  layer-Member : (x : Source) (n : List ℕ) → out-ExprKind (k.Member x n) ≡ ExprKind-F.Member x n
  layer-Member x n = search (rules, the_lemmas)

  means-Member : (x : Source) (n : List ℕ) (line : ℕ)
      → kind_means env (k.Member x n) line ≡ step line (ExprKind-F.Member (part_of x) n)
  means-Member x n line = search (rules, the_lemmas)

  walked-Member : (x : Source) (n : List ℕ) → Walked (k.Member x n)
  walked-Member x n line = walked_by _ line _ _ (means-Member x n line) (layer-Member x n) refl

  layer-Arrow : (x : Source) (n : List ℕ) → out-ExprKind (k.Arrow x n) ≡ ExprKind-F.Arrow x n
  layer-Arrow x n = search (rules, the_lemmas)

  means-Arrow : (x : Source) (n : List ℕ) (line : ℕ)
      → kind_means env (k.Arrow x n) line ≡ step line (ExprKind-F.Arrow (part_of x) n)
  means-Arrow x n line = search (rules, the_lemmas)

  walked-Arrow : (x : Source) (n : List ℕ) → Walked (k.Arrow x n)
  walked-Arrow x n line = walked_by _ line _ _ (means-Arrow x n line) (layer-Arrow x n) refl

  layer-PostIncrement : (x : Source) → out-ExprKind (k.PostIncrement x) ≡ ExprKind-F.PostIncrement x
  layer-PostIncrement x = search (rules, the_lemmas)

  means-PostIncrement : (x : Source) (line : ℕ)
      → kind_means env (k.PostIncrement x) line ≡ step line (ExprKind-F.PostIncrement (part_of x))
  means-PostIncrement x line = search (rules, the_lemmas)

  walked-PostIncrement : (x : Source) → Walked (k.PostIncrement x)
  walked-PostIncrement x line = walked_by _ line _ _ (means-PostIncrement x line) (layer-PostIncrement x) refl

  layer-PostDecrement : (x : Source) → out-ExprKind (k.PostDecrement x) ≡ ExprKind-F.PostDecrement x
  layer-PostDecrement x = search (rules, the_lemmas)

  means-PostDecrement : (x : Source) (line : ℕ)
      → kind_means env (k.PostDecrement x) line ≡ step line (ExprKind-F.PostDecrement (part_of x))
  means-PostDecrement x line = search (rules, the_lemmas)

  walked-PostDecrement : (x : Source) → Walked (k.PostDecrement x)
  walked-PostDecrement x line = walked_by _ line _ _ (means-PostDecrement x line) (layer-PostDecrement x) refl

  layer-PreIncrement : (x : Source) → out-ExprKind (k.PreIncrement x) ≡ ExprKind-F.PreIncrement x
  layer-PreIncrement x = search (rules, the_lemmas)

  means-PreIncrement : (x : Source) (line : ℕ)
      → kind_means env (k.PreIncrement x) line ≡ step line (ExprKind-F.PreIncrement (part_of x))
  means-PreIncrement x line = search (rules, the_lemmas)

  walked-PreIncrement : (x : Source) → Walked (k.PreIncrement x)
  walked-PreIncrement x line = walked_by _ line _ _ (means-PreIncrement x line) (layer-PreIncrement x) refl

  layer-PreDecrement : (x : Source) → out-ExprKind (k.PreDecrement x) ≡ ExprKind-F.PreDecrement x
  layer-PreDecrement x = search (rules, the_lemmas)

  means-PreDecrement : (x : Source) (line : ℕ)
      → kind_means env (k.PreDecrement x) line ≡ step line (ExprKind-F.PreDecrement (part_of x))
  means-PreDecrement x line = search (rules, the_lemmas)

  walked-PreDecrement : (x : Source) → Walked (k.PreDecrement x)
  walked-PreDecrement x line = walked_by _ line _ _ (means-PreDecrement x line) (layer-PreDecrement x) refl

  layer-AddressOf : (x : Source) → out-ExprKind (k.AddressOf x) ≡ ExprKind-F.AddressOf x
  layer-AddressOf x = search (rules, the_lemmas)

  means-AddressOf : (x : Source) (line : ℕ) → kind_means env (k.AddressOf x) line ≡ step line (ExprKind-F.AddressOf (part_of x))
  means-AddressOf x line = search (rules, the_lemmas)

  walked-AddressOf : (x : Source) → Walked (k.AddressOf x)
  walked-AddressOf x line = walked_by _ line _ _ (means-AddressOf x line) (layer-AddressOf x) refl

  layer-Deref : (x : Source) → out-ExprKind (k.Deref x) ≡ ExprKind-F.Deref x
  layer-Deref x = search (rules, the_lemmas)

  means-Deref : (x : Source) (line : ℕ) → kind_means env (k.Deref x) line ≡ step line (ExprKind-F.Deref (part_of x))
  means-Deref x line = search (rules, the_lemmas)

  walked-Deref : (x : Source) → Walked (k.Deref x)
  walked-Deref x line = walked_by _ line _ _ (means-Deref x line) (layer-Deref x) refl

  layer-Unary : (o : UnaryOp) (x : Source) → out-ExprKind (k.Unary o x) ≡ ExprKind-F.Unary o x
  layer-Unary o x = search (rules, the_lemmas)

  means-Unary : (o : UnaryOp) (x : Source) (line : ℕ)
      → kind_means env (k.Unary o x) line ≡ step line (ExprKind-F.Unary o (part_of x))
  means-Unary o x line = search (rules, the_lemmas)

  walked-Unary : (o : UnaryOp) (x : Source) → Walked (k.Unary o x)
  walked-Unary o x line = walked_by _ line _ _ (means-Unary o x line) (layer-Unary o x) refl

  layer-SizeofExpr : (x : Source) → out-ExprKind (k.SizeofExpr x) ≡ ExprKind-F.SizeofExpr x
  layer-SizeofExpr x = search (rules, the_lemmas)

  means-SizeofExpr : (x : Source) (line : ℕ)
      → kind_means env (k.SizeofExpr x) line ≡ step line (ExprKind-F.SizeofExpr (part_of x))
  means-SizeofExpr x line = search (rules, the_lemmas)

  walked-SizeofExpr : (x : Source) → Walked (k.SizeofExpr x)
  walked-SizeofExpr x line = walked_by _ line _ _ (means-SizeofExpr x line) (layer-SizeofExpr x) refl

  layer-SizeofType : (t : Typename) → out-ExprKind (k.SizeofType t) ≡ ExprKind-F.SizeofType t
  layer-SizeofType t = search (rules, the_lemmas)

  means-SizeofType : (t : Typename) (line : ℕ)
      → kind_means env (k.SizeofType t) line ≡ step line (ExprKind-F.SizeofType (name_part env t))
  means-SizeofType t line = search (rules, the_lemmas)

  walked-SizeofType : (t : Typename) → Walked (k.SizeofType t)
  walked-SizeofType t line =
      walked_by _ line _ _ (means-SizeofType t line) (layer-SizeofType t)
      (ap (λ n. shown line (ExprKind-F.SizeofType n)) (name_case t) ∙ sizeof_case line t)

  layer-Cast : (t : Typename) (x : Source) → out-ExprKind (k.Cast t x) ≡ ExprKind-F.Cast t x
  layer-Cast t x = search (rules, the_lemmas)

  means-Cast : (t : Typename) (x : Source) (line : ℕ)
      → kind_means env (k.Cast t x) line ≡ step line (ExprKind-F.Cast (name_part env t) (part_of x))
  means-Cast t x line = search (rules, the_lemmas)

  walked-Cast : (t : Typename) (x : Source) → Walked (k.Cast t x)
  walked-Cast t x line =
      walked_by _ line _ _ (means-Cast t x line) (layer-Cast t x)
      (ap (λ n. shown line (ExprKind-F.Cast n (part_of x))) (name_case t) ∙ cast_case line t x)

  layer-Binary : (x : Source) (o : BinaryOp) (y : Source) → out-ExprKind (k.Binary x o y) ≡ ExprKind-F.Binary x o y
  layer-Binary x o y = search (rules, the_lemmas)

  means-Binary : (x : Source) (o : BinaryOp) (y : Source) (line : ℕ)
      → kind_means env (k.Binary x o y) line ≡ step line (ExprKind-F.Binary (part_of x) o (part_of y))
  means-Binary x o y line = search (rules, the_lemmas)

  walked-Binary : (x : Source) (o : BinaryOp) (y : Source) → Walked (k.Binary x o y)
  walked-Binary x o y line = walked_by _ line _ _ (means-Binary x o y line) (layer-Binary x o y) refl

  layer-And : (x : Source) (y : Source) → out-ExprKind (k.And x y) ≡ ExprKind-F.And x y
  layer-And x y = search (rules, the_lemmas)

  means-And : (x : Source) (y : Source) (line : ℕ)
      → kind_means env (k.And x y) line ≡ step line (ExprKind-F.And (part_of x) (part_of y))
  means-And x y line = search (rules, the_lemmas)

  walked-And : (x : Source) (y : Source) → Walked (k.And x y)
  walked-And x y line = walked_by _ line _ _ (means-And x y line) (layer-And x y) refl

  layer-Or : (x : Source) (y : Source) → out-ExprKind (k.Or x y) ≡ ExprKind-F.Or x y
  layer-Or x y = search (rules, the_lemmas)

  means-Or : (x : Source) (y : Source) (line : ℕ)
      → kind_means env (k.Or x y) line ≡ step line (ExprKind-F.Or (part_of x) (part_of y))
  means-Or x y line = search (rules, the_lemmas)

  walked-Or : (x : Source) (y : Source) → Walked (k.Or x y)
  walked-Or x y line = walked_by _ line _ _ (means-Or x y line) (layer-Or x y) refl

  layer-Conditional : (x : Source) (y : Source) (z : Source) → out-ExprKind (k.Conditional x y z) ≡ ExprKind-F.Conditional x y z
  layer-Conditional x y z = search (rules, the_lemmas)

  means-Conditional : (x : Source) (y : Source) (z : Source) (line : ℕ)
      → kind_means env (k.Conditional x y z) line ≡ step line (ExprKind-F.Conditional (part_of x) (part_of y) (part_of z))
  means-Conditional x y z line = search (rules, the_lemmas)

  walked-Conditional : (x : Source) (y : Source) (z : Source) → Walked (k.Conditional x y z)
  walked-Conditional x y z line = walked_by _ line _ _ (means-Conditional x y z line) (layer-Conditional x y z) refl

  layer-Assign : (x : Source) (o : Option BinaryOp) (y : Source) → out-ExprKind (k.Assign x o y) ≡ ExprKind-F.Assign x o y
  layer-Assign x o y = search (rules, the_lemmas)

  means-Assign : (x : Source) (o : Option BinaryOp) (y : Source) (line : ℕ)
      → kind_means env (k.Assign x o y) line ≡ step line (ExprKind-F.Assign (part_of x) o (part_of y))
  means-Assign x o y line = search (rules, the_lemmas)

  walked-Assign : (x : Source) (o : Option BinaryOp) (y : Source) → Walked (k.Assign x o y)
  walked-Assign x o y line = walked_by _ line _ _ (means-Assign x o y line) (layer-Assign x o y) (assign_case line x o y)

  layer-Comma : (x : Source) (y : Source) → out-ExprKind (k.Comma x y) ≡ ExprKind-F.Comma x y
  layer-Comma x y = search (rules, the_lemmas)

  means-Comma : (x : Source) (y : Source) (line : ℕ)
      → kind_means env (k.Comma x y) line ≡ step line (ExprKind-F.Comma (part_of x) (part_of y))
  means-Comma x y line = search (rules, the_lemmas)

  walked-Comma : (x : Source) (y : Source) → Walked (k.Comma x y)
  walked-Comma x y line = walked_by _ line _ _ (means-Comma x y line) (layer-Comma x y) refl

  -- every kind is one of these
  by_layer : (kind : SourceKind) (x : ExprKind-F SourceKind Source Typename) → out-ExprKind kind ≡ x → Walked kind
  by_layer kind (ExprKind-F.Name n) is =
      let e : kind ≡ k.Name n = search (rules, the_lemmas) in rw e (walked-Name n)
  by_layer kind (ExprKind-F.Number n d u) is =
      let e : kind ≡ k.Number n d u = search (rules, the_lemmas) in rw e (walked-Number n d u)
  by_layer kind (ExprKind-F.Char c) is =
      let e : kind ≡ k.Char c = search (rules, the_lemmas) in rw e (walked-Char c)
  by_layer kind (ExprKind-F.Paren x) is =
      let e : kind ≡ k.Paren x = search (rules, the_lemmas) in rw e (walked-Paren x)
  by_layer kind (ExprKind-F.Index x y) is =
      let e : kind ≡ k.Index x y = search (rules, the_lemmas) in rw e (walked-Index x y)
  by_layer kind (ExprKind-F.Call x all) is =
      let e : kind ≡ k.Call x all = search (rules, the_lemmas) in rw e (walked-Call x all)
  by_layer kind (ExprKind-F.Member x n) is =
      let e : kind ≡ k.Member x n = search (rules, the_lemmas) in rw e (walked-Member x n)
  by_layer kind (ExprKind-F.Arrow x n) is =
      let e : kind ≡ k.Arrow x n = search (rules, the_lemmas) in rw e (walked-Arrow x n)
  by_layer kind (ExprKind-F.PostIncrement x) is =
      let e : kind ≡ k.PostIncrement x = search (rules, the_lemmas) in rw e (walked-PostIncrement x)
  by_layer kind (ExprKind-F.PostDecrement x) is =
      let e : kind ≡ k.PostDecrement x = search (rules, the_lemmas) in rw e (walked-PostDecrement x)
  by_layer kind (ExprKind-F.PreIncrement x) is =
      let e : kind ≡ k.PreIncrement x = search (rules, the_lemmas) in rw e (walked-PreIncrement x)
  by_layer kind (ExprKind-F.PreDecrement x) is =
      let e : kind ≡ k.PreDecrement x = search (rules, the_lemmas) in rw e (walked-PreDecrement x)
  by_layer kind (ExprKind-F.AddressOf x) is =
      let e : kind ≡ k.AddressOf x = search (rules, the_lemmas) in rw e (walked-AddressOf x)
  by_layer kind (ExprKind-F.Deref x) is =
      let e : kind ≡ k.Deref x = search (rules, the_lemmas) in rw e (walked-Deref x)
  by_layer kind (ExprKind-F.Unary o x) is =
      let e : kind ≡ k.Unary o x = search (rules, the_lemmas) in rw e (walked-Unary o x)
  by_layer kind (ExprKind-F.SizeofExpr x) is =
      let e : kind ≡ k.SizeofExpr x = search (rules, the_lemmas) in rw e (walked-SizeofExpr x)
  by_layer kind (ExprKind-F.SizeofType t) is =
      let e : kind ≡ k.SizeofType t = search (rules, the_lemmas) in rw e (walked-SizeofType t)
  by_layer kind (ExprKind-F.Cast t x) is =
      let e : kind ≡ k.Cast t x = search (rules, the_lemmas) in rw e (walked-Cast t x)
  by_layer kind (ExprKind-F.Binary x o y) is =
      let e : kind ≡ k.Binary x o y = search (rules, the_lemmas) in rw e (walked-Binary x o y)
  by_layer kind (ExprKind-F.And x y) is =
      let e : kind ≡ k.And x y = search (rules, the_lemmas) in rw e (walked-And x y)
  by_layer kind (ExprKind-F.Or x y) is =
      let e : kind ≡ k.Or x y = search (rules, the_lemmas) in rw e (walked-Or x y)
  by_layer kind (ExprKind-F.Conditional x y z) is =
      let e : kind ≡ k.Conditional x y z = search (rules, the_lemmas) in rw e (walked-Conditional x y z)
  by_layer kind (ExprKind-F.Assign x o y) is =
      let e : kind ≡ k.Assign x o y = search (rules, the_lemmas) in rw e (walked-Assign x o y)
  by_layer kind (ExprKind-F.Comma x y) is =
      let e : kind ≡ k.Comma x y = search (rules, the_lemmas) in rw e (walked-Comma x y)

  walked : (kind : SourceKind) → Walked kind
  walked kind = by_layer kind (out-ExprKind kind) refl

  pub is_walked : (e : Source) → IsWalked env e
  is_walked e = walked e.kind e.line

  -- ---- where the first fault is

  record Inside (f : Fault) (all : List (Use Source)) : Type 0 where
    before : List (Use Source)
    after : List (Use Source)
    u : Use Source
    split : all ≡ before ++ u ∷ after
    fine : Fine env before
    faulty : operand env u ≡ Err f

  inside_turn : (f : Fault) (u : Use Source) (us : List (Use Source)) (o : Outcome Operand) (rest : Outcome (List Operand))
      → operand env u ≡ o → (rest ≡ Err f → Inside f us) → (o >>= λ a. rest >>= λ more. Ok (a ∷ more)) ≡ Err f
      → Inside f (u ∷ us)
  inside_turn f u us (Err g) rest at_u deeper is =
      record { before = []; after = us; u = u; split = refl; fine = none; faulty = let e : g ≡ f = cc in rw (← e) at_u }
  inside_turn f u us (Ok a) (Err g) at_u deeper is =
      let w = deeper is in
      record {
        before = u ∷ w.before;
        after = w.after;
        u = w.u;
        split = ap (λ vs. u ∷ vs) w.split;
        fine = one_more u w.before a at_u w.fine;
        faulty = w.faulty;
      }
  inside_turn f u us (Ok a) (Ok more) at_u deeper is = absurd (search rules)

  inside_of : (f : Fault) (all : List (Use Source)) → in_order (map (operand env) all) ≡ Err f → Inside f all
  inside_of f [] is = absurd (search rules)
  inside_of f (u ∷ us) is =
      inside_turn f u us (operand env u) (in_order (map (operand env) us)) refl (inside_of f us) is

  rule_at : (e : Source) (xs : List Operand) (r : Result Operand Rule) (f : Fault)
      → in_order (map (operand env) (operands_of env e)) ≡ Ok xs → row (sources env) env e.line (layer_of e) xs ≡ r
      → told e.line (channel_line (sources env) e.line (layer_of e)) r ≡ Err f → FoundAt env e f
  rule_at e xs (Ok x) f all is broken = absurd (search rules)
  rule_at e xs (Err rule) f all is broken = here xs all (is ∙ search rules) (search rules)

  found_by : (e : Source) (f : Fault) (o : Outcome (List Operand))
      → in_order (map (operand env) (operands_of env e)) ≡ o
      → (o >>= λ xs. told e.line (channel_line (sources env) e.line (layer_of e))
      (row {K = SourceKind} (sources env) env e.line (layer_of e) xs)) ≡ Err f
      → FoundAt env e f
  found_by e f (Err g) all is =
      let h : g ≡ f = cc in
      let w = inside_of f (operands_of env e) (rw (← h) all) in inside w.before w.after w.u w.split w.fine w.faulty
  found_by e f (Ok xs) all is = rule_at e xs (row {K = SourceKind} (sources env) env e.line (layer_of e) xs) f all refl is

  -- a fault is that of the first operand that has one, and else that of the node, by its row
  pub first_fault : (e : Source) (f : Fault) → FaultIsFirst env e f
  first_fault e f is = found_by e f (in_order (map (operand env) (operands_of env e))) refl (sym (is_walked e) ∙ is)
