-- The steps of each expression and place fit their rows of the cost table, and use one helper routine a node at most.
use Rattle.std.proofs.Common.{◌≡◌, ℕ, ◌+◌, ◌*◌, ◌≤◌, List, [], ◌∷◌, ◌++◌, length, map, sym, subst, arith, rules}
use Rattle.core_tree.specs.Layout.{kind_of, int_type_of, target_of, is_pointer, stride, member_stride}
use Rattle.core_tree.specs.Costs as cost
use Rattle.core_tree.specs.Nodes.{total, expr_parts, place_parts}
use Rattle.core_tree.specs.Numbers as number
use Rattle.core_tree.specs.Numbers.{Numbers}
use Rattle.core_tree.specs.Reaching.{joined}
use Rattle.core_tree.specs.declared.types.Ty.{Ty}
use Rattle.core_tree.specs.declared.types.Struct.{Struct}
use Rattle.core_tree.specs.declared.expressions.ExprKind.{ExprKind, ind-ExprKind, the_lemmas, roll-ExprKind, map-ExprKind, fold-ExprKind}
use Rattle.core_tree.specs.declared.expressions.ExprKind.TheOpen.{ExprKind-F, PlaceKind-F}
use Rattle.core_tree.specs.declared.expressions.PlaceKind.{PlaceKind, roll-PlaceKind, map-PlaceKind, fold-PlaceKind}
use Rattle.core_tree.specs.declared.expressions.Expr.{Expr}
use Rattle.core_tree.specs.declared.expressions.Place.{Place}
use Rattle.ir.specs.declared.form.Base.TheVariants as base
use Rattle.ir.specs.declared.form.Operand.TheVariants as operand
use Rattle.ir.specs.declared.form.Operation.{Operation}
use Rattle.ir.specs.declared.form.Operation.TheVariants as operation
use Rattle.ir.specs.declared.form.StepKind.TheVariants as step
use Rattle.ir.specs.Table as table
use Rattle.ir.specs.Table.{size, bring, operation_bytes, operation_helped}
use Rattle.ir_gen.specs.Code as c
use Rattle.ir_gen.specs.Code.{Code, Coded, Spot, Spotted, Part, at_node}
use Rattle.ir_gen.specs.Sizes.{weights}
use Rattle.ir_gen.proofs.Tree as tree
use Rattle.ir_gen.proofs.Weighing.{Within, w_none, w_one, w_step, w_both, w_assign, w_update, w_and, w_or, w_conditional, w_comma, w_call, w_more_args, w_combined, w_put, convert_short, unary_short, binary_short, update_short, once}

-- one layer of a fold that asks of a part its kind and its node
fold_roll : {N : Type 0} (alg : ExprKind-F (ℕ → N) (ℕ → N) N N → ℕ → N) (palg : PlaceKind-F (ℕ → N) (ℕ → N) N N → ℕ → N)
    (x : ExprKind-F ExprKind PlaceKind Expr Place)
    → fold-ExprKind (ℕ → N) (ℕ → N) N N alg palg (λ e. e.kind e.node) (λ p. p.kind p.node) (roll-ExprKind x)
    ≡ alg (map-ExprKind ExprKind PlaceKind Expr Place (ℕ → N) (ℕ → N) N N
    (fold-ExprKind (ℕ → N) (ℕ → N) N N alg palg (λ e. e.kind e.node) (λ p. p.kind p.node))
    (fold-PlaceKind (ℕ → N) (ℕ → N) N N alg palg (λ e. e.kind e.node) (λ p. p.kind p.node))
    (λ e. fold-ExprKind (ℕ → N) (ℕ → N) N N alg palg (λ e. e.kind e.node) (λ p. p.kind p.node) e.kind e.node)
    (λ p. fold-PlaceKind (ℕ → N) (ℕ → N) N N alg palg (λ e. e.kind e.node) (λ p. p.kind p.node) p.kind p.node) x)
fold_roll alg palg x = search (rules, the_lemmas)

module _ (w : ℕ → ℕ) where
  -- ---- the folds

  abbrev pub expr_kind_numbers : ExprKind → ℕ → Numbers
  expr_kind_numbers = fold-ExprKind (ℕ → Numbers) (ℕ → Numbers) Numbers Numbers (λ x node. node ∷ number.expr_step x)
      (λ p node. node ∷ number.place_step p) (λ x. x.kind x.node) (λ p. p.kind p.node)

  abbrev pub place_kind_numbers : PlaceKind → ℕ → Numbers
  place_kind_numbers = fold-PlaceKind (ℕ → Numbers) (ℕ → Numbers) Numbers Numbers (λ x node. node ∷ number.expr_step x)
      (λ p node. node ∷ number.place_step p) (λ x. x.kind x.node) (λ p. p.kind p.node)

  rows_roll : (x : ExprKind-F ExprKind PlaceKind Expr Place) → cost.expr_kind_rows w (roll-ExprKind x)
      ≡ (λ node. w node * cost.expr_row (map-ExprKind ExprKind PlaceKind Expr Place (ℕ → ℕ) (ℕ → ℕ) ℕ ℕ (cost.expr_kind_rows w)
      (cost.place_kind_rows w) (cost.expr_rows w) (cost.place_rows w) x)
      + total (expr_parts (map-ExprKind ExprKind PlaceKind Expr Place (ℕ → ℕ) (ℕ → ℕ) ℕ ℕ (cost.expr_kind_rows w)
      (cost.place_kind_rows w) (cost.expr_rows w) (cost.place_rows w) x)))
  rows_roll x = fold_roll (λ e node. w node * cost.expr_row e + total (expr_parts e))
      (λ p node. w node * cost.place_row p + total (place_parts p)) x

  place_rows_roll : (x : PlaceKind-F ExprKind PlaceKind Expr Place) → cost.place_kind_rows w (roll-PlaceKind x)
      ≡ (λ node. w node * cost.place_row (map-PlaceKind ExprKind PlaceKind Expr Place (ℕ → ℕ) (ℕ → ℕ) ℕ ℕ
      (cost.expr_kind_rows w) (cost.place_kind_rows w) (cost.expr_rows w) (cost.place_rows w) x)
      + total (place_parts (map-PlaceKind ExprKind PlaceKind Expr Place (ℕ → ℕ) (ℕ → ℕ) ℕ ℕ (cost.expr_kind_rows w)
      (cost.place_kind_rows w) (cost.expr_rows w) (cost.place_rows w) x)))
  place_rows_roll x = search (rules, the_lemmas)

  numbers_roll : (x : ExprKind-F ExprKind PlaceKind Expr Place) → expr_kind_numbers (roll-ExprKind x)
      ≡ (λ node. node ∷ number.expr_step (map-ExprKind ExprKind PlaceKind Expr Place (ℕ → Numbers)
      (ℕ → Numbers) Numbers Numbers expr_kind_numbers place_kind_numbers number.expr_numbers number.place_numbers x))
  numbers_roll x = search (rules, the_lemmas)

  place_numbers_roll : (x : PlaceKind-F ExprKind PlaceKind Expr Place) → place_kind_numbers (roll-PlaceKind x)
      ≡ (λ node. node ∷ number.place_step (map-PlaceKind ExprKind PlaceKind Expr Place (ℕ → Numbers)
      (ℕ → Numbers) Numbers Numbers expr_kind_numbers place_kind_numbers number.expr_numbers number.place_numbers x))
  place_numbers_roll x = search (rules, the_lemmas)

  -- ---- by induction

  module _ (structs : List Struct) where
    abbrev ExprClaim : ExprKind → Type 0
    ExprClaim k = (ty : Ty) (node p d : ℕ) → Within w ((c.expr_kind structs k ty node).steps p d) (cost.expr_kind_rows w k node)
        (weights w (expr_kind_numbers k node))

    abbrev PlaceClaim : PlaceKind → Type 0
    PlaceClaim k = (ty : Ty) (node p d : ℕ) → Within w ((c.place_kind structs k ty node).code.steps p d)
        (cost.place_kind_rows w k node) (weights w (place_kind_numbers k node))

    module _ {A B C D : Type 0} (fa : A → ExprKind) (fb : B → PlaceKind) (fc : C → Expr) (fd : D → Place)
        (hc : (x : C) → ExprClaim (fc x).kind) (hd : (x : D) → PlaceClaim (fd x).kind) where
      abbrev opened : ExprKind-F A B C D → ExprKind-F ExprKind PlaceKind Expr Place
      opened y = map-ExprKind A B C D ExprKind PlaceKind Expr Place fa fb fc fd y

      abbrev opened_place : PlaceKind-F A B C D → PlaceKind-F ExprKind PlaceKind Expr Place
      opened_place y = map-PlaceKind A B C D ExprKind PlaceKind Expr Place fa fb fc fd y

      abbrev coded_layer : ExprKind-F A B C D → Ty → ℕ → Code
      coded_layer y = c.expr_layer structs (map-ExprKind ExprKind PlaceKind Expr Place c.Layer c.PlaceLayer Coded Spotted
          (c.expr_kind structs) (c.place_kind structs) (tree.coded structs) (tree.spotted structs) (opened y))

      abbrev coded_place_layer : PlaceKind-F A B C D → Ty → ℕ → Spot
      coded_place_layer y = c.place_layer structs (map-PlaceKind ExprKind PlaceKind Expr Place c.Layer c.PlaceLayer Coded
          Spotted (c.expr_kind structs) (c.place_kind structs) (tree.coded structs) (tree.spotted structs) (opened_place y))

      abbrev costed : ExprKind-F A B C D → ExprKind-F (ℕ → ℕ) (ℕ → ℕ) ℕ ℕ
      costed y = map-ExprKind ExprKind PlaceKind Expr Place (ℕ → ℕ) (ℕ → ℕ) ℕ ℕ (cost.expr_kind_rows w) (cost.place_kind_rows w)
          (cost.expr_rows w) (cost.place_rows w) (opened y)

      abbrev costed_place : PlaceKind-F A B C D → PlaceKind-F (ℕ → ℕ) (ℕ → ℕ) ℕ ℕ
      costed_place y = map-PlaceKind ExprKind PlaceKind Expr Place (ℕ → ℕ) (ℕ → ℕ) ℕ ℕ (cost.expr_kind_rows w)
          (cost.place_kind_rows w) (cost.expr_rows w) (cost.place_rows w) (opened_place y)

      abbrev numbered : ExprKind-F A B C D → Numbers
      numbered y = number.expr_step (map-ExprKind ExprKind PlaceKind Expr Place (ℕ → Numbers)
          (ℕ → Numbers) Numbers Numbers expr_kind_numbers place_kind_numbers number.expr_numbers number.place_numbers
          (opened y))

      abbrev numbered_place : PlaceKind-F A B C D → Numbers
      numbered_place y = number.place_step (map-PlaceKind ExprKind PlaceKind Expr Place (ℕ → Numbers)
          (ℕ → Numbers) Numbers Numbers expr_kind_numbers place_kind_numbers number.expr_numbers number.place_numbers
          (opened_place y))

      one : (x : C) (p d : ℕ) → Within w ((c.expr structs (fc x)).steps p d) (cost.expr_rows w (fc x))
          (weights w (number.expr_numbers (fc x)))
      one x p d = hc x (fc x).ty (fc x).node p d

      at_place : (x : D) (p d : ℕ) → Within w ((c.place structs (fd x)).code.steps p d) (cost.place_rows w (fd x))
          (weights w (number.place_numbers (fd x)))
      at_place x p d = hd x (fd x).ty (fd x).node p d

      args : (xs : List C) (p d : ℕ) → Within w ((c.args_code (map (tree.coded structs) (map fc xs))).steps p d)
          (total (map (cost.expr_rows w) (map fc xs))) (weights w (joined (map number.expr_numbers (map fc xs))))
      args [] p d = w_none w
      args (x ∷ xs) p d =
          w_more_args w ((c.expr structs (fc x)).steps p d) _ _ _ (number.expr_numbers (fc x))
          (joined (map number.expr_numbers (map fc xs))) (one x p d) (args xs (p + (c.expr structs (fc x)).size) (d + 1))

      combined : (x y : C) (o : Operation) (row node p d : ℕ) → 16 + operation_bytes o ≤ row
          → Within w ((c.combined node o (c.expr structs (fc x)) (c.expr structs (fc y))).steps p d)
          (w node * row + (cost.expr_rows w (fc x) + (cost.expr_rows w (fc y) + 0)))
          (w node + weights w (number.expr_numbers (fc x) ++ number.expr_numbers (fc y)))
      combined x y o row node p d h = w_combined w node d o row _ _ _ _ (number.expr_numbers (fc x))
          (number.expr_numbers (fc y)) h (one x p d) (one y (p + (c.expr structs (fc x)).size) (d + 1))

      layer : (y : ExprKind-F A B C D) (ty : Ty) (node p d : ℕ)
          → Within w ((coded_layer y ty node).steps p d) (w node * cost.expr_row (costed y) + total (expr_parts (costed y)))
          (w node + weights w (numbered y))
      layer (ExprKind-F.Constant v) ty node p d = w_put w node d (c.constant (is_pointer ty) v)
      layer (ExprKind-F.Read x) ty node p d = w_step w _ node (step.Load d (kind_of ty)) 12 _ (number.place_numbers (fd x))
          (omega arith) (omega arith) (at_place x p d)
      layer (ExprKind-F.Convert x) ty node p d = w_step w _ node (step.Convert d (int_type_of ty) operand.Temporary) 12 _
          (number.expr_numbers (fc x)) (convert_short (int_type_of ty)) (omega arith) (one x p d)
      layer (ExprKind-F.Unary o x) ty node p d = w_step w _ node (step.Unary d o (int_type_of (fc x).ty) operand.Temporary)
          (cost.unary_row o) _ (number.expr_numbers (fc x)) (unary_short o) (omega arith) (one x p d)
      layer (ExprKind-F.Binary o t x y) ty node p d
          = combined x y (operation.Integers o t (int_type_of (fc y).ty)) (cost.binary_row o) node p d (binary_short o)
      layer (ExprKind-F.PointerPlus minus x y) ty node p d
          = combined x y (c.pointer_plus structs minus ty (fc x).ty (fc y).ty) 28 node p d (omega arith)
      layer (ExprKind-F.Difference x y) ty node p d
          = combined x y (operation.Difference (stride structs (target_of (fc x).ty))) 28 node p d (omega arith)
      layer (ExprKind-F.ComparePointers o x y) ty node p d
          = combined x y (operation.ComparePointers o) 32 node p d (omega arith)
      layer (ExprKind-F.And x y) ty node p d =
          w_and w node d _ _ (int_type_of (fc x).ty) (int_type_of (fc y).ty) _ _ _ _ (number.expr_numbers (fc x))
          (number.expr_numbers (fc y)) (one x p d) (one y (p + (c.expr structs (fc x)).size + 1) d)
      layer (ExprKind-F.Or x y) ty node p d =
          w_or w node d _ _ (int_type_of (fc x).ty) (int_type_of (fc y).ty) _ _ _ _ (number.expr_numbers (fc x))
          (number.expr_numbers (fc y)) (one x p d) (one y (p + (c.expr structs (fc x)).size + 1 + 1 + 1) d)
      layer (ExprKind-F.Conditional x y z) ty node p d =
          w_conditional w node d _ _ (int_type_of (fc x).ty) _ _ _ _ _ _ (number.expr_numbers (fc x))
          (number.expr_numbers (fc y)) (number.expr_numbers (fc z)) (one x p d)
          (one y (p + (c.expr structs (fc x)).size + 1) d)
          (one z (p + (c.expr structs (fc x)).size + 1 + (c.expr structs (fc y)).size + 1) d)
      layer (ExprKind-F.Assign x y marked) ty node p d
          = w_assign w node (c.place structs (fd x)) (kind_of ty) marked (c.expr structs (fc y)) _ _
          (number.place_numbers (fd x)) (number.expr_numbers (fc y)) (at_place x) (one y) p d
      layer (ExprKind-F.Update o t x y old marked) ty node p d =
          w_update w node (c.place structs (fd x)) (kind_of ty)
          (c.update_operation o t (int_type_of (fc y).ty) (stride structs (target_of ty))) (cost.operator_row o t)
          (c.expr structs (fc y)) old marked _ _ (number.place_numbers (fd x)) (number.expr_numbers (fc y))
          (update_short o t (int_type_of (fc y).ty) (stride structs (target_of ty))) (at_place x) (one y) p d
      layer (ExprKind-F.Address x) ty node p d = w_step w _ node (step.PointTo d) 12 _ (number.place_numbers (fd x))
          (omega arith) (omega arith) (at_place x p d)
      layer (ExprKind-F.Call g xs) ty node p d =
          w_call w node d g (length (map (tree.coded structs) (map fc xs))) (length (map (cost.expr_rows w) (map fc xs))) _ _
          (joined (map number.expr_numbers (map fc xs))) (args xs p d)
      layer (ExprKind-F.Sense channel) ty node p d = w_one w node (step.Sense d channel) 20 (omega arith) (omega arith)
      layer (ExprKind-F.Emit x) ty node p d = w_step w _ node (step.Emit d operand.Temporary) 16 _ (number.expr_numbers (fc x))
          (omega arith) (omega arith) (one x p d)
      layer ExprKind-F.Checkpoint ty node p d = w_one w node (step.Checkpoint d) 8 (omega arith) (omega arith)
      layer (ExprKind-F.Comma x y) ty node p d = w_comma w node d _ _ _ _ (number.expr_numbers (fc x))
          (number.expr_numbers (fc y)) (one x p d) (one y (p + (c.expr structs (fc x)).size + 1) d)

      place_layer : (y : PlaceKind-F A B C D) (ty : Ty) (node p d : ℕ)
          → Within w ((coded_place_layer y ty node).code.steps p d)
          (w node * cost.place_row (costed_place y) + total (place_parts (costed_place y)))
          (w node + weights w (numbered_place y))
      place_layer (PlaceKind-F.Local n) ty node p d
          = w_one w node (step.Address d (base.Local n) 0) 12 (omega arith) (omega arith)
      place_layer (PlaceKind-F.Global n) ty node p d
          = w_one w node (step.Address d (base.Global n) 0) 12 (omega arith) (omega arith)
      place_layer (PlaceKind-F.Deref x) ty node p d
          = w_step w _ node (step.Follow d operand.Temporary) 16 _ (number.expr_numbers (fc x)) (omega arith) (omega arith)
          (one x p d)
      place_layer (PlaceKind-F.Member x tag member) ty node p d
          = w_step w _ node (step.Member d (member_stride structs tag member)) 16 _ (number.place_numbers (fd x)) (omega arith)
          (omega arith) (at_place x p d)
      place_layer (PlaceKind-F.Element x y) ty node p d =
          w_both w _ _ node (step.Element d (stride structs ty) (int_type_of (fc y).ty) operand.Temporary) 28 _ _
          (number.place_numbers (fd x)) (number.expr_numbers (fc y)) (omega arith)
          (once (table.uses_helper (step.Element d (stride structs ty) (int_type_of (fc y).ty) operand.Temporary)))
          (at_place x p d) (one y (p + (c.place structs (fd x)).code.size) (d + 1))
      place_layer (PlaceKind-F.At x y) ty node p d =
          w_both w _ _ node (step.Sum d (stride structs ty) (int_type_of (fc x).ty) (int_type_of (fc y).ty)
          (c.swapped (fc x).ty) operand.Temporary operand.Temporary) 28 _ _ (number.expr_numbers (fc x))
          (number.expr_numbers (fc y)) (omega arith)
          (once (table.uses_helper (step.Sum d (stride structs ty) (int_type_of (fc x).ty) (int_type_of (fc y).ty)
          (c.swapped (fc x).ty) operand.Temporary operand.Temporary))) (one x p d)
          (one y (p + (c.expr structs (fc x)).size) (d + 1))

      expr_case : (y : ExprKind-F A B C D) → ExprClaim (roll-ExprKind (opened y))
      expr_case y = λ ty node p d.
          let x = opened y in
          subst (λ (g : ℕ → ℕ). Within w ((c.expr_kind structs (roll-ExprKind x) ty node).steps p d) (g node)
          (weights w (expr_kind_numbers (roll-ExprKind x) node))) (sym (rows_roll x))
          (subst (λ (g : ℕ → Numbers). Within w ((c.expr_kind structs (roll-ExprKind x) ty node).steps p d)
          (w node * cost.expr_row (costed y) + total (expr_parts (costed y))) (weights w (g node))) (sym (numbers_roll x))
          (subst (λ (g : Ty → ℕ → Code). Within w ((g ty node).steps p d)
          (w node * cost.expr_row (costed y) + total (expr_parts (costed y))) (w node + weights w (numbered y)))
          (sym (tree.code_roll structs x)) (layer y ty node p d)))

      place_case : (y : PlaceKind-F A B C D) → PlaceClaim (roll-PlaceKind (opened_place y))
      place_case y = λ ty node p d.
          let x = opened_place y in
          subst (λ (g : ℕ → ℕ). Within w ((c.place_kind structs (roll-PlaceKind x) ty node).code.steps p d) (g node)
          (weights w (place_kind_numbers (roll-PlaceKind x) node))) (sym (place_rows_roll x))
          (subst (λ (g : ℕ → Numbers). Within w ((c.place_kind structs (roll-PlaceKind x) ty node).code.steps p d)
          (w node * cost.place_row (costed_place y) + total (place_parts (costed_place y))) (weights w (g node)))
          (sym (place_numbers_roll x))
          (subst (λ (g : Ty → ℕ → Spot). Within w ((g ty node).code.steps p d)
          (w node * cost.place_row (costed_place y) + total (place_parts (costed_place y)))
          (w node + weights w (numbered_place y))) (sym (tree.code_place_roll structs x))
          (place_layer y ty node p d)))

    expr_within : (k : ExprKind) → ExprClaim k
    expr_within = ind-ExprKind ExprClaim PlaceClaim (λ e. ExprClaim e.kind) (λ p. PlaceClaim p.kind)
        (λ x y is. subst (λ z. ExprClaim (roll-ExprKind z)) is
        (expr_case (λ e. e.0) (λ e. e.0) (λ e. e.0) (λ e. e.0) (λ e. e.1) (λ e. e.1) y))
        (λ x y is. subst (λ z. PlaceClaim (roll-PlaceKind z)) is
        (place_case (λ e. e.0) (λ e. e.0) (λ e. e.0) (λ e. e.0) (λ e. e.1) (λ e. e.1) y))
        (λ x y is. subst (λ z. ExprClaim z.kind) is y.kind.1)
        (λ x y is. subst (λ z. PlaceClaim z.kind) is y.kind.1)

    pub expr_fits : (e : Expr) (p d : ℕ) → Within w ((c.expr structs e).steps p d) (cost.expr_rows w e)
        (weights w (number.expr_numbers e))
    expr_fits e p d = expr_within e.kind e.ty e.node p d
