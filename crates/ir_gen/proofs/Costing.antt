-- What the steps of expressions cost against the number of their nodes.
use Rattle.std.proofs.Common.{◌≡◌, ℕ, ◌+◌, ◌*◌, ◌≤◌, List, [], ◌∷◌, ◌++◌, length, map, Option, Some, None, Bool, true, false, cond, sym, subst, arith, rules}
use Rattle.std.specs.Prelude.{pos}
use Rattle.base16.specs.declared.image.Kind.{Kind}
use Rattle.base16.specs.declared.integer.IntType.{IntType}
use Rattle.base16.specs.declared.integer.IntType.TheVariants as int
use Rattle.base16.specs.declared.operator.UnaryOp.{UnaryOp}
use Rattle.base16.specs.declared.operator.UnaryOp.TheVariants as un
use Rattle.base16.specs.declared.operator.BinaryOp.{BinaryOp}
use Rattle.core_tree.specs.Nodes as count
use Rattle.core_tree.specs.Nodes.{total, expr_parts, place_parts}
use Rattle.core_tree.specs.Layout.{kind_of, int_type_of, is_pointer, stride}
use Rattle.core_tree.specs.declared.types.Struct.{Struct}
use Rattle.core_tree.specs.declared.types.Ty.{Ty}
use Rattle.core_tree.specs.declared.expressions.ExprKind.{ExprKind, ind-ExprKind, the_lemmas, roll-ExprKind, map-ExprKind}
use Rattle.core_tree.specs.declared.expressions.ExprKind.TheOpen.{ExprKind-F, PlaceKind-F}
use Rattle.core_tree.specs.declared.expressions.PlaceKind.{PlaceKind, roll-PlaceKind, map-PlaceKind}
use Rattle.core_tree.specs.declared.expressions.Expr.{Expr}
use Rattle.core_tree.specs.declared.expressions.Place.{Place}
use Rattle.ir.specs.declared.form.Operand.{Operand}
use Rattle.ir.specs.declared.form.Operand.TheVariants as operand
use Rattle.ir.specs.declared.form.Operation.{Operation}
use Rattle.ir.specs.declared.form.Operation.TheVariants as operation
use Rattle.ir.specs.declared.form.Target.TheVariants as target
use Rattle.ir.specs.declared.form.Keep.TheVariants as keep
use Rattle.ir.specs.declared.form.Step.{Step}
use Rattle.ir.specs.declared.form.StepKind.{StepKind}
use Rattle.ir.specs.declared.form.StepKind.TheVariants as step
use Rattle.ir.specs.Table as table
use Rattle.ir.specs.Table.{operation_bytes, operation_helped}
use Rattle.ir_gen.specs.Code as c
use Rattle.ir_gen.specs.Code.{Code, Coded, Spotted, Spot, Part as LocalPart, at_node, single, then_code, above, choice}
use Rattle.ir_gen.specs.Short.{cost}
use Rattle.ir_gen.proofs.Tree as tree
use Rattle.ir_gen.proofs.Weighing.{narrow_short, place_short, once}

-- stores to a known scalar with a mark are counted apart, since a run makes one at a mark alone
abbrev pub counted : StepKind → ℕ
counted (step.Store d (target.Known of offset) k x keeps) = 0
counted k = cost k

abbrev pub all_counted : List Step → ℕ
all_counted [] = 0
all_counted (s ∷ ss) = counted s.kind + all_counted ss

pub counted_append : (xs ys : List Step) → all_counted (xs ++ ys) ≡ all_counted xs + all_counted ys
counted_append [] ys = omega arith
counted_append (x ∷ xs) ys = omega (arith, counted_append xs ys)

-- ---- single steps

pub operator_short : (o : BinaryOp) → table.operator_bytes o ≤ 8
operator_short o = by_bools (table.is_comparison o) (table.is_helped o)
  where
    by_bools : (a b : Bool) → cond a 8 (cond b 4 2) ≤ 8
    by_bools true b = omega arith
    by_bools false true = omega arith
    by_bools false false = omega arith

pub operation_short : (o : Operation) → operation_bytes o ≤ 10
operation_short (operation.Integers o t own) = omega (arith, operator_short o)
operation_short (operation.PointerPlus minus bytes left right swapped) = omega arith
operation_short (operation.Difference bytes) = omega arith
operation_short (operation.ComparePointers o) = omega arith

unary_cheap : (o : UnaryOp) → table.unary_step o operand.Temporary ≤ 16
unary_cheap un.Plus = omega arith
unary_cheap un.Minus = omega arith
unary_cheap un.Complement = omega arith
unary_cheap un.Not = omega arith

convert_cheap : (t : IntType) → table.convert_bytes t operand.Temporary ≤ 12
convert_cheap int.Char = omega arith
convert_cheap int.Int = omega arith
convert_cheap int.UInt = omega arith

-- ---- codes

pub record Costs (n : ℕ) (code : Code) : Type 0 where
  pub costs : (p d : ℕ) → all_counted (code.steps p d) ≤ n

k_none : Costs 0 c.no_code
k_none = record { costs = λ p d. omega arith }

k_single : (n node : ℕ) (k : ℕ → StepKind) → ((d : ℕ) → counted (k d) ≤ n) → Costs n (single node k)
k_single n node k h = record { costs = λ p d. omega (arith, h d) }

k_then : (n m : ℕ) (x y : Code) → Costs n x → Costs m y → Costs (n + m) (then_code x y)
k_then n m x y hx hy = record {
  costs = λ p d. omega (arith, counted_append (x.steps p d) (y.steps (p + x.size) d), hx.costs p d, hy.costs (p + x.size) d);
}

k_above : (n by : ℕ) (x : Code) → Costs n x → Costs n (above by x)
k_above n by x h = record { costs = λ p d. h.costs p (d + by) }

k_more : (n m : ℕ) (x : Code) → n ≤ m → Costs n x → Costs m x
k_more n m x h hx = record { costs = λ p d. omega (arith, hx.costs p d, h) }

k_put : (node : ℕ) (x : Operand) → Costs 8 (c.put node x)
k_put node x = k_single 8 node (λ d. step.Put d x) (λ d. omega (arith, place_short x))

k_choice : (n m l node : ℕ) (t : IntType) (x y z : Code) → Costs n x → Costs m y → Costs l z
    → Costs (n + (12 + (m + (4 + l)))) (choice node t x y z)
k_choice n m l node t x y z hx hy hz = record {
  costs = λ p d. omega (
    arith,
    counted_append (x.steps p d) (at_node node (c.unless t (p + x.size + 1 + y.size + 1) d)
        ∷ (y.steps (p + x.size + 1) d ++ (at_node node (step.Jump (p + x.size + 1 + y.size + 1 + z.size))
        ∷ z.steps (p + x.size + 1 + y.size + 1) d))),
    counted_append (y.steps (p + x.size + 1) d) (at_node node (step.Jump (p + x.size + 1 + y.size + 1 + z.size))
        ∷ z.steps (p + x.size + 1 + y.size + 1) d),
    hx.costs p d,
    hy.costs (p + x.size + 1) d,
    hz.costs (p + x.size + 1 + y.size + 1) d,
  );
}

-- ---- a code that costs less than its nodes allow

pub record Cheap (n : ℕ) (code : Code) : Type 0 where
  pub bound : ℕ
  pub fits : bound + 700 ≤ 848 * n
  pub own : Costs bound code

c_leaf : (node : ℕ) (k : ℕ → StepKind) → ((d : ℕ) → counted (k d) ≤ 20) → Cheap 1 (single node k)
c_leaf node k h = record { bound = 20; fits = omega arith; own = k_single 20 node k h }

c_step : (n : ℕ) (x : Code) (node : ℕ) (k : ℕ → StepKind) → ((d : ℕ) → counted (k d) ≤ 20) → Cheap n x
    → Cheap (1 + (n + 0)) (c.then_step x node k)
c_step n x node k h hx = record {
  bound = hx.bound + 20;
  fits = omega (arith, hx.fits);
  own = k_then hx.bound 20 x (single node k) hx.own (k_single 20 node k h);
}

c_both : (n m : ℕ) (x y : Code) (node : ℕ) (k : ℕ → StepKind) → ((d : ℕ) → counted (k d) ≤ 840) → Cheap n x → Cheap m y
    → Cheap (1 + (n + (m + 0))) (c.both_then x y node k)
c_both n m x y node k h hx hy = record {
  bound = hx.bound + (hy.bound + 840);
  fits = omega (arith, hx.fits, hy.fits);
  own = k_then hx.bound (hy.bound + 840) x (c.then_step (above 1 y) node k) hx.own
      (k_then hy.bound 840 (above 1 y) (single node k) (k_above hy.bound 1 y hy.own) (k_single 840 node k h));
}

binary_cheap : (o : Operation) (d : ℕ) → counted (step.Binary d o operand.Temporary operand.Temporary) ≤ 830
binary_cheap o d = omega (arith, operation_short o, once (operation_helped o))

beside_cheap : (o : Operation) (d : ℕ) → counted (step.Beside d o) ≤ 830
beside_cheap o d = omega (arith, operation_short o, once (operation_helped o))

c_combined : (n m : ℕ) (x y : Code) (node : ℕ) (o : Operation) → Cheap n x → Cheap m y
    → Cheap (1 + (n + (m + 0))) (c.combined node o x y)
c_combined n m x y node o hx hy = c_both n m x y node (λ d. step.Binary d o operand.Temporary operand.Temporary)
    (λ d. omega (arith, binary_cheap o d)) hx hy

local_cheap : (node : ℕ) (q : Option LocalPart) (k : Kind) → Costs 20 (c.store_local node q k keep.Stored)
local_cheap node None k = k_more 0 20 c.no_code (omega arith) k_none
local_cheap node (Some q) k = k_single 20 node _ (λ d. omega (arith, narrow_short k))

before_cheap : (node : ℕ) (q : Option LocalPart) (k : Kind) → Costs 20 (c.store_local node q k keep.Before)
before_cheap node None k = k_more 0 20 c.no_code (omega arith) k_none
before_cheap node (Some q) k = k_single 20 node _ (λ d. omega arith)

c_assign : (n m : ℕ) (node : ℕ) (s : Spot) (k : Kind) (marked : Bool) (v : Code) → Cheap n s.code → Cheap m v
    → Cheap (1 + (n + (m + 0))) (c.assign_code node s k marked v)
c_assign n m node s k true v hs hv = c_both n m s.code v node (c.store_step k keep.Stored)
    (λ d. omega (arith, narrow_short k)) hs hv
c_assign n m node s k false v hs hv = record {
  bound = hv.bound + 20;
  fits = omega (arith, hs.fits, hv.fits);
  own = k_then hv.bound 20 v (c.store_local node s.part k keep.Stored) hv.own (local_cheap node s.part k);
}

c_update : (n m : ℕ) (node : ℕ) (s : Spot) (k : Kind) (o : Operation) (v : Code) (old marked : Bool) → Cheap n s.code
    → Cheap m v → Cheap (1 + (n + (m + 0))) (c.update_code node s k o v old marked)
c_update n m node s k o v false true hs hv = record {
  bound = hs.bound + (10 + (hv.bound + (830 + 20)));
  fits = omega (arith, hs.fits, hv.fits);
  own = k_then hs.bound (10 + (hv.bound + (830 + 20))) s.code _ hs.own
      (k_then 10 (hv.bound + (830 + 20)) (single node (λ d. step.Peek d k)) _ (k_single 10 node _ (λ d. omega arith))
      (k_then hv.bound (830 + 20) (above 2 v) _ (k_above hv.bound 2 v hv.own)
      (k_then 830 20 (single node (λ d. step.Binary (d + 1) o operand.Temporary operand.Temporary))
      (single node (c.store_step k keep.Stored)) (k_single 830 node _ (λ d. binary_cheap o (d + 1)))
      (k_single 20 node (c.store_step k keep.Stored) (λ d. omega (arith, narrow_short k))))));
}
c_update n m node s k o v true true hs hv = record {
  bound = hs.bound + (10 + (hv.bound + (830 + 20)));
  fits = omega (arith, hs.fits, hv.fits);
  own = k_then hs.bound (10 + (hv.bound + (830 + 20))) s.code _ hs.own
      (k_then 10 (hv.bound + (830 + 20)) (single node (λ d. step.Peek d k)) _ (k_single 10 node _ (λ d. omega arith))
      (k_then hv.bound (830 + 20) (above 2 v) _ (k_above hv.bound 2 v hv.own)
      (k_then 830 20 (single node (λ d. step.Beside (d + 1) o))
      (single node (c.store_step k keep.Before)) (k_single 830 node _ (λ d. beside_cheap o (d + 1)))
      (k_single 20 node (c.store_step k keep.Before) (λ d. omega arith)))));
}
c_update n m node s k o v old false hs hv = record {
  bound = 8 + (hv.bound + (830 + 20));
  fits = omega (arith, hs.fits, hv.fits);
  own = by_part s.part old;
}
  where
    by_part : (q : Option LocalPart) (old : Bool) → Costs (8 + (hv.bound + (830 + 20))) (c.update_local node q k o v old)
    by_part None old = k_more 0 (8 + (hv.bound + (830 + 20))) c.no_code (omega arith) k_none
    by_part (Some q) false =
        k_then 8 (hv.bound + (830 + 20)) (c.put node (c.scalar_of q k)) _ (k_put node (c.scalar_of q k))
        (k_then hv.bound (830 + 20) (above 1 v) _ (k_above hv.bound 1 v hv.own)
        (k_then 830 20 (single node (λ d. step.Binary d o operand.Temporary operand.Temporary))
        (c.store_local node (Some q) k keep.Stored) (k_single 830 node _ (λ d. binary_cheap o d))
        (local_cheap node (Some q) k)))
    by_part (Some q) true =
        k_then 8 (hv.bound + (830 + 20)) (c.put node (c.scalar_of q k)) _ (k_put node (c.scalar_of q k))
        (k_then hv.bound (830 + 20) (above 1 v) _ (k_above hv.bound 1 v hv.own)
        (k_then 830 20 (single node (λ d. step.Beside d o)) (c.store_local node (Some q) k keep.Before)
        (k_single 830 node _ (λ d. beside_cheap o d)) (before_cheap node (Some q) k)))

c_truth : (n node : ℕ) (t : IntType) (x : Code) → Cheap n x → (b : ℕ) × (b + 80 ≤ 848 * n) × Costs b (c.truth_code node t x)
c_truth n node t x h = (
  h.bound + 16,
  omega (arith, h.fits),
  k_then h.bound 16 x (single node (λ d. step.Truth d t operand.Temporary)) h.own (k_single 16 node _ (λ d. omega arith)),
)

-- ---- nodes, all kinds at once

nodes_roll : (x : ExprKind-F ExprKind PlaceKind Expr Place) → count.expr_kind_nodes (roll-ExprKind x)
    ≡ 1 + total (expr_parts (map-ExprKind ExprKind PlaceKind Expr Place ℕ ℕ ℕ ℕ count.expr_kind_nodes count.place_kind_nodes
    count.expr_nodes count.place_nodes x))
nodes_roll x = search (rules, the_lemmas)

nodes_place_roll : (x : PlaceKind-F ExprKind PlaceKind Expr Place) → count.place_kind_nodes (roll-PlaceKind x)
    ≡ 1 + total (place_parts (map-PlaceKind ExprKind PlaceKind Expr Place ℕ ℕ ℕ ℕ count.expr_kind_nodes count.place_kind_nodes
    count.expr_nodes count.place_nodes x))
nodes_place_roll x = search (rules, the_lemmas)

-- ---- by induction

module _ (structs : List Struct) where
  abbrev ExprClaim : ExprKind → Type 0
  ExprClaim k = (ty : Ty) (node : ℕ) → Cheap (count.expr_kind_nodes k) (c.expr_kind structs k ty node)

  abbrev PlaceClaim : PlaceKind → Type 0
  PlaceClaim k = (ty : Ty) (node : ℕ) → Cheap (count.place_kind_nodes k) (c.place_kind structs k ty node).code

  module _ {A B C D : Type 0} (fa : A → ExprKind) (fb : B → PlaceKind) (fc : C → Expr) (fd : D → Place)
      (hc : (x : C) → ExprClaim (fc x).kind) (hd : (x : D) → PlaceClaim (fd x).kind) where
    abbrev opened : ExprKind-F A B C D → ExprKind-F ExprKind PlaceKind Expr Place
    opened y = map-ExprKind A B C D ExprKind PlaceKind Expr Place fa fb fc fd y

    abbrev opened_place : PlaceKind-F A B C D → PlaceKind-F ExprKind PlaceKind Expr Place
    opened_place y = map-PlaceKind A B C D ExprKind PlaceKind Expr Place fa fb fc fd y

    abbrev coded_layer : ExprKind-F A B C D → Ty → ℕ → Code
    coded_layer y = c.expr_layer structs (map-ExprKind ExprKind PlaceKind Expr Place c.Layer c.PlaceLayer Coded Spotted
        (c.expr_kind structs) (c.place_kind structs) (tree.coded structs) (tree.spotted structs) (opened y))

    abbrev coded_place_layer : PlaceKind-F A B C D → Ty → ℕ → Spot
    coded_place_layer y = c.place_layer structs (map-PlaceKind ExprKind PlaceKind Expr Place c.Layer c.PlaceLayer Coded Spotted
        (c.expr_kind structs) (c.place_kind structs) (tree.coded structs) (tree.spotted structs) (opened_place y))

    abbrev many : ExprKind-F A B C D → ℕ
    many y = 1 + total (expr_parts (map-ExprKind ExprKind PlaceKind Expr Place ℕ ℕ ℕ ℕ count.expr_kind_nodes
        count.place_kind_nodes count.expr_nodes count.place_nodes (opened y)))

    abbrev many_places : PlaceKind-F A B C D → ℕ
    many_places y = 1 + total (place_parts (map-PlaceKind ExprKind PlaceKind Expr Place ℕ ℕ ℕ ℕ count.expr_kind_nodes
        count.place_kind_nodes count.expr_nodes count.place_nodes (opened_place y)))

    one : (x : C) → Cheap (count.expr_nodes (fc x)) (c.expr structs (fc x))
    one x = hc x (fc x).ty (fc x).node

    at_place : (x : D) → Cheap (count.place_nodes (fd x)) (c.place structs (fd x)).code
    at_place x = hd x (fd x).ty (fd x).node

    args : (xs : List C) → (n : ℕ) × (n ≤ 848 * total (map count.expr_nodes (map fc xs)))
        × Costs n (c.args_code (map (tree.coded structs) (map fc xs)))
    args [] = (0, omega arith, k_none)
    args (x ∷ xs) =
        let first = one x in
        let more = args xs in (
          first.bound + more.0,
          omega (arith, first.fits, more.1),
          k_then first.bound more.0 (c.expr structs (fc x)) (above 1 (c.args_code (map (tree.coded structs) (map fc xs))))
              first.own (k_above more.0 1 (c.args_code (map (tree.coded structs) (map fc xs))) more.2),
        )

    layer : (y : ExprKind-F A B C D) (ty : Ty) (node : ℕ) → Cheap (many y) (coded_layer y ty node)
    layer (ExprKind-F.Constant v) ty node = c_leaf node (λ d. step.Put d (c.constant (is_pointer ty) v))
        (λ d. omega (arith, place_short (c.constant (is_pointer ty) v)))
    layer (ExprKind-F.Read x) ty node = c_step _ (c.place structs (fd x)).code node (λ d. step.Load d (kind_of ty))
        (λ d. omega arith) (at_place x)
    layer (ExprKind-F.Convert x) ty node = c_step _ (c.expr structs (fc x)) node
        (λ d. step.Convert d (int_type_of ty) operand.Temporary) (λ d. omega (arith, convert_cheap (int_type_of ty))) (one x)
    layer (ExprKind-F.Unary o x) ty node = c_step _ (c.expr structs (fc x)) node
        (λ d. step.Unary d o (int_type_of (fc x).ty) operand.Temporary) (λ d. omega (arith, unary_cheap o)) (one x)
    layer (ExprKind-F.Binary o t x y) ty node = c_combined _ _ (c.expr structs (fc x)) (c.expr structs (fc y)) node _ (one x)
        (one y)
    layer (ExprKind-F.PointerPlus minus x y) ty node = c_combined _ _ (c.expr structs (fc x)) (c.expr structs (fc y)) node _
        (one x) (one y)
    layer (ExprKind-F.Difference x y) ty node = c_combined _ _ (c.expr structs (fc x)) (c.expr structs (fc y)) node _ (one x)
        (one y)
    layer (ExprKind-F.ComparePointers o x y) ty node = c_combined _ _ (c.expr structs (fc x)) (c.expr structs (fc y)) node _
        (one x) (one y)
    layer (ExprKind-F.And x y) ty node =
        let second = c_truth (count.expr_nodes (fc y)) node (int_type_of (fc y).ty) (c.expr structs (fc y)) (one y) in
        record {
          bound = (one x).bound + (12 + (second.0 + (4 + 8)));
          fits = omega (arith, (one x).fits, second.1);
          own = k_choice (one x).bound second.0 8 node _ (c.expr structs (fc x)) _ (c.bit node (pos 0)) (one x).own second.2
              (k_put node (operand.Constant (pos 0)));
        }
    layer (ExprKind-F.Or x y) ty node =
        let second = c_truth (count.expr_nodes (fc y)) node (int_type_of (fc y).ty) (c.expr structs (fc y)) (one y) in
        record {
          bound = (one x).bound + (12 + (8 + (4 + second.0)));
          fits = omega (arith, (one x).fits, second.1);
          own = k_choice (one x).bound 8 second.0 node _ (c.expr structs (fc x)) (c.bit node (pos 1)) _ (one x).own
              (k_put node (operand.Constant (pos 1))) second.2;
        }
    layer (ExprKind-F.Conditional x y z) ty node = record {
      bound = (one x).bound + (12 + ((one y).bound + (4 + (one z).bound)));
      fits = omega (arith, (one x).fits, (one y).fits, (one z).fits);
      own = k_choice (one x).bound (one y).bound (one z).bound node _ (c.expr structs (fc x)) (c.expr structs (fc y))
          (c.expr structs (fc z)) (one x).own (one y).own (one z).own;
    }
    layer (ExprKind-F.Assign p x marked) ty node = c_assign _ _ node (c.place structs (fd p)) (kind_of ty) marked
        (c.expr structs (fc x)) (at_place p) (one x)
    layer (ExprKind-F.Update o t p x old marked) ty node = c_update _ _ node (c.place structs (fd p)) (kind_of ty) _
        (c.expr structs (fc x)) old marked (at_place p) (one x)
    layer (ExprKind-F.Address p) ty node = c_step _ (c.place structs (fd p)).code node step.PointTo (λ d. omega arith)
        (at_place p)
    layer (ExprKind-F.Call g xs) ty node =
        let all = args xs in
        record {
          bound = all.0 + (10 + 4);
          fits = omega (arith, all.1);
          own = k_then all.0 (10 + 4) (c.args_code (map (tree.coded structs) (map fc xs))) _ all.2
              (k_then 10 4 (single node (λ d. step.Call d g (length (map (tree.coded structs) (map fc xs)))))
              (single node (λ d. step.Result d true)) (k_single 10 node _ (λ d. omega arith))
              (k_single 4 node _ (λ d. omega arith)));
        }
    layer (ExprKind-F.Sense channel) ty node = c_leaf node (λ d. step.Sense d channel) (λ d. omega arith)
    layer (ExprKind-F.Emit x) ty node = c_step _ (c.expr structs (fc x)) node (λ d. step.Emit d operand.Temporary)
        (λ d. omega arith) (one x)
    layer ExprKind-F.Checkpoint ty node = c_leaf node step.Checkpoint (λ d. omega arith)
    layer (ExprKind-F.Comma x y) ty node = record {
      bound = (one x).bound + (0 + (one y).bound);
      fits = omega (arith, (one x).fits, (one y).fits);
      own = k_then (one x).bound (0 + (one y).bound) (c.expr structs (fc x)) _ (one x).own
          (k_then 0 (one y).bound (single node step.Drop) (c.expr structs (fc y)) (k_single 0 node step.Drop (λ d. omega arith))
          (one y).own);
    }

    element_cheap : (x : C) (bytes : ℕ) (t : IntType) (d : ℕ) → counted (step.Element d bytes t operand.Temporary) ≤ 840
    element_cheap x bytes t d = omega (arith, once (table.uses_helper (step.Element d bytes t operand.Temporary)))

    place_layer : (y : PlaceKind-F A B C D) (ty : Ty) (node : ℕ) → Cheap (many_places y) (coded_place_layer y ty node).code
    place_layer (PlaceKind-F.Local n) ty node = c_leaf node _ (λ d. omega arith)
    place_layer (PlaceKind-F.Global n) ty node = c_leaf node _ (λ d. omega arith)
    place_layer (PlaceKind-F.Deref x) ty node = c_step _ (c.expr structs (fc x)) node
        (λ d. step.Follow d operand.Temporary) (λ d. omega arith) (one x)
    place_layer (PlaceKind-F.Member p tag member) ty node = c_step _ (c.place structs (fd p)).code node _ (λ d. omega arith)
        (at_place p)
    place_layer (PlaceKind-F.Element p x) ty node = c_both _ _ (c.place structs (fd p)).code (c.expr structs (fc x)) node
        (λ d. step.Element d (stride structs ty) (int_type_of (fc x).ty) operand.Temporary)
        (λ d. element_cheap x (stride structs ty) (int_type_of (fc x).ty) d) (at_place p) (one x)
    place_layer (PlaceKind-F.At x y) ty node = c_both _ _ (c.expr structs (fc x)) (c.expr structs (fc y)) node
        (λ d. step.Sum d (stride structs ty) (int_type_of (fc x).ty) (int_type_of (fc y).ty) (c.swapped (fc x).ty)
        operand.Temporary operand.Temporary)
        (λ d. omega (
          arith,
          once (table.uses_helper (step.Sum d (stride structs ty) (int_type_of (fc x).ty)
              (int_type_of (fc y).ty) (c.swapped (fc x).ty) operand.Temporary operand.Temporary)),
        )) (one x) (one y)

    expr_case : (y : ExprKind-F A B C D) → ExprClaim (roll-ExprKind (opened y))
    expr_case y = λ ty node.
        let x = opened y in
        subst (λ (n : ℕ). Cheap n (c.expr_kind structs (roll-ExprKind x) ty node)) (sym (nodes_roll x))
        (subst (λ (g : Ty → ℕ → Code). Cheap (many y) (g ty node)) (sym (tree.code_roll structs x)) (layer y ty node))

    place_case : (y : PlaceKind-F A B C D) → PlaceClaim (roll-PlaceKind (opened_place y))
    place_case y = λ ty node.
        let x = opened_place y in
        subst (λ (n : ℕ). Cheap n (c.place_kind structs (roll-PlaceKind x) ty node).code) (sym (nodes_place_roll x))
        (subst (λ (g : Ty → ℕ → Spot). Cheap (many_places y) (g ty node).code) (sym (tree.code_place_roll structs x))
        (place_layer y ty node))

  expr_cheap : (k : ExprKind) → ExprClaim k
  expr_cheap = ind-ExprKind ExprClaim PlaceClaim (λ e. ExprClaim e.kind) (λ p. PlaceClaim p.kind)
      (λ x y is. subst (λ z. ExprClaim (roll-ExprKind z)) is
      (expr_case (λ e. e.0) (λ e. e.0) (λ e. e.0) (λ e. e.0) (λ e. e.1) (λ e. e.1) y))
      (λ x y is. subst (λ z. PlaceClaim (roll-PlaceKind z)) is
      (place_case (λ e. e.0) (λ e. e.0) (λ e. e.0) (λ e. e.0) (λ e. e.1) (λ e. e.1) y))
      (λ x y is. subst (λ z. ExprClaim z.kind) is y.kind.1)
      (λ x y is. subst (λ z. PlaceClaim z.kind) is y.kind.1)

  -- the steps of an expression
  pub cheap : (e : Expr) → Cheap (count.expr_nodes e) (c.expr structs e)
  cheap e = expr_cheap e.kind e.ty e.node
