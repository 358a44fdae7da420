-- The temporaries that the steps of a tree use are no more than its height, and its jumps go no further than its end.
use Rattle.std.proofs.Common.{◌≡◌, ℕ, zero, suc, ◌+◌, ◌≤◌, max, List, [], ◌∷◌, ◌++◌, length, map, Option, Some, None, Bool, true, false, refl, sym, ap, subst, arith, rules}
use Rattle.std.specs.Prelude.{slice_get, pos}
use Rattle.base16.specs.declared.image.Kind.{Kind}
use Rattle.base16.specs.declared.integer.IntType.{IntType}
use Rattle.core_tree.specs.Heights as height
use Rattle.core_tree.specs.Layout.{kind_of, int_type_of, is_pointer}
use Rattle.core_tree.specs.declared.types.Struct.{Struct}
use Rattle.core_tree.specs.declared.types.Ty.{Ty}
use Rattle.core_tree.specs.declared.expressions.ExprKind.{ExprKind, ind-ExprKind, the_lemmas, roll-ExprKind, map-ExprKind}
use Rattle.core_tree.specs.declared.expressions.ExprKind.TheOpen.{ExprKind-F, PlaceKind-F}
use Rattle.core_tree.specs.declared.expressions.PlaceKind.{PlaceKind, roll-PlaceKind, map-PlaceKind}
use Rattle.core_tree.specs.declared.expressions.Expr.{Expr}
use Rattle.core_tree.specs.declared.expressions.Place.{Place}
use Rattle.ir.specs.declared.form.Operand.{Operand}
use Rattle.ir.specs.declared.form.Operand.TheVariants as operand
use Rattle.ir.specs.declared.form.Operation.{Operation}
use Rattle.ir.specs.declared.form.Keep.{Keep}
use Rattle.ir.specs.declared.form.Keep.TheVariants as keep
use Rattle.ir.specs.declared.form.Step.{Step}
use Rattle.ir.specs.declared.form.StepKind.{StepKind}
use Rattle.ir.specs.declared.form.StepKind.TheVariants as step
use Rattle.ir.specs.Table.{reach, taken}
use Rattle.ir_gen.specs.Code as c
use Rattle.ir_gen.specs.Code.{Code, Coded, Spotted, Spot, Part as LocalPart, at_node, single, then_code, above, choice}
use Rattle.ir_gen.specs.Ranges.{jump_of}
use Rattle.ir_gen.proofs.Tree as tree

-- steps that use so many temporaries at most, and jump no further than a place
abbrev pub Held : ℕ → ℕ → List Step → Type 0
Held high far [] = Unit {0}
Held high far (s ∷ ss) = (reach s.kind ≤ high) × (jump_of s.kind ≤ far) × Held high far ss

pub held_append : (high far : ℕ) (xs ys : List Step) → Held high far xs → Held high far ys → Held high far (xs ++ ys)
held_append high far [] ys h g = g
held_append high far (x ∷ xs) ys h g = (h.0, h.1, held_append high far xs ys h.2 g)

pub held_at : (high far p : ℕ) (xs : List Step) (s : Step) → Held high far xs → slice_get xs p ≡ Some s
    → (reach s.kind ≤ high) × (jump_of s.kind ≤ far)
held_at high far p [] s h g = absurd (grind (arith, g))
held_at high far zero (x ∷ xs) s h g =
    let same : x ≡ s = ap_step g in
    subst (λ (z : Step). (reach z.kind ≤ high) × (jump_of z.kind ≤ far)) same (h.0, h.1)
  where
    step_of : Option Step → Step
    step_of None = x
    step_of (Some y) = y

    ap_step : Some x ≡ Some s → x ≡ s
    ap_step e = ap step_of e
held_at high far (suc p) (x ∷ xs) s h g = held_at high far p xs s h.2 g

-- ---- codes

-- at each depth the steps of a code use no more temporaries than the depth and a number, and jump no further than behind it
pub record Low (n : ℕ) (code : Code) : Type 0 where
  pub held : (p d high far : ℕ) → d + n ≤ high → p + code.size ≤ far → Held high far (code.steps p d)

l_none : (n : ℕ) → Low n c.no_code
l_none n = record { held = λ p d high far a b. tt }

l_single : (n node : ℕ) (k : ℕ → StepKind) → ((d : ℕ) → reach (k d) ≤ d + n) → ((d : ℕ) → jump_of (k d) ≡ 0)
    → Low n (single node k)
l_single n node k hr hj = record { held = λ p d high far a b. (omega (arith, hr d, a), omega (arith, hj d), tt) }

l_then : (n m r : ℕ) (x y : Code) → n ≤ r → m ≤ r → Low n x → Low m y → Low r (then_code x y)
l_then n m r x y hn hm hx hy = record {
  held = λ p d high far a b.
      held_append high far (x.steps p d) (y.steps (p + x.size) d)
      (hx.held p d high far (omega (arith, hn, a)) (omega (arith, b)))
      (hy.held (p + x.size) d high far (omega (arith, hm, a)) (omega (arith, b)));
}

l_above : (by n r : ℕ) (x : Code) → by + n ≤ r → Low n x → Low r (above by x)
l_above by n r x h hx = record { held = λ p d high far a b. hx.held p (d + by) high far (omega (arith, h, a)) b }

l_choice : (n m l r node : ℕ) (t : IntType) (x y z : Code) → n ≤ r → m ≤ r → l ≤ r → 1 ≤ r → Low n x → Low m y → Low l z
    → Low r (choice node t x y z)
l_choice n m l r node t x y z hn hm hl hr hx hy hz = record {
  held = λ p d high far a b.
      held_append high far (x.steps p d) _ (hx.held p d high far (omega (arith, hn, a)) (omega (arith, b))) (
        omega (arith, hr, a),
        omega (arith, b),
        held_append high far (y.steps (p + x.size + 1) d) _
            (hy.held (p + x.size + 1) d high far (omega (arith, hm, a)) (omega (arith, b))) (
              omega arith,
              omega (arith, b),
              hz.held (p + x.size + 1 + y.size + 1) d high far (omega (arith, hl, a)) (omega (arith, b)),
            ),
      );
}

pub taken_one : (x : Operand) → taken x ≤ 1
taken_one operand.Temporary = omega arith
taken_one (operand.Constant n) = omega arith
taken_one operand.Null = omega arith
taken_one (operand.Scalar of offset k) = omega arith

l_put : (n node : ℕ) (x : Operand) → 1 ≤ n → Low n (c.put node x)
l_put n node x h = record { held = λ p d high far a b. (omega (arith, taken_one x, h, a), omega arith, tt) }

-- a code, and a step that takes what it gives
l_step : (n r : ℕ) (x : Code) (node : ℕ) (k : ℕ → StepKind) → n ≤ r → ((d : ℕ) → reach (k d) ≤ d + r)
    → ((d : ℕ) → jump_of (k d) ≡ 0) → Low n x → Low r (c.then_step x node k)
l_step n r x node k h hr hj hx = l_then n r r x (single node k) h (omega arith) hx (l_single r node k hr hj)

l_both : (n m r : ℕ) (x y : Code) (node : ℕ) (k : ℕ → StepKind) → n ≤ r → 1 + m ≤ r → ((d : ℕ) → reach (k d) ≤ d + r)
    → ((d : ℕ) → jump_of (k d) ≡ 0) → Low n x → Low m y → Low r (c.both_then x y node k)
l_both n m r x y node k hn hm hr hj hx hy =
    l_then n r r x (c.then_step (above 1 y) node k) hn (omega arith) hx
    (l_step r r (above 1 y) node k (omega arith) hr hj (l_above 1 m r y hm hy))

l_combined : (n m r node : ℕ) (o : Operation) (x y : Code) → n ≤ r → 1 + m ≤ r → 1 ≤ m → Low n x → Low m y
    → Low r (c.combined node o x y)
l_combined n m r node o x y hn hm some hx hy =
    l_both n m r x y node (λ d. step.Binary d o operand.Temporary operand.Temporary) hn hm (λ d. omega (arith, hm, some))
    (λ d. refl) hx hy

l_store_local : (r node : ℕ) (q : Option LocalPart) (k : Kind) (keeps : Keep) → 2 ≤ r → Low r (c.store_local node q k keeps)
l_store_local r node None k keeps h = l_none r
l_store_local r node (Some q) k keep.Nothing h = l_single r node _ (λ d. omega (arith, h)) (λ d. refl)
l_store_local r node (Some q) k keep.Stored h = l_single r node _ (λ d. omega (arith, h)) (λ d. refl)
l_store_local r node (Some q) k keep.Before h = l_single r node _ (λ d. omega (arith, h)) (λ d. refl)

l_assign : (n m r node : ℕ) (s : Spot) (k : Kind) (marked : Bool) (v : Code) → n ≤ r → 1 + m ≤ r → 1 ≤ m → Low n s.code
    → Low m v → Low r (c.assign_code node s k marked v)
l_assign n m r node s k true v hn hm some hs hv =
    l_both n m r s.code v node (c.store_step k keep.Stored) hn hm (λ d. omega (arith, hm, some)) (λ d. refl) hs hv
l_assign n m r node s k false v hn hm some hs hv =
    l_then m r r v _ (omega (arith, hm)) (omega arith) hv
    (l_store_local r node s.part k keep.Stored (omega (arith, hm, some)))

l_update : (n m r node : ℕ) (s : Spot) (k : Kind) (o : Operation) (v : Code) (old marked : Bool) → n ≤ r → 2 + m ≤ r → 1 ≤ m
    → Low n s.code → Low m v → Low r (c.update_code node s k o v old marked)
l_update n m r node s k o v false true hn hm some hs hv =
    l_then n r r s.code _ hn (omega arith) hs
    (l_then r r r (single node (λ d. step.Peek d k)) _ (omega arith) (omega arith)
    (l_single r node _ (λ d. omega (arith, hm)) (λ d. refl))
    (l_then r r r (above 2 v) _ (omega arith) (omega arith) (l_above 2 m r v hm hv)
    (l_then r r r (single node (λ d. step.Binary (d + 1) o operand.Temporary operand.Temporary)) _ (omega arith) (omega arith)
    (l_single r node _ (λ d. omega (arith, hm, some)) (λ d. refl))
    (l_single r node (c.store_step k keep.Stored) (λ d. omega (arith, hm, some)) (λ d. refl)))))
l_update n m r node s k o v true true hn hm some hs hv =
    l_then n r r s.code _ hn (omega arith) hs
    (l_then r r r (single node (λ d. step.Peek d k)) _ (omega arith) (omega arith)
    (l_single r node _ (λ d. omega (arith, hm)) (λ d. refl))
    (l_then r r r (above 2 v) _ (omega arith) (omega arith) (l_above 2 m r v hm hv)
    (l_then r r r (single node (λ d. step.Beside (d + 1) o)) _ (omega arith) (omega arith)
    (l_single r node _ (λ d. omega (arith, hm, some)) (λ d. refl))
    (l_single r node (c.store_step k keep.Before) (λ d. omega (arith, hm, some)) (λ d. refl)))))
l_update n m r node s k o v old false hn hm some hs hv = by_part s.part old
  where
    by_part : (q : Option LocalPart) (old : Bool) → Low r (c.update_local node q k o v old)
    by_part None old = l_none r
    by_part (Some q) false =
        l_then r r r (c.put node (c.scalar_of q k)) _ (omega arith) (omega arith)
        (l_put r node (c.scalar_of q k) (omega (arith, hm)))
        (l_then r r r (above 1 v) _ (omega arith) (omega arith) (l_above 1 m r v (omega (arith, hm)) hv)
        (l_then r r r (single node (λ d. step.Binary d o operand.Temporary operand.Temporary)) _ (omega arith) (omega arith)
        (l_single r node _ (λ d. omega (arith, hm)) (λ d. refl))
        (l_store_local r node (Some q) k keep.Stored (omega (arith, hm)))))
    by_part (Some q) true =
        l_then r r r (c.put node (c.scalar_of q k)) _ (omega arith) (omega arith)
        (l_put r node (c.scalar_of q k) (omega (arith, hm)))
        (l_then r r r (above 1 v) _ (omega arith) (omega arith) (l_above 1 m r v (omega (arith, hm)) hv)
        (l_then r r r (single node (λ d. step.Beside d o)) _ (omega arith) (omega arith)
        (l_single r node _ (λ d. omega (arith, hm)) (λ d. refl))
        (l_store_local r node (Some q) k keep.Before (omega (arith, hm)))))

-- ---- heights, all kinds at once

height_roll : (x : ExprKind-F ExprKind PlaceKind Expr Place) → height.expr_kind_height (roll-ExprKind x)
    ≡ height.expr_step (map-ExprKind ExprKind PlaceKind Expr Place ℕ ℕ ℕ ℕ height.expr_kind_height height.place_kind_height
    height.expr_height height.place_height x)
height_roll x = search (rules, the_lemmas)

height_place_roll : (x : PlaceKind-F ExprKind PlaceKind Expr Place) → height.place_kind_height (roll-PlaceKind x)
    ≡ height.place_step (map-PlaceKind ExprKind PlaceKind Expr Place ℕ ℕ ℕ ℕ height.expr_kind_height height.place_kind_height
    height.expr_height height.place_height x)
height_place_roll x = search (rules, the_lemmas)

-- ---- by induction

-- a height that is enough for a code
record Lows (n : ℕ) (code : Ty → ℕ → Code) : Type 0 where
  some : 1 ≤ n
  low : (ty : Ty) (node : ℕ) → Low n (code ty node)

module _ (structs : List Struct) where
  abbrev ExprClaim : ExprKind → Type 0
  ExprClaim k = Lows (height.expr_kind_height k) (c.expr_kind structs k)

  abbrev PlaceClaim : PlaceKind → Type 0
  PlaceClaim k = Lows (height.place_kind_height k) (λ ty node. (c.place_kind structs k ty node).code)

  module _ {A B C D : Type 0} (fa : A → ExprKind) (fb : B → PlaceKind) (fc : C → Expr) (fd : D → Place)
      (hc : (x : C) → ExprClaim (fc x).kind) (hd : (x : D) → PlaceClaim (fd x).kind) where
    abbrev opened : ExprKind-F A B C D → ExprKind-F ExprKind PlaceKind Expr Place
    opened y = map-ExprKind A B C D ExprKind PlaceKind Expr Place fa fb fc fd y

    abbrev opened_place : PlaceKind-F A B C D → PlaceKind-F ExprKind PlaceKind Expr Place
    opened_place y = map-PlaceKind A B C D ExprKind PlaceKind Expr Place fa fb fc fd y

    abbrev coded_layer : ExprKind-F A B C D → Ty → ℕ → Code
    coded_layer y = c.expr_layer structs (map-ExprKind ExprKind PlaceKind Expr Place c.Layer c.PlaceLayer Coded Spotted
        (c.expr_kind structs) (c.place_kind structs) (tree.coded structs) (tree.spotted structs) (opened y))

    abbrev coded_place_layer : PlaceKind-F A B C D → Ty → ℕ → Spot
    coded_place_layer y = c.place_layer structs (map-PlaceKind ExprKind PlaceKind Expr Place c.Layer c.PlaceLayer Coded Spotted
        (c.expr_kind structs) (c.place_kind structs) (tree.coded structs) (tree.spotted structs) (opened_place y))

    abbrev high : ExprKind-F A B C D → ℕ
    high y = height.expr_step (map-ExprKind ExprKind PlaceKind Expr Place ℕ ℕ ℕ ℕ height.expr_kind_height
        height.place_kind_height height.expr_height height.place_height (opened y))

    abbrev high_place : PlaceKind-F A B C D → ℕ
    high_place y = height.place_step (map-PlaceKind ExprKind PlaceKind Expr Place ℕ ℕ ℕ ℕ height.expr_kind_height
        height.place_kind_height height.expr_height height.place_height (opened_place y))

    one : (x : C) → Low (height.expr_height (fc x)) (c.expr structs (fc x))
    one x = (hc x).low (fc x).ty (fc x).node

    one_some : (x : C) → 1 ≤ height.expr_height (fc x)
    one_some x = (hc x).some

    at_place : (x : D) → Low (height.place_height (fd x)) (c.place structs (fd x)).code
    at_place x = (hd x).low (fd x).ty (fd x).node

    place_some : (x : D) → 1 ≤ height.place_height (fd x)
    place_some x = (hd x).some

    -- the second operand of `&&` and `||`
    second : (y : C) (node : ℕ)
        → Low (height.expr_height (fc y)) (c.truth_code node (int_type_of (fc y).ty) (c.expr structs (fc y)))
    second y node = l_step (height.expr_height (fc y)) (height.expr_height (fc y)) (c.expr structs (fc y)) node
        (λ d. step.Truth d (int_type_of (fc y).ty) operand.Temporary) (omega arith) (λ d. omega (arith, one_some y))
        (λ d. refl) (one y)

    -- the height of arguments of which some are there already
    abbrev args_height : ℕ → List C → ℕ
    args_height i xs = height.tallest_from i (map height.expr_height (map fc xs))

    args_some : (i : ℕ) (xs : List C) → 1 ≤ args_height i xs
    args_some i [] = omega arith
    args_some i (x ∷ xs) = omega (arith, args_some (i + 1) xs)

    args_many : (i : ℕ) (xs : List C) → i + length (map (tree.coded structs) (map fc xs)) ≤ max i (args_height i xs)
    args_many i [] = omega arith
    args_many i (x ∷ xs) = omega (arith, args_many (i + 1) xs, one_some x)

    args_low : (xs : List C) (i p d far h : ℕ) → d + args_height i xs ≤ h
        → p + (c.args_code (map (tree.coded structs) (map fc xs))).size ≤ far
        → Held h far ((c.args_code (map (tree.coded structs) (map fc xs))).steps p (d + i))
    args_low [] i p d far h a b = tt
    args_low (x ∷ xs) i p d far h a b =
        let more = c.args_code (map (tree.coded structs) (map fc xs)) in
        let q = p + (c.expr structs (fc x)).size in
        let e : d + (i + 1) ≡ d + i + 1 = omega arith in
        held_append h far ((c.expr structs (fc x)).steps p (d + i)) (more.steps q (d + i + 1))
        ((one x).held p (d + i) h far (omega (arith, a)) (omega (arith, b)))
        (subst (λ n. Held h far (more.steps q n)) e (args_low xs (i + 1) q d far h (omega (arith, a)) (omega (arith, b))))

    args_at : (xs : List C) → Low (args_height 0 xs) (c.args_code (map (tree.coded structs) (map fc xs)))
    args_at xs = record {
      held = λ p d h far a b.
          let e : d + 0 ≡ d = omega arith in
          subst (λ n. Held h far ((c.args_code (map (tree.coded structs) (map fc xs))).steps p n)) e
          (args_low xs 0 p d far h a b);
    }

    layer : (y : ExprKind-F A B C D) → Lows (high y) (coded_layer y)
    layer (ExprKind-F.Constant v) = record {
      some = omega arith;
      low = λ ty node. l_put 1 node (c.constant (is_pointer ty) v) (omega arith);
    }
    layer (ExprKind-F.Read x) = record {
      some = place_some x;
      low = λ ty node. l_step _ _ (c.place structs (fd x)).code node (λ d. step.Load d (kind_of ty)) (omega arith)
          (λ d. omega (arith, place_some x)) (λ d. refl) (at_place x);
    }
    layer (ExprKind-F.Convert x) = record {
      some = one_some x;
      low = λ ty node. l_step _ _ (c.expr structs (fc x)) node _ (omega arith) (λ d. omega (arith, one_some x)) (λ d. refl)
          (one x);
    }
    layer (ExprKind-F.Unary o x) = record {
      some = one_some x;
      low = λ ty node. l_step _ _ (c.expr structs (fc x)) node _ (omega arith) (λ d. omega (arith, one_some x)) (λ d. refl)
          (one x);
    }
    layer (ExprKind-F.Binary o t x y) = record {
      some = omega (arith, one_some x);
      low = λ ty node. l_combined _ _ _ node _ (c.expr structs (fc x)) (c.expr structs (fc y)) (omega arith) (omega arith)
          (one_some y) (one x) (one y);
    }
    layer (ExprKind-F.PointerPlus minus x y) = record {
      some = omega (arith, one_some x);
      low = λ ty node. l_combined _ _ _ node _ (c.expr structs (fc x)) (c.expr structs (fc y)) (omega arith) (omega arith)
          (one_some y) (one x) (one y);
    }
    layer (ExprKind-F.Difference x y) = record {
      some = omega (arith, one_some x);
      low = λ ty node. l_combined _ _ _ node _ (c.expr structs (fc x)) (c.expr structs (fc y)) (omega arith) (omega arith)
          (one_some y) (one x) (one y);
    }
    layer (ExprKind-F.ComparePointers o x y) = record {
      some = omega (arith, one_some x);
      low = λ ty node. l_combined _ _ _ node _ (c.expr structs (fc x)) (c.expr structs (fc y)) (omega arith) (omega arith)
          (one_some y) (one x) (one y);
    }
    layer (ExprKind-F.And x y) = record {
      some = omega (arith, one_some x);
      low = λ ty node.
          l_choice (height.expr_height (fc x)) (height.expr_height (fc y)) 1 _ node _ (c.expr structs (fc x)) _
          (c.bit node (pos 0)) (omega arith) (omega arith) (omega (arith, one_some x)) (omega (arith, one_some x)) (one x)
          (second y node)
          (l_put 1 node (operand.Constant (pos 0)) (omega arith));
    }
    layer (ExprKind-F.Or x y) = record {
      some = omega (arith, one_some x);
      low = λ ty node.
          l_choice (height.expr_height (fc x)) 1 (height.expr_height (fc y)) _ node _ (c.expr structs (fc x))
          (c.bit node (pos 1)) _ (omega arith) (omega (arith, one_some x)) (omega arith) (omega (arith, one_some x)) (one x)
          (l_put 1 node (operand.Constant (pos 1)) (omega arith)) (second y node);
    }
    layer (ExprKind-F.Conditional x y z) = record {
      some = omega (arith, one_some x);
      low = λ ty node. l_choice _ _ _ _ node _ (c.expr structs (fc x)) (c.expr structs (fc y)) (c.expr structs (fc z))
          (omega arith) (omega arith) (omega arith) (omega (arith, one_some x)) (one x) (one y) (one z);
    }
    layer (ExprKind-F.Assign p x marked) = record {
      some = omega (arith, place_some p);
      low = λ ty node. l_assign _ _ _ node (c.place structs (fd p)) (kind_of ty) marked (c.expr structs (fc x)) (omega arith)
          (omega arith) (one_some x) (at_place p) (one x);
    }
    layer (ExprKind-F.Update o t p x old marked) = record {
      some = omega (arith, place_some p);
      low = λ ty node. l_update _ _ _ node (c.place structs (fd p)) (kind_of ty) _ (c.expr structs (fc x)) old marked
          (omega arith) (omega arith) (one_some x) (at_place p) (one x);
    }
    layer (ExprKind-F.Address p) = record {
      some = place_some p;
      low = λ ty node. l_step _ _ (c.place structs (fd p)).code node step.PointTo (omega arith)
          (λ d. omega (arith, place_some p)) (λ d. refl) (at_place p);
    }
    layer (ExprKind-F.Call g xs) = record {
      some = args_some 0 xs;
      low = λ ty node.
          l_then (args_height 0 xs) (args_height 0 xs) (args_height 0 xs)
          (c.args_code (map (tree.coded structs) (map fc xs))) _ (omega arith) (omega arith) (args_at xs)
          (l_then (args_height 0 xs) (args_height 0 xs) (args_height 0 xs)
          (single node (λ d. step.Call d g (length (map (tree.coded structs) (map fc xs)))))
          (single node (λ d. step.Result d true)) (omega arith) (omega arith)
          (l_single (args_height 0 xs) node _ (λ d. omega (arith, args_many 0 xs)) (λ d. refl))
          (l_single (args_height 0 xs) node _ (λ d. omega (arith, args_some 0 xs)) (λ d. refl)));
    }
    layer (ExprKind-F.Sense channel) = record {
      some = omega arith;
      low = λ ty node. l_single 1 node _ (λ d. omega arith) (λ d. refl);
    }
    layer (ExprKind-F.Emit x) = record {
      some = one_some x;
      low = λ ty node. l_step _ _ (c.expr structs (fc x)) node _ (omega arith) (λ d. omega (arith, one_some x)) (λ d. refl)
          (one x);
    }
    layer ExprKind-F.Checkpoint = record {
      some = omega arith;
      low = λ ty node. l_single 1 node _ (λ d. omega arith) (λ d. refl);
    }
    layer (ExprKind-F.Comma x y) = record {
      some = omega (arith, one_some x);
      low = λ ty node.
          l_then (height.expr_height (fc x)) (max (height.expr_height (fc x)) (1 + height.expr_height (fc y)))
          (max (height.expr_height (fc x)) (1 + height.expr_height (fc y))) (c.expr structs (fc x)) _ (omega arith) (omega arith)
          (one x)
          (l_then 1 (height.expr_height (fc y)) (max (height.expr_height (fc x)) (1 + height.expr_height (fc y)))
          (single node step.Drop) (c.expr structs (fc y)) (omega (arith, one_some x)) (omega arith)
          (l_single 1 node step.Drop (λ d. omega arith) (λ d. refl)) (one y));
    }

    place_layer : (y : PlaceKind-F A B C D) → Lows (high_place y) (λ ty node. (coded_place_layer y ty node).code)
    place_layer (PlaceKind-F.Local n) = record {
      some = omega arith;
      low = λ ty node. l_single 1 node _ (λ d. omega arith) (λ d. refl);
    }
    place_layer (PlaceKind-F.Global n) = record {
      some = omega arith;
      low = λ ty node. l_single 1 node _ (λ d. omega arith) (λ d. refl);
    }
    place_layer (PlaceKind-F.Deref x) = record {
      some = one_some x;
      low = λ ty node. l_step _ _ (c.expr structs (fc x)) node _ (omega arith) (λ d. omega (arith, one_some x)) (λ d. refl)
          (one x);
    }
    place_layer (PlaceKind-F.Member p tag member) = record {
      some = place_some p;
      low = λ ty node. l_step _ _ (c.place structs (fd p)).code node _ (omega arith) (λ d. omega (arith, place_some p))
          (λ d. refl) (at_place p);
    }
    place_layer (PlaceKind-F.Element p x) = record {
      some = omega (arith, place_some p);
      low = λ ty node. l_both _ _ _ (c.place structs (fd p)).code (c.expr structs (fc x)) node _ (omega arith) (omega arith)
          (λ d. omega (arith, one_some x)) (λ d. refl) (at_place p) (one x);
    }
    place_layer (PlaceKind-F.At x y) = record {
      some = omega (arith, one_some x);
      low = λ ty node. l_both _ _ _ (c.expr structs (fc x)) (c.expr structs (fc y)) node _ (omega arith) (omega arith)
          (λ d. omega (arith, one_some y)) (λ d. refl) (one x) (one y);
    }

    expr_case : (y : ExprKind-F A B C D) → ExprClaim (roll-ExprKind (opened y))
    expr_case y =
        let x = opened y in
        subst (λ (n : ℕ). Lows n (c.expr_kind structs (roll-ExprKind x))) (sym (height_roll x))
        (subst (λ (g : Ty → ℕ → Code). Lows (high y) g) (sym (tree.code_roll structs x)) (layer y))

    place_case : (y : PlaceKind-F A B C D) → PlaceClaim (roll-PlaceKind (opened_place y))
    place_case y =
        let x = opened_place y in
        subst (λ (n : ℕ). Lows n (λ ty node. (c.place_kind structs (roll-PlaceKind x) ty node).code))
        (sym (height_place_roll x))
        (subst (λ (g : Ty → ℕ → Spot). Lows (high_place y) (λ ty node. (g ty node).code))
        (sym (tree.code_place_roll structs x)) (place_layer y))

  expr_lows : (k : ExprKind) → ExprClaim k
  expr_lows = ind-ExprKind ExprClaim PlaceClaim (λ e. ExprClaim e.kind) (λ p. PlaceClaim p.kind)
      (λ x y is. subst (λ z. ExprClaim (roll-ExprKind z)) is
      (expr_case (λ e. e.0) (λ e. e.0) (λ e. e.0) (λ e. e.0) (λ e. e.1) (λ e. e.1) y))
      (λ x y is. subst (λ z. PlaceClaim (roll-PlaceKind z)) is
      (place_case (λ e. e.0) (λ e. e.0) (λ e. e.0) (λ e. e.0) (λ e. e.1) (λ e. e.1) y))
      (λ x y is. subst (λ z. ExprClaim z.kind) is y.kind.1)
      (λ x y is. subst (λ z. PlaceClaim z.kind) is y.kind.1)

  -- the steps of an expression above others use its height
  pub expr_low : (e : Expr) → Low (height.expr_height e) (c.expr structs e)
  expr_low e = (expr_lows e.kind).low e.ty e.node
