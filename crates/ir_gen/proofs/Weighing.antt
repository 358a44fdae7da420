-- What steps measure, with weights of their nodes: single steps against the rows of the cost table, and lists of steps.
use Rattle.std.proofs.Common.{◌≡◌, ℕ, zero, suc, ◌+◌, ◌*◌, ◌≤◌, List, [], ◌∷◌, ◌++◌, Option, Some, None, Bool, true, false, subst, arith, cond}
use Rattle.std.specs.Prelude.{pos}
use Rattle.std.proofs.Math.Nat.{mul-le-mul_left}
use Rattle.base16.specs.declared.image.Kind.{Kind}
use Rattle.base16.specs.declared.image.Kind.TheVariants as kind
use Rattle.base16.specs.declared.integer.IntType.{IntType}
use Rattle.base16.specs.declared.integer.IntType.TheVariants as int
use Rattle.base16.specs.declared.operator.BinaryOp.{BinaryOp}
use Rattle.base16.specs.declared.operator.BinaryOp.TheVariants as op
use Rattle.base16.specs.declared.operator.UnaryOp.{UnaryOp}
use Rattle.base16.specs.declared.operator.UnaryOp.TheVariants as un
use Rattle.core_tree.specs.Costs as cost
use Rattle.ir.specs.declared.form.Operand.{Operand}
use Rattle.ir.specs.declared.form.Operand.TheVariants as operand
use Rattle.ir.specs.declared.form.Operation.{Operation}
use Rattle.ir.specs.declared.form.Keep.TheVariants as keep
use Rattle.ir.specs.declared.form.Step.{Step}
use Rattle.ir.specs.declared.form.StepKind.{StepKind}
use Rattle.ir.specs.declared.form.StepKind.TheVariants as step
use Rattle.ir.specs.Table as table
use Rattle.ir.specs.Table.{size, bring, operation_bytes, operation_helped}
use Rattle.ir_gen.specs.Code as c
use Rattle.ir_gen.specs.Code.{Code, Coded, Spot, Spotted, Part, at_node}
use Rattle.ir_gen.specs.Sizes.{weighed, helper_uses, weights}

-- ---- what single steps measure

pub bring_short : (x : Operand) → bring x ≤ 4
bring_short operand.Temporary = omega arith
bring_short (operand.Constant n) = by_bool (table.is_generated n)
  where
    by_bool : (b : Bool) → cond b 2 4 ≤ 4
    by_bool true = omega arith
    by_bool false = omega arith
bring_short operand.Null = omega arith
bring_short (operand.Scalar of offset k) = omega arith

pub place_short : (x : Operand) → table.place x ≤ 8
place_short operand.Temporary = omega arith
place_short (operand.Constant n) = omega (arith, bring_short (operand.Constant n))
place_short operand.Null = omega arith
place_short (operand.Scalar of offset k) = omega arith

pub narrow_short : (k : Kind) → table.narrow k ≤ 2
narrow_short kind.Char = omega arith
narrow_short kind.Int = omega arith
narrow_short kind.UInt = omega arith
narrow_short kind.Pointer = omega arith

pub convert_short : (t : IntType) → table.convert_bytes t operand.Temporary ≤ 12
convert_short int.Char = omega arith
convert_short int.Int = omega arith
convert_short int.UInt = omega arith

pub unary_short : (o : UnaryOp) → table.unary_step o operand.Temporary ≤ cost.unary_row o
unary_short un.Plus = omega arith
unary_short un.Minus = omega arith
unary_short un.Complement = omega arith
unary_short un.Not = omega arith

pub binary_short : (o : BinaryOp) → 16 + table.operator_bytes o ≤ cost.binary_row o
binary_short op.Add = omega arith
binary_short op.Sub = omega arith
binary_short op.Mul = omega arith
binary_short op.Div = omega arith
binary_short op.Rem = omega arith
binary_short op.Shl = omega arith
binary_short op.Shr = omega arith
binary_short op.Less = omega arith
binary_short op.Greater = omega arith
binary_short op.LessEq = omega arith
binary_short op.GreaterEq = omega arith
binary_short op.Equal = omega arith
binary_short op.NotEqual = omega arith
binary_short op.And = omega arith
binary_short op.Xor = omega arith
binary_short op.Or = omega arith

pub update_short : (o : BinaryOp) (t : Option IntType) (own : IntType) (bytes : ℕ)
    → 16 + operation_bytes (c.update_operation o t own bytes) ≤ cost.operator_row o t
update_short o None own bytes = omega arith
update_short o (Some t) own bytes = binary_short o

pub once : (b : Bool) → cond b 1 0 ≤ 1
once true = omega arith
once false = omega arith

pub dist : (a b n : ℕ) → n * (a + b) ≡ n * a + n * b
dist a b zero = omega arith
dist a b (suc n) = omega (arith, dist a b n)

pub own_two : (n x y t : ℕ) → x + y ≤ t → n * x + n * y ≤ n * t
own_two n x y t h = subst (λ z. z ≤ n * t) (dist x y n) (mul-le-mul_left n h)

own_three : (n x y z t : ℕ) → x + (y + z) ≤ t → n * x + (n * y + n * z) ≤ n * t
own_three n x y z t h = subst (λ m. n * x + m ≤ n * t) (dist y z n) (own_two n x (y + z) t h)

sum_stored : (n x y z t a b : ℕ) → x + (y + z) ≤ t → a + (n * x + (b + (n * y + (n * z + 0)))) ≤ n * t + (a + (b + 0))
sum_stored n x y z t a b h = omega (arith, own_three n x y z t h)

sum_local : (n x y z t a b : ℕ) → x + (y + z) ≤ t → n * x + (b + (n * y + (n * z + 0))) ≤ n * t + (a + (b + 0))
sum_local n x y z t a b h = omega (arith, own_three n x y z t h)

sum_call : (n len a : ℕ) → a + (n * 10 + (n * 4 + 0)) ≤ n * (24 + 12 * len) + a
sum_call n len a = let h : 10 + 4 ≤ 24 + 12 * len = omega arith in omega (arith, own_two n 10 4 (24 + 12 * len) h)

sum_none : (n t a b : ℕ) → 0 ≤ n * t + (a + (b + 0))
sum_none n t a b = omega arith

module _ (w : ℕ → ℕ) where
  -- steps of so many bytes and so many uses of helper routines at most
  pub record Within (ss : List Step) (bytes helped : ℕ) : Type 0 where
    pub bytes_in : weighed size w ss ≤ bytes
    pub helped_in : weighed helper_uses w ss ≤ helped

  append_weighed : (measure : StepKind → ℕ) (xs ys : List Step) → weighed measure w (xs ++ ys)
      ≡ weighed measure w xs + weighed measure w ys
  append_weighed measure [] ys = omega arith
  append_weighed measure (x ∷ xs) ys = omega (arith, append_weighed measure xs ys)

  pub weights_both : (xs ys : List ℕ) → weights w (xs ++ ys) ≡ weights w xs + weights w ys
  weights_both [] ys = omega arith
  weights_both (x ∷ xs) ys = omega (arith, weights_both xs ys)

  pub w_none : Within [] 0 0
  w_none = record { bytes_in = omega arith; helped_in = omega arith }

  pub w_cons : (node : ℕ) (k : StepKind) (n m : ℕ) (ss : List Step) (a b : ℕ) → size k ≤ n → helper_uses k ≤ m → Within ss a b
      → Within (at_node node k ∷ ss) (w node * n + a) (w node * m + b)
  w_cons node k n m ss a b hn hm h = record {
    bytes_in = omega (arith, mul-le-mul_left (w node) hn, h.bytes_in);
    helped_in = omega (arith, mul-le-mul_left (w node) hm, h.helped_in);
  }

  pub w_append : (xs ys : List Step) (a b e f : ℕ) → Within xs a b → Within ys e f → Within (xs ++ ys) (a + e) (b + f)
  w_append xs ys a b e f hx hy = record {
    bytes_in = omega (arith, append_weighed size xs ys, hx.bytes_in, hy.bytes_in);
    helped_in = omega (arith, append_weighed helper_uses xs ys, hx.helped_in, hy.helped_in);
  }

  pub w_more : (ss : List Step) (a b e f : ℕ) → a ≤ e → b ≤ f → Within ss a b → Within ss e f
  w_more ss a b e f ha hb h = record { bytes_in = omega (arith, h.bytes_in, ha); helped_in = omega (arith, h.helped_in, hb) }

  -- one step of a node
  pub w_one : (node : ℕ) (k : StepKind) (row : ℕ) → size k ≤ row → helper_uses k ≤ 1
      → Within (at_node node k ∷ []) (w node * row + 0) (w node + 0)
  w_one node k row hn hm = w_more _ _ _ _ _ (omega arith) (omega arith) (w_cons node k row 1 [] 0 0 hn hm w_none)

  -- a part, and a step of the node
  pub w_step : (xs : List Step) (node : ℕ) (k : StepKind) (row a : ℕ) (ns : List ℕ) → size k ≤ row → helper_uses k ≤ 1
      → Within xs a (weights w ns)
      → Within (xs ++ at_node node k ∷ []) (w node * row + (a + 0)) (w node + weights w ns)
  w_step xs node k row a ns hn hm h = w_more _ _ _ _ _ (omega arith) (omega arith)
      (w_append xs _ _ _ _ _ h (w_one node k row hn hm))

  pub w_both : (xs ys : List Step) (node : ℕ) (k : StepKind) (row a b : ℕ) (ns ms : List ℕ) → size k ≤ row → helper_uses k ≤ 1
      → Within xs a (weights w ns) → Within ys b (weights w ms)
      → Within (xs ++ (ys ++ at_node node k ∷ [])) (w node * row + (a + (b + 0))) (w node + weights w (ns ++ ms))
  w_both xs ys node k row a b ns ms hn hm hx hy =
      w_more _ _ _ _ _ (omega arith) (omega (arith, weights_both ns ms))
      (w_append xs _ _ _ _ _ hx (w_append ys _ _ _ _ _ hy (w_one node k row hn hm)))

  pub w_assign : (node : ℕ) (s : Spot) (k : Kind) (marked : Bool) (v : Code) (a b : ℕ) (ns ms : List ℕ)
      → ((p d : ℕ) → Within (s.code.steps p d) a (weights w ns)) → ((p d : ℕ) → Within (v.steps p d) b (weights w ms))
      → (p d : ℕ)
      → Within ((c.assign_code node s k marked v).steps p d) (w node * cost.store_row marked + (a + (b + 0)))
      (w node + weights w (ns ++ ms))
  w_assign node s k true v a b ns ms hs hv p d =
      w_both _ _ node (c.store_step k keep.Stored d) 28 a b ns ms (omega (arith, narrow_short k)) (omega arith) (hs p d)
      (hv (p + s.code.size) (d + 1))
  w_assign node s k false v a b ns ms hs hv p d = by_part s.part
    where
      by_part : (q : Option Part) → Within (v.steps p d ++ (c.store_local node q k keep.Stored).steps (p + v.size) d)
          (w node * 16 + (a + (b + 0))) (w node + weights w (ns ++ ms))
      by_part None = w_more _ _ _ _ _ (omega arith) (omega (arith, weights_both ns ms))
          (w_append (v.steps p d) _ _ _ _ _ (hv p d) w_none)
      by_part (Some q) = w_more _ _ _ _ _ (omega arith) (omega (arith, weights_both ns ms))
          (w_append (v.steps p d) _ _ _ _ _ (hv p d)
          (w_one node (step.StoreLocal d q.local q.offset k operand.Temporary keep.Stored) 16
          (omega (arith, narrow_short k)) (omega arith)))

  pub w_update : (node : ℕ) (s : Spot) (k : Kind) (o : Operation) (row : ℕ) (v : Code) (old marked : Bool) (a b : ℕ)
      (ns ms : List ℕ) → 16 + operation_bytes o ≤ row
      → ((p d : ℕ) → Within (s.code.steps p d) a (weights w ns)) → ((p d : ℕ) → Within (v.steps p d) b (weights w ms))
      → (p d : ℕ)
      → Within ((c.update_code node s k o v old marked).steps p d) (w node * (24 + cost.store_row marked + row) + (a + (b + 0)))
      (w node + weights w (ns ++ ms))
  w_update node s k o row v false true a b ns ms hr hs hv p d =
      w_more _ _ _ _ _ (sum_stored (w node) 10 (12 + operation_bytes o) 18 (24 + 28 + row) a b fits)
      (omega (arith, weights_both ns ms))
      (w_append (s.code.steps p d) _ _ _ _ _ (hs p d)
      (w_cons node (step.Peek d k) 10 0 _ _ _ (omega arith) (omega arith)
      (w_append (v.steps (p + s.code.size + 1) (d + 2)) _ _ _ _ _ (hv (p + s.code.size + 1) (d + 2))
      (w_cons node (step.Binary (d + 1) o operand.Temporary operand.Temporary) (12 + operation_bytes o) 1 _ _ _
      (omega arith) (once (operation_helped o))
      (w_cons node (c.store_step k keep.Stored d) 18 0 [] 0 0 (omega (arith, narrow_short k))
      (omega arith) w_none)))))
    where
      fits : 10 + ((12 + operation_bytes o) + 18) ≤ 24 + 28 + row
      fits = omega (arith, hr)
  w_update node s k o row v true true a b ns ms hr hs hv p d =
      w_more _ _ _ _ _ (sum_stored (w node) 10 (12 + operation_bytes o) 20 (24 + 28 + row) a b fits)
      (omega (arith, weights_both ns ms))
      (w_append (s.code.steps p d) _ _ _ _ _ (hs p d)
      (w_cons node (step.Peek d k) 10 0 _ _ _ (omega arith) (omega arith)
      (w_append (v.steps (p + s.code.size + 1) (d + 2)) _ _ _ _ _ (hv (p + s.code.size + 1) (d + 2))
      (w_cons node (step.Beside (d + 1) o) (12 + operation_bytes o) 1 _ _ _
      (omega arith) (once (operation_helped o))
      (w_cons node (c.store_step k keep.Before d) 20 0 [] 0 0 (omega arith) (omega arith) w_none)))))
    where
      fits : 10 + ((12 + operation_bytes o) + 20) ≤ 24 + 28 + row
      fits = omega (arith, hr)
  w_update node s k o row v false false a b ns ms hr hs hv p d = by_part s.part
    where
      fits : 8 + ((12 + operation_bytes o) + 14) ≤ 24 + 16 + row
      fits = omega (arith, hr)

      by_part : (q : Option Part) → Within ((c.update_local node q k o v false).steps p d)
          (w node * (24 + 16 + row) + (a + (b + 0))) (w node + weights w (ns ++ ms))
      by_part None = w_more _ _ _ _ _ (sum_none (w node) (24 + 16 + row) a b) (omega arith) w_none
      by_part (Some q) =
          w_more _ _ _ _ _ (sum_local (w node) 8 (12 + operation_bytes o) 14 (24 + 16 + row) a b fits)
          (omega (arith, weights_both ns ms))
          (w_cons node (step.Put d (c.scalar_of q k)) 8 0 _ _ _ (omega arith) (omega arith)
          (w_append (v.steps (p + 1) (d + 1)) _ _ _ _ _ (hv (p + 1) (d + 1))
          (w_cons node (step.Binary d o operand.Temporary operand.Temporary) (12 + operation_bytes o) 1 _ _ _
          (omega arith) (once (operation_helped o))
          (w_cons node (step.StoreLocal d q.local q.offset k operand.Temporary keep.Stored) 14 0 [] 0 0
          (omega (arith, narrow_short k)) (omega arith) w_none))))
  w_update node s k o row v true false a b ns ms hr hs hv p d = by_part s.part
    where
      fits : 8 + ((12 + operation_bytes o) + 16) ≤ 24 + 16 + row
      fits = omega (arith, hr)

      by_part : (q : Option Part) → Within ((c.update_local node q k o v true).steps p d)
          (w node * (24 + 16 + row) + (a + (b + 0))) (w node + weights w (ns ++ ms))
      by_part None = w_more _ _ _ _ _ (sum_none (w node) (24 + 16 + row) a b) (omega arith) w_none
      by_part (Some q) =
          w_more _ _ _ _ _ (sum_local (w node) 8 (12 + operation_bytes o) 16 (24 + 16 + row) a b fits)
          (omega (arith, weights_both ns ms))
          (w_cons node (step.Put d (c.scalar_of q k)) 8 0 _ _ _ (omega arith) (omega arith)
          (w_append (v.steps (p + 1) (d + 1)) _ _ _ _ _ (hv (p + 1) (d + 1))
          (w_cons node (step.Beside d o) (12 + operation_bytes o) 1 _ _ _
          (omega arith) (once (operation_helped o))
          (w_cons node (step.StoreLocal d q.local q.offset k operand.Temporary keep.Before) 16 0 [] 0 0 (omega arith)
          (omega arith) w_none))))

  -- ---- shapes of expressions

  pub w_and : (node d e f : ℕ) (t u : IntType) (xs ys : List Step) (a b : ℕ) (ns ms : List ℕ) → Within xs a (weights w ns)
      → Within ys b (weights w ms)
      → Within (xs ++ (at_node node (c.unless t e d)
      ∷ ((ys ++ at_node node (step.Truth d u operand.Temporary) ∷ [])
      ++ (at_node node (step.Jump f) ∷ (at_node node (step.Put d (operand.Constant (pos 0))) ∷ [])))))
      (w node * 40 + (a + (b + 0))) (w node + weights w (ns ++ ms))
  w_and node d e f t u xs ys a b ns ms hx hy =
      w_more _ _ _ _ _ (omega arith) (omega (arith, weights_both ns ms))
      (w_append xs _ _ _ _ _ hx (w_cons node (c.unless t e d) 12 0 _ _ _ (omega arith) (omega arith)
      (w_append (ys ++ at_node node (step.Truth d u operand.Temporary) ∷ []) _ _ _ _ _
      (w_append ys _ _ _ _ _ hy (w_cons node (step.Truth d u operand.Temporary) 16 0 [] 0 0 (omega arith)
      (omega arith) w_none))
      (w_cons node (step.Jump f) 4 0 _ _ _ (omega arith) (omega arith)
      (w_cons node (step.Put d (operand.Constant (pos 0))) 8 0 [] 0 0 (place_short (operand.Constant (pos 0)))
      (omega arith) w_none)))))

  pub w_or : (node d e f : ℕ) (t u : IntType) (xs ys : List Step) (a b : ℕ) (ns ms : List ℕ) → Within xs a (weights w ns)
      → Within ys b (weights w ms)
      → Within (xs ++ (at_node node (c.unless t e d)
      ∷ (at_node node (step.Put d (operand.Constant (pos 1)))
      ∷ (at_node node (step.Jump f) ∷ (ys ++ at_node node (step.Truth d u operand.Temporary) ∷ [])))))
      (w node * 40 + (a + (b + 0))) (w node + weights w (ns ++ ms))
  w_or node d e f t u xs ys a b ns ms hx hy =
      w_more _ _ _ _ _ (omega arith) (omega (arith, weights_both ns ms))
      (w_append xs _ _ _ _ _ hx (w_cons node (c.unless t e d) 12 0 _ _ _ (omega arith) (omega arith)
      (w_cons node (step.Put d (operand.Constant (pos 1))) 8 0 _ _ _ (place_short (operand.Constant (pos 1))) (omega arith)
      (w_cons node (step.Jump f) 4 0 _ _ _ (omega arith) (omega arith)
      (w_append ys _ _ _ _ _ hy (w_cons node (step.Truth d u operand.Temporary) 16 0 [] 0 0 (omega arith)
      (omega arith) w_none))))))

  pub w_conditional : (node d e f : ℕ) (t : IntType) (xs ys zs : List Step) (a b g : ℕ) (ns ms os : List ℕ)
      → Within xs a (weights w ns) → Within ys b (weights w ms) → Within zs g (weights w os)
      → Within (xs ++ (at_node node (c.unless t e d) ∷ (ys ++ (at_node node (step.Jump f) ∷ zs))))
      (w node * 40 + (a + (b + (g + 0)))) (w node + weights w (ns ++ ms ++ os))
  w_conditional node d e f t xs ys zs a b g ns ms os hx hy hz =
      w_more _ _ _ _ _ (omega arith) (omega (arith, weights_both (ns ++ ms) os, weights_both ns ms))
      (w_append xs _ _ _ _ _ hx (w_cons node (c.unless t e d) 12 0 _ _ _ (omega arith) (omega arith)
      (w_append ys _ _ _ _ _ hy (w_cons node (step.Jump f) 4 0 zs _ _ (omega arith) (omega arith) hz))))

  pub w_comma : (node d : ℕ) (xs ys : List Step) (a b : ℕ) (ns ms : List ℕ) → Within xs a (weights w ns)
      → Within ys b (weights w ms)
      → Within (xs ++ (at_node node (step.Drop d) ∷ ys)) (w node * 0 + (a + (b + 0))) (w node + weights w (ns ++ ms))
  w_comma node d xs ys a b ns ms hx hy =
      w_more _ _ _ _ _ (omega arith) (omega (arith, weights_both ns ms))
      (w_append xs _ _ _ _ _ hx (w_cons node (step.Drop d) 0 0 ys _ _ (omega arith) (omega arith) hy))

  pub w_call : (node d g n len : ℕ) (xs : List Step) (a : ℕ) (ns : List ℕ) → Within xs a (weights w ns)
      → Within (xs ++ (at_node node (step.Call d g n) ∷ (at_node node (step.Result d true) ∷ [])))
      (w node * (24 + 12 * len) + a) (w node + weights w ns)
  w_call node d g n len xs a ns hx =
      w_more _ _ _ _ _ (sum_call (w node) len a) (omega arith)
      (w_append xs _ _ _ _ _ hx (w_cons node (step.Call d g n) 10 0 _ _ _ (omega arith) (omega arith)
      (w_cons node (step.Result d true) 4 0 [] 0 0 (omega arith) (omega arith) w_none)))

  pub w_more_args : (xs ys : List Step) (a b : ℕ) (ns ms : List ℕ) → Within xs a (weights w ns) → Within ys b (weights w ms)
      → Within (xs ++ ys) (a + b) (weights w (ns ++ ms))
  w_more_args xs ys a b ns ms hx hy = w_more _ _ _ _ _ (omega arith) (omega (arith, weights_both ns ms))
      (w_append xs ys _ _ _ _ hx hy)

  pub w_combined : (node d : ℕ) (o : Operation) (row : ℕ) (xs ys : List Step) (a b : ℕ) (ns ms : List ℕ)
      → 16 + operation_bytes o ≤ row → Within xs a (weights w ns) → Within ys b (weights w ms)
      → Within (xs ++ (ys ++ at_node node (step.Binary d o operand.Temporary operand.Temporary) ∷ []))
      (w node * row + (a + (b + 0))) (w node + weights w (ns ++ ms))
  w_combined node d o row xs ys a b ns ms h hx hy =
      w_both xs ys node (step.Binary d o operand.Temporary operand.Temporary) row a b ns ms (omega (arith, h))
      (once (operation_helped o)) hx hy

  pub w_put : (node d : ℕ) (x : Operand) → Within (at_node node (step.Put d x) ∷ []) (w node * 12 + 0) (w node + 0)
  w_put node d x = w_one node (step.Put d x) 12 (omega (arith, place_short x)) (omega arith)
