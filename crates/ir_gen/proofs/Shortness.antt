-- A run does little between two marks: its steps there are distinct, so they cost no more than all steps do.
use Rattle.std.proofs.Common.{◌≡◌, ℕ, zero, suc, ◌+◌, ◌*◌, ◌<◌, ◌≤◌, ◌⊎◌, inl, inr, List, [], ◌∷◌, length, map, Option, Some, None, Bool, true, false, ◌&&◌, cond, nat_eq, refl, sym, ap, ap₂, ◌∙◌, subst, arith, eq-or-lt_of_le}
use Rattle.std.proofs.lemmas.Bool.Decides.{nat_tests}
use Rattle.std.proofs.lemmas.Option.{slice_get-map}
use Rattle.std.specs.Prelude.{slice_get, option_map}
use Rattle.base16.specs.declared.image.Kind.{Kind}
use Rattle.base16.specs.declared.integer.IntType.{IntType}
use Rattle.base16.specs.declared.integer.IntType.TheVariants as int
use Rattle.base16.specs.declared.operator.UnaryOp.{UnaryOp}
use Rattle.base16.specs.declared.operator.UnaryOp.TheVariants as un
use Rattle.base16.specs.declared.reading.Reading.{Reading}
use Rattle.core_tree.specs.Nodes.{total, function_nodes, nodes}
use Rattle.core_tree.specs.LawfulCore.{Every, IsFunction, LawfulCore, text_of}
use Rattle.core_tree.specs.declared.program.Core.{Core}
use Rattle.core_tree.specs.declared.program.Function.{Function}
use Rattle.core_tree.specs.declared.statements.Stmt.{Stmt}
use Rattle.c_run.specs.Runs.{Run, Outcome, Went, Stopped, Action}
use Rattle.c_meaning.specs.After as after
use Rattle.ir.specs.declared.form.Ir.{Ir}
use Rattle.ir.specs.declared.form.IrFunction.{IrFunction}
use Rattle.ir.specs.declared.form.Step.{Step}
use Rattle.ir.specs.declared.form.StepKind.{StepKind}
use Rattle.ir.specs.declared.form.StepKind.TheVariants as step
use Rattle.ir.specs.declared.form.Base.{Base}
use Rattle.ir.specs.declared.form.Base.TheVariants as base
use Rattle.ir.specs.declared.form.Operand.{Operand}
use Rattle.ir.specs.declared.form.Operation.{Operation}
use Rattle.ir.specs.declared.form.Operation.TheVariants as operation
use Rattle.ir.specs.declared.form.Target.{Target}
use Rattle.ir.specs.declared.form.Target.TheVariants as target
use Rattle.ir.specs.declared.form.Test.{Test}
use Rattle.ir.specs.declared.form.Test.TheVariants as test
use Rattle.ir.specs.declared.form.Keep.{Keep}
use Rattle.ir.specs.declared.form.Keep.TheVariants as keep
use Rattle.ir.specs.declared.control.Control.{Control}
use Rattle.ir.specs.declared.control.Control.TheVariants.{At, Calling, Returning}
use Rattle.ir.specs.Machine as m
use Rattle.ir.specs.Table.{is_comparison, address_bytes, target_bytes, operator_bytes, operation_helped, convert_bytes, unary_step, keep_bytes, flag_bytes, test_bytes, test_helped, uses_helper}
use Rattle.ir.specs.Between.{Site, site_of, Reaches, begun, no_mark, a_mark, Absent, Distinct}
use Rattle.ir.proofs.Advance.{Advance, halted, on, marked, store_only_marks}
use Rattle.ir.proofs.Leading.{same_number}
use Rattle.ir_gen.specs.Body.{function_steps}
use Rattle.ir_gen.specs.Form.{function_of}
use Rattle.ir_gen.specs.Names.{HasNames, AllNamed}
use Rattle.ir_gen.specs.Short.{cost, cost_of, cost_in, cost_at, costs}
use Rattle.ir_gen.proofs.Weighing.{bring_short, place_short, narrow_short, once}
use Rattle.ir_gen.proofs.Costing.{counted, all_counted, operator_short, operation_short}
use Rattle.ir_gen.proofs.StmtCosting.{spare, function_cost, empty_cost}

-- ---- sums of numbers from 0 on

row : (ℕ → ℕ) → ℕ → ℕ
row w zero = 0
row w (suc n) = w n + row w n

row_more : (v w : ℕ → ℕ) (n : ℕ) → ((p : ℕ) → v p ≤ w p) → row v n ≤ row w n
unfolding row
row_more v w zero h = omega arith
row_more v w (suc n) h = omega (arith, h n, row_more v w n h)

row_less : (v w : ℕ → ℕ) (n x c : ℕ) → ((p : ℕ) → v p ≤ w p) → x < n → v x + c ≤ w x → c + row v n ≤ row w n
unfolding row
row_less v w zero x c h lt g = omega (arith, lt)
row_less v w (suc n) x c h lt g =
    let near : x ≤ n = omega (arith, lt) in
    at_last (eq-or-lt_of_le near) (λ less. row_less v w n x c h less g)
  where
    at_last : (x ≡ n) ⊎ (x < n) → (x < n → c + row v n ≤ row w n) → c + (v n + row v n) ≤ w n + row w n
    at_last (inl e) deeper =
        let here : v n + c ≤ w n = subst (λ (i : ℕ). v i + c ≤ w i) e g in
        omega (arith, here, row_more v w n h)
    at_last (inr less) deeper = omega (arith, h n, deeper less)

row_shift : (w : ℕ → ℕ) (n : ℕ) → row w (suc n) ≡ w 0 + row (λ p. w (suc p)) n
unfolding row
row_shift w zero = refl
row_shift w (suc n) = omega (arith, row_shift w n)

-- ---- distinct places of a table

abbrev all_rows : (ℕ → ℕ → ℕ) → (ℕ → ℕ) → ℕ → ℕ
all_rows w L F = row (λ f. row (w f) (L f)) F

abbrev sum : (ℕ → ℕ → ℕ) → List Site → ℕ
sum w [] = 0
sum w (s ∷ ss) = w s.function s.position + sum w ss

zeroed : (ℕ → ℕ → ℕ) → Site → ℕ → ℕ → ℕ
zeroed w s f p = cond (nat_eq f s.function && nat_eq p s.position) 0 (w f p)

zeroed_less : (w : ℕ → ℕ → ℕ) (s : Site) (f p : ℕ) → zeroed w s f p ≤ w f p
unfolding zeroed
zeroed_less w s f p = by_bool (nat_eq f s.function && nat_eq p s.position)
  where
    by_bool : (b : Bool) → cond b 0 (w f p) ≤ w f p
    by_bool true = omega arith
    by_bool false = omega arith

zeroed_at : (w : ℕ → ℕ → ℕ) (s : Site) → zeroed w s s.function s.position ≡ 0
unfolding zeroed
zeroed_at w s =
    ap₂ (λ (a b : Bool). cond (a && b) 0 (w s.function s.position)) (same_number s.function) (same_number s.position)

both_same : (a b c d : ℕ) → (nat_eq a c && nat_eq b d) ≡ true → (a ≡ c) × (b ≡ d)
both_same a b c d e = (grind (arith, nat_tests, e), grind (arith, nat_tests, e))

site_is : (s t : Site) → t.function ≡ s.function → t.position ≡ s.position → s ≡ t
site_is s t e g = ap₂ (λ (f p : ℕ). record { function = f; position = p }) (sym e) (sym g)

zeroed_other : (w : ℕ → ℕ → ℕ) (s t : Site) → (s ≡ t → ⊥) → zeroed w s t.function t.position ≡ w t.function t.position
unfolding zeroed
zeroed_other w s t apart = by_bool (nat_eq t.function s.function && nat_eq t.position s.position) refl
  where
    by_bool : (b : Bool) → (nat_eq t.function s.function && nat_eq t.position s.position) ≡ b
        → cond b 0 (w t.function t.position) ≡ w t.function t.position
    by_bool false e = refl
    by_bool true e =
        let h = both_same t.function t.position s.function s.position e in absurd (apart (site_is s t h.0 h.1))

sum_other : (w : ℕ → ℕ → ℕ) (s : Site) (ss : List Site) → Absent s ss → sum (zeroed w s) ss ≡ sum w ss
sum_other w s [] h = refl
sum_other w s (t ∷ ts) h = omega (arith, zeroed_other w s t h.0, sum_other w s ts h.1)

abbrev Inside : (ℕ → ℕ → ℕ) → (ℕ → ℕ) → ℕ → Type 0
Inside w L F = (f p : ℕ) → (w f p ≡ 0) ⊎ ((f < F) × (p < L f))

removed : (w : ℕ → ℕ → ℕ) (L : ℕ → ℕ) (F : ℕ) (s : Site)
    → (w s.function s.position ≡ 0) ⊎ ((s.function < F) × (s.position < L s.function))
    → w s.function s.position + all_rows (zeroed w s) L F ≤ all_rows w L F
removed w L F s (inl none) =
    let less = row_more (λ f. row (zeroed w s f) (L f)) (λ f. row (w f) (L f)) F
    (λ f. row_more (zeroed w s f) (w f) (L f) (zeroed_less w s f)) in
    omega (arith, none, less)
removed w L F s (inr within) =
    let own : zeroed w s s.function s.position + w s.function s.position ≤ w s.function s.position
    = omega (arith, zeroed_at w s) in
    let inner = row_less (zeroed w s s.function) (w s.function) (L s.function) s.position (w s.function s.position)
    (zeroed_less w s s.function) within.1 own in
    row_less (λ f. row (zeroed w s f) (L f)) (λ f. row (w f) (L f)) F s.function (w s.function s.position)
    (λ f. row_more (zeroed w s f) (w f) (L f) (zeroed_less w s f)) within.0 (omega (arith, inner))

still_inside : (w : ℕ → ℕ → ℕ) (L : ℕ → ℕ) (F : ℕ) (s : Site) → Inside w L F → Inside (zeroed w s) L F
still_inside w L F s i = λ f p. by_case f p (i f p)
  where
    by_case : (f p : ℕ) → (w f p ≡ 0) ⊎ ((f < F) × (p < L f)) → (zeroed w s f p ≡ 0) ⊎ ((f < F) × (p < L f))
    by_case f p (inl e) = inl (omega (arith, zeroed_less w s f p, e))
    by_case f p (inr h) = inr h

distinct_sum : (w : ℕ → ℕ → ℕ) (L : ℕ → ℕ) (F : ℕ) (ss : List Site) → Distinct ss → Inside w L F → sum w ss ≤ all_rows w L F
distinct_sum w L F [] h i = omega arith
distinct_sum w L F (s ∷ ss) h i = omega (
  arith,
  distinct_sum (zeroed w s) L F ss h.1 (still_inside w L F s i),
  sum_other w s ss h.0,
  removed w L F s (i s.function s.position),
)

-- ---- the table of a form

abbrev counted_of : Option Step → ℕ
counted_of None = 0
counted_of (Some s) = counted s.kind

abbrev counted_in : Option IrFunction → ℕ → ℕ
counted_in None p = 0
counted_in (Some fn) p = counted_of (slice_get fn.steps p)

abbrev length_in : Option IrFunction → ℕ
length_in None = 0
length_in (Some fn) = length fn.steps

abbrev all_functions : List IrFunction → ℕ
all_functions [] = 0
all_functions (fn ∷ fs) = all_counted fn.steps + all_functions fs

steps_row : (ss : List Step) → row (λ p. counted_of (slice_get ss p)) (length ss) ≡ all_counted ss
unfolding row
steps_row [] = refl
steps_row (s ∷ ss) = row_shift (λ p. counted_of (slice_get (s ∷ ss) p)) (length ss)
    ∙ ap (λ n. counted s.kind + n) (steps_row ss)

functions_row : (fs : List IrFunction)
    → all_rows (λ f p. counted_in (slice_get fs f) p) (λ f. length_in (slice_get fs f)) (length fs) ≡ all_functions fs
unfolding row
functions_row [] = refl
functions_row (fn ∷ fs) =
    row_shift (λ f. row (λ p. counted_in (slice_get (fn ∷ fs) f) p) (length_in (slice_get (fn ∷ fs) f))) (length fs)
    ∙ ap₂ (λ (a b : ℕ). a + b) (steps_row fn.steps) (functions_row fs)

within : {A : Type 0} (xs : List A) (n : ℕ) (x : A) → slice_get xs n ≡ Some x → n < length xs
within [] n x e = absurd (grind (arith, e))
within (y ∷ xs) zero x e = omega arith
within (y ∷ xs) (suc n) x e = omega (arith, within xs n x e)

table_inside : (fs : List IrFunction)
    → Inside (λ f p. counted_in (slice_get fs f) p) (λ f. length_in (slice_get fs f)) (length fs)
table_inside fs = λ f p. by_function f p (slice_get fs f) refl
  where
    by_step : (f p : ℕ) (fn : IrFunction) → f < length fs → (o : Option Step) → slice_get fn.steps p ≡ o
        → (counted_of o ≡ 0) ⊎ ((f < length fs) × (p < length fn.steps))
    by_step f p fn lt None e = inl refl
    by_step f p fn lt (Some s) e = inr (lt, within fn.steps p s e)

    by_function : (f p : ℕ) (o : Option IrFunction) → slice_get fs f ≡ o
        → (counted_in o p ≡ 0) ⊎ ((f < length fs) × (p < length_in o))
    by_function f p None e = inl refl
    by_function f p (Some fn) e = by_step f p fn (within fs f fn e) (slice_get fn.steps p) refl

-- ---- a step that makes no mark is counted in full, and one that makes a mark nearly so

cost_near : (k : StepKind) → cost k ≤ counted k + 22
cost_near (step.Store d (target.Known (base.Local n) offset) k x keep.Nothing) = omega (arith, bring_short x)
cost_near (step.Store d (target.Known (base.Local n) offset) k x keep.Stored) = omega (arith, bring_short x, narrow_short k)
cost_near (step.Store d (target.Known (base.Local n) offset) k x keep.Before) = omega (arith, bring_short x)
cost_near (step.Store d (target.Known (base.Global n) offset) k x keep.Nothing) = omega (arith, bring_short x)
cost_near (step.Store d (target.Known (base.Global n) offset) k x keep.Stored) = omega (arith, bring_short x, narrow_short k)
cost_near (step.Store d (target.Known (base.Global n) offset) k x keep.Before) = omega (arith, bring_short x)
cost_near k = omega arith

abbrev left_of : Outcome Control → ℕ
left_of (Went c r) = r.left
left_of (Stopped s) = 0

no_rest : {M : Control → Type 0} {left : ℕ} (o : Outcome Control) (d : Control) (q : Run) → Advance (λ c. ⊥) M left o
    → o ≡ Went d q → q.left ≡ left → ⊥
no_rest (Stopped s) d q halted e l = grind (arith, e)
no_rest (Went c r) d q (on same none) e l = none
no_rest (Went c r) d q (marked same there) e l = let g = ap left_of e in omega (arith, g, same, l)

module _ (ir : Ir) (rs : List Reading) where
  near_in : (o : Option IrFunction) (p : ℕ) → cost_in o p ≤ counted_in o p + 22
  near_in None p = omega arith
  near_in (Some fn) p = by_step (slice_get fn.steps p)
    where
      by_step : (o : Option Step) → cost_of o ≤ counted_of o + 22
      by_step None = omega arith
      by_step (Some s) = cost_near s.kind

  -- by the step that is found at a place
  found_step : (f p : ℕ) (go : IrFunction → Step → Action Control) (r : Run) (d : Control) (q : Run)
      → m.step_in ir rs f p go r ≡ Went d q
      → ((fn : IrFunction) (s : Step) → go fn s r ≡ Went d q → cost s.kind ≤ counted s.kind)
      → cost_in (slice_get ir.functions f) p ≤ counted_in (slice_get ir.functions f) p
  unfolding m.step_in m.found
  found_step f p go r d q e h = by_function (slice_get ir.functions f) e
    where
      by_step : (fn : IrFunction) (o : Option Step) → m.found o (go fn) r ≡ Went d q → cost_of o ≤ counted_of o
      by_step fn None e = omega arith
      by_step fn (Some s) e = h fn s e

      by_function : (o : Option IrFunction) → m.found o (λ fn. m.found (slice_get fn.steps p) (go fn)) r ≡ Went d q
          → cost_in o p ≤ counted_in o p
      by_function None e = omega arith
      by_function (Some fn) e = by_step fn (slice_get fn.steps p) e

  quiet : (c : Control) (r : Run) (d : Control) (q : Run) → m.one_step ir rs c r ≡ Went d q → q.left ≡ r.left
      → cost_in (slice_get ir.functions (site_of c).function) (site_of c).position
      ≤ counted_in (slice_get ir.functions (site_of c).function) (site_of c).position
  quiet (At f p first ts below) r d q e l = found_step f p _ r d q e (λ fn s h. by_kind s.node s.kind h)
    where
      by_kind : (node : ℕ) (k : StepKind) → m.act ir rs node k f p first ts below r ≡ Went d q → cost k ≤ counted k
      by_kind node (step.Store n (target.Known of offset) k x keeps) h = absurd (no_rest _ d q
          (store_only_marks ir rs node n (target.Known of offset) k x keeps f p first ts below r) h l)
      by_kind node k h = omega arith
  quiet (Calling f n args below) r d q e l = found_step f 0 _ r d q e (λ fn s h. by_kind fn s.kind h)
    where
      by_kind : (fn : IrFunction) (k : StepKind) → m.act_enter ir rs k f fn args below r ≡ Went d q → cost k ≤ counted k
      by_kind fn (step.Store n (target.Known of offset) k x keeps) h = absurd (grind (arith, h))
      by_kind fn k h = omega arith
  quiet (Returning v []) r d q e l = absurd (grind (arith, e))
  quiet (Returning v (b ∷ below)) r d q e l = found_step b.function b.position _ r d q e (λ fn s h. by_kind s.kind h)
    where
      by_kind : (k : StepKind) → m.act_result ir rs k v b below r ≡ Went d q → cost k ≤ counted k
      by_kind (step.Store n (target.Known of offset) k x keeps) h = absurd (grind (arith, h))
      by_kind k h = omega arith

  all_quiet : {c0 : Control} {r0 : Run} {c : Control} {r : Run} {made : List Site} → Reaches ir rs c0 r0 c r made
      → costs ir made ≤ sum (λ f p. counted_in (slice_get ir.functions f) p) made
  all_quiet begun = omega arith
  all_quiet (no_mark {c} {d} {r} {q} reach e l) = omega (arith, all_quiet reach, quiet c r d q e l)
  all_quiet (a_mark reach e l) = omega arith

  -- what a run does between two marks costs little more than all steps are counted
  pub short : (c0 c : Control) (r0 r : Run) (made : List Site) → Reaches ir rs c0 r0 c r made → Distinct (site_of c ∷ made)
      → costs ir (site_of c ∷ made) ≤ all_functions ir.functions + 22
  short c0 c r0 r made reach apart =
      let all = distinct_sum (λ f p. counted_in (slice_get ir.functions f) p)
      (λ f. length_in (slice_get ir.functions f)) (length ir.functions) (site_of c ∷ made) apart
      (table_inside ir.functions) in
      omega (
        arith,
        all,
        all_quiet reach,
        near_in (slice_get ir.functions (site_of c).function) (site_of c).position,
        functions_row ir.functions,
      )

-- ---- no step costs much, but the one that enters a function

keep_short : (k : Kind) (keeps : Keep) → keep_bytes k keeps ≤ 8
keep_short k keep.Nothing = omega arith
keep_short k keep.Stored = omega (arith, narrow_short k)
keep_short k keep.Before = omega arith

address_short : (of : Base) → address_bytes of ≤ 6
address_short (base.Local n) = omega arith
address_short (base.Global n) = omega arith

target_short : (to : Target) → target_bytes to ≤ 6
target_short target.Temporary = omega arith
target_short (target.Known of offset) = address_short of

flag_short : (o : Operation) → flag_bytes o ≤ 12
flag_short (operation.Integers o t own) = by_bool (is_comparison o)
  where
    by_bool : (b : Bool) → cond b 2 (operator_bytes o + 2) ≤ 12
    by_bool true = omega arith
    by_bool false = omega (arith, operator_short o)
flag_short (operation.PointerPlus minus bytes left right swapped) = omega arith
flag_short (operation.Difference bytes) = omega arith
flag_short (operation.ComparePointers o) = omega arith

test_short : (t : Test) → test_bytes t ≤ 20
test_short (test.Value x) = omega (arith, bring_short x)
test_short (test.Computed o left right) = omega (arith, bring_short left, bring_short right, flag_short o)

unary_few : (o : UnaryOp) (x : Operand) → unary_step o x ≤ 16
unary_few un.Plus x = omega (arith, place_short x)
unary_few un.Minus x = omega (arith, bring_short x)
unary_few un.Complement x = omega (arith, bring_short x)
unary_few un.Not x = omega (arith, bring_short x)

convert_few : (t : IntType) (x : Operand) → convert_bytes t x ≤ 10
convert_few int.Char x = omega (arith, bring_short x)
convert_few int.Int x = omega (arith, place_short x)
convert_few int.UInt x = omega (arith, place_short x)

result_few : (b : Bool) → cond b 4 0 ≤ 4
result_few true = omega arith
result_few false = omega arith

-- entering a function costs by its parameters
abbrev by_params : StepKind → ℕ
by_params (step.Enter n) = 6 * n
by_params k = 0

step_few : (k : StepKind) → cost k ≤ 1000 + by_params k
step_few (step.Put d x) = omega (arith, place_short x)
step_few (step.Beside d o) = omega (arith, operation_short o, once (operation_helped o))
step_few (step.Convert d to x) = omega (arith, convert_few to x)
step_few (step.Unary d o t x) = omega (arith, unary_few o x)
step_few (step.Binary d o left right) =
    omega (arith, bring_short left, bring_short right, operation_short o, once (operation_helped o))
step_few (step.Truth d of x) = omega (arith, bring_short x)
step_few (step.Address d of offset) = omega (arith, address_short of)
step_few (step.Follow d x) = omega (arith, place_short x)
step_few (step.Element d bytes own x) = omega (arith, bring_short x, once (uses_helper (step.Element d bytes own x)))
step_few (step.Sum d bytes left_type right_type swapped left right) = omega (
  arith,
  bring_short left,
  bring_short right,
  once (uses_helper (step.Sum d bytes left_type right_type swapped left right)),
)
step_few (step.Store d to k x keeps) = omega (arith, target_short to, bring_short x, keep_short k keeps)
step_few (step.StoreLocal d n offset k x keeps) = omega (arith, bring_short x, keep_short k keeps)
step_few (step.Update d to k o x keeps) = omega (
  arith,
  target_short to,
  bring_short x,
  keep_short k keeps,
  operation_short o,
  once (operation_helped o),
)
step_few (step.UpdateLocal d n offset k o x keeps) =
    omega (arith, bring_short x, keep_short k keeps, operation_short o, once (operation_helped o))
step_few (step.Branch d t of when to) = omega (arith, test_short t, once (test_helped t))
step_few (step.Result d keeps) = omega (arith, result_few keeps)
step_few (step.Return d x) = omega (arith, bring_short x)
step_few (step.Emit d x) = omega (arith, bring_short x)
step_few (step.Stamp d n to k x) = omega (arith, target_short to, bring_short x)
step_few (step.Timely d n from k limit to) = omega (arith, target_short from)
step_few k = omega arith

named_few : (ir : Ir) (fn : IrFunction) (k : StepKind) → HasNames ir fn k → by_params k ≤ 6 * fn.params
named_few ir fn (step.Enter n) h = omega (arith, h)
named_few ir fn k h = omega arith

one_counted : (ss : List Step) (p : ℕ) (s : Step) → slice_get ss p ≡ Some s → counted s.kind ≤ all_counted ss
one_counted [] p s e = absurd (grind (arith, e))
one_counted (x ∷ ss) zero s e =
    let same : x ≡ s = ap or_first e in
    subst (λ (z : Step). counted z.kind ≤ counted x.kind + all_counted ss) same (omega arith)
  where
    or_first : Option Step → Step
    or_first None = x
    or_first (Some y) = y
one_counted (x ∷ ss) (suc p) s e = omega (arith, one_counted ss p s e)

-- ---- the whole program

module _ (core : Core) where
  abbrev formed : Function → IrFunction
  formed f = function_of core.structs f

  functions_cost : (fs : List Function) → Every (IsFunction core true) fs
      → all_functions (map formed fs) + 800 * length fs ≤ 848 * total (map function_nodes fs)
  functions_cost [] h = omega arith
  functions_cost (f ∷ fs) h = omega (arith, one_function f h.0, functions_cost fs h.1)
    where
      one_function : (f : Function) → IsFunction core true f → all_counted (formed f).steps + 800 ≤ 848 * function_nodes f
      one_function f h = omega (
        arith,
        function_cost core.structs (after.objects_of core.structs f) (after.is_main f) (text_of core true f) f h.body,
      )

  module _ (ir : Ir) where
    -- any step of a function besides
    function_more : (f : Function) → IsFunction core true f → (p : ℕ) (s : Step) → slice_get (formed f).steps p ≡ Some s
        → HasNames ir (formed f) s.kind → all_counted (formed f).steps + (cost s.kind + 40) ≤ 848 * function_nodes f
    function_more f h p s e named = by_body f.body refl
      where
        fit : all_counted (formed f).steps + (800 + 800 * length f.params + spare f.body) ≤ 848 * function_nodes f
        fit = function_cost core.structs (after.objects_of core.structs f) (after.is_main f) (text_of core true f) f h.body

        by_body : (ss : List Stmt) → f.body ≡ ss
            → all_counted (formed f).steps + (cost s.kind + 40) ≤ 848 * function_nodes f
        by_body [] is =
            let few : all_counted (formed f).steps ≤ 8 + 6 * length f.params + 10 =
            subst (λ (ss : List Stmt). all_counted (function_steps core.structs (after.objects_of core.structs f)
            (after.is_main f) (length f.params) f.node ss) ≤ 8 + 6 * length f.params + 10) (sym is)
            (empty_cost core.structs (after.objects_of core.structs f) (after.is_main f) (length f.params) f.node) in
            omega (arith, fit, few, one_counted (formed f).steps p s e, cost_near s.kind)
        by_body (x ∷ ss) is =
            let much : spare f.body ≡ 700 = ap spare is in
            omega (arith, fit, much, step_few s.kind, named_few ir (formed f) s.kind named)

    abbrev AllNames : Function → Type 0
    AllNames f = AllNamed ir (formed f)

    functions_more : (fs : List Function) → Every (IsFunction core true) fs → (g : ℕ) (f : Function) → slice_get fs g ≡ Some f
        → AllNames f → (p : ℕ) (s : Step) → slice_get (formed f).steps p ≡ Some s
        → all_functions (map formed fs) + (cost s.kind + 40) ≤ 848 * total (map function_nodes fs)
    functions_more [] h g f e names p s k = absurd (grind (arith, e))
    functions_more (x ∷ fs) h zero f e names p s k =
        let same : f ≡ x = ap or_first (sym e) in
        omega (
          arith,
          function_more x h.0 p s (subst (λ (y : Function). slice_get (formed y).steps p ≡ Some s) same k)
              (subst (λ (y : Function). HasNames ir (formed y) s.kind) same (names p s k)),
          functions_cost fs h.1,
        )
      where
        or_first : Option Function → Function
        or_first None = x
        or_first (Some y) = y
    functions_more (x ∷ fs) h (suc g) f e names p s k = omega (
      arith,
      function_cost core.structs (after.objects_of core.structs x) (after.is_main x) (text_of core true x) x h.0.body,
      functions_more fs h.1 g f e names p s k,
    )

  -- all that the steps of a program are counted, and any one of them besides
  pub program_cost : LawfulCore core → (ir : Ir) → ir.functions ≡ map formed core.functions
      → ((n : ℕ) (f : Function) → slice_get core.functions n ≡ Some f → AllNamed ir (formed f))
      → (other : Site) → all_functions (map formed core.functions) + (cost_at ir other + 40) ≤ 848 * nodes core
  unfolding nodes
  program_cost h ir are names other = by_function (slice_get core.functions other.function) refl
    where
      none : all_functions (map formed core.functions) + (0 + 40) ≤ 848 * total (map function_nodes core.functions)
      none = omega (
        arith,
        functions_cost core.functions h.functions,
        within core.functions h.main.0 h.main.1.0 h.main.1.1.0,
      )

      here : slice_get ir.functions other.function ≡ option_map formed (slice_get core.functions other.function)
      here = ap (λ (fs : List IrFunction). slice_get fs other.function) are ∙ slice_get-map formed core.functions other.function

      by_step : (f : Function) → slice_get core.functions other.function ≡ Some f → (o : Option Step)
          → slice_get (formed f).steps other.position ≡ o
          → all_functions (map formed core.functions) + (cost_of o + 40) ≤ 848 * total (map function_nodes core.functions)
      by_step f e None k = none
      by_step f e (Some s) k =
          functions_more ir core.functions h.functions other.function f e (names other.function f e) other.position s k

      by_function : (o : Option Function) → slice_get core.functions other.function ≡ o
          → all_functions (map formed core.functions) + (cost_at ir other + 40) ≤ 848 * total (map function_nodes core.functions)
      by_function None e =
          let no : cost_at ir other ≡ 0 = ap (λ (q : Option IrFunction). cost_in q other.position) (here ∙ ap (option_map formed) e) in
          omega (arith, none, no)
      by_function (Some f) e =
          let is : cost_at ir other ≡ cost_of (slice_get (formed f).steps other.position) =
          ap (λ (q : Option IrFunction). cost_in q other.position) (here ∙ ap (option_map formed) e) in
          omega (arith, by_step f e (slice_get (formed f).steps other.position) refl, is)
