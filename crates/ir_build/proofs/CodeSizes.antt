-- How many steps codes have.
use Rattle.std.proofs.Common.{◌≡◌, ℕ, ◌+◌, ◌<◌, Bool, true, false, cond, List, ◌∷◌, Option, Some, None, length, get_or, drop, map}
use Rattle.std.proofs.Common.{refl, ap, sym, ◌∙◌, add-one, drop-cons, arith}
use Rattle.base16.specs.declared.image.Kind.{Kind}
use Rattle.core_tree.specs.declared.types.Struct.{Struct}
use Rattle.core_tree.specs.Heights.{capped}
use Rattle.core_tree.specs.declared.expressions.Expr.{Expr}
use Rattle.core_tree.specs.declared.expressions.Place.{Place}
use Rattle.base16.specs.declared.integer.IntType.{IntType}
use Rattle.base16.specs.declared.operator.BinaryOp.{BinaryOp}
use Rattle.core_tree.specs.Layout.{kind_of, int_type_of, stride, target_of}
use Rattle.core_tree.specs.declared.expressions.ExprKind.TheVariants as k
use Rattle.ir.specs.declared.form.Keep.{Keep}
use Rattle.ir.specs.declared.form.Operation.{Operation}
use Rattle.ir_gen.specs.Code as c
use Rattle.ir_gen.specs.Code.{Code, Part, Spot}
use Rattle.ir_build.specs.Emitting.{coded, is_some}
use Rattle.ir_build.proofs.Equations.{call_is, update_is}

pub next_is : {A : Type 0} (all : List A) (i : ℕ) (x : A) → i < length all → x ≡ get_or all i x
    → drop i all ≡ x ∷ drop (i + 1) all
next_is all i x h here = rw (add-one) (drop-cons all i x h) ∙ ap (λ y. y ∷ drop (i + 1) all) (sym here)

pub args_turn : (S : List Struct) (all : List Expr) (i : ℕ) (x : Expr) → i < length all → x ≡ get_or all i x
    → (c.args_code (map (coded S) (drop i all))).size ≡ (c.expr S x).size + (c.args_code (map (coded S) (drop (i + 1) all))).size
args_turn S all i x h here = ap (λ (xs : List Expr). (c.args_code (map (coded S) xs)).size) (next_is all i x h here)

pub call_size : (S : List Struct) (e : Expr) (function : ℕ) (args : List Expr) → e.kind ≡ k.Call function args
    → (c.expr S e).size ≡ (c.args_code (map (coded S) args)).size + 2
call_size S e function args is = ap (λ (z : Code). z.size) (call_is S e function args is)

twice_capped : (n : ℕ) → capped (capped n + 2) ≡ capped (n + 2)
twice_capped n = omega arith

pub call_capped : (S : List Struct) (e : Expr) (function : ℕ) (args slice : List Expr) (counted total : ℕ)
    → e.kind ≡ k.Call function args → slice ≡ args → counted ≡ capped (c.args_code (map (coded S) slice)).size
    → total ≡ capped (counted + 2) → total ≡ capped (c.expr S e).size
call_capped S e function args slice counted total is all counts sums =
    let known : counted ≡ capped (c.args_code (map (coded S) args)).size =
    counts ∙ ap (λ (es : List Expr). capped (c.args_code (map (coded S) es)).size) all in
    sums ∙ (ap (λ (n : ℕ). capped (n + 2)) known ∙ (twice_capped (c.args_code (map (coded S) args)).size
    ∙ ap (λ (n : ℕ). capped n) (sym (call_size S e function args is))))

pub store_size : (node : ℕ) (q : Option Part) (kind : Kind) (keeps : Keep)
    → (c.store_local node q kind keeps).size ≡ cond (is_some q) 1 0
store_size node None kind keeps = refl
store_size node (Some q) kind keeps = refl

local_size : (node : ℕ) (q : Option Part) (kind : Kind) (o : Operation) (value : Code) (old : Bool)
    → (c.update_local node q kind o value old).size ≡ cond (is_some q) (value.size + 3) 0
local_size node None kind o value old = refl
local_size node (Some q) kind o value false = omega arith
local_size node (Some q) kind o value true = omega arith

pub update_size : (node : ℕ) (s : Spot) (kind : Kind) (o : Operation) (value : Code) (old marked : Bool)
    → (c.update_code node s kind o value old marked).size
    ≡ cond marked (s.code.size + (value.size + 3)) (cond (is_some s.part) (value.size + 3) 0)
update_size node s kind o value false true = omega arith
update_size node s kind o value true true = omega arith
update_size node s kind o value false false = local_size node s.part kind o value false
update_size node s kind o value true false = local_size node s.part kind o value true

updated : (S : List Struct) (e : Expr) (o : BinaryOp) (t : Option IntType) (p : Place) (v : Expr) (old marked : Bool)
    → e.kind ≡ k.Update o t p v old marked
    → (c.expr S e).size
    ≡ cond marked ((c.place S p).code.size + ((c.expr S v).size + 3))
    (cond (is_some (c.place S p).part) ((c.expr S v).size + 3) 0)
updated S e o t p v old marked is =
    ap (λ (z : Code). z.size) (update_is S e o t p v old marked is)
    ∙ update_size e.node (c.place S p) (kind_of e.ty) (c.update_operation o t (int_type_of v.ty) (stride S (target_of e.ty)))
    (c.expr S v) old marked

three_capped : (n m : ℕ) → capped (capped (capped n + capped m) + 3) ≡ capped (n + (m + 3))
three_capped n m = omega arith

one_capped : (n : ℕ) → capped (capped n + 3) ≡ capped (n + 3)
one_capped n = omega arith

pub marked_capped : (S : List Struct) (e : Expr) (o : BinaryOp) (t : Option IntType) (p q : Place) (v w : Expr)
    (old marked : Bool)
    (placed valued both total : ℕ) → e.kind ≡ k.Update o t p v old marked → marked ≡ true → q ≡ p → w ≡ v
    → placed ≡ capped (c.place S q).code.size → valued ≡ capped (c.expr S w).size → both ≡ capped (placed + valued)
    → total ≡ capped (both + 3) → total ≡ capped (c.expr S e).size
marked_capped S e o t p q v w old marked placed valued both total is on at by places values sums all =
    let a = (c.place S p).code.size in
    let b = (c.expr S v).size in
    let size : (c.expr S e).size ≡ a + (b + 3) =
    updated S e o t p v old marked is ∙ ap (λ (m : Bool). cond m (a + (b + 3)) (cond (is_some (c.place S p).part) (b + 3) 0))
    on in
    let first : placed ≡ capped a = places ∙ ap (λ (x : Place). capped (c.place S x).code.size) at in
    let second : valued ≡ capped b = values ∙ ap (λ (x : Expr). capped (c.expr S x).size) by in
    all
    ∙ (ap (λ (n : ℕ). capped (n + 3)) sums
    ∙ (ap (λ (n : ℕ). capped (capped (n + valued) + 3)) first
    ∙ (ap (λ (n : ℕ). capped (capped (capped a + n) + 3)) second
    ∙ (three_capped a b ∙ ap (λ (n : ℕ). capped n) (sym size)))))

pub local_capped : (S : List Struct) (e : Expr) (o : BinaryOp) (t : Option IntType) (p q : Place) (v w : Expr) (old marked : Bool)
    (is_local : Bool) (valued total : ℕ) → e.kind ≡ k.Update o t p v old marked → marked ≡ false → q ≡ p → w ≡ v
    → is_local ≡ is_some (c.place S q).part → is_local ≡ true → valued ≡ capped (c.expr S w).size
    → total ≡ capped (valued + 3) → total ≡ capped (c.expr S e).size
local_capped S e o t p q v w old marked is_local valued total is off at by part holds values all =
    let a = (c.place S p).code.size in
    let b = (c.expr S v).size in
    let here : is_some (c.place S p).part ≡ true =
    sym (part ∙ ap (λ (x : Place). is_some (c.place S x).part) at) ∙ holds in
    let size : (c.expr S e).size ≡ b + 3 =
    updated S e o t p v old marked is
    ∙ (ap (λ (m : Bool). cond m (a + (b + 3)) (cond (is_some (c.place S p).part) (b + 3) 0)) off
    ∙ ap (λ (m : Bool). cond m (b + 3) 0) here) in
    let second : valued ≡ capped b = values ∙ ap (λ (x : Expr). capped (c.expr S x).size) by in
    all ∙ (ap (λ (n : ℕ). capped (n + 3)) second ∙ (one_capped b ∙ ap (λ (n : ℕ). capped n) (sym size)))
