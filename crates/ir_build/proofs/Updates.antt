-- The steps of updates, whichever value they give, and of calls.
use Rattle.std.proofs.Common.{◌≡◌, sym, ◌∙◌, append_assoc, ℕ, ◌+◌, ◌<◌, Bool, true, false, List, ◌∷◌, ◌++◌, Some, length, get_or}
use Rattle.std.proofs.Common.{drop, map, refl, ap, arith}
use Rattle.base16.specs.declared.image.Kind.{Kind}
use Rattle.core_tree.specs.declared.types.Struct.{Struct}
use Rattle.core_tree.specs.declared.expressions.Expr.{Expr}
use Rattle.core_tree.specs.declared.expressions.ExprKind.TheVariants as k
use Rattle.ir.specs.declared.form.Operation.{Operation}
use Rattle.ir.specs.declared.form.Step.{Step}
use Rattle.ir.specs.declared.form.StepKind.TheVariants as step
use Rattle.ir_gen.specs.Code as c
use Rattle.ir_gen.specs.Code.{Code, Part, Spot}
use Rattle.ir_build.specs.Emitting.{behind, call_end, coded, local_end, update_behind}
use Rattle.ir_build.proofs.CodeSizes.{call_size, next_is}
use Rattle.ir_build.proofs.Equations.{call_steps}

pub unmarked_steps : (node : ℕ) (s : Spot) (k : Kind) (o : Operation) (value : Code) (old : Bool) (p d : ℕ)
    → (c.update_code node s k o value old false).steps p d ≡ (c.update_local node s.part k o value old).steps p d
unmarked_steps node s k o value false p d = refl
unmarked_steps node s k o value true p d = refl

pub unmarked_size : (node : ℕ) (s : Spot) (k : Kind) (o : Operation) (value : Code) (old : Bool)
    → (c.update_code node s k o value old false).size ≡ (c.update_local node s.part k o value old).size
unmarked_size node s k o value false = refl
unmarked_size node s k o value true = refl

pub marked_steps : (node : ℕ) (s : Spot) (k : Kind) (o : Operation) (value : Code) (old : Bool) (p d : ℕ)
    → (c.update_code node s k o value old true).steps p d
    ≡ s.code.steps p d ++ update_behind node k o value old (p + s.code.size) d
marked_steps node s k o value false p d = refl
marked_steps node s k o value true p d = refl

pub marked_size : (node : ℕ) (s : Spot) (k : Kind) (o : Operation) (value : Code) (old : Bool)
    → (c.update_code node s k o value old true).size ≡ s.code.size + (value.size + 3)
marked_size node s k o value false = omega arith
marked_size node s k o value true = omega arith

pub local_steps : (node : ℕ) (q : Part) (k : Kind) (o : Operation) (value : Code) (old : Bool) (p d : ℕ)
    → (c.update_local node (Some q) k o value old).steps p d
    ≡ c.at_node node (step.Put d (c.scalar_of q k)) ∷ (value.steps (p + 1) (d + 1) ++ local_end node q k o old d)
local_steps node q k o value false p d = refl
local_steps node q k o value true p d = refl

pub local_size : (node : ℕ) (q : Part) (k : Kind) (o : Operation) (value : Code) (old : Bool)
    → (c.update_local node (Some q) k o value old).size ≡ value.size + 3
local_size node q k o value false = omega arith
local_size node q k o value true = omega arith

pub args_steps_turn : (S : List Struct) (all : List Expr) (i : ℕ) (x : Expr) (p d : ℕ) → i < length all → x ≡ get_or all i x
    → (c.args_code (map (coded S) (drop i all))).steps p d
    ≡ (c.expr S x).steps p d ++ (c.args_code (map (coded S) (drop (i + 1) all))).steps (p + (c.expr S x).size) (d + 1)
args_steps_turn S all i x p d h here = ap (λ (xs : List Expr). (c.args_code (map (coded S) xs)).steps p d)
    (next_is all i x h here)

-- ---- a call behind its arguments

pub call_written : (S : List Struct) (e : Expr) (function : ℕ) (args slice : List Expr) (d : ℕ) (before passed after : List Step)
    → e.kind ≡ k.Call function args → slice ≡ args
    → passed ≡ behind before (c.args_code (map (coded S) slice)) d → after ≡ passed ++ call_end e.node function (length slice) d
    → after ≡ behind before (c.expr S e) d
call_written S e function args slice d before passed after is all first last =
    last
    ∙ (ap (λ (steps : List Step). steps ++ call_end e.node function (length slice) d) first
    ∙ (ap (λ (es : List Expr). behind before (c.args_code (map (coded S) es)) d ++ call_end e.node function (length es) d) all
    ∙ (append_assoc before ((c.args_code (map (coded S) args)).steps (length before) d) (call_end e.node function (length args) d)
    ∙ ap (λ (steps : List Step). before ++ steps) (sym (call_steps S e function args (length before) d is)))))

two_more : (n m : ℕ) → n + m + 2 ≡ n + (m + 2)
two_more n m = omega arith

pub call_counted : (S : List Struct) (e : Expr) (function : ℕ) (args slice : List Expr) (before passed after : ℕ)
    → e.kind ≡ k.Call function args → slice ≡ args
    → passed ≡ before + (c.args_code (map (coded S) slice)).size → after ≡ passed + 2
    → after ≡ before + (c.expr S e).size
call_counted S e function args slice before passed after is all first last =
    last
    ∙ (ap (λ (n : ℕ). n + 2) first
    ∙ (ap (λ (es : List Expr). before + (c.args_code (map (coded S) es)).size + 2) all
    ∙ (two_more before (c.args_code (map (coded S) args)).size
    ∙ ap (λ (n : ℕ). before + n) (sym (call_size S e function args is)))))
