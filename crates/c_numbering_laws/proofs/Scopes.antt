-- What a program has is what it has with its nodes numbered.
use Rattle.std.proofs.Common.{◌≡◌, ℕ, zero, suc, false, List, [], ◌∷◌, map, slice_get, Some, refl, ap, rules}
use Rattle.core_tree.specs.declared.types.Ty.{Ty}
use Rattle.core_tree.specs.declared.expressions.Expr.{Expr}
use Rattle.core_tree.specs.declared.program.Global.{Global}
use Rattle.core_tree.specs.declared.program.Function.{Function}
use Rattle.core_tree.specs.Lawful.{Scope}
use Rattle.c_checking.specs.Numbering.{each, function_numbered, functions_numbered, global_numbered, numbered}
use Rattle.c_numbering_laws.specs.Kept.{numbered_scope, ExpressionStays}
use Rattle.c_numbering_laws.proofs.Expressions.{Alike, expr_stays}

-- a variable, numbered or not
global_at : (p : List Function × ℕ) (gs : List Global) (n : ℕ) (g : Global) → slice_get gs n ≡ Some g
    → (h : Global) × (slice_get (map (global_numbered p) gs) n ≡ Some h) × (h.ty ≡ g.ty)
global_at p [] n g is = absurd (search rules)
global_at p (x ∷ gs) zero g is = let e : x ≡ g = cc in (global_numbered p x, refl, ap (λ (y : Global). y.ty) e)
global_at p (x ∷ gs) (suc n) g is = global_at p gs n g is

-- a function, numbered or not
function_at : (fs : List Function) (m n : ℕ) (f : Function) → slice_get fs n ≡ Some f
    → (g : Function) × (slice_get (each (map function_numbered fs) m).0 n ≡ Some g) × (g.params ≡ f.params)
    × (g.result ≡ f.result)
function_at [] m n f is = absurd (search rules)
function_at (x ∷ fs) m zero f is =
    let e : x ≡ f = cc in
    ((function_numbered x m).0, refl, ap (λ (y : Function). y.params) e, ap (λ (y : Function). y.result) e)
function_at (x ∷ fs) m (suc n) f is = function_at fs (function_numbered x m).1 n f is

pub alike : (s : Scope) → s.annotated ≡ false → Alike s (numbered_scope s)
unfolding numbered
alike s early = record {
  structs = refl;
  globals = λ n g is. global_at (functions_numbered s.core.functions) s.core.globals n g is;
  functions = λ n f is. function_at s.core.functions 0 n f is;
  objects = refl;
  inside = refl;
  early = early;
}

pub expression_stays : (s : Scope) (e : Expr) (t : Ty) (n : ℕ) → ExpressionStays s e t n
expression_stays s e t n early is = (expr_stays s (numbered_scope s) (alike s early) is n).typed
