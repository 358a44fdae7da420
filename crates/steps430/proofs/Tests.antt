-- A word is compared with 0: whether a number is true, and whether a jump is made.
use Rattle.std.proofs.Common.{◌≡◌, ◌<◌, ◌-◌, ℕ, ◌+◌, refl, sym, ap, ◌∙◌, arith, Bool, true, false, not, Result, Ok, if◌then◌else◌}
use Rattle.std.proofs.lemmas.Bool.Decides.{nat_tests}
use Rattle.std.specs.Prelude.{ℤ, pos, negsuc, nat_eq, nat_lt}
use Rattle.base16.specs.Integer.{wrapped, signed}
use Rattle.base16.specs.declared.integer.IntType.{IntType}
use Rattle.base16.specs.declared.integer.IntType.TheVariants as int
use Rattle.isa430.specs.declared.instr.Cond.TheVariants.{Nz}
use Rattle.core430.specs.Arithmetic.{difference_status}
use Rattle.core430.specs.Instructions.{is_taken}
use Rattle.run430.proofs.FlagLemmas.{compare_zero}
use Rattle.c_values.specs.Operators.{number, is_zero}
use Rattle.c_values.specs.Pointers.{truth_of}
use Rattle.c_values.specs.Values.{numbered}
use Rattle.c_values.specs.declared.state.State.{State}
use Rattle.c_values.specs.declared.value.Value.{Value}
use Rattle.c_values.specs.declared.value.Value.TheVariants.{Int}
use Rattle.ir.specs.Machine.{branch}
use Rattle.select430.specs.Code.{opposite}
use Rattle.steps430.specs.Setting.{Setting, step_at}
use Rattle.steps430.proofs.Words.{wrapped_small}

twice : (b : Bool) → b ≡ not (not b)
twice true = refl
twice false = refl

zero_signed : (w : ℕ) → w < 65536 → is_zero (signed w) ≡ nat_eq w 0
zero_signed w small = from (nat_lt w 32768) refl
  where
    from : (b : Bool) → nat_lt w 32768 ≡ b → is_zero (if b then pos w else negsuc (65535 - w)) ≡ nat_eq w 0
    from true e = refl
    from false e = grind (arith, nat_tests)

zero_number : (of : IntType) (k : ℤ) → is_zero (number of k) ≡ nat_eq (wrapped k) 0
unfolding number
zero_number int.Int k = zero_signed (wrapped k) (wrapped_small k)
zero_number int.UInt k = refl
zero_number int.Char k = refl

abbrev good : Bool → Result Bool ℕ
good b = Ok b

same_truth : (a b : Bool) → good a ≡ good b → a ≡ b
same_truth a b e = cc

pub truth_word : (s : State) (of : IntType) (v : Value) (k : ℤ) (b : Bool) → v ≡ Int k → truth_of s (numbered of v) ≡ Ok b
    → b ≡ not (nat_eq (wrapped k) 0)
unfolding truth_of
truth_word s of v k b e ok =
    let told : good (not (is_zero (number of k))) ≡ good b =
    ap (λ (z : Value). truth_of s (numbered of z)) (sym e) ∙ ok in
    sym (same_truth (not (is_zero (number of k))) b told) ∙ ap not (zero_number of k)

pub target_is : (p : Setting) (f to q : ℕ) (b c when : Bool) → c ≡ (if when then not b else b)
    → (if c then step_at p f (q + 1) else step_at p f to) ≡ step_at p f (branch b when to (q + 1))
target_is p f to q true c true e = ap (λ (z : Bool). if z then step_at p f (q + 1) else step_at p f to) e
target_is p f to q true c false e = ap (λ (z : Bool). if z then step_at p f (q + 1) else step_at p f to) e
target_is p f to q false c true e = ap (λ (z : Bool). if z then step_at p f (q + 1) else step_at p f to) e
target_is p f to q false c false e = ap (λ (z : Bool). if z then step_at p f (q + 1) else step_at p f to) e

pub stays : (when : Bool) (status w : ℕ) → w < 65536
    → is_taken (if when then opposite Nz else Nz) (difference_status false status false w 0)
    ≡ (if when then not (not (nat_eq w 0)) else not (nat_eq w 0))
stays true status w small = compare_zero false status w 0 small (omega arith) ∙ twice (nat_eq w 0)
stays false status w small = ap not (compare_zero false status w 0 small (omega arith))
