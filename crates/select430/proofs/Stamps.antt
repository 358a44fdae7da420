-- Numbers of stamps modulo 2^16.
use Rattle.std.proofs.Common.{◌≡◌, ℕ, zero, suc, ◌+◌, ◌-◌, ◌%◌, ◌<◌, refl, sym, ap, ◌∙◌, arith, List, [], ◌∷◌, length, drop, get_or, add-one, drop-cons}
use Rattle.ir.specs.declared.form.IrGlobal.{IrGlobal}
use Rattle.ir.specs.Machine.{stamps_of, stamp_in}
use Rattle.select430.specs.Frames.{word}

-- what is equal modulo 2^16 before leads to what is equal so
pub stamp_moves : (a b : ℕ) (gs : List IrGlobal) (n offset : ℕ) → word a ≡ word b → word (stamp_in a gs n offset) ≡ word (stamp_in b gs n offset)
stamp_moves a b [] n offset e = refl
stamp_moves a b (g ∷ gs) zero offset e = omega arith
stamp_moves a b (g ∷ gs) (suc n) offset e = stamp_moves (a + stamps_of g) (b + stamps_of g) gs n offset (let f : word (a + stamps_of g) ≡ word (b + stamps_of g) = omega arith in f)

-- one variable further
pub stamp_step : (gs : List IrGlobal) (i left before s : ℕ) (g : IrGlobal) (offset : ℕ) → i < length gs → g ≡ get_or gs i g → 0 < left → s ≡ stamps_of g →
    word (stamp_in ((before + s % 65536) % 65536) (drop (i + 1) gs) (left - 1) offset) ≡ word (stamp_in before (drop i gs) left offset)
stamp_step gs i zero before s g offset lt is some e = absurd (omega arith)
stamp_step gs i (suc left) before s g offset lt is some e =
    let opened : drop i gs ≡ g ∷ drop (i + 1) gs = rw add-one (drop-cons gs i g lt ∙ ap (λ (x : IrGlobal). x ∷ drop (suc i) gs) (sym is)) in
    let same : word ((before + s % 65536) % 65536) ≡ word (before + stamps_of g) = omega arith in
    let one : suc left - 1 ≡ left = omega arith in
    ap (λ (n : ℕ). word (stamp_in ((before + s % 65536) % 65536) (drop (i + 1) gs) n offset)) one
    ∙ stamp_moves ((before + s % 65536) % 65536) (before + stamps_of g) (drop (i + 1) gs) left offset same
    ∙ sym (ap (λ (k : List IrGlobal). word (stamp_in before k (suc left) offset)) opened)
