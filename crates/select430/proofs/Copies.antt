-- One local more that gets its argument.
use Rattle.std.proofs.Common.{◌≡◌, ℕ, zero, suc, ◌+◌, ◌-◌, ◌<◌, sym, ap, ◌∙◌, arith, List, [], ◌∷◌, ◌++◌, length, drop, take, get_or, add-one, drop-cons, append_assoc}
use Rattle.ir.specs.declared.form.Ir.{Ir}
use Rattle.ir.specs.declared.form.IrFunction.{IrFunction}
use Rattle.ir.specs.declared.form.IrLocal.{IrLocal}
use Rattle.select430.specs.declared.part.Part.{Part}
use Rattle.select430.specs.Code.{copy, copies}

pub copies_step : (ir : Ir) (fn : IrFunction) (ls : List IrLocal) (i left number : ℕ) (x : IrLocal) (y : Part) (before after : List Part) → i < length ls → x ≡ get_or ls i x → 0 < left → y ≡ copy x number → after ≡ before ++ y ∷ [] →
    after ++ copies ir fn (number + 1) (take (left - 1) (drop (i + 1) ls)) ≡ before ++ copies ir fn number (take left (drop i ls))
copies_step ir fn ls i zero number x y before after lt is some e d = absurd (omega arith)
copies_step ir fn ls i (suc left) number x y before after lt is some e d =
    let opened : drop i ls ≡ x ∷ drop (i + 1) ls = rw add-one (drop-cons ls i x lt ∙ ap (λ (z : IrLocal). z ∷ drop (suc i) ls) (sym is)) in
    let one : suc left - 1 ≡ left = omega arith in
    let next : number + 1 ≡ suc number = omega arith in
    let rest : List Part = copies ir fn (suc number) (take left (drop (i + 1) ls)) in
    ap (λ (n : ℕ). after ++ copies ir fn (number + 1) (take n (drop (i + 1) ls))) one
    ∙ ap (λ (n : ℕ). after ++ copies ir fn n (take left (drop (i + 1) ls))) next
    ∙ ap (λ (k : List Part). k ++ rest) d
    ∙ append_assoc before (y ∷ []) rest
    ∙ ap (λ (z : Part). before ++ (z ∷ rest)) e
    ∙ sym (ap (λ (k : List IrLocal). before ++ copies ir fn number (take (suc left) k)) opened)
