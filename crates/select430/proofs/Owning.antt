-- The items of each step: how long they are, and that they keep to themselves and to what the step names.
use Rattle.std.proofs.Common.{inl, inr, ℕ, ◌*◌, ◌≤◌, refl, sym, subst, List, [], ◌∷◌}
use Rattle.ir.specs.declared.form.Ir.{Ir}
use Rattle.ir.specs.declared.form.IrFunction.{IrFunction}
use Rattle.ir.specs.declared.form.StepKind.{StepKind}
use Rattle.ir.specs.Table.{size}
use Rattle.select430.specs.Parts.{Name}
use Rattle.select430.specs.Code.{code_of_step}
use Rattle.select430.specs.Laws.{FitRow, HelpsAsTold, AreOwn, names_of}
use Rattle.select430.proofs.Words.{parts_words_are, parts_formed}
use Rattle.select430.proofs.Fitting.{step_fits}
use Rattle.select430.proofs.Resolving.{parts_labels}
use Rattle.select430.proofs.Jumping.{step_jumps, parts_use, Within}
use Rattle.select430.proofs.Naming.{step_names}

pub fit_row : (ir : Ir) (fn : IrFunction) (g p : ℕ) (k : StepKind) → FitRow ir fn g p k
fit_row ir fn g p k =
    let f = step_fits ir fn k in
    let b = f.bytes in
    let w = parts_words_are g p (code_of_step ir fn k) in
    subst (λ (n : ℕ). 2 * n ≤ size k) (sym w) b

pub helps_as_told : (ir : Ir) (fn : IrFunction) (k : StepKind) → HelpsAsTold ir fn k
helps_as_told ir fn k = (step_fits ir fn k).help

-- each of a list is among them
among_more : (g p : ℕ) (x : Name) (all xs : List Name) → Within g p all xs → Within g p (x ∷ all) xs
among_more g p x all [] w = tt
among_more g p x all (y ∷ xs) w = (inr w.0, among_more g p x all xs w.1)

within_itself : (g p : ℕ) (ns : List Name) → Within g p ns ns
within_itself g p [] = tt
within_itself g p (x ∷ xs) = (inl refl, among_more g p x xs xs (within_itself g p xs))

pub are_own : (ir : Ir) (fn : IrFunction) (g p : ℕ) (k : StepKind) → AreOwn ir fn g p k
are_own ir fn g p k =
    let f = step_fits ir fn k in
    record {
      formed = parts_formed g p (code_of_step ir fn k) f.right;
      labels = parts_labels g p (code_of_step ir fn k);
      jumps = step_jumps g p (code_of_step ir fn k) f.skip;
      uses = parts_use g p (names_of k) (code_of_step ir fn k) (subst (λ (ns : List Name). Within g p (names_of k) ns) (sym (step_names ir fn k)) (within_itself g p (names_of k)));
    }
