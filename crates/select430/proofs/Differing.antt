-- Labels of two things differ.
use Rattle.std.proofs.Common.{◌≡◌, ℕ, zero, suc, ◌<◌, ◌≤◌, refl, sym, ap, ◌∙◌, arith}
use Rattle.rt430.specs.declared.words.Helper.{Helper}
use Rattle.rt430.specs.declared.words.Helper.TheVariants.{Mul16, Udiv16, Umod16, Sdiv16, Smod16, Shl, Shr, Sar}
use Rattle.select430.specs.Labels.{inner_label, step_end, helper_number}
use Rattle.select430.specs.Laws.{Labelled, AFunction, AStep, AHelper, ATable, label, IsInRange, LabelsDiffer, InnerLabelsDiffer}

-- the routine of a number
helper_at : ℕ → Helper
helper_at zero = Mul16
helper_at (suc zero) = Udiv16
helper_at (suc (suc zero)) = Umod16
helper_at (suc (suc (suc zero))) = Sdiv16
helper_at (suc (suc (suc (suc zero)))) = Smod16
helper_at (suc (suc (suc (suc (suc zero))))) = Shl
helper_at (suc (suc (suc (suc (suc (suc zero)))))) = Shr
helper_at (suc (suc (suc (suc (suc (suc (suc n))))))) = Sar

back_again : (which : Helper) → helper_at (helper_number which) ≡ which
unfolding helper_at
back_again Mul16 = refl
back_again Udiv16 = refl
back_again Umod16 = refl
back_again Sdiv16 = refl
back_again Smod16 = refl
back_again Shl = refl
back_again Shr = refl
back_again Sar = refl

few_helpers : (which : Helper) → helper_number which < 8
few_helpers Mul16 = omega arith
few_helpers Udiv16 = omega arith
few_helpers Umod16 = omega arith
few_helpers Sdiv16 = omega arith
few_helpers Smod16 = omega arith
few_helpers Shl = omega arith
few_helpers Shr = omega arith
few_helpers Sar = omega arith

pub labels_differ : LabelsDiffer
labels_differ (AFunction g) (AFunction h) a b e = let d : g ≡ h = omega arith in ap AFunction d
labels_differ (AFunction g) (AStep h q) a b e = let c = b.0 in let d = b.1 in absurd (omega arith)
labels_differ (AFunction g) (AHelper w) a b e = absurd (omega arith)
labels_differ (AFunction g) (ATable t) a b e = absurd (omega arith)
labels_differ (AStep g p) (AFunction h) a b e = let c = a.0 in let d = a.1 in absurd (omega arith)
labels_differ (AStep g p) (AStep h q) a b e =
    let a1 = a.1 in let b1 = b.1 in
    let d : g ≡ h = omega arith in
    let f : p ≡ q = omega arith in
    ap (λ (x : ℕ). AStep x p) d ∙ ap (AStep h) f
labels_differ (AStep g p) (AHelper w) a b e = let c = a.0 in let d = a.1 in absurd (omega arith)
labels_differ (AStep g p) (ATable t) a b e = let c = a.0 in let d = a.1 in absurd (omega arith)
labels_differ (AHelper v) (AFunction h) a b e = absurd (omega arith)
labels_differ (AHelper v) (AStep h q) a b e = let c = b.0 in let d = b.1 in absurd (omega arith)
labels_differ (AHelper v) (AHelper w) a b e =
    let d : helper_number v ≡ helper_number w = omega arith in
    ap AHelper (sym (back_again v) ∙ ap helper_at d ∙ back_again w)
labels_differ (AHelper v) (ATable t) a b e = let f = few_helpers v in absurd (omega arith)
labels_differ (ATable t) (AFunction h) a b e = absurd (omega arith)
labels_differ (ATable t) (AStep h q) a b e = let c = b.0 in let d = b.1 in absurd (omega arith)
labels_differ (ATable t) (AHelper w) a b e = let f = few_helpers w in absurd (omega arith)
labels_differ (ATable t) (ATable u) a b e = let d : t ≡ u = omega arith in ap ATable d

not_inside : (g p l : ℕ) → g < 65536 → p < 4294967296 → inner_label g p ≤ l → l < step_end g p → (x : Labelled) → IsInRange x → label x ≡ l → ⊥
not_inside g p l a b c d (AFunction h) r e = omega arith
not_inside g p l a b c d (AStep h q) r e = let r0 = r.0 in let r1 = r.1 in omega arith
not_inside g p l a b c d (AHelper w) r e = omega arith
not_inside g p l a b c d (ATable t) r e = omega arith

same_step : (g p l : ℕ) → g < 65536 → p < 4294967296 → inner_label g p ≤ l → l < step_end g p → (h q : ℕ) → h < 65536 → q < 4294967296 → inner_label h q ≤ l → l < step_end h q → (h ≡ g) × (q ≡ p)
same_step g p l a b c d h q a2 b2 c2 d2 =
    let e : h ≡ g = omega arith in
    (e, omega arith)

pub inner_labels_differ : InnerLabelsDiffer
inner_labels_differ g p l a b c d = (not_inside g p l a b c d, same_step g p l a b c d)
