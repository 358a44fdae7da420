-- A scalar that lies in the data, as the tests have it.
use Rattle.std.proofs.Common.{◌≡◌, ℕ, true, false, zero, suc, refl, sym, ap, ◌∙◌, subst, arith, Some, None, [], ◌∷◌}
use Rattle.std.specs.Prelude.{IfSome, slice_get}
use Rattle.base16.specs.declared.image.Kind.TheVariants.{Int}
use Rattle.base16.specs.declared.image.Scalar.{Scalar}
use Rattle.display.specs.Display.{LiesInData, IsInData, value_bytes, stamp_bytes, is_of_value, is_within, is_of_stamp, AreInData}

in-data : (x : Scalar) → x.address ≡ 0x4000 → x.kind ≡ Int → x.stamp ≡ None → IsInData x
in-data x at kind none = record {
  value = subst (λ a. LiesInData a (value_bytes x.kind)) (sym at)
      (subst (λ k. LiesInData 0x4000 (value_bytes k)) (sym kind)
      (record { low = omega arith; high = omega arith; even = λ h. refl }));
  stamp = subst (λ o. IfSome o (λ a. LiesInData a stamp_bytes)) (sym none) tt;
}

never : false ≡ true → ⊥
never h = cc

same : (x y : Scalar) → Some x ≡ Some y → x ≡ y
same x y h = cc

no-scalar : (y : Scalar) → None ≡ Some y → ⊥
no-scalar y h = cc

is-placed : (x : Scalar) → IsInData x → (s : ℕ) (y : Scalar) → slice_get (x ∷ []) s ≡ Some y → IsInData y
is-placed x h zero y e = subst IsInData (same x y e) h
is-placed x h (suc s) y e = absurd (no-scalar y e)

one-value : (x : Scalar) (s t b : ℕ) → is_of_value (slice_get (x ∷ []) s) b ≡ true → is_of_value (slice_get (x ∷ []) t) b ≡ true
    → s ≡ t
one-value x zero zero b h k = refl
one-value x zero (suc t) b h k = absurd (never k)
one-value x (suc s) t b h k = absurd (never h)

no-stamp : (x : Scalar) (t b : ℕ) → x.stamp ≡ None → is_of_stamp (slice_get (x ∷ []) t) b ≡ false
no-stamp x zero b none = ap (λ o. is_within o b) none
no-stamp x (suc t) b none = refl

-- One scalar alone, of two bytes at 4000 and without a stamp.
pub two_bytes_placed : (x : Scalar) → x.address ≡ 0x4000 → x.kind ≡ Int → x.stamp ≡ None → AreInData (x ∷ [])
two_bytes_placed x at kind none = record {
  placed = is-placed x (in-data x at kind none);
  values = one-value x;
  stamps = λ s t b h k. absurd (never (sym (no-stamp x s b none) ∙ h));
  both = λ s t b h. no-stamp x t b none;
}
