-- Tests joined by or and and.
use Rattle.std.proofs.Common.{◌≡◌, refl, Bool, true, false, ◌&&◌, ◌||◌, ◌⊎◌, inl, inr}

pub or-true : (p q : Bool) → (p || q) ≡ true → (p ≡ true) ⊎ (q ≡ true)
or-true true q h = inl refl
or-true false q h = inr h

pub or-left : (p q : Bool) → p ≡ true → (p || q) ≡ true
or-left true q h = refl
or-left false q h = cc

pub or-right : (p q : Bool) → q ≡ true → (p || q) ≡ true
or-right true q h = refl
or-right false q h = h

pub and-left : (p q : Bool) → (p && q) ≡ true → p ≡ true
and-left true q h = refl
and-left false q h = cc

pub and-right : (p q : Bool) → (p && q) ≡ true → q ≡ true
and-right true q h = h
and-right false q h = cc

pub and-both : {p q : Bool} → p ≡ true → q ≡ true → (p && q) ≡ true
and-both a b = cc

pub or-false-left : (p q : Bool) → (p || q) ≡ false → p ≡ false
or-false-left true q h = h
or-false-left false q h = refl

pub or-false-right : (p q : Bool) → (p || q) ≡ false → q ≡ false
or-false-right true q h = cc
or-false-right false q h = h

pub true-not-false : {b : Bool} → b ≡ true → b ≡ false → ⊥
true-not-false h k = cc
