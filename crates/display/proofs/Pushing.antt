-- One scalar's change, from what is read of it.
use Rattle.std.specs.Prelude.{◌≡◌, ℕ, ◌+◌, ◌-◌, ◌<◌, ◌%◌, ◌==◌, Bool, true, false, if◌then◌else◌, nat_eq, min, List, [], ◌∷◌, ◌++◌, Option, Some, None, IfSome, slice_get, slice_index_or, length, refl}
use Rattle.std.proofs.Common.{sym, ◌∙◌, ap, subst, arith, cond, not, append_assoc}
use Rattle.std.proofs.lemmas.Bool.Decides.{nat_tests}
use Rattle.std.proofs.lemmas.Option.{slice_get_read}
use Rattle.std.specs.Option.{option_eq}
use Rattle.base16.specs.declared.image.Scalar.{Scalar}
use Rattle.base16.specs.Board.{outputs_start, most_outputs}
use Rattle.ideal430.specs.Service.{stamp_at}
use Rattle.world.specs.declared.history.Shown.{Shown}
use Rattle.world.specs.declared.history.Shown.TheVariants.{Value, Stamp, Outs}
use Rattle.display.specs.Display.{display_of, value_in, value_if, stamp_if, stamp_of, LiesInData, AreInData, stamp_bytes}
use Rattle.display.specs.Log.{before, shown_before}
use Rattle.display.specs.Sets.{value_change, stamp_change, length_change, all_below}
use Rattle.display.proofs.Walking.{shown-nothing, walk-starts, all_below-more}

within : (n s bound : ℕ) (number : Option ℕ) → number ≡ Some s → IfSome number (λ t. t < bound) → s < bound
within n s bound number e h = subst (λ o. IfSome o (λ t. t < bound)) e h

-- the scalar that is read by its number
pub known_scalar : (scalars : List Scalar) (s : ℕ) (x : Scalar) (number : Option ℕ) → number ≡ Some s
    → IfSome number (λ t. t < length scalars) → x ≡ slice_index_or scalars s x → slice_get scalars s ≡ Some x
known_scalar scalars s x number e known is =
    slice_get_read scalars (length scalars) s x refl (within s s (length scalars) number e known) is

no_change : {A : Type 0} (v w : ℕ) (x : A) → v ≡ w → (if v == w then [] else x ∷ []) ≡ []
no_change v w x e = let same : (v == w) ≡ true = grind (arith, nat_tests) in ap (λ b. cond b [] (x ∷ [])) same

-- A value that is as it was is not shown.
pub value-kept : (scalars : List Scalar) (log : ℕ) (m : ℕ → ℕ) (s : ℕ) (x : Scalar) (number : Option ℕ) (xs : List Shown)
    (a v w old new : ℕ) → number ≡ Some s → IfSome number (λ t. t < length scalars) → x ≡ slice_index_or scalars s x
    → a ≡ x.address - x.address % 2 → v ≡ before log m a → w ≡ m a → old ≡ value_in x.kind x.address v
    → new ≡ value_in x.kind x.address w → old ≡ new
    → xs ≡ xs ++ value_change (shown_before scalars log m) (display_of scalars m) number
value-kept scalars log m s x number xs a v w old new e known is at hv hw ho hn same =
    let d = shown_before scalars log m in
    let f = display_of scalars m in
    let here = known_scalar scalars s x number e known is in
    let dv : d.values s ≡ old = ap (value_if (before log m)) here
    ∙ ap (λ b. value_in x.kind x.address (before log m b)) (sym at) ∙ ap (value_in x.kind x.address) (sym hv) ∙ sym ho in
    let fv : f.values s ≡ new = ap (value_if m) here
    ∙ ap (λ b. value_in x.kind x.address (m b)) (sym at) ∙ ap (value_in x.kind x.address) (sym hw) ∙ sym hn in
    shown-nothing xs (value_change d f number)
    (ap (value_change d f) e ∙ no_change (d.values s) (f.values s) (Value s (f.values s)) (dv ∙ same ∙ sym fv))

-- ---- stamps

pub untimed-kept : (scalars : List Scalar) (log : ℕ) (m : ℕ → ℕ) (s : ℕ) (x : Scalar) (number : Option ℕ) (xs : List Shown)
    → number ≡ Some s → IfSome number (λ t. t < length scalars) → x ≡ slice_index_or scalars s x → x.stamp ≡ None
    → xs ≡ xs ++ stamp_change (shown_before scalars log m) (display_of scalars m) number
untimed-kept scalars log m s x number xs e known is none =
    let d = shown_before scalars log m in
    let f = display_of scalars m in
    let here = known_scalar scalars s x number e known is in
    let dv : d.stamps s ≡ None = ap (stamp_if (before log m)) here ∙ ap (stamp_of (before log m)) none in
    let fv : f.stamps s ≡ None = ap (stamp_if m) here ∙ ap (stamp_of m) none in
    shown-nothing xs (stamp_change d f number)
    (ap (stamp_change d f) e ∙ ap (λ o. cond (option_eq nat_eq o (f.stamps s)) [] (Stamp s (f.stamps s) ∷ [])) dv
    ∙ ap (λ o. cond (option_eq nat_eq None o) [] (Stamp s (f.stamps s) ∷ [])) fv)

-- where the stamp of a known scalar lies
pub known_place : (scalars : List Scalar) → AreInData scalars → (s : ℕ) (x : Scalar) (number : Option ℕ) (a : ℕ) → number ≡ Some s
    → IfSome number (λ t. t < length scalars) → x ≡ slice_index_or scalars s x → x.stamp ≡ Some a → LiesInData a stamp_bytes
known_place scalars placed s x number a e known is timed =
    subst (λ o. IfSome o (λ b. LiesInData b stamp_bytes)) timed
    (placed.placed s x (known_scalar scalars s x number e known is)).stamp

-- the stamp of a known scalar
stamp_known : (scalars : List Scalar) (m : ℕ → ℕ) (s : ℕ) (x : Scalar) (a : ℕ) (o : Option ℕ) → slice_get scalars s ≡ Some x
    → x.stamp ≡ Some a → o ≡ stamp_at m a → stamp_if m (slice_get scalars s) ≡ o
stamp_known scalars m s x a o here timed ho = ap (stamp_if m) here ∙ ap (stamp_of m) timed ∙ sym ho

stamps_equal : (o p : Option ℕ) → option_eq nat_eq o p ≡ true → o ≡ p
stamps_equal None None h = refl
stamps_equal None (Some y) h = cc
stamps_equal (Some x) None h = cc
stamps_equal (Some x) (Some y) h = ap Some (equal x y h)
  where
    equal : (x y : ℕ) → nat_eq x y ≡ true → x ≡ y
    equal x y h = grind (arith, nat_tests)

no_stamp : {A : Type 0} (o p : Option ℕ) (x : A) → o ≡ p → (if option_eq nat_eq o p then [] else x ∷ []) ≡ []
no_stamp None p x e = ap (λ q. cond (option_eq nat_eq None q) [] (x ∷ [])) (sym e)
no_stamp (Some v) p x e =
    ap (λ q. cond (option_eq nat_eq (Some v) q) [] (x ∷ [])) (sym e) ∙ ap (λ b. cond b [] (x ∷ [])) (itself v)
  where
    itself : (v : ℕ) → nat_eq v v ≡ true
    itself v = grind (arith, nat_tests)

one_stamp : {A : Type 0} (b : Bool) (x : A) → (b ≡ true → ⊥) → cond b [] (x ∷ []) ≡ x ∷ []
one_stamp true x h = absurd (h refl)
one_stamp false x h = refl

not_false : (b : Bool) → false ≡ not b → b ≡ true
not_false true h = refl
not_false false h = cc

not_same : (b : Bool) → true ≡ not b → b ≡ true → ⊥
not_same true h k = cc
not_same false h k = cc

-- A stamp that is as it was is not shown, and one that is not is.
pub stamp-kept : (scalars : List Scalar) (log : ℕ) (m : ℕ → ℕ) (s : ℕ) (x : Scalar) (number : Option ℕ) (xs : List Shown)
    (a : ℕ) (o p : Option ℕ) → number ≡ Some s → IfSome number (λ t. t < length scalars) → x ≡ slice_index_or scalars s x
    → x.stamp ≡ Some a → o ≡ stamp_at (before log m) a → p ≡ stamp_at m a → false ≡ not (option_eq nat_eq o p)
    → xs ≡ xs ++ stamp_change (shown_before scalars log m) (display_of scalars m) number
stamp-kept scalars log m s x number xs a o p e known is timed ho hp same =
    let d = shown_before scalars log m in
    let f = display_of scalars m in
    let here = known_scalar scalars s x number e known is in
    let dv : d.stamps s ≡ o = stamp_known scalars (before log m) s x a o here timed ho in
    let fv : f.stamps s ≡ p = stamp_known scalars m s x a p here timed hp in
    shown-nothing xs (stamp_change d f number)
    (ap (stamp_change d f) e ∙ no_stamp (d.stamps s) (f.stamps s) (Stamp s (f.stamps s))
    (dv ∙ stamps_equal o p (not_false (option_eq nat_eq o p) same) ∙ sym fv))

pub stamp-pushed : (scalars : List Scalar) (log : ℕ) (m : ℕ → ℕ) (s : ℕ) (x : Scalar) (number : Option ℕ) (xs ys : List Shown)
    (a : ℕ) (o p : Option ℕ) → number ≡ Some s → IfSome number (λ t. t < length scalars) → x ≡ slice_index_or scalars s x
    → x.stamp ≡ Some a → o ≡ stamp_at (before log m) a → p ≡ stamp_at m a → true ≡ not (option_eq nat_eq o p)
    → ys ≡ xs ++ Stamp s p ∷ []
    → ys ≡ xs ++ stamp_change (shown_before scalars log m) (display_of scalars m) number
stamp-pushed scalars log m s x number xs ys a o p e known is timed ho hp differs pushed =
    let d = shown_before scalars log m in
    let f = display_of scalars m in
    let here = known_scalar scalars s x number e known is in
    let dv : d.stamps s ≡ o = stamp_known scalars (before log m) s x a o here timed ho in
    let fv : f.stamps s ≡ p = stamp_known scalars m s x a p here timed hp in
    pushed ∙ ap (λ q. xs ++ Stamp s q ∷ []) (sym fv)
    ∙ ap (λ zs. xs ++ zs) (sym (ap (stamp_change d f) e
    ∙ one_stamp (option_eq nat_eq (d.stamps s) (f.stamps s)) (Stamp s (f.stamps s))
    (λ h. not_same (option_eq nat_eq o p) differs (ap (λ q. option_eq nat_eq q p) (sym dv)
    ∙ ap (option_eq nat_eq (d.stamps s)) (sym fv) ∙ h))))

-- ---- outputs

-- the outputs, behind what is shown of their number
pub outputs-start : (f : ℕ → List Shown) (xs ys s : List Shown) → s ≡ xs ++ ys → s ≡ xs ++ (ys ++ all_below f 0)
outputs-start f xs ys s h = h ∙ ap (λ zs. xs ++ zs) (walk-starts f ys)

pub outputs-more : (f : ℕ → List Shown) (xs ys s t : List Shown) (n : ℕ) → s ≡ xs ++ (ys ++ all_below f n) → t ≡ s ++ f n
    → t ≡ xs ++ (ys ++ all_below f (n + 1))
outputs-more f xs ys s t n h k =
    k ∙ ap (λ zs. zs ++ f n) h ∙ append_assoc xs (ys ++ all_below f n) (f n)
    ∙ ap (λ zs. xs ++ zs) (append_assoc ys (all_below f n) (f n) ∙ ap (λ zs. ys ++ zs) (sym (all_below-more f n)))

-- all parts, one behind another
pub parts-joined : (xs a b c s t u : List Shown) → xs ≡ [] → s ≡ xs ++ a → t ≡ s ++ b → u ≡ t ++ c → u ≡ a ++ (b ++ c)
parts-joined xs a b c s t u none hs ht hu =
    hu ∙ ap (λ ys. ys ++ c) (ht ∙ ap (λ ys. ys ++ b) (hs ∙ ap (λ ys. ys ++ a) none)) ∙ append_assoc a b c

-- The number of outputs is shown where it differs.
pub length-shown : (scalars : List Scalar) (log : ℕ) (m : ℕ → ℕ) (xs ys : List Shown) (v w old new : ℕ)
    → v ≡ before log m outputs_start → w ≡ m outputs_start → old ≡ min v most_outputs → new ≡ min w most_outputs
    → ys ≡ xs ++ (if old == new then [] else Outs new ∷ [])
    → ys ≡ xs ++ length_change (shown_before scalars log m) (display_of scalars m)
length-shown scalars log m xs ys v w old new hv hw ho hn pushed =
    pushed
    ∙ ap (λ n. xs ++ (if n == new then [] else Outs new ∷ [])) (ho ∙ ap (λ n. min n most_outputs) hv)
    ∙ ap (λ n. xs ++ (if min (before log m outputs_start) most_outputs == n then [] else Outs n ∷ []))
    (hn ∙ ap (λ n. min n most_outputs) hw)
