-- Memories with the same words in the outputs and the data show the same, and have the same changes.
use Rattle.std.specs.Prelude.{◌≡◌, ℕ, ◌+◌, ◌*◌, ◌<◌, ◌≤◌, ◌%◌, ◌==◌, ◌⊎◌, Bool, true, false, ◌&&◌, if◌then◌else◌, nat_eq, nat_le, nat_lt, min, List, [], ◌∷◌, ◌++◌, Option, Some, None, IfSome, slice_get, length, zero, suc, refl}
use Rattle.std.proofs.Common.{sym, ◌∙◌, ap, inl, inr, arith, cond, get_or}
use Rattle.std.proofs.lemmas.Bool.Decides.{nat_tests}
use Rattle.std.proofs.lemmas.Option.{slice_get_cases}
use Rattle.std.specs.Option.{option_eq}
use Rattle.base16.specs.Board.{outputs_start, outputs_end, data_start, data_end, most_outputs}
use Rattle.base16.specs.declared.image.Scalar.{Scalar}
use Rattle.core430.specs.Bytes.{word_address}
use Rattle.ideal430.specs.Service.{stamp_at}
use Rattle.world.specs.History.{Display}
use Rattle.world.specs.declared.history.Shown.{Shown}
use Rattle.world.specs.declared.history.Shown.TheVariants.{Value, Stamp, Outs, Out}
use Rattle.display.specs.Display.{display_of, value_in, value_of, value_if, stamp_if, stamp_of, output_address, is_shown, SameWords, ShowsSame, LiesInData, IsInData, AreInData, stamp_bytes}
use Rattle.display.specs.Sets.{value_number, stamp_number, value_change, stamp_change, value_set, stamp_set, length_change, out_change, all_below, sets_between}
use Rattle.display.proofs.Numbers.{value_bytes-some}

-- ---- showing the same

pub ShowsSame-itself : (d : Display) → ShowsSame d d
ShowsSame-itself d = record { values = λ s. refl; stamps = λ s. refl; outputs = refl; outs = λ i l. refl }

pub ShowsSame-back : {d e : Display} → ShowsSame d e → ShowsSame e d
ShowsSame-back h = record {
  values = λ s. sym (h.values s);
  stamps = λ s. sym (h.stamps s);
  outputs = sym h.outputs;
  outs = λ i l. sym (h.outs i (omega (arith, l, h.outputs)));
}

pub ShowsSame-join : {d e f : Display} → ShowsSame d e → ShowsSame e f → ShowsSame d f
ShowsSame-join h k = record {
  values = λ s. h.values s ∙ k.values s;
  stamps = λ s. h.stamps s ∙ k.stamps s;
  outputs = h.outputs ∙ k.outputs;
  outs = λ i l. h.outs i (omega (arith, l, k.outputs)) ∙ k.outs i l;
}

-- ---- the places that are shown

shown_data : (b : ℕ) → data_start ≤ b → b < data_end → is_shown b ≡ true
shown_data b low high = grind (arith, nat_tests)

shown_output : (b : ℕ) → outputs_start ≤ b → b < outputs_end → is_shown b ≡ true
shown_output b low high = grind (arith, nat_tests)

pub in_data : (m w : ℕ → ℕ) → SameWords m w → (b : ℕ) → b % 2 ≡ 0 → data_start ≤ b → b < data_end → m b ≡ w b
in_data m w h b even low high = h.at b even (shown_data b low high)

pub in_outputs : (m w : ℕ → ℕ) → SameWords m w → (b : ℕ) → b % 2 ≡ 0 → outputs_start ≤ b → b < outputs_end → m b ≡ w b
in_outputs m w h b even low high = h.at b even (shown_output b low high)

values_same : (m w : ℕ → ℕ) (x : Scalar) → SameWords m w → IsInData x → value_of m x ≡ value_of w x
values_same m w x h within =
    let some = value_bytes-some x.kind in
    let low = within.value.low in
    let high = within.value.high in
    let a = x.address in
    ap (value_in x.kind a) (in_data m w h (word_address a) (omega arith) (omega arith) (omega arith))

stamp_at-same : (m w : ℕ → ℕ) (a : ℕ) → m a ≡ w a → m (a + 2) ≡ w (a + 2) → stamp_at m a ≡ stamp_at w a
stamp_at-same m w a h k =
    ap (λ v. cond (nat_le 0x8000 (m (a + 2))) None (Some (v + 65536 * m (a + 2)))) h
    ∙ ap (λ v. cond (nat_le 0x8000 v) None (Some (w a + 65536 * v))) k

stamps_same : (m w : ℕ → ℕ) (o : Option ℕ) → SameWords m w → IfSome o (λ a. LiesInData a stamp_bytes)
    → stamp_of m o ≡ stamp_of w o
stamps_same m w None h within = refl
stamps_same m w (Some a) h within =
    let low = within.low in
    let high = within.high in
    let even : a % 2 ≡ 0 = within.even (omega arith) in
    stamp_at-same m w a (in_data m w h a even low (omega arith)) (in_data m w h (a + 2) (omega arith) (omega arith) (omega arith))

value_if-same : (scalars : List Scalar) (m w : ℕ → ℕ) (s : ℕ) → AreInData scalars → SameWords m w
    → ((x : Scalar) × (s < length scalars) × (slice_get scalars s ≡ Some x) × (get_or scalars s x ≡ x))
    ⊎ ((length scalars ≤ s) × (slice_get scalars s ≡ None))
    → value_if m (slice_get scalars s) ≡ value_if w (slice_get scalars s)
value_if-same scalars m w s placed h (inl here) =
    ap (value_if m) here.2 ∙ values_same m w here.0 h (placed.placed s here.0 here.2) ∙ sym (ap (value_if w) here.2)
value_if-same scalars m w s placed h (inr here) = ap (value_if m) here.1 ∙ sym (ap (value_if w) here.1)

stamp_if-same : (scalars : List Scalar) (m w : ℕ → ℕ) (s : ℕ) → AreInData scalars → SameWords m w
    → ((x : Scalar) × (s < length scalars) × (slice_get scalars s ≡ Some x) × (get_or scalars s x ≡ x))
    ⊎ ((length scalars ≤ s) × (slice_get scalars s ≡ None))
    → stamp_if m (slice_get scalars s) ≡ stamp_if w (slice_get scalars s)
stamp_if-same scalars m w s placed h (inl here) =
    ap (stamp_if m) here.2 ∙ stamps_same m w here.0.stamp h (placed.placed s here.0 here.2).stamp ∙ sym (ap (stamp_if w) here.2)
stamp_if-same scalars m w s placed h (inr here) = ap (stamp_if m) here.1 ∙ sym (ap (stamp_if w) here.1)

pub output_address-even : (i : ℕ) → output_address i % 2 ≡ 0
output_address-even i = omega arith

min_below : (n i : ℕ) → i < min n most_outputs → i < most_outputs
min_below n i h = omega arith

-- They show the same.
pub display_of-same : (scalars : List Scalar) (m w : ℕ → ℕ) → AreInData scalars → SameWords m w
    → ShowsSame (display_of scalars m) (display_of scalars w)
display_of-same scalars m w placed h = record {
  values = λ s. value_if-same scalars m w s placed h (slice_get_cases scalars s).1;
  stamps = λ s. stamp_if-same scalars m w s placed h (slice_get_cases scalars s).1;
  outputs = ap (λ n. min n most_outputs) (in_outputs m w h outputs_start refl (omega arith) (omega arith));
  outs = λ i l.
      let few = min_below (w outputs_start) i l in
      in_outputs m w h (output_address i) (output_address-even i) (omega arith) (omega arith);
}

-- ---- the same changes

pub all_below-same : (f g : ℕ → List Shown) (n : ℕ) → ((a : ℕ) → f a ≡ g a) → all_below f n ≡ all_below g n
unfolding all_below
all_below-same f g zero h = refl
all_below-same f g (suc n) h = ap (λ xs. xs ++ f n) (all_below-same f g n h) ∙ ap (λ xs. all_below g n ++ xs) (h n)

value_change-same : (d e f : Display) (o : Option ℕ) → ((s : ℕ) → d.values s ≡ f.values s)
    → value_change d e o ≡ value_change f e o
value_change-same d e f None h = refl
value_change-same d e f (Some s) h = ap (λ v. if v == e.values s then [] else Value s (e.values s) ∷ []) (h s)

stamp_change-same : (d e f : Display) (o : Option ℕ) → ((s : ℕ) → d.stamps s ≡ f.stamps s)
    → stamp_change d e o ≡ stamp_change f e o
stamp_change-same d e f None h = refl
stamp_change-same d e f (Some s) h = ap (λ v. if option_eq nat_eq v (e.stamps s) then [] else Stamp s (e.stamps s) ∷ []) (h s)

lower : (a b : ℕ) → nat_lt a b ≡ true → a < b
lower a b h = grind (arith, nat_tests)

both_same : (b : Bool) (p q : Bool) → (b ≡ true → p ≡ q) → (b && p) ≡ (b && q)
both_same true p q h = h refl
both_same false p q h = refl

out_change-same : (d e f : Display) (i : ℕ) → ShowsSame d f → out_change d e i ≡ out_change f e i
out_change-same d e f i h =
    ap (λ n. if nat_lt i n && (d.outs i == e.outs i) then [] else Out i (e.outs i) ∷ []) h.outputs
    ∙ ap (λ b. if b then [] else Out i (e.outs i) ∷ [])
    (both_same (nat_lt i f.outputs) (d.outs i == e.outs i) (f.outs i == e.outs i)
    (λ l. ap (λ v. v == e.outs i) (h.outs i (lower i f.outputs l))))

-- A display that shows the same has the same changes to another.
pub sets_between-same : (scalars : List Scalar) (d e f : Display) → ShowsSame d f
    → sets_between scalars d e ≡ sets_between scalars f e
sets_between-same scalars d e f h =
    let p = all_below-same (value_set scalars d e) (value_set scalars f e) data_end
    (λ a. value_change-same d e f (value_number scalars a) h.values) in
    let q = all_below-same (stamp_set scalars d e) (stamp_set scalars f e) data_end
    (λ a. stamp_change-same d e f (stamp_number scalars a) h.stamps) in
    let r : length_change d e ≡ length_change f e = ap (λ n. if n == e.outputs then [] else Outs e.outputs ∷ []) h.outputs in
    let t = all_below-same (out_change d e) (out_change f e) e.outputs (λ i. out_change-same d e f i h) in
    ap (λ xs. xs ++ (all_below (stamp_set scalars d e) data_end ++ (length_change d e ++ all_below (out_change d e) e.outputs))) p
    ∙ ap (λ xs. all_below (value_set scalars f e) data_end
    ++ (xs ++ (length_change d e ++ all_below (out_change d e) e.outputs))) q
    ∙ ap (λ xs. all_below (value_set scalars f e) data_end ++ (all_below (stamp_set scalars f e) data_end
    ++ (xs ++ all_below (out_change d e) e.outputs))) r
    ∙ ap (λ xs. all_below (value_set scalars f e) data_end ++ (all_below (stamp_set scalars f e) data_end
    ++ (length_change f e ++ xs))) t
