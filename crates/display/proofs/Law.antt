-- The changes from one memory to another make the display of the other of that of the one.
use Rattle.std.specs.Prelude.{◌≡◌, ℕ, ◌<◌, ◌≤◌, ◌==◌, ◌⊎◌, Bool, true, false, ◌&&◌, if◌then◌else◌, nat_eq, nat_lt, List, [], ◌∷◌, ◌++◌, Option, Some, None, IfSome, slice_get, fold, length, refl}
use Rattle.std.proofs.Common.{sym, ◌∙◌, ap, subst, inl, inr, arith, cond, get_or}
use Rattle.std.proofs.lemmas.Bool.Decides.{nat_tests}
use Rattle.std.proofs.lemmas.List.Sums.{fold-append}
use Rattle.std.proofs.lemmas.Option.{slice_get_cases}
use Rattle.std.specs.Option.{option_eq}
use Rattle.base16.specs.Board.{data_end}
use Rattle.base16.specs.declared.image.Scalar.{Scalar}
use Rattle.world.specs.History.{Display, changed}
use Rattle.world.specs.declared.history.Shown.{Shown}
use Rattle.world.specs.declared.history.Shown.TheVariants.{Value, Stamp, Outs, Out}
use Rattle.display.specs.Display.{display_of, value_if, stamp_if, stamp_of, ShowsSame, LiesInData, AreInData, stamp_bytes}
use Rattle.display.specs.Sets.{value_number, stamp_number, value_change, stamp_change, value_set, stamp_set, length_change, out_change, all_below, sets_between}
use Rattle.display.proofs.Folding.{valued, stamped, counted, put_out, values-fold, stamps-fold, outputs-fold, outs-fold, fold-still, fold-either, fold-settles}
use Rattle.display.proofs.Numbers.{value_bytes-some, value_number-found, stamp_number-found}

-- ---- a change that there is or not

one_keeps : {A : Type 0} (step : A → Shown → A) (b : Bool) (x : Shown) (v : A) → step v x ≡ v
    → fold step v (if b then [] else x ∷ []) ≡ v
one_keeps step true x v h = refl
one_keeps step false x v h = h

one_moves : {A : Type 0} (step : A → Shown → A) (b : Bool) (x : Shown) (v goal : A) → (step v x ≡ v) ⊎ (step v x ≡ goal)
    → (fold step v (if b then [] else x ∷ []) ≡ v) ⊎ (fold step v (if b then [] else x ∷ []) ≡ goal)
one_moves step true x v goal h = inl refl
one_moves step false x v goal h = h

one_reaches : {A : Type 0} (step : A → Shown → A) (b : Bool) (x : Shown) (v goal : A) → (b ≡ true → v ≡ goal) → step v x ≡ goal
    → fold step v (if b then [] else x ∷ []) ≡ goal
one_reaches step true x v goal same h = same refl
one_reaches step false x v goal same h = h

chosen : {A : Type 0} (c : Bool) (v w goal : A) → (c ≡ true → w ≡ goal) → (cond c w v ≡ v) ⊎ (cond c w v ≡ goal)
chosen true v w goal h = inr (h refl)
chosen false v w goal h = inl refl

either_same : {A : Type 0} (x y : A) → (x ≡ y) ⊎ (x ≡ y) → x ≡ y
either_same x y (inl e) = e
either_same x y (inr e) = e

equal : (a b : ℕ) → (a == b) ≡ true → a ≡ b
equal a b h = grind (arith, nat_tests)

itself : (s : ℕ) → (s == s) ≡ true
itself s = grind (arith, nat_tests)

equal_stamps : (p q : Option ℕ) → option_eq nat_eq p q ≡ true → p ≡ q
equal_stamps None None h = refl
equal_stamps None (Some y) h = cc
equal_stamps (Some x) None h = cc
equal_stamps (Some x) (Some y) h = ap Some (equal x y h)

-- ---- each part, on what another part of a display says

value_keeps : {A : Type 0} (step : A → Shown → A) (v : A) (d e : Display) (o : Option ℕ)
    → ((t w : ℕ) → step v (Value t w) ≡ v) → fold step v (value_change d e o) ≡ v
value_keeps step v d e None h = refl
value_keeps step v d e (Some t) h =
    one_keeps step (d.values t == e.values t) (Value t (e.values t)) v (h t (e.values t))

stamp_keeps : {A : Type 0} (step : A → Shown → A) (v : A) (d e : Display) (o : Option ℕ)
    → ((t : ℕ) (w : Option ℕ) → step v (Stamp t w) ≡ v) → fold step v (stamp_change d e o) ≡ v
stamp_keeps step v d e None h = refl
stamp_keeps step v d e (Some t) h =
    one_keeps step (option_eq nat_eq (d.stamps t) (e.stamps t)) (Stamp t (e.stamps t)) v (h t (e.stamps t))

length_keeps : {A : Type 0} (step : A → Shown → A) (v : A) (d e : Display) → ((n : ℕ) → step v (Outs n) ≡ v)
    → fold step v (length_change d e) ≡ v
length_keeps step v d e h = one_keeps step (d.outputs == e.outputs) (Outs e.outputs) v (h e.outputs)

out_keeps : {A : Type 0} (step : A → Shown → A) (v : A) (d e : Display) (i : ℕ)
    → ((j w : ℕ) → step v (Out j w) ≡ v) → fold step v (out_change d e i) ≡ v
out_keeps step v d e i h =
    one_keeps step (nat_lt i d.outputs && (d.outs i == e.outs i)) (Out i (e.outs i)) v (h i (e.outs i))

-- the parts of the changes, one behind another
parts : {A : Type 0} (step : A → Shown → A) (v a b c w : A) (p q r t : List Shown) → fold step v p ≡ a → fold step a q ≡ b
    → fold step b r ≡ c → fold step c t ≡ w → fold step v (p ++ (q ++ (r ++ t))) ≡ w
parts step v a b c w p q r t hp hq hr ht =
    fold-append step v p (q ++ (r ++ t)) ∙ ap (λ x. fold step x (q ++ (r ++ t))) hp
    ∙ (fold-append step a q (r ++ t) ∙ ap (λ x. fold step x (r ++ t)) hq)
    ∙ (fold-append step b r t ∙ ap (λ x. fold step x t) hr ∙ ht)

-- ---- values

value_moves : (d e : Display) (s v : ℕ) (o : Option ℕ)
    → (fold (valued s) v (value_change d e o) ≡ v) ⊎ (fold (valued s) v (value_change d e o) ≡ e.values s)
value_moves d e s v None = inl refl
value_moves d e s v (Some t) =
    one_moves (valued s) (d.values t == e.values t) (Value t (e.values t)) v (e.values s)
    (chosen (s == t) v (e.values t) (e.values s) (λ h. ap e.values (sym (equal s t h))))

value_reaches : (d e : Display) (s v : ℕ) → v ≡ d.values s → fold (valued s) v (value_change d e (Some s)) ≡ e.values s
value_reaches d e s v h =
    one_reaches (valued s) (d.values s == e.values s) (Value s (e.values s)) v (e.values s)
    (λ q. h ∙ equal (d.values s) (e.values s) q) (ap (λ c. cond c (e.values s) v) (itself s))

values_at : (scalars : List Scalar) (m w : ℕ → ℕ) (s v : ℕ) → AreInData scalars → v ≡ value_if m (slice_get scalars s)
    → ((x : Scalar) × (s < length scalars) × (slice_get scalars s ≡ Some x) × (get_or scalars s x ≡ x))
    ⊎ ((length scalars ≤ s) × (slice_get scalars s ≡ None))
    → fold (valued s) v (all_below (value_set scalars (display_of scalars m) (display_of scalars w)) data_end)
    ≡ value_if w (slice_get scalars s)
values_at scalars m w s v placed same (inl here) =
    let d = display_of scalars m in
    let e = display_of scalars w in
    let x = here.0 in
    let within = (placed.placed s x here.2).value in
    let some = value_bytes-some x.kind in
    let k : x.address < data_end = omega (arith, within.high, some) in
    let found = value_number-found scalars placed s x here.2 in
    fold-settles (valued s) (value_set scalars d e) v (e.values s) data_end x.address k
    (λ a. value_moves d e s v (value_number scalars a))
    (λ a. either_same (fold (valued s) (e.values s) (value_change d e (value_number scalars a))) (e.values s)
    (value_moves d e s (e.values s) (value_number scalars a)))
    (subst (λ o. fold (valued s) v (value_change d e o) ≡ e.values s) (sym found) (value_reaches d e s v same))
values_at scalars m w s v placed same (inr here) =
    let d = display_of scalars m in
    let e = display_of scalars w in
    let none : v ≡ e.values s = same ∙ ap (value_if m) here.1 ∙ sym (ap (value_if w) here.1) in
    elim (fold-either (valued s) (value_set scalars d e) v (e.values s) data_end
    (λ a. value_moves d e s v (value_number scalars a))
    (λ a. either_same (fold (valued s) (e.values s) (value_change d e (value_number scalars a))) (e.values s)
    (value_moves d e s (e.values s) (value_number scalars a)))) [ inl q ↦ q ∙ none | inr q ↦ q ]

values-shown : (scalars : List Scalar) (m w : ℕ → ℕ) (g : Display) (s : ℕ) → AreInData scalars
    → g.values s ≡ value_if m (slice_get scalars s)
    → (fold changed g (sets_between scalars (display_of scalars m) (display_of scalars w))).values s
    ≡ value_if w (slice_get scalars s)
values-shown scalars m w g s placed same =
    let d = display_of scalars m in
    let e = display_of scalars w in
    let goal = e.values s in
    values-fold s g (sets_between scalars d e)
    ∙ parts (valued s) (g.values s) goal goal goal goal
    (all_below (value_set scalars d e) data_end)
    (all_below (stamp_set scalars d e) data_end) (length_change d e)
    (all_below (out_change d e) e.outputs)
    (values_at scalars m w s (g.values s) placed same (slice_get_cases scalars s).1)
    (fold-still (valued s) (stamp_set scalars d e) goal data_end
    (λ a. stamp_keeps (valued s) goal d e (stamp_number scalars a) (λ t x. refl)))
    (length_keeps (valued s) goal d e (λ n. refl))
    (fold-still (valued s) (out_change d e) goal e.outputs (λ i. out_keeps (valued s) goal d e i (λ j x. refl)))

-- ---- stamps

stamp_moves : (d e : Display) (s : ℕ) (v : Option ℕ) (o : Option ℕ)
    → (fold (stamped s) v (stamp_change d e o) ≡ v) ⊎ (fold (stamped s) v (stamp_change d e o) ≡ e.stamps s)
stamp_moves d e s v None = inl refl
stamp_moves d e s v (Some t) =
    one_moves (stamped s) (option_eq nat_eq (d.stamps t) (e.stamps t)) (Stamp t (e.stamps t)) v (e.stamps s)
    (chosen (s == t) v (e.stamps t) (e.stamps s) (λ h. ap e.stamps (sym (equal s t h))))

stamp_reaches : (d e : Display) (s : ℕ) (v : Option ℕ) → v ≡ d.stamps s
    → fold (stamped s) v (stamp_change d e (Some s)) ≡ e.stamps s
stamp_reaches d e s v h =
    one_reaches (stamped s) (option_eq nat_eq (d.stamps s) (e.stamps s)) (Stamp s (e.stamps s)) v (e.stamps s)
    (λ q. h ∙ equal_stamps (d.stamps s) (e.stamps s) q) (ap (λ c. cond c (e.stamps s) v) (itself s))

-- where no stamp is found, both are as the older one
stamps_alike : (scalars : List Scalar) (m w : ℕ → ℕ) (s : ℕ) (v : Option ℕ) → v ≡ stamp_if m (slice_get scalars s)
    → stamp_if m (slice_get scalars s) ≡ stamp_if w (slice_get scalars s)
    → fold (stamped s) v (all_below (stamp_set scalars (display_of scalars m) (display_of scalars w)) data_end)
    ≡ stamp_if w (slice_get scalars s)
stamps_alike scalars m w s v same alike =
    let d = display_of scalars m in
    let e = display_of scalars w in
    elim (fold-either (stamped s) (stamp_set scalars d e) v (e.stamps s) data_end
    (λ a. stamp_moves d e s v (stamp_number scalars a))
    (λ a. either_same (fold (stamped s) (e.stamps s) (stamp_change d e (stamp_number scalars a))) (e.stamps s)
    (stamp_moves d e s (e.stamps s) (stamp_number scalars a)))) [ inl q ↦ q ∙ same ∙ alike | inr q ↦ q ]

stamps_of : (scalars : List Scalar) (m w : ℕ → ℕ) (s : ℕ) (v : Option ℕ) (x : Scalar) (o : Option ℕ) → AreInData scalars
    → v ≡ stamp_if m (slice_get scalars s) → slice_get scalars s ≡ Some x → x.stamp ≡ o → IfSome o (λ a. LiesInData a stamp_bytes)
    → fold (stamped s) v (all_below (stamp_set scalars (display_of scalars m) (display_of scalars w)) data_end)
    ≡ stamp_if w (slice_get scalars s)
stamps_of scalars m w s v x None placed same here none within =
    stamps_alike scalars m w s v same
    (ap (stamp_if m) here ∙ ap (stamp_of m) none ∙ sym (ap (stamp_of w) none) ∙ sym (ap (stamp_if w) here))
stamps_of scalars m w s v x (Some a) placed same here timed within =
    let d = display_of scalars m in
    let e = display_of scalars w in
    let k : a < data_end = omega (arith, within.high) in
    let found = stamp_number-found scalars placed s a x here timed in
    fold-settles (stamped s) (stamp_set scalars d e) v (e.stamps s) data_end a k
    (λ b. stamp_moves d e s v (stamp_number scalars b))
    (λ b. either_same (fold (stamped s) (e.stamps s) (stamp_change d e (stamp_number scalars b))) (e.stamps s)
    (stamp_moves d e s (e.stamps s) (stamp_number scalars b)))
    (subst (λ o. fold (stamped s) v (stamp_change d e o) ≡ e.stamps s) (sym found) (stamp_reaches d e s v same))

stamps_at : (scalars : List Scalar) (m w : ℕ → ℕ) (s : ℕ) (v : Option ℕ) → AreInData scalars
    → v ≡ stamp_if m (slice_get scalars s)
    → ((x : Scalar) × (s < length scalars) × (slice_get scalars s ≡ Some x) × (get_or scalars s x ≡ x))
    ⊎ ((length scalars ≤ s) × (slice_get scalars s ≡ None))
    → fold (stamped s) v (all_below (stamp_set scalars (display_of scalars m) (display_of scalars w)) data_end)
    ≡ stamp_if w (slice_get scalars s)
stamps_at scalars m w s v placed same (inl here) =
    stamps_of scalars m w s v here.0 here.0.stamp placed same here.2 refl (placed.placed s here.0 here.2).stamp
stamps_at scalars m w s v placed same (inr here) =
    stamps_alike scalars m w s v same (ap (stamp_if m) here.1 ∙ sym (ap (stamp_if w) here.1))

stamps-shown : (scalars : List Scalar) (m w : ℕ → ℕ) (g : Display) (s : ℕ) → AreInData scalars
    → g.stamps s ≡ stamp_if m (slice_get scalars s)
    → (fold changed g (sets_between scalars (display_of scalars m) (display_of scalars w))).stamps s
    ≡ stamp_if w (slice_get scalars s)
stamps-shown scalars m w g s placed same =
    let d = display_of scalars m in
    let e = display_of scalars w in
    let goal = e.stamps s in
    stamps-fold s g (sets_between scalars d e)
    ∙ parts (stamped s) (g.stamps s) (g.stamps s) goal goal goal
    (all_below (value_set scalars d e) data_end)
    (all_below (stamp_set scalars d e) data_end) (length_change d e)
    (all_below (out_change d e) e.outputs)
    (fold-still (stamped s) (value_set scalars d e) (g.stamps s) data_end
    (λ a. value_keeps (stamped s) (g.stamps s) d e (value_number scalars a) (λ t x. refl)))
    (stamps_at scalars m w s (g.stamps s) placed same (slice_get_cases scalars s).1)
    (length_keeps (stamped s) goal d e (λ n. refl))
    (fold-still (stamped s) (out_change d e) goal e.outputs (λ i. out_keeps (stamped s) goal d e i (λ j x. refl)))

-- ---- outputs

outputs-shown : (scalars : List Scalar) (d e g : Display) → g.outputs ≡ d.outputs
    → (fold changed g (sets_between scalars d e)).outputs ≡ e.outputs
outputs-shown scalars d e g same =
    outputs-fold g (sets_between scalars d e)
    ∙ parts counted g.outputs g.outputs g.outputs e.outputs e.outputs
    (all_below (value_set scalars d e) data_end)
    (all_below (stamp_set scalars d e) data_end) (length_change d e)
    (all_below (out_change d e) e.outputs)
    (fold-still counted (value_set scalars d e) g.outputs data_end
    (λ a. value_keeps counted g.outputs d e (value_number scalars a) (λ t x. refl)))
    (fold-still counted (stamp_set scalars d e) g.outputs data_end
    (λ a. stamp_keeps counted g.outputs d e (stamp_number scalars a) (λ t x. refl)))
    (one_reaches counted (d.outputs == e.outputs) (Outs e.outputs) g.outputs e.outputs
    (λ q. same ∙ equal d.outputs e.outputs q) refl)
    (fold-still counted (out_change d e) e.outputs e.outputs (λ i. out_keeps counted e.outputs d e i (λ j x. refl)))

out_moves : (d e : Display) (i v j : ℕ)
    → (fold (put_out i) v (out_change d e j) ≡ v) ⊎ (fold (put_out i) v (out_change d e j) ≡ e.outs i)
out_moves d e i v j =
    one_moves (put_out i) (nat_lt j d.outputs && (d.outs j == e.outs j)) (Out j (e.outs j)) v (e.outs i)
    (chosen (i == j) v (e.outs j) (e.outs i) (λ h. ap e.outs (sym (equal i j h))))

both : (p q : Bool) → (p && q) ≡ true → (p ≡ true) × (q ≡ true)
both true q h = (refl, h)
both false q h = (h, cc)

lower : (a b : ℕ) → nat_lt a b ≡ true → a < b
lower a b h = grind (arith, nat_tests)

out_reaches : (d e : Display) (i v : ℕ) → (i < d.outputs → v ≡ d.outs i) → fold (put_out i) v (out_change d e i) ≡ e.outs i
out_reaches d e i v h =
    one_reaches (put_out i) (nat_lt i d.outputs && (d.outs i == e.outs i)) (Out i (e.outs i)) v (e.outs i)
    (λ q. let t = both (nat_lt i d.outputs) (d.outs i == e.outs i) q in
    h (lower i d.outputs t.0) ∙ equal (d.outs i) (e.outs i) t.1)
    (ap (λ c. cond c (e.outs i) v) (itself i))

outs-shown : (scalars : List Scalar) (d e g : Display) (i : ℕ) → i < e.outputs → (i < d.outputs → g.outs i ≡ d.outs i)
    → (fold changed g (sets_between scalars d e)).outs i ≡ e.outs i
outs-shown scalars d e g i below same =
    let v = g.outs i in
    outs-fold i g (sets_between scalars d e)
    ∙ parts (put_out i) v v v v (e.outs i)
    (all_below (value_set scalars d e) data_end)
    (all_below (stamp_set scalars d e) data_end) (length_change d e)
    (all_below (out_change d e) e.outputs)
    (fold-still (put_out i) (value_set scalars d e) v data_end
    (λ a. value_keeps (put_out i) v d e (value_number scalars a) (λ t x. refl)))
    (fold-still (put_out i) (stamp_set scalars d e) v data_end
    (λ a. stamp_keeps (put_out i) v d e (stamp_number scalars a) (λ t x. refl)))
    (length_keeps (put_out i) v d e (λ n. refl))
    (fold-settles (put_out i) (out_change d e) v (e.outs i) e.outputs i below (out_moves d e i v)
    (λ j. either_same (fold (put_out i) (e.outs i) (out_change d e j)) (e.outs i) (out_moves d e i (e.outs i) j))
    (out_reaches d e i v same))

-- ---- the law

-- Whatever display shows the same as the older memory, with the changes it shows the same as the newer one.
pub sets_between-lead : (scalars : List Scalar) (m w : ℕ → ℕ) (g : Display) → AreInData scalars
    → ShowsSame g (display_of scalars m)
    → ShowsSame (fold changed g (sets_between scalars (display_of scalars m) (display_of scalars w))) (display_of scalars w)
sets_between-lead scalars m w g placed same = record {
  values = λ s. values-shown scalars m w g s placed (same.values s);
  stamps = λ s. stamps-shown scalars m w g s placed (same.stamps s);
  outputs = outputs-shown scalars (display_of scalars m) (display_of scalars w) g same.outputs;
  outs = λ i l. outs-shown scalars (display_of scalars m) (display_of scalars w) g i l (same.outs i);
}
