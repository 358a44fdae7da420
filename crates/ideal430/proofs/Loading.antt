-- Words that are set one after another, and a loaded image.
use Rattle.std.proofs.Common.{◌≡◌, ◌≢◌, ℕ, ◌+◌, ◌-◌, ◌*◌, ◌/◌, ◌%◌, ◌<◌, ◌≤◌, Bool, true, false, List, [], ◌∷◌, length, slice_index, refl, sym, ap, ◌∙◌, subst, arith, ◌⊎◌, inl, inr, if◌then◌else◌}
use Rattle.std.specs.Prelude.{replicate}
use Rattle.std.proofs.Math.Path.{fun_ext}
use Rattle.std.proofs.lemmas.Bool.{ne_eqb, eq-eqb, cases_eq, cases_lt}
use Rattle.std.proofs.lemmas.List.{length-replicate, get_or-replicate, get_or_past}
use Rattle.std.proofs.lemmas.Bool.Decides.{nat_tests}
use Rattle.base16.specs.Memory.{words_of, put}
use Rattle.ideal430.specs.Places.{is_between, is_even}
use Rattle.ideal430.specs.Loaded.{control_word, loaded}
use Rattle.ideal430.specs.Shown.{filled}

filled-none : (start : ℕ) (ws : List ℕ) (m : ℕ → ℕ) (a : ℕ) → filled start ws 0 m a ≡ m a
filled-none start ws m a = grind (arith, nat_tests)

pub filled-zero : (start : ℕ) (ws : List ℕ) (m : ℕ → ℕ) → m ≡ filled start ws 0 m
filled-zero start ws m = fun_ext (λ a. sym (filled-none start ws m a))

-- one word more
filled-at : (start : ℕ) (ws : List ℕ) (n : ℕ) (m : ℕ → ℕ) (a : ℕ) → start % 2 ≡ 0
    → put (filled start ws n m) (start + 2 * n) (slice_index ws n) a ≡ filled start ws (n + 1) m a
unfolding put
filled-at start ws n m a e = by_case (cases_eq a (start + 2 * n))
  where
    by_case : ((a ≡ start + 2 * n) ⊎ (a ≡ start + 2 * n → ⊥))
        → put (filled start ws n m) (start + 2 * n) (slice_index ws n) a ≡ filled start ws (n + 1) m a
    by_case (inl k) =
        let even : a % 2 ≡ 0 = omega arith in
        let half : (a - start) / 2 ≡ n = omega arith in
        let low : start ≤ a = omega arith in
        let high : a < start + 2 * (n + 1) = omega arith in
        grind (arith, nat_tests)
    by_case (inr d) = grind (arith, nat_tests)

pub filled-suc : (start : ℕ) (ws : List ℕ) (n : ℕ) (m : ℕ → ℕ) → start % 2 ≡ 0
    → put (filled start ws n m) (start + 2 * n) (slice_index ws n) ≡ filled start ws (n + 1) m
filled-suc start ws n m e = fun_ext (λ a. filled-at start ws n m a e)

-- ---- a loaded image

pub replicate-zero : (n k : ℕ) → slice_index (replicate n 0) k ≡ 0
replicate-zero n k = by_case (cases_lt k n)
  where
    by_case : ((k < n) ⊎ (n ≤ k)) → slice_index (replicate n 0) k ≡ 0
    by_case (inl l) = get_or-replicate n k 0 0 l
    by_case (inr l) = get_or_past (replicate n 0) k 0 (subst (λ (x : ℕ). x ≤ k) (sym (length-replicate n 0)) l)

words_zero : (n a : ℕ) → words_of (replicate n 0) a ≡ 0
words_zero n a = by (is_even a)
  where
    by : (b : Bool) → (if b then slice_index (replicate n 0) (a / 2) else 0) ≡ 0
    by true = replicate-zero n (a / 2)
    by false = refl

filled-in : (start : ℕ) (ws : List ℕ) (n : ℕ) (m : ℕ → ℕ) (a : ℕ) → a % 2 ≡ 0 → start ≤ a → a < start + 2 * n
    → filled start ws n m a ≡ slice_index ws ((a - start) / 2)
filled-in start ws n m a e l h = grind (arith, nat_tests)

filled-below : (start : ℕ) (ws : List ℕ) (n : ℕ) (m : ℕ → ℕ) (a : ℕ) → a < start → filled start ws n m a ≡ m a
filled-below start ws n m a l = grind (arith, nat_tests)

filled-past : (start : ℕ) (ws : List ℕ) (n : ℕ) (m : ℕ → ℕ) (a : ℕ) → start + 2 * n ≤ a → filled start ws n m a ≡ m a
filled-past start ws n m a l = grind (arith, nat_tests)

filled-odd : (start : ℕ) (ws : List ℕ) (n : ℕ) (m : ℕ → ℕ) (a : ℕ) → a % 2 ≢ 0 → filled start ws n m a ≡ m a
filled-odd start ws n m a l = grind (arith, nat_tests)

-- from an address on the words of a list, and 0 behind them
filled-all : (start : ℕ) (ws : List ℕ) (m : ℕ → ℕ) (a : ℕ) → a % 2 ≡ 0 → start ≤ a → m a ≡ 0
    → filled start ws (length ws) m a ≡ slice_index ws ((a - start) / 2)
filled-all start ws m a e l z = by_case (cases_lt a (start + 2 * length ws))
  where
    by_case : ((a < start + 2 * length ws) ⊎ (start + 2 * length ws ≤ a))
        → filled start ws (length ws) m a ≡ slice_index ws ((a - start) / 2)
    by_case (inl h) = filled-in start ws (length ws) m a e l h
    by_case (inr h) =
        let past : length ws ≤ (a - start) / 2 = omega arith in
        filled-past start ws (length ws) m a h ∙ z ∙ sym (get_or_past ws ((a - start) / 2) 0 past)

-- magic word and version, then PC and SP of the start
abbrev marked : (ℕ → ℕ) → (ℕ → ℕ)
marked z = filled 0x1002 (0x5443 ∷ 1 ∷ []) 2 z

abbrev controlled : (ℕ → ℕ) → (ℕ → ℕ)
controlled z = filled 0x1200 (0x8000 ∷ 0x2100 ∷ []) 2 (marked z)

apart : (a s : ℕ) → a % 2 ≡ 0 → s % 2 ≡ 0 → (a ≡ s → ⊥) → (a ≡ s + 2 → ⊥) → s ≤ a → s + 2 * 2 ≤ a
apart a s e even x y l = omega arith

two-off : (s : ℕ) (ws : List ℕ) (m : ℕ → ℕ) (a : ℕ) → a % 2 ≡ 0 → s % 2 ≡ 0 → (a ≡ s → ⊥) → (a ≡ s + 2 → ⊥)
    → filled s ws 2 m a ≡ m a
two-off s ws m a e even x y = by (cases_lt a s)
  where
    by : ((a < s) ⊎ (s ≤ a)) → filled s ws 2 m a ≡ m a
    by (inl l) = filled-below s ws 2 m a l
    by (inr l) = filled-past s ws 2 m a (apart a s e even x y l)

control-none : (a : ℕ) → (a ≡ 0x1002 → ⊥) → (a ≡ 0x1004 → ⊥) → (a ≡ 0x1200 → ⊥) → (a ≡ 0x1202 → ⊥) → control_word a ≡ 0
control-none a n n1 n2 n3 = rw (ne_eqb a 0x1002 n, ne_eqb a 0x1004 n1, ne_eqb a 0x1200 n2, ne_eqb a 0x1202 n3) refl

control-high : (a : ℕ) → 0x2000 ≤ a → control_word a ≡ 0
control-high a l = grind (arith, nat_tests)

controlled-even : (z : ℕ → ℕ) (a : ℕ) → a % 2 ≡ 0 → z a ≡ 0 → controlled z a ≡ control_word a
controlled-even z a e h = by (cases_eq a 0x1002) (cases_eq a 0x1004) (cases_eq a 0x1200) (cases_eq a 0x1202)
  where
    by : ((a ≡ 0x1002) ⊎ (a ≡ 0x1002 → ⊥)) → ((a ≡ 0x1004) ⊎ (a ≡ 0x1004 → ⊥)) → ((a ≡ 0x1200) ⊎ (a ≡ 0x1200 → ⊥))
        → ((a ≡ 0x1202) ⊎ (a ≡ 0x1202 → ⊥)) → controlled z a ≡ control_word a
    by (inl k) x y w = subst (λ (b : ℕ). controlled z b ≡ control_word b) (sym k) refl
    by (inr n) (inl k) y w = subst (λ (b : ℕ). controlled z b ≡ control_word b) (sym k) refl
    by (inr n) (inr n1) (inl k) w = subst (λ (b : ℕ). controlled z b ≡ control_word b) (sym k) refl
    by (inr n) (inr n1) (inr n2) (inl k) = subst (λ (b : ℕ). controlled z b ≡ control_word b) (sym k) refl
    by (inr n) (inr n1) (inr n2) (inr n3) =
        two-off 0x1200 (0x8000 ∷ 0x2100 ∷ []) (marked z) a e refl n2 n3 ∙ two-off 0x1002 (0x5443 ∷ 1 ∷ []) z a e refl n n1 ∙ h
        ∙ sym (control-none a n n1 n2 n3)

abbrev with_data : (globals : List ℕ) (z : ℕ → ℕ) → (ℕ → ℕ)
with_data globals z = filled 0x4000 globals (length globals) (controlled z)

abbrev layers : (code globals : List ℕ) (z : ℕ → ℕ) → (ℕ → ℕ)
layers code globals z = filled 0x8000 code (length code) (with_data globals z)

layers-code : (code globals : List ℕ) (z : ℕ → ℕ) (a : ℕ) → length globals ≤ 8192 → z a ≡ 0 → a % 2 ≡ 0 → 0x8000 ≤ a
    → layers code globals z a ≡ slice_index code ((a - 0x8000) / 2)
layers-code code globals z a g h e l =
    filled-all 0x8000 code (with_data globals z) a e l
    (filled-past 0x4000 globals (length globals) (controlled z) a (omega arith) ∙ controlled-even z a e h
    ∙ control-high a (omega arith))

layers-data : (code globals : List ℕ) (z : ℕ → ℕ) (a : ℕ) → z a ≡ 0 → a % 2 ≡ 0 → 0x4000 ≤ a → a < 0x8000
    → layers code globals z a ≡ slice_index globals ((a - 0x4000) / 2)
layers-data code globals z a h e l u =
    filled-below 0x8000 code (length code) (with_data globals z) a u
    ∙ filled-all 0x4000 globals (controlled z) a e l (controlled-even z a e h ∙ control-high a (omega arith))

layers-low : (code globals : List ℕ) (z : ℕ → ℕ) (a : ℕ) → z a ≡ 0 → a % 2 ≡ 0 → a < 0x4000
    → layers code globals z a ≡ control_word a
layers-low code globals z a h e u =
    filled-below 0x8000 code (length code) (with_data globals z) a (omega arith)
    ∙ filled-below 0x4000 globals (length globals) (controlled z) a u ∙ controlled-even z a e h

layers-odd : (code globals : List ℕ) (z : ℕ → ℕ) (a : ℕ) → z a ≡ 0 → a % 2 ≢ 0 → layers code globals z a ≡ 0
layers-odd code globals z a h n =
    filled-odd 0x8000 code (length code) (with_data globals z) a n ∙ filled-odd 0x4000 globals (length globals) (controlled z) a n
    ∙ filled-odd 0x1200 (0x8000 ∷ 0x2100 ∷ []) 2 (marked z) a n ∙ filled-odd 0x1002 (0x5443 ∷ 1 ∷ []) 2 z a n ∙ h

loaded-code : (code globals : List ℕ) (a : ℕ) → a % 2 ≡ 0 → 0x8000 ≤ a → a < 0xF000
    → loaded code globals a ≡ slice_index code ((a - 0x8000) / 2)
loaded-code code globals a e l u = grind (arith, nat_tests)

loaded-data : (code globals : List ℕ) (a : ℕ) → a % 2 ≡ 0 → 0x4000 ≤ a → a < 0x8000
    → loaded code globals a ≡ slice_index globals ((a - 0x4000) / 2)
loaded-data code globals a e l u = grind (arith, nat_tests)

loaded-low : (code globals : List ℕ) (a : ℕ) → a % 2 ≡ 0 → a < 0x4000 → loaded code globals a ≡ control_word a
loaded-low code globals a e u =
    rw (eq-eqb (a % 2) 0 e, below 0x4000 0x8000 a u, below 0x8000 0xF000 a (omega arith)) refl
  where
    below : (low high a : ℕ) → a < low → is_between low high a ≡ false
    below low high a u = grind (arith, nat_tests)

loaded-top : (code globals : List ℕ) (a : ℕ) → a % 2 ≡ 0 → 0xF000 ≤ a → loaded code globals a ≡ control_word a
loaded-top code globals a e l =
    rw (eq-eqb (a % 2) 0 e, past 0x4000 0x8000 a (omega arith), past 0x8000 0xF000 a l) refl
  where
    past : (low high a : ℕ) → high ≤ a → is_between low high a ≡ false
    past low high a u = grind (arith, nat_tests)

loaded-odd : (code globals : List ℕ) (a : ℕ) → a % 2 ≢ 0 → loaded code globals a ≡ 0
loaded-odd code globals a n = rw (ne_eqb (a % 2) 0 n) refl

loaded-at : (code globals : List ℕ) (z : ℕ → ℕ) (a : ℕ) → length code ≤ 14336 → length globals ≤ 8192 → z a ≡ 0
    → layers code globals z a ≡ loaded code globals a
loaded-at code globals z a c g h = by_parity (cases_eq (a % 2) 0)
  where
    at : a % 2 ≡ 0 → ((a < 0x4000) ⊎ (0x4000 ≤ a)) → ((a < 0x8000) ⊎ (0x8000 ≤ a)) → ((a < 0xF000) ⊎ (0xF000 ≤ a))
        → layers code globals z a ≡ loaded code globals a
    at e (inl u) y w = layers-low code globals z a h e u ∙ sym (loaded-low code globals a e u)
    at e (inr l) (inl u) w = layers-data code globals z a h e l u ∙ sym (loaded-data code globals a e l u)
    at e (inr l) (inr k) (inl u) = layers-code code globals z a g h e k ∙ sym (loaded-code code globals a e k u)
    at e (inr l) (inr k) (inr u) =
        let past : length code ≤ (a - 0x8000) / 2 = omega arith in
        layers-code code globals z a g h e k ∙ get_or_past code ((a - 0x8000) / 2) 0 past
        ∙ sym (loaded-top code globals a e u ∙ control-high a (omega arith))

    by_parity : ((a % 2 ≡ 0) ⊎ (a % 2 ≡ 0 → ⊥)) → layers code globals z a ≡ loaded code globals a
    by_parity (inl e) = at e (cases_lt a 0x4000) (cases_lt a 0x8000) (cases_lt a 0xF000)
    by_parity (inr n) = layers-odd code globals z a h n ∙ sym (loaded-odd code globals a n)

-- words that were set in this order, over 0s, are those of a loaded image
pub loaded_words : (code globals ws : List ℕ) (n : ℕ) (m1 m2 m3 m4 : ℕ → ℕ) → length code ≤ 14336 → length globals ≤ 8192
    → ws ≡ replicate n 0
    → m1 ≡ filled 0x1002 (0x5443 ∷ 1 ∷ []) 2 (words_of ws) → m2 ≡ filled 0x1200 (0x8000 ∷ 0x2100 ∷ []) 2 m1
    → m3 ≡ filled 0x4000 globals (length globals) m2 → m4 ≡ filled 0x8000 code (length code) m3 → m4 ≡ loaded code globals
loaded_words code globals ws n m1 m2 m3 m4 c g e e1 e2 e3 e4 =
    e4 ∙ ap (filled 0x8000 code (length code))
    (e3 ∙ ap (filled 0x4000 globals (length globals)) (e2 ∙ ap (filled 0x1200 (0x8000 ∷ 0x2100 ∷ []) 2) e1))
    ∙ fun_ext (λ a. loaded-at code globals (words_of ws) a c g (ap (λ (x : List ℕ). words_of x a) e ∙ words_zero n a))
