-- What a load leaves.
use Rattle.std.proofs.Common.{◌≡◌, ◌≢◌, ℕ, ◌+◌, ◌-◌, ◌*◌, ◌/◌, ◌%◌, ◌<◌, ◌≤◌, Bool, true, false, ◌||◌, nat_lt, List, length, slice_index, refl, sym, ap, ◌∙◌, arith, ◌⊎◌, inl, inr, None, if◌then◌else◌}
use Rattle.std.specs.Prelude.{replicate}
use Rattle.std.proofs.Math.Path.{fun_ext}
use Rattle.std.proofs.lemmas.Bool.{ne_eqb, eq-eqb, cases_eq, cases_lt}
use Rattle.std.proofs.lemmas.List.{get_or_past}
use Rattle.std.proofs.lemmas.Bool.Decides.{nat_tests}
use Rattle.base16.specs.Memory.{words_of, put}
use Rattle.base16.specs.declared.reading.Reading.{Reading}
use Rattle.base16.proofs.Writes.{put-at, put-other}
use Rattle.core430.specs.Bytes.{word_address, byte_in}
use Rattle.board_map.specs.Map.{current, count_of, undo_address, slot_address, in_segment}
use Rattle.base16.specs.Board.{segment_start}
use Rattle.board_map.specs.Recovered.{first, is_live, put_back, undone, recovered, registers_in, state_in}
use Rattle.ideal430.specs.Agreement.{Agrees}
use Rattle.ideal430.specs.Loaded.{control_word, loaded, start_of, start_registers}
use Rattle.ideal430.specs.Places.{is_even, is_fixed, is_between}
use Rattle.ideal430.proofs.Loading.{replicate-zero}
use Rattle.image.specs.Start.{IsStart}

-- ---- clearing

odd-zero : (ws : List ℕ) (a : ℕ) → a % 2 ≢ 0 → words_of ws a ≡ 0
odd-zero ws a n = rw (ne_eqb (a % 2) 0 n) refl

-- one word more is 0, and so is the odd address behind it
pub cleared_step : (ws xs : List ℕ) (i : ℕ) → ((a : ℕ) → a < 2 * i → words_of ws a ≡ 0) → words_of xs ≡ put (words_of ws) (2 * i) 0
    → (a : ℕ) → a < 2 * (i + 1) → words_of xs a ≡ 0
cleared_step ws xs i h e a l = by (cases_lt a (2 * i)) (cases_eq a (2 * i))
  where
    by : ((a < 2 * i) ⊎ (2 * i ≤ a)) → ((a ≡ 2 * i) ⊎ (a ≡ 2 * i → ⊥)) → words_of xs a ≡ 0
    by (inl k) q = ap (λ (f : ℕ → ℕ). f a) e ∙ put-other (words_of ws) (2 * i) 0 a (λ x. omega arith) ∙ h a k
    by (inr k) (inl q) = ap (λ (f : ℕ → ℕ). f a) e ∙ put-at (words_of ws) (2 * i) a 0 q
    by (inr k) (inr q) = odd-zero xs a (λ x. q (omega arith))

past-zero : (ws : List ℕ) (a : ℕ) → length ws ≡ 32768 → 65536 ≤ a → words_of ws a ≡ 0
past-zero ws a e l = by (is_even a)
  where
    by : (b : Bool) → (if b then slice_index ws (a / 2) else 0) ≡ 0
    by true = get_or_past ws (a / 2) 0 (omega arith)
    by false = refl

pub cleared_all : (ws : List ℕ) (i a : ℕ) → i ≡ 32768 → ((a : ℕ) → a < 2 * i → words_of ws a ≡ 0) → (0 < i → length ws ≡ 32768) → words_of ws a ≡ 0
cleared_all ws i a e h size = by (cases_lt a 65536)
  where
    by : ((a < 65536) ⊎ (65536 ≤ a)) → words_of ws a ≡ 0
    by (inl l) = h a (omega arith)
    by (inr l) = past-zero ws a (size (omega arith)) l

zero_word : (n a : ℕ) → words_of (replicate n 0) a ≡ 0
zero_word n a = by (is_even a)
  where
    by : (b : Bool) → (if b then slice_index (replicate n 0) (a / 2) else 0) ≡ 0
    by true = replicate-zero n (a / 2)
    by false = refl

pub zeros_are : (ws : List ℕ) → ((a : ℕ) → words_of ws a ≡ 0) → words_of ws ≡ words_of (replicate 32768 0)
zeros_are ws h = fun_ext (λ a. h a ∙ sym (zero_word 32768 a))

-- ---- a loaded memory recovers to the start

loaded-low : (code globals : List ℕ) (a : ℕ) → a % 2 ≡ 0 → a < 0x4000 → loaded code globals a ≡ control_word a
loaded-low code globals a e u =
    rw (eq-eqb (a % 2) 0 e, below 0x4000 0x8000 a u, below 0x8000 0xF000 a (omega arith)) refl
  where
    below : (low high a : ℕ) → a < low → is_between low high a ≡ false
    below low high a u = grind (arith, nat_tests)

control-registers : (k : ℕ) → control_word (0x1200 + 2 * k) ≡ start_registers k
control-registers k = grind (arith, nat_tests)

control-state : (k : ℕ) → control_word (0x1220 + 2 * k) ≡ 0
control-state k = grind (arith, nat_tests)

registers-at : (code globals : List ℕ) (k : ℕ) → k < 16 → current (loaded code globals) (128 + k) ≡ start_registers k
registers-at code globals k l =
    let e : slot_address 0 (128 + k) ≡ 0x1200 + 2 * k = omega arith in
    ap (loaded code globals) e ∙ loaded-low code globals (0x1200 + 2 * k) (omega arith) (omega arith) ∙ control-registers k

state-at : (code globals : List ℕ) (k : ℕ) → k < 9 → current (loaded code globals) (144 + k) ≡ 0
state-at code globals k l =
    let e : slot_address 0 (144 + k) ≡ 0x1220 + 2 * k = omega arith in
    ap (loaded code globals) e ∙ loaded-low code globals (0x1220 + 2 * k) (omega arith) (omega arith) ∙ control-state k

first-is : (n : ℕ) (f g : ℕ → ℕ) → ((k : ℕ) → k < n → f k ≡ g k) → ((k : ℕ) → n ≤ k → g k ≡ 0) → (k : ℕ) → first n f k ≡ g k
first-is n f g low high k = by (nat_lt k n) refl
  where
    by : (t : Bool) → nat_lt k n ≡ t → (if t then f k else 0) ≡ g k
    by true e = low k (grind (arith, nat_tests))
    by false e = sym (high k (grind (arith, nat_tests)))

registers-past : (k : ℕ) → 16 ≤ k → start_registers k ≡ 0
registers-past k l = grind (arith, nat_tests)

fixed-live : (r s : ℕ → ℕ) (a : ℕ) → is_even a ≡ true → is_fixed a ≡ true → is_live r s a ≡ true
fixed-live r s a e h = grind (arith, nat_tests)

fixed-outside : (a : ℕ) → is_fixed a ≡ true → in_segment 0 a ≡ false
fixed-outside a h = grind (arith, nat_tests)

choose : (p q : Bool) (x y : ℕ) → p ≡ true → q ≡ false → (if p then (if q then x else y) else 0) ≡ y
choose true false x y h k = refl
choose true true x y h k = cc
choose false q x y h k = cc

fixed-word : (m : ℕ → ℕ) (a : ℕ) → count_of m ≡ 0 → current m 144 ≡ 0 → is_even a ≡ true → is_fixed a ≡ true → (recovered m).memory a ≡ m a
fixed-word m a n s e h =
    let back : undone m ≡ m = ap (λ k. put_back (λ i. m (undo_address i)) (λ i. m (undo_address i + 2)) k m) n in
    choose (is_live (registers_in (current m)) (state_in (current m)) a) (in_segment (current m 144) a) (current m ((a - segment_start (current m 144)) / 2)) (undone m a)
    (fixed-live (registers_in (current m)) (state_in (current m)) a e h)
    (ap (λ k. in_segment k a) s ∙ fixed-outside a h)
    ∙ ap (λ (f : ℕ → ℕ). f a) back

pub loaded_start : (code globals : List ℕ) → IsStart (loaded code globals)
loaded_start code globals =
    let m = loaded code globals in
    record {
      well_formed = record {
        magic = refl;
        version = refl;
        gate = let e : m 0x1000 ≡ 0 = refl in omega arith;
        count = let e : m 0x1010 ≡ 0 = refl in omega arith;
        undo = λ i h. let e : count_of m ≡ 0 = refl in absurd (omega arith);
        segment = let e : current m 144 ≡ 0 = refl in omega arith;
        block_open = let e : current m 145 ≡ 0 = refl in omega arith;
        length = let e : current m 146 ≡ 0 = refl in omega arith;
        block = λ i h. let e : current m 146 ≡ 0 = refl in absurd (omega arith);
      };
      registers = fun_ext (first-is 16 (λ k. current m (128 + k)) start_registers (registers-at code globals) registers-past);
      state = first-is 9 (λ k. current m (144 + k)) (λ k. 0) (state-at code globals) (λ k h. refl);
      memory = λ a e h. fixed-word m a refl refl e h;
      entries = refl;
    }

-- ---- the start of the run

fixed-even : (b : ℕ) → is_fixed b ≡ true → is_fixed (word_address b) ≡ true
fixed-even b h = grind (arith, nat_tests)

word-even : (b : ℕ) → is_even (word_address b) ≡ true
word-even b = eq-eqb (word_address b % 2) 0 (omega arith)

or-true : (x y : Bool) → x ≡ true → (x || y) ≡ true
or-true true y h = refl
or-true false y h = cc

pub start_fits : (m : ℕ → ℕ) (readings : List Reading) → IsStart m
    → Agrees (start_of m readings) (recovered m).registers (recovered m).memory 0 None 0
start_fits m readings h = record {
  regs_are = sym h.registers;
  memory = record { at = λ b f. ap (byte_in b) (sym (h.memory (word_address b) (word-even b) (fixed-even b f))) };
  segment_is = refl;
  block_is = tt;
  marks_are = refl;
  fixed = λ b f. f;
  within = λ b f. or-true (is_fixed b) _ f;
}
