-- What stood at an address before: the old word of its first entry, or what stands.
use Rattle.std.specs.Prelude.{◌≡◌, ◌≢◌, ◌⊎◌, ℕ, ◌<◌, ◌≤◌, ◌%◌, Bool, true, false, ◌&&◌, ◌||◌, nat_eq, List, slice_index, zero, suc, refl}
use Rattle.std.proofs.Common.{sym, ◌∙◌, ap, inl, inr, arith, cond}
use Rattle.std.proofs.lemmas.Bool.Decides.{nat_tests}
use Rattle.base16.proofs.Writes.{put-same, put-other}
use Rattle.base16.specs.Board.{outputs_start, outputs_end, stack_start, data_start, data_end, code_start, code_end, segment_top, segment_count}
use Rattle.base16.specs.Memory.{put}
use Rattle.board_map.specs.Map.{register_count, state_count, block_log_start, block_address, current, segment_of, in_segment, between}
use Rattle.board_map.specs.Recovered.{put_back, recovered, lives, state_in, machine_of, first, is_live}
use Rattle.board_map.specs.WellFormed.{IsWellFormed}
use Rattle.display.specs.Display.{is_shown, SameWords}
use Rattle.display.specs.Log.{before}

same_or_not : (a b : ℕ) → (a ≡ b) ⊎ (a ≢ b)
same_or_not a b = grind (arith, nat_tests)

-- An address without an entry keeps its word; one with entries gets the old word of the first.
pub put_back-unlogged : (p o : ℕ → ℕ) (n : ℕ) (m : ℕ → ℕ) (b : ℕ) → ((i : ℕ) → i < n → p i ≢ b) → put_back p o n m b ≡ m b
put_back-unlogged p o zero m b h = refl
put_back-unlogged p o (suc n) m b h =
    put_back-unlogged p o n (put m (p n) (o n)) b (λ i l. h i (omega arith))
    ∙ put-other m (p n) (o n) b (λ e. h n (omega arith) (sym e))

pub put_back-first : (p o : ℕ → ℕ) (n : ℕ) (m : ℕ → ℕ) (b i : ℕ) → i < n → p i ≡ b → ((j : ℕ) → j < i → p j ≢ b)
    → put_back p o n m b ≡ o i
put_back-first p o zero m b i l e h = absurd (omega arith)
put_back-first p o (suc n) m b i l e h = elim (same_or_not i n) [
  | inl s ↦
      put_back-unlogged p o n (put m (p n) (o n)) b (λ j k. h j (omega (arith, s)))
      ∙ ap (put m (p n) (o n)) (sym (ap p (sym s) ∙ e)) ∙ put-same m (p n) (o n) ∙ ap o (sym s)
  | inr d ↦ put_back-first p o n (put m (p n) (o n)) b i (omega arith) e h
]

-- ---- from one commit to the next

shown_or : (p q : Bool) → (p || q) ≡ true → (p ≡ true) ⊎ (q ≡ true)
shown_or true q h = inl refl
shown_or false q h = inr h

between_holds : (low high b : ℕ) → between low high b ≡ true → (low ≤ b) × (b < high)
between_holds low high b h = grind (arith, nat_tests)

outside_segment : (s b : ℕ) → s < segment_count → (b < stack_start) ⊎ (data_start ≤ b) → in_segment s b ≡ false
outside_segment s b l (inl h) = grind (arith, nat_tests)
outside_segment s b l (inr h) = grind (arith, nat_tests)

shown_outside : (b : ℕ) → is_shown b ≡ true → (b < stack_start) ⊎ (data_start ≤ b)
shown_outside b h = elim (shown_or (between outputs_start outputs_end b) (between data_start data_end b) h) [
  | inl k ↦ let r = between_holds outputs_start outputs_end b k in inl (omega (arith, r.1))
  | inr k ↦ let r = between_holds data_start data_end b k in inr r.0
]

live_of : (p a o t d c : Bool) → p ≡ true → (o || d) ≡ true → (p && (a || o || t || d || c)) ≡ true
live_of true true o t d c e h = refl
live_of true false true t d c e h = refl
live_of true false false true d c e h = refl
live_of true false false false true c e h = refl
live_of true false false false false c e h = cc
live_of false a o t d c e h = cc

even_test : (b : ℕ) → b % 2 ≡ 0 → nat_eq (b % 2) 0 ≡ true
even_test b h = grind (arith, nat_tests)

pub shown-lives : (m : ℕ → ℕ) (b : ℕ) → b % 2 ≡ 0 → is_shown b ≡ true → lives m b ≡ true
shown-lives m b even h =
    live_of (nat_eq (b % 2) 0) (between block_log_start (block_address (state_in (current m) 2)) b)
    (between outputs_start outputs_end b) (between stack_start (segment_top (state_in (current m) 0)) b)
    (between data_start data_end b) (between code_start code_end b) (even_test b even) h

-- Where so many entries put back are the words that lived outside the segment that worked, the memory before shows what
-- the older memory recovered to.
pub before-recovered : (log : ℕ) (old new : ℕ → ℕ) → IsWellFormed old
    → ((b : ℕ) → lives old b ≡ true → in_segment (segment_of old) b ≡ false → before log new b ≡ (recovered old).memory b)
    → SameWords (before log new) (recovered old).memory
before-recovered log old new w h = record {
  at = λ b even shown. h b (shown-lives old b even shown) (outside_segment (segment_of old) b w.segment (shown_outside b shown));
}

chosen : (b : Bool) (v w : ℕ) → b ≡ true → v ≡ cond b v w
chosen b v w e = sym (ap (λ c. cond c v w) e)

-- The machine of registers and state words over a memory shows what the memory does.
pub machine-shows : (registers state : List ℕ) (m : ℕ → ℕ) → SameWords m (machine_of registers state m).memory
machine-shows registers state m = record {
  at = λ b even shown.
      let r = first register_count (λ k. slice_index registers k) in
      let s = first state_count (λ k. slice_index state k) in
      chosen (is_live r s b) (m b) 0
      (live_of (nat_eq (b % 2) 0) (between block_log_start (block_address (s 2)) b) (between outputs_start outputs_end b)
      (between stack_start (segment_top (s 0)) b) (between data_start data_end b) (between code_start code_end b)
      (even_test b even) shown);
}
