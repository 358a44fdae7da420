-- The word of the recovered machine at one address.
use Rattle.std.specs.Prelude.{◌≡◌, ◌≢◌, ℕ, ◌+◌, ◌-◌, ◌*◌, ◌/◌, ◌%◌, ◌<◌, ◌≤◌, Bool, true, false}
use Rattle.std.proofs.Common.{cond, zero, suc, sym, ◌∙◌, ap, inl, inr, refl, arith}
use Rattle.std.proofs.lemmas.Bool.Decides.{nat_tests}
use Rattle.base16.proofs.Writes.{put-same, put-other}
use Rattle.base16.specs.Board.{segment_start, segment_top}
use Rattle.base16.specs.Memory.{put}
use Rattle.board_map.specs.Map.{undo_address, current, count_of, segment_of, in_segment, IsOutside}
use Rattle.board_map.specs.Recovered.{lives, put_back, undone, recovered}
use Rattle.board_map.specs.Ticks.{IsUnlogged}
use Rattle.board_map.proofs.Writes.{same_or_not}
use Rattle.board_map.proofs.WriteKinds.{in_segment-range}

back_unlogged : (p o : ℕ → ℕ) (n : ℕ) (m : ℕ → ℕ) (b : ℕ) → ((i : ℕ) → i < n → b ≢ p i) → put_back p o n m b ≡ m b
back_unlogged p o zero m b h = refl
back_unlogged p o (suc n) m b h = back_unlogged p o n (put m (p n) (o n)) b (λ i l. h i (omega arith))
    ∙ put-other m (p n) (o n) b (h n (omega arith))

back_first : (p o : ℕ → ℕ) (n : ℕ) (m : ℕ → ℕ) (b i : ℕ) → i < n → b ≡ p i → ((j : ℕ) → j < i → b ≢ p j)
    → put_back p o n m b ≡ o i
back_first p o zero m b i l e h = absurd (omega arith)
back_first p o (suc n) m b i l e h = elim (same_or_not i n) [
  | inl s ↦
      let here : b ≡ p n = e ∙ ap p s in
      back_unlogged p o n (put m (p n) (o n)) b (λ j k. h j (omega (arith, s))) ∙ ap (put m (p n) (o n)) here
      ∙ put-same m (p n) (o n) ∙ ap o (sym s)
  | inr d ↦ back_first p o n (put m (p n) (o n)) b i (omega arith) e h
]

-- A word without an entry is put back as it stands.
pub undone-unlogged : (m : ℕ → ℕ) (b : ℕ) → IsUnlogged m b → undone m b ≡ m b
undone-unlogged m b h = back_unlogged (λ i. m (undo_address i)) (λ i. m (undo_address i + 2)) (count_of m) m b h

-- A word with entries is the old word of the first of them.
pub undone-first : (m : ℕ → ℕ) (b i : ℕ) → i < count_of m → b ≡ m (undo_address i)
    → ((j : ℕ) → j < i → b ≢ m (undo_address j)) → undone m b ≡ m (undo_address i + 2)
undone-first m b i l e h = back_first (λ i. m (undo_address i)) (λ i. m (undo_address i + 2)) (count_of m) m b i l e h

-- the old word read of the first entry for an address
pub undone-read : (m : ℕ → ℕ) (b i n at old : ℕ) → n ≡ count_of m → i < n → at ≡ m (undo_address i)
    → old ≡ m (undo_address i + 2) → at ≡ b → ((j : ℕ) → j < i → b ≢ m (undo_address j)) → old ≡ undone m b
undone-read m b i n at old e l p o here h = o ∙ sym (undone-first m b i (omega (arith, e)) (sym here ∙ p) h)

in_copy : (p q : Bool) (x y : ℕ) → p ≡ true → q ≡ true → cond p (cond q x y) 0 ≡ x
in_copy p q x y h k = rw (h, k)

in_memory : (p q : Bool) (x y : ℕ) → p ≡ true → q ≡ false → cond p (cond q x y) 0 ≡ y
in_memory p q x y h k = rw (h, k)

nowhere : (p q : Bool) (x y : ℕ) → p ≡ false → cond p (cond q x y) 0 ≡ 0
nowhere p q x y h = rw h

-- In the working segment the recovered word is the slot's, outside it the one that is put back, and elsewhere 0.
pub recovered-inside : (m : ℕ → ℕ) (b : ℕ) → lives m b ≡ true → in_segment (segment_of m) b ≡ true
    → (recovered m).memory b ≡ current m ((b - segment_start (segment_of m)) / 2)
recovered-inside m b alive inside = in_copy (lives m b) (in_segment (segment_of m) b)
    (current m ((b - segment_start (segment_of m)) / 2)) (undone m b) alive inside

pub recovered-outside : (m : ℕ → ℕ) (b : ℕ) → lives m b ≡ true → in_segment (segment_of m) b ≡ false
    → (recovered m).memory b ≡ undone m b
recovered-outside m b alive outside = in_memory (lives m b) (in_segment (segment_of m) b)
    (current m ((b - segment_start (segment_of m)) / 2)) (undone m b) alive outside

pub recovered-dead : (m : ℕ → ℕ) (b : ℕ) → lives m b ≡ false → (recovered m).memory b ≡ 0
recovered-dead m b dead = nowhere (lives m b) (in_segment (segment_of m) b)
    (current m ((b - segment_start (segment_of m)) / 2)) (undone m b) dead

-- where an address of a segment stands in the slot's copy
pub segment-place : (s b : ℕ) → b % 2 ≡ 0 → in_segment s b ≡ true
    → ((b - segment_start s) / 2 < 128) × (segment_start s + 2 * ((b - segment_start s) / 2) ≡ b)
segment-place s b even h =
    let r = in_segment-range s b h in
    let low : segment_start s ≤ b = r.0 in
    let high : b < segment_top s = r.1 in
    (omega arith, omega arith)

pub false-outside : (s b : ℕ) → in_segment s b ≡ false → IsOutside s b
false-outside s b h = grind (arith, nat_tests)
