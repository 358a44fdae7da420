-- One register is set in each turn.
use Rattle.std.proofs.Common.{◌≡◌, ℕ, ◌+◌, ◌<◌, List, length, slice_index, slice_set, sym, ◌∙◌, ap, inl, inr, arith}
use Rattle.std.proofs.Common.{get_or-set_same, get_or-set_other, length-set}
use Rattle.std.proofs.lemmas.Bool.Decides.{nat_tests}
use Rattle.base16.specs.Memory.{words_of}
use Rattle.board_map.specs.Map.{slot_address, current}
use Rattle.board_map.specs.Recovered.{first}
use Rattle.board_map.proofs.Writes.{same_or_not}
use Rattle.boot.proofs.booting.registers.Goals as goal

set_one : (r : List ℕ) (f : ℕ → ℕ) (n x : ℕ) → length r ≡ 16 → n < 16 → ((k : ℕ) → k < n → slice_index r k ≡ f k) → x ≡ f n
    → (k : ℕ) → k < n + 1 → slice_index (slice_set r n x) k ≡ f k
set_one r f n x size within before value k below =
    let room : n < length r = omega arith in
    let here : slice_index (slice_set r n x) n ≡ x = get_or-set_same r n x 0 room in
    elim (same_or_not k n) [
      | inl e ↦ ap (slice_index (slice_set r n x)) e ∙ here ∙ value ∙ ap f (sym e)
      | inr d ↦ get_or-set_other r n k x 0 d ∙ before k (omega arith)
    ]

first_within : (n : ℕ) (f : ℕ → ℕ) (k : ℕ) → k < n → f k ≡ first n f k
first_within n f k h = grind (arith, nat_tests)

pub loop-index-preserved : goal.loop-index-preserved
loop-index-preserved c =
    let m = words_of c.args.fram.now.words in
    record {
      size = length-set c.loop-index.r c.loop-index.index c.slot_word.result ∙ c.loop-index.invariant.size;
      filled = set_one c.loop-index.r (λ k. current m (128 + k)) c.loop-index.index c.slot_word.result
          c.loop-index.invariant.size c.loop-index-test.true c.loop-index.invariant.filled
          (c.slot_word.ensures ∙ ap (λ s. m (slot_address s (128 + c.loop-index.index))) c.gate-slot.ensures);
    }

pub returns : goal.returns
returns c = λ k h.
    let below : k < c.loop-index.index = omega arith in
    c.loop-index.invariant.filled k below ∙ first_within 16 (λ i. current (words_of c.args.fram.now.words) (128 + i)) k h
