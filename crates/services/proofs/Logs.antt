-- What the undo log still tells after a commit: the words of the commit before.
use Rattle.std.proofs.Common.{◌≡◌, ℕ, ◌+◌, ◌≤◌, true, false, sym, ap, ◌∙◌, arith}
use Rattle.board_map.specs.Map.{undo_log_start, undo_address, block_log_start, current, count_of, segment_of, in_segment}
use Rattle.board_map.specs.Recovered.{Machine, recovered, lives, is_live, put_back, registers_in, state_in}
use Rattle.board_map.proofs.Undoing.{recovered-outside}
use Rattle.board_map.proofs.Writes.{put_back-cong, live-low}
use Rattle.services.specs.Serving.{Tells}

pub tells : (m m1 m2 : ℕ → ℕ) (log : ℕ) → recovered m1 ≡ recovered m → log ≡ count_of m1
    → ((b : ℕ) → undo_log_start ≤ b → m2 b ≡ m1 b)
    → Tells log m m2
tells m m1 m2 log rec count past = record {
  back = λ b alive out.
      let alive1 : lives m1 b ≡ true = ap (λ (x : Machine). is_live x.registers x.state b) rec ∙ alive in
      let out1 : in_segment (segment_of m1) b ≡ false = ap (λ (x : Machine). in_segment (x.state 0) b) rec ∙ out in
      let low : block_log_start ≤ b = live-low (registers_in (current m)) (state_in (current m)) b alive in
      put_back-cong (λ i. m2 (undo_address i)) (λ i. m1 (undo_address i)) (λ i. m2 (undo_address i + 2))
      (λ i. m1 (undo_address i + 2)) log m2 m1 b
      (λ i l. past (undo_address i) (omega arith)) (λ i l. past (undo_address i + 2) (omega arith)) (past b (omega arith))
      ∙ ap (λ n. put_back (λ i. m1 (undo_address i)) (λ i. m1 (undo_address i + 2)) n m1 b) count
      ∙ sym (recovered-outside m1 b alive1 out1)
      ∙ ap (λ (x : Machine). x.memory b) rec;
}
