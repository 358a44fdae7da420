-- Old words are put back one by one, from the last entry.
use Rattle.std.proofs.Common.{◌≡◌, ℕ, ◌+◌, ◌<◌, ◌≤◌, suc, refl, sym, ◌∙◌, ap, subst, inl, arith}
use Rattle.base16.proofs.Writes.{put-other}
use Rattle.base16.specs.Board.{outputs_start}
use Rattle.base16.specs.Memory.{put}
use Rattle.board_map.specs.Map.{undo_address, count_of}
use Rattle.board_map.specs.Recovered.{recovered, undone, put_back}
use Rattle.board_map.specs.Ticks.{boot_word, IsUnlogged, Keeps}
use Rattle.board_map.specs.WellFormed.{IsWellFormed}
use Rattle.board_map.proofs.TickKinds.{tick_keeps}
use Rattle.board_map.proofs.Writes.{loggable-range}

-- in w the entries of m from `left` on are put back
pub record Back (m : ℕ → ℕ) (left : ℕ) (w : ℕ → ℕ) : Type 0 where
  pub well_formed : IsWellFormed w
  pub recovered : recovered w ≡ recovered m
  pub count : count_of w ≡ count_of m
  pub low : (b : ℕ) → b < outputs_start → w b ≡ m b
  pub others : (b : ℕ) → IsUnlogged m b → w b ≡ m b
  pub back : (b : ℕ) → put_back (λ i. m (undo_address i)) (λ i. m (undo_address i + 2)) left w b ≡ undone m b

pub back_start : (m : ℕ → ℕ) (n : ℕ) → IsWellFormed m → n ≡ count_of m → Back m n m
back_start m n f e = record {
  well_formed = f;
  recovered = refl;
  count = refl;
  low = λ b h. refl;
  others = λ b h. refl;
  back = λ b. ap (λ k. put_back (λ i. m (undo_address i)) (λ i. m (undo_address i + 2)) k m b) e;
}

pub back_step : (m w u : ℕ → ℕ) (left k a o : ℕ) → Back m left w → left ≡ suc k → left ≤ count_of m → a ≡ w (undo_address k)
    → o ≡ w (undo_address k + 2) → u ≡ put w a o → Back m k u
back_step m w u left k a o h e within address old was =
    let n : count_of w ≡ count_of m = h.count in
    let most : count_of w ≤ 256 = h.well_formed.count in
    let entry : k < count_of w = omega arith in
    let t : Keeps boot_word w (put w a o) = tick_keeps boot_word w a o h.well_formed (inl (k, entry, sym address)) in
    let high : outputs_start ≤ a = subst (λ x. outputs_start ≤ x) (sym address)
    (loggable-range (w (undo_address k)) (h.well_formed.undo k entry).0).0 in
    let ea : a ≡ m (undo_address k) = address ∙ h.low (undo_address k) (omega arith) in
    let eo : o ≡ m (undo_address k + 2) = old ∙ h.low (undo_address k + 2) (omega arith) in
    let p = λ (i : ℕ). m (undo_address i) in
    let q' = λ (i : ℕ). m (undo_address i + 2) in
    subst (Back m k) (sym was) (record {
      well_formed = t.well_formed;
      recovered = t.recovered ∙ h.recovered;
      count = t.entries ∙ n;
      low = λ b l. put-other w a o b (λ x. omega arith) ∙ h.low b l;
      others = λ b l. put-other w a o b (λ x. l k (omega arith) (x ∙ ea)) ∙ h.others b l;
      back = λ b. ap (λ x. put_back p q' k (put w x o) b) ea ∙ ap (λ x. put_back p q' k (put w (m (undo_address k)) x) b) eo
          ∙ ap (λ n. put_back p q' n w b) (sym e) ∙ h.back b;
    })
