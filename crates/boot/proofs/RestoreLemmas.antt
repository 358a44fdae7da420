-- After the rollback and the copy each word that lives is the recovered one, so that the entries are no longer needed.
use Rattle.std.proofs.Common.{◌≡◌, ℕ, ◌+◌, ◌-◌, ◌/◌, ◌≤◌, Bool, true, false, refl, sym, ◌∙◌, ap, subst, arith}
use Rattle.base16.proofs.Writes.{put-other}
use Rattle.base16.specs.Board.{segment_start}
use Rattle.base16.specs.Memory.{put}
use Rattle.board_map.specs.Map.{gate_address, count_address, block_log_start, undo_address, gate_of, count_of}
use Rattle.board_map.specs.Map.{segment_of, current, in_segment, IsOutside}
use Rattle.board_map.specs.Recovered.{registers_in, state_in, recovered, undone, lives, is_live}
use Rattle.board_map.specs.Ticks.{count_cleared, IsUnlogged, Keeps}
use Rattle.board_map.specs.WellFormed.{IsWellFormed}
use Rattle.board_map.proofs.TickKinds.{tick_keeps}
use Rattle.board_map.proofs.Undoing.{recovered-inside, recovered-outside, segment-place, false-outside}
use Rattle.board_map.proofs.WriteKinds.{entry_kept}
use Rattle.board_map.proofs.Writes.{live-low, live-even, loggable-range}
use Rattle.boot.specs.Restoring.{IsMemory, IsUntouched, PutsBack, Copies}
use Rattle.world.specs.World.{WorldState, Spends, Spends-join}

by_test : {P : Type 0} (q : Bool) → (q ≡ true → P) → (q ≡ false → P) → P
by_test true f g = f refl
by_test false f g = g refl

-- two memories that recover to the same machine have the same live addresses and the same working segment
pub same_segment : (m w : ℕ → ℕ) → recovered w ≡ recovered m → segment_of w ≡ segment_of m
same_segment m w e = ap (λ r. r.state 0) e

same_live : (m w : ℕ → ℕ) (b : ℕ) → recovered w ≡ recovered m → lives w b ≡ lives m b
same_live m w b e = ap (λ r. is_live r.registers r.state b) e

-- the gate has no entry
pub gate_unlogged : (m : ℕ → ℕ) → IsWellFormed m → IsUnlogged m gate_address
gate_unlogged m f = λ i l e. let r = loggable-range (m (undo_address i)) (f.undo i l).0 in omega (arith, e, r.0)

-- what holds once the old words stand again and the segment is copied
pub record Stands (m w v : ℕ → ℕ) : Type 0 where
  pub undone : (b : ℕ) → w b ≡ undone m b
  pub others : (b : ℕ) → IsUnlogged m b → w b ≡ m b
  pub gate : gate_of w ≡ gate_of m
  pub recovered : recovered w ≡ recovered m
  pub copies : Copies 128 w v

stands_at : (m w v : ℕ → ℕ) (b : ℕ) → Stands m w v → lives m b ≡ true → v b ≡ (recovered m).memory b
stands_at m w v b h alive =
    let s : segment_of w ≡ segment_of m = same_segment m w h.recovered in
    by_test (in_segment (segment_of m) b)
    (λ inside.
    let i = (b - segment_start (segment_of w)) / 2 in
    let here : in_segment (segment_of w) b ≡ true = ap (λ k. in_segment k b) s ∙ inside in
    let alive' : lives w b ≡ true = same_live m w b h.recovered ∙ alive in
    let p = segment-place (segment_of w) b (live-even (registers_in (current m)) (state_in (current m)) b alive) here in
    ap v (sym p.1) ∙ h.copies.copied i p.0 ∙ sym (recovered-inside w b alive' here) ∙ ap (λ r. r.memory b) h.recovered)
    (λ outside.
    let far : IsOutside (segment_of w) b = false-outside (segment_of w) b (ap (λ k. in_segment k b) s ∙ outside) in
    h.copies.others b far ∙ h.undone b ∙ sym (recovered-outside m b alive outside))

-- what a boot leaves
pub record Restored (m u : ℕ → ℕ) : Type 0 where
  pub well_formed : IsWellFormed u
  pub count : count_of u ≡ 0
  pub memory : IsMemory u (recovered m)
  pub recovered : recovered u ≡ recovered m
  pub rest : PutsBack m u
  pub others : (b : ℕ) → IsUntouched m b → u b ≡ m b

-- the count is cleared last
pub restored : (m w v u : ℕ → ℕ) (slot : ℕ) → Stands m w v → slot ≡ gate_of v → u ≡ put v (count_address slot) 0 → Restored m u
restored m w v u slot h here was =
    let f = h.copies.well_formed in
    let same : recovered v ≡ recovered m = h.copies.recovered ∙ h.recovered in
    let back : (b : ℕ) → lives v b ≡ true → in_segment (segment_of v) b ≡ false
    → v b ≡ (recovered v).memory b = λ b alive outside.
    stands_at m w v b h (sym (same_live m v b same) ∙ alive) ∙ sym (ap (λ r. r.memory b) same) in
    let t : Keeps count_cleared v (put v (count_address (gate_of v)) 0) =
    tick_keeps count_cleared v (count_address (gate_of v)) 0 f (record { place = refl; value = refl; back = back }) in
    let other : (b : ℕ) → IsOutside (segment_of m) b → (b ≡ count_address (gate_of m) → ⊥)
    → put v (count_address (gate_of v)) 0 b ≡ w b = λ b far count.
    put-other v (count_address (gate_of v)) 0 b (λ e. count (e ∙ ap count_address (h.copies.gate ∙ h.gate)))
    ∙ h.copies.others b (subst (λ s. IsOutside s b) (sym (same_segment m w h.recovered)) far) in
    subst (Restored m) (sym (was ∙ ap (λ k. put v (count_address k) 0) here)) (record {
      well_formed = t.well_formed;
      count = t.entries;
      memory = λ b alive.
          let low : block_log_start ≤ b = live-low (registers_in (current m)) (state_in (current m)) b alive in
          entry_kept v 0 b f (omega arith) ∙ stands_at m w v b h alive;
      recovered = t.recovered ∙ same;
      rest = λ b far count. other b far count ∙ h.undone b;
      others = λ b l. other b l.segment l.count ∙ h.others b l.entry;
    })

-- a boot that power cuts in the copy, or after it
pub cut_short : (m w v : ℕ → ℕ) (b : ℕ) → recovered w ≡ recovered m → ((b : ℕ) → IsUnlogged m b → w b ≡ m b) → Copies 0 w v
    → IsUntouched m b → v b ≡ m b
cut_short m w v b same others kept l = kept.others b (subst (λ s. IsOutside s b) (sym (same_segment m w same)) l.segment)
    ∙ others b l.entry

pub spends_all : {n : ℕ} {a b c d : WorldState} → Spends n a b → Spends 128 b c → Spends 1 c d → Spends (n + 129) a d
spends_all {n} {a} {b} {c} {d} p q r =
    let e : n + 128 + 1 ≡ n + 129 = omega arith in
    let t : Spends (n + 128 + 1) a d = Spends-join (Spends-join p q) r in
    subst (λ k. Spends k a d) e t
