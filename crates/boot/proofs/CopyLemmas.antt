-- The working segment is copied from the slot, word by word.
use Rattle.std.proofs.Common.{◌≡◌, ◌≢◌, ℕ, ◌+◌, ◌*◌, ◌<◌, refl, sym, ◌∙◌, ap, subst, inl, inr, arith}
use Rattle.base16.proofs.Writes.{put-same, put-other}
use Rattle.base16.specs.Board.{stack_start, segment_start}
use Rattle.base16.specs.Memory.{put}
use Rattle.board_map.specs.Map.{slot_address, gate_of, current, segment_of, IsOutside}
use Rattle.board_map.specs.Ticks.{boot_word, Keeps}
use Rattle.board_map.specs.WellFormed.{IsWellFormed}
use Rattle.board_map.proofs.TickKinds.{tick_keeps}
use Rattle.board_map.proofs.WriteKinds.{in_segment-true}
use Rattle.board_map.proofs.Writes.{same_or_not}
use Rattle.boot.specs.Restoring.{Copies}

pub copy_start : (m : ℕ → ℕ) → IsWellFormed m → Copies 0 m m
copy_start m f = record {
  well_formed = f;
  recovered = refl;
  gate = refl;
  count = refl;
  others = λ b h. refl;
  copied =
      λ i h. absurd (omega arith);
}

pub copy_none : (m w u : ℕ → ℕ) (n : ℕ) → Copies n m w → u ≡ w → Copies 0 m u
copy_none m w u n h e = subst (Copies 0 m) (sym e) (record {
  well_formed = h.well_formed;
  recovered = h.recovered;
  gate = h.gate;
  count = h.count;
  others = h.others;
  copied = λ i l. absurd (omega arith);
})

outside_or : (s i b : ℕ) → i < 128 → IsOutside s b → b ≢ segment_start s + 2 * i
outside_or s i b l h e = elim h [ inl x ↦ omega arith | inr x ↦ omega arith ]

low_outside : (s b : ℕ) → b < stack_start → IsOutside s b
low_outside s b h = inl (omega arith)

pub copy_step : (m w u : ℕ → ℕ) (n slot segment x : ℕ) → IsWellFormed m → Copies n m w → n < 128 → slot ≡ gate_of m
    → segment ≡ m (slot_address slot 144) → x ≡ w (slot_address slot n) → u ≡ put w (segment_start segment + 2 * n) x
    → Copies (n + 1) m u
copy_step m w u n slot segment x f h within here works value was =
    let s : segment_of w ≡ segment_of m = ap (λ r. r.state 0) h.recovered in
    let g : gate_of m < 2 = f.gate in
    let a = segment_start (segment_of m) + 2 * n in
    let inside = in_segment-true (segment_of w) a (omega arith) (omega arith) in
    let t : Keeps boot_word w (put w a x) = tick_keeps boot_word w a x h.well_formed (inr inside) in
    let v : x ≡ current m n = value ∙ ap (λ k. w (slot_address k n)) here
    ∙ h.others (slot_address (gate_of m) n) (low_outside (segment_of m) (slot_address (gate_of m) n) (omega arith)) in
    let e : segment ≡ segment_of m = works ∙ ap (λ k. m (slot_address k 144)) here in
    let p : u ≡ put w a x = was ∙ ap (λ k. put w (segment_start k + 2 * n) x) e in
    subst (Copies (n + 1) m) (sym p) (record {
      well_formed = t.well_formed;
      recovered = t.recovered ∙ h.recovered;
      gate = t.gate ∙ h.gate;
      count = t.entries ∙ h.count;
      others = λ b o. put-other w a x b (outside_or (segment_of m) n b within o) ∙ h.others b o;
      copied = λ i l. elim (same_or_not i n) [
        | inl e ↦ ap (λ k. put w a x (segment_start (segment_of m) + 2 * k)) e ∙ put-same w a x ∙ v ∙ ap (current m) (sym e)
        | inr d ↦ put-other w a x (segment_start (segment_of m) + 2 * i) (λ e. d (omega arith)) ∙ h.copied i (omega arith)
      ];
    })
