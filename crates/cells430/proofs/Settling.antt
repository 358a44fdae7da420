-- Which bytes stay settled, and which become so.
use Rattle.std.proofs.Common.{◌≡◌, ℕ, ◌<◌, ◌≤◌, ap, arith, Bool, true, not, ◌&&◌, ◌⊎◌, inl, inr}
use Rattle.std.proofs.lemmas.Bool.{le-leb, lt-ltb, lt-leb}
use Rattle.std.proofs.lemmas.Bool.Decides.{nat_tests}
use Rattle.std.specs.Prelude.{nat_lt}
use Rattle.base16.specs.Board.{outputs_start, outputs_end, stack_start, segment_start, segment_top, data_start, data_end, code_start, code_end}
use Rattle.core430.proofs.Truths.{or-left, or-right, and-both}
use Rattle.ideal430.specs.Places.{is_in_segment, is_up_to, is_fixed, segment_of}
use Rattle.ideal430.specs.Settled.{Bytes, is_live, is_held, settled_after}
use Rattle.cells430.specs.Cells.{Live, OfOutput, OfData, OfFrame, OfOlder}

-- ---- places

pub output_fixed : (b : ℕ) → outputs_start ≤ b → b < outputs_end → is_fixed b ≡ true
output_fixed b l k = grind (arith, nat_tests)

pub data_fixed : (b : ℕ) → data_start ≤ b → b < data_end → is_fixed b ≡ true
data_fixed b l k = grind (arith, nat_tests)

pub code_fixed : (b : ℕ) → code_start ≤ b → b < code_end → is_fixed b ≡ true
code_fixed b l k = grind (arith, nat_tests)

pub in_segment : (g b : ℕ) → segment_start g ≤ b → b < segment_top g → is_in_segment g b ≡ true
in_segment g b l k = and-both (le-leb (segment_start g) b l) (lt-ltb b (segment_top g) k)

below_segment : (g b : ℕ) → b < segment_start g → not (is_in_segment g b) ≡ true
below_segment g b h = ap (λ (x : Bool). not (x && nat_lt b (segment_top g))) (lt-leb (segment_start g) b h)

up_to : (g b : ℕ) → stack_start ≤ b → b < segment_top g → is_up_to g b ≡ true
up_to g b l k = and-both (le-leb stack_start b l) (lt-ltb b (segment_top g) k)

-- ---- a live byte

-- it always counts, or it counts as long as it is settled
alive : (g sp : ℕ) (ps : ℕ → ℕ) (b : ℕ) → Live g sp ps b → (is_fixed b ≡ true) ⊎
    ((is_live g sp b ≡ true) × (is_held g ps b ≡ true))
alive g sp ps b (OfOutput l k) = inl (output_fixed b l k)
alive g sp ps b (OfData l k) = inl (data_fixed b l k)
alive g sp ps b (OfFrame l k t m) =
    inr (
      and-both (up_to g b (omega arith) k) (or-right (not (is_in_segment g b)) _ (le-leb sp b m)),
      or-left
          (is_in_segment g b) _ (in_segment g b l k),
    )
alive g sp ps b (OfOlder l k t m) =
    inr (
      and-both (up_to g b l (omega arith)) (or-left (not (is_in_segment g b)) _ (below_segment g b k)),
      or-right
          (is_in_segment g b) _ (le-leb (ps (segment_of b)) b m),
    )

-- outputs, data and code are always settled
pub settle-fixed : (g sp : ℕ) (ps : ℕ → ℕ) (w st : Bytes) (b : ℕ) → is_fixed b ≡ true → settled_after g sp ps w st b ≡ true
settle-fixed g sp ps w st b h = or-left (is_fixed b) _ h

-- a settled byte that is live stays settled
pub settle-kept : (g sp : ℕ) (ps : ℕ → ℕ) (w st : Bytes) (b : ℕ) → Live g sp ps b → st b ≡ true
    → settled_after g sp ps w st b ≡ true
settle-kept g sp ps w st b l e = elim (alive g sp ps b l) [
  | inl x ↦ settle-fixed g sp ps w st b x
  | inr x ↦ or-right (is_fixed b) _ (and-both x.0 (or-left (st b) _ e))
]

-- a live byte that is written becomes settled
pub settle-new : (g sp : ℕ) (ps : ℕ → ℕ) (w st : Bytes) (b : ℕ) → Live g sp ps b → w b ≡ true
    → settled_after g sp ps w st b ≡ true
settle-new g sp ps w st b l e = elim (alive g sp ps b l) [
  | inl x ↦ settle-fixed g sp ps w st b x
  | inr x ↦ or-right (is_fixed b) _ (and-both x.0 (or-right (st b) _ (and-both e x.1)))
]
