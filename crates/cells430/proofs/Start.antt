-- The start: what stands in a loaded image.
use Rattle.std.proofs.Common.{◌≡◌, ℕ, ◌+◌, ◌-◌, ◌/◌, ◌%◌, ◌<◌, ◌≤◌, refl, sym, ◌∙◌, subst, arith, Bool, true, false, ◌⊎◌, inl, inr, List, [], Some, None, if◌then◌else◌}
use Rattle.std.proofs.lemmas.Bool.{cases_eq}
use Rattle.std.specs.Prelude.{nat_eq, slice_index}
use Rattle.base16.specs.Board.{outputs_start, outputs_end, first_stack_pointer, data_start, data_end, code_start, code_end}
use Rattle.base16.specs.declared.reading.Reading.{Reading}
use Rattle.core430.specs.Uses.{AreWords}
use Rattle.ideal430.specs.Places.{is_between, is_even, is_fixed}
use Rattle.ideal430.specs.Loaded.{control_word, loaded, start_registers, start_of}
use Rattle.cells430.specs.Cells.{Cell, Word, Byte, Cells, CellAt, Live, OfOutput, OfData, OfFrame, OfOlder, Shape, HasCode, Facts, output_cell, with_outputs, HasValues}
use Rattle.cells430.specs.Scenes.{StartsAs}
use Rattle.cells430.specs.Stretch.{outside, at}
use Rattle.cells430.proofs.Settling.{output_fixed, data_fixed}
use Rattle.cells430.proofs.Cells.{same_cell, live_next}
use Rattle.cells430.proofs.OutputCells.{where_is, outer, inside, first_cell, even_cell, odd_cell, outputs_shape}

-- the machine at the start, as rules speak of it
pub start_at : (m : ℕ → ℕ) (readings : List Reading) → start_of m readings ≡ at 0 (λ k. 0) start_registers m is_fixed
    (outside 0 readings) (record { ticks = 0; entries = 0; commits = 0; due_ticks = 0; due_entries = 0; length = 0; period = 0 })
start_at m readings = refl

pub start_words : AreWords start_registers
start_words k = from (nat_eq k 0) (nat_eq k 1)
  where
    from : (a b : Bool) → (if a then code_start else (if b then first_stack_pointer else 0)) < 65536
    from true b = omega arith
    from false true = omega arith
    from false false = omega arith

control_words : AreWords control_word
control_words a = from (nat_eq a 0x1002) (nat_eq a 0x1004) (nat_eq a 0x1200) (nat_eq a 0x1202)
  where
    from : (p q r s : Bool) → (if p then 0x5443 else (if q then 1 else
        (if r then code_start else (if s then first_stack_pointer else 0)))) < 65536
    from true q r s = omega arith
    from false true r s = omega arith
    from false false true s = omega arith
    from false false false true = omega arith
    from false false false false = omega arith

-- words of 16 bits are loaded
pub loaded_words : (code globals : List ℕ) → AreWords (slice_index code) → AreWords (slice_index globals)
    → AreWords (loaded code globals)
loaded_words code globals h k a = from (is_even a) (is_between data_start data_end a) (is_between code_start code_end a)
  where
    from : (p q r : Bool) → (if p then (if q then slice_index globals ((a - data_start) / 2) else
        (if r then slice_index code ((a - code_start) / 2) else control_word a)) else 0) < 65536
    from true true r = k ((a - data_start) / 2)
    from true false true = h ((a - code_start) / 2)
    from true false false = control_words a
    from false q r = omega arith

-- while the stack is empty, what is live always counts
pub start_fixed : (ps : ℕ → ℕ) (b : ℕ) → Live 0 first_stack_pointer ps b → is_fixed b ≡ true
start_fixed ps b (OfOutput l k) = output_fixed b l k
start_fixed ps b (OfData l k) = data_fixed b l k
start_fixed ps b (OfFrame l k t m) = absurd (omega arith)
start_fixed ps b (OfOlder l k t m) = absurd (omega arith)

-- cells of outputs and data stand at the start, where memory has their values
pub start_facts : (c : ℕ → ℕ) (lo hi : ℕ) (m : ℕ → ℕ) (ps : ℕ → ℕ) (f : Cells) → Shape 0 first_stack_pointer ps f
    → HasCode c lo hi m → AreWords m → HasValues f m → Facts c lo hi f m is_fixed
start_facts c lo hi m ps f s code words has = record { code = code; stands = stand; lasting = λ b e. e; words = words }
  where
    stand : (a : ℕ) (x : Cell) → f a ≡ Some x → CellAt m is_fixed a x
    stand a (Word (Some w)) e =
        let live = s.live a (Word (Some w)) e in
        let fit = s.fits a (Word (Some w)) e in
        (has.words a w e, start_fixed ps a live, start_fixed ps (a + 1) (live_next 0 first_stack_pointer ps a fit.0 live))
    stand a (Byte (Some v)) e = (has.bytes a v e, start_fixed ps a (s.live a (Byte (Some v)) e))
    stand a (Word None) e = tt
    stand a (Byte None) e = tt

-- and there are no outputs
pub start_outputs : (c : ℕ → ℕ) (lo hi : ℕ) (m : ℕ → ℕ) (f : Cells) → m outputs_start ≡ 0 → Facts c lo hi f m is_fixed
    → Facts c lo hi (with_outputs [] f) m is_fixed
start_outputs c lo hi m f none h = record {
  code = h.code;
  stands = λ b x e. stand b x (where_is b) e;
  lasting =
      h.lasting;
  words = h.words;
}
  where
    none_some : {A : Type 0} (x : Cell) → None ≡ Some x → A
    none_some x e = absurd (differ e)
      where
        differ : None ≡ Some x → ⊥
        differ k = cc

    in_outputs : (b : ℕ) (x : Cell) → ((b ≡ outputs_start) ⊎ (b ≡ outputs_start → ⊥)) → ((b % 2 ≡ 0) ⊎ (b % 2 ≡ 0 → ⊥))
        → output_cell [] b ≡ Some x → CellAt m is_fixed b x
    in_outputs b x (inl e) z k =
        let is : Word (Some 0) ≡ x = same_cell (Word (Some 0)) x (sym (first_cell [] b e) ∙ k) in
        subst (CellAt m is_fixed b) is (subst (λ (y : ℕ). CellAt m is_fixed y (Word (Some 0))) (sym e) (none, refl, refl))
    in_outputs b x (inr n) (inl e) k =
        let is : Word None ≡ x = same_cell (Word None) x (sym (even_cell [] b n e) ∙ k) in
        subst (CellAt m is_fixed b) is tt
    in_outputs b x (inr n) (inr d) k = none_some x (sym (odd_cell [] b d) ∙ k)

    stand : (b : ℕ) (x : Cell) → (((outputs_start ≤ b) × (b < outputs_end)) ⊎ (is_between outputs_start outputs_end b ≡ false))
        → with_outputs [] f b ≡ Some x → CellAt m is_fixed b x
    stand b x (inl k) e = in_outputs b x (cases_eq b outputs_start) (cases_eq (b % 2) 0) (sym (inside [] f b k.0 k.1) ∙ e)
    stand b x (inr k) e = h.stands b x (sym (outer [] f b k) ∙ e)

pub loaded_outputs : (code globals : List ℕ) → loaded code globals outputs_start ≡ 0
loaded_outputs code globals = refl

-- the scene at the start
pub starts : (code globals : List ℕ) (readings : List Reading) (hi : ℕ) (f : Cells) → AreWords (slice_index code)
    → AreWords (slice_index globals) → hi ≤ code_end
    → Shape 0 first_stack_pointer (λ k. 0) f → HasValues f (loaded code globals) → StartsAs (loaded code globals) readings hi f
starts code globals readings hi f wc wg top s has =
    let m : ℕ → ℕ = loaded code globals in
    let facts : Facts m code_start hi f m is_fixed = start_facts m code_start hi m (λ k. 0) f s
    (record { at = λ a e l k. refl }) (loaded_words code globals wc wg) has in
    record {
      scene = record {
        code = m;
        lo = code_start;
        hi = hi;
        segment = 0;
        sp = first_stack_pointer;
        pointers = λ k. 0;
        cells = with_outputs [] f;
        regs = start_registers;
        memory = m;
        settled = is_fixed;
        marks = 0;
        left = readings;
        meter = record { ticks = 0; entries = 0; commits = 0; due_ticks = 0; due_entries = 0; length = 0; period = 0 };
      };
      is = refl;
      stands = record {
        grounded = record {
          low = omega arith;
          high = top;
          base = omega arith;
          top = omega arith;
          last = omega arith;
          even =
              refl;
        };
        shape = outputs_shape 0 first_stack_pointer (λ k. 0) [] f s;
        facts = start_outputs m code_start hi m f (loaded_outputs code globals) facts;
        words = start_words;
        stack = refl;
      };
      code = refl;
      low = refl;
      high = refl;
      cells = refl;
    }
