-- Jumps of a step go ahead to a label of the step, and its items use no other labels but those of what it names.
use Rattle.std.proofs.Common.{inl, inr, ◌≡◌, ℕ, ◌+◌, ◌≤◌, refl, ◌∙◌, arith, List, [], ◌∷◌, length, length-append, Some, None}
use Rattle.isa430.specs.declared.instr.Instr.{Instr}
use Rattle.isa430.specs.declared.instr.Instr.TheVariants.{Two, One, Jump as JumpBy}
use Rattle.isa430.specs.declared.instr.Src.{Src}
use Rattle.isa430.specs.declared.instr.Src.TheVariants.{Reg, Indexed, Absolute, Indirect, Increment, Immediate, Constant}
use Rattle.isa430.specs.declared.instr.Dst.{Dst}
use Rattle.isa430.specs.declared.instr.Dst.TheVariants.{Reg as ToReg, Indexed as ToIndexed, Absolute as ToAbsolute}
use Rattle.isa430.specs.Table.{src_extension, dst_extension, code_of}
use Rattle.asm430.specs.declared.item.Item.{Item}
use Rattle.asm430.specs.Assembly.{places_from, the_only, place_of}
use Rattle.select430.specs.Labels.{function_label, step_label, inner_label, helper_label, table_label}
use Rattle.select430.specs.declared.part.Part.{Part}
use Rattle.select430.specs.declared.part.Part.TheVariants.{Do, DoUnless, Go, GoUnless, Enters, Helps, Names}
use Rattle.select430.specs.Parts.{parts_items, skips, Name, StepAt, Function, Table, parts_names}
use Rattle.select430.specs.Laws.{AllGoAhead, IsAmong, AllUseNamed}
use Rattle.select430.proofs.Resolving.{stands_once}

-- ---- no instruction has more than three words

source_short : (s : Src) → length (src_extension s) ≤ 1
source_short (Reg r) = omega arith
source_short (Indexed r x) = omega arith
source_short (Absolute a) = omega arith
source_short (Indirect r) = omega arith
source_short (Increment r) = omega arith
source_short (Immediate v) = omega arith
source_short (Constant g) = omega arith

target_short : (d : Dst) → length (dst_extension d) ≤ 1
target_short (ToReg r) = omega arith
target_short (ToIndexed r x) = omega arith
target_short (ToAbsolute a) = omega arith

code_short : (i : Instr) → length (code_of i) ≤ 3
code_short (Two op byte s d) = let n = length-append (src_extension s) (dst_extension d) in let a = source_short s in let b = target_short d in omega arith
code_short (One op byte s) = let a = source_short s in omega arith
code_short (JumpBy cond o) = omega arith

module _ (all : List Item) (g p : ℕ) where
  no_jumps : (start : ℕ) (xs : List Part) → skips xs ≤ 0 → AllGoAhead all start (parts_items g p xs)
  no_jumps start [] h = tt
  no_jumps start (Do i ∷ xs) h = (tt, no_jumps (start + length (code_of i)) xs h)
  no_jumps start (DoUnless c i ∷ xs) h = absurd (omega arith)
  no_jumps start (Go to ∷ xs) h = (tt, no_jumps (start + 2) xs h)
  no_jumps start (GoUnless c to ∷ xs) h = absurd (omega arith)
  no_jumps start (Enters f ∷ xs) h = (tt, no_jumps (start + 2) xs h)
  no_jumps start (Helps which ∷ xs) h = (tt, no_jumps (start + 2) xs h)
  no_jumps start (Names t n ∷ xs) h = (tt, no_jumps (start + 2) xs h)

  pub jumps_ahead : (start : ℕ) (xs : List Part) → skips xs ≤ 1 → place_of all (inner_label g p) ≡ the_only (places_from (inner_label g p) start (parts_items g p xs)) → AllGoAhead all start (parts_items g p xs)
  jumps_ahead start [] h e = tt
  jumps_ahead start (Do i ∷ xs) h e = (tt, jumps_ahead (start + length (code_of i)) xs h e)
  jumps_ahead start (DoUnless c i ∷ xs) h e =
      let n = length (code_of i) in
      let h0 : skips xs ≤ 0 = omega arith in
      let short = code_short i in
      ((n, e ∙ stands_once all g p (start + 1 + n) xs h0, omega arith), (tt, (tt, no_jumps (start + 1 + n + 0) xs h0)))
  jumps_ahead start (Go to ∷ xs) h e = (tt, jumps_ahead (start + 2) xs h e)
  jumps_ahead start (GoUnless c to ∷ xs) h e =
      let h0 : skips xs ≤ 0 = omega arith in
      ((2, e ∙ stands_once all g p (start + 1 + 2) xs h0, omega arith), (tt, (tt, no_jumps (start + 1 + 2 + 0) xs h0)))
  jumps_ahead start (Enters f ∷ xs) h e = (tt, jumps_ahead (start + 2) xs h e)
  jumps_ahead start (Helps which ∷ xs) h e = (tt, jumps_ahead (start + 2) xs h e)
  jumps_ahead start (Names t n ∷ xs) h e = (tt, jumps_ahead (start + 2) xs h e)

pub step_jumps : (g p : ℕ) (xs : List Part) → skips xs ≤ 1 → AllGoAhead (parts_items g p xs) 0 (parts_items g p xs)
unfolding place_of
step_jumps g p xs h = jumps_ahead (parts_items g p xs) g p 0 xs h refl

-- ---- which labels are used

module _ (g p : ℕ) (ns : List Name) where
  nothing_used : (l : ℕ) → None ≡ Some l → ⊥
  nothing_used l e = cc

  same_label : (l m : ℕ) → Some m ≡ Some l → l ≡ m
  same_label l m e = cc

  -- all names of a list are among others
  abbrev pub Within : List Name → Type 0
  Within [] = Unit {0}
  Within (x ∷ xs) = IsAmong x ns × Within xs

  pub parts_use : (xs : List Part) → Within (parts_names xs) → AllUseNamed g p ns (parts_items g p xs)
  parts_use [] w = tt
  parts_use (Do i ∷ xs) w = ((λ l e. absurd (nothing_used l e)), parts_use xs w)
  parts_use (DoUnless c i ∷ xs) w = ((λ l e. inl (same_label l (inner_label g p) e)), ((λ l e. absurd (nothing_used l e)), ((λ l e. absurd (nothing_used l e)), parts_use xs w)))
  parts_use (Go to ∷ xs) w = ((λ l e. inr (inr (StepAt to, w.0, same_label l (step_label g to) e))), parts_use xs w.1)
  parts_use (GoUnless c to ∷ xs) w = ((λ l e. inl (same_label l (inner_label g p) e)), ((λ l e. inr (inr (StepAt to, w.0, same_label l (step_label g to) e))), ((λ l e. absurd (nothing_used l e)), parts_use xs w.1)))
  parts_use (Enters f ∷ xs) w = ((λ l e. inr (inr (Function f, w.0, same_label l (function_label f) e))), parts_use xs w.1)
  parts_use (Helps which ∷ xs) w = ((λ l e. inr (inl (which, same_label l (helper_label which) e))), parts_use xs w)
  parts_use (Names t n ∷ xs) w = ((λ l e. inr (inr (Table t, w.0, same_label l (table_label t) e))), parts_use xs w.1)
