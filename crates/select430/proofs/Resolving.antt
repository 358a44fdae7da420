-- The items of parts, wherever they stand among others, are the instructions of these parts.
use Rattle.std.proofs.Common.{◌≡◌, ℕ, ◌+◌, ◌≤◌, refl, ap, ◌∙◌, subst, arith, Bool, List, [], ◌∷◌, ◌++◌, length, Option, Some, if◌then◌else◌}
use Rattle.std.specs.Prelude.{nat_eq, IsTrue, ℤ, pos}
use Rattle.std.proofs.lemmas.Bool.{eq-eqb}
use Rattle.std.proofs.lemmas.Int.{ints}
use Rattle.isa430.specs.declared.instr.Instr.{Instr}
use Rattle.isa430.specs.declared.instr.Instr.TheVariants.{Jump as JumpBy}
use Rattle.isa430.specs.Table.{code_of}
use Rattle.asm430.specs.declared.item.Item.{Item}
use Rattle.asm430.specs.Assembly.{words_in, places_from, the_only, place_of, address, offset, distance, load, call}
use Rattle.asm430.specs.Instructions.{instrs_from, are_code, LabelsIn}
use Rattle.asm430.proofs.Laying.{code_append, labels_append, middle_place}
use Rattle.select430.specs.Labels.{function_label, step_label, inner_label, step_end, helper_label, table_label}
use Rattle.select430.specs.declared.part.Part.{Part}
use Rattle.select430.specs.declared.part.Part.TheVariants.{Do, DoUnless, Go, GoUnless, Enters, Helps, Names}
use Rattle.select430.specs.Parts.{part_items, parts_items, parts_code, skips}
use Rattle.select430.specs.Laying.{addresses}

-- no plain words
part_is_code : (g p : ℕ) (x : Part) → IsTrue (are_code (part_items g p x))
part_is_code g p (Do i) = refl
part_is_code g p (DoUnless c i) = refl
part_is_code g p (Go to) = refl
part_is_code g p (GoUnless c to) = refl
part_is_code g p (Enters h) = refl
part_is_code g p (Helps which) = refl
part_is_code g p (Names t n) = refl

pub parts_are_code : (g p : ℕ) (xs : List Part) → IsTrue (are_code (parts_items g p xs))
parts_are_code g p [] = refl
parts_are_code g p (x ∷ xs) = code_append (part_items g p x) (parts_items g p xs) (part_is_code g p x) (parts_are_code g p xs)

-- the labels that stand are the step's own
part_labels : (g p : ℕ) (x : Part) → LabelsIn (inner_label g p) (step_end g p) (part_items g p x)
part_labels g p (Do i) = (tt, tt)
part_labels g p (DoUnless c i) = (tt, (tt, ((omega arith, omega arith), tt)))
part_labels g p (Go to) = (tt, tt)
part_labels g p (GoUnless c to) = (tt, (tt, ((omega arith, omega arith), tt)))
part_labels g p (Enters h) = (tt, tt)
part_labels g p (Helps which) = (tt, tt)
part_labels g p (Names t n) = (tt, tt)

pub parts_labels : (g p : ℕ) (xs : List Part) → LabelsIn (inner_label g p) (step_end g p) (parts_items g p xs)
parts_labels g p [] = tt
parts_labels g p (x ∷ xs) = labels_append (inner_label g p) (step_end g p) (part_items g p x) (parts_items g p xs) (part_labels g p x) (parts_labels g p xs)

-- ---- where the inner label stands

pub none_inside : (g p l start : ℕ) (xs : List Part) → skips xs ≤ 0 → places_from l start (parts_items g p xs) ≡ []
none_inside g p l start [] h = refl
none_inside g p l start (Do i ∷ xs) h = none_inside g p l (start + length (code_of i)) xs h
none_inside g p l start (DoUnless c i ∷ xs) h = absurd (omega arith)
none_inside g p l start (Go to ∷ xs) h = none_inside g p l (start + 2) xs h
none_inside g p l start (GoUnless c to ∷ xs) h = absurd (omega arith)
none_inside g p l start (Enters f ∷ xs) h = none_inside g p l (start + 2) xs h
none_inside g p l start (Helps which ∷ xs) h = none_inside g p l (start + 2) xs h
none_inside g p l start (Names t n ∷ xs) h = none_inside g p l (start + 2) xs h

-- the words that a jump over so many goes
over : (start n : ℕ) → distance start (start + 1 + n) ≡ pos n
over start n = omega (arith, ints)

module _ (all : List Item) (g p : ℕ) where
  -- where nothing is skipped no place of a label is needed but those of other things
  none_skipped : (start : ℕ) (xs : List Part) → skips xs ≤ 0 → instrs_from all start (parts_items g p xs) ≡ parts_code (addresses all g) xs
  none_skipped start [] h = refl
  none_skipped start (Do i ∷ xs) h = ap (λ (k : List Instr). i ∷ k) (none_skipped (start + length (code_of i)) xs h)
  none_skipped start (DoUnless c i ∷ xs) h = absurd (omega arith)
  none_skipped start (Go to ∷ xs) h = ap (λ (k : List Instr). load (address (place_of all (step_label g to))) 0 ∷ k) (none_skipped (start + 2) xs h)
  none_skipped start (GoUnless c to ∷ xs) h = absurd (omega arith)
  none_skipped start (Enters f ∷ xs) h = ap (λ (k : List Instr). call (address (place_of all (function_label f))) ∷ k) (none_skipped (start + 2) xs h)
  none_skipped start (Helps which ∷ xs) h = ap (λ (k : List Instr). call (address (place_of all (helper_label which))) ∷ k) (none_skipped (start + 2) xs h)
  none_skipped start (Names t n ∷ xs) h = ap (λ (k : List Instr). load (address (place_of all (table_label t))) n ∷ k) (none_skipped (start + 2) xs h)

  -- the inner label stands once, behind what is skipped
  pub stands_once : (at : ℕ) (xs : List Part) → skips xs ≤ 0 → the_only ((if nat_eq (inner_label g p) (inner_label g p) then at ∷ [] else []) ++ places_from (inner_label g p) (at + 0) (parts_items g p xs)) ≡ Some at
  stands_once at xs h =
      ap (λ (b : Bool). the_only ((if b then at ∷ [] else []) ++ places_from (inner_label g p) (at + 0) (parts_items g p xs))) (eq-eqb (inner_label g p) (inner_label g p) refl)
      ∙ ap (λ (k : List ℕ). the_only (at ∷ k)) (none_inside g p (inner_label g p) (at + 0) xs h)

  pub resolved : (start : ℕ) (xs : List Part) → skips xs ≤ 1 → place_of all (inner_label g p) ≡ the_only (places_from (inner_label g p) start (parts_items g p xs)) → instrs_from all start (parts_items g p xs) ≡ parts_code (addresses all g) xs
  resolved start [] h e = refl
  resolved start (Do i ∷ xs) h e = ap (λ (k : List Instr). i ∷ k) (resolved (start + length (code_of i)) xs h e)
  resolved start (DoUnless c i ∷ xs) h e =
      let n = length (code_of i) in
      let h0 : skips xs ≤ 0 = omega arith in
      ap (λ (o : Option ℕ). JumpBy c (offset start o) ∷ i ∷ instrs_from all (start + 1 + n + 0) (parts_items g p xs)) (e ∙ stands_once (start + 1 + n) xs h0)
      ∙ ap (λ (z : ℤ). JumpBy c z ∷ i ∷ instrs_from all (start + 1 + n + 0) (parts_items g p xs)) (over start n)
      ∙ ap (λ (k : List Instr). JumpBy c (pos n) ∷ i ∷ k) (none_skipped (start + 1 + n + 0) xs h0)
  resolved start (Go to ∷ xs) h e = ap (λ (k : List Instr). load (address (place_of all (step_label g to))) 0 ∷ k) (resolved (start + 2) xs h e)
  resolved start (GoUnless c to ∷ xs) h e =
      let h0 : skips xs ≤ 0 = omega arith in
      let jump : List Instr = load (address (place_of all (step_label g to))) 0 ∷ instrs_from all (start + 1 + 2 + 0) (parts_items g p xs) in
      ap (λ (o : Option ℕ). JumpBy c (offset start o) ∷ load (address (place_of all (step_label g to))) 0 ∷ instrs_from all (start + 1 + 2 + 0) (parts_items g p xs)) (e ∙ stands_once (start + 1 + 2) xs h0)
      ∙ ap (λ (z : ℤ). JumpBy c z ∷ load (address (place_of all (step_label g to))) 0 ∷ instrs_from all (start + 1 + 2 + 0) (parts_items g p xs)) (over start 2)
      ∙ ap (λ (k : List Instr). JumpBy c (pos 2) ∷ load (address (place_of all (step_label g to))) 0 ∷ k) (none_skipped (start + 1 + 2 + 0) xs h0)
  resolved start (Enters f ∷ xs) h e = ap (λ (k : List Instr). call (address (place_of all (function_label f))) ∷ k) (resolved (start + 2) xs h e)
  resolved start (Helps which ∷ xs) h e = ap (λ (k : List Instr). call (address (place_of all (helper_label which))) ∷ k) (resolved (start + 2) xs h e)
  resolved start (Names t n ∷ xs) h e = ap (λ (k : List Instr). load (address (place_of all (table_label t))) n ∷ k) (resolved (start + 2) xs h e)

-- where the items of parts stand among others that have none of the step's labels
pub among : (front back : List Item) (g p top : ℕ) (xs : List Part) → skips xs ≤ 1 → LabelsIn 0 (inner_label g p) front → LabelsIn (step_end g p) top back →
    instrs_from (front ++ (parts_items g p xs ++ back)) (words_in front) (parts_items g p xs) ≡ parts_code (addresses (front ++ (parts_items g p xs ++ back)) g) xs
among front back g p top xs few before behind =
    let z : 0 + words_in front ≡ words_in front = omega arith in
    let there = middle_place (inner_label g p) 0 (inner_label g p) (step_end g p) top front (parts_items g p xs) back before behind (omega arith) (omega arith) in
    resolved (front ++ (parts_items g p xs ++ back)) g p (words_in front) xs few
    (subst (λ (k : ℕ). place_of (front ++ (parts_items g p xs ++ back)) (inner_label g p) ≡ the_only (places_from (inner_label g p) k (parts_items g p xs))) z there)
