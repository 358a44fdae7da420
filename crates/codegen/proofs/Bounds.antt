-- No address that a label denotes lies behind the code, and no step.
use Rattle.std.proofs.Common.{◌≡◌, ℕ, zero, suc, ◌+◌, ◌*◌, ◌<◌, ◌≤◌, refl, ap, arith, Bool, true, false, ◌⊎◌, inl, inr, List, [], ◌∷◌, ◌++◌, length, Option, Some, None, if◌then◌else◌}
use Rattle.std.proofs.lemmas.Option.{slice_get_cases}
use Rattle.std.specs.Prelude.{slice_get, get_or}
use Rattle.isa430.specs.declared.instr.Instr.{Instr}
use Rattle.isa430.specs.Table.{size_of}
use Rattle.run430.specs.Code.{Placed}
use Rattle.asm430.specs.declared.item.Item.{Item}
use Rattle.asm430.specs.Assembly.{words_of, words_in, is_label, places_from, the_only, place_of, address}
use Rattle.core_tree.specs.LawfulCore.{Every}
use Rattle.ir.specs.declared.form.Ir.{Ir}
use Rattle.ir.specs.declared.form.IrFunction.{IrFunction}
use Rattle.ir.specs.declared.form.Step.{Step}
use Rattle.placed430.specs.Assembled.{end_of}
use Rattle.select430.specs.Code.{code_of_step}
use Rattle.select430.specs.Labels.{function_label}
use Rattle.select430.specs.Laying.{Stands}
use Rattle.select430.specs.Parts.{parts_code}
use Rattle.steps430.specs.Setting.{no_function, or_none, code_bytes}
use Rattle.codegen.specs.Laid.{bytes_of_first, step_address, addresses_of}
use Rattle.codegen.proofs.Steps.{NamesInside, parts_long, first_step, past_all, one_function, code_stands}

-- ---- labels

or_more : (b : Bool) (start most : ℕ) (ns : List ℕ) → start ≤ most → Every (λ n. n ≤ most) ns
    → Every (λ n. n ≤ most) ((if b then start ∷ [] else []) ++ ns)
or_more true start most ns l h = (l, h)
or_more false start most ns l h = h

-- the places of a label are not behind the items
within : (l start most : ℕ) (items : List Item) → start + words_in items ≤ most
    → Every (λ n. n ≤ most) (places_from l start items)
within l start most [] h = tt
within l start most (x ∷ xs) h = or_more (is_label l x) start most (places_from l (start + words_of x) xs) (omega arith)
    (within l (start + words_of x) most xs (omega arith))

only_within : (most : ℕ) (ns : List ℕ) → Every (λ n. n ≤ most) ns → address (the_only ns) ≤ 0x8000 + 2 * most
only_within most [] h = omega arith
only_within most (n ∷ []) h = let l = h.0 in omega arith
only_within most (n ∷ (k ∷ ns)) h = omega arith

pub label_within : (items : List Item) (l : ℕ) → address (place_of items l) ≤ end_of items
unfolding place_of
label_within items l = only_within (words_in items) (places_from l 0 items) (within l 0 (words_in items) items (omega arith))

-- ---- steps

-- what is placed ends within the code
placed_end : (c : ℕ → ℕ) (lo hi pc : ℕ) (is : List Instr) → pc ≤ hi → Placed c lo hi pc is → pc + code_bytes is ≤ hi
placed_end c lo hi pc [] l h = let z : pc + 0 ≡ pc = omega arith in omega arith
placed_end c lo hi pc (i ∷ is) l h =
    let here = h.0.high in
    let more = placed_end c lo hi (pc + size_of i) is here h.1 in
    omega arith

no_bytes : (ir : Ir) (q : ℕ) → bytes_of_first ir no_function q [] ≡ 0
no_bytes ir zero = refl
no_bytes ir (suc q) = refl

module _ (ir : Ir) (items : List Item) (m : ℕ → ℕ)
    (stands : (g : ℕ) (fn : IrFunction) (q : ℕ) (s : Step) → slice_get ir.functions g ≡ Some fn → slice_get fn.steps q ≡ Some s
    → Stands ir items m g fn q s)
    (inside : (g : ℕ) (fn : IrFunction) → slice_get ir.functions g ≡ Some fn → NamesInside ir fn) where
  abbrev by_function : (g : ℕ) → IrFunction → ℕ → ℕ
  by_function g fn q = address (place_of items (function_label g)) + bytes_of_first ir fn q fn.steps

  -- behind a step, where it does not begin behind the code
  one_more : (g : ℕ) (fn : IrFunction) → slice_get ir.functions g ≡ Some fn → (q : ℕ) → by_function g fn q ≤ end_of items
      → by_function g fn (suc q) ≤ end_of items
  one_more g fn e q before = from (slice_get_cases fn.steps q).1
    where
      from : ((s : Step) × (q < length fn.steps) × (slice_get fn.steps q ≡ Some s) × (get_or fn.steps q s ≡ s))
          ⊎ ((length fn.steps ≤ q) × (slice_get fn.steps q ≡ None)) → by_function g fn (suc q) ≤ end_of items
      from (inr h) =
          let same = past_all ir fn q fn.steps h.0 in
          let low = before in
          omega arith
      from (inl h) =
          let s : Step = h.0 in
          let k : slice_get fn.steps q ≡ Some s = h.2 in
          let low = before in
          let here : step_address items ir g q ≡ by_function g fn q =
          ap (λ (f : IrFunction). by_function g f q) (one_function ir g fn e) in
          let code = code_stands ir items m stands g fn e (inside g fn e) q s k in
          let more = first_step ir fn q fn.steps s k in
          let long = parts_long (addresses_of items ir g) (code_of_step ir fn s.kind) in
          let end = placed_end m 0x8000 (end_of items) (step_address items ir g q)
          (parts_code (addresses_of items ir g) (code_of_step ir fn s.kind)) (omega arith) code in
          omega arith

  of_one : (g : ℕ) (fn : IrFunction) → slice_get ir.functions g ≡ Some fn → (q : ℕ) → by_function g fn q ≤ end_of items
  of_one g fn e zero = let l = label_within items (function_label g) in omega arith
  of_one g fn e (suc q) = one_more g fn e q (of_one g fn e q)

  pub step_within : (g q : ℕ) → step_address items ir g q ≤ end_of items
  step_within g q = from (slice_get ir.functions g) refl
    where
      from : (o : Option IrFunction) → slice_get ir.functions g ≡ o → step_address items ir g q ≤ end_of items
      from (Some fn) e =
          let here : step_address items ir g q ≡ by_function g fn q =
          ap (λ (f : IrFunction). by_function g f q) (one_function ir g fn e) in
          let l = of_one g fn e q in
          omega arith
      from None e =
          let here : step_address items ir g q ≡ by_function g no_function q =
          ap (λ (o : Option IrFunction). by_function g (or_none o) q) e in
          let none = no_bytes ir q in
          let l = label_within items (function_label g) in
          omega arith
