-- A run starts with its pointers inside where the values with which variables start are.
use Rattle.std.proofs.Common.{◌≡◌, ℕ, suc, zero, ◌+◌, ◌≤◌, List, [], ◌∷◌, length, Option, Some, None, Bool, true, false, refl, subst, arith, cond}
use Rattle.std.proofs.lemmas.Bool.Decides.{nat_tests}
use Rattle.std.specs.Prelude.{nat_eq, slice_get}
use Rattle.core_tree.specs.declared.types.Slot.{Slot}
use Rattle.core_tree.specs.LawfulCore.{Every}
use Rattle.c_values.specs.declared.state.Object.{Object}
use Rattle.c_values.specs.declared.value.Cell.{Cell}
use Rattle.c_values.specs.declared.value.Value.{Value}
use Rattle.c_values.specs.declared.value.Value.TheVariants.{Int, Pointer, Null, Undefined}
use Rattle.c_values.specs.Objects.{find_object, or_else, object_of}
use Rattle.c_values.specs.Pointers.{end_of}
use Rattle.ir.specs.declared.control.Control.TheVariants.{Calling}
use Rattle.ir.specs.declared.form.Ir.{Ir}
use Rattle.ir.specs.declared.form.IrGlobal.{IrGlobal}
use Rattle.ir.specs.Inside.{IsInside, IsInsideObject}
use Rattle.ir.specs.Machine.{initial_cells, initial_objects, start, start_run}
use Rattle.ir_pointers.specs.Staying.{Inside, StartsInside, AllStartInside}
use Rattle.ir_pointers.proofs.Growing.{some_is}

-- the object with which a variable starts
abbrev initial : ℕ → IrGlobal → Object
initial n g = record { number = n; cells = initial_cells g.scalars g.init }

same_number : (m n : ℕ) → nat_eq m n ≡ true → m ≡ n
same_number m n e = grind (arith, nat_tests)

-- what holds of the object of each variable holds of the one that is found
found_initial : (P : Object → Type 0) (gs : List IrGlobal) (m n : ℕ)
    → ((k : ℕ) (g : IrGlobal) → slice_get gs k ≡ Some g → m + k ≡ n → (j : ℕ) → P (initial j g))
    → (o : Object) → find_object n (initial_objects m gs) ≡ Some o → P o
found_initial P [] m n h o e = absurd cc
found_initial P (g ∷ gs) m n h o e = by_number (nat_eq m n) refl e
    (found_initial P gs (m + 1) n (λ k d is at j. h (suc k) d is (omega (arith, at)) j) o)
  where
    by_number : (b : Bool) → nat_eq m n ≡ b
        → cond b (Some (initial m g)) (find_object n (initial_objects (m + 1) gs)) ≡ Some o
        → (find_object n (initial_objects (m + 1) gs) ≡ Some o → P o) → P o
    by_number true t f more = subst P (some_is (initial m g) o f) (h zero g refl (omega (arith, same_number m n t)) m)
    by_number false t f more = more f

or_none : (x : Option Object) (o : Object) → or_else x None ≡ Some o → x ≡ Some o
or_none (Some p) o e = e
or_none None o e = e

module _ (ir : Ir) where
  found_start : (n offset : ℕ) → ((g : IrGlobal) → slice_get ir.globals n ≡ Some g → (j : ℕ) → offset ≤ end_of (initial j g))
      → (o : Object) → object_of (start ir) n ≡ Some o → offset ≤ end_of o
  unfolding object_of start
  found_start n offset h o e = found_initial (λ p. offset ≤ end_of p) ir.globals 0 n (λ k g is at j.
      h g (subst (λ i. slice_get ir.globals i ≡ Some g) (omega (arith, at)) is) j) o
      (or_none (find_object n (initial_objects 0 ir.globals)) o e)

  start_value : (v : Value) → StartsInside ir v → IsInside (start ir) (length ir.globals) v
  start_value (Pointer n offset) h = (h.0, found_start n offset (λ g is j. h.1 g is))
  start_value (Int z) h = tt
  start_value Null h = tt
  start_value Undefined h = tt

  start_cells : (cs : List Slot) (vs : List Value) → Every (StartsInside ir) vs
      → Every (λ (c : Cell). IsInside (start ir) (length ir.globals) c.value) (initial_cells cs vs)
  start_cells [] vs h = tt
  start_cells (c ∷ cs) [] h = (tt, start_cells cs [] h)
  start_cells (c ∷ cs) (v ∷ vs) h = (start_value v h.0, start_cells cs vs h.1)

  start_objects : (gs : List IrGlobal) (m : ℕ) → m + length gs ≤ length ir.globals
      → Every (λ (g : IrGlobal). Every (StartsInside ir) g.init) gs
      → Every (IsInsideObject (start ir) (length ir.globals)) (initial_objects m gs)
  start_objects [] m l h = tt
  start_objects (g ∷ gs) m l h =
      ((omega (arith, l), start_cells g.scalars g.init h.0), start_objects gs (m + 1) (omega (arith, l)) h.1)

  begins : (f left : ℕ) → Every (IsInsideObject (start ir) (length ir.globals)) (initial_objects 0 ir.globals)
      → Inside ir (Calling f 0 [] []) (start_run ir left)
  unfolding start
  begins f left h = record {
    points = record { globals = h; calls = tt; control = (tt, tt); no_block = refl };
    variables = omega arith;
    begun = tt;
  }

  -- before the entry of a function all pointers are inside
  pub starts : (f left : ℕ) → AllStartInside ir → Inside ir (Calling f 0 [] []) (start_run ir left)
  starts f left h = begins f left (start_objects ir.globals 0 (omega arith) h)
