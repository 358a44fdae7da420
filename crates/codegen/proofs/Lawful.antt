-- What a lawful program begins with: `main` has no parameters, and no variable of type `char` has more than a byte.
use Rattle.std.proofs.Common.{◌≡◌, ℕ, ◌+◌, ◌<◌, sym, ap, ◌∙◌, subst, arith, Bool, false, List, [], ◌∷◌, length, append-nil, Option, Some}
use Rattle.std.specs.Prelude.{slice_get}
use Rattle.base16.specs.declared.image.Kind.{Kind}
use Rattle.base16.specs.declared.image.Kind.TheVariants as kind
use Rattle.core_tree.specs.Data.{global_address}
use Rattle.core_tree.specs.LawfulCore.{Every, LawfulCore}
use Rattle.core_tree.specs.declared.program.Core.{Core}
use Rattle.c_values.specs.Objects.{wide}
use Rattle.c_values.specs.declared.state.Object.{Object}
use Rattle.c_values.specs.declared.value.Cell.{Cell}
use Rattle.c_values.specs.declared.value.Value.{Value}
use Rattle.c_values.specs.declared.value.Value.TheVariants as value
use Rattle.c_run.specs.Actions.{kept}
use Rattle.c_meaning.specs.After.{start}
use Rattle.c_soundness.specs.Shapes.{holds_pointer, MayStand}
use Rattle.c_soundness.specs.Standing.{Kinds, CellStands, ObjectStands}
use Rattle.c_soundness.proofs.Programs.{main_there, start_stands}
use Rattle.ir.specs.declared.form.Ir.{Ir}
use Rattle.ir.specs.declared.form.IrFunction.{IrFunction}
use Rattle.ir_gen.specs.Serves.{Serves}
use Rattle.matching.specs.Matches.{Placed, placed_from, placed, encoded}
use Rattle.matching.proofs.Lying.{each_append}
use Rattle.steps430.specs.Setting.{function_at}
use Rattle.codegen.specs.declared.data.Datum.{Datum}
use Rattle.codegen.specs.Words.{scalar_data, object_data, stamp_data, data_of, code_or_zero}
use Rattle.codegen.proofs.Calls.{at_number}
use Rattle.codegen.proofs.Lists.{same_some}

-- ---- `main`

pub main_alone : (core : Core) (ir : Ir) → LawfulCore core → Serves core ir → (function_at ir ir.main).params ≡ 0
main_alone core ir lawful serves =
    let found = main_there _ core lawful in
    let same : found.number ≡ ir.main = same_some found.number ir.main (sym found.first ∙ serves.main) in
    let there : slice_get core.functions ir.main ≡ Some found.function =
    subst (λ (n : ℕ). slice_get core.functions n ≡ Some found.function) same found.there in
    let f = serves.functions ir.main found.function there in
    ap (λ (fn : IrFunction). fn.params) (at_number ir ir.main f.0 f.1) ∙ f.2.params ∙ ap length found.none

-- ---- the first values

abbrev IsNarrow : Datum → Type 0
IsNarrow d = d.wide ≡ false → code_or_zero d.code < 256

narrow_value : (alive : List Placed) (k : Kind) (v : Value) (b : Bool) → holds_pointer k ≡ b → MayStand b v → wide k ≡ false
    → code_or_zero (encoded alive k v) < 256
narrow_value alive kind.Char (value.Int z) b e m w = omega arith
narrow_value alive kind.Char (value.Pointer n offset) b e m w =
    absurd (subst (λ (c : Bool). MayStand c (value.Pointer n offset)) (sym e) m)
narrow_value alive kind.Char value.Null b e m w = omega arith
narrow_value alive kind.Char value.Undefined b e m w = omega arith
narrow_value alive kind.Int v b e m w = absurd (cc)
narrow_value alive kind.UInt v b e m w = absurd (cc)
narrow_value alive kind.Pointer v b e m w = absurd (cc)

module _ (alive : List Placed) (kinds : Kinds) where
  narrow_scalars : (address n : ℕ) (cs : List Cell) → Every (CellStands kinds n) cs → Every IsNarrow (scalar_data alive address cs)
  narrow_scalars address n [] h = tt
  narrow_scalars address n (c ∷ cs) h = (
    narrow_value alive c.kind c.value (kinds n c.offset) h.0.kind h.0.value,
    narrow_scalars address n cs h.1,
  )

  narrow_objects : (address : ℕ → ℕ) (next n : ℕ) (os : List Object) → Every (ObjectStands kinds next) os
      → Every IsNarrow (object_data alive (placed_from address n os))
  narrow_objects address next n [] h = tt
  narrow_objects address next n (o ∷ os) h =
      each_append IsNarrow (scalar_data alive (address n) o.cells) (object_data alive (placed_from address (n + 1) os))
      (narrow_scalars (address n) o.number o.cells h.0.cells) (narrow_objects address next (n + 1) os h.1)

narrow_stamps : (core : Core) (n : ℕ) (stamps : List (Option ℕ)) → Every IsNarrow (stamp_data core n stamps)
narrow_stamps core n [] = tt
narrow_stamps core n (s ∷ more) = ((λ e. absurd (cc)), ((λ e. absurd (cc)), narrow_stamps core (n + 1) more))

pub starts_narrow : (core : Core) → LawfulCore core → Every (λ d. d.wide ≡ false → code_or_zero d.code < 256) (data_of core)
unfolding start
starts_narrow core lawful =
    let s = start_stands _ core lawful [] 0 in
    let alive : List Placed = placed core (kept (start core)) in
    let variables : List Placed = placed_from (global_address core) 0 (start core).globals in
    let alone : variables ≡ alive = sym (append-nil variables) in
    each_append IsNarrow (object_data alive alive) (stamp_data core 0 (start core).stamps)
    (subst (λ (ps : List Placed). Every IsNarrow (object_data alive ps)) alone
    (narrow_objects alive s.kinds (global_address core) (length core.globals) 0 (start core).globals s.by.state.globals))
    (narrow_stamps core 0 (start core).stamps)
