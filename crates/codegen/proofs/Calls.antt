-- The objects of a call lie in its frame below the temporaries, and a call's objects come to life as the form has them.
use Rattle.std.proofs.Common.{◌≡◌, ℕ, zero, suc, ◌+◌, ◌<◌, ◌≤◌, refl, sym, ap, ◌∙◌, subst, arith, List, [], ◌∷◌, ◌++◌, length, map, Option, Some, None}
use Rattle.std.specs.Prelude.{slice_get}
use Rattle.base16.specs.Placement.{frame_below}
use Rattle.c_meaning.specs.After.{objects_of}
use Rattle.c_run.specs.Actions.{kept, top_of, with_call}
use Rattle.c_run.specs.Making.{fresh_objects}
use Rattle.c_values.specs.declared.state.Call.{Call}
use Rattle.c_values.specs.declared.state.Object.{Object}
use Rattle.c_values.specs.declared.state.State.{State}
use Rattle.c_values.specs.declared.value.Cell.{Cell as Scalar}
use Rattle.core_tree.specs.Heights.{frame_bytes, local_offset}
use Rattle.core_tree.specs.Layout.{layout}
use Rattle.core_tree.specs.LawfulCore.{Every}
use Rattle.core_tree.specs.declared.program.Core.{Core}
use Rattle.core_tree.specs.declared.program.Function.{Function}
use Rattle.core_tree.specs.declared.types.Slot.{Slot}
use Rattle.core_tree.specs.declared.types.Struct.{Struct}
use Rattle.core_tree.specs.declared.types.Ty.{Ty}
use Rattle.ir.specs.declared.form.Ir.{Ir}
use Rattle.ir.specs.declared.form.IrFunction.{IrFunction}
use Rattle.ir.specs.declared.form.IrLocal.{IrLocal}
use Rattle.ir.specs.Machine as machine
use Rattle.ir_gen.specs.Form.{locals_from}
use Rattle.ir_gen.specs.Serves.{Serves, ServesFunction}
use Rattle.matching.specs.Laid.{slot_of, AreMade, CallIsMade, CallsAreMade, IsMade}
use Rattle.matching.specs.Matches.{placed_from, offset_in, local_address}
use Rattle.matching.proofs.Making.{entered_made}
use Rattle.select430.specs.Frames.{kind_bytes, scalars_end, locals_end, temporaries_at, offset_or}
use Rattle.steps430.specs.Calls.{LieIn, new_call}
use Rattle.steps430.specs.Setting.{function_at, or_none}
use Rattle.follows430.proofs.Served.{served}
use Rattle.codegen.proofs.Frames.{same_width, scalars_within}
use Rattle.codegen.proofs.Objects.{some_width}

-- ---- functions of the form

pub at_number : (ir : Ir) (g : ℕ) (fn : IrFunction) → slice_get ir.functions g ≡ Some fn → function_at ir g ≡ fn
at_number ir g fn e = ap or_none e

-- ---- locals

-- the scalars of locals are those of their types
pub local_scalars : (structs : List Struct) (x : Function) (n : ℕ) (ts : List Ty)
    → map (λ (l : IrLocal). l.scalars) (locals_from structs x n ts) ≡ map (λ (t : Ty). (layout structs t).slots) ts
local_scalars structs x n [] = refl
local_scalars structs x n (t ∷ ts) =
    ap (λ (ss : List (List Slot)). (layout structs t).slots ∷ ss) (local_scalars structs x (n + 1) ts)

pub same_objects : (core : Core) (x : Function) (fn : IrFunction) → ServesFunction core x fn
    → machine.objects_of fn ≡ objects_of core.structs x
same_objects core x fn h =
    ap (λ (ls : List IrLocal). map (λ (l : IrLocal). l.scalars) ls) h.locals
    ∙ local_scalars core.structs x 0 (x.params ++ x.locals)

local_at : (structs : List Struct) (x : Function) (n i : ℕ) (ts : List Ty) → i < length (locals_from structs x n ts)
    → offset_or (slice_get (locals_from structs x n ts) i) ≡ local_offset structs x (n + i)
local_at structs x n i [] l = absurd (omega arith)
local_at structs x n zero (t ∷ ts) l = ap (local_offset structs x) (let z : n ≡ n + 0 = omega arith in z)
local_at structs x n (suc i) (t ∷ ts) l =
    let long : length (locals_from structs x n (t ∷ ts)) ≡ suc (length (locals_from structs x (n + 1) ts)) = refl in
    local_at structs x (n + 1) i ts (omega arith)
    ∙ ap (local_offset structs x) (let z : n + 1 + i ≡ n + suc i = omega arith in z)

-- a local stands where the program has it
pub local_stands : (core : Core) (ir : Ir) → Serves core ir → (g n : ℕ) → n < length (function_at ir g).locals
    → offset_or (slice_get (function_at ir g).locals n) ≡ offset_in core.structs (slice_get core.functions g) n
local_stands core ir serves g n few = from (slice_get ir.functions g) refl few
  where
    from : (o : Option IrFunction) → slice_get ir.functions g ≡ o → n < length (or_none o).locals
        → offset_or (slice_get (or_none o).locals n) ≡ offset_in core.structs (slice_get core.functions g) n
    from None e l = absurd (omega arith)
    from (Some fn) e l =
        let s = served core ir serves g fn e in
        let is = s.serves.locals in
        let x : Function = s.function in
        let ls : List IrLocal = locals_from core.structs x 0 (x.params ++ x.locals) in
        ap (λ (ks : List IrLocal). offset_or (slice_get ks n)) is
        ∙ local_at core.structs x 0 n (x.params ++ x.locals) (subst (λ (ks : List IrLocal). n < length ks) is l)
        ∙ ap (local_offset core.structs x) (let z : 0 + n ≡ n = omega arith in z)
        ∙ ap (λ (f : Option Function). offset_in core.structs f n) (sym s.is)

-- ---- frames

-- scalars that end below an offset, in cells that have them
cells_in : (frame offset most : ℕ) (slots : List Slot) (cs : List Scalar) → map slot_of cs ≡ slots
    → Every (λ s. offset + (s.offset + kind_bytes s.kind) ≤ most) slots
    → Every (λ c. (frame ≤ frame + offset + c.offset) × (frame + offset + c.offset < frame + most)) cs
cells_in frame offset most slots cs e h =
    from cs (subst (λ (ss : List Slot). Every (λ s. offset + (s.offset + kind_bytes s.kind) ≤ most) ss) (sym e) h)
  where
    from : (ds : List Scalar) → Every (λ s. offset + (s.offset + kind_bytes s.kind) ≤ most) (map slot_of ds)
        → Every (λ c. (frame ≤ frame + offset + c.offset) × (frame + offset + c.offset < frame + most)) ds
    from [] k = tt
    from (d ∷ ds) k =
        let some = some_width d.kind in
        let same = same_width d.kind in
        let here = k.0 in
        ((omega arith, omega arith), from ds k.1)

module _ (structs : List Struct) (x : Function) (frame most : ℕ) where
  slots_in : (offset : ℕ) (slots all : List Slot) (end : ℕ) → Every (λ s. s.offset + kind_bytes s.kind ≤ end) slots
      → offset + end ≤ most → Every (λ s. offset + (s.offset + kind_bytes s.kind) ≤ most) slots
  slots_in offset [] all end h l = tt
  slots_in offset (s ∷ ss) all end h l = let here = h.0 in (omega arith, slots_in offset ss all end h.1 l)

  objects_in : (n first : ℕ) (ts : List Ty) (os : List Object) → AreMade first (map (λ (t : Ty). (layout structs t).slots) ts) os
      → locals_end (locals_from structs x n ts) ≤ most
      → LieIn frame (frame + most) (placed_from (λ i. frame + local_offset structs x i) n os)
  objects_in n first [] [] h l = tt
  objects_in n first [] (o ∷ os) h l = absurd h
  objects_in n first (t ∷ ts) [] h l = absurd h
  objects_in n first (t ∷ ts) (o ∷ os) h l =
      let slots : List Slot = (layout structs t).slots in (
        cells_in frame (local_offset structs x n) most slots o.cells h.1
            (slots_in (local_offset structs x n) slots slots (scalars_end slots) (scalars_within slots) (omega arith)),
        objects_in (n + 1) (first + 1) ts os h.2 (omega arith),
      )

-- those of a call end below the temporaries
temporaries_behind : (fn : IrFunction) → locals_end fn.locals ≤ temporaries_at fn
temporaries_behind fn = omega arith

call_in : (core : Core) (ir : Ir) → Serves core ir → (low : ℕ) (c : Call) → CallIsMade core low c
    → LieIn c.frame (c.frame + temporaries_at (function_at ir c.function)) (placed_from (local_address core c) 0 c.locals)
call_in core ir serves low c h =
    let f = serves.functions c.function h.function h.is in
    let fn : IrFunction = f.0 in
    let end = temporaries_behind fn in
    let locals = ap locals_end f.2.locals in
    let x : Function = h.function in
    let in_form : LieIn c.frame (c.frame + temporaries_at fn)
    (placed_from (λ i. c.frame + local_offset core.structs x i) 0 c.locals) =
    objects_in core.structs x c.frame (temporaries_at fn) 0 h.first (x.params ++ x.locals) c.locals h.objects (omega arith) in
    subst (λ (k : IrFunction). LieIn c.frame (c.frame + temporaries_at k) (placed_from (local_address core c) 0 c.locals))
    (sym (at_number ir c.function fn f.1))
    (subst (λ (o : Option Function). LieIn c.frame (c.frame + temporaries_at fn)
    (placed_from (λ i. c.frame + offset_in core.structs o i) 0 c.locals)) (sym h.is) in_form)

pub calls_in : (core : Core) (ir : Ir) → Serves core ir → (low next : ℕ) (cs : List Call) → CallsAreMade core low next cs
    → Every (λ (c : Call). LieIn c.frame (c.frame + temporaries_at (function_at ir c.function))
    (placed_from (local_address core c) 0 c.locals)) cs
calls_in core ir serves low next [] h = tt
calls_in core ir serves low next (c ∷ cs) h =
    (call_in core ir serves low c h.0, calls_in core ir serves (h.0.first + length c.locals) next cs h.1)

-- ---- a call begins

pub entered : (core : Core) (ir : Ir) → Serves core ir → (next : ℕ) (s : State) (f frame : ℕ) (fn : IrFunction)
    → slice_get ir.functions f ≡ Some fn → frame_below (top_of s) fn.frame ≡ Some frame → IsMade core next (kept s)
    → IsMade core (next + length (machine.objects_of fn)) (kept (with_call (new_call fn f frame next) s))
entered core ir serves next s f frame fn e place made =
    let h = served core ir serves f fn e in
    let x : Function = h.function in
    let bytes : frame_below (top_of s) (frame_bytes core.structs x) ≡ Some frame =
    subst (λ (n : ℕ). frame_below (top_of s) n ≡ Some frame) h.serves.frame place in
    subst (λ (ss : List (List Slot)). IsMade core (next + length ss)
    (kept (with_call (record { function = f; frame = frame; locals = fresh_objects next ss }) s)))
    (sym (same_objects core x fn h.serves)) (entered_made core next s f frame x h.is bytes made)
