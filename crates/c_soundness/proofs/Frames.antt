-- Objects that come to life: where pointers stand is told for them, and what stood before stands on.
use Rattle.std.proofs.Common.{◌≡◌, ℕ, zero, suc, ◌+◌, ◌-◌, ◌<◌, Bool, true, false, cond, nat_lt, List, [], ◌∷◌, length, slice_get, get_or, Option, Some, None, refl, sym, subst, ◌∙◌, rules, arith, tests}
use Rattle.std.proofs.lemmas.Option.{slice_get_within, get_or_from_slice_get}
use Rattle.std.specs.Prelude.{nat_eq}
use Rattle.core_tree.specs.declared.types.Slot.{Slot}
use Rattle.core_tree.specs.LawfulCore.{Every}
use Rattle.c_values.specs.declared.value.Cell.{Cell}
use Rattle.c_values.specs.declared.state.Object.{Object}
use Rattle.c_values.specs.declared.state.Call.{Call}
use Rattle.c_values.specs.declared.state.Saved.{Saved}
use Rattle.c_values.specs.declared.state.State.{State}
use Rattle.c_run.specs.Making.{fresh_cell, fresh_objects}
use Rattle.c_soundness.specs.Shapes.{MayStand, holds_pointer}
use Rattle.c_soundness.specs.Standing.{Kinds, CellStands, ObjectStands, CallStands, SavedStands, StateStands, Frame, FrameStands}
use Rattle.c_soundness.proofs.Cells.{missing_stands, every_map, every_weak}
use Rattle.c_soundness.proofs.Layouts.{Lie}

-- where pointers stand among some scalars
abbrev pub pointer_at : List Slot → ℕ → Bool
pointer_at [] offset = false
pointer_at (s ∷ ss) offset = cond (nat_eq s.offset offset) (holds_pointer s.kind) (pointer_at ss offset)

-- among all objects, of which those from a number on have these scalars
abbrev pub extended : Kinds → ℕ → List (List Slot) → Kinds
extended kinds next objects n offset = cond (nat_lt n next) (kinds n offset) (pointer_at (get_or objects (n - next) []) offset)

-- ---- among the scalars of one object

same_offset : (n : ℕ) → nat_eq n n ≡ true
same_offset n = grind (arith, tests)

other_offset : (m n : ℕ) → m < n → nat_eq m n ≡ false
other_offset m n h = grind (arith, tests)

abbrev Told : (ℕ → Bool) → List Slot → Type 0
Told at ss = Every (λ (s : Slot). at s.offset ≡ holds_pointer s.kind) ss

-- what is told of the later scalars is told where one stands before them
told_behind : (s : Slot) (at : ℕ → Bool) (low end : ℕ) (ss : List Slot) → s.offset < low → Lie low end ss → Told at ss
    → Told (λ offset. cond (nat_eq s.offset offset) (holds_pointer s.kind) (at offset)) ss
told_behind s at low end [] h l told = tt
told_behind s at low end (t ∷ ss) h l told = (
  rw (other_offset s.offset t.offset (omega (arith, h, l.0))) told.0,
  told_behind s at (t.offset + 1) end ss
      (omega (arith, h, l.0)) l.1 told.1,
)

pub told : (low end : ℕ) (ss : List Slot) → Lie low end ss → Told (pointer_at ss) ss
told low end [] l = tt
told low end (s ∷ ss) l = (
  rw (same_offset s.offset) refl,
  told_behind s (pointer_at ss) (s.offset + 1) end ss (omega arith) l.1
      (told (s.offset + 1) end ss l.1),
)

-- ---- among all objects

pub kept_kinds : (kinds : Kinds) (next : ℕ) (objects : List (List Slot)) (n offset : ℕ) → n < next
    → extended kinds next objects n offset ≡ kinds n offset
kept_kinds kinds next objects n offset h = rw (is_below n next h) refl
  where
    is_below : (n m : ℕ) → n < m → nat_lt n m ≡ true
    is_below n m h = grind (arith, tests)

new_kinds : (kinds : Kinds) (next : ℕ) (objects : List (List Slot)) (n offset : ℕ) (slots : List Slot) → slice_get objects n
    ≡ Some slots
    → extended kinds next objects (next + n) offset ≡ pointer_at slots offset
new_kinds kinds next objects n offset slots h =
    let back : next + n - next ≡ n = omega arith in
    let found : get_or objects n [] ≡ slots = get_or_from_slice_get objects n slots [] h in
    rw (not_below next n, back, found) refl
  where
    not_below : (m n : ℕ) → nat_lt (m + n) m ≡ false
    not_below m n = grind (arith, tests)

-- the scalars of each new object have rising offsets
abbrev pub AllLie : List (List Slot) → Type 0
AllLie all = Every (λ (ss : List Slot). (end : ℕ) × Lie 0 end ss) all

lie_at : (all : List (List Slot)) (n : ℕ) (slots : List Slot) → AllLie all → slice_get all n ≡ Some slots → (end : ℕ)
    × Lie 0 end slots
lie_at [] n slots h e = absurd (search rules)
lie_at (ss ∷ all) zero slots h e = let is : ss ≡ slots = cc in subst (λ (x : List Slot). (end : ℕ) × Lie 0 end x) is h.0
lie_at (ss ∷ all) (suc n) slots h e = lie_at all n slots h.1 e

module _ (kinds : Kinds) (next : ℕ) (objects : List (List Slot)) where
  abbrev longer : Kinds
  longer = extended kinds next objects

  abbrev after : ℕ
  after = next + length objects

  cell_kept : (n : ℕ) → n < next → (c : Cell) → CellStands kinds n c → CellStands longer n c
  cell_kept n h c w =
      let e : kinds n c.offset ≡ longer n c.offset = sym (kept_kinds kinds next objects n c.offset h) in
      record { kind = w.kind ∙ e; value = subst (λ (b : Bool). MayStand b c.value) e w.value }

  object_kept : (o : Object) → ObjectStands kinds next o → ObjectStands longer after o
  object_kept o w = record {
    made = omega (arith, w.made);
    cells = every_weak (CellStands kinds o.number) (CellStands longer o.number) (cell_kept o.number w.made) o.cells w.cells;
  }

  call_kept : (c : Call) → CallStands kinds next c → CallStands longer after c
  call_kept c w = every_weak (ObjectStands kinds next) (ObjectStands longer after) object_kept c.locals w

  saved_kept : (o : Option Saved) → SavedStands kinds next o → SavedStands longer after o
  saved_kept None w = tt
  saved_kept (Some b) w = (
    every_weak (ObjectStands kinds next) (ObjectStands longer after) object_kept b.globals w.0,
    every_weak (CallStands kinds next) (CallStands longer after) call_kept b.calls w.1,
  )

  pub state_kept : (s : State) → StateStands kinds next s → StateStands longer after s
  state_kept s w = record {
    globals = every_weak (ObjectStands kinds next) (ObjectStands longer after) object_kept s.globals w.globals;
    calls = every_weak (CallStands kinds next) (CallStands longer after) call_kept s.calls w.calls;
    saved = saved_kept s.block w.saved;
  }

  slot_kept : (n : ℕ) → n < next → (s : Slot) → kinds n s.offset ≡ holds_pointer s.kind → longer n s.offset ≡ holds_pointer s.kind
  slot_kept n h s e = kept_kinds kinds next objects n s.offset h ∙ e

  pub frame_kept : (f : Frame) → FrameStands kinds next f → FrameStands longer after f
  frame_kept f w = record {
    made = omega (arith, w.made);
    slots = λ n slots e.
        let h : n < length f.objects = slice_get_within f.objects n slots e in
        every_weak (λ (s : Slot). kinds (f.first + n) s.offset ≡ holds_pointer s.kind)
        (λ (s : Slot). longer (f.first + n) s.offset ≡ holds_pointer s.kind)
        (slot_kept (f.first + n) (omega (arith, h, w.made))) slots (w.slots n slots e);
  }

  pub frame_new : AllLie objects → FrameStands longer after (record { first = next; objects = objects })
  frame_new h = record {
    made = omega arith;
    slots = λ n slots e.
        let w = lie_at objects n slots h e in
        every_weak (λ (s : Slot). pointer_at slots s.offset ≡ holds_pointer s.kind)
        (λ (s : Slot). longer (next + n) s.offset ≡ holds_pointer s.kind)
        (λ s i. new_kinds kinds next objects n s.offset slots e ∙ i) slots (told 0 w.0 slots w.1);
  }

-- ---- fresh objects

-- the objects behind the first
pub frame_rest : (kinds : Kinds) (next first : ℕ) (slots : List Slot) (more : List (List Slot))
    → FrameStands kinds next (record { first = first; objects = slots ∷ more })
    → FrameStands kinds next (record { first = first + 1; objects = more })
frame_rest kinds next first slots more w = record {
  made = omega (arith, w.made);
  slots = λ n ss e.
      let at : first + suc n ≡ first + 1 + n = omega arith in
      subst (λ (m : ℕ). Every (λ (s : Slot). kinds m s.offset ≡ holds_pointer s.kind) ss) at (w.slots (suc n) ss e);
}

pub frame_first : (kinds : Kinds) (next first : ℕ) (slots : List Slot) (more : List (List Slot))
    → FrameStands kinds next (record { first = first; objects = slots ∷ more })
    → (first < next) × Every (λ (s : Slot). kinds first s.offset ≡ holds_pointer s.kind) slots
frame_first kinds next first slots more w =
    let at : first + 0 ≡ first = omega arith in (
      omega (arith, w.made),
      subst (λ (m : ℕ). Every (λ (s : Slot). kinds m s.offset ≡ holds_pointer s.kind) slots) at
          (w.slots zero slots refl),
    )

fresh_stands : (kinds : Kinds) (n : ℕ) (s : Slot) → kinds n s.offset ≡ holds_pointer s.kind → CellStands kinds n (fresh_cell s)
fresh_stands kinds n s e = record { kind = sym e; value = missing_stands (kinds n s.offset) }

pub fresh_all : (kinds : Kinds) (next first : ℕ) (objects : List (List Slot)) → FrameStands kinds next
    (record { first = first; objects = objects })
    → Every (ObjectStands kinds next) (fresh_objects first objects)
fresh_all kinds next first [] w = tt
fresh_all kinds next first (slots ∷ more) w =
    let h = frame_first kinds next first slots more w in (
      record {
        made = h.0;
        cells = every_map (λ (s : Slot). kinds first s.offset ≡ holds_pointer s.kind) (CellStands kinds first) fresh_cell
            (fresh_stands kinds first) slots h.1;
      },
      fresh_all kinds next (first + 1) more (frame_rest kinds next first slots more w),
    )
