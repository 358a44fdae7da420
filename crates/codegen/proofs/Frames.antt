-- Frames: parameters and locals end below the temporaries, and the temporaries in the frame.
use Rattle.std.proofs.Common.{◌≡◌, ℕ, zero, suc, ◌+◌, ◌*◌, ◌≤◌, refl, sym, ap, ◌∙◌, subst, arith, Bool, true, false, List, [], ◌∷◌, Some}
use Rattle.std.proofs.lemmas.Option.{get_or_from_slice_get, slice_get-map}
use Rattle.std.specs.Prelude.{slice_get, take, get_or, option_map}
use Rattle.base16.specs.declared.image.Kind.{Kind}
use Rattle.base16.specs.declared.image.Kind.TheVariants as kind
use Rattle.core_layout.specs.Laws.{width, end_of, SlotsFit}
use Rattle.core_tree.specs.Heights.{local_offset, object_layouts, height_of, objects_of}
use Rattle.core_tree.specs.Layout.{Layout, aligned, nothing, layouts, layout_in, layout, size_of, with_member, with_members, start_of}
use Rattle.core_tree.specs.LawfulCore.{Every}
use Rattle.core_tree.specs.declared.program.Core.{Core}
use Rattle.core_tree.specs.declared.program.Function.{Function}
use Rattle.core_tree.specs.declared.types.Slot.{Slot}
use Rattle.core_tree.specs.declared.types.Struct.{Struct}
use Rattle.core_tree.specs.declared.types.Ty.{Ty}
use Rattle.ir.specs.declared.form.IrFunction.{IrFunction}
use Rattle.ir_gen.specs.Form.{locals_from}
use Rattle.ir_gen.specs.Serves.{ServesFunction}
use Rattle.select430.specs.Frames.{kind_bytes, scalars_end, locals_end, temporaries_at}
use Rattle.steps430.specs.Setting.{FrameFits}
use Rattle.codegen.proofs.Lists.{same_some, none_some}

-- ---- rows of layouts

grown : (even : Bool) (n : ℕ) → n ≤ aligned even n
grown true n = omega arith
grown false n = omega arith

with_more : (before : Layout) (ls : List Layout) → before.size ≤ (with_members before ls).size
with_more before [] = omega arith
with_more before (l ∷ ls) =
    let one = grown l.even before.size in
    let more = with_more (with_member before l) ls in
    omega arith

-- each of a row ends within it
ends : (before : Layout) (ls : List Layout) (n : ℕ) (l : Layout) → slice_get ls n ≡ Some l
    → aligned l.even (with_members before (take n ls)).size + l.size ≤ (with_members before ls).size
ends before [] n l e = absurd (none_some l e)
ends before (k ∷ ls) zero l e =
    let same : k ≡ l = same_some k l e in
    let more = with_more (with_member before k) ls in
    subst (λ (y : Layout). aligned y.even before.size + y.size ≤ (with_members (with_member before k) ls).size) same more
ends before (k ∷ ls) (suc n) l e = ends (with_member before k) ls n l e

pub row_ends : (ls : List Layout) (n : ℕ) (l : Layout) → slice_get ls n ≡ Some l
    → start_of ls n + l.size ≤ (with_members nothing ls).size
row_ends ls n l e =
    let is : get_or ls n nothing ≡ l = get_or_from_slice_get ls n l nothing e in
    subst (λ (k : Layout). aligned k.even (with_members nothing (take n ls)).size + l.size ≤ (with_members nothing ls).size)
    (sym is) (ends nothing ls n l e)

-- ---- scalars of an object

pub same_width : (k : Kind) → kind_bytes k ≡ width k
same_width kind.Char = refl
same_width kind.Int = refl
same_width kind.UInt = refl
same_width kind.Pointer = refl

scalars_fit : (most : ℕ) (ss : List Slot) → Every (λ s. end_of s ≤ most) ss → scalars_end ss ≤ most
scalars_fit most [] h = omega arith
scalars_fit most (s ∷ ss) h =
    let more = scalars_fit most ss h.1 in
    let here = h.0 in
    let same = same_width s.kind in
    omega arith

pub scalars_within : (ss : List Slot) → Every (λ s. s.offset + kind_bytes s.kind ≤ scalars_end ss) ss
scalars_within [] = tt
scalars_within (s ∷ ss) =
    (omega arith, wider ss (scalars_end ss) (scalars_end (s ∷ ss)) (omega arith) (scalars_within ss))
  where
    wider : (xs : List Slot) (a b : ℕ) → a ≤ b → Every (λ x. x.offset + kind_bytes x.kind ≤ a) xs
        → Every (λ x. x.offset + kind_bytes x.kind ≤ b) xs
    wider [] a b l h = tt
    wider (x ∷ xs) a b l h = let here = h.0 in (omega arith, wider xs a b l h.1)

-- ---- objects of a function

module _ (core : Core) (fit : (t : Ty) → SlotsFit core.structs t) (x : Function) where
  abbrev structs : List Struct
  structs = core.structs

  abbrev all_bytes : ℕ
  all_bytes = (with_members nothing (object_layouts structs x)).size

  object_ends : (n : ℕ) (t : Ty) → slice_get (objects_of x) n ≡ Some t
      → local_offset structs x n + size_of structs t ≤ all_bytes
  object_ends n t e = row_ends (object_layouts structs x) n (layout_in (layouts structs) t)
      (slice_get-map (layout_in (layouts structs)) (objects_of x) n ∙ ap (option_map (layout_in (layouts structs))) e)

  locals_fit : (n : ℕ) (ts : List Ty) → ((i : ℕ) (t : Ty) → slice_get ts i ≡ Some t → slice_get (objects_of x) (n + i) ≡ Some t)
      → locals_end (locals_from structs x n ts) ≤ all_bytes
  locals_fit n [] h = omega arith
  locals_fit n (t ∷ ts) h =
      let here : local_offset structs x n + size_of structs t ≤ all_bytes =
      object_ends n t (subst (λ (i : ℕ). slice_get (objects_of x) i ≡ Some t) (let z : n + 0 ≡ n = omega arith in z)
      (h 0 t refl)) in
      let own = scalars_fit (size_of structs t) (layout structs t).slots (fit t) in
      let more = locals_fit (n + 1) ts
      (λ i u e. subst (λ (j : ℕ). slice_get (objects_of x) j ≡ Some u) (let z : n + suc i ≡ n + 1 + i = omega arith in z)
      (h (suc i) u e)) in
      omega arith

  module _ (fn : IrFunction) (h : ServesFunction core x fn) where
    pub locals_below : locals_end fn.locals ≤ all_bytes
    locals_below = subst (λ ls. locals_end ls ≤ all_bytes) (sym h.locals)
        (locals_fit 0 (objects_of x) (λ i t e. subst (λ (j : ℕ). slice_get (objects_of x) j ≡ Some t)
        (let z : i ≡ 0 + i = omega arith in z) e))

    -- the temporaries have their words in the frame
    pub temporaries_fit : temporaries_at fn + 2 * (height_of x + 2) ≤ fn.frame
    temporaries_fit =
        let below = locals_below in
        let frame = h.frame in
        omega arith

    pub frame_fits : fn.frame ≤ 240 → FrameFits fn
    frame_fits most =
        let below = temporaries_fit in
        let frame = h.frame in
        record { even = omega arith; least = omega arith; most = most; objects = omega arith }
