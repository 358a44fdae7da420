-- Scalars of two bytes stand at even addresses.
use Rattle.std.proofs.Common.{◌≡◌, ℕ, zero, suc, ◌+◌, ◌-◌, ◌*◌, ◌/◌, ◌%◌, Bool, true, false, ◌||◌, List, [], ◌∷◌, ◌++◌, map, length, get_or, take, Option, Some, None, refl, sym, ap, ◌∙◌, subst, arith, rules, append_assoc}
use Rattle.std.specs.Prelude.{if◌then◌else◌, nat_le, nat_lt, slice_get}
use Rattle.std.proofs.lemmas.List.{length-append}
use Rattle.base16.specs.Board.{data_start, first_stack_pointer}
use Rattle.base16.specs.Placement.{frame_below, placed_from as addresses_from}
use Rattle.base16.specs.declared.image.Kind.TheVariants as kind
use Rattle.base16.specs.declared.integer.IntType.{IntType}
use Rattle.base16.specs.declared.integer.IntType.TheVariants as int
use Rattle.c_meaning.specs.After.{objects_of}
use Rattle.c_values.specs.declared.state.Call.{Call}
use Rattle.c_values.specs.declared.state.Object.{Object}
use Rattle.c_values.specs.declared.state.Saved.{Saved}
use Rattle.core_layout.specs.Laws.{width, SlotsAligned}
use Rattle.core_tree.specs.Data.{global_address}
use Rattle.core_tree.specs.Heights.{local_offset}
use Rattle.core_tree.specs.Layout.{Layout, copies, moved_by, aligned, nothing, scalar, integer, layout, layouts, layout_in, with_member, with_members, member_layouts, layouts_from, struct_layout, start_of}
use Rattle.core_tree.specs.LawfulCore.{Every}
use Rattle.core_tree.specs.declared.program.Core.{Core}
use Rattle.core_tree.specs.declared.program.Function.{Function}
use Rattle.core_tree.specs.declared.types.Member.{Member}
use Rattle.core_tree.specs.declared.types.Slot.{Slot}
use Rattle.core_tree.specs.declared.types.Struct.{Struct}
use Rattle.core_tree.specs.declared.types.Ty.{Ty, the_lemmas, roll-Ty, map-Ty, ind-Ty}
use Rattle.core_tree.specs.declared.types.Ty.TheOpen.{Ty-F}
use Rattle.matching.proofs.Lying.{each_append, at_split, types_of, row_of_types, slots_of_types}
use Rattle.matching.proofs.Making.{split}
use Rattle.matching.specs.Laid.{IsAligned, AreMade, CallsAreMade, bytes_by, bytes_of, IsMade}
use Rattle.matching.specs.Matches.{placed_from, offset_in, local_address, placed_in_calls, placed}

-- ---- a type that is not even has scalars of one byte alone

abbrev Narrow : List Slot → Type 0
Narrow xs = Every (λ s. width s.kind ≡ 1) xs

abbrev IsNarrow : (even : Bool) → List Slot → Type 0
IsNarrow true xs = Unit {0}
IsNarrow false xs = Narrow xs

narrow_moved : (by : ℕ) (xs : List Slot) → Narrow xs → Narrow (map (moved_by by) xs)
narrow_moved by [] h = tt
narrow_moved by (x ∷ xs) h = (h.0, narrow_moved by xs h.1)

narrow_copies : (n at : ℕ) (of : Layout) → Narrow of.slots → Narrow (copies n at of)
narrow_copies zero at of h = tt
narrow_copies (suc n) at of h =
    each_append (λ (s : Slot). width s.kind ≡ 1) (map (moved_by at) of.slots) (copies n (at + of.size) of)
    (narrow_moved at of.slots h) (narrow_copies n (at + of.size) of h)

copies_narrow : (even : Bool) (n at : ℕ) (of : Layout) → IsNarrow even of.slots → IsNarrow even (copies n at of)
copies_narrow true n at of h = tt
copies_narrow false n at of h = narrow_copies n at of h

both_narrow : (a b : Bool) (by : ℕ) (xs ys : List Slot) → IsNarrow a xs → IsNarrow b ys
    → IsNarrow (a || b) (xs ++ map (moved_by by) ys)
both_narrow true b by xs ys h k = tt
both_narrow false true by xs ys h k = tt
both_narrow false false by xs ys h k =
    each_append (λ (s : Slot). width s.kind ≡ 1) xs (map (moved_by by) ys) h (narrow_moved by ys k)

abbrev Says : Layout → Type 0
Says l = IsNarrow l.even l.slots

members_say : (before : Layout) (ms : List Layout) → Says before → Every Says ms → Says (with_members before ms)
members_say before [] h k = h
members_say before (m ∷ ms) h k =
    members_say (with_member before m) ms
    (both_narrow before.even m.even (aligned m.even before.size) before.slots m.slots h k.0) k.1

integer_says : (t : IntType) → Says (integer t)
integer_says int.Char = (refl, tt)
integer_says int.Int = tt
integer_says int.UInt = tt

at_says : (xs : List Layout) (i : ℕ) → Every Says xs → Says (get_or xs i nothing)
at_says [] i h = tt
at_says (x ∷ xs) zero h = h.0
at_says (x ∷ xs) (suc i) h = at_says xs i h.1

module _ (known : List Layout) (all : Every Says known) where
  layer : {A : Type 0} (fa : A → Ty) → ((a : A) → Says (layout_in known (fa a))) → (y : Ty-F A)
      → Says (layout_in known (roll-Ty (map-Ty A Ty fa y)))
  layer fa ha Ty-F.Void =
      let e : layout_in known (roll-Ty Ty-F.Void) ≡ nothing = search (rules, the_lemmas) in rw e tt
  layer fa ha (Ty-F.Num t) =
      let e : layout_in known (roll-Ty (Ty-F.Num t)) ≡ integer t = search (rules, the_lemmas) in rw e (integer_says t)
  layer fa ha (Ty-F.Pointer to readonly) =
      let e : layout_in known (roll-Ty (Ty-F.Pointer (fa to) readonly)) ≡ scalar kind.Pointer 2 true =
      search (rules, the_lemmas) in
      rw e tt
  layer fa ha (Ty-F.Array of count) =
      let inner : Layout = layout_in known (fa of) in
      let e : layout_in known (roll-Ty (Ty-F.Array (fa of) count))
      ≡ record { size = count * inner.size; even = inner.even; slots = copies count 0 inner } =
      search (rules, the_lemmas) in
      rw e (copies_narrow inner.even count 0 inner (ha of))
  layer fa ha (Ty-F.Struct tag) =
      let e : layout_in known (roll-Ty (Ty-F.Struct tag)) ≡ get_or known tag nothing = search (rules, the_lemmas) in
      rw e (at_says known tag all)

  type_says : (t : Ty) → Says (layout_in known t)
  type_says = ind-Ty (λ t. Says (layout_in known t)) (λ x y is. subst (λ z. Says (layout_in known (roll-Ty z))) is
      (layer (λ e. e.0) (λ e. e.1) y))

  all_say : (ms : List Member) → Every Says (member_layouts known ms)
  all_say [] = tt
  all_say (m ∷ ms) = (type_says m.ty, all_say ms)

structs_say : (known : List Layout) (ss : List Struct) → Every Says known → Every Says (layouts_from known ss)
structs_say known [] all = all
structs_say known (s ∷ ss) all =
    structs_say (known ++ struct_layout known s ∷ []) ss
    (each_append Says known (struct_layout known s ∷ []) all
    (members_say nothing (member_layouts known s.members) tt (all_say known all s.members), tt))

narrow : (structs : List Struct) (t : Ty) → Says (layout structs t)
narrow structs t = type_says (layouts structs) (structs_say [] structs tt) t

-- ---- objects of types, at even addresses

abbrev Evens : List Struct → (address : ℕ → ℕ) → ℕ → List Ty → Type 0
Evens structs address i [] = Unit {0}
Evens structs address i (t ∷ ts) = ((layout structs t).even ≡ true → address i % 2 ≡ 0) × Evens structs address (i + 1) ts

even_aligned : (even : Bool) (base n : ℕ) → base % 2 ≡ 0 → even ≡ true → (base + aligned even n) % 2 ≡ 0
even_aligned true base n e is = omega arith
even_aligned false base n e is = absurd (cc)

evens : (structs : List Struct) (base : ℕ) (all before ts : List Ty) (i : ℕ) → base % 2 ≡ 0 → all ≡ before ++ ts
    → i ≡ length before
    → Evens structs (λ n. base + start_of (map (layout_in (layouts structs)) all) n) i ts
evens structs base all before [] i z e n = tt
evens structs base all before (t ∷ ts) i z e n =
    let f : Ty → Layout = layout_in (layouts structs) in
    let row : List Layout = map f all in
    let here : get_or row i nothing ≡ f t =
    subst (λ (xs : List Ty). get_or (map f xs) i nothing ≡ f t) (sym e)
    (subst (λ (k : ℕ). get_or (map f (before ++ t ∷ ts)) k nothing ≡ f t) (sym n) (at_split f before ts t)) in
    let long = length-append before (t ∷ []) in
    let one : length (t ∷ []) ≡ 1 = refl in (
      (λ even. even_aligned (get_or row i nothing).even base (with_members nothing (take i row)).size z
          (ap (λ (l : Layout). l.even) here ∙ even)),
      evens structs base all (before ++ t ∷ []) ts (i + 1) z (e ∙ sym (append_assoc before (t ∷ []) ts)) (omega arith),
    )

abbrev TwoBytes : (address : ℕ) → Slot → Type 0
TwoBytes address s = width s.kind ≡ 2 → (address + s.offset) % 2 ≡ 0

at_even : (address : ℕ) (xs : List Slot) → address % 2 ≡ 0 → Every (λ s. s.offset % width s.kind ≡ 0) xs
    → Every (TwoBytes address) xs
at_even address [] e h = tt
at_even address (x ∷ xs) e h =
    ((λ w. let two : x.offset % 2 ≡ 0 = subst (λ (k : ℕ). x.offset % k ≡ 0) w h.0 in omega arith), at_even address xs e h.1)

of_one : (address : ℕ) (xs : List Slot) → Narrow xs → Every (TwoBytes address) xs
of_one address [] h = tt
of_one address (x ∷ xs) h = ((λ w. let one = h.0 in absurd (omega arith)), of_one address xs h.1)

slots_aligned : (even : Bool) (address : ℕ) (xs : List Slot) → (even ≡ true → address % 2 ≡ 0) → IsNarrow even xs
    → Every (λ s. s.offset % width s.kind ≡ 0) xs → Every (TwoBytes address) xs
slots_aligned true address xs e n h = at_even address xs (e refl) h
slots_aligned false address xs e n h = of_one address xs n

module _ (structs : List Struct) (fit : (t : Ty) → SlotsAligned structs t) where
  abbrev slots_by : Ty → List Slot
  slots_by t = (layout structs t).slots

  group : (address : ℕ → ℕ) (i first : ℕ) (ts : List Ty) (os : List Object) → Evens structs address i ts
      → AreMade first (map slots_by ts) os → Every IsAligned (placed_from address i os)
  group address i first [] [] e h = tt
  group address i first [] (o ∷ os) e h = absurd h
  group address i first (t ∷ ts) [] e h = absurd h
  group address i first (t ∷ ts) (o ∷ os) e h = (
    subst (λ (xs : List Slot). Every (TwoBytes (address i)) xs) (sym h.1)
        (slots_aligned (layout structs t).even (address i) (slots_by t) e.0 (narrow structs t) (fit t)),
    group address (i + 1) (first + 1) ts os e.1 h.2,
  )

-- ---- frames

even_frame : (sp bytes at : ℕ) → sp % 2 ≡ 0 → bytes % 2 ≡ 0 → frame_below sp bytes ≡ Some at → at % 2 ≡ 0
unfolding frame_below
even_frame sp bytes at e f h =
    by (nat_lt 240 bytes) (nat_le ((sp - 2) / 256 * 256 + bytes + 4) (sp - 2)) (nat_lt ((sp - 2) / 256 * 256) 0x3F00) h
  where
    by : (a b c : Bool)
        → (if a then None
        else (if b then Some (sp - 2 - bytes) else (if c then Some ((sp - 2) / 256 * 256 + 512 - 2 - bytes) else None))) ≡
        Some at
        → at % 2 ≡ 0
    by true b c h = absurd (cc)
    by false true c h = let is : sp - 2 - bytes ≡ at = cc in omega arith
    by false false true h = let is : (sp - 2) / 256 * 256 + 512 - 2 - bytes ≡ at = cc in omega arith
    by false false false h = absurd (cc)

even_frames : (sp : ℕ) (xs ys : List ℕ) → sp % 2 ≡ 0 → Every (λ x. x % 2 ≡ 0) xs → addresses_from sp xs ≡ Some ys
    → Every (λ y. y % 2 ≡ 0) ys
even_frames sp [] ys e all h = let none : ys ≡ [] = cc in subst (λ (zs : List ℕ). Every (λ y. y % 2 ≡ 0) zs) (sym none) tt
even_frames sp (x ∷ xs) ys e all h =
    let s = split sp x xs ys h in
    let here = even_frame sp x s.at e all.0 s.first in
    subst (λ (zs : List ℕ). Every (λ y. y % 2 ≡ 0) zs) (sym s.all) (here, even_frames s.at xs s.rest here all.1 s.others)

even_bytes : (structs : List Struct) (f : Option Function) → bytes_by structs f % 2 ≡ 0
even_bytes structs None = omega arith
even_bytes structs (Some f) = omega arith

all_even : (core : Core) (cs : List Call) → Every (λ x. x % 2 ≡ 0) (map (bytes_of core) cs)
all_even core [] = tt
all_even core (c ∷ cs) = (even_bytes core.structs (slice_get core.functions c.function), all_even core cs)

-- ---- states

module _ (core : Core) (fit : (t : Ty) → SlotsAligned core.structs t) where
  in_frame : (c : Call) (f : Function) (first : ℕ) (found : Option Function) → found ≡ Some f → c.frame % 2 ≡ 0
      → AreMade first (objects_of core.structs f) c.locals
      → Every IsAligned (placed_from (λ n. c.frame + offset_in core.structs found n) 0 c.locals)
  in_frame c f first found e even made =
      let ts : List Ty = f.params ++ f.locals in
      subst (λ (x : Option Function). Every IsAligned (placed_from (λ n. c.frame + offset_in core.structs x n) 0 c.locals))
      (sym e)
      (group core.structs fit (λ n. c.frame + local_offset core.structs f n) 0 first ts c.locals
      (evens core.structs c.frame ts [] ts 0 even refl refl) made)

  calls_aligned : (low next : ℕ) (cs : List Call) → CallsAreMade core low next cs
      → Every (λ y. y % 2 ≡ 0) (map (λ (c : Call). c.frame) cs) → Every IsAligned (placed_in_calls core cs)
  calls_aligned low next [] h e = tt
  calls_aligned low next (c ∷ cs) h e =
      each_append IsAligned (placed_from (local_address core c) 0 c.locals) (placed_in_calls core cs)
      (in_frame c h.0.function h.0.first (slice_get core.functions c.function) h.0.is e.0 h.0.objects)
      (calls_aligned (h.0.first + length c.locals) next cs h.1 e.1)

  globals_even : Evens core.structs (global_address core) 0 (types_of core.globals)
  unfolding global_address
  globals_even =
      subst (λ (row : List Layout). Evens core.structs (λ n. data_start + start_of row n) 0 (types_of core.globals))
      (row_of_types core core.globals) (evens core.structs data_start (types_of core.globals) [] (types_of core.globals) 0
      (omega arith) refl refl)

  -- each scalar of two bytes of a state stands at an even address
  pub made_aligned : (next : ℕ) (s : Saved) → IsMade core next s → Every IsAligned (placed core s)
  made_aligned next s h =
      each_append IsAligned (placed_from (global_address core) 0 s.globals) (placed_in_calls core s.calls)
      (group core.structs fit (global_address core) 0 0 (types_of core.globals) s.globals globals_even
      (subst (λ (xs : List (List Slot)). AreMade 0 xs s.globals) (slots_of_types core.structs core.globals) h.globals))
      (calls_aligned (length core.globals) next s.calls h.calls
      (even_frames first_stack_pointer (map (bytes_of core) s.calls) (map (λ (c : Call). c.frame) s.calls) (omega arith)
      (all_even core s.calls) h.frames))
