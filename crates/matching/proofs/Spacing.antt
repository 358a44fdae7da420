-- Objects that a run makes lie whole: each has no more bytes than its type, with its pad byte, so that no two share one.
use Rattle.std.proofs.Common.{◌≡◌, ℕ, suc, ◌+◌, ◌%◌, ◌≤◌, max, ◌⊎◌, inl, inr, Bool, true, false, List, [], ◌∷◌, ◌++◌, map, length, Option, Some, refl, sym, subst, arith, if◌then◌else◌}
use Rattle.std.specs.List.{AllZip}
use Rattle.std.specs.Prelude.{slice_get, ◌||◌}
use Rattle.std.proofs.lemmas.List.{length-map}
use Rattle.base16.specs.Board.{stack_start, stack_end, data_start}
use Rattle.base16.specs.declared.image.Kind.{Kind}
use Rattle.base16.specs.declared.image.Kind.TheVariants as kind
use Rattle.c_meaning.specs.After.{objects_of}
use Rattle.c_meaning.specs.Stamps.{slots_of}
use Rattle.c_values.specs.Objects.{wide, reach_of, some_wide, object_size}
use Rattle.c_values.specs.declared.state.Call.{Call}
use Rattle.c_values.specs.declared.state.Object.{Object}
use Rattle.c_values.specs.declared.state.Saved.{Saved}
use Rattle.c_values.specs.declared.value.Cell.{Cell as Scalar}
use Rattle.core_layout.specs.Frames.{IsApart, LieApart, PlacedFramesLieApart}
use Rattle.core_layout.specs.Laws.{width, end_of, SlotsFit, SizeIsEven}
use Rattle.core_layout.specs.Variables.{StampsLie}
use Rattle.core_tree.specs.Data.{global_address}
use Rattle.core_tree.specs.Heights.{frame_bytes, local_offset}
use Rattle.core_tree.specs.Layout.{layout, size_of}
use Rattle.core_tree.specs.LawfulCore.{Every}
use Rattle.core_tree.specs.declared.program.Core.{Core}
use Rattle.core_tree.specs.declared.program.Function.{Function}
use Rattle.core_tree.specs.declared.types.Slot.{Slot}
use Rattle.core_tree.specs.declared.types.Struct.{Struct}
use Rattle.core_tree.specs.declared.types.Ty.{Ty}
use Rattle.matching.proofs.Lying.{each, each_append, Ascends, climbs, globals_ascend, first_variable, locals_ascend, frame_end, made_length, types_of, slots_of_types}
use Rattle.matching.specs.Laid.{slot_of, AreMade, CallIsMade, CallsAreMade, bytes_by, bytes_of}
use Rattle.matching.specs.Matches.{Placed, placed_from, offset_in, local_address, placed_in_calls}
use Rattle.matching.specs.Spacing.{LiesWhole, AreSpaced, ObjectsLieWhole}

-- ---- the bytes of an object

pub same_width : (k : Kind) → (if wide k then 2 else 1) ≡ width k
same_width kind.Char = refl
same_width kind.Int = refl
same_width kind.UInt = refl
same_width kind.Pointer = refl

wide_width : (k : Kind) → wide k ≡ true → width k ≡ 2
wide_width kind.Char e = absurd (differ e)
  where
    differ : false ≡ true → ⊥
    differ j = cc
wide_width kind.Int e = refl
wide_width kind.UInt e = refl
wide_width kind.Pointer e = refl

-- they end inside a size where each of its scalars does
reach_fits : (size : ℕ) (cs : List Scalar) → Every (λ (s : Slot). end_of s ≤ size) (map slot_of cs) → reach_of cs ≤ size
reach_fits size [] h = omega arith
reach_fits size (c ∷ cs) h =
    let more = reach_fits size cs h.1 in
    let same = same_width c.kind in
    let here : c.offset + width c.kind ≤ size = h.0 in
    let one : c.offset + (if wide c.kind then 2 else 1) ≤ size =
    subst (λ (n : ℕ). c.offset + n ≤ size) (sym same) here in
    both (c.offset + (if wide c.kind then 2 else 1)) (reach_of cs) one more
  where
    both : (a b : ℕ) → a ≤ size → b ≤ size → max a b ≤ size
    both a b h k = omega arith

even_size : (size : ℕ) (cs : List Scalar) → Every (λ (s : Slot). width s.kind ≡ 2 → size % 2 ≡ 0) (map slot_of cs)
    → some_wide cs ≡ true → size % 2 ≡ 0
even_size size [] h e = absurd (differ e)
  where
    differ : false ≡ true → ⊥
    differ j = cc
even_size size (c ∷ cs) h e = from (wide c.kind) refl e (λ j. even_size size cs h.1 j)
  where
    from : (b : Bool) → wide c.kind ≡ b → (b || some_wide cs) ≡ true → (some_wide cs ≡ true → size % 2 ≡ 0) → size % 2 ≡ 0
    from true i j more = h.0 (wide_width c.kind i)
    from false i j more = more j

size_fits : (size : ℕ) (cs : List Scalar) → Every (λ (s : Slot). end_of s ≤ size) (map slot_of cs)
    → Every (λ (s : Slot). width s.kind ≡ 2 → size % 2 ≡ 0) (map slot_of cs)
    → (if some_wide cs then reach_of cs + reach_of cs % 2 else reach_of cs) ≤ size
size_fits size cs h k = from (some_wide cs) refl (reach_of cs) (reach_fits size cs h)
  where
    from : (b : Bool) → some_wide cs ≡ b → (n : ℕ) → n ≤ size → (if b then n + n % 2 else n) ≤ size
    from true i n few = let even = even_size size cs k i in omega arith
    from false i n few = few

-- ---- regions

-- an object lies whole between two addresses
record Spans (lo hi : ℕ) (p : Placed) : Type 0 where
  from : lo ≤ p.address
  to : p.address + object_size p.object ≤ hi

spans_wider : (lo hi low high : ℕ) (p : Placed) → low ≤ lo → hi ≤ high → Spans lo hi p → Spans low high p
spans_wider lo hi low high p l k h =
    record { from = let x = h.from in omega arith; to = let x = h.to in omega arith }

spaced_by : (lo hi low high : ℕ) (p q : Placed) → (hi ≤ low) ⊎ (high ≤ lo) → Spans lo hi p → Spans low high q → AreSpaced p q
spaced_by lo hi low high p q side h k = record { bytes = λ differ. from side }
  where
    from : (hi ≤ low) ⊎ (high ≤ lo)
        → (p.address + object_size p.object ≤ q.address) ⊎ (q.address + object_size q.object ≤ p.address)
    from (inl l) = inl (let x = h.to in let y = k.from in omega arith)
    from (inr l) = inr (let x = k.to in let y = h.from in omega arith)

spaced_from : (lo hi low high : ℕ) (p : Placed) (qs : List Placed) → (hi ≤ low) ⊎ (high ≤ lo) → Spans lo hi p
    → Every (Spans low high) qs → Every (AreSpaced p) qs
spaced_from lo hi low high p qs side h k =
    each (Spans low high) (AreSpaced p) qs (λ q l. spaced_by lo hi low high p q side h l) k

-- each is apart from those behind it
abbrev Spaced : List Placed → Type 0
Spaced [] = Unit {0}
Spaced (p ∷ ps) = Every (AreSpaced p) ps × Spaced ps

spaced_append : (ps qs : List Placed) → Spaced ps → Spaced qs → Every (λ p. Every (AreSpaced p) qs) ps → Spaced (ps ++ qs)
spaced_append [] qs h k x = k
spaced_append (p ∷ ps) qs h k x = (each_append (AreSpaced p) ps qs h.0 x.0, spaced_append ps qs h.1 k x.1)

-- and so from all others
turned : (p q : Placed) → AreSpaced p q → AreSpaced q p
turned p q h = record { bytes = λ differ. from (h.bytes (λ e. differ (sym e))) }
  where
    from : (p.address + object_size p.object ≤ q.address) ⊎ (q.address + object_size q.object ≤ p.address)
        → (q.address + object_size q.object ≤ p.address) ⊎ (p.address + object_size p.object ≤ q.address)
    from (inl l) = inr l
    from (inr l) = inl l

joined : (p : Placed) (qs ps : List Placed) → Every (AreSpaced p) ps → Every (λ x. Every (AreSpaced x) qs) ps
    → Every (λ x. Every (AreSpaced x) (p ∷ qs)) ps
joined p qs [] h k = tt
joined p qs (x ∷ ps) h k = ((turned p x h.0, k.0), joined p qs ps h.1 k.1)

all_spaced : (ps : List Placed) → Spaced ps → Every (λ x. Every (AreSpaced x) ps) ps
all_spaced [] h = tt
all_spaced (p ∷ ps) h =
    ((record { bytes = λ differ. absurd (differ refl) }, h.0), joined p ps ps h.0 (all_spaced ps h.1))

-- the objects of one group
record Spread (lo hi : ℕ) (ps : List Placed) : Type 0 where
  lie : Every (Spans lo hi) ps
  spaced : Spaced ps

spread_wider : (lo hi low high : ℕ) (ps : List Placed) → low ≤ lo → hi ≤ high → Spread lo hi ps → Spread low high ps
spread_wider lo hi low high ps l k h = record {
  lie = each (Spans lo hi) (Spans low high) ps (λ p x. spans_wider lo hi low high p l k x) h.lie;
  spaced = h.spaced;
}

-- ---- objects of types, at rising addresses

module _ (structs : List Struct) (fit : (t : Ty) → SlotsFit structs t) (even : (t : Ty) → SizeIsEven structs t) where
  abbrev slots_by : Ty → List Slot
  slots_by t = (layout structs t).slots

  one_spans : (address : ℕ → ℕ) (i : ℕ) (t : Ty) (o : Object) → map slot_of o.cells ≡ slots_by t
      → address i + size_of structs t ≤ address (i + 1)
      → Spans (address i) (address (i + 1)) (record { object = o; address = address i })
  one_spans address i t o slots room =
      let size : ℕ = size_of structs t in
      let few : object_size o ≤ size = size_fits size o.cells
      (subst (λ (xs : List Slot). Every (λ s. end_of s ≤ size) xs) (sym slots) (fit t))
      (subst (λ (xs : List Slot). Every (λ s. width s.kind ≡ 2 → size % 2 ≡ 0) xs) (sym slots) (even t)) in
      record { from = omega arith; to = omega arith }

  spread : (address : ℕ → ℕ) (i j first : ℕ) (ts : List Ty) (os : List Object) → j ≡ i + length os
      → Ascends structs address i ts → AreMade first (map slots_by ts) os
      → Spread (address i) (address j) (placed_from address i os)
  spread address i j first [] [] e up made = record { lie = tt; spaced = tt }
  spread address i j first [] (o ∷ os) e up made = absurd made
  spread address i j first (t ∷ ts) [] e up made = absurd made
  spread address i j first (t ∷ ts) (o ∷ os) e up made =
      let p : Placed = record { object = o; address = address i } in
      let long : length (o ∷ os) ≡ suc (length os) = refl in
      let here = one_spans address i t o made.1 up.0 in
      let rest = spread address (i + 1) j (first + 1) ts os (omega arith) up.1 made.2 in
      let many = made_length (first + 1) (map slots_by ts) os made.2 in
      let last : address (i + 1) ≤ address j = climbs structs address (i + 1) j ts (rows many (omega arith)) up.1 in
      let room = up.0 in
      record {
        lie = (
          spans_wider (address i) (address (i + 1)) (address i) (address j) p (omega arith) last here,
          each (Spans (address (i + 1)) (address j)) (Spans (address i) (address j)) (placed_from address (i + 1) os)
              (λ q l. spans_wider (address (i + 1)) (address j) (address i) (address j) q (omega arith) (omega arith) l) rest.lie,
        );
        spaced = (
          spaced_from (address i) (address (i + 1)) (address (i + 1)) (address j) p (placed_from address (i + 1) os)
              (inl (omega arith)) here rest.lie,
          rest.spaced,
        );
      }
    where
      rows : length (map slots_by ts) ≡ length os → j ≡ i + 1 + length os → j ≡ i + 1 + length ts
      rows many e = let same : length (map slots_by ts) ≡ length ts = length-map ts slots_by in omega arith

-- ---- those of a state

module _ (core : Core) (fit : (t : Ty) → SlotsFit core.structs t) (even : (t : Ty) → SizeIsEven core.structs t) where
  in_frame : (c : Call) (f : Function) (first : ℕ) (found : Option Function) → found ≡ Some f
      → AreMade first (objects_of core.structs f) c.locals
      → Spread c.frame (c.frame + bytes_by core.structs found)
      (placed_from (λ n. c.frame + offset_in core.structs found n) 0 c.locals)
  in_frame c f first found e made =
      let structs = core.structs in
      let ts : List Ty = f.params ++ f.locals in
      let at : ℕ → ℕ = λ n. c.frame + local_offset structs f n in
      let os = c.locals in
      let rows = made_length first (objects_of structs f) os made in
      let same : length (objects_of structs f) ≡ length ts = length-map ts (λ (t : Ty). (layout structs t).slots) in
      let many : length os ≡ length ts = omega arith in
      let own = spread structs fit even at 0 (length os) first ts os (omega arith) (locals_ascend structs c.frame f) made in
      let end = frame_end structs f in
      let last : local_offset structs f (length os) ≤ frame_bytes structs f = subst
      (λ (n : ℕ). local_offset structs f n ≤ frame_bytes structs f) (sym many) end in
      subst (λ (x : Option Function). Spread c.frame (c.frame + bytes_by structs x)
      (placed_from (λ n. c.frame + offset_in structs x n) 0 os)) (sym e)
      (spread_wider (at 0) (at (length os)) c.frame (c.frame + frame_bytes structs f) (placed_from at 0 os) (omega arith)
      (omega arith) own)

  call_spread : (low : ℕ) (c : Call) → CallIsMade core low c
      → Spread c.frame (c.frame + bytes_of core c) (placed_from (local_address core c) 0 c.locals)
  call_spread low c h = in_frame c h.function h.first (slice_get core.functions c.function) h.is h.objects

  -- an object of a frame is apart from those of later calls
  cross : (lo bytes : ℕ) (p : Placed) (low next : ℕ) (more : List Call) → Spans lo (lo + bytes) p
      → CallsAreMade core low next more → AllZip (IsApart bytes lo) (map (bytes_of core) more) (map (λ (c : Call). c.frame) more)
      → Every (AreSpaced p) (placed_in_calls core more)
  cross lo bytes p low next [] l h z = tt
  cross lo bytes p low next (d ∷ more) l h z =
      each_append (AreSpaced p) (placed_from (local_address core d) 0 d.locals) (placed_in_calls core more)
      (spaced_from lo (lo + bytes) d.frame (d.frame + bytes_of core d) p (placed_from (local_address core d) 0 d.locals)
      (side z.0) l (call_spread low d h.0).lie)
      (cross lo bytes p (h.0.first + length d.locals) next more l h.1 z.1)
    where
      side : IsApart bytes lo (bytes_of core d) d.frame → (lo + bytes ≤ d.frame) ⊎ (d.frame + bytes_of core d ≤ lo)
      side (inl s) = inr s
      side (inr s) = inl s

  calls_spread : (low next : ℕ) (cs : List Call) → CallsAreMade core low next cs
      → LieApart (map (bytes_of core) cs) (map (λ (c : Call). c.frame) cs)
      → Spread stack_start stack_end (placed_in_calls core cs)
  calls_spread low next [] h z = record { lie = tt; spaced = tt }
  calls_spread low next (c ∷ cs) h z =
      let own = call_spread low c h.0 in
      let end = h.0.first + length c.locals in
      let rest = calls_spread end next cs h.1 z.2 in
      let ps = placed_from (local_address core c) 0 c.locals in
      let qs = placed_in_calls core cs in
      record {
        lie = each_append (Spans stack_start stack_end) ps qs
            (each (Spans c.frame (c.frame + bytes_of core c)) (Spans stack_start stack_end) ps
            (λ p l. spans_wider c.frame (c.frame + bytes_of core c) stack_start stack_end p z.0.above_start z.0.below_end l)
            own.lie)
            rest.lie;
        spaced = spaced_append ps qs own.spaced rest.spaced
            (each (Spans c.frame (c.frame + bytes_of core c)) (λ p. Every (AreSpaced p) qs) ps
            (λ p l. cross c.frame (bytes_of core c) p end next cs l h.1 z.1) own.lie);
      }

  globals_spread : (os : List Object) → AreMade 0 (map (slots_of core.structs) core.globals) os
      → Spread data_start (global_address core (length core.globals)) (placed_from (global_address core) 0 os)
  globals_spread os made =
      let structs = core.structs in
      let ts = types_of core.globals in
      let rows = made_length 0 (map (slots_of structs) core.globals) os made in
      let count = length-map core.globals (slots_of structs) in
      let many : length os ≡ length core.globals = omega arith in
      let own = spread structs fit even (global_address core) 0 (length core.globals) 0 ts os (omega arith)
      (globals_ascend core)
      (subst (λ (xs : List (List Slot)). AreMade 0 xs os) (slots_of_types structs core.globals) made) in
      spread_wider (global_address core 0) (global_address core (length core.globals)) data_start
      (global_address core (length core.globals)) (placed_from (global_address core) 0 os) (first_variable core)
      (omega arith) own

  pub lie_whole : (apart : (frames addresses : List ℕ) → PlacedFramesLieApart frames addresses) → StampsLie core → (next : ℕ)
      (s : Saved) → ObjectsLieWhole core next s
  lie_whole apart stamps next s room h =
      let variables = globals_spread s.globals h.globals in
      let locals = calls_spread (length core.globals) next s.calls h.calls
      (apart (map (bytes_of core) s.calls) (map (λ (c : Call). c.frame) s.calls) h.frames) in
      let ps = placed_from (global_address core) 0 s.globals in
      let qs = placed_in_calls core s.calls in
      let end = global_address core (length core.globals) in
      let behind = stamps.behind in (
        each_append LiesWhole ps qs
            (each (Spans data_start end) LiesWhole ps
            (λ p l. record { from = let x = l.from in omega arith; to = let x = l.to in omega arith }) variables.lie)
            (each (Spans stack_start stack_end) LiesWhole qs
            (λ p l. record { from = l.from; to = let x = l.to in omega arith }) locals.lie),
        all_spaced (ps ++ qs) (spaced_append ps qs variables.spaced locals.spaced
            (each (Spans data_start end) (λ p. Every (AreSpaced p) qs) ps
            (λ p l. spaced_from data_start end stack_start stack_end p qs (inr (omega arith)) l locals.lie) variables.lie)),
      )
