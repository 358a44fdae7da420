-- Objects that a run makes share no byte.
use Rattle.std.proofs.Common.{◌≡◌, ℕ, suc, ◌+◌, ◌<◌, ◌≤◌, ◌⊎◌, inl, inr, Bool, true, false, List, [], ◌∷◌, ◌++◌, map, length, get_or, take, Option, Some, refl, sym, ap, ◌∙◌, subst, arith, append_assoc}
use Rattle.std.specs.List.{AllZip}
use Rattle.std.specs.Prelude.{slice_get}
use Rattle.std.proofs.lemmas.List.{take_more, take_all, get_or_past, length-map, length-append}
use Rattle.base16.specs.Board.{data_start, stack_end}
use Rattle.c_meaning.specs.After.{objects_of}
use Rattle.c_meaning.specs.Stamps.{slots_of}
use Rattle.c_values.specs.declared.state.Call.{Call}
use Rattle.c_values.specs.declared.state.Object.{Object}
use Rattle.c_values.specs.declared.state.Saved.{Saved}
use Rattle.core_layout.specs.Frames.{IsApart, LieApart, PlacedFramesLieApart}
use Rattle.core_layout.specs.Laws.{end_of, Rise, SlotsFit, SlotsRise}
use Rattle.core_tree.specs.Data.{global_address, global_layout, global_layouts, stamps_start}
use Rattle.core_layout.specs.Variables.{StampsLie}
use Rattle.core_tree.specs.Heights.{frame_bytes, local_offset, object_layouts}
use Rattle.core_tree.specs.Layout.{Layout, layout, layouts, layout_in, size_of, aligned, nothing, with_member, with_members, start_of}
use Rattle.core_tree.specs.LawfulCore.{Every}
use Rattle.core_tree.specs.declared.program.Core.{Core}
use Rattle.core_tree.specs.declared.program.Function.{Function}
use Rattle.core_tree.specs.declared.program.Global.{Global}
use Rattle.core_tree.specs.declared.types.Slot.{Slot}
use Rattle.core_tree.specs.declared.types.Struct.{Struct}
use Rattle.core_tree.specs.declared.types.Ty.{Ty}
use Rattle.matching.specs.Laid.{slot_of, slots_in, EndsBefore, AreApart, AreLaid, AreMade, CallIsMade, CallsAreMade, bytes_by, bytes_of, IsMade, LiesIn}
use Rattle.matching.specs.Matches.{Placed, placed_from, offset_in, local_address, placed_in_calls, placed}

-- ---- each of a list

pub each : {A : Type 0} (P Q : A → Type 0) (xs : List A) → ((x : A) → P x → Q x) → Every P xs → Every Q xs
each P Q [] f h = tt
each P Q (x ∷ xs) f h = (f x h.0, each P Q xs f h.1)

pub each_append : {A : Type 0} (P : A → Type 0) (xs ys : List A) → Every P xs → Every P ys → Every P (xs ++ ys)
each_append P [] ys h k = k
each_append P (x ∷ xs) ys h k = (h.0, each_append P xs ys h.1 k)

-- ---- regions

-- an object with a number from a to below b, whose scalars lie from lo to below hi
record Lies (a b lo hi : ℕ) (p : Placed) : Type 0 where
  from_number : a ≤ p.object.number
  to_number : p.object.number < b
  from_address : lo ≤ p.address
  to_address : EndsBefore hi p

wider : (a b lo hi c d low high : ℕ) (p : Placed) → c ≤ a → b ≤ d → low ≤ lo → hi ≤ high → Lies a b lo hi p → Lies c d low high p
wider a b lo hi c d low high p x y z w h = record {
  from_number = let k = h.from_number in omega arith;
  to_number = let k = h.to_number in omega arith;
  from_address = let k = h.from_address in omega arith;
  to_address = each (λ (s : Slot). p.address + end_of s ≤ hi) (λ (s : Slot). p.address + end_of s ≤ high) (slots_in p)
      (λ s k. omega arith) h.to_address;
}

ends_before : (hi address : ℕ) (p : Placed) → hi ≤ address → EndsBefore hi p → EndsBefore address p
ends_before hi address p l h =
    each (λ (s : Slot). p.address + end_of s ≤ hi) (λ (s : Slot). p.address + end_of s ≤ address) (slots_in p)
    (λ s k. omega arith) h

apart_by : (a b lo hi c d low high : ℕ) (p q : Placed) → b ≤ c → (hi ≤ low) ⊎ (high ≤ lo) → Lies a b lo hi p → Lies c d low high q
    → AreApart p q
apart_by a b lo hi c d low high p q x side h k = record {
  numbers = λ e. let l = h.to_number in let m = k.from_number in omega arith;
  bytes = bytes side;
}
  where
    bytes : (hi ≤ low) ⊎ (high ≤ lo) → EndsBefore q.address p ⊎ EndsBefore p.address q
    bytes (inl l) = inl (ends_before hi q.address p (let m = k.from_address in omega arith) h.to_address)
    bytes (inr l) = inr (ends_before high p.address q (let m = h.from_address in omega arith) k.to_address)

apart_from : (a b lo hi c d low high : ℕ) (p : Placed) (qs : List Placed) → b ≤ c → (hi ≤ low) ⊎ (high ≤ lo) → Lies a b lo hi p
    → Every (Lies c d low high) qs → Every (AreApart p) qs
apart_from a b lo hi c d low high p qs x side h k =
    each (Lies c d low high) (AreApart p) qs (λ q l. apart_by a b lo hi c d low high p q x side h l) k

laid_append : (ps qs : List Placed) → AreLaid ps → AreLaid qs → Every (λ p. Every (AreApart p) qs) ps → AreLaid (ps ++ qs)
laid_append [] qs h k x = k
laid_append (p ∷ ps) qs h k x = (h.0, each_append (AreApart p) ps qs h.1 x.0, laid_append ps qs h.2 k x.1)

-- ---- objects of types, at rising addresses

-- each of these types has room from its address to the next one
abbrev pub Ascends : List Struct → (address : ℕ → ℕ) → ℕ → List Ty → Type 0
Ascends structs address i [] = Unit {0}
Ascends structs address i (t ∷ ts) = (address i + size_of structs t ≤ address (i + 1)) × Ascends structs address (i + 1) ts

scalars_of : List Struct → Ty → List Slot
scalars_of structs t = (layout structs t).slots

pub climbs : (structs : List Struct) (address : ℕ → ℕ) (i j : ℕ) (ts : List Ty) → j ≡ i + length ts → Ascends structs address i ts
    → address i ≤ address j
climbs structs address i j [] e h = let same : address i ≡ address j = ap address (omega arith) in omega arith
climbs structs address i j (t ∷ ts) e h =
    let long : length (t ∷ ts) ≡ suc (length ts) = refl in
    let rest = climbs structs address (i + 1) j ts (omega arith) h.1 in
    let here = h.0 in
    omega arith

-- the objects of one group
record Group (a b lo hi : ℕ) (ps : List Placed) : Type 0 where
  lie : Every (Lies a b lo hi) ps
  laid : AreLaid ps

module _ (structs : List Struct) (fit : (t : Ty) → SlotsFit structs t) (rise : (t : Ty) → SlotsRise structs t) where
  abbrev slots_by : Ty → List Slot
  slots_by t = (layout structs t).slots

  one_lies : (address : ℕ → ℕ) (i first : ℕ) (t : Ty) (o : Object) → o.number ≡ first → map slot_of o.cells ≡ slots_by t
      → address i + size_of structs t ≤ address (i + 1)
      → Lies first (first + 1) (address i) (address (i + 1)) (record { object = o; address = address i })
  one_lies address i first t o number slots room = record {
    from_number = omega arith;
    to_number = omega arith;
    from_address = omega arith;
    to_address = subst (λ (xs : List Slot). Every (λ s. address i + end_of s ≤ address (i + 1)) xs) (sym slots)
        (each (λ (s : Slot). end_of s ≤ size_of structs t) (λ (s : Slot). address i + end_of s ≤ address (i + 1)) (slots_by t)
        (λ s k. omega arith) (fit t));
  }

  group : (address : ℕ → ℕ) (i j first end : ℕ) (ts : List Ty) (os : List Object) → j ≡ i + length os → end ≡ first + length os
      → Ascends structs address i ts → AreMade first (map slots_by ts) os
      → Group first end (address i) (address j) (placed_from address i os)
  group address i j first end [] [] e f up made = record { lie = tt; laid = tt }
  group address i j first end [] (o ∷ os) e f up made = absurd made
  group address i j first end (t ∷ ts) [] e f up made = absurd made
  group address i j first end (t ∷ ts) (o ∷ os) e f up made =
      let p : Placed = record { object = o; address = address i } in
      let long : length (o ∷ os) ≡ suc (length os) = refl in
      let here = one_lies address i first t o made.0 made.1 up.0 in
      let rest = group address (i + 1) j (first + 1) end ts os (omega arith) (omega arith) up.1 made.2 in
      let many = made_length (first + 1) (map slots_by ts) os made.2 in
      let last : address (i + 1) ≤ address j = climbs structs address (i + 1) j ts (rows many (omega arith)) up.1 in
      let room = up.0 in
      record {
        lie = (
          wider first (first + 1) (address i) (address (i + 1)) first end (address i) (address j) p (omega arith)
              (omega arith) (omega arith) last here,
          each (Lies (first + 1) end (address (i + 1)) (address j)) (Lies first end (address i) (address j))
              (placed_from address (i + 1) os)
              (λ q l. wider (first + 1) end (address (i + 1)) (address j) first end (address i) (address j) q (omega arith)
              (omega arith) (omega arith) (omega arith) l) rest.lie,
        );
        laid = (
          subst (λ (xs : List Slot). Rise xs) (sym made.1) (rise t),
          apart_from first (first + 1) (address i) (address (i + 1)) (first + 1) end (address (i + 1)) (address j) p
              (placed_from address (i + 1) os) (omega arith) (inl (omega arith)) here rest.lie,
          rest.laid,
        );
      }
    where
      made_length : (first : ℕ) (xs : List (List Slot)) (os : List Object) → AreMade first xs os → length xs ≡ length os
      made_length first [] [] h = refl
      made_length first [] (o ∷ os) h = absurd h
      made_length first (x ∷ xs) [] h = absurd h
      made_length first (x ∷ xs) (o ∷ os) h = ap suc (made_length (first + 1) xs os h.2)

      rows : length (map slots_by ts) ≡ length os → j ≡ i + 1 + length os → j ≡ i + 1 + length ts
      rows many e = let same : length (map slots_by ts) ≡ length ts = length-map ts slots_by in omega arith

-- ---- rows of layouts

with_last : (before : Layout) (ls : List Layout) (l : Layout) → with_members before (ls ++ l ∷ []) ≡ with_member
    (with_members before ls) l
with_last before [] l = refl
with_last before (k ∷ ls) l = with_last (with_member before k) ls l

past_aligned : (even : Bool) (n : ℕ) → n ≤ aligned even n
past_aligned true n = omega arith
past_aligned false n = omega arith

next_start : (ls : List Layout) (n : ℕ) (l : Layout) → n < length ls → get_or ls n nothing ≡ l
    → start_of ls n + l.size ≤ start_of ls (n + 1)
next_start ls n l h is =
    let before : ℕ = (with_members nothing (take n ls)).size in
    let cut : take (n + 1) ls ≡ take n ls ++ l ∷ [] =
    take_more ls n nothing h ∙ ap (λ (k : Layout). take n ls ++ k ∷ []) is in
    let whole : (with_members nothing (take (n + 1) ls)).size ≡ aligned l.even before + l.size =
    ap (λ (ks : List Layout). (with_members nothing ks).size) cut
    ∙ ap (λ (k : Layout). k.size) (with_last nothing (take n ls) l) in
    let here : start_of ls n ≡ aligned l.even before = ap (λ (k : Layout). aligned k.even before) is in
    let up : (with_members nothing (take (n + 1) ls)).size ≤ start_of ls (n + 1) =
    past_aligned (get_or ls (n + 1) nothing).even (with_members nothing (take (n + 1) ls)).size in
    omega (arith, whole, here, up)

row_end : (ls : List Layout) → start_of ls (length ls) ≡ (with_members nothing ls).size
row_end ls =
    let n : ℕ = length ls in
    let none : get_or ls n nothing ≡ nothing = get_or_past ls n nothing (omega arith) in
    let all : take n ls ≡ ls = take_all n ls (omega arith) in
    ap (λ (k : Layout). aligned k.even (with_members nothing (take n ls)).size) none
    ∙ ap (λ (ks : List Layout). (with_members nothing ks).size) all

pub at_split : (f : Ty → Layout) (before ts : List Ty) (t : Ty) → get_or (map f (before ++ t ∷ ts)) (length before) nothing ≡ f t
at_split f [] ts t = refl
at_split f (b ∷ before) ts t = at_split f before ts t

pub inside : (f : Ty → Layout) (before ts : List Ty) (t : Ty) → length before < length (map f (before ++ t ∷ ts))
inside f [] ts t = let long : length (map f (t ∷ ts)) ≡ suc (length (map f ts)) = refl in omega arith
inside f (b ∷ before) ts t =
    let long : length (map f (b ∷ (before ++ t ∷ ts))) ≡ suc (length (map f (before ++ t ∷ ts))) = refl in
    let more : length (b ∷ before) ≡ suc (length before) = refl in
    let rest = inside f before ts t in
    omega arith

-- things in a row ascend
ascends : (structs : List Struct) (base : ℕ) (all before ts : List Ty) (i : ℕ) → all ≡ before ++ ts → i ≡ length before
    → Ascends structs (λ n. base + start_of (map (layout_in (layouts structs)) all) n) i ts
ascends structs base all before [] i e n = tt
ascends structs base all before (t ∷ ts) i e n =
    let f : Ty → Layout = layout_in (layouts structs) in
    let row : List Layout = map f all in
    let within : i < length row = subst (λ (xs : List Ty). i < length (map f xs)) (sym e)
    (subst (λ (k : ℕ). k < length (map f (before ++ t ∷ ts))) (sym n) (inside f before ts t)) in
    let here : get_or row i nothing ≡ f t = subst (λ (xs : List Ty). get_or (map f xs) i nothing ≡ f t) (sym e)
    (subst (λ (k : ℕ). get_or (map f (before ++ t ∷ ts)) k nothing ≡ f t) (sym n) (at_split f before ts t)) in
    let next = next_start row i (f t) within here in
    let long = length-append before (t ∷ []) in
    let one : length (t ∷ []) ≡ 1 = refl in (
      omega arith,
      ascends structs base all (before ++ t ∷ []) ts (i + 1) (e ∙ sym (append_assoc before (t ∷ []) ts))
          (omega arith),
    )

-- ---- variables

abbrev pub types_of : List Global → List Ty
types_of gs = map (λ (g : Global). g.ty) gs

pub row_of_types : (core : Core) (gs : List Global) → map (layout_in (layouts core.structs)) (types_of gs) ≡ global_layouts
    core gs
row_of_types core [] = refl
row_of_types core (g ∷ gs) = ap (λ (ls : List Layout). global_layout core g ∷ ls) (row_of_types core gs)

pub globals_ascend : (core : Core) → Ascends core.structs (global_address core) 0 (types_of core.globals)
unfolding global_address
globals_ascend core =
    subst (λ (row : List Layout). Ascends core.structs (λ n. data_start + start_of row n) 0 (types_of core.globals))
    (row_of_types core core.globals) (ascends core.structs data_start (types_of core.globals) [] (types_of core.globals) 0
    refl refl)

pub first_variable : (core : Core) → data_start ≤ global_address core 0
unfolding global_address
first_variable core = omega arith

pub slots_of_types : (structs : List Struct) (gs : List Global) → map (slots_of structs) gs ≡ map
    (λ (t : Ty). (layout structs t).slots) (types_of gs)
slots_of_types structs [] = refl
slots_of_types structs (g ∷ gs) = ap (λ (xs : List (List Slot)). slots_of structs g ∷ xs) (slots_of_types structs gs)

-- ---- locals

pub locals_ascend : (structs : List Struct) (frame : ℕ) (f : Function) → Ascends structs (λ n. frame + local_offset structs f n) 0
    (f.params ++ f.locals)
locals_ascend structs frame f = ascends structs frame (f.params ++ f.locals) [] (f.params ++ f.locals) 0 refl refl

pub frame_end : (structs : List Struct) (f : Function) → local_offset structs f (length (f.params ++ f.locals)) ≤ frame_bytes
    structs f
frame_end structs f =
    let row : List Layout = object_layouts structs f in
    let long : length row ≡ length (f.params ++ f.locals) = length-map (f.params ++ f.locals) (layout_in (layouts structs)) in
    let end : local_offset structs f (length row) ≡ (with_members nothing row).size = row_end row in
    let same : local_offset structs f (length (f.params ++ f.locals)) ≡ local_offset structs f (length row) = ap
    (local_offset structs f) (sym long) in
    omega arith

-- ---- the objects of a call

pub made_length : (first : ℕ) (xs : List (List Slot)) (os : List Object) → AreMade first xs os → length xs ≡ length os
made_length first [] [] h = refl
made_length first [] (o ∷ os) h = absurd h
made_length first (x ∷ xs) [] h = absurd h
made_length first (x ∷ xs) (o ∷ os) h = ap suc (made_length (first + 1) xs os h.2)

group_wider : (a b lo hi low high : ℕ) (ps : List Placed) → low ≤ lo → hi ≤ high → Group a b lo hi ps → Group a b low high ps
group_wider a b lo hi low high ps l k h = record {
  lie = each (Lies a b lo hi) (Lies a b low high) ps (λ p x. wider a b lo hi a b low high p (omega arith) (omega arith) l k x)
      h.lie;
  laid = h.laid;
}

module _ (core : Core) (fit : (t : Ty) → SlotsFit core.structs t) (rise : (t : Ty) → SlotsRise core.structs t) where
  in_frame : (c : Call) (f : Function) (first : ℕ) (found : Option Function) → found ≡ Some f
      → AreMade first (objects_of core.structs f) c.locals
      → Group first (first + length c.locals) c.frame (c.frame + bytes_by core.structs found)
      (placed_from (λ n. c.frame + offset_in core.structs found n) 0 c.locals)
  in_frame c f first found e made =
      let structs = core.structs in
      let ts : List Ty = f.params ++ f.locals in
      let at : ℕ → ℕ = λ n. c.frame + local_offset structs f n in
      let os = c.locals in
      let rows = made_length first (objects_of structs f) os made in
      let same : length (objects_of structs f) ≡ length ts = length-map ts (λ (t : Ty). (layout structs t).slots) in
      let many : length os ≡ length ts = omega arith in
      let own = group structs fit rise at 0 (length os) first (first + length os) ts os (omega arith) (omega arith)
      (locals_ascend structs c.frame f) made in
      let end = frame_end structs f in
      let last : local_offset structs f (length os) ≤ frame_bytes structs f = subst
      (λ (n : ℕ). local_offset structs f n ≤ frame_bytes structs f) (sym many) end in
      subst (λ (x : Option Function). Group first (first + length os) c.frame (c.frame + bytes_by structs x)
      (placed_from (λ n. c.frame + offset_in structs x n) 0 os)) (sym e)
      (group_wider first (first + length os) (at 0) (at (length os)) c.frame (c.frame + frame_bytes structs f)
      (placed_from at 0 os) (omega arith) (omega arith) own)

  call_group : (low : ℕ) (c : Call) (h : CallIsMade core low c)
      → Group h.first (h.first + length c.locals) c.frame (c.frame + bytes_of core c)
      (placed_from (local_address core c) 0 c.locals)
  call_group low c h = in_frame c h.function h.first (slice_get core.functions c.function) h.is h.objects

  -- an object of a frame is apart from those of later calls
  cross : (a b lo bytes : ℕ) (p : Placed) (low next : ℕ) (more : List Call) → Lies a b lo (lo + bytes) p → b ≤ low
      → CallsAreMade core low next more → AllZip (IsApart bytes lo) (map (bytes_of core) more) (map (λ (c : Call). c.frame) more)
      → Every (AreApart p) (placed_in_calls core more)
  cross a b lo bytes p low next [] l x h z = tt
  cross a b lo bytes p low next (d ∷ more) l x h z =
      let own = call_group low d h.0 in
      let above = h.0.above in
      each_append (AreApart p) (placed_from (local_address core d) 0 d.locals) (placed_in_calls core more)
      (apart_from a b lo (lo + bytes) h.0.first (h.0.first + length d.locals) d.frame (d.frame + bytes_of core d) p
      (placed_from (local_address core d) 0 d.locals) (omega arith) (side z.0) l own.lie)
      (cross a b lo bytes p (h.0.first + length d.locals) next more l (omega arith) h.1 z.1)
    where
      side : IsApart bytes lo (bytes_of core d) d.frame → (lo + bytes ≤ d.frame) ⊎ (d.frame + bytes_of core d ≤ lo)
      side (inl s) = inr s
      side (inr s) = inl s

  calls_rise : (low next : ℕ) (cs : List Call) → CallsAreMade core low next cs → low ≤ next
  calls_rise low next [] h = h
  calls_rise low next (c ∷ cs) h = let up = calls_rise (h.0.first + length c.locals) next cs h.1 in let above = h.0.above in
      omega arith

  calls_group : (low next : ℕ) (cs : List Call) → CallsAreMade core low next cs
      → LieApart (map (bytes_of core) cs) (map (λ (c : Call). c.frame) cs) → Group low next 0 stack_end (placed_in_calls core cs)
  calls_group low next [] h z = record { lie = tt; laid = tt }
  calls_group low next (c ∷ cs) h z =
      let own = call_group low c h.0 in
      let end = h.0.first + length c.locals in
      let rest = calls_group end next cs h.1 z.2 in
      let above = h.0.above in
      let up = calls_rise end next cs h.1 in
      let below = z.0.below_end in
      let ps = placed_from (local_address core c) 0 c.locals in
      let qs = placed_in_calls core cs in
      record {
        lie = each_append (Lies low next 0 stack_end) ps qs
            (each (Lies h.0.first end c.frame (c.frame + bytes_of core c)) (Lies low next 0 stack_end) ps
            (λ p l. wider h.0.first end c.frame (c.frame + bytes_of core c) low next 0 stack_end p (omega arith) (omega arith)
            (omega arith) (omega arith) l) own.lie)
            (each (Lies end next 0 stack_end) (Lies low next 0 stack_end) qs
            (λ p l. wider end next 0 stack_end low next 0 stack_end p (omega arith) (omega arith) (omega arith) (omega arith)
            l) rest.lie);
        laid = laid_append ps qs own.laid rest.laid
            (each (Lies h.0.first end c.frame (c.frame + bytes_of core c)) (λ p. Every (AreApart p) qs) ps
            (λ p l. cross h.0.first end c.frame (bytes_of core c) p end next cs l (omega arith) h.1 z.1) own.lie);
      }

  -- the program's variables
  globals_group : (os : List Object) → AreMade 0 (map (slots_of core.structs) core.globals) os
      → Group 0 (length core.globals) data_start (global_address core (length core.globals))
      (placed_from (global_address core) 0 os)
  globals_group os made =
      let structs = core.structs in
      let ts = types_of core.globals in
      let rows = made_length 0 (map (slots_of structs) core.globals) os made in
      let count = length-map core.globals (slots_of structs) in
      let many : length os ≡ length core.globals = omega arith in
      let own = group structs fit rise (global_address core) 0 (length core.globals) 0 (length core.globals) ts os
      (omega arith) (omega arith) (globals_ascend core)
      (subst (λ (xs : List (List Slot)). AreMade 0 xs os) (slots_of_types structs core.globals) made) in
      group_wider 0 (length core.globals) (global_address core 0) (global_address core (length core.globals)) data_start
      (global_address core (length core.globals)) (placed_from (global_address core) 0 os) (first_variable core)
      (omega arith) own

  -- no two objects of a state share a byte
  pub laid_made : (apart : (frames addresses : List ℕ) → PlacedFramesLieApart frames addresses) (next : ℕ) (s : Saved)
      → IsMade core next s → AreLaid (placed core s)
  laid_made apart next s h =
      let variables = globals_group s.globals h.globals in
      let locals = calls_group (length core.globals) next s.calls h.calls
      (apart (map (bytes_of core) s.calls) (map (λ (c : Call). c.frame) s.calls) h.frames) in
      let ps = placed_from (global_address core) 0 s.globals in
      let qs = placed_in_calls core s.calls in
      let end = global_address core (length core.globals) in
      laid_append ps qs variables.laid locals.laid
      (each (Lies 0 (length core.globals) data_start end) (λ p. Every (AreApart p) qs) ps
      (λ p l. apart_from 0 (length core.globals) data_start end (length core.globals) next 0 stack_end p qs (omega arith)
      (inr (omega arith)) l locals.lie) variables.lie)

  -- ---- where they lie

  pub variables_lie : StampsLie core → (next : ℕ) (s : Saved) → IsMade core next s
      → Every (LiesIn data_start (stamps_start core)) (placed_from (global_address core) 0 s.globals)
  variables_lie stamps next s h =
      let end = global_address core (length core.globals) in
      let behind = stamps.behind in
      each (Lies 0 (length core.globals) data_start end) (LiesIn data_start (stamps_start core))
      (placed_from (global_address core) 0 s.globals)
      (λ p l. record { from = l.from_address; to = ends_before end (stamps_start core) p behind l.to_address })
      (globals_group s.globals h.globals).lie

  call_lies : (low : ℕ) (c : Call) → CallIsMade core low c
      → Every (LiesIn c.frame (c.frame + bytes_of core c)) (placed_from (local_address core c) 0 c.locals)
  call_lies low c h =
      each (Lies h.first (h.first + length c.locals) c.frame (c.frame + bytes_of core c))
      (LiesIn c.frame (c.frame + bytes_of core c)) (placed_from (local_address core c) 0 c.locals)
      (λ p l. record { from = l.from_address; to = l.to_address }) (call_group low c h).lie

  pub locals_lie : (low next : ℕ) (cs : List Call) → CallsAreMade core low next cs
      → Every (λ c. Every (LiesIn c.frame (c.frame + bytes_of core c)) (placed_from (local_address core c) 0 c.locals)) cs
  locals_lie low next [] h = tt
  locals_lie low next (c ∷ cs) h = (call_lies low c h.0, locals_lie (h.0.first + length c.locals) next cs h.1)
