-- Layouts keep their scalars in order and at their alignment, step by step.
use Rattle.std.proofs.Common.{◌≡◌, ℕ, zero, suc, ◌+◌, ◌*◌, ◌%◌, ◌≤◌, Bool, true, false, ◌||◌, List, [], ◌∷◌, ◌++◌, map, get_or, refl, sym, subst, arith, rules}
use Rattle.base16.specs.declared.integer.IntType.{IntType}
use Rattle.base16.specs.declared.integer.IntType.TheVariants as int
use Rattle.base16.specs.declared.image.Kind.{Kind}
use Rattle.base16.specs.declared.image.Kind.TheVariants as kind
use Rattle.core_tree.specs.declared.types.Slot.{Slot}
use Rattle.core_tree.specs.declared.types.Struct.{Struct}
use Rattle.core_tree.specs.declared.types.Member.{Member}
use Rattle.core_tree.specs.declared.types.Ty.{Ty, the_lemmas, roll-Ty, map-Ty, ind-Ty}
use Rattle.core_tree.specs.declared.types.Ty.TheOpen.{Ty-F}
use Rattle.core_tree.specs.LawfulCore.{Every}
use Rattle.core_tree.specs.Layout.{Layout, copies, moved_by, aligned, nothing, scalar, integer, layout_in, closed, with_member, with_members, member_layouts, layouts_from, layouts, struct_layout, layout, size_of}
use Rattle.core_layout.specs.Laid.{array}
use Rattle.core_layout.specs.Laws.{width, end_of, Rise, SlotsFit, SlotsRise, SlotsAligned, SizeIsEven}

-- ---- words on lists

every_append : {A : Type 0} (P : A → Type 0) (xs ys : List A) → Every P xs → Every P ys → Every P (xs ++ ys)
every_append P [] ys hs is = is
every_append P (x ∷ xs) ys hs is = (hs.0, every_append P xs ys hs.1 is)

every_weaker : {A : Type 0} (P Q : A → Type 0) → ((x : A) → P x → Q x) → (xs : List A) → Every P xs → Every Q xs
every_weaker P Q f [] hs = tt
every_weaker P Q f (x ∷ xs) hs = (f x hs.0, every_weaker P Q f xs hs.1)

every_map : {A B : Type 0} (P : B → Type 0) (f : A → B) (xs : List A) → Every (λ x. P (f x)) xs → Every P (map f xs)
every_map P f [] hs = tt
every_map P f (x ∷ xs) hs = (hs.0, every_map P f xs hs.1)

every_at : {A : Type 0} (P : A → Type 0) (xs : List A) (i : ℕ) (d : A) → Every P xs → P d → P (get_or xs i d)
every_at P [] i d hs h = h
every_at P (x ∷ xs) zero d hs h = hs.0
every_at P (x ∷ xs) (suc i) d hs h = every_at P xs i d hs.1 h

-- ---- scalars in order between two offsets

abbrev Lie : ℕ → ℕ → List Slot → Type 0
Lie at end [] = at ≤ end
Lie at end (s ∷ ss) = (at ≤ s.offset) × Lie (end_of s) end ss

lie_lower : (at low end : ℕ) (xs : List Slot) → at ≤ low → Lie low end xs → Lie at end xs
lie_lower at low end [] h l = omega (arith, l)
lie_lower at low end (x ∷ xs) h l = (omega (arith, l.0), l.1)

lie_append : (at mid low end : ℕ) (xs ys : List Slot) → Lie at mid xs → mid ≤ low → Lie low end ys → Lie at end (xs ++ ys)
lie_append at mid low end [] ys l h k = lie_lower at low end ys (omega (arith, l)) k
lie_append at mid low end (x ∷ xs) ys l h k = (l.0, lie_append (end_of x) mid low end xs ys l.1 h k)

lie_moved : (by at end : ℕ) (xs : List Slot) → Lie at end xs → Lie (at + by) (end + by) (map (moved_by by) xs)
lie_moved by at end [] l = omega (arith, l)
lie_moved by at end (x ∷ xs) l =
    let start : at + by ≤ x.offset + by = omega (arith, l.0) in
    let back : end_of x + by ≡ end_of (moved_by by x) = omega arith in
    let rest : Lie (end_of x + by) (end + by) (map (moved_by by) xs) = lie_moved by (end_of x) end xs l.1 in
    let P : ℕ → Type 0 = λ n. Lie n (end + by) (map (moved_by by) xs) in
    (start, subst P back rest)

lie_copies : (n at : ℕ) (of : Layout) → Lie 0 of.size of.slots → Lie at (at + n * of.size) (copies n at of)
lie_copies zero at of l = omega arith
lie_copies (suc n) at of l =
    let first : Lie (0 + at) (of.size + at) (map (moved_by at) of.slots) = lie_moved at 0 of.size of.slots l in
    let start : 0 + at ≡ at = omega arith in
    let end : at + of.size + n * of.size ≡ at + suc n * of.size = omega arith in
    let rest : Lie (at + of.size) (at + of.size + n * of.size) (copies n (at + of.size) of) =
    lie_copies n (at + of.size) of l in
    let P : ℕ → Type 0 = λ m. Lie m (of.size + at) (map (moved_by at) of.slots) in
    let Q : ℕ → Type 0 = λ m. Lie (at + of.size) m (copies n (at + of.size) of) in
    lie_append at (of.size + at) (at + of.size) (at + suc n * of.size) (map (moved_by at) of.slots) (copies n (at + of.size) of)
    (subst P start first) (omega arith) (subst Q end rest)

pub past_aligned : (even : Bool) (n : ℕ) → n ≤ aligned even n
past_aligned true n = omega arith
past_aligned false n = omega arith

lie_with : (before m : Layout) → Lie 0 before.size before.slots → Lie 0 m.size m.slots
    → Lie 0 (with_member before m).size (with_member before m).slots
lie_with before m b l =
    let at : ℕ = aligned m.even before.size in
    let start : 0 + at ≡ at = omega arith in
    let end : m.size + at ≡ at + m.size = omega arith in
    let moved : Lie (0 + at) (m.size + at) (map (moved_by at) m.slots) = lie_moved at 0 m.size m.slots l in
    let P : ℕ → Type 0 = λ n. Lie n (m.size + at) (map (moved_by at) m.slots) in
    let Q : ℕ → Type 0 = λ n. Lie at n (map (moved_by at) m.slots) in
    lie_append 0 before.size at (at + m.size) before.slots (map (moved_by at) m.slots) b (past_aligned m.even before.size)
    (subst Q end (subst P start moved))

lie_longer : (at end more : ℕ) (xs : List Slot) → end ≤ more → Lie at end xs → Lie at more xs
lie_longer at end more [] h l = omega (arith, l)
lie_longer at end more (x ∷ xs) h l = (l.0, lie_longer (end_of x) end more xs h l.1)

-- what lies in order between two offsets ends before the second, and begins behind the first
lie_ends : (at end : ℕ) (xs : List Slot) → Lie at end xs → at ≤ end
lie_ends at end [] l = l
lie_ends at end (x ∷ xs) l = let rest : end_of x ≤ end = lie_ends (end_of x) end xs l.1 in omega (arith, l.0, rest)

lie_fit : (at end : ℕ) (xs : List Slot) → Lie at end xs → Every (λ s. end_of s ≤ end) xs
lie_fit at end [] l = tt
lie_fit at end (x ∷ xs) l = (lie_ends (end_of x) end xs l.1, lie_fit (end_of x) end xs l.1)

lie_behind : (at low end : ℕ) (xs : List Slot) → at ≤ low → Lie low end xs → Every (λ s. at ≤ s.offset) xs
lie_behind at low end [] h l = tt
lie_behind at low end (x ∷ xs) h l = (omega (arith, l.0), lie_behind at (end_of x) end xs (omega (arith, l.0)) l.1)

lie_rise : (at end : ℕ) (xs : List Slot) → Lie at end xs → Rise xs
lie_rise at end [] l = tt
lie_rise at end (x ∷ xs) l = (lie_behind (end_of x) (end_of x) end xs (omega arith) l.1, lie_rise (end_of x) end xs l.1)

-- ---- alignment

abbrev Aligned : Slot → Type 0
Aligned s = s.offset % width s.kind ≡ 0

abbrev Plain : Slot → Type 0
Plain s = width s.kind ≡ 1

by_one : (n w : ℕ) → w ≡ 1 → n % w ≡ 0
by_one n w e = let P : ℕ → Type 0 = λ k. n % k ≡ 0 in subst P (sym e) (omega arith)

plain_aligned : (s : Slot) → Plain s → Aligned s
plain_aligned s p = by_one s.offset (width s.kind) p

moved_width : (k : Kind) (n by : ℕ) → n % width k ≡ 0 → by % 2 ≡ 0 → (n + by) % width k ≡ 0
moved_width kind.Char n by h e = omega arith
moved_width kind.Int n by h e = omega arith
moved_width kind.UInt n by h e = omega arith
moved_width kind.Pointer n by h e = omega arith

-- a type with a scalar of two bytes is even; one without has no scalar of two bytes
abbrev Stand : Bool → List Slot → Type 0
Stand true xs = Every Aligned xs
Stand false xs = Every Plain xs

-- and where it is even, so is its size
abbrev Closed : Bool → ℕ → Type 0
Closed true size = size % 2 ≡ 0
Closed false size = Unit {0}

stand_moved : (even : Bool) (by : ℕ) (xs : List Slot) → Closed even by → Stand even xs → Stand even (map (moved_by by) xs)
stand_moved true by xs c h =
    every_map Aligned (moved_by by) xs
    (every_weaker Aligned (λ s. Aligned (moved_by by s)) (λ s a. moved_width s.kind s.offset by a c) xs h)
stand_moved false by xs c h = every_map Plain (moved_by by) xs h

stand_append : (even : Bool) (xs ys : List Slot) → Stand even xs → Stand even ys → Stand even (xs ++ ys)
stand_append true xs ys h k = every_append Aligned xs ys h k
stand_append false xs ys h k = every_append Plain xs ys h k

stand_none : (even : Bool) → Stand even []
stand_none true = tt
stand_none false = tt

closed_none : (even : Bool) → Closed even 0
closed_none true = omega arith
closed_none false = tt

closed_sum : (even : Bool) (a b : ℕ) → Closed even a → Closed even b → Closed even (a + b)
closed_sum true a b h k = omega (arith, h, k)
closed_sum false a b h k = tt

closed_times : (even : Bool) (n size : ℕ) → Closed even size → Closed even (n * size)
closed_times even zero size h = let z : 0 * size ≡ 0 = omega arith in rw z (closed_none even)
closed_times even (suc n) size h =
    let s : suc n * size ≡ size + n * size = omega arith in
    rw s (closed_sum even size (n * size) h (closed_times even n size h))

stand_copies : (n at : ℕ) (of : Layout) → Closed of.even at → Closed of.even of.size → Stand of.even of.slots
    → Stand of.even (copies n at of)
stand_copies zero at of a c h = stand_none of.even
stand_copies (suc n) at of a c h =
    stand_append of.even (map (moved_by at) of.slots) (copies n (at + of.size) of) (stand_moved of.even at of.slots a h)
    (stand_copies n (at + of.size) of (closed_sum of.even at of.size a c) c h)

aligned_closed : (even : Bool) (n : ℕ) → Closed even (aligned even n)
aligned_closed true n = omega arith
aligned_closed false n = tt

-- what stands in a part stands in the whole
stand_whole : (one other : Bool) (xs : List Slot) → Stand one xs → Stand (one || other) xs
stand_whole true other xs h = h
stand_whole false true xs h = every_weaker Plain Aligned plain_aligned xs h
stand_whole false false xs h = h

stand_other : (one other : Bool) (xs : List Slot) → Stand other xs → Stand (one || other) xs
stand_other true true xs h = h
stand_other true false xs h = every_weaker Plain Aligned plain_aligned xs h
stand_other false other xs h = h

-- ---- layouts

-- of members side by side
record Row (l : Layout) : Type 0 where
  lie : Lie 0 l.size l.slots
  stand : Stand l.even l.slots

-- of a type
record Sound (l : Layout) : Type 0 where
  lie : Lie 0 l.size l.slots
  stand : Stand l.even l.slots
  whole : Closed l.even l.size

sound_nothing : Sound nothing
sound_nothing = record { lie = omega arith; stand = tt; whole = tt }

sound_char : Sound (scalar kind.Char 1 false)
sound_char = record { lie = (omega arith, omega arith); stand = (refl, tt); whole = tt }

sound_word : (k : Kind) → width k ≡ 2 → Sound (scalar k 2 true)
sound_word k e = record {
  lie = (omega arith, omega (arith, e));
  stand = (let P : ℕ → Type 0 = λ w. 0 % w ≡ 0 in subst P (sym e) (omega arith), tt);
  whole = omega arith;
}

sound_integer : (t : IntType) → Sound (integer t)
sound_integer int.Char = sound_char
sound_integer int.Int = sound_word kind.Int refl
sound_integer int.UInt = sound_word kind.UInt refl

sound_array : (n : ℕ) (of : Layout) → Sound of → Sound (array n of)
sound_array n of s = record {
  lie = let z : 0 + n * of.size ≡ n * of.size = omega arith in
      let P : ℕ → Type 0 = λ m. Lie 0 m (copies n 0 of) in subst P z (lie_copies n 0 of s.lie);
  stand = stand_copies n 0 of (closed_none of.even) s.whole s.stand;
  whole = closed_times of.even n of.size s.whole;
}

row_with : (before m : Layout) → Row before → Sound m → Row (with_member before m)
row_with before m b s = record {
  lie = lie_with before m b.lie s.lie;
  stand = stand_append (before.even || m.even) before.slots (map (moved_by (aligned m.even before.size)) m.slots)
      (stand_whole before.even m.even before.slots b.stand)
      (stand_other before.even m.even (map (moved_by (aligned m.even before.size)) m.slots)
      (stand_moved m.even (aligned m.even before.size) m.slots (aligned_closed m.even before.size) s.stand));
}

row_members : (before : Layout) (ms : List Layout) → Row before → Every Sound ms → Row (with_members before ms)
row_members before [] b hs = b
row_members before (m ∷ ms) b hs = row_members (with_member before m) ms (row_with before m b hs.0) hs.1

sound_closed : (l : Layout) → Row l → Sound (closed l)
sound_closed l r = record {
  lie = lie_longer 0 l.size (aligned l.even l.size) l.slots (past_aligned l.even l.size) r.lie;
  stand = r.stand;
  whole = aligned_closed l.even l.size;
}

-- ---- types

module _ (known : List Layout) (all : Every Sound known) where
  abbrev IsSound : Ty → Type 0
  IsSound t = Sound (layout_in known t)

  layer : {A : Type 0} (fa : A → Ty) → ((a : A) → IsSound (fa a)) → (y : Ty-F A) → IsSound (roll-Ty (map-Ty A Ty fa y))
  layer fa ha Ty-F.Void =
      let e : layout_in known (roll-Ty Ty-F.Void) ≡ nothing = search (rules, the_lemmas) in rw e sound_nothing
  layer fa ha (Ty-F.Num t) =
      let e : layout_in known (roll-Ty (Ty-F.Num t)) ≡ integer t = search (rules, the_lemmas) in rw e (sound_integer t)
  layer fa ha (Ty-F.Pointer to readonly) =
      let e : layout_in known (roll-Ty (Ty-F.Pointer (fa to) readonly)) ≡ scalar kind.Pointer 2 true =
      search (rules, the_lemmas) in
      rw e (sound_word kind.Pointer refl)
  layer fa ha (Ty-F.Array of count) =
      let e : layout_in known (roll-Ty (Ty-F.Array (fa of) count)) ≡ array count (layout_in known (fa of)) =
      search (rules, the_lemmas) in
      rw e (sound_array count (layout_in known (fa of)) (ha of))
  layer fa ha (Ty-F.Struct tag) =
      let e : layout_in known (roll-Ty (Ty-F.Struct tag)) ≡ get_or known tag nothing = search (rules, the_lemmas) in
      rw e (every_at Sound known tag nothing all sound_nothing)

  sound_type : (t : Ty) → IsSound t
  sound_type = ind-Ty IsSound (λ x y is. subst (λ z. IsSound (roll-Ty z)) is (layer (λ e. e.0) (λ e. e.1) y))

  sound_members : (ms : List Member) → Every Sound (member_layouts known ms)
  sound_members [] = tt
  sound_members (m ∷ ms) = (sound_type m.ty, sound_members ms)

  sound_struct : (s : Struct) → Sound (struct_layout known s)
  sound_struct s =
      sound_closed (with_members nothing (member_layouts known s.members))
      (row_members nothing (member_layouts known s.members) (record { lie = omega arith; stand = tt })
      (sound_members s.members))

sound_structs : (known : List Layout) (ss : List Struct) → Every Sound known → Every Sound (layouts_from known ss)
sound_structs known [] all = all
sound_structs known (s ∷ ss) all =
    sound_structs (known ++ struct_layout known s ∷ []) ss
    (every_append Sound known (struct_layout known s ∷ []) all (sound_struct known all s, tt))

sound : (structs : List Struct) (t : Ty) → Sound (layout structs t)
sound structs t = sound_type (layouts structs) (sound_structs [] structs tt) t

pub slots_fit : (structs : List Struct) (t : Ty) → SlotsFit structs t
slots_fit structs t = lie_fit 0 _ _ (sound structs t).lie

pub slots_rise : (structs : List Struct) (t : Ty) → SlotsRise structs t
slots_rise structs t = lie_rise 0 _ _ (sound structs t).lie

all_aligned : (even : Bool) (xs : List Slot) → Stand even xs → Every Aligned xs
all_aligned true xs h = h
all_aligned false xs h = every_weaker Plain Aligned plain_aligned xs h

pub slots_aligned : (structs : List Struct) (t : Ty) → SlotsAligned structs t
slots_aligned structs t = all_aligned (layout structs t).even _ (sound structs t).stand

both : (n : ℕ) → n ≡ 1 → n ≡ 2 → ⊥
both n e f = omega arith

size_even : (even : Bool) (size : ℕ) (xs : List Slot) → Stand even xs → Closed even size
    → Every (λ s. width s.kind ≡ 2 → size % 2 ≡ 0) xs
size_even true size xs h c = every_weaker Aligned (λ s. width s.kind ≡ 2 → size % 2 ≡ 0) (λ s a w. c) xs h
size_even false size xs h c =
    every_weaker Plain (λ s. width s.kind ≡ 2 → size % 2 ≡ 0) (λ s p w. absurd (both (width s.kind) p w)) xs h

pub size_is_even : (structs : List Struct) (t : Ty) → SizeIsEven structs t
size_is_even structs t = size_even (layout structs t).even (size_of structs t) _ (sound structs t).stand (sound structs t).whole
