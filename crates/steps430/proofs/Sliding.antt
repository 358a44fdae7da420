-- A pointer is moved by a number of elements.
use Rattle.std.proofs.Common.{◌≡◌, ℕ, suc, ◌+◌, ◌%◌, ◌<◌, ◌≤◌, refl, sym, ap, ◌∙◌, subst, arith, Bool, true, false, List, ◌++◌, Option, Some, None, Result, Ok, Err, if◌then◌else◌}
use Rattle.std.proofs.lemmas.Bool.Decides.{nat_tests}
use Rattle.std.specs.Prelude.{ℤ, pos, negsuc, ◌+ℤ◌, nat_le, nat_lt}
use Rattle.base16.specs.Board.{segment_start}
use Rattle.base16.specs.Integer.{wrapped}
use Rattle.base16.specs.declared.integer.IntType.{IntType}
use Rattle.ideal430.specs.Ideal.{Ideal, Meter}
use Rattle.ideal430.specs.Settled.{Bytes}
use Rattle.c_run.specs.Actions.{kept}
use Rattle.c_values.specs.Objects.{object_of}
use Rattle.c_values.specs.Operators.{number}
use Rattle.c_values.specs.Pointers.{at as place_at, gone, within, end_of, moved_from, moved, scaled as scaled_number, sum_with, pointer_at}
use Rattle.c_values.specs.declared.state.Object.{Object}
use Rattle.c_values.specs.declared.state.State.{State}
use Rattle.c_values.specs.declared.value.Location.{Location}
use Rattle.c_values.specs.declared.value.Value.{Value}
use Rattle.c_values.specs.declared.value.Value.TheVariants.{Int, Pointer, Null, Undefined}
use Rattle.cells430.specs.Cells.{Cells}
use Rattle.cells430.specs.Stretch.{Course, at, Leads}
use Rattle.ir.specs.Machine.{numbered_as}
use Rattle.ir.specs.declared.control.Frame.{Frame}
use Rattle.matching.specs.Matches.{Placed, placed, address_of, pointer_code}
use Rattle.select430.specs.declared.part.Part.{Part}
use Rattle.select430.specs.Code.{moved as moved_parts}
use Rattle.steps430.specs.Setting.{Setting, IsLaid}
use Rattle.steps430.specs.Holds.{is_missing, HasCode, value_code, place_code}
use Rattle.steps430.specs.Standing.{Stage}
use Rattle.steps430.proofs.Moves.{From}
use Rattle.steps430.proofs.Words.{wrapped_number, wrapped_sum}
use Rattle.steps430.proofs.Scaled.{scaling, Spares, moves}

-- ---- a place that is moved

abbrev fine : Location → Result Location ℕ
fine l = Ok l

abbrev wrong : ℕ → Result Location ℕ
wrong n = Err n

same_place : (a b : Location) → fine a ≡ fine b → a ≡ b
same_place a b e = cc

no_place : {A : Type 0} (n : ℕ) (b : Location) → wrong n ≡ fine b → A
no_place n b e = absurd (differ e)
  where
    differ : wrong n ≡ fine b → ⊥
    differ k = cc

-- it lies in the same object, at an offset that is the sum
pub record IsWithin (n : ℕ) (z : ℤ) (l : Location) : Type 0 where
  pub offset : ℕ
  pub sum : z ≡ pos offset
  pub is : place_at n offset ≡ l

within_is : (n : ℕ) (z : ℤ) (o : Option Object) (l : Location) → within n z o ≡ Ok l → IsWithin n z l
within_is n (pos k) (Some o) l e = from (nat_le k (end_of o)) e
  where
    from : (b : Bool) → (if b then fine (place_at n k) else wrong 4) ≡ fine l → IsWithin n (pos k) l
    from true h = record { offset = k; sum = refl; is = same_place (place_at n k) l h }
    from false h = no_place 4 l h
within_is n (negsuc k) (Some o) l e = no_place 4 l e
within_is n (pos k) None l e = no_place 6 l e
within_is n (negsuc k) None l e = no_place 6 l e

-- the word of a sum
sum_word : (base offset to a v : ℕ) (by : ℤ) → pos offset +ℤ by ≡ pos to → a ≡ (base + offset) % 65536
    → v ≡ (wrapped by + a + 0) % 65536 → v ≡ (base + to) % 65536
sum_word base offset to a v by e is_a is_v =
    let s : wrapped (pos to) ≡ (offset % 65536 + wrapped by) % 65536 = sym (ap wrapped e) ∙ wrapped_sum (pos offset) by in
    omega (arith, s, is_a, is_v)

sum_code : (x : Option ℕ) (offset to a v : ℕ) (by : ℤ) → pos offset +ℤ by ≡ pos to → HasCode (pointer_code x offset) a
    → v ≡ (wrapped by + a + 0) % 65536 → HasCode (pointer_code x to) v
sum_code None offset to a v by e is_a is_v = tt
sum_code (Some base) offset to a v by e is_a is_v = sum_word base offset to a v by e is_a is_v

-- a word stands for a place, and for the pointer to it
pub record PointsTo (alive : List Placed) (l : Location) (w : ℕ) : Type 0 where
  pub value : HasCode (value_code alive (pointer_at l.offset l.object)) w
  pub place : HasCode (place_code alive l) w

points_to : (alive : List Placed) (n offset w : ℕ) → HasCode (pointer_code (address_of alive n) offset) w
    → PointsTo alive (place_at n offset) w
points_to alive n offset w h = record { value = h; place = from (nat_lt offset 65536) }
  where
    from : (b : Bool) → HasCode (if b then pointer_code (address_of alive n) offset else None) w
    from true = h
    from false = tt

-- what is moved has an offset of its own: none comes back from the one that stands for all great offsets
pub record IsNear (s : State) (l : Location) (by : ℤ) (to : Location) : Type 0 where
  pub near : l.offset < 65536
  pub moves : moved_from s (pos l.offset +ℤ by) l.object ≡ Ok to

beyond : (n : ℕ) (o : Option Object) (to : Location) → within n (pos 65536) o ≡ Ok to → ⊥
beyond n None to e = no_place 6 to e
beyond n (Some o) to e = from (nat_le 65536 (end_of o)) refl e
  where
    from : (b : Bool) → nat_le 65536 (end_of o) ≡ b → (if b then fine (place_at n 65536) else wrong 4) ≡ fine to → ⊥
    from true h k = let l : 65536 ≤ end_of o = grind (arith, nat_tests) in omega arith
    from false h k = no_place 4 to k

too_far : (s : State) (x : Option ℕ) (to : Location) → moved_from s (pos 65536) x ≡ Ok to → ⊥
too_far s None to e = no_place 12 to e
too_far s (Some n) to e = beyond n (object_of s n) to e

pub moved_near : (s : State) (l : Location) (by : ℤ) (to : Location) → moved s l by ≡ Ok to → IsNear s l by to
unfolding moved
moved_near s l by to e = from (nat_lt l.offset 65536) refl e
  where
    from : (b : Bool) → nat_lt l.offset 65536 ≡ b
        → moved_from s (if b then pos l.offset +ℤ by else pos 65536) l.object ≡ fine to → IsNear s l by to
    from true h k = let few : l.offset < 65536 = grind (arith, nat_tests) in record { near = few; moves = k }
    from false h k = absurd (too_far s l.object to k)

pub within_points : (alive : List Placed) (s : State) (n offset : ℕ) (by : ℤ) (l : Location) (a v : ℕ)
    → within n (pos offset +ℤ by) (object_of s n) ≡ Ok l
    → HasCode (pointer_code (address_of alive n) offset) a → v ≡ (wrapped by + a + 0) % 65536 → PointsTo alive l v
within_points alive s n offset by l a v e has is =
    let h = within_is n (pos offset +ℤ by) (object_of s n) l e in
    subst (λ (x : Location). PointsTo alive x v) h.is
    (points_to alive n h.offset v (sum_code (address_of alive n) offset h.offset a v by h.sum has is))

-- ---- sums

-- a pointer and a number have a sum
pub record IsSum (s : State) (minus : Bool) (size : ℕ) (pointer number : Value) (l : Location) : Type 0 where
  pub object : ℕ
  pub offset : ℕ
  pub count : ℤ
  pub is_pointer : pointer ≡ Pointer object offset
  pub is_number : number ≡ Int count
  pub moves : moved s (place_at object offset) (scaled_number minus count size) ≡ Ok l

-- what has a sum is a pointer and a number
pub sum_with_is : (s : State) (minus : Bool) (size : ℕ) (x y : Value) (l : Location) → sum_with s minus size x y ≡ Ok l
    → IsSum s minus size x y l
unfolding moved
sum_with_is s minus size (Pointer n o) (Int j) l e =
    record { object = n; offset = o; count = j; is_pointer = refl; is_number = refl; moves = e }
sum_with_is s minus size (Int i) (Int j) l e = no_place _ l e
sum_with_is s minus size Null (Int j) l e = no_place _ l e
sum_with_is s minus size Undefined (Int j) l e = no_place _ l e
sum_with_is s minus size x (Pointer n o) l e = no_place _ l e
sum_with_is s minus size x Null l e = no_place _ l e
sum_with_is s minus size x Undefined l e = from (gone s x) e
  where
    from : (b : Bool) → (if b then wrong 6 else wrong 11) ≡ fine l → IsSum s minus size x Undefined l
    from true k = no_place 6 l k
    from false k = no_place 11 l k

-- ---- values as their types say

pub numbered_code : (alive : List Placed) (t : Option IntType) (v : Value) (w : ℕ) → HasCode (value_code alive v) w
    → HasCode (value_code alive (numbered_as t v)) w
numbered_code alive None v w h = h
numbered_code alive (Some t) (Int z) w h = h ∙ sym (wrapped_number t z)
numbered_code alive (Some t) (Pointer n o) w h = h
numbered_code alive (Some t) Null w h = h
numbered_code alive (Some t) Undefined w h = h

pub numbered_missing : (t : Option IntType) (v : Value) → is_missing v ≡ is_missing (numbered_as t v)
numbered_missing None v = refl
numbered_missing (Some t) (Int z) = refl
numbered_missing (Some t) (Pointer n o) = refl
numbered_missing (Some t) Null = refl
numbered_missing (Some t) Undefined = refl

-- ---- code

module _ (p : Setting) (lay : IsLaid p) (Q : Ideal → Type 0) (n : ℕ) (s : State) (next : ℕ) (frames : List Frame)
    (all own : Cells)
    (segment base sp : ℕ) (ps r m : ℕ → ℕ) (st : Bytes) (x : Course) (y : Meter) (f end : ℕ) (more : List Part) where
  -- a pointer in R15 and a number in R12
  pub slides : (minus : Bool) (size : ℕ) (pointer number : Value) (l : Location) → segment_start segment + 4 ≤ sp
      → Stage p s next frames all own segment base sp ps r m st → IsSum s minus size pointer number l
      → HasCode (value_code (placed p.core (kept s)) pointer) (r 15) → HasCode (value_code (placed p.core (kept s)) number) (r 12)
      → From p f (r 0) (moved_parts minus size ++ more) end
      → ((r2 m2 : ℕ → ℕ) (st2 : Bytes) (y2 : Meter) → PointsTo (placed p.core (kept s)) l (r2 12) → Spares r r2
      → From p f (r2 0) more end → Stage p s next frames all own segment base sp ps r2 m2 st2
      → Leads n (at segment ps r2 m2 st2 x y2) Q)
      → Leads (scaling minus size + suc n) (at segment ps r m st x y) Q
  slides minus size pointer number l low h sum has_pointer has_number code go =
      let alive : List Placed = placed p.core (kept s) in
      let is : r 12 ≡ wrapped sum.count = subst (λ (v : Value). HasCode (value_code alive v) (r 12)) sum.is_number has_number in
      let from : HasCode (pointer_code (address_of alive sum.object) sum.offset) (r 15) =
      subst (λ (v : Value). HasCode (value_code alive v) (r 15)) sum.is_pointer has_pointer in
      moves p lay Q s next frames all own segment base sp ps x f end minus size sum.count more n r m st y low h is code
      (λ r2 m2 st2 y2 in_r12 same spares code2 stage2.
      go r2 m2 st2 y2
      (within_points alive s sum.object sum.offset (scaled_number minus sum.count size) l (r 15) (r2 12)
      (moved_near s (place_at sum.object sum.offset) (scaled_number minus sum.count size) l sum.moves).moves from in_r12)
      spares code2 stage2)
