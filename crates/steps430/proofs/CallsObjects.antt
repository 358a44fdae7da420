-- The objects of the youngest call have the scalars that its function names, and a parameter is found by its number.
use Rattle.std.proofs.Common.{◌≡◌, ◌≢◌, ℕ, zero, suc, ◌+◌, ◌≤◌, refl, sym, ap, ◌∙◌, subst, arith, Bool, true, false, List, [], ◌∷◌, ◌++◌, length, map, reverse, Option, Some, None, Result, Ok, Err, if◌then◌else◌}
use Rattle.std.proofs.lemmas.Bool.{eq-eqb, ne_eqb}
use Rattle.std.proofs.lemmas.List.{reverse-append, reverse-reverse}
use Rattle.std.specs.Prelude.{nat_eq, slice_get}
use Rattle.base16.specs.declared.image.Kind.{Kind}
use Rattle.base16.specs.declared.image.Kind.TheVariants as kind
use Rattle.c_meaning.specs.After.{objects_of as meant_objects}
use Rattle.c_meaning.specs.Stamps.{slots_of}
use Rattle.c_run.specs.Actions.{kept}
use Rattle.c_run.specs.Making.{fresh_cell, fresh_objects}
use Rattle.c_values.specs.Objects.{same_kind, find_object, or_else, find_local, object_of, find_cell, put_cell, put_object, with_scalar, value_in, value_of, accessed}
use Rattle.c_values.specs.Pointers.{at as place_at}
use Rattle.c_values.specs.declared.state.Call.{Call}
use Rattle.c_values.specs.declared.state.Object.{Object}
use Rattle.c_values.specs.declared.state.State.{State}
use Rattle.c_values.specs.declared.value.Cell.{Cell as Scalar}
use Rattle.c_values.specs.declared.value.Value.{Value}
use Rattle.core_tree.specs.declared.program.Core.{Core}
use Rattle.core_tree.specs.declared.types.Slot.{Slot}
use Rattle.ir.specs.Machine.{first_kind}
use Rattle.matching.specs.Laid.{slot_of, AreMade, CallsAreMade, IsMade}
use Rattle.steps430.specs.Setting.{NumberedFrom}
use Rattle.steps430.proofs.Stored.{changed_call, reverse_map}

-- ---- the scalars of objects

abbrev pub scalars_of : Object → List Slot
scalars_of o = map slot_of o.cells

-- the objects of the youngest of these calls, which come first, have these scalars
abbrev pub HaveScalars : List (List Slot) → List Call → Type 0
HaveScalars slots [] = ⊥
HaveScalars slots (c ∷ cs) = map scalars_of c.locals ≡ slots

-- objects that come to life have theirs
fresh_scalars : (slots : List Slot) → map slot_of (map fresh_cell slots) ≡ slots
fresh_scalars [] = refl
fresh_scalars (s ∷ more) = ap (λ (xs : List Slot). s ∷ xs) (fresh_scalars more)

pub fresh_have : (n : ℕ) (slots : List (List Slot)) → map scalars_of (fresh_objects n slots) ≡ slots
fresh_have n [] = refl
fresh_have n (x ∷ more) =
    ap (λ (y : List Slot). y ∷ map scalars_of (fresh_objects (n + 1) more)) (fresh_scalars x)
    ∙ ap (λ (xs : List (List Slot)). x ∷ xs) (fresh_have (n + 1) more)

-- a store leaves them
slot_stays : (offset : ℕ) (v : Value) (c : Scalar) → slot_of (put_cell offset v c) ≡ slot_of c
slot_stays offset v c = from (nat_eq c.offset offset)
  where
    from : (t : Bool) → slot_of (if t then record c { value = v } else c) ≡ slot_of c
    from true = refl
    from false = refl

slots_stay : (offset : ℕ) (v : Value) (cs : List Scalar) → map slot_of (map (put_cell offset v) cs) ≡ map slot_of cs
slots_stay offset v [] = refl
slots_stay offset v (c ∷ cs) =
    ap (λ (s : Slot). s ∷ map slot_of (map (put_cell offset v) cs)) (slot_stays offset v c)
    ∙ ap (λ (ss : List Slot). slot_of c ∷ ss) (slots_stay offset v cs)

object_stays : (n offset : ℕ) (v : Value) (o : Object) → scalars_of (put_object n offset v o) ≡ scalars_of o
object_stays n offset v o = from (nat_eq o.number n)
  where
    from : (t : Bool) → scalars_of (if t then record o { cells = map (put_cell offset v) o.cells } else o) ≡ scalars_of o
    from true = slots_stay offset v o.cells
    from false = refl

objects_stay : (n offset : ℕ) (v : Value) (os : List Object)
    → map scalars_of (map (put_object n offset v) os) ≡ map scalars_of os
objects_stay n offset v [] = refl
objects_stay n offset v (o ∷ os) =
    ap (λ (x : List Slot). x ∷ map scalars_of (map (put_object n offset v) os)) (object_stays n offset v o)
    ∙ ap (λ (xs : List (List Slot)). scalars_of o ∷ xs) (objects_stay n offset v os)

calls_stay : (slots : List (List Slot)) (n offset : ℕ) (v : Value) (cs : List Call) → HaveScalars slots cs
    → HaveScalars slots (map (changed_call (put_object n offset v)) cs)
calls_stay slots n offset v [] h = h
calls_stay slots n offset v (c ∷ cs) h = objects_stay n offset v c.locals ∙ h

pub stored_have : (slots : List (List Slot)) (n offset : ℕ) (v : Value) (s : State) → HaveScalars slots (reverse s.calls)
    → HaveScalars slots (reverse (with_scalar n offset v s).calls)
unfolding with_scalar
stored_have slots n offset v s h =
    subst (HaveScalars slots) (sym (reverse_map (changed_call (put_object n offset v)) s.calls))
    (calls_stay slots n offset v (reverse s.calls) h)

-- ---- an object by its number

abbrev no_slots : List (List Slot)
no_slots = []

no_scalars : {A : Type 0} (i : ℕ) (x : List Slot) → slice_get no_slots i ≡ Some x → A
no_scalars i x e = absurd (differ e)
  where
    differ : slice_get no_slots i ≡ Some x → ⊥
    differ k = cc

same_slots : (x y : List Slot) → Some x ≡ Some y → x ≡ y
same_slots x y e = cc

find_nth : (first i : ℕ) (os : List Object) (x : List Slot) → NumberedFrom first os → slice_get (map scalars_of os) i ≡ Some x
    → (o : Object) × (find_object (first + i) os ≡ Some o) × (scalars_of o ≡ x)
find_nth first i [] x h e = no_scalars i x e
find_nth first zero (o ∷ os) x h e =
    let k = h.0 in
    let here : o.number ≡ first + 0 = omega arith in (
      o,
      ap (λ (t : Bool). if t then Some o else find_object (first + 0) os) (eq-eqb o.number (first + 0) here),
      same_slots
          (scalars_of o) x e,
    )
find_nth first (suc j) (o ∷ os) x h e =
    let k = h.0 in
    let m = find_nth (first + 1) j os x h.1 e in
    let other : o.number ≢ first + suc j = omega arith in
    let same : first + suc j ≡ first + 1 + j = omega arith in (
      m.0,
      ap (λ (t : Bool). if t then Some o else find_object (first + suc j) os) (ne_eqb o.number (first + suc j) other)
          ∙ ap (λ (n : ℕ). find_object n os) same ∙ m.1,
      m.2,
    )

-- objects below a number do not have it
none_made : (n a : ℕ) (slots : List (List Slot)) (os : List Object) → AreMade a slots os → a + length os ≤ n
    → find_object n os ≡ None
none_made n a [] [] h l = refl
none_made n a (x ∷ more) (o ∷ os) h l =
    let k = h.0 in
    let other : o.number ≢ n = omega arith in
    ap (λ (t : Bool). if t then Some o else find_object n os) (ne_eqb o.number n other)
    ∙ none_made n (a + 1) more os h.2 (omega arith)
none_made n a [] (o ∷ os) h l = absurd h
none_made n a (x ∷ more) [] h l = absurd h

first_is : (a first i : ℕ) (slots : List (List Slot)) (os : List Object) (x : List Slot) → AreMade a slots os
    → NumberedFrom first os → slice_get (map scalars_of os) i ≡ Some x → a ≡ first
first_is a first i slots [] x h k e = no_scalars i x e
first_is a first i [] (o ∷ os) x h k e = absurd h
first_is a first i (y ∷ more) (o ∷ os) x h k e = sym h.0 ∙ k.0

-- the objects of older calls are below those of the youngest
older_none : (core : Core) (low next : ℕ) (xs : List Call) (c : Call) → CallsAreMade core low next (xs ++ c ∷ [])
    → (a : ℕ) × (slots : List (List Slot)) × (low ≤ a) × AreMade a slots c.locals
    × ((n : ℕ) → a ≤ n → find_local n xs ≡ None)
older_none core low next [] c h =
    (h.0.first, meant_objects core.structs h.0.function, h.0.above, h.0.objects, λ n l. refl)
older_none core low next (x ∷ xs) c h =
    let m = older_none core (h.0.first + length x.locals) next xs c h.1 in
    let a = h.0.above in
    let b = m.2 in (
      m.0,
      m.1,
      (let k : low ≤ m.0 = omega arith in k),
      m.3,
      λ n l.
          ap (λ (o : Option Object). or_else o (find_local n xs))
          (none_made n h.0.first (meant_objects core.structs h.0.function) x.locals h.0.objects (omega arith)) ∙ m.4 n l,
    )

some_none : {A : Type 0} (o : Object) → Some o ≡ None → A
some_none o e = absurd (differ e)
  where
    differ : Some o ≡ None → ⊥
    differ k = cc

last_found : (n : ℕ) (xs : List Call) (c : Call) (o : Object) → find_local n xs ≡ None → find_object n c.locals ≡ Some o
    → find_local n (xs ++ c ∷ []) ≡ Some o
last_found n [] c o none found = ap (λ (x : Option Object). or_else x None) found
last_found n (x ∷ xs) c o none found = from (find_object n x.locals) none (λ e. last_found n xs c o e found)
  where
    from : (y : Option Object) → or_else y (find_local n xs) ≡ None
        → (find_local n xs ≡ None → find_local n (xs ++ c ∷ []) ≡ Some o) → or_else y (find_local n (xs ++ c ∷ [])) ≡ Some o
    from (Some y) e more = some_none y e
    from None e more = more e

-- ---- a parameter

same_true : (k : Kind) → same_kind k k ≡ true
same_true kind.Char = refl
same_true kind.Int = refl
same_true kind.UInt = refl
same_true kind.Pointer = refl

abbrev first_offset : List Slot → ℕ
first_offset [] = 0
first_offset (s ∷ ss) = s.offset

abbrev single : Kind → List Slot
single k = record { offset = 0; kind = k } ∷ []

no_single : {A : Type 0} (k : Kind) → [] ≡ single k → A
no_single k e = absurd (differ e)
  where
    differ : [] ≡ single k → ⊥
    differ j = cc

only_cell : (k : Kind) (cs : List Scalar) → map slot_of cs ≡ single k → (v : Value) × (value_in k (find_cell 0 cs) ≡ Ok v)
only_cell k [] e = no_single k e
only_cell k (c ∷ cs) e =
    let offset : c.offset ≡ 0 = ap first_offset e in
    let kind_is : c.kind ≡ k = ap first_kind e in
    let found : find_cell 0 (c ∷ cs) ≡ Some c =
    ap (λ (t : Bool). if t then Some c else find_cell 0 cs) (eq-eqb c.offset 0 offset) in
    (c.value, ap (value_in k) found ∙ truly c.value (same_kind c.kind k) (ap (λ (j : Kind). same_kind j k) kind_is ∙ same_true k))
  where
    fine : Value → Result Value ℕ
    fine v = Ok v

    wrong : ℕ → Result Value ℕ
    wrong n = Err n

    truly : (v : Value) (t : Bool) → t ≡ true → (if t then Ok v else wrong 5) ≡ Ok v
    truly v true j = refl
    truly v false j = absurd (differ j)
      where
        differ : false ≡ true → ⊥
        differ i = cc

-- a parameter of the youngest call, which is one scalar, has a value of its kind
pub param_there : (core : Core) (next : ℕ) (s : State) (first i : ℕ) (k : Kind) (c : Call) (cs : List Call)
    → reverse s.calls ≡ c ∷ cs → IsMade core next (kept s) → length s.globals ≡ length core.globals → NumberedFrom first c.locals
    → slice_get (map scalars_of c.locals) i ≡ Some (record { offset = 0; kind = k } ∷ [])
    → (old : Value) × (accessed s (place_at (first + i) 0) k ≡ Ok old)
unfolding accessed object_of
param_there core next s first i k c cs e made count numbers there =
    let calls : s.calls ≡ reverse cs ++ c ∷ [] = sym (reverse-reverse s.calls) ∙ ap reverse e ∙ reverse-append (c ∷ []) cs in
    let m = older_none core (length core.globals) next (reverse cs) c
    (subst (λ (xs : List Call). CallsAreMade core (length core.globals) next xs) calls made.calls) in
    let f = find_nth first i c.locals (single k) numbers there in
    let low = m.2 in
    let is = first_is m.0 first i m.1 c.locals (single k) m.3 numbers there in
    let no_global : find_object (first + i) s.globals ≡ None =
    none_made (first + i) 0 (map (slots_of core.structs) core.globals) s.globals made.globals (omega arith) in
    let found : find_local (first + i) s.calls ≡ Some f.0 =
    ap (find_local (first + i)) calls ∙ last_found (first + i) (reverse cs) c f.0 (m.4 (first + i) (omega arith)) f.1 in
    let o : object_of s (first + i) ≡ Some f.0 =
    ap (λ (x : Option Object). or_else x (find_local (first + i) s.calls)) no_global ∙ found in
    let cell = only_cell k f.0.cells f.2 in
    (cell.0, ap (value_of 0 k) o ∙ cell.1)
