-- What has its cells keeps them, whatever else a run does.
use Rattle.std.proofs.Common.{◌≡◌, ◌≢◌, ℕ, ◌+◌, ◌<◌, ◌⊎◌, inl, inr, Bool, true, false, List, [], ◌∷◌, ◌++◌, map, Option, Some, None, refl, sym, ap, ◌∙◌, subst, arith, append_assoc}
use Rattle.std.proofs.lemmas.Bool.{ne_eqb}
use Rattle.std.proofs.lemmas.List.{append-nil}
use Rattle.std.specs.Prelude.{nat_eq, if◌then◌else◌}
use Rattle.base16.specs.declared.image.Kind.{Kind}
use Rattle.c_meaning.specs.After.{objects_of}
use Rattle.c_run.specs.Actions.{kept, with_call}
use Rattle.c_run.specs.Lists.{without_last}
use Rattle.c_run.specs.Making.{fresh_cell, fresh_objects}
use Rattle.c_values.specs.Objects.{cleared_cell, clear_object, clear_call, with_cleared}
use Rattle.c_values.specs.declared.state.Call.{Call}
use Rattle.c_values.specs.declared.state.Object.{Object}
use Rattle.c_values.specs.declared.state.State.{State}
use Rattle.c_values.specs.declared.value.Cell.{Cell as Scalar}
use Rattle.c_values.specs.declared.value.Value.{Value}
use Rattle.c_values.specs.declared.value.Value.TheVariants.{Int, Pointer, Null, Undefined}
use Rattle.cells430.specs.Cells.{Cells}
use Rattle.core_tree.specs.Data.{global_address}
use Rattle.core_tree.specs.LawfulCore.{Every}
use Rattle.core_tree.specs.declared.program.Core.{Core}
use Rattle.core_tree.specs.declared.program.Function.{Function}
use Rattle.core_tree.specs.declared.types.Slot.{Slot}
use Rattle.matching.proofs.Lying.{each_append}
use Rattle.matching.specs.Covering.{HasCell, ScalarsCovered, Covered, HaveCells, SameCells, PointsBelow, AllPointBelow}
use Rattle.matching.specs.Laws.{ClearedIsCovered, LeftIsCovered, ElsewhereIsCovered, EnteredIsCovered, fresh_call}
use Rattle.matching.specs.Matches.{Placed, placed_from, local_address, placed_in_calls, placed, address_of, pointer_code, encoded}

-- ---- cells

weaker : (f : Cells) (a : ℕ) (k : Kind) (o : Option ℕ) → HasCell f a k o → HasCell f a k None
weaker f a k None h = h
weaker f a k (Some code) h = (Some code, h)

-- a code that is the same, or none any more
recoded : (f : Cells) (a : ℕ) (k : Kind) (o p : Option ℕ) → (p ≡ None) ⊎ (p ≡ o) → HasCell f a k o → HasCell f a k p
recoded f a k o p (inl e) h = subst (λ (x : Option ℕ). HasCell f a k x) (sym e) (weaker f a k o h)
recoded f a k o p (inr e) h = subst (λ (x : Option ℕ). HasCell f a k x) (sym e) h

moved_cells : (f g : Cells) (a : ℕ) (k : Kind) (o : Option ℕ) → g a ≡ f a → HasCell f a k o → HasCell g a k o
moved_cells f g a k None e h = (h.0, e ∙ h.1)
moved_cells f g a k (Some code) e h = e ∙ h

-- ---- other cells

scalars_elsewhere : (f g : Cells) (alive : List Placed) (a : ℕ) (cs : List Scalar)
    → Every (λ c. g (a + c.offset) ≡ f (a + c.offset)) cs → ScalarsCovered f alive a cs → ScalarsCovered g alive a cs
scalars_elsewhere f g alive a [] e h = tt
scalars_elsewhere f g alive a (c ∷ cs) e h =
    (moved_cells f g (a + c.offset) c.kind (encoded alive c.kind c.value) e.0 h.0, scalars_elsewhere f g alive a cs e.1 h.1)

pub objects_elsewhere : (f g : Cells) (alive ps : List Placed) → SameCells f g ps → Covered f alive ps → Covered g alive ps
objects_elsewhere f g alive [] e h = tt
objects_elsewhere f g alive (p ∷ ps) e h =
    (scalars_elsewhere f g alive p.address p.object.cells e.0 h.0, objects_elsewhere f g alive ps e.1 h.1)

pub elsewhere_covered : (core : Core) (s : State) (f g : Cells) → ElsewhereIsCovered core s f g
elsewhere_covered core s f g e h = objects_elsewhere f g (placed core (kept s)) (placed core (kept s)) e h

-- ---- a declaration

abbrev cleared : (n : ℕ) → Placed → Placed
cleared n p = record { object = clear_object n p.object; address = p.address }

objects_cleared : (n : ℕ) (address : ℕ → ℕ) (i : ℕ) (xs : List Object)
    → placed_from address i (map (clear_object n) xs) ≡ map (cleared n) (placed_from address i xs)
objects_cleared n address i [] = refl
objects_cleared n address i (x ∷ xs) =
    ap (λ (ps : List Placed). record { object = clear_object n x; address = address i } ∷ ps)
    (objects_cleared n address (i + 1) xs)

map_append : {A B : Type 0} (f : A → B) (xs ys : List A) → map f (xs ++ ys) ≡ map f xs ++ map f ys
map_append f [] ys = refl
map_append f (x ∷ xs) ys = ap (λ zs. f x ∷ zs) (map_append f xs ys)

calls_cleared : (n : ℕ) (core : Core) (cs : List Call)
    → placed_in_calls core (map (clear_call n) cs) ≡ map (cleared n) (placed_in_calls core cs)
calls_cleared n core [] = refl
calls_cleared n core (c ∷ cs) =
    let more = placed_in_calls core (map (clear_call n) cs) in
    let own = placed_from (local_address core c) 0 c.locals in
    ap (λ (ps : List Placed). ps ++ more) (objects_cleared n (local_address core c) 0 c.locals)
    ∙ ap (λ (ps : List Placed). map (cleared n) own ++ ps) (calls_cleared n core cs)
    ∙ sym (map_append (cleared n) own (placed_in_calls core cs))

placed_cleared : (n : ℕ) (core : Core) (s : State) → placed core (kept (with_cleared n s)) ≡ map (cleared n)
    (placed core (kept s))
unfolding with_cleared
placed_cleared n core s =
    let more = placed_in_calls core (map (clear_call n) s.calls) in
    let own = placed_from (global_address core) 0 s.globals in
    ap (λ (ps : List Placed). ps ++ more) (objects_cleared n (global_address core) 0 s.globals)
    ∙ ap (λ (ps : List Placed). map (cleared n) own ++ ps) (calls_cleared n core s.calls)
    ∙ sym (map_append (cleared n) own (placed_in_calls core s.calls))

clear_number : (n : ℕ) (o : Object) → (clear_object n o).number ≡ o.number
clear_number n o = from (nat_eq o.number n)
  where
    from : (t : Bool) → (if t then record o { cells = map cleared_cell o.cells } else o).number ≡ o.number
    from true = refl
    from false = refl

address_stays : (n j : ℕ) (ps : List Placed) → address_of (map (cleared n) ps) j ≡ address_of ps j
address_stays n j [] = refl
address_stays n j (p ∷ ps) =
    ap (λ (x : ℕ). if nat_eq x j then Some p.address else address_of (map (cleared n) ps) j) (clear_number n p.object)
    ∙ ap (λ (x : Option ℕ). if nat_eq p.object.number j then Some p.address else x) (address_stays n j ps)

codes_stay : (n : ℕ) (alive : List Placed) (k : Kind) (v : Value) → encoded (map (cleared n) alive) k v ≡ encoded alive k v
codes_stay n alive k (Int z) = refl
codes_stay n alive k (Pointer j offset) = ap (λ (x : Option ℕ). pointer_code x offset) (address_stays n j alive)
codes_stay n alive k Null = refl
codes_stay n alive k Undefined = refl

none_set : (f : Cells) (alive more : List Placed) (a : ℕ) (cs : List Scalar) → ScalarsCovered f alive a cs
    → ScalarsCovered f more a (map cleared_cell cs)
none_set f alive more a [] h = tt
none_set f alive more a (c ∷ cs) h =
    (weaker f (a + c.offset) c.kind (encoded alive c.kind c.value) h.0, none_set f alive more a cs h.1)

scalars_recoded : (f : Cells) (alive more : List Placed) (a : ℕ) (cs : List Scalar)
    → ((k : Kind) (v : Value) → (encoded more k v ≡ None) ⊎ (encoded more k v ≡ encoded alive k v)) → ScalarsCovered f alive a cs
    → ScalarsCovered f more a cs
scalars_recoded f alive more a [] same h = tt
scalars_recoded f alive more a (c ∷ cs) same h = (
  recoded f (a + c.offset) c.kind (encoded alive c.kind c.value) (encoded more c.kind c.value) (same c.kind c.value) h.0,
  scalars_recoded f alive more a cs same h.1,
)

objects_recoded : (f : Cells) (alive more ps : List Placed)
    → ((k : Kind) (v : Value) → (encoded more k v ≡ None) ⊎ (encoded more k v ≡ encoded alive k v)) → Covered f alive ps
    → Covered f more ps
objects_recoded f alive more [] same h = tt
objects_recoded f alive more (p ∷ ps) same h =
    (scalars_recoded f alive more p.address p.object.cells same h.0, objects_recoded f alive more ps same h.1)

all_cleared : (f : Cells) (n : ℕ) (alive ps : List Placed) → Covered f alive ps → Covered f (map (cleared n) alive)
    (map (cleared n) ps)
all_cleared f n alive [] h = tt
all_cleared f n alive (p ∷ ps) h = (from (nat_eq p.object.number n), all_cleared f n alive ps h.1)
  where
    from : (t : Bool) → ScalarsCovered f (map (cleared n) alive) p.address
        (if t then record (p.object) { cells = map cleared_cell p.object.cells } else p.object).cells
    from true = none_set f alive (map (cleared n) alive) p.address p.object.cells h.0
    from false =
        scalars_recoded f alive (map (cleared n) alive) p.address p.object.cells (λ k v. inr (codes_stay n alive k v)) h.0

pub cleared_covered : (core : Core) (s : State) (f : Cells) (n : ℕ) → ClearedIsCovered core s f n
cleared_covered core s f n h =
    subst (λ (x : List Placed). Covered f x x) (sym (placed_cleared n core s))
    (all_cleared f n (placed core (kept s)) (placed core (kept s)) h)

-- ---- the end of a call

-- the objects of the calls, with those of the youngest behind the others
last_apart : (core : Core) (cs : List Call) → (rest : List Placed) ×
    (placed_in_calls core cs ≡ placed_in_calls core (without_last cs) ++ rest)
last_apart core [] = ([], refl)
last_apart core (c ∷ []) = (placed_in_calls core (c ∷ []), refl)
last_apart core (c ∷ (d ∷ cs)) =
    let own = placed_from (local_address core c) 0 c.locals in
    let h = last_apart core (d ∷ cs) in
    (h.0, ap (λ (ps : List Placed). own ++ ps) h.1 ∙ sym (append_assoc own (placed_in_calls core (without_last (d ∷ cs))) h.0))

front_address : (ps rest : List Placed) (j : ℕ) → (address_of ps j ≡ None) ⊎ (address_of ps j ≡ address_of (ps ++ rest) j)
front_address [] rest j = inl refl
front_address (p ∷ ps) rest j = from (nat_eq p.object.number j) (front_address ps rest j)
  where
    from : (t : Bool) → (address_of ps j ≡ None) ⊎ (address_of ps j ≡ address_of (ps ++ rest) j)
        → ((if t then Some p.address else address_of ps j) ≡ None)
        ⊎ ((if t then Some p.address else address_of ps j) ≡ (if t then Some p.address else address_of (ps ++ rest) j))
    from true h = inr refl
    from false h = h

fewer : (ps rest : List Placed) (k : Kind) (v : Value) → (encoded ps k v ≡ None) ⊎ (encoded ps k v ≡ encoded (ps ++ rest) k v)
fewer ps rest k (Int z) = inr refl
fewer ps rest k (Pointer j offset) = from (front_address ps rest j)
  where
    from : (address_of ps j ≡ None) ⊎ (address_of ps j ≡ address_of (ps ++ rest) j)
        → (pointer_code (address_of ps j) offset ≡ None) ⊎
        (pointer_code (address_of ps j) offset ≡ pointer_code (address_of (ps ++ rest) j) offset)
    from (inl e) = inl (ap (λ (x : Option ℕ). pointer_code x offset) e)
    from (inr e) = inr (ap (λ (x : Option ℕ). pointer_code x offset) e)
fewer ps rest k Null = inr refl
fewer ps rest k Undefined = inr refl

in_front : {A : Type 0} (P : A → Type 0) (xs ys : List A) → Every P (xs ++ ys) → Every P xs
in_front P [] ys h = tt
in_front P (x ∷ xs) ys h = (h.0, in_front P xs ys h.1)

pub left_covered : (core : Core) (s : State) (f : Cells) → LeftIsCovered core s f
left_covered core s f h =
    let own = placed_from (global_address core) 0 s.globals in
    let calls = last_apart core s.calls in
    let ps = own ++ placed_in_calls core (without_last s.calls) in
    let whole : placed core (kept s) ≡ ps ++ calls.0 =
    ap (λ (xs : List Placed). own ++ xs) calls.1 ∙ sym (append_assoc own (placed_in_calls core (without_last s.calls)) calls.0) in
    let all = subst (λ (x : List Placed). Covered f x x) whole h in
    objects_recoded f (ps ++ calls.0) ps ps (fewer ps calls.0)
    (in_front (λ (p : Placed). ScalarsCovered f (ps ++ calls.0) p.address p.object.cells) ps calls.0 all)

-- ---- a call

calls_push : (core : Core) (cs : List Call) (c : Call)
    → placed_in_calls core (cs ++ c ∷ []) ≡ placed_in_calls core cs ++ placed_from (local_address core c) 0 c.locals
calls_push core [] c = append-nil (placed_from (local_address core c) 0 c.locals)
calls_push core (d ∷ cs) c =
    let own = placed_from (local_address core d) 0 d.locals in
    ap (λ (ps : List Placed). own ++ ps) (calls_push core cs c)
    ∙ sym (append_assoc own (placed_in_calls core cs) (placed_from (local_address core c) 0 c.locals))

no_address : (qs : List Placed) (j : ℕ) → Every (λ q. q.object.number ≢ j) qs → address_of qs j ≡ None
no_address [] j h = refl
no_address (q ∷ qs) j h =
    ap (λ (t : Bool). if t then Some q.address else address_of qs j) (ne_eqb q.object.number j h.0) ∙ no_address qs j h.1

address_more : (ps qs : List Placed) (j : ℕ) → Every (λ q. q.object.number ≢ j) qs → address_of (ps ++ qs) j ≡ address_of ps j
address_more [] qs j h = no_address qs j h
address_more (p ∷ ps) qs j h =
    ap (λ (x : Option ℕ). if nat_eq p.object.number j then Some p.address else x) (address_more ps qs j h)

fresh_numbers : (address : ℕ → ℕ) (i n j : ℕ) (xs : List (List Slot)) → j < n
    → Every (λ q. q.object.number ≢ j) (placed_from address i (fresh_objects n xs))
fresh_numbers address i n j [] l = tt
fresh_numbers address i n j (x ∷ xs) l = ((λ e. absurd (omega arith)), fresh_numbers address (i + 1) (n + 1) j xs (omega arith))

more_code : (ps qs : List Placed) (next : ℕ) (k : Kind) (v : Value) → PointsBelow next v
    → ((j : ℕ) → j < next → Every (λ q. q.object.number ≢ j) qs) → encoded (ps ++ qs) k v ≡ encoded ps k v
more_code ps qs next k (Int z) l h = refl
more_code ps qs next k (Pointer j offset) l h = ap (λ (x : Option ℕ). pointer_code x offset) (address_more ps qs j (h j l))
more_code ps qs next k Null l h = refl
more_code ps qs next k Undefined l h = refl

scalars_more : (f : Cells) (ps qs : List Placed) (next a : ℕ) (cs : List Scalar)
    → ((j : ℕ) → j < next → Every (λ q. q.object.number ≢ j) qs) → Every (λ c. PointsBelow next c.value) cs
    → ScalarsCovered f ps a cs → ScalarsCovered f (ps ++ qs) a cs
scalars_more f ps qs next a [] fresh l h = tt
scalars_more f ps qs next a (c ∷ cs) fresh l h = (
  subst (λ (x : Option ℕ). HasCell f (a + c.offset) c.kind x) (sym (more_code ps qs next c.kind c.value l.0 fresh)) h.0,
  scalars_more f ps qs next a cs fresh l.1 h.1,
)

objects_more : (f : Cells) (alive qs : List Placed) (next : ℕ) (ps : List Placed)
    → ((j : ℕ) → j < next → Every (λ q. q.object.number ≢ j) qs) → AllPointBelow next ps → Covered f alive ps
    → Covered f (alive ++ qs) ps
objects_more f alive qs next [] fresh l h = tt
objects_more f alive qs next (p ∷ ps) fresh l h =
    (scalars_more f alive qs next p.address p.object.cells fresh l.0 h.0, objects_more f alive qs next ps fresh l.1 h.1)

fresh_scalars : (f : Cells) (alive : List Placed) (a : ℕ) (slots : List Slot)
    → Every (λ c. HasCell f (a + c.offset) c.kind None) (map fresh_cell slots) → ScalarsCovered f alive a (map fresh_cell slots)
fresh_scalars f alive a [] h = tt
fresh_scalars f alive a (x ∷ xs) h = (h.0, fresh_scalars f alive a xs h.1)

fresh_covered : (f : Cells) (alive : List Placed) (address : ℕ → ℕ) (i n : ℕ) (xs : List (List Slot))
    → HaveCells f (placed_from address i (fresh_objects n xs)) → Covered f alive (placed_from address i (fresh_objects n xs))
fresh_covered f alive address i n [] h = tt
fresh_covered f alive address i n (x ∷ xs) h =
    (fresh_scalars f alive (address i) x h.0, fresh_covered f alive address (i + 1) (n + 1) xs h.1)

pub entered_covered : (core : Core) (next : ℕ) (s : State) (function frame : ℕ) (f : Function) (cells : Cells)
    → EnteredIsCovered core next s function frame f cells
entered_covered core next s function frame f cells below h new =
    let c = fresh_call core next function frame f in
    let own = placed_from (global_address core) 0 s.globals in
    let ps = placed core (kept s) in
    let address = local_address core c in
    let slots = objects_of core.structs f in
    let qs = placed_from address 0 (fresh_objects next slots) in
    let whole : placed core (kept (with_call c s)) ≡ ps ++ qs =
    ap (λ (xs : List Placed). own ++ xs) (calls_push core s.calls c) ∙ sym (append_assoc own (placed_in_calls core s.calls) qs) in
    subst (λ (x : List Placed). Covered cells x x) (sym whole)
    (each_append (λ (p : Placed). ScalarsCovered cells (ps ++ qs) p.address p.object.cells) ps qs
    (objects_more cells ps qs next ps (λ j l. fresh_numbers address 0 next j slots l) below h)
    (fresh_covered cells (ps ++ qs) address 0 next slots new))
