-- What a run does to a state keeps its objects as they are made: the start, a store, a declaration, a call and its end.
use Rattle.std.proofs.Common.{◌≡◌, ℕ, suc, ◌+◌, ◌≤◌, Bool, true, false, List, [], ◌∷◌, ◌++◌, map, length, Option, Some, None, refl, sym, ap, ◌∙◌, subst, arith}
use Rattle.std.proofs.lemmas.List.{length-map}
use Rattle.std.specs.Prelude.{nat_eq, if◌then◌else◌, slice_get}
use Rattle.base16.specs.Board.{first_stack_pointer}
use Rattle.base16.specs.Placement.{frame_below, place, placed_from, or_else_none}
use Rattle.c_meaning.specs.After.{initial_cells, initial_objects, start, objects_of}
use Rattle.c_meaning.specs.Stamps.{slots_of}
use Rattle.c_run.specs.Actions.{kept, top_from, top_of, with_call, left_call}
use Rattle.c_run.specs.Lists.{without_last}
use Rattle.c_run.specs.Making.{fresh_cell, fresh_objects}
use Rattle.c_values.specs.Objects.{put_cell, put_object, with_scalar, cleared_cell, clear_object, with_cleared}
use Rattle.c_values.specs.declared.state.Call.{Call}
use Rattle.c_values.specs.declared.state.Object.{Object}
use Rattle.c_values.specs.declared.state.Saved.{Saved}
use Rattle.c_values.specs.declared.state.State.{State}
use Rattle.c_values.specs.declared.value.Cell.{Cell as Scalar}
use Rattle.c_values.specs.declared.value.Value.{Value}
use Rattle.core_tree.specs.Heights.{frame_bytes}
use Rattle.core_tree.specs.declared.program.Core.{Core}
use Rattle.core_tree.specs.declared.program.Function.{Function}
use Rattle.core_tree.specs.declared.program.Global.{Global}
use Rattle.core_tree.specs.declared.program.Initial.{Initial}
use Rattle.core_tree.specs.declared.types.Slot.{Slot}
use Rattle.core_tree.specs.declared.types.Struct.{Struct}
use Rattle.matching.specs.Laid.{slot_of, AreMade, CallsAreMade, bytes_by, bytes_of, IsMade}

-- ---- the start

pub first_slots : (ss : List Slot) (is : List Initial) → map slot_of (initial_cells ss is) ≡ ss
first_slots [] is = refl
first_slots (s ∷ ss) [] = ap (λ (xs : List Slot). s ∷ xs) (first_slots ss [])
first_slots (s ∷ ss) (i ∷ is) = ap (λ (xs : List Slot). s ∷ xs) (first_slots ss is)

first_objects : (structs : List Struct) (n : ℕ) (gs : List Global) → AreMade n (map (slots_of structs) gs)
    (initial_objects structs n gs)
first_objects structs n [] = tt
first_objects structs n (g ∷ gs) = (refl, first_slots (slots_of structs g) g.init, first_objects structs (n + 1) gs)

pub start_made : (core : Core) → IsMade core (length core.globals) (kept (start core))
unfolding start
start_made core = record { globals = first_objects core.structs 0 core.globals; calls = omega arith; frames = refl }

-- ---- what leaves numbers and scalars as they are

module _ (f : Object → Object) (number : (o : Object) → (f o).number ≡ o.number)
    (slots : (o : Object) → map slot_of (f o).cells ≡ map slot_of o.cells) where
  abbrev changed : Call → Call
  changed c = record c { locals = map f c.locals }

  objects_stay : (first : ℕ) (xs : List (List Slot)) (os : List Object) → AreMade first xs os → AreMade first xs (map f os)
  objects_stay first [] [] h = tt
  objects_stay first [] (o ∷ os) h = absurd h
  objects_stay first (x ∷ xs) [] h = absurd h
  objects_stay first (x ∷ xs) (o ∷ os) h = (number o ∙ h.0, slots o ∙ h.1, objects_stay (first + 1) xs os h.2)

  calls_stay : (core : Core) (low next : ℕ) (cs : List Call) → CallsAreMade core low next cs
      → CallsAreMade core low next (map changed cs)
  calls_stay core low next [] h = h
  calls_stay core low next (c ∷ cs) h = (
    record {
      function = h.0.function;
      is = h.0.is;
      first = h.0.first;
      above = h.0.above;
      objects = objects_stay h.0.first
          (objects_of core.structs h.0.function) c.locals h.0.objects;
    },
    subst (λ (n : ℕ). CallsAreMade core (h.0.first + n) next (map changed cs)) (sym (length-map c.locals f))
        (calls_stay core (h.0.first + length c.locals) next cs h.1),
  )

  same_bytes : (core : Core) (cs : List Call) → map (bytes_of core) (map changed cs) ≡ map (bytes_of core) cs
  same_bytes core [] = refl
  same_bytes core (c ∷ cs) = ap (λ (xs : List ℕ). bytes_of core c ∷ xs) (same_bytes core cs)

  same_frames : (cs : List Call) → map (λ (c : Call). c.frame) (map changed cs) ≡ map (λ (c : Call). c.frame) cs
  same_frames [] = refl
  same_frames (c ∷ cs) = ap (λ (xs : List ℕ). c.frame ∷ xs) (same_frames cs)

  changed_made : (core : Core) (next : ℕ) (s t : Saved) → t.globals ≡ map f s.globals → t.calls ≡ map changed s.calls
      → IsMade core next s → IsMade core next t
  changed_made core next s t globals calls h = record {
    globals = subst (λ (os : List Object). AreMade 0 (map (slots_of core.structs) core.globals) os) (sym globals)
        (objects_stay 0 (map (slots_of core.structs) core.globals) s.globals h.globals);
    calls = subst (λ (cs : List Call). CallsAreMade core (length core.globals) next cs) (sym calls)
        (calls_stay core (length core.globals) next s.calls h.calls);
    frames = subst (λ (cs : List Call). place (map (bytes_of core) cs) ≡ Some (map (λ (c : Call). c.frame) cs)) (sym calls)
        (ap place (same_bytes core s.calls) ∙ h.frames ∙ ap Some (sym (same_frames s.calls)));
  }

put_slots : (offset : ℕ) (v : Value) (cs : List Scalar) → map slot_of (map (put_cell offset v) cs) ≡ map slot_of cs
put_slots offset v [] = refl
put_slots offset v (c ∷ cs) = from (nat_eq c.offset offset) ∙ ap (λ (xs : List Slot). slot_of c ∷ xs) (put_slots offset v cs)
  where
    from : (t : Bool) → slot_of (if t then record c { value = v } else c) ∷ map slot_of (map (put_cell offset v) cs)
        ≡ slot_of c ∷ map slot_of (map (put_cell offset v) cs)
    from true = refl
    from false = refl

put_keeps : (n offset : ℕ) (v : Value) (o : Object) → map slot_of (put_object n offset v o).cells ≡ map slot_of o.cells
put_keeps n offset v o = from (nat_eq o.number n)
  where
    from : (t : Bool) → map slot_of (if t then record o { cells = map (put_cell offset v) o.cells } else o).cells ≡ map
        slot_of o.cells
    from true = put_slots offset v o.cells
    from false = refl

put_number : (n offset : ℕ) (v : Value) (o : Object) → (put_object n offset v o).number ≡ o.number
put_number n offset v o = from (nat_eq o.number n)
  where
    from : (t : Bool) → (if t then record o { cells = map (put_cell offset v) o.cells } else o).number ≡ o.number
    from true = refl
    from false = refl

-- a store
pub stored_made : (core : Core) (next : ℕ) (s : State) (n offset : ℕ) (v : Value) → IsMade core next (kept s)
    → IsMade core next (kept (with_scalar n offset v s))
unfolding with_scalar
stored_made core next s n offset v h =
    changed_made (put_object n offset v) (put_number n offset v) (put_keeps n offset v) core next (kept s)
    (kept (with_scalar n offset v s)) refl refl h

clear_slots : (cs : List Scalar) → map slot_of (map cleared_cell cs) ≡ map slot_of cs
clear_slots [] = refl
clear_slots (c ∷ cs) = ap (λ (xs : List Slot). slot_of c ∷ xs) (clear_slots cs)

clear_keeps : (n : ℕ) (o : Object) → map slot_of (clear_object n o).cells ≡ map slot_of o.cells
clear_keeps n o = from (nat_eq o.number n)
  where
    from : (t : Bool) → map slot_of (if t then record o { cells = map cleared_cell o.cells } else o).cells ≡ map slot_of o.cells
    from true = clear_slots o.cells
    from false = refl

clear_number : (n : ℕ) (o : Object) → (clear_object n o).number ≡ o.number
clear_number n o = from (nat_eq o.number n)
  where
    from : (t : Bool) → (if t then record o { cells = map cleared_cell o.cells } else o).number ≡ o.number
    from true = refl
    from false = refl

-- a declaration that is reached
pub cleared_made : (core : Core) (next : ℕ) (s : State) (n : ℕ) → IsMade core next (kept s)
    → IsMade core next (kept (with_cleared n s))
unfolding with_cleared
cleared_made core next s n h =
    changed_made (clear_object n) (clear_number n) (clear_keeps n) core next (kept s) (kept (with_cleared n s)) refl refl h

-- ---- a call

map_push : {A B : Type 0} (f : A → B) (xs : List A) (x : A) → map f (xs ++ x ∷ []) ≡ map f xs ++ f x ∷ []
map_push f [] x = refl
map_push f (y ∷ ys) x = ap (λ zs. f y ∷ zs) (map_push f ys x)

fresh_slots : (slots : List Slot) → map slot_of (map fresh_cell slots) ≡ slots
fresh_slots [] = refl
fresh_slots (s ∷ ss) = ap (λ (xs : List Slot). s ∷ xs) (fresh_slots ss)

fresh_made : (first : ℕ) (xs : List (List Slot)) → AreMade first xs (fresh_objects first xs)
fresh_made first [] = tt
fresh_made first (x ∷ xs) = (refl, fresh_slots x, fresh_made (first + 1) xs)

fresh_length : (first : ℕ) (xs : List (List Slot)) → length (fresh_objects first xs) ≡ length xs
fresh_length first [] = refl
fresh_length first (x ∷ xs) = ap suc (fresh_length (first + 1) xs)

calls_push : (core : Core) (low next : ℕ) (cs : List Call) (c : Call) (f : Function) → slice_get core.functions c.function ≡
    Some f
    → c.locals ≡ fresh_objects next (objects_of core.structs f) → CallsAreMade core low next cs
    → CallsAreMade core low (next + length (objects_of core.structs f)) (cs ++ c ∷ [])
calls_push core low next [] c f is locals h =
    let long : length c.locals ≡ length (objects_of core.structs f) = ap length locals ∙ fresh_length next
    (objects_of core.structs f) in (
      record {
        function = f;
        is = is;
        first = next;
        above = h;
        objects = subst
            (λ (os : List Object). AreMade next (objects_of core.structs f) os) (sym locals)
            (fresh_made next (objects_of core.structs f));
      },
      omega arith,
    )
calls_push core low next (d ∷ cs) c f is locals h =
    (h.0, calls_push core (h.0.first + length d.locals) next cs c f is locals h.1)

-- the first of more frames has a place, and so do those after it
pub record Split (sp x : ℕ) (xs ys : List ℕ) : Type 0 where
  pub at : ℕ
  pub rest : List ℕ
  pub first : frame_below sp x ≡ Some at
  pub others : placed_from at xs ≡ Some rest
  pub all : ys ≡ at ∷ rest

pub split : (sp x : ℕ) (xs ys : List ℕ) → placed_from sp (x ∷ xs) ≡ Some ys → Split sp x xs ys
split sp x xs ys e = by (frame_below sp x) refl e
  where
    behind : (at : ℕ) (p : Option (List ℕ)) → frame_below sp x ≡ Some at → placed_from at xs ≡ p
        → or_else_none p (λ rest. Some (at ∷ rest)) ≡ Some ys → Split sp x xs ys
    behind at None first others h = absurd (cc)
    behind at (Some rest) first others h = record { at = at; rest = rest; first = first; others = others; all = cc }

    by : (o : Option ℕ) → frame_below sp x ≡ o
        → or_else_none o (λ at. or_else_none (placed_from at xs) (λ rest. Some (at ∷ rest))) ≡ Some ys → Split sp x xs ys
    by None first h = absurd (cc)
    by (Some at) first h = behind at (placed_from at xs) first refl h

placed_cons : (sp x at : ℕ) (xs rest : List ℕ) → frame_below sp x ≡ Some at → placed_from at xs ≡ Some rest
    → placed_from sp (x ∷ xs) ≡ Some (at ∷ rest)
placed_cons sp x at xs rest first others =
    ap (λ o. or_else_none o (λ a. or_else_none (placed_from a xs) (λ r. Some (a ∷ r)))) first
    ∙ ap (λ p. or_else_none p (λ r. Some (at ∷ r))) others

top_behind : ℕ → List ℕ → ℕ
top_behind sp [] = sp
top_behind sp (x ∷ xs) = top_behind x xs

placed_push : (sp : ℕ) (xs ys : List ℕ) (x at : ℕ) → placed_from sp xs ≡ Some ys → frame_below (top_behind sp ys) x ≡ Some at
    → placed_from sp (xs ++ x ∷ []) ≡ Some (ys ++ at ∷ [])
unfolding top_behind
placed_push sp [] ys x at e below =
    let none : ys ≡ [] = cc in
    let first : frame_below sp x ≡ Some at = subst (λ zs. frame_below (top_behind sp zs) x ≡ Some at) none below in
    placed_cons sp x at [] [] first refl ∙ ap (λ zs. Some (zs ++ at ∷ [])) (sym none)
placed_push sp (z ∷ xs) ys x at e below =
    let s = split sp z xs ys e in
    let next : frame_below (top_behind s.at s.rest) x ≡ Some at = subst (λ zs. frame_below (top_behind sp zs) x ≡ Some at)
    s.all below in
    placed_cons sp z s.at (xs ++ x ∷ []) (s.rest ++ at ∷ []) s.first (placed_push s.at xs s.rest x at s.others next)
    ∙ ap (λ zs. Some (zs ++ at ∷ [])) (sym s.all)

top_is : (sp : ℕ) (cs : List Call) → top_behind sp (map (λ (c : Call). c.frame) cs) ≡ top_from sp cs
unfolding top_behind
top_is sp [] = refl
top_is sp (c ∷ cs) = top_is c.frame cs

-- a function is entered
pub entered_made : (core : Core) (next : ℕ) (s : State) (function frame : ℕ) (f : Function)
    → slice_get core.functions function ≡ Some f
    → frame_below (top_of s) (frame_bytes core.structs f) ≡ Some frame → IsMade core next (kept s)
    → IsMade core (next + length (objects_of core.structs f))
    (kept (with_call (record { function = function; frame = frame; locals = fresh_objects next (objects_of core.structs f) }) s))
entered_made core next s function frame f is below h =
    let c : Call = record { function = function; frame = frame; locals = fresh_objects next (objects_of core.structs f) } in
    let bytes : bytes_of core c ≡ frame_bytes core.structs f = ap (bytes_by core.structs) is in
    let first : frame_below (top_behind first_stack_pointer (map (λ (c : Call). c.frame) s.calls)) (bytes_of core c) ≡ Some
    frame =
    ap (λ (n : ℕ). frame_below n (bytes_of core c)) (top_is first_stack_pointer s.calls)
    ∙ ap (frame_below (top_of s)) bytes ∙ below in
    record {
      globals = h.globals;
      calls = calls_push core (length core.globals) next s.calls c f is refl h.calls;
      frames = ap place (map_push (bytes_of core) s.calls c)
          ∙ placed_push first_stack_pointer (map (bytes_of core) s.calls) (map (λ (c : Call). c.frame) s.calls)
          (bytes_of core c) frame h.frames first
          ∙ ap Some (sym (map_push (λ (c : Call). c.frame) s.calls c));
    }

-- ---- its end

calls_low : (core : Core) (low next : ℕ) (cs : List Call) → CallsAreMade core low next cs → low ≤ next
calls_low core low next [] h = h
calls_low core low next (c ∷ cs) h =
    let up = calls_low core (h.0.first + length c.locals) next cs h.1 in let above = h.0.above in omega arith

calls_pop : (core : Core) (low next : ℕ) (cs : List Call) → CallsAreMade core low next cs
    → CallsAreMade core low next (without_last cs)
calls_pop core low next [] h = h
calls_pop core low next (c ∷ []) h = calls_low core low next (c ∷ []) h
calls_pop core low next (c ∷ (d ∷ cs)) h = (h.0, calls_pop core (h.0.first + length c.locals) next (d ∷ cs) h.1)

map_pop : {A B : Type 0} (f : A → B) (xs : List A) → map f (without_last xs) ≡ without_last (map f xs)
map_pop f [] = refl
map_pop f (x ∷ []) = refl
map_pop f (x ∷ (y ∷ ys)) = ap (λ zs. f x ∷ zs) (map_pop f (y ∷ ys))

placed_pop : (sp : ℕ) (xs ys : List ℕ) → placed_from sp xs ≡ Some ys → placed_from sp (without_last xs) ≡ Some (without_last ys)
placed_pop sp [] ys e = let none : ys ≡ [] = cc in ap (λ zs. Some (without_last zs)) (sym none)
placed_pop sp (x ∷ []) ys e =
    let s = split sp x [] ys e in
    let others : Some [] ≡ Some s.rest = s.others in
    let none : s.rest ≡ [] = cc others in
    ap (λ zs. Some (without_last zs)) (sym (s.all ∙ ap (λ zs. s.at ∷ zs) none))
placed_pop sp (x ∷ (y ∷ xs)) ys e =
    let s = split sp x (y ∷ xs) ys e in
    let t = split s.at y xs s.rest s.others in
    let rest = placed_pop s.at (y ∷ xs) s.rest s.others in
    let last : without_last ys ≡ s.at ∷ without_last s.rest =
    ap without_last s.all ∙ ap (λ zs. without_last (s.at ∷ zs)) t.all ∙ ap (λ zs. s.at ∷ without_last zs) (sym t.all) in
    placed_cons sp x s.at (without_last (y ∷ xs)) (without_last s.rest) s.first rest ∙ ap Some (sym last)

-- the youngest call is over
pub left_made : (core : Core) (next : ℕ) (s : State) → IsMade core next (kept s) → IsMade core next (kept (left_call s))
left_made core next s h = record {
  globals = h.globals;
  calls = calls_pop core (length core.globals) next s.calls h.calls;
  frames = ap place (map_pop (bytes_of core) s.calls)
      ∙ placed_pop first_stack_pointer (map (bytes_of core) s.calls) (map (λ (c : Call). c.frame) s.calls) h.frames
      ∙ ap Some (sym (map_pop (λ (c : Call). c.frame) s.calls));
}

-- ---- objects that came to life besides

calls_later : (core : Core) (low next later : ℕ) (cs : List Call) → next ≤ later → CallsAreMade core low next cs
    → CallsAreMade core low later cs
calls_later core low next later [] l h = omega arith
calls_later core low next later (c ∷ cs) l h = (h.0, calls_later core (h.0.first + length c.locals) next later cs l h.1)

pub later_made : (core : Core) (next later : ℕ) (s : Saved) → next ≤ later → IsMade core next s → IsMade core later s
later_made core next later s l h = record {
  globals = h.globals;
  calls = calls_later core (length core.globals) next later s.calls l h.calls;
  frames = h.frames;
}
