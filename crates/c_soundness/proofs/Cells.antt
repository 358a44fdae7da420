-- Scalars that are found have values of their kinds, and states stand where scalars are set, cleared or made.
use Rattle.std.proofs.Common.{◌≡◌, ℕ, Bool, true, false, cond, List, [], ◌∷◌, ◌++◌, map, Option, Some, None, refl, sym, ap, subst, ◌∙◌}
use Rattle.std.proofs.lemmas.Bool.{eqb-true}
use Rattle.std.specs.Prelude.{Ok, Err, nat_eq}
use Rattle.base16.specs.declared.image.Kind.{Kind}
use Rattle.base16.specs.declared.image.Kind.TheVariants as kind
use Rattle.core_tree.specs.LawfulCore.{Every}
use Rattle.c_values.specs.declared.value.Value.{Value}
use Rattle.c_values.specs.declared.value.Value.TheVariants.{Undefined}
use Rattle.c_values.specs.declared.value.Cell.{Cell}
use Rattle.c_values.specs.declared.state.Object.{Object}
use Rattle.c_values.specs.declared.state.Call.{Call}
use Rattle.c_values.specs.declared.state.State.{State}
use Rattle.c_values.specs.Objects.{same_kind, find_object, find_local, or_else, object_of, find_cell, put_cell, put_object, put_call, with_scalar, cleared_cell, clear_object, clear_call, with_cleared, value_in, value_of, kind_in, kind_of_object, kind_at}
use Rattle.c_run.specs.Lists.{without_last}
use Rattle.c_soundness.specs.Shapes.{MayStand, holds_pointer}
use Rattle.c_soundness.specs.Standing.{Kinds, CellStands, ObjectStands, CallStands, StateStands}
use Rattle.c_soundness.proofs.Triples.{Granted}

pub missing_stands : (p : Bool) → MayStand p Undefined
missing_stands true = tt
missing_stands false = tt

-- ---- lists

pub every_map : {A B : Type 0} (P : A → Type 0) (Q : B → Type 0) (f : A → B) → ((a : A) → P a → Q (f a)) → (xs : List A)
    → Every P xs
    → Every Q (map f xs)
every_map P Q f h [] all = tt
every_map P Q f h (x ∷ xs) all = (h x all.0, every_map P Q f h xs all.1)

pub every_weak : {A : Type 0} (P Q : A → Type 0) → ((a : A) → P a → Q a) → (xs : List A) → Every P xs → Every Q xs
every_weak P Q h [] all = tt
every_weak P Q h (x ∷ xs) all = (h x all.0, every_weak P Q h xs all.1)

pub every_more : {A : Type 0} (P : A → Type 0) (xs ys : List A) → Every P xs → Every P ys → Every P (xs ++ ys)
every_more P [] ys all more = more
every_more P (x ∷ xs) ys all more = (all.0, every_more P xs ys all.1 more)

pub every_but_last : {A : Type 0} (P : A → Type 0) (xs : List A) → Every P xs → Every P (without_last xs)
every_but_last P [] all = tt
every_but_last P (x ∷ []) all = tt
every_but_last P (x ∷ (y ∷ ys)) all = (all.0, every_but_last P (y ∷ ys) all.1)

-- ---- what is found

same_pointer : (a b : Kind) → same_kind a b ≡ true → holds_pointer a ≡ holds_pointer b
same_pointer kind.Char kind.Char e = refl
same_pointer kind.Int kind.Int e = refl
same_pointer kind.UInt kind.UInt e = refl
same_pointer kind.Pointer kind.Pointer e = refl
same_pointer kind.Char kind.Int e = refl
same_pointer kind.Char kind.UInt e = refl
same_pointer kind.Int kind.Char e = refl
same_pointer kind.Int kind.UInt e = refl
same_pointer kind.UInt kind.Char e = refl
same_pointer kind.UInt kind.Int e = refl
same_pointer kind.Char kind.Pointer e = cc
same_pointer kind.Int kind.Pointer e = cc
same_pointer kind.UInt kind.Pointer e = cc
same_pointer kind.Pointer kind.Char e = cc
same_pointer kind.Pointer kind.Int e = cc
same_pointer kind.Pointer kind.UInt e = cc

module _ (kinds : Kinds) (next n offset : ℕ) where
  -- a value that an access finds is one of its kind, which is that of its place
  abbrev pub Found : Kind → Value → Type 0
  Found k v = MayStand (holds_pointer k) v × (kinds n offset ≡ holds_pointer k)

  abbrev CellOk : Option Cell → Type 0
  CellOk None = Unit {0}
  CellOk (Some c) = (holds_pointer c.kind ≡ kinds n offset) × MayStand (kinds n offset) c.value

  cell_if : (b : Bool) (c : Cell) (o : Option Cell) → nat_eq c.offset offset ≡ b → CellStands kinds n c → CellOk o
      → CellOk (cond b (Some c) o)
  cell_if true c o e h i =
      let at : c.offset ≡ offset = eqb-true _ _ e in
      (h.kind ∙ ap (λ (x : ℕ). kinds n x) at, subst (λ (x : ℕ). MayStand (kinds n x) c.value) at h.value)
  cell_if false c o e h i = i

  in_cells : (cs : List Cell) → Every (CellStands kinds n) cs → CellOk (find_cell offset cs)
  in_cells [] h = tt
  in_cells (c ∷ cs) h = cell_if (nat_eq c.offset offset) c (find_cell offset cs) refl h.0 (in_cells cs h.1)

  abbrev ObjectOk : Option Object → Type 0
  ObjectOk None = Unit {0}
  ObjectOk (Some o) = Every (CellStands kinds n) o.cells

  object_if : (b : Bool) (x : Object) (o : Option Object) → nat_eq x.number n ≡ b → ObjectStands kinds next x → ObjectOk o
      → ObjectOk (cond b (Some x) o)
  object_if true x o e h i = subst (λ (y : ℕ). Every (CellStands kinds y) x.cells) (eqb-true _ _ e) h.cells
  object_if false x o e h i = i

  object_or : (o other : Option Object) → ObjectOk o → ObjectOk other → ObjectOk (or_else o other)
  object_or None other h i = i
  object_or (Some o) other h i = h

  in_objects : (os : List Object) → Every (ObjectStands kinds next) os → ObjectOk (find_object n os)
  in_objects [] h = tt
  in_objects (o ∷ os) h = object_if (nat_eq o.number n) o (find_object n os) refl h.0 (in_objects os h.1)

  in_calls : (cs : List Call) → Every (CallStands kinds next) cs → ObjectOk (find_local n cs)
  in_calls [] h = tt
  in_calls (c ∷ cs) h = object_or (find_object n c.locals) (find_local n cs) (in_objects c.locals h.0) (in_calls cs h.1)

  in_state : (s : State) → StateStands kinds next s → ObjectOk (object_of s n)
  unfolding object_of
  in_state s w = object_or (find_object n s.globals) (find_local n s.calls) (in_objects s.globals w.globals)
      (in_calls s.calls w.calls)

  value_if : (b : Bool) (c : Cell) (k : Kind) → same_kind c.kind k ≡ b → holds_pointer c.kind ≡ kinds n offset
      → MayStand (kinds n offset) c.value
      → Granted (Found k) (cond b (Ok c.value) (Err 5))
  value_if true c k e g h =
      let is : kinds n offset ≡ holds_pointer k = sym g ∙ same_pointer c.kind k e in
      (subst (λ (x : Bool). MayStand x c.value) is h, is)
  value_if false c k e g h = refl

  value_cell : (k : Kind) (o : Option Cell) → CellOk o → Granted (Found k) (value_in k o)
  value_cell k None h = refl
  value_cell k (Some c) h = value_if (same_kind c.kind k) c k refl h.0 h.1

  value_object : (k : Kind) (o : Option Object) → ObjectOk o → Granted (Found k) (value_of offset k o)
  value_object k None h = refl
  value_object k (Some o) h = value_cell k (find_cell offset o.cells) (in_cells o.cells h)

  pub found_value : (k : Kind) (s : State) → StateStands kinds next s → Granted (Found k) (value_of offset k (object_of s n))
  found_value k s w = value_object k (object_of s n) (in_state s w)

  kind_cell : (o : Option Cell) → CellOk o → Granted (λ (k : Kind). holds_pointer k ≡ kinds n offset) (kind_in o)
  kind_cell None h = refl
  kind_cell (Some c) h = h.0

  kind_object : (o : Option Object) → ObjectOk o → Granted (λ (k : Kind). holds_pointer k ≡ kinds n offset)
      (kind_of_object offset o)
  kind_object None h = refl
  kind_object (Some o) h = kind_cell (find_cell offset o.cells) (in_cells o.cells h)

  -- the kind that stands at a place
  pub found_kind : (s : State) → StateStands kinds next s → Granted (λ (k : Kind). holds_pointer k ≡ kinds n offset)
      (kind_at s n offset)
  unfolding kind_at
  found_kind s w = kind_object (object_of s n) (in_state s w)

  -- ---- a scalar is set

  module _ (v : Value) (fits : MayStand (kinds n offset) v) where
    set_if : (b : Bool) (c : Cell) → nat_eq c.offset offset ≡ b → CellStands kinds n c → CellStands kinds n
        (cond b (record c { value = v }) c)
    set_if true c e i = record { kind = i.kind; value = subst (λ (x : ℕ). MayStand (kinds n x) v) (sym (eqb-true _ _ e)) fits }
    set_if false c e i = i

    set_cell : (c : Cell) → CellStands kinds n c → CellStands kinds n (put_cell offset v c)
    set_cell c i = set_if (nat_eq c.offset offset) c refl i

    object_set_if : (b : Bool) (o : Object) → nat_eq o.number n ≡ b → ObjectStands kinds next o
        → ObjectStands kinds next (cond b (record o { cells = map (put_cell offset v) o.cells }) o)
    object_set_if true o e i =
        let at : o.number ≡ n = eqb-true _ _ e in
        let here : Every (CellStands kinds n) o.cells = subst (λ (x : ℕ). Every (CellStands kinds x) o.cells) at i.cells in
        record {
          made = i.made;
          cells = subst (λ (x : ℕ). Every (CellStands kinds x) (map (put_cell offset v) o.cells)) (sym at)
              (every_map (CellStands kinds n) (CellStands kinds n) (put_cell offset v) set_cell o.cells here);
        }
    object_set_if false o e i = i

    set_object : (o : Object) → ObjectStands kinds next o → ObjectStands kinds next (put_object n offset v o)
    set_object o i = object_set_if (nat_eq o.number n) o refl i

    set_call : (c : Call) → CallStands kinds next c → CallStands kinds next (put_call n offset v c)
    set_call c i = every_map (ObjectStands kinds next) (ObjectStands kinds next) (put_object n offset v) set_object c.locals i

    pub set_state : (s : State) → StateStands kinds next s → StateStands kinds next (with_scalar n offset v s)
    unfolding with_scalar
    set_state s w = record {
      globals = every_map (ObjectStands kinds next) (ObjectStands kinds next)
          (put_object n offset v) set_object s.globals w.globals;
      calls = every_map (CallStands kinds next) (CallStands kinds next) (put_call n offset v) set_call s.calls w.calls;
      saved = w.saved;
    }

-- ---- an object is cleared

module _ (kinds : Kinds) (next n : ℕ) where
  clear_cell : (at : ℕ) (c : Cell) → CellStands kinds at c → CellStands kinds at (cleared_cell c)
  clear_cell at c i = record { kind = i.kind; value = missing_stands (kinds at c.offset) }

  clear_if : (b : Bool) (o : Object) → ObjectStands kinds next o → ObjectStands kinds next
      (cond b (record o { cells = map cleared_cell o.cells }) o)
  clear_if true o i = record {
    made = i.made;
    cells = every_map (CellStands kinds o.number) (CellStands kinds o.number) cleared_cell (clear_cell o.number) o.cells i.cells;
  }
  clear_if false o i = i

  clear_one : (o : Object) → ObjectStands kinds next o → ObjectStands kinds next (clear_object n o)
  clear_one o i = clear_if (nat_eq o.number n) o i

  clear_in_call : (c : Call) → CallStands kinds next c → CallStands kinds next (clear_call n c)
  clear_in_call c i = every_map (ObjectStands kinds next) (ObjectStands kinds next) (clear_object n) clear_one c.locals i

  pub clear_state : (s : State) → StateStands kinds next s → StateStands kinds next (with_cleared n s)
  unfolding with_cleared
  clear_state s w = record {
    globals = every_map (ObjectStands kinds next) (ObjectStands kinds next) (clear_object n) clear_one s.globals w.globals;
    calls = every_map (CallStands kinds next) (CallStands kinds next) (clear_call n) clear_in_call s.calls w.calls;
    saved = w.saved;
  }
