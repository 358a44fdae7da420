-- A store changes one scalar: the value is there then, and all other scalars and objects stay.
use Rattle.std.proofs.Common.{◌≡◌, ℕ, Bool, true, false, List, [], ◌∷◌, map, Option, Some, None, refl, arith, ap, subst, sym, ◌∙◌, inl, inr, ◌⊎◌}
use Rattle.std.proofs.lemmas.Bool.{ne_eqb, eq-eqb, cases_eq}
use Rattle.std.proofs.lemmas.Bool.Decides.{nat_tests}
use Rattle.std.specs.Prelude.{Result, Ok, Err}
use Rattle.base16.specs.declared.image.Kind.{Kind}
use Rattle.c_values.specs.declared.value.Cell.{Cell}
use Rattle.c_values.specs.declared.value.Value.{Value}
use Rattle.c_values.specs.declared.state.Object.{Object}
use Rattle.c_values.specs.declared.state.Call.{Call}
use Rattle.c_values.specs.declared.state.State.{State}
use Rattle.c_values.specs.Objects.{find_object, find_local, or_else, object_of, find_cell, put_cell, put_object, put_call, with_scalar, accessed, value_of, value_in, same_kind}

abbrev pub over : {A B : Type 0} → (A → B) → Option A → Option B
over f None = None
over f (Some a) = Some (f a)

-- ---- objects

put_number : (n offset : ℕ) (v : Value) (o : Object) → (put_object n offset v o).number ≡ o.number
put_number n offset v o = grind (arith, nat_tests)

put_stays : (n offset : ℕ) (v : Value) (o : Object) → (o.number ≡ n → ⊥) → put_object n offset v o ≡ o
put_stays n offset v o h = grind (arith, nat_tests)

find_other : (n m offset : ℕ) (v : Value) (os : List Object) → (n ≡ m → ⊥) → find_object m (map (put_object n offset v) os) ≡ find_object m os
find_other n m offset v [] h = refl
find_other n m offset v (o ∷ os) h = by_case (find_other n m offset v os h) (cases_eq o.number m)
  where
    by_case : find_object m (map (put_object n offset v) os) ≡ find_object m os → ((o.number ≡ m) ⊎ (o.number ≡ m → ⊥)) → find_object m (map (put_object n offset v) (o ∷ os)) ≡ find_object m (o ∷ os)
    by_case rest (inl e) = rw (put_stays n offset v o (λ f. h (sym f ∙ e)), eq-eqb o.number m e) refl
    by_case rest (inr d) = rw (put_number n offset v o, ne_eqb o.number m d) rest

find_here : (n : ℕ) (o : Object) (os : List Object) → o.number ≡ n → find_object n (o ∷ os) ≡ Some o
find_here n o os e = rw (eq-eqb o.number n e) refl

find_next : (n : ℕ) (o : Object) (os : List Object) → (o.number ≡ n → ⊥) → find_object n (o ∷ os) ≡ find_object n os
find_next n o os d = rw (ne_eqb o.number n d) refl

find_same : (n offset : ℕ) (v : Value) (os : List Object) → find_object n (map (put_object n offset v) os) ≡ over (put_object n offset v) (find_object n os)
find_same n offset v [] = refl
find_same n offset v (o ∷ os) = by_case (find_same n offset v os) (cases_eq o.number n)
  where
    by_case : find_object n (map (put_object n offset v) os) ≡ over (put_object n offset v) (find_object n os) → ((o.number ≡ n) ⊎ (o.number ≡ n → ⊥)) → find_object n (map (put_object n offset v) (o ∷ os)) ≡ over (put_object n offset v) (find_object n (o ∷ os))
    by_case rest (inl e) =
        find_here n (put_object n offset v o) (map (put_object n offset v) os) (put_number n offset v o ∙ e)
        ∙ sym (ap (λ x. over (put_object n offset v) x) (find_here n o os e))
    by_case rest (inr d) =
        find_next n (put_object n offset v o) (map (put_object n offset v) os) (λ e. d (sym (put_number n offset v o) ∙ e))
        ∙ (rest ∙ sym (ap (λ x. over (put_object n offset v) x) (find_next n o os d)))

local_other : (n m offset : ℕ) (v : Value) (cs : List Call) → (n ≡ m → ⊥) → find_local m (map (put_call n offset v) cs) ≡ find_local m cs
local_other n m offset v [] h = refl
local_other n m offset v (c ∷ cs) h =
    ap (λ o. or_else o (find_local m (map (put_call n offset v) cs))) (find_other n m offset v c.locals h)
    ∙ ap (λ o. or_else (find_object m c.locals) o) (local_other n m offset v cs h)

or_over : {A B : Type 0} (f : A → B) (a b : Option A) → or_else (over f a) (over f b) ≡ over f (or_else a b)
or_over f None b = refl
or_over f (Some a) b = refl

local_same : (n offset : ℕ) (v : Value) (cs : List Call) → find_local n (map (put_call n offset v) cs) ≡ over (put_object n offset v) (find_local n cs)
local_same n offset v [] = refl
local_same n offset v (c ∷ cs) =
    ap (λ o. or_else o (find_local n (map (put_call n offset v) cs))) (find_same n offset v c.locals)
    ∙ (ap (λ o. or_else (over (put_object n offset v) (find_object n c.locals)) o) (local_same n offset v cs)
    ∙ or_over (put_object n offset v) (find_object n c.locals) (find_local n cs))

-- another object stays
pub object_put_other : (n m offset : ℕ) (v : Value) (s : State) → (n ≡ m → ⊥) → object_of (with_scalar n offset v s) m ≡ object_of s m
unfolding object_of with_scalar
object_put_other n m offset v s h =
    ap (λ o. or_else o (find_local m (map (put_call n offset v) s.calls))) (find_other n m offset v s.globals h)
    ∙ ap (λ o. or_else (find_object m s.globals) o) (local_other n m offset v s.calls h)

-- the object of the number has its scalar set
pub object_put_same : (n offset : ℕ) (v : Value) (s : State) → object_of (with_scalar n offset v s) n ≡ over (put_object n offset v) (object_of s n)
unfolding object_of with_scalar
object_put_same n offset v s =
    ap (λ o. or_else o (find_local n (map (put_call n offset v) s.calls))) (find_same n offset v s.globals)
    ∙ (ap (λ o. or_else (over (put_object n offset v) (find_object n s.globals)) o) (local_same n offset v s.calls)
    ∙ or_over (put_object n offset v) (find_object n s.globals) (find_local n s.calls))

-- ---- scalars

pub cell_put_other : (offset at : ℕ) (v : Value) (cs : List Cell) → (offset ≡ at → ⊥) → find_cell at (map (put_cell offset v) cs) ≡ find_cell at cs
cell_put_other offset at v [] h = refl
cell_put_other offset at v (c ∷ cs) h = grind (arith, nat_tests, cell_put_other offset at v cs)

pub cell_put_same : (offset : ℕ) (v : Value) (cs : List Cell) → find_cell offset (map (put_cell offset v) cs) ≡ over (put_cell offset v) (find_cell offset cs)
cell_put_same offset v [] = refl
cell_put_same offset v (c ∷ cs) = grind (arith, nat_tests, cell_put_same offset v cs)

-- the kind of a scalar stays
put_kind : (offset : ℕ) (v : Value) (c : Cell) → (put_cell offset v c).kind ≡ c.kind
put_kind offset v c = grind (arith, nat_tests)

put_same : (offset : ℕ) (v : Value) (c : Cell) → c.offset ≡ offset → (put_cell offset v c).value ≡ v
put_same offset v c e = grind (arith, nat_tests)

found_offset : (offset : ℕ) (cs : List Cell) (c : Cell) → find_cell offset cs ≡ Some c → c.offset ≡ offset
found_offset offset [] c e = cc
found_offset offset (d ∷ cs) c e = by_case (found_offset offset cs c) (cases_eq d.offset offset)
  where
    by_case : (find_cell offset cs ≡ Some c → c.offset ≡ offset) → ((d.offset ≡ offset) ⊎ (d.offset ≡ offset → ⊥)) → c.offset ≡ offset
    by_case rest (inl is) =
        let here : Some d ≡ Some c = (rw (eq-eqb d.offset offset is) at e) in
        let same : d ≡ c = cc here in
        ap (λ (x : Cell). x.offset) (sym same) ∙ is
    by_case rest (inr other) = rest (rw (ne_eqb d.offset offset other) at e)

found_number : (n : ℕ) (os : List Object) (o : Object) → find_object n os ≡ Some o → o.number ≡ n
found_number n [] o e = cc
found_number n (d ∷ os) o e = by_case (found_number n os o) (cases_eq d.number n)
  where
    by_case : (find_object n os ≡ Some o → o.number ≡ n) → ((d.number ≡ n) ⊎ (d.number ≡ n → ⊥)) → o.number ≡ n
    by_case rest (inl is) =
        let same : d ≡ o = cc (sym (find_here n d os is) ∙ e) in
        ap (λ (x : Object). x.number) (sym same) ∙ is
    by_case rest (inr other) = rest (sym (find_next n d os other) ∙ e)

or_number : (n : ℕ) (a b : Option Object) (o : Object) → ((p : Object) → a ≡ Some p → p.number ≡ n) → ((p : Object) → b ≡ Some p → p.number ≡ n)
    → or_else a b ≡ Some o → o.number ≡ n
or_number n None b o one other e = other o e
or_number n (Some p) b o one other e = one o e

local_number : (n : ℕ) (cs : List Call) (o : Object) → find_local n cs ≡ Some o → o.number ≡ n
local_number n [] o e = cc
local_number n (c ∷ cs) o e = or_number n (find_object n c.locals) (find_local n cs) o (found_number n c.locals) (local_number n cs) e

-- the object of a number has that number
pub object_number : (s : State) (n : ℕ) (o : Object) → object_of s n ≡ Some o → o.number ≡ n
unfolding object_of
object_number s n o e = or_number n (find_object n s.globals) (find_local n s.calls) o (found_number n s.globals) (local_number n s.calls) e

-- ---- accesses

cells_other : (n offset at : ℕ) (v : Value) (o : Object) → (offset ≡ at → ⊥) → find_cell at (put_object n offset v o).cells ≡ find_cell at o.cells
cells_other n offset at v o h = by_case (cases_eq o.number n)
  where
    by_case : ((o.number ≡ n) ⊎ (o.number ≡ n → ⊥)) → find_cell at (put_object n offset v o).cells ≡ find_cell at o.cells
    by_case (inl e) = rw (eq-eqb o.number n e) (cell_put_other offset at v o.cells h)
    by_case (inr d) = rw (ne_eqb o.number n d) refl

value_other : (n offset at : ℕ) (v : Value) (k : Kind) (x : Option Object) → (offset ≡ at → ⊥)
    → value_of at k (over (put_object n offset v) x) ≡ value_of at k x
value_other n offset at v k None h = refl
value_other n offset at v k (Some o) h = ap (λ c. value_in k c) (cells_other n offset at v o h)

-- what is read of another scalar stays
pub accessed_put_other : (n offset m at : ℕ) (k : Kind) (v : Value) (s : State) → ((n ≡ m) → (offset ≡ at) → ⊥)
    → accessed (with_scalar n offset v s) (record { object = Some m; offset = at }) k ≡ accessed s (record { object = Some m; offset = at }) k
unfolding accessed
accessed_put_other n offset m at k v s h = by_case (cases_eq n m)
  where
    by_case : ((n ≡ m) ⊎ (n ≡ m → ⊥)) → value_of at k (object_of (with_scalar n offset v s) m) ≡ value_of at k (object_of s m)
    by_case (inl e) =
        subst (λ (z : ℕ). value_of at k (object_of (with_scalar n offset v s) z) ≡ value_of at k (object_of s z)) e
        (ap (λ x. value_of at k x) (object_put_same n offset v s) ∙ value_other n offset at v k (object_of s n) (h e))
    by_case (inr d) = ap (λ x. value_of at k x) (object_put_other n m offset v s d)

cells_same : (n offset : ℕ) (v : Value) (o : Object) → o.number ≡ n
    → find_cell offset (put_object n offset v o).cells ≡ over (put_cell offset v) (find_cell offset o.cells)
cells_same n offset v o e = rw (eq-eqb o.number n e) (cell_put_same offset v o.cells)

clash : (r : Result Value ℕ) (w : Value) → r ≡ Err 5 → r ≡ Ok w → ⊥
clash r w e h = cc

same_kinds : (k : Kind) (c d : Cell) (v w : Value) → d.kind ≡ c.kind → d.value ≡ v → value_in k (Some c) ≡ Ok w → value_in k (Some d) ≡ Ok v
same_kinds k c d v w e is h = by_case (same_kind c.kind k) refl
  where
    by_case : (b : Bool) → same_kind c.kind k ≡ b → value_in k (Some d) ≡ Ok v
    by_case true t = rw (e, t, is) refl
    by_case false t = absurd (clash (value_in k (Some c)) w (rw t refl) h)

cell_same : (k : Kind) (offset : ℕ) (v w : Value) (x : Option Cell) → ((c : Cell) → x ≡ Some c → c.offset ≡ offset)
    → value_in k x ≡ Ok w → value_in k (over (put_cell offset v) x) ≡ Ok v
cell_same k offset v w None at h = cc
cell_same k offset v w (Some c) at h = same_kinds k c (put_cell offset v c) v w (put_kind offset v c) (put_same offset v c (at c refl)) h

value_same : (n offset : ℕ) (k : Kind) (v w : Value) (x : Option Object) → ((o : Object) → x ≡ Some o → o.number ≡ n)
    → value_of offset k x ≡ Ok w → value_of offset k (over (put_object n offset v) x) ≡ Ok v
value_same n offset k v w None at h = cc
value_same n offset k v w (Some o) at h =
    ap (λ c. value_in k c) (cells_same n offset v o (at o refl)) ∙ cell_same k offset v w (find_cell offset o.cells) (found_offset offset o.cells) h

-- what is read where it was stored is the value that was stored
pub accessed_put_same : (n offset : ℕ) (k : Kind) (v w : Value) (s : State) → accessed s (record { object = Some n; offset = offset }) k ≡ Ok w
    → accessed (with_scalar n offset v s) (record { object = Some n; offset = offset }) k ≡ Ok v
unfolding accessed
accessed_put_same n offset k v w s h =
    ap (λ x. value_of offset k x) (object_put_same n offset v s) ∙ value_same n offset k v w (object_of s n) (object_number s n) h
