-- What becomes of the objects of a run: one that came to life before and is found afterwards was found before too, with the same
-- end. So what is inside stays inside.
use Rattle.std.proofs.Common.{◌≡◌, ℕ, ◌+◌, ◌<◌, ◌≤◌, List, [], ◌∷◌, ◌++◌, length, map, Option, Some, None, Bool, true, false, refl, sym, ap, ◌∙◌, subst, arith, cond}
use Rattle.std.proofs.lemmas.Bool.{ne_eqb}
use Rattle.std.specs.Prelude.{nat_eq}
use Rattle.core_tree.specs.declared.types.Slot.{Slot}
use Rattle.core_tree.specs.LawfulCore.{Every}
use Rattle.c_values.specs.declared.state.Call.{Call}
use Rattle.c_values.specs.declared.state.Object.{Object}
use Rattle.c_values.specs.declared.state.State.{State}
use Rattle.c_values.specs.declared.value.Cell.{Cell}
use Rattle.c_values.specs.declared.value.Value.{Value}
use Rattle.c_values.specs.declared.value.Value.TheVariants.{Int, Pointer, Null, Undefined}
use Rattle.c_values.specs.Objects.{find_object, find_local, or_else, object_of, put_cell, put_object, put_call, with_scalar, cleared_cell, clear_object, clear_call, with_cleared}
use Rattle.c_values.specs.Pointers.{end_of}
use Rattle.c_values.proofs.Extents.{end_put, end_cleared}
use Rattle.c_values.proofs.Stores.{over}
use Rattle.c_run.specs.Actions.{put_at, with_call, left_call}
use Rattle.c_run.specs.Lists.{without_last}
use Rattle.c_run.specs.Making.{fresh_cell, fresh_objects}
use Rattle.c_run.specs.Runs.{Run}
use Rattle.ir.specs.declared.control.Frame.{Frame}
use Rattle.ir.specs.declared.control.Temporary.{Temporary}
use Rattle.ir.specs.declared.control.Temporary.TheVariants as temporary
use Rattle.ir.specs.Inside.{IsInside, IsKnown, IsInsideTemporary, AreInside, AreInsideFrames, IsInsideObject}

-- ---- lists

pub every_as : {A : Type 0} (P Q : A → Type 0) → ((a : A) → P a → Q a) → (xs : List A) → Every P xs → Every Q xs
every_as P Q h [] e = tt
every_as P Q h (x ∷ xs) e = (h x e.0, every_as P Q h xs e.1)

every_map : {A : Type 0} (P Q : A → Type 0) (f : A → A) → ((a : A) → P a → Q (f a)) → (xs : List A) → Every P xs
    → Every Q (map f xs)
every_map P Q f h [] e = tt
every_map P Q f h (x ∷ xs) e = (h x e.0, every_map P Q f h xs e.1)

every_and_last : {A : Type 0} (P : A → Type 0) (xs : List A) (y : A) → Every P xs → P y → Every P (xs ++ y ∷ [])
every_and_last P [] y e p = (p, tt)
every_and_last P (x ∷ xs) y e p = (e.0, every_and_last P xs y e.1 p)

every_but_last : {A : Type 0} (P : A → Type 0) (xs : List A) → Every P xs → Every P (without_last xs)
every_but_last P [] e = tt
every_but_last P (x ∷ []) e = tt
every_but_last P (x ∷ (y ∷ ys)) e = (e.0, every_but_last P (y ∷ ys) e.1)

-- what is found twice is one
pub some_is : {A : Type 0} (a b : A) → Some a ≡ Some b → a ≡ b
some_is {A} a b e = ap of_some e
  where
    of_some : Option A → A
    of_some None = a
    of_some (Some x) = x

-- ---- runs

abbrev pub IsIn : Run → Value → Type 0
IsIn r v = IsInside r.state r.next v

abbrev pub IsKnownIn : Run → Option ℕ → Type 0
IsKnownIn r o = IsKnown r.state r.next o

abbrev pub AreIn : Run → List Temporary → Type 0
AreIn r ts = AreInside r.state r.next ts

abbrev pub AreInFrames : Run → List Frame → Type 0
AreInFrames r below = AreInsideFrames r.state r.next below

abbrev pub IsInObject : Run → Object → Type 0
IsInObject r o = IsInsideObject r.state r.next o

abbrev pub AreInCall : Run → Call → Type 0
AreInCall r c = Every (IsInsideObject r.state r.next) c.locals

-- a run whose objects hold only pointers that are inside
pub record Fine (r : Run) : Type 0 where
  pub globals : Every (IsInObject r) r.state.globals
  pub calls : Every (AreInCall r) r.state.calls
  pub no_block : r.state.block ≡ None

-- objects came to life or went, and the others reach as far as before
pub record Grows (r q : Run) : Type 0 where
  pub many : r.next ≤ q.next
  pub ends : (n : ℕ) → n < r.next → (o : Object) → object_of q.state n ≡ Some o
      → (p : Object) × (object_of r.state n ≡ Some p) × (end_of p ≡ end_of o)

-- from one run to the other what was inside stays inside
pub record Came (r q : Run) : Type 0 where
  pub grows : Grows r q
  pub fine : Fine q

grows_then : {r q t : Run} → Grows r q → Grows q t → Grows r t
grows_then a b = record {
  many = omega (arith, a.many, b.many);
  ends = λ n l o e. let later = b.ends n (omega (arith, l, a.many)) o e in
      let before = a.ends n l later.0 later.1 in
      (before.0, before.1, before.2 ∙ later.2);
}

pub came_then : {r q t : Run} → Came r q → Came q t → Came r t
came_then a b = record { grows = grows_then a.grows b.grows; fine = b.fine }

module _ {r q : Run} (w : Grows r q) where
  pub in_on : (v : Value) → IsIn r v → IsIn q v
  in_on (Pointer n offset) h = (
    omega (arith, w.many, h.0),
    λ o e. let before = w.ends n h.0 o e in
        subst (λ end. offset ≤ end) before.2 (h.1 before.0 before.1),
  )
  in_on (Int z) h = tt
  in_on Null h = tt
  in_on Undefined h = tt

  known_on : (o : Option ℕ) → IsKnownIn r o → IsKnownIn q o
  known_on None h = tt
  known_on (Some n) h = omega (arith, w.many, h)

  temporary_on : (t : Temporary) → IsInsideTemporary r.state r.next t → IsInsideTemporary q.state q.next t
  temporary_on (temporary.Value v) h = in_on v h
  temporary_on (temporary.Place l) h = known_on l.object h

  pub temporaries_on : (ts : List Temporary) → AreIn r ts → AreIn q ts
  temporaries_on ts h =
      every_as (IsInsideTemporary r.state r.next) (IsInsideTemporary q.state q.next) temporary_on ts h

  pub frames_on : (below : List Frame) → AreInFrames r below → AreInFrames q below
  frames_on below h = every_as (λ b. AreIn r b.temporaries) (λ b. AreIn q b.temporaries)
      (λ b e. temporaries_on b.temporaries e) below h

  pub values_on : (vs : List Value) → Every (IsIn r) vs → Every (IsIn q) vs
  values_on vs h = every_as (IsIn r) (IsIn q) in_on vs h

  object_on : (o : Object) → IsInObject r o → IsInObject q o
  object_on o h = (
    omega (arith, w.many, h.0),
    every_as (λ c. IsIn r c.value) (λ c. IsIn q c.value) (λ c e. in_on c.value e) o.cells h.1,
  )

  objects_on : (os : List Object) → Every (IsInObject r) os → Every (IsInObject q) os
  objects_on os h = every_as (IsInObject r) (IsInObject q) object_on os h

  calls_on : (cs : List Call) → Every (AreInCall r) cs → Every (AreInCall q) cs
  calls_on cs h = every_as (AreInCall r) (AreInCall q) (λ c e. objects_on c.locals e) cs h

-- ---- what stands beside the objects changes

beside_object : (s u : State) (n : ℕ) → u.globals ≡ s.globals → u.calls ≡ s.calls → object_of u n ≡ object_of s n
unfolding object_of
beside_object s u n g c =
    ap (λ os. or_else (find_object n os) (find_local n u.calls)) g
    ∙ ap (λ cs. or_else (find_object n s.globals) (find_local n cs)) c

pub came_beside : (r q : Run) → q.next ≡ r.next → q.state.globals ≡ r.state.globals → q.state.calls ≡ r.state.calls
    → q.state.block ≡ r.state.block → Fine r → Came r q
came_beside r q same g c b fine =
    let w : Grows r q = record {
      many = omega (arith, same);
      ends = λ n l o e. (o, sym (beside_object r.state q.state n g c) ∙ e, refl);
    } in
    record {
      grows = w;
      fine = record {
        globals = subst (Every (IsInObject q)) (sym g) (objects_on w r.state.globals fine.globals);
        calls = subst (Every (AreInCall q)) (sym c) (calls_on w r.state.calls fine.calls);
        no_block = b ∙ fine.no_block;
      };
    }

pub came_here : (r : Run) → Fine r → Came r r
came_here r fine = came_beside r r refl refl refl refl fine

-- ---- a change of each object that leaves its number and its end

record Still (f : Object → Object) (g : Call → Call) : Type 0 where
  number : (o : Object) → (f o).number ≡ o.number
  reaches : (o : Object) → end_of (f o) ≡ end_of o
  locals : (c : Call) → (g c).locals ≡ map f c.locals

or_over : (f : Object → Object) (a b : Option Object) → or_else (over f a) (over f b) ≡ over f (or_else a b)
or_over f None b = refl
or_over f (Some a) b = refl

module _ {f : Object → Object} {g : Call → Call} (still : Still f g) where
  find_over : (n : ℕ) (os : List Object) → find_object n (map f os) ≡ over f (find_object n os)
  find_over n [] = refl
  find_over n (o ∷ os) =
      ap (λ k. cond (nat_eq k n) (Some (f o)) (find_object n (map f os))) (still.number o)
      ∙ by_bool (nat_eq o.number n) (find_over n os)
    where
      by_bool : (b : Bool) → find_object n (map f os) ≡ over f (find_object n os)
          → cond b (Some (f o)) (find_object n (map f os)) ≡ over f (cond b (Some o) (find_object n os))
      by_bool true e = refl
      by_bool false e = e

  local_over : (n : ℕ) (cs : List Call) → find_local n (map g cs) ≡ over f (find_local n cs)
  local_over n [] = refl
  local_over n (c ∷ cs) =
      ap (λ os. or_else (find_object n os) (find_local n (map g cs))) (still.locals c)
      ∙ (ap (λ x. or_else x (find_local n (map g cs))) (find_over n c.locals)
      ∙ (ap (λ x. or_else (over f (find_object n c.locals)) x) (local_over n cs)
      ∙ or_over f (find_object n c.locals) (find_local n cs)))

  object_over : (n : ℕ) (s u : State) → u.globals ≡ map f s.globals → u.calls ≡ map g s.calls
      → object_of u n ≡ over f (object_of s n)
  unfolding object_of
  object_over n s u eg ec =
      ap (λ os. or_else (find_object n os) (find_local n u.calls)) eg
      ∙ (ap (λ cs. or_else (find_object n (map f s.globals)) (find_local n cs)) ec
      ∙ (ap (λ x. or_else x (find_local n (map g s.calls))) (find_over n s.globals)
      ∙ (ap (λ x. or_else (over f (find_object n s.globals)) x) (local_over n s.calls)
      ∙ or_over f (find_object n s.globals) (find_local n s.calls))))

  found_over : (x : Option Object) (o : Object) → over f x ≡ Some o
      → (p : Object) × (x ≡ Some p) × (end_of p ≡ end_of o)
  found_over None o e = absurd cc
  found_over (Some p) o e = (p, refl, sym (still.reaches p) ∙ ap end_of (some_is (f p) o e))

  still_grows : (r : Run) (u : State) → u.globals ≡ map f r.state.globals → u.calls ≡ map g r.state.calls
      → Grows r (record r { state = u })
  still_grows r u eg ec = record {
    many = omega arith;
    ends = λ n l o e. found_over (object_of r.state n) o (sym (object_over n r.state u eg ec) ∙ e);
  }

  still_came : (r : Run) (u : State) → u.globals ≡ map f r.state.globals → u.calls ≡ map g r.state.calls
      → u.block ≡ r.state.block → ((o : Object) → IsInObject r o → IsInObject r (f o)) → Fine r
      → Came r (record r { state = u })
  still_came r u eg ec eb keeps fine =
      let w : Grows r (record r { state = u }) = still_grows r u eg ec in
      record {
        grows = w;
        fine = record {
          globals = subst (Every (IsInsideObject u r.next)) (sym eg) (objects r.state.globals fine.globals w);
          calls = subst (Every (λ a. Every (IsInsideObject u r.next) a.locals)) (sym ec)
              (every_map (AreInCall r) (λ a. Every (IsInsideObject u r.next) a.locals) g (λ c i.
              subst (Every (IsInsideObject u r.next)) (sym (still.locals c)) (objects c.locals i w)) r.state.calls fine.calls);
          no_block = eb ∙ fine.no_block;
        };
      }
    where
      objects : (os : List Object) → Every (IsInObject r) os → Grows r (record r { state = u })
          → Every (IsInsideObject u r.next) (map f os)
      objects os h w = every_map (IsInObject r) (IsInsideObject u r.next) f (λ o i. object_on w (f o) (keeps o i)) os h

-- ---- a scalar is set

put_still : (n offset : ℕ) (v : Value) → Still (put_object n offset v) (put_call n offset v)
put_still n offset v = record {
  number = λ o. by_number o (nat_eq o.number n);
  reaches = λ o. by_end o (nat_eq o.number n);
  locals = λ c. refl;
}
  where
    by_number : (o : Object) (b : Bool) → (cond b (record o { cells = map (put_cell offset v) o.cells }) o).number ≡ o.number
    by_number o true = refl
    by_number o false = refl

    by_end : (o : Object) (b : Bool) → end_of (cond b (record o { cells = map (put_cell offset v) o.cells }) o) ≡ end_of o
    by_end o true = end_put o.cells offset v
    by_end o false = refl

put_in : (r : Run) (n offset : ℕ) (v : Value) → IsIn r v → (o : Object) → IsInObject r o
    → IsInObject r (put_object n offset v o)
put_in r n offset v i o h = by_number (nat_eq o.number n)
  where
    by_offset : (c : Cell) → IsIn r c.value → (b : Bool) → IsIn r (cond b (record c { value = v }) c).value
    by_offset c e true = i
    by_offset c e false = e

    by_number : (b : Bool) → IsInObject r (cond b (record o { cells = map (put_cell offset v) o.cells }) o)
    by_number true = (
      h.0,
      every_map (λ c. IsIn r c.value) (λ c. IsIn r c.value) (put_cell offset v)
          (λ c e. by_offset c e (nat_eq c.offset offset)) o.cells h.1,
    )
    by_number false = h

pub came_set : (r : Run) → Fine r → (n offset : ℕ) (v : Value) → IsIn r v
    → Came r (record r { state = with_scalar n offset v r.state })
unfolding with_scalar
came_set r fine n offset v i =
    still_came (put_still n offset v) r (with_scalar n offset v r.state) refl refl refl (put_in r n offset v i) fine

pub came_put : (r : Run) → Fine r → (o : Option ℕ) (offset : ℕ) (v : Value) → IsIn r v
    → Came r (record r { state = put_at o offset v r.state })
came_put r fine None offset v i = came_beside r (record r { state = r.state }) refl refl refl refl fine
came_put r fine (Some n) offset v i = came_set r fine n offset v i

-- ---- an object is cleared

clear_still : (n : ℕ) → Still (clear_object n) (clear_call n)
clear_still n = record {
  number = λ o. by_number o (nat_eq o.number n);
  reaches = λ o. by_end o (nat_eq o.number n);
  locals = λ c. refl;
}
  where
    by_number : (o : Object) (b : Bool) → (cond b (record o { cells = map cleared_cell o.cells }) o).number ≡ o.number
    by_number o true = refl
    by_number o false = refl

    by_end : (o : Object) (b : Bool) → end_of (cond b (record o { cells = map cleared_cell o.cells }) o) ≡ end_of o
    by_end o true = end_cleared o.cells
    by_end o false = refl

clear_in : (r : Run) (n : ℕ) (o : Object) → IsInObject r o → IsInObject r (clear_object n o)
clear_in r n o h = by_number (nat_eq o.number n)
  where
    by_number : (b : Bool) → IsInObject r (cond b (record o { cells = map cleared_cell o.cells }) o)
    by_number true = (h.0, every_map (λ c. IsIn r c.value) (λ c. IsIn r c.value) cleared_cell (λ c e. tt) o.cells h.1)
    by_number false = h

pub came_cleared : (r : Run) → Fine r → (n : ℕ) → Came r (record r { state = with_cleared n r.state })
unfolding with_cleared
came_cleared r fine n =
    still_came (clear_still n) r (with_cleared n r.state) refl refl refl (clear_in r n) fine

-- ---- a call is left: its objects are gone, and the others stay

or_on : (x a b : Option Object) (o : Object) → (a ≡ Some o → b ≡ Some o) → or_else x a ≡ Some o → or_else x b ≡ Some o
or_on None a b o h e = h e
or_on (Some p) a b o h e = e

find_left : (n : ℕ) (cs : List Call) (o : Object) → find_local n (without_last cs) ≡ Some o → find_local n cs ≡ Some o
find_left n [] o e = e
find_left n (c ∷ []) o e = absurd cc
find_left n (c ∷ (d ∷ ds)) o e =
    or_on (find_object n c.locals) (find_local n (without_last (d ∷ ds))) (find_local n (d ∷ ds)) o (find_left n (d ∷ ds) o) e

object_left : (s : State) (n : ℕ) (o : Object) → object_of (left_call s) n ≡ Some o → object_of s n ≡ Some o
unfolding object_of
object_left s n o e = or_on (find_object n s.globals) (find_local n (without_last s.calls)) (find_local n s.calls) o
    (find_left n s.calls o) e

pub came_left : (r : Run) → Fine r → Came r (record r { state = left_call r.state })
came_left r fine =
    let w : Grows r (record r { state = left_call r.state }) = record {
      many = omega arith;
      ends = λ n l o e. (o, object_left r.state n o e, refl);
    } in
    record {
      grows = w;
      fine = record {
        globals = objects_on w r.state.globals fine.globals;
        calls = every_but_last (AreInCall (record r { state = left_call r.state })) r.state.calls
            (calls_on w r.state.calls fine.calls);
        no_block = fine.no_block;
      };
    }

-- ---- a call is entered: its objects come to life behind all others

fresh_none : (n m : ℕ) (slots : List (List Slot)) → n < m → find_object n (fresh_objects m slots) ≡ None
fresh_none n m [] l = refl
fresh_none n m (s ∷ more) l =
    ap (λ b. cond b (Some (record { number = m; cells = map fresh_cell s })) (find_object n (fresh_objects (m + 1) more)))
    (ne_eqb m n (λ e. omega (arith, e, l)))
    ∙ fresh_none n (m + 1) more (omega (arith, l))

find_last : (n : ℕ) (cs : List Call) (c : Call) → find_object n c.locals ≡ None → find_local n (cs ++ c ∷ []) ≡ find_local n cs
find_last n [] c h = ap (λ x. or_else x None) h
find_last n (d ∷ ds) c h = ap (or_else (find_object n d.locals)) (find_last n ds c h)

object_last : (s : State) (n : ℕ) (c : Call) → find_object n c.locals ≡ None → object_of (with_call c s) n ≡ object_of s n
unfolding object_of
object_last s n c h = ap (or_else (find_object n s.globals)) (find_last n s.calls c h)

fresh_in : (r : Run) (slots : List (List Slot)) (m : ℕ) → m + length slots ≤ r.next
    → Every (IsInObject r) (fresh_objects m slots)
fresh_in r [] m l = tt
fresh_in r (s ∷ more) m l = ((omega (arith, l), cells s), fresh_in r more (m + 1) (omega (arith, l)))
  where
    cells : (ss : List Slot) → Every (λ c. IsIn r c.value) (map fresh_cell ss)
    cells [] = tt
    cells (x ∷ xs) = (tt, cells xs)

abbrev pub entered_run : (function frame : ℕ) → List (List Slot) → Run → Run
entered_run function frame slots r = record r {
  state = with_call (record { function = function; frame = frame; locals = fresh_objects r.next slots }) r.state;
  next = r.next + length slots;
}

pub came_entered : (r : Run) → Fine r → (function frame : ℕ) (slots : List (List Slot))
    → Came r (entered_run function frame slots r)
came_entered r fine function frame slots =
    let q : Run = entered_run function frame slots r in
    let call : Call = record { function = function; frame = frame; locals = fresh_objects r.next slots } in
    let w : Grows r q = record {
      many = omega arith;
      ends = λ n l o e. (o, sym (object_last r.state n call (fresh_none n r.next slots l)) ∙ e, refl);
    } in
    record {
      grows = w;
      fine = record {
        globals = objects_on w r.state.globals fine.globals;
        calls = every_and_last (AreInCall q) r.state.calls call (calls_on w r.state.calls fine.calls)
            (fresh_in q slots r.next (omega arith));
        no_block = fine.no_block;
      };
    }
