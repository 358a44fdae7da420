-- What a step finds where all pointers are inside: so are the values of its operands, be they temporaries or scalars.
use Rattle.std.proofs.Common.{◌≡◌, ℕ, ◌+◌, subst, List, [], ◌∷◌, Option, Some, None, Ok}
use Rattle.base16.specs.declared.image.Kind.{Kind}
use Rattle.c_run.specs.Actions.{kept}
use Rattle.c_run.specs.Runs.{Run}
use Rattle.c_values.specs.Objects.{accessed}
use Rattle.c_values.specs.declared.state.Call.{Call}
use Rattle.c_values.specs.declared.state.Object.{Object}
use Rattle.c_values.specs.declared.state.State.{State}
use Rattle.c_values.specs.declared.value.Cell.{Cell}
use Rattle.c_values.specs.declared.value.Location.{Location}
use Rattle.c_values.specs.declared.value.Value.{Value}
use Rattle.c_values.specs.declared.value.Value.TheVariants.{Int, Pointer, Null, Undefined}
use Rattle.core_tree.specs.Data.{global_address}
use Rattle.core_tree.specs.LawfulCore.{Every}
use Rattle.core_tree.specs.declared.program.Core.{Core}
use Rattle.ir.specs.declared.control.Control.TheVariants.{Calling}
use Rattle.ir.specs.declared.control.Frame.{Frame}
use Rattle.ir.specs.declared.control.Temporary.{Temporary}
use Rattle.ir.specs.declared.control.Temporary.TheVariants as temporary
use Rattle.ir.specs.declared.form.Operand.{Operand}
use Rattle.ir.specs.Inside.{IsInside, IsKnown, IsInsideTemporary, AreInside, AreInsideFrames, IsInsideObject, PointsInside}
use Rattle.ir.specs.Machine.{known}
use Rattle.matching.specs.Matches.{Placed, placed_from, local_address, placed_in_calls, placed}
use Rattle.steps430.specs.Calls.{IsKnownValue, IsKnownNumber, IsKnownTemporary, AreKnownFrames, AreKnown}
use Rattle.steps430.specs.Holds.{with_args, calling}
use Rattle.steps430.specs.Lying.{StaysInside, StayInside}
use Rattle.steps430.proofs.Finding.{FindsOne, FindsTwo, FindsTop}
use Rattle.steps430.proofs.FramesStay.{every_append, every_map}
use Rattle.steps430.proofs.Outcomes.{Gives, OfTop, OfConstant, OfNull, OfScalar}
use Rattle.steps430.proofs.Scalars.{accesses}

-- ---- values

module _ (core : Core) (s : State) (next : ℕ) (globals : Every (IsInsideObject s next) s.globals)
    (calls : Every (λ (a : Call). Every (IsInsideObject s next) a.locals) s.calls) where
  abbrev HasInside : Placed → Type 0
  HasInside q = Every (λ (c : Cell). IsInside s next c.value) q.object.cells

  from_objects : (address : ℕ → ℕ) (i : ℕ) (os : List Object) → Every (IsInsideObject s next) os
      → Every HasInside (placed_from address i os)
  from_objects address i [] h = tt
  from_objects address i (o ∷ os) h = (h.0.1, from_objects address (i + 1) os h.1)

  from_calls : (cs : List Call) → Every (λ (a : Call). Every (IsInsideObject s next) a.locals) cs
      → Every HasInside (placed_in_calls core cs)
  from_calls [] h = tt
  from_calls (c ∷ cs) h =
      every_append HasInside (placed_from (local_address core c) 0 c.locals) (placed_in_calls core cs)
      (from_objects (local_address core c) 0 c.locals h.0) (from_calls cs h.1)

  -- those of all scalars
  objects_inside : Every HasInside (placed core (kept s))
  objects_inside =
      every_append HasInside (placed_from (λ i. global_address core i) 0 s.globals) (placed_in_calls core s.calls)
      (from_objects (λ i. global_address core i) 0 s.globals globals) (from_calls s.calls calls)

  accessed_inside : (l : Location) (k : Kind) (v : Value) → accessed s l k ≡ Ok v → IsInside s next v
  accessed_inside l k v e =
      let a = accesses core s l k v e in
      subst (λ (x : Value). IsInside s next x) a.is_scalar.value
      (a.is_scalar.among (λ (c : Cell). IsInside s next c.value) (a.is_found.among HasInside objects_inside))

  gives_inside : (first : ℕ) (x : Operand) (ts : List Temporary) (v : Value) (us : List Temporary) → AreInside s next ts
      → Gives s first x ts v us → IsInside s next v × AreInside s next us
  gives_inside first x ts v us h OfTop = (h.0, h.1)
  gives_inside first x ts v us h (OfConstant z) = (tt, h)
  gives_inside first x ts v us h OfNull = (tt, h)
  gives_inside first x ts v us h (OfScalar of offset k e there) = (accessed_inside (known first of offset) k v e, h)

  stays : (v : Value) → IsInside s next v → StaysInside s v
  stays (Int z) h = tt
  stays (Pointer n offset) h = h.1
  stays Null h = tt
  stays Undefined h = tt

  pub finds_one : (first : ℕ) (x : Operand) (ts : List Temporary) → AreInside s next ts → FindsOne x StaysInside s first ts
  finds_one first x ts h = λ v us g. stays v (gives_inside first x ts v us h g).0

  pub finds_two : (first : ℕ) (left right : Operand) (ts : List Temporary) → AreInside s next ts
      → FindsTwo left right StayInside s first ts
  finds_two first left right ts h = λ a b us ws g k.
      let y = gives_inside first right ts b us h g in
      (stays a (gives_inside first left us a ws y.1 k).0, stays b y.0)

  pub finds_top : (first : ℕ) (ts : List Temporary) → AreInside s next ts → FindsTop StayInside s first ts
  finds_top first ts h = λ a b ws is.
      let y = subst (λ (xs : List Temporary). AreInside s next xs) is h in
      (stays a y.1.0, stays b y.0)

  -- ---- objects that came to life

  known_value : (v : Value) → IsInside s next v → IsKnownValue next v
  known_value (Int z) h = tt
  known_value (Pointer n offset) h = h.0
  known_value Null h = tt
  known_value Undefined h = tt

  known_number : (x : Option ℕ) → IsKnown s next x → IsKnownNumber next x
  known_number None h = tt
  known_number (Some n) h = h

  known_temporary : (t : Temporary) → IsInsideTemporary s next t → IsKnownTemporary next t
  known_temporary (temporary.Value v) h = known_value v h
  known_temporary (temporary.Place l) h = known_number l.object h

  known_temporaries : (ts : List Temporary) → AreInside s next ts → Every (IsKnownTemporary next) ts
  known_temporaries ts h = every_map (IsInsideTemporary s next) (IsKnownTemporary next) ts known_temporary h

  known_args : (args : List Value) (ts : List Temporary) → Every (IsInside s next) args → Every (IsKnownTemporary next) ts
      → Every (IsKnownTemporary next) (with_args args ts)
  known_args [] ts h k = k
  known_args (v ∷ vs) ts h k = known_args vs (temporary.Value v ∷ ts) h.1 (known_value v h.0, k)

  known_frames : (bs : List Frame) → AreInsideFrames s next bs → AreKnownFrames next bs
  known_frames bs h =
      every_map (λ (b : Frame). AreInside s next b.temporaries) (λ (b : Frame). Every (IsKnownTemporary next) b.temporaries) bs
      (λ b k. known_temporaries b.temporaries k) h

  known_calling : (args : List Value) (below : List Frame) → Every (IsInside s next) args → AreInsideFrames s next below
      → AreKnownFrames next (calling args below)
  known_calling args [] h k = tt
  known_calling args (b ∷ below) h k =
      (known_args args b.temporaries h (known_temporaries b.temporaries k.0), known_frames below k.1)

  are_known : (args : List Value) (below : List Frame) → Every (IsInside s next) args → AreInsideFrames s next below
      → AreKnown core next s (calling args below)
  are_known args below h k = record {
    scalars = every_map HasInside (λ (q : Placed). Every (λ (c : Cell). IsKnownValue next c.value) q.object.cells)
        (placed core (kept s))
        (λ q i. every_map (λ (c : Cell). IsInside s next c.value) (λ (c : Cell). IsKnownValue next c.value) q.object.cells
        (λ c j. known_value c.value j) i) objects_inside;
    temporaries = known_calling args below h k;
  }

-- where a function is called
pub known_of : (core : Core) (f d : ℕ) (args : List Value) (below : List Frame) (r : Run)
    → PointsInside (Calling f d args below) r → AreKnown core r.next r.state (calling args below)
known_of core f d args below r h = are_known core r.state r.next h.globals h.calls args below h.control.0 h.control.1
