-- The first values of a lawful program's variables: pointers to variables, no further than to their ends.
use Rattle.std.proofs.Common.{◌≡◌, ℕ, zero, suc, ◌+◌, ◌<◌, ◌≤◌, refl, sym, ap, ◌∙◌, subst, arith, Bool, true, false, if◌then◌else◌, List, [], ◌∷◌, map, length, Option, Some, None}
use Rattle.std.proofs.lemmas.Bool.{eq-eqb, ne_eqb}
use Rattle.std.specs.Prelude.{ℤ, nat_eq, slice_get}
use Rattle.base16.specs.declared.image.Kind.{Kind}
use Rattle.base16.specs.declared.image.Kind.TheVariants as kind
use Rattle.c_meaning.specs.After.{initial_value, initial_cells, initial_objects, start}
use Rattle.c_meaning.specs.Stamps.{slots_of}
use Rattle.c_values.specs.Objects.{find_object, or_else, object_of}
use Rattle.c_values.specs.Pointers.{end_of}
use Rattle.c_values.specs.Values.{fitted, fit}
use Rattle.c_values.specs.declared.state.Object.{Object}
use Rattle.c_values.specs.declared.state.State.{State}
use Rattle.c_values.specs.declared.value.Cell.{Cell}
use Rattle.c_values.specs.declared.value.Value.TheVariants.{Int}
use Rattle.core_tree.specs.Layout.{size_of}
use Rattle.core_tree.specs.LawfulCore.{Every, IsInitial, AreInitials, IsSmall, AreGlobals, IsLawful, scalar_types}
use Rattle.core_tree.specs.declared.program.Core.{Core}
use Rattle.core_tree.specs.declared.program.Global.{Global}
use Rattle.core_tree.specs.declared.program.Initial.{Initial}
use Rattle.core_tree.specs.declared.program.Initial.TheVariants as initial
use Rattle.core_tree.specs.declared.types.Slot.{Slot}
use Rattle.core_tree.specs.declared.types.Struct.{Struct}
use Rattle.core_tree.specs.declared.types.Ty.{Ty, out-Ty}
use Rattle.core_tree.specs.declared.types.Ty.TheOpen.{Ty-F}
use Rattle.ir.specs.Inside.{IsInside, IsInsideObject, PointsInside}
use Rattle.ir.specs.declared.control.Control.TheVariants.{Calling}
use Rattle.matching.proofs.Making.{first_slots}
use Rattle.matching.proofs.Reaching.{end_reached}
use Rattle.matching.specs.Laid.{slot_of}

none_some : {A : Type 0} (x : A) → None ≡ Some x → ⊥
none_some x e = cc

same_some : {A : Type 0} (x y : A) → Some x ≡ Some y → x ≡ y
same_some x y e = cc

-- ---- variables that are found

-- an object is a variable with the scalars of its type
record IsVariable (structs : List Struct) (gs : List Global) (i : ℕ) (o : Object) : Type 0 where
  global : Global
  is : slice_get gs i ≡ Some global
  cells : map slot_of o.cells ≡ slots_of structs global

-- the variables are numbered from a number on
found : (structs : List Struct) (n i m : ℕ) (gs : List Global) (o : Object) → m ≡ n + i
    → find_object m (initial_objects structs n gs) ≡ Some o → IsVariable structs gs i o
found structs n i m [] o e h = absurd (none_some o h)
found structs n zero m (g ∷ gs) o e h =
    let first : Object = record { number = n; cells = initial_cells (slots_of structs g) g.init } in
    let here : nat_eq n m ≡ true = eq-eqb n m (omega arith) in
    let one : Some first ≡ Some o =
    sym (ap (λ (b : Bool). if b then Some first else find_object m (initial_objects structs (n + 1) gs)) here) ∙ h in
    record {
      global = g;
      is = refl;
      cells = ap (λ (x : Object). map slot_of x.cells) (sym (same_some first o one)) ∙ first_slots (slots_of structs g) g.init;
    }
found structs n (suc i) m (g ∷ gs) o e h =
    let first : Object = record { number = n; cells = initial_cells (slots_of structs g) g.init } in
    let away : nat_eq n m ≡ false = ne_eqb n m (λ (k : n ≡ m). omega arith) in
    let more : find_object m (initial_objects structs (n + 1) gs) ≡ Some o =
    sym (ap (λ (b : Bool). if b then Some first else find_object m (initial_objects structs (n + 1) gs)) away) ∙ h in
    let rest = found structs (n + 1) i m gs o (omega arith) more in
    record { global = rest.global; is = rest.is; cells = rest.cells }

-- no call is alive where a run starts
alone : (a : Option Object) (o : Object) → or_else a None ≡ Some o → a ≡ Some o
alone None o e = e
alone (Some x) o e = e

at_start : (core : Core) (i : ℕ) (o : Object) → object_of (start core) i ≡ Some o → IsVariable core.structs core.globals i o
unfolding object_of start
at_start core i o e =
    found core.structs 0 i i core.globals o (omega arith)
    (alone (find_object i (initial_objects core.structs 0 core.globals)) o e)

-- a variable of a lawful program is small
small_at : (core : Core) (annotated : Bool) (own i : ℕ) (gs : List Global) (g : Global) → AreGlobals core annotated own gs
    → slice_get gs i ≡ Some g → IsSmall core g.ty
small_at core annotated own i [] g all e = absurd (none_some g e)
small_at core annotated own zero (h ∷ gs) g all e = subst (λ (x : Global). IsSmall core x.ty) (same_some h g e) all.0.small
small_at core annotated own (suc i) (h ∷ gs) g all e = small_at core annotated (own + 1) i gs g all.1 e

-- ---- first values

module _ (s : State) (next : ℕ) where
  fit_inside : (k : Kind) (v : ℤ) → IsInside s next (fit k (Int v))
  unfolding fitted
  fit_inside kind.Char v = tt
  fit_inside kind.Int v = tt
  fit_inside kind.UInt v = tt
  fit_inside kind.Pointer v = tt

module _ (core : Core) (annotated : Bool) (lawful : IsLawful annotated core) where
  abbrev s : State
  s = start core

  abbrev next : ℕ
  next = length core.globals

  address_inside : (n offset : ℕ) → ((g : Global) → slice_get core.globals n ≡ Some g → offset < size_of core.structs g.ty)
      → (o : Object) → object_of s n ≡ Some o → offset ≤ end_of o
  address_inside n offset h o e =
      let v = at_start core n o e in
      let few : size_of core.structs v.global.ty ≤ 16383 =
      small_at core annotated 0 n core.globals v.global lawful.globals v.is in
      end_reached core.structs v.global.ty o offset v.cells (omega arith) (h v.global v.is)

  layer_inside : (own : ℕ) (l : Ty-F Ty) (i : Initial) (k : Kind) → own < next → IsInitial core own l i
      → IsInside s next (initial_value k i)
  layer_inside own (Ty-F.Num t) (initial.Int v) kind.Char few h = fit_inside s next kind.Char v
  layer_inside own (Ty-F.Num t) (initial.Int v) kind.Int few h = fit_inside s next kind.Int v
  layer_inside own (Ty-F.Num t) (initial.Int v) kind.UInt few h = fit_inside s next kind.UInt v
  layer_inside own (Ty-F.Num t) (initial.Int v) kind.Pointer few h = tt
  layer_inside own (Ty-F.Pointer to r) (initial.Int v) kind.Char few h = fit_inside s next kind.Char v
  layer_inside own (Ty-F.Pointer to r) (initial.Int v) kind.Int few h = fit_inside s next kind.Int v
  layer_inside own (Ty-F.Pointer to r) (initial.Int v) kind.UInt few h = fit_inside s next kind.UInt v
  layer_inside own (Ty-F.Pointer to r) (initial.Int v) kind.Pointer few h = tt
  layer_inside own (Ty-F.Pointer to r) (initial.Address n offset) kind.Char few h =
      (let l = h.0 in omega arith, address_inside n offset h.1)
  layer_inside own (Ty-F.Pointer to r) (initial.Address n offset) kind.Int few h =
      (let l = h.0 in omega arith, address_inside n offset h.1)
  layer_inside own (Ty-F.Pointer to r) (initial.Address n offset) kind.UInt few h =
      (let l = h.0 in omega arith, address_inside n offset h.1)
  layer_inside own (Ty-F.Pointer to r) (initial.Address n offset) kind.Pointer few h =
      (let l = h.0 in omega arith, address_inside n offset h.1)
  layer_inside own (Ty-F.Num t) (initial.Address n offset) k few h = absurd h
  layer_inside own Ty-F.Void i k few h = absurd h
  layer_inside own (Ty-F.Array of count) i k few h = absurd h
  layer_inside own (Ty-F.Struct tag) i k few h = absurd h

  cells_inside : (own : ℕ) (slots : List Slot) (ts : List Ty) (is : List Initial) → own < next → AreInitials core own ts is
      → Every (λ (c : Cell). IsInside s next c.value) (initial_cells slots is)
  cells_inside own [] ts is few h = tt
  cells_inside own (x ∷ xs) ts [] few h = (tt, cells_inside own xs [] [] few tt)
  cells_inside own (x ∷ xs) [] (i ∷ is) few h = absurd h
  cells_inside own (x ∷ xs) (t ∷ ts) (i ∷ is) few h =
      (layer_inside own (out-Ty t) i x.kind few h.0, cells_inside own xs ts is few h.1)

  objects_inside : (n : ℕ) (gs : List Global) → n + length gs ≤ next → AreGlobals core annotated n gs
      → Every (IsInsideObject s next) (initial_objects core.structs n gs)
  objects_inside n [] few h = tt
  objects_inside n (g ∷ gs) few h =
      let long : length (g ∷ gs) ≡ suc (length gs) = refl in
      let here : n < next = omega arith in (
        (here, cells_inside n (slots_of core.structs g) (scalar_types core g.ty) g.init here h.0.init),
        objects_inside (n + 1) gs (omega arith) h.1,
      )

  -- all pointers are inside where a run starts with the call of a function
  pub start_inside : (main left : ℕ)
      → PointsInside (Calling main 0 [] []) (record { state = s; used = 0; left = left; next = next })
  unfolding start
  start_inside main left = record {
    globals = objects_inside 0 core.globals (omega arith) lawful.globals;
    calls = tt;
    control = (tt, tt);
    no_block = refl;
  }
