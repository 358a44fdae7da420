-- A store to one scalar, of any object and through any pointer, is one cell set.
use Rattle.std.proofs.Common.{◌≡◌, ◌≢◌, ℕ, ◌+◌, true, false, Bool, List, [], ◌∷◌, ◌++◌, map, Option, Some, None, refl, sym, ap, ◌∙◌, subst, arith}
use Rattle.std.proofs.lemmas.Bool.{eqb-true, eqb-false, eq-eqb, ne_eqb}
use Rattle.std.specs.Prelude.{nat_eq, if◌then◌else◌}
use Rattle.base16.specs.declared.image.Kind.{Kind}
use Rattle.c_run.specs.Actions.{kept}
use Rattle.c_values.specs.Objects.{put_cell, put_object, put_call, with_scalar}
use Rattle.c_values.specs.declared.state.Call.{Call}
use Rattle.c_values.specs.declared.state.Object.{Object}
use Rattle.c_values.specs.declared.state.State.{State}
use Rattle.c_values.specs.declared.value.Cell.{Cell as Scalar}
use Rattle.c_values.specs.declared.value.Value.{Value}
use Rattle.c_values.specs.declared.value.Value.TheVariants.{Int, Pointer, Null, Undefined}
use Rattle.cells430.specs.Cells.{Cell, Cells, set_cell}
use Rattle.core_tree.specs.Data.{global_address}
use Rattle.core_tree.specs.LawfulCore.{Every}
use Rattle.core_tree.specs.declared.program.Core.{Core}
use Rattle.matching.specs.Covering.{cell_of, HasCell, ScalarsCovered, Covered, IsOther, Apart}
use Rattle.matching.specs.Matches.{Placed, placed_from, local_address, placed_in_calls, placed, address_of, pointer_code, encoded}

-- ---- a cell set

pub set_same : (f : Cells) (a b : ℕ) (x : Cell) → b ≡ a → set_cell f a x b ≡ Some x
set_same f a b x e = ap (λ (t : Bool). if t then Some x else f b) (eq-eqb b a e)

pub set_other : (f : Cells) (a b : ℕ) (x : Cell) → b ≢ a → set_cell f a x b ≡ f b
set_other f a b x e = ap (λ (t : Bool). if t then Some x else f b) (ne_eqb b a e)

-- what has its cell still has it, elsewhere
pub cell_stays : (f : Cells) (a b : ℕ) (x : Cell) (k : Kind) (code : Option ℕ) → b ≢ a → HasCell f b k code
    → HasCell (set_cell f a x) b k code
cell_stays f a b x k None apart h = (h.0, set_other f a b x apart ∙ h.1)
cell_stays f a b x k (Some code) apart h = set_other f a b x apart ∙ h

cell_set : (f : Cells) (a b : ℕ) (k : Kind) (code : Option ℕ) → b ≡ a → HasCell (set_cell f a (cell_of k code)) b k code
cell_set f a b k None same = (None, set_same f a b (cell_of k None) same)
cell_set f a b k (Some code) same = set_same f a b (cell_of k (Some code)) same

-- ---- a store moves nothing

-- the same object with the scalar set, at the same address
abbrev pub moved : (n offset : ℕ) → Value → Placed → Placed
moved n offset v p = record { object = put_object n offset v p.object; address = p.address }

map_append : {A B : Type 0} (f : A → B) (xs ys : List A) → map f (xs ++ ys) ≡ map f xs ++ map f ys
map_append f [] ys = refl
map_append f (x ∷ xs) ys = ap (λ zs. f x ∷ zs) (map_append f xs ys)

objects_moved : (n o : ℕ) (v : Value) (address : ℕ → ℕ) (i : ℕ) (xs : List Object)
    → placed_from address i (map (put_object n o v) xs) ≡ map (moved n o v) (placed_from address i xs)
objects_moved n o v address i [] = refl
objects_moved n o v address i (x ∷ xs) =
    ap (λ (ps : List Placed). record { object = put_object n o v x; address = address i } ∷ ps)
    (objects_moved n o v address (i + 1) xs)

calls_moved : (n o : ℕ) (v : Value) (core : Core) (cs : List Call)
    → placed_in_calls core (map (put_call n o v) cs) ≡ map (moved n o v) (placed_in_calls core cs)
calls_moved n o v core [] = refl
calls_moved n o v core (c ∷ cs) =
    let more = placed_in_calls core (map (put_call n o v) cs) in
    let own = placed_from (local_address core c) 0 c.locals in
    ap (λ (ps : List Placed). ps ++ more) (objects_moved n o v (local_address core c) 0 c.locals)
    ∙ ap (λ (ps : List Placed). map (moved n o v) own ++ ps) (calls_moved n o v core cs)
    ∙ sym (map_append (moved n o v) own (placed_in_calls core cs))

pub placed_stored : (n o : ℕ) (v : Value) (core : Core) (s : State)
    → placed core (kept (with_scalar n o v s)) ≡ map (moved n o v) (placed core (kept s))
unfolding with_scalar
placed_stored n o v core s =
    let more = placed_in_calls core (map (put_call n o v) s.calls) in
    ap (λ (ps : List Placed). ps ++ more) (objects_moved n o v (λ i. global_address core i) 0 s.globals)
    ∙ ap (λ (ps : List Placed). map (moved n o v) (placed_from (λ i. global_address core i) 0 s.globals) ++ ps)
    (calls_moved n o v core s.calls)
    ∙ sym (map_append (moved n o v) (placed_from (λ i. global_address core i) 0 s.globals) (placed_in_calls core s.calls))

put_number : (n o : ℕ) (v : Value) (x : Object) → (put_object n o v x).number ≡ x.number
put_number n o v x = from (nat_eq x.number n)
  where
    from : (t : Bool) → (if t then record x { cells = map (put_cell o v) x.cells } else x).number ≡ x.number
    from true = refl
    from false = refl

address_stays : (n o j : ℕ) (v : Value) (ps : List Placed) → address_of (map (moved n o v) ps) j ≡ address_of ps j
address_stays n o j v [] = refl
address_stays n o j v (p ∷ ps) =
    ap (λ (x : ℕ). if nat_eq x j then Some p.address else address_of (map (moved n o v) ps) j) (put_number n o v p.object)
    ∙ ap (λ (x : Option ℕ). if nat_eq p.object.number j then Some p.address else x) (address_stays n o j v ps)

pub codes_stay : (n o : ℕ) (v : Value) (alive : List Placed) (k : Kind) (w : Value)
    → encoded (map (moved n o v) alive) k w ≡ encoded alive k w
codes_stay n o v alive k (Int z) = refl
codes_stay n o v alive k (Pointer j offset) = ap (λ (x : Option ℕ). pointer_code x offset) (address_stays n o j v alive)
codes_stay n o v alive k Null = refl
codes_stay n o v alive k Undefined = refl

-- ---- the store

module _ (f : Cells) (alive : List Placed) (n base o : ℕ) (v : Value) (k : Kind) where
  abbrev after : Cells
  after = set_cell f (base + o) (cell_of k (encoded alive k v))

  -- a scalar in which a value stands has its cell after the store
  abbrev Has : (address : ℕ) → Scalar → Value → Type 0
  Has address c w = HasCell after (address + c.offset) c.kind (encoded (map (moved n o v) alive) c.kind w)

  stays : (address : ℕ) (c : Scalar) → address + c.offset ≢ base + o
      → HasCell f (address + c.offset) c.kind (encoded alive c.kind c.value) → Has address c c.value
  stays address c apart h =
      subst (λ (x : Option ℕ). HasCell after (address + c.offset) c.kind x) (sym (codes_stay n o v alive c.kind c.value))
      (cell_stays f (base + o) (address + c.offset) (cell_of k (encoded alive k v)) c.kind (encoded alive c.kind c.value) apart h)

  stored : (address : ℕ) (c : Scalar) → address + c.offset ≡ base + o → c.kind ≡ k → Has address c v
  stored address c same kind =
      subst (λ (x : Option ℕ). HasCell after (address + c.offset) c.kind x) (sym (codes_stay n o v alive c.kind v))
      (subst (λ (x : Kind). HasCell after (address + c.offset) x (encoded alive x v)) (sym kind)
      (cell_set f (base + o) (address + c.offset) k (encoded alive k v) same))

  in_object : (p : Placed) (cs : List Scalar) → p.object.number ≡ n → p.address ≡ base → Every (IsOther n base o k p) cs
      → ScalarsCovered f alive p.address cs
      → ScalarsCovered after (map (moved n o v) alive) p.address (map (put_cell o v) cs)
  in_object p [] is at others h = tt
  in_object p (c ∷ cs) is at others h = (from (nat_eq c.offset o) refl, in_object p cs is at others.1 h.1)
    where
      from : (t : Bool) → nat_eq c.offset o ≡ t
          → Has p.address (if t then record c { value = v } else c) (if t then record c { value = v } else c).value
      from true e =
          let offset : c.offset ≡ o = eqb-true c.offset o e in
          let same : p.address + c.offset ≡ base + o = omega arith in
          stored p.address c same (others.0.apart same).2
      from false e =
          let offset : c.offset ≢ o = eqb-false c.offset o e in
          stays p.address c (λ same. offset (others.0.apart same).1) h.0

  elsewhere : (p : Placed) (cs : List Scalar) → p.object.number ≢ n → Every (IsOther n base o k p) cs
      → ScalarsCovered f alive p.address cs → ScalarsCovered after (map (moved n o v) alive) p.address cs
  elsewhere p [] other others h = tt
  elsewhere p (c ∷ cs) other others h =
      (stays p.address c (λ same. other (others.0.apart same).0) h.0, elsewhere p cs other others.1 h.1)

  -- one cell set is one scalar stored
  pub store_covered : (ps : List Placed) → Every (Apart n base o k) ps → Covered f alive ps
      → Covered after (map (moved n o v) alive) (map (moved n o v) ps)
  store_covered [] apart h = tt
  store_covered (p ∷ ps) apart h = (from (nat_eq p.object.number n) refl, store_covered ps apart.1 h.1)
    where
      from : (t : Bool) → nat_eq p.object.number n ≡ t
          → ScalarsCovered after (map (moved n o v) alive) p.address
          (if t then record (p.object) { cells = map (put_cell o v) p.object.cells } else p.object).cells
      from true e =
          let is = eqb-true p.object.number n e in
          in_object p p.object.cells is (apart.0.here is) apart.0.scalars h.0
      from false e = elsewhere p p.object.cells (eqb-false p.object.number n e) apart.0.scalars h.0

-- a store to one scalar of a state is one cell set
pub store_matches : (core : Core) (s : State) (f : Cells) (n base o : ℕ) (v : Value) (k : Kind)
    → Every (Apart n base o k) (placed core (kept s)) → Covered f (placed core (kept s)) (placed core (kept s))
    → Covered (set_cell f (base + o) (cell_of k (encoded (placed core (kept s)) k v)))
    (placed core (kept (with_scalar n o v s))) (placed core (kept (with_scalar n o v s)))
store_matches core s f n base o v k apart h =
    let alive = placed core (kept s) in
    subst (λ (x : List Placed). Covered (set_cell f (base + o) (cell_of k (encoded alive k v))) x x)
    (sym (placed_stored n o v core s)) (store_covered f alive n base o v k alive apart h)
