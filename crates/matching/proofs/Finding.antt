-- What is accessed stands in one place, and no other scalar stands there.
use Rattle.std.proofs.Common.{◌≡◌, ◌≢◌, ℕ, ◌+◌, ◌≤◌, ◌<◌, ◌⊎◌, inl, inr, Bool, true, false, List, [], ◌∷◌, ◌++◌, map, Option, Some, None, refl, sym, ap, ◌∙◌, subst, arith}
use Rattle.std.proofs.lemmas.Bool.{eqb-true, eqb-false, eq-eqb, ne_eqb}
use Rattle.std.specs.Prelude.{nat_eq, if◌then◌else◌, Result, Ok, Err}
use Rattle.base16.specs.declared.image.Kind.{Kind}
use Rattle.base16.specs.declared.image.Kind.TheVariants as kind
use Rattle.c_run.specs.Actions.{kept}
use Rattle.c_values.specs.Objects.{same_kind, find_object, find_local, or_else, object_of, find_cell, value_in, value_of, accessed}
use Rattle.c_values.specs.Pointers.{at}
use Rattle.c_values.specs.declared.state.Call.{Call}
use Rattle.c_values.specs.declared.state.Object.{Object}
use Rattle.c_values.specs.declared.state.State.{State}
use Rattle.c_values.specs.declared.value.Cell.{Cell as Scalar}
use Rattle.c_values.specs.declared.value.Value.{Value}
use Rattle.core_layout.specs.Laws.{width, end_of, Rise}
use Rattle.core_tree.specs.Data.{global_address}
use Rattle.core_tree.specs.LawfulCore.{Every}
use Rattle.core_tree.specs.declared.program.Core.{Core}
use Rattle.matching.proofs.Lying.{each}
use Rattle.matching.specs.Covering.{IsOther, Apart}
use Rattle.matching.specs.Laid.{slot_of, slots_in, EndsBefore, AreApart, AreLaid, HasScalar, StandsAt}
use Rattle.matching.specs.Laws.{StandsAlone}
use Rattle.matching.specs.Matches.{Placed, placed_from, local_address, placed_in_calls, placed, address_of}

-- ---- a scalar among others

pub width_some : (k : Kind) → 1 ≤ width k
width_some kind.Char = omega arith
width_some kind.Int = omega arith
width_some kind.UInt = omega arith
width_some kind.Pointer = omega arith

-- each scalar of these begins at an offset or later
begins : (low o : ℕ) (k : Kind) (cs : List Scalar) → Every (λ s. low ≤ s.offset) (map slot_of cs) → HasScalar o k cs → low ≤ o
begins low o k [] h e = absurd e
begins low o k (c ∷ cs) h (inl e) = let l = h.0 in let same = e.0 in omega arith
begins low o k (c ∷ cs) h (inr e) = begins low o k cs h.1 e

none_at : (low o : ℕ) (k : Kind) (cs : List Scalar) → o < low → Every (λ s. low ≤ s.offset) (map slot_of cs)
    → Every (λ c. c.offset ≡ o → c.kind ≡ k) cs
none_at low o k [] l h = tt
none_at low o k (c ∷ cs) l h = ((λ e. let m = h.0 in absurd (omega arith)), none_at low o k cs l h.1)

-- there is one scalar at an offset
only_kind : (o : ℕ) (k : Kind) (cs : List Scalar) → Rise (map slot_of cs) → HasScalar o k cs
    → Every (λ c. c.offset ≡ o → c.kind ≡ k) cs
only_kind o k [] h e = absurd e
only_kind o k (c ∷ cs) h (inl e) =
    let w = width_some c.kind in
    let same = e.0 in
    ((λ x. e.1), none_at (end_of (slot_of c)) o k cs (omega arith) h.0)
only_kind o k (c ∷ cs) h (inr e) =
    let w = width_some c.kind in
    let l = begins (end_of (slot_of c)) o k cs h.0 e in
    ((λ x. absurd (omega arith)), only_kind o k cs h.1 e)

pub ends : (base high o : ℕ) (k : Kind) (cs : List Scalar) → Every (λ s. base + end_of s ≤ high) (map slot_of cs)
    → HasScalar o k cs
    → base + o < high
ends base high o k [] h e = absurd e
ends base high o k (c ∷ cs) h (inl e) = let w = width_some c.kind in let l = h.0 in let same = e.0 in omega arith
ends base high o k (c ∷ cs) h (inr e) = ends base high o k cs h.1 e

-- ---- an object among others

own_scalars : (n base o : ℕ) (k : Kind) (p : Placed) (cs : List Scalar) → p.object.number ≡ n → p.address ≡ base
    → Every (λ c. c.offset ≡ o → c.kind ≡ k) cs → Every (IsOther n base o k p) cs
own_scalars n base o k p [] is at h = tt
own_scalars n base o k p (c ∷ cs) is at h = (
  record { apart = λ e. let offset : c.offset ≡ o = omega arith in (is, offset, h.0 offset) },
  own_scalars n base o k p cs
      is at h.1,
)

above : (n base o : ℕ) (k : Kind) (p : Placed) (cs : List Scalar) → base + o < p.address → Every (IsOther n base o k p) cs
above n base o k p [] l = tt
above n base o k p (c ∷ cs) l = (record { apart = λ e. absurd (omega arith) }, above n base o k p cs l)

below : (n base o : ℕ) (k : Kind) (p : Placed) (cs : List Scalar) → Every (λ s. p.address + end_of s ≤ base) (map slot_of cs)
    → Every (IsOther n base o k p) cs
below n base o k p [] h = tt
below n base o k p (c ∷ cs) h =
    let w = width_some c.kind in
    let l = h.0 in
    (record { apart = λ e. absurd (omega arith) }, below n base o k p cs h.1)

-- the object itself
its_own : (n base o : ℕ) (k : Kind) (p : Placed) → p.object.number ≡ n → p.address ≡ base → Rise (slots_in p)
    → HasScalar o k p.object.cells → Apart n base o k p
its_own n base o k p is at rise has = record {
  here = λ e. at;
  scalars = own_scalars n base o k p p.object.cells is at (only_kind o k p.object.cells rise has);
}

-- another one, whichever ends first
another : (n base o : ℕ) (k : Kind) (p q : Placed) → p.object.number ≡ n → p.address ≡ base → HasScalar o k p.object.cells
    → (q.object.number ≢ n) → EndsBefore q.address p ⊎ EndsBefore p.address q → Apart n base o k q
another n base o k p q is at has other bytes = record { here = λ e. absurd (other e); scalars = from bytes }
  where
    from : EndsBefore q.address p ⊎ EndsBefore p.address q → Every (IsOther n base o k q) q.object.cells
    from (inl h) =
        let l = ends p.address q.address o k p.object.cells h has in
        above n base o k q q.object.cells (omega arith)
    from (inr h) =
        below n base o k q q.object.cells (subst (λ (x : ℕ). Every (λ s. q.address + end_of s ≤ x) (slots_in q)) at h)

flipped : (a b : Type 0) → a ⊎ b → b ⊎ a
flipped a b (inl x) = inr x
flipped a b (inr x) = inl x

others_behind : (n base o : ℕ) (k : Kind) (p : Placed) (ps : List Placed) → p.object.number ≡ n → p.address ≡ base
    → HasScalar o k p.object.cells → Every (AreApart p) ps → Every (Apart n base o k) ps
others_behind n base o k p ps is at has h =
    each (AreApart p) (Apart n base o k) ps (λ q a. another n base o k p q is at has (λ e. a.numbers (is ∙ sym e)) a.bytes) h

-- an object before the one that is meant
before_it : (n base o : ℕ) (k : Kind) (q : Placed) (ps : List Placed) → Every (AreApart q) ps → StandsAt n base o k ps
    → Apart n base o k q
before_it n base o k q [] h s = absurd s
before_it n base o k q (p ∷ ps) h (inl s) =
    another n base o k p q s.0 s.1 s.2 (λ e. h.0.numbers (e ∙ sym s.0))
    (flipped (EndsBefore p.address q) (EndsBefore q.address p) h.0.bytes)
before_it n base o k q (p ∷ ps) h (inr s) = before_it n base o k q ps h.1 s

-- where no two objects share a byte, no other scalar stands where one is
pub laid_apart : (n base o : ℕ) (k : Kind) (ps : List Placed) → AreLaid ps → StandsAt n base o k ps → Every (Apart n base o k) ps
laid_apart n base o k [] h s = tt
laid_apart n base o k (p ∷ ps) h (inl s) =
    (its_own n base o k p s.0 s.1 h.0 s.2, others_behind n base o k p ps s.0 s.1 s.2 h.1)
laid_apart n base o k (p ∷ ps) h (inr s) = (before_it n base o k p ps h.1 s, laid_apart n base o k ps h.2 s)

-- ---- what is accessed

-- the object n has an address, and a scalar there
pub record Found (n offset : ℕ) (k : Kind) (ps : List Placed) : Type 0 where
  pub address : ℕ
  pub is : address_of ps n ≡ Some address
  pub stands : StandsAt n address offset k ps

-- where an object was found it is, and where not it is among the rest
abbrev Lookup : ℕ → ℕ → Kind → Option Object → List Placed → List Placed → Type 0
Lookup n o k (Some x) ps rest = HasScalar o k x.cells → Found n o k ps
Lookup n o k None ps rest = Found n o k rest → Found n o k ps

in_front : (n o : ℕ) (k : Kind) (p : Placed) (ps : List Placed) → p.object.number ≡ n → HasScalar o k p.object.cells
    → Found n o k (p ∷ ps)
in_front n o k p ps is h = record {
  address = p.address;
  is = ap (λ (t : Bool). if t then Some p.address else address_of ps n) (eq-eqb p.object.number n is);
  stands = inl (is, refl, h);
}

further : (n o : ℕ) (k : Kind) (p : Placed) (ps : List Placed) → p.object.number ≢ n → Found n o k ps → Found n o k (p ∷ ps)
further n o k p ps other f = record {
  address = f.address;
  is = ap (λ (t : Bool). if t then Some p.address else address_of ps n) (ne_eqb p.object.number n other) ∙ f.is;
  stands = inr f.stands;
}

lookup : (n o : ℕ) (k : Kind) (address : ℕ → ℕ) (i : ℕ) (xs : List Object) (rest : List Placed)
    → Lookup n o k (find_object n xs) (placed_from address i xs ++ rest) rest
lookup n o k address i [] rest = λ f. f
lookup n o k address i (x ∷ xs) rest = from (nat_eq x.number n) refl (find_object n xs) (lookup n o k address (i + 1) xs rest)
  where
    ps : List Placed
    ps = placed_from address (i + 1) xs ++ rest

    from : (t : Bool) → nat_eq x.number n ≡ t → (found : Option Object)
        → Lookup n o k found (placed_from address (i + 1) xs ++ rest) rest
        → Lookup n o k (if t then Some x else found) (record { object = x; address = address i } ∷
        (placed_from address (i + 1) xs ++ rest)) rest
    from true e found h =
        λ has. in_front n o k (record { object = x; address = address i }) (placed_from address (i + 1) xs ++ rest)
        (eqb-true x.number n e) has
    from false e None h =
        λ f. further n o k (record { object = x; address = address i }) (placed_from address (i + 1) xs ++ rest)
        (eqb-false x.number n e) (h f)
    from false e (Some y) h =
        λ has. further n o k (record { object = x; address = address i }) (placed_from address (i + 1) xs ++ rest)
        (eqb-false x.number n e) (h has)

-- two lookups, one behind the other
joined : (n o : ℕ) (k : Kind) (a b : Option Object) (ps rest more : List Placed) → Lookup n o k a ps rest
    → Lookup n o k b rest more
    → Lookup n o k (or_else a b) ps more
joined n o k None None ps rest more h g = λ f. h (g f)
joined n o k None (Some y) ps rest more h g = λ has. h (g has)
joined n o k (Some x) b ps rest more h g = h

lookup_calls : (n o : ℕ) (k : Kind) (core : Core) (cs : List Call)
    → Lookup n o k (find_local n cs) (placed_in_calls core cs) []
lookup_calls n o k core [] = λ f. f
lookup_calls n o k core (c ∷ cs) =
    joined n o k (find_object n c.locals) (find_local n cs) (placed_in_calls core (c ∷ cs)) (placed_in_calls core cs) []
    (lookup n o k (local_address core c) 0 c.locals (placed_in_calls core cs)) (lookup_calls n o k core cs)

lookup_all : (n o : ℕ) (k : Kind) (core : Core) (s : State) → Lookup n o k (object_of s n) (placed core (kept s)) []
unfolding object_of
lookup_all n o k core s =
    joined n o k (find_object n s.globals) (find_local n s.calls) (placed core (kept s)) (placed_in_calls core s.calls) []
    (lookup n o k (global_address core) 0 s.globals (placed_in_calls core s.calls)) (lookup_calls n o k core s.calls)

same_kinds : (a b : Kind) → same_kind a b ≡ true → a ≡ b
same_kinds kind.Char kind.Char e = refl
same_kinds kind.Int kind.Int e = refl
same_kinds kind.UInt kind.UInt e = refl
same_kinds kind.Pointer kind.Pointer e = refl
same_kinds kind.Char kind.Int e = cc
same_kinds kind.Char kind.UInt e = cc
same_kinds kind.Char kind.Pointer e = cc
same_kinds kind.Int kind.Char e = cc
same_kinds kind.Int kind.UInt e = cc
same_kinds kind.Int kind.Pointer e = cc
same_kinds kind.UInt kind.Char e = cc
same_kinds kind.UInt kind.Int e = cc
same_kinds kind.UInt kind.Pointer e = cc
same_kinds kind.Pointer kind.Char e = cc
same_kinds kind.Pointer kind.Int e = cc
same_kinds kind.Pointer kind.UInt e = cc

abbrev accessed_if : Bool → Value → Result Value ℕ
accessed_if t v = if t then Ok v else Err 5

has_cell : (o : ℕ) (k : Kind) (v : Value) (cs : List Scalar) → value_in k (find_cell o cs) ≡ Ok v → HasScalar o k cs
has_cell o k v [] e = absurd (cc)
has_cell o k v (c ∷ cs) e = from (λ h. has_cell o k v cs h) (nat_eq c.offset o) refl e
  where
    kinds : (t : Bool) → same_kind c.kind k ≡ t → accessed_if t c.value ≡ Ok v → c.kind ≡ k
    kinds true is h = same_kinds c.kind k is
    kinds false is h = absurd (cc)

    from : (value_in k (find_cell o cs) ≡ Ok v → HasScalar o k cs) → (t : Bool) → nat_eq c.offset o ≡ t
        → value_in k (if t then Some c else find_cell o cs) ≡ Ok v → HasScalar o k (c ∷ cs)
    from rest true is h = inl (eqb-true c.offset o is, kinds (same_kind c.kind k) refl h)
    from rest false is h = inr (rest h)

found_by : (n o : ℕ) (k : Kind) (v : Value) (x : Option Object) (ps : List Placed) → Lookup n o k x ps [] → value_of o k x ≡ Ok v
    → Found n o k ps
found_by n o k v None ps h e = absurd (cc)
found_by n o k v (Some x) ps h e = h (has_cell o k v x.cells e)

-- what is accessed stands at the address of its object
pub accessed_found : (core : Core) (s : State) (n o : ℕ) (k : Kind) (v : Value)
    → accessed s (record { object = Some n; offset = o }) k ≡ Ok v → Found n o k (placed core (kept s))
unfolding accessed
accessed_found core s n o k v e = found_by n o k v (object_of s n) (placed core (kept s)) (lookup_all n o k core s) e

-- and it stands alone where no two objects share a byte
pub stands_alone : (core : Core) (s : State) (n offset : ℕ) (k : Kind) (v : Value) → AreLaid (placed core (kept s))
    → accessed s (at n offset) k ≡ Ok v → StandsAlone core s n offset k
stands_alone core s n offset k v laid e =
    let f = accessed_found core s n offset k v e in
    record { address = f.address; is = f.is; apart = laid_apart n f.address offset k (placed core (kept s)) laid f.stands }
