-- Where a scalar is that a run finds: its object is among those that are alive, and its cell has its code.
use Rattle.std.proofs.Common.{◌≡◌, ℕ, zero, suc, ◌+◌, ◌<◌, refl, sym, ap, ◌∙◌, subst, arith, Bool, true, false, List, [], ◌∷◌, ◌++◌, length, reverse, Option, Some, None, Result, Ok, Err, if◌then◌else◌}
use Rattle.std.proofs.lemmas.Bool.{eqb-true}
use Rattle.std.proofs.lemmas.List.{reverse-append, reverse-reverse}
use Rattle.std.specs.Prelude.{nat_eq}
use Rattle.base16.specs.declared.image.Kind.{Kind}
use Rattle.base16.specs.declared.image.Kind.TheVariants as kind
use Rattle.c_run.specs.Actions.{kept}
use Rattle.c_values.specs.Objects.{same_kind, find_object, or_else, find_local, object_of, find_cell, value_in, value_of, accessed_in, accessed}
use Rattle.c_values.specs.declared.state.Call.{Call}
use Rattle.c_values.specs.declared.state.Object.{Object}
use Rattle.c_values.specs.declared.state.State.{State}
use Rattle.c_values.specs.declared.value.Cell.{Cell as Scalar}
use Rattle.c_values.specs.declared.value.Location.{Location}
use Rattle.c_values.specs.declared.value.Value.{Value}
use Rattle.core_tree.specs.Data.{global_address}
use Rattle.core_tree.specs.LawfulCore.{Every}
use Rattle.core_tree.specs.declared.program.Core.{Core}
use Rattle.matching.specs.Matches.{Placed, placed_from, local_address, placed_in_calls, placed, address_of}
use Rattle.steps430.specs.Setting.{NumberedFrom}

abbrev wrong : ℕ → Result Value ℕ
wrong n = Err n

abbrev fine : Value → Result Value ℕ
fine v = Ok v

some_none {ℓ} : {A : Type ℓ} {X : Type 0} (x : X) → None ≡ Some x → A
some_none x e = absurd (differ e)
  where
    differ : None ≡ Some x → ⊥
    differ k = cc

-- ---- the object of a number

-- It is alive and stands at this address: what holds of all objects that are alive holds of it.
pub record IsFound (ps : List Placed) (n : ℕ) (o : Object) (base : ℕ) : Type 1 where
  pub number : o.number ≡ n
  pub address : address_of ps n ≡ Some base
  pub among : (P : Placed → Type 0) → Every P ps → P (record { object = o; address = base })

every_left : (P : Placed → Type 0) (ps qs : List Placed) → Every P (ps ++ qs) → Every P ps
every_left P [] qs h = tt
every_left P (p ∷ ps) qs h = (h.0, every_left P ps qs h.1)

every_right : (P : Placed → Type 0) (ps qs : List Placed) → Every P (ps ++ qs) → Every P qs
every_right P [] qs h = h
every_right P (p ∷ ps) qs h = every_right P ps qs h.1

address_left : (ps qs : List Placed) (n a : ℕ) → address_of ps n ≡ Some a → address_of (ps ++ qs) n ≡ Some a
address_left [] qs n a e = some_none a e
address_left (p ∷ ps) qs n a e = from (nat_eq p.object.number n) e (λ k. address_left ps qs n a k)
  where
    from : (t : Bool) → (if t then Some p.address else address_of ps n) ≡ Some a
        → (address_of ps n ≡ Some a → address_of (ps ++ qs) n ≡ Some a)
        → (if t then Some p.address else address_of (ps ++ qs) n) ≡ Some a
    from true k more = k
    from false k more = more k

address_right : (ps qs : List Placed) (n : ℕ) → address_of ps n ≡ None → address_of (ps ++ qs) n ≡ address_of qs n
address_right [] qs n e = refl
address_right (p ∷ ps) qs n e = from (nat_eq p.object.number n) e (λ k. address_right ps qs n k)
  where
    from : (t : Bool) → (if t then Some p.address else address_of ps n) ≡ None
        → (address_of ps n ≡ None → address_of (ps ++ qs) n ≡ address_of qs n)
        → (if t then Some p.address else address_of (ps ++ qs) n) ≡ address_of qs n
    from true k more = some_none p.address (sym k)
    from false k more = more k

found_left : (ps qs : List Placed) (n : ℕ) (o : Object) (base : ℕ) → IsFound ps n o base → IsFound (ps ++ qs) n o base
found_left ps qs n o base h = record {
  number = h.number;
  address = address_left ps qs n base h.address;
  among = λ P k. h.among P (every_left P ps qs k);
}

found_right : (ps qs : List Placed) (n : ℕ) (o : Object) (base : ℕ) → address_of ps n ≡ None → IsFound qs n o base
    → IsFound (ps ++ qs) n o base
found_right ps qs n o base none h = record {
  number = h.number;
  address = address_right ps qs n none ∙ h.address;
  among = λ P k. h.among P (every_right P ps qs k);
}

-- among objects one behind the other
missing_from : (address : ℕ → ℕ) (i : ℕ) (os : List Object) (n : ℕ) → find_object n os ≡ None
    → address_of (placed_from address i os) n ≡ None
missing_from address i [] n e = refl
missing_from address i (o ∷ os) n e = from (nat_eq o.number n) e (λ k. missing_from address (i + 1) os n k)
  where
    from : (t : Bool) → (if t then Some o else find_object n os) ≡ None
        → (find_object n os ≡ None → address_of (placed_from address (i + 1) os) n ≡ None)
        → (if t then Some (address i) else address_of (placed_from address (i + 1) os) n) ≡ None
    from true k more = some_none o (sym k)
    from false k more = more k

found_from : (address : ℕ → ℕ) (i : ℕ) (os : List Object) (n : ℕ) (o : Object) → find_object n os ≡ Some o
    → (base : ℕ) × IsFound (placed_from address i os) n o base
found_from address i [] n o e = some_none o e
found_from address i (x ∷ os) n o e = from (nat_eq x.number n) refl e (λ k. found_from address (i + 1) os n o k)
  where
    same : Some x ≡ Some o → x ≡ o
    same k = cc

    from : (t : Bool) → nat_eq x.number n ≡ t → (if t then Some x else find_object n os) ≡ Some o
        → (find_object n os ≡ Some o → (base : ℕ) × IsFound (placed_from address (i + 1) os) n o base)
        → (base : ℕ) × IsFound (placed_from address i (x ∷ os)) n o base
    from true is k more =
        let e = same k in (
          address i,
          record {
            number = ap (λ (y : Object). y.number) (sym e) ∙ eqb-true x.number n is;
            address = ap (λ (b : Bool). if b then Some (address i) else address_of (placed_from address (i + 1) os) n) is;
            among = λ P h. subst (λ (y : Object). P (record { object = y; address = address i })) e h.0;
          },
        )
    from false is k more =
        let m = more k in (
          m.0,
          record {
            number = m.1.number;
            address = ap (λ (b : Bool). if b then Some (address i) else address_of (placed_from address (i + 1) os) n) is
                ∙ m.1.address;
            among = λ P h. m.1.among P h.1;
          },
        )

-- among the objects of calls
found_calls : (core : Core) (cs : List Call) (n : ℕ) (o : Object) → find_local n cs ≡ Some o
    → (base : ℕ) × IsFound (placed_in_calls core cs) n o base
found_calls core [] n o e = some_none o e
found_calls core (c ∷ cs) n o e = from (find_object n c.locals) refl e (λ k. found_calls core cs n o k)
  where
    own : List Placed
    own = placed_from (local_address core c) 0 c.locals

    from : (x : Option Object) → find_object n c.locals ≡ x → or_else x (find_local n cs) ≡ Some o
        → (find_local n cs ≡ Some o → (base : ℕ) × IsFound (placed_in_calls core cs) n o base)
        → (base : ℕ) × IsFound (own ++ placed_in_calls core cs) n o base
    from (Some y) is k more =
        let f = found_from (local_address core c) 0 c.locals n o (is ∙ k) in
        (f.0, found_left own (placed_in_calls core cs) n o f.0 f.1)
    from None is k more =
        let m = more k in
        (m.0, found_right own (placed_in_calls core cs) n o m.0 (missing_from (local_address core c) 0 c.locals n is) m.1)

-- the object of a number that is alive
pub found_object : (core : Core) (s : State) (n : ℕ) (o : Object) → object_of s n ≡ Some o
    → (base : ℕ) × IsFound (placed core (kept s)) n o base
unfolding object_of
found_object core s n o e = from (find_object n s.globals) refl e
  where
    from : (x : Option Object) → find_object n s.globals ≡ x → or_else x (find_local n s.calls) ≡ Some o
        → (base : ℕ) × IsFound (placed core (kept s)) n o base
    from (Some y) is k =
        let f = found_from (λ i. global_address core i) 0 s.globals n o (is ∙ k) in
        (f.0, found_left (placed_from (λ i. global_address core i) 0 s.globals) (placed_in_calls core s.calls) n o f.0 f.1)
    from None is k =
        let m = found_calls core s.calls n o k in (
          m.0,
          found_right (placed_from (λ i. global_address core i) 0 s.globals) (placed_in_calls core s.calls) n o m.0
              (missing_from (λ i. global_address core i) 0 s.globals n is) m.1,
        )

-- and one that is not alive has no address
missing_calls : (core : Core) (cs : List Call) (n : ℕ) → find_local n cs ≡ None → address_of (placed_in_calls core cs) n ≡ None
missing_calls core [] n e = refl
missing_calls core (c ∷ cs) n e = from (find_object n c.locals) refl e (λ k. missing_calls core cs n k)
  where
    own : List Placed
    own = placed_from (local_address core c) 0 c.locals

    from : (x : Option Object) → find_object n c.locals ≡ x → or_else x (find_local n cs) ≡ None
        → (find_local n cs ≡ None → address_of (placed_in_calls core cs) n ≡ None)
        → address_of (own ++ placed_in_calls core cs) n ≡ None
    from (Some y) is k more = some_none y (sym k)
    from None is k more = address_right own (placed_in_calls core cs) n (missing_from (local_address core c) 0 c.locals n is)
        ∙ more k

pub missing_object : (core : Core) (s : State) (n : ℕ) → object_of s n ≡ None → address_of (placed core (kept s)) n ≡ None
unfolding object_of
missing_object core s n e = from (find_object n s.globals) refl e
  where
    from : (x : Option Object) → find_object n s.globals ≡ x → or_else x (find_local n s.calls) ≡ None
        → address_of (placed core (kept s)) n ≡ None
    from (Some y) is k = some_none y (sym k)
    from None is k =
        address_right (placed_from (λ i. global_address core i) 0 s.globals) (placed_in_calls core s.calls) n
        (missing_from (λ i. global_address core i) 0 s.globals n is) ∙ missing_calls core s.calls n k

-- ---- the scalar at an offset

pub record IsScalar (cs : List Scalar) (offset : ℕ) (k : Kind) (v : Value) (c : Scalar) : Type 1 where
  pub place : c.offset ≡ offset
  pub kind : c.kind ≡ k
  pub value : c.value ≡ v
  pub among : (P : Scalar → Type 0) → Every P cs → P c

found_cell : (cs : List Scalar) (offset : ℕ) (c : Scalar) → find_cell offset cs ≡ Some c
    → (c.offset ≡ offset) × ((P : Scalar → Type 0) → Every P cs → P c)
found_cell [] offset c e = some_none c e
found_cell (x ∷ cs) offset c e = from (nat_eq x.offset offset) refl e (λ k. found_cell cs offset c k)
  where
    same : Some x ≡ Some c → x ≡ c
    same k = cc

    from : (t : Bool) → nat_eq x.offset offset ≡ t → (if t then Some x else find_cell offset cs) ≡ Some c
        → (find_cell offset cs ≡ Some c → (c.offset ≡ offset) × ((P : Scalar → Type 0) → Every P cs → P c))
        → (c.offset ≡ offset) × ((P : Scalar → Type 0) → Every P (x ∷ cs) → P c)
    from true is k more =
        let e = same k in (ap (λ (y : Scalar). y.offset) (sym e) ∙ eqb-true x.offset offset is, λ P h. subst P e h.0)
    from false is k more = let m = more k in (m.0, λ P h. m.1 P h.1)

pub kinds_same : (a b : Kind) → same_kind a b ≡ true → a ≡ b
kinds_same kind.Char kind.Char e = refl
kinds_same kind.Int kind.Int e = refl
kinds_same kind.UInt kind.UInt e = refl
kinds_same kind.Pointer kind.Pointer e = refl
kinds_same kind.Char kind.Int e = cc
kinds_same kind.Char kind.UInt e = cc
kinds_same kind.Char kind.Pointer e = cc
kinds_same kind.Int kind.Char e = cc
kinds_same kind.Int kind.UInt e = cc
kinds_same kind.Int kind.Pointer e = cc
kinds_same kind.UInt kind.Char e = cc
kinds_same kind.UInt kind.Int e = cc
kinds_same kind.UInt kind.Pointer e = cc
kinds_same kind.Pointer kind.Char e = cc
kinds_same kind.Pointer kind.Int e = cc
kinds_same kind.Pointer kind.UInt e = cc

-- what an access finds
pub record Accessed (core : Core) (s : State) (l : Location) (k : Kind) (v : Value) : Type 1 where
  pub number : ℕ
  pub object : l.object ≡ Some number
  pub found : Object
  pub base : ℕ
  pub is_found : IsFound (placed core (kept s)) number found base
  pub scalar : Scalar
  pub is_scalar : IsScalar found.cells l.offset k v scalar

pub accesses : (core : Core) (s : State) (l : Location) (k : Kind) (v : Value) → accessed s l k ≡ Ok v → Accessed core s l k v
unfolding accessed
accesses core s l k v e = in_object l.object refl e
  where
    broken : {A : Type 1} (n : ℕ) → wrong n ≡ fine v → A
    broken n j = absurd (differ j)
      where
        differ : wrong n ≡ fine v → ⊥
        differ i = cc

    same : (a : Value) → fine a ≡ fine v → a ≡ v
    same a j = cc

    in_kind : (n : ℕ) (o : Object) (c : Scalar) (t : Bool) → l.object ≡ Some n → object_of s n ≡ Some o
        → find_cell l.offset o.cells ≡ Some c → same_kind c.kind k ≡ t → (if t then fine c.value else wrong 5) ≡ fine v
        → Accessed core s l k v
    in_kind n o c true here there at_c is j =
        let f = found_object core s n o there in
        let g = found_cell o.cells l.offset c at_c in
        record {
          number = n;
          object = here;
          found = o;
          base = f.0;
          is_found = f.1;
          scalar = c;
          is_scalar = record { place = g.0; kind = kinds_same c.kind k is; value = same c.value j; among = g.1 };
        }
    in_kind n o c false here there at_c is j = broken 5 j

    in_cell : (n : ℕ) (o : Object) (c : Option Scalar) → l.object ≡ Some n → object_of s n ≡ Some o
        → find_cell l.offset o.cells ≡ c → value_in k c ≡ Ok v → Accessed core s l k v
    in_cell n o None here there at_c j = broken 5 j
    in_cell n o (Some c) here there at_c j = in_kind n o c (same_kind c.kind k) here there at_c refl j

    in_number : (n : ℕ) (o : Option Object) → l.object ≡ Some n → object_of s n ≡ o → value_of l.offset k o ≡ Ok v
        → Accessed core s l k v
    in_number n None here there j = broken 6 j
    in_number n (Some o) here there j = in_cell n o (find_cell l.offset o.cells) here there refl j

    in_object : (x : Option ℕ) → l.object ≡ x → accessed_in s l.offset k x ≡ Ok v → Accessed core s l k v
    in_object None here j = broken 7 j
    in_object (Some n) here j = in_number n (object_of s n) here refl j

-- ---- the object at a place among others

-- the n-th of some objects has the n-th number and stands at the n-th address
pub record IsNth (first : ℕ) (address : ℕ → ℕ) (i n : ℕ) (os : List Object) : Type 1 where
  pub object : Object
  pub number : object.number ≡ first + n
  pub among : (P : Placed → Type 0) → Every P (placed_from address i os)
      → P (record { object = object; address = address (i + n) })

pub nth_object : (first : ℕ) (address : ℕ → ℕ) (i n : ℕ) (os : List Object) → NumberedFrom first os → n < length os
    → IsNth first address i n os
nth_object first address i n [] h few = absurd (omega arith)
nth_object first address i zero (o ∷ os) h few =
    let same : i ≡ i + 0 = omega arith in
    record {
      object = o;
      number = h.0 ∙ (let e : first ≡ first + 0 = omega arith in e);
      among = λ P k. subst (λ (j : ℕ). P (record { object = o; address = address j })) same k.0;
    }
nth_object first address i (suc n) (o ∷ os) h few =
    let m = nth_object (first + 1) address (i + 1) n os h.1 (omega arith) in
    let same : i + 1 + n ≡ i + suc n = omega arith in
    record {
      object = m.object;
      number = m.number ∙ (let e : first + 1 + n ≡ first + suc n = omega arith in e);
      among = λ P k. subst (λ (j : ℕ). P (record { object = m.object; address = address j })) same (m.among P k.1);
    }

in_last : (core : Core) (P : Placed → Type 0) (xs : List Call) (c : Call) → Every P (placed_in_calls core (xs ++ c ∷ []))
    → Every P (placed_from (local_address core c) 0 c.locals)
in_last core P [] c h = every_left P (placed_from (local_address core c) 0 c.locals) [] h
in_last core P (x ∷ xs) c h =
    in_last core P xs c (every_right P (placed_from (local_address core x) 0 x.locals) (placed_in_calls core (xs ++ c ∷ [])) h)

-- what holds of all objects holds of those of the youngest call
pub in_youngest : (core : Core) (P : Placed → Type 0) (s : State) (c : Call) (cs : List Call) → reverse s.calls ≡ c ∷ cs
    → Every P (placed core (kept s)) → Every P (placed_from (local_address core c) 0 c.locals)
in_youngest core P s c cs e h =
    let calls : s.calls ≡ reverse cs ++ c ∷ [] = sym (reverse-reverse s.calls) ∙ ap reverse e ∙ reverse-append (c ∷ []) cs in
    in_last core P (reverse cs) c (subst (λ (xs : List Call). Every P (placed_in_calls core xs)) calls
    (every_right P (placed_from (λ i. global_address core i) 0 s.globals) (placed_in_calls core s.calls) h))

-- and of the variables
pub in_globals : (core : Core) (P : Placed → Type 0) (s : State) → Every P (placed core (kept s))
    → Every P (placed_from (λ i. global_address core i) 0 s.globals)
in_globals core P s h = every_left P (placed_from (λ i. global_address core i) 0 s.globals) (placed_in_calls core s.calls) h
