-- What the scalars of a variable begin with is lawful: values of their types, null pointers, and addresses inside variables that
-- are declared by then.
use Rattle.std.proofs.Common.{◌≡◌, ℕ, zero, suc, ◌+◌, ◌<◌, ◌≤◌, Bool, true, false, not, ◌&&◌, cond, List, [], ◌∷◌, ◌++◌, map, length, get_or, slice_get, Option, Some, None, ℤ, pos, refl, sym, ap, subst, ◌∙◌, rules, arith}
use Rattle.std.proofs.lemmas.Option.{slice_get_within}
use Rattle.base16.specs.declared.integer.IntType.{IntType}
use Rattle.base16.specs.declared.integer.IntType.TheVariants.{Char, Int, UInt}
use Rattle.core_tree.specs.declared.types.Ty.{Ty, out-Ty, ind-Ty, roll-Ty, map-Ty, the_lemmas as type_lemmas}
use Rattle.core_tree.specs.declared.types.Ty.TheVariants as ty
use Rattle.core_tree.specs.declared.types.Ty.TheOpen.{Ty-F}
use Rattle.core_tree.specs.declared.types.Slot.{Slot}
use Rattle.core_tree.specs.declared.types.Struct.{Struct}
use Rattle.core_tree.specs.declared.types.Member.{Member}
use Rattle.core_tree.specs.declared.expressions.Expr.{Expr}
use Rattle.core_tree.specs.declared.expressions.Place.{Place}
use Rattle.core_tree.specs.declared.expressions.ExprKind.{ExprKind, out-ExprKind, the_lemmas as kind_lemmas}
use Rattle.core_tree.specs.declared.expressions.ExprKind.TheVariants as k
use Rattle.core_tree.specs.declared.expressions.PlaceKind.{out-PlaceKind}
use Rattle.core_tree.specs.declared.expressions.ExprKind.TheOpen.{ExprKind-F}
use Rattle.core_tree.specs.declared.expressions.PlaceKind.{PlaceKind}
use Rattle.core_tree.specs.declared.program.Core.{Core}
use Rattle.core_tree.specs.declared.program.Global.{Global}
use Rattle.core_tree.specs.declared.program.Initial.{Initial}
use Rattle.core_tree.specs.declared.program.Initial.TheVariants as initial
use Rattle.core_tree.specs.Lawful.{Scope, IsExpr, HasType, IsPlace, is_array}
use Rattle.core_tree.specs.LawfulCore.{Every, OnSome, IsObject, AreStructs, IsInitial, AreInitials, repeated, leaves_in, struct_leaves, scalar_types}
use Rattle.core_tree.specs.Layout.{size_of}
use Rattle.core_tree.specs.Reaching.{joined}
use Rattle.core_tree.specs.Rules.{is_value, is_scalar, scalar_layer, zero_layer}
use Rattle.c_rules.specs.Constants.{value}
use Rattle.c_checking.specs.Constants.{Address, is_variable, address, address_value, pointer_value, without_const, integer_value, initial_by, initial_value}
use Rattle.c_checking.specs.Initialisers.{Given, or_zero, initial_in, initials}
use Rattle.c_checking_laws.specs.Standing.{Begins}
use Rattle.c_checking_laws.proofs.Lists.{get_in, every_more}
use Rattle.c_checking_laws.proofs.Sizes.{leaves-Void, leaves-Num, leaves-Pointer, leaves-Array, leaves-Struct}
use Rattle.c_checking_laws.proofs.Values.{constant_is_value}
use Rattle.c_checking_laws.proofs.Initialisers.{Puts}
use Rattle.c_checking_laws.proofs.Extents.{object_byte}
use Rattle.c_checking_laws.proofs.Addresses.{Inside, place_inside}

-- ---- scalars are integers and pointers

abbrev pub Scalars : List Ty → Type 0
Scalars ts = Every (λ t. is_scalar t ≡ true) ts

scalar_Num : (t : IntType) → is_scalar (ty.Num t) ≡ true
unfolding is_scalar
scalar_Num t = search (rules, type_lemmas)

scalar_Pointer : (to : Ty) (r : Bool) → is_scalar (ty.Pointer to r) ≡ true
unfolding is_scalar
scalar_Pointer to r = search (rules, type_lemmas)

abbrev HasScalars : Ty → Type 0
HasScalars t = (known : List (List Ty)) → Every Scalars known → Scalars (leaves_in known t)

scalars_times : (n : ℕ) (ts : List Ty) → Scalars ts → Scalars (repeated n ts)
scalars_times zero ts p = tt
scalars_times (suc n) ts p = every_more (λ t. is_scalar t ≡ true) ts (repeated n ts) p (scalars_times n ts p)

scalars_at : (known : List (List Ty)) (n : ℕ) → Every Scalars known → Scalars (get_or known n [])
scalars_at [] n all = tt
scalars_at (ts ∷ known) zero all = all.0
scalars_at (ts ∷ known) (suc n) all = scalars_at known n all.1

module _ {A : Type 0} (inner : A → Ty) (deeper : (a : A) → HasScalars (inner a)) where
  scalars_layer : (x : Ty-F Ty) (y : Ty-F A) → map-Ty A Ty inner y ≡ x → HasScalars (roll-Ty x)
  scalars_layer x Ty-F.Void is known all =
      let h : roll-Ty x ≡ ty.Void = search (rules, type_lemmas) in
      rw h (subst Scalars (sym (leaves-Void known)) tt)
  scalars_layer x (Ty-F.Num t) is known all =
      let h : roll-Ty x ≡ ty.Num t = search (rules, type_lemmas) in
      rw h (subst Scalars (sym (leaves-Num known t)) (scalar_Num t, tt))
  scalars_layer x (Ty-F.Pointer to r) is known all =
      let h : roll-Ty x ≡ ty.Pointer (inner to) r = search (rules, type_lemmas) in
      rw h (subst Scalars (sym (leaves-Pointer known (inner to) r)) (scalar_Pointer (inner to) r, tt))
  scalars_layer x (Ty-F.Array of n) is known all =
      let h : roll-Ty x ≡ ty.Array (inner of) n = search (rules, type_lemmas) in
      rw h (subst Scalars (sym (leaves-Array known (inner of) n))
      (scalars_times n (leaves_in known (inner of)) (deeper of known all)))
  scalars_layer x (Ty-F.Struct tag) is known all =
      let h : roll-Ty x ≡ ty.Struct tag = search (rules, type_lemmas) in
      rw h (subst Scalars (sym (leaves-Struct known tag)) (scalars_at known tag all))

has_scalars : (t : Ty) → HasScalars t
has_scalars = ind-Ty HasScalars (λ x y is. scalars_layer (λ e. e.0) (λ e. e.1) x y is)

members_scalars : (known : List (List Ty)) (ms : List Member) → Every Scalars known
    → Scalars (joined (map (λ (m : Member). leaves_in known m.ty) ms))
members_scalars known [] all = tt
members_scalars known (m ∷ ms) all =
    every_more (λ t. is_scalar t ≡ true) (leaves_in known m.ty) (joined (map (λ (m : Member). leaves_in known m.ty) ms))
    (has_scalars m.ty known all) (members_scalars known ms all)

structs_scalars : (known : List (List Ty)) (ss : List Struct) → Every Scalars known → Every Scalars (struct_leaves known ss)
structs_scalars known [] all = all
structs_scalars known (s ∷ ss) all =
    let own : List Ty = joined (map (λ (m : Member). leaves_in known m.ty) s.members) in
    structs_scalars (known ++ own ∷ []) ss
    (every_more Scalars known (own ∷ []) all (members_scalars known s.members all, tt))

pub are_scalars : (core : Core) (t : Ty) → Scalars (scalar_types core t)
are_scalars core t = has_scalars t (struct_leaves [] core.structs) (structs_scalars [] core.structs tt)

-- ---- what the parts of a pointer's initialiser are

-- what a kind of expression is that has the type of a pointer
abbrev Pointed : Scope → ExprKind-F ExprKind PlaceKind Expr Place → Type 0
Pointed s (ExprKind-F.Constant n) = n ≡ pos 0
Pointed s (ExprKind-F.Address p) = (t : Ty) × IsPlace s p t
Pointed s (ExprKind-F.Convert e) = (t : Ty) × (IsExpr s e t × (zero_layer (out-Ty t) ≡ true))
Pointed s _ = Unit {0}

is_pointer : (to : Ty) (r : Bool) → zero_layer (out-Ty (ty.Pointer to r)) ≡ true
is_pointer to r = search (rules, type_lemmas)

not_number : (t : IntType) → zero_layer (out-Ty (ty.Num t)) ≡ true → ⊥
not_number t is = search (rules, type_lemmas)

module _ (s : Scope) where
  at_kind : (kind : ExprKind) (z : ExprKind-F ExprKind PlaceKind Expr Place) → out-ExprKind kind ≡ z → Pointed s z
      → Pointed s (out-ExprKind kind)
  at_kind kind z is p = subst (λ y. Pointed s y) (sym is) p

  pointed : (kind : ExprKind) (u : Ty) → HasType s kind u → zero_layer (out-Ty u) ≡ true → Pointed s (out-ExprKind kind)
  pointed _ _ (HasType.integer_constant n t within) is = absurd (not_number t is)
  pointed _ _ (HasType.null_constant to r) is =
      at_kind (k.Constant (pos 0)) (ExprKind-F.Constant (pos 0)) (search (rules, kind_lemmas)) refl
  pointed _ _ (HasType.read p t i scalar) is = at_kind (k.Read p) (ExprKind-F.Read p) (search (rules, kind_lemmas)) tt
  pointed _ _ (HasType.decayed p of count r i c un) is =
      at_kind (k.Address p) (ExprKind-F.Address p) (search (rules, kind_lemmas)) (ty.Array of count, i)
  pointed _ _ (HasType.address p t r i a c un) is =
      at_kind (k.Address p) (ExprKind-F.Address p) (search (rules, kind_lemmas)) (t, i)
  pointed _ _ (HasType.integer_converted e from to i) is = absurd (not_number to is)
  pointed _ _ (HasType.pointer_converted e to i) is =
      at_kind (k.Convert e) (ExprKind-F.Convert e) (search (rules, kind_lemmas)) (ty.Pointer to false, (i, is_pointer to false))
  pointed _ _ (HasType.signed o e t other computed i) is = absurd (not_number t is)
  pointed _ _ (HasType.negated e t i scalar) is = absurd (not_number Int is)
  pointed _ _ (HasType.binary o t a b other computed i j) is =
      at_kind (k.Binary o t a b) (ExprKind-F.Binary o t a b) (search (rules, kind_lemmas)) tt
  pointed _ _ (HasType.shift o t by a b other computed also i j) is = absurd (not_number t is)
  pointed _ _ (HasType.pointer_plus minus a b to r by c i j) is =
      at_kind (k.PointerPlus minus a b) (ExprKind-F.PointerPlus minus a b) (search (rules, kind_lemmas)) tt
  pointed _ _ (HasType.plus_pointer a b to r by c i j) is =
      at_kind (k.PointerPlus false a b) (ExprKind-F.PointerPlus false a b) (search (rules, kind_lemmas)) tt
  pointed _ _ (HasType.difference a b to r q c i j) is = absurd (not_number Int is)
  pointed _ _ (HasType.compared o a b to r q c d i j) is = absurd (not_number Int is)
  pointed _ _ (HasType.both a b t u i j p q) is = absurd (not_number Int is)
  pointed _ _ (HasType.either a b t u i j p q) is = absurd (not_number Int is)
  pointed _ _ (HasType.integer_branches test a b u t i p computed j l) is = absurd (not_number t is)
  pointed _ _ (HasType.pointer_branches test a b t to r i p j l) is =
      at_kind (k.Conditional test a b) (ExprKind-F.Conditional test a b) (search (rules, kind_lemmas)) tt
  pointed _ _ (HasType.assigned p x t marked st i) is =
      at_kind (k.Assign p x marked) (ExprKind-F.Assign p x marked) (search (rules, kind_lemmas)) tt
  pointed _ _ (HasType.updated o t own p x old marked a b c st i) is = absurd (not_number own is)
  pointed _ _ (HasType.shifted o own by p x old marked a b st i) is = absurd (not_number own is)
  pointed _ _ (HasType.moved o to r by p x old marked a b st i) is =
      at_kind (k.Update o None p x old marked) (ExprKind-F.Update o None p x old marked) (search (rules, kind_lemmas)) tt
  pointed _ _ (HasType.called n f args a b c) is =
      at_kind (k.Call n args) (ExprKind-F.Call n args) (search (rules, kind_lemmas)) tt
  pointed _ _ (HasType.sensed channel below) is = absurd (not_number UInt is)
  pointed _ _ (HasType.emitted e i) is = at_kind (k.Emit e) (ExprKind-F.Emit e) (search (rules, kind_lemmas)) tt
  pointed _ _ (HasType.checkpoint) is = at_kind k.Checkpoint ExprKind-F.Checkpoint (search (rules, kind_lemmas)) tt
  pointed _ _ (HasType.sequence a b t u i j p) is =
      at_kind (k.Comma a b) (ExprKind-F.Comma a b) (search (rules, kind_lemmas)) tt

  has_type : (e : Expr) (t : Ty) → IsExpr s e t → (e.ty ≡ t) × HasType s e.kind t
  has_type _ _ (IsExpr.is_expr e t at has) = (at, has)

  expr_pointed : (e : Expr) (t : Ty) → IsExpr s e t → zero_layer (out-Ty t) ≡ true → Pointed s (out-ExprKind e.kind)
  expr_pointed e t i is = pointed e.kind t (has_type e t i).1 is

-- ---- one scalar

zero_fits : (t : IntType) → is_value t (pos 0) ≡ true
zero_fits Char = refl
zero_fits Int = refl
zero_fits UInt = refl

-- a variable whose own number is this sees those of a part of the program, and itself
module _ (core : Core) (own : ℕ) (s : Scope) (structs : List Struct) (first : Begins structs s.core.structs)
    (same : s.core.structs ≡ core.structs) (all : AreStructs s.core 0 s.core.structs)
    (variables : Every (λ (g : Global). IsObject s.core g.ty) s.core.globals)
    (begins : Begins s.core.globals core.globals) (last : length s.core.globals ≡ own + 1) where
  -- what a pointer begins with
  abbrev Begun : Option Initial → Type 0
  Begun None = Unit {0}
  Begun (Some (initial.Int n)) = n ≡ pos 0
  Begun (Some (initial.Address n offset)) =
      (n ≤ own) × ((g : Global) → slice_get core.globals n ≡ Some g → offset < size_of core.structs g.ty)

  inside_begun : (t : Ty) (a : Address) → Inside s t a → Begun (Some (initial.Address a.global a.offset))
  inside_begun t a i = (declared, below)
    where
      declared : a.global ≤ own
      declared =
          let h : a.global < length s.core.globals =
          slice_get_within s.core.globals a.global i.variable i.is_variable in omega arith

      below : (g : Global) → slice_get core.globals a.global ≡ Some g → a.offset < size_of core.structs g.ty
      below g at =
          let h : slice_get core.globals a.global ≡ Some i.variable =
          get_in s.core.globals core.globals a.global i.variable begins i.is_variable in
          let e : i.variable ≡ g = same_got (slice_get core.globals a.global) i.variable g h at in
          let b : 1 ≤ size_of s.core.structs t = object_byte s.core t all i.object in
          let c : size_of s.core.structs i.variable.ty ≡ size_of core.structs g.ty =
          ap (λ ss. size_of ss i.variable.ty) same ∙ ap (λ (z : Global). size_of core.structs z.ty) e in
          ends a.offset (size_of s.core.structs t) (size_of s.core.structs i.variable.ty) (size_of core.structs g.ty) i.ends b c
        where
          same_got : (o : Option Global) (x y : Global) → o ≡ Some x → o ≡ Some y → x ≡ y
          same_got o x y p q = let e : Some x ≡ Some y = sym p ∙ q in cc

          ends : (offset size whole all : ℕ) → offset + size ≤ whole → 1 ≤ size → whole ≡ all → offset < all
          ends offset size whole all p q r = omega arith

  address_inside : (p : Place) (t : Ty) (a : Address) → IsPlace s p t → address structs p ≡ Some a → Inside s t a
  unfolding address
  address_inside p t a i at = place_inside s structs first all variables p t a i at

  address_by : (p : Place) (t : Ty) (o : Option Address) (b : Bool) → IsPlace s p t → address structs p ≡ o
      → Begun (address_value (cond b None o))
  address_by p t o true i at = tt
  address_by p t None false i at = tt
  address_by p t (Some a) false i at = inside_begun t a (address_inside p t a i at)

  pointer_begun : (z : ExprKind-F ExprKind PlaceKind Expr Place) → Pointed s z → Begun (pointer_value structs z)
  pointer_begun (ExprKind-F.Constant n) p = p
  pointer_begun (ExprKind-F.Address q) p =
      address_by q p.0 (address structs q) (is_array q.ty && not (is_variable (out-PlaceKind q.kind))) p.1 refl
  pointer_begun _ p = tt

  converted_begun : (z : ExprKind-F ExprKind PlaceKind Expr Place) → Pointed s z
      → Begun (pointer_value structs (without_const z))
  converted_begun (ExprKind-F.Convert e) p = pointer_begun (out-ExprKind e.kind) (expr_pointed s e p.0 p.1.0 p.1.1)
  converted_begun (ExprKind-F.Constant n) p = pointer_begun (ExprKind-F.Constant n) p
  converted_begun (ExprKind-F.Address q) p = pointer_begun (ExprKind-F.Address q) p
  converted_begun _ p = tt

  begun_initial : (to : Ty) (r : Bool) (o : Option Initial) → Begun o → IsInitial core own (Ty-F.Pointer to r) (or_zero o)
  begun_initial to r None p = refl
  begun_initial to r (Some (initial.Int n)) p = p
  begun_initial to r (Some (initial.Address n offset)) p = p

  number_by : (e : Expr) (y : IntType) (o : Option ℤ) → IsExpr s e (ty.Num y) → value e ≡ o
      → IsInitial core own (Ty-F.Num y) (or_zero (integer_value o))
  number_by e y None i at = zero_fits y
  number_by e y (Some n) i at = constant_is_value s e y n i at

  value_by : (e : Expr) (t : Ty) (l : Ty-F Ty) → IsExpr s e t → out-Ty t ≡ l → scalar_layer l ≡ true
      → IsInitial core own l (or_zero (initial_by structs e l))
  value_by e t (Ty-F.Num y) i at scalar =
      let h : t ≡ ty.Num y = search (rules, type_lemmas) in
      number_by e y (value e) (subst (λ u. IsExpr s e u) h i) refl
  value_by e t (Ty-F.Pointer to r) i at scalar =
      let h : zero_layer (out-Ty t) ≡ true = ap zero_layer at in
      begun_initial to r (pointer_value structs (without_const (out-ExprKind e.kind)))
      (converted_begun (out-ExprKind e.kind) (expr_pointed s e t i h))
  value_by e t _ i at scalar = absurd (search rules)

  zero_by : (l : Ty-F Ty) → scalar_layer l ≡ true → IsInitial core own l (initial.Int (pos 0))
  zero_by (Ty-F.Num y) scalar = zero_fits y
  zero_by (Ty-F.Pointer to r) scalar = refl
  zero_by _ scalar = absurd (search rules)

  scalar_initial : (t : Ty) (v : Option Given) → is_scalar t ≡ true → OnSome (λ (g : Given). IsExpr s g.value t) v
      → IsInitial core own (out-Ty t) (initial_in structs v)
  unfolding is_scalar initial_value
  scalar_initial t None scalar i = zero_by (out-Ty t) scalar
  scalar_initial t (Some g) scalar i =
      let h : out-Ty g.value.ty ≡ out-Ty t = ap out-Ty (has_type s g.value t i).0 in
      subst (λ l. IsInitial core own (out-Ty t) (or_zero (initial_by structs g.value l))) (sym h)
      (value_by g.value t (out-Ty t) i refl scalar)

  -- ---- all scalars

  -- nothing is put into any
  pub none_initial : (slots : List Slot) (ts : List Ty) → length slots ≡ length ts → Scalars ts
      → AreInitials core own ts (initials structs slots [])
  unfolding is_scalar
  none_initial [] [] count scalars = tt
  none_initial [] (t ∷ ts) count scalars = absurd (omega arith)
  none_initial (slot ∷ slots) [] count scalars = absurd (omega arith)
  none_initial (slot ∷ slots) (t ∷ ts) count scalars =
      (zero_by (out-Ty t) scalars.0, none_initial slots ts (omega arith) scalars.1)

  -- in each stands nothing or a value of its type
  pub puts_initial : (slots : List Slot) (ts : List Ty) (vs : List (Option Given)) → length slots ≡ length ts → Scalars ts
      → Puts s ts vs → AreInitials core own ts (initials structs slots vs)
  puts_initial [] [] vs count scalars p = tt
  puts_initial [] (t ∷ ts) vs count scalars p = absurd (omega arith)
  puts_initial (slot ∷ slots) [] vs count scalars p = absurd (omega arith)
  puts_initial (slot ∷ slots) (t ∷ ts) [] count scalars p = absurd p
  puts_initial (slot ∷ slots) (t ∷ ts) (v ∷ vs) count scalars p =
      (scalar_initial t v scalars.0 p.0, puts_initial slots ts vs (omega arith) scalars.1 p.1)
