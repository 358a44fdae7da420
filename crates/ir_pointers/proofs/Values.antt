-- Values that are made of values that are inside are inside themselves, and places that are made of places in objects that came
-- to life are so too.
use Rattle.std.proofs.Common.{◌≡◌, ℕ, ◌<◌, ◌≤◌, List, [], ◌∷◌, Option, Some, None, Result, Ok, Err, Bool, true, false, refl, sym, ◌∙◌, subst, arith, cond}
use Rattle.std.proofs.lemmas.Bool.Decides.{nat_tests}
use Rattle.std.specs.Prelude.{ℤ, pos, negsuc, nat_eq, nat_le}
use Rattle.base16.specs.declared.image.Kind.{Kind}
use Rattle.base16.specs.declared.image.Kind.TheVariants as kind
use Rattle.base16.specs.declared.integer.IntType.{IntType}
use Rattle.base16.specs.declared.integer.IntType.TheVariants as int
use Rattle.base16.specs.declared.operator.BinaryOp.{BinaryOp}
use Rattle.base16.specs.declared.operator.UnaryOp.{UnaryOp}
use Rattle.base16.specs.declared.operator.UnaryOp.TheVariants as un
use Rattle.core_tree.specs.LawfulCore.{Every}
use Rattle.c_values.specs.declared.state.Call.{Call}
use Rattle.c_values.specs.declared.state.Object.{Object}
use Rattle.c_values.specs.declared.value.Cell.{Cell}
use Rattle.c_values.specs.declared.value.Location.{Location}
use Rattle.c_values.specs.declared.value.Value.{Value}
use Rattle.c_values.specs.declared.value.Value.TheVariants.{Int, Pointer, Null, Undefined}
use Rattle.c_values.specs.Objects.{same_kind, find_object, find_local, or_else, object_of, find_cell, value_in, value_of, accessed_in, accessed}
use Rattle.c_values.specs.Operators.{binary, unary, number}
use Rattle.c_values.specs.Pointers.{end_of, at, gone, pointed, within, moved_from, further, moved, moved_if, gone_at, element, scaled, sum_with, sum_of, pointer_at, pointer_to, pointer_within, address_in, address_from, address, compared, difference, truth_of}
use Rattle.c_values.specs.Values.{int_value, numbered, present, fitted, fit, right_type, operated, negated, operated_alone, operated_one, converted, defined, if_accessed, or_missing}
use Rattle.c_run.specs.Runs.{Run}
use Rattle.ir.specs.declared.form.Operation.{Operation}
use Rattle.ir.specs.declared.form.Operation.TheVariants as operation
use Rattle.ir.specs.Machine.{numbered_as, computed}
use Rattle.ir_pointers.proofs.Growing.{some_is, IsIn, IsKnownIn, IsInObject, AreInCall, Fine}

-- what is given is fit
abbrev pub OnOk : {A : Type 0} → (A → Type 0) → Result A ℕ → Type 0
OnOk P (Ok a) = P a
OnOk P (Err e) = Unit {0}

abbrev pub Any : {A : Type 0} → A → Type 0
Any a = Unit {0}

pub any_ok : {A : Type 0} (x : Result A ℕ) → OnOk Any x
any_ok (Ok a) = tt
any_ok (Err e) = tt

abbrev IfSome : {A : Type 0} → (A → Type 0) → Option A → Type 0
IfSome P None = Unit {0}
IfSome P (Some a) = P a

at_most : (n m : ℕ) → nat_le n m ≡ true → n ≤ m
at_most n m e = grind (arith, nat_tests)

no_less : (n m : ℕ) → n ≡ m → n ≤ m
no_less n m e = omega (arith, e)

-- ---- what a scalar holds

module _ (r : Run) where
  if_object : (b : Bool) (o : Object) (x : Option Object) → IsInObject r o → IfSome (IsInObject r) x
      → IfSome (IsInObject r) (cond b (Some o) x)
  if_object true o x h i = h
  if_object false o x h i = i

  or_object : (x y : Option Object) → IfSome (IsInObject r) x → IfSome (IsInObject r) y → IfSome (IsInObject r) (or_else x y)
  or_object None y h i = i
  or_object (Some o) y h i = h

  in_objects : (n : ℕ) (os : List Object) → Every (IsInObject r) os → IfSome (IsInObject r) (find_object n os)
  in_objects n [] h = tt
  in_objects n (o ∷ os) h = if_object (nat_eq o.number n) o (find_object n os) h.0 (in_objects n os h.1)

  in_calls : (n : ℕ) (cs : List Call) → Every (AreInCall r) cs → IfSome (IsInObject r) (find_local n cs)
  in_calls n [] h = tt
  in_calls n (c ∷ cs) h = or_object (find_object n c.locals) (find_local n cs) (in_objects n c.locals h.0) (in_calls n cs h.1)

  in_state : (n : ℕ) → Fine r → IfSome (IsInObject r) (object_of r.state n)
  unfolding object_of
  in_state n fine = or_object (find_object n r.state.globals) (find_local n r.state.calls)
      (in_objects n r.state.globals fine.globals) (in_calls n r.state.calls fine.calls)

  if_cell : (b : Bool) (c : Cell) (x : Option Cell) → IsIn r c.value → IfSome (λ (d : Cell). IsIn r d.value) x
      → IfSome (λ (d : Cell). IsIn r d.value) (cond b (Some c) x)
  if_cell true c x h i = h
  if_cell false c x h i = i

  in_cells : (offset : ℕ) (cs : List Cell) → Every (λ (c : Cell). IsIn r c.value) cs
      → IfSome (λ (c : Cell). IsIn r c.value) (find_cell offset cs)
  in_cells offset [] h = tt
  in_cells offset (c ∷ cs) h = if_cell (nat_eq c.offset offset) c (find_cell offset cs) h.0 (in_cells offset cs h.1)

  if_kind : (b : Bool) (v : Value) → IsIn r v → OnOk (IsIn r) (cond b (Ok v) (Err 5))
  if_kind true v h = h
  if_kind false v h = tt

  in_cell : (k : Kind) (x : Option Cell) → IfSome (λ (c : Cell). IsIn r c.value) x → OnOk (IsIn r) (value_in k x)
  in_cell k None h = tt
  in_cell k (Some c) h = if_kind (same_kind c.kind k) c.value h

  in_object : (offset : ℕ) (k : Kind) (x : Option Object) → IfSome (IsInObject r) x → OnOk (IsIn r) (value_of offset k x)
  in_object offset k None h = tt
  in_object offset k (Some o) h = in_cell k (find_cell offset o.cells) (in_cells offset o.cells h.1)

  accessed_at : Fine r → (offset : ℕ) (k : Kind) (o : Option ℕ) → OnOk (IsIn r) (accessed_in r.state offset k o)
  accessed_at fine offset k None = tt
  accessed_at fine offset k (Some n) = in_object offset k (object_of r.state n) (in_state n fine)

  defined_in : (x : Result Value ℕ) → OnOk (IsIn r) x → OnOk (IsIn r) (defined x)
  defined_in (Ok (Int z)) h = tt
  defined_in (Ok (Pointer n offset)) h = h
  defined_in (Ok Null) h = tt
  defined_in (Ok Undefined) h = tt
  defined_in (Err e) h = tt

  pub loaded_in : Fine r → (l : Location) (k : Kind) → OnOk (IsIn r) (defined (accessed r.state l k))
  unfolding accessed
  loaded_in fine l k = defined_in (accessed_in r.state l.offset k l.object) (accessed_at fine l.offset k l.object)

  -- ---- what is stored, passed or returned

  fitted_in : (k : Kind) (v : Value) → IsIn r v → OnOk (IsIn r) (fitted k v)
  unfolding fitted
  fitted_in k Undefined h = tt
  fitted_in kind.Char (Int z) h = tt
  fitted_in kind.Int (Int z) h = tt
  fitted_in kind.UInt (Int z) h = tt
  fitted_in kind.Pointer (Int z) h = tt
  fitted_in kind.Char (Pointer n offset) h = tt
  fitted_in kind.Int (Pointer n offset) h = tt
  fitted_in kind.UInt (Pointer n offset) h = tt
  fitted_in kind.Pointer (Pointer n offset) h = h
  fitted_in kind.Char Null h = tt
  fitted_in kind.Int Null h = tt
  fitted_in kind.UInt Null h = tt
  fitted_in kind.Pointer Null h = tt

  missing_in : (x : Result Value ℕ) → OnOk (IsIn r) x → IsIn r (or_missing x)
  missing_in (Ok v) h = h
  missing_in (Err e) h = tt

  pub fit_in : (k : Kind) (v : Value) → IsIn r v → IsIn r (fit k v)
  fit_in k v h = missing_in (fitted k v) (fitted_in k v h)

  if_accessed_in : (x y : Result Value ℕ) → OnOk (IsIn r) y → OnOk (IsIn r) (if_accessed x y)
  if_accessed_in (Ok v) y h = h
  if_accessed_in (Err e) y h = tt

  pub stored_in : (l : Location) (k : Kind) (v : Value) → IsIn r v
      → OnOk (IsIn r) (if_accessed (accessed r.state l k) (fitted k v))
  stored_in l k v h = if_accessed_in (accessed r.state l k) (fitted k v) (fitted_in k v h)

  pub present_in : (v : Value) → IsIn r v → OnOk (IsIn r) (present v)
  present_in (Int z) h = tt
  present_in (Pointer n offset) h = h
  present_in Null h = tt
  present_in Undefined h = tt

  -- ---- integers

  int_in : (x : Result ℤ ℕ) → OnOk (IsIn r) (int_value x)
  int_in (Ok z) = tt
  int_in (Err e) = tt

  operated_in : (o : BinaryOp) (t own : IntType) (a b : Value) → OnOk (IsIn r) (operated o t own a b)
  unfolding operated
  operated_in o t own (Int a) (Int b) = int_in (binary o t (number t a) (number (right_type o t own) b))
  operated_in o t own Undefined (Int b) = tt
  operated_in o t own (Int a) Undefined = tt
  operated_in o t own Undefined Undefined = tt
  operated_in o t own (Int a) (Pointer n x) = tt
  operated_in o t own (Int a) Null = tt
  operated_in o t own Undefined (Pointer n x) = tt
  operated_in o t own Undefined Null = tt
  operated_in o t own (Pointer n x) (Int b) = tt
  operated_in o t own (Pointer n x) (Pointer m y) = tt
  operated_in o t own (Pointer n x) Null = tt
  operated_in o t own (Pointer n x) Undefined = tt
  operated_in o t own Null (Int b) = tt
  operated_in o t own Null (Pointer n x) = tt
  operated_in o t own Null Null = tt
  operated_in o t own Null Undefined = tt

  negated_in : (x : Result Bool ℕ) → OnOk (IsIn r) (negated x)
  negated_in (Ok b) = tt
  negated_in (Err e) = tt

  alone_in : (o : UnaryOp) (t : IntType) (v : Value) → OnOk (IsIn r) (operated_alone o t v)
  alone_in o t (Int z) = int_in (unary o t (number t z))
  alone_in o t (Pointer n x) = tt
  alone_in o t Null = tt
  alone_in o t Undefined = tt

  pub one_in : (o : UnaryOp) (t : IntType) (v : Value) → OnOk (IsIn r) (operated_one r.state o t v)
  unfolding operated_one
  one_in un.Not t v = negated_in (truth_of r.state (numbered t v))
  one_in un.Plus t v = alone_in un.Plus t v
  one_in un.Minus t v = alone_in un.Minus t v
  one_in un.Complement t v = alone_in un.Complement t v

  pub converted_in : (t : IntType) (v : Value) → IsIn r v → OnOk (IsIn r) (converted t v)
  unfolding converted
  converted_in t (Int z) h = tt
  converted_in t Undefined h = tt
  converted_in int.Char (Pointer n x) h = tt
  converted_in int.Int (Pointer n x) h = h
  converted_in int.UInt (Pointer n x) h = h
  converted_in int.Char Null h = tt
  converted_in int.Int Null h = tt
  converted_in int.UInt Null h = tt

  numbered_in : (t : IntType) (v : Value) → IsIn r v → IsIn r (numbered t v)
  numbered_in t (Int z) h = tt
  numbered_in t (Pointer n x) h = h
  numbered_in t Null h = tt
  numbered_in t Undefined h = tt

  as_in : (o : Option IntType) (v : Value) → IsIn r v → IsIn r (numbered_as o v)
  as_in None v h = h
  as_in (Some t) v h = numbered_in t v h

  -- ---- places

  abbrev pub IsKnownAt : Location → Type 0
  IsKnownAt l = IsKnownIn r l.object

  -- a place to which a pointer may be made
  abbrev IsReached : Location → Type 0
  IsReached l = IsIn r (pointer_at l.offset l.object)

  reached_known : (offset : ℕ) (o : Option ℕ) → IsIn r (pointer_at offset o) → IsKnownIn r o
  reached_known offset None h = tt
  reached_known offset (Some n) h = h.0

  known_of : (x : Result Location ℕ) → OnOk IsReached x → OnOk IsKnownAt x
  known_of (Ok l) h = reached_known l.offset l.object h
  known_of (Err e) h = tt

  pub pointed_known : (v : Value) → IsIn r v → OnOk IsKnownAt (pointed v)
  pointed_known (Int z) h = tt
  pointed_known (Pointer n x) h = h.0
  pointed_known Null h = tt
  pointed_known Undefined h = tt

  within_reached : (n : ℕ) → n < r.next → (z : ℤ) (x : Option Object) → object_of r.state n ≡ x → OnOk IsReached (within n z x)
  within_reached n l (pos offset) (Some o) e = by_end (nat_le offset (end_of o)) refl
    where
      by_end : (b : Bool) → nat_le offset (end_of o) ≡ b → OnOk IsReached (cond b (Ok (at n offset)) (Err 4))
      by_end true t = (
        l,
        λ p f. subst (λ (x : Object). offset ≤ end_of x) (some_is o p (sym e ∙ f))
            (at_most offset (end_of o) t),
      )
      by_end false t = tt
  within_reached n l (negsuc k) (Some o) e = tt
  within_reached n l (pos offset) None e = tt
  within_reached n l (negsuc k) None e = tt

  from_reached : (z : ℤ) (o : Option ℕ) → IsKnownIn r o → OnOk IsReached (moved_from r.state z o)
  from_reached z None h = tt
  from_reached z (Some n) h = within_reached n h z (object_of r.state n) refl

  moved_reached : (l : Location) (by : ℤ) → IsKnownAt l → OnOk IsReached (moved r.state l by)
  unfolding moved
  moved_reached l by h = from_reached (further l.offset by) l.object h

  if_reached : (x : Result Location ℕ) (by : ℤ) → OnOk IsKnownAt x → OnOk IsReached (moved_if r.state x by)
  if_reached (Ok l) by h = moved_reached l by h
  if_reached (Err e) by h = tt

  no_place : (P : Location → Type 0) (b : Bool) → OnOk P (cond b (Err 6) (Err 11))
  no_place P true = tt
  no_place P false = tt

  element_reached : (size : ℕ) (l : Location) (v : Value) → IsKnownAt l → OnOk IsReached (element r.state size l v)
  element_reached size l (Int i) h = moved_reached l _ h
  element_reached size l Undefined h = no_place IsReached (gone_at r.state l.object)
  element_reached size l (Pointer n x) h = tt
  element_reached size l Null h = tt

  pub element_known : (size : ℕ) (l : Location) (t : IntType) (v : Value) → IsKnownAt l
      → OnOk IsKnownAt (element r.state size l (numbered t v))
  element_known size l t v h = known_of (element r.state size l (numbered t v)) (element_reached size l (numbered t v) h)

  sum_with_reached : (minus : Bool) (size : ℕ) (a b : Value) → IsIn r a → OnOk IsReached (sum_with r.state minus size a b)
  sum_with_reached minus size a (Int i) h = if_reached (pointed a) (scaled minus i size) (pointed_known a h)
  sum_with_reached minus size a Undefined h = no_place IsReached (gone r.state a)
  sum_with_reached minus size a (Pointer n x) h = tt
  sum_with_reached minus size a Null h = tt

  sum_reached : (swapped minus : Bool) (size : ℕ) (a b : Value) → IsIn r a → IsIn r b
      → OnOk IsReached (sum_of r.state swapped minus size a b)
  unfolding sum_of
  sum_reached true minus size a b h i = sum_with_reached minus size b a i
  sum_reached false minus size a b h i = sum_with_reached minus size a b h

  pub sum_known : (swapped : Bool) (size : ℕ) (t u : IntType) (a b : Value) → IsIn r a → IsIn r b
      → OnOk IsKnownAt (sum_of r.state swapped false size (numbered t a) (numbered u b))
  sum_known swapped size t u a b h i = known_of (sum_of r.state swapped false size (numbered t a) (numbered u b))
      (sum_reached swapped false size (numbered t a) (numbered u b) (numbered_in t a h) (numbered_in u b i))

  -- ---- pointers to places

  pointer_in : (x : Result Location ℕ) → OnOk IsReached x → OnOk (IsIn r) (pointer_to x)
  pointer_in (Ok l) h = h
  pointer_in (Err e) h = tt

  within_in : (n offset end : ℕ) → n < r.next → ((o : Object) → object_of r.state n ≡ Some o → end ≤ end_of o)
      → OnOk (IsIn r) (pointer_within n offset end)
  within_in n offset end l h = by_end (nat_le offset end) refl
    where
      by_end : (b : Bool) → nat_le offset end ≡ b → OnOk (IsIn r) (cond b (Ok (Pointer n offset)) (Err 4))
      by_end true t = (l, λ o f. omega (arith, at_most offset end t, h o f))
      by_end false t = tt

  none_is : (x : Option Object) (o : Object) → x ≡ None → x ≡ Some o → ⊥
  none_is x o e f = cc

  address_at : (n offset : ℕ) (x : Option Object) → n < r.next → object_of r.state n ≡ x → OnOk (IsIn r) (address_in n offset x)
  address_at n offset None l e = within_in n offset 65535 l (λ o f. absurd (none_is (object_of r.state n) o e f))
  address_at n offset (Some o) l e = within_in n offset (end_of o) l (λ p f.
      subst (λ (x : Object). end_of o ≤ end_of x) (some_is o p (sym e ∙ f)) (no_less (end_of o) (end_of o) refl))

  no_pointer : (b : Bool) → OnOk (IsIn r) (cond b (Ok Null) (Err 12))
  no_pointer true = tt
  no_pointer false = tt

  address_of : (offset : ℕ) (o : Option ℕ) → IsKnownIn r o → OnOk (IsIn r) (address_from r.state offset o)
  address_of offset None h = no_pointer (nat_eq offset 0)
  address_of offset (Some n) h = address_at n offset (object_of r.state n) h refl

  pub address_in_object : (l : Location) → IsKnownAt l → OnOk (IsIn r) (address r.state l)
  unfolding address
  address_in_object l h = address_of l.offset l.object h

  -- ---- what is computed

  pub computed_in : (op : Operation) (x y : Value) → IsIn r x → IsIn r y → OnOk (IsIn r) (computed r.state op x y)
  computed_in (operation.Integers o t own) x y h i = operated_in o t own x y
  computed_in (operation.PointerPlus minus size left right swapped) x y h i =
      pointer_in (sum_of r.state swapped minus size (numbered_as left x) (numbered_as right y))
      (sum_reached swapped minus size (numbered_as left x) (numbered_as right y) (as_in left x h) (as_in right y i))
  computed_in (operation.Difference size) x y h i = int_in (difference r.state size x y)
  computed_in (operation.ComparePointers o) x y h i = int_in (compared r.state o x y)
