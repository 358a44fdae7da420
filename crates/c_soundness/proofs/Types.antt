-- What the layers of types say of the shapes of values.
use Rattle.std.proofs.Common.{◌≡◌, ℕ, Bool, true, false, ◌&&◌, not, nat_le, length, refl, sym, ap, subst, ◌∙◌, rules}
use Rattle.base16.specs.declared.image.Kind.TheVariants as kind
use Rattle.base16.specs.declared.integer.IntType.{IntType}
use Rattle.base16.specs.declared.integer.IntType.TheVariants as int
use Rattle.core_tree.specs.declared.types.Ty.{Ty, out-Ty, the_lemmas}
use Rattle.core_tree.specs.declared.types.Ty.TheVariants as ty
use Rattle.core_tree.specs.declared.types.Ty.TheOpen.{Ty-F}
use Rattle.core_tree.specs.declared.program.Core.{Core}
use Rattle.core_tree.specs.Layout.{kind_of, kind_of_int, kind_of_layer, int_type_of, is_pointer, target_of}
use Rattle.core_tree.specs.LawfulCore.{is_object, IsObject}
use Rattle.c_values.specs.declared.value.Value.{Value}
use Rattle.c_values.specs.declared.value.Value.TheVariants.{Int, Pointer, Null, Undefined}
use Rattle.c_values.specs.Values.{fitted}
use Rattle.c_meaning.specs.Meaning.{is_swapped}
use Rattle.c_soundness.specs.Shapes.{IsInteger, IsPointer, HasLayer, Has, MayStand, holds_pointer}
use Rattle.c_soundness.proofs.Triples.{Granted}
use Rattle.c_soundness.proofs.Operators.{holds_word, fitted_integer, fitted_pointer}

pub out-Void : out-Ty ty.Void ≡ Ty-F.Void
out-Void = search (rules, the_lemmas)

pub out-Num : (t : IntType) → out-Ty (ty.Num t) ≡ Ty-F.Num t
out-Num t = search (rules, the_lemmas)

pub out-Pointer : (to : Ty) (r : Bool) → out-Ty (ty.Pointer to r) ≡ Ty-F.Pointer to r
out-Pointer to r = search (rules, the_lemmas)

pub pointer_num : (t : IntType) → is_pointer (ty.Num t) ≡ false
unfolding is_pointer
pointer_num t = search (rules, the_lemmas)

pub pointer_pointer : (to : Ty) (r : Bool) → is_pointer (ty.Pointer to r) ≡ true
unfolding is_pointer
pointer_pointer to r = search (rules, the_lemmas)

pub target_pointer : (to : Ty) (r : Bool) → target_of (ty.Pointer to r) ≡ to
unfolding target_of
target_pointer to r = search (rules, the_lemmas)

-- of a pointer and an integer, the pointer stands on the left, or the integer
pub pointer_first : (t to : Ty) (r : Bool) → t ≡ ty.Pointer to r → is_swapped t ≡ false
pointer_first t to r e = ap is_swapped e ∙ ap not (pointer_pointer to r)

pub integer_first : (t : Ty) (by : IntType) → t ≡ ty.Num by → is_swapped t ≡ true
integer_first t by e = ap is_swapped e ∙ ap not (pointer_num by)

pub pointer_word : (to : Ty) (r : Bool) → holds_word (int_type_of (ty.Pointer to r)) ≡ true
unfolding int_type_of
pointer_word to r = search (rules, the_lemmas)

-- ---- shapes

module _ (core : Core) where
  pub void_has : (v : Value) → IsInteger v → Has core ty.Void v
  void_has v h = subst (λ (l : Ty-F Ty). HasLayer core l v) (sym out-Void) h

  pub num_has : (t : IntType) (v : Value) → IsInteger v → Has core (ty.Num t) v
  num_has t v h = subst (λ (l : Ty-F Ty). HasLayer core l v) (sym (out-Num t)) h

  pub has_num : (t : IntType) (v : Value) → Has core (ty.Num t) v → IsInteger v
  has_num t v h = subst (λ (l : Ty-F Ty). HasLayer core l v) (out-Num t) h

  pub pointer_has : (to : Ty) (r : Bool) (v : Value) → IsPointer (IsObject core to) v → Has core (ty.Pointer to r) v
  pointer_has to r v h = subst (λ (l : Ty-F Ty). HasLayer core l v) (sym (out-Pointer to r)) h

  pub has_pointer : (to : Ty) (r : Bool) (v : Value) → Has core (ty.Pointer to r) v → IsPointer (IsObject core to) v
  has_pointer to r v h = subst (λ (l : Ty-F Ty). HasLayer core l v) (out-Pointer to r) h

  -- a value that is missing has every shape
  pub missing_layer : (l : Ty-F Ty) → HasLayer core l Undefined
  missing_layer Ty-F.Void = tt
  missing_layer (Ty-F.Num t) = tt
  missing_layer (Ty-F.Pointer to r) = tt
  missing_layer (Ty-F.Array of count) = tt
  missing_layer (Ty-F.Struct tag) = tt

  pub missing_has : (t : Ty) → Has core t Undefined
  missing_has t = missing_layer (out-Ty t)

-- ---- objects

both_hold : (p q : Bool) → (p && q) ≡ true → (p ≡ true) × (q ≡ true)
both_hold true true e = (refl, refl)
both_hold true false e = absurd (search rules)
both_hold false q e = absurd (search rules)

pub object_target : (core : Core) (to : Ty) (r : Bool) → IsObject core (ty.Pointer to r) → IsObject core to
object_target core to r o = search (rules, the_lemmas)

pub object_element : (core : Core) (of : Ty) (count : ℕ) → IsObject core (ty.Array of count) → IsObject core of
object_element core of count o =
    let all : ℕ = length core.structs in
    let i : (nat_le 1 count && nat_le count 32767 && is_object all of all) ≡ true = search (rules, the_lemmas) in
    (both_hold (nat_le 1 count && nat_le count 32767) (is_object all of all) i).1

-- ---- kinds

int_kind : (t : IntType) → holds_pointer (kind_of_int t) ≡ false
int_kind int.Char = refl
int_kind int.Int = refl
int_kind int.UInt = refl

whole_pointer : (Q : Type 0) (v : Value) → Q → IsPointer (Unit {0}) v → IsPointer Q v
whole_pointer Q (Int z) q h = h
whole_pointer Q (Pointer n x) q h = q
whole_pointer Q Null q h = tt
whole_pointer Q Undefined q h = tt

plain_pointer : (Q : Type 0) (v : Value) → IsPointer Q v → IsPointer (Unit {0}) v
plain_pointer Q (Int z) h = h
plain_pointer Q (Pointer n x) h = tt
plain_pointer Q Null h = tt
plain_pointer Q Undefined h = tt

module _ (core : Core) where
  layer_of_kind : (l : Ty-F Ty) (t : Ty) (v : Value) → out-Ty t ≡ l → IsObject core t → MayStand
      (holds_pointer (kind_of_layer l)) v
      → HasLayer core l v
  layer_of_kind Ty-F.Void t v e o h = h
  layer_of_kind (Ty-F.Num a) t v e o h = subst (λ (b : Bool). MayStand b v) (int_kind a) h
  layer_of_kind (Ty-F.Pointer to r) t v e o h =
      let is : t ≡ ty.Pointer to r = search (rules, the_lemmas) in
      let q : IsObject core (ty.Pointer to r) = subst (λ (u : Ty). IsObject core u) is o in
      whole_pointer (IsObject core to) v (object_target core to r q) h
  layer_of_kind (Ty-F.Array of count) t v e o h = h
  layer_of_kind (Ty-F.Struct tag) t v e o h = h

  -- what stands in a scalar of an object has the shape of its type
  pub has_of_kind : (t : Ty) (v : Value) → IsObject core t → MayStand (holds_pointer (kind_of t)) v → Has core t v
  unfolding kind_of
  has_of_kind t v o h = layer_of_kind (out-Ty t) t v refl o h

  layer_stands : (l : Ty-F Ty) (v : Value) → HasLayer core l v → MayStand (holds_pointer (kind_of_layer l)) v
  layer_stands Ty-F.Void v h = h
  layer_stands (Ty-F.Num a) v h = subst (λ (b : Bool). MayStand b v) (sym (int_kind a)) h
  layer_stands (Ty-F.Pointer to r) v h = plain_pointer (IsObject core to) v h
  layer_stands (Ty-F.Array of count) v h = h
  layer_stands (Ty-F.Struct tag) v h = h

  -- and a value of a type may stand in its scalar
  pub has_stands : (t : Ty) (v : Value) → Has core t v → MayStand (holds_pointer (kind_of t)) v
  unfolding kind_of
  has_stands t v h = layer_stands (out-Ty t) v h

  layer_fitted : (l : Ty-F Ty) (v : Value) → HasLayer core l v → Granted (HasLayer core l) (fitted (kind_of_layer l) v)
  layer_fitted Ty-F.Void v h = fitted_integer kind.Int v refl h
  layer_fitted (Ty-F.Num a) v h = fitted_integer (kind_of_int a) v (int_kind a) h
  layer_fitted (Ty-F.Pointer to r) v h = fitted_pointer (IsObject core to) v h
  layer_fitted (Ty-F.Array of count) v h = fitted_integer kind.Int v refl h
  layer_fitted (Ty-F.Struct tag) v h = fitted_integer kind.Int v refl h

  pub has_fitted : (t : Ty) (v : Value) → Has core t v → Granted (Has core t) (fitted (kind_of t) v)
  unfolding kind_of
  has_fitted t v h = layer_fitted (out-Ty t) v h
