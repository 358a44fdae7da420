-- Two types that are the same are one.
use Rattle.std.proofs.Common.{◌≡◌, ℕ, Bool, true, false, ◌&&◌, ◌==◌, refl, rules, tests}
use Rattle.base16.specs.declared.integer.IntType.{IntType}
use Rattle.base16.specs.declared.integer.IntType.TheVariants.{Char, Int, UInt}
use Rattle.core_tree.specs.declared.types.Ty.{Ty, out-Ty, ind-Ty, roll-Ty, map-Ty, the_lemmas}
use Rattle.core_tree.specs.declared.types.Ty.TheVariants as ty
use Rattle.core_tree.specs.declared.types.Ty.TheOpen.{Ty-F}
use Rattle.core_tree.specs.Types.{same, same_int, same_bool}

pub same_int_is : (x y : IntType) → same_int x y ≡ true → x ≡ y
same_int_is Char Char e = refl
same_int_is Char Int e = absurd (search rules)
same_int_is Char UInt e = absurd (search rules)
same_int_is Int Char e = absurd (search rules)
same_int_is Int Int e = refl
same_int_is Int UInt e = absurd (search rules)
same_int_is UInt Char e = absurd (search rules)
same_int_is UInt Int e = absurd (search rules)
same_int_is UInt UInt e = refl

pub same_bool_is : (x y : Bool) → same_bool x y ≡ true → x ≡ y
same_bool_is true true e = refl
same_bool_is true false e = absurd (search rules)
same_bool_is false true e = absurd (search rules)
same_bool_is false false e = refl

same_number_is : (m n : ℕ) → (m == n) ≡ true → m ≡ n
same_number_is m n e = search (rules, tests)

pub both_hold : (p q : Bool) → (p && q) ≡ true → (p ≡ true) × (q ≡ true)
both_hold true true e = (refl, refl)
both_hold true false e = absurd (search rules)
both_hold false q e = absurd (search rules)

abbrev IsSame : Ty → Type 0
IsSame t = (u : Ty) → same t u ≡ true → t ≡ u

void_by : (u : Ty) (l : Ty-F Ty) → out-Ty u ≡ l → same ty.Void u ≡ true → ty.Void ≡ u
void_by u Ty-F.Void at_u e = search (rules, the_lemmas)
void_by u (Ty-F.Num b) at_u e = absurd (search (rules, the_lemmas))
void_by u (Ty-F.Pointer to r) at_u e = absurd (search (rules, the_lemmas))
void_by u (Ty-F.Array of n) at_u e = absurd (search (rules, the_lemmas))
void_by u (Ty-F.Struct tag) at_u e = absurd (search (rules, the_lemmas))

num_by : (a : IntType) (u : Ty) (l : Ty-F Ty) → out-Ty u ≡ l → same (ty.Num a) u ≡ true → ty.Num a ≡ u
num_by a u Ty-F.Void at_u e = absurd (search (rules, the_lemmas))
num_by a u (Ty-F.Num b) at_u e =
    let h : same_int a b ≡ true = search (rules, the_lemmas) in
    let i : a ≡ b = same_int_is a b h in rw i (search (rules, the_lemmas))
num_by a u (Ty-F.Pointer to r) at_u e = absurd (search (rules, the_lemmas))
num_by a u (Ty-F.Array of n) at_u e = absurd (search (rules, the_lemmas))
num_by a u (Ty-F.Struct tag) at_u e = absurd (search (rules, the_lemmas))

pointer_by : (t : Ty) (r : Bool) → IsSame t → (u : Ty) (l : Ty-F Ty) → out-Ty u ≡ l
    → same (ty.Pointer t r) u ≡ true → ty.Pointer t r ≡ u
pointer_by t r deeper u Ty-F.Void at_u e = absurd (search (rules, the_lemmas))
pointer_by t r deeper u (Ty-F.Num b) at_u e = absurd (search (rules, the_lemmas))
pointer_by t r deeper u (Ty-F.Pointer to q) at_u e =
    let h : (same_bool r q && same t to) ≡ true = search (rules, the_lemmas) in
    let w = both_hold (same_bool r q) (same t to) h in
    let i : r ≡ q = same_bool_is r q w.0 in
    let j : t ≡ to = deeper to w.1 in rw (i, j) (search (rules, the_lemmas))
pointer_by t r deeper u (Ty-F.Array of n) at_u e = absurd (search (rules, the_lemmas))
pointer_by t r deeper u (Ty-F.Struct tag) at_u e = absurd (search (rules, the_lemmas))

array_by : (t : Ty) (n : ℕ) → IsSame t → (u : Ty) (l : Ty-F Ty) → out-Ty u ≡ l
    → same (ty.Array t n) u ≡ true → ty.Array t n ≡ u
array_by t n deeper u Ty-F.Void at_u e = absurd (search (rules, the_lemmas))
array_by t n deeper u (Ty-F.Num b) at_u e = absurd (search (rules, the_lemmas))
array_by t n deeper u (Ty-F.Pointer to q) at_u e = absurd (search (rules, the_lemmas))
array_by t n deeper u (Ty-F.Array of m) at_u e =
    let h : ((n == m) && same t of) ≡ true = search (rules, the_lemmas) in
    let w = both_hold (n == m) (same t of) h in
    let i : n ≡ m = same_number_is n m w.0 in
    let j : t ≡ of = deeper of w.1 in rw (i, j) (search (rules, the_lemmas))
array_by t n deeper u (Ty-F.Struct tag) at_u e = absurd (search (rules, the_lemmas))

struct_by : (a : ℕ) (u : Ty) (l : Ty-F Ty) → out-Ty u ≡ l → same (ty.Struct a) u ≡ true → ty.Struct a ≡ u
struct_by a u Ty-F.Void at_u e = absurd (search (rules, the_lemmas))
struct_by a u (Ty-F.Num b) at_u e = absurd (search (rules, the_lemmas))
struct_by a u (Ty-F.Pointer to r) at_u e = absurd (search (rules, the_lemmas))
struct_by a u (Ty-F.Array of n) at_u e = absurd (search (rules, the_lemmas))
struct_by a u (Ty-F.Struct b) at_u e =
    let h : (a == b) ≡ true = search (rules, the_lemmas) in
    let i : a ≡ b = same_number_is a b h in rw i (search (rules, the_lemmas))

module _ {A : Type 0} (inner : A → Ty) (deeper : (a : A) → IsSame (inner a)) where
  layer_is : (x : Ty-F Ty) (y : Ty-F A) → map-Ty A Ty inner y ≡ x → IsSame (roll-Ty x)
  layer_is x Ty-F.Void is u e =
      let h : roll-Ty x ≡ ty.Void = search (rules, the_lemmas) in
      rw h (void_by u (out-Ty u) refl (rw h at e))
  layer_is x (Ty-F.Num a) is u e =
      let h : roll-Ty x ≡ ty.Num a = search (rules, the_lemmas) in
      rw h (num_by a u (out-Ty u) refl (rw h at e))
  layer_is x (Ty-F.Pointer to r) is u e =
      let h : roll-Ty x ≡ ty.Pointer (inner to) r = search (rules, the_lemmas) in
      rw h (pointer_by (inner to) r (deeper to) u (out-Ty u) refl (rw h at e))
  layer_is x (Ty-F.Array of n) is u e =
      let h : roll-Ty x ≡ ty.Array (inner of) n = search (rules, the_lemmas) in
      rw h (array_by (inner of) n (deeper of) u (out-Ty u) refl (rw h at e))
  layer_is x (Ty-F.Struct a) is u e =
      let h : roll-Ty x ≡ ty.Struct a = search (rules, the_lemmas) in
      rw h (struct_by a u (out-Ty u) refl (rw h at e))

pub same_is : (t : Ty) → IsSame t
same_is = ind-Ty IsSame (λ x y is. layer_is (λ e. e.0) (λ e. e.1) x y is)
