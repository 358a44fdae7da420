-- Binary operators and `?:` make lawful expressions of lawful ones.
use Rattle.std.proofs.Common.{◌≡◌, ℕ, ◌<◌, length, arith, tests, Bool, true, false, cond, ◌||◌, Option, Some, None, Ok, Err, refl, ap, rules}
use Rattle.base16.specs.declared.integer.IntType.{IntType}
use Rattle.base16.specs.declared.integer.IntType.TheVariants.{Char, Int, UInt}
use Rattle.base16.specs.declared.operator.BinaryOp.{BinaryOp}
use Rattle.base16.specs.declared.operator.BinaryOp.TheVariants as op
use Rattle.core_tree.specs.declared.types.Ty.{Ty, out-Ty, the_lemmas}
use Rattle.core_tree.specs.declared.types.Ty.TheVariants as ty
use Rattle.core_tree.specs.declared.types.Ty.TheOpen.{Ty-F}
use Rattle.core_tree.specs.declared.expressions.Expr.{Expr}
use Rattle.core_tree.specs.declared.expressions.ExprKind.{ExprKind, the_lemmas as kind_lemmas}
use Rattle.core_tree.specs.declared.expressions.ExprKind.TheVariants as k
use Rattle.core_tree.specs.Types.{same}
use Rattle.core_tree.specs.Rules.{balanced, is_scalar, is_comparison, is_order, is_equality, takes_pointers, takes_pointer_integer, takes_integer_pointer, computed_in, right_in, zero_layer}
use Rattle.core_tree.specs.Lawful.{Scope, IsExpr, LawfulExpr, HasType, Complete, IsComplete, IsComputed, is_constant, pointer_plus, plus_pointer, difference, compared as comparison, integer_branches, pointer_branches}
use Rattle.c_typing.specs.declared.fault.Rule.TheVariants.{WrongType, Incomplete}
use Rattle.c_typing.specs.declared.environment.Env.{Env}
use Rattle.c_typing.specs.Scopes.{is_complete, complete_layer}
use Rattle.c_typing.specs.Values.{typed, to_int, null, converted}
use Rattle.c_typing.specs.Operators.{integers, on_complete, is_minus, compared, with_null, pointer_integer, integer_pointer, pointers, joined, binary, chosen, branched, conditional}
use Rattle.c_typing.proofs.LawfulOperators.{to_int_lawful, integers_lawful}
use Rattle.c_typing_laws.specs.Sound.{Agrees, IsNoNull, SoundValue, BinaryIsLawful, ConditionalIsLawful}
use Rattle.c_typing_laws.proofs.Same.{same_is}
use Rattle.c_typing_laws.proofs.Conversions.{own_type, made, at_layer, null_lawful, converted_lawful}

-- a node that is no constant is lawful where it has its type
pub sound_node : (s : Scope) (line : ℕ) (t : Ty) (kind : ExprKind) → is_constant kind ≡ false → HasType s kind t
    → SoundValue s (typed line t kind)
sound_node s line t kind plain has = (made s line t kind has, λ pointer. plain)

pub typed_as : (s : Scope) (t u : Ty) (kind : ExprKind) → t ≡ u → HasType s kind u → HasType s kind t
typed_as s t u kind is has = rw is has

-- ---- complete types

complete_at : (env : Env) (s : Scope) → Agrees env s → (l : Ty-F Ty) → complete_layer (length env.structs) l ≡ true
    → IsComplete s.core l
complete_at env s agree Ty-F.Void is = absurd (search rules)
complete_at env s agree (Ty-F.Num t) is = tt
complete_at env s agree (Ty-F.Pointer to r) is = tt
complete_at env s agree (Ty-F.Array of n) is = tt
complete_at env s agree (Ty-F.Struct tag) is =
    let below : tag < length env.structs = grind (arith, tests) in omega (arith, agree.fewer)

pub complete_lawful : (env : Env) (s : Scope) → Agrees env s → (t : Ty) → is_complete env t ≡ true → Complete s.core t
unfolding is_complete
complete_lawful env s agree t is = complete_at env s agree (out-Ty t) is

pub on_complete_lawful : (env : Env) (s : Scope) (to : Ty) (e v : Expr) → Agrees env s → on_complete env to e ≡ Ok v
    → (Complete s.core to) × (e ≡ v)
on_complete_lawful env s to e v agree is = on_by (is_complete env to) refl is
  where
    on_by : (b : Bool) → is_complete env to ≡ b → cond b (Ok e) (Err Incomplete) ≡ Ok v → (Complete s.core to) × (e ≡ v)
    on_by true whole found = (complete_lawful env s agree to whole, cc)
    on_by false whole found = absurd (search rules)

balanced_computed : (x y : IntType) → IsComputed (balanced x y)
balanced_computed Char Char = refl
balanced_computed Char Int = refl
balanced_computed Char UInt = refl
balanced_computed Int Char = refl
balanced_computed Int Int = refl
balanced_computed Int UInt = refl
balanced_computed UInt Char = refl
balanced_computed UInt Int = refl
balanced_computed UInt UInt = refl

-- ---- binary operators

integers_sound : (s : Scope) (o : BinaryOp) (line : ℕ) (x y : IntType) (a b v : Expr) → IsExpr s a (ty.Num x)
    → IsExpr s b (ty.Num y) → integers o line x a y b ≡ v → SoundValue s v
unfolding integers
integers_sound s o line x y a b v i j is =
    let whole = integers_lawful s o line x y a b i j in
    let left : Expr = to_int x (computed_in o x y) a in
    let right : Expr = to_int y (right_in o x y) b in
    let plain : is_constant (k.Binary o (computed_in o x y) left right) ≡ false = search (rules, kind_lemmas) in
    rw (← is) (own_type s _ _ whole, λ pointer. plain)

equality_no_order : (o : BinaryOp) → is_equality o ≡ true → (is_comparison o ≡ true) × (is_order o ≡ true → false ≡ true)
equality_no_order op.Equal is = (refl, λ h. h)
equality_no_order op.NotEqual is = (refl, λ h. h)
equality_no_order o is = absurd (search rules)

-- two pointers to one type
compared_sound : (s : Scope) (o : BinaryOp) (line : ℕ) (a b v : Expr) (to : Ty) (r q : Bool) → is_comparison o ≡ true
    → (is_order o ≡ true → (is_constant a.kind || is_constant b.kind) ≡ false) → IsExpr s a (ty.Pointer to r)
    → IsExpr s b (ty.Pointer to q) → compared o line a b ≡ v → SoundValue s v
compared_sound s o line a b v to r q compares nulls i j is =
    let plain : is_constant (k.ComparePointers o a b) ≡ false = search (rules, kind_lemmas) in
    rw (← is) (sound_node s line (ty.Num Int) (k.ComparePointers o a b) plain (comparison o a b to r q compares nulls i j))

nulls_of_equality : (o : BinaryOp) (a b : Expr) → is_equality o ≡ true → is_order o ≡ true
    → (is_constant a.kind || is_constant b.kind) ≡ false
nulls_of_equality o a b equality order =
    let h : false ≡ true = (equality_no_order o equality).1 order in absurd (search rules)

pointer_null_sound : (s : Scope) (o : BinaryOp) (line : ℕ) (to : Ty) (r : Bool) (a b v : Expr) (n : Option Expr)
    → is_equality o ≡ true → a.ty ≡ ty.Pointer to r → IsExpr s a (ty.Pointer to r) → null a.ty b ≡ n
    → with_null (compared o line a) n ≡ Ok v → SoundValue s v
pointer_null_sound s o line to r a b v None equality at_a i at_n is = absurd (search rules)
pointer_null_sound s o line to r a b v (Some z) equality at_a i at_n is =
    let j : IsExpr s z (ty.Pointer to r) = rw (← at_a) (null_lawful s a.ty b z to r at_a at_n) in
    compared_sound s o line a z v to r r (equality_no_order o equality).0 (nulls_of_equality o a z equality) i j cc

null_pointer_sound : (s : Scope) (o : BinaryOp) (line : ℕ) (to : Ty) (r : Bool) (a b v : Expr) (n : Option Expr)
    → is_equality o ≡ true → b.ty ≡ ty.Pointer to r → IsExpr s b (ty.Pointer to r) → null b.ty a ≡ n
    → with_null (λ e. compared o line e b) n ≡ Ok v → SoundValue s v
null_pointer_sound s o line to r a b v None equality at_b j at_n is = absurd (search rules)
null_pointer_sound s o line to r a b v (Some z) equality at_b j at_n is =
    let i : IsExpr s z (ty.Pointer to r) = rw (← at_b) (null_lawful s b.ty a z to r at_b at_n) in
    compared_sound s o line z b v to r r (equality_no_order o equality).0 (nulls_of_equality o z b equality) i j cc

module _ (env : Env) (s : Scope) (agree : Agrees env s) (o : BinaryOp) (line : ℕ) where
  pointer_integer_by : (p q : Bool) (to : Ty) (r : Bool) (t : IntType) (a b v : Expr) → takes_pointer_integer o ≡ p
      → is_equality o ≡ q → a.ty ≡ ty.Pointer to r → IsExpr s a (ty.Pointer to r) → IsExpr s b (ty.Num t)
      → cond p (on_complete env to (typed line a.ty (k.PointerPlus (is_minus o) a b)))
      (cond q (with_null (compared o line a) (null a.ty b)) (Err WrongType)) ≡ Ok v
      → SoundValue s v
  pointer_integer_by true q to r t a b v at_p at_q at_a i j is =
      let w = on_complete_lawful env s to _ v agree is in
      let plain : is_constant (k.PointerPlus (is_minus o) a b) ≡ false = search (rules, kind_lemmas) in
      rw (← w.1) (sound_node s line a.ty (k.PointerPlus (is_minus o) a b) plain
      (typed_as s a.ty (ty.Pointer to r) _ at_a (pointer_plus (is_minus o) a b to r t w.0 i j)))
  pointer_integer_by false true to r t a b v at_p at_q at_a i j is =
      pointer_null_sound s o line to r a b v (null a.ty b) at_q at_a i refl is
  pointer_integer_by false false to r t a b v at_p at_q at_a i j is = absurd (search rules)

  pointer_integer_sound : (to : Ty) (r : Bool) (t : IntType) (a b v : Expr) → a.ty ≡ ty.Pointer to r
      → IsExpr s a (ty.Pointer to r) → IsExpr s b (ty.Num t) → pointer_integer env o line to a b ≡ Ok v
      → SoundValue s v
  unfolding pointer_integer
  pointer_integer_sound to r t a b v at_a i j is =
      pointer_integer_by (takes_pointer_integer o) (is_equality o) to r t a b v refl refl at_a i j is

  integer_pointer_by : (p q : Bool) (to : Ty) (r : Bool) (t : IntType) (a b v : Expr) → takes_integer_pointer o ≡ p
      → is_equality o ≡ q → b.ty ≡ ty.Pointer to r → IsExpr s a (ty.Num t) → IsExpr s b (ty.Pointer to r)
      → cond p (on_complete env to (typed line b.ty (k.PointerPlus false a b)))
      (cond q (with_null (λ e. compared o line e b) (null b.ty a)) (Err WrongType)) ≡ Ok v
      → SoundValue s v
  integer_pointer_by true q to r t a b v at_p at_q at_b i j is =
      let w = on_complete_lawful env s to _ v agree is in
      let plain : is_constant (k.PointerPlus false a b) ≡ false = search (rules, kind_lemmas) in
      rw (← w.1) (sound_node s line b.ty (k.PointerPlus false a b) plain
      (typed_as s b.ty (ty.Pointer to r) _ at_b (plus_pointer a b to r t w.0 i j)))
  integer_pointer_by false true to r t a b v at_p at_q at_b i j is =
      null_pointer_sound s o line to r a b v (null b.ty a) at_q at_b j refl is
  integer_pointer_by false false to r t a b v at_p at_q at_b i j is = absurd (search rules)

  integer_pointer_sound : (to : Ty) (r : Bool) (t : IntType) (a b v : Expr) → b.ty ≡ ty.Pointer to r
      → IsExpr s a (ty.Num t) → IsExpr s b (ty.Pointer to r) → integer_pointer env o line to a b ≡ Ok v
      → SoundValue s v
  unfolding integer_pointer
  integer_pointer_sound to r t a b v at_b i j is =
      integer_pointer_by (takes_integer_pointer o) (is_equality o) to r t a b v refl refl at_b i j is

  pointers_by : (p q : Bool) (to : Ty) (r u : Bool) (a b v : Expr) → is_comparison o ≡ p → takes_pointers o ≡ q
      → (is_order o ≡ true → (is_constant a.kind || is_constant b.kind) ≡ false) → IsExpr s a (ty.Pointer to r)
      → IsExpr s b (ty.Pointer to u)
      → cond p (Ok (compared o line a b))
      (cond q (on_complete env to (typed line (ty.Num Int) (k.Difference a b))) (Err WrongType)) ≡ Ok v
      → SoundValue s v
  pointers_by true q to r u a b v at_p at_q nulls i j is =
      compared_sound s o line a b v to r u at_p nulls i j cc
  pointers_by false true to r u a b v at_p at_q nulls i j is =
      let w = on_complete_lawful env s to _ v agree is in
      let plain : is_constant (k.Difference a b) ≡ false = search (rules, kind_lemmas) in
      rw (← w.1) (sound_node s line (ty.Num Int) (k.Difference a b) plain (difference a b to r u w.0 i j))
  pointers_by false false to r u a b v at_p at_q nulls i j is = absurd (search rules)

  pointers_sound : (to : Ty) (r u : Bool) (a b v : Expr)
      → (is_order o ≡ true → (is_constant a.kind || is_constant b.kind) ≡ false) → IsExpr s a (ty.Pointer to r)
      → IsExpr s b (ty.Pointer to u) → pointers env o line to a b ≡ Ok v → SoundValue s v
  unfolding pointers
  pointers_sound to r u a b v nulls i j is =
      pointers_by (is_comparison o) (takes_pointers o) to r u a b v refl refl nulls i j is

  no_null : (e : Expr) (to : Ty) (r : Bool) → out-Ty e.ty ≡ Ty-F.Pointer to r → IsNoNull e → is_constant e.kind ≡ false
  no_null e to r at_e plain = plain (ap zero_layer at_e)

  same_pointers : (b : Bool) (to other : Ty) (r u : Bool) (x y v : Expr) → same to other ≡ b
      → (is_constant x.kind || is_constant y.kind) ≡ false → IsExpr s x (ty.Pointer to r)
      → IsExpr s y (ty.Pointer other u)
      → cond b (pointers env o line to x y) (Err WrongType) ≡ Ok v → SoundValue s v
  same_pointers true to other r u x y v one nulls i j is =
      let h : to ≡ other = same_is to other one in
      pointers_sound to r u x y v (λ order. nulls) i (rw h j) is
  same_pointers false to other r u x y v one nulls i j is = absurd (search rules)

  joined_sound : (l m : Ty-F Ty) (a b v : Expr) → out-Ty a.ty ≡ l → out-Ty b.ty ≡ m → SoundValue s a → SoundValue s b
      → joined env o line l a m b ≡ Ok v → SoundValue s v
  joined_sound (Ty-F.Num x) (Ty-F.Num y) a b v at_a at_b sa sb is =
      let g : a.ty ≡ ty.Num x = search (rules, the_lemmas) in
      let h : b.ty ≡ ty.Num y = search (rules, the_lemmas) in
      integers_sound s o line x y a b v (at_layer s a _ g sa.0) (at_layer s b _ h sb.0) cc
  joined_sound (Ty-F.Pointer to r) (Ty-F.Num y) a b v at_a at_b sa sb is =
      let g : a.ty ≡ ty.Pointer to r = search (rules, the_lemmas) in
      let h : b.ty ≡ ty.Num y = search (rules, the_lemmas) in
      pointer_integer_sound to r y a b v g (at_layer s a _ g sa.0) (at_layer s b _ h sb.0) is
  joined_sound (Ty-F.Num x) (Ty-F.Pointer to r) a b v at_a at_b sa sb is =
      let g : a.ty ≡ ty.Num x = search (rules, the_lemmas) in
      let h : b.ty ≡ ty.Pointer to r = search (rules, the_lemmas) in
      integer_pointer_sound to r x a b v h (at_layer s a _ g sa.0) (at_layer s b _ h sb.0) is
  joined_sound (Ty-F.Pointer to r) (Ty-F.Pointer other u) a b v at_a at_b sa sb is =
      let g : a.ty ≡ ty.Pointer to r = search (rules, the_lemmas) in
      let h : b.ty ≡ ty.Pointer other u = search (rules, the_lemmas) in
      let n : is_constant a.kind ≡ false = no_null a to r at_a sa.1 in
      let m : is_constant b.kind ≡ false = no_null b other u at_b sb.1 in
      let nulls : (is_constant a.kind || is_constant b.kind) ≡ false = rw (n, m) refl in
      same_pointers (same to other) to other r u a b v refl nulls (at_layer s a _ g sa.0) (at_layer s b _ h sb.0) is
  joined_sound l m a b v at_a at_b sa sb is = absurd (search rules)

pub binary_sound : (env : Env) (s : Scope) (o : BinaryOp) (line : ℕ) (a b v : Expr) → BinaryIsLawful env s o line a b v
unfolding binary
binary_sound env s o line a b v agree sa sb is =
    joined_sound env s agree o line (out-Ty a.ty) (out-Ty b.ty) a b v refl refl sa sb is

-- ---- `?:`

module _ (s : Scope) (line : ℕ) (test : Expr) (tested : LawfulExpr s test) (scalar : is_scalar test.ty ≡ true) where
  chosen_sound : (t to : Ty) (r : Bool) (a b : Option Expr) (v : Expr) → t ≡ ty.Pointer to r
      → ((x : Expr) → a ≡ Some x → IsExpr s x t) → ((x : Expr) → b ≡ Some x → IsExpr s x t)
      → chosen line t test a b ≡ Ok v → SoundValue s v
  chosen_sound t to r (Some a) (Some b) v at_t i j is =
      let plain : is_constant (k.Conditional test a b) ≡ false = search (rules, kind_lemmas) in
      let whole : typed line t (k.Conditional test a b) ≡ v = cc in
      let one : IsExpr s a (ty.Pointer to r) = rw (← at_t) (i a refl) in
      let other : IsExpr s b (ty.Pointer to r) = rw (← at_t) (j b refl) in
      rw (← whole) (sound_node s line t (k.Conditional test a b) plain
      (typed_as s t (ty.Pointer to r) _ at_t (pointer_branches test a b test.ty to r tested scalar one other)))
  chosen_sound t to r (Some a) None v at_t i j is = absurd (search rules)
  chosen_sound t to r None b v at_t i j is = absurd (search rules)

  branched_sound : (l m : Ty-F Ty) (a b v : Expr) → out-Ty a.ty ≡ l → out-Ty b.ty ≡ m → LawfulExpr s a → LawfulExpr s b
      → branched line test l a m b ≡ Ok v → SoundValue s v
  branched_sound (Ty-F.Num x) (Ty-F.Num y) a b v at_a at_b i j is =
      let g : a.ty ≡ ty.Num x = search (rules, the_lemmas) in
      let h : b.ty ≡ ty.Num y = search (rules, the_lemmas) in
      let at : IntType = balanced x y in
      let one : IsExpr s (to_int x at a) (ty.Num at) = to_int_lawful s x at a (at_layer s a _ g i) in
      let other : IsExpr s (to_int y at b) (ty.Num at) = to_int_lawful s y at b (at_layer s b _ h j) in
      let plain : is_constant (k.Conditional test (to_int x at a) (to_int y at b)) ≡ false = search (rules, kind_lemmas) in
      let whole : typed line (ty.Num at) (k.Conditional test (to_int x at a) (to_int y at b)) ≡ v = cc in
      rw (← whole) (sound_node s line (ty.Num at) (k.Conditional test (to_int x at a) (to_int y at b)) plain
      (integer_branches test _ _ test.ty at tested scalar (balanced_computed x y) one other))
  branched_sound (Ty-F.Pointer to r) (Ty-F.Pointer other q) a b v at_a at_b i j is =
      let t : Ty = ty.Pointer to (r || q) in
      chosen_sound t to (r || q) (converted t a) (converted t b) v refl
      (λ x found. (converted_lawful s t a x i found).0) (λ x found. (converted_lawful s t b x j found).0) is
  branched_sound (Ty-F.Pointer to r) (Ty-F.Num y) a b v at_a at_b i j is =
      let g : a.ty ≡ ty.Pointer to r = search (rules, the_lemmas) in
      chosen_sound a.ty to r (Some a) (null a.ty b) v g
      (λ x found. let e : a ≡ x = cc in rw (← e) i) (λ x found. null_lawful s a.ty b x to r g found) is
  branched_sound (Ty-F.Num x) (Ty-F.Pointer to r) a b v at_a at_b i j is =
      let h : b.ty ≡ ty.Pointer to r = search (rules, the_lemmas) in
      chosen_sound b.ty to r (null b.ty a) (Some b) v h
      (λ x found. null_lawful s b.ty a x to r h found) (λ x found. let e : b ≡ x = cc in rw (← e) j) is
  branched_sound l m a b v at_a at_b i j is = absurd (search rules)

conditional_by : (s : Scope) (line : ℕ) (p : Bool) (test a b v : Expr) → is_scalar test.ty ≡ p → LawfulExpr s test
    → LawfulExpr s a → LawfulExpr s b
    → cond p (branched line test (out-Ty a.ty) a (out-Ty b.ty) b) (Err WrongType) ≡ Ok v → SoundValue s v
conditional_by s line true test a b v scalar t i j is =
    branched_sound s line test t scalar (out-Ty a.ty) (out-Ty b.ty) a b v refl refl i j is
conditional_by s line false test a b v scalar t i j is = absurd (search rules)

pub conditional_sound : (s : Scope) (line : ℕ) (test a b v : Expr) → ConditionalIsLawful s line test a b v
unfolding conditional
conditional_sound s line test a b v t i j is = conditional_by s line (is_scalar test.ty) test a b v refl t i j is
