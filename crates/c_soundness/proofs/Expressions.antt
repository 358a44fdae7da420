-- What a lawful expression does from runs that stand: they go on standing, and its value has the shape of its type.
use Rattle.std.proofs.Common.{append_assoc, append-nil, ◌≡◌, ℕ, ◌+◌, ℤ, pos, Bool, true, false, cond, List, [], ◌∷◌, ◌++◌, ◌<◌, map, slice_get, Option, Some, None, refl, sym, ap, subst, ◌∙◌}
use Rattle.std.specs.Prelude.{nat_eq}
use Rattle.base16.specs.declared.integer.IntType.{IntType}
use Rattle.base16.specs.declared.integer.IntType.TheVariants as int
use Rattle.base16.specs.declared.operator.UnaryOp.TheVariants as un
use Rattle.base16.specs.declared.reading.Reading.{Reading}
use Rattle.core_tree.specs.declared.types.Ty.{Ty}
use Rattle.core_tree.specs.declared.types.Ty.TheVariants as ty
use Rattle.core_tree.specs.declared.types.Struct.{Struct}
use Rattle.core_tree.specs.declared.types.Member.{Member}
use Rattle.core_tree.specs.declared.types.Slot.{Slot}
use Rattle.core_tree.specs.declared.expressions.Expr.{Expr}
use Rattle.core_tree.specs.declared.expressions.Place.{Place}
use Rattle.core_tree.specs.declared.expressions.ExprKind.{ExprKind}
use Rattle.core_tree.specs.declared.expressions.PlaceKind.{PlaceKind}
use Rattle.core_tree.specs.declared.program.Core.{Core}
use Rattle.core_tree.specs.declared.program.Global.{Global}
use Rattle.core_tree.specs.declared.program.Function.{Function}
use Rattle.core_tree.specs.Layout.{layout, kind_of, int_type_of, target_of, is_pointer, members_of, stride, member_stride}
use Rattle.core_tree.specs.Rules.{result_in, promoted}
use Rattle.core_tree.specs.Lawful.{Scope, HasType, IsExpr, HasPlaceType, IsPlace, IsStored, AreExprs}
use Rattle.core_tree.specs.LawfulCore.{Every, IsObject, scalar_types}
use Rattle.core_tree.specs.Numbers.{expr_numbers, place_numbers}
use Rattle.core_tree.specs.Reaching.{joined}
use Rattle.c_values.specs.declared.value.Value.{Value}
use Rattle.c_values.specs.declared.value.Value.TheVariants.{Int, Pointer, Null, Undefined}
use Rattle.c_values.specs.Pointers.{at, member_at}
use Rattle.c_values.specs.Values.{numbered}
use Rattle.c_run.specs.Runs.{Run, Action, ◌>>=◌, pure}
use Rattle.c_meaning.specs.Meaning.{Calls, constant, each_from, passed, tested, int_of, is_sub, expr_kind, place_kind, expr, place, meant}
use Rattle.c_meaning.proofs.ExprEquations.{expr-Constant, expr-Read, expr-Binary, expr-Call, expr-Convert, expr-Unary, expr-PointerPlus, expr-Difference, expr-ComparePointers, expr-And, expr-Or, expr-Conditional, expr-Assign, expr-Update, expr-Address, expr-Sense, expr-Emit, expr-Checkpoint, expr-Comma, place-Local, place-Global, place-Deref, place-Member, place-Element, place-At}
use Rattle.c_soundness.specs.Shapes.{IsInteger, IsPointer, Has, HaveAll, IsIn, IsAt, holds_pointer}
use Rattle.c_soundness.specs.Standing.{Frame, Stands}
use Rattle.c_soundness.proofs.Triples.{Any, Triple, Keeps, t_then, t_seq, t_pure, t_value, t_given, t_asked, t_if}
use Rattle.c_soundness.proofs.Operators.{granted_operated, granted_not, granted_one, granted_truth, granted_int, numbered_integer, granted_all, granted_converted, converted_pointer, granted_pointed, granted_element, granted_sum, granted_sum_other, granted_pointer, granted_address, granted_compared, granted_difference}
use Rattle.c_soundness.proofs.Types.{pointer_num, pointer_pointer, pointer_first, integer_first, pointer_word, target_pointer, void_has, num_has, has_num, pointer_has, has_pointer, object_element}
use Rattle.c_soundness.proofs.Numbers.{kind_numbers, place_kind_numbers}
use Rattle.c_soundness.proofs.Numbers as nums
use Rattle.c_soundness.proofs.Actions.{t_any, t_mark, t_load, t_store, t_sense, t_emit}

-- pointers stand where the types of the scalars are pointers
abbrev pub KindsAre : List Slot → List Ty → Type 0
KindsAre [] [] = Unit {0}
KindsAre [] (t ∷ ts) = ⊥
KindsAre (s ∷ ss) [] = ⊥
KindsAre (s ∷ ss) (t ∷ ts) = (holds_pointer s.kind ≡ holds_pointer (kind_of t)) × KindsAre ss ts

-- what a lawful program gives to its expressions and statements
pub record Whole (K : Core) : Type 0 where
  pub globals : (n : ℕ) (g : Global) → slice_get K.globals n ≡ Some g → IsObject K g.ty
  pub members : (tag n : ℕ) (m : Member) → slice_get (members_of K.structs tag) n ≡ Some m → IsObject K m.ty
  pub sizes : (t : Ty) → IsObject K t → nat_eq (stride K.structs t) 0 ≡ false
  pub kinds : (t : Ty) → KindsAre (layout K.structs t).slots (scalar_types K t)

-- ---- words

-- the nodes of a program, of which there are so many
abbrev pub AllBelow : ℕ → List ℕ → Type 0
AllBelow many ns = Every (λ (n : ℕ). n < many) ns

pub own_is : (many : ℕ) {ms ns : List ℕ} → ms ≡ ns → AllBelow many ms → AllBelow many ns
own_is many e h = subst (λ (xs : List ℕ). AllBelow many xs) e h

pub own_parts : (many : ℕ) (ms ns : List ℕ) → AllBelow many (ms ++ ns) → AllBelow many ms × AllBelow many ns
own_parts many [] ns h = (tt, h)
own_parts many (m ∷ ms) ns h = let w = own_parts many ms ns h.1 in ((h.0, w.0), w.1)

pub t_is : {A : Type 0} {many : ℕ} {V W : Run → Type 0} {P : A → Type 0} {p q : Action A} → p ≡ q → Triple many V W P q
    → Triple many V W P p
t_is {A} {many} {V} {W} {P} e h = subst (λ (x : Action A). Triple many V W P x) (sym e) h

integer_constant : (b : Bool) (v : ℤ) → b ≡ false → IsInteger (constant b v)
integer_constant true v e = absurd cc
integer_constant false v e = tt

null_constant : (Q : Type 0) (b : Bool) (v : ℤ) → b ≡ true → IsPointer Q (constant b v)
null_constant Q true v e = tt
null_constant Q false v e = absurd cc

in_weak : (P Q : Type 0) → (P → Q) → (o : Option ℕ) → IsIn P o → IsIn Q o
in_weak P Q f None h = tt
in_weak P Q f (Some n) h = f h

numbered_pointer : (Q : Type 0) (t : IntType) (v : Value) → IsPointer Q v → IsPointer Q (numbered t v)
numbered_pointer Q t (Int z) h = absurd h
numbered_pointer Q t (Pointer n x) h = h
numbered_pointer Q t Null h = tt
numbered_pointer Q t Undefined h = tt

either_of : {A : Type 0} (P : A → Type 0) (b : Bool) (x y : A) → P x → P y → P (cond b x y)
either_of P true x y h i = h
either_of P false x y h i = i

have_last : (K : Core) (ts : List Ty) (t : Ty) (vs : List Value) (v : Value) → HaveAll K ts vs → Has K t v
    → HaveAll K (ts ++ t ∷ []) (vs ++ v ∷ [])
have_last K [] t [] v h i = (i, tt)
have_last K [] t (w ∷ vs) v h i = absurd h
have_last K (u ∷ ts) t [] v h i = absurd h
have_last K (u ∷ ts) t (w ∷ vs) v h i = (h.0, have_last K ts t vs v h.1 i)

pub own_type : (s : Scope) (e : Expr) (t : Ty) → IsExpr s e t → e.ty ≡ t
own_type s _ _ (IsExpr.is_expr e t at has) = at

module _ (many : ℕ) (K : Core) (whole : Whole K) (R : List Reading) (C : Calls) (F : ℕ) (frames : List Frame) (b : ℕ)
    (called : (n : ℕ) (f : Function) (vs : List Value) → slice_get K.functions n ≡ Some f → HaveAll K f.params vs
    → Keeps many (Stands frames b) (Has K f.result) (C n vs))
    (s : Scope) (same : s.core ≡ K) (locals : (n : ℕ) (t : Ty) → slice_get s.objects n ≡ Some t → IsObject K t) where
  abbrev S : List Struct
  S = K.structs

  abbrev W : Run → Type 0
  W = Stands frames b

  abbrev Own : List ℕ → Type 0
  Own ns = AllBelow many ns

  t_tested : (n : ℕ) → n < many → (t : Ty) (v : Value) → Keeps many W Any (tested n t v)
  t_tested n own t v = t_asked n own _ (λ r w. granted_truth r.state (int_type_of t) v)

  t_second : (n : ℕ) → n < many → (e : Expr) (t : Ty) → Keeps many W (Has K t) (expr S R C F e)
      → Keeps many W (Has K (ty.Num int.Int)) (expr S R C F e >>= λ b. tested n e.ty b >>= λ y. pure (int_of y))
  t_second n own e t h = t_then h (λ v _. t_then (t_tested n own e.ty v)
      (λ y _. t_pure (int_of y) (num_has K int.Int (int_of y) tt)))

  t_passed : (n : ℕ) → n < many → (m : ℕ) (f : Function) (vs : List Value) → slice_get s.core.functions m ≡ Some f
      → HaveAll K f.params vs
      → Keeps many W (Has K f.result) (passed C n m vs)
  t_passed n own m f vs at h =
      t_seq (t_given {P = Any} n own _ (granted_all vs)) (called m f vs
      (subst (λ (k : Core). slice_get k.functions m ≡ Some f) same at) h)

  abbrev Does : Ty → ExprKind → Type 0
  Does t kind = (n : ℕ) → Own (kind_numbers kind n) → Keeps many W (Has K t) (expr_kind S R C F kind t n)

  abbrev Stays : Ty → PlaceKind → Type 0
  Stays t kind = (n : ℕ) → Own (place_kind_numbers kind n) → Keeps many W (IsAt K t) (place_kind S R C F kind t n)

  mutual
    kind_does : (kind : ExprKind) (t : Ty) → HasType s kind t → Does t kind
    kind_does _ _ (HasType.integer_constant v t within) n mine =
        t_is (expr-Constant S R C F v (ty.Num t) n)
        (t_pure _ (num_has K t _ (integer_constant (is_pointer (ty.Num t)) v (pointer_num t))))
    kind_does _ _ (HasType.null_constant to r) n mine =
        t_is (expr-Constant S R C F (pos 0) (ty.Pointer to r) n)
        (t_pure _ (pointer_has K to r _ (null_constant (IsObject K to) (is_pointer (ty.Pointer to r)) (pos 0)
        (pointer_pointer to r))))
    kind_does _ _ (HasType.read p t i scalar) n mine =
        let all = own_is many (nums.numbers-Read p n) mine in
        t_is (expr-Read S R C F p t n) (t_then (place_does p t i all.1) (λ l at. t_any (λ kinds. t_load K n all.0 l t at)))
    kind_does _ _ (HasType.decayed p of count r i c un) n mine =
        let all = own_is many (nums.numbers-Address p n) mine in
        t_is (expr-Address S R C F p (ty.Pointer of r) n) (t_then (place_does p (ty.Array of count) i all.1) (λ l at.
        t_value (λ v h. pointer_has K of r v h) (t_asked n all.0 _ (λ q w. granted_address (IsObject K of) q.state l
        (in_weak (IsObject K (ty.Array of count)) (IsObject K of) (object_element K of count) l.object at)))))
    kind_does _ _ (HasType.address p t r i a c un) n mine =
        let all = own_is many (nums.numbers-Address p n) mine in
        t_is (expr-Address S R C F p (ty.Pointer t r) n) (t_then (place_does p t i all.1) (λ l at.
        t_value (λ v h. pointer_has K t r v h) (t_asked n all.0 _ (λ q w. granted_address (IsObject K t) q.state l at))))
    kind_does _ _ (HasType.integer_converted e from to i) n mine =
        let all = own_is many (nums.numbers-Convert e n) mine in
        t_is (expr-Convert S R C F e (ty.Num to) n) (t_then (expr_does e (ty.Num from) i all.1) (λ v h.
        t_value (λ w j. num_has K to w j) (t_given n all.0 _ (granted_converted (int_type_of (ty.Num to)) v
        (has_num K from v h)))))
    kind_does _ _ (HasType.pointer_converted e to i) n mine =
        let all = own_is many (nums.numbers-Convert e n) mine in
        t_is (expr-Convert S R C F e (ty.Pointer to true) n) (t_then (expr_does e (ty.Pointer to false) i all.1) (λ v h.
        t_value (λ w j. pointer_has K to true w j)
        (t_given n all.0 _ (converted_pointer (IsObject K to) (int_type_of (ty.Pointer to true)) v (pointer_word to true)
        (has_pointer K to false v h)))))
    kind_does _ _ (HasType.signed o e t other computed i) n mine =
        let all = own_is many (nums.numbers-Unary o e n) mine in
        t_is (expr-Unary S R C F o e (ty.Num t) n) (t_then (expr_does e (ty.Num t) i all.1) (λ v h.
        t_value (λ w j. num_has K t w j) (t_asked n all.0 _ (λ q w. granted_one q.state o (int_type_of e.ty) v
        (has_num K t v h)))))
    kind_does _ _ (HasType.negated e t i scalar) n mine =
        let all = own_is many (nums.numbers-Unary un.Not e n) mine in
        t_is (expr-Unary S R C F _ e (ty.Num int.Int) n) (t_then (expr_does e t i all.1) (λ v h.
        t_value (λ w j. num_has K int.Int w j) (t_asked n all.0 _ (λ q w. granted_not q.state (int_type_of e.ty) v))))
    kind_does _ _ (HasType.binary o t x y other computed i j) n mine =
        let all = own_is many (nums.numbers-Binary o t x y n) mine in
        let parts = own_parts many (expr_numbers x) (expr_numbers y) all.1 in
        t_is (expr-Binary S R C F o t x y (ty.Num (result_in o t)) n) (t_then (expr_does x (ty.Num t) i parts.0) (λ v h.
        t_then (expr_does y (ty.Num t) j parts.1) (λ w g. t_value (λ u l. num_has K (result_in o t) u l)
        (t_given n all.0 _ (granted_operated o t (int_type_of y.ty) v w (has_num K t v h) (has_num K t w g))))))
    kind_does _ _ (HasType.shift o t by x y other computed also i j) n mine =
        let all = own_is many (nums.numbers-Binary o t x y n) mine in
        let parts = own_parts many (expr_numbers x) (expr_numbers y) all.1 in
        t_is (expr-Binary S R C F o t x y (ty.Num t) n) (t_then (expr_does x (ty.Num t) i parts.0) (λ v h.
        t_then (expr_does y (ty.Num by) j parts.1) (λ w g. t_value (λ u l. num_has K t u l)
        (t_given n all.0 _ (granted_operated o t (int_type_of y.ty) v w (has_num K t v h) (has_num K by w g))))))
    kind_does _ _ (HasType.pointer_plus minus x y to r by c i j) n mine =
        let all = own_is many (nums.numbers-PointerPlus minus x y n) mine in
        let parts = own_parts many (expr_numbers x) (expr_numbers y) all.1 in
        t_is (expr-PointerPlus S R C F minus x y (ty.Pointer to r) n) (t_then (expr_does x (ty.Pointer to r) i parts.0) (λ v h.
        t_then (expr_does y (ty.Num by) j parts.1) (λ w g. t_value (λ u l. pointer_has K to r u l)
        (t_asked n all.0 _ (λ q z. granted_pointer (IsObject K to) _ (granted_sum (IsObject K to) q.state _ minus _ _ _
        (pointer_first x.ty to r (own_type s x (ty.Pointer to r) i))
        (numbered_pointer (IsObject K to) (int_type_of x.ty) v (has_pointer K to r v h))
        (numbered_integer (int_type_of y.ty) w (has_num K by w g))))))))
    kind_does _ _ (HasType.plus_pointer x y to r by c i j) n mine =
        let all = own_is many (nums.numbers-PointerPlus false x y n) mine in
        let parts = own_parts many (expr_numbers x) (expr_numbers y) all.1 in
        t_is (expr-PointerPlus S R C F false x y (ty.Pointer to r) n) (t_then (expr_does x (ty.Num by) i parts.0) (λ v h.
        t_then (expr_does y (ty.Pointer to r) j parts.1) (λ w g. t_value (λ u l. pointer_has K to r u l)
        (t_asked n all.0 _ (λ q z. granted_pointer (IsObject K to) _ (granted_sum_other (IsObject K to) q.state _ false _ _ _
        (integer_first x.ty by (own_type s x (ty.Num by) i))
        (numbered_integer (int_type_of x.ty) v (has_num K by v h))
        (numbered_pointer (IsObject K to) (int_type_of y.ty) w (has_pointer K to r w g))))))))
    kind_does _ _ (HasType.difference x y to r q c i j) n mine =
        let all = own_is many (nums.numbers-Difference x y n) mine in
        let parts = own_parts many (expr_numbers x) (expr_numbers y) all.1 in
        t_is (expr-Difference S R C F x y (ty.Num int.Int) n) (t_then (expr_does x (ty.Pointer to r) i parts.0) (λ v h.
        t_then (expr_does y (ty.Pointer to q) j parts.1) (λ w g. t_value (λ u l. num_has K int.Int u l)
        (t_asked n all.0 _ (λ z o. granted_int _ (granted_difference (IsObject K to) (IsObject K to) z.state
        (stride S (target_of x.ty)) v w
        (λ object. subst (λ (u : Ty). nat_eq (stride S u) 0 ≡ false)
        (sym (ap target_of (own_type s x (ty.Pointer to r) i) ∙ target_pointer to r)) (whole.sizes to object))
        (has_pointer K to r v h) (has_pointer K to q w g)))))))
    kind_does _ _ (HasType.compared o x y to r q c d i j) n mine =
        let all = own_is many (nums.numbers-ComparePointers o x y n) mine in
        let parts = own_parts many (expr_numbers x) (expr_numbers y) all.1 in
        t_is (expr-ComparePointers S R C F o x y (ty.Num int.Int) n) (t_then (expr_does x (ty.Pointer to r) i parts.0) (λ v h.
        t_then (expr_does y (ty.Pointer to q) j parts.1) (λ w g. t_value (λ u l. num_has K int.Int u l)
        (t_asked n all.0 _ (λ z u. granted_int _ (granted_compared (IsObject K to) (IsObject K to) z.state o v w c
        (has_pointer K to r v h) (has_pointer K to q w g)))))))
    kind_does _ _ (HasType.both x y t u i j p q) n mine =
        let all = own_is many (nums.numbers-And x y n) mine in
        let parts = own_parts many (expr_numbers x) (expr_numbers y) all.1 in
        t_is (expr-And S R C F x y (ty.Num int.Int) n) (t_then (expr_does x t i parts.0) (λ v h.
        t_then (t_tested n all.0 x.ty v) (λ z _. t_if z (t_second n all.0 y u (expr_does y u j parts.1))
        (t_pure (int_of false) (num_has K int.Int (int_of false) tt)))))
    kind_does _ _ (HasType.either x y t u i j p q) n mine =
        let all = own_is many (nums.numbers-Or x y n) mine in
        let parts = own_parts many (expr_numbers x) (expr_numbers y) all.1 in
        t_is (expr-Or S R C F x y (ty.Num int.Int) n) (t_then (expr_does x t i parts.0) (λ v h.
        t_then (t_tested n all.0 x.ty v) (λ z _. t_if z (t_pure (int_of true) (num_has K int.Int (int_of true) tt))
        (t_second n all.0 y u (expr_does y u j parts.1)))))
    kind_does _ _ (HasType.integer_branches test x y u t i p computed j l) n mine =
        let all = own_is many (nums.numbers-Conditional test x y n) mine in
        let parts = own_parts many (expr_numbers test ++ expr_numbers x) (expr_numbers y) all.1 in
        let more = own_parts many (expr_numbers test) (expr_numbers x) parts.0 in
        t_is (expr-Conditional S R C F test x y (ty.Num t) n) (t_then (expr_does test u i more.0) (λ v h.
        t_then (t_tested n all.0 test.ty v) (λ z _. t_if z (expr_does x (ty.Num t) j more.1) (expr_does y (ty.Num t) l parts.1))))
    kind_does _ _ (HasType.pointer_branches test x y u to r i p j l) n mine =
        let all = own_is many (nums.numbers-Conditional test x y n) mine in
        let parts = own_parts many (expr_numbers test ++ expr_numbers x) (expr_numbers y) all.1 in
        let more = own_parts many (expr_numbers test) (expr_numbers x) parts.0 in
        t_is (expr-Conditional S R C F test x y (ty.Pointer to r) n) (t_then (expr_does test u i more.0) (λ v h.
        t_then (t_tested n all.0 test.ty v) (λ z _. t_if z (expr_does x (ty.Pointer to r) j more.1)
        (expr_does y (ty.Pointer to r) l parts.1))))
    kind_does _ _ (HasType.assigned p x t marked st i) n mine =
        let all = own_is many (nums.numbers-Assign p x marked n) mine in
        let parts = own_parts many (place_numbers p) (expr_numbers x) all.1 in
        t_is (expr-Assign S R C F p x marked t n) (t_then (stored_does p t marked st parts.0) (λ l at.
        t_then (expr_does x t i parts.1) (λ v h. t_any (λ kinds. t_store K n all.0 l t v marked h))))
    kind_does _ _ (HasType.updated o t own p x old marked a c d st i) n mine =
        let all = own_is many (nums.numbers-Update o (Some t) p x old marked n) mine in
        let parts = own_parts many (place_numbers p) (expr_numbers x) all.1 in
        t_is (expr-Update S R C F o (Some t) p x old marked (ty.Num own) n)
        (t_then (stored_does p (ty.Num own) marked st parts.0) (λ l at.
        t_then (t_any (λ kinds. t_load K n all.0 l (ty.Num own) at)) (λ v h. t_then (expr_does x (ty.Num t) i parts.1) (λ w g.
        t_then (t_value (λ u j. num_has K own u j) (t_asked n all.0 _
        (λ q z. granted_operated o t (int_type_of x.ty) v w (has_num K own v h) (has_num K t w g)))) (λ u j.
        t_then (t_any (λ kinds. t_store K n all.0 l (ty.Num own) u marked j))
        (λ z m. t_pure (cond old v z) (either_of (Has K (ty.Num own)) old v z h m)))))))
    kind_does _ _ (HasType.shifted o own by p x old marked a c st i) n mine =
        let all = own_is many (nums.numbers-Update o (Some (promoted own)) p x old marked n) mine in
        let parts = own_parts many (place_numbers p) (expr_numbers x) all.1 in
        t_is (expr-Update S R C F o (Some (promoted own)) p x old marked (ty.Num own) n)
        (t_then (stored_does p (ty.Num own) marked st parts.0) (λ l at.
        t_then (t_any (λ kinds. t_load K n all.0 l (ty.Num own) at)) (λ v h. t_then (expr_does x (ty.Num by) i parts.1) (λ w g.
        t_then (t_value (λ u j. num_has K own u j) (t_asked n all.0 _
        (λ q z. granted_operated o (promoted own) (int_type_of x.ty) v w (has_num K own v h) (has_num K by w g)))) (λ u j.
        t_then (t_any (λ kinds. t_store K n all.0 l (ty.Num own) u marked j))
        (λ z m. t_pure (cond old v z) (either_of (Has K (ty.Num own)) old v z h m)))))))
    kind_does _ _ (HasType.moved o to r by p x old marked a c st i) n mine =
        let all = own_is many (nums.numbers-Update o None p x old marked n) mine in
        let parts = own_parts many (place_numbers p) (expr_numbers x) all.1 in
        t_is (expr-Update S R C F o None p x old marked (ty.Pointer to r) n)
        (t_then (stored_does p (ty.Pointer to r) marked st parts.0) (λ l at.
        t_then (t_any (λ kinds. t_load K n all.0 l (ty.Pointer to r) at))
        (λ v h. t_then (expr_does x (ty.Num by) i parts.1) (λ w g.
        t_then (t_value (λ u j. pointer_has K to r u j) (t_asked n all.0 _ (λ q z. granted_pointer (IsObject K to) _
        (granted_sum (IsObject K to) q.state false (is_sub o) _ v _ refl (has_pointer K to r v h)
        (numbered_integer (int_type_of x.ty) w (has_num K by w g)))))) (λ u j.
        t_then (t_any (λ kinds. t_store K n all.0 l (ty.Pointer to r) u marked j))
        (λ z m. t_pure (cond old v z) (either_of (Has K (ty.Pointer to r)) old v z h m)))))))
    kind_does _ _ (HasType.called m f args at are may) n mine =
        let all = own_is many (nums.numbers-Call m args n) mine in
        t_is (expr-Call S R C F m args f.result n) (t_then (args_do args f.params are [] [] tt all.1)
        (λ vs h. t_passed n all.0 m f vs at h))
    kind_does _ _ (HasType.sensed channel below) n mine =
        t_is (expr-Sense S R C F channel (ty.Num int.UInt) n) (t_value (λ v h. num_has K int.UInt v h)
        (t_any (λ kinds. t_sense R channel)))
    kind_does _ _ (HasType.emitted e i) n mine =
        let all = own_is many (nums.numbers-Emit e n) mine in
        t_is (expr-Emit S R C F e ty.Void n) (t_then (expr_does e (ty.Num int.UInt) i all.1) (λ v h.
        t_value (λ w j. void_has K w j) (t_any (λ kinds. t_emit n all.0 v (has_num K int.UInt v h)))))
    kind_does _ _ HasType.checkpoint n mine =
        t_is (expr-Checkpoint S R C F ty.Void n) (t_then (t_any (λ kinds. t_mark))
        (λ _ _. t_pure Undefined (void_has K Undefined tt)))
    kind_does _ _ (HasType.sequence x y t u i j p) n mine =
        let all = own_is many (nums.numbers-Comma x y n) mine in
        let parts = own_parts many (expr_numbers x) (expr_numbers y) all.1 in
        t_is (expr-Comma S R C F x y u n) (t_then (expr_does x t i parts.0) (λ _ _. expr_does y u j parts.1))

    pub expr_does : (e : Expr) (t : Ty) → IsExpr s e t → Own (expr_numbers e) → Keeps many W (Has K t) (expr S R C F e)
    expr_does _ _ (IsExpr.is_expr e t at has) o =
        subst (λ (u : Ty). Keeps many W (Has K t) (expr_kind S R C F e.kind u e.node)) (sym at) (kind_does e.kind t has e.node o)

    place_kind_does : (kind : PlaceKind) (t : Ty) → HasPlaceType s kind t → Stays t kind
    place_kind_does _ _ (HasPlaceType.local m t at_m) n mine =
        t_is (place-Local S R C F m t n) (t_pure (at (F + m) 0) (locals m t at_m))
    place_kind_does _ _ (HasPlaceType.global m g at_m) n mine =
        t_is (place-Global S R C F m g.ty n)
        (t_pure (at m 0) (whole.globals m g (subst (λ (k : Core). slice_get k.globals m ≡ Some g) same at_m)))
    place_kind_does _ _ (HasPlaceType.pointed e to r i) n mine =
        let all = own_is many (nums.place-Deref e n) mine in
        t_is (place-Deref S R C F e to n) (t_then (expr_does e (ty.Pointer to r) i all.1) (λ v h.
        t_given n all.0 _ (granted_pointed (IsObject K to) v (has_pointer K to r v h))))
    place_kind_does _ _ (HasPlaceType.member p tag m mem i at_m) n mine =
        let all = own_is many (nums.place-Member p tag m n) mine in
        t_is (place-Member S R C F p tag m mem.ty n) (t_then (place_does p (ty.Struct tag) i all.1) (λ l h.
        t_pure (member_at l (member_stride S tag m)) (in_weak (IsObject K (ty.Struct tag)) (IsObject K mem.ty)
        (λ _. whole.members tag m mem (subst (λ (k : Core). slice_get (members_of k.structs tag) m
        ≡ Some mem) same at_m)) l.object h)))
    place_kind_does _ _ (HasPlaceType.element p e of count t i j) n mine =
        let all = own_is many (nums.place-Element p e n) mine in
        let parts = own_parts many (place_numbers p) (expr_numbers e) all.1 in
        t_is (place-Element S R C F p e of n) (t_then (place_does p (ty.Array of count) i parts.0) (λ l h.
        t_then (expr_does e (ty.Num t) j parts.1) (λ v g. t_asked n all.0 _
        (λ q z. granted_element (IsObject K of) q.state (stride S of) l _
        (in_weak (IsObject K (ty.Array of count)) (IsObject K of) (object_element K of count) l.object h)
        (numbered_integer (int_type_of e.ty) v (has_num K t v g))))))
    place_kind_does _ _ (HasPlaceType.pointer_at x y to r t c i j) n mine =
        let all = own_is many (nums.place-At x y n) mine in
        let parts = own_parts many (expr_numbers x) (expr_numbers y) all.1 in
        t_is (place-At S R C F x y to n) (t_then (expr_does x (ty.Pointer to r) i parts.0) (λ v h.
        t_then (expr_does y (ty.Num t) j parts.1) (λ w g. t_asked n all.0 _
        (λ q z. granted_sum (IsObject K to) q.state _ false (stride S to) _ _
        (pointer_first x.ty to r (own_type s x (ty.Pointer to r) i))
        (numbered_pointer (IsObject K to) (int_type_of x.ty) v (has_pointer K to r v h))
        (numbered_integer (int_type_of y.ty) w (has_num K t w g))))))
    place_kind_does _ _ (HasPlaceType.at_pointer x y to r t c i j) n mine =
        let all = own_is many (nums.place-At x y n) mine in
        let parts = own_parts many (expr_numbers x) (expr_numbers y) all.1 in
        t_is (place-At S R C F x y to n) (t_then (expr_does x (ty.Num t) i parts.0) (λ v h.
        t_then (expr_does y (ty.Pointer to r) j parts.1) (λ w g. t_asked n all.0 _
        (λ q z. granted_sum_other (IsObject K to) q.state _ false (stride S to) _ _
        (integer_first x.ty t (own_type s x (ty.Num t) i))
        (numbered_integer (int_type_of x.ty) v (has_num K t v h))
        (numbered_pointer (IsObject K to) (int_type_of y.ty) w (has_pointer K to r w g))))))

    pub place_does : (p : Place) (t : Ty) → IsPlace s p t → Own (place_numbers p) → Keeps many W (IsAt K t) (place S R C F p)
    place_does _ _ (IsPlace.is_place p t at_t has) o =
        subst (λ (u : Ty). Keeps many W (IsAt K t) (place_kind S R C F p.kind u p.node)) (sym at_t)
        (place_kind_does p.kind t has p.node o)

    stored_does : (p : Place) (t : Ty) (marked : Bool) → IsStored s p t marked → Own (place_numbers p) → Keeps many W (IsAt K t)
        (place S R C F p)
    stored_does _ _ _ (IsStored.stored p t marked i scalar free un is) o = place_does p t i o

    args_do : (es : List Expr) (ts : List Ty) → AreExprs s es ts → (before : List Ty) (found : List Value)
        → HaveAll K before found
        → Own (joined (map expr_numbers es)) → Keeps many W (HaveAll K (before ++ ts)) (each_from found (map (meant S R C F) es))
    args_do _ _ AreExprs.no_exprs before found h o =
        t_pure found (subst (λ (ts : List Ty). HaveAll K ts found) (sym (append-nil before)) h)
    args_do _ _ (AreExprs.one_more e t es ts i is) before found h o =
        let parts = own_parts many (expr_numbers e) (joined (map expr_numbers es)) o in
        t_then (expr_does e t i parts.0) (λ v g.
        t_value (λ vs j. subst (λ (us : List Ty). HaveAll K us vs) (append_assoc before (t ∷ []) ts) j)
        (args_do es ts is (before ++ t ∷ []) (found ++ v ∷ []) (have_last K before t found v h g) parts.1))
