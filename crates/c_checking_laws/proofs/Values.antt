-- What the constant that initialises an integer is: a value of its type.
use Rattle.std.proofs.Common.{◌≡◌, ◌≤◌, ◌<◌, Bool, true, nat_lt, ℤ, pos, negsuc, Some, None, Ok, Err, refl, sym, ap, subst, ◌∙◌, rules, tests, arith}
use Rattle.base16.specs.Integer.{wrapped}
use Rattle.base16.specs.declared.integer.IntType.{IntType}
use Rattle.base16.specs.declared.integer.IntType.TheVariants.{Char, Int, UInt}
use Rattle.base16.specs.declared.operator.BinaryOp.{BinaryOp}
use Rattle.base16.specs.declared.operator.BinaryOp.TheVariants as op
use Rattle.core_tree.specs.declared.types.Ty.{Ty, out-Ty, the_lemmas as type_lemmas}
use Rattle.core_tree.specs.declared.types.Ty.TheVariants as ty
use Rattle.core_tree.specs.declared.types.Ty.TheOpen.{Ty-F}
use Rattle.core_tree.specs.declared.expressions.Expr.{Expr}
use Rattle.core_tree.specs.declared.expressions.ExprKind.{ExprKind, the_lemmas as kind_lemmas}
use Rattle.core_tree.specs.declared.expressions.ExprKind.TheVariants as k
use Rattle.core_tree.specs.Layout.{int_type_of}
use Rattle.core_tree.specs.Lawful.{Scope, IsExpr, HasType, IsComputed}
use Rattle.core_tree.specs.Rules.{is_value, promoted, result_in}
use Rattle.c_values.specs.Operators.{as_type, number}
use Rattle.c_rules.specs.Constants.{Known, then_by, known_kind, part_of, value_at, value}
use Rattle.c_checking_laws.specs.Accepted.{ConstantIsValue}
use Rattle.c_checking_laws.proofs.Labels.{char_fits, word_fits, signed_by, wrapped_below}

-- ---- numbers

number_by : (t : IntType) (v : ℤ) → (t ≡ Char → wrapped v ≤ 255) → is_value t (number t v) ≡ true
unfolding number
number_by Char v small = char_fits (wrapped v) (small refl)
number_by Int v small = signed_by (wrapped v) (nat_lt (wrapped v) 32768) refl (wrapped_below v)
number_by UInt v small = let h : wrapped v < 65536 = wrapped_below v in word_fits (wrapped v) (omega arith)

record Valued (t : IntType) (known : Known) (n : ℤ) : Type 0 where
  own : ℤ
  is_known : known ≡ Some (Ok own)
  is_number : number t own ≡ n

valued : (t : IntType) (known : Known) (n : ℤ) → value_at t known ≡ Some n → Valued t known n
valued t None n is = absurd (search rules)
valued t (Some (Err rule)) n is = absurd (search rules)
valued t (Some (Ok v)) n is = record { own = v; is_known = refl; is_number = cc }

-- ---- characters

in_char : (v : ℤ) → is_value Char v ≡ true → wrapped v ≤ 255
in_char (pos n) is = let h : n ≤ 255 = grind (arith, tests) in omega arith
in_char (negsuc n) is = absurd (grind (arith, tests))

as_char : (v : ℤ) → wrapped (as_type Char v) ≤ 255
unfolding as_type
as_char v = omega arith

cast_by : (known : Known) (v : ℤ) → then_by known (λ z. Some (Ok (as_type Char z))) ≡ Some (Ok v) → wrapped v ≤ 255
cast_by None v is = absurd (search rules)
cast_by (Some (Err rule)) v is = absurd (search rules)
cast_by (Some (Ok z)) v is = let e : as_type Char z ≡ v = cc in subst (λ y. wrapped y ≤ 255) e (as_char z)

-- a type of integers is one
num_is : (a b : IntType) → ty.Num a ≡ ty.Num b → a ≡ b
num_is a b is =
    let h : out-Ty (ty.Num a) ≡ Ty-F.Num a = search (rules, type_lemmas) in
    let g : out-Ty (ty.Num b) ≡ Ty-F.Num b = search (rules, type_lemmas) in
    let e : ◌≡◌ {A = Ty-F Ty} (Ty-F.Num a) (Ty-F.Num b) = sym h ∙ ap out-Ty is ∙ g in cc

not_pointer : (to : Ty) (r : Bool) (b : IntType) → ty.Pointer to r ≡ ty.Num b → ⊥
not_pointer to r b is =
    let h : out-Ty (ty.Pointer to r) ≡ Ty-F.Pointer to r = search (rules, type_lemmas) in
    let g : out-Ty (ty.Num b) ≡ Ty-F.Num b = search (rules, type_lemmas) in
    let e : ◌≡◌ {A = Ty-F Ty} (Ty-F.Pointer to r) (Ty-F.Num b) = sym h ∙ ap out-Ty is ∙ g in cc

no_char : (t : IntType) → IsComputed t → t ≡ Char → ⊥
no_char Char computed is = cc
no_char Int computed is = cc
no_char UInt computed is = cc

result_char : (o : BinaryOp) (t : IntType) → IsComputed t → result_in o t ≡ Char → ⊥
result_char op.Less t computed is = cc
result_char op.Greater t computed is = cc
result_char op.LessEq t computed is = cc
result_char op.GreaterEq t computed is = cc
result_char op.Equal t computed is = cc
result_char op.NotEqual t computed is = cc
result_char _ t computed is = no_char t computed is

int_char : ty.Num Int ≡ ty.Num Char → ⊥
int_char is = let e : Int ≡ Char = num_is Int Char is in cc

none_known : (known : Known) (v : ℤ) → known ≡ None → known ≡ Some (Ok v) → wrapped v ≤ 255
none_known known v none is = absurd (let h : ◌≡◌ {A = Known} None (Some (Ok v)) = sym none ∙ is in cc)

char_known : (s : Scope) (kind : ExprKind) (u : Ty) (v : ℤ) → HasType s kind u → u ≡ ty.Num Char
    → known_kind kind u ≡ Some (Ok v) → wrapped v ≤ 255
char_known s _ _ v (HasType.integer_constant n t within) is known =
    let e : t ≡ Char = num_is t Char is in
    let l : known_kind (k.Constant n) (ty.Num t) ≡ Some (Ok n) = search (rules, kind_lemmas, type_lemmas) in
    let f : n ≡ v = let h : ◌≡◌ {A = Known} (Some (Ok n)) (Some (Ok v)) = sym l ∙ known in cc in
    subst (λ z. wrapped z ≤ 255) f (in_char n (subst (λ z. is_value z n ≡ true) e within))
char_known s _ _ v (HasType.integer_converted e from to i) is known =
    let f : to ≡ Char = num_is to Char is in
    let l : known_kind (k.Convert e) (ty.Num to) ≡ then_by (known_kind e.kind e.ty) (λ z. Some (Ok (as_type to z))) =
    search (rules, kind_lemmas, type_lemmas) in
    cast_by (known_kind e.kind e.ty) v (subst (λ y. then_by (known_kind e.kind e.ty) (λ z. Some (Ok (as_type y z))) ≡ Some (Ok v))
    f (sym l ∙ known))
char_known s _ _ v (HasType.null_constant to r) is known = absurd (not_pointer to r Char is)
char_known s _ _ v (HasType.read p t i scalar) is known =
    none_known (known_kind (k.Read p) t) v (search (rules, kind_lemmas)) known
char_known s _ _ v (HasType.decayed p of count r i c un) is known = absurd (not_pointer of r Char is)
char_known s _ _ v (HasType.address p t r i a c un) is known = absurd (not_pointer t r Char is)
char_known s _ _ v (HasType.pointer_converted e to i) is known = absurd (not_pointer to true Char is)
char_known s _ _ v (HasType.signed o e t other computed i) is known = absurd (no_char t computed (num_is t Char is))
char_known s _ _ v (HasType.negated e t i scalar) is known = absurd (int_char is)
char_known s _ _ v (HasType.binary o t a b other computed i j) is known =
    absurd (result_char o t computed (num_is (result_in o t) Char is))
char_known s _ _ v (HasType.shift o t by a b other computed also i j) is known = absurd (no_char t computed (num_is t Char is))
char_known s _ _ v (HasType.pointer_plus minus a b to r by c i j) is known = absurd (not_pointer to r Char is)
char_known s _ _ v (HasType.plus_pointer a b to r by c i j) is known = absurd (not_pointer to r Char is)
char_known s _ _ v (HasType.difference a b to r q c i j) is known = absurd (int_char is)
char_known s _ _ v (HasType.compared o a b to r q c d i j) is known = absurd (int_char is)
char_known s _ _ v (HasType.both a b t u i j p q) is known = absurd (int_char is)
char_known s _ _ v (HasType.either a b t u i j p q) is known = absurd (int_char is)
char_known s _ _ v (HasType.integer_branches test a b u t i p computed j l) is known = absurd (no_char t computed (num_is t Char is))
char_known s _ _ v (HasType.pointer_branches test a b t to r i p j l) is known = absurd (not_pointer to r Char is)
char_known s _ _ v (HasType.assigned p x t marked st i) is known =
    none_known (known_kind (k.Assign p x marked) t) v (search (rules, kind_lemmas)) known
char_known s _ _ v (HasType.updated o t own p x old marked a b c st i) is known =
    none_known (known_kind (k.Update o (Some t) p x old marked) (ty.Num own)) v (search (rules, kind_lemmas)) known
char_known s _ _ v (HasType.shifted o own by p x old marked a b st i) is known =
    none_known (known_kind (k.Update o (Some (promoted own)) p x old marked) (ty.Num own)) v (search (rules, kind_lemmas)) known
char_known s _ _ v (HasType.moved o to r by p x old marked a b st i) is known = absurd (not_pointer to r Char is)
char_known s _ _ v (HasType.called n f args a b c) is known =
    none_known (known_kind (k.Call n args) f.result) v (search (rules, kind_lemmas)) known
char_known s _ _ v (HasType.sensed channel below) is known =
    none_known (known_kind (k.Sense channel) (ty.Num UInt)) v (search (rules, kind_lemmas)) known
char_known s _ _ v (HasType.emitted e i) is known =
    none_known (known_kind (k.Emit e) ty.Void) v (search (rules, kind_lemmas)) known
char_known s _ _ v (HasType.checkpoint) is known =
    none_known (known_kind (k.Checkpoint) ty.Void) v (search (rules, kind_lemmas)) known
char_known s _ _ v (HasType.sequence a b t u i j p) is known =
    none_known (known_kind (k.Comma a b) u) v (search (rules, kind_lemmas)) known

own_type : (s : Scope) (e : Expr) (t : Ty) → IsExpr s e t → (e.ty ≡ t) × HasType s e.kind t
own_type s _ _ (IsExpr.is_expr e t at has) = (at, has)

int_type_at : (t : Ty) (y : IntType) → t ≡ ty.Num y → int_type_of t ≡ y
unfolding int_type_of
int_type_at t y is = search (rules, type_lemmas)

pub constant_is_value : (s : Scope) (e : Expr) (t : IntType) (n : ℤ) → ConstantIsValue s e t n
unfolding value part_of
constant_is_value s e t n i is =
    let o = own_type s e (ty.Num t) i in
    let at : int_type_of e.ty ≡ t = int_type_at e.ty t o.0 in
    let w = valued (int_type_of e.ty) (known_kind e.kind e.ty) n is in
    let known : known_kind e.kind (ty.Num t) ≡ Some (Ok w.own) = ap (known_kind e.kind) (sym o.0) ∙ w.is_known in
    let small : t ≡ Char → wrapped w.own ≤ 255 =
    λ char. char_known s e.kind (ty.Num t) w.own o.1 (ap (λ y. ty.Num y) char) known in
    subst (λ z. is_value t z ≡ true) (sym (ap (λ y. number y w.own) at) ∙ w.is_number) (number_by t w.own small)
