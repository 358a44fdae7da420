-- Rows on values: of lawful operands they make lawful expressions.
use Rattle.std.proofs.Common.{◌≡◌, ℕ, ◌≤◌, Bool, true, false, cond, ◌&&◌, nat_le, nat_lt, ◌||◌, if◌then◌else◌, Option, Some, None, Result, Ok, Err, pos, refl, sym, ap, ◌∙◌, rules, arith, tests}
use Rattle.base16.specs.declared.integer.IntType.{IntType}
use Rattle.base16.specs.declared.integer.IntType.TheVariants.{Int, UInt}
use Rattle.base16.specs.declared.operator.UnaryOp.{UnaryOp}
use Rattle.base16.specs.declared.operator.UnaryOp.TheVariants as un
use Rattle.base16.specs.declared.operator.BinaryOp.{BinaryOp}
use Rattle.core_tree.specs.declared.types.Ty.{Ty, out-Ty, the_lemmas}
use Rattle.core_tree.specs.declared.types.Ty.TheVariants as ty
use Rattle.core_tree.specs.declared.types.Ty.TheOpen.{Ty-F}
use Rattle.core_tree.specs.declared.expressions.Expr.{Expr}
use Rattle.core_tree.specs.declared.expressions.Place.{Place}
use Rattle.core_tree.specs.declared.expressions.ExprKind.{the_lemmas as kind_lemmas}
use Rattle.core_tree.specs.declared.expressions.ExprKind.TheVariants as k
use Rattle.core_tree.specs.Layout.{int_type_of, stride}
use Rattle.core_tree.specs.Rules.{is_scalar, is_integer, integer_layer, casts, casts_layer, takes_one, is_value, zero_layer}
use Rattle.core_tree.specs.Lawful.{Scope, IsExpr, LawfulExpr, HasType, is_constant, is_not, negated, both, either, sequence as a_comma, integer_constant, integer_converted}
use Rattle.c_typing.specs.declared.fault.Rule.{Rule}
use Rattle.c_typing.specs.declared.fault.Rule.TheVariants.{WrongType, Incomplete, TooBig}
use Rattle.c_typing.specs.declared.operand.Operand.{Operand}
use Rattle.c_typing.specs.declared.operand.Operand.TheVariants as operand
use Rattle.c_typing.specs.declared.environment.Env.{Env}
use Rattle.c_typing.specs.Scopes.{is_sized}
use Rattle.c_typing.specs.Values.{typed, read_of, decay_of, value, value_by}
use Rattle.c_typing.specs.Operators.{arithmetic, unary_of, unary, binary, logical, conditional, sequence}
use Rattle.c_typing.specs.Places.{assigned, updated}
use Rattle.c_typing.specs.Calls.{number, character}
use Rattle.c_typing.specs.TypeNames.{size_constant, size_of_operand, size_of_named, cast_to, cast}
use Rattle.c_typing.specs.LawfulPlaces.{LawfulOperand}
use Rattle.c_typing.proofs.LawfulOperators.{arithmetic_lawful}
use Rattle.c_typing.proofs.LawfulOperands.{value_lawful}
use Rattle.c_typing_laws.specs.Sound.{Agrees, SoundValue, SoundOperand}
use Rattle.c_typing_laws.proofs.Same.{both_hold}
use Rattle.c_typing_laws.proofs.Conversions.{made, own_type, at_layer}
use Rattle.c_typing_laws.proofs.Operators.{sound_node, typed_as, binary_sound, conditional_sound}
use Rattle.c_typing_laws.proofs.Stores.{assigned_sound, updated_sound}

-- a row that a test grants
pub granted : {A : Type 0} (b : Bool) (a v : A) (rule : Rule) → cond b (Ok a) (Err rule) ≡ Ok v → (b ≡ true) × (a ≡ v)
granted true a v rule is = (refl, cc)
granted false a v rule is = absurd (search rules)

-- a value that may be missing
abbrev pub SoundOption : Scope → Option Expr → Type 0
SoundOption s v = (e : Expr) → v ≡ Some e → SoundValue s e

-- ---- values of operands

value_by_plain : (p : Place) (readonly : Bool) (l : Ty-F Ty) (v : Expr) → value_by p readonly l ≡ Some v
    → is_constant v.kind ≡ false
value_by_plain p readonly (Ty-F.Num t) v is =
    let e : read_of p ≡ v = cc in rw (← e) (search (rules, kind_lemmas))
value_by_plain p readonly (Ty-F.Pointer to r) v is =
    let e : read_of p ≡ v = cc in rw (← e) (search (rules, kind_lemmas))
value_by_plain p readonly (Ty-F.Array of n) v is =
    let e : decay_of p of readonly ≡ v = cc in rw (← e) (search (rules, kind_lemmas))
value_by_plain p readonly l v is = absurd (search rules)

pub lawful_operand : (env : Env) (s : Scope) (x : Operand) → SoundOperand env s x → LawfulOperand s x
lawful_operand env s (operand.Value e) sx = sx.0
lawful_operand env s (operand.Place p readonly) sx = sx
lawful_operand env s (operand.Function place) sx = tt
lawful_operand env s (operand.Builtin b) sx = tt

pub value_sound : (env : Env) (s : Scope) (x : Operand) → Agrees env s → SoundOperand env s x → SoundOption s (value x)
unfolding value
value_sound env s (operand.Value e) agree sx v is = let h : e ≡ v = cc in rw (← h) sx
value_sound env s (operand.Place p readonly) agree sx v is = (
  value_lawful s (operand.Place p readonly) v agree.early sx is,
  λ pointer. value_by_plain p readonly (out-Ty p.ty) v is,
)
value_sound env s (operand.Function place) agree sx v is = absurd (search rules)
value_sound env s (operand.Builtin b) agree sx v is = absurd (search rules)

-- ---- constants

constant_sound : (s : Scope) (line n : ℕ) (t : IntType) → is_value t (pos n) ≡ true
    → SoundValue s (typed line (ty.Num t) (k.Constant (pos n)))
constant_sound s line n t within = (
  made s line (ty.Num t) (k.Constant (pos n)) (integer_constant (pos n) t within),
  λ pointer. absurd (let h : zero_layer (out-Ty (ty.Num t)) ≡ false = search (rules, the_lemmas) in search rules),
)

unsigned_value : (n : ℕ) → n ≤ 65535 → is_value UInt (pos n) ≡ true
unsigned_value n h = grind (arith, tests)

signed_value : (n : ℕ) → n ≤ 32767 → is_value Int (pos n) ≡ true
signed_value n h = grind (arith, tests)

number_by : (s : Scope) (line n : ℕ) (b : Bool) → n ≤ 65535 → (b ≡ false → n ≤ 32767)
    → SoundValue s (typed line (ty.Num (if b then UInt else Int)) (k.Constant (pos n)))
number_by s line n true below small = constant_sound s line n UInt (unsigned_value n below)
number_by s line n false below small = constant_sound s line n Int (signed_value n (small refl))

small_number : (n : ℕ) (unsigned : Bool) → (unsigned || nat_lt 32767 n) ≡ false → n ≤ 32767
small_number n true is = absurd (search rules)
small_number n false is = grind (arith, tests)

at_most : (n m : ℕ) → nat_le n m ≡ true → n ≤ m
at_most n m is = grind (arith, tests)

pub number_sound : (env : Env) (s : Scope) (line n : ℕ) (unsigned : Bool) → nat_le n 65535 ≡ true
    → SoundOperand env s (number line n unsigned)
number_sound env s line n unsigned within =
    number_by s line n (unsigned || nat_lt 32767 n) (at_most n 65535 within) (small_number n unsigned)

pub character_sound : (env : Env) (s : Scope) (line c : ℕ) → nat_le c 255 ≡ true → SoundOperand env s (character line c)
character_sound env s line c within =
    let h : c ≤ 255 = at_most c 255 within in constant_sound s line c Int (signed_value c (omega arith))

-- ---- `+ - ~ !`

integer_by : (t : Ty) (l : Ty-F Ty) → out-Ty t ≡ l → integer_layer l ≡ true → (x : IntType) × (t ≡ ty.Num x)
integer_by t (Ty-F.Num x) at_t is = (x, search (rules, the_lemmas))
integer_by t l at_t is = absurd (search rules)

pub integer_is : (t : Ty) → is_integer t ≡ true → (x : IntType) × (t ≡ ty.Num x)
unfolding is_integer
integer_is t is = integer_by t (out-Ty t) refl is

int_type_at : (x : IntType) → int_type_of (ty.Num x) ≡ x
unfolding int_type_of
int_type_at x = search (rules, the_lemmas)

arithmetic_sound : (s : Scope) (o : UnaryOp) (line : ℕ) (e v : Expr) → is_not o ≡ false → is_integer e.ty ≡ true
    → LawfulExpr s e → arithmetic o line (int_type_of e.ty) e ≡ v → SoundValue s v
arithmetic_sound s o line e v other integer i is =
    let w = integer_is e.ty integer in
    let j : IsExpr s e (ty.Num w.0) = at_layer s e (ty.Num w.0) w.1 i in
    let t : int_type_of e.ty ≡ w.0 = ap int_type_of w.1 ∙ int_type_at w.0 in
    let whole = arithmetic_lawful s o line w.0 e other j in
    let made_it : arithmetic o line w.0 e ≡ v = ap (λ x. arithmetic o line x e) (sym t) ∙ is in
    let plain : is_constant (arithmetic o line w.0 e).kind ≡ false = search (rules, kind_lemmas) in
    rw (← made_it) (own_type s _ _ whole, λ pointer. plain)

unary_by : (s : Scope) (o : UnaryOp) (line : ℕ) (e v : Expr) → takes_one o e.ty ≡ true → LawfulExpr s e
    → unary_of o line e ≡ v → SoundValue s v
unary_by s un.Not line e v taken i is =
    let plain : is_constant (k.Unary un.Not e) ≡ false = search (rules, kind_lemmas) in
    rw (← is) (sound_node s line (ty.Num Int) (k.Unary un.Not e) plain (negated e e.ty i taken))
unary_by s un.Plus line e v taken i is = arithmetic_sound s un.Plus line e v refl taken i is
unary_by s un.Minus line e v taken i is = arithmetic_sound s un.Minus line e v refl taken i is
unary_by s un.Complement line e v taken i is = arithmetic_sound s un.Complement line e v refl taken i is

pub unary_row : (s : Scope) (o : UnaryOp) (line : ℕ) (a : Option Expr) (v : Expr) → SoundOption s a
    → unary o line a ≡ Ok v → SoundValue s v
unfolding unary
unary_row s o line None v sa is = absurd (search rules)
unary_row s o line (Some e) v sa is =
    let w = granted (takes_one o e.ty) (unary_of o line e) v WrongType is in
    unary_by s o line e v w.0 (sa e refl).0 w.1

-- ---- `&&`, `||` and the comma

pub and_row : (s : Scope) (line : ℕ) (a b : Option Expr) (v : Expr) → SoundOption s a → SoundOption s b
    → logical k.And line a b ≡ Ok v → SoundValue s v
unfolding logical
and_row s line (Some a) (Some b) v sa sb is =
    let w = granted (is_scalar a.ty && is_scalar b.ty) (typed line (ty.Num Int) (k.And a b)) v WrongType is in
    let h = both_hold (is_scalar a.ty) (is_scalar b.ty) w.0 in
    let plain : is_constant (k.And a b) ≡ false = search (rules, kind_lemmas) in
    let has : HasType s (k.And a b) (ty.Num Int) = both a b a.ty b.ty (sa a refl).0 (sb b refl).0 h.0 h.1 in
    rw (← w.1) (sound_node s line (ty.Num Int) (k.And a b) plain has)
and_row s line (Some a) None v sa sb is = absurd (search rules)
and_row s line None b v sa sb is = absurd (search rules)

pub or_row : (s : Scope) (line : ℕ) (a b : Option Expr) (v : Expr) → SoundOption s a → SoundOption s b
    → logical k.Or line a b ≡ Ok v → SoundValue s v
unfolding logical
or_row s line (Some a) (Some b) v sa sb is =
    let w = granted (is_scalar a.ty && is_scalar b.ty) (typed line (ty.Num Int) (k.Or a b)) v WrongType is in
    let h = both_hold (is_scalar a.ty) (is_scalar b.ty) w.0 in
    let plain : is_constant (k.Or a b) ≡ false = search (rules, kind_lemmas) in
    let has : HasType s (k.Or a b) (ty.Num Int) = either a b a.ty b.ty (sa a refl).0 (sb b refl).0 h.0 h.1 in
    rw (← w.1) (sound_node s line (ty.Num Int) (k.Or a b) plain has)
or_row s line (Some a) None v sa sb is = absurd (search rules)
or_row s line None b v sa sb is = absurd (search rules)

pub sequence_row : (s : Scope) (line : ℕ) (a b : Option Expr) (v : Expr) → SoundOption s a → SoundOption s b
    → sequence line a b ≡ Ok v → SoundValue s v
unfolding sequence
sequence_row s line (Some a) (Some b) v sa sb is =
    let w = granted (is_scalar b.ty) (typed line b.ty (k.Comma a b)) v WrongType is in
    let plain : is_constant (k.Comma a b) ≡ false = search (rules, kind_lemmas) in
    let has : HasType s (k.Comma a b) b.ty = a_comma a b a.ty b.ty (sa a refl).0 (sb b refl).0 w.0 in
    rw (← w.1) (sound_node s line b.ty (k.Comma a b) plain has)
sequence_row s line (Some a) None v sa sb is = absurd (search rules)
sequence_row s line None b v sa sb is = absurd (search rules)

-- ---- binary operators, `?:` and stores, of values that may be missing

pub binary_row : (env : Env) (s : Scope) (o : BinaryOp) (line : ℕ) (a b : Option Expr) (v : Expr) → Agrees env s
    → SoundOption s a → SoundOption s b → binary env o line a b ≡ Ok v → SoundValue s v
unfolding binary
binary_row env s o line (Some a) (Some b) v agree sa sb is = binary_sound env s o line a b v agree (sa a refl) (sb b refl) is
binary_row env s o line (Some a) None v agree sa sb is = absurd (search rules)
binary_row env s o line None b v agree sa sb is = absurd (search rules)

pub conditional_row : (s : Scope) (line : ℕ) (t a b : Option Expr) (v : Expr) → SoundOption s t → SoundOption s a
    → SoundOption s b → conditional line t a b ≡ Ok v → SoundValue s v
unfolding conditional
conditional_row s line (Some t) (Some a) (Some b) v st sa sb is =
    conditional_sound s line t a b v (st t refl).0 (sa a refl).0 (sb b refl).0 is
conditional_row s line (Some t) (Some a) None v st sa sb is = absurd (search rules)
conditional_row s line (Some t) None b v st sa sb is = absurd (search rules)
conditional_row s line None a b v st sa sb is = absurd (search rules)

pub assigned_row : (env : Env) (s : Scope) (line : ℕ) (to : Operand) (from : Option Expr) (v : Expr) → Agrees env s
    → SoundOperand env s to → SoundOption s from → assigned env line to from ≡ Ok v → SoundValue s v
unfolding assigned
assigned_row env s line to (Some from) v agree st sf is = assigned_sound env s line to from v agree st (sf from refl).0 is
assigned_row env s line (operand.Value e) None v agree st sf is = absurd (search rules)
assigned_row env s line (operand.Place p readonly) None v agree st sf is = absurd (search rules)
assigned_row env s line (operand.Function place) None v agree st sf is = absurd (search rules)
assigned_row env s line (operand.Builtin b) None v agree st sf is = absurd (search rules)

pub updated_row : (env : Env) (s : Scope) (o : BinaryOp) (line : ℕ) (old : Bool) (to : Operand) (by : Option Expr)
    (v : Expr) → Agrees env s → SoundOperand env s to → SoundOption s by → updated env o line old to by ≡ Ok v
    → SoundValue s v
unfolding updated
updated_row env s o line old to (Some by) v agree st sb is =
    updated_sound env s o line old to by v agree st (sb by refl).0 is
updated_row env s o line old (operand.Value e) None v agree st sb is = absurd (search rules)
updated_row env s o line old (operand.Place p readonly) None v agree st sb is = absurd (search rules)
updated_row env s o line old (operand.Function place) None v agree st sb is = absurd (search rules)
updated_row env s o line old (operand.Builtin b) None v agree st sb is = absurd (search rules)

-- ---- `sizeof` and casts

size_by : (s : Scope) (line n : ℕ) (p q : Bool) (v : Expr) → nat_lt 65535 n ≡ q
    → cond p (cond q (Err TooBig) (Ok (typed line (ty.Num UInt) (k.Constant (pos n))))) (Err Incomplete) ≡ Ok v
    → SoundValue s v
size_by s line n true true v at_q is = absurd (search rules)
size_by s line n true false v at_q is =
    let below : n ≤ 65535 = grind (arith, tests) in
    let whole : typed line (ty.Num UInt) (k.Constant (pos n)) ≡ v = cc in
    rw (← whole) (constant_sound s line n UInt (unsigned_value n below))
size_by s line n false q v at_q is = absurd (search rules)

size_sound : (env : Env) (s : Scope) (line : ℕ) (t : Ty) (v : Expr) → size_constant env line t ≡ Ok v → SoundValue s v
unfolding size_constant
size_sound env s line t v is = size_by s line (stride env.structs t) (is_sized env t) _ v refl is

pub size_of_row : (env : Env) (s : Scope) (line : ℕ) (t : Option Ty) (v : Expr) → size_of_operand env line t ≡ Ok v
    → SoundValue s v
size_of_row env s line None v is = absurd (search rules)
size_of_row env s line (Some t) v is = size_sound env s line t v is

pub size_of_named_row : (env : Env) (s : Scope) (line : ℕ) (t : Result Ty Rule) (v : Expr)
    → size_of_named env line t ≡ Ok v → SoundValue s v
size_of_named_row env s line (Err rule) v is = absurd (search rules)
size_of_named_row env s line (Ok t) v is = size_sound env s line t v is

casts_at : (t u : Ty) (l m : Ty-F Ty) → out-Ty t ≡ l → out-Ty u ≡ m → casts_layer l m ≡ true
    → (x : IntType) × (y : IntType) × (t ≡ ty.Num x) × (u ≡ ty.Num y)
casts_at t u (Ty-F.Num x) (Ty-F.Num y) at_t at_u is =
    (x, y, search (rules, the_lemmas), search (rules, the_lemmas))
casts_at t u l m at_t at_u is = absurd (search rules)

casts_is : (t u : Ty) → casts t u ≡ true → (x : IntType) × (y : IntType) × (t ≡ ty.Num x) × (u ≡ ty.Num y)
unfolding casts
casts_is t u is = casts_at t u (out-Ty t) (out-Ty u) refl refl is

cast_to_sound : (s : Scope) (line : ℕ) (t : Ty) (a : Option Expr) (v : Expr) → SoundOption s a
    → cast_to line t a ≡ Ok v → SoundValue s v
cast_to_sound s line t None v sa is = absurd (search rules)
cast_to_sound s line t (Some e) v sa is =
    let w = granted (casts e.ty t) (typed line t (k.Convert e)) v WrongType is in
    let c = casts_is e.ty t w.0 in
    let i : IsExpr s e (ty.Num c.0) = at_layer s e (ty.Num c.0) c.2 (sa e refl).0 in
    let plain : is_constant (k.Convert e) ≡ false = search (rules, kind_lemmas) in
    rw (← w.1) (sound_node s line t (k.Convert e) plain
    (typed_as s t (ty.Num c.1) (k.Convert e) c.3 (integer_converted e c.0 c.1 i)))

pub cast_row : (s : Scope) (line : ℕ) (t : Result Ty Rule) (a : Option Expr) (v : Expr) → SoundOption s a
    → cast line t a ≡ Ok v → SoundValue s v
cast_row s line (Err rule) a v sa is = absurd (search rules)
cast_row s line (Ok t) a v sa is = cast_to_sound s line t a v sa is
