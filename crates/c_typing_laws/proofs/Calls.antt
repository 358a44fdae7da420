-- Calls with lawful arguments are lawful.
use Rattle.std.proofs.Common.{◌≡◌, ℕ, ◌<◌, true, false, ◌==◌, nat_lt, List, [], ◌∷◌, length, slice_get, Option, Some, None, Ok, ℤ, pos, negsuc, refl, sym, ap, ◌∙◌, rules, arith, tests}
use Rattle.base16.specs.declared.integer.IntType.TheVariants.{UInt}
use Rattle.core_tree.specs.declared.types.Ty.{Ty}
use Rattle.core_tree.specs.declared.types.Ty.TheVariants as ty
use Rattle.core_tree.specs.declared.expressions.Expr.{Expr}
use Rattle.core_tree.specs.declared.expressions.ExprKind.{the_lemmas as kind_lemmas}
use Rattle.core_tree.specs.declared.expressions.ExprKind.TheVariants as k
use Rattle.core_tree.specs.declared.program.Function.{Function}
use Rattle.core_tree.specs.Lawful.{Scope, IsExpr, AreExprs, no_exprs, one_more, HasType, is_constant, called as a_call, sensed as a_reading, emitted as an_output, checkpoint}
use Rattle.c_rules.specs.Constants.{value as constant_value}
use Rattle.c_typing.specs.declared.fault.Rule.TheVariants.{WrongArgs}
use Rattle.c_typing.specs.declared.operand.Operand.{Operand}
use Rattle.c_typing.specs.declared.operand.Operand.TheVariants as operand
use Rattle.c_typing.specs.declared.operand.Builtin.{Builtin}
use Rattle.c_typing.specs.declared.operand.Builtin.TheVariants as builtin
use Rattle.c_typing.specs.declared.environment.Env.{Env}
use Rattle.c_typing.specs.declared.environment.Signature.{Signature}
use Rattle.c_typing.specs.Values.{typed, value}
use Rattle.c_typing.specs.Calls.{accepted, and_these, passed, call_of, function_call, channel, sensed, emitted, checkpointed, builtin_call, called}
use Rattle.c_typing_laws.specs.Sound.{Agrees, IsDefined, SoundOperand}
use Rattle.c_typing_laws.proofs.Conversions.{converted_lawful}
use Rattle.c_typing_laws.proofs.Operators.{sound_node, typed_as}
use Rattle.c_typing_laws.proofs.Values.{granted, SoundOption, value_sound}

-- all of these operands are lawful
abbrev pub AllSound : Env → Scope → List Operand → Type 0
AllSound env s [] = Unit {0}
AllSound env s (x ∷ xs) = SoundOperand env s x × AllSound env s xs

-- ---- arguments

record Both (e : Option Expr) (es : Option (List Expr)) (all : List Expr) : Type 0 where
  first : Expr
  more : List Expr
  is_first : e ≡ Some first
  is_more : es ≡ Some more
  whole : all ≡ first ∷ more

and_both : (e : Option Expr) (es : Option (List Expr)) (all : List Expr) → and_these e es ≡ Some all → Both e es all
and_both (Some e) (Some es) all is = record { first = e; more = es; is_first = refl; is_more = refl; whole = cc }
and_both (Some e) None all is = absurd (search rules)
and_both None es all is = absurd (search rules)

accepted_typed : (s : Scope) (t : Ty) (v : Option Expr) (e : Expr) → SoundOption s v → accepted (Some t) v ≡ Some e
    → IsExpr s e t
unfolding accepted
accepted_typed s t None e sv is = absurd (search rules)
accepted_typed s t (Some a) e sv is = (converted_lawful s t a e (sv a refl).0 is).0

one_longer : (e : Expr) (es : List Expr) (t : Ty) (ts : List Ty) → length (e ∷ es) ≡ length (t ∷ ts)
    → length es ≡ length ts
one_longer e es t ts is = omega arith

pub passed_typed : (env : Env) (s : Scope) (params : List Ty) (xs : List Operand) (args : List Expr) → Agrees env s
    → AllSound env s xs → passed params xs ≡ Some args → length args ≡ length params → AreExprs s args params
passed_typed env s [] [] args agree sx is same = let e : [] ≡ args = cc in rw (← e) no_exprs
passed_typed env s (t ∷ ts) [] args agree sx is same =
    let e : [] ≡ args = cc in
    let n : length args ≡ 0 = rw (← e) refl in absurd (omega arith)
passed_typed env s [] (x ∷ xs) args agree sx is same =
    let b = and_both (accepted None (value x)) (passed [] xs) args is in
    let n : length args ≡ length (b.first ∷ b.more) = ap length b.whole in absurd (omega arith)
passed_typed env s (t ∷ ts) (x ∷ xs) args agree sx is same =
    let b = and_both (accepted (Some t) (value x)) (passed ts xs) args is in
    let n : length b.more ≡ length ts = one_longer b.first b.more t ts (sym (ap length b.whole) ∙ same) in
    let i = accepted_typed s t (value x) b.first (value_sound env s x agree sx.0) b.is_first in
    rw b.whole (one_more b.first t b.more ts i (passed_typed env s ts xs b.more agree sx.1 b.is_more n))

-- ---- functions

number_is : (m n : ℕ) → (m == n) ≡ true → m ≡ n
number_is m n e = search (rules, tests)

call_of_sound : (env : Env) (s : Scope) (line : ℕ) (f : Signature) (g : Function) (xs : List Operand)
    (args : Option (List Expr)) (x : Operand) → Agrees env s → slice_get s.core.functions f.number ≡ Some g
    → g.params ≡ f.params → g.result ≡ f.result → AllSound env s xs → passed f.params xs ≡ args
    → call_of line f args ≡ Ok x → SoundOperand env s x
call_of_sound env s line f g xs None x agree stands params result sx at_args is = absurd (search rules)
call_of_sound env s line f g xs (Some args) x agree stands params result sx at_args is =
    let w = granted (length args == length f.params)
    (operand.Value (typed line f.result (k.Call f.number args))) x WrongArgs is in
    let typed_args : AreExprs s args f.params =
    passed_typed env s f.params xs args agree sx at_args (number_is (length args) (length f.params) w.0) in
    let in_order : AreExprs s args g.params = rw params typed_args in
    let has : HasType s (k.Call f.number args) g.result =
    a_call f.number g args stands in_order (λ late. absurd (let h : s.annotated ≡ false = agree.early in search rules)) in
    let plain : is_constant (k.Call f.number args) ≡ false = search (rules, kind_lemmas) in
    rw (← w.1) (sound_node s line f.result (k.Call f.number args) plain
    (typed_as s f.result g.result (k.Call f.number args) (sym result) has))

function_call_sound : (env : Env) (s : Scope) (line : ℕ) (f : Option Signature) (place : ℕ) (xs : List Operand)
    (x : Operand) → Agrees env s → slice_get env.functions place ≡ f → IsDefined env s place
    → AllSound env s xs → function_call line f xs ≡ Ok x → SoundOperand env s x
function_call_sound env s line None place xs x agree at_f sf sx is = absurd (search rules)
function_call_sound env s line (Some f) place xs x agree at_f sf sx is =
    let g = sf f at_f in
    call_of_sound env s line f g.0 xs (passed f.params xs) x agree g.1 g.2 g.3 sx refl is

-- ---- `sense`, `emit` and `checkpoint`

channel_sound : (env : Env) (s : Scope) (line : ℕ) (n : Option ℤ) (x : Operand) → channel line n ≡ Ok x
    → SoundOperand env s x
channel_sound env s line None x is = absurd (search rules)
channel_sound env s line (Some (pos n)) x is =
    let w = granted (nat_lt n 16) (operand.Value (typed line (ty.Num UInt) (k.Sense n))) x WrongArgs is in
    let test : nat_lt n 16 ≡ true = w.0 in
    let below : n < 16 = grind (arith, tests) in
    let plain : is_constant (k.Sense n) ≡ false = search (rules, kind_lemmas) in
    rw (← w.1) (sound_node s line (ty.Num UInt) (k.Sense n) plain (a_reading n below))
channel_sound env s line (Some (negsuc n)) x is = absurd (search rules)

sensed_sound : (env : Env) (s : Scope) (line : ℕ) (args : Option (List Expr)) (x : Operand) → sensed line args ≡ Ok x
    → SoundOperand env s x
sensed_sound env s line None x is = absurd (search rules)
sensed_sound env s line (Some (e ∷ [])) x is = channel_sound env s line (constant_value e) x is
sensed_sound env s line (Some []) x is = absurd (search rules)
sensed_sound env s line (Some (e ∷ f ∷ es)) x is = absurd (search rules)

first_typed : (s : Scope) (e : Expr) (t : Ty) (es : List Expr) (ts : List Ty) → AreExprs s (e ∷ es) (t ∷ ts) → IsExpr s e t
first_typed s _ _ _ _ (one_more e t es ts i rest) = i

emitted_sound : (env : Env) (s : Scope) (line : ℕ) (xs : List Operand) (args : Option (List Expr)) (x : Operand)
    → Agrees env s → AllSound env s xs → passed (ty.Num UInt ∷ []) xs ≡ args → emitted line args ≡ Ok x
    → SoundOperand env s x
emitted_sound env s line xs None x agree sx at_args is = absurd (search rules)
emitted_sound env s line xs (Some (e ∷ [])) x agree sx at_args is =
    let all = passed_typed env s (ty.Num UInt ∷ []) xs (e ∷ []) agree sx at_args refl in
    let i = first_typed s e (ty.Num UInt) [] [] all in
    let whole : operand.Value (typed line ty.Void (k.Emit e)) ≡ x = cc in
    let plain : is_constant (k.Emit e) ≡ false = search (rules, kind_lemmas) in
    rw (← whole) (sound_node s line ty.Void (k.Emit e) plain (an_output e i))
emitted_sound env s line xs (Some []) x agree sx at_args is = absurd (search rules)
emitted_sound env s line xs (Some (e ∷ f ∷ es)) x agree sx at_args is = absurd (search rules)

checkpointed_sound : (env : Env) (s : Scope) (line : ℕ) (args : Option (List Expr)) (x : Operand)
    → checkpointed line args ≡ Ok x → SoundOperand env s x
checkpointed_sound env s line None x is = absurd (search rules)
checkpointed_sound env s line (Some []) x is =
    let whole : operand.Value (typed line ty.Void k.Checkpoint) ≡ x = cc in
    let plain : is_constant k.Checkpoint ≡ false = search (rules, kind_lemmas) in
    rw (← whole) (sound_node s line ty.Void k.Checkpoint plain checkpoint)
checkpointed_sound env s line (Some (e ∷ es)) x is = absurd (search rules)

builtin_call_sound : (env : Env) (s : Scope) (line : ℕ) (b : Builtin) (xs : List Operand) (x : Operand) → Agrees env s
    → AllSound env s xs → builtin_call line b xs ≡ Ok x → SoundOperand env s x
builtin_call_sound env s line builtin.Sense xs x agree sx is = sensed_sound env s line (passed [] xs) x is
builtin_call_sound env s line builtin.Emit xs x agree sx is =
    emitted_sound env s line xs (passed (ty.Num UInt ∷ []) xs) x agree sx refl is
builtin_call_sound env s line builtin.Checkpoint xs x agree sx is = checkpointed_sound env s line (passed [] xs) x is

pub called_row : (env : Env) (s : Scope) (line : ℕ) (f : Operand) (xs : List Operand) (x : Operand) → Agrees env s
    → ((place : ℕ) → f ≡ operand.Function place → IsDefined env s place) → AllSound env s xs → called env line f xs ≡ Ok x
    → SoundOperand env s x
called_row env s line (operand.Function place) xs x agree there sx is =
    function_call_sound env s line (slice_get env.functions place) place xs x agree refl (there place refl) sx is
called_row env s line (operand.Builtin b) xs x agree sf sx is = builtin_call_sound env s line b xs x agree sx is
called_row env s line (operand.Value e) xs x agree sf sx is = absurd (search rules)
called_row env s line (operand.Place p readonly) xs x agree sf sx is = absurd (search rules)
