-- The row of each node makes a lawful operand of lawful ones.
use Rattle.std.proofs.Common.{◌≡◌, ℕ, Bool, true, false, List, [], ◌∷◌, ◌++◌, map, nat_le, Option, Some, None, Result, Ok, Err, refl, rules}
use Rattle.c_tree.specs.declared.expression.Expr.{Expr as Source}
use Rattle.c_tree.specs.declared.expression.ExprKind.{ExprKind as SourceKind}
use Rattle.c_tree.specs.declared.expression.ExprKind.TheOpen.{ExprKind-F}
use Rattle.c_tree.specs.declared.expression.Typename.{Typename}
use Rattle.core_tree.specs.declared.expressions.Expr.{Expr}
use Rattle.core_tree.specs.Lawful.{Scope}
use Rattle.base16.specs.declared.operator.BinaryOp.{BinaryOp}
use Rattle.base16.specs.declared.operator.BinaryOp.TheVariants as op
use Rattle.c_typing.specs.declared.fault.Rule.{Rule}
use Rattle.c_typing.specs.declared.operand.Operand.{Operand}
use Rattle.c_typing.specs.declared.operand.Operand.TheVariants as operand
use Rattle.c_typing.specs.declared.environment.Env.{Env}
use Rattle.c_typing.specs.Scopes.{lookup}
use Rattle.c_typing.specs.Values.{value, valued}
use Rattle.c_typing.specs.Operators.{unary, binary, logical, conditional, sequence}
use Rattle.c_typing.specs.Places.{address, assigned, updated, stepped, operand_type}
use Rattle.c_typing.specs.Calls.{number, character}
use Rattle.c_typing.specs.TypeNames.{type_named, count_of, size_of_operand, size_of_named, cast, sizes_before, last_value}
use Rattle.core_tree.specs.declared.expressions.ExprKind.TheVariants as k
use Rattle.c_typing.specs.Expressions.{Use, plain, size, sources, operands, row, means, words_of, sizes_of}
use Rattle.c_typing_laws.specs.Sound.{Agrees, IsDefined, SoundValue, SoundOperand}
use Rattle.c_typing_laws.proofs.Values.{SoundOption, value_sound, number_sound, character_sound, unary_row, and_row, or_row, sequence_row, binary_row, conditional_row, assigned_row, updated_row, size_of_row, size_of_named_row, cast_row}
use Rattle.c_typing_laws.proofs.Stores.{stepped_sound}
use Rattle.c_typing_laws.proofs.Places.{indexed_row, member_row, arrow_row, deref_row, address_row, named_row}
use Rattle.c_typing_laws.proofs.Calls.{AllSound, called_row}

module _ (env : Env) (s : Scope) where
  -- what these operands stand for, which is lawful; of a size nothing is asked
  abbrev pub Sounds : List (Use Source) → List Operand → Type 0
  Sounds [] [] = Unit {0}
  Sounds [] (x ∷ xs) = ⊥
  Sounds (u ∷ us) [] = ⊥
  Sounds (plain e ∷ us) (x ∷ xs) = (SoundOperand env s x × (means env e ≡ Ok x)) × Sounds us xs
  Sounds (size e ∷ us) (x ∷ xs) = Sounds us xs

  sounds_all : (es : List Source) (xs : List Operand) → Sounds (map plain es) xs → AllSound env s xs
  sounds_all [] [] so = tt
  sounds_all [] (x ∷ xs) so = absurd so
  sounds_all (e ∷ es) [] so = absurd so
  sounds_all (e ∷ es) (x ∷ xs) so = (so.0.0, sounds_all es xs so.1)

  -- what is asked of a node besides its operands
  abbrev pub Asked : ExprKind-F SourceKind Source Typename → Type 0
  Asked (ExprKind-F.Call callee arguments) =
      (place : ℕ) → means env callee ≡ Ok (operand.Function place) → IsDefined env s place
  Asked (ExprKind-F.Number n decimal unsigned) = nat_le n 65535 ≡ true
  Asked (ExprKind-F.Char c) = nat_le c 255 ≡ true
  Asked layer = Unit {0}

  of_value : (m : Result Expr Rule) (x : Operand) → ((v : Expr) → m ≡ Ok v → SoundValue s v) → valued m ≡ Ok x
      → SoundOperand env s x
  of_value (Err rule) x sound is = absurd (search rules)
  of_value (Ok v) x sound is = let e : operand.Value v ≡ x = cc in rw (← e) (sound v refl)

  module _ (agree : Agrees env s) (line : ℕ) where
    valued_of : (x : Operand) → SoundOperand env s x → SoundOption s (value x)
    valued_of x sx = value_sound env s x agree sx

    last_sound : (ss : List Source) (e : Source) (xs : List Operand) → Sounds (map size ss ++ plain e ∷ []) xs
        → SoundOption s (last_value xs)
    last_sound [] e [] so = absurd so
    last_sound [] e (x ∷ []) so = valued_of x so.0.0
    last_sound [] e (x ∷ y ∷ ys) so = absurd so.1
    last_sound (z ∷ zs) e [] so = absurd so
    last_sound (z ∷ []) e (x ∷ []) so = absurd so
    last_sound (z ∷ z' ∷ zs) e (x ∷ []) so = absurd so
    last_sound (z ∷ zs) e (x ∷ y ∷ ys) so = last_sound zs e (y ∷ ys) so

    abbrev row_of : ExprKind-F SourceKind Source Typename → List Operand → Result Operand Rule
    row_of layer = row (sources env) env line layer

    -- rows by the number of operands
    of_none : (by : List Operand → Result Operand Rule) (r : Operand) → (by [] ≡ Ok r → SoundOperand env s r)
        → (xs : List Operand) → Sounds [] xs → by xs ≡ Ok r → SoundOperand env s r
    of_none by r sound [] so is = sound is
    of_none by r sound (x ∷ xs) so is = absurd so

    of_one : (e : Source) (by : List Operand → Result Operand Rule) (r : Operand)
        → ((a : Operand) → SoundOperand env s a → by (a ∷ []) ≡ Ok r → SoundOperand env s r)
        → (xs : List Operand) → Sounds (plain e ∷ []) xs → by xs ≡ Ok r → SoundOperand env s r
    of_one e by r sound [] so is = absurd so
    of_one e by r sound (a ∷ []) so is = sound a so.0.0 is
    of_one e by r sound (a ∷ b ∷ xs) so is = absurd so.1

    of_two : (e f : Source) (by : List Operand → Result Operand Rule) (r : Operand)
        → ((a b : Operand) → SoundOperand env s a → SoundOperand env s b → by (a ∷ b ∷ []) ≡ Ok r
        → SoundOperand env s r)
        → (xs : List Operand) → Sounds (plain e ∷ plain f ∷ []) xs → by xs ≡ Ok r → SoundOperand env s r
    of_two e f by r sound [] so is = absurd so
    of_two e f by r sound (a ∷ xs) so is =
        of_one f (λ ys. by (a ∷ ys)) r (λ b sb at. sound a b so.0.0 sb at) xs so.1 is

    of_three : (e f g : Source) (by : List Operand → Result Operand Rule) (r : Operand)
        → ((a b c : Operand) → SoundOperand env s a → SoundOperand env s b → SoundOperand env s c
        → by (a ∷ b ∷ c ∷ []) ≡ Ok r → SoundOperand env s r)
        → (xs : List Operand) → Sounds (plain e ∷ plain f ∷ plain g ∷ []) xs → by xs ≡ Ok r → SoundOperand env s r
    of_three e f g by r sound [] so is = absurd so
    of_three e f g by r sound (a ∷ xs) so is =
        of_two f g (λ ys. by (a ∷ ys)) r (λ b c sb sc at. sound a b c so.0.0 sb sc at) xs so.1 is

    stepped_row : (o : BinaryOp) (old : Bool) (a r : Operand) → SoundOperand env s a
        → valued (stepped env o line old a) ≡ Ok r → SoundOperand env s r
    stepped_row o old a r sa is =
        of_value (stepped env o line old a) r (λ v at. stepped_sound env s o line old a v agree sa at) is

    call_sound : (callee : Source) (arguments : List Source) (xs : List Operand) (r : Operand)
        → Asked (ExprKind-F.Call callee arguments) → Sounds (plain callee ∷ map plain arguments) xs → row_of (ExprKind-F.Call callee arguments) xs ≡ Ok r
        → SoundOperand env s r
    call_sound callee arguments [] r asked so is = absurd so
    call_sound callee arguments (f ∷ xs) r asked so is =
        called_row env s line f xs r agree (λ place at. asked place (rw at at so.0.1)) (sounds_all arguments xs so.1) is

    -- a store, plain or with an operator
    store_sound : (o : Option BinaryOp) (e f : Source) (a b r : Operand) → SoundOperand env s a → SoundOperand env s b
        → row_of (ExprKind-F.Assign e o f) (a ∷ b ∷ []) ≡ Ok r → SoundOperand env s r
    store_sound None e f a b r sa sb is =
        of_value (assigned env line a (value b)) r
        (λ v at. assigned_row env s line a (value b) v agree sa (valued_of b sb) at) is
    store_sound (Some o) e f a b r sa sb is =
        of_value (updated env o line false a (value b)) r
        (λ v at. updated_row env s o line false a (value b) v agree sa (valued_of b sb) at) is

    abbrev IsRow : ExprKind-F SourceKind Source Typename → List Operand → Type 0
    IsRow layer xs = (r : Operand) → Asked layer → Sounds (operands (sources env) layer) xs → row_of layer xs ≡ Ok r
        → SoundOperand env s r

    pub row_sound : (layer : ExprKind-F SourceKind Source Typename) (xs : List Operand) → IsRow layer xs
    row_sound (ExprKind-F.Name name) xs r asked so is =
        of_none (row_of (ExprKind-F.Name name)) r
        (λ at. named_row env s line name (lookup env.names name) r agree refl at) xs so is
    row_sound (ExprKind-F.Number n d u) xs r asked so is =
        of_none (row_of (ExprKind-F.Number n d u)) r
        (λ at. let e : number line n u ≡ r = cc in rw (← e) (number_sound env s line n u asked)) xs so is
    row_sound (ExprKind-F.Char c) xs r asked so is =
        of_none (row_of (ExprKind-F.Char c)) r
        (λ at. let e : character line c ≡ r = cc in rw (← e) (character_sound env s line c asked)) xs so is
    row_sound (ExprKind-F.Paren e) xs r asked so is =
        of_one e (row_of (ExprKind-F.Paren e)) r (λ a sa at. let h : a ≡ r = cc in rw (← h) sa) xs so is
    row_sound (ExprKind-F.Index e f) xs r asked so is =
        of_two e f (row_of (ExprKind-F.Index e f)) r
        (λ a b sa sb at. indexed_row env s line a (value b) r agree sa (valued_of b sb) at) xs so is
    row_sound (ExprKind-F.Call callee arguments) xs r asked so is = call_sound callee arguments xs r asked so is
    row_sound (ExprKind-F.Member e name) xs r asked so is =
        of_one e (row_of (ExprKind-F.Member e name)) r (λ a sa at. member_row env s line name a r agree sa at) xs so is
    row_sound (ExprKind-F.Arrow e name) xs r asked so is =
        of_one e (row_of (ExprKind-F.Arrow e name)) r
        (λ a sa at. arrow_row env s line name (value a) r agree (valued_of a sa) at) xs so is
    row_sound (ExprKind-F.PostIncrement e) xs r asked so is =
        of_one e (row_of (ExprKind-F.PostIncrement e)) r (λ a sa at. stepped_row op.Add true a r sa at) xs so is
    row_sound (ExprKind-F.PostDecrement e) xs r asked so is =
        of_one e (row_of (ExprKind-F.PostDecrement e)) r (λ a sa at. stepped_row op.Sub true a r sa at) xs so is
    row_sound (ExprKind-F.PreIncrement e) xs r asked so is =
        of_one e (row_of (ExprKind-F.PreIncrement e)) r (λ a sa at. stepped_row op.Add false a r sa at) xs so is
    row_sound (ExprKind-F.PreDecrement e) xs r asked so is =
        of_one e (row_of (ExprKind-F.PreDecrement e)) r (λ a sa at. stepped_row op.Sub false a r sa at) xs so is
    row_sound (ExprKind-F.AddressOf e) xs r asked so is =
        of_one e (row_of (ExprKind-F.AddressOf e)) r
        (λ a sa at. of_value (address line a) r (λ v made. address_row env s line a v agree sa made) at) xs so is
    row_sound (ExprKind-F.Deref e) xs r asked so is =
        of_one e (row_of (ExprKind-F.Deref e)) r
        (λ a sa at. deref_row env s line (value a) r (valued_of a sa) at) xs so is
    row_sound (ExprKind-F.Unary o e) xs r asked so is =
        of_one e (row_of (ExprKind-F.Unary o e)) r
        (λ a sa at. of_value (unary o line (value a)) r (λ v made. unary_row s o line (value a) v (valued_of a sa) made) at)
        xs so is
    row_sound (ExprKind-F.SizeofExpr e) xs r asked so is =
        of_one e (row_of (ExprKind-F.SizeofExpr e)) r
        (λ a sa at. of_value (size_of_operand env line (operand_type a)) r
        (λ v made. size_of_row env s line (operand_type a) v made) at) xs so is
    row_sound (ExprKind-F.SizeofType t) xs r asked so is =
        of_value (size_of_named env line (type_named env (words_of t) (map count_of xs))) r
        (λ v made. size_of_named_row env s line (type_named env (words_of t) (map count_of xs)) v made) is
    row_sound (ExprKind-F.Cast t e) xs r asked so is =
        of_value (cast line (type_named env (words_of t) (sizes_before xs)) (last_value xs)) r
        (λ v made. cast_row s line (type_named env (words_of t) (sizes_before xs)) (last_value xs) v
        (last_sound (sizes_of t) e xs so) made) is
    row_sound (ExprKind-F.Binary e o f) xs r asked so is =
        of_two e f (row_of (ExprKind-F.Binary e o f)) r
        (λ a b sa sb at. of_value (binary env o line (value a) (value b)) r
        (λ v made. binary_row env s o line (value a) (value b) v agree (valued_of a sa) (valued_of b sb) made) at) xs so is
    row_sound (ExprKind-F.And e f) xs r asked so is =
        of_two e f (row_of (ExprKind-F.And e f)) r
        (λ a b sa sb at. of_value (logical k.And line (value a) (value b)) r
        (λ v made. and_row s line (value a) (value b) v (valued_of a sa) (valued_of b sb) made) at) xs so is
    row_sound (ExprKind-F.Or e f) xs r asked so is =
        of_two e f (row_of (ExprKind-F.Or e f)) r
        (λ a b sa sb at. of_value (logical k.Or line (value a) (value b)) r
        (λ v made. or_row s line (value a) (value b) v (valued_of a sa) (valued_of b sb) made) at) xs so is
    row_sound (ExprKind-F.Conditional e f g) xs r asked so is =
        of_three e f g (row_of (ExprKind-F.Conditional e f g)) r
        (λ a b c sa sb sc at. of_value (conditional line (value a) (value b) (value c)) r
        (λ v made. conditional_row s line (value a) (value b) (value c) v (valued_of a sa) (valued_of b sb)
        (valued_of c sc) made) at) xs so is
    row_sound (ExprKind-F.Assign e o f) xs r asked so is =
        of_two e f (row_of (ExprKind-F.Assign e o f)) r (λ a b sa sb at. store_sound o e f a b r sa sb at) xs so is
    row_sound (ExprKind-F.Comma e f) xs r asked so is =
        of_two e f (row_of (ExprKind-F.Comma e f)) r
        (λ a b sa sb at. of_value (sequence line (value a) (value b)) r
        (λ v made. sequence_row s line (value a) (value b) v (valued_of a sa) (valued_of b sb) made) at) xs so is
