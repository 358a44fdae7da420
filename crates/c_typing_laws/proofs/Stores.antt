-- Stores to lawful places of lawful values are lawful.
use Rattle.std.proofs.Common.{◌≡◌, ℕ, Bool, true, false, cond, not, ◌||◌, Option, Some, None, Result, Ok, Err, pos, refl, sym, ap, rules}
use Rattle.base16.specs.declared.integer.IntType.{IntType}
use Rattle.base16.specs.declared.integer.IntType.TheVariants.{Char, Int, UInt}
use Rattle.base16.specs.declared.operator.BinaryOp.{BinaryOp}
use Rattle.base16.specs.declared.operator.BinaryOp.TheVariants as op
use Rattle.core_tree.specs.declared.types.Ty.{Ty, out-Ty, the_lemmas}
use Rattle.core_tree.specs.declared.types.Ty.TheVariants as ty
use Rattle.core_tree.specs.declared.types.Ty.TheOpen.{Ty-F}
use Rattle.core_tree.specs.declared.expressions.Expr.{Expr}
use Rattle.core_tree.specs.declared.expressions.Place.{Place}
use Rattle.core_tree.specs.declared.expressions.ExprKind.{ExprKind, the_lemmas as kind_lemmas}
use Rattle.core_tree.specs.declared.expressions.ExprKind.TheVariants as k
use Rattle.core_tree.specs.Rules.{promoted, balanced, is_scalar, is_comparison, is_value, computed_in, right_in}
use Rattle.core_tree.specs.Lawful.{Scope, IsExpr, LawfulExpr, HasType, IsPlace, IsStored, stored as is_stored, IsComputed, is_const, is_constant, is_local_path, is_marked as marks, assigned as an_assignment, updated as an_update, shifted, moved, integer_constant}
use Rattle.c_typing.specs.declared.fault.Rule.{Rule}
use Rattle.c_typing.specs.declared.fault.Rule.TheVariants.{WrongType}
use Rattle.c_typing.specs.declared.operand.Operand.{Operand}
use Rattle.c_typing.specs.declared.operand.Operand.TheVariants as operand
use Rattle.c_typing.specs.declared.environment.Env.{Env}
use Rattle.c_typing.specs.Scopes.{is_marked}
use Rattle.c_typing.specs.Values.{typed, to_int, converted}
use Rattle.c_typing.specs.Operators.{on_complete}
use Rattle.c_typing.specs.Places.{unless_const, stored, assigned_by, assigned, updates, updates_layer, integer_update, pointer_update, then_unless_const, updated_by, update_place, updated, step_type, one, stepped}
use Rattle.c_typing.proofs.LawfulOperators.{to_int_lawful}
use Rattle.c_typing_laws.specs.Sound.{Agrees, SoundValue, SoundOperand, AssignedIsLawful, UpdatedIsLawful}
use Rattle.c_typing_laws.proofs.Conversions.{made, at_layer, scalar_at, converted_lawful}
use Rattle.c_typing_laws.proofs.Operators.{sound_node, typed_as, on_complete_lawful}

not_const : (p readonly : Bool) → (p ≡ true → readonly ≡ true) → readonly ≡ false → p ≡ false
not_const true readonly said plain = let h : readonly ≡ true = said refl in absurd (search rules)
not_const false readonly said plain = refl

unless_lawful : (readonly : Bool) (e v : Expr) → unless_const readonly e ≡ Ok v → (readonly ≡ false) × (e ≡ v)
unless_lawful true e v is = absurd (search rules)
unless_lawful false e v is = (refl, cc)

then_unless_lawful : (readonly : Bool) (made : Result Expr Rule) (v : Expr) → then_unless_const readonly made ≡ Ok v
    → (readonly ≡ false) × (made ≡ Ok v)
then_unless_lawful readonly (Err rule) v is = absurd (search rules)
then_unless_lawful readonly (Ok e) v is =
    let w = unless_lawful readonly e v is in
    let whole : e ≡ v = w.1 in (w.0, rw whole refl)

module _ (env : Env) (s : Scope) (agree : Agrees env s) where
  -- a place to which a store goes
  store_to : (p : Place) (t : Ty) (readonly : Bool) → p.ty ≡ t → IsPlace s p p.ty → is_scalar t ≡ true
      → (is_const p.kind ≡ true → readonly ≡ true) → readonly ≡ false → IsStored s p t (is_marked env p)
  store_to p t readonly at_t at_p scalar said plain =
      let here : IsPlace s p t = rw (← at_t) at_p in
      let same : is_marked env p ≡ marks s p = ap (λ b. b || not (is_local_path p.kind)) (sym agree.inside) in
      is_stored p t (is_marked env p) here scalar (not_const (is_const p.kind) readonly said plain)
      (λ late. absurd (let h : s.annotated ≡ false = agree.early in search rules)) same

  -- ---- `=`

  stored_sound : (line : ℕ) (p : Place) (readonly : Bool) (e v : Expr) (c : Option Expr) → converted p.ty e ≡ c
      → SoundOperand env s (operand.Place p readonly) → LawfulExpr s e → stored env line p readonly c ≡ Ok v → SoundValue s v
  stored_sound line p readonly e v None at_c sp i is = absurd (search rules)
  stored_sound line p readonly e v (Some x) at_c sp i is =
      let w = unless_lawful readonly (typed line p.ty (k.Assign p x (is_marked env p))) v is in
      let c = converted_lawful s p.ty e x i at_c in
      let plain : is_constant (k.Assign p x (is_marked env p)) ≡ false = search (rules, kind_lemmas) in
      rw (← w.1) (sound_node s line p.ty (k.Assign p x (is_marked env p)) plain
      (an_assignment p x p.ty (is_marked env p) (store_to p p.ty readonly refl sp.0 c.1 sp.1 w.0) c.0))

  assigned_by_sound : (line : ℕ) (p : Place) (readonly : Bool) (l : Ty-F Ty) (e v : Expr)
      → SoundOperand env s (operand.Place p readonly) → LawfulExpr s e → assigned_by env line p readonly l e ≡ Ok v
      → SoundValue s v
  assigned_by_sound line p readonly (Ty-F.Array of n) e v sp i is = absurd (search rules)
  assigned_by_sound line p readonly l e v sp i is = stored_sound line p readonly e v (converted p.ty e) refl sp i is

  -- ---- `op=`

  promoted_computed : (x : IntType) → IsComputed (promoted x)
  promoted_computed Char = refl
  promoted_computed Int = refl
  promoted_computed UInt = refl

  balanced_again : (x y : IntType) → balanced x (balanced x y) ≡ balanced x y
  balanced_again Char Char = refl
  balanced_again Char Int = refl
  balanced_again Char UInt = refl
  balanced_again Int Char = refl
  balanced_again Int Int = refl
  balanced_again Int UInt = refl
  balanced_again UInt Char = refl
  balanced_again UInt Int = refl
  balanced_again UInt UInt = refl

  integer_update_typed : (o : BinaryOp) (own by : IntType) (p : Place) (v : Expr) (old : Bool) → is_comparison o ≡ false
      → IsStored s p (ty.Num own) (is_marked env p) → IsExpr s (to_int by (right_in o own by) v) (ty.Num (right_in o own by))
      → HasType s (k.Update o (Some (computed_in o own by)) p (to_int by (right_in o own by) v) old (is_marked env p))
      (ty.Num own)
  integer_update_typed op.Shl own by p v old plain at_p i =
      shifted op.Shl own (promoted by) p _ old (is_marked env p) refl (promoted_computed by) at_p i
  integer_update_typed op.Shr own by p v old plain at_p i =
      shifted op.Shr own (promoted by) p _ old (is_marked env p) refl (promoted_computed by) at_p i
  integer_update_typed o own by p v old plain at_p i =
      an_update o (balanced own by) own p _ old (is_marked env p) refl plain (balanced_again own by) at_p i

  no_comparison : (b : Bool) → cond b false true ≡ true → b ≡ false
  no_comparison true is = absurd (search rules)
  no_comparison false is = refl

  updated_by_sound : (o : BinaryOp) (line : ℕ) (old : Bool) (p : Place) (readonly : Bool) (l m : Ty-F Ty) (v x : Expr)
      → out-Ty p.ty ≡ l → out-Ty v.ty ≡ m → updates_layer o l m ≡ true → SoundOperand env s (operand.Place p readonly)
      → LawfulExpr s v → updated_by env o line old p readonly l m v ≡ Ok x → SoundValue s x
  updated_by_sound o line old p readonly (Ty-F.Num own) (Ty-F.Num by) v x at_p at_v fits sp i is =
      let g : p.ty ≡ ty.Num own = search (rules, the_lemmas) in
      let h : v.ty ≡ ty.Num by = search (rules, the_lemmas) in
      let w = unless_lawful readonly (integer_update env o line old p own by v) x is in
      let kind : ExprKind = k.Update o (Some (computed_in o own by)) p (to_int by (right_in o own by) v) old (is_marked env p) in
      let plain : is_constant kind ≡ false = search (rules, kind_lemmas) in
      rw (← w.1) (sound_node s line p.ty kind plain (typed_as s p.ty (ty.Num own) kind g
      (integer_update_typed o own by p v old (no_comparison (is_comparison o) fits)
      (store_to p (ty.Num own) readonly g sp.0 (scalar_at (ty.Num own) (Ty-F.Num own) (search (rules, the_lemmas)) refl) sp.1 w.0)
      (to_int_lawful s by (right_in o own by) v (at_layer s v (ty.Num by) h i)))))
  updated_by_sound o line old p readonly (Ty-F.Pointer to r) (Ty-F.Num by) v x at_p at_v fits sp i is =
      let g : p.ty ≡ ty.Pointer to r = search (rules, the_lemmas) in
      let h : v.ty ≡ ty.Num by = search (rules, the_lemmas) in
      let w = then_unless_lawful readonly (on_complete env to (pointer_update env o line old p v)) x is in
      let c = on_complete_lawful env s to (pointer_update env o line old p v) x agree w.1 in
      let kind : ExprKind = k.Update o None p v old (is_marked env p) in
      let plain : is_constant kind ≡ false = search (rules, kind_lemmas) in
      rw (← c.1) (sound_node s line p.ty kind plain (typed_as s p.ty (ty.Pointer to r) kind g
      (moved o to r by p v old (is_marked env p) fits c.0
      (store_to p (ty.Pointer to r) readonly g sp.0
      (scalar_at (ty.Pointer to r) (Ty-F.Pointer to r) (search (rules, the_lemmas)) refl) sp.1 w.0)
      (at_layer s v (ty.Num by) h i))))
  updated_by_sound o line old p readonly l m v x at_p at_v fits sp i is = absurd (search rules)

  update_by_test : (b : Bool) (o : BinaryOp) (line : ℕ) (old : Bool) (p : Place) (readonly : Bool) (l : Ty-F Ty) (v x : Expr)
      → out-Ty p.ty ≡ l → updates_layer o l (out-Ty v.ty) ≡ b → SoundOperand env s (operand.Place p readonly)
      → LawfulExpr s v → cond b (updated_by env o line old p readonly l (out-Ty v.ty) v) (Err WrongType) ≡ Ok x
      → SoundValue s x
  update_by_test true o line old p readonly l v x at_p fits sp i is =
      updated_by_sound o line old p readonly l (out-Ty v.ty) v x at_p refl fits sp i is
  update_by_test false o line old p readonly l v x at_p fits sp i is = absurd (search rules)

  updates_at : (o : BinaryOp) (t u : Ty) (l : Ty-F Ty) → out-Ty t ≡ l → updates_layer o l (out-Ty u) ≡ updates o t u
  unfolding updates
  updates_at o t u l at_t = rw at_t refl

  update_place_sound : (o : BinaryOp) (line : ℕ) (old : Bool) (p : Place) (readonly : Bool) (l : Ty-F Ty) (v x : Expr)
      → out-Ty p.ty ≡ l → SoundOperand env s (operand.Place p readonly) → LawfulExpr s v
      → update_place env o line old p readonly l v ≡ Ok x → SoundValue s x
  update_place_sound o line old p readonly (Ty-F.Array of n) v x at_p sp i is = absurd (search rules)
  update_place_sound o line old p readonly l v x at_p sp i is =
      update_by_test (updates o p.ty v.ty) o line old p readonly l v x at_p (updates_at o p.ty v.ty l at_p) sp i is

pub assigned_sound : (env : Env) (s : Scope) (line : ℕ) (to : Operand) (from v : Expr)
    → AssignedIsLawful env s line to from v
unfolding assigned
assigned_sound env s line (operand.Place p readonly) from v agree sp i is =
    assigned_by_sound env s agree line p readonly (out-Ty p.ty) from v sp i is
assigned_sound env s line (operand.Value e) from v agree sp i is = absurd (search rules)
assigned_sound env s line (operand.Function place) from v agree sp i is = absurd (search rules)
assigned_sound env s line (operand.Builtin b) from v agree sp i is = absurd (search rules)

pub updated_sound : (env : Env) (s : Scope) (op : BinaryOp) (line : ℕ) (old : Bool) (to : Operand) (by v : Expr)
    → UpdatedIsLawful env s op line old to by v
unfolding updated
updated_sound env s op line old (operand.Place p readonly) by v agree sp i is =
    update_place_sound env s agree op line old p readonly (out-Ty p.ty) by v refl sp i is
updated_sound env s op line old (operand.Value e) by v agree sp i is = absurd (search rules)
updated_sound env s op line old (operand.Function place) by v agree sp i is = absurd (search rules)
updated_sound env s op line old (operand.Builtin b) by v agree sp i is = absurd (search rules)

-- ---- `++` and `--`

one_value : (t : IntType) → is_value t (pos 1) ≡ true
one_value Char = refl
one_value Int = refl
one_value UInt = refl

one_lawful : (s : Scope) (line : ℕ) (t : Ty) → LawfulExpr s (one line t)
one_lawful s line t =
    made s line (ty.Num (step_type (out-Ty t))) (k.Constant (pos 1))
    (integer_constant (pos 1) (step_type (out-Ty t)) (one_value (step_type (out-Ty t))))

pub stepped_sound : (env : Env) (s : Scope) (op : BinaryOp) (line : ℕ) (old : Bool) (to : Operand) (v : Expr)
    → Agrees env s → SoundOperand env s to → stepped env op line old to ≡ Ok v → SoundValue s v
unfolding stepped updated
stepped_sound env s op line old (operand.Place p readonly) v agree sp is =
    updated_sound env s op line old (operand.Place p readonly) (one line p.ty) v agree sp (one_lawful s line p.ty) is
stepped_sound env s op line old (operand.Value e) v agree sp is =
    updated_sound env s op line old (operand.Value e) (one line e.ty) v agree sp (one_lawful s line e.ty) is
stepped_sound env s op line old (operand.Function place) v agree sp is = absurd (search rules)
stepped_sound env s op line old (operand.Builtin b) v agree sp is = absurd (search rules)
