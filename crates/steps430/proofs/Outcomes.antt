-- How a step comes out, by the parts of its definition: where a part stops the run by a broken rule nothing is said.
use Rattle.std.proofs.Common.{◌≡◌, ℕ, zero, suc, refl, sym, ap, subst, Bool, true, false, List, [], ◌∷◌, length, Result, Ok, Err, if◌then◌else◌}
use Rattle.std.proofs.lemmas.Bool.{eqb-true}
use Rattle.std.specs.Prelude.{nat_eq, ℤ}
use Rattle.base16.specs.declared.image.Kind.{Kind}
use Rattle.c_run.specs.Runs.{Run, Action, ◌>>=◌, given, asked}
use Rattle.c_run.specs.Actions.{load}
use Rattle.c_values.specs.Objects.{accessed}
use Rattle.c_values.specs.Values.{defined}
use Rattle.c_values.specs.declared.state.State.{State}
use Rattle.c_values.specs.declared.value.Location.{Location}
use Rattle.c_values.specs.declared.value.Value.{Value}
use Rattle.c_values.specs.declared.value.Value.TheVariants.{Int, Pointer, Null, Undefined}
use Rattle.ideal430.specs.Ideal.{Ideal}
use Rattle.ir.specs.declared.control.Control.{Control}
use Rattle.ir.specs.declared.control.Temporary.{Temporary}
use Rattle.ir.specs.declared.control.Temporary.TheVariants as temporary
use Rattle.ir.specs.declared.form.Base.{Base}
use Rattle.ir.specs.declared.form.Operand.{Operand}
use Rattle.ir.specs.declared.form.Operand.TheVariants as operand
use Rattle.ir.specs.Machine.{stuck, at_depth, on_value, on_place, on_any, on_operand, known}
use Rattle.steps430.specs.Setting.{Setting}
use Rattle.steps430.specs.Holds.{is_missing}
use Rattle.steps430.specs.Follows.{Follows}

-- an operand has a value in a state, and leaves these temporaries
pub data Gives (s : State) (first : ℕ) : Operand → List Temporary → Value → List Temporary → Type 0 where
  OfTop : {v : Value} {ts : List Temporary} → Gives s first operand.Temporary (temporary.Value v ∷ ts) v ts
  OfConstant : (z : ℤ) {ts : List Temporary} → Gives s first (operand.Constant z) ts (Int z) ts
  OfNull : {ts : List Temporary} → Gives s first operand.Null ts Null ts
  OfScalar : (of : Base) (offset : ℕ) (k : Kind) {v : Value} {ts : List Temporary} → accessed s (known first of offset) k ≡ Ok v
      → is_missing v ≡ false → Gives s first (operand.Scalar of offset k) ts v ts

abbrev fine : {A : Type 0} → A → Result A ℕ
fine a = Ok a

abbrev wrong : ℕ → Result Value ℕ
wrong n = Err n

same_ok : {A : Type 0} (a b : A) → fine a ≡ fine b → a ≡ b
same_ok a b e = cc

defined_ok : (x : Result Value ℕ) (v : Value) → defined x ≡ Ok v → (x ≡ Ok v) × (is_missing v ≡ false)
defined_ok (Ok (Int z)) v e = (e, ap is_missing (sym (same_ok (Int z) v e)))
defined_ok (Ok (Pointer n o)) v e = (e, ap is_missing (sym (same_ok (Pointer n o) v e)))
defined_ok (Ok Null) v e = (e, ap is_missing (sym (same_ok Null v e)))
defined_ok (Ok Undefined) v e = absurd (differ e)
  where
    differ : wrong 8 ≡ fine v → ⊥
    differ k = cc
defined_ok (Err n) v e = absurd (differ e)
  where
    differ : wrong n ≡ fine v → ⊥
    differ k = cc

module _ (p : Setting) (limit : ℕ) (t : Ideal) where
  pub depth_follows : (d : ℕ) (ts : List Temporary) (go : Action Control) (r : Run)
      → (length ts ≡ d → Follows p limit (go r) t) → Follows p limit (at_depth d ts go r) t
  unfolding at_depth
  depth_follows d ts go r more = from (nat_eq (length ts) d) refl
    where
      from : (b : Bool) → nat_eq (length ts) d ≡ b → Follows p limit ((if b then go else stuck) r) t
      from true e = more (eqb-true (length ts) d e)
      from false e = tt

  pub value_follows : (ts : List Temporary) (go : Value → List Temporary → Action Control) (r : Run)
      → ((v : Value) (us : List Temporary) → ts ≡ temporary.Value v ∷ us → Follows p limit (go v us r) t)
      → Follows p limit (on_value ts go r) t
  unfolding on_value
  value_follows [] go r more = tt
  value_follows (temporary.Value v ∷ us) go r more = more v us refl
  value_follows (temporary.Place l ∷ us) go r more = tt

  pub place_follows : (ts : List Temporary) (go : Location → List Temporary → Action Control) (r : Run)
      → ((l : Location) (us : List Temporary) → ts ≡ temporary.Place l ∷ us → Follows p limit (go l us r) t)
      → Follows p limit (on_place ts go r) t
  unfolding on_place
  place_follows [] go r more = tt
  place_follows (temporary.Value v ∷ us) go r more = tt
  place_follows (temporary.Place l ∷ us) go r more = more l us refl

  pub any_follows : (ts : List Temporary) (go : Temporary → List Temporary → Action Control) (r : Run)
      → ((u : Temporary) (us : List Temporary) → ts ≡ u ∷ us → Follows p limit (go u us r) t)
      → Follows p limit (on_any ts go r) t
  unfolding on_any
  any_follows [] go r more = tt
  any_follows (u ∷ us) go r more = more u us refl

  pub given_follows : {A : Type 0} (node : ℕ) (x : Result A ℕ) (go : A → Action Control) (r : Run)
      → ((a : A) → x ≡ Ok a → Follows p limit (go a r) t) → Follows p limit ((given node x >>= go) r) t
  given_follows node (Ok a) go r more = more a refl
  given_follows node (Err zero) go r more = tt
  given_follows node (Err (suc n)) go r more = tt

  pub asked_follows : {A : Type 0} (node : ℕ) (f : State → Result A ℕ) (go : A → Action Control) (r : Run)
      → ((a : A) → f r.state ≡ Ok a → Follows p limit (go a r) t) → Follows p limit ((asked node f >>= go) r) t
  asked_follows node f go r more = given_follows node (f r.state) go r more

  pub load_follows : (node : ℕ) (l : Location) (k : Kind) (go : Value → Action Control) (r : Run)
      → ((v : Value) → accessed r.state l k ≡ Ok v → is_missing v ≡ false → Follows p limit (go v r) t)
      → Follows p limit ((load node l k >>= go) r) t
  unfolding load
  load_follows node l k go r more =
      asked_follows node (λ s. defined (accessed s l k)) go r
      (λ v e. let d = defined_ok (accessed r.state l k) v e in more v d.0 d.1)

  pub operand_follows : (node first : ℕ) (x : Operand) (ts : List Temporary) (go : Value → List Temporary
      → Action Control) (r : Run)
      → ((v : Value) (us : List Temporary) → Gives r.state first x ts v us → Follows p limit (go v us r) t)
      → Follows p limit (on_operand node first x ts go r) t
  unfolding on_operand
  operand_follows node first operand.Temporary ts go r more =
      value_follows ts go r (λ v us e. more v us (subst
      (λ (xs : List Temporary). Gives r.state first operand.Temporary xs v us) (sym e) OfTop))
  operand_follows node first (operand.Constant z) ts go r more = more (Int z) ts (OfConstant z)
  operand_follows node first operand.Null ts go r more = more Null ts OfNull
  operand_follows node first (operand.Scalar of offset k) ts go r more =
      load_follows node (known first of offset) k (λ v. go v ts) r (λ v e d. more v ts (OfScalar of offset k e d))
