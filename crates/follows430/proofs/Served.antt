-- What a form has of the program that it serves: where its run starts, its variables, and functions whose steps are typed.
use Rattle.std.proofs.Common.{◌≡◌, ℕ, suc, ◌+◌, ◌<◌, ◌≤◌, refl, sym, ap, ◌∙◌, subst, arith, ◌⊎◌, inl, inr, List, [], ◌∷◌, length, Some, None}
use Rattle.std.proofs.lemmas.Option.{slice_get_within, slice_get_cases}
use Rattle.std.specs.Prelude.{slice_get, get_or}
use Rattle.c_meaning.specs.After as meaning
use Rattle.c_values.specs.declared.state.State.{State}
use Rattle.core_tree.specs.LawfulCore.{LawfulCore}
use Rattle.core_tree.specs.declared.program.Core.{Core}
use Rattle.core_tree.specs.declared.program.Function.{Function}
use Rattle.core_tree.specs.declared.program.Global.{Global}
use Rattle.ir.specs.declared.form.Ir.{Ir}
use Rattle.ir.specs.declared.form.IrFunction.{IrFunction}
use Rattle.ir.specs.declared.form.IrState.TheVariants as form
use Rattle.ir.specs.Machine as machine
use Rattle.ir.specs.Typed.{AllTyped}
use Rattle.ir_gen.specs.Form.{globals_from}
use Rattle.ir_gen.specs.Plain.{IsPlain}
use Rattle.ir_gen.specs.Serves.{Serves, ServesFunction}

same_some : {A : Type 0} (x y : A) → Some x ≡ Some y → x ≡ y
same_some x y e = cc

-- the form's run starts where the program's does
same_state : (a b : State) → form.Live a ≡ form.Live b → a ≡ b
same_state a b e = cc

pub same_start : (core : Core) (ir : Ir) → Serves core ir → machine.start ir ≡ meaning.start core
unfolding machine.stop_at meaning.stop_at
same_start core ir h = same_state (machine.start ir) (meaning.start core) (h.same [] 0 tt)

pub as_many_variables : (core : Core) (k : ℕ) (gs : List Global) → length (globals_from core k gs) ≡ length gs
as_many_variables core k [] = refl
as_many_variables core k (g ∷ gs) = ap suc (as_many_variables core (k + 1) gs)

pub many_variables : (core : Core) (ir : Ir) → Serves core ir → length ir.globals ≡ length core.globals
many_variables core ir h = ap length h.globals ∙ as_many_variables core 0 core.globals

-- ---- functions of the form and of the program

pub record IsServed (core : Core) (ir : Ir) (g : ℕ) (fn : IrFunction) : Type 0 where
  pub function : Function
  pub is : slice_get core.functions g ≡ Some function
  pub serves : ServesFunction core function fn

pub served : (core : Core) (ir : Ir) → Serves core ir → (g : ℕ) (fn : IrFunction) → slice_get ir.functions g ≡ Some fn
    → IsServed core ir g fn
served core ir serves g fn e = from (slice_get_cases core.functions g).1
  where
    few : g < length ir.functions
    few = slice_get_within ir.functions g fn e

    from : ((x : Function) × (g < length core.functions) × (slice_get core.functions g ≡ Some x)
        × (get_or core.functions g x ≡ x))
        ⊎ ((length core.functions ≤ g) × (slice_get core.functions g ≡ None)) → IsServed core ir g fn
    from (inl h) =
        let f = serves.functions g h.0 h.2 in
        record {
          function = h.0;
          is = h.2;
          serves = subst (λ (y : IrFunction). ServesFunction core h.0 y) (same_some f.0 fn (sym f.1 ∙ e)) f.2;
        }
    from (inr h) = let many = serves.many in let past = h.0 in let here = few in absurd (omega arith)

-- the steps of each function are typed where no statement is annotated
pub all_typed : (core : Core) (ir : Ir) → LawfulCore core → IsPlain core → Serves core ir
    → (g : ℕ) (fn : IrFunction) → slice_get ir.functions g ≡ Some fn → AllTyped fn
all_typed core ir lawful plain serves g fn e =
    let x = served core ir serves g fn e in
    serves.types lawful plain g x.function fn x.is e
