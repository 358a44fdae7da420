-- From mark to mark the machine makes few instructions.
use Rattle.std.proofs.Common.{ℕ, ◌+◌, ◌*◌, ◌≤◌, arith, Bool, true, false, List, [], ◌∷◌, Option, Some, None, if◌then◌else◌}
use Rattle.std.specs.Prelude.{slice_get}
use Rattle.base16.specs.declared.reading.Reading.{Reading}
use Rattle.core_tree.specs.declared.program.Core.{Core}
use Rattle.rt430.specs.declared.words.Helper.{Helper}
use Rattle.ir.specs.Between.{Site, site_of}
use Rattle.ir.specs.Table.{size, uses_helper}
use Rattle.ir.specs.declared.control.Control.{Control}
use Rattle.ir.specs.declared.control.Control.TheVariants.{Calling}
use Rattle.ir.specs.declared.form.Ir.{Ir}
use Rattle.ir.specs.declared.form.IrFunction.{IrFunction}
use Rattle.ir.specs.declared.form.Step.{Step}
use Rattle.ir.specs.declared.form.StepKind.{StepKind}
use Rattle.ir_gen.specs.Short.{cost, cost_of, cost_in, cost_at, costs}
use Rattle.steps430.specs.Setting.{Setting, or_none}
use Rattle.steps430.specs.Whole.{most_of_step, most_at, most_in, most_behind, StaysShort}
use Rattle.steps430.proofs.Since.{since_reaches, twice_most}
use Rattle.codegen.specs.Laid.{setting_of, IsProgram}

as_counted : (k : StepKind) → size k + (if uses_helper k then 800 else 0) ≤ cost k
as_counted k = from (uses_helper k)
  where
    from : (b : Bool) → size k + (if b then 800 else 0) ≤ size k + 800 * (if b then 1 else 0)
    from true = omega arith
    from false = omega arith

of_step : (o : Option Step) → 2 * most_of_step o ≤ cost_of o
of_step None = omega arith
of_step (Some s) = let a = twice_most s.kind in let b = as_counted s.kind in omega arith

of_function : (o : Option IrFunction) (p : ℕ) → 2 * most_of_step (slice_get (or_none o).steps p) ≤ cost_in o p
of_function None p = omega arith
of_function (Some fn) p = of_step (slice_get fn.steps p)

module _ (routine : Helper → List ℕ) (core : Core) (ir : Ir) (code : List ℕ) (readings : List Reading)
    (h : IsProgram routine core ir code) where
  abbrev p : Setting
  p = setting_of routine core ir code readings

  of_site : (x : Site) → 2 * most_at p x ≤ cost_at ir x
  of_site x = of_function (slice_get ir.functions x.function) x.position

  of_sites : (xs : List Site) → 2 * most_in p xs ≤ costs ir xs
  of_sites [] = omega arith
  of_sites (x ∷ xs) = let a = of_site x in let b = of_sites xs in omega arith

  -- the step that made the last mark, or any where none was made
  abbrev marking : Control → Option Site → Site
  marking c None = site_of c
  marking c (Some x) = x

  of_last : (c : Control) (last : Option Site) → 2 * most_behind p last ≤ cost_at ir (marking c last) + 4
  of_last c None = omega arith
  of_last c (Some x) = let a = of_site x in omega arith

  pub stays_short : StaysShort p
  stays_short c r0 r last made since =
      let reach = since_reaches ir readings (Calling ir.main 0 [] []) r0 c r last made since in
      let few = h.serves.short h.lawful readings c r0 r made (marking c last) reach in
      let a = of_last c last in
      let b = of_site (site_of c) in
      let d = of_sites made in
      omega arith
