use Rattle.std.proofs.Common.{sym, ap, ◌∙◌, subst, List, ℕ, IsTrue}
use Rattle.asm430.specs.Assembly.{are_formed}
use Rattle.asm430.specs.declared.item.Item.{Item}
use Rattle.matching.specs.Simulates.{Simulates}
use Rattle.codegen.specs.Made.{AreWordsOf}
use Rattle.codegen.specs.Placing.{routine_words}
use Rattle.codegen.specs.Symbols.{symbols}
use Rattle.codegen.proofs.Assembled.{all_formed}
use Rattle.codegen.proofs.Generated.{is_program, is_image, data_fit}
use Rattle.codegen.proofs.generation.image_of.Goals as goal

pub assembled-requires : goal.assembled-requires
assembled-requires c =
    subst (λ (xs : List Item). IsTrue (are_formed xs)) (sym (c.as_slice.ensures.value ∙ c.in_ok-made.ensures.items))
    (all_formed (routine_words c.all_routines-routines.result) c.args.core.now c.args.ir.now)

pub returns-clause-image : goal.returns-clause-image
returns-clause-image c lawful plain serves = (
  routine_words c.all_routines-routines.result,
  is_image (routine_words c.all_routines-routines.result) c.args.core.now c.args.ir.now c.in_ok-made.made c.in_ok-made.ensures
      c.all_routines-routines.ensures.computes c.all_routines-routines.ensures.sized c.requires.fine lawful plain serves
      c.in_ok-code.code c.in_ok-globals.globals c.in_ok-scalars.scalars c.in_ok-functions.functions
      (subst (λ (xs : List Item). AreWordsOf xs c.in_ok-code.code) c.as_slice.ensures.value c.in_ok-code.ensures.words)
      c.in_ok-globals.ensures c.in_ok-scalars.ensures
      (c.in_ok-functions.ensures
      ∙ ap (λ (ss : List ℕ). symbols c.args.core.now 0 ss c.args.core.now.functions) c.as_slice-2.ensures.value),
)

pub returns-clause-simulates : goal.returns-clause-simulates
returns-clause-simulates c lawful plain serves =
    subst (λ (globals : List ℕ). Simulates c.args.core.now c.in_ok-code.code globals) (sym c.in_ok-globals.ensures)
    (c.images_simulate_their_programs.ensures (routine_words c.all_routines-routines.result) c.args.core.now c.args.ir.now
    c.in_ok-code.code
    (is_program (routine_words c.all_routines-routines.result) c.args.core.now c.args.ir.now c.in_ok-made.made
    c.in_ok-made.ensures c.all_routines-routines.ensures.computes c.all_routines-routines.ensures.sized c.requires.fine lawful
    plain serves c.in_ok-code.code
    (subst (λ (xs : List Item). AreWordsOf xs c.in_ok-code.code) c.as_slice.ensures.value c.in_ok-code.ensures.words)
    c.in_ok-code.ensures.wide))

pub returns-clause-loadable : goal.returns-clause-loadable
returns-clause-loadable c = record {
  code_fits = c.in_ok-code.ensures.short;
  globals_fit = data_fit c.args.core.now c.requires.fine c.in_ok-globals.globals c.in_ok-globals.ensures;
}
