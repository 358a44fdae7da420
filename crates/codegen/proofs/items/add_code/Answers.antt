use Rattle.std.proofs.Common.{◌∙◌, drop, ap}
use Rattle.std.specs.Prelude.{List}
use Rattle.asm430.specs.declared.item.Item.{Item}
use Rattle.rt430.specs.declared.words.Helper.{Helper}
use Rattle.codegen.specs.Placing.{routine_words}
use Rattle.codegen.specs.Program.{routine_items}
use Rattle.codegen.proofs.Turns.{adds_as, code_made}
use Rattle.codegen.proofs.items.add_code.Goals as goal

pub returns-clause-items : goal.returns-clause-items
returns-clause-items c =
    code_made (routine_words c.args.routines.now) c.args.made.now c.add_start.new.made c.add_functions.new.made
    c.add_routines.new.made c.args.ir.now c.behind_start-functions.result.now c.in_ok-called.called.items c.requires.first
    c.in_ok-add_start.ensures c.in_ok-add_functions.ensures.items
    (c.behind_start-functions.ensures ∙ ap (λ (l : List Item). drop 2 l) c.as_slice-items.ensures.value) c.in_ok-called.ensures
    (adds_as _ _ _ _ (ap (λ (l : List Helper). routine_items (routine_words c.args.routines.now) l) c.as_slice-all.ensures.value)
    c.in_ok-add_routines.ensures)
