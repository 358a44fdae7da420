use Rattle.std.proofs.Common.{◌≡◌, sym, subst}
use Rattle.std.specs.Prelude.{IfOk}
use Rattle.c_initialisers.specs.Lists.{all_given, first_bad, may_of}
use Rattle.c_initialisers.proofs.Filling.{any_may}
use Rattle.c_initialisers.proofs.lists.first_bad.Goals as goal

pub returns-then-object : goal.returns-then-object
returns-then-object c =
    let structs : c.as_slice.result.now ≡ c.args.object.now.env.now.structs = c.as_slice.ensures in
    subst (λ b. IfOk c.first_changing.result
    (λ line. line ≡ first_bad (may_of c.args.object.now.env.now.structs b) (all_given c.args.puts.now))) (sym c.if-object.true)
    (rw (← structs) c.first_changing.ensures)

pub returns-else-object : goal.returns-else-object
returns-else-object c =
    sym (any_may c.args.object.now.env.now.structs c.args.object.now.constant (all_given c.args.puts.now) c.if-object.false)
