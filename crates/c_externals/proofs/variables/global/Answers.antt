use Rattle.c_declarators.specs.Shapes as shape
use Rattle.c_externals.proofs.Turns.{global_becomes}
use Rattle.c_externals.proofs.variables.global.Goals as goal

pub returns : goal.returns
returns c =
    global_becomes c.args.sp.now c.args.init.now c.as_slice.result.now c.as_slice-2.result.now (shape.qualified c.in_ok-ty.ty)
    c.args.draft.now c.declared_as.new.draft c.declared_as.result c.as_slice.ensures c.as_slice-2.ensures
    c.in_ok-ty.ensures c.declared_as.ensures
