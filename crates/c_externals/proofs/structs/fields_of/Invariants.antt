use Rattle.std.proofs.Common.{◌≡◌, drop}
use Rattle.c_checking.specs.Externals.{fields_of}
use Rattle.c_externals.specs.Drafting.{behind}
use Rattle.c_externals.proofs.structs.fields_of.Given as goal

abbrev pub invariant-loop-declr : goal.invariant-loop-declr
invariant-loop-declr l =
    behind l.fn.made (fields_of l.env l.line l.sp l.declrs)
    ≡ behind l.made (fields_of l.env l.line l.sp (drop l.declr-index l.declrs))
