use Rattle.std.proofs.Common.{◌≡◌, drop}
use Rattle.c_checking.specs.Externals.{fields}
use Rattle.c_externals.specs.Drafting.{behind}
use Rattle.c_externals.proofs.structs.all_fields.Given as goal

abbrev pub invariant-loop-member : goal.invariant-loop-member
invariant-loop-member l =
    behind l.fn.made (fields l.env l.line l.members)
    ≡ behind l.made (fields l.env l.line (drop l.member-index l.members))
