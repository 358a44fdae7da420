use Rattle.std.proofs.Common.{◌≡◌, length}
use Rattle.core_tree.specs.LawfulCore.{is_object}
use Rattle.c_typing.specs.Scopes.{tags}
use Rattle.c_conversions.specs.Bounds.{bound}
use Rattle.c_conversions.proofs.types.is_sized.Given as goal

abbrev pub invariant-loop-inner : goal.invariant-loop-inner
invariant-loop-inner l =
    is_object (tags l.env) l.ty (length l.env.structs) ≡ is_object (tags l.env) l.inner (bound l.env l.pointed)
