use Rattle.std.proofs.Common.{◌≡◌, drop}
use Rattle.c_exprs.specs.Parts.{sizes}
use Rattle.c_exprs.proofs.Turns.{behind}
use Rattle.c_exprs.proofs.array_sizes.sizes.Given as goal

abbrev pub invariant-loop-bound : goal.invariant-loop-bound
invariant-loop-bound l = sizes l.env l.bounds ≡ behind l.found (sizes l.env (drop l.bound-index l.bounds))
