use Rattle.std.proofs.Common.{◌≡◌, ◌++◌, drop}
use Rattle.c_meaning.specs.After as whole
use Rattle.c_start.proofs.starting.initial_stamps.Given as goal

abbrev pub invariant-loop-global : goal.invariant-loop-global
invariant-loop-global l =
    whole.initial_stamps l.structs l.globals ≡ l.stamps ++ whole.initial_stamps l.structs (drop l.global-index l.globals)
