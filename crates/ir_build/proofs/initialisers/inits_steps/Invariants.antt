use Rattle.std.proofs.Common.{◌≡◌, ◌+◌, ◌++◌, length, drop}
use Rattle.ir_gen.specs.Body as spec
use Rattle.ir_build.proofs.initialisers.inits_steps.Given as goal

abbrev pub invariant-loop-one : goal.invariant-loop-one
invariant-loop-one l = record {
  steps : l.fn.code ++ (spec.init_parts l.structs l.objects l.node l.local l.init).steps (length l.fn.code)
      ≡ l.code ++ (spec.init_parts l.structs l.objects l.node l.local (drop l.one-index l.init)).steps (length l.code);
  size : length l.fn.code + (spec.init_parts l.structs l.objects l.node l.local l.init).size
      ≡ length l.code + (spec.init_parts l.structs l.objects l.node l.local (drop l.one-index l.init)).size;
}
