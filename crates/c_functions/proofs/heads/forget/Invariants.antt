use Rattle.std.proofs.Common.{◌≡◌, length, take}
use Rattle.c_functions.proofs.heads.forget.Given as goal

abbrev pub invariant-loop-env : goal.invariant-loop-env
invariant-loop-env l = record {
  structs : l.env.structs ≡ l.fn.env.structs;
  const_members : l.env.const_members ≡ l.fn.env.const_members;
  defining : l.env.defining ≡ l.fn.env.defining;
  names : l.env.names ≡ l.fn.env.names;
  functions : l.env.functions ≡ l.fn.env.functions;
  locals : take l.locals l.env.locals ≡ take l.locals l.fn.env.locals;
  result : l.env.result ≡ l.fn.env.result;
  start : l.env.start ≡ l.fn.env.start;
  inside : l.env.inside ≡ l.fn.env.inside;
}

abbrev pub decreases-loop-env : goal.decreases-loop-env
decreases-loop-env l = length l.env.locals
