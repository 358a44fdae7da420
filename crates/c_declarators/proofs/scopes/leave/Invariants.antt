use Rattle.std.proofs.Common.{◌≡◌, length, take}
use Rattle.c_declarators.proofs.scopes.leave.Given as goal

abbrev pub invariant-loop-env : goal.invariant-loop-env
invariant-loop-env l = record {
  structs : l.env.structs ≡ l.fn.env.structs;
  const_members : l.env.const_members ≡ l.fn.env.const_members;
  defining : l.env.defining ≡ l.fn.env.defining;
  names : take l.names l.env.names ≡ take l.names l.fn.env.names;
  functions : l.env.functions ≡ l.fn.env.functions;
  locals : l.env.locals ≡ l.fn.env.locals;
  result : l.env.result ≡ l.fn.env.result;
  start : l.env.start ≡ l.start;
  inside : l.env.inside ≡ l.fn.env.inside;
}

abbrev pub decreases-loop-env : goal.decreases-loop-env
decreases-loop-env l = length l.env.names
