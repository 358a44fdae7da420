use Rattle.core430.proofs.Depends.{only_refuses, follows_under_gate}
use Rattle.core430.proofs.laws.gates_only_refuse.Goals as goal

pub returns-clause-refused : goal.returns-clause-refused
returns-clause-refused c = only_refuses

pub returns-clause-follows : goal.returns-clause-follows
returns-clause-follows c = follows_under_gate
