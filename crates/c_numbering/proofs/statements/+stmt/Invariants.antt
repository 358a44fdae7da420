use Rattle.std.proofs.Common.{◌≡◌, ◌++◌, drop, map}
use Rattle.c_checking.specs.Numbering as spec
use Rattle.c_numbering.specs.Statements.{group_numbered}
use Rattle.c_numbering.proofs.statements.+stmt.Given as goal

abbrev pub invariant-stmts_numbered-loop-stmt : goal.invariant-stmts_numbered-loop-stmt
invariant-stmts_numbered-loop-stmt l = record {
  made : (spec.each (map spec.stmt_numbered l.all) l.fn.next).0
      ≡ l.made ++ (spec.each (map spec.stmt_numbered (drop l.stmt-index l.all)) l.next).0;
  next : (spec.each (map spec.stmt_numbered l.all) l.fn.next).1
      ≡ (spec.each (map spec.stmt_numbered (drop l.stmt-index l.all)) l.next).1;
}

abbrev pub invariant-groups_numbered-loop-group : goal.invariant-groups_numbered-loop-group
invariant-groups_numbered-loop-group l = record {
  made : (spec.each (map group_numbered l.all) l.fn.next).0
      ≡ l.made ++ (spec.each (map group_numbered (drop l.group-index l.all)) l.next).0;
  next : (spec.each (map group_numbered l.all) l.fn.next).1
      ≡ (spec.each (map group_numbered (drop l.group-index l.all)) l.next).1;
}
