use Rattle.std.proofs.Common.{◌≡◌, [], drop, map}
use Rattle.c_tree.specs.declared.statements.Compound.{out-Compound}
use Rattle.c_checking.specs.Walk.{one_by_one}
use Rattle.c_checking.specs.Statements.{compound, block_item, groups_of}
use Rattle.c_statements.specs.Sources.{behind, statements, group_part}
use Rattle.c_statements.proofs.statements.+statement.Given as goal

abbrev pub invariant-compound-loop-part : goal.invariant-compound-loop-part
invariant-compound-loop-part l =
    compound l.compound l.fn.env
    ≡ behind l.found (one_by_one (map block_item (drop l.part-index (out-Compound l.compound).items)) l.env)

abbrev pub invariant-statements_of-loop-source : goal.invariant-statements_of-loop-source
invariant-statements_of-loop-source l = statements l.all l.fn.env ≡ behind l.found (statements (drop l.source-index l.all) l.env)

abbrev pub invariant-groups_of-loop-group : goal.invariant-groups_of-loop-group
invariant-groups_of-loop-group l =
    groups_of l.line l.at_type [] (map group_part l.groups) l.fn.env
    ≡ behind l.found (groups_of l.line l.at_type l.before (map group_part (drop l.group-index l.groups)) l.env)
