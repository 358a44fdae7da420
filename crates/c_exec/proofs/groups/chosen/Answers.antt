use Rattle.std.proofs.Common.{◌≡◌, drop, rules}
use Rattle.c_meaning.specs.Statements.{has_case}
use Rattle.c_exec.specs.Groups.{groups_from}
use Rattle.c_exec.proofs.Choices.{chosen_case}
use Rattle.c_exec.proofs.groups.chosen.Goals as goal

pub returns-then-at-groups-clause-first : goal.returns-then-at-groups-clause-first
returns-then-at-groups-clause-first c =
    let first : groups_from (has_case c.args.value) c.args.groups.now ≡ drop c.with_case-at.result c.args.groups.now = search rules in
    chosen_case c.args.value c.args.groups.now c.with_case-at.result c.if-at-groups.true first
