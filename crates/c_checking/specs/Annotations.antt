-- Which sources have annotations about time.
use Rattle.std.specs.Prelude.{Bool, true, false, ◌||◌, List, [], ◌∷◌, map, is_some, Option, Some, None}
use Rattle.c_tree.specs.declared.statements.BlockItem.TheOpen.{BlockItem-F, StatementKind-F}
use Rattle.c_tree.specs.declared.statements.Compound.{Compound, fold-Compound}
use Rattle.c_tree.specs.declared.unit.External.{External}
use Rattle.c_tree.specs.declared.unit.External.TheVariants as external
use Rattle.c_tree.specs.declared.unit.Tree.{Tree}

abbrev pub any_of : List Bool → Bool
any_of [] = false
any_of (b ∷ more) = b || any_of more

abbrev pub or_none : Option Bool → Bool
or_none None = false
or_none (Some b) = b

abbrev pub statement_step : {K : Type 0} → StatementKind-F K Bool Bool Bool Bool → Bool
statement_step (StatementKind-F.Compound body) = body
statement_step (StatementKind-F.If test one other) = one || or_none other
statement_step (StatementKind-F.While test body) = body
statement_step (StatementKind-F.Do body test) = body
statement_step (StatementKind-F.For begin test step body) = body
statement_step (StatementKind-F.Switch on groups) = any_of groups
statement_step (StatementKind-F.Stamped place from) = true
statement_step (StatementKind-F.Timely place limit one other) = true
statement_step (StatementKind-F.Expires names body caught) = true
statement_step _ = false

abbrev pub item_step : {K S C G : Type 0} → BlockItem-F K S C G Bool → Bool
item_step (BlockItem-F.Declaration d) = false
item_step (BlockItem-F.Statement x) = x

abbrev pub has_in : Compound → Bool
has_in =
    fold-Compound Bool Bool Bool Bool Bool item_step statement_step (λ c. any_of c.items) (λ g. any_of g.statements)
    (λ x. x.kind)

abbrev pub has_in_body : Option Compound → Bool
has_in_body None = false
has_in_body (Some body) = has_in body

abbrev pub is_annotated : External → Bool
is_annotated (external.Struct defined inits) = false
is_annotated (external.Function is_static f) = has_in_body f.body
is_annotated (external.Declaration is_static lifetime d) = is_some lifetime

unfoldable pub has_annotations : Tree → Bool
has_annotations tree = any_of (map is_annotated tree.externals)
