-- What each kind of statement measures, for every way to join.
use Rattle.std.proofs.Common.{◌≡◌, ℕ, Bool, List, [], ◌∷◌, Option, map, rules}
use Rattle.c_tree.specs.Measure.{Join, node, all, optional, expr_measure, initial_measure, tname_measure, label_measure, first_measure, declaration_measure, statement_kind_measure, statement_measure, block_item_measure, compound_measure, group_measure}
use Rattle.c_tree.specs.declared.expression.Expr.{Expr}
use Rattle.c_tree.specs.declared.declarations.Duration.{Duration}
use Rattle.c_tree.specs.declared.declarations.Declaration.{Declaration}
use Rattle.c_tree.specs.declared.declarations.Initial.{Initial}
use Rattle.c_tree.specs.declared.declarations.Initial as initial
use Rattle.c_tree.specs.declared.declarations.Initial.TheVariants as initial_kind
use Rattle.c_tree.specs.declared.statements.Tname.{Tname}
use Rattle.c_tree.specs.declared.statements.First.{First}
use Rattle.c_tree.specs.declared.statements.StatementKind.{the_lemmas}
use Rattle.c_tree.specs.declared.statements.StatementKind.TheVariants as k
use Rattle.c_tree.specs.declared.statements.BlockItem.TheVariants as item
use Rattle.c_tree.specs.declared.statements.Compound.{Compound, out-Compound}
use Rattle.c_tree.specs.declared.statements.Group.{Group, out-Group}
use Rattle.c_tree.specs.declared.statements.Statement.{Statement}

pub measure-Compound : (join : Join) (body : Compound)
    → statement_kind_measure join (k.Compound body) ≡ node join (compound_measure join body ∷ [])
measure-Compound join body = search (rules, the_lemmas)

pub measure-Expr : (join : Join) (e : Option Expr)
    → statement_kind_measure join (k.Expr e) ≡ node join (optional (expr_measure join) e ∷ [])
measure-Expr join e = search (rules, the_lemmas)

pub measure-If : (join : Join) (test : Expr) (then : Statement) (other : Option Statement)
    → statement_kind_measure join (k.If test then other)
    ≡ node join (expr_measure join test ∷ statement_measure join then ∷ optional (statement_measure join) other ∷ [])
measure-If join test then other = search (rules, the_lemmas)

pub measure-While : (join : Join) (test : Expr) (body : Statement)
    → statement_kind_measure join (k.While test body) ≡ node join (expr_measure join test ∷ statement_measure join body ∷ [])
measure-While join test body = search (rules, the_lemmas)

pub measure-Do : (join : Join) (body : Statement) (test : Expr)
    → statement_kind_measure join (k.Do body test) ≡ node join (statement_measure join body ∷ expr_measure join test ∷ [])
measure-Do join body test = search (rules, the_lemmas)

pub measure-For : (join : Join) (first : First) (test : Option Expr) (step : Option Expr) (body : Statement)
    → statement_kind_measure join (k.For first test step body)
    ≡ node join (first_measure join first ∷ optional (expr_measure join) test ∷ optional (expr_measure join) step
    ∷ statement_measure join body ∷ [])
measure-For join first test step body = search (rules, the_lemmas)

pub measure-Switch : (join : Join) (on : Expr) (groups : List Group)
    → statement_kind_measure join (k.Switch on groups) ≡ node join (expr_measure join on ∷ map (group_measure join) groups)
measure-Switch join on groups = search (rules, the_lemmas)

pub measure-Break : (join : Join) → statement_kind_measure join k.Break ≡ 1
measure-Break join = search (rules, the_lemmas)

pub measure-Continue : (join : Join) → statement_kind_measure join k.Continue ≡ 1
measure-Continue join = search (rules, the_lemmas)

pub measure-Return : (join : Join) (e : Option Expr)
    → statement_kind_measure join (k.Return e) ≡ node join (optional (expr_measure join) e ∷ [])
measure-Return join e = search (rules, the_lemmas)

pub measure-Stamped : (join : Join) (place : Expr) (value : Expr)
    → statement_kind_measure join (k.Stamped place value) ≡ node join (expr_measure join place ∷ expr_measure join value ∷ [])
measure-Stamped join place value = search (rules, the_lemmas)

pub measure-Timely : (join : Join) (place : Expr) (limit : Duration) (then : Statement) (other : Option Statement)
    → statement_kind_measure join (k.Timely place limit then other)
    ≡ node join (expr_measure join place ∷ statement_measure join then ∷ optional (statement_measure join) other ∷ [])
measure-Timely join place limit then other = search (rules, the_lemmas)

pub measure-Expires : (join : Join) (names : List Tname) (body : Compound) (caught : Compound)
    → statement_kind_measure join (k.Expires names body caught)
    ≡ node join (all join (tname_measure join) names ∷ compound_measure join body ∷ compound_measure join caught ∷ [])
measure-Expires join names body caught = search (rules, the_lemmas)

pub measure-Compound-items : (join : Join) (c : Compound)
    → compound_measure join c ≡ all join (block_item_measure join) (out-Compound c).items
measure-Compound-items join c = search (rules, the_lemmas)

pub measure-Group : (join : Join) (g : Group)
    → group_measure join g
    ≡ join (all join (label_measure join) (out-Group g).labels) (all join (statement_measure join) (out-Group g).statements)
measure-Group join g = search (rules, the_lemmas)

pub measure-item-Declaration : (join : Join) (d : Declaration)
    → block_item_measure join (item.Declaration d) ≡ declaration_measure join d
measure-item-Declaration join d = search (rules, the_lemmas)

pub measure-item-Statement : (join : Join) (s : Statement) → block_item_measure join (item.Statement s) ≡ statement_measure join s
measure-item-Statement join s = search (rules, the_lemmas)

pub measure-initial-Assign : (join : Join) (e : Expr) → initial_measure join (initial_kind.Assign e) ≡ expr_measure join e
measure-initial-Assign join e = search (rules, initial.the_lemmas)

pub measure-initial-List : (join : Join) (items : List Initial) (last_comma : Bool) (line : ℕ)
    → initial_measure join (initial_kind.List items last_comma line) ≡ node join (map (initial_measure join) items)
measure-initial-List join items last_comma line = search (rules, initial.the_lemmas)
