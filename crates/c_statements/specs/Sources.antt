-- Parts of statements by themselves.
use Rattle.std.specs.Prelude.{ℕ, List, ◌++◌, map, Option, Some, None, Ok, Err}
use Rattle.c_tree.specs.declared.statements.Statement.{Statement}
use Rattle.c_tree.specs.declared.statements.Group.{Group, fold-Group}
use Rattle.core_tree.specs.declared.statements.Stmt.{Stmt}
use Rattle.c_typing.specs.declared.environment.Env.{Env}
use Rattle.c_typing.specs.Outcome.{Outcome}
use Rattle.c_checking.specs.Walk.{Walk, one_by_one, single}
use Rattle.c_checking.specs.Statements.{GroupPart, item_step, kind_step, statement}

abbrev pub group_part : Group → GroupPart
group_part = fold-Group (Walk (List Stmt)) (ℕ → Walk Stmt) (Walk (List Stmt)) GroupPart (Walk Stmt)
    item_step kind_step (λ c. one_by_one c.items)
    (λ g. record { labels = g.labels; body = one_by_one (map single g.statements) }) (λ x. x.kind x.line)

-- statements one after another
abbrev pub statements : List Statement → Walk (List Stmt)
statements all = one_by_one (map single (map statement all))

-- what stands behind `else`, where it stands
abbrev pub other_of : Option Statement → Option (Walk Stmt)
other_of None = None
other_of (Some x) = Some (statement x)

-- ---- what comes behind what is found already

abbrev pub behind : {A : Type 0} → List A → Outcome (List A × Env) → Outcome (List A × Env)
behind found (Err f) = Err f
behind found (Ok p) = Ok (found ++ p.0, p.1)
