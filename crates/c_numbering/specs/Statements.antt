-- Parts of a program with their nodes numbered.
use Rattle.std.specs.Prelude.{ℕ}
use Rattle.core_tree.specs.declared.program.Function.{Function}
use Rattle.core_tree.specs.declared.statements.Stmt.{Stmt}
use Rattle.core_tree.specs.declared.statements.StmtKind.{StmtKind}
use Rattle.core_tree.specs.declared.statements.Group.{Group, fold-Group, roll-Group}
use Rattle.c_checking.specs.Numbering.{Numbered, node, one, each, stmt_step}

-- a group of a `switch`
abbrev pub group_numbered : Group → Numbered Group
group_numbered =
    fold-Group (Numbered StmtKind) (Numbered Group) (Numbered Stmt) stmt_step
    (λ g. one (λ body. roll-Group (record { labels = g.labels; body = body })) (each g.body))
    (λ y. node (λ n kind. record { kind = kind; node = n; line = y.line }) y.kind)

-- the number of a function
abbrev pub node_of : Function → ℕ
node_of f = f.node
