-- The programs without annotated statements: no stamped assignment, no test of a stamp and no block.
use Rattle.std.specs.Prelude.{◌≡◌, Bool, true, false, ◌&&◌, List, map}
use Rattle.core_tree.specs.declared.statements.Stmt.{Stmt}
use Rattle.core_tree.specs.declared.statements.StmtKind.{StmtKind, fold-StmtKind}
use Rattle.core_tree.specs.declared.statements.Group.{Group, fold-Group}
use Rattle.core_tree.specs.declared.statements.StmtKind.TheOpen.{StmtKind-F}
use Rattle.core_tree.specs.declared.program.Core.{Core}
use Rattle.core_tree.specs.declared.program.Function.{Function}
use Rattle.core_tree.specs.LawfulCore.{Every}
use Rattle.ir_gen.specs.Built.{all_true, if_some}

abbrev pub stmt_layer : StmtKind-F Bool Bool Bool → Bool
stmt_layer (StmtKind-F.Block all) = all_true all
stmt_layer (StmtKind-F.If test one other) = one && if_some (λ b. b) other
stmt_layer (StmtKind-F.While test body) = body
stmt_layer (StmtKind-F.Do body test) = body
stmt_layer (StmtKind-F.For begin test part body) = if_some (λ b. b) begin && body
stmt_layer (StmtKind-F.Switch on groups) = all_true groups
stmt_layer (StmtKind-F.Stamped place value) = false
stmt_layer (StmtKind-F.Timely place limit one other) = false
stmt_layer (StmtKind-F.Expires names body caught) = false
stmt_layer _ = true

abbrev pub stmt_kind : StmtKind → Bool
stmt_kind = fold-StmtKind Bool Bool Bool stmt_layer (λ g. all_true g.body) (λ s. s.kind)

abbrev pub group : Group → Bool
group = fold-Group Bool Bool Bool stmt_layer (λ g. all_true g.body) (λ s. s.kind)

abbrev pub stmt : Stmt → Bool
stmt s = stmt_kind s.kind

abbrev pub stmts : List Stmt → Bool
stmts ss = all_true (map stmt ss)

-- no statement of the program is annotated
abbrev pub IsPlain : Core → Type 0
IsPlain core = Every (λ (x : Function). stmts x.body ≡ true) core.functions
