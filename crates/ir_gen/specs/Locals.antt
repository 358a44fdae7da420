-- Whether each local that statements declare is one of so many, which are those of their function in every lawful tree.
use Rattle.std.specs.Prelude.{ℕ, nat_lt, Bool, true, ◌&&◌, List, map}
use Rattle.core_tree.specs.declared.statements.Stmt.{Stmt}
use Rattle.core_tree.specs.declared.statements.StmtKind.{StmtKind, fold-StmtKind}
use Rattle.core_tree.specs.declared.statements.StmtKind.TheOpen.{StmtKind-F}
use Rattle.core_tree.specs.declared.statements.Group.{Group, fold-Group}
use Rattle.ir_gen.specs.Built.{all_true, if_some}

module _ (count : ℕ) where
  abbrev pub stmt_layer : StmtKind-F Bool Bool Bool → Bool
  stmt_layer (StmtKind-F.Expr e) = true
  stmt_layer (StmtKind-F.Block all) = all_true all
  stmt_layer (StmtKind-F.If test one other) = one && if_some (λ b. b) other
  stmt_layer (StmtKind-F.While test body) = body
  stmt_layer (StmtKind-F.Do body test) = body
  stmt_layer (StmtKind-F.For begin test part body) = if_some (λ b. b) begin && body
  stmt_layer (StmtKind-F.Switch on groups) = all_true groups
  stmt_layer StmtKind-F.Break = true
  stmt_layer StmtKind-F.Continue = true
  stmt_layer (StmtKind-F.Return e) = true
  stmt_layer (StmtKind-F.Stamped place value) = true
  stmt_layer (StmtKind-F.Timely place limit one other) = one && if_some (λ b. b) other
  stmt_layer (StmtKind-F.Expires names body caught) = all_true body && all_true caught
  stmt_layer (StmtKind-F.Declare n init) = nat_lt n count

  abbrev pub stmt_kind : StmtKind → Bool
  stmt_kind = fold-StmtKind Bool Bool Bool stmt_layer (λ g. all_true g.body) (λ s. s.kind)

  abbrev pub group : Group → Bool
  group = fold-Group Bool Bool Bool stmt_layer (λ g. all_true g.body) (λ s. s.kind)

  abbrev pub stmt : Stmt → Bool
  stmt s = stmt_kind s.kind

  abbrev pub stmts : List Stmt → Bool
  stmts ss = all_true (map stmt ss)
