-- Declarations in a block (C99 6.7).
use Rattle.std.specs.Prelude.{ℕ, if◌then◌else◌, length, map, List}
use Rattle.c_tree.specs.declared.qualified.Spec.{Spec}
use Rattle.c_tree.specs.declared.declarations.Init.{Init}
use Rattle.c_tree.specs.declared.declarations.Declaration.{Declaration}
use Rattle.core_tree.specs.declared.statements.Stmt.{Stmt}
use Rattle.core_tree.specs.declared.statements.StmtKind.{StmtKind}
use Rattle.core_tree.specs.declared.statements.StmtKind.TheVariants as s
use Rattle.c_typing.specs.declared.fault.Rule.TheVariants.{Twice}
use Rattle.c_typing.specs.TypeNames.{Qualified}
use Rattle.c_checking.specs.Walk.{Walk, ◌>>=◌, pure, reading, break_at, one_by_one, single, is_declared, declare_local}
use Rattle.c_checking.specs.Declarators.{base_of, declared_type}
use Rattle.c_checking.specs.Initialisers.{stored}

-- nodes are numbered when the whole tree stands
abbrev pub statement_at : ℕ → StmtKind → Stmt
statement_at line kind = record { kind = kind; node = 0; line = line }

-- a name is declared once in a scope; what is declared is the next local
abbrev pub entered : ℕ → List ℕ → Qualified → Walk ℕ
entered line name t =
    λ env. if is_declared env name then break_at Twice line env else pure (length env.locals) (declare_local name t.ty
    t.readonly env)

-- a declarator: its name is in scope from its own initialiser on
unfoldable pub local : Spec → Init → Walk Stmt
local sp i = do
  t ← reading (λ env. declared_type env i.line (base_of env sp) i.declr.stars i.declr.bounds)
  n ← entered i.line i.declr.name t
  all ← reading (λ env. stored env i.line t.ty i.initial)
  pure (statement_at i.line (s.Declare n all))

abbrev pub locals : Declaration → Walk (List Stmt)
locals d = one_by_one (map (λ i. single (local d.spec i)) d.inits)
