-- The steps of statements that have lists of statements in them.
use Rattle.std.proofs.Common.{◌≡◌, ℕ, ◌+◌, List, map, Option, Some, None, ap, ◌∙◌, rules, arith}
use Rattle.core_tree.specs.Layout.{int_type_of}
use Rattle.core_tree.specs.declared.types.Slot.{Slot}
use Rattle.core_tree.specs.declared.types.Struct.{Struct}
use Rattle.core_tree.specs.declared.expressions.Expr.{Expr}
use Rattle.core_tree.specs.declared.statements.Stmt.{Stmt}
use Rattle.core_tree.specs.declared.statements.StmtKind.{StmtKind, fold-StmtKind, the_lemmas}
use Rattle.core_tree.specs.declared.statements.StmtKind.TheVariants as k
use Rattle.core_tree.specs.declared.statements.StmtKind.TheOpen.{StmtKind-F}
use Rattle.core_tree.specs.declared.statements.Group.{Group, Group-F, fold-Group, out-Group}
use Rattle.ir_gen.specs.Code as c
use Rattle.ir_gen.specs.Body as b
use Rattle.ir_gen.specs.Body.{Body, Grouped}
use Rattle.ir_build.specs.Grouping.{grouped}

-- for any layers, which do not compute
module _ (layer : StmtKind-F (ℕ → Body) Grouped Body → ℕ → Body) (group : Group-F (ℕ → Body) Grouped Body → Grouped) where
  abbrev kind_by : StmtKind → ℕ → Body
  kind_by = fold-StmtKind (ℕ → Body) Grouped Body layer group (λ s. s.kind s.node)

  abbrev stmt_by : Stmt → Body
  stmt_by s = kind_by s.kind s.node

  abbrev group_by : Group → Grouped
  group_by = fold-Group (ℕ → Body) Grouped Body layer group (λ s. s.kind s.node)

  fold-Block : (all : List Stmt) → kind_by (k.Block all) ≡ layer (StmtKind-F.Block (map stmt_by all))
  fold-Block all = search (rules, the_lemmas)

  fold-Switch : (on : Expr) (groups : List Group) → kind_by (k.Switch on groups)
      ≡ layer (StmtKind-F.Switch on (map group_by groups))
  fold-Switch on groups = search (rules, the_lemmas)

  fold-For-None : (test part : Option Expr) (body : Stmt)
      → kind_by (k.For None test part body) ≡ layer (StmtKind-F.For None test part (stmt_by body))
  fold-For-None test part body = search (rules, the_lemmas)

  fold-For-Some : (first : Stmt) (test part : Option Expr) (body : Stmt)
      → kind_by (k.For (Some first) test part body) ≡ layer (StmtKind-F.For (Some (stmt_by first)) test part (stmt_by body))
  fold-For-Some first test part body = search (rules, the_lemmas)

  fold-group : (g : Group) → group_by g ≡ group (record { labels = (out-Group g).labels; body = map stmt_by (out-Group g).body })
  fold-group g = search (rules, the_lemmas)

module _ (S : List Struct) (O : List (List Slot)) where
  pub group_is : (g : Group) → grouped S O g ≡ record { labels = (out-Group g).labels; body = b.stmts S O (out-Group g).body }
  group_is g = fold-group (b.stmt_layer S O) (λ h. record { labels = h.labels; body = b.bodies h.body }) g

  pub block_is : (s : Stmt) (all : List Stmt) → s.kind ≡ k.Block all → b.stmt S O s ≡ b.stmts S O all
  block_is s all is =
      ap (λ (kind : StmtKind). b.stmt_kind S O kind s.node) is
      ∙ ap (λ (l : ℕ → Body). l s.node) (fold-Block (b.stmt_layer S O)
      (λ g. record { labels = g.labels; body = b.bodies g.body }) all)

  pub switch_is : (s : Stmt) (on : Expr) (groups : List Group) → s.kind ≡ k.Switch on groups
      → b.stmt S O s ≡ b.switch_body s.node (int_type_of on.ty) (c.expr S on) (map (grouped S O) groups)
  switch_is s on groups is =
      ap (λ (kind : StmtKind). b.stmt_kind S O kind s.node) is
      ∙ ap (λ (l : ℕ → Body). l s.node)
      (fold-Switch (b.stmt_layer S O) (λ g. record { labels = g.labels; body = b.bodies g.body }) on groups)

  pub block_size : (s : Stmt) (all : List Stmt) → s.kind ≡ k.Block all → (b.stmt S O s).size ≡ (b.stmts S O all).size
  block_size s all is = ap (λ (z : Body). z.size) (block_is s all is)

  pub block_steps : (s : Stmt) (all : List Stmt) (p brk cont : ℕ) → s.kind ≡ k.Block all
      → (b.stmt S O s).steps p brk cont ≡ (b.stmts S O all).steps p brk cont
  block_steps s all p brk cont is = ap (λ (z : Body). z.steps p brk cont) (block_is s all is)

  pub switch_size : (s : Stmt) (on : Expr) (groups : List Group) → s.kind ≡ k.Switch on groups
      → (b.stmt S O s).size
      ≡ (c.expr S on).size + (b.case_count (map (grouped S O) groups) + (2 + (b.groups_body (map (grouped S O) groups)).size))
  switch_size s on groups is = ap (λ (z : Body). z.size) (switch_is s on groups is) ∙ omega arith

  pub switch_sized : (s : Stmt) (on : Expr) (groups : List Group) → s.kind ≡ k.Switch on groups
      → (b.stmt S O s).size ≡ (b.switch_body s.node (int_type_of on.ty) (c.expr S on) (map (grouped S O) groups)).size
  switch_sized s on groups is = ap (λ (z : Body). z.size) (switch_is s on groups is)

  pub switch_steps : (s : Stmt) (on : Expr) (groups : List Group) (p brk cont : ℕ) → s.kind ≡ k.Switch on groups
      → (b.stmt S O s).steps p brk cont
      ≡ (b.switch_body s.node (int_type_of on.ty) (c.expr S on) (map (grouped S O) groups)).steps p brk cont
  switch_steps s on groups p brk cont is = ap (λ (z : Body). z.steps p brk cont) (switch_is s on groups is)

  -- the loop of a `for`
  abbrev pub for_loop : Stmt → (test part : Option Expr) → Stmt → Body
  for_loop s test part body =
      b.loop_body s.node (b.optional_guard S O s.node test) (b.stmt S O body) (b.optional_part S O s.node part)

  pub for_none_is : (s : Stmt) (first : Option Stmt) (test part : Option Expr) (body : Stmt) → s.kind ≡ k.For first test part body
      → first ≡ None → b.stmt S O s ≡ b.then_body b.no_body (for_loop s test part body)
  for_none_is s first test part body is none =
      ap (λ (kind : StmtKind). b.stmt_kind S O kind s.node) is
      ∙ ap (λ (f : Option Stmt). b.stmt_kind S O (k.For f test part body) s.node) none
      ∙ ap (λ (l : ℕ → Body). l s.node)
      (fold-For-None (b.stmt_layer S O) (λ g. record { labels = g.labels; body = b.bodies g.body }) test part body)

  pub for_some_is : (s : Stmt) (first : Option Stmt) (f : Stmt) (test part : Option Expr) (body : Stmt)
      → s.kind ≡ k.For first test part body → first ≡ Some f
      → b.stmt S O s ≡ b.then_body (b.stmt S O f) (for_loop s test part body)
  for_some_is s first f test part body is some =
      ap (λ (kind : StmtKind). b.stmt_kind S O kind s.node) is
      ∙ ap (λ (g : Option Stmt). b.stmt_kind S O (k.For g test part body) s.node) some
      ∙ ap (λ (l : ℕ → Body). l s.node)
      (fold-For-Some (b.stmt_layer S O) (λ g. record { labels = g.labels; body = b.bodies g.body }) f test part body)
