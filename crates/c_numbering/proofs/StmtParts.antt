-- Statements that have lists of statements in them.
use Rattle.std.proofs.Common.{◌≡◌, ℕ, ◌+◌, List, map, ap, ◌∙◌, rules}
use Rattle.core_tree.specs.declared.expressions.Place.{Place}
use Rattle.core_tree.specs.declared.statements.Stmt.{Stmt}
use Rattle.core_tree.specs.declared.statements.StmtKind.{StmtKind, fold-StmtKind, the_lemmas}
use Rattle.core_tree.specs.declared.statements.StmtKind.TheVariants as s
use Rattle.core_tree.specs.declared.statements.StmtKind.TheOpen.{StmtKind-F}
use Rattle.core_tree.specs.declared.statements.Group.{Group, Group-F, fold-Group, roll-Group, out-Group}
use Rattle.c_checking.specs.Numbering.{Numbered, node, one, each, stmt_step, stmt_numbered, places_numbered}
use Rattle.c_numbering.specs.Statements.{group_numbered}

abbrev pub Layer : Type 0
Layer = StmtKind-F (Numbered StmtKind) (Numbered Group) (Numbered Stmt)

abbrev numbered_node : Numbered StmtKind → ℕ → Numbered Stmt
numbered_node kind line = node (λ n kind. record { kind = kind; node = n; line = line }) kind

-- for any step, which does not compute
module _ (step : Layer → Numbered StmtKind) where
  abbrev kind_by : StmtKind → Numbered StmtKind
  kind_by = fold-StmtKind (Numbered StmtKind) (Numbered Group) (Numbered Stmt) step
      (λ g. one (λ body. roll-Group (record { labels = g.labels; body = body })) (each g.body))
      (λ y. node (λ n kind. record { kind = kind; node = n; line = y.line }) y.kind)

  abbrev stmt_by : Stmt → Numbered Stmt
  stmt_by x = numbered_node (kind_by x.kind) x.line

  abbrev group_by : Group → Numbered Group
  group_by = fold-Group (Numbered StmtKind) (Numbered Group) (Numbered Stmt) step
      (λ g. one (λ body. roll-Group (record { labels = g.labels; body = body })) (each g.body))
      (λ y. node (λ n kind. record { kind = kind; node = n; line = y.line }) y.kind)

  fold-Block : (all : List Stmt) → kind_by (s.Block all) ≡ step (StmtKind-F.Block (map stmt_by all))
  fold-Block all = search (rules, the_lemmas)

  fold-Expires : (names : List Place) (body caught : List Stmt)
      → kind_by (s.Expires names body caught) ≡ step (StmtKind-F.Expires names (map stmt_by body) (map stmt_by caught))
  fold-Expires names body caught = search (rules, the_lemmas)

-- for any steps, which do not compute
module _ (step : Layer → Numbered StmtKind) (group : Group-F (Numbered StmtKind) (Numbered Group) (Numbered Stmt) → Numbered Group) where
  fold-group : (g : Group)
      → fold-Group (Numbered StmtKind) (Numbered Group) (Numbered Stmt) step group
      (λ y. node (λ n kind. record { kind = kind; node = n; line = y.line }) y.kind) g
      ≡ group (record {
        labels = (out-Group g).labels;
        body = map (λ (x : Stmt). numbered_node (fold-StmtKind (Numbered StmtKind) (Numbered Group) (Numbered Stmt) step group
            (λ y. node (λ n kind. record { kind = kind; node = n; line = y.line }) y.kind) x.kind) x.line) (out-Group g).body;
      })
  fold-group g = search (rules, the_lemmas)

block_is : (x : Stmt) (all : List Stmt) (n : ℕ) → x.kind ≡ s.Block all
    → stmt_numbered x n
    ≡ (
      record { kind = s.Block (each (map stmt_numbered all) (n + 1)).0; node = n; line = x.line },
      (each (map stmt_numbered all) (n + 1)).1,
    )
block_is x all n is =
    ap (λ (kind : StmtKind). numbered_node (kind_by stmt_step kind) x.line n) is
    ∙ ap (λ (kind : Numbered StmtKind). numbered_node kind x.line n) (fold-Block stmt_step all)

pub block_made : (x : Stmt) (all : List Stmt) (n : ℕ) → x.kind ≡ s.Block all
    → (stmt_numbered x n).0 ≡ record { kind = s.Block (each (map stmt_numbered all) (n + 1)).0; node = n; line = x.line }
block_made x all n is = ap (λ (p : Stmt × ℕ). p.0) (block_is x all n is)

pub block_next : (x : Stmt) (all : List Stmt) (n : ℕ) → x.kind ≡ s.Block all
    → (stmt_numbered x n).1 ≡ (each (map stmt_numbered all) (n + 1)).1
block_next x all n is = ap (λ (p : Stmt × ℕ). p.1) (block_is x all n is)

-- where the body of an `@expires` begins, and where its `catch` does
abbrev pub body_begins : List Place → ℕ → ℕ
body_begins names n = (places_numbered names (n + 1)).1

abbrev pub catch_begins : List Place → List Stmt → ℕ → ℕ
catch_begins names body n = (each (map stmt_numbered body) (body_begins names n)).1

expires_is : (x : Stmt) (names : List Place) (body caught : List Stmt) (n : ℕ) → x.kind ≡ s.Expires names body caught
    → stmt_numbered x n
    ≡ (
      record {
        kind =
            s.Expires (places_numbered names (n + 1)).0 (each (map stmt_numbered body) (body_begins names n)).0
            (each (map stmt_numbered caught) (catch_begins names body n)).0;
        node = n;
        line = x.line;
      },
      (each (map stmt_numbered caught) (catch_begins names body n)).1,
    )
expires_is x names body caught n is =
    ap (λ (kind : StmtKind). numbered_node (kind_by stmt_step kind) x.line n) is
    ∙ ap (λ (kind : Numbered StmtKind). numbered_node kind x.line n) (fold-Expires stmt_step names body caught)

pub expires_made : (x : Stmt) (names : List Place) (body caught : List Stmt) (n : ℕ) → x.kind ≡ s.Expires names body caught
    → (stmt_numbered x n).0
    ≡ record {
      kind =
          s.Expires (places_numbered names (n + 1)).0 (each (map stmt_numbered body) (body_begins names n)).0
          (each (map stmt_numbered caught) (catch_begins names body n)).0;
      node = n;
      line = x.line;
    }
expires_made x names body caught n is = ap (λ (p : Stmt × ℕ). p.0) (expires_is x names body caught n is)

pub expires_next : (x : Stmt) (names : List Place) (body caught : List Stmt) (n : ℕ) → x.kind ≡ s.Expires names body caught
    → (stmt_numbered x n).1 ≡ (each (map stmt_numbered caught) (catch_begins names body n)).1
expires_next x names body caught n is = ap (λ (p : Stmt × ℕ). p.1) (expires_is x names body caught n is)

group_is : (g : Group) (n : ℕ)
    → group_numbered g n
    ≡ (
      roll-Group (record { labels = (out-Group g).labels; body = (each (map stmt_numbered (out-Group g).body) n).0 }),
      (each (map stmt_numbered (out-Group g).body) n).1,
    )
group_is g n = ap (λ (f : Numbered Group). f n) (fold-group stmt_step (λ h. one (λ body. roll-Group (record { labels = h.labels; body = body })) (each h.body)) g)

pub group_made : (g : Group) (n : ℕ) → (group_numbered g n).0
    ≡ roll-Group (record { labels = (out-Group g).labels; body = (each (map stmt_numbered (out-Group g).body) n).0 })
group_made g n = ap (λ (p : Group × ℕ). p.0) (group_is g n)

pub group_next : (g : Group) (n : ℕ) → (group_numbered g n).1 ≡ (each (map stmt_numbered (out-Group g).body) n).1
group_next g n = ap (λ (p : Group × ℕ). p.1) (group_is g n)
