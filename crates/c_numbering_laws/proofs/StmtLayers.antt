-- Kinds of statements, and groups of a `switch`, with their nodes numbered.
use Rattle.std.proofs.Common.{◌≡◌, ℕ, List, map, Option, Some, None, ap, rules}
use Rattle.core_tree.specs.declared.expressions.Expr.{Expr}
use Rattle.core_tree.specs.declared.expressions.Place.{Place}
use Rattle.core_tree.specs.declared.statements.Stmt.{Stmt}
use Rattle.core_tree.specs.declared.statements.Init.{Init}
use Rattle.core_tree.specs.declared.statements.StmtKind.{StmtKind, fold-StmtKind, the_lemmas}
use Rattle.core_tree.specs.declared.statements.StmtKind.TheVariants as k
use Rattle.core_tree.specs.declared.statements.StmtKind.TheOpen.{StmtKind-F}
use Rattle.core_tree.specs.declared.statements.Group.{Group, Group-F, fold-Group, roll-Group, out-Group, the_lemmas as group_lemmas}
use Rattle.c_checking.specs.Numbering.{Numbered, node, one, each, stmt_step, stmt_numbered}

abbrev pub StmtLayer : Type 0
StmtLayer = StmtKind-F (Numbered StmtKind) (Numbered Group) (Numbered Stmt)

abbrev pub GroupLayer : Type 0
GroupLayer = Group-F (Numbered StmtKind) (Numbered Group) (Numbered Stmt)

abbrev pub kind_step : StmtLayer → Numbered StmtKind
kind_step = stmt_step

abbrev pub group_step : GroupLayer → Numbered Group
group_step g = one (λ body. roll-Group (record { labels = g.labels; body = body })) (each g.body)

abbrev pub stmt_kind_numbered : StmtKind → Numbered StmtKind
stmt_kind_numbered = fold-StmtKind (Numbered StmtKind) (Numbered Group) (Numbered Stmt) stmt_step
    (λ g. one (λ body. roll-Group (record { labels = g.labels; body = body })) (each g.body))
    (λ y. node (λ n kind. record { kind = kind; node = n; line = y.line }) y.kind)

abbrev pub group_numbered : Group → Numbered Group
group_numbered = fold-Group (Numbered StmtKind) (Numbered Group) (Numbered Stmt) stmt_step
    (λ g. one (λ body. roll-Group (record { labels = g.labels; body = body })) (each g.body))
    (λ y. node (λ n kind. record { kind = kind; node = n; line = y.line }) y.kind)

-- for any steps, which do not compute
module _ (step : StmtLayer → Numbered StmtKind) (at : GroupLayer → Numbered Group) where
  abbrev kind_by : StmtKind → Numbered StmtKind
  kind_by = fold-StmtKind (Numbered StmtKind) (Numbered Group) (Numbered Stmt) step at
      (λ y. node (λ n kind. record { kind = kind; node = n; line = y.line }) y.kind)

  abbrev group_by : Group → Numbered Group
  group_by = fold-Group (Numbered StmtKind) (Numbered Group) (Numbered Stmt) step at
      (λ y. node (λ n kind. record { kind = kind; node = n; line = y.line }) y.kind)

  abbrev stmt_by : Stmt → Numbered Stmt
  stmt_by x = node (λ n kind. record { kind = kind; node = n; line = x.line }) (kind_by x.kind)

  by-Expr : (e : Expr) → kind_by (k.Expr e) ≡ step (StmtKind-F.Expr e)
  by-Expr e = search (rules, the_lemmas)

  by-Block : (all : List Stmt) → kind_by (k.Block all) ≡ step (StmtKind-F.Block (map stmt_by all))
  by-Block all = search (rules, the_lemmas)

  by-If : (test : Expr) (a : Stmt) → kind_by (k.If test a None) ≡ step (StmtKind-F.If test (stmt_by a) None)
  by-If test a = search (rules, the_lemmas)

  by-If_else : (test : Expr) (a b : Stmt)
      → kind_by (k.If test a (Some b)) ≡ step (StmtKind-F.If test (stmt_by a) (Some (stmt_by b)))
  by-If_else test a b = search (rules, the_lemmas)

  by-While : (test : Expr) (body : Stmt) → kind_by (k.While test body) ≡ step (StmtKind-F.While test (stmt_by body))
  by-While test body = search (rules, the_lemmas)

  by-Do : (body : Stmt) (test : Expr) → kind_by (k.Do body test) ≡ step (StmtKind-F.Do (stmt_by body) test)
  by-Do body test = search (rules, the_lemmas)

  by-For : (test other : Option Expr) (body : Stmt)
      → kind_by (k.For None test other body) ≡ step (StmtKind-F.For None test other (stmt_by body))
  by-For test other body = search (rules, the_lemmas)

  by-For_first : (first : Stmt) (test other : Option Expr) (body : Stmt)
      → kind_by (k.For (Some first) test other body)
      ≡ step (StmtKind-F.For (Some (stmt_by first)) test other (stmt_by body))
  by-For_first first test other body = search (rules, the_lemmas)

  by-Switch : (on : Expr) (groups : List Group)
      → kind_by (k.Switch on groups) ≡ step (StmtKind-F.Switch on (map group_by groups))
  by-Switch on groups = search (rules, the_lemmas)

  by-Break : kind_by k.Break ≡ step StmtKind-F.Break
  by-Break = search (rules, the_lemmas)

  by-Continue : kind_by k.Continue ≡ step StmtKind-F.Continue
  by-Continue = search (rules, the_lemmas)

  by-Return : (e : Option Expr) → kind_by (k.Return e) ≡ step (StmtKind-F.Return e)
  by-Return e = search (rules, the_lemmas)

  by-Stamped : (p : Place) (e : Expr) → kind_by (k.Stamped p e) ≡ step (StmtKind-F.Stamped p e)
  by-Stamped p e = search (rules, the_lemmas)

  by-Timely : (p : Place) (limit : ℕ) (a : Stmt)
      → kind_by (k.Timely p limit a None) ≡ step (StmtKind-F.Timely p limit (stmt_by a) None)
  by-Timely p limit a = search (rules, the_lemmas)

  by-Timely_else : (p : Place) (limit : ℕ) (a b : Stmt)
      → kind_by (k.Timely p limit a (Some b)) ≡ step (StmtKind-F.Timely p limit (stmt_by a) (Some (stmt_by b)))
  by-Timely_else p limit a b = search (rules, the_lemmas)

  by-Expires : (names : List Place) (body caught : List Stmt)
      → kind_by (k.Expires names body caught) ≡ step (StmtKind-F.Expires names (map stmt_by body) (map stmt_by caught))
  by-Expires names body caught = search (rules, the_lemmas)

  by-Declare : (n : ℕ) (init : List Init) → kind_by (k.Declare n init) ≡ step (StmtKind-F.Declare n init)
  by-Declare n init = search (rules, the_lemmas)

  by-Group : (g : Group)
      → group_by g ≡ at (record { labels = (out-Group g).labels; body = map stmt_by (out-Group g).body })
  by-Group g = search (rules, group_lemmas)

-- what each kind of statement is with its nodes numbered
pub numbered-Expr : (e : Expr) → stmt_kind_numbered (k.Expr e) ≡ kind_step (StmtKind-F.Expr e)
numbered-Expr e = by-Expr kind_step group_step e

pub numbered-Block : (all : List Stmt) → stmt_kind_numbered (k.Block all) ≡ kind_step (StmtKind-F.Block (map stmt_numbered all))
numbered-Block all = by-Block kind_step group_step all

pub numbered-If : (test : Expr) (a : Stmt)
    → stmt_kind_numbered (k.If test a None) ≡ kind_step (StmtKind-F.If test (stmt_numbered a) None)
numbered-If test a = by-If kind_step group_step test a

pub numbered-If_else : (test : Expr) (a b : Stmt)
    → stmt_kind_numbered (k.If test a (Some b)) ≡ kind_step (StmtKind-F.If test (stmt_numbered a) (Some (stmt_numbered b)))
numbered-If_else test a b = by-If_else kind_step group_step test a b

pub numbered-While : (test : Expr) (body : Stmt)
    → stmt_kind_numbered (k.While test body) ≡ kind_step (StmtKind-F.While test (stmt_numbered body))
numbered-While test body = by-While kind_step group_step test body

pub numbered-Do : (body : Stmt) (test : Expr)
    → stmt_kind_numbered (k.Do body test) ≡ kind_step (StmtKind-F.Do (stmt_numbered body) test)
numbered-Do body test = by-Do kind_step group_step body test

pub numbered-For : (test other : Option Expr) (body : Stmt)
    → stmt_kind_numbered (k.For None test other body) ≡ kind_step (StmtKind-F.For None test other (stmt_numbered body))
numbered-For test other body = by-For kind_step group_step test other body

pub numbered-For_first : (first : Stmt) (test other : Option Expr) (body : Stmt)
    → stmt_kind_numbered (k.For (Some first) test other body)
    ≡ kind_step (StmtKind-F.For (Some (stmt_numbered first)) test other (stmt_numbered body))
numbered-For_first first test other body = by-For_first kind_step group_step first test other body

pub numbered-Switch : (on : Expr) (groups : List Group)
    → stmt_kind_numbered (k.Switch on groups) ≡ kind_step (StmtKind-F.Switch on (map group_numbered groups))
numbered-Switch on groups = by-Switch kind_step group_step on groups

pub numbered-Break : stmt_kind_numbered k.Break ≡ kind_step StmtKind-F.Break
numbered-Break = by-Break kind_step group_step

pub numbered-Continue : stmt_kind_numbered k.Continue ≡ kind_step StmtKind-F.Continue
numbered-Continue = by-Continue kind_step group_step

pub numbered-Return : (e : Option Expr) → stmt_kind_numbered (k.Return e) ≡ kind_step (StmtKind-F.Return e)
numbered-Return e = by-Return kind_step group_step e

pub numbered-Stamped : (p : Place) (e : Expr) → stmt_kind_numbered (k.Stamped p e) ≡ kind_step (StmtKind-F.Stamped p e)
numbered-Stamped p e = by-Stamped kind_step group_step p e

pub numbered-Timely : (p : Place) (limit : ℕ) (a : Stmt)
    → stmt_kind_numbered (k.Timely p limit a None) ≡ kind_step (StmtKind-F.Timely p limit (stmt_numbered a) None)
numbered-Timely p limit a = by-Timely kind_step group_step p limit a

pub numbered-Timely_else : (p : Place) (limit : ℕ) (a b : Stmt)
    → stmt_kind_numbered (k.Timely p limit a (Some b))
    ≡ kind_step (StmtKind-F.Timely p limit (stmt_numbered a) (Some (stmt_numbered b)))
numbered-Timely_else p limit a b = by-Timely_else kind_step group_step p limit a b

pub numbered-Expires : (names : List Place) (body caught : List Stmt)
    → stmt_kind_numbered (k.Expires names body caught)
    ≡ kind_step (StmtKind-F.Expires names (map stmt_numbered body) (map stmt_numbered caught))
numbered-Expires names body caught = by-Expires kind_step group_step names body caught

pub numbered-Declare : (n : ℕ) (init : List Init) → stmt_kind_numbered (k.Declare n init) ≡ kind_step (StmtKind-F.Declare n init)
numbered-Declare n init = by-Declare kind_step group_step n init

pub numbered-Group : (g : Group)
    → group_numbered g ≡ group_step (record { labels = (out-Group g).labels; body = map stmt_numbered (out-Group g).body })
numbered-Group g = by-Group kind_step group_step g

-- the labels and the statements of a group with its nodes numbered
pub group_out : (g : Group) (n : ℕ)
    → out-Group (group_numbered g n).0
    ≡ record { labels = (out-Group g).labels; body = (each (map stmt_numbered (out-Group g).body) n).0 }
group_out g n =
    let rolled : out-Group (roll-Group (record {
      labels = (out-Group g).labels;
      body = (each (map stmt_numbered (out-Group g).body) n).0;
    })) ≡ record { labels = (out-Group g).labels; body = (each (map stmt_numbered (out-Group g).body) n).0 } =
    search (rules, group_lemmas) in
    rw (ap (λ (f : Numbered Group). (f n).0) (numbered-Group g)) rolled

pub group_next : (g : Group) (n : ℕ) → (group_numbered g n).1 ≡ (each (map stmt_numbered (out-Group g).body) n).1
group_next g n = ap (λ (f : Numbered Group). (f n).1) (numbered-Group g)
