-- Which tokens spell a statement (C99 6.8). The two truth values say whether `break` and `continue` may stand there.
use Rattle.std.specs.Prelude.{◌≡◌, ℕ, ◌≤◌, Bool, true, false, List, [], ◌∷◌, Option, Some, None, codes}
use Rattle.c_lex.specs.declared.token.Token.{Token}
use Rattle.c_lex.specs.declared.token.TokenKind.TheVariants.{Word, Keyword, Mark, Note}
use Rattle.c_lex.specs.declared.token.Keyword.TheVariants as w
use Rattle.c_lex.specs.declared.token.Mark.TheVariants as m
use Rattle.c_lex.specs.declared.token.Note.TheVariants as note
use Rattle.c_tree.specs.declared.expression.Expr.{Expr}
use Rattle.c_tree.specs.declared.declarations.Duration.{Duration}
use Rattle.c_tree.specs.declared.declarations.Declaration.{Declaration}
use Rattle.c_tree.specs.declared.statements.Tname.{Tname}
use Rattle.c_tree.specs.declared.statements.Label.{Label}
use Rattle.c_tree.specs.declared.statements.Label.TheVariants as label
use Rattle.c_tree.specs.declared.statements.First.{First}
use Rattle.c_tree.specs.declared.statements.First.TheVariants as first
use Rattle.c_tree.specs.declared.statements.Statement.{Statement}
use Rattle.c_tree.specs.declared.statements.StatementKind.{StatementKind}
use Rattle.c_tree.specs.declared.statements.StatementKind.TheVariants as k
use Rattle.c_tree.specs.declared.statements.BlockItem.{BlockItem}
use Rattle.c_tree.specs.declared.statements.BlockItem.TheVariants as item
use Rattle.c_tree.specs.declared.statements.Compound.{Compound, roll-Compound}
use Rattle.c_tree.specs.declared.statements.Group.{Group, roll-Group}
use Rattle.c_parse_expr.specs.declared.wanted.Wanted.TheVariants as want
use Rattle.c_parse_expr.specs.Expected.{fits}
use Rattle.c_parse_expr.specs.Ranks.{assign_rank, conditional_rank, unary_rank, rank}
use Rattle.c_parse_expr.specs.TypeWords.{Tokens, line_at}
use Rattle.c_parse_expr.specs.Grammar.{Spells}
use Rattle.c_parse_stmt.specs.Repeats.{SpellsCommas, SpellsMany}
use Rattle.c_parse_stmt.specs.Declarations.{Lasts, SpellsDeclaration}

abbrev pub compound : List BlockItem → Compound
compound items = roll-Compound (record { items = items })

abbrev pub group : List Label → List Statement → Group
group labels statements = roll-Group (record { labels = labels; statements = statements })

-- an `else` belongs to the nearest statement that can have it, so what has none is not followed by one
abbrev pub NoElse : Tokens → Type 0
NoElse [] = Unit {0}
NoElse (t ∷ _) = fits (want.Keyword w.Else) t.kind ≡ false

-- an expression that may be left out
pub data SpellsOptional : Option Expr → Tokens → Tokens → Type 0 where
  absent : {ts : Tokens} → SpellsOptional None ts ts
  given : {e : Expr} {ts rest : Tokens} → Spells e ts rest → SpellsOptional (Some e) ts rest

-- an expression in parentheses that are no part of it
pub data SpellsTest : Expr → Tokens → Tokens → Type 0 where
  tested : {e : Expr} {t u : Token} {ts rest : Tokens} → t.kind ≡ Mark m.LeftParen → Spells e ts (u ∷ rest) → u.kind ≡ Mark m.RightParen → SpellsTest e (t ∷ ts) rest

pub data NamesTimed : Tname → Tokens → Tokens → Type 0 where
  plain : {n : List ℕ} {t : Token} {rest : Tokens} → t.kind ≡ Word n → NamesTimed (record { name = n; index = None }) (t ∷ rest) rest
  indexed : {n : List ℕ} {e : Expr} {t u v : Token} {ts rest : Tokens} → t.kind ≡ Word n → u.kind ≡ Mark m.LeftBracket → Spells e ts (v ∷ rest)
      → conditional_rank ≤ rank e → v.kind ≡ Mark m.RightBracket → NamesTimed (record { name = n; index = Some e }) (t ∷ u ∷ ts) rest

pub data Labels : Label → Tokens → Tokens → Type 0 where
  case_of : {e : Expr} {t u : Token} {ts rest : Tokens} → t.kind ≡ Keyword w.Case → Spells e ts (u ∷ rest) → conditional_rank ≤ rank e → u.kind ≡ Mark m.Colon
      → Labels (label.Case e) (t ∷ ts) rest
  default : {t u : Token} {rest : Tokens} → t.kind ≡ Keyword w.Default → u.kind ≡ Mark m.Colon → Labels label.Default (t ∷ u ∷ rest) rest

-- the first part of a `for` and its semicolon
pub data SpellsFirst : First → Tokens → Tokens → Type 0 where
  by_expr : {e : Option Expr} {t : Token} {ts rest : Tokens} → SpellsOptional e ts (t ∷ rest) → t.kind ≡ Mark m.Semicolon → SpellsFirst (first.Expr e) ts rest
  by_declaration : {x : Declaration} {ts rest : Tokens} → SpellsDeclaration x ts rest → SpellsFirst (first.Declaration x) ts rest

mutual
  pub data States : Bool → Bool → Statement → Tokens → Tokens → Type 0 where
    states : {b c : Bool} {kind : StatementKind} {ts rest : Tokens} → Forms b c kind ts rest → States b c (record { kind = kind; line = line_at ts }) ts rest

  pub data Forms : Bool → Bool → StatementKind → Tokens → Tokens → Type 0 where
    a_compound : {b c : Bool} {body : Compound} {ts rest : Tokens} → Composes b c body ts rest → Forms b c (k.Compound body) ts rest
    expression : {b c : Bool} {e : Option Expr} {t : Token} {ts rest : Tokens} → SpellsOptional e ts (t ∷ rest) → t.kind ≡ Mark m.Semicolon → Forms b c (k.Expr e) ts rest
    if_alone : {b c : Bool} {e : Expr} {y : Statement} {t : Token} {ts mid rest : Tokens} → t.kind ≡ Keyword w.If → SpellsTest e ts mid → States b c y mid rest → NoElse rest
        → Forms b c (k.If e y None) (t ∷ ts) rest
    if_else : {b c : Bool} {e : Expr} {y n : Statement} {t u : Token} {ts mid others rest : Tokens} → t.kind ≡ Keyword w.If → SpellsTest e ts mid
        → States b c y mid (u ∷ others) → u.kind ≡ Keyword w.Else → States b c n others rest → Forms b c (k.If e y (Some n)) (t ∷ ts) rest
    while_do : {b c : Bool} {e : Expr} {y : Statement} {t : Token} {ts mid rest : Tokens} → t.kind ≡ Keyword w.While → SpellsTest e ts mid → States true true y mid rest
        → Forms b c (k.While e y) (t ∷ ts) rest
    do_while : {b c : Bool} {e : Expr} {y : Statement} {t u v : Token} {ts mid rest : Tokens} → t.kind ≡ Keyword w.Do → States true true y ts (u ∷ mid)
        → u.kind ≡ Keyword w.While → SpellsTest e mid (v ∷ rest) → v.kind ≡ Mark m.Semicolon → Forms b c (k.Do y e) (t ∷ ts) rest
    for_do : {b c : Bool} {x : First} {e s : Option Expr} {y : Statement} {t u v z : Token} {ts mid others behind rest : Tokens} → t.kind ≡ Keyword w.For
        → u.kind ≡ Mark m.LeftParen → SpellsFirst x ts mid → SpellsOptional e mid (v ∷ others) → v.kind ≡ Mark m.Semicolon → SpellsOptional s others (z ∷ behind)
        → z.kind ≡ Mark m.RightParen → States true true y behind rest → Forms b c (k.For x e s y) (t ∷ u ∷ ts) rest
    switch_on : {b c : Bool} {e : Expr} {gs : List Group} {t u v : Token} {ts mid rest : Tokens} → t.kind ≡ Keyword w.Switch → SpellsTest e ts (u ∷ mid)
        → u.kind ≡ Mark m.LeftBrace → SpellsGroups c gs mid (v ∷ rest) → v.kind ≡ Mark m.RightBrace → Forms b c (k.Switch e gs) (t ∷ ts) rest
    break_out : {c : Bool} {t u : Token} {rest : Tokens} → t.kind ≡ Keyword w.Break → u.kind ≡ Mark m.Semicolon → Forms true c k.Break (t ∷ u ∷ rest) rest
    continue_on : {b : Bool} {t u : Token} {rest : Tokens} → t.kind ≡ Keyword w.Continue → u.kind ≡ Mark m.Semicolon → Forms b true k.Continue (t ∷ u ∷ rest) rest
    return_with : {b c : Bool} {e : Option Expr} {t u : Token} {ts rest : Tokens} → t.kind ≡ Keyword w.Return → SpellsOptional e ts (u ∷ rest) → u.kind ≡ Mark m.Semicolon
        → Forms b c (k.Return e) (t ∷ ts) rest
    stamped : {b c : Bool} {place value : Expr} {t u : Token} {ts mid rest : Tokens} → Spells place ts (t ∷ mid) → conditional_rank ≤ rank place
        → t.kind ≡ Note note.StampedAssign → Spells value mid (u ∷ rest) → assign_rank ≤ rank value → u.kind ≡ Mark m.Semicolon
        → Forms b c (k.Stamped place value) ts rest
    timely_alone : {b c : Bool} {e : Expr} {limit : Duration} {y : Statement} {t : Token} {ts mid rest : Tokens} → t.kind ≡ Note note.Timely → SpellsLimit e limit ts mid
        → States b c y mid rest → NoElse rest → Forms b c (k.Timely e limit y None) (t ∷ ts) rest
    timely_else : {b c : Bool} {e : Expr} {limit : Duration} {y n : Statement} {t u : Token} {ts mid others rest : Tokens} → t.kind ≡ Note note.Timely
        → SpellsLimit e limit ts mid → States b c y mid (u ∷ others) → u.kind ≡ Keyword w.Else → States b c n others rest
        → Forms b c (k.Timely e limit y (Some n)) (t ∷ ts) rest
    expires : {b c : Bool} {names : List Tname} {body caught : Compound} {t u v z : Token} {ts mid others rest : Tokens} → t.kind ≡ Note note.Expires
        → u.kind ≡ Mark m.LeftParen → SpellsCommas NamesTimed names ts (v ∷ mid) → v.kind ≡ Mark m.RightParen → Composes b c body mid (z ∷ others)
        → z.kind ≡ Word (codes "catch") → Composes b c caught others rest → Forms b c (k.Expires names body caught) (t ∷ u ∷ ts) rest

  -- what stands in the parentheses of `@timely`, and these
  pub data SpellsLimit : Expr → Duration → Tokens → Tokens → Type 0 where
    timed : {e : Expr} {limit : Duration} {t u v : Token} {ts mid rest : Tokens} → t.kind ≡ Mark m.LeftParen → Spells e ts (u ∷ mid) → unary_rank ≤ rank e
        → u.kind ≡ Mark m.Comma → Lasts limit mid (v ∷ rest) → v.kind ≡ Mark m.RightParen → SpellsLimit e limit (t ∷ ts) rest

  pub data Composes : Bool → Bool → Compound → Tokens → Tokens → Type 0 where
    composes : {b c : Bool} {items : List BlockItem} {t u : Token} {ts rest : Tokens} → t.kind ≡ Mark m.LeftBrace → SpellsItems b c items ts (u ∷ rest)
        → u.kind ≡ Mark m.RightBrace → Composes b c (compound items) (t ∷ ts) rest

  pub data SpellsItems : Bool → Bool → List BlockItem → Tokens → Tokens → Type 0 where
    no_item : {b c : Bool} {ts : Tokens} → SpellsItems b c [] ts ts
    an_item : {b c : Bool} {x : BlockItem} {xs : List BlockItem} {ts mid rest : Tokens} → IsItem b c x ts mid → SpellsItems b c xs mid rest → SpellsItems b c (x ∷ xs) ts rest

  pub data IsItem : Bool → Bool → BlockItem → Tokens → Tokens → Type 0 where
    a_declaration : {b c : Bool} {x : Declaration} {ts rest : Tokens} → SpellsDeclaration x ts rest → IsItem b c (item.Declaration x) ts rest
    a_statement : {b c : Bool} {y : Statement} {ts rest : Tokens} → States b c y ts rest → IsItem b c (item.Statement y) ts rest

  -- the groups of a `switch`, where `break` may stand
  pub data SpellsGroups : Bool → List Group → Tokens → Tokens → Type 0 where
    no_group : {c : Bool} {ts : Tokens} → SpellsGroups c [] ts ts
    a_group : {c : Bool} {g : Group} {gs : List Group} {ts mid rest : Tokens} → IsGroup c g ts mid → SpellsGroups c gs mid rest → SpellsGroups c (g ∷ gs) ts rest

  pub data IsGroup : Bool → Group → Tokens → Tokens → Type 0 where
    is_group : {c : Bool} {l : Label} {ls : List Label} {y : Statement} {ys : List Statement} {ts mid others rest : Tokens} → SpellsMany Labels (l ∷ ls) ts mid
        → States true c y mid others → RunsOn c ys others rest → IsGroup c (group (l ∷ ls) (y ∷ ys)) ts rest

  -- statements one behind the other
  pub data RunsOn : Bool → List Statement → Tokens → Tokens → Type 0 where
    no_statement : {c : Bool} {ts : Tokens} → RunsOn c [] ts ts
    next_statement : {c : Bool} {y : Statement} {ys : List Statement} {ts mid rest : Tokens} → States true c y ts mid → RunsOn c ys mid rest → RunsOn c (y ∷ ys) ts rest
