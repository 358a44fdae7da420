-- How statements are read. What stands in a statement is of height d at most.
use Rattle.std.specs.Prelude.{ℕ, zero, suc, Bool, true, false, not, ◌&&◌, if◌then◌else◌, nat_le, List, [], ◌∷◌, Option, Some, None, codes, bytes_eq}
use Rattle.c_lex.specs.declared.token.TokenKind.{TokenKind}
use Rattle.c_lex.specs.declared.token.TokenKind.TheVariants.{Keyword, Mark, Note}
use Rattle.c_lex.specs.declared.token.Keyword.TheVariants as w
use Rattle.c_lex.specs.declared.token.Mark.{Mark as AMark}
use Rattle.c_lex.specs.declared.token.Mark.TheVariants as m
use Rattle.c_lex.specs.declared.token.Note.TheVariants as note
use Rattle.c_tree.specs.declared.expression.Expr.{Expr}
use Rattle.c_tree.specs.declared.declarations.Duration.{Duration}
use Rattle.c_tree.specs.declared.statements.Tname.{Tname}
use Rattle.c_tree.specs.declared.statements.Label.{Label}
use Rattle.c_tree.specs.declared.statements.Label.TheVariants as label
use Rattle.c_tree.specs.declared.statements.First.{First}
use Rattle.c_tree.specs.declared.statements.First.TheVariants as first
use Rattle.c_tree.specs.declared.statements.Statement.{Statement}
use Rattle.c_tree.specs.declared.statements.StatementKind.{StatementKind}
use Rattle.c_tree.specs.declared.statements.StatementKind.TheVariants as k
use Rattle.c_tree.specs.declared.statements.BlockItem.{BlockItem}
use Rattle.c_tree.specs.declared.statements.BlockItem.TheVariants as item
use Rattle.c_tree.specs.declared.statements.Compound.{Compound}
use Rattle.c_tree.specs.declared.statements.Group.{Group}
use Rattle.c_parse_expr.specs.declared.wanted.Wanted.TheVariants as want
use Rattle.c_parse_expr.specs.Ranks.{comma_rank, assign_rank, conditional_rank, unary_rank, rank}
use Rattle.c_parse_expr.specs.TypeWords.{Tokens, line_at}
use Rattle.c_parse_expr.specs.Steps.{Parser, and_then, ◌>>=◌, ◌>>◌, pure, refuse, take_if, expect, eat, eat_word, closing, word, mark_next}
use Rattle.c_parse_expr.specs.Reading.{expr, type_next}
use Rattle.c_parse_stmt.specs.Repeats.{all_commas, all_many}
use Rattle.c_parse_stmt.specs.DeclarationReading.{duration, declaration}
use Rattle.c_parse_stmt.specs.Statements.{compound, group}

-- whether something stands before the brace that closes
abbrev pub unclosed : Tokens → Bool
unclosed [] = false
unclosed (t ∷ ts) = not (mark_next m.RightBrace (t ∷ ts))

abbrev pub is_label : TokenKind → Bool
is_label (Keyword w.Case) = true
is_label (Keyword w.Default) = true
is_label _ = false

abbrev pub label_next : Tokens → Bool
label_next [] = false
label_next (t ∷ _) = is_label t.kind

-- whether a statement of a group stands here
abbrev pub runs_on : Tokens → Bool
runs_on ts = unclosed ts && not (label_next ts)

unfoldable pub catch_word : Parser (Unit {0})
catch_word = do
  n ← word
  (λ ts. if bytes_eq n (codes "catch") then Some (tt, ts) else None)

unfoldable pub break_rest : Bool → Parser StatementKind
break_rest false = refuse
break_rest true = do
  closing m.Semicolon
  pure k.Break

unfoldable pub continue_rest : Bool → Parser StatementKind
continue_rest false = refuse
continue_rest true = do
  closing m.Semicolon
  pure k.Continue

module _ (d : ℕ) where
  unfoldable pub some_expr : Parser (Option Expr)
  some_expr = do
    e ← expr d comma_rank
    pure (Some e)

  -- an expression, or none where this mark comes next, which stays
  unfoldable pub given : AMark → Parser (Option Expr)
  given x = λ ts. if mark_next x ts then Some (None, ts) else some_expr ts

  unfoldable pub tested : Parser Expr
  tested = do
    closing m.LeftParen
    e ← expr d comma_rank
    closing m.RightParen
    pure e

  unfoldable pub tname_index : List ℕ → Parser Tname
  tname_index n = do
    e ← expr d conditional_rank
    closing m.RightBracket
    pure (record { name = n; index = Some e })

  unfoldable pub tname : Parser Tname
  tname = do
    n ← word
    is_indexed ← eat m.LeftBracket
    if is_indexed then tname_index n else pure (record { name = n; index = None })

  unfoldable pub case_rest : Parser Label
  case_rest = do
    e ← expr d conditional_rank
    closing m.Colon
    pure (label.Case e)

  unfoldable pub default_rest : Parser Label
  default_rest = do
    closing m.Colon
    pure label.Default

  abbrev pub label_by : TokenKind → Parser Label
  label_by (Keyword w.Case) = case_rest
  label_by (Keyword w.Default) = default_rest
  label_by _ = refuse

  unfoldable pub a_label : Parser Label
  a_label [] = None
  a_label (t ∷ ts) = label_by t.kind ts

  unfoldable pub first_expr : Parser First
  first_expr = do
    e ← given m.Semicolon
    closing m.Semicolon
    pure (first.Expr e)

  unfoldable pub first_declaration : Parser First
  first_declaration = do
    x ← declaration d
    pure (first.Declaration x)

  unfoldable pub for_first : Parser First
  for_first = λ ts. if type_next ts then first_declaration ts else first_expr ts

  unfoldable pub timed : Parser (Expr × Duration)
  timed = do
    closing m.LeftParen
    e ← expr d unary_rank
    closing m.Comma
    limit ← duration
    closing m.RightParen
    pure (e, limit)

  module _ (stmt : Bool → Bool → Parser Statement) where
    unfoldable pub item_declaration : Parser BlockItem
    item_declaration = do
      x ← declaration d
      pure (item.Declaration x)

    unfoldable pub item_statement : Bool → Bool → Parser BlockItem
    item_statement b c = do
      y ← stmt b c
      pure (item.Statement y)

    unfoldable pub an_item : Bool → Bool → Parser BlockItem
    an_item b c = λ ts. if type_next ts then item_declaration ts else item_statement b c ts

    -- behind the brace that opens
    unfoldable pub compound_rest : Bool → Bool → Parser Compound
    compound_rest b c = do
      items ← all_many (an_item b c) unclosed
      closing m.RightBrace
      pure (compound items)

    unfoldable pub a_compound : Bool → Bool → Parser Compound
    a_compound b c = do
      closing m.LeftBrace
      compound_rest b c

    unfoldable pub compound_form : Bool → Bool → Parser StatementKind
    compound_form b c = do
      body ← compound_rest b c
      pure (k.Compound body)

    unfoldable pub other_branch : Bool → Bool → Parser (Option Statement)
    other_branch b c = do
      n ← stmt b c
      pure (Some n)

    unfoldable pub else_part : Bool → Bool → Parser (Option Statement)
    else_part b c = do
      has_else ← eat_word w.Else
      if has_else then other_branch b c else pure None

    unfoldable pub if_rest : Bool → Bool → Parser StatementKind
    if_rest b c = do
      e ← tested
      y ← stmt b c
      n ← else_part b c
      pure (k.If e y n)

    unfoldable pub while_rest : Parser StatementKind
    while_rest = do
      e ← tested
      y ← stmt true true
      pure (k.While e y)

    unfoldable pub do_rest : Parser StatementKind
    do_rest = do
      y ← stmt true true
      expect (want.Keyword w.While)
      e ← tested
      closing m.Semicolon
      pure (k.Do y e)

    unfoldable pub for_rest : Parser StatementKind
    for_rest = do
      closing m.LeftParen
      x ← for_first
      e ← given m.Semicolon
      closing m.Semicolon
      s ← given m.RightParen
      closing m.RightParen
      y ← stmt true true
      pure (k.For x e s y)

    unfoldable pub a_group : Bool → Parser Group
    a_group c = do
      l ← a_label
      ls ← all_many a_label label_next
      y ← stmt true c
      ys ← all_many (stmt true c) runs_on
      pure (group (l ∷ ls) (y ∷ ys))

    unfoldable pub switch_rest : Bool → Parser StatementKind
    switch_rest c = do
      e ← tested
      closing m.LeftBrace
      gs ← all_many (a_group c) unclosed
      closing m.RightBrace
      pure (k.Switch e gs)

    unfoldable pub return_rest : Parser StatementKind
    return_rest = do
      e ← given m.Semicolon
      closing m.Semicolon
      pure (k.Return e)

    unfoldable pub timely_rest : Bool → Bool → Parser StatementKind
    timely_rest b c = do
      x ← timed
      y ← stmt b c
      n ← else_part b c
      pure (k.Timely x.0 x.1 y n)

    unfoldable pub expires_rest : Bool → Bool → Parser StatementKind
    expires_rest b c = do
      closing m.LeftParen
      names ← all_commas tname
      closing m.RightParen
      body ← a_compound b c
      catch_word
      caught ← a_compound b c
      pure (k.Expires names body caught)

    unfoldable pub stamped_rest : Expr → Parser StatementKind
    stamped_rest place = do
      value ← expr d assign_rank
      closing m.Semicolon
      pure (k.Stamped place value)

    unfoldable pub stamped : Expr → Parser StatementKind
    stamped place = λ ts. if nat_le conditional_rank (rank place) then stamped_rest place ts else None

    unfoldable pub plain : Option Expr → Parser StatementKind
    plain e = do
      closing m.Semicolon
      pure (k.Expr e)

    unfoldable pub after_expression : Expr → Parser StatementKind
    after_expression e = do
      is_stamp ← take_if (want.Note note.StampedAssign)
      if is_stamp then stamped e else plain (Some e)

    unfoldable pub begun_by_expr : Parser StatementKind
    begun_by_expr = do
      e ← expr d comma_rank
      after_expression e

    unfoldable pub expression : Parser StatementKind
    expression = λ ts. if mark_next m.Semicolon ts then plain None ts else begun_by_expr ts

    -- by the first token, from all of them or from those behind it
    abbrev pub form_by : Bool → Bool → TokenKind → Tokens → Parser StatementKind
    form_by b c (Mark m.LeftBrace) ts = compound_form b c
    form_by b c (Keyword w.If) ts = if_rest b c
    form_by b c (Keyword w.While) ts = while_rest
    form_by b c (Keyword w.Do) ts = do_rest
    form_by b c (Keyword w.For) ts = for_rest
    form_by b c (Keyword w.Switch) ts = switch_rest c
    form_by b c (Keyword w.Break) ts = break_rest b
    form_by b c (Keyword w.Continue) ts = continue_rest c
    form_by b c (Keyword w.Return) ts = return_rest
    form_by b c (Note note.Timely) ts = timely_rest b c
    form_by b c (Note note.Expires) ts = expires_rest b c
    form_by b c _ ts = λ behind. expression ts

    unfoldable pub form : Bool → Bool → Parser StatementKind
    form b c [] = None
    form b c (t ∷ ts) = form_by b c t.kind (t ∷ ts) ts

    unfoldable pub formed : Bool → Bool → Parser Statement
    formed b c = λ ts. and_then (form b c ts) (λ kind. pure (record { kind = kind; line = line_at ts }))

-- of this height at most
unfoldable pub statement : ℕ → Bool → Bool → Parser Statement
statement zero b c = refuse
statement (suc d) b c = formed d (statement d) b c
