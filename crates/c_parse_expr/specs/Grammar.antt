-- Which tokens spell an expression: a case for each rule of the grammar. `Spells e ts rest` says that e is what stands in
-- ts before rest. A rule's name in the grammar is a least rank here.
use Rattle.std.specs.Prelude.{◌≡◌, ℕ, ◌≤◌, Bool, List, [], ◌∷◌, Some}
use Rattle.c_lex.specs.declared.token.Token.{Token}
use Rattle.c_lex.specs.declared.token.TokenKind.TheVariants.{Word, Number, Char, Keyword, Mark}
use Rattle.c_lex.specs.declared.token.Keyword.TheVariants as w
use Rattle.c_lex.specs.declared.token.Mark.TheVariants as m
use Rattle.c_tree.specs.declared.qualified.Qual.{Qual}
use Rattle.c_tree.specs.declared.qualified.Spec.{Spec}
use Rattle.c_tree.specs.declared.expression.Expr.{Expr}
use Rattle.c_tree.specs.declared.expression.ExprKind.{ExprKind}
use Rattle.c_tree.specs.declared.expression.ExprKind.TheVariants as k
use Rattle.c_tree.specs.declared.expression.Typename.{Typename, roll-Typename}
use Rattle.c_parse_expr.specs.Ranks.{assign_rank, conditional_rank, or_rank, cast_rank, unary_rank, postfix_rank, rank}
use Rattle.c_parse_expr.specs.Tables.{Prefix, prefix, Joint, joint}
use Rattle.c_parse_expr.specs.TypeWords.{Tokens, line_at, SpellsSpec, SpellsStars}

-- each node has the line of its first token
abbrev pub node : ExprKind → Tokens → Expr
node kind ts = record { kind = kind; line = line_at ts }

abbrev pub typename : Spec → List (List Qual) → List Expr → Typename
typename spec stars bounds = roll-Typename (record { spec = spec; stars = stars; bounds = bounds })

mutual
  pub data Spells : Expr → Tokens → Tokens → Type 0 where
    begun : {kind : ExprKind} {ts rest : Tokens} → Begins kind ts rest → Spells (node kind ts) ts rest
    gone_on : {e : Expr} {kind : ExprKind} {ts others rest : Tokens} → Spells e ts others → GoesOn e kind others rest → Spells (node kind ts) ts rest

  -- what begins with a token of its own
  pub data Begins : ExprKind → Tokens → Tokens → Type 0 where
    name : {t : Token} {n : List ℕ} {rest : Tokens} → t.kind ≡ Word n → Begins (k.Name n) (t ∷ rest) rest
    number : {t : Token} {n : ℕ} {decimal suffixed : Bool} {rest : Tokens} → t.kind ≡ Number n decimal suffixed
        → Begins (k.Number n decimal suffixed) (t ∷ rest) rest
    character : {t : Token} {n : ℕ} {rest : Tokens} → t.kind ≡ Char n → Begins (k.Char n) (t ∷ rest) rest
    paren : {t u : Token} {e : Expr} {ts rest : Tokens} → t.kind ≡ Mark m.LeftParen → Spells e ts (u ∷ rest) → u.kind ≡ Mark m.RightParen
        → Begins (k.Paren e) (t ∷ ts) rest
    cast : {t u : Token} {ty : Typename} {e : Expr} {ts mid rest : Tokens} → t.kind ≡ Mark m.LeftParen → NamesType ty ts (u ∷ mid)
        → u.kind ≡ Mark m.RightParen → Spells e mid rest → cast_rank ≤ rank e → Begins (k.Cast ty e) (t ∷ ts) rest
    prefixed : {t : Token} {p : Prefix} {e : Expr} {ts rest : Tokens} → prefix t.kind ≡ Some p → Spells e ts rest → p.operand ≤ rank e
        → Begins (p.make e) (t ∷ ts) rest
    sizeof_expr : {t : Token} {e : Expr} {ts rest : Tokens} → t.kind ≡ Keyword w.Sizeof → Spells e ts rest → unary_rank ≤ rank e
        → Begins (k.SizeofExpr e) (t ∷ ts) rest
    sizeof_type : {t u v : Token} {ty : Typename} {ts rest : Tokens} → t.kind ≡ Keyword w.Sizeof → u.kind ≡ Mark m.LeftParen
        → NamesType ty ts (v ∷ rest) → v.kind ≡ Mark m.RightParen → Begins (k.SizeofType ty) (t ∷ u ∷ ts) rest

  -- what begins with an expression
  pub data GoesOn : Expr → ExprKind → Tokens → Tokens → Type 0 where
    joined : {l r : Expr} {t : Token} {j : Joint} {ts rest : Tokens} → joint t.kind ≡ Some j → j.left ≤ rank l → Spells r ts rest → j.right ≤ rank r
        → GoesOn l (j.make l r) (t ∷ ts) rest
    conditional : {test then other : Expr} {t u : Token} {ts mid rest : Tokens} → t.kind ≡ Mark m.Question → or_rank ≤ rank test → Spells then ts (u ∷ mid)
        → u.kind ≡ Mark m.Colon → Spells other mid rest → conditional_rank ≤ rank other → GoesOn test (k.Conditional test then other) (t ∷ ts) rest
    index : {e at : Expr} {t u : Token} {ts rest : Tokens} → t.kind ≡ Mark m.LeftBracket → postfix_rank ≤ rank e → Spells at ts (u ∷ rest)
        → u.kind ≡ Mark m.RightBracket → GoesOn e (k.Index e at) (t ∷ ts) rest
    call : {f : Expr} {args : List Expr} {t : Token} {ts rest : Tokens} → t.kind ≡ Mark m.LeftParen → postfix_rank ≤ rank f → SpellsArguments args ts rest
        → GoesOn f (k.Call f args) (t ∷ ts) rest
    member : {e : Expr} {n : List ℕ} {t u : Token} {rest : Tokens} → t.kind ≡ Mark m.Dot → postfix_rank ≤ rank e → u.kind ≡ Word n
        → GoesOn e (k.Member e n) (t ∷ u ∷ rest) rest
    arrow : {e : Expr} {n : List ℕ} {t u : Token} {rest : Tokens} → t.kind ≡ Mark m.Arrow → postfix_rank ≤ rank e → u.kind ≡ Word n
        → GoesOn e (k.Arrow e n) (t ∷ u ∷ rest) rest
    increment : {e : Expr} {t : Token} {rest : Tokens} → t.kind ≡ Mark m.PlusPlus → postfix_rank ≤ rank e → GoesOn e (k.PostIncrement e) (t ∷ rest) rest
    decrement : {e : Expr} {t : Token} {rest : Tokens} → t.kind ≡ Mark m.MinusMinus → postfix_rank ≤ rank e → GoesOn e (k.PostDecrement e) (t ∷ rest) rest

  -- arguments, and the parenthesis behind them
  pub data SpellsArguments : List Expr → Tokens → Tokens → Type 0 where
    none : {t : Token} {rest : Tokens} → t.kind ≡ Mark m.RightParen → SpellsArguments [] (t ∷ rest) rest
    some : {args : List Expr} {t : Token} {ts rest : Tokens} → SpellsList args ts (t ∷ rest) → t.kind ≡ Mark m.RightParen → SpellsArguments args ts rest

  -- one or more, with commas between
  pub data SpellsList : List Expr → Tokens → Tokens → Type 0 where
    last : {e : Expr} {ts rest : Tokens} → Spells e ts rest → assign_rank ≤ rank e → SpellsList (e ∷ []) ts rest
    further : {e : Expr} {es : List Expr} {t : Token} {ts others rest : Tokens} → Spells e ts (t ∷ others) → assign_rank ≤ rank e → t.kind ≡ Mark m.Comma
        → SpellsList es others rest → SpellsList (e ∷ es) ts rest

  -- the name of a type
  pub data NamesType : Typename → Tokens → Tokens → Type 0 where
    names : {spec : Spec} {stars : List (List Qual)} {bounds : List Expr} {ts mid others rest : Tokens} → SpellsSpec spec ts mid → SpellsStars stars mid others
        → SpellsBounds bounds others rest → NamesType (typename spec stars bounds) ts rest

  -- the sizes of arrays, in brackets
  pub data SpellsBounds : List Expr → Tokens → Tokens → Type 0 where
    no_bound : {ts : Tokens} → SpellsBounds [] ts ts
    a_bound : {e : Expr} {es : List Expr} {t u : Token} {ts mid rest : Tokens} → t.kind ≡ Mark m.LeftBracket → Spells e ts (u ∷ mid) → conditional_rank ≤ rank e
        → u.kind ≡ Mark m.RightBracket → SpellsBounds es mid rest → SpellsBounds (e ∷ es) (t ∷ ts) rest
