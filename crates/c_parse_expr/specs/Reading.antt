-- What the parser answers for an expression: the expression in front and the tokens behind it.
use Rattle.std.specs.Prelude.{ℕ, zero, suc, Bool, false, ◌&&◌, if◌then◌else◌, nat_le, List, [], ◌∷◌, ◌++◌, length, Option, Some, None}
use Rattle.c_lex.specs.declared.token.TokenKind.{TokenKind}
use Rattle.c_lex.specs.declared.token.TokenKind.TheVariants.{Word, Number, Char, Keyword, Mark}
use Rattle.c_lex.specs.declared.token.Keyword.TheVariants as w
use Rattle.c_lex.specs.declared.token.Mark.TheVariants as m
use Rattle.c_tree.specs.declared.expression.Expr.{Expr}
use Rattle.c_tree.specs.declared.expression.ExprKind.{ExprKind}
use Rattle.c_tree.specs.declared.expression.ExprKind.TheVariants as k
use Rattle.c_tree.specs.declared.expression.Typename.{Typename}
use Rattle.c_tree.specs.Measure.{expr_height}
use Rattle.c_parse_expr.specs.declared.wanted.Wanted.TheVariants as want
use Rattle.c_parse_expr.specs.Expected.{fits}
use Rattle.c_parse_expr.specs.Ranks.{comma_rank, assign_rank, conditional_rank, or_rank, cast_rank, unary_rank, postfix_rank, rank}
use Rattle.c_parse_expr.specs.Tables.{Prefix, prefix, Joint, joint}
use Rattle.c_parse_expr.specs.TypeWords.{Tokens, line_at}
use Rattle.c_parse_expr.specs.Grammar.{typename}
use Rattle.c_parse_expr.specs.Steps.{Parser, ◌>>=◌, ◌>>◌, pure, refuse, eat, closing, word}
use Rattle.c_parse_expr.specs.TypeReading.{spec, all_stars, names_type}

-- ---- how tightly the next token binds what stands before it, and how tightly that has to bind; 0 if it does not go on

abbrev pub joint_reach : Option Joint → ℕ
joint_reach None = 0
joint_reach (Some j) = j.rank

abbrev pub joint_need : Option Joint → ℕ
joint_need None = 0
joint_need (Some j) = j.left

abbrev pub reach_of : TokenKind → ℕ
reach_of (Mark m.Question) = conditional_rank
reach_of (Mark m.LeftParen) = postfix_rank
reach_of (Mark m.LeftBracket) = postfix_rank
reach_of (Mark m.Dot) = postfix_rank
reach_of (Mark m.Arrow) = postfix_rank
reach_of (Mark m.PlusPlus) = postfix_rank
reach_of (Mark m.MinusMinus) = postfix_rank
reach_of t = joint_reach (joint t)

abbrev pub need_of : TokenKind → ℕ
need_of (Mark m.Question) = or_rank
need_of (Mark m.LeftParen) = postfix_rank
need_of (Mark m.LeftBracket) = postfix_rank
need_of (Mark m.Dot) = postfix_rank
need_of (Mark m.Arrow) = postfix_rank
need_of (Mark m.PlusPlus) = postfix_rank
need_of (Mark m.MinusMinus) = postfix_rank
need_of t = joint_need (joint t)

unfoldable pub reach : Tokens → ℕ
reach [] = 0
reach (t ∷ _) = reach_of t.kind

unfoldable pub need : Tokens → ℕ
need [] = 0
need (t ∷ _) = need_of t.kind

-- ---- expressions. The number is the least rank.

abbrev pub goes_on : ℕ → Expr → Tokens → Bool
goes_on least e ts = nat_le least (reach ts) && nat_le (need ts) (rank e)

-- a tree that is no higher than allowed
abbrev pub within : ℕ → Expr → Parser Expr
within d e = λ ts. if nat_le (expr_height e) d then Some (e, ts) else None

abbrev pub at_line : ℕ → ExprKind → Expr
at_line line kind = record { kind = kind; line = line }

-- whether a type comes next
abbrev pub type_next : Tokens → Bool
type_next [] = false
type_next (t ∷ _) = names_type t.kind

-- whether a parenthesis and a type come next
abbrev pub type_enclosed : Tokens → Bool
type_enclosed [] = false
type_enclosed (t ∷ ts) = fits (want.Mark m.LeftParen) t.kind && type_next ts

module _ (expr : ℕ → Parser Expr) where
  unfoldable pub listed : ℕ → List Expr → Parser (List Expr)
  listed zero found = refuse
  listed (suc n) found = do
    e ← expr assign_rank
    more ← eat m.Comma
    if more then listed n (found ++ e ∷ []) else pure (found ++ e ∷ [])

  -- one or more, with commas between. Each turn takes a token, so their count is enough.
  unfoldable pub all_listed : Parser (List Expr)
  all_listed = λ ts. listed (length ts) [] ts

  unfoldable pub some_arguments : Parser (List Expr)
  some_arguments = do
    args ← all_listed
    closing m.RightParen
    pure args

  unfoldable pub arguments : Parser (List Expr)
  arguments = do
    is_empty ← eat m.RightParen
    if is_empty then pure [] else some_arguments

  -- the size of an array, behind the bracket that opens
  unfoldable pub bound : Parser Expr
  bound = do
    e ← expr conditional_rank
    closing m.RightBracket
    pure e

  unfoldable pub bounds : ℕ → List Expr → Parser (List Expr)
  bounds zero found = pure found
  bounds (suc n) found = do
    is_bound ← eat m.LeftBracket
    if is_bound then (bound >>= λ e. bounds n (found ++ e ∷ [])) else pure found

  unfoldable pub all_bounds : Parser (List Expr)
  all_bounds = λ ts. bounds (length ts) [] ts

  unfoldable pub type_name : Parser Typename
  type_name = do
    s ← spec
    stars ← all_stars
    sizes ← all_bounds
    pure (typename s stars sizes)

  -- ---- behind the token that an expression begins with
  unfoldable pub paren : Parser ExprKind
  paren = do
    e ← expr comma_rank
    closing m.RightParen
    pure (k.Paren e)

  unfoldable pub cast : Parser ExprKind
  cast = do
    ty ← type_name
    closing m.RightParen
    e ← expr cast_rank
    pure (k.Cast ty e)

  -- a type or an expression, by the first token
  unfoldable pub paren_or_cast : Parser ExprKind
  paren_or_cast = λ ts. if type_next ts then cast ts else paren ts

  unfoldable pub sizeof_type : Parser ExprKind
  sizeof_type = do
    closing m.LeftParen
    ty ← type_name
    closing m.RightParen
    pure (k.SizeofType ty)

  unfoldable pub sizeof_expr : Parser ExprKind
  sizeof_expr = do
    e ← expr unary_rank
    pure (k.SizeofExpr e)

  unfoldable pub size : Parser ExprKind
  size = λ ts. if type_enclosed ts then sizeof_type ts else sizeof_expr ts

  unfoldable pub prefixed : Option Prefix → Parser ExprKind
  prefixed None = refuse
  prefixed (Some p) = do
    e ← expr p.operand
    pure (p.make e)

  -- the token that it begins with is taken already
  abbrev pub begin_by : TokenKind → Parser ExprKind
  begin_by (Word n) = pure (k.Name n)
  begin_by (Number n decimal suffixed) = pure (k.Number n decimal suffixed)
  begin_by (Char n) = pure (k.Char n)
  begin_by (Keyword w.Sizeof) = size
  begin_by (Mark m.LeftParen) = paren_or_cast
  begin_by t = prefixed (prefix t)

  unfoldable pub begin : Parser ExprKind
  begin [] = None
  begin (t ∷ ts) = begin_by t.kind ts

  -- ---- behind an expression and the token that goes on with it
  unfoldable pub joined : Expr → Option Joint → Parser ExprKind
  joined l None = refuse
  joined l (Some j) = do
    r ← expr j.right
    pure (j.make l r)

  unfoldable pub conditional : Expr → Parser ExprKind
  conditional test = do
    then_e ← expr comma_rank
    closing m.Colon
    else_e ← expr conditional_rank
    pure (k.Conditional test then_e else_e)

  unfoldable pub index : Expr → Parser ExprKind
  index e = do
    at ← expr comma_rank
    closing m.RightBracket
    pure (k.Index e at)

  unfoldable pub call : Expr → Parser ExprKind
  call f = do
    args ← arguments
    pure (k.Call f args)

  unfoldable pub member : Expr → Parser ExprKind
  member e = do
    n ← word
    pure (k.Member e n)

  unfoldable pub arrow : Expr → Parser ExprKind
  arrow e = do
    n ← word
    pure (k.Arrow e n)

  abbrev pub go_on_by : Expr → TokenKind → Parser ExprKind
  go_on_by e (Mark m.Question) = conditional e
  go_on_by e (Mark m.LeftParen) = call e
  go_on_by e (Mark m.LeftBracket) = index e
  go_on_by e (Mark m.Dot) = member e
  go_on_by e (Mark m.Arrow) = arrow e
  go_on_by e (Mark m.PlusPlus) = pure (k.PostIncrement e)
  go_on_by e (Mark m.MinusMinus) = pure (k.PostDecrement e)
  go_on_by e t = joined e (joint t)

  unfoldable pub go_on : Expr → Parser ExprKind
  go_on e [] = None
  go_on e (t ∷ ts) = go_on_by e t.kind ts

  -- e with what follows it, as one node
  unfoldable pub grow : (top line : ℕ) → Expr → Parser Expr
  grow top line e = do
    kind ← go_on e
    within top (at_line line kind)

  -- goes on with what may follow e, for n turns at most
  unfoldable pub climb : (top least line : ℕ) → ℕ → Expr → Parser Expr
  climb top least line zero e = pure e
  climb top least line (suc n) e = λ ts. if goes_on least e ts then (grow top line e >>= climb top least line n) ts else Some (e, ts)

  abbrev pub binding : ℕ → Expr → Parser Expr
  binding least e = λ ts. if nat_le least (rank e) then Some (e, ts) else None

  unfoldable pub first : (least line : ℕ) → Parser Expr
  first least line = do
    kind ← begin
    binding least (at_line line kind)

  -- an expression of height top at most
  unfoldable pub tree : (top least : ℕ) → Parser Expr
  tree top least = λ ts. (first least (line_at ts) >>= climb top least (line_at ts) top) ts

-- an expression of this height at most
unfoldable pub expr : ℕ → ℕ → Parser Expr
expr zero least = refuse
expr (suc d) least = tree (expr d) (suc d) least
