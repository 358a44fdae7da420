-- What the tables of operators keep.
use Rattle.std.proofs.Common.{◌≡◌, ℕ, ◌+◌, ◌<◌, ◌≤◌, max, [], ◌∷◌, Option, Some, None, refl, arith, ◌⊎◌, inl}
use Rattle.base16.specs.declared.operator.BinaryOp.{BinaryOp}
use Rattle.base16.specs.declared.operator.BinaryOp.TheVariants as op
use Rattle.base16.specs.declared.operator.UnaryOp.TheVariants as un
use Rattle.c_lex.specs.declared.token.Mark.{Mark as AMark}
use Rattle.c_lex.specs.declared.token.Mark.TheVariants as m
use Rattle.c_lex.specs.declared.token.TokenKind.{TokenKind}
use Rattle.c_lex.specs.declared.token.TokenKind.TheVariants.{Mark}
use Rattle.c_tree.specs.declared.expression.Expr.{Expr}
use Rattle.c_tree.specs.Measure.{expr_height, expr_kind_measure}
use Rattle.c_tree.proofs.ExprMeasures as measure
use Rattle.c_parse_expr.specs.Ranks.{unary_rank, rank_of, level}
use Rattle.c_parse_expr.specs.Tables.{Prefix, prefix, mark_prefix, Joint, joint, mark_joint, binary, assigning}
use Rattle.c_parse_expr.specs.TypeWords.{Tokens}
use Rattle.c_parse_expr.specs.Reading as r
use Rattle.c_parse_expr.proofs.RankOf as ranks

-- ---- the table of what goes on with an expression: how tightly it binds, and how tightly what stands before it has to bind

pub data Tabled : ℕ → ℕ → Type 0 where
  outside : Tabled 0 0
  commas : Tabled 1 1
  assigns : Tabled 2 3
  asks : Tabled 3 4
  operates : {p : ℕ} → 4 ≤ p → p ≤ 13 → Tabled p p
  applies : Tabled 16 16

operator_tabled : (op : BinaryOp) → Tabled (level op) (level op)
operator_tabled op = let w = ranks.level_within op in operates (omega arith) (omega arith)

mark_tabled : (x : AMark) → Tabled (r.reach_of (Mark x)) (r.need_of (Mark x))
mark_tabled m.Question = asks
mark_tabled m.LeftParen = applies
mark_tabled m.LeftBracket = applies
mark_tabled m.Dot = applies
mark_tabled m.Arrow = applies
mark_tabled m.PlusPlus = applies
mark_tabled m.MinusMinus = applies
mark_tabled m.Comma = commas
mark_tabled m.OrOr = operates (omega arith) (omega arith)
mark_tabled m.AndAnd = operates (omega arith) (omega arith)
mark_tabled m.Bar = operator_tabled op.Or
mark_tabled m.Caret = operator_tabled op.Xor
mark_tabled m.Ampersand = operator_tabled op.And
mark_tabled m.EqualEqual = operator_tabled op.Equal
mark_tabled m.NotEqual = operator_tabled op.NotEqual
mark_tabled m.Less = operator_tabled op.Less
mark_tabled m.Greater = operator_tabled op.Greater
mark_tabled m.LessEqual = operator_tabled op.LessEq
mark_tabled m.GreaterEqual = operator_tabled op.GreaterEq
mark_tabled m.ShiftLeft = operator_tabled op.Shl
mark_tabled m.ShiftRight = operator_tabled op.Shr
mark_tabled m.Plus = operator_tabled op.Add
mark_tabled m.Minus = operator_tabled op.Sub
mark_tabled m.Star = operator_tabled op.Mul
mark_tabled m.Slash = operator_tabled op.Div
mark_tabled m.Percent = operator_tabled op.Rem
mark_tabled m.Assign = assigns
mark_tabled m.StarAssign = assigns
mark_tabled m.SlashAssign = assigns
mark_tabled m.PercentAssign = assigns
mark_tabled m.PlusAssign = assigns
mark_tabled m.MinusAssign = assigns
mark_tabled m.ShiftLeftAssign = assigns
mark_tabled m.ShiftRightAssign = assigns
mark_tabled m.AmpersandAssign = assigns
mark_tabled m.CaretAssign = assigns
mark_tabled m.BarAssign = assigns
mark_tabled _ = outside

kind_tabled : (x : TokenKind) → Tabled (r.reach_of x) (r.need_of x)
kind_tabled (Mark x) = mark_tabled x
kind_tabled _ = outside

pub tabled : (ts : Tokens) → Tabled (r.reach ts) (r.need ts)
unfolding r.reach r.need
tabled [] = outside
tabled (t ∷ ts) = kind_tabled t.kind

pub tabled_up : {x y : ℕ} → Tabled x y → x ≤ y
tabled_up outside = omega arith
tabled_up commas = omega arith
tabled_up assigns = omega arith
tabled_up asks = omega arith
tabled_up (operates a b) = omega arith
tabled_up applies = omega arith

-- where something of rank p may end: what comes next does not go on with it, or wants what binds as loosely as p
abbrev pub Ends : ℕ → Tokens → Type 0
Ends p rest = (r.reach rest < p) ⊎ (r.need rest ≤ p)

-- there an operand on its right ends too: behind a binary operator, in `x = y` and `x ? y : z`, and behind `-` or a cast
pub right_binary : {x y : ℕ} (p : ℕ) → Tabled x y → (x < p) ⊎ (y ≤ p) → x < p + 1
right_binary p outside h = omega arith
right_binary p commas h = omega arith
right_binary p assigns h = omega arith
right_binary p asks h = omega arith
right_binary p (operates a b) h = omega arith
right_binary p applies h = omega arith

pub right_same : {x y : ℕ} (p : ℕ) → Tabled x y → (p ≡ 2) ⊎ (p ≡ 3) → (x < p) ⊎ (y ≤ p) → x < p
right_same p outside c h = omega arith
right_same p commas c h = omega arith
right_same p assigns c h = omega arith
right_same p asks c h = omega arith
right_same p (operates a b) c h = omega arith
right_same p applies c h = omega arith

pub right_tight : {x y : ℕ} (p : ℕ) → Tabled x y → (p ≡ 14) ⊎ (p ≡ 15) → (x < p) ⊎ (y ≤ p) → x < 14
right_tight p outside c h = omega arith
right_tight p commas c h = omega arith
right_tight p assigns c h = omega arith
right_tight p asks c h = omega arith
right_tight p (operates a b) c h = omega arith
right_tight p applies c h = omega arith

-- what the table of operators keeps, operator by operator
pub record Ranked (j : Joint) (l r : Expr) : Type 0 where
  pub rank : rank_of (j.make l r) ≡ j.rank
  pub height : expr_kind_measure max (j.make l r) ≡ max (expr_height l) (max (expr_height r) 0) + 1

pub data IsJoint : Option Joint → Type 0 where
  no_joint : IsJoint None
  is_joint : {j : Joint} → 0 < j.right → ((x y : ℕ) → Tabled x y → (x < j.rank) ⊎ (y ≤ j.rank) → x < j.right) → ((l r : Expr) → Ranked j l r) → IsJoint (Some j)

binary_ranked : (op : BinaryOp) → IsJoint (binary op)
binary_ranked op = is_joint (omega arith) (λ x y. right_binary (level op)) (λ l r. record { rank = ranks.rank-Binary l op r; height = measure.measure-Binary max l op r })

assigning_ranked : (op : Option BinaryOp) → IsJoint (assigning op)
assigning_ranked op = is_joint (omega arith) (λ x y t. right_same 2 t (inl refl)) (λ l r. record { rank = ranks.rank-Assign l op r; height = measure.measure-Assign max l op r })

mark_joints : (x : AMark) → IsJoint (mark_joint x)
mark_joints m.Comma = is_joint (omega arith) (λ x y. right_binary 1) (λ l r. record { rank = ranks.rank-Comma l r; height = measure.measure-Comma max l r })
mark_joints m.OrOr = is_joint (omega arith) (λ x y. right_binary 4) (λ l r. record { rank = ranks.rank-Or l r; height = measure.measure-Or max l r })
mark_joints m.AndAnd = is_joint (omega arith) (λ x y. right_binary 5) (λ l r. record { rank = ranks.rank-And l r; height = measure.measure-And max l r })
mark_joints m.Bar = binary_ranked op.Or
mark_joints m.Caret = binary_ranked op.Xor
mark_joints m.Ampersand = binary_ranked op.And
mark_joints m.EqualEqual = binary_ranked op.Equal
mark_joints m.NotEqual = binary_ranked op.NotEqual
mark_joints m.Less = binary_ranked op.Less
mark_joints m.Greater = binary_ranked op.Greater
mark_joints m.LessEqual = binary_ranked op.LessEq
mark_joints m.GreaterEqual = binary_ranked op.GreaterEq
mark_joints m.ShiftLeft = binary_ranked op.Shl
mark_joints m.ShiftRight = binary_ranked op.Shr
mark_joints m.Plus = binary_ranked op.Add
mark_joints m.Minus = binary_ranked op.Sub
mark_joints m.Star = binary_ranked op.Mul
mark_joints m.Slash = binary_ranked op.Div
mark_joints m.Percent = binary_ranked op.Rem
mark_joints m.Assign = assigning_ranked None
mark_joints m.StarAssign = assigning_ranked (Some op.Mul)
mark_joints m.SlashAssign = assigning_ranked (Some op.Div)
mark_joints m.PercentAssign = assigning_ranked (Some op.Rem)
mark_joints m.PlusAssign = assigning_ranked (Some op.Add)
mark_joints m.MinusAssign = assigning_ranked (Some op.Sub)
mark_joints m.ShiftLeftAssign = assigning_ranked (Some op.Shl)
mark_joints m.ShiftRightAssign = assigning_ranked (Some op.Shr)
mark_joints m.AmpersandAssign = assigning_ranked (Some op.And)
mark_joints m.CaretAssign = assigning_ranked (Some op.Xor)
mark_joints m.BarAssign = assigning_ranked (Some op.Or)
mark_joints _ = no_joint

pub are_joints : (x : TokenKind) → IsJoint (joint x)
are_joints (Mark x) = mark_joints x
are_joints _ = no_joint

-- what stands before an operand
pub record Fixed (p : Prefix) (e : Expr) : Type 0 where
  pub rank : rank_of (p.make e) ≡ unary_rank
  pub height : expr_kind_measure max (p.make e) ≡ max (expr_height e) 0 + 1

pub data IsPrefix : Option Prefix → Type 0 where
  no_prefix : IsPrefix None
  is_prefix : {p : Prefix} → 14 ≤ p.operand → ((e : Expr) → Fixed p e) → IsPrefix (Some p)

mark_prefixes : (x : AMark) → IsPrefix (mark_prefix x)
mark_prefixes m.PlusPlus = is_prefix (omega arith) (λ e. record { rank = ranks.rank-PreIncrement e; height = measure.measure-PreIncrement max e })
mark_prefixes m.MinusMinus = is_prefix (omega arith) (λ e. record { rank = ranks.rank-PreDecrement e; height = measure.measure-PreDecrement max e })
mark_prefixes m.Ampersand = is_prefix (omega arith) (λ e. record { rank = ranks.rank-AddressOf e; height = measure.measure-AddressOf max e })
mark_prefixes m.Star = is_prefix (omega arith) (λ e. record { rank = ranks.rank-Deref e; height = measure.measure-Deref max e })
mark_prefixes m.Plus = is_prefix (omega arith) (λ e. record { rank = ranks.rank-Unary un.Plus e; height = measure.measure-Unary max un.Plus e })
mark_prefixes m.Minus = is_prefix (omega arith) (λ e. record { rank = ranks.rank-Unary un.Minus e; height = measure.measure-Unary max un.Minus e })
mark_prefixes m.Tilde = is_prefix (omega arith) (λ e. record { rank = ranks.rank-Unary un.Complement e; height = measure.measure-Unary max un.Complement e })
mark_prefixes m.Exclamation = is_prefix (omega arith) (λ e. record { rank = ranks.rank-Unary un.Not e; height = measure.measure-Unary max un.Not e })
mark_prefixes _ = no_prefix

pub are_prefixes : (x : TokenKind) → IsPrefix (prefix x)
are_prefixes (Mark x) = mark_prefixes x
are_prefixes _ = no_prefix
