-- What is read is spelled.
use Rattle.std.proofs.Common.{◌≡◌, ℕ, zero, suc, ◌≤◌, Bool, true, false, ◌&&◌, List, [], ◌∷◌, ◌++◌, max, length, Option, Some, None, refl, sym, ap, ◌∙◌, append_assoc, append-nil, subst, arith, rules, cond, nat_le}
use Rattle.std.proofs.lemmas.Bool.{leb-true}
use Rattle.c_lex.specs.declared.token.Token.{Token}
use Rattle.c_lex.specs.declared.token.TokenKind.{TokenKind}
use Rattle.c_lex.specs.declared.token.TokenKind.TheVariants.{Word, Number, Char, Keyword, Mark}
use Rattle.c_lex.specs.declared.token.Keyword.TheVariants as w
use Rattle.c_lex.specs.declared.token.Mark.TheVariants as m
use Rattle.c_tree.specs.declared.qualified.Qual.{Qual}
use Rattle.c_tree.specs.declared.qualified.Spec.{Spec}
use Rattle.c_tree.specs.declared.expression.Expr.{Expr}
use Rattle.c_tree.specs.declared.expression.ExprKind.{ExprKind, the_lemmas}
use Rattle.c_tree.specs.declared.expression.ExprKind.TheVariants as k
use Rattle.c_tree.specs.declared.expression.Typename.{Typename}
use Rattle.c_tree.specs.Measure.{all, expr_height, expr_kind_measure, typename_measure}
use Rattle.c_tree.proofs.ExprMeasures as measure
use Rattle.c_parse_expr.specs.declared.wanted.Wanted.TheVariants as want
use Rattle.c_parse_expr.specs.Ranks.{assign_rank, conditional_rank, or_rank, cast_rank, unary_rank, postfix_rank, rank, rank_of}
use Rattle.c_parse_expr.specs.Tables.{Prefix, prefix, Joint, joint}
use Rattle.c_parse_expr.specs.TypeWords.{Tokens, line_at, SpellsSpec, SpellsStars}
use Rattle.c_parse_expr.specs.Grammar.{node, typename, Spells, begun, gone_on, Begins, name, number, character, paren, cast, prefixed, sizeof_expr, sizeof_type, GoesOn, joined, conditional, index, call, member, arrow, increment, decrement, SpellsArguments, none, some, SpellsList, last, further, NamesType, names, SpellsBounds, no_bound, a_bound}
use Rattle.c_parse_expr.specs.Steps.{Parser, pure}
use Rattle.c_parse_expr.specs.Reading as r
use Rattle.c_parse_expr.proofs.RankOf as ranks
use Rattle.c_parse_expr.proofs.Operators.{IsJoint, no_joint, is_joint, are_joints, IsPrefix, no_prefix, is_prefix, are_prefixes}
use Rattle.c_parse_expr.proofs.TypeSound.{spec_sound, all_stars_sound}
use Rattle.c_parse_expr.proofs.AfterSteps.{After, nothing, just, after_then, after_if, after_guard, after_branch, weaken, holds, Found, found_at, after_expect, Taken, taken, left, after_take, Worded, worded, after_word}

-- an expression of this rank at least and this height at most
pub record Reads (d n : ℕ) (e : Expr) (ts rest : Tokens) : Type 0 where
  pub spelled : Spells e ts rest
  pub binds : n ≤ rank e
  pub low : expr_height e ≤ d

pub record Begun (d : ℕ) (ts : Tokens) (kind : ExprKind) (rest : Tokens) : Type 0 where
  pub begins : Begins kind ts rest
  pub low : expr_kind_measure max kind ≤ d

pub typename_high : (spec : Spec) (stars : List (List Qual)) (bounds : List Expr) → typename_measure max (typename spec stars bounds) ≡ all max expr_height bounds
typename_high spec stars bounds = search (rules, the_lemmas)

both : (a b : Bool) → a && b ≡ true → (a ≡ true) × (b ≡ true)
both true b e = (refl, e)
both false b e = cc

module _ (rec : ℕ → Parser Expr) (d : ℕ) (sound : (n : ℕ) (ts : Tokens) → After (λ e rest. Reads d n e ts rest) (rec n ts)) where
  -- ---- lists
  record IsListed (found : List Expr) (ts : Tokens) (all_found : List Expr) (rest : Tokens) : Type 0 where
    es : List Expr
    is : all_found ≡ found ++ es
    listed : SpellsList es ts rest
    low : all max expr_height es ≤ d

  listed_more : {e : Expr} {found es : List Expr} {ts mid others rest : Tokens} → Reads d assign_rank e ts mid → Taken (want.Mark m.Comma) mid true others
      → IsListed (found ++ e ∷ []) others es rest → IsListed found ts es rest
  listed_more {e} {found} s (taken is) l = record {
    es = e ∷ l.es;
    is = l.is ∙ append_assoc found (e ∷ []) l.es;
    listed = further s.spelled s.binds is l.listed;
    low = omega (arith, s.low, l.low);
  }

  listed_last : {e : Expr} {found : List Expr} {ts mid rest : Tokens} → Reads d assign_rank e ts mid → Taken (want.Mark m.Comma) mid false rest
      → IsListed found ts (found ++ e ∷ []) rest
  listed_last {e} s left = record { es = e ∷ []; is = refl; listed = last s.spelled s.binds; low = omega (arith, s.low) }

  listed_turn : (n : ℕ) (found : List Expr) (e : Expr) {ts mid : Tokens} → Reads d assign_rank e ts mid → (b : Bool) (others : Tokens)
      → Taken (want.Mark m.Comma) mid b others → ((others : Tokens) → After (IsListed (found ++ e ∷ []) others) (r.listed rec n (found ++ e ∷ []) others))
      → After (IsListed found ts) (cond b (r.listed rec n (found ++ e ∷ [])) (pure (found ++ e ∷ [])) others)
  listed_turn n found e s true others is again = weaken (again others) (λ all rest l. listed_more s is l)
  listed_turn n found e s false others is again = just (listed_last s is)

  listed_sound : (n : ℕ) (found : List Expr) (ts : Tokens) → After (IsListed found ts) (r.listed rec n found ts)
  unfolding r.listed
  listed_sound zero found ts = nothing
  listed_sound (suc n) found ts = after_then (sound assign_rank ts) (λ e mid s. after_then (after_take (want.Mark m.Comma) mid) (λ b others is.
      listed_turn n found e s b others is (λ others. listed_sound n (found ++ e ∷ []) others)))

  record IsArguments (ts : Tokens) (args : List Expr) (rest : Tokens) : Type 0 where
    arguments : SpellsArguments args ts rest
    low : all max expr_height args ≤ d

  some_made : {ts mid rest : Tokens} {args : List Expr} → IsListed [] ts args mid → Found (want.Mark m.RightParen) mid rest → IsArguments ts args rest
  some_made {ts} {mid} {rest} {args} l (found_at is) = record {
    arguments = some (subst (λ z. SpellsList z ts mid) (sym l.is) l.listed) is;
    low = subst (λ z. all max expr_height z ≤ d) (sym l.is) l.low;
  }

  some_sound : (ts : Tokens) → After (IsArguments ts) (r.some_arguments rec ts)
  unfolding r.some_arguments r.all_listed
  some_sound ts = after_then (listed_sound (length ts) [] ts) (λ args mid l. after_then (after_expect (want.Mark m.RightParen) mid) (λ u rest is. just (some_made l is)))

  none_made : {ts rest : Tokens} → Found (want.Mark m.RightParen) ts rest → IsArguments ts [] rest
  none_made (found_at is) = record { arguments = none is; low = omega arith }

  arguments_sound : (ts : Tokens) → After (IsArguments ts) (r.arguments rec ts)
  unfolding r.arguments
  arguments_sound ts = after_branch (want.Mark m.RightParen) ts _ _ (λ rest f. just (none_made f)) (some_sound ts)

  -- ---- the sizes of arrays, and the names of types
  record IsBound (ts : Tokens) (e : Expr) (rest : Tokens) : Type 0 where
    before : Token
    spelled : Spells e ts (before ∷ rest)
    binds : conditional_rank ≤ rank e
    closes : before.kind ≡ Mark m.RightBracket
    low : expr_height e ≤ d

  bound_made : {e : Expr} {ts mid rest : Tokens} → Reads d conditional_rank e ts mid → Found (want.Mark m.RightBracket) mid rest → IsBound ts e rest
  bound_made s (found_at {t} is) = record { before = t; spelled = s.spelled; binds = s.binds; closes = is; low = s.low }

  bound_sound : (ts : Tokens) → After (IsBound ts) (r.bound rec ts)
  unfolding r.bound
  bound_sound ts = after_then (sound conditional_rank ts) (λ e mid s. after_then (after_expect (want.Mark m.RightBracket) mid) (λ u rest f. just (bound_made s f)))

  record IsBounds (found : List Expr) (ts : Tokens) (all_found : List Expr) (rest : Tokens) : Type 0 where
    es : List Expr
    is : all_found ≡ found ++ es
    bounds : SpellsBounds es ts rest
    low : all max expr_height es ≤ d

  bounds_none : (found : List Expr) (ts : Tokens) → IsBounds found ts found ts
  bounds_none found ts = record { es = []; is = sym (append-nil found); bounds = no_bound; low = omega arith }

  bounds_more : {e : Expr} {found es : List Expr} {ts mid others rest : Tokens} → Found (want.Mark m.LeftBracket) ts mid → IsBound mid e others
      → IsBounds (found ++ e ∷ []) others es rest → IsBounds found ts es rest
  bounds_more {e} {found} (found_at is) b x = record {
    es = e ∷ x.es;
    is = x.is ∙ append_assoc found (e ∷ []) x.es;
    bounds = a_bound is b.spelled b.binds b.closes x.bounds;
    low = omega (arith, b.low, x.low);
  }

  bounds_sound : (n : ℕ) (found : List Expr) (ts : Tokens) → After (IsBounds found ts) (r.bounds rec n found ts)
  unfolding r.bounds
  bounds_sound zero found ts = just (bounds_none found ts)
  bounds_sound (suc n) found ts = after_branch (want.Mark m.LeftBracket) ts _ _
      (λ mid f. after_then (bound_sound mid) (λ e others b. weaken (bounds_sound n (found ++ e ∷ []) others) (λ all rest x. bounds_more f b x)))
      (just (bounds_none found ts))

  pub record AllBounds (ts : Tokens) (es : List Expr) (rest : Tokens) : Type 0 where
    pub bounds : SpellsBounds es ts rest
    pub low : all max expr_height es ≤ d

  pub all_bounds_sound : (ts : Tokens) → After (AllBounds ts) (r.all_bounds rec ts)
  unfolding r.all_bounds
  all_bounds_sound ts = weaken (bounds_sound (length ts) [] ts) (λ es rest x. record {
    bounds = subst (λ z. SpellsBounds z ts rest) (sym x.is) x.bounds;
    low = subst (λ z. all max expr_height z ≤ d) (sym x.is) x.low;
  })

  record IsTypename (ts : Tokens) (ty : Typename) (rest : Tokens) : Type 0 where
    names : NamesType ty ts rest
    low : typename_measure max ty ≤ d

  typename_made : {s : Spec} {stars : List (List Qual)} {es : List Expr} {ts mid others rest : Tokens} → SpellsSpec s ts mid → SpellsStars stars mid others
      → AllBounds others es rest → IsTypename ts (typename s stars es) rest
  typename_made {s} {stars} {es} a b c = record { names = names a b c.bounds; low = omega (arith, typename_high s stars es, c.low) }

  typename_sound : (ts : Tokens) → After (IsTypename ts) (r.type_name rec ts)
  unfolding r.type_name
  typename_sound ts = after_then (spec_sound ts) (λ s mid a. after_then (all_stars_sound mid) (λ stars others b. after_then (all_bounds_sound others) (λ es rest c.
      just (typename_made a b c))))

  -- ---- what begins with a token of its own
  paren_made : {t : Token} {e : Expr} {ts mid rest : Tokens} → t.kind ≡ Mark m.LeftParen → Reads d 1 e ts mid → Found (want.Mark m.RightParen) mid rest
      → Begun (suc d) (t ∷ ts) (k.Paren e) rest
  paren_made {e} is s (found_at close) = record { begins = paren is s.spelled close; low = omega (arith, measure.measure-Paren max e, s.low) }

  paren_sound : (t : Token) (ts : Tokens) → t.kind ≡ Mark m.LeftParen → After (Begun (suc d) (t ∷ ts)) (r.paren rec ts)
  unfolding r.paren
  paren_sound t ts is = after_then (sound 1 ts) (λ e mid s. after_then (after_expect (want.Mark m.RightParen) mid) (λ u rest close. just (paren_made is s close)))

  cast_made : {t : Token} {ty : Typename} {e : Expr} {ts mid others rest : Tokens} → t.kind ≡ Mark m.LeftParen → IsTypename ts ty mid
      → Found (want.Mark m.RightParen) mid others → Reads d cast_rank e others rest → Begun (suc d) (t ∷ ts) (k.Cast ty e) rest
  cast_made {ty} {e} is a (found_at close) s = record {
    begins = cast is a.names close s.spelled s.binds;
    low = omega (arith, measure.measure-Cast max ty e, a.low, s.low);
  }

  cast_sound : (t : Token) (ts : Tokens) → t.kind ≡ Mark m.LeftParen → After (Begun (suc d) (t ∷ ts)) (r.cast rec ts)
  unfolding r.cast
  cast_sound t ts is = after_then (typename_sound ts) (λ ty mid a. after_then (after_expect (want.Mark m.RightParen) mid) (λ u others close.
      after_then (sound cast_rank others) (λ e rest s. just (cast_made is a close s))))

  paren_or_cast_sound : (t : Token) (ts : Tokens) → t.kind ≡ Mark m.LeftParen → After (Begun (suc d) (t ∷ ts)) (r.paren_or_cast rec ts)
  unfolding r.paren_or_cast
  paren_or_cast_sound t ts is = after_if (r.type_next ts) (λ h. cast_sound t ts is) (λ h. paren_sound t ts is)

  sizeof_type_made : {t : Token} {ty : Typename} {ts mid others rest : Tokens} → t.kind ≡ Keyword w.Sizeof → Found (want.Mark m.LeftParen) ts mid
      → IsTypename mid ty others → Found (want.Mark m.RightParen) others rest → Begun (suc d) (t ∷ ts) (k.SizeofType ty) rest
  sizeof_type_made {ty} is (found_at start) a (found_at close) = record {
    begins = sizeof_type is start a.names close;
    low = omega (arith, measure.measure-SizeofType max ty, a.low);
  }

  sizeof_type_sound : (t : Token) (ts : Tokens) → t.kind ≡ Keyword w.Sizeof → After (Begun (suc d) (t ∷ ts)) (r.sizeof_type rec ts)
  unfolding r.sizeof_type
  sizeof_type_sound t ts is = after_then (after_expect (want.Mark m.LeftParen) ts) (λ u mid start. after_then (typename_sound mid) (λ ty others a.
      after_then (after_expect (want.Mark m.RightParen) others) (λ v rest close. just (sizeof_type_made is start a close))))

  sizeof_expr_sound : (t : Token) (ts : Tokens) → t.kind ≡ Keyword w.Sizeof → After (Begun (suc d) (t ∷ ts)) (r.sizeof_expr rec ts)
  unfolding r.sizeof_expr
  sizeof_expr_sound t ts is = after_then (sound unary_rank ts) (λ e rest s. just (record {
    begins = sizeof_expr is s.spelled s.binds;
    low = omega (arith, measure.measure-SizeofExpr max e, s.low);
  }))

  size_sound : (t : Token) (ts : Tokens) → t.kind ≡ Keyword w.Sizeof → After (Begun (suc d) (t ∷ ts)) (r.size rec ts)
  unfolding r.size
  size_sound t ts is = after_if (r.type_enclosed ts) (λ h. sizeof_type_sound t ts is) (λ h. sizeof_expr_sound t ts is)

  prefixed_sound : (o : Option Prefix) (t : Token) (ts : Tokens) → prefix t.kind ≡ o → IsPrefix o → After (Begun (suc d) (t ∷ ts)) (r.prefixed rec o ts)
  unfolding r.prefixed
  prefixed_sound None t ts is no_prefix = nothing
  prefixed_sound (Some p) t ts is (is_prefix tight fixed) = after_then (sound p.operand ts) (λ e rest s. just (record {
    begins = prefixed is s.spelled s.binds;
    low = omega (arith, (fixed e).height, s.low);
  }))

  begin_by_sound : (t : Token) (ts : Tokens) (x : TokenKind) → t.kind ≡ x → After (Begun (suc d) (t ∷ ts)) (r.begin_by rec x ts)
  begin_by_sound t ts (Word n) is = just (record { begins = name is; low = omega (arith, measure.measure-Name max n) })
  begin_by_sound t ts (Number n a b) is = just (record { begins = number is; low = omega (arith, measure.measure-Number max n a b) })
  begin_by_sound t ts (Char n) is = just (record { begins = character is; low = omega (arith, measure.measure-Char max n) })
  begin_by_sound t ts (Keyword w.Sizeof) is = size_sound t ts is
  begin_by_sound t ts (Mark m.LeftParen) is = paren_or_cast_sound t ts is
  begin_by_sound t ts x is = prefixed_sound (prefix x) t ts (ap prefix is) (are_prefixes x)

  begin_sound : (ts : Tokens) → After (Begun (suc d) ts) (r.begin rec ts)
  unfolding r.begin
  begin_sound [] = nothing
  begin_sound (t ∷ ts) = begin_by_sound t ts t.kind refl

  -- ---- what goes on with an expression
  record Gone (n : ℕ) (e : Expr) (ts : Tokens) (kind : ExprKind) (rest : Tokens) : Type 0 where
    goes : GoesOn e kind ts rest
    binds : n ≤ rank_of kind

  joined_sound : (e : Expr) (t : Token) (ts : Tokens) (o : Option Joint) → joint t.kind ≡ o → IsJoint o → r.joint_need o ≤ rank e
      → After (Gone (r.joint_reach o) e (t ∷ ts)) (r.joined rec e o ts)
  unfolding r.joined
  joined_sound e t ts None is no_joint holds = nothing
  joined_sound e t ts (Some j) is (is_joint p right rank_is) holds = after_then (sound j.right ts) (λ x mid s. just (record {
    goes = joined is holds s.spelled s.binds;
    binds = omega (arith, (rank_is e x).rank);
  }))

  conditional_made : {e one other : Expr} {t : Token} {ts mid others rest : Tokens} → t.kind ≡ Mark m.Question → or_rank ≤ rank e
      → Reads d 1 one ts mid → Found (want.Mark m.Colon) mid others → Reads d conditional_rank other others rest → Gone conditional_rank e (t ∷ ts) (k.Conditional e one other) rest
  conditional_made {e} {one} {other} is h a (found_at colon) b =
      record { goes = conditional is h a.spelled colon b.spelled b.binds; binds = omega (arith, ranks.rank-Conditional e one other) }

  conditional_sound : (e : Expr) (t : Token) (ts : Tokens) → t.kind ≡ Mark m.Question → or_rank ≤ rank e → After (Gone conditional_rank e (t ∷ ts)) (r.conditional rec e ts)
  unfolding r.conditional
  conditional_sound e t ts is h = after_then (sound 1 ts) (λ a mid sa. after_then (after_expect (want.Mark m.Colon) mid) (λ u others colon.
      after_then (sound conditional_rank others) (λ b rest sb. just (conditional_made is h sa colon sb))))

  call_sound : (e : Expr) (t : Token) (ts : Tokens) → t.kind ≡ Mark m.LeftParen → postfix_rank ≤ rank e → After (Gone postfix_rank e (t ∷ ts)) (r.call rec e ts)
  unfolding r.call
  call_sound e t ts is h = after_then (arguments_sound ts) (λ args rest a. just (record { goes = call is h a.arguments; binds = omega (arith, ranks.rank-Call e args) }))

  index_made : {e at : Expr} {t : Token} {ts mid rest : Tokens} → t.kind ≡ Mark m.LeftBracket → postfix_rank ≤ rank e → Reads d 1 at ts mid
      → Found (want.Mark m.RightBracket) mid rest → Gone postfix_rank e (t ∷ ts) (k.Index e at) rest
  index_made {e} {at} is h a (found_at close) = record { goes = index is h a.spelled close; binds = omega (arith, ranks.rank-Index e at) }

  index_sound : (e : Expr) (t : Token) (ts : Tokens) → t.kind ≡ Mark m.LeftBracket → postfix_rank ≤ rank e → After (Gone postfix_rank e (t ∷ ts)) (r.index rec e ts)
  unfolding r.index
  index_sound e t ts is h = after_then (sound 1 ts) (λ at mid a. after_then (after_expect (want.Mark m.RightBracket) mid) (λ u rest close. just (index_made is h a close)))

  member_made : {e : Expr} {n : List ℕ} {t : Token} {ts rest : Tokens} → t.kind ≡ Mark m.Dot → postfix_rank ≤ rank e → Worded n ts rest → Gone postfix_rank e (t ∷ ts) (k.Member e n) rest
  member_made {e} {n} is h (worded a) = record { goes = member is h a; binds = omega (arith, ranks.rank-Member e n) }

  member_sound : (e : Expr) (t : Token) (ts : Tokens) → t.kind ≡ Mark m.Dot → postfix_rank ≤ rank e → After (Gone postfix_rank e (t ∷ ts)) (r.member rec e ts)
  unfolding r.member
  member_sound e t ts is h = after_then (after_word ts) (λ n rest a. just (member_made is h a))

  arrow_made : {e : Expr} {n : List ℕ} {t : Token} {ts rest : Tokens} → t.kind ≡ Mark m.Arrow → postfix_rank ≤ rank e → Worded n ts rest → Gone postfix_rank e (t ∷ ts) (k.Arrow e n) rest
  arrow_made {e} {n} is h (worded a) = record { goes = arrow is h a; binds = omega (arith, ranks.rank-Arrow e n) }

  arrow_sound : (e : Expr) (t : Token) (ts : Tokens) → t.kind ≡ Mark m.Arrow → postfix_rank ≤ rank e → After (Gone postfix_rank e (t ∷ ts)) (r.arrow rec e ts)
  unfolding r.arrow
  arrow_sound e t ts is h = after_then (after_word ts) (λ n rest a. just (arrow_made is h a))

  go_on_by_sound : (e : Expr) (t : Token) (ts : Tokens) (x : TokenKind) → t.kind ≡ x → r.need_of x ≤ rank e → After (Gone (r.reach_of x) e (t ∷ ts)) (r.go_on_by rec e x ts)
  go_on_by_sound e t ts (Mark m.Question) is h = conditional_sound e t ts is h
  go_on_by_sound e t ts (Mark m.LeftParen) is h = call_sound e t ts is h
  go_on_by_sound e t ts (Mark m.LeftBracket) is h = index_sound e t ts is h
  go_on_by_sound e t ts (Mark m.Dot) is h = member_sound e t ts is h
  go_on_by_sound e t ts (Mark m.Arrow) is h = arrow_sound e t ts is h
  go_on_by_sound e t ts (Mark m.PlusPlus) is h = just (record { goes = increment is h; binds = omega (arith, ranks.rank-PostIncrement e) })
  go_on_by_sound e t ts (Mark m.MinusMinus) is h = just (record { goes = decrement is h; binds = omega (arith, ranks.rank-PostDecrement e) })
  go_on_by_sound e t ts x is h = joined_sound e t ts (joint x) (ap joint is) (are_joints x) h

  go_on_sound : (n : ℕ) (e : Expr) (ts : Tokens) → r.goes_on n e ts ≡ true → After (Gone n e ts) (r.go_on rec e ts)
  unfolding r.go_on r.reach r.need
  go_on_sound n e [] h = nothing
  go_on_sound n e (t ∷ ts) h = let f = both (nat_le n (r.reach_of t.kind)) (nat_le (r.need_of t.kind) (rank e)) h in
      weaken (go_on_by_sound e t ts t.kind refl (leb-true _ _ f.1)) (λ kind rest g. record { goes = g.goes; binds = omega (arith, g.binds, leb-true n (r.reach_of t.kind) f.0) })

  -- ---- the loop. It began at `start`.
  within_sound : {least : ℕ} {kind : ExprKind} {start rest : Tokens} → Spells (node kind start) start rest → least ≤ rank_of kind
      → After (λ e rest. Reads (suc d) least e start rest) (r.within (suc d) (node kind start) rest)
  within_sound {least} {kind} {start} {rest} s b = after_guard (nat_le (expr_height (node kind start)) (suc d)) (node kind start) rest
      (λ h. record { spelled = s; binds = b; low = leb-true _ _ h })

  grow_sound : (least : ℕ) (e : Expr) (start ts : Tokens) → Reads (suc d) least e start ts → r.goes_on least e ts ≡ true
      → After (λ e rest. Reads (suc d) least e start rest) (r.grow rec (suc d) (line_at start) e ts)
  unfolding r.grow
  grow_sound least e start ts s h = after_then (go_on_sound least e ts h) (λ kind rest g. within_sound (gone_on s.spelled g.goes) g.binds)

  climb_sound : (n least : ℕ) (e : Expr) (start ts : Tokens) → Reads (suc d) least e start ts
      → After (λ e rest. Reads (suc d) least e start rest) (r.climb rec (suc d) least (line_at start) n e ts)
  unfolding r.climb
  climb_sound zero least e start ts s = just s
  climb_sound (suc n) least e start ts s = after_if (r.goes_on least e ts)
      (λ h. after_then (grow_sound least e start ts s h) (λ e mid s. climb_sound n least e start mid s))
      (λ h. just s)

  first_sound : (least : ℕ) (ts : Tokens) → After (λ e rest. Reads (suc d) least e ts rest) (r.first rec least (line_at ts) ts)
  unfolding r.first
  first_sound least ts = after_then (begin_sound ts) (λ kind rest b. after_guard (nat_le least (rank (node kind ts))) (node kind ts) rest
      (λ h. record { spelled = begun b.begins; binds = leb-true _ _ h; low = b.low }))

  pub tree_sound : (least : ℕ) (ts : Tokens) → After (λ e rest. Reads (suc d) least e ts rest) (r.tree rec (suc d) least ts)
  unfolding r.tree
  tree_sound least ts = after_then (first_sound least ts) (λ e mid s. climb_sound (suc d) least e ts mid s)

-- What is read is spelled, binds as tightly as asked, and is no higher than allowed.
pub expr_sound : (d least : ℕ) (ts : Tokens) → After (λ e rest. Reads d least e ts rest) (r.expr d least ts)
unfolding r.expr
expr_sound zero least ts = nothing
expr_sound (suc d) least ts = tree_sound (r.expr d) d (expr_sound d) least ts
