-- The source that is read is the one that stands there.
use Rattle.std.proofs.Common.{◌≡◌, ℕ, suc, ◌≤◌, Bool, true, false, List, [], ◌∷◌, max, Option, Some, None, refl, arith}
use Rattle.c_lex.specs.declared.token.Token.{Token}
use Rattle.c_lex.specs.declared.token.TokenKind.{TokenKind}
use Rattle.c_lex.specs.declared.token.TokenKind.TheVariants.{Word}
use Rattle.c_lex.specs.declared.token.Keyword.TheVariants as w
use Rattle.c_lex.specs.declared.token.Mark.TheVariants as m
use Rattle.c_lex.specs.declared.token.Note.TheVariants as note
use Rattle.c_tree.specs.declared.qualified.Qual.{Qual}
use Rattle.c_tree.specs.declared.qualified.Spec.{Spec}
use Rattle.c_tree.specs.declared.expression.Expr.{Expr}
use Rattle.c_tree.specs.declared.declarations.Duration.{Duration}
use Rattle.c_tree.specs.declared.declarations.Declr.{Declr}
use Rattle.c_tree.specs.declared.declarations.Init.{Init}
use Rattle.c_tree.specs.declared.declarations.Declaration.{Declaration}
use Rattle.c_tree.specs.declared.statements.Compound.{Compound}
use Rattle.c_tree.specs.declared.unit.Member.{Member}
use Rattle.c_tree.specs.declared.unit.Struct.{Struct}
use Rattle.c_tree.specs.declared.unit.Param.{Param}
use Rattle.c_tree.specs.declared.unit.Params.{Params}
use Rattle.c_tree.specs.declared.unit.Params.TheVariants as params
use Rattle.c_tree.specs.declared.unit.External.{External}
use Rattle.c_tree.specs.declared.unit.External.TheVariants as external
use Rattle.c_tree.specs.declared.unit.Tree.{Tree}
use Rattle.c_tree.specs.Measure.{all, optional, expr_height, declr_measure, init_measure, member_measure, struct_measure, param_measure, params_measure, compound_measure, external_measure, height}
use Rattle.c_parse_expr.specs.declared.wanted.Wanted.TheVariants as want
use Rattle.c_parse_expr.specs.Ranks.{conditional_rank}
use Rattle.c_parse_expr.specs.TypeWords.{Tokens, line_at, SpellsKeyword, said, unsaid, SpellsSpec, SpellsStars}
use Rattle.c_parse_stmt.specs.Repeats.{SpellsCommas, SpellsMany, one_more}
use Rattle.c_parse_stmt.specs.Declarations.{Lasts, Declares, declares}
use Rattle.c_parse.specs.Externals.{SpellsMember, members, SpellsStruct, structure, SpellsTitle, untitled, titled, SpellsSize, unsized, sized, SpellsBrackets, no_bracket, a_bracket, Parametrises, parametrises, void_alone, Takes, nothing_taken, taken, named_in, Ends, prototype, with_body, function, for_ever, expires_after, SpellsInits, no_inits, some_inits, SpellsExternal, a_struct, a_function, a_declaration, SpellsTree, spells_tree}
use Rattle.c_parse_expr.specs.Steps.{Outcome, mark_next}
use Rattle.c_parse_expr.specs.Reading as e
use Rattle.c_parse_stmt.specs.DeclarationReading as decl
use Rattle.c_parse_stmt.specs.StatementReading as stmt
use Rattle.c_parse.specs.ExternalReading as r
use Rattle.c_parse_stmt.proofs.Repeated.{commas_weaken, commas_low, commas_sound, many_weaken, many_low, many_sound}
use Rattle.c_parse_expr.proofs.TypeSound.{is_said, spec_sound, all_stars_sound}
use Rattle.c_parse_expr.proofs.Sound.{expr_sound, AllBounds, all_bounds_sound}
use Rattle.c_parse_stmt.proofs.DeclarationSound.{Made, init_sound, Declared, declaration_sound, declaration_rest_sound, duration_sound, Named, named, named_made}
use Rattle.c_parse_stmt.proofs.StatementSound.{compound_sound, statement_sound}
use Rattle.c_parse_expr.proofs.AfterSteps.{After, nothing, just, after_then, after_if, after_branch, weaken, Found, found_at, after_expect, after_take, Worded, worded, after_word}

title_by_sound : (t : Token) (ts : Tokens) (x : TokenKind) → t.kind ≡ x
    → After (λ n rest. SpellsTitle n (t ∷ ts) rest) (r.title_by x (t ∷ ts) ts)
title_by_sound t ts (Word n) is = just (titled is)
title_by_sound t ts _ is = just untitled

title_sound : (ts : Tokens) → After (λ n rest. SpellsTitle n ts rest) (r.title ts)
unfolding r.title
title_sound [] = just untitled
title_sound (t ∷ ts) = title_by_sound t ts t.kind refl

pub record Externed (d : ℕ) (x : External) (ts rest : Tokens) : Type 0 where
  pub externals : SpellsExternal x ts rest
  pub low : external_measure max x ≤ d

module _ (d : ℕ) where
  record IsDeclr (x : Declr) (ts rest : Tokens) : Type 0 where
    declares : Declares x ts rest
    low : declr_measure max x ≤ d

  declr_made : {stars : List (List Qual)} {n : List ℕ} {es : List Expr} {ts p q rest : Tokens} → SpellsStars stars ts p
      → Worded n p q → AllBounds (e.expr d) d (expr_sound d) q es rest
      → IsDeclr (record { stars = stars; name = n; bounds = es }) ts rest
  declr_made a (worded is) b = record { declares = declares a is b.bounds; low = omega (arith, b.low) }

  declr_sound : (ts : Tokens) → After (λ x rest. IsDeclr x ts rest) (r.declr d ts)
  unfolding r.declr
  declr_sound ts = after_then (all_stars_sound ts)
      (λ stars p a. after_then (after_word p)
      (λ n q b. after_then (all_bounds_sound (e.expr d) d (expr_sound d) q) (λ es rest c.
      just (declr_made a b c))))

  record IsMember (x : Member) (ts rest : Tokens) : Type 0 where
    members : SpellsMember x ts rest
    low : member_measure max x ≤ d

  member_made : {s : Spec} {ds : List Declr} {ts p q rest : Tokens} → SpellsSpec s ts p → SpellsCommas IsDeclr ds p q
      → Found (want.Mark m.Semicolon) q rest
      → IsMember (record { spec = s; declrs = ds }) ts rest
  member_made a l (found_at is) = record {
    members = members a (commas_weaken (λ x ts rest a. a.declares) l) is;
    low = commas_low (declr_measure max) d (λ x ts rest a. a.low) l;
  }

  member_sound : (ts : Tokens) → After (λ x rest. IsMember x ts rest) (r.member d ts)
  unfolding r.member
  member_sound ts = after_then (spec_sound ts) (λ s p a. after_then (commas_sound (r.declr d) IsDeclr declr_sound p) (λ ds q l.
      after_then (after_expect (want.Mark m.Semicolon) q) (λ u rest f. just (member_made a l f))))

  record IsStruct (x : Struct) (ts rest : Tokens) : Type 0 where
    structures : SpellsStruct x ts rest
    low : struct_measure max x ≤ suc d

  struct_made : {n : List ℕ} {x : Member} {xs : List Member} {ts p q p2 q2 p3 rest : Tokens}
      → Found (want.Keyword w.Struct) ts p → Worded n p q
      → Found (want.Mark m.LeftBrace) q p2 → IsMember x p2 q2 → SpellsMany IsMember xs q2 p3
      → Found (want.Mark m.RightBrace) p3 rest
      → IsStruct (record { name = n; members = x ∷ xs; line = line_at ts }) ts rest
  struct_made (found_at f) (worded g) (found_at h) a l (found_at i) = record {
    structures = structure f g h (one_more a.members (many_weaken (λ x ts rest a. a.members) l)) i;
    low = omega (arith, a.low, many_low (member_measure max) d (λ x ts rest a. a.low) l);
  }

  structure_sound : (ts : Tokens) → After (λ x rest. IsStruct x ts rest) (r.structure_at d (line_at ts) ts)
  unfolding r.structure_at
  structure_sound ts = after_then (after_expect (want.Keyword w.Struct) ts) (λ u p f. after_then (after_word p) (λ n q g.
      after_then (after_expect (want.Mark m.LeftBrace) q) (λ u p2 h. after_then (member_sound p2) (λ x q2 a.
      after_then (many_sound (r.member d) IsMember member_sound stmt.unclosed q2)
      (λ xs p3 l. after_then (after_expect (want.Mark m.RightBrace) p3) (λ u rest i.
      just (struct_made f g h a l i)))))))

  record AreInits (is : List Init) (ts rest : Tokens) : Type 0 where
    inits : SpellsInits is ts rest
    low : all max (init_measure max) is ≤ suc d

  inits_made : {is : List Init} {ts rest : Tokens} → SpellsCommas (Made (suc d)) is ts rest → AreInits is ts rest
  inits_made l = record {
    inits = some_inits (commas_weaken (λ x ts rest a. a.inits) l);
    low =
        commas_low (init_measure max) (suc d) (λ x ts rest a. a.low) l;
  }

  inits_sound : (ts : Tokens) → After (λ is rest. AreInits is ts rest) (r.some_inits d ts)
  unfolding r.some_inits
  inits_sound ts = after_if (mark_next m.Semicolon ts) (λ h. just (record { inits = no_inits; low = omega arith }))
      (λ h. weaken (commas_sound (decl.init d) (Made (suc d)) (init_sound d) ts) (λ is rest l. inits_made l))

  struct_external_made : {s : Struct} {is : List Init} {ts p q rest : Tokens} → IsStruct s ts p → AreInits is p q
      → Found (want.Mark m.Semicolon) q rest
      → Externed (suc d) (external.Struct s is) ts rest
  struct_external_made a l (found_at f) =
      record { externals = a_struct a.structures l.inits f; low = omega (arith, a.low, l.low) }

  struct_external_sound : (ts : Tokens) → After (λ x rest. Externed (suc d) x ts rest) (r.struct_external d (line_at ts) ts)
  unfolding r.struct_external
  struct_external_sound ts = after_then (structure_sound ts)
      (λ s p a. after_then (inits_sound p) (λ is q l. after_then (after_expect (want.Mark m.Semicolon) q) (λ u rest f.
      just (struct_external_made a l f))))

  -- ---- parameters
  record IsSize (x : Option Expr) (ts rest : Tokens) : Type 0 where
    sized : SpellsSize x ts rest
    low : optional expr_height x ≤ d

  given_size_sound : (ts : Tokens) → After (λ x rest. IsSize x ts rest) (r.given_size d ts)
  unfolding r.given_size
  given_size_sound ts = after_then (expr_sound d conditional_rank ts)
      (λ x rest s. just (record { sized = sized s.spelled s.binds; low = s.low }))

  size_sound : (ts : Tokens) → After (λ x rest. IsSize x ts rest) (r.size d ts)
  unfolding r.size
  size_sound ts = after_if (mark_next m.RightBracket ts) (λ h. just (record { sized = unsized; low = omega arith }))
      (λ h. given_size_sound ts)

  record AreBrackets (x : Option (Option Expr) × List Expr) (ts rest : Tokens) : Type 0 where
    bracketed : SpellsBrackets x.0 x.1 ts rest
    low : max (optional (optional expr_height) x.0) (all max expr_height x.1) ≤ d

  brackets_made : {x : Option Expr} {es : List Expr} {ts p q p2 rest : Tokens} → Found (want.Mark m.LeftBracket) ts p
      → IsSize x p q → Found (want.Mark m.RightBracket) q p2
      → AllBounds (e.expr d) d (expr_sound d) p2 es rest → AreBrackets (Some x, es) ts rest
  brackets_made (found_at f) a (found_at g) b =
      record { bracketed = a_bracket f a.sized g b.bounds; low = omega (arith, a.low, b.low) }

  bracket_rest_sound : {ts p : Tokens} → Found (want.Mark m.LeftBracket) ts p
      → After (λ x rest. AreBrackets x ts rest) (r.bracket_rest d p)
  unfolding r.bracket_rest
  bracket_rest_sound {ts} {p} f =
      after_then (size_sound p) (λ x q a. after_then (after_expect (want.Mark m.RightBracket) q) (λ u p2 g.
      after_then (all_bounds_sound (e.expr d) d (expr_sound d) p2) (λ es rest b. just (brackets_made f a g b))))

  brackets_sound : (ts : Tokens) → After (λ x rest. AreBrackets x ts rest) (r.brackets d ts)
  unfolding r.brackets
  brackets_sound ts = after_branch (want.Mark m.LeftBracket) ts _ _ (λ p f. bracket_rest_sound f)
      (just (record { bracketed = no_bracket; low = omega arith }))

  record IsParam (x : Param) (ts rest : Tokens) : Type 0 where
    parametrises : Parametrises x ts rest
    low : param_measure max x ≤ d

  param_made : {s : Spec} {stars : List (List Qual)} {n : Option (List ℕ)} {x : Option (Option Expr) × List Expr}
      {ts p q p2 rest : Tokens} → SpellsSpec s ts p → SpellsStars stars p q
      → SpellsTitle n q p2 → AreBrackets x p2 rest
      → IsParam (record { spec = s; stars = stars; name = n; first_bound = x.0; bounds = x.1 }) ts rest
  param_made a b c z = record { parametrises = parametrises a b c z.bracketed; low = omega (arith, z.low) }

  param_sound : (ts : Tokens) → After (λ x rest. IsParam x ts rest) (r.param d ts)
  unfolding r.param
  param_sound ts = after_then (spec_sound ts)
      (λ s p a. after_then (all_stars_sound p)
      (λ stars q b. after_then (title_sound q) (λ n p2 c. after_then (brackets_sound p2) (λ x rest z.
      just (param_made a b c z)))))

  record AreTaken (x : Params) (ts rest : Tokens) : Type 0 where
    takes : Takes x ts rest
    low : params_measure max x ≤ d

  void_made : {ts rest : Tokens} → Found (want.Keyword w.Void) ts rest → AreTaken (params.Void true) ts rest
  void_made (found_at f) = record { takes = nothing_taken (said f); low = omega arith }

  void_sound : (ts : Tokens) → After (λ x rest. AreTaken x ts rest) (r.void_param d ts)
  unfolding r.void_param
  void_sound ts = after_then (after_expect (want.Keyword w.Void) ts) (λ u rest f. just (void_made f))

  list_sound : (ts : Tokens) → void_alone ts ≡ false → After (λ x rest. AreTaken x ts rest) (r.param_list d ts)
  unfolding r.param_list
  list_sound ts h = after_then (commas_sound (r.param d) IsParam param_sound ts) (λ ps rest l. just (record {
    takes = taken (commas_weaken (λ x ts rest a. a.parametrises) l) h;
    low = commas_low (param_measure max) d (λ x ts rest a. a.low) l;
  }))

  takes_sound : (ts : Tokens) → After (λ x rest. AreTaken x ts rest) (r.takes d ts)
  unfolding r.takes
  takes_sound ts = after_if (void_alone ts) (λ h. void_sound ts) (λ h. after_if (mark_next m.RightParen ts)
      (λ g. just (record { takes = nothing_taken unsaid; low = omega arith })) (λ g. list_sound ts h))

  -- ---- functions and declarations
  record IsEnd (ps : Params) (x : Option Compound) (ts rest : Tokens) : Type 0 where
    ends : Ends ps x ts rest
    low : optional (compound_measure max) x ≤ d

  prototype_made : {ps : Params} {ts rest : Tokens} → Found (want.Mark m.Semicolon) ts rest → IsEnd ps None ts rest
  prototype_made (found_at f) = record { ends = prototype f; low = omega arith }

  no_body_sound : (ps : Params) (ts : Tokens) → After (λ x rest. IsEnd ps x ts rest) (r.no_body d ts)
  unfolding r.no_body
  no_body_sound ps ts = after_then (after_expect (want.Mark m.Semicolon) ts) (λ u rest f. just (prototype_made f))

  body_sound : (ps : Params) (ts : Tokens) → named_in ps ≡ true → After (λ x rest. IsEnd ps x ts rest) (r.body d ts)
  unfolding r.body
  body_sound ps ts h = after_then (compound_sound d (stmt.statement d) (statement_sound d) false false ts)
      (λ x rest a. just (record { ends = with_body h a.composes; low = a.low }))

  end_sound : (ps : Params) (ts : Tokens) → After (λ x rest. IsEnd ps x ts rest) (r.function_end d ps ts)
  unfolding r.function_end
  end_sound ps ts = after_if (mark_next m.Semicolon ts) (λ h. no_body_sound ps ts)
      (λ h. after_if (named_in ps) (λ g. body_sound ps ts g) (λ g. nothing))

  function_made : {b : Bool} {s : Spec} {stars : List (List Qual)} {n : List ℕ} {ps : Params} {x : Option Compound}
      {start ts p q p2 p3 p4 rest : Tokens} → SpellsKeyword w.Static b start ts
      → SpellsSpec s ts p → Named d stars n p q → Found (want.Mark m.LeftParen) q p2 → AreTaken ps p2 p3
      → Found (want.Mark m.RightParen) p3 p4 → IsEnd ps x p4 rest
      → Externed (suc d) (external.Function b
      (record { spec = s; stars = stars; name = n; params = ps; body = x; line = line_at ts })) start rest
  function_made z a (named c is) (found_at f) l (found_at g) x = record {
    externals = a_function z (function a c is f l.takes g x.ends);
    low = omega (arith, l.low, x.low);
  }

  function_sound : {b : Bool} {s : Spec} {stars : List (List Qual)} {n : List ℕ} {start ts p q p2 : Tokens}
      → SpellsKeyword w.Static b start ts → SpellsSpec s ts p → Named d stars n p q
      → Found (want.Mark m.LeftParen) q p2
      → After (λ x rest. Externed (suc d) x start rest) (r.function_rest d b (line_at ts) s stars n p2)
  unfolding r.function_rest
  function_sound {p2} z a c f =
      after_then (takes_sound p2)
      (λ ps p3 l. after_then (after_expect (want.Mark m.RightParen) p3) (λ u p4 g. after_then (end_sound ps p4) (λ x rest y.
      just (function_made z a c f l g y))))

  plain_sound : {b : Bool} {s : Spec} {stars : List (List Qual)} {n : List ℕ} {start ts p q : Tokens}
      → SpellsKeyword w.Static b start ts → SpellsSpec s ts p → Named d stars n p q
      → After (λ x rest. Externed (suc d) x start rest) (r.plain_declaration d b s (line_at p) stars n q)
  unfolding r.plain_declaration
  plain_sound {s} {stars} {n} {ts} {p} {q} z a c =
      after_then (declaration_rest_sound d s stars n ts p q a c) (λ x rest y. just (record {
        externals = a_declaration z for_ever y.declaring;
        low = y.low;
      }))

  front_rest_sound : {b : Bool} {s : Spec} {start ts p : Tokens} → SpellsKeyword w.Static b start ts → SpellsSpec s ts p
      → After (λ x rest. Externed (suc d) x start rest) (r.front_rest d b (line_at ts) s (line_at p) p)
  unfolding r.front_rest
  front_rest_sound {p} z a = after_then (all_stars_sound p)
      (λ stars q x. after_then (after_word q) (λ n p2 y. after_branch (want.Mark m.LeftParen) p2 _ _
      (λ p3 f. function_sound z a (named_made d x y) f) (plain_sound z a (named_made d x y))))

  front_sound : {b : Bool} {start : Tokens} (ts : Tokens) → SpellsKeyword w.Static b start ts
      → After (λ x rest. Externed (suc d) x start rest) (r.front d b (line_at ts) ts)
  unfolding r.front
  front_sound ts z = after_then (spec_sound ts) (λ s p a. front_rest_sound z a)

  timed_made : {b : Bool} {life : Duration} {x : Declaration} {start ts p q p2 p3 rest : Tokens}
      → SpellsKeyword w.Static b start ts → Found (want.Note note.ExpiresAfter) ts p
      → Found (want.Mark m.LeftParen) p q → Lasts life q p2 → Found (want.Mark m.RightParen) p2 p3 → Declared (suc d) x p3 rest
      → Externed (suc d) (external.Declaration b (Some life) x) start rest
  timed_made z (found_at f) (found_at g) l (found_at h) a =
      record { externals = a_declaration z (expires_after f g l h) a.declaring; low = a.low }

  timed_sound : {b : Bool} {start : Tokens} (ts : Tokens) → SpellsKeyword w.Static b start ts
      → After (λ x rest. Externed (suc d) x start rest) (r.timed_declaration d b ts)
  unfolding r.timed_declaration
  timed_sound ts z = after_then (after_expect (want.Note note.ExpiresAfter) ts)
      (λ u p f. after_then (after_expect (want.Mark m.LeftParen) p) (λ u q g.
      after_then (duration_sound q)
      (λ life p2 l. after_then (after_expect (want.Mark m.RightParen) p2)
      (λ u p3 h. after_then (declaration_sound (suc d) p3) (λ x rest a.
      just (timed_made z f g l h a))))))

  static_sound : {b : Bool} {start : Tokens} (ts : Tokens) → SpellsKeyword w.Static b start ts
      → After (λ x rest. Externed (suc d) x start rest) (r.static_rest d b ts)
  unfolding r.static_rest
  static_sound ts z = after_if (r.lifetime_next ts) (λ h. timed_sound ts z) (λ h. front_sound ts z)

  plain_external_sound : (ts : Tokens) → After (λ x rest. Externed (suc d) x ts rest) (r.plain_external d ts)
  unfolding r.plain_external
  plain_external_sound ts = after_then (after_take (want.Keyword w.Static) ts) (λ b mid f. static_sound mid (is_said f))

  pub external_sound : (ts : Tokens) → After (λ x rest. Externed (suc d) x ts rest) (r.an_external d ts)
  unfolding r.an_external
  external_sound ts = after_if (r.struct_next ts) (λ h. struct_external_sound ts) (λ h. plain_external_sound ts)

-- ---- the whole source

pub record Sourced (d : ℕ) (x : Tree) (ts : Tokens) : Type 0 where
  pub spells : SpellsTree x ts
  pub low : height x ≤ d

pub data IsSource (d : ℕ) (ts : Tokens) : Option Tree → Type 0 where
  no_source : IsSource d ts None
  a_source : {x : Tree} → Sourced d x ts → IsSource d ts (Some x)

source_made : {d : ℕ} {xs : List External} {ts : Tokens} → SpellsMany (Externed d) xs ts []
    → Sourced d (record { externals = xs }) ts
source_made {d} l = record {
  spells = spells_tree (many_weaken (λ x ts rest a. a.externals) l);
  low =
      many_low (external_measure max) d (λ x ts rest a. a.low) l;
}

at_end_sound : {d : ℕ} {ts : Tokens} {o : Outcome (List External)} → After (λ xs rest. SpellsMany (Externed d) xs ts rest) o
    → IsSource d ts (r.at_end o)
at_end_sound nothing = no_source
at_end_sound (just {rest = []} l) = a_source (source_made l)
at_end_sound (just {rest = t ∷ rest} l) = no_source

-- What is read is spelled, and no higher than allowed.
pub source_sound : (d : ℕ) (ts : Tokens) → IsSource (suc d) ts (r.source d ts)
unfolding r.source
source_sound d ts = at_end_sound (many_sound (r.an_external d) (Externed (suc d)) (external_sound d) r.some_left ts)
