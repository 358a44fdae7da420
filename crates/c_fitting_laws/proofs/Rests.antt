-- The tokens behind the words of a type are in range where all are.
use Rattle.std.proofs.Common.{Bool, List, ◌∷◌, Option}
use Rattle.c_lex.specs.declared.token.Keyword.{Keyword as AKeyword}
use Rattle.c_tree.specs.declared.qualified.Qual.{Qual}
use Rattle.c_tree.specs.declared.qualified.Sign.{Sign}
use Rattle.c_tree.specs.declared.qualified.Base.{Base}
use Rattle.c_tree.specs.declared.qualified.Spec.{Spec}
use Rattle.c_parse_expr.specs.TypeWords.{Tokens, SpellsQuals, SpellsKeyword, SpellsSign, SpellsBase, SpellsSpec, SpellsStars}
use Rattle.c_parse_stmt.specs.Repeats.{SpellsCommas, SpellsMany}
use Rattle.c_fitting_laws.specs.Spelled.{InRange}

quals_rest : {qs : List Qual} {ts rest : Tokens} → SpellsQuals qs ts rest → InRange ts → InRange rest
quals_rest SpellsQuals.no_qual in_range = in_range
quals_rest (SpellsQuals.a_qual is qs) in_range = quals_rest qs in_range.1

pub keyword_rest : {x : AKeyword} {b : Bool} {ts rest : Tokens} → SpellsKeyword x b ts rest → InRange ts → InRange rest
keyword_rest (SpellsKeyword.said is) in_range = in_range.1
keyword_rest SpellsKeyword.unsaid in_range = in_range

sign_rest : {s : Option Sign} {ts rest : Tokens} → SpellsSign s ts rest → InRange ts → InRange rest
sign_rest SpellsSign.no_sign in_range = in_range
sign_rest (SpellsSign.signed is) in_range = in_range.1
sign_rest (SpellsSign.unsigned is) in_range = in_range.1

base_rest : {b : Base} {ts rest : Tokens} → SpellsBase b ts rest → InRange ts → InRange rest
base_rest (SpellsBase.void is) in_range = in_range.1
base_rest (SpellsBase.char is) in_range = in_range.1
base_rest (SpellsBase.unsigned_char is too) in_range = in_range.1.1
base_rest (SpellsBase.struct is named) in_range = in_range.1.1
base_rest (SpellsBase.int b is) in_range = (keyword_rest b in_range).1
base_rest (SpellsBase.signed_alone is) in_range = in_range.1
base_rest (SpellsBase.unsigned_int is b) in_range = keyword_rest b in_range.1
base_rest (SpellsBase.short s is b) in_range = keyword_rest b (sign_rest s in_range).1

pub spec_rest : {s : Spec} {ts rest : Tokens} → SpellsSpec s ts rest → InRange ts → InRange rest
spec_rest (SpellsSpec.specified a b c) in_range = quals_rest c (base_rest b (quals_rest a in_range))

pub stars_rest : {qss : List (List Qual)} {ts rest : Tokens} → SpellsStars qss ts rest → InRange ts → InRange rest
stars_rest SpellsStars.no_star in_range = in_range
stars_rest (SpellsStars.a_star is qs qss) in_range = stars_rest qss (quals_rest qs in_range.1)

-- ---- what repeats

module _ {A : Type 0} {One : A → Tokens → Tokens → Type 0}
    (one : (x : A) (ts rest : Tokens) → One x ts rest → InRange ts → InRange rest) where
  pub commas_rest : {xs : List A} {ts rest : Tokens} → SpellsCommas One xs ts rest → InRange ts → InRange rest
  commas_rest (SpellsCommas.last {x} {ts} {rest} s) in_range = one x ts rest s in_range
  commas_rest (SpellsCommas.further {x} {t} {ts} {others} s is more) in_range =
      commas_rest more (one x ts (t ∷ others) s in_range).1

  pub many_rest : {xs : List A} {ts rest : Tokens} → SpellsMany One xs ts rest → InRange ts → InRange rest
  many_rest SpellsMany.no_more in_range = in_range
  many_rest (SpellsMany.one_more {x} {ts} {mid} s more) in_range = many_rest more (one x ts mid s in_range)
