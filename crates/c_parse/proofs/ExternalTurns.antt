-- A declaration with a lifetime, with the depth as the functions count it.
use Rattle.std.proofs.Common.{◌≡◌, ℕ, ◌+◌, Bool, Some, refl, add-one}
use Rattle.c_tree.specs.declared.unit.External.TheVariants as external
use Rattle.c_lex.specs.declared.token.Mark.TheVariants as m
use Rattle.c_lex.specs.declared.token.Note.TheVariants as note
use Rattle.c_parse_expr.specs.declared.wanted.Wanted.TheVariants as want
use Rattle.c_parse_expr.specs.TypeWords.{Tokens}
use Rattle.c_parse_expr.specs.Steps.{and_then, pure, expect, closing}
use Rattle.c_parse_stmt.specs.DeclarationReading.{duration, declaration}
use Rattle.c_parse.specs.ExternalReading.{timed_declaration}

pub timed_is : (d : ℕ) (b : Bool) (ts : Tokens)
    → timed_declaration d b ts ≡ and_then (expect (want.Note note.ExpiresAfter) ts) (λ _ ts. and_then (closing m.LeftParen ts)
    (λ _ ts. and_then (duration ts)
    (λ life ts. and_then (closing m.RightParen ts)
    (λ _ ts. and_then (declaration (d + 1) ts) (λ x. pure (external.Declaration b (Some life) x))))))
unfolding timed_declaration
timed_is d b ts = rw add-one refl
