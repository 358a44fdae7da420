-- The whole source: what is answered is spelled, and what is spelled is answered.
use Rattle.std.proofs.Common.{◌≡◌, ◌≤◌, Option, Some, None, Result, Ok, Err, IfOk, MatchResult, refl, subst}
use Rattle.c_tree.specs.declared.unit.Tree.{Tree}
use Rattle.c_tree.specs.Measure.{height}
use Rattle.c_parse_expr.specs.declared.error.ParseErr.{ParseErr}
use Rattle.c_parse_expr.specs.declared.error.ParseErr.TheVariants.{Syntax, NoMemory}
use Rattle.c_parse_expr.specs.TypeWords.{Tokens}
use Rattle.c_parse_expr.specs.Answered.{Answers}
use Rattle.c_parse.specs.Externals.{SpellsTree}
use Rattle.c_parse.specs.ExternalReading.{source}
use Rattle.c_parse.proofs.ExternalSound.{Sourced, IsSource, no_source, a_source, source_sound}
use Rattle.c_parse.proofs.ExternalComplete.{source_again}

found_source : (ts : Tokens) (x : Tree) (o : Option Tree) → o ≡ Some x → IsSource 400 ts o → Sourced 400 x ts
found_source ts x None e no_source = cc
found_source ts x (Some y) e (a_source s) = let z : y ≡ x = cc in subst (λ t. Sourced 400 t ts) z s

pub spelled : (ts : Tokens) (r : Result Tree ParseErr) → Answers (source 399 ts) r → IfOk r (λ x. SpellsTree x ts)
spelled ts (Ok x) is = (found_source ts x (source 399 ts) is (source_sound 399 ts)).spells
spelled ts (Err x) is = tt

pub low : (ts : Tokens) (r : Result Tree ParseErr) → Answers (source 399 ts) r → IfOk r (λ x. height x ≤ 400)
low ts (Ok x) is = (found_source ts x (source 399 ts) is (source_sound 399 ts)).low
low ts (Err x) is = tt

pub only : (ts : Tokens) (r : Result Tree ParseErr) → Answers (source 399 ts) r → (x : Tree) → SpellsTree x ts → height x ≤ 400
    → MatchResult r (λ found. found ≡ x) (λ fault. fault ≡ NoMemory)
only ts (Ok y) is x s h = let z = source_again 399 x ts s h in cc
only ts (Err (Syntax n)) is x s h = let z = source_again 399 x ts s h in cc
only ts (Err NoMemory) is x s h = refl
