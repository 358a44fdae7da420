-- What a whole source is read as, and what it is spelled by.
use Rattle.std.proofs.Common.{◌≡◌, ℕ, suc, Option, Some, None, subst}
use Rattle.c_tree.specs.declared.unit.Tree.{Tree}
use Rattle.c_parse_expr.specs.TypeWords.{Tokens}
use Rattle.c_parse.specs.ExternalReading.{source}
use Rattle.c_parse.proofs.ExternalSound.{Sourced, IsSource, no_source, a_source, source_sound}

found_source : {d : ℕ} {ts : Tokens} {x : Tree} (o : Option Tree) → o ≡ Some x → IsSource d ts o → Sourced d x ts
found_source None e no_source = cc
found_source {d} {ts} {x} (Some y) e (a_source s) = let z : y ≡ x = cc in subst (λ t. Sourced d t ts) z s

pub source_is : (d : ℕ) (x : Tree) (ts : Tokens) → source d ts ≡ Some x → Sourced (suc d) x ts
source_is d x ts is = found_source (source d ts) is (source_sound d ts)
