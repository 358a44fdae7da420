-- A source whose tree breaks a rule of the language is refused.
use Rattle.std.proofs.Common.{◌≡◌, ℕ, List, subst}
use Rattle.c_tree.specs.declared.unit.Tree.{Tree}
use Rattle.tics_front.specs.declared.fault.SourceFault.{SourceFault}
use Rattle.tics_front.specs.declared.fault.SourceFault.TheVariants.{TooBig, BadByte, OpenComment, BadNumber, BadChar, Syntax, TooManyNodes, Broken}
use Rattle.tics_front.specs.Source.{IsRead, IsRefused, IsBrokenBy}

broken : (text : List ℕ) (tree : Tree) (fault : SourceFault) → IsRead text tree → IsBrokenBy tree fault → IsRefused text fault
broken text tree TooBig read h = absurd h
broken text tree (BadByte line) read h = absurd h
broken text tree (OpenComment line) read h = absurd h
broken text tree (BadNumber line) read h = absurd h
broken text tree (BadChar line) read h = absurd h
broken text tree (Syntax line) read h = absurd h
broken text tree TooManyNodes read h = absurd h
broken text tree (Broken fault) read h = record { tree = tree; read = read; plain = h.0; breaks = h.1 }

pub broken_is_refused : (text : List ℕ) (tree seen : Tree) (fault : SourceFault) → IsRead text tree → seen ≡ tree
    → IsBrokenBy seen fault → IsRefused text fault
broken_is_refused text tree seen fault read same h =
    broken text tree fault read (subst (λ (t : Tree). IsBrokenBy t fault) same h)
