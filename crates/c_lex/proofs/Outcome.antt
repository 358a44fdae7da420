-- The clauses of the lexer, from what it read.
use Rattle.std.proofs.Common.{◌≡◌, ◌≢◌, List, Result, Ok, Err, IfOk, IfErr, MatchResult, Vec, refl}
use Rattle.std.specs.declared.alloc.Global.{Global}
use Rattle.c_lex.specs.declared.token.Token.{Token as AToken}
use Rattle.c_lex.specs.declared.item.LexErr.{LexErr}
use Rattle.c_lex.specs.declared.item.LexErr.TheVariants.{BadByte, OpenComment, BadNumber, BadChar, NoMemory}
use Rattle.c_lex.specs.Spelling.{Text}
use Rattle.c_lex.specs.Tokens.{Lexes, Refuses, InOrder, AreSlices, AreCounted}
use Rattle.c_lex.proofs.LexLaws.{lexes_one, refuses_one, not_both}
use Rattle.c_lex.proofs.Slices.{slices, counted, in_order}

-- a fault that cannot be any other is want of memory
memory_alone : (e : LexErr) → ((e ≢ NoMemory) → ⊥) → e ≡ NoMemory
memory_alone (BadByte at) h = absurd (h (λ x. cc))
memory_alone (OpenComment at) h = absurd (h (λ x. cc))
memory_alone (BadNumber at) h = absurd (h (λ x. cc))
memory_alone (BadChar at) h = absurd (h (λ x. cc))
memory_alone NoMemory h = refl

module _ (source : Text) where
  pub only_tokens : (r : Result (Vec AToken Global) LexErr) → IfOk r (λ found. Lexes source 0 found.items)
      → IfErr r (λ fault. fault ≢ NoMemory → Refuses source 0 fault)
      → (ts : List AToken) → Lexes source 0 ts → MatchResult r (λ found. found.items ≡ ts) (λ fault. fault ≡ NoMemory)
  only_tokens (Ok v) read refused ts l = lexes_one read l
  only_tokens (Err e) read refused ts l = memory_alone e (λ other. not_both l (refused other))

  pub only_refusal : (r : Result (Vec AToken Global) LexErr) → IfOk r (λ found. Lexes source 0 found.items)
      → IfErr r (λ fault. fault ≢ NoMemory → Refuses source 0 fault)
      → (e : LexErr) → Refuses source 0 e → MatchResult r (λ _. ⊥) (λ fault. fault ≢ NoMemory → fault ≡ e)
  only_refusal (Ok v) read refused e f = not_both read f
  only_refusal (Err x) read refused e f = λ other. refuses_one (refused other) f

  pub are_in_order : (r : Result (Vec AToken Global) LexErr) → IfOk r (λ found. Lexes source 0 found.items)
      → IfOk r (λ found. InOrder source 0 found.items)
  are_in_order (Ok v) read = in_order read
  are_in_order (Err e) read = tt

  pub are_slices : (r : Result (Vec AToken Global) LexErr) → IfOk r (λ found. Lexes source 0 found.items)
      → IfOk r (λ found. AreSlices source found.items)
  are_slices (Ok v) read = slices read
  are_slices (Err e) read = tt

  pub are_counted : (r : Result (Vec AToken Global) LexErr) → IfOk r (λ found. Lexes source 0 found.items)
      → IfOk r (λ found. AreCounted source found.items)
  are_counted (Ok v) read = counted read
  are_counted (Err e) read = tt
