-- What is said of a file may be said in other words.
use Rattle.std.proofs.Common.{◌≡◌, ℕ, List, Option, Some, None, inl, inr}
use Rattle.std.specs.Prelude.{IsSomeAnd}
use Rattle.edge.specs.Told.{Drive}
use Rattle.c_tree.specs.declared.unit.Tree.{Tree}
use Rattle.core_tree.specs.declared.program.Typed.{Typed}
use Rattle.tics_front.specs.Held.{HoldsAt}
use Rattle.tics_front.specs.Source.{IsTyped, IsAnnotated}
use Rattle.tics_call.specs.declared.source.Program.{Program}
use Rattle.tics_call.specs.Form.{IsProgram, IsTreeOf, IsOfForm, IsOther}

some_on : (P Q : List ℕ → Type 0) (o : Option (List ℕ)) → ((text : List ℕ) → P text → Q text) → IsSomeAnd o P → IsSomeAnd o Q
some_on P Q None f h = h
some_on P Q (Some text) f h = f text h

pub held_on : (P Q : List ℕ → Type 0) (files : Option Drive) (name : List ℕ) → ((text : List ℕ) → P text → Q text)
    → HoldsAt files name P → HoldsAt files name Q
held_on P Q None name f h = h
held_on P Q (Some drive) name f h = some_on P Q (drive name) f h

-- a source with this tree is that program
pub held_form : (files : Option Drive) (name : List ℕ) (tree : Tree) (typed : Typed) (program : Program)
    → HoldsAt files name (λ text. IsTyped text tree typed) → IsTreeOf program tree
    → HoldsAt files name (λ text. IsOfForm text program)
held_form files name tree typed program h is =
    held_on (λ text. IsTyped text tree typed) (λ text. IsOfForm text program) files name
    (λ text t. record { tree = tree; typed = typed; source = t; is = is }) h

-- a source with this tree is no program that is run
pub held_other : (files : Option Drive) (name : List ℕ) (tree : Tree) (typed : Typed)
    → HoldsAt files name (λ text. IsTyped text tree typed)
    → ((program : Program) → IsProgram program → IsTreeOf program tree → ⊥) → HoldsAt files name IsOther
held_other files name tree typed h none =
    held_on (λ text. IsTyped text tree typed) IsOther files name
    (λ text t. inr (record { tree = tree; typed = typed; source = t; is_none = none })) h

-- a source with annotations is none either
pub held_annotated : (files : Option Drive) (name : List ℕ) → HoldsAt files name IsAnnotated → HoldsAt files name IsOther
held_annotated files name h = held_on IsAnnotated IsOther files name (λ text a. inl a) h
