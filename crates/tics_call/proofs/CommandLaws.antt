-- A command is three words.
use Rattle.std.proofs.Common.{◌≡◌, ◌≢◌, ℕ, Bool, List, [], ◌∷◌, length, get_or, Option, Some, None, refl, ap, ◌∙◌, arith}
use Rattle.std.specs.Prelude.{if◌then◌else◌}
use Rattle.tics_call.specs.declared.command.Verb.{Verb}
use Rattle.tics_call.specs.Command.{Order, verb_of, are_file_names, ordered, named, command_of}

pub command_short : (words : List (List ℕ)) → length words ≢ 3 → command_of words ≡ None
command_short [] n = refl
command_short (a ∷ []) n = refl
command_short (a ∷ b ∷ []) n = refl
command_short (a ∷ b ∷ c ∷ []) n = absurd (n refl)
command_short (a ∷ b ∷ c ∷ d ∷ words) n = refl

named_in : (words : List (List ℕ)) → length words ≡ 3
    → command_of words ≡ named (verb_of (get_or words 0 [])) (get_or words 1 []) (get_or words 2 [])
named_in [] n = absurd (omega arith)
named_in (x ∷ []) n = absurd (omega arith)
named_in (x ∷ y ∷ []) n = absurd (omega arith)
named_in (x ∷ y ∷ z ∷ []) n = refl
named_in (x ∷ y ∷ z ∷ w ∷ words) n = absurd (omega arith)

pub command_unknown : (words : List (List ℕ)) → length words ≡ 3 → verb_of (get_or words 0 []) ≡ None → command_of words ≡ None
command_unknown words n e = named_in words n ∙ ap (λ (v : Option Verb). named v (get_or words 1 []) (get_or words 2 [])) e

pub command_by : (words : List (List ℕ)) (v : Verb) (b : Bool) → length words ≡ 3 → verb_of (get_or words 0 []) ≡ Some v
    → are_file_names (get_or words 1 []) (get_or words 2 []) ≡ b
    → command_of words ≡ (if b then Some (ordered v (get_or words 1 [], get_or words 2 [])) else None)
command_by words v b n e f =
    named_in words n ∙ ap (λ (v : Option Verb). named v (get_or words 1 []) (get_or words 2 [])) e
    ∙ ap (λ (b : Bool). if b then Some (ordered v (get_or words 1 [], get_or words 2 [])) else None) f
