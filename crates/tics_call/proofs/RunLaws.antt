-- One store more.
use Rattle.std.proofs.Common.{◌≡◌, ℕ, Bool, true, false, cond, List, [], ◌∷◌, ◌++◌, Option, Some, refl, sym, ap, ◌∙◌}
use Rattle.std.proofs.lemmas.List.{reverse-append}
use Rattle.std.specs.Prelude.{map, reverse, if◌then◌else◌}
use Rattle.std.specs.List.{find}
use Rattle.std.specs.Str.{bytes_eq}
use Rattle.tics_call.specs.declared.meaning.Variable.{Variable}
use Rattle.tics_call.specs.declared.source.Store.{Store}
use Rattle.tics_call.specs.Run.{value_of, last_value, global_after, assigned}

value_by : (b : Bool) (store : Store) (rest : Option Store) → value_of (cond b (Some store) rest)
    ≡ (if b then store.value else value_of rest)
value_by true store rest = refl
value_by false store rest = refl

last_value-push : (stores : List Store) (store : Store) (name : List ℕ)
    → last_value (stores ++ store ∷ []) name ≡ (if bytes_eq store.name name then store.value else last_value stores name)
last_value-push stores store name =
    ap (λ (x : List Store). value_of (find (λ s. bytes_eq s.name name) x)) (reverse-append stores (store ∷ []))
    ∙ value_by (bytes_eq store.name name) store (find (λ s. bytes_eq s.name name) (reverse stores))

one_assigned : (stores : List Store) (store : Store) (name : List ℕ)
    → assigned store (global_after stores name) ≡ global_after (stores ++ store ∷ []) name
one_assigned stores store name = ap (λ (v : ℕ). record { name = name; value = v }) (sym (last_value-push stores store name))

pub all_assigned : (names : List (List ℕ)) (stores : List Store) (store : Store)
    → map (assigned store) (map (global_after stores) names) ≡ map (global_after (stores ++ store ∷ [])) names
all_assigned [] stores store = refl
all_assigned (name ∷ names) stores store = ap (λ (v : Variable). v ∷ map (assigned store) (map (global_after stores) names))
    (one_assigned stores store name)
    ∙ ap (λ (vs : List Variable). global_after (stores ++ store ∷ []) name ∷ vs) (all_assigned names stores store)
