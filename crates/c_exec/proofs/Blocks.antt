-- The names of a block, one by one.
use Rattle.std.proofs.Common.{◌≡◌, ℕ, ◌+◌, ◌<◌, ◌≤◌, List, [], ◌∷◌, ◌++◌, drop, length, get_or, refl, ap, sym, ◌∙◌, append_assoc, add-one, drop-cons}
use Rattle.std.proofs.lemmas.List.{drop_all, append-nil}
use Rattle.base16.specs.declared.reading.Reading.{Reading}
use Rattle.core_tree.specs.declared.program.Core.{Core}
use Rattle.core_tree.specs.declared.expressions.Place.{Place}
use Rattle.c_values.specs.declared.value.Location.{Location}
use Rattle.c_run.specs.declared.timed.Timed.{Timed}
use Rattle.c_run.specs.Runs.{Run, Action, Outcome, Went, Stopped, and_then, pure}
use Rattle.c_meaning.specs.Meaning.{Calls, place}
use Rattle.c_meaning.specs.Stamps.{timed_at}
use Rattle.c_meaning.specs.Statements.{named}

-- names behind those that were found
abbrev pub behind : List Timed → Outcome (List Timed) → Outcome (List Timed)
behind found o = and_then o (λ ts. pure (found ++ ts))

behind_more : (found : List Timed) (t : Timed) (o : Outcome (List Timed))
    → behind found (and_then o (λ ts. pure (t ∷ ts))) ≡ behind (found ++ t ∷ []) o
behind_more found t (Went ts r) = ap (λ (x : List Timed). Went x r) (sym (append_assoc found (t ∷ []) ts))
behind_more found t (Stopped s) = refl

behind_then : (found : List Timed) (o : Outcome Location) (t : Location → Timed) (more : Action (List Timed))
    → behind found (and_then o (λ l r. and_then (more r) (λ ts. pure (t l ∷ ts)))) ≡ and_then o (λ l r. behind (found ++ t l ∷ []) (more r))
behind_then found (Went l r) t more = behind_more found (t l) (more r)
behind_then found (Stopped s) t more = refl

pub named_turn : (K : Core) (R : List Reading) (C : Calls) (F : ℕ) (found : List Timed) (ps : List Place) (i : ℕ) (p : Place) (r : Run) → i < length ps → p ≡ get_or ps i p
    → behind found (named K R C F (drop i ps) r)
    ≡ and_then (place K.structs R C F p r) (λ l s. behind (found ++ timed_at K l ∷ []) (named K R C F (drop (i + 1) ps) s))
named_turn K R C F found ps i p r h is =
    let cut : drop i ps ≡ p ∷ drop (i + 1) ps =
    rw (add-one) (drop-cons ps i p h) ∙ ap (λ (x : Place). x ∷ drop (i + 1) ps) (sym is) in
    ap (λ (xs : List Place). behind found (named K R C F xs r)) cut
    ∙ behind_then found (place K.structs R C F p r) (timed_at K) (named K R C F (drop (i + 1) ps))

pub named_end : (K : Core) (R : List Reading) (C : Calls) (F : ℕ) (found : List Timed) (ps : List Place) (i : ℕ) (r : Run) → length ps ≤ i
    → behind found (named K R C F (drop i ps) r) ≡ Went found r
named_end K R C F found ps i r h =
    ap (λ (xs : List Place). behind found (named K R C F xs r)) (drop_all i ps h) ∙ ap (λ (x : List Timed). Went x r) (append-nil found)
