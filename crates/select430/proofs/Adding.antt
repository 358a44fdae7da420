-- Parts that are added one behind the other.
use Rattle.std.proofs.Common.{◌≡◌, sym, ap, ◌∙◌, List, [], ◌∷◌, ◌++◌, append_assoc}
use Rattle.std.proofs.lemmas.List.{append-nil}
use Rattle.select430.specs.declared.part.Part.{Part}
use Rattle.select430.specs.Adding.{Adds}

pub none_added : (a : List Part) → Adds a a []
none_added a = record { is = sym (append-nil a) }

pub one_added : (a b : List Part) (x : Part) → b ≡ a ++ x ∷ [] → Adds a b (x ∷ [])
one_added a b x e = record { is = e }

pub then_added : (a b c xs ys : List Part) → Adds a b xs → Adds b c ys → Adds a c (xs ++ ys)
then_added a b c xs ys h k = record { is = k.is ∙ ap (λ (z : List Part). z ++ ys) h.is ∙ append_assoc a xs ys }

-- one part and others behind it
pub cons_added : (a b c : List Part) (x : Part) (ys : List Part) → Adds a b (x ∷ []) → Adds b c ys → Adds a c (x ∷ ys)
cons_added a b c x ys h k = then_added a b c (x ∷ []) ys h k
