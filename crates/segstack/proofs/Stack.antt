-- Frames are placed one by one.
use Rattle.std.proofs.Common.{◌≡◌, ℕ, true, List, [], ◌∷◌, ◌++◌, Option, Some, None, All, refl, sym, ap, ◌∙◌, subst, arith}
use Rattle.std.proofs.lemmas.List.Elements.{All-head, All-tail}
use Rattle.base16.specs.Placement.{frame_below, place, placed_from, or_else_none}
use Rattle.ideal430.specs.Service.{is_frame}
use Rattle.segstack.specs.Frames.{IsCaller, youngest}
use Rattle.segstack.proofs.Deeds.{caller-next}

pub first : IsCaller 0x2100
first = record { even = refl; above = omega arith; below = omega arith; room = omega arith; top = λ z. refl }

-- the first of more frames has a place, and so do those after it
first-placed : (o : Option ℕ) (k : ℕ → Option (List ℕ)) (addresses : List ℕ)
    → or_else_none o (λ at. or_else_none (k at) (λ rest. Some (at ∷ rest))) ≡ Some addresses
    → (at : ℕ) × (rest : List ℕ) × (o ≡ Some at) × (k at ≡ Some rest) × (addresses ≡ at ∷ rest)
first-placed None k addresses e = absurd (cc)
first-placed (Some at) k addresses e = by (k at) refl e
  where
    by : (p : Option (List ℕ)) → k at ≡ p → or_else_none p (λ rest. Some (at ∷ rest)) ≡ Some addresses
        → (at2 : ℕ) × (rest : List ℕ) × (Some at ≡ Some at2) × (k at2 ≡ Some rest) × (addresses ≡ at2 ∷ rest)
    by None is h = absurd (cc)
    by (Some rest) is h = (at, rest, refl, is, (cc))

callers : (sp : ℕ) (frames addresses : List ℕ) → IsCaller sp → All (λ bytes. is_frame bytes ≡ true) frames
    → placed_from sp frames ≡ Some addresses → IsCaller (youngest sp addresses)
callers sp [] addresses c all e =
    let is : addresses ≡ [] = cc in subst (λ xs. IsCaller (youngest sp xs)) (sym is) c
callers sp (bytes ∷ frames) addresses c all e =
    let f = first-placed (frame_below sp bytes) (λ at. placed_from at frames) addresses e in
    subst (λ xs. IsCaller (youngest sp xs)) (sym f.4)
    (callers f.0 frames f.1 (caller-next sp bytes f.0 c (All-head (λ b. is_frame b ≡ true) bytes frames all) f.2)
    (All-tail (λ b. is_frame b ≡ true) bytes frames all) f.3)

pub next : (frames addresses : List ℕ) → All (λ bytes. is_frame bytes ≡ true) frames → place frames ≡ Some addresses
    → IsCaller (youngest 0x2100 addresses)
next frames addresses all e = callers 0x2100 frames addresses first all e

-- what is placed behind an address is placed behind all that stands before it
behind : (o : Option ℕ) (at : ℕ) (rest : List ℕ)
    → or_else_none (or_else_none o (λ a. Some (rest ++ a ∷ []))) (λ xs. Some (at ∷ xs))
    ≡ or_else_none o (λ a. Some ((at ∷ rest) ++ a ∷ []))
behind None at rest = refl
behind (Some a) at rest = refl

alone : (o : Option ℕ) → or_else_none o (λ at. or_else_none (Some []) (λ rest. Some (at ∷ rest)))
    ≡ or_else_none o (λ at. Some ([] ++ at ∷ []))
alone None = refl
alone (Some at) = refl

one-more : (sp : ℕ) (frames addresses : List ℕ) (bytes : ℕ) → placed_from sp frames ≡ Some addresses
    → placed_from sp (frames ++ bytes ∷ [])
    ≡ or_else_none (frame_below (youngest sp addresses) bytes) (λ at. Some (addresses ++ at ∷ []))
one-more sp [] addresses bytes e =
    let is : addresses ≡ [] = cc in
    subst (λ xs. placed_from sp (bytes ∷ [])
    ≡ or_else_none (frame_below (youngest sp xs) bytes) (λ at. Some (xs ++ at ∷ []))) (sym is)
    (alone (frame_below sp bytes))
one-more sp (x ∷ frames) addresses bytes e =
    let f = first-placed (frame_below sp x) (λ at. placed_from at frames) addresses e in
    subst (λ xs. placed_from sp (x ∷ (frames ++ bytes ∷ []))
    ≡ or_else_none (frame_below (youngest sp xs) bytes) (λ at. Some (xs ++ at ∷ []))) (sym f.4)
    (ap (λ o. or_else_none o (λ a. or_else_none (placed_from a (frames ++ bytes ∷ [])) (λ rest. Some (a ∷ rest)))) f.2
    ∙ ap (λ o. or_else_none o (λ rest. Some (f.0 ∷ rest))) (one-more f.0 frames f.1 bytes f.3)
    ∙ behind (frame_below (youngest f.0 f.1) bytes) f.0 f.1)

pub more : (frames addresses : List ℕ) (bytes : ℕ) → place frames ≡ Some addresses
    → place (frames ++ bytes ∷ [])
    ≡ or_else_none (frame_below (youngest 0x2100 addresses) bytes) (λ at. Some (addresses ++ at ∷ []))
more frames addresses bytes e = one-more 0x2100 frames addresses bytes e
