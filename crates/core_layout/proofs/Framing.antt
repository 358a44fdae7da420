-- Frames are placed downwards in a segment, and then in the next one.
use Rattle.std.proofs.Common.{◌≡◌, ℕ, ◌+◌, ◌-◌, ◌*◌, ◌/◌, ◌<◌, ◌≤◌, ◌⊎◌, Bool, true, false, List, [], ◌∷◌, refl, arith, inl, inr}
use Rattle.std.specs.Prelude.{Option, Some, None, nat_le, nat_lt, if◌then◌else◌}
use Rattle.std.specs.List.{AllZip}
use Rattle.std.proofs.lemmas.Bool.Decides.{nat_tests}
use Rattle.base16.specs.Placement.{frame_below, or_else_none, placed_from}
use Rattle.core_layout.specs.Frames.{IsInSegment, IsApart, LieApart, PlacedFramesLieApart}

zip_weaker : {A B : Type 0} (R S : A → B → Type 0) → ((x : A) (y : B) → R x y → S x y) → (xs : List A) (ys : List B)
    → AllZip R xs ys → AllZip S xs ys
zip_weaker R S f [] [] all = tt
zip_weaker R S f [] (y ∷ ys) all = absurd all
zip_weaker R S f (x ∷ xs) [] all = absurd all
zip_weaker R S f (x ∷ xs) (y ∷ ys) all = (f x y all.0, zip_weaker R S f xs ys all.1)

-- a stack pointer to which a return word can be pushed in the stack
record IsPointer (sp : ℕ) : Type 0 where
  above : 0x2002 ≤ sp
  below : sp ≤ 0x4002

-- a frame stands in a later segment than the return word below a stack pointer, or below that word
abbrev IsLater : (sp bytes at : ℕ) → Type 0
IsLater sp bytes at = ((sp - 2) / 256 < at / 256) ⊎ (((sp - 2) / 256 ≡ at / 256) × (at + bytes + 2 ≤ sp))

record IsPlaced (sp bytes at : ℕ) : Type 0 where
  inside : IsInSegment bytes at
  room : at / 256 * 256 + 4 ≤ at
  later : IsLater sp bytes at

placed_here : (sp bytes at : ℕ) → IsPointer sp → (sp - 2) / 256 * 256 + bytes + 4 ≤ sp - 2 → at ≡ sp - 2 - bytes
    → IsPlaced sp bytes at
placed_here sp bytes at p h e =
    let above : 0x2002 ≤ sp = p.above in
    let below : sp ≤ 0x4002 = p.below in
    let same : (sp - 2) / 256 ≡ at / 256 = omega arith in
    record {
      inside = record { above_start = omega arith; below_end = omega arith; in_one = omega arith };
      room = omega arith;
      later = inr (same, omega arith);
    }

placed_next : (sp bytes at : ℕ) → IsPointer sp → bytes ≤ 240 → (sp - 2) / 256 * 256 < 0x3F00
    → at ≡ (sp - 2) / 256 * 256 + 512 - 2 - bytes → IsPlaced sp bytes at
placed_next sp bytes at p small h e =
    let above : 0x2002 ≤ sp = p.above in
    let segment : at / 256 ≡ (sp - 2) / 256 + 1 = omega arith in
    record {
      inside = record { above_start = omega arith; below_end = omega arith; in_one = omega arith };
      room = omega arith;
      later = inl (omega arith);
    }

placed_by : (sp bytes at : ℕ) (big here next : Bool) → IsPointer sp → nat_lt 240 bytes ≡ big
    → nat_le ((sp - 2) / 256 * 256 + bytes + 4) (sp - 2) ≡ here → nat_lt ((sp - 2) / 256 * 256) 0x3F00 ≡ next
    → (if big then None else
    (if here then Some (sp - 2 - bytes) else (if next then Some ((sp - 2) / 256 * 256 + 512 - 2 - bytes) else None)))
    ≡ Some at → IsPlaced sp bytes at
placed_by sp bytes at true here next p b h n e = absurd (cc)
placed_by sp bytes at false true next p b h n e =
    let fits : (sp - 2) / 256 * 256 + bytes + 4 ≤ sp - 2 = grind (arith, nat_tests) in placed_here sp bytes at p fits (cc)
placed_by sp bytes at false false true p b h n e =
    let small : bytes ≤ 240 = grind (arith, nat_tests) in
    let more : (sp - 2) / 256 * 256 < 0x3F00 = grind (arith, nat_tests) in placed_next sp bytes at p small more (cc)
placed_by sp bytes at false false false p b h n e = absurd (cc)

placed : (sp bytes at : ℕ) → IsPointer sp → frame_below sp bytes ≡ Some at → IsPlaced sp bytes at
unfolding frame_below
placed sp bytes at p e = placed_by sp bytes at _ _ _ p refl refl refl e

-- what is placed is a stack pointer for what comes next
pointer_of : (sp bytes at : ℕ) → IsPlaced sp bytes at → IsPointer at
pointer_of sp bytes at f =
    let start : 0x2000 ≤ at = f.inside.above_start in
    let end : at + bytes ≤ 0x4000 = f.inside.below_end in
    let room : at / 256 * 256 + 4 ≤ at = f.room in
    record { above = omega arith; below = omega arith }

-- what is later than a frame is later than what the frame is later than
later_still : (sp bytes at b a : ℕ) → IsPlaced sp bytes at → IsLater at b a → IsLater sp b a
later_still sp bytes at b a f next =
    let room : at / 256 * 256 + 4 ≤ at = f.room in
    let same : (at - 2) / 256 ≡ at / 256 = omega arith in
    elim f.later [
      | inl up ↦ elim next [ inl more ↦ inl (omega arith) | inr w ↦ let e = w.0 in inl (omega arith) ]
      | inr v ↦ elim next [
        | inl more ↦ let e = v.0 in inl (omega arith)
        | inr w ↦ inr (omega (arith, v.0, w.0), omega (arith, v.1, w.1))
      ]
    ]

apart : (sp bytes at b a : ℕ) → IsPlaced sp bytes at → IsLater at b a → IsApart bytes at b a
apart sp bytes at b a f next =
    let room : at / 256 * 256 + 4 ≤ at = f.room in
    let end : at + bytes ≤ at / 256 * 256 + 256 = f.inside.in_one in
    let same : (at - 2) / 256 ≡ at / 256 = omega arith in
    elim next [ inl more ↦ inr (omega arith) | inr w ↦ inl (omega (arith, w.1)) ]

record Chain (sp : ℕ) (frames addresses : List ℕ) : Type 0 where
  lie : LieApart frames addresses
  later : AllZip (IsLater sp) frames addresses

chain_more : (sp bytes at : ℕ) (frames rest : List ℕ) → IsPlaced sp bytes at → Chain at frames rest
    → Chain sp (bytes ∷ frames) (at ∷ rest)
chain_more sp bytes at frames rest f c = record {
  lie = (f.inside, zip_weaker (IsLater at) (IsApart bytes at) (λ b a. apart sp bytes at b a f) frames rest c.later, c.lie);
  later = (f.later, zip_weaker (IsLater at) (IsLater sp) (λ b a. later_still sp bytes at b a f) frames rest c.later);
}

module _ (sp bytes : ℕ) (frames addresses : List ℕ) (p : IsPointer sp)
    (deeper : (at : ℕ) (rest : List ℕ) → IsPointer at → placed_from at frames ≡ Some rest → Chain at frames rest) where
  behind_one : (at : ℕ) (rest : Option (List ℕ)) → IsPlaced sp bytes at → placed_from at frames ≡ rest
      → or_else_none rest (λ more. Some (at ∷ more)) ≡ Some addresses → Chain sp (bytes ∷ frames) addresses
  behind_one at None f r e = absurd (cc)
  behind_one at (Some rest) f r e =
      let same : addresses ≡ at ∷ rest = cc in
      rw same (chain_more sp bytes at frames rest f (deeper at rest (pointer_of sp bytes at f) r))

  first_one : (o : Option ℕ) → frame_below sp bytes ≡ o
      → or_else_none o (λ at. or_else_none (placed_from at frames) (λ more. Some (at ∷ more))) ≡ Some addresses
      → Chain sp (bytes ∷ frames) addresses
  first_one None o e = absurd (cc)
  first_one (Some at) o e = behind_one at (placed_from at frames) (placed sp bytes at p o) refl e

chain : (sp : ℕ) (frames addresses : List ℕ) → IsPointer sp → placed_from sp frames ≡ Some addresses → Chain sp frames addresses
chain sp [] addresses p e = let same : addresses ≡ [] = cc in rw same (record { lie = tt; later = tt })
chain sp (bytes ∷ frames) addresses p e =
    first_one sp bytes frames addresses p (λ at rest q r. chain at frames rest q r) (frame_below sp bytes) refl e

pub frames_lie_apart : (frames addresses : List ℕ) → PlacedFramesLieApart frames addresses
frames_lie_apart frames addresses e =
    (chain 0x2100 frames addresses (record { above = omega arith; below = omega arith }) e).lie
