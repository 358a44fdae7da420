-- A new frame has cells with no value yet, and once it is left the cells before it stand again.
use Rattle.std.proofs.Common.{◌≡◌, ℕ, ◌+◌, ◌-◌, ◌%◌, ◌<◌, ◌≤◌, refl, sym, ap, ◌∙◌, arith, Bool, true, false, ◌&&◌, ◌||◌, ◌⊎◌, inl, inr, Some, None, if◌then◌else◌}
use Rattle.std.proofs.lemmas.Bool.{le-leb, lt-ltb}
use Rattle.std.proofs.lemmas.Bool.Decides.{nat_tests}
use Rattle.std.specs.Prelude.{nat_le, nat_lt}
use Rattle.base16.specs.Board.{stack_end, segment_start, segment_top}
use Rattle.core430.proofs.Truths.{and-both}
use Rattle.ideal430.specs.Settled.{Bytes}
use Rattle.cells430.specs.Cells.{Cell, Word, Byte, Cells, CellAt, Live, OfOutput, OfData, OfFrame, OfOlder, Fits, Shape, Facts, dropped, unlinked, IsBlank, IsLayout, framed}
use Rattle.cells430.proofs.Cells.{live_lower, facts_fewer}

-- ---- in the frame or not

where_in : (low high b : ℕ) → ((low ≤ b) × (b < high)) ⊎ ((nat_le low b && nat_lt b high) ≡ false)
where_in low high b = from (nat_le low b && nat_lt b high) refl
  where
    over : (nat_le low b && nat_lt b high) ≡ true → low ≤ b
    over k = grind (arith, nat_tests)

    under : (nat_le low b && nat_lt b high) ≡ true → b < high
    under k = grind (arith, nat_tests)

    from : (t : Bool) → (nat_le low b && nat_lt b high) ≡ t
        → ((low ≤ b) × (b < high)) ⊎ ((nat_le low b && nat_lt b high) ≡ false)
    from true e = inl (over e, under e)
    from false e = inr e

not_in : (low high b : ℕ) → (b < low) ⊎ (high ≤ b) → (nat_le low b && nat_lt b high) ≡ false
not_in low high b (inl h) = grind (arith, nat_tests)
not_in low high b (inr h) = grind (arith, nat_tests)

pub framed_in : (sp bytes : ℕ) (inner f : Cells) (b : ℕ) → sp ≤ b → b < sp + bytes → framed sp bytes inner f b ≡ inner (b - sp)
framed_in sp bytes inner f b l h = ap (λ (t : Bool). if t then inner (b - sp) else f b)
    (and-both (le-leb sp b l) (lt-ltb b (sp + bytes) h))

pub framed_out : (sp bytes : ℕ) (inner f : Cells) (b : ℕ) → (b < sp) ⊎ (sp + bytes ≤ b) → framed sp bytes inner f b ≡ f b
framed_out sp bytes inner f b o = ap (λ (t : Bool). if t then inner (b - sp) else f b) (not_in sp (sp + bytes) b o)

module _ (sp bytes : ℕ) (inner f : Cells) (law : IsLayout bytes inner) where
  out_false : (b : ℕ) → (nat_le sp b && nat_lt b (sp + bytes)) ≡ false → framed sp bytes inner f b ≡ f b
  out_false b e = ap (λ (t : Bool). if t then inner (b - sp) else f b) e

  pub framed_shape : (seg : ℕ) (ps : ℕ → ℕ) → sp % 2 ≡ 0 → segment_start seg ≤ sp → sp + bytes ≤ segment_top seg
      → segment_top seg ≤ stack_end → Shape seg (sp + bytes) ps f → Shape seg sp ps (framed sp bytes inner f)
  framed_shape seg ps even base top last s = record {
    live = λ b x e. live_at b x (where_in sp (sp + bytes) b) e;
    fits =
        λ b x e. fits_at b x (where_in sp (sp + bytes) b) e;
  }
    where
      live_at : (b : ℕ) (x : Cell) → (((sp ≤ b) × (b < sp + bytes)) ⊎ ((nat_le sp b && nat_lt b (sp + bytes)) ≡ false))
          → framed sp bytes inner f b ≡ Some x → Live seg sp ps b
      live_at b x (inl k) e = let l = k.0 in let h = k.1 in OfFrame (omega arith) (omega arith) last l
      live_at b x (inr k) e = live_lower seg (sp + bytes) sp ps b (omega arith) (s.live b x (sym (out_false b k) ∙ e))

      in_fits : (b : ℕ) (x : Cell) → sp ≤ b → b < sp + bytes → Fits inner (b - sp) x → Fits (framed sp bytes inner f) b x
      in_fits b (Word v) l h k =
          let even_o = k.0 in
          let even_bytes = law.even in
          let next : b + 1 - sp ≡ b - sp + 1 = omega arith in
          (omega arith, framed_in sp bytes inner f (b + 1) (omega arith) (omega arith) ∙ ap inner next ∙ k.1)
      in_fits b (Byte v) l h k = tt

      past : (b : ℕ) → b % 2 ≡ 0 → (nat_le sp b && nat_lt b (sp + bytes)) ≡ false → (b + 1 < sp) ⊎ (sp + bytes ≤ b + 1)
      past b e k = from (nat_le sp b) refl
        where
          low : nat_le sp b ≡ false → b + 1 < sp
          low t = let l : b < sp = grind (arith, nat_tests) in omega arith

          high : nat_le sp b ≡ true → sp + bytes ≤ b + 1
          high t = grind (arith, nat_tests)

          from : (t : Bool) → nat_le sp b ≡ t → (b + 1 < sp) ⊎ (sp + bytes ≤ b + 1)
          from true t = inr (high t)
          from false t = inl (low t)

      out_fits : (b : ℕ) (x : Cell) → (nat_le sp b && nat_lt b (sp + bytes)) ≡ false → Fits f b x
          → Fits (framed sp bytes inner f) b x
      out_fits b (Word v) k h = (h.0, framed_out sp bytes inner f (b + 1) (past b h.0 k) ∙ h.1)
      out_fits b (Byte v) k h = tt

      fits_at : (b : ℕ) (x : Cell) → (((sp ≤ b) × (b < sp + bytes)) ⊎ ((nat_le sp b && nat_lt b (sp + bytes)) ≡ false))
          → framed sp bytes inner f b ≡ Some x → Fits (framed sp bytes inner f) b x
      fits_at b x (inl k) e = in_fits b x k.0 k.1 (law.fits (b - sp) x (sym (framed_in sp bytes inner f b k.0 k.1) ∙ e))
      fits_at b x (inr k) e = out_fits b x k (s.fits b x (sym (out_false b k) ∙ e))

  pub framed_facts : (c : ℕ → ℕ) (lo hi : ℕ) (m : ℕ → ℕ) (st : Bytes) → Facts c lo hi f m st
      → Facts c lo hi (framed sp bytes inner f) m st
  framed_facts c lo hi m st h = record {
    code = h.code;
    stands = λ b x e. at_b b x (where_in sp (sp + bytes) b) e;
    lasting =
        h.lasting;
    words = h.words;
  }
    where
      blank_at : (b : ℕ) (x : Cell) → IsBlank x → CellAt m st b x
      blank_at b (Word None) k = tt
      blank_at b (Byte None) k = tt
      blank_at b (Word (Some w)) k = absurd k
      blank_at b (Byte (Some v)) k = absurd k

      at_b : (b : ℕ) (x : Cell) → (((sp ≤ b) × (b < sp + bytes)) ⊎ ((nat_le sp b && nat_lt b (sp + bytes)) ≡ false))
          → framed sp bytes inner f b ≡ Some x → CellAt m st b x
      at_b b x (inl k) e = blank_at b x (law.blank (b - sp) x (sym (framed_in sp bytes inner f b k.0 k.1) ∙ e))
      at_b b x (inr k) e = h.stands b x (sym (out_false b k) ∙ e)

-- ---- the cells before a call

module _ (seg sp : ℕ) (ps : ℕ → ℕ) (f f2 : Cells) (base : segment_start seg ≤ sp) (top : sp ≤ segment_top seg)
    (last : segment_top seg ≤ stack_end) (s : Shape seg sp ps f)
    (same : (b : ℕ) → (segment_start seg ≤ b → sp ≤ b) → (b < stack_end → b < segment_top seg) → f2 b ≡ f b) where
  up : (b : ℕ) → Live seg sp ps b → segment_start seg ≤ b → sp ≤ b
  up b (OfOutput p q) l = absurd (omega arith)
  up b (OfData p q) l = omega arith
  up b (OfFrame p q r t) l = t
  up b (OfOlder p q r t) l = absurd (omega arith)

  under : (b : ℕ) → Live seg sp ps b → b < stack_end → b < segment_top seg
  under b (OfOutput p q) l = omega arith
  under b (OfData p q) l = absurd (omega arith)
  under b (OfFrame p q r t) l = q
  under b (OfOlder p q r t) l = omega arith

  -- what lies outside the frames since then is as it was, so the cells before stand when these are dropped
  pub facts_return : (c : ℕ → ℕ) (lo hi : ℕ) (m : ℕ → ℕ) (st : Bytes) → Facts c lo hi (dropped seg sp f2) m st
      → Facts c lo hi f m st
  facts_return c lo hi m st h = facts_fewer c lo hi (dropped seg sp f2) f m st (λ b x e. there b x (s.live b x e) e) h
    where
      there : (b : ℕ) (x : Cell) → Live seg sp ps b → f b ≡ Some x → dropped seg sp f2 b ≡ Some x
      there b x l e =
          let high = up b l in
          let out : (nat_le (segment_start seg) b && nat_lt b sp) ≡ false = not_between b high in
          ap (λ (t : Bool). if t then None else f2 b) out ∙ same b high (under b l) ∙ e
        where
          not_between : (b : ℕ) → (segment_start seg ≤ b → sp ≤ b) → (nat_le (segment_start seg) b && nat_lt b sp) ≡ false
          not_between b k = by (where_in (segment_start seg) sp b)
            where
              by : ((segment_start seg ≤ b) × (b < sp)) ⊎ ((nat_le (segment_start seg) b && nat_lt b sp) ≡ false)
                  → (nat_le (segment_start seg) b && nat_lt b sp) ≡ false
              by (inl z) = absurd (let a = z.1 in let d = k z.0 in omega arith)
              by (inr z) = z

  -- the same where a segment is left
  pub facts_below_again : (c : ℕ → ℕ) (lo hi : ℕ) (m : ℕ → ℕ) (st : Bytes) → Facts c lo hi (unlinked seg sp f2) m st
      → Facts c lo hi f m st
  facts_below_again c lo hi m st h = facts_fewer c lo hi (unlinked seg sp f2) f m st (λ b x e. there b x (s.live b x e) e) h
    where
      there : (b : ℕ) (x : Cell) → Live seg sp ps b → f b ≡ Some x → unlinked seg sp f2 b ≡ Some x
      there b x l e =
          let high = up b l in
          let low = under b l in
          let out1 : (nat_le (segment_start seg) b && nat_lt b sp) ≡ false = first b high in
          let out2 : (nat_le (segment_top seg) b && nat_lt b stack_end) ≡ false = second b low in
          ap (λ (t : Bool). if t || (nat_le (segment_top seg) b && nat_lt b stack_end) then None else f2 b) out1
          ∙ ap (λ (t : Bool). if t then None else f2 b) out2 ∙ same b high low ∙ e
        where
          first : (b : ℕ) → (segment_start seg ≤ b → sp ≤ b) → (nat_le (segment_start seg) b && nat_lt b sp) ≡ false
          first b k = by (where_in (segment_start seg) sp b)
            where
              by : ((segment_start seg ≤ b) × (b < sp)) ⊎ ((nat_le (segment_start seg) b && nat_lt b sp) ≡ false)
                  → (nat_le (segment_start seg) b && nat_lt b sp) ≡ false
              by (inl z) = absurd (let a = z.1 in let d = k z.0 in omega arith)
              by (inr z) = z

          second : (b : ℕ) → (b < stack_end → b < segment_top seg) → (nat_le (segment_top seg) b && nat_lt b stack_end) ≡ false
          second b k = by (where_in (segment_top seg) stack_end b)
            where
              by : ((segment_top seg ≤ b) × (b < stack_end)) ⊎ ((nat_le (segment_top seg) b && nat_lt b stack_end) ≡ false)
                  → (nat_le (segment_top seg) b && nat_lt b stack_end) ≡ false
              by (inl z) = absurd (let a = z.0 in let d = k z.1 in omega arith)
              by (inr z) = z
