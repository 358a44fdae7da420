-- What `enter` and `leave` do where SP stands at placed frames.
use Rattle.std.proofs.Common.{◌≡◌, ℕ, ◌+◌, ◌-◌, ◌*◌, ◌/◌, ◌%◌, ◌<◌, ◌≤◌, ◌⊎◌, Bool, true, false, not, ◌&&◌, ◌||◌, nat_eq, nat_lt, nat_le, Option, Some, None, [], ◌∷◌, refl, sym, ap, ◌∙◌, arith, inl, inr, if◌then◌else◌}
use Rattle.std.proofs.lemmas.Bool.Decides.{nat_tests}
use Rattle.base16.specs.Placement.{frame_below}
use Rattle.base16.specs.declared.end.EndKind.TheVariants.{StackFull}
use Rattle.core430.specs.Registers.{set_reg}
use Rattle.ideal430.specs.Service.{Block, Effect, Deed, Refuses, Does, mark, popped, has_stack, has_place, is_frame, is_linked, is_link, is_bad_link, wild_where, refusal_or, deed_if, deed_at, returned, link_address, leave_effect}
use Rattle.ideal430.specs.declared.service.Store.TheVariants.{Link}
use Rattle.segstack.specs.Frames.{IsCaller, working, entered, IsLinked, left}

-- ---- numbers

-- the working segment of a caller, and its bounds
pub record Stands (sp segment : ℕ) : Type 0 where
  pub even : sp % 2 ≡ 0
  pub above : 0x2000 + 256 * segment + 4 ≤ sp
  pub below : sp ≤ 0x2000 + 256 * segment + 256
  pub small : segment < 32
  pub top : sp ≡ 0x2000 + 256 * segment + 256 → segment ≡ 0

pub stands : (sp : ℕ) → IsCaller sp → Stands sp (working sp)
stands sp c =
    let even : sp % 2 ≡ 0 = c.even in
    let above : 0x2004 ≤ sp = c.above in
    let below : sp ≤ 0x4000 = c.below in
    let room : 4 ≤ (sp - 2) % 256 + 2 = c.room in
    let top : sp % 256 ≡ 0 → sp ≡ 0x2100 = c.top in
    record {
      even = even;
      above = omega arith;
      below = omega arith;
      small = omega arith;
      top = λ e. let z : sp ≡ 0x2100 = top (omega arith) in omega arith;
    }

frame-bounds : (bytes : ℕ) → is_frame bytes ≡ true → (bytes % 2 ≡ 0) × (4 ≤ bytes) × (bytes ≤ 240)
frame-bounds bytes h = (even bytes h, low bytes h, high bytes h)
  where
    even : (bytes : ℕ) → is_frame bytes ≡ true → bytes % 2 ≡ 0
    even bytes h = grind (arith, nat_tests)

    low : (bytes : ℕ) → is_frame bytes ≡ true → 4 ≤ bytes
    low bytes h = grind (arith, nat_tests)

    high : (bytes : ℕ) → is_frame bytes ≡ true → bytes ≤ 240
    high bytes h = grind (arith, nat_tests)

has : (segment sp : ℕ) → sp % 2 ≡ 0 → 0x2000 + 256 * segment ≤ sp → sp < 0x2000 + 256 * segment + 256
    → has_stack segment sp ≡ true
has segment sp e l h = grind (arith, nat_tests)

pub differ : (a b : ℕ) → a < b → nat_eq a b ≡ false
differ a b h = grind (arith, nat_tests)

pub differ-up : (a b : ℕ) → b < a → nat_eq a b ≡ false
differ-up a b h = grind (arith, nat_tests)

pub alike : (a b : ℕ) → a ≡ b → nat_eq a b ≡ true
alike a b h = grind (arith, nat_tests)

pub not-less : (a b : ℕ) → b ≤ a → nat_lt a b ≡ false
not-less a b h = grind (arith, nat_tests)

less : (a b : ℕ) → nat_lt a b ≡ true → a < b
less a b h = grind (arith, nat_tests)

at-least : (a b : ℕ) → nat_lt a b ≡ false → b ≤ a
at-least a b h = grind (arith, nat_tests)

fits : (a b : ℕ) → nat_le a b ≡ true → a ≤ b
fits a b h = grind (arith, nat_tests)

too-large : (a b : ℕ) → nat_le a b ≡ false → b < a
too-large a b h = grind (arith, nat_tests)

same-places : (a b c d : ℕ) → a ≡ c → b ≡ d → nat_le a b ≡ nat_le c d
same-places a b c d e f = ap (λ x. nat_le x b) e ∙ ap (λ x. nat_le c x) f

last-or-next : (segment base : ℕ) → segment < 32 → base ≡ 0x2000 + 256 * segment
    → nat_lt base 0x3F00 ≡ not (nat_eq segment 31)
last-or-next segment base l e = grind (arith, nat_tests)

-- ---- enter

-- the choices of the service and of the placement, each a test
enter-chosen : (stack frame top big here here2 last next : Bool) (a x1 x2 : ℕ) (e1 e2 : Effect) (D : Option ℕ → Deed)
    → stack ≡ true → frame ≡ true → top ≡ false → big ≡ false → here2 ≡ here → next ≡ not last → D None ≡ Refuses StackFull
    → (here ≡ true → Does e1 ≡ D (Some x1)) → (here ≡ false → last ≡ false → Does e2 ≡ D (Some x2))
    → deed_if (refusal_or (wild_where (not stack) a (wild_where (not frame) a (wild_where top a None)))
    (if here || not last then None else Some StackFull)) (if here then e1 else e2)
    ≡ D (if big then None else (if here2 then Some x1 else (if next then Some x2 else None)))
enter-chosen stack frame top big true here2 last next a x1 x2 e1 e2 D s f t b h n z i j =
    rw (s, f, t, b, h) (i refl)
enter-chosen stack frame top big false here2 true next a x1 x2 e1 e2 D s f t b h n z i j =
    rw (s, f, t, b, h, n) (sym z)
enter-chosen stack frame top big false here2 false next a x1 x2 e1 e2 D s f t b h n z i j =
    rw (s, f, t, b, h, n) (j refl refl)

entered-here : (q : ℕ → ℕ) (at at2 segment w bytes p : ℕ) → at2 ≡ at → w ≡ segment
    → Does (mark (set_reg q 1 at) segment [])
    ≡ Does (mark (set_reg q 1 at2) w (if nat_eq w segment then [] else Link (at2 + bytes) p ∷ []))
entered-here q at at2 segment w bytes p e f = rw (e, f, alike segment segment refl) refl

entered-next : (q : ℕ → ℕ) (link at2 segment w bytes p : ℕ) → at2 + bytes ≡ link → w ≡ segment + 1
    → Does (mark (set_reg q 1 (link - bytes)) (segment + 1) (Link link p ∷ []))
    ≡ Does (mark (set_reg q 1 at2) w (if nat_eq w segment then [] else Link (at2 + bytes) p ∷ []))
entered-next q link at2 segment w bytes p e f =
    let g : link - bytes ≡ at2 = omega arith in
    let d : nat_eq (segment + 1) segment ≡ false = grind (arith, nat_tests) in
    rw (e, f, d, g) refl

-- a frame that has its place in the segment of its return word, or in the next one
pub goes-here : (sp segment bytes at : ℕ) → 0x2000 + 256 * segment + bytes + 4 ≤ sp - 2
    → sp ≤ 0x2000 + 256 * segment + 256 → at ≡ sp - 2 - bytes → working at ≡ segment
goes-here sp segment bytes at h l e = omega arith

pub goes-next : (segment bytes at : ℕ) → 4 ≤ bytes → bytes ≤ 240 → at + bytes ≡ 0x2000 + 256 * segment + 510
    → working at ≡ segment + 1
goes-next segment bytes at l h e = omega arith

enter-numbers : (value : ℕ) (r m : ℕ → ℕ) (block : Block) (segment base : ℕ) → Stands (r 1 + 4) segment → is_frame (r 15) ≡ true
    → base ≡ 0x2000 + 256 * segment → working (r 1 + 4) ≡ segment
    → deed_at 1 value r m segment block
    ≡ entered r m (if nat_lt 240 (r 15) then None else (if nat_le (base + r 15 + 4) (r 1 + 4 - 2) then Some (r 1 + 4 - 2 - r 15)
    else (if nat_lt base 0x3F00 then Some (base + 512 - 2 - r 15) else None)))
enter-numbers value r m block segment base s f is w =
    let even : (r 1 + 4) % 2 ≡ 0 = s.even in
    let above : 0x2000 + 256 * segment + 4 ≤ r 1 + 4 = s.above in
    let below : r 1 + 4 ≤ 0x2000 + 256 * segment + 256 = s.below in
    let b = frame-bounds (r 15) f in
    let low : 4 ≤ r 15 = b.1 in
    let high : r 15 ≤ 240 = b.2 in
    enter-chosen (has_stack segment (r 1)) (is_frame (r 15)) (nat_eq (r 1 + 2) (0x2000 + 256 * segment + 256))
    (nat_lt 240 (r 15)) (has_place segment (r 1 + 2) (r 15)) (nat_le (base + r 15 + 4) (r 1 + 4 - 2)) (nat_eq segment 31)
    (nat_lt base 0x3F00) (r 1) (r 1 + 4 - 2 - r 15) (base + 512 - 2 - r 15)
    (mark (set_reg (popped r m) 1 (r 1 + 2 - r 15)) segment [])
    (mark (set_reg (popped r m) 1 (link_address segment - r 15)) (segment + 1)
    (Link (link_address segment) (r 1 + 2) ∷ []))
    (entered r m)
    (has segment (r 1) (omega arith) (omega arith) (omega arith)) f
    (differ (r 1 + 2) (0x2000 + 256 * segment + 256) (omega arith)) (not-less 240 (r 15) high)
    (same-places (base + r 15 + 4) (r 1 + 4 - 2) (0x2000 + 256 * segment + r 15 + 4) (r 1 + 2)
    (ap (λ x. x + r 15 + 4) is) (omega arith))
    (last-or-next segment base s.small is) refl
    (λ h. let k : 0x2000 + 256 * segment + r 15 + 4 ≤ r 1 + 2 = fits (0x2000 + 256 * segment + r 15 + 4) (r 1 + 2) h in
    rw w (entered-here (popped r m) (r 1 + 2 - r 15) (r 1 + 4 - 2 - r 15) segment (working (r 1 + 4 - 2 - r 15)) (r 15)
    (r 1 + 2) (omega arith) (goes-here (r 1 + 4) segment (r 15) (r 1 + 4 - 2 - r 15) (omega arith) below refl)))
    (λ h l. let e : base + 512 - 2 - r 15 + r 15 ≡ link_address segment = omega arith in
    rw w (entered-next (popped r m) (link_address segment) (base + 512 - 2 - r 15) segment (working (base + 512 - 2 - r 15)) (r 15)
    (r 1 + 2) e (goes-next segment (r 15) (base + 512 - 2 - r 15) low high (omega arith))))

pub enter-deed : (value : ℕ) (r m : ℕ → ℕ) (block : Block) → IsCaller (r 1 + 4) → is_frame (r 15) ≡ true
    → deed_at 1 value r m (working (r 1 + 4)) block ≡ entered r m (frame_below (r 1 + 4) (r 15))
unfolding frame_below
enter-deed value r m block c f =
    let s = stands (r 1 + 4) c in
    let even : (r 1 + 4) % 2 ≡ 0 = s.even in
    let above : 0x2000 + 256 * working (r 1 + 4) + 4 ≤ r 1 + 4 = s.above in
    enter-numbers value r m block (working (r 1 + 4)) ((r 1 + 4 - 2) / 256 * 256) s f (omega arith) refl

-- ---- where a frame was placed

-- with its return word, or in the next segment
pub data Placed (sp segment bytes at : ℕ) : Type 0 where
  Here : 0x2000 + 256 * segment + bytes + 4 ≤ sp - 2 → at + bytes ≡ sp - 2 → Placed sp segment bytes at
  Next : sp - 2 < 0x2000 + 256 * segment + bytes + 4 → segment < 31 → at + bytes ≡ 0x2000 + 256 * segment + 510
      → Placed sp segment bytes at

placed-by : (sp segment bytes at base : ℕ) (big here next : Bool) → nat_le (base + bytes + 4) (sp - 2) ≡ here
    → nat_lt base 0x3F00 ≡ next → base ≡ 0x2000 + 256 * segment → bytes ≤ 240 → nat_lt 240 bytes ≡ big
    → (if big then None else (if here then Some (sp - 2 - bytes) else (if next then Some (base + 512 - 2 - bytes) else None)))
    ≡ Some at → Placed sp segment bytes at
placed-by sp segment bytes at base true here next h n is l b e = absurd (cc)
placed-by sp segment bytes at base false true next h n is l b e =
    let k : base + bytes + 4 ≤ sp - 2 = fits (base + bytes + 4) (sp - 2) h in
    let e2 : sp - 2 - bytes ≡ at = cc in
    Here (omega arith) (omega arith)
placed-by sp segment bytes at base false false true h n is l b e =
    let k : sp - 2 < base + bytes + 4 = too-large (base + bytes + 4) (sp - 2) h in
    let o : base < 0x3F00 = less base 0x3F00 n in
    let e2 : base + 512 - 2 - bytes ≡ at = cc in
    Next (omega arith) (omega arith) (omega arith)
placed-by sp segment bytes at base false false false h n is l b e = absurd (cc)

pub placed : (sp bytes at : ℕ) → IsCaller sp → bytes ≤ 240 → frame_below sp bytes ≡ Some at → Placed sp (working sp) bytes at
unfolding frame_below
placed sp bytes at c l e =
    let s = stands sp c in
    let above : 0x2000 + 256 * working sp + 4 ≤ sp = s.above in
    placed-by sp (working sp) bytes at ((sp - 2) / 256 * 256) (nat_lt 240 bytes)
    (nat_le ((sp - 2) / 256 * 256 + bytes + 4) (sp - 2)) (nat_lt ((sp - 2) / 256 * 256) 0x3F00) refl refl (omega arith) l refl e

pub caller-next : (sp bytes at : ℕ) → IsCaller sp → is_frame bytes ≡ true → frame_below sp bytes ≡ Some at → IsCaller at
caller-next sp bytes at c f e =
    let s = stands sp c in
    let even : sp % 2 ≡ 0 = s.even in
    let above : 0x2000 + 256 * working sp + 4 ≤ sp = s.above in
    let below : sp ≤ 0x2000 + 256 * working sp + 256 = s.below in
    let small : working sp < 32 = s.small in
    let b = frame-bounds bytes f in
    by (working sp) above below small b.0 b.1 b.2 (placed sp bytes at c b.2 e)
  where
    by : (segment : ℕ) → 0x2000 + 256 * segment + 4 ≤ sp → sp ≤ 0x2000 + 256 * segment + 256 → segment < 32
        → bytes % 2 ≡ 0 → 4 ≤ bytes → bytes ≤ 240 → Placed sp segment bytes at → IsCaller at
    by segment above below small be low high (Here k e) = let even : sp % 2 ≡ 0 = c.even in record {
      even = omega arith;
      above = omega arith;
      below = omega arith;
      room = omega arith;
      top = λ z. absurd (omega arith);
    }
    by segment above below small be low high (Next k o e) = record {
      even = omega arith;
      above = omega arith;
      below = omega arith;
      room = omega arith;
      top = λ z. absurd (omega arith);
    }

-- ---- leave

leave-chosen : (stack frame past bad : Bool) (a : ℕ) (e : Effect) → stack ≡ true → frame ≡ true → past ≡ false → bad ≡ false
    → deed_if (refusal_or (wild_where (not stack) a (wild_where (not frame) a (wild_where past a (wild_where bad a None)))) None) e
    ≡ Does e
leave-chosen stack frame past bad a e s f p b = rw (s, f, p, b) refl

left-here : (q m : ℕ → ℕ) (segment w end sp : ℕ) (linked : Bool) (e1 : Effect) → linked ≡ false → end ≡ sp - 2 → 4 ≤ sp
    → w ≡ segment → (nat_eq w 0 && nat_eq end 0x20FE) ≡ nat_eq sp 0x2100
    → Does (if linked then e1 else (record (mark (returned q m end) w []) { ends = nat_eq w 0 && nat_eq end 0x20FE }))
    ≡ Does (record (mark (set_reg (set_reg q 0 (m (sp - 2))) 1 sp) segment []) { ends = nat_eq sp 0x2100 })
left-here q m segment w end sp linked e1 l e low same ends =
    let back : sp - 2 + 2 ≡ sp = omega arith in
    rw (l, ends, e, same, back) refl

left-next : (q m : ℕ → ℕ) (segment w end sp : ℕ) (linked : Bool) (e2 : Effect) → linked ≡ true → m end ≡ sp - 2 → 4 ≤ sp
    → w - 1 ≡ segment → nat_eq sp 0x2100 ≡ false
    → Does (if linked then mark (returned q m (m end)) (w - 1) [] else e2)
    ≡ Does (record (mark (set_reg (set_reg q 0 (m (sp - 2))) 1 sp) segment []) { ends = nat_eq sp 0x2100 })
left-next q m segment w end sp linked e2 l e low same ends =
    let back : sp - 2 + 2 ≡ sp = omega arith in
    rw (l, ends, e, same, back) refl

not-linked : (segment end : ℕ) → (end + 2 ≡ 0x2000 + 256 * segment + 256 → segment ≡ 0) → is_linked segment end ≡ false
not-linked segment end h = by (nat_lt 0 segment) (nat_eq (end + 2) (0x2000 + 256 * segment + 256)) refl refl
  where
    by : (b c : Bool) → nat_lt 0 segment ≡ b → nat_eq (end + 2) (0x2000 + 256 * segment + 256) ≡ c → (b && c) ≡ false
    by true true e f =
        let k : 0 < segment = less 0 segment e in
        let z : segment ≡ 0 = h (equal (end + 2) (0x2000 + 256 * segment + 256) f) in
        absurd (omega arith)
      where
        equal : (a b : ℕ) → nat_eq a b ≡ true → a ≡ b
        equal a b h = grind (arith, nat_tests)
    by true false e f = refl
    by false c e f = refl

is-linked : (segment end : ℕ) → 0 < segment → end + 2 ≡ 0x2000 + 256 * segment + 256 → is_linked segment end ≡ true
is-linked segment end l e = grind (arith, nat_tests)

good-link : (m : ℕ → ℕ) (segment end : ℕ) → is_link segment (m end) ≡ true → is_bad_link m segment end ≡ false
good-link m segment end h = by (is_linked segment end) (is_link segment (m end)) h
  where
    by : (b c : Bool) → c ≡ true → (b && not c) ≡ false
    by true c e = rw e refl
    by false c e = refl

no-bad-link : (m : ℕ → ℕ) (segment end : ℕ) → is_linked segment end ≡ false → is_bad_link m segment end ≡ false
no-bad-link m segment end h = rw h refl

outermost : (segment end sp : ℕ) → end + 2 ≡ sp → 0x2000 + 256 * segment + 4 ≤ sp → sp ≤ 0x2000 + 256 * segment + 256
    → (nat_eq segment 0 && nat_eq end 0x20FE) ≡ nat_eq sp 0x2100
outermost segment end sp e above below = by (nat_eq segment 0) refl
  where
    zero-first : nat_eq segment 0 ≡ true → nat_eq end 0x20FE ≡ nat_eq sp 0x2100
    zero-first h = grind (arith, nat_tests)

    later : nat_eq segment 0 ≡ false → 0x2100 < sp
    later h = let k : 0 < segment = grind (arith, nat_tests) in omega arith

    by : (b : Bool) → nat_eq segment 0 ≡ b → (b && nat_eq end 0x20FE) ≡ nat_eq sp 0x2100
    by true h = zero-first h
    by false h = sym (differ-up sp 0x2100 (later h))

leave-by : (value : ℕ) (r m : ℕ → ℕ) (block : Block) (sp segment w : ℕ) → Stands sp segment → is_frame (r 15) ≡ true
    → Placed sp segment (r 15) (r 1 + 2) → working (r 1 + 2) ≡ w → working sp ≡ segment
    → (w ≡ segment) ⊎ (m (r 1 + 2 + r 15) ≡ sp - 2)
    → deed_at 2 value r m w block ≡ left r m sp
leave-by value r m block sp segment w s f (Here k e) here is linked =
    let even : sp % 2 ≡ 0 = s.even in
    let above : 0x2000 + 256 * segment + 4 ≤ sp = s.above in
    let below : sp ≤ 0x2000 + 256 * segment + 256 = s.below in
    let b = frame-bounds (r 15) f in
    let be : r 15 % 2 ≡ 0 = b.0 in
    let low : 4 ≤ r 15 = b.1 in
    let high : r 15 ≤ 240 = b.2 in
    let same : w ≡ segment = sym here ∙ goes-here sp segment (r 15) (r 1 + 2) k below (omega arith) in
    let none : is_linked w (r 1 + 2 + r 15) ≡ false =
    not-linked w (r 1 + 2 + r 15) (λ z. same ∙ s.top (omega arith)) in
    leave-chosen (has_stack w (r 1)) (is_frame (r 15)) (nat_lt (0x2000 + 256 * w + 256) (r 1 + 2 + r 15 + 2))
    (is_bad_link m w (r 1 + 2 + r 15)) (r 1) (leave_effect (popped r m) m w (r 1 + 2 + r 15))
    (has w (r 1) (omega arith) (omega arith) (omega arith)) f
    (not-less (0x2000 + 256 * w + 256) (r 1 + 2 + r 15 + 2) (omega arith))
    (no-bad-link m w (r 1 + 2 + r 15) none)
    ∙ rw is (left-here (popped r m) m segment w (r 1 + 2 + r 15) sp (is_linked w (r 1 + 2 + r 15))
    (mark (returned (popped r m) m (m (r 1 + 2 + r 15))) (w - 1) []) none e (omega arith) same
    (outermost w (r 1 + 2 + r 15) sp (omega arith) (omega arith) (omega arith)))
leave-by value r m block sp segment w s f (Next k o e) here is linked =
    let even : sp % 2 ≡ 0 = s.even in
    let above : 0x2000 + 256 * segment + 4 ≤ sp = s.above in
    let below : sp ≤ 0x2000 + 256 * segment + 256 = s.below in
    let b = frame-bounds (r 15) f in
    let be : r 15 % 2 ≡ 0 = b.0 in
    let low : 4 ≤ r 15 = b.1 in
    let high : r 15 ≤ 240 = b.2 in
    let next : w ≡ segment + 1 = sym here ∙ goes-next segment (r 15) (r 1 + 2) low high e in
    let link : m (r 1 + 2 + r 15) ≡ sp - 2 = elim linked [ inl z ↦ absurd (omega arith) | inr z ↦ z ] in
    let less-one : w - 1 ≡ segment = omega arith in
    let behind : is_linked w (r 1 + 2 + r 15) ≡ true = is-linked w (r 1 + 2 + r 15) (omega arith) (omega arith) in
    let good : is_link w (m (r 1 + 2 + r 15)) ≡ true =
    rw (link, less-one) (has segment (sp - 2) (omega arith) (omega arith) (omega arith)) in
    leave-chosen (has_stack w (r 1)) (is_frame (r 15)) (nat_lt (0x2000 + 256 * w + 256) (r 1 + 2 + r 15 + 2))
    (is_bad_link m w (r 1 + 2 + r 15)) (r 1) (leave_effect (popped r m) m w (r 1 + 2 + r 15))
    (has w (r 1) (omega arith) (omega arith) (omega arith)) f
    (not-less (0x2000 + 256 * w + 256) (r 1 + 2 + r 15 + 2) (omega arith))
    (good-link m w (r 1 + 2 + r 15) good)
    ∙ rw is (left-next (popped r m) m segment w (r 1 + 2 + r 15) sp (is_linked w (r 1 + 2 + r 15))
    (record (mark (returned (popped r m) m (r 1 + 2 + r 15)) w []) { ends = nat_eq w 0 && nat_eq (r 1 + 2 + r 15) 0x20FE })
    behind link (omega arith) less-one (unequal sp 0x2100 (λ z. omega arith)))
  where
    unequal : (a b : ℕ) → (a ≡ b → ⊥) → nat_eq a b ≡ false
    unequal a b h = grind (arith, nat_tests)

pub leave-deed : (value : ℕ) (r m : ℕ → ℕ) (block : Block) (sp : ℕ) → IsCaller sp → is_frame (r 15) ≡ true
    → frame_below sp (r 15) ≡ Some (r 1 + 2) → IsLinked m sp (r 1 + 2) (r 15)
    → deed_at 2 value r m (working (r 1 + 2)) block ≡ left r m sp
leave-deed value r m block sp c f e linked =
    leave-by value r m block sp (working sp) (working (r 1 + 2)) (stands sp c) f
    (placed sp (r 15) (r 1 + 2) c (frame-bounds (r 15) f).2 e) refl refl linked
