-- The outputs as a list, and what emit adds to it.
use Rattle.std.proofs.Common.{◌≡◌, ◌≢◌, ℕ, zero, suc, ◌+◌, ◌-◌, ◌*◌, ◌/◌, ◌%◌, ◌<◌, ◌≤◌, refl, sym, ap, ◌∙◌, subst, arith, Bool, true, false, ◌⊎◌, inl, inr, List, [], ◌∷◌, ◌++◌, length, length-append, Option, Some, None, if◌then◌else◌}
use Rattle.std.proofs.Math.Path.{fun_ext}
use Rattle.std.proofs.lemmas.Bool.{ne_eqb, eq-eqb, le-leb, lt-ltb, cases_eq}
use Rattle.std.proofs.lemmas.Bool.Decides.{nat_tests}
use Rattle.std.specs.Prelude.{slice_get}
use Rattle.base16.specs.Board.{outputs_start, outputs_end}
use Rattle.base16.specs.declared.reading.Reading.{Reading}
use Rattle.base16.specs.declared.end.EndKind.TheVariants.{OutputFull}
use Rattle.isa430.specs.declared.instr.OneOp.TheVariants.{Call}
use Rattle.isa430.specs.declared.instr.Src.TheVariants.{Immediate}
use Rattle.isa430.specs.declared.instr.Instr.TheVariants.{One}
use Rattle.core430.specs.Uses.{AreWords}
use Rattle.core430.proofs.Truths.{and-both, true-not-false}
use Rattle.run430.specs.Code.{Here}
use Rattle.ideal430.specs.Places.{is_between, is_even}
use Rattle.ideal430.specs.Settled.{Bytes}
use Rattle.ideal430.specs.Ideal.{Meter}
use Rattle.ideal430.specs.declared.state.IdealEnd.TheVariants.{Running, Ended}
use Rattle.cells430.specs.Cells.{Cell, Word, Byte, Cells, set_cell, Live, OfOutput, Fits, Shape, Facts, output_cell, with_outputs}
use Rattle.cells430.specs.Stretch.{Course, behind, reached_regs, outside, at, Ground, Comes}
use Rattle.cells430.proofs.Cells.{set_cell-same, set_cell-other}
use Rattle.cells430.proofs.Outputs.{emits, emit_full}

-- ---- a list with one item more

get_last : (os : List ℕ) (w : ℕ) → slice_get (os ++ (w ∷ [])) (length os) ≡ Some w
get_last [] w = refl
get_last (x ∷ os) w = get_last os w

get_other : (os : List ℕ) (w i : ℕ) → i ≢ length os → slice_get (os ++ (w ∷ [])) i ≡ slice_get os i
get_other [] w zero n = absurd (n refl)
get_other [] w (suc i) n = refl
get_other (x ∷ os) w zero n = refl
get_other (x ∷ os) w (suc i) n = get_other os w i (λ e. n (ap suc e))

get_past : (os : List ℕ) (i : ℕ) → i ≡ length os → slice_get os i ≡ None
get_past [] i e = refl
get_past (x ∷ os) zero e = absurd (differ e)
  where
    differ : zero ≡ suc (length os) → ⊥
    differ k = omega arith
get_past (x ∷ os) (suc i) e = get_past os i (omega arith)

-- ---- the cells of outputs

between : (b : ℕ) → outputs_start ≤ b → b < outputs_end → is_between outputs_start outputs_end b ≡ true
between b l h = and-both (le-leb outputs_start b l) (lt-ltb b outputs_end h)

pub inside : (os : List ℕ) (f : Cells) (b : ℕ) → outputs_start ≤ b → b < outputs_end → with_outputs os f b ≡ output_cell os b
inside os f b l h = ap (λ (t : Bool). if t then output_cell os b else f b) (between b l h)

pub where_is : (b : ℕ) → ((outputs_start ≤ b) × (b < outputs_end)) ⊎ (is_between outputs_start outputs_end b ≡ false)
where_is b = from (is_between outputs_start outputs_end b) refl
  where
    low : is_between outputs_start outputs_end b ≡ true → outputs_start ≤ b
    low k = grind (arith, nat_tests)

    high : is_between outputs_start outputs_end b ≡ true → b < outputs_end
    high k = grind (arith, nat_tests)

    from : (t : Bool) → is_between outputs_start outputs_end b ≡ t
        → ((outputs_start ≤ b) × (b < outputs_end)) ⊎ (is_between outputs_start outputs_end b ≡ false)
    from true e = inl (low e, high e)
    from false e = inr e

pub outer : (os : List ℕ) (f : Cells) (b : ℕ) → is_between outputs_start outputs_end b ≡ false → with_outputs os f b ≡ f b
outer os f b e = ap (λ (t : Bool). if t then output_cell os b else f b) e

pub first_cell : (os : List ℕ) (b : ℕ) → b ≡ outputs_start → output_cell os b ≡ Some (Word (Some (length os)))
first_cell os b e = ap (λ (t : Bool). if t then Some (Word (Some (length os))) else
    (if is_even b then Some (Word (slice_get os ((b - outputs_start) / 2 - 1))) else None)) (eq-eqb b outputs_start e)

pub even_cell : (os : List ℕ) (b : ℕ) → b ≢ outputs_start → b % 2 ≡ 0
    → output_cell os b ≡ Some (Word (slice_get os ((b - outputs_start) / 2 - 1)))
even_cell os b n e =
    ap (λ (t : Bool). if t then Some (Word (Some (length os))) else
    (if is_even b then Some (Word (slice_get os ((b - outputs_start) / 2 - 1))) else None)) (ne_eqb b outputs_start n)
    ∙ ap (λ (t : Bool). if t then Some (Word (slice_get os ((b - outputs_start) / 2 - 1))) else None) (eq-eqb (b % 2) 0 e)

pub odd_cell : (os : List ℕ) (b : ℕ) → b % 2 ≢ 0 → output_cell os b ≡ None
odd_cell os b n =
    let d : b ≢ outputs_start = omega arith in
    ap (λ (t : Bool). if t then Some (Word (Some (length os))) else
    (if is_even b then Some (Word (slice_get os ((b - outputs_start) / 2 - 1))) else None)) (ne_eqb b outputs_start d)
    ∙ ap (λ (t : Bool). if t then Some (Word (slice_get os ((b - outputs_start) / 2 - 1))) else None) (ne_eqb (b % 2) 0 n)

-- the length is a cell
pub length_cell : (os : List ℕ) (f : Cells) → with_outputs os f outputs_start ≡ Some (Word (Some (length os)))
length_cell os f = refl

-- and so is the next place
pub place_cell : (os : List ℕ) (f : Cells) → length os < 256
    → with_outputs os f (outputs_start + 2 + 2 * length os) ≡ Some (Word None)
place_cell os f l =
    let n : outputs_start + 2 + 2 * length os ≢ outputs_start = omega arith in
    let i : (outputs_start + 2 + 2 * length os - outputs_start) / 2 - 1 ≡ length os = omega arith in
    inside os f (outputs_start + 2 + 2 * length os) (omega arith) (omega arith)
    ∙ even_cell os (outputs_start + 2 + 2 * length os) n (omega arith)
    ∙ ap (λ (o : Option ℕ). Some (Word o)) (get_past os ((outputs_start + 2 + 2 * length os - outputs_start) / 2 - 1) i)

-- outputs are live, whatever else is there
pub outputs_shape : (g sp : ℕ) (ps : ℕ → ℕ) (os : List ℕ) (f : Cells) → Shape g sp ps f → Shape g sp ps (with_outputs os f)
outputs_shape g sp ps os f s = record { live = λ b x e. live_at b x (where_is b) e; fits = λ b x e. fits_at b x (where_is b) e }
  where
    live_at : (b : ℕ) (x : Cell) → (((outputs_start ≤ b) × (b < outputs_end)) ⊎
        (is_between outputs_start outputs_end b ≡ false)) → with_outputs os f b ≡ Some x → Live g sp ps b
    live_at b x (inl k) e = OfOutput k.0 k.1
    live_at b x (inr k) e = s.live b x (sym (outer os f b k) ∙ e)

    none_some : {A : Type 0} (x : Cell) → None ≡ Some x → A
    none_some x e = absurd (differ e)
      where
        differ : None ≡ Some x → ⊥
        differ k = cc

    even_in : (b : ℕ) (x : Cell) → (outputs_start ≤ b) × (b < outputs_end) → ((b % 2 ≡ 0) ⊎ (b % 2 ≡ 0 → ⊥))
        → with_outputs os f b ≡ Some x → b % 2 ≡ 0
    even_in b x k (inl e) h = e
    even_in b x k (inr n) h = none_some x (sym (inside os f b k.0 k.1 ∙ odd_cell os b n) ∙ h)

    next_in : (b : ℕ) → (outputs_start ≤ b) × (b < outputs_end) → b % 2 ≡ 0 → with_outputs os f (b + 1) ≡ None
    next_in b k e = let l = k.0 in let h = k.1 in let odd : (b + 1) % 2 ≢ 0 = omega arith in
        inside os f (b + 1) (omega arith) (omega arith) ∙ odd_cell os (b + 1) odd

    fits_in : (b : ℕ) (x : Cell) → (outputs_start ≤ b) × (b < outputs_end) → b % 2 ≡ 0 → Fits (with_outputs os f) b x
    fits_in b (Word v) k e = (e, next_in b k e)
    fits_in b (Byte v) k e = tt

    fits_out : (b : ℕ) (x : Cell) → is_between outputs_start outputs_end b ≡ false → Fits f b x → Fits (with_outputs os f) b x
    fits_out b (Word v) k h =
        let even = h.0 in
        let out : is_between outputs_start outputs_end (b + 1) ≡ false = grind (arith, nat_tests) in
        (h.0, outer os f (b + 1) out ∙ h.1)
    fits_out b (Byte v) k h = tt

    fits_at : (b : ℕ) (x : Cell) → (((outputs_start ≤ b) × (b < outputs_end)) ⊎
        (is_between outputs_start outputs_end b ≡ false)) → with_outputs os f b ≡ Some x → Fits (with_outputs os f) b x
    fits_at b x (inl k) e = fits_in b x k (even_in b x k (cases_eq (b % 2) 0) e)
    fits_at b x (inr k) e = fits_out b x k (s.fits b x (sym (outer os f b k) ∙ e))

-- ---- one output more

module _ (os : List ℕ) (f : Cells) (w : ℕ) (room : length os < 256) where
  counted : length (os ++ (w ∷ [])) ≡ length os + 1
  counted = length-append os (w ∷ [])

  -- the word at the next place, and the length
  abbrev pub put_twice : Cells → Cells
  put_twice k = set_cell (set_cell k (outputs_start + 2 + 2 * length os) (Word (Some w))) outputs_start
      (Word (Some (length os + 1)))

  put_first : (k : Cells) (b : ℕ) → b ≡ outputs_start → put_twice k b ≡ Some (Word (Some (length os + 1)))
  put_first k b e = set_cell-same (set_cell k (outputs_start + 2 + 2 * length os) (Word (Some w))) outputs_start b
      (Word (Some (length os + 1))) e

  put_second : (k : Cells) (b : ℕ) → b ≢ outputs_start → b ≡ outputs_start + 2 + 2 * length os
      → put_twice k b ≡ Some (Word (Some w))
  put_second k b n e =
      set_cell-other (set_cell k (outputs_start + 2 + 2 * length os) (Word (Some w))) outputs_start b
      (Word (Some (length os + 1))) n
      ∙ set_cell-same k (outputs_start + 2 + 2 * length os) b (Word (Some w)) e

  put_neither : (k : Cells) (b : ℕ) → b ≢ outputs_start → b ≢ outputs_start + 2 + 2 * length os → put_twice k b ≡ k b
  put_neither k b n d =
      set_cell-other (set_cell k (outputs_start + 2 + 2 * length os) (Word (Some w))) outputs_start b
      (Word (Some (length os + 1))) n
      ∙ set_cell-other k (outputs_start + 2 + 2 * length os) b (Word (Some w)) d

  other_place : (b : ℕ) → outputs_start ≤ b → b ≢ outputs_start → b ≢ outputs_start + 2 + 2 * length os → b % 2 ≡ 0
      → (b - outputs_start) / 2 - 1 ≢ length os
  other_place b l n d z e =
      let two : outputs_start + 2 ≤ b = omega arith in
      let half : 2 * ((b - outputs_start) / 2) ≡ b - outputs_start = omega arith in
      d (omega arith)

  within : (b : ℕ) → outputs_start ≤ b → b < outputs_end → ((b ≡ outputs_start) ⊎ (b ≡ outputs_start → ⊥))
      → ((b ≡ outputs_start + 2 + 2 * length os) ⊎ (b ≡ outputs_start + 2 + 2 * length os → ⊥))
      → ((b % 2 ≡ 0) ⊎ (b % 2 ≡ 0 → ⊥))
      → put_twice (with_outputs os f) b ≡ output_cell (os ++ (w ∷ [])) b
  within b l h (inl e) y z = put_first (with_outputs os f) b e ∙ ap (λ (k : ℕ). Some (Word (Some k))) (sym counted)
      ∙ sym (first_cell (os ++ (w ∷ [])) b e)
  within b l h (inr n) (inl e) z =
      let i : (b - outputs_start) / 2 - 1 ≡ length os = omega arith in
      put_second (with_outputs os f) b n e
      ∙ sym (even_cell (os ++ (w ∷ [])) b n (omega arith) ∙ ap (λ (k : ℕ). Some (Word (slice_get (os ++ (w ∷ [])) k))) i
      ∙ ap (λ (o : Option ℕ). Some (Word o)) (get_last os w))
  within b l h (inr n) (inr d) (inl z) =
      let i : (b - outputs_start) / 2 - 1 ≢ length os = other_place b l n d z in
      put_neither (with_outputs os f) b n d ∙ inside os f b l h ∙ even_cell os b n z
      ∙ sym (even_cell (os ++ (w ∷ [])) b n z ∙ ap (λ (o : Option ℕ). Some (Word o))
      (get_other os w ((b - outputs_start) / 2 - 1) i))
  within b l h (inr n) (inr d) (inr z) = put_neither (with_outputs os f) b n d ∙ inside os f b l h ∙ odd_cell os b z
      ∙ sym (odd_cell (os ++ (w ∷ [])) b z)

  without : (b : ℕ) → is_between outputs_start outputs_end b ≡ false → put_twice (with_outputs os f) b ≡ f b
  without b e = put_neither (with_outputs os f) b (apart b outputs_start e (between outputs_start (omega arith) (omega arith)))
      (apart b (outputs_start + 2 + 2 * length os) e (between (outputs_start + 2 + 2 * length os) (omega arith) (omega arith)))
      ∙ outer os f b e
    where
      apart : (b k : ℕ) → is_between outputs_start outputs_end b ≡ false → is_between outputs_start outputs_end k ≡ true → b ≢ k
      apart b k e t is = true-not-false t (ap (is_between outputs_start outputs_end) (sym is) ∙ e)

  -- the next word is put at its place, and the length counts it
  pub outputs_after : put_twice (with_outputs os f) ≡ with_outputs (os ++ (w ∷ [])) f
  outputs_after = fun_ext (λ b. at_b b (where_is b))
    where
      at_b : (b : ℕ) → (((outputs_start ≤ b) × (b < outputs_end)) ⊎ (is_between outputs_start outputs_end b ≡ false))
          → put_twice (with_outputs os f) b ≡ with_outputs (os ++ (w ∷ [])) f b
      at_b b (inl k) = within b k.0 k.1 (cases_eq b outputs_start) (cases_eq b (outputs_start + 2 + 2 * length os))
          (cases_eq (b % 2) 0) ∙ sym (inside (os ++ (w ∷ [])) f b k.0 k.1)
      at_b b (inr k) = without b k ∙ sym (outer (os ++ (w ∷ [])) f b k)

-- ---- emit

module _ (c : ℕ → ℕ) (lo hi seg sp : ℕ) (ps : ℕ → ℕ) (g : Ground lo hi seg sp) (os : List ℕ) (f : Cells)
    (s : Shape seg sp ps (with_outputs os f)) where
  -- the word in R13 is the next output
  pub emits_output : (r m : ℕ → ℕ) (st : Bytes) (marks : ℕ) (left : List Reading) (q : Meter)
      → Facts c lo hi (with_outputs os f) m st → AreWords r → Here c lo hi (r 0) (One Call false (Immediate 65298)) → r 1 ≡ sp
      → length os < 256
      → Comes c lo hi (at seg ps r m st (outside marks left) q) Running seg ps (behind r) (outside (marks + 1) left)
      (with_outputs (os ++ (r 13 ∷ [])) f)
  emits_output r m st marks left q h wr here e room =
      subst (Comes c lo hi (at seg ps r m st (outside marks left) q) Running seg ps (behind r) (outside (marks + 1) left))
      (outputs_after os f (r 13) room)
      (emits c lo hi seg sp ps g (with_outputs os f) s r m st marks left q (length os) None h wr here e (length_cell os f) room
      (place_cell os f room))

  -- with 256 outputs there the run ends
  pub emit_ends : (r m : ℕ → ℕ) (st : Bytes) (x : Course) (q : Meter)
      → Facts c lo hi (with_outputs os f) m st → AreWords r → Here c lo hi (r 0) (One Call false (Immediate 65298)) → r 1 ≡ sp
      → length os ≡ 256
      → Comes c lo hi (at seg ps r m st x q) (Ended OutputFull) seg ps (reached_regs 9 sp r)
      x (with_outputs os f)
  emit_ends r m st x q h wr here e full =
      emit_full c lo hi seg sp ps g (with_outputs os f) s r m st x q h wr here e
      (length_cell os f ∙ ap (λ (k : ℕ). Some (Word (Some k))) full)
