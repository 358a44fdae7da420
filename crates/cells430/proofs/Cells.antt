-- Cells after a write and after a step.
use Rattle.std.proofs.Common.{◌≡◌, ◌≢◌, ℕ, ◌+◌, ◌-◌, ◌/◌, ◌%◌, ◌<◌, ◌≤◌, refl, sym, ap, ◌∙◌, subst, arith, Bool, true, ◌⊎◌, inl, inr, Option, Some, None}
use Rattle.std.proofs.lemmas.Bool.{ne_eqb, eq-eqb, cases_eq}
use Rattle.std.proofs.lemmas.Bool.Decides.{nat_tests}
use Rattle.std.specs.Prelude.{if◌then◌else◌}
use Rattle.base16.specs.Board.{stack_start, stack_end, segment_start, segment_top, code_start}
use Rattle.base16.specs.Memory.{put}
use Rattle.base16.proofs.Writes.{put-at, put-other}
use Rattle.core430.specs.Bytes.{byte_in, byte_at, with_byte}
use Rattle.core430.specs.Uses.{AreWords}
use Rattle.run430.specs.Code.{put_byte}
use Rattle.run430.proofs.Bytes.{byte_at-same, byte_at-other, put_byte-other}
use Rattle.ideal430.specs.Places.{is_fixed}
use Rattle.ideal430.specs.Settled.{Bytes, settled_after}
use Rattle.cells430.specs.Cells.{Cell, Word, Byte, Cells, CellAt, set_cell, Live, OfOutput, OfData, OfFrame, OfOlder, Fits, Shape, HasCode, Facts}
use Rattle.cells430.proofs.Settling.{settle-fixed, settle-kept, settle-new}

-- ---- maps

pub set_cell-same : (f : Cells) (a b : ℕ) (x : Cell) → b ≡ a → set_cell f a x b ≡ Some x
set_cell-same f a b x e = ap (λ (t : Bool). if t then Some x else f b) (eq-eqb b a e)

pub set_cell-other : (f : Cells) (a b : ℕ) (x : Cell) → b ≢ a → set_cell f a x b ≡ f b
set_cell-other f a b x e = ap (λ (t : Bool). if t then Some x else f b) (ne_eqb b a e)

pub some_none : {A : Type 0} (o : Option Cell) (x : Cell) → o ≡ Some x → o ≡ None → A
some_none o x e k = absurd (differ (sym e ∙ k))
  where
    differ : Some x ≡ None → ⊥
    differ h = cc

pub same_cell : (x y : Cell) → Some x ≡ Some y → x ≡ y
same_cell x y e = cc

-- ---- live bytes

-- the next byte of a live word is live too
pub live_next : (g sp : ℕ) (ps : ℕ → ℕ) (a : ℕ) → a % 2 ≡ 0 → Live g sp ps a → Live g sp ps (a + 1)
live_next g sp ps a e (OfOutput l k) = OfOutput (omega arith) (omega arith)
live_next g sp ps a e (OfData l k) = OfData (omega arith) (omega arith)
live_next g sp ps a e (OfFrame l k t m) = OfFrame (omega arith) (omega arith) t (omega arith)
live_next g sp ps a e (OfOlder l k t m) =
    let same : (a + 1 - stack_start) / 256 ≡ (a - stack_start) / 256 = omega arith in
    OfOlder (omega arith) (omega arith) t (rw same (omega arith))

-- with a lower stack pointer no less is live
pub live_lower : (g sp sp2 : ℕ) (ps : ℕ → ℕ) (a : ℕ) → sp2 ≤ sp → Live g sp ps a → Live g sp2 ps a
live_lower g sp sp2 ps a h (OfOutput l k) = OfOutput l k
live_lower g sp sp2 ps a h (OfData l k) = OfData l k
live_lower g sp sp2 ps a h (OfFrame l k t m) = OfFrame l k t (omega arith)
live_lower g sp sp2 ps a h (OfOlder l k t m) = OfOlder l k t m

-- no code is live
pub live_below : (g sp : ℕ) (ps : ℕ → ℕ) (a : ℕ) → Live g sp ps a → a < code_start
live_below g sp ps a (OfOutput l k) = omega arith
live_below g sp ps a (OfData l k) = omega arith
live_below g sp ps a (OfFrame l k t m) = omega arith
live_below g sp ps a (OfOlder l k t m) = omega arith

-- ---- shapes

pub shape_lower : (g sp sp2 : ℕ) (ps : ℕ → ℕ) (f : Cells) → sp2 ≤ sp → Shape g sp ps f → Shape g sp2 ps f
shape_lower g sp sp2 ps f h s = record { live = λ a x e. live_lower g sp sp2 ps a h (s.live a x e); fits = s.fits }

-- a word takes up two bytes
pub second_byte : (g sp : ℕ) (ps : ℕ → ℕ) (f : Cells) → Shape g sp ps f → (a b : ℕ) (x : Cell) (v : Option ℕ) → f a ≡ Some x
    → f b ≡ Some (Word v) → b + 1 ≢ a
second_byte g sp ps f s a b x v e k h = some_none (f a) x e (ap f (sym h) ∙ (s.fits b (Word v) k).1)

module _ (g sp : ℕ) (ps : ℕ → ℕ) (f : Cells) (s : Shape g sp ps f) where
  -- a cell that fits is put
  pub shape_put : (a : ℕ) (x : Cell) → Live g sp ps a → Fits f a x → ((b : ℕ) (v : Option ℕ) → f b ≡ Some (Word v) → b + 1 ≢ a)
      → Shape g sp ps (set_cell f a x)
  shape_put a x live fit apart = record {
    live = λ b y e. live_at b y (cases_eq b a) e;
    fits =
        λ b y e. fits_at b y (cases_eq b a) e;
  }
    where
      live_at : (b : ℕ) (y : Cell) → ((b ≡ a) ⊎ (b ≡ a → ⊥)) → set_cell f a x b ≡ Some y → Live g sp ps b
      live_at b y (inl e) k = subst (Live g sp ps) (sym e) live
      live_at b y (inr n) k = s.live b y (sym (set_cell-other f a b x n) ∙ k)

      still : (b : ℕ) (y : Cell) → f b ≡ Some y → Fits f b y → Fits (set_cell f a x) b y
      still b (Word v) e h = (h.0, set_cell-other f a (b + 1) x (apart b v e) ∙ h.1)
      still b (Byte v) e h = tt

      here : (y : Cell) → Fits f a y → Fits (set_cell f a x) a y
      here (Word v) h = let n : a + 1 ≢ a = omega arith in (h.0, set_cell-other f a (a + 1) x n ∙ h.1)
      here (Byte v) h = tt

      fits_at : (b : ℕ) (y : Cell) → ((b ≡ a) ⊎ (b ≡ a → ⊥)) → set_cell f a x b ≡ Some y → Fits (set_cell f a x) b y
      fits_at b y (inl e) k =
          let is : x ≡ y = same_cell x y (sym (set_cell-same f a b x e) ∙ k) in
          subst (λ (z : ℕ). Fits (set_cell f a x) z y) (sym e) (subst (Fits (set_cell f a x) a) is (here x fit))
      fits_at b y (inr n) k = let fb : f b ≡ Some y = sym (set_cell-other f a b x n) ∙ k in still b y fb (s.fits b y fb)

  -- the value of a cell has no part in the shape
  pub shape_set : (a : ℕ) (old new : Option ℕ) → f a ≡ Some (Word old) → Shape g sp ps (set_cell f a (Word new))
  shape_set a old new e =
      shape_put a (Word new) (s.live a (Word old) e) (s.fits a (Word old) e)
      (λ b v k. second_byte g sp ps f s a b (Word old) v e k)

  pub shape_set_byte : (a : ℕ) (old new : Option ℕ) → f a ≡ Some (Byte old) → Shape g sp ps (set_cell f a (Byte new))
  shape_set_byte a old new e =
      shape_put a (Byte new) (s.live a (Byte old) e) tt (λ b v k. second_byte g sp ps f s a b (Byte old) v e k)

-- ---- what stands

-- a word is known by its bytes
put_words : (m : ℕ → ℕ) (a w : ℕ) → w < 65536 → AreWords m → AreWords (put m a w)
put_words m a w h k b = by_case (cases_eq b a)
  where
    by_case : ((b ≡ a) ⊎ (b ≡ a → ⊥)) → put m a w b < 65536
    by_case (inl e) = subst (λ (x : ℕ). x < 65536) (sym (put-at m a b w e)) h
    by_case (inr n) = subst (λ (x : ℕ). x < 65536) (sym (put-other m a w b n)) (k b)

-- a cell elsewhere, when a word is written
cell_put : (m : ℕ → ℕ) (st : Bytes) (a b w : ℕ) (x : Cell) → a % 2 ≡ 0 → b ≢ a → b ≢ a + 1 → CellAt m st b x
    → CellAt (put m a w) st b x
cell_put m st a b w (Word (Some v)) even n n2 h = (put-other m a w b n ∙ h.0, h.1, h.2)
cell_put m st a b w (Byte (Some v)) even n n2 h = let d : b - b % 2 ≢ a = omega arith in
    (ap (byte_in b) (put-other m a w (b - b % 2) d) ∙ h.0, h.1)
cell_put m st a b w (Word None) even n n2 h = tt
cell_put m st a b w (Byte None) even n n2 h = tt

cell_more : (g sp : ℕ) (ps : ℕ → ℕ) (f : Cells) (m : ℕ → ℕ) (st st2 : Bytes) (a : ℕ) (x : Cell)
    → ((b : ℕ) → Live g sp ps b → st b ≡ true → st2 b ≡ true) → Live g sp ps a → Fits f a x → CellAt m st a x → CellAt m st2 a x
cell_more g sp ps f m st st2 a (Word (Some v)) up l fit h = (h.0, up a l h.1, up (a + 1) (live_next g sp ps a fit.0 l) h.2)
cell_more g sp ps f m st st2 a (Byte (Some v)) up l fit h = (h.0, up a l h.1)
cell_more g sp ps f m st st2 a (Word None) up l fit h = tt
cell_more g sp ps f m st st2 a (Byte None) up l fit h = tt

module _ (c : ℕ → ℕ) (lo hi : ℕ) (f : Cells) where
  -- other bytes may be settled, if live ones stay so
  pub facts_more : (g sp : ℕ) (ps : ℕ → ℕ) (s : Shape g sp ps f) (m : ℕ → ℕ) (st st2 : Bytes)
      → ((b : ℕ) → Live g sp ps b → st b ≡ true → st2 b ≡ true) → ((b : ℕ) → is_fixed b ≡ true → st2 b ≡ true)
      → Facts c lo hi f m st → Facts c lo hi f m st2
  facts_more g sp ps s m st st2 up fixed h = record {
    code = h.code;
    stands = λ a x e. cell_more g sp ps f m st st2 a x up (s.live a x e) (s.fits a x e) (h.stands a x e);
    lasting = fixed;
    words = h.words;
  }

  -- after a step that writes nothing of it
  pub facts_settle : (g sp : ℕ) (ps : ℕ → ℕ) (s : Shape g sp ps f) (sp2 : ℕ) (w : Bytes) (m : ℕ → ℕ) (st : Bytes) → sp2 ≤ sp
      → Facts c lo hi f m st → Facts c lo hi f m (settled_after g sp2 ps w st)
  facts_settle g sp ps s sp2 w m st l h =
      facts_more g sp ps s m st (settled_after g sp2 ps w st)
      (λ b k e. settle-kept g sp2 ps w st b (live_lower g sp sp2 ps b l k) e) (λ b e. settle-fixed g sp2 ps w st b e) h

  -- fewer cells
  pub facts_fewer : (f2 : Cells) (m : ℕ → ℕ) (st : Bytes) → ((b : ℕ) (x : Cell) → f2 b ≡ Some x → f b ≡ Some x)
      → Facts c lo hi f m st → Facts c lo hi f2 m st
  facts_fewer f2 m st less h = record {
    code = h.code;
    stands = λ a x e. h.stands a x (less a x e);
    lasting =
        h.lasting;
    words = h.words;
  }

  code_put : (m : ℕ → ℕ) (a w : ℕ) → a < lo → HasCode c lo hi m → HasCode c lo hi (put m a w)
  code_put m a w l h = record { at = λ b e k t. let n : b ≢ a = omega arith in put-other m a w b n ∙ h.at b e k t }

  -- a word that is no cell's is written
  pub facts_off : (m : ℕ → ℕ) (st : Bytes) (a w : ℕ) → a % 2 ≡ 0 → a < lo → f a ≡ None → f (a + 1) ≡ None → w < 65536
      → Facts c lo hi f m st → Facts c lo hi f (put m a w) st
  facts_off m st a w even low none none2 small h = record {
    code = code_put m a w low h.code;
    stands = λ b x e. cell_put m st a b w x even (apart b x e a none) (apart b x e (a + 1) none2) (h.stands b x e);
    lasting = h.lasting;
    words = put_words m a w small h.words;
  }
    where
      apart : (b : ℕ) (x : Cell) → f b ≡ Some x → (k : ℕ) → f k ≡ None → b ≢ k
      apart b x e k n h = some_none (f b) x e (ap f h ∙ n)

  -- a word is written whose bytes are settled: it is a cell with this value
  pub facts_set : (m : ℕ → ℕ) (st : Bytes) (a w : ℕ) → a % 2 ≡ 0 → a < lo → f (a + 1) ≡ None → st a ≡ true → st (a + 1) ≡ true
      → w < 65536 → Facts c lo hi f m st → Facts c lo hi (set_cell f a (Word (Some w))) (put m a w) st
  facts_set m st a w even low none s1 s2 small h = record {
    code = code_put m a w low h.code;
    stands = λ b x e. by_case b x (cases_eq b a) e;
    lasting = h.lasting;
    words = put_words m a w small h.words;
  }
    where
      here : (b : ℕ) → b ≡ a → CellAt (put m a w) st b (Word (Some w))
      here b e = (put-at m a b w e, subst (λ (k : ℕ). st k ≡ true) (sym e) s1, subst (λ (k : ℕ). st (k + 1) ≡ true) (sym e) s2)

      by_case : (b : ℕ) (x : Cell) → ((b ≡ a) ⊎ (b ≡ a → ⊥)) → set_cell f a (Word (Some w)) b ≡ Some x
          → CellAt (put m a w) st b x
      by_case b x (inl e) k = subst (CellAt (put m a w) st b) (same_cell (Word (Some w)) x (sym (set_cell-same f a b _ e) ∙ k))
          (here b e)
      by_case b x (inr n) k =
          let fb : f b ≡ Some x = sym (set_cell-other f a b _ n) ∙ k in
          let n2 : b ≢ a + 1 = λ e. some_none (f b) x fb (ap f e ∙ none) in
          cell_put m st a b w x even n n2 (h.stands b x fb)

  -- the same of a byte
  pub facts_set_byte : (m : ℕ → ℕ) (st : Bytes) (a v : ℕ) → a - a % 2 < lo
      → ((b : ℕ) (y : Option ℕ) → f b ≡ Some (Word y) → b + 1 ≢ a) → ((b : ℕ) (y : Option ℕ) → f b ≡ Some (Word y) → b % 2 ≡ 0)
      → st a ≡ true → v < 256 → Facts c lo hi f m st → Facts c lo hi (set_cell f a (Byte (Some v))) (put_byte m a v) st
  facts_set_byte m st a v low apart even s1 small h = record {
    code = code_put m (a - a % 2) (with_byte a (m (a - a % 2)) v) low h.code;
    stands = λ b x e. by_case b x (cases_eq b a) e;
    lasting = h.lasting;
    words = put_words m (a - a % 2) (with_byte a (m (a - a % 2)) v)
        (narrow a (m (a - a % 2)) v (h.words (a - a % 2)) small) h.words;
  }
    where
      narrow : (a w v : ℕ) → w < 65536 → v < 256 → with_byte a w v < 65536
      narrow a w v l k = grind (arith, nat_tests)

      other : (b : ℕ) (x : Cell) → b ≢ a → f b ≡ Some x → CellAt m st b x → CellAt (put_byte m a v) st b x
      other b (Word (Some w)) n e k = (put_byte-other m a b v (off b (Some w) n e) ∙ k.0, k.1, k.2)
        where
          off : (b : ℕ) (w : Option ℕ) → b ≢ a → f b ≡ Some (Word w) → b ≢ a - a % 2
          off b w n e h = let d = apart b w e in let t = even b w e in omega arith
      other b (Byte (Some w)) n e k = (byte_at-other m a b v small n ∙ k.0, k.1)
      other b (Word None) n e k = tt
      other b (Byte None) n e k = tt

      here : (b : ℕ) → b ≡ a → CellAt (put_byte m a v) st b (Byte (Some v))
      here b e = (ap (byte_at (put_byte m a v)) e ∙ byte_at-same m a v small, subst (λ (k : ℕ). st k ≡ true) (sym e) s1)

      by_case : (b : ℕ) (x : Cell) → ((b ≡ a) ⊎ (b ≡ a → ⊥)) → set_cell f a (Byte (Some v)) b ≡ Some x
          → CellAt (put_byte m a v) st b x
      by_case b x (inl e) k = subst (CellAt (put_byte m a v) st b)
          (same_cell (Byte (Some v)) x (sym (set_cell-same f a b _ e) ∙ k)) (here b e)
      by_case b x (inr n) k = let fb : f b ≡ Some x = sym (set_cell-other f a b _ n) ∙ k in other b x n fb (h.stands b x fb)

  -- a cell with no value may stand anywhere
  pub facts_blank : (m : ℕ → ℕ) (st : Bytes) (a : ℕ) → Facts c lo hi f m st → Facts c lo hi (set_cell f a (Word None)) m st
  facts_blank m st a h = record {
    code = h.code;
    stands = λ b x e. by_case b x (cases_eq b a) e;
    lasting = h.lasting;
    words =
        h.words;
  }
    where
      by_case : (b : ℕ) (x : Cell) → ((b ≡ a) ⊎ (b ≡ a → ⊥)) → set_cell f a (Word None) b ≡ Some x → CellAt m st b x
      by_case b x (inl e) k = subst (CellAt m st b) (same_cell (Word None) x (sym (set_cell-same f a b _ e) ∙ k)) tt
      by_case b x (inr n) k = h.stands b x (sym (set_cell-other f a b _ n) ∙ k)

  -- the value of a word fits a word
  pub word_small : (m : ℕ → ℕ) (st : Bytes) (a w : ℕ) → f a ≡ Some (Word (Some w)) → Facts c lo hi f m st → w < 65536
  word_small m st a w e h = subst (λ (x : ℕ). x < 65536) ((h.stands a (Word (Some w)) e).0) (h.words a)

  pub byte_small : (m : ℕ → ℕ) (st : Bytes) (a v : ℕ) → f a ≡ Some (Byte (Some v)) → Facts c lo hi f m st → v < 256
  byte_small m st a v e h = subst (λ (x : ℕ). x < 256) ((h.stands a (Byte (Some v)) e).0)
      (small a (m (a - a % 2)) (h.words (a - a % 2)))
    where
      small : (a w : ℕ) → w < 65536 → byte_in a w < 256
      small a w l = grind (arith, nat_tests)

-- ---- a cell that is there gets a value, and its bytes are written

module _ (c : ℕ → ℕ) (lo hi g sp : ℕ) (ps : ℕ → ℕ) (low : code_start ≤ lo) (f : Cells) (s : Shape g sp ps f) where
  pub facts_put : (w : Bytes) (m : ℕ → ℕ) (st : Bytes) (a v : ℕ) (old : Option ℕ) → f a ≡ Some (Word old) → w a ≡ true
      → w (a + 1) ≡ true → v < 65536 → Facts c lo hi f m st
      → Facts c lo hi (set_cell f a (Word (Some v))) (put m a v) (settled_after g sp ps w st)
  facts_put w m st a v old e w1 w2 small h =
      let live = s.live a (Word old) e in
      let fit = s.fits a (Word old) e in
      let top = live_below g sp ps a live in
      let st2 : Bytes = settled_after g sp ps w st in
      facts_set c lo hi f m st2 a v fit.0 (omega arith) fit.1 (settle-new g sp ps w st a live w1)
      (settle-new g sp ps w st (a + 1) (live_next g sp ps a fit.0 live) w2) small
      (facts_settle c lo hi f g sp ps s sp w m st (omega arith) h)

  pub facts_put_byte : (w : Bytes) (m : ℕ → ℕ) (st : Bytes) (a v : ℕ) (old : Option ℕ) → f a ≡ Some (Byte old) → w a ≡ true
      → v < 256 → Facts c lo hi f m st → Facts c lo hi (set_cell f a (Byte (Some v))) (put_byte m a v)
      (settled_after g sp ps w st)
  facts_put_byte w m st a v old e w1 small h =
      let live = s.live a (Byte old) e in
      let top = live_below g sp ps a live in
      let st2 : Bytes = settled_after g sp ps w st in
      facts_set_byte c lo hi f m st2 a v (omega arith) (λ b y k. second_byte g sp ps f s a b (Byte old) y e k)
      (λ b y k. (s.fits b (Word y) k).0) (settle-new g sp ps w st a live w1) small
      (facts_settle c lo hi f g sp ps s sp w m st (omega arith) h)

  -- no cell begins just below the stack pointer
  pub none_below : (b : ℕ) → segment_start g ≤ b → b < sp → sp ≤ segment_top g → segment_top g ≤ stack_end → f b ≡ None
  none_below b l h top last = from (f b) refl
    where
      never : Live g sp ps b → ⊥
      never (OfOutput p q) = omega arith
      never (OfData p q) = omega arith
      never (OfFrame p q r t) = omega arith
      never (OfOlder p q r t) = omega arith

      from : (o : Option Cell) → f b ≡ o → f b ≡ None
      from None e = e
      from (Some x) e = absurd (never (s.live b x e))

  -- a word just below the stack pointer is no cell's
  pub facts_below : (m : ℕ → ℕ) (st : Bytes) (a v : ℕ) → a % 2 ≡ 0 → segment_start g ≤ a → a + 2 ≤ sp → sp ≤ segment_top g
      → segment_top g ≤ stack_end → v < 65536 → Facts c lo hi f m st → Facts c lo hi f (put m a v) st
  facts_below m st a v even base below top last small h =
      facts_off c lo hi f m st a v even (omega arith) (none_below a base (omega arith) top last)
      (none_below (a + 1) (omega arith) (omega arith) top last) small h
