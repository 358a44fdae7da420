-- `piece_len` is the length of the longest piece.
use Rattle.std.proofs.Common.{◌≡◌, ℕ, zero, suc, ◌+◌, ◌<◌, ◌≤◌, Bool, true, false, ◌&&◌, ◌||◌, ◌⊎◌, inl, inr, cond, ◌==◌, [], ◌∷◌, length, take, min, Option, Some, None, is_some, refl, ◌∙◌, arith, rules, length-take-le, take_all}
use Rattle.std.specs.Prelude.{unwrap_or}
use Rattle.std.specs.List.{list_all}
use Rattle.std.proofs.lemmas.Bool.{eq-eqb, ne_eqb}
use Rattle.c_lex.specs.declared.item.Item.{Item}
use Rattle.c_lex.specs.declared.item.Item.TheVariants.{Skip, Token, Bad}
use Rattle.c_lex.specs.declared.item.Fault.TheVariants as fault
use Rattle.c_lex.specs.Spelling.{Text}
use Rattle.c_lex.specs.Bytes.{is_letter, is_digit, is_blank, continues, in_line}
use Rattle.c_lex.specs.Pieces.{piece, run, word, number, marker, slash, short, comment, close, digit_follows, Longest, Stuck}
use Rattle.c_lex.specs.Measures.{span, is_short, most, short_len, slash_len, piece_len}
use Rattle.c_lex.proofs.Spanned.{span_passes, span_within, span_longest}
use Rattle.c_lex.proofs.Shorts.{Greatest, greatest_is, long_short}
use Rattle.c_lex.proofs.Fronts.{Closes, closes, follows_none, follows_in_line}

-- a length that is 0 where no piece begins, and else that of the longest
pub data Measured (fresh : Bool) (text : Text) : ℕ → Type 0 where
  nowhere : Stuck fresh text → Measured fresh text 0
  measured : {n : ℕ} {item : Item} → 0 < n → Longest fresh text n item → Measured fresh text n

pub nil_piece : (fresh : Bool) → piece fresh [] ≡ None
unfolding piece
nil_piece fresh = refl

-- ---- runs: what begins so goes on with bytes of one class

record Runs (fresh : Bool) (a : ℕ) (p : ℕ → Bool) (make : Text → Item) : Type 0 where
  is : (more : Text) → piece fresh (a ∷ more) ≡ run p more (make (a ∷ more))

run_longest : (fresh : Bool) (a : ℕ) (more : Text) (p : ℕ → Bool) (make : Text → Item) → Runs fresh a p make → (k : ℕ)
    → 1 + span p more < k → k ≤ suc (length more)
    → piece fresh (take k (a ∷ more)) ≡ None
run_longest fresh a more p make c zero h w = absurd (omega arith)
run_longest fresh a more p make c (suc k) h w = let f = span_longest p more k (omega arith) (omega arith) in
    rw (c.is (take k more), f) refl

one_more : (n : ℕ) → 1 + n ≡ suc n
one_more n = omega arith

run_is : (fresh : Bool) (a : ℕ) (more : Text) (p : ℕ → Bool) (make : Text → Item) → Runs fresh a p make
    → piece fresh (take (1 + span p more) (a ∷ more)) ≡ Some (make (a ∷ take (span p more) more))
run_is fresh a more p make c = rw (one_more (span p more), c.is (take (span p more) more), span_passes p more) refl

run_measured : (fresh : Bool) (a : ℕ) (more : Text) (p : ℕ → Bool) (make : Text → Item) → Runs fresh a p make
    → Measured fresh (a ∷ more) (1 + span p more)
run_measured fresh a more p make c = measured {item = make (a ∷ take (span p more) more)} (omega arith) (record {
  within = omega (arith, span_within p more);
  is = run_is fresh a more p make c;
  longest = run_longest fresh a more p make c;
})

letter_runs : (fresh : Bool) (a : ℕ) → is_letter a ≡ true → Runs fresh a continues (λ t. Token (word t))
unfolding piece
letter_runs fresh a h = record { is = λ more. rw h refl }

digit_runs : (fresh : Bool) (a : ℕ) → is_letter a ≡ false → is_digit a ≡ true → Runs fresh a continues number
unfolding piece
digit_runs fresh a l h = record { is = λ more. rw (l, h) refl }

blank_runs : (fresh : Bool) (a : ℕ) → is_letter a ≡ false → is_digit a ≡ false → is_blank a ≡ true
    → Runs fresh a is_blank (λ t. Skip)
unfolding piece
blank_runs fresh a l d h = record { is = λ more. rw (l, d, h) refl }

-- ---- line markers

record Markers (fresh : Bool) (a : ℕ) : Type 0 where
  is : (more : Text) → piece fresh (a ∷ more) ≡ marker fresh more

hash_markers : (fresh : Bool) (a : ℕ) → is_letter a ≡ false → is_digit a ≡ false → is_blank a ≡ false → (a == 35) ≡ true
    → Markers fresh a
unfolding piece
hash_markers fresh a l d b h = record { is = λ more. rw (l, d, b, h) refl }

no_marker : (fresh : Bool) (a : ℕ) (more : Text) → Markers fresh a → ((k : ℕ) → marker fresh (take k more) ≡ None) → (k : ℕ)
    → k ≤ suc (length more)
    → piece fresh (take k (a ∷ more)) ≡ None
no_marker fresh a more c none zero w = nil_piece fresh
no_marker fresh a more c none (suc k) w = c.is (take k more) ∙ none k

marker_longest : (a : ℕ) (more : Text) → Markers true a → (k : ℕ) → 1 + span in_line more < k → k ≤ suc (length more)
    → piece true (take k (a ∷ more)) ≡ None
marker_longest a more c zero h w = absurd (omega arith)
marker_longest a more c (suc k) h w = c.is (take k more)
    ∙ passed (digit_follows (take k more)) (list_all in_line (take k more))
    (span_longest in_line more k (omega arith) (omega arith))
  where
    passed : (d r : Bool) → r ≡ false → cond d (cond r (Some Skip) None) None ≡ None
    passed true true e = cc
    passed true false e = refl
    passed false r e = refl

marker_is : (a : ℕ) (more : Text) → Markers true a → digit_follows more ≡ true
    → piece true (take (1 + span in_line more) (a ∷ more)) ≡ Some Skip
marker_is a more c h =
    let front = follows_in_line more h in
    rw (one_more (span in_line more), c.is (take (span in_line more) more), front, span_passes in_line more) refl

without_digit : (more : Text) → digit_follows more ≡ false → (k : ℕ) → marker true (take k more) ≡ None
without_digit more h k = let e = follows_none more k h in rw e refl

marker_measured : (fresh d : Bool) (a : ℕ) (more : Text) → Markers fresh a → digit_follows more ≡ d
    → Measured fresh (a ∷ more) (cond (fresh && d) (1 + span in_line more) 0)
marker_measured false d a more c h = nowhere (no_marker false a more c (λ k. refl))
marker_measured true false a more c h = nowhere (no_marker true a more c (without_digit more h))
marker_measured true true a more c h = measured {item = Skip} (omega arith) (record {
  within = omega (arith, span_within in_line more);
  is = marker_is a more c h;
  longest = marker_longest a more c;
})

-- ---- short pieces: the fronts of a text are those of another one, as short pieces

record Short (fresh : Bool) (text : Text) (a : ℕ) (more : Text) : Type 0 where
  same_length : length text ≡ length (a ∷ more)
  is : (k : ℕ) → 0 < k → piece fresh (take k text) ≡ short (take k (a ∷ more))

none_of : (t : Text) → is_short t ≡ false → short t ≡ None
none_of t h = by (short t) h
  where
    by : (o : Option Item) → is_some o ≡ false → o ≡ None
    by None h = refl
    by (Some x) h = cc

within_or_past : (k n : ℕ) → (k ≤ n) ⊎ (n < k)
within_or_past k n = search rules

too_long : (a : ℕ) (more : Text) (k : ℕ) → most a < k → k ≤ length (a ∷ more) → short (take k (a ∷ more)) ≡ None
too_long a more zero h w = absurd (omega arith)
too_long a more (suc k) h w = long_short a (take k more) (omega (arith, length-take-le k more))

short_above : (a : ℕ) (more : Text) (m k : ℕ) → Greatest is_short (min (most a) (length (a ∷ more))) (a ∷ more) m → m < k
    → k ≤ length (a ∷ more)
    → (k ≤ most a) ⊎ (most a < k) → short (take k (a ∷ more)) ≡ None
short_above a more m k g h w (inl low) = none_of (take k (a ∷ more)) (g.above k h (omega arith))
short_above a more m k g h w (inr high) = too_long a more k high w

short_longest : (fresh : Bool) (text : Text) (a : ℕ) (more : Text) (m : ℕ) → Short fresh text a more
    → Greatest is_short (min (most a) (length (a ∷ more))) (a ∷ more) m
    → (k : ℕ) → m < k → k ≤ length text → piece fresh (take k text) ≡ None
short_longest fresh text a more m c g k h w = c.is k (omega arith)
    ∙ short_above a more m k g h (omega (arith, c.same_length)) (within_or_past k (most a))

short_at : (fresh : Bool) (text : Text) (a : ℕ) (more : Text) (m : ℕ) (o : Option Item) → Short fresh text a more
    → Greatest is_short (min (most a) (length (a ∷ more))) (a ∷ more) m → 0 < m → short (take m (a ∷ more)) ≡ o
    → is_some o ≡ true → Measured fresh text m
short_at fresh text a more m None c g some at is = cc
short_at fresh text a more m (Some item) c g some at is = measured {item = item} some (record {
  within = omega (arith, c.same_length, g.within);
  is = c.is m some ∙ at;
  longest = short_longest fresh text a more m c g;
})

short_stuck : (fresh : Bool) (text : Text) (a : ℕ) (more : Text) → Short fresh text a more
    → Greatest is_short (min (most a) (length (a ∷ more))) (a ∷ more) 0 → Stuck fresh text
short_stuck fresh text a more c g zero w = nil_piece fresh
short_stuck fresh text a more c g (suc k) w = short_longest fresh text a more 0 c g (suc k) (omega arith) w

short_by : (fresh : Bool) (text : Text) (a : ℕ) (more : Text) (m : ℕ) → Short fresh text a more
    → Greatest is_short (min (most a) (length (a ∷ more))) (a ∷ more) m
    → (m ≡ 0) ⊎ (is_short (take m (a ∷ more)) ≡ true) → Measured fresh text m
short_by fresh text a more zero c g _ = nowhere (short_stuck fresh text a more c g)
short_by fresh text a more (suc m) c g (inl e) = absurd (omega arith)
short_by fresh text a more (suc m) c g (inr e) =
    short_at fresh text a more (suc m) (short (take (suc m) (a ∷ more))) c g (omega arith) refl e

short_measured : (fresh : Bool) (text : Text) (a : ℕ) (more : Text) → Short fresh text a more
    → Measured fresh text (short_len (a ∷ more))
unfolding short_len
short_measured fresh text a more c =
    let g = greatest_is is_short (min (most a) (length (a ∷ more))) (a ∷ more) in short_by fresh text a more _ c g g.passes

other_short : (fresh : Bool) (a : ℕ) (more : Text) → is_letter a ≡ false → is_digit a ≡ false → is_blank a ≡ false
    → (a == 35) ≡ false → (a == 47) ≡ false → Short fresh (a ∷ more) a more
unfolding piece
other_short fresh a more l d b h s = record { same_length = refl; is = front }
  where
    front : (k : ℕ) → 0 < k → piece fresh (take k (a ∷ more)) ≡ short (take k (a ∷ more))
    front zero w = absurd (omega arith)
    front (suc k) w = rw (l, d, b, h, s) refl

-- ---- what begins with `/`

record Slashes (fresh : Bool) (a : ℕ) : Type 0 where
  is : (more : Text) → piece fresh (a ∷ more) ≡ slash more

slash_slashes : (fresh : Bool) (a : ℕ) → is_letter a ≡ false → is_digit a ≡ false → is_blank a ≡ false → (a == 35) ≡ false
    → (a == 47) ≡ true → Slashes fresh a
unfolding piece
slash_slashes fresh a l d b h s = record { is = λ more. rw (l, d, b, h, s) refl }

slash_alone : (fresh : Bool) (a : ℕ) → Slashes fresh a → Short fresh (a ∷ []) 47 []
slash_alone fresh a c = record { same_length = refl; is = front }
  where
    front : (k : ℕ) → 0 < k → piece fresh (take k (a ∷ [])) ≡ short (take k (47 ∷ []))
    front zero w = absurd (omega arith)
    front (suc zero) w = c.is []
    front (suc (suc k)) w = c.is []

slash_short : (fresh : Bool) (a b : ℕ) (more : Text) → Slashes fresh a → (b == 42) ≡ false → (b == 47) ≡ false
    → Short fresh (a ∷ b ∷ more) 47 (b ∷ more)
slash_short fresh a b more c s l = record { same_length = refl; is = front }
  where
    front : (k : ℕ) → 0 < k → piece fresh (take k (a ∷ b ∷ more)) ≡ short (take k (47 ∷ b ∷ more))
    front zero w = absurd (omega arith)
    front (suc zero) w = c.is []
    front (suc (suc k)) w = c.is (b ∷ take k more) ∙ (rw (s, l) refl)

two_more : (n : ℕ) → 2 + n ≡ suc (suc n)
two_more n = omega arith

-- `//` to the line's end
line_front : (fresh : Bool) (a b : ℕ) (more : Text) → Slashes fresh a → (b == 42) ≡ false → (b == 47) ≡ true → (k : ℕ)
    → piece fresh (take (suc (suc k)) (a ∷ b ∷ more)) ≡ run in_line (take k more) Skip
line_front fresh a b more c s l k = c.is (b ∷ take k more) ∙ (rw (s, l) refl)

line_longest : (fresh : Bool) (a b : ℕ) (more : Text) → Slashes fresh a → (b == 42) ≡ false → (b == 47) ≡ true → (k : ℕ)
    → 2 + span in_line more < k → k ≤ suc (suc (length more))
    → piece fresh (take k (a ∷ b ∷ more)) ≡ None
line_longest fresh a b more c s l zero h w = absurd (omega arith)
line_longest fresh a b more c s l (suc zero) h w = absurd (omega arith)
line_longest fresh a b more c s l (suc (suc k)) h w =
    let f = span_longest in_line more k (omega arith) (omega arith) in line_front fresh a b more c s l k ∙ (rw f refl)

line_is : (fresh : Bool) (a b : ℕ) (more : Text) → Slashes fresh a → (b == 42) ≡ false → (b == 47) ≡ true
    → piece fresh (take (2 + span in_line more) (a ∷ b ∷ more)) ≡ Some Skip
line_is fresh a b more c s l =
    rw (two_more (span in_line more)) (line_front fresh a b more c s l (span in_line more)
    ∙ (rw (span_passes in_line more) refl))

line_measured : (fresh : Bool) (a b : ℕ) (more : Text) → Slashes fresh a → (b == 42) ≡ false → (b == 47) ≡ true
    → Measured fresh (a ∷ b ∷ more) (2 + span in_line more)
line_measured fresh a b more c s l = measured {item = Skip} (omega arith) (record {
  within = omega (arith, span_within in_line more);
  is = line_is fresh a b more c s l;
  longest = line_longest fresh a b more c s l;
})

-- `/*` to the first `*/`, or to the text's end without one
block_front : (fresh : Bool) (a b : ℕ) (more : Text) → Slashes fresh a → (b == 42) ≡ true → (k : ℕ)
    → piece fresh (take (suc (suc k)) (a ∷ b ∷ more)) ≡ comment (close 0 (take k more)) (length (take k more))
block_front fresh a b more c s k = c.is (b ∷ take k more) ∙ (rw s refl)

open_is : (fresh : Bool) (a b : ℕ) (more : Text) → Slashes fresh a → (b == 42) ≡ true → close 0 more ≡ None
    → piece fresh (take (2 + length more) (a ∷ b ∷ more)) ≡ Some (Bad fault.OpenComment)
open_is fresh a b more c s e =
    rw (two_more (length more)) (block_front fresh a b more c s (length more)
    ∙ (rw (take_all (length more) more (omega arith), e) refl))

closed_is : (fresh : Bool) (a b : ℕ) (more : Text) (m : ℕ) → Slashes fresh a → (b == 42) ≡ true → Closes 0 more m
    → piece fresh (take (2 + m) (a ∷ b ∷ more)) ≡ Some Skip
closed_is fresh a b more m c s e =
    rw (two_more m) (block_front fresh a b more c s m
    ∙ (rw (e.same m (omega arith), length-take-le m more e.within, eq-eqb m m refl) refl))

closed_longest : (fresh : Bool) (a b : ℕ) (more : Text) (m : ℕ) → Slashes fresh a → (b == 42) ≡ true → Closes 0 more m
    → (k : ℕ) → 2 + m < k → k ≤ suc (suc (length more))
    → piece fresh (take k (a ∷ b ∷ more)) ≡ None
closed_longest fresh a b more m c s e zero h w = absurd (omega arith)
closed_longest fresh a b more m c s e (suc zero) h w = absurd (omega arith)
closed_longest fresh a b more m c s e (suc (suc k)) h w =
    let inside : k ≤ length more = omega arith in
    let other : (m ≡ k) → ⊥ = (λ z. absurd (omega arith)) in
    block_front fresh a b more c s k ∙ (rw (e.same k (omega arith), length-take-le k more inside, ne_eqb m k other) refl)

block_by : (fresh : Bool) (a b : ℕ) (more : Text) (o : Option ℕ) → Slashes fresh a → (b == 42) ≡ true → close 0 more ≡ o
    → Measured fresh (a ∷ b ∷ more) (2 + unwrap_or o (length more))
block_by fresh a b more None c s e = measured {item = Bad fault.OpenComment} (omega arith) (record {
  within = omega arith;
  is = open_is fresh a b more c s e;
  longest = λ k h w. absurd (omega arith);
})
block_by fresh a b more (Some m) c s e = let z = closes 0 more m e in measured {item = Skip} (omega arith) (record {
  within = omega (arith, z.within);
  is = closed_is fresh a b more m c s z;
  longest = closed_longest fresh a b more m c s z;
})

behind_slash : (fresh : Bool) (a b : ℕ) (more : Text) (s l : Bool) → Slashes fresh a → (b == 42) ≡ s → (b == 47) ≡ l
    → Measured fresh (a ∷ b ∷ more)
    (cond s (2 + unwrap_or (close 0 more) (length more)) (cond l (2 + span in_line more) (short_len (47 ∷ b ∷ more))))
behind_slash fresh a b more true l c hs hl = block_by fresh a b more (close 0 more) c hs refl
behind_slash fresh a b more false true c hs hl = line_measured fresh a b more c hs hl
behind_slash fresh a b more false false c hs hl =
    short_measured fresh (a ∷ b ∷ more) 47 (b ∷ more) (slash_short fresh a b more c hs hl)

slash_measured : (fresh : Bool) (a : ℕ) (more : Text) → Slashes fresh a → Measured fresh (a ∷ more) (slash_len more)
unfolding slash_len
slash_measured fresh a [] c = short_measured fresh (a ∷ []) 47 [] (slash_alone fresh a c)
slash_measured fresh a (b ∷ more) c = behind_slash fresh a b more (b == 42) (b == 47) c refl refl

-- ---- all pieces

by_class : (fresh : Bool) (a : ℕ) (more : Text) (l d b h s : Bool) → is_letter a ≡ l → is_digit a ≡ d → is_blank a ≡ b
    → (a == 35) ≡ h → (a == 47) ≡ s
    → Measured fresh (a ∷ more) (cond (l || d) (1 + span continues more) (cond b (1 + span is_blank more)
    (cond h (cond (fresh && digit_follows more) (1 + span in_line more) 0) (cond s (slash_len more) (short_len (a ∷ more))))))
by_class fresh a more true d b h s hl hd hb hh hs = run_measured fresh a more continues _ (letter_runs fresh a hl)
by_class fresh a more false true b h s hl hd hb hh hs = run_measured fresh a more continues _ (digit_runs fresh a hl hd)
by_class fresh a more false false true h s hl hd hb hh hs = run_measured fresh a more is_blank _ (blank_runs fresh a hl hd hb)
by_class fresh a more false false false true s hl hd hb hh hs =
    marker_measured fresh (digit_follows more) a more (hash_markers fresh a hl hd hb hh) refl
by_class fresh a more false false false false true hl hd hb hh hs =
    slash_measured fresh a more (slash_slashes fresh a hl hd hb hh hs)
by_class fresh a more false false false false false hl hd hb hh hs =
    short_measured fresh (a ∷ more) a more (other_short fresh a more hl hd hb hh hs)

nil_stuck : (fresh : Bool) (k : ℕ) → k ≤ 0 → piece fresh (take k []) ≡ None
nil_stuck fresh zero h = nil_piece fresh
nil_stuck fresh (suc k) h = absurd (omega arith)

pub is_measured : (fresh : Bool) (text : Text) → Measured fresh text (piece_len fresh text)
unfolding piece_len
is_measured fresh [] = nowhere (nil_stuck fresh)
is_measured fresh (a ∷ more) =
    by_class fresh a more (is_letter a) (is_digit a) (is_blank a) (a == 35) (a == 47) refl refl refl refl refl
