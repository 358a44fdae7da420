-- The ends of comments and of line markers, seen from the fronts of a text.
use Rattle.std.proofs.Common.{◌≡◌, ℕ, zero, suc, ◌≤◌, Bool, true, false, ◌&&◌, ◌||◌, ◌==◌, [], ◌∷◌, length, take, Option, Some, None, refl, ap, sym, ◌∙◌, subst, arith}
use Rattle.std.specs.Prelude.{option_map}
use Rattle.std.proofs.lemmas.Bool.{eqb-true}
use Rattle.c_lex.specs.Spelling.{Text}
use Rattle.c_lex.specs.Bytes.{is_digit, in_line, is_line_blank}
use Rattle.c_lex.specs.Pieces.{close, digit_follows}
use Rattle.c_lex.specs.Measures.{span}

-- ---- the end of a comment

pub close_here : (last b : ℕ) (rest : Text) → last == 42 && b == 47 ≡ true → close last (b ∷ rest) ≡ Some 1
unfolding close
close_here last b rest e = rw e refl

pub close_later : (last b : ℕ) (rest : Text) → last == 42 && b == 47 ≡ false
    → close last (b ∷ rest) ≡ option_map suc (close b rest)
unfolding close
close_later last b rest e = rw e refl

pub close_nil : (last : ℕ) → close last [] ≡ None
unfolding close
close_nil last = refl

-- a comment's end is within the text, and is the same in each front that has it
pub record Closes (last : ℕ) (text : Text) (m : ℕ) : Type 0 where
  pub within : m ≤ length text
  pub same : (k : ℕ) → m ≤ k → close last (take k text) ≡ Some m

front_here : (last b : ℕ) (rest : Text) (m : ℕ) → last == 42 && b == 47 ≡ true → m ≡ 1 → (k : ℕ) → m ≤ k
    → close last (take k (b ∷ rest)) ≡ Some m
front_here last b rest m e is zero h = absurd (omega arith)
front_here last b rest m e is (suc k) h = close_here last b (take k rest) e ∙ ap Some (sym is)

front_later : (last b : ℕ) (rest : Text) (m j : ℕ) → last == 42 && b == 47 ≡ false → Closes b rest j → m ≡ suc j → (k : ℕ)
    → m ≤ k → close last (take k (b ∷ rest)) ≡ Some m
front_later last b rest m j e c is zero h = absurd (omega arith)
front_later last b rest m j e c is (suc k) h = close_later last b (take k rest) e
    ∙ (rw (c.same k (omega arith)) (ap Some (sym is)))

later : (last b : ℕ) (rest : Text) (m : ℕ) (o : Option ℕ) → last == 42 && b == 47 ≡ false → close b rest ≡ o
    → ((j : ℕ) → close b rest ≡ Some j → Closes b rest j)
    → option_map suc o ≡ Some m → Closes last (b ∷ rest) m
later last b rest m None e at next is = cc
later last b rest m (Some j) e at next is =
    let c = next j at in let n : m ≡ suc j = (cc) in
    record { within = omega (arith, c.within); same = front_later last b rest m j e c n }

here : (last b : ℕ) (rest : Text) (m : ℕ) → last == 42 && b == 47 ≡ true → Some 1 ≡ Some m → Closes last (b ∷ rest) m
here last b rest m e is = let n : m ≡ 1 = (cc) in record { within = omega arith; same = front_here last b rest m e n }

closes_at : (last b : ℕ) (rest : Text) (m : ℕ) (t : Bool) → last == 42 && b == 47 ≡ t
    → ((j : ℕ) → close b rest ≡ Some j → Closes b rest j)
    → close last (b ∷ rest) ≡ Some m → Closes last (b ∷ rest) m
closes_at last b rest m true e next is = here last b rest m e (sym (close_here last b rest e) ∙ is)
closes_at last b rest m false e next is = later last b rest m (close b rest) e refl next (sym (close_later last b rest e) ∙ is)

pub closes : (last : ℕ) (text : Text) (m : ℕ) → close last text ≡ Some m → Closes last text m
closes last [] m is = let e = close_nil last in absurd (cc)
closes last (b ∷ rest) m is = closes_at last b rest m (last == 42 && b == 47) refl (λ j h. closes b rest j h) is

-- ---- the digit of a line marker

pub follows-cons : (b : ℕ) (rest : Text) → digit_follows (b ∷ rest) ≡ (is_digit b || (is_line_blank b && digit_follows rest))
unfolding digit_follows
follows-cons b rest = refl

pub follows_nil : digit_follows [] ≡ false
unfolding digit_follows
follows_nil = refl

none_at : (d l f g : Bool) → d || (l && f) ≡ false → (f ≡ false → g ≡ false) → d || (l && g) ≡ false
none_at true l f g e next = e
none_at false true f g e next = next e
none_at false false f g e next = refl

-- a text without the digit has no front with it
pub follows_none : (text : Text) (k : ℕ) → digit_follows text ≡ false → digit_follows (take k text) ≡ false
follows_none text zero h = follows_nil
follows_none [] (suc k) h = follows_nil
follows_none (b ∷ rest) (suc k) h =
    follows-cons b (take k rest) ∙ none_at (is_digit b) (is_line_blank b) (digit_follows rest) (digit_follows (take k rest))
    (sym (follows-cons b rest) ∙ h) (λ e. follows_none rest k e)

span_in : (b : ℕ) (rest : Text) → in_line b ≡ true → span in_line (b ∷ rest) ≡ suc (span in_line rest)
unfolding span
span_in b rest h = rw h refl

some_at : (d l f g : Bool) → d || (l && f) ≡ true → (f ≡ true → g ≡ true) → d || (l && g) ≡ true
some_at true l f g e next = refl
some_at false true f g e next = next e
some_at false false f g e next = e

line_feed : (b : ℕ) (rest : Text) → b ≡ 10 → is_digit b || (is_line_blank b && digit_follows rest) ≡ true → ⊥
line_feed b rest e h = let z : is_digit 10 || (is_line_blank 10 && digit_follows rest) ≡ true =
    subst (λ x. is_digit x || (is_line_blank x && digit_follows rest) ≡ true) e h in cc

in_front : (b : ℕ) (rest : Text) (f : Bool) → (b == 10) ≡ f → is_digit b || (is_line_blank b && digit_follows rest) ≡ true
    → (digit_follows rest ≡ true → digit_follows (take (span in_line rest) rest) ≡ true)
    → digit_follows (take (span in_line (b ∷ rest)) (b ∷ rest)) ≡ true
in_front b rest true e h next = absurd (line_feed b rest (eqb-true b 10 e) h)
in_front b rest false e h next =
    let inside : in_line b ≡ true = (rw e refl) in
    rw (span_in b rest inside, follows-cons b (take (span in_line rest) rest))
    (some_at (is_digit b) (is_line_blank b) (digit_follows rest) (digit_follows (take (span in_line rest) rest)) h next)

-- the digit stands before the line's end
pub follows_in_line : (text : Text) → digit_follows text ≡ true → digit_follows (take (span in_line text) text) ≡ true
follows_in_line [] h = let e = follows_nil in absurd (cc)
follows_in_line (b ∷ rest) h = in_front b rest (b == 10) refl (sym (follows-cons b rest) ∙ h) (λ e. follows_in_line rest e)
