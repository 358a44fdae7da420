-- Short pieces: how long they are at most, and the greatest front that is one.
use Rattle.std.proofs.Common.{◌≡◌, ℕ, zero, suc, ◌-◌, ◌<◌, ◌≤◌, Bool, true, false, ◌&&◌, ◌⊎◌, inl, inr, cond, ◌==◌, List, [], ◌∷◌, length, take, Option, Some, None, refl, ap, arith, length-take-le}
use Rattle.std.specs.Prelude.{find, nat_le, slice_index}
use Rattle.std.specs.List.{list_all}
use Rattle.std.specs.Str.{bytes_eq}
use Rattle.std.proofs.lemmas.Slice.Eq.{bytes_eq-Decides}
use Rattle.std.proofs.lemmas.Bool.{eqb-true, lt-leb, leb-true}
use Rattle.c_lex.specs.declared.item.Item.TheVariants.{Bad}
use Rattle.c_lex.specs.declared.item.Fault.TheVariants as fault
use Rattle.c_lex.specs.Spelling.{notes, marks}
use Rattle.c_lex.specs.Spelling.{Text, note_text, mark_text, note_of, mark_of}
use Rattle.c_lex.specs.Bytes.{value}
use Rattle.c_lex.specs.Pieces.{short, quoted, character, character_item, escaped, code, note_item, mark_item}
use Rattle.c_lex.specs.Measures.{greatest, most}

-- ---- the greatest front

pub record Greatest (p : Text → Bool) (n : ℕ) (text : Text) (m : ℕ) : Type 0 where
  pub within : m ≤ n
  pub passes : (m ≡ 0) ⊎ (p (take m text) ≡ true)
  pub above : (k : ℕ) → m < k → k ≤ n → p (take k text) ≡ false

greatest_zero : (p : Text → Bool) (text : Text) → Greatest p 0 text (greatest p zero text)
unfolding greatest
greatest_zero p text = record { within = omega arith; passes = inl refl; above = λ k h w. absurd (omega arith) }

greatest_step : (p : Text → Bool) (n : ℕ) (text : Text)
    → greatest p (suc n) text ≡ cond (p (take (suc n) text)) (suc n) (greatest p n text)
unfolding greatest
greatest_step p n text = refl

above_more : (p : Text → Bool) (n m : ℕ) (text : Text) → p (take (suc n) text) ≡ false
    → ((k : ℕ) → m < k → k ≤ n → p (take k text) ≡ false)
    → (k : ℕ) → (k ≡ suc n) ⊎ (k ≤ n) → m < k → p (take k text) ≡ false
above_more p n m text e below k (inl h) w = rw h e
above_more p n m text e below k (inr h) w = below k w h

last_or_below : (k n : ℕ) → k ≤ suc n → (k ≡ suc n) ⊎ (k ≤ n)
last_or_below zero n h = inr (omega arith)
last_or_below (suc k) zero h = inl (omega arith)
last_or_below (suc k) (suc n) h = elim (last_or_below k n (omega arith)) [ inl e ↦ inl (omega arith) | inr e ↦ inr (omega arith) ]

greatest_by : (p : Text → Bool) (n : ℕ) (text : Text) (b : Bool) → p (take (suc n) text) ≡ b
    → Greatest p n text (greatest p n text)
    → Greatest p (suc n) text (cond b (suc n) (greatest p n text))
greatest_by p n text true e g = record { within = omega arith; passes = inr e; above = λ k h w. absurd (omega arith) }
greatest_by p n text false e g = record {
  within = omega (arith, g.within);
  passes = g.passes;
  above = λ k h w. above_more p n (greatest p n text) text e g.above k (last_or_below k n w) h;
}

pub greatest_is : (p : Text → Bool) (n : ℕ) (text : Text) → Greatest p n text (greatest p n text)
greatest_is p zero text = greatest_zero p text
greatest_is p (suc n) text = rw (greatest_step p n text)
    (greatest_by p n text (p (take (suc n) text)) refl (greatest_is p n text))

-- ---- what is looked up in a table of short texts

bytes_differ : (u t : Text) (b : Bool) → bytes_eq u t ≡ b → length u < length t → b ≡ false
bytes_differ u t false e h = refl
bytes_differ u t true e h = let same : u ≡ t = (bytes_eq-Decides u t).0 e in let l = ap length same in absurd (omega arith)

and_left : (a b : Bool) → a && b ≡ true → a ≡ true
and_left true b h = refl
and_left false b h = h

and_right : (a b : Bool) → a && b ≡ true → b ≡ true
and_right true b h = h
and_right false b h = absurd (cc)

find_none : {X : Type 0} (text : X → Text) (n : ℕ) (t : Text) (xs : List X) → n < length t
    → list_all (λ x. nat_le (length (text x)) n) xs ≡ true
    → find (λ x. bytes_eq (text x) t) xs ≡ None
find_none text n t [] long all = refl
find_none text n t (x ∷ xs) long all =
    let short : length (text x) ≤ n = leb-true _ _ (and_left _ _ all) in
    let e : bytes_eq (text x) t ≡ false = bytes_differ (text x) t _ refl (omega arith) in
    rw e (find_none text n t xs long (and_right _ _ all))

long_note : (t : Text) → 14 < length t → note_of t ≡ None
unfolding note_of
long_note t h = find_none note_text 14 t notes h refl

long_mark : (t : Text) → 3 < length t → mark_of t ≡ None
unfolding mark_of
long_mark t h = find_none mark_text 3 t marks h refl

-- ---- characters

never : {X : Type 0} (x : X) (a b c d : Bool) → b ≡ false → cond (a && b && c && d) (Some x) None ≡ None
never x true true c d e = cc
never x false true c d e = cc
never x true false c d e = refl
never x false false c d e = refl

long_code : (base most : ℕ) (t : Text) → most < length t → code base most t ≡ None
long_code base most t h = never (value base t) _ _ _ _ (lt-leb (length t) most h)

long_escape : (t : Text) → 4 ≤ length t → escaped t ≡ None
long_escape [] h = refl
long_escape (e ∷ []) h = absurd (omega arith)
long_escape (e ∷ f ∷ more) h =
    let hexadecimal = long_code 16 2 (f ∷ more) (omega arith) in
    let octal = long_code 8 3 (e ∷ f ∷ more) (omega arith) in
    either_none (e == 120) _ _ hexadecimal octal
  where
    either_none : (b : Bool) (x y : Option ℕ) → x ≡ None → y ≡ None → cond b x y ≡ None
    either_none true x y h g = h
    either_none false x y h g = g

long_character : (t : Text) → 5 ≤ length t → character t ≡ None
long_character [] h = refl
long_character (c ∷ []) h = absurd (omega arith)
long_character (c ∷ d ∷ more) h = behind (c == 92) (long_escape (d ∷ more) (omega arith))
  where
    behind : (b : Bool) → escaped (d ∷ more) ≡ None → cond b (escaped (d ∷ more)) None ≡ None
    behind true e = e
    behind false e = refl

long_quoted : (t : Text) → 6 ≤ length t → quoted t ≡ None
long_quoted t h = at (length t == 0) (slice_index t (length t - 1) == 39) refl
    (long_character (take (length t - 1) t) (omega (arith, length-take-le (length t - 1) t)))
  where
    at : (a b : Bool) → (length t == 0) ≡ a → character (take (length t - 1) t) ≡ None
        → cond a (Some (Bad fault.BadChar)) (cond b (character_item (character (take (length t - 1) t))) None) ≡ None
    at true b e none = let z = eqb-true (length t) 0 e in absurd (omega arith)
    at false true e none = rw none refl
    at false false e none = refl

-- ---- all short pieces

note_none : (t : Text) → note_of t ≡ None → note_item (note_of t) ≡ None
note_none t e = rw e refl

mark_none : (t : Text) → mark_of t ≡ None → mark_item (mark_of t) ≡ None
mark_none t e = rw e refl

-- no short piece is longer
pub long_short : (a : ℕ) (more : Text) → most a < length (a ∷ more) → short (a ∷ more) ≡ None
unfolding short
long_short a more h = by (a == 39) (a == 64) h
  where
    by : (q n : Bool) → cond q 6 (cond n 14 3) < length (a ∷ more)
        → cond q (quoted more) (cond n (note_item (note_of (a ∷ more))) (mark_item (mark_of (a ∷ more)))) ≡ None
    by true n h = long_quoted more (omega arith)
    by false true h = note_none (a ∷ more) (long_note (a ∷ more) h)
    by false false h = mark_none (a ∷ more) (long_mark (a ∷ more) h)
