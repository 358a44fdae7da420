-- Memories that agree on some bytes, and what is left of that after a word or a byte is written to both.
use Rattle.std.proofs.Common.{◌≡◌, ◌≢◌, ℕ, ◌+◌, ◌%◌, ◌<◌, Bool, true, false, sym, ap, ◌∙◌, subst, arith, ◌⊎◌, inl, inr}
use Rattle.std.proofs.lemmas.Bool.{cases_eq}
use Rattle.std.proofs.lemmas.Bool.Decides.{nat_tests}
use Rattle.base16.specs.Memory.{put}
use Rattle.base16.proofs.Writes.{put-at, put-other}
use Rattle.core430.specs.Bytes.{word_address, byte_in, with_byte, byte_at}
use Rattle.core430.specs.Uses.{access_bytes, IsWithin, joined, SameOn}
use Rattle.core430.proofs.Truths.{or-true}

-- a word is its two bytes
word-parts : (a w v : ℕ) → a % 2 ≡ 0 → byte_in a w ≡ byte_in a v → byte_in (a + 1) w ≡ byte_in (a + 1) v → w ≡ v
word-parts a w v e h k = grind (arith, nat_tests)

even-word : (a : ℕ) → a % 2 ≡ 0 → word_address a ≡ a
even-word a e = omega arith

odd-word : (a : ℕ) → a % 2 ≡ 0 → word_address (a + 1) ≡ a
odd-word a e = omega arith

-- memories that agree on both bytes of a word agree on the word
pub same-word : (p : ℕ → Bool) (m k : ℕ → ℕ) (a : ℕ) → SameOn p m k → a % 2 ≡ 0 → p a ≡ true → p (a + 1) ≡ true → m a ≡ k a
same-word p m k a s e h j =
    let x : byte_in a (m a) ≡ byte_in a (k a) = subst (λ c. byte_in a (m c) ≡ byte_in a (k c)) (even-word a e) (s.at a h) in
    let y : byte_in (a + 1) (m a) ≡ byte_in (a + 1) (k a) = subst (λ c. byte_in (a + 1) (m c) ≡ byte_in (a + 1) (k c)) (odd-word a e) (s.at (a + 1) j) in
    word-parts a (m a) (k a) e x y

pub same-fewer : (p q : ℕ → Bool) (m k : ℕ → ℕ) → SameOn p m k → IsWithin q p → SameOn q m k
same-fewer p q m k s f = record { at = λ b h. s.at b (f b h) }

abbrev pub no_bytes : ℕ → Bool
no_bytes b = false

pub same-no_more : (p : ℕ → Bool) (m k : ℕ → ℕ) → SameOn p m k → SameOn (joined p no_bytes) m k
same-no_more p m k s = record { at = λ b h. elim (or-true (p b) false h) [ inl x ↦ s.at b x | inr y ↦ absurd (none y) ] }
  where
    none : false ≡ true → ⊥
    none y = cc

pub two-bytes : (a b : ℕ) → a % 2 ≡ 0 → access_bytes false a b ≡ true → word_address b ≡ a
two-bytes a b e h = grind (arith, nat_tests)

pub one-byte : (a b : ℕ) → access_bytes true a b ≡ true → b ≡ a
one-byte a b h = grind (arith, nat_tests)

-- a word is written
pub same-put : (p : ℕ → Bool) (m k : ℕ → ℕ) (a v : ℕ) → SameOn p m k → a % 2 ≡ 0 → SameOn (joined p (access_bytes false a)) (put m a v) (put k a v)
same-put p m k a v s e = record {
  at = λ b h. elim (cases_eq (word_address b) a) [
    | inl x ↦ ap (byte_in b) (put-at m a (word_address b) v x ∙ sym (put-at k a (word_address b) v x))
    | inr d ↦ ap (byte_in b) (put-other m a v (word_address b) d) ∙ elim (or-true (p b) _ h) [
      | inl y ↦ s.at b y
      | inr y ↦ absurd (d (two-bytes a b e y))
    ] ∙ sym (ap (byte_in b) (put-other k a v (word_address b) d))
  ];
}

-- one byte is set, and the other stays as it was
byte-set : (a x y v : ℕ) → byte_in a (with_byte a x v) ≡ byte_in a (with_byte a y v)
byte-set a x y v = grind (arith, nat_tests)

byte-kept : (a b x y v : ℕ) → b ≢ a → word_address b ≡ word_address a → byte_in b x ≡ byte_in b y → byte_in b (with_byte a x v) ≡ byte_in b (with_byte a y v)
byte-kept a b x y v d e h = grind (arith, nat_tests)

-- a byte is written, and the other byte of its word stays
pub same-put_byte : (p : ℕ → Bool) (m k : ℕ → ℕ) (a v : ℕ) → SameOn p m k → SameOn (joined p (access_bytes true a)) (put m (word_address a) (with_byte a (m (word_address a)) v)) (put k (word_address a) (with_byte a (k (word_address a)) v))
same-put_byte p m k a v s = record {
  at = λ b h. elim (cases_eq (word_address b) (word_address a)) [
    | inl x ↦ inside m b x ∙ either b x h (cases_eq b a) ∙ sym (inside k b x)
    | inr d ↦ outside m b d ∙ kept b h (λ e. d (ap word_address e)) ∙ sym (outside k b d)
  ];
}
  where
    inside : (f : ℕ → ℕ) (b : ℕ) → word_address b ≡ word_address a → byte_at (put f (word_address a) (with_byte a (f (word_address a)) v)) b ≡ byte_in b (with_byte a (f (word_address a)) v)
    inside f b e = ap (byte_in b) (put-at f (word_address a) (word_address b) (with_byte a (f (word_address a)) v) e)

    outside : (f : ℕ → ℕ) (b : ℕ) → word_address b ≢ word_address a → byte_at (put f (word_address a) (with_byte a (f (word_address a)) v)) b ≡ byte_at f b
    outside f b d = ap (byte_in b) (put-other f (word_address a) (with_byte a (f (word_address a)) v) (word_address b) d)

    kept : (b : ℕ) → joined p (access_bytes true a) b ≡ true → b ≢ a → byte_at m b ≡ byte_at k b
    kept b h d = elim (or-true (p b) _ h) [ inl x ↦ s.at b x | inr y ↦ absurd (d (one-byte a b y)) ]

    either : (b : ℕ) → word_address b ≡ word_address a → joined p (access_bytes true a) b ≡ true → ((b ≡ a) ⊎ (b ≢ a)) → byte_in b (with_byte a (m (word_address a)) v) ≡ byte_in b (with_byte a (k (word_address a)) v)
    either b e h (inl x) = subst (λ c. byte_in c (with_byte a (m (word_address a)) v) ≡ byte_in c (with_byte a (k (word_address a)) v)) (sym x) (byte-set a (m (word_address a)) (k (word_address a)) v)
    either b e h (inr d) =
        let x : byte_in b (m (word_address a)) ≡ byte_in b (k (word_address a)) = subst (λ c. byte_in b (m c) ≡ byte_in b (k c)) e (kept b h d) in
        byte-kept a b (m (word_address a)) (k (word_address a)) v d e x

-- ---- a byte that is not written stays

pub put-left : (m : ℕ → ℕ) (a v b : ℕ) → a % 2 ≡ 0 → access_bytes false a b ≡ false → byte_at (put m a v) b ≡ byte_at m b
put-left m a v b e h = ap (byte_in b) (put-other m a v (word_address b) (apart a b e h))
  where
    apart : (a b : ℕ) → a % 2 ≡ 0 → access_bytes false a b ≡ false → word_address b ≢ a
    apart a b e h = grind (arith, nat_tests)

other-byte : (a b w v : ℕ) → v < 256 → b ≢ a → word_address b ≡ word_address a → byte_in b (with_byte a w v) ≡ byte_in b w
other-byte a b w v l n e = grind (arith, nat_tests)

pub put_byte-left : (m : ℕ → ℕ) (a v b : ℕ) → v < 256 → access_bytes true a b ≡ false → byte_at (put m (word_address a) (with_byte a (m (word_address a)) v)) b ≡ byte_at m b
put_byte-left m a v b l h = by_case (cases_eq (word_address b) (word_address a))
  where
    apart : (a b : ℕ) → access_bytes true a b ≡ false → b ≢ a
    apart a b h = grind (arith, nat_tests)

    by_case : ((word_address b ≡ word_address a) ⊎ (word_address b ≢ word_address a)) → byte_at (put m (word_address a) (with_byte a (m (word_address a)) v)) b ≡ byte_at m b
    by_case (inl e) = ap (byte_in b) (put-at m (word_address a) (word_address b) _ e) ∙ other-byte a b (m (word_address a)) v l (apart a b h) e ∙ ap (λ c. byte_in b (m c)) (sym e)
    by_case (inr d) = ap (byte_in b) (put-other m (word_address a) _ (word_address b) d)
