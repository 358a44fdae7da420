-- Bytes in a memory of words.
use Rattle.std.proofs.Common.{◌≡◌, ◌≢◌, ℕ, ◌-◌, ◌%◌, ◌<◌, refl, ap, arith, ◌⊎◌, inl, inr, true}
use Rattle.std.proofs.lemmas.Bool.{cases_eq}
use Rattle.std.proofs.lemmas.Bool.Decides.{nat_tests}
use Rattle.core430.specs.declared.operand.Place.TheVariants.{InMemory}
use Rattle.core430.specs.Bytes.{word_address, byte_in, with_byte, byte_at}
use Rattle.core430.specs.Instructions.{Stores, deliver}
use Rattle.run430.specs.Code.{put_byte}
use Rattle.base16.proofs.Writes.{put-at, put-other}

pub byte_at-same : (m : ℕ → ℕ) (a v : ℕ) → v < 256 → byte_at (put_byte m a v) a ≡ v
byte_at-same m a v l = rw (put-at m (a - a % 2) (a - a % 2) (with_byte a (m (a - a % 2)) v) refl) (back a (m (a - a % 2)) v l)
  where
    back : (a w v : ℕ) → v < 256 → byte_in a (with_byte a w v) ≡ v
    back a w v l = grind arith

other_byte : (a b w v : ℕ) → v < 256 → b ≢ a → b - b % 2 ≡ a - a % 2 → byte_in b (with_byte a w v) ≡ byte_in b w
other_byte a b w v l n e = grind (arith, nat_tests)

pub byte_at-other : (m : ℕ → ℕ) (a b v : ℕ) → v < 256 → b ≢ a → byte_at (put_byte m a v) b ≡ byte_at m b
byte_at-other m a b v l n = by_case (cases_eq (b - b % 2) (a - a % 2))
  where
    by_case : ((b - b % 2 ≡ a - a % 2) ⊎ (b - b % 2 ≡ a - a % 2 → ⊥)) → byte_at (put_byte m a v) b ≡ byte_at m b
    by_case (inl e) = rw (put-at m (a - a % 2) (b - b % 2) (with_byte a (m (a - a % 2)) v) e, e) (other_byte a b (m (a - a % 2)) v l n e)
    by_case (inr d) = ap (byte_in b) (put-other m (a - a % 2) _ (b - b % 2) d)

-- a word elsewhere
pub put_byte-other : (m : ℕ → ℕ) (a b v : ℕ) → b ≢ a - a % 2 → put_byte m a v b ≡ m b
put_byte-other m a b v n = put-other m (a - a % 2) _ b n

-- a byte that an instruction stores
pub deliver-byte : (r m : ℕ → ℕ) (a v : ℕ) → deliver true r m (InMemory a) v ≡ Stores r (word_address a) (with_byte a (m (word_address a)) v)
deliver-byte r m a v = refl
