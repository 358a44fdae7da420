-- Data that share no byte, as cells, and as bytes and words.
use Rattle.std.proofs.Common.{◌≡◌, ◌≢◌, ℕ, ◌+◌, ◌/◌, ◌%◌, ◌<◌, ◌≤◌, refl, sym, ap, ◌∙◌, subst, arith, Bool, true, false, ◌&&◌, ◌⊎◌, inl, inr, List, [], ◌∷◌, Option, Some, None, if◌then◌else◌}
use Rattle.std.proofs.lemmas.Bool.{eq-eqb, ne_eqb}
use Rattle.std.proofs.lemmas.Bool.Decides.{nat_tests}
use Rattle.std.specs.Prelude.{nat_eq}
use Rattle.cells430.specs.Cells.{Cell, Cells, Fits}
use Rattle.core_tree.specs.LawfulCore.{Every}
use Rattle.matching.specs.Covering.{cell_by}
use Rattle.matching.proofs.Lying.{each}
use Rattle.codegen.proofs.Lists.{same_some, none_some}
use Rattle.codegen.specs.declared.data.Datum.{Datum}
use Rattle.codegen.specs.Words.{code_or_zero, byte_of, word_of}

-- ---- data that share no byte

abbrev pub size_by : Bool → ℕ
size_by true = 2
size_by false = 1

abbrev pub end : Datum → ℕ
end d = d.address + size_by d.wide

abbrev pub Distinct : Datum → Datum → Type 0
Distinct d e = (end d ≤ e.address) ⊎ (end e ≤ d.address)

abbrev pub AreDistinct : List Datum → Type 0
AreDistinct [] = Unit {0}
AreDistinct (d ∷ ds) = Every (Distinct d) ds × AreDistinct ds

some_bytes : (b : Bool) → 1 ≤ size_by b
some_bytes true = omega arith
some_bytes false = omega arith

other_address : (d e : Datum) → Distinct d e → d.address ≢ e.address
other_address d e (inl l) s = let some = some_bytes d.wide in omega arith
other_address d e (inr l) s = let some = some_bytes e.wide in omega arith

-- ---- as cells

abbrev pub chart : List Datum → Cells
chart [] b = None
chart (d ∷ ds) b = if nat_eq d.address b then Some (cell_by d.wide d.code) else chart ds b

-- each has its cell
abbrev IsCharted : Cells → Datum → Type 0
IsCharted f d = f d.address ≡ Some (cell_by d.wide d.code)

charted_later : (d : Datum) (ds es : List Datum) → Every (Distinct d) es → Every (IsCharted (chart ds)) es
    → Every (IsCharted (chart (d ∷ ds))) es
charted_later d ds [] a h = tt
charted_later d ds (e ∷ es) a h = (
  ap (λ (t : Bool). if t then Some (cell_by d.wide d.code) else chart ds e.address)
      (ne_eqb d.address e.address (other_address d e a.0)) ∙ h.0,
  charted_later d ds es a.1 h.1,
)

pub charted : (ds : List Datum) → AreDistinct ds → Every (λ d. chart ds d.address ≡ Some (cell_by d.wide d.code)) ds
charted [] h = tt
charted (d ∷ ds) h = (
  ap (λ (t : Bool). if t then Some (cell_by d.wide d.code) else chart ds d.address) (eq-eqb d.address d.address refl),
  charted_later d ds ds h.0 (charted ds h.1),
)

eq_true : (a b : ℕ) → nat_eq a b ≡ true → a ≡ b
eq_true a b e = grind (arith, nat_tests)

-- and there are no others
pub of_all : (P : ℕ → Cell → Type 0) (ds : List Datum) → Every (λ d. P d.address (cell_by d.wide d.code)) ds
    → (b : ℕ) (x : Cell) → chart ds b ≡ Some x → P b x
of_all P [] h b x e = absurd (none_some x e)
of_all P (d ∷ ds) h b x e = from (nat_eq d.address b) refl (of_all P ds h.1 b x) e
  where
    from : (t : Bool) → nat_eq d.address b ≡ t → (chart ds b ≡ Some x → P b x)
        → (if t then Some (cell_by d.wide d.code) else chart ds b) ≡ Some x → P b x
    from true k more y = subst (λ (c : Cell). P b c) (same_some (cell_by d.wide d.code) x y)
        (subst (λ (a : ℕ). P a (cell_by d.wide d.code)) (eq_true d.address b k) h.0)
    from false k more y = more y

pub none_at : (ds : List Datum) (b : ℕ) → Every (λ e. e.address ≢ b) ds → chart ds b ≡ None
none_at [] b h = refl
none_at (d ∷ ds) b h =
    ap (λ (t : Bool). if t then Some (cell_by d.wide d.code) else chart ds b) (ne_eqb d.address b h.0) ∙ none_at ds b h.1

-- ---- what holds of any two

module _ (R : Datum → Datum → Type 0) (self : (d : Datum) → R d d) (both : (d e : Datum) → Distinct d e → R d e × R e d) where
  to_others : (d : Datum) (es : List Datum) → Every (Distinct d) es → Every (R d) es
  to_others d es h = each (Distinct d) (R d) es (λ e k. (both d e k).0) h

  from_others : (d : Datum) (ds es : List Datum) → Every (Distinct d) es → Every (λ e. Every (R e) ds) es
      → Every (λ e. Every (R e) (d ∷ ds)) es
  from_others d ds [] h k = tt
  from_others d ds (e ∷ es) h k = (((both d e h.0).1, k.0), from_others d ds es h.1 k.1)

  pub any_two : (ds : List Datum) → AreDistinct ds → Every (λ d. Every (R d) ds) ds
  any_two [] h = tt
  any_two (d ∷ ds) h = ((self d, to_others d ds h.0), from_others d ds ds h.0 (any_two ds h.1))

-- none begins at the second byte of a word
abbrev Misses : Datum → Datum → Type 0
Misses d e = d.wide ≡ true → e.address ≢ d.address + 1

misses_self : (d : Datum) → Misses d d
misses_self d w s = omega arith

misses_other : (d e : Datum) → Distinct d e → Misses d e
misses_other d e (inl l) w s = let long : size_by d.wide ≡ 2 = ap size_by w in omega arith
misses_other d e (inr l) w s = let some = some_bytes e.wide in omega arith

turned : (d e : Datum) → Distinct d e → Distinct e d
turned d e (inl l) = inr l
turned d e (inr l) = inl l

-- words that stand at even addresses fit
abbrev pub IsEven : Datum → Type 0
IsEven d = d.wide ≡ true → d.address % 2 ≡ 0

abbrev FitsIn : Cells → Datum → Type 0
FitsIn f d = Fits f d.address (cell_by d.wide d.code)

one_fits : (f : Cells) (a : ℕ) (w : Bool) (code : Option ℕ) → (w ≡ true → a % 2 ≡ 0) → (w ≡ true → f (a + 1) ≡ None)
    → Fits f a (cell_by w code)
one_fits f a true code e n = (e refl, n refl)
one_fits f a false code e n = tt

both_fit : (f : Cells) (all ds : List Datum) → ((b : ℕ) → Every (λ e. e.address ≢ b) all → f b ≡ None) → Every IsEven ds
    → Every (λ d. Every (Misses d) all) ds → Every (FitsIn f) ds
both_fit f all [] none e h = tt
both_fit f all (d ∷ ds) none e h = (
  one_fits f d.address d.wide d.code e.0
      (λ w. none (d.address + 1) (each (Misses d) (λ (y : Datum). y.address ≢ d.address + 1) all (λ y m. m w) h.0)),
  both_fit f all ds none e.1 h.1,
)

pub all_fit : (ds : List Datum) → AreDistinct ds → Every IsEven ds
    → Every (λ d. Fits (chart ds) d.address (cell_by d.wide d.code)) ds
all_fit ds h even = both_fit (chart ds) ds ds (none_at ds) even
    (any_two Misses misses_self (λ d e k. (misses_other d e k, misses_other e d (turned d e k))) ds h)

-- ---- as bytes

abbrev pub IsSmall : Datum → Type 0
IsSmall d = code_or_zero d.code < 65536

one_byte : (s t : Bool) (code rest : ℕ) → code < 65536 → rest < 256
    → (if s then code % 256 else (if t then code / 256 else rest)) < 256
one_byte true t code rest h k = omega arith
one_byte false true code rest h k = omega arith
one_byte false false code rest h k = k

pub byte_small : (ds : List Datum) → Every IsSmall ds → (a : ℕ) → byte_of ds a < 256
byte_small [] h a = omega arith
byte_small (d ∷ ds) h a = one_byte (nat_eq d.address a) (d.wide && nat_eq (d.address + 1) a) (code_or_zero d.code)
    (byte_of ds a) h.0
    (byte_small ds h.1 a)

pub word_small : (ds : List Datum) → Every IsSmall ds → (a : ℕ) → word_of ds a < 65536
word_small ds h a = let low = byte_small ds h a in let high = byte_small ds h (a + 1) in omega arith

-- its bytes are those of its code
pub record HasBytes (byte : ℕ → ℕ) (d : Datum) : Type 0 where
  pub low : byte d.address ≡ code_or_zero d.code % 256
  pub high : d.wide ≡ true → byte (d.address + 1) ≡ code_or_zero d.code / 256

module _ (d : Datum) (ds : List Datum) where
  abbrev here : Bool → Bool → ℕ → ℕ
  here s t a = if s then code_or_zero d.code % 256 else (if t then code_or_zero d.code / 256 else byte_of ds a)

  passed : (a : ℕ) → d.address ≢ a → (d.wide ≡ true → d.address + 1 ≢ a) → byte_of (d ∷ ds) a ≡ byte_of ds a
  passed a n k = ap (λ (s : Bool). here s (d.wide && nat_eq (d.address + 1) a) a) (ne_eqb d.address a n) ∙ from d.wide refl
    where
      from : (w : Bool) → d.wide ≡ w → here false (w && nat_eq (d.address + 1) a) a ≡ byte_of ds a
      from true e = ap (λ (t : Bool). here false t a) (ne_eqb (d.address + 1) a (k e))
      from false e = refl

  own_low : byte_of (d ∷ ds) d.address ≡ code_or_zero d.code % 256
  own_low = ap (λ (s : Bool). here s (d.wide && nat_eq (d.address + 1) d.address) d.address) (eq-eqb d.address d.address refl)

  own_high : d.wide ≡ true → byte_of (d ∷ ds) (d.address + 1) ≡ code_or_zero d.code / 256
  own_high w =
      let a : ℕ = d.address + 1 in
      let off : d.address ≢ a = λ e. omega arith in
      ap (λ (s : Bool). here s (d.wide && nat_eq (d.address + 1) a) a) (ne_eqb d.address a off)
      ∙ ap (λ (v : Bool). here false (v && nat_eq (d.address + 1) a) a) w
      ∙ ap (λ (t : Bool). here false t a) (eq-eqb (d.address + 1) a refl)

  later_bytes : (es : List Datum) → Every (Distinct d) es → Every (HasBytes (byte_of ds)) es
      → Every (HasBytes (byte_of (d ∷ ds))) es
  later_bytes [] a h = tt
  later_bytes (e ∷ es) a h = (
    record {
      low = passed e.address (other_address d e a.0) (λ w s. misses_other d e a.0 w (sym s)) ∙ h.0.low;
      high = λ v. passed (e.address + 1) (misses_back d e a.0 v) (second a.0 v) ∙ h.0.high v;
    },
    later_bytes es a.1 h.1,
  )
    where
      misses_back : (x y : Datum) → Distinct x y → y.wide ≡ true → x.address ≢ y.address + 1
      misses_back x y k v = misses_other y x (turned x y k) v

      second : Distinct d e → e.wide ≡ true → d.wide ≡ true → d.address + 1 ≢ e.address + 1
      second k v w s = other_address d e k (omega arith)

pub all_bytes : (ds : List Datum) → AreDistinct ds → Every (HasBytes (byte_of ds)) ds
all_bytes [] h = tt
all_bytes (d ∷ ds) h =
    (record { low = own_low d ds; high = own_high d ds }, later_bytes d ds ds h.0 (all_bytes ds h.1))
