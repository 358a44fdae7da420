-- The bytes of data, each datum put in front of others.
use Rattle.std.proofs.Common.{◌≡◌, ℕ, zero, suc, ◌+◌, ◌*◌, ◌/◌, ◌%◌, ◌<◌, ◌≤◌, Bool, true, false, if◌then◌else◌, List, [], ◌∷◌, ◌++◌, length, get_or, drop, Option, refl, sym, ap, ◌∙◌, arith, append-nil, add-one, drop-cons, length-drop}
use Rattle.std.proofs.lemmas.Bool.{eq-eqb, ne_eqb}
use Rattle.std.proofs.lemmas.List.{drop_all}
use Rattle.std.specs.Prelude.{replicate, slice_set}
use Rattle.base16.specs.Board.{data_start}
use Rattle.core_tree.specs.Data.{data_bytes}
use Rattle.core_tree.specs.declared.program.Core.{Core}
use Rattle.codegen.specs.Bytes.{bytes_from, with_byte, with_high, with_datum, paired}
use Rattle.codegen.specs.Words.{code_or_zero, byte_of, word_of, words_from, data_of, global_words}
use Rattle.codegen.specs.declared.data.Datum.{Datum}
use Rattle.codegen.proofs.Standing.{next_is}

-- ---- one byte

pub byte_before : (xs : List ℕ) (a address b : ℕ) → address < a → with_byte xs a address b ≡ xs
byte_before [] a address b h = refl
byte_before (x ∷ xs) a address b h =
    ap (λ (t : Bool). (if t then b else x) ∷ with_byte xs (a + 1) address b) (ne_eqb address a (λ e. omega arith))
    ∙ ap (λ (ys : List ℕ). x ∷ ys) (byte_before xs (a + 1) address b (omega arith))

pub byte_behind : (xs : List ℕ) (a address b : ℕ) → a + length xs ≤ address → with_byte xs a address b ≡ xs
byte_behind [] a address b h = refl
byte_behind (x ∷ xs) a address b h =
    let long : length (x ∷ xs) ≡ suc (length xs) = refl in
    ap (λ (t : Bool). (if t then b else x) ∷ with_byte xs (a + 1) address b) (ne_eqb address a (λ e. omega arith))
    ∙ ap (λ (ys : List ℕ). x ∷ ys) (byte_behind xs (a + 1) address b (omega arith))

pub byte_put : (xs : List ℕ) (a address b i : ℕ) → address ≡ a + i → i < length xs
    → slice_set xs i b ≡ with_byte xs a address b
byte_put [] a address b i e h = absurd (omega arith)
byte_put (x ∷ xs) a address b zero e h =
    sym (ap (λ (t : Bool). (if t then b else x) ∷ with_byte xs (a + 1) address b) (eq-eqb address a (omega arith))
    ∙ ap (λ (ys : List ℕ). b ∷ ys) (byte_before xs (a + 1) address b (omega arith)))
byte_put (x ∷ xs) a address b (suc i) e h =
    let long : length (x ∷ xs) ≡ suc (length xs) = refl in
    ap (λ (ys : List ℕ). x ∷ ys) (byte_put xs (a + 1) address b i (omega arith) (omega arith))
    ∙ sym (ap (λ (t : Bool). (if t then b else x) ∷ with_byte xs (a + 1) address b) (ne_eqb address a (λ k. omega arith)))

-- ---- the bytes of data

pub none_yet : (a n : ℕ) → replicate n 0 ≡ bytes_from [] a n
none_yet a zero = refl
none_yet a (suc n) = ap (λ (xs : List ℕ). 0 ∷ xs) (none_yet (a + 1) n)

put_first : (w : Bool) (address : ℕ) (code : Option ℕ) (ds : List Datum) (a n : ℕ)
    → bytes_from (record { address = address; wide = w; code = code } ∷ ds) a n
    ≡ with_byte (with_high w (bytes_from ds a n) a address (code_or_zero code)) a address (code_or_zero code % 256)
put_first true address code ds a zero = refl
put_first false address code ds a zero = refl
put_first true address code ds a (suc n) =
    ap (λ (xs : List ℕ). byte_of (record { address = address; wide = true; code = code } ∷ ds) a ∷ xs)
    (put_first true address code ds (a + 1) n)
put_first false address code ds a (suc n) =
    ap (λ (xs : List ℕ). byte_of (record { address = address; wide = false; code = code } ∷ ds) a ∷ xs)
    (put_first false address code ds (a + 1) n)

pub datum_first : (d : Datum) (ds : List Datum) (a n : ℕ) → bytes_from (d ∷ ds) a n ≡ with_datum d (bytes_from ds a n) a
datum_first d ds a n = put_first d.wide d.address d.code ds a n

pub datum_step : (ds : List Datum) (a n at i : ℕ) (d : Datum) (bytes more : List ℕ) → at ≡ i + 1 → at ≤ length ds
    → bytes ≡ bytes_from (drop at ds) a n → more ≡ with_datum (get_or ds i d) bytes a → more ≡ bytes_from (drop i ds) a n
datum_step ds a n at i d bytes more s h b m =
    let cut : drop i ds ≡ get_or ds i d ∷ drop (i + 1) ds = rw (add-one) (drop-cons ds i d (let l : i < length ds = omega arith in l)) in
    m ∙ ap (λ (xs : List ℕ). with_datum (get_or ds i d) xs a) (b ∙ ap (λ (k : ℕ). bytes_from (drop k ds) a n) s)
    ∙ sym (datum_first (get_or ds i d) (drop (i + 1) ds) a n)
    ∙ ap (λ (xs : List Datum). bytes_from xs a n) (sym cut)

pub first_bytes : (ds : List Datum) (a n : ℕ) (bytes : List ℕ) → bytes ≡ replicate n 0
    → bytes ≡ bytes_from (drop (length ds) ds) a n
first_bytes ds a n bytes e =
    e ∙ none_yet a n ∙ ap (λ (xs : List Datum). bytes_from xs a n) (sym (drop_all (length ds) ds (omega arith)))

-- ---- words

pub pair_turn : (bs : List ℕ) (i low high : ℕ) → i < length bs / 2 → low ≡ get_or bs (2 * i) low
    → high ≡ get_or bs (2 * i + 1) high
    → paired (drop (2 * i) bs) ≡ (low + 256 * high) ∷ paired (drop (2 * (i + 1)) bs)
pair_turn bs i low high h l k =
    let two : 2 * i + 1 + 1 ≡ 2 * (i + 1) = omega arith in
    let cut : drop (2 * i) bs ≡ low ∷ high ∷ drop (2 * (i + 1)) bs =
    next_is bs (2 * i) low (omega arith) l
    ∙ ap (λ (xs : List ℕ). low ∷ xs) (next_is bs (2 * i + 1) high (omega arith) k
    ∙ ap (λ (n : ℕ). high ∷ drop n bs) two) in
    ap paired cut

short : (xs : List ℕ) → length xs < 2 → paired xs ≡ []
short [] h = refl
short (x ∷ []) h = refl
short (x ∷ y ∷ more) h = absurd (omega arith)

pub pairs_end : (bs : List ℕ) (i : ℕ) → length bs / 2 ≤ i → paired (drop (2 * i) bs) ≡ []
pairs_end bs i h =
    let left = length-drop (2 * i) bs in
    short (drop (2 * i) bs) (omega arith)

pub pairs_done : (bs words : List ℕ) (i : ℕ) → paired bs ≡ words ++ paired (drop (2 * i) bs) → length bs / 2 ≤ i
    → words ≡ paired bs
pairs_done bs words i e h = sym (e ∙ ap (λ (xs : List ℕ). words ++ xs) (pairs_end bs i h) ∙ append-nil words)

pub pairs_are : (ds : List Datum) (a n : ℕ) → paired (bytes_from ds a n) ≡ words_from ds a (n / 2)
pairs_are ds a zero = refl
pairs_are ds a (suc zero) = refl
pairs_are ds a (suc (suc n)) =
    let two : a + 1 + 1 ≡ a + 2 = omega arith in
    let half : suc (n / 2) ≡ suc (suc n) / 2 = omega arith in
    ap (λ (b : ℕ). word_of ds a ∷ paired (bytes_from ds b n)) two
    ∙ ap (λ (xs : List ℕ). word_of ds a ∷ xs) (pairs_are ds (a + 2) n)
    ∙ ap (λ (k : ℕ). words_from ds a k) half

pub words_are : (core : Core) (ds : List Datum) (bytes words : List ℕ) (count : ℕ) → ds ≡ data_of core → count ≡ data_bytes core
    → bytes ≡ bytes_from ds data_start count → words ≡ paired bytes → words ≡ global_words core
words_are core ds bytes words count d c b w =
    w ∙ ap paired b ∙ pairs_are ds data_start count
    ∙ ap (λ (xs : List Datum). words_from xs data_start (count / 2)) d
    ∙ ap (λ (n : ℕ). words_from (data_of core) data_start (n / 2)) c
