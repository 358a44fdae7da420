-- Stores of two machines that are alike: to the same bytes, with values that agree where it counts. So are those of an
-- undoing, whose old words agree on the bytes that were settled.
use Rattle.std.proofs.Common.{◌≡◌, ℕ, ◌+◌, ◌%◌, Bool, true, false, not, ◌&&◌, ◌||◌, refl, sym, ap, ◌∙◌, subst, arith, inl, inr, Some, None, List, [], ◌∷◌, ◌++◌, append-nil, if◌then◌else◌}
use Rattle.std.proofs.lemmas.Bool.{cases_eq}
use Rattle.std.proofs.lemmas.Bool.Decides.{nat_tests}
use Rattle.base16.specs.Memory.{put}
use Rattle.base16.proofs.Writes.{put-at, put-other}
use Rattle.core430.specs.Bytes.{word_address, byte_in}
use Rattle.core430.specs.Uses.{IsWithin, SameOn, joined}
use Rattle.core430.proofs.SameBytes.{same-fewer, same-put, same-put_byte, two-bytes}
use Rattle.core430.proofs.Truths.{or-true, or-left, or-right, and-left, and-right}
use Rattle.ideal430.specs.Places.{is_in_word, is_above, is_fixed}
use Rattle.ideal430.specs.Service.{Noted, Block, BlockChange, Closes, Effect, block_by, noted_of, block_after, store_in, stores_in, undo_stores}
use Rattle.ideal430.specs.Settled.{Bytes, store_bytes, stores_bytes, is_live, is_held, settled_again}
use Rattle.ideal430.specs.Ideal.{Ideal, settled_popped, settled_new, settled_old, pointers_after, earlier_after, did}
use Rattle.ideal430.specs.Agreement.{NotesSame, NotesAgree, BlocksAgree, may_settle, Agrees}
use Rattle.ideal430.specs.Shown.{IsEven, AreEven}
use Rattle.ideal430.specs.declared.service.Store.{Store}
use Rattle.ideal430.specs.declared.service.Store.TheVariants.{Word, Byte, Link}
use Rattle.ideal430.proofs.Along.{after-fixed, after-within, popped-within}

-- ---- one store

-- a store, and another: to the same bytes, with values that agree on these
abbrev pub StoreAlike : Bytes → Store → Store → Type 0
StoreAlike p (Word a w) (Word c v) = (c ≡ a) × ((b : ℕ) → is_in_word a b ≡ true → p b ≡ true → byte_in b w ≡ byte_in b v)
StoreAlike p (Byte a w) (Byte c v) = (c ≡ a) × (v ≡ w)
StoreAlike p (Link a w) (Link c v) = (c ≡ a) × (v ≡ w)
StoreAlike p s t = ⊥

-- the bytes on which memories agree after two such stores
abbrev pub alike_store : Bytes → Bytes → Store → Bytes
alike_store p q s b = if store_bytes s b then q b else p b

in-word : (a b : ℕ) → a % 2 ≡ 0 → word_address b ≡ a → is_in_word a b ≡ true
in-word a b e h = grind (arith, nat_tests)

if-true : (c x y : Bool) → c ≡ true → (if c then x else y) ≡ true → x ≡ true
if-true true x y e h = h
if-true false x y e h = cc

if-false : (c x y : Bool) → (c ≡ true → ⊥) → (if c then x else y) ≡ true → y ≡ true
if-false true x y n h = absurd (n refl)
if-false false x y n h = h

words-alike : (p q : Bytes) (m k : ℕ → ℕ) (a w v : ℕ) → a % 2 ≡ 0 → SameOn p m k
    → ((b : ℕ) → is_in_word a b ≡ true → q b ≡ true → byte_in b w ≡ byte_in b v)
    → SameOn (alike_store p q (Word a w)) (put m a w) (put k a v)
words-alike p q m k a w v e s h = record {
  at = λ b i. elim (cases_eq (word_address b) a) [
    | inl x ↦ ap (byte_in b) (put-at m a (word_address b) w x)
        ∙ h b (in-word a b e x) (if-true (is_in_word a b) (q b) (p b) (in-word a b e x) i)
        ∙ sym (ap (byte_in b) (put-at k a (word_address b) v x))
    | inr d ↦ ap (byte_in b) (put-other m a w (word_address b) d)
        ∙ s.at b (if-false (is_in_word a b) (q b) (p b) (λ y. d (two-bytes a b e y)) i)
        ∙ sym (ap (byte_in b) (put-other k a v (word_address b) d))
  ];
}

-- where the values are the same, nothing is asked
alike-joined : (p q : Bytes) (s : Store) → IsWithin (alike_store p q s) (joined p (store_bytes s))
alike-joined p q s b h = by (store_bytes s b) refl
  where
    by : (c : Bool) → store_bytes s b ≡ c → (p b || store_bytes s b) ≡ true
    by true e = or-right (p b) _ e
    by false e = or-left (p b) _ (subst (λ (c : Bool). (if c then q b else p b) ≡ true) e h)

pub store-alike : (p q : Bytes) (m k : ℕ → ℕ) (s t : Store) → IsEven s → StoreAlike q s t → SameOn p m k
    → SameOn (alike_store p q s) (store_in m s) (store_in k t)
store-alike p q m k (Word a w) (Word c v) e h s =
    subst (λ (x : ℕ). SameOn (alike_store p q (Word a w)) (put m a w) (put k x v)) (sym h.0) (words-alike p q m k a w v e s h.1)
store-alike p q m k (Word a w) (Byte c v) e h s = absurd h
store-alike p q m k (Word a w) (Link c v) e h s = absurd h
store-alike p q m k (Byte a w) (Word c v) e h s = absurd h
store-alike p q m k (Byte a w) (Byte c v) e h s =
    subst (λ (t : Store). SameOn (alike_store p q (Byte a w)) (store_in m (Byte a w)) (store_in k t)) (both h.0 h.1)
    (same-fewer _ _ _ _ (same-put_byte p m k a w s) (alike-joined p q (Byte a w)))
  where
    both : c ≡ a → v ≡ w → Byte a w ≡ Byte c v
    both x y = cc
store-alike p q m k (Byte a w) (Link c v) e h s = absurd h
store-alike p q m k (Link a w) (Word c v) e h s = absurd h
store-alike p q m k (Link a w) (Byte c v) e h s = absurd h
store-alike p q m k (Link a w) (Link c v) e h s =
    subst (λ (t : Store). SameOn (alike_store p q (Link a w)) (store_in m (Link a w)) (store_in k t)) (both h.0 h.1)
    (same-fewer _ _ _ _ (same-put p m k a w s e) (alike-joined p q (Link a w)))
  where
    both : c ≡ a → v ≡ w → Link a w ≡ Link c v
    both x y = cc

-- ---- lists of stores

abbrev pub StoresAlike : List Bytes → List Store → List Store → Type 0
StoresAlike [] [] [] = Unit {0}
StoresAlike (q ∷ qs) (s ∷ ss) (t ∷ ts) = StoreAlike q s t × StoresAlike qs ss ts
StoresAlike qs ss ts = ⊥

-- the bytes on which memories agree after them
abbrev pub alike_after : Bytes → List Bytes → List Store → Bytes
alike_after p [] ss b = p b
alike_after p (q ∷ qs) [] b = p b
alike_after p (q ∷ qs) (s ∷ ss) b = alike_after (alike_store p q s) qs ss b

pub stores-alike : (p : Bytes) (qs : List Bytes) (m k : ℕ → ℕ) (ss ts : List Store) → AreEven ss → StoresAlike qs ss ts
    → SameOn p m k
    → SameOn (alike_after p qs ss) (stores_in m ss) (stores_in k ts)
stores-alike p [] m k [] [] e h s = record { at = λ b i. s.at b i }
stores-alike p [] m k [] (t ∷ ts) e h s = absurd h
stores-alike p [] m k (x ∷ ss) ts e h s = absurd h
stores-alike p (q ∷ qs) m k [] ts e h s = absurd h
stores-alike p (q ∷ qs) m k (x ∷ ss) [] e h s = absurd h
stores-alike p (q ∷ qs) m k (x ∷ ss) (t ∷ ts) e h s =
    record {
      at = (stores-alike (alike_store p q x) qs (store_in m x) (store_in k t) ss ts e.1 h.1
          (store-alike p q m k x t e.0 h.0 s)).at;
    }

StoresAlike-append : (qs rs : List Bytes) (ss ts us vs : List Store) → StoresAlike qs ss ts → StoresAlike rs us vs
    → StoresAlike (qs ++ rs) (ss ++ us) (ts ++ vs)
StoresAlike-append [] rs [] [] us vs h k = k
StoresAlike-append [] rs [] (t ∷ ts) us vs h k = absurd h
StoresAlike-append [] rs (s ∷ ss) ts us vs h k = absurd h
StoresAlike-append (q ∷ qs) rs [] ts us vs h k = absurd h
StoresAlike-append (q ∷ qs) rs (s ∷ ss) [] us vs h k = absurd h
StoresAlike-append (q ∷ qs) rs (s ∷ ss) (t ∷ ts) us vs h k = (h.0, StoresAlike-append qs rs ss ts us vs h.1 k)

-- one store more, behind the others
alike_after-last : (p : Bytes) (qs : List Bytes) (ss ts : List Store) (q : Bytes) (s : Store) (b : ℕ) → StoresAlike qs ss ts
    → alike_after p (qs ++ q ∷ []) (ss ++ s ∷ []) b ≡ (if store_bytes s b then q b else alike_after p qs ss b)
alike_after-last p [] [] [] q s b h = refl
alike_after-last p [] [] (t ∷ ts) q s b h = absurd h
alike_after-last p [] (x ∷ ss) ts q s b h = absurd h
alike_after-last p (r ∷ qs) [] ts q s b h = absurd h
alike_after-last p (r ∷ qs) (x ∷ ss) [] q s b h = absurd h
alike_after-last p (r ∷ qs) (x ∷ ss) (t ∷ ts) q s b h = alike_after-last (alike_store p r x) qs ss ts q s b h.1

-- ---- an undoing

-- for each store of an undoing, the bytes that were settled before the store whose old word it puts back
abbrev pub undo_settled : (segment : ℕ) → List Noted → List Bytes → List Bytes
undo_settled segment [] earlier = []
undo_settled segment (x ∷ rest) [] = []
undo_settled segment (x ∷ rest) (settled ∷ earlier) =
    undo_settled segment rest earlier ++ (if is_above segment x.address then [] else settled ∷ [])

one-undone : (segment : ℕ) (settled : Bytes) (x y : Noted) → NotesSame settled x y
    → StoresAlike (if is_above segment x.address then [] else settled ∷ [])
    (if is_above segment x.address then [] else Word x.address x.old ∷ [])
    (if is_above segment y.address then [] else Word y.address y.old ∷ [])
one-undone segment settled x y h =
    subst (λ (a : ℕ). StoresAlike (if is_above segment x.address then [] else settled ∷ [])
    (if is_above segment x.address then [] else Word x.address x.old ∷ [])
    (if is_above segment a then [] else Word a y.old ∷ [])) h.address
    (by (is_above segment x.address))
  where
    by : (c : Bool) → StoresAlike (if c then [] else settled ∷ []) (if c then [] else Word x.address x.old ∷ [])
        (if c then [] else Word x.address y.old ∷ [])
    by true = tt
    by false = ((refl, h.old), tt)

pub undo-alike : (segment : ℕ) (earlier : List Bytes) (xs ys : List Noted) → NotesAgree earlier xs ys
    → StoresAlike (undo_settled segment xs earlier) (undo_stores segment xs) (undo_stores segment ys)
undo-alike segment [] [] [] h = tt
undo-alike segment [] [] (y ∷ ys) h = absurd h
undo-alike segment [] (x ∷ xs) ys h = absurd h
undo-alike segment (f ∷ fs) [] ys h = absurd h
undo-alike segment (f ∷ fs) (x ∷ xs) [] h = absurd h
undo-alike segment (f ∷ fs) (x ∷ xs) (y ∷ ys) h =
    StoresAlike-append (undo_settled segment xs fs) _ (undo_stores segment xs) (undo_stores segment ys) _ _
    (undo-alike segment fs xs ys h.1) (one-undone segment f x y h.0)

stores_bytes-append : (ss us : List Store) (b : ℕ) → stores_bytes (ss ++ us) b ≡ (stores_bytes ss b || stores_bytes us b)
stores_bytes-append [] us b = refl
stores_bytes-append (s ∷ ss) us b = ap (λ c. store_bytes s b || c) (stores_bytes-append ss us b)
    ∙ assoc (store_bytes s b) (stores_bytes ss b) (stores_bytes us b)
  where
    assoc : (x y z : Bool) → (x || (y || z)) ≡ ((x || y) || z)
    assoc true y z = refl
    assoc false y z = refl

-- one noted word more: put back last, it is the first that was noted
last-kept : (i s f again p : Bool)
    → (if i then f else (if s then again else p)) ≡ (if s || (i || false) then (if i && true then f else again) else p)
last-kept true true f again p = refl
last-kept true false f again p = refl
last-kept false true f again p = refl
last-kept false false f again p = refl

last-passed : (i s f again p : Bool) → (if s then again else p) ≡ (if s || false then (if i && false then f else again) else p)
last-passed true true f again p = refl
last-passed true false f again p = refl
last-passed false true f again p = refl
last-passed false false f again p = refl

-- one noted word more
undo-more : (p : Bytes) (segment : ℕ) (f : Bytes) (fs : List Bytes) (x : Noted) (xs ys : List Noted) (b : ℕ) → NotesAgree fs xs ys
    → alike_after p (undo_settled segment xs fs) (undo_stores segment xs) b
    ≡ (if stores_bytes (undo_stores segment xs) b then settled_again segment xs fs b else p b)
    → alike_after p (undo_settled segment (x ∷ xs) (f ∷ fs)) (undo_stores segment (x ∷ xs)) b
    ≡ (if stores_bytes (undo_stores segment (x ∷ xs)) b then settled_again segment (x ∷ xs) (f ∷ fs) b else p b)
undo-more p segment f fs x xs ys b h before = by (is_above segment x.address)
  where
    by : (c : Bool) → alike_after p (undo_settled segment xs fs ++ (if c then [] else f ∷ []))
        (undo_stores segment xs ++ (if c then [] else Word x.address x.old ∷ [])) b
        ≡ (if stores_bytes (undo_stores segment xs ++ (if c then [] else Word x.address x.old ∷ [])) b then
        (if is_in_word x.address b && not c then f b else settled_again segment xs fs b) else p b)
    by true =
        ap (λ qs. alike_after p qs (undo_stores segment xs ++ []) b) (append-nil (undo_settled segment xs fs))
        ∙ ap (λ ss. alike_after p (undo_settled segment xs fs) ss b) (append-nil (undo_stores segment xs))
        ∙ before
        ∙ last-passed (is_in_word x.address b) (stores_bytes (undo_stores segment xs) b) (f b) (settled_again segment xs fs b)
        (p b)
        ∙ ap (λ c. if c then (if is_in_word x.address b && false then f b else settled_again segment xs fs b) else p b)
        (sym (stores_bytes-append (undo_stores segment xs) [] b))
    by false =
        alike_after-last p (undo_settled segment xs fs) (undo_stores segment xs) (undo_stores segment ys) f
        (Word x.address x.old) b (undo-alike segment fs xs ys h)
        ∙ ap (λ c. if is_in_word x.address b then f b else c) before
        ∙ last-kept (is_in_word x.address b) (stores_bytes (undo_stores segment xs) b) (f b) (settled_again segment xs fs b) (p b)
        ∙ ap (λ c. if c then (if is_in_word x.address b && true then f b else settled_again segment xs fs b) else p b)
        (sym (stores_bytes-append (undo_stores segment xs) (Word x.address x.old ∷ []) b))

-- the bytes on which memories agree after it: of those that it writes the ones that are settled again, and of the others
-- those on which they agreed before
pub undo-after : (p : Bytes) (segment : ℕ) (earlier : List Bytes) (xs ys : List Noted) (b : ℕ) → NotesAgree earlier xs ys
    → alike_after p (undo_settled segment xs earlier) (undo_stores segment xs) b
    ≡ (if stores_bytes (undo_stores segment xs) b then settled_again segment xs earlier b else p b)
undo-after p segment [] [] [] b h = refl
undo-after p segment [] [] (y ∷ ys) b h = absurd h
undo-after p segment [] (x ∷ xs) ys b h = absurd h
undo-after p segment (f ∷ fs) [] ys b h = absurd h
undo-after p segment (f ∷ fs) (x ∷ xs) [] b h = absurd h
undo-after p segment (f ∷ fs) (x ∷ xs) (y ∷ ys) b h = undo-more p segment f fs x xs ys b h.1 (undo-after p segment fs xs ys b h.1)

-- ---- the machine after it

passed-again : (i s g a : Bool) → (s ≡ true → a ≡ true) → (s || false) ≡ true → (if i && false then g else a) ≡ true
passed-again true true g a h k = h refl
passed-again false true g a h k = h refl
passed-again true false g a h k = cc
passed-again false false g a h k = cc

kept-again : (i s g a : Bool) → (s ≡ true → a ≡ true) → g ≡ true → (s || (i || false)) ≡ true
    → (if i && true then g else a) ≡ true
kept-again true s g a h e k = e
kept-again false true g a h e k = h refl
kept-again false false g a h e k = cc

-- what is settled of the outputs, the data and the code stays settled
again-fixed : (segment : ℕ) (earlier : List Bytes) (xs ys : List Noted) (b : ℕ) → NotesAgree earlier xs ys → is_fixed b ≡ true
    → stores_bytes (undo_stores segment xs) b ≡ true → settled_again segment xs earlier b ≡ true
again-fixed segment [] [] [] b h f s = cc
again-fixed segment [] [] (y ∷ ys) b h f s = absurd h
again-fixed segment [] (x ∷ xs) ys b h f s = absurd h
again-fixed segment (g ∷ gs) [] ys b h f s = absurd h
again-fixed segment (g ∷ gs) (x ∷ xs) [] b h f s = absurd h
again-fixed segment (g ∷ gs) (x ∷ xs) (y ∷ ys) b h f s =
    by (is_above segment x.address) (again-fixed segment gs xs ys b h.1 f)
    (sym (stores_bytes-append (undo_stores segment xs) _ b) ∙ s)
  where
    by : (c : Bool) → (stores_bytes (undo_stores segment xs) b ≡ true → settled_again segment xs gs b ≡ true)
        → (stores_bytes (undo_stores segment xs) b || stores_bytes (if c then [] else Word x.address x.old ∷ []) b) ≡ true
        → (if is_in_word x.address b && not c then g b else settled_again segment xs gs b) ≡ true
    by true go k = passed-again (is_in_word x.address b) (stores_bytes (undo_stores segment xs) b) (g b)
        (settled_again segment xs gs b) go k
    by false go k = kept-again (is_in_word x.address b) (stores_bytes (undo_stores segment xs) b) (g b)
        (settled_again segment xs gs b) go (h.0.fixed b f) k

-- what is settled again was written
passed-written : (i s g a : Bool) → (a ≡ true → s ≡ true) → (if i && false then g else a) ≡ true → (s || false) ≡ true
passed-written true s g a h k = or-left s false (h k)
passed-written false s g a h k = or-left s false (h k)

kept-written : (i s g a : Bool) → (a ≡ true → s ≡ true) → (if i && true then g else a) ≡ true → (s || (i || false)) ≡ true
kept-written true s g a h k = or-right s true refl
kept-written false s g a h k = or-left s false (h k)

again-written : (segment : ℕ) (earlier : List Bytes) (xs ys : List Noted) (b : ℕ) → NotesAgree earlier xs ys
    → settled_again segment xs earlier b ≡ true → stores_bytes (undo_stores segment xs) b ≡ true
again-written segment [] [] [] b h s = cc
again-written segment [] [] (y ∷ ys) b h s = absurd h
again-written segment [] (x ∷ xs) ys b h s = absurd h
again-written segment (g ∷ gs) [] ys b h s = absurd h
again-written segment (g ∷ gs) (x ∷ xs) [] b h s = absurd h
again-written segment (g ∷ gs) (x ∷ xs) (y ∷ ys) b h s =
    stores_bytes-append (undo_stores segment xs) _ b ∙ by (is_above segment x.address) (again-written segment gs xs ys b h.1) s
  where
    by : (c : Bool) → (settled_again segment xs gs b ≡ true → stores_bytes (undo_stores segment xs) b ≡ true)
        → (if is_in_word x.address b && not c then g b else settled_again segment xs gs b) ≡ true
        → (stores_bytes (undo_stores segment xs) b || stores_bytes (if c then [] else Word x.address x.old ∷ []) b) ≡ true
    by true go k = passed-written (is_in_word x.address b) (stores_bytes (undo_stores segment xs) b) (g b)
        (settled_again segment xs gs b) go k
    by false go k = kept-written (is_in_word x.address b) (stores_bytes (undo_stores segment xs) b) (g b)
        (settled_again segment xs gs b) go k

-- the settled bytes after an undoing, of those that it writes and of the others: the memories agree there
undone-within : (fixed again written popped before live held : Bool) → (fixed ≡ true → before ≡ true)
    → (popped ≡ true → before ≡ true)
    → (fixed ≡ true → written ≡ true → again ≡ true) → (again ≡ true → written ≡ true)
    → (fixed || (live && ((popped && (false || not written)) || (again && held)))) ≡ true
    → (if written then again else before) ≡ true
undone-within fixed again true popped before live held f o a w h = elim (or-true fixed _ h) [
  | inl x ↦ a x refl
  | inr k ↦ elim (or-true (popped && false) _ (and-right live _ k)) [
    | inl y ↦ absurd (no (and-right popped false y))
    | inr y ↦ and-left again held y
  ]
]
  where
    no : false ≡ true → ⊥
    no k = cc
undone-within fixed again false popped before live held f o a w h = elim (or-true fixed _ h) [
  | inl x ↦ f x
  | inr k ↦ elim (or-true (popped && true) _ (and-right live _ k)) [
    | inl y ↦ o (and-left popped true y)
    | inr y ↦ absurd (no (w (and-left again held y)))
  ]
]
  where
    no : false ≡ true → ⊥
    no k = cc

-- The effect of an undoing, found by the machine with these noted words, and another, found by what goes along with it with
-- those: they put back their own old words, and are the same besides.
pub record Undoes (segment : ℕ) (xs ys : List Noted) (e f : Effect) : Type 0 where
  pub stores : e.stores ≡ undo_stores segment xs
  pub others : f.stores ≡ undo_stores segment ys
  pub noted : e.noted ≡ false
  pub closes : e.block ≡ Closes
  pub closes_too : f.block ≡ Closes
  pub regs : e.regs ≡ f.regs
  pub working : e.segment ≡ f.segment
  pub marks : e.marks ≡ f.marks

did-undone-settled : (t : Ideal) (e : Effect) (xs ys : List Noted) → e.noted ≡ false → e.stores ≡ undo_stores t.segment xs
    → t.block ≡ Some xs
    → NotesAgree t.earlier xs ys → IsWithin is_fixed t.settled
    → IsWithin (did t e).settled (alike_after t.settled (undo_settled t.segment xs t.earlier) (undo_stores t.segment xs))
did-undone-settled t e xs ys n w o h f b k =
    undo-after t.settled t.segment t.earlier xs ys b h
    ∙ undone-within (is_fixed b) (settled_again t.segment xs t.earlier b) (stores_bytes (undo_stores t.segment xs) b)
    (settled_popped t b)
    (t.settled b) (is_live e.segment (e.regs 1) b) (is_held e.segment (pointers_after t e) b)
    (f b) (popped-within t f b) (again-fixed t.segment t.earlier xs ys b h) (again-written t.segment t.earlier xs ys b h)
    (subst (λ (c : Bool). Here c (undo_stores t.segment xs) xs) n
    (subst (λ (ss : List Store). Here e.noted ss xs) w
    (subst (λ (x : Block). Here e.noted e.stores (noted_of x)) o k)))
  where
    Here : Bool → List Store → List Noted → Type 0
    Here c ss ns =
        (is_fixed b || (is_live e.segment (e.regs 1) b
        && ((settled_popped t b && (c || not (stores_bytes ss b)))
        || ((if c then stores_bytes ss else settled_again t.segment ns t.earlier) b && is_held e.segment
        (pointers_after t e) b)))) ≡ true

-- the machine after an undoing goes along with what went along with it
pub did-undone : (t : Ideal) (e f : Effect) (r m : ℕ → ℕ) (segment marks : ℕ) (xs ys : List Noted) → AreEven e.stores
    → Undoes t.segment xs ys e f → t.block ≡ Some xs → Agrees t r m segment (Some ys) marks
    → Agrees (did t e) f.regs (stores_in m f.stores) f.segment (block_after f m (Some ys)) (if f.marks then marks + 1 else marks)
did-undone t e f r m segment marks xs ys even u o a =
    let on : Bytes = alike_after t.settled (undo_settled t.segment xs t.earlier) (undo_stores t.segment xs) in
    let h : NotesAgree t.earlier xs ys = subst (λ (x : Block). BlocksAgree t.earlier x (Some ys)) o a.block_is in
    let s = stores-alike t.settled (undo_settled t.segment xs t.earlier) t.core.memory m (undo_stores t.segment xs)
    (undo_stores t.segment ys)
    (subst AreEven u.stores even) (undo-alike t.segment t.earlier xs ys h) a.memory in
    record {
      regs_are = u.regs;
      memory = same-fewer _ _ _ _
          (subst (λ (ss : List Store). SameOn on (stores_in t.core.memory ss) (stores_in m f.stores)) (sym u.stores)
          (subst (λ (ts : List Store). SameOn on (stores_in t.core.memory (undo_stores t.segment xs)) (stores_in m ts))
          (sym u.others) s))
          (did-undone-settled t e xs ys u.noted u.stores o h a.fixed);
      segment_is = u.working;
      block_is = subst (λ (c : BlockChange). BlocksAgree (earlier_after t e)
          (block_by c e.noted e.stores t.core.memory t.block) (block_after f m (Some ys)))
          (sym u.closes) (subst (λ (c : BlockChange). BlocksAgree (earlier_after t e) None
          (block_by c f.noted f.stores m (Some ys))) (sym u.closes_too) tt);
      marks_are = ap (λ c. if c then t.marks + 1 else t.marks) u.marks ∙ ap (λ x. if f.marks then x + 1 else x) a.marks_are;
      fixed = after-fixed e.segment (e.regs 1) (pointers_after t e) (settled_new t e) (settled_old t e);
      within = λ b k. subst (λ x. may_settle x b ≡ true) u.working
          (after-within e.segment (e.regs 1) (pointers_after t e) (settled_new t e) (settled_old t e) b k);
    }
