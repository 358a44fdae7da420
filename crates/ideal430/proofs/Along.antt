-- A machine that agrees with another on the bytes that count, and uses these alone, goes along with it.
use Rattle.std.proofs.Common.{◌≡◌, ℕ, zero, suc, ◌+◌, ◌%◌, Bool, true, false, ◌&&◌, ◌||◌, nat_eq, refl, sym, ap, ◌∙◌, subst, arith, inl, inr, Some, None, List, [], ◌∷◌, ◌++◌, length, map, if◌then◌else◌}
use Rattle.base16.specs.declared.reading.Reading.{Reading}
use Rattle.base16.specs.declared.reading.Reading.TheVariants as reading
use Rattle.core430.specs.Bytes.{byte_in}
use Rattle.core430.specs.Step.{State, Outcome, Next, Service as Calls, Wild, step}
use Rattle.core430.specs.Uses.{IsWithin, SameOn, joined, EndAlike, step_uses, step_changes}
use Rattle.core430.proofs.SameBytes.{same-fewer, same-put, same-put_byte, two-bytes}
use Rattle.core430.proofs.Truths.{or-true, or-left, or-right, and-left, and-right}
use Rattle.core430.proofs.Depends.{step_depends}
use Rattle.ideal430.specs.Places.{is_fixed, is_up_to}
use Rattle.ideal430.specs.Service.{Noted, Block, BlockChange, Stays, Opens, Closes, Effect, Deed, Refuses, Does, deed_at, ask_at, store_address, store_in, stores_in, noted_in, noted_of, block_by, block_after, is_open, OnDoes}
use Rattle.ideal430.specs.Settled.{Bytes, no_bytes, store_bytes, stores_bytes, is_live, settled_after, settled_again}
use Rattle.ideal430.specs.Ideal.{Ideal, stopped, moved, settled_popped, settled_new, settled_old, pointers_after, earlier_by, did, doing, deed_here, ask_here, with_left, sensing, timing, asking, served, after, free, next_if, next, run}
use Rattle.ideal430.specs.Uses.{uses_at, UsesAfter, UsesIf, UsesSettled, IsClean}
use Rattle.ideal430.specs.Agreement.{NotesSame, NotesAgree, BlocksAgree, may_settle, Agrees, GoesAlong}
use Rattle.ideal430.specs.Shown.{IsEven, AreEven, block_words}
use Rattle.ideal430.specs.declared.service.Store.{Store}
use Rattle.ideal430.specs.declared.service.Store.TheVariants.{Word, Byte, Link}
use Rattle.ideal430.specs.declared.service.Ask.{Ask}
use Rattle.ideal430.specs.declared.service.Ask.TheVariants.{Nothing, Sensor, Clock}
use Rattle.ideal430.specs.declared.state.IdealEnd.{IdealEnd}
use Rattle.ideal430.specs.declared.state.IdealEnd.TheVariants.{Running, Ended, NeedsReading}
use Rattle.ideal430.proofs.Deeds.{deed-same, ask-same, Sound, deed-sound}

-- ---- the bytes that count after some were written

pub after-fixed : (segment sp : ℕ) (ps : ℕ → ℕ) (w p : Bytes) (b : ℕ) → is_fixed b ≡ true
    → settled_after segment sp ps w p b ≡ true
after-fixed segment sp ps w p b h = or-left (is_fixed b) _ h

pub after-within : (segment sp : ℕ) (ps : ℕ → ℕ) (w p : Bytes) (b : ℕ) → settled_after segment sp ps w p b ≡ true
    → may_settle segment b ≡ true
after-within segment sp ps w p b h = elim (or-true (is_fixed b) _ h) [
  | inl f ↦ or-left (is_fixed b) _ f
  | inr k ↦ or-right (is_fixed b) _ (and-left (is_up_to segment b) _ (and-left (is_live segment sp b) _ k))
]

-- each was settled before, or was written
pub after-joined : (segment sp : ℕ) (ps : ℕ → ℕ) (w p q : Bytes) → IsWithin is_fixed q → IsWithin p q
    → IsWithin (settled_after segment sp ps w p) (joined q w)
after-joined segment sp ps w p q f g b h = elim (or-true (is_fixed b) _ h) [
  | inl x ↦ or-left (q b) _ (f b x)
  | inr k ↦ elim (or-true (p b) _ (and-right (is_live segment sp b) _ k)) [
    | inl y ↦ or-left (q b) _ (g b y)
    | inr y ↦ or-right (q b) _ (and-left (w b) _ y)
  ]
]

pub popped-within : (t : Ideal) → IsWithin is_fixed t.settled → IsWithin (settled_popped t) t.settled
popped-within t f b h = elim (or-true (t.settled b) false
    (after-joined t.segment (t.core.regs 1 + 2) t.pointers no_bytes t.settled t.settled f (λ x i. i) b h)) [
      | inl x ↦ x
      | inr y ↦ absurd (no y)
    ]
  where
    no : false ≡ true → ⊥
    no k = cc

-- ---- stores over memories that agree

store-same : (p : Bytes) (m k : ℕ → ℕ) (s : Store) → IsEven s → SameOn p m k
    → SameOn (joined p (store_bytes s)) (store_in m s) (store_in k s)
store-same p m k (Word a w) e s = same-put p m k a w s e
store-same p m k (Byte a v) e s = same-put_byte p m k a v s
store-same p m k (Link a w) e s = same-put p m k a w s e

pub stores-same : (p : Bytes) (m k : ℕ → ℕ) (stores : List Store) → AreEven stores → SameOn p m k
    → SameOn (joined p (stores_bytes stores)) (stores_in m stores) (stores_in k stores)
stores-same p m k [] e s = same-fewer p _ m k s (λ b h. elim (or-true (p b) false h) [ inl x ↦ x | inr y ↦ absurd (no y) ])
  where
    no : false ≡ true → ⊥
    no y = cc
stores-same p m k (x ∷ rest) e s =
    same-fewer (joined (joined p (store_bytes x)) (stores_bytes rest)) _ _ _
    (stores-same (joined p (store_bytes x)) (store_in m x) (store_in k x) rest e.1 (store-same p m k x e.0 s))
    (λ b h. shift (p b) (store_bytes x b) (stores_bytes rest b) h)
  where
    shift : (p q r : Bool) → (p || (q || r)) ≡ true → ((p || q) || r) ≡ true
    shift true q r h = refl
    shift false true r h = refl
    shift false false r h = h

-- ---- noted words

NotesAgree-append : (f g : List Bytes) (xs ys us vs : List Noted) → NotesAgree f xs ys → NotesAgree g us vs
    → NotesAgree (f ++ g) (xs ++ us) (ys ++ vs)
NotesAgree-append [] g [] [] us vs h k = k
NotesAgree-append [] g [] (y ∷ ys) us vs h k = absurd h
NotesAgree-append [] g (x ∷ xs) ys us vs h k = absurd h
NotesAgree-append (f ∷ fs) g [] ys us vs h k = absurd h
NotesAgree-append (f ∷ fs) g (x ∷ xs) [] us vs h k = absurd h
NotesAgree-append (f ∷ fs) g (x ∷ xs) (y ∷ ys) us vs h k = (h.0, NotesAgree-append fs g xs ys us vs h.1 k)

store_address-even : (s : Store) → IsEven s → store_address s % 2 ≡ 0
store_address-even (Word a w) e = e
store_address-even (Byte a v) e = omega arith
store_address-even (Link a w) e = e

note-same : (p : Bytes) (m k : ℕ → ℕ) (a : ℕ) → a % 2 ≡ 0 → IsWithin is_fixed p → SameOn p m k
    → NotesSame p (record { address = a; old = m a }) (record { address = a; old = k a })
note-same p m k a e f s = record {
  fixed = f;
  address = refl;
  old = λ b i j. let w = two-bytes a b e i in subst (λ (c : ℕ). byte_in b (m c) ≡ byte_in b (k c)) w (s.at b j);
}

noted_in-agree : (p : Bytes) (m k : ℕ → ℕ) (stores : List Store) → AreEven stores → IsWithin is_fixed p → SameOn p m k
    → NotesAgree (map (λ s. p) stores) (noted_in m stores) (noted_in k stores)
noted_in-agree p m k [] e f s = tt
noted_in-agree p m k (x ∷ rest) e f s = (
  note-same p m k (store_address x) (store_address-even x e.0) f s,
  noted_in-agree p (store_in m x) (store_in k x) rest e.1 f
      (same-fewer (joined p (store_bytes x)) p _ _ (store-same p m k x e.0 s) (λ b h. or-left (p b) _ h)),
)

blocks-after : (change : BlockChange) (noted : Bool) (earlier : List Bytes) (p : Bytes) (m k : ℕ → ℕ) (stores : List Store)
    (b c : Block)
    → AreEven stores → IsWithin is_fixed p → SameOn p m k → BlocksAgree earlier b c
    → BlocksAgree (earlier_by change (is_open b && noted) (map (λ s. p) stores) earlier) (block_by change noted stores m b)
    (block_by change noted stores k c)
blocks-after Opens noted earlier p m k stores b c e f s h = tt
blocks-after Closes noted earlier p m k stores b c e f s h = tt
blocks-after Stays noted earlier p m k stores None None e f s h = tt
blocks-after Stays noted earlier p m k stores None (Some ys) e f s h = absurd h
blocks-after Stays noted earlier p m k stores (Some xs) None e f s h = absurd h
blocks-after Stays true earlier p m k stores (Some xs) (Some ys) e f s h = NotesAgree-append earlier _ xs ys _ _ h
    (noted_in-agree p m k stores e f s)
blocks-after Stays false earlier p m k stores (Some xs) (Some ys) e f s h = h

NotesAgree-length : (f : List Bytes) (xs ys : List Noted) → NotesAgree f xs ys → length xs ≡ length ys
NotesAgree-length [] [] [] h = refl
NotesAgree-length [] [] (y ∷ ys) h = absurd h
NotesAgree-length [] (x ∷ xs) ys h = absurd h
NotesAgree-length (f ∷ fs) [] ys h = absurd h
NotesAgree-length (f ∷ fs) (x ∷ xs) [] h = absurd h
NotesAgree-length (f ∷ fs) (x ∷ xs) (y ∷ ys) h = ap suc (NotesAgree-length fs xs ys h.1)

pub blocks-words : (f : List Bytes) (b c : Block) → BlocksAgree f b c → block_words b ≡ block_words c
blocks-words f None None h = refl
blocks-words f None (Some ys) h = absurd h
blocks-words f (Some xs) None h = absurd h
blocks-words f (Some xs) (Some ys) h = ap Some (NotesAgree-length f xs ys h)

-- ---- an effect

-- where the stores of an effect are noted, the settled bytes after it are those that it writes and older ones
did-settled : (t : Ideal) (e : Effect) → e.noted ≡ true → IsWithin is_fixed t.settled
    → IsWithin (did t e).settled (joined t.settled (stores_bytes e.stores))
did-settled t e n f b h = by e.noted n
    (after-joined e.segment (e.regs 1) (pointers_after t e) (settled_new t e) (settled_old t e) t.settled f older b h)
  where
    older : IsWithin (settled_old t e) t.settled
    older x i = popped-within t f x (and-left (settled_popped t x) _ i)

    by : (q : Bool) → q ≡ true → (t.settled b
        || (if q then stores_bytes e.stores else settled_again t.segment (noted_of t.block) t.earlier) b) ≡ true
        → joined t.settled (stores_bytes e.stores) b ≡ true
    by true k i = i
    by false k i = cc

pub did-agrees : (t : Ideal) (e : Effect) (r m : ℕ → ℕ) (segment : ℕ) (block : Block) (marks : ℕ) → AreEven e.stores
    → e.noted ≡ true
    → Agrees t r m segment block marks
    → Agrees (did t e) e.regs (stores_in m e.stores) e.segment (block_after e m block) (if e.marks then marks + 1 else marks)
did-agrees t e r m segment block marks even n a = record {
  regs_are = refl;
  memory = same-fewer _ _ _ _ (stores-same t.settled t.core.memory m e.stores even a.memory) (did-settled t e n a.fixed);
  segment_is = refl;
  block_is = blocks-after e.block e.noted t.earlier (settled_popped t) t.core.memory m e.stores t.block block even
      (after-fixed t.segment (t.core.regs 1 + 2) t.pointers no_bytes t.settled)
      (same-fewer t.settled (settled_popped t) t.core.memory m a.memory (popped-within t a.fixed)) a.block_is;
  marks_are = ap (λ x. if e.marks then x + 1 else x) a.marks_are;
  fixed = after-fixed e.segment (e.regs 1) (pointers_after t e) (settled_new t e) (settled_old t e);
  within = after-within e.segment (e.regs 1) (pointers_after t e) (settled_new t e) (settled_old t e);
}

-- ---- a machine and another

-- the same of a machine that differs in nothing that is asked
agrees-again : (t u : Ideal) (r m : ℕ → ℕ) (segment : ℕ) (block : Block) (marks : ℕ) → t.core ≡ u.core → t.segment ≡ u.segment
    → t.block ≡ u.block
    → t.marks ≡ u.marks → t.settled ≡ u.settled → t.earlier ≡ u.earlier → Agrees t r m segment block marks
    → Agrees u r m segment block marks
agrees-again t u r m segment block marks c s b k p e a = record {
  regs_are = sym (ap (λ (x : State). x.regs) c) ∙ a.regs_are;
  memory = subst (λ (x : State). SameOn u.settled x.memory m) c (subst (λ (q : Bytes). SameOn q t.core.memory m) p a.memory);
  segment_is = sym s ∙ a.segment_is;
  block_is = subst (λ (x : Block). BlocksAgree u.earlier x block) b
      (subst (λ (f : List Bytes). BlocksAgree f t.block block) e a.block_is);
  marks_are = sym k ∙ a.marks_are;
  fixed = subst (λ (q : Bytes). IsWithin is_fixed q) p a.fixed;
  within = subst (λ (q : Bytes). IsWithin q (may_settle segment)) p a.within;
}

stopped-along : (t u : Ideal) (status : IdealEnd) → GoesAlong t u → GoesAlong (stopped t status) (stopped u status)
stopped-along t u status g = record {
  agrees = agrees-again t (stopped t status) _ _ _ _ _ refl refl refl refl refl refl g.agrees;
  left = g.left;
  status = refl;
}

left-along : (t u : Ideal) (rest : List Reading) → GoesAlong t u → GoesAlong (with_left t rest) (with_left u rest)
left-along t u rest g = record {
  agrees = agrees-again t (with_left t rest) _ _ _ _ _ refl refl refl refl refl refl g.agrees;
  left = refl;
  status = g.status;
}

did-along : (t u : Ideal) (e : Effect) (segment : ℕ) → Sound segment e → GoesAlong t u → GoesAlong (did t e) (did u e)
did-along t u e segment s g = record {
  agrees = did-agrees t e u.core.regs u.core.memory u.segment u.block u.marks s.even s.noted g.agrees;
  left = g.left;
  status = refl;
}

doing-along : (t u : Ideal) (d : Deed) (segment : ℕ) → OnDoes d (Sound segment) → GoesAlong t u
    → GoesAlong (doing t d) (doing u d)
doing-along t u (Refuses kind) segment s g = stopped-along t u (Ended kind) g
doing-along t u (Does e) segment s g = did-along t u e segment s g

-- ---- a service

-- the same deed, and the same is asked
deeds-same : (t u : Ideal) (n value : ℕ) → GoesAlong t u → IsWithin (uses_at n t.core.regs t.core.memory t.segment) t.settled
    → deed_here n value t ≡ deed_here n value u
deeds-same t u n value g h =
    deed-same t.settled t.core.memory u.core.memory n value t.core.regs t.segment t.block u.block g.agrees.memory h
    (blocks-words t.earlier t.block u.block g.agrees.block_is)
    ∙ ap (λ (r : ℕ → ℕ). deed_at n value r u.core.memory t.segment u.block) g.agrees.regs_are
    ∙ ap (λ s. deed_at n value u.core.regs u.core.memory s u.block) g.agrees.segment_is

asks-same : (t u : Ideal) (n : ℕ) → GoesAlong t u → IsWithin (uses_at n t.core.regs t.core.memory t.segment) t.settled
    → ask_here n t ≡ ask_here n u
asks-same t u n g h =
    ask-same t.settled t.core.memory u.core.memory n t.core.regs t.segment t.block u.block g.agrees.memory h
    (blocks-words t.earlier t.block u.block g.agrees.block_is)
    ∙ ap (λ (r : ℕ → ℕ). ask_at n r u.core.memory t.segment u.block) g.agrees.regs_are
    ∙ ap (λ s. ask_at n u.core.regs u.core.memory s u.block) g.agrees.segment_is

doing-here : (t u : Ideal) (n value : ℕ) (rest : List Reading) → GoesAlong t u
    → IsWithin (uses_at n t.core.regs t.core.memory t.segment) t.settled
    → GoesAlong (doing (with_left t rest) (deed_here n value t)) (doing (with_left u rest) (deed_here n value u))
doing-here t u n value rest g h =
    subst (λ (d : Deed). GoesAlong (doing (with_left t rest) (deed_here n value t)) (doing (with_left u rest) d))
    (deeds-same t u n value g h)
    (doing-along (with_left t rest) (with_left u rest) (deed_here n value t) t.segment
    (deed-sound n value t.core.regs t.core.memory t.segment t.block) (left-along t u rest g))

sensing-along : (t u : Ideal) (n channel : ℕ) (left : List Reading) → GoesAlong t u
    → IsWithin (uses_at n t.core.regs t.core.memory t.segment) t.settled
    → GoesAlong (sensing n t channel left) (sensing n u channel left)
sensing-along t u n channel [] g h = stopped-along t u NeedsReading g
sensing-along t u n channel (reading.Sense c value ∷ rest) g h = by (nat_eq c channel)
  where
    by : (b : Bool) → GoesAlong (if b then doing (with_left t rest) (deed_here n value t) else stopped t NeedsReading)
        (if b then doing (with_left u rest) (deed_here n value u) else stopped u NeedsReading)
    by true = doing-here t u n value rest g h
    by false = stopped-along t u NeedsReading g
sensing-along t u n channel (reading.Clock ms ∷ rest) g h = stopped-along t u NeedsReading g

timing-along : (t u : Ideal) (n : ℕ) (left : List Reading) → GoesAlong t u
    → IsWithin (uses_at n t.core.regs t.core.memory t.segment) t.settled
    → GoesAlong (timing n t left) (timing n u left)
timing-along t u n [] g h = stopped-along t u NeedsReading g
timing-along t u n (reading.Sense c value ∷ rest) g h = stopped-along t u NeedsReading g
timing-along t u n (reading.Clock ms ∷ rest) g h = doing-here t u n ms rest g h

asking-along : (t u : Ideal) (n : ℕ) (ask : Ask) → GoesAlong t u
    → IsWithin (uses_at n t.core.regs t.core.memory t.segment) t.settled
    → GoesAlong (asking n t ask) (asking n u ask)
asking-along t u n Nothing g h =
    subst (λ (d : Deed). GoesAlong (doing t (deed_here n 0 t)) (doing u d)) (deeds-same t u n 0 g h)
    (doing-along t u (deed_here n 0 t) t.segment (deed-sound n 0 t.core.regs t.core.memory t.segment t.block) g)
asking-along t u n (Sensor channel) g h =
    subst (λ (l : List Reading). GoesAlong (sensing n t channel t.left) (sensing n u channel l)) g.left
    (sensing-along t u n channel t.left g h)
asking-along t u n Clock g h =
    subst (λ (l : List Reading). GoesAlong (timing n t t.left) (timing n u l)) g.left (timing-along t u n t.left g h)

pub served-along : (t u : Ideal) (n : ℕ) → GoesAlong t u → IsWithin (uses_at n t.core.regs t.core.memory t.segment) t.settled
    → GoesAlong (served n t) (served n u)
served-along t u n g h =
    subst (λ (a : Ask). GoesAlong (served n t) (asking n u a)) (asks-same t u n g h) (asking-along t u n (ask_here n t) g h)

-- ---- an instruction

pub moved-along : (t u : Ideal) (s v : State) → s.regs ≡ v.regs
    → SameOn (joined t.settled (step_changes t.core)) s.memory v.memory → GoesAlong t u
    → GoesAlong (moved t s) (moved u v)
moved-along t u s v r m g = record {
  agrees = record {
    regs_are = r;
    memory = same-fewer _ _ _ _ m (after-joined t.segment (s.regs 1) t.pointers
        (step_changes t.core) t.settled t.settled g.agrees.fixed (λ b h. h));
    segment_is = g.agrees.segment_is;
    block_is = g.agrees.block_is;
    marks_are = g.agrees.marks_are;
    fixed = after-fixed t.segment (s.regs 1) t.pointers (step_changes t.core) t.settled;
    within = λ b h. subst (λ x. may_settle x b ≡ true) g.agrees.segment_is
        (after-within t.segment (s.regs 1) t.pointers (step_changes t.core) t.settled b h);
  };
  left = g.left;
  status = g.status;
}

after-along : (t u : Ideal) (o q : Outcome) → EndAlike (joined t.settled (step_changes t.core)) o q → UsesAfter t o
    → GoesAlong t u
    → GoesAlong (after t o) (after u q)
after-along t u (Next s) q e h g =
    subst (λ (x : Outcome). GoesAlong (moved t s) (after u x)) (sym e.1) (moved-along t u s e.0 e.2 e.3 g)
after-along t u (Calls n s) q e h g =
    subst (λ (x : Outcome). GoesAlong (served n (moved t s)) (after u x)) (sym e.1)
    (served-along (moved t s) (moved u e.0) n (moved-along t u s e.0 e.2 e.3 g) h)
after-along t u (Wild a) q e h g =
    subst (λ (x : Outcome). GoesAlong (after t (Wild a)) (after u x)) (sym e) (stopped-along t u _ g)

steps-alike : (t u : Ideal) → GoesAlong t u → IsWithin (step_uses t.core) t.settled
    → EndAlike (joined t.settled (step_changes t.core)) (step free t.core) (step free u.core)
steps-alike t u g h =
    subst (λ (r : ℕ → ℕ). EndAlike (joined t.settled (step_changes t.core)) (step free t.core)
    (step free (record { regs = r; memory = u.core.memory }))) g.agrees.regs_are
    (step_depends free t.core t.settled u.core.memory g.agrees.memory h)

next_if-along : (status : IdealEnd) (t u : Ideal) → UsesIf status t → GoesAlong t u
    → GoesAlong (next_if status t) (next_if status u)
next_if-along Running t u h g = after-along t u (step free t.core) (step free u.core) (steps-alike t u g h.0) h.1 g
next_if-along (Ended kind) t u h g = g
next_if-along NeedsReading t u h g = g

pub next-along : (t u : Ideal) → UsesSettled t → GoesAlong t u → GoesAlong (next t) (next u)
next-along t u h g = subst (λ (s : IdealEnd). GoesAlong (next t) (next_if s u)) g.status (next_if-along t.status t u h g)

pub run-along : (n : ℕ) (t u : Ideal) → IsClean n t → GoesAlong t u → GoesAlong (run n t) (run n u)
run-along zero t u h g = g
run-along (suc n) t u h g = next-along (run n t) (run n u) (h n (omega arith)) (run-along n t u (λ k l. h k (omega arith)) g)
