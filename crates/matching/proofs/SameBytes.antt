-- Words match a state by the bytes of which it says something, so another memory that agrees on these matches it as well.
use Rattle.std.proofs.Common.{◌≡◌, ℕ, suc, ◌+◌, true, false, Bool, not, ◌||◌, ◌≢◌, List, [], ◌∷◌, length, Option, Some, None, refl, sym, ap, ◌∙◌, arith}
use Rattle.std.proofs.lemmas.Bool.{eqb-true, eqb-false, eq-eqb}
use Rattle.std.proofs.lemmas.Bool.Decides.{nat_tests}
use Rattle.std.specs.Prelude.{nat_eq, if◌then◌else◌}
use Rattle.base16.proofs.Writes.{put-at, put-other}
use Rattle.base16.specs.Board.{outputs_start}
use Rattle.base16.specs.Memory.{put}
use Rattle.base16.specs.declared.image.Kind.{Kind}
use Rattle.c_run.specs.Actions.{kept}
use Rattle.c_values.specs.Objects.{wide}
use Rattle.c_values.specs.declared.state.Saved.{Saved}
use Rattle.c_values.specs.declared.state.State.{State}
use Rattle.c_values.specs.declared.value.Cell.{Cell}
use Rattle.core430.specs.Bytes.{byte_at, byte_in, word_address}
use Rattle.core430.specs.Uses.{IsWithin, SameOn, access_bytes}
use Rattle.core_tree.specs.Data.{stamp_address}
use Rattle.core_tree.specs.declared.program.Core.{Core}
use Rattle.ideal430.specs.Agreement.{NotesSame, NotesAgree, BlocksAgree}
use Rattle.ideal430.specs.Ideal.{Ideal}
use Rattle.ideal430.specs.Places.{is_in_word}
use Rattle.ideal430.specs.Service.{Noted, Block}
use Rattle.ideal430.specs.Settled.{Bytes}
use Rattle.matching.specs.Laws.{MatchesAlong}
use Rattle.matching.specs.Matches.{Placed, placed, encoded, WordStands, CodeStands, Says, ScalarsStand, ObjectsStand, StampStands, StampsStand, WordsStand, WordsAre, put_back, BlockMatches}
use Rattle.matching.specs.Said.{code_said, scalars_said, objects_said, stamps_said, words_said, said, settled_put_back, OpeningCounts}

-- ---- sets of bytes

pub or_left : (a b : Bool) → a ≡ true → (a || b) ≡ true
or_left a b e = ap (λ x. x || b) e

pub or_right : (a b : Bool) → b ≡ true → (a || b) ≡ true
or_right true b e = refl
or_right false b e = e

pub on_left : (p q : Bytes) (m k : ℕ → ℕ) → SameOn (λ b. p b || q b) m k → SameOn p m k
on_left p q m k s = record { at = λ b e. s.at b (or_left (p b) (q b) e) }

pub on_right : (p q : Bytes) (m k : ℕ → ℕ) → SameOn (λ b. p b || q b) m k → SameOn q m k
on_right p q m k s = record { at = λ b e. s.at b (or_right (p b) (q b) e) }

pub on_fewer : (p q : Bytes) (m k : ℕ → ℕ) → IsWithin p q → SameOn q m k → SameOn p m k
on_fewer p q m k within s = record { at = λ b e. s.at b (within b e) }

pub low_in_word : (a : ℕ) → is_in_word a a ≡ true
low_in_word a = or_left (nat_eq a a) _ (eq-eqb a a refl)

pub high_in_word : (a : ℕ) → is_in_word a (a + 1) ≡ true
high_in_word a = or_right (nat_eq (a + 1) a) _ (eq-eqb (a + 1) (a + 1) refl)

-- ---- what stands there

word_same : (m k : ℕ → ℕ) (a w : ℕ) → SameOn (is_in_word a) m k → WordStands m a w → WordStands k a w
word_same m k a w s h = record {
  low = sym (s.at a (low_in_word a)) ∙ h.low;
  high = sym (s.at (a + 1) (high_in_word a)) ∙ h.high;
}

code_same : (m k : ℕ → ℕ) (wide : Bool) (a code : ℕ) → SameOn (access_bytes (not wide) a) m k → CodeStands m wide a code
    → CodeStands k wide a code
code_same m k true a code s h = word_same m k a code s h
code_same m k false a code s h = sym (s.at a (or_left (nat_eq a a) _ (eq-eqb a a refl))) ∙ h

says_same : (m k : ℕ → ℕ) (x : Kind) (a : ℕ) (o : Option ℕ) → SameOn (code_said x a o) m k → Says m x a o → Says k x a o
says_same m k x a None s h = tt
says_same m k x a (Some code) s h = code_same m k (wide x) a code s h

scalars_same : (m k : ℕ → ℕ) (alive : List Placed) (a : ℕ) (cs : List Cell) → SameOn (scalars_said alive a cs) m k
    → ScalarsStand m alive a cs → ScalarsStand k alive a cs
scalars_same m k alive a [] s h = tt
scalars_same m k alive a (c ∷ cs) s h = (
  says_same m k c.kind (a + c.offset) (encoded alive c.kind c.value) (on_left _ (scalars_said alive a cs) m k s) h.0,
  scalars_same m k alive a cs (on_right (code_said c.kind (a + c.offset) (encoded alive c.kind c.value)) _ m k s) h.1,
)

objects_same : (m k : ℕ → ℕ) (alive ps : List Placed) → SameOn (objects_said alive ps) m k → ObjectsStand m alive ps
    → ObjectsStand k alive ps
objects_same m k alive [] s h = tt
objects_same m k alive (p ∷ ps) s h = (
  scalars_same m k alive p.address p.object.cells (on_left _ (objects_said alive ps) m k s) h.0,
  objects_same m k alive ps (on_right (scalars_said alive p.address p.object.cells) _ m k s) h.1,
)

stamp_same : (m k : ℕ → ℕ) (a : ℕ) (stamp : Option ℕ) → SameOn (is_in_word a) m k → SameOn (is_in_word (a + 2)) m k
    → StampStands m a stamp → StampStands k a stamp
stamp_same m k a stamp s t h = record { low = word_same m k a _ s h.low; high = word_same m k (a + 2) _ t h.high }

stamps_same : (m k : ℕ → ℕ) (core : Core) (n : ℕ) (xs : List (Option ℕ)) → SameOn (stamps_said core n xs) m k
    → StampsStand m core n xs → StampsStand k core n xs
stamps_same m k core n [] s h = tt
stamps_same m k core n (x ∷ xs) s h =
    let a = stamp_address core n in
    let more = on_right (is_in_word a) (λ b. is_in_word (a + 2) b || stamps_said core (n + 1) xs b) m k s in (
      stamp_same m k a x (on_left (is_in_word a) _ m k s)
          (on_left (is_in_word (a + 2)) (stamps_said core (n + 1) xs) m k more) h.0,
      stamps_same m k core (n + 1) xs (on_right (is_in_word (a + 2)) (stamps_said core (n + 1) xs) m k more) h.1,
    )

words_same : (m k : ℕ → ℕ) (a : ℕ) (ws : List ℕ) → SameOn (words_said a ws) m k → WordsStand m a ws → WordsStand k a ws
words_same m k a [] s h = tt
words_same m k a (w ∷ ws) s h = (
  word_same m k a w (on_left (is_in_word a) (words_said (a + 2) ws) m k s) h.0,
  words_same m k (a + 2) ws (on_right (is_in_word a) (words_said (a + 2) ws) m k s) h.1,
)

-- a memory that agrees on the bytes of which a state says something has its words as well
pub state_same : (core : Core) (s : Saved) (m k : ℕ → ℕ) → SameOn (said core s) m k → WordsAre core s m → WordsAre core s k
state_same core s m k same h =
    let stamps : Bytes = stamps_said core 0 s.stamps in
    let count : Bytes = is_in_word outputs_start in
    let words : Bytes = words_said (outputs_start + 2) s.outputs in
    let outputs : Bytes = λ b. is_in_word outputs_start b || words_said (outputs_start + 2) s.outputs b in
    let more = on_right (objects_said (placed core s) (placed core s)) (λ b. stamps b || outputs b) m k same in
    let rest = on_right stamps outputs m k more in
    record {
      objects = objects_same m k (placed core s) (placed core s) (on_left _ (λ b. stamps b || outputs b) m k same) h.objects;
      stamps = stamps_same m k core 0 s.stamps (on_left stamps outputs m k more) h.stamps;
      outputs = record {
        count = word_same m k outputs_start _ (on_left count words m k rest) h.outputs.count;
        words = words_same m k (outputs_start + 2) s.outputs (on_right count words m k rest) h.outputs.words;
      };
    }

-- ---- noted words put back

in_word_of : (a b : ℕ) → word_address b ≡ a → is_in_word a b ≡ true
in_word_of a b e = grind (arith, nat_tests)

one_put : (before after : Bytes) (x y : Noted) (m k : ℕ → ℕ) → NotesSame before x y → SameOn after m k → (b : ℕ)
    → (if nat_eq (word_address b) x.address then before b else after b) ≡ true
    → byte_at (put m x.address x.old) b ≡ byte_at (put k y.address y.old) b
one_put before after x y m k same rest b = from (nat_eq (word_address b) x.address) refl
  where
    from : (t : Bool) → nat_eq (word_address b) x.address ≡ t → (if t then before b else after b) ≡ true
        → byte_at (put m x.address x.old) b ≡ byte_at (put k y.address y.old) b
    from true is e =
        let here : word_address b ≡ x.address = eqb-true (word_address b) x.address is in
        ap (byte_in b) (put-at m x.address (word_address b) x.old here)
        ∙ same.old b (in_word_of x.address b here) e
        ∙ ap (byte_in b) (sym (put-at k y.address (word_address b) y.old (here ∙ same.address)))
    from false is e =
        let off = eqb-false (word_address b) x.address is in
        let other : word_address b ≢ y.address = λ f. off (f ∙ sym same.address) in
        ap (byte_in b) (put-other m x.address x.old (word_address b) off)
        ∙ rest.at b e
        ∙ ap (byte_in b) (sym (put-other k y.address y.old (word_address b) other))

-- noted words that agree, put back into memories that agree
pub put_back_same : (earlier : List Bytes) (xs ys : List Noted) (settled : Bytes) (m k : ℕ → ℕ) → NotesAgree earlier xs ys
    → SameOn settled m k → SameOn (settled_put_back xs earlier settled) (put_back xs m) (put_back ys k)
put_back_same [] [] [] settled m k agree same = same
put_back_same (before ∷ earlier) (x ∷ xs) (y ∷ ys) settled m k agree same =
    let rest = put_back_same earlier xs ys settled m k agree.1 same in
    record { at = one_put before (settled_put_back xs earlier settled) x y (put_back xs m) (put_back ys k) agree.0 rest }
put_back_same [] [] (y ∷ ys) settled m k agree same = absurd agree
put_back_same [] (x ∷ xs) ys settled m k agree same = absurd agree
put_back_same (before ∷ earlier) [] ys settled m k agree same = absurd agree
put_back_same (before ∷ earlier) (x ∷ xs) [] settled m k agree same = absurd agree

as_many : (earlier : List Bytes) (xs ys : List Noted) → NotesAgree earlier xs ys → length ys ≡ length xs
as_many [] [] [] agree = refl
as_many (before ∷ earlier) (x ∷ xs) (y ∷ ys) agree = ap suc (as_many earlier xs ys agree.1)
as_many [] [] (y ∷ ys) agree = absurd agree
as_many [] (x ∷ xs) ys agree = absurd agree
as_many (before ∷ earlier) [] ys agree = absurd agree
as_many (before ∷ earlier) (x ∷ xs) [] agree = absurd agree

block_same : (core : Core) (opening : Option Saved) (own block : Block) (earlier : List Bytes) (settled : Bytes) (m k : ℕ → ℕ)
    → BlocksAgree earlier own block → SameOn settled m k → OpeningCounts core opening own earlier settled
    → BlockMatches core opening own m → BlockMatches core opening block k
block_same core None None None earlier settled m k agree same counts h = tt
block_same core None None (Some ys) earlier settled m k agree same counts h = absurd agree
block_same core None (Some xs) block earlier settled m k agree same counts h = absurd h
block_same core (Some opening) None block earlier settled m k agree same counts h = absurd h
block_same core (Some opening) (Some xs) None earlier settled m k agree same counts h = absurd agree
block_same core (Some opening) (Some xs) (Some ys) earlier settled m k agree same counts h = record {
  count = as_many earlier xs ys agree ∙ h.count;
  words = state_same core opening (put_back xs m) (put_back ys k)
      (on_fewer (said core opening) (settled_put_back xs earlier settled) (put_back xs m) (put_back ys k) counts
      (put_back_same earlier xs ys settled m k agree same)) h.words;
}

-- what goes along with the machine matches the state that the machine matches
pub match_along : (core : Core) (s : State) (t : Ideal) → MatchesAlong core s t
match_along core s t regs k segment block marks agrees h = record {
  words = state_same core (kept s) t.core.memory k
      (on_fewer (said core (kept s)) t.settled t.core.memory k h.settled agrees.memory) h.matches.words;
  block = block_same core s.block t.block block t.earlier t.settled t.core.memory k agrees.block_is agrees.memory
      h.opening h.matches.block;
}
