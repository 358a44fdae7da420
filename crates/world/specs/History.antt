-- What a history says: its attempts, the commits that it passed, the readings that were committed by then, and the values
-- that were shown by then. It is one fold over the records, so one record more is one step.
use Rattle.std.specs.Prelude.{◌≡◌, ℕ, ◌==◌, Bool, true, false, List, [], ◌∷◌, ◌++◌, Option, Some, None, length, fold, slice_index_or, if◌then◌else◌, refl}
use Rattle.base16.specs.declared.reading.Reading.{Reading}
use Rattle.base16.specs.declared.end.EndKind.TheVariants.{Done}
use Rattle.base16.specs.declared.reading.Reading.TheVariants as reading
use Rattle.world.specs.declared.history.Record.{Record}
use Rattle.world.specs.declared.history.Record.TheVariants.{On, Read, Commit, Off, End}
use Rattle.world.specs.declared.history.Shown.{Shown}
use Rattle.world.specs.declared.history.Shown.TheVariants.{Value, Stamp, Outs, Out}

-- ---- what is shown
-- The word and the stamp of each scalar by its number, how many outputs there are, and each of these by its place.
pub record Display : Type 0 where
  pub values : ℕ → ℕ
  pub stamps : ℕ → Option ℕ
  pub outputs : ℕ
  pub outs : ℕ → ℕ

-- one change more
abbrev pub changed : Display → Shown → Display
changed d (Value scalar word) = record d { values = λ s. if s == scalar then word else d.values s }
changed d (Stamp scalar ms) = record d { stamps = λ s. if s == scalar then ms else d.stamps s }
changed d (Outs length) = record d { outputs = length }
changed d (Out index word) = record d { outs = λ i. if i == index then word else d.outs i }

-- ---- commits and attempts
-- The state that a commit leaves, or in which a history begins.
pub record Point : Type 0 where
  -- the number of the commit, and the marks and the instructions up to it
  pub number : ℕ
  pub marks : ℕ
  pub instrs : ℕ
  -- the readings that are committed by then
  pub readings : List Reading
  -- what is shown then
  pub display : Display

-- An attempt is the part of a history from the beginning of a power cycle or a commit to the next such record, a power
-- failure or the end.
pub record Attempt : Type 0 where
  -- the number of its power cycle
  pub cycle : ℕ
  -- whether it began with a boot, and not behind a commit of the same power cycle
  pub booted : Bool
  -- the commit that it goes on from, with the readings before its own
  pub from : Point
  -- its own readings
  pub readings : List Reading
  -- the record that ended it, if it does not go on
  pub ended_by : Option Record

-- the readings from the beginning to the end of an attempt, where each attempt before it counts that ended in a commit
abbrev pub readings_until : Attempt → List Reading
readings_until a = a.from.readings ++ a.readings

abbrev pub ends_in_commit : Option Record → Bool
ends_in_commit None = false
ends_in_commit (Some (On cycle)) = false
ends_in_commit (Some (Read r)) = false
ends_in_commit (Some (Commit number marks instrs pc sp words log sets)) = true
ends_in_commit (Some Off) = false
ends_in_commit (Some (End kind)) = false

abbrev pub is_committed : Attempt → Bool
is_committed a = ends_in_commit a.ended_by

-- ---- the story of a history
pub record Story : Type 0 where
  -- the number of the power cycle that began last
  pub cycle : ℕ
  -- the last commit, and the beginning and the commits before it
  pub last : Point
  pub earlier : List Point
  -- the attempts that have ended, and the one that goes on
  pub ended : List Attempt
  pub going : Option Attempt

-- no record yet
abbrev pub beginning : Point → Story
beginning first = record { cycle = 0; last = first; earlier = []; ended = []; going = None }

-- an attempt that begins
abbrev pub begun : ℕ → Bool → Point → Attempt
begun cycle booted from = record { cycle = cycle; booted = booted; from = from; readings = []; ended_by = None }

-- an attempt that this record ends, if one goes on
abbrev pub ended_with : Record → Option Attempt → List Attempt
ended_with r None = []
ended_with r (Some a) = record a { ended_by = Some r } ∷ []

-- an attempt with one reading more, if one goes on
abbrev pub with_taken : Reading → Option Attempt → Option Attempt
with_taken r None = None
with_taken r (Some a) = Some (record a { readings = a.readings ++ r ∷ [] })

-- the readings of an attempt, if one goes on
abbrev pub taken_in : Option Attempt → List Reading
taken_in None = []
taken_in (Some a) = a.readings

-- the attempt that goes on ends with this record, and another one may begin
abbrev pub turned : Record → Option Attempt → Story → Story
turned r next s = record s { ended = s.ended ++ ended_with r s.going; going = next }

-- a commit that leaves this state
abbrev pub passed : Record → Point → Story → Story
passed r point s =
    let t = turned r (Some (begun s.cycle false point)) s in
    record t { last = point; earlier = s.earlier ++ s.last ∷ [] }

-- the state that a commit leaves, with these printed numbers and changes
abbrev pub point_with : ℕ → ℕ → ℕ → List Shown → Story → Point
point_with number marks instrs sets s = record {
  number = number;
  marks = marks;
  instrs = instrs;
  readings = s.last.readings ++ taken_in s.going;
  display = fold changed s.last.display sets;
}

-- one record more
abbrev pub after : Story → Record → Story
after s (On cycle) = let t = turned (On cycle) (Some (begun cycle true s.last)) s in record t { cycle = cycle }
after s (Read r) = record s { going = with_taken r s.going }
after s (Commit number marks instrs pc sp words log sets) =
    passed (Commit number marks instrs pc sp words log sets) (point_with number marks instrs sets s) s
after s Off = turned Off None s
after s (End kind) = turned (End kind) None s

-- the story of these records, from this beginning on
abbrev pub story : Point → List Record → Story
story first records = fold after (beginning first) records

-- how many commits there were
abbrev pub commits : Story → ℕ
commits s = length s.earlier

-- the state after the first j commits, or after all of them where there are fewer
abbrev pub point : Story → ℕ → Point
point s j = slice_index_or (s.earlier ++ s.last ∷ []) j s.last

-- the readings of the attempts that ended in the first j commits
abbrev pub committed : Point → List Record → ℕ → List Reading
committed first records j = (point (story first records) j).readings

-- what is shown after the first j commits
abbrev pub shown : Point → List Record → ℕ → Display
shown first records j = (point (story first records) j).display

-- ---- worked examples
-- a loaded image: no commit, no mark, no instruction and no reading yet
abbrev pub loaded : Display → Point
loaded display = record { number = 0; marks = 0; instrs = 0; readings = []; display = display }

-- power fails after a reading, which is taken again; a commit, and a reading behind it
abbrev taken_again : ℕ → ℕ → Reading → List Shown → List Record
taken_again a b k sets =
    On 1 ∷ Read (reading.Sense 0 a) ∷ Off ∷ On 2 ∷ Read (reading.Sense 0 b) ∷ Commit 1 1 9 32772 8448 155 0 sets ∷ Read k ∷ []

-- A reading that is lost by a power failure is not committed, and is taken again.
lost_and_taken_again : (d : Display) (k : Reading) (a b : ℕ) (sets : List Shown) →
    committed (loaded d) (taken_again a b k sets) 1 ≡ reading.Sense 0 b ∷ []
lost_and_taken_again d k a b sets = refl

-- The attempt that was cut off began with a boot, and so did the one that was committed.
two_ended : (d : Display) (k : Reading) (a b : ℕ) (sets : List Shown) → (story (loaded d) (taken_again a b k sets)).ended ≡
    record (begun 1 true (loaded d)) { readings = reading.Sense 0 a ∷ []; ended_by = Some Off }
    ∷ record (begun 2 true (loaded d)) {
      readings = reading.Sense 0 b ∷ [];
      ended_by =
          Some (Commit 1 1 9 32772 8448 155 0 sets);
    } ∷ []
two_ended d k a b sets = refl

-- The attempt behind the commit has the committed reading before its own, and no boot.
goes_on_behind : (d : Display) (k : Reading) (a b : ℕ) (sets : List Shown) → (story (loaded d) (taken_again a b k sets)).going ≡
    Some (record {
      cycle = 2;
      booted = false;
      from = record { number = 1; marks = 1; instrs = 9; readings = reading.Sense 0 b ∷ []; display = fold changed d sets };
      readings = k ∷ [];
      ended_by = None;
    })
goes_on_behind d k a b sets = refl

-- a history with two commits: the second shows another word of scalar 0, one output, and no stamp
abbrev two_commits : List Record
two_commits =
    On 1 ∷ Commit 1 3 9 32772 8448 155 0 (Value 0 5 ∷ Stamp 0 (Some 7) ∷ []) ∷ Off
    ∷ On 2 ∷ Commit 2 5 12 32772 8448 155 0 (Value 0 6 ∷ Outs 1 ∷ Out 0 40 ∷ []) ∷ End Done ∷ []

-- After the first commit its word is shown.
first_word_shown : (d : Display) → (shown (loaded d) two_commits 1).values 0 ≡ 5
first_word_shown d = refl

-- After the second its word is shown, the stamp is that of the first, and a scalar that no commit names is as before.
later_word_shown : (d : Display) →
    ((shown (loaded d) two_commits 2).values 0 ≡ 6) × ((shown (loaded d) two_commits 2).stamps 0 ≡ Some 7)
    × ((shown (loaded d) two_commits 2).values 3 ≡ d.values 3)
later_word_shown d = (refl, refl, refl)

-- One output is shown then, and none before.
output_shown : (d : Display) → d.outputs ≡ 0 →
    ((shown (loaded d) two_commits 2).outputs ≡ 1) × ((shown (loaded d) two_commits 2).outs 0 ≡ 40)
    × ((shown (loaded d) two_commits 1).outputs ≡ 0)
output_shown d none = (refl, refl, none)
