-- One record more of a history: what it adds to the story, and what it leaves.
use Rattle.std.proofs.Common.{◌≡◌, ℕ, ◌+◌, ◌<◌, ◌≤◌, false, cond, List, [], ◌∷◌, ◌++◌, Option, Some, None, length, fold, filter, get_or, refl, sym, ◌∙◌, ap, arith, append_assoc, length-append}
use Rattle.std.specs.List.{flat_map}
use Rattle.std.proofs.lemmas.List.{append-nil, get_or_append_left, get_or_at, get_or_default}
use Rattle.std.proofs.lemmas.List.Concat.{flat_map-append}
use Rattle.std.proofs.lemmas.List.Elements.{filter-append}
use Rattle.std.proofs.lemmas.List.Sums.{fold_push}
use Rattle.base16.specs.declared.reading.Reading.{Reading}
use Rattle.world.specs.declared.history.Record.{Record}
use Rattle.world.specs.declared.history.Record.TheVariants.{On, Read, Commit, Off, End}
use Rattle.world.specs.declared.history.Shown.{Shown}
use Rattle.world.specs.History.{Point, Attempt, Story, beginning, ended_with, with_taken, taken_in, is_committed, point_with, after, story, commits, point}

-- one record more is one step
pub story_push : (first : Point) (records : List Record) (r : Record)
    → story first (records ++ r ∷ []) ≡ after (story first records) r
story_push first records r = fold_push after (beginning first) records r

-- ---- commits
-- what is after all commits
pub point_last : (s : Story) → point s (commits s) ≡ s.last
point_last s = get_or_at s.earlier s.last [] s.last (length s.earlier) refl

-- the commits so far stay
front_same : (s : Story) (x y : Point) (j : ℕ) → j < commits s
    → get_or (s.earlier ++ x ∷ []) j x ≡ get_or (s.earlier ++ y ∷ []) j y
front_same s x y j h =
    get_or_append_left s.earlier (x ∷ []) x j h ∙ get_or_default s.earlier j x y h
    ∙ sym (get_or_append_left s.earlier (y ∷ []) y j h)

-- a commit more stands behind them
behind_same : (s : Story) (x : Point) (j : ℕ) → j ≤ commits s
    → get_or ((s.earlier ++ s.last ∷ []) ++ x ∷ []) j x ≡ get_or (s.earlier ++ s.last ∷ []) j s.last
behind_same s x j h =
    let within : j < length (s.earlier ++ s.last ∷ []) = omega (arith, h, length-append s.earlier (s.last ∷ [])) in
    get_or_append_left (s.earlier ++ s.last ∷ []) (x ∷ []) x j within
    ∙ get_or_default (s.earlier ++ s.last ∷ []) j x s.last within

-- the states after the commits so far are as they were
pub point_stays : (s : Story) (r : Record) (j : ℕ) → j ≤ commits s → point (after s r) j ≡ point s j
point_stays s (On cycle) j h = refl
point_stays s (Read r) j h = refl
point_stays s (Commit number marks instrs pc sp words log sets) j h = behind_same s (point_with number marks instrs sets s) j h
point_stays s Off j h = refl
point_stays s (End kind) j h = refl

-- a commit is one more
pub commits_after : (s : Story) (number marks instrs pc sp words log : ℕ) (sets : List Shown)
    → commits (after s (Commit number marks instrs pc sp words log sets)) ≡ commits s + 1
commits_after s number marks instrs pc sp words log sets = omega (arith, length-append s.earlier (s.last ∷ []))

-- ---- attempts
-- the attempt that goes on is of the power cycle that began last, and goes on from the last commit
pub record GoesOn (s : Story) (a : Attempt) : Type 0 where
  pub cycle : a.cycle ≡ s.cycle
  pub from : a.from ≡ s.last
  pub open_ended : a.ended_by ≡ None

abbrev pub AreGoing : Story → Option Attempt → Type 0
AreGoing s None = Unit {0}
AreGoing s (Some a) = GoesOn s a

taken_goes : (s t : Story) (r : Reading) (going : Option Attempt) → t.cycle ≡ s.cycle → t.last ≡ s.last → AreGoing s going
    → AreGoing t (with_taken r going)
taken_goes s t r None c l h = tt
taken_goes s t r (Some a) c l h = record { cycle = h.cycle ∙ sym c; from = h.from ∙ sym l; open_ended = h.open_ended }

goes_after : (s : Story) (r : Record) → AreGoing s s.going → AreGoing (after s r) (after s r).going
goes_after s (On cycle) h = record { cycle = refl; from = refl; open_ended = refl }
goes_after s (Read r) h = taken_goes s (after s (Read r)) r s.going refl refl h
goes_after s (Commit number marks instrs pc sp words log sets) h = record { cycle = refl; from = refl; open_ended = refl }
goes_after s Off h = tt
goes_after s (End kind) h = tt

goes_from : (s : Story) (records : List Record) → AreGoing s s.going
    → AreGoing (fold after s records) (fold after s records).going
goes_from s [] h = h
goes_from s (r ∷ rest) h = goes_from (after s r) rest (goes_after s r h)

pub story_goes : (first : Point) (records : List Record) → AreGoing (story first records) (story first records).going
story_goes first records = goes_from (beginning first) records tt

-- ---- the readings that are committed are those of the attempts that ended in a commit, joined
abbrev pub joined : List Attempt → List Reading
joined attempts = flat_map (λ a. a.readings) (filter is_committed attempts)

joined_more : (xs ys : List Attempt) → joined (xs ++ ys) ≡ joined xs ++ joined ys
joined_more xs ys = ap (flat_map (λ (a : Attempt). a.readings)) (filter-append is_committed xs ys)
    ∙ flat_map-append (λ (a : Attempt). a.readings) (filter is_committed xs) (filter is_committed ys)

-- an attempt that ends in another record adds none
abbrev IsOther : Record → Type 0
IsOther r = (a : Attempt) → is_committed (record a { ended_by = Some r }) ≡ false

none_joined : (r : Record) (going : Option Attempt) → IsOther r → joined (ended_with r going) ≡ []
none_joined r None h = refl
none_joined r (Some a) h = ap (λ b. flat_map (λ (x : Attempt). x.readings) (cond b (record a { ended_by = Some r } ∷ []) []))
    (h a)

other_joined : (first : Point) (s : Story) (r : Record) → IsOther r → s.last.readings ≡ first.readings ++ joined s.ended
    → s.last.readings ≡ first.readings ++ joined (s.ended ++ ended_with r s.going)
other_joined first s r o h = h ∙ ap (λ l. first.readings ++ l) (sym (append-nil (joined s.ended))
    ∙ ap (λ l. joined s.ended ++ l) (sym (none_joined r s.going o)) ∙ sym (joined_more s.ended (ended_with r s.going)))

commit_joined : (number marks instrs pc sp words log : ℕ) (sets : List Shown) (going : Option Attempt)
    → joined (ended_with (Commit number marks instrs pc sp words log sets) going) ≡ taken_in going
commit_joined number marks instrs pc sp words log sets None = refl
commit_joined number marks instrs pc sp words log sets (Some a) = append-nil a.readings

abbrev IsJoined : Point → Story → Type 0
IsJoined first s = s.last.readings ≡ first.readings ++ joined s.ended

joined_after : (first : Point) (s : Story) (r : Record) → IsJoined first s → IsJoined first (after s r)
joined_after first s (On cycle) h = other_joined first s (On cycle) (λ a. refl) h
joined_after first s (Read r) h = h
joined_after first s (Commit number marks instrs pc sp words log sets) h =
    let more = joined_more s.ended (ended_with (Commit number marks instrs pc sp words log sets) s.going) in
    ap (λ l. l ++ taken_in s.going) h ∙ append_assoc first.readings (joined s.ended) (taken_in s.going)
    ∙ ap (λ l. first.readings ++ l) (ap (λ l. joined s.ended ++ l)
    (sym (commit_joined number marks instrs pc sp words log sets s.going)) ∙ sym more)
joined_after first s Off h = other_joined first s Off (λ a. refl) h
joined_after first s (End kind) h = other_joined first s (End kind) (λ a. refl) h

joined_from : (first : Point) (s : Story) (records : List Record) → IsJoined first s → IsJoined first (fold after s records)
joined_from first s [] h = h
joined_from first s (r ∷ rest) h = joined_from first (after s r) rest (joined_after first s r h)

pub committed_is_joined : (first : Point) (records : List Record)
    → (story first records).last.readings ≡ first.readings ++ joined (story first records).ended
committed_is_joined first records = joined_from first (beginning first) records (sym (append-nil first.readings))
