-- A history by one record more.
use Rattle.std.proofs.Common.{◌≡◌, ℕ, ◌+◌, ◌<◌, true, false, nat_eq, if◌then◌else◌, refl, sym, ap, ◌∙◌, subst, arith, List, [], ◌∷◌, ◌++◌, length, append_assoc, length-append}
use Rattle.std.proofs.lemmas.Bool.Decides.{nat_tests}
use Rattle.std.proofs.lemmas.List.Sums.{fold-append}
use Rattle.std.proofs.lemmas.List.{drop-append-le}
use Rattle.std.specs.Prelude.{fold}
use Rattle.base16.specs.declared.end.EndKind.{EndKind}
use Rattle.base16.specs.declared.reading.Reading.{Reading}
use Rattle.world.specs.History.{Story, beginning, after, story}
use Rattle.world.specs.declared.history.Record.{Record}
use Rattle.world.specs.declared.history.Record.TheVariants.{On, Read, Commit, Off, End}
use Rattle.player.specs.Form.{Phase, Between, Within, Over, Broken, is_power, phase_after, phase_of, is_on, cycles_in, read_in, reads_of}
use Rattle.player.specs.Playing.{Origin, first_point, first_cursor, added_in, story_in, IsRight, AreRight}
use Rattle.player.specs.Ticks.{Cursor}
use Rattle.player.specs.Turning.{IsInCycle}

-- the playing only added records
abbrev pub Adds : Origin → List Record → Type 0
Adds o records = records ≡ o.records ++ added_in o records

pub added-append : (o : Origin) (xs ys : List Record) → Adds o xs → added_in o (xs ++ ys) ≡ added_in o xs ++ ys
added-append o xs ys h =
    let n : length xs ≡ length o.records + length (added_in o xs) = ap length h ∙ length-append o.records (added_in o xs) in
    drop-append-le (length o.records) xs ys (omega arith)

pub added-more : (o : Origin) (xs : List Record) (x : Record) → Adds o xs → added_in o (xs ++ x ∷ []) ≡ added_in o xs ++ x ∷ []
added-more o xs x h = added-append o xs (x ∷ []) h

pub adds-more : (o : Origin) (xs : List Record) (x : Record) → Adds o xs → Adds o (xs ++ x ∷ [])
adds-more o xs x h =
    ap (λ r. r ++ x ∷ []) h ∙ append_assoc o.records (added_in o xs) (x ∷ [])
    ∙ ap (λ r. o.records ++ r) (sym (added-more o xs x h))

pub story-append : (o : Origin) (xs ys : List Record) → Adds o xs → story_in o (xs ++ ys) ≡ fold after (story_in o xs) ys
story-append o xs ys h =
    ap (story (first_point o)) (added-append o xs ys h) ∙ fold-append after (beginning (first_point o)) (added_in o xs) ys

pub story-more : (o : Origin) (xs : List Record) (x : Record) → Adds o xs → story_in o (xs ++ x ∷ []) ≡ after (story_in o xs) x
story-more o xs x h = story-append o xs (x ∷ []) h

pub phase-more : (o : Origin) (k : ℕ) (xs : List Record) (x : Record) → Adds o xs
    → phase_of k (added_in o (xs ++ x ∷ [])) ≡ phase_after (phase_of k (added_in o xs)) x
phase-more o k xs x h = ap (phase_of k) (added-more o xs x h) ∙ fold-append phase_after (Between k) (added_in o xs) (x ∷ [])

pub reads-more : (o : Origin) (xs : List Record) (x : Record) → Adds o xs
    → reads_of (added_in o (xs ++ x ∷ [])) ≡ reads_of (added_in o xs) ++ read_in x
reads-more o xs x h =
    ap reads_of (added-more o xs x h)
    ∙ fold-append (λ (rs : List Reading) (r : Record). rs ++ read_in r) [] (added_in o xs) (x ∷ [])

right-append : (o : Origin) (s : Story) (b c d : Cursor) (xs ys : List Record) → AreRight o s b xs c
    → AreRight o (fold after s xs) c ys d → AreRight o s b (xs ++ ys) d
right-append o s b c d [] ys h k = subst (λ x. AreRight o s x ys d) h k
right-append o s b c d (x ∷ xs) ys h k = (h.0, h.1, right-append o (after s x) h.0 c d xs ys h.2 k)

pub right-more : (o : Origin) (c d : Cursor) (xs : List Record) (x : Record) → Adds o xs
    → AreRight o (beginning (first_point o)) (first_cursor o) (added_in o xs) c → IsRight o (story_in o xs) c x d
    → AreRight o (beginning (first_point o)) (first_cursor o) (added_in o (xs ++ x ∷ [])) d
right-more o c d xs x h k r =
    subst (λ y. AreRight o (beginning (first_point o)) (first_cursor o) y d) (sym (added-more o xs x h))
    (right-append o (beginning (first_point o)) (first_cursor o) c d (added_in o xs) (x ∷ []) k (d, r, refl))

pub cycles-more : (xs : List Record) (x : Record)
    → cycles_in (xs ++ x ∷ []) ≡ (if is_on x then cycles_in xs + 1 else cycles_in xs)
cycles-more xs x = fold-append (λ (n : ℕ) (r : Record). if is_on r then n + 1 else n) 0 xs (x ∷ [])

-- ---- a record that is no commit

abbrev pub IsQuiet : Record → Type 0
IsQuiet (On cycle) = Unit {0}
IsQuiet (Read r) = Unit {0}
IsQuiet (Commit number marks instrs pc sp words log sets) = ⊥
IsQuiet Off = Unit {0}
IsQuiet (End kind) = Unit {0}

pub quiet-last : (s : Story) (x : Record) → IsQuiet x → (after s x).last ≡ s.last
quiet-last s (On cycle) h = refl
quiet-last s (Read r) h = refl
quiet-last s (Commit number marks instrs pc sp words log sets) h = absurd h
quiet-last s Off h = refl
quiet-last s (End kind) h = refl

pub quiet-earlier : (s : Story) (x : Record) → IsQuiet x → (after s x).earlier ≡ s.earlier
quiet-earlier s (On cycle) h = refl
quiet-earlier s (Read r) h = refl
quiet-earlier s (Commit number marks instrs pc sp words log sets) h = absurd h
quiet-earlier s Off h = refl
quiet-earlier s (End kind) h = refl

-- ---- the form

equal-self : (k : ℕ) → nat_eq k k ≡ true
equal-self k = grind (arith, nat_tests)

pub on-phase : (p : Phase) (k : ℕ) → p ≡ Between k → phase_after p (On (k + 1)) ≡ Within (k + 1)
on-phase p k h = ap (λ q. phase_after q (On (k + 1))) h ∙ ap (λ b. if b then Within (k + 1) else Broken) (equal-self (k + 1))

pub off-phase : (p : Phase) (k : ℕ) → p ≡ Within k → phase_after p Off ≡ Between k
off-phase p k h = ap (λ q. phase_after q Off) h

pub read-phase : (p : Phase) (k : ℕ) (r : Reading) → p ≡ Within k → phase_after p (Read r) ≡ Within k
read-phase p k r h = ap (λ q. phase_after q (Read r)) h

pub end-phase : (p : Phase) (k : ℕ) (kind : EndKind) → p ≡ Within k → is_power kind ≡ false → phase_after p (End kind) ≡ Over kind
end-phase p k kind h f = ap (λ q. phase_after q (End kind)) h ∙ ap (λ b. if b then Broken else Over kind) f

-- a record within a power cycle
pub in_cycle-more : (o : Origin) (xs : List Record) (x : Record) (p : Phase) → is_on x ≡ false
    → ((k : ℕ) → phase_after (Within k) x ≡ Within k) → IsInCycle o xs p → IsInCycle o (xs ++ x ∷ []) (phase_after p x)
in_cycle-more o xs x p plain stays h =
    let n : cycles_in (xs ++ x ∷ []) ≡ cycles_in xs = cycles-more xs x
    ∙ ap (λ b. if b then cycles_in xs + 1 else cycles_in xs) plain in
    (ap (λ q. phase_after q x) h.0 ∙ stays (cycles_in xs) ∙ ap Within (sym n), subst (λ k. cycles_in o.records < k) (sym n) h.1)
