-- The form of a history: power cycles in order, their readings, and how it ends.
use Rattle.std.specs.Prelude.{◌≡◌, ℕ, ◌+◌, Bool, true, false, nat_eq, if◌then◌else◌, List, [], ◌∷◌, ◌++◌, fold}
use Rattle.base16.specs.declared.end.EndKind.{EndKind}
use Rattle.base16.specs.declared.end.EndKind.TheVariants.{Power}
use Rattle.base16.specs.declared.reading.Reading.{Reading}
use Rattle.world.specs.declared.history.Record.{Record}
use Rattle.world.specs.declared.history.Record.TheVariants.{On, Read, Commit, Off, End}

-- Between two power cycles, or in one, of which so many have begun; over; or a record came where it may not.
pub data Phase : Type 0 where
  Between : (cycles : ℕ) → Phase
  Within : (cycles : ℕ) → Phase
  Over : (kind : EndKind) → Phase
  Broken : Phase

abbrev pub is_power : EndKind → Bool
is_power Power = true
is_power kind = false

-- one record more: cycles are numbered on, and an end stands where no cycle is left, or in place of a cycle's last record
abbrev pub phase_after : Phase → Record → Phase
phase_after (Between k) (On cycle) = if nat_eq cycle (k + 1) then Within (k + 1) else Broken
phase_after (Between k) (Read r) = Broken
phase_after (Between k) (Commit number marks instrs pc sp words log sets) = Broken
phase_after (Between k) Off = Broken
phase_after (Between k) (End kind) = if is_power kind then Over kind else Broken
phase_after (Within k) (On cycle) = Broken
phase_after (Within k) (Read r) = Within k
phase_after (Within k) (Commit number marks instrs pc sp words log sets) = Within k
phase_after (Within k) Off = Between k
phase_after (Within k) (End kind) = if is_power kind then Broken else Over kind
phase_after (Over kind) r = Broken
phase_after Broken r = Broken

-- Behind so many power cycles: those that follow in order, each `On`, its readings and commits, and `Off`; one `End` last, in
-- place of the last cycle's `Off` unless no cycle was left.
abbrev pub phase_of : (cycles : ℕ) → List Record → Phase
phase_of cycles records = fold phase_after (Between cycles) records

-- no record stands where it may not
abbrev pub IsWhole : Phase → Type 0
IsWhole (Between k) = Unit {0}
IsWhole (Within k) = Unit {0}
IsWhole (Over kind) = Unit {0}
IsWhole Broken = ⊥

-- no power cycle goes on: power failed, or was wanting
abbrev pub IsAtRest : Phase → Type 0
IsAtRest (Between k) = Unit {0}
IsAtRest (Within k) = ⊥
IsAtRest (Over kind) = is_power kind ≡ true
IsAtRest Broken = ⊥

-- it ended in this way
abbrev pub IsOver : EndKind → Phase → Type 0
IsOver kind phase = phase ≡ Over kind

-- ---- power cycles and readings

abbrev pub is_on : Record → Bool
is_on (On cycle) = true
is_on (Read r) = false
is_on (Commit number marks instrs pc sp words log sets) = false
is_on Off = false
is_on (End kind) = false

-- how many power cycles began
abbrev pub cycles_in : List Record → ℕ
cycles_in records = fold (λ n r. if is_on r then n + 1 else n) 0 records

abbrev pub read_in : Record → List Reading
read_in (On cycle) = []
read_in (Read r) = r ∷ []
read_in (Commit number marks instrs pc sp words log sets) = []
read_in Off = []
read_in (End kind) = []

-- the readings of a history, in order
abbrev pub reads_of : List Record → List Reading
reads_of records = fold (λ rs r. rs ++ read_in r) [] records
