-- What a call of the program comes to.
use Rattle.std.specs.Prelude.{◌≡◌, ◌≢◌, ℕ, ◌⊎◌, List, [], ◌∷◌, ◌++◌, Option, Some, None, MatchOption, Result, Ok, Err, codes}
use Rattle.edge.specs.Counts.{HasRisen}
use Rattle.edge.specs.Told.{Drive, Appends, AppendsFront}
use Rattle.edge.specs.declared.sink.SinkErr.{SinkErr}
use Rattle.edge.specs.declared.sink.SinkErr.TheVariants.{Failed, NoMemory as SinkNoMemory}
use Rattle.base16.specs.declared.reading.Reading.{Reading}
use Rattle.world.specs.declared.history.Record.{Record}
use Rattle.core_tree.specs.declared.program.Typed.{Typed}
use Rattle.c_soundness.specs.Rules.{MeetsOnlyTheRules}
use Rattle.tics_call.specs.declared.outcome.Outcome.{Outcome}
use Rattle.tics_call.specs.declared.outcome.Outcome.TheVariants.{Done, Told, Refused, Usage, ReadingsRefused, ReadFault, WriteFault, NoMemory, Unsupported}
use Rattle.tics_front.specs.declared.fault.SourceFault.{SourceFault}
use Rattle.tics_call.specs.declared.source.Program.{Program}
use Rattle.tics_call.specs.Form.{IsProgram, IsOfForm, IsOther}
use Rattle.report.specs.Report.{report}
use Rattle.tics_call.specs.Run.{history_of, symbols_of}
use Rattle.tics_front.specs.Held.{HoldsAt}
use Rattle.tics_front.specs.Source.{refusal_text}
use Rattle.tics_meaning.specs.declared.fault.ReadingsFault.{ReadingsFault}
use Rattle.tics_meaning.specs.Meant.{Refuses, IsAsked, RefusesReadings, HasNoMeaning, NamesMeaningRead, readings_text, meaning_marks, meaning_text}
use Rattle.tics_call.specs.Command.{Order, IsRunOf, IsMeaningOf, IsEitherOf}

-- ---- the texts
abbrev pub usage_text : List ℕ
usage_text = codes "usage" ++ 10 ∷ []

abbrev pub fault_text : List ℕ
fault_text = codes "fault read" ++ 10 ∷ []

abbrev pub unsupported_text : List ℕ
unsupported_text = codes "unsupported" ++ 10 ∷ []

-- the one trace that is accepted
abbrev pub plain_trace : List ℕ
plain_trace = codes "tics-trace 1" ++ 10 ∷ (codes "rate 4000000" ++ 10 ∷
    (codes "period 4000000" ++ 10 ∷ (codes "cycle 100000 0" ++ 10 ∷ [])))

abbrev pub report_of : Program → List ℕ
report_of program = report (symbols_of program).scalars (history_of program)

-- ---- the files of a run: the names are those of the source and of the trace
-- The source is this program, and the trace is the plain one.
pub record Accepts (files : Option Drive) (names : List ℕ × List ℕ) (program : Program) : Type 0 where
  pub program_is : IsProgram program
  pub source : HoldsAt files names.0 (λ text. IsOfForm text program)
  pub trace : HoldsAt files names.1 (λ text. text ≡ plain_trace)

-- The source has annotations or is a program that is not run so far, or it is a program and the trace is not the plain one.
abbrev pub IsUnsupported : Option Drive → List ℕ × List ℕ → Type 0
IsUnsupported files names =
    HoldsAt files names.0 IsOther
    ⊎ ((program : Program) × HoldsAt files names.0 (λ text. IsOfForm text program) × HoldsAt files names.1
    (λ text. text ≢ plain_trace))

-- The read that failed is that of the source, or that of the trace of a source that is a program.
abbrev pub NamesRead : Option Drive → List ℕ × List ℕ → Option (List ℕ) → Type 0
NamesRead files names last =
    (last ≡ Some names.0)
    ⊎ ((last ≡ Some names.1) × (program : Program) × IsProgram program × HoldsAt files names.0
    (λ text. IsOfForm text program))

-- ---- either command
-- The source is refused for this reason.
abbrev pub RefusesSource : Option Drive → Option Order → SourceFault → Type 0
RefusesSource files command reason = IsEitherOf command (λ c. Refuses files c reason) (λ c. Refuses files c reason)

-- The readings of a meaning are refused for this reason.
abbrev pub RefusesItsReadings : Option Drive → Option Order → ReadingsFault → Type 0
RefusesItsReadings files command reason = IsMeaningOf command (λ c. RefusesReadings files c reason)

-- The read that failed is one that the command makes.
abbrev pub NamesItsRead : Option Drive → Option Order → Option (List ℕ) → Type 0
NamesItsRead files command last = IsEitherOf command (λ c. NamesRead files c last) (λ c. NamesMeaningRead files c last)

-- What the command asks for is not built yet.
abbrev pub IsNotBuilt : Option Drive → Option Order → Type 0
IsNotBuilt files command = IsEitherOf command (λ c. IsUnsupported files c) (λ c. HasNoMeaning files c)

-- ---- a call
-- What is seen of a call: the files and the command line before it, the counts of faults and the bytes put before and
-- after it, the name of the last read that failed, and the records of the book.
pub record Seen : Type 0 where
  pub files : Option Drive
  pub command : Option Order
  pub faults : ℕ
  pub faults_after : ℕ
  pub last : Option (List ℕ)
  pub bytes : Option (List ℕ)
  pub bytes_after : Option (List ℕ)
  pub put_faults : ℕ
  pub put_faults_after : ℕ
  pub records : List Record
  pub records_after : List Record

-- a call as it is seen by what files and sinks tell of themselves
abbrev pub seen_by : {F K : Type 0} → (F → Option Drive) → (F → ℕ) → (F → Option (List ℕ)) → (K → Option (List ℕ)) → (K → ℕ)
    → Option Order → F → F → K → K → List Record → List Record → Seen
seen_by contents faults last bytes put_faults command files files_after out out_after records records_after = record {
  files = contents files;
  command = command;
  faults = faults files;
  faults_after = faults files_after;
  last = last files_after;
  bytes = bytes out;
  bytes_after = bytes out_after;
  put_faults = put_faults out;
  put_faults_after = put_faults out_after;
  records = records;
  records_after = records_after;
}

-- an accepted program was run
pub record HasRun (files : Option Drive) (command : Option Order) (records : List Record)
    (program : Program) : Type 0 where
  pub accepted : IsRunOf command (λ c. Accepts files c program)
  pub history : records ≡ history_of program

-- a meaning was asked for, of a program and readings
abbrev pub AsksMeaning : Option Drive → Option Order → Typed → List Reading → Type 0
AsksMeaning files command typed readings = IsMeaningOf command (λ c. IsAsked files c typed readings)

-- Where files are told, the run of a program whose meaning is asked for is undefined only where one of the rules from 1 to 12 is
-- broken, at one of its nodes.
abbrev pub MeaningsAreByTheRules : Option Drive → Option Order → Type 0
MeaningsAreByTheRules files command = (typed : Typed) → (readings : List Reading) → AsksMeaning files command typed readings
    → MatchOption files (Unit {0}) (λ drive. MeetsOnlyTheRules typed.core readings meaning_marks)

-- the texts that a call may have begun to print, each with its cause
pub data IsText (files : Option Drive) (command : Option Order) (faults faults_after : ℕ)
    (records : List Record) : List ℕ → Type 0 where
  refused : (reason : SourceFault) → RefusesSource files command reason
      → IsText files command faults faults_after records (refusal_text reason)
  usage : command ≡ None → IsText files command faults faults_after records usage_text
  fault : HasRisen faults faults_after → IsText files command faults faults_after records fault_text
  readings : (reason : ReadingsFault) → RefusesItsReadings files command reason
      → IsText files command faults faults_after records (readings_text reason)
  unsupported : IsNotBuilt files command → IsText files command faults faults_after records unsupported_text
  printed : (program : Program) → HasRun files command records program
      → IsText files command faults faults_after records (report_of program)
  told : (typed : Typed) (readings : List Reading) → AsksMeaning files command typed readings
      → IsText files command faults faults_after records (meaning_text typed readings)

-- a front of a text that has one of these causes
pub record IsFrontOfText (files : Option Drive) (command : Option Order) (faults faults_after : ℕ)
    (records : List Record) (bytes bytes_after : Option (List ℕ)) : Type 0 where
  pub text : List ℕ
  pub cause : IsText files command faults faults_after records text
  pub front : AppendsFront bytes bytes_after text

-- the book is as before, or holds the whole history of an accepted program
abbrev pub IsBook : Seen → Type 0
IsBook seen = (seen.records_after ≡ seen.records) ⊎ ((program : Program)
    × HasRun seen.files seen.command seen.records_after program)

-- A front of one of the texts was put.
abbrev pub PutsFront : Seen → Type 0
PutsFront seen = IsFrontOfText seen.files seen.command seen.faults seen.faults_after seen.records_after seen.bytes
    seen.bytes_after

pub record IsDone (seen : Seen) : Type 0 where
  pub program : Program
  pub run : HasRun seen.files seen.command seen.records_after program
  pub printed : Appends seen.bytes seen.bytes_after (report_of program)

pub record IsTold (seen : Seen) : Type 0 where
  pub typed : Typed
  pub readings : List Reading
  pub asked : AsksMeaning seen.files seen.command typed readings
  pub printed : Appends seen.bytes seen.bytes_after (meaning_text typed readings)
  pub book : seen.records_after ≡ seen.records

pub record IsSourceRefused (seen : Seen) (reason : SourceFault) : Type 0 where
  pub cause : RefusesSource seen.files seen.command reason
  pub text : Appends seen.bytes seen.bytes_after (refusal_text reason)
  pub book : seen.records_after ≡ seen.records

pub record IsUsage (seen : Seen) : Type 0 where
  pub words : seen.command ≡ None
  pub text : Appends seen.bytes seen.bytes_after usage_text
  pub book : seen.records_after ≡ seen.records

pub record AreReadingsRefused (seen : Seen) (reason : ReadingsFault) : Type 0 where
  pub cause : RefusesItsReadings seen.files seen.command reason
  pub text : Appends seen.bytes seen.bytes_after (readings_text reason)
  pub book : seen.records_after ≡ seen.records

pub record IsReadFault (seen : Seen) : Type 0 where
  pub risen : HasRisen seen.faults seen.faults_after
  pub named : NamesItsRead seen.files seen.command seen.last
  pub text : Appends seen.bytes seen.bytes_after fault_text
  pub book : seen.records_after ≡ seen.records

pub record IsWriteFault (seen : Seen) : Type 0 where
  pub risen : HasRisen seen.put_faults seen.put_faults_after
  pub front : PutsFront seen
  pub book : IsBook seen

pub record IsNoMemory (seen : Seen) : Type 0 where
  pub front : (seen.bytes_after ≡ seen.bytes) ⊎ PutsFront seen
  pub book : IsBook seen

pub record IsNotSupported (seen : Seen) : Type 0 where
  pub cause : IsNotBuilt seen.files seen.command
  pub text : Appends seen.bytes seen.bytes_after unsupported_text
  pub book : seen.records_after ≡ seen.records

-- what the call comes to
abbrev pub ComesTo : Seen → Outcome → Type 0
ComesTo seen Done = IsDone seen
ComesTo seen Told = IsTold seen
ComesTo seen (Refused reason) = IsSourceRefused seen reason
ComesTo seen Usage = IsUsage seen
ComesTo seen (ReadingsRefused reason) = AreReadingsRefused seen reason
ComesTo seen ReadFault = IsReadFault seen
ComesTo seen WriteFault = IsWriteFault seen
ComesTo seen NoMemory = IsNoMemory seen
ComesTo seen Unsupported = IsNotSupported seen

-- the outcome of a call that put its text
abbrev pub said : Result (Unit {0}) SinkErr → Outcome → Outcome
said (Ok x) outcome = outcome
said (Err Failed) outcome = WriteFault
said (Err SinkNoMemory) outcome = NoMemory

abbrev pub status_of : Outcome → ℕ
status_of Done = 0
status_of Told = 0
status_of (Refused reason) = 1
status_of Usage = 2
status_of (ReadingsRefused reason) = 3
status_of ReadFault = 8
status_of WriteFault = 9
status_of NoMemory = 10
status_of Unsupported = 13

-- one of the statuses that a call may end with
abbrev pub IsStatus : ℕ → Type 0
IsStatus n = (n ≡ 0) ⊎ (n ≡ 1) ⊎ (n ≡ 2) ⊎ (n ≡ 3) ⊎ (n ≡ 8) ⊎ (n ≡ 9) ⊎ (n ≡ 10) ⊎ (n ≡ 13)

-- what status 0 says: of a run, that an accepted program was run, that its history is the book, and that what was put is the
-- report of that; of a meaning, that the source is a program and the other file readings, that what was put is their meaning,
-- and that the book is empty
abbrev pub HasDone : Option Drive → Option Order → List Record → Option (List ℕ) → Option (List ℕ) → Type 0
HasDone files command records bytes bytes_after =
    ((program : Program) × HasRun files command records program × Appends bytes bytes_after (report_of program))
    ⊎ ((typed : Typed) × (readings : List Reading) × AsksMeaning files command typed readings
    × Appends bytes bytes_after (meaning_text typed readings) × (records ≡ []))
