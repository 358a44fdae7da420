-- What a text that is put comes to.
use Rattle.std.proofs.Common.{◌≡◌, ℕ, inl, inr, List, Result, Ok, Err, refl}
use Rattle.std.specs.Prelude.{OnOk, OnErr, IsErrOf}
use Rattle.edge.specs.Counts.{HasRisen}
use Rattle.edge.specs.Told.{Appends, AppendsFront}
use Rattle.edge.specs.declared.sink.SinkErr.{SinkErr}
use Rattle.edge.specs.declared.sink.SinkErr.TheVariants.{Failed, NoMemory as SinkNoMemory}
use Rattle.tics_call.specs.declared.outcome.Outcome.{Outcome}
use Rattle.tics_call.specs.Outcome.{Seen, IsText, IsBook, ComesTo, said}

-- a text that was put whole, in part, or not at all
pub said_text : (seen : Seen) (text : List ℕ) (outcome : Outcome) (r : Result (Unit {0}) SinkErr)
    → IsText seen.files seen.command seen.faults seen.faults_after seen.records_after text → IsBook seen
    → (Appends seen.bytes seen.bytes_after text → ComesTo seen outcome)
    → OnOk r (Appends seen.bytes seen.bytes_after text) → (IsErrOf r Failed → HasRisen seen.put_faults seen.put_faults_after)
    → (IsErrOf r Failed → AppendsFront seen.bytes seen.bytes_after text)
    → (IsErrOf r SinkNoMemory → seen.bytes_after ≡ seen.bytes) → ComesTo seen (said r outcome)
said_text seen text outcome (Ok x) cause book whole ok failed front none = whole ok
said_text seen text outcome (Err Failed) cause book whole ok failed front none =
    record { risen = failed refl; front = record { text = text; cause = cause; front = front refl }; book = book }
said_text seen text outcome (Err SinkNoMemory) cause book whole ok failed front none =
    record { front = inl (none refl); book = book }

-- lines that were put whole or in part
pub said_lines : (seen : Seen) (text : List ℕ) (outcome : Outcome) (r : Result (Unit {0}) SinkErr)
    → IsText seen.files seen.command seen.faults seen.faults_after seen.records_after text → IsBook seen
    → (Appends seen.bytes seen.bytes_after text → ComesTo seen outcome)
    → OnOk r (Appends seen.bytes seen.bytes_after text) → (IsErrOf r Failed → HasRisen seen.put_faults seen.put_faults_after)
    → OnErr r (AppendsFront seen.bytes seen.bytes_after text) → ComesTo seen (said r outcome)
said_lines seen text outcome (Ok x) cause book whole ok failed front = whole ok
said_lines seen text outcome (Err Failed) cause book whole ok failed front =
    record { risen = failed refl; front = record { text = text; cause = cause; front = front }; book = book }
said_lines seen text outcome (Err SinkNoMemory) cause book whole ok failed front =
    record { front = inr (record { text = text; cause = cause; front = front }); book = book }
