-- A reading more keeps a list of readings in order.
use Rattle.std.proofs.Common.{◌≡◌, ℕ, ◌<◌, ◌≤◌, ◌^◌, List, [], ◌∷◌, ◌++◌, refl, ◌∙◌, arith}
use Rattle.base16.specs.Readings.{AreReadingsFrom}
use Rattle.base16.specs.declared.reading.Reading.{Reading}
use Rattle.base16.specs.declared.reading.Reading.TheVariants.{Sense, Clock}
use Rattle.world.specs.World.{last_clock_of}
use Rattle.world.specs.ReadingsFile.{IsKept}
use Rattle.world.specs.declared.readings_draft.ReadingsDraft.{ReadingsDraft}

pub readings_sense : (low : ℕ) (rs : List Reading) (channel value : ℕ) → channel < 16 → value < 2 ^ 16
    → AreReadingsFrom low rs → AreReadingsFrom low (rs ++ Sense channel value ∷ [])
readings_sense low [] channel value c v h = (c, v, tt)
readings_sense low (Sense d w ∷ rs) channel value c v h = (h.0, h.1, readings_sense low rs channel value c v h.2)
readings_sense low (Clock ms ∷ rs) channel value c v h = (h.0, h.1, readings_sense ms rs channel value c v h.2)

pub readings_clock : (low : ℕ) (rs : List Reading) (ms : ℕ) → ms < 2 ^ 31 → last_clock_of low rs ≤ ms → AreReadingsFrom low rs
    → AreReadingsFrom low (rs ++ Clock ms ∷ [])
readings_clock low [] ms m l h = (l, m, tt)
readings_clock low (Sense d w ∷ rs) ms m l h = (h.0, h.1, readings_clock low rs ms m l h.2)
readings_clock low (Clock n ∷ rs) ms m l h = (h.0, h.1, readings_clock n rs ms m l h.2)

pub last_sense : (low : ℕ) (rs : List Reading) (channel value : ℕ)
    → last_clock_of low (rs ++ Sense channel value ∷ []) ≡ last_clock_of low rs
last_sense low [] channel value = refl
last_sense low (Sense d w ∷ rs) channel value = last_sense low rs channel value
last_sense low (Clock n ∷ rs) channel value = last_sense n rs channel value

pub last_clock : (low : ℕ) (rs : List Reading) (ms : ℕ) → last_clock_of low (rs ++ Clock ms ∷ []) ≡ ms
last_clock low [] ms = refl
last_clock low (Sense d w ∷ rs) ms = last_clock low rs ms
last_clock low (Clock n ∷ rs) ms = last_clock n rs ms

pub kept_sense : (d : ReadingsDraft) (rs : List Reading) (channel value : ℕ) → channel < 16 → value < 2 ^ 16
    → rs ≡ d.readings ++ Sense channel value ∷ [] → IsKept d → IsKept (record { readings = rs; clock = d.clock })
kept_sense d rs channel value c v e h = record {
  readings = rw e (readings_sense 0 d.readings channel value c v h.readings);
  clock = rw e (last_sense 0 d.readings channel value ∙ h.clock);
}

pub kept_clock : (d : ReadingsDraft) (rs : List Reading) (ms : ℕ) → ms < 2 ^ 31 → d.clock ≤ ms
    → rs ≡ d.readings ++ Clock ms ∷ [] → IsKept d → IsKept (record { readings = rs; clock = ms })
kept_clock d rs ms m l e h = record {
  readings = rw e (readings_clock 0 d.readings ms m (omega (arith, h.clock, l)) h.readings);
  clock = rw e (last_clock 0 d.readings ms);
}
