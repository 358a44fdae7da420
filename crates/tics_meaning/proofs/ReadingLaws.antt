-- A text within the limit has few lines.
use Rattle.std.proofs.Common.{ℕ, ◌<◌, ◌≤◌, ◌^◌, List, length, arith}
use Rattle.std.specs.Str.Lines.{lines}
use Rattle.world.specs.Text.{length-lines}
use Rattle.tics_meaning.specs.Meant.{most_readings_bytes}

pub few_lines : (text : List ℕ) → length text ≤ most_readings_bytes → length (lines text) < 2 ^ 32
few_lines text h = omega (arith, h, length-lines text)
