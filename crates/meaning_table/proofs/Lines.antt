-- A text of a million bytes has few lines.
use Rattle.std.proofs.Common.{ℕ, ◌≤◌, ◌<◌, ◌^◌, List, length, arith}
use Rattle.std.specs.Str.Lines.{lines}
use Rattle.world.specs.Text.{length-lines}

pub few_lines : (text : List ℕ) → length text ≤ 1000000 → length (lines text) < 2 ^ 32
few_lines text h = omega (arith, h, length-lines text)
