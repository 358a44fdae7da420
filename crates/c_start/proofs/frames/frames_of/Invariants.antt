use Rattle.std.proofs.Common.{◌≡◌, ◌++◌, map, drop}
use Rattle.c_start.specs.Frames.{frame_of}
use Rattle.c_start.proofs.frames.frames_of.Given as goal

abbrev pub invariant-loop-at : goal.invariant-loop-at
invariant-loop-at l =
    map (frame_of l.core.structs) l.core.functions ≡ l.frames ++ map (frame_of l.core.structs) (drop l.at l.core.functions)
