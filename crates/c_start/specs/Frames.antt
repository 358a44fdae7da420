-- What the calls of a function need to know of it.
use Rattle.std.specs.Prelude.{nat_lt, if◌then◌else◌, List, [], map}
use Rattle.base16.specs.Board.{most_frame_bytes}
use Rattle.core_tree.specs.declared.types.Struct.{Struct}
use Rattle.core_tree.specs.declared.program.Function.{Function}
use Rattle.core_tree.specs.Layout.{kind_of}
use Rattle.core_tree.specs.Heights.{capped, frame_bytes}
use Rattle.c_meaning.specs.After.{objects_of}
use Rattle.c_start.specs.declared.frames.Frame.{Frame}

-- the bytes of its frame as they are told, the kinds of its parameters, and its objects, which a call whose frame fits into
-- no segment never makes
abbrev pub frame_of : List Struct → Function → Frame
frame_of structs f = record {
  bytes = capped (frame_bytes structs f);
  kinds = map kind_of f.params;
  objects = if nat_lt most_frame_bytes (frame_bytes structs f) then [] else objects_of structs f;
}
