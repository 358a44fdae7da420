-- no file so far has the name
use Rattle.std.proofs.Common.{◌≡◌, drop}
use Rattle.edge.specs.Memory.{file_of}
use Rattle.edge.proofs.mem_files.MemFiles.find.Given as goal

abbrev pub invariant-loop-file : goal.invariant-loop-file
invariant-loop-file l = file_of (drop l.file-index l.file-items) l.name ≡ file_of l.self.files l.name
