-- Files and bytes in memory, with calls that are to fail.
use Rattle.std.specs.Prelude.{ℕ, List, [], ◌∷◌, ◌++◌, length, Option, Some, None, Bool, if◌then◌else◌, nat_lt, ◌==◌, Result, Ok, Err}
use Rattle.std.specs.List.{list_any}
use Rattle.std.specs.Str.{bytes_eq}
use Rattle.edge.specs.Counts.{risen}
use Rattle.edge.specs.declared.files.FileErr.{FileErr}
use Rattle.edge.specs.declared.files.FileErr.TheVariants.{Failed, TooBig}
use Rattle.edge.specs.declared.mem_files.StoredFile.{StoredFile}

-- A store in memory: its files, the newest first, the numbers of the calls that are to fail, how many calls there
-- were, how many of them failed, and the name of the last that did.
pub record MemDrive : Type 0 where
  pub files : List StoredFile
  pub fails : List ℕ
  pub calls : ℕ
  pub faults : ℕ
  pub last : Option (List ℕ)

-- A sink in memory: the bytes put so far, the numbers of the calls that are to fail, how many calls there were, and
-- how many of them failed.
pub record MemBytes : Type 0 where
  pub bytes : List ℕ
  pub fails : List ℕ
  pub calls : ℕ
  pub faults : ℕ

-- the bytes of the newest file of a name
abbrev pub file_of : List StoredFile → List ℕ → Option (List ℕ)
file_of [] name = None
file_of (file ∷ files) name = if bytes_eq file.name name then Some file.bytes else file_of files name

-- the call after so many calls is to fail; calls are numbered from 1
abbrev pub is_to_fail : List ℕ → ℕ → Bool
is_to_fail fails calls = list_any (λ number. number == risen calls) fails

-- what reading a file answers, with memory enough
abbrev pub read_of : Option (List ℕ) → ℕ → Result (List ℕ) FileErr
read_of None limit = Err Failed
read_of (Some bytes) limit = if nat_lt limit (length bytes) then Err TooBig else Ok bytes

abbrev pub read_answer : MemDrive → List ℕ → ℕ → Result (List ℕ) FileErr
read_answer drive name limit = if is_to_fail drive.fails drive.calls then Err Failed else read_of (file_of drive.files name) limit

-- the store once a call is numbered
abbrev pub next_call : MemDrive → MemDrive
next_call drive = record drive { calls = risen drive.calls }

-- the store after a call under this name that failed
abbrev pub failed_call : MemDrive → List ℕ → MemDrive
failed_call drive name = record (next_call drive) { faults = risen drive.faults; last = Some name }

-- the store with a file set
abbrev pub with_file : MemDrive → List ℕ → List ℕ → MemDrive
with_file drive name bytes = record drive { files = record { name = name; bytes = bytes } ∷ drive.files }

-- the sink once a call is numbered
abbrev pub next_put : MemBytes → MemBytes
next_put sink = record sink { calls = risen sink.calls }

-- the sink after a call that failed
abbrev pub failed_put : MemBytes → MemBytes
failed_put sink = record (next_put sink) { faults = risen sink.faults }

-- the sink with a piece added
abbrev pub with_piece : MemBytes → List ℕ → MemBytes
with_piece sink piece = record sink { bytes = sink.bytes ++ piece }
