-- Which programs have no image, and why.
use Rattle.std.specs.Prelude.{◌≡◌, ℕ, suc, ◌+◌, ◌-◌, List, [], ◌∷◌, Option, Some, None, nat_lt, if◌then◌else◌}
use Rattle.base16.specs.Board.{most_frame_bytes, data_start, data_end, code_start, code_end}
use Rattle.core_tree.specs.Costs.{code_cost}
use Rattle.core_tree.specs.Data.{data_bytes}
use Rattle.core_tree.specs.Heights.{frame_bytes}
use Rattle.core_tree.specs.declared.program.Core.{Core}
use Rattle.core_tree.specs.declared.program.Function.{Function}
use Rattle.core_tree.specs.declared.types.Struct.{Struct}
use Rattle.codegen.specs.declared.errors.GenErr.{GenErr}
use Rattle.codegen.specs.declared.errors.GenErr.TheVariants.{FrameTooBig, DataTooBig, CodeTooBig, NoMemory}

-- the first function whose frame is too big, from a number on
abbrev pub big_frame : List Struct → ℕ → List Function → Option ℕ
big_frame structs n [] = None
big_frame structs n (x ∷ xs) =
    if nat_lt most_frame_bytes (frame_bytes structs x) then Some n else big_frame structs (suc n) xs

-- for the start and the helper routines
abbrev pub start_bytes : ℕ
start_bytes = 1024

abbrev pub refused_by : Option ℕ → Core → Option GenErr
refused_by (Some n) core = Some (FrameTooBig n)
refused_by None core =
    if nat_lt (data_end - data_start) (data_bytes core) then Some DataTooBig
    else (if nat_lt (code_end - code_start) (code_cost core + start_bytes) then Some CodeTooBig else None)

-- why a program has no image: the first of these causes
abbrev pub refusal_of : Core → Option GenErr
refusal_of core = refused_by (big_frame core.structs 0 core.functions) core

-- an error is the cause, but memory may run out for any program
abbrev pub IsCause : Option GenErr → GenErr → Type 0
IsCause refusal (FrameTooBig n) = refusal ≡ Some (FrameTooBig n)
IsCause refusal DataTooBig = refusal ≡ Some DataTooBig
IsCause refusal CodeTooBig = refusal ≡ Some CodeTooBig
IsCause refusal NoMemory = Unit {0}
