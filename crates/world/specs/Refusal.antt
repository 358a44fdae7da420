-- A refusal names its cause; want of memory alone is free.
use Rattle.std.specs.Prelude.{◌≡◌, Result, Err}
use Rattle.world.specs.declared.error.TraceErr.{TraceErr}
use Rattle.world.specs.declared.error.TraceErr.TheVariants.{BadLine, TooLong, NoMemory}

-- the error is what reading answers
abbrev pub IsRefusalOf : {A : Type 0} → Result A TraceErr → TraceErr → Type 0
IsRefusalOf read (BadLine line) = read ≡ Err (BadLine line)
IsRefusalOf read TooLong = read ≡ Err TooLong
IsRefusalOf read NoMemory = Unit {0}
