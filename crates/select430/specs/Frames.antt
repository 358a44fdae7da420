-- Where things stand that steps name: locals and temporaries in the frame, variables and their stamps in memory.
use Rattle.std.specs.Prelude.{ℕ, ◌+◌, ◌*◌, ◌/◌, ◌%◌, max, List, [], ◌∷◌, Option, Some, None, slice_get}
use Rattle.base16.specs.declared.image.Kind.{Kind}
use Rattle.base16.specs.declared.image.Kind.TheVariants as kind
use Rattle.base16.specs.Board.{data_start}
use Rattle.core_tree.specs.declared.types.Slot.{Slot}
use Rattle.ir.specs.declared.form.Ir.{Ir}
use Rattle.ir.specs.declared.form.IrFunction.{IrFunction}
use Rattle.ir.specs.declared.form.IrLocal.{IrLocal}
use Rattle.ir.specs.declared.form.IrGlobal.{IrGlobal}
use Rattle.ir.specs.Machine.{stamp_in}

-- an address or a number as a word
abbrev pub word : ℕ → ℕ
word n = n % 65536

abbrev pub kind_bytes : Kind → ℕ
kind_bytes kind.Char = 1
kind_bytes _ = 2

-- the bytes up to the end of the last of some scalars
abbrev pub scalars_end : List Slot → ℕ
scalars_end [] = 0
scalars_end (s ∷ ss) = max (s.offset + kind_bytes s.kind) (scalars_end ss)

abbrev pub even : ℕ → ℕ
even n = (n + 1) / 2 * 2

-- ---- in a frame, from SP upwards: parameters and locals, a pad byte to an even size, then the temporaries

abbrev pub locals_end : List IrLocal → ℕ
locals_end [] = 0
locals_end (l ∷ ls) = max (l.offset + scalars_end l.scalars) (locals_end ls)

abbrev pub temporaries_at : IrFunction → ℕ
temporaries_at fn = even (locals_end fn.locals)

-- the temporary of a depth
abbrev pub temporary_at : IrFunction → ℕ → ℕ
temporary_at fn d = word (temporaries_at fn + 2 * d)

abbrev pub offset_or : Option IrLocal → ℕ
offset_or None = 0
offset_or (Some l) = l.offset

-- the byte of a local at an offset
abbrev pub local_at : IrFunction → (n offset : ℕ) → ℕ
local_at fn n offset = word (offset_or (slice_get fn.locals n) + offset)

-- ---- in memory: variables, and from an even address behind the last one the stamps, four bytes each

abbrev pub address_or : Option IrGlobal → ℕ
address_or None = 0
address_or (Some g) = g.address

-- the byte of a variable at an offset
abbrev pub global_at : Ir → (n offset : ℕ) → ℕ
global_at ir n offset = word (address_or (slice_get ir.globals n) + offset)

abbrev pub globals_end : List IrGlobal → ℕ
globals_end [] = 0
globals_end (g ∷ gs) = max (g.address + scalars_end g.scalars) (globals_end gs)

-- the stamp of the scalar at an offset of a variable
abbrev pub stamp_at : Ir → (n offset : ℕ) → ℕ
stamp_at ir n offset = word (even (max data_start (globals_end ir.globals)) + 4 * stamp_in 0 ir.globals n offset)
