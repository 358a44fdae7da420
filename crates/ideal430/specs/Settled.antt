-- Which bytes count: a byte that does not may be anything, and after a power failure it is.
use Rattle.std.specs.Prelude.{ℕ, Bool, true, false, not, ◌&&◌, ◌||◌, nat_le, if◌then◌else◌, List, [], ◌∷◌}
use Rattle.core430.specs.Uses.{access_bytes}
use Rattle.ideal430.specs.Places.{is_in_segment, is_up_to, is_above, is_fixed, is_in_word, segment_of}
use Rattle.ideal430.specs.Service.{Noted}
use Rattle.ideal430.specs.declared.service.Store.{Store}
use Rattle.ideal430.specs.declared.service.Store.TheVariants.{Word, Byte, Link}

-- a set of bytes, by address
abbrev pub Bytes : Type 0
Bytes = ℕ → Bool

abbrev pub no_bytes : Bytes
no_bytes b = false

-- the bytes that a store writes: a byte's alone, and not the other one of its word
abbrev pub store_bytes : Store → Bytes
store_bytes (Word a w) b = is_in_word a b
store_bytes (Byte a v) b = access_bytes true a b
store_bytes (Link a w) b = is_in_word a b

abbrev pub stores_bytes : List Store → Bytes
stores_bytes [] b = false
stores_bytes (s ∷ rest) b = store_bytes s b || stores_bytes rest b

-- a byte of the segments up to the working one, and in the working one not below the stack pointer
abbrev pub is_live : (segment sp : ℕ) → Bytes
is_live segment sp b = is_up_to segment b && (not (is_in_segment segment b) || nat_le sp b)

-- not below the last stack pointer that its segment had, if it is an older one
abbrev pub is_held : (segment : ℕ) (pointers : ℕ → ℕ) → Bytes
is_held segment pointers b = is_in_segment segment b || nat_le (pointers (segment_of b)) b

-- The settled bytes after these were written, with this stack pointer in the working segment: outputs, data and code
-- always; of the stack what was written, as long as it lives.
abbrev pub settled_after : (segment sp : ℕ) (pointers : ℕ → ℕ) (written before : Bytes) → Bytes
settled_after segment sp pointers written before b =
    is_fixed b || (is_live segment sp b && (before b || (written b && is_held segment pointers b)))

-- An undoing writes the old words of the noted ones, but for those above the working segment. Each of their bytes is
-- settled where it was before the first store that was noted of its word. `earlier` has for each noted word the bytes
-- that were settled before its store.
abbrev pub settled_again : (segment : ℕ) → List Noted → List Bytes → Bytes
settled_again segment [] earlier b = false
settled_again segment (x ∷ rest) [] b = false
settled_again segment (x ∷ rest) (settled ∷ earlier) b =
    if is_in_word x.address b && not (is_above segment x.address) then settled b
    else settled_again segment rest earlier b
