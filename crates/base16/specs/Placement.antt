-- Where the frames of live calls stand: in the segments of the stack, grown from the top of segment 0 downwards. A call
-- pushes its return word just below the frame of its caller.
use Rattle.std.specs.Prelude.{ℕ, ◌+◌, ◌-◌, ◌*◌, ◌/◌, if◌then◌else◌, nat_le, nat_lt, List, [], ◌∷◌, Option, Some, None}
use Rattle.base16.specs.Board.{segment_bytes, segment_count, segment_start, most_frame_bytes, first_stack_pointer}

-- The address of a new frame, where the stack pointer of the caller is `sp`; none where it has no place. It goes below
-- the return word where four bytes stay free below it, else to the next segment, whose last word is the link.
unfoldable pub frame_below : (sp bytes : ℕ) → Option ℕ
frame_below sp bytes =
    let return_word = sp - 2 in
    let base = return_word / segment_bytes * segment_bytes in
    if nat_lt most_frame_bytes bytes then None
    else (if nat_le (base + bytes + 4) return_word then Some (return_word - bytes)
    else (if nat_lt base (segment_start (segment_count - 1)) then Some (base + 2 * segment_bytes - 2 - bytes) else None))

abbrev pub or_else_none : {A B : Type 0} → Option A → (A → Option B) → Option B
or_else_none None f = None
or_else_none (Some a) f = f a

-- the addresses of the frames of the live calls, from their bytes, oldest first; none where one of them has no place
abbrev pub placed_from : ℕ → List ℕ → Option (List ℕ)
placed_from sp [] = Some []
placed_from sp (bytes ∷ more) =
    or_else_none (frame_below sp bytes) (λ at. or_else_none (placed_from at more) (λ rest. Some (at ∷ rest)))

abbrev pub place : List ℕ → Option (List ℕ)
place frames = placed_from first_stack_pointer frames
