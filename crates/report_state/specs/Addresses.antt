-- Where the objects of a state stand on the board: the variables where the placement puts them, and the parameters and
-- locals of the live calls in their frames.
use Rattle.std.specs.Prelude.{ℕ, ◌+◌, nat_eq, Bool, List, [], ◌∷◌, Option, Some, None, option_map, slice_get}
use Rattle.std.specs.List.{position}
use Rattle.core_tree.specs.declared.program.Core.{Core}
use Rattle.core_tree.specs.Data.{global_address}
use Rattle.core_tree.specs.Heights.{local_offset}
use Rattle.c_values.specs.declared.state.Object.{Object}
use Rattle.c_values.specs.declared.state.Call.{Call}
use Rattle.c_values.specs.declared.state.State.{State}

abbrev pub has_number : ℕ → Object → Bool
has_number n o = nat_eq o.number n

-- the address of a parameter or local of a call, by its place among them
abbrev pub local_address : Core → Call → ℕ → Option ℕ
local_address core c i = option_map (λ f. c.frame + local_offset core.structs f i) (slice_get core.functions c.function)

-- the address at a place, if there is one, or another address
abbrev pub address_at : (ℕ → Option ℕ) → Option ℕ → Option ℕ → Option ℕ
address_at address (Some i) other = address i
address_at address None other = other

-- the address of the object of a number in the frames of calls
abbrev pub frame_address : Core → ℕ → List Call → Option ℕ
frame_address core n [] = None
frame_address core n (c ∷ cs) = address_at (local_address core c) (position (has_number n) c.locals) (frame_address core n cs)

-- the address where the object of a number begins; none where the object is gone
abbrev pub object_address : Core → State → ℕ → Option ℕ
object_address core s n =
    address_at (λ i. Some (global_address core i)) (position (has_number n) s.globals) (frame_address core n s.calls)
