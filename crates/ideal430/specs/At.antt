-- Where the code's machine stands, and the state that it answers.
use Rattle.std.specs.Prelude.{◌≡◌, ℕ, ◌<◌, ◌≤◌, List, [], ◌∷◌, length, drop, Option, Some, None, if◌then◌else◌, nat_eq}
use Rattle.base16.specs.Memory.{words_of}
use Rattle.base16.specs.declared.reading.Reading.{Reading}
use Rattle.base16.specs.declared.reading.Reading.TheVariants.{Sense, Clock}
use Rattle.core430.specs.Registers.{view_of}
use Rattle.ideal430.specs.Service.{Effect, popped, own_effect}
use Rattle.ideal430.specs.Ideal.{Ideal}
use Rattle.ideal430.specs.declared.service.Service.{Service}
use Rattle.ideal430.specs.declared.machine.Machine.{Machine}
use Rattle.ideal430.specs.declared.state.IdealState.{IdealState}

-- the code's machine is where the definition's is, with these readings in all
pub record IsAt (t : Ideal) (machine : Machine) (readings : List Reading) : Type 0 where
  pub regs : t.core.regs ≡ view_of machine.regs.r
  pub memory : t.core.memory ≡ words_of machine.memory
  pub segment : t.segment ≡ machine.segment
  pub block : t.block ≡ None
  pub marks : t.marks ≡ machine.marks
  pub left : t.left ≡ drop machine.taken readings
  pub status : t.status ≡ machine.end
  pub small : machine.segment < 32
  pub within : machine.taken ≤ length readings

-- the state of a machine: registers, words, marks, and how it stands
pub record IsStateOf (t : Ideal) (state : IdealState) : Type 0 where
  pub regs : view_of state.regs.r ≡ t.core.regs
  pub memory : words_of state.words ≡ t.core.memory
  pub words : length state.words ≡ 32768
  pub services : state.services ≡ t.marks
  pub end : state.end ≡ t.status

-- what a service does, found by the machine
abbrev pub effect_here : Service → (value : ℕ) → Ideal → Effect
effect_here service value t =
    own_effect service value (popped t.core.regs t.core.memory) t.core.memory t.segment t.block

-- the value of the next reading, if it is of this channel
abbrev pub sensed_value : (channel : ℕ) → List Reading → Option ℕ
sensed_value channel [] = None
sensed_value channel (Sense c value ∷ rest) = if nat_eq c channel then Some value else None
sensed_value channel (Clock ms ∷ rest) = None
