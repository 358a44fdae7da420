-- Functions whose steps 32 bits number.
use Rattle.std.specs.Prelude.{ℕ, ◌^◌, Bool, true, ◌&&◌, nat_lt, List, [], ◌∷◌, length}
use Rattle.ir.specs.declared.form.IrFunction.{IrFunction}

-- each function has fewer than 2^32 steps
abbrev pub have_few_steps : List IrFunction → Bool
have_few_steps [] = true
have_few_steps (fn ∷ fns) = nat_lt (length fn.steps) (2 ^ 32) && have_few_steps fns
