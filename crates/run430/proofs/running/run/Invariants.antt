use Rattle.std.proofs.Common.{◌≡◌, ◌-◌, ◌≤◌}
use Rattle.core430.specs.Registers.{view_of}
use Rattle.core430.specs.Step.{Next}
use Rattle.run430.specs.Run.{run as run_of}
use Rattle.run430.proofs.running.run.Given as goal

-- so many steps are made
abbrev pub invariant-loop-left : goal.invariant-loop-left
invariant-loop-left g l =
    (l.left ≤ l.fn.n)
    × (run_of (g.M.Memory.denied l.fn.memory) (l.fn.n - l.left) (record { regs = view_of l.fn.regs.r; memory = g.M.Memory.words l.fn.memory }) ≡ Next (record { regs = view_of l.regs.r; memory = g.M.Memory.words l.memory }))
    × (g.M.Memory.denied l.memory ≡ g.M.Memory.denied l.fn.memory)
    × (g.M.Memory.lender l.memory ≡ g.M.Memory.lender l.fn.memory)
    × (g.M.Memory.aside l.memory ≡ g.M.Memory.aside l.fn.memory)

abbrev pub decreases-loop-left : goal.decreases-loop-left
decreases-loop-left g l = l.left
