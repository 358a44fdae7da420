use Rattle.std.proofs.Common.{◌≡◌, ◌++◌, take}
use Rattle.std.specs.List.{flat_map}
use Rattle.asm430.specs.Listing.{global_line, stamp_line, function_line}
use Rattle.asm430.proofs.printed.push_symbols.Given as goal

abbrev pub invariant-loop-scalar : goal.invariant-loop-scalar
invariant-loop-scalar l = l.text.items ≡ l.fn.text.items ++ flat_map global_line (take l.scalar-index l.image.symbols.scalars)

abbrev pub invariant-loop-stamped : goal.invariant-loop-stamped
invariant-loop-stamped l = l.text.items ≡ l.initial.text.items ++ flat_map stamp_line (take l.stamped-index l.image.symbols.scalars)

abbrev pub invariant-loop-function : goal.invariant-loop-function
invariant-loop-function l = l.text.items ≡ l.initial.text.items ++ flat_map function_line (take l.function-index l.image.symbols.functions)
