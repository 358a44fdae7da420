-- The numbers of labels, in the order in which things stand in code: the functions, each with its steps, then the helper
-- routines, then the check tables. Functions have numbers below 2^16, steps and check tables below 2^32.
use Rattle.std.specs.Prelude.{ℕ, ◌+◌, ◌*◌}
use Rattle.rt430.specs.declared.words.Helper.{Helper}
use Rattle.rt430.specs.declared.words.Helper.TheVariants.{Mul16, Udiv16, Umod16, Sdiv16, Smod16, Shl, Shr, Sar}

-- a function has 2^40 numbers, of which the first is its label
abbrev pub function_labels : ℕ
function_labels = 1099511627776

abbrev pub function_label : ℕ → ℕ
function_label g = g * function_labels

-- a step has four of the numbers of its function, of which the first is its label
abbrev pub step_label : ℕ → ℕ → ℕ
step_label g p = function_label g + 4 * (p + 1)

-- the others are for what is skipped inside the step; its items use the first of these
abbrev pub inner_label : ℕ → ℕ → ℕ
inner_label g p = step_label g p + 1

-- behind the numbers of a step
abbrev pub step_end : ℕ → ℕ → ℕ
step_end g p = step_label g p + 4

-- the helper routines begin at 2^60
abbrev pub first_helper_label : ℕ
first_helper_label = 1152921504606846976

abbrev pub helper_number : Helper → ℕ
helper_number Mul16 = 0
helper_number Udiv16 = 1
helper_number Umod16 = 2
helper_number Sdiv16 = 3
helper_number Smod16 = 4
helper_number Shl = 5
helper_number Shr = 6
helper_number Sar = 7

abbrev pub helper_label : Helper → ℕ
helper_label which = first_helper_label + helper_number which

-- and the check tables at 2^61
abbrev pub first_table_label : ℕ
first_table_label = 2305843009213693952

abbrev pub table_label : ℕ → ℕ
table_label t = first_table_label + t
