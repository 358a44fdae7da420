use Rattle.std.proofs.Common.{ℕ, ◌+◌, sym, ap, ◌∙◌}
use Rattle.asm430.specs.Assembly.{words_in}
use Rattle.placed430.specs.Assembled.{address_of}
use Rattle.placed430.proofs.Assembled.{placed, address_append, part_size, words_placed}
use Rattle.placed430.proofs.laws.assembled_code_is_placed.Goals as goal

pub returns-clause-code : goal.returns-clause-code
returns-clause-code c = placed

pub returns-clause-behind : goal.returns-clause-behind
returns-clause-behind c = λ items front part code. address_append front part ∙ ap (λ (n : ℕ). address_of front + n) (sym (part_size items (words_in front) part code))

pub returns-clause-words : goal.returns-clause-words
returns-clause-words c = words_placed
