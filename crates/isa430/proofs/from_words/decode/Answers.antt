-- What the definition answers says the rest.
use Rattle.std.proofs.Common.{arith}
use Rattle.isa430.proofs.Formats.{some_in_table, some_valid, some_words}
use Rattle.isa430.proofs.from_words.decode.Goals as goal

pub returns-clause-table : goal.returns-clause-table
returns-clause-table c = some_in_table (λ d. d.0) _ _ _ c.read.result c.read.ensures.value

pub returns-clause-valid : goal.returns-clause-valid
returns-clause-valid c = some_valid (λ d. d.0) _ _ _ c.read.result c.read.ensures.value

pub returns-clause-words : goal.returns-clause-words
returns-clause-words c = some_words (λ d. d.0) (λ d. d.1) c.args.words.now c.read.result (omega arith) c.read.ensures.value c.read.ensures.size
