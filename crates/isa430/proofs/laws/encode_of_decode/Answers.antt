use Rattle.isa430.proofs.Formats.{decoded, decoded_words, stands}
use Rattle.isa430.proofs.laws.encode_of_decode.Goals as goal

pub returns-clause-valid : goal.returns-clause-valid
returns-clause-valid c = λ w0 w1 w2 i e. (decoded w0 w1 w2 i e).is_valid

pub returns-clause-words : goal.returns-clause-words
returns-clause-words c = λ w0 w1 w2 i e. decoded_words w0 w1 w2 i e

pub returns-clause-memory : goal.returns-clause-memory
returns-clause-memory c = λ i m a e. stands m a i e
