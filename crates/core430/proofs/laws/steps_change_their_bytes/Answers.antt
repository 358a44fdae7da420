use Rattle.core430.proofs.Frame.{step_left}
use Rattle.core430.proofs.WordSizes.{step_words}
use Rattle.core430.proofs.laws.steps_change_their_bytes.Goals as goal

pub returns-clause-bytes : goal.returns-clause-bytes
returns-clause-bytes c = step_left

pub returns-clause-words : goal.returns-clause-words
returns-clause-words c = step_words
