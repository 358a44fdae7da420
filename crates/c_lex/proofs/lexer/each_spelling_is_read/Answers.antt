use Rattle.c_lex.proofs.Listed.{keywords_read, notes_read, marks_read}
use Rattle.c_lex.proofs.lexer.each_spelling_is_read.Goals as goal

pub returns-clause-keywords : goal.returns-clause-keywords
returns-clause-keywords c = keywords_read

pub returns-clause-notes : goal.returns-clause-notes
returns-clause-notes c = notes_read

pub returns-clause-marks : goal.returns-clause-marks
returns-clause-marks c = marks_read
