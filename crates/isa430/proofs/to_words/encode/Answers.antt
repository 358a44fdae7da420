-- The words of a valid instruction are read back.
use Rattle.std.proofs.Common.{ap, ◌∙◌}
use Rattle.isa430.specs.Table.{decode_words}
use Rattle.isa430.proofs.InMemory.{decodes}
use Rattle.isa430.proofs.Formats.{decodes_list}
use Rattle.isa430.proofs.to_words.encode.Goals as goal

pub returns-clause-decoded : goal.returns-clause-decoded
returns-clause-decoded c = ap decode_words c.assemble.ensures.words ∙ decodes_list c.args.instr.now _ c.requires

pub returns-clause-back : goal.returns-clause-back
returns-clause-back c = λ m a h. decodes c.args.instr.now m a c.requires h
