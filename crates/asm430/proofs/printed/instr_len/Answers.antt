use Rattle.std.proofs.Common.{arith}
use Rattle.asm430.proofs.Entries.{leads}
use Rattle.asm430.proofs.printed.instr_len.Goals as goal

pub returns-then-len-words : goal.returns-then-len-words
returns-then-len-words c =
    leads c.args.words.now _ _ _ _ _ _ c.word_at.ensures c.word_at-2.ensures c.word_at-3.ensures c.in_ok-instr.ensures.valid
    c.in_ok-instr.ensures.words c.in_ok-instr.ensures.size c.encode-len.ensures.size c.encode-len.ensures.len (omega arith)
