-- A word set in the list is a word set in the memory.
use Rattle.std.proofs.Common.{◌/◌, ◌<◌, length, ◌∙◌, ap, arith}
use Rattle.base16.specs.Memory.{words_of, put}
use Rattle.fram.specs.Contents.{Contents}
use Rattle.base16.proofs.Writes.{words_put}
use Rattle.fram.proofs.memory.Fram.write.Goals as goal

pub returns-clause-memory : goal.returns-clause-memory
returns-clause-memory g c =
    let within : c.args.address / 2 < length c.self.inside.words.items = omega arith in
    words_put c.self.inside.words.items c.args.address c.args.word c.requires within
    ∙ ap (λ (q : Contents). put (words_of q.words) c.args.address c.args.word) c.self.view_is
