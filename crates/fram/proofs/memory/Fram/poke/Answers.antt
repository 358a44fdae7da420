-- A word set in the list is a word set in the memory.
use Rattle.std.proofs.Common.{◌/◌, ◌<◌, length, ◌∙◌, ap, arith}
use Rattle.base16.specs.Memory.{words_of, put}
use Rattle.base16.proofs.Writes.{words_put}
use Rattle.fram.specs.Contents.{Contents}
use Rattle.fram.proofs.memory.Fram.poke.Goals as goal

pub returns-else-address-ge-DATA-clause-memory : goal.returns-else-address-ge-DATA-clause-memory
returns-else-address-ge-DATA-clause-memory c =
    let within : c.args.address / 2 < length c.self.inside.words.items = omega arith in
    words_put c.self.inside.words.items c.args.address c.args.word c.requires within
    ∙ ap (λ (q : Contents). put (words_of q.words) c.args.address c.args.word) c.self.view_is

pub returns-then-address-lt-SEGMENTS-clause-memory : goal.returns-then-address-lt-SEGMENTS-clause-memory
returns-then-address-lt-SEGMENTS-clause-memory c =
    let within : c.args.address / 2 < length c.self.inside.words.items = omega arith in
    words_put c.self.inside.words.items c.args.address c.args.word c.requires within
    ∙ ap (λ (q : Contents). put (words_of q.words) c.args.address c.args.word) c.self.view_is
