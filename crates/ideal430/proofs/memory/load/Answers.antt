use Rattle.std.proofs.Common.{◌∙◌, ap, List, ℕ, length}
use Rattle.base16.specs.Memory.{words_of}
use Rattle.ideal430.specs.Shown.{filled}
use Rattle.ideal430.proofs.Loading.{loaded_words}
use Rattle.ideal430.proofs.memory.load.Goals as goal

pub returns : goal.returns
returns c =
    loaded_words c.args.image.now.code c.args.image.now.globals _ 32768 _ _ _ _ c.requires.code_fits c.requires.globals_fit
    c.in_ok-memory.ensures c.fill.ensures c.fill-2.ensures
    (c.fill-3.ensures ∙ ap (λ (ws : List ℕ). filled 0x4000 ws (length ws) (words_of c.fill-2.new.memory)) c.as_slice.ensures)
    (c.fill-4.ensures ∙ ap (λ (ws : List ℕ). filled 0x8000 ws (length ws) (words_of c.fill-3.new.memory)) c.as_slice-2.ensures)
