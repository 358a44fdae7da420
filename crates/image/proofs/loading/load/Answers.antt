use Rattle.std.proofs.Common.{◌∙◌, sym, ap, subst, List, ℕ, length, refl, [], ◌∷◌}
use Rattle.std.specs.Prelude.{replicate}
use Rattle.base16.specs.Memory.{words_of}
use Rattle.ideal430.specs.Shown.{filled}
use Rattle.ideal430.proofs.Loading.{loaded_words}
use Rattle.image.specs.Start.{IsStart}
use Rattle.image.proofs.LoadLemmas.{zeros_are, loaded_start, start_fits}
use Rattle.image.proofs.loading.load.Goals as goal

pub returns-clause-words : goal.returns-clause-words
returns-clause-words c =
    loaded_words c.args.image.now.code c.args.image.now.globals (replicate 32768 0) 32768 _ _ _ _ c.requires.code_fits c.requires.globals_fit refl
    (c.fill.ensures ∙ ap (filled 0x1002 (0x5443 ∷ 1 ∷ []) 2) (zeros_are c.clear.new.fram.words c.clear.ensures))
    c.fill-2.ensures
    (c.fill-3.ensures ∙ ap (λ (ws : List ℕ). filled 0x4000 ws (length ws) (words_of c.fill-2.new.fram.words)) c.as_slice.ensures)
    (c.fill-4.ensures ∙ ap (λ (ws : List ℕ). filled 0x8000 ws (length ws) (words_of c.fill-3.new.fram.words)) c.as_slice-2.ensures)

pub returns-clause-start : goal.returns-clause-start
returns-clause-start c =
    subst IsStart (sym (returns-clause-words c)) (loaded_start c.args.image.now.code c.args.image.now.globals)

pub returns-clause-fits : goal.returns-clause-fits
returns-clause-fits c = λ readings. start_fits _ readings (returns-clause-start c)
