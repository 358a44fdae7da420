-- The parts of the changes, and what they make of a display.
use Rattle.std.proofs.Common.{◌≡◌, ap, sym, subst, ◌∙◌, ◌++◌, fold, List}
use Rattle.base16.specs.Board.{data_end}
use Rattle.base16.specs.Memory.{words_of}
use Rattle.base16.specs.declared.image.Scalar.{Scalar}
use Rattle.world.specs.declared.history.Shown.{Shown}
use Rattle.world.specs.History.{changed}
use Rattle.display.specs.Display.{display_of, ShowsSame}
use Rattle.display.specs.Log.{before, shown_before}
use Rattle.display.specs.Sets.{sets_between, all_below, value_set, stamp_set, length_change, out_change}
use Rattle.display.proofs.Law.{sets_between-lead}
use Rattle.display.proofs.Pushing.{parts-joined}
use Rattle.display.proofs.Same.{display_of-same, sets_between-same}
use Rattle.display.proofs.sets.sets_since.Goals as goal
use Rattle.display.proofs.sets.sets_since.Goals.{After-from_vec}

-- the changes from the display before
all : (c : After-from_vec) → c.from_vec.result
    ≡ sets_between c.args.symbols.now.scalars
    (shown_before c.args.symbols.now.scalars c.args.log (words_of c.args.fram.now.words))
    (display_of c.args.symbols.now.scalars (words_of c.args.fram.now.words))
all c =
    let m = words_of c.args.fram.now.words in
    let scalars = c.as_slice-scalars.result.now in
    let d = shown_before scalars c.args.log m in
    let f = display_of scalars m in
    c.from_vec.ensures ∙ c.shrink_to_fit.ensures.items
    ∙ parts-joined c.args.room.items (all_below (value_set scalars d f) data_end) (all_below (stamp_set scalars d f) data_end)
    (length_change d f ++ all_below (out_change d f) f.outputs) c.push_values.new.sets.items c.push_stamps.new.sets.items
    c.push_outputs.new.sets.items c.requires.empty c.push_values.ensures.items c.push_stamps.ensures.items c.push_outputs.ensures
    ∙ ap (λ (ss : List Scalar). sets_between ss (shown_before ss c.args.log m) (display_of ss m)) c.as_slice-scalars.ensures

pub returns-clause-sets : goal.returns-clause-sets
returns-clause-sets c = λ old same.
    let m = words_of c.args.fram.now.words in
    let scalars = c.args.symbols.now.scalars in
    all c ∙ sets_between-same scalars (shown_before scalars c.args.log m) (display_of scalars m) (display_of scalars old)
    (display_of-same scalars (before c.args.log m) old c.requires.placed same)

pub returns-clause-shown : goal.returns-clause-shown
returns-clause-shown c = λ old d same shows.
    let m = words_of c.args.fram.now.words in
    let scalars = c.args.symbols.now.scalars in
    subst (λ (sets : List Shown). ShowsSame (fold changed d sets) (display_of scalars m)) (sym (returns-clause-sets c old same))
    (sets_between-lead scalars old m d c.requires.placed shows)
