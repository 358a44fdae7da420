-- The last reading is what was given beyond those before it.
use Rattle.std.proofs.Common.{◌≡◌, ℕ, ◌+◌, ◌≤◌, ◌∙◌, ap, sym, List, [], ◌∷◌, ◌++◌, length, drop, Some}
use Rattle.std.proofs.lemmas.List.{drop_more, drop_all}
use Rattle.std.proofs.lemmas.Option.{slice_get_within, get_or_from_slice_get}
use Rattle.std.specs.Prelude.{slice_get}
use Rattle.player.specs.Turning.{read_records}
use Rattle.player.proofs.recording.record_reading.Goals as goal

drop_last : {X : Type 0} (xs : List X) (k : ℕ) (x : X) → length xs ≤ k + 1 → slice_get xs k ≡ Some x → drop k xs ≡ x ∷ []
drop_last xs k x h e =
    drop_more xs k x (slice_get_within xs k x e) ∙ ap (λ y. y ∷ drop (k + 1) xs) (get_or_from_slice_get xs k x x e)
    ∙ ap (λ l. x ∷ l) (drop_all (k + 1) xs h)

pub returns-then-given-before-clause-records : goal.returns-then-given-before-clause-records
returns-then-given-before-clause-records g c =
    c.push_within.ensures.items ∙ ap (λ l. c.args.records.now.items ++ read_records l)
    (sym (drop_last (g.W.World.state c.args.world.now).readings c.args.before c.reading-reading.result c.requires.given
    c.reading-reading.ensures.value))
