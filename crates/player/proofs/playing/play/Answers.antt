-- A playing begins where the call does, and what it keeps is kept in the book.
use Rattle.std.proofs.Common.{◌≡◌, ◌<◌, ◌^◌, ◌∙◌, inl, refl, sym, ap, subst, arith, List}
use Rattle.std.proofs.lemmas.Result.{err_from_is_err_and}
use Rattle.std.specs.Prelude.{MatchResult}
use Rattle.base16.specs.declared.image.Scalar.{Scalar}
use Rattle.display.specs.Index.{IsIndexOf}
use Rattle.world.specs.declared.history.Record.{Record}
use Rattle.player.specs.Form.{IsOver, IsWhole, cycles_in}
use Rattle.player.specs.Playing.{Origin, origin, now, IsRunning, IsBehind, Plays}
use Rattle.player.specs.Turning.{RestsBetween}
use Rattle.player.proofs.Cycles.{begins, whole-between}
use Rattle.player.proofs.playing.play.Goals as goal

pub cycles-ended-requires : goal.cycles-ended-requires
cycles-ended-requires g c =
    let w = g.W.World.state c.args.world.now in
    let items = c.into_vec-records.result.items in
    let o : Origin = origin c.args.fram.now w items c.args.symbols.now.scalars in
    let same : items ≡ c.args.book.now.records = c.into_vec-records.ensures ∙ c.replace.ensures.value in
    let few : cycles_in items < 2 ^ 31 = subst (λ x. cycles_in x < 2 ^ 31) (sym same) c.requires.begun in
    let rests : RestsBetween o 0 (now items c.args.fram.now w) = begins o c.requires.well_formed c.requires.playable.shut in
    let index : IsIndexOf c.args.symbols.now.scalars c.in_ok-index.index =
    subst (λ (x : List Scalar). IsIndexOf x c.in_ok-index.index) c.as_slice.ensures c.in_ok-index.ensures in
    λ κs h. (
      h,
      (
        rests,
        (
          inl refl,
          (
            c.cycles_begun-begun.ensures ∙ ap cycles_in c.as_slice-2.ensures.value,
            (
              omega (arith, few, c.spent-lawful.ensures.lawful.cycles),
              (c.requires.playable, (refl, (c.requires.placed, index))),
            ),
          ),
        ),
      ),
    )

pub returns-in_err-index-clause-plays : goal.returns-in_err-index-clause-plays
returns-in_err-index-clause-plays g c =
    let w = g.W.World.state c.args.world.now in
    let book = c.args.book.now.records in
    let o : Origin = origin c.args.fram.now w book c.args.symbols.now.scalars in
    let p = err_from_is_err_and c.from_residual.result c.from_residual.ensures.1 in
    let whole : Plays o IsWhole IsRunning (now book c.args.fram.now w) =
    whole-between o 0 book book c.args.fram.now w (begins o c.requires.well_formed c.requires.playable.shut) refl in
    rw p.1 whole

pub returns-clause-plays : goal.returns-clause-plays
returns-clause-plays g c =
    let w = g.W.World.state c.args.world.now in
    let w2 = g.W.World.state c.cycles-ended.new.world in
    let scalars = c.args.symbols.now.scalars in
    let same : c.into_vec-records.result.items ≡ c.args.book.now.records = c.into_vec-records.ensures ∙ c.replace.ensures.value in
    subst (λ (r : List Record). MatchResult c.cycles-ended.result
    (λ kind. Plays (origin c.args.fram.now w c.args.book.now.records scalars) (IsOver kind) (IsBehind kind)
    (now r c.cycles-ended.new.fram w2))
    (λ e. Plays (origin c.args.fram.now w c.args.book.now.records scalars) IsWhole IsRunning (now r c.cycles-ended.new.fram w2)))
    (sym c.from_vec.ensures)
    (subst (λ (r : List Record). MatchResult c.cycles-ended.result
    (λ kind. Plays (origin c.args.fram.now w r scalars) (IsOver kind) (IsBehind kind)
    (now c.cycles-ended.new.records.items c.cycles-ended.new.fram w2))
    (λ e. Plays (origin c.args.fram.now w r scalars) IsWhole IsRunning
    (now c.cycles-ended.new.records.items c.cycles-ended.new.fram w2))) same c.cycles-ended.ensures.plays)
