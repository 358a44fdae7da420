use Rattle.std.proofs.Common.{◌≡◌, ◌∙◌, ◌-◌, List, Option, true, length, take, drop, ap, sym, rules, arith}
use Rattle.std.proofs.lemmas.List.{take_rest}
use Rattle.c_initialisers.specs.declared.lists.Put.{Put}
use Rattle.c_initialisers.specs.Lists.{all_given, first_bad, may}
use Rattle.c_initialisers.proofs.Filling.{judged_bad, judged_ok}
use Rattle.c_initialisers.proofs.lists.judge.Goals as goal

pub returns-in-Some : goal.returns-in-Some
returns-in-Some c =
    let fits : c.args.at.fits ≡ true = search rules in
    let slice : c.as_slice.result.now ≡ c.args.into.now = c.as_slice.ensures in
    let told : c.in_ok-bad.field-0 ≡ first_bad (may c.args.object.now)
    (all_given (take (length c.as_slice.result.now - c.args.start) (drop c.args.start c.as_slice.result.now))) =
    c.in_ok-bad.ensures in
    rw c.broken-in-Some.ensures
    (judged_bad c.args.object.now c.args.line c.args.start c.args.at c.args.into.now c.in-Some.bad fits
    (sym c.in-Some.is ∙ (told
    ∙ (ap (λ (ps : List (Option Put)). first_bad (may c.args.object.now) (all_given ps))
    (take_rest c.as_slice.result.now c.args.start)
    ∙ ap (λ (ps : List (Option Put)). first_bad (may c.args.object.now) (all_given (drop c.args.start ps))) slice))))

pub returns-in_ok-put_zeros-in-None : goal.returns-in_ok-put_zeros-in-None
returns-in_ok-put_zeros-in-None c =
    let fits : c.args.at.fits ≡ true = search rules in
    let slice : c.as_slice.result.now ≡ c.args.into.now = c.as_slice.ensures in
    let told : c.in_ok-bad.field-0 ≡ first_bad (may c.args.object.now)
    (all_given (take (length c.as_slice.result.now - c.args.start) (drop c.args.start c.as_slice.result.now))) =
    c.in_ok-bad.ensures in
    let count : c.saturating_sub.result ≡ c.args.at.to - c.args.at.from = c.saturating_sub.ensures in
    judged_ok c.args.object.now c.args.line c.args.start c.args.at c.args.into.now c.put_zeros.new.into c.requires
    (omega arith) fits
    (sym c.in-None.is ∙ (told
    ∙ (ap (λ (ps : List (Option Put)). first_bad (may c.args.object.now) (all_given ps))
    (take_rest c.as_slice.result.now c.args.start)
    ∙ ap (λ (ps : List (Option Put)). first_bad (may c.args.object.now) (all_given (drop c.args.start ps))) slice)))
    (rw (← count) c.in_ok-put_zeros-in-None.ensures)
