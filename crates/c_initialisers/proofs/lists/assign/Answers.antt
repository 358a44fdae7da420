use Rattle.std.proofs.Common.{◌≡◌, is_some, arith}
use Rattle.c_initialisers.proofs.Filling.{assigned_none, assigned_one}
use Rattle.c_initialisers.proofs.lists.assign.Goals as goal

pub returns-then-at : goal.returns-then-at
returns-then-at c =
    assigned_none c.args.object.now c.args.at c.args.source.now c.in_ok-value.value c.in_ok-value.ensures c.args.into.now
    c.unfit.result (omega arith) c.unfit.ensures

pub returns : goal.returns
returns c =
    let structs : c.as_slice-structs.result.now ≡ c.args.object.now.env.now.structs = c.as_slice-structs.ensures in
    let fits : c.is_some-fits.result ≡ is_some c.in_ok-value-2.value = c.is_some-fits.ensures in
    assigned_one c.args.object.now c.args.at c.args.source.now c.in_ok-value.value c.in_ok-value.ensures c.args.into.now
    c.push.new.self c.in_ok-value-2.value c.put_in.result c.in_ok-ty.ty.now c.next.result (omega arith)
    (rw (← structs) c.in_ok-ty.ensures.within) (rw (← structs) c.in_ok-ty.ensures.answered.ty) c.in_ok-value-2.ensures
    c.put_in.ensures c.in_ok-push.ensures.ok (rw (← fits) c.next.ensures)
