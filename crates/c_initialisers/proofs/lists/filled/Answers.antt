use Rattle.c_checking.specs.Initialisers.{item, leaves}
use Rattle.c_initialisers.specs.Lists.{may_of}
use Rattle.c_initialisers.proofs.Filling.{is_object, total_is, whole_is}
use Rattle.c_initialisers.proofs.lists.filled.Goals as goal

pub item-requires : goal.item-requires
item-requires c =
    is_object _ c.as_slice-structs.result.now c.as_slice.result.now c.as_slice-structs.ensures c.as_slice.ensures
    c.in_ok-known.ensures.0 c.in_ok-known.ensures.1 c.in-Some.ensures

pub returns : goal.returns
returns c =
    whole_is (leaves c.args.env.now.structs c.args.ty.now)
    (item c.args.env.now (may_of c.args.env.now.structs c.args.constant) c.args.initial.now)
    c.in-Some.total c.in_ok-item.field-0 c.new-into.result c.item.new.into
    (total_is c.args.env.now.structs c.as_slice-structs.result.now c.in_ok-known.known c.as_slice.result.now c.args.ty.now
    c.in-Some.total c.as_slice-structs.ensures c.as_slice.ensures c.in_ok-known.ensures.1 c.in-Some.ensures)
    c.new-into.ensures c.in_ok-item.ensures
