use Rattle.std.proofs.Common.{◌≡◌, ◌∙◌, ap, sym, arith}
use Rattle.core_tree.specs.declared.types.Struct.{Struct}
use Rattle.c_initialisers.proofs.Counting.{member_found}
use Rattle.c_initialisers.proofs.scalars.in_member.Goals as goal

pub returns : goal.returns
returns c =
    let members : c.as_slice-members.result.now ≡ c.index-structs-tag.result.members =
    c.as_slice-members.ensures ∙ ap (λ (s : Struct). s.members) (sym c.index-structs-tag.is) in
    let starts : c.as_slice-starts.result.now ≡ c.in-Some.starts = c.as_slice-starts.ensures in
    rw (← c.index-members-at.is)
    (member_found c.args.structs.now c.args.known.now c.args._bound c.args.tag c.in-Some-member_at.at c.index-structs-tag.result
    c.index-members-at.result c.in-Some.starts c.index-known-tag.result c.args.spot c.within.result c.requires.counted (omega arith)
    (omega arith) c.requires.low c.index-known-tag.is c.in-Some.is c.index-structs-tag.is
    (rw (← members) c.if-at-members.false) (rw (← members) c.index-members-at.is)
    (rw (← starts) c.in-Some-member_at.ensures) (rw (← starts) c.within.ensures)
    c.requires.in_it)
