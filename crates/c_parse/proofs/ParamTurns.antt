-- A turn of the loop over the parameters of a function.
use Rattle.std.proofs.Common.{◌≡◌, ℕ, ◌+◌, ◌<◌, true, ◌&&◌, List, get_or, drop, refl, length, is_some, add-one, drop-cons}
use Rattle.std.proofs.Math.Seq.{drop-length}
use Rattle.c_tree.specs.declared.unit.Param.{Param}
use Rattle.c_parse.specs.Externals.{all_named}

pub named_turn : (ps : List Param) (at : ℕ) (p : Param) → at < length ps → p ≡ get_or ps at p
    → all_named (drop at ps) ≡ (is_some p.name && all_named (drop (at + 1) ps))
named_turn ps at p h is = rw (drop-cons ps at p h, ← is) (rw add-one refl)

pub named_end : (ps : List Param) (at : ℕ) → at ≡ length ps → all_named (drop at ps) ≡ true
named_end ps at h = rw (h, drop-length ps) refl
