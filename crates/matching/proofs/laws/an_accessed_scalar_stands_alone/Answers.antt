use Rattle.c_run.specs.Actions.{kept}
use Rattle.matching.proofs.Finding.{stands_alone}
use Rattle.matching.proofs.laws.an_accessed_scalar_stands_alone.Goals as goal

pub returns : goal.returns
returns c core next s n offset k v made =
    stands_alone core s n offset k v (c.objects_share_no_byte.ensures core next (kept s) made)
