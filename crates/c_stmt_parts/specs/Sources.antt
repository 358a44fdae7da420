-- What comes behind labels that are found already.
use Rattle.std.specs.Prelude.{ℤ, List, ◌++◌, Option, Ok, Err}
use Rattle.c_typing.specs.Outcome.{Outcome}

abbrev pub behind_labels : List (Option ℤ) → Outcome (List (Option ℤ)) → Outcome (List (Option ℤ))
behind_labels found (Err f) = Err f
behind_labels found (Ok labels) = Ok (found ++ labels)
