-- Parts that are added behind others.
use Rattle.std.specs.Prelude.{◌≡◌, List, ◌++◌}
use Rattle.select430.specs.declared.part.Part.{Part}

-- these parts were added
pub record Adds (before after more : List Part) : Type 0 where
  pub is : after ≡ before ++ more
