-- The objects of a state lie whole where the stamps begin in the data, since they are laid out as their types say.
use Rattle.std.proofs.Common.{ℕ, ◌≤◌}
use Rattle.base16.specs.Board.{data_end}
use Rattle.c_values.specs.declared.state.Saved.{Saved}
use Rattle.core_tree.specs.Data.{stamps_start}
use Rattle.matching.specs.Spacing.{ObjectsLieWhole}
use Rattle.steps430.specs.Setting.{Setting}
use Rattle.steps430.specs.Lying.{ObjectsLie}

pub objects_lie : (p : Setting) → ((next : ℕ) (s : Saved) → ObjectsLieWhole p.core next s) → stamps_start p.core ≤ data_end
    → ObjectsLie p
objects_lie p whole room = record {
  whole = λ next s made. (whole next s room made).0;
  spaced = λ next s made. (whole next s room made).1;
}
