-- Where each tree's table begins and ends (docs/SPECIFICATION.md, "Trimmed temperature
-- tables"): its first and its last reading, in tenths of a degree above -50.0 °C.
-- Made by tools/temperature_tables.py.
use Rattle.trees.specs.Figures.{boreal_spruce, birch, continental_spruce, beech, oak, evergreen}
use Rattle.trees.specs.TemperatureTable.{IsTrimmed}

pub record Trimmed : Type 0 where
  pub boreal_spruce_table : IsTrimmed boreal_spruce 509 1100
  pub birch_table : IsTrimmed birch 556 1100
  pub continental_spruce_table : IsTrimmed continental_spruce 511 813
  pub beech_table : IsTrimmed beech 557 803
  pub oak_table : IsTrimmed oak 517 848
  pub evergreen_table : IsTrimmed evergreen 513 889
