-- What was cut from each tree's table is under f_min, and its two ends are not: one
-- computed test a tree. Made by tools/temperature_tables.py.
use Rattle.trees.specs.Figures.{boreal_spruce, birch, continental_spruce, beech, oak, evergreen}
use Rattle.trees.specs.Temperature.{tried, allowed}
use Rattle.trees.proofs.SoundLaws.{boreal_spruce-sound, birch-sound, continental_spruce-sound}
use Rattle.trees.proofs.SoundLaws.{beech-sound, oak-sound, evergreen-sound}
use Rattle.trees.proofs.TemperatureTrim.{trimmed-tested}
use Rattle.power.specs.Trimmed.{Trimmed}

pub trimmed : Trimmed
unfolding tried allowed
trimmed = record {
  boreal_spruce_table = trimmed-tested boreal_spruce 509 1100 boreal_spruce-sound tt;
  birch_table = trimmed-tested birch 556 1100 birch-sound tt;
  continental_spruce_table = trimmed-tested continental_spruce 511 813 continental_spruce-sound tt;
  beech_table = trimmed-tested beech 557 803 beech-sound tt;
  oak_table = trimmed-tested oak 517 848 oak-sound tt;
  evergreen_table = trimmed-tested evergreen 513 889 evergreen-sound tt;
}
