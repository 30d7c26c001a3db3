-- `power::values::BorealSpruceTable::entries` meets its contract: the table passes three computed
-- tests.
use native.Mathlib.Omega.{arith}
use Rattle.trees.specs.Temperature.{tried, allowed}
use Rattle.trees.proofs.SoundLaws.{boreal_spruce-sound}
use Rattle.power.proofs.TableEntryLaws.{table_is}
use Rattle.power.proofs.values.BorealSpruceTable.entries.Goals as goal

pub returns : goal.returns
unfolding tried allowed
returns c = table_is boreal_spruce-sound (omega arith) tt tt tt
