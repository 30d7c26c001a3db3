-- Serves the code's own steps; no reader need believe it.
use Rattle.std.specs.Prelude.{◌≡◌, List, ℕ, ◌*◌, ◌<◌, slice_index}
use Rattle.dose_spec.specs.Light.{decay_entry}

-- a table of exp(-n/10000) for a place of base 100: entry d is that of n = place·d, and 0 stands
-- for what is past its end
pub record IsDecayTable (place : ℕ) (table : List ℕ) : Type 0 where
  pub entries : (d : ℕ) → d < 100 → slice_index table d ≡ decay_entry (place * d)
