-- Serves the code's own steps; no reader need believe it.
-- What reading an entry of a table asks for, and the pair that it gives: the larger of f_min and
-- the entry, and of f_min and the next number, in units of 10⁻⁹.
use Rattle.std.specs.Prelude.{ℕ, ◌+◌, ◌-◌, ◌*◌, ◌<◌, ◌≤◌, max, ◌≡◌, List, length, slice_index}
use Rattle.exact.specs.declared.Bounds.{Bounds}
use Rattle.trees.specs.declared.Figures.{Figures}
use Rattle.trees.specs.Temperature.{temperature_pair}
use Rattle.trees.specs.TemperatureTable.{IsTrimmed}

-- the table begins at the reading `from`; neither its first entry nor its last is under f_min
pub record Readable (f_min : ℕ) (table : List ℕ) (from x : ℕ) : Type 0 where
  pub percent : f_min ≤ 100
  pub begins : f_min * 10000000 ≤ slice_index table 0
  pub ends : f_min * 10000000 ≤ slice_index table (length table - 1)
  pub first : from ≤ x
  pub last : x < from + length table
  pub small : slice_index table (x - from) ≤ 1000000000

pub record ReadAs (f_min : ℕ) (table : List ℕ) (from x : ℕ) (r : Bounds) : Type 0 where
  pub asked : Readable f_min table from x
  pub lower : r.lower ≡ max (f_min * 10000000) (slice_index table (x - from))
  pub upper : r.upper ≡ max (f_min * 10000000) (slice_index table (x - from) + 1)

-- a tree's whole table, from the reading `first` on
pub record IsTable (f : Figures) (first : ℕ) (table : List ℕ) : Type 0 where
  pub percent : f.f_min ≤ 100
  pub filled : 0 < length table
  pub trimmed : IsTrimmed f first (first + length table - 1)
  pub readable : (x : ℕ) → first ≤ x → x < first + length table → Readable f.f_min table first x
  pub pairs : {x : ℕ} {r : Bounds} → ReadAs f.f_min table first x r → r ≡ temperature_pair f x
