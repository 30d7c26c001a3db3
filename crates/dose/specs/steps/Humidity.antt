-- Serves the code's own steps; no reader need believe it.
-- The entry that reading an array gives.
use Rattle.std.specs.Prelude.{ℕ, ◌<◌, ◌≡◌, List, length, slice_index}

pub record EntryRead (table : List ℕ) (x r : ℕ) : Type 0 where
  pub within : x < length table
  pub entry : r ≡ slice_index table x
