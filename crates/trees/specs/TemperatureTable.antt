-- A part of a tree's temperature table ("Factors"): for the reading `from` and each of those after
-- it, the greatest whole t with t/10⁹ not above a·w^(p/q).
use Rattle.std.specs.Prelude.{ℕ, ◌+◌, ◌*◌, ◌^◌, ◌≤◌, ◌<◌, List, length, slice_index}
use Rattle.trees.specs.declared.Figures.{Figures}
use Rattle.trees.specs.Temperature.{IsGreatest, root_at, highest_reading}

pub record IsTemperatureTable (f : Figures) (from : ℕ) (table : List ℕ) : Type 0 where
  pub entries : (i : ℕ) → i < length table → IsGreatest 9 f (from + i) (slice_index table i)

-- The table holds the readings from `first` to `last` ("Trimmed temperature tables"): it begins and
-- ends with a t/10⁹ that is not under f_min, and at every other tenth strictly between Tmin and
-- Tmax, up to 60.0 °C, t/10⁹ is under f_min.
pub record IsTrimmed (f : Figures) (first last : ℕ) : Type 0 where
  pub begins : f.f_min * 10 ^ 7 ≤ root_at 9 f first
  pub ends : f.f_min * 10 ^ 7 ≤ root_at 9 f last
  pub colder : (x : ℕ) → 10 * f.t_min < x → x < first → root_at 9 f x < f.f_min * 10 ^ 7
  pub warmer :
      (x : ℕ) → last < x → x < 10 * f.t_max → x ≤ highest_reading →
      root_at 9 f x < f.f_min * 10 ^ 7
