-- Two deficits that enclose VPD, out of a table of saturation pressures.
use Rattle.std.specs.Prelude.{ℕ, ◌+◌, ◌-◌, ◌*◌, ◌^◌}
use Rattle.exact.specs.Rounding.{times_down}
use Rattle.trees.specs.declared.Deficits.{Deficits}
use Rattle.dose_spec.specs.Vapour.{saturation_at}

-- the k at which an entry is worked out: what it falls by from there on shows in no entry
unfoldable pub entry_k : ℕ
entry_k = 10 ^ 14

-- the units of the table in 1 kPa
abbrev pub units_per_kpa : ℕ
units_per_kpa = 2 * 10 ^ 8

-- the table's entry: the saturation pressure in units of 5·10⁻⁹ kPa, rounded down
unfoldable pub entry_of : ℕ → ℕ
entry_of x = times_down units_per_kpa (saturation_at entry_k x)

-- (1 - h) times an entry and times the next number: 1000 tenths of a percent, and 1000 Pa a kPa
abbrev pub deficits_by : ℕ → ℕ → Deficits
deficits_by h s = record {
  lower = (1000 - h) * s;
  upper = (1000 - h) * (s + 1);
  den = units_per_kpa;
}

-- by the entry at x
abbrev pub deficit_pair : ℕ → ℕ → Deficits
deficit_pair h x = deficits_by h (entry_of x)
