-- Serves the code's own steps; no reader need believe it.
-- What an hour is dosed by, and its pair; sound figures are a fact with one proof at most, as a
-- ghost field's fact must be.
use Rattle.std.specs.Prelude.{ℕ, ◌≤◌, Option, Some, None, if◌then◌else◌}
use Rattle.std.specs.Coded.{×_prop, le_prop}
use Rattle.std.proofs.Props.{props}
use Rattle.trees.specs.declared.Measure.{Measure}
use Rattle.trees.specs.declared.Measure.TheVariants.{Suction, Water}
use Rattle.exact.specs.declared.Bounds.{Bounds}
use Rattle.trees.specs.declared.Figures.{Figures}
use Rattle.trees.specs.Sound.{SoilSound, Sound}
use Rattle.frames.specs.declared.records.Hour.{Hour}
use Rattle.dose_spec.specs.declared.Stand.{Stand}
use Rattle.dose_spec.specs.Dose.{is_counted}
use Rattle.dose_spec.specs.Pair.{hour_pair}

SoilSound-prop : (m : Measure) (wet dry : ℕ) → IsProp (SoilSound m wet dry)
SoilSound-prop Suction wet dry = ×_prop le_prop le_prop
SoilSound-prop Water wet dry = ×_prop le_prop le_prop

pub Sound-prop : (f : Figures) → IsProp (Sound f)
Sound-prop f = hlevel (props, SoilSound-prop)

-- the pair of a counted hour; of any other there is none
abbrev pub counted_pair : Stand → Hour → Option Bounds
counted_pair stand h = if is_counted h then Some (hour_pair stand h) else None

-- a pair whose numbers can be added to sums
abbrev pub Small : Option Bounds → Type 0
Small (Some pair) = (pair.lower ≤ 10000000) × (pair.upper ≤ 10000000)
Small None = Unit
