-- What an hour adds to POD1, as two whole numbers; rows 17, 24, 25, 5, 7, 18 and 10, in that order,
-- for a ceiling out of range, tree 7's parameters or warmth that are out, a number that is no tree,
-- days that are no period, a missing ozone with no ceiling and readings out of range.
use Rattle.std.specs.Prelude.{ℕ, ◌+◌, Bool, true, false, ◌&&◌, ◌||◌, ◌==◌, if◌then◌else◌}
use Rattle.exact.specs.declared.Bounds.{Bounds}
use Rattle.trees.specs.declared.Measure.{Measure}
use Rattle.trees.specs.declared.Figures.{Figures}
use Rattle.trees.specs.declared.measured.Parameters.{Parameters}
use Rattle.trees.specs.MeasuredFigures.{figures_in}
use Rattle.trees.specs.Warmth.{no_warmth}
use Rattle.frames.specs.declared.records.Soil.{Soil}
use Rattle.frames.specs.declared.records.Hour.{Hour}
use Rattle.frames.specs.Answers.{Outcome, accepted, row, onward}
use Rattle.frames.specs.Parameters.{parameter_out}
use Rattle.frames.specs.Ranges.{on_tree, period_out, soil_out, hour_checked, ceiling_out}
use Rattle.frames.specs.Ranges.{warmth_broken, lacks_ceiling}
use Rattle.dose_spec.specs.declared.Age.{Age}
use Rattle.dose_spec.specs.declared.Stand.{Stand}
use Rattle.dose_spec.specs.Dose.{is_counted}
use Rattle.dose_spec.specs.Pair.{hour_pair}

-- the figures of the tree with a number, those of tree 7 by its parameters
unfoldable pub tree_of : Parameters → ℕ → Outcome Figures
tree_of ps tree =
    row 24 (tree == 7 && parameter_out ps) (on_tree (figures_in ps tree) (λ f. accepted f))

-- leaf age by warmth is tree 7's: of any other tree what is given is not looked at, and its leaves
-- age by the day
abbrev pub age_by : ℕ → Age → Age
age_by tree age = record { warmth = if tree == 7 then age.warmth else no_warmth; sum = age.sum }

-- the tree's figures, leaf age by warmth, the first and the last day of the period, the ozone
-- ceiling
abbrev pub stand_of : Figures → Age → ℕ → ℕ → ℕ → Stand
stand_of f age first last ceiling = record {
  figures = f;
  age = age;
  first = first;
  last = last;
  ceiling = ceiling;
}

-- row 7 where the year is not known: no year has more than 366 days
abbrev pub days_out : Figures → ℕ → ℕ → Bool
days_out f first last =
    period_out (record { tree = 0; days = 366; first = first; last = last; level = 0 })
    (f.f1 + f.f4)

-- the soil is not in the tree's measure
abbrev pub other_measure : Measure → Soil → Bool
other_measure Measure.Suction (Soil.Suction n) = false
other_measure Measure.Suction (Soil.Water n) = true
other_measure Measure.Water (Soil.Suction n) = true
other_measure Measure.Water (Soil.Water n) = false

-- out of range, or not in the tree's measure
abbrev pub soil_unfit : Measure → Soil → Bool
soil_unfit measure soil = soil_out soil || other_measure measure soil

-- what the dose goes by besides the hour, by the tree's figures; row 10 names the first field out
-- of range, and so is a soil in the other measure
unfoldable pub stand_by : Figures → Age → ℕ → ℕ → ℕ → Hour → Outcome Stand
stand_by f age first last ceiling h =
    row 7 (days_out f first last)
    (row 18 (lacks_ceiling ceiling h.ozone)
    (onward (hour_checked (soil_unfit f.measure h.soil) h) (λ _.
    accepted (stand_of f age first last ceiling))))

-- by the tree's number and its parameters, with its own leaf age
unfoldable pub stand_for : Parameters → ℕ → Age → ℕ → ℕ → ℕ → Hour → Outcome Stand
stand_for ps tree age first last ceiling h =
    row 17 (ceiling_out ceiling)
    (row 24 (tree == 7 && parameter_out ps)
    (row 25 (warmth_broken age.warmth)
    (on_tree (figures_in ps tree) (λ f. stand_by f age first last ceiling h))))

-- an hour that is not counted adds nothing
abbrev pub added_pair : Stand → Hour → Bounds
added_pair stand h = if is_counted h then hour_pair stand h else record { lower = 0; upper = 0 }

unfoldable pub hour_dose_of : Parameters → ℕ → Age → ℕ → ℕ → ℕ → Hour → Outcome Bounds
hour_dose_of ps tree age first last ceiling h =
    onward (stand_for ps tree (age_by tree age) first last ceiling h)
    (λ s. accepted (added_pair s h))
