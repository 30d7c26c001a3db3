-- Serves the code's own steps; no reader need believe it.
-- The rows of an hour's dose in two: those of a run of hours, and those of the hour itself.
use Rattle.std.specs.Prelude.{ℕ, ◌&&◌, Result, Ok, Err, ◌==◌}
use Rattle.exact.specs.declared.Bounds.{Bounds}
use Rattle.trees.specs.declared.measured.Parameters.{Parameters}
use Rattle.trees.specs.MeasuredFigures.{figures_in}
use Rattle.frames.specs.declared.records.Hour.{Hour}
use Rattle.frames.specs.declared.records.Refusal.{Refusal}
use Rattle.frames.specs.Answers.{Outcome, accepted, refused, row, onward, row_of}
use Rattle.frames.specs.Parameters.{parameter_out}
use Rattle.frames.specs.Ranges.{on_tree, hour_checked, ceiling_out, warmth_broken, lacks_ceiling}
use Rattle.dose_spec.specs.declared.Age.{Age}
use Rattle.dose_spec.specs.declared.Stand.{Stand}
use Rattle.dose_spec.specs.HourDose.{age_by, stand_of, days_out, soil_unfit, added_pair}
use Rattle.dose.specs.declared.given.Dosing.{Dosing}

-- rows 17, 24, 25, 5 and 7
abbrev pub run_of : Parameters → ℕ → Age → ℕ → ℕ → ℕ → Outcome Stand
run_of ps tree age first last ceiling =
    row 17 (ceiling_out ceiling)
    (row 24 (tree == 7 && parameter_out ps)
    (row 25 (warmth_broken (age_by tree age).warmth)
    (on_tree (figures_in ps tree) (λ f.
    row 7 (days_out f first last)
    (accepted (stand_of f (age_by tree age) first last ceiling))))))

abbrev pub dosing_as : Result Dosing Refusal → Outcome Stand
dosing_as (Ok d) = accepted d.stand
dosing_as (Err r) = refused (row_of r)

-- rows 18 and 10, then what the hour adds
abbrev pub hour_by : Stand → Hour → Outcome Bounds
hour_by stand h =
    row 18 (lacks_ceiling stand.ceiling h.ozone)
    (onward (hour_checked (soil_unfit stand.figures.measure h.soil) h) (λ _.
    accepted (added_pair stand h)))
