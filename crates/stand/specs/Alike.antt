-- What the accounts of a list have in common, for row 23 ("Several trees, one reading"): year,
-- period, hour count, phase, ceiling, hour kind and soil measure.
use Rattle.std.specs.Prelude.{ℕ, Bool, false, not, ◌||◌, List, [], ◌∷◌, Option, Some, None}
use Rattle.trees.specs.declared.Figures.{Figures}
use Rattle.trees.specs.declared.Measure.{Measure}
use Rattle.trees.specs.Parameters.{no_parameters}
use Rattle.trees.specs.MeasuredFigures.{figures_in}
use Rattle.frames.specs.Numbers.{same_numbers}
use Rattle.account_spec.specs.declared.Account.{Account}
use Rattle.account_spec.specs.HourKinds.{kind_number}
use Rattle.account_spec.specs.Account.{phase_number}

-- tree 7 has suction, whatever its parameters; a fresh account has no tree, and is of one measure
-- with every other fresh one
abbrev by_measure : Measure → ℕ
by_measure Measure.Suction = 1
by_measure Measure.Water = 2

abbrev pub measure_number : Option Figures → ℕ
measure_number (Some f) = by_measure f.measure
measure_number None = 0

abbrev pub common_numbers : Account → List ℕ
common_numbers a =
    let h = a.season.header in
    h.days ∷ h.first ∷ h.last ∷ a.sums.hours ∷ phase_number a.phase ∷ a.season.ceiling
    ∷ kind_number a.kind ∷ measure_number (figures_in no_parameters h.tree) ∷ []

unfoldable pub is_alike : Account → Account → Bool
is_alike a b = same_numbers (common_numbers a) (common_numbers b)

-- some account is unlike this one
unfoldable pub any_unlike : Account → List Account → Bool
any_unlike a [] = false
any_unlike a (b ∷ ys) = not (is_alike a b) || any_unlike a ys

-- row 23: some account is unlike the first. `ListPromise.alike` says that any two are then
-- compared.
abbrev pub unlike : List Account → Bool
unlike [] = false
unlike (a ∷ xs) = any_unlike a xs
