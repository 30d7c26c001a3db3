-- The header of a place ("Dates from a place"): rows 5, 6, 14, 7, 8 in that order, or the header
-- with the model's days.
use Rattle.std.specs.Prelude.{ℕ, Bool, not, ◌||◌, List, [], ◌∷◌, nat_lt}
use Rattle.trees.specs.Figures.{ramp_days}
use Rattle.trees.specs.Parameters.{no_parameters}
use Rattle.trees.specs.MeasuredFigures.{figures_in}
use Rattle.frames.specs.declared.records.Header.{Header}
use Rattle.frames.specs.Answers.{Outcome, accepted, row}
use Rattle.frames.specs.Numbers.{is_outside}
use Rattle.frames.specs.Ranges.{on_tree, period_out}
use Rattle.frames.specs.Kinds.{among}
use Rattle.dates.specs.Model.{first_day, last_day}

-- boreal spruce, birch, beech, oak
abbrev pub with_model : List ℕ
with_model = 1 ∷ 2 ∷ 4 ∷ 5 ∷ []

abbrev pub has_model : ℕ → Bool
has_model tree = among with_model tree

-- latitude in tenths of a degree, height in metres
abbrev pub least_latitude : ℕ
least_latitude = 350

abbrev pub most_latitude : ℕ
most_latitude = 720

abbrev pub most_height : ℕ
most_height = 3000

-- row 14: latitude or height outside its range, or a tree without the model
unfoldable pub place_out : ℕ → ℕ → ℕ → Bool
place_out tree latitude height =
    is_outside least_latitude most_latitude latitude || nat_lt most_height height
    || not (has_model tree)

unfoldable pub made_header : ℕ → ℕ → ℕ → ℕ → ℕ → Header
made_header tree' days' level' latitude height = record {
  tree = tree';
  days = days';
  first = first_day latitude height;
  last = last_day latitude height;
  level = level';
}

unfoldable pub placed_of : ℕ → ℕ → ℕ → ℕ → ℕ → Outcome Header
placed_of tree days level latitude height =
    on_tree (figures_in no_parameters tree) (λ f.
    row 6 (is_outside 365 366 days)
    (row 14 (place_out tree latitude height)
    (row 7 (period_out (made_header tree days level latitude height) (ramp_days f))
    (row 8 (is_outside 1 10000 level)
    (accepted (made_header tree days level latitude height))))))
