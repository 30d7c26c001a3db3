-- What holds of every header made from a place ("Dates from a place").
use Rattle.std.specs.Prelude.{ℕ, ◌+◌, ◌≤◌, ◌≡◌, true, false, List, [], ◌∷◌, length, take, Some}
use Rattle.exact.specs.Frac.{natural, ◌⊕◌, ◌⊗◌, ◌≈◌}
use Rattle.trees.specs.declared.Figures.{Figures}
use Rattle.trees.specs.Figures.{beech, ramp_days}
use Rattle.trees.specs.Parameters.{no_parameters}
use Rattle.trees.specs.MeasuredFigures.{figures_in}
use Rattle.frames.specs.declared.records.Header.{Header}
use Rattle.frames.specs.declared.records.Record.{Record}
use Rattle.frames.specs.Answers.{accepted, refused}
use Rattle.frames.specs.Numbers.{is_outside}
use Rattle.frames.specs.Ranges.{period_out}
use Rattle.frames.specs.Kinds.{among}
use Rattle.frames.specs.Layout.{frame_line}
use Rattle.frames.specs.Frames.{read_frame_of}
use Rattle.frames.specs.Buffer.{buffer_after}
use Rattle.frames.specs.Writer.{write_of}
use Rattle.account_spec.specs.Account.{fresh_account}
use Rattle.account_spec.specs.Rules.{opened, feed_of}
use Rattle.exact.specs.Rounding.{IsCeiling, IsFloor}
use Rattle.dates.specs.Model.{north, south, climb, start_rate, end_rate, model_start, model_end}
use Rattle.dates.specs.Model.{first_day, last_day}
use Rattle.dates.specs.Rules.{least_latitude, most_latitude, most_height, place_out, made_header}
use Rattle.dates.specs.Rules.{placed_of}

-- inside row 14's ranges
pub record InPlace (latitude height : ℕ) : Type 0 where
  pub southmost : least_latitude ≤ latitude
  pub northmost : latitude ≤ most_latitude
  pub highest : height ≤ most_height

-- ---- the model

pub record ModelKept (latitude height : ℕ) : Type 0 where
  -- neither difference of the model is cut off at 0
  pub start :
      model_start latitude height ⊕ start_rate ⊗ south latitude
      ≈ natural 105 ⊕ start_rate ⊗ north latitude ⊕ climb height
  pub end :
      model_end latitude height ⊕ (end_rate ⊗ north latitude ⊕ climb height)
      ≈ natural 297 ⊕ end_rate ⊗ south latitude
  -- the extremes: no start before that at 35.0° and 0 m or after that at 72.0° and 3000 m, no end
  -- outside theirs; the shortest period is the latter's
  pub earliest_start : first_day 350 0 ≤ first_day latitude height
  pub latest_start : first_day latitude height ≤ first_day 720 3000
  pub earliest_end : last_day 720 3000 ≤ last_day latitude height
  pub latest_end : last_day latitude height ≤ last_day 350 0
  pub shortest : first_day latitude height + 55 ≤ last_day latitude height

-- ---- a header made

pub record HeaderKept (h : Header) : Type 0 where
  -- a fresh account takes its line and is then open with this header
  pub fed : feed_of fresh_account (frame_line (Record.Header h)) ≡ accepted (opened h)
  -- it is written in 20 bytes and read back as itself, whatever tree is given
  pub written :
      (buffer : List ℕ) → 20 ≤ length buffer →
      write_of (Record.Header h) (length buffer) ≡ accepted 20
  pub read_back : (buffer : List ℕ) (tree : ℕ) → 20 ≤ length buffer →
      read_frame_of tree
      (take 20 (buffer_after (accepted 20) (frame_line (Record.Header h)) buffer))
      ≡ accepted (Record.Header h)

pub record PlacePromise : Type 0 where
  -- the first day is the least not before the model's start, the last day the greatest not after
  -- its end
  pub first :
      (latitude height : ℕ) → IsCeiling (model_start latitude height) (first_day latitude height)
  pub last : (latitude height : ℕ) → IsFloor (model_end latitude height) (last_day latitude height)
  pub model : (latitude height : ℕ) → InPlace latitude height → ModelKept latitude height
  -- at 60.0° and 0 m
  pub sixty : (first_day 600 0 ≡ 120) × (last_day 600 0 ≡ 277)
  -- at 50.0° and 1 m each day is a hundredth off: the start goes up to the next day, the end down
  -- to the one before
  pub edges : (first_day 500 1 ≡ 106) × (last_day 500 1 ≡ 296)
  -- 35.0° and 0 m; 72.0° and 3000 m
  pub extremes :
      (first_day 350 0 ≡ 83) × (last_day 350 0 ≡ 327) × (first_day 720 3000 ≡ 168)
      × (last_day 720 3000 ≡ 223)
  -- the manual's 10 days for each 1000 m
  pub thousand : (latitude height : ℕ) → InPlace latitude (height + 1000) →
      (first_day latitude (height + 1000) ≡ first_day latitude height + 10)
      × (last_day latitude (height + 1000) + 10 ≡ last_day latitude height)
  -- row 14 before row 7
  pub out :
      (tree days level latitude height : ℕ) (f : Figures) → figures_in no_parameters tree ≡ Some f →
      is_outside 365 366 days ≡ false →
      place_out tree latitude height ≡ true →
      placed_of tree days level latitude height ≡ refused (14, 0)
  -- so at the pole and 3000 m, where the end would be before the start
  pub pole :
      (period_out (made_header 4 365 520 900 3000) (ramp_days beech) ≡ true)
      × (placed_of 4 365 520 900 3000 ≡ refused (14, 0))
  -- continental spruce, the evergreen and a measured tree are without the model
  pub without_model :
      (latitude height : ℕ) →
      (place_out 3 latitude height ≡ true) × (place_out 6 latitude height ≡ true)
      × (place_out 7 latitude height ≡ true)
  -- row 7 never comes up
  pub period :
      (tree days level latitude height : ℕ) (f : Figures) → figures_in no_parameters tree ≡ Some f →
      is_outside 365 366 days ≡ false →
      place_out tree latitude height ≡ false →
      period_out (made_header tree days level latitude height) (ramp_days f) ≡ false
  pub rows :
      (tree days level latitude height n f : ℕ) →
      placed_of tree days level latitude height ≡ refused (n, f) →
      (among (5 ∷ 6 ∷ 14 ∷ 8 ∷ []) n ≡ true) × (f ≡ 0)
  -- every place inside row 14's ranges gets a header, for a year and a level in range
  pub made :
      (tree days level latitude height : ℕ) → is_outside 365 366 days ≡ false →
      place_out tree latitude height ≡ false → is_outside 1 10000 level ≡ false →
      placed_of tree days level latitude height
      ≡ accepted (made_header tree days level latitude height)
  pub header :
      (tree days level latitude height : ℕ) (h : Header) →
      placed_of tree days level latitude height ≡ accepted h → HeaderKept h
