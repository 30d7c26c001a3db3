-- What the hour's pair is worth ("The exact dose"), for any sound figures and any hour that row 10
-- lets pass.
use Rattle.std.specs.Prelude.{ℕ, ◌+◌, ◌-◌, ◌*◌, ◌≤◌, ◌≡◌, true, false, Some, nat_lt, if◌then◌else◌}
use Rattle.exact.specs.declared.Bounds.{Bounds}
use Rattle.exact.specs.Frac.{◌over◌, ◌≼◌}
use Rattle.trees.specs.declared.Figures.{Figures}
use Rattle.trees.specs.Figures.{figures_of}
use Rattle.trees.specs.Sound.{Sound}
use Rattle.trees.specs.declared.measured.Parameters.{Parameters}
use Rattle.trees.specs.MeasuredFigures.{measured_figures}
use Rattle.frames.specs.Parameters.{parameter_out}
use Rattle.frames.specs.declared.records.Air.{Air}
use Rattle.frames.specs.declared.records.Air.TheVariants.{Deficit, Pressure, Humidity}
use Rattle.frames.specs.declared.records.Hour.{Hour}
use Rattle.frames.specs.declared.records.Record.{Record}
use Rattle.frames.specs.Answers.{accepted}
use Rattle.frames.specs.Ozone.{is_missing, with_ozone, Fills}
use Rattle.frames.specs.Ranges.{checked}
use Rattle.dose_spec.specs.declared.Age.{Age}
use Rattle.dose_spec.specs.declared.Stand.{Stand}
use Rattle.dose_spec.specs.Dose.{flux_at, dose_at, NotAbove, NotBelow}
use Rattle.dose_spec.specs.Pair.{lower_of, upper_of, hour_pair}
use Rattle.dose_spec.specs.HourDose.{stand_of, age_by, added_pair, hour_dose_of, tree_of}

-- nmol m⁻² in an hour at most, by its kind: 530000 for the six trees, 795000 where the pressure is
-- read
abbrev pub most_dose : ℕ → Air → ℕ
most_dose g_max (Deficit vpd) = 2000 * g_max
most_dose g_max (Pressure vpd p) = 3000 * g_max
most_dose g_max (Humidity rh) = 2000 * g_max

-- nmol m⁻² between an hour's two numbers at most, whatever its kind: out of humidity VPD is known
-- to 5·10⁻⁶ Pa, which shows in the dose where f_VPD falls from 1 to f_min within less than 13 Pa
abbrev pub gap_most : Figures → ℕ
gap_most f = if nat_lt (f.vpd_min - f.vpd_max) 13 then 6 else 2

-- by its kind
abbrev pub gap_dose : Figures → Air → ℕ
gap_dose f (Deficit vpd) = 2
gap_dose f (Pressure vpd p) = 2
gap_dose f (Humidity rh) = gap_most f

pub record HourEnclosed (stand : Stand) (h : Hour) : Type 0 where
  pub low : NotAbove (lower_of stand h) (λ k. dose_at k stand h)
  pub high : NotBelow (upper_of stand h) (λ k. dose_at k stand h)
  pub order : lower_of stand h ≤ upper_of stand h
  pub gap : upper_of stand h ≤ lower_of stand h + gap_dose stand.figures h.air
  pub most : upper_of stand h ≤ most_dose stand.figures.g_max h.air
  pub grows : (k l : ℕ) → k ≤ l → dose_at k stand h ≼ dose_at l stand h
  -- (0, 0) where F is surely not above Y; where Y is 0 the upper number is never 0
  pub none :
      1 ≤ stand.figures.y →
      ((k : ℕ) → flux_at k stand h ≼
      (3600 * stand.figures.y - gap_dose stand.figures h.air) over 3600) →
      (lower_of stand h ≡ 0) × (upper_of stand h ≡ 0)

-- with a higher reading of ozone nothing falls
pub record OzoneGrows (stand : Stand) (h : Hour) : Type 0 where
  pub lower : (m n : ℕ) → m ≤ n → lower_of stand (with_ozone m h) ≤ lower_of stand (with_ozone n h)
  pub upper : (m n : ℕ) → m ≤ n → upper_of stand (with_ozone m h) ≤ upper_of stand (with_ozone n h)
  pub dose :
      (m n : ℕ) → m ≤ n → (k : ℕ) →
      dose_at k stand (with_ozone m h) ≼ dose_at k stand (with_ozone n h)

-- the hour's pair encloses the dose of every filling ("Hours without ozone"); where ozone is read
-- it is that of the hour itself, where it is missing the lower number is 0
pub record PairEnclosed (stand : Stand) (h : Hour) : Type 0 where
  pub low :
      (f : Hour) → Fills stand.ceiling h f →
      NotAbove (hour_pair stand h).lower (λ k. dose_at k stand f)
  pub high :
      (f : Hour) → Fills stand.ceiling h f →
      NotBelow (hour_pair stand h).upper (λ k. dose_at k stand f)
  pub order : (hour_pair stand h).lower ≤ (hour_pair stand h).upper
  pub gap :
      is_missing h.ozone ≡ false →
      (hour_pair stand h).upper ≤ (hour_pair stand h).lower + gap_dose stand.figures h.air
  pub most : (hour_pair stand h).upper ≤ most_dose stand.figures.g_max h.air
  pub grows :
      (f : Hour) → Fills stand.ceiling h f → (k l : ℕ) → k ≤ l →
      dose_at k stand f ≼ dose_at l stand f
  pub read :
      is_missing h.ozone ≡ false →
      hour_pair stand h ≡ record { lower = lower_of stand h; upper = upper_of stand h }
  pub none : is_missing h.ozone ≡ true → (hour_pair stand h).lower ≡ 0

-- the six trees: sound, and within their limits; an hour's two numbers are at most 2 apart in every
-- kind
pub record Limited (f : Figures) : Type 0 where
  pub sound : Sound f
  pub g_max : f.g_max ≤ 265
  pub y : f.y ≡ 1
  pub gap : gap_most f ≡ 2

-- a measured tree ("A laboratory's own tree"): sound; an hour's two numbers are at most 6 apart in
-- every kind, and at most 1500000
pub record MeasuredLimited (f : Figures) : Type 0 where
  pub sound : Sound f
  pub gap : gap_most f ≤ 6
  pub most : (air : Air) → most_dose f.g_max air ≤ 1500000

-- what `hour_dose` answers with a pair: the hour's where it is counted, else 0 and 0
pub record Answered (ps : Parameters) (age : Age) (tree first last ceiling : ℕ) (h : Hour)
    (pair : Bounds) : Type 0 where
  pub figures : Figures
  pub named : tree_of ps tree ≡ accepted figures
  pub is : pair ≡ added_pair (stand_of figures (age_by tree age) first last ceiling) h
  pub enclosed : HourEnclosed (stand_of figures (age_by tree age) first last ceiling) h
  pub filled : PairEnclosed (stand_of figures (age_by tree age) first last ceiling) h

pub record Enclosure : Type 0 where
  pub trees : (tree : ℕ) (f : Figures) → figures_of tree ≡ Some f → Limited f
  pub measured :
      (ps : Parameters) → parameter_out ps ≡ false → MeasuredLimited (measured_figures ps)
  pub hour :
      (stand : Stand) → Sound stand.figures → (h : Hour) → checked (Record.Hour h) ≡ accepted tt →
      HourEnclosed stand h
  pub ozone : (stand : Stand) (h : Hour) → OzoneGrows stand h
  pub pair :
      (stand : Stand) → Sound stand.figures → stand.ceiling ≤ 5000 → (h : Hour) →
      checked (Record.Hour h) ≡ accepted tt → PairEnclosed stand h
  pub answer :
      (ps : Parameters) (age : Age) (tree first last ceiling : ℕ) (h : Hour) (pair : Bounds) →
      hour_dose_of ps tree age first last ceiling h ≡ accepted pair →
      Answered ps age tree first last ceiling h pair
