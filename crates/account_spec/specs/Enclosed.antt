-- What the sums of hours are worth ("The exact dose", "Hours without ozone"): for any hours in a
-- row, two numbers that enclose the exact POD1, and two that enclose AOT40, of every filling.
use Rattle.std.specs.Prelude.{ℕ, ◌+◌, ◌-◌, ◌*◌, ◌≤◌, ◌≡◌, false, List, [], ◌∷◌, if◌then◌else◌}
use Rattle.exact.specs.Frac.{Frac, ◌≼◌}
use Rattle.frames.specs.declared.records.Hour.{Hour}
use Rattle.frames.specs.declared.records.Record.{Record}
use Rattle.frames.specs.Ozone.{is_missing, all_read_as, AllFill}
use Rattle.frames.specs.Answers.{Outcome, accepted}
use Rattle.frames.specs.Ranges.{checked}
use Rattle.dose_spec.specs.declared.Stand.{Stand}
use Rattle.dose_spec.specs.Dose.{NotAbove, NotBelow}
use Rattle.dose_spec.specs.Enclosure.{most_dose}
use Rattle.account_spec.specs.declared.Season.{Season}
use Rattle.account_spec.specs.declared.Sums.{Sums}
use Rattle.account_spec.specs.declared.Carried.{Carried}
use Rattle.account_spec.specs.Limits.{is_measured}
use Rattle.account_spec.specs.Hours.{stand_in, ceiling_in, sums_of, pod_of}
use Rattle.account_spec.specs.Book.{counted_of, excess_over}

-- row 10 lets each hour pass
abbrev pub AllChecked : List Hour → Type 0
AllChecked [] = Unit
AllChecked (h ∷ hs) = (checked (Record.Hour h) ≡ accepted tt) × AllChecked hs

-- none brings more than so many nmol m⁻² by its kind
abbrev pub AllMost : ℕ → ℕ → List Hour → Type 0
AllMost g_max each [] = Unit
AllMost g_max each (h ∷ hs) = (most_dose g_max h.air ≤ each) × AllMost g_max each hs

-- and the season has a tree
abbrev pub HasDose : Season → Hour → Type 0
HasDose season h =
    (stand : Stand) × (stand_in season ≡ accepted stand) × (checked (Record.Hour h) ≡ accepted tt)

abbrev pub AllDosed : Season → List Hour → Type 0
AllDosed season [] = Unit
AllDosed season (h ∷ hs) = HasDose season h × AllDosed season hs

-- ozone is read in every hour
abbrev pub AllRead : List Hour → Type 0
AllRead [] = Unit
AllRead (h ∷ hs) = (is_missing h.ozone ≡ false) × AllRead hs

-- nmol m⁻² between the two numbers of a season's hour with ozone at most, whatever the kind of its
-- frame: 2 for the six trees, 6 for a measured one; row 13 allows more
abbrev pub gap_hour : Season → ℕ
gap_hour season = if is_measured season then 6 else 2

-- lower is not above the exact dose and upper not below it; AOT40 lies between the other two; POD_k
-- never falls as k grows
pub record Encloses (sums : Sums) (pod : ℕ → Frac) (aot40 : ℕ) : Type 0 where
  pub low : NotAbove sums.lower pod
  pub high : NotBelow sums.upper pod
  pub least : sums.least ≤ aot40
  pub most : aot40 ≤ sums.most
  pub grows : (k l : ℕ) → k ≤ l → pod k ≼ pod l

-- how far apart the two numbers are and how large, by the counted hours: how far apart those of one
-- with ozone are at most, and the most that one brings
pub record SumsSized (apart each : ℕ) (sums : Sums) : Type 0 where
  pub missing : sums.missing ≤ sums.counted
  pub order : sums.lower ≤ sums.upper
  pub gap : sums.upper ≤ sums.lower + (apart * (sums.counted - sums.missing) + each * sums.missing)
  pub most : sums.upper ≤ each * sums.counted

-- hours in a row, from what those before them left
pub record HoursEnclosed (apart each : ℕ) (stand : Outcome Stand) (c : Carried)
    (hs : List Hour) : Type 0 where
  pub filled :
      (fs : List Hour) → AllFill (ceiling_in stand) hs fs →
      Encloses (sums_of stand c hs) (pod_of stand c fs) (excess_over (counted_of fs))
  pub sized : SumsSized apart each (sums_of stand c hs)
  -- the lower figures are those with each missing ozone read as 0, the upper ones those with each
  -- read as the ceiling
  pub lower : (sums_of stand c hs).lower ≡ (sums_of stand c (all_read_as 0 hs)).lower
  pub upper :
      (sums_of stand c hs).upper ≡ (sums_of stand c (all_read_as (ceiling_in stand) hs)).upper
  pub least : (sums_of stand c hs).least ≡ excess_over (counted_of (all_read_as 0 hs))
  pub most :
      (sums_of stand c hs).most ≡ excess_over (counted_of (all_read_as (ceiling_in stand) hs))
