-- f_VPD ("Factors"): straight from 1 at "max" to f_min at "min", never outside f_min to 1. The
-- deficit is a fraction of Pa, since humidity gives no whole one ("Humidity in place of VPD").
use Rattle.std.specs.Prelude.{ℕ, ◌-◌, ◌*◌}
use Rattle.trees.specs.declared.Figures.{Figures}
use Rattle.trees.specs.declared.Deficits.{Deficits}
use Rattle.trees.specs.declared.FactorPair.{FactorPair}
use Rattle.trees.specs.Sound.{Sound}
use Rattle.exact.specs.Frac.{Frac, ◌over◌, straight, Is, frac_of, ◌≼◌, ◌≺◌, Between}

-- straight from 1 to f_min, d of s steps along it; f_min past its end
unfoldable pub falling : ℕ → ℕ → ℕ → Frac
falling f_min d s = straight 100 f_min d s

-- each Pa is as many steps as the deficit's denominator says; a deficit below "max" is 0 past it
unfoldable pub deficit_of : Figures → Frac → Frac
deficit_of f vpd =
    falling f.f_min (vpd.num - f.vpd_max * vpd.den) ((f.vpd_min - f.vpd_max) * vpd.den)

abbrev pub lower_deficit : Deficits → Frac
lower_deficit vpd = vpd.lower over vpd.den

abbrev pub upper_deficit : Deficits → Frac
upper_deficit vpd = vpd.upper over vpd.den

-- f_VPD lies between two factors: the lower one is that of the upper deficit
abbrev pub lower_factor : Figures → Deficits → Frac
lower_factor f vpd = deficit_of f (upper_deficit vpd)

abbrev pub upper_factor : Figures → Deficits → Frac
upper_factor f vpd = deficit_of f (lower_deficit vpd)

pub record IsDeficitPair (f : Figures) (vpd : Deficits) (r : FactorPair) : Type 0 where
  pub lower : Is r.lower (lower_factor f vpd)
  pub upper : Is r.upper (upper_factor f vpd)
  -- every deficit between the two has its factor between these
  pub encloses :
      Sound f → (x : Frac) → Between (lower_deficit vpd) (upper_deficit vpd) x →
      Between (frac_of r.lower) (frac_of r.upper) (deficit_of f x)
  -- where the lower deficit is above the upper one, no deficit lies between them, and the factors
  -- stand the wrong way round too
  pub crossed : Sound f → upper_deficit vpd ≺ lower_deficit vpd → frac_of r.upper ≼ frac_of r.lower
