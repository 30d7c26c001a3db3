-- f_phen, by the day or by warmth, for any sound figures and any leaf age: which of the two it is,
-- from 0 to 1, with a denominator of at most 2·10⁹.
use Prim.Native.Nat.{◌*◌, ◌^◌, ◌≤◌, ◌<◌}
use mathlib.Core.Path.{◌≡◌}
use mathlib.Core.Bool.{true, false}
use native.Mathlib.Omega.{arith}
use Rattle.exact.specs.Frac.{natural, Between}
use Rattle.trees.specs.declared.Warmth.{Warmth}
use Rattle.trees.specs.Phenology.{phenology_of, by_warmth}
use Rattle.trees.specs.Sound.{Sound}
use Rattle.trees.proofs.FactorLaws.{phenology-limits, warmth-limits}
use Rattle.trees.proofs.TermLaws.{phenology-small, warmth-den}
use Rattle.trees.specs.Warmth.{has_warmth}
use Rattle.frames.specs.declared.records.Hour.{Hour}
use Rattle.dose_spec.specs.declared.Stand.{Stand}
use Rattle.dose_spec.specs.Conductance.{above_of, phenology_in}

module _ (stand : Stand) (h : Hour) where
  abbrev warmth : Warmth
  warmth = stand.age.warmth

  pub by-warmth-is :
      has_warmth warmth ≡ true → phenology_in stand h ≡ by_warmth stand.figures warmth stand.age.sum
  unfolding phenology_in
  by-warmth-is e = rw e

  pub by-day-is :
      has_warmth warmth ≡ false →
      phenology_in stand h
      ≡ phenology_of stand.figures stand.first stand.last h.day (above_of h.temperature)
  unfolding phenology_in
  by-day-is e = rw e

-- ---- its limits and its denominator, by either

module _ (stand : Stand) (s : Sound stand.figures) (h : Hour) where
  pub phenology_in-limits : Between (natural 0) (natural 1) (phenology_in stand h)
  phenology_in-limits = grind (arith, by-warmth-is, warmth-limits, by-day-is, phenology-limits)

  module _ (rise : stand.age.warmth.rise < 65536) (fall : stand.age.warmth.fall < 65536) where
    pub phenology_in-den : (phenology_in stand h).den ≤ 2 * 10 ^ 9
    phenology_in-den = grind (arith, by-warmth-is, warmth-den, by-day-is, phenology-small)
