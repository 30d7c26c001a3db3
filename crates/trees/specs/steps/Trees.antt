-- Serves the code's own steps; no reader need believe it.
use Rattle.std.specs.Prelude.{ℕ, ◌≡◌}
use Rattle.trees.specs.declared.Curve.{Curve}
use Rattle.trees.specs.declared.Source.{Source}
use Rattle.trees.specs.declared.Figures.{Figures}
use Rattle.trees.specs.Figures.{owner_of}
use Rattle.trees.specs.Temperature.{temperature_pair}

-- where the figures name a curve they have its f_temp, so that its table serves them
pub record HasTable (f : Figures) : Type 0 where
  pub pair :
      (curve : Curve) → f.source ≡ Source.Tabled curve → (x : ℕ) →
      temperature_pair f x ≡ temperature_pair (owner_of curve) x
