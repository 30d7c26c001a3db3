-- `dose::remembered::worked` meets its contract: f_temp's numbers fit 32 bits.
use Rattle.std.proofs.Common.{◌≡◌, ℕ, ◌<◌, arith}
use Rattle.exact.specs.declared.Bounds.{Bounds}
use Rattle.trees.specs.declared.Figures.{Figures}
use Rattle.trees.specs.Sound.{Sound}
use Rattle.trees.specs.Temperature.{temperature_pair}
use Rattle.trees.proofs.TemperatureLaws.{temperature_pair-le}
use Rattle.dose.proofs.RememberedLaws.{warm-made}
use Rattle.dose.proofs.remembered.worked.Goals as goal

small :
    (f : Figures) → Sound f → (t : ℕ) (pair : Bounds) → pair ≡ temperature_pair f t →
    pair.lower < 4294967296
small f sound t pair is = rw is (omega (arith, temperature_pair-le f sound t))

pub root_in-requires : goal.root_in-requires
root_in-requires c = small _ c.args.dosing.sound _ _ c.f_temp_at-pair.ensures

pub returns : goal.returns
returns c =
    warm-made _ _ c.args.dosing.sound _ _ c.f_temp_at-pair.ensures c.root_in.ensures
    c.saturation.ensures
