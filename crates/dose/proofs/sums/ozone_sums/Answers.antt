-- `dose::sums::ozone_sums` meets its contract.
use mathlib.Core.Path.{refl}
use native.Mathlib.Omega.{arith}
use Rattle.dose.proofs.sums.ozone_sums.Goals as goal

pub returns-in-Some : goal.returns-in-Some
returns-in-Some c = let is = c.in-Some.is in
    record {
      least = rw is c.excess-over.ensures.is;
      most = rw is c.excess-over.ensures.is;
      missing = rw is refl;
      small = (c.excess-over.ensures.small, c.excess-over.ensures.small, omega arith);
    }

pub returns-in-None : goal.returns-in-None
returns-in-None c = let is = c.in-None.is in
    record {
      least = rw is refl;
      most = rw is c.excess.ensures.is;
      missing = rw is refl;
      small = (omega arith, c.excess.ensures.small, omega arith);
    }
