-- The running day's total and an hour's temperature, as the machine adds them.
use mathlib.Core.Path.{◌≡◌, ◌∙◌}
use mathlib.Core.Bool.{false}
use native.Mathlib.Omega.{arith}
use Rattle.std.proofs.lemmas.Bool.Decides.{nat_tests}
use lib.IntN.{ℤ, ◌+ℤ◌}
use mir.Syntax.{w16}
use mir.Val.{SFits, to_z, of_z}
use Rattle.frames.specs.Temperature.{temperature_out}
use Rattle.frames.proofs.SignedLaws.{plain}
use Rattle.account_spec.specs.Account.{total_out}
use Rattle.account_spec.proofs.CarriedLaws.{total-step}

total-fits : (z : ℤ) → total_out 25 z ≡ false → SFits w16 z
total-fits z e = grind (arith, nat_tests)

module _ (z t : ℤ) (f : SFits w16 z) (g : SFits w16 t) (within : total_out 24 z ≡ false)
    (hot : temperature_out t ≡ false) where
  sum : to_z w16 (of_z w16 z) +ℤ to_z w16 (of_z w16 t) ≡ z +ℤ t
  sum = rw (plain z f, plain t g)

  pub sum_fits : SFits w16 (to_z w16 (of_z w16 z) +ℤ to_z w16 (of_z w16 t))
  sum_fits = rw sum (total-fits (z +ℤ t) (total-step 24 z t within hot))

  pub sum_is : to_z w16 (of_z w16 (to_z w16 (of_z w16 z) +ℤ to_z w16 (of_z w16 t))) ≡ z +ℤ t
  sum_is = plain (to_z w16 (of_z w16 z) +ℤ to_z w16 (of_z w16 t)) sum_fits ∙ sum
