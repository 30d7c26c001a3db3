-- The derived `==` of two seasons is equality.
use Rattle.std.proofs.lemmas.Grind.{common_steps}
use mathlib.Core.Path.{◌≡◌}
use mathlib.Core.Bool.{true}
use native.Mathlib.Omega.{arith}
use Rattle.account_spec.specs.declared.Season.{Season}
use Rattle.account_spec.specs.contracts.SeasonPartialEq.TheImpl as seasons

pub season-same : (s : Season) → seasons.ghosts.eq s s ≡ true
season-same s = grind (arith, common_steps)

pub season-equal : (s t : Season) → seasons.ghosts.eq s t ≡ true → s ≡ t
season-equal s t e = grind (arith, common_steps)
