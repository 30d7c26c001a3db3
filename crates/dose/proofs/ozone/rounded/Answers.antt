-- `dose::ozone::rounded` meets its contract.
use Rattle.std.specs.Prelude.{min}
use Rattle.std.proofs.Common.{◌≡◌, ℕ, zero, suc, ◌+◌, ◌/◌, ◌%◌, ◌<◌, sym, refl, ◌∙◌, arith}
use Rattle.std.proofs.Common.{div-add-mod'}
use Rattle.exact.specs.Frac.{◌over◌}
use Rattle.exact.specs.Rounding.{round_up}
use Rattle.dose.proofs.NumberLaws.{over-down, over-rest, over-whole}
use Rattle.dose.proofs.ozone.rounded.Goals as goal

up-is : (n d r : ℕ) → 0 < d → n % d ≡ r → n / d + min 1 r ≡ round_up (n over d)
up-is n d zero h e = omega (arith, over-whole n d h (omega (arith, e, div-add-mod' n d)))
up-is n d (suc r) h e = omega (arith, over-rest n d h (omega (arith, e, div-add-mod' n d)))

pub returns-clause-lower : goal.returns-clause-lower
returns-clause-lower c = sym (over-down c.args.n c.args.d c.requires)

pub returns-clause-upper : goal.returns-clause-upper
returns-clause-upper c = c.div_ceil.ensures ∙ up-is c.args.n c.args.d _ c.requires refl
