-- `account::adding::carry` meets its contract.
use mathlib.Core.Path.{◌≡◌, refl, ap, ◌∙◌}
use mathlib.Core.Bool.{true}
use native.Mathlib.Omega.{arith}
use borrow.Author.Rules.{rules}
use borrow.Author.Tests.{eq-eqb, ne_eqb}
use lib.IntN.{◌+ℤ◌}
use mir.Syntax.{w16}
use mir.Val.{to_z, of_z}
use Rattle.trees.specs.Warmth.{has_warmth}
use Rattle.account_spec.specs.Hours.{not_negative}
use Rattle.account.proofs.WarmthLaws.{sum_fits, sum_is}
use Rattle.account.proofs.adding.carry.Goals.{Start}
use Rattle.account.proofs.adding.carry.Goals as goal

pub overflow_add-total : goal.overflow_add-total
overflow_add-total c =
    sum_fits c.args.c.total c.args.h.temperature (search rules)
    (search rules) c.requires.total c.requires.temperature

pub overflow_add-result : goal.overflow_add-result
overflow_add-result c =
    record { fits = omega (arith, c.requires.sum, c.not_negative.ensures.small) }

total-is : (c : Start) →
    to_z w16
    (of_z w16 (to_z w16 (of_z w16 c.args.c.total) +ℤ to_z w16 (of_z w16 c.args.h.temperature)))
    ≡ c.args.c.total +ℤ c.args.h.temperature
total-is c =
    sum_is c.args.c.total c.args.h.temperature (search rules)
    (search rules) c.requires.total c.requires.temperature

pub returns-then-h-eq23 : goal.returns-then-h-eq23
returns-then-h-eq23 c =
    let warm : has_warmth c.args.warmth ≡ true = search rules in
    rw (
      warm,
      c.not_negative.ensures.is ∙ ap not_negative (total-is (goal.at.returns-then-h-eq23 c).Start),
      eq-eqb c.args.h.hour 23 (omega (arith, c.if-h-eq23.true)),
    )
    refl

pub returns : goal.returns
returns c =
    let warm : has_warmth c.args.warmth ≡ true = search rules in
    rw (
      warm,
      total-is (goal.at.returns c).Start,
      ne_eqb c.args.h.hour 23 (λ e. omega (arith, e, c.if-h-eq23.false)),
    )
    refl
