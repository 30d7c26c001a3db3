-- Row 13, its conditions in the order of the code: the sums first.
use mathlib.Core.Path.{◌≡◌}
use native.Mathlib.Omega.{arith}
use mathlib.Core.Bool.{Bool, not, ◌&&◌, ◌||◌}
use lib.Dec.{ltb}
use Rattle.frames.specs.Period.{period_hours, all_given}
use Rattle.account_spec.specs.declared.Account.{Account}
use Rattle.account_spec.specs.HourKinds.{kind_out}
use Rattle.account_spec.specs.Account.{is_fresh, is_closed, is_begun, is_broken, unmeasured_in}
use Rattle.account_spec.specs.Account.{warmth_alone, carried_out, is_blank, any_of, sums_out}
use Rattle.account_spec.specs.Account.{impossible}

sums-first :
    (b p s k u w c x y : Bool) →
    (s || k || u || w || c || (p || b || x || y)) ≡ (b || p || s || k || u || w || c || x || y)
sums-first b p s k u w c x y = grind arith

pub impossible_is : (a : Account) →
    (any_of (sums_out a.season a.sums)
    || kind_out a.kind a.sums.hours
    || unmeasured_in a.season a.kind a.sums.hours
    || warmth_alone a.season
    || carried_out a.season a.sums.hours a.carried
    || (ltb (period_hours a.season.header) a.sums.hours
    || (is_begun a.phase && is_broken a.season)
    || is_fresh a.phase && not (is_blank a)
    || is_closed a.phase && not (all_given a.season.header a.sums.hours)))
    ≡ impossible a
unfolding impossible
impossible_is a =
    sums-first (is_begun a.phase && is_broken a.season)
    (ltb (period_hours a.season.header) a.sums.hours) (any_of (sums_out a.season a.sums))
    (kind_out a.kind a.sums.hours) (unmeasured_in a.season a.kind a.sums.hours)
    (warmth_alone a.season)
    (carried_out a.season a.sums.hours a.carried) (is_fresh a.phase && not (is_blank a))
    (is_closed a.phase && not (all_given a.season.header a.sums.hours))
