-- The greatest t with t^q·rise^q·fall^p at most 10^(9q)·above^q·below^p: 0 is not too much.
use Rattle.std.proofs.Common.{◌<◌, ◌*◌, ◌^◌, ◌≤◌, zero-le, zero-mul}
use Rattle.exact.proofs.PowerLaws.{zero-pow}
use Rattle.power.specs.declared.terms.Terms.{Terms}
use Rattle.power.specs.steps.Power.{left, right}

pub zero-under : (s : Terms) → 0 < s.q → left s 0 ≤ right s
unfolding left
zero-under s h = rw (zero-pow s.q h, zero-mul (s.rise ^ s.q * s.fall ^ s.p)) zero-le

pub one-over : (s : Terms) → right s < left s 1000000001
unfolding left right
one-over s = s.asked.most
