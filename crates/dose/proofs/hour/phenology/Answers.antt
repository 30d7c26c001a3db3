-- `dose::hour::phenology` meets its contract: by warmth where its frame stands, else by the day.
use Rattle.std.proofs.Common.{◌≡◌, true, false}
use Rattle.trees.specs.Warmth.{has_warmth}
use Rattle.dose_spec.proofs.PhenologyLaws.{by-warmth-is, by-day-is}
use Rattle.dose.proofs.hour.phenology.Goals as goal

pub returns-then-has_warmth : goal.returns-then-has_warmth
returns-then-has_warmth c = let a = c.args in
    let fed : has_warmth a.stand.age.warmth ≡ true =
    rw c.has_warmth.ensures at c.if-has_warmth.true in
    rw (by-warmth-is a.stand a.passed.hour fed) c.f_phen_by_warmth.ensures.is

pub returns : goal.returns
returns c = let a = c.args in
    let none : has_warmth a.stand.age.warmth ≡ false =
    rw c.has_warmth.ensures at c.if-has_warmth.false in
    rw (by-day-is a.stand a.passed.hour none) (rw c.reading-x.ensures at c.f_phen.ensures.is)
