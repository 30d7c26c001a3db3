-- `stand::tally::first_of` meets its contract.
use Rattle.std.specs.Prelude.{◌≡◌, cond, Option, Some, None, is_none}
use Rattle.std.specs.Option.{unwrap_or}
use mathlib.Core.Path.{refl}
use Rattle.stand.specs.declared.alike.Common.{Common}
use Rattle.stand.specs.steps.ListSteps.{common_as, first_as}
use Rattle.stand.proofs.tally.first_of.Goals as goal

first-is :
    (o : Option Common) (own : Common) →
    common_as (unwrap_or o own) ≡ cond (is_none o) (common_as own) (first_as o)
first-is (Some c) own = refl
first-is None own = refl

pub returns : goal.returns
returns c = rw c.unwrap_or.ensures (first-is c.args.seen.first c.args.own)
