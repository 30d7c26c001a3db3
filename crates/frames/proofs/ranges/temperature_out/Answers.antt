-- `frames::ranges::temperature_out` meets its contract.
use borrow.Author.Rules.{rules}
use Rattle.frames.specs.Temperature.{temperature_out}
use Rattle.frames.proofs.SignedLaws.{plain}
use Rattle.frames.proofs.ranges.temperature_out.Goals as goal

pub returns-then-t-ltminus500 : goal.returns-then-t-ltminus500
unfolding temperature_out
returns-then-t-ltminus500 c =
    let t = c.args.t in
    rw (plain t (search rules)) (simp (rw (plain t (search rules)) at c.if-t-ltminus500.true))

pub returns-else-t-ltminus500 : goal.returns-else-t-ltminus500
unfolding temperature_out
returns-else-t-ltminus500 c =
    let t = c.args.t in
    rw (plain t (search rules)) (simp (rw (plain t (search rules)) at c.if-t-ltminus500.false))
