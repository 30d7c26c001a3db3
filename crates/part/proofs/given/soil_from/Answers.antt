-- `part::given::soil_from` meets its contract.
use borrow.Author.Tests.{eq-eqb, ne_eqb}
use Rattle.part.proofs.given.soil_from.Goals as goal

pub returns-then-water-eq0 : goal.returns-then-water-eq0
returns-then-water-eq0 c = simp (eq-eqb c.args.water 0 c.if-water-eq0.true)

pub returns-else-water-eq0 : goal.returns-else-water-eq0
returns-else-water-eq0 c = simp (ne_eqb c.args.water 0 c.if-water-eq0.false)
