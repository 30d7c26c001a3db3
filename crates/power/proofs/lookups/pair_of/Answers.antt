-- `power::lookups::pair_of` meets its contract.
use native.Mathlib.Omega.{arith}
use Rattle.trees.proofs.TemperatureTrim.{floor-pair}
use Rattle.power.proofs.lookups.pair_of.Goals as goal

pub returns-then-t-first : goal.returns-then-t-first
returns-then-t-first g c = let t = c.entries-table.ensures in
    floor-pair t.trimmed c.args.x.in_range (λ within. omega (arith, within, c.FIRST-first.ensures))
    (rw c.figures-f_min.ensures at c.floor_of.ensures)

pub returns-then-table-t : goal.returns-then-table-t
returns-then-table-t g c = let t = c.entries-table.ensures in
    floor-pair t.trimmed c.args.x.in_range
    (λ within. omega (arith, within, t.filled, c.FIRST-first.ensures))
    (rw c.figures-f_min.ensures at c.floor_of-then-table-t.ensures)

pub returns : goal.returns
returns g c =
    c.entries-table.ensures.pairs
    (rw (c.figures-f_min.ensures, c.FIRST-first.ensures) at c.table_entry.ensures)
