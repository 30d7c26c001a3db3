-- `trees::measured::figures_in` meets its contract: 7 is the measured tree, every other number is
-- left to the six. six.
use Rattle.std.specs.Prelude.{Some}
use mathlib.Core.Path.{ap, ◌∙◌}
use borrow.Author.Tests.{ne_eqb}
use Rattle.trees.specs.MeasuredFigures.{figures_in}
use Rattle.trees.proofs.MeasuredLaws.{number-row-is}
use Rattle.trees.proofs.measured.figures_in.Goals as goal

pub returns-then-tree-eq-MEASURED : goal.returns-then-tree-eq-MEASURED
unfolding figures_in
returns-then-tree-eq-MEASURED c = record {
  value = rw c.if-tree-eq-MEASURED.true (ap Some c.measured_figures.ensures.value);
  row = rw c.if-tree-eq-MEASURED.true;
}

pub returns : goal.returns
unfolding figures_in
returns c = let other = c.if-tree-eq-MEASURED.false in
    record {
      value = rw (ne_eqb _ 7 other) c.figures_of.ensures.value;
      row = c.figures_of.ensures.row ∙ number-row-is _ other;
    }
