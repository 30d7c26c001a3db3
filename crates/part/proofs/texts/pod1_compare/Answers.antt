-- `part::texts::pod1_compare` meets its contract.
use mathlib.Core.Path.{ap, ◌∙◌}
use Rattle.stored.specs.Comparing.{compared_of}
use Rattle.part.proofs.texts.pod1_compare.Goals as goal

pub returns : goal.returns
returns c = record {
  value = c.comparison_of.ensures ∙ ap compared_of c.compare-comparison.ensures.result_value;
  promise = c.compare-comparison.ensures.promise;
}
