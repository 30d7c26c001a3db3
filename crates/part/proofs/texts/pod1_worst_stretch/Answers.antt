-- `part::texts::pod1_worst_stretch` meets its contract.
use mathlib.Core.Path.{ap, ◌∙◌}
use Rattle.stored.specs.Stretching.{stretch_of}
use Rattle.part.proofs.texts.pod1_worst_stretch.Goals as goal

pub returns : goal.returns
returns c = record {
  tells_worst = record {
    answers =
        c.stretch_of.ensures ∙ ap stretch_of c.worst_stretch-stretch.ensures.finds_worst.answers;
    leaves = c.worst_stretch-stretch.ensures.finds_worst.leaves;
  };
  promise = c.worst_stretch-stretch.ensures.promise;
  day = c.worst_stretch-stretch.ensures.day;
}
