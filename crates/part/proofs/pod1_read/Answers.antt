-- `part::pod1_read` meets its contract.
use borrow.Author.Rules.{rules}
use mathlib.Core.Path.{ap, ◌∙◌}
use Rattle.account_spec.specs.Reading.{read_of}
use Rattle.stored.specs.Reading.{readout_of}
use Rattle.part.specs.Calls.{read_in}
use Rattle.part.proofs.CallLaws.{onward-given}
use Rattle.part.proofs.pod1_read.Goals as goal

pub returns : goal.returns
unfolding read_in
returns c =
    c.of_reading.ensures
    ∙ ap readout_of
    (onward-given _ read_of _ _
    (λ a k. search rules) _ c.take_up.ensures.result_value c.and_then.ensures)
