-- `part::trials::pod1_take` meets its contract.
use borrow.Author.Rules.{rules}
use Rattle.part.specs.Trials.{taken_from}
use Rattle.part.specs.Trials.{taken_in}
use Rattle.part.proofs.CallLaws.{onward-given, given-room}
use Rattle.part.proofs.CitedTrials.{trials-cited}
use Rattle.part.proofs.trials.pod1_take.Goals as goal

pub leave-requires : goal.leave-requires
leave-requires c =
    given-room _ (taken_from c.args.trial.now) _
    (onward-given _ (taken_from c.args.trial.now) _ _
    (λ a k. search rules) _ c.take_up.ensures.result_value c.and_then-next.ensures)

pub returns : goal.returns
unfolding taken_in
returns c = record {
  takes_bytes =
      rw (onward-given _ (taken_from c.args.trial.now) _ _
      (λ a k. search rules) _ c.take_up.ensures.result_value c.and_then-next.ensures)
      at c.leave.ensures;
  promise = trials-cited;
}
