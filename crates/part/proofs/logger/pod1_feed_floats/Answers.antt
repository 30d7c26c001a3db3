-- `part::logger::pod1_feed_floats` meets its contract.
use borrow.Author.Rules.{rules}
use Rattle.floats.specs.Feeding.{feed_floats_of}
use Rattle.part.specs.Floats.{floats_fed_in}
use Rattle.part.proofs.CallLaws.{onward-given, given-room}
use Rattle.floats.proofs.PromiseLaws.{float-promise}
use Rattle.part.proofs.FloatLaws.{float-bytes-promise}
use Rattle.part.proofs.logger.pod1_feed_floats.Goals as goal

pub leave-requires : goal.leave-requires
leave-requires c =
    given-room _ (λ a. feed_floats_of a c.args.day c.args.hour c.args.readings) _
    (onward-given _ (λ a. feed_floats_of a c.args.day c.args.hour c.args.readings) _ _
    (λ a k. search rules) _ c.take_up.ensures.result_value c.and_then-next.ensures)

pub returns : goal.returns
unfolding floats_fed_in
returns c = record {
  floats_bytes =
      rw (onward-given _ (λ a. feed_floats_of a c.args.day c.args.hour c.args.readings) _ _
      (λ a k. search rules) _ c.take_up.ensures.result_value c.and_then-next.ensures)
      at c.leave.ensures;
  promise = float-promise;
  bytes = float-bytes-promise;
}
