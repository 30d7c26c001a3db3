-- `part::pod1_feed` meets its contract.
use borrow.Author.Rules.{rules}
use Rattle.account_spec.specs.Rules.{feed_of}
use Rattle.part.specs.Calls.{fed_in}
use Rattle.part.proofs.CallLaws.{onward-given, given-room}
use Rattle.part.proofs.pod1_feed.Goals as goal

pub leave-requires : goal.leave-requires
leave-requires c =
    given-room _ (λ a. feed_of a c.args.line.now) _
    (onward-given _ (λ a. feed_of a c.args.line.now) _ _
    (λ a k. search rules) _ c.take_up.ensures.result_value c.and_then-next.ensures)

pub returns : goal.returns
unfolding fed_in
returns c =
    rw (onward-given _ (λ a. feed_of a c.args.line.now) _ _
    (λ a k. search rules) _ c.take_up.ensures.result_value c.and_then-next.ensures)
    at c.leave.ensures
