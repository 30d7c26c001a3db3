-- `stored::listed::feed_all` meets its contract.
use mathlib.Core.Path.{◌≡◌}
use Rattle.stored.specs.Promise.{ListedPromise}
use Rattle.stored.proofs.FeedingLaws.{listed-size, listed-none, listed-refused, listed-accepted}
use Rattle.stored.proofs.RunLaws.{listed-promise}
use borrow.Author.Rules.{rules}
use Rattle.std.specs.Prelude.{Err}
use Rattle.stored.proofs.listed.feed_all.Goals as goal

-- beside what a call answers, what holds of every list of calls
promised : {F : Type 0} → F → record { feeds_listed : F; promise : ListedPromise }
promised fed = record { feeds_listed = fed; promise = listed-promise }

pub returns-then-count : goal.returns-then-count
returns-then-count c = promised (listed-size _ _ c.if-count.true)

pub returns-in_err-take_up_all : goal.returns-in_err-take_up_all
returns-in_err-take_up_all c =
    let e : c.from_residual.result ≡ Err c.in_err-take_up_all.field-0.0 = search rules in
    promised (rw e (listed-none _ _ c.if-count.false _ c.in_err-take_up_all.ensures))

pub returns-in_err-feed_all : goal.returns-in_err-feed_all
returns-in_err-feed_all c =
    let e : c.from_residual-in_err-feed_all.result ≡ Err c.in_err-feed_all.field-0.0 =
    search rules in
    promised (rw e
    (listed-refused _ _ c.if-count.false _ _ c.in_ok-take_up_all.ensures _ c.feed_all.ensures.0 _
    c.in_err-feed_all.was))

pub returns : goal.returns
returns c =
    promised (listed-accepted _ _ c.if-count.false _ _ c.in_ok-take_up_all.ensures _
    c.feed_all.ensures.0 _ c.in_ok-feed_all.was c.store_all.ensures)
