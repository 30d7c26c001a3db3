-- `account::feed_frame` meets its contract: row 13 comes first, and a refusal hands the account
-- back.
use Rattle.std.specs.Prelude.{Ok, Err}
use mathlib.Core.Path.{◌≡◌, sym, ap, subst, ◌∙◌}
use native.Mathlib.Omega.{arith}
use Rattle.frames.specs.Answers.{accepted}
use Rattle.frames.specs.Checked.{checked_as}
use Rattle.account_spec.specs.declared.Account.{Account}
use Rattle.account_spec.specs.Rules.{feed_frame_of, Answers}
use Rattle.account_spec.proofs.RuleLaws.{answers-impossible}
use Rattle.account.proofs.FrameLaws.{answers-next, answers-same, frame-entered, frame-refused}
use Rattle.account.proofs.feed_frame.Goals as goal

pub returns-in_default : goal.returns-in_default
returns-in_default c = answers-impossible _ _ (rw c.in_default.is at c.tested.ensures)

pub enter-requires : goal.enter-requires
enter-requires c =
    (c.args.frame, rw c.from.ensures at (sym c.decode-decoded.ensures ∙ ap checked_as c.in-Ok.is))

pub returns : goal.returns
returns c =
    let held = c.in-Some.held in
    let frame = c.args.frame in
    let same : held.account ≡ c.args.account = rw c.in-Some.is at c.tested.ensures in
    let read = rw c.from.ensures at (sym c.decode-decoded.ensures ∙ ap checked_as c.in-Ok.is) in
    subst (λ (a : Account). Answers a (feed_frame_of a frame) (Ok c.enter.result.account)) same
    (answers-next held.account _ _
    (ap accepted c.enter.ensures ∙ frame-entered held.account held.possible frame _ read))

pub returns-in_default-decoded : goal.returns-in_default-decoded
returns-in_default-decoded c =
    let held = c.in-Some.held in
    let frame = c.args.frame in
    let same : held.account ≡ c.args.account = rw c.in-Some.is at c.tested.ensures in
    let unread : c.decode-decoded.result ≡ Err c.in-Err.refusal = grind arith in
    let read = rw c.from.ensures at (sym c.decode-decoded.ensures ∙ ap checked_as unread) in
    subst (λ (a : Account). Answers a (feed_frame_of a frame) (Err (c.in-Err.refusal, a))) same
    (answers-same held.account _ _ (frame-refused held.account held.possible frame _ read))
