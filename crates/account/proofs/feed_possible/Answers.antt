-- `account::feed_possible` meets its contract: the frame is read, and its record entered.
use Rattle.std.proofs.lemmas.Result.{err_from_is_err_and}
use mathlib.Core.Path.{sym, ap, ◌∙◌}
use Rattle.frames.specs.Answers.{accepted}
use Rattle.frames.specs.Checked.{checked_as}
use Rattle.account.proofs.FrameLaws.{frame-entered, frame-refused}
use Rattle.account.proofs.feed_possible.Goals as goal

pub enter-requires : goal.enter-requires
enter-requires c =
    (c.args.frame, rw c.from.ensures at (sym c.decode.ensures ∙ ap checked_as c.in_ok-read.was))

pub returns-in_err-read : goal.returns-in_err-read
returns-in_err-read c =
    let held = c.args.held in
    let out = err_from_is_err_and c.from_residual.result c.from_residual.ensures.1 in
    let read = rw c.from.ensures at (sym c.decode.ensures ∙ ap checked_as c.in_err-read.was) in
    rw (out.1, out.2) (frame-refused held.account held.possible c.args.frame _ read)

pub returns : goal.returns
returns c =
    let held = c.args.held in
    let read = rw c.from.ensures at (sym c.decode.ensures ∙ ap checked_as c.in_ok-read.was) in
    ap accepted c.enter.ensures ∙ frame-entered held.account held.possible c.args.frame _ read
